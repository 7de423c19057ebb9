-- How many holds are out, mode by mode, and when a raw state admits one more.
use Rattle.std.specs.Prelude.{◌≡◌, ℕ, Bool, ◌+◌, ◌-◌, ◌<◌, ◌≤◌, ◌==◌, ◌&&◌, nat_lt, List, count_by}
use Rattle.lock_api_desk.specs.declared.mode.Mode.{Mode}
use Rattle.lock_api_desk.specs.declared.mode.Mode.TheVariants.{Shared, Exclusive, Upgradable}
use Rattle.lock_api_desk.specs.Guards.{Guard, holds}

-- the holds that are out
pub record Out : Type 0 where
  pub shared : ℕ
  pub exclusive : ℕ
  pub upgradable : ℕ

abbrev pub out_with : ℕ → ℕ → ℕ → Out
out_with shared exclusive upgradable = record { shared = shared; exclusive = exclusive; upgradable = upgradable }

abbrev pub nothing_out : Out
nothing_out = out_with 0 0 0

-- the holds that count against the limit of readers
abbrev pub readers_out : Out → ℕ
readers_out out = out.shared + out.upgradable

-- one more hold of the mode is admitted
abbrev pub admits : ℕ → Mode → Out → Bool
admits limit Shared out = out.exclusive == 0 && nat_lt (readers_out out) limit
admits limit Exclusive out = out.exclusive == 0 && readers_out out == 0
admits limit Upgradable out = (out.exclusive + out.upgradable) == 0 && nat_lt (readers_out out) limit

-- how many holds of the mode are out
abbrev pub count_in : Mode → Out → ℕ
count_in Shared out = out.shared
count_in Exclusive out = out.exclusive
count_in Upgradable out = out.upgradable

-- with one more hold of the mode
abbrev pub one_more : Mode → Out → Out
one_more Shared out = record { shared = out.shared + 1; exclusive = out.exclusive; upgradable = out.upgradable }
one_more Exclusive out = record { shared = out.shared; exclusive = out.exclusive + 1; upgradable = out.upgradable }
one_more Upgradable out = record { shared = out.shared; exclusive = out.exclusive; upgradable = out.upgradable + 1 }

-- with one hold of the mode less
abbrev pub one_less : Mode → Out → Out
one_less Shared out = record { shared = out.shared - 1; exclusive = out.exclusive; upgradable = out.upgradable }
one_less Exclusive out = record { shared = out.shared; exclusive = out.exclusive - 1; upgradable = out.upgradable }
one_less Upgradable out = record { shared = out.shared; exclusive = out.exclusive; upgradable = out.upgradable - 1 }

-- an exclusive hold is alone, at most one is upgradable, and readers are within the limit, which is at least 1
pub record IsOrderly (limit : ℕ) (out : Out) : Type 0 where
  pub one_exclusive : out.exclusive ≤ 1
  pub one_upgradable : out.upgradable ≤ 1
  pub alone : 0 < out.exclusive → readers_out out ≡ 0
  pub within : readers_out out ≤ limit
  pub some : 1 ≤ limit

-- the holds of a list of guards
abbrev pub out_of : List Guard → Out
out_of guards = record {
  shared = count_by (holds Shared) guards;
  exclusive = count_by (holds Exclusive) guards;
  upgradable = count_by (holds Upgradable) guards;
}

-- what a raw state is to its callers: its limit of readers and what is out
pub record Counts : Type 0 where
  pub limit : ℕ
  pub out : Out
