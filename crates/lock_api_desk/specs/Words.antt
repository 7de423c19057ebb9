-- Words of a lock: 8 for exclusive, 4 for upgradable, 16 for each reader, the upgradable one counted.
use Rattle.std.specs.Prelude.{◌≡◌, ℕ, ◌+◌, ◌-◌, ◌*◌, ◌/◌, ◌%◌, ◌^◌, ◌<◌, ◌≤◌, ◌==◌, ◌&&◌, nat_lt, min, Option, Some}
use Rattle.std.specs.Prelude.{None, if◌then◌else◌}
use Rattle.lock_api_desk.specs.Out.{Out, IsOrderly}

-- the word of what is out
abbrev pub word_of : Out → ℕ
word_of out = 8 * out.exclusive + 4 * out.upgradable + 16 * (out.shared + out.upgradable)

-- the parts of a word
abbrev pub exclusive_in : ℕ → ℕ
exclusive_in word = word / 8 % 2

abbrev pub upgradable_in : ℕ → ℕ
upgradable_in word = word / 4 % 2

abbrev pub readers_in : ℕ → ℕ
readers_in word = word / 16

-- what is out by a word
abbrev pub out_in : ℕ → Out
out_in word = record {
  shared = readers_in word - upgradable_in word;
  exclusive = exclusive_in word;
  upgradable = upgradable_in word;
}

-- a word of a limit: it has no other bits, the upgradable hold is counted, and what is out goes together
pub record IsPacked (limit word : ℕ) : Type 0 where
  pub exact : word % 4 ≡ 0
  pub counted : upgradable_in word ≤ readers_in word
  pub orderly : IsOrderly limit (out_in word)
  pub limit_fits : limit ≤ 2 ^ 60 - 1

-- one more reader
abbrev pub word_with_shared : ℕ → ℕ → Option ℕ
word_with_shared limit word =
    if exclusive_in word == 0 && nat_lt (readers_in word) (min limit (2 ^ 60 - 1)) then Some (word + 16) else None

-- the exclusive hold, and nothing else
abbrev pub word_with_exclusive : ℕ → Option ℕ
word_with_exclusive word = if word == 0 then Some 8 else None

-- the upgradable hold and its reader
abbrev pub word_with_upgradable : ℕ → ℕ → Option ℕ
word_with_upgradable limit word =
    if (exclusive_in word == 0 && upgradable_in word == 0) && nat_lt (readers_in word) (min limit (2 ^ 60 - 1)) then
    Some (word + 20)
    else None

-- the exclusive hold where the upgradable one was all
abbrev pub word_with_upgrade : ℕ → Option ℕ
word_with_upgrade word = if word == 20 then Some 8 else None

-- a shared reader is in the word
abbrev pub HasShared : ℕ → Type 0
HasShared word = upgradable_in word < readers_in word

-- the exclusive hold is in the word, alone
abbrev pub HasExclusive : ℕ → Type 0
HasExclusive word = (8 ≤ word) × (word < 16)

-- the upgradable hold is in the word with its reader
abbrev pub HasUpgradable : ℕ → Type 0
HasUpgradable word = (upgradable_in word ≡ 1) × (1 ≤ readers_in word)
