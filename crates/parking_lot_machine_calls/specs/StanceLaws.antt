-- How a call's acts move it between sections and lists.
use Rattle.std.specs.Prelude.{◌≡◌, ℕ, ◌+◌, ◌-◌, ◌<◌, ◌≤◌, ◌^◌, ◌⊎◌, Bool, false, Some, None}
use Rattle.parking_lot_core_model.specs.declared.parking.ParkToken.{ParkToken}
use Rattle.parking_lot_core_model.specs.declared.parking.UnparkToken.{UnparkToken}
use Rattle.parking_lot_protocol.specs.Acts.{Gives}
use Rattle.parking_lot_protocol.specs.declared.act.Act.{Act}
use Rattle.parking_lot_protocol.specs.declared.act.Act.TheVariants as act
use Rattle.parking_lot_protocol.specs.declared.act.SectionAct.TheVariants as section
use Rattle.parking_lot_protocol.specs.declared.act.ActResult.{ActResult}
use Rattle.parking_lot_protocol.specs.declared.act.ActResult.TheVariants as seen
use Rattle.parking_lot_protocol.specs.declared.rw_phase.RwPhase.{RwPhase}
use Rattle.parking_lot_protocol.specs.declared.rw_phase.RwPhase.TheVariants as r
use Rattle.parking_lot_protocol_rw.specs.declared.upgrade_phase.UpgradePhase.{UpgradePhase}
use Rattle.parking_lot_protocol_rw.specs.declared.upgrade_phase.UpgradePhase.TheVariants as u
use Rattle.parking_lot_machine_calls.specs.declared.seat.Core.{Core}
use Rattle.parking_lot_machine_calls.specs.declared.seat.Core.TheVariants as core
use Rattle.parking_lot_machine_calls.specs.Stances.{Looks, TurnsBack, Joins, Joined, Takes, Stores, Tells, Stance, Out}
use Rattle.parking_lot_machine_calls.specs.Stances.{In, Asleep, sign, stance, taken_count, core_act, core_next}
use Rattle.parking_lot_machine_calls.specs.Stances.{core_tells}

-- an act beside sections and lists
abbrev pub StaysOut : Stance → Stance → ℕ → ℕ → Type 0
StaysOut a b n m = (a ≡ Out) × (b ≡ Out) × (m ≡ n)

-- it leaves: it turned back, it joined, or it has told what it stored
abbrev pub LeavesFor : Stance → Stance → ℕ → ℕ → Type 0
LeavesFor a b n m =
    ((k : ℕ) × (a ≡ In k TurnsBack) × (b ≡ Out) × (n ≡ 0) × (m ≡ 0))
    ⊎ (((k : ℕ) × (token : ParkToken) × (a ≡ In k (Joined token)) × (b ≡ Asleep k token) × (n ≡ 0) × (m ≡ 0))
    ⊎ ((k : ℕ) × (said : UnparkToken) × (a ≡ In k (Tells said)) × (b ≡ Out) × (m ≡ n)))

-- a taking that took nobody
abbrev pub TookFor : ActResult → ℕ → Stance → ℕ → ℕ → Type 0
TookFor (seen.Took None left) k b n m = (b ≡ In k Stores) × (m ≡ n)
TookFor s k b n m = Unit {0}

-- From stance a and n taken an act leads to stance b and m taken, and the call then tells that token.
abbrev pub Leads : Act → ActResult → Stance → Stance → ℕ → ℕ → UnparkToken → Type 0
Leads act.Load s a b n m tells = StaysOut a b n m
Leads (act.Exchange from to) s a b n m tells = StaysOut a b n m
Leads (act.Add by) s a b n m tells = StaysOut a b n m
Leads (act.FetchAnd keep) s a b n m tells = (k : ℕ) × (a ≡ In k Stores) × (b ≡ In k (Tells (sign false))) × (m ≡ n)
Leads act.Spin s a b n m tells = StaysOut a b n m
Leads (act.Enter k) s a b n m tells = (a ≡ Out) × ((b ≡ In k Looks) ⊎ (b ≡ In k Takes)) × (m ≡ n)
Leads (act.Section section.Check) s a b n m tells =
    (k : ℕ) × (a ≡ In k Looks) × ((b ≡ In k TurnsBack) ⊎ ((token : ParkToken) × (b ≡ In k (Joins token)))) × (n ≡ 0)
    × (m ≡ 0)
Leads (act.Section section.TakeFirst) s a b n m tells = (k : ℕ) × (a ≡ In k Takes) × TookFor s k b n m
Leads (act.Section (section.TakeNext sum)) s a b n m tells = (k : ℕ) × (a ≡ In k Takes) × TookFor s k b n m
Leads (act.Section (section.Append token)) s a b n m tells = (k : ℕ) × (k < 2) × (a ≡ In k (Joins token))
    × (b ≡ In k (Joined token)) × (n ≡ 0) × (m ≡ 0)
Leads (act.Section (section.Store plain fair)) s a b n m tells = (k : ℕ) × (a ≡ In k Stores) × (b ≡ In k (Tells tells))
    × (m ≡ n)
Leads (act.Section section.Leave) s a b n m tells = LeavesFor a b n m
Leads (act.Section section.Wake) s a b n m tells = (a ≡ Out) × (b ≡ Out) × (m ≡ n - 1)
Leads act.Sleep s a b n m tells = (k : ℕ) (token : ParkToken) → a ≡ Asleep k token → (b ≡ Out) × (n ≡ 0) × (m ≡ 0)
Leads (act.Done answer) s a b n m tells = ⊥

abbrev pub LeadsCore : Act → ActResult → Core → Core → Type 0
LeadsCore act s c d = Leads act s (stance c) (stance d) (taken_count c) (taken_count d) (core_tells d)

-- what an act gives leads so
abbrev pub ActsLead : Type 0
ActsLead = (c : Core) (word : ℕ) (s : ActResult) → Gives (core_act c) word s
    → LeadsCore (core_act c) s c (core_next c s)

-- a scan can count one more with that token
abbrev pub rw_counts : RwPhase → ParkToken → Type 0
rw_counts (r.Scans s) token = ((token.0 ≡ 16) × (s.shared < 2 ^ 32 - 1))
    ⊎ (((token.0 ≡ 8) × (s.writer ≡ false)) ⊎ ((token.0 ≡ 20) × (s.upgradable ≡ false)))
rw_counts phase token = Unit {0}

abbrev pub upgrade_counts : UpgradePhase → ParkToken → Type 0
upgrade_counts (u.Plain core) token = rw_counts core.phase token
upgrade_counts (u.Seeks core) token = rw_counts core.phase token
upgrade_counts (u.Drains core) token = rw_counts core.phase token
upgrade_counts (u.Frees release core) token = rw_counts core.phase token
upgrade_counts (u.Owes kept answer core) token = rw_counts core.phase token
upgrade_counts phase token = Unit {0}

abbrev pub Counts : Core → ParkToken → Type 0
Counts (core.Mutex c) token = Unit {0}
Counts (core.Rw c) token = rw_counts c.phase token
Counts (core.Late p) token = Unit {0}
Counts (core.LateRw p) token = Unit {0}
Counts (core.Upgrade c) token = upgrade_counts c.phase token

-- a taking that took somebody
abbrev pub TakesOne : Stance → Stance → ℕ → ℕ → Type 0
TakesOne a b n m = (k : ℕ) × (k < 2) × (a ≡ In k Takes) × ((b ≡ In k Takes) ⊎ (b ≡ In k Stores)) × (m ≡ n + 1)

abbrev pub TakingsCount : Type 0
TakingsCount =
    (c : Core) (word : ℕ) (token : ParkToken) (left : Bool) → let s = seen.Took (Some token) left in
    Gives (core_act c) word s → Counts c token → TakesOne (stance c) (stance (core_next c s)) (taken_count c)
    (taken_count (core_next c s))

-- a call that begins, and one that is over, stands outside and has taken nobody
abbrev pub CallsBegin : Type 0
CallsBegin = (c : Core) → (stance (core_next c seen.Start) ≡ Out) × (taken_count (core_next c seen.Start) ≡ 0)

-- what is true of one that is at its end
abbrev pub IsOver : Act → Stance → ℕ → Type 0
IsOver (act.Done answer) a n = (a ≡ Out) × (n ≡ 0)
IsOver act a n = Unit {0}

abbrev pub CallsEnd : Type 0
CallsEnd = (c : Core) → IsOver (core_act c) (stance c) (taken_count c)

-- a sleeper has taken nobody, and stands outside once it is told
abbrev pub SleepersWake : Type 0
SleepersWake =
    (c : Core) (k : ℕ) (token : ParkToken) (said : UnparkToken) → stance c ≡ Asleep k token
    → (taken_count c ≡ 0) × (stance (core_next c (seen.Woken said)) ≡ Out)
    × (taken_count (core_next c (seen.Woken said)) ≡ 0)

-- one that is to wake somebody has taken somebody
abbrev pub WakersCount : Type 0
WakersCount = (c : Core) (s : ActResult) → core_act (core_next c s) ≡ act.Section section.Wake
    → 1 ≤ taken_count (core_next c s)

-- a lock has two keys
abbrev pub HasSmallKey : Stance → Type 0
HasSmallKey Out = Unit {0}
HasSmallKey (In k how) = k < 2
HasSmallKey (Asleep k token) = k < 2

abbrev pub KeysAreTwo : Type 0
KeysAreTwo = (c : Core) → HasSmallKey (stance c)
