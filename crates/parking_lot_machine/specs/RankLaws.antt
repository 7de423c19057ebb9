-- Each act of a call lowers the steps that are left of it.
use Rattle.std.specs.Prelude.{◌≡◌, ℕ, zero, suc, ◌+◌, ◌-◌, ◌/◌, ◌^◌, ◌<◌, ◌≤◌, Bool, true, false, Some}
use Rattle.parking_lot_core_model.specs.declared.parking.UnparkToken.{UnparkToken}
use Rattle.parking_lot_protocol.specs.declared.act.Act.{Act}
use Rattle.parking_lot_protocol.specs.declared.act.Act.TheVariants as act
use Rattle.parking_lot_protocol.specs.declared.act.SectionAct.TheVariants as section
use Rattle.parking_lot_protocol.specs.declared.act.CoreAnswer.{CoreAnswer}
use Rattle.parking_lot_protocol.specs.declared.act.ActResult.{ActResult}
use Rattle.parking_lot_protocol.specs.declared.act.ActResult.TheVariants as seen
use Rattle.parking_lot_protocol.specs.declared.mutex_phase.MutexPhase.{MutexPhase}
use Rattle.parking_lot_protocol.specs.declared.rw_phase.RwPhase.{RwPhase}
use Rattle.parking_lot_protocol.specs.Acts.{Gives, word_after}
use Rattle.parking_lot_protocol.specs.MutexTable as of_mutex
use Rattle.parking_lot_protocol.specs.RwTable as of_rw
use Rattle.parking_lot_protocol.specs.RwRules.{IsReady}
use Rattle.parking_lot_machine_calls.specs.Stances.{Stance, In, mutex_stance, rw_stance, rw_taken}
use Rattle.parking_lot_machine.specs.Ranks.{View, Unseen, Sees, Shut, wake, mutex_steps, rw_steps}

-- whether it is shut out of the sections of the lock's k-th key
abbrev pub shut_at : ℕ → Shut → Bool
shut_at zero shut = shut.first
shut_at (suc k) shut = shut.second

-- nobody else is in the bucket where it is in a section
abbrev pub IsFree : Stance → Shut → Type 0
IsFree (In k how) shut = shut_at k shut ≡ false
IsFree other shut = Unit {0}

-- A thread with that stance can make the act: it doesn't sleep, spins a round, and isn't shut out of a section that it
-- enters or is in.
abbrev pub Can : Stance → Act → Shut → ActResult → Type 0
Can at act.Sleep shut s = ⊥
Can at act.Spin shut s = s ≡ seen.Spun true
Can at (act.Enter key) shut s = shut_at key shut ≡ false
Can at (act.Section section.Wake) shut s = ⊥
Can at (act.Section act) shut s = IsFree at shut
Can at act shut s = Unit {0}

-- what an act leaves of the first list, for those that still count it
abbrev pub Leaves : Act → ActResult → ℕ → ℕ → Type 0
Leaves (act.Section (section.TakeNext sum)) (seen.Took (Some token) left) first after = first ≡ after + 1
Leaves (act.Section act) s first after = Unit {0}
Leaves act s first after = after ≡ first

-- a call stops where it sleeps, or is shut out of a section
abbrev pub StopsAt : Act → Shut → Type 0
StopsAt act.Sleep shut = Unit {0}
StopsAt (act.Enter key) shut = shut_at key shut ≡ true
StopsAt act shut = ⊥

pub record MutexStepsFall : Type 0 where
  pub falls : (p : MutexPhase) (s : ActResult) (word first after : ℕ) (shut : Shut) → word < 4
      → Gives (of_mutex.act_of p) word s → Can (mutex_stance p) (of_mutex.act_of p) shut s
      → mutex_steps (Sees (word_after (of_mutex.act_of p) s word) after shut) (of_mutex.next_phase p s) + 1 ≤
      mutex_steps (Sees word first shut) p
  pub wakes : (p : MutexPhase) (v : View) → of_mutex.act_of p ≡ act.Section section.Wake
      → mutex_steps v (of_mutex.next_phase p seen.Made) + wake ≤ mutex_steps v p
  pub woken : (p : MutexPhase) (token : UnparkToken) → mutex_steps Unseen (of_mutex.next_phase p (seen.Woken token)) + 1
      ≤ mutex_steps Unseen p + wake
  pub few : (p : MutexPhase) (v : View) → mutex_steps v p ≤ mutex_steps Unseen p
  pub stops : (p : MutexPhase) (word first : ℕ) (shut : Shut) → StopsAt (of_mutex.act_of p) shut
      → mutex_steps Unseen p ≤ mutex_steps (Sees word first shut) p
  pub ends : (p : MutexPhase) (v : View) (answer : CoreAnswer) → of_mutex.act_of p ≡ act.Done answer
      → 1 ≤ mutex_steps v p

pub record RwStepsFall : Type 0 where
  pub falls : (n : ℕ) (p : RwPhase) (s : ActResult) (word first after : ℕ) (shut : Shut) → word / 16 < 2 ^ 60 - 1
      → IsReady p → Gives (of_rw.act_of p) word s → Can (rw_stance p) (of_rw.act_of p) shut s
      → Leaves (of_rw.act_of p) s first after
      → rw_steps n (Sees (word_after (of_rw.act_of p) s word) after shut) (of_rw.next_phase p s) + 1 ≤ rw_steps n
      (Sees word first shut) p
  pub wakes : (n : ℕ) (p : RwPhase) (v : View) → of_rw.act_of p ≡ act.Section section.Wake → 1 ≤ rw_taken p
      → rw_steps n v (of_rw.next_phase p seen.Made) + wake ≤ rw_steps n v p
  pub woken : (n : ℕ) (p : RwPhase) (token : UnparkToken) → rw_steps n Unseen (of_rw.next_phase p (seen.Woken token)) +
      1 ≤ rw_steps n Unseen p + wake
  pub few : (n word first : ℕ) (shut : Shut) (p : RwPhase) → first ≤ n → rw_steps n (Sees word first shut) p ≤ rw_steps
      n Unseen p
  pub stops : (n : ℕ) (p : RwPhase) (word first : ℕ) (shut : Shut) → StopsAt (of_rw.act_of p) shut
      → rw_steps n Unseen p ≤ rw_steps n (Sees word first shut) p
  pub ends : (n : ℕ) (p : RwPhase) (v : View) (answer : CoreAnswer) → of_rw.act_of p ≡ act.Done answer
      → 1 ≤ rw_steps n v p
