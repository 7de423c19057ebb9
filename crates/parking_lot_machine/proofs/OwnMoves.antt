-- Acts that a thread makes by itself: which moves they are, and who is inside a section then.
use Rattle.std.proofs.Common.{ℕ, ◌/◌, ◌==◌, ◌&&◌, cond, Bool, true, false, List}
use Rattle.parking_lot_rules.specs.Plain as plain
use Rattle.parking_lot_rules.specs.Steps.{Alone}
use Rattle.parking_lot_rules.specs.Family.{crossing}
use Rattle.parking_lot_protocol.specs.declared.act.Act.{Act}
use Rattle.parking_lot_protocol.specs.declared.act.SectionAct.TheVariants as section
use Rattle.parking_lot_protocol.specs.declared.act.ActResult.{ActResult}
use Rattle.parking_lot_protocol.specs.declared.rw_phase.LockMode.{LockMode}
use Rattle.parking_lot_protocol.specs.declared.rw_phase.Draining.{Draining}
use Rattle.parking_lot_protocol.specs.declared.rw_phase.AfterWake.TheVariants as rest
use Rattle.parking_lot_protocol.specs.declared.rw_phase.RwPhase.{RwPhase}
use Rattle.parking_lot_protocol.specs.declared.rw_phase.RwPhase.TheVariants.{Admits, SetParked, Checks, Appends, Sleeps}
use Rattle.parking_lot_protocol.specs.declared.rw_phase.RwPhase.TheVariants.{DrainLoads, DrainSetParked, DrainChecks}
use Rattle.parking_lot_protocol.specs.declared.rw_phase.RwPhase.TheVariants.{DrainAppends, DrainSleeps, TryAdmits}
use Rattle.parking_lot_protocol.specs.declared.rw_phase.RwPhase.TheVariants.{Unshares, TakeWriter, ClearWriterParked}
use Rattle.parking_lot_protocol.specs.declared.rw_phase.RwPhase.TheVariants.{Unlocks, Downgrades, Scans, Stores, Wakes}
use Rattle.parking_lot_protocol.specs.declared.rw_phase.RwPhase.TheVariants.{Finishes}
use Rattle.parking_lot_protocol.specs.RwTable.{act_of, is_parked, is_writer_parked, is_barred, has_readers}
use Rattle.parking_lot_protocol.specs.RwRules.{Move, Stays, Makes, move, mode_of, admission, try_admission, IsTold}
use Rattle.parking_lot_machine.specs.RwLaws.{act_crossing}
use Rattle.parking_lot_machine_calls.specs.Stances.{Stance, rw_stance}
use Rattle.parking_lot_machine.proofs.Making.{Crossed, Entries, SomeFor}
use Rattle.parking_lot_rules.specs.Family as crossings

-- who has entered which bucket after an act of thread t, by its stance before
abbrev pub AfterAct : Stance → Act → ℕ → Entries → Entries → Type 0
AfterAct a x t old new = Crossed (act_crossing a x) t old new

-- acts that change neither a list nor another thread
abbrev pub IsOwnAct : Act → Type 0
IsOwnAct (Act.Section section.TakeFirst) = ⊥
IsOwnAct (Act.Section (section.TakeNext sum)) = ⊥
IsOwnAct (Act.Section (section.Append token)) = ⊥
IsOwnAct (Act.Section (section.Store plain fair)) = ⊥
IsOwnAct (Act.Section section.Wake) = ⊥
IsOwnAct Act.Sleep = ⊥
IsOwnAct (Act.FetchAnd keep) = ⊥
IsOwnAct (Act.Done answer) = ⊥
IsOwnAct a = Unit {0}

abbrev pub OwnMove : Move → ℕ → Entries → Entries → Type 0
OwnMove Stays t old new = Crossed crossings.Stays t old new
OwnMove (Makes k) t old new = Crossed (crossing (Alone k)) t old new
OwnMove m t old new = ⊥

-- and such a move wakes nobody
pub own_some : (m : Move) (us : List ℕ) (t : ℕ) (old new : Entries) → OwnMove m t old new → SomeFor m us
own_some Stays us t old new h = tt
own_some (Makes k) us t old new h = tt
own_some m us t old new h = absurd h

module _ (t : ℕ) (old new : Entries) where
  drains : (d : Draining) (b : Bool) → Crossed crossings.Stays t old new
      → OwnMove (cond b Stays (Makes (plain.Drain false d.woken))) t old new
  drains d true h = h
  drains d false h = h

  admits : (n : ℕ) (q : LockMode) (woken : Bool) → Crossed crossings.Stays t old new
      → OwnMove (Makes (admission n q woken)) t old new
  admits n (LockMode.Shared recursive) woken h = h
  admits n LockMode.Exclusive woken h = h

  try_admits : (n : ℕ) (q : LockMode) → Crossed crossings.Stays t old new
      → OwnMove (Makes (try_admission n q)) t old new
  try_admits n (LockMode.Shared recursive) h = h
  try_admits n LockMode.Exclusive h = h

  checks : (q : LockMode) (woken : Bool) (b : Bool) → Crossed crossings.Stays t old new
      → OwnMove (cond b (Makes (plain.Check1 (mode_of q) woken)) Stays) t old new
  checks q woken true h = h
  checks q woken false h = h

  checks2 : (woken : Bool) (b : Bool) → Crossed crossings.Stays t old new
      → OwnMove (cond b (Makes (plain.Check2 false woken)) Stays) t old new
  checks2 woken true h = h
  checks2 woken false h = h

  unshares : (n : ℕ) (b : Bool) → Crossed crossings.Stays t old new
      → OwnMove (Makes (cond b (plain.UnshareLast n) (plain.Unshare n))) t old new
  unshares n true h = h
  unshares n false h = h

  pub own_moves : (n : ℕ) (us : List ℕ) (p : RwPhase) (x : ℕ) (s : ActResult) → IsTold p x s → IsOwnAct (act_of p)
      → AfterAct (rw_stance p) (act_of p) t old new → OwnMove (move n us p s) t old new
  own_moves n us (Admits a word) x ActResult.Exchanged told own h = admits n a.want a.woken h
  own_moves n us (SetParked a word) x ActResult.Exchanged told own h = h
  own_moves n us (Checks q woken) x (ActResult.Word word) told own h =
      checks q woken (is_barred q word && is_parked word) h
  own_moves n us (Appends q) x s told own h = absurd own
  own_moves n us (Sleeps q) x s told own h = absurd own
  own_moves n us (DrainLoads d) x (ActResult.Word word) told own h = drains d (has_readers word) h
  own_moves n us (DrainSetParked d flagged) x ActResult.Exchanged told own h = h
  own_moves n us (DrainSetParked d flagged) x (ActResult.Word word) told own h = drains d (has_readers word) h
  own_moves n us (DrainChecks d) x (ActResult.Word word) told own h =
      checks2 d.woken (has_readers word && is_writer_parked word) h
  own_moves n us (DrainAppends rounds) x s told own h = absurd own
  own_moves n us (DrainSleeps rounds) x s told own h = absurd own
  own_moves n us (TryAdmits q word left) x ActResult.Exchanged told own h = try_admits n q h
  own_moves n us (Unshares rest) x (ActResult.Before word) told own h =
      unshares n (word / 16 == 1 && is_writer_parked word) h
  own_moves n us (TakeWriter rest) x s told own h = absurd own
  own_moves n us (ClearWriterParked rest taken) x s told own h = absurd own
  own_moves n us (Unlocks fair rest) x ActResult.Exchanged told own h = h
  own_moves n us Downgrades x (ActResult.Before word) told own h = h
  own_moves n us (Scans a) x s told own h = absurd own
  own_moves n us (Stores a left) x s told own h = absurd own
  own_moves n us (Wakes rest count) x s told own h = absurd own
  own_moves n us (Finishes rest.FreedShared) x s told own h = absurd own
  own_moves n us (Finishes rest.FreedExclusive) x s told own h = absurd own
  own_moves n us (Finishes rest.Downgraded) x s told own h = absurd own
  own_moves n us p x s told own h = h
