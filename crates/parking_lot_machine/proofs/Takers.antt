-- One that has taken others goes on with them: it is in a section or wakes, and neither sleeps nor enters one.
use Rattle.std.proofs.Common.{◌≡◌, ℕ, zero, suc, ◌≤◌, arith, Bool, true, false, refl, sym, ap, ◌∙◌}
use Rattle.std.proofs.lemmas.Bool.{both_ways}
use Rattle.parking_lot_protocol.specs.declared.act.Act.{Act}
use Rattle.parking_lot_protocol.specs.declared.act.CoreAnswer.{CoreAnswer}
use Rattle.parking_lot_protocol.specs.declared.mutex_phase.MutexPhase.{MutexPhase}
use Rattle.parking_lot_protocol.specs.declared.rw_phase.RwPhase.{RwPhase}
use Rattle.parking_lot_protocol.specs.MutexTable as of_mutex
use Rattle.parking_lot_protocol.specs.RwTable as of_rw
use Rattle.parking_lot_protocol_rw.specs.UpgradeTable as upgrade_table
use Rattle.parking_lot_protocol_rw.specs.declared.upgrade_phase.Hold.{Hold as Kept}
use Rattle.parking_lot_protocol_rw.specs.declared.upgrade_phase.Release.{Release}
use Rattle.parking_lot_protocol_rw.specs.declared.upgrade_phase.UpgradePhase.{UpgradePhase}
use Rattle.parking_lot_machine_calls.specs.declared.seat.Core.{Core}
use Rattle.parking_lot_machine_calls.specs.Stances.{core_act, mutex_taken, rw_taken, taken_count, upgrade_taken}

-- in a section, or after one
abbrev pub works : Act → Bool
works (Act.Section next) = true
works (Act.FetchAnd keep) = true
works a = false

mutex_takers : (p : MutexPhase) → 1 ≤ mutex_taken p → works (of_mutex.act_of p) ≡ true
mutex_takers (MutexPhase.Stores giving took left) some = refl
mutex_takers (MutexPhase.Leaves giving took handed) some = refl
mutex_takers (MutexPhase.Wakes giving) some = refl
mutex_takers p some = absurd (omega (arith, some))

rw_takers : (p : RwPhase) → 1 ≤ rw_taken p → works (of_rw.act_of p) ≡ true
rw_takers (RwPhase.ClearWriterParked rest took) some = refl
rw_takers (RwPhase.LeaveWriterWakeSection rest took) some = refl
rw_takers (RwPhase.Scans s) some = refl
rw_takers (RwPhase.Stores s left) some = refl
rw_takers (RwPhase.Leaves rest count handed) some = refl
rw_takers (RwPhase.Wakes rest count) some = refl
rw_takers p some = absurd (omega (arith, some))

seeks_takers : (q : RwPhase) → 1 ≤ rw_taken q → works (upgrade_table.seeks_act q) ≡ true
seeks_takers (RwPhase.Admits a word) some = absurd (omega (arith, some))
seeks_takers (RwPhase.Appends want) some = absurd (omega (arith, some))
seeks_takers q some = rw_takers q some

frees_takers : (r : Release) (q : RwPhase) → 1 ≤ rw_taken q → works (upgrade_table.frees_act r q) ≡ true
frees_takers r (RwPhase.Stores a left) some = refl
frees_takers r (RwPhase.Finishes rest) some = absurd (omega (arith, some))
frees_takers r q some = rw_takers q some

owes_takers : (kept : Kept) (end : CoreAnswer) (q : RwPhase) → 1 ≤ rw_taken q
    → works (upgrade_table.owes_act kept end q) ≡ true
owes_takers kept end (RwPhase.Scans a) some = refl
owes_takers kept end (RwPhase.Finishes rest) some = absurd (omega (arith, some))
owes_takers kept end q some = rw_takers q some

upgrade_takers : (p : UpgradePhase) → 1 ≤ upgrade_taken p → works (upgrade_table.act_of p) ≡ true
upgrade_takers (UpgradePhase.Plain core) some = rw_takers core.phase some
upgrade_takers (UpgradePhase.Seeks core) some = seeks_takers core.phase some
upgrade_takers (UpgradePhase.Drains core) some = rw_takers core.phase some
upgrade_takers (UpgradePhase.Frees r core) some = frees_takers r core.phase some
upgrade_takers (UpgradePhase.Owes kept end core) some = owes_takers kept end core.phase some
upgrade_takers p some = absurd (omega (arith, some))

pub takers_work : (c : Core) → 1 ≤ taken_count c → works (core_act c) ≡ true
takers_work (Core.Mutex c) some = mutex_takers c.phase some
takers_work (Core.Rw c) some = rw_takers c.phase some
takers_work (Core.Upgrade c) some = upgrade_takers c.phase some
takers_work (Core.Late p) some = absurd (omega (arith, some))
takers_work (Core.LateRw p) some = absurd (omega (arith, some))

-- so one that does something else has taken nobody
none_taken : (n : ℕ) → (1 ≤ n → ⊥) → n ≡ 0
none_taken zero never = refl
none_taken (suc n) never = absurd (never (omega arith))

pub others_free : (c : Core) (a : Act) → core_act c ≡ a → works a ≡ false → taken_count c ≡ 0
others_free c a is idle =
    none_taken (taken_count c) (λ some. both_ways (works a) idle (sym (ap works is) ∙ takers_work c some))
