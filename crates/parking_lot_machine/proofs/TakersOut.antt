-- One that has taken others and is in no section is to wake them.
use Rattle.std.proofs.Common.{◌≡◌, ℕ, ◌≤◌, arith, Bool, true, false, List, [], ◌∷◌, ◌++◌, ◌==◌, cond, map, filter}
use Rattle.std.proofs.Common.{remove, Some, zero, suc, slice_get, refl, ap, ◌∙◌, eq-eqb}
use Rattle.std.proofs.lemmas.Option.{none-some}
use Rattle.parking_lot_protocol.specs.declared.act.Act.{Act}
use Rattle.parking_lot_protocol.specs.declared.act.SectionAct.TheVariants as section
use Rattle.parking_lot_protocol.specs.declared.act.CoreAnswer.{CoreAnswer}
use Rattle.parking_lot_protocol.specs.declared.mutex_phase.MutexPhase.{MutexPhase}
use Rattle.parking_lot_protocol.specs.declared.rw_phase.RwPhase.{RwPhase}
use Rattle.parking_lot_protocol.specs.MutexTable as of_mutex
use Rattle.parking_lot_protocol.specs.RwTable as of_rw
use Rattle.parking_lot_protocol_rw.specs.UpgradeTable as upgrade_table
use Rattle.parking_lot_protocol_rw.specs.declared.upgrade_phase.Hold.{Hold as Kept}
use Rattle.parking_lot_protocol_rw.specs.declared.upgrade_phase.Release.{Release}
use Rattle.parking_lot_protocol_rw.specs.declared.upgrade_phase.UpgradePhase.{UpgradePhase}
use Rattle.parking_lot_machine_calls.specs.declared.seat.Core.{Core}
use Rattle.parking_lot_machine_calls.specs.declared.seat.Wakeup.{Wakeup}
use Rattle.parking_lot_machine.specs.Rows.{is_by, taken_by}
use Rattle.parking_lot_machine_calls.specs.Stances.{Doing, In, Stance, core_act, mutex_stance, mutex_taken, rw_stance}
use Rattle.parking_lot_machine_calls.specs.Stances.{rw_taken, seeks_stance, stance, taken_count, upgrade_stance}
use Rattle.parking_lot_machine_calls.specs.Stances.{upgrade_taken}

abbrev IsOutside : Stance → Type 0
IsOutside a = (k : ℕ) (how : Doing) → a ≡ In k how → ⊥

mutex_out : (p : MutexPhase) → 1 ≤ mutex_taken p → IsOutside (mutex_stance p)
    → of_mutex.act_of p ≡ Act.Section section.Wake
mutex_out (MutexPhase.Stores giving took left) some out = absurd (out _ _ refl)
mutex_out (MutexPhase.Leaves giving took handed) some out = absurd (out _ _ refl)
mutex_out (MutexPhase.Wakes giving) some out = refl
mutex_out p some out = absurd (omega (arith, some))

rw_out : (p : RwPhase) → 1 ≤ rw_taken p → IsOutside (rw_stance p) → of_rw.act_of p ≡ Act.Section section.Wake
rw_out (RwPhase.ClearWriterParked rest took) some out = absurd (out _ _ refl)
rw_out (RwPhase.LeaveWriterWakeSection rest took) some out = absurd (out _ _ refl)
rw_out (RwPhase.Scans s) some out = absurd (out _ _ refl)
rw_out (RwPhase.Stores s left) some out = absurd (out _ _ refl)
rw_out (RwPhase.Leaves rest count handed) some out = absurd (out _ _ refl)
rw_out (RwPhase.Wakes rest count) some out = refl
rw_out p some out = absurd (omega (arith, some))

seeks_out : (q : RwPhase) → 1 ≤ rw_taken q → IsOutside (seeks_stance q) → upgrade_table.seeks_act q ≡ Act.Section
    section.Wake
seeks_out (RwPhase.ClearWriterParked rest took) some out = absurd (out _ _ refl)
seeks_out (RwPhase.LeaveWriterWakeSection rest took) some out = absurd (out _ _ refl)
seeks_out (RwPhase.Scans s) some out = absurd (out _ _ refl)
seeks_out (RwPhase.Stores s left) some out = absurd (out _ _ refl)
seeks_out (RwPhase.Leaves rest count handed) some out = absurd (out _ _ refl)
seeks_out (RwPhase.Wakes rest count) some out = refl
seeks_out q some out = absurd (omega (arith, some))

frees_out : (r : Release) (q : RwPhase) → 1 ≤ rw_taken q → IsOutside (rw_stance q)
    → upgrade_table.frees_act r q ≡ Act.Section section.Wake
frees_out r (RwPhase.Stores a left) some out = absurd (out _ _ refl)
frees_out r (RwPhase.Finishes rest) some out = absurd (omega (arith, some))
frees_out r q some out = rw_out q some out

owes_out : (kept : Kept) (end : CoreAnswer) (q : RwPhase) → 1 ≤ rw_taken q → IsOutside (rw_stance q)
    → upgrade_table.owes_act kept end q ≡ Act.Section section.Wake
owes_out kept end (RwPhase.Scans a) some out = absurd (out _ _ refl)
owes_out kept end (RwPhase.Finishes rest) some out = absurd (omega (arith, some))
owes_out kept end q some out = rw_out q some out

upgrade_out : (p : UpgradePhase) → 1 ≤ upgrade_taken p → IsOutside (upgrade_stance p)
    → upgrade_table.act_of p ≡ Act.Section section.Wake
upgrade_out (UpgradePhase.Plain core) some out = rw_out core.phase some out
upgrade_out (UpgradePhase.Seeks core) some out = seeks_out core.phase some out
upgrade_out (UpgradePhase.Drains core) some out = rw_out core.phase some out
upgrade_out (UpgradePhase.Frees r core) some out = frees_out r core.phase some out
upgrade_out (UpgradePhase.Owes kept end core) some out = owes_out kept end core.phase some out
upgrade_out p some out = absurd (omega (arith, some))

pub takers_out : (c : Core) → 1 ≤ taken_count c → IsOutside (stance c) → core_act c ≡ Act.Section section.Wake
takers_out (Core.Mutex c) some out = mutex_out c.phase some out
takers_out (Core.Rw c) some out = rw_out c.phase some out
takers_out (Core.Upgrade c) some out = upgrade_out c.phase some out
takers_out (Core.Late p) some out = absurd (omega (arith, some))
takers_out (Core.LateRw p) some out = absurd (omega (arith, some))

-- WHOM IT DROPS

same_wakeup : {e f : Wakeup} → Some e ≡ Some f → e ≡ f
same_wakeup e = cc

-- of those that one is to wake any may be dropped, and the others keep their order
pub record Dropped (ws : List Wakeup) (i t by : ℕ) : Type 0 where
  pub before : List ℕ
  pub behind : List ℕ
  pub was : taken_by ws by ≡ before ++ t ∷ behind
  pub is : taken_by (remove ws i) by ≡ before ++ behind

pub drops : (ws : List Wakeup) (i t by : ℕ) (e : Wakeup) → slice_get ws i ≡ Some e → e.by ≡ by → e.thread ≡ t
    → Dropped ws i t by
drops [] i t by e at own is = absurd (none-some e at)
drops (w ∷ ws) zero t by e at own is =
    let same : w ≡ e = same_wakeup at in
    let mine : (w.by == by) ≡ true = eq-eqb w.by by (ap (λ (x : Wakeup). x.by) same ∙ own) in
    let all : taken_by (w ∷ ws) by ≡ w.thread ∷ taken_by ws by =
    ap (λ (b : Bool). map (λ (x : Wakeup). x.thread) (cond b (w ∷ filter (is_by by) ws) (filter (is_by by) ws)))
    mine in
    record {
      before = [];
      behind = taken_by ws by;
      was = all
          ∙ ap (λ (n : ℕ). n ∷ taken_by ws by) (ap (λ (x : Wakeup). x.thread) same ∙ is);
      is = refl;
    }
drops (w ∷ ws) (suc i) t by e at own is = go (drops ws i t by e at own is) (w.by == by) refl
  where
    kept : (b : Bool) (vs : List Wakeup) → (w.by == by) ≡ b → taken_by (w ∷ vs) by ≡ map (λ (x : Wakeup). x.thread)
        (cond b (w ∷ filter (is_by by) vs) (filter (is_by by) vs))
    kept b vs e = ap (λ (b : Bool). map (λ (x : Wakeup). x.thread)
        (cond b (w ∷ filter (is_by by) vs) (filter (is_by by) vs))) e

    go : Dropped ws i t by → (b : Bool) → (w.by == by) ≡ b → Dropped (w ∷ ws) (suc i) t by
    go later true e = record {
      before = w.thread ∷ later.before;
      behind = later.behind;
      was = kept true ws e
          ∙ ap (λ us. w.thread ∷ us) later.was;
      is = kept true (remove ws i) e ∙ ap (λ us. w.thread ∷ us) later.is;
    }
    go later false e =
        record {
          before = later.before;
          behind = later.behind;
          was = kept false ws e ∙ later.was;
          is = kept false (remove ws i) e ∙ later.is;
        }
