use Rattle.std.proofs.Common.{◌≡◌, ℕ, ◌+◌, ◌<◌, List, length, take, get_or, Option, sym, ap, ◌∙◌, subst}
use Rattle.std.proofs.lemmas.Bool.{ne_eqb}
use Rattle.lock_api_desk.specs.declared.mode.Mode.{Mode}
use Rattle.lock_api_desk.specs.Desk.{DeskState}
use Rattle.parking_lot_machine_calls.specs.declared.seat.Wakeup.{Wakeup}
use Rattle.parking_lot_machine.specs.Rows.{State, state, taken_by}
use Rattle.mapworld_state.specs.Locks.Moves.{CanSeat, MayAdmitAs, admitted_as, all_admitted}
use Rattle.mapworld_state.specs.Locks.Views.{held_at}
use Rattle.mapworld_state.proofs.LocksFacts.Admitting.{admitted_more, may_admit, seats_all}
use Rattle.mapworld_state.proofs.LocksFacts.Taken.{taken_next, taken_same}
use Rattle.mapworld_state.proofs.locks.desks.admit_taken.Goals.{then-wakeup-thread, else-wakeup-thread}
use Rattle.mapworld_state.proofs.locks.desks.admit_taken.Goals as goal

-- the wakeup at a place, where it is one of the thread's
module _ (modes : ℕ → Option Mode) (threads t i : ℕ) (wakes ws : List Wakeup) (same : ws ≡ wakes) (d : Wakeup)
    (desk now : DeskState (Unit {0})) (can : CanSeat modes threads desk) (low : i < length ws)
    (kept : now ≡ all_admitted modes (taken_by (take i wakes) t) desk) where
  abbrev v : ℕ
  v = (get_or ws i d).thread

  may : (mode : Option Mode) → mode ≡ modes v → MayAdmitAs v mode now
  may mode m =
      let mid : DeskState (Unit {0}) = all_admitted modes (taken_by (take i wakes) t) desk in
      let before = seats_all modes threads (taken_by (take i wakes) t) desk can in
      subst (λ (x : DeskState (Unit {0})). MayAdmitAs v mode x) (sym kept)
      (subst (λ (o : Option Mode). MayAdmitAs v o mid) (sym m) (may_admit modes threads mid before.can v))

  kept_here : now ≡ all_admitted modes (taken_by (take i ws) t) desk
  kept_here = kept ∙ ap (λ x. all_admitted modes (taken_by (take i x) t) desk) (sym same)

  more : (get_or ws i d).by ≡ t → (next : DeskState (Unit {0})) (mode : Option Mode) → mode ≡ modes v
      → next ≡ admitted_as v mode now → next ≡ all_admitted modes (taken_by (take (i + 1) wakes) t) desk
  more own next mode m e =
      e ∙ ap (λ o. admitted_as v o now) m ∙ ap (admitted_as v (modes v)) kept_here
      ∙ sym (admitted_more modes (taken_by (take i ws) t) v desk)
      ∙ ap (λ us. all_admitted modes us desk) (sym (taken_next ws t i d low own))
      ∙ ap (λ x. all_admitted modes (taken_by (take (i + 1) x) t) desk) same

  skipped : ((get_or ws i d).by ≡ t → ⊥) → (next : DeskState (Unit {0})) → next ≡ now
      → next ≡ all_admitted modes (taken_by (take (i + 1) wakes) t) desk
  skipped other next e =
      e ∙ kept_here ∙ ap (λ us. all_admitted modes us desk)
      (sym (taken_same ws t i d low (ne_eqb (get_or ws i d).by t other)))
      ∙ ap (λ x. all_admitted modes (taken_by (take (i + 1) x) t) desk) same

nobody : Wakeup
nobody = record { by = 0; thread = 0; mark = 0 }

pub admit_as-requires : goal.admit_as-requires
unfolding nobody
admit_as-requires g c =
    let s : State = state c.args.machine.now in
    record {
      may = may (held_at s c.args.shard) (length s.calls) c.args.thread c.loop-wakeup.wakeup-index s.wakes
          c.wakes-wakeup-items.result.now c.wakes-wakeup-items.ensures nobody c.args.desk.now c.loop-wakeup.desk
          c.requires.can c.loop-wakeup-test.true c.loop-wakeup.invariant c.holds-mode.result c.holds-mode.ensures;
    }

pub loop-wakeup-preserved : goal.loop-wakeup-preserved
unfolding nobody
loop-wakeup-preserved g c =
    let s : State = state c.args.machine.now in
    elim c.if-wakeup-thread.branch [
      | then-wakeup-thread w ↦ more (held_at s c.args.shard) (length s.calls) c.args.thread c.loop-wakeup.wakeup-index
          s.wakes c.wakes-wakeup-items.result.now c.wakes-wakeup-items.ensures nobody c.args.desk.now c.loop-wakeup.desk
          c.requires.can c.loop-wakeup-test.true c.loop-wakeup.invariant w.if-wakeup-thread.true c.if-wakeup-thread.desk
          w.holds-mode.result w.holds-mode.ensures (w.desk-is ∙ w.admit_as.ensures)
      | else-wakeup-thread w ↦ skipped (held_at s c.args.shard) (length s.calls) c.args.thread
          c.loop-wakeup.wakeup-index s.wakes c.wakes-wakeup-items.result.now c.wakes-wakeup-items.ensures nobody
          c.args.desk.now c.loop-wakeup.desk
          c.requires.can c.loop-wakeup-test.true c.loop-wakeup.invariant w.if-wakeup-thread.false
          c.if-wakeup-thread.desk w.desk-is
    ]
