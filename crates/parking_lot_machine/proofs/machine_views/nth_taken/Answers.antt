use Rattle.std.proofs.Common.{◌≡◌, suc, ◌≤◌, length, slice_get, drop, refl, sym, ap, ◌∙◌, arith}
use Rattle.std.proofs.lemmas.Bool.{eq-eqb, ne_eqb}
use Rattle.std.proofs.Math.ListN.{drop_of_length-le}
use Rattle.parking_lot_machine.specs.Rows.{taken_by}
use Rattle.parking_lot_machine.proofs.NthTaken.{is_next, is_passed}
use Rattle.parking_lot_machine.proofs.machine_views.nth_taken.Goals.{then-wakeup-by+else-left-eq0, else-wakeup-by}
use Rattle.parking_lot_machine.proofs.machine_views.nth_taken.Goals as goal

pub loop-wakeup-init : goal.loop-wakeup-init
loop-wakeup-init c = refl

pub returns-then-left-eq0 : goal.returns-then-left-eq0
returns-then-left-eq0 c =
    let i = c.loop-wakeup.wakeup-index in
    sym (ap (λ us. slice_get us 0)
    (is_next c.args.wakes.now c.args.by i _ c.loop-wakeup-test.true (eq-eqb _ _ c.if-wakeup-by.true)))
    ∙ ap (slice_get (taken_by (drop i c.args.wakes.now) c.args.by)) (sym c.if-left-eq0.true) ∙ c.loop-wakeup.invariant

pub loop-wakeup-preserved : goal.loop-wakeup-preserved
loop-wakeup-preserved c =
    let i = c.loop-wakeup.wakeup-index in
    let us = taken_by (drop i c.args.wakes.now) c.args.by in
    elim c.if-wakeup-by.branch [
      | then-wakeup-by+else-left-eq0 w ↦
          let one_less : suc c.if-wakeup-by.left ≡ c.loop-wakeup.left = omega (arith, w.left-is, w.if-left-eq0.false) in
          sym (ap (λ xs. slice_get xs (suc c.if-wakeup-by.left))
          (is_next c.args.wakes.now c.args.by i _ c.loop-wakeup-test.true (eq-eqb _ _ w.if-wakeup-by.true)))
          ∙ ap (slice_get us) one_less ∙ c.loop-wakeup.invariant
      | else-wakeup-by w ↦ sym
          (ap (λ xs. slice_get xs c.if-wakeup-by.left)
          (is_passed c.args.wakes.now c.args.by i _ c.loop-wakeup-test.true (ne_eqb _ _ w.if-wakeup-by.false)))
          ∙ ap (slice_get us) w.left-is ∙ c.loop-wakeup.invariant
    ]

pub returns : goal.returns
returns c =
    let past : length c.args.wakes.now ≤ c.loop-wakeup.wakeup-index = omega (arith, c.loop-wakeup-test.false) in
    sym (ap (λ ws. slice_get (taken_by ws c.args.by) c.loop-wakeup.left) (drop_of_length-le c.args.wakes.now past))
    ∙ c.loop-wakeup.invariant
