use Rattle.std.proofs.Common.{◌≡◌, ◌||◌, ap, ◌∙◌, Bool, true, sym}
use Rattle.std.proofs.lemmas.Bool.{cond-true, cond-false}
use Rattle.parking_lot_core_model.specs.declared.place.Phase.{Phase}
use Rattle.parking_lot_core_model.specs.Machine.{Machine, Parts, given_up, in_phase, machine, stored}
use Rattle.parking_lot_core_model.specs.Results.{is_left}
use Rattle.parking_lot_machine.proofs.lot_calls.quit.Goals as goal
use Rattle.parking_lot_machine.proofs.lot_calls.quit.Goals.{then-left, then-left-via-then-left}
use Rattle.parking_lot_machine.proofs.lot_calls.quit.Goals.{then-left-via-else-left+then-stores, else-left+else-stores}

pub returns-clause-left : goal.returns-clause-left
returns-clause-left g c = c.has_waiters-left.ensures ∙ ap (λ (m : Machine). is_left (m.queues c.args.key))
    c.quit_list.ensures.out

pub returns-clause-out : goal.returns-clause-out
returns-clause-out g c =
    let key = c.args.key in
    let stores : Bool = c.args.stores in
    let out : Machine = in_phase (given_up (machine c.args.lot.now) c.args.thread key) key Phase.Ended in
    let said : Machine = stored out key (record { 0 = 0 }) in
    let left : Bool = c.has_waiters-left.result in
    elim c.if-left.branch [
      | then-left w ↦
          let some : (left || stores) ≡ true = elim w.then-left.branch [
            | then-left-via-then-left v ↦ ap (λ (b : Bool). b || stores) v.if-left.true
            | then-left-via-else-left+then-stores v ↦
                ap (λ (b : Bool). b || stores) v.if-left.false ∙ v.if-stores.true
          ] in
          ap (λ (p : Parts). machine p) w.lot-is ∙ (w.store_nothing.ensures.stored
          ∙ (ap (λ (m : Machine). stored m key (record { 0 = 0 })) c.quit_list.ensures.out
          ∙ sym (cond-true (left || stores) said out some)))
      | else-left+else-stores w ↦
          ap (λ (p : Parts). machine p) w.lot-is ∙ (c.quit_list.ensures.out
          ∙ sym (cond-false (left || stores) said out
          (ap (λ (b : Bool). b || stores) w.if-left.false ∙ w.if-stores.false)))
    ]
