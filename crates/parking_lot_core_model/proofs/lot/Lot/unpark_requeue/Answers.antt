use Rattle.std.proofs.Common.{◌≡◌, ◌∙◌, ℕ, List, Option, None, Some, Ok, [], length, take, drop, sym, ap, refl, subst}
use Rattle.std.proofs.Common.{true, false}
use Rattle.std.specs.Option.{option_map_or}
use Rattle.parking_lot_core_model.specs.declared.parking.UnparkResult.{UnparkResult}
use Rattle.parking_lot_core_model.specs.declared.place.Waiter.{Waiter}
use Rattle.parking_lot_core_model.specs.Results.{unpark_result, chosen_by, passed_by, woken_by, moved_by, left_by}
use Rattle.parking_lot_core_model.specs.Machine.{Machine, machine, busy, opened, stored, closed, unparked, taken}
use Rattle.parking_lot_core_model.specs.Operations.{all_taken}
use Rattle.parking_lot_core_model.proofs.Kept.{updated_at}
use Rattle.parking_lot_core_model.proofs.Outcomes.{unless_done, free_first, not_aborted}
use Rattle.parking_lot_core_model.proofs.Takings.{closed_taken, closed_moved}
use Rattle.std.specs.Bool.{MatchBool}
use Rattle.parking_lot_core_model.specs.Machine.{requeued, moved, either_busy}
use Rattle.parking_lot_core_model.specs.Operations.{is_abort, Requeues, RequeuesBy}
use Rattle.parking_lot_core_model.specs.Sound.{IsOpen}
use Rattle.parking_lot_core_model.proofs.Entering.{none≢some}
use Rattle.parking_lot_core_model.proofs.Sounds.{is_opened, is_nobodys}
use Rattle.parking_lot_core_model.proofs.lot.Lot.unpark_requeue.Goals as goal

pub returns : goal.returns
returns g c =
    let m = machine c.args.self.now in
    let from = c.args.key_from in
    let to = c.args.key_to in
    let q = m.queues from in
    let op = c.validate-op.result in
    let free : either_busy from to m ≡ None = sym c.either_busy.ensures.fault ∙ c.in_default.is in
    let o = opened m None from in
    let token = c.callback-token.result in
    let woken = woken_by op q in
    let left = drop (length woken) q in
    let answer : c.requeue-result.result ≡ unpark_result (length woken) (length (moved_by op q)) (left_by op q) =
    c.requeue-result.ensures.result
    ∙ ap (λ (x : Machine). unpark_result (length (woken_by op (x.queues from)))
    (length (moved_by op (x.queues from))) (left_by op (x.queues from))) c.open.ensures in
    let lists : machine c.requeue-result.new.self ≡ moved (all_taken o from woken left) from to (moved_by op q)
    (left_by op q) = c.requeue-result.ensures.lists
    ∙ ap (λ (x : Machine). moved
    (all_taken x from (woken_by op (x.queues from)) (drop (length (woken_by op (x.queues from))) (x.queues from)))
    from to (moved_by op (x.queues from)) (left_by op (x.queues from))) c.open.ensures in
    let done : machine c.finish.new.self ≡ requeued m op from to token = c.finish.ensures
    ∙ (ap (λ (x : Machine). closed (stored x from token) from true) lists
    ∙ closed_moved m from token (c.either_busy.ensures.quiet c.in_default.is) (free_first m from to free) to woken left
    (moved_by op q) (left_by op q)) in
    unless_done (either_busy from to m) (Ok c.requeue-result.result) m (machine c.finish.new.self) _ free (
      op,
      c.validate-op.ensures,
      not_aborted (λ answer told. goal.C-post g c.args.callback op answer told) op m from to
          (Ok c.requeue-result.result) (machine c.finish.new.self) (sym c.is_abort.ensures ∙ c.if-is_abort.false) (
            token,
            subst (λ (r : UnparkResult). goal.C-post g c.args.callback op r token) answer
                c.callback-token.ensures,
            ap (λ r. Ok r) answer,
            done,
          ),
    )

pub open-requires : goal.open-requires
open-requires g c =
    let m = machine c.args.self.now in
    record {
      free = free_first m c.args.key_from c.args.key_to (sym c.either_busy.ensures.fault ∙ c.in_default.is);
      runs = λ t e. absurd (none≢some e);
      outside = λ t e. absurd (none≢some e);
    }

pub requeue-result-requires : goal.requeue-result-requires
requeue-result-requires g c = record {
  entered = is_opened (machine c.args.self.now) (machine c.open.new.self) None c.args.key_from c.open.ensures;
  nobody = is_nobodys (machine c.args.self.now) (machine c.open.new.self) c.args.key_from c.open.ensures;
}

pub finish-requires : goal.finish-requires
finish-requires g c =
    let m = machine c.args.self.now in
    let key = c.args.key_from in
    subst (λ (x : Machine). IsOpen x key) (sym c.requeue-result.ensures.lists)
    (is_opened m (machine c.open.new.self) None key c.open.ensures)
