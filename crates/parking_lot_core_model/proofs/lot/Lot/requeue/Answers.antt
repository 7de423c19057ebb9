use Rattle.std.proofs.Common.{◌≡◌, ◌∙◌, ℕ, ◌+◌, ◌≤◌, nat_lt, List, Option, None, Some, Ok, [], length, take, drop, sym}
use Rattle.std.proofs.Common.{ap, refl, subst, true, false}
use Rattle.std.specs.Option.{option_map_or}
use Rattle.parking_lot_core_model.specs.declared.parking.UnparkResult.{UnparkResult}
use Rattle.parking_lot_core_model.specs.declared.place.Waiter.{Waiter}
use Rattle.parking_lot_core_model.specs.Results.{unpark_result, chosen_by, passed_by, woken_by, moved_by, left_by}
use Rattle.parking_lot_core_model.specs.Machine.{Machine, machine, busy, opened, stored, closed, unparked, taken}
use Rattle.parking_lot_core_model.specs.Operations.{all_taken}
use Rattle.parking_lot_core_model.proofs.Kept.{updated_at}
use Rattle.parking_lot_core_model.proofs.Outcomes.{unless_done, free_section}
use Rattle.parking_lot_core_model.proofs.Takings.{closed_taken, closed_moved}
use Rattle.parking_lot_core_model.specs.Machine.{moved, open_at}
use Rattle.parking_lot_core_model.specs.Operations.{woken_count, moved_count}
use Rattle.parking_lot_core_model.proofs.Requeues.{counts_woken, counts_moved, take_woken, take_moved, drop_moved}
use Rattle.parking_lot_core_model.proofs.Requeues.{moved_within, test_left}
use Rattle.parking_lot_core_model.proofs.lot.Lot.requeue.Goals as goal

pub returns-clause-result : goal.returns-clause-result
returns-clause-result g c =
    let q = (machine c.args.self.now).queues c.args.from in
    let op = c.args.op in
    let woken : c.woken_count-woken.result ≡ length (woken_by op q) = c.woken_count-woken.ensures
    ∙ (ap (woken_count op) c.count-count.ensures ∙ counts_woken op q) in
    let moving : c.moved_count-moved.result ≡ length (moved_by op q) = c.moved_count-moved.ensures
    ∙ (ap (moved_count op) c.count-count.ensures ∙ counts_moved op q) in
    ap (λ (n : ℕ). record {
      unparked_threads = n;
      requeued_threads = c.moved_count-moved.result;
      have_more_threads =
          nat_lt (n + c.moved_count-moved.result) c.count-count.result;
      be_fair = false;
    }) woken
    ∙ (ap (λ (n : ℕ). record {
      unparked_threads = length (woken_by op q);
      requeued_threads = n;
      have_more_threads =
          nat_lt (length (woken_by op q) + n) c.count-count.result;
      be_fair = false;
    }) moving
    ∙ (ap (λ (n : ℕ). record {
      unparked_threads = length (woken_by op q);
      requeued_threads = length (moved_by op q);
      have_more_threads = nat_lt (length (woken_by op q) + length (moved_by op q)) n;
      be_fair = false;
    })
    c.count-count.ensures
    ∙ ap (λ b. record {
      unparked_threads = length (woken_by op q);
      requeued_threads = length (moved_by op q);
      have_more_threads = b;
      be_fair = false;
    }) (test_left op q)))

pub move_all-requires : goal.move_all-requires
move_all-requires g c =
    let m = machine c.args.self.now in
    let from = c.args.from in
    let q = m.queues from in
    let op = c.args.op in
    let woken : c.woken_count-woken.result ≡ length (woken_by op q) = c.woken_count-woken.ensures
    ∙ (ap (woken_count op) c.count-count.ensures ∙ counts_woken op q) in
    let moving : c.moved_count-moved.result ≡ length (moved_by op q) = c.moved_count-moved.ensures
    ∙ (ap (moved_count op) c.count-count.ensures ∙ counts_moved op q) in
    let rest : (machine c.take_all.new.self).queues from ≡ drop (length (woken_by op q)) q =
    ap (λ (x : Machine). x.queues from) c.take_all.ensures
    ∙ (updated_at m.queues from (drop c.woken_count-woken.result q) ∙ ap (λ n. drop n q) woken) in
    record {
      within = subst (λ (n : ℕ). n ≤ length ((machine c.take_all.new.self).queues from)) (sym moving)
          (subst (λ (ws : List Waiter). length (moved_by op q) ≤ length ws) (sym rest) (moved_within op q));
      nobody = λ s at. c.requires.nobody s (ap (λ (x : Machine). open_at x from) (sym c.take_all.ensures) ∙ at);
    }

pub returns-clause-lists : goal.returns-clause-lists
returns-clause-lists g c =
    let m = machine c.args.self.now in
    let from = c.args.from in
    let to = c.args.to in
    let q = m.queues from in
    let op = c.args.op in
    let woken : c.woken_count-woken.result ≡ length (woken_by op q) = c.woken_count-woken.ensures
    ∙ (ap (woken_count op) c.count-count.ensures ∙ counts_woken op q) in
    let moving : c.moved_count-moved.result ≡ length (moved_by op q) = c.moved_count-moved.ensures
    ∙ (ap (moved_count op) c.count-count.ensures ∙ counts_moved op q) in
    let left = drop (length (woken_by op q)) q in
    let held : machine c.take_all.new.self ≡ all_taken m from (woken_by op q) left = c.take_all.ensures
    ∙ (ap (λ (n : ℕ). all_taken m from (take n q) (drop n q)) woken
    ∙ ap (λ (ws : List Waiter). all_taken m from ws left) (take_woken op q)) in
    let h = all_taken m from (woken_by op q) left in
    c.move_all.ensures
    ∙ (ap (λ (x : Machine). moved x from to (take c.moved_count-moved.result (x.queues from))
    (drop c.moved_count-moved.result (x.queues from))) held
    ∙ (ap (λ (ws : List Waiter). moved h from to (take c.moved_count-moved.result ws)
    (drop c.moved_count-moved.result ws)) (updated_at m.queues from left)
    ∙ (ap (λ (n : ℕ). moved h from to (take n left) (drop n left)) moving
    ∙ (ap (λ (ws : List Waiter). moved h from to ws (drop (length (moved_by op q)) left)) (take_moved op q)
    ∙ ap (λ (ws : List Waiter). moved h from to (moved_by op q) ws) (drop_moved op q)))))
