use Rattle.std.proofs.Common.{◌≡◌, ◌∙◌, ℕ, true, List, Option, None, Some, Ok, [], length, take, drop, sym, ap, refl}
use Rattle.std.proofs.Common.{subst, false}
use Rattle.std.specs.Option.{option_map_or}
use Rattle.parking_lot_core_model.specs.declared.parking.UnparkResult.{UnparkResult}
use Rattle.parking_lot_core_model.specs.declared.parking.UnparkToken.{UnparkToken}
use Rattle.parking_lot_core_model.specs.declared.place.Waiter.{Waiter}
use Rattle.parking_lot_core_model.specs.Lists.{updated}
use Rattle.parking_lot_core_model.specs.Results.{fairly, unpark_result, chosen_by, passed_by}
use Rattle.parking_lot_core_model.specs.Machine.{Machine, machine, busy, opened, stored, closed, unparked, taken}
use Rattle.parking_lot_core_model.specs.Operations.{all_taken}
use Rattle.parking_lot_core_model.proofs.Kept.{updated_at}
use Rattle.parking_lot_core_model.proofs.Outcomes.{unless_done, free_section}
use Rattle.parking_lot_core_model.proofs.Takings.{first_taken, closed_taken, first_count_some, first_count_none}
use Rattle.parking_lot_core_model.specs.Sound.{IsOpen}
use Rattle.parking_lot_core_model.proofs.Entering.{none≢some}
use Rattle.parking_lot_core_model.proofs.Sounds.{is_opened, is_nobodys}
use Rattle.parking_lot_core_model.proofs.lot.Lot.unpark_first.Goals as goal

pub returns : goal.returns
returns g c =
    let m = machine c.args.self.now in
    let key = c.args.key in
    let q = m.queues key in
    let free : busy key m ≡ None = sym c.busy.ensures.fault ∙ c.in_default.is in
    let o = opened m None key in
    let token = c.callback-token.result in
    let held : machine c.take_first-woken.new.self ≡ all_taken o key (take 1 q) (drop 1 q) =
    c.take_first-woken.ensures.taken
    ∙ ap (λ (x : Machine). all_taken x key (take 1 (x.queues key)) (drop 1 (x.queues key))) c.open.ensures in
    let count : c.take_first-woken.result ≡ length (take 1 q) = c.take_first-woken.ensures.count
    ∙ ap (λ (x : Machine). length (take 1 (x.queues key))) c.open.ensures in
    let rest : (machine c.take_first-woken.new.self).queues key ≡ drop 1 q = ap (λ (x : Machine). x.queues key) held
    ∙ updated_at m.queues key (drop 1 q) in
    let answer : c.outcome-result.result ≡ fairly c.args.fair (unpark_result (length (take 1 q)) 0 (drop 1 q)) =
    c.outcome-result.ensures
    ∙ (ap (λ (n : ℕ). fairly c.args.fair (unpark_result n 0 ((machine c.take_first-woken.new.self).queues key)))
    count ∙ ap (λ (ws : List Waiter). fairly c.args.fair (unpark_result (length (take 1 q)) 0 ws)) rest) in
    let done : machine c.finish.new.self ≡ unparked m key (take 1 q) (drop 1 q) token = c.finish.ensures
    ∙ (ap (λ (x : Machine). closed (stored x key token) key true) held
    ∙ closed_taken m key token (c.busy.ensures.quiet c.in_default.is) (free_section m key free) (take 1 q) (drop 1 q))
    in
    unless_done (busy key m) (Ok c.outcome-result.result) m (machine c.finish.new.self) _ free (
      token,
      subst (λ (r : UnparkResult). goal.C-post g c.args.callback r token) answer c.callback-token.ensures,
      ap (λ r. Ok r) answer,
      done,
    )

pub open-requires : goal.open-requires
open-requires g c =
    let m = machine c.args.self.now in
    record {
      free = free_section m c.args.key (sym c.busy.ensures.fault ∙ c.in_default.is);
      runs = λ t e. absurd (none≢some e);
      outside = λ t e. absurd (none≢some e);
    }

pub take_first-woken-requires : goal.take_first-woken-requires
take_first-woken-requires g c = is_opened (machine c.args.self.now)
    (machine c.open.new.self) None c.args.key c.open.ensures

pub finish-requires : goal.finish-requires
finish-requires g c =
    let m = machine c.args.self.now in
    let key = c.args.key in
    subst (λ (x : Machine). IsOpen x key)
    (sym (c.take_first-woken.ensures.taken ∙ ap
    (λ (x : Machine). all_taken x key (take 1 (x.queues key)) (drop 1 (x.queues key))) c.open.ensures))
    (is_opened m (opened m None key) None key refl)
