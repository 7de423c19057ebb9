use Rattle.std.proofs.Common.{◌≡◌, ◌∙◌, ℕ, true, List, Option, None, Some, Ok, [], length, take, drop, sym, ap, refl}
use Rattle.std.proofs.Common.{subst, false}
use Rattle.std.specs.Option.{option_map_or}
use Rattle.parking_lot_core_model.specs.declared.parking.UnparkResult.{UnparkResult}
use Rattle.parking_lot_core_model.specs.declared.parking.UnparkToken.{UnparkToken}
use Rattle.parking_lot_core_model.specs.declared.place.Waiter.{Waiter}
use Rattle.parking_lot_core_model.specs.Lists.{updated}
use Rattle.parking_lot_core_model.specs.Results.{unpark_result, chosen_by, passed_by}
use Rattle.parking_lot_core_model.specs.Machine.{Machine, machine, busy, opened, stored, closed, unparked, taken}
use Rattle.parking_lot_core_model.specs.Operations.{all_taken}
use Rattle.parking_lot_core_model.proofs.Kept.{updated_at}
use Rattle.parking_lot_core_model.proofs.Outcomes.{unless_done, free_section}
use Rattle.parking_lot_core_model.proofs.Takings.{first_taken, closed_taken, first_count_some, first_count_none}
use Rattle.std.proofs.Math.Seq.{take-length, drop-length}
use Rattle.parking_lot_core_model.specs.Sound.{IsOpen}
use Rattle.parking_lot_core_model.proofs.Entering.{none≢some}
use Rattle.parking_lot_core_model.proofs.Sounds.{is_opened, is_nobodys}
use Rattle.parking_lot_core_model.proofs.lot.Lot.unpark_all.Goals as goal

pub returns : goal.returns
returns g c =
    let m = machine c.args.self.now in
    let key = c.args.key in
    let q = m.queues key in
    let free : busy key m ≡ None = sym c.busy.ensures.fault ∙ c.in_default.is in
    let o = opened m None key in
    let count : c.count-count.result ≡ length q = c.count-count.ensures ∙ ap (λ (x : Machine). length (x.queues key))
    c.open.ensures in
    let held : machine c.take_all.new.self ≡ all_taken o key (take c.count-count.result q)
    (drop c.count-count.result q) = c.take_all.ensures
    ∙ ap (λ (x : Machine). all_taken x key (take c.count-count.result (x.queues key))
    (drop c.count-count.result (x.queues key))) c.open.ensures in
    let all : machine c.take_all.new.self ≡ all_taken o key q [] = held
    ∙ (ap (λ (n : ℕ). all_taken o key (take n q) (drop n q)) count
    ∙ (ap (λ (ws : List Waiter). all_taken o key ws (drop (length q) q)) (take-length q)
    ∙ ap (λ (ws : List Waiter). all_taken o key q ws) (drop-length q))) in
    let done : machine c.finish.new.self ≡ unparked m key q [] c.args.unpark_token = c.finish.ensures
    ∙ (ap (λ (x : Machine). closed (stored x key c.args.unpark_token) key true) all
    ∙ closed_taken m key c.args.unpark_token
    (c.busy.ensures.quiet c.in_default.is) (free_section m key free) q []) in
    unless_done (busy key m) (Ok c.count-count.result) m (machine c.finish.new.self) _ free (ap (λ n. Ok n) count, done)

pub open-requires : goal.open-requires
open-requires g c =
    let m = machine c.args.self.now in
    record {
      free = free_section m c.args.key (sym c.busy.ensures.fault ∙ c.in_default.is);
      runs = λ t e. absurd (none≢some e);
      outside = λ t e. absurd (none≢some e);
    }

pub take_all-requires : goal.take_all-requires
take_all-requires g c = is_opened (machine c.args.self.now) (machine c.open.new.self) None c.args.key c.open.ensures

pub finish-requires : goal.finish-requires
finish-requires g c =
    let m = machine c.args.self.now in
    let key = c.args.key in
    subst (λ (x : Machine). IsOpen x key)
    (sym (c.take_all.ensures ∙ ap (λ (x : Machine). all_taken x key (take c.count-count.result (x.queues key))
    (drop c.count-count.result (x.queues key))) c.open.ensures))
    (is_opened m (opened m None key) None key refl)
