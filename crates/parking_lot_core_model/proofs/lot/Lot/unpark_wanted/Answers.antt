use Rattle.std.proofs.Common.{◌≡◌, ◌∙◌, ℕ, List, Option, None, Some, Ok, [], length, take, drop, sym, ap, refl, subst}
use Rattle.std.proofs.Common.{true, false}
use Rattle.std.specs.Option.{option_map_or}
use Rattle.parking_lot_core_model.specs.declared.parking.UnparkResult.{UnparkResult}
use Rattle.parking_lot_core_model.specs.declared.place.Waiter.{Waiter}
use Rattle.parking_lot_core_model.specs.Results.{fairly, unpark_result, chosen_by, passed_by, woken_by, moved_by}
use Rattle.parking_lot_core_model.specs.Results.{left_by}
use Rattle.parking_lot_core_model.specs.Machine.{Machine, machine, busy, opened, stored, closed, unparked, taken}
use Rattle.parking_lot_core_model.specs.Operations.{all_taken}
use Rattle.parking_lot_core_model.proofs.Kept.{updated_at}
use Rattle.parking_lot_core_model.proofs.Outcomes.{unless_done, free_section}
use Rattle.parking_lot_core_model.proofs.Takings.{closed_taken, closed_moved}
use Rattle.parking_lot_core_model.proofs.Sifting.{Sifts}
use Rattle.parking_lot_core_model.specs.Sound.{IsOpen}
use Rattle.parking_lot_core_model.proofs.Entering.{none≢some}
use Rattle.parking_lot_core_model.proofs.Sounds.{is_opened, is_nobodys}
use Rattle.parking_lot_core_model.proofs.lot.Lot.unpark_wanted.Goals as goal

pub returns : goal.returns
returns g c =
    let m = machine c.args.self.now in
    let key = c.args.key in
    let q = m.queues key in
    let free : busy key m ≡ None = sym c.busy.ensures.fault ∙ c.in_default.is in
    let o = opened m None key in
    let token = c.callback-token.result in
    let s : Sifts (goal.F-step g) c.args.filter o key c.sift-woken.result (machine c.sift-woken.new.self) =
    subst (λ (x : Machine). Sifts (goal.F-step g) c.args.filter x key c.sift-woken.result
    (machine c.sift-woken.new.self)) c.open.ensures c.sift-woken.ensures in
    let rest : (machine c.sift-woken.new.self).queues key ≡ passed_by s.0 q = ap (λ (x : Machine). x.queues key) s.4
    ∙ updated_at m.queues key (passed_by s.0 q) in
    let answer : c.outcome-result.result ≡ fairly c.args.fair
    (unpark_result (length (chosen_by s.0 q)) 0 (passed_by s.0 q)) = c.outcome-result.ensures
    ∙ (ap (λ (n : ℕ). fairly c.args.fair (unpark_result n 0 ((machine c.sift-woken.new.self).queues key))) s.3
    ∙ ap (λ (ws : List Waiter). fairly c.args.fair (unpark_result (length (chosen_by s.0 q)) 0 ws)) rest) in
    let done : machine c.finish.new.self ≡ unparked m key (chosen_by s.0 q) (passed_by s.0 q) token = c.finish.ensures
    ∙ (ap (λ (x : Machine). closed (stored x key token) key true) s.4
    ∙ closed_taken m key token (c.busy.ensures.quiet c.in_default.is) (free_section m key free) (chosen_by s.0 q)
    (passed_by s.0 q)) in
    unless_done (busy key m) (Ok c.outcome-result.result) m (machine c.finish.new.self) _ free (
      s.0,
      s.1,
      token,
      s.2,
      (
        subst (λ (r : UnparkResult). goal.C-post g c.args.callback r token) answer c.callback-token.ensures,
        ap (λ r. Ok r) answer,
        done,
      ),
    )

pub open-requires : goal.open-requires
open-requires g c =
    let m = machine c.args.self.now in
    record {
      free = free_section m c.args.key (sym c.busy.ensures.fault ∙ c.in_default.is);
      runs = λ t e. absurd (none≢some e);
      outside = λ t e. absurd (none≢some e);
    }

pub sift-woken-requires : goal.sift-woken-requires
sift-woken-requires g c = record {
  entered = is_opened (machine c.args.self.now) (machine c.open.new.self) None c.args.key c.open.ensures;
  callable = c.requires.filter;
}

pub finish-requires : goal.finish-requires
finish-requires g c =
    let m = machine c.args.self.now in
    let key = c.args.key in
    let s : Sifts (goal.F-step g) c.args.filter (opened m None key) key c.sift-woken.result
    (machine c.sift-woken.new.self) =
    subst (λ (x : Machine). Sifts (goal.F-step g) c.args.filter x key c.sift-woken.result
    (machine c.sift-woken.new.self)) c.open.ensures c.sift-woken.ensures in
    subst (λ (x : Machine). IsOpen x key) (sym s.4) (is_opened m (opened m None key) None key refl)
