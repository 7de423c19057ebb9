use Rattle.std.proofs.Common.{◌≡◌, ℕ, ◌∙◌, ◌==◌, sym, ap, List, map, filter, slice_get}
use Rattle.std.specs.Option.{option_map}
use Rattle.std.proofs.lemmas.Option.{slice_get-map}
use Rattle.parking_lot_core_model.specs.Lists.{lists_of}
use Rattle.parking_lot_core_model.specs.Chains.{WaiterLists, queued, walk_from, entries}
use Rattle.parking_lot_core_model.specs.declared.chains.Spot.{Spot}
use Rattle.parking_lot_core_model.specs.declared.place.Waiter.{Waiter}
use Rattle.parking_lot_core_model.proofs.Changing.{looked}
use Rattle.parking_lot_core_model.proofs.waiters.Waiters.get.Goals as goal

pub returns-in_err-spot : goal.returns-in_err-spot
returns-in_err-spot g c =
    let l = c.self.inside in
    let met : List Spot = filter (λ (s : Spot). s.key == c.args.key)
    (walk_from c.deref-2.result.now c.first_of-first.result) in
    let look : map (λ (s : Spot). s.waiter) met ≡ lists_of (entries l.nodes.items l.heads.items) c.args.key =
    looked l.heads.items l.nodes.items c.self.invariant c.args.key c.deref.result.now c.deref-2.result.now
    c.first_of-first.result
    c.deref.ensures.value c.deref-2.ensures.value c.first_of-first.ensures in
    let nth = λ (ws : List Waiter). slice_get ws c.args.nth in
    c.from_residual.ensures
    ∙ (ap (option_map (λ (s : Spot). s.waiter)) (sym c.in_err-spot.was ∙ c.nth_under.ensures)
    ∙ (sym (slice_get-map (λ (s : Spot). s.waiter) met c.args.nth)
    ∙ (ap nth look ∙ ap (λ (v : WaiterLists). nth (queued v c.args.key)) c.self.view_is)))

pub returns : goal.returns
returns g c =
    let l = c.self.inside in
    let met : List Spot = filter (λ (s : Spot). s.key == c.args.key)
    (walk_from c.deref-2.result.now c.first_of-first.result) in
    let look : map (λ (s : Spot). s.waiter) met ≡ lists_of (entries l.nodes.items l.heads.items) c.args.key =
    looked l.heads.items l.nodes.items c.self.invariant c.args.key c.deref.result.now c.deref-2.result.now
    c.first_of-first.result
    c.deref.ensures.value c.deref-2.ensures.value c.first_of-first.ensures in
    let nth = λ (ws : List Waiter). slice_get ws c.args.nth in
    (ap (option_map (λ (s : Spot). s.waiter)) c.in_ok-spot.ensures
    ∙ (sym (slice_get-map (λ (s : Spot). s.waiter) met c.args.nth)
    ∙ (ap nth look ∙ ap (λ (v : WaiterLists). nth (queued v c.args.key)) c.self.view_is)))
