use Rattle.std.proofs.Common.{◌≡◌, ℕ, ◌∙◌, ◌==◌, sym, ap, List, map, filter, slice_get, Some, remove, ◌+◌}
use Rattle.std.specs.Option.{option_map}
use Rattle.std.proofs.lemmas.Option.{slice_get-map}
use Rattle.parking_lot_core_model.specs.Lists.{lists_of, updated}
use Rattle.parking_lot_core_model.specs.Chains.{WaiterLists, queued, total, walk_from, entries}
use Rattle.parking_lot_core_model.specs.declared.chains.Spot.{Spot}
use Rattle.parking_lot_core_model.specs.declared.place.Waiter.{Waiter}
use Rattle.parking_lot_core_model.proofs.Kept.{updated_past}
use Rattle.parking_lot_core_model.proofs.Numbers.{slice_get_none}
use Rattle.parking_lot_core_model.proofs.Changing.{head_at, walked, looked, leaves_so}
use Rattle.parking_lot_core_model.proofs.waiters.Waiters.take.Goals as goal

pub returns-in_err-spot-clause-item : goal.returns-in_err-spot-clause-item
returns-in_err-spot-clause-item g c =
    let l = c.self.inside in
    let met : List Spot = filter (λ (s : Spot). s.key == c.args.key)
    (walk_from c.deref-2.result.now c.first_of-first.result) in
    let look : map (λ (s : Spot). s.waiter) met ≡ lists_of (entries l.nodes.items l.heads.items) c.args.key =
    looked l.heads.items l.nodes.items c.self.invariant c.args.key c.deref.result.now c.deref-2.result.now
    c.first_of-first.result
    c.deref.ensures.value c.deref-2.ensures.value c.first_of-first.ensures in
    let nth = λ (ws : List Waiter). slice_get ws c.args.nth in
    c.from_residual.ensures
    ∙ (ap (option_map (λ (s : Spot). s.waiter)) (sym c.in_err-spot.was ∙ c.nth_under.ensures)
    ∙ (sym (slice_get-map (λ (s : Spot). s.waiter) met c.args.nth)
    ∙ (ap nth look ∙ ap (λ (v : WaiterLists). nth (queued v c.args.key)) c.self.view_is)))

pub returns-in_err-spot-clause-kept : goal.returns-in_err-spot-clause-kept
returns-in_err-spot-clause-kept g c =
    let l = c.self.inside in
    let met : List Spot = filter (λ (s : Spot). s.key == c.args.key)
    (walk_from c.deref-2.result.now c.first_of-first.result) in
    let look : map (λ (s : Spot). s.waiter) met ≡ lists_of (entries l.nodes.items l.heads.items) c.args.key =
    looked l.heads.items l.nodes.items c.self.invariant c.args.key c.deref.result.now c.deref-2.result.now
    c.first_of-first.result
    c.deref.ensures.value c.deref-2.ensures.value c.first_of-first.ensures in
    let nth = λ (ws : List Waiter). slice_get ws c.args.nth in
    let none = (ap (option_map (λ (s : Spot). s.waiter)) (sym c.in_err-spot.was ∙ c.nth_under.ensures)
    ∙ (sym (slice_get-map (λ (s : Spot). s.waiter) met c.args.nth)
    ∙ (ap nth look ∙ ap (λ (v : WaiterLists). nth (queued v c.args.key)) c.self.view_is))) in
    updated_past (queued c.args.self.now) c.args.key c.args.nth
    (slice_get_none (queued c.args.self.now c.args.key) c.args.nth (sym none))

pub invariant_of-self : goal.invariant_of-self
invariant_of-self g c =
    let l = c.self.inside in
    let at = c.first_of-first.ensures in
    let hv = c.deref.ensures.value in
    let nv = c.deref-2.ensures.value in
    let hs = c.deref.result.now in
    let ns = c.deref-2.result.now in
    let first = c.first_of-first.result in
    let found : slice_get (filter (λ (s : Spot). s.key == c.args.key) (walk_from l.nodes.items at.0.first)) c.args.nth
    ≡ Some c.in_ok-spot.spot =
    ap (λ ss. slice_get (filter (λ (s : Spot). s.key == c.args.key) ss) c.args.nth)
    (sym (walked l.heads.items l.nodes.items c.self.invariant c.args.key hs ns first hv nv at))
    ∙ sym c.in_ok-spot.ensures in
    let r = leaves_so l.heads.items l.nodes.items c.self.invariant c.args.key c.args.nth at.0
    (head_at l.heads.items l.nodes.items c.self.invariant c.args.key hs ns first hv nv at) c.in_ok-spot.spot
    c.unlink.new.heads.items c.unlink.new.nodes.items found c.unlink.ensures in
    r.0.linked

pub returns-clause-item : goal.returns-clause-item
returns-clause-item g c =
    let l = c.self.inside in
    let met : List Spot = filter (λ (s : Spot). s.key == c.args.key)
    (walk_from c.deref-2.result.now c.first_of-first.result) in
    let look : map (λ (s : Spot). s.waiter) met ≡ lists_of (entries l.nodes.items l.heads.items) c.args.key =
    looked l.heads.items l.nodes.items c.self.invariant c.args.key c.deref.result.now c.deref-2.result.now
    c.first_of-first.result
    c.deref.ensures.value c.deref-2.ensures.value c.first_of-first.ensures in
    let nth = λ (ws : List Waiter). slice_get ws c.args.nth in
    (ap (option_map (λ (s : Spot). s.waiter)) c.in_ok-spot.ensures
    ∙ (sym (slice_get-map (λ (s : Spot). s.waiter) met c.args.nth)
    ∙ (ap nth look ∙ ap (λ (v : WaiterLists). nth (queued v c.args.key)) c.self.view_is)))

pub returns-clause-kept : goal.returns-clause-kept
returns-clause-kept g c =
    let l = c.self.inside in
    let at = c.first_of-first.ensures in
    let hv = c.deref.ensures.value in
    let nv = c.deref-2.ensures.value in
    let hs = c.deref.result.now in
    let ns = c.deref-2.result.now in
    let first = c.first_of-first.result in
    let found : slice_get (filter (λ (s : Spot). s.key == c.args.key) (walk_from l.nodes.items at.0.first)) c.args.nth
    ≡ Some c.in_ok-spot.spot =
    ap (λ ss. slice_get (filter (λ (s : Spot). s.key == c.args.key) ss) c.args.nth)
    (sym (walked l.heads.items l.nodes.items c.self.invariant c.args.key hs ns first hv nv at))
    ∙ sym c.in_ok-spot.ensures in
    let r = leaves_so l.heads.items l.nodes.items c.self.invariant c.args.key c.args.nth at.0
    (head_at l.heads.items l.nodes.items c.self.invariant c.args.key hs ns first hv nv at) c.in_ok-spot.spot
    c.unlink.new.heads.items c.unlink.new.nodes.items found c.unlink.ensures in
    r.0.lists
    ∙ ap (λ (v : WaiterLists). updated (queued v) c.args.key (remove (queued v c.args.key) c.args.nth)) c.self.view_is

pub returns-clause-total : goal.returns-clause-total
returns-clause-total g c =
    let l = c.self.inside in
    let at = c.first_of-first.ensures in
    let hv = c.deref.ensures.value in
    let nv = c.deref-2.ensures.value in
    let hs = c.deref.result.now in
    let ns = c.deref-2.result.now in
    let first = c.first_of-first.result in
    let found : slice_get (filter (λ (s : Spot). s.key == c.args.key) (walk_from l.nodes.items at.0.first)) c.args.nth
    ≡ Some c.in_ok-spot.spot =
    ap (λ ss. slice_get (filter (λ (s : Spot). s.key == c.args.key) ss) c.args.nth)
    (sym (walked l.heads.items l.nodes.items c.self.invariant c.args.key hs ns first hv nv at))
    ∙ sym c.in_ok-spot.ensures in
    let r = leaves_so l.heads.items l.nodes.items c.self.invariant c.args.key c.args.nth at.0
    (head_at l.heads.items l.nodes.items c.self.invariant c.args.key hs ns first hv nv at) c.in_ok-spot.spot
    c.unlink.new.heads.items c.unlink.new.nodes.items found c.unlink.ensures in
    sym (ap (λ (v : WaiterLists). total v) c.self.view_is) ∙ r.1
