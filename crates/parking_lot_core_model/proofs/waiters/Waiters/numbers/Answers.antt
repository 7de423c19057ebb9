use Rattle.std.proofs.Common.{◌≡◌, ℕ, ◌∙◌, ◌==◌, sym, ap, List, map, filter}
use Rattle.std.proofs.lemmas.Result.{IfOk-weaker}
use Rattle.std.proofs.lemmas.Simd.{map-map}
use Rattle.parking_lot_core_model.specs.Lists.{lists_of}
use Rattle.parking_lot_core_model.specs.Chains.{WaiterLists, queued, walk_from, entries}
use Rattle.parking_lot_core_model.specs.declared.chains.Spot.{Spot}
use Rattle.parking_lot_core_model.specs.declared.place.Waiter.{Waiter}
use Rattle.parking_lot_core_model.proofs.Changing.{looked}
use Rattle.parking_lot_core_model.proofs.waiters.Waiters.numbers.Goals as goal

pub returns : goal.returns
returns g c =
    let l = c.self.inside in
    let met : List Spot = filter (λ (s : Spot). s.key == c.args.key) (walk_from c.deref.result.now c.first_of.result) in
    let look : map (λ (s : Spot). s.waiter) met ≡ lists_of (entries l.nodes.items l.heads.items) c.args.key =
    looked l.heads.items l.nodes.items c.self.invariant c.args.key c.deref-2.result.now c.deref.result.now
    c.first_of.result
    c.deref-2.ensures.value c.deref.ensures.value c.first_of.ensures in
    let threads = map (λ (w : Waiter). w.thread) in
    IfOk-weaker c.threads_under.result _ _
    (λ found h. h
    ∙ (sym (map-map (λ (w : Waiter). w.thread) (λ (s : Spot). s.waiter) met)
    ∙ (ap threads look ∙ ap (λ (v : WaiterLists). threads (queued v c.args.key)) c.self.view_is)))
    c.threads_under.ensures
