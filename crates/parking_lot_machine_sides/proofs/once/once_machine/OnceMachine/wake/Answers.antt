use Rattle.std.proofs.Common.{◌≡◌, ℕ, Some, position, slice_set, sym, ap, ◌∙◌, subst, arith}
use Rattle.std.proofs.lemmas.List.{length-set}
use Rattle.std.specs.Option.{option_map}
use Rattle.parking_lot_machine_sides.specs.Once.Entries.{is_in}
use Rattle.parking_lot_machine_sides.specs.Once.OnceActs.{thread_in, woke, woke_by, woken}
use Rattle.parking_lot_machine_sides.specs.Once.OnceFits.{Fits}
use Rattle.parking_lot_machine_sides.specs.Once.Onces.{Onces, call_in}
use Rattle.parking_lot_machine_sides.proofs.OnceFacts.Acting.{within}
use Rattle.parking_lot_machine_sides.proofs.OnceFacts.Holding.{held, low}
use Rattle.parking_lot_machine_sides.proofs.OnceFacts.Listing.{found}
use Rattle.parking_lot_machine_sides.proofs.OnceFacts.Making.{its_thread, woke_made}
use Rattle.parking_lot_machine_sides.proofs.OnceFacts.Waking.{wakes_is, wakes_one, whom}
use Rattle.parking_lot_machine_sides.proofs.once.once_machine.OnceMachine.wake.Goals as goal

pub index_mut-requires : goal.index_mut-requires
index_mut-requires g c =
    let s : Onces = record {
      words = c.self.inside.words.items;
      calls = c.self.inside.calls.items;
      waiting = c.self.inside.waiting.items;
      wakes = c.self.inside.wakes.items;
      inside = c.self.inside.inside.items;
    } in
    let count = wakes_is c.args.call.core.phase c.requires.asked in
    let first = found c.args.thread s.wakes c.in-Some.at
    (sym (c.first_of.ensures ∙ ap (position (is_in c.args.thread)) c.deref.ensures.value) ∙ c.in-Some.is) in
    let b = whom s c.args.thread c.args.call c.self.invariant.0
    (held c.args.thread c.args.call c.self.view_is c.requires.here) count.0 count.1 c.in-Some.at first in
    omega (
      arith,
      within s.calls (thread_in s.wakes c.in-Some.at) b.0 b.2,
      its_thread c.args.thread s.wakes c.in-Some.at c.remove-sleeper.result first c.remove-sleeper.ensures.value,
      c.self.inside.calls.ok.0,
    )

pub index_mut-requires-2 : goal.index_mut-requires-2
index_mut-requires-2 g c =
    omega (arith, low c.args.thread c.args.call c.self.view_is c.requires.here, c.self.inside.calls.ok.0)

pub returns : goal.returns
returns g c =
    let s : Onces = record {
      words = c.self.inside.words.items;
      calls = c.self.inside.calls.items;
      waiting = c.self.inside.waiting.items;
      wakes = c.self.inside.wakes.items;
      inside = c.self.inside.inside.items;
    } in
    let at : position (is_in c.args.thread) s.wakes ≡ Some c.in-Some.at =
    sym (c.first_of.ensures ∙ ap (position (is_in c.args.thread)) c.deref.ensures.value) ∙ c.in-Some.is in
    let first = found c.args.thread s.wakes c.in-Some.at at in
    let v : ℕ = c.remove-sleeper.result.thread in
    woke_made s c.args.thread c.args.call c.in-Some.at v c.woken.result c.told.result c.remove-sleeper.new.self.items at
    (its_thread c.args.thread s.wakes c.in-Some.at c.remove-sleeper.result first c.remove-sleeper.ensures.value)
    (c.woken.ensures ∙ ap (option_map woken)
    (c.call_in.ensures ∙ ap (λ calls. call_in calls v) c.deref-2.ensures.value))
    c.told.ensures
    c.remove-sleeper.ensures.items
    ∙ ap (λ (m : Onces). woke m c.args.thread c.args.call) c.self.view_is

pub invariant_of-self : goal.invariant_of-self
invariant_of-self g c =
    let s : Onces = record {
      words = c.self.inside.words.items;
      calls = c.self.inside.calls.items;
      waiting = c.self.inside.waiting.items;
      wakes = c.self.inside.wakes.items;
      inside = c.self.inside.inside.items;
    } in
    let count = wakes_is c.args.call.core.phase c.requires.asked in
    let at : position (is_in c.args.thread) s.wakes ≡ Some c.in-Some.at =
    sym (c.first_of.ensures ∙ ap (position (is_in c.args.thread)) c.deref.ensures.value) ∙ c.in-Some.is in
    let first = found c.args.thread s.wakes c.in-Some.at at in
    let v : ℕ = c.remove-sleeper.result.thread in
    let fits : Fits (woke s c.args.thread c.args.call) = subst (λ o. Fits (woke_by o s c.args.thread c.args.call))
    (sym at)
    (wakes_one s c.args.thread c.args.call c.self.invariant.0
    (held c.args.thread c.args.call c.self.view_is c.requires.here) count.0 count.1 c.in-Some.at first).fits in (
      subst Fits (sym (returns g c ∙ sym (ap (λ (m : Onces). woke m c.args.thread c.args.call) c.self.view_is))) fits,
      omega (
        arith,
        length-set s.calls v c.woken.result,
        length-set (slice_set s.calls v c.woken.result) c.args.thread
            (Some c.told.result),
        c.self.invariant.1,
      ),
      omega (
        arith,
        length-set s.calls v c.woken.result,
        length-set (slice_set s.calls v c.woken.result) c.args.thread
            (Some c.told.result),
        c.self.invariant.2,
        c.remove-sleeper.ensures.capacity,
      ),
    )
