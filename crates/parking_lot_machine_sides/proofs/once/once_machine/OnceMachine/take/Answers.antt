use Rattle.std.proofs.Common.{◌≡◌, ℕ, Some, is_some, position, slice_set, sym, ap, ◌∙◌, subst, arith}
use Rattle.std.proofs.lemmas.List.{length-set}
use Rattle.std.specs.Option.{option_map}
use Rattle.parking_lot_protocol.specs.declared.act.ActResult.TheVariants as seen
use Rattle.parking_lot_machine_sides.specs.Once.Entries.{is_in}
use Rattle.parking_lot_machine_sides.specs.Once.OnceActs.{off_list, thread_in, told, took, took_by}
use Rattle.parking_lot_machine_sides.specs.Once.OnceFits.{Fits}
use Rattle.parking_lot_machine_sides.specs.Once.Onces.{Onces, call_in}
use Rattle.parking_lot_machine_sides.proofs.OnceFacts.Acting.{within}
use Rattle.parking_lot_machine_sides.proofs.OnceFacts.Finding.{finds_nobody, takes_is}
use Rattle.parking_lot_machine_sides.proofs.OnceFacts.Holding.{held, low, room_set}
use Rattle.parking_lot_machine_sides.proofs.OnceFacts.Listing.{found, nobody}
use Rattle.parking_lot_machine_sides.proofs.OnceFacts.Making.{its_thread, took_made}
use Rattle.parking_lot_machine_sides.proofs.OnceFacts.Taking.{takes_one, whom}
use Rattle.parking_lot_machine_sides.proofs.once.once_machine.OnceMachine.take.Goals as goal

pub invariant_of-self : goal.invariant_of-self
invariant_of-self g c =
    let s : Onces = record {
      words = c.self.inside.words.items;
      calls = c.self.inside.calls.items;
      waiting = c.self.inside.waiting.items;
      wakes = c.self.inside.wakes.items;
      inside = c.self.inside.inside.items;
    } in
    let scans = takes_is c.args.call.core.phase c.requires.asked.0 c.requires.asked.1 in
    let none = nobody c.args.call.once s.waiting
    (sym (c.first_of.ensures ∙ ap (position (is_in c.args.call.once)) c.deref.ensures.value) ∙ c.in_default.is) in (
      subst (λ d. Fits (record s { calls = slice_set s.calls c.args.thread (Some d) })) (sym c.told.ensures)
          (finds_nobody s c.args.thread c.args.call c.self.invariant.0
          (held c.args.thread c.args.call c.self.view_is c.requires.here) scans.0 scans.1 scans.2 none).fits,
      room_set _ _ _ _ c.self.invariant.1,
      room_set _ _ _ _ c.self.invariant.2,
    )

pub index_mut-requires-2 : goal.index_mut-requires-2
index_mut-requires-2 g c =
    let s : Onces = record {
      words = c.self.inside.words.items;
      calls = c.self.inside.calls.items;
      waiting = c.self.inside.waiting.items;
      wakes = c.self.inside.wakes.items;
      inside = c.self.inside.inside.items;
    } in
    let scans = takes_is c.args.call.core.phase c.requires.asked.0 c.requires.asked.1 in
    let first = found c.args.call.once s.waiting c.in-Some.at
    (sym (c.first_of.ensures ∙ ap (position (is_in c.args.call.once)) c.deref.ensures.value) ∙ c.in-Some.is) in
    let b = whom s c.args.thread c.args.call c.self.invariant.0
    (held c.args.thread c.args.call c.self.view_is c.requires.here) scans.0 scans.1 scans.2 c.in-Some.at first in
    omega (
      arith,
      within s.calls (thread_in s.waiting c.in-Some.at) b.0 b.1,
      its_thread c.args.call.once s.waiting c.in-Some.at c.remove-sleeper.result first c.remove-sleeper.ensures.value,
      c.self.inside.calls.ok.0,
    )

pub index_mut-requires-3 : goal.index_mut-requires-3
index_mut-requires-3 g c =
    omega (arith, low c.args.thread c.args.call c.self.view_is c.requires.here, c.self.inside.calls.ok.0)

pub returns : goal.returns
returns g c =
    let s : Onces = record {
      words = c.self.inside.words.items;
      calls = c.self.inside.calls.items;
      waiting = c.self.inside.waiting.items;
      wakes = c.self.inside.wakes.items;
      inside = c.self.inside.inside.items;
    } in
    let at : position (is_in c.args.call.once) s.waiting ≡ Some c.in-Some.at =
    sym (c.first_of.ensures ∙ ap (position (is_in c.args.call.once)) c.deref.ensures.value) ∙ c.in-Some.is in
    let first = found c.args.call.once s.waiting c.in-Some.at at in
    let v : ℕ = c.remove-sleeper.result.thread in
    took_made s c.args.thread c.args.call c.in-Some.at v c.off_list.result c.told-2.result
    c.remove-sleeper.new.self.items c.push_reserved.new.self.items at
    (its_thread c.args.call.once s.waiting c.in-Some.at c.remove-sleeper.result first c.remove-sleeper.ensures.value)
    (c.off_list.ensures ∙ ap (option_map (off_list c.args.thread))
    (c.call_in.ensures ∙ ap (λ calls. call_in calls v) c.deref-3.ensures.value))
    (c.told-2.ensures ∙ ap (λ left. told c.args.call (seen.Took (Some (record { 0 = 0 })) left))
    (c.is_some-left.ensures
    ∙ ap is_some (c.first_of-2.ensures ∙ ap (position (is_in c.args.call.once)) c.deref-2.ensures.value)))
    c.remove-sleeper.ensures.items
    c.push_reserved.ensures.items
    ∙ ap (λ (m : Onces). took m c.args.thread c.args.call) c.self.view_is

pub invariant_of-self-2 : goal.invariant_of-self-2
invariant_of-self-2 g c =
    let s : Onces = record {
      words = c.self.inside.words.items;
      calls = c.self.inside.calls.items;
      waiting = c.self.inside.waiting.items;
      wakes = c.self.inside.wakes.items;
      inside = c.self.inside.inside.items;
    } in
    let scans = takes_is c.args.call.core.phase c.requires.asked.0 c.requires.asked.1 in
    let at : position (is_in c.args.call.once) s.waiting ≡ Some c.in-Some.at =
    sym (c.first_of.ensures ∙ ap (position (is_in c.args.call.once)) c.deref.ensures.value) ∙ c.in-Some.is in
    let first = found c.args.call.once s.waiting c.in-Some.at at in
    let v : ℕ = c.remove-sleeper.result.thread in
    let fits : Fits (took s c.args.thread c.args.call) = subst (λ o. Fits (took_by o s c.args.thread c.args.call))
    (sym at)
    (takes_one s c.args.thread c.args.call c.self.invariant.0
    (held c.args.thread c.args.call c.self.view_is c.requires.here) scans.0 scans.1 scans.2 c.in-Some.at first).fits
    in (
      subst Fits (sym (returns g c ∙ sym (ap (λ (m : Onces). took m c.args.thread c.args.call) c.self.view_is))) fits,
      omega (
        arith,
        length-set s.calls v c.off_list.result,
        length-set (slice_set s.calls v c.off_list.result)
            c.args.thread (Some c.told-2.result),
        c.self.invariant.1,
        c.remove-sleeper.ensures.capacity,
      ),
      omega (
        arith,
        length-set s.calls v c.off_list.result,
        length-set (slice_set s.calls v c.off_list.result)
            c.args.thread (Some c.told-2.result),
        c.self.invariant.2,
        c.push_reserved.ensures.capacity,
      ),
    )
