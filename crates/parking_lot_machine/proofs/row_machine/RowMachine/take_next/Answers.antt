use Rattle.std.proofs.Common.{ℕ, Some, None, Ok, false, length, ap, sym, ◌∙◌, subst, arith}
use Rattle.std.proofs.lemmas.List.{length-set}
use Rattle.parking_lot_core_model.specs.Machine.{machine}
use Rattle.parking_lot_protocol.specs.declared.act.Act.TheVariants as act
use Rattle.parking_lot_protocol.specs.declared.act.SectionAct.TheVariants as section
use Rattle.parking_lot_protocol.specs.declared.act.ActResult.TheVariants as seen
use Rattle.parking_lot_machine.specs.NextTakings.{NextTaken}
use Rattle.parking_lot_machine.specs.Passes.{ArePassed, asks}
use Rattle.parking_lot_core_model.specs.Places.{passed_of}
use Rattle.parking_lot_machine.specs.Rows.{Rows, state}
use Rattle.parking_lot_machine_calls.specs.CallActs.{key_of}
use Rattle.parking_lot_machine.proofs.Holding.{fits, held, low, word_low}
use Rattle.parking_lot_machine.proofs.LotCalls.{lot_never_refuses}
use Rattle.parking_lot_machine_calls.proofs.Stancing.{leads_by}
use Rattle.parking_lot_machine.proofs.TakeLaws.{laws}
use Rattle.parking_lot_machine.proofs.Takings.{its, has_passed, is_taken, has_room, taken_in, takes_fit, same_slots}
use Rattle.parking_lot_machine.proofs.row_machine.RowMachine.take_next.Goals as goal

-- src/acts.rt:214:9
pub take_next-taking-requires-clause-inside : goal.take_next-taking-requires-clause-inside
take_next-taking-requires-clause-inside g c = lot_never_refuses.takes _ c.args.thread c.args.call
    (act.Section (section.TakeNext c.args.sum)) tt
    (c.self.invariant.0.lots, held c.args.thread c.args.call c.self.view_is c.requires.here, c.requires.asked)

-- src/acts.rt:214:9
pub take_next-taking-requires-clause-passed : goal.take_next-taking-requires-clause-passed
take_next-taking-requires-clause-passed g c o there =
    let l = leads_by c.args.call.core (act.Section (section.TakeNext c.args.sum)) 0 (seen.Took None false)
    c.requires.asked tt in
    let m : Rows = record {
      kinds = c.self.inside.kinds.items;
      words = c.self.inside.words.items;
      holds = c.self.inside.holds.items;
      calls = c.self.inside.calls.items;
      wakes = c.self.inside.wakes.items;
      lot = c.self.inside.lot;
    } in
    subst (λ a. ArePassed (asks a) ((machine c.self.inside.lot).queues o.key) (passed_of o.phase)) c.requires.asked
    (has_passed (state m) c.args.thread c.args.call l.0 l.1 c.self.invariant.0
    (held c.args.thread c.args.call c.self.view_is c.requires.here) o there)

-- src/acts.rt:214:9
pub take_next-taking-requires-clause-goes : goal.take_next-taking-requires-clause-goes
take_next-taking-requires-clause-goes g c token is =
    let l = leads_by c.args.call.core (act.Section (section.TakeNext c.args.sum)) 0 (seen.Took None false)
    c.requires.asked tt in
    laws.goes_on _ c.args.thread c.args.call l.0 c.self.invariant.0
    (held c.args.thread c.args.call c.self.view_is c.requires.here) l.1 token
    (ap (λ a. asks a token) c.requires.asked ∙ is)

-- src/acts.rt:215:9
pub note_taking-requires-clause-low : goal.note_taking-requires-clause-low
note_taking-requires-clause-low g c x is =
    let t : ℕ = c.args.thread in
    let l = leads_by c.args.call.core (act.Section (section.TakeNext c.args.sum)) 0 (seen.Took None false)
    c.requires.asked tt in
    let h = held t c.args.call c.self.view_is c.requires.here in
    let m : Rows = record {
      kinds = c.self.inside.kinds.items;
      words = c.self.inside.words.items;
      holds = c.self.inside.holds.items;
      calls = c.self.inside.calls.items;
      wakes = c.self.inside.wakes.items;
      lot = c.self.inside.lot;
    } in
    let at = its (state m) t c.args.call l.0 l.1 c.self.invariant.0.lots h in
    let front = subst (λ a. NextTaken (asks a) (machine c.self.inside.lot) (machine c.take_next-taking.new.lot)
    (Ok c.take_next-taking.result) (key_of c.args.call l.0)) (sym c.requires.asked)
    (subst (NextTaken (asks (act.Section (section.TakeNext c.args.sum))) (machine c.self.inside.lot)
    (machine c.take_next-taking.new.lot) (Ok c.take_next-taking.result)) at.key
    (c.take_next-taking.ensures.next at.section at.own)) in
    omega (
      arith,
      (has_room (state m) t c.args.call l.0 l.1 (machine c.take_next-taking.new.lot)
          c.take_next-taking.result front c.self.invariant.0 h x is).0,
      c.self.inside.calls.ok.0,
    )

-- src/acts.rt:215:9
pub note_taking-requires-clause-room : goal.note_taking-requires-clause-room
note_taking-requires-clause-room g c x is =
    let t : ℕ = c.args.thread in
    let l = leads_by c.args.call.core (act.Section (section.TakeNext c.args.sum)) 0 (seen.Took None false)
    c.requires.asked tt in
    let h = held t c.args.call c.self.view_is c.requires.here in
    let m : Rows = record {
      kinds = c.self.inside.kinds.items;
      words = c.self.inside.words.items;
      holds = c.self.inside.holds.items;
      calls = c.self.inside.calls.items;
      wakes = c.self.inside.wakes.items;
      lot = c.self.inside.lot;
    } in
    let at = its (state m) t c.args.call l.0 l.1 c.self.invariant.0.lots h in
    let front = subst (λ a. NextTaken (asks a) (machine c.self.inside.lot) (machine c.take_next-taking.new.lot)
    (Ok c.take_next-taking.result) (key_of c.args.call l.0)) (sym c.requires.asked)
    (subst (NextTaken (asks (act.Section (section.TakeNext c.args.sum))) (machine c.self.inside.lot)
    (machine c.take_next-taking.new.lot) (Ok c.take_next-taking.result)) at.key
    (c.take_next-taking.ensures.next at.section at.own)) in
    omega (
      arith,
      (has_room (state m) t c.args.call l.0 l.1 (machine c.take_next-taking.new.lot)
          c.take_next-taking.result front c.self.invariant.0 h x is).1,
      c.self.invariant.1,
      c.self.inside.wakes.ok.0,
    )

-- src/acts.rt:216:9
pub taker-requires : goal.taker-requires
taker-requires g c =
    record {
      small = omega (
        arith,
        word_low c.args.thread c.args.call c.self.view_is c.requires.here c.self.invariant.0,
        c.self.invariant.0.rules.size_words,
        c.self.invariant.0.rules.few_locks,
      );
    }

-- src/acts.rt:216:9
pub index_mut-requires : goal.index_mut-requires
index_mut-requires g c =
    omega (
      arith,
      low c.args.thread c.args.call c.self.view_is c.requires.here,
      c.self.inside.calls.ok.0,
      c.note_taking.ensures.slots,
    )

-- src/acts.rt:209:5
pub returns : goal.returns
returns g c =
    let t : ℕ = c.args.thread in
    let l = leads_by c.args.call.core (act.Section (section.TakeNext c.args.sum)) 0 (seen.Took None false)
    c.requires.asked tt in
    let h = held t c.args.call c.self.view_is c.requires.here in
    let m : Rows = record {
      kinds = c.self.inside.kinds.items;
      words = c.self.inside.words.items;
      holds = c.self.inside.holds.items;
      calls = c.self.inside.calls.items;
      wakes = c.self.inside.wakes.items;
      lot = c.self.inside.lot;
    } in
    let at = its (state m) t c.args.call l.0 l.1 c.self.invariant.0.lots h in
    let front = subst (λ a. NextTaken (asks a) (machine c.self.inside.lot) (machine c.take_next-taking.new.lot)
    (Ok c.take_next-taking.result) (key_of c.args.call l.0)) (sym c.requires.asked)
    (subst (NextTaken (asks (act.Section (section.TakeNext c.args.sum))) (machine c.self.inside.lot)
    (machine c.take_next-taking.new.lot) (Ok c.take_next-taking.result)) at.key
    (c.take_next-taking.ensures.next at.section at.own)) in
    taken_in t c.args.call _ c.self.view_is
    (is_taken (state m) t c.args.call l.0 l.1 (machine c.take_next-taking.new.lot) c.take_next-taking.result front
    c.note_taking.new.calls.items c.taker.result c.note_taking.new.wakes.items
    c.note_taking.ensures.calls (c.taker.ensures l.0 l.1) c.note_taking.ensures.wakes)

-- src/acts.rt:209:5
pub invariant_of-self : goal.invariant_of-self
invariant_of-self g c =
    let t : ℕ = c.args.thread in
    let fits_now = fits c.self.view_is c.self.invariant.0 in
    let slots = same_slots t c.self.inside.calls.items c.take_next-taking.result in (
      takes_fit (state c.args.self.now) t c.args.call _ (returns g c) c.take_next-taking.ensures.sound fits_now
          c.requires.here,
      omega (
        arith,
        length-set c.note_taking.new.calls.items t (Some c.taker.result),
        ap length c.note_taking.ensures.calls,
        slots,
        c.self.invariant.1,
        c.note_taking.ensures.capacity,
      ),
    )
