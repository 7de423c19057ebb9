use Rattle.parking_lot_machine.proofs.Calling.{room_settled}
use Rattle.std.proofs.Common.{false, ℕ, List, map, slice_set, Option, Some, sym, ap, ◌∙◌, subst, arith}
use Rattle.std.specs.Option.{option_map}
use Rattle.parking_lot_core_model.specs.declared.parking.UnparkToken.{UnparkToken}
use Rattle.parking_lot_core_model.specs.Machine.{Machine, stored, machine}
use Rattle.parking_lot_core_model.specs.Sound.{Sound}
use Rattle.parking_lot_protocol.specs.declared.act.ActResult.TheVariants as seen
use Rattle.parking_lot_protocol.specs.declared.act.Act.TheVariants as act
use Rattle.parking_lot_protocol.specs.declared.act.SectionAct.TheVariants as section
use Rattle.parking_lot_protocol.specs.Acts.{change_of}
use Rattle.parking_lot_protocol.specs.declared.act.WordChange.{WordChange}
use Rattle.parking_lot_machine_calls.specs.declared.open_call.Call.{Call}
use Rattle.parking_lot_machine_calls.specs.declared.seat.WakeResult.{WakeResult}
use Rattle.parking_lot_machine.specs.Rows.{Rows, State, state, word_at}
use Rattle.parking_lot_machine_calls.specs.Stances.{core_tells}
use Rattle.parking_lot_machine.specs.RowActs.{with_word, told_all}
use Rattle.parking_lot_machine_calls.specs.CallActs.{settled, told_of}
use Rattle.parking_lot_machine.specs.RowFits.{FitsTogether}
use Rattle.parking_lot_machine.proofs.TellActs.{laws}
use Rattle.parking_lot_machine.proofs.Holding.{fits, held, low, word_low}
use Rattle.parking_lot_machine.proofs.LotCalls.{inside_key, lot_never_refuses}
use Rattle.parking_lot_machine.specs.RowActs.{key_in}
use Rattle.parking_lot_machine_calls.proofs.Stancing.{leads_by}
use Rattle.parking_lot_machine.proofs.row_machine.RowMachine.store.Goals as goal

-- src/acts.rt:175:9
pub store-requires : goal.store-requires
store-requires g c =
    let asked = c.requires.asked in
    record {
      inside = lot_never_refuses.stores _ c.args.thread c.args.call asked.0 asked.1
          (c.self.invariant.0.lots, held c.args.thread c.args.call c.self.view_is c.requires.here, asked.2);
    }

-- src/acts.rt:176:9
pub index_mut-requires : goal.index_mut-requires
index_mut-requires g c =
    omega (
      arith,
      word_low c.args.thread c.args.call c.self.view_is c.requires.here c.self.invariant.0,
      c.self.inside.words.ok.0,
    )

-- src/acts.rt:177:9
pub index_mut-requires-2 : goal.index_mut-requires-2
index_mut-requires-2 g c =
    omega (arith, low c.args.thread c.args.call c.self.view_is c.requires.here, c.self.inside.calls.ok.0)

-- src/acts.rt:168:5
pub returns : goal.returns
returns g c =
    let s : State = state c.args.self.now in
    let done : State → List (Option Call) → ℕ → Machine → State =
    λ m calls word lot. with_word (record m { calls = calls; lot = lot }) c.args.call.lock word in
    let all : List (Option Call) → Call → WakeResult → List (Option Call) =
    λ calls next said. map (option_map (settled c.args.thread said)) (slice_set calls c.args.thread (Some next)) in
    let lot : Machine = machine c.store.new.lot in
    let next : Call = c.told-next.result in
    let token : UnparkToken = c.wake_token-token.result in
    let word : ℕ = change_of c.args.change (word_at s c.args.call.lock) in
    let key : ℕ = key_in c.args.call in
    let l = leads_by c.args.call.core (act.Section (section.Store c.requires.asked.0 c.requires.asked.1)) 0
    (seen.Stored false) c.requires.asked.2 tt in
    let in_it = inside_key _ c.args.thread c.args.call l.0 _ c.self.invariant.0.lots
    (held c.args.thread c.args.call c.self.view_is c.requires.here) l.1 in
    ap (λ (m : Rows). done (state m) c.settle.new.calls.items c.of.result lot) c.self.view_is
    ∙ ap (λ calls. done s calls c.of.result lot)
    (c.settle.ensures ∙ ap (λ (m : Rows). all m.calls next c.by.result) c.self.view_is
    ∙ ap (all s.calls next) c.by.ensures)
    ∙ ap (done s (all s.calls next (told_of token)) c.of.result)
    (c.store.ensures.stored in_it.0 in_it.1
    ∙ ap (λ (k : ℕ). stored (machine c.self.inside.lot) k token) in_it.2
    ∙ ap (λ (m : Rows). stored (machine m.lot) key token) c.self.view_is)
    ∙ ap (λ w. done s (all s.calls next (told_of token)) w (stored s.lot key token))
    (c.of.ensures ∙ ap (change_of c.args.change) c.word-word.ensures)
    ∙ ap (λ said. done s (all s.calls next (told_of said)) word (stored s.lot key said)) c.wake_token-token.ensures
    ∙ ap (λ (d : Call). done s (all s.calls d (told_of (core_tells d.core))) word
    (stored s.lot key (core_tells d.core)))
    c.told-next.ensures

-- src/acts.rt:168:5
pub invariant_of-self : goal.invariant_of-self
invariant_of-self g c = (
  let s : State = state c.args.self.now in
      let asked = c.requires.asked in
      let e = returns g c ∙ ap (λ (change : WordChange). told_all s c.args.thread c.args.call change c.args.fair)
      asked.3 in
      subst FitsTogether (sym e)
      (laws.store s c.args.thread c.args.call asked.0 asked.1 c.args.fair asked.2
      (subst Sound (ap (λ (s : State). s.lot) e) c.store.ensures.sound) (fits c.self.view_is c.self.invariant.0)
      c.requires.here).1.fits,
  room_settled _ _ _ _ _ _ c.settle.ensures c.self.invariant.1,
)
