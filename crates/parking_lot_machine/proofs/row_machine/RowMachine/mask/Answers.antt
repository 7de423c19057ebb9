use Rattle.parking_lot_machine.proofs.Calling.{room_settled}
use Rattle.std.proofs.Common.{refl, ℕ, false, List, map, bit_and, slice_set, Option, Some, sym, ap, ◌∙◌, subst, arith}
use Rattle.std.specs.Option.{option_map}
use Rattle.parking_lot_core_model.specs.Machine.{Machine, stored, machine}
use Rattle.parking_lot_core_model.specs.Sound.{Sound}
use Rattle.parking_lot_protocol.specs.declared.act.Act.TheVariants as act
use Rattle.parking_lot_protocol.specs.declared.act.ActResult.TheVariants as seen
use Rattle.parking_lot_machine_calls.specs.declared.open_call.Call.{Call}
use Rattle.parking_lot_machine_calls.specs.declared.seat.WakeResult.TheVariants as told
use Rattle.parking_lot_machine.specs.Rows.{Rows, State, state}
use Rattle.parking_lot_machine_calls.specs.Stances.{sign}
use Rattle.parking_lot_machine.specs.RowActs.{with_word}
use Rattle.parking_lot_machine_calls.specs.CallActs.{settled, hears}
use Rattle.parking_lot_machine.specs.RowFits.{FitsTogether}
use Rattle.parking_lot_machine.proofs.TellActs.{laws}
use Rattle.parking_lot_machine.proofs.Holding.{fits, held, low, word_low}
use Rattle.parking_lot_machine.proofs.LotCalls.{inside_key, lot_never_refuses}
use Rattle.parking_lot_machine.specs.RowActs.{key_in}
use Rattle.parking_lot_machine_calls.proofs.Stancing.{leads_by}
use Rattle.parking_lot_machine.proofs.row_machine.RowMachine.mask.Goals as goal

-- src/acts.rt:165:9
pub store-requires : goal.store-requires
store-requires g c =
    record {
      inside = lot_never_refuses.masks _ c.args.thread c.args.call c.args.keep
          (c.self.invariant.0.lots, held c.args.thread c.args.call c.self.view_is c.requires.here, c.requires.asked);
    }

-- src/acts.rt:75:9
pub index_mut-requires : goal.index_mut-requires
index_mut-requires g c =
    omega (
      arith,
      word_low c.args.thread c.args.call c.self.view_is c.requires.here c.self.invariant.0,
      c.self.inside.words.ok.0,
    )

-- src/acts.rt:76:9
pub index_mut-requires-2 : goal.index_mut-requires-2
index_mut-requires-2 g c =
    omega (arith, low c.args.thread c.args.call c.self.view_is c.requires.here, c.self.inside.calls.ok.0)

-- src/acts.rt:66:5
pub returns : goal.returns
returns g c =
    let s : State = state c.args.self.now in
    let done : State → List (Option Call) → ℕ → Machine → State =
    λ m calls word lot. with_word (record m { calls = calls; lot = lot }) c.args.call.lock
    (bit_and word c.args.keep) in
    let all : List (Option Call) → Call → List (Option Call) =
    λ calls next. map (option_map (settled c.args.thread told.TryAgain)) (slice_set calls c.args.thread (Some next))
    in
    let key : ℕ = key_in c.args.call in
    let l = leads_by c.args.call.core (act.FetchAnd c.args.keep) 0 (seen.Before 0) c.requires.asked refl in
    let in_it = inside_key _ c.args.thread c.args.call l.0 _ c.self.invariant.0.lots
    (held c.args.thread c.args.call c.self.view_is c.requires.here) l.1 in
    ap (λ (m : Rows). done (state m) c.settle.new.calls.items c.word-word.result (machine c.store.new.lot))
    c.self.view_is
    ∙ ap (λ calls. done s calls c.word-word.result (machine c.store.new.lot))
    (c.settle.ensures ∙ ap (λ (m : Rows). all m.calls c.told.result) c.self.view_is)
    ∙ ap (done s (all s.calls c.told.result) c.word-word.result)
    (c.store.ensures.stored in_it.0 in_it.1
    ∙ ap (λ (k : ℕ). stored (machine c.self.inside.lot) k (sign false)) in_it.2
    ∙ ap (λ (m : Rows). stored (machine m.lot) key (sign false)) c.self.view_is)
    ∙ ap (λ next. done s (all s.calls next) c.word-word.result (stored s.lot key (sign false))) c.told.ensures
    ∙ ap (λ word. done s (all s.calls (hears c.args.call (seen.Before word))) word (stored s.lot key (sign false)))
    c.word-word.ensures

-- src/acts.rt:66:5
pub invariant_of-self : goal.invariant_of-self
invariant_of-self g c = (
  let e = returns g c in
      subst FitsTogether (sym e)
      (laws.mask (state c.args.self.now) c.args.thread c.args.call c.args.keep c.requires.asked
      (subst Sound (ap (λ (s : State). s.lot) e) c.store.ensures.sound) (fits c.self.view_is c.self.invariant.0)
      c.requires.here).1.fits,
  room_settled _ _ _ _ _ _ c.settle.ensures c.self.invariant.1,
)
