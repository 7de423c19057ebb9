use Rattle.std.proofs.Common.{◌∙◌, ◌<◌, None, ap, sym, get_or, length, set, arith}
use Rattle.std.specs.Option.{option_map}
use Rattle.std.proofs.lemmas.List.Edits.{map_over_more}
use Rattle.std.proofs.lemmas.Option.{slice_get-get_or, get_or_from_slice_get}
use Rattle.parking_lot_machine_calls.specs.CallActs.{settled}
use Rattle.parking_lot_machine.proofs.acts.settle_each.Goals as goal

-- src/acts.rt:29:5
pub loop-call-preserved : goal.loop-call-preserved
loop-call-preserved c =
    let xs = c.args.calls.now in
    let ys = c.loop-call.calls in
    let i = c.loop-call.call-index in
    let within : i < length ys = omega arith in
    ap (set ys i) c.settled.ensures ∙ map_over_more (option_map (settled c.args.by c.args.said)) xs ys i
    (get_or ys i None) c.loop-call-test.true c.loop-call.invariant
    (sym (get_or_from_slice_get ys i (get_or ys i None) (get_or ys i None) (slice_get-get_or ys i None within)))
