use Rattle.std.proofs.Common.{◌≡◌, length, ap, arith}
use Rattle.parking_lot_core_model.proofs.Sequences.{sound_made}
use Rattle.parking_lot_core_model.proofs.lot.Lot.made.Goals as goal

pub invariant_of-result : goal.invariant_of-result
invariant_of-result g c =
    let q = c.in_ok-new.ensures in
    let e = c.in_ok-new-2.ensures in
    let z : length c.new-4.result.items ≡ 0 = ap length c.new-4.ensures.items in
    let t = q.1 in (
      sound_made c.args.max_threads c.args.number c.args.paired _ _ _ _ _ _ q.0 c.new-2.ensures c.new-4.ensures.items
          e.0 e.1 e.2,
      record {
        waits = omega (arith, t);
        room = omega arith;
        enters = omega arith;
        threads = omega arith;
        limit = c.requires.few;
      },
    )
