use Rattle.std.proofs.Common.{◌≡◌, ℕ, is_some, sym, ap, ◌∙◌, arith}
use Rattle.std.proofs.Math.Nat.{mod-eq_of_lt}
use Rattle.std.proofs.lemmas.Bool.{le-ltb}
use Rattle.parking_lot_core_model.specs.Machine.{machine, open_at}
use Rattle.parking_lot_machine_waits.specs.Joint.{Joint, is_open_in}
use Rattle.parking_lot_machine.specs.Rows.{state}
use Rattle.parking_lot_machine_waits.proofs.Keepers.{none_past}
use Rattle.parking_lot_machine_waits.proofs.machines.Machines.is_open_in.Goals as goal

pub returns-then-bucket-buckets : goal.returns-then-bucket-buckets
returns-then-bucket-buckets g c =
    let j = c.args.self.now in
    c.is_entered.ensures.entered
    ∙ (ap (λ l. is_some (open_at (machine l) c.args.bucket))
    (c.lot.ensures ∙ ap (λ (i : Joint). i.rows.lot) c.self.view_is)
    ∙ ap (λ (b : ℕ). is_open_in (state j.rows) b)
    (mod-eq_of_lt (omega (arith, c.buckets.ensures.count, c.if-bucket-buckets.true))))

pub returns-else-bucket-buckets : goal.returns-else-bucket-buckets
returns-else-bucket-buckets g c =
    let j = c.args.self.now in
    le-ltb c.args.bucket c.buckets.result c.if-bucket-buckets.false
    ∙ sym (none_past j.rows.lot.by_bucket c.args.bucket
    (omega (arith, c.buckets.ensures.count, c.if-bucket-buckets.false)))
