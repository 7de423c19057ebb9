use Rattle.std.proofs.Common.{◌≡◌, ◌+◌, sym, ap, arith, ◌<◌}
use Rattle.dashmap_table.specs.Slots.{count}
use Rattle.dashmap_table.specs.Table.{Table}
use Rattle.dashmap_table.proofs.TagChanges.{room-within}
use Rattle.dashmap_table.proofs.tag_table.TagTable.shrink.Goals as goal

pub returns-in-Some-2-clause-tight : goal.returns-in-Some-2-clause-tight
returns-in-Some-2-clause-tight g c =
    let within = room-within g.K.PartialEq.eq _ _ _ _ c.self.invariant in
    let room : c.args.self.now.room ≡ c.self.inside.full + c.self.inside.left =
    sym (ap (λ (t : Table g.row.K.Denot g.row.V.Denot). t.room) c.self.view_is) in
    let full : count c.args.self.now.slots ≡ count c.self.inside.slots.items =
    sym (ap (λ (t : Table g.row.K.Denot g.row.V.Denot). count t.slots) c.self.view_is) in
    let some : 0 < c.self.inside.full = omega (arith, c.if-self-eq0-2.false) in
    omega (
      arith,
      room,
      full,
      c.self.invariant.counted,
      within.0,
      c.self.inside.slots.ok.0,
      c.len.ensures,
      c.if-slots-len.false,
      c.in-Some.ensures.tight some,
    )
