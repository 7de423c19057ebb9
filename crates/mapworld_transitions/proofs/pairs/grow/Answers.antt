use Rattle.std.proofs.Common.{◌≡◌, ◌+◌, ◌*◌, ◌≤◌, arith, max}
use Rattle.dashmap_table.specs.Slots.{count}
use Rattle.dashmap_table.specs.Table.{grown_to}
use Rattle.dashmap_table.proofs.Effects.{each-same}
use Rattle.mapworld_transitions.proofs.Slotted.{grown-same, on-ok}
use Rattle.mapworld_transitions.proofs.pairs.grow.Goals as goal

pub returns-clause-grown : goal.returns-clause-grown
returns-clause-grown g c =
    let h = c.requires.hashed in
    on-ok c.reserve.result (count c.reserve.new.self.slots + (c.len-more.result + 4) ≤ c.reserve.new.self.room)
    c.reserve.ensures.ok (λ enough.
    let same = c.reserve.ensures.pairs.counted in
    let many = c.len-more.ensures.count in
    let old = count c.args.shard.now.slots in
    let most : c.reserve.new.self.room ≤ max c.args.shard.now.room (4 * grown_to old (old + 4)) =
    omega (arith, c.reserve.ensures.most, many) in
    grown-same g.K.PartialEq.eq g.met.K.Eq.laws h.0 h.1 c.args.shard.now c.reserve.new.self h.2 c.reserve.ensures.sound
    c.reserve.ensures.pairs (omega (arith, enough, same, many)) most)

pub returns-clause-hashed : goal.returns-clause-hashed
returns-clause-hashed g c hash hashed =
    each-same g.K.PartialEq.eq g.met.K.Eq.laws (λ h k. h ≡ hash k) c.args.shard.now c.reserve.new.self
    c.reserve.ensures.sound c.reserve.ensures.pairs hashed
