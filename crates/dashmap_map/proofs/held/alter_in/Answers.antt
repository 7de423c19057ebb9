use Rattle.std.proofs.Common.{◌≡◌, IsSome, refl, sym, subst, ◌∙◌}
use Rattle.dashmap_table.specs.Table.{with_value}
use Rattle.dashmap_table.proofs.Finding.{slot_of-is}
use Rattle.dashmap_map.specs.Calls.{MakesAt}
use Rattle.dashmap_map.proofs.Putting.{found_slot_so}
use Rattle.dashmap_map.proofs.held.alter_in.Goals as goal

pub lend-requires : goal.lend-requires
lend-requires g c =
    let is = slot_of-is g.K.PartialEq.eq c.args.shard.now.slots c.args.hash c.args.key.now c.in-Some.slot
    (sym c.find.ensures.slot ∙ c.in-Some.is) in
    subst IsSome (sym is.1) refl

pub returns-clause-present : goal.returns-clause-present
returns-clause-present g c =
    let old = c.args.shard.now in
    let left = c.map_in_place_2.new.pair.1.0 in
    found_slot_so g.K.PartialEq.eq old old c.args.hash c.args.key.now
    (λ i k v. (made : g.row.V.Denot) × MakesAt g.F.FnOnce c.args.f k v made
    × (with_value old c.in-Some.slot left ≡ with_value old i made))
    c.in-Some.slot _ _ (sym c.find.ensures.slot ∙ c.in-Some.is) c.lend.ensures.pair
    (left, (c.lend.result.0, c.map_in_place_2.ensures, refl), refl)
