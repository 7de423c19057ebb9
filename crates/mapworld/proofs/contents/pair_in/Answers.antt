use Rattle.std.proofs.Common.{sym, ap, ◌∙◌}
use Rattle.std.specs.Option.{option_map}
use Rattle.dashmap_table.specs.Slots.{pair_of as entry_pair}
use Rattle.mapworld_transitions.proofs.Slotted.{pair-at_key}
use Rattle.mapworld.proofs.contents.pair_in.Goals as goal

pub returns-in-Some : goal.returns-in-Some
returns-in-Some g c =
    let k = c.in-Some.ensures.there in
    sym c.pair_at.ensures ∙ (ap (option_map entry_pair) k.there
    ∙ sym (pair-at_key g.K.PartialEq.eq g.met.K.Eq.laws c.args.shard.now c.in-Some.slot c.args.key.now
    c.requires.distinct k))
