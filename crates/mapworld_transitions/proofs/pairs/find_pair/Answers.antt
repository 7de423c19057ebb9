use Rattle.std.proofs.Common.{is_some, ap, ◌∙◌, sym}
use Rattle.dashmap_table.specs.Slots.{slot_of}
use Rattle.mapworld_transitions.proofs.Slotted.{hashes-alike, slot-of_key, slot-present, if-some}
use Rattle.mapworld_transitions.proofs.pairs.find_pair.Goals as goal

pub returns-clause-present : goal.returns-clause-present
returns-clause-present g c =
    ap is_some (c.find.ensures.slot ∙ ap (λ h. slot_of g.K.PartialEq.eq c.args.shard.now.slots h c.args.key.now)
    c.hash_one.ensures)
    ∙ slot-present g.K.PartialEq.eq _
    (hashes-alike g.S.BuildHasher g.S.Hasher.Hasher g.K.Hash.hash_input c.args.hasher.now g.K.PartialEq.eq
    g.met.K.Hash.respects_eq) c.args.shard.now c.requires.hashed c.args.key.now

pub returns-clause-there : goal.returns-clause-there
returns-clause-there g c =
    if-some c.find.result
    (λ i is. slot-of_key g.K.PartialEq.eq _
    (hashes-alike g.S.BuildHasher g.S.Hasher.Hasher g.K.Hash.hash_input c.args.hasher.now g.K.PartialEq.eq
    g.met.K.Hash.respects_eq) c.args.shard.now c.requires.hashed c.args.key.now i
    (ap (λ h. slot_of g.K.PartialEq.eq c.args.shard.now.slots h c.args.key.now) (sym c.hash_one.ensures)
    ∙ (sym c.find.ensures.slot ∙ is)))
