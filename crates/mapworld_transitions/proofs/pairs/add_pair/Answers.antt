use Rattle.std.proofs.Common.{ap, ◌∙◌, subst, ltb-true, arith}
use Rattle.dashmap_table.specs.Slots.{slot_of, entry_with}
use Rattle.dashmap_table.specs.Table.{Adds}
use Rattle.dashmap_table.proofs.Sounds.{length-pairs_of}
use Rattle.mapworld_transitions.proofs.Slotted.{hashes-alike, slot-absent, hashes-added, key-added, puts-added}
use Rattle.mapworld_transitions.proofs.pairs.add_pair.Goals as goal

pub add-requires-clause-absent : goal.add-requires-clause-absent
add-requires-clause-absent g c =
    ap (λ h. slot_of g.K.PartialEq.eq c.args.shard.now.slots h c.args.key) c.hash_one.ensures
    ∙ slot-absent g.K.PartialEq.eq _
    (hashes-alike g.S.BuildHasher g.S.Hasher.Hasher g.K.Hash.hash_input c.args.hasher.now g.K.PartialEq.eq
    g.met.K.Hash.respects_eq) c.args.shard.now c.requires.hashed c.args.key c.requires.absent

pub add-requires-clause-room : goal.add-requires-clause-room
add-requires-clause-room g c =
    let below = ltb-true _ _ c.requires.room in
    let many = length-pairs_of c.args.shard.now.slots in
    omega (arith, below, many)

pub returns-clause-puts : goal.returns-clause-puts
returns-clause-puts g c =
    puts-added g.K.PartialEq.eq g.met.K.Eq.laws _
    (hashes-alike g.S.BuildHasher g.S.Hasher.Hasher g.K.Hash.hash_input c.args.hasher.now g.K.PartialEq.eq
    g.met.K.Hash.respects_eq)
    c.args.shard.now c.add.new.self c.args.key c.args.value c.add.result c.requires.hashed c.add.ensures.sound
    (subst (λ h. Adds g.K.PartialEq.eq c.args.shard.now c.add.new.self (entry_with h c.args.key c.args.value)
    c.add.result) c.hash_one.ensures c.add.ensures.added) c.requires.absent

pub returns-clause-there : goal.returns-clause-there
returns-clause-there g c =
    key-added g.K.PartialEq.eq g.met.K.Eq.laws _
    (hashes-alike g.S.BuildHasher g.S.Hasher.Hasher g.K.Hash.hash_input c.args.hasher.now g.K.PartialEq.eq
    g.met.K.Hash.respects_eq)
    c.args.shard.now c.add.new.self c.args.key c.args.value c.add.result c.requires.hashed c.add.ensures.sound
    (subst (λ h. Adds g.K.PartialEq.eq c.args.shard.now c.add.new.self (entry_with h c.args.key c.args.value)
    c.add.result) c.hash_one.ensures c.add.ensures.added)

pub returns-clause-hashed : goal.returns-clause-hashed
returns-clause-hashed g c =
    hashes-added g.K.PartialEq.eq g.met.K.Eq.laws _
    (hashes-alike g.S.BuildHasher g.S.Hasher.Hasher g.K.Hash.hash_input c.args.hasher.now g.K.PartialEq.eq
    g.met.K.Hash.respects_eq)
    c.args.shard.now c.add.new.self c.args.key c.args.value c.add.result c.requires.hashed c.add.ensures.sound
    (subst (λ h. Adds g.K.PartialEq.eq c.args.shard.now c.add.new.self (entry_with h c.args.key c.args.value)
    c.add.result) c.hash_one.ensures c.add.ensures.added)
