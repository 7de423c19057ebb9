use Rattle.mapworld_transitions.proofs.Slotted.{hashes-alike}
use Rattle.mapworld_transitions.proofs.Putting.{put-done, new-more}
use Rattle.mapworld_transitions.proofs.put.put_pair.Goals as goal

pub returns-in-Ok-clause-puts : goal.returns-in-Ok-clause-puts
returns-in-Ok-clause-puts g c =
    (put-done g.K.PartialEq.eq g.met.K.Eq.laws _
    (hashes-alike g.S.BuildHasher g.S.Hasher.Hasher g.K.Hash.hash_input c.args.hasher.now g.K.PartialEq.eq
    g.met.K.Hash.respects_eq)
    c.args.shard.now c.insert.new.self c.args.key c.args.value c.requires.hashed c.len-count.ensures.sound
    c.insert.ensures.sound c.hash_one.result c.in-Ok.field-0.0 _ _ c.hash_one.ensures c.in-Ok.ensures.present
    c.in-Ok.ensures.added).0

pub returns-in-Ok-clause-hashed : goal.returns-in-Ok-clause-hashed
returns-in-Ok-clause-hashed g c =
    (put-done g.K.PartialEq.eq g.met.K.Eq.laws _
    (hashes-alike g.S.BuildHasher g.S.Hasher.Hasher g.K.Hash.hash_input c.args.hasher.now g.K.PartialEq.eq
    g.met.K.Hash.respects_eq)
    c.args.shard.now c.insert.new.self c.args.key c.args.value c.requires.hashed c.len-count.ensures.sound
    c.insert.ensures.sound c.hash_one.result c.in-Ok.field-0.0 _ _ c.hash_one.ensures c.in-Ok.ensures.present
    c.in-Ok.ensures.added).1

pub returns-in-Ok-clause-new : goal.returns-in-Ok-clause-new
returns-in-Ok-clause-new g c =
    new-more g.K.PartialEq.eq c.args.shard.now c.insert.new.self c.args.key _ c.len-count.result c.len.result
    c.len-count.ensures.count c.len.ensures.count (returns-in-Ok-clause-puts g c)
