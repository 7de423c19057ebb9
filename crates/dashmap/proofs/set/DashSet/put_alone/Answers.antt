use Rattle.std.proofs.Common.{subst}
use Rattle.dashmap_map.specs.Effects.{Inserts}
use Rattle.dashmap_map.specs.Owner.{AloneAtKey}
use Rattle.dashmap.proofs.Keys.{put_well, put_refused}
use Rattle.dashmap.proofs.set.DashSet.put_alone.Goals as goal

pub returns-clause-put : goal.returns-clause-put
returns-clause-put g c =
    put_well
    (λ had. AloneAtKey g.Q.OwnerEvidence.taken g.Q.OwnerEvidence.put g.S.BuildHasher g.S.Hasher.Hasher
    g.K.Hash.hash_input c.args.self.now c.args.key
    (λ hash old new. Inserts g.K.PartialEq.eq old new hash c.args.key (tt {0}) had)) c.insert_mut.result
    c.put_in.result c.put_in.ensures
    (subst (λ m. AloneAtKey g.Q.OwnerEvidence.taken g.Q.OwnerEvidence.put g.S.BuildHasher g.S.Hasher.Hasher
    g.K.Hash.hash_input m c.args.key
    (λ hash old new. Inserts g.K.PartialEq.eq old new hash c.args.key (tt {0}) c.insert_mut.result)) c.self.view_is
    c.insert_mut.ensures.evidence)

pub returns-clause-refused : goal.returns-clause-refused
returns-clause-refused g c =
    put_refused
    (λ had. AloneAtKey g.Q.OwnerEvidence.taken g.Q.OwnerEvidence.put g.S.BuildHasher g.S.Hasher.Hasher
    g.K.Hash.hash_input c.args.self.now c.args.key
    (λ hash old new. Inserts g.K.PartialEq.eq old new hash c.args.key (tt {0}) had)) c.args.key c.insert_mut.result
    c.put_in.result c.put_in.ensures c.insert_mut.ensures.refused
    (subst (λ m. AloneAtKey g.Q.OwnerEvidence.taken g.Q.OwnerEvidence.put g.S.BuildHasher g.S.Hasher.Hasher
    g.K.Hash.hash_input m c.args.key
    (λ hash old new. Inserts g.K.PartialEq.eq old new hash c.args.key (tt {0}) c.insert_mut.result)) c.self.view_is
    c.insert_mut.ensures.evidence)
