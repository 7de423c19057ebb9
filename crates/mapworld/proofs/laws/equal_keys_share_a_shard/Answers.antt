use Rattle.mapworld.proofs.Routes.{key_route-equal}
use Rattle.mapworld.proofs.laws.equal_keys_share_a_shard.Goals as goal

pub returns : goal.returns
returns g c hasher shards j k same =
    key_route-equal g.S.BuildHasher g.S.Hasher.Hasher g.K.Hash.hash_input hasher shards g.K.PartialEq.eq
    g.met.K.Hash.respects_eq j k same
