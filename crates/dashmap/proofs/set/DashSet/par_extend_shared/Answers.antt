use Rattle.std.proofs.Common.{map, subst}
use Rattle.std.specs.Prelude.{All}
use Rattle.std.proofs.lemmas.Result.{on_ok_weaker}
use Rattle.dashmap_parallel.specs.Puts.{WasPut, PutInPieces}
use Rattle.dashmap_parallel.proofs.Putting.{unmapped}
use Rattle.dashmap.proofs.set.DashSet.par_extend_shared.Goals as goal

pub returns-clause-turns : goal.returns-clause-turns
returns-clause-turns g c =
    let units = map (λ k. (k, tt {0})) c.args.keys.items in
    let old = c.args.tds.now in
    let new = c.par_extend_shared.new.tds in
    on_ok_weaker c.par_extend_shared.result
    (λ turns.
    subst (λ m. PutInPieces {V = Unit {0}} g.S.BuildHasher g.S.Hasher.Hasher g.K.Hash.hash_input g.K.PartialEq.eq
    g.Q.Evidence.held m units old new)
    c.self.view_is
    (subst (λ pairs. PutInPieces {V = Unit {0}} g.S.BuildHasher g.S.Hasher.Hasher g.K.Hash.hash_input g.K.PartialEq.eq
    g.Q.Evidence.held c.self.inside.inner pairs old new)
    c.in_ok-pairs.ensures turns))
    c.par_extend_shared.ensures.turns

pub returns-clause-put : goal.returns-clause-put
returns-clause-put g c =
    let keys = c.args.keys.items in
    on_ok_weaker c.par_extend_shared.result
    (λ put.
    unmapped (λ k. (k, tt {0}))
    (WasPut {V = Unit {0}} g.S.BuildHasher g.S.Hasher.Hasher g.K.Hash.hash_input g.K.PartialEq.eq
    g.Q.Evidence.held c.args.self.now) keys
    (subst (λ m. All (WasPut {V = Unit {0}} g.S.BuildHasher g.S.Hasher.Hasher g.K.Hash.hash_input g.K.PartialEq.eq
    g.Q.Evidence.held m) (map (λ k. (k, tt {0})) keys))
    c.self.view_is
    (subst (All (WasPut {V = Unit {0}} g.S.BuildHasher g.S.Hasher.Hasher g.K.Hash.hash_input g.K.PartialEq.eq
    g.Q.Evidence.held c.self.inside.inner))
    c.in_ok-pairs.ensures put)))
    c.par_extend_shared.ensures.put
