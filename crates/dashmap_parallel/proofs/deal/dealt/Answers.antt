use Rattle.std.proofs.Common.{ℕ, [], ◌∷◌, ◌++◌, length, map, sym, ap, ◌∙◌, subst, arith}
use Rattle.std.proofs.lemmas.List.{map-id, map-append, length-set}
use Rattle.std.proofs.lemmas.Iterator.Adapters.{YieldsList-from_vec}
use Rattle.std.proofs.lemmas.Iterator.Consumers.{YieldsList-end}
use Rattle.dashmap_parallel.specs.Puts.{piece_number, piece_at, hashed, AreDealt}
use Rattle.dashmap_parallel.proofs.Dealing.{deals-at}
use Rattle.dashmap_parallel.proofs.deal.dealt.Goals as goal

pub loop-key-preserved : goal.loop-key-preserved
loop-key-preserved g c =
    let shards = length c.args.map.now.locks in
    let one = c.in_ok-add_to.ensures in
    let piece = c.piece_of-piece.result in
    let hash = c.hash_usize-hash.result in
    let key = c.in-Some.key in
    let value = c.in-Some.value in
    let pair : g.row.K.Denot × g.row.V.Denot = (key, value) in
    let item : ℕ × g.row.K.Denot × g.row.V.Denot = (hash, key, value) in
    let done = map (hashed g.S.BuildHasher g.S.Hasher.Hasher g.K.Hash.hash_input c.args.map.now.hasher)
    c.loop-key.yielded in
    let same = c.piece_of-piece.ensures.value ∙ ap (λ s. piece_number s c.args.pieces c.determine_shard.result)
    (ap length c.shard_locks-shards.ensures.locks) ∙ ap (λ k. piece_number shards c.args.pieces k)
    c.determine_shard.ensures.value in (
      ap length one.1 ∙ length-set c.loop-key.lists.items piece one.0 ∙ c.loop-key.invariant.0,
      subst (λ xs. AreDealt (piece_at shards c.args.pieces) xs c.add_to.new.lists.items)
          (ap (λ (n : ℕ). done ++ (n, key, value) ∷ []) c.hash_usize-hash.ensures
          ∙ sym (map-append (hashed g.S.BuildHasher g.S.Hasher.Hasher g.K.Hash.hash_input c.args.map.now.hasher)
          c.loop-key.yielded (pair ∷ [])))
          (deals-at (piece_at shards c.args.pieces) done item piece c.loop-key.lists.items c.add_to.new.lists.items
          one.0 same (omega (arith, c.piece_of-piece.ensures.below, c.loop-key.invariant.0)) one.1 one.2
          c.loop-key.invariant.1),
    )

pub returns : goal.returns
returns g c =
    let i = c.into_iter-key-iterator.ensures.into_iter_gives in
    let e = YieldsList-end (YieldsList-from_vec c.args.pairs.items i.0 (i.1 ∙ c.args.pairs.ok.0)) c.loop-key.yielded
    c.loop-key.key-iterator c.loop-key.yielded_by c.next.result c.next.new.self c.in-None.is c.next.ensures.steps in (
      c.loop-key.invariant.0,
      subst (λ xs. AreDealt (piece_at (length c.args.map.now.locks) c.args.pieces)
          (map (hashed g.S.BuildHasher g.S.Hasher.Hasher g.K.Hash.hash_input c.args.map.now.hasher) xs)
          c.loop-key.lists.items)
          (sym (map-id c.loop-key.yielded) ∙ e.0) c.loop-key.invariant.1,
    )
