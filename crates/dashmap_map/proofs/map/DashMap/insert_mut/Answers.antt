use Rattle.std.proofs.Common.{◌≡◌, Some, length, ap, sym, ◌∙◌, arith}
use Rattle.std.specs.Prelude.{slice_get}
use Rattle.std.specs.Option.{option_map}
use Rattle.crossbeam_utils.specs.Padded.{padded_value}
use Rattle.dashmap_map.specs.Locked.{Locked, lock_at, lock_of}
use Rattle.dashmap_map.proofs.Lists.{read_here}
use Rattle.dashmap_map.proofs.map.DashMap.insert_mut.Goals as goal

pub returns-clause-evidence : goal.returns-clause-evidence
returns-clause-evidence g c =
    let map = c.args.self.now in
    let items = c.self.inside.shards.items in
    let place = c.hash_and_shard-hash in
    let shard = place.result.1 in
    let locks : items ≡ map.locks = ap (λ (m : Locked g.row.Q.Denot g.row.S.Denot). m.locks) c.self.view_is in
    let here = read_here items shard c.index_mut.result.now (omega (arith, place.ensures.below, ap length locks))
    c.index_mut.ensures.value in
    let at : lock_of g.S.BuildHasher g.S.Hasher.Hasher g.K.Hash.hash_input map c.args.key ≡ Some c.deref_mut.result.now =
    ap (lock_at map) (sym place.ensures.shard)
    ∙ (ap (λ ls. option_map padded_value (slice_get ls shard)) (sym locks)
    ∙ (ap (option_map padded_value) here ∙ ap Some (sym c.deref_mut.ensures.value))) in
    let done = c.insert_alone.ensures.evidence in (
      c.deref_mut.result.now,
      at,
      (done.0, done.1, done.2, done.3, rw (← place.ensures.hash) done.4),
    )
