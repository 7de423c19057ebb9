use Rattle.std.proofs.Common.{◌≡◌, Bool, true, None, Some, IsTrue, IfNone, IfSome, subst}
use Rattle.std.specs.Prelude.{if◌then◌else◌}
use Rattle.std.specs.Fn.{FnOnceReturnsAt}
use Rattle.dashmap_map.specs.Locked.{Locked, lock_of}
use Rattle.dashmap_table.specs.Shards.{key_hash}
use Rattle.dashmap_table.specs.Slots.{pair_of, slot_of, entry_of}
use Rattle.dashmap_table.specs.Table.{TakesOut}
use Rattle.dashmap.proofs.Keys.{told_key, told_some}
use Rattle.dashmap.proofs.set.DashSet.remove_if.Goals as goal

pub returns-clause-asked : goal.returns-clause-asked
returns-clause-asked g c =
    told_key (λ k. IsTrue (g.K.PartialEq.eq k c.args.key.now) × FnOnceReturnsAt g.F.FnOnce c.args.f k true) _
    (λ p had. (had.0, subst (λ k. FnOnceReturnsAt g.F.FnOnce c.args.f k true) had.1.3 had.1.2))
    c.remove_if.result c.key_of.result c.key_of.ensures c.remove_if.ensures.asked

pub returns-clause-evidence : goal.returns-clause-evidence
returns-clause-evidence g c =
    let pair = c.remove_if.result in
    let key = c.args.key.now in
    let done = c.remove_if.ensures.evidence in
    let slots = done.1.slots in
    let hash = λ (m : Locked g.row.Q.Denot g.row.S.Denot). key_hash g.S.BuildHasher g.S.Hasher.Hasher g.K.Hash.hash_input
    m.hasher key in
    let removes = done.5 in (
      pair,
      c.key_of.ensures,
      (
        done.0,
        done.1,
        done.2,
        subst (λ m. lock_of g.S.BuildHasher g.S.Hasher.Hasher g.K.Hash.hash_input m key ≡ Some done.0) c.self.view_is
            done.3,
        done.4,
        (
          subst (λ m. IfNone (slot_of g.K.PartialEq.eq slots (hash m) key) (pair ≡ None)) c.self.view_is removes.0,
          subst (λ m. IfSome (entry_of g.K.PartialEq.eq slots (hash m) key) (λ e. (answer : Bool)
              × FnOnceReturnsAt g.F.FnOnce c.args.f e.key answer
              × (pair ≡ (if answer then Some (pair_of e) else None)))) c.self.view_is
              (told_some _ _ (λ e told. (
                told.0,
                subst (λ k. FnOnceReturnsAt g.F.FnOnce c.args.f k told.0) told.1.3 told.1.2,
                told.2,
              )) (entry_of g.K.PartialEq.eq slots (hash c.self.inside.inner) key) removes.1),
          removes.2,
          subst (λ m. IfSome pair (λ _. TakesOut g.K.PartialEq.eq done.1 done.2 (hash m) key)) c.self.view_is removes.3,
        ),
      ),
    )
