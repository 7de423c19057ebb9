use Rattle.std.proofs.Common.{◌≡◌, ℕ, zero, suc, ◌<◌, Result, Ok, Err, OnErr, refl, sym, ap, ◌∙◌}
use Rattle.std.proofs.Common.{subst, arith, ⊎_elim}
use Rattle.dashmap_table.specs.Slots.{count}
use Rattle.dashmap_table.proofs.Sounds.{length-pairs_of}
use Rattle.dashmap_table.proofs.Effects.{each-same}
use Rattle.mapworld_calls.specs.Programs.{walk_may_grow}
use Rattle.mapworld_state.specs.Shards.{shard_pairs}
use Rattle.mapworld_state.specs.Walks.{IsLookedAt}
use Rattle.mapworld_transitions.proofs.Slotted.{shrunk-same, on-ok}
use Rattle.mapworld_transitions.proofs.walks.make_ready.Goals as goal

-- what is refused says what it is refused for
on-err : {X E P Q : Type 0} (r : Result X E) → OnErr r P → ((e : E) → r ≡ Err e → P → Q) → OnErr r Q
on-err (Ok x) h by = tt
on-err (Err e) h by = by e refl h

some-pairs : {X E : Type 0} (n : ℕ) (x : X) (e : E) → (n ≡ 0 → Err e ≡ Ok x) → 0 < n
some-pairs zero x e h = let no : Err e ≡ Ok x = h refl in absurd (cc)
some-pairs (suc n) x e h = omega arith

pub returns-in-ShrinkToFit-clause-looked : goal.returns-in-ShrinkToFit-clause-looked
returns-in-ShrinkToFit-clause-looked g c =
    let h = c.requires.hashed in
    on-ok c.shrink.result _ c.shrink.ensures.tight (λ tight.
    subst (λ f. IsLookedAt g.K.PartialEq.eq f (shard_pairs c.args.shard.now) (shard_pairs c.shrink.new.self))
    (sym c.in-ShrinkToFit.is)
    (shrunk-same g.K.PartialEq.eq g.met.K.Eq.laws h.0 h.1 c.args.shard.now c.shrink.new.self h.2 c.shrink.ensures.sound
    c.shrink.ensures.pairs c.shrink.ensures.room tight))

pub returns-in-ShrinkToFit-clause-refused : goal.returns-in-ShrinkToFit-clause-refused
returns-in-ShrinkToFit-clause-refused g c =
    on-err c.shrink.result c.shrink.ensures.refused (λ e is same.
    let many = length-pairs_of c.args.shard.now.slots in
    let some = some-pairs (count c.args.shard.now.slots) tt e (λ none. sym is ∙ c.shrink.ensures.empty none) in
    (same, ap walk_may_grow c.in-ShrinkToFit.is, omega (arith, many, some)))

pub returns-in-ShrinkToFit-clause-hashed : goal.returns-in-ShrinkToFit-clause-hashed
returns-in-ShrinkToFit-clause-hashed g c hash hashed =
    each-same g.K.PartialEq.eq g.met.K.Eq.laws (λ h k. h ≡ hash k) c.args.shard.now c.shrink.new.self
    c.shrink.ensures.sound c.shrink.ensures.pairs hashed

pub returns-in-Iter-clause-refused : goal.returns-in-Iter-clause-refused
returns-in-Iter-clause-refused g c =
    on-err c.take_room.result c.take_room.ensures.some (λ e is some.
    let many = length-pairs_of c.args.shard.now.slots in (
      refl,
      ⊎_elim (λ of. ap walk_may_grow of.1) (λ of. ap walk_may_grow of.1) c.in-Iter.is,
      omega (arith, many, some, c.len.ensures.count),
    ))
