use Rattle.std.proofs.Common.{◌≡◌, List, sym, ap, subst, ◌∙◌}
use Rattle.std.specs.List.{AllZip}
use Rattle.dashmap_table.specs.Table.{Table}
use Rattle.dashmap_table.specs.Shards.{Tables, AreSharded, pair_at}
use Rattle.dashmap_view.specs.Clones.{IsCloneOf}
use Rattle.dashmap_view.proofs.CloneViews.{sharded-cloned, pairs-cloned}
use Rattle.dashmap_view.proofs.view.PlainView.clone.Goals as goal

pub invariant_of-result : goal.invariant_of-result
invariant_of-result g c =
    let cloned = subst
    (λ (l : List (Table g.row.K.Denot g.row.V.Denot)). AllZip (IsCloneOf g.K.PartialEq.eq) l
    c.in_ok-shards.shards.items) c.deref.ensures.value c.in_ok-shards.ensures in
    subst (λ (s : g.row.S.Denot). AreSharded g.S.BuildHasher g.S.Hasher.Hasher g.K.Hash.hash_input g.K.PartialEq.eq
    (record { tables = c.in_ok-shards.shards.items; hasher = s })) (sym c.in_ok-hasher.ensures)
    (sharded-cloned g.K.PartialEq.eq c.self.inside.shards.items c.in_ok-shards.shards.items cloned g.S.BuildHasher
    g.S.Hasher.Hasher g.K.Hash.hash_input c.self.inside.hasher g.met.K.Eq.laws c.self.invariant)

pub returns-clause-pairs : goal.returns-clause-pairs
returns-clause-pairs g c q =
    let cloned = subst
    (λ (l : List (Table g.row.K.Denot g.row.V.Denot)). AllZip (IsCloneOf g.K.PartialEq.eq) l
    c.in_ok-shards.shards.items) c.deref.ensures.value c.in_ok-shards.ensures in
    subst (λ (s : g.row.S.Denot). pair_at g.S.BuildHasher g.S.Hasher.Hasher g.K.Hash.hash_input g.K.PartialEq.eq
    (record { tables = c.in_ok-shards.shards.items; hasher = s }) q ≡ pair_at g.S.BuildHasher g.S.Hasher.Hasher
    g.K.Hash.hash_input g.K.PartialEq.eq c.args.self.now q)
    (sym c.in_ok-hasher.ensures)
    (pairs-cloned g.K.PartialEq.eq c.self.inside.shards.items c.in_ok-shards.shards.items cloned g.S.BuildHasher
    g.S.Hasher.Hasher g.K.Hash.hash_input c.self.inside.hasher q
    ∙ ap (λ (t : Tables g.row.K.Denot g.row.V.Denot g.row.S.Denot). pair_at g.S.BuildHasher g.S.Hasher.Hasher
    g.K.Hash.hash_input g.K.PartialEq.eq t q) c.self.view_is)
