use Rattle.std.proofs.Common.{ℕ, length, refl, sym, ◌∙◌, arith}
use Rattle.std.proofs.lemmas.Bool.{false≢true}
use Rattle.std.proofs.lemmas.Option.{none-some}
use Rattle.dashmap_table.specs.Table.{Table, IsSound}
use Rattle.dashmap_view.specs.Views.{IsShardHome}
use Rattle.dashmap_view.proofs.Homes.{at_index, shards-more, each_shard, no_pairs-sound}
use Rattle.dashmap_view.proofs.routed.are_routed.Goals as goal

pub returns-then-not-is_shard_home-clause-routed : goal.returns-then-not-is_shard_home-clause-routed
returns-then-not-is_shard_home-clause-routed g c = (
  λ is. absurd (false≢true is),
  λ all. sym c.if-not-is_shard_home.true ∙ c.is_shard_home.ensures.home.1
      (at_index (λ (j : ℕ) (t : Table g.row.K.Denot g.row.V.Denot). IsShardHome g.S.BuildHasher g.S.Hasher.Hasher
      g.K.Hash.hash_input c.args.hasher.now (length c.args.shards.now) j t)
      c.args.shards.now c.loop-number.number c.index-shards-number.result c.loop-number-test.true
      c.index-shards-number.is all),
)

pub loop-number-preserved : goal.loop-number-preserved
loop-number-preserved g c =
    shards-more (λ (j : ℕ) (t : Table g.row.K.Denot g.row.V.Denot). IsShardHome g.S.BuildHasher g.S.Hasher.Hasher
    g.K.Hash.hash_input c.args.hasher.now (length c.args.shards.now) j t × IsSound g.K.PartialEq.eq t)
    c.args.shards.now c.loop-number.number c.index-shards-number.result c.loop-number-test.true c.index-shards-number.is
    c.loop-number.invariant
    (c.is_shard_home.ensures.home.0 c.if-not-is_shard_home.false, c.is_shard_home.ensures.sound)

pub returns-clause-routed : goal.returns-clause-routed
returns-clause-routed g c = (
  λ _ i. (each_shard
      (λ (j : ℕ) (t : Table g.row.K.Denot g.row.V.Denot). IsShardHome g.S.BuildHasher g.S.Hasher.Hasher
      g.K.Hash.hash_input c.args.hasher.now (length c.args.shards.now) j t × IsSound g.K.PartialEq.eq t)
      c.args.shards.now (λ j within. c.loop-number.invariant j (omega arith))
      (λ j. (λ slot e there. absurd (none-some e there), no_pairs-sound g.K.PartialEq.eq)) i).0,
  λ _. refl,
)

pub returns-clause-sound : goal.returns-clause-sound
returns-clause-sound g c =
    λ _ i. (each_shard
    (λ (j : ℕ) (t : Table g.row.K.Denot g.row.V.Denot). IsShardHome g.S.BuildHasher g.S.Hasher.Hasher
    g.K.Hash.hash_input c.args.hasher.now (length c.args.shards.now) j t × IsSound g.K.PartialEq.eq t)
    c.args.shards.now (λ j within. c.loop-number.invariant j (omega arith))
    (λ j. (λ slot e there. absurd (none-some e there), no_pairs-sound g.K.PartialEq.eq)) i).1
