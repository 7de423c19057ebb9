use Rattle.std.proofs.Common.{◌≡◌, length, sym, ap, subst, ◌∙◌}
use Rattle.std.proofs.lemmas.Result.{IfOk-weaker}
use Rattle.crossbeam_utils.specs.Padded.{padded_value}
use Rattle.dashmap_table.specs.Route.{IsShardAmount}
use Rattle.dashmap_table.specs.Shards.{Tables}
use Rattle.dashmap_plain.specs.Opened.{Opened}
use Rattle.dashmap_plain.specs.Clones.Clones.{IsCloneBehind, AreClonesBehind}
use Rattle.dashmap_plain.proofs.ClonesFacts.Gathering.{zipped_long}
use Rattle.dashmap_plain.proofs.clones.map.clone_unlocked.Goals as goal

pub map_of-requires : goal.map_of-requires
map_of-requires g c =
    let as_many = zipped_long
    (λ lock clone. IsCloneBehind g.Q.Evidence.showed
    g.K.PartialEq.eq (padded_value lock) clone) c.args.map.now.locks c.in-Ok.shards.items c.in-Ok.ensures.shards in
    subst IsShardAmount (sym as_many) c.shard_locks-amount.ensures.amount

pub returns-in-Ok-clause-shards : goal.returns-in-Ok-clause-shards
returns-in-Ok-clause-shards g c =
    IfOk-weaker c.map_of.result
    (λ (u : Opened g.row.K.Denot g.row.V.Denot g.row.S.Denot g.row.Q.Denot). u.plain
    ≡ record { tables = c.in-Ok.shards.items; hasher = c.in-Ok.hasher })
    (λ u. AreClonesBehind g.Q.Evidence.showed g.K.PartialEq.eq
    c.args.map.now u.plain.tables)
    (λ u plain. subst (λ t. AreClonesBehind g.Q.Evidence.showed
    g.K.PartialEq.eq c.args.map.now t)
    (sym (ap (λ (t : Tables g.row.K.Denot g.row.V.Denot g.row.S.Denot). t.tables) plain)) c.in-Ok.ensures.shards)
    c.map_of.ensures.plain

pub returns-in-Ok-clause-hasher : goal.returns-in-Ok-clause-hasher
returns-in-Ok-clause-hasher g c =
    IfOk-weaker c.map_of.result
    (λ (u : Opened g.row.K.Denot g.row.V.Denot g.row.S.Denot g.row.Q.Denot). u.plain
    ≡ record { tables = c.in-Ok.shards.items; hasher = c.in-Ok.hasher })
    (λ u. u.plain.hasher ≡ c.args.map.now.hasher)
    (λ u plain. ap (λ (t : Tables g.row.K.Denot g.row.V.Denot g.row.S.Denot). t.hasher) plain ∙ c.in-Ok.ensures.hasher)
    c.map_of.ensures.plain

pub returns-in-Ok-clause-locks : goal.returns-in-Ok-clause-locks
returns-in-Ok-clause-locks g c =
    let as_many = zipped_long
    (λ lock clone. IsCloneBehind g.Q.Evidence.showed
    g.K.PartialEq.eq (padded_value lock) clone) c.args.map.now.locks c.in-Ok.shards.items c.in-Ok.ensures.shards in
    IfOk-weaker c.map_of.result
    (λ (u : Opened g.row.K.Denot g.row.V.Denot g.row.S.Denot g.row.Q.Denot). length u.locks ≡ length
    c.in-Ok.shards.items) (λ u. length u.locks ≡ length c.args.map.now.locks)
    (λ u long. long ∙ as_many) c.map_of.ensures.locks
