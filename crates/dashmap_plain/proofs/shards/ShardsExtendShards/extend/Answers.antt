use Rattle.std.proofs.Common.{◌≡◌, Some, None, sym, ap, subst, ◌∙◌}
use Rattle.std.proofs.lemmas.Fn.{FoldsTo-push}
use Rattle.dashmap_table.specs.Shards.{pair_at}
use Rattle.dashmap_plain.specs.Extended.{Puts, PutsAll}
use Rattle.dashmap_plain.proofs.shards.ShardsExtendShards.extend.Goals as goal

pub returns-in-Err-clause-refused : goal.returns-in-Err-clause-refused
returns-in-Err-clause-refused g c =
    let refused = c.in-Err.ensures.refused in
    let stays = sym refused.1 in (
      c.loop-key.yielded,
      c.next.new.self,
      (
        c.loop-key.rest,
        c.loop-key.yielded_by,
        subst (λ p. g.I.Iterator.next_gives c.loop-key.rest (Some p) c.next.new.self) (sym refused.0)
            c.in-Some.ensures.steps,
      ),
      subst (λ t. PutsAll g.S.BuildHasher g.S.Hasher.Hasher g.K.Hash.hash_input g.K.PartialEq.eq c.loop-key.yielded
          c.args.self.now t) stays c.loop-key.invariant.2,
      subst (λ t. pair_at g.S.BuildHasher g.S.Hasher.Hasher g.K.Hash.hash_input g.K.PartialEq.eq t c.in-Err.back.0
          ≡ None) stays
          (ap (λ p. pair_at g.S.BuildHasher g.S.Hasher.Hasher g.K.Hash.hash_input g.K.PartialEq.eq c.loop-key.self p.0)
          refused.0 ∙ refused.2),
    )

pub loop-key-preserved : goal.loop-key-preserved
loop-key-preserved g c =
    let on = c.in-Some.ensures.goes.on c.loop-key.invariant.1 in (
      on.0,
      on.1,
      FoldsTo-push (Puts g.S.BuildHasher g.S.Hasher.Hasher g.K.Hash.hash_input g.K.PartialEq.eq)
          c.args.self.now c.loop-key.yielded c.loop-key.self (c.in-Some.key, c.in-Some.value) c.put.new.shards
          c.loop-key.invariant.2 c.in_default-put.ensures.put,
    )
