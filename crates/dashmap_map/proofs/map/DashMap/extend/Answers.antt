use Rattle.std.proofs.Common.{Some, sym, subst, ◌∙◌}
use Rattle.dashmap_map.specs.Owner.{IsPut, HadNoRoom}
use Rattle.dashmap_map.proofs.Lists.{all_push}
use Rattle.dashmap_map.proofs.map.DashMap.extend.Goals as goal

pub returns-in-Err-clause-refused : goal.returns-in-Err-clause-refused
returns-in-Err-clause-refused g c =
    let refused = c.in-Err.ensures.refused in
    let member = g.Q.OwnerEvidence in
    let no_room = subst (λ m. HadNoRoom member.taken member.put g.S.BuildHasher g.S.Hasher.Hasher g.K.Hash.hash_input m
    g.K.PartialEq.eq (c.in-Some.key, c.in-Some.value)) c.loop-key.invariant.0 refused.1 in (
      c.loop-key.yielded,
      c.next.new.self,
      (
        c.loop-key.rest,
        c.loop-key.yielded_by,
        subst (λ p. g.I.Iterator.next_gives c.loop-key.rest (Some p) c.next.new.self) (sym refused.0)
            c.in-Some.ensures.steps,
      ),
      c.loop-key.invariant.3,
      subst (HadNoRoom member.taken member.put g.S.BuildHasher g.S.Hasher.Hasher g.K.Hash.hash_input c.args.self.now
          g.K.PartialEq.eq) (sym refused.0) no_room,
    )

pub loop-key-preserved : goal.loop-key-preserved
loop-key-preserved g c =
    let on = c.in-Some.ensures.goes.on c.loop-key.invariant.2 in
    let member = g.Q.OwnerEvidence in
    let was_put = subst (λ m. IsPut member.taken member.put g.S.BuildHasher g.S.Hasher.Hasher g.K.Hash.hash_input m
    g.K.PartialEq.eq (c.in-Some.key, c.in-Some.value)) c.loop-key.invariant.0 c.in_default-put_alone.ensures.put in (
      c.put_alone.ensures.locks ∙ c.loop-key.invariant.0,
      on.0,
      on.1,
      all_push (IsPut member.taken member.put g.S.BuildHasher g.S.Hasher.Hasher g.K.Hash.hash_input c.args.self.now
          g.K.PartialEq.eq) c.loop-key.yielded (c.in-Some.key, c.in-Some.value) c.loop-key.invariant.3 was_put,
    )
