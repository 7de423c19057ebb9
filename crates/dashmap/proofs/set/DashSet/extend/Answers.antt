use Rattle.std.proofs.Common.{Some, [], ◌∷◌, sym, subst, ◌∙◌}
use Rattle.std.proofs.lemmas.List.Elements.{All-nil, All-cons, All-append}
use Rattle.dashmap.specs.Set.Owner.{KeyIsPut, KeyHadNoRoom}
use Rattle.dashmap.proofs.set.DashSet.extend.Goals as goal

pub returns-in-Err-clause-refused : goal.returns-in-Err-clause-refused
returns-in-Err-clause-refused g c =
    let refused = c.in-Err.ensures.refused in
    let member = g.Q.OwnerEvidence in
    let no_room = subst (λ m. KeyHadNoRoom member.taken member.put g.S.BuildHasher g.S.Hasher.Hasher g.K.Hash.hash_input
    g.K.PartialEq.eq m c.in-Some.key) c.loop-key.invariant.0 refused.1 in (
      c.loop-key.yielded,
      c.next.new.self,
      (
        c.loop-key.rest,
        c.loop-key.yielded_by,
        subst (λ k. g.I.Iterator.next_gives c.loop-key.rest (Some k) c.next.new.self) (sym refused.0)
            c.in-Some.ensures.steps,
      ),
      c.loop-key.invariant.3,
      subst (KeyHadNoRoom member.taken member.put g.S.BuildHasher g.S.Hasher.Hasher g.K.Hash.hash_input
          g.K.PartialEq.eq c.args.self.now) (sym refused.0) no_room,
    )

pub loop-key-preserved : goal.loop-key-preserved
loop-key-preserved g c =
    let on = c.in-Some.ensures.goes.on c.loop-key.invariant.2 in
    let member = g.Q.OwnerEvidence in
    let put = KeyIsPut member.taken member.put g.S.BuildHasher g.S.Hasher.Hasher g.K.Hash.hash_input g.K.PartialEq.eq
    c.args.self.now in
    let was_put = subst (λ m. KeyIsPut member.taken member.put g.S.BuildHasher g.S.Hasher.Hasher g.K.Hash.hash_input
    g.K.PartialEq.eq m c.in-Some.key) c.loop-key.invariant.0 c.in_default-put_alone.ensures.put in (
      c.put_alone.ensures.locks ∙ c.loop-key.invariant.0,
      on.0,
      on.1,
      All-append put c.loop-key.yielded (c.in-Some.key ∷ []) c.loop-key.invariant.3
          (All-cons put c.in-Some.key [] was_put (All-nil put)),
    )
