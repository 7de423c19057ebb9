-- What the tables of calls say of all calls.
use Rattle.std.proofs.Common.{◌≡◌, ◌⊎◌, inl, inr, true, Option, Some, None, refl}
use Rattle.mapworld_calls.specs.Deeds.{Deeds}
use Rattle.mapworld_calls.specs.declared.ask.Held.{Held}
use Rattle.mapworld_calls.specs.declared.ask.Held.TheVariants as held
use Rattle.mapworld_calls.specs.declared.ask.Walk.{Walk}
use Rattle.mapworld_calls.specs.declared.ask.Walk.TheVariants as walk
use Rattle.mapworld_calls.specs.declared.reply.Answer.TheVariants as answer
use Rattle.mapworld_calls.specs.Calls.{At, free, shared, exclusive, occupied, vacant, held_answer, held_leaves}
use Rattle.mapworld_calls.specs.Calls.{visit_leaves}
use Rattle.mapworld_calls.specs.Laws.{only_reads}

module _ {D K V T : Type 0} (deeds : Deeds D K V T) where
  -- a call that changes something is answered otherwise; all others leave what they find
  pub refused-leaves : {A : Type 0} (h : Held V D) (s : At K V) → (held_answer {A = A} deeds h s ≡ answer.NoGuard)
      ⊎ (held_answer {A = A} deeds h s ≡ answer.WrongGuard) → held_leaves deeds h s ≡ s
  refused-leaves h (free o) e = refl
  refused-leaves (held.Write d) (exclusive p) e = absurd (elim e [ inl a ↦ (cc) | inr b ↦ (cc) ])
  refused-leaves (held.Write d) (occupied k p) e = absurd (elim e [ inl a ↦ (cc) | inr b ↦ (cc) ])
  refused-leaves held.Downgrade (exclusive p) e = absurd (elim e [ inl a ↦ (cc) | inr b ↦ (cc) ])
  refused-leaves (held.Insert v) (occupied k p) e = absurd (elim e [ inl a ↦ (cc) | inr b ↦ (cc) ])
  refused-leaves (held.Insert v) (vacant k) e = absurd (elim e [ inl a ↦ (cc) | inr b ↦ (cc) ])
  refused-leaves held.IntoRef (occupied k p) e = absurd (elim e [ inl a ↦ (cc) | inr b ↦ (cc) ])
  refused-leaves held.Remove (occupied k p) e = absurd (elim e [ inl a ↦ (cc) | inr b ↦ (cc) ])
  refused-leaves held.RemoveEntry (occupied k p) e = absurd (elim e [ inl a ↦ (cc) | inr b ↦ (cc) ])
  refused-leaves (held.ReplaceEntry v) (occupied k p) e = absurd (elim e [ inl a ↦ (cc) | inr b ↦ (cc) ])
  refused-leaves held.IntoKey (occupied k p) e = absurd (elim e [ inl a ↦ (cc) | inr b ↦ (cc) ])
  refused-leaves held.IntoKey (vacant k) e = absurd (elim e [ inl a ↦ (cc) | inr b ↦ (cc) ])
  refused-leaves held.Drop (shared p) e = absurd (elim e [ inl a ↦ (cc) | inr b ↦ (cc) ])
  refused-leaves held.Drop (exclusive p) e = absurd (elim e [ inl a ↦ (cc) | inr b ↦ (cc) ])
  refused-leaves held.Drop (occupied k p) e = absurd (elim e [ inl a ↦ (cc) | inr b ↦ (cc) ])
  refused-leaves held.Drop (vacant k) e = absurd (elim e [ inl a ↦ (cc) | inr b ↦ (cc) ])
  refused-leaves h s e = refl

  pub reading-leaves : (f : Walk D) → only_reads f ≡ true → (o : Option (K × V)) → visit_leaves deeds f o ≡ o
  reading-leaves f is None = refl
  reading-leaves (walk.Iter d stop) is (Some p) = refl
  reading-leaves walk.Len is (Some p) = refl
  reading-leaves walk.IsEmpty is (Some p) = refl
  reading-leaves walk.Capacity is (Some p) = refl
  reading-leaves walk.ShrinkToFit is (Some p) = refl
  reading-leaves f is (Some p) = absurd (cc)
