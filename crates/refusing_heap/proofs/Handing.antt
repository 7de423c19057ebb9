-- The inner allocator is called at the heap's own lifetimes, with the heap's own arguments but the first, and under the
-- heap's own `requires`: so what is said of them goes through unread. Assumes `Logic`.
use Rattle.std.proofs.Common.{◌≡◌, ℕ, zero, suc, ◌+◌, Bool, List, [], ◌∷◌, refl, Ok}
use seplogic.Ra.Ura.{Ura}
use mir.Syntax.{named}
use mir.Val.{Val}
use base.Logic.{SProp, ent, sep, ex, emp, id⊢, never}
use base.Fml.{Lft, Share, Fml, ftrue, fsep, flft}
use prog.Memory.{size, align, up}
use types.Logic.{Logic, sem}
use types.Kit.{Goal, Step, step, Item, mean, ‵, raw, ◌⊛◌, some, later, given, ◌$◌, ◌∵◌, !, qed, move, keep, drop}
use types.Kit.{use0, use1, use2, split, join, pick, fsplit, fjoin, feq_i, await, updating, now as at_once, done}
use denote.RattleType.{RattleType}
use denote.Memory.{hidden_shr}
use denote.Opens.{unhide}
use denote.Param.{param}
use denote.RawPtr.{null_ptr}
use denote.Ref.{Bor, ShrRef, shr_vals}
use denote.Steps.{nothing}
use Rattle.std.proofs.alloc.Calls.{Al, α, Answer, answer_val}
use Rattle.std.proofs.alloc.Resizes.{Flagged, by_flag, result_of}
use Rattle.refusing_heap.specs.declared.growths.Growths.{Growths}
use Rattle.refusing_heap.specs.declared.heap.RefusingHeap.{RefusingHeap}
use Rattle.refusing_heap.specs.contracts.growths.Growths as count
use Rattle.refusing_heap.specs.contracts.heap.RefusingHeap as heap
use Rattle.refusing_heap.proofs.Counting.{CountRef}

-- what is left of n parameters that own nothing
abbrev pub spent : ℕ → Fml
spent zero = ftrue
spent (suc n) = fsep ftrue (spent n)

module _ {M : Type 1} {𝓤 : Ura M} (𝓛 : Logic 𝓤) where
  open 𝓛 use {H}

  pub spent_i : (n : ℕ) → ent 𝓤 (emp 𝓤) (sem 𝓛 (spent n))
  spent_i zero = id⊢ 𝓤 (emp 𝓤)
  spent_i (suc n) = qed 𝓛 [] ∵ use0 𝓛 (‵ (spent n)) (spent_i n) $ nothing ! $ fjoin ! $ done !

  -- what a call that answers has ensured, by the answer's two cases
  module _ (F : Answer.Denot → Fml) (nowhere : ent 𝓤 (sem 𝓛 (F (Ok null_ptr))) (never 𝓤)) (alive : Item 𝓤)
      (W : Type 0) (last : W → Fml) (v : Val) where
    abbrev pub Returned : Item 𝓤
    Returned = later (some (λ (r : Answer.Denot). (alive ⊛ ‵ (Answer.own_val r (v ∷ [])))
        ⊛ some (λ (ws : W). ‵ (last ws) ⊛ ‵ (F r))))

    abbrev pub Told : Item 𝓤
    Told = later (some (λ (c : Bool × (ℕ × ℕ)). given (v ≡ answer_val c.0 c.1.0 c.1.1)
        (‵ (F (result_of c.0 c.1.0 c.1.1)))) ⊛ alive)

    pub told : ent 𝓤 (mean 𝓛 Returned) (mean 𝓛 Told)
    told =
        qed 𝓛 (Returned ∷ []) ∵ updating ! $ await ! tt $ pick ! (λ r. split ! $ move ! (1 ∷ []) $
        pick ! (λ ws. split ! $ drop ! $ move ! (1 ∷ []) $ split ! $ move ! (1 ∷ 2 ∷ []) $
        use2 𝓛 (raw (ex 𝓤 (Flagged 𝓛 F v))) (by_flag 𝓛 F nowhere v r) $ at_once ! $ done !))

module _ (Z : Al) where
  abbrev pub HeapRef : Lft → RattleType
  HeapRef κ = ShrRef (named 0) κ (heap.the_row (param 0 Z.row))

  abbrev pub InnerRef : Lft → RattleType
  InnerRef κ = ShrRef (named 0) κ (param 0 Z.row)

  abbrev pub the_count : Bor (RefusingHeap Z.row.Denot) → Bor Growths
  the_count r = record {
    ref_ptr = (r.ref_ptr.0, r.ref_ptr.1 + up 8 (up (align (α Z)) 0 + size (α Z)));
    now = r.now.growths;
  }

  abbrev pub the_inner : Bor (RefusingHeap Z.row.Denot) → Bor Z.row.Denot
  the_inner r = record { ref_ptr = (r.ref_ptr.0, r.ref_ptr.1 + up (align (α Z)) 0); now = r.now.inner }

module _ (Z : Al) {M : Type 1} {𝓤 : Ura M} (𝓛 : Logic 𝓤) (κ : Lft) (r : Bor (RefusingHeap Z.row.Denot)) where
  abbrev pub to_heap : Fml
  to_heap = (HeapRef Z κ).own_val r (shr_vals r)

  abbrev pub to_count : Fml
  to_count = (CountRef κ).own_val (the_count Z r) (shr_vals (the_count Z r))

  abbrev pub to_inner : Fml
  to_inner = (InnerRef Z κ).own_val (the_inner Z r) (shr_vals (the_inner Z r))

  pub parts : ent 𝓤 (sem 𝓛 to_heap) (sep 𝓤 (sem 𝓛 to_count) (sem 𝓛 to_inner))
  parts =
      let c = the_count Z r in
      let i = the_inner Z r in
      qed 𝓛 (‵ to_heap ∷ []) ∵ fsplit ! $ move ! (1 ∷ []) $ unhide ! $ fsplit ! $ fsplit ! $
      use1 𝓛 (‵ (hidden_shr (param 0 Z.row) κ i.now i.ref_ptr.0 i.ref_ptr.1)) (id⊢ 𝓤 _) $
      feq_i ! (List Val) (shr_vals i) (shr_vals i) refl $ fjoin ! $ move ! (1 ∷ []) $ fsplit ! $
      use1 𝓛 (‵ (hidden_shr count.the_row κ c.now c.ref_ptr.0 c.ref_ptr.1)) (id⊢ 𝓤 _) $
      feq_i ! (List Val) (shr_vals c) (shr_vals c) refl $ fjoin ! $ keep ! (0 ∷ 2 ∷ []) $ done !

module _ (Z : Al) {M : Type 1} {𝓤 : Ura M} {𝓛 : Logic 𝓤} {K : Type 0} {Γ : List (Item 𝓤)} {G : Goal 𝓤 𝓛.H} where
  -- at entry: the count, the token of the `&`, and what the inner call will take
  pub enters_heap : K → (κ : Lft) (q : Share) (r : Bor (RefusingHeap Z.row.Denot)) (more : Item 𝓤) (rest : Fml)
      (req : SProp 𝓤)
      → Step K 𝓛 (‵ (to_count Z 𝓛 κ r) ∷ ‵ (flft κ q) ∷ ‵ (to_inner Z 𝓛 κ r) ∷ more ∷ ‵ rest ∷ raw req ∷ Γ) G
      (((‵ (flft κ q) ⊛ more) ⊛ ‵ (fsep (to_heap Z 𝓛 κ r) rest)) ∷ raw req ∷ Γ) G
  enters_heap t κ q r more rest req = step (λ s. split t $ split t $ move t (2 ∷ []) $ fsplit t $
      use1 𝓛 (‵ (to_count Z 𝓛 κ r) ⊛ ‵ (to_inner Z 𝓛 κ r)) (parts Z 𝓛 κ r) $ split t $
      move t (0 ∷ 3 ∷ 1 ∷ 4 ∷ 2 ∷ 5 ∷ []) $ s)

  -- what the inner call takes, as one
  pub gathers : K → (κ : Lft) (q : Share) (r : Bor (RefusingHeap Z.row.Denot)) (more : Item 𝓤) (rest : Fml)
      (req : SProp 𝓤)
      → Step K 𝓛 ((((‵ (flft κ q) ⊛ more) ⊛ ‵ (fsep (to_inner Z 𝓛 κ r) rest)) ⊛ raw req) ∷ Γ) G
      (‵ (flft κ q) ∷ ‵ (to_inner Z 𝓛 κ r) ∷ more ∷ ‵ rest ∷ raw req ∷ Γ) G
  gathers t κ q r more rest req = step (λ s. move t (1 ∷ 3 ∷ []) $ fjoin t $ move t (1 ∷ 2 ∷ []) $
      join t $ join t $ join t $ s)
