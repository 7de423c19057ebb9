-- Linked nodes, and the chains that they spell.
use Rattle.std.proofs.Common.{◌≡◌, ℕ, zero, suc, ◌<◌, ◌≤◌, ◌==◌, false, List, [], ◌∷◌, ◌++◌}
use Rattle.std.proofs.Common.{◌⊎◌, inl, inr, length, map, Option, Some, None, slice_get, slice_set, refl, sym, ap}
use Rattle.std.proofs.Common.{◌∙◌, subst, arith}
use Rattle.std.proofs.lemmas.Bool.{ne_eqb}
use Rattle.parking_lot_core_model.specs.declared.chains.Node.{Node}
use Rattle.parking_lot_core_model.specs.declared.chains.Head.{Head}
use Rattle.parking_lot_core_model.specs.declared.chains.Spot.{Spot}
use Rattle.parking_lot_core_model.specs.declared.lists.Entry.{Entry}
use Rattle.parking_lot_core_model.specs.declared.place.Waiter.{Waiter}
use Rattle.parking_lot_core_model.specs.Chains.{spot_at, walk_at, walk_on, walk, entry_of, chain, last_of}
use Rattle.parking_lot_core_model.specs.Chains.{Leads, IsChain}
use Rattle.parking_lot_core_model.proofs.Kept.{eqb_false_symm}
use Rattle.parking_lot_core_model.proofs.Numbers.{slice_get-set_other}

pub some≢none : {X : Type 0} {x : X} → Some x ≡ None → ⊥
some≢none e = cc

pub some_is : {X : Type 0} {x y : X} → Some x ≡ Some y → x ≡ y
some_is e = cc

-- a walk meets no more than it may
pub walk_few : (nodes : List Node) (left : ℕ) (before at : Option ℕ) → length (walk nodes left before at) ≤ left
walk_few nodes zero before at = omega arith
walk_few nodes (suc left) before None = omega arith
walk_few nodes (suc left) before (Some n) =
    elim (slice_get nodes n) as (λ o. length (walk_at (walk nodes left) before n o) ≤ suc left) [
      | None ↦ omega arith
      | Some node ↦ (let h = walk_few nodes left (Some n) node.next in omega (arith, h))
    ]

-- the number is none of these
abbrev pub Apart : ℕ → List ℕ → Type 0
Apart n [] = Unit {0}
Apart n (m ∷ ms) = ((m == n) ≡ false) × Apart n ms

pub apart_in : (n : ℕ) (ds : List ℕ) (p : ℕ) (es : List ℕ) → Apart n (ds ++ p ∷ es) → (p == n) ≡ false
apart_in n [] p es h = h.0
apart_in n (d ∷ ds) p es h = apart_in n ds p es h.1

pub last_append : (before : Option ℕ) (ds es : List ℕ) → last_of before (ds ++ es) ≡ last_of (last_of before ds) es
last_append before [] es = refl
last_append before (d ∷ ds) es = last_append (Some d) ds es

-- numbers are none, or some and a last
pub snoc : (ns : List ℕ) → (ns ≡ []) ⊎ ((ms : List ℕ) × (l : ℕ) × (ns ≡ ms ++ l ∷ []))
snoc [] = inl refl
snoc (n ∷ ns) = elim (snoc ns) [
  | inl e ↦ inr ([], n, ap (λ xs. n ∷ xs) e)
  | inr r ↦ inr (n ∷ r.0, r.1, ap (λ xs. n ∷ xs) r.2)
]

-- what is told of a number's node; nothing of one that isn't there
abbrev pub spot_of : Option ℕ → ℕ → Option Node → Spot
spot_of before n None = record { before = before; key = 0; waiter = record { thread = n; token = record { 0 = 0 } } }
spot_of before n (Some node) = spot_at before n node

abbrev pub entry_at : ℕ → Option Node → Entry Waiter
entry_at n node = entry_of (spot_of None n node)

-- what is told of some numbers, in their order
abbrev pub trail : List Node → Option ℕ → List ℕ → List Spot
trail nodes before [] = []
trail nodes before (n ∷ ns) = spot_of before n (slice_get nodes n) ∷ trail nodes (Some n) ns

abbrev pub along : List Node → List ℕ → List (Entry Waiter)
along nodes [] = []
along nodes (n ∷ ns) = entry_at n (slice_get nodes n) ∷ along nodes ns

module _ (nodes : List Node) where
  entry_before : (before : Option ℕ) (n : ℕ) (o : Option Node) → entry_of (spot_of before n o) ≡ entry_at n o
  entry_before before n None = refl
  entry_before before n (Some node) = refl

  pub trail_along : (before : Option ℕ) (ns : List ℕ) → map entry_of (trail nodes before ns) ≡ along nodes ns
  trail_along before [] = refl
  trail_along before (n ∷ ns) =
      ap (λ e. e ∷ map entry_of (trail nodes (Some n) ns)) (entry_before before n (slice_get nodes n))
      ∙ ap (λ es. entry_at n (slice_get nodes n) ∷ es) (trail_along (Some n) ns)

  pub along_append : (ms ns : List ℕ) → along nodes (ms ++ ns) ≡ along nodes ms ++ along nodes ns
  along_append [] ns = refl
  along_append (m ∷ ms) ns = ap (λ es. entry_at m (slice_get nodes m) ∷ es) (along_append ms ns)

  pub length_along : (ns : List ℕ) → length (along nodes ns) ≡ length ns
  length_along [] = refl
  length_along (n ∷ ns) = let h = length_along ns in omega (arith, h)

  pub along_same : (others : List Node) → ((m : ℕ) → entry_at m (slice_get others m) ≡ entry_at m (slice_get nodes m))
      → (ns : List ℕ) → along others ns ≡ along nodes ns
  along_same others same [] = refl
  along_same others same (n ∷ ns) = ap (λ e. e ∷ along others ns) (same n)
      ∙ ap (λ es. entry_at n (slice_get nodes n) ∷ es) (along_same others same ns)

  pub along_set : (n : ℕ) (x : Node) (ns : List ℕ) → Apart n ns → along (slice_set nodes n x) ns ≡ along nodes ns
  along_set n x [] a = refl
  along_set n x (m ∷ ms) a =
      ap (λ o. entry_at m o ∷ along (slice_set nodes n x) ms) (slice_get-set_other nodes n m x a.0)
      ∙ ap (λ es. entry_at m (slice_get nodes m) ∷ es) (along_set n x ms a.1)

  module _ (count bucket : ℕ) where
    pub leads_split : (ms ns : List ℕ) (at to : Option ℕ) → Leads nodes count bucket at (ms ++ ns) to
        → (mid : Option ℕ) × Leads nodes count bucket at ms mid × Leads nodes count bucket mid ns to
    leads_split [] ns at to h = (at, refl, h)
    leads_split (m ∷ ms) ns at to h =
        let r = leads_split ms ns h.0.next to h.4 in
        (r.0, (h.0, h.1, h.2, h.3, r.1), r.2)

    pub leads_join : (ms ns : List ℕ) (at mid to : Option ℕ) → Leads nodes count bucket at ms mid
        → Leads nodes count bucket mid ns to → Leads nodes count bucket at (ms ++ ns) to
    leads_join [] ns at mid to h k = subst (λ o. Leads nodes count bucket o ns to) (sym h) k
    leads_join (m ∷ ms) ns at mid to h k = (h.0, h.1, h.2, h.3, leads_join ms ns h.0.next mid to h.4 k)

    same_length : (ms ns : List ℕ) (at : Option ℕ) → Leads nodes count bucket at ms None
        → Leads nodes count bucket at ns None → length ms ≡ length ns
    same_length [] [] at h k = refl
    same_length [] (n ∷ ns) at h k = absurd (some≢none (sym k.1 ∙ h))
    same_length (m ∷ ms) [] at h k = absurd (some≢none (sym h.1 ∙ k))
    same_length (m ∷ ms) (n ∷ ns) at h k =
        let e : m ≡ n = some_is (sym h.1 ∙ k.1) in
        let f : h.0 ≡ k.0 = some_is (sym h.2 ∙ (ap (slice_get nodes) e ∙ k.2)) in
        let r = same_length ms ns k.0.next (subst (λ (x : Node). Leads nodes count bucket x.next ms None) f h.4) k.4 in
        omega (arith, r)

    -- no number comes twice
    apart_all : (n len : ℕ) → ((ms : List ℕ) → Leads nodes count bucket (Some n) ms None → length ms ≡ len)
        → (at : Option ℕ) (ms : List ℕ) → Leads nodes count bucket at ms None → length ms < len → Apart n ms
    apart_all n len same at [] h less = tt
    apart_all n len same at (m ∷ ms) h less = (
      ne_eqb m n (λ e.
          let k = same (m ∷ ms)
          (subst (λ (o : Option ℕ). Leads nodes count bucket o (m ∷ ms) None) (h.1 ∙ ap (λ x. Some x) e) h) in
          omega (arith, k, less)),
      apart_all n len same h.0.next ms h.4 (omega (arith, less)),
    )

    pub apart_next : (n : ℕ) (ns : List ℕ) (at : Option ℕ) → Leads nodes count bucket at (n ∷ ns) None → Apart n ns
    apart_next n ns at h =
        apart_all n (length (n ∷ ns))
        (λ ms k. same_length ms (n ∷ ns) (Some n) k
        (subst (λ (o : Option ℕ). Leads nodes count bucket o (n ∷ ns) None) h.1 h)) h.0.next ns h.4 (omega arith)

    pub apart_before : (ds : List ℕ) (p : ℕ) (es : List ℕ) (at : Option ℕ)
        → Leads nodes count bucket at (ds ++ p ∷ es) None → Apart p ds
    apart_before [] p es at h = tt
    apart_before (d ∷ ds) p es at h = (
      eqb_false_symm p d (apart_in d ds p es (apart_next d (ds ++ p ∷ es) at h)),
      apart_before ds p es h.0.next h.4,
    )

    pub leads_set : (n : ℕ) (x : Node) (ns : List ℕ) (at to : Option ℕ) → Apart n ns
        → Leads nodes count bucket at ns to → Leads (slice_set nodes n x) count bucket at ns to
    leads_set n x [] at to a h = h
    leads_set n x (m ∷ ms) at to a h =
        (h.0, h.1, slice_get-set_other nodes n m x a.0 ∙ h.2, h.3, leads_set n x ms h.0.next to a.1 h.4)

    -- a walk meets the numbers to which the nodes lead
    pub walk_is : (ns : List ℕ) (at : Option ℕ) (left : ℕ) (before : Option ℕ) → Leads nodes count bucket at ns None
        → length ns ≤ left → walk nodes left before at ≡ trail nodes before ns
    walk_is [] at zero before h k = refl
    walk_is [] at (suc left) before h k = ap (walk nodes (suc left) before) h
    walk_is (n ∷ ns) at zero before h k = absurd (omega (arith, k))
    walk_is (n ∷ ns) at (suc left) before h k =
        ap (walk_on nodes (walk nodes left) before) h.1
        ∙ (ap (walk_at (walk nodes left) before n) h.2
        ∙ (ap (λ ss. spot_at before n h.0 ∷ ss) (walk_is ns h.0.next left (Some n) h.4 (omega (arith, k)))
        ∙ ap (λ o. spot_of before n o ∷ trail nodes (Some n) ns) (sym h.2)))

    pub chain_is : (head : Head) (h : IsChain nodes count bucket head) → chain nodes head ≡ along nodes h.0
    chain_is head h = ap (map entry_of) (walk_is h.0 head.first (length nodes) None h.1 h.3) ∙ trail_along None h.0
