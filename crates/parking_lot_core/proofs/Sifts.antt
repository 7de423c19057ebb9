-- A filter goes through a key's waiters.
use Rattle.std.proofs.Common.{◌≡◌, ◌∙◌, ◌∷◌, ◌==◌, [], List, refl, sym, ap, Bool, true, false, cond, Some, None}
use Rattle.std.proofs.Common.{slice_get, drop, take, ◌++◌, ℕ, subst}
use Rattle.std.proofs.lemmas.Bool.{false≢true}
use Rattle.parking_lot_core_model.specs.declared.parking.ParkToken.{ParkToken}
use Rattle.parking_lot_core_model.specs.declared.parking.FilterOp.{FilterOp}
use Rattle.parking_lot_core_model.specs.declared.parking.FilterOp.TheVariants.{Unpark, Skip, Stop}
use Rattle.parking_lot_core_model.specs.Results.{Answers, is_stop}
use Rattle.parking_lot_core_model.specs.Machine.{tokens_of}
use Rattle.parking_lot_core.specs.declared.chain.Waiting.{Waiting}
use Rattle.parking_lot_core.specs.Waits.{onto, queue, takes, behind, picked, kept}
use Rattle.parking_lot_core.proofs.Waiters.{somebody}

-- a list without answers stays
pub kept_none : (key : ℕ) (xs : List Waiting) → kept key [] xs ≡ xs
kept_none key [] = refl
kept_none key (x ∷ xs) = both (kept_none key xs) (x.key == key)
  where
    both : kept key [] xs ≡ xs → (b : Bool) → cond b (x ∷ kept key [] xs) (x ∷ kept key [] xs) ≡ x ∷ xs
    both i true = ap (λ ys. x ∷ ys) i
    both i false = ap (λ ys. x ∷ ys) i

pub picked_none : (key : ℕ) (xs : List Waiting) → picked key [] xs ≡ []
picked_none key [] = refl
picked_none key (x ∷ xs) = both (picked_none key xs) (x.key == key)
  where
    both : picked key [] xs ≡ [] → (b : Bool) → cond b (picked key [] xs) (picked key [] xs) ≡ []
    both i true = i
    both i false = i

module _ {F : Type 0} (gives : F → ParkToken → FilterOp → F → Type 0) (f0 : F) (key : ℕ) (xs0 to0 : List Waiting) where
  -- what it comes to
  abbrev pub Sifted : List Waiting → List Waiting → Type 0
  Sifted left to = (answers : List FilterOp) × (last : F)
      × Answers gives is_stop f0 (tokens_of (queue xs0 key)) answers last
      × (left ≡ kept key answers xs0) × (to ≡ onto (picked key answers xs0) to0)

  -- so far it passed and took these: whatever is answered for the others
  abbrev pub Sifting : F → List Waiting → List Waiting → List Waiting → Type 0
  Sifting f xs passed to = (answers : List FilterOp) (last : F)
      → Answers gives is_stop f (tokens_of (queue xs key)) answers last
      → Sifted (onto passed (kept key answers xs)) (onto (picked key answers xs) to)

  pub sifting : Sifting f0 xs0 [] to0
  sifting answers last h = (answers, last, h, refl, refl)

  -- the next is of another key
  sift_past : (f : F) (x : Waiting) (xs passed to : List Waiting) → (x.key == key) ≡ false
      → Sifting f (x ∷ xs) passed to
      → Sifting f xs (x ∷ passed) to
  sift_past f x xs passed to e h answers last h' =
      let Q : Bool → Type 0 = λ b. Answers gives is_stop f (tokens_of (cond b (x.waiter ∷ queue xs key) (queue xs
      key))) answers last in
      let r = h answers last (subst Q (sym e) h') in
      let L : Bool → Type 0 = λ b. Sifted (onto passed
      (cond b (cond (takes answers) (kept key (behind answers) xs) (x ∷ kept key (behind answers) xs)) (x ∷ kept
      key answers xs)))
      (onto (cond b (cond (takes answers) (x ∷ picked key (behind answers) xs) (picked key (behind answers) xs))
      (picked key answers xs)) to) in
      subst L e r

  sift_shown : (f f' : F) (answer : FilterOp) (x : Waiting) (xs passed to : List Waiting) → (x.key == key) ≡ true
      → is_stop answer ≡ false → gives f x.waiter.token answer f' → Sifting f (x ∷ xs) passed to
      → (answers : List FilterOp) (last : F) → Answers gives is_stop f' (tokens_of (queue xs key)) answers last
      → Sifted (onto passed (cond (takes (answer ∷ answers)) (kept key (behind (answer ∷ answers)) xs) (x ∷ kept
      key (behind (answer ∷ answers)) xs)))
      (onto (cond (takes (answer ∷ answers)) (x ∷ picked key (behind (answer ∷ answers)) xs) (picked key (behind
      (answer ∷ answers)) xs)) to)
  sift_shown f f' Unpark x xs passed to e s gave h answers last h' =
      let Q : Bool → Type 0 = λ b. Answers gives is_stop f (tokens_of (cond b (x.waiter ∷ queue xs key) (queue xs
      key))) (Unpark ∷ answers) last in
      let L : Bool → Type 0 = λ b. Sifted (onto passed (cond b (kept key answers xs) (x ∷ kept key (Unpark ∷
      answers) xs)))
      (onto (cond b (x ∷ picked key answers xs) (picked key (Unpark ∷ answers) xs)) to) in
      subst L e (h (Unpark ∷ answers) last (subst Q (sym e) (f', gave, h')))
  sift_shown f f' Skip x xs passed to e s gave h answers last h' =
      let Q : Bool → Type 0 = λ b. Answers gives is_stop f (tokens_of (cond b (x.waiter ∷ queue xs key) (queue xs
      key))) (Skip ∷ answers) last in
      let L : Bool → Type 0 = λ b. Sifted (onto passed (cond b (x ∷ kept key answers xs) (x ∷ kept key (Skip ∷
      answers) xs)))
      (onto (cond b (picked key answers xs) (picked key (Skip ∷ answers) xs)) to) in
      subst L e (h (Skip ∷ answers) last (subst Q (sym e) (f', gave, h')))
  sift_shown f f' Stop x xs passed to e s gave h answers last h' = absurd (false≢true (sym s))

  -- the filter stops at the next
  sift_stop : (f f' : F) (x : Waiting) (xs passed to : List Waiting) → (x.key == key) ≡ true
      → gives f x.waiter.token Stop f' → Sifting f (x ∷ xs) passed to → Sifted (onto passed (x ∷ xs)) to
  sift_stop f f' x xs passed to e gave h =
      let Q : Bool → Type 0 = λ b. Answers gives is_stop f (tokens_of (cond b (x.waiter ∷ queue xs key) (queue xs
      key))) (Stop ∷ []) f' in
      let L : Bool → Type 0 = λ b. Sifted (onto passed (cond b (x ∷ kept key [] xs) (x ∷ kept key (Stop ∷ []) xs)))
      (onto (cond b (picked key [] xs) (picked key (Stop ∷ []) xs)) to) in
      let r = subst L e (h (Stop ∷ []) f' (subst Q (sym e) (f', gave, (refl, refl)))) in
      subst (λ ys. Sifted (onto passed (x ∷ ys)) to) (kept_none key xs)
      (subst (λ ys. Sifted (onto passed (x ∷ kept key [] xs)) (onto ys to)) (picked_none key xs) r)

  -- THE SAME OF CHAINS, WHERE SOME STAND

  -- all were shown
  pub sifted_end : (f : F) (xs passed to left : List Waiting) → Sifting f xs passed to → slice_get xs 0 ≡ None
      → left ≡ onto passed xs → Sifted left to
  sifted_end f [] passed to left h none is = subst (λ ys. Sifted ys to) (sym is) (h [] f refl)
  sifted_end f (x ∷ xs) passed to left h none is = absurd (some≢none none)
    where
      some≢none : Some x ≡ None → ⊥
      some≢none e = cc

  pub sifted_past : (f : F) (xs passed to : List Waiting) (x : Waiting) (xs' passed' : List Waiting)
      → Sifting f xs passed to → slice_get xs 0 ≡ Some x → (x.key == key) ≡ false → xs' ≡ drop 1 xs
      → passed' ≡ take 1 xs ++ passed → Sifting f xs' passed' to
  sifted_past f xs passed to x xs' passed' h first other l p =
      let is = somebody xs x first in
      let h' = subst (λ ys. Sifting f ys passed to) is h in
      let one : take 1 xs ++ passed ≡ x ∷ passed = ap (λ ys. take 1 ys ++ passed) is in
      subst (λ ys. Sifting f ys passed' to) (sym l)
      (subst (λ ys. Sifting f (drop 1 xs) ys to) (sym (p ∙ one)) (sift_past f x (drop 1 xs) passed to other h'))

  pub sifted_unpark : (f f' : F) (xs passed to : List Waiting) (x : Waiting) (xs' to' : List Waiting)
      → Sifting f xs passed to → slice_get xs 0 ≡ Some x → (x.key == key) ≡ true → gives f x.waiter.token Unpark f'
      → xs' ≡ drop 1 xs → to' ≡ take 1 xs ++ to → Sifting f' xs' passed to'
  sifted_unpark f f' xs passed to x xs' to' h first here gave l t =
      let is = somebody xs x first in
      let h' = subst (λ ys. Sifting f ys passed to) is h in
      let one : take 1 xs ++ to ≡ x ∷ to = ap (λ ys. take 1 ys ++ to) is in
      subst (λ ys. Sifting f' ys passed to') (sym l)
      (subst (λ ys. Sifting f' (drop 1 xs) passed ys) (sym (t ∙ one))
      (sift_shown f f' Unpark x (drop 1 xs) passed to here refl gave h'))

  pub sifted_skip : (f f' : F) (xs passed to : List Waiting) (x : Waiting) (xs' passed' : List Waiting)
      → Sifting f xs passed to → slice_get xs 0 ≡ Some x → (x.key == key) ≡ true → gives f x.waiter.token Skip f'
      → xs' ≡ drop 1 xs → passed' ≡ take 1 xs ++ passed → Sifting f' xs' passed' to
  sifted_skip f f' xs passed to x xs' passed' h first here gave l p =
      let is = somebody xs x first in
      let h' = subst (λ ys. Sifting f ys passed to) is h in
      let one : take 1 xs ++ passed ≡ x ∷ passed = ap (λ ys. take 1 ys ++ passed) is in
      subst (λ ys. Sifting f' ys passed' to) (sym l)
      (subst (λ ys. Sifting f' (drop 1 xs) ys to) (sym (p ∙ one))
      (sift_shown f f' Skip x (drop 1 xs) passed to here refl gave h'))

  pub sifted_stop : (f f' : F) (xs passed to : List Waiting) (x : Waiting) (left : List Waiting)
      → Sifting f xs passed to → slice_get xs 0 ≡ Some x → (x.key == key) ≡ true → gives f x.waiter.token Stop f'
      → left ≡ onto passed xs → Sifted left to
  sifted_stop f f' xs passed to x left h first here gave is =
      let cut = somebody xs x first in
      subst (λ ys. Sifted ys to) (sym (is ∙ ap (onto passed) cut))
      (sift_stop f f' x (drop 1 xs) passed to here gave (subst (λ ys. Sifting f ys passed to) cut h))
