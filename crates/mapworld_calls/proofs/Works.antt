-- The blocks of a world work on the keys of their own shards, and tell what they find there.
use Rattle.std.proofs.Common.{◌≡◌, ℕ, zero, suc, ◌+◌, ◌==◌, ⊎_elim, Bool, true, false, List, [], ◌∷◌, Option, Some}
use Rattle.std.proofs.Common.{None, slice_get, filter, option_map, refl, ap, sym, ◌∙◌, arith}
use Rattle.std.specs.List.{list_any}
use Rattle.std.proofs.lemmas.Bool.{cases_Bool}
use Rattle.std.proofs.lemmas.Option.{same_Some, none-some}
use Rattle.mapworld_calls.specs.declared.block.Block.{Block}
use Rattle.mapworld_calls.specs.Calls.{told, visit_answer}
use Rattle.mapworld_calls.specs.Setup.{Setup, Laws, ask_at}
use Rattle.mapworld_calls.specs.Replay.{Work, one, visit, nothing, reached, block_work, done_keys, shard_by, works_on}
use Rattle.mapworld_calls.specs.Replay.{left_by, left, told_as, told_by, frame_of}
use Rattle.mapworld_calls.specs.Frame.{KeepsToShard, LooksAtShard}

-- what is left of a list by a test passes the test
filter-push : {X : Type 0} (p : X → Bool) (x y : X) (xs : List X) (n : ℕ) (is : Bool) → p x ≡ is
    → ((m : ℕ) → slice_get (filter p xs) m ≡ Some y → p y ≡ true)
    → slice_get (filter p (x ∷ xs)) n ≡ Some y → p y ≡ true
filter-push p x y xs zero true is rest at = ap p (sym (same_Some x y (sym (rw is refl) ∙ at))) ∙ is
filter-push p x y xs (suc n) true is rest at = rest n (sym (rw is refl) ∙ at)
filter-push p x y xs n false is rest at = rest n (sym (rw is refl) ∙ at)

pub filter-passes : {X : Type 0} (p : X → Bool) (xs : List X) (n : ℕ) (y : X) → slice_get (filter p xs) n ≡ Some y
    → p y ≡ true
filter-passes p [] n y at = absurd (none-some y at)
filter-passes p (x ∷ xs) n y at = filter-push p x y xs n (p x) refl (λ m h. filter-passes p xs m y h) at

option-same : {X Y : Type 0} (g h : X → Y) (o : Option X) → ((x : X) → o ≡ Some x → g x ≡ h x)
    → option_map g o ≡ option_map h o
option-same g h None same = refl
option-same g h (Some x) same = ap Some (same x refl)

module _ {K V D T : Type 0} (w : Setup K V D T) (laws : Laws w) where
  any-push : (v : ℕ) (x q : K) (xs : List K) (is : Bool) → (w.route x == v) ≡ is
      → (list_any (λ k. w.eq k q) (filter (λ k. w.route k == v) xs) ≡ true → w.route q ≡ v)
      → list_any (λ k. w.eq k q) (filter (λ k. w.route k == v) (x ∷ xs)) ≡ true → w.route q ≡ v
  any-push v x q xs false is rest h = rest (sym (rw is refl) ∙ h)
  any-push v x q xs true is rest h = ⊎_elim own other (cases_Bool (w.eq x q))
    where
      own : w.eq x q ≡ true → w.route q ≡ v
      own e = sym (laws.routes x q e) ∙ (let at : (w.route x == v) ≡ true = is in grind (arith, at))

      other : w.eq x q ≡ false → w.route q ≡ v
      other e = rest (sym (rw (is, e) refl) ∙ h)

  any-on : (v : ℕ) (q : K) (xs : List K) → list_any (λ k. w.eq k q) (filter (λ k. w.route k == v) xs) ≡ true
      → w.route q ≡ v
  any-on v q [] h = absurd cc
  any-on v q (x ∷ xs) h = any-push v x q xs (w.route x == v) refl (λ r. any-on v q xs r) h

  -- a block works on keys of its shard alone
  works-on_shard : (x : Work K D) (b : Block K) (q : K) → works_on w x b q ≡ true → shard_by w x b ≡ Some (w.route q)
  works-on_shard (one k) b q h = ap Some (laws.routes k q h)
  works-on_shard (visit f) b q h = ap Some (sym (any-on b.visit q b.visited.items h))
  works-on_shard nothing b q h = absurd cc

  pub left-worked : (b : Block K) (q : K) (o : Option (K × V)) → works_on w (block_work w b) b q ≡ true
      → left w b q o ≡ left_by w (block_work w b) b o
  left-worked b q o h = rw h

  pub left-idle : (b : Block K) (q : K) (o : Option (K × V)) → works_on w (block_work w b) b q ≡ false
      → left w b q o ≡ o
  left-idle b q o h = rw h

  pub keeps-to_shard : KeepsToShard (frame_of w)
  keeps-to_shard b q o off =
      ⊎_elim (λ h. absurd (off (works-on_shard (block_work w b) b q h))) (λ h. left-idle b q o h)
      (cases_Bool (works_on w (block_work w b) b q))

  -- what a block tells is told from its shard alone
  told-looks : {A : Type 0} (x : Work K D) (b : Block K) (n : ℕ) (m m' : K → Option (K × V))
      → ((q : K) → shard_by w x b ≡ Some (w.route q) → m q ≡ m' q) → told_as w {A = A} x b n m ≡ told_as w x b n m'
  told-looks (one k) b n m m' same =
      ap (λ o. option_map (λ a. told w.deeds a (reached w b.thread b.call n o)) (ask_at w b.thread (b.call + n)))
      (same k refl)
  told-looks (visit f) b n m m' same =
      option-same (λ k. visit_answer w.deeds f (m k)) (λ k. visit_answer w.deeds f (m' k)) (slice_get (done_keys w b) n)
      (λ k at.
      let on : (w.route k == b.visit) ≡ true = filter-passes (λ k. w.route k == b.visit) b.visited.items n k at in
      let is : w.route k ≡ b.visit = grind (arith, on) in
      ap (λ o. visit_answer w.deeds f o) (same k (ap Some (sym is))))
  told-looks nothing b n m m' same = refl

  pub looks-at_shard : {A : Type 0} (n : ℕ) → LooksAtShard (frame_of w) (told_by w {A = A} n)
  looks-at_shard n b m m' same = told-looks (block_work w b) b n m m' same
