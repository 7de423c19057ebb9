-- The wanted lanes of a window, as a number.
use Rattle.std.proofs.Common.{◌≡◌, ℕ, suc, ◌+◌, ◌*◌, ◌%◌, ◌^◌, ◌<◌, ◌≤◌, ◌↔◌, Bool, true, false, cond, List, ◌∷◌}
use Rattle.std.proofs.Common.{length, map, take, drop, take_all, replicate, slice_index, get_or, refl, sym, ap, ◌∙◌}
use Rattle.std.proofs.Common.{inl, inr, arith, w8, length-drop}
use Rattle.std.specs.Int.{bit_at}
use Rattle.std.specs.Simd.Lanes.{mask_l, top, zip2}
use Rattle.std.proofs.Math.Seq.{drop-cons}
use Rattle.std.proofs.Math.Pow.{pow_mono}
use Rattle.std.proofs.lemmas.Bool.{cases_lt, false≢true}
use Rattle.std.proofs.lemmas.List.{get_or-map, get_or_past, length-map}
use Rattle.std.proofs.lemmas.List.{length-take}
use Rattle.std.proofs.lemmas.Simd.{get_or-chunk, tops_compared, zip2_splat_left, mask_l-mod, mask_l-lt, bit_mask_l}
use mir.Val.{bool_byte}
use Rattle.dashmap_table.specs.declared.tags.lanes.Lanes.{Lanes}
use Rattle.dashmap_table.specs.declared.tags.window.Wanted.{Wanted}
use Rattle.dashmap_table.specs.Tags.Lanes.{HasLane, IsWanted, accepts, lanes_by}

one_is_true : (b : Bool) → ◌≡◌ {A = ℕ} (cond b 1 0) 1 → b ≡ true
one_is_true true e = refl
one_is_true false e = absurd (omega (arith, e))

module _ (wanted : Wanted) (tags : List ℕ) (from : ℕ) where
  abbrev window : List ℕ
  window = take 16 (drop from tags)

  abbrev test : ℕ → Bool
  test k = get_or (map (accepts wanted) window) k false

  -- how many lanes the window has
  window-length : (k : ℕ) → (k < length window → (k < 16) × (from + k < length tags))
      × (k < 16 → from + k < length tags → k < length window)
  window-length k =
      let left = length-drop from tags in
      let many = length-take 16 (drop from tags) in
      (λ h. (omega (arith, h, left, many), omega (arith, h, left, many)), λ h g. omega (arith, h, g, left, many))

  test-is : (k : ℕ) → k < length window → test k ≡ accepts wanted (slice_index tags (from + k))
  test-is k within =
      get_or-map (accepts wanted) window k 0 false within
      ∙ ap (accepts wanted) (get_or-chunk from 16 tags k 0 ((window-length k).0 within).0)

  test-past : (k : ℕ) → length window ≤ k → test k ≡ false
  test-past k over = get_or_past (map (accepts wanted) window) k false
      (omega (arith, over, length-map window (accepts wanted)))

  -- a lane's bit is set where the slot is wanted
  pub lane-is : (lanes : Lanes) → lanes.bits ≡ lanes_by wanted tags from → (k : ℕ)
      → HasLane lanes k ↔ IsWanted wanted tags from k
  lane-is lanes same k =
      let bit : bit_at lanes.bits k ≡ cond (test k) 1 0 = ap (λ n. bit_at n k) same
      ∙ bit_mask_l (map (accepts wanted) window) k in (
        λ here.
            let passes : test k ≡ true = one_is_true (test k) (sym bit ∙ here) in
            elim (cases_lt k (length window)) [
              | inl within ↦
                  let w = (window-length k).0 within in (w.0, w.1, sym (test-is k within) ∙ passes)
              | inr over ↦ absurd (false≢true (sym (test-past k over) ∙ passes))
            ],
        λ h. bit ∙ ap (λ b. cond {A = ℕ} b 1 0) (test-is k ((window-length k).1 h.0 h.1) ∙ h.2),
      )

-- a test of a number against each lane
pub bitmask_splat_left : (t : ℕ → ℕ → Bool) (xs : List ℕ) (y : ℕ) → length xs ≡ 16
    → mask_l (map (top 7) (zip2 (λ a b. cond (t a b) 255 0) (replicate 16 y) xs)) % 2 ^ 64 ≡ mask_l
    (map (λ x. t y x) xs)
bitmask_splat_left t xs y long =
    ap (λ ms. mask_l ms % 2 ^ 64) (tops_compared w8 t (replicate 16 y) xs ∙ zip2_splat_left t y 16 xs long)
    ∙ mask_l-mod (map (λ x. t y x) xs) 64 (omega (arith, length-map xs (λ x. t y x), long))

-- one lane more, from the last on
pub mask-more : (p : ℕ → Bool) (tags : List ℕ) (at m : ℕ) → at + 1 ≡ m → m ≤ length tags
    → 2 * mask_l (map p (drop m tags)) + cond (p (get_or tags at 0)) 1 0 ≡ mask_l (map p (drop at tags))
mask-more p tags at m next within =
    let here : drop at tags ≡ get_or tags at 0 ∷ drop (suc at) tags = drop-cons tags at 0 (omega (arith, next, within))
    in
    let e : suc at ≡ m = omega (arith, next) in
    let split : mask_l (map p (drop at tags)) ≡ cond (p (get_or tags at 0)) 1 0 + 2 * mask_l (map p (drop m tags)) =
    ap (λ l. mask_l (map p l)) here ∙ ap (λ n. cond (p (get_or tags at 0)) 1 0 + 2 * mask_l (map p (drop n tags))) e
    in
    omega (arith, split)

-- fewer than sixteen lanes make a small number
pub mask-small : (p : ℕ → Bool) (tags : List ℕ) (from at : ℕ) → from ≤ at → at ≤ length tags → length tags < from + 16
    → mask_l (map p (drop at tags)) < 2 ^ 16
mask-small p tags from at above within short =
    let less = mask_l-lt (map p (drop at tags)) in
    let many : length (map p (drop at tags)) ≤ 16 =
    omega (arith, length-map (drop at tags) p, length-drop at tags, above, within, short) in
    omega (arith, less, pow_mono many)

pub mask-whole : (p : ℕ → Bool) (tags : List ℕ) (from at : ℕ) → from ≡ at → length tags < from + 16
    → mask_l (map p (drop at tags)) ≡ mask_l (map p (take 16 (drop from tags)))
mask-whole p tags from at same short =
    ap (λ n. mask_l (map p (drop n tags))) (sym same)
    ∙ ap (λ l. mask_l (map p l)) (sym (take_all 16 (drop from tags) (omega (arith, length-drop from tags, short))))

pub byte-small : (b : Bool) → bool_byte b ≤ 1
byte-small true = omega arith
byte-small false = omega arith
