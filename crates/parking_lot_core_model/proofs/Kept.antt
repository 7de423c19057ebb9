-- A map from numbers to lists, kept as one list of entries.
use Rattle.std.proofs.Common.{◌≡◌, ℕ, ◌+◌, ◌<◌, ◌≤◌, Bool, true, false, cond, ◌==◌, List, [], ◌∷◌, ◌++◌, length, map}
use Rattle.std.proofs.Common.{filter, take, drop, Some, None, slice_get, refl, sym, ap, ◌∙◌, subst, eqb-true, eq-eqb}
use Rattle.std.proofs.Common.{arith, get_or, position, remove, suc, not, add-one, nat_lt}
use Rattle.std.specs.List.{position_or_len}
use mathlib.Core.Path.{fun_ext}
use Rattle.std.proofs.Math.Seq.{take-suc, split_at}
use Rattle.std.proofs.lemmas.Bool.{eqb-false, ne_eqb, cond-true, cond-false}
use Rattle.std.proofs.lemmas.List.{map-append, append-nil, length-map, length_push, take_all, drop_all}
use Rattle.std.proofs.lemmas.List.Elements.{filter-append}
use Rattle.std.proofs.lemmas.Option.{slice_get_within, get_or_from_slice_get, slice_get-get_or}
use Rattle.parking_lot_core_model.specs.declared.lists.Entry.{Entry}
use Rattle.parking_lot_core_model.specs.Lists.{updated, is_under, lists_of, IsNth}

-- the same test with its sides exchanged
pub eqb_false_symm : (a b : ℕ) → (a == b) ≡ false → (b == a) ≡ false
eqb_false_symm a b e = ne_eqb b a (λ h. eqb-false a b e (sym h))

-- a test of two numbers, by cases
pub by_eqb : (u t : ℕ) (P : Type 0) → (u ≡ t → P) → ((u == t) ≡ false → P) → P
by_eqb u t P f g =
    let both : (b : Bool) → (u == t) ≡ b → P = elim [ true ↦ λ e. f (eqb-true u t e) | false ↦ g ] in
    both (u == t) refl

module _ {X : Type 0} where
  -- what a change of a map comes to, key by key
  pub by_key : (f g : ℕ → X) (key : ℕ) → f key ≡ g key → ((k : ℕ) → (k == key) ≡ false → f k ≡ g k) → f ≡ g
  by_key f g key here there = fun_ext (λ k.
      let P : Bool → Type 0 = λ b. (k == key) ≡ b → f k ≡ g k in
      let both : (b : Bool) → P b =
      elim [ true ↦ λ e. subst (λ (j : ℕ). f j ≡ g j) (sym (eqb-true k key e)) here | false ↦ λ e. there k e ] in
      both (k == key) refl)

  pub updated_at : (f : ℕ → X) (key : ℕ) (x : X) → updated f key x key ≡ x
  updated_at f key x = cond-true (key == key) x (f key) (eq-eqb key key refl)

  pub updated_other : (f : ℕ → X) (key : ℕ) (x : X) (k : ℕ) → (k == key) ≡ false → updated f key x k ≡ f k
  updated_other f key x k e = cond-false (k == key) x (f k) e

  pub updated_same : (f : ℕ → X) (key : ℕ) → updated f key (f key) ≡ f
  updated_same f key = by_key (updated f key (f key)) f key (updated_at f key (f key))
      (λ k e. updated_other f key (f key) k e)

  pub updated_twice : (f : ℕ → X) (key : ℕ) (x y : X) → updated (updated f key x) key y ≡ updated f key y
  updated_twice f key x y =
      by_key (updated (updated f key x) key y) (updated f key y) key
      (updated_at (updated f key x) key y ∙ sym (updated_at f key y))
      (λ k e. updated_other (updated f key x) key y k e ∙ (updated_other f key x k e ∙ sym (updated_other f key y k e)))

module _ {X : Type 0} where
  -- the element behind a front
  pub slice_get-seam : (xs : List X) (x : X) (ys : List X) → slice_get (xs ++ x ∷ ys) (length xs) ≡ Some x
  slice_get-seam [] x ys = refl
  slice_get-seam (y ∷ xs) x ys = slice_get-seam xs x ys

  pub remove-seam : (xs : List X) (x : X) (ys : List X) → remove (xs ++ x ∷ ys) (length xs) ≡ xs ++ ys
  remove-seam [] x ys = refl
  remove-seam (y ∷ xs) x ys = ap (λ zs. y ∷ zs) (remove-seam xs x ys)

  pub remove_past : (xs : List X) (n : ℕ) → length xs ≤ n → remove xs n ≡ xs
  remove_past xs n h = ap (λ ys. ys ++ drop (suc n) xs) (take_all n xs h)
      ∙ (ap (λ ys. xs ++ ys) (drop_all (suc n) xs (omega arith)) ∙ append-nil xs)

module _ {X Y : Type 0} (f : X → Y) (p : Y → Bool) where
  -- where the first stands that passes, by what is read of each
  position_or_len-map : (xs : List X) → position_or_len (λ x. p (f x)) xs ≡ position_or_len p (map f xs)
  position_or_len-map [] = refl
  position_or_len-map (x ∷ xs) = ap (λ n. cond (not (p (f x))) (1 + n) 0) (position_or_len-map xs)

  pub position-map : (xs : List X) → position (λ x. p (f x)) xs ≡ position p (map f xs)
  position-map xs =
      ap (λ n. cond (nat_lt n (length xs)) (Some n) None) (position_or_len-map xs)
      ∙ ap (λ n. cond (nat_lt (position_or_len p (map f xs)) n) (Some (position_or_len p (map f xs))) None)
      (sym (length-map xs f))

module _ {T : Type 0} where
  pub lists_of-append : (xs ys : List (Entry T)) (k : ℕ) → lists_of (xs ++ ys) k ≡ lists_of xs k ++ lists_of ys k
  lists_of-append xs ys k = ap (map (λ e. e.item)) (filter-append (is_under k) xs ys)
      ∙ map-append (λ e. e.item) (filter (is_under k) xs) (filter (is_under k) ys)

  -- an entry in front stands in its key's list alone
  pub lists_of-cons_at : (key : ℕ) (item : T) (ys : List (Entry T)) → lists_of (record { key = key; item = item } ∷ ys)
      key ≡ item ∷ lists_of ys key
  lists_of-cons_at key item ys =
      ap (map (λ e. e.item))
      (cond-true (key == key) (record { key = key; item = item } ∷ filter (is_under key) ys) (filter (is_under key) ys)
      (eq-eqb key key refl))

  pub lists_of-cons_other : (key : ℕ) (item : T) (ys : List (Entry T)) (k : ℕ) → (key == k) ≡ false
      → lists_of (record { key = key; item = item } ∷ ys) k ≡ lists_of ys k
  lists_of-cons_other key item ys k e =
      ap (map (λ e. e.item))
      (cond-false (key == k) (record { key = key; item = item } ∷ filter (is_under k) ys) (filter (is_under k) ys) e)

  -- an entry at the end
  pub lists_of-push : (es : List (Entry T)) (key : ℕ) (item : T)
      → lists_of (es ++ record { key = key; item = item } ∷ []) ≡ updated (lists_of es) key
      (lists_of es key ++ item ∷ [])
  lists_of-push es key item =
      by_key (lists_of (es ++ record { key = key; item = item } ∷ []))
      (updated (lists_of es) key (lists_of es key ++ item ∷ [])) key
      (lists_of-append es (record { key = key; item = item } ∷ []) key
      ∙ (ap (λ ys. lists_of es key ++ ys) (lists_of-cons_at key item [])
      ∙ sym (updated_at (lists_of es) key (lists_of es key ++ item ∷ []))))
      (λ k e. lists_of-append es (record { key = key; item = item } ∷ []) k
      ∙ (ap (λ ys. lists_of es k ++ ys) (lists_of-cons_other key item [] k (eqb_false_symm k key e))
      ∙ (append-nil (lists_of es k) ∙ sym (updated_other (lists_of es) key (lists_of es key ++ item ∷ []) k e))))

  -- entries, cut around one of them
  cut : (es : List (Entry T)) (at : ℕ) (e : Entry T) → slice_get es at ≡ Some e
      → es ≡ take at es ++ e ∷ drop (suc at) es
  cut es at e h = split_at es at e (slice_get_within es at e h) ∙ ap (λ x. take at es ++ x ∷ drop (suc at) es)
      (get_or_from_slice_get es at e e h)

  cut_lists : (es : List (Entry T)) (key nth at : ℕ) (item : T) → IsNth es key nth at item → (k : ℕ)
      → lists_of es k ≡ lists_of (take at es) k ++ lists_of (record { key = key; item = item } ∷ drop (suc at) es) k
  cut_lists es key nth at item h k = ap (λ xs. lists_of xs k) (cut es at (record { key = key; item = item }) h.there)
      ∙ lists_of-append (take at es) (record { key = key; item = item } ∷ drop (suc at) es) k

  -- the key's list, cut around the entry's item
  cut_here : (es : List (Entry T)) (key nth at : ℕ) (item : T) → IsNth es key nth at item
      → lists_of es key ≡ lists_of (take at es) key ++ item ∷ lists_of (drop (suc at) es) key
  cut_here es key nth at item h = cut_lists es key nth at item h key ∙ ap (λ xs. lists_of (take at es) key ++ xs)
      (lists_of-cons_at key item (drop (suc at) es))

  -- the key's item at that place
  pub nth-item : (es : List (Entry T)) (key nth at : ℕ) (item : T) → IsNth es key nth at item
      → slice_get (lists_of es key) nth ≡ Some item
  nth-item es key nth at item h =
      let xs = lists_of (take at es) key in
      ap (λ ys. slice_get ys nth) (cut_here es key nth at item h)
      ∙ (ap (λ n. slice_get (xs ++ item ∷ lists_of (drop (suc at) es) key) n) (sym h.before)
      ∙ slice_get-seam xs item (lists_of (drop (suc at) es) key))

  -- a removed entry leaves its key's list alone
  pub lists_of-remove : (es : List (Entry T)) (key nth at : ℕ) (item : T) → IsNth es key nth at item
      → lists_of (remove es at) ≡ updated (lists_of es) key (remove (lists_of es key) nth)
  lists_of-remove es key nth at item h =
      let xs = lists_of (take at es) key in
      let ys = lists_of (drop (suc at) es) key in
      by_key (lists_of (remove es at)) (updated (lists_of es) key (remove (lists_of es key) nth)) key
      (lists_of-append (take at es) (drop (suc at) es) key
      ∙ (sym (ap (λ zs. remove zs nth) (cut_here es key nth at item h)
      ∙ (ap (λ n. remove (xs ++ item ∷ ys) n) (sym h.before) ∙ remove-seam xs item ys))
      ∙ sym (updated_at (lists_of es) key (remove (lists_of es key) nth))))
      (λ k e. lists_of-append (take at es) (drop (suc at) es) k
      ∙ (ap (λ zs. lists_of (take at es) k ++ zs)
      (sym (lists_of-cons_other key item (drop (suc at) es) k (eqb_false_symm k key e)))
      ∙ (sym (cut_lists es key nth at item h k)
      ∙ sym (updated_other (lists_of es) key (remove (lists_of es key) nth) k e))))

  -- one more entry, at its key and elsewhere
  pub lists_of-more_at : (es : List (Entry T)) (i : ℕ) (e : Entry T) (key : ℕ) → i < length es → get_or es i e ≡ e
      → e.key ≡ key → lists_of (take (i + 1) es) key ≡ lists_of (take i es) key ++ e.item ∷ []
  lists_of-more_at es i e key h at same =
      rw add-one (ap (λ xs. lists_of xs key) (take-suc es i e h) ∙ (lists_of-append (take i es) (get_or es i e ∷ []) key
      ∙ ap (λ ys. lists_of (take i es) key ++ ys)
      (ap (λ x. lists_of (x ∷ []) key) at
      ∙ ap (map (λ x. x.item)) (cond-true (e.key == key) (e ∷ []) [] (eq-eqb e.key key same)))))

  pub lists_of-more_other : (es : List (Entry T)) (i : ℕ) (e : Entry T) (key : ℕ) → i < length es → get_or es i e ≡ e
      → (e.key == key) ≡ false → lists_of (take (i + 1) es) key ≡ lists_of (take i es) key
  lists_of-more_other es i e key h at other =
      rw add-one (ap (λ xs. lists_of xs key) (take-suc es i e h) ∙ (lists_of-append (take i es) (get_or es i e ∷ []) key
      ∙ (ap (λ ys. lists_of (take i es) key ++ ys)
      (ap (λ x. lists_of (x ∷ []) key) at ∙ ap (map (λ x. x.item)) (cond-false (e.key == key) (e ∷ []) [] other))
      ∙ append-nil (lists_of (take i es) key))))

  -- an emptied list
  none_of : (key : ℕ) (es : List (Entry T)) → filter (is_under key) (filter (λ e. not (is_under key e)) es) ≡ []
  none_of key [] = refl
  none_of key (x ∷ xs) =
      let both : (b : Bool) → (x.key == key) ≡ b
      → filter (is_under key)
      (cond (not b) (x ∷ filter (λ e. not (is_under key e)) xs) (filter (λ e. not (is_under key e)) xs)) ≡ []
      = elim [
        | true ↦ λ e. none_of key xs
        | false ↦ λ e. cond-false (x.key == key)
            (x ∷ filter (is_under key) (filter (λ y. not (is_under key y)) xs))
            (filter (is_under key) (filter (λ y. not (is_under key y)) xs)) e ∙ none_of key xs
      ] in
      both (x.key == key) refl

  others_of : (key k : ℕ) → (k == key) ≡ false → (es : List (Entry T))
      → filter (is_under k) (filter (λ e. not (is_under key e)) es) ≡ filter (is_under k) es
  others_of key k other [] = refl
  others_of key k other (x ∷ xs) =
      let both : (b : Bool) → (x.key == key) ≡ b
      → filter (is_under k)
      (cond (not b) (x ∷ filter (λ e. not (is_under key e)) xs) (filter (λ e. not (is_under key e)) xs)) ≡ filter
      (is_under k) (x ∷ xs)
      = elim [
        | true ↦ λ e. others_of key k other xs
            ∙ sym (cond-false (x.key == k) (x ∷ filter (is_under k) xs) (filter (is_under k) xs)
            (ne_eqb x.key k (λ h. eqb-false k key other (sym h ∙ eqb-true x.key key e))))
        | false ↦ λ e. ap
            (λ ys. cond (x.key == k) (x ∷ ys) ys) (others_of key k other xs)
      ] in
      both (x.key == key) refl

  pub lists_of-clear : (es : List (Entry T)) (key : ℕ) → lists_of (filter (λ e. not (is_under key e)) es) ≡ updated
      (lists_of es) key []
  lists_of-clear es key =
      by_key (lists_of (filter (λ e. not (is_under key e)) es)) (updated (lists_of es) key []) key
      (ap (map (λ e. e.item)) (none_of key es) ∙ sym (updated_at (lists_of es) key []))
      (λ k e. ap (map (λ x. x.item)) (others_of key k e es) ∙ sym (updated_other (lists_of es) key [] k e))

  -- the code's loop over the entries
  pub found : (es : List (Entry T)) (i : ℕ) (e : Entry T) (key nth passed : ℕ) → i < length es → e ≡ get_or es i e
      → e.key ≡ key → passed ≡ length (lists_of (take i es) key) → passed ≡ nth → (item : T) × IsNth es key nth i item
  found es i e key nth passed h at same count stop = (
    e.item,
    record {
      there = slice_get-get_or es i e h ∙ ap (λ x. Some x) (sym at ∙ ap (λ k. record { key = k; item = e.item }) same);
      before = sym count ∙ stop;
    },
  )

  pub passed_at : (es : List (Entry T)) (i : ℕ) (e : Entry T) (key passed : ℕ) → i < length es → e ≡ get_or es i e
      → e.key ≡ key → passed ≡ length (lists_of (take i es) key) → passed + 1 ≡ length (lists_of (take (i + 1) es) key)
  passed_at es i e key passed h at same count =
      ap (λ n. n + 1) count
      ∙ sym (ap length (lists_of-more_at es i e key h (sym at) same) ∙ length_push (lists_of (take i es) key)
      e.item)

  pub passed_other : (es : List (Entry T)) (i : ℕ) (e : Entry T) (key passed : ℕ) → i < length es → e ≡ get_or es i e
      → (e.key ≡ key → ⊥) → passed ≡ length (lists_of (take i es) key)
      → passed ≡ length (lists_of (take (i + 1) es) key)
  passed_other es i e key passed h at other count = count
      ∙ sym (ap length (lists_of-more_other es i e key h (sym at) (ne_eqb e.key key other)))

  -- what was found is the key's item
  pub item_is : (es : List (Entry T)) (key nth at : ℕ) (e : Entry T) → ((item : T) × IsNth es key nth at item)
      → e ≡ get_or es at e → Some e.item ≡ slice_get (lists_of es key) nth
  item_is es key nth at e h is =
      ap (λ x. Some x.item) (is ∙ get_or_from_slice_get es at (record { key = key; item = h.0 }) e h.1.there)
      ∙ sym (nth-item es key nth at h.0 h.1)

  -- past the end there is nothing to take
  pub updated_past : (f : ℕ → List T) (key n : ℕ) → length (f key) ≤ n → f ≡ updated f key (remove (f key) n)
  updated_past f key n h = sym (ap (updated f key) (remove_past (f key) n h) ∙ updated_same f key)
