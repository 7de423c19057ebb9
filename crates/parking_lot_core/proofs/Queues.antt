-- What those that are taken and left are to each key.
use Rattle.std.proofs.Common.{◌≡◌, ◌∙◌, ◌∷◌, ◌++◌, ◌+◌, ◌==◌, [], List, refl, sym, ap, Bool, true, false, cond}
use Rattle.std.proofs.Common.{ℕ}
use Rattle.std.proofs.Common.{take, drop, length, suc, eqb-true, eq-eqb, arith}
use Rattle.std.proofs.lemmas.Bool.{false≢true}
use Rattle.std.proofs.lemmas.List.{append-nil}
use Rattle.parking_lot_core_model.specs.declared.place.Waiter.{Waiter}
use Rattle.parking_lot_core_model.specs.declared.parking.FilterOp.{FilterOp}
use Rattle.parking_lot_core_model.specs.declared.parking.FilterOp.TheVariants.{Unpark, Skip, Stop}
use Rattle.parking_lot_core_model.specs.Results.{chosen_by, passed_by, is_left}
use Rattle.parking_lot_core.specs.declared.chain.Waiting.{Waiting}
use Rattle.parking_lot_core.specs.declared.chain.Wanted.TheVariants.{Key}
use Rattle.parking_lot_core.specs.Waits.{onto, without, found, every, others, any, under, picked, kept, takes, behind}
use Rattle.parking_lot_core.specs.Waits.{fits, queue, waiters_of}
use Rattle.parking_lot_core.proofs.Lists.{onto_twice}

-- by cases of a test
pub by_test : (b : Bool) (P : Type 0) → (b ≡ true → P) → (b ≡ false → P) → P
by_test b P f g =
    let both : (c : Bool) → b ≡ c → P = elim [ true ↦ f | false ↦ g ] in
    both b refl

-- another key
pub other_key : (x k key : ℕ) → (x == key) ≡ true → (k == key) ≡ false → (x == k) ≡ false
other_key x k key here there = by_test (x == k) ((x == k) ≡ false)
    (λ e. absurd (false≢true (sym there ∙ eq-eqb k key (sym (eqb-true x k e) ∙ eqb-true x key here)))) (λ e. e)

-- one in front stands in its key's list alone
pub queue_here : (x : Waiting) (xs : List Waiting) (key : ℕ) → (x.key == key) ≡ true
    → queue (x ∷ xs) key ≡ x.waiter ∷ queue xs key
queue_here x xs key e = ap (λ b. cond b (x.waiter ∷ queue xs key) (queue xs key)) e

pub queue_there : (x : Waiting) (xs : List Waiting) (key : ℕ) → (x.key == key) ≡ false
    → queue (x ∷ xs) key ≡ queue xs key
queue_there x xs key e = ap (λ b. cond b (x.waiter ∷ queue xs key) (queue xs key)) e

pub queue_append : (xs ys : List Waiting) (key : ℕ) → queue (xs ++ ys) key ≡ queue xs key ++ queue ys key
queue_append [] ys key = refl
queue_append (x ∷ xs) ys key = both (queue_append xs ys key) (x.key == key)
  where
    both : queue (xs ++ ys) key ≡ queue xs key ++ queue ys key → (b : Bool)
        → cond b (x.waiter ∷ queue (xs ++ ys) key) (queue (xs ++ ys) key)
        ≡ cond b (x.waiter ∷ queue xs key) (queue xs key) ++ queue ys key
    both i true = ap (λ ws. x.waiter ∷ ws) i
    both i false = i

-- those that were put under a key
pub queue_under : (key : ℕ) (xs : List Waiting) → queue (under key xs) key ≡ waiters_of xs
queue_under key [] = refl
queue_under key (x ∷ xs) = queue_here (record x { key = key }) (under key xs) key (eq-eqb key key refl)
    ∙ ap (λ ws. x.waiter ∷ ws) (queue_under key xs)

pub queue_under_else : (key k : ℕ) (xs : List Waiting) → (k == key) ≡ false → queue (under key xs) k ≡ []
queue_under_else key k [] e = refl
queue_under_else key k (x ∷ xs) e =
    queue_there (record x { key = key }) (under key xs) k (other_key key k key (eq-eqb key key refl) e)
    ∙ queue_under_else key k xs e

-- THE FIRST OF A KEY

module _ (key : ℕ) where
  abbrev p : Waiting → Bool
  p = fits (Key key)

  pub first_taken : (xs : List Waiting) → waiters_of (found (fits (Key key)) xs) ≡ take 1 (queue xs key)
  first_taken [] = refl
  first_taken (x ∷ xs) = both (first_taken xs) (x.key == key)
    where
      both : waiters_of (found (fits (Key key)) xs) ≡ take 1 (queue xs key) → (b : Bool)
          → waiters_of (cond b (x ∷ []) (found (fits (Key key)) xs))
          ≡ take 1 (cond b (x.waiter ∷ queue xs key) (queue xs key))
      both i true = refl
      both i false = i

  pub first_left : (xs : List Waiting) → queue (without (fits (Key key)) xs) key ≡ drop 1 (queue xs key)
  first_left [] = refl
  first_left (x ∷ xs) =
      let w = without (fits (Key key)) xs in
      let i = first_left xs in
      by_test (x.key == key) (queue (without (fits (Key key)) (x ∷ xs)) key ≡ drop 1 (queue (x ∷ xs) key))
      (λ e. ap (λ b. queue (cond b xs (x ∷ w)) key) e ∙ sym (ap (drop 1) (queue_here x xs key e)))
      (λ e. ap (λ b. queue (cond b xs (x ∷ w)) key) e
      ∙ (queue_there x w key e ∙ (i ∙ sym (ap (drop 1) (queue_there x xs key e)))))

  -- all of a key
  pub all_taken_of : (xs : List Waiting) → waiters_of (every (fits (Key key)) xs) ≡ queue xs key
  all_taken_of [] = refl
  all_taken_of (x ∷ xs) = both (all_taken_of xs) (x.key == key)
    where
      both : waiters_of (every (fits (Key key)) xs) ≡ queue xs key → (b : Bool)
          → waiters_of (cond b (x ∷ every (fits (Key key)) xs) (every (fits (Key key)) xs))
          ≡ cond b (x.waiter ∷ queue xs key) (queue xs key)
      both i true = ap (λ ws. x.waiter ∷ ws) i
      both i false = i

  pub none_left : (xs : List Waiting) → queue (others (fits (Key key)) xs) key ≡ []
  none_left [] = refl
  none_left (x ∷ xs) =
      let w = others (fits (Key key)) xs in
      let i = none_left xs in
      by_test (x.key == key) (queue (others (fits (Key key)) (x ∷ xs)) key ≡ [])
      (λ e. ap (λ b. queue (cond b w (x ∷ w)) key) e ∙ i)
      (λ e. ap (λ b. queue (cond b w (x ∷ w)) key) e ∙ (queue_there x w key e ∙ i))

  -- those that a filter takes
  pub filter_taken : (answers : List FilterOp) (xs : List Waiting)
      → waiters_of (picked key answers xs) ≡ chosen_by answers (queue xs key)
  filter_taken answers [] = sym (none answers)
    where
      none : (answers : List FilterOp) → chosen_by {X = Waiter} answers [] ≡ []
      none [] = refl
      none (a ∷ answers) = refl
  filter_taken answers (x ∷ xs) = both answers (filter_taken (behind answers) xs) (filter_taken answers xs) (x.key
      == key)
    where
      both : (answers : List FilterOp)
          → waiters_of (picked key (behind answers) xs) ≡ chosen_by (behind answers) (queue xs key)
          → waiters_of (picked key answers xs) ≡ chosen_by answers (queue xs key) → (b : Bool)
          → waiters_of (cond b (cond (takes answers) (x ∷ picked key (behind answers) xs) (picked key (behind
          answers) xs))
          (picked key answers xs)) ≡ chosen_by answers (cond b (x.waiter ∷ queue xs key) (queue xs key))
      both answers i j false = j
      both [] i j true = i
      both (Unpark ∷ answers) i j true = ap (λ ws. x.waiter ∷ ws) i
      both (Skip ∷ answers) i j true = i
      both (Stop ∷ answers) i j true = i

  pub filter_left : (answers : List FilterOp) (xs : List Waiting)
      → queue (kept key answers xs) key ≡ passed_by answers (queue xs key)
  filter_left answers [] = sym (none answers)
    where
      none : (answers : List FilterOp) → passed_by {X = Waiter} answers [] ≡ []
      none [] = refl
      none (a ∷ answers) = refl
  filter_left answers (x ∷ xs) =
      both answers (filter_left (behind answers) xs) (filter_left answers xs)
    where
      shown : (answers : List FilterOp)
          → queue (kept key (behind answers) xs) key ≡ passed_by (behind answers) (queue xs key)
          → (x.key == key) ≡ true
          → queue (cond (takes answers) (kept key (behind answers) xs) (x ∷ kept key (behind answers) xs)) key
          ≡ passed_by answers (x.waiter ∷ queue xs key)
      shown [] i e = queue_here x (kept key [] xs) key e ∙ ap (λ ws. x.waiter ∷ ws) i
      shown (Unpark ∷ answers) i e = i
      shown (Skip ∷ answers) i e = queue_here x (kept key answers xs) key e ∙ ap (λ ws. x.waiter ∷ ws) i
      shown (Stop ∷ answers) i e = queue_here x (kept key [] xs) key e ∙ ap (λ ws. x.waiter ∷ ws) i

      both : (answers : List FilterOp)
          → queue (kept key (behind answers) xs) key ≡ passed_by (behind answers) (queue xs key)
          → queue (kept key answers xs) key ≡ passed_by answers (queue xs key)
          → queue (kept key answers (x ∷ xs)) key ≡ passed_by answers (queue (x ∷ xs) key)
      both answers i j =
          let here = cond (takes answers) (kept key (behind answers) xs) (x ∷ kept key (behind answers) xs) in
          let there = x ∷ kept key answers xs in
          by_test (x.key == key) (queue (kept key answers (x ∷ xs)) key ≡ passed_by answers (queue (x ∷ xs) key))
          (λ e. ap (λ b. queue (cond b here there) key) e
          ∙ (shown answers i e ∙ sym (ap (passed_by answers) (queue_here x xs key e))))
          (λ e. ap (λ b. queue (cond b here there) key) e
          ∙ (queue_there x (kept key answers xs) key e
          ∙ (j ∙ sym (ap (passed_by answers) (queue_there x xs key e)))))

  -- who is there
  pub any_waits : (xs : List Waiting) → any (fits (Key key)) xs ≡ is_left (queue xs key)
  any_waits [] = refl
  any_waits (x ∷ xs) = both (any_waits xs) (x.key == key)
    where
      both : any (fits (Key key)) xs ≡ is_left (queue xs key) → (b : Bool)
          → cond b true (any (fits (Key key)) xs) ≡ is_left (cond b (x.waiter ∷ queue xs key) (queue xs key))
      both i true = refl
      both i false = i

  -- THE LISTS OF OTHER KEYS

  module _ (k : ℕ) (else : (k == key) ≡ false) where
    pub first_else : (xs : List Waiting) → queue (without (fits (Key key)) xs) k ≡ queue xs k
    first_else [] = refl
    first_else (x ∷ xs) =
        let w = without (fits (Key key)) xs in
        let i = first_else xs in
        by_test (x.key == key) (queue (without (fits (Key key)) (x ∷ xs)) k ≡ queue (x ∷ xs) k)
        (λ e. ap (λ b. queue (cond b xs (x ∷ w)) k) e ∙ sym (queue_there x xs k (other_key x.key k key e else)))
        (λ e. ap (λ b. queue (cond b xs (x ∷ w)) k) e ∙ ap (λ ws. cond (x.key == k) (x.waiter ∷ ws) ws) i)

    pub all_else : (xs : List Waiting) → queue (others (fits (Key key)) xs) k ≡ queue xs k
    all_else [] = refl
    all_else (x ∷ xs) =
        let w = others (fits (Key key)) xs in
        let i = all_else xs in
        by_test (x.key == key) (queue (others (fits (Key key)) (x ∷ xs)) k ≡ queue (x ∷ xs) k)
        (λ e. ap (λ b. queue (cond b w (x ∷ w)) k) e ∙ (i ∙ sym (queue_there x xs k (other_key x.key k key e else))))
        (λ e. ap (λ b. queue (cond b w (x ∷ w)) k) e ∙ ap (λ ws. cond (x.key == k) (x.waiter ∷ ws) ws) i)

    pub filter_else : (answers : List FilterOp) (xs : List Waiting) → queue (kept key answers xs) k ≡ queue xs k
    filter_else answers [] = refl
    filter_else answers (x ∷ xs) =
        let i = filter_else (behind answers) xs in
        let j = filter_else answers xs in
        let w = kept key (behind answers) xs in
        let v = kept key answers xs in
        by_test (x.key == key) (queue (kept key answers (x ∷ xs)) k ≡ queue (x ∷ xs) k)
        (λ e.
        let there = other_key x.key k key e else in
        ap (λ b. queue (cond b (cond (takes answers) w (x ∷ w)) (x ∷ v)) k) e
        ∙ (by_test (takes answers) (queue (cond (takes answers) w (x ∷ w)) k ≡ queue xs k)
        (λ t. ap (λ b. queue (cond b w (x ∷ w)) k) t ∙ i)
        (λ t. ap (λ b. queue (cond b w (x ∷ w)) k) t ∙ (queue_there x w k there ∙ i))
        ∙ sym (queue_there x xs k there)))
        (λ e. ap (λ b. queue (cond b (cond (takes answers) w (x ∷ w)) (x ∷ v)) k) e
        ∙ ap (λ ws. cond (x.key == k) (x.waiter ∷ ws) ws) j)

-- how many they are
pub count_of : (xs : List Waiting) → length xs ≡ length (waiters_of xs)
count_of [] = refl
count_of (x ∷ xs) = ap suc (count_of xs)

pub count_onto : (xs ys : List Waiting) → length (onto xs ys) ≡ length xs + length ys
count_onto [] ys = omega arith
count_onto (x ∷ xs) ys = let i = count_onto xs (x ∷ ys) in omega arith

-- who is moved twice stands in order
pub in_order : (xs : List Waiting) → onto (onto xs []) [] ≡ xs
in_order xs = onto_twice xs [] [] ∙ append-nil xs
