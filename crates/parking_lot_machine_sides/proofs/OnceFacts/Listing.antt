-- Lists kept in one list of entries.
use Rattle.std.proofs.Common.{◌≡◌, ◌≢◌, ℕ, zero, suc, ◌+◌, ◌<◌, ◌≤◌, Bool, true, false, not, cond, nat_lt, List, []}
use Rattle.std.proofs.Common.{◌∷◌, ◌++◌, length, map, filter, position, remove, Option, Some, None, is_some, slice_get}
use Rattle.std.proofs.Common.{refl, sym, ap, ◌∙◌, subst, arith, eqb-true, eq-eqb, length-append}
use Rattle.std.specs.List.{position_or_len}
use Rattle.std.proofs.lemmas.Bool.{ne_eqb, ltb-true, ltb-false}
use Rattle.std.proofs.lemmas.Option.{none-some, same_Some}
use Rattle.parking_lot_machine_sides.specs.declared.once.entry.Entry.{Entry}
use Rattle.parking_lot_machine_sides.specs.Once.Entries.{is_in, list_of, joined}
use Rattle.parking_lot_machine_sides.specs.Once.OnceActs.{is_left, thread_in}

abbrev threads : List Entry → List ℕ
threads es = map (λ e. e.thread) es

push_cases : (b : Bool) (e x : Entry) (es fs : List Entry) (t : ℕ) → threads fs ≡ threads es ++ t ∷ []
    → threads (cond b (e ∷ fs) fs) ≡ threads (cond b (e ∷ es) es) ++ t ∷ []
push_cases true e x es fs t h = ap (λ vs. e.thread ∷ vs) h
push_cases false e x es fs t h = h

-- one more at the end of a list
pub push_same : (es : List Entry) (k t : ℕ) → list_of (joined es k t) k ≡ list_of es k ++ t ∷ []
push_same [] k t = ap (λ b. threads (cond b (record { list = k; thread = t } ∷ []) [])) (eq-eqb k k refl)
push_same (e ∷ es) k t = push_cases (is_in k e) e e (filter (is_in k) es) (filter (is_in k) (joined es k t)) t
    (push_same es k t)

same_cases : (b : Bool) (e : Entry) (es fs : List Entry) → threads fs ≡ threads es
    → threads (cond b (e ∷ fs) fs) ≡ threads (cond b (e ∷ es) es)
same_cases true e es fs h = ap (λ vs. e.thread ∷ vs) h
same_cases false e es fs h = h

-- and the others stay
pub push_other : (es : List Entry) (k t j : ℕ) → j ≢ k → list_of (joined es k t) j ≡ list_of es j
push_other [] k t j ne = ap (λ b. threads (cond b (record { list = k; thread = t } ∷ []) []))
    (ne_eqb k j (λ e. ne (sym e)))
push_other (e ∷ es) k t j ne = same_cases (is_in j e) e (filter (is_in j) es) (filter (is_in j) (joined es k t))
    (push_other es k t j ne)

pub length_push : (es : List Entry) (k t : ℕ) → length (joined es k t) ≡ length es + 1
length_push es k t = length-append es (record { list = k; thread = t } ∷ [])

-- the first of a list stands there
abbrev pub IsFirst : ℕ → List Entry → ℕ → Type 0
IsFirst k [] n = ⊥
IsFirst k (e ∷ es) zero = is_in k e ≡ true
IsFirst k (e ∷ es) (suc n) = (is_in k e ≡ false) × IsFirst k es n

one_more : (n : ℕ) → 1 + n ≡ suc n
one_more n = omega arith

first_by : (k : ℕ) (e : Entry) (es : List Entry) (b : Bool) → is_in k e ≡ b
    → (position_or_len (is_in k) es < length es → IsFirst k es (position_or_len (is_in k) es))
    → cond (not b) (1 + position_or_len (is_in k) es) 0 < length (e ∷ es)
    → IsFirst k (e ∷ es) (cond (not b) (1 + position_or_len (is_in k) es) 0)
first_by k e es true at more low = at
first_by k e es false at more low = subst (IsFirst k (e ∷ es)) (sym (one_more (position_or_len (is_in k) es)))
    (at, more (omega (arith, low)))

first_at : (k : ℕ) (es : List Entry) → position_or_len (is_in k) es < length es
    → IsFirst k es (position_or_len (is_in k) es)
first_at k [] h = absurd (omega (arith, h))
first_at k (e ∷ es) h = first_by k e es (is_in k e) refl (first_at k es) h

pub found : (k : ℕ) (es : List Entry) (n : ℕ) → position (is_in k) es ≡ Some n → IsFirst k es n
found k es n h = go (nat_lt (position_or_len (is_in k) es) (length es)) refl h
  where
    go : (b : Bool) → nat_lt (position_or_len (is_in k) es) (length es) ≡ b
        → cond b (Some (position_or_len (is_in k) es)) None ≡ Some n → IsFirst k es n
    go true e f = subst (IsFirst k es) (same_Some _ n f) (first_at k es (ltb-true _ _ e))
    go false e f = absurd (none-some n f)

none_by : (k : ℕ) (e : Entry) (es : List Entry) (b : Bool)
    → (length es ≤ position_or_len (is_in k) es → list_of es k ≡ [])
    → length (e ∷ es) ≤ cond (not b) (1 + position_or_len (is_in k) es) 0
    → threads (cond b (e ∷ filter (is_in k) es) (filter (is_in k) es)) ≡ []
none_by k e es true more low = absurd (omega (arith, low))
none_by k e es false more low = more (omega (arith, low))

none_there : (k : ℕ) (es : List Entry) → length es ≤ position_or_len (is_in k) es → list_of es k ≡ []
none_there k [] h = refl
none_there k (e ∷ es) h = none_by k e es (is_in k e) (none_there k es) h

pub nobody : (k : ℕ) (es : List Entry) → position (is_in k) es ≡ None → list_of es k ≡ []
nobody k es h = go (nat_lt (position_or_len (is_in k) es) (length es)) refl h
  where
    go : (b : Bool) → nat_lt (position_or_len (is_in k) es) (length es) ≡ b
        → cond b (Some (position_or_len (is_in k) es)) None ≡ None → list_of es k ≡ []
    go true e f = absurd (none-some _ (sym f))
    go false e f = none_there k es (ltb-false _ _ e)

pub none_left : (k : ℕ) (es : List Entry) → is_left es k ≡ false → list_of es k ≡ []
none_left k es h = go (position (is_in k) es) refl h
  where
    go : (o : Option ℕ) → position (is_in k) es ≡ o → is_some o ≡ false → list_of es k ≡ []
    go None e f = nobody k es e
    go (Some n) e f = absurd cc

-- the first is taken out
pub out_same : (k : ℕ) (es : List Entry) (n : ℕ) → IsFirst k es n → list_of es k ≡ thread_in es n ∷ list_of
    (remove es n) k
out_same k [] n h = absurd h
out_same k (e ∷ es) zero h = ap (λ b. threads (cond b (e ∷ filter (is_in k) es) (filter (is_in k) es))) h
out_same k (e ∷ es) (suc n) h =
    ap (λ b. threads (cond b (e ∷ filter (is_in k) es) (filter (is_in k) es))) h.0
    ∙ out_same k es n h.1
    ∙ ap (λ vs. thread_in es n ∷ vs)
    (sym (ap (λ b. threads (cond b (e ∷ filter (is_in k) (remove es n)) (filter (is_in k) (remove es n)))) h.0))

pub out_other : (k : ℕ) (es : List Entry) (n j : ℕ) → IsFirst k es n → j ≢ k → list_of (remove es n) j ≡ list_of es j
out_other k [] n j h ne = absurd h
out_other k (e ∷ es) zero j h ne =
    sym (ap (λ b. threads (cond b (e ∷ filter (is_in j) es) (filter (is_in j) es)))
    (ne_eqb e.list j (λ f. ne (sym f ∙ eqb-true e.list k h))))
out_other k (e ∷ es) (suc n) j h ne = same_cases (is_in j e) e (filter (is_in j) es) (filter (is_in j) (remove es n))
    (out_other k es n j h.1 ne)

pub length_out : (k : ℕ) (es : List Entry) (n : ℕ) → IsFirst k es n → length (remove es n) + 1 ≡ length es
length_out k [] n h = absurd h
length_out k (e ∷ es) zero h = omega arith
length_out k (e ∷ es) (suc n) h = omega (arith, length_out k es n h.1)

-- and it is there
pub stands : (k : ℕ) (es : List Entry) (n : ℕ) → IsFirst k es n → (e : Entry) × (slice_get es n ≡ Some e)
    × (thread_in es n ≡ e.thread)
stands k [] n h = absurd h
stands k (e ∷ es) zero h = (e, refl, refl)
stands k (e ∷ es) (suc n) h = stands k es n h.1

short_by : (b : Bool) (e : Entry) (es : List Entry) (n : ℕ) → length (threads es) ≤ n
    → length (threads (cond b (e ∷ es) es)) ≤ n + 1
short_by true e es n h = omega (arith, h)
short_by false e es n h = omega (arith, h)

-- a list has no more threads than there are entries
pub short : (k : ℕ) (es : List Entry) → length (list_of es k) ≤ length es
short k [] = omega arith
short k (e ∷ es) = omega (arith, short_by (is_in k e) e (filter (is_in k) es) (length es) (short k es))

-- an entry of the list, and one of another, behind those before it
pub list_more : (es : List Entry) (e : Entry) (k : ℕ) → is_in k e ≡ true → list_of (es ++ e ∷ []) k ≡ list_of es k ++
    e.thread ∷ []
list_more [] e k h = ap (λ b. threads (cond b (e ∷ []) [])) h
list_more (x ∷ es) e k h = push_cases (is_in k x) x x (filter (is_in k) es) (filter (is_in k) (es ++ e ∷ [])) e.thread
    (list_more es e k h)

pub list_same : (es : List Entry) (e : Entry) (k : ℕ) → is_in k e ≡ false → list_of (es ++ e ∷ []) k ≡ list_of es k
list_same [] e k h = ap (λ b. threads (cond b (e ∷ []) [])) h
list_same (x ∷ es) e k h = same_cases (is_in k x) x (filter (is_in k) es) (filter (is_in k) (es ++ e ∷ []))
    (list_same es e k h)
