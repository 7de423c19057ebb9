-- Programs that hold one guard at a time: the test decides the definition, and sessions stand apart.
use Rattle.std.proofs.Common.{◌≡◌, ℕ, zero, suc, ◌<◌, Bool, true, false, not, if◌then◌else◌, List, [], ◌∷◌, Option}
use Rattle.std.proofs.Common.{Some, None, refl, ap, subst, sym, ◌∙◌, ◌⊎◌, inl, inr, ◌↔◌, IsTrue, drop, arith}
use Rattle.std.specs.List.{slice_get}
use Rattle.mapworld_calls.specs.declared.ask.Ask.{Ask}
use Rattle.mapworld_calls.specs.declared.ask.Ask.TheVariants as ask
use Rattle.mapworld_calls.specs.declared.ask.Held.{Held}
use Rattle.mapworld_calls.specs.declared.ask.Held.TheVariants as held
use Rattle.mapworld_calls.specs.declared.ask.Keyed.{Keyed}
use Rattle.mapworld_calls.specs.declared.ask.Begin.{Begin}
use Rattle.mapworld_calls.specs.declared.ask.Walk.{Walk}
use Rattle.mapworld_calls.specs.Programs.{is_drop, session_behind, opening_before, IsBeforeDrop, HoldsOneGuard}
use Rattle.mapworld_calls.specs.Programs.{one_guard}
use Rattle.mapworld_calls.specs.Sessions.{TakesGuards}

-- a call that is the guard's last is its drop
pub is_drop_is : {V D : Type 0} (h : Held V D) → is_drop h ≡ true → h ≡ held.Drop
is_drop_is (held.Read d) e = absurd (cc)
is_drop_is (held.Write d) e = absurd (cc)
is_drop_is held.Downgrade e = absurd (cc)
is_drop_is (held.Insert v) e = absurd (cc)
is_drop_is held.IntoRef e = absurd (cc)
is_drop_is held.Remove e = absurd (cc)
is_drop_is held.RemoveEntry e = absurd (cc)
is_drop_is (held.ReplaceEntry v) e = absurd (cc)
is_drop_is held.IntoKey e = absurd (cc)
is_drop_is held.Drop e = refl

-- the guard that is held at the start has its drop, behind other calls on it alone
pub record Closes {K V D : Type 0} (program : List (Ask K V D)) : Type 0 where
  pub at : ℕ
  pub last : slice_get program at ≡ Some (ask.Held held.Drop)
  pub reads : (k : ℕ) → k < at → IsBeforeDrop (slice_get program k)

-- an opening is followed by its drop
closes_behind : {K V D : Type 0} (a : Ask K V D) (p : List (Ask K V D)) (j : ℕ) → 0 < j
    → slice_get (a ∷ p) j ≡ Some (ask.Held held.Drop) → ((k : ℕ) → 0 < k → k < j → IsBeforeDrop (slice_get (a ∷ p) k))
    → Closes p
closes_behind a p zero l e reads = absurd (omega arith)
closes_behind a p (suc j) l e reads =
    record { at = j; last = e; reads = λ k m. reads (suc k) (omega arith) (omega arith) }

opening_closes : {K V D : Type 0} (b : Begin K) (p : List (Ask K V D)) → HoldsOneGuard (ask.Begin b ∷ p) → Closes p
opening_closes b p h = let d = h 0 b refl in closes_behind (ask.Begin b) p d.0 d.1 d.2 d.3

-- a program that holds one guard at a time does so without its first call
shifted : {K V D : Type 0} (a : Ask K V D) (p : List (Ask K V D)) (i j : ℕ) → suc i < j
    → slice_get (a ∷ p) j ≡ Some (ask.Held held.Drop)
    → ((k : ℕ) → suc i < k → k < j → IsBeforeDrop (slice_get (a ∷ p) k))
    → (j : ℕ) × (i < j) × (slice_get p j ≡ Some (ask.Held held.Drop))
    × ((k : ℕ) → i < k → k < j → IsBeforeDrop (slice_get p k))
shifted a p i zero l e reads = absurd (omega arith)
shifted a p i (suc j) l e reads = (j, omega arith, e, λ k m n. reads (suc k) (omega arith) (omega arith))

rest_holds : {K V D : Type 0} (a : Ask K V D) (p : List (Ask K V D)) → HoldsOneGuard (a ∷ p) → HoldsOneGuard p
rest_holds a p h i b e = let d = h (suc i) b e in shifted a p i d.0 d.1 d.2 d.3

-- and so it does with one more call in front, if that is no opening, or one that closes
reads_behind : {K V D : Type 0} (a : Ask K V D) (p : List (Ask K V D)) (i j : ℕ)
    → ((k : ℕ) → i < k → k < j → IsBeforeDrop (slice_get p k)) → (k : ℕ) → suc i < k → k < suc j
    → IsBeforeDrop (slice_get (a ∷ p) k)
reads_behind a p i j reads zero m n = absurd (omega arith)
reads_behind a p i j reads (suc k) m n = reads k (omega arith) (omega arith)

reads_after : {K V D : Type 0} (a : Ask K V D) (p : List (Ask K V D)) (j : ℕ)
    → ((k : ℕ) → k < j → IsBeforeDrop (slice_get p k)) → (k : ℕ) → 0 < k → k < suc j
    → IsBeforeDrop (slice_get (a ∷ p) k)
reads_after a p j reads zero m n = absurd (omega arith)
reads_after a p j reads (suc k) m n = reads k (omega arith)

other_holds : {K V D : Type 0} (a : Ask K V D) (p : List (Ask K V D)) → ((b : Begin K) → a ≡ ask.Begin b → ⊥)
    → HoldsOneGuard p → HoldsOneGuard (a ∷ p)
other_holds a p other h zero b e = absurd (other b (cc))
other_holds a p other h (suc i) b e = let d = h i b e in (suc d.0, omega (arith, d.1), d.2, reads_behind a p i d.0 d.3)

opening_holds : {K V D : Type 0} (b : Begin K) (p : List (Ask K V D)) → HoldsOneGuard p → Closes p
    → HoldsOneGuard (ask.Begin b ∷ p)
opening_holds b p h c zero b' e = (suc c.at, omega arith, c.last, reads_after (ask.Begin b) p c.at c.reads)
opening_holds b p h c (suc i) b' e = let d = h i b' e in
    (suc d.0, omega (arith, d.1), d.2, reads_behind (ask.Begin b) p i d.0 d.3)

-- what closes, by its first call
other_behind : {K V D : Type 0} (h : Held V D) (p : List (Ask K V D)) → is_drop h ≡ false → (c : Closes p) (k : ℕ)
    → k < suc c.at → IsBeforeDrop (slice_get (ask.Held h ∷ p) k)
other_behind h p other c zero l = (h, refl, other)
other_behind h p other c (suc k) l = c.reads k (omega arith)

other_closes : {K V D : Type 0} (h : Held V D) (p : List (Ask K V D)) → is_drop h ≡ false → Closes p
    → Closes (ask.Held h ∷ p)
other_closes h p other c = record { at = suc c.at; last = c.last; reads = other_behind h p other c }

drop_closes : {K V D : Type 0} (p : List (Ask K V D)) → Closes (ask.Held held.Drop ∷ p)
drop_closes p = record { at = 0; last = refl; reads = λ k l. absurd (omega arith) }

closes_first : {K V D : Type 0} (a : Ask K V D) (p : List (Ask K V D)) (j : ℕ)
    → slice_get (a ∷ p) j ≡ Some (ask.Held held.Drop) → ((k : ℕ) → k < j → IsBeforeDrop (slice_get (a ∷ p) k))
    → (a ≡ ask.Held held.Drop) ⊎ (IsBeforeDrop (Some a) × Closes p)
closes_first a p zero e reads = inl (cc)
closes_first a p (suc j) e reads =
    inr (reads 0 (omega arith), record { at = j; last = e; reads = λ k l. reads (suc k) (omega arith) })

closes_by : {K V D : Type 0} (a : Ask K V D) (p : List (Ask K V D)) → Closes (a ∷ p) → (a ≡ ask.Held held.Drop)
    ⊎ (IsBeforeDrop (Some a) × Closes p)
closes_by a p c = closes_first a p c.at c.last c.reads

-- what the test means of the rest of a program, whether a guard is held or not
abbrev HoldsWithin : {K V D : Type 0} → Bool → List (Ask K V D) → Type 0
HoldsWithin false p = HoldsOneGuard p
HoldsWithin true p = HoldsOneGuard p × Closes p

held_within : {K V D : Type 0} (h : Held V D) (p : List (Ask K V D)) (is : Bool) → is_drop h ≡ is
    → HoldsWithin (not is) p → HoldsOneGuard (ask.Held h ∷ p) × Closes (ask.Held h ∷ p)
held_within h p true e r = (
  other_holds (ask.Held h) p (λ b z. cc) r,
  subst (λ (z : Held _ _). Closes (ask.Held z ∷ p)) (sym (is_drop_is h e))
      (drop_closes p),
)
held_within h p false e r = (other_holds (ask.Held h) p (λ b z. cc) r.0, other_closes h p e r.1)

holds_within : {K V D : Type 0} (within : Bool) (p : List (Ask K V D)) → one_guard within p ≡ true
    → HoldsWithin within p
holds_within false [] h = λ i b e. absurd (cc)
holds_within true [] h = absurd (cc)
holds_within false (ask.Keyed k ∷ p) h = other_holds (ask.Keyed k) p (λ b e. cc) (holds_within false p h)
holds_within true (ask.Keyed k ∷ p) h = absurd (cc)
holds_within false (ask.Begin b ∷ p) h = let r = holds_within true p h in opening_holds b p r.0 r.1
holds_within true (ask.Begin b ∷ p) h = absurd (cc)
holds_within false (ask.Walk f ∷ p) h = other_holds (ask.Walk f) p (λ b e. cc) (holds_within false p h)
holds_within true (ask.Walk f ∷ p) h = absurd (cc)
holds_within false (ask.Held g ∷ p) h = other_holds (ask.Held g) p (λ b e. cc) (holds_within false p h)
holds_within true (ask.Held g ∷ p) h = held_within g p (is_drop g) refl (holds_within (not (is_drop g)) p h)

-- a guard that is held at a call closes by that call, or behind it
other_stays : {K V D : Type 0} (h : Held V D) (p : List (Ask K V D)) → is_drop h ≡ false → Closes (ask.Held h ∷ p)
    → Closes p
other_stays {K} {V} {D} h p other c =
    elim (closes_by (ask.Held h) p c) [
      | inl e ↦ let same : h ≡ held.Drop = cc in
          absurd (let drops : is_drop h ≡ true = ap (λ (z : Held V D). is_drop z) same in cc)
      | inr r ↦ r.1
    ]

keyed_never : {K V D : Type 0} (k : Keyed K V D) (p : List (Ask K V D)) → Closes (ask.Keyed k ∷ p) → ⊥
keyed_never k p c = elim (closes_by (ask.Keyed k) p c) [ inl e ↦ (cc) | inr r ↦ let e = r.0.1 in (cc) ]

opening_never : {K V D : Type 0} (b : Begin K) (p : List (Ask K V D)) → Closes (ask.Begin b ∷ p) → ⊥
opening_never b p c = elim (closes_by (ask.Begin b) p c) [ inl e ↦ (cc) | inr r ↦ let e = r.0.1 in (cc) ]

walk_never : {K V D : Type 0} (f : Walk D) (p : List (Ask K V D)) → Closes (ask.Walk f ∷ p) → ⊥
walk_never f p c = elim (closes_by (ask.Walk f) p c) [ inl e ↦ (cc) | inr r ↦ let e = r.0.1 in (cc) ]

empty_never : {K V D : Type 0} → Closes {K = K} {V = V} {D = D} [] → ⊥
empty_never c = let e = c.last in (cc)

stays_within : {K V D : Type 0} (h : Held V D) (p : List (Ask K V D)) (is : Bool) → is_drop h ≡ is
    → HoldsOneGuard (ask.Held h ∷ p) → Closes (ask.Held h ∷ p) → HoldsWithin (not is) p
stays_within h p true e holds closes = rest_holds (ask.Held h) p holds
stays_within h p false e holds closes = (rest_holds (ask.Held h) p holds, other_stays h p e closes)

passes_within : {K V D : Type 0} (within : Bool) (p : List (Ask K V D)) → HoldsWithin within p
    → one_guard within p ≡ true
passes_within false [] h = refl
passes_within true [] h = absurd (empty_never h.1)
passes_within false (ask.Keyed k ∷ p) h = passes_within false p (rest_holds (ask.Keyed k) p h)
passes_within true (ask.Keyed k ∷ p) h = absurd (keyed_never k p h.1)
passes_within false (ask.Begin b ∷ p) h = passes_within true p (rest_holds (ask.Begin b) p h, opening_closes b p h)
passes_within true (ask.Begin b ∷ p) h = absurd (opening_never b p h.1)
passes_within false (ask.Walk f ∷ p) h = passes_within false p (rest_holds (ask.Walk f) p h)
passes_within true (ask.Walk f ∷ p) h = absurd (walk_never f p h.1)
passes_within false (ask.Held g ∷ p) h = passes_within false p (rest_holds (ask.Held g) p h)
passes_within true (ask.Held g ∷ p) h = passes_within (not (is_drop g)) p (stays_within g p (is_drop g) refl h.0 h.1)

-- the test says yes just where the program holds one guard at a time
pub one_guard_holds : {K V D : Type 0} (program : List (Ask K V D)) → one_guard false program ≡ true
    → HoldsOneGuard program
one_guard_holds program h = holds_within false program h

pub holds_one_guard : {K V D : Type 0} (program : List (Ask K V D)) → HoldsOneGuard program
    → one_guard false program ≡ true
holds_one_guard program h = passes_within false program h

pub one_guard_decides : {K V D : Type 0} (program : List (Ask K V D)) → (one_guard false program ≡ true) ↔ HoldsOneGuard
    program
one_guard_decides program = (one_guard_holds program, holds_one_guard program)

-- so what the test says is whether the program does
pub one_guard_tells : {K V D : Type 0} (program : List (Ask K V D)) (answer : Bool) → answer ≡ one_guard false program
    → IsTrue answer ↔ HoldsOneGuard program
one_guard_tells program answer e = (λ t. one_guard_holds program (sym e ∙ t), λ h. e ∙ holds_one_guard program h)

-- a session is open
is_open : Option ℕ → Bool
is_open None = false
is_open (Some i) = true

-- a call, if there is one, in front of the rest
onto : {A : Type 0} → Option A → List A → List A
onto None xs = xs
onto (Some x) xs = x ∷ xs

drop_split : {A : Type 0} (xs : List A) (c : ℕ) → drop c xs ≡ onto (slice_get xs c) (drop (suc c) xs)
unfolding onto
drop_split [] zero = refl
drop_split [] (suc c) = refl
drop_split (x ∷ xs) zero = refl
drop_split (x ∷ xs) (suc c) = drop_split xs c

-- a session stays open but for its drop
closed_stays : (drops : Bool) → false ≡ is_open (if drops then None else None)
unfolding is_open
closed_stays true = refl
closed_stays false = refl

open_stays : (drops : Bool) (i : ℕ) → not drops ≡ is_open (if drops then None else Some i)
unfolding is_open
open_stays true i = refl
open_stays false i = refl

-- the test of what is left of a program goes on by the session that is open
passes_on : {K V D : Type 0} (c : ℕ) (o : Option (Ask K V D)) (s : Option ℕ) (rest : List (Ask K V D))
    → one_guard (is_open s) (onto o rest) ≡ true → one_guard (is_open (session_behind c o s)) rest ≡ true
unfolding is_open onto
passes_on c None s rest h = h
passes_on c (Some (ask.Keyed k)) None rest h = h
passes_on c (Some (ask.Keyed k)) (Some i) rest h = absurd (cc)
passes_on c (Some (ask.Begin b)) None rest h = h
passes_on c (Some (ask.Begin b)) (Some i) rest h = absurd (cc)
passes_on c (Some (ask.Walk f)) None rest h = h
passes_on c (Some (ask.Walk f)) (Some i) rest h = absurd (cc)
passes_on c (Some (ask.Held g)) None rest h = subst (λ b. one_guard b rest ≡ true) (closed_stays (is_drop g)) h
passes_on c (Some (ask.Held g)) (Some i) rest h = subst (λ b. one_guard b rest ≡ true) (open_stays (is_drop g) i) h

passes_from : {K V D : Type 0} (program : List (Ask K V D)) → one_guard false program ≡ true → (c : ℕ)
    → one_guard (is_open (opening_before program c)) (drop c program) ≡ true
unfolding is_open
passes_from program h zero = h
passes_from program h (suc c) =
    passes_on c (slice_get program c) (opening_before program c) (drop (suc c) program)
    (subst (λ xs. one_guard (is_open (opening_before program c)) xs ≡ true) (drop_split program c)
    (passes_from program h c))

apart_here : {K V D : Type 0} (a : Ask K V D) (s : Option ℕ) (rest : List (Ask K V D)) → TakesGuards a
    → one_guard (is_open s) (a ∷ rest) ≡ true → s ≡ None
unfolding is_open
apart_here a None rest t h = refl
apart_here (ask.Keyed k) (Some i) rest t h = absurd (cc)
apart_here (ask.Begin b) (Some i) rest t h = absurd (cc)
apart_here (ask.Walk f) (Some i) rest t h = absurd (cc)
apart_here (ask.Held g) (Some i) rest t h = absurd (cc)

-- no call that takes a guard of its own stands in a session
pub sessions_apart : {K V D : Type 0} (program : List (Ask K V D)) → one_guard false program ≡ true
    → (c : ℕ) (a : Ask K V D) → slice_get program c ≡ Some a → TakesGuards a → opening_before program c ≡ None
unfolding onto
sessions_apart program h c a e t =
    let P : List (Ask _ _ _) → Type 0 = λ xs. one_guard (is_open (opening_before program c)) xs ≡ true in
    apart_here a (opening_before program c) (drop (suc c) program) t
    (subst P (drop_split program c ∙ ap (λ o. onto o (drop (suc c) program)) e) (passes_from program h c))

pub one_guard_apart : {K V D : Type 0} (program : List (Ask K V D)) → one_guard false program ≡ true
    → (c : ℕ) (k : Keyed K V D) → slice_get program c ≡ Some (ask.Keyed k) → opening_before program c ≡ None
one_guard_apart program h c k e = sessions_apart program h c (ask.Keyed k) e refl

pub one_guard_begin_apart : {K V D : Type 0} (program : List (Ask K V D)) → one_guard false program ≡ true
    → (c : ℕ) (b : Begin K) → slice_get program c ≡ Some (ask.Begin b) → opening_before program c ≡ None
one_guard_begin_apart program h c b e = sessions_apart program h c (ask.Begin b) e refl

pub one_guard_walk_apart : {K V D : Type 0} (program : List (Ask K V D)) → one_guard false program ≡ true
    → (c : ℕ) (f : Walk D) → slice_get program c ≡ Some (ask.Walk f) → opening_before program c ≡ None
one_guard_walk_apart program h c f e = sessions_apart program h c (ask.Walk f) e refl

still_open : (drops : Bool) (s : Option ℕ) (i : ℕ) → (if drops then None else s) ≡ Some i → s ≡ Some i
still_open true s i e = absurd (cc)
still_open false s i e = e

-- the session behind a call is that call's, or it was open before
behind_by : {K V D : Type 0} (c i : ℕ) (o : Option (Ask K V D)) (s : Option ℕ) → session_behind c o s ≡ Some i
    → ((c ≡ i) × ((b : Begin K) × (o ≡ Some (ask.Begin b)))) ⊎ (s ≡ Some i)
behind_by c i None s e = inr e
behind_by c i (Some (ask.Keyed k)) s e = inr e
behind_by c i (Some (ask.Begin b)) s e = inl ((cc), (b, refl))
behind_by c i (Some (ask.Walk f)) s e = inr e
behind_by c i (Some (ask.Held h)) s e = inr (still_open (is_drop h) s i e)

-- the opening of a session stands before its calls
pub opening_below : {K V D : Type 0} (program : List (Ask K V D)) (c i : ℕ) → opening_before program c ≡ Some i → i < c
opening_below program zero i e = absurd (cc)
opening_below program (suc c) i e =
    elim (behind_by c i (slice_get program c) (opening_before program c) e) [
      | inl w ↦ let same = w.0 in omega arith
      | inr before ↦ let below = opening_below program c i before in omega arith
    ]

-- and it is an opening
pub opening_is : {K V D : Type 0} (program : List (Ask K V D)) (c i : ℕ) → opening_before program c ≡ Some i
    → (b : Begin K) × (slice_get program i ≡ Some (ask.Begin b))
opening_is program zero i e = absurd (cc)
opening_is program (suc c) i e =
    elim (behind_by c i (slice_get program c) (opening_before program c) e) [
      | inl w ↦ (w.1.0, ap (slice_get program) (sym w.0) ∙ w.1.1)
      | inr before ↦ opening_is program c i before
    ]
