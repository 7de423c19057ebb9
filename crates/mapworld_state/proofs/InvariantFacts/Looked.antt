-- What a walk's look finds: the keys that it does at once, and what they count.
use Rattle.std.proofs.Common.{◌≡◌, ℕ, zero, suc, ◌+◌, ◌≤◌, ◌⊎◌, ◌||◌, inl, inr, ⊎_elim, Bool, true, false, List, []}
use Rattle.std.proofs.Common.{◌∷◌, ◌++◌, length, length-append, map, flat_map, sum, Option, Some, None, slice_get, refl}
use Rattle.std.proofs.Common.{ap, sym, ◌∙◌, arith}
use Rattle.std.specs.List.{list_any, list_all}
use Rattle.std.proofs.lemmas.Bool.{false≢true}
use Rattle.std.proofs.lemmas.List.Sums.{sum_by_push, fold_push}
use Rattle.std.proofs.lemmas.Option.{none-some, same_Some, slice_get_within}
use Rattle.mapworld_calls.specs.declared.ask.Walk.{Walk}
use Rattle.mapworld_calls.specs.declared.ask.Walk.TheVariants as walk
use Rattle.mapworld_calls.specs.Deeds.{Deeds}
use Rattle.mapworld_calls.specs.Calls.{visit_leaves, visit_reads}
use Rattle.mapworld_calls.specs.Programs.{saturated, stop_of}
use Rattle.mapworld_calls.specs.Setup.{Setup}
use Rattle.mapworld_calls.specs.Replay.{done_keys}
use Rattle.mapworld_calls.specs.Agrees.{Visit, AreCapacities, IsBelow, IsAtMost, number_of}
use Rattle.mapworld_calls.proofs.Lists.{slice_get-push_cases}
use Rattle.mapworld_state.specs.declared.holds.Mode.TheVariants.{Exclusive}
use Rattle.mapworld_state.specs.Shards.{ShardPairs, Shrunk}
use Rattle.mapworld_state.specs.Walks.{walk_mode, gives_items, is_visited, all_visited, looked_keys, looked_count}
use Rattle.mapworld_state.specs.Walks.{IsLookedAt}
use Rattle.mapworld_state.specs.Sound.{IsCount}
use Rattle.mapworld_state.proofs.InvariantFacts.Listing.{length-map}

-- a look leaves its shard, or makes room in it, where it is held alone
pub looked-cases : {K V D : Type 0} (eq : K → K → Bool) (f : Walk D) (old new : ShardPairs K V)
    → IsLookedAt eq f old new
    → (new ≡ old) ⊎ ((gives_items f ≡ false) × (walk_mode f ≡ Exclusive) × Shrunk eq old new)
looked-cases eq walk.ShrinkToFit old new h = inr (refl, refl, h)
looked-cases eq f old new h = inl h

-- a walk that counts leaves each pair, reads none, and goes to the end
module _ {K V D T : Type 0} (deeds : Deeds D K V T) where
  pub counting-leaves : (f : Walk D) → gives_items f ≡ false → (o : Option (K × V)) → visit_leaves deeds f o ≡ o
  counting-leaves (walk.Iter d stop) counts o = absurd (false≢true (sym counts))
  counting-leaves (walk.IterMut d stop) counts o = absurd (false≢true (sym counts))
  counting-leaves (walk.Retain d) counts o = absurd (false≢true (sym counts))
  counting-leaves (walk.AlterAll d) counts o = absurd (false≢true (sym counts))
  counting-leaves walk.Clear counts o = absurd (false≢true (sym counts))
  counting-leaves f counts None = refl
  counting-leaves f counts (Some p) = refl

  pub counting-reads : (f : Walk D) → gives_items f ≡ false → (o : Option (K × V)) → visit_reads deeds f o ≡ []
  counting-reads (walk.Iter d stop) counts o = absurd (false≢true (sym counts))
  counting-reads (walk.IterMut d stop) counts o = absurd (false≢true (sym counts))
  counting-reads (walk.Retain d) counts o = absurd (false≢true (sym counts))
  counting-reads (walk.AlterAll d) counts o = absurd (false≢true (sym counts))
  counting-reads walk.Clear counts o = absurd (false≢true (sym counts))
  counting-reads f counts None = refl
  counting-reads f counts (Some p) = refl

pub counting-stop : {D : Type 0} (f : Walk D) → gives_items f ≡ false → stop_of f ≡ None
counting-stop (walk.Iter d stop) counts = absurd (false≢true (sym counts))
counting-stop (walk.IterMut d stop) counts = absurd (false≢true (sym counts))
counting-stop f counts = refl

pub below-most : (o : Option ℕ) (n : ℕ) → IsBelow o n → IsAtMost o n
below-most None n h = tt
below-most (Some stop) n h = omega arith

pub flat_map-none : {X Y : Type 0} (g : X → List Y) (xs : List X) → ((x : X) → g x ≡ []) → flat_map g xs ≡ []
flat_map-none g [] none = refl
flat_map-none g (x ∷ xs) none = ap (λ ys. ys ++ flat_map g xs) (none x) ∙ flat_map-none g xs none

-- all pairs of a shard are visited by their own keys
any-at : {X : Type 0} (test : X → Bool) (xs : List X) (n : ℕ) (y : X) → slice_get xs n ≡ Some y → test y ≡ true
    → list_any test xs ≡ true
any-at test [] n y at is = absurd (none-some y at)
any-at test (z ∷ zs) zero y at is = ap (λ b. b || list_any test zs) (ap test (same_Some z y at) ∙ is)
any-at test (z ∷ zs) (suc n) y at is = ap (λ b. test z || b) (any-at test zs n y at is) ∙ or-true (test z)
  where
    or-true : (b : Bool) → (b || true) ≡ true
    or-true true = refl
    or-true false = refl

all-each : {X : Type 0} (test : X → Bool) (xs : List X) → ((n : ℕ) (y : X) → slice_get xs n ≡ Some y → test y ≡ true)
    → list_all test xs ≡ true
all-each test [] each = refl
all-each test (y ∷ ys) each = rw (each 0 y refl) (all-each test ys (λ n z at. each (suc n) z at))

map-at : {X Y : Type 0} (g : X → Y) (xs : List X) (n : ℕ) (x : X) → slice_get xs n ≡ Some x
    → slice_get (map g xs) n ≡ Some (g x)
map-at g [] n x at = absurd (none-some x at)
map-at g (y ∷ ys) zero x at = ap (λ z. Some (g z)) (same_Some y x at)
map-at g (y ∷ ys) (suc n) x at = map-at g ys n x at

pub map-from : {X Y : Type 0} (g : X → Y) (xs : List X) (n : ℕ) (y : Y) → slice_get (map g xs) n ≡ Some y → (x : X)
    × (slice_get xs n ≡ Some x) × (y ≡ g x)
map-from g [] n y at = absurd (none-some y at)
map-from g (x ∷ xs) zero y at = (x, refl, sym (same_Some (g x) y at))
map-from g (x ∷ xs) (suc n) y at = map-from g xs n y at

pub own-visited : {K V : Type 0} (eq : K → K → Bool) (pairs : List (K × V)) → ((k : K) → eq k k ≡ true)
    → all_visited eq (map (λ p. p.0) pairs) pairs ≡ true
own-visited {K} {V} eq pairs same =
    all-each (λ (p : K × V). is_visited eq (map (λ p. p.0) pairs) p.0) pairs
    (λ n p at. any-at (λ k. eq k p.0) (map (λ p. p.0) pairs) n p.0 (map-at (λ (p : K × V). p.0) pairs n p at)
    (same p.0))

-- WHAT A WALK COUNTS WITH ONE VISIT MORE

saturated-more : (n k m : ℕ) → n ≡ saturated m → saturated (n + k) ≡ saturated (m + k)
saturated-more n k m e = omega (arith, e)

sum-push : (ns : List ℕ) (m : ℕ) → sum (ns ++ m ∷ []) ≡ sum ns + m
sum-push ns m = fold_push (λ a b. a + b) 0 ns m

module _ {K V D T : Type 0} (x : Setup K V D T) (vs : List (Visit K)) (v : Visit K) (n k : ℕ)
    (done : length (done_keys x v.block) ≡ k) where
  pub number-more : number_of x (vs ++ v ∷ []) ≡ number_of x vs + k
  number-more = sum_by_push (λ (u : Visit K). length (done_keys x u.block)) vs v ∙ ap (λ j. number_of x vs + j) done

  counts-more : n ≡ saturated (number_of x vs) → saturated (n + k) ≡ saturated (number_of x (vs ++ v ∷ []))
  counts-more h = saturated-more n k (number_of x vs) h ∙ ap saturated (sym number-more)

  capacities-more : (rooms : List ℕ) (room : ℕ) → k ≤ room → AreCapacities x vs rooms
      → AreCapacities x (vs ++ v ∷ []) (rooms ++ room ∷ [])
  capacities-more rooms room enough caps = record {
    each = length-append rooms (room ∷ []) ∙ ap (λ j. j + 1) caps.each ∙ sym (length-append vs (v ∷ []));
    hold = λ i m u hm hu. ⊎_elim
        (λ old. ⊎_elim (λ older. caps.hold i m u old older)
        (λ new. let lt = slice_get_within rooms i m old in let same = new.0 in
        absurd (omega (arith, lt, same, caps.each))) (slice_get-push_cases vs i u v hu))
        (λ new. ⊎_elim
        (λ old. let lt = slice_get_within vs i u old in let same = new.0 in absurd (omega (arith, lt, same, caps.each)))
        (λ newer. rw (new.1, newer.1, done) enough) (slice_get-push_cases vs i u v hu))
        (slice_get-push_cases rooms i m room hm);
  }

-- a look adds to the walk's number what it does
pub count-looked : {K V D T : Type 0} (x : Setup K V D T) (vs : List (Visit K)) (v : Visit K) (n : ℕ) (f : Walk D)
    (items : List (K × V)) (room : ℕ) → length items ≤ room
    → length (done_keys x v.block) ≡ length (looked_keys f items) → IsCount x f vs n
    → IsCount x f (vs ++ v ∷ []) (saturated (n + looked_count f items room))
count-looked x vs v n (walk.Iter d stop) items room enough done h = counts-more x vs v n 0 done h
count-looked x vs v n (walk.IterMut d stop) items room enough done h = counts-more x vs v n 0 done h
count-looked x vs v n (walk.Retain d) items room enough done h = counts-more x vs v n 0 done h
count-looked x vs v n (walk.AlterAll d) items room enough done h = counts-more x vs v n 0 done h
count-looked x vs v n walk.Clear items room enough done h = counts-more x vs v n 0 done h
count-looked x vs v n walk.Len items room enough done h = counts-more x vs v n (length items)
    (done ∙ length-map (λ p. p.0) items) h
count-looked x vs v n walk.IsEmpty items room enough done h = counts-more x vs v n (length items)
    (done ∙ length-map (λ p. p.0) items) h
count-looked x vs v n walk.ShrinkToFit items room enough done h = counts-more x vs v n (length items)
    (done ∙ length-map (λ p. p.0) items) h
count-looked x vs v n walk.Capacity items room enough done h = (
  h.0 ++ room ∷ [],
  capacities-more x vs v n (length items) (done ∙ length-map (λ p. p.0) items) h.0 room enough h.1,
  saturated-more n room (sum h.0) h.2 ∙ ap saturated (sym (sum-push h.0 room)),
)
