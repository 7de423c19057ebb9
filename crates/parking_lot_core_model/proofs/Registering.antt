-- A number is given out.
use Rattle.std.proofs.Common.{◌≡◌, ℕ, ◌+◌, ◌<◌, ◌≤◌, ◌==◌, Bool, true, false, cond, List, [], ◌∷◌, ◌++◌, length}
use Rattle.std.proofs.Common.{take, drop, Option, Some, None, is_none, slice_get, slice_set, refl, sym, ap, ◌∙◌, subst}
use Rattle.std.proofs.Common.{arith, zero, suc, count_by, ◌&&◌, ◌*◌, nat_lt, max}
use Rattle.std.specs.Option.{option_map_or, option_and_then}
use Rattle.std.proofs.lemmas.Bool.{both_ways, false≢true, ne_eqb, eqb-false, ltb-true}
use Rattle.std.proofs.lemmas.List.{set_split, take_all, drop_all, length_push}
use Rattle.std.proofs.Math.ListN.{length-set}
use Rattle.std.proofs.lemmas.Option.{slice_get-get_or}
use Rattle.parking_lot_core_model.specs.declared.place.Place.{Place}
use Rattle.parking_lot_core_model.specs.declared.place.Place.TheVariants.{Running}
use Rattle.parking_lot_core_model.specs.declared.place.Waiter.{Waiter}
use Rattle.parking_lot_core_model.specs.Lists.{lists_of}
use Rattle.parking_lot_core_model.specs.Chains.{WaiterLists, total, room}
use Rattle.parking_lot_core_model.specs.Places.{place_at, is_held, is_near}
use Rattle.parking_lot_core_model.specs.Machine.{Parts, Machine, machine, registered, free_number}
use Rattle.parking_lot_core_model.specs.Machine.{register_fault, must_grow, buckets_wanted}
use Rattle.parking_lot_core_model.specs.Buckets.{any_open, slot, threads_with}
use Rattle.parking_lot_core_model.specs.declared.place.Section.{Section}
use Rattle.parking_lot_core_model.specs.declared.fault.LotFault.TheVariants.{Busy, TooManyThreads}
use Rattle.parking_lot_core_model.specs.Sound.{Sound, times_at}
use Rattle.parking_lot_core_model.proofs.Numbers.{position_or_len-le, count_by-set, count_by-push}
use Rattle.parking_lot_core_model.proofs.Kept.{by_eqb}
use Rattle.parking_lot_core_model.proofs.Entering.{some≢none}
use Rattle.parking_lot_core_model.proofs.Slots.{some_buckets, max_more, max_less}
use Rattle.parking_lot_core_model.proofs.Sounds.{sound_one, sound_grown}
use Rattle.parking_lot_core_model.proofs.Rooms.{waits}
use Rattle.parking_lot_core_model.proofs.Closing.{Owed}

-- the least free number is none's
free_place : (ps : List (Option Place)) → place_at ps (free_number ps) ≡ None
free_place [] = refl
free_place (None ∷ ps) = refl
free_place (Some p ∷ ps) = ap (λ n. place_at (Some p ∷ ps) n) (one_more (free_number ps)) ∙ free_place ps
  where
    one_more : (n : ℕ) → 1 + n ≡ suc n
    one_more n = omega arith

free_slot : (ps : List (Option Place)) (n : ℕ) {o : Option Place} → slice_get ps n ≡ Some o → place_at ps n ≡ None
    → slice_get ps n ≡ Some None
free_slot ps n {o} at none = at ∙ ap (λ x. Some x) (sym (ap (option_and_then (λ x. x)) at) ∙ none)

module _ {X : Type 0} where
  -- an element put in at an index up to the length
  put_same : (xs : List X) (n : ℕ) (y : X) → n ≤ length xs → slice_get (take n xs ++ y ∷ drop (suc n) xs) n ≡ Some y
  put_same [] zero y h = refl
  put_same [] (suc n) y h = absurd (omega arith)
  put_same (x ∷ xs) zero y h = refl
  put_same (x ∷ xs) (suc n) y h = put_same xs n y (omega arith)

  put_other : (xs : List X) (n u : ℕ) (y : X) → n ≤ length xs → (u == n) ≡ false
      → slice_get (take n xs ++ y ∷ drop (suc n) xs) u ≡ slice_get xs u
  put_other [] zero zero y h e = absurd (both_ways (0 == 0) e refl)
  put_other [] zero (suc u) y h e = refl
  put_other [] (suc n) u y h e = absurd (omega arith)
  put_other (x ∷ xs) zero zero y h e = absurd (both_ways (0 == 0) e refl)
  put_other (x ∷ xs) zero (suc u) y h e = refl
  put_other (x ∷ xs) (suc n) zero y h e = refl
  put_other (x ∷ xs) (suc n) (suc u) y h e = put_other xs n u y (omega arith)
      (ne_eqb u n (λ s. eqb-false (suc u) (suc n) e (ap suc s)))

-- where nothing is refused there is a number, and no section that keeps the buckets from growing
pub register_allows : (m : Machine) → register_fault m ≡ None → (free_number m.places < m.max_threads)
    × ((must_grow m && any_open m.sections m.buckets) ≡ false)
register_allows m e = by (nat_lt (free_number m.places) m.max_threads) refl e
  where
    calm : (b : Bool) → cond b (Some Busy) None ≡ None → b ≡ false
    calm true e = absurd (some≢none e)
    calm false e = refl

    by : (b : Bool) → nat_lt (free_number m.places) m.max_threads ≡ b
        → cond b (cond (must_grow m && any_open m.sections m.buckets) (Some Busy) None) (Some TooManyThreads) ≡ None
        → (free_number m.places < m.max_threads) × ((must_grow m && any_open m.sections m.buckets) ≡ false)
    by true e is = (
      ltb-true (free_number m.places) m.max_threads e,
      calm (must_grow m && any_open m.sections m.buckets) is,
    )
    by false e is = absurd (some≢none is)

pub sound_registered : (m : Machine) → Sound m → (must_grow m && any_open m.sections m.buckets) ≡ false
    → Sound (registered m)
sound_registered m h calm =
    let n = free_number m.places in
    let ps = (registered m).places in
    let fits : n ≤ length m.places = position_or_len-le is_none m.places in
    let here : place_at ps n ≡ Some Running = ap (option_and_then (λ x. x)) (put_same m.places n (Some Running) fits) in
    let other = λ (u : ℕ) (e : (u == n) ≡ false). ap (option_and_then (λ x. x))
    (put_other m.places n u (Some Running) fits e) in
    grows (must_grow m) calm
    (sound_one m n m.sleeps m.queues m.resources ps h
    (λ u k e. refl)
    (λ k. h.waits n k ∙ (ap (times_at k) (free_place m.places) ∙ ap (times_at k) (sym here)))
    other
    (λ k is. absurd (false≢true (sym (ap (λ o. option_map_or (is_held k) o false) here) ∙ is)))
    (λ b s is whose may. here)
    (λ k is. ap (λ o. option_map_or (is_near k) o false) here)
    (λ u none. by_eqb u n (m.resources u ≡ [])
    (λ e. absurd (some≢none (sym here ∙ (ap (place_at ps) (sym e) ∙ none))))
    (λ e. h.owned u (sym (other u e) ∙ none))))
  where
    grows : (b : Bool) → (b && any_open m.sections m.buckets) ≡ false
        → Sound (record m { places = (registered m).places })
        → Sound (record m { places = (registered m).places; buckets = cond b (buckets_wanted m) m.buckets })
    grows true e s =
        let some : 16 ≤ buckets_wanted m = some_buckets (3 * threads_with m.paired (suc (free_number m.places)))
        (threads_with m.paired (suc (free_number m.places))) in
        sound_grown (record m { places = (registered m).places }) (buckets_wanted m) s e (omega (arith, some))
    grows false e s = s

-- which is the same as a place that is written, or added at the end
pub registered_within : (ps : List (Option Place)) → free_number ps < length ps
    → slice_set ps (free_number ps) (Some Running) ≡ take (free_number ps) ps ++ Some Running ∷ drop
    (suc (free_number ps)) ps
registered_within ps h = set_split ps (free_number ps) (Some Running) h

pub registered_past : (ps : List (Option Place)) → length ps ≤ free_number ps
    → ps ++ Some Running ∷ [] ≡ take (free_number ps) ps ++ Some Running ∷ drop (suc (free_number ps)) ps
registered_past ps h =
    let n = free_number ps in
    ap (λ xs. xs ++ Some Running ∷ []) (sym (take_all n ps h)) ∙ ap (λ xs. take n ps ++ Some Running ∷ xs)
    (sym (drop_all (suc n) ps (omega arith)))

-- how many buckets there are then
pub grown_to : (b wanted : ℕ) → max b wanted ≡ cond (nat_lt b wanted) wanted b
grown_to b wanted = by (nat_lt b wanted) refl
  where
    by : (t : Bool) → nat_lt b wanted ≡ t → max b wanted ≡ cond (nat_lt b wanted) wanted b
    by true e = max_more b wanted e ∙ ap (λ t. cond t wanted b) (sym e)
    by false e = max_less b wanted e ∙ ap (λ t. cond t wanted b) (sym e)

module _ (p : Parts) (w v : WaiterLists) (bs : List (Option Section)) (ts : List (Option ℕ))
    (h : Owed p w) (free : register_fault (machine p) ≡ None)
    (count : length bs ≡ max (length p.by_bucket) (buckets_wanted (machine p)))
    (sections : slot bs ≡ slot p.by_bucket) (inside : slot ts ≡ slot p.by_thread) where
  grows : length bs ≡ (registered (machine p)).buckets
  grows = count ∙ grown_to (length p.by_bucket) (buckets_wanted (machine p))

  -- the machine with these places and lists is the one where it is done
  pub registered_as : (qs : ℕ → List Waiter) (ps : List (Option Place)) → qs ≡ lists_of p.waiting
      → ps ≡ (registered (machine p)).places
      → record (machine p) {
        queues = qs;
        places = ps;
        buckets = length bs;
        sections = slot bs;
        inside = slot ts;
      } ≡ registered (machine p)
  registered_as qs ps same at =
      let r = registered (machine p) in
      ap (λ (x : ℕ → List Waiter). record r {
        queues = x;
        places = ps;
        buckets = length bs;
        sections = slot bs;
        inside = slot ts;
      }) same
      ∙ (ap (λ (x : List (Option Place)). record r
      { places = x; buckets = length bs; sections = slot bs; inside = slot ts }) at
      ∙ (ap (λ (x : ℕ). record r { buckets = x; sections = slot bs; inside = slot ts }) grows
      ∙ (ap (λ (x : ℕ → Option Section). record r { sections = x; inside = slot ts }) sections
      ∙ ap (λ (x : ℕ → Option ℕ). record r { inside = x }) inside)))

  sound_so : Sound (registered (machine p))
  sound_so = sound_registered (machine p) h.0 (register_allows (machine p) free).1

  -- a number is given out again
  pub again : free_number p.places < length p.places → length p.by_thread ≤ length ts
      → Owed (record p {
        places = slice_set p.places (free_number p.places) (Some Running);
        by_bucket = bs;
        by_thread = ts;
      }) w
  again fits more =
      let ps = p.places in
      let n = free_number ps in
      let q = slice_set ps n (Some Running) in
      let at : slice_get ps n ≡ Some None = free_slot ps n (slice_get-get_or ps n None fits) (free_place ps) in
      let c : count_by waits q + 0 ≡ count_by waits ps + 0 = count_by-set waits ps n None (Some Running) at in
      let l : length q ≡ length ps = length-set ps n (Some Running) in
      let r = h.1.waits in
      let s = h.1.room in
      let t = h.1.threads in
      let u = h.1.enters in (
        subst Sound (sym (registered_as (lists_of p.waiting) q refl (registered_within ps fits))) sound_so,
        record {
          waits = omega arith;
          room = omega arith;
          enters = omega arith;
          threads = omega arith;
          limit = h.1.limit;
        },
      )

  -- one more number is given out
  pub past : length p.places ≤ free_number p.places
      → lists_of v.entries ≡ lists_of p.waiting → total v ≡ total w → length p.places + 1 ≤ room v
      → length p.places + 1 ≤ p.max_threads → length p.places + 1 ≤ length ts
      → Owed (record p {
        waiting = v.entries;
        places = p.places ++ Some Running ∷ [];
        by_bucket = bs;
        by_thread = ts;
      }) v
  past full same items fits limit seated =
      let ps = p.places in
      let c = count_by-push waits ps (Some Running) in
      let l = length_push ps (Some Running) in
      let r = h.1.waits in (
        subst Sound
            (sym (registered_as (lists_of v.entries) (ps ++ Some Running ∷ []) same (registered_past ps full)))
            sound_so,
        record {
          waits = omega arith;
          room = omega arith;
          enters = omega arith;
          threads = omega arith;
          limit = h.1.limit;
        },
      )
