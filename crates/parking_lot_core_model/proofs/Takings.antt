-- What taking and moving waiters, one by one, comes to.
use Rattle.std.proofs.Common.{◌≡◌, ℕ, ◌+◌, ◌<◌, ◌≤◌, ◌==◌, Bool, true, false, cond, Option, List, [], ◌∷◌, ◌++◌, length}
use Rattle.std.proofs.Common.{map, take, drop, remove, Some, None, is_some, slice_get, slice_set, refl, sym, ap, ◌∙◌}
use Rattle.std.proofs.Common.{subst, append_assoc, arith, zero, suc, add-one, eq-eqb}
use Rattle.std.specs.Option.{option_map, option_map_or, option_and_then}
use Rattle.std.proofs.lemmas.Bool.{false≢true, cond-true, cond-false}
use Rattle.std.proofs.lemmas.List.{append-nil, map-append, map-set}
use Rattle.parking_lot_core_model.specs.declared.parking.UnparkToken.{UnparkToken}
use Rattle.parking_lot_core_model.specs.declared.place.Sleep.{Sleep}
use Rattle.parking_lot_core_model.specs.declared.place.Place.{Place}
use Rattle.parking_lot_core_model.specs.declared.place.Place.TheVariants.{Running, Waiting, Held, Taken}
use Rattle.parking_lot_core_model.specs.declared.place.Waiter.{Waiter}
use Rattle.parking_lot_core_model.specs.Lists.{updated}
use Rattle.parking_lot_core_model.specs.Places.{place_at, changed, all_changed, held, told, woken, moved_to, is_held}
use Rattle.parking_lot_core_model.specs.Machine.{Machine, threads_of, taken, moved, moved_first, opened, stored, closed}
use Rattle.parking_lot_core_model.specs.Machine.{unparked, open_at, fresh_section}
use Rattle.parking_lot_core_model.specs.declared.place.Section.{Section}
use Rattle.parking_lot_core_model.specs.declared.place.Phase.TheVariants as phase
use Rattle.parking_lot_core_model.specs.Operations.{all_taken}
use Rattle.parking_lot_core_model.proofs.Kept.{updated_at, updated_other, updated_same, updated_twice, by_key}
use Rattle.parking_lot_core_model.proofs.Kept.{eqb_false_symm, by_eqb}
use Rattle.parking_lot_core_model.proofs.Entering.{none≢some, within, IsOutside, stored_within, closed_within}
use Rattle.parking_lot_core_model.proofs.Sounds.{place_at-map}

-- one more thread's place is changed
pub all_changed_more : (f : Place → Place) (ps : List (Option Place)) (ts : List ℕ) (t : ℕ)
    → all_changed f ps (ts ++ t ∷ []) ≡ changed f (all_changed f ps ts) t
all_changed_more f ps [] t = refl
all_changed_more f ps (u ∷ ts) t = all_changed_more f (changed f ps u) ts t

pub threads_more : (ws : List Waiter) (w : Waiter) → threads_of (ws ++ w ∷ []) ≡ threads_of ws ++ w.thread ∷ []
threads_more ws w = map-append (λ x. x.thread) ws (w ∷ [])

-- nobody yet
pub all_taken_none : (m : Machine) (key : ℕ) → m ≡ all_taken m key [] (m.queues key)
all_taken_none m key = ap (λ (qs : ℕ → List Waiter). record m { queues = qs }) (sym (updated_same m.queues key))

-- one more waiter is taken
pub taken_more : (m : Machine) (key : ℕ) (ws rest : List Waiter) (i : ℕ) (w : Waiter) → slice_get rest i ≡ Some w
    → taken (all_taken m key ws rest) key i ≡ all_taken m key (ws ++ w ∷ []) (remove rest i)
taken_more m key ws rest i w at =
    let here : updated m.queues key rest key ≡ rest = updated_at m.queues key rest in
    ap (λ (qs : List Waiter). record (all_taken m key ws rest) {
      queues = updated (updated m.queues key rest) key (remove qs i);
      places = option_map_or (λ x. changed (held key) (all_changed (held key) m.places (threads_of ws)) x.thread)
          (slice_get qs i)
          (all_changed (held key) m.places (threads_of ws));
    }) here
    ∙ (ap (λ (o : Option Waiter). record (all_taken m key ws rest) {
      queues = updated (updated m.queues key rest) key (remove rest i);
      places = option_map_or (λ x. changed (held key) (all_changed (held key) m.places (threads_of ws)) x.thread) o
          (all_changed (held key) m.places (threads_of ws));
    }) at
    ∙ (ap (λ (qs : ℕ → List Waiter). record (all_taken m key ws rest)
    { queues = qs; places = changed (held key) (all_changed (held key) m.places (threads_of ws)) w.thread })
    (updated_twice m.queues key rest (remove rest i))
    ∙ ap (λ (ps : List (Option Place)). record (all_taken m key ws rest)
    { queues = updated m.queues key (remove rest i); places = ps })
    (sym (ap (all_changed (held key) m.places) (threads_more ws w)
    ∙ all_changed_more (held key) m.places (threads_of ws)
    w.thread))))

module _ {X : Type 0} where
  -- a list, cut at an index, with one more in front of the cut
  pub cut_more : (xs : List X) (i : ℕ) (x : X) → slice_get xs i ≡ Some x → (take (suc i) xs ≡ take i xs ++ x ∷ [])
      × (slice_get (drop i xs) 0 ≡ Some x) × (remove (drop i xs) 0 ≡ drop (suc i) xs)
  cut_more [] i x h = absurd (none≢some h)
  cut_more (y ∷ xs) zero x h = (ap (λ z. z ∷ []) (same h), h, refl)
    where
      same : {a b : X} → Some a ≡ Some b → a ≡ b
      same e = cc
  cut_more (y ∷ xs) (suc i) x h = let r = cut_more xs i x h in (ap (λ zs. y ∷ zs) r.0, r.1, r.2)

  -- past the end the cut stays
  pub cut_past : (xs : List X) (i : ℕ) → slice_get xs i ≡ None → (take (suc i) xs ≡ take i xs) × (drop i xs ≡ [])
      × (drop (suc i) xs ≡ [])
  cut_past [] zero h = (refl, refl, refl)
  cut_past [] (suc i) h = (refl, refl, refl)
  cut_past (y ∷ xs) zero h = absurd (none≢some (sym h))
  cut_past (y ∷ xs) (suc i) h = let r = cut_past xs i h in (ap (λ zs. y ∷ zs) r.0, r.1, r.2)

-- taking from the front, once more
pub taken_front_suc : (m : Machine) (key i : ℕ) → let q = m.queues key in taken (all_taken m key (take i q) (drop i q))
    key 0 ≡ all_taken m key (take (suc i) q) (drop (suc i) q)
taken_front_suc m key i = front (slice_get (m.queues key) i) refl
  where
    front : (o : Option Waiter) → slice_get (m.queues key) i ≡ o
        → taken (all_taken m key (take i (m.queues key)) (drop i (m.queues key))) key 0 ≡ all_taken m key
        (take (suc i) (m.queues key)) (drop (suc i) (m.queues key))
    front None e =
        let q = m.queues key in
        let r = cut_past q i e in
        ap (λ (rest : List Waiter). taken (all_taken m key (take i q) rest) key 0) r.1
        ∙ (ap (λ (qs : List Waiter). record (all_taken m key (take i q) []) {
          queues = updated (updated m.queues key []) key (remove qs 0);
          places = option_map_or (λ x. changed (held key)
              (all_changed (held key) m.places (threads_of (take i q))) x.thread)
              (slice_get qs 0) (all_changed (held key) m.places (threads_of (take i q)));
        }) (updated_at m.queues key [])
        ∙ (ap (λ (qs : ℕ → List Waiter). record (all_taken m key (take i q) []) { queues = qs })
        (updated_twice m.queues key [] [])
        ∙ (ap (λ (ws : List Waiter). all_taken m key ws []) (sym r.0)
        ∙ ap (λ (rest : List Waiter). all_taken m key (take (suc i) q) rest) (sym r.2))))
    front (Some w) e =
        let q = m.queues key in
        let r = cut_more q i w e in
        taken_more m key (take i q) (drop i q) 0 w r.1
        ∙ (ap (λ (ws : List Waiter). all_taken m key ws (remove (drop i q) 0)) (sym r.0)
        ∙ ap (λ (rest : List Waiter). all_taken m key (take (suc i) q) rest) r.2)

pub taken_front : (m : Machine) (key i : ℕ) → let q = m.queues key in taken (all_taken m key (take i q) (drop i q)) key
    0 ≡ all_taken m key (take (i + 1) q) (drop (i + 1) q)
taken_front m key i = rw add-one (taken_front_suc m key i)

-- THE END OF A SECTION

told_woken : (key : ℕ) (token : UnparkToken) (p : Place)
    → told key token true (held key p) ≡ woken key token (told key token true p)
told_woken key token Running = refl
told_woken key token (Waiting key' s) = cond-true (key == key) (Taken token key s true) (Held key s)
    (eq-eqb key key refl)
told_woken key token (Held key' s) =
    elim (key' == key) as (λ b. cond b (Taken token key' s true) (Held key' s) ≡ woken key token
    (cond b (Taken token key' s true) (Held key' s)))
    [ true ↦ refl | false ↦ refl ]
told_woken key token (Taken t key' s b) = refl

told_moved : (key : ℕ) (token : UnparkToken) (to : ℕ) (p : Place)
    → told key token true (moved_to to p) ≡ moved_to to (told key token true p)
told_moved key token to Running = refl
told_moved key token to (Waiting key' s) = refl
told_moved key token to (Held key' s) =
    elim (key' == key) as (λ b. cond b (Taken token key' s true) (Held key' s) ≡ moved_to to
    (cond b (Taken token key' s true) (Held key' s)))
    [ true ↦ refl | false ↦ refl ]
told_moved key token to (Taken t key' s b) = refl

-- telling all places after a change is the change after telling all
told_changed : (f g h : Place → Place) → ((p : Place) → h (f p) ≡ g (h p)) → (ps : List (Option Place)) (t : ℕ)
    → map (option_map h) (changed f ps t) ≡ changed g (map (option_map h) ps) t
told_changed f g h same ps t =
    map-set (option_map h) ps t (option_map f (place_at ps t))
    ∙ ap (slice_set (map (option_map h) ps) t) (each (place_at ps t) ∙ ap (option_map g) (sym (place_at-map h ps t)))
  where
    each : (o : Option Place) → option_map h (option_map f o) ≡ option_map g (option_map h o)
    each None = refl
    each (Some p) = ap (λ x. Some x) (same p)

told_all : (f g h : Place → Place) → ((p : Place) → h (f p) ≡ g (h p)) → (ps : List (Option Place)) (ts : List ℕ)
    → map (option_map h) (all_changed f ps ts) ≡ all_changed g (map (option_map h) ps) ts
told_all f g h same ps [] = refl
told_all f g h same ps (t ∷ ts) = told_all f g h same (changed f ps t) ts
    ∙ ap (λ (xs : List (Option Place)). all_changed g xs ts) (told_changed f g h same ps t)

-- where nobody is held by a section of the key, nobody is told
pub nobody_told : (key : ℕ) (token : UnparkToken) (b : Bool) (ps : List (Option Place))
    → ((t : ℕ) → option_map_or (is_held key) (place_at ps t) false ≡ false)
    → map (option_map (told key token b)) ps ≡ ps
nobody_told key token b [] none = refl
nobody_told key token b (o ∷ ps) none = ap (λ x. x ∷ map (option_map (told key token b)) ps) (one o (none 0))
    ∙ ap (λ xs. o ∷ xs) (nobody_told key token b ps (λ t. none (suc t)))
  where
    one : (o : Option Place) → option_map_or (is_held key) o false ≡ false → option_map (told key token b) o ≡ o
    one None e = refl
    one (Some Running) e = refl
    one (Some (Waiting key' s)) e = refl
    one (Some (Taken t key' s w)) e = refl
    one (Some (Held key' s)) e = ap (λ x. Some x) (cond-false (key' == key) (Taken token key' s b) (Held key' s) e)

module _ (m : Machine) (key : ℕ) (token : UnparkToken)
    (quiet : (t : ℕ) → option_map_or (is_held key) (place_at m.places t) false ≡ false) (free : open_at m key ≡ None)
  where
    woken_places : (ws : List Waiter)
        → map (option_map (told key token true)) (all_changed (held key) m.places (threads_of ws)) ≡ all_changed
        (woken key token) m.places (threads_of ws)
    woken_places ws =
        told_all (held key) (woken key token) (told key token true) (told_woken key token) m.places (threads_of ws)
        ∙ ap (λ (xs : List (Option Place)). all_changed (woken key token) xs (threads_of ws))
        (nobody_told key token true m.places quiet)

    -- a section that took some, and closes, has woken them: from any phase, and whosever it is
    pub closed_taken_by : (s : Section) → IsOutside m s.thread → (ws rest : List Waiter)
        → closed (stored (within (all_taken m key ws rest) (record s { key = key })) key token) key true
        ≡ unparked m key ws
        rest token
    closed_taken_by s outside ws rest =
        let n = all_taken m key ws rest in
        let s0 : Section = record s { key = key } in
        ap (λ (x : Machine). closed x key true) (stored_within n s0 token)
        ∙ (closed_within n (record s0 { phase = phase.Stored; token = token }) true free outside
        ∙ ap (λ (ps : List (Option Place)). record n { places = ps }) (woken_places ws))

    pub closed_taken : (ws rest : List Waiter)
        → closed (stored (all_taken (opened m None key) key ws rest) key token) key true ≡ unparked m key ws rest token
    closed_taken ws rest = closed_taken_by (fresh_section None key) (λ t e. absurd (none≢some e)) ws rest

    -- so has one that also moved some
    pub closed_moved : (to : ℕ) (ws rest ms left : List Waiter)
        → closed (stored (moved (all_taken (opened m None key) key ws rest) key to ms left) key token) key true ≡ moved
        (unparked m key ws rest token) key to ms left
    closed_moved to ws rest ms left =
        let n = moved (all_taken m key ws rest) key to ms left in
        let s0 = fresh_section None key in
        let after = moved (unparked m key ws rest token) key to ms left in
        ap (λ (x : Machine). closed x key true) (stored_within n s0 token)
        ∙ (closed_within n (record s0 { phase = phase.Stored; token = token }) true free (λ t e. absurd (none≢some e))
        ∙ ap (λ (ps : List (Option Place)). record after { places = ps })
        (told_all (moved_to to) (moved_to to) (told key token true) (told_moved key token to)
        (all_changed (held key) m.places (threads_of ws)) (threads_of ms)
        ∙ ap (λ (xs : List (Option Place)). all_changed (moved_to to) xs (threads_of ms)) (woken_places ws)))

-- the first is taken
pub first_taken : (m : Machine) (key : ℕ) → taken m key 0 ≡ all_taken m key (take 1 (m.queues key))
    (drop 1 (m.queues key))
first_taken m key = ap (λ (x : Machine). taken x key 0) (all_taken_none m key) ∙ taken_front m key 0

-- how many the first are
pub first_count_some : (q : List Waiter) (w : Waiter) → Some w ≡ slice_get q 0 → 1 ≡ length (take 1 q)
first_count_some [] w e = absurd (none≢some (sym e))
first_count_some (x ∷ q) w e = refl

pub first_count_none : (q : List Waiter) → None ≡ slice_get q 0 → 0 ≡ length (take 1 q)
first_count_none [] e = refl
first_count_none (x ∷ q) e = absurd (none≢some e)
