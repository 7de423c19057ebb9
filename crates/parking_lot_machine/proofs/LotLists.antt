-- Joining a list keeps what fits of the lot.
use Rattle.std.proofs.Common.{◌≡◌, ◌<◌, ℕ, ◌+◌, ◌*◌, ◌%◌, ◌^◌, ◌==◌, ◌⊎◌, inl, inr, false, List, [], ◌∷◌, ◌++◌, length}
use Rattle.std.proofs.Common.{Some, slice_get, refl, sym, ap, ◌∙◌, subst, arith, Bool, true, cond, map, Option, None}
use Rattle.std.proofs.Common.{slice_set, eq-eqb}
use Rattle.std.specs.Option.{option_map, option_map_or, option_and_then}
use Rattle.std.proofs.lemmas.Bool.{cond-true, cond-false}
use Rattle.std.proofs.lemmas.List.{length-map}
use Rattle.std.proofs.lemmas.Option.{slice_get-map}
use Rattle.parking_lot_core_model.specs.declared.parking.ParkToken.{ParkToken}
use Rattle.parking_lot_core_model.specs.declared.place.Place.TheVariants.{Running, Waiting, Held, Taken}
use Rattle.parking_lot_core_model.specs.declared.place.Section.{Section}
use Rattle.parking_lot_core_model.specs.declared.place.Sleep.{Sleep}
use Rattle.parking_lot_core_model.specs.declared.place.Waiter.{Waiter}
use Rattle.parking_lot_core_model.specs.Lists.{updated}
use Rattle.parking_lot_core_model.specs.Machine.{Machine, joined, stored}
use Rattle.parking_lot_core_model.specs.Machine as core_lot
use Rattle.parking_lot_core_model.specs.Places.{place_at, mark_of, may_store}
use Rattle.parking_lot_core_model.specs.Sound.{Sound}
use Rattle.parking_lot_core_model.proofs.Kept.{by_eqb, updated_at, updated_other}
use Rattle.parking_lot_core_model.proofs.Sounds.{place_at-set_same, place_at-set_other}
use Rattle.parking_lot_machine_calls.specs.declared.open_call.Call.{Call}
use Rattle.parking_lot_machine.specs.Rows.{State, bucket, call_at, open_at}
use Rattle.parking_lot_machine_calls.specs.Stances.{Doing, Looks, TurnsBack, Joins, Joined, Takes, Stores, Tells}
use Rattle.parking_lot_machine_calls.specs.Stances.{In, stance, taken_count}
use Rattle.parking_lot_machine.specs.RowActs.{appended, key_in, with_call, with_lot, settles}
use Rattle.parking_lot_machine_calls.specs.CallActs.{hears, key_of, settled_spot, settled, told_of}
use Rattle.parking_lot_machine.specs.RowFits.{Awaits, LotFits, IsAt, PlaceWhile, SaidIn, SeatedIn, Stands, WakesSome}
use Rattle.parking_lot_machine.proofs.Indexing.{get_push}
use Rattle.parking_lot_machine_calls.proofs.Stancing.{wakes_some}
use Rattle.parking_lot_machine.proofs.Carrying.{call_within, Carries, awake_sleeps, waits_carried, carried_by}
use Rattle.parking_lot_machine.proofs.Carrying.{carries_both, carries_settled, carried, outs_still}
use Rattle.parking_lot_machine.proofs.LotActs.{same_section, seat_of, awake_by, changed_here, carries_one, seats_one}
use Rattle.parking_lot_machine.proofs.LotActs.{same_length, nobody_off, sits, carried_awake, seats_still, one_bucket}
use Rattle.parking_lot_machine.proofs.LotActs.{apart, changed_there, stores_unstored, lot_with_at, now_at, open_there}
use Rattle.parking_lot_machine.proofs.LotActs.{open_which, phase_as, stored_as, key_is}
use Rattle.parking_lot_core_model.specs.declared.parking.UnparkToken.{UnparkToken}
use Rattle.parking_lot_core_model.specs.declared.place.Place.{Place}
use Rattle.parking_lot_machine_calls.specs.declared.seat.WakeResult.{WakeResult}
use Rattle.parking_lot_machine_calls.specs.declared.seat.QueuePosition.{QueuePosition}
use Rattle.parking_lot_core_model.specs.declared.place.Phase.TheVariants as phase
use Rattle.parking_lot_protocol.specs.declared.act.ActResult.TheVariants as seen
use Rattle.parking_lot_machine_calls.specs.declared.seat.QueuePosition.TheVariants as spot

-- a key has one lock and one number
pub one_key : (i j k l : ℕ) → k < 2 → l < 2 → 2 * i + k ≡ 2 * j + l → (i ≡ j) × (k ≡ l)
one_key i j k l a b e = (omega arith, omega arith)

waiting_taken : {a b : ℕ} {x y : Sleep} {token : UnparkToken} → Some (Waiting a x) ≡ Some (Taken token b y false) → ⊥
waiting_taken e = cc

module _ (s : State) (t : ℕ) (c : Call) (h : LotFits s) (here : call_at s t ≡ Some c) (k : ℕ) (two : k < 2)
    (token : ParkToken)
    (from : stance c.core ≡ In k (Joins token)) (none : taken_count c.core ≡ 0)
    (sound : Sound (appended s t c (key_of c k) token).lot) where
  abbrev lists : Call
  lists = record (hears c seen.Made) { spot = spot.Listed }

  abbrev list_sleep : Sleep
  list_sleep = record { mark = (s.lot.sleeps + 1) % 2 ^ 64; timed = false; late = false }

  abbrev list_queues : ℕ → List Waiter
  list_queues = updated s.lot.queues (key_of c k)
      (s.lot.queues (key_of c k) ++ record { thread = t; token = token } ∷ [])

  abbrev list_places : List (Option Place)
  list_places = slice_set s.lot.places t (Some (Waiting (key_of c k) list_sleep))

  abbrev list_lot : Section → Machine
  list_lot o' = lot_with_at s (key_of c k) ((s.lot.sleeps + 1) % 2 ^ 64) list_queues list_places (Some o') s.lot.inside

  pub appended_fits : stance lists.core ≡ In k (Joined token) → taken_count lists.core ≡ 0
      → LotFits (appended s t c (key_of c k) token)
  appended_fits to still =
      let seat = seat_of s h t c (In k (Joins token)) here from in
      let o : Section = seat.0 in
      let o' : Section = record o { phase = phase.Joined } in
      let u : State = with_lot (with_call s t lists) (list_lot o') in
      let as_lot : (appended s t c (key_of c k) token).lot ≡ list_lot o' =
      ap (λ (m : Machine). joined m t (key_of c k) token false) (phase_as s (key_of c k) o phase.Joined seat.1) in
      let low = call_within s t c here in
      let carries = carried_awake s t c lists (In k (Joins token)) (In k (Joined token)) here from to tt tt refl
      (still ∙ sym none) (λ i. inl tt) (wakes_some c.core seen.Made) in
      let place : place_at list_places t ≡ Some (Waiting (key_of c k) list_sleep) = place_at-set_same s.lot.places t
      Running (Some (Waiting (key_of c k) list_sleep)) seat.5 in
      let others : (v : ℕ) → (v == t) ≡ false → place_at list_places v ≡ place_at s.lot.places v =
      λ v e. place_at-set_other s.lot.places t v (Some (Waiting (key_of c k) list_sleep)) e in
      let w : Waiter = record { thread = t; token = token } in
      let its : (x : Section) → Some o ≡ Some x → x.thread ≡ Some t =
      λ x e. ap (λ (y : Section). y.thread) (sym (same_section e)) ∙ seat.2 in
      let its' : (x : Section) → Some o' ≡ Some x → x.thread ≡ Some t =
      λ x e. ap (λ (y : Section). y.thread) (sym (same_section e)) ∙ seat.2 in
      subst (λ (m : Machine). LotFits (with_lot (with_call s t lists) m)) (sym as_lot)
      (carried_by s u h (carries_one s t h low (Some lists) (list_lot o') carries)
      (same_length s t h low (Some lists) (list_lot o')) (subst Sound as_lot sound) refl
      (λ j l n x low_l at. by_eqb (2 * j + l) (key_of c k)
      ((d : Call) × (call_at u x.thread ≡ Some d) × (d.lock ≡ j) × (d.spot ≡ spot.Listed)
      × Awaits l x.token (stance d.core))
      (λ e. new carries low j l n x low_l e
      (get_push (s.lot.queues (key_of c k)) w n x
      (sym (ap (λ (qs : List Waiter). slice_get qs n)
      (updated_at s.lot.queues (key_of c k) (s.lot.queues (key_of c k) ++ w ∷ [])))
      ∙ (ap (λ (key : ℕ). slice_get (list_queues key) n) (sym e) ∙ at))) to)
      (λ e. waits_carried s u h (carries_one s t h low (Some lists) (list_lot o') carries) j l n x low_l
      (sym (ap (λ (qs : List Waiter). slice_get qs n)
      (updated_other s.lot.queues (key_of c k) (s.lot.queues (key_of c k) ++ w ∷ []) (2 * j + l) e)) ∙ at)))
      (λ v j park x at asleep. by_eqb v t
      (option_map_or mark_of (place_at list_places v) 0 ≡ option_map_or mark_of (place_at s.lot.places v) 0)
      (λ e. absurd (awake_sleeps j park (stance c.core) (awake_by (stance c.core) (In k (Joins token)) from tt)
      (ap (λ (y : Call). stance y.core) (sym (same x c (sym at ∙ (ap (call_at s) e ∙ here)))) ∙ asleep)))
      (λ e. ap (λ p. option_map_or mark_of p 0) (others v e)))
      (λ v j x park by said y key sleep at asleep off is. by_eqb v t (s.lot.inside by ≡ None)
      (λ e. absurd (waiting_taken (sym place ∙ (ap (place_at list_places) (sym e) ∙ is))))
      (λ e. h.outside v j x park by said y key sleep at asleep off (sym (others v e) ∙ is)))
      (seats_one s t h low (Some lists) (list_lot o')
      (sits t lists (In k (Joined token)) (list_lot o') to (
        o',
        now_at s t c lists h here (key_of c k) o o' seat.1 seat.2 seat.2 ((s.lot.sleeps + 1) % 2 ^ 64) list_queues
            list_places,
        seat.2,
        seat.3,
        refl,
        (refl, (list_sleep, place, refl)),
        seat.6,
      ))
      (λ v e. seats_still s t c lists h here (key_of c k) o o' seat.1 seat.2 seat.2 ((s.lot.sleeps + 1) % 2 ^ 64)
      list_queues list_places v e (others v e)
      (λ j park x by said by_t at asleep off in_it. absurd
      (nobody_off s h t c here none v j park x by said by_t at asleep off))))
      (λ b section is.
      let x = open_which s t h (key_of c k) (Some o) (Some o') seat.1 its low its' b section is in
      (x.0, x.1, subst (λ (n : ℕ). x.0 < n) (sym (same_length s t h low (Some lists) (list_lot o'))) x.2)))
    where
      same : (x y : Call) → Some x ≡ Some y → x ≡ y
      same x y e = cc

      new : Carries (call_at s t) (Some lists) → t < length s.calls → (j l n : ℕ) (x : Waiter) → l < 2
          → 2 * j + l ≡ key_of c k
          → (slice_get (s.lot.queues (key_of c k)) n ≡ Some x)
          ⊎ ((x ≡ record { thread = t; token = token }) × (n ≡ length (s.lot.queues (key_of c k))))
          → stance lists.core ≡ In k (Joined token)
          → (d : Call) × (call_at (with_call s t lists) x.thread ≡ Some d) × (d.lock ≡ j)
          × (d.spot ≡ spot.Listed) × Awaits l x.token (stance d.core)
      new carries low j l n x low_l e (inl at) to =
          waits_carried s (with_call s t lists) h (carries_one s t h low (Some lists) s.lot carries) j
          l n x low_l (ap (λ (key : ℕ). slice_get (s.lot.queues key) n) e ∙ at)
      new carries low j l n x low_l e (inr push) to =
          let is = push.0 in
          let key = one_key j c.lock l k low_l two e in (
            lists,
            ap (λ (y : Waiter). call_at (with_call s t lists) y.thread) is
                ∙ changed_here s t h low (Some lists) s.lot,
            sym key.0,
            refl,
            subst (Awaits l x.token) (sym to) (sym key.1, ap (λ (y : Waiter). y.token) (sym is)),
          )

-- A store in a section, which tells those that it took, keeps what fits of the lot.

told_not_nothing : (token : UnparkToken) → WakeResult.Nothing ≡ told_of token → ⊥
told_not_nothing token e = go (token.0 == 1) e
  where
    go : (b : Bool) → WakeResult.Nothing ≡ cond b WakeResult.HandedOver WakeResult.TryAgain → ⊥
    go true e = cc
    go false e = cc

-- calls, each changed so
pub call_at-map : (g : Call → Call) (cs : List (Option Call)) (v : ℕ)
    → option_and_then (λ x. x) (slice_get (map (option_map g) cs) v) ≡ option_map g
    (option_and_then (λ x. x) (slice_get cs v))
call_at-map g cs v = ap (option_and_then (λ x. x)) (slice_get-map (option_map g) cs v) ∙ go (slice_get cs v)
  where
    go : (o : Option (Option Call)) → option_and_then (λ x. x) (option_map (option_map g) o) ≡ option_map g
        (option_and_then (λ x. x) o)
    go None = refl
    go (Some None) = refl
    go (Some (Some c)) = refl

-- who is in a section stands where it stood
settled_while : (t : ℕ) (said : WakeResult) (how : Doing) (at : QueuePosition) (place : Option Place) (key : ℕ)
    → PlaceWhile how at place key → PlaceWhile how (settled_spot t said at) place key
settled_while t said Looks at place key h = h
settled_while t said TurnsBack at place key h = h
settled_while t said (Joins token) at place key h = h
settled_while t said (Joined token) at place key h = (ap (settled_spot t said) h.0, h.1)
settled_while t said Takes at place key h = h
settled_while t said Stores at place key h = h
settled_while t said (Tells token) at place key h = h

-- A sleeper, as the thread t stores in its section o, which is o' then: all other sections stay.
module _ (t : ℕ) (token : UnparkToken) (place : Option Place) (secs secs' : ℕ → Option Section) (key : ℕ)
    (o o' : Section) (whose' : o'.thread ≡ Some t) (may : may_store o.phase ≡ true) (now : o'.phase ≡ phase.Stored)
    (says : o'.token ≡ token)
    (mine : (by : ℕ) (y : Section) → by ≡ t → secs key ≡ Some y → y.thread ≡ Some by → (y ≡ o)
    × (secs' key ≡ Some o'))
    (theirs : (by : ℕ) (y : Section) → (by == t) ≡ false → secs key ≡ Some y → y.thread ≡ Some by
    → secs' key ≡ Some y) where
  abbrev Lies : (ℕ → Option Section) → ℕ → WakeResult → Sleep → Type 0
  Lies ss by said sleep =
      ((place ≡ Some (Held key sleep)) × (opened : Section) × (ss key ≡ Some opened) × (opened.thread ≡ Some by)
      × SaidIn opened said)
      ⊎ ((x : UnparkToken) × (place ≡ Some (Taken x key sleep false)) × (said ≡ told_of x))

  -- one that was told of stays so
  said_on : (by : ℕ) (said : WakeResult) → (said ≡ WakeResult.Nothing → ⊥) → (sleep : Sleep) → Lies secs by said sleep
      → Lies secs' by said sleep
  said_on by said some sleep (inr x) = inr x
  said_on by said some sleep (inl x) = by_eqb by t (Lies secs' by said sleep)
      (λ e. absurd (never (mine by x.1 e x.2 x.3).0 x.4))
      (λ e. inl (x.0, x.1, theirs by x.1 e x.2 x.3, x.3, x.4))
    where
      never : x.1 ≡ o → SaidIn x.1 said → ⊥
      never same (inl y) = stores_unstored o.phase may (ap (λ (z : Section). z.phase) (sym same) ∙ y.0)
      never same (inr y) = some y.1

  -- and one that wasn't is told, where t took it
  told_now : (by : ℕ) (sleep : Sleep) → Lies secs by WakeResult.Nothing sleep
      → Lies secs' by (cond (by == t) (told_of token) WakeResult.Nothing) sleep
  told_now by sleep (inr x) = absurd (told_not_nothing x.0 x.2)
  told_now by sleep (inl x) = by_eqb by t (Lies secs' by (cond (by == t) (told_of token) WakeResult.Nothing) sleep)
      (λ e. inl (
        x.0,
        o',
        (mine by x.1 e x.2 x.3).1,
        whose' ∙ ap (λ w. Some w) (sym e),
        inl (now, cond-true (by == t) (told_of token) WakeResult.Nothing (eq-eqb by t e) ∙ ap told_of (sym says)),
      ))
      (λ e. inl (
        x.0,
        x.1,
        theirs by x.1 e x.2 x.3,
        x.3,
        subst (SaidIn x.1) (sym (cond-false (by == t) (told_of token) WakeResult.Nothing e)) x.4,
      ))

  settled_lies : (at : QueuePosition) → IsAt at place secs key
      → IsAt (settled_spot t (told_of token) at) place secs' key
  settled_lies QueuePosition.Listed h = h
  settled_lies (QueuePosition.Off by WakeResult.Nothing) h = (h.0, h.1, told_now by h.0 h.2)
  settled_lies (QueuePosition.Off by WakeResult.TryAgain) h = (h.0, h.1, said_on by WakeResult.TryAgain some h.0 h.2)
    where
      some : WakeResult.TryAgain ≡ WakeResult.Nothing → ⊥
      some e = cc
  settled_lies (QueuePosition.Off by WakeResult.HandedOver) h =
      (h.0, h.1, said_on by WakeResult.HandedOver some h.0 h.2)
    where
      some : WakeResult.HandedOver ≡ WakeResult.Nothing → ⊥
      some e = cc

-- the thread t stores, and tells that token
module _ (s : State) (t : ℕ) (c d : Call) (h : LotFits s) (here : call_at s t ≡ Some c) (k : ℕ) (token : UnparkToken)
    (lock : d.lock ≡ c.lock)
    (from : stance c.core ≡ In k Stores) (to : stance d.core ≡ In k (Tells token))
    (counts : taken_count d.core ≡ taken_count c.core) (some : WakesSome d.core)
    (sound : Sound (stored s.lot (key_in c) token)) where
  abbrev stores_on : Machine → State
  stores_on m = with_lot (settles (with_call s t d) t (told_of token)) m

  abbrev stores : State
  stores = stores_on (stored s.lot (key_in c) token)

  stored_at : (v : ℕ) → call_at stores v ≡ option_map (settled t (told_of token)) (call_at (with_call s t d) v)
  stored_at v = call_at-map (settled t (told_of token)) (slice_set s.calls t (Some d)) v

  stored_carries : (v : ℕ) → Carries (call_at s v) (call_at stores v)
  stored_carries v =
      carries_both (call_at s v) (call_at (with_call s t d) v) (call_at stores v)
      (carries_one s t h (call_within s t c here) (Some d) s.lot
      (carried_awake s t c d (In k Stores) (In k (Tells token)) here from to tt tt lock counts (λ i. inl tt) some)
      v)
      (subst (Carries (call_at (with_call s t d) v)) (sym (stored_at v))
      (carries_settled t (told_of token) (call_at (with_call s t d) v)))

  stored_length : length stores.calls ≡ length s.calls
  stored_length = length-map (slice_set s.calls t (Some d)) (option_map (settled t (told_of token)))
      ∙ same_length s t h (call_within s t c here) (Some d) s.lot

  abbrev stores_lot : Section → Machine
  stores_lot o' = lot_with_at s (key_of c k) s.lot.sleeps s.lot.queues s.lot.places (Some o') s.lot.inside

  -- another thread, as t stores in its section
  module _ (v : ℕ) (e : (v == t) ≡ false) (o : Section) (was : open_at s (key_of c k) ≡ Some o)
      (whose : o.thread ≡ Some t) (may : may_store o.phase ≡ true) where
    abbrev o' : Section
    o' = record o { phase = phase.Stored; token = token }

    its : (x : Section) → Some o ≡ Some x → x.thread ≡ Some t
    its x is = ap (λ (y : Section). y.thread) (sym (same_section is)) ∙ whose

    lies : (key : ℕ) (at : QueuePosition) (place : Option Place) → IsAt at place (open_at s) key
        → IsAt (settled_spot t (told_of token) at) place (core_lot.open_at (stores_lot o')) key
    lies key at place h' =
        settled_lies t token place (open_at s) (core_lot.open_at (stores_lot o')) key o o' whose may refl refl
        (λ by y same there own.
        let b : bucket s key ≡ bucket s (key_of c k) =
        one_bucket s h t (bucket s key) (bucket s (key_of c k)) y o there (own ∙ ap (λ w. Some w) same) was whose
        in (
          same_section (sym there ∙ (ap s.lot.sections b ∙ was)),
          ap (updated s.lot.sections (bucket s (key_of c k)) (Some o')) b
              ∙ updated_at s.lot.sections (bucket s (key_of c k)) (Some o'),
        ))
        (λ by y f there own. open_there s t h (key_of c k) (Some o) (Some o') was its by key y f there own)
        at h'

    other : (x : Option Call) → SeatedIn s.lot v x
        → SeatedIn (stores_lot o') v (option_map (settled t (told_of token)) x)
    other None y = y
    other (Some x) y =
        apart v x.lock (stance x.core) x.spot (settled_spot t (told_of token) x.spot) (place_at s.lot.places v)
        (place_at s.lot.places v) (s.lot.inside v) (s.lot.inside v) (open_at s) (core_lot.open_at (stores_lot o'))
        refl (λ runs. runs)
        (λ j how p is there own. (
          open_there s t h (key_of c k) (Some o) (Some o') was its v (2 * x.lock + j) p e there own,
          settled_while t (told_of token) how x.spot (place_at s.lot.places v) (2 * x.lock + j),
        ))
        (λ j park is. lies (2 * x.lock + j) x.spot (place_at s.lot.places v))
        y

  pub stores_fit : LotFits stores
  stores_fit =
      let seat = seat_of s h t c (In k Stores) here from in
      let o : Section = seat.0 in
      let o' : Section = record o { phase = phase.Stored; token = token } in
      let as_lot : stored s.lot (key_in c) token ≡ stores_lot o' =
      ap (λ (i : ℕ). stored s.lot i token) (key_is c k Stores from) ∙ stored_as s (key_of c k) o token seat.1 in
      let low = call_within s t c here in
      let its : (x : Section) → Some o ≡ Some x → x.thread ≡ Some t =
      λ x e. ap (λ (y : Section). y.thread) (sym (same_section e)) ∙ seat.2 in
      let its' : (x : Section) → Some o' ≡ Some x → x.thread ≡ Some t =
      λ x e. ap (λ (y : Section). y.thread) (sym (same_section e)) ∙ seat.2 in
      subst (λ (m : Machine). LotFits (stores_on m)) (sym as_lot)
      (carried s (stores_on (stores_lot o')) h stored_carries stored_length (subst Sound as_lot sound) refl refl
      (λ v j park x at asleep. refl) (outs_still s (stores_lot o') h (λ v. refl) (λ b out. out))
      (λ v within. by_eqb v t (SeatedIn (stores_lot o') v (call_at stores v))
      (λ e. subst (λ (w : ℕ). SeatedIn (stores_lot o') w (call_at stores w)) (sym e)
      (subst (λ (x : Option Call). SeatedIn (stores_lot o') t x)
      (sym (stored_at t ∙ ap (option_map (settled t (told_of token))) (changed_here s t h low (Some d) s.lot)))
      (sits t (settled t (told_of token) d) (In k (Tells token)) (stores_lot o') to
      (subst (λ (j : ℕ). Stands t j (In k (Tells token)) (settled_spot t (told_of token) d.spot)
      (place_at s.lot.places t) (s.lot.inside t) (core_lot.open_at (stores_lot o'))) (sym lock) (
        o',
        now_at s t c d h here (key_of c k) o o' seat.1 seat.2 seat.2 s.lot.sleeps s.lot.queues s.lot.places,
        seat.2,
        seat.3,
        (refl, refl),
        seat.5,
        seat.6,
      )))))
      (λ e. subst (λ (x : Option Call). SeatedIn (stores_lot o') v x)
      (sym (stored_at v ∙ ap (option_map (settled t (told_of token))) (changed_there s t h low (Some d) s.lot v e)))
      (other v e o seat.1 seat.2 seat.4 (call_at s v)
      (h.seated v (subst (λ (n : ℕ). v < n) stored_length within)))))
      (λ b section is.
      let x = open_which s t h (key_of c k) (Some o) (Some o') seat.1 its low its' b section is in
      (x.0, x.1, subst (λ (n : ℕ). x.0 < n) (sym stored_length) x.2)))
