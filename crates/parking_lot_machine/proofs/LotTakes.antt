-- Taking a waiter off its list keeps what fits of the lot.
use Rattle.std.proofs.Common.{◌≡◌, ◌≤◌, ◌<◌, ℕ, ◌+◌, ◌*◌, ◌==◌, ◌⊎◌, inl, inr, false, List, [], ◌∷◌, length, remove}
use Rattle.std.proofs.Common.{Option, Some, None, slice_get, slice_set, count_by, refl, sym, ap, ◌∙◌, subst, arith}
use Rattle.std.proofs.Common.{eq-eqb}
use Rattle.std.specs.Option.{option_map, option_map_or}
use Rattle.std.proofs.lemmas.Bool.{ne_eqb, eqb-false}
use Rattle.parking_lot_core_model.specs.declared.parking.ParkToken.{ParkToken}
use Rattle.parking_lot_core_model.specs.declared.parking.UnparkToken.{UnparkToken}
use Rattle.parking_lot_core_model.specs.declared.place.Place.{Place}
use Rattle.parking_lot_core_model.specs.declared.place.Place.TheVariants.{Running, Waiting, Held, Taken}
use Rattle.parking_lot_core_model.specs.declared.place.Phase.TheVariants as phase
use Rattle.parking_lot_core_model.specs.declared.place.Section.{Section}
use Rattle.parking_lot_core_model.specs.declared.place.Sleep.{Sleep}
use Rattle.parking_lot_core_model.specs.declared.place.Waiter.{Waiter}
use Rattle.parking_lot_core_model.specs.Lists.{updated}
use Rattle.parking_lot_core_model.specs.Machine.{Machine, is_thread, taken}
use Rattle.parking_lot_core_model.specs.Machine as core_lot
use Rattle.parking_lot_core_model.specs.Places.{place_at, mark_of, held, changed}
use Rattle.parking_lot_core_model.specs.Results.{is_left}
use Rattle.parking_lot_core_model.specs.Sound.{Sound, times_at}
use Rattle.std.proofs.lemmas.List.{length-set}
use Rattle.parking_lot_core_model.proofs.Kept.{by_eqb, updated_at, updated_other, slice_get-seam, eqb_false_symm}
use Rattle.parking_lot_core_model.proofs.Numbers.{flag, count_by-at, count_by-push}
use Rattle.parking_lot_core_model.proofs.Sounds.{place_at-set_same, place_at-set_other}
use Rattle.parking_lot_protocol.specs.declared.act.ActResult.TheVariants as seen
use Rattle.parking_lot_machine_calls.specs.declared.seat.WakeResult.{WakeResult}
use Rattle.parking_lot_machine_calls.specs.declared.seat.QueuePosition.{QueuePosition}
use Rattle.parking_lot_machine_calls.specs.declared.open_call.Call.{Call}
use Rattle.parking_lot_machine_calls.specs.declared.seat.Wakeup.{Wakeup}
use Rattle.parking_lot_machine.specs.Rows.{State, call_at, is_by, open_at, taken_by}
use Rattle.parking_lot_machine_calls.specs.Stances.{Doing, Looks, TurnsBack, Joins, Joined, Takes, Stores, Tells}
use Rattle.parking_lot_machine_calls.specs.Stances.{Stance, Out, In, Asleep, stance, taken_count}
use Rattle.parking_lot_machine.specs.RowActs.{took}
use Rattle.parking_lot_machine_calls.specs.CallActs.{hears, key_of, off_list}
use Rattle.parking_lot_machine.specs.RowFits.{IsAt, IsCounted, IsInside, Stands, SeatedIn, Awaits, IsTaken, IsOwed}
use Rattle.parking_lot_machine.specs.RowFits.{TakersAreOut, WakesSome, LotFits}
use Rattle.parking_lot_machine.proofs.Indexing.{get_push, get_front, get_remove}
use Rattle.parking_lot_machine_calls.proofs.Stancing.{wakes_some}
use Rattle.parking_lot_machine.proofs.Carrying.{same_call, call_within, set_elsewhere, Tallied, tallied, taken_by-count}
use Rattle.parking_lot_machine.proofs.Carrying.{no_length, awake_sleeps}
use Rattle.parking_lot_rules.proofs.Slots.{set_there}
use Rattle.parking_lot_machine.proofs.WakesRoom.{wakes_few}
use Rattle.std.proofs.lemmas.List.Sums.{count_by-le-length}
use Rattle.parking_lot_machine.proofs.LotActs.{same_number, same_section, seat_of, awake_by, sits, seats_still}
use Rattle.parking_lot_machine.proofs.LotActs.{lot_with_at, now_at, open_which, phase_as, still_said}

in_asleep : {k j : ℕ} {how : Doing} {token : ParkToken} → In k how ≡ Asleep j token → ⊥
in_asleep e = cc

held_taken : {a b : ℕ} {x y : Sleep} {token : UnparkToken} → Some (Held a x) ≡ Some (Taken token b y false) → ⊥
held_taken e = cc

-- who waits has joined the list, or sleeps
awaits_how : (k : ℕ) (token : ParkToken) (a : Stance) → Awaits k token a → (a ≡ In k (Joined token))
    ⊎ (a ≡ Asleep k token)
awaits_how k token Out h = absurd h
awaits_how k token (In j Looks) h = absurd h
awaits_how k token (In j TurnsBack) h = absurd h
awaits_how k token (In j (Joins t)) h = absurd h
awaits_how k token (In j (Joined t)) h =
    inl (ap (λ (i : ℕ). In i (Joined t)) h.0 ∙ ap (λ (x : ParkToken). In k (Joined x)) h.1)
awaits_how k token (In j Takes) h = absurd h
awaits_how k token (In j Stores) h = absurd h
awaits_how k token (In j (Tells t)) h = absurd h
awaits_how k token (Asleep j t) h = inr (ap (λ (i : ℕ). Asleep i t) h.0 ∙ ap (λ (x : ParkToken). Asleep k x) h.1)

-- a waiter of a section's list, seen from its thread: another, which sleeps there
pub record Sleeper (s : State) (t k : ℕ) (c : Call) (w : Waiter) : Type 0 where
  pub call : Call
  pub there : call_at s w.thread ≡ Some call
  pub lock : call.lock ≡ c.lock
  pub listed : call.spot ≡ QueuePosition.Listed
  pub asleep : stance call.core ≡ Asleep k w.token
  pub other : (w.thread == t) ≡ false
  pub sleep : Sleep
  pub place : place_at s.lot.places w.thread ≡ Some (Waiting (2 * c.lock + k) sleep)
  pub late : sleep.late ≡ false

pub sleeper : (s : State) (t : ℕ) (c : Call) → LotFits s → call_at s t ≡ Some c → (k nth : ℕ) (w : Waiter) → k < 2
    → stance c.core ≡ In k Takes → slice_get (s.lot.queues (key_of c k)) nth ≡ Some w → Sleeper s t k c w
sleeper s t c h here k nth w two from at =
    let x = h.waits c.lock k nth w two at in
    let seat = seat_of s h t c (In k Takes) here from in
    let other : (w.thread == t) ≡ false =
    ne_eqb w.thread t
    (λ e. subst (Awaits k w.token)
    (ap (λ (y : Call). stance y.core) (same_call (sym x.1 ∙ (ap (call_at s) e ∙ here))) ∙ from) x.4) in
    go x.0 x.1 x.2 x.3 other (awaits_how k w.token (stance x.0.core) x.4)
  where
    go : (x : Call) → call_at s w.thread ≡ Some x → x.lock ≡ c.lock → x.spot ≡ QueuePosition.Listed
        → (w.thread == t) ≡ false → (stance x.core ≡ In k (Joined w.token)) ⊎ (stance x.core ≡ Asleep k w.token)
        → Sleeper s t k c w
    go x there lock listed other (inl e) =
        let mine = seat_of s h t c (In k Takes) here from in
        let its = seat_of s h w.thread x (In k (Joined w.token)) there e in
        absurd (eqb-false w.thread t other
        (same_number (sym its.2 ∙ (ap (λ (z : Section). z.thread)
        (same_section (sym its.1 ∙ (ap (λ (n : ℕ). open_at s (2 * n + k)) lock ∙ mine.1))) ∙ mine.2))))
    go x there lock listed other (inr e) =
        let its = seat_of s h w.thread x (Asleep k w.token) there e in
        let place = subst
        (λ (a : QueuePosition). IsAt a (place_at s.lot.places w.thread) (open_at s) (2 * x.lock + k)) listed its.0
        in
        record {
          call = x;
          there = there;
          lock = lock;
          listed = listed;
          asleep = e;
          other = other;
          sleep = place.0;
          place = place.1 ∙ ap (λ (n : ℕ). Some (Waiting (2 * n + k) place.0)) lock;
          late = place.2;
        }

module _ (s : State) (t : ℕ) (c : Call) (h : LotFits s) (here : call_at s t ≡ Some c) (k nth : ℕ) (w : Waiter)
    (two : k < 2)
    (from : stance c.core ≡ In k Takes) (at : slice_get (s.lot.queues (key_of c k)) nth ≡ Some w) where
  abbrev pub takes : Call
  takes = hears c (seen.Took (Some w.token) (is_left (remove (s.lot.queues (key_of c k)) nth)))

  abbrev u : State
  u = took s t c (key_of c k) nth w

  abbrev v : ℕ
  v = w.thread

  abbrev z : Sleeper s t k c w
  z = sleeper s t c h here k nth w two from at

  abbrev entry : Wakeup
  entry = record { by = t; thread = w.thread; mark = option_map_or mark_of (place_at s.lot.places w.thread) 0 }

  abbrev off : Call
  off = off_list t (sleeper s t c h here k nth w two from at).call

  -- the places
  pub took_places : u.lot.places ≡ slice_set s.lot.places v (Some (Held (key_of c k) z.sleep))
  took_places =
      ap (λ (o : Option Waiter). option_map_or (λ (x : Waiter). changed (held (key_of c k)) s.lot.places x.thread) o
      s.lot.places) at
      ∙ ap (λ (p : Option Place). slice_set s.lot.places v (option_map (held (key_of c k)) p)) z.place

  place_taken : place_at u.lot.places v ≡ Some (Held (key_of c k) z.sleep)
  place_taken = ap (λ (ps : List (Option Place)). place_at ps v) took_places
      ∙ place_at-set_same s.lot.places v (Waiting (2 * c.lock + k) z.sleep) (Some (Held (key_of c k) z.sleep)) z.place

  place_other : (x : ℕ) → (x == v) ≡ false → place_at u.lot.places x ≡ place_at s.lot.places x
  place_other x e = ap (λ (ps : List (Option Place)). place_at ps x) took_places
      ∙ place_at-set_other s.lot.places v x (Some (Held (key_of c k) z.sleep)) e

  -- the calls
  pub call_taken : call_at u v ≡ Some off
  call_taken =
      set_elsewhere (slice_set s.calls v (option_map (off_list t) (call_at s v))) t v (Some takes) z.other
      ∙ (set_there s.calls v (option_map (off_list t) (call_at s v)) (call_within s v z.call z.there)
      ∙ ap (option_map (off_list t)) z.there)

  mine_within : t < length (slice_set s.calls v (option_map (off_list t) (call_at s v)))
  mine_within = subst (λ (n : ℕ). t < n) (sym (length-set s.calls v (option_map (off_list t) (call_at s v))))
      (call_within s t c here)

  pub call_mine : call_at u t ≡ Some takes
  call_mine = set_there (slice_set s.calls v (option_map (off_list t) (call_at s v))) t (Some takes) mine_within

  pub call_other : (x : ℕ) → (x == t) ≡ false → (x == v) ≡ false → call_at u x ≡ call_at s x
  call_other x e f =
      set_elsewhere (slice_set s.calls v (option_map (off_list t) (call_at s v))) t x (Some takes) e
      ∙ set_elsewhere s.calls v x (option_map (off_list t) (call_at s v)) f

  pub took_length : length u.calls ≡ length s.calls
  took_length = length-set (slice_set s.calls v (option_map (off_list t) (call_at s v))) t (Some takes)
      ∙ length-set s.calls v (option_map (off_list t) (call_at s v))

  -- each keeps its lock
  lock_kept : (x : ℕ) (y : Call) → call_at s x ≡ Some y → (d : Call) × (call_at u x ≡ Some d) × (d.lock ≡ y.lock)
  lock_kept x y is = by_eqb x t ((d : Call) × (call_at u x ≡ Some d) × (d.lock ≡ y.lock))
      (λ e. (
        takes,
        ap (call_at u) e ∙ call_mine,
        ap (λ (d : Call). d.lock) (same_call (sym here ∙ (ap (call_at s) (sym e) ∙ is))),
      ))
      (λ e. by_eqb x v ((d : Call) × (call_at u x ≡ Some d) × (d.lock ≡ y.lock))
      (λ f. (
        off,
        ap (call_at u) f ∙ call_taken,
        ap (λ (d : Call). d.lock) (same_call (sym z.there ∙ (ap (call_at s) (sym f) ∙ is))),
      ))
      (λ f. (y, call_other x e f ∙ is, refl)))

  -- of the sleepers only the one that was taken goes off its list
  not_mine : (x j : ℕ) (token : ParkToken) (y : Call) → call_at s x ≡ Some y → stance y.core ≡ Asleep j token
      → (x == t) ≡ false
  not_mine x j token y is asleep =
      ne_eqb x t (λ e. awake_sleeps j token (stance c.core) (awake_by (stance c.core) (In k Takes) from tt)
      (ap (λ (d : Call). stance d.core) (same_call (sym here ∙ (ap (call_at s) (sym e) ∙ is))) ∙ asleep))

  not_taken : (x by : ℕ) (said : WakeResult) (y : Call) → call_at s x ≡ Some y → y.spot ≡ QueuePosition.Off by said
      → (x == v) ≡ false
  not_taken x by said y is off =
      ne_eqb x v (λ e. listed≢off
      (sym z.listed ∙ (ap (λ (d : Call). d.spot) (same_call (sym z.there ∙ (ap (call_at s) (sym e) ∙ is))) ∙ off)))
    where
      listed≢off : QueuePosition.Listed ≡ QueuePosition.Off by said → ⊥
      listed≢off e = cc

  module _ (how : Doing) (to : stance takes.core ≡ In k how) (counts : taken_count takes.core ≡ taken_count c.core + 1)
      (sound : Sound u.lot)
      (own : (o : Section) (secs : ℕ → Option Section)
      → secs (key_of c k) ≡ Some (record o { phase = phase.Taking nth }) → o.thread ≡ Some t → o.key ≡ key_of c k
      → place_at s.lot.places t ≡ Some Running → s.lot.inside t ≡ Some (key_of c k)
      → Stands t c.lock (In k how) c.spot (place_at s.lot.places t) (s.lot.inside t) secs)
    where
      abbrev took_queues : ℕ → List Waiter
      took_queues = updated s.lot.queues (key_of c k) (remove (s.lot.queues (key_of c k)) nth)

      abbrev took_lot : Section → Machine
      took_lot o' = lot_with_at s (key_of c k) s.lot.sleeps took_queues u.lot.places (Some o') s.lot.inside

      took_lot_as : (o : Section) → open_at s (key_of c k) ≡ Some o
          → u.lot ≡ took_lot (record o { phase = phase.Taking nth })
      took_lot_as o was = ap (λ (m : Machine). taken m (key_of c k) nth)
          (phase_as s (key_of c k) o (phase.Taking nth) was)

      took_seated : (x : ℕ) → x < length u.calls → SeatedIn u.lot x (call_at u x)
      took_seated x within =
          let seat = seat_of s h t c (In k Takes) here from in
          let o : Section = seat.0 in
          let o' : Section = record o { phase = phase.Taking nth } in
          let on : Machine = took_lot o' in
          let open_on : core_lot.open_at on (key_of c k) ≡ Some o' =
          now_at s t c takes h here (key_of c k) o o' seat.1 seat.2 seat.2 s.lot.sleeps took_queues u.lot.places in
          subst (λ (m : Machine). SeatedIn m x (call_at u x)) (sym (took_lot_as o seat.1))
          (by_eqb x t (SeatedIn on x (call_at u x))
          (λ e. subst (λ (y : ℕ). SeatedIn on y (call_at u y)) (sym e)
          (subst (λ (d : Option Call). SeatedIn on t d) (sym call_mine)
          (sits t takes (In k how) on to
          (subst (λ (p : Option Place). Stands t c.lock (In k how) c.spot p (s.lot.inside t) (core_lot.open_at on))
          (sym (place_other t (eqb_false_symm v t z.other)))
          (own o (core_lot.open_at on) open_on seat.2 seat.3 seat.5 seat.6)))))
          (λ e. by_eqb x v (SeatedIn on x (call_at u x))
          (λ f. subst (λ (y : ℕ). SeatedIn on y (call_at u y)) (sym f)
          (subst (λ (d : Option Call). SeatedIn on v d) (sym call_taken)
          (sits v off (Asleep k w.token) on z.asleep
          (subst (λ (j : ℕ). Stands v j (Asleep k w.token) (QueuePosition.Off t WakeResult.Nothing)
          (place_at u.lot.places v) (s.lot.inside v) (core_lot.open_at on)) (sym z.lock) (
            (z.sleep, z.late, inl (place_taken, o', open_on, seat.2, inr (refl, refl))),
            (seat_of s h v z.call (Asleep k w.token) z.there z.asleep).1,
          )))))
          (λ f. subst (λ (d : Option Call). SeatedIn on x d) (sym (call_other x e f))
          (seats_still s t c takes h here (key_of c k) o o' seat.1 seat.2 seat.2 s.lot.sleeps took_queues u.lot.places
          x e
          (place_other x f)
          (λ j token y by said by_t at' asleep off' in_it. still_said o (phase.Taking nth) said seat.4 refl in_it)
          (h.seated x (subst (λ (n : ℕ). x < n) took_length within))))))

      -- the one that was taken is in no list
      gone : (j l n : ℕ) (x : Waiter) → slice_get (u.lot.queues (2 * j + l)) n ≡ Some x → (x.thread == v) ≡ false
      gone j l n x is = ne_eqb x.thread v (λ e.
          let some : 1 ≤ count_by (is_thread v) (u.lot.queues (2 * j + l)) =
          count_by-at (is_thread v) (u.lot.queues (2 * j + l)) n x is (eq-eqb x.thread v e) in
          let count : count_by (is_thread v) (u.lot.queues (2 * j + l)) ≡ 0 = sound.waits v (2 * j + l)
          ∙ ap (times_at (2 * j + l)) place_taken in
          omega arith)

      was_there : (j l n : ℕ) (x : Waiter) → slice_get (u.lot.queues (2 * j + l)) n ≡ Some x → (m : ℕ)
          × (slice_get (s.lot.queues (2 * j + l)) m ≡ Some x)
      was_there j l n x is =
          let q = remove (s.lot.queues (key_of c k)) nth in
          by_eqb (2 * j + l) (key_of c k) ((m : ℕ) × (slice_get (s.lot.queues (2 * j + l)) m ≡ Some x))
          (λ e.
          let r = get_remove (s.lot.queues (key_of c k)) nth n x
          (sym (ap (λ (qs : List Waiter). slice_get qs n) (updated_at s.lot.queues (key_of c k) q))
          ∙ (ap (λ (key : ℕ). slice_get (u.lot.queues key) n) (sym e) ∙ is)) in
          (r.0, ap (λ (key : ℕ). slice_get (s.lot.queues key) r.0) e ∙ r.1))
          (λ e. (
            n,
            sym (ap (λ (qs : List Waiter). slice_get qs n)
                (updated_other s.lot.queues (key_of c k) q (2 * j + l) e)) ∙ is,
          ))

      took_waits : (j l n : ℕ) (x : Waiter) → l < 2 → slice_get (u.lot.queues (2 * j + l)) n ≡ Some x → (d : Call)
          × (call_at u x.thread ≡ Some d) × (d.lock ≡ j) × (d.spot ≡ QueuePosition.Listed)
          × Awaits l x.token (stance d.core)
      took_waits j l n x low is =
          let m = was_there j l n x is in
          let old = h.waits j l m.0 x low m.1 in
          let not_t : (x.thread == t) ≡ false =
          ne_eqb x.thread t
          (λ e. subst (Awaits l x.token)
          (ap (λ (y : Call). stance y.core) (same_call (sym old.1 ∙ (ap (call_at s) e ∙ here))) ∙ from) old.4) in
          (old.0, call_other x.thread not_t (gone j l n x is) ∙ old.1, old.2, old.3, old.4)

      took_owed : (x : ℕ) (d : Call) (j : ℕ) (token : ParkToken) (by : ℕ) (said : WakeResult) → call_at u x ≡ Some d
          → stance d.core ≡ Asleep j token → d.spot ≡ QueuePosition.Off by said → IsOwed u.wakes by x
      took_owed x d j token by said is asleep off' = by_eqb x t (IsOwed u.wakes by x)
          (λ e. absurd (up_how how (stance takes.core) to
          (ap (λ (y : Call). stance y.core) (same_call (sym call_mine ∙ (ap (call_at u) (sym e) ∙ is))) ∙ asleep)))
          (λ e. by_eqb x v (IsOwed u.wakes by x)
          (λ f. (
            length s.wakes,
            entry,
            slice_get-seam s.wakes entry [],
            same_by (ap (λ (y : Call). y.spot) (same_call (sym call_taken ∙ (ap (call_at u) (sym f) ∙ is))) ∙ off'),
            sym f,
          ))
          (λ f. let old = h.owed x d j token by said (sym (call_other x e f) ∙ is) asleep off' in
          (old.0, old.1, get_front s.wakes (entry ∷ []) old.0 old.1 old.2, old.3, old.4)))
        where
          same_by : QueuePosition.Off t WakeResult.Nothing ≡ QueuePosition.Off by said → t ≡ by
          same_by e = cc

          up_how : (how : Doing) (a : Stance) → a ≡ In k how → a ≡ Asleep j token → ⊥
          up_how how a e f = go (sym e ∙ f)
            where
              go : In k how ≡ Asleep j token → ⊥
              go g = cc

      took_outside : TakersAreOut u u.lot
      took_outside x j d token by said y key sleep is asleep off' place = by_eqb x t (s.lot.inside by ≡ None)
          (λ e. absurd (in_asleep (sym to
          ∙ (ap (λ (y : Call). stance y.core) (same_call (sym call_mine ∙ (ap (call_at u) (sym e) ∙ is))) ∙ asleep))))
          (λ e. by_eqb x v (s.lot.inside by ≡ None)
          (λ f. absurd (held_taken (sym place_taken ∙ (ap (place_at u.lot.places) (sym f) ∙ place))))
          (λ f. h.outside x j d token by said y key sleep (sym (call_other x e f) ∙ is) asleep off'
          (sym (place_other x f) ∙ place)))

      took_woken : (n : ℕ) (e : Wakeup) → slice_get u.wakes n ≡ Some e → IsTaken u e
      took_woken n e is = go (get_push s.wakes entry n e is)
        where
          go : (slice_get s.wakes n ≡ Some e) ⊎ ((e ≡ entry) × (n ≡ length s.wakes)) → IsTaken u e
          go (inr x) = subst (IsTaken u) (sym x.0) (record {
            taker = takes;
            there = call_mine;
            call = off;
            here = call_taken;
            lock = z.lock;
            said = WakeResult.Nothing;
            spot = refl;
            key = k;
            token = w.token;
            asleep = z.asleep;
            mark = ap (λ (p : Option Place). option_map_or mark_of p 0) place_taken
                ∙ sym (ap (λ (p : Option Place). option_map_or mark_of p 0) z.place);
          })
          go (inl x) =
              let old = h.woken n e x in
              let taker = lock_kept e.by old.taker old.there in
              let f = not_taken e.thread e.by old.said old.call old.here old.spot in
              record {
                taker = taker.0;
                there = taker.1;
                call = old.call;
                here = call_other e.thread (not_mine e.thread old.key old.token old.call old.here old.asleep) f
                    ∙ old.here;
                lock = old.lock ∙ sym taker.2;
                said = old.said;
                spot = old.spot;
                key = old.key;
                token = old.token;
                asleep = old.asleep;
                mark = ap (λ (p : Option Place). option_map_or mark_of p 0) (place_other e.thread f) ∙ old.mark;
              }

      -- nobody has taken it before
      not_yet : (n : ℕ) (e : Wakeup) → slice_get s.wakes n ≡ Some e → e.thread ≡ v → ⊥
      not_yet n e is same = let old = h.woken n e is in
          eqb-false e.thread v (not_taken e.thread e.by old.said old.call old.here old.spot) same

      took_once : (n m : ℕ) (e f : Wakeup) → slice_get u.wakes n ≡ Some e → slice_get u.wakes m ≡ Some f
          → e.thread ≡ f.thread → n ≡ m
      took_once n m e f is is' same = go (get_push s.wakes entry n e is) (get_push s.wakes entry m f is')
        where
          go : (slice_get s.wakes n ≡ Some e) ⊎ ((e ≡ entry) × (n ≡ length s.wakes)) → (slice_get s.wakes m ≡ Some f)
              ⊎ ((f ≡ entry) × (m ≡ length s.wakes)) → n ≡ m
          go (inl x) (inl y) = h.once n m e f x y same
          go (inl x) (inr y) = absurd (not_yet n e x (same ∙ ap (λ (g : Wakeup). g.thread) y.0))
          go (inr x) (inl y) = absurd (not_yet m f y (sym same ∙ ap (λ (g : Wakeup). g.thread) x.0))
          go (inr x) (inr y) = x.1 ∙ sym y.1

      took_more : (x : ℕ) → length (taken_by u.wakes x) ≡ length (taken_by s.wakes x) + flag (t == x)
      took_more x = taken_by-count u.wakes x
          ∙ (count_by-push (is_by x) s.wakes entry ∙ ap (λ (n : ℕ). n + flag (t == x)) (sym (taken_by-count s.wakes x)))

      -- it counts one more
      took_mine : IsCounted (length u.calls) (length (taken_by u.wakes t)) takes.core
      took_mine =
          let one : flag (t == t) ≡ 1 = ap flag (eq-eqb t t refl) in
          let before : length (taken_by s.wakes t) ≡ taken_count c.core =
          (h.counted t c here).all (subst IsInside (sym from) tt) in
          let now : length (taken_by u.wakes t) ≡ taken_count takes.core =
          omega (arith, took_more t, one, before, counts)
          in
          let all : length u.wakes ≤ length u.calls = wakes_few (length u.calls) u.wakes
          (λ i e at. let x = took_woken i e at in call_within u e.thread x.call x.here) took_once in
          let some : count_by (is_by t) u.wakes ≤ length u.wakes = count_by-le-length (is_by t) u.wakes in
          record {
            most = omega (arith, now);
            few = omega (arith, now, all, some, taken_by-count u.wakes t);
            all = λ i. now;
          }

      took_same : (x : ℕ) → (x == t) ≡ false → length (taken_by u.wakes x) ≡ length (taken_by s.wakes x)
      took_same x e = let none : flag (t == x) ≡ 0 = ap flag (eqb_false_symm x t e) in omega (arith, took_more x, none)

      took_tally : (x : ℕ) → Tallied (length u.calls) (length (taken_by u.wakes x)) (call_at u x)
      took_tally x = by_eqb x t (Tallied (length u.calls) (length (taken_by u.wakes x)) (call_at u x))
          (λ e. subst (λ (y : ℕ). Tallied (length u.calls) (length (taken_by u.wakes y)) (call_at u y)) (sym e)
          (subst (Tallied (length u.calls) (length (taken_by u.wakes t))) (sym call_mine) took_mine))
          (λ e. subst (λ (n : ℕ). Tallied n (length (taken_by u.wakes x)) (call_at u x)) (sym took_length)
          (subst (λ (n : ℕ). Tallied (length s.calls) n (call_at u x)) (sym (took_same x e))
          (by_eqb x v (Tallied (length s.calls) (length (taken_by s.wakes x)) (call_at u x))
          (λ f. subst (λ (y : ℕ). Tallied (length s.calls) (length (taken_by s.wakes y)) (call_at u y)) (sym f)
          (subst (Tallied (length s.calls) (length (taken_by s.wakes v))) (sym call_taken)
          (h.counted v z.call z.there)))
          (λ f. subst (Tallied (length s.calls) (length (taken_by s.wakes x))) (sym (call_other x e f))
          (tallied s h x)))))

      took_wakeful : (x : ℕ) (d : Call) → call_at u x ≡ Some d → WakesSome d.core
      took_wakeful x d is = by_eqb x t (WakesSome d.core)
          (λ e. subst (λ (y : Call). WakesSome y.core) (same_call (sym call_mine ∙ (ap (call_at u) (sym e) ∙ is)))
          (wakes_some c.core (seen.Took (Some w.token) (is_left (remove (s.lot.queues (key_of c k)) nth)))))
          (λ e. by_eqb x v (WakesSome d.core)
          (λ f. subst (λ (y : Call). WakesSome y.core) (same_call (sym call_taken ∙ (ap (call_at u) (sym f) ∙ is)))
          (h.wakeful v z.call z.there))
          (λ f. h.wakeful x d (sym (call_other x e f) ∙ is)))

      took_as : LotFits u
      took_as =
          let seat = seat_of s h t c (In k Takes) here from in
          let o : Section = seat.0 in
          let o' : Section = record o { phase = phase.Taking nth } in
          let its : (x : Section) → Some o ≡ Some x → x.thread ≡ Some t =
          λ x e. ap (λ (y : Section). y.thread) (sym (same_section e)) ∙ seat.2 in
          let its' : (x : Section) → Some o' ≡ Some x → x.thread ≡ Some t =
          λ x e. ap (λ (y : Section). y.thread) (sym (same_section e)) ∙ seat.2 in
          record {
            sound = sound;
            seated = took_seated;
            opened = λ b section sec.
                let x = open_which s t h (key_of c k) (Some o) (Some o') seat.1 its (call_within s t c here) its' b
                section (sym (ap (λ (m : Machine). m.sections b) (took_lot_as o seat.1)) ∙ sec) in
                (x.0, x.1, subst (λ (n : ℕ). x.0 < n) (sym took_length) x.2);
            waits = took_waits;
            owed = took_owed;
            outside = took_outside;
            woken = took_woken;
            once = took_once;
            counted = λ x d there. subst (Tallied (length u.calls) (length (taken_by u.wakes x))) there (took_tally x);
            untaken = λ x there. no_length (taken_by u.wakes x)
                (subst (Tallied (length u.calls) (length (taken_by u.wakes x))) there (took_tally x));
            wakeful = took_wakeful;
          }

  pub took_fits : (stance takes.core ≡ In k Takes) ⊎ (stance takes.core ≡ In k Stores)
      → taken_count takes.core ≡ taken_count c.core + 1 → Sound u.lot → LotFits u
  took_fits (inl to) counts sound =
      took_as Takes to counts sound
      (λ o secs at' whose key runs in_it. (record o { phase = phase.Taking nth }, at', whose, key, refl, runs, in_it))
  took_fits (inr to) counts sound =
      took_as Stores to counts sound
      (λ o secs at' whose key runs in_it. (record o { phase = phase.Taking nth }, at', whose, key, refl, runs, in_it))
