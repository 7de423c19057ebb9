-- Calls under a bucket's lock are moves of a sound lot.
use Rattle.std.proofs.Common.{◌≡◌, ◌∙◌, ◌∷◌, ◌++◌, ◌+◌, ◌==◌, [], List, refl, sym, ap, subst, Bool, true, false}
use Rattle.std.proofs.Common.{cond, not}
use Rattle.std.proofs.Common.{ℕ, suc, Option, Some, None, arith, eqb-true, eq-eqb, take, drop, length, remove, Result}
use Rattle.std.proofs.Common.{Ok, slice_set}
use Rattle.std.specs.List.{position_or_len}
use Rattle.std.proofs.lemmas.Bool.{false≢true}
use Rattle.std.proofs.lemmas.List.{append-nil}
use Rattle.parking_lot_core_model.specs.declared.fault.LotFault.{LotFault}
use Rattle.parking_lot_core_model.specs.declared.fault.LotFault.TheVariants.{WrongStatus}
use Rattle.parking_lot_core_model.specs.declared.parking.FilterOp.{FilterOp}
use Rattle.parking_lot_core_model.specs.declared.parking.ParkResult.{ParkResult}
use Rattle.parking_lot_core_model.specs.declared.parking.ParkResult.TheVariants.{Invalid, TimedOut, Unparked}
use Rattle.parking_lot_core_model.specs.declared.parking.ParkToken.{ParkToken}
use Rattle.parking_lot_core_model.specs.declared.parking.UnparkResult.{UnparkResult}
use Rattle.parking_lot_core_model.specs.declared.parking.UnparkToken.{UnparkToken}
use Rattle.parking_lot_core_model.specs.declared.place.Place.{Place}
use Rattle.parking_lot_core_model.specs.declared.place.Place.TheVariants.{Running, Waiting}
use Rattle.parking_lot_core_model.specs.declared.place.Sleep.{Sleep}
use Rattle.parking_lot_core_model.specs.declared.place.Waiter.{Waiter}
use Rattle.parking_lot_core_model.specs.Lists.{updated, without_first}
use Rattle.parking_lot_core_model.specs.Machine.{Machine, Unless, Does, busy, enter_fault, resume_fault}
use Rattle.parking_lot_core_model.specs.Machine.{resume_fault_at}
use Rattle.parking_lot_core_model.specs.Machine.{is_thread, joined, unparked, given_up, tokens_of, runs, is_in}
use Rattle.parking_lot_core_model.specs.Machine.{token_of}
use Rattle.parking_lot_core_model.specs.Operations.{Parks, Resumes, ResumesFrom, UnparksOne, UnparksAll}
use Rattle.parking_lot_core_model.specs.Operations.{UnparksByFilter}
use Rattle.parking_lot_core_model.specs.Places.{place_at, status_of}
use Rattle.parking_lot_core_model.specs.declared.place.ThreadStatus.TheVariants.{InSection}
use Rattle.std.specs.Option.{option_map}
use Rattle.parking_lot_core_model.specs.Results.{Answers, is_stop, is_left, unpark_result, fairly, chosen_by, passed_by}
use Rattle.parking_lot_core.specs.declared.chain.Waiting as chain
use Rattle.parking_lot_core.specs.declared.chain.Wanted.TheVariants.{Key, Thread}
use Rattle.parking_lot_core.specs.Waits.{queue, any, fits, onto, without, found, every, others, picked}
use Rattle.parking_lot_core.specs.Waits.{kept}
use Rattle.parking_lot_core.specs.Waits.{Apart}
use Rattle.parking_lot_core.specs.Shared.{IsQuiet, HasLists, Spares, OnSomeLot, WasHeld, WasTold, Counts}
use Rattle.parking_lot_core.proofs.Queues.{by_test, queue_append, queue_here, queue_there, first_taken, first_left}
use Rattle.parking_lot_core.proofs.Queues.{first_else}
use Rattle.parking_lot_core.proofs.Queues.{all_taken_of, none_left, all_else, filter_taken, filter_left, filter_else}
use Rattle.parking_lot_core.proofs.Queues.{any_waits, count_of, count_onto}
use Rattle.parking_lot_core.proofs.Lots.{standing, bound, lot_of, lot_quiet, runs_there, seat_at, told_lot}
use Rattle.parking_lot_core.proofs.Lots.{told_quiet, told_there}

-- what the lock that is given back is known to have guarded
abbrev pub Held : List chain.Waiting → List chain.Waiting → Type 0
Held xs left = (old new : Machine) → HasLists old xs → HasLists new left → WasHeld old new

-- lists of which that of a key has changed
pub lists_updated : (xs left : List chain.Waiting) (key : ℕ) (rest : List Waiter) → queue left key ≡ rest
    → ((k : ℕ) → (k == key) ≡ false → queue left k ≡ queue xs k) → (k : ℕ)
    → updated (queue xs) key rest k ≡ queue left k
lists_updated xs left key rest here there k =
    by_test (k == key) (updated (queue xs) key rest k ≡ queue left k)
    (λ e. ap (λ b. cond b rest (queue xs k)) e
    ∙ (sym here ∙ ap (queue left) (sym (eqb-true k key e))))
    (λ e. ap (λ b. cond b rest (queue xs k)) e ∙ sym (there k e))

-- what is answered
pub result_is : (result : UnparkResult) (u r n m : ℕ) (h fair : Bool) (rest : List Waiter)
    → result ≡ record { unparked_threads = u; requeued_threads = r; have_more_threads = h; be_fair = fair }
    → u ≡ n → r ≡ m
    → h ≡ is_left rest → result ≡ fairly fair (unpark_result n m rest)
result_is result u r n m h fair rest is a b c =
    is ∙ (ap (λ (x : ℕ). record { unparked_threads = x; requeued_threads = r; have_more_threads = h; be_fair = fair }) a
    ∙ (ap (λ (x : ℕ). record { unparked_threads = n; requeued_threads = x; have_more_threads = h; be_fair = fair }) b
    ∙ ap (λ (x : Bool). record {
      unparked_threads = n;
      requeued_threads = m;
      have_more_threads = x;
      be_fair =
          fair;
    }) c))

-- AN UNPARK

module _ (xs left : List chain.Waiting) (apart : Apart xs) (held : Held xs left) (key : ℕ) (ws rest : List Waiter)
    (at : queue left key ≡ rest) (else : (k : ℕ) → (k == key) ≡ false → queue left k ≡ queue xs k) where
  abbrev pub before : Machine
  before = lot_of (λ t. false) 0 xs

  abbrev pub after : UnparkToken → Machine
  after token = unparked before key ws rest token

  pub unpark_spares : (token : UnparkToken) → Spares (λ k. k == key) before (after token)
  unpark_spares token k e = ap (λ b. cond b rest (queue xs k)) e

  pub unpark_held : (token : UnparkToken) → WasHeld before (after token)
  unpark_held token = held before (after token) (λ k. refl) (lists_updated xs left key rest at else)

  pub unpark_quiet : IsQuiet before
  unpark_quiet = lot_quiet (λ t. false) 0 xs apart

module _ (xs left : List chain.Waiting) (apart : Apart xs) (held : Held xs left) (key : ℕ) where
  pub one_is_unparked : (gives : UnparkResult → UnparkToken → Type 0) (fair : Bool) (taken : List chain.Waiting)
      (result : UnparkResult) (token : UnparkToken) → left ≡ without (fits (Key key)) xs
      → taken ≡ found (fits (Key key)) xs ++ []
      → result ≡ record {
        unparked_threads = length taken;
        requeued_threads = 0;
        have_more_threads = any (fits (Key key)) left;
        be_fair = fair;
      } → gives result token
      → OnSomeLot (λ k. k == key) (Does (busy key) (UnparksOne fair gives key)) result
  one_is_unparked gives fair taken result token l t is given =
      let q = queue xs key in
      let at : queue left key ≡ drop 1 q = ap (λ ys. queue ys key) l ∙ first_left key xs in
      let else : (k : ℕ) → (k == key) ≡ false → queue left k ≡ queue xs k =
      λ k e. ap (λ ys. queue ys k) l ∙ first_else key k e xs in
      let count : length taken ≡ length (take 1 q) =
      ap length (t ∙ append-nil (found (fits (Key key)) xs)) ∙ (count_of (found (fits (Key key)) xs)
      ∙ ap length (first_taken key xs)) in
      let more : any (fits (Key key)) left ≡ is_left (drop 1 q) = any_waits key left ∙ ap is_left at in
      let answer = result_is result (length taken) 0 (length (take 1 q)) 0 (any (fits (Key key)) left) fair (drop 1
      q) is
      count refl more in (
        before xs left apart held key (take 1 q) (drop 1 q) at else,
        after xs left apart held key (take 1 q) (drop 1 q) at else token,
        unpark_quiet xs left apart held key (take 1 q) (drop 1 q) at else,
        (token, subst (λ r. gives r token) answer given, ap Ok answer, refl),
        unpark_spares xs left apart held key (take 1 q) (drop 1 q) at else token,
        unpark_held xs left apart held key (take 1 q) (drop 1 q) at else token,
      )

  pub all_are_unparked : (taken : List chain.Waiting) (result : UnparkResult) (token : UnparkToken)
      → left ≡ others (fits (Key key)) xs → taken ≡ onto (every (fits (Key key)) xs) []
      → result.unparked_threads ≡ length taken
      → OnSomeLot (λ k. k == key) (Does (busy key) (UnparksAll token key)) result.unparked_threads
  all_are_unparked taken result token l t is =
      let q = queue xs key in
      let at : queue left key ≡ [] = ap (λ ys. queue ys key) l ∙ none_left key xs in
      let else : (k : ℕ) → (k == key) ≡ false → queue left k ≡ queue xs k =
      λ k e. ap (λ ys. queue ys k) l ∙ all_else key k e xs in
      let count : length taken ≡ length q =
      (let a = ap length t in let b = count_onto (every (fits (Key key)) xs) [] in
      let c = count_of (every (fits (Key key)) xs) in let d = ap length (all_taken_of key xs) in omega arith) in (
        before xs left apart held key q [] at else,
        after xs left apart held key q [] at else token,
        unpark_quiet xs left apart held key q [] at else,
        (ap Ok (is ∙ count), refl),
        unpark_spares xs left apart held key q [] at else token,
        unpark_held xs left apart held key q [] at else token,
      )

  module _ {F : Type 0} (shows : F → ParkToken → FilterOp → F → Type 0) (filter : F) (fair : Bool)
      (taken : List chain.Waiting) (result : UnparkResult)
      (is : result ≡ record {
        unparked_threads = length taken;
        requeued_threads = 0;
        have_more_threads = any (fits (Key key)) left;
        be_fair = fair;
      }) where
    -- what a filter did with the list
    abbrev pub Sifts : Type 0
    Sifts = (answers : List FilterOp) × (last : F)
        × Answers shows is_stop filter (tokens_of (queue xs key)) answers last
        × (left ≡ kept key answers xs) × (taken ≡ onto (picked key answers xs) [])

    module _ (sifts : Sifts) where
      sifted_left : queue left key ≡ passed_by sifts.0 (queue xs key)
      sifted_left = ap (λ ys. queue ys key) sifts.3 ∙ filter_left key sifts.0 xs

      sifted_answer : result ≡ fairly fair (unpark_result (length (chosen_by sifts.0 (queue xs key))) 0
          (passed_by sifts.0 (queue xs key)))
      sifted_answer =
          let q = queue xs key in
          let answers = sifts.0 in
          let count : length taken ≡ length (chosen_by answers q) =
          (let a = ap length sifts.4 in let b = count_onto (picked key answers xs) [] in
          let c = count_of (picked key answers xs) in let d = ap length (filter_taken key answers xs) in omega arith) in
          result_is result (length taken) 0 (length (chosen_by answers q)) 0 (any (fits (Key key)) left) fair
          (passed_by answers q) is count refl (any_waits key left ∙ ap is_left sifted_left)

      pub some_are_unparked : (gives : UnparkResult → UnparkToken → Type 0) (token : UnparkToken) → gives result token
          → OnSomeLot (λ k. k == key) (Does (busy key) (UnparksByFilter fair shows filter gives key)) result
      some_are_unparked gives token given =
          let q = queue xs key in
          let answers = sifts.0 in
          let at = sifted_left in
          let else : (k : ℕ) → (k == key) ≡ false → queue left k ≡ queue xs k =
          λ k e. ap (λ ys. queue ys k) sifts.3 ∙ filter_else key k e answers xs in (
            before xs left apart held key (chosen_by answers q) (passed_by answers q) at else,
            after xs left apart held key (chosen_by answers q) (passed_by answers q) at else token,
            unpark_quiet xs left apart held key (chosen_by answers q) (passed_by answers q) at else,
            (
              answers,
              sifts.1,
              token,
              sifts.2,
              (subst (λ r. gives r token) sifted_answer given, ap Ok sifted_answer, refl),
            ),
            unpark_spares xs left apart held key (chosen_by answers q) (passed_by answers q) at else token,
            unpark_held xs left apart held key (chosen_by answers q) (passed_by answers q) at else token,
          )

      pub some_are_counted : Counts shows filter result
      some_are_counted =
          let answers = sifts.0 in (
            queue xs key,
            answers,
            sifts.1,
            sifts.2,
            ap (λ (r : UnparkResult). r.unparked_threads) sifted_answer,
            ap (λ (r : UnparkResult). r.have_more_threads) sifted_answer,
          )

-- A PARK

module _ (xs left : List chain.Waiting) (apart : Apart xs) (held : Held xs left) (w : chain.Waiting)
    (absent : any (fits (Thread w.waiter.thread)) xs ≡ false) (validates : Bool → Type 0) where
  abbrev parking : Machine
  parking = lot_of (λ t. false) (w.waiter.thread + 1) xs

  runs_here : place_at parking.places w.waiter.thread ≡ Some Running
  runs_here = seat_at (standing (λ t. false) xs) (bound xs + (w.waiter.thread + 1)) w.waiter.thread (omega arith)
      ∙ ap Some (runs_there (λ t. false) xs w.waiter.thread absent)

  may_enter : enter_fault parking w.waiter.thread w.key ≡ None
  may_enter = ap (λ (o : Option Place). cond (runs
      (option_map (λ (place : Place). cond (is_in parking w.waiter.thread) InSection (status_of (token_of parking)
      place))
      o)) (busy w.key parking) (Some WrongStatus)) runs_here

  abbrev Park : Result (Option ParkResult) LotFault → Machine → Type 0
  Park result new = Parks validates w.waiter.thread w.key w.waiter.token w.timed parking result new

  pub none_parks : validates false → left ≡ xs
      → OnSomeLot (λ k. k == w.key) (Does (λ m. enter_fault m w.waiter.thread w.key)
      (Parks validates w.waiter.thread w.key w.waiter.token w.timed)) (Some Invalid)
  none_parks valid l = (
    parking,
    parking,
    lot_quiet (λ t. false) (w.waiter.thread + 1) xs apart,
    subst (λ o. Unless o (Ok (Some Invalid)) parking parking (Park (Ok (Some Invalid)) parking)) (sym may_enter)
        (false, valid, refl, refl),
    (λ k e. refl),
    held parking parking (λ k. refl) (λ k. ap (λ ys. queue ys k) (sym l)),
  )

  pub one_parks : validates true → left ≡ xs ++ w ∷ []
      → OnSomeLot (λ k. k == w.key) (Does (λ m. enter_fault m w.waiter.thread w.key)
      (Parks validates w.waiter.thread w.key w.waiter.token w.timed)) None
  one_parks valid l =
      let new = joined parking w.waiter.thread w.key w.waiter.token w.timed in
      let rest = queue xs w.key ++ w.waiter ∷ [] in
      let at : queue left w.key ≡ rest =
      ap (λ ys. queue ys w.key) l ∙ (queue_append xs (w ∷ []) w.key
      ∙ ap (λ ws. queue xs w.key ++ ws) (queue_here w [] w.key (eq-eqb w.key w.key refl))) in
      let else : (k : ℕ) → (k == w.key) ≡ false → queue left k ≡ queue xs k =
      λ k e. ap (λ ys. queue ys k) l ∙ (queue_append xs (w ∷ []) k
      ∙ (ap (λ ws. queue xs k ++ ws) (queue_there w [] k (other w.key k e)) ∙ append-nil (queue xs k))) in (
        parking,
        new,
        lot_quiet (λ t. false) (w.waiter.thread + 1) xs apart,
        subst (λ o. Unless {T = Option ParkResult} o (Ok None) parking new (Park (Ok None) new)) (sym may_enter)
            (true, valid, refl, refl),
        (λ k e. ap (λ b. cond b rest (queue xs k)) e),
        held parking new (λ k. refl) (lists_updated xs left w.key rest at else),
      )
    where
      other : (key k : ℕ) → (k == key) ≡ false → (key == k) ≡ false
      other key k e = by_test (key == k) ((key == k) ≡ false)
          (λ h. absurd (false≢true (sym e ∙ eq-eqb k key (sym (eqb-true key k h))))) (λ h. h)

-- GOING ON

-- one that was told a token
pub one_goes_on : (tells : ℕ → Bool → Type 0) (thread : ℕ) (token : UnparkToken)
    → ((old new : Machine) → WasTold token old new → WasHeld old new)
    → OnSomeLot (λ k. k == 0) (Does (λ m. resume_fault m thread) (Resumes tells thread)) (Unparked token)
one_goes_on tells thread token held =
    let old = told_lot thread token in
    let sleep : Sleep = record { mark = 0; timed = false; late = false } in
    let there = told_there thread token in
    let new = record old { places = slice_set old.places thread (Some Running) } in (
      old,
      new,
      told_quiet thread token,
      subst (λ (o : Option Place). Unless (resume_fault_at (λ key. busy key old) o) (Ok (Unparked token)) old new
          (ResumesFrom o tells old thread (Ok (Unparked token)) new)) (sym there) (refl, refl),
      (λ k e. refl),
      held old new (thread, 0, sleep, there, refl),
    )

-- one that takes itself out of its list
module _ (t : ℕ) where
  -- the first of a list, by cases
  drops : (x : Waiter) (ws : List Waiter) → (x.thread == t) ≡ true → without_first (is_thread t) (x ∷ ws) ≡ ws
  drops x ws e = ap (λ b. remove (x ∷ ws) (cond (not b) (1 + position_or_len (is_thread t) ws) 0)) e

  keeps : (x : Waiter) (ws : List Waiter) → (x.thread == t) ≡ false
      → without_first (is_thread t) (x ∷ ws) ≡ x ∷ without_first (is_thread t) ws
  keeps x ws e =
      let n = position_or_len (is_thread t) ws in
      let more : 1 + n ≡ suc n = omega arith in
      ap (λ b. remove (x ∷ ws) (cond (not b) (1 + n) 0)) e ∙ ap (remove (x ∷ ws)) more

  -- it stands there, and is found
  pub sits : (late : ℕ → Bool) (xs : List chain.Waiting) → any (fits (Thread t)) xs ≡ true
      → (w : chain.Waiting) × (found (fits (Thread t)) xs ≡ w ∷ [])
      × (standing late xs t ≡ Waiting w.key (record { mark = 0; timed = w.timed; late = late t }))
      × (queue (without (fits (Thread t)) xs) w.key ≡ without_first (is_thread t) (queue xs w.key))
      × ((k : ℕ) → (k == w.key) ≡ false → queue (without (fits (Thread t)) xs) k ≡ queue xs k)
  sits late [] e = absurd (false≢true e)
  sits late (x ∷ xs) e =
      let goes : Type 0 = (w : chain.Waiting) × (found (fits (Thread t)) (x ∷ xs) ≡ w ∷ [])
      × (standing late (x ∷ xs) t ≡ Waiting w.key (record { mark = 0; timed = w.timed; late = late t }))
      × (queue (without (fits (Thread t)) (x ∷ xs)) w.key ≡ without_first (is_thread t) (queue (x ∷ xs) w.key))
      × ((k : ℕ) → (k == w.key) ≡ false → queue (without (fits (Thread t)) (x ∷ xs)) k ≡ queue (x ∷ xs) k) in
      let go = sits late xs in
      let sleep : Sleep = record { mark = 0; timed = x.timed; late = late t } in
      let gone = without (fits (Thread t)) xs in
      by_test (x.waiter.thread == t) goes
      (λ h. (
        x,
        ap (λ b. cond b (x ∷ []) (found (fits (Thread t)) xs)) h,
        ap (λ b. cond b (Waiting x.key sleep) (standing late xs t)) h,
        ap (λ b. queue (cond b xs (x ∷ gone)) x.key) h
            ∙ sym (ap (without_first (is_thread t)) (queue_here x xs x.key (eq-eqb x.key x.key refl))
            ∙ drops x.waiter (queue xs x.key) h),
        (λ k o. ap (λ b. queue (cond b xs (x ∷ gone)) k) h ∙ sym (queue_there x xs k (turned x.key k o))),
      ))
      (λ h.
      let r = go (sym (ap (λ b. cond b true (any (fits (Thread t)) xs)) h) ∙ e) in
      let w = r.0 in (
        w,
        ap (λ b. cond b (x ∷ []) (found (fits (Thread t)) xs)) h ∙ r.1,
        ap (λ b. cond b (Waiting x.key sleep) (standing late xs t)) h ∙ r.2,
        ap (λ b. queue (cond b xs (x ∷ gone)) w.key) h ∙ (at (x.key == w.key) w.key h r.3),
        (λ k o. ap (λ b. queue (cond b xs (x ∷ gone)) k) h ∙ ap (λ ws. cond (x.key == k) (x.waiter ∷ ws) ws) (r.4 k o)),
      ))
    where
      turned : (key k : ℕ) → (k == key) ≡ false → (key == k) ≡ false
      turned key k e = by_test (key == k) ((key == k) ≡ false)
          (λ h. absurd (false≢true (sym e ∙ eq-eqb k key (sym (eqb-true key k h))))) (λ h. h)

      at : (b : Bool) (key : ℕ) → (x.waiter.thread == t) ≡ false
          → queue (without (fits (Thread t)) xs) key ≡ without_first (is_thread t) (queue xs key)
          → cond b (x.waiter ∷ queue (without (fits (Thread t)) xs) key) (queue (without (fits (Thread t)) xs) key)
          ≡ without_first (is_thread t) (cond b (x.waiter ∷ queue xs key) (queue xs key))
      at true key h i = ap (λ ws. x.waiter ∷ ws) i ∙ sym (keeps x.waiter (queue xs key) h)
      at false key h i = i

  module _ (xs left : List chain.Waiting) (apart : Apart xs) (held : Held xs left)
      (there : any (fits (Thread t)) xs ≡ true) (l : left ≡ without (fits (Thread t)) xs) where
    abbrev pub seat : (w : chain.Waiting) × (found (fits (Thread t)) xs ≡ w ∷ [])
        × (standing (λ u. true) xs t ≡ Waiting w.key (record { mark = 0; timed = w.timed; late = true }))
        × (queue (without (fits (Thread t)) xs) w.key ≡ without_first (is_thread t) (queue xs w.key))
        × ((k : ℕ) → (k == w.key) ≡ false → queue (without (fits (Thread t)) xs) k ≡ queue xs k)
    seat = sits (λ u. true) xs there

    abbrev sleeping : Machine
    sleeping = lot_of (λ u. true) (t + 1) xs

    pub one_gives_up : (tells : ℕ → Bool → Type 0)
        → tells seat.0.key (not (any (fits (Key seat.0.key)) left))
        → OnSomeLot (λ k. k == seat.0.key) (Does (λ m. resume_fault m t) (Resumes tells t)) TimedOut
    one_gives_up tells told =
        let w = seat.0 in
        let old = sleeping in
        let new = given_up old t w.key in
        let rest = without_first (is_thread t) (queue xs w.key) in
        let sleep : Sleep = record { mark = 0; timed = w.timed; late = true } in
        let place : place_at old.places t ≡ Some (Waiting w.key sleep) =
        seat_at (standing (λ u. true) xs) (bound xs + (t + 1)) t (omega arith) ∙ ap Some seat.2 in
        let at : queue left w.key ≡ rest = ap (λ ys. queue ys w.key) l ∙ seat.3 in
        let else : (k : ℕ) → (k == w.key) ≡ false → queue left k ≡ queue xs k =
        λ k e. ap (λ ys. queue ys k) l ∙ seat.4 k e in
        let same = lists_updated xs left w.key rest at else in
        let last : not (any (fits (Key w.key)) left) ≡ not (is_left (new.queues w.key)) =
        ap not (any_waits w.key left ∙ ap is_left (sym (same w.key))) in (
          old,
          new,
          lot_quiet (λ u. true) (t + 1) xs apart,
          subst (λ (o : Option Place). Unless (resume_fault_at (λ key. busy key old) o) (Ok TimedOut) old new
              (ResumesFrom o tells old t (Ok TimedOut) new)) (sym place)
              (refl, refl, subst (λ b. tells w.key b) last told),
          (λ k e. ap (λ b. cond b rest (queue xs k)) e),
          held old new (λ k. refl) same,
        )
