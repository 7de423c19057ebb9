-- A wait's steps of giving its mutex up and of locking it again leave a machine whole, and so does its deadline.
use Rattle.std.proofs.Common.{◌≡◌, ℕ, Bool, true, false, not, length, Option, Some, None, refl, sym, ap, ◌∙◌}
use Rattle.std.proofs.Common.{subst}
use Rattle.std.specs.Option.{option_and_then, option_map_or}
use Rattle.std.proofs.lemmas.List.{length-set}
use Rattle.parking_lot_protocol.specs.declared.act.CoreAnswer.{CoreAnswer}
use Rattle.parking_lot_protocol_waits.specs.declared.wait_act.WaitSeen.TheVariants as wait_seen
use Rattle.parking_lot_protocol_waits.specs.declared.notify_core.NotifyPhase.{NotifyPhase}
use Rattle.parking_lot_protocol_waits.specs.declared.notify_core.NotifyPhase.TheVariants as n
use Rattle.parking_lot_protocol_waits.specs.declared.wait_core.WaitPhase.{WaitPhase}
use Rattle.parking_lot_protocol_waits.specs.declared.wait_core.WaitPhase.TheVariants as w
use Rattle.parking_lot_protocol_waits.specs.WaitTable.{next_phase}
use Rattle.parking_lot_machine_sides.specs.declared.condvar.open_call.Core.{Core}
use Rattle.parking_lot_machine_sides.specs.declared.condvar.open_call.Core.TheVariants as core
use Rattle.parking_lot_machine_sides.specs.declared.condvar.open_call.OpenCall.{OpenCall}
use Rattle.parking_lot_machine_sides.specs.declared.condvar.outside.Outside.TheVariants as outside
use Rattle.parking_lot_machine_sides.specs.Condvar.Calls.{is_timed}
use Rattle.parking_lot_machine_sides.specs.Condvar.Machines.{State as Var, is_left}
use Rattle.parking_lot_machine_sides.specs.Condvar.Outsides.{hears_by, may_hear, notify_fits, wait_fits}
use Rattle.parking_lot_machine_calls.specs.declared.open_call.Call.{Call}
use Rattle.parking_lot_machine.specs.Machines as rows
use Rattle.parking_lot_machine.specs.Rows.{Rows, State, state}
use Rattle.parking_lot_machine_waits.specs.Joint.{Joint, back_number, buckets, call_at, call_enters, call_in}
use Rattle.parking_lot_machine_waits.specs.Joint.{front_number, keeps_out, number, row_goes, seat_at, var_at}
use Rattle.parking_lot_machine_waits.specs.Joint.{var_hears}
use Rattle.parking_lot_machine_waits.specs.JointLaws.{PartsFit}
use Rattle.parking_lot_machine_waits.specs.JointSteps.{HearsAt, HearsOf}
use Rattle.parking_lot_machine_waits.specs.Turns.{mutex_of}
use Rattle.parking_lot_machine_waits.specs.Whole.{Apart, AtMutex, Owns, Away, IsSo, IsWhole, Stands, Waits}
use Rattle.parking_lot_machine_waits.specs.Whole.{away_or_asks}
use Rattle.parking_lot_machine_waits.specs.Whole.{back_of, front_of, named}
use Rattle.parking_lot_machine_waits.proofs.Ending.{gave, got}
use Rattle.parking_lot_machine_waits.proofs.Hearing.{both_true}
use Rattle.parking_lot_machine_waits.proofs.Keeping.{HoldsWhole, RowsKept, Stays, is, low_at, rows_by, rows_same}
use Rattle.parking_lot_machine_waits.proofs.Keeping.{vars_same}
use Rattle.parking_lot_machine_waits.proofs.LocksKept.{kept_holds, kept_stays, one_section, over_holds, over_stays}
use Rattle.parking_lot_machine_waits.proofs.LocksKept.{same_shut}
use Rattle.parking_lot_machine_waits.proofs.MutexTurns.{back_differs, back_now, back_still, front_differs, front_now}
use Rattle.parking_lot_machine_waits.proofs.MutexTurns.{front_still, heard_whole, mutex_stays, stands_at, stood}
use Rattle.parking_lot_machine_waits.proofs.Places.{Goes, Kept, stepped_goes}
use Rattle.parking_lot_machine_waits.proofs.Seating.{stays_there}

-- A STEP AT THE MUTEX BY ONE OF ITS NUMBERS

module _ (i j : Joint) (t v : ℕ) (c : OpenCall) (p : WaitPhase) (h : IsWhole i) (fits : PartsFit i)
    (here : call_at i v t ≡ Some c) (core_is : c.core ≡ core.Wait (record { phase = p })) (seats : j.seats ≡ i.seats)
  where
    abbrev s : State
    s = state i.rows

    abbrev u : State
    u = state j.rows

    abbrev lock : ℕ
    lock = mutex_of c.call

    stands : Waits i t c p
    stands = stood i j t v c p h fits here core_is

    -- no section of a variable is open beside one of a lock then
    pub went_sections : (b : Bool) (enters : Option ℕ) (a : Option CoreAnswer) → not (keeps_out i enters) ≡ true
        → Goes a enters (number i t b) s u → Apart u i
    went_sections b enters None may x =
        one_section i enters s u x.closed may h.sections
    went_sections b enters (Some a) may x =
        subst (λ (y : State). Apart y i) (sym x.became) h.sections

    pub went_rows : (b : Bool) (enters : Option ℕ) (a : Option CoreAnswer) → Goes a enters (number i t b) s u
        → RowsKept i j (is t)
    went_rows b enters None x = rows_by i j t b x.calls.count x.kinds x.buckets (λ k ne. kept_stays s u x k)
    went_rows b enters (Some a) x =
        rows_by i j t b (ap (λ (y : State). length y.calls) x.became ∙ length-set s.calls (number i t b) None)
        (ap (λ (y : State). y.kinds) x.became) (ap (λ (y : State). y.lot.buckets) x.became)
        (over_stays s u (number i t b) a fits.rows x)

    pub went_holds : (b : Bool) (enters : Option ℕ) (a : Option CoreAnswer) → Goes a enters (number i t b) s u
        → HoldsWhole u
    went_holds b enters None x = kept_holds s u x.kinds x.holds h.holds
    went_holds b enters (Some a) x = over_holds s u (number i t b) a fits.rows x h.holds

    -- its call there goes on, and it stands as it stood
    pub goes_there : (enters : Option ℕ) → RowsKept i j (is t) → HoldsWhole u → Apart u i → Kept enters s u
        → j.vars ≡ i.vars → IsWhole j
    goes_there enters rows holds sections x vars =
        stays_there i j t v c h here seats rows holds (same_shut i j h vars rows.buckets sections) vars
        (subst (Stands j t c) (sym core_is) (record {
          names = stands.names;
          mutex = mutex_stays i j lock rows.kinds ((vars_same i j (is t) vars).plain lock) stands.mutex;
          front = front_still i j t seats (front_of p) lock (kept_stays s u x (front_number i t)) stands.front;
          back = back_still i j t seats (back_of c.listed p) lock (kept_stays s u x (back_number i t)) stands.back;
        }))

-- no section of a variable keeps it out of the bucket that is entered by that step
pub enters_beside : (i : Joint) (k : ℕ) (fair : Bool) (a : Option CoreAnswer) (u : State) → row_goes i k ≡ true
    → (x : rows.IsStepped k fair a (state i.rows) u) → not (keeps_out i (call_enters (buckets i) x.call)) ≡ true
enters_beside i k fair a u can x =
    ap (λ (o : Option Call). not (keeps_out i (option_and_then (call_enters (buckets i)) o))) (sym x.here)
    ∙ (both_true _ _ can).1

-- IT GIVES THE MUTEX UP

module _ (i j : Joint) (t v n : ℕ) (c : OpenCall) (fair : Bool) (h : IsWhole i) (fits : PartsFit i)
    (here : call_at i v t ≡ Some c) (core_is : c.core ≡ core.Wait (record { phase = w.Unlocks n }))
    (seats : j.seats ≡ i.seats) where
  gave_up : (enters : Option ℕ) (a : Option CoreAnswer) → not (keeps_out i enters) ≡ true
      → Goes a enters (front_number i t) (state i.rows) (state j.rows) → HearsOf a t v i j → IsWhole j
  gave_up enters None may x vars =
      goes_there i j t v c (w.Unlocks n) h fits here core_is seats enters
      (went_rows i j t v c (w.Unlocks n) h fits here core_is seats (not (seat_at i t).second) enters None x)
      (went_holds i j t v c (w.Unlocks n) h fits here core_is seats (not (seat_at i t).second) enters None x)
      (went_sections i j t v c (w.Unlocks n) h fits here core_is seats (not (seat_at i t).second) enters None may x)
      x vars
  gave_up enters (Some a) may x hears =
      let rows = went_rows i j t v c (w.Unlocks n) h fits here core_is seats (not (seat_at i t).second) enters (Some a)
      x in
      let stood = stood i j t v c (w.Unlocks n) h fits here core_is in
      heard_whole i j t v c (w.Unlocks n) h fits here core_is seats rows
      (went_holds i j t v c (w.Unlocks n) h fits here core_is seats (not (seat_at i t).second) enters (Some a) x)
      (went_sections i j t v c (w.Unlocks n) h fits here core_is seats (not (seat_at i t).second) enters (Some a) may x)
      outside.Made hears
      (λ plain. stands_at i j t v c (w.Unlocks n) h fits here core_is (w.Sleeps n) rows plain stood.names
      (front_now i j t seats Away (mutex_of c.call)
      (gave (state i.rows) (state j.rows) (front_number i t) a fits.rows x (mutex_of c.call) stood.front).1)
      (back_still i j t seats (away_or_asks c.listed) (mutex_of c.call)
      (over_stays (state i.rows) (state j.rows) (front_number i t) a fits.rows x (back_number i t)
      (back_differs i t (low_at i h v t c here))) stood.back))

  pub unlocks : (a : Option CoreAnswer) → row_goes i (front_number i t) ≡ true → rows.IsStepped (front_number i t) fair
      a (state i.rows) (state j.rows) → HearsOf a t v i j → IsWhole j
  unlocks a can x hears = gave_up (call_enters (buckets i) x.call) a
      (enters_beside i (front_number i t) fair a (state j.rows) can x)
      (stepped_goes (state i.rows) (state j.rows) (front_number i t) fair a fits.rows x) hears

-- IT LOCKS THE MUTEX AGAIN

-- how it stands at its end
abbrev end_phase : Bool → WaitPhase
end_phase timed_out = next_phase (w.Locks timed_out) wait_seen.Made

names_end : (timed_out : Bool) (n : ℕ) → named (end_phase timed_out) n ≡ n
names_end true n = refl
names_end false n = refl

front_ends : (timed_out : Bool) → front_of (end_phase timed_out) ≡ Away
front_ends true = refl
front_ends false = refl

back_ends : (timed_out listed : Bool) → back_of listed (end_phase timed_out) ≡ Owns
back_ends true listed = refl
back_ends false listed = refl

module _ (i j : Joint) (t v : ℕ) (timed_out : Bool) (c : OpenCall) (fair : Bool) (h : IsWhole i) (fits : PartsFit i)
    (here : call_at i v t ≡ Some c) (core_is : c.core ≡ core.Wait (record { phase = w.Locks timed_out }))
    (seats : j.seats ≡ i.seats) where
  locked : (enters : Option ℕ) (a : Option CoreAnswer) → not (keeps_out i enters) ≡ true
      → Goes a enters (back_number i t) (state i.rows) (state j.rows) → HearsOf a t v i j → IsWhole j
  locked enters None may x vars =
      goes_there i j t v c (w.Locks timed_out) h fits here core_is seats enters
      (went_rows i j t v c (w.Locks timed_out) h fits here core_is seats (seat_at i t).second enters None x)
      (went_holds i j t v c (w.Locks timed_out) h fits here core_is seats (seat_at i t).second enters None x)
      (went_sections i j t v c (w.Locks timed_out) h fits here core_is seats (seat_at i t).second enters None may x)
      x vars
  locked enters (Some a) may x hears =
      let rows = went_rows i j t v c (w.Locks timed_out) h fits here core_is seats (seat_at i t).second enters (Some a)
      x in
      let stood = stood i j t v c (w.Locks timed_out) h fits here core_is in
      let lock = mutex_of c.call in
      heard_whole i j t v c (w.Locks timed_out) h fits here core_is seats rows
      (went_holds i j t v c (w.Locks timed_out) h fits here core_is seats (seat_at i t).second enters (Some a) x)
      (went_sections i j t v c (w.Locks timed_out) h fits here core_is seats (seat_at i t).second enters (Some a) may x)
      outside.Made hears
      (λ plain. stands_at i j t v c (w.Locks timed_out) h fits here core_is (end_phase timed_out) rows plain
      (names_end timed_out lock)
      (subst (λ (at : AtMutex). IsSo at (state j.rows) (front_number j t) lock) (sym (front_ends timed_out))
      (front_still i j t seats Away lock
      (over_stays (state i.rows) (state j.rows) (back_number i t) a fits.rows x (front_number i t)
      (front_differs i t (low_at i h v t c here))) stood.front))
      (subst (λ (at : AtMutex). IsSo at (state j.rows) (back_number j t) lock) (sym (back_ends timed_out c.listed))
      (back_now i j t seats Owns lock
      (got (state i.rows) (state j.rows) (back_number i t) a fits.rows x lock stood.back).1)))

  pub locks : (a : Option CoreAnswer) → row_goes i (back_number i t) ≡ true → rows.IsStepped (back_number i t) fair a
      (state i.rows) (state j.rows) → HearsOf a t v i j → IsWhole j
  locks a can x hears = locked (call_enters (buckets i) x.call) a
      (enters_beside i (back_number i t) fair a (state j.rows) can x)
      (stepped_goes (state i.rows) (state j.rows) (back_number i t) fair a fits.rows x) hears

-- ITS DEADLINE COMES

-- who may be told of it sleeps
sleeps_as : (timed listed : Bool) (p : WaitPhase) → wait_fits timed listed p outside.Expired ≡ true → (n : ℕ)
    × (p ≡ w.Sleeps n)
sleeps_as timed listed (w.Sleeps n) e = (n, refl)
sleeps_as timed listed p e = absurd cc

not_of_notice : (taken : ℕ) (left : Bool) (p : NotifyPhase) → notify_fits taken left p outside.Expired ≡ true → ⊥
not_of_notice taken left (n.Marks all) e = absurd cc
not_of_notice taken left p e = absurd cc

expires_as : (c : OpenCall) (left : Bool) (k : Core) → c.core ≡ k → hears_by c left outside.Expired k ≡ true → (n : ℕ)
    × (c.core ≡ core.Wait (record { phase = w.Sleeps n }))
expires_as c left (core.Wait k) e may = let (n, p) = sleeps_as (is_timed c.call) c.listed k.phase may in
    (n, e ∙ ap (λ (q : WaitPhase). core.Wait (record { phase = q })) p)
expires_as c left (core.Notify k) e may = absurd (not_of_notice c.taken left k.phase may)

module _ (i j : Joint) (t v : ℕ) (c : OpenCall) (h : IsWhole i) (fits : PartsFit i) (here : call_at i v t ≡ Some c)
    (same_rows : j.rows ≡ i.rows) (seats : j.seats ≡ i.seats) where
  all_stay : (k : ℕ) → Stays (state i.rows) (state j.rows) k
  all_stay k = (rows_same i j (λ x. false) same_rows).others k (λ u second e. absurd cc)

  sleeper_expires : (n : ℕ) → c.core ≡ core.Wait (record { phase = w.Sleeps n }) → HearsAt t v outside.Expired i j
      → IsWhole j
  sleeper_expires n core_is hears =
      let rows = rows_same i j (is t) same_rows in
      let stood = stood i j t v c (w.Sleeps n) h fits here core_is in
      heard_whole i j t v c (w.Sleeps n) h fits here core_is seats rows
      (subst (λ (r : Rows). HoldsWhole (state r)) (sym same_rows) h.holds)
      (subst (λ (r : Rows). Apart (state r) i) (sym same_rows)
      h.sections) outside.Expired hears
      (λ plain. stands_at i j t v c (w.Sleeps n) h fits here core_is (w.Expires n) rows plain stood.names
      (front_still i j t seats Away (mutex_of c.call) (all_stay (front_number i t)) stood.front)
      (back_still i j t seats (away_or_asks c.listed) (mutex_of c.call) (all_stay (back_number i t)) stood.back))

  pub expires : var_hears (var_at i v) t outside.Expired ≡ true → HearsAt t v outside.Expired i j → IsWhole j
  expires may hears = go (var_at i v) refl may
    where
      go : (o : Option Var) → var_at i v ≡ o → var_hears o t outside.Expired ≡ true → IsWhole j
      go None at may = absurd cc
      go (Some x) at may =
          let (n, core_is) = expires_as c (is_left x.queue) c.core refl
          (ap (λ (o : Option OpenCall). option_map_or (may_hear x.queue outside.Expired) o false)
          (sym (ap (λ (z : Option Var). call_in z t) (sym at) ∙ here)) ∙ may) in
          sleeper_expires n core_is hears
