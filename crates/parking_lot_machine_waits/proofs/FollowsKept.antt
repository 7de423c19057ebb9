-- What a waiter does at its mutex that was taken off the variable's list leaves a machine whole: it comes back into the
-- mutex's list, or goes on there.
use Rattle.std.proofs.Common.{◌≡◌, ◌≢◌, ◌⊎◌, inl, inr, ℕ, ◌==◌, ◌<◌, Bool, true, false, not, cond, length, Option}
use Rattle.std.proofs.Common.{Some, None, is_some, refl, sym, ap, ◌∙◌, subst}
use Rattle.std.proofs.lemmas.List.{length-set}
use Rattle.std.proofs.lemmas.Option.{same_Some}
use Rattle.parking_lot_core_model.specs.declared.parking.UnparkToken.{UnparkToken}
use Rattle.parking_lot_core_model.specs.Machine.{Machine}
use Rattle.parking_lot_protocol.specs.declared.act.CoreAnswer.{CoreAnswer}
use Rattle.parking_lot_protocol.specs.declared.act.CoreAnswer.TheVariants as answer
use Rattle.parking_lot_protocol_waits.specs.declared.wait_core.WaitPhase.{WaitPhase}
use Rattle.parking_lot_protocol_waits.specs.declared.wait_core.WaitPhase.TheVariants as w
use Rattle.parking_lot_protocol_waits.specs.declared.wait_act.WaitAnswer.TheVariants as end
use Rattle.parking_lot_protocol_waits.specs.declared.notify_core.NotifyPhase.{NotifyPhase}
use Rattle.parking_lot_protocol_waits.specs.declared.notify_core.NotifyPhase.TheVariants as n
use Rattle.parking_lot_protocol_waits.specs.WaitTable.{next_phase}
use Rattle.parking_lot_machine_sides.specs.declared.condvar.open_call.Core.{Core}
use Rattle.parking_lot_machine_sides.specs.declared.condvar.open_call.Core.TheVariants as core
use Rattle.parking_lot_machine_sides.specs.declared.condvar.open_call.OpenCall.{OpenCall}
use Rattle.parking_lot_machine_sides.specs.declared.condvar.outside.Outside.TheVariants as outside
use Rattle.parking_lot_machine_sides.specs.Condvar.Outsides.{wait_hears}
use Rattle.parking_lot_machine_calls.specs.declared.calls.LockCall.TheVariants as call
use Rattle.parking_lot_machine_calls.specs.declared.open_call.Call.{Call}
use Rattle.parking_lot_machine_calls.specs.declared.seat.Core.{Core as RowCore}
use Rattle.parking_lot_machine_calls.specs.declared.seat.Core.TheVariants as row_core
use Rattle.parking_lot_machine.specs.Machines as rows
use Rattle.parking_lot_machine.specs.Rows.{State, call_at as row_call_at, state}
use Rattle.parking_lot_machine_waits.specs.declared.turn.Turn.{Turn}
use Rattle.parking_lot_machine_waits.specs.declared.turn.Turn.TheVariants as turn
use Rattle.parking_lot_machine_waits.specs.Joint.{Joint, back_number, buckets, call_at, call_enters}
use Rattle.parking_lot_machine_waits.specs.Joint.{front_number, is_kept, keeps_out, row_goes, seat_at}
use Rattle.parking_lot_machine_waits.specs.JointLaws.{PartsFit}
use Rattle.parking_lot_machine_waits.specs.JointSteps.{ComesBackIf, FollowsAs, HearsAt, IsFollowing}
use Rattle.parking_lot_machine_waits.specs.Turns.{acts_or, handed, is_late, mutex_of, notify_turn, retried, sleeps_or}
use Rattle.parking_lot_machine_waits.specs.Turns.{turn_by, turn_of, wait_turn, wait_wakes, wakes_with}
use Rattle.parking_lot_machine_waits.specs.Whole.{Apart, AtMutex, Away, Asks, IsIn, IsSo, IsWhole, Waits, asks}
use Rattle.parking_lot_machine_waits.specs.Whole.{asks_on}
use Rattle.parking_lot_machine_waits.specs.Whole.{away_or_asks, back_of, front_of, named, woken_by}
use Rattle.parking_lot_machine_waits.proofs.ActsTurns.{resumes_back, resumes_front, resumes_names}
use Rattle.parking_lot_machine_waits.proofs.Ending.{begun_asking, expired_asking, got_or_not}
use Rattle.parking_lot_machine_waits.proofs.Keeping.{HoldsWhole, RowsKept, Stays, is, low_at, rows_by, rows_same}
use Rattle.parking_lot_machine_waits.proofs.Keeping.{stays_on}
use Rattle.parking_lot_machine_waits.proofs.LocksKept.{kept_stays, number_low, over_holds, over_stays, written_holds}
use Rattle.parking_lot_machine_waits.proofs.LocksKept.{written_rows, written_sections, written_stays}
use Rattle.parking_lot_machine_waits.proofs.MutexSteps.{enters_beside, goes_there, went_holds, went_rows}
use Rattle.parking_lot_machine_waits.proofs.MutexSteps.{went_sections}
use Rattle.parking_lot_machine_waits.proofs.MutexTurns.{back_now, back_still, front_differs, front_still, heard_whole}
use Rattle.parking_lot_machine_waits.proofs.MutexTurns.{stands_at, stood, with_phase}
use Rattle.parking_lot_machine_waits.proofs.Places.{Goes, Kept, Over, stepped_goes}

-- IT COMES BACK INTO THE MUTEX'S LIST

expires_off : (b : Bool) → acts_or b turn.ComesBack ≡ turn.ComesBack → b ≡ false
expires_off true e = absurd cc
expires_off false e = refl

never_back : {X : Type 0} (b : Bool) (other : Turn) → other ≢ turn.ComesBack → acts_or b other ≡ turn.ComesBack → X
never_back true other ne e = absurd cc
never_back false other ne e = absurd (ne e)

still_asleep : {X : Type 0} (b : Bool) → sleeps_or b turn.Follows ≡ turn.ComesBack → X
still_asleep true e = absurd cc
still_asleep false e = absurd cc

module _ (i j : Joint) (t v : ℕ) (c : OpenCall) (h : IsWhole i) (fits : PartsFit i) (here : call_at i v t ≡ Some c)
    (seats : j.seats ≡ i.seats) where
  abbrev back : ℕ
  back = back_number i t

  low : t < length i.seats
  low = low_at i h v t c here

  -- its back number asks as it did, and stood off the list
  module _ (k : ℕ) (is_core : c.core ≡ core.Wait (record { phase = w.Expires k })) (off : c.listed ≡ false)
      (hears : HearsAt t v outside.Made i j) where
    stood_there : Waits i t c (w.Expires k)
    stood_there = stood i j t v c (w.Expires k) h fits here is_core

    back_there : IsSo Asks (state i.rows) back (mutex_of c.call)
    back_there = subst (λ (b : Bool). IsSo (away_or_asks b) (state i.rows) back (mutex_of c.call)) off stood_there.back

    back_for : IsSo Asks (state j.rows) (back_number j t) (mutex_of c.call)
        → IsSo (back_of c.listed (w.Quits k)) (state j.rows) (back_number j t) (mutex_of c.call)
    back_for x = subst (λ (b : Bool). IsSo (away_or_asks b) (state j.rows) (back_number j t) (mutex_of c.call))
        (sym off) x

    back_again : (b : Bool) → ComesBackIf b back i j → IsWhole j
    back_again true x =
        let kept = written_rows i j t (seat_at i t).second _ x.became in
        heard_whole i j t v c (w.Expires k) h fits here is_core seats kept (written_holds _ _ _ _ x.became h.holds)
        (written_sections i j _ _ h x.became) outside.Made hears
        (λ plain. stands_at i j t v c (w.Expires k) h fits here is_core (w.Quits k) kept plain stood_there.names
        (front_still i j t seats Away (mutex_of c.call) (written_stays _ _ _ _ x.became _ (front_differs i t low))
        stood_there.front)
        (back_for (back_now i j t seats Asks (mutex_of c.call) (expired_asking _ _ back _ x back_there))))
    back_again false same =
        let kept = rows_same i j (is t) same in
        heard_whole i j t v c (w.Expires k) h fits here is_core seats kept
        (subst (λ r. HoldsWhole (state r)) (sym same) h.holds)
        (subst (λ r. Apart (state r) i) (sym same) h.sections)
        outside.Made hears
        (λ plain. stands_at i j t v c (w.Expires k) h fits here is_core (w.Quits k) kept plain stood_there.names
        (front_still i j t seats Away (mutex_of c.call) (same_stays (front_number i t)) stood_there.front)
        (back_for (back_still i j t seats Asks (mutex_of c.call) (same_stays back) back_there)))
      where
        same_stays : (n : ℕ) → Stays (state i.rows) (state j.rows) n
        same_stays n = (rows_same i j (λ u. false) same).others n (λ u second e. absurd cc)

  comes_by : (p : WaitPhase) → c.core ≡ core.Wait (record { phase = p }) → wait_turn c.listed p ≡ turn.ComesBack
      → HearsAt t v outside.Made i j → (b : Bool) → ComesBackIf b back i j → IsWhole j
  comes_by (w.Expires k) at e hears b x = back_again k at (expires_off c.listed e) hears b x
  comes_by (w.Sleeps k) at e hears b x = still_asleep c.listed e
  comes_by (w.Quits k) at e hears b x = never_back c.listed turn.Follows (λ f. absurd cc) e
  comes_by (w.Leaves true) at e hears b x = absurd cc
  comes_by (w.Leaves false) at e hears b x = absurd cc
  comes_by p at e hears b x = absurd cc

  no_notice : {X : Type 0} (p : NotifyPhase) → notify_turn p ≡ turn.ComesBack → X
  no_notice (n.Notifying all) e = absurd cc
  no_notice p e = absurd cc

  pub comes_back : turn_of c ≡ turn.ComesBack → HearsAt t v outside.Made i j → (b : Bool) → ComesBackIf b back i j
      → IsWhole j
  comes_back e hears b x = by_core c.core refl e
    where
      by_core : (k : Core) → c.core ≡ k → turn_by c.listed k ≡ turn.ComesBack → IsWhole j
      by_core (core.Wait k) at e = comes_by k.phase at e hears b x
      by_core (core.Notify k) at e = no_notice k.phase e

-- IT GOES ON AT THE MUTEX

follows_off : (b : Bool) (other : Bool → Turn) → ((b : Bool) → b ≡ true → other b ≢ turn.Follows)
    → other b ≡ turn.Follows → b ≡ false
follows_off true other ne e = absurd (ne true refl e)
follows_off false other ne e = refl

not_late : (c : RowCore) → is_late c ≡ false → asks c ≡ true → asks_on c ≡ true
not_late (row_core.Mutex k) e f = f
not_late c e f = absurd cc

-- a wait off the list, and where it goes once it is woken
pub record Off (c : OpenCall) (p : WaitPhase) : Type 0 where
  pub core : c.core ≡ core.Wait (record { phase = p })
  pub front : front_of p ≡ Away
  pub back : back_of c.listed p ≡ Asks
  pub to : UnparkToken → WaitPhase
  pub next : (token : UnparkToken) → next_phase p (wait_hears (wait_wakes p token)) ≡ to token
  pub names : (m : ℕ) (token : UnparkToken) → named (to token) m ≡ m
  pub fronts : (token : UnparkToken) → front_of (to token) ≡ Away
  pub backs : (token : UnparkToken) → back_of c.listed (to token) ≡ woken_by (token.0 == 1)

module _ (i j : Joint) (t v : ℕ) (c : OpenCall) (p : WaitPhase) (h : IsWhole i) (fits : PartsFit i)
    (here : call_at i v t ≡ Some c) (seats : j.seats ≡ i.seats) (o : Off c p) where
  abbrev s : State
  s = state i.rows

  abbrev u : State
  u = state j.rows

  abbrev own : ℕ
  own = back_number i t

  abbrev lock : ℕ
  lock = mutex_of c.call

  was : Waits i t c p
  was = stood i j t v c p h fits here o.core

  within : t < length i.seats
  within = low_at i h v t c here

  asked : IsIn asks s own lock
  asked = subst (λ (a : AtMutex). IsSo a s own lock) o.back was.back

  others : front_number i t ≢ own
  others = front_differs i t within

  -- it was told so, and owns the mutex or goes on asking for it
  told_whole : (token : UnparkToken) → RowsKept i j (is t) → HoldsWhole u → Apart u i
      → HearsAt t v (wakes_with c.core token) i j → Stays s u (front_number i t)
      → IsSo (woken_by (token.0 == 1)) u own lock → IsWhole j
  told_whole token kept holds sections hears front so =
      heard_whole i j t v c p h fits here o.core seats kept holds sections (wait_wakes p token)
      (subst (λ (k : Core). HearsAt t v (wakes_with k token) i j) o.core hears)
      (λ plain. subst (λ (q : WaitPhase). Waits j t (with_phase c q) q) (sym (o.next token))
      (stands_at i j t v c p h fits here o.core (o.to token) kept plain (o.names lock token)
      (subst (λ (a : AtMutex). IsSo a u (front_number j t) lock) (sym (o.fronts token))
      (front_still i j t seats Away lock front
      (subst (λ (a : AtMutex). IsSo a s (front_number i t) lock) o.front was.front)))
      (subst (λ (a : AtMutex). IsSo a u (back_number j t) lock) (sym (o.backs token))
      (back_now i j t seats (woken_by (token.0 == 1)) lock so))))

  -- what its step leaves of the machine
  rows_after : (enters : Option ℕ) (a : Option CoreAnswer) → Goes a enters own s u → RowsKept i j (is t)
  rows_after = went_rows i j t v c p h fits here o.core seats (seat_at i t).second

  holds_after : (enters : Option ℕ) (a : Option CoreAnswer) → Goes a enters own s u → HoldsWhole u
  holds_after = went_holds i j t v c p h fits here o.core seats (seat_at i t).second

  shut_after : (enters : Option ℕ) (a : Option CoreAnswer) → not (keeps_out i enters) ≡ true
      → Goes a enters own s u → Apart u i
  shut_after = went_sections i j t v c p h fits here o.core seats (seat_at i t).second

  -- its call goes on
  module _ (enters : Option ℕ) (may : not (keeps_out i enters) ≡ true) (x : Kept enters s u) where
    stays_late : j.vars ≡ i.vars → IsWhole j
    stays_late vars = goes_there i j t v c p h fits here o.core seats enters (rows_after enters None x)
        (holds_after enters None x) (shut_after enters None may x) x vars

    goes_awake : IsIn asks_on s own lock → HearsAt t v (wakes_with c.core retried) i j → IsWhole j
    goes_awake on hears = told_whole retried (rows_after enters None x) (holds_after enters None x)
        (shut_after enters None may x) hears (kept_stays s u x _) ((kept_stays s u x own).asking_on lock on)

  -- it has the mutex
  has_it : (enters : Option ℕ) → not (keeps_out i enters) ≡ true → Over own answer.Owned s u
      → HearsAt t v (wakes_with c.core handed) i j → IsWhole j
  has_it enters may x hears = elim (got_or_not s u own answer.Owned fits.rows x lock asked) [
    | inl e ↦ told_whole handed (rows_after enters (Some answer.Owned) x) (holds_after enters (Some answer.Owned) x)
        (shut_after enters (Some answer.Owned) may x) hears (over_stays s u own answer.Owned fits.rows x _ others) e.1
    | inr e ↦ owned_refused e.0
  ]
    where
      owned_refused : {X : Type 0} → answer.Owned ≡ answer.Refused → X
      owned_refused e = absurd cc

  -- or has given up, and asks again
  asks_again : (d : Call) (mid : State) → d.lock ≡ lock → Over own answer.Refused s mid
      → rows.IsBegun own d.lock call.Lock mid u → HearsAt t v (wakes_with c.core retried) i j → IsWhole j
  asks_again d mid at x begins hears =
      told_whole retried
      (rows_by i j t (seat_at i t).second (ap (λ (y : State). length y.calls) begins.became ∙ length-set mid.calls own _
      ∙ count) (ap (λ (y : State). y.kinds) begins.became ∙ ap (λ (y : State). y.kinds) x.became)
      (ap (λ (y : State). y.lot.buckets) begins.became ∙ ap (λ (y : State). y.lot.buckets) x.became) others_stay)
      (written_holds mid u own _ begins.became (over_holds s mid own answer.Refused fits.rows x h.holds))
      (λ b. subst (λ (l : Machine). (is_some (l.sections b) ≡ false) ⊎ (is_kept i b ≡ false))
      (sym (ap (λ (y : State). y.lot) begins.became ∙ ap (λ (y : State). y.lot) x.became)) (h.sections b))
      hears (others_stay _ others)
      (subst (λ (m : ℕ). IsIn asks_on u own m) at
      (begun_asking mid u own d.lock begins
      (subst (λ (m : ℕ). own < m) (sym count) (number_low i h t (seat_at i t).second within))))
    where
      count : length mid.calls ≡ length s.calls
      count = ap (λ (y : State). length y.calls) x.became ∙ length-set s.calls own None

      others_stay : (k : ℕ) → k ≢ own → Stays s u k
      others_stay k ne = stays_on s mid u k (over_stays s mid own answer.Refused fits.rows x k ne)
          (written_stays mid u own _ begins.became k ne)

  neither : {X : Type 0} (b : CoreAnswer) (P Q : Type 0) → b ≢ answer.Owned → b ≢ answer.Refused
      → ((b ≡ answer.Owned) × P) ⊎ ((b ≡ answer.Refused) × Q) → X
  neither b P Q n m (inl e) = absurd (n e.0)
  neither b P Q n m (inr e) = absurd (m e.0)

  module _ (d : Call) (there : row_call_at s own ≡ Some d) (mid : State) (enters : Option ℕ)
      (may : not (keeps_out i enters) ≡ true) where
    same : asked.call ≡ d
    same = same_Some asked.call d (sym asked.here ∙ there)

    at_lock : d.lock ≡ lock
    at_lock = ap (λ (e : Call). e.lock) (sym same) ∙ asked.lock

    on : is_late d.core ≡ false → IsIn asks_on s own lock
    on e = record {
      call = asked.call;
      here = asked.here;
      lock = asked.lock;
      is = not_late asked.call.core (ap (λ (f : Call). is_late f.core) same ∙ e) asked.is;
    }

    released : {X : Type 0} → Over own answer.Released s mid → X
    released x = neither answer.Released _ _ (λ e. absurd cc) (λ e. absurd cc)
        (got_or_not s mid own answer.Released fits.rows x lock asked)

    onward : (late : Bool) (a : Option CoreAnswer) → is_late d.core ≡ late → Goes a enters own s mid
        → FollowsAs late a t own v c d i mid j → IsWhole j
    onward true None e g (to, vars) = stays_late enters may (subst (Kept enters s) (sym to) g) vars
    onward false None e g (to, hears) = goes_awake enters may (subst (Kept enters s) (sym to) g) (on e) hears
    onward true (Some answer.Owned) e g (to, hears) = has_it enters may (subst (Over own answer.Owned s) (sym to) g)
        hears
    onward false (Some answer.Owned) e g (to, hears) = has_it enters may (subst (Over own answer.Owned s) (sym to) g)
        hears
    onward true (Some answer.Refused) e g (begins, hears) = asks_again d mid at_lock g begins hears
    onward false (Some answer.Refused) e g (begins, hears) = asks_again d mid at_lock g begins hears
    onward true (Some answer.Released) e g x = released g
    onward false (Some answer.Released) e g x = released g

  pub off_follows : (fair : Bool) → row_goes i own ≡ true → IsFollowing t v own fair c i j → IsWhole j
  off_follows fair can x =
      onward x.d x.there x.mid (call_enters (buckets i) x.step.call)
      (enters_beside i own fair x.answer x.mid can x.step)
      (is_late x.d.core) x.answer refl (stepped_goes s x.mid own fair x.answer fits.rows x.step) x.onward

-- by where it stands
sleeps_off : (b : Bool) → sleeps_or b turn.Follows ≡ turn.Follows → b ≡ false
sleeps_off true e = absurd cc
sleeps_off false e = refl

quits_off : (b : Bool) → acts_or b turn.Follows ≡ turn.Follows → b ≡ false
quits_off true e = absurd cc
quits_off false e = refl

never_follows : {X : Type 0} (b : Bool) → acts_or b turn.ComesBack ≡ turn.Follows → X
never_follows true e = absurd cc
never_follows false e = absurd cc

off_by : (c : OpenCall) (p : WaitPhase) → c.core ≡ core.Wait (record { phase = p })
    → wait_turn c.listed p ≡ turn.Follows → Off c p
off_by c (w.Sleeps k) at e = record {
  core = at;
  front = refl;
  back = ap away_or_asks (sleeps_off c.listed e);
  to = λ token. cond (token.0 == 1) (w.Ends end.Woken) (w.Locks false);
  next = λ token. refl;
  names = λ m token. resumes_names m (token.0 == 1);
  fronts = λ token. resumes_front c.listed (token.0 == 1);
  backs = λ token. resumes_back c.listed (token.0 == 1);
}
off_by c (w.Quits k) at e = record {
  core = at;
  front = refl;
  back = ap away_or_asks (quits_off c.listed e);
  to = λ token. w.Resumes token;
  next = λ token. refl;
  names = λ m token. refl;
  fronts = λ token. refl;
  backs = λ token. refl;
}
off_by c (w.Expires k) at e = never_follows c.listed e
off_by c (w.Leaves true) at e = absurd cc
off_by c (w.Leaves false) at e = absurd cc
off_by c p at e = absurd cc

pub follows_keep : (i j : Joint) (t v : ℕ) (fair : Bool) (c : OpenCall) → IsWhole i → PartsFit i
    → call_at i v t ≡ Some c → j.seats ≡ i.seats → turn_of c ≡ turn.Follows → row_goes i (back_number i t) ≡ true
    → IsFollowing t v (back_number i t) fair c i j → IsWhole j
follows_keep i j t v fair c h fits here seats e can x = by_core c.core refl e
  where
    notify_never : {X : Type 0} (p : NotifyPhase) → notify_turn p ≡ turn.Follows → X
    notify_never (n.Notifying all) f = absurd cc
    notify_never p f = absurd cc

    by_core : (k : Core) → c.core ≡ k → turn_by c.listed k ≡ turn.Follows → IsWhole j
    by_core (core.Wait k) at f = off_follows i j t v c k.phase h fits here seats (off_by c k.phase at f) fair can x
    by_core (core.Notify k) at f = notify_never k.phase f
