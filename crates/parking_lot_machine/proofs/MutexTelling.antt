-- What the machine keeps of threads at a mutex is what the rules say of them.
use Rattle.std.proofs.Common.{◌≡◌, ◌≢◌, ◌<◌, subst, arith, ℕ, ◌/◌, ◌%◌, ◌-◌, nat_lt, ◌==◌, Bool, true, false, cond}
use Rattle.std.proofs.Common.{List, [], Some, None, slice_get, refl, sym, ap, ◌∙◌, eq-eqb}
use Rattle.parking_lot_core_model.specs.declared.parking.ParkToken.{ParkToken}
use Rattle.parking_lot_core_model.specs.declared.place.Waiter.{Waiter}
use Rattle.parking_lot_core_model.specs.Results.{is_left}
use Rattle.parking_lot_rules.specs.Roles.{Open, Asleep, Late, Stay}
use Rattle.parking_lot_rules.specs.Lists.{occurs}
use Rattle.std.proofs.lemmas.Bool.{ne_eqb}
use Rattle.std.proofs.lemmas.Option.{same_Some}
use Rattle.parking_lot_machine.proofs.KindTable.{MutexCall, Plain, mutex_plays}
use Rattle.parking_lot_machine.proofs.KindTable.{Late as CallLate}
use Rattle.parking_lot_rules.specs.Mutex as rules
use Rattle.parking_lot_protocol.specs.declared.act.Act.{Act}
use Rattle.parking_lot_protocol.specs.declared.act.SectionAct.TheVariants as section
use Rattle.parking_lot_protocol.specs.declared.act.CoreAnswer.{CoreAnswer}
use Rattle.parking_lot_protocol.specs.declared.act.CoreAnswer.TheVariants.{Owned, Refused, Released}
use Rattle.parking_lot_protocol.specs.declared.act.ActResult.{ActResult}
use Rattle.parking_lot_protocol.specs.declared.act.ActResult.TheVariants.{Start, Word, Exchanged, Spun, Entered, Took}
use Rattle.parking_lot_protocol.specs.declared.act.ActResult.TheVariants.{Stored, Made, Woken}
use Rattle.parking_lot_protocol.specs.declared.mutex_phase.MutexPhase.{MutexPhase}
use Rattle.parking_lot_protocol.specs.declared.mutex_phase.MutexPhase.TheVariants.{Locking, Trying, Unlocking, Bumping}
use Rattle.parking_lot_protocol.specs.declared.mutex_phase.MutexPhase.TheVariants.{Loads, Locks, Spins, Parks, Enters}
use Rattle.parking_lot_protocol.specs.declared.mutex_phase.MutexPhase.TheVariants.{Checks, Retreats, Appends, Rests}
use Rattle.parking_lot_protocol.specs.declared.mutex_phase.MutexPhase.TheVariants.{Sleeps, TryLoads, TryLocks, Refuses}
use Rattle.parking_lot_protocol.specs.declared.mutex_phase.MutexPhase.TheVariants.{BumpLoads, Relocks, Unlocks, Looks}
use Rattle.parking_lot_protocol.specs.declared.mutex_phase.MutexPhase.TheVariants.{Takes, Stores, Leaves, Wakes}
use Rattle.parking_lot_protocol.specs.declared.mutex_phase.MutexPhase.TheVariants.{Finishes, Ends, Invalid}
use Rattle.parking_lot_protocol.specs.declared.mutex_phase.Asking.{Asking}
use Rattle.parking_lot_protocol.specs.MutexTable.{act_of, next_phase, seeks, tries, begins}
use Rattle.parking_lot_protocol.specs.MutexRules as of_mutex
use Rattle.parking_lot_protocol.specs.MutexRules.{role, owns_after}
use Rattle.parking_lot_protocol.proofs.MutexFollowing.{either}
use Rattle.parking_lot_machine_calls.specs.declared.seat.Hold.{Hold}
use Rattle.parking_lot_machine_calls.specs.declared.seat.WakeResult.{WakeResult}
use Rattle.parking_lot_machine_calls.specs.declared.seat.QueuePosition.{QueuePosition}
use Rattle.parking_lot_machine_calls.specs.declared.seat.LatePhase.{LatePhase}
use Rattle.parking_lot_machine_calls.specs.declared.seat.Core.{Core}
use Rattle.parking_lot_machine_calls.specs.declared.open_call.Call.{Call}
use Rattle.parking_lot_machine_calls.specs.CallRoles.{mark_of, late_role, mutex_spot, mutex_core_role, owns_mutex}
use Rattle.parking_lot_machine_calls.specs.CallRoles.{mutex_role}
use Rattle.parking_lot_machine_calls.specs.CallActs.{settled_spot, mutex_hold_after}
use Rattle.parking_lot_machine.specs.RowFits.{mutex_knows}
use Rattle.parking_lot_machine.specs.MutexLaws.{TellingsSettle, HoldsAreAnswered, TakersKnow, MutexIsShown, settle_spot}
use Rattle.parking_lot_machine.proofs.MutexRoles.{settled as settled_role, opener}

-- ONE TELLS

-- who was taken by nobody but t, where it knows nothing yet
abbrev IsOf : ℕ → QueuePosition → Type 0
IsOf t (QueuePosition.Off by WakeResult.Nothing) = by ≡ t
IsOf t at = Unit {0}

settles_spot : (t : ℕ) (said : WakeResult) (at : QueuePosition) → IsOf t at
    → mutex_spot (settled_spot t said at) ≡ settle_spot (mark_of said) (mutex_spot at)
settles_spot t said QueuePosition.Listed e = refl
settles_spot t said (QueuePosition.Off by WakeResult.Nothing) e =
    ap (λ b. of_mutex.Off by (mark_of (cond b said WakeResult.Nothing))) (eq-eqb by t e)
settles_spot t said (QueuePosition.Off by WakeResult.TryAgain) e = refl
settles_spot t said (QueuePosition.Off by WakeResult.HandedOver) e = refl

-- one that sleeps so was taken by the thread that is inside
sleeper_of : (m : rules.Mutex) (t u : ℕ) (us : List ℕ) (v : ℕ) (at : QueuePosition) → rules.IsSound m
    → slice_get m.roles t ≡ Some (rules.doing (rules.Unlocks us))
    → slice_get m.roles u ≡ Some (role (mutex_spot at) v Sleeps) → IsOf t at
sleeper_of m t u us v QueuePosition.Listed sound here there = tt
sleeper_of m t u us v (QueuePosition.Off by WakeResult.Nothing) sound here there =
    opener m t u by us (rules.doing (rules.Taken by Open Asleep)) sound here there refl
sleeper_of m t u us v (QueuePosition.Off by WakeResult.TryAgain) sound here there = tt
sleeper_of m t u us v (QueuePosition.Off by WakeResult.HandedOver) sound here there = tt

module _ (m : rules.Mutex) (t u : ℕ) (us vs : List ℕ) (said : WakeResult) (sound : rules.IsSound m)
    (here : slice_get m.roles t ≡ Some (rules.doing (rules.Unlocks us))) where
  pub tells_phase : (at : QueuePosition) (p : MutexPhase) → slice_get m.roles u ≡ Some (mutex_role (mutex_spot at) vs p)
      → mutex_role (mutex_spot (settled_spot t said at)) vs p ≡ rules.settle (mark_of said)
      (mutex_role (mutex_spot at) vs p)
  tells_phase at Sleeps there =
      ap (λ x. role x 0 Sleeps) (settles_spot t said at (sleeper_of m t u us 0 at sound here there))
      ∙ sym (settled_role (mark_of said) (mutex_spot at) 0 Sleeps)
  tells_phase at p there = refl

  pub tells_late : (at : QueuePosition) (p : LatePhase) → slice_get m.roles u ≡ Some (late_role (mutex_spot at) p)
      → late_role (mutex_spot (settled_spot t said at)) p ≡ rules.settle (mark_of said) (late_role (mutex_spot at) p)
  tells_late QueuePosition.Listed LatePhase.Expires there = refl
  tells_late (QueuePosition.Off by WakeResult.Nothing) LatePhase.Expires there =
      ap (λ b. rules.doing (rules.Taken by (mark_of (cond b said WakeResult.Nothing)) Late))
      (eq-eqb by t (opener m t u by us (rules.doing (rules.Taken by Open Late)) sound here there refl))
  tells_late (QueuePosition.Off by WakeResult.TryAgain) LatePhase.Expires there = refl
  tells_late (QueuePosition.Off by WakeResult.HandedOver) LatePhase.Expires there = refl
  tells_late at (LatePhase.WasTaken by true) there = refl
  tells_late at (LatePhase.WasTaken by false) there = refl
  tells_late at p there = refl

  pub tells_call : (at : QueuePosition) (k : MutexCall) → slice_get m.roles u ≡ Some (mutex_plays at vs k)
      → mutex_plays (settled_spot t said at) vs k ≡ rules.settle (mark_of said) (mutex_plays at vs k)
  tells_call at (Plain k) there = tells_phase at k.phase there
  tells_call at (CallLate p) there = tells_late at p there

  tells_core : (at : QueuePosition) (k : Core) → slice_get m.roles u ≡ Some (mutex_core_role at vs k)
      → mutex_core_role (settled_spot t said at) vs k ≡ rules.settle (mark_of said) (mutex_core_role at vs k)
  tells_core at (Core.Mutex c) there = tells_phase at c.phase there
  tells_core at (Core.Rw c) there = refl
  tells_core at (Core.Upgrade c) there = refl
  tells_core at (Core.LateRw p) there = refl
  tells_core at (Core.Late p) there = tells_late at p there

  tells_here : (i : ℕ) (h : Hold) (c : Call) (b : Bool)
      → slice_get m.roles u ≡ Some
      (cond b (mutex_core_role c.spot vs c.core) (record { owns = owns_mutex h; does = rules.Idle }))
      → cond b (mutex_core_role (settled_spot t said c.spot) vs c.core)
      (record { owns = owns_mutex h; does = rules.Idle }) ≡ rules.settle (mark_of said)
      (cond b (mutex_core_role c.spot vs c.core) (record { owns = owns_mutex h; does = rules.Idle }))
  tells_here i h c true there = tells_core c.spot c.core there
  tells_here i h c false there = refl

pub tells : TellingsSettle
tells m t u i us vs said h None sound here there = refl
tells m t u i us vs said h (Some c) sound here there = tells_here m t u us vs said sound here i h c (c.lock == i) there

-- ONE ENDS

abbrev answer_of : Act → CoreAnswer
answer_of (Act.Done answer) = answer
answer_of other = Refused

abbrev is_done : Act → Bool
is_done (Act.Done answer) = true
is_done other = false

ends_so : (a : CoreAnswer) → owns_mutex (mutex_hold_after (Ends a)) ≡ owns_after a
ends_so Owned = refl
ends_so Refused = refl
ends_so Released = refl

pub ends : HoldsAreAnswered
ends Refuses answer begun e = let same : Refused ≡ answer = ap answer_of e in ap owns_after same
ends Invalid answer begun e = let same : Refused ≡ answer = ap answer_of e in ap owns_after same
ends (Ends a) answer begun e = let same : a ≡ answer = ap answer_of e in ends_so a ∙ ap owns_after same
ends (Finishes g) answer begun e = by_bump g.again e
  where
    by_bump : (again : Bool) → cond again Act.Load (Act.Done Released) ≡ Act.Done answer → false ≡ owns_after answer
    by_bump true e = absurd (let f : false ≡ true = ap is_done e in cc)
    by_bump false e = let same : Released ≡ answer = ap answer_of e in ap owns_after same
ends Locking answer begun e = absurd (let f : false ≡ true = begun in cc)
ends Trying answer begun e = absurd (let f : false ≡ true = begun in cc)
ends (Unlocking fair) answer begun e = absurd (let f : false ≡ true = begun in cc)
ends Bumping answer begun e = absurd (let f : false ≡ true = begun in cc)
ends p answer begun e = absurd (let f : false ≡ true = ap is_done e in cc)

-- ONE TAKES

-- it isn't about to store
abbrev is_off : MutexPhase → Bool
is_off (Stores g taken left) = false
is_off p = true

knows_nothing : (p : MutexPhase) (waiters : List Waiter) → is_off p ≡ true → mutex_knows p waiters
knows_nothing (Stores g taken left) waiters e = absurd (let f : false ≡ true = e in cc)
knows_nothing p waiters e = tt

seeks_off : (a : Asking) (word : ℕ) → is_off (seeks a word) ≡ true
seeks_off a word = either is_off (word == 0) _ _ _ refl
    (either is_off (word == 2) _ _ _ refl
    (either is_off (word == 1) _ _ _ (either is_off (nat_lt 0 a.rounds) _ _ _ refl refl) refl))

tries_off : (left word : ℕ) → is_off (tries left word) ≡ true
tries_off left word = either is_off (word == 0) _ _ _ refl (either is_off (word == 2) _ _ _ refl refl)

finishes_off : (fair again : Bool) (s : ActResult)
    → is_off (next_phase (Finishes (record { fair = fair; again = again })) s) ≡ true
finishes_off fair true (Word n) = refl
finishes_off fair again s = refl

off : (p : MutexPhase) (s : ActResult) → act_of p ≢ Act.Section section.TakeFirst → is_off (next_phase p s) ≡ true
off Locking Start ne = refl
off Trying Start ne = refl
off (Unlocking fair) Start ne = refl
off Bumping Start ne = refl
off (Loads a) (Word n) ne = seeks_off a n
off (Locks a waiters) (Word n) ne = seeks_off a n
off (Spins a) (Spun true) ne = refl
off (Spins a) (Spun false) ne = refl
off (Parks a) (Word n) ne = seeks_off a n
off (Enters c) Entered ne = refl
off (Retreats c) Made ne = refl
off Appends Made ne = refl
off Rests Made ne = refl
off (Checks c) (Word n) ne = either is_off (n == 3) _ _ _ refl refl
off Sleeps (Woken token) ne = either is_off (token.0 == 1) _ _ _ refl refl
off TryLoads (Word n) ne = tries_off 63 n
off (TryLocks waiters left) (Word n) ne = either is_off (nat_lt 0 left) _ _ _ (tries_off (left - 1) n) refl
off BumpLoads (Word n) ne = either is_off (n / 2 % 2 == 1) _ _ _ refl refl
off Relocks (Word n) ne = seeks_off (begins false) n
off (Unlocks g) Exchanged ne = either is_off g.again _ _ _ refl refl
off (Looks g) Entered ne = refl
off (Takes g) s ne = absurd (ne refl)
off (Stores g taken left) (Stored fair) ne = refl
off (Wakes g) Made ne = refl
off (Leaves g true handed) Made ne = refl
off (Leaves g false handed) Made ne = refl
off (Finishes g) s ne = finishes_off g.fair g.again s
off p s ne = refl

-- no other phase asks for it
abbrev takes_first : Act → Bool
takes_first (Act.Section section.TakeFirst) = true
takes_first other = false

elsewhere : (p : MutexPhase) → takes_first (act_of p) ≡ false → act_of p ≢ Act.Section section.TakeFirst
elsewhere p other e = let f : false ≡ true = sym other ∙ ap takes_first e in cc

pub takes : TakersKnow
takes = record {
  one = one;
  nobody = nobody;
  other = λ p s waiters ne. knows_nothing (next_phase p s) waiters (off p s ne);
}
  where
    one : (p : MutexPhase) (token : ParkToken) (waiters : List Waiter) → act_of p ≡ Act.Section section.TakeFirst
        → mutex_knows (next_phase p (Took (Some token) (is_left waiters))) waiters
    one (Takes g) token waiters e = (refl, λ f. absurd (let h : true ≡ false = f in cc))
    one (Finishes g) token waiters e = absurd (elsewhere (Finishes g) (either takes_first g.again _ _ _ refl refl) e)
    one p token waiters e = absurd (elsewhere p refl e)

    nobody : (p : MutexPhase) → act_of p ≡ Act.Section section.TakeFirst → mutex_knows (next_phase p (Took None false))
        []
    nobody (Takes g) e = (refl, λ f. refl)
    nobody (Finishes g) e = absurd (elsewhere (Finishes g) (either takes_first g.again _ _ _ refl refl) e)
    nobody p e = absurd (elsewhere p refl e)

pub shown : MutexIsShown
shown = record { tells = tells; ends = ends; knows = takes }

-- one that masks the parked bit off has taken nobody, and tells nobody
module _ (m : rules.Mutex) (t u : ℕ) (vs : List ℕ) (said : WakeResult) (sound : rules.IsSound m)
    (here : slice_get m.roles t ≡ Some (rules.doing rules.Masks)) where
  none_of : (by : ℕ) (stay : Stay) → slice_get m.roles u ≡ Some (rules.doing (rules.Taken by Open stay))
      → (by == t) ≡ false
  none_of by stay there = ne_eqb by t (λ e.
      let w = sound.noted u by (rules.doing (rules.Taken by Open stay)) Open there refl in
      let same : w.0 ≡ rules.doing rules.Masks = same_Some _ _ (sym w.1 ∙ ap (slice_get m.roles) e ∙ here) in
      absurd (omega (arith, subst (λ (r : rules.Role). 0 < occurs u (rules.wakes r Open)) same w.2)))

  masks_plain : (at : QueuePosition) (p : MutexPhase) → slice_get m.roles u ≡ Some (mutex_role (mutex_spot at) vs p)
      → mutex_role (mutex_spot (settled_spot t said at)) vs p ≡ mutex_role (mutex_spot at) vs p
  masks_plain QueuePosition.Listed Sleeps there = refl
  masks_plain (QueuePosition.Off by WakeResult.Nothing) Sleeps there =
      ap (λ b. rules.doing (rules.Taken by (mark_of (cond b said WakeResult.Nothing)) Asleep)) (none_of by Asleep there)
  masks_plain (QueuePosition.Off by WakeResult.TryAgain) Sleeps there = refl
  masks_plain (QueuePosition.Off by WakeResult.HandedOver) Sleeps there = refl
  masks_plain at p there = refl

  masks_late : (at : QueuePosition) (p : LatePhase) → slice_get m.roles u ≡ Some (late_role (mutex_spot at) p)
      → late_role (mutex_spot (settled_spot t said at)) p ≡ late_role (mutex_spot at) p
  masks_late QueuePosition.Listed LatePhase.Expires there = refl
  masks_late (QueuePosition.Off by WakeResult.Nothing) LatePhase.Expires there =
      ap (λ b. rules.doing (rules.Taken by (mark_of (cond b said WakeResult.Nothing)) Late)) (none_of by Late there)
  masks_late (QueuePosition.Off by WakeResult.TryAgain) LatePhase.Expires there = refl
  masks_late (QueuePosition.Off by WakeResult.HandedOver) LatePhase.Expires there = refl
  masks_late at p there = refl

  pub masks_call : (at : QueuePosition) (k : MutexCall) → slice_get m.roles u ≡ Some (mutex_plays at vs k)
      → mutex_plays (settled_spot t said at) vs k ≡ mutex_plays at vs k
  masks_call at (Plain k) there = masks_plain at k.phase there
  masks_call at (CallLate p) there = masks_late at p there
