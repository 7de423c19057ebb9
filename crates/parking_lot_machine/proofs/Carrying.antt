-- What an act that changes a thread's call keeps of the lot's lists and of who is to be woken.
use Rattle.std.proofs.Common.{◌≡◌, ◌≤◌, ◌<◌, ◌⊎◌, inl, inr, ℕ, ◌+◌, ◌*◌, ◌==◌, false, cond, List, [], ◌∷◌, length}
use Rattle.std.proofs.Common.{filter, remove, Option, Some, None, slice_get, slice_set, refl, sym, ap, ◌∙◌, subst}
use Rattle.std.proofs.Common.{arith, eq-eqb, count_by}
use Rattle.std.specs.Option.{option_map, option_map_or, option_and_then}
use Rattle.std.proofs.lemmas.List.{length-map}
use Rattle.std.proofs.lemmas.List.Sums.{length-filter}
use Rattle.std.proofs.lemmas.Option.{slice_get_within}
use Rattle.parking_lot_core_model.specs.declared.parking.ParkToken.{ParkToken}
use Rattle.parking_lot_core_model.specs.declared.place.Place.{Place}
use Rattle.parking_lot_core_model.specs.declared.place.Section.{Section}
use Rattle.parking_lot_core_model.specs.declared.place.Waiter.{Waiter}
use Rattle.parking_lot_core_model.specs.Machine.{Machine}
use Rattle.parking_lot_core_model.specs.Places.{place_at, mark_of}
use Rattle.parking_lot_core_model.specs.Sound.{Sound}
use Rattle.parking_lot_core_model.proofs.Numbers.{flag, slice_get-set_other, count_by-at, count_by-remove}
use Rattle.parking_lot_core_model.proofs.Kept.{by_eqb}
use Rattle.parking_lot_core_model.proofs.Entering.{none≢some}
use Rattle.parking_lot_machine_calls.specs.declared.seat.WakeResult.{WakeResult}
use Rattle.parking_lot_machine_calls.specs.declared.seat.QueuePosition.{QueuePosition}
use Rattle.parking_lot_machine_calls.specs.declared.open_call.Call.{Call}
use Rattle.parking_lot_machine_calls.specs.declared.seat.Wakeup.{Wakeup}
use Rattle.parking_lot_machine.specs.Rows.{State, call_at, is_by, taken_by}
use Rattle.parking_lot_machine_calls.specs.Stances.{Looks, TurnsBack, Joins, Joined, Takes, Stores, Tells, Stance, Out}
use Rattle.parking_lot_machine_calls.specs.Stances.{In, Asleep, stance, taken_count}
use Rattle.parking_lot_machine_calls.specs.CallActs.{settled_spot, settled}
use Rattle.parking_lot_machine.specs.RowFits.{SeatedIn, Awaits, IsCounted, IsInside, IsTaken, IsOwed, WakesSome}
use Rattle.parking_lot_machine.specs.RowFits.{LotFits}
use Rattle.parking_lot_machine.specs.RowFits.{TakersAreOut}

-- CALLS, BY THREAD

pub same_call : {c d : Call} → Some c ≡ Some d → c ≡ d
same_call e = cc

some_call : (o : Option (Option Call)) (c : Call) → option_and_then (λ x. x) o ≡ Some c → o ≡ Some (Some c)
some_call None c h = absurd (none≢some h)
some_call (Some o) c h = ap (λ x. Some x) h

-- a thread in a call has a number
pub call_within : (s : State) (t : ℕ) (c : Call) → call_at s t ≡ Some c → t < length s.calls
call_within s t c h = slice_get_within s.calls t (Some c) (some_call (slice_get s.calls t) c h)

-- one call is changed
pub set_elsewhere : (calls : List (Option Call)) (t v : ℕ) (o : Option Call) → (v == t) ≡ false
    → option_and_then (λ x. x) (slice_get (slice_set calls t o) v) ≡ option_and_then (λ x. x) (slice_get calls v)
set_elsewhere calls t v o e = ap (option_and_then (λ x. x)) (slice_get-set_other calls t v o e)

-- the calls of all others stay, and one goes on at its lock: so each call is at its lock still
pub lock_kept : (s u : State) (t : ℕ) (c d : Call) → call_at s t ≡ Some c → call_at u t ≡ Some d → d.lock ≡ c.lock
    → ((v : ℕ) → (v == t) ≡ false → call_at u v ≡ call_at s v)
    → (x : ℕ) (y : Call) → call_at s x ≡ Some y → (z : Call) × (call_at u x ≡ Some z) × (z.lock ≡ y.lock)
lock_kept s u t c d here there lock apart x y at = by_eqb x t ((z : Call) × (call_at u x ≡ Some z) × (z.lock ≡ y.lock))
    (λ e. (
      d,
      ap (call_at u) e ∙ there,
      lock ∙ ap (λ (z : Call). z.lock) (same_call (sym here ∙ (ap (call_at s) (sym e) ∙ at))),
    ))
    (λ e. (y, apart x e ∙ at, refl))

-- one that was taken stays so, where its call and its place stay, and its taker is at its lock still
pub still_taken : (s u : State) (e : Wakeup) (old : IsTaken s e) → (z : Call) × (call_at u e.by ≡ Some z)
    × (z.lock ≡ old.taker.lock) → call_at u e.thread ≡ call_at s e.thread
    → place_at u.lot.places e.thread ≡ place_at s.lot.places e.thread → IsTaken u e
still_taken s u e old taker call place = record {
  taker = taker.0;
  there = taker.1;
  call = old.call;
  here = call ∙ old.here;
  lock = old.lock ∙ sym taker.2;
  said = old.said;
  spot = old.spot;
  key = old.key;
  token = old.token;
  asleep = old.asleep;
  mark = ap (λ (p : Option Place). option_map_or mark_of p 0) place ∙ old.mark;
}

-- how many a thread in that call has taken
abbrev pub tally : Option Call → ℕ
tally o = option_map_or (λ c. taken_count c.core) o 0

-- that many are still to be woken by a thread in that call, of so many threads
abbrev pub Tallied : ℕ → ℕ → Option Call → Type 0
Tallied threads n None = n ≡ 0
Tallied threads n (Some c) = IsCounted threads n c.core

-- it is in a call, and in a section there
abbrev pub InsideOf : Option Call → Type 0
InsideOf None = ⊥
InsideOf (Some c) = IsInside (stance c.core)

-- where it is to wake somebody it has taken somebody
abbrev pub Wakeful : Option Call → Type 0
Wakeful o = (c : Call) → o ≡ Some c → WakesSome c.core

-- WHAT IS KEPT OF A CALL

pub record Carries (old new : Option Call) : Type 0 where
  -- who stands in a list stands there
  pub listed : (k : ℕ) (token : ParkToken) (c : Call) → old ≡ Some c → c.spot ≡ QueuePosition.Listed
      → Awaits k token (stance c.core)
      → (d : Call) × (new ≡ Some d) × (d.lock ≡ c.lock) × (d.spot ≡ QueuePosition.Listed)
      × Awaits k token (stance d.core)
  -- who sleeps off its list sleeps there, and nobody else does
  pub sleeps : (k : ℕ) (token : ParkToken) (by : ℕ) (said : WakeResult) (c : Call) → old ≡ Some c
      → stance c.core ≡ Asleep k token → c.spot ≡ QueuePosition.Off by said
      → (d : Call) × (new ≡ Some d) × (d.lock ≡ c.lock) × (stance d.core ≡ Asleep k token) × (now : WakeResult)
      × (d.spot ≡ QueuePosition.Off by now)
  pub slept : (k : ℕ) (token : ParkToken) (by : ℕ) (said : WakeResult) (d : Call) → new ≡ Some d
      → stance d.core ≡ Asleep k token → d.spot ≡ QueuePosition.Off by said
      → (c : Call) × (old ≡ Some c) × (stance c.core ≡ Asleep k token) × (before : WakeResult)
      × (c.spot ≡ QueuePosition.Off by before)
  -- who has taken somebody stays at its lock, and has taken as many
  pub taker : (c : Call) → old ≡ Some c → 1 ≤ taken_count c.core → (d : Call) × (new ≡ Some d) × (d.lock ≡ c.lock)
  pub counts : tally new ≡ tally old
  -- who is in a section was in one, or has taken nobody
  pub stays : InsideOf new → InsideOf old ⊎ (tally old ≡ 0)
  -- and has somebody to wake, where it is to wake
  pub wakeful : Wakeful old → Wakeful new

pub carries_same : (old new : Option Call) → new ≡ old → Carries old new
carries_same old new e = record {
  listed = λ k token c is at waits. (c, e ∙ is, refl, at, waits);
  sleeps = λ k token by said c is asleep at. (c, e ∙ is, refl, asleep, said, at);
  slept = λ k token by said d is asleep at. (d, sym e ∙ is, asleep, said, at);
  taker = λ c is some. (c, e ∙ is, refl);
  counts = ap tally e;
  stays = λ i. inl (subst InsideOf e i);
  wakeful = λ w c is. w c (sym e ∙ is);
}

pub carries_both : (a b c : Option Call) → Carries a b → Carries b c → Carries a c
carries_both a b c h k = record {
  listed = λ key token x is at waits.
      let y = h.listed key token x is at waits in
      let z = k.listed key token y.0 y.1 y.3 y.4 in
      (z.0, z.1, z.2 ∙ y.2, z.3, z.4);
  sleeps = λ key token by said x is asleep at.
      let y = h.sleeps key token by said x is asleep at in
      let z = k.sleeps key token by y.4 y.0 y.1 y.3 y.5 in
      (z.0, z.1, z.2 ∙ y.2, z.3, z.4, z.5);
  slept = λ key token by said x is asleep at.
      let y = k.slept key token by said x is asleep at in
      h.slept key token by y.3 y.0 y.1 y.2 y.4;
  taker = λ x is some.
      let y = h.taker x is some in
      let z = k.taker y.0 y.1 (let same = sym (ap tally y.1) ∙ (h.counts ∙ ap tally is) in omega arith) in
      (z.0, z.1, z.2 ∙ y.2);
  counts = k.counts ∙ h.counts;
  stays = λ i. elim (k.stays i) [
    | inl j ↦ h.stays j
    | inr z ↦ inr (sym h.counts ∙ z)
  ];
  wakeful = λ w. k.wakeful (h.wakeful w);
}

-- a stance in no list and awake, and one that isn't asleep
abbrev pub IsAwake : Stance → Type 0
IsAwake Out = Unit {0}
IsAwake (In k (Joined token)) = ⊥
IsAwake (In k how) = Unit {0}
IsAwake (Asleep k token) = ⊥

abbrev pub IsUp : Stance → Type 0
IsUp (Asleep k token) = ⊥
IsUp a = Unit {0}

pub awake_waits : (k : ℕ) (token : ParkToken) (a : Stance) → IsAwake a → Awaits k token a → ⊥
awake_waits k token Out h w = w
awake_waits k token (In j Looks) h w = w
awake_waits k token (In j TurnsBack) h w = w
awake_waits k token (In j (Joins t)) h w = w
awake_waits k token (In j (Joined t)) h w = h
awake_waits k token (In j Takes) h w = w
awake_waits k token (In j Stores) h w = w
awake_waits k token (In j (Tells t)) h w = w
awake_waits k token (Asleep j t) h w = h

pub awake_sleeps : (k : ℕ) (token : ParkToken) (a : Stance) → IsAwake a → a ≡ Asleep k token → ⊥
awake_sleeps k token a h e = subst IsAwake e h

pub up_sleeps : (k : ℕ) (token : ParkToken) (a : Stance) → IsUp a → a ≡ Asleep k token → ⊥
up_sleeps k token a h e = subst IsUp e h

-- an awake thread goes on, awake
pub carries_awake : (c d : Call) → IsAwake (stance c.core) → IsUp (stance d.core) → d.lock ≡ c.lock
    → taken_count d.core ≡ taken_count c.core
    → (IsInside (stance d.core) → IsInside (stance c.core) ⊎ (taken_count c.core ≡ 0)) → WakesSome d.core
    → Carries (Some c) (Some d)
carries_awake c d awake up lock counts stays some = record {
  listed = λ k token x is at waits. absurd
      (awake_waits k token (stance c.core) awake
      (subst (λ (y : Call). Awaits k token (stance y.core)) (sym (same_call is)) waits));
  sleeps = λ k token by said x is asleep at. absurd
      (awake_sleeps k token (stance c.core) awake (ap (λ (y : Call). stance y.core) (same_call is) ∙ asleep));
  slept = λ k token by said x is asleep at. absurd
      (up_sleeps k token (stance d.core) up (ap (λ (y : Call). stance y.core) (same_call is) ∙ asleep));
  taker = λ x is more. (d, refl, lock ∙ ap (λ (y : Call). y.lock) (same_call is));
  counts = counts;
  stays = stays;
  wakeful = λ w x is. subst (λ (y : Call). WakesSome y.core) (same_call is) some;
}

-- one that joined goes to sleep
pub carries_lain : (c d : Call) (key : ℕ) (park : ParkToken) → stance c.core ≡ In key (Joined park)
    → stance d.core ≡ Asleep key park → d.lock ≡ c.lock → c.spot ≡ QueuePosition.Listed → d.spot ≡ QueuePosition.Listed
    → taken_count d.core ≡ taken_count c.core → WakesSome d.core → Carries (Some c) (Some d)
carries_lain c d key park from to lock at at' counts some = record {
  listed = λ k token x is here waits. (
    d,
    refl,
    lock ∙ ap (λ (y : Call). y.lock) (same_call is),
    at',
    subst (Awaits k token) (sym to)
        (subst (Awaits k token) (sym (ap (λ (y : Call). stance y.core) (same_call is)) ∙ from) waits),
  );
  sleeps = λ k token by said x is asleep here. absurd
      (listed≢off (sym at ∙ (ap (λ (y : Call). y.spot) (same_call is) ∙ here)));
  slept = λ k token by said x is asleep here. absurd
      (listed≢off (sym at' ∙ (ap (λ (y : Call). y.spot) (same_call is) ∙ here)));
  taker = λ x is more. (d, refl, lock ∙ ap (λ (y : Call). y.lock) (same_call is));
  counts = counts;
  stays = λ i. absurd (subst IsInside to i);
  wakeful = λ w x is. subst (λ (y : Call). WakesSome y.core) (same_call is) some;
}
  where
    listed≢off : {by : ℕ} {said : WakeResult} → QueuePosition.Listed ≡ QueuePosition.Off by said → ⊥
    listed≢off e = cc

-- a call begins, and ends
pub carries_begun : (d : Call) → IsUp (stance d.core) → taken_count d.core ≡ 0 → WakesSome d.core
    → Carries None (Some d)
carries_begun d up counts some = record {
  listed = λ k token x is at waits. absurd (none≢some is);
  sleeps = λ k token by said x is asleep at. absurd (none≢some is);
  slept = λ k token by said x is asleep at. absurd
      (up_sleeps k token (stance d.core) up (ap (λ (y : Call). stance y.core) (same_call is) ∙ asleep));
  taker = λ x is some. absurd (none≢some is);
  counts = counts;
  stays = λ i. inr refl;
  wakeful = λ w x is. subst (λ (y : Call). WakesSome y.core) (same_call is) some;
}

pub carries_ended : (c : Call) → IsAwake (stance c.core) → taken_count c.core ≡ 0 → Carries (Some c) None
carries_ended c awake counts = record {
  listed = λ k token x is at waits. absurd
      (awake_waits k token (stance c.core) awake
      (subst (λ (y : Call). Awaits k token (stance y.core)) (sym (same_call is)) waits));
  sleeps = λ k token by said x is asleep at. absurd
      (awake_sleeps k token (stance c.core) awake (ap (λ (y : Call). stance y.core) (same_call is) ∙ asleep));
  slept = λ k token by said x is asleep at. absurd (none≢some is);
  taker = λ x is some. absurd (let same = ap (λ (y : Call). taken_count y.core) (same_call is) in omega arith);
  counts = sym counts;
  stays = λ i. absurd i;
  wakeful = λ w x is. absurd (none≢some is);
}

-- sleepers are told
pub settled_off : (t : ℕ) (said : WakeResult) (by : ℕ) (x : WakeResult) → (now : WakeResult)
    × (settled_spot t said (QueuePosition.Off by x) ≡ QueuePosition.Off by now)
settled_off t said by WakeResult.Nothing = (cond (by == t) said WakeResult.Nothing, refl)
settled_off t said by WakeResult.TryAgain = (WakeResult.TryAgain, refl)
settled_off t said by WakeResult.HandedOver = (WakeResult.HandedOver, refl)

pub unsettled_off : (t : ℕ) (said : WakeResult) (by : ℕ) (x : WakeResult) (a : QueuePosition)
    → settled_spot t said a ≡ QueuePosition.Off by x → (before : WakeResult) × (a ≡ QueuePosition.Off by before)
unsettled_off t said by x QueuePosition.Listed e = absurd (listed≢off e)
  where
    listed≢off : QueuePosition.Listed ≡ QueuePosition.Off by x → ⊥
    listed≢off e = cc
unsettled_off t said by x (QueuePosition.Off u WakeResult.Nothing) e =
    (WakeResult.Nothing, ap (λ (v : ℕ). QueuePosition.Off v WakeResult.Nothing) (same e))
  where
    same : {a b : ℕ} {y z : WakeResult} → QueuePosition.Off a y ≡ QueuePosition.Off b z → a ≡ b
    same e = cc
unsettled_off t said by x (QueuePosition.Off u WakeResult.TryAgain) e = (x, e)
unsettled_off t said by x (QueuePosition.Off u WakeResult.HandedOver) e = (x, e)

pub carries_settled : (t : ℕ) (said : WakeResult) (o : Option Call) → Carries o (option_map (settled t said) o)
carries_settled t said None = carries_same None None refl
carries_settled t said (Some c) = record {
  listed = λ k token x is at waits. (
    settled t said c,
    refl,
    ap (λ (y : Call). y.lock) (same_call is),
    ap (λ (y : Call). settled_spot t said y.spot) (same_call is) ∙ ap (settled_spot t said) at,
    subst (λ (y : Call). Awaits k token (stance y.core)) (sym (same_call is)) waits,
  );
  sleeps = λ k token by x y is asleep at.
      let now = settled_off t said by x in (
        settled t said c,
        refl,
        ap (λ (z : Call). z.lock) (same_call is),
        ap (λ (z : Call). stance z.core) (same_call is)
            ∙ asleep,
        now.0,
        ap (λ (z : Call). settled_spot t said z.spot) (same_call is)
            ∙ (ap (settled_spot t said) at ∙ now.1),
      );
  slept = λ k token by x y is asleep at.
      let before = unsettled_off t said by x c.spot (ap (λ (z : Call). z.spot) (same_call is) ∙ at) in
      (c, refl, ap (λ (z : Call). stance z.core) (same_call is) ∙ asleep, before.0, before.1);
  taker = λ x is some. (settled t said c, refl, ap (λ (y : Call). y.lock) (same_call is));
  counts = refl;
  stays = λ i. inl i;
  wakeful = λ w x is. subst (λ (y : Call). WakesSome y.core) (same_call is) (w c refl);
}

-- WHO IS TO BE WOKEN

pub no_length : {X : Type 0} (xs : List X) → length xs ≡ 0 → xs ≡ []
no_length [] h = refl
no_length (x ∷ xs) h = absurd (omega arith)

-- whom a thread is to wake, counted
pub taken_by-count : (wakes : List Wakeup) (t : ℕ) → length (taken_by wakes t) ≡ count_by (is_by t) wakes
taken_by-count wakes t = length-map (filter (is_by t) wakes) (λ w. w.thread) ∙ length-filter (is_by t) wakes

-- and without one that is in the list
pub dropped : (wakes : List Wakeup) (i : ℕ) (e : Wakeup) → slice_get wakes i ≡ Some e → (x : ℕ)
    → length (taken_by (remove wakes i) x) + flag (e.by == x) ≡ length (taken_by wakes x)
dropped wakes i e at x =
    omega (arith, count_by-remove (is_by x) wakes i e at, taken_by-count wakes x, taken_by-count (remove wakes i) x)

-- who is to be woken was taken
pub taken_some : (wakes : List Wakeup) (n : ℕ) (e : Wakeup) → slice_get wakes n ≡ Some e
    → 1 ≤ length (taken_by wakes e.by)
taken_some wakes n e at = let some = count_by-at (is_by e.by) wakes n e at (eq-eqb e.by e.by refl) in let same =
    taken_by-count wakes e.by in omega arith

pub tallied : (s : State) → LotFits s → (t : ℕ) → Tallied (length s.calls) (length (taken_by s.wakes t)) (call_at s t)
tallied s h t = go (call_at s t) refl
  where
    go : (o : Option Call) → call_at s t ≡ o → Tallied (length s.calls) (length (taken_by s.wakes t)) o
    go None e = ap length (h.untaken t e)
    go (Some c) e = h.counted t c e

-- and no more than it counts
pub tally_most : (threads n : ℕ) (o : Option Call) → Tallied threads n o → n ≤ tally o
tally_most threads n None h = omega (arith, h)
tally_most threads n (Some c) h = h.most

-- what is carried is counted as before
pub tallied_on : (threads n : ℕ) (old new : Option Call) → Carries old new → Tallied threads n old
    → Tallied threads n new
tallied_on threads n None None h k = k
tallied_on threads n None (Some d) h k = let e : taken_count d.core ≡ 0 = h.counts in
    record { most = omega (arith, k, e); few = omega (arith, e); all = λ i. omega (arith, k, e) }
tallied_on threads n (Some c) None h k = let e : 0 ≡ taken_count c.core = h.counts in omega (arith, k.most, e)
tallied_on threads n (Some c) (Some d) h k = let e : taken_count d.core ≡ taken_count c.core = h.counts in
    record { most = omega (arith, k.most, e); few = omega (arith, k.few, e); all = λ i. still e (h.stays i) }
  where
    still : taken_count d.core ≡ taken_count c.core → IsInside (stance c.core) ⊎ (taken_count c.core ≡ 0)
        → n ≡ taken_count d.core
    still e (inl j) = omega (arith, k.all j, e)
    still e (inr z) = omega (arith, k.most, z, e)

-- who has told others is in no section still
pub outs_still : (s : State) (m : Machine) → LotFits s
    → ((v : ℕ) → place_at m.places v ≡ place_at s.lot.places v)
    → ((b : ℕ) → s.lot.inside b ≡ None → m.inside b ≡ None) → TakersAreOut s m
outs_still s m h places inside v k c token by said x key sleep at asleep off place =
    inside by (h.outside v k c token by said x key sleep at asleep off (sym (places v) ∙ place))

module _ (s u : State) (h : LotFits s) (carries : (v : ℕ) → Carries (call_at s v) (call_at u v)) where
  pub waits_carried : (j k n : ℕ) (w : Waiter) → k < 2 → slice_get (s.lot.queues (2 * j + k)) n ≡ Some w
      → (c : Call) × (call_at u w.thread ≡ Some c) × (c.lock ≡ j) × (c.spot ≡ QueuePosition.Listed)
      × Awaits k w.token (stance c.core)
  waits_carried j k n w two at =
      let old = h.waits j k n w two at in
      let new = (carries w.thread).listed k w.token old.0 old.1 old.3 old.4 in
      (new.0, new.1, new.2 ∙ old.2, new.3, new.4)

  pub woken_carried : (n : ℕ) (e : Wakeup) → slice_get s.wakes n ≡ Some e
      → option_map_or mark_of (place_at u.lot.places e.thread) 0 ≡ option_map_or mark_of
      (place_at s.lot.places e.thread) 0 → IsTaken u e
  woken_carried n e at marks =
      let old = h.woken n e at in
      let some = taken_some s.wakes n e at in
      let count = (h.counted e.by old.taker old.there).most in
      let taker = (carries e.by).taker old.taker old.there (omega arith) in
      let call = (carries e.thread).sleeps old.key old.token e.by old.said old.call old.here old.asleep old.spot in
      record {
        taker = taker.0;
        there = taker.1;
        call = call.0;
        here = call.1;
        lock = call.2 ∙ (old.lock ∙ sym taker.2);
        said = call.4;
        spot = call.5;
        key = old.key;
        token = old.token;
        asleep = call.3;
        mark = marks ∙ old.mark;
      }

  -- where nobody more is to be woken
  pub carried_by : length u.calls ≡ length s.calls → Sound u.lot → u.wakes ≡ s.wakes
      → ((j k n : ℕ) (w : Waiter) → k < 2 → slice_get (u.lot.queues (2 * j + k)) n ≡ Some w → (c : Call)
      × (call_at u w.thread ≡ Some c) × (c.lock ≡ j) × (c.spot ≡ QueuePosition.Listed)
      × Awaits k w.token (stance c.core))
      → ((v k : ℕ) (token : ParkToken) (c : Call) → call_at s v ≡ Some c → stance c.core ≡ Asleep k token
      → option_map_or mark_of (place_at u.lot.places v) 0 ≡ option_map_or mark_of (place_at s.lot.places v) 0)
      → TakersAreOut s u.lot
      → ((t : ℕ) → t < length u.calls → SeatedIn u.lot t (call_at u t))
      → ((b : ℕ) (section : Section) → u.lot.sections b ≡ Some section → (t : ℕ) × (section.thread ≡ Some t)
      × (t < length u.calls))
      → LotFits u
  carried_by threads sound wakes waits marks outs seated opened = record {
    sound = sound;
    seated = seated;
    opened = opened;
    waits = waits;
    owed = λ t d key token by said is asleep at.
        let old = (carries t).slept key token by said d is asleep at in
        subst (λ (ws : List Wakeup). IsOwed ws by t) (sym wakes) (h.owed t old.0 key token by old.3 old.1 old.2 old.4);
    outside = λ v k c token by said x key sleep at asleep off place.
        let old = (carries v).slept k token by said c at asleep off in
        outs v k old.0 token by old.3 x key sleep old.1 old.2 old.4 place;
    woken = λ n e at.
        let here = ap (λ (ws : List Wakeup). slice_get ws n) (sym wakes) ∙ at in
        let old = h.woken n e here in
        woken_carried n e here (marks e.thread old.key old.token old.call old.here old.asleep);
    once = λ n m e f at at' same. h.once n m e f (ap (λ (ws : List Wakeup). slice_get ws n) (sym wakes) ∙ at)
        (ap (λ (ws : List Wakeup). slice_get ws m) (sym wakes) ∙ at') same;
    counted = λ t c is. subst (Tallied (length u.calls) (length (taken_by u.wakes t))) is (now t);
    untaken = λ t is. no_length (taken_by u.wakes t)
        (subst (Tallied (length u.calls) (length (taken_by u.wakes t))) is (now t));
    wakeful = λ t. (carries t).wakeful (h.wakeful t);
  }
    where
      now : (t : ℕ) → Tallied (length u.calls) (length (taken_by u.wakes t)) (call_at u t)
      now t =
          subst (λ (n : ℕ). Tallied n (length (taken_by u.wakes t)) (call_at u t)) (sym threads)
          (subst (λ (ws : List Wakeup). Tallied (length s.calls) (length (taken_by ws t)) (call_at u t)) (sym wakes)
          (tallied_on (length s.calls) (length (taken_by s.wakes t)) (call_at s t) (call_at u t) (carries t)
          (tallied s h t)))

  -- nor the lists change
  pub carried : length u.calls ≡ length s.calls → Sound u.lot → u.wakes ≡ s.wakes → u.lot.queues ≡ s.lot.queues
      → ((v k : ℕ) (token : ParkToken) (c : Call) → call_at s v ≡ Some c → stance c.core ≡ Asleep k token
      → option_map_or mark_of (place_at u.lot.places v) 0 ≡ option_map_or mark_of (place_at s.lot.places v) 0)
      → TakersAreOut s u.lot
      → ((t : ℕ) → t < length u.calls → SeatedIn u.lot t (call_at u t))
      → ((b : ℕ) (section : Section) → u.lot.sections b ≡ Some section → (t : ℕ) × (section.thread ≡ Some t)
      × (t < length u.calls))
      → LotFits u
  carried threads sound wakes queues marks outs seated opened =
      carried_by threads sound wakes
      (λ j k n w two at. waits_carried j k n w two
      (ap (λ (qs : ℕ → List Waiter). slice_get (qs (2 * j + k)) n) (sym queues) ∙ at)) marks outs seated opened
