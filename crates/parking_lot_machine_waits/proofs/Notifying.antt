-- A notification that is about to move waiters may take as many as there are, or the first, and be told so.
use Rattle.std.proofs.Common.{◌≡◌, ◌⊎◌, ℕ, zero, suc, ◌+◌, ◌-◌, ◌==◌, ◌<◌, ◌≤◌, Bool, true, false, not, nat_lt, ◌&&◌}
use Rattle.std.proofs.Common.{List, length, take, Option, Some, None, slice_set, refl, sym, ap, ◌∙◌, subst, arith}
use Rattle.std.proofs.Common.{lt-ltb, eq-eqb, inl, inr}
use Rattle.std.specs.Option.{option_map, option_map_or}
use Rattle.std.proofs.lemmas.List.{length-take-le, length-set}
use Rattle.std.proofs.lemmas.List.Edits.{length-remove}
use Rattle.std.proofs.lemmas.Option.{none-some, same_Some, slice_get_within}
use Rattle.parking_lot_protocol_waits.specs.declared.notify_core.NotifyPhase.{NotifyPhase}
use Rattle.parking_lot_protocol_waits.specs.declared.notify_core.NotifyPhase.TheVariants as n
use Rattle.parking_lot_protocol_waits.specs.declared.wait_core.WaitPhase.{WaitPhase}
use Rattle.parking_lot_protocol_waits.specs.declared.wait_core.WaitPhase.TheVariants as w
use Rattle.parking_lot_machine_sides.specs.declared.condvar.calls.CondvarCall.{CondvarCall}
use Rattle.parking_lot_machine_sides.specs.declared.condvar.calls.CondvarCall.TheVariants as call
use Rattle.parking_lot_machine_sides.specs.declared.condvar.open_call.Core.{Core}
use Rattle.parking_lot_machine_sides.specs.declared.condvar.open_call.Core.TheVariants as core
use Rattle.parking_lot_machine_sides.specs.declared.condvar.open_call.OpenCall.{OpenCall}
use Rattle.parking_lot_machine_sides.specs.declared.condvar.outside.Outside.TheVariants as outside
use Rattle.parking_lot_machine_sides.specs.Condvar.Calls.{is_of_all, off_list}
use Rattle.parking_lot_machine_sides.specs.Condvar.Fitting.{Fits, IsNotify, Knows}
use Rattle.parking_lot_machine_sides.specs.Condvar.Machines.{State as Var, call_at, call_in, can_take, is_left}
use Rattle.parking_lot_machine_sides.specs.Condvar.Machines.{may_take}
use Rattle.parking_lot_machine_sides.specs.Condvar.Outsides.{all_taken, can_be_told, hears_by, is_whole, may_hear}
use Rattle.parking_lot_machine_sides.specs.Condvar.Outsides.{told}
use Rattle.parking_lot_machine_sides.specs.Condvar.Outsides.{told_by, woken_of}
use Rattle.parking_lot_machine_sides.specs.Condvar.Steps.{IsTaken, IsTold}
use Rattle.parking_lot_machine_sides.proofs.CondvarFacts.Slots.{call_here, within}
use Rattle.parking_lot_machine_waits.specs.declared.turn.Turn.{Turn}
use Rattle.parking_lot_machine_waits.specs.declared.turn.Turn.TheVariants as turn
use Rattle.parking_lot_machine_waits.specs.Joint.{call_in as call_of}
use Rattle.parking_lot_machine_waits.specs.JointSteps.{KnownIn, takes_now}
use Rattle.parking_lot_machine_waits.specs.Moving.{AreTaken, MayNotify, MayNotifyIn, MayTake, first_of, moved_of}
use Rattle.parking_lot_machine_waits.specs.Moving.{taken_of}
use Rattle.parking_lot_machine_waits.specs.Turns.{turn_by, turn_of, wait_turn, notify_turn}

-- it is about to look whether the mutex is locked
pub record Marking (c : OpenCall) : Type 0 where
  pub all : Bool
  pub is : c.core ≡ core.Notify (record { phase = n.Marks all })

abbrev pub is_moving : Turn → Bool
is_moving turn.Moves = true
is_moving t = false

no_wait : {X : Type 0} (listed : Bool) (p : WaitPhase) → is_moving (wait_turn listed p) ≡ true → X
no_wait listed (w.Waiting k) e = absurd cc
no_wait listed w.Stranger e = absurd cc
no_wait listed w.GivingWay e = absurd cc
no_wait listed w.Looks e = absurd cc
no_wait listed (w.Enters k) e = absurd cc
no_wait listed (w.Checks k) e = absurd cc
no_wait listed w.Retreats e = absurd cc
no_wait listed (w.Appends k) e = absurd cc
no_wait listed (w.Shows k) e = absurd cc
no_wait listed (w.Rests k) e = absurd cc
no_wait listed (w.Unlocks k) e = absurd cc
no_wait true (w.Sleeps k) e = absurd cc
no_wait false (w.Sleeps k) e = absurd cc
no_wait true (w.Expires k) e = absurd cc
no_wait false (w.Expires k) e = absurd cc
no_wait true (w.Quits k) e = absurd cc
no_wait false (w.Quits k) e = absurd cc
no_wait listed w.Forgets e = absurd cc
no_wait listed w.Masks e = absurd cc
no_wait listed (w.Leaves true) e = absurd cc
no_wait listed (w.Leaves false) e = absurd cc
no_wait listed (w.Resumes token) e = absurd cc
no_wait listed w.Yields e = absurd cc
no_wait listed (w.Locks timed_out) e = absurd cc
no_wait listed (w.Ends a) e = absurd cc
no_wait listed w.Invalid e = absurd cc

which : (p : NotifyPhase) → is_moving (notify_turn p) ≡ true → (all : Bool) × (p ≡ n.Marks all)
which (n.Notifying all) e = absurd cc
which (n.Loads all) e = absurd cc
which (n.Enters all word) e = absurd cc
which (n.Checks all word) e = absurd cc
which (n.Marks all) e = (all, refl)
which (n.Moves all locked) e = absurd cc
which (n.MarksRest notice) e = absurd cc
which (n.Forgets notice) e = absurd cc
which (n.Leaves notice) e = absurd cc
which (n.Wakes count) e = absurd cc
which (n.Ends count) e = absurd cc
which n.Invalid e = absurd cc

pub marking : (c : OpenCall) → is_moving (turn_of c) ≡ true → Marking c
marking c e = go c.core refl e
  where
    go : (k : Core) → c.core ≡ k → is_moving (turn_by c.listed k) ≡ true → Marking c
    go (core.Wait k) is e = no_wait c.listed k.phase e
    go (core.Notify k) is e =
        (let p = which k.phase e in
        record { all = p.0; is = is ∙ ap (λ (q : NotifyPhase). core.Notify (record { phase = q })) p.1 })

-- it is taking waiters, has taken so many, and so many are left
pub record Taking (t : ℕ) (all locked : Bool) (done left : ℕ) (x : Var) : Type 0 where
  pub call : OpenCall
  pub here : call_at x t ≡ Some call
  pub core : call.core ≡ core.Notify (record { phase = n.Moves all locked })
  pub taken : call.taken ≡ done
  pub queue : length x.queue ≡ left

module _ (t : ℕ) (all locked : Bool) where
  taken_more : (done left w : ℕ) (x y : Var) → Taking t all locked done left x → IsTaken t w x y
      → Taking t all locked (done + 1) (left - 1) y
  taken_more done left w x y k s =
      let same : s.call ≡ k.call = same_Some s.call k.call (sym s.here ∙ k.here) in
      record {
        call = record s.call { taken = s.call.taken + 1 };
        here = ap (λ (z : Var). call_at z t) s.became
            ∙ call_here (slice_set x.calls w (option_map off_list (call_in x.calls w))) t
            (Some (record s.call { taken = s.call.taken + 1 }))
            (subst (λ m. t < m) (sym (length-set x.calls w (option_map off_list (call_in x.calls w))))
            (within x.calls t s.call s.here));
        core = ap (λ (c : OpenCall). c.core) same ∙ k.core;
        taken = ap (λ (c : OpenCall). c.taken + 1) same ∙ ap (λ m. m + 1) k.taken;
        queue = ap (λ (z : Var). length z.queue) s.became
            ∙ omega (arith, length-remove x.queue 0, slice_get_within x.queue 0 w s.first, k.queue);
      }

  -- one of all may take where somebody waits, and one of one if it has taken nobody
  may_one : (done left : ℕ) (x : Var) → Taking t all locked done left x → 0 < left → (all ≡ true) ⊎ (done ≡ 0)
      → can_take x t ≡ true
  may_one done left x k some first = ap (λ o. option_map_or (may_take x.queue) o false) k.here ∙ go all first k.core
    where
      waits : is_left x.queue ≡ true
      waits = lt-ltb 0 (length x.queue) (omega (arith, some, k.queue))

      go : (b : Bool) → (b ≡ true) ⊎ (done ≡ 0) → k.call.core ≡ core.Notify (record { phase = n.Moves b locked })
          → may_take x.queue k.call ≡ true
      go true first is = ap (λ (c : Core). may_take x.queue (record k.call { core = c })) is ∙ waits
      go false (inl e) is = absurd cc
      go false (inr e) is =
          ap (λ (c : Core). may_take x.queue (record k.call { core = c })) is
          ∙ ap (λ m. (m == 0) && is_left x.queue) (k.taken ∙ e)
          ∙ waits

  -- all may be taken, one after another; or the first
  may_some : (n done left : ℕ) (x : Var) → all ≡ true → Taking t all locked done left x → n ≤ left → MayTake t n x
  may_some zero done left x e k low = tt
  may_some (suc n) done left x e k low = (
    may_one done left x k (omega (arith, low)) (inl e),
    λ w y s. may_some n (done + 1) (left - 1) y e (taken_more done left w x y k s) (omega (arith, low)),
  )

  may_first : (n left : ℕ) (x : Var) → Taking t all locked 0 left x → n ≤ left → n ≤ 1 → MayTake t n x
  may_first zero left x k low few = tt
  may_first (suc zero) left x k low few = (may_one 0 left x k (omega (arith, low)) (inr refl), λ w y s. tt)
  may_first (suc (suc n)) left x k low few = absurd (omega (arith, few))

  so_many : (a b c d : ℕ) (z : Var) → a ≡ c → b ≡ d → Taking t all locked a b z → Taking t all locked c d z
  so_many a b c d z e f k = subst (λ n. Taking t all locked c n z) f (subst (λ n. Taking t all locked n b z) e k)

  pub taken_all : (n done left : ℕ) (x z : Var) → Taking t all locked done left x → n ≤ left → AreTaken t n x z
      → Taking t all locked (done + n) (left - n) z
  taken_all zero done left x z k low same = so_many done left (done + 0) (left - 0) z (omega arith) (omega arith)
      (subst (λ (y : Var). Taking t all locked done left y) (sym same) k)
  taken_all (suc n) done left x z k low (y, before, w, s) =
      so_many (done + n + 1) (left - n - 1) (done + suc n) (left - suc n) z (omega arith) (omega arith)
      (taken_more (done + n) (left - n) w y z (taken_all n done left x y k (omega (arith, low)) before) s)

-- it has looked whether the mutex is locked
pub looked : (t : ℕ) (all locked : Bool) (c : OpenCall) (x y : Var) → call_at x t ≡ Some c
    → c.core ≡ core.Notify (record { phase = n.Marks all }) → c.taken ≡ 0 → IsTold t (outside.Marked locked) x y
    → Taking t all locked 0 (length x.queue) y
looked t all locked c x y here is none s =
    let same : s.call ≡ c = same_Some s.call c (sym s.here ∙ here) in
    let its : s.call.core ≡ core.Notify (record { phase = n.Marks all }) = ap (λ (d : OpenCall). d.core) same ∙ is in
    record {
      call = told s.call x.queue (outside.Marked locked);
      here = ap (λ (z : Var). call_at z t) s.became
          ∙ call_here x.calls t (Some (told s.call x.queue (outside.Marked locked))) (within x.calls t s.call s.here);
      core = ap (λ (k : Core). (told_by s.call (is_left x.queue) (outside.Marked locked) k).core) its;
      taken = ap (λ (k : Core). (told_by s.call (is_left x.queue) (outside.Marked locked) k).taken) its
          ∙ ap (λ (d : OpenCall). d.taken) same ∙ none;
      queue = ap (λ (z : Var). length z.queue) s.became;
    }

nobody_there : (b : Bool) → not (b && false) ≡ true
nobody_there true = refl
nobody_there false = refl

first_two : (n : ℕ) → first_of n ≤ 1
first_two zero = omega arith
first_two (suc n) = omega arith

first_low : (n : ℕ) → first_of n ≤ n
first_low zero = omega arith
first_low (suc n) = omega arith

-- how many of so many: all, or the first
abbrev count_of : Bool → ℕ → ℕ
count_of true n = n
count_of false n = first_of n

whole : (all : Bool) (waiting left : ℕ) → left ≡ waiting - count_of all waiting
    → is_whole all (count_of all waiting) (nat_lt 0 left) ≡ true
whole true waiting left e = ap (λ m. not (nat_lt 0 m)) (the_rest)
  where
    the_rest : left ≡ 0
    the_rest = omega (arith, e)
whole false zero left e = ap (λ m. nat_lt 0 2 && not (nat_lt 0 m && true)) e
whole false (suc n) left e = nobody_there (nat_lt 0 left)

both : (a b : Bool) → a ≡ true → b ≡ true → (a && b) ≡ true
both true b x y = y
both false b x y = absurd cc

is_told_all : (t n : ℕ) (all locked : Bool) (left : ℕ) (z : Var) → Taking t all locked n left z
    → is_whole all n (nat_lt 0 left) ≡ true → can_be_told z t (moved_of locked n) ≡ true
is_told_all t n all locked left z k all_of =
    ap (λ o. option_map_or (may_hear z.queue (moved_of locked n)) o false) k.here
    ∙ ap (λ (c : Core). hears_by k.call (is_left z.queue) (moved_of locked n) c) k.core
    ∙ ap (λ m. all_taken m (is_left z.queue) all locked (woken_of locked n) (n - woken_of locked n)) k.taken
    ∙ both _ _ (ap (λ m. is_whole all n (nat_lt 0 m)) k.queue ∙ all_of)
    (both _ _ (eq-eqb (woken_of locked n) (woken_of locked n) refl)
    (eq-eqb (n - woken_of locked n) (n - woken_of locked n) refl))

count_low : (all : Bool) (n : ℕ) → count_of all n ≤ n
count_low true n = omega arith
count_low false n = first_low n

notifies : (t : ℕ) (all locked : Bool) (c : OpenCall) (x : Var) → call_at x t ≡ Some c
    → c.core ≡ core.Notify (record { phase = n.Marks all }) → c.taken ≡ 0
    → MayNotify t locked (count_of all (length x.queue)) x
notifies t all locked c x here is none =
    let waiting = length x.queue in
    let few = count_low all waiting in
    record {
      looks = ap (λ o. option_map_or (may_hear x.queue (outside.Marked locked)) o false) here
          ∙ ap (λ (k : Core). hears_by c (is_left x.queue) (outside.Marked locked) k) is;
      takes = λ y s. by_all all y (looked t all locked c x y here is none s);
      tells = λ y z s taken. (
          let k = taken_all t all locked (count_of all waiting) 0 waiting y z (looked t all locked c x y here is none s)
          few taken in
          let k2 = subst (λ m. Taking t all locked m (waiting - count_of all waiting) z)
          (zero_more (count_of all waiting)) k in
          is_told_all t (count_of all waiting) all locked (waiting - count_of all waiting) z k2
          (whole all waiting (waiting - count_of all waiting) refl)
          );
    }
  where
    zero_more : (m : ℕ) → 0 + m ≡ m
    zero_more m = omega arith

    by_all : (b : Bool) (y : Var) → Taking t b locked 0 (length x.queue) y → MayTake t (count_of b (length x.queue)) y
    by_all true y k = may_some t true locked (length x.queue) 0 (length x.queue) y refl k (omega arith)
    by_all false y k = may_first t false locked (first_of (length x.queue)) (length x.queue) y k
        (first_low (length x.queue)) (first_two (length x.queue))

-- what is known of it there
pub marks_knows : (x : Var) (t : ℕ) (c : OpenCall) (all : Bool) → Fits x → call_at x t ≡ Some c
    → c.core ≡ core.Notify (record { phase = n.Marks all }) → IsNotify c.call
    × ((all ≡ is_of_all c.call) × (c.taken ≡ 0) × (x.beside ≡ Some (x.word - 1)))
marks_knows x t c all fits here is =
    subst (λ (k : Core). Knows c.call c.listed (length x.calls) x.word x.beside (length x.queue) c.taken k) is
    (fits.seated t c here).knows

count_is : (c : CondvarCall) (n : ℕ) → IsNotify c → count_of (is_of_all c) n ≡ taken_of c n
count_is call.NotifyOne n h = refl
count_is call.NotifyAll n h = refl
count_is (call.Wait m) n h = absurd h
count_is (call.WaitUntil m) n h = absurd h

pub may_notifies : (o : Option Var) (t : ℕ) (c : OpenCall) (locked : Bool) → KnownIn o → call_of o t ≡ Some c
    → turn_of c ≡ turn.Moves → MayNotifyIn t locked (length (takes_now c.call o)) o
may_notifies None t c locked known here is = absurd (none-some c here)
may_notifies (Some x) t c locked known here is =
    let mark = marking c (ap is_moving is) in
    let knows = marks_knows x t c mark.all known.0 here mark.is in
    let count : count_of mark.all (length x.queue) ≡ length (take (taken_of c.call (length x.queue)) x.queue) =
    ap (λ b. count_of b (length x.queue)) knows.1.0 ∙ count_is c.call (length x.queue) knows.0
    ∙ sym (taken_length (taken_of c.call (length x.queue)) x.queue (taken_low c.call (length x.queue))) in
    subst (λ m. MayNotify t locked m x) count (notifies t mark.all locked c x here mark.is knows.1.1)
  where
    taken_low : (d : CondvarCall) (n : ℕ) → taken_of d n ≤ n
    taken_low call.NotifyAll n = omega arith
    taken_low call.NotifyOne n = first_low n
    taken_low (call.Wait m) n = omega arith
    taken_low (call.WaitUntil m) n = omega arith

    taken_length : (n : ℕ) (q : List ℕ) → n ≤ length q → length (take n q) ≡ n
    taken_length n q low = length-take-le n q low
