-- Acts of a call at a mutex lower the steps that are left of it.
use Rattle.std.proofs.Common.{◌≡◌, ◌≢◌, ℕ, zero, suc, ◌+◌, ◌-◌, ◌*◌, ◌/◌, ◌%◌, ◌<◌, ◌≤◌, ◌==◌, nat_lt, not, Bool, true}
use Rattle.std.proofs.Common.{false, cond, Some, None, refl, sym, ap, subst, arith, eq-eqb, ne_eqb, le_refl, ltb-true}
use Rattle.parking_lot_core_model.specs.declared.parking.UnparkToken.{UnparkToken}
use Rattle.parking_lot_protocol.specs.declared.act.Act.{Act}
use Rattle.parking_lot_protocol.specs.declared.act.SectionAct.TheVariants as section
use Rattle.parking_lot_protocol.specs.declared.act.CoreAnswer.{CoreAnswer}
use Rattle.parking_lot_protocol.specs.declared.act.CoreAnswer.TheVariants.{Owned, Released}
use Rattle.parking_lot_protocol.specs.declared.act.ActResult.{ActResult}
use Rattle.parking_lot_protocol.specs.declared.act.ActResult.TheVariants.{Word, Exchanged, Spun, Entered, Took, Stored}
use Rattle.parking_lot_protocol.specs.declared.act.ActResult.TheVariants.{Made, Woken}
use Rattle.parking_lot_protocol.specs.declared.mutex_phase.MutexPhase.{MutexPhase}
use Rattle.parking_lot_protocol.specs.declared.mutex_phase.MutexPhase.TheVariants.{Locking, Trying, Unlocking, Bumping}
use Rattle.parking_lot_protocol.specs.declared.mutex_phase.MutexPhase.TheVariants.{Loads, Locks, Spins, Parks, Enters}
use Rattle.parking_lot_protocol.specs.declared.mutex_phase.MutexPhase.TheVariants.{Checks, Retreats, Appends, Rests}
use Rattle.parking_lot_protocol.specs.declared.mutex_phase.MutexPhase.TheVariants.{Sleeps, TryLoads, TryLocks, Refuses}
use Rattle.parking_lot_protocol.specs.declared.mutex_phase.MutexPhase.TheVariants.{BumpLoads, Relocks, Unlocks, Looks}
use Rattle.parking_lot_protocol.specs.declared.mutex_phase.MutexPhase.TheVariants.{Takes, Stores, Leaves, Wakes}
use Rattle.parking_lot_protocol.specs.declared.mutex_phase.MutexPhase.TheVariants.{Finishes, Ends, Invalid}
use Rattle.parking_lot_protocol.specs.declared.mutex_phase.Asking.{Asking}
use Rattle.parking_lot_protocol.specs.declared.mutex_phase.Giving.{Giving}
use Rattle.parking_lot_protocol.specs.Acts.{Gives, word_after}
use Rattle.parking_lot_protocol.specs.MutexTable.{act_of, next_phase, seeks, tries, retries, begins}
use Rattle.parking_lot_rules.specs.Classes.{bit}
use Rattle.parking_lot_machine.specs.RankLaws.{Can, StopsAt, MutexStepsFall}
use Rattle.parking_lot_machine_calls.specs.Stances.{mutex_stance}
use Rattle.parking_lot_machine.specs.Ranks.{View, Unseen, Sees, Shut, wake, is_at, is_open, mutex_parks, mutex_asks}
use Rattle.parking_lot_machine.specs.Ranks.{mutex_ends, mutex_steps}

-- NUMBERS

more : (m n : ℕ) → m ≤ n → m + 1 ≤ 1 + n
more m n h = omega (arith, h)

-- what a test leaves, where its outcome is known
won_by : (b : Bool) (m n k : ℕ) → b ≡ true → k ≤ m → k ≤ cond b m n
won_by true m n k e h = h
won_by false m n k e h = absurd (let f : false ≡ true = e in cc)

lost_by : (b : Bool) (m n k : ℕ) → b ≡ false → k ≤ n → k ≤ cond b m n
lost_by true m n k e h = absurd (let f : true ≡ false = e in cc)
lost_by false m n k e h = h

-- what is at most n in both cases
at_most : {X : Type 0} (f : X → ℕ) (b : Bool) (x y : X) (n : ℕ) → f x ≤ n → f y ≤ n → f (cond b x y) ≤ n
at_most f true x y n h k = h
at_most f false x y n h k = k

parks_some : (v : View) → 4 ≤ mutex_parks v
parks_some v = elim (is_open v) as (λ b. 4 ≤ cond b 4 29) [ true ↦ omega arith | false ↦ omega arith ]

parks_few : (v : View) → mutex_parks v ≤ 29
parks_few v = elim (is_open v) as (λ b. cond b 4 29 ≤ 29) [ true ↦ omega arith | false ↦ omega arith ]

ends_some : (v : View) (g : Giving) → 1 ≤ mutex_ends v g
ends_some v g = elim g.again as (λ b. 1 ≤ cond b (2 + mutex_asks v 10) 1) [ true ↦ omega arith | false ↦ omega arith ]

-- A WORD WAS SEEN

-- One that asks has seen the word: the exchange that it makes next isn't lost, if nobody comes between.
module _ (first : ℕ) (shut : Shut) where
  waits : (a : Asking) (b : Bool) → nat_lt 0 a.rounds ≡ b → mutex_steps (Sees 1 first shut) (cond b (Spins a) (Parks a))
      ≤ mutex_asks (Sees 1 first shut) a.rounds
  waits a true e = omega (arith, ltb-true 0 a.rounds e)
  waits a false e = omega arith

  seeks_by : (a : Asking) (word : ℕ) → word < 4 → mutex_steps (Sees word first shut) (seeks a word) ≤ mutex_asks
      (Sees word first shut) a.rounds
  seeks_by a zero few = omega (arith, parks_some (Sees 0 first shut))
  seeks_by a (suc zero) few = waits a (nat_lt 0 a.rounds) refl
  seeks_by a (suc (suc zero)) few = omega (arith, parks_some (Sees 2 first shut))
  seeks_by a (suc (suc (suc zero))) few = omega arith
  seeks_by a (suc (suc (suc (suc n)))) few = absurd (omega (arith, few))

  tries_by : (left word : ℕ) → word < 4 → mutex_steps (Sees word first shut) (tries left word) ≤ 2
  tries_by left zero few = omega arith
  tries_by left (suc zero) few = omega arith
  tries_by left (suc (suc zero)) few = omega arith
  tries_by left (suc (suc (suc zero))) few = omega arith
  tries_by left (suc (suc (suc (suc n)))) few = absurd (omega (arith, few))

  -- the word is the one that was seen
  seeks_seen : (a : Asking) (n word : ℕ) → word < 4 → n ≡ word → mutex_steps (Sees word first shut) (seeks a n) ≤
      mutex_asks (Sees word first shut) a.rounds
  seeks_seen a n word few e =
      subst (λ (k : ℕ). mutex_steps (Sees word first shut) (seeks a k) ≤ mutex_asks (Sees word first shut) a.rounds)
      (sym e) (seeks_by a word few)

  tries_seen : (left n word : ℕ) → word < 4 → n ≡ word → mutex_steps (Sees word first shut) (tries left n) ≤ 2
  tries_seen left n word few e = subst (λ (k : ℕ). mutex_steps (Sees word first shut) (tries left k) ≤ 2) (sym e)
      (tries_by left word few)

  retries_seen : (left n word : ℕ) → word < 4 → n ≡ word → mutex_steps (Sees word first shut) (retries left n) ≤ 2
  retries_seen left n word few e = at_most (mutex_steps (Sees word first shut)) (nat_lt 0 left) _ _ 2
      (tries_seen (left - 1) n word few e) (omega arith)

-- THE SECTION IN WHICH ONE GOES TO SLEEP

enters : (b shut : Bool) → shut ≡ false → cond b 3 28 + 1 ≤ cond b (cond (not shut) 4 29) 29
enters true true e = absurd (let f : true ≡ false = e in cc)
enters true false e = omega arith
enters false shut e = omega arith

checks : (v : View) (woken b : Bool) → mutex_steps v (cond b Appends (Retreats woken)) + 1 ≤ cond b 3 28
checks v woken true = omega arith
checks v woken false = omega arith

retreats : (shut : Bool) → shut ≡ false → 1 + (2 * 10 + 1 + cond (not shut) 4 29) + 1 ≤ 27
retreats true e = absurd (let f : true ≡ false = e in cc)
retreats false e = omega arith

-- A RELEASE

bumps : (v : View) (b : Bool) → mutex_steps v (cond b (Unlocks (record { fair = true; again = true })) (Ends Owned)) + 1
    ≤ wake + 8 + mutex_asks v 10
bumps v true = omega arith
bumps v false = omega arith

unlocks : (v : View) (again : Bool) → mutex_steps v (cond again Relocks (Ends Released)) + 1 ≤ wake + 5 + cond again
    (2 + mutex_asks v 10) 1
unlocks v true = omega arith
unlocks v false = omega arith

leaves : (v : View) (g : Giving) (taken : Bool) → mutex_steps v (cond taken (Wakes g) (Finishes g)) + 1 ≤ wake * bit
    taken + 1 + mutex_ends v g
leaves v g true = omega arith
leaves v g false = omega arith

finishes : (fair again : Bool) (s : ActResult) (word first after : ℕ) (shut : Shut) → let p : MutexPhase =
    Finishes (record { fair = fair; again = again }) in
    Gives (act_of p) word s → mutex_steps (Sees (word_after (act_of p) s word) after shut) (next_phase p s) + 1 ≤
    mutex_steps (Sees word first shut) p
finishes fair true (Word n) word first after shut e = omega arith
finishes fair again s word first after shut e = absurd e

-- EACH ACT

falls : (p : MutexPhase) (s : ActResult) (word first after : ℕ) (shut : Shut) → word < 4 → Gives (act_of p) word s
    → Can (mutex_stance p) (act_of p) shut s
    → mutex_steps (Sees (word_after (act_of p) s word) after shut) (next_phase p s) + 1 ≤ mutex_steps
    (Sees word first shut) p
falls (Loads a) (Word n) word first after shut few g can = more _ _ (seeks_seen after shut a n word few g)
falls (Locks a waiters) Exchanged word first after shut few g can = won_by _ _ _ _ (eq-eqb word _ g) (omega arith)
falls (Locks a waiters) (Word n) word first after shut few g can = lost_by _ _ _ _ (ne_eqb word _ g.1)
    (more _ _ (seeks_seen after shut a n word few g.0))
falls (Spins a) (Spun true) word first after shut few g can = omega arith
falls (Spins a) (Spun false) word first after shut few g can = absurd (let f : Spun false ≡ Spun true = can in cc)
falls (Parks a) Exchanged word first after shut few g can = won_by _ _ _ _ (eq-eqb word 1 g) (more _ _ (le_refl _))
falls (Parks a) (Word n) word first after shut few g can = lost_by _ _ _ _ (ne_eqb word 1 g.1)
    (more _ _ (seeks_seen after shut a n word few g.0))
falls (Enters woken) Entered word first after shut few g can = enters (word == 3) shut.first can
falls (Checks woken) (Word n) word first after shut few g can =
    subst (λ (k : ℕ). mutex_steps (Sees word after shut) (cond (k == 3) Appends (Retreats woken)) + 1 ≤ cond (word == 3)
    3 28) (sym g) (checks (Sees word after shut) woken (word == 3))
falls (Retreats woken) Made word first after shut few g can = retreats shut.first can
falls Appends Made word first after shut few g can = omega arith
falls Rests Made word first after shut few g can = omega arith
falls Sleeps s word first after shut few g can = absurd can
falls TryLoads (Word n) word first after shut few g can = omega (arith, tries_seen after shut 63 n word few g)
falls (TryLocks waiters left) Exchanged word first after shut few g can = won_by _ _ _ _ (eq-eqb word _ g) (omega arith)
falls (TryLocks waiters left) (Word n) word first after shut few g can = lost_by _ _ _ _ (ne_eqb word _ g.1)
    (more _ _ (retries_seen after shut left n word few g.0))
falls BumpLoads (Word n) word first after shut few g can = bumps (Sees word after shut) (n / 2 % 2 == 1)
falls Relocks (Word n) word first after shut few g can = more _ _ (seeks_seen after shut (begins false) n word few g)
falls (Unlocks g) Exchanged word first after shut few e can = unlocks (Sees 0 after shut) g.again
falls (Unlocks g) (Word n) word first after shut few e can = omega arith
falls (Looks g) Entered word first after shut few e can = omega arith
falls (Takes g) (Took (Some token) left) word first after shut few e can = omega arith
falls (Takes g) (Took None left) word first after shut few e can = omega arith
falls (Stores g taken left) (Stored fair) word first after shut few e can = omega arith
falls (Leaves g taken handed) Made word first after shut few e can = leaves (Sees word after shut) g taken
falls (Wakes g) s word first after shut few e can = absurd can
falls (Finishes g) s word first after shut few e can = finishes g.fair g.again s word first after shut e
falls p s word first after shut few g can = absurd g

-- A WAKE, AND THE WOKEN

-- numbers for the acts of which only some phases ask
abbrev tag : Act → ℕ
tag (Act.Section section.Wake) = 1
tag (Act.Done answer) = 2
tag other = 0

-- one that has woken all doesn't wake
finishing : (again : Bool) → tag (cond again Act.Load (Act.Done Released)) ≢ 1
finishing true e = omega (arith, e)
finishing false e = omega (arith, e)

wakes : (p : MutexPhase) (v : View) → act_of p ≡ Act.Section section.Wake → mutex_steps v (next_phase p Made) + wake ≤
    mutex_steps v p
wakes (Wakes g) v e = omega arith
wakes (Finishes g) v e = absurd (finishing g.again (ap tag e))
wakes p v e = absurd (omega (arith, ap tag e))

wakes_up : (b : Bool) → mutex_steps Unseen (cond b (Ends Owned) (Loads (begins true))) + 1 ≤ 0 + wake
wakes_up true = omega arith
wakes_up false = omega arith

finishes_woken : (again : Bool) (fair : Bool) (token : UnparkToken) → let p : MutexPhase =
    Finishes (record { fair = fair; again = again }) in
    mutex_steps Unseen (next_phase p (Woken token)) + 1 ≤ mutex_steps Unseen p + wake
finishes_woken true fair token = omega arith
finishes_woken false fair token = omega arith

woken : (p : MutexPhase) (token : UnparkToken) → mutex_steps Unseen (next_phase p (Woken token)) + 1 ≤ mutex_steps
    Unseen p + wake
woken Sleeps token = wakes_up (token.0 == 1)
woken (Finishes g) token = finishes_woken g.again g.fair token
woken p token = omega arith

-- WHAT IS SEEN OF THE MACHINE

ends_few : (v : View) (again : Bool) → cond again (2 + mutex_asks v 10) 1 ≤ cond again (2 + mutex_asks Unseen 10) 1
ends_few v true = omega (arith, parks_few v)
ends_few v false = omega arith

asks_few : (v : View) (rounds : ℕ) → mutex_asks v rounds ≤ mutex_asks Unseen rounds
asks_few v rounds = omega (arith, parks_few v)

few : (p : MutexPhase) (v : View) → mutex_steps v p ≤ mutex_steps Unseen p
few p Unseen = le_refl _
few (Loads a) v = omega (arith, asks_few v a.rounds)
few (Locks a waiters) v = at_most (λ n. n) (is_at v (2 * bit waiters)) 2 _ _ (omega arith)
    (omega (arith, asks_few v a.rounds))
few (Spins a) v = omega (arith, asks_few v (a.rounds - 1))
few (Parks a) v = at_most (λ n. n) (is_at v 1) _ _ _ (omega (arith, parks_few v)) (omega (arith, asks_few v a.rounds))
few (Enters woken) v = at_most (λ n. n) (is_at v 3) _ _ _ (parks_few v) (omega arith)
few (Checks woken) v = at_most (λ n. n) (is_at v 3) 3 28 _ (omega arith) (omega arith)
few (TryLocks waiters left) v = at_most (λ n. n) (is_at v (2 * bit waiters)) 2 3 _ (omega arith) (omega arith)
few BumpLoads v = omega (arith, asks_few v 10)
few Relocks v = omega (arith, asks_few v 10)
few (Unlocks g) v = omega (arith, ends_few v g.again)
few (Looks g) v = omega (arith, ends_few v g.again)
few (Takes g) v = omega (arith, ends_few v g.again)
few (Stores g taken left) v = omega (arith, ends_few v g.again)
few (Leaves g taken handed) v = omega (arith, ends_few v g.again)
few (Wakes g) v = omega (arith, ends_few v g.again)
few (Finishes g) v = ends_few v g.again
few p v = le_refl _

-- who is shut out counts a section as if it saw nothing
module _ (word first : ℕ) (shut : Shut) (e : shut.first ≡ true) where
  shut_parks : mutex_parks (Sees word first shut) ≡ 29
  shut_parks = ap (λ b. cond (not b) 4 29) e

  ends_shut : (again : Bool) → cond again (2 + mutex_asks Unseen 10) 1 ≤ cond again
      (2 + mutex_asks (Sees word first shut) 10) 1
  ends_shut true = omega (arith, shut_parks)
  ends_shut false = le_refl _

  enters_shut : (b : Bool) → 29 ≤ cond b (mutex_parks (Sees word first shut)) 29
  enters_shut true = omega (arith, shut_parks)
  enters_shut false = omega arith

goes_on : (again : Bool) (shut : Shut) → StopsAt (cond again Act.Load (Act.Done Released)) shut → ⊥
goes_on true shut e = e
goes_on false shut e = e

stops : (p : MutexPhase) (word first : ℕ) (shut : Shut) → StopsAt (act_of p) shut
    → mutex_steps Unseen p ≤ mutex_steps (Sees word first shut) p
stops (Enters woken) word first shut e = enters_shut word first shut e (word == 3)
stops Sleeps word first shut e = omega arith
stops (Looks g) word first shut e = omega (arith, ends_shut word first shut e g.again)
stops (Finishes g) word first shut e = absurd (goes_on g.again shut e)
stops p word first shut e = absurd e

-- ENDS

ends : (p : MutexPhase) (v : View) (answer : CoreAnswer) → act_of p ≡ Act.Done answer → 1 ≤ mutex_steps v p
ends Refuses v answer e = omega arith
ends (Ends a) v answer e = omega arith
ends Invalid v answer e = omega arith
ends Locking v answer e = omega arith
ends Trying v answer e = omega arith
ends (Unlocking fair) v answer e = omega arith
ends Bumping v answer e = omega arith
ends (Finishes g) v answer e = ends_some v g
ends p v answer e = absurd (omega (arith, ap tag e))

pub steps_fall : MutexStepsFall
steps_fall = record { falls = falls; wakes = wakes; woken = woken; few = few; stops = stops; ends = ends }
