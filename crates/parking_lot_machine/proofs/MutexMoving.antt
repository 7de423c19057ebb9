-- What the core of a call at a sound mutex is told, is a step of the rules.
use Rattle.std.proofs.Common.{◌≡◌, ◌≢◌, ℕ, zero, suc, ◌<◌, ◌≤◌, ◌==◌, ◌&&◌, ◌||◌, Bool, true, false, cond, List, []}
use Rattle.std.proofs.Common.{◌∷◌, length, map, Some, None, slice_get, slice_set, refl, sym, ap, ◌∙◌, subst, arith}
use Rattle.std.proofs.lemmas.List.Sums.{sum_by-cons}
use Rattle.std.proofs.lemmas.Option.{same_Some}
use Rattle.parking_lot_core_model.specs.declared.parking.ParkToken.{ParkToken}
use Rattle.parking_lot_core_model.specs.declared.parking.UnparkToken.{UnparkToken}
use Rattle.parking_lot_core_model.specs.declared.place.Waiter.{Waiter}
use Rattle.parking_lot_core_model.specs.Machine.{threads_of}
use Rattle.parking_lot_core_model.specs.Results.{is_left}
use Rattle.parking_lot_rules.specs.Roles.{Mark, Stay}
use Rattle.parking_lot_rules.specs.Mutex as rules
use Rattle.parking_lot_rules.specs.Family.{Crossing, Comes, Goes, First}
use Rattle.parking_lot_rules.specs.Family as crossing
use Rattle.parking_lot_protocol.specs.declared.act.Act.{Act}
use Rattle.parking_lot_protocol.specs.declared.act.SectionAct.TheVariants as section
use Rattle.parking_lot_protocol.specs.declared.act.WordChange.{WordChange}
use Rattle.parking_lot_protocol.specs.declared.act.CoreAnswer.{CoreAnswer}
use Rattle.parking_lot_protocol.specs.declared.act.CoreAnswer.TheVariants.{Refused, Released}
use Rattle.parking_lot_protocol.specs.declared.act.ActResult.{ActResult}
use Rattle.parking_lot_protocol.specs.declared.act.ActResult.TheVariants.{Start, Word, Exchanged, Took, Stored, Made}
use Rattle.parking_lot_protocol.specs.declared.act.ActResult.TheVariants.{Woken}
use Rattle.parking_lot_protocol.specs.declared.mutex_phase.MutexPhase.{MutexPhase}
use Rattle.parking_lot_protocol.specs.declared.mutex_phase.MutexPhase.TheVariants.{Locking, Trying, Unlocking, Bumping}
use Rattle.parking_lot_protocol.specs.declared.mutex_phase.MutexPhase.TheVariants.{Locks, Parks, Checks, Appends}
use Rattle.parking_lot_protocol.specs.declared.mutex_phase.MutexPhase.TheVariants.{Sleeps, TryLocks, Refuses, Unlocks}
use Rattle.parking_lot_protocol.specs.declared.mutex_phase.MutexPhase.TheVariants.{Takes, Stores, Leaves, Wakes}
use Rattle.parking_lot_protocol.specs.declared.mutex_phase.MutexPhase.TheVariants.{Finishes, Ends, Invalid}
use Rattle.parking_lot_protocol.specs.declared.mutex_phase.Giving.{Giving}
use Rattle.parking_lot_protocol.specs.Acts.{Gives}
use Rattle.parking_lot_protocol.specs.MutexTable.{act_of, next_phase, wakes_with}
use Rattle.parking_lot_rules.specs.Classes.{bit, inside as is_inside}
use Rattle.parking_lot_protocol.specs.MutexRules.{QueuePosition, Listed, role, owns, owns_after, taken_of, Move, Stays}
use Rattle.parking_lot_protocol.specs.MutexRules.{Makes, Joins, TakesOne, Tells, WakesOne, IsWoken, move, last_move}
use Rattle.parking_lot_protocol.specs.MutexRules.{IsWord, IsPlain, IsMove, IsTold, mark_of}
use Rattle.parking_lot_protocol.proofs.MutexFollowing.{either, follows}
use Rattle.parking_lot_machine.specs.Rows.{mutex_word_of}
use Rattle.parking_lot_machine_calls.specs.Stances.{sign, mutex_begun}
use Rattle.parking_lot_machine.specs.RowFits.{mutex_knows}
use Rattle.parking_lot_machine.specs.RowSteps.{store_step, wake_step_of}
use Rattle.parking_lot_machine.specs.MutexLaws.{Plays, NobodyIsInside, mutex_of, Leads, LeadsBy, is_own, crossing_of}
use Rattle.parking_lot_machine.specs.MutexLaws.{move_crossing, woken_role, word_next, IsOwnStep, IsJoining, IsTaking}
use Rattle.parking_lot_machine.specs.MutexLaws.{IsTelling, IsWaking, MutexAnswersAreSteps}
use Rattle.parking_lot_machine.proofs.MutexRoles.{back, small, sound_word, awake, woken}

-- PARTS

pub same_mutex : (a b : rules.Mutex) → a.word ≡ b.word → a.roles ≡ b.roles → a.queue ≡ b.queue → a ≡ b
same_mutex a b e f g = λ i. record { word = e i; roles = f i; queue = g i }

pub set_same : {X : Type 0} (xs : List X) (i : ℕ) (x : X) → slice_get xs i ≡ Some x → slice_set xs i x ≡ xs
set_same [] i x h = refl
set_same (y ∷ ys) zero x h = ap (λ z. z ∷ ys) (sym (same_Some y x h))
set_same (y ∷ ys) (suc i) x h = ap (λ zs. y ∷ zs) (set_same ys i x h)

pub total_of_nobody : (rs : List rules.Role)
    → ((u : ℕ) (r : rules.Role) → slice_get rs u ≡ Some r → rules.weight rules.Inside r ≡ 0)
    → rules.total rules.Inside rs ≡ 0
total_of_nobody [] none = refl
total_of_nobody (r ∷ rs) none =
    omega (arith, sum_by-cons (rules.weight rules.Inside) r rs, none 0 r refl, total_of_nobody rs (λ u. none (suc u)))

-- what a thread is told is what its act gives
told : (p : MutexPhase) (x : ℕ) (s : ActResult) → Gives (act_of p) x s → IsTold p x s
told Locking x s g = absurd g
told Trying x s g = absurd g
told (Unlocking fair) x s g = absurd g
told Bumping x s g = absurd g
told p x s g = g

written_bits : (k : rules.Plain) (w : rules.Word) → IsWord w → IsWord (rules.written k w)
written_bits (rules.Lock c) w bits = record { locked = omega arith; parked = bits.parked }
written_bits (rules.Flag c) w bits = record { locked = bits.locked; parked = omega arith }
written_bits rules.Mask w bits = record { locked = bits.locked; parked = omega arith }
written_bits rules.Unlock w bits = record { locked = omega arith; parked = bits.parked }
written_bits (rules.MarkParked o) w bits = record { locked = bits.locked; parked = omega arith }
written_bits k w bits = bits

-- only a step into a section asks where the others are
may_among : (k : rules.Plain) (w : rules.Word) (all : rules.Class → ℕ) → rules.May k w (λ c. 0)
    → (move_crossing (Makes k) ≡ Comes First → all rules.Inside ≡ 0) → rules.May k w all
may_among (rules.Enter c) w all may free = free refl
may_among rules.Reenter w all may free = free refl
may_among (rules.ReenterTaken by how) w all may free = free refl
may_among rules.Look w all may free = free refl
may_among (rules.Come o) w all may free = free refl
may_among k w all may free = may

-- WHICH MOVES AND ACTS GO TOGETHER

abbrev is_alone : Move → Bool
is_alone Stays = true
is_alone (Makes k) = true
is_alone other = false

pub crossed : (v : ℕ) (p : MutexPhase) (s : ActResult) → move_crossing (move v p s) ≡ crossing_of (act_of p)
crossed v (Locks a waiters) Exchanged = refl
crossed v (Parks a) Exchanged = refl
crossed v (Checks c) (Word n) = either move_crossing (n == 3) _ _ _ refl refl
crossed v Sleeps (Woken token) = refl
crossed v (TryLocks waiters left) Exchanged = refl
crossed v (Unlocks g) Exchanged = refl
crossed v (Takes g) (Took (Some token) left) = refl
crossed v (Stores g taken left) (Stored fair) = refl
crossed v (Finishes g) s = sym (either crossing_of g.again _ _ _ refl refl)
crossed v p s = refl

alone_by : (v : ℕ) (p : MutexPhase) (s : ActResult) → is_own (act_of p) ≡ true → is_alone (move v p s) ≡ true
alone_by v (Locks a waiters) Exchanged own = refl
alone_by v (Parks a) Exchanged own = refl
alone_by v (Checks c) (Word n) own = either is_alone (n == 3) _ _ _ refl refl
alone_by v Appends s own = absurd (let e : false ≡ true = own in cc)
alone_by v Sleeps s own = absurd (let e : false ≡ true = own in cc)
alone_by v (TryLocks waiters left) Exchanged own = refl
alone_by v (Unlocks g) Exchanged own = refl
alone_by v (Takes g) s own = absurd (let e : false ≡ true = own in cc)
alone_by v (Stores g taken left) s own = absurd (let e : false ≡ true = own in cc)
alone_by v (Wakes g) s own = absurd (let e : false ≡ true = own in cc)
alone_by v p s own = refl

enters_by : (a : Act) → crossing_of a ≡ Comes First → (key : ℕ) × (a ≡ Act.Enter key)
enters_by (Act.Enter key) e = (key, refl)
enters_by (Act.Section section.Leave) e = absurd (let f : Goes First ≡ Comes First = e in cc)
enters_by a e = absurd (let f : crossing.Stays ≡ Comes First = e in cc)

-- numbers for the acts that aren't a thread's own, and for the last
abbrev tag : Act → ℕ
tag (Act.Section section.TakeFirst) = 1
tag (Act.Section (section.Append token)) = 2
tag (Act.Section (section.Store plain fair)) = 3
tag (Act.Section section.Wake) = 4
tag (Act.Done answer) = 5
tag other = 0

-- the act of one that has woken all isn't one of the others
finishing : (again : Bool) (n : ℕ) → n < 5 → 0 < n → tag (cond again Act.Load (Act.Done Released)) ≢ n
finishing true n few some e = omega (arith, few, some, e)
finishing false n few some e = omega (arith, few, some, e)

-- MOVES OF A THREAD ALONE

module _ (m : rules.Mutex) (sound : rules.IsSound m) (t v : ℕ) (p q : MutexPhase) (word : ℕ) where
  alone_leads : (mv : Move) → slice_get m.roles t ≡ Some (role Listed v p) → IsMove mv v p q m.word word
      → is_alone mv ≡ true → (move_crossing mv ≡ Comes First → NobodyIsInside m)
      → LeadsBy mv v t m (mutex_of word (slice_set m.roles t (role Listed v q)) m.queue) × (word < 4)
  alone_leads Stays at h alone free = (
    same_mutex _ m (ap mutex_word_of h.1 ∙ back m.word (sound_word m sound))
        (ap (λ r. slice_set m.roles t r) (h.0 Listed) ∙ set_same m.roles t _ at) refl,
    omega (arith, h.1, small m.word (sound_word m sound)),
  )
  alone_leads (Makes k) at h alone free =
      let bits : IsWord (rules.written k m.word) = written_bits k m.word (sound_word m sound) in (
        (
          (at ∙ ap (λ r. Some r) h.from, may_among k m.word _ h.may (λ comes. total_of_nobody m.roles (free comes))),
          same_mutex _ _ (sym (ap mutex_word_of h.written ∙ back (rules.written k m.word) bits))
              (ap (λ r. slice_set m.roles t r) (sym h.to)) refl,
        ),
        omega (arith, h.written, small (rules.written k m.word) bits),
      )
  alone_leads Joins at h alone free = absurd (let e : false ≡ true = alone in cc)
  alone_leads TakesOne at h alone free = absurd (let e : false ≡ true = alone in cc)
  alone_leads (Tells taken handed left) at h alone free = absurd (let e : false ≡ true = alone in cc)
  alone_leads WakesOne at h alone free = absurd (let e : false ≡ true = alone in cc)
  alone_leads (IsWoken handed) at h alone free = absurd (let e : false ≡ true = alone in cc)

module _ (m : rules.Mutex) (sound : rules.IsSound m) (t v : ℕ) (p : MutexPhase) (s : ActResult) where
  own_step : slice_get m.roles t ≡ Some (role Listed v p) → IsTold p (rules.number m.word) s
      → is_alone (move v p s) ≡ true → ((key : ℕ) → act_of p ≡ Act.Enter key → NobodyIsInside m)
      → IsOwnStep m (rules.number m.word) t v p s
  own_step at heard alone free =
      let h : IsMove (move v p s) v p (next_phase p s) m.word (word_next p s (rules.number m.word)) =
      follows p s m.word v (sound_word m sound) heard in
      let enters : move_crossing (move v p s) ≡ Comes First → NobodyIsInside m =
      (λ comes. let e = enters_by (act_of p) (sym (crossed v p s) ∙ comes) in free e.0 e.1) in
      let k = alone_leads m sound t v p (next_phase p s) (word_next p s (rules.number m.word)) (move v p s) at h alone
      enters in
      record { leads = k.0; small = k.1; crossing = crossed v p s }

-- who doesn't sleep has the same role wherever it stood
listed : (m : rules.Mutex) (t v : ℕ) (at : QueuePosition) (p : MutexPhase) → slice_get m.roles t ≡ Some (role at v p)
    → act_of p ≢ Act.Sleep → slice_get m.roles t ≡ Some (role Listed v p)
listed m t v at p here ne = here ∙ ap (λ r. Some r) (awake at Listed v p ne)

own_awake : (a : Act) → is_own a ≡ true → a ≢ Act.Sleep
own_awake a own e = let f : true ≡ false = sym own ∙ ap is_own e in cc

own_law : (m : rules.Mutex) (x t v : ℕ) (at : QueuePosition) (p : MutexPhase) (s : ActResult)
    → Plays m x t (role at v p) → Gives (act_of p) x s → is_own (act_of p) ≡ true
    → ((key : ℕ) → act_of p ≡ Act.Enter key → NobodyIsInside m) → IsOwnStep m x t v p s
own_law m x t v at p s plays g own free =
    subst (λ (y : ℕ). IsOwnStep m y t v p s) (sym plays.word)
    (own_step m plays.sound t v p s (listed m t v at p plays.here (own_awake (act_of p) own))
    (told p (rules.number m.word) s (subst (λ (y : ℕ). Gives (act_of p) y s) plays.word g)) (alone_by v p s own)
    free)

begins : (m : rules.Mutex) (x t v : ℕ) (p : MutexPhase) → mutex_begun p ≡ false
    → Plays m x t (record { owns = owns p; does = rules.Idle }) → IsOwnStep m x t v p Start
begins m x t v p new plays = subst (λ (y : ℕ). IsOwnStep m y t v p Start) (sym plays.word) (by_phase p new plays.here)
  where
    by_phase : (p : MutexPhase) → mutex_begun p ≡ false
        → slice_get m.roles t ≡ Some (record { owns = owns p; does = rules.Idle }) → IsOwnStep m (rules.number m.word) t
        v p Start
    by_phase Locking new here = own_step m plays.sound t v Locking Start here tt refl
        (λ key e. absurd (omega (arith, ap tag e)))
    by_phase Trying new here = own_step m plays.sound t v Trying Start here tt refl
        (λ key e. absurd (omega (arith, ap tag e)))
    by_phase (Unlocking fair) new here = own_step m plays.sound t v (Unlocking fair) Start here tt refl
        (λ key e. absurd (omega (arith, ap tag e)))
    by_phase Bumping new here = own_step m plays.sound t v Bumping Start here tt refl
        (λ key e. absurd (omega (arith, ap tag e)))
    by_phase p new here = absurd (let e : true ≡ false = new in cc)

takes_nobody : (m : rules.Mutex) (x t v : ℕ) (at : QueuePosition) (p : MutexPhase) (left : Bool)
    → Plays m x t (role at v p) → act_of p ≡ Act.Section section.TakeFirst → IsOwnStep m x t v p (Took None left)
takes_nobody m x t v at (Takes g) left plays e =
    subst (λ (y : ℕ). IsOwnStep m y t v (Takes g) (Took None left)) (sym plays.word)
    (own_step m plays.sound t v (Takes g) (Took None left) plays.here tt refl
    (λ key e. absurd (let f : Act.Section section.TakeFirst ≡ Act.Enter key = e in cc)))
takes_nobody m x t v at (Finishes g) left plays e = absurd (finishing g.again 1 (omega arith) (omega arith) (ap tag e))
takes_nobody m x t v at p left plays e = absurd (omega (arith, ap tag e))

-- MOVES THAT TOUCH THE LIST, OR OTHERS

-- the word of a sound mutex, from its number
word_back : (m : rules.Mutex) → rules.IsSound m → m.word ≡ mutex_word_of (rules.number m.word)
word_back m sound = sym (back m.word (sound_word m sound))

joins : (m : rules.Mutex) (x t v : ℕ) (at : QueuePosition) (p : MutexPhase) (token : ParkToken)
    → Plays m x t (role at v p) → act_of p ≡ Act.Section (section.Append token) → IsJoining m x t v p Made
joins m x t v at Appends token plays e =
    subst (λ (y : ℕ). IsJoining m y t v Appends Made) (sym plays.word)
    (record { move = refl; leads = (plays.here, same_mutex _ _ (word_back m plays.sound) refl refl); same = refl })
joins m x t v at (Finishes g) token plays e = absurd (finishing g.again 2 (omega arith) (omega arith) (ap tag e))
joins m x t v at p token plays e = absurd (omega (arith, ap tag e))

takes : (m : rules.Mutex) (x t v : ℕ) (at : QueuePosition) (p : MutexPhase) (token : ParkToken) (left : Bool)
    (stay : Stay) → Plays m x t (role at v p) → act_of p ≡ Act.Section section.TakeFirst
    → slice_get m.queue 0 ≡ Some v → slice_get m.roles v ≡ Some (rules.doing (rules.Queued stay))
    → IsTaking m x t v p (Took (Some token) left) stay
takes m x t v at (Takes g) token left stay plays e first there =
    subst (λ (y : ℕ). IsTaking m y t v (Takes g) (Took (Some token) left) stay) (sym plays.word)
    (record {
      move = refl;
      leads = ((plays.here, first, there), same_mutex _ _ (word_back m plays.sound) refl refl);
      same = refl;
    })
takes m x t v at (Finishes g) token left stay plays e first there =
    absurd (finishing g.again 1 (omega arith) (omega arith) (ap tag e))
takes m x t v at p token left stay plays e first there = absurd (omega (arith, ap tag e))

-- what it says to those whom it has taken
module _ (m : rules.Mutex) (t v word : ℕ) (left : Bool) (counted : rules.are_left (length m.queue) ≡ bit left) where
  told_word : (handed : Bool) → word ≡ rules.number (record { locked = bit handed; parked = bit left })
      → record { locked = bit handed; parked = rules.are_left (length m.queue) } ≡ mutex_word_of word
  told_word handed e =
      ap (λ n. same_bits (bit handed) n) counted
      ∙ sym (ap mutex_word_of e ∙ back (same_bits (bit handed) (bit left))
      (record { locked = one handed; parked = one left }))
    where
      same_bits : ℕ → ℕ → rules.Word
      same_bits l p = record { locked = l; parked = p }

      one : (b : Bool) → bit b ≤ 1
      one true = omega arith
      one false = omega arith

  tell : (taken handed : Bool) → (handed ≡ true → taken ≡ true)
      → slice_get m.roles t ≡ Some (rules.doing (rules.Unlocks (taken_of v taken))) → (taken ≡ false → m.queue ≡ [])
      → word ≡ rules.number (record { locked = bit handed; parked = bit left })
      → Leads t (store_step handed (taken_of v taken)) m
      (mutex_of word (slice_set (map (rules.settle (mark_of handed)) m.roles) t
      (rules.doing (rules.Stored (taken_of v taken)))) m.queue)
  tell true true may at none e = (at, same_mutex _ _ (told_word true e) refl refl)
  tell true false may at none e = (
    (at, λ (f : v ∷ [] ≡ []). absurd (omega (arith, ap (λ us. length us) f))),
    same_mutex _ _ (told_word false e) refl refl,
  )
  tell false true may at none e = absurd (let f : false ≡ true = may refl in cc)
  tell false false may at none e = ((at, λ f. none refl), same_mutex _ _ (told_word false e) refl refl)

left_counted : (waiters : List Waiter) → rules.are_left (length (threads_of waiters)) ≡ bit (is_left waiters)
left_counted [] = refl
left_counted (w ∷ waiters) = refl

left_none : (waiters : List Waiter) → is_left waiters ≡ false → threads_of waiters ≡ []
left_none [] e = refl
left_none (w ∷ waiters) e = absurd (let f : true ≡ false = e in cc)

tells_at : (m : rules.Mutex) (t v : ℕ) (g : Giving) (taken left is_fair : Bool) (waiters : List Waiter)
    → Plays m (rules.number m.word) t (rules.doing (rules.Unlocks (taken_of v taken))) → m.queue ≡ threads_of waiters
    → mutex_knows (Stores g taken left) waiters → IsTelling m (rules.number m.word) t v (Stores g taken left)
    (Stored is_fair)
tells_at m t v g taken left is_fair waiters plays queue knows =
    let handed : Bool = taken && (g.fair || is_fair) in
    let bits = sound_word m plays.sound in
    let h : IsMove (Tells taken handed left) v (Stores g taken left) (Leaves g taken handed) m.word
    (word_next (Stores g taken left) (Stored is_fair) (rules.number m.word)) = follows (Stores g taken left)
    (Stored is_fair) m.word v bits tt in
    let counted : rules.are_left (length m.queue) ≡ bit left = ap (λ (us : List ℕ). rules.are_left (length us)) queue
    ∙ (left_counted waiters ∙ ap bit knows.0) in
    record {
      taken = taken;
      handed = handed;
      left = left;
      move = refl;
      count = refl;
      token = said taken handed;
      leads = tell m t v _ left counted taken handed h.2 plays.here
          (λ none. queue ∙ left_none waiters (knows.0 ∙ knows.1 none)) h.3;
      small = omega (
        arith,
        h.3,
        small (record { locked = bit handed; parked = bit left })
            (record { locked = one handed; parked = one left }),
      );
    }
  where
    said : (taken handed : Bool) → wakes_with (Leaves g taken handed) ≡ sign handed
    said taken true = refl
    said taken false = refl

    one : (b : Bool) → bit b ≤ 1
    one true = omega arith
    one false = omega arith

tells : (m : rules.Mutex) (x t v : ℕ) (at : QueuePosition) (p : MutexPhase) (plain fair : WordChange) (is_fair : Bool)
    (waiters : List Waiter) → Plays m x t (role at v p)
    → act_of p ≡ Act.Section (section.Store plain fair) → m.queue ≡ threads_of waiters → mutex_knows p waiters
    → IsTelling m x t v p (Stored is_fair)
tells m x t v at (Stores g taken left) plain fair is_fair waiters plays e queue knows =
    subst (λ (y : ℕ). IsTelling m y t v (Stores g taken left) (Stored is_fair)) (sym plays.word)
    (tells_at m t v g taken left is_fair waiters (record { sound = plays.sound; word = refl; here = plays.here }) queue
    knows)
tells m x t v at (Finishes g) plain fair is_fair waiters plays e queue knows =
    absurd (finishing g.again 3 (omega arith) (omega arith) (ap tag e))
tells m x t v at p plain fair is_fair waiters plays e queue knows = absurd (omega (arith, ap tag e))

wake : (m : rules.Mutex) (t v : ℕ) (mark : Mark) (stay : Stay) (handed : Bool)
    → slice_get m.roles t ≡ Some (rules.doing (rules.Wakes (v ∷ [])))
    → slice_get m.roles v ≡ Some (rules.doing (rules.Taken t mark stay)) → is_inside stay ≡ 0 → mark ≡ mark_of handed
    → Leads t (wake_step_of stay handed v []) m
    (record m { roles = slice_set (slice_set m.roles v (woken_role handed)) t (rules.doing (rules.Wakes [])) })
wake m t v mark stay true at there out e =
    ((at, subst (λ (x : Mark). slice_get m.roles v ≡ Some (rules.doing (rules.Taken t x stay))) e there, out), refl)
wake m t v mark stay false at there out e =
    ((at, subst (λ (x : Mark). slice_get m.roles v ≡ Some (rules.doing (rules.Taken t x stay))) e there, out), refl)

wakes : (m : rules.Mutex) (x t v : ℕ) (at : QueuePosition) (p : MutexPhase) (mark : Mark) (stay : Stay)
    (token : UnparkToken) → Plays m x t (role at v p) → act_of p ≡ Act.Section section.Wake
    → slice_get m.roles v ≡ Some (rules.doing (rules.Taken t mark stay)) → is_inside stay ≡ 0
    → IsWaking m x t v p Made mark stay token
wakes m x t v at (Wakes g) mark stay token plays e there out =
    subst (λ (y : ℕ). IsWaking m y t v (Wakes g) Made mark stay token) (sym plays.word)
    (record {
      move = refl;
      leads = λ told.
          let k = wake m t v mark stay (token.0 == 1) plays.here there out told in (
            k.0,
            k.1 ∙ same_mutex _ _ (word_back m plays.sound)
                (ap (λ r. slice_set (slice_set m.roles v r) t (rules.doing (rules.Wakes [])))
                (sym (woken Listed 0 token))) refl,
          );
      same = refl;
    })
wakes m x t v at (Finishes g) mark stay token plays e there out =
    absurd (finishing g.again 4 (omega arith) (omega arith) (ap tag e))
wakes m x t v at p mark stay token plays e there out = absurd (omega (arith, ap tag e))

-- THE END

abbrev answer_of : Act → CoreAnswer
answer_of (Act.Done answer) = answer
answer_of other = Refused

last_is : (v : ℕ) (p : MutexPhase) (answer : CoreAnswer) (w : rules.Word) → mutex_begun p ≡ true
    → act_of p ≡ Act.Done answer → IsMove (last_move p) v p (Ends answer) w (rules.number w)
last_is v Locking answer w begun e = absurd (let f : false ≡ true = begun in cc)
last_is v Trying answer w begun e = absurd (let f : false ≡ true = begun in cc)
last_is v (Unlocking fair) answer w begun e = absurd (let f : false ≡ true = begun in cc)
last_is v Bumping answer w begun e = absurd (let f : false ≡ true = begun in cc)
last_is v Refuses answer w begun e =
    let same : Refused ≡ answer = ap answer_of e in
    record { from = refl; to = ap (λ a. role Listed v (Ends a)) (sym same); may = tt; written = refl }
last_is v (Finishes g) answer w begun e = by_bump g.again e
  where
    by_bump : (again : Bool) → cond again Act.Load (Act.Done Released) ≡ Act.Done answer
        → IsPlain (rules.Finish false) (role Listed v (Finishes g)) (role Listed v (Ends answer)) w (rules.number w)
    by_bump true e = absurd (omega (arith, ap tag e))
    by_bump false e = let same : Released ≡ answer = ap answer_of e in
        record { from = refl; to = ap (λ a. role Listed v (Ends a)) (sym same); may = tt; written = refl }
last_is v (Ends a) answer w begun e = let same : a ≡ answer = ap answer_of e in
    (λ at. ap (λ b. role at v (Ends b)) (sym same), refl)
last_is v Invalid answer w begun e = let same : Refused ≡ answer = ap answer_of e in
    (λ at. ap (λ b. role at v (Ends b)) (sym same), refl)
last_is v p answer w begun e = absurd (omega (arith, ap tag e))

last_alone : (p : MutexPhase) → (is_alone (last_move p) ≡ true) × (move_crossing (last_move p) ≡ crossing.Stays)
last_alone Refuses = (refl, refl)
last_alone (Finishes g) = (refl, refl)
last_alone p = (refl, refl)

done_awake : (a : Act) (answer : CoreAnswer) → a ≡ Act.Done answer → a ≢ Act.Sleep
done_awake a answer e f = omega (arith, ap tag (sym e ∙ f))

ends : (m : rules.Mutex) (x t v : ℕ) (at : QueuePosition) (p : MutexPhase) (answer : CoreAnswer)
    → Plays m x t (role at v p) → mutex_begun p ≡ true → act_of p ≡ Act.Done answer
    → LeadsBy (last_move p) v t m
    (mutex_of x (slice_set m.roles t (record { owns = owns_after answer; does = rules.Idle })) m.queue)
    × (move_crossing (last_move p) ≡ crossing.Stays)
ends m x t v at p answer plays begun e =
    let still = last_alone p in
    subst (λ (y : ℕ). LeadsBy (last_move p) v t m
    (mutex_of y (slice_set m.roles t (record { owns = owns_after answer; does = rules.Idle })) m.queue)
    × (move_crossing (last_move p) ≡ crossing.Stays)) (sym plays.word) (
      (alone_leads m plays.sound t v p (Ends answer) (rules.number m.word) (last_move p)
          (listed m t v at p plays.here (done_awake (act_of p) answer e)) (last_is v p answer m.word begun e) still.0
          (λ comes. absurd (let f : crossing.Stays ≡ Comes First = sym still.1 ∙ comes in cc))).0,
      still.1,
    )

pub steps : MutexAnswersAreSteps
steps = record {
  own = own_law;
  joins = joins;
  takes = takes;
  takes_nobody = takes_nobody;
  tells = tells;
  wakes = wakes;
  begins = begins;
  ends = ends;
}
