-- Locks of every kind: somebody can move, and a waiter that is moved is seen at both its locks.
use Rattle.std.proofs.Common.{◌≡◌, ℕ, zero, suc, ◌+◌, ◌<◌, ◌≤◌, ◌⊎◌, ⊎_elim, Bool, true, false, IsTrue, List, [], ◌∷◌}
use Rattle.std.proofs.Common.{remove, Option, Some, None, slice_get, refl, sym, ap, ◌∙◌, subst, inl, inr, arith, sum_by}
use Rattle.std.proofs.lemmas.List.Sums.{sum_by-cons}
use Rattle.std.proofs.lemmas.Option.{none-some, same_Some}
use Rattle.parking_lot_rules.specs.Roles.{Stay, Fresh, Back, Role}
use Rattle.parking_lot_rules.specs.Classes as rw_classes
use Rattle.parking_lot_rules.specs.Lists.{occurs, at_index}
use Rattle.parking_lot_rules.specs.Laws as rw
use Rattle.parking_lot_rules.specs.Progress.{is_before}
use Rattle.parking_lot_rules.specs.Family.{Key, First, Second, key, section, Family}
use Rattle.parking_lot_rules.specs.Mutex as mutex
use Rattle.parking_lot_rules.specs.Mutex.{Mutex}
use Rattle.parking_lot_rules.specs.MutexLaws as mutex_laws
use Rattle.parking_lot_rules.specs.Variable as variable
use Rattle.parking_lot_rules.specs.Variable.{Variable}
use Rattle.parking_lot_rules.specs.Any.{Rw, Mx, MxStep}
use Rattle.parking_lot_rules.specs.Every.{EveryLock, Of, Cv, OfStep, CvStep, every_rules, every_inside, EverySound}
use Rattle.parking_lot_rules.specs.Every.{IsSoundEverywhere, Two, IsAsleepAt, WorksAt, IsBefore, OwnsIdly, mutex_before}
use Rattle.parking_lot_rules.specs.Every.{variable_before, is_busy, SomebodyMoves, SleepersAreServed, NoDeadlock}
use Rattle.parking_lot_rules.specs.Every.{NobodyIsForgotten, Requeues, IsRequeued, RequeuesAreSeenAtBoth}
use Rattle.parking_lot_rules.proofs.Waiting.{occurs-cons, occurs-push, counted-same}
use Rattle.parking_lot_rules.proofs.Moving as moving
use Rattle.parking_lot_rules.proofs.Following as following
use Rattle.parking_lot_rules.proofs.MutexFollowing as mutex_following
use Rattle.parking_lot_rules.proofs.Everys.{acts_sound}

mutex_works : (o : Bool) (p : mutex.Phase) → mutex.weight mutex.Inside (record { owns = o; does = p }) ≡ 1
    → IsTrue (mutex_laws.is_at_work p) × ((x : Key) → mutex_before p x ≡ false)
unfolding mutex.weight
mutex_works o (mutex.Enters c) h = (refl, λ x. refl)
mutex_works o mutex.Checked h = (refl, λ x. refl)
mutex_works o (mutex.Queued Fresh) h = (refl, λ x. refl)
mutex_works o (mutex.Queued Back) h = (refl, λ x. refl)
mutex_works o (mutex.Taken by how Fresh) h = (refl, λ x. refl)
mutex_works o (mutex.Taken by how Back) h = (refl, λ x. refl)
mutex_works o mutex.Masks h = (refl, λ x. refl)
mutex_works o mutex.Leaves h = (refl, λ x. refl)
mutex_works o (mutex.Unlocks us) h = (refl, λ x. refl)
mutex_works o (mutex.Stored us) h = (refl, λ x. refl)
mutex_works o mutex.Comes h = (refl, λ x. refl)
mutex_works o mutex.Moves h = (refl, λ x. refl)
mutex_works o p h = absurd (omega (arith, h))

variable_works : (p : variable.Phase) → variable.weight variable.Inside p ≡ 1 → IsTrue (is_busy p)
    × ((x : Key) → variable_before p x ≡ false)
unfolding variable.weight
variable_works (variable.Enters k) h = (refl, λ x. refl)
variable_works (variable.Checked k) h = (refl, λ x. refl)
variable_works (variable.Joined k) h = (refl, λ x. refl)
variable_works (variable.Queued k Fresh) h = (refl, λ x. refl)
variable_works (variable.Queued k Back) h = (refl, λ x. refl)
variable_works variable.Leaves h = (refl, λ x. refl)
variable_works variable.Notifies h = (refl, λ x. refl)
variable_works variable.Left h = (refl, λ x. refl)
variable_works p h = absurd (omega (arith, h))

-- a thread whose weight isn't 0 has a role
abbrev HasRole : {R : Type 0} → (R → ℕ) → List R → ℕ → Type 0
HasRole {R} f rs u = (r : R) × (slice_get rs u ≡ Some r) × (f r ≡ 1)

role_there : {R : Type 0} (f : R → ℕ) (rs : List R) (u : ℕ) → at_index f (slice_get rs u) ≡ 1 → HasRole f rs u
role_there {R} f rs u h = go (slice_get rs u) refl
  where
    go : (o : Option R) → slice_get rs u ≡ o → HasRole f rs u
    go None e = absurd (omega (arith, h, ap (at_index f) e))
    go (Some r) e = (r, e, sym (ap (at_index f) e) ∙ h)

not_both : (b : Bool) → b ≡ false → IsTrue b → ⊥
not_both true e h = cc
not_both false e h = cc

-- who is inside a section works there, and isn't about to enter one
inside_works : (recursive : ℕ → Bool) (l : EveryLock) (x : Key) (u : ℕ) → every_inside recursive l x u ≡ 1 → WorksAt l u
    × ((y : Key) → IsBefore l u y → ⊥)
inside_works recursive (Of (Rw l)) x u h =
    let r = role_there (λ (s : Role). rw_classes.weight (section x) s) l.roles u h in
    let works = moving.inside_works x r.0 r.2 in (
      (r.0, r.1, works.0),
      λ y b. not_both _ (ap (λ (s : Role). is_before s.does y) (same_Some b.0 r.0 (sym b.1 ∙ r.1)) ∙ works.1 y) b.2,
    )
inside_works recursive (Of (Mx m)) First u h =
    let r = role_there (λ (s : mutex.Role). mutex.weight mutex.Inside s) m.roles u h in
    let works = mutex_works r.0.owns r.0.does r.2 in (
      (r.0, r.1, works.0),
      λ y b. not_both _ (ap (λ (s : mutex.Role). mutex_before s.does y) (same_Some b.0 r.0 (sym b.1 ∙ r.1))
          ∙ works.1 y) b.2,
    )
inside_works recursive (Of (Mx m)) Second u h = absurd (omega (arith, h))
inside_works recursive (Cv v) First u h =
    let r = role_there (λ (s : variable.Phase). variable.weight variable.Inside s) v.phases u h in
    let works = variable_works r.0 r.2 in (
      (r.0, r.1, works.0),
      λ y b. not_both _ (ap (λ (s : variable.Phase). variable_before s y) (same_Some b.0 r.0 (sym b.1 ∙ r.1))
          ∙ works.1 y) b.2,
    )
inside_works recursive (Cv v) Second u h = absurd (omega (arith, h))

-- where a thread sleeps, one works there, or owns the lock
lock_up : (recursive : ℕ → Bool) (l : EveryLock) → EverySound recursive l → (u : ℕ) → IsAsleepAt l u
    → ((v : ℕ) × WorksAt l v) ⊎ ((v : ℕ) × OwnsIdly l v)
lock_up recursive (Of (Rw l)) sound u a =
    let x = following.somebody_can_move l sound u a.0 a.1 a.2 in
    ⊎_elim (λ work. inl (x.0, (x.1, x.2, work))) (λ owner. inr (x.0, (x.1, x.2, owner))) x.3
lock_up recursive (Of (Mx m)) sound u a =
    let x = mutex_following.somebody_can_move m sound u a.0 a.1 a.2 in
    ⊎_elim (λ work. inl (x.0, (x.1, x.2, work))) (λ owner. inr (x.0, (x.1, x.2, owner.0, owner.1))) x.3
lock_up recursive (Cv v) sound u a = absurd a

true_or : (b : Bool) → IsTrue b ⊎ (b ≡ false)
true_or true = inl refl
true_or false = inr refl

asleep_or : (l : EveryLock) (u : ℕ) → IsAsleepAt l u ⊎ (IsAsleepAt l u → ⊥)
asleep_or (Of (Rw l)) u = go (slice_get l.roles u) refl
  where
    go : (o : Option Role) → slice_get l.roles u ≡ o → IsAsleepAt (Of (Rw l)) u ⊎ (IsAsleepAt (Of (Rw l)) u → ⊥)
    go None e = inr (λ a. none-some a.0 (sym e ∙ a.1))
    go (Some r) e = ⊎_elim (λ yes. inl (r, e, yes))
        (λ no. inr (λ a. not_both _ (ap (λ (s : Role). rw.is_asleep s.does) (same_Some a.0 r (sym a.1 ∙ e)) ∙ no) a.2))
        (true_or (rw.is_asleep r.does))
asleep_or (Of (Mx m)) u = go (slice_get m.roles u) refl
  where
    go : (o : Option mutex.Role) → slice_get m.roles u ≡ o → IsAsleepAt (Of (Mx m)) u ⊎ (IsAsleepAt (Of (Mx m)) u → ⊥)
    go None e = inr (λ a. none-some a.0 (sym e ∙ a.1))
    go (Some r) e = ⊎_elim (λ yes. inl (r, e, yes))
        (λ no. inr (λ a. not_both _
        (ap (λ (s : mutex.Role). mutex_laws.is_asleep s.does) (same_Some a.0 r (sym a.1 ∙ e)) ∙ no) a.2))
        (true_or (mutex_laws.is_asleep r.does))
asleep_or (Cv v) u = inr (λ a. a)

at_most : (at : List ℕ) (u i : ℕ) → slice_get at u ≡ Some i → i ≤ sum_by (λ (x : ℕ). x) at
at_most [] u i e = absurd (none-some i e)
at_most (x ∷ at) zero i e = omega (arith, sum_by-cons (λ (y : ℕ). y) x at, same_Some x i e)
at_most (x ∷ at) (suc u) i e = omega (arith, sum_by-cons (λ (y : ℕ). y) x at, at_most at u i e)

module _ (bucket : ℕ → ℕ) (recursive : ℕ → Bool) (f : Family EveryLock) (sound : IsSoundEverywhere bucket recursive f)
  where
    -- whoever has entered a bucket can move
    entered_moves : (b u : ℕ) → f.entered b ≡ Some u → SomebodyMoves bucket f
    entered_moves b u e =
        let x = sound.is_inside b u e in
        let works = inside_works recursive (f.locks x.0) x.1 u x.3 in
        (x.0, u, works.0, λ y before. absurd (works.1 y before))

    works_move : (i u : ℕ) → WorksAt (f.locks i) u → SomebodyMoves bucket f
    works_move i u work = go (f.entered (bucket (key i First))) refl (f.entered (bucket (key i Second))) refl
      where
        go : (a : Option ℕ) → f.entered (bucket (key i First)) ≡ a → (b : Option ℕ)
            → f.entered (bucket (key i Second)) ≡ b → SomebodyMoves bucket f
        go (Some v) e b g = entered_moves (bucket (key i First)) v e
        go None e (Some v) g = entered_moves (bucket (key i Second)) v g
        go None e None g = (i, u, work, both)
          where
            both : (k : Key) → IsBefore (f.locks i) u k → f.entered (bucket (key i k)) ≡ None
            both First before = e
            both Second before = g

    served : SleepersAreServed bucket f
    served i u asleep = ⊎_elim (λ w. inl (works_move i w.0 w.1)) (λ owner. inr owner)
        (lock_up recursive (f.locks i) (sound.sound i) u asleep)

    abbrev Ends : Type 0
    Ends = SomebodyMoves bucket f ⊎ ((v j : ℕ) × OwnsIdly (f.locks j) v × ((x : ℕ) → IsAsleepAt (f.locks x) v → ⊥))

    -- an owner sleeps nowhere, or at a higher lock
    owner : (at : List ℕ) → ((i u : ℕ) → IsAsleepAt (f.locks i) u → slice_get at u ≡ Some i)
        → ((i j u : ℕ) → IsAsleepAt (f.locks i) u → OwnsIdly (f.locks j) u → j < i)
        → (i v : ℕ) → OwnsIdly (f.locks i) v → ((j : ℕ) → IsAsleepAt (f.locks j) v → i < j → Ends) → Ends
    owner at there rise i v owns next = go (slice_get at v) refl
      where
        go : (o : Option ℕ) → slice_get at v ≡ o → Ends
        go None e = inr (v, i, owns, λ x a. none-some x (sym e ∙ there x v a))
        go (Some j) e = ⊎_elim
            (λ sleeps. next j sleeps (rise j i v sleeps owns))
            (λ up. inr (
              v,
              i,
              owns,
              λ x a. up (subst (λ (y : ℕ). IsAsleepAt (f.locks y) v) (same_Some x j (sym (there x v a) ∙ e)) a),
            ))
            (asleep_or (f.locks j) v)

    -- from a sleeper to one that sleeps higher, and so on
    climb : (at : List ℕ) → ((i u : ℕ) → IsAsleepAt (f.locks i) u → slice_get at u ≡ Some i)
        → ((i j u : ℕ) → IsAsleepAt (f.locks i) u → OwnsIdly (f.locks j) u → j < i)
        → (fuel i u : ℕ) → IsAsleepAt (f.locks i) u → sum_by (λ (x : ℕ). x) at < fuel + i → SomebodyMoves bucket f
        ⊎ ((v j : ℕ) × OwnsIdly (f.locks j) v × ((x : ℕ) → IsAsleepAt (f.locks x) v → ⊥))
    climb at there rise zero i u asleep near = absurd (omega (arith, near, at_most at u i (there i u asleep)))
    climb at there rise (suc fuel) i u asleep near = ⊎_elim
        (λ moves. inl moves)
        (λ x. owner at there rise i x.0 x.1
        (λ j sleeps up. climb at there rise fuel j x.0 sleeps (omega (arith, near, up))))
        (served i u asleep)

    alive : NoDeadlock bucket f
    alive at there rise i u asleep = climb at there rise (suc (sum_by (λ (x : ℕ). x) at)) i u asleep (omega arith)

    pub nobody_is_forgotten : NobodyIsForgotten bucket recursive f
    nobody_is_forgotten = record { served = served; alive = alive }

-- the first of a list
first_left : (q : List ℕ) (v : ℕ) → slice_get q 0 ≡ Some v → q ≡ v ∷ remove q 0
first_left [] v at = absurd (none-some v at)
first_left (x ∷ q) v at = ap (λ y. y ∷ q) (same_Some x v at)

waits_once : (k : ℕ) (stay : Stay) → variable.weight variable.Waiting (variable.Queued k stay) ≡ 1
unfolding variable.weight
waits_once k stay = refl

away_waits : mutex.weight mutex.Waiting mutex.away ≡ 0
unfolding mutex.weight
away_waits = refl

module _ (bucket : ℕ → ℕ) (recursive : ℕ → Bool) (f : Family EveryLock) (sound : IsSoundEverywhere bucket recursive f)
  where
    requeued : (cv mx t v : ℕ) (owns : Bool) (stay : Stay) (g : Family EveryLock)
        → Requeues bucket recursive cv mx t v owns stay f g → IsRequeued cv mx v f g
    requeued cv mx t v owns stay g made = go (f.locks cv) refl (f.locks mx) refl
      where
        found : (var : Variable) (m : Mutex) → f.locks cv ≡ Cv var → f.locks mx ≡ Of (Mx m)
            → variable.Allowed t (variable.Release v mx stay) var → mutex.Allowed t (mutex.Requeue owns v) m
            → IsRequeued cv mx v f g
        found var m e h may may_too =
            let sound_var : variable.IsSound var = subst (EverySound recursive) e (sound.sound cv) in
            let sound_mutex : mutex.IsSound m = subst (EverySound recursive) h (sound.sound mx) in
            let first : var.queue ≡ v ∷ remove var.queue 0 = first_left var.queue v may.1 in
            let was : occurs v var.queue ≡ 1 = sound_var.waiting.each v
            ∙ (ap (at_index (variable.weight variable.Waiting)) may.2 ∙ waits_once mx stay) in
            let none : occurs v m.queue ≡ 0 = sound_mutex.waiting.each v
            ∙ (ap (at_index (mutex.weight mutex.Waiting)) may_too.1 ∙ away_waits) in
            record {
              variable = var;
              mutex = m;
              was = e;
              was_mutex = h;
              variable_after = variable.after t (variable.Release v mx stay) var;
              mutex_after = mutex.after t (mutex.Requeue owns v) m;
              is = made.here_one ∙ ap ((every_rules recursive).after t (CvStep (variable.Release v mx stay))) e;
              is_mutex = made.here_two
                  ∙ ap ((every_rules recursive).after t (OfStep (MxStep (mutex.Requeue owns v)))) h;
              left = first;
              joined = refl;
              gone = omega (
                arith,
                was,
                ap (λ q. occurs v q) first,
                occurs-cons v v (remove var.queue 0),
                counted-same v,
              );
              once = omega (arith, none, occurs-push v m.queue v, counted-same v);
              shown = sound_var.agrees v (variable.Queued mx stay) may.2;
            }

        go : (a : EveryLock) → f.locks cv ≡ a → (b : EveryLock) → f.locks mx ≡ b → IsRequeued cv mx v f g
        go (Cv var) e (Of (Mx m)) h =
            found var m e h (subst ((every_rules recursive).allowed cv t (CvStep (variable.Release v mx stay))) e
            made.allowed_one)
            (subst ((every_rules recursive).allowed mx t (OfStep (MxStep (mutex.Requeue owns v)))) h made.allowed_two)
        go (Of l) e b h = absurd
            (subst ((every_rules recursive).allowed cv t (CvStep (variable.Release v mx stay))) e made.allowed_one)
        go (Cv var) e (Of (Rw l)) h =
            absurd (subst ((every_rules recursive).allowed mx t (OfStep (MxStep (mutex.Requeue owns v)))) h
            made.allowed_two)
        go (Cv var) e (Cv other) h =
            absurd (subst ((every_rules recursive).allowed mx t (OfStep (MxStep (mutex.Requeue owns v)))) h
            made.allowed_two)

    pub requeues_are_seen : RequeuesAreSeenAtBoth bucket recursive f
    requeues_are_seen cv mx t v owns stay g made = (
      requeued cv mx t v owns stay g made,
      acts_sound bucket recursive t
          (Two cv mx (Some (CvStep (variable.Release v mx stay))) (Some (OfStep (MxStep (mutex.Requeue owns v))))) f g
          sound made,
    )
