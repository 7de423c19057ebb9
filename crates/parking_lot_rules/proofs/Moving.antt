-- Somebody can move, over many locks.
use Rattle.std.proofs.Common.{◌≡◌, ◌≢◌, ℕ, zero, suc, ◌+◌, ◌<◌, ◌≤◌, ◌⊎◌, ⊎_elim, false, IsTrue, ◌==◌, List, [], ◌∷◌}
use Rattle.std.proofs.Common.{map, Option, Some, None, option_map, slice_get, refl, sym, ap, ◌∙◌, subst, inl, inr}
use Rattle.std.proofs.Common.{arith, sum_by}
use Rattle.std.proofs.lemmas.Bool.{cases_eq}
use Rattle.std.proofs.lemmas.Option.{none-some, same_Some, slice_get-map}
use Rattle.std.proofs.lemmas.List.Sums.{sum_by-cons}
use Rattle.parking_lot_rules.specs.Roles.{Owned, Shares, Fresh, Asleep, Back, Phase, Idle, Enters1, Checked1, Queued1}
use Rattle.parking_lot_rules.specs.Roles.{Taken1, Masks1, Leaves1, Enters2, Checked2, Queued2, Taken2, Leaves2, Scans1}
use Rattle.parking_lot_rules.specs.Roles.{Stored1, Scans2, Masked2, Role}
use Rattle.parking_lot_rules.specs.Classes.{Inside1, Inside2, weight, weighs}
use Rattle.parking_lot_rules.specs.Family.{Key, First, Second, key, section, within, IsSoundFamily}
use Rattle.parking_lot_rules.specs.World.{Place, World, seen, role_at, lock_at, family}
use Rattle.parking_lot_rules.specs.Laws.{is_asleep, is_at_work, IsOwner}
use Rattle.parking_lot_rules.specs.Progress.{is_before, SomebodyMoves, SleepersAreServed, SectionsAreEntered, LocksRise}
use Rattle.parking_lot_rules.specs.Progress.{NoDeadlock}
use Rattle.parking_lot_rules.proofs.Following.{somebody_can_move}
use Rattle.parking_lot_rules.proofs.Families.{nobody_inside}
use Rattle.parking_lot_rules.proofs.Worlds.{seen-here, seen-elsewhere}

-- who is inside a section is at work, and isn't about to enter one
first_works : (o : Owned) (p : Phase) → weight Inside1 (record { owns = o; does = p }) ≡ 1 → IsTrue (is_at_work p)
    × ((x : Key) → is_before p x ≡ false)
unfolding weight
first_works o (Enters1 m c) h = (refl, λ x. refl)
first_works o (Checked1 m) h = (refl, λ x. refl)
first_works o (Queued1 m Fresh) h = (refl, λ x. refl)
first_works o (Queued1 m Back) h = (refl, λ x. refl)
first_works o (Taken1 m by how Fresh) h = (refl, λ x. refl)
first_works o (Taken1 m by how Back) h = (refl, λ x. refl)
first_works o Masks1 h = (refl, λ x. refl)
first_works o Leaves1 h = (refl, λ x. refl)
first_works o (Scans1 c r u w us) h = (refl, λ x. refl)
first_works o (Stored1 us) h = (refl, λ x. refl)
first_works o p h = absurd (omega arith)

-- who is inside a section is at work, and isn't about to enter one
second_works : (o : Owned) (p : Phase) → weight Inside2 (record { owns = o; does = p }) ≡ 1 → IsTrue (is_at_work p)
    × ((x : Key) → is_before p x ≡ false)
unfolding weight
second_works o (Enters2 f c) h = (refl, λ x. refl)
second_works o (Checked2 f) h = (refl, λ x. refl)
second_works o (Queued2 f Fresh) h = (refl, λ x. refl)
second_works o (Queued2 f Back) h = (refl, λ x. refl)
second_works o (Taken2 f by Fresh) h = (refl, λ x. refl)
second_works o (Taken2 f by Back) h = (refl, λ x. refl)
second_works o (Leaves2 f) h = (refl, λ x. refl)
second_works o (Scans2 us) h = (refl, λ x. refl)
second_works o (Masked2 us) h = (refl, λ x. refl)
second_works o p h = absurd (omega arith)

pub inside_works : (k : Key) (r : Role) → weight (section k) r ≡ 1 → IsTrue (is_at_work r.does)
    × ((x : Key) → is_before r.does x ≡ false)
inside_works First r h = first_works r.owns r.does h
inside_works Second r h = second_works r.owns r.does h

idle_rests : (p : Phase) → p ≡ Idle → IsTrue (is_at_work p) → ⊥
idle_rests p e work = let h : is_at_work p ≡ false = ap is_at_work e in cc

asleep_busy : (p : Phase) → IsTrue (is_asleep p) → p ≢ Idle
asleep_busy p asleep e = let h : is_asleep p ≡ false = ap is_asleep e in cc

idle_or : (p : Phase) → (p ≡ Idle) ⊎ (IsTrue (is_asleep p) ⊎ IsTrue (is_at_work p))
idle_or Idle = inl refl
idle_or (Queued1 m Asleep) = inr (inl refl)
idle_or (Taken1 m by how Asleep) = inr (inl refl)
idle_or (Queued2 f Asleep) = inr (inl refl)
idle_or (Taken2 f by Asleep) = inr (inl refl)
idle_or p = inr (inr refl)

module _ (bucket : ℕ → ℕ) (w : World) (sound : IsSoundFamily bucket (family w)) where
  -- the place behind a role that does something
  place_of : (i u : ℕ) (r : Role) → slice_get (map (role_at i) w.places) u ≡ Some r → (p : Place)
      × (slice_get w.places u ≡ Some p) × (role_at i p ≡ r)
  place_of i u r at = go (slice_get w.places u) refl
    where
      go : (o : Option Place) → slice_get w.places u ≡ o → (p : Place) × (slice_get w.places u ≡ Some p)
          × (role_at i p ≡ r)
      go None e = absurd (none-some r (sym (slice_get-map (role_at i) w.places u ∙ ap (option_map (role_at i)) e) ∙ at))
      go (Some p) e = (
        p,
        e,
        same_Some (role_at i p) r (sym (slice_get-map (role_at i) w.places u ∙ ap (option_map (role_at i)) e) ∙ at),
      )

  role_of : (i u : ℕ) (p : Place) → slice_get w.places u ≡ Some p → slice_get (map (role_at i) w.places) u ≡ Some
      (role_at i p)
  role_of i u p at = slice_get-map (role_at i) w.places u ∙ ap (option_map (role_at i)) at

  -- a role that does something is that of the lock where the thread is
  busy_there : (i : ℕ) (p : Place) → (role_at i p).does ≢ Idle → p.at ≡ i
  busy_there i p busy = ⊎_elim (λ e. e) (λ ne. absurd (busy (seen-elsewhere i p.at p.does ne))) (cases_eq p.at i)

  busy_same : (i : ℕ) (p : Place) → (role_at i p).does ≢ Idle → (role_at i p).does ≡ p.does
  busy_same i p busy = ap (λ x. seen (x == i) p.does) (busy_there i p busy) ∙ seen-here i p.does

  -- whoever has entered a bucket can move
  entered_moves : (b u : ℕ) → w.entered b ≡ Some u → SomebodyMoves bucket w
  entered_moves b u e =
      let x = sound.is_inside b u e in
      let r = role_there x.0 x.1 u x.3 in
      let q = place_of x.0 u r.0 r.1 in
      let works = inside_works x.1 r.0 r.2 in
      let busy : (role_at x.0 q.0).does ≢ Idle =
      λ idle. idle_rests r.0.does (ap (λ (y : Role). y.does) (sym q.2) ∙ idle) works.0 in
      let same : r.0.does ≡ q.0.does = ap (λ (y : Role). y.does) (sym q.2) ∙ busy_same x.0 q.0 busy in (
        u,
        q.0,
        q.1,
        record {
          work = subst (λ p. IsTrue (is_at_work p)) same works.0;
          free = λ k before. absurd (let h : is_before q.0.does k ≡ false = ap (λ p. is_before p k) (sym same)
              ∙ works.1 k in cc);
        },
      )
    where
      role_there : (i : ℕ) (k : Key) (u : ℕ) → within (family w) i k u ≡ 1 → (r : Role)
          × (slice_get (map (role_at i) w.places) u ≡ Some r) × (weight (section k) r ≡ 1)
      role_there i k u h = go (slice_get (map (role_at i) w.places) u) refl
        where
          go : (o : Option Role) → slice_get (map (role_at i) w.places) u ≡ o → (r : Role)
              × (slice_get (map (role_at i) w.places) u ≡ Some r) × (weight (section k) r ≡ 1)
          go None e = absurd (omega (arith, h, ap (weighs (section k)) e))
          go (Some r) e = (r, e, sym (ap (weighs (section k)) e) ∙ h)

  -- one at work can move, or stands before a bucket that another has entered, which can
  at_work_moves : (u : ℕ) (p : Place) → slice_get w.places u ≡ Some p → IsTrue (is_at_work p.does)
      → SomebodyMoves bucket w
  at_work_moves u p at work = go (w.entered (bucket (key p.at First))) refl (w.entered (bucket (key p.at Second))) refl
    where
      go : (a : Option ℕ) → w.entered (bucket (key p.at First)) ≡ a → (b : Option ℕ)
          → w.entered (bucket (key p.at Second)) ≡ b → SomebodyMoves bucket w
      go (Some v) e b f = entered_moves (bucket (key p.at First)) v e
      go None e (Some v) f = entered_moves (bucket (key p.at Second)) v f
      go None e None f = (u, p, at, record { work = work; free = both })
        where
          both : (k : Key) → IsTrue (is_before p.does k) → w.entered (bucket (key p.at k)) ≡ None
          both First before = e
          both Second before = f

  pub sleepers_are_served : SleepersAreServed bucket w
  sleepers_are_served u p at asleep =
      let seen_so : (role_at p.at p).does ≡ p.does = seen-here p.at p.does in
      let x = somebody_can_move (lock_at w p.at) (sound.sound p.at) u (role_at p.at p) (role_of p.at u p at)
      (subst (λ y. IsTrue (is_asleep y)) (sym seen_so) asleep) in
      let q = place_of p.at x.0 x.1 x.2 in
      ⊎_elim
      (λ work.
      let busy : (role_at p.at q.0).does ≢ Idle =
      λ idle. idle_rests x.1.does (ap (λ (y : Role). y.does) (sym q.2) ∙ idle) work in
      inl (at_work_moves x.0 q.0 q.1
      (subst (λ y. IsTrue (is_at_work y)) (ap (λ (y : Role). y.does) (sym q.2) ∙ busy_same p.at q.0 busy) work)))
      (λ owner. inr (x.0, q.0, q.1, subst IsOwner (sym q.2) owner))
      x.3

  -- no place is at a lock beyond this number
  at_most : (ps : List Place) (u : ℕ) (p : Place) → slice_get ps u ≡ Some p → p.at ≤ sum_by (λ (q : Place). q.at) ps
  at_most [] u p at = absurd (none-some p at)
  at_most (x ∷ ps) zero p at =
      omega (arith, sum_by-cons (λ (q : Place). q.at) x ps, ap (λ (q : Place). q.at) (same_Some x p at))
  at_most (x ∷ ps) (suc u) p at = omega (arith, sum_by-cons (λ (q : Place). q.at) x ps, at_most ps u p at)

  -- from a sleeper to one that sleeps higher, and so on
  climb : LocksRise w → (fuel u : ℕ) (p : Place) → slice_get w.places u ≡ Some p → IsTrue (is_asleep p.does)
      → sum_by (λ (q : Place). q.at) w.places < fuel + p.at
      → SomebodyMoves bucket w
      ⊎ ((v i : ℕ) × (q : Place) × (slice_get w.places v ≡ Some q) × (q.does ≡ Idle) × (q.owns i ≢ Shares 0))
  climb rise zero u p at asleep near = absurd (omega (arith, near, at_most w.places u p at))
  climb rise (suc fuel) u p at asleep near = ⊎_elim
      (λ moves. inl moves)
      (λ x. ⊎_elim
      (λ idle. inr (x.0, p.at, x.1, x.2, idle, x.3.1))
      (λ busy. ⊎_elim
      (λ sleeps. climb rise fuel x.0 x.1 x.2 sleeps (omega (arith, near, rise x.0 p.at x.1 x.2 sleeps x.3)))
      (λ works. inl (at_work_moves x.0 x.1 x.2 works))
      busy)
      (idle_or x.1.does))
      (sleepers_are_served u p at asleep)

  pub no_deadlock : NoDeadlock bucket w
  no_deadlock rise u p at asleep = climb rise (suc (sum_by (λ (q : Place). q.at) w.places)) u p at asleep (omega arith)

  pub sections_are_entered : SectionsAreEntered bucket w
  sections_are_entered =
      record {
        inside = sound.entered;
        entered = sound.is_inside;
        nobody = λ i k free. nobody_inside bucket (family w)
            sound i k free;
      }
