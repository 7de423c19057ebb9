-- What follows for a sound mutex.
use Rattle.std.proofs.Common.{◌≡◌, ◌≢◌, ℕ, suc, ◌<◌, ◌≤◌, ◌⊎◌, ⊎_elim, Bool, true, false, IsTrue, List, [], ◌∷◌, length}
use Rattle.std.proofs.Common.{Option, Some, None, slice_get, slice_set, refl, ap, ◌∙◌, inl, inr, arith}
use Rattle.std.proofs.lemmas.List.Sums.{sum_by-cons}
use Rattle.parking_lot_rules.specs.Roles.{Fresh, Asleep, Late, Back, Mark, Open, Normal, Handed}
use Rattle.parking_lot_rules.specs.Lists.{occurs, at_index}
use Rattle.parking_lot_rules.specs.Mutex.{Phase, Idle, Seeks, Enters, Queued, Taken, Unlocks, Stored, Wakes, Role, away}
use Rattle.parking_lot_rules.specs.Mutex.{Class, Owning, Waiting, Masking, Called, Strange, weight, total, phase_note}
use Rattle.parking_lot_rules.specs.Mutex.{phase_wakes, note_of, Mutex, IsSound}
use Rattle.parking_lot_rules.specs.MutexLaws.{MutexTells, NothingIsLeft, is_asleep, IsWaker, SleepersAreKnown, owes}
use Rattle.parking_lot_rules.specs.MutexLaws.{SomebodyOwes, DebtsAreKept, is_at_work, SomebodyIsUp, SomebodyCanMove}
use Rattle.parking_lot_rules.proofs.Indexed.{get-set_other}
use Rattle.parking_lot_rules.proofs.Finding.{none_or}
use Rattle.parking_lot_rules.proofs.MutexRuns.{total-none}
use Rattle.parking_lot_rules.proofs.Mutexes.{total-at, away_weighs}

somebody : (c : Class) (rs : List Role) → 0 < total c rs → (u : ℕ) × (r : Role) × (slice_get rs u ≡ Some r)
    × (0 < weight c r)
somebody c [] some = absurd (omega arith)
somebody c (r ∷ rs) some = ⊎_elim
    (λ none. let more = somebody c rs (omega (arith, sum_by-cons (weight c) r rs, none)) in
    (suc more.0, more.1, more.2, more.3))
    (λ here. (0, r, refl, here))
    (none_or (weight c r))

called_case : (o : Bool) (p : Phase) → 0 < weight Called (record { owns = o; does = p }) → IsTrue (owes p)
    ⊎ ((by : ℕ) × (mark : Mark) × (phase_note p ≡ Some (by, mark)))
unfolding weight
called_case o (Seeks true) some = inl refl
called_case o (Seeks false) some = absurd (omega arith)
called_case o (Enters c) some = inl refl
called_case o (Taken by Normal Asleep) some = inr (by, Normal, refl)
called_case o (Taken by Normal Fresh) some = inl refl
called_case o (Taken by Normal Late) some = inl refl
called_case o (Taken by Normal Back) some = inl refl
called_case o p some = absurd (omega arith)

owner_case : (o : Bool) (p : Phase) → 0 < weight Owning (record { owns = o; does = p })
    → weight Strange (record { owns = o; does = p }) ≡ 0
    → IsTrue (is_at_work p)
    ⊎ (((o ≡ true) × (p ≡ Idle)) ⊎ ((by : ℕ) × (mark : Mark) × (phase_note p ≡ Some (by, mark))))
unfolding weight
owner_case true Idle some proper = inr (inl (refl, refl))
owner_case false Idle some proper = absurd (omega arith)
owner_case true (Queued Asleep) some proper = absurd (omega arith)
owner_case false (Queued Asleep) some proper = absurd (omega arith)
owner_case o (Taken by Open Asleep) some proper = inr (inr (by, Open, refl))
owner_case o (Taken by Normal Asleep) some proper = inr (inr (by, Normal, refl))
owner_case o (Taken by Handed Asleep) some proper = inr (inr (by, Handed, refl))
owner_case o p some proper = inl refl

waker_owes : (p : Phase) (mark : Mark) (u : ℕ) → 0 < occurs u (phase_wakes p mark) → IsTrue (owes p)
waker_owes (Unlocks us) mark u some = refl
waker_owes (Stored us) mark u some = refl
waker_owes (Wakes (v ∷ us)) mark u some = refl
waker_owes (Wakes []) Open u some = absurd (omega arith)
waker_owes (Wakes []) Normal u some = absurd (omega arith)
waker_owes (Wakes []) Handed u some = absurd (omega arith)
waker_owes p mark u some = absurd (omega arith)

owes_works : (p : Phase) → IsTrue (owes p) → IsTrue (is_at_work p)
owes_works Idle o = absurd cc
owes_works (Queued Asleep) o = absurd cc
owes_works (Taken by how Asleep) o = absurd cc
owes_works p o = refl

module _ (m : Mutex) (sound : IsSound m) where
  weighs_le : (c : Class) (u : ℕ) (r : Role) → slice_get m.roles u ≡ Some r → weight c r ≤ total c m.roles
  weighs_le c u r at = omega (arith, total-at m.roles u r at c)

  pub mutex_tells : MutexTells m
  mutex_tells = record {
    number = omega (arith, sound.fits);
    bit = sound.fits.bit;
    alone = λ t u ne some. two t u ne (slice_get m.roles t) refl (slice_get m.roles u) refl some;
  }
    where
      two : (t u : ℕ) → t ≢ u → (a : Option Role) → slice_get m.roles t ≡ a → (b : Option Role)
          → slice_get m.roles u ≡ b → 0 < at_index (weight Owning) (slice_get m.roles t)
          → at_index (weight Owning) (slice_get m.roles u) ≡ 0
      two t u ne None e b f some = absurd (omega (arith, some, ap (at_index (weight Owning)) e))
      two t u ne (Some r) e None f some = ap (at_index (weight Owning)) f
      two t u ne (Some r) e (Some s) f some =
          omega (
            arith,
            sound.fits,
            some,
            ap (at_index (weight Owning)) e,
            ap (at_index (weight Owning)) f,
            total-at m.roles t r e Owning,
            total-at (slice_set m.roles t away) u s (get-set_other m.roles t u away ne ∙ f) Owning,
          )

  pub nothing_is_left : NothingIsLeft m
  nothing_is_left gone = (
    omega (arith, sound.fits, none Owning, none Waiting, none Masking),
    empty m.queue (sound.waiting.count ∙ none Waiting),
  )
    where
      none : (c : Class) → total c m.roles ≡ 0
      none c = total-none c m.roles (λ u r at. ap (weight c) (gone u r at) ∙ away_weighs c)

      empty : (q : List ℕ) → length q ≡ 0 → q ≡ []
      empty [] e = refl
      empty (x ∷ q) e = absurd (omega (arith, e))

  waker : (u by : ℕ) (r : Role) (mark : Mark) → slice_get m.roles u ≡ Some r → note_of r ≡ Some (by, mark)
      → IsWaker m by u
  waker u by r mark at took = let s = sound.noted u by r mark at took in (s.0, mark, s.1, s.2)

  sleeper : (u : ℕ) (o : Bool) (p : Phase) → slice_get m.roles u ≡ Some (record { owns = o; does = p })
      → IsTrue (is_asleep p) → (occurs u m.queue ≡ 1) ⊎ ((by : ℕ) × IsWaker m by u)
  unfolding weight
  sleeper u o (Queued Asleep) at asleep = inl (sound.waiting.each u ∙ ap (at_index (weight Waiting)) at)
  sleeper u o (Taken by Open Asleep) at asleep = inr (by, waker u by _ Open at refl)
  sleeper u o (Taken by Normal Asleep) at asleep = inr (by, waker u by _ Normal at refl)
  sleeper u o (Taken by Handed Asleep) at asleep = inr (by, waker u by _ Handed at refl)
  sleeper u o p at asleep = absurd cc

  pub sleepers_are_known : SleepersAreKnown m
  sleepers_are_known =
      record { queue = sound.waiting.each; asleep = λ u r at asleep. sleeper u r.owns r.does at asleep }

  waker_is_up : (by u : ℕ) → IsWaker m by u → SomebodyOwes m
  waker_is_up by u x = (by, x.0, x.2, waker_owes x.0.does x.1 u x.3)

  pub debts_are_kept : DebtsAreKept m
  debts_are_kept some free =
      let x = somebody Called m.roles
      (omega (arith, sound.fits.debt (omega (arith, some, sound.waiting.count)), free, sound.fits)) in
      ⊎_elim (λ h. (x.0, x.1, x.2, h)) (λ h. waker_is_up h.0 x.0 (waker x.0 h.0 x.1 h.1 x.2 h.2))
      (called_case x.1.owns x.1.does x.3)

  up : SomebodyOwes m → SomebodyIsUp m
  up x = (x.0, x.1, x.2, inl (owes_works x.1.does x.3))

  owner_up : 0 < total Owning m.roles → SomebodyIsUp m
  owner_up some =
      let x = somebody Owning m.roles some in
      ⊎_elim
      (λ work. (x.0, x.1, x.2, inl work))
      (λ more. ⊎_elim (λ owner. (x.0, x.1, x.2, inr owner))
      (λ h. up (waker_is_up h.0 x.0 (waker x.0 h.0 x.1 h.1 x.2 h.2))) more)
      (owner_case x.1.owns x.1.does x.3 (omega (arith, sound.fits.proper, weighs_le Strange x.0 x.1 x.2)))

  sleeper_up : (u : ℕ) (o : Bool) (p : Phase) → slice_get m.roles u ≡ Some (record { owns = o; does = p })
      → IsTrue (is_asleep p) → SomebodyIsUp m
  unfolding weight
  sleeper_up u o (Queued Asleep) at asleep =
      ⊎_elim (λ free. up (debts_are_kept (omega (arith, sound.waiting.count, weighs_le Waiting u _ at)) free)) owner_up
      (none_or (total Owning m.roles))
  sleeper_up u o (Taken by Open Asleep) at asleep = up (waker_is_up by u (waker u by _ Open at refl))
  sleeper_up u o (Taken by Normal Asleep) at asleep = up (waker_is_up by u (waker u by _ Normal at refl))
  sleeper_up u o (Taken by Handed Asleep) at asleep = up (waker_is_up by u (waker u by _ Handed at refl))
  sleeper_up u o p at asleep = absurd cc

  pub somebody_can_move : SomebodyCanMove m
  somebody_can_move u r at asleep = sleeper_up u r.owns r.does at asleep
