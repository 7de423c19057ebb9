-- Any two owners of a lock agree.
use Rattle.std.proofs.Common.{◌≡◌, ◌≢◌, ℕ, ◌+◌, ◌<◌, true, Option, Some, None, slice_get, refl, sym, ap, ◌∙◌, subst}
use Rattle.std.proofs.Common.{arith}
use Rattle.std.specs.Option.{option_and_then}
use Rattle.std.proofs.lemmas.Option.{none-some}
use Rattle.parking_lot_rules.specs.Roles.{Role}
use Rattle.parking_lot_rules.specs.Classes.{Readers, Upgraders, Pending, Writers, Strange, weight, weighs}
use Rattle.parking_lot_rules.specs.Lists.{at_index}
use Rattle.parking_lot_rules.specs.Lock.{Lock, IsSound}
use Rattle.parking_lot_rules.specs.Mutex as mutex
use Rattle.parking_lot_rules.specs.Any.{AnyLock, AnySound, Rw, Mx}
use Rattle.parking_lot_rules.proofs.Totals.{total-at}
use Rattle.parking_lot_rules.proofs.Mutexes as mutexes
use Rattle.parking_lot_rules.proofs.Following.{owners_exclude}
use Rattle.parking_lot_rules.proofs.MutexFollowing.{mutex_tells}
use Rattle.parking_lot_machine_calls.specs.declared.calls.OwnMode.{OwnMode}
use Rattle.parking_lot_machine_calls.specs.CallViews.{Weighs, mutex_mode, owning_of, rw_mode}
use Rattle.parking_lot_machine.specs.RowFits.{FitsTogether}
use Rattle.parking_lot_machine.specs.Rows.{State, lock_at}
use Rattle.parking_lot_machine.specs.SoundLaws.{OwnersAgree, agrees}
use Rattle.parking_lot_machine.specs.Worlds.{mode_in}
use Rattle.parking_lot_machine_calls.proofs.Weighing.{weighed}

-- what the weights of two owners allow
by_weights : (a b : OwnMode) (r x p w r' x' p' w' : ℕ) → Weighs r x p w (Some a) → Weighs r' x' p' w' (Some b)
    → (0 < w → r' + x' + p' + w' ≡ 0) → (0 < w' → r + x + p + w ≡ 0) → (0 < x + p + w → x' + p' + w' ≡ 0)
    → agrees a b ≡ true
by_weights OwnMode.Shared OwnMode.Shared r x p w r' x' p' w' h k one two both = refl
by_weights OwnMode.Shared OwnMode.Upgradable r x p w r' x' p' w' h k one two both = refl
by_weights OwnMode.Shared OwnMode.Pending r x p w r' x' p' w' h k one two both = refl
by_weights OwnMode.Shared OwnMode.Exclusive r x p w r' x' p' w' h k one two both =
    absurd (omega (arith, h.0, two (omega (arith, k.3))))
by_weights OwnMode.Upgradable OwnMode.Shared r x p w r' x' p' w' h k one two both = refl
by_weights OwnMode.Upgradable OwnMode.Upgradable r x p w r' x' p' w' h k one two both =
    absurd (omega (arith, k.1, both (omega (arith, h.1))))
by_weights OwnMode.Upgradable OwnMode.Pending r x p w r' x' p' w' h k one two both =
    absurd (omega (arith, k.2, both (omega (arith, h.1))))
by_weights OwnMode.Upgradable OwnMode.Exclusive r x p w r' x' p' w' h k one two both =
    absurd (omega (arith, k.3, both (omega (arith, h.1))))
by_weights OwnMode.Pending OwnMode.Shared r x p w r' x' p' w' h k one two both = refl
by_weights OwnMode.Pending OwnMode.Upgradable r x p w r' x' p' w' h k one two both =
    absurd (omega (arith, k.1, both (omega (arith, h.2))))
by_weights OwnMode.Pending OwnMode.Pending r x p w r' x' p' w' h k one two both =
    absurd (omega (arith, k.2, both (omega (arith, h.2))))
by_weights OwnMode.Pending OwnMode.Exclusive r x p w r' x' p' w' h k one two both =
    absurd (omega (arith, k.3, both (omega (arith, h.2))))
by_weights OwnMode.Exclusive OwnMode.Shared r x p w r' x' p' w' h k one two both =
    absurd (omega (arith, k.0, one (omega (arith, h.3))))
by_weights OwnMode.Exclusive OwnMode.Upgradable r x p w r' x' p' w' h k one two both =
    absurd (omega (arith, k.1, one (omega (arith, h.3))))
by_weights OwnMode.Exclusive OwnMode.Pending r x p w r' x' p' w' h k one two both =
    absurd (omega (arith, k.2, one (omega (arith, h.3))))
by_weights OwnMode.Exclusive OwnMode.Exclusive r x p w r' x' p' w' h k one two both =
    absurd (omega (arith, k.3, one (omega (arith, h.3))))

-- a thread that owns a lock of the rules is in a role there
pub owner_role : {R : Type 0} (f : R → Option OwnMode) (o : Option R) (a : OwnMode) → option_and_then f o ≡ Some a
    → (q : R) × (o ≡ Some q) × (f q ≡ Some a)
owner_role f None a e = absurd (none-some a e)
owner_role f (Some q) a e = (q, refl, e)

module _ (l : Lock) (sound : IsSound l) where
  -- of that role, if it owns so
  pub role_weighs : (u : ℕ) (q : Role) → slice_get l.roles u ≡ Some q → Weighs (weight Readers q) (weight Upgraders q)
      (weight Pending q) (weight Writers q) (rw_mode q)
  role_weighs u q at = weighed.rw q (omega (arith, sound.fits.proper, total-at l.roles u q at Strange))

  agree : (t u : ℕ) (a b : OwnMode) → t ≢ u → option_and_then rw_mode (slice_get l.roles t) ≡ Some a
      → option_and_then rw_mode (slice_get l.roles u) ≡ Some b → agrees a b ≡ true
  agree t u a b ne e f =
      let x = owner_role rw_mode (slice_get l.roles t) a e in
      let y = owner_role rw_mode (slice_get l.roles u) b f in
      let ex = owners_exclude l sound in
      by_weights a b (weight Readers x.0) (weight Upgraders x.0) (weight Pending x.0) (weight Writers x.0)
      (weight Readers y.0) (weight Upgraders y.0) (weight Pending y.0) (weight Writers y.0)
      (subst (Weighs (weight Readers x.0) (weight Upgraders x.0) (weight Pending x.0) (weight Writers x.0)) x.2
      (role_weighs t x.0 x.1))
      (subst (Weighs (weight Readers y.0) (weight Upgraders y.0) (weight Pending y.0) (weight Writers y.0)) y.2
      (role_weighs u y.0 y.1))
      (λ some. omega (
        arith,
        ex.exclusive t u ne (omega (arith, some, ap (weighs Writers) x.1)),
        ap (weighs Readers) y.1,
        ap (weighs Upgraders) y.1,
        ap (weighs Pending) y.1,
        ap (weighs Writers) y.1,
      ))
      (λ some. omega (
        arith,
        ex.exclusive u t (λ k. ne (sym k)) (omega (arith, some, ap (weighs Writers) y.1)),
        ap (weighs Readers) x.1,
        ap (weighs Upgraders) x.1,
        ap (weighs Pending) x.1,
        ap (weighs Writers) x.1,
      ))
      (λ some. omega (
        arith,
        ex.one t u ne (omega (
          arith,
          some,
          ap (weighs Upgraders) x.1,
          ap (weighs Pending) x.1,
          ap (weighs Writers) x.1,
        )),
        ap (weighs Upgraders) y.1,
        ap (weighs Pending) y.1,
        ap (weighs Writers) y.1,
      ))

-- an owner of a mutex weighs one
one_owner : (o : Option OwnMode) (a : OwnMode) → o ≡ Some a → owning_of o ≡ 1
one_owner None a e = absurd (none-some a e)
one_owner (Some m) a e = refl

module _ (m : mutex.Mutex) (sound : mutex.IsSound m) where
  pub owner_weighs : (u : ℕ) (q : mutex.Role) (a : OwnMode) → slice_get m.roles u ≡ Some q → mutex_mode q ≡ Some a
      → mutex.weight mutex.Owning q ≡ 1
  owner_weighs u q a at e =
      weighed.mutex q (omega (arith, sound.fits.proper, mutexes.total-at m.roles u q at mutex.Strange))
      ∙ one_owner (mutex_mode q) a e

  one_alone : (t u : ℕ) (a b : OwnMode) → t ≢ u → option_and_then mutex_mode (slice_get m.roles t) ≡ Some a
      → option_and_then mutex_mode (slice_get m.roles u) ≡ Some b → ⊥
  one_alone t u a b ne e f =
      let x = owner_role mutex_mode (slice_get m.roles t) a e in
      let y = owner_role mutex_mode (slice_get m.roles u) b f in
      omega (
        arith,
        owner_weighs t x.0 a x.1 x.2,
        owner_weighs u y.0 b y.1 y.2,
        ap (at_index (mutex.weight mutex.Owning)) y.1,
        (mutex_tells m sound).alone t u ne
            (omega (arith, owner_weighs t x.0 a x.1 x.2, ap (at_index (mutex.weight mutex.Owning)) x.1)),
      )

all_agree : (l : AnyLock) → AnySound l → (t u : ℕ) (a b : OwnMode) → t ≢ u → mode_in l t ≡ Some a → mode_in l u ≡ Some b
    → agrees a b ≡ true
all_agree (Rw l) sound t u a b ne e f = agree l sound t u a b ne e f
all_agree (Mx m) sound t u a b ne e f = absurd (one_alone m sound t u a b ne e f)

pub owners_agree : (s : State) → FitsTogether s → OwnersAgree s
owners_agree s h i t u a b ne e f = all_agree (lock_at s i) (h.rules.sound.sound i) t u a b ne e f
