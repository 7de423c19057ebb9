-- Holds of a shard may stand at one time, and are of threads that there are.
use Rattle.std.proofs.Common.{◌≡◌, ℕ, ◌<◌, true, false, length, Option, Some, None, slice_get, refl, sym, ap, ◌∙◌}
use Rattle.std.specs.List.{All}
use Rattle.std.specs.Option.{option_and_then, option_map}
use Rattle.std.proofs.lemmas.Bool.{false≢true}
use Rattle.std.proofs.lemmas.Option.{none-some, same_Some, slice_get-map}
use Rattle.lock_api_desk.specs.declared.mode.Mode.{Mode}
use Rattle.lock_api_desk.specs.declared.mode.Mode.TheVariants as held
use Rattle.lock_api_desk.specs.Guards.{excludes}
use Rattle.parking_lot_rules.specs.Owners.{owners, standing}
use Rattle.parking_lot_rules.specs.Roles.{Role}
use Rattle.parking_lot_machine_calls.specs.declared.calls.LockKind.TheVariants as kind
use Rattle.parking_lot_machine_calls.specs.declared.calls.OwnMode.{OwnMode}
use Rattle.parking_lot_machine.specs.Rows.{State, rw_lock_at, rw_role_at}
use Rattle.parking_lot_machine.specs.SoundLaws.{OwnersAgree, agrees}
use Rattle.mapworld_state.specs.Locks.Seats.{GoTogether}
use Rattle.mapworld_state.specs.Locks.Views.{held_as, held_at, mode_at}
use Rattle.mapworld_state.proofs.LocksFacts.Handing.{held_is, mode_is}
use Rattle.mapworld_state.proofs.LocksFacts.Lists.{among_all}
use Rattle.mapworld_state.proofs.LocksFacts.Owning.{mode_standing, owned_in}

-- owners that agree hold beside each other
beside : (a b : OwnMode) (m n : Mode) → held_as (Some a) ≡ Some m → held_as (Some b) ≡ Some n → agrees a b ≡ true
    → excludes m n ≡ false
beside OwnMode.Shared OwnMode.Shared m n e f h = ap (λ x. excludes x n) (sym (same_Some held.Shared m e))
    ∙ ap (excludes held.Shared) (sym (same_Some held.Shared n f))
beside OwnMode.Shared OwnMode.Upgradable m n e f h = ap (λ x. excludes x n) (sym (same_Some held.Shared m e))
    ∙ ap (excludes held.Shared) (sym (same_Some held.Upgradable n f))
beside OwnMode.Shared OwnMode.Pending m n e f h = absurd (none-some n f)
beside OwnMode.Shared OwnMode.Exclusive m n e f h = absurd (false≢true h)
beside OwnMode.Upgradable OwnMode.Shared m n e f h = ap (λ x. excludes x n) (sym (same_Some held.Upgradable m e))
    ∙ ap (excludes held.Upgradable) (sym (same_Some held.Shared n f))
beside OwnMode.Upgradable OwnMode.Upgradable m n e f h = absurd (false≢true h)
beside OwnMode.Upgradable OwnMode.Pending m n e f h = absurd (false≢true h)
beside OwnMode.Upgradable OwnMode.Exclusive m n e f h = absurd (false≢true h)
beside OwnMode.Pending b m n e f h = absurd (none-some m e)
beside OwnMode.Exclusive b m n e f h = absurd (false≢true h)

some_owner : (o : Option OwnMode) (m : Mode) → held_as o ≡ Some m → (a : OwnMode) × (o ≡ Some a)
some_owner None m e = absurd (none-some m e)
some_owner (Some a) m e = (a, refl)

-- The holds of a shard go together, where owners agree.
pub go_together : (s : State) (i : ℕ) → All (λ k. k ≡ kind.Rw) s.kinds → OwnersAgree s → GoTogether (held_at s i)
go_together s i rws agree t v m n ne e f =
    let (a, x) = some_owner (mode_at s i t) m e in
    let (b, y) = some_owner (mode_at s i v) n f in
    beside a b m n (ap held_as (sym x) ∙ e) (ap held_as (sym y) ∙ f)
    (agree i t v a b ne (sym (mode_is s rws i t) ∙ x) (sym (mode_is s rws i v) ∙ y))

-- whoever holds a shard is a thread of the machine
pub holders_are_threads : (s : State) (i : ℕ) → All (λ k. k ≡ kind.Rw) s.kinds → (v : ℕ) (m : Mode)
    → held_at s i v ≡ Some m → v < length s.calls
holders_are_threads s i rws v m e = at (slice_get (rw_lock_at s i).roles v) refl
  where
    known : held_as (owned_in (owners (rw_lock_at s i)).threads v) ≡ Some m
    known = sym (held_is s rws i v) ∙ e

    at : (o : Option Role) → slice_get (rw_lock_at s i).roles v ≡ o → v < length s.calls
    at None f = absurd
        (none-some m (sym
        (ap (λ x. held_as (option_and_then mode_standing x))
        (slice_get-map standing (rw_lock_at s i).roles v ∙ ap (option_map standing) f)) ∙ known))
    at (Some r) f = (among_all (rw_role_at s i) (length s.calls) v r f).0
