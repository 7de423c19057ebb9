-- Who plays a part at a once.
use Rattle.std.proofs.Common.{◌≡◌, ◌≢◌, ℕ, Bool, true, false, cond, ◌==◌, List, length, Option, Some, None, slice_get}
use Rattle.std.proofs.Common.{refl, sym, ap, eqb-true}
use Rattle.parking_lot_rules.specs.declared.once.wish.Wish.{Wish}
use Rattle.parking_lot_rules.specs.Once.Once.{Role, Idle, Word, Once, Step, Plain, Alone, Begin, Start, Complete}
use Rattle.parking_lot_rules.specs.Once.Once.{Refuse, Flag, Enter, Check, Retreat, Rest, Return, Finish, Look, Store}
use Rattle.parking_lot_rules.specs.Once.Once.{Depart, Leave, Allowed, after, May, written, from, to, Class, Inside}
use Rattle.parking_lot_rules.specs.Once.Once.{Listed, weight, total, number, waits}
use Rattle.parking_lot_protocol_waits.specs.declared.once.once_phase.OnceAnswer.TheVariants as end
use Rattle.parking_lot_protocol_waits.specs.declared.once.once_phase.OncePhase.{OncePhase}
use Rattle.parking_lot_protocol_waits.specs.declared.once.once_phase.OncePhase.TheVariants.{Asking, Returning, Loads}
use Rattle.parking_lot_protocol_waits.specs.declared.once.once_phase.OncePhase.TheVariants.{Starts, Spins, Parks}
use Rattle.parking_lot_protocol_waits.specs.declared.once.once_phase.OncePhase.TheVariants.{Enters, Checks, Retreats}
use Rattle.parking_lot_protocol_waits.specs.declared.once.once_phase.OncePhase.TheVariants.{Appends, Rests, Sleeps}
use Rattle.parking_lot_protocol_waits.specs.declared.once.once_phase.OncePhase.TheVariants.{Stores, Looks, Scans}
use Rattle.parking_lot_protocol_waits.specs.declared.once.once_phase.OncePhase.TheVariants.{Clears, Leaves, Wakes}
use Rattle.parking_lot_protocol_waits.specs.declared.once.once_phase.OncePhase.TheVariants.{Finishes, Ends, Invalid}
use Rattle.parking_lot_protocol_waits.specs.Once.OnceMoves.{Known, role}
use Rattle.parking_lot_machine_sides.specs.Once.Entries.{list_of}
use Rattle.parking_lot_machine_sides.specs.declared.once.open_call.OpenCall.{OpenCall}
use Rattle.parking_lot_machine_sides.specs.Once.Onces.{Onces, call_at, role_in, role_at, once_at}
use Rattle.parking_lot_machine_sides.proofs.OnceFacts.Acting.{plays}
use Rattle.parking_lot_rules.proofs.Everybody.{was-all}
use Rattle.parking_lot_rules.specs.Once.Once as rules

-- one that isn't idle there is in a call there
pub in_role : (i : ℕ) (us : List ℕ) (o : Option OpenCall) (r : Role) → role_in i us o ≡ r → r ≢ Idle → (b : OpenCall)
    × (o ≡ Some b) × (b.once ≡ i) × (plays b us ≡ r)
in_role i us None r e busy = absurd (busy (sym e))
in_role i us (Some b) r e busy = go (b.once == i) refl e
  where
    go : (x : Bool) → (b.once == i) ≡ x → cond x (plays b us) Idle ≡ r → (y : OpenCall)
        × (◌≡◌ {A = Option OpenCall} (Some b) (Some y)) × (y.once ≡ i) × (plays y us ≡ r)
    go true f g = (b, refl, eqb-true b.once i f, g)
    go false f g = absurd (busy (sym g))

same_wish : (a b : Wish) → rules.Sleeps a ≡ rules.Sleeps b → a ≡ b
same_wish a b e = cc

-- one that sleeps in the list
pub sleeps_so : (by : Option ℕ) (k : Known) (p : OncePhase) (wish : Wish) → role by k p ≡ rules.Sleeps wish
    → (p ≡ Sleeps wish) × (by ≡ None)
sleeps_so None k (Sleeps w) wish e = (ap (λ x. Sleeps x) (same_wish w wish e), refl)
sleeps_so (Some u) k (Sleeps w) wish e = absurd cc
sleeps_so by k (Ends (end.Runs before)) wish e = absurd cc
sleeps_so by k (Ends end.Completed) wish e = absurd cc
sleeps_so by k (Ends end.Poisoned) wish e = absurd cc
sleeps_so by k (Ends end.Finished) wish e = absurd cc
sleeps_so by k (Asking w) wish e = absurd cc
sleeps_so by k (Returning well) wish e = absurd cc
sleeps_so by k (Loads a) wish e = absurd cc
sleeps_so by k (Starts a before parked) wish e = absurd cc
sleeps_so by k (Spins a state) wish e = absurd cc
sleeps_so by k (Parks a state) wish e = absurd cc
sleeps_so by k (Enters w) wish e = absurd cc
sleeps_so by k (Checks w) wish e = absurd cc
sleeps_so by k (Retreats w) wish e = absurd cc
sleeps_so by k (Appends w) wish e = absurd cc
sleeps_so by k (Rests w) wish e = absurd cc
sleeps_so by k (Stores well) wish e = absurd cc
sleeps_so by k (Looks well) wish e = absurd cc
sleeps_so by k (Scans well taken) wish e = absurd cc
sleeps_so by k (Clears well taken) wish e = absurd cc
sleeps_so by k (Leaves taken) wish e = absurd cc
sleeps_so by k (Wakes count) wish e = absurd cc
sleeps_so by k Finishes wish e = absurd cc
sleeps_so by k Invalid wish e = absurd cc

same_taken : (a b : Wish) (u t : ℕ) → rules.Taken a u ≡ rules.Taken b t → a ≡ b
same_taken a b u t e = cc

-- and one that was taken off it
pub taken_so : (by : Option ℕ) (k : Known) (p : OncePhase) (wish : Wish) (t : ℕ) → role by k p ≡ rules.Taken wish t
    → p ≡ Sleeps wish
taken_so None k (Sleeps w) wish t e = absurd cc
taken_so (Some u) k (Sleeps w) wish t e = ap (λ x. Sleeps x) (same_taken w wish u t e)
taken_so by k (Ends (end.Runs before)) wish t e = absurd cc
taken_so by k (Ends end.Completed) wish t e = absurd cc
taken_so by k (Ends end.Poisoned) wish t e = absurd cc
taken_so by k (Ends end.Finished) wish t e = absurd cc
taken_so by k (Asking w) wish t e = absurd cc
taken_so by k (Returning well) wish t e = absurd cc
taken_so by k (Loads a) wish t e = absurd cc
taken_so by k (Starts a before parked) wish t e = absurd cc
taken_so by k (Spins a state) wish t e = absurd cc
taken_so by k (Parks a state) wish t e = absurd cc
taken_so by k (Enters w) wish t e = absurd cc
taken_so by k (Checks w) wish t e = absurd cc
taken_so by k (Retreats w) wish t e = absurd cc
taken_so by k (Appends w) wish t e = absurd cc
taken_so by k (Rests w) wish t e = absurd cc
taken_so by k (Stores well) wish t e = absurd cc
taken_so by k (Looks well) wish t e = absurd cc
taken_so by k (Scans well taken) wish t e = absurd cc
taken_so by k (Clears well taken) wish t e = absurd cc
taken_so by k (Leaves taken) wish t e = absurd cc
taken_so by k (Wakes count) wish t e = absurd cc
taken_so by k Finishes wish t e = absurd cc
taken_so by k Invalid wish t e = absurd cc

-- a role in the list of all is a thread's
pub who_plays : (s : Onces) (i v : ℕ) (r : Role) → slice_get (once_at s i).roles v ≡ Some r → r ≢ Idle → (b : OpenCall)
    × (call_at s v ≡ Some b) × (b.once ≡ i) × (plays b (list_of s.wakes v) ≡ r)
who_plays s i v r at busy = in_role i (list_of s.wakes v) (call_at s v) r
    (sym (was-all (role_at s i) (length s.calls) v r at)) busy
