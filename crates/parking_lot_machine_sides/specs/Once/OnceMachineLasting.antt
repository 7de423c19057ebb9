-- What follows of a machine's steps, in plain words.
use Rattle.std.specs.Prelude.{◌≡◌, ℕ, true, false, Option, Some}
use Rattle.parking_lot_rules.specs.declared.once.once_state.OnceState.TheVariants.{Done}
use Rattle.parking_lot_rules.specs.Once.Once.{may_run}
use Rattle.parking_lot_machine_sides.specs.declared.once.calls.OnceCall.{OnceCall}
use Rattle.parking_lot_machine_sides.specs.declared.once.calls.OnceReply.{OnceReply}
use Rattle.parking_lot_machine_sides.specs.declared.once.calls.OnceReply.TheVariants as reply
use Rattle.parking_lot_machine_sides.specs.Once.OnceCalls.{ends_well, wish_of}
use Rattle.parking_lot_machine_sides.specs.Once.OnceFits.{Fits}
use Rattle.parking_lot_machine_sides.specs.Once.OnceSteps.{IsBegun, IsStepped}
use Rattle.parking_lot_machine_sides.specs.Once.Onces.{OpenCall, Onces, call_at, once_at}

abbrev pub IsDone : Onces → ℕ → Type 0
IsDone s i = (once_at s i).word.state ≡ Done

-- what is done stays done
pub record DoneStays : Type 0 where
  pub steps : (s u : Onces) (t i : ℕ) (reply : Option OnceReply) → Fits s → IsStepped t reply s u → IsDone s i
      → IsDone u i
  pub begins : (s u : Onces) (t once i : ℕ) (call : OnceCall) → Fits s → IsBegun t once call s u → IsDone s i
      → IsDone u i

-- Its closure ran only if it has one, that ends so, from a state from which it may be run; and it is refused only where
-- it isn't forced.
abbrev pub MayReply : OnceCall → OnceReply → Type 0
MayReply call (reply.Ran before) = ((wish_of call).runs ≡ true) × (ends_well call ≡ true)
    × (may_run (wish_of call).force before ≡ true)
MayReply call reply.Failed = ((wish_of call).runs ≡ true) × (ends_well call ≡ false)
MayReply call reply.Poisoned = (wish_of call).force ≡ false
MayReply call reply.Completed = Unit {0}

abbrev pub RepliesFit : Type 0
RepliesFit = (s u : Onces) (t : ℕ) (c : OpenCall) (answer : OnceReply) → Fits s → call_at s t ≡ Some c
    → IsStepped t (Some answer) s u → MayReply c.call answer
