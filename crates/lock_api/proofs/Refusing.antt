-- A wait is refused as the raw condition variable refuses.
use Rattle.std.specs.Prelude.{◌≡◌, Bool, true, Result, Ok, Err}
use Rattle.std.specs.Result.{IfErr, IsErrAnd}
use Rattle.std.proofs.Common.{subst, sym}
use Rattle.lock_api_raw.specs.Waits.{IsRefusedRightly}
use Rattle.lock_api_raw.specs.declared.fault.WaitFault.{WaitFault}
use Rattle.lock_api_raw.specs.declared.fault.WaitFault.TheVariants.{WrongMutex, WrongLot}
use Rattle.lock_api.specs.Waits.{timed_answer, WasRefused, RanOut}
use Rattle.lock_api.specs.declared.timed_out.WaitTimeoutResult.{WaitTimeoutResult}

pub refused_as : {G : Type 0} (same : Bool) (before after : G) (answer : Result WaitTimeoutResult WaitFault)
    (raw : Result Bool WaitFault) → timed_answer answer ≡ raw → IsRefusedRightly {G = G} {A = Bool} same before after
    raw → IsRefusedRightly {G = G} {A = WaitTimeoutResult} same before after answer
refused_as same before after (Ok answer) raw is said =
    subst (λ (r : Result Bool WaitFault). IsRefusedRightly {A = Bool} same before after r) (sym is) said
refused_as same before after (Err WrongMutex) raw is said =
    subst (λ (r : Result Bool WaitFault). IsRefusedRightly {A = Bool} same before after r) (sym is) said
refused_as same before after (Err WrongLot) raw is said =
    subst (λ (r : Result Bool WaitFault). IsRefusedRightly {A = Bool} same before after r) (sym is) said

-- what an exit by `?` hands on is what was refused
pub handed_on : {T E : Type 0} (result : Result T E) (fault : E) (P : E → Type 0) → IsErrAnd result (λ e. e ≡ fault)
    → P fault → IfErr result P
handed_on (Ok answer) fault P said held = absurd said
handed_on (Err e) fault P said held = subst P (sym said) held

pub was_refused : {G A P : Type 0} (here there : P) (lot : P → Bool) (waited : G → G → Result A WaitFault → Type 0)
    (before after : G) (answer : Result A WaitFault) (fault : WaitFault) → here ≡ there → answer ≡ Err fault
    → IsRefusedRightly {G = G} {A = A} (lot here) before after answer → waited before after answer
    → WasRefused {G = G} {A = A} (lot there) waited fault
was_refused {G} {A} {P} here there lot waited before after answer fault same is said so =
    subst (λ (p : P). WasRefused {G = G} {A = A} (lot p) waited fault) same (
      before,
      after,
      subst (λ (r : Result A WaitFault). IsRefusedRightly {G = G} {A = A} (lot here) before after r)
          is said,
      subst (λ (r : Result A WaitFault). waited before after r) is so,
    )

refused_alike : {G : Type 0} (same : Bool) (before after : G) (fault : WaitFault)
    → IsRefusedRightly {G = G} {A = WaitTimeoutResult} same before after (Err fault)
    → IsRefusedRightly {G = G} {A = Bool} same before after (Err fault)
refused_alike same before after WrongMutex said = said
refused_alike same before after WrongLot said = said

-- the same of a timed wait
pub was_refused_in_time : {G P : Type 0} (here there : P) (lot : P → Bool)
    (waited : G → G → Result Bool WaitFault → Type 0) (before after : G) (answer : Result WaitTimeoutResult WaitFault)
    (fault : WaitFault) → here ≡ there → answer ≡ Err fault → IsRefusedRightly {G = G} {A = WaitTimeoutResult}
    (lot here) before after answer → waited before after (timed_answer answer)
    → WasRefused {G = G} {A = Bool} (lot there) waited fault
was_refused_in_time {G} {P} here there lot waited before after answer fault same is said so =
    let refused = refused_alike (lot here) before after fault
    (subst (λ (r : Result WaitTimeoutResult WaitFault). IsRefusedRightly {G = G} {A = WaitTimeoutResult} (lot here)
    before after r) is said) in
    subst (λ (p : P). WasRefused {G = G} {A = Bool} (lot p) waited fault) same (
      before,
      after,
      refused,
      subst (λ (r : Result WaitTimeoutResult WaitFault). waited before after (timed_answer r)) is so,
    )

-- a timed wait that tells that it ran out did
pub ran_out : {G : Type 0} (waited : G → G → Result Bool WaitFault → Type 0) (before after : G)
    (answer : Result WaitTimeoutResult WaitFault) (told : WaitTimeoutResult) → answer ≡ Ok told
    → waited before after (timed_answer answer) → told.0 ≡ true → RanOut {G = G} waited
ran_out waited before after answer told is so late = (
  before,
  after,
  subst (λ (b : Bool). waited before after (Ok b)) late
      (subst (λ (r : Result WaitTimeoutResult WaitFault). waited before after (timed_answer r)) is so),
)
