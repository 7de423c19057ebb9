-- How calls end.
use Rattle.std.proofs.Common.{◌≡◌, ℕ, Bool, true, false, cond, Option, Some, None, Result, Ok, Err, [], refl, sym, ap}
use Rattle.std.proofs.Common.{◌∙◌, subst, is_some, ◌||◌}
use Rattle.std.specs.Option.{option_map_or, IsSomeAnd, MatchOption}
use Rattle.parking_lot_core_model.specs.declared.fault.LotFault.{LotFault}
use Rattle.parking_lot_core_model.specs.declared.fault.LotFault.TheVariants.{WrongStatus, Busy}
use Rattle.std.specs.Bool.{MatchBool}
use Rattle.parking_lot_core_model.specs.declared.parking.UnparkToken.{UnparkToken}
use Rattle.parking_lot_core_model.specs.declared.parking.UnparkResult.{UnparkResult}
use Rattle.parking_lot_core_model.specs.declared.parking.RequeueOp.{RequeueOp}
use Rattle.parking_lot_core_model.specs.declared.place.Waiter.{Waiter}
use Rattle.parking_lot_core_model.specs.Results.{unpark_result}
use Rattle.parking_lot_core_model.specs.Operations.{is_abort, Requeues, RequeuesBy}
use Rattle.parking_lot_core_model.specs.declared.place.Phase.{Phase}
use Rattle.parking_lot_core_model.specs.declared.place.Section.{Section}
use Rattle.parking_lot_core_model.specs.Machine.{Machine, open_at, section_of, in_section, step_fault, busy}
use Rattle.parking_lot_core_model.specs.Machine.{either_busy}
use Rattle.parking_lot_core_model.specs.Machine.{Unless}
use Rattle.parking_lot_core_model.proofs.Entering.{some≢none}

-- a call that isn't refused, and one that is
pub unless_done : {T : Type 0} (o : Option LotFault) (r : Result T LotFault) (old new : Machine) (D : Type 0) → o ≡ None
    → D → Unless o r old new D
unless_done o r old new D e d = subst (λ (x : Option LotFault). Unless x r old new D) (sym e) d

pub unless_refused : {T : Type 0} (o : Option LotFault) (fault : LotFault) (r : Result T LotFault) (old new : Machine)
    (D : Type 0) → o ≡ Some fault → r ≡ Err fault → new ≡ old → Unless o r old new D
unless_refused o fault r old new D e is same = subst (λ (x : Option LotFault). Unless x r old new D) (sym e) (is, same)

pub some_and : {X : Type 0} (o : Option X) (x : X) (P : X → Type 0) → o ≡ Some x → P x → IsSomeAnd o P
some_and {X = X} o x P e p = subst (λ (y : Option X). IsSomeAnd y P) (sym e) p

pub match_some : {X : Type 0} (o : Option X) (x : X) (P : Type 0) (Q : X → Type 0) → o ≡ Some x → Q x
    → MatchOption o P Q
match_some {X = X} o x P Q e q = subst (λ (y : Option X). MatchOption y P Q) (sym e) q

-- a section that may do this is refused nothing
pub allowed : (may : Phase → Bool) (m : Machine) (t : ℕ) (s : Section) → section_of m t ≡ Some s → may s.phase ≡ true
    → step_fault may m t ≡ None
allowed may m t s e ok = ap (λ o. cond (option_map_or (λ x. may x.phase) o false) None (Some WrongStatus)) e
    ∙ ap (λ b. cond b None (Some WrongStatus)) ok

-- a step of the section that a thread is in
pub stepped : (step : Machine → ℕ → Machine) (t : ℕ) (m : Machine) (s : Section) → section_of m t ≡ Some s
    → in_section step t m ≡ step m s.key
stepped step t m s e = ap (λ (o : Option Section). option_map_or (λ x. step m x.key) o m) e

-- where nothing is refused for it, no section is open in the key's bucket
pub free_section : (m : Machine) (key : ℕ) → busy key m ≡ None → open_at m key ≡ None
free_section m key e = free (open_at m key) e
  where
    free : (o : Option Section) → cond (is_some o) (Some Busy) None ≡ None → o ≡ None
    free None e = refl
    free (Some s) e = absurd (some≢none e)

pub entering : (m : Machine) (key : ℕ) (b : Bool) → cond b (busy key m) (Some WrongStatus) ≡ None → (b ≡ true)
    × (open_at m key ≡ None)
entering m key true e = (refl, free_section m key e)
entering m key false e = absurd (some≢none e)

pub free_first : (m : Machine) (key other : ℕ) → either_busy key other m ≡ None → open_at m key ≡ None
free_first m key other e = free (open_at m key) e
  where
    free : (o : Option Section) → cond (is_some o || is_some (open_at m other)) (Some Busy) None ≡ None → o ≡ None
    free None e = refl
    free (Some s) e = absurd (some≢none e)

-- a requeue that isn't aborted
pub not_aborted : (gives : UnparkResult → UnparkToken → Type 0) (op : RequeueOp) (old : Machine) (from to : ℕ)
    (result : Result UnparkResult LotFault) (new : Machine) → is_abort op ≡ false
    → RequeuesBy gives op old from to result new → Requeues gives op old from to result new
not_aborted gives op old from to result new e by =
    subst (λ (b : Bool). MatchBool b ((result ≡ Ok (unpark_result {X = Waiter} 0 0 [])) × (new ≡ old))
    (RequeuesBy gives op old from to result new)) (sym e) by
