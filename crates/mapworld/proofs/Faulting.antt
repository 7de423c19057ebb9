-- Where a step is refused, the fault has the number of steps that were done.
use Rattle.std.proofs.Common.{◌≡◌, ℕ, Bool, true, false, if◌then◌else◌, Some, None, nat_lt, length, ap, sym}
use Rattle.std.proofs.lemmas.Option.{none-some, same_Some}
use Rattle.mapworld_state.specs.declared.faults.fault.RunFault.{RunFault}
use Rattle.mapworld_state.specs.declared.faults.fault.RunFault.TheVariants as fault
use Rattle.mapworld_state.specs.declared.step.Step.{Step}
use Rattle.mapworld_state.specs.Faults.Faults.{run_fault_done}
use Rattle.mapworld_state.specs.State.{State}
use Rattle.mapworld_state.specs.Running.{has_numbers, may_step, refusal}

done_of : (a b c : Bool) (n : ℕ) (f : RunFault)
    → (if a then (if b then (if c then None else Some (fault.StepsShort n)) else Some (fault.CannotMove n)) else Some
    (fault.NoSuchThread n)) ≡ Some f → run_fault_done f ≡ n
done_of true true true n f h = absurd (none-some f h)
done_of true true false n f h = ap run_fault_done (sym (same_Some (fault.StepsShort n) f h))
done_of true false c n f h = ap run_fault_done (sym (same_Some (fault.CannotMove n) f h))
done_of false b c n f h = ap run_fault_done (sym (same_Some (fault.NoSuchThread n) f h))

pub refusal-done : {K V S D T A : Type 0} (w : State K V S D T A) (n : ℕ) (s : Step) (f : RunFault)
    → refusal w n s ≡ Some f → run_fault_done f ≡ n
refusal-done w n s f h =
    done_of (nat_lt s.thread (length w.programs)) (may_step w s) (has_numbers w) n f h
