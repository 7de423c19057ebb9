-- What each act that a call of a mutex asks for does to what is in hand.
use Rattle.std.proofs.Common.{◌≡◌, ◌∙◌, ◌⊎◌, inl, inr, ℕ, Bool, true, false, refl, sym, ap, arith}
use Rattle.std.specs.Prelude.{if◌then◌else◌}
use Rattle.parking_lot_rules.specs.Classes.{bit}
use Rattle.parking_lot_protocol.specs.declared.act.Act.TheVariants as act
use Rattle.parking_lot_protocol.specs.declared.act.CoreAnswer.TheVariants.{Released}
use Rattle.parking_lot_protocol.specs.declared.act.ActResult.TheVariants.{Made}
use Rattle.parking_lot_protocol.specs.declared.mutex_core.MutexCore.{MutexCore}
use Rattle.parking_lot_protocol.specs.declared.mutex_phase.Giving.{Giving}
use Rattle.parking_lot_protocol.specs.declared.mutex_phase.MutexPhase.{MutexPhase}
use Rattle.parking_lot_protocol.specs.declared.mutex_phase.MutexPhase.TheVariants as phase
use Rattle.parking_lot_protocol.specs.MutexTable.{act_of, next_phase}
use Rattle.parking_lot_driver.specs.Ends.{mutex_told}
use Rattle.parking_lot_mutex.specs.Owning.{in_hand, KeepsHand}

-- whether it locks again or is over, one that has unlocked has nothing in hand
unlocked : (again : Bool) → in_hand (if again then phase.Relocks else phase.Ends Released) ≡ 0
unlocked true = refl
unlocked false = refl

left : (g : Giving) (taken : Bool) → in_hand (if taken then phase.Wakes g else phase.Finishes g) ≡ 0
left g true = refl
left g false = refl

finishes : (g : Giving) (again : Bool) → KeepsHand (if again then act.Load else act.Done Released) (phase.Finishes g)
finishes g true = tt
finishes g false = tt

pub keeps_hand : (p : MutexPhase) → KeepsHand (act_of p) p
keeps_hand phase.Locking = tt
keeps_hand phase.Trying = tt
keeps_hand (phase.Unlocking fair) = tt
keeps_hand phase.Bumping = tt
keeps_hand (phase.Loads a) = tt
keeps_hand (phase.Locks a w) = let b = bit w in omega arith
keeps_hand (phase.Spins a) = tt
keeps_hand (phase.Parks a) = refl
keeps_hand (phase.Enters woken) = tt
keeps_hand (phase.Checks woken) = (refl, refl)
keeps_hand (phase.Retreats woken) = (refl, refl)
keeps_hand phase.Appends = (refl, refl)
keeps_hand phase.Rests = (refl, refl)
keeps_hand phase.Sleeps = tt
keeps_hand phase.TryLoads = tt
keeps_hand (phase.TryLocks w left) = let b = bit w in omega arith
keeps_hand phase.Refuses = tt
keeps_hand phase.BumpLoads = tt
keeps_hand phase.Relocks = tt
keeps_hand (phase.Unlocks g) = unlocked g.again
keeps_hand (phase.Looks g) = tt
keeps_hand (phase.Takes g) = (refl, refl)
keeps_hand (phase.Stores g taken left) = (refl, refl)
keeps_hand (phase.Leaves g taken handed) = (refl, left g taken)
keeps_hand (phase.Wakes g) = (refl, refl)
keeps_hand (phase.Finishes g) = finishes g g.again
keeps_hand (phase.Ends answer) = tt
keeps_hand phase.Invalid = tt

-- a call in a section was told of an act there, or not
pub in_section : (had : ℕ) (old new : MutexCore) → had ≡ in_hand old.phase
    → (in_hand old.phase ≡ 0) × (in_hand (next_phase old.phase Made) ≡ 0)
    → (new ≡ mutex_told old Made) ⊎ (new ≡ old) → had ≡ in_hand new.phase
in_section had old new is none (inl told) = is ∙ none.0 ∙ sym none.1 ∙ sym (ap (λ core. in_hand core.phase) told)
in_section had old new is none (inr same) = is ∙ sym (ap (λ core. in_hand core.phase) same)
