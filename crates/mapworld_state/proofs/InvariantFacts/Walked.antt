-- What a walk has come to by its visits.
use Rattle.std.proofs.Common.{◌≡◌, ℕ, true, false, [], Option, Some, None, refl, arith}
use Rattle.std.proofs.lemmas.Option.{none-some}
use Rattle.std.proofs.lemmas.Bool.{false≢true}
use Rattle.mapworld_calls.specs.declared.ask.Walk.{Walk}
use Rattle.mapworld_calls.specs.declared.ask.Walk.TheVariants as walk
use Rattle.mapworld_calls.specs.Setup.{Setup}
use Rattle.mapworld_calls.specs.Agrees.{IsBelow}
use Rattle.mapworld_state.specs.Moves.{stops_at}
use Rattle.mapworld_state.specs.Sound.{IsCount}

-- a walk that stops at once is to give no item
pub stops-none : (o : Option ℕ) → stops_at o 0 ≡ true → o ≡ Some 0
stops-none None is = absurd (false≢true is)
stops-none (Some stop) is = let same : stop ≡ 0 = grind (arith, is) in rw same refl

-- one that doesn't stop has items left to give
pub stops-below : (o : Option ℕ) (n : ℕ) → stops_at o n ≡ false → IsBelow o n
stops-below None n is = tt
stops-below (Some stop) n is = grind (arith, is)

-- a walk without a visit has counted nothing
pub none-counted : {K V D T : Type 0} (x : Setup K V D T) (f : Walk D) (n : ℕ) → n ≡ 0 → IsCount x f [] n
none-counted x walk.Capacity n is = ([], record { each = refl; hold = λ i m v hm hv. absurd (none-some v hv) }, is)
none-counted x f n is = is
