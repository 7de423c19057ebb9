-- What a closure that threads share answers of a key.
use Rattle.std.specs.Prelude.{◌≡◌}
use Rattle.std.specs.Fn.{FnReturns}
use Rattle.std.specs.Borrow.{Bor}
use denote.Param.Members.{Shared}

-- f, called at a `&` to a key, may answer r
pub record AnswersOfKey {F K R : Type 0} (g : Shared F (Bor K × Unit {0}) R) (f : F) (k : K) (r : R) : Type 0 where
  pub key : Bor K
  pub shows : key.now ≡ k
  pub says : FnReturns g f (key, tt) r

-- f, called with a key, may answer r
abbrev pub MakesOfKey : {F K R : Type 0} → Shared F (K × Unit {0}) R → F → K → R → Type 0
MakesOfKey g f k r = FnReturns g f (k, tt) r
