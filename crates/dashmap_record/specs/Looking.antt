-- A closure's answer.
use Rattle.std.specs.Prelude.{◌≡◌}
use Rattle.std.specs.Borrow.{Bor}
use Rattle.std.specs.Fn.{Once, FnOnceReturns}

-- f, called at x, may answer r
abbrev pub AnswersOf : {F X R : Type 0} → Once F (Bor X × Unit {0}) R → F → X → R → Type 0
AnswersOf {F} {X} g f x r = (p : Bor X) × FnOnceReturns g f (p, tt) r × (p.now ≡ x)
