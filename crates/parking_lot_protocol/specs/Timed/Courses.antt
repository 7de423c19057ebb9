-- The course of a call: what its core was told, one after another.
use Rattle.std.specs.Prelude.{◌≡◌, ℕ, List, [], ◌∷◌}

-- What a core is once its call has begun and it was told all this, the last of it first.
abbrev pub told_all : {C S : Type 0} → (C → S → C) → S → C → List S → C
told_all told start core [] = told core start
told_all told start core (seen ∷ before) = told (told_all told start core before) seen

-- Each of these is what the act that the core had asked for can give at some word.
abbrev pub IsCourse : {C A S : Type 0} → (A → ℕ → S → Type 0) → (C → S → C) → (C → A) → S → C → List S → Type 0
IsCourse gives told asks start core [] = Unit {0}
IsCourse gives told asks start core (seen ∷ before) =
    ((word : ℕ) × gives (asks (told_all told start core before)) word seen) × IsCourse gives told asks start core before

-- A core that began as this one, and was told nothing else.
abbrev pub WasTold : {C A S : Type 0} → (A → ℕ → S → Type 0) → (C → S → C) → (C → A) → S → C → C → Type 0
WasTold {C} {A} {S} gives told asks start begun core = (seen : List S) × IsCourse gives told asks start begun seen
    × (core ≡ told_all told start begun seen)

-- A call came to this act: its core was told nothing but what the acts that it asked for can give, and then it asked
-- for that. Nothing opens it but the proofs of those that run cores.
unfoldable pub EndedAt : {C A S : Type 0} → (A → ℕ → S → Type 0) → (C → S → C) → (C → A) → S → C → A → Type 0
EndedAt {C} {A} {S} gives told asks start begun last = (seen : List S) × IsCourse gives told asks start begun seen
    × (asks (told_all told start begun seen) ≡ last)
