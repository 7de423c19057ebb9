-- What ends with no step of its own leaves a world's setup.
use Rattle.std.proofs.Common.{◌≡◌, ℕ, Bool, ap}
use Rattle.std.specs.Hash.{HashWrites}
use Rattle.std.specs.declared.hash.BuildHasher as builder
use Rattle.std.specs.declared.hash.Hasher as hasher
use Rattle.mapworld_calls.specs.declared.deed.Deed as deed
use Rattle.mapworld_state.specs.State.{State}
use Rattle.mapworld_state.specs.Steps.{Enters, Reaches, IsLocked, GivesNone, Leaves}
use Rattle.mapworld_state.specs.World.{setup_of}

module _ {K V S H D T A : Type 0} (d : deed.Ghosts D K V T) (b : builder.Ghosts S H) (h : hasher.Ghosts H)
    (eq : K → K → Bool) (writes : K → HashWrites) (w mid : State K V S D T A) (t : ℕ) where
  pub setup-entered : Enters w t mid → setup_of d b h eq writes mid ≡ setup_of d b h eq writes w
  setup-entered e = ap (λ (v : State K V S D T A). setup_of d b h eq writes v) e.after

  pub setup-left : Leaves w t mid → setup_of d b h eq writes mid ≡ setup_of d b h eq writes w
  setup-left e = ap (λ (v : State K V S D T A). setup_of d b h eq writes v) e.after

  pub setup-locked : IsLocked w t mid → setup_of d b h eq writes mid ≡ setup_of d b h eq writes w
  setup-locked e = ap (λ (v : State K V S D T A). setup_of d b h eq writes v) e.after

  pub setup-unvisited : GivesNone w t mid → setup_of d b h eq writes mid ≡ setup_of d b h eq writes w
  setup-unvisited e = ap (λ (v : State K V S D T A). setup_of d b h eq writes v) e.after

  pub setup-reached : Reaches w t mid → setup_of d b h eq writes mid ≡ setup_of d b h eq writes w
  setup-reached e = ap (λ (v : State K V S D T A). setup_of d b h eq writes v) e.after
