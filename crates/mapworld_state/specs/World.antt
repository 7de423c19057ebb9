-- A world's setup: what the bounds of its keys, hasher and deeds say, and what it was made with. And what is promised
-- of a world with it.
use Rattle.std.specs.Prelude.{Bool, length}
use Rattle.std.specs.Hash.{HashWrites}
use Rattle.std.specs.declared.hash.BuildHasher as builder
use Rattle.std.specs.declared.hash.Hasher as hasher
use Rattle.mapworld_calls.specs.declared.deed.Deed as deed
use Rattle.mapworld_calls.specs.Deeds.{Deeds}
use Rattle.mapworld_calls.specs.Setup.{Setup}
use Rattle.mapworld_calls.specs.Agrees.{Agrees}
use Rattle.mapworld_calls.specs.Placed.{WellPlaced, OnlyAdds}
use Rattle.mapworld_state.specs.Route.{key_route}
use Rattle.mapworld_state.specs.State.{State, pairs_of, started_of, threads_of}

abbrev pub deeds_of : {D K V T : Type 0} → deed.Ghosts D K V T → Deeds D K V T
deeds_of d = record { answer = d.answer_of; keep = d.keeps; effect = d.effect_of }

abbrev pub setup_of : {K V S H D T A : Type 0} → deed.Ghosts D K V T → builder.Ghosts S H → hasher.Ghosts H
    → (K → K → Bool) → (K → HashWrites) → State K V S D T A → Setup K V D T
setup_of d b h eq writes w = record {
  eq = eq;
  shards = length w.tables;
  route = key_route b h writes w.hasher (length w.tables);
  deeds = deeds_of d;
  programs = w.programs;
  opening = w.opening;
}

-- its replies and contents are those of one plain map that takes its blocks in their order
abbrev pub AgreesWithBlocks : {K V S H D T A : Type 0} → deed.Ghosts D K V T → builder.Ghosts S H → hasher.Ghosts H
    → (K → K → Bool) → (K → HashWrites) → State K V S D T A → Type 0
AgreesWithBlocks d b h eq writes w = Agrees (setup_of d b h eq writes w) w.blocks (pairs_of w) w.replies

-- its blocks and replies stand at steps of their own threads, each of a call that was asked and has started
abbrev pub HasPlacedBlocks : {K V S H D T A : Type 0} → deed.Ghosts D K V T → builder.Ghosts S H → hasher.Ghosts H
    → (K → K → Bool) → (K → HashWrites) → State K V S D T A → Type 0
HasPlacedBlocks d b h eq writes w = WellPlaced (setup_of d b h eq writes w) (threads_of w) (started_of w) w.blocks
    w.replies

-- steps, blocks and replies of the one world are still those of the other, which may have more of them
abbrev pub OnlyAddsTo : {K V S D T A : Type 0} → State K V S D T A → State K V S D T A → Type 0
OnlyAddsTo w w' = OnlyAdds (threads_of w) (threads_of w') w.blocks w'.blocks w.replies w'.replies
