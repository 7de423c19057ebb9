-- A world whose calls are all answered.
use Rattle.std.specs.Prelude.{◌≡◌, ℕ, [], None, Some, slice_get}
use Rattle.lock_api_desk.specs.Desk.{DeskState}
use Rattle.parking_lot_machine.specs.Rows.{entered_in, queue_at, state}
use Rattle.mapworld_state.specs.Locks.Stands.{stand_in}
use Rattle.mapworld_state.specs.Locks.Views.{Shown, owner_in}
use Rattle.mapworld_state.specs.declared.place.Phase.TheVariants as phase
use Rattle.mapworld_state.specs.Footprint.{word_of}
use Rattle.mapworld_state.specs.Places.{Place}
use Rattle.mapworld_state.specs.Running.{unanswered_of}
use Rattle.mapworld_state.specs.State.{State}

-- nothing is left of the shards' locks: nobody is in a call, in a list or inside a section, no bit of a word is set,
-- and no desk has a guard
pub record AreFree (locks : Shown) : Type 0 where
  pub calls : (t : ℕ) → stand_in locks t ≡ None
  pub owners : (shard t : ℕ) → owner_in locks shard t ≡ None
  pub words : (shard : ℕ) → word_of locks shard ≡ 0
  pub queues : (key : ℕ) → queue_at (state locks.rows) key ≡ []
  pub sections : (bucket : ℕ) → entered_in (state locks.rows) bucket ≡ None
  pub desks : (shard : ℕ) (desk : DeskState (Unit {0})) → slice_get locks.desks shard ≡ Some desk → desk.guards ≡ []

-- a thread has no call left, and holds nothing
pub record HasEnded {K V D T A : Type 0} (p : Place K V D T A) : Type 0 where
  pub asks : p.asks ≡ []
  pub rests : p.phase ≡ phase.Rest
  pub holds : p.holds ≡ []
  pub guard : p.guard ≡ None
  pub visits : p.visits ≡ []
  pub reads : p.reads ≡ []

pub record IsAtRest {K V S D T A : Type 0} (w : State K V S D T A) : Type 0 where
  pub answered : unanswered_of w ≡ 0
  pub places : (t : ℕ) (p : Place K V D T A) → slice_get w.places t ≡ Some p → HasEnded p
  pub locks : AreFree w.locks
