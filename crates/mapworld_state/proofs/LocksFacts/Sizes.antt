-- How many threads, shards and desks there are stays.
use Rattle.std.proofs.Common.{◌≡◌, ℕ, Bool, length, refl, ap, ◌∙◌, length-set}
use Rattle.parking_lot_protocol.specs.declared.act.CoreAnswer.{CoreAnswer}
use Rattle.parking_lot_machine_calls.specs.declared.calls.LockCall.{LockCall}
use Rattle.parking_lot_machine.specs.Rows.{state}
use Rattle.mapworld_state.specs.Locks.Views.{Shown}
use Rattle.mapworld_state.specs.Locks.Steps.{StaysWhole, LockBegins, LockMoves, LockStarts, LockEnds}

-- as many threads, shards and desks
pub record KeepsSize (locks locks' : Shown) : Type 0 where
  pub threads_are : length (state locks'.rows).calls ≡ length (state locks.rows).calls
  pub shards_are : length (state locks'.rows).kinds ≡ length (state locks.rows).kinds
  pub desks_are : length locks'.desks ≡ length locks.desks

pub same_size : {locks : Shown} → KeepsSize locks locks
same_size = record { threads_are = refl; shards_are = refl; desks_are = refl }

module _ (l l' : Shown) where
  sized : StaysWhole l l' → length l'.desks ≡ length l.desks → KeepsSize l l'
  sized h desks = record { threads_are = h.threads; shards_are = ap length h.kinds; desks_are = desks }

  pub begins-size : (t shard : ℕ) (call : LockCall) → LockBegins t shard call l l' → KeepsSize l l'
  begins-size t shard call h = sized h.whole (ap length h.desks)

  pub moves-size : (t : ℕ) (fair : Bool) → LockMoves t fair l l' → KeepsSize l l'
  moves-size t fair h = sized h.whole (ap length h.desks ∙ length-set l.desks h.stand.shard _)

  pub ends-size : (t : ℕ) (answer : CoreAnswer) → LockEnds t answer l l' → KeepsSize l l'
  ends-size t answer h = sized h.whole (ap length h.desks)

pub starts-size : (l l' : Shown) (t shard : ℕ) (call : LockCall) (fair : Bool) → LockStarts t shard call fair l l'
    → KeepsSize l l'
starts-size l l' t shard call fair h =
    let a = begins-size l h.mid t shard call h.begins in
    let b = moves-size h.mid l' t fair h.moves in
    record {
      threads_are = b.threads_are ∙ a.threads_are;
      shards_are = b.shards_are ∙ a.shards_are;
      desks_are = b.desks_are ∙ a.desks_are;
    }
