-- The locks of shards fit together behind each act, and their sizes stay.
use Rattle.std.proofs.Common.{◌≡◌, ℕ, Bool, List, length, slice_get, slice_set, sym, ap, ◌∙◌, subst}
use Rattle.lock_api_desk.specs.Desk.{DeskState}
use Rattle.std.specs.Option.{option_map}
use Rattle.std.proofs.lemmas.Option.{same_Some}
use Rattle.parking_lot_protocol.specs.declared.act.CoreAnswer.{CoreAnswer}
use Rattle.parking_lot_machine_calls.specs.declared.calls.LockCall.{LockCall}
use Rattle.parking_lot_machine.specs.Rows.{state, taken_by}
use Rattle.parking_lot_machine.specs.SoundLaws.{Always, OwnersAgree, StepsAreCases}
use Rattle.mapworld_state.specs.declared.place.Phase.{Phase}
use Rattle.mapworld_state.specs.declared.place.Phase.TheVariants as phase
use Rattle.mapworld_state.specs.Locks.Fits.{LocksFit}
use Rattle.mapworld_state.specs.Locks.Moves.{desk_after}
use Rattle.mapworld_state.specs.Locks.Stands.{stand_of}
use Rattle.mapworld_state.specs.Locks.Steps.{LockBegins, LockEnds, LockExpires, LockMoves, LockStarts}
use Rattle.mapworld_state.specs.Locks.Views.{Shown, held_at}
use Rattle.mapworld_state.specs.Steps.{EntersBy}
use Rattle.mapworld_state.proofs.LocksFacts.Expiring.{expired_fit}
use Rattle.mapworld_state.proofs.LocksFacts.Lawful.{fit-begins, fit-ends, lawful-expires, lawful-moves}
use Rattle.mapworld_state.proofs.LocksFacts.Sizes.{KeepsSize, begins-size, ends-size, moves-size, same_size}
use Rattle.mapworld_state.proofs.LocksFacts.Sizes.{starts-size}
use Rattle.mapworld_state.proofs.LocksFacts.Stepping.{stepped_fit}

-- locks that fit together still do, and there are as many
pub record Lasts (old new : Shown) : Type 0 where
  pub fit : LocksFit old → LocksFit new
  pub size : KeepsSize old new

pub lasts-same : (old new : Shown) → new ≡ old → Lasts old new
lasts-same old new same = record { fit = subst LocksFit (sym same); size = subst (KeepsSize old) (sym same) same_size }

pub lasts-then : (old mid new : Shown) → Lasts old mid → Lasts mid new → Lasts old new
lasts-then old mid new a b = record {
  fit = λ fit. b.fit (a.fit fit);
  size = record {
    threads_are = b.size.threads_are ∙ a.size.threads_are;
    shards_are = b.size.shards_are ∙ a.size.shards_are;
    desks_are = b.size.desks_are ∙ a.size.desks_are;
  };
}

pub lasts-begins : (t shard : ℕ) (call : LockCall) (old new : Shown) → LockBegins t shard call old new → Lasts old new
lasts-begins t shard call old new b = record
    { fit = λ fit. fit-begins t shard call old new fit b; size = begins-size old new t shard call b }

pub lasts-ends : (t : ℕ) (answer : CoreAnswer) (old new : Shown) → LockEnds t answer old new → Lasts old new
lasts-ends t answer old new e = record {
  fit = λ fit. fit-ends t answer old new fit e;
  size = ends-size old new t
      answer e;
}

-- a start begins the call of a lock, or none
pub lasts-enters : {K V D T A : Type 0} (t shard : ℕ) (old new : Shown) (f : Phase K V D T A)
    → EntersBy t shard f old new → Lasts old new
lasts-enters t shard old new phase.Rest h = lasts-same old new h
lasts-enters t shard old new (phase.Admit r) h = lasts-begins t shard _ old new h
lasts-enters t shard old new (phase.Find r) h = lasts-same old new h
lasts-enters t shard old new (phase.Grow c) h = lasts-same old new h
lasts-enters t shard old new (phase.Append k v) h = lasts-same old new h
lasts-enters t shard old new (phase.Apply k) h = lasts-same old new h
lasts-enters t shard old new (phase.View k d) h = lasts-same old new h
lasts-enters t shard old new (phase.Read d) h = lasts-same old new h
lasts-enters t shard old new (phase.Change k) h = lasts-same old new h
lasts-enters t shard old new (phase.Fill v) h = lasts-same old new h
lasts-enters t shard old new phase.Downgrade h = lasts-same old new h
lasts-enters t shard old new (phase.Idle f) h = lasts-same old new h
lasts-enters t shard old new (phase.Reach f) h = lasts-begins t shard _ old new h
lasts-enters t shard old new (phase.Part f) h = lasts-same old new h
lasts-enters t shard old new (phase.Visit f) h = lasts-same old new h
lasts-enters t shard old new (phase.Seek f) h = lasts-same old new h
lasts-enters t shard old new (phase.Item f) h = lasts-same old new h
lasts-enters t shard old new (phase.Give f) h = lasts-same old new h
lasts-enters t shard old new (phase.Onward f) h = lasts-same old new h
lasts-enters t shard old new (phase.Release a) h = lasts-same old new h
lasts-enters t shard old new (phase.Answer a) h = lasts-same old new h

module _ (cases : StepsAreCases) (agree : Always OwnersAgree) where
  moves_fit : (t : ℕ) (fair : Bool) (old new : Shown) → LocksFit old → LockMoves t fair old new → LocksFit new
  moves_fit t fair old new fit m =
      let x = lawful-moves t fair old new fit m in
      let same = ap (λ st. st.shard) (same_Some m.stand (stand_of x.call)
      (sym m.stood ∙ ap (option_map stand_of) x.here)) in
      stepped_fit cases agree old fit t fair new.rows x m.desk (ap (slice_get old.desks) (sym same) ∙ m.at_shard)
      new.desks
      (m.desks ∙ ap (λ n. slice_set old.desks n (desk_after (held_at (state old.rows) n) (held_at (state new.rows) n)
      t (taken_by new.rows.wakes t) m.desk)) same)

  pub lasts-moves : (t : ℕ) (fair : Bool) (old new : Shown) → LockMoves t fair old new → Lasts old new
  lasts-moves t fair old new m = record {
    fit = λ fit. moves_fit t fair old new fit m;
    size = moves-size old new t
        fair m;
  }

  pub lasts-starts : (t shard : ℕ) (call : LockCall) (fair : Bool) (old new : Shown)
      → LockStarts t shard call fair old new → Lasts old new
  lasts-starts t shard call fair old new x = record {
    fit = λ fit. moves_fit t fair x.mid new (fit-begins t shard call old x.mid fit x.begins) x.moves;
    size = starts-size old new t shard call fair x;
  }

  -- a deadline comes
  pub lasts-expires : (t : ℕ) (old new : Shown) → LockExpires t old new → Lasts old new
  lasts-expires t old new e = record {
    fit = λ fit. subst (λ (ds : List (DeskState (Unit {0}))). LocksFit (record { rows = new.rows; desks = ds }))
        (sym e.desks) (expired_fit cases old fit t new.rows (lawful-expires t old new fit e) e.may);
    size = record {
      threads_are = e.whole.threads;
      shards_are = ap length e.whole.kinds;
      desks_are = ap length e.desks;
    };
  }
