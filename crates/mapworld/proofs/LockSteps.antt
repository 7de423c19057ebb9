-- What the steps of a lock reach: one word or one queue, of one shard.
use Rattle.std.proofs.Common.{◌≡◌, ◌≢◌, ℕ, inl, inr, Bool, false, List, Some}
use Rattle.std.proofs.Common.{slice_get, sym, ap, ◌∙◌}
use Rattle.std.proofs.lemmas.Option.{none-some}
use Rattle.lock_api_desk.specs.Desk.{DeskState}
use Rattle.parking_lot_protocol.specs.declared.act.Act.{Act}
use Rattle.parking_lot_protocol.specs.declared.act.CoreAnswer.{CoreAnswer}
use Rattle.parking_lot_machine_calls.specs.declared.calls.LockCall.{LockCall}
use Rattle.parking_lot_machine_calls.specs.declared.open_call.Call.{Call}
use Rattle.parking_lot_machine.specs.Machines.{Became, end_of}
use Rattle.parking_lot_machine.specs.RowActs.{answered}
use Rattle.parking_lot_machine.specs.Rows.{State, first_key, queue_at, second_key, state, word_at}
use Rattle.parking_lot_machine_calls.specs.Stances.{core_act}
use Rattle.mapworld_state.specs.Locks.Fits.{LocksFit}
use Rattle.mapworld_state.specs.Locks.Footprints.{StepsTouchOneLock, TouchesOnly}
use Rattle.mapworld_state.specs.Locks.Steps.{LockBegins, LockEnds, LockExpires, LockMoves, LockStarts}
use Rattle.mapworld_state.specs.Locks.Views.{Shown}
use Rattle.mapworld_calls.proofs.Lists.{slice_get-set_other}
use Rattle.mapworld_state.proofs.LocksFacts.Lawful.{fit-begins}
use Rattle.mapworld_state.specs.Footprint.{ChangesLock, KeepsLock, KeepsLocks, first_queue, second_queue, the_word}

-- A CALL BEGINS: nothing is changed but who is in a call

pub begins_keep : (t shard : ℕ) (call : LockCall) (old mid : Shown) → LockBegins t shard call old mid
    → KeepsLocks old mid
begins_keep t shard call old mid b i = record {
  word = ap (λ (u : State). word_at u i) b.became;
  first = ap (λ (u : State). queue_at u (first_key i)) b.became;
  second = ap (λ (u : State). queue_at u (second_key i)) b.became;
  desk = ap (λ (ds : List (DeskState _)). slice_get ds i) b.desks;
}

-- A CALL ENDS

pub is_answered : (a : Act) (answer : CoreAnswer) (t : ℕ) (fair : Bool) (c : Call) (s u : State)
    → Some answer ≡ end_of a → Became a t fair c s u → u ≡ answered s t c
is_answered (Act.Done x) answer t fair c s u ends became = became
is_answered Act.Load answer t fair c s u ends became = absurd (none-some answer (sym ends))
is_answered (Act.Exchange from to) answer t fair c s u ends became = absurd (none-some answer (sym ends))
is_answered (Act.Add by) answer t fair c s u ends became = absurd (none-some answer (sym ends))
is_answered (Act.FetchAnd keep) answer t fair c s u ends became = absurd (none-some answer (sym ends))
is_answered Act.Spin answer t fair c s u ends became = absurd (none-some answer (sym ends))
is_answered (Act.Enter key) answer t fair c s u ends became = absurd (none-some answer (sym ends))
is_answered (Act.Section next) answer t fair c s u ends became = absurd (none-some answer (sym ends))
is_answered Act.Sleep answer t fair c s u ends became = absurd (none-some answer (sym ends))

pub ends_keep : (t : ℕ) (answer : CoreAnswer) (old new : Shown) → LockEnds t answer old new → KeepsLocks old new
ends_keep t answer old new e i =
    let became = is_answered (core_act e.steps.call.core) answer t false e.steps.call (state old.rows)
    (state new.rows) e.steps.answers e.steps.became in
    record {
      word = ap (λ (u : State). word_at u i) became;
      first = ap (λ (u : State). queue_at u (first_key i)) became;
      second = ap (λ (u : State). queue_at u (second_key i)) became;
      desk = ap (λ (ds : List (DeskState _)). slice_get ds i) e.desks;
    }

-- A DEADLINE COMES

pub expires_keep : (t : ℕ) (old new : Shown) → LockExpires t old new → KeepsLocks old new
expires_keep t old new e i = record {
  word = e.words i;
  first = e.queues (first_key i);
  second = e.queues (second_key i);
  desk = ap (λ (ds : List (DeskState _)). slice_get ds i) e.desks;
}

-- A CALL MOVES

-- of the locks at most one word is another, or one queue, of one shard
pub record TouchesLock (old new : Shown) : Type 0 where
  pub shard : ℕ
  pub others : (i : ℕ) → i ≢ shard → KeepsLock old new i
  pub here : ChangesLock old new shard

changes : (old new : Shown) (shard : ℕ) → TouchesOnly shard (state old.rows) (state new.rows)
    → ChangesLock old new shard
changes old new shard only = elim only.word_or_queues [
  | inl word ↦ elim only.one_queue [
    | inl first ↦ second_queue word first
    | inr second ↦ first_queue word second
  ]
  | inr queues ↦ the_word queues.0 queues.1
]

pub moves_touch : StepsTouchOneLock → (t : ℕ) (fair : Bool) (old new : Shown) → LocksFit old
    → LockMoves t fair old new → TouchesLock old new
moves_touch touch t fair old new fit m =
    let only = touch t fair old new fit m in
    record {
      shard = m.stand.shard;
      others = λ i ne.
          let stays = only.elsewhere i ne in
          record {
            word = stays.word;
            first = stays.first;
            second = stays.second;
            desk = ap (λ (ds : List (DeskState _)). slice_get ds i) m.desks
                ∙ slice_get-set_other old.desks m.stand.shard i _ (λ e. ne (sym e));
          };
      here = changes old new m.stand.shard only;
    }

-- what stayed before it doesn't count
keeps_both : (old mid new : Shown) (i : ℕ) → KeepsLock old mid i → KeepsLock mid new i → KeepsLock old new i
keeps_both old mid new i a b = record {
  word = b.word ∙ a.word;
  first = b.first ∙ a.first;
  second = b.second
      ∙ a.second;
  desk = b.desk ∙ a.desk;
}

changes_behind : (old mid new : Shown) (i : ℕ) → KeepsLock old mid i → ChangesLock mid new i → ChangesLock old new i
changes_behind old mid new i a (the_word first second) = the_word (first ∙ a.first) (second ∙ a.second)
changes_behind old mid new i a (first_queue word second) = first_queue (word ∙ a.word) (second ∙ a.second)
changes_behind old mid new i a (second_queue word first) = second_queue (word ∙ a.word) (first ∙ a.first)

pub keeps_behind : (old mid new : Shown) → KeepsLocks old mid → KeepsLocks mid new → KeepsLocks old new
keeps_behind old mid new a b i = keeps_both old mid new i (a i) (b i)

pub touches_behind : (old mid new : Shown) → KeepsLocks old mid → TouchesLock mid new → TouchesLock old new
touches_behind old mid new a b = record {
  shard = b.shard;
  others = λ i ne. keeps_both old mid new i (a i)
      (b.others i ne);
  here = changes_behind old mid new b.shard (a b.shard) b.here;
}

pub starts_touch : StepsTouchOneLock → (t shard : ℕ) (call : LockCall) (fair : Bool) (old new : Shown)
    → LocksFit old → LockStarts t shard call fair old new → TouchesLock old new
starts_touch touch t shard call fair old new fit x =
    touches_behind old x.mid new (begins_keep t shard call old x.mid x.begins)
    (moves_touch touch t fair x.mid new (fit-begins t shard call old x.mid fit x.begins) x.moves)
