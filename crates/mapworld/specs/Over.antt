-- A world that has come to its end, as a caller sees it.
use Rattle.std.specs.Prelude.{◌≡◌, ℕ, ◌<◌, List, [], length, Some, slice_get}
use Rattle.parking_lot_machine.specs.Rows.{state, queue_at}
use Rattle.mapworld_calls.specs.declared.ask.Ask.{Ask}
use Rattle.mapworld_calls.specs.declared.reply.Reply.{Reply}
use Rattle.mapworld_calls.specs.Shards.{IsReplied}
use Rattle.mapworld_state.specs.declared.step.Status.TheVariants as status
use Rattle.mapworld_state.specs.Footprint.{word_of}
use Rattle.mapworld_state.specs.Running.{status_of}
use Rattle.mapworld_state.specs.State.{State}

-- the call has its reply
abbrev pub HasReply : {K V T A : Type 0} → List (Reply K V T A) → ℕ → ℕ → Type 0
HasReply replies t c = (start : ℕ) × IsReplied replies t c start

-- each call of each program has its reply, each thread has finished, each word is 0 and each queue is empty
pub record IsOver {K V S D T A : Type 0} (w : State K V S D T A) : Type 0 where
  pub replied : (t c : ℕ) (program : List (Ask K V D)) → slice_get w.programs t ≡ Some program → c < length program
      → HasReply w.replies t c
  pub finished : (t : ℕ) → status_of w t ≡ status.Finished
  pub words : (shard : ℕ) → word_of w.locks shard ≡ 0
  pub queues : (key : ℕ) → queue_at (state w.locks.rows) key ≡ []
