-- An example run: a reader owns a lock, a writer comes and sleeps, the reader leaves, and the writer owns the lock.
use Rattle.std.specs.Prelude.{◌≡◌, ℕ, true, false, List, [], ◌∷◌}
use Rattle.parking_lot_rules.specs.Roles.{Shared, Exclusive, Shares, Asleep}
use Rattle.parking_lot_rules.specs.Clauses.{number}
use Rattle.parking_lot_rules.specs.Plain.{Begin, Share, Pend, Flag2, Enter2, Check2, Rest2, UnshareLast, Look2, Mask2}
use Rattle.parking_lot_rules.specs.Plain.{Depart2, Finish, Drain}
use Rattle.parking_lot_rules.specs.Steps.{Step, Alone, List_changes, Take2, Wake, Join2, Recheck}
use Rattle.parking_lot_rules.specs.Laws.{holds}
use Rattle.parking_lot_rules.specs.Classes.{Readers, Pending, Writers}
use Rattle.parking_lot_rules.specs.World.{World, lock_at}
use Rattle.parking_lot_rules.specs.Runs.{Move, IsReached}

-- a step of a thread at lock 0
abbrev pub by : ℕ → Step → Move
by t s = record { thread = t; lock = 0; step = s }

-- thread 0 reads, and thread 1 asks to write, to its sleep
abbrev pub comes : List Move
comes = by 0 (Alone (Begin 0 Shared)) ∷ by 0 (Alone (Share 0 false)) ∷ by 1 (Alone (Begin 0 Exclusive)) ∷ by 1
    (Alone (Pend false)) ∷ by 1 (Alone (Flag2 false false))
    ∷ by 1 (Alone (Enter2 false false)) ∷ by 1 (Alone (Check2 false false)) ∷ by 1 (List_changes (Join2 false)) ∷ by 1
    (Alone (Rest2 false)) ∷ []

-- thread 0 leaves and wakes thread 1, which owns the lock
abbrev pub goes : List Move
goes = by 0 (Alone (UnshareLast 0)) ∷ by 0 (Alone (Look2 0)) ∷ by 0 (Take2 (Shares 0) 1 false Asleep) ∷ by 0
    (Alone (Mask2 0 (1 ∷ []))) ∷ by 0 (Alone (Depart2 0 (1 ∷ [])))
    ∷ by 0 (Wake (Shares 0) 1 [] (Recheck false) Asleep) ∷ by 0 (Alone (Finish (Shares 0))) ∷ by 1
    (Alone (Drain false true)) ∷ []

-- There is a run with one bucket for all keys, in which thread 1 sleeps, the word is 26 and the second list has thread
-- 1; and one that goes on from there, in which it owns the lock, the word is 8 and the list is empty.
pub record RunsAreThere : Type 0 where
  pub asleep : World
  pub reached : IsReached (λ k. 0) (λ i. false) asleep
  pub word : number (asleep.words 0) ≡ 26
  pub queue : asleep.queues 1 ≡ 1 ∷ []
  pub reader : holds Readers (lock_at asleep 0) 0 ≡ 1
  pub pending : holds Pending (lock_at asleep 0) 1 ≡ 1
  pub owned : World
  pub reached_then : IsReached (λ k. 0) (λ i. false) owned
  pub word_then : number (owned.words 0) ≡ 8
  pub queue_then : owned.queues 1 ≡ []
  pub writer_then : holds Writers (lock_at owned 0) 1 ≡ 1
