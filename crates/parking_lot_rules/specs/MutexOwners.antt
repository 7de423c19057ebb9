-- A mutex without its word: who owns it, and who waits in its list.
use Rattle.std.specs.Prelude.{◌≡◌, ℕ, Bool, true, false, List, [], ◌∷◌, ◌++◌, map, slice_get, slice_set, Some}
use Rattle.std.specs.List.{remove}
use Rattle.parking_lot_rules.specs.Roles.{Open, Handed}
use Rattle.parking_lot_rules.specs.Mutex.{Phase, Queued, Taken, Unlocks, Role, Mutex, Step, Alone, Join, Quit, QuitLast}
use Rattle.parking_lot_rules.specs.Mutex.{Requeue, Follow, Take, Free, Hand, Lock, Unlock, Allowed, after}

-- Where a thread stands: not in the list, in it, or taken off it and not told yet what for.
pub data Stand : Type 0 where
  Apart : Stand
  Waits : Stand
  Chosen : Stand

pub record Standing : Type 0 where
  pub owner : Bool
  pub stand : Stand

pub record Owners : Type 0 where
  pub threads : List Standing
  pub queue : List ℕ

abbrev pub owner_of : Bool → Phase → Bool
owner_of o (Taken by Handed stay) = true
owner_of o (Unlocks taken) = true
owner_of o phase = o

abbrev pub stand_of : Phase → Stand
stand_of (Queued stay) = Waits
stand_of (Taken by Open stay) = Chosen
stand_of phase = Apart

abbrev pub standing : Role → Standing
standing r = record { owner = owner_of r.owns r.does; stand = stand_of r.does }

abbrev pub owners : Mutex → Owners
owners m = record { threads = map standing m.roles; queue = m.queue }

-- those that were chosen are told to try again, or own the mutex
abbrev pub not_chosen : Stand → Stand
not_chosen Chosen = Apart
not_chosen Apart = Apart
not_chosen Waits = Waits

abbrev pub owner_given : Stand → Bool → Bool
owner_given Chosen owner = true
owner_given Apart owner = owner
owner_given Waits owner = owner

abbrev pub dismissed : Standing → Standing
dismissed s = record { owner = s.owner; stand = not_chosen s.stand }

abbrev pub appointed : Standing → Standing
appointed s = record { owner = owner_given s.stand s.owner; stand = not_chosen s.stand }

-- What a step does: nothing to owner and list, or one of these.
pub data Case : Type 0 where
  Nothing : Case
  Admit : Case
  Leave : Case
  -- a thread enters the list, takes itself off it, or is moved into it by another
  Enter : Case
  QuitList : (i : ℕ) → Case
  Move : (v : ℕ) → Case
  -- the first waiter is taken off the list; the owner leaves and tells it to try again, or hands the mutex over to it
  Choose : (v : ℕ) → Case
  LeaveTelling : Case
  HandOver : Case

abbrev pub At : Owners → ℕ → Bool → Stand → Type 0
At a t o s = slice_get a.threads t ≡ Some (record { owner = o; stand = s })

abbrev pub with_standing : List Standing → ℕ → Bool → Stand → List Standing
with_standing threads t o s = slice_set threads t (record { owner = o; stand = s })

abbrev pub NoOwner : Owners → Type 0
NoOwner a = (u : ℕ) (s : Standing) → slice_get a.threads u ≡ Some s → s.owner ≡ false

-- A step of thread t from the one state to the other, by its case. Nothing is said of the word.
abbrev pub IsCase : ℕ → Case → Owners → Owners → Type 0
IsCase t Nothing a b = b ≡ a
IsCase t Admit a b = At a t false Apart × NoOwner a × (b ≡ record a { threads = with_standing a.threads t true Apart })
IsCase t Leave a b = At a t true Apart × (b ≡ record a { threads = with_standing a.threads t false Apart })
IsCase t Enter a b = At a t false Apart
    × (b ≡ record a { threads = with_standing a.threads t false Waits; queue = a.queue ++ t ∷ [] })
IsCase t (QuitList i) a b = At a t false Waits × (slice_get a.queue i ≡ Some t)
    × (b ≡ record a { threads = with_standing a.threads t false Apart; queue = remove a.queue i })
IsCase t (Move v) a b = At a v false Apart
    × (b ≡ record a { threads = with_standing a.threads v false Waits; queue = a.queue ++ v ∷ [] })
IsCase t (Choose v) a b = (slice_get a.queue 0 ≡ Some v) × At a v false Waits
    × (b ≡ record a { threads = with_standing a.threads v false Chosen; queue = remove a.queue 0 })
IsCase t LeaveTelling a b = At a t true Apart
    × (b ≡ record a { threads = with_standing (map dismissed a.threads) t false Apart })
IsCase t HandOver a b = At a t true Apart
    × (b ≡ record a { threads = with_standing (map appointed a.threads) t false Apart })

-- the case of each step
abbrev pub case_of : Step → Case
case_of (Alone (Lock woken)) = Admit
case_of (Alone Unlock) = Leave
case_of Join = Enter
case_of (Quit i) = QuitList i
case_of (QuitLast i) = QuitList i
case_of (Requeue o v) = Move v
case_of (Follow o v stay w) = Move w
case_of (Take v stay) = Choose v
case_of (Free taken) = LeaveTelling
case_of (Hand v) = HandOver
case_of step = Nothing

-- each step is of its case, at every moment of every run
abbrev pub StepsAreCases : Mutex → Type 0
StepsAreCases m = (t : ℕ) (step : Step) → Allowed t step m
    → IsCase t (case_of step) (owners m) (owners (after t step m))
