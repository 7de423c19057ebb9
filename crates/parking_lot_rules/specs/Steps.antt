-- The steps that change a list, or the place of another thread; and all steps together.
use Rattle.std.specs.Prelude.{◌≡◌, ◌≢◌, ℕ, zero, suc, ◌+◌, ◌-◌, ◌<◌, Bool, true, false, ◌⊎◌, List, [], ◌∷◌, ◌++◌}
use Rattle.std.specs.Prelude.{length, map, slice_get, slice_set, Some}
use Rattle.std.specs.List.{remove}
use Rattle.parking_lot_rules.specs.Roles.{Mode, Shared, Exclusive, Upgradable, Owned, Shares, Excludes, Upgrades, Stay}
use Rattle.parking_lot_rules.specs.Roles.{Fresh, Back, Mark, Open, Normal, Handed, Cause, FromExclusive, FromUpgradable}
use Rattle.parking_lot_rules.specs.Roles.{Owed, Phase, Idle, Seeks, Checked1, Queued1, Taken1, Masks1, Leaves1, Drains}
use Rattle.parking_lot_rules.specs.Roles.{Checked2, Queued2, Taken2, Leaves2, Scans1, Stored1, Scans2, Wakes, Role}
use Rattle.parking_lot_rules.specs.Classes.{Class, Readers, Upgraders, Pending, Called, OpenReaders, OpenUpgraders}
use Rattle.parking_lot_rules.specs.Classes.{OpenWriters, total, bit, inside}
use Rattle.parking_lot_rules.specs.Clauses.{Word}
use Rattle.parking_lot_rules.specs.Plain.{Plain, from, to, May, written}
use Rattle.parking_lot_rules.specs.Lock.{Lock, Note, note_of}

-- Joining a list, and taking oneself off it: off the first one as one of several, or as the last. i: where it stood.
pub data Listing : Type 0 where
  Join1 : (mode : Mode) → Listing
  Join2 : (from : Bool) → Listing
  Quit1 : (mode : Mode) → (i : ℕ) → Listing
  QuitLast1 : (mode : Mode) → (i : ℕ) → Listing
  Quit2 : (from : Bool) → (i : ℕ) → Listing

abbrev pub listing_from : Listing → Role
listing_from (Join1 m) = record { owns = Shares 0; does = Checked1 m }
listing_from (Join2 f) = record { owns = Shares 0; does = Checked2 f }
listing_from (Quit1 m i) = record { owns = Shares 0; does = Queued1 m Back }
listing_from (QuitLast1 m i) = record { owns = Shares 0; does = Queued1 m Back }
listing_from (Quit2 f i) = record { owns = Shares 0; does = Queued2 f Back }

abbrev pub listing_to : Listing → Role
listing_to (Join1 m) = record { owns = Shares 0; does = Queued1 m Fresh }
listing_to (Join2 f) = record { owns = Shares 0; does = Queued2 f Fresh }
listing_to (Quit1 m i) = record { owns = Shares 0; does = Leaves1 }
listing_to (QuitLast1 m i) = record { owns = Shares 0; does = Masks1 }
listing_to (Quit2 f i) = record { owns = Shares 0; does = Leaves2 f }

-- when the thread t may do so, by the two lists
abbrev pub MayList : Listing → ℕ → List ℕ → List ℕ → Type 0
MayList (Join1 m) t first second = Unit {0}
MayList (Join2 f) t first second = Unit {0}
MayList (Quit1 m i) t first second = (slice_get first i ≡ Some t) × (1 < length first)
MayList (QuitLast1 m i) t first second = (slice_get first i ≡ Some t) × (length first ≡ 1)
MayList (Quit2 f i) t first second = slice_get second i ≡ Some t

-- the lists after it
abbrev pub first_after : Listing → ℕ → List ℕ → List ℕ
first_after (Join1 m) t first = first ++ t ∷ []
first_after (Join2 f) t first = first
first_after (Quit1 m i) t first = remove first i
first_after (QuitLast1 m i) t first = remove first i
first_after (Quit2 f i) t first = first

abbrev pub second_after : Listing → ℕ → List ℕ → List ℕ
second_after (Join1 m) t second = second
second_after (Join2 f) t second = second ++ t ∷ []
second_after (Quit1 m i) t second = second
second_after (QuitLast1 m i) t second = second
second_after (Quit2 f i) t second = remove second i

-- What one that goes through the first list does at a waiter, by whether those it has taken want the upgradable hold or
-- a writer's.
pub data Look : Type 0 where
  Stop : Look
  Skip : Look
  Take : Look

abbrev pub look : Bool → Bool → Mode → Look
look upgradable true mode = Stop
look true false Shared = Take
look true false Exclusive = Skip
look true false Upgradable = Skip
look false false mode = Take

-- whether there is an upgradable owner once the step is done: one was taken, or the thread that owes the look is one
abbrev pub has_upgradable : Owned → Cause → Bool → Bool
has_upgradable Upgrades Owed upgradable = true
has_upgradable Upgrades FromExclusive upgradable = upgradable
has_upgradable Upgrades FromUpgradable upgradable = upgradable
has_upgradable Excludes cause upgradable = upgradable
has_upgradable (Shares n) cause upgradable = upgradable

-- what a waiter wants
abbrev pub wants : Phase → Mode
wants (Queued1 mode stay) = mode
wants phase = Shared

-- the first i waiters of a list are skipped
abbrev pub AreSkipped : Bool → Bool → List Role → List ℕ → ℕ → Type 0
AreSkipped upgradable writer roles q i = (j u : ℕ) (r : Role) → j < i → slice_get q j ≡ Some u
    → slice_get roles u ≡ Some r → look upgradable writer (wants r.does) ≡ Skip

-- One that goes through the first list, what it owns and has taken so far.
pub record Scan : Type 0 where
  pub owns : Owned
  pub cause : Cause
  pub shared : ℕ
  pub upgradable : Bool
  pub writer : Bool
  pub taken : List ℕ

abbrev pub scanning : Scan → Role
scanning s = record { owns = s.owns; does = Scans1 s.cause s.shared s.upgradable s.writer s.taken }

abbrev pub holds_upgradable : Scan → Bool
holds_upgradable s = has_upgradable s.owns s.cause s.upgradable

-- with one more
abbrev pub taking : Scan → ℕ → Mode → Scan
taking s v Shared = record s { shared = s.shared + 1; taken = s.taken ++ v ∷ [] }
taking s v Exclusive = record s { writer = true; taken = s.taken ++ v ∷ [] }
taking s v Upgradable = record s { upgradable = true; taken = s.taken ++ v ∷ [] }

-- The first waiter that isn't skipped is taken: the thread v at index i of the list.
pub record MayTake (s : Scan) (i v : ℕ) (m : Mode) (stay : Stay) (roles : List Role) (first : List ℕ) : Type 0 where
  pub waiter : slice_get first i ≡ Some v
  pub role : slice_get roles v ≡ Some (record { owns = Shares 0; does = Queued1 m stay })
  pub looks : look (holds_upgradable s) s.writer m ≡ Take
  pub skipped : AreSkipped (holds_upgradable s) s.writer roles first i

-- There is nobody left to take: a writer was taken, or all that are left are skipped.
abbrev pub IsOver : Scan → List Role → List ℕ → Type 0
IsOver s roles first = (s.writer ≡ true) ⊎ AreSkipped (holds_upgradable s) s.writer roles first (length first)

-- How the section ends: what it gives up, and whether those that were taken own the lock from here on.
pub data Ending : Type 0 where
  -- the exclusive hold, or the upgradable one, is given up
  Free : Ending
  FreeUpgradable : Ending
  -- and handed over
  Hand : Ending
  HandUpgradable : Ending
  -- nothing is
  Keep : Ending

-- why the thread went through the list, and what those that were taken learn
abbrev pub ends_for : Ending → Cause
ends_for Free = FromExclusive
ends_for FreeUpgradable = FromUpgradable
ends_for Hand = FromExclusive
ends_for HandUpgradable = FromUpgradable
ends_for Keep = Owed

abbrev pub ends_saying : Ending → Mark
ends_saying Free = Normal
ends_saying FreeUpgradable = Normal
ends_saying Hand = Handed
ends_saying HandUpgradable = Handed
ends_saying Keep = Normal

-- the lock is handed over only to somebody
abbrev pub MayEnd : Ending → List ℕ → Type 0
MayEnd Hand taken = 0 < length taken
MayEnd HandUpgradable taken = 0 < length taken
MayEnd Free taken = Unit {0}
MayEnd FreeUpgradable taken = Unit {0}
MayEnd Keep taken = Unit {0}

-- 1 if waiters are left
abbrev pub are_left : ℕ → ℕ
are_left zero = 0
are_left (suc n) = 1

-- a bit that is cleared where no waiter is left
abbrev pub kept : ℕ → ℕ → ℕ
kept zero bit = 0
kept (suc n) bit = bit

-- the word that is stored, where so many shared waiters, an upgradable one and a writer were taken, and so many waiters
-- are left
abbrev pub stored : Ending → (shared : ℕ) → (upgradable writer : Bool) → (left : ℕ) → Word → Word
stored Free r u x n w = record { readers = 0; writer = 0; upgradable = 0; parked2 = 0; parked1 = are_left n }
stored FreeUpgradable r u x n w = record w { readers = w.readers - 1; upgradable = 0; parked1 = kept n w.parked1 }
stored Hand r u x n w =
    record { readers = r + bit u; writer = bit x; upgradable = bit u; parked2 = 0; parked1 = are_left n }
stored HandUpgradable r u x n w =
    record w { readers = w.readers - 1 + r + bit u; writer = bit x; upgradable = bit u; parked1 = are_left n }
stored Keep r u x n w = record w { parked1 = kept n w.parked1 }

-- what a thread learns that was taken and not told yet
abbrev pub told : Mark → Phase → Phase
told mark (Taken1 mode by Open stay) = Taken1 mode by mark stay
told mark phase = phase

abbrev pub settle : Mark → Role → Role
settle mark r = record r { does = told mark r.does }

-- the counts after that
abbrev pub settled : Mark → (Class → ℕ) → Class → ℕ
settled Normal n Called = n Called + n OpenUpgraders + n OpenWriters
settled Handed n Readers = n Readers + n OpenReaders
settled Handed n Upgraders = n Upgraders + n OpenUpgraders
settled Handed n Pending = n Pending + n OpenWriters
settled Normal n OpenReaders = 0
settled Normal n OpenUpgraders = 0
settled Normal n OpenWriters = 0
settled Handed n OpenReaders = 0
settled Handed n OpenUpgraders = 0
settled Handed n OpenWriters = 0
settled mark n c = n c

-- What a thread that is woken goes on with: it tries again, or owns what was handed over, or looks again as the pending
-- writer.
pub data Waking : Type 0 where
  Retry : (mode : Mode) → Waking
  Own : Waking
  OwnPending : Waking
  OwnUpgradable : Waking
  Recheck : (from : Bool) → Waking

-- the role of a thread that was taken by t, and after the wake
abbrev pub waking_from : Waking → ℕ → Stay → Role
waking_from (Retry m) t stay = record { owns = Shares 0; does = Taken1 m t Normal stay }
waking_from Own t stay = record { owns = Shares 0; does = Taken1 Shared t Handed stay }
waking_from OwnPending t stay = record { owns = Shares 0; does = Taken1 Exclusive t Handed stay }
waking_from OwnUpgradable t stay = record { owns = Shares 0; does = Taken1 Upgradable t Handed stay }
waking_from (Recheck f) t stay = record { owns = Shares 0; does = Taken2 f t stay }

abbrev pub waking_to : Waking → Role
waking_to (Retry m) = record { owns = Shares 0; does = Seeks m true }
waking_to Own = record { owns = Shares 1; does = Idle }
waking_to OwnPending = record { owns = Shares 0; does = Drains false true }
waking_to OwnUpgradable = record { owns = Upgrades; does = Idle }
waking_to (Recheck f) = record { owns = Shares 0; does = Drains f true }

-- All steps of a thread t at a lock.
pub data Step : Type 0 where
  Alone : (k : Plain) → Step
  List_changes : (k : Listing) → Step
  Take1 : (scan : Scan) → (i v : ℕ) → (mode : Mode) → (stay : Stay) → Step
  Take2 : (owns : Owned) → (v : ℕ) → (from : Bool) → (stay : Stay) → Step
  Store : (end : Ending) → (scan : Scan) → Step
  Wake : (owns : Owned) → (v : ℕ) → (taken : List ℕ) → (k : Waking) → (stay : Stay) → Step
  -- one of those that are to be woken has gone on by itself
  Pass : (owns : Owned) → (before : List ℕ) → (v : ℕ) → (taken : List ℕ) → Step

-- when the step may be made
abbrev pub Allowed : Bool → ℕ → Step → Lock → Type 0
Allowed recursive t (Alone k) l = (slice_get l.roles t ≡ Some (from k)) × May recursive k l.word (λ c. total c l.roles)
Allowed recursive t (List_changes k) l = (slice_get l.roles t ≡ Some (listing_from k)) × MayList k t l.first l.second
Allowed recursive t (Take1 s i v m stay) l = (slice_get l.roles t ≡ Some (scanning s))
    × MayTake s i v m stay l.roles l.first
Allowed recursive t (Take2 o v f stay) l =
    (slice_get l.roles t ≡ Some (record { owns = o; does = Scans2 [] })) × (slice_get l.second 0 ≡ Some v)
    × (slice_get l.roles v ≡ Some (record { owns = Shares 0; does = Queued2 f stay }))
Allowed recursive t (Store e s) l =
    (slice_get l.roles t ≡ Some (scanning s)) × (s.cause ≡ ends_for e) × MayEnd e s.taken × IsOver s l.roles l.first
Allowed recursive t (Wake o v us k stay) l =
    (slice_get l.roles t ≡ Some (record { owns = o; does = Wakes (v ∷ us) }))
    × (slice_get l.roles v ≡ Some (waking_from k t stay)) × (inside stay ≡ 0)
Allowed recursive t (Pass o ws v us) l =
    (slice_get l.roles t ≡ Some (record { owns = o; does = Wakes (ws ++ v ∷ us) }))
    × ((r : Role) (note : Note) → slice_get l.roles v ≡ Some r → note_of r.does ≢ Some (t, note))

-- the lock after the step
abbrev pub after : ℕ → Step → Lock → Lock
after t (Alone k) l = record l { word = written k l.word; roles = slice_set l.roles t (to k) }
after t (List_changes k) l =
    record l {
      roles = slice_set l.roles t (listing_to k);
      first = first_after k t l.first;
      second = second_after k t l.second;
    }
after t (Take1 s i v m stay) l = record l {
  roles = slice_set (slice_set l.roles t (scanning (taking s v m))) v
      (record { owns = Shares 0; does = Taken1 m t Open stay });
  first = remove l.first i;
}
after t (Take2 o v f stay) l = record l {
  roles = slice_set (slice_set l.roles t (record { owns = o; does = Scans2 (v ∷ []) })) v
      (record { owns = Shares 0; does = Taken2 f t stay });
  second = remove l.second 0;
}
after t (Store e s) l = record l {
  word = stored e s.shared s.upgradable s.writer (length l.first) l.word;
  roles = slice_set (map (settle (ends_saying e)) l.roles) t (record { owns = s.owns; does = Stored1 s.taken });
}
after t (Wake o v us k stay) l =
    record l { roles = slice_set (slice_set l.roles v (waking_to k)) t (record { owns = o; does = Wakes us }) }
after t (Pass o ws v us) l = record l { roles = slice_set l.roles t (record { owns = o; does = Wakes (ws ++ us) }) }
