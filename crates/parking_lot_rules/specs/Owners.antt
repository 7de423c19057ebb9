-- A lock without its word: who owns it and how, and who waits in its two lists.
use Rattle.std.specs.Prelude.{◌≡◌, ◌≢◌, ℕ, suc, ◌+◌, ◌<◌, ◌⊎◌, Bool, true, List, [], ◌∷◌, ◌++◌, map, slice_get}
use Rattle.std.specs.Prelude.{slice_set, Some}
use Rattle.std.specs.List.{remove}
use Rattle.parking_lot_rules.specs.Roles.{Mode, Shared, Exclusive, Upgradable, Owned, Shares, Excludes, Upgrades, Open}
use Rattle.parking_lot_rules.specs.Roles.{Handed, FromExclusive, FromUpgradable, Phase, Queued1, Taken1, Drains}
use Rattle.parking_lot_rules.specs.Roles.{Enters2, Checked2, Queued2, Taken2, Leaves2, Yields, Scans1, Role}
use Rattle.parking_lot_rules.specs.Lock.{Lock}
use Rattle.parking_lot_rules.specs.Plain.{Share, Pend, Drain, Upgradably, Exclude, Yield, YieldBack, Unshare}
use Rattle.parking_lot_rules.specs.Plain.{UnshareLast, Unlock, UnlockUpgradable, Downgrade, DowngradeToUpgradable}
use Rattle.parking_lot_rules.specs.Plain.{DowngradeUpgradable, Upgrade, UpgradeAtOnce}
use Rattle.parking_lot_rules.specs.Steps.{Step, Alone, List_changes, Take1, Take2, Store, Join1, Join2, Quit1}
use Rattle.parking_lot_rules.specs.Steps.{QuitLast1, Quit2, Free, FreeUpgradable, Hand, HandUpgradable, Keep}

-- How a thread owns a lock: by a number of shared holds (0 is not at all), upgradably, exclusively but for readers that
-- are to leave first, or exclusively.
pub data Owner : Type 0 where
  Reading : (holds : ℕ) → Owner
  Upgrading : Owner
  Awaiting : Owner
  Writing : Owner

-- Where it stands: in no list, in the first one with what it wants, in the second, or taken off the first one and not
-- told yet what for.
pub data Stand : Type 0 where
  Apart : Stand
  Waits : (mode : Mode) → Stand
  WaitsForReaders : Stand
  Chosen : (mode : Mode) → Stand

pub record Standing : Type 0 where
  pub owner : Owner
  pub stand : Stand

pub record Owners : Type 0 where
  pub threads : List Standing
  pub first : List ℕ
  pub second : List ℕ

-- what a thread owns for good
abbrev pub owner_for_good : Owned → Owner
owner_for_good (Shares n) = Reading n
owner_for_good Excludes = Writing
owner_for_good Upgrades = Upgrading

-- who is given a mode owns the lock so
abbrev pub given : Mode → Owner
given Shared = Reading 1
given Exclusive = Awaiting
given Upgradable = Upgrading

abbrev pub owner_of : Owned → Phase → Owner
owner_of o (Taken1 mode by Handed stay) = given mode
owner_of o (Drains from woken) = Awaiting
owner_of o (Enters2 from woken) = Awaiting
owner_of o (Checked2 from) = Awaiting
owner_of o (Queued2 from stay) = Awaiting
owner_of o (Taken2 from by stay) = Awaiting
owner_of o (Leaves2 from) = Awaiting
owner_of o (Yields from) = Awaiting
owner_of o (Scans1 FromExclusive shared upgradable writer taken) = Writing
owner_of o (Scans1 FromUpgradable shared upgradable writer taken) = Upgrading
owner_of o phase = owner_for_good o

abbrev pub stand_of : Phase → Stand
stand_of (Queued1 mode stay) = Waits mode
stand_of (Queued2 from stay) = WaitsForReaders
stand_of (Taken1 mode by Open stay) = Chosen mode
stand_of phase = Apart

abbrev pub standing : Role → Standing
standing r = record { owner = owner_of r.owns r.does; stand = stand_of r.does }

abbrev pub owners : Lock → Owners
owners l = record { threads = map standing l.roles; first = l.first; second = l.second }

-- no owner is exclusive or pending; none is upgradable; none reads, upgradable or not
abbrev pub NoWriter : Owners → Type 0
NoWriter a = (u : ℕ) (s : Standing) → slice_get a.threads u ≡ Some s → (s.owner ≢ Writing) × (s.owner ≢ Awaiting)

abbrev pub NoUpgrader : Owners → Type 0
NoUpgrader a = (u : ℕ) (s : Standing) → slice_get a.threads u ≡ Some s → s.owner ≢ Upgrading

abbrev pub NoReader : Owners → Type 0
NoReader a = (u n : ℕ) (s : Standing) → slice_get a.threads u ≡ Some s → (s.owner ≢ Reading (suc n))
    × (s.owner ≢ Upgrading)

-- some owner reads, upgradable or not
abbrev pub SomeReader : Owners → Type 0
SomeReader a = (u : ℕ) × (s : Standing) × (slice_get a.threads u ≡ Some s)
    × (((n : ℕ) × (s.owner ≡ Reading (suc n))) ⊎ (s.owner ≡ Upgrading))

-- What a step does: nothing to owners and lists, or one of these.
pub data Case : Type 0 where
  Nothing : Case
  -- a thread enters a list, or takes itself off it again
  Enter : (mode : Mode) → Case
  EnterSecond : Case
  Quit : (mode : Mode) → (i : ℕ) → Case
  QuitSecond : (i : ℕ) → Case
  -- it is admitted
  AdmitShared : (n : ℕ) → Case
  AdmitPending : Case
  AdmitExclusive : Case
  AdmitAtOnce : Case
  AdmitUpgradable : Case
  -- it changes how it owns the lock
  Convert : (from : Owner) → (to : Owner) → Case
  ConvertAlone : Case
  -- it leaves, or gives up before it was admitted
  Leave : (from : Owner) → (to : Owner) → Case
  GiveUp : (to : Owner) → Case
  -- it takes another off a list
  Choose : (i : ℕ) → (v : ℕ) → (mode : Mode) → Case
  Rouse : (v : ℕ) → Case
  -- it tells those that it has taken to try again, and leaves or not; or it leaves and hands the lock over to them
  Tell : Case
  LeaveTelling : (from : Owner) → Case
  HandOver : (from : Owner) → Case

-- those that were chosen are told to try again, or own the lock
abbrev pub not_chosen : Stand → Stand
not_chosen (Chosen mode) = Apart
not_chosen stand = stand

abbrev pub owner_given : Stand → Owner → Owner
owner_given (Chosen mode) owner = given mode
owner_given stand owner = owner

abbrev pub dismissed : Standing → Standing
dismissed s = record { owner = s.owner; stand = not_chosen s.stand }

abbrev pub appointed : Standing → Standing
appointed s = record { owner = owner_given s.stand s.owner; stand = not_chosen s.stand }

-- a thread owns the lock so, and stands there
abbrev pub At : Owners → ℕ → Owner → Stand → Type 0
At a t o s = slice_get a.threads t ≡ Some (record { owner = o; stand = s })

-- the threads with another standing of one of them
abbrev pub with_standing : List Standing → ℕ → Owner → Stand → List Standing
with_standing threads t o s = slice_set threads t (record { owner = o; stand = s })

-- those that stand before a waiter that is chosen want more than a shared hold
abbrev pub ArePassedOver : Owners → ℕ → Type 0
ArePassedOver a i = (j u : ℕ) (s : Standing) → j < i → slice_get a.first j ≡ Some u → slice_get a.threads u ≡ Some s
    → s.stand ≢ Waits Shared

-- what an owner may become without asking
abbrev pub Converts : Owner → Owner → Type 0
Converts Writing (Reading n) = n ≡ 1
Converts Writing Upgrading = Unit {0}
Converts Upgrading (Reading n) = n ≡ 1
Converts Upgrading Awaiting = Unit {0}
Converts from to = ⊥

-- what one that leaves has left
abbrev pub Leaves : Owner → Owner → Type 0
Leaves (Reading n) (Reading m) = n ≡ m + 1
Leaves Writing (Reading n) = n ≡ 0
Leaves Upgrading (Reading n) = n ≡ 0
Leaves from to = ⊥

-- A step of thread t from the one state to the other, by its case. Nothing is said of the word.
abbrev pub IsCase : Bool → ℕ → Case → Owners → Owners → Type 0
IsCase recursive t Nothing a b = b ≡ a
IsCase recursive t (Enter m) a b = At a t (Reading 0) Apart
    × (b ≡ record a { threads = with_standing a.threads t (Reading 0) (Waits m); first = a.first ++ t ∷ [] })
IsCase recursive t EnterSecond a b = At a t Awaiting Apart
    × (b ≡ record a { threads = with_standing a.threads t Awaiting WaitsForReaders; second = a.second ++ t ∷ [] })
IsCase recursive t (Quit m i) a b =
    At a t (Reading 0) (Waits m) × (slice_get a.first i ≡ Some t)
    × (b ≡ record a { threads = with_standing a.threads t (Reading 0) Apart; first = remove a.first i })
IsCase recursive t (QuitSecond i) a b =
    At a t Awaiting WaitsForReaders × (slice_get a.second i ≡ Some t)
    × (b ≡ record a { threads = with_standing a.threads t Awaiting Apart; second = remove a.second i })
IsCase recursive t (AdmitShared n) a b =
    At a t (Reading n) Apart × (NoWriter a ⊎ ((recursive ≡ true) × SomeReader a))
    × (b ≡ record a { threads = with_standing a.threads t (Reading (n + 1)) Apart })
IsCase recursive t AdmitPending a b = At a t (Reading 0) Apart × NoWriter a × NoUpgrader a
    × (b ≡ record a { threads = with_standing a.threads t Awaiting Apart })
IsCase recursive t AdmitExclusive a b = At a t Awaiting Apart × NoReader a
    × (b ≡ record a { threads = with_standing a.threads t Writing Apart })
IsCase recursive t AdmitAtOnce a b = At a t (Reading 0) Apart × NoWriter a × NoReader a
    × (b ≡ record a { threads = with_standing a.threads t Writing Apart })
IsCase recursive t AdmitUpgradable a b = At a t (Reading 0) Apart × NoWriter a × NoUpgrader a
    × (b ≡ record a { threads = with_standing a.threads t Upgrading Apart })
IsCase recursive t (Convert from to) a b = At a t from Apart × Converts from to
    × (b ≡ record a { threads = with_standing a.threads t to Apart })
IsCase recursive t ConvertAlone a b =
    At a t Upgrading Apart
    × ((u n : ℕ) (s : Standing) → u ≢ t → slice_get a.threads u ≡ Some s → (s.owner ≢ Reading (suc n))
    × (s.owner ≢ Upgrading))
    × (b ≡ record a { threads = with_standing a.threads t Writing Apart })
IsCase recursive t (Leave from to) a b = At a t from Apart × Leaves from to
    × (b ≡ record a { threads = with_standing a.threads t to Apart })
IsCase recursive t (GiveUp to) a b = At a t Awaiting Apart × ((to ≡ Reading 0) ⊎ (to ≡ Upgrading))
    × (b ≡ record a { threads = with_standing a.threads t to Apart })
IsCase recursive t (Choose i v m) a b =
    (slice_get a.first i ≡ Some v) × At a v (Reading 0) (Waits m) × ArePassedOver a i
    × (b ≡ record a { threads = with_standing a.threads v (Reading 0) (Chosen m); first = remove a.first i })
IsCase recursive t (Rouse v) a b =
    (slice_get a.second 0 ≡ Some v) × At a v Awaiting WaitsForReaders
    × (b ≡ record a { threads = with_standing a.threads v Awaiting Apart; second = remove a.second 0 })
IsCase recursive t Tell a b = b ≡ record a { threads = map dismissed a.threads }
IsCase recursive t (LeaveTelling from) a b = At a t from Apart × Leaves from (Reading 0)
    × (b ≡ record a { threads = with_standing (map dismissed a.threads) t (Reading 0) Apart })
IsCase recursive t (HandOver from) a b = At a t from Apart × Leaves from (Reading 0)
    × (b ≡ record a { threads = with_standing (map appointed a.threads) t (Reading 0) Apart })

-- the case of each step
abbrev pub case_of : Step → Case
case_of (Alone (Share n c)) = AdmitShared n
case_of (Alone (Pend c)) = AdmitPending
case_of (Alone (Drain f c)) = AdmitExclusive
case_of (Alone (Upgradably c)) = AdmitUpgradable
case_of (Alone Exclude) = AdmitAtOnce
case_of (Alone (Yield owing)) = GiveUp (Reading 0)
case_of (Alone (YieldBack owing)) = GiveUp Upgrading
case_of (Alone (Unshare n)) = Leave (Reading (n + 1)) (Reading n)
case_of (Alone (UnshareLast n)) = Leave (Reading (n + 1)) (Reading n)
case_of (Alone Unlock) = Leave Writing (Reading 0)
case_of (Alone UnlockUpgradable) = Leave Upgrading (Reading 0)
case_of (Alone (Downgrade owing)) = Convert Writing (Reading 1)
case_of (Alone (DowngradeToUpgradable owing)) = Convert Writing Upgrading
case_of (Alone (DowngradeUpgradable owing)) = Convert Upgrading (Reading 1)
case_of (Alone Upgrade) = Convert Upgrading Awaiting
case_of (Alone UpgradeAtOnce) = ConvertAlone
case_of (List_changes (Join1 m)) = Enter m
case_of (List_changes (Join2 f)) = EnterSecond
case_of (List_changes (Quit1 m i)) = Quit m i
case_of (List_changes (QuitLast1 m i)) = Quit m i
case_of (List_changes (Quit2 f i)) = QuitSecond i
case_of (Take1 s i v m stay) = Choose i v m
case_of (Take2 o v f stay) = Rouse v
case_of (Store Free s) = LeaveTelling Writing
case_of (Store FreeUpgradable s) = LeaveTelling Upgrading
case_of (Store Hand s) = HandOver Writing
case_of (Store HandUpgradable s) = HandOver Upgrading
case_of (Store Keep s) = Tell
case_of step = Nothing

-- a step is of its case
abbrev pub IsOfItsCase : Bool → ℕ → Step → Lock → Lock → Type 0
IsOfItsCase recursive t step old new = IsCase recursive t (case_of step) (owners old) (owners new)
