-- What holds of the machine at every moment.
use Rattle.std.specs.Prelude.{◌≡◌, ℕ, ◌+◌, ◌-◌, ◌*◌, ◌<◌, ◌≤◌, ◌^◌, ◌⊎◌, Bool, true, false, count_by, List, []}
use Rattle.std.specs.Prelude.{length, Option, Some, None, slice_get}
use Rattle.std.specs.Option.{option_map_or}
use Rattle.parking_lot_core_model.specs.declared.parking.ParkToken.{ParkToken}
use Rattle.parking_lot_core_model.specs.declared.parking.UnparkToken.{UnparkToken}
use Rattle.parking_lot_core_model.specs.declared.place.Place.{Place}
use Rattle.parking_lot_core_model.specs.declared.place.Place.TheVariants.{Running, Waiting, Held, Taken}
use Rattle.parking_lot_core_model.specs.declared.place.Phase.{Phase}
use Rattle.parking_lot_core_model.specs.declared.place.Phase.TheVariants as phase
use Rattle.parking_lot_core_model.specs.declared.place.Section.{Section}
use Rattle.parking_lot_core_model.specs.declared.place.Sleep.{Sleep}
use Rattle.parking_lot_core_model.specs.declared.place.Waiter.{Waiter}
use Rattle.parking_lot_core_model.specs.Places.{place_at, mark_of, may_take, may_store, passed_of}
use Rattle.parking_lot_core_model.specs.Results.{is_left}
use Rattle.parking_lot_core_model.specs.Sound as lot
use Rattle.parking_lot_core_model.specs.Machine.{Machine}
use Rattle.parking_lot_core_model.specs.Machine as lot_machine
use Rattle.parking_lot_rules.specs.Any.{AnySound, any_inside}
use Rattle.parking_lot_rules.specs.Family.{SoundFamilyOf}
use Rattle.parking_lot_protocol.specs.RwRules as of_rw
use Rattle.parking_lot_protocol.specs.declared.act.Act.TheVariants as act
use Rattle.parking_lot_protocol.specs.declared.act.SectionAct.TheVariants as section
use Rattle.parking_lot_protocol.specs.declared.mutex_phase.MutexPhase.{MutexPhase}
use Rattle.parking_lot_protocol.specs.declared.mutex_phase.MutexPhase.TheVariants as m
use Rattle.parking_lot_protocol.specs.declared.rw_phase.AfterWake.{AfterWake}
use Rattle.parking_lot_protocol.specs.declared.rw_phase.AfterWake.TheVariants as rest
use Rattle.parking_lot_protocol.specs.declared.rw_phase.LockMode.{LockMode}
use Rattle.parking_lot_protocol.specs.declared.rw_phase.LockMode.TheVariants as want
use Rattle.parking_lot_protocol.specs.declared.rw_phase.RwPhase.{RwPhase}
use Rattle.parking_lot_protocol.specs.declared.rw_phase.RwPhase.TheVariants as r
use Rattle.parking_lot_rules.specs.Clauses.{word_of}
use Rattle.parking_lot_machine_calls.specs.declared.seat.Hold.TheVariants as hold
use Rattle.parking_lot_machine_calls.specs.declared.seat.WakeResult.{WakeResult}
use Rattle.parking_lot_machine_calls.specs.declared.seat.WakeResult.TheVariants as told
use Rattle.parking_lot_machine_calls.specs.declared.seat.QueuePosition.{QueuePosition}
use Rattle.parking_lot_machine_calls.specs.declared.seat.QueuePosition.TheVariants as spot
use Rattle.parking_lot_machine_calls.specs.declared.late_rw.LateRwPhase.{LateRwPhase}
use Rattle.parking_lot_machine_calls.specs.declared.late_rw.LateRwPhase.TheVariants as late_rw
use Rattle.parking_lot_machine_calls.specs.declared.late_rw.RwSleeper.{RwSleeper}
use Rattle.parking_lot_machine_calls.specs.declared.late_rw.RwSleeper.TheVariants as sleeper
use Rattle.parking_lot_machine_calls.specs.declared.seat.Core.{Core}
use Rattle.parking_lot_machine_calls.specs.declared.seat.Core.TheVariants as core
use Rattle.parking_lot_machine_calls.specs.declared.open_call.Call.{Call}
use Rattle.parking_lot_machine_calls.specs.declared.seat.Wakeup.{Wakeup}
use Rattle.parking_lot_machine_calls.specs.Kinds.{AsMutex, manner_of, recursive_in}
use Rattle.parking_lot_machine.specs.Rows.{State, word_at, hold_at, call_at, taken_by, open_at, bucket, family}
use Rattle.parking_lot_machine_calls.specs.Stances.{Doing, Looks, TurnsBack, Joins, Joined, Takes, Stores, Tells}
use Rattle.parking_lot_machine_calls.specs.Stances.{Stance, Out, In, Asleep, stance, taken_count, core_act}
use Rattle.parking_lot_machine_calls.specs.Stances.{sleeper_asleep}
use Rattle.parking_lot_machine.specs.Rounds.{IsUnderWay}
use Rattle.parking_lot_protocol.specs.RwTable.{count_of, sum_of}
use Rattle.parking_lot_protocol.specs.declared.rw_phase.Scanning.{Scanning}
use Rattle.parking_lot_protocol_rw.specs.declared.upgrade_phase.UpgradePhase.{UpgradePhase}
use Rattle.parking_lot_protocol_rw.specs.declared.upgrade_phase.UpgradePhase.TheVariants as u
use Rattle.parking_lot_protocol_rw.specs.declared.upgrade_phase.Hold as up
use Rattle.parking_lot_protocol_rw.specs.declared.upgrade_phase.Hold.TheVariants as up_hold
use Rattle.parking_lot_protocol_rw.specs.UpgradeLooks.{CanHaveTaken}
use Rattle.parking_lot_protocol_rw.specs.UpgradeRules as of_upgrade
use Rattle.parking_lot_protocol_rw.specs.UpgradeTable.{is_again}
use Rattle.parking_lot_protocol.specs.Wake.{wake_answer}
use Rattle.parking_lot_machine.specs.Passes.{ArePassed, asks, look_by}
use Rattle.parking_lot_machine_calls.specs.CallActs.{told_of}
use Rattle.parking_lot_machine_calls.specs.CallKinds.{IsOfKind, IsOfWorld}

-- THE LOT

-- how far the section has come in which a thread does so
abbrev pub HasCome : Doing → Phase → UnparkToken → Type 0
HasCome Looks ph token = ph ≡ phase.Fresh
HasCome TurnsBack ph token = ph ≡ phase.Invalid
HasCome (Joins park) ph token = ph ≡ phase.Valid
HasCome (Joined park) ph token = ph ≡ phase.Joined
HasCome Takes ph token = may_take ph ≡ true
HasCome Stores ph token = may_store ph ≡ true
HasCome (Tells said) ph token = (ph ≡ phase.Stored) × (token ≡ said)

-- it waits in that list, and has no deadline
abbrev pub WaitsIn : Option Place → ℕ → Type 0
WaitsIn place key = (sleep : Sleep) × (place ≡ Some (Waiting key sleep)) × (sleep.late ≡ false)

abbrev pub PlaceWhile : Doing → QueuePosition → Option Place → ℕ → Type 0
PlaceWhile (Joined token) at place key = (at ≡ spot.Listed) × WaitsIn place key
PlaceWhile how at place key = place ≡ Some Running

-- what was said to those that an open section has taken
abbrev pub SaidIn : Section → WakeResult → Type 0
SaidIn section said = ((section.phase ≡ phase.Stored) × (said ≡ told_of section.token))
    ⊎ ((may_store section.phase ≡ true) × (said ≡ told.Nothing))

-- a sleeper stands in its list, or was taken by a section that is open or by one that is closed
abbrev pub IsAt : QueuePosition → Option Place → (ℕ → Option Section) → ℕ → Type 0
IsAt spot.Listed place sections key = WaitsIn place key
IsAt (spot.Off by said) place sections key =
    (sleep : Sleep) × (sleep.late ≡ false)
    × (((place ≡ Some (Held key sleep)) × (opened : Section) × (sections key ≡ Some opened)
    × (opened.thread ≡ Some by) × SaidIn opened said)
    ⊎ ((token : UnparkToken) × (place ≡ Some (Taken token key sleep false)) × (said ≡ told_of token)))

-- Its stance at lock j fits the lot: its place there, the key of the section that it is in, and the section that is
-- open in the bucket of each key.
abbrev pub Stands : ℕ → ℕ → Stance → QueuePosition → Option Place → Option ℕ → (ℕ → Option Section) → Type 0
Stands t j Out at place inside sections = (place ≡ Some Running) × (inside ≡ None)
Stands t j (In k how) at place inside sections =
    (opened : Section) × (sections (2 * j + k) ≡ Some opened) × (opened.thread ≡ Some t) × (opened.key ≡ 2 * j + k)
    × HasCome how opened.phase opened.token × PlaceWhile how at place (2 * j + k) × (inside ≡ Some (2 * j + k))
Stands t j (Asleep k token) at place inside sections = IsAt at place sections (2 * j + k) × (inside ≡ None)

-- one in no call
abbrev pub Seated : ℕ → Option Call → Option Place → Option ℕ → (ℕ → Option Section) → Type 0
Seated t None place inside sections = (place ≡ Some Running) × (inside ≡ None)
Seated t (Some c) place inside sections = Stands t c.lock (stance c.core) c.spot place inside sections

-- a thread in that call, by what the lot says of it
abbrev pub SeatedIn : Machine → ℕ → Option Call → Type 0
SeatedIn m t call = Seated t call (place_at m.places t) (m.inside t) (lot_machine.open_at m)

-- a waiter with that token in the k-th list of a lock
abbrev pub Awaits : ℕ → ParkToken → Stance → Type 0
Awaits k token (In key (Joined park)) = (key ≡ k) × (park ≡ token)
Awaits k token (Asleep key park) = (key ≡ k) × (park ≡ token)
Awaits k token other = ⊥

-- WHAT THE PARTS OF THE MACHINE SAY TO EACH OTHER

-- who may ask: one that has no other hold, or on a recursive lock a reader
abbrev pub Asks : Bool → ℕ → LockMode → Type 0
Asks recursive n (want.Shared true) = recursive ≡ true
Asks recursive n (want.Shared false) = n ≡ 0
Asks recursive n want.Exclusive = n ≡ 0

-- What a phase needs of what its thread owns beside and has taken, where that doesn't follow from what the word says.
abbrev pub rw_prepared : Bool → ℕ → List ℕ → RwPhase → Type 0
rw_prepared recursive n us (r.Unshares rest) = Unit {0}
rw_prepared recursive n us r.Downgrades = Unit {0}
rw_prepared recursive n us (r.Locking want) = Asks recursive n want
rw_prepared recursive n us (r.Trying want) = Asks recursive n want
rw_prepared recursive n us (r.Loads a) = Asks recursive n a.want
rw_prepared recursive n us (r.Admits a word) = Asks recursive n a.want
rw_prepared recursive n us (r.Spins a) = Asks recursive n a.want
rw_prepared recursive n us (r.SetParked a word) = Asks recursive n a.want
rw_prepared recursive n us (r.TryLoads want) = Asks recursive n want
rw_prepared recursive n us (r.TryAdmits want word left) = Asks recursive n want
rw_prepared recursive n us (r.Refuses want) = Asks recursive n want
rw_prepared recursive n us (r.Relocks want) = Asks recursive n want
rw_prepared recursive n us p = of_rw.Fits recursive n us p (word_of 0)

-- What a call that has begun keeps of what its thread owns beside: one that asks may ask, one that goes to sleep has no
-- other hold, and one that gives the exclusive hold up, or asks again for what it gave up, has no other. A scan that
-- goes on has taken no writer.
abbrev pub rest_keeps : ℕ → AfterWake → Type 0
rest_keeps n rest.FreedShared = Unit {0}
rest_keeps n rest.FreedExclusive = n ≡ 0
rest_keeps n rest.Downgraded = Unit {0}
rest_keeps n rest.AgainShared = n ≡ 0
rest_keeps n rest.AgainExclusive = n ≡ 0

abbrev pub rw_keeps : Bool → ℕ → RwPhase → Type 0
rw_keeps recursive n (r.Locking want) = ⊥
rw_keeps recursive n (r.Trying want) = ⊥
rw_keeps recursive n r.UnlockingShared = ⊥
rw_keeps recursive n (r.UnlockingExclusive fair) = ⊥
rw_keeps recursive n r.Downgrading = ⊥
rw_keeps recursive n r.BumpingShared = ⊥
rw_keeps recursive n r.BumpingExclusive = ⊥
rw_keeps recursive n (r.Loads a) = Asks recursive n a.want
rw_keeps recursive n (r.Admits a word) = Asks recursive n a.want
rw_keeps recursive n (r.Spins a) = Asks recursive n a.want
rw_keeps recursive n (r.SetParked a word) = Asks recursive n a.want × (n ≡ 0)
rw_keeps recursive n (r.Enters want woken) = Asks recursive n want × (n ≡ 0)
rw_keeps recursive n (r.Checks want woken) = Asks recursive n want × (n ≡ 0)
rw_keeps recursive n (r.Retreats want woken) = Asks recursive n want × (n ≡ 0)
rw_keeps recursive n (r.Appends want) = Asks recursive n want × (n ≡ 0)
rw_keeps recursive n (r.Rests want) = Asks recursive n want × (n ≡ 0)
rw_keeps recursive n (r.Sleeps want) = Asks recursive n want × (n ≡ 0)
rw_keeps recursive n (r.TryLoads want) = Asks recursive n want
rw_keeps recursive n (r.TryAdmits want word left) = Asks recursive n want
rw_keeps recursive n (r.Refuses want) = Asks recursive n want
rw_keeps recursive n (r.Relocks want) = Asks recursive n want
rw_keeps recursive n (r.DrainLoads d) = n ≡ 0
rw_keeps recursive n (r.DrainSpins d) = n ≡ 0
rw_keeps recursive n (r.DrainSetParked d word) = n ≡ 0
rw_keeps recursive n (r.DrainEnters d) = n ≡ 0
rw_keeps recursive n (r.DrainChecks d) = n ≡ 0
rw_keeps recursive n (r.DrainRetreats d) = n ≡ 0
rw_keeps recursive n (r.DrainAppends rounds) = n ≡ 0
rw_keeps recursive n (r.DrainRests rounds) = n ≡ 0
rw_keeps recursive n (r.DrainSleeps rounds) = n ≡ 0
rw_keeps recursive n (r.BumpLoads want) = n ≡ 0
rw_keeps recursive n (r.Unlocks fair rest) = n ≡ 0
rw_keeps recursive n (r.LooksExclusive fair rest) = n ≡ 0
rw_keeps recursive n (r.Unshares rest) = rest_keeps n rest
rw_keeps recursive n (r.EnterWriterWakeSection rest) = rest_keeps n rest
rw_keeps recursive n (r.TakeWriter rest) = rest_keeps n rest
rw_keeps recursive n (r.ClearWriterParked rest taken) = rest_keeps n rest
rw_keeps recursive n (r.LeaveWriterWakeSection rest taken) = rest_keeps n rest
rw_keeps recursive n (r.Scans s) = rest_keeps n s.rest × (s.writer ≡ false)
rw_keeps recursive n (r.Stores s left) = rest_keeps n s.rest
rw_keeps recursive n (r.Leaves rest count handed) = rest_keeps n rest
rw_keeps recursive n (r.Wakes rest count) = rest_keeps n rest
rw_keeps recursive n (r.Finishes rest) = rest_keeps n rest
rw_keeps recursive n r.Downgrades = Unit {0}
rw_keeps recursive n r.EnterWakeSection = Unit {0}
rw_keeps recursive n (r.Ends outcome) = Unit {0}
rw_keeps recursive n r.Invalid = ⊥

-- What a phase of an upgradable call needs of whom its thread has taken, where that doesn't follow from what the word
-- says. Calls of shared and exclusive holds have a core of their own, and one that gives up begins with its first look
-- at the word.
abbrev pub frees_prepared : List ℕ → RwPhase → Type 0
frees_prepared us (r.LooksExclusive fair rest) = us ≡ []
frees_prepared us (r.Scans s) = s.shared < 2 ^ 32 - 1
frees_prepared us (r.Stores s left) = (s.shared < 2 ^ 32) × (length us ≡ count_of s)
frees_prepared us (r.Finishes rest) = us ≡ []
frees_prepared us phase = Unit {0}

abbrev pub owes_prepared : List ℕ → RwPhase → Type 0
owes_prepared us r.EnterWakeSection = us ≡ []
owes_prepared us (r.Scans s) = s.shared < 2 ^ 32 - 1
owes_prepared us (r.Finishes rest) = us ≡ []
owes_prepared us phase = Unit {0}

abbrev pub upgrade_prepared : List ℕ → UpgradePhase → Type 0
upgrade_prepared us (u.Plain core) = ⊥
upgrade_prepared us (u.GivingUp from) = ⊥
upgrade_prepared us (u.Frees release core) = frees_prepared us core.phase
upgrade_prepared us (u.Owes hold answer core) = owes_prepared us core.phase
upgrade_prepared us phase = Unit {0}

-- with what a call of a world may begin
abbrev pub upgrade_begins : UpgradePhase → Type 0
upgrade_begins u.Locking = Unit {0}
upgrade_begins u.Trying = Unit {0}
upgrade_begins (u.Unlocking release) = is_again release ≡ false
upgrade_begins u.Upgrading = Unit {0}
upgrade_begins u.TryingToUpgrade = Unit {0}
upgrade_begins u.DowngradingToShared = Unit {0}
upgrade_begins u.DowngradingToUpgradable = Unit {0}
upgrade_begins phase = ⊥

-- Nobody goes through the list that keeps the exclusive hold. A scan that goes on has taken no writer, and beside the
-- upgradable hold nobody that wants it.
abbrev pub keeps_hold : up.Hold → Type 0
keeps_hold up_hold.Exclusive = ⊥
keeps_hold other = Unit {0}

abbrev pub scan_keeps : up.Hold → RwPhase → Type 0
scan_keeps kept (r.Scans s) = (s.writer ≡ false) × CanHaveTaken kept s
scan_keeps kept (r.Stores s left) = CanHaveTaken kept s
scan_keeps kept phase = Unit {0}

abbrev pub upgrade_keeps : UpgradePhase → Type 0
upgrade_keeps (u.Frees release core) = scan_keeps up_hold.Nothing core.phase
upgrade_keeps (u.Owes kept answer core) = keeps_hold kept × scan_keeps kept core.phase
upgrade_keeps phase = Unit {0}

-- One whose moment has passed stands on what it stood on as it slept.
abbrev pub sleeper_prepared : Bool → ℕ → RwSleeper → Type 0
sleeper_prepared recursive n (sleeper.Simple c) = of_rw.IsReady c.phase × rw_keeps recursive n c.phase
sleeper_prepared recursive n (sleeper.Upgradable c) = (n ≡ 0) × of_upgrade.IsReady c.phase × IsOfWorld c.phase
    × upgrade_keeps c.phase

abbrev pub late_rw_prepared : Bool → ℕ → LateRwPhase → Type 0
late_rw_prepared recursive n (late_rw.Expires k) = (sleeper_asleep k ≡ true) × sleeper_prepared recursive n k
late_rw_prepared recursive n (late_rw.Quits k) = (sleeper_asleep k ≡ true) × sleeper_prepared recursive n k
late_rw_prepared recursive n (late_rw.WasTaken k by handed) = (sleeper_asleep k ≡ true) × sleeper_prepared recursive n k
late_rw_prepared recursive n p = n ≡ 0

-- what a call that is kept stands on
abbrev pub IsPrepared : Bool → ℕ → Core → Type 0
IsPrepared recursive n (core.Mutex c) = n ≡ 0
IsPrepared recursive n (core.Rw c) = of_rw.IsReady c.phase × rw_keeps recursive n c.phase
IsPrepared recursive n (core.Late p) = n ≡ 0
IsPrepared recursive n (core.LateRw p) = late_rw_prepared recursive n p
IsPrepared recursive n (core.Upgrade c) = (n ≡ 0) × of_upgrade.IsReady c.phase × IsOfWorld c.phase
    × upgrade_keeps c.phase

-- What one that is to store knows of its list: whether waiters are left, and that it has taken a writer or would pass
-- all of them.
abbrev pub mutex_knows : MutexPhase → List Waiter → Type 0
mutex_knows (m.Stores giving taken left) queue = (is_left queue ≡ left) × (taken ≡ false → left ≡ false)
mutex_knows phase queue = Unit {0}

abbrev pub rw_knows : RwPhase → List Waiter → List Waiter → Type 0
rw_knows (r.Stores s left) first second = (is_left first ≡ left)
    × ((s.writer ≡ true) ⊎ ArePassed (wake_answer (sum_of s)) first (length first))
rw_knows (r.ClearWriterParked rest taken) first second = second ≡ []
rw_knows phase first second = Unit {0}

-- Whether one that scans sees an upgradable hold: its own, or one that it has given away.
abbrev pub sees_upgradable : up.Hold → Scanning → Bool
sees_upgradable up_hold.Upgradable s = true
sees_upgradable kept s = s.upgradable

abbrev pub scan_knows : up.Hold → RwPhase → List Waiter → Type 0
scan_knows kept (r.Stores s left) first = (is_left first ≡ left)
    × ((s.writer ≡ true) ⊎ ArePassed (look_by (sees_upgradable kept s) s.writer) first (length first))
scan_knows kept phase first = Unit {0}

abbrev pub upgrade_knows : UpgradePhase → List Waiter → Type 0
upgrade_knows (u.Frees release core) first = scan_knows up_hold.Nothing core.phase first
upgrade_knows (u.Owes kept answer core) first = scan_knows kept core.phase first
upgrade_knows phase first = Unit {0}

abbrev pub KnowsList : Core → (ℕ → List Waiter) → ℕ → Type 0
KnowsList (core.Mutex c) queues j = mutex_knows c.phase (queues (2 * j))
KnowsList (core.Rw c) queues j = rw_knows c.phase (queues (2 * j)) (queues (2 * j + 1))
KnowsList (core.Late p) queues j = Unit {0}
KnowsList (core.LateRw p) queues j = Unit {0}
KnowsList (core.Upgrade c) queues j = upgrade_knows c.phase (queues (2 * j))

-- Who was taken sleeps off its list, at the lock of its taker.
pub record IsTaken (s : State) (e : Wakeup) : Type 0 where
  pub taker : Call
  pub there : call_at s e.by ≡ Some taker
  pub call : Call
  pub here : call_at s e.thread ≡ Some call
  pub lock : call.lock ≡ taker.lock
  pub said : WakeResult
  pub spot : call.spot ≡ spot.Off e.by said
  pub key : ℕ
  pub token : ParkToken
  pub asleep : stance call.core ≡ Asleep key token
  pub mark : option_map_or mark_of (place_at s.lot.places e.thread) 0 ≡ e.mark

-- t is still to be woken by the thread that took it
abbrev pub IsOwed : List Wakeup → ℕ → ℕ → Type 0
IsOwed wakes by t = (n : ℕ) × (e : Wakeup) × (slice_get wakes n ≡ Some e) × (e.by ≡ by) × (e.thread ≡ t)

-- whether it is in a section
abbrev pub IsInside : Stance → Type 0
IsInside Out = ⊥
IsInside (In k how) = Unit {0}
IsInside (Asleep k token) = ⊥

-- One that is to wake n others counts as many, while it is in its section; once it has left some of those that it
-- counts may have gone on by themselves.
pub record IsCounted (threads n : ℕ) (c : Core) : Type 0 where
  pub most : n ≤ taken_count c
  pub few : taken_count c ≤ threads
  pub all : IsInside (stance c) → n ≡ taken_count c

-- one that is to wake somebody has taken somebody
abbrev pub WakesSome : Core → Type 0
WakesSome c = core_act c ≡ act.Section section.Wake → 1 ≤ taken_count c

-- The lot's side.
-- whose taker has told it: that one is in no section any more
abbrev pub TakersAreOut : State → Machine → Type 0
TakersAreOut s m =
    (v k : ℕ) (c : Call) (token : ParkToken) (by : ℕ) (said : WakeResult) (x : UnparkToken) (key : ℕ) (sleep : Sleep)
    → call_at s v ≡ Some c → stance c.core ≡ Asleep k token → c.spot ≡ spot.Off by said
    → place_at m.places v ≡ Some (Taken x key sleep false) → m.inside by ≡ None

pub record LotFits (s : State) : Type 0 where
  -- the lot is sound, and each thread's place in it is the one of its stance
  pub sound : lot.Sound s.lot
  pub seated : (t : ℕ) → t < length s.calls → SeatedIn s.lot t (call_at s t)
  pub opened : (b : ℕ) (section : Section) → s.lot.sections b ≡ Some section → (t : ℕ) × (section.thread ≡ Some t)
      × (t < length s.calls)
  -- who waits in a lock's list is in a call there
  pub waits : (j k n : ℕ) (w : Waiter) → k < 2 → slice_get (s.lot.queues (2 * j + k)) n ≡ Some w
      → (c : Call) × (call_at s w.thread ≡ Some c) × (c.lock ≡ j) × (c.spot ≡ spot.Listed)
      × Awaits k w.token (stance c.core)
  -- who sleeps off its list is still to be woken by its taker
  pub owed : (t : ℕ) (c : Call) (key : ℕ) (token : ParkToken) (by : ℕ) (said : WakeResult) → call_at s t ≡ Some c
      → stance c.core ≡ Asleep key token → c.spot ≡ spot.Off by said → IsOwed s.wakes by t
  pub outside : TakersAreOut s s.lot
  -- each is taken once, and its taker counts it
  pub woken : (n : ℕ) (e : Wakeup) → slice_get s.wakes n ≡ Some e → IsTaken s e
  pub once : (n m : ℕ) (e f : Wakeup) → slice_get s.wakes n ≡ Some e → slice_get s.wakes m ≡ Some f
      → e.thread ≡ f.thread → n ≡ m
  pub counted : (t : ℕ) (c : Call) → call_at s t ≡ Some c → IsCounted (length s.calls) (length (taken_by s.wakes t))
      c.core
  pub untaken : (t : ℕ) → call_at s t ≡ None → taken_by s.wakes t ≡ []
  pub wakeful : (t : ℕ) (c : Call) → call_at s t ≡ Some c → WakesSome c.core

-- Who is off its list.
abbrev pub is_off : QueuePosition → Bool
is_off spot.Listed = false
is_off (spot.Off by said) = true

abbrev pub is_away : Option Call → Bool
is_away None = false
is_away (Some c) = is_off c.spot

pub record WakesFit (s : State) : Type 0 where
  -- whoever is off its list is to be woken by who took it
  pub off : (t by : ℕ) (c : Call) (said : WakeResult) → call_at s t ≡ Some c → c.spot ≡ spot.Off by said → (n : ℕ)
      × (e : Wakeup) × (slice_get s.wakes n ≡ Some e) × (e.by ≡ by) × (e.thread ≡ t)
  pub room : length s.wakes ≡ count_by is_away s.calls

-- The side of the rules.
pub record RulesFit (s : State) : Type 0 where
  pub size_holds : length s.holds ≡ length s.calls * length s.kinds
  pub size_words : length s.words ≡ length s.kinds
  pub small : length s.calls < 2 ^ 18
  pub few_locks : length s.kinds < 2 ^ 21
  -- a call is of its lock's kind, and stands as its phase asks
  pub kinds : (t : ℕ) (c : Call) → call_at s t ≡ Some c → IsOfKind (slice_get s.kinds c.lock) c.core
  pub prepared : (t : ℕ) (c : Call) → call_at s t ≡ Some c → IsPrepared (recursive_in s.kinds c.lock) c.others c.core
  pub knows : (t : ℕ) (c : Call) → call_at s t ≡ Some c → KnowsList c.core s.lot.queues c.lock
  -- a thread has few shared holds of a lock
  pub few : (t i n : ℕ) → hold_at s t i ≡ hold.Shares n → n ≤ 255
  pub beside : (t : ℕ) (c : Call) → call_at s t ≡ Some c → c.others ≤ 254
  -- each word has the bits of its kind
  pub bits : (i : ℕ) → manner_of (slice_get s.kinds i) ≡ Some AsMutex → word_at s i < 4
  -- the locks are sound
  pub sound : SoundFamilyOf AnySound any_inside (bucket s) (family s)
  -- a call that is kept has begun, and has few rounds left to spin
  pub begun : (t : ℕ) (c : Call) → call_at s t ≡ Some c → IsUnderWay c.core

-- Whom a section that is open has passed: those that its thread passes at its sum so far.
abbrev pub PassesFit : State → Type 0
PassesFit s =
    (t : ℕ) (c : Call) (k : ℕ) (o : Section) → call_at s t ≡ Some c → stance c.core ≡ In k Takes
    → open_at s (2 * c.lock + k) ≡ Some o → ArePassed (asks (core_act c.core)) (s.lot.queues (2 * c.lock + k))
    (passed_of o.phase)

pub record FitsTogether (s : State) : Type 0 where
  pub lots : LotFits s
  pub passes : PassesFit s
  pub wakes : WakesFit s
  pub rules : RulesFit s
