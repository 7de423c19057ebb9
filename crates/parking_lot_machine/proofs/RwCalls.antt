-- A call at a reader-writer lock, of shared and exclusive holds or of the upgradable one: what the machine needs of
-- either.
use Rattle.std.proofs.Common.{◌≡◌, ◌<◌, ◌≤◌, ℕ, ◌+◌, ◌-◌, ◌*◌, ◌/◌, ◌%◌, ◌^◌, bit_and, cond, Bool, true, false, List, ◌∷◌, length, Option, Some, None, is_some, slice_get, slice_set, refl, sym, ap, ◌∙◌, subst, arith}
use Rattle.std.proofs.lemmas.Bool.{both_ways}
use Rattle.parking_lot_core_model.specs.declared.parking.FilterOp.TheVariants.{Unpark}
use Rattle.parking_lot_core_model.specs.declared.parking.ParkToken.{ParkToken}
use Rattle.parking_lot_core_model.specs.declared.place.Waiter.{Waiter}
use Rattle.parking_lot_rules.specs.Classes.{inside as inside_of, total}
use Rattle.parking_lot_rules.specs.Clauses.{IsWord, Word, number, word_of}
use Rattle.parking_lot_rules.specs.Holds.{shared_holds}
use Rattle.parking_lot_rules.specs.Lock.{Lock, IsSound}
use Rattle.parking_lot_rules.specs.Plain.{Leave1, Leave2, Mask1, Plain, May, from, to}
use Rattle.parking_lot_rules.specs.Roles.{Owned, Role, Stay, Back, Mode}
use Rattle.parking_lot_rules.specs.Roles as rules
use Rattle.parking_lot_protocol.specs.MutexRules.{mark_of as marks_as}
use Rattle.parking_lot_rules.specs.Steps.{Alone, after, Own, Waking, Wake, waking_from, waking_to}
use Rattle.parking_lot_protocol.specs.Acts.{Gives, word_after}
use Rattle.parking_lot_protocol.specs.RwRules as of_rw
use Rattle.parking_lot_protocol.specs.RwRules.{IsToken, Move, mode_by, mode_of}
use Rattle.parking_lot_protocol.specs.RwTable as rw_table
use Rattle.parking_lot_protocol.specs.declared.act.Act.{Act}
use Rattle.parking_lot_protocol.specs.declared.act.SectionAct.TheVariants as section
use Rattle.parking_lot_protocol.specs.declared.act.ActResult.{ActResult}
use Rattle.parking_lot_protocol.specs.declared.act.CoreAnswer.{CoreAnswer}
use Rattle.parking_lot_protocol.specs.declared.rw_core.RwCore.{RwCore}
use Rattle.parking_lot_protocol.specs.declared.rw_phase.AfterWake.{AfterWake}
use Rattle.parking_lot_protocol.specs.declared.rw_phase.RwPhase.{RwPhase}
use Rattle.parking_lot_protocol_rw.specs.UpgradeMoves as of_upgrade_moves
use Rattle.parking_lot_protocol_rw.specs.UpgradeRoles as of_upgrade
use Rattle.parking_lot_protocol_rw.specs.UpgradeRoles.{for_release, for_upgradable, for_upgrade}
use Rattle.parking_lot_protocol_rw.specs.UpgradeRules as upgrade_rules
use Rattle.parking_lot_protocol_rw.specs.UpgradeTable as upgrade_table
use Rattle.parking_lot_protocol_rw.specs.declared.upgrade_core.UpgradeCore.{UpgradeCore}
use Rattle.parking_lot_protocol_rw.specs.declared.upgrade_phase.Hold as hold_type
use Rattle.parking_lot_protocol_rw.specs.declared.upgrade_phase.Release.{Release}
use Rattle.parking_lot_protocol_rw.specs.declared.upgrade_phase.UpgradePhase.{UpgradePhase}
use Rattle.parking_lot_machine.specs.Passes.{asks}
use Rattle.parking_lot_machine.specs.RowFits.{IsPrepared, KnowsList, late_rw_prepared, rw_prepared, sleeper_prepared, upgrade_prepared, IsCounted, IsInside, rw_keeps}
use Rattle.parking_lot_machine_calls.specs.CallKinds.{IsOfWorld}
use Rattle.parking_lot_machine.specs.RowSteps.{IsLateRwMove, IsMoveOf, IsRwMove}
use Rattle.parking_lot_machine.specs.Rows.{State}
use Rattle.parking_lot_machine_calls.specs.CallRoles.{rw_core_role, rw_spot}
use Rattle.parking_lot_machine.specs.RwLaws.{Finds, IsStep, Learns, Meets, with_role, count_shared}
use Rattle.parking_lot_machine_calls.specs.Stances.{core_act, core_next, core_tells, has_begun, late_rw_act, late_rw_stance, pending_from, sleeper_asleep, stance, taken_count, sign}
use Rattle.parking_lot_machine_calls.specs.Stances as stances
use Rattle.parking_lot_machine.specs.UpgradeLaws.{MeetsUpgrade, UpgradeLeads, WantsTaken, upgrade_shared}
use Rattle.parking_lot_machine_calls.specs.CallViews.{IsReadySleeper}
use Rattle.parking_lot_machine_calls.specs.LateRoles.{reenters_as, sleeper_wants, resumes_as, sleeper_role, stays}
use Rattle.parking_lot_machine_calls.specs.declared.late_rw.LateRwPhase.{LateRwPhase}
use Rattle.parking_lot_machine_calls.specs.declared.late_rw.RwSleeper.{RwSleeper}
use Rattle.parking_lot_machine_calls.specs.declared.seat.QueuePosition.{QueuePosition}
use Rattle.parking_lot_machine.proofs.KindTable.{RwCall, Simple, Tardy, Upgradable, as_call, rw_call, rw_next, rw_listed, tardy_next, upgrade_listed, resumed_call}
use Rattle.parking_lot_machine.proofs.RwCrossing.{lists_are_known}
use Rattle.parking_lot_machine.proofs.RwKeeping.{calls_keep}
use Rattle.parking_lot_machine.proofs.RwWaking.{wakes_one}
use Rattle.parking_lot_machine.proofs.RwMoving.{answers_are_moves, counted, makes_are_steps, number-word, same_word, sound_word, stays_are_steps, total_most}
use Rattle.parking_lot_machine.proofs.Sleepers.{by_sleeper, ready_sleeper, sleeps_there, takes_nobody, woken_knows, woken_prepared, wanting, draining, seeking, upgrading, no_hold}
use Rattle.parking_lot_rules.proofs.Sounds.{step_sound}
use Rattle.parking_lot_protocol_rw.proofs.UpgradeWords.{high}
use Rattle.parking_lot_rules.specs.Classes.{bit}
use Rattle.parking_lot_machine.proofs.Making.{Entries}
use Rattle.parking_lot_machine.proofs.OwnMoves.{AfterAct, IsOwnAct, OwnMove, own_moves}
use Rattle.parking_lot_machine.proofs.UpgradeGoing.{UpgradeLearns, knows, upgrades_keep}
use Rattle.parking_lot_machine.proofs.UpgradeMoving.{upgrades_are_steps}
use Rattle.parking_lot_machine.proofs.UpgradeOwning.{upgrade_moves, upgrade_told}
use Rattle.parking_lot_protocol.specs.declared.rw_phase.LockMode.{LockMode}

-- WHAT A CALL IS

abbrev pub call_role : ℕ → QueuePosition → List ℕ → RwCall → Role
call_role n at us k = rw_core_role n at us (rw_call k)

-- One whose moment has passed takes itself out by a step that is told where it stood, and no act but those named gives
-- it anything by itself.
abbrev pub tardy_move : LateRwPhase → ActResult → Move
tardy_move (LateRwPhase.Expires k) ActResult.Entered = of_rw.Makes (reenters_as (pending_from k) (sleeper_wants k))
tardy_move LateRwPhase.Masks (ActResult.Before word) = of_rw.Makes Mask1
tardy_move LateRwPhase.Leaves ActResult.Made = of_rw.Makes Leave1
tardy_move (LateRwPhase.LeavesPending from) ActResult.Made = of_rw.Makes (Leave2 from)
tardy_move (LateRwPhase.WasTaken k by handed) ActResult.Made = of_rw.Makes (resumes_as (pending_from k) (sleeper_wants k) by handed)
tardy_move p s = of_rw.IsWoken Own

abbrev pub call_move : ℕ → List ℕ → RwCall → ActResult → Move
call_move n us (Simple k) s = of_rw.move n us k.phase s
call_move n us (Upgradable k) s = of_upgrade_moves.move n us k.phase s
call_move n us (Tardy p) s = tardy_move p s

abbrev pub TardyTold : LateRwPhase → ℕ → ActResult → Type 0
TardyTold (LateRwPhase.Quits k) x s = ⊥
TardyTold p x s = Gives (late_rw_act p) x s

abbrev pub CallTold : RwCall → ℕ → ActResult → Type 0
CallTold (Simple k) x s = of_rw.IsTold k.phase x s
CallTold (Upgradable k) x s = upgrade_rules.IsTold k.phase x s
CallTold (Tardy p) x s = TardyTold p x s

-- what its phase needs
abbrev pub SleeperStands : Bool → ℕ → List ℕ → RwSleeper → Type 0
SleeperStands recursive n us (RwSleeper.Simple k) = of_rw.IsReady k.phase × rw_prepared recursive n us k.phase
SleeperStands recursive n us (RwSleeper.Upgradable k) = upgrade_rules.IsReady k.phase × upgrade_prepared us k.phase

abbrev pub HasStood : Bool → ℕ → List ℕ → RwSleeper → Type 0
HasStood recursive n us k = (sleeper_asleep k ≡ true) × sleeper_prepared recursive n k × SleeperStands recursive n us k

abbrev pub TardyStands : Bool → ℕ → List ℕ → LateRwPhase → Type 0
TardyStands recursive n us (LateRwPhase.Expires k) = HasStood recursive n us k
TardyStands recursive n us (LateRwPhase.Quits k) = HasStood recursive n us k
TardyStands recursive n us (LateRwPhase.WasTaken k by handed) = HasStood recursive n us k
TardyStands recursive n us p = n ≡ 0

abbrev pub CallStands : Bool → ℕ → List ℕ → RwCall → Type 0
CallStands recursive n us (Simple k) = of_rw.IsReady k.phase × rw_prepared recursive n us k.phase
CallStands recursive n us (Upgradable k) = upgrade_rules.IsReady k.phase × upgrade_prepared us k.phase
CallStands recursive n us (Tardy p) = TardyStands recursive n us p

abbrev pub CallLearns : RwCall → ActResult → List Waiter → List Waiter → Type 0
CallLearns (Simple k) s first second = Learns k.phase s first second
CallLearns (Upgradable k) s first second = UpgradeLearns k.phase s first
CallLearns (Tardy p) s first second = Unit {0}

abbrev pub call_shared : RwCall → ℕ
call_shared (Simple k) = count_shared k.phase
call_shared (Upgradable k) = upgrade_shared k.phase
call_shared (Tardy p) = 0

-- Thread t is in that call at a sound lock whose word is the number x, beside n shared holds, and has taken the threads
-- us.
pub record CallMeets (recursive : Bool) (l : Lock) (t n : ℕ) (at : QueuePosition) (us : List ℕ) (k : RwCall) (x : ℕ) : Type 0 where
  pub sound : IsSound l
  pub word : l.word ≡ word_of x
  pub here : slice_get l.roles t ≡ Some (call_role n at us k)
  pub stands : CallStands recursive n us k
  pub threads : length l.roles < 2 ^ 18
  pub few : (v : ℕ) (q : Role) → slice_get l.roles v ≡ Some q → shared_holds q.owns ≤ 256

pub as_simple : (recursive : Bool) (l : Lock) (t n : ℕ) (at : QueuePosition) (us : List ℕ) (k : RwCore) (x : ℕ) → CallMeets recursive l t n at us (Simple k) x → Meets recursive l t n (rw_spot at) us k.phase x
as_simple recursive l t n at us k x h = record { sound = h.sound; word = h.word; here = h.here; ready = h.stands.0; prepared = h.stands.1; threads = h.threads; few = h.few }

pub as_upgrade : (recursive : Bool) (l : Lock) (t n : ℕ) (at : QueuePosition) (us : List ℕ) (k : UpgradeCore) (x : ℕ) → CallMeets recursive l t n at us (Upgradable k) x → MeetsUpgrade l t n (rw_spot at) us k.phase x
as_upgrade recursive l t n at us k x h = record { sound = h.sound; word = h.word; here = h.here; ready = h.stands.0; prepared = h.stands.1; threads = h.threads; few = h.few }

-- one that sleeps counts no readers
counts_none : (k : RwSleeper) → IsReadySleeper k → sleeper_asleep k ≡ true → call_shared (as_call k) ≤ 2 ^ 18
counts_none k r e = by_sleeper (λ k. call_shared (as_call k) ≤ 2 ^ 18) (λ want. omega arith) (λ rounds. omega arith) (λ want i. omega arith) (λ rounds. omega arith) k r e

-- WHOM IT HAS TAKEN

abbrev is_wakes : RwPhase → Bool
is_wakes (RwPhase.Wakes rest count) = true
is_wakes p = false

-- while it doesn't wake them they are as many as it counts
rw_exact : (n : ℕ) (p : RwPhase) → is_wakes p ≡ false → n ≤ stances.rw_taken p → (IsInside (stances.rw_stance p) → n ≡ stances.rw_taken p) → n ≡ stances.rw_taken p
rw_exact n (RwPhase.ClearWriterParked rest took) awake most all = all tt
rw_exact n (RwPhase.LeaveWriterWakeSection rest took) awake most all = all tt
rw_exact n (RwPhase.Scans a) awake most all = all tt
rw_exact n (RwPhase.Stores a left) awake most all = all tt
rw_exact n (RwPhase.Leaves rest count handed) awake most all = all tt
rw_exact n (RwPhase.Wakes rest count) awake most all = absurd cc
rw_exact n p awake most all = omega (arith, most)

rw_stand : (recursive : Bool) (n : ℕ) (us : List ℕ) (p : RwPhase) → rw_keeps recursive n p → length us ≤ stances.rw_taken p → (IsInside (stances.rw_stance p) → length us ≡ stances.rw_taken p) → count_shared p ≤ 2 ^ 18 → rw_prepared recursive n us p
rw_stand recursive n us (RwPhase.Wakes rest count) h most all few = tt
rw_stand recursive n us p h most all few = calls_keep.prepared recursive n us p h (rw_exact (length us) p refl most all) few

frees_stand : (us : List ℕ) (r : Release) (q : RwPhase) → IsOfWorld (UpgradePhase.Frees r (record { phase = q })) → length us ≤ stances.rw_taken q → (IsInside (stances.rw_stance q) → length us ≡ stances.rw_taken q) → upgrade_shared (UpgradePhase.Frees r (record { phase = q })) ≤ 2 ^ 18 → upgrade_prepared us (UpgradePhase.Frees r (record { phase = q }))
frees_stand us r (RwPhase.Wakes rest count) h most all few = tt
frees_stand us r q h most all few = upgrades_keep.prepared us (UpgradePhase.Frees r (record { phase = q })) h (rw_exact (length us) q refl most all) few

owes_stand : (us : List ℕ) (kept : hold_type.Hold) (end : CoreAnswer) (q : RwPhase) → IsOfWorld (UpgradePhase.Owes kept end (record { phase = q })) → length us ≤ stances.rw_taken q → (IsInside (stances.rw_stance q) → length us ≡ stances.rw_taken q) → upgrade_shared (UpgradePhase.Owes kept end (record { phase = q })) ≤ 2 ^ 18 → upgrade_prepared us (UpgradePhase.Owes kept end (record { phase = q }))
owes_stand us kept end (RwPhase.Wakes rest count) h most all few = tt
owes_stand us kept end q h most all few = upgrades_keep.prepared us (UpgradePhase.Owes kept end (record { phase = q })) h (rw_exact (length us) q refl most all) few

upgrade_stand : (us : List ℕ) (p : UpgradePhase) → IsOfWorld p → length us ≤ stances.upgrade_taken p → (IsInside (stances.upgrade_stance p) → length us ≡ stances.upgrade_taken p) → upgrade_shared p ≤ 2 ^ 18 → upgrade_prepared us p
upgrade_stand us (UpgradePhase.Plain core) h most all few = absurd h
upgrade_stand us (UpgradePhase.Seeks core) h most all few = tt
upgrade_stand us (UpgradePhase.Drains core) h most all few = tt
upgrade_stand us (UpgradePhase.Frees r core) h most all few = frees_stand us r core.phase h most all few
upgrade_stand us (UpgradePhase.Owes kept end core) h most all few = owes_stand us kept end core.phase h most all few
upgrade_stand us p h most all few = upgrades_keep.prepared us p h (omega (arith, most)) few

sleeper_stands : (recursive : Bool) (n : ℕ) (us : List ℕ) (k : RwSleeper) → sleeper_prepared recursive n k → length us ≡ taken_count (rw_call (as_call k)) → call_shared (as_call k) ≤ 2 ^ 18 → SleeperStands recursive n us k
sleeper_stands recursive n us (RwSleeper.Simple k) h counted few = (h.0, calls_keep.prepared recursive n us k.phase h.1 counted few)
sleeper_stands recursive n us (RwSleeper.Upgradable k) h counted few = (h.1, upgrades_keep.prepared us k.phase h.2 counted few)

has_stood : (recursive : Bool) (n : ℕ) (us : List ℕ) (k : RwSleeper) → sleeper_asleep k ≡ true → sleeper_prepared recursive n k → length us ≡ 0 → HasStood recursive n us k
has_stood recursive n us k e h counted = let r = ready_sleeper recursive n k h in (e, h, sleeper_stands recursive n us k h (counted ∙ sym (takes_nobody k r e)) (counts_none k r e))

tardy_stands : (recursive : Bool) (n : ℕ) (us : List ℕ) (p : LateRwPhase) → late_rw_prepared recursive n p → length us ≡ 0 → TardyStands recursive n us p
tardy_stands recursive n us (LateRwPhase.Expires k) h counted = has_stood recursive n us k h.0 h.1 counted
tardy_stands recursive n us (LateRwPhase.Quits k) h counted = has_stood recursive n us k h.0 h.1 counted
tardy_stands recursive n us LateRwPhase.Masks h _ = h
tardy_stands recursive n us LateRwPhase.Leaves h _ = h
tardy_stands recursive n us LateRwPhase.GivesUp h _ = h
tardy_stands recursive n us (LateRwPhase.LeavesPending from) h _ = h
tardy_stands recursive n us (LateRwPhase.WasTaken k by handed) h counted = has_stood recursive n us k h.0 h.1 counted

-- what follows from what a machine keeps of it
pub stands_prepared : (recursive : Bool) (threads n : ℕ) (us : List ℕ) (k : RwCall) → IsPrepared recursive n (rw_call k) → IsCounted threads (length us) (rw_call k) → call_shared k ≤ 2 ^ 18 → CallStands recursive n us k
stands_prepared recursive threads n us (Simple k) h counted few = (h.0, rw_stand recursive n us k.phase h.1 counted.most counted.all few)
stands_prepared recursive threads n us (Upgradable k) h counted few = (h.1, upgrade_stand us k.phase h.2 counted.most counted.all few)
stands_prepared recursive threads n us (Tardy p) h counted few = tardy_stands recursive n us p h (omega (arith, counted.most))

-- WHAT IT HEARS

pub call_hears : (k : RwCall) (x : ℕ) (s : ActResult) (recursive : Bool) (n : ℕ) → has_begun (rw_call k) ≡ true → IsPrepared recursive n (rw_call k) → IsOwnAct (core_act (rw_call k)) → Gives (core_act (rw_call k)) x s → CallTold k x s
call_hears (Simple k) x s recursive n b h own g = rw_told k.phase x s b own g
  where
    no_start : false ≡ true → ⊥
    no_start e = both_ways false refl e

    rw_told : (p : RwPhase) (x : ℕ) (s : ActResult) → stances.rw_begun p ≡ true → IsOwnAct (rw_table.act_of p) → Gives (rw_table.act_of p) x s → of_rw.IsTold p x s
    rw_told (RwPhase.Locking q) x s b own g = absurd (no_start b)
    rw_told (RwPhase.Trying q) x s b own g = absurd (no_start b)
    rw_told RwPhase.UnlockingShared x s b own g = absurd (no_start b)
    rw_told (RwPhase.UnlockingExclusive fair) x s b own g = absurd (no_start b)
    rw_told RwPhase.Downgrading x s b own g = absurd (no_start b)
    rw_told RwPhase.BumpingShared x s b own g = absurd (no_start b)
    rw_told RwPhase.BumpingExclusive x s b own g = absurd (no_start b)
    rw_told (RwPhase.Scans a) x s b own g = absurd own
    rw_told p x s b own g = g
call_hears (Upgradable k) x s recursive n b h own g = upgrade_told k.phase x s b h.2 own g
call_hears (Tardy p) x s recursive n b h own g = told p x s own g
  where
    told : (p : LateRwPhase) (x : ℕ) (s : ActResult) → IsOwnAct (late_rw_act p) → Gives (late_rw_act p) x s → TardyTold p x s
    told (LateRwPhase.Quits k) x s own g = absurd own
    told p x s own g = g

-- a scan is shown only whom it wants
abbrev pub CallWants : RwCall → ActResult → Type 0
CallWants k (ActResult.Took (Some token) left) = asks (core_act (rw_call k)) token.0 ≡ Unpark
CallWants k s = Unit {0}

as_wanted : (k : UpgradeCore) (s : ActResult) → CallWants (Upgradable k) s → WantsTaken k.phase s
as_wanted k (ActResult.Took (Some token) left) w = w
as_wanted k (ActResult.Took None left) w = tt
as_wanted k ActResult.Start w = tt
as_wanted k (ActResult.Word word) w = tt
as_wanted k ActResult.Exchanged w = tt
as_wanted k (ActResult.Before word) w = tt
as_wanted k (ActResult.Spun spun) w = tt
as_wanted k ActResult.Entered w = tt
as_wanted k (ActResult.Stored fair) w = tt
as_wanted k ActResult.Made w = tt
as_wanted k (ActResult.Woken token) w = tt

-- one whose moment has passed goes on, by itself or woken after all
tardy_goes_on : (recursive : Bool) (n x : ℕ) (p : LateRwPhase) (s : ActResult) → late_rw_prepared recursive n p → TardyTold p x s → IsPrepared recursive n (rw_call (tardy_next p s))
tardy_goes_on recursive n x (LateRwPhase.Expires k) (ActResult.Woken token) h told = woken_prepared recursive n k token h.0 h.1
tardy_goes_on recursive n x LateRwPhase.Masks (ActResult.Before word) h told = h
tardy_goes_on recursive n x LateRwPhase.Leaves ActResult.Made h told = h
tardy_goes_on recursive n x (LateRwPhase.LeavesPending from) ActResult.Made h told = (h, tt, tt, tt)
tardy_goes_on recursive n x (LateRwPhase.WasTaken k by handed) ActResult.Made h told = subst (λ b. IsPrepared recursive n (rw_call (resumed_call b k handed))) (sym h.0) (woken_prepared recursive n k (sign handed) h.0 h.1)
tardy_goes_on recursive n x p s h told = absurd told

tardy_knows : (recursive : Bool) (n x : ℕ) (p : LateRwPhase) (s : ActResult) (j : ℕ) (queues : ℕ → List Waiter) → late_rw_prepared recursive n p → TardyTold p x s → KnowsList (rw_call (tardy_next p s)) queues j
tardy_knows recursive n x (LateRwPhase.Expires k) (ActResult.Woken token) j queues h told = woken_knows k token queues j (ready_sleeper recursive n k h.1) h.0
tardy_knows recursive n x LateRwPhase.Masks (ActResult.Before word) j queues h told = tt
tardy_knows recursive n x LateRwPhase.Leaves ActResult.Made j queues h told = tt
tardy_knows recursive n x (LateRwPhase.LeavesPending from) ActResult.Made j queues h told = tt
tardy_knows recursive n x (LateRwPhase.WasTaken k by handed) ActResult.Made j queues h told = subst (λ b. KnowsList (rw_call (resumed_call b k handed)) queues j) (sym h.0) (woken_knows k (sign handed) queues j (ready_sleeper recursive n k h.1) h.0)
tardy_knows recursive n x p s j queues h told = absurd told

module _ (recursive : Bool) (l : Lock) (t n : ℕ) (at : QueuePosition) (us : List ℕ) (x : ℕ) (s : ActResult) where
  -- It stands on what its next phase needs.
  pub call_goes_on : (k : RwCall) → CallMeets recursive l t n at us k x → has_begun (rw_call k) ≡ true → IsPrepared recursive n (rw_call k) → x / 16 < 2 ^ 60 - 1 → CallTold k x s → CallWants k s → IsPrepared recursive n (rw_call (rw_next k s))
  call_goes_on (Simple k) h b ready room told want =
      let met = as_simple recursive l t n at us k x h in (
        (answers_are_moves recursive l t n (rw_spot at) us k.phase x s met told).2.1,
        calls_keep.goes_on recursive n k.phase x s ready.1 (counted recursive l t n (rw_spot at) us k.phase x met) told,
      )
  call_goes_on (Upgradable k) h b ready room told want = (
    ready.0,
    (upgrades_are_steps recursive l t n (rw_spot at) us k.phase x s (as_upgrade recursive l t n at us k x h) told).1,
    upgrades_keep.goes_on k.phase x s b ready.1 ready.2 room told,
    upgrades_keep.keeps k.phase x s ready.1 ready.2 ready.3 told (as_wanted k s want),
  )
  call_goes_on (Tardy p) h b ready room told want = tardy_goes_on recursive n x p s ready told

  -- and knows of its list what that needs
  pub call_knows : (k : RwCall) (j : ℕ) (old queues : ℕ → List Waiter) → IsPrepared recursive n (rw_call k) → CallTold k x s → KnowsList (rw_call k) old j → CallLearns k s (queues (2 * j)) (queues (2 * j + 1)) → KnowsList (rw_call (rw_next k s)) queues j
  call_knows (Simple k) j old queues ready told knew learns = lists_are_known.learns k.phase x s (old (2 * j)) (old (2 * j + 1)) (queues (2 * j)) (queues (2 * j + 1)) told knew learns
  call_knows (Upgradable k) j old queues ready told knew learns = knows k.phase x s (queues (2 * j)) ready.1 ready.2 told learns
  call_knows (Tardy p) j old queues ready told knew learns = tardy_knows recursive n x p s j queues ready told

-- ITS OWN MOVES

-- an act of its own leads from the lock to the one with its next role
abbrev pub call_lock : Lock → ℕ → ℕ → List ℕ → RwCall → ActResult → ℕ → Lock
call_lock l t n us k s x = with_role l (word_after (core_act (rw_call k)) s x) t (call_role n QueuePosition.Listed us (rw_next k s))

abbrev is_stay : Move → Bool
is_stay of_rw.Stays = true
is_stay m = false

-- each act of one whose moment has passed is a step
makes_no_stay : (p : LateRwPhase) (s : ActResult) → is_stay (tardy_move p s) ≡ false
makes_no_stay (LateRwPhase.Expires k) ActResult.Entered = refl
makes_no_stay LateRwPhase.Masks (ActResult.Before word) = refl
makes_no_stay LateRwPhase.Leaves ActResult.Made = refl
makes_no_stay (LateRwPhase.LeavesPending from) ActResult.Made = refl
makes_no_stay (LateRwPhase.WasTaken k by handed) ActResult.Made = refl
makes_no_stay p s = refl

tardy_moves : (p : LateRwPhase) (s : ActResult) → tardy_move p s ≡ of_rw.Stays → ⊥
tardy_moves p s e = both_ways (is_stay (tardy_move p s)) (makes_no_stay p s) (ap is_stay e)

abbrev step_of : Move → Plain
step_of (of_rw.Makes k) = k
step_of m = Leave1

-- the parked bit of the first list is off
mask_is : (x : ℕ) (w : Word) → IsWord w → w.readers < 2 ^ 60 - 1 → x ≡ number w → bit_and x (2 ^ 64 - 2) ≡ number (record w { parked1 = 0 })
mask_is x w h few e = let p = h.parked1 in ap (λ y. bit_and y (2 ^ 64 - 2)) e ∙ (let z = high w h few in omega arith)

-- ONE THAT WAS TAKEN LEAVES THE SECTION

-- what it was to the lock, and what it is as it goes on
abbrev Resumes : ℕ → List ℕ → ℕ → Bool → RwSleeper → Type 0
Resumes n us by handed k =
    let step = resumes_as (pending_from k) (sleeper_wants k) by handed in
    (stays Back (sleeper_role n (of_rw.Off by (marks_as handed)) us k) ≡ from step) × (call_role n QueuePosition.Listed us (resumed_call true k handed) ≡ to step)

wants_resume : (us : List ℕ) (by : ℕ) (want : LockMode) (handed : Bool) → Resumes 0 us by handed (wanting want)
wants_resume us by (LockMode.Shared again) true = (refl, refl)
wants_resume us by (LockMode.Shared again) false = (refl, refl)
wants_resume us by LockMode.Exclusive true = (refl, refl)
wants_resume us by LockMode.Exclusive false = (refl, refl)

drains_resume : (us : List ℕ) (by rounds : ℕ) (handed : Bool) → Resumes 0 us by handed (draining rounds)
drains_resume us by rounds true = (refl, refl)
drains_resume us by rounds false = (refl, refl)

seeks_resume : (us : List ℕ) (by : ℕ) (want : LockMode) (handed : Bool) → want ≡ LockMode.Exclusive → Resumes 0 us by handed (seeking want)
seeks_resume us by want true i = subst (λ w. Resumes 0 us by true (seeking w)) (sym i) (refl, refl)
seeks_resume us by want false i = subst (λ w. Resumes 0 us by false (seeking w)) (sym i) (refl, refl)

upgrades_resume : (us : List ℕ) (by rounds : ℕ) (handed : Bool) → Resumes 0 us by handed (upgrading rounds)
upgrades_resume us by rounds true = (refl, refl)
upgrades_resume us by rounds false = (refl, refl)

resumed : (recursive : Bool) (n : ℕ) (us : List ℕ) (k : RwSleeper) (by : ℕ) (handed : Bool) → sleeper_asleep k ≡ true → sleeper_prepared recursive n k → Resumes n us by handed k
resumed recursive n us k by handed e h =
    subst (λ m. Resumes m us by handed k) (sym (no_hold recursive n k e h))
    (by_sleeper (Resumes 0 us by handed) (λ want. wants_resume us by want handed) (λ rounds. drains_resume us by rounds handed) (λ want i. seeks_resume us by want handed i) (λ rounds. upgrades_resume us by rounds handed) k (ready_sleeper recursive n k h) e)

resumes_may : (recursive : Bool) (o : Option Bool) (m : Mode) (by : ℕ) (handed : Bool) (l : Lock) → May recursive (resumes_as o m by handed) l.word (λ c. total c l.roles)
resumes_may recursive (Some was) m by handed l = tt
resumes_may recursive None m by false l = tt
resumes_may recursive None rules.Shared by true l = tt
resumes_may recursive None rules.Exclusive by true l = tt
resumes_may recursive None rules.Upgradable by true l = tt

resumes_write : (o : Option Bool) (m : Mode) (by : ℕ) (handed : Bool) (l : Lock) (t : ℕ) → after t (Alone (resumes_as o m by handed)) l ≡ record l { roles = slice_set l.roles t (to (resumes_as o m by handed)) }
resumes_write (Some was) m by handed l t = refl
resumes_write None m by false l t = refl
resumes_write None rules.Shared by true l t = refl
resumes_write None rules.Exclusive by true l t = refl
resumes_write None rules.Upgradable by true l t = refl

resumes_own : (o : Option Bool) (m : Mode) (by : ℕ) (handed : Bool) (t : ℕ) (old new : Entries) (how : stances.Doing) → AfterAct (stances.In (bit (is_some o)) how) (Act.Section section.Leave) t old new → OwnMove (of_rw.Makes (resumes_as o m by handed)) t old new
resumes_own (Some was) m by handed t old new how around = around
resumes_own None m by false t old new how around = around
resumes_own None rules.Shared by true t old new how around = around
resumes_own None rules.Exclusive by true t old new how around = around
resumes_own None rules.Upgradable by true t old new how around = around

pub tardy_makes : (recursive : Bool) (l : Lock) (t n : ℕ) (at : QueuePosition) (us : List ℕ) (p : LateRwPhase) (x : ℕ) (s : ActResult) → CallMeets recursive l t n at us (Tardy p) x → TardyTold p x s → (step : Plain) → tardy_move p s ≡ of_rw.Makes step → IsStep recursive t (Alone step) l (call_lock l t n us (Tardy p) s x)
tardy_makes recursive l t n at us LateRwPhase.Masks x (ActResult.Before word) h told step e =
    let few : l.word.readers < 2 ^ 60 - 1 = let f = h.sound.fits in omega (arith, f.readers, f.upgradable, f.one, total_most 256 l.roles h.few, h.threads) in
    let same : record l.word { parked1 = 0 } ≡ word_of (bit_and x (2 ^ 64 - 2)) =
    same_word (after t (Alone Mask1) l) (step_sound recursive t (Alone Mask1) l h.sound (h.here, tt)) (bit_and x (2 ^ 64 - 2)) (mask_is x l.word (sound_word l h.sound) few (sym (number-word x) ∙ ap number (sym h.word))) in
    subst (λ k. IsStep recursive t (Alone k) l (call_lock l t n us (Tardy LateRwPhase.Masks) (ActResult.Before word) x)) (ap step_of e) ((h.here, tt), ap (λ w. record l { word = w; roles = slice_set l.roles t (call_role n QueuePosition.Listed us (Tardy LateRwPhase.Leaves)) }) same)
tardy_makes recursive l t n at us LateRwPhase.Leaves x ActResult.Made h told step e =
    subst (λ k. IsStep recursive t (Alone k) l (call_lock l t n us (Tardy LateRwPhase.Leaves) ActResult.Made x)) (ap step_of e) ((h.here, tt), ap (λ w. record l { word = w; roles = slice_set l.roles t (call_role n QueuePosition.Listed us (Tardy LateRwPhase.GivesUp)) }) h.word)
tardy_makes recursive l t n at us (LateRwPhase.LeavesPending from) x ActResult.Made h told step e =
    subst (λ k. IsStep recursive t (Alone k) l (call_lock l t n us (Tardy (LateRwPhase.LeavesPending from)) ActResult.Made x)) (ap step_of e)
    ((h.here, tt), ap (λ w. record l { word = w; roles = slice_set l.roles t (call_role n QueuePosition.Listed us (Upgradable (record { phase = UpgradePhase.YieldLoads from }))) }) h.word)
tardy_makes recursive l t n at us (LateRwPhase.WasTaken k by handed) x ActResult.Made h told step e =
    let r = resumed recursive n us k by handed h.stands.0 h.stands.1 in
    subst (λ q. IsStep recursive t (Alone q) l (call_lock l t n us (Tardy (LateRwPhase.WasTaken k by handed)) ActResult.Made x)) (ap step_of e) (
      (h.here ∙ ap Some r.0, resumes_may recursive (pending_from k) (sleeper_wants k) by handed l),
      resumes_write (pending_from k) (sleeper_wants k) by handed l t ∙ ap (λ q. record l { roles = slice_set l.roles t q }) (sym r.1) ∙ ap (λ b. record l { roles = slice_set l.roles t (call_role n QueuePosition.Listed us (resumed_call b k handed)) }) (sym h.stands.0)
          ∙ ap (λ w. record l { word = w; roles = slice_set l.roles t (call_role n QueuePosition.Listed us (resumed_call (sleeper_asleep k) k handed)) }) h.word,
    )
tardy_makes recursive l t n at us (LateRwPhase.Expires k) x (ActResult.Woken token) h told step e = absurd cc
tardy_makes recursive l t n at us p x s h told step e = absurd told

pub call_stays : (recursive : Bool) (l : Lock) (t n : ℕ) (at : QueuePosition) (us : List ℕ) (k : RwCall) (x : ℕ) (s : ActResult) → CallMeets recursive l t n at us k x → CallTold k x s → ((key : ℕ) (token : ParkToken) → stance (rw_call (rw_next k s)) ≡ stances.Asleep key token → at ≡ QueuePosition.Listed)
    → call_move n us k s ≡ of_rw.Stays → (call_role n QueuePosition.Listed us (rw_next k s) ≡ call_role n at us k) × (word_after (core_act (rw_call k)) s x ≡ x)
call_stays recursive l t n at us (Simple k) x s h told listed e =
    let z = stays_are_steps recursive l t n (rw_spot at) us k.phase x s (as_simple recursive l t n at us k x h) told e in
    (sym (rw_listed n us (rw_table.next_phase k.phase s) at listed) ∙ z.0, z.1)
call_stays recursive l t n at us (Upgradable k) x s h told listed e =
    let z = subst (λ m. UpgradeLeads recursive m t n (rw_spot at) us k.phase s x l) e (upgrades_are_steps recursive l t n (rw_spot at) us k.phase x s (as_upgrade recursive l t n at us k x h) told).0 in
    (sym (upgrade_listed n us (upgrade_table.next_phase k.phase s) at listed) ∙ z.0, z.1)
call_stays recursive l t n at us (Tardy p) x s h told listed e = absurd (tardy_moves p s e)

pub call_makes : (recursive : Bool) (l : Lock) (t n : ℕ) (at : QueuePosition) (us : List ℕ) (k : RwCall) (x : ℕ) (s : ActResult) (step : Plain) → CallMeets recursive l t n at us k x → CallTold k x s → call_move n us k s ≡ of_rw.Makes step → Finds (core_act (rw_call k)) l
    → IsStep recursive t (Alone step) l (call_lock l t n us k s x)
call_makes recursive l t n at us (Simple k) x s step h told e found = makes_are_steps recursive l t n (rw_spot at) us k.phase x s step (as_simple recursive l t n at us k x h) told e found
call_makes recursive l t n at us (Upgradable k) x s step h told e found =
    subst (λ m. UpgradeLeads recursive m t n (rw_spot at) us k.phase s x l) e (upgrades_are_steps recursive l t n (rw_spot at) us k.phase x s (as_upgrade recursive l t n at us k x h) told).0 found
call_makes recursive l t n at us (Tardy p) x s step h told e found = tardy_makes recursive l t n at us p x s h told step e

tardy_own : (t : ℕ) (old new : Entries) (recursive : Bool) (n : ℕ) (p : LateRwPhase) (x : ℕ) (s : ActResult) → TardyTold p x s
    → late_rw_prepared recursive n p → IsOwnAct (late_rw_act p) → AfterAct (late_rw_stance p) (late_rw_act p) t old new
    → OwnMove (tardy_move p s) t old new
tardy_own t old new recursive n LateRwPhase.Leaves x ActResult.Made told ready own around = around
tardy_own t old new recursive n (LateRwPhase.LeavesPending from) x ActResult.Made told ready own around = around
tardy_own t old new recursive n (LateRwPhase.WasTaken k by handed) x ActResult.Made told ready own around =
    let at = sleeps_there k (ready_sleeper recursive n k ready.1) ready.0 in
    resumes_own (pending_from k) (sleeper_wants k) by handed t old new (stances.Tells (sign false))
    (subst (λ (a : stances.Stance). AfterAct a (Act.Section section.Leave) t old new)
    (ap stances.found_as at.2 ∙ ap (λ (key : ℕ). stances.In key (stances.Tells (sign false))) (sym at.3)) around)
tardy_own t old new recursive n (LateRwPhase.Expires k) x s told ready own around = absurd own
tardy_own t old new recursive n (LateRwPhase.Quits k) x s told ready own around = absurd own
tardy_own t old new recursive n LateRwPhase.Masks x s told ready own around = absurd own
tardy_own t old new recursive n LateRwPhase.GivesUp x s told ready own around = absurd own
tardy_own t old new recursive n p x s told ready own around = absurd told

pub call_own : (t : ℕ) (old new : Entries) (recursive : Bool) (n : ℕ) (us : List ℕ) (k : RwCall) (x : ℕ) (s : ActResult) → CallTold k x s → IsPrepared recursive n (rw_call k) → IsOwnAct (core_act (rw_call k)) → AfterAct (stance (rw_call k)) (core_act (rw_call k)) t old new → OwnMove (call_move n us k s) t old new
call_own t old new recursive n us (Simple k) x s told ready own around = own_moves t old new n us k.phase x s told own around
call_own t old new recursive n us (Upgradable k) x s told ready own around = upgrade_moves t old new n us k.phase s ready.1 ready.2 own around
call_own t old new recursive n us (Tardy p) x s told ready own around = tardy_own t old new recursive n p x s told ready own around

-- there is room for one reader more
pub call_room : (recursive : Bool) (l : Lock) (t n : ℕ) (at : QueuePosition) (us : List ℕ) (k : RwCall) (x : ℕ) → CallMeets recursive l t n at us k x → x / 16 < 2 ^ 60 - 1
call_room recursive l t n at us k x h =
    let f = h.sound.fits in
    let same : l.word.readers ≡ x / 16 = ap (λ (w : Word). w.readers) h.word in
    omega (arith, same, f.readers, f.upgradable, f.one, total_most 256 l.roles h.few, h.threads)

-- one that scans counts few
scans_few : (p : RwPhase) → stances.rw_taken p < 2 ^ 18 → count_shared p ≤ 2 ^ 18
scans_few (RwPhase.Scans a) b = omega (arith, b)
scans_few (RwPhase.Stores a left) b = omega (arith, b)
scans_few p b = omega arith

upgrades_few : (p : UpgradePhase) → stances.upgrade_taken p < 2 ^ 18 → upgrade_shared p ≤ 2 ^ 18
upgrades_few (UpgradePhase.Frees r core) b = scans_few core.phase b
upgrades_few (UpgradePhase.Owes kept end core) b = scans_few core.phase b
upgrades_few p b = omega arith

pub call_few : (k : RwCall) → taken_count (rw_call k) < 2 ^ 18 → call_shared k ≤ 2 ^ 18
call_few (Simple k) b = scans_few k.phase b
call_few (Upgradable k) b = upgrades_few k.phase b
call_few (Tardy p) b = omega arith

-- WHO WAKES

-- One that has taken others wakes the first of them.
pub record CallWakes (recursive : Bool) (l : Lock) (t n v : ℕ) (vs : List ℕ) (k : RwCall) (x : ℕ) (how : Waking) (stay : Stay) (q : Role) : Type 0 where
  pub owns : Owned
  pub move : (us : List ℕ) → call_move n us k ActResult.Made ≡ of_rw.WakesOne
  pub told : CallTold k x ActResult.Made
  pub learns : (f g : List Waiter) → CallLearns k ActResult.Made f g
  pub step : IsStep recursive t (Wake owns v vs how stay) l (record l { word = word_of x; roles = slice_set (slice_set l.roles v q) t (call_role n QueuePosition.Listed vs (rw_next k ActResult.Made)) })

rw_wakes : (p : RwPhase) → rw_table.act_of p ≡ Act.Section section.Wake → (rs : AfterWake) × (count : ℕ) × (p ≡ RwPhase.Wakes rs count)
rw_wakes (RwPhase.Wakes rs count) e = (rs, count, refl)
rw_wakes (RwPhase.Finishes AfterWake.FreedShared) e = absurd cc
rw_wakes p e = absurd cc

simple_wakes : (recursive : Bool) (l : Lock) (t n : ℕ) (at : QueuePosition) (v : ℕ) (vs : List ℕ) (p : RwPhase) (x : ℕ) (how : Waking) (stay : Stay) (q : Role) → Meets recursive l t n (rw_spot at) (v ∷ vs) p x → rw_table.act_of p ≡ Act.Section section.Wake → slice_get l.roles v ≡ Some (waking_from how t stay) → inside_of stay ≡ 0 → q ≡ waking_to how
    → CallWakes recursive l t n v vs (Simple (record { phase = p })) x how stay q
simple_wakes recursive l t n at v vs (RwPhase.Wakes rs count) x how stay q h e from out to =
    record { owns = of_rw.owned_at_last n rs; move = λ us. refl; told = tt; learns = λ f g. tt; step = wakes_one recursive l t n (rw_spot at) v vs rs count x how stay q h from out to }
simple_wakes recursive l t n at v vs (RwPhase.Finishes AfterWake.FreedShared) x how stay q h e from out to = absurd cc
simple_wakes recursive l t n at v vs p x how stay q h e from out to = absurd cc

-- an upgradable call that is to wake is one of two parts
abbrev pub UpgradeWakes : UpgradePhase → Type 0
UpgradeWakes p = ((n : ℕ) (us : List ℕ) → of_upgrade_moves.move n us p ActResult.Made ≡ of_rw.WakesOne) × ((x : ℕ) → upgrade_rules.IsTold p x ActResult.Made) × ((f : List Waiter) → UpgradeLearns p ActResult.Made f)

abbrev pub is_wake : Act → Bool
is_wake (Act.Section section.Wake) = true
is_wake a = false

pub not_wake : (a : Act) → is_wake a ≡ false → a ≡ Act.Section section.Wake → ⊥
not_wake a f e = both_ways (is_wake a) f (ap is_wake e)

pub seeks_wake : (q : RwPhase) → upgrade_rules.IsSeeking q → is_wake (upgrade_table.seeks_act q) ≡ false
seeks_wake (RwPhase.Admits a word) i = by (rw_table.has_room word)
  where
    by : (b : Bool) → is_wake (cond b (Act.Exchange word ((word + 20) % 2 ^ 64)) Act.Load) ≡ false
    by true = refl
    by false = refl
seeks_wake (RwPhase.Wakes rest count) i = absurd i
seeks_wake (RwPhase.Finishes rest) i = absurd i
seeks_wake q i = refl

pub drains_wake : (q : RwPhase) → upgrade_rules.IsDraining q → is_wake (rw_table.act_of q) ≡ false
drains_wake (RwPhase.Wakes rest count) i = absurd i
drains_wake (RwPhase.Finishes rest) i = absurd i
drains_wake q i = refl

frees_wake : (r : Release) (q : RwPhase) → upgrade_table.frees_act r q ≡ Act.Section section.Wake → UpgradeWakes (UpgradePhase.Frees r (record { phase = q }))
frees_wake r (RwPhase.Wakes rest count) e = (λ n us. refl, λ x. tt, λ f. tt)
frees_wake r (RwPhase.Finishes rest) e = absurd (not_wake _ (by (upgrade_table.is_again r)) e)
  where
    by : (b : Bool) → is_wake (cond b Act.Load (Act.Done CoreAnswer.Released)) ≡ false
    by true = refl
    by false = refl
frees_wake r q e = absurd cc

owes_wake : (kept : hold_type.Hold) (end : CoreAnswer) (q : RwPhase) → upgrade_table.owes_act kept end q ≡ Act.Section section.Wake → UpgradeWakes (UpgradePhase.Owes kept end (record { phase = q }))
owes_wake kept end (RwPhase.Wakes rest count) e = (λ n us. refl, λ x. tt, λ f. tt)
owes_wake kept end q e = absurd cc

pub upgrade_wakes : (us : List ℕ) (p : UpgradePhase) → upgrade_rules.IsReady p → upgrade_prepared us p → upgrade_table.act_of p ≡ Act.Section section.Wake → UpgradeWakes p
upgrade_wakes us (UpgradePhase.Plain core) i o e = absurd o
upgrade_wakes us (UpgradePhase.Seeks core) i o e = absurd (not_wake _ (seeks_wake core.phase i.0) e)
upgrade_wakes us (UpgradePhase.Drains core) i o e = absurd (not_wake _ (drains_wake core.phase i.0) e)
upgrade_wakes us (UpgradePhase.Frees r core) i o e = frees_wake r core.phase e
upgrade_wakes us (UpgradePhase.Owes kept end core) i o e = owes_wake kept end core.phase e
upgrade_wakes us p i o e = absurd cc

pub tardy_wakes : (p : LateRwPhase) → late_rw_act p ≡ Act.Section section.Wake → ⊥
tardy_wakes (LateRwPhase.Expires k) e = cc
tardy_wakes (LateRwPhase.Quits k) e = cc
tardy_wakes LateRwPhase.Masks e = cc
tardy_wakes LateRwPhase.Leaves e = cc
tardy_wakes LateRwPhase.GivesUp e = cc
tardy_wakes (LateRwPhase.LeavesPending from) e = cc
tardy_wakes (LateRwPhase.WasTaken k by handed) e = cc

pub call_wakes : (recursive : Bool) (l : Lock) (t n : ℕ) (at : QueuePosition) (v : ℕ) (vs : List ℕ) (k : RwCall) (x : ℕ) (how : Waking) (stay : Stay) (q : Role) → CallMeets recursive l t n at (v ∷ vs) k x → core_act (rw_call k) ≡ Act.Section section.Wake → slice_get l.roles v ≡ Some (waking_from how t stay) → inside_of stay ≡ 0 → q ≡ waking_to how
    → CallWakes recursive l t n v vs k x how stay q
call_wakes recursive l t n at v vs (Simple k) x how stay q h e from out to = simple_wakes recursive l t n at v vs k.phase x how stay q (as_simple recursive l t n at (v ∷ vs) k x h) e from out to
call_wakes recursive l t n at v vs (Tardy p) x how stay q h e from out to = absurd (tardy_wakes p e)
call_wakes recursive l t n at v vs (Upgradable k) x how stay q h e from out to =
    let w = upgrade_wakes (v ∷ vs) k.phase h.stands.0 h.stands.1 e in
    let m = (upgrades_are_steps recursive l t n (rw_spot at) (v ∷ vs) k.phase x ActResult.Made (as_upgrade recursive l t n at (v ∷ vs) k x h) (w.1 x)).0 in
    let step = subst (λ y. UpgradeLeads recursive y t n (rw_spot at) (v ∷ vs) k.phase ActResult.Made x l) (w.0 n (v ∷ vs)) m v vs how stay refl from out in
    record {
      owns = of_upgrade.owns n k.phase;
      move = w.0 n;
      told = w.1 x;
      learns = λ f g. w.2 f;
      step = (step.0, step.1 ∙ ap (λ r. record l { word = word_of x; roles = slice_set (slice_set l.roles v r) t (of_upgrade.role n of_rw.Listed vs (upgrade_table.next_phase k.phase ActResult.Made)) }) (sym to));
    }

-- THE REST

tardy_as : (p : LateRwPhase) (us : List ℕ) (s : ActResult) (j t : ℕ) (a b : State) → IsRwMove (tardy_move p s) us j t a b → IsLateRwMove p s j t a b
tardy_as (LateRwPhase.Expires k) us ActResult.Entered j t a b h = h
tardy_as (LateRwPhase.Expires k) us ActResult.Made j t a b h = absurd h
tardy_as (LateRwPhase.WasTaken k by handed) us ActResult.Made j t a b h = h
tardy_as (LateRwPhase.Quits k) us (ActResult.Took token left) j t a b h = absurd h
tardy_as LateRwPhase.Masks us (ActResult.Before word) j t a b h = h
tardy_as LateRwPhase.Leaves us ActResult.Made j t a b h = h
tardy_as (LateRwPhase.LeavesPending from) us ActResult.Made j t a b h = h
tardy_as p us s j t a b h = absurd h

-- the move of a call is the step that the machine names
pub as_move : (k : RwCall) (n : ℕ) (us : List ℕ) (s : ActResult) (j t : ℕ) (a b : State) → IsRwMove (call_move n us k s) us j t a b → IsMoveOf (rw_call k) n us s j t a b
as_move (Simple k) n us s j t a b h = h
as_move (Upgradable k) n us s j t a b h = h
as_move (Tardy p) n us s j t a b h = tardy_as p us s j t a b h

-- an own act takes nobody
simple_learns : (p : RwPhase) (s : ActResult) → IsOwnAct (rw_table.act_of p) → (f g : List Waiter) → Learns p s f g
simple_learns (RwPhase.Scans a) s own f g = absurd own
simple_learns (RwPhase.TakeWriter rest) s own f g = absurd own
simple_learns p s own f g = tt

frees_learns : (r : Release) (q : RwPhase) (s : ActResult) (f : List Waiter) → IsOwnAct (upgrade_table.frees_act r q) → UpgradeLearns (UpgradePhase.Frees r (record { phase = q })) s f
frees_learns r (RwPhase.Scans a) s f own = absurd own
frees_learns r q s f own = tt

owes_learns : (kept : hold_type.Hold) (end : CoreAnswer) (q : RwPhase) (s : ActResult) (f : List Waiter) → IsOwnAct (upgrade_table.owes_act kept end q) → UpgradeLearns (UpgradePhase.Owes kept end (record { phase = q })) s f
owes_learns kept end (RwPhase.Scans a) s f own = absurd own
owes_learns kept end q s f own = tt

upgrade_learns : (p : UpgradePhase) (s : ActResult) (f : List Waiter) → IsOwnAct (upgrade_table.act_of p) → UpgradeLearns p s f
upgrade_learns (UpgradePhase.Frees r core) s f own = frees_learns r core.phase s f own
upgrade_learns (UpgradePhase.Owes kept end core) s f own = owes_learns kept end core.phase s f own
upgrade_learns p s f own = tt

pub call_learns : (k : RwCall) (s : ActResult) → IsOwnAct (core_act (rw_call k)) → (f g : List Waiter) → CallLearns k s f g
call_learns (Simple k) s own f g = simple_learns k.phase s own f g
call_learns (Upgradable k) s own f g = upgrade_learns k.phase s f own
call_learns (Tardy p) s own f g = tt

-- what an act of a thread's own gives shows nobody
shows_nobody : (a : Act) (x : ℕ) (token : ParkToken) (left : Bool) → IsOwnAct a → Gives a x (ActResult.Took (Some token) left) → ⊥
shows_nobody (Act.Section section.TakeFirst) x token left own g = own
shows_nobody (Act.Section (section.TakeNext sum)) x token left own g = own
shows_nobody a x token left own g = g

pub own_wants : (x : ℕ) (k : RwCall) (s : ActResult) → IsOwnAct (core_act (rw_call k)) → Gives (core_act (rw_call k)) x s → CallWants k s
own_wants x k (ActResult.Took (Some token) left) own g = absurd (shows_nobody (core_act (rw_call k)) x token left own g)
own_wants x k (ActResult.Took None left) own g = tt
own_wants x k ActResult.Start own g = tt
own_wants x k (ActResult.Word word) own g = tt
own_wants x k ActResult.Exchanged own g = tt
own_wants x k (ActResult.Before word) own g = tt
own_wants x k (ActResult.Spun spun) own g = tt
own_wants x k ActResult.Entered own g = tt
own_wants x k (ActResult.Stored fair) own g = tt
own_wants x k ActResult.Made own g = tt
own_wants x k (ActResult.Woken token) own g = tt
