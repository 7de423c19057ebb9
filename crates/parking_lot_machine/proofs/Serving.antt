-- Where threads wait, somebody is in debt; and where a thread is in a call, somebody can move.
use Rattle.std.proofs.Common.{◌≡◌, ◌≢◌, ℕ, zero, suc, ◌<◌, ◌≤◌, ◌||◌, ◌&&◌, arith, ◌⊎◌, inl, inr, cond, Bool, true}
use Rattle.std.proofs.Common.{false, not, List, length, Option, Some, None, slice_get, refl, sym, ap, ◌∙◌, subst}
use Rattle.std.specs.Prelude.{IsTrue, is_some}
use Rattle.std.specs.Option.{option_and_then}
use Rattle.std.proofs.lemmas.Bool.{both_ways, cases_eq}
use Rattle.parking_lot_core_model.specs.declared.place.Section.{Section}
use Rattle.parking_lot_core_model.specs.Places.{place_at}
use Rattle.parking_lot_rules.specs.Roles.{Asleep, Phase, Role, Queued1, Taken1, Queued2, Taken2, Shares, Excludes}
use Rattle.parking_lot_rules.specs.Roles.{Upgrades, Owned, Idle}
use Rattle.parking_lot_rules.specs.Laws as rw_laws
use Rattle.parking_lot_rules.specs.Mutex as mutex
use Rattle.parking_lot_rules.specs.MutexLaws as mutex_laws
use Rattle.parking_lot_rules.proofs.Following as rw_follow
use Rattle.parking_lot_rules.proofs.MutexFollowing as mutex_follow
use Rattle.parking_lot_protocol.specs.declared.act.Act.{Act}
use Rattle.parking_lot_protocol.specs.declared.mutex_core.MutexCore.{MutexCore}
use Rattle.parking_lot_protocol.specs.declared.mutex_phase.MutexPhase.{MutexPhase}
use Rattle.parking_lot_protocol.specs.declared.rw_phase.RwPhase.{RwPhase}
use Rattle.parking_lot_protocol.specs.declared.act.CoreAnswer.TheVariants as answer
use Rattle.parking_lot_protocol.specs.declared.rw_phase.AfterWake.TheVariants as rest
use Rattle.parking_lot_protocol.specs.RwRules as rules_of_rw
use Rattle.parking_lot_protocol.specs.MutexTable as of_mutex
use Rattle.parking_lot_protocol.specs.RwTable as of_rw
use Rattle.parking_lot_protocol.specs.declared.act.CoreAnswer.{CoreAnswer}
use Rattle.parking_lot_protocol_rw.specs.UpgradeRoles as of_upgrade
use Rattle.parking_lot_protocol_rw.specs.UpgradeRoles.{for_release, for_upgradable, for_upgrade}
use Rattle.parking_lot_protocol_rw.specs.UpgradeTable as upgrade_table
use Rattle.parking_lot_protocol_rw.specs.declared.upgrade_phase.Hold.{Hold as Kept}
use Rattle.parking_lot_protocol_rw.specs.declared.upgrade_phase.Release.{Release}
use Rattle.parking_lot_protocol_rw.specs.declared.upgrade_phase.UpgradePhase.{UpgradePhase}
use Rattle.parking_lot_machine_calls.specs.Stances.{seeks_stance, upgrade_stance, upgrade_taken, late_rw_act}
use Rattle.parking_lot_machine_calls.specs.Stances.{late_rw_pending, late_rw_stance, sleeper_stance}
use Rattle.parking_lot_machine_calls.specs.CallRoles.{rw_core_role, mutex_does}
use Rattle.parking_lot_machine.proofs.KindTable as KindTable
use Rattle.parking_lot_machine.proofs.KindTable.{RwCall, Simple, rw_call, Tardy}
use Rattle.parking_lot_machine_calls.specs.Kinds.{AsMutex, AsRw, manner_of, Manner}
use Rattle.parking_lot_machine_calls.specs.declared.calls.OwnMode.{OwnMode}
use Rattle.parking_lot_machine_calls.specs.declared.seat.QueuePosition.{QueuePosition}
use Rattle.parking_lot_machine_calls.specs.declared.seat.LatePhase.{LatePhase}
use Rattle.parking_lot_machine_calls.specs.declared.seat.Core.{Core}
use Rattle.parking_lot_machine_calls.specs.declared.open_call.Call.{Call}
use Rattle.parking_lot_machine_calls.specs.CallViews.{mutex_mode, rw_mode}
use Rattle.parking_lot_machine.specs.Machines.{can_move, can_move_in, goes_late, is_asleep, is_asleep_in, is_possible}
use Rattle.parking_lot_machine.specs.Machines.{is_taken, sleeps}
use Rattle.parking_lot_machine_calls.specs.CallActs.{key_of}
use Rattle.parking_lot_core_model.proofs.Entering.{same_some}
use Rattle.parking_lot_machine.proofs.LotActs.{no_section}
use Rattle.std.proofs.lemmas.Option.{none-some}
use Rattle.parking_lot_machine.proofs.InTime.{frees_same, mutex_in_time, owes_same, rw_in_time, seeks_same}
use Rattle.parking_lot_machine.proofs.InTime.{upgrade_in_time}
use Rattle.parking_lot_machine.specs.RowFits.{FitsTogether, Stands, SeatedIn}
use Rattle.parking_lot_machine_calls.specs.CallKinds.{IsOfKind, IsOfManner}
use Rattle.parking_lot_machine.specs.Rows.{State, bucket, call_at, everybody, hold_at, lock_as, lock_at, mutex_at}
use Rattle.parking_lot_machine.specs.Rows.{open_at, rw_lock_at}
use Rattle.parking_lot_machine.specs.Rows.{mutex_role_at, rw_role_at, taken_by}
use Rattle.parking_lot_machine_calls.specs.CallRoles.{mutex_spot, rw_spot}
use Rattle.parking_lot_machine.specs.SoundLaws.{IsApart, SomebodyCanMove, SomebodyKeeps}
use Rattle.parking_lot_machine_calls.specs.Stances.{Stance, Out, In, Doing, late_act, late_stance, taken_count}
use Rattle.parking_lot_machine_calls.specs.Stances.{mutex_taken, rw_taken, core_act, mutex_stance, rw_stance, stance}
use Rattle.parking_lot_machine_calls.specs.Stances as stances
use Rattle.parking_lot_machine.specs.Worlds.{mode_in}
use Rattle.parking_lot_rules.proofs.Everybody.{get-all, within-all, was-all}
use Rattle.parking_lot_machine.proofs.Viewing.{apart_role}
use Rattle.parking_lot_machine.proofs.KindTable.{MutexCall, Plain, Late, mutex_call, Kind, of_mutexes, of_rws, role_at}
use Rattle.parking_lot_machine.proofs.KindTable.{role_now}
use Rattle.parking_lot_machine.proofs.Meeting.{in_range, mutex_sound, rw_sound}
use Rattle.parking_lot_machine_calls.specs.declared.late_rw.LateRwPhase.{LateRwPhase}
use Rattle.parking_lot_machine_calls.specs.LateCalls.{comes_late, is_back, is_pending, late_is_back, late_rw_is_back}
use Rattle.parking_lot_machine_calls.specs.LateCalls.{late_key}
use Rattle.parking_lot_machine_calls.specs.LateCalls.{sleeps_in_time}
use Rattle.parking_lot_machine_calls.proofs.Lying.{lies_out}
use Rattle.parking_lot_rules.specs.Classes.{bit}

-- ACTS

pub or_else : (a : Bool) {b : Bool} → b ≡ true → (a || b) ≡ true
or_else true e = refl
or_else false e = e

-- one whose moment has passed
pub comes_on : (a b c e : Bool) → b ≡ true → c ≡ true → ((a || (b && c)) || e) ≡ true
comes_on true b c e x y = refl
comes_on false true true e x y = refl
comes_on false true false e x y = absurd cc
comes_on false false c e x y = absurd cc

pub backs_on : (a b e : Bool) → a ≡ true → ((a || b) || e) ≡ true
backs_on true b e x = refl
backs_on false b e x = absurd cc

pub possible_alone : (taken : ℕ → Bool) (a : Act) → sleeps a ≡ false → ((k : ℕ) → a ≡ Act.Enter k → taken k ≡ false)
    → is_possible taken a ≡ true
possible_alone taken Act.Sleep e free = absurd cc
possible_alone taken (Act.Enter k) e free = ap not (free k refl)
possible_alone taken a e free = refl

-- one that is inside a section can go on
mutex_inside : (p : MutexPhase) (k : ℕ) (how : Doing) (taken : ℕ → Bool) → mutex_stance p ≡ In k how
    → is_possible taken (of_mutex.act_of p) ≡ true
mutex_inside (MutexPhase.Checks woken) k how taken e = refl
mutex_inside (MutexPhase.Retreats woken) k how taken e = refl
mutex_inside MutexPhase.Appends k how taken e = refl
mutex_inside MutexPhase.Rests k how taken e = refl
mutex_inside (MutexPhase.Takes giving) k how taken e = refl
mutex_inside (MutexPhase.Stores giving took left) k how taken e = refl
mutex_inside (MutexPhase.Leaves giving took handed) k how taken e = refl
mutex_inside p k how taken e = absurd cc

rw_inside : (p : RwPhase) (k : ℕ) (how : Doing) (taken : ℕ → Bool) → rw_stance p ≡ In k how
    → is_possible taken (of_rw.act_of p) ≡ true
rw_inside (RwPhase.Checks want woken) k how taken e = refl
rw_inside (RwPhase.Retreats want woken) k how taken e = refl
rw_inside (RwPhase.Appends want) k how taken e = refl
rw_inside (RwPhase.Rests want) k how taken e = refl
rw_inside (RwPhase.DrainChecks d) k how taken e = refl
rw_inside (RwPhase.DrainRetreats d) k how taken e = refl
rw_inside (RwPhase.DrainAppends rounds) k how taken e = refl
rw_inside (RwPhase.DrainRests rounds) k how taken e = refl
rw_inside (RwPhase.TakeWriter rest) k how taken e = refl
rw_inside (RwPhase.ClearWriterParked rest took) k how taken e = refl
rw_inside (RwPhase.LeaveWriterWakeSection rest took) k how taken e = refl
rw_inside (RwPhase.Scans s) k how taken e = refl
rw_inside (RwPhase.Stores s left) k how taken e = refl
rw_inside (RwPhase.Leaves rest count handed) k how taken e = refl
rw_inside p k how taken e = absurd cc

-- one whose moment has passed, too
late_inside : (p : LatePhase) (b : Bool) (taken : ℕ → Bool) (k : ℕ) (how : Doing) → late_stance p ≡ In k how
    → ((late_is_back p || b) || is_possible taken (late_act p)) ≡ true
late_inside LatePhase.Quits b taken k how e = refl
late_inside LatePhase.Masks b taken k how e = or_else b refl
late_inside LatePhase.Leaves b taken k how e = or_else b refl
late_inside (LatePhase.WasTaken by handed) b taken k how e = or_else b refl
late_inside p b taken k how e = absurd cc

tardy_inside : (p : LateRwPhase) (b : Bool) (taken : ℕ → Bool) (k : ℕ) (how : Doing) → late_rw_stance p ≡ In k how
    → ((late_rw_is_back p || b) || is_possible taken (late_rw_act p)) ≡ true
tardy_inside (LateRwPhase.Expires q) b taken k how e = absurd (lies_out (sleeper_stance q) k how e)
tardy_inside (LateRwPhase.Quits q) b taken k how e = refl
tardy_inside LateRwPhase.Masks b taken k how e = or_else b refl
tardy_inside LateRwPhase.Leaves b taken k how e = or_else b refl
tardy_inside (LateRwPhase.LeavesPending from) b taken k how e = or_else b refl
tardy_inside (LateRwPhase.WasTaken q by handed) b taken k how e = or_else b refl
tardy_inside LateRwPhase.GivesUp b taken k how e = absurd cc

seeks_inside : (q : RwPhase) (k : ℕ) (how : Doing) (taken : ℕ → Bool) → seeks_stance q ≡ In k how
    → is_possible taken (upgrade_table.seeks_act q) ≡ true
seeks_inside (RwPhase.Admits a word) k how taken e = absurd cc
seeks_inside (RwPhase.Appends want) k how taken e = refl
seeks_inside (RwPhase.Rests want) k how taken e = refl
seeks_inside (RwPhase.Sleeps want) k how taken e = absurd cc
seeks_inside q k how taken e = rw_inside q k how taken e

frees_inside : (r : Release) (q : RwPhase) (k : ℕ) (how : Doing) (taken : ℕ → Bool) → rw_stance q ≡ In k how
    → is_possible taken (upgrade_table.frees_act r q) ≡ true
frees_inside r (RwPhase.Stores a left) k how taken e = refl
frees_inside r (RwPhase.Finishes rest) k how taken e = absurd cc
frees_inside r q k how taken e = rw_inside q k how taken e

owes_inside : (kept : Kept) (end : CoreAnswer) (q : RwPhase) (k : ℕ) (how : Doing) (taken : ℕ → Bool)
    → rw_stance q ≡ In k how → is_possible taken (upgrade_table.owes_act kept end q) ≡ true
owes_inside kept end (RwPhase.Scans a) k how taken e = refl
owes_inside kept end (RwPhase.Finishes rest) k how taken e = absurd cc
owes_inside kept end q k how taken e = rw_inside q k how taken e

upgrade_inside : (p : UpgradePhase) (k : ℕ) (how : Doing) (taken : ℕ → Bool) → upgrade_stance p ≡ In k how
    → is_possible taken (upgrade_table.act_of p) ≡ true
upgrade_inside (UpgradePhase.Plain core) k how taken e = rw_inside core.phase k how taken e
upgrade_inside (UpgradePhase.Seeks core) k how taken e = seeks_inside core.phase k how taken e
upgrade_inside (UpgradePhase.Drains core) k how taken e = rw_inside core.phase k how taken e
upgrade_inside (UpgradePhase.Frees r core) k how taken e = frees_inside r core.phase k how taken e
upgrade_inside (UpgradePhase.Owes kept end core) k how taken e = owes_inside kept end core.phase k how taken e
upgrade_inside p k how taken e = absurd cc

inside_possible : (s : State) (d : Call) (c : Core) (k : ℕ) (how : Doing) → stance c ≡ In k how
    → (goes_late s d c || is_possible (is_taken s d) (core_act c)) ≡ true
inside_possible s d (Core.Late p) k how e = late_inside p (comes_late (Core.Late p) && not (is_taken s d 0))
    (is_taken s d) k how e
inside_possible s d (Core.LateRw p) k how e =
    tardy_inside p (comes_late (Core.LateRw p) && not (is_taken s d (bit (late_rw_pending p)))) (is_taken s d) k how e
inside_possible s d (Core.Mutex c) k how e = mutex_inside c.phase k how (is_taken s d) e
inside_possible s d (Core.Rw c) k how e = rw_inside c.phase k how (is_taken s d) e
inside_possible s d (Core.Upgrade c) k how e = upgrade_inside c.phase k how (is_taken s d) e

-- A SLEEPER, AS THE RULES SEE IT

mutex_sleeps : (at : QueuePosition) (us : List ℕ) (p : MutexPhase) → sleeps (of_mutex.act_of p) ≡ true
    → mutex_laws.is_asleep (mutex_does (mutex_spot at) us p) ≡ true
mutex_sleeps QueuePosition.Listed us MutexPhase.Sleeps e = refl
mutex_sleeps (QueuePosition.Off by said) us MutexPhase.Sleeps e = refl
mutex_sleeps at us (MutexPhase.Finishes giving) e = absurd (goes_on giving.again e)
  where
    goes_on : (again : Bool) → sleeps (cond again Act.Load (Act.Done answer.Released)) ≡ true → ⊥
    goes_on true e = cc
    goes_on false e = cc
mutex_sleeps at us p e = absurd cc

rw_sleeps : (at : QueuePosition) (us : List ℕ) (p : RwPhase) → sleeps (of_rw.act_of p) ≡ true
    → rw_laws.is_asleep (rules_of_rw.does (rw_spot at) us p) ≡ true
rw_sleeps QueuePosition.Listed us (RwPhase.Sleeps want) e = refl
rw_sleeps (QueuePosition.Off by said) us (RwPhase.Sleeps want) e = refl
rw_sleeps QueuePosition.Listed us (RwPhase.DrainSleeps rounds) e = refl
rw_sleeps (QueuePosition.Off by said) us (RwPhase.DrainSleeps rounds) e = refl
rw_sleeps at us (RwPhase.Finishes rest.FreedShared) e = absurd cc
rw_sleeps at us (RwPhase.Finishes rest.FreedExclusive) e = absurd cc
rw_sleeps at us (RwPhase.Finishes rest.Downgraded) e = absurd cc
rw_sleeps at us (RwPhase.Finishes rest.AgainShared) e = absurd cc
rw_sleeps at us (RwPhase.Finishes rest.AgainExclusive) e = absurd cc
rw_sleeps at us p e = absurd cc

-- the phases of calls that go on as such a one sleep as it does
upgradable_asleep : (d : Phase) → rw_laws.is_asleep (for_upgradable d) ≡ rw_laws.is_asleep d
upgradable_asleep (Queued1 mode Asleep) = refl
upgradable_asleep (Queued1 mode stay) = refl
upgradable_asleep (Taken1 mode by mark Asleep) = refl
upgradable_asleep (Taken1 mode by mark stay) = refl
upgradable_asleep d = refl

upgrade_asleep : (d : Phase) → rw_laws.is_asleep (for_upgrade d) ≡ rw_laws.is_asleep d
upgrade_asleep (Queued2 from Asleep) = refl
upgrade_asleep (Queued2 from stay) = refl
upgrade_asleep (Taken2 from by Asleep) = refl
upgrade_asleep (Taken2 from by stay) = refl
upgrade_asleep d = refl

release_asleep : (d : Phase) → rw_laws.is_asleep (for_release d) ≡ rw_laws.is_asleep d
release_asleep (Queued2 from stay) = refl
release_asleep d = refl

upgrade_sleeps : (n : ℕ) (at : QueuePosition) (us : List ℕ) (p : UpgradePhase) → sleeps (upgrade_table.act_of p) ≡ true
    → rw_laws.is_asleep (of_upgrade.does (rw_spot at) us p) ≡ true
upgrade_sleeps n at us (UpgradePhase.Plain core) e = rw_sleeps at us core.phase e
upgrade_sleeps n at us (UpgradePhase.Seeks core) e = upgradable_asleep (rules_of_rw.does (rw_spot at) us core.phase)
    ∙ rw_sleeps at us core.phase (seeks_same core.phase e)
upgrade_sleeps n at us (UpgradePhase.Drains core) e = upgrade_asleep (rules_of_rw.does (rw_spot at) us core.phase)
    ∙ rw_sleeps at us core.phase e
upgrade_sleeps n at us (UpgradePhase.Frees r core) e = release_asleep (rules_of_rw.does (rw_spot at) us core.phase)
    ∙ rw_sleeps at us core.phase (frees_same r core.phase e)
upgrade_sleeps n at us (UpgradePhase.Owes kept end core) e =
    rw_sleeps at us core.phase (owes_same kept end core.phase e)
upgrade_sleeps n at us p e = absurd cc

-- a sleeper isn't at work, and isn't idle
mutex_rests : (p : mutex.Phase) → mutex_laws.is_asleep p ≡ true → mutex_laws.is_at_work p ≡ false
mutex_rests (mutex.Queued Asleep) e = refl
mutex_rests (mutex.Taken by mark Asleep) e = refl
mutex_rests p e = absurd cc

rw_rests : (p : Phase) → rw_laws.is_asleep p ≡ true → rw_laws.is_at_work p ≡ false
rw_rests (Queued1 mode Asleep) e = refl
rw_rests (Taken1 mode by mark Asleep) e = refl
rw_rests (Queued2 from Asleep) e = refl
rw_rests (Taken2 from by Asleep) e = refl
rw_rests p e = absurd cc

-- who has taken another doesn't sleep
mutex_takers : (p : MutexPhase) → 1 ≤ mutex_taken p → sleeps (of_mutex.act_of p) ≡ false
mutex_takers (MutexPhase.Stores giving took left) some = refl
mutex_takers (MutexPhase.Leaves giving took handed) some = refl
mutex_takers (MutexPhase.Wakes giving) some = refl
mutex_takers p some = absurd (omega (arith, some))

rw_takers : (p : RwPhase) → 1 ≤ rw_taken p → sleeps (of_rw.act_of p) ≡ false
rw_takers (RwPhase.ClearWriterParked rest took) some = refl
rw_takers (RwPhase.LeaveWriterWakeSection rest took) some = refl
rw_takers (RwPhase.Scans s) some = refl
rw_takers (RwPhase.Stores s left) some = refl
rw_takers (RwPhase.Leaves rest count handed) some = refl
rw_takers (RwPhase.Wakes rest count) some = refl
rw_takers p some = absurd (omega (arith, some))

seeks_takers : (q : RwPhase) → 1 ≤ rw_taken q → sleeps (upgrade_table.seeks_act q) ≡ false
seeks_takers (RwPhase.Admits a word) some = absurd (omega (arith, some))
seeks_takers (RwPhase.Appends want) some = absurd (omega (arith, some))
seeks_takers q some = rw_takers q some

frees_takers : (r : Release) (q : RwPhase) → 1 ≤ rw_taken q → sleeps (upgrade_table.frees_act r q) ≡ false
frees_takers r (RwPhase.Stores a left) some = refl
frees_takers r (RwPhase.Finishes rest) some = absurd (omega (arith, some))
frees_takers r q some = rw_takers q some

owes_takers : (kept : Kept) (end : CoreAnswer) (q : RwPhase) → 1 ≤ rw_taken q
    → sleeps (upgrade_table.owes_act kept end q) ≡ false
owes_takers kept end (RwPhase.Scans a) some = refl
owes_takers kept end (RwPhase.Finishes rest) some = absurd (omega (arith, some))
owes_takers kept end q some = rw_takers q some

upgrade_takers : (p : UpgradePhase) → 1 ≤ upgrade_taken p → sleeps (upgrade_table.act_of p) ≡ false
upgrade_takers (UpgradePhase.Plain core) some = rw_takers core.phase some
upgrade_takers (UpgradePhase.Seeks core) some = seeks_takers core.phase some
upgrade_takers (UpgradePhase.Drains core) some = rw_takers core.phase some
upgrade_takers (UpgradePhase.Frees r core) some = frees_takers r core.phase some
upgrade_takers (UpgradePhase.Owes kept end core) some = owes_takers kept end core.phase some
upgrade_takers p some = absurd (omega (arith, some))

takers_wake : (c : Core) → 1 ≤ taken_count c → sleeps (core_act c) ≡ false
takers_wake (Core.Mutex c) some = mutex_takers c.phase some
takers_wake (Core.Rw c) some = rw_takers c.phase some
takers_wake (Core.Upgrade c) some = upgrade_takers c.phase some
takers_wake (Core.Late p) some = absurd (omega (arith, some))
takers_wake (Core.LateRw p) some = absurd (omega (arith, some))

-- one that owns a lock and does nothing there owns it in some mode
keeps_rw : (o : Owned) → o ≢ Shares 0 → (a : OwnMode) × (rw_mode (record { owns = o; does = Idle }) ≡ Some a)
keeps_rw (Shares zero) ne = absurd (ne refl)
keeps_rw (Shares (suc n)) ne = (OwnMode.Shared, refl)
keeps_rw Excludes ne = (OwnMode.Exclusive, refl)
keeps_rw Upgrades ne = (OwnMode.Upgradable, refl)

-- which section an act enters
enters : Act → Option ℕ
enters (Act.Enter k) = Some k
enters a = None

module _ (s : State) (h : FitsTogether s) where
  -- WHO CAN MOVE

  abbrev Moves : Type 0
  Moves = (u : ℕ) × (can_move s u ≡ true)

  -- where a section is open, the one inside can
  module _ (b : ℕ) (o : Section) (is : s.lot.sections b ≡ Some o) where
    abbrev whose : ℕ
    whose = (h.lots.opened b o is).0

    in_none : s.lot.inside whose ≡ None → ⊥
    in_none out = no_section s h.lots whose b o out is (h.lots.opened b o is).1

    at_work : (c : Call) (a : Stance) → stance c.core ≡ a → Stands whose c.lock a c.spot (place_at s.lot.places whose)
        (s.lot.inside whose) (open_at s) → can_move_in s (Some c) ≡ true
    at_work c Out e st = absurd (in_none st.1)
    at_work c (In k how) e st = inside_possible s c c.core k how e
    at_work c (stances.Asleep k token) e st = absurd (in_none st.1)

    pub goes_on : (call : Option Call) → SeatedIn s.lot whose call → can_move_in s call ≡ true
    goes_on None seated = absurd (in_none seated.1)
    goes_on (Some c) seated = at_work c (stance c.core) refl seated

    inside_moves : (u : ℕ) × (can_move s u ≡ true)
    inside_moves = (whose, goes_on (call_at s whose) (h.lots.seated whose (h.lots.opened b o is).2))

  -- where a thread in a call is awake, it can move, or the one inside the section that it is before
  awake_moves : (t : ℕ) (c : Call) → call_at s t ≡ Some c → sleeps (core_act c.core) ≡ false → (u : ℕ)
      × (can_move s u ≡ true)
  unfolding enters
  awake_moves t c here awake = go (enters (core_act c.core)) refl
    where
      moves : ((k : ℕ) → core_act c.core ≡ Act.Enter k → is_taken s c k ≡ false) → (u : ℕ) × (can_move s u ≡ true)
      moves free = (
        t,
        ap (can_move_in s) here
            ∙ or_else (goes_late s c c.core) (possible_alone (is_taken s c) (core_act c.core) awake free),
      )

      there : (k : ℕ) → enters (core_act c.core) ≡ Some k → (o : Option Section) → open_at s (key_of c k) ≡ o → (u : ℕ)
          × (can_move s u ≡ true)
      there k e None is = moves (λ j f. ap is_some
          (ap (λ (n : ℕ). open_at s (key_of c n)) (same_some (sym (ap enters f) ∙ e)) ∙ is))
      there k e (Some o) is = inside_moves (bucket s (key_of c k)) o is

      go : (o : Option ℕ) → enters (core_act c.core) ≡ o → (u : ℕ) × (can_move s u ≡ true)
      go None e = moves (λ j f. absurd (none-some j (sym e ∙ ap enters f)))
      go (Some k) e = there k e (open_at s (key_of c k)) refl

  -- WHO IS UP AT A LOCK WHERE A THREAD SLEEPS

  pub by_call : (i v : ℕ) → (IsApart i (call_at s v)) ⊎ ((d : Call) × (call_at s v ≡ Some d) × (d.lock ≡ i))
  by_call i v = go (call_at s v) refl
    where
      go : (o : Option Call) → call_at s v ≡ o → IsApart i o ⊎ ((d : Call) × (o ≡ Some d) × (d.lock ≡ i))
      go None e = inl tt
      go (Some d) e = elim (cases_eq d.lock i) [
        | inl same ↦ inr (d, refl, same)
        | inr ne ↦ inl ne
      ]

  -- Of locks of a kind whose threads are in such roles: `up` is what the rules say of a lock where a thread sleeps.
  module _ {R : Type 0} (i : ℕ) (role_at : ℕ → R) (asleep at_work_there : R → Bool) (owner : R → Type 0)
      (rests : (q : R) → asleep q ≡ true → at_work_there q ≡ false)
      (idles : (q : R) → owner q → asleep q ≡ false)
      (apart : (v : ℕ) → IsApart i (call_at s v) → at_work_there (role_at v) ≡ false)
      (sleeper : (v : ℕ) (d : Call) → call_at s v ≡ Some d → d.lock ≡ i → sleeps (core_act d.core) ≡ true → Moves
      ⊎ (asleep (role_at v) ≡ true))
      (keeps : (v : ℕ) → v < length s.calls → owner (role_at v) → (a : OwnMode) × (mode_in (lock_at s i) v ≡ Some a))
    where
      up_there : (v : ℕ) (q : R) → slice_get (everybody role_at s) v ≡ Some q → (IsTrue (at_work_there q) ⊎ owner q)
          → Moves ⊎ SomebodyKeeps s i
      up_there v q at does = elim (by_call i v) [
        | inl away ↦ elim does [
          | inl works ↦ absurd (both_ways (at_work_there q) (ap at_work_there is ∙ apart v away) works)
          | inr owns ↦ let held = keeps v (within-all role_at (length s.calls) v q at) (subst owner is owns) in
              inr (v, held.0, held.1, away)
        ]
        | inr d ↦ go d.0 d.1 d.2 (sleeps (core_act d.0.core)) refl
      ]
        where
          is : q ≡ role_at v
          is = was-all role_at (length s.calls) v q at

          go : (d : Call) → call_at s v ≡ Some d → d.lock ≡ i → (b : Bool) → sleeps (core_act d.core) ≡ b → Moves
              ⊎ SomebodyKeeps s i
          go d there same false e = inl (awake_moves v d there e)
          go d there same true e = elim (sleeper v d there same e) [
            | inl moves ↦ inl moves
            | inr sleeps_there ↦
                let rest : asleep q ≡ true = ap asleep is ∙ sleeps_there in
                elim does [
                  | inl works ↦ absurd (both_ways (at_work_there q) (rests q rest) works)
                  | inr owns ↦ absurd (both_ways (asleep q) (idles q owns) rest)
                ]
          ]

  -- one whose moment has passed can come back, or the one inside a section can move
  late_sleeps : (v : ℕ) (d : Call) → call_at s v ≡ Some d → comes_late d.core ≡ true → Moves
  late_sleeps v d there e = go (open_at s (late_key d)) refl
    where
      go : (o : Option Section) → open_at s (late_key d) ≡ o → Moves
      go None is = (
        v,
        ap (can_move_in s) there ∙ comes_on (is_back d.core) (comes_late d.core)
            (not (is_taken s d (bit (is_pending d.core)))) (is_possible (is_taken s d) (core_act d.core)) e
            (ap (λ o. not (is_some o)) is),
      )
      go (Some o) is = inside_moves (bucket s (late_key d)) o is

  -- and one that is back takes itself out
  back_moves : (v : ℕ) (d : Call) → call_at s v ≡ Some d → is_back d.core ≡ true → Moves
  back_moves v d there e =
      (v, ap (can_move_in s) there ∙ backs_on (is_back d.core) _ (is_possible (is_taken s d) (core_act d.core)) e)

  late_moves : (v : ℕ) (d : Call) (p : LatePhase) → call_at s v ≡ Some d → d.core ≡ Core.Late p
      → sleeps (late_act p) ≡ true → Moves
  late_moves v d LatePhase.Expires there e asleep = late_sleeps v d there (ap comes_late e)
  late_moves v d LatePhase.Quits there e asleep = back_moves v d there (ap is_back e)
  late_moves v d p there e asleep = absurd cc

  tardy_moves : (v : ℕ) (d : Call) (p : LateRwPhase) → call_at s v ≡ Some d → d.core ≡ Core.LateRw p
      → sleeps (late_rw_act p) ≡ true → Moves
  tardy_moves v d (LateRwPhase.Expires k) there e asleep = late_sleeps v d there (ap comes_late e)
  tardy_moves v d (LateRwPhase.Quits k) there e asleep = back_moves v d there (ap is_back e)
  tardy_moves v d p there e asleep = absurd cc

  -- at a reader-writer lock a sleeper is asleep to the rules where its moment hasn't passed
  rw_asleep_there : (i v : ℕ) (d : Call) (k : RwCall) → call_at s v ≡ Some d → d.lock ≡ i → d.core ≡ rw_call k
      → rw_laws.is_asleep (rw_core_role d.others d.spot (taken_by s.wakes v) (rw_call k)).does ≡ true
      → rw_laws.is_asleep (rw_role_at s i v).does ≡ true
  rw_asleep_there i v d k there same e so = subst (λ j. rw_laws.is_asleep (rw_role_at s j v).does ≡ true) same
      (ap (λ (q : Role). rw_laws.is_asleep q.does) (role_now of_rws s v (taken_by s.wakes v) d k there refl e) ∙ so)

  rw_sleeper : (i v : ℕ) (d : Call) → manner_of (slice_get s.kinds i) ≡ Some AsRw → call_at s v ≡ Some d → d.lock ≡ i
      → sleeps (core_act d.core) ≡ true → Moves ⊎ (rw_laws.is_asleep (rw_role_at s i v).does ≡ true)
  rw_sleeper i v d of there same asleep =
      go (of_rws.only d.core
      (subst (λ (o : Option Manner). IsOfManner o d.core) (ap (λ j. manner_of (slice_get s.kinds j)) same ∙ of)
      (h.rules.kinds v d there)))
    where
      go : (k : RwCall) × (d.core ≡ rw_call k) → Moves ⊎ (rw_laws.is_asleep (rw_role_at s i v).does ≡ true)
      go (Simple k, e) =
          inr (rw_asleep_there i v d (Simple k) there same e
          (rw_sleeps d.spot (taken_by s.wakes v) k.phase (ap (λ x. sleeps (core_act x)) (sym e) ∙ asleep)))
      go (KindTable.Upgradable k, e) =
          inr (rw_asleep_there i v d (KindTable.Upgradable k) there same e
          (upgrade_sleeps d.others d.spot (taken_by s.wakes v) k.phase
          (ap (λ x. sleeps (core_act x)) (sym e) ∙ asleep)))
      go (Tardy p, e) = inl (tardy_moves v d p there e (ap (λ x. sleeps (core_act x)) (sym e) ∙ asleep))

  plain_sleeper : (i v : ℕ) (d : Call) (k : MutexCore) → call_at s v ≡ Some d → d.lock ≡ i → d.core ≡ Core.Mutex k
      → sleeps (core_act d.core) ≡ true → mutex_laws.is_asleep (mutex_role_at s i v).does ≡ true
  plain_sleeper i v d k there same e asleep =
      subst (λ j. mutex_laws.is_asleep (mutex_role_at s j v).does ≡ true) same
      (ap (λ (q : mutex.Role). mutex_laws.is_asleep q.does)
      (role_now of_mutexes s v (taken_by s.wakes v) d (Plain k) there refl e)
      ∙ mutex_sleeps d.spot (taken_by s.wakes v) k.phase (ap (λ x. sleeps (core_act x)) (sym e) ∙ asleep))

  mutex_sleeper : (i v : ℕ) (d : Call) → manner_of (slice_get s.kinds i) ≡ Some AsMutex → call_at s v ≡ Some d
      → d.lock ≡ i → sleeps (core_act d.core) ≡ true → Moves ⊎ (mutex_laws.is_asleep (mutex_role_at s i v).does ≡ true)
  mutex_sleeper i v d of there same asleep =
      go (of_mutexes.only d.core
      (subst (λ (o : Option Manner). IsOfManner o d.core) (ap (λ j. manner_of (slice_get s.kinds j)) same ∙ of)
      (h.rules.kinds v d there)))
    where
      go : (k : MutexCall) × (d.core ≡ mutex_call k) → Moves ⊎ (mutex_laws.is_asleep (mutex_role_at s i v).does ≡ true)
      go (Plain k, e) = inr (plain_sleeper i v d k there same e asleep)
      go (Late p, e) = inl (late_moves v d p there e (ap (λ x. sleeps (core_act x)) (sym e) ∙ asleep))

  module _ (t : ℕ) (c : Call) (here : call_at s t ≡ Some c) where
    rw_up : manner_of (slice_get s.kinds c.lock) ≡ Some AsRw → rw_laws.is_asleep (rw_role_at s c.lock t).does ≡ true
        → Moves ⊎ SomebodyKeeps s c.lock
    rw_up of asleep =
        let i = c.lock in
        let up = rw_follow.somebody_can_move (rw_lock_at s i) (rw_sound s h i of) t (rw_role_at s i t)
        (get-all (rw_role_at s i) (length s.calls) t (in_range s t c here)) asleep in
        up_there i (rw_role_at s i) (λ q. rw_laws.is_asleep q.does) (λ q. rw_laws.is_at_work q.does) rw_laws.IsOwner
        (λ q e. rw_rests q.does e)
        (λ q owns. ap rw_laws.is_asleep owns.0)
        (λ v away. ap (λ q. rw_laws.is_at_work q.does)
        (apart_role of_rws i (taken_by s.wakes v) (hold_at s v i) (call_at s v) away))
        (λ v d there same e. rw_sleeper i v d of there same e)
        (λ v low owns.
        let held = keeps_rw (rw_role_at s i v).owns owns.1 in (
          held.0,
          ap (λ o. mode_in (lock_as o s i) v) of
              ∙ ap (option_and_then rw_mode) (get-all (rw_role_at s i) (length s.calls) v low)
              ∙ ap (λ p. rw_mode (record { owns = (rw_role_at s i v).owns; does = p })) owns.0 ∙ held.1,
        ))
        up.0 up.1 up.2 up.3

    mutex_up : manner_of (slice_get s.kinds c.lock) ≡ Some AsMutex
        → mutex_laws.is_asleep (mutex_role_at s c.lock t).does ≡ true → Moves ⊎ SomebodyKeeps s c.lock
    mutex_up of asleep =
        let i = c.lock in
        let up = mutex_follow.somebody_can_move (mutex_at s i) (mutex_sound s h i of) t (mutex_role_at s i t)
        (get-all (mutex_role_at s i) (length s.calls) t (in_range s t c here)) asleep in
        up_there i (mutex_role_at s i) (λ q. mutex_laws.is_asleep q.does) (λ q. mutex_laws.is_at_work q.does)
        (λ q. (q.owns ≡ true) × (q.does ≡ mutex.Idle))
        (λ q e. mutex_rests q.does e)
        (λ q owns. ap mutex_laws.is_asleep owns.1)
        (λ v away. ap (λ q. mutex_laws.is_at_work q.does)
        (apart_role of_mutexes i (taken_by s.wakes v) (hold_at s v i) (call_at s v) away))
        (λ v d there same e. mutex_sleeper i v d of there same e)
        (λ v low owns. (
          OwnMode.Exclusive,
          ap (λ o. mode_in (lock_as o s i) v) of
              ∙ ap (option_and_then mutex_mode) (get-all (mutex_role_at s i) (length s.calls) v low)
              ∙ ap (λ p. mutex_mode (record { owns = (mutex_role_at s i v).owns; does = p })) owns.1
              ∙ ap (λ b. mutex_mode (record { owns = b; does = mutex.Idle })) owns.0,
        ))
        up.0 up.1 up.2 up.3

    somebody : Moves ⊎ ((is_asleep s t ≡ true) × SomebodyKeeps s c.lock)
    somebody = go (sleeps (core_act c.core)) refl
      where
        slept : (k : Core) → c.core ≡ k → sleeps_in_time k ≡ true → Moves ⊎ SomebodyKeeps s c.lock → Moves
            ⊎ ((is_asleep s t ≡ true) × SomebodyKeeps s c.lock)
        slept k e so (inl x) = inl x
        slept k e so (inr x) = inr (ap is_asleep_in here ∙ ap sleeps_in_time e ∙ so, x)

        asks : (k : Core) → c.core ≡ k → sleeps (core_act c.core) ≡ true → sleeps (core_act k) ≡ true
        asks k e asleep = ap (λ x. sleeps (core_act x)) (sym e) ∙ asleep

        slept_up : manner_of (slice_get s.kinds c.lock) ≡ Some AsRw → Moves
            ⊎ (rw_laws.is_asleep (rw_role_at s c.lock t).does ≡ true) → Moves ⊎ SomebodyKeeps s c.lock
        slept_up of (inl x) = inl x
        slept_up of (inr x) = rw_up of x

        by_core : (k : Core) → c.core ≡ k → IsOfKind (slice_get s.kinds c.lock) k → sleeps (core_act c.core) ≡ true
            → Moves ⊎ ((is_asleep s t ≡ true) × SomebodyKeeps s c.lock)
        by_core (Core.Rw k) e of asleep = slept _ e (rw_in_time k.phase (asks _ e asleep))
            (slept_up of (rw_sleeper c.lock t c of here refl asleep))
        by_core (Core.Upgrade k) e of asleep = slept _ e (upgrade_in_time k.phase (asks _ e asleep))
            (slept_up of (rw_sleeper c.lock t c of here refl asleep))
        by_core (Core.LateRw p) e of asleep = inl (tardy_moves t c p here e (asks _ e asleep))
        by_core (Core.Mutex k) e of asleep = slept _ e (mutex_in_time k.phase (asks _ e asleep))
            (mutex_up of (plain_sleeper c.lock t c k here refl e asleep))
        by_core (Core.Late p) e of asleep = inl (late_moves t c p here e (asks _ e asleep))

        go : (b : Bool) → sleeps (core_act c.core) ≡ b → Moves ⊎ ((is_asleep s t ≡ true) × SomebodyKeeps s c.lock)
        go false e = inl (awake_moves t c here e)
        go true e = by_core c.core refl (h.rules.kinds t c here) e

pub somebody_can_move : (s : State) → FitsTogether s → SomebodyCanMove s
somebody_can_move s h t c here = somebody s h t c here
