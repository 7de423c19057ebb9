-- Who asks to sleep does so, unless its deadline has come.
use Rattle.std.proofs.Common.{◌≡◌, ◌⊎◌, ◌+◌, ◌%◌, ◌^◌, inl, inr, Bool, true, false, cond, refl, sym, ◌∙◌}
use Rattle.std.proofs.lemmas.Bool.{false≢true}
use Rattle.parking_lot_protocol.specs.declared.act.Act.{Act}
use Rattle.parking_lot_protocol.specs.declared.act.CoreAnswer.{CoreAnswer}
use Rattle.parking_lot_protocol.specs.declared.act.CoreAnswer.TheVariants as answer
use Rattle.parking_lot_protocol.specs.declared.mutex_phase.MutexPhase.{MutexPhase}
use Rattle.parking_lot_protocol.specs.declared.rw_phase.AfterWake.TheVariants as rest
use Rattle.parking_lot_protocol.specs.declared.rw_phase.RwPhase.{RwPhase}
use Rattle.parking_lot_protocol.specs.MutexTable as of_mutex
use Rattle.parking_lot_protocol.specs.RwTable as of_rw
use Rattle.parking_lot_protocol_rw.specs.UpgradeTable as upgrade_table
use Rattle.parking_lot_protocol_rw.specs.declared.upgrade_phase.Hold.{Hold as Kept}
use Rattle.parking_lot_protocol_rw.specs.declared.upgrade_phase.Release.{Release}
use Rattle.parking_lot_protocol_rw.specs.declared.upgrade_phase.UpgradePhase.{UpgradePhase}
use Rattle.parking_lot_machine_calls.specs.Stances.{core_act, rw_asleep, upgrade_asleep}
use Rattle.parking_lot_machine_calls.specs.LateCalls.{is_sleeping, sleeps_in_time}
use Rattle.parking_lot_machine_calls.specs.declared.late_rw.LateRwPhase.{LateRwPhase}
use Rattle.parking_lot_machine_calls.specs.declared.seat.Core.{Core}
use Rattle.parking_lot_machine_calls.specs.declared.seat.LatePhase.{LatePhase}
use Rattle.parking_lot_machine.specs.Machines.{sleeps}
use Rattle.parking_lot_machine_calls.specs.LateCalls.{comes_late, is_back}

both_ways : (b : Bool) → b ≡ false → b ≡ true → ⊥
both_ways b e f = false≢true (sym e ∙ f)

awake_either : (b : Bool) (x y : Act) → sleeps x ≡ false → sleeps y ≡ false → sleeps (cond b x y) ≡ false
awake_either true x y h k = h
awake_either false x y h k = k

pub seeks_same : (q : RwPhase) → sleeps (upgrade_table.seeks_act q) ≡ true → sleeps (of_rw.act_of q) ≡ true
seeks_same (RwPhase.Admits a word) e =
    absurd (both_ways _
    (awake_either (of_rw.has_room word) (Act.Exchange word ((word + 20) % 2 ^ 64)) Act.Load refl refl) e)
seeks_same (RwPhase.Appends want) e = absurd cc
seeks_same q e = e

pub frees_same : (r : Release) (q : RwPhase) → sleeps (upgrade_table.frees_act r q) ≡ true
    → sleeps (of_rw.act_of q) ≡ true
frees_same r (RwPhase.Stores a left) e = absurd cc
frees_same r (RwPhase.Finishes rest) e =
    absurd (both_ways _ (awake_either (upgrade_table.is_again r) Act.Load (Act.Done answer.Released) refl refl) e)
frees_same r q e = e

pub owes_same : (kept : Kept) (end : CoreAnswer) (q : RwPhase) → sleeps (upgrade_table.owes_act kept end q) ≡ true
    → sleeps (of_rw.act_of q) ≡ true
owes_same kept end (RwPhase.Scans a) e = absurd cc
owes_same kept end (RwPhase.Finishes rest) e = absurd cc
owes_same kept end q e = e

-- WHO SLEEPS IN TIME ASKS TO SLEEP

mutex_act : (p : MutexPhase) → is_sleeping p ≡ true → sleeps (of_mutex.act_of p) ≡ true
mutex_act MutexPhase.Sleeps e = refl
mutex_act p e = absurd cc

rw_act : (p : RwPhase) → rw_asleep p ≡ true → sleeps (of_rw.act_of p) ≡ true
rw_act (RwPhase.Sleeps want) e = refl
rw_act (RwPhase.DrainSleeps rounds) e = refl
rw_act p e = absurd cc

seeks_act : (p : RwPhase) → rw_asleep p ≡ true → sleeps (upgrade_table.seeks_act p) ≡ true
seeks_act (RwPhase.Sleeps want) e = refl
seeks_act (RwPhase.DrainSleeps rounds) e = refl
seeks_act p e = absurd cc

frees_act : (r : Release) (p : RwPhase) → rw_asleep p ≡ true → sleeps (upgrade_table.frees_act r p) ≡ true
frees_act r (RwPhase.Sleeps want) e = refl
frees_act r (RwPhase.DrainSleeps rounds) e = refl
frees_act r p e = absurd cc

owes_act : (kept : Kept) (end : CoreAnswer) (p : RwPhase) → rw_asleep p ≡ true
    → sleeps (upgrade_table.owes_act kept end p) ≡ true
owes_act kept end (RwPhase.Sleeps want) e = refl
owes_act kept end (RwPhase.DrainSleeps rounds) e = refl
owes_act kept end p e = absurd cc

upgrade_act : (p : UpgradePhase) → upgrade_asleep p ≡ true → sleeps (upgrade_table.act_of p) ≡ true
upgrade_act (UpgradePhase.Plain core) e = rw_act core.phase e
upgrade_act (UpgradePhase.Seeks core) e = seeks_act core.phase e
upgrade_act (UpgradePhase.Drains core) e = rw_act core.phase e
upgrade_act (UpgradePhase.Frees r core) e = frees_act r core.phase e
upgrade_act (UpgradePhase.Owes kept end core) e = owes_act kept end core.phase e
upgrade_act p e = absurd cc

pub asks_to_sleep : (k : Core) → sleeps_in_time k ≡ true → sleeps (core_act k) ≡ true
asks_to_sleep (Core.Mutex c) e = mutex_act c.phase e
asks_to_sleep (Core.Rw c) e = rw_act c.phase e
asks_to_sleep (Core.Upgrade c) e = upgrade_act c.phase e
asks_to_sleep k e = absurd cc

pub awake_in_time : (k : Core) → sleeps (core_act k) ≡ false → sleeps_in_time k ≡ false
awake_in_time k awake = by (sleeps_in_time k) refl
  where
    by : (b : Bool) → sleeps_in_time k ≡ b → b ≡ false
    by true e = absurd (false≢true (sym awake ∙ asks_to_sleep k e))
    by false e = refl

-- WHO ASKS TO SLEEP SLEEPS IN TIME, OR IS LATE

pub mutex_in_time : (p : MutexPhase) → sleeps (of_mutex.act_of p) ≡ true → is_sleeping p ≡ true
mutex_in_time MutexPhase.Sleeps e = refl
mutex_in_time (MutexPhase.Finishes giving) e =
    absurd (both_ways _ (awake_either giving.again Act.Load (Act.Done CoreAnswer.Released) refl refl) e)
mutex_in_time p e = absurd cc

pub rw_in_time : (p : RwPhase) → sleeps (of_rw.act_of p) ≡ true → rw_asleep p ≡ true
rw_in_time (RwPhase.Sleeps want) e = refl
rw_in_time (RwPhase.DrainSleeps rounds) e = refl
rw_in_time (RwPhase.Finishes rest.FreedShared) e = absurd cc
rw_in_time (RwPhase.Finishes rest.FreedExclusive) e = absurd cc
rw_in_time (RwPhase.Finishes rest.Downgraded) e = absurd cc
rw_in_time (RwPhase.Finishes rest.AgainShared) e = absurd cc
rw_in_time (RwPhase.Finishes rest.AgainExclusive) e = absurd cc
rw_in_time p e = absurd cc

pub upgrade_in_time : (p : UpgradePhase) → sleeps (upgrade_table.act_of p) ≡ true → upgrade_asleep p ≡ true
upgrade_in_time (UpgradePhase.Plain core) e = rw_in_time core.phase e
upgrade_in_time (UpgradePhase.Seeks core) e = rw_in_time core.phase (seeks_same core.phase e)
upgrade_in_time (UpgradePhase.Drains core) e = rw_in_time core.phase e
upgrade_in_time (UpgradePhase.Frees r core) e = rw_in_time core.phase (frees_same r core.phase e)
upgrade_in_time (UpgradePhase.Owes kept end core) e = rw_in_time core.phase (owes_same kept end core.phase e)
upgrade_in_time p e = absurd cc

pub late_asleep : (k : Core) → sleeps (core_act k) ≡ true → sleeps_in_time k ≡ false → (is_back k ≡ true)
    ⊎ (comes_late k ≡ true)
late_asleep (Core.Mutex c) e calm = absurd (both_ways _ calm (mutex_in_time c.phase e))
late_asleep (Core.Rw c) e calm = absurd (both_ways _ calm (rw_in_time c.phase e))
late_asleep (Core.Upgrade c) e calm = absurd (both_ways _ calm (upgrade_in_time c.phase e))
late_asleep (Core.Late LatePhase.Expires) e calm = inr refl
late_asleep (Core.Late LatePhase.Quits) e calm = inl refl
late_asleep (Core.LateRw (LateRwPhase.Expires k)) e calm = inr refl
late_asleep (Core.LateRw (LateRwPhase.Quits k)) e calm = inl refl
late_asleep k e calm = absurd cc
