-- A call at a reader-writer lock, of shared and exclusive holds or of the upgradable one: who is told by a store, where
-- it joins a list, and where it begins and ends.
use Rattle.std.proofs.Common.{◌≡◌, ℕ, ◌+◌, ◌*◌, ◌++◌, ◌∷◌, ◌⊎◌, inl, inr, Bool, true, false, List, [], Some}
use Rattle.std.proofs.Common.{None, slice_get, refl, sym, ap, ◌∙◌, subst}
use Rattle.parking_lot_core_model.specs.declared.parking.ParkToken.{ParkToken}
use Rattle.parking_lot_core_model.specs.declared.place.Waiter.{Waiter}
use Rattle.parking_lot_rules.specs.Lock.{Lock, IsSound, On1, to_wake}
use Rattle.parking_lot_rules.specs.Roles.{Idle, Open, Role, Shares}
use Rattle.parking_lot_rules.specs.Roles as rules
use Rattle.parking_lot_rules.specs.Steps.{Join1, Join2, List_changes, Listing, Scan, scanning, settle}
use Rattle.parking_lot_protocol.specs.RwRules as of_rw
use Rattle.parking_lot_protocol.specs.RwRules.{Move}
use Rattle.parking_lot_protocol.specs.RwTable as rw_table
use Rattle.parking_lot_protocol.specs.declared.act.Act.{Act}
use Rattle.parking_lot_protocol.specs.declared.act.ActResult.{ActResult}
use Rattle.parking_lot_protocol.specs.declared.act.CoreAnswer.{CoreAnswer}
use Rattle.parking_lot_protocol.specs.declared.rw_phase.RwPhase.{RwPhase}
use Rattle.parking_lot_protocol_rw.specs.UpgradeMoves as of_upgrade_moves
use Rattle.parking_lot_protocol_rw.specs.UpgradeRoles as of_upgrade
use Rattle.parking_lot_protocol_rw.specs.UpgradeRoles.{for_release, for_upgradable, for_upgrade, owned_in_release}
use Rattle.parking_lot_protocol_rw.specs.UpgradeRules as upgrade_rules
use Rattle.parking_lot_protocol_rw.specs.declared.upgrade_phase.Hold as kept_holds
use Rattle.parking_lot_protocol_rw.specs.declared.upgrade_phase.Hold.TheVariants as keeps_up
use Rattle.parking_lot_protocol_rw.specs.declared.upgrade_phase.UpgradePhase.{UpgradePhase}
use Rattle.parking_lot_protocol_rw.specs.UpgradeTable as upgrade_table
use Rattle.parking_lot_machine.specs.ActLaws.{OwnsFor}
use Rattle.parking_lot_machine_calls.specs.CallActs.{hold_after, kept_hold, settled_spot, upgrade_hold_after}
use Rattle.parking_lot_machine.specs.RowFits.{IsPrepared, KnowsList, rw_knows, rw_prepared, upgrade_begins}
use Rattle.parking_lot_machine.specs.RowFits.{upgrade_knows}
use Rattle.parking_lot_machine_calls.specs.CallRoles.{mark_of, owned_of, rw_spot}
use Rattle.parking_lot_machine.specs.RwLaws.{Finds, IsLastStep, IsStep, Learns, Meets, rw_begins, with_role}
use Rattle.parking_lot_machine_calls.specs.Stances.{In, Joins, core_act, has_begun, rw_begun, rw_stance, seeks_stance}
use Rattle.parking_lot_machine_calls.specs.Stances.{stance, upgrade_stance, late_rw_act}
use Rattle.parking_lot_machine.specs.UpgradeLaws.{upgrade_owned_after}
use Rattle.parking_lot_machine_calls.specs.declared.seat.Hold.{Hold}
use Rattle.parking_lot_machine_calls.specs.declared.seat.QueuePosition.{QueuePosition}
use Rattle.parking_lot_machine_calls.specs.declared.seat.WakeResult.{WakeResult}
use Rattle.parking_lot_machine.proofs.KindTable.{RwCall, Simple, Upgradable, rw_call, rw_next, Tardy}
use Rattle.parking_lot_machine.proofs.Making.{Entries}
use Rattle.parking_lot_machine.proofs.OwnMoves.{OwnMove}
use Rattle.parking_lot_machine.proofs.RwCalls.{CallLearns, CallMeets, CallStands, CallTold, as_simple, as_upgrade}
use Rattle.parking_lot_machine.proofs.RwCalls.{call_move, call_role}
use Rattle.parking_lot_machine.proofs.RwCrossing.{lists_are_known}
use Rattle.parking_lot_machine.proofs.RwKeeping.{calls_keep}
use Rattle.parking_lot_machine.proofs.RwMoving.{answers_are_moves, joins_are_steps}
use Rattle.parking_lot_machine.proofs.RwTaking.{answers_are_last, begins_are_ready, ends_are_steps}
use Rattle.parking_lot_machine.proofs.RwTelling.{draining_tells, freeing_tells, itself_tells, kept_so, seeking_tells}
use Rattle.parking_lot_machine.proofs.RwTelling.{stores_tell, told_so, stays_tell}
use Rattle.parking_lot_machine.proofs.UpgradeGoing.{upgrades_keep}
use Rattle.parking_lot_machine.proofs.UpgradeKeeping.{upgrades_end}
use Rattle.parking_lot_machine.proofs.UpgradeMoving.{upgrades_are_steps}
use Rattle.parking_lot_machine.proofs.UpgradeOwning.{upgrade_starts}
use Rattle.parking_lot_machine_calls.proofs.Lying.{tardy_joins}
use Rattle.parking_lot_machine_calls.specs.LateRoles.{late_rw_role, sleeper_role, staying, stays}
use Rattle.parking_lot_machine_calls.specs.declared.late_rw.LateRwPhase.{LateRwPhase}
use Rattle.parking_lot_machine_calls.specs.declared.late_rw.RwSleeper.{RwSleeper}

-- WHO IS TOLD BY A STORE

module _ (l : Lock) (t u n : ℕ) (at : QueuePosition) (us : List ℕ) (scan : Scan) (said : WakeResult) (h : IsSound l)
    (mine : slice_get l.roles t ≡ Some (scanning scan)) where
  upgrade_told_here : (p : UpgradePhase) → slice_get l.roles u ≡ Some (of_upgrade.role n (rw_spot at) us p)
      → of_upgrade.role n (rw_spot (settled_spot t said at)) us p ≡ settle (mark_of said)
      (of_upgrade.role n (rw_spot at) us p)
  upgrade_told_here (UpgradePhase.Plain core) there = told_so (λ d. d) itself_tells l t u (of_rw.owns n core.phase) at
      us core.phase scan said h mine there
  upgrade_told_here (UpgradePhase.Seeks core) there = told_so for_upgradable seeking_tells l t u (Shares 0) at us
      core.phase scan said h mine there
  upgrade_told_here (UpgradePhase.Drains core) there = told_so for_upgrade draining_tells l t u
      (of_rw.owns 0 core.phase) at us core.phase scan said h mine there
  upgrade_told_here (UpgradePhase.Frees r core) there = told_so for_release freeing_tells l t u
      (owned_in_release core.phase) at us core.phase scan said h mine there
  upgrade_told_here (UpgradePhase.Owes kept end core) there = told_so (λ d. d) itself_tells l t u
      (of_upgrade.owned kept) at us core.phase scan said h mine there
  upgrade_told_here p there = refl

  late_told : (stay : rules.Stay) (pos : QueuePosition) (p : UpgradePhase)
      → slice_get l.roles u ≡ Some (stays stay (of_upgrade.role n (rw_spot pos) us p))
      → stays stay (of_upgrade.role n (rw_spot (settled_spot t said pos)) us p) ≡ settle (mark_of said)
      (stays stay (of_upgrade.role n (rw_spot pos) us p))
  late_told stay pos (UpgradePhase.Plain core) there = told_so (staying stay) (stays_tell stay (λ d. d) itself_tells) l
      t u (of_rw.owns n core.phase) pos us core.phase scan said h mine there
  late_told stay pos (UpgradePhase.Seeks core) there = told_so (λ d. staying stay (for_upgradable d))
      (stays_tell stay for_upgradable seeking_tells) l t u (Shares 0) pos us core.phase scan said h mine there
  late_told stay pos (UpgradePhase.Drains core) there = told_so (λ d. staying stay (for_upgrade d))
      (stays_tell stay for_upgrade draining_tells) l t u (of_rw.owns 0 core.phase) pos us core.phase scan said h mine
      there
  late_told stay pos (UpgradePhase.Frees r core) there = told_so (λ d. staying stay (for_release d))
      (stays_tell stay for_release freeing_tells) l t u (owned_in_release core.phase) pos us core.phase scan said h mine
      there
  late_told stay pos (UpgradePhase.Owes kept end core) there =
      told_so (staying stay) (stays_tell stay (λ d. d) itself_tells) l t u (of_upgrade.owned kept) pos us core.phase
      scan said h mine there
  late_told stay pos p there = refl

  sleeper_told : (stay : rules.Stay) (pos : QueuePosition) (k : RwSleeper)
      → slice_get l.roles u ≡ Some (stays stay (sleeper_role n (rw_spot pos) us k))
      → stays stay (sleeper_role n (rw_spot (settled_spot t said pos)) us k) ≡ settle (mark_of said)
      (stays stay (sleeper_role n (rw_spot pos) us k))
  sleeper_told stay pos (RwSleeper.Simple c) there = told_so (staying stay) (stays_tell stay (λ d. d) itself_tells) l t
      u (of_rw.owns n c.phase) pos us c.phase scan said h mine there
  sleeper_told stay pos (RwSleeper.Upgradable c) there = late_told stay pos c.phase there

  tardy_told : (p : LateRwPhase) → slice_get l.roles u ≡ Some (late_rw_role n (rw_spot at) us p)
      → late_rw_role n (rw_spot (settled_spot t said at)) us p ≡ settle (mark_of said)
      (late_rw_role n (rw_spot at) us p)
  tardy_told (LateRwPhase.Expires k) there = sleeper_told rules.Late at k there
  tardy_told (LateRwPhase.Quits k) there = sleeper_told rules.Back QueuePosition.Listed k there
  tardy_told (LateRwPhase.WasTaken k by true) there =
      sleeper_told rules.Back (QueuePosition.Off by WakeResult.HandedOver) k there
  tardy_told (LateRwPhase.WasTaken k by false) there =
      sleeper_told rules.Back (QueuePosition.Off by WakeResult.TryAgain) k there
  tardy_told p there = refl

  pub call_told_here : (k : RwCall) → slice_get l.roles u ≡ Some (call_role n at us k)
      → call_role n (settled_spot t said at) us k ≡ settle (mark_of said) (call_role n at us k)
  call_told_here (Simple k) there = stores_tell.here l t u n at us k.phase scan said h mine there
  call_told_here (Upgradable k) there = upgrade_told_here k.phase there
  call_told_here (Tardy p) there = tardy_told p there

module _ (l : Lock) (t u n : ℕ) (at : QueuePosition) (us : List ℕ) (own : Role) (said : WakeResult) (h : IsSound l)
    (mine : slice_get l.roles t ≡ Some own) (none : to_wake own.does (On1 Open) ≡ []) where
  upgrade_kept_here : (p : UpgradePhase) → slice_get l.roles u ≡ Some (of_upgrade.role n (rw_spot at) us p)
      → of_upgrade.role n (rw_spot (settled_spot t said at)) us p ≡ of_upgrade.role n (rw_spot at) us p
  upgrade_kept_here (UpgradePhase.Plain core) there = kept_so (λ d. d) itself_tells l t u (of_rw.owns n core.phase) at
      us core.phase own said h mine none there
  upgrade_kept_here (UpgradePhase.Seeks core) there = kept_so for_upgradable seeking_tells l t u (Shares 0) at us
      core.phase own said h mine none there
  upgrade_kept_here (UpgradePhase.Drains core) there = kept_so for_upgrade draining_tells l t u
      (of_rw.owns 0 core.phase) at us core.phase own said h mine none there
  upgrade_kept_here (UpgradePhase.Frees r core) there = kept_so for_release freeing_tells l t u
      (owned_in_release core.phase) at us core.phase own said h mine none there
  upgrade_kept_here (UpgradePhase.Owes kept end core) there = kept_so (λ d. d) itself_tells l t u
      (of_upgrade.owned kept) at us core.phase own said h mine none there
  upgrade_kept_here p there = refl

  late_kept : (stay : rules.Stay) (pos : QueuePosition) (p : UpgradePhase)
      → slice_get l.roles u ≡ Some (stays stay (of_upgrade.role n (rw_spot pos) us p))
      → stays stay (of_upgrade.role n (rw_spot (settled_spot t said pos)) us p) ≡ stays stay
      (of_upgrade.role n (rw_spot pos) us p)
  late_kept stay pos (UpgradePhase.Plain core) there = kept_so (staying stay) (stays_tell stay (λ d. d) itself_tells) l
      t u (of_rw.owns n core.phase) pos us core.phase own said h mine none there
  late_kept stay pos (UpgradePhase.Seeks core) there = kept_so (λ d. staying stay (for_upgradable d))
      (stays_tell stay for_upgradable seeking_tells) l t u (Shares 0) pos us core.phase own said h mine none there
  late_kept stay pos (UpgradePhase.Drains core) there = kept_so (λ d. staying stay (for_upgrade d))
      (stays_tell stay for_upgrade draining_tells) l t u (of_rw.owns 0 core.phase) pos us core.phase own said h mine
      none there
  late_kept stay pos (UpgradePhase.Frees r core) there = kept_so (λ d. staying stay (for_release d))
      (stays_tell stay for_release freeing_tells) l t u (owned_in_release core.phase) pos us core.phase own said h mine
      none there
  late_kept stay pos (UpgradePhase.Owes kept end core) there =
      kept_so (staying stay) (stays_tell stay (λ d. d) itself_tells) l t u (of_upgrade.owned kept) pos us core.phase own
      said h mine none there
  late_kept stay pos p there = refl

  sleeper_kept : (stay : rules.Stay) (pos : QueuePosition) (k : RwSleeper)
      → slice_get l.roles u ≡ Some (stays stay (sleeper_role n (rw_spot pos) us k))
      → stays stay (sleeper_role n (rw_spot (settled_spot t said pos)) us k) ≡ stays stay
      (sleeper_role n (rw_spot pos) us k)
  sleeper_kept stay pos (RwSleeper.Simple c) there = kept_so (staying stay) (stays_tell stay (λ d. d) itself_tells) l t
      u (of_rw.owns n c.phase) pos us c.phase own said h mine none there
  sleeper_kept stay pos (RwSleeper.Upgradable c) there = late_kept stay pos c.phase there

  tardy_kept : (p : LateRwPhase) → slice_get l.roles u ≡ Some (late_rw_role n (rw_spot at) us p)
      → late_rw_role n (rw_spot (settled_spot t said at)) us p ≡ late_rw_role n (rw_spot at) us p
  tardy_kept (LateRwPhase.Expires k) there = sleeper_kept rules.Late at k there
  tardy_kept (LateRwPhase.Quits k) there = sleeper_kept rules.Back QueuePosition.Listed k there
  tardy_kept (LateRwPhase.WasTaken k by true) there = refl
  tardy_kept (LateRwPhase.WasTaken k by false) there = refl
  tardy_kept p there = refl

  pub call_kept_here : (k : RwCall) → slice_get l.roles u ≡ Some (call_role n at us k)
      → call_role n (settled_spot t said at) us k ≡ call_role n at us k
  call_kept_here (Simple k) there = stores_tell.elsewhere l t u n at us k.phase own said h mine none there
  call_kept_here (Upgradable k) there = upgrade_kept_here k.phase there
  call_kept_here (Tardy p) there = tardy_kept p there

-- WHERE IT JOINS A LIST

-- it joins the end of the lock's first list, or its second
abbrev pub JoinsAt : Bool → Lock → ℕ → ℕ → List ℕ → RwCall → ℕ → Listing → ℕ → Type 0
JoinsAt recursive l t n us k x list key =
    ((key ≡ 0) × IsStep recursive t (List_changes list) l
    (record (with_role l x t (call_role n QueuePosition.Listed us (rw_next k ActResult.Made)))
    { first = l.first ++ t ∷ [] }))
    ⊎ ((key ≡ 1) × IsStep recursive t (List_changes list) l
    (record (with_role l x t (call_role n QueuePosition.Listed us (rw_next k ActResult.Made)))
    { second = l.second ++ t ∷ [] }))

pub record CallJoins (recursive : Bool) (l : Lock) (t n : ℕ) (us : List ℕ) (k : RwCall) (x key : ℕ) : Type 0 where
  pub list : Listing
  pub move : call_move n us k ActResult.Made ≡ of_rw.Joins list
  pub told : CallTold k x ActResult.Made
  pub learns : (f g : List Waiter) → CallLearns k ActResult.Made f g
  pub step : JoinsAt recursive l t n us k x list key

simple_joins : (recursive : Bool) (l : Lock) (t n : ℕ) (at : QueuePosition) (us : List ℕ) (q : RwPhase) (x key : ℕ)
    (token : ParkToken) → Meets recursive l t n (rw_spot at) us q x → rw_stance q ≡ In key (Joins token)
    → CallJoins recursive l t n us (Simple (record { phase = q })) x key
simple_joins recursive l t n at us (RwPhase.Appends want) x key token h e =
    let nought : 0 ≡ key = cc in
    record {
      list = Join1 (of_rw.mode_of want);
      move = refl;
      told = tt;
      learns = λ f g. tt;
      step = inl (sym nought, joins_are_steps.first recursive l t n (rw_spot at) us want x h);
    }
simple_joins recursive l t n at us (RwPhase.DrainAppends rounds) x key token h e =
    let one : 1 ≡ key = cc in
    record {
      list = Join2 false;
      move = refl;
      told = tt;
      learns = λ f g. tt;
      step = inr (sym one, joins_are_steps.second recursive l t n (rw_spot at) us rounds x h);
    }
simple_joins recursive l t n at us q x key token h e = absurd cc

seeks_joins : (recursive : Bool) (l : Lock) (t n : ℕ) (at : QueuePosition) (us : List ℕ) (q : RwPhase) (x key : ℕ)
    (token : ParkToken)
    → CallMeets recursive l t n at us (Upgradable (record { phase = UpgradePhase.Seeks (record { phase = q }) })) x
    → seeks_stance q ≡ In key (Joins token)
    → CallJoins recursive l t n us (Upgradable (record { phase = UpgradePhase.Seeks (record { phase = q }) })) x key
seeks_joins recursive l t n at us (RwPhase.Appends want) x key token h e =
    let nought : 0 ≡ key = cc in
    let p : UpgradePhase = UpgradePhase.Seeks (record { phase = RwPhase.Appends want }) in
    record {
      list = Join1 rules.Upgradable;
      move = refl;
      told = tt;
      learns = λ f g. tt;
      step = inl (
        sym nought,
        (upgrades_are_steps recursive l t n (rw_spot at) us p x ActResult.Made
            (as_upgrade recursive l t n at us (record { phase = p }) x h) tt).0 tt,
      );
    }
seeks_joins recursive l t n at us (RwPhase.DrainAppends rounds) x key token h e = absurd h.stands.0.0
seeks_joins recursive l t n at us q x key token h e = absurd cc

drains_joins : (recursive : Bool) (l : Lock) (t n : ℕ) (at : QueuePosition) (us : List ℕ) (q : RwPhase) (x key : ℕ)
    (token : ParkToken)
    → CallMeets recursive l t n at us (Upgradable (record { phase = UpgradePhase.Drains (record { phase = q }) })) x
    → rw_stance q ≡ In key (Joins token)
    → CallJoins recursive l t n us (Upgradable (record { phase = UpgradePhase.Drains (record { phase = q }) })) x key
drains_joins recursive l t n at us (RwPhase.DrainAppends rounds) x key token h e =
    let one : 1 ≡ key = cc in
    let p : UpgradePhase = UpgradePhase.Drains (record { phase = RwPhase.DrainAppends rounds }) in
    record {
      list = Join2 true;
      move = refl;
      told = tt;
      learns = λ f g. tt;
      step = inr (
        sym one,
        (upgrades_are_steps recursive l t n (rw_spot at) us p x ActResult.Made
            (as_upgrade recursive l t n at us (record { phase = p }) x h) tt).0 tt,
      );
    }
drains_joins recursive l t n at us (RwPhase.Appends want) x key token h e = absurd h.stands.0.0
drains_joins recursive l t n at us q x key token h e = absurd cc

frees_no_join : (q : RwPhase) (key : ℕ) (token : ParkToken) → upgrade_rules.IsFreeing q
    → rw_stance q ≡ In key (Joins token) → ⊥
frees_no_join (RwPhase.Appends want) key token i e = i
frees_no_join (RwPhase.DrainAppends rounds) key token i e = i
frees_no_join q key token i e = cc

owes_no_join : (q : RwPhase) (key : ℕ) (token : ParkToken) → upgrade_rules.IsOwing q
    → rw_stance q ≡ In key (Joins token) → ⊥
owes_no_join (RwPhase.Appends want) key token i e = i
owes_no_join (RwPhase.DrainAppends rounds) key token i e = i
owes_no_join q key token i e = cc

upgrade_joins : (recursive : Bool) (l : Lock) (t n : ℕ) (at : QueuePosition) (us : List ℕ) (p : UpgradePhase)
    (x key : ℕ) (token : ParkToken) → CallMeets recursive l t n at us (Upgradable (record { phase = p })) x
    → upgrade_stance p ≡ In key (Joins token)
    → CallJoins recursive l t n us (Upgradable (record { phase = p })) x key
upgrade_joins recursive l t n at us (UpgradePhase.Plain core) x key token h e = absurd h.stands.1
upgrade_joins recursive l t n at us (UpgradePhase.Seeks core) x key token h e = seeks_joins recursive l t n at us
    core.phase x key token h e
upgrade_joins recursive l t n at us (UpgradePhase.Drains core) x key token h e = drains_joins recursive l t n at us
    core.phase x key token h e
upgrade_joins recursive l t n at us (UpgradePhase.Frees r core) x key token h e =
    absurd (frees_no_join core.phase key token h.stands.0 e)
upgrade_joins recursive l t n at us (UpgradePhase.Owes kept end core) x key token h e =
    absurd (owes_no_join core.phase key token h.stands.0 e)
upgrade_joins recursive l t n at us p x key token h e = absurd cc

pub call_joins : (recursive : Bool) (l : Lock) (t n : ℕ) (at : QueuePosition) (us : List ℕ) (k : RwCall) (x key : ℕ)
    (token : ParkToken) → CallMeets recursive l t n at us k x → stance (rw_call k) ≡ In key (Joins token)
    → CallJoins recursive l t n us k x key
call_joins recursive l t n at us (Simple k) x key token h e = simple_joins recursive l t n at us k.phase x key token
    (as_simple recursive l t n at us k x h) e
call_joins recursive l t n at us (Upgradable k) x key token h e = upgrade_joins recursive l t n at us k.phase x key
    token h e
call_joins recursive l t n at us (Tardy p) x key token h e = absurd (tardy_joins p key token e)

-- WHERE IT BEGINS

pub record CallStarts (recursive : Bool) (l : Lock) (t n : ℕ) (at : QueuePosition) (us : List ℕ) (k : RwCall) (x : ℕ)
    (hold : Hold) (o : Entries) : Type 0 where
  pub role : call_role n at us k ≡ record { owns = owned_of hold; does = Idle }
  pub stands : CallStands recursive n us k
  pub told : CallTold k x ActResult.Start
  pub own : OwnMove (call_move n us k ActResult.Start) t o o
  pub finds : Finds (core_act (rw_call k)) l
  pub begun : has_begun (rw_call k) ≡ false

-- What a phase in which a reader-writer call begins needs, finds and knows; and its start is a move of its own, or
-- none.
begin_rw : (recursive : Bool) (t n : ℕ) (us : List ℕ) (p : RwPhase) (l : Lock) (o : Entries) (f g : List Waiter)
    → rw_begun p ≡ false → rw_begins recursive n p
    → rw_prepared recursive n us p × Finds (rw_table.act_of p) l × OwnMove (of_rw.move n us p ActResult.Start) t o o
    × Learns p ActResult.Start f g × rw_knows p f g
begin_rw recursive t n us (RwPhase.Locking q) l o f g b h = (h, tt, (tt, λ i. refl), tt, tt)
begin_rw recursive t n us (RwPhase.Trying q) l o f g b h = (h, tt, (tt, λ i. refl), tt, tt)
begin_rw recursive t n us RwPhase.UnlockingShared l o f g b h = (tt, tt, (tt, λ i. refl), tt, tt)
begin_rw recursive t n us (RwPhase.UnlockingExclusive fair) l o f g b h = (tt, tt, (tt, λ i. refl), tt, tt)
begin_rw recursive t n us RwPhase.Downgrading l o f g b h = (tt, tt, (tt, λ i. refl), tt, tt)
begin_rw recursive t n us RwPhase.BumpingShared l o f g b h = (tt, tt, (tt, λ i. refl), tt, tt)
begin_rw recursive t n us RwPhase.BumpingExclusive l o f g b h = (tt, tt, (tt, λ i. refl), tt, tt)
begin_rw recursive t n us p l o f g b h = absurd h

begin_finds : (p : UpgradePhase) (l : Lock) → upgrade_begins p → Finds (upgrade_table.act_of p) l
begin_finds UpgradePhase.Locking l k = tt
begin_finds UpgradePhase.Trying l k = tt
begin_finds (UpgradePhase.Unlocking r) l k = tt
begin_finds UpgradePhase.Upgrading l k = tt
begin_finds UpgradePhase.TryingToUpgrade l k = tt
begin_finds UpgradePhase.DowngradingToShared l k = tt
begin_finds UpgradePhase.DowngradingToUpgradable l k = tt
begin_finds p l k = absurd k

begin_knows : (p : UpgradePhase) (f : List Waiter) → upgrade_begins p
    → upgrade_knows (upgrade_table.next_phase p ActResult.Start) f
begin_knows UpgradePhase.Locking f k = tt
begin_knows UpgradePhase.Trying f k = tt
begin_knows (UpgradePhase.Unlocking r) f k = tt
begin_knows UpgradePhase.Upgrading f k = tt
begin_knows UpgradePhase.TryingToUpgrade f k = tt
begin_knows UpgradePhase.DowngradingToShared f k = tt
begin_knows UpgradePhase.DowngradingToUpgradable f k = tt
begin_knows p f k = absurd k

pub call_starts : (recursive : Bool) (l : Lock) (t n : ℕ) (at : QueuePosition) (us : List ℕ) (k : RwCall) (x : ℕ)
    (hold : Hold) (o : Entries) → OwnsFor recursive hold n (rw_call k) → CallStarts recursive l t n at us k x hold o
call_starts recursive l t n at us (Simple k) x hold o owns =
    let ready = begins_are_ready n (rw_spot at) us k.phase x owns.0 in
    let well = begin_rw recursive t n us k.phase l o [] [] owns.0 owns.1 in
    record {
      role = ready.0 ∙ ap (λ w. record { owns = w; does = Idle }) (sym owns.2);
      stands = (ready.1, well.0);
      told = ready.2;
      own = well.2;
      finds = well.1;
      begun = owns.0;
    }
call_starts recursive l t n at us (Tardy p) x hold o owns = absurd owns
call_starts recursive l t n at us (Upgradable k) x hold o owns =
    let z = upgrade_starts t n (rw_spot at) us k.phase x o owns.1 in
    record {
      role = z.0 ∙ ap (λ w. record { owns = w; does = Idle }) (sym owns.3);
      stands = ((upgrades_keep.begins k.phase owns.1).0.1, z.2);
      told = z.1;
      own = z.3;
      finds = begin_finds k.phase l owns.1;
      begun = owns.0;
    }

-- where nobody has entered anything
nobody : Entries
nobody = record { bucket = λ key. key; lock = 0; entered = λ b. None }

pub call_started : (recursive : Bool) (l : Lock) (t n : ℕ) (at : QueuePosition) (us : List ℕ) (k : RwCall) (x : ℕ)
    (hold : Hold) (j : ℕ) (queues : ℕ → List Waiter) → OwnsFor recursive hold n (rw_call k)
    → CallMeets recursive l t n at us k x → CallTold k x ActResult.Start
    → IsPrepared recursive n (rw_call (rw_next k ActResult.Start)) × KnowsList (rw_call (rw_next k ActResult.Start))
    queues j
call_started recursive l t n at us (Simple k) x hold j queues owns h told =
    let well = begin_rw recursive t n us k.phase l nobody (queues (2 * j)) (queues (2 * j + 1)) owns.0 owns.1 in (
      (
        (answers_are_moves recursive l t n (rw_spot at) us k.phase x ActResult.Start
            (as_simple recursive l t n at us k x h) told).2.1,
        calls_keep.begins recursive n k.phase owns.1,
      ),
      lists_are_known.learns k.phase x ActResult.Start (queues (2 * j)) (queues (2 * j + 1)) (queues (2 * j))
          (queues (2 * j + 1)) told well.4 well.3,
    )
call_started recursive l t n at us (Tardy p) x hold j queues owns h told = absurd owns
call_started recursive l t n at us (Upgradable k) x hold j queues owns h told =
    let z = upgrades_keep.begins k.phase owns.1 in
    ((owns.2, z.1.1, z.1.0, z.2), begin_knows k.phase (queues (2 * j)) owns.1)

-- WHERE IT ENDS

abbrev pub call_last : ℕ → RwCall → Move
call_last n (Simple k) = of_rw.last_move n k.phase
call_last n (Upgradable k) = of_upgrade_moves.last_move n k.phase
call_last n (Tardy p) = of_rw.Stays

rw_last_own : (t n : ℕ) (p : RwPhase) (o : Entries) → OwnMove (of_rw.last_move n p) t o o
rw_last_own t n (RwPhase.Refuses q) o = (tt, λ b. refl)
rw_last_own t n p o = (tt, λ b. refl)

upgrade_last_own : (t n : ℕ) (p : UpgradePhase) (o : Entries) → OwnMove (of_upgrade_moves.last_move n p) t o o
upgrade_last_own t n (UpgradePhase.Plain core) o = rw_last_own t n core.phase o
upgrade_last_own t n p o = (tt, λ b. refl)

pub call_last_own : (t n : ℕ) (k : RwCall) (o : Entries) → OwnMove (call_last n k) t o o
call_last_own t n (Simple k) o = rw_last_own t n k.phase o
call_last_own t n (Upgradable k) o = upgrade_last_own t n k.phase o
call_last_own t n (Tardy p) o = (tt, λ b. refl)

kept_owned : (kept : kept_holds.Hold) → of_upgrade.owned kept ≡ owned_of (kept_hold kept)
kept_owned keeps_up.Nothing = refl
kept_owned keeps_up.Shared = refl
kept_owned keeps_up.Upgradable = refl
kept_owned keeps_up.Exclusive = refl

owned_so : (p : UpgradePhase) → upgrade_owned_after p ≡ owned_of (upgrade_hold_after p)
owned_so (UpgradePhase.Owes kept end core) = kept_owned kept
owned_so (UpgradePhase.Ends kept end) = kept_owned kept
owned_so p = refl

tardy_ends : (n : ℕ) (at : QueuePosition) (us : List ℕ) (p : LateRwPhase) (answer : CoreAnswer)
    → late_rw_act p ≡ Act.Done answer → record { owns = Shares 0; does = Idle } ≡ late_rw_role n (rw_spot at) us p
tardy_ends n at us LateRwPhase.GivesUp answer e = refl
tardy_ends n at us (LateRwPhase.Expires k) answer e = absurd cc
tardy_ends n at us (LateRwPhase.Quits k) answer e = absurd cc
tardy_ends n at us LateRwPhase.Masks answer e = absurd cc
tardy_ends n at us LateRwPhase.Leaves answer e = absurd cc
tardy_ends n at us (LateRwPhase.LeavesPending from) answer e = absurd cc
tardy_ends n at us (LateRwPhase.WasTaken k by handed) answer e = absurd cc

pub call_ends : (recursive : Bool) (l : Lock) (t n : ℕ) (at : QueuePosition) (us : List ℕ) (k : RwCall) (x : ℕ)
    (answer : CoreAnswer) → CallMeets recursive l t n at us k x → has_begun (rw_call k) ≡ true
    → core_act (rw_call k) ≡ Act.Done answer
    → IsLastStep recursive (call_last n k) l t (call_role n at us k) x
    (record { owns = owned_of (hold_after n (rw_call k)); does = Idle })
call_ends recursive l t n at us (Simple k) x answer h begun asked = ends_are_steps recursive l t n (rw_spot at) us
    k.phase x (as_simple recursive l t n at us k x h) (answers_are_last k.phase answer begun asked)
call_ends recursive l t n at us (Tardy p) x answer h begun asked = tardy_ends n at us p answer asked
call_ends recursive l t n at us (Upgradable k) x answer h begun asked =
    subst (λ w. IsLastStep recursive (of_upgrade_moves.last_move n k.phase) l t
    (of_upgrade.role n (rw_spot at) us k.phase) x (record { owns = w; does = Idle })) (owned_so k.phase)
    (upgrades_end recursive l t n (rw_spot at) us k.phase x answer (as_upgrade recursive l t n at us k x h) begun asked)
