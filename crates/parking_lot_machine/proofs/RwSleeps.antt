-- How a call at a reader-writer lock sleeps, and how it is woken.
use Rattle.std.proofs.Common.{◌≡◌, ℕ, ◌==◌, ◌⊎◌, inl, inr, cond, Bool, true, false, List, Some, refl, ap, ◌∙◌, subst}
use Rattle.parking_lot_core_model.specs.declared.parking.ParkToken.{ParkToken}
use Rattle.parking_lot_core_model.specs.declared.parking.UnparkToken.{UnparkToken}
use Rattle.parking_lot_core_model.specs.declared.place.Waiter.{Waiter}
use Rattle.parking_lot_rules.specs.Classes.{inside as inside_of}
use Rattle.parking_lot_rules.specs.Roles.{Asleep, Idle, Late, Open, Owned, Queued1, Queued2, Role, Shares, Stay, Taken1}
use Rattle.parking_lot_rules.specs.Roles.{Taken2}
use Rattle.parking_lot_rules.specs.Roles as rules
use Rattle.parking_lot_rules.specs.Steps.{Retry, OwnUpgradable, Recheck, Waking, waking_from, waking_to}
use Rattle.parking_lot_protocol.specs.RwRules as of_rw
use Rattle.parking_lot_protocol.specs.RwRules.{IsToken, Move, mode_by, mode_of}
use Rattle.parking_lot_protocol.specs.RwTable as rw_table
use Rattle.parking_lot_protocol.specs.declared.act.ActResult.{ActResult}
use Rattle.parking_lot_protocol.specs.declared.act.CoreAnswer.{CoreAnswer}
use Rattle.parking_lot_protocol.specs.declared.rw_phase.LockMode.{LockMode}
use Rattle.parking_lot_protocol.specs.declared.rw_phase.RwPhase.{RwPhase}
use Rattle.parking_lot_protocol_rw.specs.UpgradeRoles as of_upgrade
use Rattle.parking_lot_protocol_rw.specs.UpgradeRoles.{for_release, for_upgradable, for_upgrade}
use Rattle.parking_lot_protocol_rw.specs.UpgradeRules as upgrade_rules
use Rattle.parking_lot_protocol_rw.specs.declared.upgrade_phase.Hold.TheVariants as upgrade_hold
use Rattle.parking_lot_protocol_rw.specs.declared.upgrade_phase.UpgradePhase.{UpgradePhase}
use Rattle.parking_lot_machine_calls.specs.CallActs.{told_of}
use Rattle.parking_lot_machine.specs.RowFits.{rw_prepared, upgrade_prepared}
use Rattle.parking_lot_machine_calls.specs.CallRoles.{mark_of}
use Rattle.parking_lot_machine_calls.specs.Stances.{core_act, core_next, core_tells, has_begun, late_rw_act}
use Rattle.parking_lot_machine_calls.specs.Stances.{late_rw_stance, pending_from, sleeper_asleep, stance, taken_count}
use Rattle.parking_lot_machine_calls.specs.Stances as stances
use Rattle.parking_lot_machine_calls.specs.LateRoles.{stays}
use Rattle.parking_lot_machine_calls.specs.declared.late_rw.LateRwPhase.{LateRwPhase}
use Rattle.parking_lot_machine_calls.specs.declared.late_rw.RwSleeper.{RwSleeper}
use Rattle.parking_lot_machine_calls.specs.declared.seat.QueuePosition.{QueuePosition}
use Rattle.parking_lot_machine_calls.specs.declared.seat.WakeResult.{WakeResult}
use Rattle.parking_lot_machine.proofs.KindTable.{RwCall, Simple, Tardy, Upgradable, as_call, rw_call, rw_next}
use Rattle.parking_lot_machine_calls.proofs.Lying.{back_up, lies_so, found_up}
use Rattle.parking_lot_machine.proofs.RwCalls.{CallLearns, CallStands, CallTold, HasStood, TardyStands, call_role}

-- WHO SLEEPS

-- what a thread is that sleeps on the first key with a token, and one that sleeps on the second
pub record CallSleepsFirst (n : ℕ) (us : List ℕ) (k : RwCall) (park : ParkToken) : Type 0 where
  pub stay : Stay
  pub listed : call_role n QueuePosition.Listed us k ≡ record { owns = Shares 0; does = Queued1 (mode_by park) stay }
  pub off : (t : ℕ) (said : WakeResult) → call_role n (QueuePosition.Off t said) us k
      ≡ record { owns = Shares 0; does = Taken1 (mode_by park) t (mark_of said) stay }
  pub token : IsToken (Some park)

pub record CallSleepsSecond (n : ℕ) (us : List ℕ) (k : RwCall) : Type 0 where
  pub from : Bool
  pub stay : Stay
  pub listed : call_role n QueuePosition.Listed us k ≡ record { owns = Shares 0; does = Queued2 from stay }
  pub off : (t : ℕ) (said : WakeResult) → call_role n (QueuePosition.Off t said) us k
      ≡ record { owns = Shares 0; does = Taken2 from t stay }

abbrev pub CallSleeps : ℕ → List ℕ → RwCall → ℕ → ParkToken → Type 0
CallSleeps n us k key park = ((key ≡ 0) × CallSleepsFirst n us k park) ⊎ ((key ≡ 1) × CallSleepsSecond n us k)

simple_first : (n : ℕ) (us : List ℕ) (want : LockMode) → n ≡ 0
    → CallSleepsFirst n us (Simple (record { phase = RwPhase.Sleeps want })) (record { 0 = rw_table.share_of want })
simple_first n us (LockMode.Shared recursive) z = record {
  stay = Asleep;
  listed = ap (λ k. of_rw.role k of_rw.Listed us (RwPhase.Sleeps (LockMode.Shared recursive))) z;
  off = λ t said. ap (λ k. of_rw.role k (of_rw.Off t (mark_of said)) us (RwPhase.Sleeps (LockMode.Shared recursive))) z;
  token = inl refl;
}
simple_first n us LockMode.Exclusive z = record {
  stay = Asleep;
  listed = ap (λ k. of_rw.role k of_rw.Listed us (RwPhase.Sleeps LockMode.Exclusive)) z;
  off = λ t said. ap (λ k. of_rw.role k (of_rw.Off t (mark_of said)) us (RwPhase.Sleeps LockMode.Exclusive)) z;
  token = inr (inl refl);
}

simple_sleeps : (recursive : Bool) (n : ℕ) (us : List ℕ) (p : RwPhase) (key : ℕ) (park : ParkToken)
    → rw_prepared recursive n us p → stances.rw_stance p ≡ stances.Asleep key park
    → CallSleeps n us (Simple (record { phase = p })) key park
simple_sleeps recursive n us (RwPhase.Sleeps want) key park z e =
    let there : key ≡ 0 = cc in
    let token : record { 0 = rw_table.share_of want } ≡ park = cc in
    inl (
      there,
      subst (λ (t : ParkToken). CallSleepsFirst n us (Simple (record { phase = RwPhase.Sleeps want })) t)
          token (simple_first n us want z),
    )
simple_sleeps recursive n us (RwPhase.DrainSleeps rounds) key park z e =
    let there : key ≡ 1 = cc in
    inr (
      there,
      record {
        from = false;
        stay = Asleep;
        listed = ap (λ k. of_rw.role k of_rw.Listed us (RwPhase.DrainSleeps rounds)) z;
        off = λ t said. ap (λ k. of_rw.role k (of_rw.Off t (mark_of said)) us (RwPhase.DrainSleeps rounds)) z;
      },
    )
simple_sleeps recursive n us p key park z e = absurd cc

-- one that asks for the upgradable hold
abbrev seeks_call : RwPhase → RwCall
seeks_call q = Upgradable (record { phase = UpgradePhase.Seeks (record { phase = q }) })

abbrev drains_call : RwPhase → RwCall
drains_call q = Upgradable (record { phase = UpgradePhase.Drains (record { phase = q }) })

seeks_sleeps : (n : ℕ) (us : List ℕ) (q : RwPhase) (key : ℕ) (park : ParkToken) → upgrade_rules.IsSeeking q
    → stances.seeks_stance q ≡ stances.Asleep key park → CallSleeps n us (seeks_call q) key park
seeks_sleeps n us (RwPhase.Sleeps want) key park i e =
    let there : key ≡ 0 = cc in
    let token : record { 0 = 20 } ≡ park = cc in
    inl (
      there,
      subst (λ (t : ParkToken). CallSleepsFirst n us (seeks_call (RwPhase.Sleeps want)) t) token
          (record { stay = Asleep; listed = refl; off = λ t said. refl; token = inr (inr refl) }),
    )
seeks_sleeps n us (RwPhase.DrainSleeps rounds) key park i e = absurd i
seeks_sleeps n us q key park i e = absurd cc

drains_sleeps : (n : ℕ) (us : List ℕ) (q : RwPhase) (key : ℕ) (park : ParkToken) → upgrade_rules.IsDraining q
    → stances.rw_stance q ≡ stances.Asleep key park → CallSleeps n us (drains_call q) key park
drains_sleeps n us (RwPhase.DrainSleeps rounds) key park i e =
    let there : key ≡ 1 = cc in
    inr (there, record { from = true; stay = Asleep; listed = refl; off = λ t said. refl })
drains_sleeps n us (RwPhase.Sleeps want) key park i e = absurd i
drains_sleeps n us q key park i e = absurd cc

frees_awake : (q : RwPhase) (key : ℕ) (park : ParkToken) → upgrade_rules.IsFreeing q
    → stances.rw_stance q ≡ stances.Asleep key park → ⊥
frees_awake (RwPhase.Sleeps want) key park i e = i
frees_awake (RwPhase.DrainSleeps rounds) key park i e = i
frees_awake q key park i e = cc

owes_awake : (q : RwPhase) (key : ℕ) (park : ParkToken) → upgrade_rules.IsOwing q
    → stances.rw_stance q ≡ stances.Asleep key park → ⊥
owes_awake (RwPhase.Sleeps want) key park i e = i
owes_awake (RwPhase.DrainSleeps rounds) key park i e = i
owes_awake q key park i e = cc

upgrade_sleeps : (n : ℕ) (us : List ℕ) (p : UpgradePhase) (key : ℕ) (park : ParkToken) → upgrade_rules.IsReady p
    → upgrade_prepared us p → stances.upgrade_stance p ≡ stances.Asleep key park
    → CallSleeps n us (Upgradable (record { phase = p })) key park
upgrade_sleeps n us (UpgradePhase.Plain core) key park i m e = absurd m
upgrade_sleeps n us (UpgradePhase.Seeks core) key park i m e = seeks_sleeps n us core.phase key park i.0 e
upgrade_sleeps n us (UpgradePhase.Drains core) key park i m e = drains_sleeps n us core.phase key park i.0 e
upgrade_sleeps n us (UpgradePhase.Frees r core) key park i m e = absurd (frees_awake core.phase key park i e)
upgrade_sleeps n us (UpgradePhase.Owes kept end core) key park i m e = absurd (owes_awake core.phase key park i e)
upgrade_sleeps n us p key park i m e = absurd cc

-- one whose moment has passed sleeps as it did before
late_first : (n : ℕ) (us : List ℕ) (k : RwSleeper) (park : ParkToken) → CallSleepsFirst n us (as_call k) park
    → CallSleepsFirst n us (Tardy (LateRwPhase.Expires k)) park
late_first n us (RwSleeper.Simple k) park h =
    record {
      stay = Late;
      listed = ap (stays Late) h.listed;
      off = λ t said. ap (stays Late) (h.off t said);
      token = h.token;
    }
late_first n us (RwSleeper.Upgradable k) park h =
    record {
      stay = Late;
      listed = ap (stays Late) h.listed;
      off = λ t said. ap (stays Late) (h.off t said);
      token = h.token;
    }

late_second : (n : ℕ) (us : List ℕ) (k : RwSleeper) → CallSleepsSecond n us (as_call k)
    → CallSleepsSecond n us (Tardy (LateRwPhase.Expires k))
late_second n us (RwSleeper.Simple k) h =
    record {
      from = h.from;
      stay = Late;
      listed = ap (stays Late) h.listed;
      off = λ t said. ap (stays Late) (h.off t said);
    }
late_second n us (RwSleeper.Upgradable k) h =
    record {
      from = h.from;
      stay = Late;
      listed = ap (stays Late) h.listed;
      off = λ t said. ap (stays Late) (h.off t said);
    }

late_sleeps : (n : ℕ) (us : List ℕ) (k : RwSleeper) (key : ℕ) (park : ParkToken) → CallSleeps n us (as_call k) key park
    → CallSleeps n us (Tardy (LateRwPhase.Expires k)) key park
late_sleeps n us k key park (inl x) = inl (x.0, late_first n us k park x.1)
late_sleeps n us k key park (inr x) = inr (x.0, late_second n us k x.1)

slept_so : (recursive : Bool) (n : ℕ) (us : List ℕ) (k : RwSleeper) (key : ℕ) (park : ParkToken)
    → HasStood recursive n us k → stances.sleeper_stance k ≡ stances.Asleep key park
    → CallSleeps n us (as_call k) key park
slept_so recursive n us (RwSleeper.Simple k) key park h e = simple_sleeps recursive n us k.phase key park h.2.1 e
slept_so recursive n us (RwSleeper.Upgradable k) key park h e = upgrade_sleeps n us k.phase key park h.2.0 h.2.1 e

tardy_sleeps : (recursive : Bool) (n : ℕ) (us : List ℕ) (p : LateRwPhase) (key : ℕ) (park : ParkToken)
    → TardyStands recursive n us p → late_rw_stance p ≡ stances.Asleep key park → CallSleeps n us (Tardy p) key park
tardy_sleeps recursive n us (LateRwPhase.Expires k) key park h e =
    late_sleeps n us k key park (slept_so recursive n us k key park h (lies_so (stances.sleeper_stance k) key park e))
tardy_sleeps recursive n us (LateRwPhase.Quits k) key park h e = absurd (back_up (stances.sleeper_stance k) key park e)
tardy_sleeps recursive n us (LateRwPhase.WasTaken k by handed) key park h e =
    absurd (found_up (stances.sleeper_stance k) key park e)
tardy_sleeps recursive n us p key park h e = absurd cc

pub call_sleeps : (recursive : Bool) (n : ℕ) (us : List ℕ) (k : RwCall) (key : ℕ) (park : ParkToken)
    → CallStands recursive n us k → stance (rw_call k) ≡ stances.Asleep key park → CallSleeps n us k key park
call_sleeps recursive n us (Simple k) key park h e = simple_sleeps recursive n us k.phase key park h.1 e
call_sleeps recursive n us (Upgradable k) key park h e = upgrade_sleeps n us k.phase key park h.0 h.1 e
call_sleeps recursive n us (Tardy p) key park h e = tardy_sleeps recursive n us p key park h e

-- WHO IS WOKEN

-- A sleeper that was told so is what its waker is to wake, may be told that, and is what it goes on as then.
pub record CallWoken (m : ℕ) (t : ℕ) (ws : List ℕ) (k : RwCall) (x : ℕ) (token : UnparkToken) : Type 0 where
  pub how : Waking
  pub stay : Stay
  pub out : inside_of stay ≡ 0
  pub from : call_role m (QueuePosition.Off t (told_of token)) ws k ≡ waking_from how t stay
  pub to : call_role m QueuePosition.Listed ws (rw_next k (ActResult.Woken token)) ≡ waking_to how
  pub told : CallTold k x (ActResult.Woken token)
  pub learns : (f g : List Waiter) → CallLearns k (ActResult.Woken token) f g

before_wake : (want : LockMode) (t : ℕ) (b : Bool)
    → record {
      owns = Shares 0;
      does = Taken1 (mode_of want) t (mark_of (cond b WakeResult.HandedOver WakeResult.TryAgain)) Asleep;
    } ≡ waking_from
    (of_rw.waking want b) t Asleep
before_wake want t false = refl
before_wake (LockMode.Shared recursive) t true = refl
before_wake LockMode.Exclusive t true = refl

after_wake : (want : LockMode) (ws : List ℕ) (b : Bool)
    → of_rw.role 0 of_rw.Listed ws (cond b (rw_table.admits want true) (RwPhase.Loads (rw_table.begins want true)))
    ≡ waking_to (of_rw.waking want b)
after_wake want ws false = refl
after_wake (LockMode.Shared recursive) ws true = refl
after_wake LockMode.Exclusive ws true = refl

simple_woken : (recursive : Bool) (m t : ℕ) (ws : List ℕ) (p : RwPhase) (x : ℕ) (token : UnparkToken) (key : ℕ)
    (park : ParkToken) → rw_prepared recursive m ws p → stances.rw_stance p ≡ stances.Asleep key park
    → CallWoken m t ws (Simple (record { phase = p })) x token
simple_woken recursive m t ws (RwPhase.Sleeps want) x token key park z e = record {
  how = of_rw.waking want (token.0 == 1);
  stay = Asleep;
  out = refl;
  from = ap (λ y. of_rw.role y (of_rw.Off t (mark_of (told_of token))) ws (RwPhase.Sleeps want)) z
      ∙ before_wake want t (token.0 == 1);
  to = ap (λ y. of_rw.role y of_rw.Listed ws (rw_table.next_phase (RwPhase.Sleeps want) (ActResult.Woken token))) z
      ∙ after_wake want ws (token.0 == 1);
  told = tt;
  learns = λ f g. tt;
}
simple_woken recursive m t ws (RwPhase.DrainSleeps rounds) x token key park z e = record {
  how = Recheck false;
  stay = Asleep;
  out = refl;
  from = ap (λ y. of_rw.role y (of_rw.Off t (mark_of (told_of token))) ws (RwPhase.DrainSleeps rounds)) z;
  to = ap (λ y. of_rw.role y of_rw.Listed ws (rw_table.next_phase (RwPhase.DrainSleeps rounds) (ActResult.Woken token)))
      z;
  told = tt;
  learns = λ f g. tt;
}
simple_woken recursive m t ws p x token key park z e = absurd cc

seeks_from : (t : ℕ) (b : Bool)
    → record {
      owns = Shares 0;
      does = Taken1 rules.Upgradable t (mark_of (cond b WakeResult.HandedOver WakeResult.TryAgain)) Asleep;
    } ≡ waking_from
    (cond b OwnUpgradable (Retry rules.Upgradable)) t Asleep
seeks_from t true = refl
seeks_from t false = refl

seeks_to : (m : ℕ) (ws : List ℕ) (want : LockMode) (b : Bool)
    → of_upgrade.role m of_rw.Listed ws
    (cond b (UpgradePhase.Ends upgrade_hold.Upgradable CoreAnswer.Owned)
    (UpgradePhase.Seeks
    (record { phase = cond b (rw_table.admits want true) (RwPhase.Loads (rw_table.begins want true)) })))
    ≡ waking_to (cond b OwnUpgradable (Retry rules.Upgradable))
seeks_to m ws want true = refl
seeks_to m ws want false = refl

seeks_woken : (m t : ℕ) (ws : List ℕ) (q : RwPhase) (x : ℕ) (token : UnparkToken) (key : ℕ) (park : ParkToken)
    → upgrade_rules.IsSeeking q → stances.seeks_stance q ≡ stances.Asleep key park
    → CallWoken m t ws (seeks_call q) x token
seeks_woken m t ws (RwPhase.Sleeps want) x token key park i e =
    record {
      how = cond (token.0 == 1) OwnUpgradable (Retry rules.Upgradable);
      stay = Asleep;
      out = refl;
      from = seeks_from t (token.0 == 1);
      to = seeks_to m ws want (token.0 == 1);
      told = tt;
      learns = λ f g. tt;
    }
seeks_woken m t ws (RwPhase.DrainSleeps rounds) x token key park i e = absurd i
seeks_woken m t ws q x token key park i e = absurd cc

drains_woken : (m t : ℕ) (ws : List ℕ) (q : RwPhase) (x : ℕ) (token : UnparkToken) (key : ℕ) (park : ParkToken)
    → upgrade_rules.IsDraining q → stances.rw_stance q ≡ stances.Asleep key park
    → CallWoken m t ws (drains_call q) x token
drains_woken m t ws (RwPhase.DrainSleeps rounds) x token key park i e =
    record { how = Recheck true; stay = Asleep; out = refl; from = refl; to = refl; told = tt; learns = λ f g. tt }
drains_woken m t ws (RwPhase.Sleeps want) x token key park i e = absurd i
drains_woken m t ws q x token key park i e = absurd cc

upgrade_woken : (m t : ℕ) (ws : List ℕ) (p : UpgradePhase) (x : ℕ) (token : UnparkToken) (key : ℕ) (park : ParkToken)
    → upgrade_rules.IsReady p → upgrade_prepared ws p → stances.upgrade_stance p ≡ stances.Asleep key park
    → CallWoken m t ws (Upgradable (record { phase = p })) x token
upgrade_woken m t ws (UpgradePhase.Plain core) x token key park i o e = absurd o
upgrade_woken m t ws (UpgradePhase.Seeks core) x token key park i o e = seeks_woken m t ws core.phase x token key park
    i.0 e
upgrade_woken m t ws (UpgradePhase.Drains core) x token key park i o e = drains_woken m t ws core.phase x token key park
    i.0 e
upgrade_woken m t ws (UpgradePhase.Frees r core) x token key park i o e = absurd (frees_awake core.phase key park i e)
upgrade_woken m t ws (UpgradePhase.Owes kept end core) x token key park i o e =
    absurd (owes_awake core.phase key park i e)
upgrade_woken m t ws p x token key park i o e = absurd cc

-- one whose moment has passed goes on as it would have
late_waking : (how : Waking) (t : ℕ) (stay : Stay) → stays Late (waking_from how t stay) ≡ waking_from how t Late
late_waking (Retry mode) t stay = refl
late_waking OwnUpgradable t stay = refl
late_waking (Recheck from) t stay = refl
late_waking how t stay = refl

late_woken : (m t : ℕ) (ws : List ℕ) (k : RwSleeper) (x : ℕ) (token : UnparkToken)
    → CallWoken m t ws (as_call k) x token → CallWoken m t ws (Tardy (LateRwPhase.Expires k)) x token
late_woken m t ws (RwSleeper.Simple k) x token h =
    record {
      how = h.how;
      stay = Late;
      out = refl;
      from = ap (stays Late) h.from ∙ late_waking h.how t h.stay;
      to = h.to;
      told = tt;
      learns = λ f g. tt;
    }
late_woken m t ws (RwSleeper.Upgradable k) x token h =
    record {
      how = h.how;
      stay = Late;
      out = refl;
      from = ap (stays Late) h.from ∙ late_waking h.how t h.stay;
      to = h.to;
      told = tt;
      learns = λ f g. tt;
    }

woke_so : (recursive : Bool) (m t : ℕ) (ws : List ℕ) (k : RwSleeper) (x : ℕ) (token : UnparkToken) (key : ℕ)
    (park : ParkToken) → HasStood recursive m ws k → stances.sleeper_stance k ≡ stances.Asleep key park
    → CallWoken m t ws (as_call k) x token
woke_so recursive m t ws (RwSleeper.Simple k) x token key park h e = simple_woken recursive m t ws k.phase x token key
    park h.2.1 e
woke_so recursive m t ws (RwSleeper.Upgradable k) x token key park h e = upgrade_woken m t ws k.phase x token key park
    h.2.0 h.2.1 e

tardy_woken : (recursive : Bool) (m t : ℕ) (ws : List ℕ) (p : LateRwPhase) (x : ℕ) (token : UnparkToken) (key : ℕ)
    (park : ParkToken) → TardyStands recursive m ws p → late_rw_stance p ≡ stances.Asleep key park
    → CallWoken m t ws (Tardy p) x token
tardy_woken recursive m t ws (LateRwPhase.Expires k) x token key park h e =
    late_woken m t ws k x token
    (woke_so recursive m t ws k x token key park h (lies_so (stances.sleeper_stance k) key park e))
tardy_woken recursive m t ws (LateRwPhase.Quits k) x token key park h e =
    absurd (back_up (stances.sleeper_stance k) key park e)
tardy_woken recursive m t ws (LateRwPhase.WasTaken k by handed) x token key park h e =
    absurd (found_up (stances.sleeper_stance k) key park e)
tardy_woken recursive m t ws p x token key park h e = absurd cc

pub call_woken : (recursive : Bool) (m t : ℕ) (ws : List ℕ) (k : RwCall) (x : ℕ) (token : UnparkToken) (key : ℕ)
    (park : ParkToken) → CallStands recursive m ws k → stance (rw_call k) ≡ stances.Asleep key park
    → CallWoken m t ws k x token
call_woken recursive m t ws (Simple k) x token key park h e = simple_woken recursive m t ws k.phase x token key park h.1
    e
call_woken recursive m t ws (Upgradable k) x token key park h e = upgrade_woken m t ws k.phase x token key park h.0 h.1
    e
call_woken recursive m t ws (Tardy p) x token key park h e = tardy_woken recursive m t ws p x token key park h e
