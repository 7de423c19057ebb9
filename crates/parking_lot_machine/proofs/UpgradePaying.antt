-- Acts of an upgradable call lower the steps that are left of it.
use Rattle.std.proofs.Common.{◌≡◌, ◌≢◌, ◌≤◌, ◌<◌, ℕ, ◌+◌, ◌-◌, ◌/◌, ◌%◌, ◌^◌, ◌==◌, nat_lt, not, Bool, true, false}
use Rattle.std.proofs.Common.{cond, refl, sym, ap, subst, arith}
use Rattle.std.proofs.lemmas.Bool.{both_ways, eq-eqb, ne_eqb}
use Rattle.parking_lot_protocol.specs.Acts.{Gives, word_after}
use Rattle.parking_lot_protocol.specs.RwTable as rt
use Rattle.parking_lot_protocol.specs.declared.act.Act.{Act}
use Rattle.parking_lot_protocol.specs.declared.act.ActResult.{ActResult}
use Rattle.parking_lot_protocol.specs.declared.act.CoreAnswer.{CoreAnswer}
use Rattle.parking_lot_protocol.specs.declared.rw_phase.LockMode.{LockMode}
use Rattle.parking_lot_protocol.specs.declared.rw_phase.RwPhase.{RwPhase}
use Rattle.parking_lot_protocol.specs.declared.rw_phase.Seeking.{Seeking}
use Rattle.parking_lot_protocol_rw.specs.declared.upgrade_phase.Hold.{Hold}
use Rattle.parking_lot_protocol_rw.specs.declared.upgrade_phase.Release.{Release}
use Rattle.parking_lot_protocol_rw.specs.declared.upgrade_phase.UpgradePhase.{UpgradePhase}
use Rattle.parking_lot_protocol_rw.specs.UpgradeRules.{IsDraining, IsFreeing, IsOwing, IsReady, IsSeeking}
use Rattle.parking_lot_protocol.specs.RwRules as rw
use Rattle.parking_lot_protocol_rw.specs.UpgradeTable as ut
use Rattle.parking_lot_core_model.specs.declared.parking.UnparkToken.{UnparkToken}
use Rattle.parking_lot_protocol.specs.declared.act.SectionAct.TheVariants as section
use Rattle.parking_lot_machine_calls.specs.Stances.{rw_stance, rw_taken, seeks_stance, upgrade_stance}
use Rattle.parking_lot_machine_calls.specs.Stances.{upgrade_taken}
use Rattle.parking_lot_machine.specs.Ranks.{Sees, Shut, Unseen, View, comes_after, rw_steps, scan, wake}
use Rattle.parking_lot_machine.specs.RankLaws.{Can, Leaves, StopsAt}
use Rattle.parking_lot_machine.specs.UpgradeRanks.{UpgradeStepsFall}
use Rattle.parking_lot_machine_calls.specs.CallKinds.{IsOfWorld, seeks_room}
use Rattle.parking_lot_machine.specs.Ranks.{upgrade_steps}
use Rattle.parking_lot_machine.proofs.RwPaying.{end_costs, steps_fall}

-- one of two, where both are few
either : (b : Bool) (x y c : ℕ) → x ≤ c → y ≤ c → cond b x y ≤ c
either true x y c h k = h
either false x y c h k = k

least : (b : Bool) (x y c : ℕ) → c ≤ x → c ≤ y → c ≤ cond b x y
least true x y c h k = h
least false x y c h k = k

few_of : (n : ℕ) (v : View) (b : Bool) (p q : UpgradePhase) (c : ℕ) → upgrade_steps n v p ≤ c → upgrade_steps n v q ≤ c
    → upgrade_steps n v (cond b p q) ≤ c
few_of n v true p q c h k = h
few_of n v false p q c h k = k

-- an exchange from the word that is seen is won
at_seen : (word x y : ℕ) → cond (word == word) x y ≡ x
at_seen word x y = ap (λ b. cond b x y) (eq-eqb word word refl)

-- and from another it is lost
at_other : (word from x y : ℕ) → word ≢ from → cond (word == from) x y ≡ y
at_other word from x y ne = ap (λ b. cond b x y) (ne_eqb word from ne)

-- something comes after an admission
comes_some : (v : View) (want : LockMode) → 1 ≤ comes_after v want
comes_some v (LockMode.Shared recursive) = omega arith
comes_some v LockMode.Exclusive = omega arith

module _ (n word first after : ℕ) (shut : Shut) (room : word / 16 < 2 ^ 60 - 1) where
  abbrev Falls : Act → ActResult → UpgradePhase → ℕ → Type 0
  Falls a s p c = upgrade_steps n (Sees (word_after a s word) after shut) p + 1 ≤ c

  -- ASKING

  abbrev seeks_next : RwPhase → ActResult → UpgradePhase
  seeks_next q s = cond (ut.owns_now q s) (UpgradePhase.Ends Hold.Upgradable CoreAnswer.Owned)
      (UpgradePhase.Seeks (ut.core_at (rt.next_phase q s)))

  admits_fall : (a : Seeking) (from : ℕ) (s : ActResult) → rw.IsReady (RwPhase.Admits a from) → (b : Bool) → b ≡ true
      → Gives (cond b (Act.Exchange from ((from + 20) % 2 ^ 64)) Act.Load) word s
      → Leaves (cond b (Act.Exchange from ((from + 20) % 2 ^ 64)) Act.Load) s first after
      → Falls (cond b (Act.Exchange from ((from + 20) % 2 ^ 64)) Act.Load) s (seeks_next (RwPhase.Admits a from) s)
      (rw_steps n (Sees word first shut) (RwPhase.Admits a from))
  admits_fall a from ActResult.Exchanged ready true e g l =
      least (word == from) _ _ 2 (omega (arith, comes_some (Sees word first shut) a.want))
      (omega (arith, comes_some (Sees word first shut) a.want))
  admits_fall a from (ActResult.Word v) ready true e g l = steps_fall.falls n (RwPhase.Admits a from) (ActResult.Word v)
      word first after shut room ready g tt l
  admits_fall a from s ready false e g l = absurd (both_ways false refl e)
  admits_fall a from s ready true e g l = absurd g

  seeks_fall : (q : RwPhase) (s : ActResult) → IsSeeking q → rw.IsReady q → seeks_room q → Gives (ut.seeks_act q) word s
      → Can (seeks_stance q) (ut.seeks_act q) shut s → Leaves (ut.seeks_act q) s first after
      → Falls (ut.seeks_act q) s (seeks_next q s)
      (rw_steps n (Sees word first shut) q)
  seeks_fall (RwPhase.Admits a from) s i ready here g c l = admits_fall a from s ready (rt.has_room from) here g l
  seeks_fall (RwPhase.Loads a) (ActResult.Word v) i ready here g c l = steps_fall.falls n (RwPhase.Loads a)
      (ActResult.Word v) word first after shut room ready g c l
  seeks_fall (RwPhase.Spins a) (ActResult.Spun spun) i ready here g c l = steps_fall.falls n (RwPhase.Spins a)
      (ActResult.Spun spun) word first after shut room ready g c l
  seeks_fall (RwPhase.SetParked a from) ActResult.Exchanged i ready here g c l =
      steps_fall.falls n (RwPhase.SetParked a from) ActResult.Exchanged word first after shut room ready g c l
  seeks_fall (RwPhase.SetParked a from) (ActResult.Word v) i ready here g c l =
      steps_fall.falls n (RwPhase.SetParked a from) (ActResult.Word v) word first after shut room ready g c l
  seeks_fall (RwPhase.Enters want woken) ActResult.Entered i ready here g c l =
      steps_fall.falls n (RwPhase.Enters want woken) ActResult.Entered word first after shut room ready g c l
  seeks_fall (RwPhase.Checks want woken) (ActResult.Word v) i ready here g c l =
      steps_fall.falls n (RwPhase.Checks want woken) (ActResult.Word v) word first after shut room ready g c l
  seeks_fall (RwPhase.Retreats want woken) ActResult.Made i ready here g c l =
      steps_fall.falls n (RwPhase.Retreats want woken) ActResult.Made word first after shut room ready g c l
  seeks_fall (RwPhase.Appends want) ActResult.Made i ready here g c l = omega arith
  seeks_fall (RwPhase.Rests want) ActResult.Made i ready here g c l = omega arith
  seeks_fall (RwPhase.Sleeps want) s i ready here g c l = absurd c
  seeks_fall (RwPhase.Locking want) s i ready here g c l = absurd i
  seeks_fall (RwPhase.Trying want) s i ready here g c l = absurd i
  seeks_fall RwPhase.UnlockingShared s i ready here g c l = absurd i
  seeks_fall (RwPhase.UnlockingExclusive fair) s i ready here g c l = absurd i
  seeks_fall RwPhase.Downgrading s i ready here g c l = absurd i
  seeks_fall RwPhase.BumpingShared s i ready here g c l = absurd i
  seeks_fall RwPhase.BumpingExclusive s i ready here g c l = absurd i
  seeks_fall (RwPhase.DrainLoads d) s i ready here g c l = absurd i
  seeks_fall (RwPhase.DrainSpins d) s i ready here g c l = absurd i
  seeks_fall (RwPhase.DrainSetParked d from) s i ready here g c l = absurd i
  seeks_fall (RwPhase.DrainEnters d) s i ready here g c l = absurd i
  seeks_fall (RwPhase.DrainChecks d) s i ready here g c l = absurd i
  seeks_fall (RwPhase.DrainRetreats d) s i ready here g c l = absurd i
  seeks_fall (RwPhase.DrainAppends rounds) s i ready here g c l = absurd i
  seeks_fall (RwPhase.DrainRests rounds) s i ready here g c l = absurd i
  seeks_fall (RwPhase.DrainSleeps rounds) s i ready here g c l = absurd i
  seeks_fall (RwPhase.TryLoads want) s i ready here g c l = absurd i
  seeks_fall (RwPhase.TryAdmits want from left) s i ready here g c l = absurd i
  seeks_fall (RwPhase.Refuses want) s i ready here g c l = absurd i
  seeks_fall (RwPhase.BumpLoads want) s i ready here g c l = absurd i
  seeks_fall (RwPhase.Relocks want) s i ready here g c l = absurd i
  seeks_fall (RwPhase.Unshares rest) s i ready here g c l = absurd i
  seeks_fall (RwPhase.EnterWriterWakeSection rest) s i ready here g c l = absurd i
  seeks_fall (RwPhase.TakeWriter rest) s i ready here g c l = absurd i
  seeks_fall (RwPhase.ClearWriterParked rest has) s i ready here g c l = absurd i
  seeks_fall (RwPhase.LeaveWriterWakeSection rest has) s i ready here g c l = absurd i
  seeks_fall (RwPhase.Unlocks fair rest) s i ready here g c l = absurd i
  seeks_fall (RwPhase.LooksExclusive fair rest) s i ready here g c l = absurd i
  seeks_fall RwPhase.Downgrades s i ready here g c l = absurd i
  seeks_fall RwPhase.EnterWakeSection s i ready here g c l = absurd i
  seeks_fall (RwPhase.Scans a) s i ready here g c l = absurd i
  seeks_fall (RwPhase.Stores a left) s i ready here g c l = absurd i
  seeks_fall (RwPhase.Leaves rest count handed) s i ready here g c l = absurd i
  seeks_fall (RwPhase.Wakes rest count) s i ready here g c l = absurd i
  seeks_fall (RwPhase.Finishes rest) s i ready here g c l = absurd i
  seeks_fall (RwPhase.Ends outcome) s i ready here g c l = absurd i
  seeks_fall RwPhase.Invalid s i ready here g c l = absurd i
  seeks_fall q s i ready here g c l = absurd g

  -- IN THE SECTION OF A RELEASE

  abbrev frees_next : Release → RwPhase → ActResult → UpgradePhase
  frees_next r q s = cond (ut.asks_now r q s) UpgradePhase.Relocks
      (UpgradePhase.Frees r (ut.core_at (rt.next_phase q s)))

  finish_falls : (s : ActResult) (b : Bool) → b ≡ false → Gives (cond b Act.Load (Act.Done CoreAnswer.Released)) word s
      → ⊥
  finish_falls s false e g = absurd g
  finish_falls s true e g = absurd (both_ways true e refl)

  frees_fall : (r : Release) (q : RwPhase) (s : ActResult) → IsFreeing q → ut.is_again r ≡ false
      → Gives (ut.frees_act r q) word s → Can (rw_stance q) (ut.frees_act r q) shut s
      → Leaves (ut.frees_act r q) s first after
      → Falls (ut.frees_act r q) s (frees_next r q s) (rw_steps n (Sees word first shut) q)
  frees_fall r (RwPhase.LooksExclusive fair rest) ActResult.Entered i once g c l =
      steps_fall.falls n (RwPhase.LooksExclusive fair rest) ActResult.Entered word first after shut room
      (ap rw.gives_exclusive i) g c l
  frees_fall r (RwPhase.Scans a) (ActResult.Took token left) i once g c l = steps_fall.falls n (RwPhase.Scans a)
      (ActResult.Took token left) word first after shut room (ap rw.gives_shared i) g c l
  frees_fall r (RwPhase.Stores a left) (ActResult.Stored fair) i once g c l = omega arith
  frees_fall r (RwPhase.Leaves rest count handed) ActResult.Made i once g c l =
      steps_fall.falls n (RwPhase.Leaves rest count handed) ActResult.Made word first after shut room tt g c l
  frees_fall r (RwPhase.Wakes rest count) s i once g c l = absurd c
  frees_fall r (RwPhase.Finishes rest) s i once g c l = absurd (finish_falls s (ut.is_again r) once g)
  frees_fall r (RwPhase.Locking want) s i once g c l = absurd i
  frees_fall r (RwPhase.Trying want) s i once g c l = absurd i
  frees_fall r RwPhase.UnlockingShared s i once g c l = absurd i
  frees_fall r (RwPhase.UnlockingExclusive fair) s i once g c l = absurd i
  frees_fall r RwPhase.Downgrading s i once g c l = absurd i
  frees_fall r RwPhase.BumpingShared s i once g c l = absurd i
  frees_fall r RwPhase.BumpingExclusive s i once g c l = absurd i
  frees_fall r (RwPhase.Loads a) s i once g c l = absurd i
  frees_fall r (RwPhase.Admits a from) s i once g c l = absurd i
  frees_fall r (RwPhase.Spins a) s i once g c l = absurd i
  frees_fall r (RwPhase.SetParked a from) s i once g c l = absurd i
  frees_fall r (RwPhase.Enters want woken) s i once g c l = absurd i
  frees_fall r (RwPhase.Checks want woken) s i once g c l = absurd i
  frees_fall r (RwPhase.Retreats want woken) s i once g c l = absurd i
  frees_fall r (RwPhase.Appends want) s i once g c l = absurd i
  frees_fall r (RwPhase.Rests want) s i once g c l = absurd i
  frees_fall r (RwPhase.Sleeps want) s i once g c l = absurd i
  frees_fall r (RwPhase.DrainLoads d) s i once g c l = absurd i
  frees_fall r (RwPhase.DrainSpins d) s i once g c l = absurd i
  frees_fall r (RwPhase.DrainSetParked d from) s i once g c l = absurd i
  frees_fall r (RwPhase.DrainEnters d) s i once g c l = absurd i
  frees_fall r (RwPhase.DrainChecks d) s i once g c l = absurd i
  frees_fall r (RwPhase.DrainRetreats d) s i once g c l = absurd i
  frees_fall r (RwPhase.DrainAppends rounds) s i once g c l = absurd i
  frees_fall r (RwPhase.DrainRests rounds) s i once g c l = absurd i
  frees_fall r (RwPhase.DrainSleeps rounds) s i once g c l = absurd i
  frees_fall r (RwPhase.TryLoads want) s i once g c l = absurd i
  frees_fall r (RwPhase.TryAdmits want from left) s i once g c l = absurd i
  frees_fall r (RwPhase.Refuses want) s i once g c l = absurd i
  frees_fall r (RwPhase.BumpLoads want) s i once g c l = absurd i
  frees_fall r (RwPhase.Relocks want) s i once g c l = absurd i
  frees_fall r (RwPhase.Unshares rest) s i once g c l = absurd i
  frees_fall r (RwPhase.EnterWriterWakeSection rest) s i once g c l = absurd i
  frees_fall r (RwPhase.TakeWriter rest) s i once g c l = absurd i
  frees_fall r (RwPhase.ClearWriterParked rest has) s i once g c l = absurd i
  frees_fall r (RwPhase.LeaveWriterWakeSection rest has) s i once g c l = absurd i
  frees_fall r (RwPhase.Unlocks fair rest) s i once g c l = absurd i
  frees_fall r RwPhase.Downgrades s i once g c l = absurd i
  frees_fall r RwPhase.EnterWakeSection s i once g c l = absurd i
  frees_fall r (RwPhase.Ends outcome) s i once g c l = absurd i
  frees_fall r RwPhase.Invalid s i once g c l = absurd i
  frees_fall r q s i once g c l = absurd g

  -- OWING A LOOK

  owes_fall : (hold : Hold) (end : CoreAnswer) (q : RwPhase) (s : ActResult) → IsOwing q
      → Gives (ut.owes_act hold end q) word s → Can (rw_stance q) (ut.owes_act hold end q) shut s
      → Leaves (ut.owes_act hold end q) s first after
      → Falls (ut.owes_act hold end q) s (UpgradePhase.Owes hold end (ut.core_at (rt.next_phase q s)))
      (rw_steps n (Sees word first shut) q)
  owes_fall hold end RwPhase.EnterWakeSection ActResult.Entered i g c l = steps_fall.falls n RwPhase.EnterWakeSection
      ActResult.Entered word first after shut room tt g c l
  owes_fall hold end (RwPhase.Scans a) (ActResult.Took token left) i g c l = steps_fall.falls n (RwPhase.Scans a)
      (ActResult.Took token left) word first after shut room (ap rw.gives_shared i) tt c l
  owes_fall hold end (RwPhase.Stores a left) (ActResult.Stored fair) i g c l = omega arith
  owes_fall hold end (RwPhase.Leaves rest count handed) ActResult.Made i g c l =
      steps_fall.falls n (RwPhase.Leaves rest count handed) ActResult.Made word first after shut room tt g c l
  owes_fall hold end (RwPhase.Wakes rest count) s i g c l = absurd c
  owes_fall hold end (RwPhase.Finishes rest) s i g c l = absurd g
  owes_fall hold end (RwPhase.Locking want) s i g c l = absurd i
  owes_fall hold end (RwPhase.Trying want) s i g c l = absurd i
  owes_fall hold end RwPhase.UnlockingShared s i g c l = absurd i
  owes_fall hold end (RwPhase.UnlockingExclusive fair) s i g c l = absurd i
  owes_fall hold end RwPhase.Downgrading s i g c l = absurd i
  owes_fall hold end RwPhase.BumpingShared s i g c l = absurd i
  owes_fall hold end RwPhase.BumpingExclusive s i g c l = absurd i
  owes_fall hold end (RwPhase.Loads a) s i g c l = absurd i
  owes_fall hold end (RwPhase.Admits a from) s i g c l = absurd i
  owes_fall hold end (RwPhase.Spins a) s i g c l = absurd i
  owes_fall hold end (RwPhase.SetParked a from) s i g c l = absurd i
  owes_fall hold end (RwPhase.Enters want woken) s i g c l = absurd i
  owes_fall hold end (RwPhase.Checks want woken) s i g c l = absurd i
  owes_fall hold end (RwPhase.Retreats want woken) s i g c l = absurd i
  owes_fall hold end (RwPhase.Appends want) s i g c l = absurd i
  owes_fall hold end (RwPhase.Rests want) s i g c l = absurd i
  owes_fall hold end (RwPhase.Sleeps want) s i g c l = absurd i
  owes_fall hold end (RwPhase.DrainLoads d) s i g c l = absurd i
  owes_fall hold end (RwPhase.DrainSpins d) s i g c l = absurd i
  owes_fall hold end (RwPhase.DrainSetParked d from) s i g c l = absurd i
  owes_fall hold end (RwPhase.DrainEnters d) s i g c l = absurd i
  owes_fall hold end (RwPhase.DrainChecks d) s i g c l = absurd i
  owes_fall hold end (RwPhase.DrainRetreats d) s i g c l = absurd i
  owes_fall hold end (RwPhase.DrainAppends rounds) s i g c l = absurd i
  owes_fall hold end (RwPhase.DrainRests rounds) s i g c l = absurd i
  owes_fall hold end (RwPhase.DrainSleeps rounds) s i g c l = absurd i
  owes_fall hold end (RwPhase.TryLoads want) s i g c l = absurd i
  owes_fall hold end (RwPhase.TryAdmits want from left) s i g c l = absurd i
  owes_fall hold end (RwPhase.Refuses want) s i g c l = absurd i
  owes_fall hold end (RwPhase.BumpLoads want) s i g c l = absurd i
  owes_fall hold end (RwPhase.Relocks want) s i g c l = absurd i
  owes_fall hold end (RwPhase.Unshares rest) s i g c l = absurd i
  owes_fall hold end (RwPhase.EnterWriterWakeSection rest) s i g c l = absurd i
  owes_fall hold end (RwPhase.TakeWriter rest) s i g c l = absurd i
  owes_fall hold end (RwPhase.ClearWriterParked rest has) s i g c l = absurd i
  owes_fall hold end (RwPhase.LeaveWriterWakeSection rest has) s i g c l = absurd i
  owes_fall hold end (RwPhase.Unlocks fair rest) s i g c l = absurd i
  owes_fall hold end (RwPhase.LooksExclusive fair rest) s i g c l = absurd i
  owes_fall hold end RwPhase.Downgrades s i g c l = absurd i
  owes_fall hold end (RwPhase.Ends outcome) s i g c l = absurd i
  owes_fall hold end RwPhase.Invalid s i g c l = absurd i
  owes_fall hold end q s i g c l = absurd g

  -- BY ITSELF

  tries_few : (left : ℕ) → upgrade_steps n (Sees word after shut) (ut.tries left word) ≤ 2
  tries_few left = few_of n (Sees word after shut) (ut.is_open word) _ _ 2 (omega (arith, at_seen word 2 3))
      (omega arith)

  upgrades_few : (left : ℕ) → upgrade_steps n (Sees word after shut) (ut.tries_upgrade left word) ≤ 2
  upgrades_few left = few_of n (Sees word after shut) (ut.is_alone word) _ _ 2 (omega (arith, at_seen word 2 3))
      (omega arith)

  retries_few : (left : ℕ) → upgrade_steps n (Sees word after shut) (ut.retries left word) ≤ 2
  retries_few left = few_of n (Sees word after shut) (nat_lt 0 left) _ _ 2 (tries_few (left - 1)) (omega arith)

  upgrades_again : (left : ℕ) → upgrade_steps n (Sees word after shut) (ut.retries_upgrade left word) ≤ 2
  upgrades_again left = few_of n (Sees word after shut) (nat_lt 0 left) _ _ 2 (upgrades_few (left - 1)) (omega arith)

  unlocks_few : (r : Release) → upgrade_steps n (Sees word after shut) (ut.unlocks r word) ≤ scan n
      (Sees word after shut) + 7
  unlocks_few r = few_of n (Sees word after shut) (rt.is_parked word) _ _ _ (omega arith)
      (omega (arith, at_seen word 2 (scan n (Sees word after shut) + 8)))

  owes_few : (hold : Hold) (end : CoreAnswer) (w : ℕ) (v : View) → upgrade_steps n v (ut.owes hold end w) ≤ scan n v + 6
  owes_few hold end w v = few_of n v (rt.is_parked w) _ _ _ (omega arith) (omega arith)

  falls : (p : UpgradePhase) (s : ActResult) → IsReady p → IsOfWorld p → Gives (ut.act_of p) word s
      → Can (upgrade_stance p) (ut.act_of p) shut s → Leaves (ut.act_of p) s first after
      → Falls (ut.act_of p) s (ut.next_phase p s)
      (upgrade_steps n (Sees word first shut) p)
  falls (UpgradePhase.Plain core) s i k g c l = absurd k
  falls (UpgradePhase.Seeks core) s i k g c l = seeks_fall core.phase s i.0 i.1 k g c l
  falls (UpgradePhase.Drains core) s i k g c l = steps_fall.falls n core.phase s word first after shut room i.1 g c l
  falls (UpgradePhase.Frees r core) s i k g c l = frees_fall r core.phase s i k g c l
  falls (UpgradePhase.Owes hold end core) s i k g c l = owes_fall hold end core.phase s i g c l
  falls UpgradePhase.TryLoads (ActResult.Word w) i k g c l =
      subst (λ y. upgrade_steps n (Sees word after shut) (ut.tries 63 y) + 1 ≤ 3) (sym g) (omega (arith, tries_few 63))
  falls (UpgradePhase.TryAdmits from left) ActResult.Exchanged i k g c l = least (word == from) 2 3 2 (omega arith)
      (omega arith)
  falls (UpgradePhase.TryAdmits from left) (ActResult.Word w) i k g c l =
      subst (λ y. upgrade_steps n (Sees word after shut) (ut.retries left y) + 1 ≤ cond (word == from) 2 3) (sym g.0)
      (omega (arith, retries_few left, at_other word from 2 3 g.1))
  falls UpgradePhase.Upgrades (ActResult.Before w) i k g c l = omega arith
  falls UpgradePhase.TryUpgradeLoads (ActResult.Word w) i k g c l =
      subst (λ y. upgrade_steps n (Sees word after shut) (ut.tries_upgrade 63 y) + 1 ≤ 3) (sym g)
      (omega (arith, upgrades_few 63))
  falls (UpgradePhase.TryUpgrades from left) ActResult.Exchanged i k g c l = least (word == from) 2 3 2 (omega arith)
      (omega arith)
  falls (UpgradePhase.TryUpgrades from left) (ActResult.Word w) i k g c l =
      subst (λ y. upgrade_steps n (Sees word after shut) (ut.retries_upgrade left y) + 1 ≤ cond (word == from) 2 3)
      (sym g.0) (omega (arith, upgrades_again left, at_other word from 2 3 g.1))
  falls UpgradePhase.BumpLoads s i k g c l = absurd k
  falls UpgradePhase.Relocks s i k g c l = absurd k
  falls (UpgradePhase.UnlockLoads r) (ActResult.Word w) i k g c l =
      subst (λ y. upgrade_steps n (Sees word after shut) (ut.unlocks r y) + 1 ≤ scan n (Sees word first shut) + 8)
      (sym g) (subst (λ f. upgrade_steps n (Sees word after shut) (ut.unlocks r word) + 1 ≤ scan n
      (Sees word f shut) + 8) l (omega (arith, unlocks_few r)))
  falls (UpgradePhase.Unlocks r from) ActResult.Exchanged i k g c l = over_falls (ut.is_again r) k
    where
      over_falls : (b : Bool) → b ≡ false
          → upgrade_steps n
          (Sees (word_after (Act.Exchange from ((from + (2 ^ 64 - 20)) % 2 ^ 64)) ActResult.Exchanged word) after shut)
          (cond b UpgradePhase.Relocks (UpgradePhase.Ends Hold.Nothing CoreAnswer.Released)) + 1 ≤ cond (word == from) 2
          (scan n (Sees word first shut) + 8)
      over_falls false e = least (word == from) _ _ 2 (omega arith) (omega arith)
      over_falls true e = absurd (both_ways true e refl)
  falls (UpgradePhase.Unlocks r from) (ActResult.Word w) i k g c l =
      subst (λ y. upgrade_steps n (Sees word after shut) (ut.unlocks r y) + 1 ≤ cond (word == from) 2
      (scan n (Sees word first shut) + 8)) (sym g.0)
      (subst (λ f. upgrade_steps n (Sees word after shut) (ut.unlocks r word) + 1 ≤ cond (word == from) 2
      (scan n (Sees word f shut) + 8)) l
      (omega (arith, unlocks_few r, at_other word from 2 (scan n (Sees word after shut) + 8) g.1)))
  falls UpgradePhase.ToShared (ActResult.Before w) i k g c l = turned Hold.Shared _ w l
    where
      turned : (hold : Hold) (y w : ℕ) → after ≡ first → upgrade_steps n (Sees y after shut)
          (ut.owes hold CoreAnswer.Owned w) + 1 ≤ scan n (Sees word first shut) + 7
      turned hold y w same =
          subst (λ f. upgrade_steps n (Sees y after shut) (ut.owes hold CoreAnswer.Owned w) + 1 ≤ scan n
          (Sees word f shut) + 7) same (omega (arith, owes_few hold CoreAnswer.Owned w (Sees y after shut)))
  falls UpgradePhase.ToUpgradable (ActResult.Before w) i k g c l = turned Hold.Upgradable _ w l
    where
      turned : (hold : Hold) (y w : ℕ) → after ≡ first → upgrade_steps n (Sees y after shut)
          (ut.owes hold CoreAnswer.Owned w) + 1 ≤ scan n (Sees word first shut) + 7
      turned hold y w same =
          subst (λ f. upgrade_steps n (Sees y after shut) (ut.owes hold CoreAnswer.Owned w) + 1 ≤ scan n
          (Sees word f shut) + 7) same (omega (arith, owes_few hold CoreAnswer.Owned w (Sees y after shut)))
  falls (UpgradePhase.YieldLoads from) (ActResult.Word w) i k g c l =
      subst (λ y. upgrade_steps n (Sees word after shut) (UpgradePhase.Yields from y) + 1 ≤ scan n
      (Sees word first shut) + 9) (sym g)
      (subst (λ f. upgrade_steps n (Sees word after shut) (UpgradePhase.Yields from word) + 1 ≤ scan n
      (Sees word f shut) + 9) l
      (omega (arith, at_seen word (scan n (Sees word after shut) + 7) (scan n (Sees word after shut) + 8))))
  falls (UpgradePhase.Yields from tried) ActResult.Exchanged i k g c l =
      subst (λ f. upgrade_steps n
      (Sees (word_after (ut.act_of (UpgradePhase.Yields from tried)) ActResult.Exchanged word) after shut)
      (ut.owes (ut.held_before from) CoreAnswer.Released tried) + 1 ≤ cond (word == tried)
      (scan n (Sees word f shut) + 7) (scan n (Sees word f shut) + 8)) l
      (least (word == tried) _ _ _
      (omega (
        arith,
        owes_few (ut.held_before from) CoreAnswer.Released tried
            (Sees (word_after (ut.act_of (UpgradePhase.Yields from tried)) ActResult.Exchanged word) after shut),
      ))
      (omega (
        arith,
        owes_few (ut.held_before from) CoreAnswer.Released tried
            (Sees (word_after (ut.act_of (UpgradePhase.Yields from tried)) ActResult.Exchanged word) after shut),
      )))
  falls (UpgradePhase.Yields from tried) (ActResult.Word w) i k g c l =
      subst (λ y. upgrade_steps n (Sees word after shut) (UpgradePhase.Yields from y) + 1 ≤ cond (word == tried)
      (scan n (Sees word first shut) + 7) (scan n (Sees word first shut) + 8)) (sym g.0)
      (subst (λ f. upgrade_steps n (Sees word after shut) (UpgradePhase.Yields from word) + 1 ≤ cond (word == tried)
      (scan n (Sees word f shut) + 7) (scan n (Sees word f shut) + 8)) l
      (omega (
        arith,
        at_seen word (scan n (Sees word after shut) + 7) (scan n (Sees word after shut) + 8),
        at_other word tried (scan n (Sees word after shut) + 7) (scan n (Sees word after shut) + 8) g.1,
      )))
  falls p s i k g c l = absurd g

-- WHAT OTHERS SEE

frees_wakes : (n : ℕ) (r : Release) (q : RwPhase) (v : View) → ut.frees_act r q ≡ Act.Section section.Wake
    → 1 ≤ rw_taken q → upgrade_steps n v (ut.next_phase (UpgradePhase.Frees r (record { phase = q })) ActResult.Made) +
    wake ≤ rw_steps n v q
frees_wakes n r (RwPhase.Wakes rest count) v e some = steps_fall.wakes n (RwPhase.Wakes rest count) v refl some
frees_wakes n r (RwPhase.Finishes rest) v e some = absurd (omega (arith, some))
frees_wakes n r q v e some = absurd cc

owes_wakes : (n : ℕ) (kept : Hold) (end : CoreAnswer) (q : RwPhase) (v : View)
    → ut.owes_act kept end q ≡ Act.Section section.Wake → 1 ≤ rw_taken q
    → upgrade_steps n v (ut.next_phase (UpgradePhase.Owes kept end (record { phase = q })) ActResult.Made) + wake ≤
    rw_steps n v q
owes_wakes n kept end (RwPhase.Wakes rest count) v e some = steps_fall.wakes n (RwPhase.Wakes rest count) v refl some
owes_wakes n kept end q v e some = absurd cc

seeks_none : (q : RwPhase) → IsSeeking q → rw_taken q ≡ 0
seeks_none (RwPhase.ClearWriterParked rest has) i = absurd i
seeks_none (RwPhase.LeaveWriterWakeSection rest has) i = absurd i
seeks_none (RwPhase.Scans a) i = absurd i
seeks_none (RwPhase.Stores a left) i = absurd i
seeks_none (RwPhase.Leaves rest count handed) i = absurd i
seeks_none (RwPhase.Wakes rest count) i = absurd i
seeks_none q i = refl

drains_none : (q : RwPhase) → IsDraining q → rw_taken q ≡ 0
drains_none (RwPhase.ClearWriterParked rest has) i = absurd i
drains_none (RwPhase.LeaveWriterWakeSection rest has) i = absurd i
drains_none (RwPhase.Scans a) i = absurd i
drains_none (RwPhase.Stores a left) i = absurd i
drains_none (RwPhase.Leaves rest count handed) i = absurd i
drains_none (RwPhase.Wakes rest count) i = absurd i
drains_none q i = refl

wakes : (n : ℕ) (p : UpgradePhase) (v : View) → IsReady p → IsOfWorld p → ut.act_of p ≡ Act.Section section.Wake
    → 1 ≤ upgrade_taken p → upgrade_steps n v (ut.next_phase p ActResult.Made) + wake ≤ upgrade_steps n v p
wakes n (UpgradePhase.Plain core) v i k e some = absurd k
wakes n (UpgradePhase.Seeks core) v i k e some = absurd (omega (arith, some, seeks_none core.phase i.0))
wakes n (UpgradePhase.Drains core) v i k e some = absurd (omega (arith, some, drains_none core.phase i.0))
wakes n (UpgradePhase.Frees r core) v i k e some = frees_wakes n r core.phase v e some
wakes n (UpgradePhase.Owes kept end core) v i k e some = owes_wakes n kept end core.phase v e some
wakes n p v i k e some = absurd (omega (arith, some))

-- one more than the steps of either of two
more_of : (n : ℕ) (b : Bool) (p q : UpgradePhase) (c : ℕ) → upgrade_steps n Unseen p + 1 ≤ c
    → upgrade_steps n Unseen q + 1 ≤ c → upgrade_steps n Unseen (cond b p q) + 1 ≤ c
more_of n true p q c h k = h
more_of n false p q c h k = k

woken : (n : ℕ) (p : UpgradePhase) (token : UnparkToken) → IsReady p → IsOfWorld p
    → upgrade_steps n Unseen (ut.next_phase p (ActResult.Woken token)) + 1 ≤ upgrade_steps n Unseen p + wake
woken n (UpgradePhase.Plain core) token i k = absurd k
woken n (UpgradePhase.Seeks core) token i k = more_of n (ut.owns_now core.phase (ActResult.Woken token)) _ _ _
    (omega arith) (steps_fall.woken n core.phase token)
woken n (UpgradePhase.Drains core) token i k = steps_fall.woken n core.phase token
woken n (UpgradePhase.Frees r core) token i k = more_of n (ut.asks_now r core.phase (ActResult.Woken token)) _ _ _
    (omega arith) (steps_fall.woken n core.phase token)
woken n (UpgradePhase.Owes kept end core) token i k = steps_fall.woken n core.phase token
woken n p token i k = omega arith

few_found : (n first : ℕ) (shut : Bool) → first ≤ n → cond shut n first ≤ n
few_found n first true h = omega arith
few_found n first false h = h

few : (n word first : ℕ) (shut : Shut) (p : UpgradePhase) → first ≤ n → upgrade_steps n (Sees word first shut) p ≤
    upgrade_steps n Unseen p
few n word first shut (UpgradePhase.Plain core) h = steps_fall.few n word first shut core.phase h
few n word first shut (UpgradePhase.Seeks core) h = steps_fall.few n word first shut core.phase h
few n word first shut (UpgradePhase.Drains core) h = steps_fall.few n word first shut core.phase h
few n word first shut (UpgradePhase.Frees r core) h = steps_fall.few n word first shut core.phase h
few n word first shut (UpgradePhase.Owes kept end core) h = steps_fall.few n word first shut core.phase h
few n word first shut (UpgradePhase.TryAdmits from left) h = either (word == from) 2 3 3 (omega arith) (omega arith)
few n word first shut (UpgradePhase.TryUpgrades from left) h = either (word == from) 2 3 3 (omega arith) (omega arith)
few n word first shut UpgradePhase.Upgrades h =
    omega (arith, either (not shut.second) 4 9 9 (omega arith) (omega arith))
few n word first shut (UpgradePhase.UnlockLoads r) h = omega (arith, few_found n first shut.first h)
few n word first shut (UpgradePhase.Unlocks r from) h = either (word == from) 2 (scan n (Sees word first shut) + 8)
    (scan n Unseen + 8) (omega arith) (omega (arith, few_found n first shut.first h))
few n word first shut UpgradePhase.ToShared h = omega (arith, few_found n first shut.first h)
few n word first shut UpgradePhase.ToUpgradable h = omega (arith, few_found n first shut.first h)
few n word first shut (UpgradePhase.YieldLoads from) h = omega (arith, few_found n first shut.first h)
few n word first shut (UpgradePhase.Yields from tried) h = either (word == tried) (scan n (Sees word first shut) + 7)
    (scan n (Sees word first shut) + 8) (scan n Unseen + 8) (omega (arith, few_found n first shut.first h))
    (omega (arith, few_found n first shut.first h))
few n word first shut p h = omega arith

stops_not : (b : Bool) (x y : Act) (shut : Shut) → (StopsAt x shut → ⊥) → (StopsAt y shut → ⊥)
    → StopsAt (cond b x y) shut → ⊥
stops_not true x y shut f g h = f h
stops_not false x y shut f g h = g h

seeks_stop : (n : ℕ) (q : RwPhase) (word first : ℕ) (shut : Shut) → StopsAt (ut.seeks_act q) shut
    → rw_steps n Unseen q ≤ rw_steps n (Sees word first shut) q
seeks_stop n (RwPhase.Admits a from) word first shut h =
    absurd (stops_not (rt.has_room from) (Act.Exchange from ((from + 20) % 2 ^ 64)) Act.Load shut (λ x. x) (λ x. x) h)
seeks_stop n (RwPhase.Appends want) word first shut h = absurd h
seeks_stop n q word first shut h = steps_fall.stops n q word first shut h

frees_stop : (n : ℕ) (r : Release) (q : RwPhase) (word first : ℕ) (shut : Shut) → StopsAt (ut.frees_act r q) shut
    → rw_steps n Unseen q ≤ rw_steps n (Sees word first shut) q
frees_stop n r (RwPhase.Stores a left) word first shut h = absurd h
frees_stop n r (RwPhase.Finishes rest) word first shut h =
    absurd (stops_not (ut.is_again r) Act.Load (Act.Done CoreAnswer.Released) shut (λ x. x) (λ x. x) h)
frees_stop n r q word first shut h = steps_fall.stops n q word first shut h

owes_stop : (n : ℕ) (kept : Hold) (end : CoreAnswer) (q : RwPhase) (word first : ℕ) (shut : Shut)
    → StopsAt (ut.owes_act kept end q) shut → rw_steps n Unseen q ≤ rw_steps n (Sees word first shut) q
owes_stop n kept end (RwPhase.Scans a) word first shut h = absurd h
owes_stop n kept end (RwPhase.Finishes rest) word first shut h = absurd h
owes_stop n kept end q word first shut h = steps_fall.stops n q word first shut h

stops : (n : ℕ) (p : UpgradePhase) (word first : ℕ) (shut : Shut) → StopsAt (ut.act_of p) shut
    → upgrade_steps n Unseen p ≤ upgrade_steps n (Sees word first shut) p
stops n (UpgradePhase.Plain core) word first shut h = steps_fall.stops n core.phase word first shut h
stops n (UpgradePhase.Seeks core) word first shut h = seeks_stop n core.phase word first shut h
stops n (UpgradePhase.Drains core) word first shut h = steps_fall.stops n core.phase word first shut h
stops n (UpgradePhase.Frees r core) word first shut h = frees_stop n r core.phase word first shut h
stops n (UpgradePhase.Owes kept end core) word first shut h = owes_stop n kept end core.phase word first shut h
stops n p word first shut h = absurd h

abbrev is_answered : Act → Bool
is_answered (Act.Done answer) = true
is_answered a = false

not_answered : (a : Act) (answer : CoreAnswer) → is_answered a ≡ false → a ≡ Act.Done answer → ⊥
not_answered a answer f e = both_ways (is_answered a) f (ap is_answered e)

seeks_end : (n : ℕ) (q : RwPhase) (v : View) (answer : CoreAnswer) → ut.seeks_act q ≡ Act.Done answer
    → 1 ≤ rw_steps n v q
seeks_end n (RwPhase.Admits a from) v answer e = absurd (not_answered _ answer (by (rt.has_room from)) e)
  where
    by : (b : Bool) → is_answered (cond b (Act.Exchange from ((from + 20) % 2 ^ 64)) Act.Load) ≡ false
    by true = refl
    by false = refl
seeks_end n (RwPhase.Appends want) v answer e = absurd cc
seeks_end n q v answer e = steps_fall.ends n q v answer e

frees_end : (n : ℕ) (r : Release) (q : RwPhase) (v : View) (answer : CoreAnswer) → ut.frees_act r q ≡ Act.Done answer
    → 1 ≤ rw_steps n v q
frees_end n r (RwPhase.Stores a left) v answer e = absurd cc
frees_end n r (RwPhase.Finishes rest) v answer e = end_costs n v rest
frees_end n r q v answer e = steps_fall.ends n q v answer e

owes_end : (n : ℕ) (kept : Hold) (end : CoreAnswer) (q : RwPhase) (v : View) (answer : CoreAnswer)
    → ut.owes_act kept end q ≡ Act.Done answer → 1 ≤ rw_steps n v q
owes_end n kept end (RwPhase.Scans a) v answer e = absurd cc
owes_end n kept end (RwPhase.Finishes rest) v answer e = end_costs n v rest
owes_end n kept end q v answer e = steps_fall.ends n q v answer e

ends : (n : ℕ) (p : UpgradePhase) (v : View) (answer : CoreAnswer) → ut.act_of p ≡ Act.Done answer
    → 1 ≤ upgrade_steps n v p
ends n (UpgradePhase.Plain core) v answer e = steps_fall.ends n core.phase v answer e
ends n (UpgradePhase.Seeks core) v answer e = seeks_end n core.phase v answer e
ends n (UpgradePhase.Drains core) v answer e = steps_fall.ends n core.phase v answer e
ends n (UpgradePhase.Frees r core) v answer e = frees_end n r core.phase v answer e
ends n (UpgradePhase.Owes kept end core) v answer e = owes_end n kept end core.phase v answer e
ends n (UpgradePhase.TryAdmits from left) v answer e = absurd cc
ends n (UpgradePhase.TryUpgrades from left) v answer e = absurd cc
ends n (UpgradePhase.Unlocks r from) v answer e = absurd cc
ends n (UpgradePhase.Yields from word) v answer e = absurd cc
ends n p v answer e = omega arith

pub upgrade_steps_fall : UpgradeStepsFall
upgrade_steps_fall =
    record {
      falls = λ n p s word first after shut room ready kept g c l. falls n word first after shut room p s ready
          kept g c l;
      wakes = wakes;
      woken = woken;
      few = few;
      stops = stops;
      ends = ends;
    }
