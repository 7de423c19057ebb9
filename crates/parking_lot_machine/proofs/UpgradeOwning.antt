-- Acts that a thread makes by itself in an upgradable call: which moves they are, and where it begins.
use Rattle.std.proofs.Common.{◌≡◌, ℕ, ◌+◌, ◌%◌, ◌^◌, ◌&&◌, cond, Bool, true, false, List, refl, subst}
use Rattle.std.proofs.lemmas.Bool.{both_ways}
use Rattle.parking_lot_rules.specs.Plain.{Plain}
use Rattle.parking_lot_rules.specs.Roles.{Idle, Owned}
use Rattle.parking_lot_protocol.specs.Acts.{Gives}
use Rattle.parking_lot_protocol.specs.Positions.{QueuePosition}
use Rattle.parking_lot_protocol.specs.RwRules.{Makes, Stays}
use Rattle.parking_lot_protocol.specs.RwTable as rt
use Rattle.parking_lot_protocol.specs.declared.act.Act.{Act}
use Rattle.parking_lot_protocol.specs.declared.act.ActResult.{ActResult}
use Rattle.parking_lot_protocol.specs.declared.act.CoreAnswer.{CoreAnswer}
use Rattle.parking_lot_protocol.specs.declared.rw_phase.RwPhase.{RwPhase}
use Rattle.parking_lot_protocol_rw.specs.UpgradeMoves.{drains_move, frees_move, move, owes_move, seeks_move, yield}
use Rattle.parking_lot_protocol_rw.specs.UpgradeRoles.{owned, owns, role}
use Rattle.parking_lot_protocol_rw.specs.UpgradeRules.{IsDraining, IsFreeing, IsOwing, IsReady, IsSeeking, IsShown}
use Rattle.parking_lot_protocol_rw.specs.UpgradeRules.{IsTold}
use Rattle.parking_lot_protocol_rw.specs.UpgradeTable as ut
use Rattle.parking_lot_protocol_rw.specs.declared.upgrade_phase.Hold.{Hold}
use Rattle.parking_lot_protocol_rw.specs.declared.upgrade_phase.Release.{Release}
use Rattle.parking_lot_protocol_rw.specs.declared.upgrade_phase.UpgradePhase.{UpgradePhase}
use Rattle.parking_lot_machine.specs.RowFits.{upgrade_begins, upgrade_prepared}
use Rattle.parking_lot_machine_calls.specs.CallKinds.{IsOfWorld, seeks_room}
use Rattle.parking_lot_machine_calls.specs.Stances.{Out, rw_stance, seeks_stance, upgrade_begun, upgrade_stance}
use Rattle.parking_lot_machine.proofs.Making.{Entries}
use Rattle.parking_lot_machine.proofs.OwnMoves.{AfterAct, IsOwnAct, OwnMove}

-- WHAT IT IS TOLD

frees_heard : (r : Release) (q : RwPhase) (x : ℕ) (s : ActResult) → IsOwnAct (ut.frees_act r q)
    → Gives (ut.frees_act r q) x s → IsShown q (UpgradePhase.Frees r (record { phase = q })) x s
frees_heard r (RwPhase.Scans a) x s own g = absurd own
frees_heard r q x s own g = g

owes_heard : (kept : Hold) (end : CoreAnswer) (q : RwPhase) (x : ℕ) (s : ActResult) → IsOwnAct (ut.owes_act kept end q)
    → Gives (ut.owes_act kept end q) x s → IsShown q (UpgradePhase.Owes kept end (record { phase = q })) x s
owes_heard kept end (RwPhase.Scans a) x s own g = absurd own
owes_heard kept end q x s own g = g

no_start : false ≡ true → ⊥
no_start e = both_ways false refl e

-- what an act gives is what one may be told that has begun
pub upgrade_told : (p : UpgradePhase) (x : ℕ) (s : ActResult) → upgrade_begun p ≡ true → IsOfWorld p
    → IsOwnAct (ut.act_of p) → Gives (ut.act_of p) x s → IsTold p x s
upgrade_told (UpgradePhase.Plain core) x s b o own g = absurd o
upgrade_told (UpgradePhase.Frees r core) x s b o own g = frees_heard r core.phase x s own g
upgrade_told (UpgradePhase.Owes kept end core) x s b o own g = owes_heard kept end core.phase x s own g
upgrade_told UpgradePhase.Locking x s b o own g = absurd (no_start b)
upgrade_told UpgradePhase.Trying x s b o own g = absurd (no_start b)
upgrade_told (UpgradePhase.Unlocking r) x s b o own g = absurd (no_start b)
upgrade_told UpgradePhase.Bumping x s b o own g = absurd (no_start b)
upgrade_told UpgradePhase.Upgrading x s b o own g = absurd (no_start b)
upgrade_told UpgradePhase.TryingToUpgrade x s b o own g = absurd (no_start b)
upgrade_told UpgradePhase.DowngradingToShared x s b o own g = absurd (no_start b)
upgrade_told UpgradePhase.DowngradingToUpgradable x s b o own g = absurd (no_start b)
upgrade_told (UpgradePhase.GivingUp from) x s b o own g = absurd (no_start b)
upgrade_told p x s b o own g = g

-- WHICH MOVES

module _ (t : ℕ) (old new : Entries) where
  if_so : (b : Bool) (k : Plain) → OwnMove (Makes k) t old new → OwnMove Stays t old new
      → OwnMove (cond b (Makes k) Stays) t old new
  if_so true k h j = h
  if_so false k h j = j

  if_not : (b : Bool) (k : Plain) → OwnMove (Makes k) t old new → OwnMove Stays t old new
      → OwnMove (cond b Stays (Makes k)) t old new
  if_not true k h j = j
  if_not false k h j = h

  -- a call that asks where it has seen room
  asks_roomy : (b : Bool) (from to : ℕ) → b ≡ true → AfterAct Out (cond b (Act.Exchange from to) Act.Load) t old new
      → OwnMove Stays t old new
  asks_roomy true from to e h = h
  asks_roomy false from to e h = absurd (no_start e)

  seeks_own : (q : RwPhase) (s : ActResult) → IsSeeking q → seeks_room q → IsOwnAct (ut.seeks_act q)
      → AfterAct (seeks_stance q) (ut.seeks_act q) t old new → OwnMove (seeks_move q s) t old new
  seeks_own (RwPhase.Loads a) s i room own h = h
  seeks_own (RwPhase.Admits a word) ActResult.Exchanged i room own h = asks_roomy (rt.has_room word) word
      ((word + 20) % 2 ^ 64) room h
  seeks_own (RwPhase.Admits a word) s i room own h = asks_roomy (rt.has_room word) word ((word + 20) % 2 ^ 64) room h
  seeks_own (RwPhase.Spins a) s i room own h = h
  seeks_own (RwPhase.SetParked a word) ActResult.Exchanged i room own h = h
  seeks_own (RwPhase.SetParked a word) s i room own h = h
  seeks_own (RwPhase.Enters want woken) s i room own h = h
  seeks_own (RwPhase.Checks want woken) (ActResult.Word word) i room own h =
      if_so (rt.is_barred want word && rt.is_parked word) _ h h
  seeks_own (RwPhase.Checks want woken) s i room own h = h
  seeks_own (RwPhase.Retreats want woken) s i room own h = h
  seeks_own (RwPhase.Appends want) s i room own h = absurd own
  seeks_own (RwPhase.Rests want) s i room own h = h
  seeks_own (RwPhase.Sleeps want) s i room own h = absurd own
  seeks_own q s i room own h = absurd i

  drains_own : (q : RwPhase) (s : ActResult) → IsDraining q → IsOwnAct (rt.act_of q)
      → AfterAct (rw_stance q) (rt.act_of q) t old new
      → OwnMove (drains_move q s) t old new
  drains_own (RwPhase.DrainLoads d) (ActResult.Word word) i own h = if_not (rt.has_readers word) _ h h
  drains_own (RwPhase.DrainLoads d) s i own h = h
  drains_own (RwPhase.DrainSpins d) s i own h = h
  drains_own (RwPhase.DrainSetParked d flagged) ActResult.Exchanged i own h = h
  drains_own (RwPhase.DrainSetParked d flagged) (ActResult.Word word) i own h = if_not (rt.has_readers word) _ h h
  drains_own (RwPhase.DrainSetParked d flagged) s i own h = h
  drains_own (RwPhase.DrainEnters d) s i own h = h
  drains_own (RwPhase.DrainChecks d) (ActResult.Word word) i own h =
      if_so (rt.has_readers word && rt.is_writer_parked word) _ h h
  drains_own (RwPhase.DrainChecks d) s i own h = h
  drains_own (RwPhase.DrainRetreats d) s i own h = h
  drains_own (RwPhase.DrainAppends rounds) s i own h = absurd own
  drains_own (RwPhase.DrainRests rounds) s i own h = h
  drains_own (RwPhase.DrainSleeps rounds) s i own h = absurd own
  drains_own (RwPhase.Ends end) s i own h = absurd own
  drains_own q s i own h = absurd i

  ends_free : (r : Release) → ut.is_again r ≡ false
      → IsOwnAct (cond (ut.is_again r) Act.Load (Act.Done CoreAnswer.Released)) → ⊥
  ends_free r k own = subst (λ b. IsOwnAct (cond b Act.Load (Act.Done CoreAnswer.Released))) k own

  frees_own : (us : List ℕ) (r : Release) (q : RwPhase) (s : ActResult) → ut.is_again r ≡ false → IsFreeing q
      → IsOwnAct (ut.frees_act r q) → AfterAct (rw_stance q) (ut.frees_act r q) t old new
      → OwnMove (frees_move us q s) t old new
  frees_own us r (RwPhase.LooksExclusive fair rest) s k i own h = h
  frees_own us r (RwPhase.Scans a) s k i own h = absurd own
  frees_own us r (RwPhase.Stores a left) s k i own h = absurd own
  frees_own us r (RwPhase.Leaves rest count handed) s k i own h = h
  frees_own us r (RwPhase.Wakes rest count) s k i own h = absurd own
  frees_own us r (RwPhase.Finishes rest) s k i own h = absurd (ends_free r k own)
  frees_own us r q s k i own h = absurd i

  owes_own : (o : Owned) (us : List ℕ) (kept : Hold) (end : CoreAnswer) (q : RwPhase) (s : ActResult) → IsOwing q
      → IsOwnAct (ut.owes_act kept end q) → AfterAct (rw_stance q) (ut.owes_act kept end q) t old new
      → OwnMove (owes_move o us q s) t old new
  owes_own o us kept end RwPhase.EnterWakeSection s i own h = h
  owes_own o us kept end (RwPhase.Scans a) s i own h = absurd own
  owes_own o us kept end (RwPhase.Stores a left) s i own h = absurd own
  owes_own o us kept end (RwPhase.Leaves rest count handed) s i own h = h
  owes_own o us kept end (RwPhase.Wakes rest count) s i own h = absurd own
  owes_own o us kept end (RwPhase.Finishes rest) s i own h = absurd own
  owes_own o us kept end q s i own h = absurd i

  yields_own : (from owing : Bool) → OwnMove Stays t old new → OwnMove (Makes (yield from owing)) t old new
  yields_own true owing h = h
  yields_own false owing h = h

  pub upgrade_moves : (n : ℕ) (us : List ℕ) (p : UpgradePhase) (s : ActResult) → IsReady p → IsOfWorld p
      → IsOwnAct (ut.act_of p) → AfterAct (upgrade_stance p) (ut.act_of p) t old new → OwnMove (move n us p s) t old new
  upgrade_moves n us (UpgradePhase.Plain core) s i o own h = absurd o
  upgrade_moves n us (UpgradePhase.Seeks core) s i o own h = seeks_own core.phase s i.0 o own h
  upgrade_moves n us (UpgradePhase.Drains core) s i o own h = drains_own core.phase s i.0 own h
  upgrade_moves n us (UpgradePhase.Frees r core) s i o own h = frees_own us r core.phase s o i own h
  upgrade_moves n us (UpgradePhase.Owes kept end core) s i o own h = owes_own (owned kept) us kept end core.phase s i
      own h
  upgrade_moves n us (UpgradePhase.TryAdmits word left) ActResult.Exchanged i o own h = h
  upgrade_moves n us (UpgradePhase.TryUpgrades word left) ActResult.Exchanged i o own h = h
  upgrade_moves n us (UpgradePhase.Unlocks r word) ActResult.Exchanged i o own h = h
  upgrade_moves n us UpgradePhase.ToShared (ActResult.Before word) i o own h = h
  upgrade_moves n us UpgradePhase.ToUpgradable (ActResult.Before word) i o own h = h
  upgrade_moves n us UpgradePhase.Relocks s i o own h = absurd o
  upgrade_moves n us (UpgradePhase.Yields from word) ActResult.Exchanged i o own h = yields_own from (rt.is_parked word)
      h
  upgrade_moves n us p s i o own h = h

-- WHERE IT BEGINS

-- a call that begins is no step by itself, or a move of its own, and its thread is in the role of one in no call
pub upgrade_starts : (t n : ℕ) (spot : QueuePosition) (us : List ℕ) (p : UpgradePhase) (x : ℕ) (o : Entries)
    → upgrade_begins p
    → (role n spot us p ≡ record { owns = owns n p; does = Idle }) × IsTold p x ActResult.Start × upgrade_prepared us p
    × OwnMove (move n us p ActResult.Start) t o o
upgrade_starts t n spot us UpgradePhase.Locking x o k = (refl, tt, tt, (tt, λ b. refl))
upgrade_starts t n spot us UpgradePhase.Trying x o k = (refl, tt, tt, (tt, λ b. refl))
upgrade_starts t n spot us (UpgradePhase.Unlocking r) x o k = (refl, tt, tt, (tt, λ b. refl))
upgrade_starts t n spot us UpgradePhase.Upgrading x o k = (refl, tt, tt, (tt, λ b. refl))
upgrade_starts t n spot us UpgradePhase.TryingToUpgrade x o k = (refl, tt, tt, (tt, λ b. refl))
upgrade_starts t n spot us UpgradePhase.DowngradingToShared x o k = (refl, tt, tt, (tt, λ b. refl))
upgrade_starts t n spot us UpgradePhase.DowngradingToUpgradable x o k = (refl, tt, tt, (tt, λ b. refl))
upgrade_starts t n spot us p x o k = absurd k
