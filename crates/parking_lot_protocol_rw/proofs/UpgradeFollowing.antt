-- Each answer to a core of a lock with upgradable holds is the step that the table says, and so is its end.
use Rattle.std.proofs.Common.{◌≡◌, ◌<◌, ℕ, ◌+◌, ◌-◌, ◌/◌, ◌%◌, ◌^◌, ◌||◌, nat_lt, not, Bool, true, false, cond, List}
use Rattle.std.proofs.Common.{refl, sym, ap, ◌∙◌, subst, inl}
use Rattle.parking_lot_rules.specs.Clauses.{Word, IsWord, number}
use Rattle.parking_lot_rules.specs.Plain as plain
use Rattle.parking_lot_rules.specs.Roles as rules
use Rattle.parking_lot_rules.specs.Roles.{Role}
use Rattle.parking_lot_protocol.proofs.RwFollowing.{follows}
use Rattle.parking_lot_protocol.proofs.RwWords.{both, at, one, parked, unparked, pends}
use Rattle.parking_lot_protocol.specs.Acts.{change_of, word_after}
use Rattle.parking_lot_protocol.specs.Positions.{QueuePosition, Listed}
use Rattle.parking_lot_protocol.specs.RwRules.{Move, Stays, Makes}
use Rattle.parking_lot_protocol.specs.RwRules as rw
use Rattle.parking_lot_protocol.specs.RwTable.{is_parked, is_written, is_upgradable, has_room, begins, next_phase}
use Rattle.parking_lot_protocol.specs.RwTable.{act_of}
use Rattle.parking_lot_protocol.specs.declared.act.ActResult.{ActResult}
use Rattle.parking_lot_protocol.specs.declared.act.ActResult.TheVariants as seen
use Rattle.parking_lot_protocol.specs.declared.act.CoreAnswer.{CoreAnswer}
use Rattle.parking_lot_protocol.specs.declared.act.CoreAnswer.TheVariants.{Owned, Refused, Released}
use Rattle.parking_lot_protocol.specs.declared.rw_phase.LockMode.TheVariants as want
use Rattle.parking_lot_protocol.specs.declared.rw_phase.Outcome.{Outcome}
use Rattle.parking_lot_protocol.specs.declared.rw_phase.RwPhase.{RwPhase}
use Rattle.parking_lot_protocol.specs.declared.rw_phase.RwPhase.TheVariants as here
use Rattle.parking_lot_protocol_rw.proofs.InnerFollowing.{seeks_ready, seeks_role, seeks_follows, drains_follows}
use Rattle.parking_lot_protocol_rw.proofs.SectionFollowing.{frees_follows, owes_follows}
use Rattle.parking_lot_protocol_rw.proofs.UpgradeWords.{upgradable_word, upgraded_word, alone_word, freed_word}
use Rattle.parking_lot_protocol_rw.proofs.UpgradeWords.{shared_word, to_upgradable_word, yielded_word, given_back_word}
use Rattle.parking_lot_protocol_rw.specs.UpgradeMoves.{IsMove, yield}
use Rattle.parking_lot_protocol_rw.specs.UpgradeRoles.{owned, role}
use Rattle.parking_lot_protocol_rw.specs.UpgradeRules.{Follows, HasUpgradable, HasWriter, IsReady, Ended, EndedInside}
use Rattle.parking_lot_protocol_rw.specs.UpgradeRules.{EndedDraining}
use Rattle.parking_lot_protocol_rw.specs.UpgradeTable.{core_at, is_alone, is_open, tries, retries, tries_upgrade}
use Rattle.parking_lot_protocol_rw.specs.UpgradeTable.{retries_upgrade, unlocks, frees, over, bumps, owes, held_before}
use Rattle.parking_lot_protocol_rw.specs.UpgradeTable.{yield_change}
use Rattle.parking_lot_protocol_rw.specs.declared.upgrade_phase.Hold.{Hold}
use Rattle.parking_lot_protocol_rw.specs.declared.upgrade_phase.Hold.TheVariants as hold
use Rattle.parking_lot_protocol_rw.specs.declared.upgrade_phase.Release.{Release}
use Rattle.parking_lot_protocol_rw.specs.declared.upgrade_phase.Release.TheVariants as release
use Rattle.parking_lot_protocol_rw.specs.declared.upgrade_phase.UpgradePhase.{UpgradePhase}
use Rattle.parking_lot_protocol_rw.specs.declared.upgrade_phase.UpgradePhase.TheVariants.{Plain, Locking, Trying}
use Rattle.parking_lot_protocol_rw.specs.declared.upgrade_phase.UpgradePhase.TheVariants.{Unlocking, Bumping, Upgrading}
use Rattle.parking_lot_protocol_rw.specs.declared.upgrade_phase.UpgradePhase.TheVariants.{TryingToUpgrade}
use Rattle.parking_lot_protocol_rw.specs.declared.upgrade_phase.UpgradePhase.TheVariants.{DowngradingToShared}
use Rattle.parking_lot_protocol_rw.specs.declared.upgrade_phase.UpgradePhase.TheVariants.{DowngradingToUpgradable}
use Rattle.parking_lot_protocol_rw.specs.declared.upgrade_phase.UpgradePhase.TheVariants.{GivingUp, Seeks, TryLoads}
use Rattle.parking_lot_protocol_rw.specs.declared.upgrade_phase.UpgradePhase.TheVariants.{TryAdmits, Refuses, Upgrades}
use Rattle.parking_lot_protocol_rw.specs.declared.upgrade_phase.UpgradePhase.TheVariants.{Drains, TryUpgradeLoads}
use Rattle.parking_lot_protocol_rw.specs.declared.upgrade_phase.UpgradePhase.TheVariants.{TryUpgrades, BumpLoads}
use Rattle.parking_lot_protocol_rw.specs.declared.upgrade_phase.UpgradePhase.TheVariants.{Relocks, UnlockLoads, Unlocks}
use Rattle.parking_lot_protocol_rw.specs.declared.upgrade_phase.UpgradePhase.TheVariants.{Frees, ToShared, ToUpgradable}
use Rattle.parking_lot_protocol_rw.specs.declared.upgrade_phase.UpgradePhase.TheVariants.{YieldLoads, Yields, Owes}
use Rattle.parking_lot_protocol_rw.specs.declared.upgrade_phase.UpgradePhase.TheVariants.{Ends}

module _ (recursive : Bool) (k : ℕ) (us : List ℕ) (w : Word) where
  abbrev Moves : Move → UpgradePhase → UpgradePhase → ℕ → Type 0
  Moves m p q word = IsMove recursive m k us p q w word × IsReady q

  -- a try has seen a word, as one that stays where it is
  tried : (p : UpgradePhase) (left word : ℕ) → ((spot : QueuePosition) → role k spot us Refuses ≡ role k spot us p)
      → Moves Stays p (tries left word) (number w)
  tried p left word same = go (is_open word) refl
    where
      go : (b : Bool) → is_open word ≡ b → Moves Stays p (cond b (TryAdmits word left) Refuses) (number w)
      go true e = ((same, refl), e)
      go false e = ((same, refl), tt)

  retried : (p : UpgradePhase) (left word : ℕ) → ((spot : QueuePosition) → role k spot us Refuses ≡ role k spot us p)
      → Moves Stays p (retries left word) (number w)
  retried p left word same = go (nat_lt 0 left)
    where
      go : (b : Bool) → Moves Stays p (cond b (tries (left - 1) word) Refuses) (number w)
      go true = tried p (left - 1) word same
      go false = ((same, refl), tt)

  tried_upgrade : (p : UpgradePhase) (left word : ℕ)
      → ((spot : QueuePosition) → role k spot us TryUpgradeLoads ≡ role k spot us p)
      → Moves Stays p (tries_upgrade left word) (number w)
  tried_upgrade p left word same = go (is_alone word) refl
    where
      go : (b : Bool) → is_alone word ≡ b
          → Moves Stays p (cond b (TryUpgrades word left) (Ends hold.Upgradable Refused)) (number w)
      go true e = ((same, refl), e)
      go false e = ((same, refl), tt)

  retried_upgrade : (p : UpgradePhase) (left word : ℕ)
      → ((spot : QueuePosition) → role k spot us TryUpgradeLoads ≡ role k spot us p)
      → Moves Stays p (retries_upgrade left word) (number w)
  retried_upgrade p left word same = go (nat_lt 0 left)
    where
      go : (b : Bool) → Moves Stays p (cond b (tries_upgrade (left - 1) word) (Ends hold.Upgradable Refused)) (number w)
      go true = tried_upgrade p (left - 1) word same
      go false = ((same, refl), tt)

  unlocked : (p : UpgradePhase) (r : Release) (word : ℕ)
      → ((spot : QueuePosition) → role k spot us (UnlockLoads r) ≡ role k spot us p)
      → Moves Stays p (unlocks r word) (number w)
  unlocked p r word same = go (is_parked word) refl
    where
      go : (b : Bool) → is_parked word ≡ b → Moves Stays p (cond b (frees r) (Unlocks r word)) (number w)
      go true e = ((same, refl), refl)
      go false e = ((same, refl), e)

  bumped : (word : ℕ) → Moves Stays BumpLoads (bumps word) (number w)
  bumped word = go (is_parked word)
    where
      go : (b : Bool) → Moves Stays BumpLoads (cond b (frees release.Again) (Ends hold.Upgradable Owned)) (number w)
      go true = ((λ spot. refl, refl), refl)
      go false = ((λ spot. refl, refl), tt)

module _ (recursive : Bool) (k : ℕ) (us : List ℕ) (w : Word) (h : IsWord w) (r : w.readers < 2 ^ 60 - 1) where
  admitted : (left : ℕ) → is_open (number w) ≡ true → Moves recursive k us w (Makes (plain.Upgradably false))
      (TryAdmits (number w) left) (Ends hold.Upgradable Owned) ((number w + 20) % 2 ^ 64)
  admitted left e =
      let t = both (has_room (number w)) (not (is_written (number w) || is_upgradable (number w))) e in
      let z = pends w h t.1 in
      (record { from = refl; to = refl; may = z; written = upgradable_word w h r z.0 z.1 }, tt)

  upgraded : (left : ℕ) → is_alone (number w) ≡ true → HasUpgradable w
      → Moves recursive k us w (Makes plain.UpgradeAtOnce) (TryUpgrades (number w) left) (Ends hold.Exclusive Owned)
      ((number w + (2 ^ 64 - 12)) % 2 ^ 64)
  upgraded left e o =
      let a = at w h in
      let x : w.readers ≡ 1 = sym a.readers ∙ one (number w / 16) e in
      (record { from = refl; to = refl; may = x; written = alone_word w h r o x }, tt)

  freed : (way : Release) → is_parked (number w) ≡ false → HasUpgradable w
      → Moves recursive k us w (Makes plain.UnlockUpgradable) (Unlocks way (number w)) (over way)
      ((number w + (2 ^ 64 - 20)) % 2 ^ 64)
  freed release.Plain e o = (record { from = refl; to = refl; may = unparked w h e; written = freed_word w h r o }, tt)
  freed release.Fair e o = (record { from = refl; to = refl; may = unparked w h e; written = freed_word w h r o }, tt)
  freed release.Again e o = (record { from = refl; to = refl; may = unparked w h e; written = freed_word w h r o }, tt)

  to_shared : (b : Bool) → is_parked (number w) ≡ b → HasUpgradable w
      → Moves recursive k us w (Makes (plain.DowngradeUpgradable b)) ToShared
      (cond b (Owes hold.Shared Owned (core_at here.EnterWakeSection)) (Ends hold.Shared Owned))
      ((number w + (2 ^ 64 - 4)) % 2 ^ 64)
  to_shared true e o = (record { from = refl; to = refl; may = parked w h e; written = shared_word w h r o }, tt)
  to_shared false e o = (record { from = refl; to = refl; may = unparked w h e; written = shared_word w h r o }, tt)

  to_upgradable : (b : Bool) → is_parked (number w) ≡ b → HasWriter w
      → Moves recursive k us w (Makes (plain.DowngradeToUpgradable b)) ToUpgradable
      (cond b (Owes hold.Upgradable Owned (core_at here.EnterWakeSection)) (Ends hold.Upgradable Owned))
      ((number w + 12) % 2 ^ 64)
  to_upgradable true e o =
      (record { from = refl; to = refl; may = parked w h e; written = to_upgradable_word w h r o }, tt)
  to_upgradable false e o =
      (record { from = refl; to = refl; may = unparked w h e; written = to_upgradable_word w h r o }, tt)

  yields : (from b : Bool) → is_parked (number w) ≡ b → HasWriter w
      → Moves recursive k us w (Makes (yield from b)) (Yields from (number w))
      (cond b (Owes (held_before from) Released (core_at here.EnterWakeSection)) (Ends (held_before from) Released))
      (change_of (yield_change from) (number w))
  yields true true e o = (record { from = refl; to = refl; may = parked w h e; written = given_back_word w h r o }, tt)
  yields true false e o =
      (record { from = refl; to = refl; may = unparked w h e; written = given_back_word w h r o }, tt)
  yields false true e o = (record { from = refl; to = refl; may = parked w h e; written = yielded_word w h r o }, tt)
  yields false false e o = (record { from = refl; to = refl; may = unparked w h e; written = yielded_word w h r o }, tt)

-- a move of a call of shared and exclusive holds is one here
plain_move : (recursive : Bool) (m : Move) (k : ℕ) (us : List ℕ) (p q : RwPhase) (w : Word) (word : ℕ)
    → rw.IsMove recursive m k us p q w word → IsMove recursive m k us (Plain (core_at p)) (Plain (core_at q)) w word
plain_move recursive Stays k us p q w word m = m
plain_move recursive (Makes plain) k us p q w word m = m
plain_move recursive (rw.Joins listing) k us p q w word m = m
plain_move recursive (rw.TakesOne mode) k us p q w word m = λ v. let t = m v in
    (t.0, record { from = t.1.from; to = t.1.to }, t.2)
plain_move recursive rw.TakesWriter k us p q w word m = m
plain_move recursive (rw.Tells end left) k us p q w word m = let t = m.1 in
    (m.0, record { from = t.from; to = t.to; cause = t.cause; may = t.may; written = t.written })
plain_move recursive rw.WakesOne k us p q w word m = m
plain_move recursive (rw.IsWoken waking) k us p q w word m = m

plain_follows : (p : RwPhase) (s : ActResult) → Follows (Plain (core_at p)) s
plain_follows p s recursive k us w rd h r f g =
    let m = follows p s recursive k us w rd h r f g in
    (plain_move recursive (rw.move k us p s) k us p (next_phase p s) w (word_after (act_of p) s (number w)) m.0, m.1)

pub upgrade_follows : (p : UpgradePhase) (s : ActResult) → Follows p s
upgrade_follows Locking seen.Start recursive k us w rd h r f g =
    (record { from = refl; to = refl; may = inl refl; written = refl }, (refl, tt))
upgrade_follows Trying seen.Start recursive k us w rd h r f g =
    (record { from = refl; to = refl; may = inl refl; written = refl }, tt)
upgrade_follows (Unlocking way) seen.Start recursive k us w rd h r f g = ((λ spot. refl, refl), tt)
upgrade_follows Bumping seen.Start recursive k us w rd h r f g = ((λ spot. refl, refl), tt)
upgrade_follows Upgrading seen.Start recursive k us w rd h r f g = ((λ spot. refl, refl), tt)
upgrade_follows TryingToUpgrade seen.Start recursive k us w rd h r f g = ((λ spot. refl, refl), tt)
upgrade_follows DowngradingToShared seen.Start recursive k us w rd h r f g = ((λ spot. refl, refl), tt)
upgrade_follows DowngradingToUpgradable seen.Start recursive k us w rd h r f g = ((λ spot. refl, refl), tt)
upgrade_follows (GivingUp from) seen.Start recursive k us w rd h r f g = ((λ spot. refl, refl), tt)
upgrade_follows TryLoads (seen.Word v) recursive k us w rd h r f g = tried recursive k us w TryLoads 63 v (λ spot. refl)
upgrade_follows (TryAdmits word left) seen.Exchanged recursive k us w rd h r f g =
    let P : ℕ → Type 0 = λ x. is_open x ≡ true → Moves recursive k us w (Makes (plain.Upgradably false))
    (TryAdmits x left) (Ends hold.Upgradable Owned) ((x + 20) % 2 ^ 64) in
    subst P g (admitted recursive k us w h r left) rd
upgrade_follows (TryAdmits word left) (seen.Word v) recursive k us w rd h r f g =
    retried recursive k us w (TryAdmits word left) left v (λ spot. refl)
upgrade_follows Upgrades (seen.Before v) recursive k us w rd h r f g =
    (record { from = refl; to = refl; may = tt; written = upgraded_word w h r f }, (tt, tt))
upgrade_follows TryUpgradeLoads (seen.Word v) recursive k us w rd h r f g =
    tried_upgrade recursive k us w TryUpgradeLoads 63 v (λ spot. refl)
upgrade_follows (TryUpgrades word left) seen.Exchanged recursive k us w rd h r f g =
    let P : ℕ → Type 0 = λ x. is_alone x ≡ true → Moves recursive k us w (Makes plain.UpgradeAtOnce)
    (TryUpgrades x left) (Ends hold.Exclusive Owned) ((x + (2 ^ 64 - 12)) % 2 ^ 64) in
    subst P g (λ e. upgraded recursive k us w h r left e f) rd
upgrade_follows (TryUpgrades word left) (seen.Word v) recursive k us w rd h r f g = retried_upgrade recursive k us w
    (TryUpgrades word left) left v (λ spot. refl)
upgrade_follows BumpLoads (seen.Word v) recursive k us w rd h r f g = bumped recursive k us w v
upgrade_follows Relocks (seen.Word v) recursive k us w rd h r f g = (
  record {
    from = refl;
    to = seeks_role k Listed us (begins want.Exclusive false) v;
    may = inl refl;
    written = refl;
  },
  seeks_ready (begins want.Exclusive false) v refl,
)
upgrade_follows (UnlockLoads way) (seen.Word v) recursive k us w rd h r f g =
    unlocked recursive k us w (UnlockLoads way) way v (λ spot. refl)
upgrade_follows (Unlocks way word) seen.Exchanged recursive k us w rd h r f g =
    let P : ℕ → Type 0 = λ x. is_parked x ≡ false → Moves recursive k us w (Makes plain.UnlockUpgradable)
    (Unlocks way x) (over way) ((x + (2 ^ 64 - 20)) % 2 ^ 64) in
    subst P g (λ e. freed recursive k us w h r way e f) rd
upgrade_follows (Unlocks way word) (seen.Word v) recursive k us w rd h r f g =
    unlocked recursive k us w (Unlocks way word) way v (λ spot. refl)
upgrade_follows ToShared (seen.Before v) recursive k us w rd h r f g =
    let P : ℕ → Type 0 = λ x. Moves recursive k us w (Makes (plain.DowngradeUpgradable (is_parked x))) ToShared
    (owes hold.Shared Owned x) ((number w + (2 ^ 64 - 4)) % 2 ^ 64) in
    subst P (sym g) (to_shared recursive k us w h r (is_parked (number w)) refl f)
upgrade_follows ToUpgradable (seen.Before v) recursive k us w rd h r f g =
    let P : ℕ → Type 0 = λ x. Moves recursive k us w (Makes (plain.DowngradeToUpgradable (is_parked x))) ToUpgradable
    (owes hold.Upgradable Owned x) ((number w + 12) % 2 ^ 64) in
    subst P (sym g) (to_upgradable recursive k us w h r (is_parked (number w)) refl f)
upgrade_follows (YieldLoads from) (seen.Word v) recursive k us w rd h r f g = ((λ spot. refl, refl), tt)
upgrade_follows (Yields from word) seen.Exchanged recursive k us w rd h r f g =
    let P : ℕ → Type 0 = λ x. Moves recursive k us w (Makes (yield from (is_parked x))) (Yields from x)
    (owes (held_before from) Released x) (change_of (yield_change from) x) in
    subst P g (yields recursive k us w h r from (is_parked (number w)) refl f)
upgrade_follows (Yields from word) (seen.Word v) recursive k us w rd h r f g = ((λ spot. refl, refl), tt)
upgrade_follows (Plain core) s recursive k us w rd h r f g = plain_follows core.phase s recursive k us w rd h r f g
upgrade_follows (Seeks core) s recursive k us w rd h r f g = seeks_follows core.phase s recursive k us w rd h r f g
upgrade_follows (Drains core) s recursive k us w rd h r f g = drains_follows core.phase s recursive k us w rd h r f g
upgrade_follows (Frees way core) s recursive k us w rd h r f g = frees_follows way core.phase s recursive k us w rd h r
    f g
upgrade_follows (Owes hold answer core) s recursive k us w rd h r f g = owes_follows hold answer core.phase s recursive
    k us w rd h r f g
upgrade_follows p s recursive k us w rd h r f g = absurd g

-- ENDS

plain_ends : (p : RwPhase) → rw.Ended p
plain_ends (here.Refuses want) = λ recursive k w. record { from = refl; to = refl; may = tt; written = refl }
plain_ends (here.Finishes rest) = λ recursive k w. record { from = refl; to = refl; may = tt; written = refl }
plain_ends (here.Ends end) = λ recursive k. refl
plain_ends p = tt

inside : (way : Release) (p : RwPhase) → EndedInside p (Frees way (core_at p)) (rules.Shares 0)
inside way (here.Finishes rest) = λ recursive k w. record { from = refl; to = refl; may = tt; written = refl }
inside way p = tt

owing : (hold : Hold) (answer : CoreAnswer) (p : RwPhase) → EndedInside p (Owes hold answer (core_at p)) (owned hold)
owing hold answer (here.Finishes rest) = λ recursive k w. record { from = refl; to = refl; may = tt; written = refl }
owing hold answer p = tt

drained : (p : RwPhase) → EndedDraining p (Drains (core_at p))
drained (here.Ends end) = λ e recursive k. let f : Outcome → Role =
    λ q. record { owns = rw.owned_after 0 q; does = rules.Idle } in ap f e
drained p = tt

pub upgrade_ends : (p : UpgradePhase) → Ended p
upgrade_ends (Plain core) = plain_ends core.phase
upgrade_ends (Drains core) = drained core.phase
upgrade_ends (Frees way core) = inside way core.phase
upgrade_ends (Owes hold answer core) = owing hold answer core.phase
upgrade_ends Refuses = λ recursive k w. record { from = refl; to = refl; may = tt; written = refl }
upgrade_ends (Ends hold answer) = λ recursive k. refl
upgrade_ends p = tt
