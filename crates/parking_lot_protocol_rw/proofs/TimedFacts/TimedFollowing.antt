-- Each answer to a core that may give up is the step that the table says.
use Rattle.std.proofs.Common.{◌≡◌, ◌<◌, ℕ, ◌+◌, ◌-◌, ◌^◌, ◌==◌, Bool, true, false, cond, bit_and, List, Option, Some}
use Rattle.std.proofs.Common.{None, refl, sym, ap, subst, arith}
use Rattle.parking_lot_core_model.specs.declared.parking.UnparkToken.{UnparkToken}
use Rattle.parking_lot_rules.specs.Clauses.{Word, IsWord, number}
use Rattle.parking_lot_rules.specs.Roles as rules
use Rattle.parking_lot_rules.specs.Roles.{Role, Stay, Late, Back}
use Rattle.parking_lot_protocol.specs.Acts as acts
use Rattle.parking_lot_protocol.specs.RwRules.{IsPlain, mode_of}
use Rattle.parking_lot_protocol.specs.RwTable as rw
use Rattle.parking_lot_protocol.specs.Positions.{QueuePosition, Listed, Off}
use Rattle.parking_lot_protocol.specs.declared.act.Act.{Act}
use Rattle.parking_lot_protocol.specs.declared.act.Act.TheVariants as act
use Rattle.parking_lot_protocol.specs.declared.act.Act.TheVariants.{Done}
use Rattle.parking_lot_protocol.specs.declared.act.ActResult.{ActResult}
use Rattle.parking_lot_protocol.proofs.MutexFollowing.{either}
use Rattle.parking_lot_protocol.specs.declared.act.CoreAnswer.{CoreAnswer}
use Rattle.parking_lot_protocol.specs.declared.act.CoreAnswer.TheVariants.{Owned, Refused, Released}
use Rattle.parking_lot_protocol.specs.declared.rw_phase.LockMode.{LockMode}
use Rattle.parking_lot_protocol.specs.declared.rw_phase.LockMode.TheVariants as want
use Rattle.parking_lot_protocol.specs.declared.rw_phase.RwPhase.{RwPhase}
use Rattle.parking_lot_protocol.specs.declared.rw_phase.AfterWake.{AfterWake}
use Rattle.parking_lot_protocol.specs.declared.rw_phase.AfterWake.TheVariants.{FreedShared, FreedExclusive, Downgraded}
use Rattle.parking_lot_protocol.specs.declared.rw_phase.AfterWake.TheVariants.{AgainShared, AgainExclusive}
use Rattle.parking_lot_protocol.specs.declared.rw_phase.RwPhase.TheVariants as rw_at
use Rattle.parking_lot_protocol.specs.declared.rw_phase.RwPhase.TheVariants.{Sleeps, DrainSleeps, Finishes, Admits}
use Rattle.std.proofs.lemmas.Bool.{both_ways}
use Rattle.parking_lot_protocol.specs.Timed.TimedTable.{Gives}
use Rattle.parking_lot_protocol.specs.declared.timed.timed_act.TimedSeen.{TimedSeen}
use Rattle.parking_lot_protocol.specs.declared.timed.timed_act.TimedSeen.TheVariants.{Plain, Expired, Reentered, Quit}
use Rattle.parking_lot_protocol.specs.declared.timed.timed_act.TimedSeen.TheVariants.{WasTaken, Masked, Left}
use Rattle.parking_lot_protocol_rw.proofs.UpgradeFollowing.{upgrade_ends, upgrade_follows}
use Rattle.parking_lot_protocol_rw.proofs.UpgradeWords.{high}
use Rattle.parking_lot_protocol_rw.specs.UpgradeMoves as upgrades
use Rattle.parking_lot_protocol_rw.specs.UpgradeTable as table
use Rattle.parking_lot_protocol_rw.specs.UpgradeTable.{core_at, upgrade_told}
use Rattle.parking_lot_protocol_rw.specs.declared.upgrade_core.UpgradeCore.{UpgradeCore}
use Rattle.parking_lot_protocol_rw.specs.declared.upgrade_phase.Hold.{Hold}
use Rattle.parking_lot_protocol_rw.specs.declared.upgrade_phase.Hold.TheVariants as hold
use Rattle.parking_lot_protocol_rw.specs.declared.upgrade_phase.Release.{Release}
use Rattle.parking_lot_protocol_rw.specs.declared.upgrade_phase.UpgradePhase.{UpgradePhase}
use Rattle.parking_lot_protocol_rw.specs.declared.upgrade_phase.UpgradePhase.TheVariants as call
use Rattle.parking_lot_protocol_rw.specs.Timed.TimedRules.{Follows, IsAsleep, IsMove, IsReady, EndsRightly, Waiter, For}
use Rattle.parking_lot_protocol_rw.specs.Timed.TimedRules.{Pending, Reentering, Quitting, FindingItselfTaken, Resuming}
use Rattle.parking_lot_protocol_rw.specs.Timed.TimedRules.{asks_upgradable, by_waiter, expire, inner_waiter, reenter}
use Rattle.parking_lot_protocol_rw.specs.Timed.TimedRules.{role, stands, waiter_of}
use Rattle.parking_lot_protocol_rw.specs.Timed.TimedTable.{act_of, inner_sleeper, made, plain_at, quits_as, sleeper_of}
use Rattle.parking_lot_protocol_rw.specs.Timed.TimedTable.{upgrade_at, word_after}
use Rattle.parking_lot_protocol_rw.specs.declared.timed.timed_phase.Sleeper.{Sleeper}
use Rattle.parking_lot_protocol_rw.specs.declared.timed.timed_phase.Sleeper.TheVariants as sleeper
use Rattle.parking_lot_protocol_rw.specs.declared.timed.timed_phase.Sleeper.TheVariants.{Wanting}
use Rattle.parking_lot_protocol_rw.specs.declared.timed.timed_phase.TimedRwPhase.{TimedRwPhase}
use Rattle.parking_lot_protocol_rw.specs.declared.timed.timed_phase.TimedRwPhase.TheVariants.{Asks, Expires, Quits}
use Rattle.parking_lot_protocol_rw.specs.declared.timed.timed_phase.TimedRwPhase.TheVariants.{Masks, Leaves, GivesUp}
use Rattle.parking_lot_protocol_rw.specs.declared.timed.timed_phase.TimedRwPhase.TheVariants.{LeavesPending, Resumes}

-- an act of a call that waits changes the word as it does there
after_made : (a : Act) (s : ActResult) (word : ℕ) → word_after (made a) (Plain s) word ≡ acts.word_after a s word
after_made (Done Released) s word = refl
after_made a s word = refl

-- a call that waits goes on
asks : (p : UpgradePhase) (s : ActResult) → Follows (upgrade_at p) (Plain s)
asks p s recursive k us w rd h r f g =
    let m = upgrade_follows p s recursive k us w rd h r f g in
    let P : ℕ → Type 0 = λ x. upgrades.IsMove recursive (upgrades.move k us p s) k us p (table.next_phase p s) w x in
    (subst P (sym (after_made (table.act_of p) s (number w))) m.0, m.1)

-- one that doesn't sleep isn't told of its moment
abbrev is_sleep : Act → Bool
is_sleep act.Sleep = true
is_sleep a = false

no_moment : (a : Act) (word : ℕ) → is_sleep a ≡ false → Gives (made a) word Expired → ⊥
no_moment act.Sleep word e g = both_ways true e refl
no_moment (Done Released) word e g = g
no_moment (Done Owned) word e g = g
no_moment (Done Refused) word e g = g
no_moment a word e g = g

not_asleep : (rest : AfterWake) → is_sleep (rw.last_act rest) ≡ false
not_asleep FreedShared = refl
not_asleep FreedExclusive = refl
not_asleep Downgraded = refl
not_asleep AgainShared = refl
not_asleep AgainExclusive = refl

-- the moment of one that sleeps passes, wherever it stands
abbrev Passes : Bool → ℕ → List ℕ → UpgradePhase → Waiter → Word → Type 0
Passes recursive k us p who w = (spot : QueuePosition)
    → IsPlain recursive (expire who spot) (role k spot us (upgrade_at p))
    (role k spot us (Expires (record { phase = p }))) w (number w)

sleeps_pass : (recursive : Bool) (k : ℕ) (us : List ℕ) (wanted : LockMode) (w : Word) → k ≡ 0
    → Passes recursive k us (call.Plain (core_at (Sleeps wanted))) (For (mode_of wanted)) w
sleeps_pass recursive k us wanted w z Listed =
    record {
      from = ap (λ n. record { owns = rules.Shares n; does = rules.Queued1 (mode_of wanted) rules.Asleep }) z;
      to = refl;
      may = tt;
      written = refl;
    }
sleeps_pass recursive k us wanted w z (Off by mark) =
    record {
      from = ap
          (λ n. record { owns = rules.Shares n; does = rules.Taken1 (mode_of wanted) by mark rules.Asleep }) z;
      to = refl;
      may = tt;
      written = refl;
    }

drain_passes : (recursive : Bool) (k : ℕ) (us : List ℕ) (rounds : ℕ) (w : Word) → k ≡ 0
    → Passes recursive k us (call.Plain (core_at (DrainSleeps rounds))) (Pending false) w
drain_passes recursive k us rounds w z Listed =
    record {
      from = ap (λ n. record { owns = rules.Shares n; does = rules.Queued2 false rules.Asleep }) z;
      to = refl;
      may = tt;
      written = refl;
    }
drain_passes recursive k us rounds w z (Off by mark) =
    record {
      from = ap (λ n. record { owns = rules.Shares n; does = rules.Taken2 false by rules.Asleep }) z;
      to = refl;
      may = tt;
      written = refl;
    }

seeks_pass : (recursive : Bool) (k : ℕ) (us : List ℕ) (wanted : LockMode) (w : Word)
    → Passes recursive k us (call.Seeks (core_at (Sleeps wanted))) (For rules.Upgradable) w
seeks_pass recursive k us wanted w Listed = record { from = refl; to = refl; may = tt; written = refl }
seeks_pass recursive k us wanted w (Off by mark) = record { from = refl; to = refl; may = tt; written = refl }

upgrade_passes : (recursive : Bool) (k : ℕ) (us : List ℕ) (rounds : ℕ) (w : Word)
    → Passes recursive k us (call.Drains (core_at (DrainSleeps rounds))) (Pending true) w
upgrade_passes recursive k us rounds w Listed = record { from = refl; to = refl; may = tt; written = refl }
upgrade_passes recursive k us rounds w (Off by mark) = record { from = refl; to = refl; may = tt; written = refl }

abbrev Moment : UpgradePhase → Type 0
Moment p = Follows (upgrade_at p) Expired

plain_moment : (p : RwPhase) → Moment (call.Plain (core_at p))
plain_moment (Sleeps wanted) recursive k us w rd h r f g = (sleeps_pass recursive k us wanted w f, (rd, tt))
plain_moment (DrainSleeps rounds) recursive k us w rd h r f g = (drain_passes recursive k us rounds w f, (rd, tt))
plain_moment (Finishes rest) recursive k us w rd h r f g =
    absurd (no_moment (rw.last_act rest) (number w) (not_asleep rest) g)
plain_moment p recursive k us w rd h r f g = absurd (no_moment (rw.act_of p) (number w) refl g)

seeks_moment : (p : RwPhase) → Moment (call.Seeks (core_at p))
seeks_moment (Sleeps wanted) recursive k us w rd h r f g = (seeks_pass recursive k us wanted w, (rd, tt))
seeks_moment (Admits a word) recursive k us w rd h r f g =
    absurd (no_moment (table.seeks_act (Admits a word)) (number w)
    (either is_sleep (rw.has_room word) _ _ false refl refl) g)
seeks_moment (DrainSleeps rounds) recursive k us w rd h r f g = absurd rd.0
seeks_moment (Finishes rest) recursive k us w rd h r f g = absurd rd.0
seeks_moment p recursive k us w rd h r f g = absurd (no_moment (table.seeks_act p) (number w) refl g)

drains_moment : (p : RwPhase) → Moment (call.Drains (core_at p))
drains_moment (DrainSleeps rounds) recursive k us w rd h r f g = (upgrade_passes recursive k us rounds w, (rd, tt))
drains_moment (Sleeps wanted) recursive k us w rd h r f g = absurd rd.0
drains_moment (Finishes rest) recursive k us w rd h r f g = absurd rd.0
drains_moment p recursive k us w rd h r f g = absurd (no_moment (rw.act_of p) (number w) refl g)

frees_moment : (way : Release) (p : RwPhase) → Moment (call.Frees way (core_at p))
frees_moment way (Finishes rest) recursive k us w rd h r f g =
    absurd (no_moment (table.frees_act way (Finishes rest)) (number w)
    (either is_sleep (table.is_again way) _ _ false refl refl) g)
frees_moment way (Sleeps wanted) recursive k us w rd h r f g = absurd rd
frees_moment way (DrainSleeps rounds) recursive k us w rd h r f g = absurd rd
frees_moment way p recursive k us w rd h r f g = absurd (no_moment (table.frees_act way p) (number w) refl g)

owes_moment : (hold : Hold) (answer : CoreAnswer) (p : RwPhase) → Moment (call.Owes hold answer (core_at p))
owes_moment hold answer (Sleeps wanted) recursive k us w rd h r f g = absurd rd
owes_moment hold answer (DrainSleeps rounds) recursive k us w rd h r f g = absurd rd
owes_moment hold answer p recursive k us w rd h r f g =
    absurd (no_moment (table.owes_act hold answer p) (number w) refl g)

moment : (p : UpgradePhase) → Moment p
moment (call.Plain core) recursive k us w rd h r f g = plain_moment core.phase recursive k us w rd h r f g
moment (call.Seeks core) recursive k us w rd h r f g = seeks_moment core.phase recursive k us w rd h r f g
moment (call.Drains core) recursive k us w rd h r f g = drains_moment core.phase recursive k us w rd h r f g
moment (call.Frees way core) recursive k us w rd h r f g = frees_moment way core.phase recursive k us w rd h r f g
moment (call.Owes hold answer core) recursive k us w rd h r f g = owes_moment hold answer core.phase recursive k us w rd
    h r f g
moment p recursive k us w rd h r f g = absurd (no_moment (table.act_of p) (number w) refl g)

-- IT ENTERS THE SECTION, AND TAKES ITSELF OFF ITS LIST

abbrev standing_role : Stay → Option Waiter → QueuePosition → Role
standing_role stay o spot = record { owns = rules.Shares 0; does = stands stay o spot }

abbrev Enters : Bool → Option Waiter → QueuePosition → Word → Type 0
Enters recursive (Some who) spot w = IsPlain recursive (reenter who spot) (standing_role Late (Some who) spot)
    (standing_role Back (Some who) spot) w (number w)
Enters recursive None spot w = Unit {0}

enters : (recursive : Bool) (who : Waiter) (spot : QueuePosition) (w : Word) → Enters recursive (Some who) spot w
enters recursive (For mode) Listed w = record { from = refl; to = refl; may = refl; written = refl }
enters recursive (For mode) (Off by mark) w = record { from = refl; to = refl; may = refl; written = refl }
enters recursive (Pending from) Listed w = record { from = refl; to = refl; may = refl; written = refl }
enters recursive (Pending from) (Off by mark) w = record { from = refl; to = refl; may = refl; written = refl }

reenters : (core : UpgradeCore) (o : Option Waiter) → waiter_of core.phase ≡ o → IsAsleep o
    → (recursive : Bool) (k : ℕ) (us : List ℕ) (w : Word)
    → IsMove recursive (by_waiter o Reentering) k us (Expires core) (Quits core) w (number w)
reenters core (Some who) e a recursive k us w = λ spot.
    let P : Option Waiter → Type 0 = λ x. IsPlain recursive (reenter who spot) (standing_role Late x spot)
    (standing_role Back x spot) w (number w) in
    subst P (sym e) (enters recursive who spot w)
reenters core None e a recursive k us w = absurd a

-- who sleeps, as the code tells it
abbrev sleeper_for : Option Waiter → Option Sleeper
sleeper_for (Some (For mode)) = Some Wanting
sleeper_for (Some (Pending from)) = Some (sleeper.Pending from)
sleeper_for None = None

agree_inside : (from : Bool) (p : RwPhase) → inner_sleeper from p ≡ sleeper_for (inner_waiter from p)
agree_inside from (Sleeps wanted) = refl
agree_inside from (DrainSleeps rounds) = refl
agree_inside from p = refl

agree_seeking : (p : RwPhase) → IsAsleep (asks_upgradable p) → inner_sleeper false p ≡ sleeper_for (asks_upgradable p)
agree_seeking (Sleeps wanted) a = refl
agree_seeking p a = absurd a

agree : (p : UpgradePhase) → IsAsleep (waiter_of p) → sleeper_of p ≡ sleeper_for (waiter_of p)
agree (call.Plain core) a = agree_inside false core.phase
agree (call.Seeks core) a = agree_seeking core.phase a
agree (call.Drains core) a = agree_inside true core.phase
agree p a = absurd a

abbrev Takes : Bool → ℕ → List ℕ → UpgradeCore → Option Waiter → Bool → TimedRwPhase → Word → Type 0
Takes recursive k us core o last q w = IsMove recursive (by_waiter o (λ who. Quitting who last)) k us (Quits core) q w
    (number w) × IsReady q

takes_off : (core : UpgradeCore) (o : Option Waiter) → waiter_of core.phase ≡ o → IsAsleep o
    → (recursive : Bool) (k : ℕ) (us : List ℕ) (last : Bool) (w : Word)
    → Takes recursive k us core o last (quits_as (sleeper_for o) last) w
takes_off core (Some (For mode)) e a recursive k us true w =
    (λ i. (ap (λ x. standing_role Back x Listed) e, refl, refl), tt)
takes_off core (Some (For mode)) e a recursive k us false w =
    (λ i. (ap (λ x. standing_role Back x Listed) e, refl, refl), tt)
takes_off core (Some (Pending from)) e a recursive k us last w =
    (λ i. (ap (λ x. standing_role Back x Listed) e, refl, refl), tt)
takes_off core None e a recursive k us last w = absurd a

finds : (core : UpgradeCore) (o : Option Waiter) → waiter_of core.phase ≡ o → IsAsleep o
    → (recursive : Bool) (k : ℕ) (us : List ℕ) (token : UnparkToken) (w : Word)
    → IsMove recursive (by_waiter o FindingItselfTaken) k us (Quits core) (Resumes core token) w (number w)
finds core (Some who) e a recursive k us token w =
    λ by mark. (ap (λ x. standing_role Back x (Off by mark)) e, refl, refl)
finds core None e a recursive k us token w = absurd a

-- IT GOES ON AS ONE THAT ANOTHER HAD TAKEN

abbrev Resumed : UpgradePhase → UnparkToken → Type 0
Resumed p token = Follows (Resumes (record { phase = p }) token) Left

plain_resumes : (p : RwPhase) (token : UnparkToken) → Resumed (call.Plain (core_at p)) token
plain_resumes (Sleeps wanted) token recursive k us w rd h r f g = go wanted (token.0 == 1)
  where
    go : (m : LockMode) (b : Bool) → IsMove recursive (Resuming (For (mode_of m)) b) k us
        (Resumes (record { phase = call.Plain (core_at (Sleeps m)) }) token)
        (plain_at (cond b (rw.admits m true) (rw_at.Loads (rw.begins m true)))) w (number w)
        × IsReady (plain_at (cond b (rw.admits m true) (rw_at.Loads (rw.begins m true))))
    go (want.Shared recursive') false = (
      λ by. record {
        from = refl;
        to = ap (λ n. record { owns = rules.Shares n; does = rules.Seeks rules.Shared true }) f;
        may = tt;
        written = refl;
      },
      tt,
    )
    go want.Exclusive false = (
      λ by. record {
        from = refl;
        to = ap (λ n. record { owns = rules.Shares n; does = rules.Seeks rules.Exclusive true }) f;
        may = tt;
        written = refl;
      },
      tt,
    )
    go (want.Shared recursive') true = (
      λ by. record {
        from = refl;
        to = ap (λ n. record { owns = rules.Shares (n + 1); does = rules.Idle }) f;
        may = tt;
        written = refl;
      },
      tt,
    )
    go want.Exclusive true = (
      λ by. record {
        from = refl;
        to = ap (λ n. record { owns = rules.Shares n; does = rules.Drains false true }) f;
        may = tt;
        written = refl;
      },
      tt,
    )
plain_resumes (DrainSleeps rounds) token recursive k us w rd h r f g = go (token.0 == 1)
  where
    go : (b : Bool) → IsMove recursive (Resuming (Pending false) b) k us
        (Resumes (record { phase = call.Plain (core_at (DrainSleeps rounds)) }) token)
        (plain_at (rw_at.DrainLoads (record { woken = true; rounds = rounds }))) w (number w) × Unit {0}
    go true = (
      λ by. record {
        from = refl;
        to = ap (λ n. record { owns = rules.Shares n; does = rules.Drains false true }) f;
        may = tt;
        written = refl;
      },
      tt,
    )
    go false = (
      λ by. record {
        from = refl;
        to = ap (λ n. record { owns = rules.Shares n; does = rules.Drains false true }) f;
        may = tt;
        written = refl;
      },
      tt,
    )
plain_resumes p token recursive k us w rd h r f g = absurd rd.1

seeks_resumes : (p : RwPhase) (token : UnparkToken) → Resumed (call.Seeks (core_at p)) token
seeks_resumes (Sleeps wanted) token recursive k us w rd h r f g = go (token.0 == 1)
  where
    go : (b : Bool) → IsMove recursive (Resuming (For rules.Upgradable) b) k us
        (Resumes (record { phase = call.Seeks (core_at (Sleeps wanted)) }) token)
        (upgrade_at (cond b (call.Ends hold.Upgradable Owned)
        (call.Seeks (core_at (cond b (rw.admits wanted true) (rw_at.Loads (rw.begins wanted true))))))) w (number w)
        × IsReady (upgrade_at
        (cond b (call.Ends hold.Upgradable Owned)
        (call.Seeks (core_at (cond b (rw.admits wanted true) (rw_at.Loads (rw.begins wanted true)))))))
    go true = (λ by. record { from = refl; to = refl; may = tt; written = refl }, tt)
    go false = (λ by. record { from = refl; to = refl; may = tt; written = refl }, (rd.0.0, tt))
seeks_resumes p token recursive k us w rd h r f g = absurd rd.1

drains_resumes : (p : RwPhase) (token : UnparkToken) → Resumed (call.Drains (core_at p)) token
drains_resumes (DrainSleeps rounds) token recursive k us w rd h r f g = go (token.0 == 1)
  where
    go : (b : Bool) → IsMove recursive (Resuming (Pending true) b) k us
        (Resumes (record { phase = call.Drains (core_at (DrainSleeps rounds)) }) token)
        (upgrade_at (call.Drains (core_at (rw_at.DrainLoads (record { woken = true; rounds = rounds }))))) w (number w)
        × (Unit {0} × Unit {0})
    go true = (λ by. record { from = refl; to = refl; may = tt; written = refl }, (tt, tt))
    go false = (λ by. record { from = refl; to = refl; may = tt; written = refl }, (tt, tt))
drains_resumes (Sleeps wanted) token recursive k us w rd h r f g = absurd rd.0.0
drains_resumes p token recursive k us w rd h r f g = absurd rd.1

resumes : (p : UpgradePhase) (token : UnparkToken) → Resumed p token
resumes (call.Plain core) token recursive k us w rd h r f g = plain_resumes core.phase token recursive k us w rd h r f g
resumes (call.Seeks core) token recursive k us w rd h r f g = seeks_resumes core.phase token recursive k us w rd h r f g
resumes (call.Drains core) token recursive k us w rd h r f g = drains_resumes core.phase token recursive k us w rd h r f
    g
resumes p token recursive k us w rd h r f g = absurd rd.1

-- ALL ANSWERS

cleared : (w : Word) → IsWord w → w.readers < 2 ^ 60 - 1 → bit_and (number w) (2 ^ 64 - 2) ≡ number
    (record w { parked1 = 0 })
cleared w h r = let e = high w h r in let p = h.parked1 in omega arith

pub timed_follows : (p : TimedRwPhase) (s : TimedSeen) → Follows p s
timed_follows (Asks core) (Plain s) recursive k us w rd h r f g = asks core.phase s recursive k us w rd h r f g
timed_follows (Asks core) Expired recursive k us w rd h r f g = moment core.phase recursive k us w rd h r f g
timed_follows (Asks core) s recursive k us w rd h r f g = absurd (none (table.act_of core.phase) g)
  where
    none : (a : Act) → Gives (made a) (number w) s → ⊥
    none act.Sleep g = g
    none (Done Released) g = g
    none (Done Owned) g = g
    none (Done Refused) g = g
    none a g = g
timed_follows (Expires core) Reentered recursive k us w rd h r f g =
    (reenters core (waiter_of core.phase) refl rd.1 recursive k us w, rd)
timed_follows (Quits core) (Quit last) recursive k us w rd h r f g =
    let P : Option Sleeper → Type 0 = λ x. Takes recursive k us core (waiter_of core.phase) last (quits_as x last) w in
    subst P (sym (agree core.phase rd.1)) (takes_off core (waiter_of core.phase) refl rd.1 recursive k us last w)
timed_follows (Quits core) (WasTaken token) recursive k us w rd h r f g =
    (finds core (waiter_of core.phase) refl rd.1 recursive k us token w, rd)
timed_follows Masks Masked recursive k us w rd h r f g =
    (record { from = refl; to = refl; may = tt; written = cleared w h r }, tt)
timed_follows Leaves Left recursive k us w rd h r f g =
    (record { from = refl; to = refl; may = tt; written = refl }, tt)
timed_follows (LeavesPending from) Left recursive k us w rd h r f g =
    (record { from = refl; to = refl; may = tt; written = refl }, tt)
timed_follows (Resumes core token) Left recursive k us w rd h r f g = resumes core.phase token recursive k us w rd h r f
    g
timed_follows p s recursive k us w rd h r f g = absurd g

pub timed_ends : (p : TimedRwPhase) → EndsRightly p (act_of p)
timed_ends (Asks core) = upgrade_ends core.phase
timed_ends GivesUp = λ k spot us. refl
timed_ends p = tt
