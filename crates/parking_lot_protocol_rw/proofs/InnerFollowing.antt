-- One that goes on as a call of shared and exclusive holds makes the steps of its own mode.
use Rattle.std.proofs.Common.{◌≡◌, ◌<◌, ℕ, ◌+◌, ◌-◌, ◌%◌, ◌^◌, ◌==◌, ◌&&◌, ◌||◌, nat_lt, not, Bool, true, false, cond}
use Rattle.std.proofs.Common.{List, refl, sym, ◌∙◌, subst}
use Rattle.parking_lot_rules.specs.Clauses.{Word, IsWord, number}
use Rattle.parking_lot_rules.specs.Plain as plain
use Rattle.parking_lot_rules.specs.Roles as rules
use Rattle.parking_lot_rules.specs.Steps.{Retry, OwnUpgradable}
use Rattle.parking_lot_protocol.proofs.MutexFollowing.{either}
use Rattle.parking_lot_protocol.proofs.RwWords.{both, pends, read, unread, parked, unparked, parked2, unparked2, bars}
use Rattle.parking_lot_protocol.proofs.RwWords.{parked_word, parked2_word}
use Rattle.parking_lot_protocol.specs.Acts.{Gives, word_after}
use Rattle.parking_lot_protocol.specs.declared.act.Act.TheVariants as act
use Rattle.parking_lot_protocol.specs.Positions.{QueuePosition, Listed}
use Rattle.parking_lot_protocol.specs.RwRules.{IsToken, Move, Stays, Makes, TakesOne, mode_by}
use Rattle.parking_lot_protocol.specs.RwRules as rw
use Rattle.parking_lot_protocol.specs.RwTable.{is_parked, is_writer_parked, has_readers, has_room, is_barred}
use Rattle.parking_lot_protocol.specs.RwTable.{is_admitted, admits, seeks, begins}
use Rattle.parking_lot_protocol.specs.declared.act.ActResult.{ActResult}
use Rattle.parking_lot_protocol.specs.declared.act.ActResult.TheVariants as seen
use Rattle.parking_lot_protocol.specs.declared.rw_phase.Draining.{Draining}
use Rattle.parking_lot_protocol.specs.declared.rw_phase.LockMode.{LockMode}
use Rattle.parking_lot_protocol.specs.declared.rw_phase.LockMode.TheVariants as want
use Rattle.parking_lot_protocol.specs.declared.rw_phase.Outcome.TheVariants as outcome
use Rattle.parking_lot_protocol.specs.declared.rw_phase.RwPhase.{RwPhase}
use Rattle.parking_lot_protocol.specs.declared.rw_phase.RwPhase.TheVariants.{Loads, Admits, Spins, SetParked, Enters}
use Rattle.parking_lot_protocol.specs.declared.rw_phase.RwPhase.TheVariants.{Checks, Retreats, Appends, Rests, Sleeps}
use Rattle.parking_lot_protocol.specs.declared.rw_phase.RwPhase.TheVariants.{DrainLoads, DrainSpins, DrainSetParked}
use Rattle.parking_lot_protocol.specs.declared.rw_phase.RwPhase.TheVariants.{DrainEnters, DrainChecks, DrainRetreats}
use Rattle.parking_lot_protocol.specs.declared.rw_phase.RwPhase.TheVariants.{DrainAppends, DrainRests, DrainSleeps}
use Rattle.parking_lot_protocol.specs.declared.rw_phase.RwPhase.TheVariants.{Ends}
use Rattle.parking_lot_protocol.specs.declared.rw_phase.Seeking.{Seeking}
use Rattle.parking_lot_protocol_rw.proofs.UpgradeWords.{upgradable_word}
use Rattle.parking_lot_protocol_rw.specs.UpgradeMoves.{IsMove}
use Rattle.parking_lot_protocol_rw.specs.UpgradeRoles.{role}
use Rattle.parking_lot_protocol_rw.specs.UpgradeRules.{Follows, IsReady}
use Rattle.parking_lot_protocol_rw.specs.UpgradeTable.{core_at}
use Rattle.parking_lot_protocol_rw.specs.declared.upgrade_phase.Hold.TheVariants as hold
use Rattle.parking_lot_protocol_rw.specs.declared.upgrade_phase.UpgradePhase.{UpgradePhase}
use Rattle.parking_lot_protocol_rw.specs.declared.upgrade_phase.UpgradePhase.TheVariants as phase
use Rattle.parking_lot_protocol_rw.specs.declared.upgrade_phase.UpgradePhase.TheVariants.{Seeks}
use Rattle.parking_lot_protocol.specs.declared.act.CoreAnswer.TheVariants.{Owned}

-- ONE THAT ASKS FOR THE UPGRADABLE HOLD

abbrev asks : RwPhase → UpgradePhase
asks p = Seeks (core_at p)

pub seeks_role : (k : ℕ) (spot : QueuePosition) (us : List ℕ) (a : Seeking) (word : ℕ)
    → role k spot us (asks (seeks a word)) ≡ role k spot us (asks (Loads a))
seeks_role k spot us a word =
    either (λ p. role k spot us (asks p)) (is_admitted a.want word) _ _ _ refl
    (either (λ p. role k spot us (asks p)) (is_barred a.want word) _ _ _
    (either (λ p. role k spot us (asks p)) (not (is_parked word || is_writer_parked word) && nat_lt 0 a.rounds) _ _ _
    refl (either (λ p. role k spot us (asks p)) (is_parked word) _ _ _ refl refl)) refl)

pub seeks_ready : (a : Seeking) (word : ℕ) → a.want ≡ want.Exclusive → IsReady (asks (seeks a word))
seeks_ready a word x = go (is_admitted a.want word) (is_barred a.want word)
    (not (is_parked word || is_writer_parked word) && nat_lt 0 a.rounds) (is_parked word) refl refl refl
  where
    go : (b c d e : Bool) → is_admitted a.want word ≡ b → is_barred a.want word ≡ c → is_parked word ≡ e
        → IsReady (asks (cond b (Admits a word)
        (cond c (cond d (Spins a) (cond e (Enters a.want a.woken) (SetParked a word))) (Loads a))))
    go true c d e eb ec ee = (x, eb)
    go false true true e eb ec ee = (x, tt)
    go false true false true eb ec ee = (x, tt)
    go false true false false eb ec ee = (x, (ec, ee, eb))
    go false false d e eb ec ee = (x, tt)

module _ (recursive : Bool) (k : ℕ) (us : List ℕ) (w : Word) (h : IsWord w) (r : w.readers < 2 ^ 60 - 1) where
  abbrev Moves : Move → UpgradePhase → UpgradePhase → ℕ → Type 0
  Moves m p q word = IsMove recursive m k us p q w word × IsReady q

  admitted : (woken : Bool) (a : Seeking) → a.want ≡ want.Exclusive → is_admitted a.want (number w) ≡ true
      → Moves (Makes (plain.Upgradably a.woken)) (asks (Admits a (number w))) (phase.Ends hold.Upgradable Owned)
      ((number w + 20) % 2 ^ 64)
  admitted woken a x e =
      let z = pends w h (subst (λ m. is_admitted m (number w) ≡ true) x e) in
      (record { from = refl; to = refl; may = z; written = upgradable_word w h r z.0 z.1 }, tt)

  flagged : (a : Seeking) → IsReady (asks (SetParked a (number w)))
      → Moves (Makes (plain.Flag1 rules.Upgradable a.woken)) (asks (SetParked a (number w)))
      (asks (Enters a.want a.woken)) ((number w + 1) % 2 ^ 64)
  flagged a e =
      let u = unparked w h e.1.1 in
      let b = bars w h want.Exclusive (subst (λ m. is_barred m (number w) ≡ true) e.0 e.1.0) in
      (record { from = refl; to = refl; may = (u, b); written = parked_word w h r u }, (e.0, tt))

  checked : (wanted : LockMode) (woken : Bool) → wanted ≡ want.Exclusive → (b : Bool) → is_barred wanted (number w)
      && is_parked (number w) ≡ b
      → Moves (cond b (Makes (plain.Check1 rules.Upgradable woken)) Stays) (asks (Checks wanted woken))
      (asks (cond b (Appends wanted) (Retreats wanted woken))) (number w)
  checked wanted woken x true e =
      let t = both (is_barred wanted (number w)) (is_parked (number w)) e in
      let b = bars w h want.Exclusive (subst (λ m. is_barred m (number w) ≡ true) x t.0) in
      (record { from = refl; to = refl; may = (parked w h t.1, b); written = refl }, (x, tt))
  checked wanted woken x false e = ((λ spot. refl, refl), (x, tt))

  roused : (wanted : LockMode) → wanted ≡ want.Exclusive → (b : Bool)
      → Moves (rw.IsWoken (cond b OwnUpgradable (Retry rules.Upgradable))) (asks (Sleeps wanted))
      (cond b (phase.Ends hold.Upgradable Owned) (asks (cond b (admits wanted true) (Loads (begins wanted true)))))
      (number w)
  roused wanted x true = (λ by. (refl, refl, refl), tt)
  roused wanted x false = (λ by. (refl, refl, refl), (x, tt))

abbrev Told : RwPhase → ActResult → Type 0
Told p s = Follows (asks p) s

pub seeks_follows : (p : RwPhase) (s : ActResult) → Told p s
seeks_follows (Loads a) (seen.Word v) recursive k us w rd h r f g =
    ((λ spot. seeks_role k spot us a v, refl), seeks_ready a v rd.0)
seeks_follows (Admits a word) seen.Exchanged recursive k us w rd h r f g = won (has_room word) refl g
  where
    won : (b : Bool) → has_room word ≡ b → Gives (cond b (act.Exchange word ((word + 20) % 2 ^ 64)) act.Load) (number w)
        seen.Exchanged
        → IsMove recursive (Makes (plain.Upgradably a.woken)) k us (asks (Admits a word))
        (phase.Ends hold.Upgradable Owned) w
        (word_after (cond b (act.Exchange word ((word + 20) % 2 ^ 64)) act.Load) seen.Exchanged (number w))
        × Unit {0}
    won true e g =
        let P : ℕ → Type 0 = λ x. is_admitted a.want x ≡ true → IsMove recursive (Makes (plain.Upgradably a.woken)) k us
        (asks (Admits a x)) (phase.Ends hold.Upgradable Owned) w ((x + 20) % 2 ^ 64) × Unit {0} in
        subst P g (λ e. admitted recursive k us w h r a.woken a rd.0 e) rd.1
    won false e g = absurd g
seeks_follows (Admits a word) (seen.Word v) recursive k us w rd h r f g = lost (has_room word)
  where
    lost : (b : Bool) → IsMove recursive Stays k us (asks (Admits a word)) (asks (seeks a v)) w
        (word_after (cond b (act.Exchange word ((word + 20) % 2 ^ 64)) act.Load) (seen.Word v) (number w))
        × IsReady (asks (seeks a v))
    lost true = ((λ spot. seeks_role k spot us a v, refl), seeks_ready a v rd.0)
    lost false = ((λ spot. seeks_role k spot us a v, refl), seeks_ready a v rd.0)
seeks_follows (Admits a word) s recursive k us w rd h r f g = absurd (none (has_room word) g)
  where
    none : (b : Bool) → Gives (cond b (act.Exchange word ((word + 20) % 2 ^ 64)) act.Load) (number w) s → ⊥
    none true g = absurd g
    none false g = absurd g
seeks_follows (Spins a) (seen.Spun spun) recursive k us w rd h r f g = ((λ spot. refl, refl), (rd.0, tt))
seeks_follows (SetParked a word) seen.Exchanged recursive k us w rd h r f g =
    let P : ℕ → Type 0 = λ x. IsReady (asks (SetParked a x))
    → IsMove recursive (Makes (plain.Flag1 rules.Upgradable a.woken)) k us (asks (SetParked a x))
    (asks (Enters a.want a.woken)) w ((x + 1) % 2 ^ 64) × IsReady (asks (Enters a.want a.woken)) in
    subst P g (λ e. flagged recursive k us w h r a e) rd
seeks_follows (SetParked a word) (seen.Word v) recursive k us w rd h r f g =
    ((λ spot. seeks_role k spot us a v, refl), seeks_ready a v rd.0)
seeks_follows (Enters wanted woken) seen.Entered recursive k us w rd h r f g =
    (record { from = refl; to = refl; may = refl; written = refl }, (rd.0, tt))
seeks_follows (Checks wanted woken) (seen.Word v) recursive k us w rd h r f g =
    let B : ℕ → Bool = λ x. is_barred wanted x && is_parked x in
    let Q : ℕ → UpgradePhase = λ x. asks (cond (B x) (Appends wanted) (Retreats wanted woken)) in
    let P : ℕ → Type 0 = λ x. IsMove recursive (cond (B x) (Makes (plain.Check1 rules.Upgradable woken)) Stays) k us
    (asks (Checks wanted woken)) (Q x) w (number w) × IsReady (Q x) in
    subst P (sym g) (checked recursive k us w h r wanted woken rd.0 (B (number w)) refl)
seeks_follows (Retreats wanted woken) seen.Made recursive k us w rd h r f g =
    (record { from = refl; to = refl; may = tt; written = refl }, (rd.0, tt))
seeks_follows (Appends wanted) seen.Made recursive k us w rd h r f g = ((refl, refl, refl), (rd.0, tt))
seeks_follows (Rests wanted) seen.Made recursive k us w rd h r f g =
    (record { from = refl; to = refl; may = tt; written = refl }, (rd.0, tt))
seeks_follows (Sleeps wanted) (seen.Woken token) recursive k us w rd h r f g = roused recursive k us w h r wanted rd.0
    (token.0 == 1)
seeks_follows (Loads a) s recursive k us w rd h r f g = absurd g
seeks_follows (Spins a) s recursive k us w rd h r f g = absurd g
seeks_follows (SetParked a word) s recursive k us w rd h r f g = absurd g
seeks_follows (Enters wanted woken) s recursive k us w rd h r f g = absurd g
seeks_follows (Checks wanted woken) s recursive k us w rd h r f g = absurd g
seeks_follows (Retreats wanted woken) s recursive k us w rd h r f g = absurd g
seeks_follows (Appends wanted) s recursive k us w rd h r f g = absurd g
seeks_follows (Rests wanted) s recursive k us w rd h r f g = absurd g
seeks_follows (Sleeps wanted) s recursive k us w rd h r f g = absurd g
seeks_follows p s recursive k us w rd h r f g = absurd rd.0

-- ONE THAT WAITS FOR READERS TO LEAVE

abbrev waits : RwPhase → UpgradePhase
waits p = phase.Drains (core_at p)

abbrev drained : Draining → ℕ → RwPhase
drained d word = cond (has_readers word)
    (cond (nat_lt 0 d.rounds) (DrainSpins d) (cond (is_writer_parked word) (DrainEnters d) (DrainSetParked d word)))
    (Ends outcome.Exclusive)

module _ (recursive : Bool) (k : ℕ) (us : List ℕ) (w : Word) (h : IsWord w) (r : w.readers < 2 ^ 60 - 1) where
  drains_role : (spot : QueuePosition) (d : Draining) (word : ℕ)
      → role k spot us (waits
      (cond (nat_lt 0 d.rounds) (DrainSpins d) (cond (is_writer_parked word) (DrainEnters d) (DrainSetParked d word))))
      ≡ role k spot us (waits (DrainLoads d))
  drains_role spot d word = either (λ p. role k spot us (waits p)) (nat_lt 0 d.rounds) _ _ _ refl
      (either (λ p. role k spot us (waits p)) (is_writer_parked word) _ _ _ refl refl)

  drains_at : (p : RwPhase) (d : Draining) → role k Listed us (waits p) ≡ plain.from (plain.Drain true d.woken)
      → ((spot : QueuePosition) → role k spot us (waits (DrainLoads d)) ≡ role k spot us (waits p)) → (b : Bool)
      → has_readers (number w) ≡ b
      → Moves recursive k us w h r (cond b Stays (Makes (plain.Drain true d.woken))) (waits p)
      (waits (cond b (cond (nat_lt 0 d.rounds) (DrainSpins d)
      (cond (is_writer_parked (number w)) (DrainEnters d) (DrainSetParked d (number w)))) (Ends outcome.Exclusive)))
      (number w)
  drains_at p d from same true e = (
    (λ spot. drains_role spot d (number w) ∙ same spot, refl),
    ready (nat_lt 0 d.rounds) (is_writer_parked (number w)) refl,
  )
    where
      ready : (a b : Bool) → is_writer_parked (number w) ≡ b
          → IsReady (waits (cond a (DrainSpins d) (cond b (DrainEnters d) (DrainSetParked d (number w)))))
      ready true b eb = (tt, tt)
      ready false true eb = (tt, tt)
      ready false false eb = (tt, (e, eb))
  drains_at p d from same false e = (record { from = from; to = refl; may = unread w h e; written = refl }, (refl, tt))

  checked2 : (d : Draining) → (b : Bool) → has_readers (number w) && is_writer_parked (number w) ≡ b
      → Moves recursive k us w h r (cond b (Makes (plain.Check2 true d.woken)) Stays) (waits (DrainChecks d))
      (waits (cond b (DrainAppends d.rounds) (DrainRetreats d))) (number w)
  checked2 d true e =
      let t = both (has_readers (number w)) (is_writer_parked (number w)) e in
      (record { from = refl; to = refl; may = (parked2 w h t.1, read w h t.0); written = refl }, (tt, tt))
  checked2 d false e = ((λ spot. refl, refl), (tt, tt))

  flagged2 : (d : Draining) → IsReady (waits (DrainSetParked d (number w)))
      → Moves recursive k us w h r (Makes (plain.Flag2 true d.woken)) (waits (DrainSetParked d (number w)))
      (waits (DrainEnters d)) ((number w + 2) % 2 ^ 64)
  flagged2 d e =
      let u = unparked2 w h e.1.1 in
      (record { from = refl; to = refl; may = (u, read w h e.1.0); written = parked2_word w h r u }, (tt, tt))

pub drains_follows : (p : RwPhase) (s : ActResult) → Follows (waits p) s
drains_follows (DrainLoads d) (seen.Word v) recursive k us w rd h r f g =
    let P : ℕ → Type 0 = λ x. IsMove recursive (cond (has_readers x) Stays (Makes (plain.Drain true d.woken))) k us
    (waits (DrainLoads d)) (waits (drained d x)) w (number w) × IsReady (waits (drained d x)) in
    subst P (sym g) (drains_at recursive k us w h r (DrainLoads d) d refl (λ spot. refl) (has_readers (number w)) refl)
drains_follows (DrainSpins d) (seen.Spun spun) recursive k us w rd h r f g = ((λ spot. refl, refl), (tt, tt))
drains_follows (DrainSetParked d word) seen.Exchanged recursive k us w rd h r f g =
    let P : ℕ → Type 0 = λ x. IsReady (waits (DrainSetParked d x)) → IsMove recursive (Makes (plain.Flag2 true d.woken))
    k us (waits (DrainSetParked d x)) (waits (DrainEnters d)) w ((x + 2) % 2 ^ 64)
    × IsReady (waits (DrainEnters d)) in
    subst P g (λ e. flagged2 recursive k us w h r d e) rd
drains_follows (DrainSetParked d word) (seen.Word v) recursive k us w rd h r f g =
    let P : ℕ → Type 0 = λ x. IsMove recursive (cond (has_readers x) Stays (Makes (plain.Drain true d.woken))) k us
    (waits (DrainSetParked d word)) (waits (drained d x)) w (number w) × IsReady (waits (drained d x)) in
    subst P (sym g.0) (drains_at recursive k us w h r (DrainSetParked d word) d refl (λ spot. refl)
    (has_readers (number w)) refl)
drains_follows (DrainEnters d) seen.Entered recursive k us w rd h r f g =
    (record { from = refl; to = refl; may = refl; written = refl }, (tt, tt))
drains_follows (DrainChecks d) (seen.Word v) recursive k us w rd h r f g =
    let B : ℕ → Bool = λ x. has_readers x && is_writer_parked x in
    let Q : ℕ → UpgradePhase = λ x. waits (cond (B x) (DrainAppends d.rounds) (DrainRetreats d)) in
    let P : ℕ → Type 0 = λ x. IsMove recursive (cond (B x) (Makes (plain.Check2 true d.woken)) Stays) k us
    (waits (DrainChecks d)) (Q x) w (number w) × IsReady (Q x) in
    subst P (sym g) (checked2 recursive k us w h r d (B (number w)) refl)
drains_follows (DrainRetreats d) seen.Made recursive k us w rd h r f g =
    (record { from = refl; to = refl; may = tt; written = refl }, (tt, tt))
drains_follows (DrainAppends rounds) seen.Made recursive k us w rd h r f g = ((refl, refl, refl), (tt, tt))
drains_follows (DrainRests rounds) seen.Made recursive k us w rd h r f g =
    (record { from = refl; to = refl; may = tt; written = refl }, (tt, tt))
drains_follows (DrainSleeps rounds) (seen.Woken token) recursive k us w rd h r f g =
    (λ by. (refl, refl, refl), (tt, tt))
drains_follows (DrainLoads d) s recursive k us w rd h r f g = absurd g
drains_follows (DrainSpins d) s recursive k us w rd h r f g = absurd g
drains_follows (DrainSetParked d word) s recursive k us w rd h r f g = absurd g
drains_follows (DrainEnters d) s recursive k us w rd h r f g = absurd g
drains_follows (DrainChecks d) s recursive k us w rd h r f g = absurd g
drains_follows (DrainRetreats d) s recursive k us w rd h r f g = absurd g
drains_follows (DrainAppends rounds) s recursive k us w rd h r f g = absurd g
drains_follows (DrainRests rounds) s recursive k us w rd h r f g = absurd g
drains_follows (DrainSleeps rounds) s recursive k us w rd h r f g = absurd g
drains_follows (Ends end) s recursive k us w rd h r f g = absurd g
drains_follows p s recursive k us w rd h r f g = absurd rd.0
