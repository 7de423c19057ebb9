-- What a phase at a reader-writer lock costs that has just seen the word, or that comes after a release.
use Rattle.std.proofs.Common.{◌≡◌, ◌≤◌, ◌<◌, ℕ, ◌+◌, ◌-◌, ◌*◌, ◌/◌, ◌^◌, ◌==◌, ◌&&◌, ◌||◌, nat_lt, not, Bool, true}
use Rattle.std.proofs.Common.{false, cond, refl, sym, subst, arith, ◌%◌, min, Option, Some, None, option_map, is_some}
use Rattle.std.proofs.Common.{ap, ◌∙◌}
use Rattle.std.proofs.lemmas.Bool.{both_ways, ltb-true, lt-ltb, eq-eqb, cond_both, and_parts, and_from, eqb-false}
use Rattle.std.proofs.lemmas.Bool.{ne_eqb, cond-true, cond-false, not_from_false}
use Rattle.std.specs.Option.{option_map_or}
use Rattle.std.proofs.Math.Nat.{mod-eq_of_lt}
use Rattle.parking_lot_protocol.specs.declared.rw_phase.LockMode.{LockMode}
use Rattle.parking_lot_protocol.specs.declared.rw_phase.AfterWake.{AfterWake}
use Rattle.parking_lot_protocol.specs.declared.rw_phase.Seeking.{Seeking}
use Rattle.parking_lot_protocol.specs.declared.rw_phase.Draining.{Draining}
use Rattle.parking_lot_protocol.specs.declared.rw_phase.Scanning.{Scanning}
use Rattle.parking_lot_protocol.specs.declared.rw_phase.RwPhase.{RwPhase}
use Rattle.parking_lot_protocol.specs.RwTable.{is_parked, is_writer_parked, is_written, is_upgradable, has_readers}
use Rattle.parking_lot_protocol.specs.RwTable.{has_room, is_barred, is_admitted, is_tried, count_of, act_of, next_phase}
use Rattle.parking_lot_protocol.specs.RwTable.{begins}
use Rattle.parking_lot_machine.specs.Ranks.{View, Sees, Shut, wake, scan, comes_after, drains, rw_asks, rw_ends}
use Rattle.parking_lot_machine.specs.Ranks.{rw_steps}
use Rattle.parking_lot_machine.specs.Ranks.{vain, rw_parks, drain_parks, keeps_out, keeps_waiting, Unseen, may_find}
use Rattle.parking_lot_core_model.specs.declared.parking.ParkToken.{ParkToken}
use Rattle.parking_lot_protocol.specs.declared.act.ActResult.{ActResult}
use Rattle.parking_lot_protocol.specs.declared.rw_phase.RwPhase.TheVariants.{Loads, Admits, Spins, SetParked, Enters}
use Rattle.parking_lot_protocol.specs.declared.rw_phase.RwPhase.TheVariants.{Checks, Retreats, Appends, Rests, Sleeps}
use Rattle.parking_lot_protocol.specs.declared.rw_phase.RwPhase.TheVariants.{DrainLoads, DrainSpins, DrainSetParked}
use Rattle.parking_lot_protocol.specs.declared.rw_phase.RwPhase.TheVariants.{DrainEnters, DrainChecks, DrainRetreats}
use Rattle.parking_lot_protocol.specs.declared.rw_phase.RwPhase.TheVariants.{DrainAppends, DrainRests, DrainSleeps}
use Rattle.parking_lot_protocol.specs.declared.rw_phase.RwPhase.TheVariants.{TryLoads, TryAdmits, BumpLoads, Relocks}
use Rattle.parking_lot_protocol.specs.declared.rw_phase.RwPhase.TheVariants.{Unshares, EnterWriterWakeSection}
use Rattle.parking_lot_protocol.specs.declared.rw_phase.RwPhase.TheVariants.{TakeWriter, ClearWriterParked}
use Rattle.parking_lot_protocol.specs.declared.rw_phase.RwPhase.TheVariants.{LeaveWriterWakeSection, Unlocks}
use Rattle.parking_lot_protocol.specs.declared.rw_phase.RwPhase.TheVariants.{LooksExclusive, Downgrades}
use Rattle.parking_lot_protocol.specs.declared.rw_phase.RwPhase.TheVariants.{EnterWakeSection, Scans, Stores, Leaves}
use Rattle.parking_lot_protocol.specs.declared.rw_phase.RwPhase.TheVariants.{Wakes, Finishes, Invalid, Locking, Trying}
use Rattle.parking_lot_protocol.specs.declared.rw_phase.RwPhase.TheVariants.{UnlockingShared, UnlockingExclusive}
use Rattle.parking_lot_protocol.specs.declared.rw_phase.RwPhase.TheVariants.{Downgrading, BumpingShared}
use Rattle.parking_lot_protocol.specs.declared.rw_phase.RwPhase.TheVariants.{BumpingExclusive, Refuses, Ends}
use Rattle.parking_lot_protocol.specs.Acts.{Gives, word_after}
use Rattle.parking_lot_rules.specs.Classes.{bit}
use Rattle.parking_lot_protocol.specs.RwRules.{IsReady}
use Rattle.parking_lot_core_model.specs.declared.parking.UnparkToken.{UnparkToken}
use Rattle.parking_lot_protocol.specs.declared.act.Act.{Act}
use Rattle.parking_lot_machine_calls.specs.Stances.{rw_stance, rw_taken}
use Rattle.parking_lot_machine.specs.RankLaws.{RwStepsFall, StopsAt}
use Rattle.parking_lot_protocol.specs.RwTable as of_rw
use Rattle.parking_lot_machine.specs.RankLaws as laws
use Rattle.parking_lot_protocol.specs.declared.act.SectionAct.TheVariants as section
use Rattle.parking_lot_protocol.specs.declared.act.ActResult.TheVariants as seen

-- TESTS

pub if_so : (b : Bool) (x y c : ℕ) → b ≡ true → x ≤ c → cond b x y ≤ c
if_so b x y c e h = subst (λ t. cond t x y ≤ c) (sym e) h

pub if_either : (b : Bool) (x y c : ℕ) → x ≤ c → y ≤ c → cond b x y ≤ c
if_either b x y c h k = cond_both b x y (λ z. z ≤ c) (λ e. h) (λ e. k)

-- one that isn't barred is admitted, as one reader more can be counted
not_barred : (want : LockMode) (word : ℕ) → word / 16 < 2 ^ 60 - 1 → is_admitted want word ≡ false
    → is_barred want word ≡ true
not_barred (LockMode.Shared recursive) word few e = go (has_room word) (is_written word) (recursive && has_readers word)
    (lt-ltb (word / 16) (2 ^ 60 - 1) few) e
  where
    go : (a b c : Bool) → a ≡ true → a && (not b || c) ≡ false → b ≡ true
    go true true c r e = refl
    go true false c r e = absurd (both_ways true e refl)
    go false b c r e = absurd (both_ways false refl r)
not_barred LockMode.Exclusive word few e = go (is_written word || is_upgradable word) e
  where
    go : (a : Bool) → not a ≡ false → a ≡ true
    go true e = refl
    go false e = absurd (both_ways true e refl)

-- ONE THAT HAS JUST SEEN THE WORD

module _ (n word first : ℕ) (shut : Shut) where
  abbrev AtMost : ℕ → RwPhase → Type 0
  AtMost c p = rw_steps n (Sees word first shut) p ≤ c

  -- its exchange would be won
  at_word : (x y c : ℕ) → x ≤ c → cond (word == word) x y ≤ c
  at_word x y c h = if_so (word == word) x y c (eq-eqb word word refl) h

  seeks_at : (a : Seeking) → word / 16 < 2 ^ 60 - 1 → AtMost (rw_asks (Sees word first shut) a.want a.rounds)
      (of_rw.seeks a word)
  seeks_at a few =
      cond_both (is_admitted a.want word) _ _ (AtMost _) (λ e. at_word _ _ _ (omega arith))
      (λ no. cond_both (is_barred a.want word) _ _ (AtMost _) (λ bar.
      cond_both (not (is_parked word || is_writer_parked word) && nat_lt 0 a.rounds) _ _ (AtMost _)
      (λ e. omega (arith, ltb-true 0 a.rounds (and_parts _ _ e).1))
      (λ e. cond_both (is_parked word) _ _ (AtMost _) (λ p. if_so _ _ _ _ (and_from _ _ bar p) (omega arith))
      (λ p. at_word _ _ _ (omega arith))))
      (λ e. absurd (both_ways (is_barred a.want word) e (not_barred a.want word few no))))

  drains_at : (d : Draining) → AtMost (drains (Sees word first shut) d.rounds) (of_rw.drains d word)
  drains_at d =
      cond_both (has_readers word) _ _ (AtMost _) (λ some.
      cond_both (nat_lt 0 d.rounds) _ _ (AtMost _) (λ e. omega (arith, ltb-true 0 d.rounds e))
      (λ e. cond_both (is_writer_parked word) _ _ (AtMost _) (λ p. if_so _ _ _ _ (and_from _ _ some p) (omega arith))
      (λ p. at_word _ _ _ (omega arith))))
      (λ e. omega arith)

  tries_at : (want : LockMode) (left : ℕ) → AtMost 2 (of_rw.tries want left word)
  tries_at want left = cond_both (is_tried want word) _ _ (AtMost _) (λ e. at_word _ _ _ (omega arith))
      (λ e. omega arith)

  pub seeks_cost : (a : Seeking) (seen : ℕ) → seen ≡ word → word / 16 < 2 ^ 60 - 1
      → AtMost (rw_asks (Sees word first shut) a.want a.rounds) (of_rw.seeks a seen)
  seeks_cost a seen e few = subst (λ x. AtMost (rw_asks (Sees word first shut) a.want a.rounds) (of_rw.seeks a x))
      (sym e) (seeks_at a few)

  pub drains_cost : (d : Draining) (seen : ℕ) → seen ≡ word → AtMost (drains (Sees word first shut) d.rounds)
      (of_rw.drains d seen)
  drains_cost d seen e = subst (λ x. AtMost (drains (Sees word first shut) d.rounds) (of_rw.drains d x)) (sym e)
      (drains_at d)

  pub tries_cost : (want : LockMode) (left seen : ℕ) → seen ≡ word → AtMost 2 (of_rw.tries want left seen)
  tries_cost want left seen e = subst (λ x. AtMost 2 (of_rw.tries want left x)) (sym e) (tries_at want left)

  pub retries_cost : (want : LockMode) (left seen : ℕ) → seen ≡ word → AtMost 2 (of_rw.retries want left seen)
  retries_cost want left seen e = cond_both (nat_lt 0 left) _ _ (AtMost _) (λ b. tries_cost want (left - 1) seen e)
      (λ b. omega arith)

-- WHAT COMES NEXT

module _ (n : ℕ) (v : View) where
  abbrev Within : ℕ → RwPhase → Type 0
  Within c p = rw_steps n v p ≤ c

  pub admits_cost : (want : LockMode) (woken : Bool) → Within (comes_after v want) (of_rw.admits want woken)
  admits_cost (LockMode.Shared recursive) woken = omega arith
  admits_cost LockMode.Exclusive woken = omega arith

  pub over_cost : (rest : AfterWake) → Within (rw_ends v rest) (of_rw.over rest)
  over_cost AfterWake.FreedShared = omega arith
  over_cost AfterWake.FreedExclusive = omega arith
  over_cost AfterWake.Downgraded = omega arith
  over_cost AfterWake.AgainShared = omega arith
  over_cost AfterWake.AgainExclusive = omega arith

  pub end_costs : (rest : AfterWake) → 1 ≤ rw_ends v rest
  end_costs AfterWake.FreedShared = omega arith
  end_costs AfterWake.FreedExclusive = omega arith
  end_costs AfterWake.Downgraded = omega arith
  end_costs AfterWake.AgainShared = omega arith
  end_costs AfterWake.AgainExclusive = omega arith

  pub wakes_cost : (rest : AfterWake) (count : ℕ) → Within (wake * count + 1 + rw_ends v rest) (of_rw.wakes rest count)
  wakes_cost rest count = cond_both (nat_lt 0 count) _ _ (Within _) (λ e. omega arith) (λ e. omega arith)

  pub goes_on_cost : (left : Bool) (s : Scanning) → Within (scan n v + wake * count_of s + 4 + rw_ends v s.rest)
      (of_rw.goes_on left s)
  goes_on_cost left s = cond_both (left && not s.writer) _ _ (Within _) (λ e. omega arith) (λ e. omega arith)

-- Each act of a call at a reader-writer lock that the thread makes itself lowers the steps that are left.

-- WORDS

-- a sum that stays below 2^64, as one reader more can be counted
added : (word by : ℕ) → word / 16 < 2 ^ 60 - 1 → by ≤ 16 → (word + by) % 2 ^ 64 ≡ word + by
added word by few small = mod-eq_of_lt (omega arith)

bars_same : (want : LockMode) (x y : ℕ) → x / 4 ≡ y / 4 → is_barred want x ≡ is_barred want y
bars_same (LockMode.Shared recursive) x y e = ap (λ k. k == 1) (omega (arith, e))
bars_same LockMode.Exclusive x y e =
    let a : x / 8 % 2 ≡ y / 8 % 2 = omega (arith, e) in
    let b : x / 4 % 2 ≡ y / 4 % 2 = omega (arith, e) in
    ap (λ k. (k == 1) || (x / 4 % 2 == 1)) a ∙ ap (λ k. (y / 8 % 2 == 1) || (k == 1)) b

-- the word that says that somebody waits keeps out whom the one before it barred
flagged : (want : LockMode) (word first : ℕ) (shut : Shut) → word / 16 < 2 ^ 60 - 1 → is_barred want word ≡ true
    → is_parked word ≡ false → keeps_out (Sees ((word + 1) % 2 ^ 64) first shut) want ≡ true
flagged want word first shut few bar clear =
    let n = eqb-false (word % 2) 1 clear in
    let e = added word 1 few (omega arith) in
    and_from _ _ (bars_same want ((word + 1) % 2 ^ 64) word (omega (arith, e, n)) ∙ bar)
    (eq-eqb ((word + 1) % 2 ^ 64 % 2) 1 (omega (arith, e, n)))

flagged2 : (word first : ℕ) (shut : Shut) → word / 16 < 2 ^ 60 - 1 → has_readers word ≡ true
    → is_writer_parked word ≡ false → keeps_waiting (Sees ((word + 2) % 2 ^ 64) first shut) ≡ true
flagged2 word first shut few some clear =
    let n = eqb-false (word / 2 % 2) 1 clear in
    let e = added word 2 few (omega arith) in
    let r = ltb-true 0 (word / 16) some in
    and_from _ _ (lt-ltb 0 ((word + 2) % 2 ^ 64 / 16) (omega (arith, e, r)))
    (eq-eqb ((word + 2) % 2 ^ 64 / 2 % 2) 1 (omega (arith, e, n)))

-- COSTS

is_round : ActResult → Bool
is_round (ActResult.Spun spun) = spun
is_round s = true

bit_most : (b : Bool) → bit b ≤ 1
bit_most true = omega arith
bit_most false = omega arith

pub vain_least : (want : LockMode) → 4 ≤ vain want
vain_least (LockMode.Shared recursive) = omega arith
vain_least LockMode.Exclusive = omega arith

-- one that enters finds the word unchanged
enters : (b : Bool) (parks most : ℕ) → parks ≡ 4 → 4 ≤ most → cond b 3 (most - 1) + 1 ≤ cond b parks most
enters true parks most e h = omega arith
enters false parks most e h = omega arith

enters2 : (b : Bool) (parks more : ℕ) → parks ≡ 4 → cond b (3 + more) (8 + more) + 1 ≤ cond b (parks + more) (9 + more)
enters2 true parks more e = omega arith
enters2 false parks more e = omega arith

opened : (shut : Bool) (x : ℕ) → shut ≡ false → cond (not shut) 4 x ≡ 4
opened shut x e = cond-true (not shut) 4 x (not_from_false shut e)

-- it finds as many as before
found : (n first after : ℕ) (shut : Bool) → after ≡ first → cond shut n after ≡ cond shut n first
found n first after shut e = ap (λ k. cond shut n k) e

-- what is seen costs no more than what isn't
drains_most : (shut : Bool) → cond (not shut) 4 9 ≤ 9
drains_most true = omega arith
drains_most false = omega arith

parks_most : (want : LockMode) (shut : Bool) → cond (not shut) 4 (vain want) ≤ vain want
parks_most want true = omega arith
parks_most want false = vain_least want

module _ (word first : ℕ) (shut : Shut) where
  comes_few : (want : LockMode) → comes_after (Sees word first shut) want ≤ comes_after Unseen want
  comes_few (LockMode.Shared recursive) = omega arith
  comes_few LockMode.Exclusive = omega (arith, drains_most shut.second)

  asks_few : (want : LockMode) (rounds : ℕ) → rw_asks (Sees word first shut) want rounds ≤ rw_asks Unseen want rounds
  asks_few want rounds = omega (arith, parks_most want shut.first, comes_few want)

  ends_few : (rest : AfterWake) → rw_ends (Sees word first shut) rest ≤ rw_ends Unseen rest
  ends_few AfterWake.FreedShared = omega arith
  ends_few AfterWake.FreedExclusive = omega arith
  ends_few AfterWake.Downgraded = omega arith
  ends_few AfterWake.AgainShared = omega (arith, asks_few (LockMode.Shared false) 10)
  ends_few AfterWake.AgainExclusive = omega (arith, asks_few LockMode.Exclusive 10)

-- A THREAD THAT CAN GO ON

module _ (n word first after : ℕ) (shut : Shut) where
  -- from one phase to the next, with that word
  abbrev Lowers : RwPhase → ℕ → RwPhase → Type 0
  Lowers p x q = rw_steps n (Sees x after shut) q + 1 ≤ rw_steps n (Sees word first shut) p

  abbrev Falls : RwPhase → ActResult → Type 0
  Falls p s = Lowers p (word_after (act_of p) s word) (next_phase p s)

  -- what an exchange costs that was lost, or won
  lost : (from x y c : ℕ) → (word ≡ from → ⊥) → c ≤ y → c ≤ cond (word == from) x y
  lost from x y c ne h = subst (λ b. c ≤ cond b x y) (sym (ne_eqb word from ne)) h

  won : (from x y c : ℕ) → word ≡ from → c ≤ x → c ≤ cond (word == from) x y
  won from x y c e h = subst (λ b. c ≤ cond b x y) (sym (eq-eqb word from e)) h

  -- the word says that somebody waits, and one that enters will see that it does
  flags : (a : Seeking) (from : ℕ) → word / 16 < 2 ^ 60 - 1 → word ≡ from → IsReady (SetParked a from)
      → Falls (SetParked a from) ActResult.Exchanged
  flags a from few e ready =
      let v : View = Sees ((from + 1) % 2 ^ 64) after shut in
      let k = flagged a.want from after shut (omega (arith, few, e)) ready.0 ready.1 in
      won from _ _ _ e (omega
      (arith, if_so (keeps_out v a.want) (rw_parks v a.want) (vain a.want) (rw_parks v a.want) k (omega arith)))

  flags2 : (d : Draining) (from : ℕ) → word / 16 < 2 ^ 60 - 1 → word ≡ from → IsReady (DrainSetParked d from)
      → Falls (DrainSetParked d from) ActResult.Exchanged
  flags2 d from few e ready =
      let v : View = Sees ((from + 2) % 2 ^ 64) after shut in
      let k = flagged2 from after shut (omega (arith, few, e)) ready.0 ready.1 in
      let most : ℕ = drain_parks v + 2 * d.rounds in
      won from _ _ _ e (omega (arith, if_so (keeps_waiting v) most (9 + 2 * d.rounds) most k (omega arith)))

  -- a check
  checks : (want : LockMode) (woken : Bool) (v : ℕ) → v ≡ word → Falls (Checks want woken) (ActResult.Word v)
  checks want woken v e = subst (λ x. Falls (Checks want woken) (ActResult.Word x)) (sym e)
      (go (is_barred want word && is_parked word))
    where
      go : (b : Bool) → rw_steps n (Sees word after shut) (cond b (Appends want) (Retreats want woken)) + 1 ≤ cond b 3
          (vain want - 1)
      go true = omega arith
      go false = omega (arith, vain_least want)

  checks2 : (d : Draining) (v : ℕ) → v ≡ word → Falls (DrainChecks d) (ActResult.Word v)
  checks2 d v e = subst (λ x. Falls (DrainChecks d) (ActResult.Word x)) (sym e)
      (go (has_readers word && is_writer_parked word))
    where
      go : (b : Bool) → rw_steps n (Sees word after shut) (cond b (DrainAppends d.rounds) (DrainRetreats d)) + 1 ≤ cond
          b (3 + 2 * d.rounds) (8 + 2 * d.rounds)
      go true = omega arith
      go false = omega arith

  -- it asks from the beginning, and isn't shut out
  retreats : (want : LockMode) (woken : Bool) → shut.first ≡ false → Falls (Retreats want woken) ActResult.Made
  retreats (LockMode.Shared recursive) woken e = omega (arith, opened shut.first 30 e)
  retreats LockMode.Exclusive woken e = omega (arith, opened shut.first 56 e, drains_most shut.second)

  bumps : (want : LockMode) (v : ℕ) → after ≡ first → Falls (BumpLoads want) (ActResult.Word v)
  bumps (LockMode.Shared recursive) v e =
      cond_both (is_written v) _ _ (Lowers (BumpLoads (LockMode.Shared recursive)) word)
      (λ b. omega (arith, asks_few word after shut (LockMode.Shared recursive) 10))
      (λ b. omega (arith, asks_few word after shut (LockMode.Shared recursive) 10))
  bumps LockMode.Exclusive v e = cond_both (is_parked v) _ _ (Lowers (BumpLoads LockMode.Exclusive) word)
      (λ b. omega (arith, found n first after shut.first e, asks_few word after shut LockMode.Exclusive 10))
      (λ b. omega (arith, asks_few word after shut LockMode.Exclusive 10))

  gives : (rest : AfterWake) (v : ℕ) → Falls (Unshares rest) (ActResult.Before v)
  gives rest v =
      let x : ℕ = (word + (2 ^ 64 - 16)) % 2 ^ 64 in
      cond_both (v / 16 == 1 && is_writer_parked v) _ _ (Lowers (Unshares rest) x) (λ b. omega arith)
      (λ b. omega (arith, over_cost n (Sees x after shut) rest, ends_few x after shut rest))

  downgrades : (v : ℕ) → after ≡ first → Falls Downgrades (ActResult.Before v)
  downgrades v e = cond_both (is_parked v) _ _ (Lowers Downgrades ((word + 8) % 2 ^ 64))
      (λ b. omega (arith, found n first after shut.first e)) (λ b. omega arith)

  finishes : (rest : AfterWake) (s : ActResult) → Gives (act_of (Finishes rest)) word s → Falls (Finishes rest) s
  finishes AfterWake.AgainShared (ActResult.Word v) g = omega arith
  finishes AfterWake.AgainExclusive (ActResult.Word v) g = omega arith
  finishes rest s g = absurd g

  -- a scan takes one, and the list is shorter by one
  abbrev Goes : Scanning → Bool → Option Scanning → Type 0
  Goes a left s = Lowers (Scans a) word (option_map_or (λ q. q) (option_map (of_rw.goes_on left) s) Invalid)

  goes : (a s : Scanning) (left : Bool) → shut.first ≡ false → first ≡ after + 1 → rw_ends (Sees word after shut) s.rest
      ≡ rw_ends (Sees word first shut) a.rest → count_of s ≤ count_of a + 1 → Goes a left (Some s)
  goes a s left free one same more =
      omega (
        arith,
        goes_on_cost n (Sees word after shut) left s,
        cond-false shut.first n first free,
        cond-false shut.first n after free,
      )

  takes : (a : Scanning) (token : ParkToken) (left : Bool) → shut.first ≡ false → first ≡ after + 1
      → Falls (Scans a) (ActResult.Took (Some token) left)
  takes a token left free one =
      let reader : Scanning = record a { shared = min (a.shared + 1) (2 ^ 32 - 1) } in
      let writer : Scanning = record a { writer = true } in
      let upgrader : Scanning = record a { upgradable = true } in
      cond_both (token.0 == 16) _ _ (Goes a left) (λ e. goes a reader left free one refl (omega arith))
      (λ e. cond_both (token.0 == 8) _ _ (Goes a left)
      (λ e. goes a writer left free one refl (omega (arith, bit_most a.writer)))
      (λ e. cond_both (token.0 == 20) _ _ (Goes a left)
      (λ e. goes a upgrader left free one refl (omega (arith, bit_most a.upgradable)))
      (λ e. omega (arith, end_costs n (Sees word first shut) a.rest))))

module _ (n word first after : ℕ) (shut : Shut) (few : word / 16 < 2 ^ 60 - 1) where
  pub falls : (p : RwPhase) (s : ActResult) → IsReady p → Gives (act_of p) word s
      → laws.Can (rw_stance p) (act_of p) shut s
      → laws.Leaves (act_of p) s first after → Falls n word first after shut p s
  unfolding is_round
  falls (Loads a) (ActResult.Word v) ready g c l = omega (arith, seeks_cost n word after shut a v g few)
  falls (Admits a from) ActResult.Exchanged ready g c l = won n word first after shut from _ _ _ g
      (omega (arith, admits_cost n (Sees ((from + of_rw.share_of a.want) % 2 ^ 64) after shut) a.want false))
  falls (Admits a from) (ActResult.Word v) ready g c l = lost n word first after shut from _ _ _ g.1
      (omega (arith, seeks_cost n word after shut a v g.0 few))
  falls (Spins a) (ActResult.Spun true) ready g c l = omega arith
  falls (Spins a) (ActResult.Spun false) ready g c l = absurd (both_ways false refl (ap is_round c))
  falls (SetParked a from) ActResult.Exchanged ready g c l = flags n word first after shut a from few g ready
  falls (SetParked a from) (ActResult.Word v) ready g c l = lost n word first after shut from _ _ _ g.1
      (omega (arith, seeks_cost n word after shut a v g.0 few))
  falls (Enters want woken) ActResult.Entered ready g c l = enters (is_barred want word && is_parked word) _ _
      (opened shut.first (vain want) c) (vain_least want)
  falls (Checks want woken) (ActResult.Word v) ready g c l = checks n word first after shut want woken v g
  falls (Retreats want woken) ActResult.Made ready g c l = retreats n word first after shut want woken c
  falls (Appends want) ActResult.Made ready g c l = omega arith
  falls (Rests want) ActResult.Made ready g c l = omega arith
  falls (Sleeps want) (ActResult.Woken token) ready g c l = absurd c
  falls (DrainLoads d) (ActResult.Word v) ready g c l = omega (arith, drains_cost n word after shut d v g)
  falls (DrainSpins d) (ActResult.Spun true) ready g c l = omega arith
  falls (DrainSpins d) (ActResult.Spun false) ready g c l = absurd (both_ways false refl (ap is_round c))
  falls (DrainSetParked d from) ActResult.Exchanged ready g c l = flags2 n word first after shut d from few g ready
  falls (DrainSetParked d from) (ActResult.Word v) ready g c l = lost n word first after shut from _ _ _ g.1
      (omega (arith, drains_cost n word after shut d v g.0))
  falls (DrainEnters d) ActResult.Entered ready g c l = enters2 (has_readers word && is_writer_parked word) _ _
      (opened shut.second 9 c)
  falls (DrainChecks d) (ActResult.Word v) ready g c l = checks2 n word first after shut d v g
  falls (DrainRetreats d) ActResult.Made ready g c l = omega (arith, opened shut.second 9 c)
  falls (DrainAppends rounds) ActResult.Made ready g c l = omega arith
  falls (DrainRests rounds) ActResult.Made ready g c l = omega arith
  falls (DrainSleeps rounds) (ActResult.Woken token) ready g c l = absurd c
  falls (TryLoads want) (ActResult.Word v) ready g c l = omega (arith, tries_cost n word after shut want 63 v g)
  falls (TryAdmits want from left) ActResult.Exchanged ready g c l = won n word first after shut from _ _ _ g
      (omega arith)
  falls (TryAdmits want from left) (ActResult.Word v) ready g c l = lost n word first after shut from _ _ _ g.1
      (omega (arith, retries_cost n word after shut want left v g.0))
  falls (BumpLoads want) (ActResult.Word v) ready g c l = bumps n word first after shut want v l
  falls (Relocks want) (ActResult.Word v) ready g c l =
      omega (arith, seeks_cost n word after shut (begins want false) v g few)
  falls (Unshares rest) (ActResult.Before v) ready g c l = gives n word first after shut rest v
  falls (EnterWriterWakeSection rest) ActResult.Entered ready g c l = omega (arith, ends_few word after shut rest)
  falls (TakeWriter rest) (ActResult.Took token left) ready g c l = omega (arith, bit_most (is_some token))
  falls (ClearWriterParked rest taken) (ActResult.Before v) ready g c l = omega arith
  falls (LeaveWriterWakeSection rest taken) ActResult.Made ready g c l =
      omega (arith, wakes_cost n (Sees word after shut) rest (bit taken))
  falls (Unlocks fair rest) ActResult.Exchanged ready g c l = omega (arith, over_cost n (Sees 0 after shut) rest)
  falls (Unlocks fair rest) (ActResult.Word v) ready g c l = omega (arith, found n first after shut.first l)
  falls (LooksExclusive fair rest) ActResult.Entered ready g c l = omega (arith, found n first after shut.first l)
  falls Downgrades (ActResult.Before v) ready g c l = downgrades n word first after shut v l
  falls EnterWakeSection ActResult.Entered ready g c l = omega (arith, found n first after shut.first l)
  falls (Scans a) (ActResult.Took (Some token) left) ready g c l = takes n word first after shut a token left c l
  falls (Scans a) (ActResult.Took None left) ready g c l = omega arith
  falls (Stores a left) (ActResult.Stored fair) ready g c l = omega arith
  falls (Leaves rest count handed) ActResult.Made ready g c l =
      omega (arith, wakes_cost n (Sees word after shut) rest count)
  falls (Wakes rest count) ActResult.Made ready g c l = absurd c
  falls (Finishes rest) s ready g c l = finishes n word first after shut rest s g
  falls p s ready g c l = absurd g

-- Acts of a call at a reader-writer lock lower the steps that are left of it.

-- A WAKE, AND THE END

abbrev IsWake : Act → Type 0
IsWake (Act.Section section.Wake) = Unit {0}
IsWake a = ⊥

abbrev IsDone : Act → Type 0
IsDone (Act.Done answer) = Unit {0}
IsDone a = ⊥

wakes_by : (n : ℕ) (p : RwPhase) (v : View) → IsWake (act_of p) → 1 ≤ rw_taken p → rw_steps n v (next_phase p seen.Made)
    + wake ≤ rw_steps n v p
wakes_by n (Wakes rest count) v is some = omega (arith, some, wakes_cost n v rest (count - 1))
wakes_by n p v is some = omega (arith, some)

ends_by : (n : ℕ) (p : RwPhase) (v : View) → IsDone (act_of p) → 1 ≤ rw_steps n v p
ends_by n (Locking want) v is = omega arith
ends_by n (Trying want) v is = omega arith
ends_by n UnlockingShared v is = omega arith
ends_by n (UnlockingExclusive fair) v is = omega arith
ends_by n Downgrading v is = omega arith
ends_by n BumpingShared v is = omega arith
ends_by n BumpingExclusive v is = omega arith
ends_by n (Refuses want) v is = omega arith
ends_by n (Finishes rest) v is = end_costs n v rest
ends_by n (Ends outcome) v is = omega arith
ends_by n Invalid v is = omega arith
ends_by n p v is = absurd is

-- ONE THAT IS WOKEN

-- a writer that asks again pays most
asks_most : (want : LockMode) → rw_asks Unseen want 10 + 2 ≤ wake
asks_most (LockMode.Shared recursive) = omega arith
asks_most LockMode.Exclusive = omega arith

woken : (n : ℕ) (p : RwPhase) (token : UnparkToken) → rw_steps n Unseen (next_phase p (seen.Woken token)) + 1 ≤ rw_steps
    n Unseen p + wake
woken n (Sleeps want) token = cond_both (token.0 == 1) _ _ (λ p. rw_steps n Unseen p + 1 ≤ wake)
    (λ e. omega (arith, admits_cost n Unseen want true, asks_most want)) (λ e. omega (arith, asks_most want))
woken n p token = omega arith

-- ONE OF WHICH LESS IS KNOWN

module _ (n word first : ℕ) (shut : Shut) (h : first ≤ n) where
  abbrev v : View
  v = Sees word first shut

  found_few : may_find n v ≤ n
  found_few = if_either shut.first n first n (omega arith) h

  few : (p : RwPhase) → rw_steps n v p ≤ rw_steps n Unseen p
  few (Loads a) = omega (arith, parks_most a.want shut.first, comes_few word first shut a.want)
  few (Admits a from) = if_either (word == from) _ _ _ (omega (arith, comes_few word first shut a.want))
      (omega (arith, parks_most a.want shut.first, comes_few word first shut a.want))
  few (Spins a) = omega (arith, parks_most a.want shut.first, comes_few word first shut a.want)
  few (SetParked a from) = if_either (word == from) _ _ _ (omega (arith, parks_most a.want shut.first))
      (omega (arith, parks_most a.want shut.first, comes_few word first shut a.want))
  few (Enters want again) = if_either (is_barred want word && is_parked word) _ _ _ (parks_most want shut.first)
      (omega arith)
  few (Checks want again) = if_either (is_barred want word && is_parked word) _ _ _ (omega (arith, vain_least want))
      (omega arith)
  few (DrainLoads d) = omega (arith, drains_most shut.second)
  few (DrainSpins d) = omega (arith, drains_most shut.second)
  few (DrainSetParked d from) = if_either (word == from) _ _ _ (omega (arith, drains_most shut.second))
      (omega (arith, drains_most shut.second))
  few (DrainEnters d) = if_either (has_readers word && is_writer_parked word) _ _ _
      (omega (arith, drains_most shut.second))
      (omega arith)
  few (DrainChecks d) = if_either (has_readers word && is_writer_parked word) _ _ _ (omega arith) (omega arith)
  few (TryAdmits want from left) = if_either (word == from) _ _ _ (omega arith) (omega arith)
  few (BumpLoads want) = omega (arith, found_few, parks_most want shut.first, comes_few word first shut want)
  few (Relocks want) = omega (arith, parks_most want shut.first, comes_few word first shut want)
  few (Unshares rest) = omega (arith, ends_few word first shut rest)
  few (EnterWriterWakeSection rest) = omega (arith, ends_few word first shut rest)
  few (TakeWriter rest) = omega (arith, ends_few word first shut rest)
  few (ClearWriterParked rest taken) = omega (arith, ends_few word first shut rest)
  few (LeaveWriterWakeSection rest taken) = omega (arith, ends_few word first shut rest)
  few (Unlocks fair rest) = omega (arith, found_few, ends_few word first shut rest)
  few (LooksExclusive fair rest) = omega (arith, found_few, ends_few word first shut rest)
  few Downgrades = omega (arith, found_few)
  few EnterWakeSection = omega (arith, found_few)
  few (Scans s) = omega (arith, found_few, ends_few word first shut s.rest)
  few (Stores s left) = omega (arith, ends_few word first shut s.rest)
  few (Leaves rest count handed) = omega (arith, ends_few word first shut rest)
  few (Wakes rest count) = omega (arith, ends_few word first shut rest)
  few (Finishes rest) = ends_few word first shut rest
  few p = omega arith

-- ONE THAT STOPS

module _ (n word first : ℕ) (shut : Shut) (e : shut.first ≡ true) where
  all_found : may_find n (Sees word first shut) ≡ n
  all_found = cond-true shut.first n first e

  parks_all : (want : LockMode) → rw_parks (Sees word first shut) want ≡ vain want
  parks_all want = ap (λ b. cond (not b) 4 (vain want)) e

  ends_all : (rest : AfterWake) → rw_ends Unseen rest ≤ rw_ends (Sees word first shut) rest
  ends_all AfterWake.FreedShared = omega arith
  ends_all AfterWake.FreedExclusive = omega arith
  ends_all AfterWake.Downgraded = omega arith
  ends_all AfterWake.AgainShared = omega (arith, parks_all (LockMode.Shared false))
  ends_all AfterWake.AgainExclusive = omega (arith, parks_all LockMode.Exclusive)

  enters_all : (b : Bool) (want : LockMode) → vain want ≤ cond b (rw_parks (Sees word first shut) want) (vain want)
  enters_all true want = omega (arith, parks_all want)
  enters_all false want = omega arith

drain_all : (shut : Bool) → shut ≡ true → 9 ≤ cond (not shut) 4 9
drain_all shut e = subst (λ (t : Bool). 9 ≤ cond (not t) 4 9) (sym e) (omega arith)

drain_enters : (b : Bool) (shut : Bool) (more : ℕ) → shut ≡ true → 9 + more ≤ cond b (cond (not shut) 4 9 + more)
    (9 + more)
drain_enters true shut more e = omega (arith, drain_all shut e)
drain_enters false shut more e = omega arith

finishes_on : (rest : AfterWake) (shut : Shut) → StopsAt (act_of (Finishes rest)) shut → ⊥
finishes_on AfterWake.FreedShared shut at = at
finishes_on AfterWake.FreedExclusive shut at = at
finishes_on AfterWake.Downgraded shut at = at
finishes_on AfterWake.AgainShared shut at = at
finishes_on AfterWake.AgainExclusive shut at = at

stops : (n : ℕ) (p : RwPhase) (word first : ℕ) (shut : Shut) → StopsAt (act_of p) shut
    → rw_steps n Unseen p ≤ rw_steps n (Sees word first shut) p
stops n (Enters want again) word first shut at =
    enters_all n word first shut at (is_barred want word && is_parked word) want
stops n (DrainEnters d) word first shut at =
    drain_enters (has_readers word && is_writer_parked word) shut.second (2 * d.rounds) at
stops n (EnterWriterWakeSection rest) word first shut at = omega arith
stops n (LooksExclusive fair rest) word first shut at =
    omega (arith, ends_all n word first shut at rest, all_found n word first shut at)
stops n EnterWakeSection word first shut at = omega (arith, all_found n word first shut at)
stops n (Sleeps want) word first shut at = omega arith
stops n (DrainSleeps rounds) word first shut at = omega arith
stops n (Finishes rest) word first shut at = absurd (finishes_on rest shut at)
stops n p word first shut at = absurd at

pub steps_fall : RwStepsFall
steps_fall = record {
  falls = λ n p s word first after shut room ready g c l. falls n word first after shut room p s ready g c l;
  wakes = λ n p v e some. wakes_by n p v (subst IsWake (sym e) tt) some;
  woken = woken;
  few = λ n word first shut p h. few n word first shut h p;
  stops = stops;
  ends = λ n p v answer e. ends_by n p v (subst IsDone (sym e) tt);
}
