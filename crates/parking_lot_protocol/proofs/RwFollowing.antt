-- Each answer to a reader-writer lock's core is the step that the table says.
use Rattle.std.proofs.Common.{◌≡◌, ◌≢◌, ◌<◌, ℕ, ◌+◌, ◌-◌, ◌*◌, ◌/◌, ◌%◌, ◌^◌, ◌==◌, ◌&&◌, ◌||◌, ◌⊎◌, inl, inr, nat_lt}
use Rattle.std.proofs.Common.{not, min, bit_and, Bool, true, false, cond, List, [], ◌∷◌, ◌++◌, length, Some, None, refl}
use Rattle.std.proofs.Common.{sym, ap, ◌∙◌, subst, arith, eqb-true}
use Rattle.std.proofs.lemmas.Bool.{both_ways, ltb-true, eqb-false}
use Rattle.std.proofs.Math.Nat.{mod-eq_of_lt}
use Rattle.std.specs.Int.Bits.{and_zero_r}
use Rattle.parking_lot_rules.specs.Roles as rules
use Rattle.parking_lot_rules.specs.Clauses.{Word, IsWord, number}
use Rattle.parking_lot_rules.specs.Plain as plain
use Rattle.parking_lot_protocol.specs.declared.act.ActResult.{ActResult}
use Rattle.parking_lot_protocol.specs.declared.act.ActResult.TheVariants as seen
use Rattle.parking_lot_protocol.specs.declared.rw_phase.LockMode.{LockMode}
use Rattle.parking_lot_protocol.specs.declared.rw_phase.LockMode.TheVariants.{Shared, Exclusive}
use Rattle.parking_lot_protocol.specs.declared.rw_phase.AfterWake.{AfterWake}
use Rattle.parking_lot_protocol.specs.declared.rw_phase.AfterWake.TheVariants.{FreedShared, FreedExclusive, Downgraded}
use Rattle.parking_lot_protocol.specs.declared.rw_phase.AfterWake.TheVariants.{AgainShared, AgainExclusive}
use Rattle.parking_lot_protocol.specs.declared.rw_phase.RwPhase.{RwPhase}
use Rattle.parking_lot_protocol.specs.declared.rw_phase.RwPhase.TheVariants.{Locking, Trying, UnlockingShared}
use Rattle.parking_lot_protocol.specs.declared.rw_phase.RwPhase.TheVariants.{UnlockingExclusive, Downgrading}
use Rattle.parking_lot_protocol.specs.declared.rw_phase.RwPhase.TheVariants.{BumpingShared, BumpingExclusive, Loads}
use Rattle.parking_lot_protocol.specs.declared.rw_phase.RwPhase.TheVariants.{Admits, Spins, SetParked, Enters, Checks}
use Rattle.parking_lot_protocol.specs.declared.rw_phase.RwPhase.TheVariants.{Retreats, Appends, Rests, Sleeps}
use Rattle.parking_lot_protocol.specs.declared.rw_phase.RwPhase.TheVariants.{DrainLoads, DrainSpins, DrainSetParked}
use Rattle.parking_lot_protocol.specs.declared.rw_phase.RwPhase.TheVariants.{DrainEnters, DrainChecks, DrainRetreats}
use Rattle.parking_lot_protocol.specs.declared.rw_phase.RwPhase.TheVariants.{DrainAppends, DrainRests, DrainSleeps}
use Rattle.parking_lot_protocol.specs.declared.rw_phase.RwPhase.TheVariants.{TryLoads, TryAdmits, Refuses, BumpLoads}
use Rattle.parking_lot_protocol.specs.declared.rw_phase.RwPhase.TheVariants.{Relocks, Unshares, EnterWriterWakeSection}
use Rattle.parking_lot_protocol.specs.declared.rw_phase.RwPhase.TheVariants.{TakeWriter, ClearWriterParked}
use Rattle.parking_lot_protocol.specs.declared.rw_phase.RwPhase.TheVariants.{LeaveWriterWakeSection, Unlocks}
use Rattle.parking_lot_protocol.specs.declared.rw_phase.RwPhase.TheVariants.{LooksExclusive, Downgrades}
use Rattle.parking_lot_protocol.specs.declared.rw_phase.RwPhase.TheVariants.{EnterWakeSection, Scans, Stores, Leaves}
use Rattle.parking_lot_protocol.specs.declared.rw_phase.RwPhase.TheVariants.{Wakes, Finishes, Ends, Invalid}
use Rattle.parking_lot_protocol.specs.RwTable.{is_parked, is_writer_parked, is_written, has_readers, is_barred}
use Rattle.parking_lot_protocol.specs.RwTable.{is_admitted, is_tried, seeks, tries, retries, begins, admits, gains}
use Rattle.parking_lot_protocol.specs.RwTable.{share_of, bumps, over, wakes, goes_on, scans, scans_for, asks_again}
use Rattle.parking_lot_protocol.specs.RwTable.{last_act, hands, may_hand, count_of, store_of}
use Rattle.parking_lot_protocol.specs.declared.rw_phase.Outcome.TheVariants as outcome
use Rattle.parking_lot_protocol.specs.declared.rw_phase.Seeking.{Seeking}
use Rattle.parking_lot_protocol.specs.declared.rw_phase.Draining.{Draining}
use Rattle.parking_lot_protocol.specs.RwRules.{Follows, IsMove, IsReady, Move, Stays, Makes, QueuePosition, Listed}
use Rattle.parking_lot_protocol.specs.RwRules.{role, mode_of, MayAsk, IsWoken, waking, admission, try_admission}
use Rattle.parking_lot_protocol.specs.RwRules.{gives_shared, gives_exclusive, owned_at_last, scan_of, TakesOne, mode_by}
use Rattle.parking_lot_protocol.specs.RwRules.{IsToken, cause_of, ending, Telling}
use Rattle.parking_lot_rules.specs.Steps.{Scan, scanning, Hand, Free, Keep, stored}
use Rattle.parking_lot_rules.specs.Classes.{bit}
use Rattle.parking_lot_protocol.specs.Acts.{Gives, change_of}
use Rattle.parking_lot_protocol.specs.declared.rw_phase.Scanning.{Scanning}
use Rattle.parking_lot_core_model.specs.declared.parking.ParkToken.{ParkToken}
use Rattle.std.specs.Option.{option_map_or}
use Rattle.parking_lot_rules.specs.Roles.{Fresh}
use Rattle.parking_lot_rules.specs.Roles.{Normal, Handed, Asleep}
use Rattle.parking_lot_protocol.proofs.MutexFollowing.{either}
use Rattle.parking_lot_protocol.proofs.RwWords.{both, other, one, at, shares, pends, read, unread, parked, unparked}
use Rattle.parking_lot_protocol.proofs.RwWords.{parked2, unparked2, bars, owns_nothing, shared_word, written_word}
use Rattle.parking_lot_protocol.proofs.RwWords.{parked_word, parked2_word, downgraded_word, unshared_word, masked_word}
use Rattle.parking_lot_protocol.proofs.RwWords.{kept_word, cleared_word}

-- WHAT FOLLOWS A WORD

seeks_role : (k : ℕ) (spot : QueuePosition) (us : List ℕ) (a : Seeking) (word : ℕ) → role k spot us (seeks a word) ≡ role k spot us (Loads a)
seeks_role k spot us a word =
    either (role k spot us) (is_admitted a.want word) _ _ _ refl
    (either (role k spot us) (is_barred a.want word) _ _ _
    (either (role k spot us) (not (is_parked word || is_writer_parked word) && nat_lt 0 a.rounds) _ _ _ refl (either (role k spot us) (is_parked word) _ _ _ refl refl)) refl)

seeks_ready : (a : Seeking) (word : ℕ) → IsReady (seeks a word)
seeks_ready a word = go (is_admitted a.want word) (is_barred a.want word) (not (is_parked word || is_writer_parked word) && nat_lt 0 a.rounds) (is_parked word) refl refl refl
  where
    go : (b c d e : Bool) → is_admitted a.want word ≡ b → is_barred a.want word ≡ c → is_parked word ≡ e
        → IsReady (cond b (Admits a word) (cond c (cond d (Spins a) (cond e (Enters a.want a.woken) (SetParked a word))) (Loads a)))
    go true c d e eb ec ee = eb
    go false true true e eb ec ee = tt
    go false true false true eb ec ee = tt
    go false true false false eb ec ee = (ec, ee, eb)
    go false false d e eb ec ee = tt

drains_role : (k : ℕ) (spot : QueuePosition) (us : List ℕ) (d : Draining) (word : ℕ)
    → role k spot us (cond (nat_lt 0 d.rounds) (DrainSpins d)
    (cond (is_writer_parked word) (DrainEnters d) (DrainSetParked d word))) ≡ role k spot us (DrainLoads d)
drains_role k spot us d word = either (role k spot us) (nat_lt 0 d.rounds) _ _ _ refl (either (role k spot us) (is_writer_parked word) _ _ _ refl refl)

drains : (recursive : Bool) (k : ℕ) (us : List ℕ) (w : Word) → IsWord w → k ≡ 0 → (p : RwPhase) (d : Draining) → role 0 Listed us p ≡ plain.from (plain.Drain false d.woken)
    → ((spot : QueuePosition) → role k spot us (DrainLoads d) ≡ role k spot us p) → (b : Bool) → has_readers (number w) ≡ b
    → IsMove recursive (cond b Stays (Makes (plain.Drain false d.woken))) k us p
    (cond b (cond (nat_lt 0 d.rounds) (DrainSpins d) (cond (is_writer_parked (number w)) (DrainEnters d) (DrainSetParked d (number w)))) (Ends outcome.Exclusive)) w (number w)
    × IsReady (cond b (cond (nat_lt 0 d.rounds) (DrainSpins d) (cond (is_writer_parked (number w)) (DrainEnters d) (DrainSetParked d (number w)))) (Ends outcome.Exclusive))
drains recursive k us w h z p d from same true e = ((λ spot. drains_role k spot us d (number w) ∙ same spot, refl), ready (nat_lt 0 d.rounds) (is_writer_parked (number w)) refl)
  where
    ready : (a b : Bool) → is_writer_parked (number w) ≡ b → IsReady (cond a (DrainSpins d) (cond b (DrainEnters d) (DrainSetParked d (number w))))
    ready true b eb = tt
    ready false true eb = tt
    ready false false eb = (e, eb)
drains recursive k us w h z p d from same false e = (record { from = ap (λ m. role m Listed us p) z ∙ from; to = refl; may = unread w h e; written = refl }, tt)

tries_role : (k : ℕ) (spot : QueuePosition) (us : List ℕ) (want : LockMode) (left word : ℕ) → role k spot us (tries want left word) ≡ role k spot us (TryLoads want)
tries_role k spot us want left word = either (role k spot us) (is_tried want word) _ _ _ refl refl

tries_ready : (want : LockMode) (left word : ℕ) → IsReady (tries want left word)
tries_ready want left word = go (is_tried want word) refl
  where
    go : (b : Bool) → is_tried want word ≡ b → IsReady (cond b (TryAdmits want word left) (Refuses want))
    go true e = e
    go false e = tt

retries_role : (k : ℕ) (spot : QueuePosition) (us : List ℕ) (want : LockMode) (left word : ℕ) → role k spot us (retries want left word) ≡ role k spot us (TryLoads want)
retries_role k spot us want left word = either (role k spot us) (nat_lt 0 left) _ _ _ (tries_role k spot us want (left - 1) word) refl

retries_ready : (want : LockMode) (left word : ℕ) → IsReady (retries want left word)
retries_ready want left word = go (nat_lt 0 left)
  where
    go : (b : Bool) → IsReady (cond b (tries want (left - 1) word) (Refuses want))
    go true = tries_ready want (left - 1) word
    go false = tt

begin : (recursive : Bool) (k : ℕ) (want : LockMode) (w : Word) → MayAsk recursive k want w → (k ≡ 0) ⊎ ((recursive ≡ true) × (mode_of want ≡ rules.Shared))
begin recursive k (Shared true) w m = inr (m.0, refl)
begin recursive k (Shared false) w m = inl m
begin recursive k Exclusive w m = inl m

module _ (recursive : Bool) (k : ℕ) (us : List ℕ) (w : Word) (h : IsWord w) (r : w.readers < 2 ^ 60 - 1) where
  abbrev Moves : Move → RwPhase → RwPhase → ℕ → Type 0
  Moves m p q word = IsMove recursive m k us p q w word × IsReady q

  admitted : (want : LockMode) (woken : Bool) (rounds : ℕ) → is_admitted want (number w) ≡ true → MayAsk recursive k want w
      → Moves (Makes (admission k want woken)) (Admits (record { want = want; woken = woken; rounds = rounds }) (number w)) (admits want false) ((number w + share_of want) % 2 ^ 64)
  admitted (Shared true) woken rounds e m = (record { from = refl; to = refl; may = may (shares w h true 0 e); written = shared_word w h r }, tt)
    where
      may : (w.writer ≡ 0) ⊎ ((true ≡ true) × (0 < w.readers)) → (w.writer ≡ 0) ⊎ ((recursive ≡ true) × (0 < w.readers))
      may (inl x) = inl x
      may (inr x) = inr (m.0, x.1)
  admitted (Shared false) woken rounds e m = (record { from = refl; to = refl; may = may (shares w h false 0 e); written = shared_word w h r }, tt)
    where
      may : (w.writer ≡ 0) ⊎ ((false ≡ true) × (0 < w.readers)) → (w.writer ≡ 0) ⊎ ((recursive ≡ true) × (0 < w.readers))
      may (inl x) = inl x
      may (inr x) = absurd (both_ways false refl x.0)
  admitted Exclusive woken rounds e m =
      let z = pends w h e in (
        record {
          from = ap (λ n. record { owns = rules.Shares n; does = rules.Seeks rules.Exclusive woken }) m;
          to = ap (λ n. record { owns = rules.Shares n; does = rules.Drains false false }) m;
          may = z;
          written = written_word w h r z.0;
        },
        tt,
      )

  tried : (want : LockMode) (left : ℕ) → is_tried want (number w) ≡ true → MayAsk recursive k want w
      → Moves (Makes (try_admission k want)) (TryAdmits want (number w) left) (Ends (gains want)) ((number w + share_of want) % 2 ^ 64)
  tried (Shared true) left e m = (record { from = refl; to = refl; may = may (shares w h true 0 e); written = shared_word w h r }, tt)
    where
      may : (w.writer ≡ 0) ⊎ ((true ≡ true) × (0 < w.readers)) → (w.writer ≡ 0) ⊎ ((recursive ≡ true) × (0 < w.readers))
      may (inl x) = inl x
      may (inr x) = inr (m.0, x.1)
  tried (Shared false) left e m = (record { from = refl; to = refl; may = may (shares w h false 0 e); written = shared_word w h r }, tt)
    where
      may : (w.writer ≡ 0) ⊎ ((false ≡ true) × (0 < w.readers)) → (w.writer ≡ 0) ⊎ ((recursive ≡ true) × (0 < w.readers))
      may (inl x) = inl x
      may (inr x) = absurd (both_ways false refl x.0)
  tried Exclusive left e m =
      let z : number w ≡ 0 = eqb-true (number w) 0 e in
      let x : w.writer ≡ 0 = omega arith in (
        record {
          from = ap (λ n. record { owns = rules.Shares n; does = rules.Seeks rules.Exclusive false }) m;
          to = refl;
          may = record { readers = omega arith; writer = x; upgradable = omega arith; parked2 = omega arith; parked1 = omega arith };
          written = written_word w h r x;
        },
        tt,
      )

  flagged : (a : Seeking) → IsReady (SetParked a (number w)) → MayAsk recursive k a.want w → Moves (Makes (plain.Flag1 (mode_of a.want) a.woken)) (SetParked a (number w)) (Enters a.want a.woken) ((number w + 1) % 2 ^ 64)
  flagged a e m =
      let z : k ≡ 0 = owns_nothing w h recursive k a.want r m e.0 e.2 in
      let f : ℕ → rules.Role = λ n. record { owns = rules.Shares n; does = rules.Seeks (mode_of a.want) a.woken } in
      let u = unparked w h e.1 in
      (record { from = ap f z; to = ap f z; may = (u, bars w h a.want e.0); written = parked_word w h r u }, tt)

  checked : (want : LockMode) (woken : Bool) → k ≡ 0 → (b : Bool) → is_barred want (number w) && is_parked (number w) ≡ b
      → Moves (cond b (Makes (plain.Check1 (mode_of want) woken)) Stays) (Checks want woken) (cond b (Appends want) (Retreats want woken)) (number w)
  checked want woken z true e =
      let t = both (is_barred want (number w)) (is_parked (number w)) e in (
        record {
          from = ap (λ n. record { owns = rules.Shares n; does = rules.Enters1 (mode_of want) woken }) z;
          to = ap (λ n. record { owns = rules.Shares n; does = rules.Checked1 (mode_of want) }) z;
          may = (parked w h t.1, bars w h want t.0);
          written = refl;
        },
        tt,
      )
  checked want woken z false e = ((λ spot. refl, refl), tt)

  checked2 : (d : Draining) → k ≡ 0 → (b : Bool) → has_readers (number w) && is_writer_parked (number w) ≡ b
      → Moves (cond b (Makes (plain.Check2 false d.woken)) Stays) (DrainChecks d) (cond b (DrainAppends d.rounds) (DrainRetreats d)) (number w)
  checked2 d z true e =
      let t = both (has_readers (number w)) (is_writer_parked (number w)) e in (
        record {
          from = ap (λ n. record { owns = rules.Shares n; does = rules.Enters2 false d.woken }) z;
          to = ap (λ n. record { owns = rules.Shares n; does = rules.Checked2 false }) z;
          may = (parked2 w h t.1, read w h t.0);
          written = refl;
        },
        tt,
      )
  checked2 d z false e = ((λ spot. refl, refl), tt)

  roused : (want : LockMode) → k ≡ 0 → (b : Bool) → Moves (IsWoken (waking want b)) (Sleeps want) (cond b (admits want true) (Loads (begins want true))) (number w)
  roused want z false = (λ by. (ap (λ n. record { owns = rules.Shares n; does = rules.Taken1 (mode_of want) by Normal Asleep }) z, ap (λ n. record { owns = rules.Shares n; does = rules.Seeks (mode_of want) true }) z, refl), tt)
  roused (Shared recursive') z true = (λ by. (ap (λ n. record { owns = rules.Shares n; does = rules.Taken1 rules.Shared by Handed Asleep }) z, ap (λ n. record { owns = rules.Shares (n + 1); does = rules.Idle }) z, refl), tt)
  roused Exclusive z true = (λ by. (ap (λ n. record { owns = rules.Shares n; does = rules.Taken1 rules.Exclusive by Handed Asleep }) z, ap (λ n. record { owns = rules.Shares n; does = rules.Drains false true }) z, refl), tt)

  flagged2 : (d : Draining) → IsReady (DrainSetParked d (number w)) → k ≡ 0 → Moves (Makes (plain.Flag2 false d.woken)) (DrainSetParked d (number w)) (DrainEnters d) ((number w + 2) % 2 ^ 64)
  flagged2 d e z =
      let f : ℕ → rules.Role = λ n. record { owns = rules.Shares n; does = rules.Drains false d.woken } in
      let u = unparked2 w h e.1 in
      (record { from = ap f z; to = ap f z; may = (u, read w h e.0); written = parked2_word w h r u }, tt)

  bumped : (want : LockMode) (word : ℕ) → Moves Stays (BumpLoads want) (bumps want word) (number w)
  bumped (Shared recursive') word = go (is_written word)
    where
      go : (b : Bool) → Moves Stays (BumpLoads (Shared recursive')) (cond b (Unshares AgainShared) (Ends outcome.Shared)) (number w)
      go true = ((λ spot. refl, refl), refl)
      go false = ((λ spot. refl, refl), tt)
  bumped Exclusive word = go (is_parked word)
    where
      go : (b : Bool) → Moves Stays (BumpLoads Exclusive) (cond b (Unlocks true AgainExclusive) (Ends outcome.Exclusive)) (number w)
      go true = ((λ spot. refl, refl), refl)
      go false = ((λ spot. refl, refl), tt)

  -- the word before the last shared hold was given up, or another one
  unshared : (rest : AfterWake) → gives_shared rest ≡ true → 0 < w.readers → (b : Bool) → (number w / 16 == 1) && is_writer_parked (number w) ≡ b
      → Moves (Makes (cond b (plain.UnshareLast k) (plain.Unshare k))) (Unshares rest) (cond b (EnterWriterWakeSection rest) (over rest)) ((number w + (2 ^ 64 - 16)) % 2 ^ 64)
  unshared rest e f true g =
      let t = both (number w / 16 == 1) (is_writer_parked (number w)) g in
      let a = at w h in
      let x : w.readers ≡ 1 = sym a.readers ∙ one (number w / 16) t.0 in
      (record { from = refl; to = refl; may = (x, parked2 w h t.1); written = unshared_word w h r f ∙ omega arith }, e)
  unshared rest e f false g = (record { from = refl; to = free rest e; may = may (number w / 16 == 1) refl; written = unshared_word w h r f }, ready rest)
    where
      free : (q : AfterWake) → gives_shared q ≡ true → role k Listed us (over q) ≡ record { owns = rules.Shares k; does = rules.Idle }
      free FreedShared e = refl
      free AgainShared e = refl
      free FreedExclusive e = absurd (both_ways false refl e)
      free Downgraded e = absurd (both_ways false refl e)
      free AgainExclusive e = absurd (both_ways false refl e)

      ready : (q : AfterWake) → IsReady (over q)
      ready FreedShared = tt
      ready AgainShared = tt
      ready FreedExclusive = tt
      ready Downgraded = tt
      ready AgainExclusive = tt

      may : (b : Bool) → (number w / 16 == 1) ≡ b → (w.readers ≢ 1) ⊎ (w.parked2 ≡ 0)
      may true eb = inr (unparked2 w h (other (number w / 16 == 1) (is_writer_parked (number w)) g eb))
      may false eb = let a = at w h in inl (λ x. eqb-false (number w / 16) 1 eb (a.readers ∙ x))

  masked : (rest : AfterWake) (taken : Bool) → gives_shared rest ≡ true → Moves (Makes (plain.Mask2 k us)) (ClearWriterParked rest taken) (LeaveWriterWakeSection rest taken) (bit_and (number w) (2 ^ 64 - 3))
  masked rest taken e = (record { from = refl; to = refl; may = refl; written = masked_word w h r }, e)

  wakes_role : (rest : AfterWake) (count : ℕ) → role k Listed us (wakes rest count) ≡ record { owns = owned_at_last k rest; does = rules.Wakes us }
  wakes_role rest count = either (role k Listed us) (nat_lt 0 count) _ _ _ refl refl

  wakes_ready : (rest : AfterWake) (count : ℕ) → IsReady (wakes rest count)
  wakes_ready rest count = go (nat_lt 0 count)
    where
      go : (b : Bool) → IsReady (cond b (Wakes rest count) (Finishes rest))
      go true = tt
      go false = tt

  left2 : (rest : AfterWake) (taken : Bool) → gives_shared rest ≡ true → Moves (Makes (plain.Depart2 k us)) (LeaveWriterWakeSection rest taken) (wakes rest (bit taken)) (number w)
  left2 rest taken e = (record { from = refl; to = wakes_role rest (bit taken) ∙ ap (λ o. record { owns = o; does = rules.Wakes us }) (shared rest e); may = tt; written = refl }, wakes_ready rest (bit taken))
    where
      shared : (q : AfterWake) → gives_shared q ≡ true → owned_at_last k q ≡ rules.Shares k
      shared FreedShared e = refl
      shared AgainShared e = refl
      shared FreedExclusive e = absurd (both_ways false refl e)
      shared Downgraded e = absurd (both_ways false refl e)
      shared AgainExclusive e = absurd (both_ways false refl e)

  unlocked : (fair : Bool) (rest : AfterWake) → gives_exclusive rest ≡ true → k ≡ 0 → number w ≡ 8 → Moves (Makes plain.Unlock) (Unlocks fair rest) (over rest) 0
  unlocked fair rest e z g =
      let a = h.writer in
      let b = h.upgradable in
      let c = h.parked2 in
      let d = h.parked1 in (
        record {
          from = refl;
          to = freed rest e;
          may = record { readers = omega arith; writer = refl; upgradable = omega arith; parked2 = omega arith; parked1 = omega arith };
          written = omega arith;
        },
        ready rest,
      )
    where
      freed : (q : AfterWake) → gives_exclusive q ≡ true → role k Listed us (over q) ≡ record { owns = rules.Shares 0; does = rules.Idle }
      freed FreedExclusive e = refl
      freed AgainExclusive e = ap (λ n. record { owns = rules.Shares n; does = rules.Idle }) z
      freed FreedShared e = absurd (both_ways false refl e)
      freed AgainShared e = absurd (both_ways false refl e)
      freed Downgraded e = absurd (both_ways false refl e)

      ready : (q : AfterWake) → IsReady (over q)
      ready FreedShared = tt
      ready AgainShared = tt
      ready FreedExclusive = tt
      ready Downgraded = tt
      ready AgainExclusive = tt

  looks : (fair : Bool) (rest : AfterWake) → gives_exclusive rest ≡ true → us ≡ [] → Moves (Makes plain.LookExclusive) (LooksExclusive fair rest) (Scans (scans_for fair rest)) (number w)
  looks fair FreedExclusive e z = (record { from = refl; to = ap (λ q. record { owns = rules.Shares 0; does = rules.Scans1 rules.FromExclusive 0 false false q }) z; may = refl; written = refl }, refl)
  looks fair AgainExclusive e z = (record { from = refl; to = ap (λ q. record { owns = rules.Shares 0; does = rules.Scans1 rules.FromExclusive 0 false false q }) z; may = refl; written = refl }, refl)
  looks fair FreedShared e z = absurd (both_ways false refl e)
  looks fair AgainShared e z = absurd (both_ways false refl e)
  looks fair Downgraded e z = absurd (both_ways false refl e)

  downgraded : w.writer ≡ 1 → (b : Bool) → is_parked (number w) ≡ b → Moves (Makes (plain.Downgrade b)) Downgrades (cond b EnterWakeSection (Ends outcome.Downgraded)) ((number w + 8) % 2 ^ 64)
  downgraded x true e = (record { from = refl; to = refl; may = parked w h e; written = downgraded_word w h r x }, tt)
  downgraded x false e = (record { from = refl; to = refl; may = unparked w h e; written = downgraded_word w h r x }, tt)

  -- a scan takes one more
  goes_role : (s : Scanning) (left : Bool) (vs : List ℕ) → role k Listed vs (goes_on left s) ≡ scanning (scan_of k s vs)
  goes_role s left vs = either (role k Listed vs) (left && not s.writer) _ _ _ refl refl

  goes_ready : (s : Scanning) (left : Bool) → gives_shared s.rest ≡ false → IsReady (goes_on left s)
  goes_ready s left e = go (left && not s.writer)
    where
      go : (b : Bool) → IsReady (cond b (Scans s) (Stores s left))
      go true = e
      go false = e

  abbrev TakesIt : Scanning → Bool → ParkToken → Type 0
  TakesIt a left token = Moves (TakesOne (mode_by token)) (Scans a) (option_map_or (λ q. q) (scans a (Some token) left) Invalid) (number w)

  abbrev TakesAt : Scanning → Bool → ℕ → Type 0
  TakesAt a left x = TakesIt a left (record { 0 = x })

  takes : (a : Scanning) (left : Bool) (token : ParkToken) → gives_shared a.rest ≡ false → a.shared < 2 ^ 32 - 1 → IsToken (Some token) → TakesIt a left token
  takes a left token e f t = one_of t
    where
      reader : TakesAt a left 16
      reader =
          let s : Scanning = record a { shared = min (a.shared + 1) (2 ^ 32 - 1) } in
          let m : min (a.shared + 1) (2 ^ 32 - 1) ≡ a.shared + 1 = omega arith in (
            λ v.
                let g : ℕ → rules.Role = λ x. record { owns = owned_at_last k a.rest; does = rules.Scans1 (cause_of a.rest) x a.upgradable a.writer (us ++ v ∷ []) } in
                (scan_of k a us, record { from = refl; to = goes_role s left (us ++ v ∷ []) ∙ ap g m }, refl),
            goes_ready s left e,
          )

      writer : TakesAt a left 8
      writer = let s : Scanning = record a { writer = true } in (λ v. (scan_of k a us, record { from = refl; to = goes_role s left (us ++ v ∷ []) }, refl), goes_ready s left e)

      upgrader : TakesAt a left 20
      upgrader = let s : Scanning = record a { upgradable = true } in (λ v. (scan_of k a us, record { from = refl; to = goes_role s left (us ++ v ∷ []) }, refl), goes_ready s left e)

      one_of : IsToken (Some token) → TakesAt a left token.0
      one_of (inl x) = let P : ℕ → Type 0 = λ y. TakesAt a left y in subst P (sym x) reader
      one_of (inr (inl x)) = let P : ℕ → Type 0 = λ y. TakesAt a left y in subst P (sym x) writer
      one_of (inr (inr x)) = let P : ℕ → Type 0 = λ y. TakesAt a left y in subst P (sym x) upgrader

  -- what a scan stores
  abbrev TellsIt : Scanning → Bool → Bool → Bool → Type 0
  TellsIt a left b c = (scan : Scan) × Telling k us (ending a.rest (hands a b)) left (Stores a left) (Leaves a.rest (count_of a) (hands a b)) scan w (change_of (store_of a c left) (number w))

  zeroed : (n m : ℕ) → (bit_and n 0 + m) % 2 ^ 64 ≡ (0 + m) % 2 ^ 64
  zeroed n m = ap (λ x. (x + m) % 2 ^ 64) (and_zero_r n)

  hand_word : (shared : ℕ) (u x left : Bool) → shared < 2 ^ 32
      → (bit_and (number w) 0 + (0 + (16 * shared + 20 * bit u + 8 * bit x) + bit left)) % 2 ^ 64 ≡ number (stored Hand shared u x (bit left) w)
  hand_word shared u x left e = zeroed (number w) _ ∙ (mod-eq_of_lt (bound u x left) ∙ same u x left)
    where
      bound : (u x left : Bool) → 0 + (0 + (16 * shared + 20 * bit u + 8 * bit x) + bit left) < 2 ^ 64
      bound true true true = omega arith
      bound true true false = omega arith
      bound true false true = omega arith
      bound true false false = omega arith
      bound false true true = omega arith
      bound false true false = omega arith
      bound false false true = omega arith
      bound false false false = omega arith

      same : (u x left : Bool) → 0 + (0 + (16 * shared + 20 * bit u + 8 * bit x) + bit left) ≡ number (stored Hand shared u x (bit left) w)
      same true true true = omega arith
      same true true false = omega arith
      same true false true = omega arith
      same true false false = omega arith
      same false true true = omega arith
      same false true false = omega arith
      same false false true = omega arith
      same false false false = omega arith

  freed : (shared : ℕ) (u x left : Bool) → (bit_and (number w) 0 + bit left) % 2 ^ 64 ≡ number (stored Free shared u x (bit left) w)
  freed shared u x true = zeroed (number w) 1
  freed shared u x false = zeroed (number w) 0

  abbrev TellsFor : Scanning → Bool → AfterWake → Bool → Type 0
  TellsFor a left q c = (scan : Scan) × Telling k us (ending q c) left (Stores (record a { rest = q }) left) (Leaves q (count_of a) c) scan w (change_of (store_of (record a { rest = q }) c left) (number w))

  tells : (a : Scanning) (left b : Bool) → gives_shared a.rest ≡ false → a.shared < 2 ^ 32 → length us ≡ count_of a → TellsIt a left b (hands a b)
  tells a left b e f l = by_rest a.rest refl
    where
      some : (c : Bool) → b && nat_lt 0 (count_of a) ≡ c → c ≡ true → 0 < length us
      some c g h' = let t = both b (nat_lt 0 (count_of a)) (g ∙ h') in let z = ltb-true 0 (count_of a) t.1 in omega arith

      exclusive : (c : Bool) → b && nat_lt 0 (count_of a) ≡ c → TellsFor a left FreedExclusive c
      exclusive true g = (scan_of k (record a { rest = FreedExclusive }) us, record { from = refl; to = refl; cause = refl; may = some true g refl; written = hand_word a.shared a.upgradable a.writer left f })
      exclusive false g = (scan_of k (record a { rest = FreedExclusive }) us, record { from = refl; to = refl; cause = refl; may = tt; written = freed a.shared a.upgradable a.writer left })

      again : (c : Bool) → b && nat_lt 0 (count_of a) ≡ c → TellsFor a left AgainExclusive c
      again true g = (scan_of k (record a { rest = AgainExclusive }) us, record { from = refl; to = refl; cause = refl; may = some true g refl; written = hand_word a.shared a.upgradable a.writer left f })
      again false g = (scan_of k (record a { rest = AgainExclusive }) us, record { from = refl; to = refl; cause = refl; may = tt; written = freed a.shared a.upgradable a.writer left })

      kept_left : (x : Bool) → change_of (record { keep = 2 ^ 64 - 2 + bit x; add = 0 }) (number w) ≡ number (stored Keep a.shared a.upgradable a.writer (bit x) w)
      kept_left true = kept_word w h r
      kept_left false = cleared_word w h r

      by_rest : (q : AfterWake) → a.rest ≡ q → TellsFor a left q (may_hand q && (b && nat_lt 0 (count_of a)))
      by_rest FreedExclusive x = exclusive (b && nat_lt 0 (count_of a)) refl
      by_rest AgainExclusive x = again (b && nat_lt 0 (count_of a)) refl
      by_rest Downgraded x = (scan_of k (record a { rest = Downgraded }) us, record { from = refl; to = refl; cause = refl; may = tt; written = kept_left left })
      by_rest FreedShared x = absurd (both_ways (gives_shared a.rest) e (ap gives_shared x))
      by_rest AgainShared x = absurd (both_ways (gives_shared a.rest) e (ap gives_shared x))

  abbrev StoresAs : Scanning → Bool → Bool → Bool → Type 0
  StoresAs a left x y = (scan : Scan) × Telling k us (ending a.rest (hands a (x || y))) left (Stores a left) (Leaves a.rest (count_of a) (hands a (x || y))) scan w
      (change_of (cond y (store_of a (hands a true) left) (store_of a (hands a x) left)) (number w))

  stores : (a : Scanning) (left fair : Bool) → gives_shared a.rest ≡ false → a.shared < 2 ^ 32 → length us ≡ count_of a
      → (scan : Scan) × Telling k us (ending a.rest (hands a (a.fair || fair))) left (Stores a left) (Leaves a.rest (count_of a) (hands a (a.fair || fair))) scan w
      (change_of (cond fair (store_of a (hands a true) left) (store_of a (hands a a.fair) left)) (number w))
  stores a left fair e f l = go a.fair fair
    where
      go : (x y : Bool) → StoresAs a left x y
      go true true = tells a left true e f l
      go true false = tells a left true e f l
      go false true = tells a left true e f l
      go false false = tells a left false e f l

  finished : (rest : AfterWake) → us ≡ [] → (gives_exclusive rest ≡ true → k ≡ 0) → (word : ℕ) → Gives (last_act rest) (number w) (seen.Word word)
      → Moves (Makes (plain.Finish (owned_at_last k rest))) (Finishes rest) (option_map_or (λ q. q) (asks_again rest) Invalid) (number w)
  finished AgainShared z n word g = (record { from = ap (λ q. record { owns = rules.Shares k; does = rules.Wakes q }) z; to = refl; may = tt; written = refl }, tt)
  finished AgainExclusive z n word g =
      (record { from = ap (λ q. record { owns = rules.Shares 0; does = rules.Wakes q }) z; to = ap (λ m. record { owns = rules.Shares m; does = rules.Idle }) (n refl); may = tt; written = refl }, tt)
  finished FreedShared z n word g = absurd g
  finished FreedExclusive z n word g = absurd g
  finished Downgraded z n word g = absurd g

finishes : (rest : AfterWake) (s : ActResult) → Follows (Finishes rest) s
finishes AgainShared (seen.Word v) recursive k us w rd h r f g = finished recursive k us w h r AgainShared f.0 f.1 v g
finishes AgainExclusive (seen.Word v) recursive k us w rd h r f g = finished recursive k us w h r AgainExclusive f.0 f.1 v g
finishes rest s recursive k us w rd h r f g = absurd g

pub follows : (p : RwPhase) (s : ActResult) → Follows p s
follows (Locking want) seen.Start recursive k us w rd h r f g = (record { from = refl; to = refl; may = begin recursive k want w f; written = refl }, tt)
follows (Trying want) seen.Start recursive k us w rd h r f g = (record { from = refl; to = refl; may = begin recursive k want w f; written = refl }, tt)
follows UnlockingShared seen.Start recursive k us w rd h r f g = ((λ spot. refl, refl), refl)
follows (UnlockingExclusive fair) seen.Start recursive k us w rd h r f g = ((λ spot. refl, refl), refl)
follows Downgrading seen.Start recursive k us w rd h r f g = ((λ spot. refl, refl), tt)
follows BumpingShared seen.Start recursive k us w rd h r f g = ((λ spot. refl, refl), tt)
follows BumpingExclusive seen.Start recursive k us w rd h r f g = ((λ spot. refl, refl), tt)
follows (Loads a) (seen.Word v) recursive k us w rd h r f g = ((λ spot. seeks_role k spot us a v, refl), seeks_ready a v)
follows (Admits a word) seen.Exchanged recursive k us w rd h r f g =
    let P : ℕ → Type 0 = λ x. is_admitted a.want x ≡ true → IsMove recursive (Makes (admission k a.want a.woken)) k us (Admits a x) (admits a.want false) w ((x + share_of a.want) % 2 ^ 64) × IsReady (admits a.want false) in
    subst P g (λ e. admitted recursive k us w h r a.want a.woken a.rounds e f) rd
follows (Admits a word) (seen.Word v) recursive k us w rd h r f g = ((λ spot. seeks_role k spot us a v, refl), seeks_ready a v)
follows (Spins a) (seen.Spun spun) recursive k us w rd h r f g = ((λ spot. refl, refl), tt)
follows (SetParked a word) seen.Exchanged recursive k us w rd h r f g =
    let P : ℕ → Type 0 = λ x. IsReady (SetParked a x) → IsMove recursive (Makes (plain.Flag1 (mode_of a.want) a.woken)) k us (SetParked a x) (Enters a.want a.woken) w ((x + 1) % 2 ^ 64) × Unit {0} in
    subst P g (λ e. flagged recursive k us w h r a e f) rd
follows (SetParked a word) (seen.Word v) recursive k us w rd h r f g = ((λ spot. seeks_role k spot us a v, refl), seeks_ready a v)
follows (Enters want woken) seen.Entered recursive k us w rd h r f g =
    let s : ℕ → rules.Role = λ n. record { owns = rules.Shares n; does = rules.Seeks (mode_of want) woken } in
    let e : ℕ → rules.Role = λ n. record { owns = rules.Shares n; does = rules.Enters1 (mode_of want) woken } in
    (record { from = ap s f; to = ap e f; may = refl; written = refl }, tt)
follows (Checks want woken) (seen.Word v) recursive k us w rd h r f g =
    let P : ℕ → Type 0 =
    λ x. IsMove recursive (cond (is_barred want x && is_parked x) (Makes (plain.Check1 (mode_of want) woken)) Stays)
    k us (Checks want woken) (cond (is_barred want x && is_parked x) (Appends want) (Retreats want woken)) w
    (number w)
    × IsReady (cond (is_barred want x && is_parked x) (Appends want) (Retreats want woken)) in
    subst P (sym g) (checked recursive k us w h r want woken f (is_barred want (number w) && is_parked (number w)) refl)
follows (Retreats want woken) seen.Made recursive k us w rd h r f g =
    let s : ℕ → rules.Role = λ n. record { owns = rules.Shares n; does = rules.Seeks (mode_of want) woken } in
    let e : ℕ → rules.Role = λ n. record { owns = rules.Shares n; does = rules.Enters1 (mode_of want) woken } in
    (record { from = ap e f; to = ap s f; may = tt; written = refl }, tt)
follows (Appends want) seen.Made recursive k us w rd h r f g =
    let s : ℕ → rules.Role = λ n. record { owns = rules.Shares n; does = rules.Checked1 (mode_of want) } in
    let e : ℕ → rules.Role = λ n. record { owns = rules.Shares n; does = rules.Queued1 (mode_of want) Fresh } in
    ((ap s f, ap e f, refl), tt)
follows (Rests want) seen.Made recursive k us w rd h r f g =
    let s : ℕ → rules.Role = λ n. record { owns = rules.Shares n; does = rules.Queued1 (mode_of want) Fresh } in
    let e : ℕ → rules.Role = λ n. record { owns = rules.Shares n; does = rules.Queued1 (mode_of want) Asleep } in
    (record { from = ap s f; to = ap e f; may = tt; written = refl }, tt)
follows (Sleeps want) (seen.Woken token) recursive k us w rd h r f g = roused recursive k us w h r want f (token.0 == 1)
follows (DrainLoads d) (seen.Word v) recursive k us w rd h r f g =
    let Q : ℕ → RwPhase = λ x. cond (has_readers x) (cond (nat_lt 0 d.rounds) (DrainSpins d) (cond (is_writer_parked x) (DrainEnters d) (DrainSetParked d x))) (Ends outcome.Exclusive) in
    let P : ℕ → Type 0 = λ x. IsMove recursive (cond (has_readers x) Stays (Makes (plain.Drain false d.woken))) k us (DrainLoads d) (Q x) w (number w) × IsReady (Q x) in
    subst P (sym g) (drains recursive k us w h f (DrainLoads d) d refl (λ spot. refl) (has_readers (number w)) refl)
follows (DrainSpins d) (seen.Spun spun) recursive k us w rd h r f g = ((λ spot. refl, refl), tt)
follows (DrainSetParked d word) seen.Exchanged recursive k us w rd h r f g =
    let P : ℕ → Type 0 = λ x. IsReady (DrainSetParked d x) → IsMove recursive (Makes (plain.Flag2 false d.woken)) k us (DrainSetParked d x) (DrainEnters d) w ((x + 2) % 2 ^ 64) × Unit {0} in
    subst P g (λ e. flagged2 recursive k us w h r d e f) rd
follows (DrainSetParked d word) (seen.Word v) recursive k us w rd h r f g =
    let Q : ℕ → RwPhase = λ x. cond (has_readers x) (cond (nat_lt 0 d.rounds) (DrainSpins d) (cond (is_writer_parked x) (DrainEnters d) (DrainSetParked d x))) (Ends outcome.Exclusive) in
    let P : ℕ → Type 0 = λ x. IsMove recursive (cond (has_readers x) Stays (Makes (plain.Drain false d.woken))) k us (DrainSetParked d word) (Q x) w (number w) × IsReady (Q x) in
    subst P (sym g.0) (drains recursive k us w h f (DrainSetParked d word) d refl (λ spot. refl) (has_readers (number w)) refl)
follows (DrainEnters d) seen.Entered recursive k us w rd h r f g =
    let s : ℕ → rules.Role = λ n. record { owns = rules.Shares n; does = rules.Drains false d.woken } in
    let e : ℕ → rules.Role = λ n. record { owns = rules.Shares n; does = rules.Enters2 false d.woken } in
    (record { from = ap s f; to = ap e f; may = refl; written = refl }, tt)
follows (DrainChecks d) (seen.Word v) recursive k us w rd h r f g =
    let P : ℕ → Type 0 =
    λ x. IsMove recursive (cond (has_readers x && is_writer_parked x) (Makes (plain.Check2 false d.woken)) Stays) k
    us (DrainChecks d) (cond (has_readers x && is_writer_parked x) (DrainAppends d.rounds) (DrainRetreats d)) w
    (number w)
    × IsReady (cond (has_readers x && is_writer_parked x) (DrainAppends d.rounds) (DrainRetreats d)) in
    subst P (sym g) (checked2 recursive k us w h r d f (has_readers (number w) && is_writer_parked (number w)) refl)
follows (DrainRetreats d) seen.Made recursive k us w rd h r f g =
    let s : ℕ → rules.Role = λ n. record { owns = rules.Shares n; does = rules.Drains false d.woken } in
    let e : ℕ → rules.Role = λ n. record { owns = rules.Shares n; does = rules.Enters2 false d.woken } in
    (record { from = ap e f; to = ap s f; may = tt; written = refl }, tt)
follows (DrainAppends rounds) seen.Made recursive k us w rd h r f g =
    let s : ℕ → rules.Role = λ n. record { owns = rules.Shares n; does = rules.Checked2 false } in
    let e : ℕ → rules.Role = λ n. record { owns = rules.Shares n; does = rules.Queued2 false Fresh } in
    ((ap s f, ap e f, refl), tt)
follows (DrainRests rounds) seen.Made recursive k us w rd h r f g =
    let s : ℕ → rules.Role = λ n. record { owns = rules.Shares n; does = rules.Queued2 false Fresh } in
    let e : ℕ → rules.Role = λ n. record { owns = rules.Shares n; does = rules.Queued2 false Asleep } in
    (record { from = ap s f; to = ap e f; may = tt; written = refl }, tt)
follows (DrainSleeps rounds) (seen.Woken token) recursive k us w rd h r f g = (
  λ by.
      let s : ℕ → rules.Role = λ n. record { owns = rules.Shares n; does = rules.Taken2 false by Asleep } in
      let e : ℕ → rules.Role = λ n. record { owns = rules.Shares n; does = rules.Drains false true } in
      (ap s f, ap e f, refl),
  tt,
)
follows (TryLoads want) (seen.Word v) recursive k us w rd h r f g = ((λ spot. tries_role k spot us want 63 v, refl), tries_ready want 63 v)
follows (TryAdmits want word left) seen.Exchanged recursive k us w rd h r f g =
    let P : ℕ → Type 0 = λ x. is_tried want x ≡ true → IsMove recursive (Makes (try_admission k want)) k us (TryAdmits want x left) (Ends (gains want)) w ((x + share_of want) % 2 ^ 64) × Unit {0} in
    subst P g (λ e. tried recursive k us w h r want left e f) rd
follows (TryAdmits want word left) (seen.Word v) recursive k us w rd h r f g = ((λ spot. retries_role k spot us want left v, refl), retries_ready want left v)
follows (BumpLoads want) (seen.Word v) recursive k us w rd h r f g = bumped recursive k us w h r want v
follows (Relocks want) (seen.Word v) recursive k us w rd h r f g =
    (record { from = refl; to = seeks_role k Listed us (begins want false) v; may = begin recursive k want w f; written = refl }, seeks_ready (begins want false) v)
follows (Unshares rest) (seen.Before v) recursive k us w rd h r f g =
    let B : ℕ → Bool = λ x. (x / 16 == 1) && is_writer_parked x in
    let P : ℕ → Type 0 = λ x. IsMove recursive (Makes (cond (B x) (plain.UnshareLast k) (plain.Unshare k))) k us (Unshares rest) (cond (B x) (EnterWriterWakeSection rest) (over rest)) w ((number w + (2 ^ 64 - 16)) % 2 ^ 64)
    × IsReady (cond (B x) (EnterWriterWakeSection rest) (over rest)) in
    subst P (sym g) (unshared recursive k us w h r rest rd f (B (number w)) refl)
follows (EnterWriterWakeSection rest) seen.Entered recursive k us w rd h r f g = (record { from = refl; to = refl; may = refl; written = refl }, rd)
follows (TakeWriter rest) (seen.Took (Some token) left) recursive k us w rd h r f g = (λ v. (refl, refl, refl), rd)
follows (TakeWriter rest) (seen.Took None left) recursive k us w rd h r f g = ((λ spot. ap (λ q. record { owns = rules.Shares k; does = rules.Scans2 q }) f, refl), rd)
follows (ClearWriterParked rest taken) (seen.Before v) recursive k us w rd h r f g = masked recursive k us w h r rest taken rd
follows (LeaveWriterWakeSection rest taken) seen.Made recursive k us w rd h r f g = left2 recursive k us w h r rest taken rd
follows (Unlocks fair rest) seen.Exchanged recursive k us w rd h r f g = unlocked recursive k us w h r fair rest rd f g
follows (Unlocks fair rest) (seen.Word v) recursive k us w rd h r f g = ((λ spot. refl, refl), rd)
follows (LooksExclusive fair rest) seen.Entered recursive k us w rd h r f g = looks recursive k us w h r fair rest rd f
follows Downgrades (seen.Before v) recursive k us w rd h r f g =
    let P : ℕ → Type 0 = λ x. IsMove recursive (Makes (plain.Downgrade (is_parked x))) k us Downgrades
    (cond (is_parked x) EnterWakeSection (Ends outcome.Downgraded)) w ((number w + 8) % 2 ^ 64)
    × IsReady (cond (is_parked x) EnterWakeSection (Ends outcome.Downgraded)) in
    subst P (sym g) (downgraded recursive k us w h r f (is_parked (number w)) refl)
follows EnterWakeSection seen.Entered recursive k us w rd h r f g = (record { from = refl; to = ap (λ q. record { owns = rules.Shares 1; does = rules.Scans1 rules.Owed 0 false false q }) f; may = refl; written = refl }, refl)
follows (Scans a) (seen.Took (Some token) left) recursive k us w rd h r f g = takes recursive k us w h r a left token rd f g
follows (Scans a) (seen.Took None left) recursive k us w rd h r f g = ((λ spot. refl, refl), rd)
follows (Stores a left) (seen.Stored fair) recursive k us w rd h r f g = (stores recursive k us w h r a left fair rd f.0 f.1, tt)
follows (Leaves rest count handed) seen.Made recursive k us w rd h r f g = (record { from = refl; to = wakes_role recursive k us w h r rest count; may = tt; written = refl }, wakes_ready recursive k us w h r rest count)
follows (Wakes rest count) seen.Made recursive k us w rd h r f g = (λ v. (refl, wakes_role recursive k us w h r rest (count - 1), refl), wakes_ready recursive k us w h r rest (count - 1))
follows (Finishes rest) s recursive k us w rd h r f g = finishes rest s recursive k us w rd h r f g
follows p s recursive k us w rd h r f g = absurd g
