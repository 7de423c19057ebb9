-- All that is promised of a world, and what is done stays done there.
use Rattle.std.proofs.Common.{◌≡◌, inl, inr, ◌+◌, ◌-◌, ◌*◌, ◌/◌, ◌<◌, ◌≤◌, ◌==◌, ◌&&◌, ◌||◌, ℕ, Bool, true, false, cond}
use Rattle.std.proofs.Common.{nat_lt, [], length, map, Option, None, Some, slice_get, refl, sym, ap, ◌∙◌, subst, arith}
use Rattle.std.specs.Option.{option_map_or, option_or}
use Rattle.std.proofs.lemmas.Bool.{cases_lt, lt-ltb, ltb-true}
use Rattle.std.proofs.lemmas.List.{length-map}
use Rattle.std.proofs.lemmas.Option.{none-some}
use Rattle.parking_lot_rules.specs.declared.once.once_state.OnceState.TheVariants.{Done}
use Rattle.parking_lot_machine_sides.specs.Once.Entries.{list_of}
use Rattle.parking_lot_machine_sides.specs.Once.OnceDebts as once_debts
use Rattle.parking_lot_machine_sides.specs.Once.OnceFits.{Fits}
use Rattle.parking_lot_machine_sides.specs.Once.OnceMachineLasting as lasting
use Rattle.parking_lot_machine_sides.specs.Once.OnceMachineLaws as once_laws
use Rattle.parking_lot_machine_sides.specs.Once.OnceRanks as once_ranks
use Rattle.parking_lot_machine_sides.specs.Once.Onces.{Onces, once_at}
use Rattle.parking_lot_machine_waits.specs.Joint.{Joint, number, thread_of}
use Rattle.parking_lot_machine_waits.specs.Joint as joints
use Rattle.parking_lot_machine_waits.specs.JointLaws.{PartsFit}
use Rattle.parking_lot_machine_waits.specs.JointProgress.{GiversAreOut, SomebodyInsideGoes}
use Rattle.parking_lot_machine_waits.specs.JointProgress as wait_laws
use Rattle.parking_lot_machine_waits.specs.JointRanks as wait_ranks
use Rattle.parking_lot_machine_waits.specs.JointSides as sides
use Rattle.parking_lot_machine_waits.specs.Whole as waits
use Rattle.parking_lot_machine_waits.proofs.Moves.{apart}
use Rattle.parking_lot_machine_calls.specs.declared.calls.OwnMode.{OwnMode}
use Rattle.parking_lot_machine_calls.specs.declared.open_call.Call.{Call}
use Rattle.parking_lot_machine.specs.Rows.{call_at, lock_at}
use Rattle.parking_lot_machine.specs.Rows as rows
use Rattle.parking_lot_machine.specs.SoundLaws as row_laws
use Rattle.parking_lot_machine.specs.SoundLaws.{agrees}
use Rattle.parking_lot_machine.specs.Worlds.{is_indebted, mode_in}
use Rattle.parking_lot_machine.proofs.Carrying.{call_within}
use Rattle.parking_lot_world.specs.declared.calls.Asked.{Asked}
use Rattle.parking_lot_world.specs.declared.step.WorldStep.{WorldStep}
use Rattle.parking_lot_world.specs.WorldCalls.{asked, is_once}
use Rattle.parking_lot_world.specs.WorldLaws.{DebtsAreKept, DoneStays, IsOwned, IsSoundWorld, OwnersAgree}
use Rattle.parking_lot_world.specs.WorldLaws.{SomebodyIsInDebt, StepsAreFew}
use Rattle.parking_lot_world.specs.Worlds.{IsAsked, IsGone, IsMade, IsWhole, Shown, is_in_once, is_once_at}
use Rattle.parking_lot_world.specs.Worlds.{is_variable_at, mode_at, queue_at, rows_of}
use Rattle.parking_lot_world.proofs.Moving.{somebody_can_move}

-- one that is either is the first or the second
either : {X : Type 0} (o p : Option X) (x : X) → option_or o p ≡ Some x → (b : Bool) × (cond b p o ≡ Some x)
either None p x e = (true, e)
either (Some y) p x e = (false, e)

module _ (w : Shown) (whole : IsWhole w) (tied : waits.IsWhole w.waits) (givers : GiversAreOut w.waits)
    (parts : PartsFit w.waits) (locks : row_laws.IsSoundMachine (rows_of w)) (onces : once_laws.IsSoundMachine w.onces)
  where
    abbrev n : ℕ
    n = length w.waits.seats

    -- who owns a lock does so by one of its numbers
    owned_by : (i t : ℕ) (a : OwnMode) → mode_at w i t ≡ Some a → (b : Bool) × (t < n)
        × (mode_in (lock_at (rows_of w) i) (number w.waits t b) ≡ Some a)
    owned_by i t a owns = go (is_once_at w i || is_variable_at w i) refl (nat_lt t n) refl
      where
        go : (c : Bool) → (is_once_at w i || is_variable_at w i) ≡ c → (d : Bool) → nat_lt t n ≡ d → (b : Bool)
            × (t < n)
            × (mode_in (lock_at (rows_of w) i) (number w.waits t b) ≡ Some a)
        go true e d low = absurd (none-some a (sym (ap (λ c. cond c None (joints.mode_at w.waits t i)) e) ∙ owns))
        go false e false low =
            absurd (none-some a
            (sym (ap (λ c. cond c
            (option_or (mode_in (lock_at (rows_of w) i) t) (mode_in (lock_at (rows_of w) i) (number w.waits t true)))
            None) low) ∙ sym (ap (λ c. cond c None (joints.mode_at w.waits t i)) e) ∙ owns))
        go false e true low =
            let x = either (mode_in (lock_at (rows_of w) i) t)
            (mode_in (lock_at (rows_of w) i) (number w.waits t true)) a
            (sym (ap (λ c. cond c
            (option_or (mode_in (lock_at (rows_of w) i) t) (mode_in (lock_at (rows_of w) i) (number w.waits t true)))
            None) low) ∙ sym (ap (λ c. cond c None (joints.mode_at w.waits t i)) e) ∙ owns) in
            (x.0, ltb-true t n low, at x.0 ∙ x.1)
          where
            at : (b : Bool) → mode_in (lock_at (rows_of w) i) (number w.waits t b) ≡ cond b
                (mode_in (lock_at (rows_of w) i) (number w.waits t true)) (mode_in (lock_at (rows_of w) i) t)
            at true = refl
            at false = refl

    owners : OwnersAgree w
    owners i t u a b ne first second =
        let x = owned_by i t a first in
        let y = owned_by i u b second in
        locks.owners i (number w.waits t x.0) (number w.waits u y.0) a b (apart n t u x.0 y.0 x.1 y.1 ne) x.2 y.2

    or_else : (a b : Bool) → b ≡ true → (a || b) ≡ true
    or_else true b e = refl
    or_else false b e = e

    or_first : (a b : Bool) → a ≡ true → (a || b) ≡ true
    or_first true b e = refl
    or_first false b e = absurd cc

    both : (a b : Bool) → a ≡ true → b ≡ true → (a && b) ≡ true
    both true b e f = f
    both false b e f = absurd cc

    -- the thread of a number is in debt where the number is
    owes_there : (k : ℕ) → k < length (rows_of w).calls → is_indebted (rows_of w) k ≡ true
        → sides.is_indebted w.waits (thread_of w.waits k) ≡ true
    owes_there k low owes = elim (cases_lt k n) [
      | inl less ↦ subst (λ (t : ℕ). sides.is_indebted w.waits t ≡ true)
          (sym (ap (λ (b : Bool). cond b k (k - n)) (lt-ltb k n less)))
          (both _ _ (lt-ltb k n less) (or_else _ _ (or_first _ _ owes)))
      | inr more ↦ subst (λ (t : ℕ). sides.is_indebted w.waits t ≡ true)
          (sym (ap (λ (b : Bool). cond b k (k - n)) (not_less k n more)))
          (both _ _ (lt-ltb (k - n) n (omega (arith, low, tied.numbers, more)))
          (or_else _ _ (or_else _ _
          (subst (λ (m : ℕ). is_indebted (rows_of w) m ≡ true) (omega (arith, more)) owes))))
    ]
      where
        not_less : (a b : ℕ) → b ≤ a → nat_lt a b ≡ false
        not_less a b le = go (nat_lt a b) refl
          where
            go : (c : Bool) → nat_lt a b ≡ c → nat_lt a b ≡ false
            go false e = e
            go true e = absurd (omega (arith, le, ltb-true a b e))

    within : (k : ℕ) (c : Call) → call_at (rows_of w) k ≡ Some c → k < length (rows_of w).calls
    within k c here = call_within (rows_of w) k c here

    owed_there : (i : ℕ) → row_laws.SomebodyIsInDebt (rows_of w) i → SomebodyIsInDebt w i
    owed_there i (k, c, here, there, owes) = (
      k,
      c,
      here,
      there,
      or_else (once_debts.is_in_debt w.onces (thread_of w.waits k))
          (sides.is_indebted w.waits (thread_of w.waits k)) (owes_there k (within k c here) owes),
    )

    -- at a lock the lists are those of the machine of locks
    queue_there : (i key : ℕ) → key / 2 ≡ i → IsOwned w i → queue_at w key ≡ map (thread_of w.waits)
        (rows.queue_at (rows_of w) key)
    queue_there i key half owned =
        ap (λ d. cond d (cond (key == 2 * (key / 2)) (list_of w.onces.waiting (key / 2)) [])
        (sides.queue_at w.waits key))
        (ap (is_once_at w) half ∙ owned.no_once)
        ∙ ap (λ d. cond d (cond (key == 2 * (key / 2)) (joints.waiters_of (joints.var_at w.waits (key / 2))) [])
        (map (thread_of w.waits) (rows.queue_at (rows_of w) key)))
        (whole.variables (key / 2) ∙ ap (is_variable_at w) half ∙ owned.no_variable)

    some_there : (i key : ℕ) → key / 2 ≡ i → IsOwned w i → 0 < length (queue_at w key)
        → 0 < length (rows.queue_at (rows_of w) key)
    some_there i key half owned some =
        subst (λ (m : ℕ). 0 < m)
        (ap (λ us. length us) (queue_there i key half owned) ∙ length-map (rows.queue_at (rows_of w) key)
        (thread_of w.waits)) some

    debts : DebtsAreKept w
    debts = record {
      first = λ i owned some only. owed_there i
          (locks.debts.first i (some_there i (2 * i) (omega arith) owned some) only);
      second = λ i owned kind some none. owed_there i
          (locks.debts.second i kind (some_there i (2 * i + 1) (omega arith) owned some) none);
    }

    few : wait_ranks.StepsAreFew → StepsAreFew w
    few of_theirs t = omega (
      arith,
      subst (λ m. wait_ranks.steps_left w.waits t ≤ wait_ranks.most_left m) whole.wait_threads
          (of_theirs w.waits t tied parts),
      subst (λ m. once_ranks.left w.onces t ≤ m * once_ranks.most m) whole.once_threads (onces.few t),
    )

    pub sound_world : SomebodyInsideGoes → wait_laws.SomebodyCanMove → wait_ranks.StepsAreFew → Fits w.onces
        → IsSoundWorld w
    sound_world inside moves are_few onces_fit = record {
      fit = record { whole = whole; tied = tied; givers = givers; parts = parts; onces = onces_fit };
      locks = locks;
      onces = onces;
      owners = owners;
      debts = debts;
      moves = somebody_can_move inside w whole tied givers parts onces_fit moves onces.moves;
      few = few are_few;
    }

-- WHAT IS DONE STAYS DONE

module _ (law : lasting.DoneStays) (w v : Shown) (fits : Fits w.onces) where
  abbrev Stays : Type 0
  Stays = (i : ℕ) → (once_at w.onces i).word.state ≡ Done → (once_at v.onces i).word.state ≡ Done

  kept : v.kinds ≡ w.kinds → Stays → DoneStays w v
  kept kinds stays i done = (ap (λ ks. option_map_or is_once (slice_get ks i) false) kinds ∙ done.0, stays i done.1)

  same : v.onces ≡ w.onces → Stays
  same e i done = ap (λ (o : Onces). (once_at o i).word.state) e ∙ done

  asks : (t i : ℕ) (call : Asked) → IsAsked t i call w v → Stays
  asks t i (Asked.OfLock call) (x, e) = same e
  asks t i (Asked.OfVariable call) (x, e) = same e
  asks t i (Asked.OfOnce call) (x, e) = λ j done. law.begins w.onces v.onces t i j call fits x done

  goes : (t : ℕ) (fair b : Bool) → IsGone b t fair w v → Stays
  goes t fair false (end, x, e, answers) = same e
  goes t fair true (reply, x, e, answers) = λ j done. law.steps w.onces v.onces t j reply fits x done

  pub done_stays : (s : WorldStep) → IsMade s w v → DoneStays w v
  done_stays (WorldStep.Begin t i call) made = kept made.2 (asks t i (asked call) made.0)
  done_stays (WorldStep.Go t fair) made = kept made.1 (goes t fair (is_in_once w t) made.0)
  done_stays (WorldStep.Deadline t) made = kept made.1 (same made.0.1)
