-- What fits of a machine in which nobody is in a call.
use Rattle.std.proofs.Common.{◌≡◌, ℕ, ◌+◌, ◌*◌, List, [], ◌∷◌, ◌++◌, length, take, drop, replicate, Option, Some, None}
use Rattle.std.proofs.Common.{slice_get, count_by, refl, sym, ap, ◌∙◌, subst, arith, zero, suc}
use Rattle.std.specs.Option.{option_and_then}
use Rattle.parking_lot_core_model.specs.declared.place.Place.{Place}
use Rattle.parking_lot_core_model.specs.declared.place.Place.TheVariants.{Running}
use Rattle.parking_lot_core_model.specs.declared.place.Waiter.{Waiter}
use Rattle.parking_lot_core_model.specs.Machine.{Machine, registered, free_number}
use Rattle.parking_lot_core_model.specs.Sound.{Sound}
use Rattle.parking_lot_core_model.proofs.Numbers.{flag, count_by-cons}
use Rattle.parking_lot_core_model.proofs.Entering.{none≢some}
use Rattle.parking_lot_machine_calls.specs.declared.open_call.Call.{Call}
use Rattle.parking_lot_machine_calls.specs.declared.seat.Wakeup.{Wakeup}
use Rattle.parking_lot_machine.specs.Rows.{State, call_at, taken_by}
use Rattle.parking_lot_machine.specs.RowFits.{SeatedIn, LotFits, WakesFit, is_away}
use Rattle.parking_lot_machine.specs.LotLaws.{IsNew}

-- where nobody is in a call nobody is away
nobody_away : (calls : List (Option Call)) → ((t : ℕ) → option_and_then (λ x. x) (slice_get calls t) ≡ None)
    → count_by is_away calls ≡ 0
nobody_away [] none = refl
nobody_away (c ∷ calls) none =
    let here : flag (is_away c) ≡ 0 = ap (λ (o : Option Call). flag (is_away o)) (none 0) in
    let rest : count_by is_away calls ≡ 0 = nobody_away calls (λ t. none (suc t)) in
    let both : count_by is_away (c ∷ calls) ≡ flag (is_away c) + count_by is_away calls =
    count_by-cons is_away c calls in
    omega arith

module _ (s : State) (sound : Sound s.lot) (new : IsNew s) where
  no_call : {X : Type 0} (t : ℕ) (c : Call) → call_at s t ≡ Some c → X
  no_call t c is = absurd (none≢some (sym (new.calls t) ∙ is))

  no_wakeup : {X : Type 0} (n : ℕ) (e : Wakeup) → slice_get s.wakes n ≡ Some e → X
  no_wakeup n e at = absurd (none≢some (ap (λ (ws : List Wakeup). slice_get ws n) (sym new.wakes) ∙ at))

  new_fits : LotFits s
  new_fits = record {
    sound = sound;
    seated = λ t low. subst (λ (o : Option Call). SeatedIn s.lot t o) (sym (new.calls t))
        (new.runs t low, new.outside t);
    opened = λ b o is. absurd (none≢some (sym (new.free b) ∙ is));
    waits = λ j k n w two at. absurd
        (none≢some (ap (λ (ws : List Waiter). slice_get ws n) (sym (new.lists (2 * j + k))) ∙ at));
    owed = λ t c key token by said is asleep off. no_call t c is;
    outside = λ t k c token by said x key sleep is asleep off place. no_call t c is;
    woken = λ n e at. no_wakeup n e at;
    once = λ n m e f at at' same. no_wakeup n e at;
    counted = λ t c is. no_call t c is;
    untaken = λ t is. ap (λ (ws : List Wakeup). taken_by ws t) new.wakes;
    wakeful = λ t c is. no_call t c is;
  }

  new_wakes : WakesFit s
  new_wakes = record {
    off = λ t by c said is out. no_call t c is;
    room = ap length new.wakes ∙ sym (nobody_away s.calls new.calls);
  }

pub new_machines_fit : (s : State) → Sound s.lot → IsNew s → LotFits s × WakesFit s
new_machines_fit s sound new = (new_fits s sound new, new_wakes s sound new)

-- THREADS THAT ARE REGISTERED

pub next_number : (n : ℕ) → free_number (replicate n (Some Running)) ≡ n
next_number zero = refl
next_number (suc n) = ap (λ k. 1 + k) (next_number n) ∙ one_more n
  where
    one_more : (k : ℕ) → 1 + k ≡ suc k
    one_more k = omega arith

one_after : (n : ℕ) → let ps : List (Option Place) = replicate n (Some Running) in take n ps ++ Some Running ∷ drop
    (suc n) ps ≡ replicate (suc n) (Some Running)
one_after zero = refl
one_after (suc n) = ap (λ (ps : List (Option Place)). Some Running ∷ ps) (one_after n)

pub registered_threads_run : (m : Machine) (n : ℕ) → m.places ≡ replicate n (Some Running)
    → (registered m).places ≡ replicate (n + 1) (Some Running)
registered_threads_run m n e =
    ap (λ (ps : List (Option Place)). take (free_number ps) ps ++ Some Running ∷ drop (suc (free_number ps)) ps) e
    ∙ (ap (λ (k : ℕ). let ps : List (Option Place) = replicate n (Some Running) in take k ps ++ Some Running ∷ drop
    (suc k) ps) (next_number n)
    ∙ (one_after n ∙ ap (λ (k : ℕ). replicate k (Some Running)) (one_more n)))
  where
    one_more : (k : ℕ) → suc k ≡ k + 1
    one_more k = omega arith
