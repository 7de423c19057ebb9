-- What a call at a once is answered, whatever the schedule.
use Rattle.std.proofs.Common.{◌≡◌, ◌≢◌, ◌⊎◌, inl, inr, ℕ, ◌<◌, ◌==◌, Bool, true, false, ◌||◌, is_some, length, Option}
use Rattle.std.proofs.Common.{Some, None, slice_get, slice_set, refl, sym, ap, ◌∙◌, subst, arith}
use Rattle.std.specs.Option.{option_and_then, option_map}
use Rattle.std.proofs.lemmas.Bool.{eqb-true}
use Rattle.std.proofs.lemmas.List.{length-set}
use Rattle.std.proofs.lemmas.Option.{none-some}
use Rattle.parking_lot_machine_sides.specs.Once.Onces.{Onces}
use Rattle.parking_lot_machine_sides.specs.Once.Onces as onces
use Rattle.parking_lot_machine_sides.specs.declared.once.open_call.OpenCall.{OpenCall}
use Rattle.parking_lot_machine_waits.specs.Joint.{Joint}
use Rattle.parking_lot_machine_waits.specs.JointMoves as joint
use Rattle.parking_lot_machine_waits.specs.JointSides.{is_busy}
use Rattle.parking_lot_world.specs.declared.calls.Asked.{Asked}
use Rattle.parking_lot_world.specs.declared.calls.LockCall.{LockCall}
use Rattle.parking_lot_world.specs.declared.step.WorldStep.TheVariants as step
use Rattle.parking_lot_world.specs.WorldAnswers.{Fits, answer_at}
use Rattle.parking_lot_world.specs.WorldCalls.{asked, of_reply, said}
use Rattle.parking_lot_world.specs.Worlds.{IsAsked, IsFit, IsGone, IsLate, Shown, is_in_once, noted}
use Rattle.parking_lot_rules.proofs.Slots.{set_there}
use Rattle.parking_lot_world.proofs.Busy.{expires_busy}
use Rattle.parking_lot_world.proofs.Whole.{both_ways}
use Rattle.parking_lot_machine_sides.specs.declared.once.calls.OnceCall.{OnceCall}
use Rattle.parking_lot_machine_sides.specs.declared.once.calls.OnceCall.TheVariants as once
use Rattle.parking_lot_machine_sides.specs.declared.once.calls.OnceReply.{OnceReply}
use Rattle.parking_lot_machine_sides.specs.declared.once.calls.OnceReply.TheVariants as told_as
use Rattle.parking_lot_machine_sides.specs.Once.OnceActs as acts
use Rattle.parking_lot_machine_sides.specs.Once.OnceMachineLasting.{MayReply, RepliesFit}
use Rattle.parking_lot_machine_sides.specs.Once.OnceSteps.{IsStepped}
use Rattle.parking_lot_world.specs.WorldAnswers.{may_end}
use Rattle.parking_lot_world.proofs.Following.{Goes, IsOver, answer_gone, answered_fits, elsewhere, not_it, or_not}
use Rattle.parking_lot_world.proofs.Following.{allowed}
use Rattle.parking_lot_world.proofs.OnceAsked.{another_begins, another_keeps, its_end, its_own}

-- the answer fits
ends_so : (c d : OnceCall) (r : OnceReply) (late : Bool) → c ≡ d → MayReply c r → may_end d late (of_reply r) ≡ true
ends_so c d r late same may = by d r (subst (λ (e : OnceCall). MayReply e r) same may)
  where
    by : (d : OnceCall) (r : OnceReply) → MayReply d r → may_end d late (of_reply r) ≡ true
    by (once.CallOnce true) (told_as.Ran before) may = refl
    by (once.CallOnce false) (told_as.Ran before) may = absurd cc
    by (once.CallOnce true) told_as.Failed may = absurd cc
    by (once.CallOnce false) told_as.Failed may = refl
    by (once.CallOnce true) told_as.Poisoned may = refl
    by (once.CallOnce false) told_as.Poisoned may = refl
    by (once.CallOnce true) told_as.Completed may = refl
    by (once.CallOnce false) told_as.Completed may = refl
    by (once.CallOnceForce true) (told_as.Ran before) may = refl
    by (once.CallOnceForce false) (told_as.Ran before) may = absurd cc
    by (once.CallOnceForce true) told_as.Failed may = absurd cc
    by (once.CallOnceForce false) told_as.Failed may = refl
    by (once.CallOnceForce well) told_as.Poisoned may = absurd cc
    by (once.CallOnceForce true) told_as.Completed may = refl
    by (once.CallOnceForce false) told_as.Completed may = refl
    by once.OnceWait (told_as.Ran before) may = absurd cc
    by once.OnceWait told_as.Failed may = absurd cc
    by once.OnceWait told_as.Poisoned may = refl
    by once.OnceWait told_as.Completed may = refl
    by once.OnceWaitForce (told_as.Ran before) may = absurd cc
    by once.OnceWaitForce told_as.Failed may = absurd cc
    by once.OnceWaitForce told_as.Poisoned may = absurd cc
    by once.OnceWaitForce told_as.Completed may = refl

-- A CALL AT ONCE i, BEGUN BY THREAD t

module _ (replies : RepliesFit) (t i : ℕ) (d : OnceCall) where
  abbrev Over : Shown → Bool → Type 0
  Over x late = IsOver t (may_end d) x late

  record InOnce (x : Shown) (late : Bool) : Type 0 where
    call : OpenCall
    here : onces.call_at x.onces t ≡ Some call
    asks : call.call ≡ d
    unanswered : answer_at x t ≡ None

  not_busy : (x : Shown) (late : Bool) → IsFit x → InOnce x late → is_busy x.waits t ≡ false
  not_busy x late fit m = go (is_busy x.waits t) refl
    where
      go : (b : Bool) → is_busy x.waits t ≡ b → is_busy x.waits t ≡ false
      go false e = e
      go true e = absurd (none-some m.call (sym (fit.whole.apart t e) ∙ m.here))

  same_onces : (v x : Shown) (late : Bool) → x.onces ≡ v.onces → answer_at x t ≡ answer_at v t → InOnce v late
      → InOnce x late
  same_onces v x late e same m =
      record {
        call = m.call;
        here = ap (λ (o : Onces). onces.call_at o t) e ∙ m.here;
        asks = m.asks;
        unanswered = same
            ∙ m.unanswered;
      }

  -- THE STEPS OF ANOTHER

  asked_by : (v x : Shown) (late : Bool) (u l : ℕ) (call : Asked) → t ≢ u → IsAsked u l call v x
      → answer_at x t ≡ answer_at v t → InOnce v late → InOnce x late
  asked_by v x late u l (Asked.OfLock e) ne (begun, same) answers m = same_onces v x late same answers m
  asked_by v x late u l (Asked.OfVariable e) ne (begun, same) answers m = same_onces v x late same answers m
  asked_by v x late u l (Asked.OfOnce e) ne (begun, same) answers m =
      let on = another_begins t u l ne v.onces x.onces _ m.call (ap (λ (o : Onces). o.calls) begun.became) m.here in
      record { call = on.call; here = on.here; asks = on.same ∙ m.asks; unanswered = answers ∙ m.unanswered }

  gone_by : (v x : Shown) (late : Bool) (u : ℕ) (fair b : Bool) → t ≢ u → IsGone b u fair v x
      → answer_at x t ≡ answer_at v t → InOnce v late → InOnce x late
  gone_by v x late u fair false ne (end, gone, same, told) answers m = same_onces v x late same answers m
  gone_by v x late u fair true ne (reply, made, same, told) answers m =
      let on = another_keeps t u ne v.onces x.onces reply m.call made m.here in
      record { call = on.call; here = on.here; asks = on.same ∙ m.asks; unanswered = answers ∙ m.unanswered }

  late_by : (v x : Shown) (late : Bool) (u : ℕ) → IsLate u v x → InOnce v late → InOnce x late
  late_by v x late u (came, same, answers) m =
      same_onces v x late same (ap (λ xs. option_and_then (λ a. a) (slice_get xs t)) answers) m

  -- ITS OWN STEPS

  module _ (v x : Shown) (fit : IsFit v) (late : Bool) (low : t < length v.answers) (m : InOnce v late) where
    made_itself : (reply : Option OnceReply) → IsStepped t reply v.onces x.onces → x.waits ≡ v.waits
        → x.answers ≡ noted t (option_map of_reply reply) v.answers → InOnce x late ⊎ Over x late
    made_itself None made same answers =
        let on = its_own t v.onces x.onces m.call made m.here in
        inl (record {
          call = on.call;
          here = on.here;
          asks = on.same ∙ m.asks;
          unanswered = ap (λ xs. option_and_then (λ a. a) (slice_get xs t)) answers ∙ m.unanswered;
        })
    made_itself (Some r) made same answers = inr (record {
      idle = ap (λ (j : Joint). is_busy j t) same ∙ not_busy v late fit m;
      out = its_end t v.onces x.onces r made;
      answer = of_reply r;
      answered = ap (λ xs. option_and_then (λ a. a) (slice_get xs t)) answers
          ∙ set_there v.answers t (Some (of_reply r)) low;
      fits = ends_so m.call.call d r late m.asks (replies v.onces x.onces t m.call r fit.onces m.here made);
    })

    goes_itself : (fair b : Bool) → is_in_once v t ≡ b → IsGone b t fair v x → InOnce x late ⊎ Over x late
    goes_itself fair false is gone = absurd (shut (sym is ∙ ap (λ (o : Option OpenCall). is_some o) m.here))
      where
        shut : false ≡ true → ⊥
        shut e = cc
    goes_itself fair true is (reply, made, same, answers) = made_itself reply made same answers

  -- ANY STEP BUT A BEGINNING OF ITS OWN

  goes_by : (v x : Shown) (late : Bool) (u : ℕ) (fair : Bool) → IsFit v → t < length v.answers
      → IsGone (is_in_once v u) u fair v x → InOnce v late → (b : Bool) → (u == t) ≡ b → InOnce x late ⊎ Over x late
  goes_by v x late u fair fit low gone m true e = goes_itself v x fit late low m fair (is_in_once v t) refl
      (subst (λ n. IsGone (is_in_once v n) n fair v x) (eqb-true u t e) gone)
  goes_by v x late u fair fit low gone m false e =
      let ne = not_it t (may_end d) u e in
      inl (gone_by v x late u fair (is_in_once v u) ne gone (answer_gone t (may_end d) v x u fair ne gone) m)

  lates_by : (v x : Shown) (late : Bool) (u : ℕ) → IsFit v → joint.may_expire v.waits u ≡ true → IsLate u v x
      → InOnce v late → (b : Bool) → (u == t) ≡ b → InOnce x (late || b)
  lates_by v x late u fit may came m true e =
      both_ways (is_busy v.waits t)
      (expires_busy v.waits t (subst (λ n. joint.may_expire v.waits n ≡ true) (eqb-true u t e) may))
      (not_busy v late fit m)
  lates_by v x late u fit may came m false e = subst (InOnce x) (sym (or_not t (may_end d) late))
      (late_by v x late u came m)

  abbrev On : Shown → Bool → Type 0
  On x late = InOnce x late ⊎ Over x late

  goes : Goes t (may_end d) InOnce
  goes v x late (step.Begin u l call) fit fits low there may (begun, answers, kinds) begins m =
      let ne = not_it t (may_end d) u begins in
      inl (subst (InOnce x) (sym (or_not t (may_end d) late))
      (asked_by v x late u l (asked call) ne begun
      (ap (λ xs. option_and_then (λ a. a) (slice_get xs t)) answers ∙ elsewhere v.answers t u None ne) m))
  goes v x late (step.Go u fair) fit fits low there may (gone, kinds) begins m =
      subst (On x) (sym (or_not t (may_end d) late)) (goes_by v x late u fair fit low gone m (u == t) refl)
  goes v x late (step.Deadline u) fit fits low there may (came, kinds) begins m =
      inl (lates_by v x late u fit may came m (u == t) refl)

  -- ITS BEGINNING

  first : (v x : Shown) → IsFit v → t < length v.answers → IsAsked t i (Asked.OfOnce d) v x
      → x.answers ≡ slice_set v.answers t None → InOnce x false
  first v x fit low (begun, same) answers = record {
    call = acts.call_for i d;
    here = ap (λ (o : Onces). onces.call_at o t) begun.became ∙ set_there v.onces.calls t (Some (acts.call_for i d))
        (omega (arith, low, fit.whole.once_threads));
    asks = refl;
    unanswered = ap (λ xs. option_and_then (λ a. a) (slice_get xs t)) answers ∙ set_there v.answers t None low;
  }

  pub begun_fits : (asks : LockCall) → asked asks ≡ Asked.OfOnce d → Fits (may_end d) t i asks
  begun_fits asks is v x steps a fit (mid, ok, (begun, answers, kinds), fits, rest) begins said =
      let may = allowed t (may_end d) v (step.Begin t i asks) ok in
      let m = first v mid fit may.0 (subst (λ q. IsAsked t i q v mid) is begun) answers in
      let many = ap (λ xs. length xs) answers ∙ length-set v.answers t None in
      answered_fits t (may_end d) InOnce goes (λ y late k. k.unanswered) mid x steps a fits (omega (arith, may.0, many))
      m rest begins said
