-- A world stays whole, whatever step is made.
use Rattle.std.proofs.Common.{◌≡◌, ◌⊎◌, ℕ, inl, inr, Bool, true, false, not, cond, ◌&&◌, ◌||◌, is_some, is_none, List}
use Rattle.std.proofs.Common.{map}
use Rattle.std.proofs.Common.{length, Option, Some, None, slice_get, slice_set, refl, sym, ap, ◌∙◌, subst}
use Rattle.std.specs.Option.{option_and_then, option_map, option_map_or}
use Rattle.std.proofs.lemmas.Bool.{cases_eq}
use Rattle.std.proofs.lemmas.List.{length-set}
use Rattle.std.proofs.lemmas.Option.{none-some, same_Some, slice_get-map}
use Rattle.parking_lot_core_model.specs.Buckets.{slot}
use Rattle.parking_lot_machine_sides.specs.declared.once.calls.OnceCall.{OnceCall}
use Rattle.parking_lot_machine_sides.specs.Once.OnceActs as once
use Rattle.parking_lot_machine_sides.specs.declared.once.open_call.OpenCall.{OpenCall}
use Rattle.parking_lot_machine_sides.specs.Once.Onces.{Onces}
use Rattle.parking_lot_machine_sides.specs.Once.Onces as onces
use Rattle.parking_lot_protocol_waits.specs.Once.OnceTable.{act_of}
use Rattle.parking_lot_machine_sides.specs.declared.condvar.calls.CondvarCall.{CondvarCall}
use Rattle.parking_lot_machine_waits.specs.Joint.{Joint, buckets, is_shut, is_that, is_var}
use Rattle.parking_lot_machine_waits.specs.JointLaws.{PartsFit}
use Rattle.parking_lot_machine_waits.specs.JointMoves as joint
use Rattle.parking_lot_machine_waits.specs.JointSides.{enters, enters_beside, enters_bucket, is_busy}
use Rattle.parking_lot_machine_waits.specs.JointStays.{Leaves, WasThere, enters_none}
use Rattle.parking_lot_machine_waits.specs.Whole as waits
use Rattle.parking_lot_machine_waits.proofs.LeavingTurns.{steps_leave}
use Rattle.parking_lot_machine_calls.specs.declared.calls.LockCall.{LockCall as RowCall}
use Rattle.parking_lot_machine_calls.specs.declared.calls.LockKind.{LockKind as RowKind}
use Rattle.parking_lot_machine_calls.specs.Kinds.{AsMutex, manner_of}
use Rattle.parking_lot_machine.specs.Rows.{call_at}
use Rattle.parking_lot_world.specs.declared.calls.Asked.{Asked}
use Rattle.parking_lot_world.specs.declared.calls.LockAnswer.{LockAnswer}
use Rattle.parking_lot_world.specs.declared.calls.LockKind.{LockKind}
use Rattle.parking_lot_world.specs.declared.calls.LockKind.TheVariants as kind
use Rattle.parking_lot_world.specs.WorldCalls.{is_once, is_variable, row_kind}
use Rattle.parking_lot_world.specs.Worlds.{IsAsked, IsGone, IsLate, IsWhole, Shown, act_enters, goes, is_in_once}
use Rattle.parking_lot_world.specs.Worlds.{is_once_at, is_variable_at, may_ask, may_go, noted, once_side, rows_of}
use Rattle.parking_lot_world.specs.Worlds.{shuts_out, wait_side}
use Rattle.parking_lot_world.proofs.Coming.{Was, set_cases}
use Rattle.parking_lot_world.proofs.OncesKept as of_onces
use Rattle.parking_lot_world.proofs.OncesKept.{once_of}
use Rattle.parking_lot_world.proofs.Sides.{not_shut}

-- PARTS

pub both_true : (a b : Bool) → (a && b) ≡ true → (a ≡ true) × (b ≡ true)
both_true true b e = (refl, e)
both_true false b e = absurd cc

nobody : {C : Type 0} (o : Option C) → is_none o ≡ true → o ≡ None
nobody None e = refl
nobody (Some c) e = absurd cc

pub not_true : (b : Bool) → not b ≡ true → b ≡ false
not_true true e = absurd cc
not_true false e = refl

pub both_ways : {X : Type 0} (b : Bool) → b ≡ true → b ≡ false → X
both_ways true e f = absurd cc
both_ways false e f = absurd cc

noted_length : (t : ℕ) (o : Option LockAnswer) (answers : List (Option LockAnswer))
    → length (noted t o answers) ≡ length answers
noted_length t None answers = refl
noted_length t (Some answer) answers = length-set answers t (Some answer)

-- the row of a once is no mutex
no_once : (o : Option LockKind) → manner_of (option_map row_kind o) ≡ Some AsMutex
    → option_map_or is_once o false ≡ false
no_once None is = refl
no_once (Some kind.Mutex) is = refl
no_once (Some kind.FairMutex) is = refl
no_once (Some kind.Rw) is = refl
no_once (Some kind.RwRecursive) is = refl
no_once (Some kind.Condvar) is = refl
no_once (Some kind.Once) is = absurd cc

mutex_no_once : (w : Shown) → IsWhole w → (i : ℕ) → manner_of (slice_get w.waits.rows.kinds i) ≡ Some AsMutex
    → is_once_at w i ≡ false
mutex_no_once w h i is =
    no_once (slice_get w.kinds i)
    (ap manner_of (sym (slice_get-map row_kind w.kinds i)) ∙ ap (λ (ks : List RowKind). manner_of (slice_get ks i))
    (sym h.row_kinds) ∙ is)

-- WHAT STAYS OF A WORLD WHERE ONE MACHINE MAKES A STEP

abbrev OneIsClosed : Shown → Type 0
OneIsClosed v = (b : ℕ) → (is_shut v.waits b ≡ false) ⊎ (slot v.onces.inside b ≡ None)

module _ (w v : Shown) (h : IsWhole w) (kinds : v.kinds ≡ w.kinds) (answers : length v.answers ≡ length w.answers) where
  at : (i : ℕ) → is_once_at v i ≡ is_once_at w i
  at i = ap (λ ks. option_map_or is_once (slice_get ks i) false) kinds

  variable_at : (i : ℕ) → is_variable_at v i ≡ is_variable_at w i
  variable_at i = ap (λ ks. option_map_or is_variable (slice_get ks i) false) kinds

  -- a lock where there is a call is no once
  was_no_once : (asked : Option ℕ) → ((i : ℕ) → asked ≡ Some i → is_once_at w i ≡ false) → (i : ℕ)
      → WasThere asked (rows_of w) i → is_once_at w i ≡ false
  was_no_once asked free i (inl (k, c, here, lock)) = ap (is_once_at w) (sym lock) ∙ h.at_locks k c here
  was_no_once asked free i (inr (inl mutex)) = mutex_no_once w h i mutex
  was_no_once asked free i (inr (inr this)) = free i this

  waits_moved : (t : ℕ) (e : ℕ → Bool) (asked : Option ℕ) → Leaves t e asked w.waits v.waits → v.onces ≡ w.onces
      → onces.call_at w.onces t ≡ None → ((i : ℕ) → asked ≡ Some i → is_once_at w i ≡ false) → OneIsClosed v → IsWhole v
  waits_moved t e asked x same out free one = record {
    wait_threads = x.threads ∙ h.wait_threads ∙ sym answers;
    once_threads = ap (λ (o : Onces). length o.calls) same ∙ h.once_threads ∙ sym answers;
    row_kinds = x.kinds ∙ h.row_kinds ∙ ap (map row_kind) (sym kinds);
    variables = λ i. x.variables i ∙ h.variables i ∙ sym (variable_at i);
    once_count = ap (λ (o : Onces). length o.words) same ∙ h.once_count ∙ ap length (sym kinds);
    apart = λ u busy. ap (λ (o : Onces). onces.call_at o u) same ∙ still_out u busy;
    at_locks = λ k c here. at c.lock ∙ was_no_once asked free c.lock (x.calls k c here);
    at_onces = λ u c is. at c.once ∙ h.at_onces u c (ap (λ (o : Onces). onces.call_at o u) (sym same) ∙ is);
    buckets = ap (λ (o : Onces). length o.inside) same ∙ h.buckets ∙ sym x.same_buckets;
    sections = one;
  }
    where
      still_out : (u : ℕ) → is_busy v.waits u ≡ true → onces.call_at w.onces u ≡ None
      still_out u busy = elim (cases_eq u t) [
        | inl own ↦ ap (onces.call_at w.onces) own ∙ out
        | inr other ↦ h.apart u (x.busy u other busy)
      ]

  onces_moved : v.waits ≡ w.waits → length v.onces.calls ≡ length w.onces.calls
      → length v.onces.words ≡ length w.onces.words → length v.onces.inside ≡ length w.onces.inside
      → ((t : ℕ) (d : OpenCall) → onces.call_at v.onces t ≡ Some d → (is_once_at w d.once ≡ true)
      × (is_busy w.waits t ≡ false)) → OneIsClosed v → IsWhole v
  onces_moved same count words many from one = record {
    wait_threads = ap (λ (j : Joint). length j.seats) same ∙ h.wait_threads ∙ sym answers;
    once_threads = count ∙ h.once_threads ∙ sym answers;
    row_kinds = ap (λ (j : Joint). j.rows.kinds) same ∙ h.row_kinds ∙ ap (map row_kind) (sym kinds);
    variables = λ i. ap (λ (j : Joint). is_var j i) same ∙ h.variables i ∙ sym (variable_at i);
    once_count = words ∙ h.once_count ∙ ap length (sym kinds);
    apart = λ t busy. stays_out t (ap (λ (j : Joint). is_busy j t) (sym same) ∙ busy) (onces.call_at v.onces t) refl;
    at_locks = λ k c here. at c.lock
        ∙ h.at_locks k c (ap (λ (j : Joint). call_at (rows_of (record w { waits = j })) k) (sym same) ∙ here);
    at_onces = λ t d is. at d.once ∙ (from t d is).0;
    buckets = many ∙ h.buckets ∙ sym (ap (λ (j : Joint). buckets j) same);
    sections = one;
  }
    where
      stays_out : (t : ℕ) → is_busy w.waits t ≡ true → (o : Option OpenCall) → onces.call_at v.onces t ≡ o
          → onces.call_at v.onces t ≡ None
      stays_out t busy None e = e
      stays_out t busy (Some d) e = both_ways (is_busy w.waits t) busy (from t d e).1

  -- one in a call at a once is in none of the other machine
  out_of_waits : (t : ℕ) (d : OpenCall) → onces.call_at w.onces t ≡ Some d → is_busy w.waits t ≡ false
  out_of_waits t d is = go (is_busy w.waits t) refl
    where
      go : (b : Bool) → is_busy w.waits t ≡ b → is_busy w.waits t ≡ false
      go false e = e
      go true e = absurd (none-some d (sym (h.apart t e) ∙ is))

  onces_kept : (b : Option ℕ) → of_onces.Kept b w.onces v.onces → v.waits ≡ w.waits → OneIsClosed v → IsWhole v
  onces_kept b k same one =
      onces_moved same k.calls.count k.count k.buckets (λ t d is. from t d (k.calls.from t d is)) one
    where
      from : (t : ℕ) (d : OpenCall) → Was once_of (onces.call_at w.onces t) d → (is_once_at w d.once ≡ true)
          × (is_busy w.waits t ≡ false)
      from t d c = (ap (is_once_at w) (sym c.there) ∙ h.at_onces t c.call c.is, out_of_waits t c.call c.is)

-- the onces are as they were, and a section is open in no bucket that isn't entered but where one was
one_closed : (w v : Shown) → v.onces ≡ w.onces
    → ((b : ℕ) → (is_shut v.waits b ≡ false) ⊎ (slot w.onces.inside b ≡ None))
    → OneIsClosed v
one_closed w v same one b =
    subst (λ (o : Onces). (is_shut v.waits b ≡ false) ⊎ (slot o.inside b ≡ None)) (sym same) (one b)

closed_still : (w v : Shown) → IsWhole w
    → ((b : ℕ) → false ≡ false → is_shut w.waits b ≡ false → is_shut v.waits b ≡ false) → v.onces ≡ w.onces
    → OneIsClosed v
closed_still w v h closed same = one_closed w v same
    (λ b. elim (h.sections b) [ inl shut ↦ inl (closed b refl shut) | inr shut ↦ inr shut ])

-- by which of its buckets it may be kept out
not_out : (p q : Bool) → not (p || q) ≡ true → (p ≡ false) × (q ≡ false)
not_out true q e = absurd cc
not_out false true e = absurd cc
not_out false false e = (refl, refl)

nobody_in : (o : Option ℕ) → is_some o ≡ false → o ≡ None
nobody_in None e = refl
nobody_in (Some t) e = absurd cc

one_of : (p q : Bool) → (p || q) ≡ true → (p ≡ true) ⊎ (q ≡ true)
one_of true q e = inl refl
one_of false q e = inr e

-- CALLS THAT BEGIN

pub ask_lock_there : (w : Shown) (t i : ℕ) (call : RowCall) → may_ask w t i (Asked.OfLock call) ≡ true
    → joint.may_ask w.waits t i call ≡ true
ask_lock_there w t i call may =
    (both_true (is_none (onces.call_at w.onces t)) _ (both_true (not (is_once_at w i)) _ may).1).1

pub ask_variable_there : (w : Shown) (t i : ℕ) (call : CondvarCall) → may_ask w t i (Asked.OfVariable call) ≡ true
    → joint.may_call_at w.waits t i call ≡ true
ask_variable_there w t i call may = (both_true (is_none (onces.call_at w.onces t)) _ may).1

module _ (w v : Shown) (h : IsWhole w) (tied : waits.IsWhole w.waits) (parts : PartsFit w.waits) (t i : ℕ)
    (answers : v.answers ≡ slice_set w.answers t None) (kinds : v.kinds ≡ w.kinds) where
  as_many : length v.answers ≡ length w.answers
  as_many = ap length answers ∙ length-set w.answers t None

  asked_lock : (call : RowCall) → may_ask w t i (Asked.OfLock call) ≡ true → IsAsked t i (Asked.OfLock call) w v
      → IsWhole v
  asked_lock call may (begun, same) =
      let a = both_true _ _ may in
      let b = both_true _ _ a.1 in
      let x = steps_leave.asks t i call w.waits v.waits tied parts b.1 begun in
      waits_moved w v h kinds as_many t enters_none (Some i) x same (nobody (onces.call_at w.onces t) b.0)
      (λ n e. ap (is_once_at w) (sym (same_Some i n e)) ∙ not_true (is_once_at w i) a.0)
      (closed_still w v h x.closed same)

  asked_variable : (call : CondvarCall) → may_ask w t i (Asked.OfVariable call) ≡ true
      → IsAsked t i (Asked.OfVariable call) w v → IsWhole v
  asked_variable call may (begun, same) =
      let a = both_true _ _ may in
      let x = steps_leave.calls t i call w.waits v.waits tied parts a.1 begun in
      waits_moved w v h kinds as_many t enters_none None x same (nobody (onces.call_at w.onces t) a.0)
      (λ n e. absurd (none-some n e)) (closed_still w v h x.closed same)

  asked_once : (call : OnceCall) → may_ask w t i (Asked.OfOnce call) ≡ true → IsAsked t i (Asked.OfOnce call) w v
      → IsWhole v
  asked_once call may (begun, same) = onces_moved w v h kinds as_many same
      (ap (λ (s : Onces). length s.calls) begun.became ∙ length-set w.onces.calls t _)
      (ap (λ (s : Onces). length s.words) begun.became) (ap (λ (s : Onces). length s.inside) begun.became)
      from (λ b. subst (λ (j : Joint). (is_shut j b ≡ false) ⊎ (slot v.onces.inside b ≡ None)) (sym same)
      (subst (λ (s : Onces). (is_shut w.waits b ≡ false) ⊎ (slot s.inside b ≡ None)) (sym begun.became) (h.sections b)))
    where
      allowed : (is_once_at w i ≡ true) × (not (is_busy w.waits t) ≡ true)
      allowed = (let a = both_true _ _ may in let b = both_true _ _ a.1 in (a.0, b.0))

      from : (u : ℕ) (d : OpenCall) → onces.call_at v.onces u ≡ Some d → (is_once_at w d.once ≡ true)
          × (is_busy w.waits u ≡ false)
      from u d is = elim (set_cases once_of w.onces.calls t u (Some (once.call_for i call)) d
          (sym (ap (λ (s : Onces). onces.call_at s u) begun.became) ∙ is)) [
            | inl own ↦ (
              ap (λ (c : OpenCall). is_once_at w c.once) (sym (same_Some (once.call_for i call) d own.1))
                  ∙ allowed.0,
              ap (is_busy w.waits) own.0 ∙ not_true (is_busy w.waits t) allowed.1,
            )
            | inr away ↦ (h.at_onces u d away.1, out_of_waits w v h kinds as_many u d away.1)
          ]

  pub asked_whole : (call : Asked) → may_ask w t i call ≡ true → IsAsked t i call w v → IsWhole v
  asked_whole (Asked.OfLock call) may made = asked_lock call may made
  asked_whole (Asked.OfVariable call) may made = asked_variable call may made
  asked_whole (Asked.OfOnce call) may made = asked_once call may made

-- CALLS THAT GO ON

pub which_goes : (w : Shown) (t : ℕ) (b : Bool) → is_in_once w t ≡ b → may_go w t ≡ true
    → cond b (goes (once_side w.onces) (wait_side w.waits) t) (goes (wait_side w.waits) (once_side w.onces) t) ≡ true
which_goes w t b there may =
    sym (ap (λ c. cond c (goes (once_side w.onces) (wait_side w.waits) t)
    (goes (wait_side w.waits) (once_side w.onces) t)) there) ∙ may

pub waits_go : (w : Shown) (t : ℕ) → is_in_once w t ≡ false → may_go w t ≡ true → joint.may_go w.waits t ≡ true
waits_go w t there may =
    (both_true (joint.may_go w.waits t) _ (which_goes w t false there may)).0

no_call : (o : Option OpenCall) → is_some o ≡ false → o ≡ None
no_call None e = refl
no_call (Some c) e = absurd cc

module _ (w v : Shown) (h : IsWhole w) (tied : waits.IsWhole w.waits) (parts : PartsFit w.waits) (t : ℕ)
    (kinds : v.kinds ≡ w.kinds) where
  pub gone_whole : (fair b : Bool) → is_in_once w t ≡ b → may_go w t ≡ true → IsGone b t fair w v → IsWhole v
  gone_whole fair false there may (end, gone, same, answers) =
      let can = both_true (joint.may_go w.waits t) _ (which_goes w t false there may) in
      let x = steps_leave.steps t fair end w.waits v.waits tied parts can.0 gone in
      waits_moved w v h kinds (ap length answers ∙ noted_length t _ w.answers) t (enters_bucket w.waits t) None x same
      (no_call (onces.call_at w.onces t) there) (λ n e. absurd (none-some n e))
      (one_closed w v same (λ b. by x b (enters_bucket w.waits t b) refl (not_out _ _ can.1)))
    where
      by : Leaves t (enters_bucket w.waits t) None w.waits v.waits → (b : ℕ) (e : Bool) → enters_bucket w.waits t b ≡ e
          → (shuts_out (once_side w.onces) (enters_beside w.waits t) ≡ false)
          × (shuts_out (once_side w.onces) (enters w.waits t) ≡ false)
          → (is_shut v.waits b ≡ false) ⊎ (slot w.onces.inside b ≡ None)
      by x b false e out = elim (h.sections b) [ inl free ↦ inl (x.closed b e free) | inr shut ↦ inr shut ]
      by x b true e out = inr (nobody_in (slot w.onces.inside b)
          (elim (one_of (is_that (enters_beside w.waits t) b) (is_that (enters w.waits t) b) e) [
            | inl that ↦ not_shut (once_side w.onces) (enters_beside w.waits t) b out.0 that
            | inr that ↦ not_shut (once_side w.onces) (enters w.waits t) b out.1 that
          ]))
  gone_whole fair true there may (reply, x, same, answers) =
      let kept = of_onces.stepped_kept w.onces v.onces t reply x in
      let free = (both_true _ _ (which_goes w t true there may)).1 in
      let shut : shuts_out (wait_side w.waits) (act_enters w.onces x.call (act_of x.call.core.phase)) ≡ false =
      (not_out false _ (sym (ap (λ o. not (shuts_out (wait_side w.waits)
      (option_and_then (λ (c : OpenCall). act_enters w.onces c (act_of c.core.phase)) o))) x.here) ∙ free)).1 in
      onces_kept w v h kinds (ap length answers ∙ noted_length t _ w.answers) _ kept same
      (λ b. subst (λ (j : Joint). (is_shut j b ≡ false) ⊎ (slot v.onces.inside b ≡ None)) (sym same)
      (by (act_enters w.onces x.call (act_of x.call.core.phase)) b kept
      (is_that (act_enters w.onces x.call (act_of x.call.core.phase)) b) refl shut))
    where
      by : (o : Option ℕ) (b : ℕ) → of_onces.Kept o w.onces v.onces → (e : Bool) → is_that o b ≡ e
          → shuts_out (wait_side w.waits) o ≡ false → (is_shut w.waits b ≡ false) ⊎ (slot v.onces.inside b ≡ None)
      by o b kept true e out = inl (not_shut (wait_side w.waits) o b out e)
      by o b kept false e out = elim (h.sections b) [ inl free ↦ inl free | inr shut ↦ inr (kept.closed b e shut) ]

  -- One whose deadline may come is in no call at a once.
  pub late_whole : joint.may_expire w.waits t ≡ true → onces.call_at w.onces t ≡ None → IsLate t w v → IsWhole v
  late_whole may out (late, same, answers) =
      let x = steps_leave.deadlines t w.waits v.waits tied parts may late in
      waits_moved w v h kinds (ap length answers) t enters_none None x same out (λ n e. absurd (none-some n e))
      (closed_still w v h x.closed same)
