-- What a step leaves as it was: the locks and variables, where calls are, who is in one, and closed sections.
use Rattle.parking_lot_machine_waits.proofs.AnySections.{joined_shut}
use Rattle.parking_lot_machine.specs.Rows.{first_key}
use Rattle.parking_lot_machine_waits.specs.Joint.{is_open_in, is_that}
use Rattle.std.proofs.Common.{◌≡◌, ◌⊎◌, inl, inr, ℕ, zero, suc, Bool, false, List, [], ◌∷◌, Option, Some, None}
use Rattle.std.proofs.Common.{slice_get, slice_set, refl, sym, ap, ◌∙◌, subst}
use Rattle.std.proofs.lemmas.Option.{none-some, same_Some}
use Rattle.parking_lot_protocol.specs.declared.act.CoreAnswer.{CoreAnswer}
use Rattle.parking_lot_machine_calls.specs.declared.open_call.Call.{Call}
use Rattle.parking_lot_machine_calls.specs.declared.calls.LockCall.{LockCall}
use Rattle.parking_lot_machine_calls.specs.Kinds.{manner_of}
use Rattle.parking_lot_machine_calls.specs.LateCalls.{late_of}
use Rattle.parking_lot_machine.specs.Machines as rows
use Rattle.parking_lot_machine.specs.Requeues.{AreTakenIn, IsRousedIn, IsTakenIn, retrying_call, sleeping_call}
use Rattle.parking_lot_machine.specs.RowActs.{with_call}
use Rattle.parking_lot_machine.specs.RowFits.{FitsTogether}
use Rattle.parking_lot_machine.specs.Rows.{State, call_at}
use Rattle.parking_lot_machine_waits.specs.Joint.{call_enters}
use Rattle.parking_lot_machine_waits.specs.JointStays.{WasThere}
use Rattle.parking_lot_machine_waits.proofs.Places.{Goes, Kept, Over, stepped_goes}
use Rattle.parking_lot_machine_waits.proofs.Stages.{Onward, call_of}

-- CALLS, AFTER ONE IS WRITTEN

set_or : (cs : List (Option Call)) (k l : ℕ) (o : Option Call) (d : Call) → call_of (slice_set cs k o) l ≡ Some d
    → (o ≡ Some d) ⊎ (call_of cs l ≡ Some d)
set_or [] k l o d e = inr e
set_or (c ∷ cs) zero zero o d e = inl e
set_or (c ∷ cs) zero (suc l) o d e = inr e
set_or (c ∷ cs) (suc k) zero o d e = inr e
set_or (c ∷ cs) (suc k) (suc l) o d e = set_or cs k l o d e

set_none : (cs : List (Option Call)) (k l : ℕ) (o : Option Call) → call_of cs l ≡ None
    → (call_of (slice_set cs k o) l ≡ None) ⊎ (l ≡ k)
set_none [] k l o e = inl e
set_none (c ∷ cs) zero zero o e = inr refl
set_none (c ∷ cs) zero (suc l) o e = inl e
set_none (c ∷ cs) (suc k) zero o e = inl e
set_none (c ∷ cs) (suc k) (suc l) o e = elim (set_none cs k l o e) [ inl x ↦ inl x | inr x ↦ inr (ap suc x) ]

set_gone : (cs : List (Option Call)) (k l : ℕ) → call_of cs l ≡ None → call_of (slice_set cs k None) l ≡ None
set_gone [] k l e = e
set_gone (c ∷ cs) zero zero e = refl
set_gone (c ∷ cs) zero (suc l) e = e
set_gone (c ∷ cs) (suc k) zero e = e
set_gone (c ∷ cs) (suc k) (suc l) e = set_gone cs k l e

-- AT THE LOCKS

-- numbers of P alone have begun a call
pub record Left (P : ℕ → Type 0) (asked enters : Option ℕ) (s u : State) : Type 0 where
  pub kinds : u.kinds ≡ s.kinds
  pub calls : (k : ℕ) (d : Call) → call_at u k ≡ Some d → WasThere asked s d.lock
  pub fresh : (k : ℕ) → call_at s k ≡ None → (call_at u k ≡ None) ⊎ P k
  pub buckets : u.lot.buckets ≡ s.lot.buckets
  pub shut : (b : ℕ) → is_that enters b ≡ false → is_open_in s b ≡ false → is_open_in u b ≡ false

module _ (P : ℕ → Type 0) (asked : Option ℕ) where
  pub left_same : (enters : Option ℕ) (s u : State) → u ≡ s → Left P asked enters s u
  left_same enters s u e = subst (Left P asked enters s) (sym e)
      (record {
        kinds = refl;
        calls = λ k d is. inl (k, d, is, refl);
        fresh = λ k none. inl none;
        buckets = refl;
        shut = λ b f o. o;
      })

  -- one after another
  pub left_both : (enters : Option ℕ) (s x u : State) → Left P asked enters s x → Left P asked enters x u
      → Left P asked enters s u
  left_both enters s x u a b = record {
    kinds = b.kinds ∙ a.kinds;
    calls = λ k d is. back d.lock (b.calls k d is);
    fresh = λ k none. elim (a.fresh k none) [ inl e ↦ b.fresh k e | inr p ↦ inr p ];
    buckets = b.buckets ∙ a.buckets;
    shut = λ k e o. b.shut k e (a.shut k e o);
  }
    where
      back : (m : ℕ) → WasThere asked x m → WasThere asked s m
      back m (inl (l, c, here, lock)) = subst (WasThere asked s) lock (a.calls l c here)
      back m (inr (inl mutex)) = inr (inl (ap (λ ks. manner_of (slice_get ks m)) (sym a.kinds) ∙ mutex))
      back m (inr (inr this)) = inr (inr this)

  pub left_kept : {enters : Option ℕ} (s u : State) → Kept enters s u → Left P asked enters s u
  left_kept s u x = record {
    kinds = x.kinds;
    calls = λ k d is. was k d is (call_at s k) refl (x.calls.each k);
    fresh = λ k none. inl (subst (λ (o : Option Call). Onward o (call_at u k)) none (x.calls.each k));
    buckets = x.buckets;
    shut = x.closed;
  }
    where
      was : (k : ℕ) (d : Call) → call_at u k ≡ Some d → (o : Option Call) → call_at s k ≡ o → Onward o (call_at u k)
          → WasThere asked s d.lock
      was k d is None here on = absurd (none-some d (sym on ∙ is))
      was k d is (Some c) here on =
          inl (k, c, here, sym on.lock ∙ ap (λ (e : Call). e.lock) (same_Some on.call d (sym on.here ∙ is)))

  pub left_over : (enters : Option ℕ) (s u : State) (t : ℕ) (a : CoreAnswer) → Over t a s u → Left P asked enters s u
  left_over enters s u t a x = subst (Left P asked enters s) (sym x.became) (record {
    kinds = refl;
    calls = λ k d is. elim (set_or s.calls t k None d is)
        [ inl e ↦ absurd (none-some d e) | inr e ↦ inl (k, d, e, refl) ];
    fresh = λ k none. inl (set_gone s.calls t k none);
    buckets = refl;
    shut = λ b f o. o;
  })

  -- a step of a number's call
  pub left_stepped : (s u : State) (t : ℕ) (fair : Bool) (a : Option CoreAnswer) → FitsTogether s
      → (x : rows.IsStepped t fair a s u) → Left P asked (call_enters s.lot.buckets x.call) s u
  left_stepped s u t fair a fits x = by_answer a (stepped_goes s u t fair a fits x)
    where
      by_answer : (a : Option CoreAnswer) → Goes a (call_enters s.lot.buckets x.call) t s u
          → Left P asked (call_enters s.lot.buckets x.call) s u
      by_answer None y = left_kept s u y
      by_answer (Some b) y = left_over (call_enters s.lot.buckets x.call) s u t b y

  -- a number's call is written that was in one there
  left_again : (enters : Option ℕ) (s u : State) (t : ℕ) (c d : Call) → call_at s t ≡ Some c → c.lock ≡ d.lock
      → u ≡ with_call s t d → Left P asked enters s u
  left_again enters s u t c d here lock e = subst (Left P asked enters s) (sym e) (record {
    kinds = refl;
    calls = λ k f is. elim (set_or s.calls t k (Some d) f is) [
      | inl own ↦ inl (t, c, here, lock ∙ ap (λ (x : Call). x.lock) (same_Some d f own))
      | inr was ↦ inl
          (k, f, was, refl)
    ];
    fresh = λ k none. elim (set_none s.calls t k (Some d) none)
        [ inl e ↦ inl e | inr is ↦ absurd (none-some c (sym none ∙ ap (call_at s) is ∙ here)) ];
    buckets = refl;
    shut = λ b f o. o;
  })

  pub left_expired : (enters : Option ℕ) (s u : State) (t : ℕ) → rows.IsExpired t s u → Left P asked enters s u
  left_expired enters s u t x = left_again enters s u t x.call (record x.call { core = late_of x.call.core }) x.here
      refl x.became

  -- or that was in none, and now is at that lock
  left_written : (enters : Option ℕ) (s u : State) (t : ℕ) (d : Call) → P t → WasThere asked s d.lock
      → u.kinds ≡ s.kinds → u.calls ≡ slice_set s.calls t (Some d) → u.lot.buckets ≡ s.lot.buckets
      → ((b : ℕ) → is_open_in s b ≡ false → is_open_in u b ≡ false)
      → Left P asked enters s u
  left_written enters s u t d p there kinds calls buckets shut = record {
    kinds = kinds;
    calls = λ k f is. elim (set_or s.calls t k (Some d) f (ap (λ cs. call_of cs k) (sym calls) ∙ is)) [
      | inl own ↦ subst (WasThere asked s) (ap (λ (x : Call). x.lock) (same_Some d f own)) there
      | inr was ↦ inl
          (k, f, was, refl)
    ];
    fresh = λ k none. elim (set_none s.calls t k (Some d) none)
        [ inl e ↦ inl (ap (λ cs. call_of cs k) calls ∙ e) | inr is ↦ inr (subst P (sym is) p) ];
    buckets = buckets;
    shut = λ b f o. shut b o;
  }

  pub left_begun : (enters : Option ℕ) (s u : State) (t lock : ℕ) (c : LockCall) → P t → WasThere asked s lock
      → rows.IsBegun t lock c s u → Left P asked enters s u
  left_begun enters s u t lock c p there x =
      left_written enters s u t _ p there (ap (λ (y : State). y.kinds) x.became) (ap (λ (y : State). y.calls) x.became)
      (ap (λ (y : State). y.lot.buckets) x.became) (λ b o. ap (λ (y : State). is_open_in y b) x.became ∙ o)

  left_taken : (enters : Option ℕ) (s u : State) (v lock : ℕ) (timed : Bool) → P v → IsTakenIn v lock timed s u
      → Left P asked enters s u
  left_taken enters s u v lock timed p x =
      left_written enters s u v (sleeping_call lock timed) p (inr (inl x.kind)) (ap (λ (y : State). y.kinds) x.became)
      (ap (λ (y : State). y.calls) x.became)
      (ap (λ (y : State). y.lot.buckets) x.became)
      (λ b o. ap (λ (y : State). is_open_in y b) x.became ∙ joined_shut s.lot (first_key lock) b o v)

  pub left_roused : (enters : Option ℕ) (s u : State) (v lock : ℕ) (timed : Bool) → P v → IsRousedIn v lock timed s u
      → Left P asked enters s u
  left_roused enters s u v lock timed p x =
      left_written enters s u v (retrying_call lock timed) p (inr (inl x.kind)) (ap (λ (y : State). y.kinds) x.became)
      (ap (λ (y : State). y.calls) x.became) (ap (λ (y : State). y.lot.buckets) x.became)
      (λ b o. ap (λ (y : State). is_open_in y b) x.became ∙ o)

  abbrev pub OfEach : List (ℕ × Bool) → Type 0
  OfEach [] = Unit {0}
  OfEach (e ∷ es) = P e.0 × OfEach es

  pub left_all_taken : (enters : Option ℕ) (lock : ℕ) (es : List (ℕ × Bool)) (s u : State) → OfEach es
      → AreTakenIn lock es s u → Left P asked enters s u
  left_all_taken enters lock [] s u ps e = left_same enters s u e
  left_all_taken enters lock (e ∷ es) s u ps (x, first, rest) =
      left_both enters s x u (left_taken enters s x e.0 lock e.1 ps.0 first)
      (left_all_taken enters lock es x u ps.1 rest)
