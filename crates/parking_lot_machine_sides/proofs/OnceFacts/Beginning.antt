-- How a call begins.
use Rattle.std.proofs.Common.{◌≡◌, ◌≢◌, ℕ, ◌<◌, inl, inr, Bool, true, false, ◌&&◌, List, length, Option, Some, None}
use Rattle.std.proofs.Common.{is_none, slice_get, refl, sym, ap, ◌∙◌, subst, arith}
use Rattle.std.proofs.lemmas.Bool.{cases_eq}
use Rattle.std.proofs.lemmas.List.{length-set}
use Rattle.std.proofs.lemmas.Option.{none-some, same_Some}
use Rattle.parking_lot_rules.specs.Once.Once.{Role, Idle, Word, Once, Step, Plain, Alone, Begin, Start, Complete}
use Rattle.parking_lot_rules.specs.Once.Once.{Refuse, Flag, Enter, Check, Retreat, Rest, Return, Finish, Look, Store}
use Rattle.parking_lot_rules.specs.Once.Once.{Depart, Leave, Allowed, after, written, from, to, Class, Inside, Listed}
use Rattle.parking_lot_rules.specs.Once.Once.{weight, total, number, waits}
use Rattle.parking_lot_machine_sides.specs.Once.Entries.{list_of}
use Rattle.parking_lot_machine_sides.specs.declared.once.calls.OnceCall.{OnceCall}
use Rattle.parking_lot_machine_sides.specs.Once.OnceCalls.{wish_of}
use Rattle.parking_lot_machine_sides.specs.Once.OnceFits.{Fits, Sits, is_the, lies}
use Rattle.parking_lot_machine_sides.specs.Once.OnceSteps.{IsLawful}
use Rattle.parking_lot_machine_sides.specs.declared.once.open_call.OpenCall.{OpenCall}
use Rattle.parking_lot_machine_sides.specs.Once.Onces.{Onces, call_in, call_at, role_in, bucket_of, inside_at}
use Rattle.parking_lot_machine_sides.proofs.OnceFacts.Acting.{IsThere, once_elsewhere, role_here, roles_one, same_once}
use Rattle.parking_lot_machine_sides.proofs.OnceFacts.Owning.{the_one}
use Rattle.std.specs.Option.{option_and_then}
use Rattle.std.proofs.lemmas.Bool.{ltb-true}
use Rattle.std.proofs.Common.{nat_lt}
use Rattle.parking_lot_rules.specs.Once.Once as rules
use Rattle.parking_lot_machine_sides.specs.Once.OnceActs.{begun, call_for, may_begin}
use Rattle.parking_lot_machine_sides.proofs.OnceFacts.Acting.{Elsewhere, call_elsewhere, call_here, has_slot, role_same}
use Rattle.parking_lot_machine_sides.proofs.OnceFacts.Acting.{role_there, sound_all}
use Rattle.parking_lot_core_model.proofs.Numbers.{count_by-set}

both : (a b : Bool) → (a && b) ≡ true → (a ≡ true) × (b ≡ true)
both true b e = (refl, e)
both false b e = absurd cc

is_nothing : (o : Option OpenCall) → is_none o ≡ true → o ≡ None
is_nothing None e = refl
is_nothing (Some c) e = absurd cc

pub record May (s : Onces) (t i : ℕ) : Type 0 where
  pub low : t < length s.calls
  pub free : call_at s t ≡ None
  pub there : i < length s.words

pub may_so : (s : Onces) (t i : ℕ) → may_begin s t i ≡ true → May s t i
may_so s t i e =
    let a = both (nat_lt t (length s.calls)) (is_none (call_at s t) && nat_lt i (length s.words)) e in
    let b = both (is_none (call_at s t)) (nat_lt i (length s.words)) a.1 in
    record {
      low = ltb-true t (length s.calls) a.0;
      free = is_nothing (call_at s t) b.0;
      there = ltb-true i (length s.words) b.1;
    }

flat : (calls : List (Option OpenCall)) (t : ℕ) → t < length calls → call_in calls t ≡ None
    → slice_get calls t ≡ Some None
flat calls t low none = let x = has_slot calls t low in x.1 ∙ ap Some (sym (ap (option_and_then (λ y. y)) x.1) ∙ none)

module _ (s : Onces) (t i : ℕ) (call : OnceCall) (fits : Fits s) (may : May s t i) where
  abbrev d : OpenCall
  d = call_for i call

  abbrev u : Onces
  u = begun s t i call

  now : call_at u t ≡ Some d
  now = call_here s.calls t (Some d) may.low

  others : (x : ℕ) → x ≢ t → call_at u x ≡ call_at s x
  others x ne = call_elsewhere s.calls t x (Some d) ne

  elsewhere : Elsewhere i s u
  elsewhere = record {
    threads = length-set s.calls t (Some d);
    words = λ j ne. refl;
    waiting = λ j ne. refl;
    calls = λ x. elim (cases_eq x t) [
      | inl e ↦ inr (
        subst (IsThere i) (sym (ap (call_at s) e ∙ may.free)) tt,
        subst (IsThere i) (sym (ap (call_at u) e ∙ now)) refl,
      )
      | inr ne ↦ inl (others x ne, refl)
    ];
  }

  pub begins_so : IsLawful t i (Some (Alone (Begin (wish_of call)))) s u
  begins_so = record {
    here = (
      (role_there s i t may.low ∙ ap Some (ap (role_in i (list_of s.wakes t)) may.free), tt),
      same_once _ _ _ _ _ _ refl
          (roles_one i s u elsewhere t (rules.Seeks (wish_of call)) may.low
          (λ x ne. role_same s u i x (others x ne) refl)
          (ap (role_in i (list_of s.wakes t)) now ∙ role_here i (list_of s.wakes t) d refl)) refl,
    );
    there = once_elsewhere i s u elsewhere;
  }

  its_sits : Sits (length s.words) t d (list_of s.wakes t) (list_of s.waiting i) (inside_at s i)
  its_sits = record {
    low = may.there;
    goes = inl refl;
    ready = tt;
    taken = ap (λ (us : List ℕ). length us) (fits.idle t may.free);
    knows = tt;
    few = omega arith;
    section = sym (outside (is_the (inside_at s i) t) refl);
    awake = λ up. refl;
  }
    where
      outside : (b : Bool) → is_the (inside_at s i) t ≡ b → is_the (inside_at s i) t ≡ false
      outside false e = e
      outside true e = absurd (let x = fits.inside (bucket_of s i) t (the_one (inside_at s i) t e) in
          none-some x.0 (sym may.free ∙ x.1))

  pub begins_fits : Fits u
  begins_fits = record {
    sound = sound_all t i (Some (Alone (Begin (wish_of call)))) s u fits begins_so;
    words = fits.words;
    seated = λ x e at. elim (cases_eq x t) [
      | inl eq ↦ subst (λ (k : ℕ). Sits (length s.words) k e (list_of s.wakes k) (list_of s.waiting e.once)
          (inside_at s e.once)) (sym eq)
          (subst (λ (y : OpenCall). Sits (length s.words) t y (list_of s.wakes t) (list_of s.waiting y.once)
          (inside_at s y.once))
          (same_Some d e (sym now ∙ ap (call_at u) (sym eq) ∙ at)) its_sits)
      | inr ne ↦ fits.seated x e (sym (others x ne) ∙ at)
    ];
    idle = λ x at. elim (cases_eq x t) [
      | inl eq ↦ absurd (none-some d (sym at ∙ ap (call_at u) eq ∙ now))
      | inr ne ↦ fits.idle x (sym (others x ne) ∙ at)
    ];
    inside = λ b x at. elim (cases_eq x t) [
      | inl eq ↦ let f = fits.inside b x at in absurd
          (none-some f.0 (sym may.free ∙ ap (call_at s) (sym eq) ∙ f.1))
      | inr ne ↦ let f = fits.inside b x at in (f.0, others x ne ∙ f.1, f.2)
    ];
    buckets = fits.buckets;
    room = omega (arith, fits.room, count_by-set lies s.calls t None (Some d) (flat s.calls t may.low may.free));
    small = omega (arith, fits.small, length-set s.calls t (Some d));
  }
