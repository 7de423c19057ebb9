-- A new machine fits together.
use Rattle.std.proofs.Common.{◌≡◌, ℕ, zero, suc, ◌+◌, ◌*◌, ◌≤◌, false, [], ◌∷◌, length, replicate, count_by, Option, None}
use Rattle.std.proofs.Common.{slice_get, refl, sym, ap, ◌∙◌, subst, arith}
use Rattle.std.proofs.lemmas.Option.{none-some}
use Rattle.std.specs.Option.{option_map_or}
use Rattle.parking_lot_core_model.specs.Buckets.{buckets_for, slot}
use Rattle.parking_lot_core_model.proofs.Numbers.{count_by-cons}
use Rattle.parking_lot_core_model.proofs.Slots.{some_buckets}
use Rattle.parking_lot_rules.specs.Once.Once.{Role, Idle, IsSound, number, unused}
use Rattle.parking_lot_rules.proofs.OnceFacts.Soundness.{rest_sound}
use Rattle.parking_lot_machine_sides.specs.declared.once.open_call.OpenCall.{OpenCall}
use Rattle.parking_lot_machine_sides.specs.Once.OnceActs.{at_rest}
use Rattle.parking_lot_machine_sides.specs.Once.OnceFits.{Fits, lies}
use Rattle.parking_lot_machine_sides.specs.Once.Onces.{Onces, call_in, once_at, role_at, role_in, word_of}
use Rattle.parking_lot_machine_sides.proofs.OnceFacts.Acting.{same_once}
use Rattle.parking_lot_rules.proofs.Everybody.{all}

no_call : (n t : ℕ) → call_in (replicate n None) t ≡ None
no_call zero t = refl
no_call (suc n) zero = refl
no_call (suc n) (suc t) = no_call n t

no_slot : (n b : ℕ) → slot (replicate {A = Option ℕ} n None) b ≡ None
no_slot zero b = refl
no_slot (suc n) zero = refl
no_slot (suc n) (suc b) = no_slot n b

pub buckets_at_rest : (n : ℕ) → length (replicate {A = Option ℕ} n None) ≡ n
buckets_at_rest zero = refl
buckets_at_rest (suc n) = omega (arith, buckets_at_rest n)

no_word : (n i : ℕ) → option_map_or (λ (w : ℕ). w) (slice_get (replicate n 0) i) 0 ≡ 0
no_word zero i = refl
no_word (suc n) zero = refl
no_word (suc n) (suc i) = no_word n i

all_idle : (f : ℕ → Role) (a n : ℕ) → ((x : ℕ) → f x ≡ Idle) → all f a n ≡ replicate n Idle
all_idle f a zero h = refl
all_idle f a (suc n) h = ap (λ r. r ∷ all f (a + 1) n) (h a) ∙ ap (λ rs. Idle ∷ rs) (all_idle f (a + 1) n h)

pub threads_at_rest : (n : ℕ) → length (replicate {A = Option OpenCall} n None) ≡ n
threads_at_rest zero = refl
threads_at_rest (suc n) = omega (arith, threads_at_rest n)

nobody_lies : (n : ℕ) → count_by lies (replicate n None) ≡ 0
nobody_lies zero = refl
nobody_lies (suc n) = omega (arith, nobody_lies n, count_by-cons lies None (replicate n None))

module _ (threads onces : ℕ) (few : threads ≤ 65536) where
  abbrev s : Onces
  s = at_rest threads onces

  same : (i : ℕ) → unused false threads ≡ once_at s i
  same i = same_once _ _ _ _ _ _ (sym (ap word_of (no_word onces i)))
      (sym (ap (λ n. all (role_at s i) 0 n) (threads_at_rest threads)
      ∙ all_idle (role_at s i) 0 threads (λ x. ap (role_in i []) (no_call threads x)))) refl

  pub rest_fits : Fits s
  rest_fits = record {
    sound = λ i. subst IsSound (same i) (rest_sound false threads);
    words = λ i. subst (λ (w : ℕ). number (word_of w) ≡ w) (sym (no_word onces i)) refl;
    seated = λ t c at. absurd (none-some c (sym (no_call threads t) ∙ at));
    idle = λ t at. refl;
    inside = λ b t at. absurd (none-some t (sym (no_slot (buckets_for threads) b) ∙ at));
    buckets = omega (arith, buckets_at_rest (buckets_for threads), some_buckets (3 * threads) threads);
    room = sym (nobody_lies threads);
    small = omega (arith, few, threads_at_rest threads);
  }
