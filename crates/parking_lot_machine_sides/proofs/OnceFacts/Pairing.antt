-- A step that changes two calls at one once keeps what holds of the machine.
use Rattle.std.proofs.Common.{◌≡◌, ◌≢◌, ℕ, ◌+◌, ◌*◌, ◌%◌, ◌<◌, ◌⊎◌, inl, inr, true, cond, List, length, Option, Some, slice_get}
use Rattle.std.proofs.Common.{slice_set, refl, sym, ap, ◌∙◌, subst, arith, count_by}
use Rattle.std.proofs.lemmas.Bool.{cases_eq}
use Rattle.std.proofs.lemmas.List.{length-set}
use Rattle.std.proofs.lemmas.Option.{none-some, same_Some}
use Rattle.std.specs.Option.{option_map_or}
use Rattle.parking_lot_core_model.specs.Buckets.{slot as bucket}
use Rattle.parking_lot_core_model.proofs.Numbers.{count_by-set}
use Rattle.parking_lot_rules.specs.Once.Once.{Role, Step, number}
use Rattle.parking_lot_machine_sides.specs.Once.Entries.{list_of}
use Rattle.parking_lot_machine_sides.specs.Once.OnceFits.{Fits, Sits, Knows, is_the, lies}
use Rattle.parking_lot_machine_sides.specs.Once.OnceSteps.{IsLawful}
use Rattle.parking_lot_machine_sides.specs.declared.once.open_call.OpenCall.{OpenCall}
use Rattle.parking_lot_machine_sides.specs.Once.Onces.{Onces, word_at, call_in, call_at, role_in, role_at, word_of}
use Rattle.parking_lot_machine_sides.specs.Once.Onces.{once_at, bucket_of, inside_at}
use Rattle.parking_lot_machine_sides.proofs.OnceFacts.Sections.{stands_in}
use Rattle.parking_lot_machine_sides.proofs.OnceFacts.Acting.{IsThere, once_elsewhere, plays, role_here, role_now}
use Rattle.parking_lot_machine_sides.proofs.OnceFacts.Acting.{within}
use Rattle.parking_lot_machine_sides.proofs.OnceFacts.Owning.{not_another}
use Rattle.parking_lot_machine_sides.proofs.OnceFacts.Acting.{Elsewhere, call_elsewhere, call_here, role_same}
use Rattle.parking_lot_machine_sides.proofs.OnceFacts.Acting.{roles_two, slot, sound_all}
use Rattle.parking_lot_machine_sides.proofs.OnceFacts.Owning.{knows_still, not_another}

-- Thread t's call c becomes d, and v's call b becomes e.
pub record Two (s u : Onces) (t v i : ℕ) (d e : OpenCall) : Type 0 where
  pub calls : u.calls ≡ slice_set (slice_set s.calls v (Some e)) t (Some d)
  pub words : u.words ≡ s.words
  pub waiting : (j : ℕ) → j ≢ i → list_of u.waiting j ≡ list_of s.waiting j
  pub wakes : (x : ℕ) → x ≢ t → list_of u.wakes x ≡ list_of s.wakes x
  pub inside : u.inside ≡ s.inside

module _ (s u : Onces) (t v : ℕ) (c b d e : OpenCall) (fits : Fits s) (here : call_at s t ≡ Some c)
    (there : call_at s v ≡ Some b) (apart : v ≢ t)
    (near : b.once ≡ c.once) (stays : d.once ≡ c.once) (rests : e.once ≡ c.once) (two : Two s u t v c.once d e) where
  low : t < length s.calls
  low = within s.calls t c here

  high : v < length s.calls
  high = within s.calls v b there

  others : (x : ℕ) → x ≢ t → x ≢ v → call_at u x ≡ call_at s x
  others x nt nv = ap (λ cs. call_in cs x) two.calls ∙ call_elsewhere (slice_set s.calls v (Some e)) t x (Some d) nt
      ∙ call_elsewhere s.calls v x (Some e) nv

  pub first : call_at u t ≡ Some d
  first = ap (λ cs. call_in cs t) two.calls ∙ call_here (slice_set s.calls v (Some e)) t (Some d)
      (omega (arith, low, length-set s.calls v (Some e)))

  pub second : call_at u v ≡ Some e
  second = ap (λ cs. call_in cs v) two.calls ∙ call_elsewhere (slice_set s.calls v (Some e)) t v (Some d) apart
      ∙ call_here s.calls v (Some e) high

  pub same_words : (j : ℕ) → word_at u j ≡ word_at s j
  same_words j = ap (λ ws. option_map_or (λ (w : ℕ). w) (slice_get ws j) 0) two.words

  pub two_elsewhere : Elsewhere c.once s u
  two_elsewhere = record {
    threads = ap (λ (cs : List (Option OpenCall)). length cs) two.calls ∙ length-set (slice_set s.calls v (Some e)) t
        (Some d) ∙ length-set s.calls v (Some e);
    words = λ j ne. same_words j;
    waiting = two.waiting;
    calls = λ x. elim (cases_eq x t) [
      | inl eq ↦ inr (
        subst (IsThere c.once) (sym (ap (call_at s) eq ∙ here)) refl,
        subst (IsThere c.once) (sym (ap (call_at u) eq ∙ first)) stays,
      )
      | inr nt ↦ elim (cases_eq x v) [
        | inl eq ↦ inr (
          subst (IsThere c.once) (sym (ap (call_at s) eq ∙ there)) near,
          subst (IsThere c.once) (sym (ap (call_at u) eq ∙ second)) rests,
        )
        | inr nv ↦ inl (others x nt nv, two.wakes x nt)
      ]
    ];
  }

  pub two_beyond : (j : ℕ) → j ≢ c.once → once_at u j ≡ once_at s j
  two_beyond = once_elsewhere c.once s u two_elsewhere

  others_play : (x : ℕ) → x ≢ t → x ≢ v → role_at u c.once x ≡ role_at s c.once x
  others_play x nt nv = role_same s u c.once x (others x nt nv) (two.wakes x nt)

  first_plays : role_at u c.once t ≡ plays d (list_of u.wakes t)
  first_plays = ap (role_in c.once (list_of u.wakes t)) first ∙ role_here c.once (list_of u.wakes t) d stays

  second_plays : role_at u c.once v ≡ plays e (list_of s.wakes v)
  second_plays = ap (role_in c.once (list_of u.wakes v)) second ∙ role_here c.once (list_of u.wakes v) e rests
      ∙ ap (plays e) (two.wakes v apart)

  -- the roles, in either order
  pub roles_first : (r q : Role) → plays d (list_of u.wakes t) ≡ r → plays e (list_of s.wakes v) ≡ q
      → (once_at u c.once).roles ≡ slice_set (slice_set (once_at s c.once).roles t r) v q
  roles_first r q p o = roles_two c.once s u two_elsewhere t v r q low high (λ f. apart (sym f)) others_play
      (first_plays ∙ p) (second_plays ∙ o)

  pub roles_second : (r q : Role) → plays d (list_of u.wakes t) ≡ r → plays e (list_of s.wakes v) ≡ q
      → (once_at u c.once).roles ≡ slice_set (slice_set (once_at s c.once).roles v q) t r
  roles_second r q p o = roles_two c.once s u two_elsewhere v t q r high low apart (λ x nv nt. others_play x nt nv)
      (second_plays ∙ o) (first_plays ∙ p)

  pub role_second : slice_get (once_at s c.once).roles v ≡ Some (plays b (list_of s.wakes v))
  role_second = subst (λ (i : ℕ). slice_get (once_at s i).roles v ≡ Some (plays b (list_of s.wakes v))) near
      (role_now s v b there)

  other_sits : (x : ℕ) (f : OpenCall) → x ≢ t → x ≢ v → (list_of u.waiting c.once ≡ list_of s.waiting c.once)
      ⊎ (is_the (inside_at s c.once) t ≡ true)
      → Sits (length s.words) x f (list_of s.wakes x) (list_of s.waiting f.once) (inside_at s f.once)
      → Sits (length u.words) x f (list_of u.wakes x) (list_of u.waiting f.once) (inside_at u f.once)
  other_sits x f nt nv quiet sits = record {
    low = omega (arith, sits.low, ap (λ (ws : List ℕ). length ws) two.words);
    goes = sits.goes;
    ready = sits.ready;
    taken = ap (λ (us : List ℕ). length us) (two.wakes x nt) ∙ sits.taken;
    knows = elim (cases_eq f.once c.once) [
      | inl eq ↦ elim quiet [
        | inl same ↦ subst (λ (us : List ℕ). Knows us f.core.phase)
            (sym (ap (list_of u.waiting) eq ∙ same ∙ ap (list_of s.waiting) (sym eq))) sits.knows
        | inr its ↦ knows_still f.core.phase (list_of s.waiting f.once) (list_of u.waiting f.once)
            (sits.section ∙ ap (λ (i : ℕ). is_the (inside_at s i) x) eq
            ∙ not_another (inside_at s c.once) t x nt its) sits.knows
      ]
      | inr far ↦ subst (λ (us : List ℕ). Knows us f.core.phase) (sym (two.waiting f.once far)) sits.knows
    ];
    few = sits.few;
    section = sits.section ∙ sym (ap (λ (o : List (Option ℕ)). is_the (bucket o (2 * f.once % length o)) x)
        two.inside);
    awake = sits.awake;
  }

  -- the buckets are as they were
  same_bucket : (x : OpenCall) → bucket_of u x.once ≡ bucket_of s x.once
  same_bucket x = ap (λ (o : List (Option ℕ)). 2 * x.once % length o) two.inside

  was_in : (k x : ℕ) → bucket u.inside k ≡ Some x → bucket s.inside k ≡ Some x
  was_in k x at = sym (ap (λ (o : List (Option ℕ)). bucket o k) two.inside) ∙ at

  pub fits_two : (step : Option Step) → IsLawful t c.once step s u
      → Sits (length u.words) t d (list_of u.wakes t) (list_of u.waiting d.once) (inside_at u d.once)
      → Sits (length u.words) v e (list_of u.wakes v) (list_of u.waiting e.once) (inside_at u e.once)
      → (list_of u.waiting c.once ≡ list_of s.waiting c.once) ⊎ (is_the (inside_at s c.once) t ≡ true)
      → length u.waiting + length u.wakes + (cond (lies (Some c)) 1 0 + cond (lies (Some b)) 1 0) ≡ length s.waiting +
      length s.wakes + (cond (lies (Some d)) 1 0 + cond (lies (Some e)) 1 0)
      → Fits u
  fits_two step lawful sits_t sits_v quiet room = record {
    sound = sound_all t c.once step s u fits lawful;
    words = λ j. ap (λ n. number (word_of n)) (same_words j) ∙ fits.words j ∙ sym (same_words j);
    seated = λ x f at. elim (cases_eq x t) [
      | inl eq ↦ subst (λ (k : ℕ). Sits (length u.words) k f (list_of u.wakes k) (list_of u.waiting f.once)
          (inside_at u f.once)) (sym eq)
          (subst (λ (g : OpenCall). Sits (length u.words) t g (list_of u.wakes t) (list_of u.waiting g.once)
          (inside_at u g.once))
          (same_Some d f (sym first ∙ ap (call_at u) (sym eq) ∙ at)) sits_t)
      | inr nt ↦ elim (cases_eq x v) [
        | inl eq ↦ subst (λ (k : ℕ). Sits (length u.words) k f (list_of u.wakes k) (list_of u.waiting f.once)
            (inside_at u f.once)) (sym eq)
            (subst (λ (g : OpenCall). Sits (length u.words) v g (list_of u.wakes v) (list_of u.waiting g.once)
            (inside_at u g.once))
            (same_Some e f (sym second ∙ ap (call_at u) (sym eq) ∙ at)) sits_v)
        | inr nv ↦ other_sits x f nt nv quiet (fits.seated x f (sym (others x nt nv) ∙ at))
      ]
    ];
    idle = λ x at. elim (cases_eq x t) [
      | inl eq ↦ absurd (none-some d (sym at ∙ ap (call_at u) eq ∙ first))
      | inr nt ↦ elim (cases_eq x v) [
        | inl eq ↦ absurd (none-some e (sym at ∙ ap (call_at u) eq ∙ second))
        | inr nv ↦ two.wakes x nt ∙ fits.idle x (sym (others x nt nv) ∙ at)
      ]
    ];
    inside = λ k x at. elim (cases_eq x t) [
      | inl eq ↦ (
        d,
        ap (call_at u) eq ∙ first,
        same_bucket d ∙ ap (bucket_of s) stays ∙ stands_in s t c fits here k (was_in k x at ∙ ap Some eq),
      )
      | inr nt ↦ elim (cases_eq x v) [
        | inl eq ↦ (
          e,
          ap (call_at u) eq ∙ second,
          same_bucket e ∙ ap (bucket_of s) (rests ∙ sym near)
              ∙ stands_in s v b fits there k (was_in k x at ∙ ap Some eq),
        )
        | inr nv ↦ let f = fits.inside k x (was_in k x at) in
            (f.0, others x nt nv ∙ f.1, same_bucket f.0 ∙ f.2)
      ]
    ];
    buckets = subst (λ (o : List (Option ℕ)). 0 < length o) (sym two.inside) fits.buckets;
    room = omega (
      arith,
      room,
      fits.room,
      ap (count_by lies) two.calls,
      count_by-set lies s.calls v (Some b) (Some e) (slot s.calls v b there),
      count_by-set lies (slice_set s.calls v (Some e)) t (Some c) (Some d)
          (slot (slice_set s.calls v (Some e)) t c (call_elsewhere s.calls v t (Some e) (λ f. apart (sym f)) ∙ here)),
    );
    small = omega (arith, fits.small, two_elsewhere.threads);
  }
