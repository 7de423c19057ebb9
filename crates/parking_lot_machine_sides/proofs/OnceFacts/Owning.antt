-- A step that changes one thread's call alone keeps what holds of the machine; and an act of a thread and its once
-- alone is such a step.
use Rattle.std.proofs.Common.{◌≡◌, ◌≢◌, ℕ, ◌+◌, ◌*◌, ◌%◌, ◌<◌, ◌⊎◌, inl, inr, true, false, cond, List, [], ◌∷◌, ◌++◌, length}
use Rattle.std.proofs.Common.{Option, Some, None, slice_set, refl, sym, ap, ◌∙◌, subst, arith, eqb-true, eq-eqb}
use Rattle.std.proofs.Common.{count_by}
use Rattle.std.proofs.lemmas.Bool.{cases_eq, ne_eqb}
use Rattle.std.proofs.lemmas.List.{length-set}
use Rattle.parking_lot_core_model.specs.Buckets.{slot as bucket}
use Rattle.parking_lot_core_model.proofs.Numbers.{count_by-set}
use Rattle.parking_lot_rules.specs.declared.once.wish.Wish.{Wish}
use Rattle.parking_lot_rules.specs.Once.Once.{Checked, Joined, Step, Plain, Alone, Join, May, written, from, to, total}
use Rattle.parking_lot_rules.specs.Once.Once.{number}
use Rattle.parking_lot_protocol_waits.specs.declared.once.once_phase.OncePhase.{OncePhase}
use Rattle.parking_lot_protocol_waits.specs.declared.once.once_phase.OncePhase.TheVariants.{Clears}
use Rattle.parking_lot_machine_sides.specs.declared.once.entry.Entry.{Entry}
use Rattle.parking_lot_machine_sides.specs.Once.Entries.{list_of}
use Rattle.parking_lot_machine_sides.specs.Once.OnceFits.{Fits, Sits, Knows, is_in_section, is_the, lies}
use Rattle.parking_lot_machine_sides.specs.Once.OnceSteps.{IsLawful}
use Rattle.parking_lot_machine_sides.specs.Once.Onces.{OpenCall, Onces, word_at, call_in, call_at, role_in, role_at}
use Rattle.parking_lot_machine_sides.specs.Once.Onces.{bucket_of, inside_at, once_at, word_of}
use Rattle.parking_lot_machine_sides.proofs.OnceFacts.Acting.{IsThere, Elsewhere, call_here, call_elsewhere, within}
use Rattle.parking_lot_machine_sides.proofs.OnceFacts.Acting.{once_elsewhere, plays, role_here, role_now, role_same}
use Rattle.parking_lot_machine_sides.proofs.OnceFacts.Acting.{roles_one, roles_same, same_once, slot, sound_all}

-- WHO IS IN THE SECTION

pub the_one : (o : Option ℕ) (t : ℕ) → is_the o t ≡ true → o ≡ Some t
the_one None t e = absurd cc
the_one (Some u) t e = ap Some (eqb-true u t e)

pub is_one : (o : Option ℕ) (t : ℕ) → o ≡ Some t → is_the o t ≡ true
is_one o t e = ap (λ x. is_the x t) e ∙ eq-eqb t t refl

-- nobody else is
pub not_another : (o : Option ℕ) (t x : ℕ) → x ≢ t → is_the o t ≡ true → is_the o x ≡ false
not_another o t x ne e = ap (λ y. is_the y x) (the_one o t e) ∙ ne_eqb t x (λ f. ne (sym f))

-- who is in none knows nothing of its list
pub knows_still : (p : OncePhase) (queue other : List ℕ) → is_in_section p ≡ false → Knows queue p → Knows other p
knows_still (Clears well taken) queue other out h = absurd cc
knows_still p queue other out h = h

-- ONE CALL CHANGES

pub record One (s u : Onces) (t i : ℕ) (o : Option OpenCall) : Type 0 where
  pub calls : u.calls ≡ slice_set s.calls t o
  pub wakes : u.wakes ≡ s.wakes
  pub onces : length u.words ≡ length s.words
  pub words : (j : ℕ) → j ≢ i → word_at u j ≡ word_at s j
  pub waiting : (j : ℕ) → j ≢ i → list_of u.waiting j ≡ list_of s.waiting j
  pub buckets : length u.inside ≡ length s.inside

module _ (s u : Onces) (t : ℕ) (c : OpenCall) (o : Option OpenCall) (fits : Fits s) (here : call_at s t ≡ Some c)
    (one : One s u t c.once o) (there : IsThere c.once o) where
  pub its_low : t < length s.calls
  its_low = within s.calls t c here

  pub others : (x : ℕ) → x ≢ t → call_at u x ≡ call_at s x
  others x ne = ap (λ cs. call_in cs x) one.calls ∙ call_elsewhere s.calls t x o ne

  pub its : call_at u t ≡ o
  its = ap (λ cs. call_in cs t) one.calls ∙ call_here s.calls t o its_low

  pub same_taken : (x : ℕ) → list_of u.wakes x ≡ list_of s.wakes x
  same_taken x = ap (λ es. list_of es x) one.wakes

  pub elsewhere : Elsewhere c.once s u
  elsewhere = record {
    threads = ap (λ (cs : List (Option OpenCall)). length cs) one.calls ∙ length-set s.calls t o;
    words = one.words;
    waiting = one.waiting;
    calls = λ x. elim (cases_eq x t) [
      | inl e ↦ inr (
        subst (IsThere c.once) (sym (ap (call_at s) e ∙ here)) refl,
        subst (IsThere c.once) (sym (ap (call_at u) e ∙ its)) there,
      )
      | inr ne ↦ inl (others x ne, same_taken x)
    ];
  }

  pub other_role : (x : ℕ) → x ≢ t → role_at u c.once x ≡ role_at s c.once x
  other_role x ne = role_same s u c.once x (others x ne) (same_taken x)

  pub its_role : role_at u c.once t ≡ role_in c.once (list_of s.wakes t) o
  its_role = ap (λ us. role_in c.once us (call_at u t)) (same_taken t) ∙ ap (role_in c.once (list_of s.wakes t)) its

  -- another sits as before
  other_sits : (x : ℕ) (e : OpenCall) → x ≢ t → (list_of u.waiting c.once ≡ list_of s.waiting c.once)
      ⊎ (is_the (inside_at s c.once) t ≡ true)
      → ((b : ℕ) → is_the (bucket u.inside b) x ≡ is_the (bucket s.inside b) x)
      → Sits (length s.words) x e (list_of s.wakes x) (list_of s.waiting e.once) (inside_at s e.once)
      → Sits (length u.words) x e (list_of u.wakes x) (list_of u.waiting e.once) (inside_at u e.once)
  other_sits x e ne quiet same sits = record {
    low = omega (arith, sits.low, one.onces);
    goes = sits.goes;
    ready = sits.ready;
    taken = ap (λ (us : List ℕ). length us) (same_taken x) ∙ sits.taken;
    knows = elim (cases_eq e.once c.once) [
      | inl eq ↦ elim quiet [
        | inl stays ↦ subst (λ (us : List ℕ). Knows us e.core.phase)
            (sym (ap (list_of u.waiting) eq ∙ stays ∙ ap (list_of s.waiting) (sym eq))) sits.knows
        | inr its ↦ knows_still e.core.phase (list_of s.waiting e.once) (list_of u.waiting e.once)
            (sits.section ∙ ap (λ (i : ℕ). is_the (inside_at s i) x) eq
            ∙ not_another (inside_at s c.once) t x ne its) sits.knows
      ]
      | inr apart ↦ subst (λ (us : List ℕ). Knows us e.core.phase) (sym (one.waiting e.once apart)) sits.knows
    ];
    few = sits.few;
    section = sits.section ∙ sym (same (bucket_of s e.once))
        ∙ sym (ap (λ (n : ℕ). is_the (bucket u.inside (2 * e.once % n)) x) one.buckets);
    awake = sits.awake;
  }

  pub fits_one : (step : Option Step) → IsLawful t c.once step s u → number (word_of (word_at u c.once)) ≡ word_at u
      c.once
      → ((d : OpenCall) → o ≡ Some d → Sits (length u.words) t d (list_of s.wakes t) (list_of u.waiting d.once)
      (inside_at u d.once))
      → (o ≡ None → list_of s.wakes t ≡ [])
      → (list_of u.waiting c.once ≡ list_of s.waiting c.once) ⊎ (is_the (inside_at s c.once) t ≡ true)
      → ((x : ℕ) → x ≢ t → (b : ℕ) → is_the (bucket u.inside b) x ≡ is_the (bucket s.inside b) x)
      → ((b : ℕ) → bucket u.inside b ≡ Some t → (d : OpenCall) × (o ≡ Some d) × (bucket_of u d.once ≡ b))
      → length u.waiting + cond (lies (Some c)) 1 0 ≡ length s.waiting + cond (lies o) 1 0
      → Fits u
  fits_one step lawful word sits idle quiet insides inside room = record {
    sound = sound_all t c.once step s u fits lawful;
    words = λ j. elim (cases_eq j c.once) [
      | inl e ↦ subst (λ (k : ℕ). number (word_of (word_at u k)) ≡ word_at u k) (sym e) word
      | inr ne ↦ ap (λ n. number (word_of n)) (one.words j ne) ∙ fits.words j ∙ sym (one.words j ne)
    ];
    seated = λ x e at. elim (cases_eq x t) [
      | inl eq ↦ subst (λ (k : ℕ). Sits (length u.words) k e (list_of u.wakes k) (list_of u.waiting e.once)
          (inside_at u e.once)) (sym eq)
          (subst (λ (us : List ℕ). Sits (length u.words) t e us (list_of u.waiting e.once) (inside_at u e.once))
          (sym (same_taken t)) (sits e (sym its ∙ ap (call_at u) (sym eq) ∙ at)))
      | inr ne ↦ other_sits x e ne quiet (insides x ne) (fits.seated x e (sym (others x ne) ∙ at))
    ];
    idle = λ x at. elim (cases_eq x t) [
      | inl eq ↦ same_taken x ∙ ap (list_of s.wakes) eq ∙ idle (sym its ∙ ap (call_at u) (sym eq) ∙ at)
      | inr ne ↦ same_taken x ∙ fits.idle x (sym (others x ne) ∙ at)
    ];
    inside = λ b x at. elim (cases_eq x t) [
      | inl eq ↦ let d = inside b (at ∙ ap Some eq) in (d.0, ap (call_at u) eq ∙ its ∙ d.1, d.2)
      | inr ne ↦ let d = fits.inside b x (the_one (bucket s.inside b) x
          (sym (insides x ne b) ∙ is_one (bucket u.inside b) x at)) in
          (d.0, others x ne ∙ d.1, ap (λ (n : ℕ). 2 * d.0.once % n) one.buckets ∙ d.2)
    ];
    buckets = omega (arith, fits.buckets, one.buckets);
    room = omega (
      arith,
      room,
      fits.room,
      ap (λ (es : List Entry). length es) one.wakes,
      ap (count_by lies) one.calls,
      count_by-set lies s.calls t (Some c) o (slot s.calls t c here),
    );
    small = omega (arith, fits.small, elsewhere.threads);
  }

-- WHICH STEP OF THE RULES IT IS

module _ (s u : Onces) (t : ℕ) (c : OpenCall) (o : Option OpenCall) (fits : Fits s) (here : call_at s t ≡ Some c)
    (one : One s u t c.once o) (there : IsThere c.once o) where
  abbrev us : List ℕ
  us = list_of s.wakes t

  its_before : role_at s c.once t ≡ plays c us
  its_before = ap (role_in c.once us) here ∙ role_here c.once us c refl

  beyond : (j : ℕ) → j ≢ c.once → once_at u j ≡ once_at s j
  beyond = once_elsewhere c.once s u (elsewhere s u t c o fits here one there)

  -- none, where the thread plays the same part
  pub stays_one : plays c us ≡ role_in c.once us o → word_of (word_at u c.once) ≡ word_of (word_at s c.once)
      → list_of u.waiting c.once ≡ list_of s.waiting c.once → IsLawful t c.once None s u
  stays_one e w q = record {
    here = same_once _ _ _ _ _ _ w
        (roles_same c.once s u (elsewhere s u t c o fits here one there) (λ x. elim (cases_eq x t) [
          | inl eq ↦ ap (role_at u c.once) eq ∙ its_role s u t c o fits here one there ∙ sym e ∙ sym its_before
              ∙ ap (role_at s c.once) (sym eq)
          | inr ne ↦ other_role s u t c o fits here one there x ne
        ])) q;
    there = beyond;
  }

  -- one of the thread alone
  pub makes_one : (k : Plain) → plays c us ≡ from k → role_in c.once us o ≡ to k
      → May k (word_of (word_at s c.once)) (λ x. total x (once_at s c.once).roles)
      → word_of (word_at u c.once) ≡ written k (word_of (word_at s c.once))
      → list_of u.waiting c.once ≡ list_of s.waiting c.once → IsLawful t c.once (Some (Alone k)) s u
  makes_one k e f may w q = record {
    here = (
      (role_now s t c here ∙ ap Some e, may),
      same_once _ _ _ _ _ _ w
          (roles_one c.once s u (elsewhere s u t c o fits here one there) t (to k) (within s.calls t c here)
          (other_role s u t c o fits here one there) (its_role s u t c o fits here one there ∙ f)) q,
    );
    there = beyond;
  }

  -- it joins the list
  pub joins_one : (wish : Wish) → plays c us ≡ Checked wish → role_in c.once us o ≡ Joined wish
      → word_of (word_at u c.once) ≡ word_of (word_at s c.once)
      → list_of u.waiting c.once ≡ list_of s.waiting c.once ++ t ∷ [] → IsLawful t c.once (Some (Join wish)) s u
  joins_one wish e f w q = record {
    here = (
      role_now s t c here ∙ ap Some e,
      same_once _ _ _ _ _ _ w
          (roles_one c.once s u (elsewhere s u t c o fits here one there) t (Joined wish) (within s.calls t c here)
          (other_role s u t c o fits here one there) (its_role s u t c o fits here one there ∙ f)) q,
    );
    there = beyond;
  }
