-- Sections: what is open in which bucket, and who is in it.
use Rattle.std.proofs.Common.{◌≡◌, ℕ, ◌<◌, ◌==◌, ◌%◌, ◌⊎◌, Bool, true, false, Option, Some, None, is_some, List, map}
use Rattle.std.proofs.Common.{refl}
use Rattle.std.proofs.Common.{sym, ap, ◌∙◌, subst, eq-eqb, mod-lt}
use mathlib.Core.Logic.{inl, inr}
use Rattle.std.specs.Option.{option_map, option_map_or, option_and_then}
use Rattle.std.proofs.lemmas.Bool.{false≢true, ne_eqb}
use Rattle.parking_lot_core_model.specs.declared.parking.UnparkToken.{UnparkToken}
use Rattle.parking_lot_core_model.specs.declared.place.Place.{Place}
use Rattle.parking_lot_core_model.specs.declared.place.Section.{Section}
use Rattle.parking_lot_core_model.specs.declared.place.Phase.{Phase}
use Rattle.parking_lot_core_model.specs.declared.place.Phase.TheVariants as phase
use Rattle.parking_lot_core_model.specs.Lists.{updated}
use Rattle.parking_lot_core_model.specs.Buckets.{any_open}
use Rattle.parking_lot_core_model.specs.Places.{told}
use Rattle.parking_lot_core_model.specs.Machine.{Machine, bucket_of, open_at, entered_by, section_of, with_section}
use Rattle.parking_lot_core_model.specs.Machine.{let_in}
use Rattle.parking_lot_core_model.specs.Machine.{let_out, in_phase, stored, closed}
use Rattle.parking_lot_core_model.specs.Sound.{SectionsFit}
use Rattle.parking_lot_core_model.proofs.Kept.{by_eqb, updated_at, updated_other, updated_same, updated_twice}
use Rattle.parking_lot_core_model.proofs.Slots.{none_at}

pub none≢some : {X : Type 0} {x : X} → None ≡ Some x → ⊥
none≢some e = cc

pub some≢none : {X : Type 0} {x : X} → Some x ≡ None → ⊥
some≢none e = cc

pub same_some : {X : Type 0} {x y : X} → Some x ≡ Some y → x ≡ y
same_some e = cc

pub none_of_some : {X : Type 0} (o : Option X) → is_some o ≡ false → o ≡ None
none_of_some None e = refl
none_of_some (Some x) e = absurd (false≢true (sym e))

-- THE SECTIONS OF A LOT THAT FITS

module _ (buckets : ℕ) (ss : ℕ → Option Section) (inside : ℕ → Option ℕ) (h : SectionsFit buckets ss inside) where
  -- a section that is new in a bucket where none was
  module _ (n : Section) (free : ss (n.key % buckets) ≡ None) (outside : (t : ℕ) → n.thread ≡ Some t → inside t ≡ None)
    where
      abbrev after : ℕ → Option Section
      after = updated ss (n.key % buckets) (Some n)

      -- those elsewhere stay
      pub stays_beside : (b : ℕ) (s : Section) → ss b ≡ Some s → after b ≡ Some s
      stays_beside b s at = by_eqb b (n.key % buckets) (after b ≡ Some s)
          (λ e. absurd (none≢some (sym free ∙ (ap ss (sym e) ∙ at))))
          (λ e. updated_other ss (n.key % buckets) (Some n) b e ∙ at)

      -- what stands somewhere is the new one, or was there
      pub was_beside : (b : ℕ) (s : Section) (P : Type 0) → after b ≡ Some s → (b ≡ n.key % buckets → n ≡ s → P)
          → (ss b ≡ Some s → P) → P
      was_beside b s P at new old = by_eqb b (n.key % buckets) P
          (λ e. new e (same_some (sym (updated_at ss (n.key % buckets) (Some n)) ∙ (ap after (sym e) ∙ at))))
          (λ e. old (sym (updated_other ss (n.key % buckets) (Some n) b e) ∙ at))

      -- who is in a section now
      in_now : (o : Option ℕ) → ((t : ℕ) → o ≡ Some t → inside t ≡ None) → (t k : ℕ) (P : Type 0)
          → let_in o n.key inside t ≡ Some k → (o ≡ Some t → n.key ≡ k → P) → (inside t ≡ Some k → P) → P
      in_now None out t k P at new old = old at
      in_now (Some v) out t k P at new old = by_eqb t v P
          (λ e. new (ap (λ x. Some x) (sym e))
          (same_some (sym (updated_at inside v (Some n.key)) ∙ (ap (updated inside v (Some n.key)) (sym e) ∙ at))))
          (λ e. old (sym (updated_other inside v (Some n.key) t e) ∙ at))

      its_own : (o : Option ℕ) (t : ℕ) → o ≡ Some t → let_in o n.key inside t ≡ Some n.key
      its_own None t e = absurd (none≢some e)
      its_own (Some v) t e = ap (updated inside v (Some n.key)) (sym (same_some e)) ∙ updated_at inside v (Some n.key)

      still_in : (o : Option ℕ) → ((t : ℕ) → o ≡ Some t → inside t ≡ None) → (t k : ℕ) → inside t ≡ Some k
          → let_in o n.key inside t ≡ Some k
      still_in None out t k at = at
      still_in (Some v) out t k at = by_eqb t v (updated inside v (Some n.key) t ≡ Some k)
          (λ e. absurd (none≢some (sym (out v refl) ∙ (ap inside (sym e) ∙ at))))
          (λ e. updated_other inside v (Some n.key) t e ∙ at)

      pub fits_beside : SectionsFit buckets after (let_in n.thread n.key inside)
      fits_beside = record {
        some = h.some;
        bucket = λ b s at. was_beside b s (s.key % buckets ≡ b) at
            (λ e same. ap (λ (x : Section). x.key % buckets) (sym same) ∙ sym e) (h.bucket b s);
        owner = λ b s t at whose. was_beside b s (let_in n.thread n.key inside t ≡ Some s.key) at
            (λ e same. its_own n.thread t (ap (λ (x : Section). x.thread) same ∙ whose)
            ∙ ap (λ (x : Section). Some x.key) same)
            (λ old. still_in n.thread outside t s.key (h.owner b s t old whose));
        entered = λ t k at. in_now n.thread outside t k
            ((s : Section) × (after (k % buckets) ≡ Some s) × (s.key ≡ k) × (s.thread ≡ Some t)) at
            (λ whose e. (n, ap (λ j. after (j % buckets)) (sym e) ∙ updated_at ss (n.key % buckets) (Some n), e, whose))
            (λ old. let x = h.entered t k old in (x.0, stays_beside (k % buckets) x.0 x.1, x.2, x.3));
      }

  -- a section that comes on
  module _ (key : ℕ) (f : Section → Section) (same_thread : (s : Section) → (f s).thread ≡ s.thread)
      (same_key : (s : Section) → (f s).key ≡ s.key) where
    abbrev on : ℕ → Option Section
    on = updated ss (key % buckets) (option_map f (ss (key % buckets)))

    came_from : (o : Option Section) (s : Section) → option_map f o ≡ Some s → (x : Section) × (o ≡ Some x) × (f x ≡ s)
    came_from None s e = absurd (none≢some e)
    came_from (Some x) s e = (x, refl, same_some e)

    -- what is open was open before, or comes from what was
    abbrev pub From : ℕ → Section → Type 0
    From b s = (x : Section) × (ss b ≡ Some x) × ((x ≡ s) ⊎ ((b ≡ key % buckets) × (f x ≡ s)))

    pub comes_from : (b : ℕ) (s : Section) → on b ≡ Some s → From b s
    comes_from b s at = by_eqb b (key % buckets) (From b s)
        (λ e.
        let o = came_from (ss (key % buckets)) s
        (sym (updated_at ss (key % buckets) (option_map f (ss (key % buckets)))) ∙ (ap on (sym e) ∙ at)) in
        (o.0, ap ss e ∙ o.1, inr (e, o.2)))
        (λ e. (s, sym (updated_other ss (key % buckets) (option_map f (ss (key % buckets))) b e) ∙ at, inl refl))

    pub goes_on : (b : ℕ) (s : Section) → ss b ≡ Some s
        → (y : Section) × (on b ≡ Some y) × (y.thread ≡ s.thread) × (y.key ≡ s.key)
    goes_on b s at = by_eqb b (key % buckets)
        ((y : Section) × (on b ≡ Some y) × (y.thread ≡ s.thread) × (y.key ≡ s.key))
        (λ e. (
          f s,
          ap on e ∙ (updated_at ss (key % buckets) (option_map f (ss (key % buckets)))
              ∙ ap (option_map f) (sym (ap ss e) ∙ at)),
          same_thread s,
          same_key s,
        ))
        (λ e. (s, updated_other ss (key % buckets) (option_map f (ss (key % buckets))) b e ∙ at, refl, refl))

    pub thread_from : (b : ℕ) (s : Section) (x : From b s) → x.0.thread ≡ s.thread
    thread_from b s (x, at, inl e) = ap (λ (y : Section). y.thread) e
    thread_from b s (x, at, inr (e, same)) = sym (same_thread x) ∙ ap (λ (y : Section). y.thread) same

    pub key_from : (b : ℕ) (s : Section) (x : From b s) → x.0.key ≡ s.key
    key_from b s (x, at, inl e) = ap (λ (y : Section). y.key) e
    key_from b s (x, at, inr (e, same)) = sym (same_key x) ∙ ap (λ (y : Section). y.key) same

    pub fits_on : SectionsFit buckets on inside
    fits_on = record {
      some = h.some;
      bucket = λ b s at. let x = comes_from b s at in ap (λ k. k % buckets) (sym (key_from b s x))
          ∙ h.bucket b x.0 x.1;
      owner = λ b s t at whose. let x = comes_from b s at in h.owner b x.0 t x.1 (thread_from b s x ∙ whose)
          ∙ ap (λ k. Some k) (key_from b s x);
      entered = λ t k at. let x = h.entered t k at in let y = goes_on (k % buckets) x.0 x.1 in
          (y.0, y.1, y.3 ∙ x.2, y.2 ∙ x.3);
    }

  -- a section that is closed
  module _ (s0 : Section) (at0 : ss (s0.key % buckets) ≡ Some s0) where
    abbrev off : ℕ → Option Section
    off = updated ss (s0.key % buckets) None

    -- what is open still was open before, elsewhere
    pub still_open : (b : ℕ) (s : Section) → off b ≡ Some s → (ss b ≡ Some s) × ((b == s0.key % buckets) ≡ false)
    still_open b s at = by_eqb b (s0.key % buckets) ((ss b ≡ Some s) × ((b == s0.key % buckets) ≡ false))
        (λ e. absurd (none≢some (sym (updated_at ss (s0.key % buckets) None) ∙ (ap off (sym e) ∙ at))))
        (λ e. (sym (updated_other ss (s0.key % buckets) None b e) ∙ at, e))

    -- any other stays open
    pub stays_open : (b : ℕ) (s : Section) → ss b ≡ Some s → (s0 ≡ s → ⊥) → off b ≡ Some s
    stays_open b s at other = by_eqb b (s0.key % buckets) (off b ≡ Some s)
        (λ e. absurd (other (same_some (sym at0 ∙ (ap ss (sym e) ∙ at)))))
        (λ e. updated_other ss (s0.key % buckets) None b e ∙ at)

    -- who was in it is outside, and all others are where they were
    pub let_be : (o : Option ℕ) (t : ℕ) → (o ≡ Some t → ⊥) → let_out o inside t ≡ inside t
    let_be None t other = refl
    let_be (Some v) t other = updated_other inside v None t (ne_eqb t v (λ e. other (ap (λ x. Some x) (sym e))))

    pub was_in : (o : Option ℕ) (t k : ℕ) → let_out o inside t ≡ Some k → (inside t ≡ Some k) × (o ≡ Some t → ⊥)
    was_in None t k at = (at, λ e. none≢some e)
    was_in (Some v) t k at = by_eqb t v ((inside t ≡ Some k) × (Some v ≡ Some t → ⊥))
        (λ e. absurd (none≢some (sym (updated_at inside v None) ∙ (ap (updated inside v None) (sym e) ∙ at))))
        (λ e. (
          sym (updated_other inside v None t e) ∙ at,
          λ same. false≢true (sym e ∙ eq-eqb t v (sym (same_some same))),
        ))

    pub fits_off : SectionsFit buckets off (let_out s0.thread inside)
    fits_off = record {
      some = h.some;
      bucket = λ b s at. h.bucket b s (still_open b s at).0;
      owner = λ b s t at whose.
          let x = still_open b s at in
          let is_in = h.owner b s t x.0 whose in
          let_be s0.thread t
          (λ its. false≢true
          (sym x.1 ∙ eq-eqb b (s0.key % buckets)
          (sym (h.bucket b s x.0)
          ∙ ap (λ k. k % buckets) (same_some (sym is_in ∙ h.owner (s0.key % buckets) s0 t at0 its))))) ∙ is_in;
      entered = λ t k at.
          let x = was_in s0.thread t k at in
          let y = h.entered t k x.0 in
          (y.0, stays_open (k % buckets) y.0 y.1 (λ e. x.1 (ap (λ (z : Section). z.thread) e ∙ y.3)), y.2, y.3);
    }

  -- with no section open in any bucket
  module _ (none : any_open ss buckets ≡ false) where
    pub none_open : (b : ℕ) (s : Section) → ss b ≡ Some s → ⊥
    none_open b s at =
        let within : b < buckets = subst (λ (x : ℕ). x < buckets) (h.bucket b s at) (mod-lt s.key h.some) in
        none≢some (sym (none_at ss b buckets within none) ∙ at)

    pub nobody_in : (t k : ℕ) → inside t ≡ Some k → ⊥
    nobody_in t k at = let x = h.entered t k at in none_open (k % buckets) x.0 x.1

    -- there may be any number of buckets
    pub fits_grown : (more : ℕ) → 0 < more → SectionsFit more ss inside
    fits_grown more some = record {
      some = some;
      bucket = λ b s at. absurd (none_open b s at);
      owner = λ b s t at. absurd (none_open b s at);
      entered = λ t k at. absurd (nobody_in t k at);
    }

-- A LOT WITH A SECTION MORE

-- the section is open in its key's bucket, and its thread is in it
abbrev pub within : Machine → Section → Machine
within m s = record m {
  sections = updated m.sections (bucket_of m s.key) (Some s);
  inside = let_in s.thread s.key m.inside;
}

abbrev pub IsOutside : Machine → Option ℕ → Type 0
IsOutside m owner = (t : ℕ) → owner ≡ Some t → m.inside t ≡ None

-- a section that is closed, where it is known
pub closed_as : (m : Machine) (key : ℕ) (s : Section) (woken : Bool) → open_at m key ≡ Some s
    → closed m key woken ≡ record m {
      sections = updated m.sections (bucket_of m key) None;
      places = map (option_map (told key s.token woken)) m.places;
      inside = let_out s.thread m.inside;
    }
closed_as m key s woken at = ap (λ (o : Option Section). record m {
  sections = updated m.sections (bucket_of m key) None;
  places = map (option_map (told key (option_map_or (λ x. x.token) o (record { 0 = 0 })) woken)) m.places;
  inside = let_out (option_and_then (λ x. x.thread) o) m.inside;
}) at

module _ (m : Machine) (s : Section) where
  pub open_within : open_at (within m s) s.key ≡ Some s
  open_within = updated_at m.sections (bucket_of m s.key) (Some s)

  changed_within : (f : Section → Section)
      → with_section (within m s) s.key (option_map f (open_at (within m s) s.key)) ≡ record (within m s)
      { sections = updated m.sections (bucket_of m s.key) (Some (f s)) }
  changed_within f =
      ap (λ (o : Option Section). record (within m s)
      { sections = updated (updated m.sections (bucket_of m s.key) (Some s)) (bucket_of m s.key) (option_map f o) })
      open_within
      ∙ ap (λ (g : ℕ → Option Section). record (within m s) { sections = g })
      (updated_twice m.sections (bucket_of m s.key) (Some s) (Some (f s)))

  -- it comes on, and its store is said
  pub phase_within : (ph : Phase) → in_phase (within m s) s.key ph ≡ within m (record s { phase = ph })
  phase_within ph = changed_within (λ x. record x { phase = ph })

  pub stored_within : (token : UnparkToken)
      → stored (within m s) s.key token ≡ within m (record s { phase = phase.Stored; token = token })
  stored_within token = changed_within (λ x. record x { phase = phase.Stored; token = token })

  -- it is closed: all sections are as they were without it
  pub closed_within : (woken : Bool) → open_at m s.key ≡ None → IsOutside m s.thread
      → closed (within m s) s.key woken ≡ record m { places = map (option_map (told s.key s.token woken)) m.places }
  closed_within woken free outside =
      let b = bucket_of m s.key in
      let ps = map (option_map (told s.key s.token woken)) m.places in
      closed_as (within m s) s.key s woken open_within
      ∙ (ap (λ (g : ℕ → Option Section). record m {
        sections = g;
        places = ps;
        inside = let_out s.thread (let_in s.thread s.key m.inside);
      })
      (updated_twice m.sections b (Some s) None
      ∙ (ap (updated m.sections b) (sym free) ∙ updated_same m.sections b))
      ∙ ap (λ (i : ℕ → Option ℕ). record m { places = ps; inside = i }) (back s.thread outside))
    where
      back : (o : Option ℕ) → IsOutside m o → let_out o (let_in o s.key m.inside) ≡ m.inside
      back None out = refl
      back (Some t) out = updated_twice m.inside t (Some s.key) None
          ∙ (ap (updated m.inside t) (sym (out t refl)) ∙ updated_same m.inside t)

-- where a section that a thread is in is closed, others' are as they were
pub section_of_as : (m : Machine) (t k : ℕ) → m.inside t ≡ Some k → section_of m t ≡ open_at m k
section_of_as m t k at = ap (option_and_then (open_at m)) at
