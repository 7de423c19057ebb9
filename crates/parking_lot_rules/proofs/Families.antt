-- A step at one lock keeps a family of locks sound.
use Rattle.std.proofs.Common.{◌≡◌, ◌≢◌, ℕ, zero, suc, ◌+◌, ◌<◌, ◌≤◌, ◌⊎◌, ⊎_elim, Bool, cond, List, [], ◌∷◌, Option}
use Rattle.std.proofs.Common.{Some, None, slice_get, refl, sym, ap, ◌∙◌, subst, inl, inr, arith, eq-eqb}
use Rattle.std.proofs.lemmas.Bool.{cases_eq, ne_eqb}
use Rattle.std.proofs.lemmas.Option.{none-some, same_Some}
use Rattle.parking_lot_rules.specs.Roles.{Owned, Stay, Fresh, Asleep, Late, Back, Phase, Idle, Queued1, Taken1, Queued2}
use Rattle.parking_lot_rules.specs.Roles.{Taken2, Role}
use Rattle.parking_lot_rules.specs.Classes.{Class, Inside1, Inside2, weight, total, weighs, inside}
use Rattle.parking_lot_rules.specs.Lock.{Lock}
use Rattle.parking_lot_rules.specs.Steps.{Step}
use Rattle.parking_lot_rules.specs.Family.{Key, First, Second, key, section, Crossing, Stays, Comes, Goes, Family}
use Rattle.parking_lot_rules.specs.Family.{Rules, StepOf, SoundFamilyOf, rw_rules, put, IsFree, entered_after}
use Rattle.parking_lot_rules.specs.Family.{FamilyStep, within, IsSoundFamily}
use Rattle.std.proofs.lemmas.List.Sums.{sum_by-cons}
use Rattle.parking_lot_rules.proofs.Totals.{total-at}
use Rattle.parking_lot_rules.proofs.Sounds.{step_sound}
use Rattle.parking_lot_rules.proofs.Crossing.{crossed, WasIn, step_others, step_crosses, step_was}

pub put-same : {A : Type 0} (f : ℕ → A) (j : ℕ) (x : A) → put f j x j ≡ x
put-same f j x = ap (λ b. cond b x (f j)) (eq-eqb j j refl)

pub put-other : {A : Type 0} (f : ℕ → A) (j : ℕ) (x : A) (i : ℕ) → i ≢ j → put f j x i ≡ f i
put-other f j x i ne = ap (λ b. cond b x (f i)) (ne_eqb i j ne)

inside_le : (s : Stay) → inside s ≤ 1
inside_le Fresh = omega arith
inside_le Asleep = omega arith
inside_le Late = omega arith
inside_le Back = omega arith

-- a thread is inside a section of one key at most
sections_parts : (o : Owned) (p : Phase) → weight Inside1 (record { owns = o; does = p }) + weight Inside2
    (record { owns = o; does = p }) ≤ 1
unfolding weight
sections_parts o (Queued1 m s) = omega (arith, inside_le s)
sections_parts o (Taken1 m by how s) = omega (arith, inside_le s)
sections_parts o (Queued2 f s) = omega (arith, inside_le s)
sections_parts o (Taken2 f by s) = omega (arith, inside_le s)
sections_parts o p = omega arith

one_section : (r : Option Role) → weighs Inside1 r + weighs Inside2 r ≤ 1
one_section None = omega arith
one_section (Some r) = sections_parts r.owns r.does

idle_outside : (k : Key) (o : Owned) → weight (section k) (record { owns = o; does = Idle }) ≡ 0
unfolding weight
idle_outside First o = refl
idle_outside Second o = refl

-- What a kind of locks has to have for that: a step keeps a lock sound, leaves other threads where they are, crosses as
-- stated, and leaves only where the thread was inside; a thread is inside a section of one key at most, and of none
-- where it does nothing.
pub record AreRules {L S : Type 0} (rules : Rules L S) : Type 0 where
  pub keeps : (j t : ℕ) (step : S) (l : L) → rules.sound l → rules.allowed j t step l
      → rules.sound (rules.after t step l)
  pub others : (j t : ℕ) (step : S) (l : L) (k : Key) → rules.allowed j t step l → (u : ℕ) → u ≢ t
      → rules.inside (rules.after t step l) k u ≡ rules.inside l k u
  pub moves : (j t : ℕ) (step : S) (l : L) (k : Key) → rules.allowed j t step l → rules.inside (rules.after t step l) k
      t ≡ crossed (rules.crosses step) k (rules.inside l k t)
  pub was : (j t : ℕ) (step : S) (l : L) (k : Key) → rules.allowed j t step l
      → WasIn (rules.crosses step) k (rules.inside l k t)
  pub one : (l : L) (u : ℕ) → rules.inside l First u + rules.inside l Second u ≤ 1
  pub out : (l : L) (k : Key) (t : ℕ) → rules.idle l t → rules.inside l k t ≡ 0

module _ {L S : Type 0} (rules : Rules L S) (are : AreRules rules) (bucket : ℕ → ℕ) (j t : ℕ) (step : S)
    (old new : Family L) (sound : SoundFamilyOf rules.sound rules.inside bucket old)
    (made : StepOf rules bucket j t step old new) where
  -- how much a thread is inside a section of a key
  abbrev inside_of : Family L → ℕ → Key → ℕ → ℕ
  inside_of f i k u = rules.inside (f.locks i) k u

  -- whoever had entered a bucket still has, unless it is the one that leaves it
  still_entered : (c : Crossing) → IsFree bucket old.entered j c → (b u : ℕ) → old.entered b ≡ Some u
      → ((k : Key) → c ≡ Goes k → b ≢ bucket (key j k)) → entered_after bucket old.entered j t c b ≡ Some u
  still_entered Stays free b u e apart = e
  still_entered (Comes k) free b u e apart = put-other old.entered (bucket (key j k)) (Some t) b
      (λ same. none-some u (sym free ∙ (ap old.entered (sym same) ∙ e))) ∙ e
  still_entered (Goes k) free b u e apart = put-other old.entered (bucket (key j k)) None b (apart k refl) ∙ e

  -- who leaves a section had entered its bucket
  had_entered : (k : Key) → rules.crosses step ≡ Goes k → (inside_of old j k t ≡ 1)
      × (old.entered (bucket (key j k)) ≡ Some t)
  had_entered k goes =
      let was = subst (λ c. WasIn c k (inside_of old j k t)) goes (are.was j t step (old.locks j) k made.allowed) in
      let one : inside_of old j k t ≡ 1 = was_one k was in
      (one, sound.entered j k t one)
    where
      was_one : (k : Key) → WasIn (Goes k) k (inside_of old j k t) → inside_of old j k t ≡ 1
      was_one First h = h
      was_one Second h = h

  -- a mark that stands for another thread, or for another key, stays
  stands : (i u : ℕ) (k : Key) → inside_of old i k u ≡ 1 → ((x : Key) → rules.crosses step ≡ Goes x → u ≢ t)
      → new.entered (bucket (key i k)) ≡ Some u
  stands i u k h other =
      let e = sound.entered i k u h in
      made.entered (bucket (key i k)) ∙ still_entered (rules.crosses step) made.free (bucket (key i k)) u e
      (λ x goes same. other x goes (same_Some u t (sym e ∙ (ap old.entered same ∙ (had_entered x goes).1))))

  -- the thread is in no section of another lock
  outside : (i : ℕ) (k : Key) → i ≢ j → inside_of old i k t ≡ 0
  outside i k ne = are.out (old.locks i) k t (made.idle i ne)

  now_within : (k : Key) (u : ℕ) → inside_of new j k u ≡ rules.inside (rules.after t step (old.locks j)) k u
  now_within k u = ap (λ (l : L). rules.inside l k u) made.here

  own_mark : (k : Key) (c : Crossing) → rules.crosses step ≡ c → inside_of new j k t ≡ 1
      → new.entered (bucket (key j k)) ≡ Some t
  own_mark k c is h =
      go k c is (sym (now_within k t
      ∙ (are.moves j t step (old.locks j) k made.allowed ∙ ap (λ x. crossed x k (inside_of old j k t)) is)) ∙ h)
    where
      came : (k : Key) → rules.crosses step ≡ Comes k → new.entered (bucket (key j k)) ≡ Some t
      came k is = made.entered (bucket (key j k))
          ∙ (ap (λ c. entered_after bucket old.entered j t c (bucket (key j k))) is
          ∙ put-same old.entered (bucket (key j k)) (Some t))

      go : (k : Key) (c : Crossing) → rules.crosses step ≡ c → crossed c k (inside_of old j k t) ≡ 1
          → new.entered (bucket (key j k)) ≡ Some t
      go k Stays is h = stands j t k h (λ x goes. absurd (let e : Stays ≡ Goes x = sym is ∙ goes in cc))
      go First (Comes First) is h = came First is
      go Second (Comes Second) is h = came Second is
      go First (Comes Second) is h =
          stands j t First h (λ x goes. absurd (let e : Comes Second ≡ Goes x = sym is ∙ goes in cc))
      go Second (Comes First) is h =
          stands j t Second h (λ x goes. absurd (let e : Comes First ≡ Goes x = sym is ∙ goes in cc))
      go First (Goes First) is h = absurd (omega (arith, h))
      go Second (Goes Second) is h = absurd (omega (arith, h))
      go First (Goes Second) is h = absurd (omega (arith, h, (had_entered Second is).0, are.one (old.locks j) t))
      go Second (Goes First) is h = absurd (omega (arith, h, (had_entered First is).0, are.one (old.locks j) t))

  mark_here : (k : Key) (u : ℕ) → inside_of new j k u ≡ 1 → new.entered (bucket (key j k)) ≡ Some u
  mark_here k u h = ⊎_elim
      (λ e. subst (λ v. new.entered (bucket (key j k)) ≡ Some v) (sym e)
      (own_mark k (rules.crosses step) refl (ap (λ v. inside_of new j k v) (sym e) ∙ h)))
      (λ ne. stands j u k (sym (are.others j t step (old.locks j) k made.allowed u ne) ∙ (sym (now_within k u) ∙ h))
      (λ x goes. ne))
      (cases_eq u t)

  mark_elsewhere : (i : ℕ) (k : Key) (u : ℕ) → i ≢ j → inside_of new i k u ≡ 1 → new.entered (bucket (key i k)) ≡ Some u
  mark_elsewhere i k u ne h =
      let was : inside_of old i k u ≡ 1 = ap (λ (l : L). rules.inside l k u) (sym (made.elsewhere i ne)) ∙ h in
      stands i u k was (λ x goes same. omega (arith, was, ap (λ v. inside_of old i k v) same, outside i k ne))

  -- who was inside a section still is, unless it leaves
  still_within : (i u : ℕ) (k : Key) → inside_of old i k u ≡ 1
      → ((x : Key) → rules.crosses step ≡ Goes x → bucket (key i k) ≢ bucket (key j x)) → inside_of new i k u ≡ 1
  still_within i u k h apart = ⊎_elim
      (λ e. ⊎_elim
      (λ own. ap (λ x. inside_of new x k u) e ∙ (ap (λ v. inside_of new j k v) own ∙ mine (rules.crosses step) refl k
      (ap (λ x. inside_of old x k t) (sym e) ∙ (ap (λ v. inside_of old i k v) (sym own) ∙ h))
      (λ x goes same. apart x goes (ap (λ y. bucket (key y k)) e ∙ same))))
      (λ ne. ap (λ x. inside_of new x k u) e
      ∙ (now_within k u
      ∙ (are.others j t step (old.locks j) k made.allowed u ne ∙ (ap (λ x. inside_of old x k u) (sym e) ∙ h))))
      (cases_eq u t))
      (λ ne. ap (λ (l : L). rules.inside l k u) (made.elsewhere i ne) ∙ h)
      (cases_eq i j)
    where
      kept : (c : Crossing) (k : Key) → inside_of old j k t ≡ 1
          → ((x : Key) → c ≡ Goes x → bucket (key j k) ≢ bucket (key j x)) → crossed c k (inside_of old j k t) ≡ 1
      kept Stays k h apart = h
      kept (Comes First) First h apart = refl
      kept (Comes First) Second h apart = h
      kept (Comes Second) First h apart = h
      kept (Comes Second) Second h apart = refl
      kept (Goes First) First h apart = absurd (apart First refl refl)
      kept (Goes First) Second h apart = h
      kept (Goes Second) First h apart = h
      kept (Goes Second) Second h apart = absurd (apart Second refl refl)

      mine : (c : Crossing) → rules.crosses step ≡ c → (k : Key) → inside_of old j k t ≡ 1
          → ((x : Key) → rules.crosses step ≡ Goes x → bucket (key j k) ≢ bucket (key j x)) → inside_of new j k t ≡ 1
      mine c is k h apart =
          now_within k t ∙ (are.moves j t step (old.locks j) k made.allowed ∙ kept (rules.crosses step) k h apart)

  inside_after : (b u : ℕ) (c : Crossing) → rules.crosses step ≡ c → entered_after bucket old.entered j t c b ≡ Some u
      → (i : ℕ) × (k : Key) × (bucket (key i k) ≡ b) × (inside_of new i k u ≡ 1)
  inside_after b u Stays is e =
      let was = sound.is_inside b u e in (
        was.0,
        was.1,
        was.2,
        still_within was.0 u was.1 was.3 (λ x goes. absurd (let no_way : Stays ≡ Goes x = sym is ∙ goes in cc)),
      )
  inside_after b u (Comes x) is e = ⊎_elim
      (λ same.
      let mine : t ≡ u =
      same_Some t u (sym (put-same old.entered (bucket (key j x)) (Some t))
      ∙ (ap (put old.entered (bucket (key j x)) (Some t)) (sym same) ∙ e)) in (
        j,
        x,
        sym same,
        ap (λ v. inside_of new j x v) (sym mine)
            ∙ (now_within x t
            ∙ (are.moves j t step (old.locks j) x made.allowed
            ∙ (ap (λ c. crossed c x (inside_of old j x t)) is ∙ came x))),
      ))
      (λ ne.
      let was = sound.is_inside b u (sym (put-other old.entered (bucket (key j x)) (Some t) b ne) ∙ e) in (
        was.0,
        was.1,
        was.2,
        still_within was.0 u was.1 was.3 (λ y goes. absurd (let no_way : Comes x ≡ Goes y = sym is ∙ goes in cc)),
      ))
      (cases_eq b (bucket (key j x)))
    where
      came : (x : Key) → crossed (Comes x) x (inside_of old j x t) ≡ 1
      came First = refl
      came Second = refl
  inside_after b u (Goes x) is e = ⊎_elim
      (λ same. absurd (none-some u
      (sym (put-same old.entered (bucket (key j x)) None)
      ∙ (ap (put old.entered (bucket (key j x)) None) (sym same) ∙ e))))
      (λ ne.
      let was = sound.is_inside b u (sym (put-other old.entered (bucket (key j x)) None b ne) ∙ e) in (
        was.0,
        was.1,
        was.2,
        still_within was.0 u was.1 was.3 (λ y goes same.
            ne (sym was.2 ∙ (same ∙ ap (λ z. bucket (key j z)) (one_goes y (sym goes ∙ is))))),
      ))
      (cases_eq b (bucket (key j x)))
    where
      one_goes : (y : Key) → Goes y ≡ Goes x → y ≡ x
      one_goes y e = cc

  pub any_family_sound : SoundFamilyOf rules.sound rules.inside bucket new
  any_family_sound = record {
    sound = λ i. ⊎_elim
        (λ e. subst rules.sound (sym (ap new.locks e ∙ made.here))
        (are.keeps j t step (old.locks j) (sound.sound j) made.allowed))
        (λ ne. subst rules.sound (sym (made.elsewhere i ne)) (sound.sound i))
        (cases_eq i j);
    entered = λ i k u h. ⊎_elim
        (λ e. subst (λ x. new.entered (bucket (key x k)) ≡ Some u) (sym e)
        (mark_here k u (ap (λ x. inside_of new x k u) (sym e) ∙ h)))
        (λ ne. mark_elsewhere i k u ne h)
        (cases_eq i j);
    is_inside = λ b u e. inside_after b u (rules.crosses step) refl (sym (made.entered b) ∙ e);
  }

-- reader-writer locks have it
pub rw_are_rules : (recursive : ℕ → Bool) → AreRules (rw_rules recursive)
rw_are_rules recursive = record {
  keeps = λ j t step l sound may. step_sound (recursive j) t step l sound may;
  others = λ j t step l k may u ne. step_others (recursive j) t l k step may u ne;
  moves = λ j t step l k may. step_crosses (recursive j) t l k step may;
  was = λ j t step l k may. step_was (recursive j) t l k step may;
  one = λ l u. one_section (slice_get l.roles u);
  out = λ l k t idle. out l k t (slice_get l.roles t) refl idle;
}
  where
    out : (l : Lock) (k : Key) (t : ℕ) (o : Option Role) → slice_get l.roles t ≡ o
        → ((r : Role) → slice_get l.roles t ≡ Some r → r.does ≡ Idle) → weighs (section k) (slice_get l.roles t) ≡ 0
    out l k t None e idle = ap (weighs (section k)) e
    out l k t (Some r) e idle = ap (weighs (section k)) e
        ∙ (ap (λ p. weight (section k) (record { owns = r.owns; does = p })) (idle r e) ∙ idle_outside k r.owns)

pub family_sound : (bucket : ℕ → ℕ) (recursive : ℕ → Bool) (j t : ℕ) (step : Step) (old new : Family Lock)
    → IsSoundFamily bucket old → FamilyStep bucket recursive j t step old new → IsSoundFamily bucket new
family_sound bucket recursive j t step old new sound made = any_family_sound (rw_rules recursive)
    (rw_are_rules recursive) bucket j t step old new sound made

-- all that weigh nothing weigh nothing together
pub total-none : (c : Class) (rs : List Role) → ((u : ℕ) → weighs c (slice_get rs u) ≡ 0) → total c rs ≡ 0
total-none c [] none = refl
total-none c (r ∷ rs) none =
    let first : weight c r ≡ 0 = none 0 in
    let more : total c rs ≡ 0 = total-none c rs (λ u. none (suc u)) in
    omega (arith, sum_by-cons (weight c) r rs, first, more)

weighs_le : (c : Class) (rs : List Role) (u : ℕ) → weighs c (slice_get rs u) ≤ total c rs
weighs_le c rs u = go (slice_get rs u) refl
  where
    go : (o : Option Role) → slice_get rs u ≡ o → weighs c (slice_get rs u) ≤ total c rs
    go None e = omega (arith, ap (weighs c) e)
    go (Some r) e = omega (arith, ap (weighs c) e, total-at rs u r e c)

-- where nobody has entered a bucket, nobody is inside a section of its keys
pub nobody_inside : (bucket : ℕ → ℕ) (f : Family Lock) → IsSoundFamily bucket f → (i : ℕ) (k : Key)
    → f.entered (bucket (key i k)) ≡ None → total (section k) (f.locks i).roles ≡ 0
nobody_inside bucket f sound i k free = total-none (section k) (f.locks i).roles (λ u.
    let few : total (section k) (f.locks i).roles ≤ 1 = at_most k in
    let le : within f i k u ≤ 1 = omega (arith, few, weighs_le (section k) (f.locks i).roles u) in
    ⊎_elim (λ none. none) (λ some. absurd (none-some u (sym free ∙ sound.entered i k u (omega (arith, le, some)))))
    (none_or (within f i k u)))
  where
    at_most : (k : Key) → total (section k) (f.locks i).roles ≤ 1
    at_most First = (sound.sound i).fits.inside1
    at_most Second = (sound.sound i).fits.inside2

    none_or : (n : ℕ) → (n ≡ 0) ⊎ (0 < n)
    none_or zero = inl refl
    none_or (suc n) = inr (omega arith)
