-- What becomes of the onces of the rules where calls, lists and a word change.
use Rattle.std.proofs.Common.{◌≡◌, ◌≢◌, ℕ, ◌+◌, ◌*◌, ◌<◌, ◌≤◌, ◌⊎◌, inl, inr, cond, List, [], ◌∷◌, length, Option, Some}
use Rattle.std.proofs.Common.{None, slice_get, slice_set, refl, sym, ap, ◌∙◌, subst, arith, eq-eqb, zero, suc}
use Rattle.std.proofs.lemmas.Bool.{cases_eq, ne_eqb}
use Rattle.std.proofs.lemmas.Option.{none-some, slice_get_within}
use Rattle.std.specs.Option.{option_and_then, option_map_or}
use Rattle.parking_lot_rules.proofs.Indexed.{get-set_same, get-set_other}
use Rattle.parking_lot_rules.specs.declared.once.once_state.OnceState.{OnceState}
use Rattle.parking_lot_rules.specs.declared.once.once_state.OnceState.TheVariants.{New, Poisoned, InProgress, Done}
use Rattle.parking_lot_rules.specs.Once.Once.{Role, Idle, Word, Once, Step, IsSound, number, state_number}
use Rattle.parking_lot_rules.proofs.OnceFacts.Soundness.{step_sound}
use Rattle.parking_lot_protocol_waits.specs.Once.OnceMoves.{role}
use Rattle.parking_lot_machine_sides.specs.Once.Entries.{list_of}
use Rattle.parking_lot_machine_sides.specs.Once.Onces.{OpenCall, Onces, word_at, call_in, call_at, known_of, role_in}
use Rattle.parking_lot_machine_sides.specs.Once.Onces.{role_at, word_of, once_at}
use Rattle.parking_lot_machine_sides.specs.Once.OnceFits.{Fits}
use Rattle.parking_lot_machine_sides.specs.Once.OnceSteps.{HasMade, IsLawful}
use Rattle.parking_lot_rules.proofs.Everybody.{all, change-all, change-two, get-all, same-all}

-- CALLS

pub slot : (calls : List (Option OpenCall)) (t : ℕ) (c : OpenCall) → call_in calls t ≡ Some c
    → slice_get calls t ≡ Some (Some c)
slot calls t c h = go (slice_get calls t) refl
  where
    go : (o : Option (Option OpenCall)) → slice_get calls t ≡ o → slice_get calls t ≡ Some (Some c)
    go None e = absurd (none-some c (sym (ap (option_and_then (λ x. x)) e) ∙ h))
    go (Some x) e = e ∙ ap Some (sym (ap (option_and_then (λ y. y)) e) ∙ h)

pub within : (calls : List (Option OpenCall)) (t : ℕ) (c : OpenCall) → call_in calls t ≡ Some c → t < length calls
within calls t c h = slice_get_within calls t (Some c) (slot calls t c h)

pub has_slot : {X : Type 0} (xs : List X) (t : ℕ) → t < length xs → (x : X) × (slice_get xs t ≡ Some x)
has_slot [] t h = absurd (omega (arith, h))
has_slot (x ∷ xs) zero h = (x, refl)
has_slot (x ∷ xs) (suc t) h = has_slot xs t (omega (arith, h))

pub call_here : (calls : List (Option OpenCall)) (t : ℕ) (o : Option OpenCall) → t < length calls
    → call_in (slice_set calls t o) t ≡ o
call_here calls t o h = let x = has_slot calls t h in ap (option_and_then (λ y. y)) (get-set_same calls t x.0 o x.1)

pub call_elsewhere : (calls : List (Option OpenCall)) (t v : ℕ) (o : Option OpenCall) → v ≢ t
    → call_in (slice_set calls t o) v ≡ call_in calls v
call_elsewhere calls t v o ne = ap (option_and_then (λ y. y)) (get-set_other calls t v o (λ e. ne (sym e)))

-- WORDS

-- a number of the rules shows its word
pub shows : (s : OnceState) (p : ℕ) → p ≤ 1 → word_of (state_number s + 8 * p) ≡ record { state = s; parked = p }
shows New zero le = refl
shows New (suc zero) le = refl
shows Poisoned zero le = refl
shows Poisoned (suc zero) le = refl
shows InProgress zero le = refl
shows InProgress (suc zero) le = refl
shows Done zero le = refl
shows Done (suc zero) le = refl
shows s (suc (suc p)) le = absurd (omega (arith, le))

pub shows_word : (w : Word) → w.parked ≤ 1 → word_of (number w) ≡ w
shows_word w le = shows w.state w.parked le

pub word_here : (words : List ℕ) (i w : ℕ) → i < length words
    → option_map_or (λ x. x) (slice_get (slice_set words i w) i) 0 ≡ w
word_here words i w h = let x = has_slot words i h in ap (λ o. option_map_or (λ (x : ℕ). x) o 0)
    (get-set_same words i x.0 w x.1)

pub word_elsewhere : (words : List ℕ) (i j w : ℕ) → j ≢ i → option_map_or (λ x. x) (slice_get (slice_set words i w) j) 0
    ≡ option_map_or (λ x. x) (slice_get words j) 0
word_elsewhere words i j w ne = ap (λ o. option_map_or (λ (x : ℕ). x) o 0) (get-set_other words i j w (λ e. ne (sym e)))

-- ROLES

abbrev pub plays : OpenCall → List ℕ → Role
plays c us = role c.taker (known_of us c) c.core.phase

pub role_here : (i : ℕ) (us : List ℕ) (c : OpenCall) → c.once ≡ i → role_in i us (Some c) ≡ plays c us
role_here i us c e = ap (λ b. cond b (plays c us) Idle) (eq-eqb c.once i e)

pub role_away : (i : ℕ) (us : List ℕ) (c : OpenCall) → c.once ≢ i → role_in i us (Some c) ≡ Idle
role_away i us c ne = ap (λ b. cond b (plays c us) Idle) (ne_eqb c.once i ne)

-- the thread is at once i, or at none
abbrev pub IsThere : ℕ → Option OpenCall → Type 0
IsThere i None = Unit {0}
IsThere i (Some c) = c.once ≡ i

pub idle_in : (i j : ℕ) → j ≢ i → (us : List ℕ) (o : Option OpenCall) → IsThere i o → role_in j us o ≡ Idle
idle_in i j ne us None e = refl
idle_in i j ne us (Some c) e = role_away j us c (λ f. ne (sym f ∙ e))

pub role_same : (s u : Onces) (j x : ℕ) → call_at u x ≡ call_at s x → list_of u.wakes x ≡ list_of s.wakes x
    → role_at u j x ≡ role_at s j x
role_same s u j x calls taken = ap (λ us. role_in j us (call_at u x)) taken ∙ ap (role_in j (list_of s.wakes x)) calls

-- ONCES

pub same_once : (w v : Word) (rs qs : List Role) (q r : List ℕ) → w ≡ v → rs ≡ qs → q ≡ r
    → ◌≡◌ {A = Once} (record { word = w; roles = rs; queue = q }) (record { word = v; roles = qs; queue = r })
same_once w v rs qs q r e f g = ap (λ (x : Word). record { word = x; roles = rs; queue = q }) e
    ∙ ap (λ (x : List Role). record { word = v; roles = x; queue = q }) f
    ∙ ap (λ (x : List ℕ). record { word = v; roles = qs; queue = x }) g

-- What is the same beyond once i, where threads act there.
pub record Elsewhere (i : ℕ) (s u : Onces) : Type 0 where
  pub threads : length u.calls ≡ length s.calls
  pub words : (j : ℕ) → j ≢ i → word_at u j ≡ word_at s j
  pub waiting : (j : ℕ) → j ≢ i → list_of u.waiting j ≡ list_of s.waiting j
  pub calls : (x : ℕ) → ((call_at u x ≡ call_at s x) × (list_of u.wakes x ≡ list_of s.wakes x))
      ⊎ (IsThere i (call_at s x) × IsThere i (call_at u x))

module _ (i : ℕ) (s u : Onces) (h : Elsewhere i s u) where
  pub role_elsewhere : (j : ℕ) → j ≢ i → (x : ℕ) → role_at u j x ≡ role_at s j x
  role_elsewhere j ne x = elim (h.calls x) [
    | inl a ↦ role_same s u j x a.0 a.1
    | inr b ↦ idle_in i j ne (list_of u.wakes x) (call_at u x) b.1
        ∙ sym (idle_in i j ne (list_of s.wakes x) (call_at s x) b.0)
  ]

  pub once_elsewhere : (j : ℕ) → j ≢ i → once_at u j ≡ once_at s j
  once_elsewhere j ne = same_once _ _ _ _ _ _ (ap word_of (h.words j ne))
      (ap (λ n. all (role_at u j) 0 n) h.threads ∙ same-all (role_at s j) (role_at u j) (length s.calls)
      (λ x low. role_elsewhere j ne x))
      (h.waiting j ne)

  -- at once i one role has changed, or none
  pub roles_same : ((x : ℕ) → role_at u i x ≡ role_at s i x) → (once_at u i).roles ≡ (once_at s i).roles
  roles_same same = ap (λ n. all (role_at u i) 0 n) h.threads ∙ same-all (role_at s i) (role_at u i) (length s.calls)
      (λ x low. same x)

  pub roles_one : (t : ℕ) (r : Role) → t < length s.calls → ((x : ℕ) → x ≢ t → role_at u i x ≡ role_at s i x)
      → role_at u i t ≡ r → (once_at u i).roles ≡ slice_set (once_at s i).roles t r
  roles_one t r low same is =
      ap (λ n. all (role_at u i) 0 n) h.threads
      ∙ change-all (role_at s i) (role_at u i) (length s.calls) t low (λ x b ne. same x ne)
      ∙ ap (slice_set (once_at s i).roles t) is

  pub roles_two : (t v : ℕ) (r q : Role) → t < length s.calls → v < length s.calls → t ≢ v
      → ((x : ℕ) → x ≢ t → x ≢ v → role_at u i x ≡ role_at s i x) → role_at u i t ≡ r → role_at u i v ≡ q
      → (once_at u i).roles ≡ slice_set (slice_set (once_at s i).roles t r) v q
  roles_two t v r q low high ne same is was =
      ap (λ n. all (role_at u i) 0 n) h.threads
      ∙ change-two (role_at s i) (role_at u i) (length s.calls) t v low high ne (λ x b nt nv. same x nt nv)
      ∙ ap (λ x. slice_set (slice_set (once_at s i).roles t x) v (role_at u i v)) is
      ∙ ap (slice_set (slice_set (once_at s i).roles t r) v) was

-- what a thread is stands in the list of all
pub role_there : (s : Onces) (i t : ℕ) → t < length s.calls → slice_get (once_at s i).roles t ≡ Some (role_at s i t)
role_there s i t low = get-all (role_at s i) (length s.calls) t low

pub role_now : (s : Onces) (t : ℕ) (c : OpenCall) → call_at s t ≡ Some c → slice_get (once_at s c.once).roles t ≡ Some
    (plays c (list_of s.wakes t))
role_now s t c here = role_there s c.once t (within s.calls t c here)
    ∙ ap Some (ap (role_in c.once (list_of s.wakes t)) here ∙ role_here c.once (list_of s.wakes t) c refl)

-- WHAT A STEP OF THE RULES KEEPS

pub sound_after : (t : ℕ) (step : Option Step) (m n : Once) → IsSound m → HasMade t step m n → IsSound n
sound_after t None m n sound made = subst IsSound (sym made) sound
sound_after t (Some step) m n sound made = subst IsSound (sym made.1) (step_sound t step m sound made.0)

-- each once is sound after it
pub sound_all : (t i : ℕ) (step : Option Step) (s u : Onces) → Fits s → IsLawful t i step s u → (j : ℕ)
    → IsSound (once_at u j)
sound_all t i step s u fits lawful j = elim (cases_eq j i) [
  | inl e ↦ subst (λ (k : ℕ). IsSound (once_at u k)) (sym e)
      (sound_after t step (once_at s i) (once_at u i) (fits.sound i) lawful.here)
  | inr ne ↦ subst IsSound (sym (lawful.there j ne)) (fits.sound j)
]
