-- A store, which tells all that were taken, keeps a lock sound; and so every step does.
use Rattle.std.proofs.Common.{◌≡◌, ◌≢◌, ℕ, ◌+◌, ◌<◌, ◌⊎◌, ⊎_elim, Bool, true, false, List, [], ◌∷◌, length, map, Option}
use Rattle.std.proofs.Common.{Some, None, option_map, slice_get, slice_set, refl, sym, ap, ◌∙◌, subst, inl, inr, arith}
use Rattle.std.proofs.lemmas.List.{map-set}
use Rattle.std.proofs.lemmas.Option.{none-some, same_Some, slice_get-map, slice_get_cases}
use Rattle.parking_lot_rules.specs.Roles.{Mode, Owned, Stay, Mark, Open, Normal, Handed, Cause, Scans1, Stored1, Wakes}
use Rattle.parking_lot_rules.specs.Roles.{Role, away}
use Rattle.parking_lot_rules.specs.Classes.{Class, Waiting1, Waiting2, Inside1, weight, total, bit}
use Rattle.parking_lot_rules.specs.Clauses.{Word, Fits}
use Rattle.parking_lot_rules.specs.Lists.{occurs}
use Rattle.parking_lot_rules.specs.Lock.{Note, On1, note_of, to_wake, Sound, Lock, IsSound}
use Rattle.parking_lot_rules.specs.Steps.{Skip, look, has_upgradable, Scan, scanning, holds_upgradable, IsOver, Ending}
use Rattle.parking_lot_rules.specs.Steps.{Free, FreeUpgradable, Hand, HandUpgradable, Keep, ends_for, ends_saying}
use Rattle.parking_lot_rules.specs.Steps.{stored, settle, settled, Step, Alone, List_changes, Take1, Take2, Store, Wake}
use Rattle.parking_lot_rules.specs.Steps.{Pass, Allowed, after, Waking, Retry, Own, OwnPending, OwnUpgradable, Recheck}
use Rattle.parking_lot_rules.specs.Steps.{waking_from, waking_to}
use Rattle.parking_lot_rules.proofs.Indexed.{get-set_same, get-set_other, get-set_cases}
use Rattle.parking_lot_rules.proofs.Totals.{counts_all, total-set, total-at, same_counts}
use Rattle.parking_lot_rules.proofs.Fitting as fitting
use Rattle.parking_lot_rules.proofs.Waiting.{lists-same, listed}
use Rattle.parking_lot_rules.proofs.Noting.{WillWake}
use Rattle.parking_lot_rules.proofs.Alone.{sound_alone}
use Rattle.parking_lot_rules.proofs.Changing.{waking_note, sound_listing, sound_wake, sound_pass, sound_take1}
use Rattle.parking_lot_rules.proofs.Changing.{sound_take2}
use Rattle.parking_lot_rules.proofs.Settling.{IsSaid, normal, handed, total-settle, waiting-settle, one_inside}
use Rattle.parking_lot_rules.proofs.Settling.{open_inside, told_wakes, told_note}

pub ends_said : (e : Ending) → IsSaid (ends_saying e)
ends_said Free = normal
ends_said FreeUpgradable = normal
ends_said Hand = handed
ends_said HandUpgradable = handed
ends_said Keep = normal

stays1 : (h : Mark) → IsSaid h → (n : Class → ℕ) → settled h n Waiting1 ≡ n Waiting1
stays1 Open said n = elim said [ ]
stays1 Normal normal n = refl
stays1 Handed handed n = refl

stays2 : (h : Mark) → IsSaid h → (n : Class → ℕ) → settled h n Waiting2 ≡ n Waiting2
stays2 Open said n = elim said [ ]
stays2 Normal normal n = refl
stays2 Handed handed n = refl

-- who is woken later waits in the list of the one that has stored
stored_wakes : (h : Mark) → IsSaid h → (us : List ℕ) → to_wake (Stored1 us) (On1 h) ≡ us
stored_wakes Open said us = elim said [ ]
stored_wakes Normal normal us = refl
stored_wakes Handed handed us = refl

skips_upgradable : (u w : Bool) (m : Mode) → look u w m ≡ Skip → u ≡ true
skips_upgradable true w m e = refl
skips_upgradable false true m e = cc
skips_upgradable false false m e = cc

bit_of : (b : Bool) → b ≡ true → bit b ≡ 1
bit_of true e = refl
bit_of false e = absurd (cc)

module _ (w : Word) (rs : List Role) (first second : List ℕ) (sound : Sound w rs first second) (t : ℕ) where
  -- where waiters are left and none can be taken, one was taken that wants more than a shared hold, or there is an
  -- upgradable owner
  over_left : (s : Scan) → IsOver s rs first → 0 < length first → 0 < bit s.writer + bit (holds_upgradable s)
  over_left s (inl writer) some = omega (arith, bit_of s.writer writer)
  over_left s (inr skipped) some = ⊎_elim
      (λ x.
      let r = listed (weight Waiting1) first rs sound.waiting1 0 x.0 x.2 in
      omega (arith, bit_of (holds_upgradable s) (skips_upgradable _ _ _ (skipped 0 x.0 r.0 some x.2 r.1))))
      (λ none. absurd (omega arith))
      (slice_get_cases first 0).1

  pub sound_store : (e : Ending) (s : Scan) → slice_get rs t ≡ Some (scanning s) → s.cause ≡ ends_for e
      → IsOver s rs first
      → Sound (stored e s.shared s.upgradable s.writer (length first) w)
      (slice_set (map (settle (ends_saying e)) rs) t (record { owns = s.owns; does = Stored1 s.taken })) first
      second
  unfolding weight
  sound_store e s at cause over = record {
    fits = same_counts (Fits w') _ _ counted
        (fitting.store_parts w rest (counts_all (slice_set rs t away)) e s.owns s.shared s.upgradable s.writer s.taken
        (length first)
        (omega (arith, sound.waiting1.count, total-at rs t (scanning s) at Waiting1))
        (λ some. subst (λ c. 0 < bit s.writer + bit (has_upgradable s.owns c s.upgradable)) cause
        (over_left s over some))
        (subst (λ c. Fits w
        (λ k. rest k + weight k (record { owns = s.owns; does = Scans1 c s.shared s.upgradable s.writer s.taken })))
        cause
        (same_counts (Fits w) _ _ (total-at rs t (scanning s) at) sound.fits)));
    waiting1 = lists-same (weight Waiting1) first told_roles t (scanning s) b at_told
        (waiting-settle h said Waiting1 (stays1 h said) first rs sound.waiting1) refl;
    waiting2 = lists-same (weight Waiting2) second told_roles t (scanning s) b at_told
        (waiting-settle h said Waiting2 (stays2 h said) second rs sound.waiting2) refl;
    noted = λ u by r note here took. noted u by r note (get-set_cases told_roles t u (scanning s) r b at_told here)
        took;
  }
    where
      h : Mark
      h = ends_saying e

      said : IsSaid h
      said = ends_said e

      w' : Word
      w' = stored e s.shared s.upgradable s.writer (length first) w

      rest : Class → ℕ
      rest c = total c (slice_set rs t away)

      b : Role
      b = record { owns = s.owns; does = Stored1 s.taken }

      told_roles : List Role
      told_roles = map (settle h) rs

      at_told : slice_get told_roles t ≡ Some (scanning s)
      at_told = slice_get-map (settle h) rs t ∙ ap (option_map (settle h)) at

      counted : (c : Class) → settled h rest c + weight c b ≡ total c (slice_set told_roles t b)
      counted c = sym (total-set told_roles t (scanning s) b at_told c
          ∙ ap (λ k. k + weight c b)
          (sym (ap (total c) (map-set (settle h) rs t away)) ∙ total-settle h said (slice_set rs t away) c))

      -- whoever has taken others and not stored is t
      only : (u by : ℕ) (p : Role) → slice_get rs by ≡ Some p → 0 < occurs u (to_wake p.does (On1 Open)) → (by ≡ t)
          × (p ≡ scanning s)
      only u by p there some =
          let same : by ≡ t = one_inside Inside1 rs sound.fits.inside1 t by (scanning s) p at there refl
          (open_inside p.owns p.does u some) in
          (same, same_Some p (scanning s) (sym there ∙ ap (λ i. slice_get rs i) same ∙ at))

      -- who waits for another to wake it still does
      kept : (u by : ℕ) (note : Note) → WillWake rs by u note → by ≢ t → WillWake (slice_set told_roles t b) by u note
      kept u by note p ne = (
        settle h p.0,
        get-set_other told_roles t by b (λ x. ne (sym x)) ∙ slice_get-map (settle h) rs by
            ∙ ap (option_map (settle h)) p.1,
        subst (λ us. 0 < occurs u us) (sym (told_wakes h p.0.does note)) p.2,
      )

      later : (u by : ℕ) (q : Role) (note : Note) → slice_get rs u ≡ Some q
          → ((note_of q.does ≡ Some (by, On1 Open)) × (note ≡ On1 h))
          ⊎ ((note_of q.does ≡ Some (by, note))
          × ((r : Cause) (n : ℕ) (x y : Bool) (us : List ℕ) → to_wake (Scans1 r n x y us) note ≡ []))
          → WillWake (slice_set told_roles t b) by u note
      later u by q note there (inl told_now) =
          let p = sound.noted u by q (On1 Open) there told_now.0 in
          let same = only u by p.0 p.1 p.2 in
          let some : 0 < occurs u s.taken = subst (λ (r : Role). 0 < occurs u (to_wake r.does (On1 Open)))
          same.1 p.2 in (
            b,
            ap (λ i. slice_get (slice_set told_roles t b) i) same.0 ∙ get-set_same told_roles t (scanning s) b at_told,
            subst (λ (n : Note). 0 < occurs u (to_wake (Stored1 s.taken) n)) (sym told_now.1)
                (subst (λ us. 0 < occurs u us) (sym (stored_wakes h said s.taken)) some),
          )
      later u by q note there (inr told_before) =
          let p = sound.noted u by q note there told_before.0 in
          kept u by note p (λ same.
          let is_scan : p.0 ≡ scanning s = same_Some p.0 (scanning s) (sym p.1 ∙ ap (λ i. slice_get rs i) same ∙ at) in
          let some : 0 < occurs u (to_wake (scanning s).does note) =
          subst (λ (r : Role). 0 < occurs u (to_wake r.does note)) is_scan p.2 in
          let none : occurs u (to_wake (scanning s).does note) ≡ 0 =
          ap (λ us. occurs u us) (told_before.1 s.cause s.shared s.upgradable s.writer s.taken) in
          omega (arith, some, none))

      noted : (u by : ℕ) (r : Role) (note : Note) → ((u ≡ t) × (r ≡ b)) ⊎ ((u ≢ t) × (slice_get told_roles u ≡ Some r))
          → note_of r.does ≡ Some (by, note) → WillWake (slice_set told_roles t b) by u note
      noted u by r note (inl x) took = absurd (none-some (by, note) (sym (ap (λ y. note_of y.does) x.1) ∙ took))
      noted u by r note (inr x) took =
          let was = before (slice_get rs u) refl in
          later u by was.0 note was.1
          (told_note h said was.0.does by note (ap (λ (y : Role). note_of y.does) (sym was.2) ∙ took))
        where
          before : (o : Option Role) → slice_get rs u ≡ o → (q : Role) × (slice_get rs u ≡ Some q) × (r ≡ settle h q)
          before None y = absurd
              (none-some r (sym (slice_get-map (settle h) rs u ∙ ap (option_map (settle h)) y) ∙ x.1))
          before (Some q) y = (
            q,
            y,
            same_Some r (settle h q)
                (sym x.1 ∙ (slice_get-map (settle h) rs u ∙ ap (option_map (settle h)) y)),
          )

-- who wakes another isn't that other
pub waking_apart : (k : Waking) (t : ℕ) (stay : Stay) (o : Owned) (us : List ℕ) → record { owns = o; does = Wakes us } ≢
    waking_from k t stay
waking_apart (Retry m) t stay o us e = let same = ap (λ (r : Role). r.does) e in cc
waking_apart Own t stay o us e = let same = ap (λ (r : Role). r.does) e in cc
waking_apart OwnPending t stay o us e = let same = ap (λ (r : Role). r.does) e in cc
waking_apart OwnUpgradable t stay o us e = let same = ap (λ (r : Role). r.does) e in cc
waking_apart (Recheck f) t stay o us e = let same = ap (λ (r : Role). r.does) e in cc

-- every step keeps a lock sound
pub step_sound : (recursive : Bool) (t : ℕ) (step : Step) (l : Lock) → IsSound l → Allowed recursive t step l
    → IsSound (after t step l)
step_sound recursive t (Alone k) l sound may = sound_alone l.word l.roles l.first l.second sound t recursive k may.0
    may.1
step_sound recursive t (List_changes k) l sound may = sound_listing l.word l.roles l.first l.second sound t k may.0
    may.1
step_sound recursive t (Take1 s i v m stay) l sound may = sound_take1 l.word l.roles l.first l.second sound t s i v m
    stay may.0 may.1
step_sound recursive t (Take2 o v f stay) l sound may = sound_take2 l.word l.roles l.first l.second sound t o v f stay
    may.0 may.1 may.2
step_sound recursive t (Store e s) l sound may = sound_store l.word l.roles l.first l.second sound t e s may.0 may.1
    may.3
step_sound recursive t (Wake o v us k stay) l sound may =
    let mid = sound_wake l.word l.roles l.first l.second sound t v k stay may.1 may.2 in
    sound_pass l.word (slice_set l.roles v (waking_to k)) l.first l.second mid t o [] v us
    (get-set_other l.roles v t (waking_to k)
    (λ e. waking_apart k t stay o (v ∷ us)
    (same_Some _ _ (sym may.0 ∙ ap (λ i. slice_get l.roles i) (sym e) ∙ may.1))) ∙ may.0)
    (λ r note here took. none-some (t, note)
    (sym (waking_note k)
    ∙ ap (λ (y : Role). note_of y.does)
    (same_Some (waking_to k) r (sym (get-set_same l.roles v (waking_from k t stay) (waking_to k) may.1) ∙ here))
    ∙ took))
step_sound recursive t (Pass o ws v us) l sound may = sound_pass l.word l.roles l.first l.second sound t o ws v us may.0
    may.1
