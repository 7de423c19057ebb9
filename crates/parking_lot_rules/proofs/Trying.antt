-- Why a try is refused.
use Rattle.std.proofs.Common.{◌≡◌, ◌≢◌, ℕ, zero, suc, ◌+◌, ◌<◌, ◌≤◌, ◌⊎◌, ⊎_elim, Bool, true, false, cond, ◌==◌, List}
use Rattle.std.proofs.Common.{[], ◌∷◌, ◌++◌, map, Some, option_map, slice_get, slice_set, refl, sym, ap, ◌∙◌, subst}
use Rattle.std.proofs.Common.{inl, inr, arith, eq-eqb}
use Rattle.std.proofs.lemmas.Bool.{cases_eq}
use Rattle.std.proofs.lemmas.Option.{same_Some, slice_get-map}
use Rattle.std.proofs.lemmas.List.Sums as sums
use Rattle.parking_lot_rules.specs.Roles.{Exclusive, Stay, Mark, Phase, Idle, Seeks, Scans2, Stored1, Role}
use Rattle.parking_lot_rules.specs.Classes.{Class, Readers, Upgraders, Pending, Writers, weight, total, weighs}
use Rattle.parking_lot_rules.specs.Lock.{Lock, IsSound}
use Rattle.parking_lot_rules.specs.Plain.{to}
use Rattle.parking_lot_rules.specs.Steps.{Step, Alone, List_changes, Take1, Take2, Store, Wake, Pass, Allowed, after}
use Rattle.parking_lot_rules.specs.Steps.{listing_to, scanning, taking, ends_saying, settle, told, Waking, Retry, Own}
use Rattle.parking_lot_rules.specs.Steps.{OwnPending, OwnUpgradable, Recheck, waking_from, waking_to}
use Rattle.parking_lot_rules.specs.Laws.{holds}
use Rattle.parking_lot_rules.specs.World.{World, lock_at, MayStep}
use Rattle.parking_lot_rules.specs.Runs.{Move, moved, Runs, IsReached}
use Rattle.parking_lot_rules.specs.Tries.{Interference, IsRefused, in_all, Tried, TryShared, TryExclusive}
use Rattle.parking_lot_rules.specs.Tries.{TryUpgradable, TryUpgrade, limit, KeepsOut, trying, Cause, others_run}
use Rattle.parking_lot_rules.specs.Tries.{moves_at, RefusedTriesHaveACause}
use Rattle.parking_lot_rules.proofs.Indexed.{get-set_other}
use Rattle.parking_lot_rules.proofs.Totals.{total-at}
use Rattle.parking_lot_rules.proofs.Families.{put-other}
use Rattle.parking_lot_rules.proofs.Finding.{somebody, none_or}
use Rattle.parking_lot_rules.proofs.Following as following
use Rattle.parking_lot_rules.proofs.Running.{reached_sound, stays_at_its_lock}
use Rattle.parking_lot_rules.proofs.Worlds.{world_step}

-- In words of any kind: the try was kept out where it stood, or each exchange was lost to a step of another. `Holds`:
-- what stays true of the thread that tries, wherever others lead.
module _ {W E V : Type 0} (make : W → List E → W → Type 0) (word : W → V) (out : V → Type 0) (count : List E → ℕ)
    (Holds : W → Type 0)
    (keeps : (w v : W) (es : List E) → make w es v → Holds w → Holds v)
    (costs : (w v : W) (es : List E) → make w es v → word v ≢ word w → 1 ≤ count es) where
  pub refused : (n : ℕ) (w : W) (stages : List (Interference W E)) → Holds w → IsRefused make word out n w stages
      → ((v : W) × Holds v × out (word v)) ⊎ (n ≤ in_all count stages)
  refused zero w [] holds r = inr (omega arith)
  refused zero w (s ∷ stages) holds r = absurd r
  refused (suc n) w [] holds r = inl (w, holds, r)
  refused (suc n) w (s ∷ stages) holds r = ⊎_elim
      (λ out_there. inl out_there)
      (λ more. inr (omega (arith, more, costs w s.next s.steps r.0 r.1)))
      (refused n s.next stages (keeps w s.next s.steps r.0 holds) r.2)

-- a thread that asks, or does nothing, is left as it is by steps of others
abbrev is_apart : Phase → Bool
is_apart Idle = true
is_apart (Seeks mode woken) = true
is_apart phase = false

told_apart : (h : Mark) (p : Phase) → is_apart p ≡ true → told h p ≡ p
told_apart h Idle e = refl
told_apart h (Seeks m c) e = refl
told_apart h p e = absurd cc

woken_apart : (k : Waking) (t : ℕ) (stay : Stay) → is_apart (waking_from k t stay).does ≡ false
woken_apart (Retry m) t stay = refl
woken_apart Own t stay = refl
woken_apart OwnPending t stay = refl
woken_apart OwnUpgradable t stay = refl
woken_apart (Recheck f) t stay = refl

module _ (recursive : Bool) (u t : ℕ) (l : Lock) (ne : u ≢ t) (r : Role) (at : slice_get l.roles t ≡ Some r)
    (quiet : is_apart r.does ≡ true) where
  -- a thread that is taken or woken is another
  not_this : (v : ℕ) (x : Role) → slice_get l.roles v ≡ Some x → is_apart x.does ≡ false → v ≢ t
  not_this v x there busy e = let b : true ≡ false = sym quiet
      ∙ (ap (λ (y : Role). is_apart y.does) (same_Some r x (sym at ∙ ap (λ i. slice_get l.roles i) (sym e) ∙ there))
      ∙ busy) in cc

  left_alone : (step : Step) → Allowed recursive u step l → slice_get (after u step l).roles t ≡ Some r
  left_alone (Alone k) may = get-set_other l.roles u t (to k) ne ∙ at
  left_alone (List_changes k) may = get-set_other l.roles u t (listing_to k) ne ∙ at
  left_alone (Take1 s i v m stay) may = get-set_other (slice_set l.roles u (scanning (taking s v m))) v t _
      (not_this v _ may.1.role refl) ∙ get-set_other l.roles u t _ ne ∙ at
  left_alone (Take2 o v f stay) may = get-set_other (slice_set l.roles u (record { owns = o; does = Scans2 (v ∷ []) }))
      v t _ (not_this v _ may.2 refl) ∙ get-set_other l.roles u t _ ne ∙ at
  left_alone (Store e s) may =
      get-set_other (map (settle (ends_saying e)) l.roles) u t (record { owns = s.owns; does = Stored1 s.taken }) ne
      ∙ (slice_get-map (settle (ends_saying e)) l.roles t
      ∙ (ap (option_map (settle (ends_saying e))) at ∙ ap (λ p. Some (record { owns = r.owns; does = p }))
      (told_apart (ends_saying e) r.does quiet)))
  left_alone (Wake o v us k stay) may = get-set_other (slice_set l.roles v (waking_to k)) u t _ ne
      ∙ get-set_other l.roles v t _ (not_this v _ may.1 (woken_apart k u stay)) ∙ at
  left_alone (Pass o ws v us) may = get-set_other l.roles u t _ ne ∙ at

module _ (bucket : ℕ → ℕ) (recursive : ℕ → Bool) (i t : ℕ) (r : Role) (quiet : is_apart r.does ≡ true) where
  -- where a run leads, the thread that tries stands as it stood
  abbrev Stands : World → Type 0
  Stands w = IsReached bucket recursive w × (slice_get (lock_at w i).roles t ≡ Some r)

  pub one_more : (w : World) (m : Move) → IsReached bucket recursive w → MayStep bucket recursive m.lock m.thread m.step
      w → IsReached bucket recursive (moved bucket m w)
  one_more w m reached may =
      record { threads = reached.threads; moves = reached.moves ++ m ∷ []; run = go reached.moves _ reached.run }
    where
      go : (ms : List Move) (x : World) → Runs bucket recursive x ms w → Runs bucket recursive x (ms ++ m ∷ [])
          (moved bucket m w)
      go [] x run = (
        subst (λ (y : World). MayStep bucket recursive m.lock m.thread m.step y) run may,
        ap (moved bucket m) run,
      )
      go (k ∷ ms) x run = (run.0, go ms (moved bucket k x) run.1)

  one_stands : (w : World) (m : Move) → m.thread ≢ t → MayStep bucket recursive m.lock m.thread m.step w → Stands w
      → Stands (moved bucket m w)
  one_stands w m ne may holds = (
    one_more w m holds.0 may,
    ⊎_elim
        (λ (e : m.lock ≡ i).
        let sound = reached_sound bucket recursive w holds.0 in
        let here = (world_step bucket recursive m.lock m.thread w m.step sound may).here in
        let was : slice_get (lock_at w m.lock).roles t ≡ Some r = ap (λ x. slice_get (lock_at w x).roles t) e
        ∙ holds.1 in
        ap (λ x. slice_get (lock_at (moved bucket m w) x).roles t) (sym e)
        ∙ (ap (λ (l : Lock). slice_get l.roles t) here ∙ left_alone (recursive m.lock) m.thread t (lock_at w m.lock)
        ne r was quiet m.step may.allowed))
        (λ other. ap (λ (l : Lock). slice_get l.roles t)
        (stays_at_its_lock bucket recursive w m i holds.0 may (λ e. other (sym e))) ∙ holds.1)
        (cases_eq m.lock i),
  )

  stands : (ms : List Move) (w v : World) → others_run bucket recursive t w ms v → Stands w → Stands v
  stands [] w v made holds = subst Stands (sym made.0) holds
  stands (m ∷ ms) w v made holds = stands ms (moved bucket m w) v (made.0.1, made.1.1)
      (one_stands w m made.1.0 made.0.0 holds)

  -- a move at another lock leaves the word
  costs : (ms : List Move) (w v : World) → others_run bucket recursive t w ms v → v.words i ≢ w.words i
      → 1 ≤ moves_at i ms
  costs [] w v made ne = absurd (ne (ap (λ (x : World). x.words i) made.0))
  costs (m ∷ ms) w v made ne = ⊎_elim
      (λ (e : m.lock ≡ i). omega (
        arith,
        sums.sum_by-cons (λ (x : Move). cond (x.lock == i) 1 0) m ms,
        ap {B = ℕ} (λ b. cond b 1 0) (eq-eqb m.lock i e),
      ))
      (λ other.
      let same : (moved bucket m w).words i ≡ w.words i = put-other w.words m.lock _ i (λ e. other (sym e)) in
      omega (
        arith,
        sums.sum_by-cons (λ (x : Move). cond (x.lock == i) 1 0) m ms,
        costs ms (moved bucket m w) v (made.0.1, made.1.1) (λ e. ne (e ∙ same)),
      ))
      (cases_eq m.lock i)

-- who keeps a try out
module _ (l : Lock) (sound : IsSound l) (t n : ℕ) where
  another : (c : Class) (r : Role) → slice_get l.roles t ≡ Some r → weight c r ≡ 0 → 0 < total c l.roles → (u : ℕ)
      × (u ≢ t) × (0 < holds c l u)
  another c r at nothing some =
      let x = somebody c l.roles some in (
        x.0,
        (λ e. omega (
          arith,
          x.3,
          nothing,
          ap (weight c) (same_Some x.1 r (sym x.2 ∙ (ap (λ i. slice_get l.roles i) e ∙ at))),
        )),
        omega (arith, x.3, ap (weighs c) x.2),
      )

  two_kinds : (a b : ℕ → ℕ) (u : ℕ) → 0 < a u → 0 < a u + b u
  two_kinds a b u h = omega (arith, h)

  cause : (recursive : Bool) (tried : Tried) → slice_get l.roles t ≡ Some (trying tried n)
      → KeepsOut recursive tried l.word → Cause tried l t
  unfolding weight
  cause recursive TryShared at out = ⊎_elim
      (λ none. let x = another Writers _ at refl (omega (arith, sound.fits, none, out.0)) in
      (x.0, x.1, omega (arith, x.2)))
      (λ some. let x = another Pending _ at refl some in (x.0, x.1, omega (arith, x.2)))
      (none_or (total Pending l.roles))
  cause recursive TryUpgradable at out = ⊎_elim
      (λ none. ⊎_elim
      (λ neither. let x = another Upgraders _ at refl (omega (arith, sound.fits, none, neither, out)) in
      (x.0, x.1, omega (arith, x.2)))
      (λ some. let x = another Writers _ at refl some in (x.0, x.1, omega (arith, x.2)))
      (none_or (total Writers l.roles)))
      (λ some. let x = another Pending _ at refl some in (x.0, x.1, omega (arith, x.2)))
      (none_or (total Pending l.roles))
  cause recursive TryExclusive at out =
      let x = following.refusals_have_a_cause l sound t Exclusive false at (λ e. omega (arith, out, e)) in
      (x.0, x.1, x.2, x.3, x.4)
  cause recursive TryUpgrade at out = ⊎_elim
      (λ none. absurd (out (omega (arith, sound.fits, none, total-at l.roles t _ at Upgraders))))
      (λ some. let x = another Readers _ at refl some in (x.0, x.1, x.2))
      (none_or (total Readers l.roles))

quiet_trying : (tried : Tried) (n : ℕ) → is_apart (trying tried n).does ≡ true
quiet_trying TryShared n = refl
quiet_trying TryExclusive n = refl
quiet_trying TryUpgradable n = refl
quiet_trying TryUpgrade n = refl

pub refused_tries : RefusedTriesHaveACause
refused_tries bucket recursive w i t n tried stages reached at r = ⊎_elim
    (λ x. inl (
      x.0,
      x.1.0,
      x.2,
      cause (lock_at x.0 i) ((reached_sound bucket recursive x.0 x.1.0).sound i) t n
          (recursive i) tried x.1.1 x.2,
    ))
    (λ many. inr many)
    (refused (others_run bucket recursive t) (λ (v : World). v.words i) (KeepsOut (recursive i) tried) (moves_at i)
    (Stands bucket recursive i t (trying tried n) (quiet_trying tried n))
    (λ x y es made holds. stands bucket recursive i t (trying tried n) (quiet_trying tried n) es x y made holds)
    (λ x y es made ne. costs bucket recursive i t (trying tried n) (quiet_trying tried n) es x y made ne)
    (limit tried) w stages (reached, at) r)
