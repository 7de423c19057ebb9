-- What a step at a mutex does to its section, and that families of both kinds of locks stay sound.
use Rattle.std.proofs.Common.{◌≡◌, ◌≢◌, ℕ, ◌+◌, ◌≤◌, ⊎_elim, Bool, true, List, [], ◌∷◌, map, Option, Some, None}
use Rattle.std.proofs.Common.{option_map, slice_get, slice_set, refl, sym, ap, ◌∙◌, subst, arith}
use Rattle.std.proofs.lemmas.Bool.{cases_eq}
use Rattle.std.proofs.lemmas.Option.{slice_get-map}
use Rattle.parking_lot_rules.specs.Roles.{Fresh, Asleep, Late, Back, Mark, Open, Normal, Handed}
use Rattle.parking_lot_rules.specs.Lists.{at_index}
use Rattle.parking_lot_rules.specs.Mutex.{Phase, Idle, Seeks, Queued, Taken, Unlocks, Stored, Wakes, Comes, Role, away}
use Rattle.parking_lot_rules.specs.Mutex.{Inside, weight, Mutex, Plain, Begin, Retreat, Rest, Leave, Resume, Receive}
use Rattle.parking_lot_rules.specs.Mutex.{Depart, GoUnmarked, Go, from, to, told, settle, Step, Alone, Join, Quit}
use Rattle.parking_lot_rules.specs.Mutex.{QuitLast, Requeue, Pull, Follow, Take, Free, Hand, Wake, WakeOwner, Pass}
use Rattle.parking_lot_rules.specs.Mutex.{doing, Allowed, after}
use Rattle.parking_lot_rules.specs.Family.{Key, First, Second, rw_rules}
use Rattle.parking_lot_rules.specs.Any.{AnyLock, Rw, Mx, AnyStep, RwStep, MxStep, mutex_crossing, mutex_inside}
use Rattle.parking_lot_rules.specs.Any.{mutex_rules, any_rules, FamiliesStaySound}
use Rattle.parking_lot_rules.proofs.Indexed.{get-set_same, get-set_other, two_apart}
use Rattle.parking_lot_rules.proofs.Crossing.{crossed, WasIn}
use Rattle.parking_lot_rules.proofs.Families.{AreRules, any_family_sound, rw_are_rules}
use Rattle.parking_lot_rules.proofs.Mutexes.{step_sound}

plain_crosses : (k : Plain) → weight Inside (to k) ≡ crossed (mutex_crossing (Alone k)) First (weight Inside (from k))
unfolding weight
plain_crosses Begin = refl
plain_crosses k = refl

plain_was : (k : Plain) → WasIn (mutex_crossing (Alone k)) First (weight Inside (from k))
unfolding weight
plain_was (Retreat c) = refl
plain_was Rest = refl
plain_was Leave = refl
plain_was (Resume by) = refl
plain_was (Receive by) = refl
plain_was (Depart o us) = refl
plain_was (GoUnmarked o) = refl
plain_was (Go o) = refl
plain_was k = tt

-- the other key isn't there
plain_second : (k : Plain) → crossed (mutex_crossing (Alone k)) Second 0 ≡ 0
plain_second Begin = refl
plain_second k = refl

second_was : (k : Plain) → WasIn (mutex_crossing (Alone k)) Second 0
second_was Begin = tt
second_was k = tt

weighs-other : (rs : List Role) (t u : ℕ) (b : Role) → u ≢ t → at_index (weight Inside) (slice_get (slice_set rs t b) u)
    ≡ at_index (weight Inside) (slice_get rs u)
weighs-other rs t u b ne = ap (at_index (weight Inside)) (get-set_other rs t u b (λ e. ne (sym e)))

weighs-same : (rs : List Role) (t u : ℕ) (a b : Role) → slice_get rs t ≡ Some a → weight Inside b ≡ weight Inside a
    → at_index (weight Inside) (slice_get (slice_set rs t b) u) ≡ at_index (weight Inside) (slice_get rs u)
weighs-same rs t u a b at same = ⊎_elim
    (λ e. ap (λ i. at_index (weight Inside) (slice_get (slice_set rs t b) i)) e
    ∙ (ap (at_index (weight Inside)) (get-set_same rs t a b at)
    ∙ (same ∙ (sym (ap (at_index (weight Inside)) at) ∙ ap (λ i. at_index (weight Inside) (slice_get rs i))
    (sym e)))))
    (weighs-other rs t u b)
    (cases_eq u t)

told_inside : (h : Mark) (o : Bool) (p : Phase) → weight Inside (record { owns = o; does = told h p }) ≡ weight Inside
    (record { owns = o; does = p })
unfolding weight
told_inside h o (Taken by Open s) = refl
told_inside h o p = refl

settle_inside : (h : Mark) (rs : List Role) (u : ℕ) → at_index (weight Inside) (slice_get (map (settle h) rs) u)
    ≡ at_index (weight Inside) (slice_get rs u)
settle_inside h rs u = ap (at_index (weight Inside)) (slice_get-map (settle h) rs u) ∙ one (slice_get rs u)
  where
    one : (o : Option Role) → at_index (weight Inside) (option_map (settle h) o) ≡ at_index (weight Inside) o
    one None = refl
    one (Some r) = told_inside h r.owns r.does

module _ (t : ℕ) (m : Mutex) where
  -- all but steps of one thread alone leave all where they are
  stay_all : (step : Step) → Allowed t step m → ((k : Plain) → step ≢ Alone k) → (u : ℕ)
      → at_index (weight Inside) (slice_get (after t step m).roles u) ≡ at_index (weight Inside) (slice_get m.roles u)
  unfolding weight
  stay_all (Alone k) may apart u = absurd (apart k refl)
  stay_all Join may apart u = weighs-same m.roles t u _ _ may refl
  stay_all (Quit i) may apart u = weighs-same m.roles t u _ _ may.0 refl
  stay_all (QuitLast i) may apart u = weighs-same m.roles t u _ _ may.0 refl
  stay_all (Requeue o v) may apart u = weighs-same m.roles v u _ _ may.1 refl
  stay_all (Pull o v) may apart u =
      let ne : t ≢ v = two_apart (λ (r : Role). r.does) m.roles t v (record { owns = o; does = Comes }) away may.0 may.1
      (λ e. cc) in
      weighs-same (slice_set m.roles t (record { owns = o; does = Stored (v ∷ []) })) v u away
      (doing (Taken t Normal Asleep)) (get-set_other m.roles t v _ ne ∙ may.1) refl
      ∙ weighs-same m.roles t u (record { owns = o; does = Comes }) (record { owns = o; does = Stored (v ∷ []) }) may.0
      refl
  stay_all (Follow o v stay w) may apart u = weighs-same m.roles w u _ _ may.2 refl
  stay_all (Take v stay) may apart u =
      let ne : t ≢ v = two_apart (λ (r : Role). r.does) m.roles t v (doing (Unlocks [])) (doing (Queued stay)) may.0
      may.2 (λ e. cc) in
      weighs-same (slice_set m.roles t (doing (Unlocks (v ∷ [])))) v u (doing (Queued stay)) (doing (Taken t Open stay))
      (get-set_other m.roles t v _ ne ∙ may.2) refl
      ∙ weighs-same m.roles t u (doing (Unlocks [])) (doing (Unlocks (v ∷ []))) may.0 refl
  stay_all (Free us) may apart u =
      weighs-same (map (settle Normal) m.roles) t u (doing (Unlocks us)) _
      (slice_get-map (settle Normal) m.roles t ∙ ap (option_map (settle Normal)) may.0) refl
      ∙ settle_inside Normal m.roles u
  stay_all (Hand v) may apart u =
      weighs-same (map (settle Handed) m.roles) t u (doing (Unlocks (v ∷ []))) _
      (slice_get-map (settle Handed) m.roles t ∙ ap (option_map (settle Handed)) may) refl
      ∙ settle_inside Handed m.roles u
  stay_all (Wake o v us stay) may apart u =
      let ne : t ≢ v = two_apart (λ (r : Role). r.does) m.roles t v (record { owns = o; does = Wakes (v ∷ us) })
      (doing (Taken t Normal stay)) may.0 may.1 (λ e. cc) in
      weighs-same (slice_set m.roles v (doing (Seeks true))) t u (record { owns = o; does = Wakes (v ∷ us) })
      (record { owns = o; does = Wakes us }) (get-set_other m.roles v t _ (λ e. ne (sym e)) ∙ may.0) refl
      ∙ weighs-same m.roles v u (doing (Taken t Normal stay)) (doing (Seeks true)) may.1 (omega (arith, may.2))
  stay_all (WakeOwner o v us stay) may apart u =
      let ne : t ≢ v = two_apart (λ (r : Role). r.does) m.roles t v (record { owns = o; does = Wakes (v ∷ us) })
      (doing (Taken t Handed stay)) may.0 may.1 (λ e. cc) in
      weighs-same (slice_set m.roles v (record { owns = true; does = Idle })) t u
      (record { owns = o; does = Wakes (v ∷ us) }) (record { owns = o; does = Wakes us })
      (get-set_other m.roles v t _ (λ e. ne (sym e)) ∙ may.0) refl
      ∙ weighs-same m.roles v u (doing (Taken t Handed stay)) (record { owns = true; does = Idle }) may.1
      (omega (arith, may.2))
  stay_all (Pass o ws v us) may apart u = weighs-same m.roles t u _ _ may.0 refl

  others : (step : Step) (k : Key) → Allowed t step m → (u : ℕ) → u ≢ t
      → mutex_inside (after t step m) k u ≡ mutex_inside m k u
  others step Second may u ne = refl
  others (Alone k) First may u ne = weighs-other m.roles t u (to k) ne
  others Join First may u ne = stay_all Join may (λ p e. cc) u
  others (Quit i) First may u ne = stay_all (Quit i) may (λ p e. cc) u
  others (QuitLast i) First may u ne = stay_all (QuitLast i) may (λ p e. cc) u
  others (Requeue o v) First may u ne = stay_all (Requeue o v) may (λ p e. cc) u
  others (Pull o v) First may u ne = stay_all (Pull o v) may (λ p e. cc) u
  others (Follow o v stay w) First may u ne = stay_all (Follow o v stay w) may (λ p e. cc) u
  others (Take v stay) First may u ne = stay_all (Take v stay) may (λ p e. cc) u
  others (Free us) First may u ne = stay_all (Free us) may (λ p e. cc) u
  others (Hand v) First may u ne = stay_all (Hand v) may (λ p e. cc) u
  others (Wake o v us stay) First may u ne = stay_all (Wake o v us stay) may (λ p e. cc) u
  others (WakeOwner o v us stay) First may u ne = stay_all (WakeOwner o v us stay) may (λ p e. cc) u
  others (Pass o ws v us) First may u ne = stay_all (Pass o ws v us) may (λ p e. cc) u

  moves : (step : Step) (k : Key) → Allowed t step m → mutex_inside (after t step m) k t ≡ crossed (mutex_crossing step)
      k (mutex_inside m k t)
  moves (Alone k) First may =
      ap (at_index (weight Inside)) (get-set_same m.roles t (from k) (to k) may.0)
      ∙ (plain_crosses k ∙ ap (crossed (mutex_crossing (Alone k)) First)
      (sym (ap (at_index (weight Inside)) may.0)))
  moves (Alone k) Second may = sym (plain_second k)
  moves Join First may = stay_all Join may (λ p e. cc) t
  moves (Quit i) First may = stay_all (Quit i) may (λ p e. cc) t
  moves (QuitLast i) First may = stay_all (QuitLast i) may (λ p e. cc) t
  moves (Requeue o v) First may = stay_all (Requeue o v) may (λ p e. cc) t
  moves (Pull o v) First may = stay_all (Pull o v) may (λ p e. cc) t
  moves (Follow o v stay w) First may = stay_all (Follow o v stay w) may (λ p e. cc) t
  moves (Take v stay) First may = stay_all (Take v stay) may (λ p e. cc) t
  moves (Free us) First may = stay_all (Free us) may (λ p e. cc) t
  moves (Hand v) First may = stay_all (Hand v) may (λ p e. cc) t
  moves (Wake o v us stay) First may = stay_all (Wake o v us stay) may (λ p e. cc) t
  moves (WakeOwner o v us stay) First may = stay_all (WakeOwner o v us stay) may (λ p e. cc) t
  moves (Pass o ws v us) First may = stay_all (Pass o ws v us) may (λ p e. cc) t
  moves Join Second may = refl
  moves step Second may = refl

  was : (step : Step) (k : Key) → Allowed t step m → WasIn (mutex_crossing step) k (mutex_inside m k t)
  was (Alone k) First may = subst (WasIn (mutex_crossing (Alone k)) First) (sym (ap (at_index (weight Inside)) may.0))
      (plain_was k)
  was (Alone k) Second may = second_was k
  was step k may = tt

-- a thread is inside once at most
inside_le : (o : Bool) (p : Phase) → weight Inside (record { owns = o; does = p }) ≤ 1
unfolding weight
inside_le o (Queued Fresh) = omega arith
inside_le o (Queued Asleep) = omega arith
inside_le o (Queued Late) = omega arith
inside_le o (Queued Back) = omega arith
inside_le o (Taken by how Fresh) = omega arith
inside_le o (Taken by how Asleep) = omega arith
inside_le o (Taken by how Late) = omega arith
inside_le o (Taken by how Back) = omega arith
inside_le o p = omega arith

one_at_most : (r : Option Role) → at_index (weight Inside) r + 0 ≤ 1
one_at_most None = omega arith
one_at_most (Some r) = omega (arith, inside_le r.owns r.does)

idle_outside : (o : Bool) → weight Inside (record { owns = o; does = Idle }) ≡ 0
unfolding weight
idle_outside o = refl

out : (m : Mutex) (k : Key) (t : ℕ) → ((r : Role) → slice_get m.roles t ≡ Some r → r.does ≡ Idle)
    → mutex_inside m k t ≡ 0
out m Second t idle = refl
out m First t idle = go (slice_get m.roles t) refl
  where
    go : (o : Option Role) → slice_get m.roles t ≡ o → at_index (weight Inside) (slice_get m.roles t) ≡ 0
    go None e = ap (at_index (weight Inside)) e
    go (Some r) e = ap (at_index (weight Inside)) e
        ∙ (ap (λ p. weight Inside (record { owns = r.owns; does = p })) (idle r e) ∙ idle_outside r.owns)

pub mutex_are_rules : AreRules mutex_rules
mutex_are_rules = record {
  keeps = λ j t step m sound may. step_sound t step m sound may;
  others = λ j t step m k may u ne. others t m step k may u ne;
  moves = λ j t step m k may. moves t m step k may;
  was = λ j t step m k may. was t m step k may;
  one = λ m u. one_at_most (slice_get m.roles u);
  out = λ m k t idle. out m k t idle;
}

-- both kinds together
pub any_are_rules : (recursive : ℕ → Bool) → AreRules (any_rules recursive)
any_are_rules recursive =
    record { keeps = keeps; others = any_others; moves = any_moves; was = any_was; one = one; out = any_out }
  where
    rw : AreRules (rw_rules recursive)
    rw = rw_are_rules recursive

    mx : AreRules mutex_rules
    mx = mutex_are_rules

    keeps : (j t : ℕ) (step : AnyStep) (l : AnyLock) → (any_rules recursive).sound l
        → (any_rules recursive).allowed j t step l → (any_rules recursive).sound ((any_rules recursive).after t step l)
    keeps j t (RwStep s) (Rw l) sound may = rw.keeps j t s l sound may
    keeps j t (MxStep s) (Mx m) sound may = mx.keeps j t s m sound may
    keeps j t (RwStep s) (Mx m) sound may = absurd may
    keeps j t (MxStep s) (Rw l) sound may = absurd may

    any_others : (j t : ℕ) (step : AnyStep) (l : AnyLock) (k : Key) → (any_rules recursive).allowed j t step l → (u : ℕ)
        → u ≢ t → (any_rules recursive).inside ((any_rules recursive).after t step l) k u ≡ (any_rules recursive).inside
        l k u
    any_others j t (RwStep s) (Rw l) k may u ne = rw.others j t s l k may u ne
    any_others j t (MxStep s) (Mx m) k may u ne = mx.others j t s m k may u ne
    any_others j t (RwStep s) (Mx m) k may u ne = absurd may
    any_others j t (MxStep s) (Rw l) k may u ne = absurd may

    any_moves : (j t : ℕ) (step : AnyStep) (l : AnyLock) (k : Key) → (any_rules recursive).allowed j t step l
        → (any_rules recursive).inside ((any_rules recursive).after t step l) k t ≡ crossed
        ((any_rules recursive).crosses step) k ((any_rules recursive).inside l k t)
    any_moves j t (RwStep s) (Rw l) k may = rw.moves j t s l k may
    any_moves j t (MxStep s) (Mx m) k may = mx.moves j t s m k may
    any_moves j t (RwStep s) (Mx m) k may = absurd may
    any_moves j t (MxStep s) (Rw l) k may = absurd may

    any_was : (j t : ℕ) (step : AnyStep) (l : AnyLock) (k : Key) → (any_rules recursive).allowed j t step l
        → WasIn ((any_rules recursive).crosses step) k ((any_rules recursive).inside l k t)
    any_was j t (RwStep s) (Rw l) k may = rw.was j t s l k may
    any_was j t (MxStep s) (Mx m) k may = mx.was j t s m k may
    any_was j t (RwStep s) (Mx m) k may = absurd may
    any_was j t (MxStep s) (Rw l) k may = absurd may

    one : (l : AnyLock) (u : ℕ) → (any_rules recursive).inside l First u + (any_rules recursive).inside l Second u ≤ 1
    one (Rw l) u = rw.one l u
    one (Mx m) u = mx.one m u

    any_out : (l : AnyLock) (k : Key) (t : ℕ) → (any_rules recursive).idle l t → (any_rules recursive).inside l k t ≡ 0
    any_out (Rw l) k t idle = rw.out l k t idle
    any_out (Mx m) k t idle = mx.out m k t idle

pub families_stay_sound : FamiliesStaySound
families_stay_sound recursive bucket j t step old new sound made = any_family_sound (any_rules recursive)
    (any_are_rules recursive) bucket j t step old new sound made
