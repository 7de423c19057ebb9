-- Whoever waits to be told, and goes on in a step of another, was taken by that one.
use Rattle.std.proofs.Common.{◌≡◌, ◌≢◌, ℕ, ◌<◌, ◌+◌, ◌*◌, length, zero, suc, inl, inr, ◌⊎◌, Bool, true, false, cond}
use Rattle.std.proofs.Common.{◌==◌, List, [], ◌∷◌, ◌++◌, map, filter, Option, Some, None, slice_get, slice_set, refl}
use Rattle.std.proofs.Common.{sym, ap, ◌∙◌, subst}
use Rattle.std.specs.Option.{option_and_then, option_map}
use Rattle.std.proofs.lemmas.Bool.{cases_eq, cases_Bool, false≢true, eq-eqb, ne_eqb, cond-true, cond-false}
use Rattle.std.proofs.lemmas.Option.{none-some, same_Some, slice_get-map, slice_get_within}
use Rattle.parking_lot_core_model.specs.declared.parking.ParkToken.{ParkToken}
use Rattle.parking_lot_core_model.specs.declared.parking.UnparkToken.{UnparkToken}
use Rattle.parking_lot_core_model.specs.declared.place.Place.{Place}
use Rattle.parking_lot_core_model.specs.declared.place.Section.{Section}
use Rattle.parking_lot_core_model.specs.Places.{place_at}
use Rattle.parking_lot_protocol.specs.declared.act.Act.{Act}
use Rattle.parking_lot_protocol.specs.declared.act.SectionAct.{SectionAct}
use Rattle.parking_lot_protocol.specs.declared.act.CoreAnswer.{CoreAnswer}
use Rattle.parking_lot_machine_calls.specs.declared.open_call.Call.{Call}
use Rattle.parking_lot_machine_calls.specs.declared.seat.QueuePosition.{QueuePosition}
use Rattle.parking_lot_machine_calls.specs.declared.seat.WakeResult.{WakeResult}
use Rattle.parking_lot_machine_calls.specs.declared.seat.Wakeup.{Wakeup}
use Rattle.parking_lot_machine.specs.Machines.{Became, BecameInside, IsStepped}
use Rattle.parking_lot_machine_calls.specs.CallActs.{settled, settled_spot, told_of}
use Rattle.parking_lot_machine.specs.RowFits.{FitsTogether, IsAt, SeatedIn, Stands}
use Rattle.parking_lot_machine.specs.Rows.{State, call_at, is_by, open_at, taken_by}
use Rattle.parking_lot_machine_calls.specs.Stances.{Asleep, Stance, core_act, stance}
use Rattle.parking_lot_machine.specs.TellLaws.{IsDue}
use Rattle.mapworld_state.proofs.LocksFacts.Calls.{call_of, late_is, slot}
use Rattle.parking_lot_rules.proofs.Slots.{set_elsewhere}

-- a thread has taken another, and is to wake it
abbrev pub HasTaken : List Wakeup → ℕ → ℕ → Type 0
HasTaken wakes t v = (k : ℕ) × (slice_get (taken_by wakes t) k ≡ Some v)

by_passes : (t : ℕ) (e : Wakeup) (rest : List Wakeup) → e.by ≡ t → taken_by (e ∷ rest) t ≡ e.thread ∷ taken_by rest t
by_passes t e rest own =
    ap (map (λ w. w.thread))
    (cond-true (is_by t e) (e ∷ filter (is_by t) rest) (filter (is_by t) rest) (eq-eqb e.by t own))

by_other : (t : ℕ) (e : Wakeup) (rest : List Wakeup) → is_by t e ≡ false → taken_by (e ∷ rest) t ≡ taken_by rest t
by_other t e rest other =
    ap (map (λ w. w.thread)) (cond-false (is_by t e) (e ∷ filter (is_by t) rest) (filter (is_by t) rest) other)

pub has_taken : (wakes : List Wakeup) (t n : ℕ) (e : Wakeup) → slice_get wakes n ≡ Some e → e.by ≡ t
    → HasTaken wakes t e.thread
has_taken [] t n e at own = absurd (none-some e at)
has_taken (x ∷ xs) t zero e at own =
    let same : x ≡ e = same_Some x e at in
    (0, ap (λ us. slice_get us 0) (by_passes t x xs (ap (λ w. w.by) same ∙ own)) ∙ ap (λ w. Some w.thread) same)
has_taken (x ∷ xs) t (suc n) e at own =
    let (k, there) = has_taken xs t n e at own in
    elim (cases_Bool (is_by t x)) [
      | inl own2 ↦ (
        suc k,
        ap (λ us. slice_get us (suc k))
            (ap (map (λ w. w.thread)) (cond-true (is_by t x) (x ∷ filter (is_by t) xs) (filter (is_by t) xs) own2))
            ∙ there,
      )
      | inr other ↦ (k, ap (λ us. slice_get us k) (by_other t x xs other) ∙ there)
    ]

at_end : (xs : List Wakeup) (x : Wakeup) → (n : ℕ) × (slice_get (xs ++ x ∷ []) n ≡ Some x)
at_end [] x = (0, refl)
at_end (y ∷ ys) x = let (n, at) = at_end ys x in (suc n, at)

abbrev is_nothing : WakeResult → Bool
is_nothing WakeResult.Nothing = true
is_nothing WakeResult.TryAgain = false
is_nothing WakeResult.HandedOver = false

-- a sleeper that is woken was told something
told_something : (token : UnparkToken) → told_of token ≢ WakeResult.Nothing
told_something token e = at (token.0 == 1) e
  where
    at : (b : Bool) → cond b WakeResult.HandedOver WakeResult.TryAgain ≡ WakeResult.Nothing → ⊥
    at true e = false≢true (ap is_nothing e)
    at false e = false≢true (ap is_nothing e)

abbrev is_taken : Option Place → Bool
is_taken (Some (Place.Taken token key sleep woken)) = true
is_taken other = false

-- it stands off its list, and nothing was said to it: then its place isn't that of one who is to be woken
not_due : (by key : ℕ) (place : Option Place) (sections : ℕ → Option Section)
    → IsAt (QueuePosition.Off by WakeResult.Nothing) place sections key → is_taken place ≡ true → ⊥
not_due by key place sections (sleep, late, inl (held, opened, is_it, own, said)) is =
    false≢true (sym (ap is_taken held) ∙ is)
not_due by key place sections (sleep, late, inr (token, place_is, said)) is = told_something token (sym said)

-- a thread that was taken by another, and isn't told yet
pub record IsUntold (s : State) (v : ℕ) (d : Call) : Type 0 where
  pub there : call_at s v ≡ Some d
  pub by : ℕ
  pub off : d.spot ≡ QueuePosition.Off by WakeResult.Nothing
  pub key : ℕ
  pub token : ParkToken
  pub asleep : stance d.core ≡ Asleep key token

module _ (s : State) (h : FitsTogether s) (t : ℕ) (c : Call) (here : call_at s t ≡ Some c) (v : ℕ) (d : Call)
    (x : IsUntold s v d) (other : v ≢ t) where
  -- it goes on as it was, or that thread has taken it
  abbrev ResultOf : List (Option Call) → List Wakeup → Type 0
  ResultOf calls wakes = (call_of calls v ≡ Some d) ⊎ HasTaken wakes t v

  abbrev Result : State → Type 0
  Result u = ResultOf u.calls u.wakes

  is : (u w : State) → u ≡ w → Result w → Result u
  is u w e r = subst Result (sym e) r

  either : (b : Bool) (u w : State) → Result u → Result w → Result (cond b u w)
  either true u w r q = r
  either false u w r q = q

  apart : (o : Option Call) → call_of (slice_set s.calls t o) v ≡ Some d
  apart o = set_elsewhere s.calls t v o other ∙ x.there

  -- it is told by whom has taken it
  told_by : (r : WakeResult) (by : ℕ) → d.spot ≡ QueuePosition.Off by WakeResult.Nothing → (settled t r d ≡ d)
      ⊎ (by ≡ t)
  told_by r by off = elim (cases_eq by t) [
    | inl e ↦ inr e
    | inr ne ↦ inl (ap (λ p. record d { spot = p })
        (ap (settled_spot t r) off
        ∙ ap (QueuePosition.Off by) (cond-false (by == t) r WakeResult.Nothing (ne_eqb by t ne)) ∙ sym off))
  ]

  taken_already : (by : ℕ) → d.spot ≡ QueuePosition.Off by WakeResult.Nothing → by ≡ t → HasTaken s.wakes t v
  taken_already by off own =
      let (n, e, at, is_by_it, is_it) = h.wakes.off v by d WakeResult.Nothing x.there off in
      let (k, there) = has_taken s.wakes t n e at (is_by_it ∙ own) in (k, there ∙ ap Some is_it)

  says : (r : WakeResult) (o : Option Call) → ResultOf (map (option_map (settled t r)) (slice_set s.calls t o)) s.wakes
  says r o = elim (told_by r x.by x.off) [
    | inl same ↦ inl (mapped ∙ ap (option_map (settled t r)) (apart o) ∙ ap Some same)
    | inr own ↦ inr (taken_already x.by x.off own)
  ]
    where
      mapped : call_of (map (option_map (settled t r)) (slice_set s.calls t o)) v ≡ option_map (settled t r)
          (call_of (slice_set s.calls t o) v)
      mapped = ap (option_and_then (λ y. y)) (slice_get-map (option_map (settled t r)) (slice_set s.calls t o) v)
          ∙ at (slice_get (slice_set s.calls t o) v)
        where
          at : (o : Option (Option Call)) → option_and_then (λ y. y) (option_map (option_map (settled t r)) o)
              ≡ option_map (settled t r) (option_and_then (λ y. y) o)
          at None = refl
          at (Some y) = refl

  -- another's call, and its own
  two : (w : ℕ) (o p : Option Call) → v ≢ w → call_of (slice_set (slice_set s.calls w o) t p) v ≡ Some d
  two w o p ne = set_elsewhere (slice_set s.calls w o) t v p other ∙ set_elsewhere s.calls w v o ne ∙ x.there

  takes : (o p : Option Call) (e : Wakeup) → e.by ≡ t → ResultOf (slice_set (slice_set s.calls e.thread o) t p)
      (s.wakes ++ e ∷ [])
  takes o p e own = elim (cases_eq v e.thread) [
    | inr ne ↦ inl (two e.thread o p ne)
    | inl eq ↦ inr (let (n, at) = at_end s.wakes e in
        let (k, there) = has_taken (s.wakes ++ e ∷ []) t n e at own in (k, there ∙ ap Some (sym eq)))
  ]

  wakes : (e : Wakeup) (d2 : Call) (token : UnparkToken) (o p : Option Call) (ws : List Wakeup) → IsDue s t e d2 token
      → ResultOf (slice_set (slice_set s.calls e.thread o) t p) ws
  wakes e d2 token o p ws due = elim (cases_eq v e.thread) [
    | inr ne ↦ inl (two e.thread o p ne)
    | inl eq ↦ absurd (not_due x.by (2 * d.lock + x.key) (place_at s.lot.places v) (open_at s) off_list_place
        (taken_place eq))
  ]
    where
      taken_place : v ≡ e.thread → is_taken (place_at s.lot.places v) ≡ true
      taken_place eq = ap (λ n. is_taken (place_at s.lot.places n)) eq ∙ ap is_taken due.place

      low : v < length s.calls
      low = slice_get_within s.calls v (Some d) (slot s.calls v d x.there)

      stands : Stands v d.lock (stance d.core) d.spot (place_at s.lot.places v) (s.lot.inside v) (open_at s)
      stands = subst (λ (o : Option Call). SeatedIn s.lot v o) x.there (h.lots.seated v low)

      off_list_place : IsAt (QueuePosition.Off x.by WakeResult.Nothing) (place_at s.lot.places v) (open_at s)
          (2 * d.lock + x.key)
      off_list_place = (subst
          (λ (at : QueuePosition). Stands v d.lock (Asleep x.key x.token) at (place_at s.lot.places v) (s.lot.inside v)
          (open_at s))
          x.off
          (subst (λ (st : Stance). Stands v d.lock st d.spot (place_at s.lot.places v) (s.lot.inside v) (open_at s))
          x.asleep stands)).0

  goes_inside : (k : SectionAct) (fair : Bool) (u : State) → BecameInside k t fair c s u → Result u
  goes_inside SectionAct.Check fair u e = is u _ e (inl (apart _))
  goes_inside SectionAct.TakeFirst fair u (k, stands, inl (nth, w, first, e)) = is u _ e (takes _ _ _ refl)
  goes_inside SectionAct.TakeFirst fair u (k, stands, inr (empty, e)) = is u _ e (inl (apart _))
  goes_inside (SectionAct.TakeNext sum) fair u (k, stands, inl (nth, w, first, e)) = is u _ e (takes _ _ _ refl)
  goes_inside (SectionAct.TakeNext sum) fair u (k, stands, inr (empty, e)) = is u _ e (inl (apart _))
  goes_inside (SectionAct.Append token) fair u (k, stands, e) = is u _ e (inl (apart _))
  goes_inside (SectionAct.Store plain handing) fair u e = is u _ e (says _ _)
  goes_inside SectionAct.Leave fair u e = is u _ e (inl (apart _))
  goes_inside SectionAct.Wake fair u (inr (gone, is_it)) = is u _ is_it (inl (apart _))
  goes_inside SectionAct.Wake fair u (inl (e, d2, token, due, is_it)) = is u _ is_it (wakes e d2 token _ _ _ due)

  goes : (a : Act) (fair : Bool) (u : State) → Became a t fair c s u → Result u
  goes Act.Load fair u e = is u _ e (inl (apart _))
  goes (Act.Exchange from to) fair u e = is u _ e (either _ _ _ (inl (apart _)) (inl (apart _)))
  goes (Act.Add by) fair u e = is u _ e (inl (apart _))
  goes (Act.FetchAnd keep) fair u e = is u _ e (says _ _)
  goes Act.Spin fair u e = is u _ e (inl (apart _))
  goes (Act.Enter key) fair u e = is u _ e (inl (apart _))
  goes (Act.Section next) fair u b = goes_inside next fair u b
  goes Act.Sleep fair u b = let l = late_is s u t c c.core refl b in is u _ l.3 (inl (apart _))
  goes (Act.Done answer) fair u e = is u _ e (inl (apart _))

pub untold_or_taken : (s u : State) (t : ℕ) (fair : Bool) (answer : Option CoreAnswer) → FitsTogether s
    → IsStepped t fair answer s u
    → (v : ℕ) (d : Call) → IsUntold s v d → v ≢ t → (call_at u v ≡ Some d) ⊎ HasTaken u.wakes t v
untold_or_taken s u t fair answer h x v d y ne = goes s h t x.call x.here v d y ne (core_act x.call.core) fair u
    x.became
