-- A try that sees a word of its lock that isn't 0 sees it in the step that it makes.
use Rattle.std.proofs.Common.{◌≡◌, ◌≢◌, ℕ, zero, suc, ◌+◌, ◌%◌, ◌^◌, ◌⊎◌, inl, inr, Bool, true, false, cond, not, ◌==◌}
use Rattle.std.proofs.Common.{◌∷◌, [], List, map, Option, Some, None, slice_get, slice_set, refl, sym, ap, ◌∙◌, subst}
use Rattle.std.specs.Option.{option_map, option_and_then}
use Rattle.std.proofs.lemmas.Bool.{cases_eq, false≢true, eqb-false, ne_eqb}
use Rattle.std.proofs.lemmas.Option.{slice_get-map}
use Rattle.parking_lot_protocol.specs.declared.act.Act.{Act}
use Rattle.parking_lot_protocol.specs.declared.act.SectionAct.{SectionAct}
use Rattle.parking_lot_protocol.specs.declared.act.ActResult.{ActResult}
use Rattle.parking_lot_protocol.specs.declared.act.CoreAnswer.{CoreAnswer}
use Rattle.parking_lot_protocol.specs.declared.rw_phase.LockMode.{LockMode}
use Rattle.parking_lot_protocol.specs.declared.rw_phase.RwPhase.{RwPhase}
use Rattle.parking_lot_protocol.specs.declared.rw_core.RwCore.{RwCore}
use Rattle.parking_lot_rules.proofs.Indexed.{get-set_other}
use Rattle.parking_lot_protocol.specs.RwTable.{act_of, next_phase, share_of, tries}
use Rattle.parking_lot_machine_calls.specs.declared.open_call.Call.{Call}
use Rattle.parking_lot_machine_calls.specs.declared.seat.Core.{Core}
use Rattle.parking_lot_machine_calls.specs.declared.seat.WakeResult.{WakeResult}
use Rattle.parking_lot_machine.specs.Machines.{Became, BecameInside}
use Rattle.parking_lot_machine.specs.RowActs.{loaded, exchanged, with_call, with_word}
use Rattle.parking_lot_machine_calls.specs.CallActs.{hears, off_list, settled}
use Rattle.parking_lot_machine.specs.Rows.{State, call_at, word_at}
use Rattle.parking_lot_machine_calls.specs.Stances.{core_act, core_next}
use Rattle.mapworld_state.proofs.InvariantFacts.CausesFacts.Trying.{core_tries, is_trying}
use Rattle.mapworld_state.specs.Locks.Steps.{HasActed}
use Rattle.mapworld_state.proofs.LocksFacts.Calls.{Hears, late_is}
use Rattle.mapworld_state.specs.Invariant.Causes.Causes.{has_seen, has_seen_in}
use Rattle.mapworld_state.proofs.InvariantFacts.CausesFacts.Noticing.{blind, found-unseen, late-unseen, looks_in}
use Rattle.mapworld_state.proofs.InvariantFacts.CausesFacts.Noticing.{tardy-unseen, woken-unseen, seen-tries}

abbrev pub call_of : List (Option Call) → ℕ → Option Call
call_of calls t = option_and_then (λ c. c) (slice_get calls t)

-- whether a call has seen a word that isn't 0, if there is one
abbrev pub sees : Option Call → Bool
sees None = false
sees (Some c) = has_seen c.core

pub set-elsewhere : (calls : List (Option Call)) (t v : ℕ) (o : Option Call) → v ≢ t
    → call_of (slice_set calls t o) v ≡ call_of calls v
set-elsewhere calls t v o ne = ap (option_and_then (λ y. y)) (get-set_other calls t v o (λ e. ne (sym e)))

-- what stands at a place that is set is what was set, or nothing
pub set-here : (calls : List (Option Call)) (t : ℕ) (o : Option Call) → (call_of (slice_set calls t o) t ≡ o)
    ⊎ (call_of (slice_set calls t o) t ≡ None)
set-here [] t o = inr refl
set-here (c ∷ cs) zero o = inl refl
set-here (c ∷ cs) (suc t) o = set-here cs t o

map-of : (f : Call → Call) (calls : List (Option Call)) (v : ℕ) → call_of (map (option_map f) calls) v ≡ option_map f
    (call_of calls v)
map-of f calls v = ap (option_and_then (λ y. y)) (slice_get-map (option_map f) calls v) ∙ at (slice_get calls v)
  where
    at : (o : Option (Option Call)) → option_and_then (λ y. y) (option_map (option_map f) o) ≡ option_map f
        (option_and_then (λ y. y) o)
    at None = refl
    at (Some x) = refl

-- OTHERS' CALLS SEE NOTHING

settled-sees : (t : ℕ) (said : WakeResult) (o : Option Call) → sees (option_map (settled t said) o) ≡ sees o
settled-sees t said None = refl
settled-sees t said (Some c) = refl

off-sees : (t : ℕ) (o : Option Call) → sees (option_map (off_list t) o) ≡ sees o
off-sees t None = refl
off-sees t (Some c) = refl

module _ (s : State) (t : ℕ) (c : Call) (v : ℕ) (ne : v ≢ t) where
  abbrev Kept : List (Option Call) → Type 0
  Kept calls = sees (call_of calls v) ≡ true → sees (call_of s.calls v) ≡ true

  is : (u w : State) → u ≡ w → Kept w.calls → Kept u.calls
  is u w e h = subst (λ (z : State). Kept z.calls) (sym e) h

  own : (calls : List (Option Call)) (o : Option Call) → Kept calls → Kept (slice_set calls t o)
  own calls o h seen = h (sym (ap sees (set-elsewhere calls t v o ne)) ∙ seen)

  told : (o : Option Call) → Kept (slice_set s.calls t o)
  told o = own s.calls o (λ seen. seen)

  says : (o : Option Call) (said : WakeResult) → Kept (map (option_map (settled t said)) (slice_set s.calls t o))
  says o said seen =
      told o (sym (ap sees (map-of (settled t said) (slice_set s.calls t o) v)
      ∙ settled-sees t said (call_of (slice_set s.calls t o) v)) ∙ seen)

  -- another's call goes on as one that has seen nothing that it hadn't
  other : (n : ℕ) (o : Option Call) → (sees o ≡ true → sees (call_of s.calls n) ≡ true) → Kept (slice_set s.calls n o)
  other n o h seen = elim (cases_eq v n) [
    | inl e ↦ elim (set-here s.calls n o) [
      | inl is ↦ ap (λ m. sees (call_of s.calls m)) e
          ∙ h (sym (ap (λ m. sees (call_of (slice_set s.calls n o) m)) e ∙ ap sees is) ∙ seen)
      | inr none ↦ absurd
          (false≢true (sym (ap (λ m. sees (call_of (slice_set s.calls n o) m)) e ∙ ap sees none) ∙ seen))
    ]
    | inr apart ↦ sym (ap sees (set-elsewhere s.calls n v o apart)) ∙ seen
  ]

  taken : (n : ℕ) (o : Option Call)
      → Kept (slice_set (slice_set s.calls n (option_map (off_list t) (call_of s.calls n))) t o)
  taken n o = own _ o
      (other n (option_map (off_list t) (call_of s.calls n)) (λ seen. sym (off-sees t (call_of s.calls n)) ∙ seen))

  either : (b : Bool) (u w : State) → Kept u.calls → Kept w.calls → Kept (cond b u w).calls
  either true u w h k = h
  either false u w h k = k

  kept-inside : (k : SectionAct) (fair : Bool) (u : State) → BecameInside k t fair c s u → Kept u.calls
  kept-inside SectionAct.Check fair u e = is u _ e (told _)
  kept-inside SectionAct.TakeFirst fair u (k, stands, inl (nth, w, first, e)) = is u _ e (taken w.thread _)
  kept-inside SectionAct.TakeFirst fair u (k, stands, inr (empty, e)) = is u _ e (told _)
  kept-inside (SectionAct.TakeNext sum) fair u (k, stands, inl (nth, w, first, e)) = is u _ e (taken w.thread _)
  kept-inside (SectionAct.TakeNext sum) fair u (k, stands, inr (empty, e)) = is u _ e (told _)
  kept-inside (SectionAct.Append token) fair u (k, stands, e) = is u _ e (told _)
  kept-inside (SectionAct.Store plain handing) fair u e = is u _ e (says _ _)
  kept-inside SectionAct.Leave fair u e = is u _ e (told _)
  kept-inside SectionAct.Wake fair u (inr (gone, is_it)) = is u _ is_it (told _)
  kept-inside SectionAct.Wake fair u (inl (e, d, token, due, is_it)) =
      is u _ is_it (own _ _ (other e.thread _ (λ seen. absurd (false≢true (sym (woken-unseen d.core token) ∙ seen)))))

  kept : (a : Act) (fair : Bool) (u : State) → Became a t fair c s u → Kept u.calls
  kept Act.Load fair u e = is u _ e (told _)
  kept (Act.Exchange from to) fair u e = is u _ e (either _ _ _ (told _) (told _))
  kept (Act.Add by) fair u e = is u _ e (told _)
  kept (Act.FetchAnd keep) fair u e = is u _ e (says _ _)
  kept Act.Spin fair u e = is u _ e (told _)
  kept (Act.Enter key) fair u e = is u _ e (told _)
  kept (Act.Section next) fair u b = kept-inside next fair u b
  kept Act.Sleep fair u b = let l = late_is s u t c c.core refl b in is u _ l.3 (told _)
  kept (Act.Done answer) fair u e = is u _ e (told None)

-- in a step another's call sees nothing that it hadn't seen
pub others-see : (s u : State) (t : ℕ) (fair : Bool) (answer : Option CoreAnswer) → HasActed t fair answer s u
    → (v : ℕ) → v ≢ t → sees (call_at u v) ≡ true → sees (call_at s v) ≡ true
others-see s u t fair answer x v ne = kept s t x.call v ne (core_act x.call.core) fair u x.became

-- ITS OWN

-- what it was told, where its call has seen something
record Told (c : Call) : Type 0 where
  told : ActResult
  seen : has_seen (core_next c.core told) ≡ true

module _ (s : State) (t : ℕ) (c : Call) where
  -- a call that has seen something was told it
  abbrev WasTold : List (Option Call) → Type 0
  WasTold calls = sees (call_of calls t) ≡ true → Told c

  was : (u w : State) → u ≡ w → WasTold w.calls → WasTold u.calls
  was u w e h = subst (λ (z : State). WasTold z.calls) (sym e) h

  pub hears-here : (calls : List (Option Call)) (d : Call) → sees (call_of (slice_set calls t (Some d)) t) ≡ true
      → has_seen d.core ≡ true
  hears-here calls d seen = elim (set-here calls t (Some d)) [
    | inl is ↦ sym (ap sees is) ∙ seen
    | inr none ↦ absurd (false≢true (sym (ap sees none) ∙ seen))
  ]

  heard : (calls : List (Option Call)) (k : ActResult) → WasTold (slice_set calls t (Some (hears c k)))
  heard calls k seen = record { told = k; seen = hears-here calls (hears c k) seen }

  joined : (calls : List (Option Call)) (d : Call) (k : ActResult) → d.core ≡ core_next c.core k
      → WasTold (slice_set calls t (Some d))
  joined calls d k same seen = record { told = k; seen = sym (ap has_seen same) ∙ hears-here calls d seen }

  late-told : (calls : List (Option Call)) (d : Call) → Hears c.core d.core → WasTold (slice_set calls t (Some d))
  late-told calls d (inl (told, core)) seen = joined calls d told core seen
  late-told calls d (inr (by, handed, comes, core)) seen =
      absurd (false≢true (sym (ap has_seen core ∙ found-unseen by handed c.core comes) ∙ hears-here calls d seen))

  said : (calls : List (Option Call)) (k : ActResult) (r : WakeResult)
      → WasTold (map (option_map (settled t r)) (slice_set calls t (Some (hears c k))))
  said calls k r seen =
      heard calls k (sym (ap sees (map-of (settled t r) (slice_set calls t (Some (hears c k))) t)
      ∙ settled-sees t r (call_of (slice_set calls t (Some (hears c k))) t)) ∙ seen)

  ends : WasTold (slice_set s.calls t None)
  ends seen = elim (set-here s.calls t None) [
    | inl is ↦ absurd (false≢true (sym (ap sees is) ∙ seen))
    | inr none ↦ absurd (false≢true (sym (ap sees none) ∙ seen))
  ]

  or : (b : Bool) (u w : State) → WasTold u.calls → WasTold w.calls → WasTold (cond b u w).calls
  or true u w h k = h
  or false u w h k = k

  told-inside : (k : SectionAct) (fair : Bool) (u : State) → BecameInside k t fair c s u → WasTold u.calls
  told-inside SectionAct.Check fair u e = was u _ e (heard _ _)
  told-inside SectionAct.TakeFirst fair u (k, stands, inl (nth, w, first, e)) = was u _ e (heard _ _)
  told-inside SectionAct.TakeFirst fair u (k, stands, inr (empty, e)) = was u _ e (heard _ _)
  told-inside (SectionAct.TakeNext sum) fair u (k, stands, inl (nth, w, first, e)) = was u _ e (heard _ _)
  told-inside (SectionAct.TakeNext sum) fair u (k, stands, inr (empty, e)) = was u _ e (heard _ _)
  told-inside (SectionAct.Append token) fair u (k, stands, e) = was u _ e (joined _ _ ActResult.Made refl)
  told-inside (SectionAct.Store plain handing) fair u e = was u _ e (said _ _ _)
  told-inside SectionAct.Leave fair u e = was u _ e (heard _ _)
  told-inside SectionAct.Wake fair u (inr (gone, is_it)) = was u _ is_it (heard _ _)
  told-inside SectionAct.Wake fair u (inl (e, d, token, due, is_it)) = was u _ is_it (heard _ _)

  told-by : (a : Act) (fair : Bool) (u : State) → Became a t fair c s u → WasTold u.calls
  told-by Act.Load fair u e = was u _ e (heard _ _)
  told-by (Act.Exchange from to) fair u e =
      was u _ e (or (word_at s c.lock == from) (with_word (with_call s t (hears c ActResult.Exchanged)) c.lock to)
      (loaded s t c) (heard s.calls ActResult.Exchanged) (heard s.calls (ActResult.Word (word_at s c.lock))))
  told-by (Act.Add by) fair u e = was u _ e (heard _ _)
  told-by (Act.FetchAnd keep) fair u e = was u _ e (said _ _ _)
  told-by Act.Spin fair u e = was u _ e (heard _ _)
  told-by (Act.Enter key) fair u e = was u _ e (heard _ _)
  told-by (Act.Section next) fair u b = told-inside next fair u b
  told-by Act.Sleep fair u b = let l = late_is s u t c c.core refl b in was u _ l.3 (late-told s.calls l.0 l.7)
  told-by (Act.Done answer) fair u e = was u _ e ends

  -- it saw that before, or tries and the word isn't 0 now
  abbrev pub Sees : Type 0
  Sees = (has_seen c.core ≡ true) ⊎ ((core_tries c.core ≡ true) × (word_at s c.lock ≢ 0))

  module _ (fair : Bool) (u : State) (seen : sees (call_at u t) ≡ true) where
    loads : (want : LockMode) (k : RwCore) → c.core ≡ Core.Rw k → k.phase ≡ RwPhase.TryLoads want → u ≡ loaded s t c
        → Sees
    loads want k core phase e =
        inr (
          ap core_tries core ∙ ap is_trying phase,
          seen-tries want 63 (word_at s c.lock)
              (sym is ∙ hears-here s.calls (hears c (ActResult.Word (word_at s c.lock)))
              (sym (ap (λ (z : State). sees (call_of z.calls t)) e) ∙ seen)),
        )
      where
        is : has_seen (core_next c.core (ActResult.Word (word_at s c.lock))) ≡ has_seen_in
            (tries want 63 (word_at s c.lock))
        is = ap (λ q. has_seen (core_next q (ActResult.Word (word_at s c.lock)))) core
            ∙ ap (λ p. has_seen_in (next_phase p (ActResult.Word (word_at s c.lock)))) phase

    admits : (want : LockMode) (n left to : ℕ) (k : RwCore) → c.core ≡ Core.Rw k
        → k.phase ≡ RwPhase.TryAdmits want n left → u ≡ exchanged s t c n to → Sees
    admits want n left to k core phase e = elim (cases_eq n 0) [
      | inl empty ↦ from empty
      | inr some ↦ inl (ap has_seen core ∙ ap has_seen_in phase ∙ ap not (ne_eqb n 0 some))
    ]
      where
        heard-won : u ≡ with_word (with_call s t (hears c ActResult.Exchanged)) c.lock to → Sees
        heard-won e =
            absurd (false≢true
            (sym (ap (λ q. has_seen (core_next q ActResult.Exchanged)) core
            ∙ ap (λ p. has_seen_in (next_phase p ActResult.Exchanged)) phase)
            ∙ hears-here s.calls (hears c ActResult.Exchanged)
            (sym (ap (λ (z : State). sees (call_of z.calls t)) e) ∙ seen)))

        by : n ≡ 0 → (b : Bool) → (word_at s c.lock == n) ≡ b → Sees
        by empty true is =
            heard-won (e ∙ ap
            (λ b. cond b (with_word (with_call s t (hears c ActResult.Exchanged)) c.lock to) (loaded s t c)) is)
        by empty false is =
            inr (
              ap core_tries core ∙ ap is_trying phase,
              λ none. absurd (eqb-false (word_at s c.lock) n is (none ∙ sym empty)),
            )

        from : n ≡ 0 → Sees
        from empty = by empty (word_at s c.lock == n) refl

-- Its own call has seen a word that isn't 0 after a step: it had seen one before, or has seen its lock's now.
pub own-sees : (s u : State) (t : ℕ) (fair : Bool) (x : HasActed t fair None s u) → sees (call_at u t) ≡ true
    → Sees s t x.call
own-sees s u t fair x seen = by-core x.call.core refl
  where
    told : Told x.call
    told = told-by s t x.call (core_act x.call.core) fair u x.became seen

    by-phase : (k : RwCore) → x.call.core ≡ Core.Rw k → (p : RwPhase) → k.phase ≡ p → Sees s t x.call
    by-phase k core (RwPhase.TryLoads want) phase =
        loads s t x.call fair u seen want k core phase
        (subst (λ a. Became a t fair x.call s u) (ap core_act core ∙ ap act_of phase) x.became)
    by-phase k core (RwPhase.TryAdmits want n left) phase =
        admits s t x.call fair u seen want n left ((n + share_of want) % 2 ^ 64) k core phase
        (subst (λ a. Became a t fair x.call s u) (ap core_act core ∙ ap act_of phase) x.became)
    by-phase k core p phase =
        absurd (false≢true
        (sym (ap (λ q. has_seen (core_next q told.told)) core ∙ blind k.phase told.told (ap looks_in phase))
        ∙ told.seen))

    by-core : (q : Core) → x.call.core ≡ q → Sees s t x.call
    by-core (Core.Mutex k) core =
        absurd (false≢true (sym (ap (λ q. has_seen (core_next q told.told)) core) ∙ told.seen))
    by-core (Core.Late p) core =
        absurd (false≢true (sym (ap (λ q. has_seen (core_next q told.told)) core ∙ late-unseen p told.told)
        ∙ told.seen))
    by-core (Core.LateRw p) core =
        absurd (false≢true (sym (ap (λ q. has_seen (core_next q told.told)) core ∙ tardy-unseen p told.told)
        ∙ told.seen))
    by-core (Core.Upgrade k) core =
        absurd (false≢true (sym (ap (λ q. has_seen (core_next q told.told)) core) ∙ told.seen))
    by-core (Core.Rw k) core = by-phase k core k.phase refl
