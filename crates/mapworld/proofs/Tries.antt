-- The call of a try never sleeps at its shard's lock.
use Rattle.std.proofs.Common.{◌≡◌, ◌≢◌, ℕ, ◌-◌, inl, inr, Bool, true, false, cond, nat_lt, ◌==◌, ◌&&◌, Option, Some}
use Rattle.std.proofs.Common.{None}
use Rattle.std.proofs.Common.{slice_set, refl, sym, ap, ◌∙◌, subst}
use Rattle.std.specs.Option.{option_map}
use Rattle.std.proofs.lemmas.Bool.{cases_eq, false≢true}
use Rattle.std.proofs.lemmas.Option.{none-some}
use Rattle.parking_lot_protocol.specs.declared.act.Act.{Act}
use Rattle.parking_lot_protocol.specs.declared.act.ActResult.{ActResult}
use Rattle.parking_lot_protocol.specs.declared.act.CoreAnswer.{CoreAnswer}
use Rattle.parking_lot_protocol.specs.declared.rw_core.RwCore.{RwCore}
use Rattle.parking_lot_protocol.specs.declared.rw_phase.LockMode.{LockMode}
use Rattle.parking_lot_protocol.specs.declared.rw_phase.RwPhase.{RwPhase}
use Rattle.parking_lot_protocol.specs.RwTable.{act_of, is_tried, next_phase, retries, tries}
use Rattle.parking_lot_machine_calls.specs.declared.calls.LockCall.{LockCall}
use Rattle.parking_lot_machine_calls.specs.declared.calls.LockKind.{LockKind}
use Rattle.parking_lot_machine_calls.specs.declared.open_call.Call.{Call}
use Rattle.parking_lot_machine_calls.specs.declared.seat.Core.{Core}
use Rattle.parking_lot_machine_calls.specs.Beginnings.{core_of}
use Rattle.parking_lot_machine_calls.specs.Calls.{is_timed}
use Rattle.parking_lot_machine_calls.specs.LateCalls.{sleeps_in_time}
use Rattle.parking_lot_machine_calls.specs.CallActs.{hears}
use Rattle.parking_lot_machine_calls.specs.Kinds.{kind_in}
use Rattle.parking_lot_machine_calls.specs.Stances.{Asleep, Stance, core_act, core_next, rw_stance, stance}
use Rattle.parking_lot_machine.specs.Machines.{Became, call_for, end_of, is_asleep, is_asleep_in, may_expire_in, sleeps}
use Rattle.parking_lot_machine.proofs.InTime.{awake_in_time}
use Rattle.parking_lot_machine.specs.RowActs.{exchanged, loaded, with_call, with_word}
use Rattle.parking_lot_machine.specs.Rows.{State, call_at, state, word_at}
use Rattle.mapworld_state.specs.declared.holds.Manner.{Manner}
use Rattle.mapworld_state.specs.declared.holds.Mode.{Mode}
use Rattle.mapworld_state.specs.declared.holds.Mode.TheVariants.{Shared, Exclusive}
use Rattle.mapworld_state.specs.Holds.{tries_so, wants_for}
use Rattle.mapworld_state.specs.Locks.Fits.{LocksFit}
use Rattle.mapworld_state.specs.Locks.Steps.{HasActed, LockBegins, LockExpires, LockMoves, LockStarts}
use Rattle.mapworld_state.specs.Locks.Views.{Shown}
use Rattle.mapworld_state.proofs.InvariantFacts.CausesFacts.Looking.{call_of, set-here}
use Rattle.mapworld_state.proofs.LocksFacts.Lawful.{fit-begins}
use Rattle.mapworld.specs.Atomic.{core_in}
use Rattle.mapworld.proofs.Cores.{KeepsCores, KeepsOthers, Wakes, nobody, one, others-begins, stepped-cores}

-- a try that waits for nobody, or is over
abbrev pub is_up_in : RwPhase → Bool
is_up_in (RwPhase.Trying want) = true
is_up_in (RwPhase.TryLoads want) = true
is_up_in (RwPhase.TryAdmits want word left) = true
is_up_in (RwPhase.Refuses want) = true
is_up_in (RwPhase.Ends outcome) = true
is_up_in other = false

abbrev pub is_up : Core → Bool
is_up (Core.Rw c) = is_up_in c.phase
is_up (Core.Mutex c) = false
is_up (Core.Late p) = false
is_up (Core.LateRw p) = false
is_up (Core.Upgrade c) = false

-- or it is none
abbrev pub stays_up : Option Core → Bool
stays_up None = true
stays_up (Some k) = is_up k

abbrev is_lying : Stance → Bool
is_lying (Asleep key token) = true
is_lying other = false

stance-up : (k : Core) → is_up k ≡ true → is_lying (stance k) ≡ false
stance-up (Core.Mutex c) h = absurd (false≢true h)
stance-up (Core.Late p) h = absurd (false≢true h)
stance-up (Core.LateRw p) h = absurd (false≢true h)
stance-up (Core.Upgrade c) h = absurd (false≢true h)
stance-up (Core.Rw c) h = by c.phase refl h
  where
    by : (p : RwPhase) → c.phase ≡ p → is_up_in p ≡ true → is_lying (stance (Core.Rw c)) ≡ false
    by (RwPhase.Trying want) e h = ap (λ q. is_lying (rw_stance q)) e
    by (RwPhase.TryLoads want) e h = ap (λ q. is_lying (rw_stance q)) e
    by (RwPhase.TryAdmits want word left) e h = ap (λ q. is_lying (rw_stance q)) e
    by (RwPhase.Refuses want) e h = ap (λ q. is_lying (rw_stance q)) e
    by (RwPhase.Ends outcome) e h = ap (λ q. is_lying (rw_stance q)) e
    by p e h = absurd cc

act-up : (k : Core) → is_up k ≡ true → sleeps (core_act k) ≡ false
act-up (Core.Mutex c) h = absurd (false≢true h)
act-up (Core.Late p) h = absurd (false≢true h)
act-up (Core.LateRw p) h = absurd (false≢true h)
act-up (Core.Upgrade c) h = absurd (false≢true h)
act-up (Core.Rw c) h = by c.phase refl h
  where
    by : (p : RwPhase) → c.phase ≡ p → is_up_in p ≡ true → sleeps (core_act (Core.Rw c)) ≡ false
    by (RwPhase.Trying want) e h = ap (λ q. sleeps (act_of q)) e
    by (RwPhase.TryLoads want) e h = ap (λ q. sleeps (act_of q)) e
    by (RwPhase.TryAdmits want word left) e h = ap (λ q. sleeps (act_of q)) e
    by (RwPhase.Refuses want) e h = ap (λ q. sleeps (act_of q)) e
    by (RwPhase.Ends outcome) e h = ap (λ q. sleeps (act_of q)) e
    by p e h = absurd cc

-- so it isn't asleep
pub up-awake : (s : State) (t : ℕ) → stays_up (option_map (λ c. c.core) (call_at s t)) ≡ true → is_asleep s t ≡ false
up-awake s t up = by (call_at s t) refl up
  where
    by : (o : Option Call) → call_at s t ≡ o → stays_up (option_map (λ c. c.core) o) ≡ true → is_asleep s t ≡ false
    by None e up = ap is_asleep_in e
    by (Some c) e up = ap is_asleep_in e ∙ awake_in_time c.core (act-up c.core up)

-- OTHERS

-- in an act of another thread at a lock it stays so
pub record UpStays (t : ℕ) (old new : Shown) : Type 0 where
  pub up : (v : ℕ) → v ≢ t → stays_up (core_in old v) ≡ true → stays_up (core_in new v) ≡ true

module _ (t : ℕ) where
  pub up-others : (old new : Shown) → KeepsOthers t old new → UpStays t old new
  up-others old new h = record { up = λ v ne on. ap stays_up (h.cores v ne) ∙ on }

  pub up-then : (old mid new : Shown) → UpStays t old mid → UpStays t mid new → UpStays t old new
  up-then old mid new a b = record { up = λ v ne on. b.up v ne (a.up v ne on) }

  -- who is woken slept, so it was no try
  pub up-moves : (fair : Bool) (old new : Shown) → LocksFit old → LockMoves t fair old new → UpStays t old new
  up-moves fair old new fit h = record { up = up }
    where
      k : KeepsCores (state old.rows) t (state new.rows)
      k = stepped-cores (state old.rows) (state new.rows) t fair None h.steps

      asleep : (v : ℕ) → v ≢ t → v ≡ k.woken → Wakes (state old.rows) t k.woken → stays_up (core_in old v) ≡ true
          → stays_up (core_in new v) ≡ true
      asleep v ne is (nobody own) on = absurd (ne (is ∙ own))
      asleep v ne is (one e d token due who) on =
          let taken = fit.fits.lots.woken _ e due.first in
          let there : core_in old v ≡ Some taken.call.core = ap (λ n. core_in old n) (is ∙ sym who)
          ∙ ap (option_map (λ c. c.core)) taken.here in
          absurd (false≢true (sym (stance-up taken.call.core (sym (ap stays_up there) ∙ on))
          ∙ ap is_lying taken.asleep))

      up : (v : ℕ) → v ≢ t → stays_up (core_in old v) ≡ true → stays_up (core_in new v) ≡ true
      up v ne on = elim (cases_eq v k.woken) [
        | inl is ↦ asleep v ne is k.who on
        | inr apart ↦ ap stays_up (k.others v ne apart) ∙ on
      ]

  pub up-starts : (shard : ℕ) (call : LockCall) (fair : Bool) (old new : Shown) → LocksFit old
      → LockStarts t shard call fair old new → UpStays t old new
  up-starts shard call fair old new fit h =
      up-then old h.mid new (up-others old h.mid (others-begins t shard call old h.mid h.begins))
      (up-moves fair h.mid new (fit-begins t shard call old h.mid fit h.begins) h.moves)

  -- ITS OWN

  -- a deadline comes only in a call that sleeps
  pub expires-up : (old new : Shown) → LockExpires t old new → stays_up (core_in old t) ≡ true
      → stays_up (core_in new t) ≡ true
  expires-up old new h up =
      let on : is_up h.call.core ≡ true = sym (ap (λ o. stays_up (option_map (λ c. c.core) o)) h.here) ∙ up in
      absurd (false≢true (sym (awake_in_time h.call.core (act-up h.call.core on))
      ∙ both-true (is_timed h.call.asked) (sleeps_in_time h.call.core) (sym (ap may_expire_in h.here) ∙ h.may)))
    where
      both-true : (a b : Bool) → a && b ≡ true → b ≡ true
      both-true true b e = e
      both-true false b e = absurd (false≢true e)

  -- a try begins so
  begun-up : (manner : Manner) → tries_so manner ≡ true → (k : LockKind) (mode : Mode)
      → is_up (core_next (core_of k (wants_for manner mode)) ActResult.Start) ≡ true
  begun-up Manner.Tries is k Shared = refl
  begun-up Manner.Tries is k Exclusive = refl
  begun-up Manner.Waits is k mode = absurd (false≢true is)
  begun-up Manner.UntilDeadline is k mode = absurd (false≢true is)

  pub begins-up : (shard : ℕ) (manner : Manner) (mode : Mode) (old new : Shown) → tries_so manner ≡ true
      → LockBegins t shard (wants_for manner mode) old new → stays_up (core_in new t) ≡ true
  begins-up shard manner mode old new is h =
      ap (λ (u : State). stays_up (option_map (λ c. c.core) (call_at u t))) h.became
      ∙ elim (set-here (state old.rows).calls t (Some
      (hears (call_for (state old.rows) t shard (wants_for manner mode)) ActResult.Start))) [
        | inl here ↦ ap (λ o. stays_up (option_map (λ c. c.core) o)) here
            ∙ begun-up manner is (kind_in (state old.rows).kinds shard) mode
        | inr none ↦ ap (λ o. stays_up (option_map (λ c. c.core) o)) none
      ]

  either-up : (b : Bool) (p q : RwPhase) → is_up_in p ≡ true → is_up_in q ≡ true → is_up_in (cond b p q) ≡ true
  either-up true p q h k = h
  either-up false p q h k = k

  tries-up : (want : LockMode) (left word : ℕ) → is_up_in (tries want left word) ≡ true
  tries-up want left word = either-up (is_tried want word) (RwPhase.TryAdmits want word left) (RwPhase.Refuses want)
      refl refl

  retries-up : (want : LockMode) (left word : ℕ) → is_up_in (retries want left word) ≡ true
  retries-up want left word = either-up (nat_lt 0 left) (tries want (left - 1) word) (RwPhase.Refuses want)
      (tries-up want (left - 1) word) refl

  module _ (s u : State) (c : Call) where
    hears-up : (told : ActResult) → is_up (core_next c.core told) ≡ true
        → stays_up (option_map (λ d. d.core) (call_of (slice_set s.calls t (Some (hears c told))) t)) ≡ true
    hears-up told up = elim (set-here s.calls t (Some (hears c told))) [
      | inl here ↦ ap (λ o. stays_up (option_map (λ d. d.core) o)) here ∙ up
      | inr none ↦ ap (λ o. stays_up (option_map (λ d. d.core) o)) none
    ]

    loads-up : (want : LockMode) (k : RwCore) → c.core ≡ Core.Rw k → k.phase ≡ RwPhase.TryLoads want
        → u ≡ loaded s t c → stays_up (option_map (λ d. d.core) (call_at u t)) ≡ true
    loads-up want k core phase e =
        ap (λ (z : State). stays_up (option_map (λ d. d.core) (call_at z t))) e
        ∙ hears-up (ActResult.Word (word_at s c.lock))
        (ap (λ q. is_up (core_next q (ActResult.Word (word_at s c.lock)))) core
        ∙ (ap (λ p. is_up_in (next_phase p (ActResult.Word (word_at s c.lock)))) phase
        ∙ tries-up want 63 (word_at s c.lock)))

    admits-up : (want : LockMode) (n left to : ℕ) (k : RwCore) → c.core ≡ Core.Rw k
        → k.phase ≡ RwPhase.TryAdmits want n left → u ≡ exchanged s t c n to
        → stays_up (option_map (λ d. d.core) (call_at u t)) ≡ true
    admits-up want n left to k core phase e = by (word_at s c.lock == n) refl
      where
        by : (b : Bool) → (word_at s c.lock == n) ≡ b → stays_up (option_map (λ d. d.core) (call_at u t)) ≡ true
        by true is =
            ap (λ (z : State). stays_up (option_map (λ d. d.core) (call_at z t)))
            (e ∙ ap (λ b. cond b (with_word (with_call s t (hears c ActResult.Exchanged)) c.lock to)
            (loaded s t c)) is)
            ∙ hears-up ActResult.Exchanged (ap (λ q. is_up (core_next q ActResult.Exchanged)) core
            ∙ ap (λ p. is_up_in (next_phase p ActResult.Exchanged)) phase)
        by false is =
            ap (λ (z : State). stays_up (option_map (λ d. d.core) (call_at z t)))
            (e ∙ ap (λ b. cond b (with_word (with_call s t (hears c ActResult.Exchanged)) c.lock to)
            (loaded s t c)) is)
            ∙ hears-up (ActResult.Word (word_at s c.lock))
            (ap (λ q. is_up (core_next q (ActResult.Word (word_at s c.lock)))) core
            ∙ (ap (λ p. is_up_in (next_phase p (ActResult.Word (word_at s c.lock)))) phase
            ∙ retries-up want left (word_at s c.lock)))

  -- and goes on so
  pub moves-up : (fair : Bool) (old new : Shown) → LockMoves t fair old new → stays_up (core_in old t) ≡ true
      → stays_up (core_in new t) ≡ true
  moves-up fair old new h up = by-core x.call.core refl
      (sym (ap (λ o. stays_up (option_map (λ c. c.core) o)) x.here) ∙ up)
    where
      x : HasActed t fair None (state old.rows) (state new.rows)
      x = h.steps

      over : {X : Type 0} (answer : CoreAnswer) (k : RwCore) → x.call.core ≡ Core.Rw k
          → act_of k.phase ≡ Act.Done answer → X
      over answer k core done = absurd (none-some answer (x.answers ∙ ap end_of (ap core_act core ∙ done)))

      by-phase : (k : RwCore) → x.call.core ≡ Core.Rw k → (p : RwPhase) → k.phase ≡ p → is_up_in p ≡ true
          → stays_up (core_in new t) ≡ true
      by-phase k core (RwPhase.Trying want) e up = over _ k core (ap act_of e)
      by-phase k core (RwPhase.Refuses want) e up = over _ k core (ap act_of e)
      by-phase k core (RwPhase.Ends outcome) e up = over _ k core (ap act_of e)
      by-phase k core (RwPhase.TryLoads want) e up = loads-up (state old.rows) (state new.rows) x.call want k core e
          (subst (λ a. Became a t fair x.call (state old.rows) (state new.rows)) (ap core_act core ∙ ap act_of e)
          x.became)
      by-phase k core (RwPhase.TryAdmits want n left) e up =
          admits-up (state old.rows) (state new.rows) x.call want n left _ k core e
          (subst (λ a. Became a t fair x.call (state old.rows) (state new.rows)) (ap core_act core ∙ ap act_of e)
          x.became)
      by-phase k core p e up = absurd cc

      by-core : (q : Core) → x.call.core ≡ q → is_up q ≡ true → stays_up (core_in new t) ≡ true
      by-core (Core.Rw k) core up = by-phase k core k.phase refl up
      by-core (Core.Mutex k) core up = absurd (false≢true up)
      by-core (Core.Late k) core up = absurd (false≢true up)
      by-core (Core.LateRw k) core up = absurd (false≢true up)
      by-core (Core.Upgrade k) core up = absurd (false≢true up)
