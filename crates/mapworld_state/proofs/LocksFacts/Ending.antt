-- Where a call is answered its thread holds the shard as it did in the call.
use Rattle.std.proofs.Common.{◌≡◌, ◌≢◌, ℕ, zero, suc, ◌+◌, ◌*◌, ◌<◌, ◌≤◌, get_or, inl, inr, true, cond, ◌==◌, length}
use Rattle.std.proofs.Common.{Option}
use Rattle.std.proofs.Common.{Some, None, slice_get, slice_set, refl, sym, ap, ◌∙◌, subst, arith}
use Rattle.std.specs.List.{All}
use Rattle.std.specs.Option.{option_and_then, option_map, option_map_or}
use Rattle.std.proofs.lemmas.Bool.{cases_eq, eq-eqb, cond-true, lt-ltb}
use Rattle.std.proofs.lemmas.List.{length-set}
use Rattle.std.proofs.lemmas.Option.{slice_get-map, slice_get_within, slice_get-get_or}
use Rattle.parking_lot_rules.specs.Owners.{standing}
use Rattle.parking_lot_rules.specs.Roles.{Idle}
use Rattle.parking_lot_rules.proofs.Indexed.{get-set_same}
use Rattle.parking_lot_machine_calls.specs.Kinds.{AsMutex, manner_of, recursive_in}
use Rattle.parking_lot_machine_calls.specs.declared.calls.LockKind.TheVariants as kind
use Rattle.parking_lot_machine_calls.specs.declared.open_call.Call.{Call}
use Rattle.parking_lot_machine_calls.specs.declared.seat.Core.{Core}
use Rattle.parking_lot_machine_calls.specs.declared.seat.Hold.{Hold}
use Rattle.parking_lot_machine_calls.specs.CallViews.{rw_mode}
use Rattle.parking_lot_machine.specs.RowFits.{FitsTogether, IsPrepared}
use Rattle.parking_lot_machine_calls.specs.CallKinds.{IsOfKind}
use Rattle.parking_lot_machine.specs.RowActs.{answered}
use Rattle.parking_lot_machine_calls.specs.CallActs.{hold_after}
use Rattle.parking_lot_machine.specs.Rows.{State, call_at, hold_at, rw_lock_at, rw_role_at, rw_role_in, taken_by}
use Rattle.parking_lot_machine_calls.specs.CallRoles.{owned_of, rw_core_role, rw_spot}
use Rattle.parking_lot_machine_calls.specs.Stances.{core_act}
use Rattle.parking_lot_machine_calls.specs.CallViews.{hold_mode}
use Rattle.mapworld_state.specs.Locks.Views.{held_as, held_at}
use Rattle.mapworld_state.specs.Locks.Fits.{IsPlain, is_plain}
use Rattle.mapworld_state.proofs.LocksFacts.Calls.{slot}
use Rattle.parking_lot_rules.proofs.Slots.{set_here}
use Rattle.mapworld_state.proofs.LocksFacts.Handing.{goes_by, held_is, no_mutex, within_kinds}
use Rattle.mapworld_state.proofs.LocksFacts.Lists.{one_of_all}
use Rattle.mapworld_state.proofs.LocksFacts.Owning.{mode_standing}
use Rattle.mapworld_state.proofs.LocksFacts.Giving.{late_within, yields_within}
use Rattle.mapworld_state.proofs.LocksFacts.Within.{WithinAt, within}
use Rattle.parking_lot_machine.proofs.CallLawsFacts.Ending.{core_done}
use Rattle.parking_lot_machine.proofs.CallLawsFacts.Standing.{begins_so, ends_so}
use Rattle.parking_lot_machine.specs.CallLaws.Answers.{EndsAt}
use Rattle.parking_lot_machine.specs.CallLaws.Stages.{Over, core_stage, stage_of}
use Rattle.parking_lot_machine_calls.specs.Calls.{is_timed}
use Rattle.parking_lot_protocol.specs.declared.act.CoreAnswer.{CoreAnswer}
use Rattle.parking_lot_machine.specs.Machines.{end_of}
use Rattle.std.proofs.Common.{Bool, false}

-- a thread holds a shard as its role says
pub held_by_role : (s : State) (i t : ℕ) → All (λ k. k ≡ kind.Rw) s.kinds → t < length s.calls
    → held_at s i t ≡ held_as (rw_mode (rw_role_at s i t))
held_by_role s i t rws low =
    held_is s rws i t
    ∙ ap (λ o. held_as (option_and_then mode_standing o))
    (slice_get-map standing (rw_lock_at s i).roles t
    ∙ ap (option_map standing) (one_of_all (rw_role_at s i) (length s.calls) t low))

-- of one that is in no call its hold tells it
pub idle_mode : (h : Hold) → rw_mode (record { owns = owned_of h; does = Idle }) ≡ hold_mode (Some kind.Rw) h
idle_mode (Hold.Shares zero) = refl
idle_mode (Hold.Shares (suc n)) = refl
idle_mode Hold.Excludes = refl
idle_mode Hold.Upgrades = refl

-- the role of a thread at the lock of its call
pub call_role : (s : State) (t : ℕ) (c : Call) → call_at s t ≡ Some c → rw_role_at s c.lock t ≡ rw_core_role c.others
    c.spot (taken_by s.wakes t) c.core
call_role s t c here = ap (rw_role_in c.lock (taken_by s.wakes t) (hold_at s t c.lock)) here
    ∙ cond-true (c.lock == c.lock) (rw_core_role c.others c.spot (taken_by s.wakes t) c.core)
    (record { owns = owned_of (hold_at s t c.lock); does = Idle }) (eq-eqb c.lock c.lock refl)

-- how it holds that lock
pub call_holds : (s : State) (t : ℕ) (c : Call) → IsPlain s → call_at s t ≡ Some c
    → held_at s c.lock t ≡ held_as (rw_mode (rw_core_role 0 c.spot (taken_by s.wakes t) c.core))
call_holds s t c plain here =
    held_by_role s c.lock t plain.kinds (slice_get_within s.calls t (Some c) (slot s.calls t c here))
    ∙ ap (λ r. held_as (rw_mode r)) (call_role s t c here)
    ∙ ap (λ n. held_as (rw_mode (rw_core_role n c.spot (taken_by s.wakes t) c.core))) (plain.alone t c here)

pub not_mutex : (s : State) (i : ℕ) → All (λ k. k ≡ kind.Rw) s.kinds → manner_of (slice_get s.kinds i) ≢ Some AsMutex
not_mutex s i rws e = no_mutex (goes_by s i AsMutex rws e)

-- nothing beyond what the call is about, and at its end as that says
pub core_within : (s : State) (t : ℕ) (c : Call) → FitsTogether s → IsPlain s → call_at s t ≡ Some c
    → WithinAt (core_stage 0 c.core) (held_at s c.lock t)
core_within s t c h plain here =
    subst (WithinAt (core_stage 0 c.core)) (sym (call_holds s t c plain here))
    (by (is_timed c.asked) c.core (plain.cores t c here) (h.rules.kinds t c here)
    (subst (λ n. IsPrepared (recursive_in s.kinds c.lock) n c.core) (plain.alone t c here) (h.rules.prepared t c here)))
  where
    by : (timed : Bool) (k : Core) → is_plain timed k ≡ true → IsOfKind (slice_get s.kinds c.lock) k
        → IsPrepared (recursive_in s.kinds c.lock) 0 k
        → WithinAt (core_stage 0 k) (held_as (rw_mode (rw_core_role 0 c.spot (taken_by s.wakes t) k)))
    by timed (Core.Rw x) so of_kind ready = within (rw_spot c.spot) (taken_by s.wakes t) x.phase ready.0
        (λ e. absurd (subst (λ p. IsPrepared (recursive_in s.kinds c.lock) 0 (Core.Rw (record { phase = p }))) e
        ready).1)
    by timed (Core.Mutex x) so of_kind ready = absurd (not_mutex s c.lock plain.kinds of_kind)
    by timed (Core.Late x) so of_kind ready = absurd (not_mutex s c.lock plain.kinds of_kind)
    by true (Core.LateRw p) so of_kind ready = late_within (recursive_in s.kinds c.lock) (rw_spot c.spot)
        (taken_by s.wakes t) p so ready
    by true (Core.Upgrade x) so of_kind ready = yields_within (rw_spot c.spot) (taken_by s.wakes t) x.phase so ready.1
    by false k so of_kind ready = absurd cc

-- One that is to be answered is over, and owns then what its end says.
pub core_over : (s : State) (t : ℕ) (c : Call) (answer : CoreAnswer) → FitsTogether s → IsPlain s
    → call_at s t ≡ Some c → Some answer ≡ end_of (core_act c.core)
    → core_stage 0 c.core ≡ Over answer (hold_after 0 c.core)
core_over s t c answer h plain here ends =
    core_done (recursive_in s.kinds c.lock) 0 c.core answer
    (subst (λ n. IsPrepared (recursive_in s.kinds c.lock) n c.core) (plain.alone t c here) (h.rules.prepared t c here))
    (h.rules.begun t c here).begun ends

-- of what it was asked
pub core_ends : (s : State) (t : ℕ) (c : Call) (answer : CoreAnswer) → FitsTogether s → IsPlain s
    → call_at s t ≡ Some c → Some answer ≡ end_of (core_act c.core)
    → EndsAt 0 (stage_of c.asked) (is_timed c.asked) (Over answer (hold_after 0 c.core))
core_ends s t c answer h plain here ends =
    ends_so 0 (stage_of c.asked) (core_stage 0 c.core) (is_timed c.asked) answer (hold_after 0 c.core)
    (begins_so c.asked) (plain.stands t c here) (core_over s t c answer h plain here ends)

done_mode : (s : State) (t : ℕ) (c : Call) (answer : CoreAnswer) → FitsTogether s → IsPlain s → call_at s t ≡ Some c
    → Some answer ≡ end_of (core_act c.core)
    → held_at s c.lock t ≡ held_as (hold_mode (Some kind.Rw) (hold_after c.others c.core))
done_mode s t c answer h plain here ends =
    subst (λ a. WithinAt a (held_at s c.lock t)) (core_over s t c answer h plain here ends)
    (core_within s t c h plain here)
    ∙ ap (λ n. held_as (hold_mode (Some kind.Rw) (hold_after n c.core))) (sym (plain.alone t c here))

rows_apart : (locks t threads : ℕ) → t < threads → t * locks + locks ≤ threads * locks
rows_apart locks t zero b = absurd (omega (arith, b))
rows_apart locks t (suc n) b = elim (cases_eq t n) [
  | inl e ↦ subst (λ (k : ℕ). k * locks + locks ≤ suc n * locks) (sym e) (omega arith)
  | inr ne ↦ omega (arith, rows_apart locks t n (omega (arith, b, ne)))
]

-- An answer changes nothing of what its thread holds.
pub answered_holds : (s : State) (t : ℕ) (c : Call) (answer : CoreAnswer) → FitsTogether s → IsPlain s
    → call_at s t ≡ Some c → Some answer ≡ end_of (core_act c.core)
    → held_at (answered s t c) c.lock t ≡ held_at s c.lock t
answered_holds s t c answer h plain here ends =
    held_by_role (answered s t c) c.lock t plain.kinds (omega (arith, low, length-set s.calls t none))
    ∙ ap held_as (ap rw_mode role ∙ idle_mode now)
    ∙ sym (done_mode s t c answer h plain here ends)
  where
    none : Option Call
    none = None

    now : Hold
    now = hold_after c.others c.core

    low : t < length s.calls
    low = slice_get_within s.calls t (Some c) (slot s.calls t c here)

    lock_low : c.lock < length s.kinds
    lock_low = of (c.core) (h.rules.kinds t c here)
      where
        of : (k : Core) → IsOfKind (slice_get s.kinds c.lock) k → c.lock < length s.kinds
        of (Core.Rw x) e = within_kinds s c.lock _ e
        of (Core.Mutex x) e = within_kinds s c.lock _ e
        of (Core.Late x) e = within_kinds s c.lock _ e
        of (Core.LateRw x) e = within_kinds s c.lock _ e
        of (Core.Upgrade x) e = within_kinds s c.lock _ e

    cell_low : t * length s.kinds + c.lock < length s.holds
    cell_low = omega (arith, rows_apart (length s.kinds) t (length s.calls) low, lock_low, h.rules.size_holds)

    hold_now : hold_at (answered s t c) t c.lock ≡ now
    hold_now =
        ap (λ b. cond b (option_map_or (λ x. x)
        (slice_get (slice_set s.holds (t * length s.kinds + c.lock) now) (t * length s.kinds + c.lock))
        (Hold.Shares 0)) (Hold.Shares 0)) (lt-ltb c.lock (length s.kinds) lock_low)
        ∙ ap (λ o. option_map_or (λ x. x) o (Hold.Shares 0))
        (get-set_same s.holds (t * length s.kinds + c.lock)
        (get_or s.holds (t * length s.kinds + c.lock) (Hold.Shares 0)) now
        (slice_get-get_or s.holds (t * length s.kinds + c.lock) (Hold.Shares 0) cell_low))

    role : rw_role_at (answered s t c) c.lock t ≡ record { owns = owned_of now; does = Idle }
    role = ap (rw_role_in c.lock (taken_by s.wakes t) (hold_at (answered s t c) t c.lock))
        (set_here s.calls t c none here) ∙ ap (λ x. record { owns = owned_of x; does = Idle }) hold_now
