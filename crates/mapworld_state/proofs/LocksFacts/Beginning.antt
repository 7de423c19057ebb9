-- A call that may be asked for may begin, and its beginning changes nobody's hold.
use Rattle.std.proofs.Common.{◌≡◌, ◌≢◌, ℕ, zero, suc, ◌<◌, ◌+◌, ◌-◌, ◌*◌, inl, inr, Bool, true, false, cond, ◌==◌}
use Rattle.std.proofs.Common.{nat_lt, List, length, Option, Some, None, is_none, get_or, slice_get, slice_set, refl}
use Rattle.std.proofs.Common.{sym, ap, ◌∙◌, subst, arith}
use Rattle.std.specs.List.{All}
use Rattle.std.specs.Option.{option_map, option_map_or, unwrap_or}
use Rattle.std.proofs.lemmas.Bool.{cases_Bool, cases_eq, cases_lt, false≢true, and_from, eqb-true, cond-true}
use Rattle.std.proofs.lemmas.Bool.{cond-false, lt-ltb}
use Rattle.std.proofs.lemmas.List.{length-set}
use Rattle.std.proofs.lemmas.Option.{none-some, same_Some, slice_get-get_or}
use Rattle.lock_api_desk.specs.declared.mode.Mode.{Mode}
use Rattle.lock_api_desk.specs.declared.mode.Mode.TheVariants as held
use Rattle.parking_lot_protocol.specs.declared.act.ActResult.{ActResult}
use Rattle.parking_lot_rules.specs.Owners.{Reading}
use Rattle.parking_lot_rules.specs.Roles.{Idle}
use Rattle.parking_lot_machine_calls.specs.Kinds.{AsRw, is_manner, kind_in}
use Rattle.parking_lot_machine_calls.specs.declared.calls.LockCall.{LockCall}
use Rattle.parking_lot_machine_calls.specs.declared.calls.LockKind.{LockKind}
use Rattle.parking_lot_machine_calls.specs.declared.calls.LockKind.TheVariants as kind
use Rattle.parking_lot_machine_calls.specs.declared.open_call.Call.{Call}
use Rattle.parking_lot_machine_calls.specs.declared.seat.Hold.{Hold}
use Rattle.parking_lot_machine_calls.specs.declared.seat.QueuePosition.{QueuePosition}
use Rattle.parking_lot_machine_calls.specs.Beginnings.{core_of, holds as shares_of, holds_beside, is_allowed}
use Rattle.parking_lot_machine_calls.specs.Beginnings.{owns_nothing}
use Rattle.parking_lot_machine_calls.specs.Calls.{is_timed, manner_for, takes}
use Rattle.parking_lot_machine_calls.specs.CallViews.{mode_of, rw_mode}
use Rattle.parking_lot_machine.specs.Machines.{IsBegun, call_for, may_begin}
use Rattle.parking_lot_machine_calls.specs.CallActs.{hears}
use Rattle.parking_lot_machine.specs.RowFits.{FitsTogether}
use Rattle.parking_lot_machine.specs.Rows.{Rows, State, call_at, hold_at, rw_role_at, rw_role_in, state, taken_by}
use Rattle.parking_lot_machine_calls.specs.CallRoles.{owned_of, rw_core_role}
use Rattle.parking_lot_machine_calls.specs.Stances.{core_next}
use Rattle.parking_lot_machine_calls.specs.CallViews.{hold_mode}
use Rattle.parking_lot_machine.specs.CallLaws.Answers.{MayStand}
use Rattle.parking_lot_machine.specs.CallLaws.Stages.{core_stage, stage_of}
use Rattle.parking_lot_machine.proofs.CallLawsFacts.Heard.{begins_there}
use Rattle.mapworld_state.specs.Locks.Fits.{IsPlain, LocksFit, is_single, is_plain}
use Rattle.mapworld_state.specs.Locks.Seats.{seat_of}
use Rattle.mapworld_state.specs.Locks.Stands.{needs, stand_of, is_of_shards}
use Rattle.mapworld_state.specs.Locks.Steps.{LockBegins, MayAsk}
use Rattle.mapworld_state.specs.Locks.Views.{Shown, held_as, held_at}
use Rattle.mapworld_state.proofs.LocksFacts.Calls.{call_of}
use Rattle.parking_lot_rules.proofs.Slots.{set_elsewhere}
use Rattle.mapworld_state.proofs.LocksFacts.Ending.{held_by_role, idle_mode}
use Rattle.mapworld_state.proofs.LocksFacts.Lists.{all_at}
use Rattle.mapworld_state.proofs.LocksFacts.Standing.{set_low}
use Rattle.mapworld_state.proofs.LocksFacts.Together.{holders_are_threads}

pub not_some : {X : Type 0} (o : Option X) → ((x : X) → o ≡ Some x → ⊥) → o ≡ None
not_some None h = refl
not_some (Some x) h = absurd (h x refl)

-- a thread in the same role holds as before
pub held_so : (s u : State) (i v : ℕ) → All (λ k. k ≡ kind.Rw) s.kinds → All (λ k. k ≡ kind.Rw) u.kinds
    → length u.calls ≡ length s.calls → held_as (rw_mode (rw_role_at u i v)) ≡ held_as (rw_mode (rw_role_at s i v))
    → held_at u i v ≡ held_at s i v
held_so s u i v rws next count same = elim (cases_lt v (length s.calls)) [
  | inl low ↦ held_by_role u i v next (omega (arith, low, count)) ∙ same ∙ sym (held_by_role s i v rws low)
  | inr past ↦ not_some (held_at u i v) (λ m e. absurd (omega (arith, past, count, holders_are_threads u i next v m e)))
      ∙ sym (not_some (held_at s i v) (λ m e. absurd (omega (arith, past, holders_are_threads s i rws v m e))))
]

-- of a thread in no call its hold tells it
pub held_rest : (s : State) (i t : ℕ) → All (λ k. k ≡ kind.Rw) s.kinds → t < length s.calls → call_at s t ≡ None
    → held_at s i t ≡ held_as (hold_mode (Some kind.Rw) (hold_at s t i))
held_rest s i t rws low free = held_by_role s i t rws low
    ∙ ap (λ o. held_as (rw_mode (rw_role_in i (taken_by s.wakes t) (hold_at s t i) o))) free
    ∙ ap held_as (idle_mode (hold_at s t i))

pub single_hold : (s : State) (t i : ℕ) → All (λ h. is_single h ≡ true) s.holds → is_single (hold_at s t i) ≡ true
single_hold s t i single = by (nat_lt i (length s.kinds))
  where
    at : (o : Option Hold) → slice_get s.holds (t * length s.kinds + i) ≡ o
        → is_single (option_map_or (λ h. h) o (Hold.Shares 0)) ≡ true
    at None e = refl
    at (Some h) e = all_at (λ h. is_single h ≡ true) s.holds (t * length s.kinds + i) h single e

    by : (b : Bool) → is_single
        (cond b (option_map_or (λ h. h) (slice_get s.holds (t * length s.kinds + i)) (Hold.Shares 0)) (Hold.Shares 0))
        ≡ true
    by true = at (slice_get s.holds (t * length s.kinds + i)) refl
    by false = refl

single_less : (h : Hold) → is_single h ≡ true → shares_of h - 1 ≡ 0
single_less (Hold.Shares zero) is = refl
single_less (Hold.Shares (suc zero)) is = refl
single_less (Hold.Shares (suc (suc n))) is = absurd (false≢true is)
single_less Hold.Excludes is = refl
single_less Hold.Upgrades is = absurd (false≢true is)

none_held : (h : Hold) → owns_nothing h ≡ true → shares_of h ≡ 0
none_held (Hold.Shares zero) may = refl
none_held (Hold.Shares (suc n)) may = absurd (false≢true may)
none_held Hold.Excludes may = refl
none_held Hold.Upgrades may = absurd (false≢true may)

none_beside : (call : LockCall) (h : Hold) → is_allowed kind.Rw h call ≡ true → is_single h ≡ true
    → holds_beside call h ≡ 0
none_beside LockCall.Read h may is = none_held h may
none_beside LockCall.TryRead h may is = none_held h may
none_beside LockCall.ReadUntil h may is = none_held h may
none_beside call h may is = single_less h is

-- A MODE IS NOT ANOTHER

abbrev pub mode_number : Option Mode → ℕ
mode_number None = 0
mode_number (Some held.Shared) = 1
mode_number (Some held.Upgradable) = 2
mode_number (Some held.Exclusive) = 3

pub differ : (a b : Option Mode) → mode_number a ≢ mode_number b → a ≢ b
differ a b ne e = ne (ap mode_number e)

-- one that holds as the call needs may make it
allowed : (h : Hold) (call : LockCall) → is_of_shards call ≡ true → held_as (hold_mode (Some kind.Rw) h) ≡ needs call
    → is_allowed kind.Rw h call ≡ true
allowed h LockCall.Lock k e = absurd (false≢true k)
allowed h LockCall.TryLock k e = absurd (false≢true k)
allowed h LockCall.LockUntil k e = absurd (false≢true k)
allowed h LockCall.Unlock k e = absurd (false≢true k)
allowed (Hold.Shares zero) LockCall.Read k e = refl
allowed (Hold.Shares (suc n)) LockCall.Read k e = absurd (differ _ _ (λ n. omega (arith, n)) e)
allowed Hold.Upgrades LockCall.Read k e = absurd (differ _ _ (λ n. omega (arith, n)) e)
allowed Hold.Excludes LockCall.Read k e = absurd (differ _ _ (λ n. omega (arith, n)) e)
allowed (Hold.Shares zero) LockCall.TryRead k e = refl
allowed (Hold.Shares (suc n)) LockCall.TryRead k e = absurd (differ _ _ (λ n. omega (arith, n)) e)
allowed Hold.Upgrades LockCall.TryRead k e = absurd (differ _ _ (λ n. omega (arith, n)) e)
allowed Hold.Excludes LockCall.TryRead k e = absurd (differ _ _ (λ n. omega (arith, n)) e)
allowed (Hold.Shares zero) LockCall.UnlockRead k e = absurd (differ _ _ (λ n. omega (arith, n)) e)
allowed (Hold.Shares (suc n)) LockCall.UnlockRead k e = refl
allowed Hold.Upgrades LockCall.UnlockRead k e = absurd (differ _ _ (λ n. omega (arith, n)) e)
allowed Hold.Excludes LockCall.UnlockRead k e = absurd (differ _ _ (λ n. omega (arith, n)) e)
allowed (Hold.Shares zero) LockCall.Write k e = refl
allowed (Hold.Shares (suc n)) LockCall.Write k e = absurd (differ _ _ (λ n. omega (arith, n)) e)
allowed Hold.Upgrades LockCall.Write k e = absurd (differ _ _ (λ n. omega (arith, n)) e)
allowed Hold.Excludes LockCall.Write k e = absurd (differ _ _ (λ n. omega (arith, n)) e)
allowed (Hold.Shares zero) LockCall.TryWrite k e = refl
allowed (Hold.Shares (suc n)) LockCall.TryWrite k e = absurd (differ _ _ (λ n. omega (arith, n)) e)
allowed Hold.Upgrades LockCall.TryWrite k e = absurd (differ _ _ (λ n. omega (arith, n)) e)
allowed Hold.Excludes LockCall.TryWrite k e = absurd (differ _ _ (λ n. omega (arith, n)) e)
allowed (Hold.Shares zero) LockCall.UnlockWrite k e = absurd (differ _ _ (λ n. omega (arith, n)) e)
allowed (Hold.Shares (suc n)) LockCall.UnlockWrite k e = absurd (differ _ _ (λ n. omega (arith, n)) e)
allowed Hold.Upgrades LockCall.UnlockWrite k e = absurd (differ _ _ (λ n. omega (arith, n)) e)
allowed Hold.Excludes LockCall.UnlockWrite k e = refl
allowed (Hold.Shares zero) LockCall.Downgrade k e = absurd (differ _ _ (λ n. omega (arith, n)) e)
allowed (Hold.Shares (suc n)) LockCall.Downgrade k e = absurd (differ _ _ (λ n. omega (arith, n)) e)
allowed Hold.Upgrades LockCall.Downgrade k e = absurd (differ _ _ (λ n. omega (arith, n)) e)
allowed Hold.Excludes LockCall.Downgrade k e = refl
allowed h LockCall.UpgradableRead k e = absurd (false≢true k)
allowed h LockCall.TryUpgradableRead k e = absurd (false≢true k)
allowed h LockCall.UnlockUpgradable k e = absurd (false≢true k)
allowed h LockCall.Upgrade k e = absurd (false≢true k)
allowed h LockCall.TryUpgrade k e = absurd (false≢true k)
allowed h LockCall.DowngradeToUpgradable k e = absurd (false≢true k)
allowed h LockCall.DowngradeUpgradable k e = absurd (false≢true k)
allowed (Hold.Shares zero) LockCall.ReadUntil k e = refl
allowed (Hold.Shares (suc n)) LockCall.ReadUntil k e = absurd (differ _ _ (λ n. omega (arith, n)) e)
allowed Hold.Upgrades LockCall.ReadUntil k e = absurd (differ _ _ (λ n. omega (arith, n)) e)
allowed Hold.Excludes LockCall.ReadUntil k e = absurd (differ _ _ (λ n. omega (arith, n)) e)
allowed (Hold.Shares zero) LockCall.WriteUntil k e = refl
allowed (Hold.Shares (suc n)) LockCall.WriteUntil k e = absurd (differ _ _ (λ n. omega (arith, n)) e)
allowed Hold.Upgrades LockCall.WriteUntil k e = absurd (differ _ _ (λ n. omega (arith, n)) e)
allowed Hold.Excludes LockCall.WriteUntil k e = absurd (differ _ _ (λ n. omega (arith, n)) e)
allowed h LockCall.UpgradableUntil k e = absurd (false≢true k)
allowed h LockCall.UpgradeUntil k e = absurd (false≢true k)

shares_again : (n : ℕ) → suc n - 1 + 1 ≡ suc n
shares_again n = omega arith

-- and holds the lock in its call as before
begun_mode : (x : LockKind) (h : Hold) (call : LockCall) (us : List ℕ) → is_of_shards call ≡ true
    → is_allowed kind.Rw h call ≡ true
    → rw_mode (rw_core_role (holds_beside call h) QueuePosition.Listed us (core_next (core_of x call) ActResult.Start))
    ≡ rw_mode (record { owns = owned_of h; does = Idle })
begun_mode x h LockCall.Lock us k e = absurd (false≢true k)
begun_mode x h LockCall.TryLock us k e = absurd (false≢true k)
begun_mode x h LockCall.LockUntil us k e = absurd (false≢true k)
begun_mode x h LockCall.Unlock us k e = absurd (false≢true k)
begun_mode x (Hold.Shares zero) LockCall.Read us k e = refl
begun_mode x (Hold.Shares (suc n)) LockCall.Read us k e = absurd (false≢true e)
begun_mode x Hold.Upgrades LockCall.Read us k e = absurd (false≢true e)
begun_mode x Hold.Excludes LockCall.Read us k e = absurd (false≢true e)
begun_mode x (Hold.Shares zero) LockCall.TryRead us k e = refl
begun_mode x (Hold.Shares (suc n)) LockCall.TryRead us k e = absurd (false≢true e)
begun_mode x Hold.Upgrades LockCall.TryRead us k e = absurd (false≢true e)
begun_mode x Hold.Excludes LockCall.TryRead us k e = absurd (false≢true e)
begun_mode x (Hold.Shares zero) LockCall.UnlockRead us k e = absurd (false≢true e)
begun_mode x (Hold.Shares (suc n)) LockCall.UnlockRead us k e = ap (λ m. mode_of (Reading m)) (shares_again n)
begun_mode x Hold.Upgrades LockCall.UnlockRead us k e = absurd (false≢true e)
begun_mode x Hold.Excludes LockCall.UnlockRead us k e = absurd (false≢true e)
begun_mode x (Hold.Shares zero) LockCall.Write us k e = refl
begun_mode x (Hold.Shares (suc n)) LockCall.Write us k e = absurd (false≢true e)
begun_mode x Hold.Upgrades LockCall.Write us k e = absurd (false≢true e)
begun_mode x Hold.Excludes LockCall.Write us k e = absurd (false≢true e)
begun_mode x (Hold.Shares zero) LockCall.TryWrite us k e = refl
begun_mode x (Hold.Shares (suc n)) LockCall.TryWrite us k e = absurd (false≢true e)
begun_mode x Hold.Upgrades LockCall.TryWrite us k e = absurd (false≢true e)
begun_mode x Hold.Excludes LockCall.TryWrite us k e = absurd (false≢true e)
begun_mode x (Hold.Shares zero) LockCall.UnlockWrite us k e = absurd (false≢true e)
begun_mode x (Hold.Shares (suc n)) LockCall.UnlockWrite us k e = absurd (false≢true e)
begun_mode x Hold.Upgrades LockCall.UnlockWrite us k e = absurd (false≢true e)
begun_mode x Hold.Excludes LockCall.UnlockWrite us k e = refl
begun_mode x (Hold.Shares zero) LockCall.Downgrade us k e = absurd (false≢true e)
begun_mode x (Hold.Shares (suc n)) LockCall.Downgrade us k e = absurd (false≢true e)
begun_mode x Hold.Upgrades LockCall.Downgrade us k e = absurd (false≢true e)
begun_mode x Hold.Excludes LockCall.Downgrade us k e = refl
begun_mode x h LockCall.UpgradableRead us k e = absurd (false≢true k)
begun_mode x h LockCall.TryUpgradableRead us k e = absurd (false≢true k)
begun_mode x h LockCall.UnlockUpgradable us k e = absurd (false≢true k)
begun_mode x h LockCall.Upgrade us k e = absurd (false≢true k)
begun_mode x h LockCall.TryUpgrade us k e = absurd (false≢true k)
begun_mode x h LockCall.DowngradeToUpgradable us k e = absurd (false≢true k)
begun_mode x h LockCall.DowngradeUpgradable us k e = absurd (false≢true k)
begun_mode x (Hold.Shares zero) LockCall.ReadUntil us k e = refl
begun_mode x (Hold.Shares (suc n)) LockCall.ReadUntil us k e = absurd (false≢true e)
begun_mode x Hold.Upgrades LockCall.ReadUntil us k e = absurd (false≢true e)
begun_mode x Hold.Excludes LockCall.ReadUntil us k e = absurd (false≢true e)
begun_mode x (Hold.Shares zero) LockCall.WriteUntil us k e = refl
begun_mode x (Hold.Shares (suc n)) LockCall.WriteUntil us k e = absurd (false≢true e)
begun_mode x Hold.Upgrades LockCall.WriteUntil us k e = absurd (false≢true e)
begun_mode x Hold.Excludes LockCall.WriteUntil us k e = absurd (false≢true e)
begun_mode x h LockCall.UpgradableUntil us k e = absurd (false≢true k)
begun_mode x h LockCall.UpgradeUntil us k e = absurd (false≢true k)

-- it goes by the rules of reader-writer locks, with a core of readers and writers
as_rw : (call : LockCall) → is_of_shards call ≡ true → manner_for call ≡ AsRw
as_rw LockCall.Read k = refl
as_rw LockCall.TryRead k = refl
as_rw LockCall.ReadUntil k = refl
as_rw LockCall.UnlockRead k = refl
as_rw LockCall.Write k = refl
as_rw LockCall.TryWrite k = refl
as_rw LockCall.WriteUntil k = refl
as_rw LockCall.UnlockWrite k = refl
as_rw LockCall.Downgrade k = refl
as_rw call k = absurd (false≢true k)

begun_plain : (x : LockKind) (call : LockCall) → is_of_shards call ≡ true
    → is_plain (is_timed call) (core_next (core_of x call) ActResult.Start) ≡ true
begun_plain x LockCall.Read k = refl
begun_plain x LockCall.TryRead k = refl
begun_plain x LockCall.ReadUntil k = refl
begun_plain x LockCall.UnlockRead k = refl
begun_plain x LockCall.Write k = refl
begun_plain x LockCall.TryWrite k = refl
begun_plain x LockCall.WriteUntil k = refl
begun_plain x LockCall.UnlockWrite k = refl
begun_plain x LockCall.Downgrade k = refl
begun_plain x call k = absurd (false≢true k)

none_of : (o : Option Call) → option_map stand_of o ≡ None → o ≡ None
none_of None e = refl
none_of (Some c) e = absurd (none-some (stand_of c) (sym e))

rw_at : (kinds : List LockKind) (i : ℕ) → All (λ k. k ≡ kind.Rw) kinds → i < length kinds
    → slice_get kinds i ≡ Some kind.Rw
rw_at kinds i rws low = slice_get-get_or kinds i kind.Rw low
    ∙ ap Some (all_at (λ k. k ≡ kind.Rw) kinds i (get_or kinds i kind.Rw) rws (slice_get-get_or kinds i kind.Rw low))

-- Where nobody's hold changes, the desks fit as they are.
pub same_holds : (old : Shown) → LocksFit old → (rows : Rows) → FitsTogether (state rows) → IsPlain (state rows)
    → rows.kinds ≡ old.rows.kinds → length rows.calls ≡ length old.rows.calls
    → ((v j : ℕ) → held_at (state rows) j v ≡ held_at (state old.rows) j v)
    → LocksFit (record { rows = rows; desks = old.desks })
same_holds old fit rows fits plain kinds count holds = record {
  fits = fits;
  plain = plain;
  count = fit.count ∙ ap length (sym kinds);
  desks_fit = λ shard desk at. (let d = fit.desks_fit shard desk at in record {
    seated = λ v. d.seated v ∙ ap (seat_of v) (sym (holds v shard));
    room = omega (arith, d.room, count);
    limit = omega (arith, d.limit, count);
  });
  together = λ shard v w a b ne e f. fit.together shard v w a b ne (sym (holds v shard) ∙ e) (sym (holds w shard) ∙ f);
}

module _ (old : Shown) (fit : LocksFit old) (t i : ℕ) (call : LockCall) (ask : MayAsk t i call old) where
  abbrev s : State
  s = state old.rows

  abbrev h : Hold
  h = hold_at s t i

  free : call_at s t ≡ None
  free = none_of (call_at s t) ask.free

  here_rw : slice_get s.kinds i ≡ Some kind.Rw
  here_rw = rw_at s.kinds i fit.plain.kinds ask.there

  is_allowed_here : is_allowed kind.Rw h call ≡ true
  is_allowed_here = allowed h call ask.of_kind (sym (held_rest s i t fit.plain.kinds ask.thread free) ∙ ask.holds)

  allowed_so : is_allowed (kind_in s.kinds i) h call ≡ true
  allowed_so = ap (λ o. is_allowed (unwrap_or o kind.Rw) h call) here_rw ∙ is_allowed_here

  of_kind : takes (slice_get s.kinds i) call ≡ true
  of_kind = ap (λ k. takes k call) here_rw ∙ ap (is_manner (Some AsRw)) (as_rw call ask.of_kind)

  pub may : may_begin s t i call ≡ true
  may = and_from _ _ (lt-ltb t (length s.calls) ask.thread)
      (and_from _ _ (ap is_none free) (and_from _ _ of_kind allowed_so))

  module _ (rows : Rows) (x : IsBegun t i call s (state rows)) where
    abbrev new : Shown
    new = record { rows = rows; desks = old.desks }

    abbrev u : State
    u = state rows

    abbrev c : Call
    c = hears (call_for s t i call) ActResult.Start

    kinds_same : u.kinds ≡ s.kinds
    kinds_same = ap (λ (w : State). w.kinds) x.became

    calls_are : u.calls ≡ slice_set s.calls t (Some c)
    calls_are = ap (λ (w : State). w.calls) x.became

    count : length u.calls ≡ length s.calls
    count = ap length calls_are ∙ length-set s.calls t (Some c)

    here : call_at u t ≡ Some c
    here = ap (λ cs. call_of cs t) calls_are ∙ set_low s.calls t (Some c) ask.thread

    apart : (v : ℕ) → v ≢ t → call_at u v ≡ call_at s v
    apart v ne = ap (λ cs. call_of cs v) calls_are ∙ set_elsewhere s.calls t v (Some c) ne

    next : All (λ k. k ≡ kind.Rw) u.kinds
    next = subst (All (λ k. k ≡ kind.Rw)) (sym kinds_same) fit.plain.kinds

    hold_same : (v j : ℕ) → hold_at u v j ≡ hold_at s v j
    hold_same v j = ap (λ (w : State). hold_at w v j) x.became

    others_role : (v j : ℕ) → v ≢ t → rw_role_at u j v ≡ rw_role_at s j v
    others_role v j ne = ap (λ (w : State). rw_role_in j (taken_by w.wakes v) (hold_at w v j) (call_at u v)) x.became
        ∙ ap (rw_role_in j (taken_by s.wakes v) (hold_at s v j)) (apart v ne)

    own_mode : (j : ℕ) → rw_mode (rw_role_at u j t) ≡ rw_mode (rw_role_at s j t)
    own_mode j =
        ap (λ (w : State). rw_mode (rw_role_in j (taken_by w.wakes t) (hold_at w t j) (call_at u t))) x.became
        ∙ ap (λ o. rw_mode (rw_role_in j (taken_by s.wakes t) (hold_at s t j) o)) here
        ∙ at
        ∙ sym (ap (λ o. rw_mode (rw_role_in j (taken_by s.wakes t) (hold_at s t j) o)) free)
      where
        at : rw_mode (rw_role_in j (taken_by s.wakes t) (hold_at s t j) (Some c)) ≡ rw_mode
            (record { owns = owned_of (hold_at s t j); does = Idle })
        at = elim (cases_Bool (i == j)) [
          | inl e ↦
              ap rw_mode (cond-true (i == j)
              (rw_core_role (holds_beside call h) QueuePosition.Listed (taken_by s.wakes t)
              (core_next (core_of (kind_in s.kinds i) call) ActResult.Start))
              (record { owns = owned_of (hold_at s t j); does = Idle }) e)
              ∙ begun_mode (kind_in s.kinds i) h call (taken_by s.wakes t) ask.of_kind is_allowed_here
              ∙ ap (λ n. rw_mode (record { owns = owned_of (hold_at s t n); does = Idle })) (eqb-true i j e)
          | inr e ↦ ap rw_mode
              (cond-false (i == j)
              (rw_core_role (holds_beside call h) QueuePosition.Listed (taken_by s.wakes t)
              (core_next (core_of (kind_in s.kinds i) call) ActResult.Start))
              (record { owns = owned_of (hold_at s t j); does = Idle }) e)
        ]

    holds : (v j : ℕ) → held_at u j v ≡ held_at s j v
    holds v j = held_so s u j v fit.plain.kinds next count (elim (cases_eq v t) [
      | inl e ↦ ap (λ n. held_as (rw_mode (rw_role_at u j n))) e ∙ ap held_as (own_mode j)
          ∙ sym (ap (λ n. held_as (rw_mode (rw_role_at s j n))) e)
      | inr ne ↦ ap (λ r. held_as (rw_mode r)) (others_role v j ne)
    ])

    plain : IsPlain u
    plain = record {
      kinds = next;
      single = subst (All (λ h. is_single h ≡ true)) (sym (ap (λ (w : State). w.holds) x.became)) fit.plain.single;
      alone = λ v d at. elim (cases_eq v t) [
        | inl e ↦ ap (λ (y : Call). y.others) (same_Some d c (sym at ∙ ap (call_at u) e ∙ here))
            ∙ none_beside call h is_allowed_here (single_hold s t i fit.plain.single)
        | inr ne ↦ fit.plain.alone v d (sym (apart v ne) ∙ at)
      ];
      cores = λ v d at. elim (cases_eq v t) [
        | inl e ↦ ap (λ (y : Call). is_plain (is_timed y.asked) y.core) (same_Some d c (sym at ∙ ap (call_at u) e
            ∙ here))
            ∙ begun_plain (kind_in s.kinds i) call ask.of_kind
        | inr ne ↦ fit.plain.cores v d (sym (apart v ne) ∙ at)
      ];
      asked = λ v d at. elim (cases_eq v t) [
        | inl e ↦ ap (λ (y : Call). is_of_shards y.asked) (same_Some d c (sym at ∙ ap (call_at u) e ∙ here))
            ∙ ask.of_kind
        | inr ne ↦ fit.plain.asked v d (sym (apart v ne) ∙ at)
      ];
      stands = λ v d at. elim (cases_eq v t) [
        | inl e ↦ subst (λ (y : Call). MayStand 0 (stage_of y.asked) (is_timed y.asked) (core_stage 0 y.core))
            (sym (same_Some d c (sym at ∙ ap (call_at u) e ∙ here)))
            (inl (begins_there 0 (kind_in s.kinds i) call))
        | inr ne ↦ fit.plain.stands v d (sym (apart v ne) ∙ at)
      ];
    }

    pub begun_fits : LocksFit new
    begun_fits = same_holds old fit rows x.acts.fits plain kinds_same count holds

    pub begins : LockBegins t i call old new
    begins = record {
      may = ask;
      became = x.became;
      whole = record { threads = count; kinds = kinds_same };
      desks = refl;
      stand = ap (option_map stand_of) here;
      others = λ v ne. ap (option_map stand_of) (apart v ne);
      holds = holds;
    }
