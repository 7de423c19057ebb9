-- How shards' holds change in a step of the machine.
use Rattle.std.proofs.Common.{◌≡◌, ◌≢◌, ◌<◌, ℕ, zero, suc, inl, inr, ◌⊎◌, Bool, true, false, ◌==◌, List, length, Option}
use Rattle.std.proofs.Common.{Some, None, slice_get, refl, sym, ap, ◌∙◌, subst, arith}
use Rattle.std.specs.List.{All}
use Rattle.std.specs.Option.{option_and_then, option_map, unwrap_or}
use Rattle.std.proofs.lemmas.Bool.{cases_Bool, false≢true, eq-eqb, eqb-true, cond-true, cond-false}
use Rattle.std.proofs.lemmas.Option.{none-some, same_Some, slice_get-map, slice_get_within}
use Rattle.lock_api_desk.specs.declared.mode.Mode.TheVariants as held
use Rattle.parking_lot_core_model.specs.declared.parking.ParkToken.{ParkToken}
use Rattle.parking_lot_protocol.specs.declared.act.CoreAnswer.{CoreAnswer}
use Rattle.parking_lot_rules.specs.Any.{AnyLock, Rw}
use Rattle.parking_lot_rules.specs.Lock.{Lock}
use Rattle.parking_lot_rules.specs.Owners.{Owner, Reading, Upgrading, Awaiting, Writing, Case, IsCase, Leaves, Standing}
use Rattle.parking_lot_rules.specs.Owners.{owners, standing}
use Rattle.parking_lot_rules.specs.Roles.{Idle, Role}
use Rattle.parking_lot_machine_calls.specs.Kinds.{Manner, AsMutex, AsRw, manner, manner_of, is_recursive, recursive_in}
use Rattle.parking_lot_machine_calls.specs.declared.calls.LockKind.{LockKind}
use Rattle.parking_lot_machine_calls.specs.declared.calls.LockKind.TheVariants as kind
use Rattle.parking_lot_machine_calls.specs.declared.open_call.Call.{Call}
use Rattle.parking_lot_machine_calls.specs.declared.seat.Core.{Core}
use Rattle.parking_lot_machine_calls.specs.declared.seat.Hold.{Hold}
use Rattle.parking_lot_machine_calls.specs.CallViews.{mode_of}
use Rattle.parking_lot_machine.specs.Machines.{IsStepped}
use Rattle.parking_lot_machine.specs.RowFits.{FitsTogether}
use Rattle.parking_lot_machine.specs.Rows.{State, any_lock, call_at, hold_at, lock_at, rw_lock_at, rw_role_at}
use Rattle.parking_lot_machine.specs.Rows.{rw_role_in, taken_by}
use Rattle.parking_lot_machine_calls.specs.CallRoles.{owned_of, rw_core_role}
use Rattle.parking_lot_machine.specs.SoundLaws.{IsCaseAt, IsStepAt, StepsAreCases}
use Rattle.parking_lot_machine_calls.specs.Stances.{Asleep, stance}
use Rattle.parking_lot_machine.specs.Worlds.{mode_in}
use Rattle.mapworld_state.specs.Locks.Views.{held_as, held_at, mode_at}
use Rattle.mapworld_state.specs.Locks.Fits.{is_plain, late_plainly, yields_plainly}
use Rattle.mapworld_state.proofs.LocksFacts.Giving.{owing_up, stay_owner, stay_stand}
use Rattle.parking_lot_machine_calls.specs.Calls.{is_timed}
use Rattle.parking_lot_machine.specs.RowFits.{IsPrepared}
use Rattle.parking_lot_protocol.specs.RwRules as of_rw
use Rattle.parking_lot_protocol_rw.specs.UpgradeRules.{IsReady}
use Rattle.parking_lot_protocol_rw.specs.declared.upgrade_phase.Hold.{Hold as Kept}
use Rattle.parking_lot_protocol_rw.specs.declared.upgrade_phase.UpgradePhase.{UpgradePhase}
use Rattle.parking_lot_machine_calls.specs.declared.late_rw.LateRwPhase.{LateRwPhase}
use Rattle.parking_lot_machine_calls.specs.declared.late_rw.RwSleeper.{RwSleeper}
use Rattle.parking_lot_machine_calls.specs.declared.seat.QueuePosition.{QueuePosition}
use Rattle.parking_lot_machine_calls.specs.declared.seat.WakeResult.{WakeResult}
use Rattle.parking_lot_rules.specs.Roles.{Back, Handed, Late, Normal}
use Rattle.parking_lot_machine_calls.specs.Stances.{lying}
use Rattle.parking_lot_machine_calls.specs.CallRoles.{rw_spot}
use Rattle.parking_lot_machine_calls.specs.Kinds.{recursive_in}
use Rattle.mapworld_state.proofs.LocksFacts.Lists.{all_at, among_all}
use Rattle.mapworld_state.proofs.LocksFacts.Owning.{IsHanded, mode_is_owned, mode_standing, others_stay, own_stays}
use Rattle.mapworld_state.proofs.LocksFacts.Owning.{owned_in}
use Rattle.mapworld_state.proofs.LocksFacts.Taking.{HasTaken, IsUntold, untold_or_taken}
use Rattle.mapworld_state.proofs.LocksFacts.Within.{chosen_sleeps, is_chosen}

pub no_mutex : AsMutex ≢ AsRw
no_mutex e = false≢true (ap (λ m. elim m as (λ x. Bool) [ AsMutex ↦ false | AsRw ↦ true ]) e)

-- a lock that goes by some rules goes by those of reader-writer locks, and isn't recursive
pub goes_by : (s : State) (i : ℕ) (m : Manner) → All (λ k. k ≡ kind.Rw) s.kinds → manner_of (slice_get s.kinds i) ≡ Some
    m → m ≡ AsRw
goes_by s i m all is = at (slice_get s.kinds i) refl
  where
    at : (o : Option LockKind) → slice_get s.kinds i ≡ o → m ≡ AsRw
    at None e = absurd (none-some m (sym (ap manner_of e) ∙ is))
    at (Some k) e = same_Some m AsRw
        (sym is ∙ ap manner_of e ∙ ap (λ x. Some (manner x)) (all_at (λ k. k ≡ kind.Rw) s.kinds i k all e))

-- and is one that there is
pub within_kinds : (s : State) (i : ℕ) (m : Manner) → manner_of (slice_get s.kinds i) ≡ Some m → i < length s.kinds
within_kinds s i m is = at (slice_get s.kinds i) refl
  where
    at : (o : Option LockKind) → slice_get s.kinds i ≡ o → i < length s.kinds
    at None e = absurd (none-some m (sym (ap manner_of e) ∙ is))
    at (Some k) e = slice_get_within s.kinds i k e

pub not_recursive : (s : State) (i : ℕ) → All (λ k. k ≡ kind.Rw) s.kinds → recursive_in s.kinds i ≡ false
not_recursive s i all = at (slice_get s.kinds i) refl
  where
    at : (o : Option LockKind) → slice_get s.kinds i ≡ o → recursive_in s.kinds i ≡ false
    at None e = ap (λ o. is_recursive (unwrap_or o kind.Rw)) e
    at (Some k) e = ap (λ o. is_recursive (unwrap_or o kind.Rw)) e
        ∙ ap is_recursive (all_at (λ k. k ≡ kind.Rw) s.kinds i k all e)

-- every lock is a reader-writer lock
pub is_rw : (s : State) → All (λ k. k ≡ kind.Rw) s.kinds → (i : ℕ) → lock_at s i ≡ Rw (rw_lock_at s i)
is_rw s all i = at (slice_get s.kinds i) refl
  where
    at : (o : Option LockKind) → slice_get s.kinds i ≡ o → any_lock (slice_get s.kinds i) s i ≡ Rw (rw_lock_at s i)
    at None e = ap (λ k. any_lock k s i) e
    at (Some k) e = ap (λ k. any_lock k s i) (e ∙ ap Some (all_at (λ k. k ≡ kind.Rw) s.kinds i k all e))

-- so a thread owns it as it owns the lock of the rules
pub mode_is : (s : State) → All (λ k. k ≡ kind.Rw) s.kinds → (i t : ℕ) → mode_at s i t ≡ mode_in (lock_at s i) t
mode_is s all i t = sym (ap (λ l. mode_in l t) (is_rw s all i))

pub held_is : (s : State) → All (λ k. k ≡ kind.Rw) s.kinds → (i t : ℕ)
    → held_at s i t ≡ held_as (owned_in (owners (rw_lock_at s i)).threads t)
held_is s all i t = ap held_as (mode_is_owned (rw_lock_at s i) t)

-- a step at a lock, of which nothing but the lock is known
rw_case : (recursive : Bool) (t : ℕ) (l m : Lock) (a b : AnyLock) → recursive ≡ false → a ≡ Rw l → b ≡ Rw m
    → IsCaseAt recursive t a b → (case : Case) × IsCase false t case (owners l) (owners m)
rw_case recursive t l m a b plain e f h = subst (λ (y : AnyLock). IsCaseAt false t (Rw l) y) f
    (subst (λ (x : AnyLock). IsCaseAt false t x b) e (subst (λ (r : Bool). IsCaseAt r t a b) plain h))

-- what is left of what one holds that leaves
held_left : (from : Owner) → Leaves from (Reading 0) → held_as (mode_of from) ≢ None
held_left (Reading zero) h e = absurd (omega (arith, h))
held_left (Reading (suc n)) h e = none-some held.Shared (sym e)
held_left Upgrading h e = none-some held.Upgradable (sym e)
held_left Awaiting h e = absurd h
held_left Writing h e = none-some held.Exclusive (sym e)

-- A thread was handed a lock: it held nothing, the one that handed it over has taken it, held the lock, and holds it no
-- longer.
pub record IsHandedOver (t i v : ℕ) (s u : State) : Type 0 where
  pub nothing : held_at s i v ≡ None
  -- it sleeps at that lock
  pub call : Call
  pub there : call_at s v ≡ Some call
  pub lock : call.lock ≡ i
  pub key : ℕ
  pub token : ParkToken
  pub asleep : stance call.core ≡ Asleep key token
  pub taken : HasTaken u.wakes t v
  pub before : held_at s i t ≢ None
  pub after : held_at u i t ≡ None

-- the standing of a thread is that of its role
role_of : (s : State) (i v : ℕ) (x : Standing) → slice_get (owners (rw_lock_at s i)).threads v ≡ Some x
    → x ≡ standing (rw_role_at s i v)
role_of s i v x e = at (slice_get (rw_lock_at s i).roles v) refl
  where
    at : (o : Option Role) → slice_get (rw_lock_at s i).roles v ≡ o → x ≡ standing (rw_role_at s i v)
    at None f = absurd
        (none-some x (sym (slice_get-map standing (rw_lock_at s i).roles v ∙ ap (option_map standing) f) ∙ e))
    at (Some r) f =
        same_Some x (standing r) (sym e ∙ slice_get-map standing (rw_lock_at s i).roles v ∙ ap (option_map standing) f)
        ∙ ap standing (among_all (rw_role_at s i) (length s.calls) v r f).1

abbrev chosen_stand : Role → Bool
chosen_stand r = is_chosen (standing r).stand

-- what is known of a call whose thread was chosen
record IsChosenCall (s : State) (i v : ℕ) : Type 0 where
  call : Call
  untold : IsUntold s v call
  lock : call.lock ≡ i
  nothing : mode_standing (standing (rw_role_at s i v)) ≡ mode_of (Reading call.others)
  again : (w : State) → call_at w v ≡ Some call → chosen_stand (rw_role_at w i v) ≡ true

module _ (s : State) (fits : FitsTogether s)
    (cores : (v : ℕ) (c : Call) → call_at s v ≡ Some c → is_plain (is_timed c.asked) c.core ≡ true) (i v : ℕ) where
  -- it sleeps in its list no longer, and hasn't been told why
  awaits : (us : List ℕ) (c : Call) → call_at s v ≡ Some c → c.lock ≡ i → (key : ℕ) (token : ParkToken) (by : ℕ)
      → c.spot ≡ QueuePosition.Off by WakeResult.Nothing → stance c.core ≡ Asleep key token
      → rw_role_at s i v ≡ rw_core_role c.others c.spot us c.core
      → mode_standing (standing (rw_core_role c.others c.spot us c.core)) ≡ mode_of (Reading c.others)
      → ((vs : List ℕ) → chosen_stand (rw_core_role c.others c.spot vs c.core) ≡ true) → IsChosenCall s i v
  awaits us c there lock key token by off asleep role nothing chosen = record {
    call = c;
    untold = record { there = there; by = by; off = off; key = key; token = token; asleep = asleep };
    lock = lock;
    nothing = ap (λ r. mode_standing (standing r)) role ∙ nothing;
    again = λ w same.
        ap (λ o. chosen_stand (rw_role_in i (taken_by w.wakes v) (hold_at w v i) o)) same
        ∙ ap chosen_stand
        (cond-true (c.lock == i) (rw_core_role c.others c.spot (taken_by w.wakes v) c.core)
        (record { owns = owned_of (hold_at w v i); does = Idle }) (eq-eqb c.lock i lock))
        ∙ chosen (taken_by w.wakes v);
  }

  -- so does one whose deadline has come
  by_late : (us : List ℕ) (c : Call) → call_at s v ≡ Some c → c.lock ≡ i → (p : LateRwPhase) → c.core ≡ Core.LateRw p
      → late_plainly p ≡ true → rw_role_at s i v ≡ rw_core_role c.others c.spot us (Core.LateRw p)
      → chosen_stand (rw_core_role c.others c.spot us (Core.LateRw p)) ≡ true → IsChosenCall s i v
  by_late us c there lock (LateRwPhase.Expires (RwSleeper.Simple k)) core so role is =
      let x = chosen_sleeps c.others c.spot us k.phase
      (ap is_chosen (sym (stay_stand Late (of_rw.does (rw_spot c.spot) us k.phase))) ∙ is) in
      awaits us c there lock x.key x.token x.by x.off (ap stance core ∙ ap lying x.asleep)
      (role ∙ sym (ap (rw_core_role c.others c.spot us) core))
      (ap (λ q. mode_standing (standing (rw_core_role c.others c.spot us q))) core
      ∙ ap mode_of (stay_owner Late (of_rw.owns c.others k.phase) (of_rw.does (rw_spot c.spot) us k.phase) ∙ x.owner))
      (λ vs. ap (λ q. chosen_stand (rw_core_role c.others c.spot vs q)) core
      ∙ ap is_chosen (stay_stand Late (of_rw.does (rw_spot c.spot) vs k.phase)) ∙ x.chosen vs)
  by_late us c there lock (LateRwPhase.Quits (RwSleeper.Simple k)) core so role is =
      let x = chosen_sleeps c.others QueuePosition.Listed us k.phase
      (ap is_chosen (sym (stay_stand Back (of_rw.does of_rw.Listed us k.phase))) ∙ is) in
      absurd (listed x.by x.off)
    where
      listed : (by : ℕ) → QueuePosition.Listed ≡ QueuePosition.Off by WakeResult.Nothing → ⊥
      listed by e = cc
  by_late us c there lock (LateRwPhase.WasTaken (RwSleeper.Simple k) by true) core so role is =
      let x = chosen_sleeps c.others (QueuePosition.Off by WakeResult.HandedOver) us k.phase
      (ap is_chosen (sym (stay_stand Back (of_rw.does (of_rw.Off by Handed) us k.phase))) ∙ is) in
      absurd (told x.by x.off)
    where
      told : (v : ℕ) → QueuePosition.Off by WakeResult.HandedOver ≡ QueuePosition.Off v WakeResult.Nothing → ⊥
      told v e = cc
  by_late us c there lock (LateRwPhase.WasTaken (RwSleeper.Simple k) by false) core so role is =
      let x = chosen_sleeps c.others (QueuePosition.Off by WakeResult.TryAgain) us k.phase
      (ap is_chosen (sym (stay_stand Back (of_rw.does (of_rw.Off by Normal) us k.phase))) ∙ is) in
      absurd (told x.by x.off)
    where
      told : (v : ℕ) → QueuePosition.Off by WakeResult.TryAgain ≡ QueuePosition.Off v WakeResult.Nothing → ⊥
      told v e = cc
  by_late us c there lock p core so role is = absurd cc

  -- one that gives up as a pending writer doesn't sleep
  by_yield : (us : List ℕ) (c : Call) (p : UpgradePhase) → yields_plainly p ≡ true → IsReady p
      → chosen_stand (rw_core_role c.others c.spot us (Core.Upgrade (record { phase = p }))) ≡ true → IsChosenCall s i v
  by_yield us c (UpgradePhase.Owes Kept.Nothing answer core) so ready is =
      let x = chosen_sleeps c.others c.spot us core.phase is in
      absurd (owing_up core.phase x.key x.token ready x.asleep)
  by_yield us c p so ready is = absurd cc

  by_core : (us : List ℕ) (c : Call) → call_at s v ≡ Some c → c.lock ≡ i → (timed : Bool) (k : Core) → c.core ≡ k
      → is_plain timed k ≡ true → IsPrepared (recursive_in s.kinds c.lock) c.others k
      → rw_role_at s i v ≡ rw_core_role c.others c.spot us k
      → chosen_stand (rw_core_role c.others c.spot us k) ≡ true → IsChosenCall s i v
  by_core us c there lock timed (Core.Mutex k) core so ready role is = absurd (false≢true is)
  by_core us c there lock timed (Core.Late k) core so ready role is = absurd (false≢true is)
  by_core us c there lock true (Core.LateRw p) core so ready role is = by_late us c there lock p core so role is
  by_core us c there lock true (Core.Upgrade k) core so ready role is = by_yield us c k.phase so ready.1 is
  by_core us c there lock timed (Core.Rw k) core so ready role is =
      let x = chosen_sleeps c.others c.spot us k.phase is in
      awaits us c there lock x.key x.token x.by x.off (ap stance core ∙ x.asleep)
      (role ∙ sym (ap (rw_core_role c.others c.spot us) core))
      (ap (λ q. mode_standing (standing (rw_core_role c.others c.spot us q))) core ∙ ap mode_of x.owner)
      (λ vs. ap (λ q. chosen_stand (rw_core_role c.others c.spot vs q)) core ∙ x.chosen vs)
  by_core us c there lock false k core so ready role is = absurd cc

  by_call : (us : List ℕ) (h : Hold) (o : Option Call) → call_at s v ≡ o → rw_role_at s i v ≡ rw_role_in i us h o
      → chosen_stand (rw_role_in i us h o) ≡ true → IsChosenCall s i v
  by_call us (Hold.Shares n) None there role is = absurd (false≢true is)
  by_call us Hold.Excludes None there role is = absurd (false≢true is)
  by_call us Hold.Upgrades None there role is = absurd (false≢true is)
  by_call us h (Some c) there role is = elim (cases_Bool (c.lock == i)) [
    | inl here ↦
        let reads : rw_role_in i us h (Some c) ≡ rw_core_role c.others c.spot us c.core =
        cond-true (c.lock == i) _ _ here in
        by_core us c there (eqb-true c.lock i here) (is_timed c.asked) c.core refl (cores v c there)
        (fits.rules.prepared v c there) (role ∙ reads) (sym (ap chosen_stand reads) ∙ is)
    | inr other ↦ absurd
        (false≢true (sym (ap chosen_stand
        (cond-false (c.lock == i) (rw_core_role c.others c.spot us c.core) (record { owns = owned_of h; does = Idle })
        other)) ∙ is))
  ]

  chosen_call : chosen_stand (rw_role_at s i v) ≡ true → IsChosenCall s i v
  chosen_call is = by_call (taken_by s.wakes v) (hold_at s v i) (call_at s v) refl refl is

module _ (laws : StepsAreCases) (s u : State) (t : ℕ) (fair : Bool) (answer : Option CoreAnswer) (h : FitsTogether s)
    (rws : All (λ k. k ≡ kind.Rw) s.kinds) (next : All (λ k. k ≡ kind.Rw) u.kinds)
    (alone : (v : ℕ) (c : Call) → call_at s v ≡ Some c → c.others ≡ 0)
    (cores : (v : ℕ) (c : Call) → call_at s v ≡ Some c → is_plain (is_timed c.asked) c.core ≡ true)
    (x : IsStepped t fair answer s u) where
  abbrev i : ℕ
  i = x.call.lock

  at_lock : IsStepAt t i s u
  at_lock = laws.step s u t fair answer h x

  the_case : (case : Case) × IsCase false t case (owners (rw_lock_at s i)) (owners (rw_lock_at u i))
  the_case = rw_case (recursive_in s.kinds i) t (rw_lock_at s i) (rw_lock_at u i) (lock_at s i) (lock_at u i)
      (not_recursive s i rws) (is_rw s rws i) (is_rw u next i) at_lock.case

  -- nothing changes at other locks
  pub elsewhere : (j v : ℕ) → j ≢ i → held_at u j v ≡ held_at s j v
  elsewhere j v ne = ap held_as (mode_is u next j v ∙ ap (λ l. mode_in l v) (at_lock.elsewhere j ne)
      ∙ sym (mode_is s rws j v))

  handed : (v : ℕ) → v ≢ t → IsHanded t v (owners (rw_lock_at s i)).threads (owners (rw_lock_at u i)).threads
      → IsHandedOver t i v s u
  handed v ne y =
      let role = role_of s i v y.before y.was in
      let z = chosen_call s h cores i v (ap is_chosen (sym (ap (λ st. st.stand) role) ∙ y.chosen)) in
      record {
        nothing = held_is s rws i v
            ∙ ap held_as (ap (option_and_then mode_standing) y.was ∙ ap mode_standing role ∙ z.nothing
            ∙ ap (λ n. mode_of (Reading n)) (alone v z.call z.untold.there));
        call = z.call;
        there = z.untold.there;
        lock = z.lock;
        key = z.untold.key;
        token = z.untold.token;
        asleep = z.untold.asleep;
        taken = elim (untold_or_taken s u t fair answer h x v z.call z.untold ne) [
          | inr taken ↦ taken
          | inl same ↦ absurd
              (false≢true (ap is_chosen (ap (λ st. st.stand) (role_of u i v _ y.after)) ∙ z.again u same))
        ];
        before = λ none. held_left y.from y.leaves
            (sym (ap held_as (ap (option_and_then mode_standing) y.left)) ∙ sym (held_is s rws i t) ∙ none);
        after = held_is u next i t ∙ ap held_as (ap (option_and_then mode_standing) y.gone);
      }

  -- another thread holds the lock as before, or it was handed it
  pub others : (v : ℕ) → v ≢ t → (held_at u i v ≡ held_at s i v) ⊎ IsHandedOver t i v s u
  others v ne = elim (others_stay t the_case.0 (owners (rw_lock_at s i)) (owners (rw_lock_at u i)) the_case.1 v ne) [
    | inl same ↦ inl (held_is u next i v ∙ ap held_as same ∙ sym (held_is s rws i v))
    | inr y ↦ inr (handed v ne y)
  ]

  -- it doesn't turn a shared hold into the exclusive one
  pub own : held_at s i t ≡ Some held.Shared → held_at u i t ≢ Some held.Exclusive
  own was is = own_stays t the_case.0 (owners (rw_lock_at s i)) (owners (rw_lock_at u i)) the_case.1
      (sym (held_is s rws i t) ∙ was) (sym (held_is u next i t) ∙ is)
