-- Which acts elsewhere a call can be told of, by what its thread does next.
use Rattle.std.proofs.Common.{◌≡◌, ℕ, Bool, true, false, ◌&&◌, Option, Some, None, refl, ap, ◌∙◌, subst}
use Rattle.std.specs.Option.{option_map_or}
use Rattle.std.proofs.lemmas.Option.{none-some}
use Rattle.parking_lot_core_model.specs.declared.parking.UnparkToken.{UnparkToken}
use Rattle.parking_lot_protocol_waits.specs.declared.wait_core.WaitPhase.{WaitPhase}
use Rattle.parking_lot_protocol_waits.specs.declared.wait_core.WaitPhase.TheVariants as w
use Rattle.parking_lot_protocol_waits.specs.declared.notify_core.NotifyPhase.{NotifyPhase}
use Rattle.parking_lot_protocol_waits.specs.declared.notify_core.NotifyPhase.TheVariants as n
use Rattle.parking_lot_machine_sides.specs.declared.condvar.open_call.Core.{Core}
use Rattle.parking_lot_machine_sides.specs.declared.condvar.open_call.Core.TheVariants as core
use Rattle.parking_lot_machine_sides.specs.declared.condvar.open_call.OpenCall.{OpenCall}
use Rattle.parking_lot_machine_sides.specs.declared.condvar.outside.Outside.{Outside}
use Rattle.parking_lot_machine_sides.specs.declared.condvar.outside.Outside.TheVariants as outside
use Rattle.parking_lot_machine_sides.specs.Condvar.Calls.{is_timed}
use Rattle.parking_lot_machine_sides.specs.Condvar.Machines.{State as Var, is_left}
use Rattle.parking_lot_machine_sides.specs.Condvar.Outsides.{hears_by, may_hear, notify_fits, wait_fits}
use Rattle.parking_lot_machine_waits.specs.declared.turn.Turn.{Turn}
use Rattle.parking_lot_machine_waits.specs.declared.turn.Turn.TheVariants as turn
use Rattle.parking_lot_machine_waits.specs.Joint.{Joint, call_at, call_in, var_at, var_hears}
use Rattle.parking_lot_machine_waits.specs.JointMoves.{may_expire_as, may_expire_at, sleeps_on}
use Rattle.parking_lot_machine_waits.specs.Turns.{notify_turn, turn_by, turn_of, wait_turn, wait_wakes, wakes_with}

pub both_true : (a b : Bool) → (a && b) ≡ true → (a ≡ true) × (b ≡ true)
both_true true b e = (refl, e)
both_true false b e = absurd cc

-- it waits for an act elsewhere to be made
abbrev pub is_told : Turn → Bool
is_told turn.Unlocks = true
is_told turn.Locks = true
is_told turn.ComesBack = true
is_told turn.Hears = true
is_told t = false

abbrev pub is_following : Turn → Bool
is_following turn.Follows = true
is_following t = false

wait_told : (timed listed : Bool) (p : WaitPhase) → is_told (wait_turn listed p) ≡ true
    → wait_fits timed listed p outside.Made ≡ true
wait_told timed listed (w.Waiting k) e = absurd cc
wait_told timed listed w.Stranger e = absurd cc
wait_told timed listed w.GivingWay e = absurd cc
wait_told timed listed w.Looks e = absurd cc
wait_told timed listed (w.Enters k) e = absurd cc
wait_told timed listed (w.Checks k) e = absurd cc
wait_told timed listed w.Retreats e = absurd cc
wait_told timed listed (w.Appends k) e = absurd cc
wait_told timed listed (w.Shows k) e = absurd cc
wait_told timed listed (w.Rests k) e = absurd cc
wait_told timed listed (w.Unlocks k) e = refl
wait_told timed true (w.Sleeps k) e = absurd cc
wait_told timed false (w.Sleeps k) e = absurd cc
wait_told timed true (w.Expires k) e = absurd cc
wait_told timed false (w.Expires k) e = refl
wait_told timed true (w.Quits k) e = absurd cc
wait_told timed false (w.Quits k) e = absurd cc
wait_told timed listed w.Forgets e = absurd cc
wait_told timed listed w.Masks e = absurd cc
wait_told timed listed (w.Leaves true) e = absurd cc
wait_told timed listed (w.Leaves false) e = absurd cc
wait_told timed listed (w.Resumes token) e = refl
wait_told timed listed w.Yields e = absurd cc
wait_told timed listed (w.Locks timed_out) e = refl
wait_told timed listed (w.Ends a) e = absurd cc
wait_told timed listed w.Invalid e = absurd cc

notify_told : (taken : ℕ) (left : Bool) (p : NotifyPhase) → is_told (notify_turn p) ≡ true
    → notify_fits taken left p outside.Made ≡ true
notify_told taken left (n.Notifying all) e = absurd cc
notify_told taken left (n.Loads all) e = absurd cc
notify_told taken left (n.Enters all word) e = absurd cc
notify_told taken left (n.Checks all word) e = absurd cc
notify_told taken left (n.Marks all) e = absurd cc
notify_told taken left (n.Moves all locked) e = absurd cc
notify_told taken left (n.MarksRest notice) e = refl
notify_told taken left (n.Forgets notice) e = absurd cc
notify_told taken left (n.Leaves notice) e = absurd cc
notify_told taken left (n.Wakes count) e = refl
notify_told taken left (n.Ends count) e = absurd cc
notify_told taken left n.Invalid e = absurd cc

wait_woken : (timed listed : Bool) (token : UnparkToken) (p : WaitPhase) → is_following (wait_turn listed p) ≡ true
    → wait_fits timed listed p (wait_wakes p token) ≡ true
wait_woken timed listed token (w.Waiting k) e = absurd cc
wait_woken timed listed token w.Stranger e = absurd cc
wait_woken timed listed token w.GivingWay e = absurd cc
wait_woken timed listed token w.Looks e = absurd cc
wait_woken timed listed token (w.Enters k) e = absurd cc
wait_woken timed listed token (w.Checks k) e = absurd cc
wait_woken timed listed token w.Retreats e = absurd cc
wait_woken timed listed token (w.Appends k) e = absurd cc
wait_woken timed listed token (w.Shows k) e = absurd cc
wait_woken timed listed token (w.Rests k) e = absurd cc
wait_woken timed listed token (w.Unlocks k) e = absurd cc
wait_woken timed true token (w.Sleeps k) e = absurd cc
wait_woken timed false token (w.Sleeps k) e = refl
wait_woken timed true token (w.Expires k) e = absurd cc
wait_woken timed false token (w.Expires k) e = absurd cc
wait_woken timed true token (w.Quits k) e = absurd cc
wait_woken timed false token (w.Quits k) e = refl
wait_woken timed listed token w.Forgets e = absurd cc
wait_woken timed listed token w.Masks e = absurd cc
wait_woken timed listed token (w.Leaves true) e = absurd cc
wait_woken timed listed token (w.Leaves false) e = absurd cc
wait_woken timed listed token (w.Resumes other) e = absurd cc
wait_woken timed listed token w.Yields e = absurd cc
wait_woken timed listed token (w.Locks timed_out) e = absurd cc
wait_woken timed listed token (w.Ends a) e = absurd cc
wait_woken timed listed token w.Invalid e = absurd cc

notify_woken : {X : Type 0} (p : NotifyPhase) → is_following (notify_turn p) ≡ true → X
notify_woken (n.Notifying all) e = absurd cc
notify_woken (n.Loads all) e = absurd cc
notify_woken (n.Enters all word) e = absurd cc
notify_woken (n.Checks all word) e = absurd cc
notify_woken (n.Marks all) e = absurd cc
notify_woken (n.Moves all locked) e = absurd cc
notify_woken (n.MarksRest notice) e = absurd cc
notify_woken (n.Forgets notice) e = absurd cc
notify_woken (n.Leaves notice) e = absurd cc
notify_woken (n.Wakes count) e = absurd cc
notify_woken (n.Ends count) e = absurd cc
notify_woken n.Invalid e = absurd cc

told_by : (c : OpenCall) (left : Bool) (k : Core) → is_told (turn_by c.listed k) ≡ true
    → hears_by c left outside.Made k ≡ true
told_by c left (core.Wait k) e = wait_told (is_timed c.call) c.listed k.phase e
told_by c left (core.Notify k) e = notify_told c.taken left k.phase e

woken_by : (c : OpenCall) (left : Bool) (token : UnparkToken) (k : Core) → is_following (turn_by c.listed k) ≡ true
    → hears_by c left (wakes_with k token) k ≡ true
woken_by c left token (core.Wait k) e = wait_woken (is_timed c.call) c.listed token k.phase e
woken_by c left token (core.Notify k) e = notify_woken k.phase e

hears_there : (x : Option Var) (t : ℕ) (c : OpenCall) (seen : Outside) → call_in x t ≡ Some c
    → ((left : Bool) → hears_by c left seen c.core ≡ true) → var_hears x t seen ≡ true
hears_there None t c seen here hears = absurd (none-some c here)
hears_there (Some x) t c seen here hears = ap (λ o. option_map_or (may_hear x.queue seen) o false) here
    ∙ hears (is_left x.queue)

-- The call can be told so, by its turn.
pub hears_made : (x : Option Var) (t : ℕ) (c : OpenCall) → call_in x t ≡ Some c → is_told (turn_of c) ≡ true
    → var_hears x t outside.Made ≡ true
hears_made x t c here e = hears_there x t c outside.Made here (λ left. told_by c left c.core e)

pub hears_waking : (x : Option Var) (t : ℕ) (c : OpenCall) (token : UnparkToken) → call_in x t ≡ Some c
    → is_following (turn_of c) ≡ true → var_hears x t (wakes_with c.core token) ≡ true
hears_waking x t c token here e = hears_there x t c (wakes_with c.core token) here
    (λ left. woken_by c left token c.core e)

-- One whose deadline may come in a call at a variable can be told so there.
pub can_expire : (o : Option ℕ) (v : ℕ) (j : Joint) (t : ℕ) → o ≡ Some v → may_expire_at o j t ≡ true
    → var_hears (var_at j v) t outside.Expired ≡ true
can_expire None v j t is may = absurd (none-some v is)
can_expire (Some u) v j t is may = subst (λ (w : ℕ). var_hears (var_at j w) t outside.Expired ≡ true) (same is)
    (of_call (call_at j u t) may)
  where
    same : {a b : ℕ} → Some a ≡ Some b → a ≡ b
    same e = cc

    of_call : (c : Option OpenCall) → may_expire_as c j t u ≡ true → var_hears (var_at j u) t outside.Expired ≡ true
    of_call None e = absurd cc
    of_call (Some c) e = (both_true (sleeps_on c j t) (var_hears (var_at j u) t outside.Expired) e).1
