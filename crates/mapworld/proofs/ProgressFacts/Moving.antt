-- While a call is unanswered, some thread can move.
use Rattle.std.proofs.Common.{◌≡◌, ℕ, zero, suc, ◌+◌, ◌<◌, ◌≤◌, ◌==◌, ◌⊎◌, inl, inr, ◌||◌, Bool, true, not, List}
use Rattle.std.proofs.Common.{[], ◌∷◌, Option, None, Some, is_none, length, slice_get, sum_by, refl, sym, ap, ◌∙◌}
use Rattle.std.proofs.Common.{subst, arith}
use Rattle.std.specs.Option.{option_map}
use Rattle.std.proofs.lemmas.Bool.{cases_lt, ne_eqb}
use Rattle.std.proofs.lemmas.List.{length-drop}
use Rattle.std.proofs.lemmas.List.Sums.{sum_by-cons}
use Rattle.std.proofs.lemmas.Option.{none-some, same_Some}
use Rattle.lock_api_desk.specs.declared.mode.Mode.{Mode as DeskMode}
use Rattle.lock_api_desk.specs.declared.mode.Mode.TheVariants as held
use Rattle.parking_lot_machine_calls.specs.declared.calls.LockKind.{LockKind}
use Rattle.parking_lot_machine_calls.specs.declared.calls.OwnMode.{OwnMode}
use Rattle.parking_lot_machine_calls.specs.declared.seat.Hold.{Hold as LockHold}
use Rattle.parking_lot_machine_calls.specs.declared.open_call.Call.{Call}
use Rattle.parking_lot_machine.specs.Machines.{can_move, is_asleep}
use Rattle.parking_lot_machine.specs.Rows.{call_at, hold_at, state}
use Rattle.parking_lot_machine.specs.Rows as rows
use Rattle.parking_lot_machine.specs.SoundLaws.{Always, IsApart, SomebodyCanMove, SomebodyKeeps}
use Rattle.parking_lot_machine_calls.specs.CallViews.{hold_mode}
use Rattle.parking_lot_machine.proofs.Viewing as viewing
use Rattle.parking_lot_machine.proofs.Viewing.{apart_owner}
use Rattle.mapworld_calls.specs.declared.ask.Walk.{Walk}
use Rattle.mapworld_calls.specs.Setup.{Setup, session_of}
use Rattle.mapworld_state.specs.Locks.Aims.{Aim}
use Rattle.mapworld_state.specs.Locks.Stands.{Stand, stand_in, stand_of}
use Rattle.mapworld_state.specs.Locks.Views.{held_as, owner_in}
use Rattle.mapworld_state.proofs.LocksFacts.Handing.{mode_is}
use Rattle.mapworld_state.proofs.LocksFacts.Together.{holders_are_threads}
use Rattle.mapworld_state.specs.declared.holds.Mode.{Mode}
use Rattle.mapworld_state.specs.declared.holds.Hold.{Hold}
use Rattle.mapworld_state.specs.declared.place.Guard.{Guard}
use Rattle.mapworld_state.specs.declared.place.Phase.{Phase}
use Rattle.mapworld_state.specs.declared.place.Phase.TheVariants as phase
use Rattle.mapworld_state.specs.Core.{owed, owes}
use Rattle.mapworld_state.specs.Held.{IsAt, IsOwing, IsWanting, MayOwe}
use Rattle.mapworld_state.specs.Places.{Place}
use Rattle.mapworld_state.specs.Running.{can_move_in, goes_on, unanswered_of}
use Rattle.mapworld_state.specs.Sound.{IsBetweenVisits, IsInSession, KeepsOver, Stands, Walks}
use Rattle.mapworld_state.specs.State.{State, threads_of}
use Rattle.mapworld_state.specs.Walks.{kept_over, walk_mode}
use Rattle.mapworld_state.proofs.HoldsTable.{none-there, only-first}
use Rattle.mapworld_state.proofs.InvariantFacts.Building.{claim-at, session-is, taken-at}
use Rattle.mapworld_state.proofs.InvariantFacts.Holding.{stand-at}
use Rattle.mapworld.specs.Progress.Whole.{IsWhole}
use Rattle.mapworld.proofs.ProgressFacts.Sessions.{none-at-end}
use Rattle.mapworld.proofs.ProgressFacts.Sleepers.{sleeper}
use Rattle.mapworld.proofs.ProgressFacts.Turning.{moves-as, moves-there, place-there}
use Rattle.mapworld_state.specs.declared.holds.Manner.{Manner}

-- a sum that isn't 0 has a part that isn't
abbrev HasPart : {X : Type 0} → (X → ℕ) → List X → Type 0
HasPart {X} f xs = (i : ℕ) × (x : X) × (slice_get xs i ≡ Some x) × (0 < f x)

first-part : {X : Type 0} (f : X → ℕ) (x : X) (xs : List X) (n : ℕ) → f x ≡ n → (n ≡ 0 → HasPart f xs)
    → HasPart f (x ∷ xs)
first-part f x xs zero e more = let rest = more refl in (suc rest.0, rest.1, rest.2, rest.3)
first-part f x xs (suc n) e more = (0, x, refl, omega (arith, e))

some-part : {X : Type 0} (f : X → ℕ) (xs : List X) → 0 < sum_by f xs → HasPart f xs
some-part f [] some = absurd (omega (arith, some))
some-part f (x ∷ xs) some =
    first-part f x xs (f x) refl (λ none. some-part f xs (omega (arith, some, none, sum_by-cons f x xs)))

-- an owner that is in no call at its lock is not pending
held-apart : (k : Option LockKind) (h : LockHold) (a : OwnMode) → hold_mode k h ≡ Some a → (m : DeskMode)
    × (held_as (Some a) ≡ Some m)
held-apart k h OwnMode.Shared e = (held.Shared, refl)
held-apart k h OwnMode.Upgradable e = (held.Upgradable, refl)
held-apart k h OwnMode.Exclusive e = (held.Exclusive, refl)
held-apart k LockHold.Excludes OwnMode.Pending e = absurd cc
held-apart (Some LockKind.Mutex) LockHold.Upgrades OwnMode.Pending e = absurd cc
held-apart (Some LockKind.FairMutex) LockHold.Upgrades OwnMode.Pending e = absurd cc
held-apart (Some LockKind.Rw) LockHold.Upgrades OwnMode.Pending e = absurd cc
held-apart (Some LockKind.RwRecursive) LockHold.Upgrades OwnMode.Pending e = absurd cc
held-apart None LockHold.Upgrades OwnMode.Pending e = absurd cc
held-apart (Some LockKind.Mutex) (LockHold.Shares n) OwnMode.Pending e = absurd cc
held-apart (Some LockKind.FairMutex) (LockHold.Shares n) OwnMode.Pending e = absurd cc
held-apart (Some LockKind.Rw) (LockHold.Shares zero) OwnMode.Pending e = absurd cc
held-apart (Some LockKind.Rw) (LockHold.Shares (suc n)) OwnMode.Pending e = absurd cc
held-apart (Some LockKind.RwRecursive) (LockHold.Shares zero) OwnMode.Pending e = absurd cc
held-apart (Some LockKind.RwRecursive) (LockHold.Shares (suc n)) OwnMode.Pending e = absurd cc
held-apart None (LockHold.Shares zero) OwnMode.Pending e = absurd cc
held-apart None (LockHold.Shares (suc n)) OwnMode.Pending e = absurd cc

apart : (i : ℕ) (o : Option Call) → IsApart i o → viewing.IsApart i o
apart i None h = h
apart i (Some c) h = h

not-zero : (n : ℕ) → 0 < n → not (n == 0) ≡ true
not-zero n some = ap not (ne_eqb n 0 (λ e. absurd (omega (arith, some, e))))

alone-goes : (o : Option Call) (b : Bool) → o ≡ None → (is_none o || b) ≡ true
alone-goes None b e = refl
alone-goes (Some c) b e = absurd (none-some c (sym e))

module _ {K V S D T A : Type 0} (x : Setup K V D T) (w : State K V S D T A) (whole : IsWhole x w) where
  abbrev s : rows.State
  s = state w.locks.rows

  -- A THREAD BETWEEN ITS CALLS THAT HOLDS A SHARD HAS A CALL LEFT

  module _ (t : ℕ) (p : Place K V D T A) (at : slice_get w.places t ≡ Some p) where
    abbrev stands : Stands x (threads_of w) w.blocks w.replies w.tables t p
    stands = whole.sound.stands t p at

    -- one in a session is before a call of its program
    pub session-goes : (c : ℕ) → session_of x t p.next ≡ Some c → p.next < length stands.program
    session-goes c e = elim (cases_lt p.next (length stands.program)) [
      | inl below ↦ below
      | inr past ↦ absurd
          (none-at-end stands.program (whole.sound.guarded t stands.program stands.has) p.next c past
          (sym (session-is x t stands.program stands.has p.next) ∙ e))
    ]

    guarded-goes : (o : Option ℕ) (g : Guard K) → session_of x t p.next ≡ o → p.guard ≡ Some g
        → IsInSession x w.blocks w.tables t p p.next o p.block → p.next < length stands.program
    guarded-goes None g is has h = absurd (none-some g (sym h.0 ∙ has))
    guarded-goes (Some c) g is has h = session-goes c is

    rest-goes : p.phase ≡ phase.Rest → (g : Option (Guard K)) → p.guard ≡ g → (i : ℕ) (a : Hold)
        → slice_get p.holds i ≡ Some a → 0 < length p.asks
    rest-goes before None none i a there =
        absurd (none-there p.holds i a
        ((claim-at x (threads_of w) w.blocks w.replies w.tables t p phase.Rest before stands).1 none) there)
    rest-goes before (Some g) has i a there =
        let claim = claim-at x (threads_of w) w.blocks w.replies w.tables t p phase.Rest before stands in
        let left = taken-at x (threads_of w) w.blocks w.replies w.tables t p phase.Rest before stands in
        let below = guarded-goes (session_of x t p.next) g refl has claim.2 in
        omega (arith, below, ap (λ xs. length xs) left, length-drop p.next stands.program)

    -- A WALK THAT KEEPS A SHARD WHILE IT WAITS WAITS FOR THE NEXT ONE

    keeps-shard : (mode : Mode) (n : ℕ) → KeepsOver p mode n → (i : ℕ) (a : Hold) → slice_get p.holds i ≡ Some a
        → a.shard + 1 ≡ p.shard
    keeps-shard mode zero none i a there = absurd (none-there p.holds i a none there)
    keeps-shard mode (suc n) one i a there = ap (λ (h : Hold). h.shard + 1)
        (sym (only-first p.holds one.0 i a one.1 there).1) ∙ one.2

    pub reaches-next : (f : Walk D) → p.phase ≡ phase.Reach f → (i : ℕ) (a : Hold) → slice_get p.holds i ≡ Some a
        → a.shard + 1 ≡ p.shard
    reaches-next f before i a there = keeps-shard (walk_mode f) (kept_over f p.shard)
        (claim-at x (threads_of w) w.blocks w.replies w.tables t p (phase.Reach f) before stands).2 i a there

    pub reaches-within : (f : Walk D) → p.phase ≡ phase.Reach f → p.shard < length w.tables
    reaches-within f before =
        let between : IsBetweenVisits x w.blocks t p f p.shard =
        subst (λ (g : Phase K V D T A). Walks x w.blocks w.tables t p g) before stands.walks in
        omega (arith, between.left, whole.sound.shards)

    -- it is in a call there, or in none
    wants-at : (mode : Mode) (manner : Manner) (c : Call) → call_at s t ≡ Some c
        → IsWanting p mode manner (stand_in w.locks t) → c.lock ≡ p.shard
    wants-at mode manner c is h =
        ap (λ (z : Stand). z.shard) (same_Some (stand_of c) _ (sym (ap (option_map stand_of) is) ∙ h.is))

    pub reaches-at : (f : Walk D) → p.phase ≡ phase.Reach f → (c : Call) → call_at s t ≡ Some c → c.lock ≡ p.shard
    reaches-at f before c is = wants-at (walk_mode f) Manner.Waits c is
        (stand-at w.places w.locks whole.sound.holds t p at (phase.Reach f) before)

    stands-apart : (shard : ℕ) → IsApart shard (call_at s t) → IsAt w.locks t shard → ⊥
    stands-apart shard apart there = by (call_at s t) apart there.1
      where
        by : (o : Option Call) → IsApart shard o → option_map stand_of o ≡ Some there.0 → ⊥
        by None h e = none-some there.0 e
        by (Some c) h e = h (ap (λ (z : Stand). z.shard) (same_Some (stand_of c) there.0 e) ∙ there.2)

    -- one that owes something to a lock doesn't sleep there
    owing-awake : IsOwing p (stand_in w.locks t) → is_asleep s t ≡ true → ⊥
    owing-awake owes asleep =
        let on = sleeper w.locks whole.locks t asleep in
        let owing : MayOwe p on.0.lock (stand_of on.0).aim = subst (λ (o : Option Stand). IsOwing p o)
        (ap (option_map stand_of) on.1) owes in
        subst (λ (aim : Aim). MayOwe p on.0.lock aim) on.2.aim_is owing

  -- SOMEBODY CAN MOVE

  abbrev Moves : Type 0
  Moves = (u : ℕ) × (can_move_in w u ≡ true)

  module _ (machine : Always SomebodyCanMove) where
    -- somebody can, or the thread sleeps, and one that is in no call at its lock keeps that
    by-machine : (t : ℕ) → can_move_in w t ≡ goes_on w.locks t → (o : Option Call) → call_at s t ≡ o → Moves
        ⊎ ((c : Call) × (call_at s t ≡ Some c) × (is_asleep s t ≡ true) × SomebodyKeeps s c.lock)
    by-machine t goes None is = inl (t, goes ∙ alone-goes (call_at s t) (can_move s t) is)
    by-machine t goes (Some c) is = elim (machine s whole.locks.fits t c is) [
      | inl some ↦ inl (some.0, moves-there x w whole some.0 some.1)
      | inr kept ↦ inr (c, is, kept.0, kept.1)
    ]

    -- one that owes
    owing-moves : (t : ℕ) (p : Place K V D T A) → slice_get w.places t ≡ Some p → can_move_in w t ≡ goes_on w.locks t
        → IsOwing p (stand_in w.locks t) → Moves
    owing-moves t p at goes owes = elim (by-machine t goes (call_at s t) refl) [
      | inl some ↦ some
      | inr asleep ↦ absurd (owing-awake t p at owes asleep.2)
    ]

    -- one that holds a shard: a walk may wait for the next one
    module _ (t : ℕ) (p : Place K V D T A) (at : slice_get w.places t ≡ Some p) (a : Hold) (i : ℕ)
        (there : slice_get p.holds i ≡ Some a) (next : a.shard + 1 < length w.tables → SomebodyKeeps s (a.shard + 1)
        → Moves) where
      reach-moves : (f : Walk D) → p.phase ≡ phase.Reach f → Moves
      reach-moves f before = elim (by-machine t (moves-as x w whole t p at (phase.Reach f) before) (call_at s t) refl) [
        | inl some ↦ some
        | inr asleep ↦
            let above : a.shard + 1 ≡ p.shard = reaches-next t p at f before i a there in
            let lock : asleep.0.lock ≡ a.shard + 1 = reaches-at t p at f before asleep.0 asleep.1 ∙ sym above in
            next (omega (arith, above, reaches-within t p at f before)) (subst (λ k. SomebodyKeeps s k) lock asleep.3)
      ]

      holder-moves : (f : Phase K V D T A) → p.phase ≡ f → Moves
      holder-moves phase.Rest before = (
        t,
        moves-as x w whole t p at phase.Rest before
            ∙ not-zero (length p.asks) (rest-goes t p at before p.guard refl i a there),
      )
      holder-moves (phase.Admit r) before =
          absurd (none-there p.holds i a
          (claim-at x (threads_of w) w.blocks w.replies w.tables t p (phase.Admit r) before (stands t p at)).2 there)
      holder-moves (phase.Idle f) before =
          absurd (none-there p.holds i a
          (claim-at x (threads_of w) w.blocks w.replies w.tables t p (phase.Idle f) before (stands t p at)).2 there)
      holder-moves (phase.Reach f) before = reach-moves f before
      holder-moves (phase.Visit f) before = owing-moves t p at (moves-as x w whole t p at (phase.Visit f) before)
          (stand-at w.places w.locks whole.sound.holds t p at (phase.Visit f) before)
      holder-moves (phase.Onward f) before = owing-moves t p at (moves-as x w whole t p at (phase.Onward f) before)
          (stand-at w.places w.locks whole.sound.holds t p at (phase.Onward f) before)
      holder-moves (phase.Answer r) before = owing-moves t p at (moves-as x w whole t p at (phase.Answer r) before)
          (stand-at w.places w.locks whole.sound.holds t p at (phase.Answer r) before)
      holder-moves (phase.Find r) before = (t, moves-as x w whole t p at (phase.Find r) before)
      holder-moves (phase.Grow c) before = (t, moves-as x w whole t p at (phase.Grow c) before)
      holder-moves (phase.Append k v) before = (t, moves-as x w whole t p at (phase.Append k v) before)
      holder-moves (phase.Apply k) before = (t, moves-as x w whole t p at (phase.Apply k) before)
      holder-moves (phase.View k d) before = (t, moves-as x w whole t p at (phase.View k d) before)
      holder-moves (phase.Read d) before = (t, moves-as x w whole t p at (phase.Read d) before)
      holder-moves (phase.Change h) before = (t, moves-as x w whole t p at (phase.Change h) before)
      holder-moves (phase.Fill v) before = (t, moves-as x w whole t p at (phase.Fill v) before)
      holder-moves phase.Downgrade before = (t, moves-as x w whole t p at phase.Downgrade before)
      holder-moves (phase.Part f) before = (t, moves-as x w whole t p at (phase.Part f) before)
      holder-moves (phase.Seek f) before = (t, moves-as x w whole t p at (phase.Seek f) before)
      holder-moves (phase.Item f) before = (t, moves-as x w whole t p at (phase.Item f) before)
      holder-moves (phase.Give f) before = (t, moves-as x w whole t p at (phase.Give f) before)
      holder-moves (phase.Release a) before = (t, moves-as x w whole t p at (phase.Release a) before)

    -- one that keeps a lock where it is in no call
    keeper-moves : (shard : ℕ) → SomebodyKeeps s shard
        → (shard + 1 < length w.tables → SomebodyKeeps s (shard + 1) → Moves) → Moves
    keeper-moves shard kept next =
        let u = kept.0 in
        let mode = held-apart (slice_get s.kinds shard) (hold_at s u shard) kept.1
        (sym (apart_owner s u whole.locks.fits shard (apart shard (call_at s u) kept.3)) ∙ kept.2) in
        let owns : owner_in w.locks shard u ≡ Some mode.0 =
        ap held_as (mode_is s whole.locks.plain.kinds shard u ∙ kept.2) ∙ mode.1 in
        let here = place-there w.places u
        (omega (
          arith,
          holders_are_threads s shard whole.locks.plain.kinds u mode.0 owns,
          whole.sizes.locks.threads_are,
        )) in
        elim (whole.sound.holds.known u shard here.0 mode.0 here.1 owns) [
          | inl among ↦
              holder-moves u here.0 here.1 among.hold among.index among.there
              (subst (λ (k : ℕ). k + 1 < length w.tables → SomebodyKeeps s (k + 1) → Moves) (sym among.shard_is)
              next) here.0.phase refl
          | inr there ↦ absurd (stands-apart u here.0 here.1 shard kept.3 there)
        ]

    -- The shards that walks wait for rise: with so many shards left above, one who keeps a lock can move, or waits for
    -- a higher one.
    rising : (left shard : ℕ) → length w.tables ≤ shard + left → SomebodyKeeps s shard → Moves
    rising zero shard past kept = keeper-moves shard kept (λ low above. absurd (omega (arith, past, low)))
    rising (suc left) shard past kept =
        keeper-moves shard kept (λ low above. rising left (shard + 1) (omega (arith, past)) above)

    asking-moves : (t : ℕ) → can_move_in w t ≡ goes_on w.locks t → Moves
    asking-moves t goes = elim (by-machine t goes (call_at s t) refl) [
      | inl some ↦ some
      | inr asleep ↦ rising (length w.tables) asleep.0.lock (omega arith) asleep.3
    ]

    module _ (t : ℕ) (p : Place K V D T A) (at : slice_get w.places t ≡ Some p) (some : 0 < owed p) where
      by-phase : (f : Phase K V D T A) → p.phase ≡ f → Moves
      by-phase phase.Rest before = (
        t,
        moves-as x w whole t p at phase.Rest before
            ∙ not-zero (length p.asks)
            (omega (arith, some, ap (λ (f : Phase K V D T A). length p.asks + owes f) before)),
      )
      by-phase (phase.Admit r) before = asking-moves t (moves-as x w whole t p at (phase.Admit r) before)
      by-phase (phase.Idle f) before = asking-moves t (moves-as x w whole t p at (phase.Idle f) before)
      by-phase (phase.Reach f) before = asking-moves t (moves-as x w whole t p at (phase.Reach f) before)
      by-phase (phase.Visit f) before = asking-moves t (moves-as x w whole t p at (phase.Visit f) before)
      by-phase (phase.Onward f) before = asking-moves t (moves-as x w whole t p at (phase.Onward f) before)
      by-phase (phase.Answer r) before = asking-moves t (moves-as x w whole t p at (phase.Answer r) before)
      by-phase (phase.Find r) before = (t, moves-as x w whole t p at (phase.Find r) before)
      by-phase (phase.Grow c) before = (t, moves-as x w whole t p at (phase.Grow c) before)
      by-phase (phase.Append k v) before = (t, moves-as x w whole t p at (phase.Append k v) before)
      by-phase (phase.Apply k) before = (t, moves-as x w whole t p at (phase.Apply k) before)
      by-phase (phase.View k d) before = (t, moves-as x w whole t p at (phase.View k d) before)
      by-phase (phase.Read d) before = (t, moves-as x w whole t p at (phase.Read d) before)
      by-phase (phase.Change h) before = (t, moves-as x w whole t p at (phase.Change h) before)
      by-phase (phase.Fill v) before = (t, moves-as x w whole t p at (phase.Fill v) before)
      by-phase phase.Downgrade before = (t, moves-as x w whole t p at phase.Downgrade before)
      by-phase (phase.Part f) before = (t, moves-as x w whole t p at (phase.Part f) before)
      by-phase (phase.Seek f) before = (t, moves-as x w whole t p at (phase.Seek f) before)
      by-phase (phase.Item f) before = (t, moves-as x w whole t p at (phase.Item f) before)
      by-phase (phase.Give f) before = (t, moves-as x w whole t p at (phase.Give f) before)
      by-phase (phase.Release a) before = (t, moves-as x w whole t p at (phase.Release a) before)

pub somebody_moves : {K V S D T A : Type 0} → Always SomebodyCanMove → (x : Setup K V D T) (w : State K V S D T A)
    → IsWhole x w → 0 < unanswered_of w → (t : ℕ) × (can_move_in w t ≡ true)
somebody_moves machine x w whole some =
    let part = some-part owed w.places (omega (arith, some, whole.sizes.answers)) in
    by-phase x w whole machine part.0 part.1 part.2 part.3 part.1.phase refl
