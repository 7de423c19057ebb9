-- Where nobody can move, all is done.
use Rattle.std.proofs.Common.{◌≡◌, ℕ, zero, suc, ◌/◌, ◌%◌, ◌≤◌, inl, inr, false, List, [], ◌∷◌, Option, None, Some}
use Rattle.std.proofs.Common.{length, slice_get, refl, sym, ap, ◌∙◌, subst, arith}
use Rattle.std.specs.Option.{option_and_then, option_map}
use Rattle.std.proofs.lemmas.Bool.{cond-true, eq-eqb, false≢true}
use Rattle.std.proofs.lemmas.List.{length-drop, nil_from_length}
use Rattle.std.proofs.lemmas.Option.{none-some, slice_get_cases}
use Rattle.lock_api_desk.specs.declared.mode.Mode.{Mode as DeskMode}
use Rattle.lock_api_desk.specs.declared.mode.Mode.TheVariants as held
use Rattle.lock_api_desk.specs.Desk.{DeskState}
use Rattle.lock_api_desk.specs.Guards.{Guard as DeskGuard}
use Rattle.parking_lot_core_model.specs.declared.place.Section.{Section}
use Rattle.parking_lot_rules.specs.Any.{AnySound}
use Rattle.parking_lot_rules.specs.Lock.{IsSound}
use Rattle.parking_lot_rules.specs.Roles.{Idle, Role, away}
use Rattle.parking_lot_rules.proofs.Following.{nothing_is_left}
use Rattle.parking_lot_machine.proofs.LotActs.{no_section}
use Rattle.parking_lot_machine.proofs.RwMoving.{number-word}
use Rattle.parking_lot_machine_calls.specs.declared.seat.Hold.{Hold as LockHold}
use Rattle.parking_lot_machine_calls.specs.declared.open_call.Call.{Call}
use Rattle.parking_lot_machine_calls.specs.CallViews.{rw_mode}
use Rattle.parking_lot_machine.specs.RowFits.{SeatedIn}
use Rattle.parking_lot_machine.specs.Rows.{call_at, entered_in, first_key, hold_at, queue_at, rw_lock_at}
use Rattle.parking_lot_machine.specs.Rows.{rw_role_at, rw_role_in, second_key, state, taken_by, word_at}
use Rattle.parking_lot_machine_calls.specs.CallRoles.{owned_of}
use Rattle.parking_lot_machine.specs.Rows as rows
use Rattle.parking_lot_machine.specs.SoundLaws.{Always, SomebodyCanMove}
use Rattle.mapworld_calls.specs.Setup.{Setup, session_of}
use Rattle.mapworld_state.specs.Locks.Seats.{guards_of, is_of, seat_of}
use Rattle.mapworld_state.specs.Locks.Stands.{stand_in, stand_of}
use Rattle.mapworld_state.specs.Locks.Views.{held_as, owner_in}
use Rattle.mapworld_state.proofs.LocksFacts.Handing.{is_rw}
use Rattle.mapworld_state.proofs.LocksFacts.Lists.{among_all}
use Rattle.mapworld_state.proofs.LocksFacts.Together.{holders_are_threads}
use Rattle.mapworld_state.specs.declared.place.Phase.{Phase}
use Rattle.mapworld_state.specs.declared.place.Phase.TheVariants as phase
use Rattle.mapworld_state.specs.Core.{owed, owes}
use Rattle.mapworld_state.specs.Places.{Place}
use Rattle.mapworld_state.specs.Running.{can_move_in, unanswered_of}
use Rattle.mapworld_state.specs.Sound.{HasNoWalk, IsInSession, Stands, Walks}
use Rattle.mapworld_state.specs.State.{State, threads_of}
use Rattle.mapworld_state.proofs.HoldsTable.{none-there}
use Rattle.mapworld_calls.proofs.Lists.{sum_by-at}
use Rattle.mapworld_state.proofs.InvariantFacts.Building.{claim-at, taken-at}
use Rattle.mapworld_state.proofs.InvariantFacts.Holding.{stand-at}
use Rattle.mapworld.specs.Progress.Whole.{IsWhole}
use Rattle.mapworld.specs.Progress.Rest.{HasEnded, IsAtRest}
use Rattle.mapworld.proofs.ProgressFacts.Moving.{session-goes, somebody_moves}
use Rattle.mapworld.proofs.ProgressFacts.Turning.{beyond-no-call, no-stand, place-there}

-- one that owes no answer is between two calls
rests : {K V D T A : Type 0} (f : Phase K V D T A) → owes f ≡ 0 → f ≡ phase.Rest
rests phase.Rest none = refl
rests (phase.Admit r) none = absurd (omega (arith, none))
rests (phase.Find r) none = absurd (omega (arith, none))
rests (phase.Grow c) none = absurd (omega (arith, none))
rests (phase.Append k v) none = absurd (omega (arith, none))
rests (phase.Apply k) none = absurd (omega (arith, none))
rests (phase.View k d) none = absurd (omega (arith, none))
rests (phase.Read d) none = absurd (omega (arith, none))
rests (phase.Change h) none = absurd (omega (arith, none))
rests (phase.Fill v) none = absurd (omega (arith, none))
rests phase.Downgrade none = absurd (omega (arith, none))
rests (phase.Idle f) none = absurd (omega (arith, none))
rests (phase.Reach f) none = absurd (omega (arith, none))
rests (phase.Part f) none = absurd (omega (arith, none))
rests (phase.Visit f) none = absurd (omega (arith, none))
rests (phase.Seek f) none = absurd (omega (arith, none))
rests (phase.Item f) none = absurd (omega (arith, none))
rests (phase.Give f) none = absurd (omega (arith, none))
rests (phase.Onward f) none = absurd (omega (arith, none))
rests (phase.Release a) none = absurd (omega (arith, none))
rests (phase.Answer a) none = absurd (omega (arith, none))

-- one that owns nothing and does nothing is away
gone : (h : LockHold) → held_as (rw_mode (record { owns = owned_of h; does = Idle })) ≡ None
    → record { owns = owned_of h; does = Idle } ≡ away
gone LockHold.Excludes none = absurd (none-some held.Exclusive (sym none))
gone LockHold.Upgrades none = absurd (none-some held.Upgradable (sym none))
gone (LockHold.Shares zero) none = refl
gone (LockHold.Shares (suc n)) none = absurd (none-some held.Shared (sym none))

-- where no party has a guard there is none
no-guards : (guards : List DeskGuard) → ((party : ℕ) → guards_of party guards ≡ []) → guards ≡ []
no-guards [] none = refl
no-guards (g ∷ guards) none =
    let some : g ∷ guards_of g.party guards ≡ [] =
    sym (cond-true (is_of g.party g) (g ∷ guards_of g.party guards) (guards_of g.party guards)
    (eq-eqb g.party g.party refl)) ∙ none g.party in
    absurd cc

module _ {K V S D T A : Type 0} (machine : Always SomebodyCanMove) (x : Setup K V D T) (w : State K V S D T A)
    (whole : IsWhole x w) (stops : (t : ℕ) → can_move_in w t ≡ false) where
  abbrev s : rows.State
  s = state w.locks.rows

  none-left : (n : ℕ) → unanswered_of w ≡ n → n ≡ 0
  none-left zero is = refl
  none-left (suc n) is = let some = somebody_moves machine x w whole (omega (arith, is)) in
      absurd (false≢true (sym (stops some.0) ∙ some.1))

  answered : unanswered_of w ≡ 0
  answered = none-left (unanswered_of w) refl

  module _ (t : ℕ) (p : Place K V D T A) (at : slice_get w.places t ≡ Some p) where
    owes-none : owed p ≡ 0
    owes-none = omega (arith, sum_by-at owed w.places t p at, whole.sizes.answers, answered)

    rests-here : p.phase ≡ phase.Rest
    rests-here = rests p.phase (omega (arith, owes-none))

    abbrev stands : Stands x (threads_of w) w.blocks w.replies w.tables t p
    stands = whole.sound.stands t p at

    no-asks : p.asks ≡ []
    no-asks = nil_from_length p.asks (omega (arith, owes-none))

    past : length stands.program ≤ p.next
    past =
        let left = taken-at x (threads_of w) w.blocks w.replies w.tables t p phase.Rest rests-here stands in
        omega (arith, owes-none, ap (λ xs. length xs) left, length-drop p.next stands.program)

    outside : (o : Option ℕ) → session_of x t p.next ≡ o → IsInSession x w.blocks w.tables t p p.next o p.block
        → p.guard ≡ None
    outside None is h = h.0
    outside (Some c) is h = absurd (omega (arith, past, session-goes x w whole t p at c is))

    ended : HasEnded p
    ended =
        let claim = claim-at x (threads_of w) w.blocks w.replies w.tables t p phase.Rest rests-here stands in
        let guard = outside (session_of x t p.next) refl claim.2 in
        let walks : HasNoWalk p = subst (λ (f : Phase K V D T A). Walks x w.blocks w.tables t p f) rests-here
        stands.walks in
        record {
          asks = no-asks;
          rests = rests-here;
          holds = claim.1 guard;
          guard = guard;
          visits = walks.visits;
          reads = walks.reads;
        }

    stand-none : stand_in w.locks t ≡ None
    stand-none = stand-at w.places w.locks whole.sound.holds t p at phase.Rest rests-here

    unowned-here : (shard : ℕ) (m : DeskMode) → owner_in w.locks shard t ≡ Some m → ⊥
    unowned-here shard m owns = elim (whole.sound.holds.known t shard p m at owns) [
      | inl among ↦ none-there p.holds among.index among.hold ended.holds among.there
      | inr there ↦ none-some there.0 (sym stand-none ∙ there.1)
    ]

  calls : (t : ℕ) → stand_in w.locks t ≡ None
  calls t = elim (slice_get_cases w.places t).1 [
    | inl at ↦ stand-none t at.0 at.2
    | inr beyond ↦ ap (option_map stand_of)
        (beyond-no-call s t (omega (arith, beyond.0, whole.sizes.locks.threads_are)) (call_at s t) refl)
  ]

  out : (t : ℕ) → call_at s t ≡ None
  out t = no-stand x w whole t (calls t)

  unowned : (shard t : ℕ) (o : Option DeskMode) → owner_in w.locks shard t ≡ o → o ≡ None
  unowned shard t None is = refl
  unowned shard t (Some m) is =
      let at = place-there w.places t
      (omega (arith, holders_are_threads s shard whole.locks.plain.kinds t m is, whole.sizes.locks.threads_are)) in
      absurd (unowned-here t at.0 at.1 shard m is)

  owners : (shard t : ℕ) → owner_in w.locks shard t ≡ None
  owners shard t = unowned shard t (owner_in w.locks shard t) refl

  -- THE LOCKS

  module _ (shard : ℕ) where
    away-there : (t : ℕ) (r : Role) → slice_get (rw_lock_at s shard).roles t ≡ Some r → r ≡ away
    away-there t r there =
        let here : r ≡ rw_role_at s shard t = (among_all (rw_role_at s shard) (length s.calls) t r there).1 in
        let idle : rw_role_at s shard t ≡ record { owns = owned_of (hold_at s t shard); does = Idle } =
        ap (rw_role_in shard (taken_by s.wakes t) (hold_at s t shard)) (out t) in
        let mode : held_as (rw_mode r) ≡ None =
        sym (ap (λ o. held_as (option_and_then rw_mode o)) there) ∙ owners shard t in
        here ∙ (idle ∙ gone (hold_at s t shard) (sym (ap (λ q. held_as (rw_mode q)) (here ∙ idle)) ∙ mode))

    sound : IsSound (rw_lock_at s shard)
    sound = subst AnySound (is_rw s whole.locks.plain.kinds shard) (whole.locks.fits.rules.sound.sound shard)

    word-none : word_at s shard ≡ 0
    word-none = sym (number-word (word_at s shard)) ∙ (nothing_is_left (rw_lock_at s shard) sound away-there).0

    first-none : queue_at s (first_key shard) ≡ []
    first-none = (nothing_is_left (rw_lock_at s shard) sound away-there).1

    second-none : queue_at s (second_key shard) ≡ []
    second-none = (nothing_is_left (rw_lock_at s shard) sound away-there).2

    desk-none : (desk : DeskState (Unit {0})) → slice_get w.locks.desks shard ≡ Some desk → desk.guards ≡ []
    desk-none desk at =
        no-guards desk.guards
        (λ party. (whole.locks.desks_fit shard desk at).seated party ∙ ap (seat_of party) (owners shard party))

  -- each key is the first or the second of a shard
  queue-none : (key half : ℕ) → key % 2 ≡ half → queue_at s key ≡ []
  queue-none key zero even = let is : first_key (key / 2) ≡ key = omega (arith, even) in
      subst (λ k. queue_at s k ≡ []) is (first-none (key / 2))
  queue-none key (suc n) odd = let is : second_key (key / 2) ≡ key = omega (arith, odd) in
      subst (λ k. queue_at s k ≡ []) is (second-none (key / 2))

  section-none : (bucket : ℕ) (o : Option Section) → s.lot.sections bucket ≡ o → entered_in s bucket ≡ None
  section-none bucket None is = ap (option_and_then (λ (section : Section). section.thread)) is
  section-none bucket (Some section) is =
      let opened = whole.locks.fits.lots.opened bucket section is in
      let seated = subst (λ (o : Option Call). SeatedIn s.lot opened.0 o) (out opened.0)
      (whole.locks.fits.lots.seated opened.0 opened.2) in
      absurd (no_section s whole.locks.fits.lots opened.0 bucket section seated.1 is opened.1)

  pub ends_at_rest : IsAtRest w
  ends_at_rest = record {
    answered = answered;
    places = ended;
    locks = record {
      calls = calls;
      owners = owners;
      words = word-none;
      queues = λ key. queue-none key (key % 2) refl;
      sections = λ bucket. section-none bucket (s.lot.sections bucket) refl;
      desks = desk-none;
    };
  }
