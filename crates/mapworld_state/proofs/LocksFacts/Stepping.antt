-- A step of a thread, with its desk: locks and desks fit together afterwards, and what has changed is what the step may
-- change.
use Rattle.std.proofs.Common.{◌≡◌, ◌≢◌, ℕ, ◌<◌, inl, inr, ◌⊎◌, Bool, true, false, List, length, Option, Some}
use Rattle.std.proofs.Common.{None, is_none, slice_get, slice_set, refl, sym, ap, ◌∙◌, subst, arith}
use Rattle.std.specs.Option.{option_and_then, option_map}
use Rattle.std.proofs.lemmas.Bool.{cases_eq, false≢true, cond-true, cond-false}
use Rattle.std.proofs.lemmas.List.{length-set}
use Rattle.std.proofs.lemmas.Option.{none-some, same_Some}
use Rattle.lock_api_desk.specs.declared.mode.Mode.{Mode}
use Rattle.lock_api_desk.specs.declared.mode.Mode.TheVariants as held
use Rattle.lock_api_desk.specs.Desk.{DeskState}
use Rattle.parking_lot_protocol.specs.declared.act.CoreAnswer.{CoreAnswer}
use Rattle.parking_lot_rules.proofs.Indexed.{get-set_same, get-set_other}
use Rattle.parking_lot_machine_calls.specs.Kinds.{recursive_in}
use Rattle.parking_lot_machine_calls.specs.declared.open_call.Call.{Call}
use Rattle.parking_lot_machine_calls.specs.declared.seat.Core.{Core}
use Rattle.parking_lot_machine.specs.Machines.{IsLawful, IsStepped, can_move, end_of, ended}
use Rattle.parking_lot_machine.specs.RowFits.{FitsTogether, IsPrepared}
use Rattle.parking_lot_machine_calls.specs.CallKinds.{IsOfKind}
use Rattle.parking_lot_machine.specs.Rows.{Rows, State, call_at, state, taken_by}
use Rattle.parking_lot_machine.specs.SoundLaws.{Always, OwnersAgree, StepsAreCases}
use Rattle.parking_lot_machine_calls.specs.Stances.{core_act}
use Rattle.mapworld_state.specs.Locks.Aims.{Aim, Gets, GivesUp, Turns, aim_of, is_within}
use Rattle.mapworld_state.specs.Locks.Fits.{DeskFits, IsPlain, LocksFit}
use Rattle.mapworld_state.specs.Locks.Moves.{CanFollow, all_admitted, desk_after, has_left, own_moved}
use Rattle.mapworld_state.specs.Locks.Seats.{seat_of}
use Rattle.mapworld_state.specs.Locks.Stands.{Stand, stand_for, stand_of}
use Rattle.mapworld_state.specs.Locks.Steps.{LockMoves}
use Rattle.mapworld_state.specs.Locks.Views.{Shown, held_at}
use Rattle.mapworld_state.proofs.LocksFacts.Admitting.{AllSeated, IsSeated, seats_all}
use Rattle.mapworld_state.proofs.LocksFacts.Acted.{acted}
use Rattle.mapworld_state.proofs.LocksFacts.Answering.{stepped_fits}
use Rattle.mapworld_state.proofs.LocksFacts.Calls.{stepped_goes}
use Rattle.mapworld_state.proofs.LocksFacts.Ending.{core_within}
use Rattle.mapworld_state.proofs.LocksFacts.Handing.{IsHandedOver, elsewhere, others, own}
use Rattle.mapworld_state.proofs.LocksFacts.Handing.{within_kinds}
use Rattle.mapworld_state.proofs.LocksFacts.Keeping.{stepped_kinds, stepped_plain}
use Rattle.mapworld_state.proofs.LocksFacts.Moving.{Moved, Moves, moved}
use Rattle.mapworld_state.proofs.LocksFacts.Standing.{GoesOnBy, others_stand, own_call}
use Rattle.mapworld_state.proofs.LocksFacts.Together.{go_together, holders_are_threads}
use Rattle.mapworld_state.proofs.LocksFacts.Staging.{asked_within, asking_only, sleeper_asks}
use Rattle.parking_lot_machine.specs.CallLaws.Stages.{core_stage}
use Rattle.parking_lot_machine_calls.specs.Calls.{is_timed}

-- HOLDS WITHIN CALLS

-- it holds nothing beyond what it is about
pub call_within : (s : State) (t : ℕ) (c : Call) → FitsTogether s → IsPlain s → call_at s t ≡ Some c
    → is_within (aim_of c.asked) (held_at s c.lock t) ≡ true
call_within s t c h plain here =
    asked_within c.asked (plain.asked t c here) (is_timed c.asked) (core_stage 0 c.core) (held_at s c.lock t)
    (plain.stands t c here) (core_within s t c h plain here)

never_upgradable : (aim : Aim) → is_within aim (Some held.Upgradable) ≡ false
never_upgradable (Gets held.Shared) = refl
never_upgradable (Gets held.Exclusive) = refl
never_upgradable (Gets held.Upgradable) = refl
never_upgradable (GivesUp held.Shared) = refl
never_upgradable (GivesUp held.Exclusive) = refl
never_upgradable (GivesUp held.Upgradable) = refl
never_upgradable Turns = refl

pub call_plain : (s : State) (t : ℕ) (c : Call) → FitsTogether s → IsPlain s → call_at s t ≡ Some c
    → held_at s c.lock t ≢ Some held.Upgradable
call_plain s t c h plain here e =
    false≢true (sym (never_upgradable (aim_of c.asked)) ∙ ap (is_within (aim_of c.asked)) (sym e)
    ∙ call_within s t c h plain here)

-- one that turns its hold and has turned it holds it still
turns_on : (o : Option Mode) → is_within Turns o ≡ true → o ≢ Some held.Exclusive → o ≡ Some held.Shared
turns_on None is ne = absurd (false≢true is)
turns_on (Some held.Shared) is ne = refl
turns_on (Some held.Exclusive) is ne = absurd (ne refl)
turns_on (Some held.Upgradable) is ne = absurd (false≢true is)

-- where it held and holds no longer
left_so : (a b : Option Mode) → a ≢ None → b ≡ None → has_left a b ≡ true
left_so None b ne none = absurd (ne refl)
left_so (Some m) b ne none = ap is_none none

-- the call that stands so
pub called : (o : Option Call) (st : Stand) → option_map stand_of o ≡ Some st → (c : Call) × (o ≡ Some c)
    × (stand_of c ≡ st)
called None st e = absurd (none-some st e)
called (Some c) st e = (c, refl, same_Some (stand_of c) st e)

-- a step of a call that isn't over gives no answer
pub stepped_open : (s u : State) (t : ℕ) (fair : Bool) (answer : Option CoreAnswer) → ended s t ≡ None
    → IsStepped t fair answer s u → IsStepped t fair None s u
stepped_open s u t fair answer going x =
    let none : answer ≡ None = x.answers ∙ sym (ap (option_and_then (λ c. end_of (core_act c.core))) x.here) ∙ going in
    record {
      call = x.call;
      here = x.here;
      answers = sym none ∙ x.answers;
      became = x.became;
      lawful = subst (λ o. IsLawful t x.call o s u) none x.lawful;
      pays = x.pays;
    }

module _ (laws : StepsAreCases) (agree : Always OwnersAgree) (old : Shown) (fit : LocksFit old) (t : ℕ) (fair : Bool)
    (rows : Rows) (x : IsStepped t fair None (state old.rows) (state rows)) where
  abbrev s : State
  s = state old.rows

  abbrev u : State
  u = state rows

  abbrev c : Call
  c = x.call

  abbrev i : ℕ
  i = c.lock

  fits : FitsTogether u
  fits = stepped_fits s u t fair None x

  plain : IsPlain u
  plain = stepped_plain s u t fair None fit.fits fit.plain x

  kinds_same : u.kinds ≡ s.kinds
  kinds_same = stepped_kinds s u t fair None fit.fits fit.plain x

  count : length u.calls ≡ length s.calls
  count = (stepped_goes s u t fair None x).count

  -- its call goes on
  own_goes : GoesOnBy c (call_at u t)
  own_goes = own_call s u t fair (acted x)

  abbrev d : Call
  d = own_goes.call

  pub in_range : i < length old.desks
  in_range = omega (arith, of c.core (fit.fits.rules.kinds t c x.here), fit.count)
    where
      of : (k : Core) → IsOfKind (slice_get s.kinds i) k → i < length s.kinds
      of (Core.Rw y) e = within_kinds s i _ e
      of (Core.Mutex y) e = within_kinds s i _ e
      of (Core.Late y) e = within_kinds s i _ e
      of (Core.LateRw p) e = within_kinds s i _ e
      of (Core.Upgrade y) e = within_kinds s i _ e

  other : (v : ℕ) → v ≢ t → (held_at u i v ≡ held_at s i v) ⊎ IsHandedOver t i v s u
  other v ne = others laws s u t fair None fit.fits fit.plain.kinds plain.kinds fit.plain.alone fit.plain.cores x v ne

  elsewhere_same : (j v : ℕ) → j ≢ i → held_at u j v ≡ held_at s j v
  elsewhere_same j v ne = elsewhere laws s u t fair None fit.fits fit.plain.kinds plain.kinds fit.plain.alone
      fit.plain.cores x j v ne

  own_kept : held_at s i t ≡ Some held.Shared → held_at u i t ≢ Some held.Exclusive
  own_kept = own laws s u t fair None fit.fits fit.plain.kinds plain.kinds fit.plain.alone fit.plain.cores x

  own_held : held_at u d.lock t ≡ held_at u i t
  own_held = ap (λ n. held_at u n t) own_goes.lock

  -- THE DESK

  module _ (desk : DeskState (Unit {0})) (at : slice_get old.desks i ≡ Some desk) where
    abbrev desk_fit : DeskFits s i desk
    desk_fit = fit.desks_fit i desk at

    moves : Moves (held_at s i) (held_at u i) (length u.calls) t desk
    moves = record {
      seated = desk_fit.seated;
      together = go_together u i plain.kinds (agree u fits);
      low = λ v m e. holders_are_threads u i plain.kinds v m e;
      room = omega (arith, desk_fit.room, count);
      limit = omega (arith, desk_fit.limit, count);
      others = λ v ne. elim (other v ne) [
        | inl same ↦ inl same
        | inr given ↦ inr given.nothing
      ];
      own = own_kept;
      was_plain = call_plain s t c fit.fits fit.plain x.here;
      is_plain = λ e. call_plain u t d fits plain own_goes.there (own_held ∙ e);
    }

    has_moved : Moved (held_at s i) (held_at u i) (length u.calls) t desk
        (own_moved t (held_at s i t) (held_at u i t) desk)
    has_moved = moved (held_at s i) (held_at u i) (length u.calls) t desk moves

    pub can_follow : CanFollow (held_at s i t) (held_at u i) (length u.calls) t desk
    can_follow = record { may = has_moved.may; can = has_moved.can }

    abbrev mid : DeskState (Unit {0})
    mid = own_moved t (held_at s i t) (held_at u i t) desk

    abbrev us : List ℕ
    us = taken_by rows.wakes t

    admits : AllSeated (held_at u i) (length u.calls) us mid (all_admitted (held_at u i) us mid)
    admits = seats_all (held_at u i) (length u.calls) us mid has_moved.can

    abbrev after : DeskState (Unit {0})
    after = desk_after (held_at s i) (held_at u i) t us desk

    DeskIsFit : DeskState (Unit {0}) → Type 0
    DeskIsFit new = DeskFits u i new

    fits_with : (b : Bool) → has_left (held_at s i t) (held_at u i t) ≡ b → DeskFits u i after
    fits_with true e = subst (DeskFits u i) (sym (cond-true _ _ mid e)) (record {
      seated = λ v. elim (cases_eq v t) [
        | inl eq ↦ subst (IsSeated (held_at u i) _) (sym eq) (admits.stay t has_moved.own)
        | inr ne ↦ elim (other v ne) [
          | inl same ↦ admits.stay v (has_moved.others v ne same)
          | inr given ↦ (let (k, there) = given.taken in admits.seat k v there)
        ]
      ];
      room = admits.can.room;
      limit = admits.can.limit;
    })
    fits_with false e = subst (DeskFits u i) (sym (cond-false _ _ mid e)) (record {
      seated = λ v. elim (cases_eq v t) [
        | inl eq ↦ subst (IsSeated (held_at u i) mid.guards) (sym eq) has_moved.own
        | inr ne ↦ elim (other v ne) [
          | inl same ↦ has_moved.others v ne same
          | inr given ↦ absurd (false≢true (sym e ∙ left_so (held_at s i t) (held_at u i t) given.before given.after))
        ]
      ];
      room = has_moved.can.room;
      limit = has_moved.can.limit;
    })

    desk_fits : (j : ℕ) (new : DeskState (Unit {0})) → slice_get (slice_set old.desks i after) j ≡ Some new
        → DeskFits u j new
    desk_fits j new e = elim (cases_eq j i) [
      | inl eq ↦ subst (λ (n : ℕ). DeskFits u n new) (sym eq)
          (subst (DeskFits u i)
          (same_Some after new
          (sym (get-set_same old.desks i desk after at) ∙ ap (slice_get (slice_set old.desks i after)) (sym eq)
          ∙ e)) (fits_with (has_left (held_at s i t) (held_at u i t)) refl))
      | inr ne ↦ (let was = fit.desks_fit j new (sym (get-set_other old.desks i j after (λ q. ne (sym q))) ∙ e) in
          record {
            seated = λ v. was.seated v ∙ ap (seat_of v) (sym (elsewhere_same j v ne));
            room = omega (arith, was.room, count);
            limit = omega (arith, was.limit, count);
          })
    ]

    module _ (desks : List (DeskState (Unit {0}))) (is : desks ≡ slice_set old.desks i after) where
      abbrev new : Shown
      new = record { rows = rows; desks = desks }

      pub stepped_fit : LocksFit new
      stepped_fit = record {
        fits = fits;
        plain = plain;
        count = ap length is ∙ length-set old.desks i after ∙ fit.count ∙ ap length (sym kinds_same);
        desks_fit = λ j y e. desk_fits j y (ap (λ ds. slice_get ds j) (sym is) ∙ e);
        together = λ j. go_together u j plain.kinds (agree u fits);
      }

      -- WHAT HAS CHANGED

      kept : (v j : ℕ) (m : Mode) → v ≢ t → held_at s j v ≡ Some m → held_at u j v ≡ Some m
      kept v j m ne e = elim (cases_eq j i) [
        | inl eq ↦ elim (other v ne) [
          | inl same ↦ ap (λ n. held_at u n v) eq ∙ same ∙ ap (λ n. held_at s n v) (sym eq) ∙ e
          | inr given ↦ absurd (none-some m (sym given.nothing ∙ ap (λ n. held_at s n v) (sym eq) ∙ e))
        ]
        | inr apart ↦ elsewhere_same j v apart ∙ e
      ]

      stands_same : (v : ℕ) → v ≢ t → option_map stand_of (call_at u v) ≡ option_map stand_of (call_at s v)
      stands_same = others_stand s u t fair None x

      -- one that is handed the lock has asked for it
      handed_gets : (v : ℕ) (m : Mode) → v ≢ t → (given : IsHandedOver t i v s u) → held_at u i v ≡ Some m
          → aim_of given.call.asked ≡ Gets m
      handed_gets v m ne given e =
          let (y, there, same) = called (call_at u v) (stand_of given.call)
          (stands_same v ne ∙ ap (option_map stand_of) given.there) in
          let lock : y.lock ≡ i = ap (λ (z : Stand). z.shard) same ∙ given.lock in
          let fits_in : is_within (aim_of given.call.asked) (Some m) ≡ true =
          ap (λ a. is_within a (Some m)) (sym (ap (λ (z : Stand). z.aim) same))
          ∙ ap (is_within (aim_of y.asked)) (sym (ap (λ n. held_at u n v) lock ∙ e))
          ∙ call_within u v y fits plain there in
          asking_only given.call.asked (fit.plain.asked v given.call given.there) (core_stage 0 given.call.core)
          (is_timed given.call.asked) (fit.plain.stands v given.call given.there)
          (sleeper_asks (is_timed given.call.asked) (recursive_in s.kinds given.call.lock) 0 given.call.core given.key
          given.token (fit.plain.cores v given.call given.there)
          (subst (λ n. IsPrepared (recursive_in s.kinds given.call.lock) n given.call.core)
          (fit.plain.alone v given.call given.there) (fit.fits.rules.prepared v given.call given.there)) given.asleep)
          m fits_in

      gained : (v j : ℕ) (m : Mode) → v ≢ t → held_at u j v ≡ Some m
          → (held_at s j v ≡ Some m)
          ⊎ ((sv : Stand) × (option_map stand_of (call_at s v) ≡ Some sv) × (sv.shard ≡ j) × (sv.aim ≡ Gets m))
      gained v j m ne e = elim (cases_eq j i) [
        | inl eq ↦ elim (other v ne) [
          | inl same ↦ inl (ap (λ n. held_at s n v) eq ∙ sym same ∙ ap (λ n. held_at u n v) (sym eq) ∙ e)
          | inr given ↦ inr (
            stand_of given.call,
            ap (option_map stand_of) given.there,
            given.lock ∙ sym eq,
            handed_gets v m ne given (ap (λ n. held_at u n v) (sym eq) ∙ e),
          )
        ]
        | inr apart ↦ inl (sym (elsewhere_same j v apart) ∙ e)
      ]

      turned : aim_of c.asked ≡ Turns → held_at s i t ≡ Some held.Shared → held_at u i t ≡ Some held.Shared
      turned aim was = turns_on (held_at u i t)
          (ap (is_within Turns) (sym own_held)
          ∙ ap (λ a. is_within a (held_at u d.lock t)) (sym (ap aim_of own_goes.asked ∙ aim))
          ∙ call_within u t d fits plain own_goes.there) (own_kept was)

      pub stepped_moves : can_move s t ≡ true → LockMoves t fair old new
      stepped_moves can = record {
        stand = stand_of c;
        stood = ap (option_map stand_of) x.here;
        can = can;
        steps = acted x;
        whole = record { threads = count; kinds = kinds_same };
        desk = desk;
        at_shard = at;
        desks = is;
        stands = ap (option_map stand_of) own_goes.there ∙ ap (λ n. Some (stand_for n d.asked)) own_goes.lock
            ∙ ap (λ a. Some (stand_for i a)) own_goes.asked;
        others = stands_same;
        kept = kept;
        gained = gained;
        elsewhere = λ j ne. elsewhere_same j t ne;
        apart = λ v j ne. elsewhere_same j v ne;
        turned = turned;
      }
