-- Where a lock's word isn't 0, somebody owns the lock or is in a call there, and it isn't one that only tries.
use Rattle.std.proofs.Common.{◌≡◌, ◌≢◌, ℕ, zero, suc, ◌<◌, ◌⊎◌, inl, inr, Bool, true, false, cond, ◌==◌, List, length}
use Rattle.std.proofs.Common.{Option, Some, None, slice_get, refl, sym, ap, ◌∙◌, subst, arith}
use Rattle.std.specs.Option.{option_and_then}
use Rattle.std.proofs.lemmas.Bool.{false≢true, eqb-false, eqb-true}
use Rattle.std.proofs.lemmas.Option.{none-some, same_Some}
use Rattle.lock_api_desk.specs.declared.mode.Mode.{Mode}
use Rattle.lock_api_desk.specs.declared.mode.Mode.TheVariants as held
use Rattle.parking_lot_rules.specs.Any.{AnySound}
use Rattle.parking_lot_rules.specs.Classes.{Class, Readers, Upgraders, Pending, Writers, Inside1, Inside2, Waiting1}
use Rattle.parking_lot_rules.specs.Classes.{Waiting2, Joining1, Joining2, Masking, Owing1, Owing2, Called, OpenReaders}
use Rattle.parking_lot_rules.specs.Classes.{OpenUpgraders, OpenWriters, TakenReaders, TakenUpgraders, TakenWriters}
use Rattle.parking_lot_rules.specs.Classes.{Strange, total, weight}
use Rattle.parking_lot_rules.specs.Clauses.{number}
use Rattle.parking_lot_rules.specs.Lock.{Lock, IsSound}
use Rattle.parking_lot_rules.specs.Roles as rules
use Rattle.parking_lot_rules.specs.Roles.{Role, Shares, Excludes, Idle, Seeks, away}
use Rattle.parking_lot_rules.proofs.Finding.{none_or, somebody}
use Rattle.parking_lot_rules.proofs.Totals.{away_weighs}
use Rattle.parking_lot_protocol.specs.declared.rw_phase.RwPhase.{RwPhase}
use Rattle.parking_lot_protocol.specs.RwRules as of_rw
use Rattle.parking_lot_machine_calls.specs.declared.open_call.Call.{Call}
use Rattle.parking_lot_machine_calls.specs.declared.seat.Core.{Core}
use Rattle.parking_lot_machine_calls.specs.declared.seat.Hold.{Hold}
use Rattle.parking_lot_machine_calls.specs.declared.seat.QueuePosition.{QueuePosition}
use Rattle.parking_lot_machine.specs.Rows.{State, call_at, hold_at, rw_lock_at, rw_role_at, rw_role_in, state, taken_by}
use Rattle.parking_lot_machine.specs.Rows.{word_at}
use Rattle.parking_lot_machine_calls.specs.CallRoles.{owned_of, rw_core_role, rw_spot}
use Rattle.parking_lot_machine_calls.specs.CallViews.{rw_mode}
use Rattle.parking_lot_machine.proofs.RwMoving.{number-word}
use Rattle.mapworld_state.specs.Locks.Fits.{LocksFit}
use Rattle.mapworld_state.proofs.InvariantFacts.CausesFacts.Trying.{core_tries, is_trying}
use Rattle.mapworld_state.specs.Locks.Views.{Shown, held_as, owner_in}
use Rattle.mapworld_state.proofs.LocksFacts.Handing.{is_rw}
use Rattle.mapworld_state.proofs.LocksFacts.Lists.{among_all}

-- somebody who counts in a class
pub record Counts (l : Lock) : Type 0 where
  pub class : Class
  pub thread : ℕ
  pub role : Role
  pub listed : slice_get l.roles thread ≡ Some role
  pub some : 0 < weight class role

pub counts : (l : Lock) → IsSound l → number l.word ≢ 0 → Counts l
counts l sound word = by (none_or (n Readers)) (none_or (n Upgraders)) (none_or (n Pending)) (none_or (n Writers))
    (none_or (n Waiting1)) (none_or (n Waiting2)) (none_or (n Owing1)) (none_or (n Owing2)) (none_or (n Masking))
  where
    n : Class → ℕ
    n c = total c l.roles

    at : (c : Class) → 0 < total c l.roles → Counts l
    at c some = let u = somebody c l.roles some in
        record { class = c; thread = u.0; role = u.1; listed = u.2; some = u.3 }

    by : (n Readers ≡ 0) ⊎ (0 < n Readers) → (n Upgraders ≡ 0) ⊎ (0 < n Upgraders) → (n Pending ≡ 0) ⊎ (0 < n Pending)
        → (n Writers ≡ 0) ⊎ (0 < n Writers)
        → (n Waiting1 ≡ 0) ⊎ (0 < n Waiting1) → (n Waiting2 ≡ 0) ⊎ (0 < n Waiting2) → (n Owing1 ≡ 0) ⊎ (0 < n Owing1)
        → (n Owing2 ≡ 0) ⊎ (0 < n Owing2)
        → (n Masking ≡ 0) ⊎ (0 < n Masking) → Counts l
    by (inr some) b c d e f g h i = at Readers some
    by (inl a) (inr some) c d e f g h i = at Upgraders some
    by (inl a) (inl b) (inr some) d e f g h i = at Pending some
    by (inl a) (inl b) (inl c) (inr some) e f g h i = at Writers some
    by (inl a) (inl b) (inl c) (inl d) (inr some) f g h i = at Waiting1 some
    by (inl a) (inl b) (inl c) (inl d) (inl e) (inr some) g h i = at Waiting2 some
    by (inl a) (inl b) (inl c) (inl d) (inl e) (inl f) (inr some) h i = at Owing1 some
    by (inl a) (inl b) (inl c) (inl d) (inl e) (inl f) (inl g) (inr some) i = at Owing2 some
    by (inl a) (inl b) (inl c) (inl d) (inl e) (inl f) (inl g) (inl h) (inr some) = at Masking some
    by (inl a) (inl b) (inl c) (inl d) (inl e) (inl f) (inl g) (inl h) (inl i) =
        absurd (word (omega (arith, sound.fits, a, b, c, d, e, f, g, h, i)))

-- one that only asks counts nowhere
asks-weighs : (c : Class) (m : rules.Mode) → weight c (record { owns = Shares 0; does = Seeks m false }) ≡ 0
unfolding weight
asks-weighs Readers m = refl
asks-weighs Upgraders m = refl
asks-weighs Pending m = refl
asks-weighs Writers m = refl
asks-weighs Inside1 m = refl
asks-weighs Inside2 m = refl
asks-weighs Waiting1 m = refl
asks-weighs Waiting2 m = refl
asks-weighs Joining1 m = refl
asks-weighs Joining2 m = refl
asks-weighs Masking m = refl
asks-weighs Owing1 m = refl
asks-weighs Owing2 m = refl
asks-weighs Called m = refl
asks-weighs OpenReaders m = refl
asks-weighs OpenUpgraders m = refl
asks-weighs OpenWriters m = refl
asks-weighs TakenReaders m = refl
asks-weighs TakenUpgraders m = refl
asks-weighs TakenWriters m = refl
asks-weighs Strange m = refl

-- and one that owns something, in no call, owns it in a mode
idle-owns : (c : Class) (h : Hold) → 0 < weight c (record { owns = owned_of h; does = Idle }) → (m : Mode)
    × (held_as (rw_mode (record { owns = owned_of h; does = Idle })) ≡ Some m)
idle-owns c (Hold.Shares zero) some = absurd (omega (arith, some, away_weighs c))
idle-owns c (Hold.Shares (suc n)) some = (held.Shared, refl)
idle-owns c Hold.Excludes some = (held.Exclusive, refl)
idle-owns c Hold.Upgrades some = (held.Upgradable, refl)

-- what somebody has to do with a lock: it owns it and is in no call there, or is in a call there that isn't a try
-- without success
pub data IsThere (sh : Shown) (i t : ℕ) : Type 0 where
  owns : (m : Mode) → owner_in sh i t ≡ Some m → ((c : Call) → call_at (state sh.rows) t ≡ Some c → c.lock ≢ i)
      → IsThere sh i t
  calls : (c : Call) → call_at (state sh.rows) t ≡ Some c → c.lock ≡ i → core_tries c.core ≡ false → IsThere sh i t

-- a try has nothing to do with it yet
tries-nothing : (n : ℕ) (k : Core) (at : QueuePosition) (us : List ℕ) → n ≡ 0 → core_tries k ≡ true → (c : Class)
    → weight c (rw_core_role n at us k) ≡ 0
tries-nothing n (Core.Mutex k) at us none tries c = absurd (false≢true tries)
tries-nothing n (Core.Late k) at us none tries c = absurd (false≢true tries)
tries-nothing n (Core.LateRw k) at us none tries c = absurd (false≢true tries)
tries-nothing n (Core.Upgrade k) at us none tries c = absurd (false≢true tries)
tries-nothing n (Core.Rw k) at us none tries c = by k.phase tries ∙ refl
  where
    asks : (m : rules.Mode) → weight c (record { owns = Shares n; does = Seeks m false }) ≡ 0
    asks m = ap (λ i. weight c (record { owns = Shares i; does = Seeks m false })) none ∙ asks-weighs c m

    by : (p : RwPhase) → is_trying p ≡ true → weight c (of_rw.role n (rw_spot at) us p) ≡ 0
    by (RwPhase.Trying want) h = ap (λ i. weight c (record { owns = Shares i; does = Idle })) none ∙ away_weighs c
    by (RwPhase.TryLoads want) h = asks (of_rw.mode_of want)
    by (RwPhase.TryAdmits want word left) h = asks (of_rw.mode_of want)
    by (RwPhase.Refuses want) h = asks (of_rw.mode_of want)
    by p h = absurd cc

module _ (sh : Shown) (fit : LocksFit sh) (i : ℕ) (word : word_at (state sh.rows) i ≢ 0) where
  abbrev s : State
  s = state sh.rows

  pub sound : IsSound (rw_lock_at s i)
  sound = subst AnySound (is_rw s fit.plain.kinds i) (fit.fits.rules.sound.sound i)

  abbrev pub one : Counts (rw_lock_at s i)
  one = counts (rw_lock_at s i) sound (λ none. word (sym (number-word (word_at s i)) ∙ none))

  abbrev pub who : ℕ
  who = one.thread

  here : one.role ≡ rw_role_at s i who
  here = (among_all (rw_role_at s i) (length s.calls) who one.role one.listed).1

  idle : ((c : Call) → call_at s who ≡ Some c → c.lock ≢ i)
      → rw_role_at s i who ≡ record { owns = owned_of (hold_at s who i); does = Idle } → IsThere sh i who
  idle out is =
      let m = idle-owns one.class (hold_at s who i) (subst (λ (r : Role). 0 < weight one.class r) (here ∙ is) one.some)
      in
      owns m.0 (ap (λ o. held_as (option_and_then rw_mode o)) (one.listed ∙ ap Some (here ∙ is)) ∙ m.1) out

  in-call : (c : Call) → call_at s who ≡ Some c → (b : Bool) → (c.lock == i) ≡ b → IsThere sh i who
  in-call c at false is =
      idle (λ d there same. absurd (eqb-false c.lock i is (ap (λ z. z.lock) (same_Some c d (sym at ∙ there)) ∙ same)))
      (ap (rw_role_in i (taken_by s.wakes who) (hold_at s who i)) at
      ∙ ap (λ b. cond b (rw_core_role c.others c.spot (taken_by s.wakes who) c.core)
      (record { owns = owned_of (hold_at s who i); does = Idle })) is)
  in-call c at true is = by (core_tries c.core) refl
    where
      role : one.role ≡ rw_core_role c.others c.spot (taken_by s.wakes who) c.core
      role = here ∙ ap (rw_role_in i (taken_by s.wakes who) (hold_at s who i)) at
          ∙ ap (λ b. cond b (rw_core_role c.others c.spot (taken_by s.wakes who) c.core)
          (record { owns = owned_of (hold_at s who i); does = Idle })) is

      by : (b : Bool) → core_tries c.core ≡ b → IsThere sh i who
      by false e = calls c at (eqb-true c.lock i is) e
      by true e = absurd
          (omega (
            arith,
            one.some,
            ap (weight one.class) role,
            tries-nothing c.others c.core c.spot (taken_by s.wakes who) (fit.plain.alone who c at) e one.class,
          ))

  pub there : IsThere sh i who
  there = by (call_at s who) refl
    where
      by : (o : Option Call) → call_at s who ≡ o → IsThere sh i who
      by None at = idle (λ d there same. none-some d (sym at ∙ there))
          (ap (rw_role_in i (taken_by s.wakes who) (hold_at s who i)) at)
      by (Some c) at = in-call c at (c.lock == i) refl
