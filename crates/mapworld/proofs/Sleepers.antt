-- Where a thread waits that sleeps: in one of the two queues of the lock that it asks for.
use Rattle.std.proofs.Common.{◌≡◌, ◌⊎◌, ℕ, ◌+◌, ◌==◌, ◌&&◌, inl, inr, true, false, Some, refl, ap, ◌∙◌, arith}
use Rattle.std.specs.Option.{option_map_or}
use Rattle.std.proofs.lemmas.Bool.{eq-eqb}
use Rattle.lock_api_desk.specs.declared.mode.Mode.{Mode}
use Rattle.parking_lot_core_model.specs.declared.parking.ParkToken.{ParkToken}
use Rattle.parking_lot_rules.specs.Classes.{bit}
use Rattle.parking_lot_rules.specs.Lists.{occurs}
use Rattle.parking_lot_machine_calls.specs.declared.open_call.Call.{Call}
use Rattle.parking_lot_machine_calls.specs.declared.seat.QueuePosition.{QueuePosition}
use Rattle.parking_lot_machine.specs.Machines.{is_asleep}
use Rattle.parking_lot_machine.specs.Rows.{State, call_at, state, queue_at, first_key, second_key}
use Rattle.parking_lot_machine.specs.SoundLaws.{waits_as, waits_in}
use Rattle.parking_lot_machine_calls.specs.Stances.{Asleep, stance}
use Rattle.mapworld_state.specs.Locks.Aims.{Gets, aim_of}
use Rattle.mapworld_state.specs.Locks.Counts.{QueuesAreWaiters}
use Rattle.mapworld_state.specs.Locks.Fits.{LocksFit}
use Rattle.mapworld_state.specs.Locks.Views.{Shown}
use Rattle.mapworld.proofs.ProgressFacts.Sleepers.{sleeper as sleeps-on}
use Rattle.mapworld.specs.Asleep.{IsWaiting}

-- the call in which a thread sleeps
pub record Sleeper (locks : Shown) (t : ℕ) : Type 0 where
  pub call : Call
  pub there : call_at (state locks.rows) t ≡ Some call
  pub mode : Mode
  pub aim_is : aim_of call.asked ≡ Gets mode
  pub waits : IsWaiting locks t call.lock

module _ (lists : QueuesAreWaiters) (locks : Shown) (fit : LocksFit locks) (t : ℕ) where
  abbrev s : State
  s = state locks.rows

  stands : (c : Call) (k key : ℕ) (token : ParkToken) → call_at s t ≡ Some c → c.spot ≡ QueuePosition.Listed
      → stance c.core ≡ Asleep key token
      → waits_in s c.lock k t ≡ (key == k)
  stands c k key token there listed asleep =
      ap (λ o. option_map_or (λ (d : Call). (d.lock == c.lock) && waits_as k d.spot (stance d.core)) o false) there
      ∙ (ap (λ b. b && waits_as k c.spot (stance c.core)) (same c.lock)
      ∙ (ap (λ at. waits_as k at (stance c.core)) listed ∙ ap (λ st. waits_as k QueuePosition.Listed st) asleep))
    where
      same : (n : ℕ) → (n == n) ≡ true
      same n = eq-eqb n n refl

  listed_once : (c : Call) (key : ℕ) (token : ParkToken) → call_at s t ≡ Some c → c.spot ≡ QueuePosition.Listed
      → stance c.core ≡ Asleep key token → (key ≡ 0) ⊎ (key ≡ 1)
      → occurs t (queue_at s (first_key c.lock)) + occurs t (queue_at s (second_key c.lock)) ≡ 1
  listed_once c key token there listed asleep low =
      let first = (lists locks fit).first c.lock t ∙ ap bit (stands c 0 key token there listed asleep) in
      let second = (lists locks fit).second c.lock t ∙ ap bit (stands c 1 key token there listed asleep) in
      elim low [
        | inl e ↦ let a = first ∙ ap (λ (n : ℕ). bit (n == 0)) e in let b = second
            ∙ ap (λ (n : ℕ). bit (n == 1)) e in omega (arith, a, b)
        | inr e ↦ let a = first ∙ ap (λ (n : ℕ). bit (n == 0)) e in let b = second
            ∙ ap (λ (n : ℕ). bit (n == 1)) e in omega (arith, a, b)
      ]

  waits_by : (c : Call) (at : QueuePosition) (key : ℕ) (token : ParkToken) → call_at s t ≡ Some c → c.spot ≡ at
      → stance c.core ≡ Asleep key token → (key ≡ 0) ⊎ (key ≡ 1) → IsWaiting locks t c.lock
  waits_by c QueuePosition.Listed key token there spot asleep low = inl (listed_once c key token there spot asleep low)
  waits_by c (QueuePosition.Off by said) key token there spot asleep low = inr
      (by, fit.fits.wakes.off t by c said there spot)

  pub sleeper : is_asleep (state locks.rows) t ≡ true → Sleeper locks t
  sleeper h =
      let a = sleeps-on locks fit t h in
      let c = a.0 in
      let on = a.2 in
      record {
        call = c;
        there = a.1;
        mode = on.mode;
        aim_is = on.aim_is;
        waits = waits_by c c.spot on.key on.token
            a.1 refl on.stance_is on.low;
      }
