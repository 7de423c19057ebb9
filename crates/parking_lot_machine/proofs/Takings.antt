-- What the code of taking finds and leaves.
use Rattle.std.proofs.Common.{◌≡◌, ◌<◌, ℕ, inl, inr, List, length, remove, Option, Some, None, Result, Ok, slice_get}
use Rattle.std.proofs.Common.{slice_set, refl, sym, ap, ◌∙◌, subst}
use Rattle.std.specs.Option.{option_and_then, option_map, option_map_or}
use Rattle.std.proofs.lemmas.List.{length-set}
use Rattle.std.proofs.lemmas.Option.{none-some, same_Some, slice_get_within}
use Rattle.parking_lot_core_model.specs.declared.fault.LotFault.{LotFault}
use Rattle.parking_lot_core_model.specs.declared.place.Phase.TheVariants as phase
use Rattle.parking_lot_core_model.specs.declared.place.Section.{Section}
use Rattle.parking_lot_core_model.specs.declared.place.Taking.{Taking}
use Rattle.parking_lot_core_model.specs.declared.place.Waiter.{Waiter}
use Rattle.parking_lot_core_model.specs.Machine.{Machine, in_phase, section_of, taken, taking_of}
use Rattle.parking_lot_core_model.specs.Places.{passed_of}
use Rattle.parking_lot_core_model.specs.Results.{is_left}
use Rattle.parking_lot_core_model.specs.Sound as lot
use Rattle.parking_lot_core_model.proofs.Kept.{updated_at}
use Rattle.parking_lot_core_model.proofs.Numbers.{count_by-lt}
use Rattle.parking_lot_protocol.specs.declared.act.ActResult.TheVariants as seen
use Rattle.parking_lot_machine_calls.specs.declared.open_call.Call.{Call}
use Rattle.parking_lot_machine_calls.specs.declared.seat.Wakeup.{Wakeup}
use Rattle.parking_lot_machine.specs.NextTakings.{NextTaken}
use Rattle.parking_lot_machine.specs.LotLaws.{IsInside}
use Rattle.parking_lot_machine.specs.Passes.{ArePassed, asks}
use Rattle.parking_lot_machine.specs.Machines.{IsTakenFrom, owes_to, takes_off_by}
use Rattle.parking_lot_machine.specs.Rows.{Rows, State, state, call_at}
use Rattle.parking_lot_machine_calls.specs.CallActs.{hears, key_of, off_list}
use Rattle.parking_lot_machine.specs.RowFits.{FitsTogether, LotFits, is_away, is_off}
use Rattle.parking_lot_machine_calls.specs.Stances.{In, Takes, stance, core_act}
use Rattle.parking_lot_machine.proofs.Calling.{slot}
use Rattle.parking_lot_machine.proofs.LotCalls.{lot_never_refuses}
use Rattle.parking_lot_machine.proofs.TakeLaws.{laws}

module _ (s : State) (t : ℕ) (c : Call) (k : ℕ) (from : stance c.core ≡ In k Takes) where
  -- the section that it is in
  pub its : (h : LotFits s) (here : call_at s t ≡ Some c) → IsInside s t (key_of c k)
  its h here = lot_never_refuses.inside s t c k Takes h here from

  pub has_passed : (h : FitsTogether s) (here : call_at s t ≡ Some c) (o : Section) → section_of s.lot t ≡ Some o
      → ArePassed (asks (core_act c.core)) (s.lot.queues o.key) (passed_of o.phase)
  has_passed h here o there =
      let at = its h.lots here in
      let same = same_Some at.section o (sym at.own ∙ there) in
      subst (λ n. ArePassed (asks (core_act c.core)) (s.lot.queues n) (passed_of o.phase))
      (sym (ap (λ (x : Section). x.key) (sym same) ∙ at.key))
      (h.passes t c k o here from (at.there ∙ ap (λ (x : Section). Some x) same))

  pub same_key : (h : LotFits s) (here : call_at s t ≡ Some c) (o : Section) → section_of s.lot t ≡ Some o
      → o.key ≡ key_of c k
  same_key h here o there = let at = its h here in
      ap (λ (x : Section). x.key) (sym (same_Some at.section o (sym at.own ∙ there))) ∙ at.key

  -- whom it has taken is in a call, and there is room to note it
  module _ (lot : Machine) (taking : Option Taking)
      (next : NextTaken (asks (core_act c.core)) s.lot lot (Ok taking) (key_of c k)) where
    told : Option Taking → List Waiter → Call
    told x queue = hears c (seen.Took (option_map (λ (y : Taking). y.token) x) (is_left queue))

    full : Option Taking → List Waiter → Machine → State
    full x queue l = record s {
      calls = slice_set (option_map_or (takes_off_by t s.calls) x s.calls) t (Some (told x queue));
      wakes = option_map_or (owes_to t s.wakes) x s.wakes;
      lot = l;
    }

    abbrev ok : Option Taking → Result (Option Taking) LotFault
    ok x = Ok x

    same_taking : (x : Option Taking) → ok taking ≡ ok x → taking ≡ x
    same_taking x e = cc

    pub is_taken : (calls : List (Option Call)) (hearing : Call) (wakes : List Wakeup)
        → calls ≡ option_map_or (takes_off_by t s.calls) taking s.calls
        → hearing ≡ hears c
        (seen.Took (option_map (λ (y : Taking). y.token) taking) (is_left (lot.queues (key_of c k))))
        → wakes ≡ option_map_or (owes_to t s.wakes) taking s.wakes
        → IsTakenFrom t c s (record s { calls = slice_set calls t (Some hearing); wakes = wakes; lot = lot })
    unfolding told full
    is_taken calls hearing wakes others own owed =
        let made : List (Option Call) → Call → List Wakeup → State =
        λ cs n ws. record s { calls = slice_set cs t (Some n); wakes = ws; lot = lot } in
        let here : made calls hearing wakes ≡ full taking (lot.queues (key_of c k)) lot =
        ap (λ cs. made cs hearing wakes) others
        ∙ ap (λ n. made (option_map_or (takes_off_by t s.calls) taking s.calls) n wakes) own
        ∙ ap (made (option_map_or (takes_off_by t s.calls) taking s.calls) (told taking (lot.queues (key_of c k)))) owed
        in (
          k,
          from,
          elim next [
            | inl f ↦ inl (
              f.0,
              f.1,
              f.2,
              here ∙ ap (λ x. full x (lot.queues (key_of c k)) lot) (same_taking _ f.3)
                  ∙ ap (λ (l : Machine). full (Some (taking_of s.lot f.1)) (l.queues (key_of c k)) l) f.4
                  ∙ ap (λ q. full (Some (taking_of s.lot f.1)) q
                  (taken (in_phase s.lot (key_of c k) (phase.Taking f.0)) (key_of c k) f.0))
                  (updated_at s.lot.queues (key_of c k) (remove (s.lot.queues (key_of c k)) f.0)),
            )
            | inr f ↦ inr (
              f.0,
              here ∙ ap (λ x. full x (lot.queues (key_of c k)) lot) (same_taking None f.1)
                  ∙ ap (λ (l : Machine). full None (l.queues (key_of c k)) l) f.2,
            )
          ],
        )

    pub has_room : FitsTogether s → call_at s t ≡ Some c → (x : Taking) → taking ≡ Some x → (x.thread < length s.calls)
        × (length s.wakes < length s.calls)
    has_room h here x is = elim next [
      | inl f ↦
          let w = lot_never_refuses.waiters s t c k f.0 f.1 h.lots here from f.2.there in
          let there = slot s.calls (f.1).thread w.call w.there in
          let same : (f.1).thread ≡ x.thread = ap (λ (y : Taking). y.thread)
          (same_Some (taking_of s.lot f.1) x (sym (same_taking _ f.3) ∙ is)) in (
            subst (λ n. n < length s.calls) same (slice_get_within s.calls (f.1).thread (Some w.call) there),
            subst (λ n. n < length s.calls) (sym h.wakes.room)
                (count_by-lt is_away s.calls (f.1).thread (Some w.call) there (ap is_off w.listed)),
          )
      | inr f ↦ absurd (none-some x (sym (same_taking None f.1) ∙ is))
    ]

pub taken_in : {m n : Rows} (t : ℕ) (c : Call) (u : State) → m ≡ n → IsTakenFrom t c (state m) u
    → IsTakenFrom t c (state n) u
taken_in t c u e h = subst (λ (x : Rows). IsTakenFrom t c (state x) u) e h

-- as many calls as before
pub same_slots : (t : ℕ) (calls : List (Option Call)) (taking : Option Taking)
    → length (option_map_or (takes_off_by t calls) taking calls) ≡ length calls
same_slots t calls None = refl
same_slots t calls (Some x) =
    length-set calls x.thread (option_map (off_list t) (option_and_then (λ c. c) (slice_get calls x.thread)))

-- the machine fits after it
pub takes_fit : (s : State) (t : ℕ) (c : Call) (u : State) → IsTakenFrom t c s u → lot.Sound u.lot → FitsTogether s
    → call_at s t ≡ Some c → FitsTogether u
takes_fit s t c u x sound h here = elim x.2 [
  | inl f ↦ subst FitsTogether (sym f.3)
      (laws.take s t c x.0 f.0 f.1 x.1 f.2 (subst lot.Sound (ap (λ (y : State). y.lot) f.3) sound) h here).1.fits
  | inr f ↦ subst FitsTogether (sym f.1)
      (laws.take_nobody s t c x.0 x.1 f.0 (subst lot.Sound (ap (λ (y : State). y.lot) f.1) sound) h here).1.fits
]
