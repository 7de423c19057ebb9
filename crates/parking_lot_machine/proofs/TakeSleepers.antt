-- Who waits in a list of a reader-writer lock, and how it sleeps.
use Rattle.std.proofs.Common.{◌≡◌, ℕ, List, Some, slice_get, sym, ap, ◌∙◌}
use Rattle.parking_lot_core_model.specs.declared.place.Waiter.{Waiter}
use Rattle.parking_lot_machine.proofs.KindTable.{RwCall, of_rws, rw_call}
use Rattle.parking_lot_machine.proofs.Meeting.{meets}
use Rattle.parking_lot_machine.proofs.RwSleeps.{CallSleeps, call_sleeps}
use Rattle.parking_lot_machine.proofs.TakeParts.{the_sleeper, waits_so}
use Rattle.parking_lot_machine_calls.specs.Kinds.{AsRw, manner_of, recursive_in}
use Rattle.parking_lot_machine_calls.specs.CallActs.{key_of}
use Rattle.parking_lot_machine.specs.RowFits.{FitsTogether}
use Rattle.parking_lot_machine.specs.Rows.{State, call_at, taken_by}
use Rattle.parking_lot_machine_calls.specs.Stances.{Takes, In, stance}
use Rattle.parking_lot_machine_calls.specs.declared.open_call.Call.{Call}

module _ (s : State) (t : ℕ) (c : Call) (k nth : ℕ) (w : Waiter) (from : stance c.core ≡ In k Takes)
    (at : slice_get (s.lot.queues (key_of c k)) nth ≡ Some w) (h : FitsTogether s) (here : call_at s t ≡ Some c) where
  abbrev ws : List ℕ
  ws = taken_by s.wakes w.thread

  abbrev z : Call
  z = (the_sleeper s t c k nth w from at h here).call

  -- who waits there, and how it sleeps
  pub rw_waits : manner_of (slice_get s.kinds c.lock) ≡ Some AsRw → (y : RwCall) × (z.core ≡ rw_call y)
      × CallSleeps z.others ws y k w.token
  rw_waits is =
      let o = waits_so s t c k nth w from at h here of_rws is in
      let x = the_sleeper s t c k nth w from at h here in (
        o.0,
        o.1,
        call_sleeps (recursive_in s.kinds z.lock) z.others ws o.0 k w.token
            (meets s h w.thread z o.0 o.1 x.there).stands (ap stance (sym o.1) ∙ x.asleep),
      )
