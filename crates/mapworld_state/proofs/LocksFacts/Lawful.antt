-- What a beginning and a step say of the machine, and what they are there: steps of the rules, and paid for.
use Rattle.std.proofs.Common.{◌≡◌, ℕ, Bool, true, false, List, Some, None, refl, sym}
use Rattle.std.proofs.Common.{subst}
use Rattle.std.proofs.lemmas.Option.{none-some}
use Rattle.lock_api_desk.specs.Desk.{DeskState}
use Rattle.parking_lot_protocol.specs.declared.act.Act.{Act}
use Rattle.parking_lot_protocol.specs.declared.act.CoreAnswer.{CoreAnswer}
use Rattle.parking_lot_protocol.specs.declared.act.SectionAct.{SectionAct}
use Rattle.parking_lot_machine_calls.specs.Stances.{core_act}
use Rattle.parking_lot_machine_calls.specs.declared.calls.LockCall.{LockCall}
use Rattle.parking_lot_machine_calls.specs.declared.open_call.Call.{Call}
use Rattle.parking_lot_machine_calls.specs.declared.seat.Core.{Core}
use Rattle.parking_lot_machine.specs.ActLaws.{MayBegin}
use Rattle.parking_lot_machine.specs.Machines.{Became, BecameInside, BecameLate, IsBegun, IsStepped, call_for, can_move}
use Rattle.parking_lot_machine.specs.Machines.{end_of}
use Rattle.parking_lot_machine.specs.RowActs.{begun}
use Rattle.parking_lot_machine.specs.RowFits.{FitsTogether}
use Rattle.parking_lot_machine.specs.Rows.{State, call_at, open_at, state}
use Rattle.parking_lot_machine.proofs.Acting.{laws}
use Rattle.parking_lot_machine.proofs.Requesting.{may_begins}
use Rattle.parking_lot_machine.proofs.Stepping as steps
use Rattle.parking_lot_machine.proofs.WakesPaying.{begins_cost}
use Rattle.mapworld_state.specs.Locks.Fits.{LocksFit}
use Rattle.parking_lot_machine.specs.LateActs.{came_back}
use Rattle.parking_lot_machine.specs.LateLaws.{Expires}
use Rattle.parking_lot_machine.proofs.LateActs.{laws as late_laws}
use Rattle.parking_lot_machine.proofs.LateCalls.{found_sound, quit_sound}
use Rattle.parking_lot_machine.proofs.Stepping.{expires_so}
use Rattle.parking_lot_machine_calls.specs.LateCalls.{comes_late, is_back, late_key}
use Rattle.parking_lot_machine_calls.specs.declared.late_rw.LateRwPhase.{LateRwPhase}
use Rattle.parking_lot_machine_calls.specs.declared.seat.LatePhase.{LatePhase}
use Rattle.parking_lot_machine_calls.specs.declared.seat.QueuePosition.{QueuePosition}
use Rattle.mapworld_state.specs.Locks.Steps.{LockBegins, LockEnds, LockMoves, LockStarts}
use Rattle.mapworld_state.specs.Locks.Views.{Shown}
use Rattle.mapworld_state.proofs.LocksFacts.Answering.{stepped_fits}
use Rattle.mapworld_state.proofs.LocksFacts.Beginning.{begun_fits, may, same_holds}
use Rattle.mapworld_state.proofs.LocksFacts.Keeping.{stepped_plain}
use Rattle.parking_lot_machine.specs.Machines.{IsExpired, may_expire_in}
use Rattle.mapworld_state.specs.Locks.Steps.{LockExpires}
use Rattle.std.proofs.Common.{ap, ◌∙◌}

-- A BEGINNING

pub begins_so : (s u : State) (t i : ℕ) (call : LockCall) → FitsTogether s → MayBegin s t (call_for s t i call)
    → u ≡ begun s t (call_for s t i call) → IsBegun t i call s u
begins_so s u t i call fits may e = subst (IsBegun t i call s) (sym e) (record {
  became = refl;
  acts = laws.begin s t (call_for s t i call) fits may;
  costs = begins_cost s t (call_for s t i call) call fits may refl;
})

pub lawful-begins : (t shard : ℕ) (call : LockCall) (old new : Shown) → LocksFit old → LockBegins t shard call old new
    → IsBegun t shard call (state old.rows) (state new.rows)
lawful-begins t shard call old new fit b =
    begins_so (state old.rows) (state new.rows) t shard call fit.fits
    (may_begins (state old.rows) t shard call fit.fits.rules (may old fit t shard call b.may)) b.became

-- A STEP

module _ (s u : State) (t : ℕ) (fair : Bool) (fits : FitsTogether s) (c : Call)
    (here : call_at s t ≡ Some c) where
  -- One whose deadline has come comes back where nobody is in a section of its bucket, and takes itself out there, or
  -- finds that it was taken.
  back_in : comes_late c.core ≡ true → open_at s (late_key c) ≡ None → (at : QueuePosition) → c.spot ≡ at
      → u ≡ came_back at s t c → IsStepped t fair None s u
  back_in comes free QueuePosition.Listed is e = steps.come_back s u t c fair fits here comes is free e
  back_in comes free (QueuePosition.Off by said) is e =
      steps.find s u t c fair fits here by said comes is free (found_sound s fits t c here by said comes is free) e

  late : can_move s t ≡ true → core_act c.core ≡ Act.Sleep → (k : Core) → c.core ≡ k → BecameLate k t c s u
      → IsStepped t fair None s u
  late can asked (Core.Late LatePhase.Expires) core e =
      let so = steps.comes_so s c (ap is_back core) (steps.can_late s t c can here asked) in
      back_in so.0 so.1 c.spot refl e
  late can asked (Core.Late LatePhase.Quits) core e =
      steps.quit s u t c fair fits here (ap is_back core) (quit_sound s fits t c here (ap is_back core) _) e
  late can asked (Core.LateRw (LateRwPhase.Expires k)) core e =
      let so = steps.comes_so s c (ap is_back core) (steps.can_late s t c can here asked) in
      back_in so.0 so.1 c.spot refl e
  late can asked (Core.LateRw (LateRwPhase.Quits k)) core e =
      steps.quit s u t c fair fits here (ap is_back core) (quit_sound s fits t c here (ap is_back core) _) e
  late can asked k core e = absurd e

  inside : (k : SectionAct) → core_act c.core ≡ Act.Section k → BecameInside k t fair c s u → IsStepped t fair None s u
  inside SectionAct.Check asked h = steps.check s u t c fair fits here asked h
  inside SectionAct.TakeFirst asked h = steps.take_first s u t c fair fits here asked h
  inside (SectionAct.TakeNext sum) asked h = steps.take_next s u t c fair fits here sum asked h
  inside (SectionAct.Append token) asked h = steps.append s u t c fair fits here token asked h
  inside (SectionAct.Store straight handing) asked h = steps.store s u t c fair fits here straight handing asked h
  inside SectionAct.Leave asked h = steps.leave s u t c fair fits here asked h
  inside SectionAct.Wake asked h = steps.wake s u t c fair fits here asked h

  -- one that may be made is a step of the rules
  by_act : (can : can_move s t ≡ true) (a : Act) → core_act c.core ≡ a → Became a t fair c s u
      → IsStepped t fair (end_of a) s u
  by_act can Act.Load asked h = steps.load s u t c fair fits here asked h
  by_act can (Act.Exchange from to) asked h = steps.exchange s u t c fair fits here from to asked h
  by_act can (Act.Add by) asked h = steps.add s u t c fair fits here by asked h
  by_act can (Act.FetchAnd keep) asked h = steps.mask s u t c fair fits here keep asked h
  by_act can Act.Spin asked h = steps.spin s u t c fair fits here asked h
  by_act can (Act.Enter key) asked h = steps.enter s u t c fair fits here key asked
      (steps.can_enter s t c key can here asked) h
  by_act can (Act.Section next) asked h = inside next asked h
  by_act can Act.Sleep asked h = late can asked c.core refl h
  by_act can (Act.Done answer) asked h = steps.answer s u t c fair fits here answer asked h

  -- and so is one that answers
  by_end : (answer : CoreAnswer) (a : Act) → core_act c.core ≡ a → Some answer ≡ end_of a → Became a t fair c s u
      → IsStepped t fair (end_of a) s u
  by_end answer (Act.Done said) asked ends h = steps.answer s u t c fair fits here said asked h
  by_end answer a asked ends h = absurd (none-some answer (sym ends))

pub lawful-moves : (t : ℕ) (fair : Bool) (old new : Shown) → LocksFit old → LockMoves t fair old new
    → IsStepped t fair None (state old.rows) (state new.rows)
lawful-moves t fair old new fit m =
    let x = m.steps in
    subst (λ o. IsStepped t fair o (state old.rows) (state new.rows)) (sym x.answers)
    (by_act (state old.rows) (state new.rows) t fair fit.fits x.call x.here m.can (core_act x.call.core) refl
    x.became)

pub lawful-expires : (t : ℕ) (old new : Shown) → LocksFit old → LockExpires t old new
    → IsExpired t (state old.rows) (state new.rows)
lawful-expires t old new fit e =
    let s = state old.rows in
    let asleep = expires_so e.call (sym (ap may_expire_in e.here) ∙ e.may) in
    record {
      call = e.call;
      here = e.here;
      became = e.became;
      lawful = subst (Expires t e.call s) (sym e.became) (late_laws.expires s t e.call asleep fit.fits e.here);
    }

pub lawful-ends : (t : ℕ) (answer : CoreAnswer) (old new : Shown) → LocksFit old → LockEnds t answer old new
    → IsStepped t false (Some answer) (state old.rows) (state new.rows)
lawful-ends t answer old new fit e =
    let x = e.steps in
    subst (λ o. IsStepped t false o (state old.rows) (state new.rows)) (sym x.answers)
    (by_end (state old.rows) (state new.rows) t false fit.fits x.call x.here answer (core_act x.call.core)
    refl x.answers x.became)

-- THE LOCKS FIT STILL

pub fit-begins : (t shard : ℕ) (call : LockCall) (old new : Shown) → LocksFit old → LockBegins t shard call old new
    → LocksFit new
fit-begins t shard call old new fit b =
    subst (λ (ds : List (DeskState (Unit {0}))). LocksFit (record { rows = new.rows; desks = ds })) (sym b.desks)
    (begun_fits old fit t shard call b.may new.rows (lawful-begins t shard call old new fit b))

pub fit-ends : (t : ℕ) (answer : CoreAnswer) (old new : Shown) → LocksFit old → LockEnds t answer old new → LocksFit new
fit-ends t answer old new fit e =
    let x = lawful-ends t answer old new fit e in
    subst (λ (ds : List (DeskState (Unit {0}))). LocksFit (record { rows = new.rows; desks = ds })) (sym e.desks)
    (same_holds old fit new.rows (stepped_fits (state old.rows) (state new.rows) t false (Some answer) x)
    (stepped_plain (state old.rows) (state new.rows) t false (Some answer) fit.fits fit.plain x) e.whole.kinds
    e.whole.threads
    e.holds)

-- the first act of a call that is begun with it
pub lawful-starts : (t shard : ℕ) (call : LockCall) (fair : Bool) (old new : Shown) → LocksFit old
    → (h : LockStarts t shard call fair old new) → IsStepped t fair None (state h.mid.rows) (state new.rows)
lawful-starts t shard call fair old new fit h =
    lawful-moves t fair h.mid new (fit-begins t shard call old h.mid fit h.begins) h.moves
