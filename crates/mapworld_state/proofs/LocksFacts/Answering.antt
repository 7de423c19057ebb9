-- A step that answers a call leaves every thread's holds, and every step keeps the machine fit.
use Rattle.std.proofs.Common.{◌≡◌, ℕ, inl, inr, Bool, Option, Some, None, sym, ap, ◌∙◌}
use Rattle.std.proofs.lemmas.Bool.{cases_eq}
use Rattle.std.proofs.lemmas.Option.{none-some}
use Rattle.parking_lot_protocol.specs.declared.act.Act.{Act}
use Rattle.parking_lot_protocol.specs.declared.act.CoreAnswer.{CoreAnswer}
use Rattle.parking_lot_machine_calls.specs.declared.open_call.Call.{Call}
use Rattle.parking_lot_machine.specs.Machines.{Became, IsStepped, end_of}
use Rattle.parking_lot_machine.specs.RowActs.{answered}
use Rattle.parking_lot_machine.specs.RowFits.{FitsTogether}
use Rattle.parking_lot_machine.specs.Rows.{State}
use Rattle.parking_lot_machine.specs.SoundLaws.{StepsAreCases}
use Rattle.parking_lot_machine_calls.specs.Stances.{core_act}
use Rattle.mapworld_state.specs.Locks.Fits.{IsPlain}
use Rattle.mapworld_state.specs.Locks.Views.{held_at}
use Rattle.mapworld_state.proofs.LocksFacts.Ending.{answered_holds}
use Rattle.mapworld_state.proofs.LocksFacts.Handing.{others}
use Rattle.mapworld_state.proofs.LocksFacts.Keeping.{stepped_plain}

pub stepped_fits : (s u : State) (t : ℕ) (fair : Bool) (answer : Option CoreAnswer) → IsStepped t fair answer s u
    → FitsTogether u
stepped_fits s u t fair None x = x.lawful.1.fits
stepped_fits s u t fair (Some end) x = x.lawful.fits

-- which act a step with an answer is
pub is_answer : (s u : State) (t : ℕ) (fair : Bool) (c : Call) (end : CoreAnswer) (a : Act) → Some end ≡ end_of a
    → Became a t fair c s u → u ≡ answered s t c
is_answer s u t fair c end Act.Load e b = absurd (none-some end (sym e))
is_answer s u t fair c end (Act.Exchange from to) e b = absurd (none-some end (sym e))
is_answer s u t fair c end (Act.Add by) e b = absurd (none-some end (sym e))
is_answer s u t fair c end (Act.FetchAnd keep) e b = absurd (none-some end (sym e))
is_answer s u t fair c end Act.Spin e b = absurd (none-some end (sym e))
is_answer s u t fair c end (Act.Enter key) e b = absurd (none-some end (sym e))
is_answer s u t fair c end (Act.Section next) e b = absurd (none-some end (sym e))
is_answer s u t fair c end Act.Sleep e b = absurd (none-some end (sym e))
is_answer s u t fair c end (Act.Done answer) e b = b

pub answer_leaves_holds : (laws : StepsAreCases) (s u : State) (t : ℕ) (fair : Bool) (end : CoreAnswer) → FitsTogether s
    → IsPlain s → (x : IsStepped t fair (Some end) s u) → (v : ℕ) → held_at u x.call.lock v ≡ held_at s x.call.lock v
answer_leaves_holds laws s u t fair end h plain x v =
    let is = is_answer s u t fair x.call end (core_act x.call.core) x.answers x.became in
    let own : held_at u x.call.lock t ≡ held_at s x.call.lock t = ap (λ w. held_at w x.call.lock t) is
    ∙ answered_holds s t x.call end h plain x.here x.answers in
    elim (cases_eq v t) [
      | inl e ↦ ap (held_at u x.call.lock) e ∙ own ∙ ap (held_at s x.call.lock) (sym e)
      | inr ne ↦ elim (others laws s u t fair (Some end) h plain.kinds
          (stepped_plain s u t fair (Some end) h plain x).kinds plain.alone plain.cores x v ne) [
            | inl same ↦ same
            | inr given ↦ absurd (given.before (sym own ∙ given.after))
          ]
    ]
