-- What is done stays done, and answers fit their calls.
use Rattle.std.proofs.Common.{◌≡◌, ℕ, inl, inr, Bool, true, false, cond, [], ◌∷◌, Option, Some, None, refl, sym, ap}
use Rattle.std.proofs.Common.{◌∙◌, subst}
use Rattle.std.specs.Option.{option_and_then}
use Rattle.std.proofs.lemmas.Bool.{cases_eq}
use Rattle.std.proofs.lemmas.Option.{none-some, same_Some}
use Rattle.parking_lot_rules.specs.declared.once.once_state.OnceState.{OnceState}
use Rattle.parking_lot_rules.specs.declared.once.once_state.OnceState.TheVariants.{Done}
use Rattle.parking_lot_rules.specs.Once.Once.{Once, Step, IsSound}
use Rattle.parking_lot_rules.proofs.OnceFacts.History as history
use Rattle.parking_lot_protocol_waits.specs.declared.once.once_phase.OnceAnswer.{OnceAnswer}
use Rattle.parking_lot_protocol_waits.specs.declared.once.once_phase.OnceAnswer.TheVariants as end
use Rattle.parking_lot_protocol_waits.specs.declared.once.once_phase.OncePhase.{OncePhase}
use Rattle.parking_lot_protocol_waits.specs.declared.once.once_phase.OncePhase.TheVariants.{Asking, Finishes, Ends}
use Rattle.parking_lot_protocol_waits.specs.Once.OnceAnswers.{MayAnswer}
use Rattle.parking_lot_protocol_waits.specs.Once.OnceTable.{answer_of}
use Rattle.parking_lot_machine_sides.specs.declared.once.calls.OnceCall.{OnceCall}
use Rattle.parking_lot_machine_sides.specs.declared.once.calls.OnceReply.{OnceReply}
use Rattle.parking_lot_machine_sides.specs.declared.once.calls.OnceReply.TheVariants as reply
use Rattle.parking_lot_machine_sides.specs.Once.OnceActs.{replied}
use Rattle.parking_lot_machine_sides.specs.Once.OnceCalls.{ends_well, ran_or_failed, reply_by, wish_of}
use Rattle.parking_lot_machine_sides.specs.Once.OnceFits.{Fits, GoesOn}
use Rattle.parking_lot_machine_sides.specs.Once.OnceMachineLasting.{DoneStays, IsDone, MayReply, RepliesFit}
use Rattle.parking_lot_machine_sides.specs.Once.OnceSteps.{HasMade, IsLawful}
use Rattle.parking_lot_machine_sides.specs.Once.Onces.{Onces, once_at}

keeps : (t : ℕ) (step : Option Step) (m n : Once) → IsSound m → HasMade t step m n → m.word.state ≡ Done
    → n.word.state ≡ Done
keeps t None m n sound made e = ap (λ (x : Once). x.word.state) made ∙ e
keeps t (Some step) m n sound made e = (history.done_stays m sound e ((t, step) ∷ []) n made).0

lasts : (s u : Onces) (t once i : ℕ) (step : Option Step) → Fits s → IsLawful t once step s u → IsDone s i → IsDone u i
lasts s u t once i step fits lawful e = elim (cases_eq i once) [
  | inl same ↦ subst (IsDone u) (sym same)
      (keeps t step (once_at s once) (once_at u once) (fits.sound once) lawful.here (subst (IsDone s) same e))
  | inr ne ↦ ap (λ (x : Once). x.word.state) (lawful.there i ne) ∙ e
]

pub done_stays : DoneStays
done_stays = record {
  steps = λ s u t i reply fits stepped e. lasts s u t stepped.call.once i stepped.step fits stepped.lawful e;
  begins = λ s u t once i call fits begun e. lasts s u t once i _ fits begun.lawful e;
}

same_reply : (a b : OnceReply) → Some a ≡ Some b → a ≡ b
same_reply a b e = same_Some a b e

ran_fits : (call : OnceCall) (before : OnceState) (well : Bool) → ends_well call ≡ well
    → MayAnswer (Asking (wish_of call)) (end.Runs before) → MayReply call (cond well (reply.Ran before) reply.Failed)
ran_fits call before true e may = (may.0, e, may.1)
ran_fits call before false e may = (may.0, e)

-- how a call may be answered, by how its core has ended
fits_by : (call : OnceCall) (before : OnceState) (o : Option OnceAnswer) (answer : OnceReply)
    → Some answer ≡ option_and_then (reply_by call before) o
    → (o ≡ Some end.Poisoned → (wish_of call).force ≡ false)
    → (o ≡ Some end.Finished → MayAnswer (Asking (wish_of call)) (end.Runs before)) → MayReply call answer
fits_by call before None answer e poisoned finished = absurd (none-some answer (sym e))
fits_by call before (Some (end.Runs state)) answer e poisoned finished = absurd (none-some answer (sym e))
fits_by call before (Some end.Completed) answer e poisoned finished =
    subst (MayReply call) (sym (same_reply answer reply.Completed e)) tt
fits_by call before (Some end.Poisoned) answer e poisoned finished =
    subst (MayReply call) (sym (same_reply answer reply.Poisoned e)) (poisoned refl)
fits_by call before (Some end.Finished) answer e poisoned finished =
    subst (MayReply call) (sym (same_reply answer (ran_or_failed call before) e))
    (ran_fits call before (ends_well call) refl (finished refl))

poisoned_so : (call : OnceCall) (before : OnceState) (p : OncePhase) → GoesOn call before p
    → answer_of p ≡ Some end.Poisoned → (wish_of call).force ≡ false
poisoned_so call before (Ends end.Poisoned) (inl h) e = h
poisoned_so call before (Ends end.Poisoned) (inr h) e = absurd h.0
poisoned_so call before p h e = absurd cc

finished_so : (call : OnceCall) (before : OnceState) (p : OncePhase) → GoesOn call before p
    → answer_of p ≡ Some end.Finished → MayAnswer (Asking (wish_of call)) (end.Runs before)
finished_so call before Finishes (inl h) e = absurd h
finished_so call before Finishes (inr h) e = h.1
finished_so call before (Ends end.Finished) (inl h) e = absurd h
finished_so call before (Ends end.Finished) (inr h) e = h.1
finished_so call before p h e = absurd cc

pub replies_fit : RepliesFit
replies_fit s u t c answer fits here stepped =
    let same : stepped.call ≡ c = same_Some stepped.call c (sym stepped.here ∙ here) in
    let goes : GoesOn c.call c.before c.core.phase = (fits.seated t c here).goes in
    fits_by c.call c.before (answer_of c.core.phase) answer (stepped.replies ∙ ap replied same)
    (poisoned_so c.call c.before c.core.phase goes) (finished_so c.call c.before c.core.phase goes)
