-- A call that ran to its end has an answer, which it may give.
use Rattle.std.proofs.Common.{◌≡◌, ℕ, List, [], ◌∷◌, Some, refl, sym, ap, ◌∙◌, subst}
use Rattle.parking_lot_driver.specs.Runs.{IsRun, WasTold, told_all}
use Rattle.parking_lot_protocol.specs.Acts.{Gives}
use Rattle.parking_lot_protocol.specs.declared.act.Act.{Act}
use Rattle.parking_lot_protocol.specs.declared.act.Act.TheVariants.{Done}
use Rattle.parking_lot_protocol.specs.declared.act.ActResult.{ActResult}
use Rattle.parking_lot_protocol.specs.declared.act.ActResult.TheVariants.{Start, Word}
use Rattle.parking_lot_protocol.specs.declared.act.CoreAnswer.{CoreAnswer}
use Rattle.parking_lot_rules.specs.declared.once.wish.Wish.{Wish}
use Rattle.parking_lot_protocol_waits.specs.declared.once.once_phase.OnceAnswer.{OnceAnswer}
use Rattle.parking_lot_protocol_waits.specs.declared.once.once_phase.OnceAnswer.TheVariants.{Completed}
use Rattle.parking_lot_protocol_waits.specs.declared.once.once_phase.OncePhase.{OncePhase}
use Rattle.parking_lot_protocol_waits.specs.declared.once.once_phase.OncePhase.TheVariants.{Asking}
use Rattle.parking_lot_protocol_waits.specs.Once.OnceTable.{act_of, answer_of, next_phase}
use Rattle.parking_lot_protocol_waits.specs.Once.OnceAnswers.{IsUnderWay, MayAnswer}
use Rattle.parking_lot_protocol_waits.proofs.OnceFacts.OnceAnswering.{goes_on, ends_by_an_answer}
use Rattle.parking_lot_mutex.specs.declared.once.calls.RowCore.{RowCore}
use Rattle.parking_lot_mutex.specs.Once.OnceRuns.{Answered}

-- a core on a row that was told so much more, and the act that it has asked for
abbrev pub told : RowCore → ActResult → RowCore
told row seen = record row { core = record row.core { phase = next_phase row.core.phase seen } }

abbrev pub asks : RowCore → Act
asks row = act_of row.core.phase

-- what a core on a row was told its phase was told
same : (c : RowCore) (seen : List ActResult) → (told_all told c seen).core.phase ≡ told_all next_phase c.core.phase seen
same c [] = refl
same c (s ∷ before) = ap (λ p. next_phase p s) (same c before)

runs : (c : RowCore) (seen : List ActResult) → IsRun told asks c seen → IsRun next_phase act_of c.core.phase seen
runs c [] run = tt
runs c (s ∷ before) run =
    ((run.0.0, subst (λ p. Gives (act_of p) run.0.0 s) (same c before) run.0.1), runs c before run.1)

stays : (begun : OncePhase) (seen : List ActResult) → IsUnderWay begun (next_phase begun Start)
    → IsRun next_phase act_of begun seen → IsUnderWay begun (told_all next_phase begun seen)
stays begun [] first run = first
stays begun (s ∷ before) first run = goes_on begun (told_all next_phase begun before) s run.0.0
    (stays begun before first run.1) run.0.1

pub answered : (c r : RowCore) (answer : OnceAnswer) → WasTold told asks c r → answer_of r.core.phase ≡ Some answer
    → Answered c.core.phase answer
unfolding Answered
answered c r answer was e =
    (was.0, runs c was.0 was.1, ap answer_of (sym (same c was.0) ∙ sym (ap (λ (x : RowCore). x.core.phase) was.2)) ∙ e)

pub ends : (c r : RowCore) (end : CoreAnswer) → IsUnderWay c.core.phase (next_phase c.core.phase Start)
    → WasTold told asks c r → asks r ≡ Done end
    → (answer : OnceAnswer) × (answer_of r.core.phase ≡ Some answer) × MayAnswer c.core.phase answer
ends c r end first was e =
    ends_by_an_answer r.core.phase c.core.phase end
    (subst (λ p. IsUnderWay c.core.phase p) (sym (ap (λ (x : RowCore). x.core.phase) was.2 ∙ same c was.0))
    (stays c.core.phase was.0 first (runs c was.0 was.1))) e

-- one look that shows that a closure has ended well
pub completed : (wish : Wish) (word : ℕ) → word ≡ 1 → Answered (Asking wish) Completed
unfolding Answered
completed wish word e =
    (Word word ∷ [], ((word, refl), tt), ap (λ n. answer_of (next_phase (next_phase (Asking wish) Start) (Word n))) e)
