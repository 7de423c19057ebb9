use Rattle.std.proofs.Common.{◌∙◌, ◌∷◌, ℕ, ap, sym, subst}
use Rattle.parking_lot_protocol.specs.Timed.TimedTable.{Gives}
use Rattle.parking_lot_protocol_rw.specs.Timed.TimedTable.{timed_asks, timed_told}
use Rattle.parking_lot_driver.proofs.timed_call.TimedRun.told.Goals as goal

-- the act gave what the core is told next
pub invariant_of-self : goal.invariant_of-self
invariant_of-self g c =
    let told = c.self.invariant in
    let asked = c.asked.ensures ∙ ap (λ run. timed_asks run.1) (sym c.self.view_is) ∙ ap timed_asks told.2 in (
      c.args.seen ∷ told.0,
      (subst (λ act. (word : ℕ) × Gives act word c.args.seen) asked (c.in-Some._word, c.in-Some.ensures), told.1),
      ap (λ phase. record { phase = phase }) c.next.ensures.phase ∙ ap (λ core. timed_told core c.args.seen) told.2,
    )
