use Rattle.std.proofs.Common.{◌∙◌, ◌∷◌, ◌≡◌, ◌+◌, ap, arith, inl, inr, refl, sym, subst}
use Rattle.parking_lot_driver.specs.Runs.{is_on_the_word, passes}
use Rattle.parking_lot_driver.specs.Tries.{Admitted, Refused, WasToldOf}
use Rattle.parking_lot_protocol.specs.Acts.{Gives}
use Rattle.parking_lot_protocol.specs.declared.act.ActResult.TheVariants.{Exchanged, Word}
use Rattle.parking_lot_driver.proofs.place.Place.go_on_trying.Goals.{in-Load, in-Exchange+in-Err}
use Rattle.parking_lot_driver.proofs.place.Place.go_on_trying.Goals as goal

-- it came to an act that would admit a reader too many
pub returns-then-is_full-clause-refused : goal.returns-then-is_full-clause-refused
unfolding Refused
returns-then-is_full-clause-refused g c = (
  c.loop-made.core,
  (c.requires.first, (c.loop-made._made, omega (arith, c.loop-made-test.true), c.loop-made.invariant.0)),
  inl (inr (ap (passes c.args.self.now.limit) (sym c.act-act.ensures) ∙ sym c.is_full.ensures ∙ c.if-is_full.true)),
)

-- the exchange that it asks for is one of its own
pub step-requires-clause-may : goal.step-requires-clause-may
step-requires-clause-may g c =
    (g.met.K.TryCall.exchanges c.loop-made.core c.in-Exchange.from c.in-Exchange.to c.loop-made.invariant.1
    (sym c.act-act.ensures ∙ c.in-Exchange.is)).0

-- the exchange was won, and the core owns the lock
pub returns-in-Ok-clause-admitted : goal.returns-in-Ok-clause-admitted
unfolding Admitted
returns-in-Ok-clause-admitted g c =
    let core = c.loop-made.core in
    let from = c.in-Exchange.from in
    let told = g.C.DecisionCore.told in
    let asks = sym c.act-act.ensures ∙ c.in-Exchange.is in
    let run = c.loop-made.invariant.0 in (
      told core Exchanged,
      (
        c.requires.first,
        (
          c.loop-made._made + 1,
          omega (arith, c.loop-made-test.true),
          (
            Exchanged ∷ run.0,
            (
              (from, subst (λ act. Gives act from Exchanged) (sym (sym (ap g.C.DecisionCore.asks run.2) ∙ asks)) refl),
              run.1,
            ),
            ap (λ core. told core Exchanged) run.2,
            omega (arith, run.3),
          ),
        ),
      ),
      (g.met.K.TryCall.exchanges core from c.in-Exchange.to c.loop-made.invariant.1 asks).1,
    )

-- it came to its refusal
pub returns-in_default-clause-refused : goal.returns-in_default-clause-refused
unfolding Refused
returns-in_default-clause-refused g c = (
  c.loop-made.core,
  (c.requires.first, (c.loop-made._made, omega (arith, c.loop-made-test.true), c.loop-made.invariant.0)),
  inl (inl (g.met.K.TryCall.is_over c.loop-made.core c.loop-made.invariant.1
      (λ load. c.in_default.not-Load (c.act-act.ensures ∙ load))
      (λ from to exchange. c.in_default.not-Exchange from to (c.act-act.ensures ∙ exchange)))),
)

-- the act on the word gave what the core is told next, and it tries still
pub loop-made-preserved : goal.loop-made-preserved
loop-made-preserved g c =
    let core = c.loop-made.core in
    let told = g.C.DecisionCore.told in
    let run = c.loop-made.invariant.0 in
    let tries = c.loop-made.invariant.1 in
    elim c.match-act.branch [
      | in-Load w ↦
          let asks = sym c.act-act.ensures ∙ w.in-Load.is in
          let asked = sym (ap g.C.DecisionCore.asks run.2) ∙ asks in
          let seen = w.load.result in
          let new = w.core-is ∙ w.next.ensures.core in (
            (
              Word seen ∷ run.0,
              (
                (seen, subst (λ act. Gives act seen (Word seen)) (sym asked) refl),
                run.1,
              ),
              new ∙ ap (λ old. told old (Word seen)) run.2,
              omega (arith, run.3),
            ),
            subst g.K.TryCall.trying (sym new) (g.met.K.TryCall.goes_on core seen tries (ap is_on_the_word asks)),
            subst (λ had. g.K.TryCall.is_of had c.args.self.now.row.now.shared.now.word) (sym w.kept-is)
                c.loop-made.invariant.2,
          )
      | in-Exchange+in-Err w ↦
          let asks = sym c.act-act.ensures ∙ w.in-Exchange.is in
          let asked = sym (ap g.C.DecisionCore.asks run.2) ∙ asks in
          let seen = w.in-Err.seen in
          let new = w.core-is ∙ w.next-in-Err.ensures.core in (
            (
              Word seen ∷ run.0,
              (
                (
                  seen,
                  subst (λ act. Gives act seen (Word seen)) (sym asked) (refl, w.in-Err.ensures.lost),
                ),
                run.1,
              ),
              new ∙ ap (λ old. told old (Word seen)) run.2,
              omega (arith, run.3),
            ),
            subst g.K.TryCall.trying (sym new) (g.met.K.TryCall.goes_on core seen tries (ap is_on_the_word asks)),
            subst (λ had. g.K.TryCall.is_of had c.args.self.now.row.now.shared.now.word) (sym w.kept-is)
                (subst (g.K.TryCall.is_of w.in-Err.had) w.word-in-Exchange.ensures w.in-Err.ensures.kept),
          )
    ]

-- all acts were made, and the last one doesn't own the lock
pub returns-clause-refused : goal.returns-clause-refused
unfolding Refused
returns-clause-refused g c =
    let all : c.loop-made._made ≡ 65 =
    omega (arith, c.loop-made-test.false, c.loop-made.auto._made-end, c.requires.few) in (
      c.loop-made.core,
      (c.requires.first, (c.loop-made._made, omega (arith, all), c.loop-made.invariant.0)),
      inr (subst (λ count. WasToldOf g.C.DecisionCore.told g.C.DecisionCore.asks g.K.Call.begun count c.loop-made.core)
          all c.loop-made.invariant.0),
    )
