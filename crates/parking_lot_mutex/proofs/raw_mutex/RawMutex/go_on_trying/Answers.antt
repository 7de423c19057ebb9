use Rattle.std.proofs.Common.{◌∙◌, ◌∷◌, ◌≡◌, ◌+◌, ap, arith, inl, inr, refl, sym, subst}
use Rattle.parking_lot_driver.specs.Ends.{mutex_asks, mutex_told}
use Rattle.parking_lot_driver.specs.Runs.{is_on_the_word}
use Rattle.parking_lot_driver.specs.Tries.{Admitted, Refused, WasToldOf}
use Rattle.parking_lot_mutex.proofs.Trying.{asks_to_lock, goes_on, is_over}
use Rattle.parking_lot_mutex.specs.Owning.{IsTrying}
use Rattle.parking_lot_protocol.specs.Acts.{Gives}
use Rattle.parking_lot_protocol.specs.declared.act.ActResult.TheVariants.{Exchanged, Word}
use Rattle.parking_lot_protocol.specs.declared.mutex_phase.MutexPhase.TheVariants.{Trying}
use Rattle.parking_lot_mutex.proofs.raw_mutex.RawMutex.go_on_trying.Goals.{in-Load, in-Exchange+in-Err}
use Rattle.parking_lot_mutex.proofs.raw_mutex.RawMutex.go_on_trying.Goals as goal

-- the exchange was won, and the core owns the mutex
pub returns-in-Ok-clause-admitted : goal.returns-in-Ok-clause-admitted
unfolding Admitted
returns-in-Ok-clause-admitted g c =
    let core = c.loop-made.core in
    let asks = sym c.act.ensures ∙ c.in-Exchange.is in
    let run = c.loop-made.invariant.0 in (
      mutex_told core Exchanged,
      (
        refl,
        (
          c.loop-made._made + 1,
          omega (arith, c.loop-made-test.true),
          (
            Exchanged ∷ run.0,
            (
              (
                c.in-Exchange.from,
                subst (λ act. Gives act c.in-Exchange.from Exchanged) (sym (sym (ap mutex_asks run.2) ∙ asks)) refl,
              ),
              run.1,
            ),
            ap (λ told. mutex_told told Exchanged) run.2,
            omega (arith, run.3),
          ),
        ),
      ),
      (asks_to_lock core.phase c.in-Exchange.from c.in-Exchange.to c.loop-made.invariant.1 asks).1,
    )

-- it came to its refusal
pub returns-in_default : goal.returns-in_default
unfolding Refused
returns-in_default g c =
    let over =
    is_over c.loop-made.core.phase c.loop-made.invariant.1 (λ load. c.in_default.not-Load (c.act.ensures ∙ load))
    (λ from to exchange. c.in_default.not-Exchange from to (c.act.ensures ∙ exchange)) in
    record {
      owner = tt;
      admitted = tt;
      refused = (
        c.loop-made.core,
        (refl, (c.loop-made._made, omega (arith, c.loop-made-test.true), c.loop-made.invariant.0)),
        inl (inl over),
      );
    }

-- the act on the word gave what the core is told next, and it tries still
pub loop-made-preserved : goal.loop-made-preserved
loop-made-preserved g c =
    let core = c.loop-made.core in
    let run = c.loop-made.invariant.0 in
    let tries = c.loop-made.invariant.1 in
    elim c.match-act.branch [
      | in-Load w ↦
          let asks = sym c.act.ensures ∙ w.in-Load.is in
          let told = sym (ap mutex_asks run.2) ∙ asks in
          let seen = w.load.result in
          let new = w.core-is ∙ w.next.ensures.core in (
            (
              Word seen ∷ run.0,
              ((seen, subst (λ act. Gives act seen (Word seen)) (sym told) refl), run.1),
              new ∙ ap (λ old. mutex_told old (Word seen)) run.2,
              omega (arith, run.3),
            ),
            subst (λ now. IsTrying now.phase) (sym new) (goes_on core.phase seen tries (ap is_on_the_word asks)),
          )
      | in-Exchange+in-Err w ↦
          let asks = sym c.act.ensures ∙ w.in-Exchange.is in
          let told = sym (ap mutex_asks run.2) ∙ asks in
          let seen = w.in-Err.seen in
          let new = w.core-is ∙ w.next-in-Err.ensures.core in (
            (
              Word seen ∷ run.0,
              ((seen, subst (λ act. Gives act seen (Word seen)) (sym told) (refl, w.in-Err.ensures.lost)), run.1),
              new ∙ ap (λ old. mutex_told old (Word seen)) run.2,
              omega (arith, run.3),
            ),
            subst (λ now. IsTrying now.phase) (sym new) (goes_on core.phase seen tries (ap is_on_the_word asks)),
          )
    ]

-- all acts were made, and the last one doesn't own the mutex
pub returns-clause-refused : goal.returns-clause-refused
unfolding Refused
returns-clause-refused g c =
    let all : c.loop-made._made ≡ 65 =
    omega (arith, c.loop-made-test.false, c.loop-made.auto._made-end, c.requires.few) in (
      c.loop-made.core,
      (refl, (c.loop-made._made, omega (arith, all), c.loop-made.invariant.0)),
      inr (subst (λ count. WasToldOf mutex_told mutex_asks (record { phase = Trying }) count c.loop-made.core) all
          c.loop-made.invariant.0),
    )
