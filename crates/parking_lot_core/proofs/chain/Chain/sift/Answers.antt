use Rattle.std.proofs.Common.{◌≡◌, ◌∙◌, ◌==◌, sym, true, of_calls, eq-eqb}
use Rattle.parking_lot_core.proofs.Sifts.{sifted_unpark, sifted_skip, sifted_stop, sifted_end}
use Rattle.parking_lot_core.proofs.chain.Chain.sift.Goals as goal

pub loop-first-preserved-in-Unpark : goal.loop-first-preserved-in-Unpark
loop-first-preserved-in-Unpark g c =
    let here : (c.in-Some.first.key == c.args.key)
    ≡ true = eq-eqb c.in-Some.first.key c.args.key c.if-first-key.false in (
      search of_calls,
      sifted_unpark (goal.F-step g) c.args.filter c.args.key c.args.self.now c.args.to.now
          c.loop-first.filter c.filter.new.self c.loop-first.self c.loop-first.passed
          c.loop-first.to c.in-Some.first c.move_first-in-Unpark.new.self
          c.move_first-in-Unpark.new.to c.loop-first.invariant.1 (sym c.head.ensures ∙ c.in-Some.is) here
          c.in-Unpark.ensures c.move_first-in-Unpark.ensures.left c.move_first-in-Unpark.ensures.to,
    )

pub loop-first-preserved : goal.loop-first-preserved
loop-first-preserved g c =
    let here : (c.in-Some.first.key == c.args.key)
    ≡ true = eq-eqb c.in-Some.first.key c.args.key c.if-first-key.false in (
      search of_calls,
      sifted_skip (goal.F-step g) c.args.filter c.args.key c.args.self.now c.args.to.now
          c.loop-first.filter c.filter.new.self c.loop-first.self c.loop-first.passed
          c.loop-first.to c.in-Some.first c.move_first-in-Skip.new.self
          c.move_first-in-Skip.new.to c.loop-first.invariant.1 (sym c.head.ensures ∙ c.in-Some.is) here
          c.in-Skip.ensures c.move_first-in-Skip.ensures.left c.move_first-in-Skip.ensures.to,
    )

pub returns-in-Stop : goal.returns-in-Stop
returns-in-Stop g c =
    let here : (c.in-Some.first.key == c.args.key)
    ≡ true = eq-eqb c.in-Some.first.key c.args.key c.if-first-key.false in
    sifted_stop (goal.F-step g) c.args.filter c.args.key c.args.self.now c.args.to.now
    c.loop-first.filter c.filter.new.self c.loop-first.self c.loop-first.passed
    c.loop-first.to c.in-Some.first c.pour.new.to c.loop-first.invariant.1
    (sym c.head.ensures ∙ c.in-Some.is) here c.in-Stop.ensures c.pour.ensures.to

pub returns : goal.returns
returns g c =
    sifted_end (goal.F-step g) c.args.filter c.args.key c.args.self.now c.args.to.now
    c.loop-first.filter c.loop-first.self c.loop-first.passed c.loop-first.to
    c.pour-2.new.to c.loop-first.invariant.1 (sym c.head.ensures ∙ c.in_default.is) c.pour-2.ensures.to
