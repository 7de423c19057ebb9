use Rattle.std.proofs.Common.{◌≡◌, sym, subst, arith, rules}
use Rattle.parking_lot_machine_sides.specs.Once.OnceFits.{Fits}
use Rattle.parking_lot_machine_sides.specs.Once.OnceSteps.{IsActOfItsOwn, IsEntry}
use Rattle.parking_lot_machine_sides.specs.Once.Onces.{inside_at}
use Rattle.parking_lot_machine_sides.proofs.OnceFacts.Holding.{low, room_set, word_low}
use Rattle.parking_lot_machine_sides.proofs.OnceFacts.OwnActs.{acts_so}
use Rattle.parking_lot_machine_sides.proofs.once.once_machine.OnceMachine.act.Goals as goal

pub index_mut-requires : goal.index_mut-requires
index_mut-requires g c =
    omega (
      arith,
      word_low c.args.thread c.args.call c.self.view_is c.requires.here c.self.invariant.0,
      c.self.inside.words.ok.0,
    )

pub index_mut-requires-2 : goal.index_mut-requires-2
index_mut-requires-2 g c =
    omega (arith, low c.args.thread c.args.call c.self.view_is c.requires.here, c.self.inside.calls.ok.0)

pub returns : goal.returns
returns g c = search rules

pub invariant_of-self : goal.invariant_of-self
invariant_of-self g c = (
  subst Fits (sym (returns g c))
      (acts_so c.args.self.now c.args.thread c.args.call (subst Fits c.self.view_is c.self.invariant.0) c.requires.here
      (subst IsActOfItsOwn (sym c.requires.asked) c.requires.own)
      (subst (λ a. IsEntry a (inside_at c.args.self.now c.args.call.once ≡ _)) (sym c.requires.asked) c.requires.free)).fits,
  room_set _ _ _ _ c.self.invariant.1,
  room_set _ _ _ _ c.self.invariant.2,
)
