use Rattle.std.proofs.Common.{◌≡◌, true, Option, subst}
use Rattle.std.specs.Option.{IfSome}
use Rattle.lock_api_desk.specs.declared.mode.Mode.TheVariants.{Exclusive, Upgradable}
use Rattle.lock_api_desk.specs.Guards.{Guard, holds}
use Rattle.lock_api_desk.specs.Desk.{DeskState, IsSound}
use Rattle.lock_api_desk.proofs.Turning.{from_held}
use Rattle.lock_api_desk.proofs.desk.Desk.lower.Goals as goal

pub turn-requires-clause-next : goal.turn-requires-clause-next
turn-requires-clause-next g c =
    let old = c.args.self.now in
    let P : Option Guard → Type 0 = λ o. IfSome o (λ held. holds Exclusive held ≡ true) in
    let Q : DeskState g.row.T.Denot → Type 0 = λ s. IsSound s.limit s.guards in
    from_held old.limit c.args.guard old.guards c.args.place c.requires.at Upgradable
    (subst Q c.self.view_is c.self.invariant.sound)
    (subst P c.requires.at.found c.requires.exclusive)
