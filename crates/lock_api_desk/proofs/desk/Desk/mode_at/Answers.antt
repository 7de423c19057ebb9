use Rattle.std.proofs.Common.{◌≡◌, List, Option, sym, ap, subst, ◌∙◌}
use Rattle.std.specs.Option.{IfSome}
use Rattle.lock_api_desk.specs.Guards.{Guard, guard_of}
use Rattle.lock_api_desk.specs.Places.{StandsAt}
use Rattle.lock_api_desk.proofs.Seats.{entry_at}
use Rattle.lock_api_desk.proofs.desk.Desk.mode_at.Goals as goal

pub returns : goal.returns
returns g c =
    let P : List Guard → Type 0 = λ gs. StandsAt c.args.guard gs c.args.place in
    let f = entry_at c.self.inside.entries.items c.args.guard c.args.place c.index.result.now
    (subst P (sym (ap (λ s. s.guards) c.self.view_is)) c.requires) c.index.ensures in
    let Q : Option Guard → Type 0 = λ o. IfSome o (λ found. c.mode_of.result ≡ found.mode) in
    subst Q (sym (sym (ap (λ s. guard_of c.args.guard s.guards) c.self.view_is) ∙ f.found)) c.mode_of.ensures
