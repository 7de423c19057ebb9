use Rattle.std.proofs.Common.{◌&&◌, nat_le, sym, ap, ◌∙◌}
use Rattle.lock_api_desk.specs.Guards.{is_full, readers}
use Rattle.lock_api_desk.specs.Out.{readers_out}
use Rattle.lock_api_desk.specs.Entries.{guards_in}
use Rattle.lock_api_desk.proofs.Counting.{readers_are}
use Rattle.lock_api_desk.proofs.desk.Desk.is_full.Goals as goal

pub returns-then-is_reader : goal.returns-then-is_reader
returns-then-is_reader g c =
    let limit = g.R.RawState.limit_of c.self.inside.raw in
    let guards = guards_in c.self.inside.entries.items in
    c.readers_full.ensures
    ∙ ap (λ o. nat_le limit (readers_out o)) c.self.invariant.out_is
    ∙ ap (λ n. nat_le limit n) (sym (readers_are guards))
    ∙ ap (λ b. b && nat_le limit (readers guards)) c.if-is_reader.ensures
    ∙ ap (λ s. is_full s.limit c.args.mode s.guards) c.self.view_is
