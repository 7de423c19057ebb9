use Rattle.std.proofs.Common.{◌≡◌, ◌*◌, ◌/◌, true, IfOk, List, ℕ, subst, sym, ◌∙◌, eq-eqb}
use Rattle.parking_lot_world.specs.Worlds.{Shown, is_once_at, queue_at}
use Rattle.parking_lot_world.proofs.Listing.{once_list}
use Rattle.parking_lot_world.proofs.world.World.queue.Goals as goal

pub returns-then-key-lock-clause-ok : goal.returns-then-key-lock-clause-ok
returns-then-key-lock-clause-ok g c =
    let w : Shown = record {
      kinds = c.self.inside.kinds.items;
      waits = c.self.inside.waits;
      onces = c.self.inside.onces;
      answers = c.self.inside.answers.items;
    } in
    let once : is_once_at w (c.args.key / 2) ≡ true =
    subst (λ (x : Shown). is_once_at x (c.args.key / 2) ≡ true) (sym c.self.view_is)
    (sym c.is_once.ensures ∙ c.if-not-is_once.false) in
    subst (λ (x : Shown). IfOk c.queue-then-key-lock.result (λ threads. threads.items ≡ queue_at x c.args.key))
    c.self.view_is
    (subst (λ (xs : List ℕ). IfOk c.queue-then-key-lock.result (λ threads. threads.items ≡ xs))
    (sym (once_list w c.args.key once (eq-eqb c.args.key (2 * (c.args.key / 2)) c.if-key-lock.true)))
    c.queue-then-key-lock.ensures.ok)
