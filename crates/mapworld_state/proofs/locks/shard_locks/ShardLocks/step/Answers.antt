use Rattle.std.proofs.Common.{◌≡◌, true, Some, None, slice_get, slice_set, sym, ap, ◌∙◌, subst, arith}
use Rattle.std.proofs.lemmas.Option.{slice_get-get_or}
use Rattle.parking_lot_machine.specs.Machines.{can_move, ended}
use Rattle.parking_lot_machine.specs.Rows.{call_at, state}
use Rattle.mapworld_state.specs.Locks.Steps.{LockMoves}
use Rattle.mapworld_state.specs.Locks.Views.{Shown}
use Rattle.mapworld_state.proofs.LocksFacts.Following.{fit_after, follows, low, moves_after}
use Rattle.mapworld_state.proofs.LocksFacts.Keeping.{stepped_plain}
use Rattle.mapworld_state.proofs.locks.shard_locks.ShardLocks.step.Goals as goal

pub holds-before-requires : goal.holds-before-requires
holds-before-requires g c = record { plain = c.self.invariant.plain }

pub index_mut-requires : goal.index_mut-requires
index_mut-requires g c =
    let old : Shown = record { rows = c.self.inside.machine; desks = c.self.inside.desks.items } in
    let going : ended (state old.rows) c.args.thread ≡ None = ap (λ (x : Shown). ended (state x.rows) c.args.thread)
    c.self.view_is ∙ c.requires.open in
    let there : call_at (state old.rows) c.args.thread ≡ Some c.in-Some.call = sym c.call.ensures ∙ c.in-Some.is in
    omega (
      arith,
      low c.each_step_is_a_case.ensures c.owners_agree.ensures old c.self.invariant c.args.thread
          c.args.fair c.step.new.self c.step.result c.step.ensures going c.in-Some.call there,
      c.self.inside.desks.ok.0,
    )

pub follow-requires : goal.follow-requires
follow-requires g c =
    let old : Shown = record { rows = c.self.inside.machine; desks = c.self.inside.desks.items } in
    let going : ended (state old.rows) c.args.thread ≡ None = ap (λ (x : Shown). ended (state x.rows) c.args.thread)
    c.self.view_is ∙ c.requires.open in
    let there : call_at (state old.rows) c.args.thread ≡ Some c.in-Some.call = sym c.call.ensures ∙ c.in-Some.is in
    let in_range = low c.each_step_is_a_case.ensures c.owners_agree.ensures old c.self.invariant c.args.thread
    c.args.fair c.step.new.self c.step.result c.step.ensures going c.in-Some.call there in
    let at : slice_get old.desks c.in-Some.call.lock ≡ Some c.index_mut.result.now =
    slice_get-get_or old.desks c.in-Some.call.lock c.index_mut.result.now in_range
    ∙ ap Some (sym c.index_mut.ensures.value) in
    record {
      plain = stepped_plain (state old.rows) (state c.step.new.self) c.args.thread c.args.fair c.step.result
          c.self.invariant.fits c.self.invariant.plain c.step.ensures;
      can = follows c.each_step_is_a_case.ensures c.owners_agree.ensures old c.self.invariant c.args.thread c.args.fair
          c.step.new.self c.step.result c.step.ensures going c.in-Some.call there
          c.holds-before.result c.holds-before.ensures c.index_mut.result.now at;
    }

pub invariant_of-self : goal.invariant_of-self
invariant_of-self g c =
    let old : Shown = record { rows = c.self.inside.machine; desks = c.self.inside.desks.items } in
    let going : ended (state old.rows) c.args.thread ≡ None = ap (λ (x : Shown). ended (state x.rows) c.args.thread)
    c.self.view_is ∙ c.requires.open in
    let there : call_at (state old.rows) c.args.thread ≡ Some c.in-Some.call = sym c.call.ensures ∙ c.in-Some.is in
    let in_range = low c.each_step_is_a_case.ensures c.owners_agree.ensures old c.self.invariant c.args.thread
    c.args.fair c.step.new.self c.step.result c.step.ensures going c.in-Some.call there in
    let at : slice_get old.desks c.in-Some.call.lock ≡ Some c.index_mut.result.now =
    slice_get-get_or old.desks c.in-Some.call.lock c.index_mut.result.now in_range
    ∙ ap Some (sym c.index_mut.ensures.value) in
    fit_after c.each_step_is_a_case.ensures c.owners_agree.ensures old c.self.invariant c.args.thread c.args.fair
    c.step.new.self c.step.result c.step.ensures going c.in-Some.call there
    c.holds-before.result c.holds-before.ensures c.index_mut.result.now at c.follow.new.desk c.follow.ensures

pub returns : goal.returns
returns g c =
    let old : Shown = record { rows = c.self.inside.machine; desks = c.self.inside.desks.items } in
    let new : Shown = record {
      rows = c.step.new.self;
      desks = slice_set old.desks c.in-Some.call.lock
          c.follow.new.desk;
    } in
    let going : ended (state old.rows) c.args.thread ≡ None = ap (λ (x : Shown). ended (state x.rows) c.args.thread)
    c.self.view_is ∙ c.requires.open in
    let there : call_at (state old.rows) c.args.thread ≡ Some c.in-Some.call = sym c.call.ensures ∙ c.in-Some.is in
    let in_range = low c.each_step_is_a_case.ensures c.owners_agree.ensures old c.self.invariant c.args.thread
    c.args.fair c.step.new.self c.step.result c.step.ensures going c.in-Some.call there in
    let at : slice_get old.desks c.in-Some.call.lock ≡ Some c.index_mut.result.now =
    slice_get-get_or old.desks c.in-Some.call.lock c.index_mut.result.now in_range
    ∙ ap Some (sym c.index_mut.ensures.value) in
    let can : can_move (state old.rows) c.args.thread ≡ true = ap (λ (x : Shown). can_move (state x.rows) c.args.thread)
    c.self.view_is ∙ c.requires.can in
    subst (λ (x : Shown). LockMoves c.args.thread c.args.fair x new) c.self.view_is
    (moves_after c.each_step_is_a_case.ensures c.owners_agree.ensures old c.self.invariant c.args.thread c.args.fair
    c.step.new.self c.step.result c.step.ensures going c.in-Some.call there
    c.holds-before.result c.holds-before.ensures c.index_mut.result.now at c.follow.new.desk c.follow.ensures can)
