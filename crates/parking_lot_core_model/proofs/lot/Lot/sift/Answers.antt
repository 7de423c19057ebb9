use Rattle.std.proofs.Common.{◌≡◌, ◌∙◌, ◌≤◌, ◌+◌, ℕ, sym, ap, subst, Option, length, drop, of_calls, arith}
use Rattle.std.specs.Option.{IsSome}
use Rattle.std.proofs.lemmas.List.{drop_all}
use Rattle.parking_lot_core_model.specs.declared.place.Section.{Section}
use Rattle.parking_lot_core_model.specs.Machine.{Parts, Machine, machine}
use Rattle.parking_lot_core_model.specs.Sound.{IsOpen}
use Rattle.parking_lot_core_model.proofs.Sifting.{Sifted, sifted_none, sifted_all, sifted_end, sifted_takes}
use Rattle.parking_lot_core_model.proofs.Sifting.{sifted_skips, sifted_stops}
use Rattle.parking_lot_core_model.proofs.lot.Lot.sift.Goals as goal
use Rattle.parking_lot_core_model.proofs.lot.Lot.sift.Goals.{in-Unpark, in-Skip}

pub loop-nth-init : goal.loop-nth-init
loop-nth-init g c =
    (c.requires.callable, sifted_none (goal.F-step g) c.args.filter (machine c.args.self.now) c.args.key)

pub overflow_sub-nth : goal.overflow_sub-nth
overflow_sub-nth g c = let p = c.loop-nth.invariant.1.passed in omega arith

pub returns-in_default : goal.returns-in_default
returns-in_default g c = sifted_end (goal.F-step g) c.args.filter (machine c.args.self.now) c.args.key
    (machine c.loop-nth.self) c.loop-nth.unparked c.loop-nth.nth c.loop-nth.filter c.loop-nth.invariant.1
    c.in_default.ensures

pub returns-in-Stop : goal.returns-in-Stop
returns-in-Stop g c =
    sifted_stops (goal.F-step g) c.args.filter (machine c.args.self.now) c.args.key (machine c.loop-nth.self)
    c.loop-nth.unparked c.loop-nth.nth c.loop-nth.filter c.loop-nth.invariant.1 c.in-Some.waiter c.filter.new.self
    c.in-Some.ensures c.in-Stop.ensures

pub loop-nth-preserved : goal.loop-nth-preserved
loop-nth-preserved g c = (
  search of_calls,
  elim c.match-filter.branch [
    | in-Unpark w ↦ subst
        (λ (p : Parts). Sifted (goal.F-step g) c.args.filter (machine c.args.self.now) c.args.key (machine p)
        c.match-filter.unparked (c.loop-nth.nth + 1) c.filter.new.self) (sym w.self-is)
        (subst (λ (n : ℕ). Sifted (goal.F-step g) c.args.filter (machine c.args.self.now) c.args.key
        (machine w.take_out.new.self) n (c.loop-nth.nth + 1) c.filter.new.self) (sym w.unparked-is)
        (sifted_takes (goal.F-step g) c.args.filter (machine c.args.self.now) c.args.key (machine c.loop-nth.self)
        c.loop-nth.unparked c.loop-nth.nth c.loop-nth.filter c.loop-nth.invariant.1 c.in-Some.waiter
        c.filter.new.self c.in-Some.ensures (machine w.take_out.new.self) w.in-Unpark.ensures
        w.take_out.ensures.taken))
    | in-Skip w ↦ subst
        (λ (p : Parts). Sifted (goal.F-step g) c.args.filter (machine c.args.self.now) c.args.key (machine p)
        c.match-filter.unparked (c.loop-nth.nth + 1) c.filter.new.self) (sym w.self-is)
        (subst (λ (n : ℕ). Sifted (goal.F-step g) c.args.filter (machine c.args.self.now) c.args.key
        (machine c.loop-nth.self) n (c.loop-nth.nth + 1) c.filter.new.self) (sym w.unparked-is)
        (sifted_skips (goal.F-step g) c.args.filter (machine c.args.self.now) c.args.key (machine c.loop-nth.self)
        c.loop-nth.unparked c.loop-nth.nth c.loop-nth.filter c.loop-nth.invariant.1 c.in-Some.waiter
        c.filter.new.self c.in-Some.ensures w.in-Skip.ensures))
  ],
)

pub returns : goal.returns
returns g c =
    sifted_all (goal.F-step g) c.args.filter (machine c.args.self.now) c.args.key (machine c.loop-nth.self)
    c.loop-nth.unparked c.loop-nth.nth c.loop-nth.filter c.loop-nth.invariant.1
    (drop_all c.loop-nth.nth ((machine c.args.self.now).queues c.args.key) (omega arith))

pub take_out-requires : goal.take_out-requires
take_out-requires g c = subst (λ (m : Machine). IsOpen m c.args.key)
    (sym c.loop-nth.invariant.1.lists) c.requires.entered
