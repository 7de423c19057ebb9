use Rattle.parking_lot_machine.specs.Rows.{state}
use Rattle.mapworld_state.proofs.LocksFacts.Starting.{can_start, is_open, start_turns}
use Rattle.mapworld_state.proofs.locks.shard_locks.ShardLocks.start.Goals as goal

pub step-requires-clause-can : goal.step-requires-clause-can
step-requires-clause-can g c = can_start (state c.args.self.now.rows) (state c.begin.new.self.rows) c.args.thread
    c.args.shard c.args.call c.requires.may.thread c.begin.ensures.became c.requires.gives

pub step-requires-clause-open : goal.step-requires-clause-open
step-requires-clause-open g c = is_open (state c.args.self.now.rows) (state c.begin.new.self.rows) c.args.thread
    c.args.shard c.args.call c.requires.may.thread c.begin.ensures.became c.requires.gives

pub returns : goal.returns
returns g c = record {
  mid = c.begin.new.self;
  begins = c.begin.ensures;
  moves = c.step.ensures;
  turned = start_turns (state c.args.self.now.rows) (state c.begin.new.self.rows) (state c.step.new.self.rows)
      c.args.thread c.args.shard c.args.call c.args.fair c.requires.may.thread c.begin.ensures.became
      c.step.ensures.steps
      c.known.ensures.fits c.known.ensures.plain;
}
