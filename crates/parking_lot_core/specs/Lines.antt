-- Who waits in a bucket.
use Rattle.std.specs.Prelude.{List}
use Rattle.parking_lot_core.specs.declared.chain.Waiting.{Waiting}
use Rattle.parking_lot_core.specs.declared.line.Line.{Line}
use Rattle.parking_lot_core.specs.Waits.{line}

abbrev pub waits : {A : Type 0} → Line A → List Waiting
waits l = line l.front l.back
