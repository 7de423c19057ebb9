use Rattle.std.proofs.Common.{subst, sym}
use Rattle.parking_lot_protocol.specs.Timed.TimedRules.{Follows}
use Rattle.parking_lot_protocol.specs.declared.timed.timed_act.TimedSeen.{TimedSeen}
use Rattle.parking_lot_protocol.specs.declared.timed.timed_core.TimedMutexPhase.{TimedMutexPhase}
use Rattle.parking_lot_protocol.specs.declared.timed.timed_core.TimedMutexPhase.TheVariants as phase
use Rattle.parking_lot_protocol.proofs.TimedFacts.TimedFollowing.{expired, masked}
use Rattle.parking_lot_protocol.proofs.timed.timed_core.TimedMutexPhase.after.Goals as goal

pub returns-in-Asks-Expired-clause-rules : goal.returns-in-Asks-Expired-clause-rules
returns-in-Asks-Expired-clause-rules c =
    let At : TimedMutexPhase → Type 0 = λ p. Follows p c.args.seen in
    let Told : TimedSeen → Type 0 = λ s. Follows (phase.Asks c.in-Asks-Expired.core) s in
    subst At (sym c.in-Asks-Expired.is-0)
    (subst Told (sym c.in-Asks-Expired.is-1) (expired c.in-Asks-Expired.core.phase))

pub returns-in-Masks-Masked-clause-rules : goal.returns-in-Masks-Masked-clause-rules
returns-in-Masks-Masked-clause-rules c =
    let At : TimedMutexPhase → Type 0 = λ p. Follows p c.args.seen in
    let Told : TimedSeen → Type 0 = λ s. Follows phase.Masks s in
    subst At (sym c.in-Masks-Masked.is-0) (subst Told (sym c.in-Masks-Masked.is-1) masked)
