use Rattle.std.proofs.Common.{◌≡◌, ◌==◌, ◌∷◌, [], true, sym, subst, refl}
use Rattle.std.specs.Prelude.{if◌then◌else◌}
use Rattle.parking_lot_protocol.specs.MutexTable.{act_of}
use Rattle.parking_lot_protocol.specs.Timed.Courses.{EndedAt}
use Rattle.parking_lot_protocol.specs.declared.act.Act.TheVariants.{Done}
use Rattle.parking_lot_protocol.specs.declared.act.ActResult.TheVariants.{Word}
use Rattle.parking_lot_protocol.specs.declared.act.CoreAnswer.TheVariants.{Owned}
use Rattle.parking_lot_protocol.specs.declared.mutex_phase.MutexPhase.TheVariants.{Ends, Unlocks}
use Rattle.parking_lot_mutex.proofs.raw_mutex.RawMutex.owns_as_it_is.Goals as goal

-- the look is the first act, and the last
pub returns-then-seen-eq0 : goal.returns-then-seen-eq0
unfolding EndedAt
returns-then-seen-eq0 g c =
    let word = c.load-seen.result in
    λ _. (
      Word word ∷ [],
      ((word, refl), tt),
      subst
          (λ rest. act_of (if rest == 1 then Unlocks (record { fair = true; again = true }) else Ends Owned)
          ≡ Done Owned)
          (sym c.if-seen-eq0.true) refl,
    )
