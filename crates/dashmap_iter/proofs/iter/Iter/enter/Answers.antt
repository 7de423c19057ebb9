use Rattle.std.proofs.Common.{◌+◌, Some, ap, ◌∙◌}
use Rattle.dashmap_iter.proofs.iter.Iter.enter.Goals as goal

pub returns-clause-entered : goal.returns-clause-entered
returns-clause-entered g c =
    let guard = c.in_ok-shared.shared in
    record {
      guard = guard;
      taken = c.in_ok-shared.ensures.taken;
      shown = c.in_ok-shared.ensures.shown;
      sound = c.in_ok-shared.ensures.sound;
      after = c.keep.ensures
          ∙ ap (λ w. record { locks = w.locks; next = w.next + 1; held = Some guard; from = 0; failed = w.failed })
          c.in_ok-shared.ensures.stays;
    }
