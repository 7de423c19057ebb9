use Rattle.std.proofs.Common.{◌+◌, Some, ap, ◌∙◌}
use Rattle.dashmap_iter.proofs.iter_mut.WritingWalk.enter.Goals as goal

pub returns : goal.returns
returns g c =
    let guard = c.hold_next-guard.result in
    record {
      guard = guard;
      taken = c.hold_next-guard.ensures.taken;
      shown = c.hold_next-guard.ensures.seen;
      sound = c.hold_next-guard.ensures.sound;
      after = c.keep.ensures
          ∙ ap (λ w. record { locks = w.locks; next = w.next + 1; held = Some guard; from = 0; failed = w.failed })
          c.hold_next-guard.ensures.stays;
    }
