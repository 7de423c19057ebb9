use Rattle.std.proofs.Common.{◌+◌, length, subst, sym, ap, ◌∙◌}
use Rattle.dashmap_record.specs.Recorded.{AreNew}
use Rattle.dashmap_record.proofs.Answering.{callers-more, count-more, from_zero}
use Rattle.dashmap_record.proofs.room.new_callers.Goals as goal

pub loop-number-preserved : goal.loop-number-preserved
loop-number-preserved g c =
    let items = c.in_ok-push.ensures.items in (
      ap length items ∙ (count-more c.loop-number.callers.items c.after.result
          ∙ ap (λ n. n + 1) c.loop-number.invariant.0),
      subst (λ l. AreNew 0 l) (sym items)
          (callers-more 0 c.loop-number.callers.items c.after.result c.loop-number.invariant.1
          (record {
            number_is = c.after.ensures.number
                ∙ (sym c.loop-number.invariant.0 ∙ from_zero (length c.loop-number.callers.items));
            empty = c.after.ensures.log;
            last = c.after.ensures.last;
          })),
    )
