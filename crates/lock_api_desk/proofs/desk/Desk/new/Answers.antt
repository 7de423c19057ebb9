use Rattle.std.proofs.Common.{◌≡◌, List, [], sym, ap, subst, ◌∙◌, arith}
use Rattle.lock_api_desk.specs.Entries.{guards_in}
use Rattle.lock_api_desk.specs.Guards.{Guard}
use Rattle.lock_api_desk.specs.Out.{out_of}
use Rattle.lock_api_desk.specs.Desk.{IsSound}
use Rattle.lock_api_desk.proofs.Numbers.{distinct_none}
use Rattle.lock_api_desk.proofs.desk.Desk.new.Goals as goal

pub invariant_of-result : goal.invariant_of-result
invariant_of-result g c =
    let none : guards_in c.new.result.items ≡ [] = ap guards_in c.new.ensures.items in
    let P : List Guard → Type 0 = λ gs. IsSound (g.R.RawState.limit_of c.args.raw) gs in
    record {
      out_is = c.requires ∙ ap out_of (sym none);
      sound = subst P (sym none) (record {
        distinct = distinct_none;
        orderly = record {
          one_exclusive = omega arith;
          one_upgradable = omega arith;
          alone = λ h. absurd (omega arith);
          within = omega arith;
          some = omega arith;
        };
      });
    }
