use Rattle.std.proofs.Common.{◌≡◌, ◌∙◌, ℕ, Some, slice_get, subst}
use Rattle.std.specs.Option.{option_map}
use Rattle.std.proofs.lemmas.Result.{MatchResult-weaker}
use Rattle.crossbeam_utils.specs.Padded.{padded_value}
use Rattle.dashmap_parallel.proofs.put.put_one.Goals as goal

pub returns : goal.returns
returns g c =
    let there = subst (λ (n : ℕ). option_map padded_value (slice_get c.args.locks.now n) ≡ Some
    c.lock_behind.result.now) c.route-shard.ensures.value c.lock_behind.ensures in
    MatchResult-weaker c.put_behind.result c.put_behind.ensures
    (λ x held. (held.0, held.1, held.2, there ∙ held.3, held.4, held.5))
    (λ x held. (held.0, held.1, held.2, there ∙ held.3, held.4, held.5))
