-- The way to a pair's second half.
use Rattle.std.specs.Prelude.{◌≡◌, Some, refl}
use Rattle.std.proofs.Common.{ap, sym}
use Rattle.lock_api_raw.specs.Parts.{IsWay}

-- the second of two is a way
pub second_is_way : {A B : Type 0} → IsWay {A = A × B} {B = B} (λ pair. Some pair.1) (λ pair part. (pair.0, part))
second_is_way = record {
  reads_written = λ whole part there. refl;
  writes_read = λ whole part read. (let same : whole.1 ≡ part = cc in ap (λ x. (whole.0, x)) (sym same));
  last_counts = λ whole before part. refl;
  stays_absent = λ whole part gone. cc;
}
