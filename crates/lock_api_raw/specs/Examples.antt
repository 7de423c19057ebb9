-- The two ways that tests and checks take.
use Rattle.std.specs.Prelude.{◌≡◌, Option, None, Some, IsSome, refl}
use Rattle.std.proofs.Common.{ap, sym}
use Rattle.lock_api_raw.specs.Parts.{IsWay}

-- the first of two is a way
pub first_is_way : {A B : Type 0} → IsWay {A = A × B} {B = A} (λ pair. Some pair.0) (λ pair part. (part, pair.1))
first_is_way = record {
  reads_written = λ whole part there. refl;
  writes_read = λ whole part read. (let same : whole.0 ≡ part = cc in ap (λ x. (x, whole.1)) (sym same));
  last_counts = λ whole before part. refl;
  stays_absent = λ whole part gone. cc;
}

-- an option with its inside replaced
abbrev pub with_inside : {A : Type 0} → Option A → A → Option A
with_inside None part = None
with_inside (Some x) part = Some part

inside_reads_written : {A : Type 0} → (whole : Option A) (part : A) → IsSome whole → with_inside whole part ≡ Some part
inside_reads_written None part there = cc
inside_reads_written (Some x) part there = refl

inside_writes_read : {A : Type 0} → (whole : Option A) (part : A) → whole ≡ Some part → with_inside whole part ≡ whole
inside_writes_read None part read = refl
inside_writes_read (Some x) part read = cc

inside_last_counts : {A : Type 0} → (whole : Option A) (before part : A) → with_inside (with_inside whole before) part
    ≡ with_inside whole part
inside_last_counts None before part = refl
inside_last_counts (Some x) before part = refl

inside_stays_absent : {A : Type 0} → (whole : Option A) (part : A) → whole ≡ None → with_inside whole part ≡ whole
inside_stays_absent None part gone = refl
inside_stays_absent (Some x) part gone = cc

-- the inside of an option is a way
pub inside_is_way : {A : Type 0} → IsWay {A = Option A} {B = A} (λ whole. whole) with_inside
inside_is_way = record {
  reads_written = inside_reads_written;
  writes_read = inside_writes_read;
  last_counts = inside_last_counts;
  stays_absent = inside_stays_absent;
}
