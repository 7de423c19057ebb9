-- Ways to one part of a value, which may be missing.
use Rattle.std.specs.Prelude.{◌≡◌, Option, None, Some, IsSome, option_and_then, refl}
use Rattle.std.proofs.Common.{ap, ◌∙◌, sym, subst}

module _ {A B : Type 0} (focus : A → Option B) (with_focus : A → B → A) where
  -- how reading a part and writing it go together
  pub record IsWay : Type 0 where
    -- a read after a write gives what was written
    pub reads_written : (whole : A) (part : B) → IsSome (focus whole) → focus (with_focus whole part) ≡ Some part
    -- writing back what was read changes nothing
    pub writes_read : (whole : A) (part : B) → focus whole ≡ Some part → with_focus whole part ≡ whole
    -- of two writes the last counts
    pub last_counts : (whole : A) (before part : B) → with_focus (with_focus whole before) part ≡ with_focus whole part
    -- where there is no such part, a write changes nothing, so that the part stays missing
    pub stays_absent : (whole : A) (part : B) → focus whole ≡ None → with_focus whole part ≡ whole

  -- each value has such a part
  abbrev pub IsTotalWay : Type 0
  IsTotalWay = (whole : A) → IsSome (focus whole)

-- the value with a part of its part stored
abbrev pub with_inner : {A B C : Type 0} → (A → B → A) → (B → C → B) → A → Option B → C → A
with_inner with_first with_second whole None part = whole
with_inner with_first with_second whole (Some inner) part = with_first whole (with_second inner part)

module _ {A B C : Type 0} (first : A → Option B) (with_first : A → B → A) (second : B → Option C)
    (with_second : B → C → B) where
  -- the part of the part, missing where either is
  abbrev pub then_focus : A → Option C
  then_focus whole = option_and_then second (first whole)

  -- the value with that part stored, and unchanged where it has none
  abbrev pub then_with : A → C → A
  then_with whole part = with_inner with_first with_second whole (first whole) part

-- Two ways in a row are a way.
module _ {A B C : Type 0} (first : A → Option B) (with_first : A → B → A) (second : B → Option C)
    (with_second : B → C → B) (outer : IsWay first with_first) (inner : IsWay second with_second) where
  then_reads_written : (whole : A) (part : C) (found : Option B) → first whole ≡ found
      → IsSome (option_and_then second found)
      → option_and_then second (first (with_inner with_first with_second whole found part)) ≡ Some part
  then_reads_written whole part None e there = cc
  then_reads_written whole part (Some x) e there =
      ap (option_and_then second) (outer.reads_written whole (with_second x part) (subst IsSome (sym e) refl))
      ∙ inner.reads_written x part there

  then_writes_read : (whole : A) (part : C) (found : Option B) → first whole ≡ found
      → option_and_then second found ≡ Some part → with_inner with_first with_second whole found part ≡ whole
  then_writes_read whole part None e read = refl
  then_writes_read whole part (Some x) e read = ap (with_first whole) (inner.writes_read x part read)
      ∙ outer.writes_read whole x e

  then_last_counts : (whole : A) (before part : C) (found : Option B) → first whole ≡ found
      → then_with first with_first second with_second (with_inner with_first with_second whole found before) part
      ≡ with_inner with_first with_second whole found part
  then_last_counts whole before part None e = ap (λ o. with_inner with_first with_second whole o part) e
  then_last_counts whole before part (Some x) e =
      let y : B = with_second x before in
      ap (λ o. with_inner with_first with_second (with_first whole y) o part)
      (outer.reads_written whole y (subst IsSome (sym e) refl))
      ∙ outer.last_counts whole y (with_second y part)
      ∙ ap (with_first whole) (inner.last_counts x before part)

  then_stays_absent : (whole : A) (part : C) (found : Option B) → first whole ≡ found
      → option_and_then second found ≡ None → with_inner with_first with_second whole found part ≡ whole
  then_stays_absent whole part None e gone = refl
  then_stays_absent whole part (Some x) e gone = ap (with_first whole) (inner.stays_absent x part gone)
      ∙ outer.writes_read whole x e

  pub then_is_way : IsWay (then_focus first with_first second with_second)
      (then_with first with_first second with_second)
  then_is_way = record {
    reads_written = λ whole part. then_reads_written whole part (first whole) refl;
    writes_read = λ whole part. then_writes_read whole part (first whole) refl;
    last_counts = λ whole before part. then_last_counts whole before part (first whole) refl;
    stays_absent = λ whole part. then_stays_absent whole part (first whole) refl;
  }

-- what is found after something was found
total_at : {B C : Type 0} (second : B → Option C) → ((x : B) → IsSome (second x)) → (found : Option B) → IsSome found
    → IsSome (option_and_then second found)
total_at second inner None there = cc
total_at second inner (Some x) there = inner x

-- after a total way, a total way always finds a part
pub then_is_total : {A B C : Type 0} (first : A → Option B) (with_first : A → B → A) (second : B → Option C)
    (with_second : B → C → B) → IsTotalWay first with_first → IsTotalWay second with_second
    → IsTotalWay (then_focus first with_first second with_second) (then_with first with_first second with_second)
then_is_total first with_first second with_second outer inner whole = total_at second inner (first whole) (outer whole)
