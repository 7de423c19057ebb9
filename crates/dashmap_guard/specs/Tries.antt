-- What a try found.
use Rattle.std.specs.Prelude.{Bool, true, false, Option, Some, None}
use Rattle.dashmap_guard.specs.declared.try_result.TryResult.{TryResult}
use Rattle.dashmap_guard.specs.declared.try_result.TryResult.TheVariants.{Present, Absent, Locked}

module _ {R : Type 0} where
  abbrev pub is_present : TryResult R → Bool
  is_present (Present there) = true
  is_present Absent = false
  is_present Locked = false

  abbrev pub is_absent : TryResult R → Bool
  is_absent (Present there) = false
  is_absent Absent = true
  is_absent Locked = false

  abbrev pub is_locked : TryResult R → Bool
  is_locked (Present there) = false
  is_locked Absent = false
  is_locked Locked = true

  -- what is there, if it is
  abbrev pub found : TryResult R → Option R
  found (Present there) = Some there
  found Absent = None
  found Locked = None
