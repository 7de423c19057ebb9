-- Where a section is open in some bucket, one is open at the locks or at the variables.
use Rattle.std.proofs.Common.{◌%◌, ◌≡◌, ℕ, ◌<◌, ◌||◌, Bool, true, false, is_some, Option, Some, None, refl, ap, ◌∙◌}
use Rattle.std.proofs.Common.{subst, arith}
use Rattle.parking_lot_machine.specs.Rows.{state}
use Rattle.parking_lot_machine_waits.specs.Joint.{Joint, is_kept, is_open_at_locks, is_open_at_variables, is_open_in}
use Rattle.parking_lot_machine_waits.specs.Joint.{is_shut, shuts_out}
use Rattle.parking_lot_machine_waits.proofs.AnySections.{some_there}
use Rattle.parking_lot_machine_waits.proofs.Keepers.{both_ways as in_conflict}
use Rattle.parking_lot_machine_waits.proofs.Keeping.{none_kept}
use Rattle.parking_lot_core_model.specs.declared.place.Section.{Section}
use Rattle.parking_lot_core_model.specs.Machine.{Machine}
use Rattle.parking_lot_machine_waits.specs.JointLaws.{PartsFit}

-- a section of a lock is open in a bucket that there is
none_in : (j : Joint) → PartsFit j → is_open_at_locks j ≡ false → (b : ℕ) → is_open_in (state j.rows) b ≡ false
none_in j fits locks b = go (lot.sections b) refl
  where
    lot : Machine
    lot = (state j.rows).lot

    go : (o : Option Section) → lot.sections b ≡ o → is_some (lot.sections b) ≡ false
    go None e = ap (λ (x : Option Section). is_some x) e
    go (Some x) e =
        let low : x.key % lot.buckets < lot.buckets = omega (arith, fits.rows.lots.sound.fit.some) in
        in_conflict (is_open_at_locks j)
        (some_there lot.sections lot.buckets b
        (subst (λ (k : ℕ). k < lot.buckets) (fits.rows.lots.sound.fit.bucket b x e) low)
        (ap (λ (y : Option Section). is_some y) e)) locks

-- so where one is open in some bucket, one is
pub shut_is_open : (j : Joint) → PartsFit j → (b : ℕ) → is_shut j b ≡ true
    → (is_open_at_locks j || is_open_at_variables j) ≡ true
shut_is_open j fits b shut = go (is_open_at_locks j) (is_open_at_variables j) refl refl
  where
    go : (p q : Bool) → is_open_at_locks j ≡ p → is_open_at_variables j ≡ q
        → (is_open_at_locks j || is_open_at_variables j) ≡ true
    go true q e f = ap (λ (x : Bool). x || is_open_at_variables j) e
    go false true e f = ap (λ (x : Bool). x || is_open_at_variables j) e ∙ f
    go false false e f = in_conflict (is_shut j b) shut
        (ap (λ (x : Bool). x || is_kept j b) (none_in j fits e b) ∙ none_kept j b f)

pub or_false : (a b : Bool) → a ≡ false → b ≡ false → (a || b) ≡ false
or_false true b e f = absurd cc
or_false false b e f = f

-- and where none is open at all none keeps anybody out
pub none_shuts : (j : Joint) → PartsFit j → is_open_at_locks j ≡ false → is_open_at_variables j ≡ false
    → (o : Option ℕ) → shuts_out j o ≡ false
none_shuts j fits locks vars None = refl
none_shuts j fits locks vars (Some b) =
    or_false (is_open_in (state j.rows) b) (is_kept j b) (none_in j fits locks b) (none_kept j b vars)
