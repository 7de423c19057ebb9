-- The example run can be made.
use Rattle.std.proofs.Common.{refl}
use Rattle.parking_lot_rules.specs.Once.Once.{weight}
use Rattle.parking_lot_rules.specs.Once.OnceExample.{RunIsThere}

pub run_is_there : RunIsThere
unfolding weight
run_is_there = (
  (refl, tt),
  (
    (refl, (refl, refl)),
    (
      (refl, tt),
      (
        (refl, (refl, refl)),
        (
          (refl, refl),
          (
            (refl, (refl, refl)),
            (
              refl,
              (
                (refl, tt),
                (
                  (refl, tt),
                  (
                    (refl, refl),
                    (
                      (refl, refl, refl),
                      ((refl, refl), ((refl, tt), ((refl, refl), ((refl, tt), ((refl, refl), refl))))),
                    ),
                  ),
                ),
              ),
            ),
          ),
        ),
      ),
    ),
  ),
)
