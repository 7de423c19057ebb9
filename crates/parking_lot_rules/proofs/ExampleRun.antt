-- The example run can be made.
use Rattle.std.proofs.Common.{false, List, [], ◌∷◌, ◌++◌, refl, subst, inl, arith}
use Rattle.parking_lot_rules.specs.Classes.{weight}
use Rattle.parking_lot_rules.specs.World.{World}
use Rattle.parking_lot_rules.specs.Runs.{Move, moved, Runs, at_rest}
use Rattle.parking_lot_rules.specs.Example.{comes, goes, RunsAreThere}

-- the world that a run leads to
abbrev led : List Move → World → World
led [] w = w
led (m ∷ ms) w = led ms (moved (λ k. 0) m w)

comes_run : Runs (λ k. 0) (λ i. false) (at_rest 2) comes (led comes (at_rest 2))
unfolding weight
comes_run = (
  record { place = _; here = refl; there = inl refl; allowed = (refl, inl refl); free = tt },
  (
    record { place = _; here = refl; there = inl refl; allowed = (refl, inl refl); free = tt },
    (
      record { place = _; here = refl; there = inl refl; allowed = (refl, inl refl); free = tt },
      (
        record { place = _; here = refl; there = inl refl; allowed = (refl, (refl, refl)); free = tt },
        (
          record { place = _; here = refl; there = inl refl; allowed = (refl, (refl, omega arith)); free = tt },
          (
            record { place = _; here = refl; there = inl refl; allowed = (refl, refl); free = refl },
            (
              record { place = _; here = refl; there = inl refl; allowed = (refl, (refl, omega arith)); free = tt },
              (
                record { place = _; here = refl; there = inl refl; allowed = (refl, tt); free = tt },
                (
                  record { place = _; here = refl; there = inl refl; allowed = (refl, tt); free = tt },
                  refl,
                ),
              ),
            ),
          ),
        ),
      ),
    ),
  ),
)

goes_run : Runs (λ k. 0) (λ i. false) (led comes (at_rest 2)) goes (led goes (led comes (at_rest 2)))
unfolding weight
goes_run = (
  record { place = _; here = refl; there = inl refl; allowed = (refl, (refl, refl)); free = tt },
  (
    record { place = _; here = refl; there = inl refl; allowed = (refl, refl); free = refl },
    (
      record { place = _; here = refl; there = inl refl; allowed = (refl, refl, refl); free = tt },
      (
        record { place = _; here = refl; there = inl refl; allowed = (refl, refl); free = tt },
        (
          record { place = _; here = refl; there = inl refl; allowed = (refl, tt); free = tt },
          (
            record { place = _; here = refl; there = inl refl; allowed = (refl, refl, refl); free = tt },
            (
              record { place = _; here = refl; there = inl refl; allowed = (refl, tt); free = tt },
              (
                record { place = _; here = refl; there = inl refl; allowed = (refl, refl); free = tt },
                refl,
              ),
            ),
          ),
        ),
      ),
    ),
  ),
)

runs-append : (ms ns : List Move) (w v x : World) → Runs (λ k. 0) (λ i. false) w ms v
    → Runs (λ k. 0) (λ i. false) v ns x → Runs (λ k. 0) (λ i. false) w (ms ++ ns) x
runs-append [] ns w v x e run = subst (λ (y : World). Runs (λ k. 0) (λ i. false) y ns x) e run
runs-append (m ∷ ms) ns w v x first run = (first.0, runs-append ms ns (moved (λ k. 0) m w) v x first.1 run)

pub runs_are_there : RunsAreThere
unfolding weight
runs_are_there = record {
  asleep = led comes (at_rest 2);
  reached = record { threads = 2; moves = comes; run = comes_run };
  word = refl;
  queue = refl;
  reader = refl;
  pending = refl;
  owned = led goes (led comes (at_rest 2));
  reached_then = record {
    threads = 2;
    moves = comes ++ goes;
    run = runs-append comes goes (at_rest 2) (led comes (at_rest 2)) _ comes_run goes_run;
  };
  word_then = refl;
  queue_then = refl;
  writer_then = refl;
}
