-- A mutex is sound once a waiter was moved into its list, and once one was woken to try again.
use Rattle.std.proofs.Common.{◌≡◌, ℕ, ◌+◌, ◌≤◌, Bool, true, List, [], ◌∷◌, Some, slice_get, slice_set, refl, sym, arith}
use Rattle.std.proofs.lemmas.List.Sums.{sum_by-cons}
use Rattle.std.proofs.lemmas.Option.{none-some}
use Rattle.parking_lot_rules.specs.Roles.{Asleep}
use Rattle.parking_lot_rules.specs.Mutex.{Called, Class, Fits, Idle, Inside, IsSound, Masking, Mutex, Phase, Queued}
use Rattle.parking_lot_rules.specs.Mutex.{Role, Seeks, Waiting, Word, away, doing, note_of, total, wakes, weight}
use Rattle.parking_lot_rules.proofs.Mutexes.{away_weighs, same_counts, total-at, total-set}
use Rattle.parking_lot_rules.proofs.Noting.{noted-set}
use Rattle.parking_lot_rules.proofs.Waiting.{lists-push, lists-same}
use Rattle.parking_lot_machine.specs.Requeues.{filed, roused}

-- who masks is inside
masks_inside : (o : Bool) (p : Phase) → weight Masking (record { owns = o; does = p }) ≤ weight Inside
    (record { owns = o; does = p })
unfolding weight
masks_inside o Idle = omega arith
masks_inside o p = omega arith

none_masks : (rs : List Role) → total Inside rs ≡ 0 → total Masking rs ≡ 0
none_masks [] e = refl
none_masks (r ∷ rs) e =
    omega (
      arith,
      sum_by-cons (weight Inside) r rs,
      sum_by-cons (weight Masking) r rs,
      masks_inside r.owns r.does,
      none_masks rs (omega (arith, e, sum_by-cons (weight Inside) r rs)),
    )

file_fits : (w : Word) (rest : Class → ℕ) → rest Masking ≡ 0 → 1 ≤ w.locked + rest Called
    → Fits w (λ x. rest x + weight x away)
    → Fits (record w { parked = 1 }) (λ x. rest x + weight x (doing (Queued Asleep)))
unfolding weight
file_fits w rest none attended fits = omega arith

rouse_fits : (w : Word) (rest : Class → ℕ) → Fits w (λ x. rest x + weight x away)
    → Fits w (λ x. rest x + weight x (doing (Seeks true)))
unfolding weight
rouse_fits w rest fits = omega arith

module _ (n : Mutex) (v : ℕ) (sound : IsSound n) (there : slice_get n.roles v ≡ Some away) where
  pub filed_sound : total Inside n.roles ≡ 0 → 1 ≤ n.word.locked + total Called n.roles → IsSound (filed n v)
  unfolding weight
  filed_sound nobody attended = record {
    fits = same_counts (Fits (record n.word { parked = 1 })) _ _ (λ c. sym (total-set n.roles v away sleeper there c))
        (file_fits n.word (λ c. total c (slice_set n.roles v away)) none called
        (same_counts (Fits n.word) _ _ (total-at n.roles v away there) sound.fits));
    waiting = lists-push (weight Waiting) n.queue n.roles v away sleeper there sound.waiting refl refl;
    noted = noted-set note_of wakes n.roles v away sleeper there sound.noted
        (λ by mark took. absurd (none-some (by, mark) took)) (λ u r mark here took. omega arith);
  }
    where
      sleeper : Role
      sleeper = doing (Queued Asleep)

      none : total Masking (slice_set n.roles v away) ≡ 0
      none = omega (arith, none_masks n.roles nobody, total-at n.roles v away there Masking)

      called : 1 ≤ n.word.locked + total Called (slice_set n.roles v away)
      called = omega (arith, attended, total-at n.roles v away there Called, away_weighs Called)

  pub roused_sound : IsSound (roused n v)
  unfolding weight
  roused_sound = record {
    fits = same_counts (Fits n.word) _ _ (λ c. sym (total-set n.roles v away (doing (Seeks true)) there c))
        (rouse_fits n.word (λ c. total c (slice_set n.roles v away))
        (same_counts (Fits n.word) _ _ (total-at n.roles v away there) sound.fits));
    waiting = lists-same (weight Waiting) n.queue n.roles v away (doing (Seeks true)) there sound.waiting refl;
    noted = noted-set note_of wakes n.roles v away (doing (Seeks true)) there sound.noted
        (λ by mark took. absurd (none-some (by, mark) took)) (λ u r mark here took. omega arith);
  }

  -- whoever waits is attended to still
  pub filed_attended : 1 ≤ n.word.locked + total Called n.roles → 1 ≤ (filed n v).word.locked + total Called
      (filed n v).roles
  unfolding weight
  filed_attended attended =
      omega (
        arith,
        attended,
        total-at n.roles v away there Called,
        total-set n.roles v away (doing (Queued Asleep))
            there Called,
      )

  pub roused_attended : 1 ≤ (roused n v).word.locked + total Called (roused n v).roles
  unfolding weight
  roused_attended = omega (arith, total-set n.roles v away (doing (Seeks true)) there Called)
