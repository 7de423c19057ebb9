-- While a writer is pending the reader count doesn't grow.
use Rattle.std.proofs.Common.{◌≡◌, ℕ, ◌+◌, ◌<◌, ◌≤◌, ⊎_elim, Bool, false, Some, slice_get, ap, subst, arith}
use Rattle.parking_lot_rules.specs.Roles.{Cause, FromExclusive, FromUpgradable, Scans1, Role}
use Rattle.parking_lot_rules.specs.Classes.{Upgraders, Pending, Writers, weight, total}
use Rattle.parking_lot_rules.specs.Lock.{Lock, IsSound}
use Rattle.parking_lot_rules.specs.Plain.{Plain, Share, Upgradably, YieldBack, Downgrade, DowngradeToUpgradable, from}
use Rattle.parking_lot_rules.specs.Plain.{May, written}
use Rattle.parking_lot_rules.specs.Steps.{Step, Alone, List_changes, Take1, Take2, Store, Wake, Pass, Allowed, after}
use Rattle.parking_lot_rules.specs.Steps.{Scan, scanning, Free, FreeUpgradable, Hand, HandUpgradable, Keep}
use Rattle.parking_lot_rules.specs.Laws.{gives_back, ReadersAreKeptOut}
use Rattle.parking_lot_rules.proofs.Totals.{total-at}

module _ (t : ℕ) (l : Lock) (sound : IsSound l) (some : 0 < total Pending l.roles) where
  -- a writer that is pending is the only one
  no_writer : (r : Role) → slice_get l.roles t ≡ Some r → weight Writers r ≡ 0
  no_writer r at = omega (arith, sound.fits, some, total-at l.roles t r at Writers)

  no_upgrader : (r : Role) → slice_get l.roles t ≡ Some r → weight Upgraders r ≡ 0
  no_upgrader r at = omega (arith, sound.fits, some, total-at l.roles t r at Upgraders)

  plain_readers : (k : Plain) → slice_get l.roles t ≡ Some (from k) → May false k l.word (λ c. total c l.roles)
      → gives_back (Alone k) ≡ false → (written k l.word).readers ≤ l.word.readers
  unfolding weight
  plain_readers (Share n c) at may back = absurd (⊎_elim (λ free. omega (arith, free, sound.fits, some)) (λ r. cc) may)
  plain_readers (Upgradably c) at may back = absurd (omega (arith, may, sound.fits, some))
  plain_readers (Downgrade o) at may back = absurd (omega (arith, no_writer _ at))
  plain_readers (DowngradeToUpgradable o) at may back = absurd (omega (arith, no_writer _ at))
  plain_readers (YieldBack o) at may back = absurd cc
  plain_readers k at may back = omega arith

  store_readers : (s : Scan) (c : Cause) → slice_get l.roles t ≡ Some (scanning s) → s.cause ≡ c
      → (0 < weight Writers (record { owns = s.owns; does = Scans1 c s.shared s.upgradable s.writer s.taken }) + weight
      Upgraders (record { owns = s.owns; does = Scans1 c s.shared s.upgradable s.writer s.taken })) → ⊥
  store_readers s c at cause giving =
      let same : scanning s ≡ record { owns = s.owns; does = Scans1 c s.shared s.upgradable s.writer s.taken } =
      ap (λ x. record { owns = s.owns; does = Scans1 x s.shared s.upgradable s.writer s.taken }) cause in
      omega (
        arith,
        giving,
        no_writer (scanning s) at,
        no_upgrader (scanning s) at,
        ap (weight Writers) same,
        ap (weight Upgraders) same,
      )

pub readers_are_kept_out : (recursive : Bool) (t : ℕ) (step : Step) (l : Lock) → IsSound l → Allowed recursive t step l
    → ReadersAreKeptOut recursive t step l (after t step l)
unfolding weight
readers_are_kept_out recursive t (Alone k) l sound may plain some back = plain_readers t l sound some k may.0
    (subst (λ r. May r k l.word (λ c. total c l.roles)) plain may.1) back
readers_are_kept_out recursive t (List_changes k) l sound may plain some back = omega arith
readers_are_kept_out recursive t (Take1 s i v m stay) l sound may plain some back = omega arith
readers_are_kept_out recursive t (Take2 o v f stay) l sound may plain some back = omega arith
readers_are_kept_out recursive t (Store Free s) l sound may plain some back = omega arith
readers_are_kept_out recursive t (Store FreeUpgradable s) l sound may plain some back = omega arith
readers_are_kept_out recursive t (Store Keep s) l sound may plain some back = omega arith
readers_are_kept_out recursive t (Store Hand s) l sound may plain some back =
    absurd (store_readers t l sound some s FromExclusive may.0 may.1 (omega arith))
readers_are_kept_out recursive t (Store HandUpgradable s) l sound may plain some back =
    absurd (store_readers t l sound some s FromUpgradable may.0 may.1 (omega arith))
readers_are_kept_out recursive t (Wake o v us k stay) l sound may plain some back = omega arith
readers_are_kept_out recursive t (Pass o ws v us) l sound may plain some back = omega arith
