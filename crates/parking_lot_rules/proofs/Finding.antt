-- Threads that a total speaks of.
use Rattle.std.proofs.Common.{◌≡◌, ◌≢◌, ℕ, zero, suc, ◌+◌, ◌<◌, ◌≤◌, ◌⊎◌, ⊎_elim, true, false, IsTrue, List, [], ◌∷◌}
use Rattle.std.proofs.Common.{Option, Some, None, slice_get, slice_set, refl, ap, ◌∙◌, inl, inr, arith}
use Rattle.std.proofs.lemmas.List.Sums.{sum_by-cons}
use Rattle.parking_lot_rules.specs.Roles.{Owned, Fresh, Asleep, Late, Back, Open, Normal, Handed, Phase, Idle, Seeks}
use Rattle.parking_lot_rules.specs.Roles.{Enters1, Queued1, Taken1, Queued2, Taken2, Owes1, Scans1, Stored1, Owes2}
use Rattle.parking_lot_rules.specs.Roles.{Scans2, Masked2, Wakes, Role, away}
use Rattle.parking_lot_rules.specs.Classes.{Class, Owing1, Owing2, Called, OpenWriters, OpenUpgraders, weight, total}
use Rattle.parking_lot_rules.specs.Classes.{weighs}
use Rattle.parking_lot_rules.specs.Lists.{occurs}
use Rattle.parking_lot_rules.specs.Lock.{Note, On1, On2, note_of, to_wake}
use Rattle.parking_lot_rules.specs.Laws.{owes, is_at_work}
use Rattle.parking_lot_rules.proofs.Indexed.{get-set_other}
use Rattle.parking_lot_rules.proofs.Totals.{total-at}

pub none_or : (n : ℕ) → (n ≡ 0) ⊎ (0 < n)
none_or zero = inl refl
none_or (suc n) = inr (omega arith)

-- where a total isn't 0, some thread counts in it
pub somebody : (c : Class) (rs : List Role) → 0 < total c rs → (u : ℕ) × (r : Role) × (slice_get rs u ≡ Some r)
    × (0 < weight c r)
somebody c [] some = absurd (omega arith)
somebody c (r ∷ rs) some = ⊎_elim
    (λ none. let more = somebody c rs (omega (arith, sum_by-cons (weight c) r rs, none)) in
    (suc more.0, more.1, more.2, more.3))
    (λ here. (0, r, refl, here))
    (none_or (weight c r))

-- two threads together count no more than all
pub two_of : (c : Class) (rs : List Role) (t u : ℕ) → t ≢ u → weighs c (slice_get rs t) + weighs c (slice_get rs u) ≤
    total c rs
two_of c rs t u ne = go (slice_get rs t) refl (slice_get rs u) refl
  where
    one : (rs : List Role) (u : ℕ) (o : Option Role) → slice_get rs u ≡ o → weighs c o ≤ total c rs
    one rs u None e = omega arith
    one rs u (Some b) e = omega (arith, total-at rs u b e c)

    go : (o : Option Role) → slice_get rs t ≡ o → (p : Option Role) → slice_get rs u ≡ p
        → weighs c (slice_get rs t) + weighs c (slice_get rs u) ≤ total c rs
    go None e p f = omega (arith, ap (weighs c) e, one rs u (slice_get rs u) refl)
    go (Some a) e p f =
        let still : slice_get (slice_set rs t away) u ≡ p = get-set_other rs t u away ne ∙ f in
        omega (arith, ap (weighs c) e, ap (weighs c) f, total-at rs t a e c, one (slice_set rs t away) u p still)

-- who stands where
owing1 : (o : Owned) (p : Phase) → 0 < weight Owing1 (record { owns = o; does = p }) → IsTrue (owes p)
unfolding weight
owing1 o Owes1 some = refl
owing1 o (Scans1 c r u w us) some = refl
owing1 o p some = absurd (omega arith)

owing2 : (o : Owned) (p : Phase) → 0 < weight Owing2 (record { owns = o; does = p }) → IsTrue (owes p)
unfolding weight
owing2 o Owes2 some = refl
owing2 o (Scans2 us) some = refl
owing2 o p some = absurd (omega arith)

pub called_case : (o : Owned) (p : Phase) → 0 < weight Called (record { owns = o; does = p }) → IsTrue (owes p)
    ⊎ ((by : ℕ) × (note : Note) × (note_of p ≡ Some (by, note)))
unfolding weight
called_case o (Seeks m true) some = inl refl
called_case o (Seeks m false) some = absurd (omega arith)
called_case o (Enters1 m c) some = inl refl
called_case o (Taken1 m by Normal Asleep) some = inr (by, On1 Normal, refl)
called_case o (Taken1 m by Normal Fresh) some = inl refl
called_case o (Taken1 m by Normal Late) some = inl refl
called_case o (Taken1 m by Normal Back) some = inl refl
called_case o p some = absurd (omega arith)

pub open_writer : (o : Owned) (p : Phase) → 0 < weight OpenWriters (record { owns = o; does = p }) → (by : ℕ)
    × (note : Note) × (note_of p ≡ Some (by, note))
unfolding weight
open_writer o (Taken1 m by Open s) some = (by, On1 Open, refl)
open_writer o p some = absurd (omega arith)

pub open_upgrader : (o : Owned) (p : Phase) → 0 < weight OpenUpgraders (record { owns = o; does = p }) → (by : ℕ)
    × (note : Note) × (note_of p ≡ Some (by, note))
unfolding weight
open_upgrader o (Taken1 m by Open s) some = (by, On1 Open, refl)
open_upgrader o p some = absurd (omega arith)

-- who is to wake another owes that
pub waker_owes : (p : Phase) (note : Note) (u : ℕ) → 0 < occurs u (to_wake p note) → IsTrue (owes p)
waker_owes (Scans1 c r x w us) note u some = refl
waker_owes (Stored1 us) note u some = refl
waker_owes (Scans2 us) note u some = refl
waker_owes (Masked2 us) note u some = refl
waker_owes (Wakes (v ∷ us)) note u some = refl
waker_owes (Wakes []) (On1 Open) u some = absurd (omega arith)
waker_owes (Wakes []) (On1 Normal) u some = absurd (omega arith)
waker_owes (Wakes []) (On1 Handed) u some = absurd (omega arith)
waker_owes (Wakes []) On2 u some = absurd (omega arith)
waker_owes p note u some = absurd (omega arith)

pub owing1_owes : (r : Role) → 0 < weight Owing1 r → IsTrue (owes r.does)
owing1_owes r some = owing1 r.owns r.does some

pub owing2_owes : (r : Role) → 0 < weight Owing2 r → IsTrue (owes r.does)
owing2_owes r some = owing2 r.owns r.does some

-- who owes is at work
pub owes_works : (p : Phase) → IsTrue (owes p) → IsTrue (is_at_work p)
owes_works Idle o = absurd cc
owes_works (Queued1 m Asleep) o = absurd cc
owes_works (Taken1 m by how Asleep) o = absurd cc
owes_works (Queued2 f Asleep) o = absurd cc
owes_works (Taken2 f by Asleep) o = absurd cc
owes_works p o = refl
