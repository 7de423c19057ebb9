-- Totals over the roles: what holds of any roles at all, and how the totals change where one role does.
use Rattle.std.proofs.Common.{◌≡◌, ℕ, ◌+◌, ◌≤◌, Bool, true, false, List, [], ◌∷◌, Some, slice_get, slice_set, subst}
use Rattle.std.proofs.Common.{refl, arith}
use Rattle.std.proofs.lemmas.List.Sums.{sum_by-cons}
use Rattle.parking_lot_rules.specs.Roles.{Owned, Phase, Scans1, Role, away}
use Rattle.parking_lot_rules.specs.Classes.{Class, Readers, Inside1, TakenReaders, weight, total, bit}
use Rattle.parking_lot_rules.specs.Clauses.{Counts}
use Rattle.parking_lot_rules.proofs.Indexed.{sum_by-set_at}

pub bit_le : (b : Bool) → bit b ≤ 1
bit_le true = omega arith
bit_le false = omega arith

-- what holds of each role
counts_parts : (o : Owned) (p : Phase) → Counts (λ c. weight c (record { owns = o; does = p }))
unfolding weight
counts_parts o (Scans1 c r u w us) = omega (arith, bit_le u, bit_le w)
counts_parts o p = omega arith

pub counts_one : (r : Role) → Counts (λ c. weight c r)
counts_one r = counts_parts r.owns r.does

-- so of all of them
pub counts_all : (rs : List Role) → Counts (λ c. total c rs)
counts_all [] = omega arith
counts_all (r ∷ rs) =
    let one : Counts (λ c. weight c r) = counts_one r in
    let more : Counts (λ c. total c rs) = counts_all rs in
    record {
      pending = omega (arith, sum_by-cons {X = Role}, one, more);
      joining1 = omega (arith, sum_by-cons {X = Role}, one, more);
      joining2 = omega (arith, sum_by-cons {X = Role}, one, more);
      upgraders = omega (arith, sum_by-cons {X = Role}, one, more);
      none_taken = λ e.
          let a : weight TakenReaders r ≡ 0 = one.none_taken (omega (arith, sum_by-cons (weight Inside1) r rs)) in
          let b : total TakenReaders rs ≡ 0 = more.none_taken (omega (arith, sum_by-cons (weight Inside1) r rs)) in
          omega (arith, sum_by-cons (weight TakenReaders) r rs);
    }

-- a thread that is away weighs nothing
pub away_weighs : (c : Class) → weight c away ≡ 0
unfolding weight
away_weighs Readers = refl
away_weighs _ = refl

-- the totals without one role, and with another in its place
pub total-set : (rs : List Role) (t : ℕ) (a b : Role) → slice_get rs t ≡ Some a → (c : Class)
    → total c (slice_set rs t b) ≡ total c (slice_set rs t away) + weight c b
total-set rs t a b at c =
    omega (arith, sum_by-set_at (weight c) rs t a b at, sum_by-set_at (weight c) rs t a away at, away_weighs c)

pub total-at : (rs : List Role) (t : ℕ) (a : Role) → slice_get rs t ≡ Some a → (c : Class)
    → total c rs ≡ total c (slice_set rs t away) + weight c a
total-at rs t a at c = omega (arith, sum_by-set_at (weight c) rs t a away at, away_weighs c)

-- what holds of the counts holds of equal ones
pub same_counts : (P : (Class → ℕ) → Type 0) (m n : Class → ℕ) → ((c : Class) → m c ≡ n c) → P m → P n
same_counts P m n e h = let p : m ≡ n = λ i c. e c i in subst P p h
