-- The way of a hash comes to every window, and to each of them once.
use Rattle.std.proofs.Common.{◌≡◌, ℕ, ◌+◌, ◌-◌, ◌*◌, ◌/◌, ◌%◌, ◌<◌, ◌≤◌, nat_lt, bit_and, ap, ◌∙◌, inl, inr, arith}
use Rattle.std.proofs.lemmas.Bool.{cond-true, cond-false, lt-ltb, le-ltb, cases_lt}
use Rattle.std.proofs.lemmas.Nat.{and_le_r}
use Rattle.dashmap_table.specs.Tags.Way.{home, round, on_way, windows_of}

pub home-below : (n h : ℕ) → 0 < n → home n h < n
unfolding home
home-below n h some = omega (arith, some, and_le_r (h / 16) (n - 1))

round-on : (n a k : ℕ) → a + k < n → round n a k ≡ a + k
round-on n a k on = cond-true (nat_lt (a + k) n) (a + k) (a + k - n) (lt-ltb (a + k) n on)

round-back : (n a k : ℕ) → n ≤ a + k → round n a k ≡ a + k - n
round-back n a k back = cond-false (nat_lt (a + k) n) (a + k) (a + k - n) (le-ltb (a + k) n back)

round-comes : (n a w : ℕ) → a < n → w < n → (k : ℕ) × (k < n) × (round n a k ≡ w)
round-comes n a w first within = elim (cases_lt w a) [
  | inl before ↦ (
    w + n - a,
    omega (arith, before, first),
    round-back n a (w + n - a) (omega (arith, before, first))
        ∙ omega (arith, before, first),
  )
  | inr behind ↦ (
    w - a,
    omega (arith, within),
    round-on n a (w - a) (omega (arith, behind, within))
        ∙ omega (arith, behind),
  )
]

round-once : (n a j k : ℕ) → j < n → k < n → round n a j ≡ round n a k → j ≡ k
round-once n a j k hj hk same = elim (cases_lt (a + j) n) [
  | inl jn ↦ elim (cases_lt (a + k) n) [
    | inl kn ↦ omega (arith, same, round-on n a j jn, round-on n a k kn)
    | inr ko ↦ omega (arith, same, round-on n a j jn, round-back n a k ko, hj, hk)
  ]
  | inr jo ↦ elim (cases_lt (a + k) n) [
    | inl kn ↦ omega (arith, same, round-back n a j jo, round-on n a k kn, hj, hk)
    | inr ko ↦ omega (arith, same, round-back n a j jo, round-back n a k ko)
  ]
]

pub way-comes : (n h w : ℕ) → w < n → (k : ℕ) × (k < n) × (on_way n h k ≡ w)
way-comes n h w within = round-comes n (home n h) w (home-below n h (omega (arith, within))) within

pub way-once : (n h j k : ℕ) → j < n → k < n → on_way n h j ≡ on_way n h k → j ≡ k
way-once n h j k hj hk same = round-once n (home n h) j k hj hk same

-- a slot is in a window, and in its window's lanes
pub slot-window : (slots l : ℕ) → l < slots → (l / 16 < windows_of slots) × (16 * (l / 16) ≤ l)
    × (l < 16 * (l / 16) + 16)
slot-window slots l within = (omega (arith, within), omega arith, omega arith)

-- a lane of a window is in it
pub lane-window : (w k : ℕ) → k < 16 → (16 * w + k) / 16 ≡ w
lane-window w k within = omega (arith, within)

pub first-on_way : (n h : ℕ) → 0 < n → on_way n h 0 ≡ home n h
first-on_way n h some = round-on n (home n h) 0 (omega (arith, home-below n h some)) ∙ omega arith

-- among whole windows, the first on a way is told by as many of the hash's bits as there are windows
pub first-window : (slots h : ℕ) → 16 ≤ slots → slots % 16 ≡ 0 → on_way (windows_of slots) h 0 ≡ bit_and (h / 16)
    (slots / 16 - 1)
unfolding home
first-window slots h many whole =
    let windows : windows_of slots ≡ slots / 16 = omega (arith, whole) in
    first-on_way (windows_of slots) h (omega (arith, many)) ∙ ap (λ m. bit_and (h / 16) (m - 1)) windows
