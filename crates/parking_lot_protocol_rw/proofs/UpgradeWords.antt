-- What acts make of the number of a word that has an upgradable owner, or gets one.
use Rattle.std.proofs.Common.{◌≡◌, ◌≤◌, ◌<◌, ℕ, ◌+◌, ◌-◌, ◌*◌, ◌/◌, ◌%◌, ◌^◌, bit_and, Bool, true, false, ap, ◌∙◌}
use Rattle.std.proofs.Common.{arith}
use Rattle.std.proofs.Common.{lit≤}
use Rattle.std.proofs.lemmas.Nat.Bits.{and_high_mask}
use Rattle.std.proofs.Math.Nat.{mod-eq_of_lt, add-mod_left, add-mod-mod}
use Rattle.parking_lot_rules.specs.Classes.{bit}
use Rattle.parking_lot_rules.specs.Clauses.{Word, IsWord, number}
use Rattle.parking_lot_rules.specs.Steps.{FreeUpgradable, HandUpgradable, stored}
use Rattle.parking_lot_protocol_rw.specs.UpgradeRules.{HasUpgradable, HasWriter}
use Rattle.parking_lot_protocol.proofs.RwWords.{at, masked_word}

module _ (w : Word) (h : IsWord w) (r : w.readers < 2 ^ 60 - 1) where
  abbrev n : ℕ
  n = number w

  -- a sum that passes the greatest word by so much
  passes : (k m : ℕ) → n + k ≡ 2 ^ 64 + m → m < 2 ^ 64 → (n + k) % 2 ^ 64 ≡ m
  passes k m e f = ap (λ x. x % 2 ^ 64) e ∙ add-mod_left (2 ^ 64) m ∙ mod-eq_of_lt f

  pub upgradable_word : w.writer ≡ 0 → w.upgradable ≡ 0
      → (n + 20) % 2 ^ 64 ≡ number (record w { readers = w.readers + 1; upgradable = 1 })
  upgradable_word x u = let c = h.parked2 in let d = h.parked1 in mod-eq_of_lt (omega arith) ∙ omega arith

  pub upgraded_word : HasUpgradable w → (n + (2 ^ 64 - 12)) % 2 ^ 64 ≡ number
      (record w { readers = w.readers - 1; writer = 1; upgradable = 0 })
  upgraded_word o =
      let a = o.readers in
      let x = o.writer in
      let u = o.upgradable in
      let c = h.parked2 in
      let d = h.parked1 in
      passes (2 ^ 64 - 12) (number (record w { readers = w.readers - 1; writer = 1; upgradable = 0 })) (omega arith)
      (omega arith)

  pub alone_word : HasUpgradable w → w.readers ≡ 1 → (n + (2 ^ 64 - 12)) % 2 ^ 64 ≡ number
      (record w { readers = 0; writer = 1; upgradable = 0 })
  alone_word o e = upgraded_word o ∙ omega arith

  pub freed_word : HasUpgradable w → (n + (2 ^ 64 - 20)) % 2 ^ 64 ≡ number
      (record w { readers = w.readers - 1; upgradable = 0 })
  freed_word o =
      let a = o.readers in
      let x = o.writer in
      let u = o.upgradable in
      let c = h.parked2 in
      let d = h.parked1 in
      passes (2 ^ 64 - 20) (number (record w { readers = w.readers - 1; upgradable = 0 })) (omega arith) (omega arith)

  pub shared_word : HasUpgradable w → (n + (2 ^ 64 - 4)) % 2 ^ 64 ≡ number (record w { upgradable = 0 })
  shared_word o =
      let a = o.readers in
      let x = o.writer in
      let u = o.upgradable in
      let c = h.parked2 in
      let d = h.parked1 in
      passes (2 ^ 64 - 4) (number (record w { upgradable = 0 })) (omega arith) (omega arith)

  pub to_upgradable_word : HasWriter w
      → (n + 12) % 2 ^ 64 ≡ number (record w { readers = w.readers + 1; writer = 0; upgradable = 1 })
  to_upgradable_word o =
      let x = o.writer in
      let u = o.upgradable in
      let c = h.parked2 in
      let d = h.parked1 in
      mod-eq_of_lt (omega arith) ∙ omega arith

  pub yielded_word : HasWriter w → (bit_and n (2 ^ 64 - 3) + (2 ^ 64 - 8)) % 2 ^ 64 ≡ number
      (record w { writer = 0; parked2 = 0 })
  yielded_word o =
      let x = o.writer in
      let u = o.upgradable in
      let c = h.parked2 in
      let d = h.parked1 in
      let m = masked_word w h r in
      let k = number (record w { writer = 0; parked2 = 0 }) in
      let e : bit_and n (2 ^ 64 - 3) + (2 ^ 64 - 8) ≡ 2 ^ 64 + k = omega arith in
      ap (λ y. y % 2 ^ 64) e ∙ add-mod_left (2 ^ 64) k ∙ mod-eq_of_lt (omega arith)

  pub given_back_word : HasWriter w → (bit_and n (2 ^ 64 - 3) + 12) % 2 ^ 64 ≡ number
      (record w { readers = w.readers + 1; writer = 0; upgradable = 1; parked2 = 0 })
  given_back_word o =
      let x = o.writer in
      let u = o.upgradable in
      let c = h.parked2 in
      let d = h.parked1 in
      let m = masked_word w h r in
      mod-eq_of_lt (omega arith) ∙ omega arith

  -- the bits above the parked one
  pub high : bit_and n (2 ^ 64 - 2) ≡ n / 2 * 2
  high =
      let a = h.writer in
      let b = h.upgradable in
      let c = h.parked2 in
      let d = h.parked1 in
      and_high_mask 64 1 (lit≤ tt) n (omega arith)

  all_bits : bit_and n (2 ^ 64 - 1) ≡ n / 1 * 1
  all_bits =
      let a = h.writer in
      let b = h.upgradable in
      let c = h.parked2 in
      let d = h.parked1 in
      and_high_mask 64 0 (lit≤ tt) n (omega arith)

  pub released_word : HasUpgradable w → (shared : ℕ) (u x left : Bool)
      → (bit_and n (2 ^ 64 - 2 + bit left) + (2 ^ 64 - 20)) % 2 ^ 64 ≡ number
      (stored FreeUpgradable shared u x (bit left) w)
  released_word o shared u x true =
      let a = o.readers in
      let b = o.writer in
      let e = o.upgradable in
      let c = h.parked2 in
      let d = h.parked1 in
      let k : ℕ = number (stored FreeUpgradable shared u x 1 w) in
      let m : bit_and n (2 ^ 64 - 2 + 1) ≡ n / 1 * 1 = all_bits in
      let s : bit_and n (2 ^ 64 - 2 + 1) + (2 ^ 64 - 20) ≡ 2 ^ 64 + k = omega arith in
      ap (λ y. y % 2 ^ 64) s ∙ add-mod_left (2 ^ 64) k ∙ mod-eq_of_lt (omega arith)
  released_word o shared u x false =
      let a = o.readers in
      let b = o.writer in
      let e = o.upgradable in
      let c = h.parked2 in
      let d = h.parked1 in
      let p = (at w h).parked1 in
      let k : ℕ = number (stored FreeUpgradable shared u x 0 w) in
      let m : bit_and n (2 ^ 64 - 2 + 0) ≡ n / 2 * 2 = high in
      let s : bit_and n (2 ^ 64 - 2 + 0) + (2 ^ 64 - 20) ≡ 2 ^ 64 + k = omega arith in
      ap (λ y. y % 2 ^ 64) s ∙ add-mod_left (2 ^ 64) k ∙ mod-eq_of_lt (omega arith)

  -- a release that hands the lock over to so many
  module _ (o : HasUpgradable w) (shared : ℕ) (f : w.readers + shared < 2 ^ 60) where
    handed : (g y l : ℕ) → g ≤ 1 → y ≤ 1 → l ≤ 1 → (s m : ℕ) → s ≡ 16 * shared + 20 * g + 8 * y + l
        → m ≡ 16 * (w.readers - 1 + shared + g) + 8 * y + 4 * g + 2 * w.parked2 + l
        → (bit_and n (2 ^ 64 - 2) + (s % 2 ^ 64 + (2 ^ 64 - 20)) % 2 ^ 64) % 2 ^ 64 ≡ m
    handed g y l e i q s m v k =
        let a = o.readers in
        let b = o.writer in
        let c = o.upgradable in
        let d = h.parked2 in
        let p = h.parked1 in
        let t = (at w h).parked1 in
        let small : s % 2 ^ 64 ≡ s = mod-eq_of_lt (omega arith) in
        let z : bit_and n (2 ^ 64 - 2) + (s + (2 ^ 64 - 20)) ≡ 2 ^ 64 + m = let j = high in omega arith in
        let inner : (bit_and n (2 ^ 64 - 2) + (s + (2 ^ 64 - 20)) % 2 ^ 64) % 2 ^ 64
        ≡ (bit_and n (2 ^ 64 - 2) + (s + (2 ^ 64 - 20))) % 2 ^ 64 = add-mod-mod _ _ _ in
        ap (λ x. (bit_and n (2 ^ 64 - 2) + (x + (2 ^ 64 - 20)) % 2 ^ 64) % 2 ^ 64) small ∙ inner
        ∙ ap (λ x. x % 2 ^ 64) z ∙ add-mod_left (2 ^ 64) m ∙ mod-eq_of_lt (omega arith)

    abbrev HandsTo : Bool → Bool → Bool → Type 0
    HandsTo u x left =
        (bit_and n (2 ^ 64 - 2) + (((0 + (16 * shared + 20 * bit u + 8 * bit x)) + bit left) % 2 ^ 64 + (2 ^ 64 - 20)) %
        2 ^ 64) % 2 ^ 64 ≡ number (stored HandUpgradable shared u x (bit left) w)

    pub handed_word : (u x left : Bool) → HandsTo u x left
    handed_word true true true = handed 1 1 1 (omega arith) (omega arith) (omega arith) _ _ (omega arith) (omega arith)
    handed_word true true false = handed 1 1 0 (omega arith) (omega arith) (omega arith) _ _ (omega arith) (omega arith)
    handed_word true false true = handed 1 0 1 (omega arith) (omega arith) (omega arith) _ _ (omega arith) (omega arith)
    handed_word true false false = handed 1 0 0 (omega arith) (omega arith) (omega arith) _ _ (omega arith)
        (omega arith)
    handed_word false true true = handed 0 1 1 (omega arith) (omega arith) (omega arith) _ _ (omega arith) (omega arith)
    handed_word false true false = handed 0 1 0 (omega arith) (omega arith) (omega arith) _ _ (omega arith)
        (omega arith)
    handed_word false false true = handed 0 0 1 (omega arith) (omega arith) (omega arith) _ _ (omega arith)
        (omega arith)
    handed_word false false false = handed 0 0 0 (omega arith) (omega arith) (omega arith) _ _ (omega arith)
        (omega arith)
