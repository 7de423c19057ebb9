-- What the number of a reader-writer lock's word says, and what acts make of it.
use Rattle.std.proofs.Common.{◌≡◌, ◌≢◌, ◌≤◌, ◌<◌, ℕ, ◌+◌, ◌-◌, ◌*◌, ◌/◌, ◌%◌, ◌^◌, ◌==◌, ◌&&◌, ◌||◌, ◌⊎◌, inl, inr, not}
use Rattle.std.proofs.Common.{bit_and, Bool, true, false, refl, sym, ap, ◌∙◌, arith, eqb-true}
use Rattle.std.proofs.lemmas.Bool.{both_ways, ltb-true, ltb-false, lt-ltb, eqb-false}
use Rattle.std.proofs.Common.{lit<, lit≤}
use Rattle.std.proofs.lemmas.Nat.{and_comm, and-not}
use Rattle.std.proofs.lemmas.Nat.Bits.{and_pow, and_high_mask}
use Rattle.std.proofs.Math.Nat.{mod-eq_of_lt, add-mod_left}
use Rattle.parking_lot_rules.specs.Clauses.{Word, IsWord, number}
use Rattle.parking_lot_rules.specs.Plain as plain
use Rattle.parking_lot_protocol.specs.declared.rw_phase.LockMode.{LockMode}
use Rattle.parking_lot_protocol.specs.declared.rw_phase.LockMode.TheVariants.{Shared, Exclusive}
use Rattle.parking_lot_protocol.specs.RwTable.{is_parked, is_writer_parked, is_upgradable, is_written, has_readers}
use Rattle.parking_lot_protocol.specs.RwTable.{has_room, is_barred, is_admitted}
use Rattle.parking_lot_protocol.specs.RwRules.{mode_of, MayAsk}

-- WHAT THE NUMBER OF A WORD SAYS

pub record Parts (w : Word) (word : ℕ) : Type 0 where
  pub readers : word / 16 ≡ w.readers
  pub writer : word / 8 % 2 ≡ w.writer
  pub upgradable : word / 4 % 2 ≡ w.upgradable
  pub parked2 : word / 2 % 2 ≡ w.parked2
  pub parked1 : word % 2 ≡ w.parked1

pub parts : (w : Word) (word : ℕ) → IsWord w → word ≡ number w → Parts w word
parts w word h e =
    let a = h.writer in
    let b = h.upgradable in
    let c = h.parked2 in
    let d = h.parked1 in
    record {
      readers = omega arith;
      writer = omega arith;
      upgradable = omega arith;
      parked2 = omega arith;
      parked1 = omega arith;
    }

-- TESTS

pub both : (a b : Bool) → a && b ≡ true → (a ≡ true) × (b ≡ true)
both true true e = (refl, refl)
both true false e = absurd (both_ways false refl e)
both false b e = absurd (both_ways false refl e)

pub other : (a b : Bool) → a && b ≡ false → a ≡ true → b ≡ false
other true b e f = e
other false b e f = absurd (both_ways false refl f)

pub one : (n : ℕ) → (n == 1) ≡ true → n ≡ 1
one n e = eqb-true n 1 e

pub none : (n : ℕ) → n ≤ 1 → (n == 1) ≡ false → n ≡ 0
none n h e = let k : n ≢ 1 = eqb-false n 1 e in omega arith

-- WHAT AN ANSWER AT THE WORD SHOWS

module _ (w : Word) (h : IsWord w) where
  abbrev pub n : ℕ
  n = number w

  pub at : Parts w n
  at = parts w n h refl

  pub written : is_written n ≡ true → w.writer ≡ 1
  written e = sym at.writer ∙ one (n / 8 % 2) e

  pub unwritten : is_written n ≡ false → w.writer ≡ 0
  unwritten e = let a = h.writer in let b = at.writer in sym at.writer ∙ none (n / 8 % 2) (omega arith) e

  pub upgraded : is_upgradable n ≡ true → w.upgradable ≡ 1
  upgraded e = sym at.upgradable ∙ one (n / 4 % 2) e

  pub no_upgraded : is_upgradable n ≡ false → w.upgradable ≡ 0
  no_upgraded e = let a = h.upgradable in let b = at.upgradable in sym at.upgradable ∙ none (n / 4 % 2) (omega arith) e

  pub parked : is_parked n ≡ true → w.parked1 ≡ 1
  parked e = sym at.parked1 ∙ one (n % 2) e

  pub unparked : is_parked n ≡ false → w.parked1 ≡ 0
  unparked e = let a = h.parked1 in let b = at.parked1 in sym at.parked1 ∙ none (n % 2) (omega arith) e

  pub parked2 : is_writer_parked n ≡ true → w.parked2 ≡ 1
  parked2 e = sym at.parked2 ∙ one (n / 2 % 2) e

  pub unparked2 : is_writer_parked n ≡ false → w.parked2 ≡ 0
  unparked2 e = let a = h.parked2 in let b = at.parked2 in sym at.parked2 ∙ none (n / 2 % 2) (omega arith) e

  pub read : has_readers n ≡ true → 0 < w.readers
  read e = let a = at.readers in let b = ltb-true 0 (n / 16) e in omega arith

  pub unread : has_readers n ≡ false → w.readers ≡ 0
  unread e = let a = at.readers in let b = ltb-false 0 (n / 16) e in omega arith

  pub room : w.readers < 2 ^ 60 - 1 → has_room n ≡ true
  room e = let a = at.readers in lt-ltb (n / 16) (2 ^ 60 - 1) (omega arith)

  -- who is barred is barred by the word
  pub bars : (want : LockMode) → is_barred want n ≡ true → 0 < plain.bars (mode_of want) w
  bars (Shared recursive) e = let a = written e in omega arith
  bars Exclusive e = or (is_written n) (is_upgradable n) refl refl e
    where
      or : (a b : Bool) → is_written n ≡ a → is_upgradable n ≡ b → a || b ≡ true → 0 < w.writer + w.upgradable
      or true b ea eb e = let k = written ea in omega arith
      or false true ea eb e = let k = upgraded eb in omega arith
      or false false ea eb e = absurd (both_ways false refl e)

  -- who is admitted may be
  pub shares : (recursive : Bool) (us : ℕ) → is_admitted (Shared recursive) n ≡ true → (w.writer ≡ 0)
      ⊎ ((recursive ≡ true) × (0 < w.readers))
  shares recursive us e = cases (has_room n) (is_written n) recursive (has_readers n) refl refl refl e
    where
      cases : (a b c d : Bool) → is_written n ≡ b → c ≡ recursive → has_readers n ≡ d → a && (not b || (c && d)) ≡ true
          → (w.writer ≡ 0) ⊎ ((recursive ≡ true) × (0 < w.readers))
      cases true false c d eb ec ed e = inl (unwritten eb)
      cases true true true true eb ec ed e = inr (sym ec, read ed)
      cases true true true false eb ec ed e = absurd (both_ways false refl e)
      cases true true false d eb ec ed e = absurd (both_ways false refl e)
      cases false b c d eb ec ed e = absurd (both_ways false refl e)

  pub pends : is_admitted Exclusive n ≡ true → (w.writer ≡ 0) × (w.upgradable ≡ 0)
  pends e = cases (is_written n) (is_upgradable n) refl refl e
    where
      cases : (a b : Bool) → is_written n ≡ a → is_upgradable n ≡ b → not (a || b) ≡ true → (w.writer ≡ 0)
          × (w.upgradable ≡ 0)
      cases false false ea eb e = (unwritten ea, no_upgraded eb)
      cases false true ea eb e = absurd (both_ways false refl e)
      cases true b ea eb e = absurd (both_ways false refl e)

  -- one that isn't admitted though it may ask owns nothing
  pub owns_nothing : (recursive : Bool) (k : ℕ) (want : LockMode) → w.readers < 2 ^ 60 - 1 → MayAsk recursive k want w
      → is_barred want n ≡ true → is_admitted want n ≡ false → k ≡ 0
  owns_nothing recursive k Exclusive r m e f = m
  owns_nothing recursive k (Shared false) r m e f = m
  owns_nothing recursive k (Shared true) r m e f =
      let g : has_readers n ≡ false = cases (has_room n) (is_written n) (has_readers n) (room r) e f in
      let z = unread g in
      let l = m.1 in
      omega arith
    where
      cases : (a b c : Bool) → a ≡ true → b ≡ true → a && (not b || (true && c)) ≡ false → c ≡ false
      cases true true c ea eb e = e
      cases true false c ea eb e = absurd (both_ways false refl eb)
      cases false b c ea eb e = absurd (both_ways false refl ea)

  -- WORDS AFTER

  pub small : w.readers < 2 ^ 60 - 1 → (k : ℕ) → k ≤ 16 → (n + k) % 2 ^ 64 ≡ n + k
  small r k e = let a = h.writer in let b = h.upgradable in let c = h.parked2 in let d = h.parked1 in
      mod-eq_of_lt (omega arith)

  pub shared_word : w.readers < 2 ^ 60 - 1 → (n + 16) % 2 ^ 64 ≡ number (record w { readers = w.readers + 1 })
  shared_word r = small r 16 (omega arith) ∙ omega arith

  pub written_word : w.readers < 2 ^ 60 - 1 → w.writer ≡ 0 → (n + 8) % 2 ^ 64 ≡ number (record w { writer = 1 })
  written_word r e = small r 8 (omega arith) ∙ omega arith

  pub parked_word : w.readers < 2 ^ 60 - 1 → w.parked1 ≡ 0 → (n + 1) % 2 ^ 64 ≡ number (record w { parked1 = 1 })
  parked_word r e = small r 1 (omega arith) ∙ omega arith

  pub parked2_word : w.readers < 2 ^ 60 - 1 → w.parked2 ≡ 0 → (n + 2) % 2 ^ 64 ≡ number (record w { parked2 = 1 })
  parked2_word r e = small r 2 (omega arith) ∙ omega arith

  pub downgraded_word : w.readers < 2 ^ 60 - 1 → w.writer ≡ 1
      → (n + 8) % 2 ^ 64 ≡ number (record w { readers = w.readers + 1; writer = 0 })
  downgraded_word r e = small r 8 (omega arith) ∙ omega arith

  pub unshared_word : w.readers < 2 ^ 60 - 1 → 0 < w.readers → (n + (2 ^ 64 - 16)) % 2 ^ 64 ≡ number
      (record w { readers = w.readers - 1 })
  unshared_word r e =
      let a = h.writer in
      let b = h.upgradable in
      let c = h.parked2 in
      let d = h.parked1 in
      let m = number (record w { readers = w.readers - 1 }) in
      let same : n + (2 ^ 64 - 16) ≡ 2 ^ 64 + m = omega arith in
      ap (λ x. x % 2 ^ 64) same ∙ add-mod_left (2 ^ 64) m ∙ mod-eq_of_lt (omega arith)

  pub masked_word : w.readers < 2 ^ 60 - 1 → bit_and n (2 ^ 64 - 3) ≡ number (record w { parked2 = 0 })
  masked_word r =
      let a = h.writer in
      let b = h.upgradable in
      let c = h.parked2 in
      let d = h.parked1 in
      let e = at.parked2 in
      let f : bit_and (2 ^ 64 - 3) n + bit_and 2 n ≡ n = and-not 64 2 n (lit< tt) (omega arith) in
      let g : bit_and 2 n ≡ (n / 2 % 2) * 2 = and_comm 2 n ∙ and_pow n 1 in
      let k = and_comm n (2 ^ 64 - 3) in
      omega arith

  pub kept_word : w.readers < 2 ^ 60 - 1 → (bit_and n (2 ^ 64 - 2 + 1) + 0) % 2 ^ 64 ≡ n
  kept_word r =
      let a = h.writer in
      let b = h.upgradable in
      let c = h.parked2 in
      let d = h.parked1 in
      let f : n < 2 ^ 64 = omega arith in
      let g : bit_and n (2 ^ 64 - 2 + 1) ≡ n / 1 * 1 = and_high_mask 64 0 (lit≤ tt) n f in
      let k : bit_and n (2 ^ 64 - 2 + 1) + 0 ≡ n = omega arith in
      ap (λ x. x % 2 ^ 64) k ∙ mod-eq_of_lt f

  pub cleared_word : w.readers < 2 ^ 60 - 1 → (bit_and n (2 ^ 64 - 2 + 0) + 0) % 2 ^ 64 ≡ number
      (record w { parked1 = 0 })
  cleared_word r =
      let a = h.writer in
      let b = h.upgradable in
      let c = h.parked2 in
      let d = h.parked1 in
      let e = at.parked1 in
      let f : n < 2 ^ 64 = omega arith in
      let g : bit_and n (2 ^ 64 - 2 + 0) ≡ n / 2 * 2 = and_high_mask 64 1 (lit≤ tt) n f in
      let k : bit_and n (2 ^ 64 - 2 + 0) + 0 ≡ number (record w { parked1 = 0 }) = omega arith in
      ap (λ x. x % 2 ^ 64) k ∙ mod-eq_of_lt (omega arith)
