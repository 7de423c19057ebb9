-- States in which a wrong step breaks the clauses.
use Rattle.std.proofs.Common.{◌≡◌, ℕ, zero, suc, ◌<◌, true, false, IsTrue, [], ◌∷◌, Some, None, slice_get, refl, sym}
use Rattle.std.proofs.Common.{ap, ◌∙◌, subst, inl, arith}
use Rattle.std.proofs.lemmas.Option.{none-some, same_Some}
use Rattle.parking_lot_rules.specs.Roles.{Shared, Exclusive, Shares, Fresh, Asleep, Open, Normal, FromExclusive, Owed}
use Rattle.parking_lot_rules.specs.Roles.{Phase, Idle, Seeks, Enters1, Queued1, Taken1, Queued2, Yields, Scans1}
use Rattle.parking_lot_rules.specs.Roles.{Stored1, Scans2, Masked2, Wakes, Role}
use Rattle.parking_lot_rules.specs.Classes.{Class, Waiting1, Waiting2, weight, total, weighs}
use Rattle.parking_lot_rules.specs.Clauses.{Word, Fits}
use Rattle.parking_lot_rules.specs.Lists.{occurs}
use Rattle.parking_lot_rules.specs.Lock.{Lock, Note, On1, note_of, to_wake, AreNoted, IsSound}
use Rattle.std.proofs.lemmas.List.Sums.{sum_by-cons}
use Rattle.parking_lot_rules.specs.Plain.{Share}
use Rattle.parking_lot_rules.specs.Steps.{Scan, scanning, Alone, after}
use Rattle.parking_lot_rules.specs.Laws.{SomebodyOwes, owes}
use Rattle.parking_lot_rules.specs.Wrong.{IsWrong, doing, ForgetsTheWriter, GoesPastAWriter, JoinsUnchecked}
use Rattle.parking_lot_rules.specs.Wrong.{LeavesTheBit, StoresZero, WakesByNumber, KeepsItsBit, DebtsAloneBreak}
use Rattle.parking_lot_rules.proofs.Waiting.{counted-other, occurs-cons}

-- a lock whose readers have gone, with the writer asleep
abbrev pending : Lock
pending = record {
  word = record { readers = 0; writer = 1; upgradable = 0; parked2 = 1; parked1 = 0 };
  roles = doing (Scans2 []) ∷ doing (Queued2 false Asleep) ∷ [];
  first = [];
  second = 1 ∷ [];
}

pending_sound : IsSound pending
unfolding weight
pending_sound = record {
  fits = omega arith;
  waiting1 = record { count = refl; each = first };
  waiting2 = record { count = refl; each = second };
  noted = noted;
}
  where
    first : (u : ℕ) → 0 ≡ weighs Waiting1 (slice_get pending.roles u)
    first zero = refl
    first (suc zero) = refl
    first (suc (suc u)) = refl

    second : (u : ℕ) → occurs u (1 ∷ []) ≡ weighs Waiting2 (slice_get pending.roles u)
    second zero = refl
    second (suc zero) = refl
    second (suc (suc u)) =
        omega (arith, occurs-cons (suc (suc u)) 1 [], counted-other (suc (suc u)) 1 (λ e. omega (arith, e)))

    noted : AreNoted pending.roles
    noted zero by r note at took =
        absurd (none-some (by, note) (ap (λ (x : Role). note_of x.does) (same_Some _ r at) ∙ took))
    noted (suc zero) by r note at took =
        absurd (none-some (by, note) (ap (λ (x : Role). note_of x.does) (same_Some _ r at) ∙ took))
    noted (suc (suc u)) by r note at took = absurd (none-some r at)

pub forgets_the_writer : IsWrong ForgetsTheWriter
unfolding weight
forgets_the_writer = (
  pending,
  record {
    word = record { readers = 0; writer = 1; upgradable = 0; parked2 = 0; parked1 = 0 };
    roles = doing (Masked2 []) ∷ doing (Queued2 false Asleep) ∷ [];
    first = [];
    second = 1 ∷ [];
  },
  0,
  pending_sound,
  (refl, omega arith, refl),
  λ s. omega (arith, s.fits.announced2),
)

-- a section of an exclusive release: one writer is taken, another left
abbrev scan : Scan
scan = record { owns = Shares 0; cause = FromExclusive; shared = 0; upgradable = false; writer = true; taken = 1 ∷ [] }

abbrev releasing : Lock
releasing = record {
  word = record { readers = 0; writer = 1; upgradable = 0; parked2 = 0; parked1 = 1 };
  roles = scanning scan ∷ doing (Taken1 Exclusive 0 Open Asleep) ∷ doing (Queued1 Exclusive Asleep) ∷ [];
  first = 2 ∷ [];
  second = [];
}

releasing_sound : IsSound releasing
unfolding weight
releasing_sound = record {
  fits = omega arith;
  waiting1 = record { count = refl; each = first };
  waiting2 = record { count = refl; each = second };
  noted = noted;
}
  where
    first : (u : ℕ) → occurs u (2 ∷ []) ≡ weighs Waiting1 (slice_get releasing.roles u)
    first zero = refl
    first (suc zero) = refl
    first (suc (suc zero)) = refl
    first (suc (suc (suc u))) =
        omega (arith, occurs-cons (suc (suc (suc u))) 2 [], counted-other (suc (suc (suc u))) 2 (λ e. omega (arith, e)))

    second : (u : ℕ) → 0 ≡ weighs Waiting2 (slice_get releasing.roles u)
    second zero = refl
    second (suc zero) = refl
    second (suc (suc zero)) = refl
    second (suc (suc (suc u))) = refl

    noted : AreNoted releasing.roles
    noted zero by r note at took =
        absurd (none-some (by, note) (ap (λ (x : Role). note_of x.does) (same_Some _ r at) ∙ took))
    noted (suc zero) by r note at took =
        let e : (0, On1 Open) ≡ (by, note) = same_Some _ _ (ap (λ (x : Role). note_of x.does) (same_Some _ r at) ∙ took)
        in
        subst (λ (x : ℕ × Note). (s : Role) × (slice_get releasing.roles x.0 ≡ Some s)
        × (0 < occurs 1 (to_wake s.does x.1))) e (scanning scan, refl, omega arith)
    noted (suc (suc zero)) by r note at took =
        absurd (none-some (by, note) (ap (λ (x : Role). note_of x.does) (same_Some _ r at) ∙ took))
    noted (suc (suc (suc u))) by r note at took = absurd (none-some r at)

pub goes_past_a_writer : IsWrong GoesPastAWriter
unfolding weight
goes_past_a_writer = (
  releasing,
  record {
    word = releasing.word;
    roles = record { owns = Shares 0; does = Scans1 FromExclusive 0 false true (1 ∷ 2 ∷ []) } ∷ doing
        (Taken1 Exclusive 0 Open Asleep) ∷ doing (Taken1 Exclusive 0 Open Asleep) ∷ [];
    first = [];
    second = [];
  },
  0,
  releasing_sound,
  (scan, 2, refl, refl, refl, refl, refl),
  λ s. omega (arith, s.fits.taken_writers),
)

pub stores_zero : IsWrong StoresZero
unfolding weight
stores_zero = (
  releasing,
  record {
    word = record { readers = 0; writer = 0; upgradable = 0; parked2 = 0; parked1 = 0 };
    roles = doing (Stored1 (1 ∷ [])) ∷ doing (Taken1 Exclusive 0 Normal Asleep) ∷ doing (Queued1 Exclusive Asleep) ∷ [];
    first = 2 ∷ [];
    second = [];
  },
  0,
  releasing_sound,
  (scan, refl, refl, omega arith, refl),
  λ s. absurd (let e : 0 ≡ 1 = s.fits.announced1 (omega arith) in omega (arith, e)),
)

-- somebody alone, inside a section
abbrev alone : Word → Phase → Lock
alone w p = record { word = w; roles = doing p ∷ []; first = []; second = [] }

alone_sound : (w : Word) (p : Phase) → Fits w (λ c. total c (doing p ∷ [])) → weight Waiting1 (doing p) ≡ 0
    → weight Waiting2 (doing p) ≡ 0 → note_of p ≡ None → IsSound (alone w p)
alone_sound w p fits one two none = record {
  fits = fits;
  waiting1 = record { count = sym (sole Waiting1 one); each = first };
  waiting2 = record { count = sym (sole Waiting2 two); each = second };
  noted = noted;
}
  where
    sole : (c : Class) → weight c (doing p) ≡ 0 → total c (doing p ∷ []) ≡ 0
    sole c e = omega (arith, e, sum_by-cons (weight c) (doing p) [])

    first : (u : ℕ) → 0 ≡ weighs Waiting1 (slice_get (doing p ∷ []) u)
    first zero = sym one
    first (suc u) = refl

    second : (u : ℕ) → 0 ≡ weighs Waiting2 (slice_get (doing p ∷ []) u)
    second zero = sym two
    second (suc u) = refl

    noted : AreNoted (doing p ∷ [])
    noted zero by r note at took =
        absurd (none-some (by, note) (sym none ∙ (ap (λ (x : Role). note_of x.does) (same_Some _ r at) ∙ took)))
    noted (suc u) by r note at took = absurd (none-some r at)

abbrev free_word : Word
free_word = record { readers = 0; writer = 0; upgradable = 0; parked2 = 0; parked1 = 0 }

pub joins_unchecked : IsWrong JoinsUnchecked
unfolding weight
joins_unchecked = (
  alone free_word (Enters1 Exclusive false),
  record { word = free_word; roles = doing (Queued1 Exclusive Fresh) ∷ []; first = 0 ∷ []; second = [] },
  0,
  alone_sound free_word (Enters1 Exclusive false) (omega arith) refl refl refl,
  (Exclusive, refl, refl),
  λ s. absurd (let e : 0 ≡ 1 = s.fits.announced1 (omega arith) in omega (arith, e)),
)

abbrev parked_word : Word
parked_word = record { readers = 0; writer = 0; upgradable = 0; parked2 = 0; parked1 = 1 }

pub leaves_the_bit : IsWrong LeavesTheBit
unfolding weight
leaves_the_bit = (
  alone parked_word (Scans1 Owed 0 false false []),
  alone parked_word (Stored1 []),
  0,
  alone_sound parked_word (Scans1 Owed 0 false false []) (omega arith) refl refl refl,
  (refl, refl, refl, refl),
  λ s. omega (arith, s.fits.cause1),
)

-- a pending writer gives up beside a reader
abbrev yielding : Lock
yielding = record {
  word = record { readers = 1; writer = 1; upgradable = 0; parked2 = 1; parked1 = 0 };
  roles = doing (Yields false) ∷ record { owns = Shares 1; does = Idle } ∷ [];
  first = [];
  second = [];
}

yielding_sound : IsSound yielding
unfolding weight
yielding_sound = record {
  fits = omega arith;
  waiting1 = record { count = refl; each = first };
  waiting2 = record { count = refl; each = second };
  noted = noted;
}
  where
    first : (u : ℕ) → 0 ≡ weighs Waiting1 (slice_get yielding.roles u)
    first zero = refl
    first (suc zero) = refl
    first (suc (suc u)) = refl

    second : (u : ℕ) → 0 ≡ weighs Waiting2 (slice_get yielding.roles u)
    second zero = refl
    second (suc zero) = refl
    second (suc (suc u)) = refl

    noted : AreNoted yielding.roles
    noted zero by r note at took =
        absurd (none-some (by, note) (ap (λ (x : Role). note_of x.does) (same_Some _ r at) ∙ took))
    noted (suc zero) by r note at took =
        absurd (none-some (by, note) (ap (λ (x : Role). note_of x.does) (same_Some _ r at) ∙ took))
    noted (suc (suc u)) by r note at took = absurd (none-some r at)

pub keeps_its_bit : IsWrong KeepsItsBit
unfolding weight
keeps_its_bit = (
  yielding,
  record {
    word = record { readers = 1; writer = 0; upgradable = 0; parked2 = 1; parked1 = 0 };
    roles = doing Idle ∷ record { owns = Shares 1; does = Idle } ∷ [];
    first = [];
    second = [];
  },
  0,
  yielding_sound,
  (refl, refl, refl),
  λ s. omega (arith, s.fits.debt2_pending),
)

-- a thread that went on by itself sleeps again, and was taken by another than the one that still means to wake it
abbrev retaken : Lock
retaken = record {
  word = record { readers = 0; writer = 1; upgradable = 0; parked2 = 0; parked1 = 0 };
  roles = doing (Wakes (1 ∷ [])) ∷ doing (Taken1 Shared 2 Open Asleep) ∷ doing
      (Scans1 FromExclusive 1 false false (1 ∷ [])) ∷ [];
  first = [];
  second = [];
}

retaken_sound : IsSound retaken
unfolding weight
retaken_sound = record {
  fits = omega arith;
  waiting1 = record { count = refl; each = first };
  waiting2 = record { count = refl; each = second };
  noted = noted;
}
  where
    first : (u : ℕ) → 0 ≡ weighs Waiting1 (slice_get retaken.roles u)
    first zero = refl
    first (suc zero) = refl
    first (suc (suc zero)) = refl
    first (suc (suc (suc u))) = refl

    second : (u : ℕ) → 0 ≡ weighs Waiting2 (slice_get retaken.roles u)
    second zero = refl
    second (suc zero) = refl
    second (suc (suc zero)) = refl
    second (suc (suc (suc u))) = refl

    noted : AreNoted retaken.roles
    noted zero by r note at took =
        absurd (none-some (by, note) (ap (λ (x : Role). note_of x.does) (same_Some _ r at) ∙ took))
    noted (suc zero) by r note at took =
        let e : (2, On1 Open) ≡ (by, note) = same_Some _ _ (ap (λ (x : Role). note_of x.does) (same_Some _ r at) ∙ took)
        in
        subst (λ (x : ℕ × Note). (s : Role) × (slice_get retaken.roles x.0 ≡ Some s)
        × (0 < occurs 1 (to_wake s.does x.1))) e (
          doing (Scans1 FromExclusive 1 false false (1 ∷ [])),
          refl,
          omega arith,
        )
    noted (suc (suc zero)) by r note at took =
        absurd (none-some (by, note) (ap (λ (x : Role). note_of x.does) (same_Some _ r at) ∙ took))
    noted (suc (suc (suc u))) by r note at took = absurd (none-some r at)

pub wakes_by_number : IsWrong WakesByNumber
unfolding weight
wakes_by_number = (
  retaken,
  record {
    word = retaken.word;
    roles = doing (Wakes []) ∷ doing (Seeks Shared true) ∷ doing
        (Scans1 FromExclusive 1 false false (1 ∷ [])) ∷ [];
    first = [];
    second = [];
  },
  0,
  retaken_sound,
  (1, 2, Shared, refl, refl, (λ e. omega (arith, e)), refl),
  λ s. omega (arith, s.fits.taken_readers),
)

-- a woken reader beside a writer that waits
abbrev woken : Lock
woken = record {
  word = parked_word;
  roles = doing (Seeks Shared true) ∷ doing (Queued1 Exclusive Asleep) ∷ [];
  first = 1 ∷ [];
  second = [];
}

pub debts_alone_break : DebtsAloneBreak
unfolding weight
debts_alone_break = (
  woken,
  0,
  record {
    first = λ some free. (0, doing (Seeks Shared true), refl, refl);
    second = λ some free. absurd (omega (arith, some));
  },
  (refl, inl refl),
  λ debts. nobody (debts.first (omega arith) refl),
)
  where
    nobody : SomebodyOwes (after 0 (Alone (Share 0 true)) woken) → ⊥
    nobody x = go x.0 x.1 x.2 x.3
      where
        go : (u : ℕ) (r : Role) → slice_get (after 0 (Alone (Share 0 true)) woken).roles u ≡ Some r
            → IsTrue (owes r.does) → ⊥
        go zero r at o = let h : false ≡ owes r.does = ap (λ (x : Role). owes x.does) (same_Some _ r at) in cc
        go (suc zero) r at o = let h : false ≡ owes r.does = ap (λ (x : Role). owes x.does) (same_Some _ r at) in cc
        go (suc (suc u)) r at o = none-some r at
