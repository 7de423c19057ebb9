-- What a try of a mutex asks for, and where it goes on.
use Rattle.std.proofs.Common.{◌≡◌, ◌≢◌, ◌∙◌, inl, inr, ℕ, ◌+◌, ◌*◌, ◌%◌, ◌-◌, ◌==◌, Bool, true, false, refl}
use Rattle.std.proofs.Common.{ap, arith, subst, sym}
use Rattle.std.proofs.lemmas.Bool.{false≢true}
use Rattle.std.specs.Prelude.{if◌then◌else◌, nat_lt}
use Rattle.parking_lot_driver.specs.Runs.{is_on_the_word}
use Rattle.parking_lot_mutex.specs.Owning.{IsTrying}
use Rattle.parking_lot_protocol.specs.MutexTable.{act_of, next_phase, tries}
use Rattle.parking_lot_protocol.specs.declared.act.Act.{Act}
use Rattle.parking_lot_protocol.specs.declared.act.Act.TheVariants as act
use Rattle.parking_lot_protocol.specs.declared.act.ActResult.TheVariants.{Exchanged, Word}
use Rattle.parking_lot_protocol.specs.declared.act.CoreAnswer.TheVariants.{Owned, Refused}
use Rattle.parking_lot_protocol.specs.declared.mutex_phase.MutexPhase.{MutexPhase}
use Rattle.parking_lot_protocol.specs.declared.mutex_phase.MutexPhase.TheVariants as phase
use Rattle.parking_lot_rules.specs.Classes.{bit}

tries_on : (left : ℕ) (free waiters : Bool) → IsTrying
    (if free then phase.TryLocks false left else (if waiters then phase.TryLocks true left else phase.Refuses))
tries_on left true waiters = inr (inl (false, (left, refl)))
tries_on left false true = inr (inl (true, (left, refl)))
tries_on left false false = inr (inr refl)

retries_on : (more : Bool) (left word : ℕ) → IsTrying (if more then tries (left - 1) word else phase.Refuses)
retries_on true left word = tries_on (left - 1) (word == 0) (word == 2)
retries_on false left word = inr (inr refl)

-- a try that has made an act on the word, and was told of a word, is one still
pub goes_on : (p : MutexPhase) (word : ℕ) → IsTrying p → is_on_the_word (act_of p) ≡ true
    → IsTrying (next_phase p (Word word))
goes_on p word (inl is) on =
    subst (λ q. IsTrying (next_phase q (Word word))) (sym is) (tries_on 63 (word == 0) (word == 2))
goes_on p word (inr (inl (waiters, (left, is)))) on =
    subst (λ q. IsTrying (next_phase q (Word word))) (sym is) (retries_on (nat_lt 0 left) left word)
goes_on p word (inr (inr is)) on = absurd (false≢true (ap (λ q. is_on_the_word (act_of q)) (sym is) ∙ on))

abbrev is_exchange : Act → Bool
is_exchange (act.Exchange from to) = true
is_exchange a = false

abbrev from_of : Act → ℕ
from_of (act.Exchange from to) = from
from_of a = 0

abbrev to_of : Act → ℕ
to_of (act.Exchange from to) = to
to_of a = 1

sets_bit_0 : (b from to : ℕ) → 2 * b ≡ from → 2 * b + 1 ≡ to → (from % 2 ≡ 0) × (to % 2 ≡ 1)
sets_bit_0 b from to f t = (omega (arith, f), omega (arith, t))

-- an exchange that a try asks for sets bit 0, and once it is won the mutex is owned
pub asks_to_lock : (p : MutexPhase) (from to : ℕ) → IsTrying p → act_of p ≡ act.Exchange from to
    → ((from % 2 ≡ 0) × (to % 2 ≡ 1)) × (act_of (next_phase p Exchanged) ≡ act.Done Owned)
asks_to_lock p from to (inl is) asks =
    absurd (false≢true (ap (λ q. is_exchange (act_of q)) (sym is) ∙ ap is_exchange asks))
asks_to_lock p from to (inr (inl (waiters, (left, is)))) asks =
    let same = sym (ap act_of is) ∙ asks in (
      sets_bit_0 (bit waiters) from to (ap from_of same) (ap to_of same),
      subst (λ q. act_of (next_phase q Exchanged) ≡ act.Done Owned) (sym is) refl,
    )
asks_to_lock p from to (inr (inr is)) asks =
    absurd (false≢true (ap (λ q. is_exchange (act_of q)) (sym is) ∙ ap is_exchange asks))

abbrev refuses : Act → Bool
refuses (act.Done Refused) = true
refuses a = false

-- a try that asks for no act on the word was refused
pub is_over : (p : MutexPhase) → IsTrying p → act_of p ≢ act.Load
    → ((from to : ℕ) → act_of p ≢ act.Exchange from to)
    → (is_on_the_word (act_of p) ≡ false) × (act_of p ≢ act.Done Owned)
is_over p (inl is) load exchange = absurd (load (ap act_of is))
is_over p (inr (inl (waiters, (left, is)))) load exchange = absurd (exchange _ _ (ap act_of is))
is_over p (inr (inr is)) load exchange = (
  ap (λ q. is_on_the_word (act_of q)) is,
  λ owned. false≢true (sym (ap refuses (sym (ap act_of is) ∙ owned))),
)
