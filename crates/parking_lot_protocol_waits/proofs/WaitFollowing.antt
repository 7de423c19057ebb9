-- Each answer to a wait is the step that the table says.
use Rattle.std.proofs.Common.{◌≡◌, inl, inr, ℕ, ◌+◌, ◌<◌, ◌^◌, ◌==◌, ◌||◌, Bool, true, false, cond, refl, sym, subst}
use Rattle.std.proofs.Common.{arith, eqb-true}
use Rattle.std.proofs.lemmas.Bool.{eqb-false}
use Rattle.parking_lot_protocol.proofs.MutexFollowing.{either}
use Rattle.parking_lot_rules.specs.Variable as rules
use Rattle.parking_lot_protocol_waits.specs.declared.wait_act.WaitSeen.{WaitSeen}
use Rattle.parking_lot_protocol_waits.specs.declared.wait_act.WaitSeen.TheVariants.{Start, Word, Made, Woken, Expired}
use Rattle.parking_lot_protocol_waits.specs.declared.wait_act.WaitSeen.TheVariants.{Quit, WasTaken}
use Rattle.parking_lot_protocol_waits.specs.declared.wait_core.WaitPhase.{WaitPhase}
use Rattle.parking_lot_protocol_waits.specs.declared.wait_core.WaitPhase.TheVariants.{Waiting, Stranger, GivingWay}
use Rattle.parking_lot_protocol_waits.specs.declared.wait_core.WaitPhase.TheVariants.{Looks, Enters, Checks, Retreats}
use Rattle.parking_lot_protocol_waits.specs.declared.wait_core.WaitPhase.TheVariants.{Appends, Shows, Rests, Unlocks}
use Rattle.parking_lot_protocol_waits.specs.declared.wait_core.WaitPhase.TheVariants.{Sleeps, Expires, Quits, Forgets}
use Rattle.parking_lot_protocol_waits.specs.declared.wait_core.WaitPhase.TheVariants.{Masks, Leaves, Resumes, Yields}
use Rattle.parking_lot_protocol_waits.specs.declared.wait_core.WaitPhase.TheVariants.{Locks}
use Rattle.parking_lot_protocol_waits.specs.WaitTable.{shown_by}
use Rattle.parking_lot_protocol_waits.specs.WaitRules.{Gone, Follows, IsMove, Makes, does}

-- a mutex whose number and 1 more is a word is shown by that
shown : (k : ℕ) → k + 1 < 2 ^ 64 → shown_by k ≡ k + 1
shown k l = omega arith

-- a look at the word in the section: where nobody waits, or all with this mutex, it goes on, and else it is refused
checks : (k word : ℕ) (free same : Bool) → (word == 0) ≡ free → (word == k + 1) ≡ same
    → IsMove (cond (free || same) (Makes (rules.Check k)) (Makes (rules.Refuse k))) (Checks k)
    (cond (free || same) (Appends k) Retreats) word word
checks k word true same f e = record { from = refl; to = refl; may = inl (eqb-true word 0 f); written = refl }
checks k word false true f e = record { from = refl; to = refl; may = inr (eqb-true word (k + 1) e); written = refl }
checks k word false false f e =
    record { from = refl; to = refl; may = (eqb-false word 0 f, eqb-false word (k + 1) e); written = refl }

pub follows : (p : WaitPhase) (s : WaitSeen) → Follows p s
follows (Waiting k) Start word c g = (λ spot. refl, refl)
follows Stranger Start word c g = (λ spot. refl, refl)
follows GivingWay Start word c g = (λ spot. refl, refl)
follows Looks (Word n) word c g = (λ spot. either (does spot) (n == 0) _ _ _ refl refl, refl)
follows (Enters k) Made word c g = record { from = refl; to = refl; may = refl; written = refl }
follows (Checks k) (Word n) word c g =
    let Seen : ℕ → Type 0 =
    λ m. IsMove (cond ((m == 0) || (m == k + 1)) (Makes (rules.Check k)) (Makes (rules.Refuse k))) (Checks k)
    (cond ((m == 0) || (m == k + 1)) (Appends k) Retreats) word word in
    let Shown : ℕ → Type 0 =
    λ m. IsMove (cond ((n == 0) || (n == k + 1)) (Makes (rules.Check k)) (Makes (rules.Refuse k))) (Checks k)
    (cond ((n == 0) || (n == m)) (Appends k) Retreats) word word in
    subst Shown (sym (shown k c)) (subst Seen (sym g) (checks k word (word == 0) (word == k + 1) refl refl))
follows Retreats Made word c g = (λ spot. refl, refl)
follows (Appends k) Made word c g = (refl, refl, refl)
follows (Shows k) Made word c g = record { from = refl; to = refl; may = tt; written = shown k c }
follows (Rests k) Made word c g = record { from = refl; to = refl; may = tt; written = refl }
follows (Unlocks k) Made word c g = (λ spot. refl, refl)
follows (Sleeps k) (Woken token) word c g = (refl, either (does Gone) (token.0 == 1) _ _ _ refl refl, refl)
follows (Sleeps k) Expired word c g = (record { from = refl; to = refl; may = tt; written = refl }, (refl, refl, refl))
follows (Expires k) Made word c g = (record { from = refl; to = refl; may = refl; written = refl }, (refl, refl, refl))
follows (Quits k) (Quit true true) word c g = (refl, refl, refl)
follows (Quits k) (Quit true false) word c g = (refl, refl, refl)
follows (Quits k) (Quit false true) word c g = (refl, refl, refl)
follows (Quits k) (Quit false false) word c g = (refl, refl, refl)
follows (Quits k) (WasTaken token) word c g = (refl, refl, refl)
follows Forgets Made word c g = record { from = refl; to = refl; may = (inl refl, refl); written = refl }
follows Masks Made word c g = (λ spot. refl, refl)
follows (Leaves true) Made word c g = record { from = refl; to = refl; may = tt; written = refl }
follows (Leaves false) Made word c g = (λ spot. refl, refl)
follows (Resumes token) Made word c g = (λ spot. either (does spot) (token.0 == 1) _ _ _ refl refl, refl)
follows Yields Made word c g = (λ spot. refl, refl)
follows (Locks true) Made word c g = (λ spot. refl, refl)
follows (Locks false) Made word c g = (λ spot. refl, refl)
follows p s word c g = absurd g
