-- Each answer to a mutex's core is the step that the table says.
use Rattle.std.proofs.Common.{◌≡◌, ℕ, ◌+◌, ◌*◌, ◌==◌, ◌&&◌, ◌||◌, Bool, true, false, cond, nat_lt, ◌-◌, Some, None}
use Rattle.std.proofs.Common.{refl, sym, ap, subst, arith, eqb-true, ◌/◌, ◌%◌, ◌^◌, bit_and}
use Rattle.std.specs.Int.Bits.{and_zero_r}
use Rattle.parking_lot_rules.specs.Mutex as rules
use Rattle.parking_lot_protocol.specs.declared.act.ActResult.{ActResult}
use Rattle.parking_lot_protocol.specs.declared.act.ActResult.TheVariants.{Start, Word, Exchanged, Spun, Entered, Took}
use Rattle.parking_lot_protocol.specs.declared.act.ActResult.TheVariants.{Stored, Made, Woken}
use Rattle.parking_lot_protocol.specs.declared.mutex_phase.MutexPhase.{MutexPhase}
use Rattle.parking_lot_protocol.specs.declared.mutex_phase.MutexPhase.TheVariants.{Locking, Trying, Unlocking, Bumping}
use Rattle.parking_lot_protocol.specs.declared.mutex_phase.MutexPhase.TheVariants.{Loads, Locks, Spins, Parks, Enters}
use Rattle.parking_lot_protocol.specs.declared.mutex_phase.MutexPhase.TheVariants.{Checks, Retreats, Appends, Rests}
use Rattle.parking_lot_protocol.specs.declared.mutex_phase.MutexPhase.TheVariants.{Sleeps, TryLoads, TryLocks}
use Rattle.parking_lot_protocol.specs.declared.mutex_phase.MutexPhase.TheVariants.{BumpLoads, Relocks, Unlocks, Looks}
use Rattle.parking_lot_protocol.specs.declared.mutex_phase.MutexPhase.TheVariants.{Takes, Stores, Leaves, Wakes}
use Rattle.parking_lot_protocol.specs.declared.mutex_phase.MutexPhase.TheVariants.{Finishes, Ends}
use Rattle.parking_lot_protocol.specs.declared.mutex_phase.Asking.{Asking}
use Rattle.parking_lot_protocol.specs.declared.mutex_phase.Giving.{Giving}
use Rattle.parking_lot_protocol.specs.MutexTable.{seeks, tries, retries, begins, store_of, act_of}
use Rattle.parking_lot_rules.specs.Classes.{bit}
use Rattle.parking_lot_protocol.specs.Acts.{change_of, word_after}
use Rattle.parking_lot_protocol.specs.declared.act.CoreAnswer.TheVariants.{Owned}
use Rattle.parking_lot_protocol.specs.MutexRules.{QueuePosition, Listed, role, Follows, IsWord, IsMove, Stays, Makes}
use Rattle.parking_lot_protocol.specs.MutexRules.{Tells}

-- what holds of both holds of either
pub either : {X Y : Type 0} (f : X → Y) (b : Bool) (x y : X) (r : Y) → f x ≡ r → f y ≡ r → f (cond b x y) ≡ r
either f true x y r h k = h
either f false x y r h k = k

-- one that asks goes on asking, whatever it has seen
seeks_role : (spot : QueuePosition) (v : ℕ) (a : Asking) (word : ℕ) → role spot v (seeks a word) ≡ rules.doing
    (rules.Seeks a.woken)
seeks_role spot v a word =
    either (role spot v) (word == 0) _ _ _ refl
    (either (role spot v) (word == 2) _ _ _ refl
    (either (role spot v) (word == 1) _ _ _ (either (role spot v) (nat_lt 0 a.rounds) _ _ _ refl refl) refl))

tries_role : (spot : QueuePosition) (v : ℕ) (left word : ℕ) → role spot v (tries left word) ≡ rules.doing
    (rules.Seeks false)
tries_role spot v left word = either (role spot v) (word == 0) _ _ _ refl
    (either (role spot v) (word == 2) _ _ _ refl refl)

retries_role : (spot : QueuePosition) (v : ℕ) (left word : ℕ) → role spot v (retries left word) ≡ rules.doing
    (rules.Seeks false)
retries_role spot v left word = either (role spot v) (nat_lt 0 left) _ _ _ (tries_role spot v (left - 1) word) refl

-- an exchange that locks the mutex
locks : (waiters : Bool) (w : rules.Word) → IsWord w → rules.number w ≡ 2 * bit waiters → (w.locked ≡ 0)
    × (2 * bit waiters + 1 ≡ rules.number (record w { locked = 1 }))
locks true w h e = let l = h.locked in (omega arith, omega arith)
locks false w h e = let l = h.locked in (omega arith, omega arith)

checks : (woken : Bool) (v : ℕ) (w : rules.Word) → IsWord w → (b : Bool) → (rules.number w == 3) ≡ b
    → IsMove (cond b (Makes (rules.Check woken)) Stays) v (Checks woken) (cond b Appends (Retreats woken)) w
    (rules.number w)
checks woken v w h true e =
    let n : rules.number w ≡ 3 = eqb-true (rules.number w) 3 e in
    let l = h.locked in
    let p = h.parked in
    record { from = refl; to = refl; may = (omega arith, omega arith); written = refl }
checks woken v w h false e = (λ spot. refl, refl)

stores : (v : ℕ) (w : rules.Word) (fair again taken left chosen : Bool) → let g : Giving =
    record { fair = fair; again = again } in
    IsMove (Tells taken (taken && (fair || chosen)) left) v (Stores g taken left)
    (Leaves g taken (taken && (fair || chosen))) w
    (word_after (act_of (Stores g taken left)) (Stored chosen) (rules.number w))
stores v w fair again taken left chosen =
    (refl, refl, handed taken (fair || chosen), change fair taken left chosen (rules.number w))
  where
    handed : (a b : Bool) → a && b ≡ true → a ≡ true
    handed true b e = refl
    handed false b e = e

    plus : (n k : ℕ) → (bit_and n 0 + k) % 2 ^ 64 ≡ (0 + k) % 2 ^ 64
    plus n k = ap (λ m. (m + k) % 2 ^ 64) (and_zero_r n)

    change : (fair taken left chosen : Bool) (n : ℕ)
        → change_of (cond chosen (store_of taken left) (store_of (fair && taken) left)) n ≡ rules.number
        (record { locked = bit (taken && (fair || chosen)); parked = bit left })
    change true true true true n = plus n _
    change true true true false n = plus n _
    change true true false true n = plus n _
    change true true false false n = plus n _
    change true false true true n = plus n _
    change true false true false n = plus n _
    change true false false true n = plus n _
    change true false false false n = plus n _
    change false true true true n = plus n _
    change false true true false n = plus n _
    change false true false true n = plus n _
    change false true false false n = plus n _
    change false false true true n = plus n _
    change false false true false n = plus n _
    change false false false true n = plus n _
    change false false false false n = plus n _

finishes : (fair again : Bool) (s : ActResult) → Follows (Finishes (record { fair = fair; again = again })) s
finishes fair true (Word n) w v h e = record { from = refl; to = refl; may = tt; written = refl }
finishes fair again s w v h e = absurd e

pub follows : (p : MutexPhase) (s : ActResult) → Follows p s
follows Locking Start w v h g = record { from = refl; to = refl; may = tt; written = refl }
follows Trying Start w v h g = record { from = refl; to = refl; may = tt; written = refl }
follows (Unlocking fair) Start w v h g = (λ spot. refl, refl)
follows Bumping Start w v h g = (λ spot. refl, refl)
follows (Loads a) (Word n) w v h g = (λ spot. seeks_role spot v a n, refl)
follows (Locks a waiters) Exchanged w v h g = let k = locks waiters w h g in
    record { from = refl; to = refl; may = k.0; written = k.1 }
follows (Locks a waiters) (Word n) w v h g = (λ spot. seeks_role spot v a n, refl)
follows (Spins a) (Spun true) w v h g = (λ spot. refl, refl)
follows (Spins a) (Spun false) w v h g = (λ spot. refl, refl)
follows (Parks a) Exchanged w v h g =
    let l = h.locked in
    record { from = refl; to = refl; may = (omega arith, omega arith); written = omega arith }
follows (Parks a) (Word n) w v h g = (λ spot. seeks_role spot v a n, refl)
follows (Enters woken) Entered w v h g = record { from = refl; to = refl; may = refl; written = refl }
follows (Checks woken) (Word n) w v h g =
    let P : ℕ → Type 0 = λ m. IsMove (cond (m == 3) (Makes (rules.Check woken)) Stays) v (Checks woken)
    (cond (m == 3) Appends (Retreats woken)) w (rules.number w) in
    subst P (sym g) (checks woken v w h (rules.number w == 3) refl)
follows (Retreats woken) Made w v h g = record { from = refl; to = refl; may = tt; written = refl }
follows Appends Made w v h g = (refl, refl, refl)
follows Rests Made w v h g = record { from = refl; to = refl; may = tt; written = refl }
follows Sleeps (Woken token) w v h g =
    λ by. (
      refl,
      elim (token.0 == 1)
          as (λ b. role Listed v (cond b (Ends Owned) (Loads (begins true))) ≡ cond b
          (record { owns = true; does = rules.Idle }) (rules.doing (rules.Seeks true))) [ true ↦ refl | false ↦ refl ],
      refl,
    )
follows TryLoads (Word n) w v h g = (λ spot. tries_role spot v 63 n, refl)
follows (TryLocks waiters left) Exchanged w v h g = let k = locks waiters w h g in
    record { from = refl; to = refl; may = k.0; written = k.1 }
follows (TryLocks waiters left) (Word n) w v h g = (λ spot. retries_role spot v left n, refl)
follows BumpLoads (Word n) w v h g = (λ spot. either (role spot v) (n / 2 % 2 == 1) _ _ _ refl refl, refl)
follows Relocks (Word n) w v h g =
    record { from = refl; to = seeks_role Listed v (begins false) n; may = tt; written = refl }
follows (Unlocks g) Exchanged w v h e =
    let l = h.locked in
    record {
      from = refl;
      to = either (role Listed v) g.again _ _ _ refl refl;
      may = (omega arith, omega arith);
      written = omega arith;
    }
follows (Unlocks g) (Word n) w v h e = (λ spot. refl, refl)
follows (Looks g) Entered w v h e = record { from = refl; to = refl; may = refl; written = refl }
follows (Takes g) (Took (Some token) left) w v h e = (refl, refl, refl)
follows (Takes g) (Took None left) w v h e = (λ spot. refl, refl)
follows (Stores g taken left) (Stored fair) w v h e = stores v w g.fair g.again taken left fair
follows (Leaves g true handed) Made w v h e = record { from = refl; to = refl; may = tt; written = refl }
follows (Leaves g false handed) Made w v h e = record { from = refl; to = refl; may = tt; written = refl }
follows (Wakes g) Made w v h e = (refl, refl, refl)
follows (Finishes g) s w v h e = finishes g.fair g.again s w v h e
follows p s w v h g = absurd g
