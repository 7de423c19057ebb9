-- What it adds to the steps that are left to take a waiter into the list of a mutex, or to have it try again.
use Rattle.std.proofs.Common.{not, ◌≡◌, ◌≢◌, ℕ, ◌+◌, ◌*◌, ◌<◌, ◌≤◌, inl, inr, ◌==◌, Bool, true, false, cond, length}
use Rattle.std.proofs.Common.{Option}
use Rattle.std.proofs.Common.{Some, None, slice_get, slice_set, sum_by, refl, sym, ap, ◌∙◌, subst, arith}
use Rattle.std.proofs.lemmas.Bool.{cases_eq}
use Rattle.std.proofs.lemmas.List.{length-set}
use Rattle.parking_lot_rules.specs.Classes.{bit}
use Rattle.parking_lot_protocol.specs.declared.mutex_phase.MutexPhase.{MutexPhase}
use Rattle.parking_lot_machine_calls.specs.declared.seat.Core.{Core}
use Rattle.parking_lot_machine_calls.specs.declared.open_call.Call.{Call}
use Rattle.parking_lot_machine_calls.specs.Kinds.{AsMutex, manner_of}
use Rattle.parking_lot_machine.specs.Ranks.{Sees, core_steps, far_steps, is_shut_to, mutex_steps, own_steps, steps_left}
use Rattle.parking_lot_machine.specs.Ranks.{Shut, view_of}
use Rattle.parking_lot_machine.specs.Rounds.{FewRounds, mutex_rounds}
use Rattle.parking_lot_machine.specs.RowFits.{FitsTogether}
use Rattle.parking_lot_machine_calls.specs.CallKinds.{IsOfKind}
use Rattle.parking_lot_machine.specs.Rows.{State, bucket, call_at, entered_in, first_key, word_at}
use Rattle.parking_lot_machine.proofs.Calling.{call-elsewhere, call_of}
use Rattle.parking_lot_machine.proofs.OwnActs.{two_kinds}
use Rattle.parking_lot_machine.proofs.Paying.{call-within, shut_in, shut_same}
use Rattle.parking_lot_machine.proofs.Summing.{others_change, others_same}

-- one of two, at one word and at another
either_way : (b b' : Bool) (x y k : ℕ) → x ≤ y → y ≤ x + k → cond b' x y ≤ cond b x y + k
either_way true true x y k few more = omega arith
either_way true false x y k few more = omega arith
either_way false true x y k few more = omega arith
either_way false false x y k few more = omega arith

-- what it is to park, where the section can be entered
abbrev park_cost : Bool → ℕ
park_cost shut = cond (not shut) 4 29

parks : {b : Bool} → b ≡ false → park_cost b ≡ 4
parks free = ap park_cost free

-- A call at a mutex that is in no section, once the word has changed: what was thought of the word may be out of date.

word_costs : (p : MutexPhase) (word first word' first' : ℕ) (shut : Shut) → shut.first ≡ false
    → mutex_rounds p ≤ 10 → mutex_steps (Sees word' first' shut) p ≤ mutex_steps (Sees word first shut) p + 25
word_costs (MutexPhase.Locks a waiters) word first word' first' shut free few = either_way (word == 2 * bit waiters)
    (word' == 2 * bit waiters) _ _ 25 (omega (arith, parks free)) (omega (arith, few, parks free))
word_costs (MutexPhase.Parks a) word first word' first' shut free few =
    either_way (word == 1) (word' == 1) _ _ 25 (omega (arith, parks free))
    (omega (arith, few, parks free))
word_costs (MutexPhase.Enters woken) word first word' first' shut free few = either_way (word == 3) (word' == 3) _ _ 25
    (omega (arith, parks free)) (omega (arith, parks free))
word_costs (MutexPhase.Checks woken) word first word' first' shut free few = either_way (word == 3) (word' == 3) _ _ 25
    (omega arith) (omega (arith, parks free))
word_costs (MutexPhase.TryLocks waiters left) word first word' first' shut free few =
    either_way (word == 2 * bit waiters)
    (word' == 2 * bit waiters) _ _ 25 (omega arith) (omega (arith, parks free))
word_costs p word first word' first' shut free few = omega arith

module _ (s : State) (v : ℕ) (low : v < length s.calls) (alone : call_at s v ≡ None) where
  module _ (u : State) (d : Call) (k more : ℕ) (calls : u.calls ≡ slice_set s.calls v (Some d))
      (far : far_steps (length s.calls) (Some d) ≤ k) (own : core_steps (length s.calls) (view_of u v d) d.core ≤ k)
      (rest : (t : ℕ) (c : Call) → call_at s t ≡ Some c → core_steps (length s.calls) (view_of u t c) c.core ≤
      core_steps (length s.calls) (view_of s t c) c.core + more) where
    as_many : length u.calls ≡ length s.calls
    as_many = ap length calls ∙ length-set s.calls v (Some d)

    its_own : own_steps u v (call_at u v) ≤ k
    its_own = omega (
      arith,
      own,
      ap (own_steps u v) (ap (λ cs. call_of cs v) calls ∙ call-within s.calls v (Some d) low),
      ap (λ n. core_steps n (view_of u v d) d.core) as_many,
    )

    anothers : (t : ℕ) (o : Option Call) → call_at s t ≡ o → own_steps u t o ≤ own_steps s t o + more
    anothers t None e = omega arith
    anothers t (Some c) e = omega (arith, rest t c e, ap (λ n. core_steps n (view_of u t c) c.core) as_many)

    pub costs_at_most : (t : ℕ) → steps_left u t ≤ steps_left s t + (k + more)
    costs_at_most t = elim (cases_eq t v) [
      | inl e ↦ subst (λ x. steps_left u x ≤ steps_left s x + (k + more)) (sym e)
          (omega (
            arith,
            its_own,
            ap (λ m. sum_by (far_steps m) (slice_set u.calls v None)) as_many,
            ap (λ cs. sum_by (far_steps (length s.calls)) (slice_set cs v None)) calls,
            others_same (length s.calls) s.calls v (Some d),
          ))
      | inr ne ↦
          omega (
            arith,
            ap (own_steps u t) (ap (λ cs. call_of cs t) calls ∙ call-elsewhere s.calls v t (Some d) ne),
            anothers t (call_at s t) refl,
            ap (λ m. sum_by (far_steps m) (slice_set u.calls t None)) as_many,
            ap (λ cs. sum_by (far_steps (length s.calls)) (slice_set cs t None)) calls,
            others_change (length s.calls) s.calls t v k (Some d) (omega (arith, far)),
          )
    ]

-- A call at the mutex whose word and list have changed, or at another lock.
module _ (s u : State) (lock : ℕ) (h : FitsTogether s) (kind : manner_of (slice_get s.kinds lock) ≡ Some AsMutex)
    (nobody : entered_in s (bucket s (first_key lock)) ≡ None) (buckets : u.lot.buckets ≡ s.lot.buckets)
    (entered : (b : ℕ) → entered_in u b ≡ entered_in s b)
    (words : (i : ℕ) → i ≢ lock → word_at u i ≡ word_at s i)
    (queues : (i : ℕ) → i ≢ lock → length (u.lot.queues (first_key i)) ≡ length (s.lot.queues (first_key i))) where
  same_shut : (t i : ℕ) → shut_in u t i ≡ shut_in s t i
  same_shut t i = shut_same s u t i buckets (λ b. ap (is_shut_to t) (entered b))

  -- nobody is shut out of the sections of its list
  open_first : (t : ℕ) → (shut_in s t lock).first ≡ false
  open_first t = ap (is_shut_to t) nobody

  -- at that mutex
  at_it : (n t : ℕ) (c : Call) (x : Core) → c.core ≡ x → call_at s t ≡ Some c → c.lock ≡ lock
      → core_steps n (view_of u t c) x ≤ core_steps n (view_of s t c) x + 25
  at_it n t c (Core.Mutex q) e here at =
      omega (
        arith,
        ap (λ (x : Shut). mutex_steps (Sees (word_at u c.lock) (length (u.lot.queues (first_key c.lock))) x) q.phase)
            (same_shut t c.lock),
        word_costs q.phase (word_at s c.lock) (length (s.lot.queues (first_key c.lock))) (word_at u c.lock)
            (length (u.lot.queues (first_key c.lock))) (shut_in s t c.lock)
            (ap (λ (i : ℕ). (shut_in s t i).first) at ∙ open_first t) (subst FewRounds e (h.rules.begun t c here).few),
      )
  at_it n t c (Core.Rw q) e here at =
      absurd (two_kinds (sym (subst (IsOfKind (slice_get s.kinds c.lock)) e (h.rules.kinds t c here))
      ∙ (ap (λ i. manner_of (slice_get s.kinds i)) at ∙ kind)))
  at_it n t c (Core.Late q) e here at = omega arith
  at_it n t c (Core.LateRw q) e here at =
      absurd (two_kinds (sym (subst (IsOfKind (slice_get s.kinds c.lock)) e (h.rules.kinds t c here))
      ∙ (ap (λ i. manner_of (slice_get s.kinds i)) at ∙ kind)))
  at_it n t c (Core.Upgrade q) e here at =
      absurd (two_kinds (sym (subst (IsOfKind (slice_get s.kinds c.lock)) e (h.rules.kinds t c here))
      ∙ (ap (λ i. manner_of (slice_get s.kinds i)) at ∙ kind)))

  pub others_cost : (t : ℕ) (c : Call) → call_at s t ≡ Some c → core_steps (length s.calls) (view_of u t c) c.core ≤
      core_steps (length s.calls) (view_of s t c) c.core + 25
  others_cost t c here = elim (cases_eq c.lock lock) [
    | inl at ↦ at_it (length s.calls) t c c.core refl here at
    | inr ne ↦ omega (
      arith,
      ap (λ w. core_steps (length s.calls) w c.core)
          (ap (Sees (word_at u c.lock) (length (u.lot.queues (first_key c.lock)))) (same_shut t c.lock)
          ∙ ap (λ w. Sees w (length (u.lot.queues (first_key c.lock))) (shut_in s t c.lock)) (words c.lock ne)
          ∙ ap (λ f. Sees (word_at s c.lock) f (shut_in s t c.lock)) (queues c.lock ne)),
    )
  ]
