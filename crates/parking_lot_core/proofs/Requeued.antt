-- Requeues are moves of a sound lot.
use Rattle.std.proofs.Common.{◌≡◌, ◌∙◌, ◌∷◌, ◌++◌, ◌+◌, ◌≤◌, ◌==◌, ◌||◌, [], List, refl, sym, ap, subst, Bool}
use Rattle.std.proofs.Common.{true, false, cond, ℕ, arith, eqb-true, eq-eqb, drop, length, Ok}
use Rattle.std.proofs.lemmas.Bool.{false≢true}
use Rattle.std.proofs.lemmas.List.{append-nil}
use Rattle.parking_lot_core_model.specs.declared.parking.RequeueOp.{RequeueOp}
use Rattle.parking_lot_core_model.specs.declared.parking.RequeueOp.TheVariants.{Abort, UnparkOneRequeueRest, RequeueAll}
use Rattle.parking_lot_core_model.specs.declared.parking.RequeueOp.TheVariants.{UnparkOne, RequeueOne}
use Rattle.parking_lot_core_model.specs.declared.parking.UnparkResult.{UnparkResult}
use Rattle.parking_lot_core_model.specs.declared.parking.UnparkToken.{UnparkToken}
use Rattle.parking_lot_core_model.specs.declared.place.Waiter.{Waiter}
use Rattle.parking_lot_core_model.specs.Lists.{updated}
use Rattle.parking_lot_core_model.specs.Machine.{Machine, Does, either_busy, requeued}
use Rattle.parking_lot_core_model.specs.Operations.{UnparksAndRequeues, Requeues, is_abort}
use Rattle.parking_lot_core_model.specs.Results.{unpark_result, woken_by, moved_by, left_by, is_left}
use Rattle.parking_lot_core.specs.declared.chain.Waiting.{Waiting}
use Rattle.parking_lot_core.specs.declared.chain.Wanted.TheVariants.{Key, Thread}
use Rattle.parking_lot_core.specs.Waits.{queue, waiters_of, any, fits, without, under, often, meet, Apart}
use Rattle.parking_lot_core.specs.Waits.{woken_of, moved_of, rest_of}
use Rattle.parking_lot_core.specs.Shared.{OnSomeLot}
use Rattle.parking_lot_core.proofs.Apart.{absent, often_append, often_others, often_without}
use Rattle.parking_lot_core.proofs.Queues.{by_test, queue_append, queue_under}
use Rattle.parking_lot_core.proofs.Queues.{queue_under_else}
use Rattle.parking_lot_core.proofs.Queues.{first_taken, first_left, first_else, all_taken_of, none_left, all_else}
use Rattle.parking_lot_core.proofs.Queues.{any_waits, count_of}
use Rattle.parking_lot_core.proofs.Lots.{lot_of, lot_quiet}
use Rattle.parking_lot_core.proofs.Moves.{Held, result_is}

-- WHAT IS TAKEN OF A LIST

module _ (key : ℕ) (xs : List Waiting) where
  abbrev q : List Waiter
  q = queue xs key

  pub rest_here : (op : RequeueOp) → queue (rest_of op key xs) key ≡ left_by op (queue xs key)
  rest_here Abort = refl
  rest_here UnparkOneRequeueRest = none_left key (without (fits (Key key)) xs)
  rest_here RequeueAll = none_left key xs
  rest_here UnparkOne = first_left key xs
  rest_here RequeueOne = first_left key xs

  pub rest_else : (op : RequeueOp) (k : ℕ) → (k == key) ≡ false → queue (rest_of op key xs) k ≡ queue xs k
  rest_else Abort k e = refl
  rest_else UnparkOneRequeueRest k e = all_else key k e (without (fits (Key key)) xs) ∙ first_else key k e xs
  rest_else RequeueAll k e = all_else key k e xs
  rest_else UnparkOne k e = first_else key k e xs
  rest_else RequeueOne k e = first_else key k e xs

  pub moved_are : (op : RequeueOp) → waiters_of (moved_of op key xs) ≡ moved_by op (queue xs key)
  moved_are Abort = refl
  moved_are UnparkOneRequeueRest = all_taken_of key (without (fits (Key key)) xs) ∙ first_left key xs
  moved_are RequeueAll = all_taken_of key xs
  moved_are UnparkOne = refl
  moved_are RequeueOne = first_taken key xs

  pub woken_are : (op : RequeueOp) → waiters_of (woken_of op key xs) ≡ woken_by op (queue xs key)
  woken_are Abort = refl
  woken_are UnparkOneRequeueRest = first_taken key xs
  woken_are RequeueAll = refl
  woken_are UnparkOne = first_taken key xs
  woken_are RequeueOne = refl

  -- nobody is lost, and nobody comes
  pub often_rest : (op : RequeueOp) (t : ℕ)
      → often t (rest_of op key xs) + often t (moved_of op key xs) ≤ often t xs
  often_rest Abort t = omega arith
  often_rest UnparkOneRequeueRest t =
      let a = often_others t (fits (Key key)) (without (fits (Key key)) xs) in
      let b = often_without t (fits (Key key)) xs in omega arith
  often_rest RequeueAll t = let a = often_others t (fits (Key key)) xs in omega arith
  often_rest UnparkOne t = let b = often_without t (fits (Key key)) xs in omega arith
  often_rest RequeueOne t = let b = often_without t (fits (Key key)) xs in omega arith

-- those that are left, with those that move, are apart
pub apart_moved : (op : RequeueOp) (key : ℕ) (xs left moved : List Waiting) → Apart xs → left ≡ rest_of op key xs
    → moved ≡ moved_of op key xs → Apart (left ++ moved)
apart_moved op key xs left moved apart l m t =
    let a = apart t in
    let b = often_rest key xs op t in
    let c = often_append t left moved in
    let d = ap (often t) l in
    let e = ap (often t) m in omega arith

-- those that move are
pub apart_alone : (op : RequeueOp) (key : ℕ) (xs moved : List Waiting) → Apart xs → moved ≡ moved_of op key xs
    → Apart moved
apart_alone op key xs moved apart m t =
    let a = apart t in
    let b = often_rest key xs op t in
    let e = ap (often t) m in omega arith

-- none of the first stands among the second
pub apart_met : (xs ys : List Waiting) → meet xs ys ≡ false → Apart xs → Apart ys → Apart (ys ++ xs)
apart_met xs ys none a b t =
    let here = a t in
    let there = b t in
    let c = often_append t ys xs in
    by_test (any (fits (Thread t)) ys) (often t (ys ++ xs) ≤ 1)
    (λ e. let z = gone xs none e in omega arith)
    (λ e. let z = absent t ys e in omega arith)
  where
    gone : (xs : List Waiting) → meet xs ys ≡ false → any (fits (Thread t)) ys ≡ true → often t xs ≡ 0
    gone [] none e = refl
    gone (x ∷ xs) none e =
        let i = gone xs in
        let first : any (fits (Thread x.waiter.thread)) ys ≡ false =
        by_test (any (fits (Thread x.waiter.thread)) ys) (any (fits (Thread x.waiter.thread)) ys ≡ false)
        (λ h. absurd (false≢true (sym none ∙ ap (λ b. cond b true (meet xs ys)) h))) (λ h. h) in
        let rest : meet xs ys ≡ false = sym (ap (λ b. cond b true (meet xs ys)) first) ∙ none in
        let j = i rest e in
        by_test (x.waiter.thread == t) (often t (x ∷ xs) ≡ 0)
        (λ h. absurd (false≢true (sym first ∙ ap (λ u. any (fits (Thread u)) ys) (eqb-true x.waiter.thread t h) ∙ e)))
        (λ h. let z : cond {A = ℕ} (x.waiter.thread == t) 1 0 ≡ 0 = ap (λ b. cond {A = ℕ} b 1 0) h in omega arith)

-- WHAT IS LEFT OF THE LISTS OF A LOT

module _ (old : Machine) (op : RequeueOp) (from to : ℕ) (token : UnparkToken) where
  -- the lists once those were taken
  abbrev pub passed : ℕ → List Waiter
  passed = updated (updated old.queues from (drop (length (woken_by op (old.queues from))) (old.queues from))) from
      (left_by op (old.queues from))

  pub passed_here : passed from ≡ left_by op (old.queues from)
  passed_here = ap (λ b. cond b (left_by op (old.queues from))
      (updated old.queues from (drop (length (woken_by op (old.queues from))) (old.queues from)) from)) (eq-eqb
      from from refl)

  pub passed_else : (k : ℕ) → (k == from) ≡ false → passed k ≡ old.queues k
  passed_else k e = ap (λ b. cond b (left_by op (old.queues from))
      (cond b (drop (length (woken_by op (old.queues from))) (old.queues from)) (old.queues k))) e

  pub new_here : (requeued old op from to token).queues to ≡ passed to ++ moved_by op (old.queues from)
  new_here = ap (λ b. cond b (passed to ++ moved_by op (old.queues from)) (passed to)) (eq-eqb to to refl)

  pub new_else : (k : ℕ) → (k == to) ≡ false → (requeued old op from to token).queues k ≡ passed k
  new_else k e = ap (λ b. cond b (passed to ++ moved_by op (old.queues from)) (passed k)) e

-- neither is
pub neither : (a b : Bool) → (a || b) ≡ false → (a ≡ false) × (b ≡ false)
neither true b e = absurd (false≢true (sym e))
neither false b e = (refl, e)

module _ (asks : RequeueOp → Type 0) (gives : RequeueOp → UnparkResult → UnparkToken → Type 0) (from to : ℕ)
    (op : RequeueOp) (asked : asks op) where
  -- what it is where it isn't aborted
  pub requeues : (old : Machine) (result : UnparkResult) (token : UnparkToken) → is_abort op ≡ false
      → result ≡ unpark_result (length (woken_by op (old.queues from))) (length (moved_by op (old.queues from)))
      (left_by op (old.queues from)) → gives op result token
      → UnparksAndRequeues asks gives from to old (Ok result) (requeued old op from to token)
  requeues old result token goes is given =
      (op, asked, by op goes is given)
    where
      by : (op : RequeueOp) → is_abort op ≡ false
          → result ≡ unpark_result (length (woken_by op (old.queues from))) (length (moved_by op (old.queues from)))
          (left_by op (old.queues from)) → gives op result token
          → Requeues (gives op) op old from to (Ok result) (requeued old op from to token)
      by Abort goes is given = absurd (false≢true (sym goes))
      by UnparkOneRequeueRest goes is given =
          (token, subst (λ r. gives UnparkOneRequeueRest r token) is given, ap Ok is, refl)
      by RequeueAll goes is given = (token, subst (λ r. gives RequeueAll r token) is given, ap Ok is, refl)
      by UnparkOne goes is given = (token, subst (λ r. gives UnparkOne r token) is given, ap Ok is, refl)
      by RequeueOne goes is given = (token, subst (λ r. gives RequeueOne r token) is given, ap Ok is, refl)

  pub aborts : (old : Machine) (result : UnparkResult) → is_abort op ≡ true → result ≡ unpark_result {X = Waiter} 0 0 []
      → UnparksAndRequeues asks gives from to old (Ok result) old
  aborts old result stops is = (op, asked, by op stops)
    where
      by : (op : RequeueOp) → is_abort op ≡ true → Requeues (gives op) op old from to (Ok result) old
      by Abort e = (ap Ok is, refl)
      by UnparkOneRequeueRest e = absurd (false≢true e)
      by RequeueAll e = absurd (false≢true e)
      by UnparkOne e = absurd (false≢true e)
      by RequeueOne e = absurd (false≢true e)

  -- what is answered, by what was taken and left
  pub answered : (old : Machine) (xs rest woken moved : List Waiting) (result : UnparkResult)
      → old.queues from ≡ queue xs from
      → rest ≡ rest_of op from xs → woken ≡ woken_of op from xs → moved ≡ moved_of op from xs
      → result ≡ record {
        unparked_threads = length woken;
        requeued_threads = length moved;
        have_more_threads = any (fits (Key from)) rest;
        be_fair = false;
      }
      → result ≡ unpark_result (length (woken_by op (old.queues from))) (length (moved_by op (old.queues from)))
      (left_by op (old.queues from))
  answered old xs rest woken moved result at l w m is =
      subst (λ (ws : List Waiter). result
      ≡ unpark_result (length (woken_by op ws)) (length (moved_by op ws)) (left_by op ws))
      (sym at)
      (result_is result (length woken) (length moved) (length (woken_by op (queue xs from)))
      (length (moved_by op (queue xs from))) (any (fits (Key from)) rest) false (left_by op (queue xs from)) is
      (ap length w ∙ (count_of (woken_of op from xs) ∙ ap length (woken_are from xs op)))
      (ap length m ∙ (count_of (moved_of op from xs) ∙ ap length (moved_are from xs op)))
      (any_waits from rest ∙ ap is_left (ap (λ ys. queue ys from) l ∙ rest_here from xs op)))

  -- WITHIN A BUCKET

  module _ (xs left : List Waiting) (apart : Apart xs) (held : Held xs left) where
    abbrev before : Machine
    before = lot_of (λ t. false) 0 xs

    pub nothing_is_requeued : (result : UnparkResult) → is_abort op ≡ true → result ≡ unpark_result {X = Waiter} 0 0 []
        → left ≡ xs
        → OnSomeLot (λ k. (k == from) || (k == to)) (Does (either_busy from to) (UnparksAndRequeues asks gives from
        to)) result
    nothing_is_requeued result stops is l = (
      before,
      before,
      lot_quiet (λ t. false) 0 xs apart,
      aborts before result stops is,
      (λ k e. refl),
      held before before (λ k. refl) (λ k. ap (λ ys. queue ys k) (sym l)),
    )

    pub some_are_requeued : (rest woken moved : List Waiting) (result : UnparkResult) (token : UnparkToken)
        → is_abort op ≡ false → rest ≡ rest_of op from xs → woken ≡ woken_of op from xs → moved ≡ moved_of op from xs
        → left ≡ rest ++ under to moved
        → result ≡ record {
          unparked_threads = length woken;
          requeued_threads = length moved;
          have_more_threads = any (fits (Key from)) rest;
          be_fair = false;
        } → gives op result token
        → OnSomeLot (λ k. (k == from) || (k == to)) (Does (either_busy from to) (UnparksAndRequeues asks gives from
        to)) result
    some_are_requeued rest woken moved result token goes r w m l is given =
        let old = before in
        let new = requeued old op from to token in
        let lists : (k : ℕ) → passed old op from to token k ≡ queue rest k =
        λ k. by_test (k == from) (passed old op from to token k ≡ queue rest k)
        (λ e. ap (passed old op from to token) (eqb-true k from e) ∙ (passed_here old op from to token
        ∙ (sym (ap (λ ys. queue ys from) r ∙ rest_here from xs op) ∙ ap (queue rest) (sym (eqb-true k from e)))))
        (λ e. passed_else old op from to token k e ∙ sym (ap (λ ys. queue ys k) r ∙ rest_else from xs op k e)) in
        let come : queue (under to moved) to ≡ moved_by op (queue xs from) =
        queue_under to moved ∙ (ap waiters_of m ∙ moved_are from xs op) in
        let here : new.queues to ≡ queue left to =
        new_here old op from to token ∙ (ap (λ ws. ws ++ moved_by op (queue xs from)) (lists to)
        ∙ sym (ap (λ ys. queue ys to) l ∙ (queue_append rest (under to moved) to
        ∙ ap (λ ws. queue rest to ++ ws) come))) in
        let else : (k : ℕ) → (k == to) ≡ false → new.queues k ≡ queue left k =
        λ k e. new_else old op from to token k e ∙ (lists k
        ∙ sym (ap (λ ys. queue ys k) l ∙ (queue_append rest (under to moved) k
        ∙ (ap (λ ws. queue rest k ++ ws) (queue_under_else to k moved e) ∙ append-nil (queue rest k))))) in (
          old,
          new,
          lot_quiet (λ t. false) 0 xs apart,
          requeues old result token goes (answered old xs rest woken moved result refl r w m is) given,
          (λ k e.
              let no = neither (k == from) (k == to) e in
              new_else old op from to token k no.1 ∙ passed_else old op from to token k no.0),
          held old new (λ k. refl) (λ k. by_test (k == to) (new.queues k ≡ queue left k)
              (λ e. subst (λ j. new.queues j ≡ queue left j) (sym (eqb-true k to e)) here) (else k)),
        )
