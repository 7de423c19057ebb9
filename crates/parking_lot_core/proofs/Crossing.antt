-- A requeue from one bucket to another is a move of a sound lot, in which the second's waiters bear other numbers.
use Rattle.std.proofs.Common.{◌≡◌, ◌∙◌, ◌∷◌, ◌++◌, ◌+◌, ◌<◌, ◌≤◌, ◌==◌, ◌||◌, ◌⊎◌, [], List, refl, sym, ap, Bool}
use Rattle.std.proofs.Common.{true, false, cond, ℕ, zero, suc, arith, eqb-true, eq-eqb, length}
use mathlib.Core.Logic.{inl, inr}
use Rattle.std.proofs.lemmas.Bool.{false≢true}
use Rattle.std.proofs.lemmas.List.{append-nil}
use Rattle.parking_lot_core_model.specs.declared.parking.RequeueOp.{RequeueOp}
use Rattle.parking_lot_core_model.specs.declared.parking.UnparkResult.{UnparkResult}
use Rattle.parking_lot_core_model.specs.declared.parking.UnparkToken.{UnparkToken}
use Rattle.parking_lot_core_model.specs.declared.place.Waiter.{Waiter}
use Rattle.parking_lot_core_model.specs.Machine.{Machine, Does, either_busy, requeued}
use Rattle.parking_lot_core_model.specs.Operations.{UnparksAndRequeues, is_abort}
use Rattle.parking_lot_core_model.specs.Results.{unpark_result, moved_by, left_by}
use Rattle.parking_lot_core.specs.declared.chain.Waiting.{Waiting}
use Rattle.parking_lot_core.specs.declared.chain.Wanted.TheVariants.{Key}
use Rattle.parking_lot_core.specs.Waits.{queue, waiters_of, any, fits, every, under, often, Apart, woken_of, moved_of}
use Rattle.parking_lot_core.specs.Waits.{rest_of}
use Rattle.parking_lot_core.specs.Shared.{HasBoth, OnSomeLot, WasHeld, renamed}
use Rattle.parking_lot_core.proofs.Apart.{often_append, often_others}
use Rattle.parking_lot_core.proofs.Queues.{by_test, other_key, queue_append, queue_here, queue_there, queue_under}
use Rattle.parking_lot_core.proofs.Queues.{queue_under_else}
use Rattle.parking_lot_core.proofs.Lots.{bound, beyond, lot_of, lot_quiet}
use Rattle.parking_lot_core.proofs.Requeued.{rest_here, rest_else, moved_are, passed_here, passed_else}
use Rattle.parking_lot_core.proofs.Requeued.{new_here}
use Rattle.parking_lot_core.proofs.Requeued.{new_else, neither, requeues, aborts, answered}

-- the same waiters, by other numbers
abbrev shifted : ℕ → List Waiting → List Waiting
shifted s [] = []
shifted s (x ∷ xs) = record x {
  waiter = record {
    thread = s
        + x.waiter.thread;
    token = x.waiter.token;
  };
} ∷ shifted s xs

queue_shifted : (s : ℕ) (ys : List Waiting) (k : ℕ) → queue (shifted s ys) k ≡ renamed s (queue ys k)
queue_shifted s [] k = refl
queue_shifted s (y ∷ ys) k = both (queue_shifted s ys k) (y.key == k)
  where
    both : queue (shifted s ys) k ≡ renamed s (queue ys k) → (b : Bool)
        → cond b (record { thread = s + y.waiter.thread; token = y.waiter.token } ∷ queue (shifted s ys) k)
        (queue (shifted s ys) k) ≡ renamed s (cond b (y.waiter ∷ queue ys k) (queue ys k))
    both i true = ap (λ (ws : List Waiter). record { thread = s + y.waiter.thread; token = y.waiter.token } ∷ ws) i
    both i false = i

-- those of one key
module _ (key : ℕ) where
  only_here : (xs : List Waiting) → queue (every (fits (Key key)) xs) key ≡ queue xs key
  only_here [] = refl
  only_here (x ∷ xs) =
      let es = every (fits (Key key)) xs in
      let i = only_here xs in
      by_test (x.key == key) (queue (every (fits (Key key)) (x ∷ xs)) key ≡ queue (x ∷ xs) key)
      (λ e. ap (λ b. queue (cond b (x ∷ es) es) key) e
      ∙ (queue_here x es key e ∙ (ap (λ ws. x.waiter ∷ ws) i ∙ sym (queue_here x xs key e))))
      (λ e. ap (λ b. queue (cond b (x ∷ es) es) key) e ∙ (i ∙ sym (queue_there x xs key e)))

  only_else : (k : ℕ) → (k == key) ≡ false → (xs : List Waiting) → queue (every (fits (Key key)) xs) k ≡ []
  only_else k o [] = refl
  only_else k o (x ∷ xs) =
      let es = every (fits (Key key)) xs in
      let i = only_else k o xs in
      by_test (x.key == key) (queue (every (fits (Key key)) (x ∷ xs)) k ≡ [])
      (λ e. ap (λ b. queue (cond b (x ∷ es) es) k) e ∙ (queue_there x es k (other_key x.key k key e o) ∙ i))
      (λ e. ap (λ b. queue (cond b (x ∷ es) es) k) e ∙ i)

often_below : (t s : ℕ) (ys : List Waiting) → t < s → often t (shifted s ys) ≡ 0
often_below t s [] h = refl
often_below t s (y ∷ ys) h =
    let i = often_below t s ys h in
    by_test ((s + y.waiter.thread) == t) (often t (shifted s (y ∷ ys)) ≡ 0)
    (λ e. absurd (let same = eqb-true (s + y.waiter.thread) t e in omega arith))
    (λ e. let z : cond {A = ℕ} ((s + y.waiter.thread) == t) 1 0 ≡ 0 = ap (λ b. cond {A = ℕ} b 1 0) e in omega arith)

often_above : (u s : ℕ) (ys : List Waiting) → often (s + u) (shifted s ys) ≡ often u ys
often_above u s [] = refl
often_above u s (y ∷ ys) =
    let i = often_above u s ys in
    let same : ((s + y.waiter.thread) == (s + u)) ≡ (y.waiter.thread == u) =
    by_test (y.waiter.thread == u) (((s + y.waiter.thread) == (s + u)) ≡ (y.waiter.thread == u))
    (λ e. eq-eqb (s + y.waiter.thread) (s + u) (ap (λ n. s + n) (eqb-true y.waiter.thread u e)) ∙ sym e)
    (λ e. by_test ((s + y.waiter.thread) == (s + u)) (((s + y.waiter.thread) == (s + u)) ≡ (y.waiter.thread == u))
    (λ h. absurd (false≢true (sym e ∙ eq-eqb y.waiter.thread u
    (let n = eqb-true (s + y.waiter.thread) (s + u) h in omega arith))))
    (λ h. h ∙ sym e)) in
    let z : cond {A = ℕ} ((s + y.waiter.thread) == (s + u)) 1 0 ≡ cond {A = ℕ} (y.waiter.thread == u) 1 0 =
    ap (λ b. cond {A = ℕ} b 1 0) same in omega arith

-- below a number, or not
below_or : (t s : ℕ) → (t < s) ⊎ ((u : ℕ) × (t ≡ s + u))
below_or t zero = inr (t, omega arith)
below_or zero (suc s) = inl (omega arith)
below_or (suc t) (suc s) = further (below_or t s)
  where
    further : (t < s) ⊎ ((u : ℕ) × (t ≡ s + u)) → (suc t < suc s) ⊎ ((u : ℕ) × (suc t ≡ suc s + u))
    further (inl h) = inl (omega arith)
    further (inr (u, e)) = inr (u, omega arith)

module _ (from to : ℕ) (apart-keys : (from == to)
    ≡ false) (xs ys : List Waiting) (apart : Apart xs) (apart-there : Apart ys) where
  turned : (to == from) ≡ false
  turned = by_test (to == from) ((to == from) ≡ false)
      (λ h. absurd (false≢true (sym apart-keys ∙ eq-eqb from to (sym (eqb-true to from h))))) (λ h. h)

  abbrev s : ℕ
  s = bound xs

  abbrev zs : List Waiting
  zs = every (fits (Key from)) xs ++ shifted (bound xs) (every (fits (Key to)) ys)

  zs_from : queue zs from ≡ queue xs from
  zs_from =
      queue_append (every (fits (Key from)) xs) (shifted s (every (fits (Key to)) ys)) from
      ∙ (ap (λ ws. queue (every (fits (Key from)) xs) from ++ ws)
      (queue_shifted s (every (fits (Key to)) ys) from ∙ ap (renamed s) (only_else to from apart-keys ys))
      ∙ (append-nil (queue (every (fits (Key from)) xs) from) ∙ only_here from xs))

  zs_to : queue zs to ≡ renamed s (queue ys to)
  zs_to =
      queue_append (every (fits (Key from)) xs) (shifted s (every (fits (Key to)) ys)) to
      ∙ (ap (λ ws. ws ++ queue (shifted s (every (fits (Key to)) ys)) to) (only_else from to turned xs)
      ∙ (queue_shifted s (every (fits (Key to)) ys) to ∙ ap (renamed s) (only_here to ys)))

  apart_zs : Apart zs
  apart_zs t = by (below_or t s)
    where
      by : (t < s) ⊎ ((u : ℕ) × (t ≡ s + u)) → often t zs ≤ 1
      by (inl h) =
          let a = apart t in
          let b = often_others t (fits (Key from)) xs in
          let c = often_below t s (every (fits (Key to)) ys) h in
          let d = often_append t (every (fits (Key from)) xs) (shifted s (every (fits (Key to)) ys)) in omega arith
      by (inr (u, e)) =
          let a = apart-there u in
          let b = often_others t (fits (Key from)) xs in
          let n = beyond t xs (omega arith) in
          let c = ap (λ v. often v (shifted s (every (fits (Key to)) ys))) e
          ∙ often_above u s (every (fits (Key to)) ys) in
          let f = often_others u (fits (Key to)) ys in
          let d = often_append t (every (fits (Key from)) xs) (shifted s (every (fits (Key to)) ys)) in omega arith

  module _ (asks : RequeueOp → Type 0) (gives : RequeueOp → UnparkResult → UnparkToken → Type 0) (op : RequeueOp)
      (asked : asks op) (left joined : List Waiting)
      (held : (old new : Machine) (f t shift : ℕ) → HasBoth f t shift xs left ys joined old new → WasHeld old new) where
    abbrev before : Machine
    before = lot_of (λ t. false) 0 zs

    pub nothing_is_sent : (result : UnparkResult) → is_abort op ≡ true → result ≡ unpark_result {X = Waiter} 0 0 []
        → left ≡ xs → joined ≡ ys
        → OnSomeLot (λ k. (k == from) || (k == to)) (Does (either_busy from to) (UnparksAndRequeues asks gives from
        to)) result
    nothing_is_sent result stops is l j = (
      before,
      before,
      lot_quiet (λ t. false) 0 zs apart_zs,
      aborts asks gives from to op asked before result stops is,
      (λ k e. refl),
      held before before from to s (record {
        source = zs_from;
        sent = zs_from ∙ ap (λ ws. queue ws from) (sym l);
        target = zs_to;
        more = [];
        come = ap (λ ws. queue ws to) j ∙ sym (append-nil (queue ys to));
        got = zs_to ∙ sym (append-nil (renamed s (queue ys to)));
        source_else = λ k e. ap (λ ws. queue ws k) l;
        target_else = λ k e. ap (λ ws. queue ws k) j;
      }),
    )

    pub some_are_sent : (woken moved : List Waiting) (result : UnparkResult) (token : UnparkToken)
        → is_abort op ≡ false → left ≡ rest_of op from xs → woken ≡ woken_of op from xs → moved ≡ moved_of op from xs
        → joined ≡ ys ++ under to moved
        → result ≡ record {
          unparked_threads = length woken;
          requeued_threads = length moved;
          have_more_threads = any (fits (Key from)) left;
          be_fair = false;
        } → gives op result token
        → OnSomeLot (λ k. (k == from) || (k == to)) (Does (either_busy from to) (UnparksAndRequeues asks gives from
        to)) result
    some_are_sent woken moved result token goes r w m j is given =
        let old = before in
        let new = requeued old op from to token in
        let more = moved_by op (queue xs from) in
        let come : queue (under to moved) to ≡ more = queue_under to moved ∙ (ap waiters_of m
        ∙ moved_are from xs op) in (
          old,
          new,
          lot_quiet (λ t. false) 0 zs apart_zs,
          requeues asks gives from to op asked old result token goes
              (answered asks gives from to op asked old xs left woken moved result zs_from r w m is) given,
          (λ k e.
              let no = neither (k == from) (k == to) e in
              new_else old op from to token k no.1 ∙ passed_else old op from to token k no.0),
          held old new from to s (record {
            source = zs_from;
            sent = new_else old op from to token from apart-keys ∙ (passed_here old op from to token
                ∙ (ap (left_by op) zs_from ∙ sym (ap (λ ws. queue ws from) r ∙ rest_here from xs op)));
            target = zs_to;
            more = more;
            come = ap (λ ws. queue ws to) j ∙ (queue_append ys (under to moved) to ∙ ap (λ ws. queue ys to ++ ws) come);
            got = new_here old op from to token
                ∙ (ap (λ ws. ws ++ moved_by op (old.queues from)) (passed_else old op from to token to turned ∙ zs_to)
                ∙ ap (λ ws. renamed s (queue ys to) ++ moved_by op ws) zs_from);
            source_else = λ k e. ap (λ ws. queue ws k) r ∙ rest_else from xs op k e;
            target_else = λ k e. ap (λ ws. queue ws k) j ∙ (queue_append ys (under to moved) k
                ∙ (ap (λ ws. queue ys k ++ ws) (queue_under_else to k moved e) ∙ append-nil (queue ys k)));
          }),
        )
