-- What a step of the machine of onces leaves as it was: who is in a call at which once, how many there are, and that no
-- section is open in a bucket that it doesn't enter.
use Rattle.std.proofs.Common.{◌≡◌, ℕ, zero, suc, ◌==◌, Bool, true, false, List, [], ◌∷◌, length, Option, Some, None}
use Rattle.std.proofs.Common.{slice_set, refl, sym, ap, ◌∙◌, subst, eq-eqb}
use Rattle.std.specs.List.{position}
use Rattle.std.proofs.lemmas.List.{length-set}
use Rattle.parking_lot_core_model.specs.Buckets.{slot}
use Rattle.parking_lot_protocol.specs.declared.act.Act.{Act}
use Rattle.parking_lot_protocol.specs.declared.act.SectionAct.{SectionAct}
use Rattle.parking_lot_protocol_waits.specs.declared.once.once_phase.OnceAnswer.{OnceAnswer}
use Rattle.parking_lot_protocol_waits.specs.Once.OnceTable.{act_of, answer_of}
use Rattle.parking_lot_machine_sides.specs.declared.once.calls.OnceReply.{OnceReply}
use Rattle.parking_lot_machine_sides.specs.Once.Entries.{is_in}
use Rattle.parking_lot_machine_sides.specs.Once.OnceActs.{acted, ended_by, inside_after, off_list, stepped, took_by}
use Rattle.parking_lot_machine_sides.specs.Once.OnceActs.{with_call, woke_by, woken}
use Rattle.parking_lot_machine_sides.specs.Once.OnceSteps.{IsStepped}
use Rattle.parking_lot_machine_sides.specs.declared.once.open_call.OpenCall.{OpenCall}
use Rattle.parking_lot_machine_sides.specs.Once.Onces.{Onces, bucket_of, call_at, inside_at}
use Rattle.parking_lot_machine_waits.specs.Joint.{is_that}
use Rattle.parking_lot_world.specs.Worlds.{act_enters}
use Rattle.parking_lot_world.proofs.Coming.{Stays, end_stays, itself, next_stays, other_stays, own_stays}

abbrev pub once_of : OpenCall → ℕ
once_of c = c.once

pub record Kept (e : Option ℕ) (s u : Onces) : Type 0 where
  pub calls : Stays once_of s.calls u.calls
  pub count : length u.words ≡ length s.words
  pub buckets : length u.inside ≡ length s.inside
  pub closed : (b : ℕ) → is_that e b ≡ false → slot s.inside b ≡ None → slot u.inside b ≡ None

-- where nobody was, nobody is, but for who is written there
written_none : {X : Type 0} (xs : List (Option X)) (k b : ℕ) (o : Option X) → (b ≡ k → o ≡ None) → slot xs b ≡ None
    → slot (slice_set xs k o) b ≡ None
written_none [] k b o f e = e
written_none (x ∷ xs) zero zero o f e = f refl
written_none (x ∷ xs) zero (suc b) o f e = e
written_none (x ∷ xs) (suc k) zero o f e = e
written_none (x ∷ xs) (suc k) (suc b) o f e = written_none xs k b o (λ g. f (ap suc g)) e

module _ (s : Onces) (t : ℕ) (c : OpenCall) (here : call_at s t ≡ Some c) where
  -- its own call goes on, at the same once
  own : (b : Option ℕ) (d : OpenCall) → c.once ≡ d.once → Kept b s (with_call s t (Some d))
  own b d there = record {
    calls = next_stays once_of s.calls t c d here there;
    count = refl;
    buckets = refl;
    closed = λ k e o. o;
  }

  takes : (o : Option ℕ) (b : Option ℕ) → Kept b s (took_by o s t c)
  takes None b = own b _ refl
  takes (Some n) b =
      record {
        calls = own_stays once_of s.calls _ _ t c _ here refl
            (other_stays once_of s.calls _ (off_list t) (λ d. refl));
        count = refl;
        buckets = refl;
        closed = λ k e o. o;
      }

  wakes : (o : Option ℕ) (b : Option ℕ) → Kept b s (woke_by o s t c)
  wakes None b = record { calls = itself once_of s.calls; count = refl; buckets = refl; closed = λ k e o. o }
  wakes (Some n) b =
      record {
        calls = own_stays once_of s.calls _ _ t c _ here refl (other_stays once_of s.calls _ woken (λ d. refl));
        count = refl;
        buckets = refl;
        closed = λ k e o. o;
      }

  ended : (b : Option ℕ) → Kept b s (with_call s t None)
  ended b = record { calls = end_stays once_of s.calls t; count = refl; buckets = refl; closed = λ k e o. o }

  ends : (o : Option OnceAnswer) (b : Option ℕ) → Kept b s (ended_by o s t c)
  ends None b = record { calls = itself once_of s.calls; count = refl; buckets = refl; closed = λ k e o. o }
  ends (Some (OnceAnswer.Runs before)) b = own b _ refl
  ends (Some OnceAnswer.Completed) b = ended b
  ends (Some OnceAnswer.Poisoned) b = ended b
  ends (Some OnceAnswer.Finished) b = ended b

  -- an act of its own
  acts : (a : Act) → act_of c.core.phase ≡ a
      → ((b : ℕ) → is_that (act_enters s c a) b ≡ false → b ≡ bucket_of s c.once → inside_after a t None ≡ None)
      → Kept (act_enters s c a) s (acted s t c)
  acts a asks closed = record {
    calls = next_stays once_of s.calls t c _ here refl;
    count = length-set s.words c.once _;
    buckets = length-set s.inside (bucket_of s c.once) _;
    closed = λ b e o. written_none s.inside (bucket_of s c.once) b
        (inside_after (act_of c.core.phase) t (inside_at s c.once))
        (λ g. ap (λ x. inside_after x t (inside_at s c.once)) asks
        ∙ (ap (inside_after a t) (ap (slot s.inside) (sym g) ∙ o) ∙ closed b e g)) o;
  }

  apart : (x : Bool) → x ≡ true → x ≡ false → ⊥
  apart true e f = absurd cc
  apart false e f = absurd cc

  inside : (k : SectionAct) → act_of c.core.phase ≡ Act.Section k → Kept None s (stepped (Act.Section k) s t c)
  inside SectionAct.Check asks = acts _ asks (λ b e g. refl)
  inside SectionAct.TakeFirst asks = acts _ asks (λ b e g. refl)
  inside (SectionAct.TakeNext sum) asks = takes (position (is_in c.once) s.waiting) None
  inside (SectionAct.Append token) asks = own_joins
    where
      own_joins : Kept None s (stepped (Act.Section (SectionAct.Append token)) s t c)
      own_joins = record {
        calls = next_stays once_of s.calls t c _ here refl;
        count = refl;
        buckets = refl;
        closed = λ k e o. o;
      }
  inside (SectionAct.Store plain fair) asks = acts _ asks (λ b e g. refl)
  inside SectionAct.Leave asks = acts _ asks (λ b e g. refl)
  inside SectionAct.Wake asks = wakes (position (is_in t) s.wakes) None

  after : (a : Act) → act_of c.core.phase ≡ a → Kept (act_enters s c a) s (stepped a s t c)
  after Act.Load asks = acts _ asks (λ b e g. refl)
  after (Act.Exchange from to) asks = acts _ asks (λ b e g. refl)
  after (Act.Add by) asks = acts _ asks (λ b e g. refl)
  after (Act.FetchAnd keep) asks = acts _ asks (λ b e g. refl)
  after Act.Spin asks = acts _ asks (λ b e g. refl)
  after (Act.Enter key) asks =
      acts _ asks (λ b e g. absurd (apart (b == bucket_of s c.once) (eq-eqb b (bucket_of s c.once) g) e))
  after (Act.Section k) asks = inside k asks
  after Act.Sleep asks = acts _ asks (λ b e g. refl)
  after (Act.Done answer) asks = ends (answer_of c.core.phase) None

pub stepped_kept : (s u : Onces) (t : ℕ) (reply : Option OnceReply) (x : IsStepped t reply s u)
    → Kept (act_enters s x.call (act_of x.call.core.phase)) s u
stepped_kept s u t reply x = subst (Kept (act_enters s x.call (act_of x.call.core.phase)) s) (sym x.became)
    (after s t x.call x.here (act_of x.call.core.phase) refl)
