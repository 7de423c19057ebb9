-- What each step leaves of a call at a once: what it was asked.
use Rattle.std.proofs.Common.{◌≡◌, ◌≢◌, inl, inr, ℕ, List, Option, Some, None, slice_set, refl, sym, ap, ◌∙◌, subst}
use Rattle.std.specs.Option.{option_and_then, option_map}
use Rattle.std.proofs.lemmas.Bool.{cases_eq}
use Rattle.std.proofs.lemmas.Option.{none-some, same_Some}
use Rattle.parking_lot_protocol.specs.declared.act.Act.{Act}
use Rattle.parking_lot_protocol.specs.declared.act.SectionAct.{SectionAct}
use Rattle.parking_lot_protocol_waits.specs.declared.once.once_phase.OnceAnswer.{OnceAnswer}
use Rattle.parking_lot_protocol_waits.specs.declared.once.once_phase.OncePhase.{OncePhase}
use Rattle.parking_lot_protocol_waits.specs.declared.once.once_phase.OncePhase.TheVariants as at
use Rattle.parking_lot_protocol_waits.specs.Once.OnceTable.{act_of, answer_of}
use Rattle.parking_lot_machine_sides.specs.declared.once.calls.OnceReply.{OnceReply}
use Rattle.parking_lot_machine_sides.specs.Once.OnceActs.{ended_by, off_list, replied, stepped, took_by, woke_by, woken}
use Rattle.parking_lot_machine_sides.specs.Once.OnceCalls.{reply_by}
use Rattle.parking_lot_machine_sides.specs.Once.OnceSteps.{IsStepped}
use Rattle.parking_lot_machine_sides.specs.declared.once.open_call.OpenCall.{OpenCall}
use Rattle.parking_lot_machine_sides.specs.Once.Onces.{Onces, call_at}
use Rattle.parking_lot_rules.proofs.Slots.{at_slot, set_elsewhere, set_here}

-- it was asked the same
pub record AsksOn (c : OpenCall) (o : Option OpenCall) : Type 0 where
  pub call : OpenCall
  pub here : o ≡ Some call
  pub same : call.call ≡ c.call

itself : (c : OpenCall) (o : Option OpenCall) → o ≡ Some c → AsksOn c o
itself c o e = record { call = c; here = e; same = refl }

as_one : (c d : OpenCall) (o : Option OpenCall) → d.call ≡ c.call → o ≡ Some d → AsksOn c o
as_one c d o same e = record { call = d; here = e; same = same }

-- another's call is changed, where it is in one
changed : (cs : List (Option OpenCall)) (v : ℕ) (f : OpenCall → OpenCall) → ((c : OpenCall) → (f c).call ≡ c.call)
    → (k : ℕ) (c : OpenCall) → at_slot cs k ≡ Some c
    → AsksOn c (at_slot (slice_set cs v (option_map f (at_slot cs v))) k)
changed cs v f keeps k c here = elim (cases_eq k v) [
  | inl same ↦
      let there = ap (at_slot cs) (sym same) ∙ here in
      as_one c (f c) _ (keeps c)
      (ap (at_slot (slice_set cs v (option_map f (at_slot cs v)))) same ∙ set_here cs v c _ there
      ∙ ap (option_map f) there)
  | inr other ↦ itself c _ (set_elsewhere cs v k _ other ∙ here)
]

-- BY ANOTHER

module _ (t u : ℕ) (ne : t ≢ u) (s : Onces) (d c : OpenCall) (here : call_at s t ≡ Some c) where
  set_apart : (o : Option OpenCall) → AsksOn c (at_slot (slice_set s.calls u o) t)
  set_apart o = itself c _ (set_elsewhere s.calls u t o ne ∙ here)

  two_apart : (v : ℕ) (f : OpenCall → OpenCall) → ((e : OpenCall) → (f e).call ≡ e.call) → (o : Option OpenCall)
      → AsksOn c (at_slot (slice_set (slice_set s.calls v (option_map f (at_slot s.calls v))) u o) t)
  two_apart v f keeps o =
      (let on = changed s.calls v f keeps t c here in as_one c on.call _ on.same (set_elsewhere _ u t o ne ∙ on.here))

  took_apart : (o : Option ℕ) → AsksOn c (call_at (took_by o s u d) t)
  took_apart None = set_apart _
  took_apart (Some n) = two_apart _ (off_list u) (λ e. refl) _

  woke_apart : (o : Option ℕ) → AsksOn c (call_at (woke_by o s u d) t)
  woke_apart None = itself c _ here
  woke_apart (Some n) = two_apart _ woken (λ e. refl) _

  ended_apart : (o : Option OnceAnswer) → AsksOn c (call_at (ended_by o s u d) t)
  ended_apart None = itself c _ here
  ended_apart (Some (OnceAnswer.Runs before)) = set_apart _
  ended_apart (Some OnceAnswer.Completed) = set_apart None
  ended_apart (Some OnceAnswer.Poisoned) = set_apart None
  ended_apart (Some OnceAnswer.Finished) = set_apart None

  section_apart : (k : SectionAct) → AsksOn c (call_at (stepped (Act.Section k) s u d) t)
  section_apart (SectionAct.TakeNext sum) = took_apart _
  section_apart SectionAct.Wake = woke_apart _
  section_apart (SectionAct.Append token) = set_apart _
  section_apart SectionAct.Check = set_apart _
  section_apart SectionAct.TakeFirst = set_apart _
  section_apart (SectionAct.Store plain fair) = set_apart _
  section_apart SectionAct.Leave = set_apart _

  apart : (a : Act) → AsksOn c (call_at (stepped a s u d) t)
  apart Act.Load = set_apart _
  apart (Act.Exchange from to) = set_apart _
  apart (Act.Add by) = set_apart _
  apart (Act.FetchAnd keep) = set_apart _
  apart Act.Spin = set_apart _
  apart (Act.Enter key) = set_apart _
  apart (Act.Section k) = section_apart k
  apart Act.Sleep = set_apart _
  apart (Act.Done answer) = ended_apart (answer_of d.core.phase)

pub another_keeps : (t u : ℕ) → t ≢ u → (s v : Onces) (reply : Option OnceReply) (c : OpenCall) → IsStepped u reply s v
    → call_at s t ≡ Some c → AsksOn c (call_at v t)
another_keeps t u ne s v reply c x here = subst (λ (y : Onces). AsksOn c (call_at y t)) (sym x.became)
    (apart t u ne s x.call c here (act_of x.call.core.phase))

pub another_begins : (t u i : ℕ) → t ≢ u → (s v : Onces) (o : Option OpenCall) (c : OpenCall)
    → v.calls ≡ slice_set s.calls u o → call_at s t ≡ Some c → AsksOn c (call_at v t)
another_begins t u i ne s v o c e here = itself c _ (ap (λ cs. at_slot cs t) e ∙ set_elsewhere s.calls u t o ne ∙ here)

-- BY ITSELF

module _ (t : ℕ) (s : Onces) (c : OpenCall) (here : call_at s t ≡ Some c) where
  set_own : (d : OpenCall) → d.call ≡ c.call → AsksOn c (at_slot (slice_set s.calls t (Some d)) t)
  set_own d same = as_one c d _ same (set_here s.calls t c _ here)

  two_own : (v : ℕ) (f : OpenCall → OpenCall) → ((e : OpenCall) → (f e).call ≡ e.call) → (d : OpenCall)
      → d.call ≡ c.call →
      AsksOn c (at_slot (slice_set (slice_set s.calls v (option_map f (at_slot s.calls v))) t (Some d)) t)
  two_own v f keeps d same =
      (let on = changed s.calls v f keeps t c here in as_one c d _ same (set_here _ t on.call _ on.here))

  took_own : (o : Option ℕ) → AsksOn c (call_at (took_by o s t c) t)
  took_own None = set_own _ refl
  took_own (Some n) = two_own _ (off_list t) (λ e. refl) _ refl

  woke_own : (o : Option ℕ) → AsksOn c (call_at (woke_by o s t c) t)
  woke_own None = itself c _ here
  woke_own (Some n) = two_own _ woken (λ e. refl) _ refl

  ended_own : (o : Option OnceAnswer) → option_and_then (reply_by c.call c.before) o ≡ None
      → AsksOn c (call_at (ended_by o s t c) t)
  ended_own None none = itself c _ here
  ended_own (Some (OnceAnswer.Runs before)) none = set_own _ refl
  ended_own (Some OnceAnswer.Completed) none = absurd (none-some _ (sym none))
  ended_own (Some OnceAnswer.Poisoned) none = absurd (none-some _ (sym none))
  ended_own (Some OnceAnswer.Finished) none = absurd (none-some _ (sym none))

  section_own : (k : SectionAct) → AsksOn c (call_at (stepped (Act.Section k) s t c) t)
  section_own (SectionAct.TakeNext sum) = took_own _
  section_own SectionAct.Wake = woke_own _
  section_own (SectionAct.Append token) = set_own _ refl
  section_own SectionAct.Check = set_own _ refl
  section_own SectionAct.TakeFirst = set_own _ refl
  section_own (SectionAct.Store plain fair) = set_own _ refl
  section_own SectionAct.Leave = set_own _ refl

  own : (a : Act) → replied c ≡ None → AsksOn c (call_at (stepped a s t c) t)
  own Act.Load none = set_own _ refl
  own (Act.Exchange from to) none = set_own _ refl
  own (Act.Add by) none = set_own _ refl
  own (Act.FetchAnd keep) none = set_own _ refl
  own Act.Spin none = set_own _ refl
  own (Act.Enter key) none = set_own _ refl
  own (Act.Section k) none = section_own k
  own Act.Sleep none = set_own _ refl
  own (Act.Done answer) none = ended_own (answer_of c.core.phase) none

  -- where it is answered it is over
  ends : (o : Option OnceAnswer) (r : OnceReply) → option_and_then (reply_by c.call c.before) o ≡ Some r
      → call_at (ended_by o s t c) t ≡ None
  ends None r e = absurd (none-some r e)
  ends (Some (OnceAnswer.Runs before)) r e = absurd (none-some r e)
  ends (Some OnceAnswer.Completed) r e = set_here s.calls t c None here
  ends (Some OnceAnswer.Poisoned) r e = set_here s.calls t c None here
  ends (Some OnceAnswer.Finished) r e = set_here s.calls t c None here

  is_done : (p : OncePhase) (r : OnceReply) → option_and_then (reply_by c.call c.before) (answer_of p) ≡ Some r
      → stepped (act_of p) s t c ≡ ended_by (answer_of c.core.phase) s t c
  is_done at.Finishes r e = refl
  is_done (at.Ends end) r e = refl
  is_done p r e = absurd (none-some r e)

pub its_own : (t : ℕ) (s v : Onces) (c : OpenCall) → IsStepped t None s v → call_at s t ≡ Some c
    → AsksOn c (call_at v t)
its_own t s v c x here =
    let mine = same_Some x.call c (sym x.here ∙ here) in
    subst (λ (y : Onces). AsksOn c (call_at y t))
    (sym (x.became ∙ ap (λ (d : OpenCall). stepped (act_of d.core.phase) s t d) mine))
    (own t s c here (act_of c.core.phase) (sym (x.replies ∙ ap replied mine)))

pub its_end : (t : ℕ) (s v : Onces) (r : OnceReply) → IsStepped t (Some r) s v → call_at v t ≡ None
its_end t s v r x =
    ap (λ (y : Onces). call_at y t) (x.became ∙ is_done t s x.call x.here x.call.core.phase r (sym x.replies))
    ∙ ends t s x.call x.here (answer_of x.call.core.phase) r (sym x.replies)
