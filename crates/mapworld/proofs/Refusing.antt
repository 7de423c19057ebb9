-- Which steps lead a thread to an answer that it was refused for memory: those at which a growth was refused, and
-- walks. And which lead it to the admission of a call on one key: its start.
use Rattle.std.proofs.Common.{◌≡◌, ℕ, ◌⊎◌, inl, inr, Bool, true, false, cond, List, Some, None, slice_get, slice_set}
use Rattle.std.proofs.Common.{refl, sym, ap, ◌∙◌}
use Rattle.std.proofs.lemmas.Bool.{false≢true}
use Rattle.mapworld_calls.specs.declared.ask.Ask.{Ask}
use Rattle.mapworld_calls.specs.declared.ask.Ask.TheVariants as ask
use Rattle.mapworld_calls.specs.declared.ask.Begin.TheVariants as begin
use Rattle.mapworld_calls.specs.declared.ask.Keyed.{Keyed}
use Rattle.mapworld_calls.specs.declared.ask.Keyed.TheVariants as keyed
use Rattle.mapworld_calls.specs.declared.ask.Walk.{Walk}
use Rattle.mapworld_calls.specs.declared.reply.Answer.{Answer}
use Rattle.mapworld_calls.specs.declared.reply.Answer.TheVariants as answer
use Rattle.mapworld_calls.specs.Calls.{keyed_answer}
use Rattle.mapworld_calls.specs.Deeds.{Deeds}
use Rattle.mapworld_calls.specs.Programs.{key_of}
use Rattle.mapworld_calls.specs.Setup.{Setup, ask_at}
use Rattle.mapworld_calls.proofs.Lists.{slice_get-set_same}
use Rattle.mapworld_state.specs.declared.place.Growth.{Growth}
use Rattle.mapworld_state.specs.declared.place.Growth.TheVariants as growth
use Rattle.mapworld_state.specs.declared.place.Phase.{Phase}
use Rattle.mapworld_state.specs.declared.place.Phase.TheVariants as phase
use Rattle.mapworld_state.specs.declared.place.Request.{Request}
use Rattle.mapworld_state.specs.declared.place.Request.TheVariants as request
use Rattle.mapworld_state.specs.declared.step.Step.{Step}
use Rattle.mapworld_state.specs.Moves.{changed_phase, ends_guard, found_phase, request_of, start_phase}
use Rattle.mapworld_state.specs.Places.{Place}
use Rattle.mapworld_state.specs.Shards.{has_room}
use Rattle.mapworld_state.specs.Sound.{Claim, Sound}
use Rattle.mapworld_state.specs.State.{State, threads_of}
use Rattle.mapworld_state.specs.Steps.{Expires, IsOwnStep, by_itself, by_deadline}
use Rattle.mapworld_state.specs.Steps.{Enters, IsRefusedGrowth, IsRefusedVisit, IsStep, Leaves, LooksAround, MovesLock}
use Rattle.mapworld_state.specs.Steps.{Reaches, Replies, Starts, start, lock, find, find_grows, find_refused}
use Rattle.mapworld_state.specs.Steps.{deed_appends, deed_applies, deed_views, deed_reads, deed_changes, deed_fills}
use Rattle.mapworld_state.specs.Steps.{downgrade, release, answers, visit_starts, visit_parts, visit_looks, visit_seeks}
use Rattle.mapworld_state.specs.Steps.{visit_does, visit_gives}
use Rattle.mapworld_state.specs.Walks.{LeadsOn, hands_over}
use Rattle.mapworld_state.proofs.InvariantFacts.Building.{asked-at, claim-at, drop-first, taken-at}
use Rattle.mapworld_state.proofs.InvariantFacts.Walking.{sound-let_in}

-- the answer is that memory was short, and is to be given
abbrev pub is_refusal : {K V T A : Type 0} → Answer K V T A → Bool
is_refusal answer.NoMemory = true
is_refusal other = false

abbrev pub refuses : {K V D T A : Type 0} → Phase K V D T A → Bool
refuses (phase.Release a) = is_refusal a
refuses (phase.Answer a) = is_refusal a
refuses f = false

-- it is to be admitted
abbrev pub asks : {K V D T A : Type 0} → Phase K V D T A → Bool
asks (phase.Admit r) = true
asks f = false

-- neither is so
record IsPlain {K V D T A : Type 0} (f : Phase K V D T A) : Type 0 where
  told : refuses f ≡ false
  in_ : asks f ≡ false

-- WHERE KEYED CALLS AND OPENINGS AREN'T REFUSED

never : {X : Type 0} (b : Bool) → b ≡ false → b ≡ true → X
never b off is = absurd (false≢true (sym off ∙ is))

module _ (A : Type 0) {D K V T : Type 0} (deeds : Deeds D K V T) where
  either : (b : Bool) (a c : Answer K V T A) → is_refusal a ≡ false → is_refusal c ≡ false
      → is_refusal (cond b a c) ≡ false
  either true a c h k = h
  either false a c h k = k

  keyed-told : (k : Keyed K V D) (p : K × V) → is_refusal (keyed_answer deeds {A = A} k (Some p)) ≡ false
  keyed-told (keyed.Insert k w) p = refl
  keyed-told (keyed.InsertUntil k w) p = refl
  keyed-told (keyed.Remove k) p = refl
  keyed-told (keyed.RemoveUntil k) p = refl
  keyed-told (keyed.RemoveIf k d) p = either (deeds.keep d p.0 p.1) answer.None (answer.Pair p.0 p.1) refl refl
  keyed-told (keyed.RemoveIfMut k d) p = either (deeds.keep d p.0 p.1) answer.None
      (answer.Pair p.0 (deeds.effect d p.0 p.1)) refl refl
  keyed-told (keyed.Alter k d) p = refl
  keyed-told (keyed.View k d) p = refl
  keyed-told (keyed.ContainsKey k) p = refl

found-plain : {K V D : Type 0} (T A : Type 0) (r : Request K V D) (there room : Bool)
    → IsPlain (found_phase {T = T} {A = A} r there room)
found-plain T A (request.Keyed (keyed.Insert k v)) true room = record { told = refl; in_ = refl }
found-plain T A (request.Keyed (keyed.Insert k v)) false true = record { told = refl; in_ = refl }
found-plain T A (request.Keyed (keyed.Insert k v)) false false = record { told = refl; in_ = refl }
found-plain T A (request.Keyed (keyed.InsertUntil k v)) true room = record { told = refl; in_ = refl }
found-plain T A (request.Keyed (keyed.InsertUntil k v)) false true = record { told = refl; in_ = refl }
found-plain T A (request.Keyed (keyed.InsertUntil k v)) false false = record { told = refl; in_ = refl }
found-plain T A (request.Keyed (keyed.Remove k)) true room = record { told = refl; in_ = refl }
found-plain T A (request.Keyed (keyed.Remove k)) false room = record { told = refl; in_ = refl }
found-plain T A (request.Keyed (keyed.RemoveUntil k)) true room = record { told = refl; in_ = refl }
found-plain T A (request.Keyed (keyed.RemoveUntil k)) false room = record { told = refl; in_ = refl }
found-plain T A (request.Keyed (keyed.RemoveIf k d)) true room = record { told = refl; in_ = refl }
found-plain T A (request.Keyed (keyed.RemoveIf k d)) false room = record { told = refl; in_ = refl }
found-plain T A (request.Keyed (keyed.RemoveIfMut k d)) true room = record { told = refl; in_ = refl }
found-plain T A (request.Keyed (keyed.RemoveIfMut k d)) false room = record { told = refl; in_ = refl }
found-plain T A (request.Keyed (keyed.Alter k d)) true room = record { told = refl; in_ = refl }
found-plain T A (request.Keyed (keyed.Alter k d)) false room = record { told = refl; in_ = refl }
found-plain T A (request.Keyed (keyed.View k d)) true room = record { told = refl; in_ = refl }
found-plain T A (request.Keyed (keyed.View k d)) false room = record { told = refl; in_ = refl }
found-plain T A (request.Keyed (keyed.ContainsKey k)) true room = record { told = refl; in_ = refl }
found-plain T A (request.Keyed (keyed.ContainsKey k)) false room = record { told = refl; in_ = refl }
found-plain T A (request.Begin b) true room = record { told = refl; in_ = refl }
found-plain T A (request.Begin (begin.Get k)) false room = record { told = refl; in_ = refl }
found-plain T A (request.Begin (begin.GetUntil k)) false room = record { told = refl; in_ = refl }
found-plain T A (request.Begin (begin.GetMut k)) false room = record { told = refl; in_ = refl }
found-plain T A (request.Begin (begin.GetMutUntil k)) false room = record { told = refl; in_ = refl }
found-plain T A (request.Begin (begin.TryGet k)) false room = record { told = refl; in_ = refl }
found-plain T A (request.Begin (begin.TryGetMut k)) false room = record { told = refl; in_ = refl }
found-plain T A (request.Begin (begin.Entry k)) false true = record { told = refl; in_ = refl }
found-plain T A (request.Begin (begin.Entry k)) false false = record { told = refl; in_ = refl }
found-plain T A (request.Begin (begin.TryEntry k)) false true = record { told = refl; in_ = refl }
found-plain T A (request.Begin (begin.TryEntry k)) false false = record { told = refl; in_ = refl }

changed-asks : {K V T A : Type 0} (D : Type 0) (ends : Bool) (a : Answer K V T A)
    → asks (changed_phase {D = D} ends a) ≡ false
changed-asks D true a = refl
changed-asks D false a = refl

either-asks : {K V D T A : Type 0} (b : Bool) (f g : Phase K V D T A) → asks f ≡ false → asks g ≡ false
    → asks (cond b f g) ≡ false
either-asks true f g h k = h
either-asks false f g h k = k

leads-asks : {K V D T A : Type 0} (f : Walk D) (ends done : Bool) (reads : List T) (n : ℕ) (next : Phase K V D T A)
    (kept : List T) → LeadsOn f ends done reads n next kept → asks next ≡ false
leads-asks f true done reads n next kept h = ap asks h.2
leads-asks f false true reads n next kept h = ap asks h.0
    ∙ either-asks (hands_over f) (phase.Onward f) (phase.Give f) refl refl
leads-asks f false false reads n next kept h = ap asks h.0

-- WHAT LEADS TO SUCH AN ANSWER

module _ {K V S D T A : Type 0} (x : Setup K V D T) (w : State K V S D T A) (s : Step) (w' : State K V S D T A) where
  -- the answer was to be given before; or a growth is refused at this step; or the call works on no key
  pub data Why (now : Place K V D T A) : Type 0 where
    before : (p : Place K V D T A) → slice_get w.places s.thread ≡ Some p → refuses p.phase ≡ true
        → now.next ≡ p.next → now.started ≡ p.started → Why now
    grown : (g : IsRefusedGrowth x w s w') → now.next ≡ g.place.next → now.started ≡ g.place.started → Why now
    keyless : (a : Ask K V D) → ask_at x s.thread now.next ≡ Some a → key_of a ≡ None → Why now

  -- it has started, or goes on in its admission, or its deadline has come there
  pub data Asked (now : Place K V D T A) : Type 0 where
    by_start : (h : Starts x w s w') → now.phase ≡ start_phase h.ask h.place.guard → Asked now
    by_move : (h : MovesLock x w s w') → h.place ≡ now → Asked now
    by_expiry : (h : Expires x w s w') → h.place ≡ now → Asked now

  -- so a step does it to its thread, and it replies or it doesn't
  pub record Tells : Type 0 where
    pub now : Place K V D T A
    pub there : slice_get w'.places s.thread ≡ Some now
    pub why : refuses now.phase ≡ true → Why now
    pub asked : asks now.phase ≡ true → Asked now
    pub closes : (w'.replies ≡ w.replies) ⊎ Replies x w s w'

  tells : (v : State K V S D T A) (p now : Place K V D T A) → slice_get v.places s.thread ≡ Some p
      → w'.places ≡ slice_set v.places s.thread now → (w'.replies ≡ w.replies) ⊎ Replies x w s w'
      → (refuses now.phase ≡ true → Why now) → (asks now.phase ≡ true → Asked now) → Tells
  tells v p now at places closes why asked = record {
    now = now;
    there = ap (λ ps. slice_get ps s.thread) places
        ∙ slice_get-set_same v.places s.thread p now at;
    why = why;
    asked = asked;
    closes = closes;
  }

  tells-out : (v : State K V S D T A) (p now : Place K V D T A) → slice_get v.places s.thread ≡ Some p
      → w'.places ≡ slice_set v.places s.thread now → (w'.replies ≡ w.replies) ⊎ Replies x w s w'
      → (refuses now.phase ≡ true → Why now) → asks now.phase ≡ false → Tells
  tells-out v p now at places closes why off = tells v p now at places closes why (λ on. never (asks now.phase) off on)

  -- of a step that leads elsewhere
  tells-no : (v : State K V S D T A) (p now : Place K V D T A) → slice_get v.places s.thread ≡ Some p
      → w'.places ≡ slice_set v.places s.thread now → v.replies ≡ w.replies → w'.replies ≡ v.replies
      → IsPlain now.phase → Tells
  tells-no v p now at places before_ same off = tells-out v p now at places (inl (same ∙ before_))
      (λ on. never (refuses now.phase) off.told on) off.in_

  module _ (sound : Sound x w) where
    asked-first : (h : Starts x w s w') → ask_at x s.thread h.place.next ≡ Some h.ask
    asked-first h =
        let st = sound.stands s.thread h.place h.stands in
        let first = drop-first st.program h.place.next h.ask h.rest
        (sym (taken-at x (threads_of w) w.blocks w.replies w.tables s.thread h.place phase.Rest h.before st)
        ∙ h.asked) in
        asked-at x s.thread st.program st.has h.place.next h.ask first.0

    started : (h : Starts x w s w') → (a : Ask K V D) → h.ask ≡ a → (now : Place K V D T A) → now.next ≡ h.place.next
        → now.phase ≡ start_phase a h.place.guard → refuses now.phase ≡ true → Why now
    started h (ask.Keyed k) is now next at on = never (refuses now.phase) (ap refuses at) on
    started h (ask.Begin b) is now next at on = never (refuses now.phase) (ap refuses at) on
    started h (ask.Held g) is now next at on = keyless (ask.Held g)
        (ap (ask_at x s.thread) next ∙ (asked-first h ∙ ap Some is)) refl
    started h (ask.Walk f) is now next at on = keyless (ask.Walk f)
        (ap (ask_at x s.thread) next ∙ (asked-first h ∙ ap Some is)) refl

    -- a claim of the place that a step begins at
    claims : (v : State K V S D T A) → Sound x v → (p : Place K V D T A) → slice_get v.places s.thread ≡ Some p
        → (f : Phase K V D T A) → p.phase ≡ f → Claim x (threads_of v) v.blocks v.tables s.thread p f
    claims v fine p at f is = claim-at x (threads_of v) v.blocks v.replies v.tables s.thread p f is
        (fine.stands s.thread p at)

    entered-replies : (mid : State K V S D T A) → (mid ≡ w) ⊎ Enters w s.thread mid → mid.replies ≡ w.replies
    entered-replies mid (inl same) = ap (λ z. z.replies) same
    entered-replies mid (inr e) = ap (λ z. z.replies) e.after

    left-replies : (mid : State K V S D T A) → (mid ≡ w) ⊎ Leaves w s.thread mid → mid.replies ≡ w.replies
    left-replies mid (inl same) = ap (λ z. z.replies) same
    left-replies mid (inr e) = ap (λ z. z.replies) e.after

    parted-replies : (mid : State K V S D T A) → (mid ≡ w) ⊎ Reaches w s.thread mid → mid.replies ≡ w.replies
    parted-replies mid (inl same) = ap (λ z. z.replies) same
    parted-replies mid (inr e) = ap (λ z. z.replies) e.after

    let_in-replies : (mid : State K V S D T A) → (mid ≡ w) ⊎ (Reaches w s.thread mid ⊎ Leaves w s.thread mid)
        → mid.replies ≡ w.replies
    let_in-replies mid (inl same) = ap (λ z. z.replies) same
    let_in-replies mid (inr (inl e)) = ap (λ z. z.replies) e.after
    let_in-replies mid (inr (inr e)) = ap (λ z. z.replies) e.after

    looks : (mid : State K V S D T A) → mid.replies ≡ w.replies → Sound x mid → LooksAround x mid s w'
        ⊎ IsRefusedVisit x mid s w' → Tells
    looks mid same fine (inl a) =
        tells-out mid a.place _ a.stands (ap (λ z. z.places) a.after) (inl (ap (λ z. z.replies) a.after ∙ same))
        (λ on. keyless (ask.Walk a.walk) (claims mid fine a.place a.stands (phase.Visit a.walk) a.before).0.asked
        refl) (leads-asks a.walk _ _ _ _ a.next a.reads a.leads)
    looks mid same fine (inr a) =
        tells-out mid a.place _ a.stands (ap (λ z. z.places) a.after) (inl (ap (λ z. z.replies) a.after ∙ same))
        (λ on. keyless (ask.Walk a.walk) (claims mid fine a.place a.stands (phase.Visit a.walk) a.before).0.asked
        refl) refl

    grown-plain : (c : Growth K V) → IsPlain (found_phase {D = D} {T = T} {A = A} (request_of c) false true)
    grown-plain (growth.Insert k v) = record { told = refl; in_ = refl }
    grown-plain (growth.InsertUntil k v) = record { told = refl; in_ = refl }
    grown-plain (growth.Entry k) = record { told = refl; in_ = refl }
    grown-plain (growth.TryEntry k) = record { told = refl; in_ = refl }

    own-tells : IsOwnStep x w s w' → Tells
    own-tells (start h) = tells w h.place _ h.stands (ap (λ z. z.places) h.after)
        (inl (ap (λ z. z.replies) h.after)) (λ on. started h h.ask refl _ refl refl on) (λ on. by_start h refl)
    own-tells (lock h) = tells w h.place _ h.stands (ap (λ z. z.places) h.after) (inl (ap (λ z. z.replies) h.after))
        (λ on. before h.place h.stands on refl refl) (λ on. by_move h refl)
    own-tells (find h) =
        let a = h.finds in
        tells-no h.mid a.place _ a.stands (ap (λ z. z.places) a.after) (entered-replies h.mid h.enters)
        (ap (λ z. z.replies) a.after) (found-plain T A a.request _ (has_room a.table))
    own-tells (find_grows h) = tells-no w h.place _ h.stands (ap (λ z. z.places) h.after) refl
        (ap (λ z. z.replies) h.after) (grown-plain h.call)
    own-tells (find_refused h) = tells-out w h.place _ h.stands (ap (λ z. z.places) h.after)
        (inl (ap (λ z. z.replies) h.after)) (λ on. grown h refl refl) refl
    own-tells (deed_appends h) = tells-no w h.place _ h.stands (ap (λ z. z.places) h.after) refl
        (ap (λ z. z.replies) h.after) (record { told = refl; in_ = refl })
    own-tells (deed_applies h) = tells-no w h.place _ h.stands (ap (λ z. z.places) h.after) refl
        (ap (λ z. z.replies) h.after) (record { told = keyed-told A x.deeds h.call h.pair; in_ = refl })
    own-tells (deed_views h) = tells-no w h.place _ h.stands (ap (λ z. z.places) h.after) refl
        (ap (λ z. z.replies) h.after) (record { told = refl; in_ = refl })
    own-tells (deed_reads h) = tells-no w h.place _ h.stands (ap (λ z. z.places) h.after) refl
        (ap (λ z. z.replies) h.after) (record { told = refl; in_ = refl })
    own-tells (deed_changes h) =
        tells-out w h.place _ h.stands (ap (λ z. z.places) h.after) (inl (ap (λ z. z.replies) h.after))
        (λ on. keyless (ask.Held h.call) (claims w sound h.place h.stands (phase.Change h.call) h.before).1.asked
        refl) (changed-asks D (ends_guard h.call) _)
    own-tells (deed_fills h) = tells-no w h.place _ h.stands (ap (λ z. z.places) h.after) refl
        (ap (λ z. z.replies) h.after) (record { told = refl; in_ = refl })
    own-tells (downgrade h) = tells-no w h.place _ h.stands (ap (λ z. z.places) h.after) refl
        (ap (λ z. z.replies) h.after) (record { told = refl; in_ = refl })
    own-tells (release h) =
        tells-out w h.place _ h.stands (ap (λ z. z.places) h.after) (inl (ap (λ z. z.replies) h.after))
        (λ on. before h.place h.stands (ap refuses h.before ∙ on) refl refl) refl
    own-tells (answers h) =
        let a = h.answers in
        tells-out h.mid a.place _ a.stands (ap (λ z. z.places) a.after) (inr h) (λ on. never false refl on) refl
    own-tells (visit_starts h) = let a = h.starts in tells-no h.mid a.place _ a.stands (ap (λ z. z.places) a.after)
        (left-replies h.mid h.leaves) (ap (λ z. z.replies) a.after) (record { told = refl; in_ = refl })
    own-tells (visit_parts h) = let a = h.gives in tells-no h.mid a.place _ a.stands (ap (λ z. z.places) a.after)
        (parted-replies h.mid h.enters) (ap (λ z. z.replies) a.after) (record { told = refl; in_ = refl })
    own-tells (visit_looks h) = looks h.mid (let_in-replies h.mid h.enters)
        (sound-let_in x w s.thread h.mid sound h.enters) h.looks
    own-tells (visit_seeks h) = tells-no w h.place _ h.stands (ap (λ z. z.places) h.after) refl
        (ap (λ z. z.replies) h.after) (record { told = refl; in_ = refl })
    own-tells (visit_does h) =
        tells-out w h.place _ h.stands (ap (λ z. z.places) h.after) (inl (ap (λ z. z.replies) h.after))
        (λ on. keyless (ask.Walk h.walk) (claims w sound h.place h.stands (phase.Item h.walk) h.before).0.asked
        refl)
        (leads-asks h.walk _ _ _ _ h.next h.reads h.leads)
    own-tells (visit_gives h) = tells-no w h.place _ h.stands (ap (λ z. z.places) h.after) refl
        (ap (λ z. z.replies) h.after) (record { told = refl; in_ = refl })

    pub step-tells : IsStep x w s w' → Tells
    step-tells (by_itself mine step) = own-tells step
    step-tells (by_deadline due h) = tells w h.place _ h.stands (ap (λ z. z.places) h.after)
        (inl (ap (λ z. z.replies) h.after)) (λ on. before h.place h.stands on refl refl) (λ on. by_expiry h refl)
