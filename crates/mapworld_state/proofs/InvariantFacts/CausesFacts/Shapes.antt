-- What a step leaves of starts, replies and places of blocks, whichever kind it is of.
use Rattle.std.proofs.Common.{◌≡◌, ◌≢◌, ℕ, ◌+◌, ◌⊎◌, inl, inr, List, [], ◌∷◌, ◌++◌, length, false, true, if◌then◌else◌}
use Rattle.std.proofs.Common.{Option, Some, None, slice_get, slice_set, refl, sym, ap, ◌∙◌, subst}
use Rattle.std.specs.Option.{option_and_then, option_map_or}
use Rattle.std.proofs.lemmas.Option.{none-some}
use Rattle.std.proofs.lemmas.Bool.{cases_eq}
use Rattle.mapworld_calls.specs.declared.block.Block.{Block}
use Rattle.mapworld_calls.specs.declared.reply.Reply.{Reply}
use Rattle.mapworld_calls.specs.Setup.{Setup}
use Rattle.mapworld_calls.specs.Placed.{answered_of}
use Rattle.mapworld_calls.proofs.Lists.{slice_get-set_same, slice_get-set_other, slice_get-set_cases}
use Rattle.mapworld_calls.proofs.Lists.{slice_get-push_cases}
use Rattle.mapworld_state.specs.Locks.Views.{Shown}
use Rattle.mapworld_state.specs.declared.step.Step.{Step}
use Rattle.mapworld_state.specs.declared.place.Phase.{Phase}
use Rattle.mapworld_state.specs.declared.place.Phase.TheVariants as phase
use Rattle.mapworld_calls.specs.declared.ask.Walk.{Walk}
use Rattle.mapworld_state.specs.Places.{Place}
use Rattle.mapworld_state.specs.Shards.{ShardPairs}
use Rattle.mapworld_state.specs.State.{State, next_step, started_of, threads_of}
use Rattle.mapworld_state.specs.Moves.{found_done, request_of, stepped, ListsBlock, CountsCall}
use Rattle.mapworld_state.specs.Steps.{IsStep, by_itself, by_deadline}
use Rattle.mapworld_state.specs.Steps.{Answers, Concludes, owed, locked, idle, Enters, Reaches, Leaves as LeavesLock}
use Rattle.mapworld_state.specs.Steps.{Finds, GivesBack, StartsVisit, LooksAround, IsRefusedVisit, IsOwnStep, start}
use Rattle.mapworld_state.specs.Steps.{lock}
use Rattle.mapworld_state.specs.Steps.{find, find_grows, find_refused, deed_appends, deed_applies, deed_views}
use Rattle.mapworld_state.specs.Steps.{deed_reads, deed_changes, deed_fills, downgrade, release, answers, visit_starts}
use Rattle.mapworld_state.specs.Steps.{visit_parts, visit_looks, visit_seeks, visit_does, visit_gives}
use Rattle.mapworld_state.specs.Sound.{Sound}
use Rattle.mapworld_state.proofs.InvariantFacts.Building.{claim-at, started-other, started-stays, started-was}
use Rattle.mapworld_state.proofs.InvariantFacts.Alike.{alike-was}
use Rattle.mapworld_state.proofs.InvariantFacts.Admitting.{sound-entered}
use Rattle.mapworld_state.proofs.InvariantFacts.Concluding.{sound-left}
use Rattle.mapworld_state.proofs.InvariantFacts.Walking.{sound-let_go, sound-let_in, sound-reaches}
use Rattle.mapworld_state.proofs.InvariantFacts.Ending.{ended-call}

-- the shard that a thread's place is at
abbrev pub shard_of : {K V S D T A : Type 0} → State K V S D T A → ℕ → ℕ
shard_of w t = option_map_or (λ p. p.shard) (slice_get w.places t) 0

module _ {K V S D T A : Type 0} (w w' : State K V S D T A) (s : Step) where
  -- no reply comes, and a start that is shown stays so
  pub record StaysOpen : Type 0 where
    pub replies : w'.replies ≡ w.replies
    pub own : (n : ℕ) → started_of w s.thread ≡ Some n → started_of w' s.thread ≡ Some n

  -- the thread's call is answered at this step, with the start that was shown
  pub record IsAnswer : Type 0 where
    pub reply : Reply K V T A
    pub replies : w'.replies ≡ w.replies ++ reply ∷ []
    pub thread : reply.thread ≡ s.thread
    pub call : reply.call ≡ answered_of w.replies s.thread
    pub start : started_of w s.thread ≡ Some reply.start
    pub end : reply.end ≡ next_step w

  -- a block that is listed at this step, of the thread: a visit's is of the shard that the walk is at
  pub record IsNew (b : Block K) : Type 0 where
    pub thread : b.thread ≡ s.thread
    pub position : b.position ≡ next_step w
    pub visit : (b.visit ≡ 0) ⊎ (b.visit ≡ shard_of w s.thread)

  abbrev pub WasListed : ℕ → Type 0
  WasListed i = (b : Block K) × (slice_get w.blocks i ≡ Some b)

  pub record Shape : Type 0 where
    pub steps : w'.steps ≡ w.steps ++ s ∷ []
    pub others : (u : ℕ) → u ≢ s.thread → started_of w' u ≡ started_of w u
    pub own : StaysOpen ⊎ IsAnswer
    pub new : (i : ℕ) (b : Block K) → slice_get w'.blocks i ≡ Some b → WasListed i ⊎ IsNew b

-- how the list of blocks comes about
module _ {K V S D T A : Type 0} (w : State K V S D T A) (s : Step) (p : Place K V D T A)
    (at : slice_get w.places s.thread ≡ Some p) where
  abbrev Comes : List (Block K) → Type 0
  Comes bs = (w' : State K V S D T A) → w'.blocks ≡ bs → (i : ℕ) (b : Block K) → slice_get w'.blocks i ≡ Some b
      → WasListed w w' s i ⊎ IsNew w w' s b

  comes-same : (bs : List (Block K)) → bs ≡ w.blocks → Comes bs
  comes-same bs same w' is i b at = inl (b, ap (λ z. slice_get z i) (sym same ∙ sym is) ∙ at)

  comes-set : (i : ℕ) (b c : Block K) → slice_get w.blocks i ≡ Some b → Comes (slice_set w.blocks i c)
  comes-set i b c listed w' is j e at =
      elim (slice_get-set_cases w.blocks i j b e c listed (ap (λ z. slice_get z j) (sym is) ∙ at)) [
        | inl own ↦ inl (b, ap (λ k. slice_get w.blocks k) own.0 ∙ listed)
        | inr other ↦ inl (e, other.1)
      ]

  comes-push : (d : Block K) → d.thread ≡ s.thread → d.position ≡ next_step w → (d.visit ≡ 0) ⊎ (d.visit ≡ p.shard)
      → Comes (w.blocks ++ d ∷ [])
  comes-push d thread position visit w' is j e here =
      elim (slice_get-push_cases w.blocks j e d (ap (λ z. slice_get z j) (sym is) ∙ here)) [
        | inl old ↦ inl (e, old)
        | inr new ↦ inr (subst (λ (z : Block K). IsNew w w' s z) (sym new.1) (record {
          thread = thread;
          position = position;
          visit = elim visit
              [ inl none ↦ inl none | inr shard ↦ inr (shard ∙ sym (ap (λ o. option_map_or (λ q. q.shard) o 0) at)) ];
        }))
      ]

  comes-counted : (o : Option ℕ) (n : ℕ) (bs : List (Block K)) → CountsCall w.blocks o n bs → Comes bs
  comes-counted None n bs h w' is = comes-same bs h w' is
  comes-counted (Some i) n bs h w' is = comes-set i h.0 h.1 h.2 w' (is ∙ h.4)

  comes-listed : (o : Option ℕ) (bs : List (Block K)) → ListsBlock w s.thread p o bs → Comes bs
  comes-listed None bs h w' is = comes-same bs h w' is
  comes-listed (Some n) bs h w' is = comes-push h.0 h.1.thread h.1.position (inl h.1.visit) w' (is ∙ h.2)

  -- a step that answers nothing
  shape-open : (p' : Place K V D T A) (tables : List (ShardPairs K V)) (locks : Shown) (bs : List (Block K))
      → ((n : ℕ) → p.started ≡ Some n → p'.started ≡ Some n) → Comes bs
      → (x : Setup K V D T) (w' : State K V S D T A)
      → w' ≡ record (stepped w s p') { tables = tables; locks = locks; blocks = bs } → Shape w w' s
  shape-open p' tables locks bs started comes x w' after = subst (λ (z : State K V S D T A). Shape w z s) (sym after)
      (record {
        steps = refl;
        others = λ u ne. started-other x w s p p' at u ne;
        own = inl (record { replies = refl; own = λ n h. started-stays x w s p p' at started s.thread n h });
        new = λ i b here. let o =
            comes (record (stepped w s p') { tables = tables; locks = locks; blocks = bs }) refl i b
            here in o;
      })

-- what comes before a step and is no step of its own leaves all that
module _ {K V S D T A : Type 0} (w mid : State K V S D T A) (t : ℕ) where
  pub record IsSilent : Type 0 where
    pub steps : mid.steps ≡ w.steps
    pub replies : mid.replies ≡ w.replies
    pub blocks : mid.blocks ≡ w.blocks
    pub started : (u : ℕ) → started_of mid u ≡ started_of w u
    pub shard : shard_of mid t ≡ shard_of w t

module _ {K V S D T A : Type 0} (w mid w' : State K V S D T A) (s : Step) where
  pub shape-after : IsSilent w mid s.thread → Shape mid w' s → Shape w w' s
  shape-after h g = record {
    steps = g.steps ∙ ap (λ z. z ++ s ∷ []) h.steps;
    others = λ u ne. g.others u ne ∙ h.started u;
    own = elim g.own [
      | inl still ↦ inl (record
          { replies = still.replies ∙ h.replies; own = λ n was. still.own n (h.started s.thread ∙ was) })
      | inr last ↦ inr (record {
        reply = last.reply;
        replies = last.replies ∙ ap (λ z. z ++ last.reply ∷ []) h.replies;
        thread = last.thread;
        call = last.call ∙ ap (λ z. answered_of z s.thread) h.replies;
        start = sym (h.started s.thread) ∙ last.start;
        end = last.end ∙ ap (λ z. length z + 1) h.steps;
      })
    ];
    new = λ i b at. elim (g.new i b at) [
      | inl was ↦ inl (was.0, ap (λ z. slice_get z i) (sym h.blocks) ∙ was.1)
      | inr is ↦ inr (record {
        thread = is.thread;
        position = is.position ∙ ap (λ z. length z + 1) h.steps;
        visit = elim is.visit [ inl none ↦ inl none | inr here ↦ inr (here ∙ h.shard) ];
      })
    ];
  }

module _ {K V S D T A : Type 0} (w : State K V S D T A) (t : ℕ) (mid : State K V S D T A) where
  silent-locks : (locks : Shown) → mid ≡ record w { locks = locks } → IsSilent w mid t
  silent-locks locks same = subst (λ (z : State K V S D T A). IsSilent w z t) (sym same)
      (record { steps = refl; replies = refl; blocks = refl; started = λ u. refl; shard = refl })

  silent-placed : (p p' : Place K V D T A) (locks : Shown) → slice_get w.places t ≡ Some p → p'.started ≡ p.started
      → p'.shard ≡ p.shard → mid ≡ record w { places = slice_set w.places t p'; locks = locks } → IsSilent w mid t
  silent-placed p p' locks at started shard same = subst (λ (z : State K V S D T A). IsSilent w z t) (sym same)
      (record {
        steps = refl;
        replies = refl;
        blocks = refl;
        started = λ u. elim (cases_eq u t) [
          | inl own ↦ ap (λ v. option_and_then (λ q. q.started) (slice_get (slice_set w.places t p') v)) own
              ∙ ap (λ o. option_and_then (λ (q : Place K V D T A). q.started) o) here
              ∙ started
              ∙ sym (ap (λ v. started_of w v) own ∙ ap (λ o. option_and_then (λ (q : Place K V D T A). q.started) o) at)
          | inr ne ↦ ap (λ o. option_and_then (λ (q : Place K V D T A). q.started) o)
              (slice_get-set_other w.places t u p' (λ e. ne (sym e)))
        ];
        shard = ap (λ o. option_map_or (λ (q : Place K V D T A). q.shard) o 0) here ∙ shard
            ∙ sym (ap (λ o. option_map_or (λ (q : Place K V D T A). q.shard) o 0) at);
      })
    where
      here : slice_get (slice_set w.places t p') t ≡ Some p'
      here = slice_get-set_same w.places t p p' at

  pub silent-enters : (mid ≡ w) ⊎ Enters w t mid → IsSilent w mid t
  silent-enters h = elim h
      [ inl same ↦ silent-locks w.locks same | inr e ↦ silent-placed e.place _ e.locks e.stands refl refl e.after ]

  pub silent-reaches : Reaches w t mid → IsSilent w mid t
  silent-reaches e = silent-placed e.place _ e.locks e.stands refl refl e.after

  pub silent-parts : (mid ≡ w) ⊎ Reaches w t mid → IsSilent w mid t
  silent-parts h = elim h [ inl same ↦ silent-locks w.locks same | inr e ↦ silent-reaches e ]

  pub silent-leaves : (mid ≡ w) ⊎ LeavesLock w t mid → IsSilent w mid t
  silent-leaves h = elim h [ inl same ↦ silent-locks w.locks same | inr e ↦ silent-locks e.locks e.after ]

  pub silent-let_in : (mid ≡ w) ⊎ (Reaches w t mid ⊎ LeavesLock w t mid) → IsSilent w mid t
  silent-let_in h = elim h [
    | inl same ↦ silent-locks w.locks same
    | inr more ↦ elim more [ inl e ↦ silent-reaches e | inr e ↦ silent-locks e.locks e.after ]
  ]

  concluded : Concludes w t mid → IsSilent w mid t
  concluded (owed e) = silent-locks e.locks e.after
  concluded (locked e) = silent-placed e.place _ e.locks e.stands refl refl e.after
  concluded (idle e) = silent-placed e.place _ w.locks e.stands refl refl e.after

  pub silent-concludes : (mid ≡ w) ⊎ Concludes w t mid → IsSilent w mid t
  silent-concludes h = elim h [ inl same ↦ silent-locks w.locks same | inr e ↦ concluded e ]

module _ {K V S D T A : Type 0} (x : Setup K V D T) (w : State K V S D T A) (s : Step) (w' : State K V S D T A)
    (sound : Sound x w) where
  shape-answers : Answers x w s w' → Shape w w' s
  shape-answers a =
      let p = a.place in
      let p' : Place K V D T A =
      record p {
        next = p.next + 1;
        started = None;
        block = if p.closes then None else p.block;
        visits = [];
        count = 0;
        phase = phase.Rest;
      } in
      let r : Reply K V T A =
      record { thread = s.thread; call = p.next; start = a.start; end = next_step w; answer = a.answer } in
      let st = sound.stands s.thread p a.stands in
      let e = ended-call x w.blocks a.blocks s.thread p st.own_block st.own_visits st.owns (next_step w) a.ended in
      subst (λ (z : State K V S D T A). Shape w z s) (sym a.after) (record {
        steps = refl;
        others = λ u ne. started-other x w s p p' a.stands u ne;
        own = inr (record {
          reply = r;
          replies = refl;
          thread = refl;
          call = st.answered;
          start = started-was x w s p p' a.stands ∙ a.begun;
          end = refl;
        });
        new = λ i b at. let o = alike-was s.thread p.next (next_step w) w.blocks a.blocks e.0 i b at in inl (o.0, o.1);
      })

  shape-finds : Finds x w s w' → Shape w w' s
  shape-finds h = shape-open w s h.place h.stands _ w.tables w.locks h.blocks (λ n e. e)
      (comes-listed w s h.place h.stands h.done h.blocks h.listed) x w' h.after

  shape-gives : (from to : Walk D → Phase K V D T A) → GivesBack x w s w' from to → Shape w w' s
  shape-gives from to h = shape-open w s h.place h.stands _ w.tables h.locks w.blocks (λ n e. e)
      (comes-same w s h.place h.stands w.blocks refl) x w' h.after

  shape-starts_visit : StartsVisit x w s w' → Shape w w' s
  shape-starts_visit h = shape-open w s h.place h.stands _ w.tables h.locks w.blocks (λ n e. e)
      (comes-same w s h.place h.stands w.blocks refl) x w' h.after

  shape-looks : LooksAround x w s w' ⊎ IsRefusedVisit x w s w' → Shape w w' s
  shape-looks h = elim h [
    | inl look ↦ shape-open w s look.place look.stands _ (slice_set w.tables look.place.shard look.behind) w.locks
        (w.blocks ++ look.block ∷ []) (λ n e. e)
        (comes-push w s look.place look.stands look.block look.listed.thread look.listed.position
        (inr look.listed.visit)) x w' look.after
    | inr no_ ↦ shape-open w s no_.place no_.stands _ w.tables w.locks w.blocks (λ n e. e)
        (comes-same w s no_.place no_.stands w.blocks refl) x w' no_.after
  ]

module _ {K V S D T A : Type 0} (x : Setup K V D T) (w : State K V S D T A) (s : Step) (w' : State K V S D T A)
    (sound : Sound x w) where
  counted : (p : Place K V D T A) (at : slice_get w.places s.thread ≡ Some p) (p' : Place K V D T A)
      (tables : List (ShardPairs K V)) (locks : Shown) (bs : List (Block K)) (o : Option ℕ)
      → CountsCall w.blocks o p.next bs → ((n : ℕ) → p.started ≡ Some n → p'.started ≡ Some n)
      → w' ≡ record (stepped w s p') { tables = tables; locks = locks; blocks = bs } → Shape w w' s
  counted p at p' tables locks bs o counts started after = shape-open w s p at p' tables locks bs started
      (comes-counted w s p at o p.next bs counts) x w' after

  still : (p : Place K V D T A) (at : slice_get w.places s.thread ≡ Some p) (p' : Place K V D T A) (locks : Shown)
      → ((n : ℕ) → p.started ≡ Some n → p'.started ≡ Some n) → w' ≡ record (stepped w s p') { locks = locks }
      → Shape w w' s
  still p at p' locks started after = shape-open w s p at p' w.tables locks w.blocks started
      (comes-same w s p at w.blocks refl) x w' after

  own-shape : IsOwnStep x w s w' → Shape w w' s
  own-shape (start h) = counted h.place h.stands _ w.tables h.locks h.blocks _ h.counted
      (λ n e. absurd (none-some n
      (sym (claim-at x (threads_of w) w.blocks w.replies w.tables s.thread h.place phase.Rest h.before
      (sound.stands s.thread h.place h.stands)).0 ∙ e))) h.after
  own-shape (lock h) = still h.place h.stands _ h.locks (λ n e. e) h.after
  own-shape (find h) = shape-after w h.mid w' s (silent-enters w s.thread h.mid h.enters)
      (shape-finds x h.mid s w' (sound-entered x w s.thread h.mid sound h.enters) h.finds)
  own-shape (find_grows h) = shape-open w s h.place h.stands _ (slice_set w.tables h.place.shard h.grown) w.locks
      h.blocks
      (λ n e. e)
      (comes-listed w s h.place h.stands (found_done {D = D} (request_of h.call) false true) h.blocks h.listed) x w'
      h.after
  own-shape (find_refused h) = still h.place h.stands _ w.locks (λ n e. e) h.after
  own-shape (deed_appends h) = counted h.place h.stands _ (slice_set w.tables h.place.shard h.changed) w.locks h.blocks
      h.place.block h.counted (λ n e. e) h.after
  own-shape (deed_applies h) = counted h.place h.stands _ (slice_set w.tables h.place.shard h.changed) w.locks h.blocks
      h.place.block h.counted (λ n e. e) h.after
  own-shape (deed_views h) = shape-open w s h.place h.stands _ w.tables w.locks h.blocks (λ n e. e)
      (comes-listed w s h.place h.stands (Some 1) h.blocks h.listed) x w' h.after
  own-shape (deed_reads h) = counted h.place h.stands _ w.tables w.locks h.blocks h.place.block h.counted (λ n e. e)
      h.after
  own-shape (deed_changes h) = counted h.place h.stands _ (slice_set w.tables h.place.shard h.changed) w.locks h.blocks
      h.place.block h.counted (λ n e. e) h.after
  own-shape (deed_fills h) = counted h.place h.stands _ (slice_set w.tables h.place.shard h.changed) w.locks h.blocks
      h.place.block h.counted (λ n e. e) h.after
  own-shape (downgrade h) = counted h.place h.stands _ w.tables h.locks h.blocks h.place.block h.counted (λ n e. e)
      h.after
  own-shape (release h) = counted h.place h.stands _ w.tables h.locks h.blocks _ h.counted (λ n e. e) h.after
  own-shape (answers h) = shape-after w h.mid w' s (silent-concludes w s.thread h.mid h.leaves)
      (shape-answers x h.mid s w' (sound-left x w s.thread h.mid sound h.leaves) h.answers)
  own-shape (visit_starts h) = shape-after w h.mid w' s (silent-leaves w s.thread h.mid h.leaves)
      (shape-starts_visit x h.mid s w' (sound-let_go x w s.thread h.mid sound h.leaves) h.starts)
  own-shape (visit_parts h) = shape-after w h.mid w' s (silent-parts w s.thread h.mid h.enters)
      (shape-gives x h.mid s w'
      (elim h.enters [
        | inl same ↦ subst (Sound x) (sym same) sound
        | inr e ↦ sound-reaches x w s.thread h.mid sound
            e
      ]) _ _ h.gives)
  own-shape (visit_looks h) = shape-after w h.mid w' s (silent-let_in w s.thread h.mid h.enters)
      (shape-looks x h.mid s w' (sound-let_in x w s.thread h.mid sound h.enters) h.looks)
  own-shape (visit_seeks h) = still h.place h.stands _ w.locks (λ n e. e) h.after
  own-shape (visit_does h) = shape-open w s h.place h.stands _ (slice_set w.tables h.place.shard h.changed) w.locks
      (slice_set w.blocks h.index h.grown) (λ n e. e)
      (comes-set w s h.place h.stands h.index h.block h.grown h.listed) x w' h.after
  own-shape (visit_gives h) = shape-gives x w s w' sound _ _ h

  pub shape : IsStep x w s w' → Shape w w' s
  shape (by_itself its h) = own-shape h
  shape (by_deadline its h) = still h.place h.stands _ h.locks (λ n e. e) h.after
