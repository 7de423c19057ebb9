-- A step only adds, and never changes what a world was made with.
use Rattle.std.proofs.Common.{◌≡◌, ℕ, zero, suc, ◌+◌, ◌-◌, ◌≤◌, ◌⊎◌, inl, inr, ⊎_elim, true, false, if◌then◌else◌, List}
use Rattle.std.proofs.Common.{[], ◌∷◌, ◌++◌, length, map, Option, Some, None, is_some, slice_get, slice_set, refl, ap}
use Rattle.std.proofs.Common.{sym, ◌∙◌, subst, arith, append_assoc}
use Rattle.std.proofs.Math.ListN.{length-set}
use Rattle.std.proofs.lemmas.List.{append-nil}
use Rattle.std.proofs.lemmas.Option.{same_Some, none-some}
use Rattle.std.proofs.lemmas.Bool.{cases_eq}
use Rattle.mapworld_calls.specs.declared.ask.Ask.{Ask}
use Rattle.mapworld_calls.specs.declared.ask.Ask.TheVariants as ask
use Rattle.mapworld_calls.specs.declared.ask.Walk.{Walk}
use Rattle.mapworld_calls.specs.declared.block.Block.{Block}
use Rattle.mapworld_calls.specs.declared.reply.Reply.{Reply}
use Rattle.mapworld_calls.specs.Setup.{Setup}
use Rattle.mapworld_calls.specs.Placed.{answered_of, IsSessionDone, IsDoneWithin, StaysListed, IsStillListed, OnlyAdds}
use Rattle.mapworld_calls.specs.Placed.{WellPlaced}
use Rattle.mapworld_calls.proofs.Lists.{slice_get-set_same, slice_get-set_other, slice_get-push_below}
use Rattle.mapworld_state.specs.Locks.Views.{Shown}
use Rattle.mapworld_state.specs.declared.step.Step.{Step}
use Rattle.mapworld_state.specs.declared.place.Phase.{Phase}
use Rattle.mapworld_state.specs.Places.{Place}
use Rattle.mapworld_state.specs.State.{State, threads_of, started_of, next_step}
use Rattle.mapworld_state.specs.Moves.{start_phase, start_counts, request_of, found_done, stepped, ListsBlock}
use Rattle.mapworld_state.specs.Moves.{CountsCall, EndsCall}
use Rattle.mapworld_state.specs.Steps.{IsStep, by_itself, by_deadline}
use Rattle.mapworld_state.specs.Steps.{Finds, Answers, Concludes, owed, locked, idle, Reaches, Leaves as LeavesLock}
use Rattle.mapworld_state.specs.Steps.{GivesBack, StartsVisit, LooksAround, IsRefusedVisit, DoesItem, IsOwnStep, start}
use Rattle.mapworld_state.specs.Steps.{lock, find, find_grows, find_refused, deed_appends, deed_applies, deed_views}
use Rattle.mapworld_state.specs.Steps.{deed_reads, deed_changes, deed_fills, downgrade, release, answers, visit_starts}
use Rattle.mapworld_state.specs.Steps.{visit_parts, visit_looks, visit_seeks, visit_does, visit_gives}
use Rattle.mapworld_state.specs.Running.{StaysFixed}
use Rattle.mapworld_state.specs.Sound.{Sound}
use Rattle.mapworld_state.proofs.Owning.{if-own, starts-own}
use Rattle.mapworld_state.proofs.InvariantFacts.Building.{map-push, reply-below}
use Rattle.mapworld_state.proofs.InvariantFacts.Alike.{alike-comes}
use Rattle.mapworld_state.proofs.InvariantFacts.Admitting.{sound-entered}
use Rattle.mapworld_state.proofs.InvariantFacts.Concluding.{sound-left}
use Rattle.mapworld_state.proofs.InvariantFacts.Walking.{sound-let_in, sound-let_go}
use Rattle.mapworld_state.proofs.InvariantFacts.Ending.{ended-call}

abbrev pub BlocksStay : {K : Type 0} → List (Block K) → List (Block K) → Type 0
BlocksStay {K} bs bs' = (i : ℕ) (b : Block K) → slice_get bs i ≡ Some b → IsStillListed bs' i b

stays : {K : Type 0} (b : Block K) → StaysListed b b
stays b = record {
  thread = refl;
  call = refl;
  visit = refl;
  start = refl;
  position = refl;
  done = omega arith;
  visited = ([], sym (append-nil b.visited.items));
  end = λ e h. h;
}

stays-on : {K : Type 0} (b c d : Block K) → StaysListed b c → StaysListed c d → StaysListed b d
stays-on b c d f g = record {
  thread = g.thread ∙ f.thread;
  call = g.call ∙ f.call;
  visit = g.visit ∙ f.visit;
  start = g.start ∙ f.start;
  position = g.position ∙ f.position;
  done = let le = f.done in let le' = g.done in omega arith;
  visited = (
    f.visited.0 ++ g.visited.0,
    g.visited.1 ∙ ap (λ ks. ks ++ g.visited.0) f.visited.1 ∙ append_assoc b.visited.items f.visited.0 g.visited.0,
  );
  end = λ e here. g.end e (f.end e here);
}

module _ {K : Type 0} (bs bs' : List (Block K)) where
  blocks-same : bs' ≡ bs → BlocksStay bs bs'
  blocks-same same i b at = record { block = b; listed = ap (λ z. slice_get z i) same ∙ at; stays = stays b }

  blocks-push : (d : Block K) → bs' ≡ bs ++ d ∷ [] → BlocksStay bs bs'
  blocks-push d same i b at =
      record { block = b; listed = ap (λ z. slice_get z i) same ∙ slice_get-push_below bs i b d at; stays = stays b }

  blocks-set : (i : ℕ) (b c : Block K) → slice_get bs i ≡ Some b → StaysListed b c → bs' ≡ slice_set bs i c
      → BlocksStay bs bs'
  blocks-set i b c listed more same j e at = ⊎_elim
      (λ here.
      let its : e ≡ b = same_Some e b (sym at ∙ ap (λ k. slice_get bs k) (sym here) ∙ listed) in
      record {
        block = c;
        listed = ap (λ z. slice_get z j) same ∙ ap (λ k. slice_get (slice_set bs i c) k) (sym here)
            ∙ slice_get-set_same bs i b c listed;
        stays = subst (λ (z : Block K). StaysListed z c) (sym its) more;
      })
      (λ ne. record {
        block = e;
        listed = ap (λ z. slice_get z j) same ∙ slice_get-set_other bs i j c ne ∙ at;
        stays = stays e;
      })
      (cases_eq i j)

-- no block has done more than its calls so far
done-below : {K V D T A : Type 0} (x : Setup K V D T) (steps : List ℕ) (started : ℕ → Option ℕ) (bs : List (Block K))
    (replies : List (Reply K V T A)) → WellPlaced x steps started bs replies
    → (i : ℕ) (b : Block K) → slice_get bs i ≡ Some b → b.done.value ≤ answered_of replies b.thread - b.call + 1
done-below {K} {V} {D} x steps started bs replies h i b at = let g = h.placed i b at in below g.ask g.done
  where
    last : (n : ℕ) → b.done.value ≡ n → IsSessionDone x started replies b → n ≤ answered_of replies b.thread - b.call +
        1
    last zero e s = omega arith
    last (suc zero) e s = omega arith
    last (suc (suc n)) e s =
        let o = s.calls (suc n) (omega arith) (omega (arith, e)) in
        elim o.begun [ inl under ↦ omega arith | inr now ↦ let k = now.0 in omega arith ]

    below : (a : Ask K V D) → IsDoneWithin x started bs replies i b a → b.done.value ≤ answered_of replies b.thread -
        b.call + 1
    below (ask.Keyed k) s = let le = s.0.once in omega arith
    below (ask.Begin g) s = last b.done.value refl s.0
    below (ask.Held g) s = absurd s
    below (ask.Walk f) s = let none = s.1 in omega arith

module _ {K V S D T A : Type 0} (x : Setup K V D T) (w : State K V S D T A) (sound : Sound x w) (t : ℕ)
    (p : Place K V D T A) (at : slice_get w.places t ≡ Some p) where
  own : (i : ℕ) (b : Block K) → p.block ≡ Some i → slice_get w.blocks i ≡ Some b → b.thread ≡ t
  own i b mine listed = let o = (sound.stands t p at).own_block i mine in
      ap (λ z. z.thread) (same_Some b o.0 (sym listed ∙ o.1)) ∙ o.2

  counts-more : (i : ℕ) (b : Block K) → p.block ≡ Some i → slice_get w.blocks i ≡ Some b
      → b.done.value ≤ p.next - b.call + 1
  counts-more i b mine listed =
      let le = done-below x (threads_of w) (started_of w) w.blocks w.replies sound.placed i b listed in
      let n : answered_of w.replies b.thread ≡ p.next = ap (answered_of w.replies) (own i b mine listed)
      ∙ sym (sound.stands t p at).answered in
      subst (λ (z : ℕ). b.done.value ≤ z - b.call + 1) n le

  pub counted-stays : (o : Option ℕ) (bs' : List (Block K)) → ((i : ℕ) → o ≡ Some i → p.block ≡ Some i)
      → CountsCall w.blocks o p.next bs' → BlocksStay w.blocks bs'
  counted-stays None bs' mine h = blocks-same w.blocks bs' h
  counted-stays (Some i) bs' mine h =
      blocks-set w.blocks bs' i h.0 h.1 h.2
      (record {
        thread = h.3.thread;
        call = h.3.call;
        visit = h.3.visit;
        visited = ([], h.3.visited ∙ sym (append-nil h.0.visited.items));
        start = h.3.start;
        position = h.3.position;
        done = rw h.3.done (counts-more i h.0 (mine i refl) h.2);
        end = λ e here. h.3.end ∙ here;
      })
      h.4

  pub listed-stays : (o : Option ℕ) (bs' : List (Block K)) → ListsBlock w t p o bs' → BlocksStay w.blocks bs'
  listed-stays None bs' h = blocks-same w.blocks bs' h
  listed-stays (Some n) bs' h = blocks-push w.blocks bs' h.0 h.2

  -- the call that a thread is in shows no end
  no-end : (i : ℕ) (b : Block K) → b.thread ≡ t → slice_get w.blocks i ≡ Some b → b.call ≡ p.next → b.end ≡ None
  no-end i b own listed call = elim (sound.placed.placed i b listed).shown [
    | inl old ↦ absurd (
        let lt = reply-below x (threads_of w) (started_of w) w.blocks w.replies sound.placed old.place old.reply
        old.listed in
        let n : answered_of w.replies old.reply.thread ≡ p.next = ap (answered_of w.replies) (old.thread ∙ own)
        ∙ sym (sound.stands t p at).answered in
        let k = old.call in omega (arith, call))
    | inr now ↦ now.end
  ]

  pub ended-stays : (n : ℕ) (bs' : List (Block K)) → EndsCall w.blocks p.block p.visits p.next n bs'
      → BlocksStay w.blocks bs'
  ended-stays n bs' h i b listed =
      let st = sound.stands t p at in
      let e = ended-call x w.blocks bs' t p st.own_block st.own_visits st.owns n h in
      let c = alike-comes t p.next n w.blocks bs' e.0 i b listed in
      record {
        block = c.0;
        listed = c.1;
        stays = record {
          thread = c.2.thread;
          call = c.2.call;
          visit = c.2.visit;
          start = c.2.start;
          position = c.2.position;
          done = rw c.2.done (omega arith);
          visited = ([], c.2.visited ∙ sym (append-nil b.visited.items));
          end = λ k was. elim c.2.ended [
            | inl now ↦ absurd (none-some k (sym (no-end i b now.0 listed now.1) ∙ was))
            | inr same ↦ ap (λ z. z.end) same ∙ was
          ];
        };
      }

-- what one step leaves of what was there
pub record Step-adds {K V S D T A : Type 0} (w w' : State K V S D T A) (s : Step) : Type 0 where
  pub steps : w'.steps ≡ w.steps ++ s ∷ []
  pub blocks : BlocksStay w.blocks w'.blocks
  pub replies : (more : List (Reply K V T A)) × (w'.replies ≡ w.replies ++ more)
  pub fixed : StaysFixed w w'

module _ {K V S D T A : Type 0} (w : State K V S D T A) (s : Step) (w' : State K V S D T A) where
  fixed-by : (p : Place K V D T A) (tables : _) (locks : Shown) (bs : List (Block K)) (rs : List (Reply K V T A))
      → length tables ≡ length w.tables
      → w' ≡ record (stepped w s p) { tables = tables; locks = locks; blocks = bs; replies = rs }
      → BlocksStay w.blocks bs → (more : List (Reply K V T A)) × (rs ≡ w.replies ++ more) → Step-adds w w' s
  fixed-by p tables locks bs rs shards after blocks more = subst (λ (z : State K V S D T A). Step-adds w z s)
      (sym after) (record {
        steps = refl;
        blocks = blocks;
        replies = more;
        fixed = record { hasher = refl; shards = shards; opening = refl; programs = refl };
      })

nothing : {K V S D T A : Type 0} (w : State K V S D T A) → (more : List (Reply K V T A))
    × (w.replies ≡ w.replies ++ more)
nothing w = ([], sym (append-nil w.replies))

-- what comes before a step and is no step of its own adds nothing
silent-adds : {K V S D T A : Type 0} (w mid w' : State K V S D T A) (s : Step) (places : List (Place K V D T A))
    (locks : Shown) → mid ≡ record w { places = places; locks = locks } → Step-adds mid w' s → Step-adds w w' s
silent-adds {K} {V} {S} {D} {T} {A} w mid w' s places locks is =
    subst (λ (z : State K V S D T A). Step-adds z w' s → Step-adds w w' s) (sym is) (λ g. record {
      steps = g.steps;
      blocks = g.blocks;
      replies = g.replies;
      fixed = record {
        hasher = g.fixed.hasher;
        shards = g.fixed.shards;
        opening = g.fixed.opening;
        programs = g.fixed.programs;
      };
    })

-- an admission of a walk, and what was owed to a lock
reached-adds : {K V S D T A : Type 0} (w mid w' : State K V S D T A) (s : Step) → Reaches w s.thread mid
    → Step-adds mid w' s → Step-adds w w' s
reached-adds w mid w' s e = silent-adds w mid w' s _ e.locks e.after

left-adds : {K V S D T A : Type 0} (w mid w' : State K V S D T A) (s : Step) → (mid ≡ w) ⊎ LeavesLock w s.thread mid
    → Step-adds mid w' s → Step-adds w w' s
left-adds w mid w' s h g =
    elim h [
      | inl same ↦ silent-adds w mid w' s w.places w.locks same g
      | inr e ↦ silent-adds w mid w' s w.places e.locks
          e.after g
    ]

let-in_adds : {K V S D T A : Type 0} (w mid w' : State K V S D T A) (s : Step) → (mid ≡ w)
    ⊎ (Reaches w s.thread mid ⊎ LeavesLock w s.thread mid) → Step-adds mid w' s → Step-adds w w' s
let-in_adds w mid w' s h g = elim h [
  | inl same ↦ left-adds w mid w' s (inl same) g
  | inr more ↦ elim more [ inl e ↦ reached-adds w mid w' s e g | inr e ↦ left-adds w mid w' s (inr e) g ]
]

concluded-adds : {K V S D T A : Type 0} (w mid w' : State K V S D T A) (s : Step) → Concludes w s.thread mid
    → Step-adds mid w' s → Step-adds w w' s
concluded-adds w mid w' s (owed e) = silent-adds w mid w' s w.places e.locks e.after
concluded-adds w mid w' s (locked e) = silent-adds w mid w' s _ e.locks e.after
concluded-adds w mid w' s (idle e) = silent-adds w mid w' s _ w.locks e.after

module _ {K V S D T A : Type 0} (x : Setup K V D T) (w : State K V S D T A) (s : Step) (w' : State K V S D T A)
    (sound : Sound x w) where
  found-adds : Finds x w s w' → Step-adds w w' s
  found-adds h = fixed-by w s w' _ w.tables w.locks h.blocks w.replies refl h.after
      (listed-stays x w sound s.thread h.place h.stands h.done h.blocks h.listed) (nothing w)

  -- the steps of walks
  parted-adds : (from to : Walk D → Phase K V D T A) → GivesBack x w s w' from to → Step-adds w w' s
  parted-adds from to h = fixed-by w s w' _ w.tables h.locks w.blocks w.replies refl h.after
      (blocks-same w.blocks w.blocks refl) (nothing w)

  begun-adds : StartsVisit x w s w' → Step-adds w w' s
  begun-adds h = fixed-by w s w' _ w.tables h.locks w.blocks w.replies refl h.after (blocks-same w.blocks w.blocks refl)
      (nothing w)

  looked-adds : LooksAround x w s w' → Step-adds w w' s
  looked-adds h = fixed-by w s w' _ (slice_set w.tables h.place.shard h.behind) w.locks (w.blocks ++ h.block ∷ [])
      w.replies (length-set w.tables h.place.shard h.behind) h.after
      (blocks-push w.blocks (w.blocks ++ h.block ∷ []) h.block refl) (nothing w)

  refused-adds : IsRefusedVisit x w s w' → Step-adds w w' s
  refused-adds h = fixed-by w s w' _ w.tables w.locks w.blocks w.replies refl h.after
      (blocks-same w.blocks w.blocks refl) (nothing w)

  item-adds : DoesItem x w s w' → Step-adds w w' s
  item-adds h = fixed-by w s w' _ (slice_set w.tables h.place.shard h.changed) w.locks
      (slice_set w.blocks h.index h.grown) w.replies (length-set w.tables h.place.shard h.changed) h.after
      (blocks-set w.blocks (slice_set w.blocks h.index h.grown) h.index h.block h.grown h.listed
      (record {
        thread = h.visited.thread;
        call = h.visited.call;
        visit = h.visited.visit;
        visited = (h.pair.0 ∷ [], h.visited.visited);
        start = h.visited.start;
        position = h.visited.position;
        done = rw h.visited.done (omega arith);
        end = λ e here. h.visited.end ∙ here;
      }) refl) (nothing w)

  answered-adds : Answers x w s w' → Step-adds w w' s
  answered-adds h = fixed-by w s w' _ w.tables w.locks h.blocks (w.replies ++ _ ∷ []) refl h.after
      (ended-stays x w sound s.thread h.place h.stands (next_step w) h.blocks h.ended) (_ ∷ [], refl)

module _ {K V S D T A : Type 0} (x : Setup K V D T) (w : State K V S D T A) (s : Step) (w' : State K V S D T A)
    (sound : Sound x w) where
  own-adds : IsOwnStep x w s w' → Step-adds w w' s
  own-adds (start h) = fixed-by w s w' _ w.tables h.locks h.blocks w.replies refl h.after
      (counted-stays x w sound s.thread h.place h.stands
      (start_counts (start_phase {T = T} {A = A} h.ask h.place.guard) h.place.block) h.blocks
      (λ i e. starts-own (start_phase {T = T} {A = A} h.ask h.place.guard) h.place.block i e) h.counted) (nothing w)
  own-adds (lock h) = fixed-by w s w' _ w.tables h.locks w.blocks w.replies refl h.after
      (blocks-same w.blocks w.blocks refl) (nothing w)
  own-adds (find h) =
      let g = found-adds x h.mid s w' (sound-entered x w s.thread h.mid sound h.enters) h.finds in
      elim h.enters [
        | inl same ↦ silent-adds w h.mid w' s w.places w.locks same g
        | inr e ↦ silent-adds w h.mid w' s _
            e.locks e.after g
      ]
  own-adds (find_grows h) = fixed-by w s w' _ (slice_set w.tables h.place.shard h.grown) w.locks h.blocks w.replies
      (length-set w.tables h.place.shard h.grown) h.after
      (listed-stays x w sound s.thread h.place h.stands (found_done {D = D} (request_of h.call) false true) h.blocks
      h.listed) (nothing w)
  own-adds (find_refused h) = fixed-by w s w' _ w.tables w.locks w.blocks w.replies refl h.after
      (blocks-same w.blocks w.blocks refl) (nothing w)
  own-adds (deed_appends h) = fixed-by w s w' _ (slice_set w.tables h.place.shard h.changed) w.locks h.blocks w.replies
      (length-set w.tables h.place.shard h.changed) h.after
      (counted-stays x w sound s.thread h.place h.stands h.place.block h.blocks (λ i e. e) h.counted) (nothing w)
  own-adds (deed_applies h) = fixed-by w s w' _ (slice_set w.tables h.place.shard h.changed) w.locks h.blocks w.replies
      (length-set w.tables h.place.shard h.changed) h.after
      (counted-stays x w sound s.thread h.place h.stands h.place.block h.blocks (λ i e. e) h.counted) (nothing w)
  own-adds (deed_views h) = fixed-by w s w' _ w.tables w.locks h.blocks w.replies refl h.after
      (listed-stays x w sound s.thread h.place h.stands (Some 1) h.blocks h.listed) (nothing w)
  own-adds (deed_reads h) = fixed-by w s w' _ w.tables w.locks h.blocks w.replies refl h.after
      (counted-stays x w sound s.thread h.place h.stands h.place.block h.blocks (λ i e. e) h.counted) (nothing w)
  own-adds (deed_changes h) = fixed-by w s w' _ (slice_set w.tables h.place.shard h.changed) w.locks h.blocks w.replies
      (length-set w.tables h.place.shard h.changed) h.after
      (counted-stays x w sound s.thread h.place h.stands h.place.block h.blocks (λ i e. e) h.counted) (nothing w)
  own-adds (deed_fills h) = fixed-by w s w' _ (slice_set w.tables h.place.shard h.changed) w.locks h.blocks w.replies
      (length-set w.tables h.place.shard h.changed) h.after
      (counted-stays x w sound s.thread h.place h.stands h.place.block h.blocks (λ i e. e) h.counted) (nothing w)
  own-adds (downgrade h) = fixed-by w s w' _ w.tables h.locks h.blocks w.replies refl h.after
      (counted-stays x w sound s.thread h.place h.stands h.place.block h.blocks (λ i e. e) h.counted) (nothing w)
  own-adds (release h) = fixed-by w s w' _ w.tables h.locks h.blocks w.replies refl h.after
      (counted-stays x w sound s.thread h.place h.stands (if is_some h.place.guard then h.place.block else None)
      h.blocks (λ i e. if-own (is_some h.place.guard) h.place.block i e) h.counted) (nothing w)
  own-adds (answers h) =
      let g = answered-adds x h.mid s w' (sound-left x w s.thread h.mid sound h.leaves) h.answers in
      elim h.leaves [
        | inl same ↦ silent-adds w h.mid w' s w.places w.locks same g
        | inr e ↦ concluded-adds w h.mid w' s
            e g
      ]
  own-adds (visit_starts h) = left-adds w h.mid w' s h.leaves
      (begun-adds x h.mid s w' (sound-let_go x w s.thread h.mid sound h.leaves) h.starts)
  own-adds (visit_parts h) =
      let let_in = ⊎_elim (λ same. inl same) (λ e. inr (inl e)) h.enters in
      let-in_adds w h.mid w' s let_in
      (parted-adds x h.mid s w' (sound-let_in x w s.thread h.mid sound let_in) _ _ h.gives)
  own-adds (visit_looks h) =
      let there = sound-let_in x w s.thread h.mid sound h.enters in
      let-in_adds w h.mid w' s h.enters
      (elim h.looks [
        | inl look ↦ looked-adds x h.mid s w' there look
        | inr no_ ↦ refused-adds x h.mid s w' there
            no_
      ])
  own-adds (visit_seeks h) = fixed-by w s w' _ w.tables w.locks w.blocks w.replies refl h.after
      (blocks-same w.blocks w.blocks refl) (nothing w)
  own-adds (visit_does h) = item-adds x w s w' sound h
  own-adds (visit_gives h) = parted-adds x w s w' sound _ _ h

  pub step-adds : IsStep x w s w' → Step-adds w w' s
  step-adds (by_itself its h) = own-adds h
  step-adds (by_deadline its h) = fixed-by w s w' _ w.tables h.locks w.blocks w.replies refl h.after
      (blocks-same w.blocks w.blocks refl) (nothing w)

-- what is added over a run
pub adds-none : {K V S D T A : Type 0} (w : State K V S D T A) → OnlyAdds (threads_of w) (threads_of w) w.blocks
    w.blocks w.replies w.replies
adds-none w = record {
  steps_added = ([], sym (append-nil (threads_of w)));
  blocks_stay = blocks-same w.blocks w.blocks refl;
  replies_stay = ([], sym (append-nil w.replies));
}

pub adds-more : {K V S D T A : Type 0} (v w w' : State K V S D T A) (s : Step) → OnlyAdds (threads_of v) (threads_of w)
    v.blocks w.blocks v.replies w.replies → Step-adds w w' s
    → OnlyAdds (threads_of v) (threads_of w') v.blocks w'.blocks v.replies w'.replies
adds-more v w w' s h g = record {
  steps_added = (
    h.steps_added.0 ++ s.thread ∷ [],
    ap (λ z. map (λ (q : Step). q.thread) z) g.steps ∙ map-push (λ (q : Step). q.thread) w.steps s
        ∙ ap (λ z. z ++ s.thread ∷ []) h.steps_added.1 ∙ append_assoc (threads_of v) h.steps_added.0 (s.thread ∷ []),
  );
  blocks_stay = λ i b at.
      let c = h.blocks_stay i b at in
      let d = g.blocks i c.block c.listed in
      record { block = d.block; listed = d.listed; stays = stays-on b c.block d.block c.stays d.stays };
  replies_stay = (
    h.replies_stay.0 ++ g.replies.0,
    g.replies.1 ∙ ap (λ z. z ++ g.replies.0) h.replies_stay.1
        ∙ append_assoc v.replies h.replies_stay.0 g.replies.0,
  );
}

pub fixed-more : {K V S D T A : Type 0} (v w w' : State K V S D T A) → StaysFixed v w → StaysFixed w w'
    → StaysFixed v w'
fixed-more v w w' h g =
    record {
      hasher = g.hasher ∙ h.hasher;
      shards = g.shards ∙ h.shards;
      opening = g.opening ∙ h.opening;
      programs = g.programs ∙ h.programs;
    }
