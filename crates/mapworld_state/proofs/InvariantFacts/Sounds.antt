-- Every step keeps a world sound.
use Rattle.std.proofs.Common.{◌≡◌, ℕ, ◌⊎◌, inl, inr, ap}
use Rattle.mapworld_calls.specs.Setup.{Setup, Laws}
use Rattle.mapworld_state.specs.declared.step.Step.{Step}
use Rattle.mapworld_state.specs.State.{State}
use Rattle.mapworld_state.specs.Steps.{Concludes, owed, locked, idle, Enters, IsOwnStep, IsStep, by_itself, by_deadline}
use Rattle.mapworld_state.specs.Steps.{start, lock, find, find_grows}
use Rattle.mapworld_state.specs.Steps.{find_refused, deed_appends, deed_applies, deed_views, deed_reads, deed_changes}
use Rattle.mapworld_state.specs.Steps.{deed_fills, downgrade, release, answers, visit_starts, visit_parts, visit_looks}
use Rattle.mapworld_state.specs.Steps.{visit_seeks, visit_does, visit_gives}
use Rattle.mapworld_state.specs.Sound.{Sound}
use Rattle.mapworld_state.proofs.InvariantFacts.Building.{Goes, goes-from}
use Rattle.mapworld_state.proofs.InvariantFacts.Starting.{sound-starts}
use Rattle.mapworld_state.proofs.InvariantFacts.Admitting.{sound-entered, sound-expires, sound-moves, sound-refused}
use Rattle.mapworld_state.proofs.InvariantFacts.Concluding.{sound-left}
use Rattle.mapworld_state.proofs.InvariantFacts.Looking.{sound-looks}
use Rattle.mapworld_state.proofs.InvariantFacts.Doing.{sound-does}
use Rattle.mapworld_state.proofs.InvariantFacts.Walking.{sound-goes_on, sound-parts, sound-seeks, sound-gives_back}
use Rattle.mapworld_state.proofs.InvariantFacts.Finding.{sound-finds, sound-grows, sound-views}
use Rattle.mapworld_state.proofs.InvariantFacts.Acting.{sound-appends, sound-applies}
use Rattle.mapworld_state.proofs.InvariantFacts.Reading.{sound-reads, sound-releases}
use Rattle.mapworld_state.proofs.InvariantFacts.Changing.{sound-changes, sound-fills}
use Rattle.mapworld_state.proofs.InvariantFacts.Sharing.{sound-downgrades}
use Rattle.mapworld_state.proofs.InvariantFacts.Answering.{sound-answers}

-- no block is another in the worlds between
entered-blocks : {K V S D T A : Type 0} (w : State K V S D T A) (t : ℕ) (mid : State K V S D T A) → (mid ≡ w)
    ⊎ Enters w t mid → mid.blocks ≡ w.blocks
entered-blocks w t mid h = elim h [ inl same ↦ ap (λ z. z.blocks) same | inr e ↦ ap (λ z. z.blocks) e.after ]

left-blocks : {K V S D T A : Type 0} (w : State K V S D T A) (t : ℕ) (mid : State K V S D T A) → (mid ≡ w)
    ⊎ Concludes w t mid → mid.blocks ≡ w.blocks
left-blocks w t mid h = elim h [ inl same ↦ ap (λ z. z.blocks) same | inr e ↦ concluded e ]
  where
    concluded : Concludes w t mid → mid.blocks ≡ w.blocks
    concluded (owed e) = ap (λ z. z.blocks) e.after
    concluded (locked e) = ap (λ z. z.blocks) e.after
    concluded (idle e) = ap (λ z. z.blocks) e.after

own-goes : {K V S D T A : Type 0} (x : Setup K V D T) → Laws x
    → (w : State K V S D T A) (s : Step) (w' : State K V S D T A) → Sound x w → IsOwnStep x w s w'
    → Goes x s.thread w w'
own-goes x laws w s w' sound (start h) = sound-starts x laws w s w' sound h
own-goes x laws w s w' sound (lock h) = sound-moves x w s w' sound h
own-goes x laws w s w' sound (find h) =
    goes-from x s.thread w h.mid w' (entered-blocks w s.thread h.mid h.enters)
    (sound-finds x laws h.mid s (sound-entered x w s.thread h.mid sound h.enters) w' h.finds)
own-goes x laws w s w' sound (find_grows h) = sound-grows x laws w s sound w' h
own-goes x laws w s w' sound (find_refused h) = sound-refused x laws w s w' sound h
own-goes x laws w s w' sound (deed_appends h) = sound-appends x laws w s w' sound h
own-goes x laws w s w' sound (deed_applies h) = sound-applies x laws w s w' sound h
own-goes x laws w s w' sound (deed_views h) = sound-views x laws w s sound w' h
own-goes x laws w s w' sound (deed_reads h) = sound-reads x laws w s w' sound h
own-goes x laws w s w' sound (deed_changes h) = sound-changes x laws w s w' sound h
own-goes x laws w s w' sound (deed_fills h) = sound-fills x laws w s w' sound h
own-goes x laws w s w' sound (downgrade h) = sound-downgrades x laws w s w' sound h
own-goes x laws w s w' sound (release h) = sound-releases x laws w s w' sound h
own-goes x laws w s w' sound (answers h) =
    goes-from x s.thread w h.mid w' (left-blocks w s.thread h.mid h.leaves)
    (sound-answers x laws h.mid s w' (sound-left x w s.thread h.mid sound h.leaves) h.answers)
own-goes x laws w s w' sound (visit_starts h) = sound-goes_on x w s w' sound h
own-goes x laws w s w' sound (visit_parts h) = sound-parts x w s w' sound h
own-goes x laws w s w' sound (visit_looks h) = sound-looks x laws w s w' sound h
own-goes x laws w s w' sound (visit_seeks h) = sound-seeks x w s w' sound h
own-goes x laws w s w' sound (visit_does h) = sound-does x laws w s w' sound h
own-goes x laws w s w' sound (visit_gives h) = sound-gives_back x w s w' sound h

pub step-goes : {K V S D T A : Type 0} (x : Setup K V D T) → Laws x
    → (w : State K V S D T A) (s : Step) (w' : State K V S D T A) → Sound x w → IsStep x w s w' → Goes x s.thread w w'
step-goes x laws w s w' sound (by_itself its h) = own-goes x laws w s w' sound h
step-goes x laws w s w' sound (by_deadline its h) = sound-expires x w s w' sound h

pub sound-step : {K V S D T A : Type 0} (x : Setup K V D T) → Laws x
    → (w : State K V S D T A) (s : Step) (w' : State K V S D T A) → Sound x w → IsStep x w s w' → Sound x w'
sound-step x laws w s w' sound step = (step-goes x laws w s w' sound step).sound
