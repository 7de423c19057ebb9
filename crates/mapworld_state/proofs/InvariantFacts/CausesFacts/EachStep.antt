-- Each kind of step leaves its thread on shards of its call.
use Rattle.std.proofs.Common.{◌≡◌, ℕ, zero, suc, ◌⊎◌, inl, inr, true, false, List, [], ◌∷◌, ◌++◌, length, Some}
use Rattle.std.proofs.Common.{slice_get, slice_set, refl, sym, ap, ◌∙◌, subst}
use Rattle.std.proofs.lemmas.Option.{same_Some}
use Rattle.parking_lot_machine_calls.specs.declared.calls.LockCall.TheVariants as call
use Rattle.mapworld_calls.specs.declared.ask.Walk.{Walk}
use Rattle.mapworld_calls.specs.Setup.{Setup}
use Rattle.mapworld_state.specs.Locks.Fits.{LocksFit}
use Rattle.mapworld_state.specs.declared.holds.Hold.{Hold}
use Rattle.mapworld_state.specs.declared.holds.Mode.TheVariants.{Shared}
use Rattle.mapworld_state.specs.declared.place.Phase.{Phase}
use Rattle.mapworld_state.specs.declared.place.Phase.TheVariants as phase
use Rattle.mapworld_state.specs.declared.step.Step.{Step}
use Rattle.mapworld_state.specs.Holds.{gives_up}
use Rattle.mapworld_calls.specs.declared.block.Block.{Block}
use Rattle.mapworld_state.specs.Moves.{ends_guard, request_of, stepped}
use Rattle.mapworld_state.specs.Shards.{ShardPairs}
use Rattle.mapworld_state.specs.Places.{Place}
use Rattle.mapworld_state.specs.Sound.{Sound}
use Rattle.mapworld_state.specs.State.{State}
use Rattle.mapworld_state.specs.Steps.{IsStep, by_itself, by_deadline}
use Rattle.mapworld_state.specs.Steps.{Enters, Reaches, Leaves as LeavesLock, Finds, GivesBack, LooksAround}
use Rattle.mapworld_state.specs.Steps.{IsRefusedVisit, IsOwnStep, start, lock, find, find_grows, find_refused}
use Rattle.mapworld_state.specs.Steps.{deed_appends, deed_applies, deed_views, deed_reads, deed_changes, deed_fills}
use Rattle.mapworld_state.specs.Steps.{downgrade, release, answers, visit_starts, visit_parts, visit_looks, visit_seeks}
use Rattle.mapworld_state.specs.Steps.{visit_does, visit_gives}
use Rattle.mapworld_state.proofs.InvariantFacts.Adding.{Step-adds}
use Rattle.mapworld_state.proofs.InvariantFacts.Building.{Goes}
use Rattle.mapworld_state.specs.Invariant.Causes.Causes.{HasCauses, IsTold}
use Rattle.mapworld_state.proofs.InvariantFacts.CausesFacts.Between.{Between, between-at, between-enters}
use Rattle.mapworld_state.proofs.InvariantFacts.CausesFacts.Between.{between-leaves, between-reaches, between-same}
use Rattle.mapworld_state.proofs.InvariantFacts.CausesFacts.Going.{Own, own-gives, own-quiet}
use Rattle.mapworld_state.proofs.InvariantFacts.CausesFacts.OwnSteps.{gives-no_deadline, gives-no_try, out-at}
use Rattle.mapworld_state.proofs.InvariantFacts.CausesFacts.OwnSteps.{own-answers}
use Rattle.mapworld_state.proofs.InvariantFacts.CausesFacts.OwnSteps.{own-goes_on}
use Rattle.mapworld_state.proofs.InvariantFacts.CausesFacts.OwnSteps.{own-moves, own-starts}
use Rattle.mapworld_state.proofs.InvariantFacts.CausesFacts.Shapes.{Shape}
use Rattle.mapworld_state.proofs.InvariantFacts.CausesFacts.Telling.{told-changed, told-found, told-held, told-keyed}
use Rattle.mapworld_state.proofs.InvariantFacts.CausesFacts.Telling.{told-leads}
use Rattle.std.proofs.Common.{Option}
use Rattle.std.proofs.Common.{None}
use Rattle.mapworld_state.specs.Locks.Stands.{Stand, stand_in}
use Rattle.mapworld_state.specs.Held.{StandsBefore}
use Rattle.mapworld_state.proofs.InvariantFacts.CausesFacts.OwnSteps.{own-expires}

-- the holds behind the first are holds
behind : (holds : List Hold) (hold : Hold) (more : List Hold) → holds ≡ hold ∷ more → (i : ℕ) (h : Hold)
    → slice_get more i ≡ Some h → (j : ℕ) × (k : Hold) × (slice_get holds j ≡ Some k) × (k.shard ≡ h.shard)
behind holds hold more has i h here = (suc i, h, ap (λ z. slice_get z (suc i)) has ∙ here, refl)

-- and so are those where the first is shared now
turned : (holds : List Hold) (hold : Hold) (more : List Hold) → holds ≡ hold ∷ more → (i : ℕ) (h : Hold)
    → slice_get (record hold { mode = Shared } ∷ more) i ≡ Some h → (j : ℕ) × (k : Hold) × (slice_get holds j ≡ Some k)
    × (k.shard ≡ h.shard)
turned holds hold more has zero h here = (0, hold, ap (λ z. slice_get z 0) has, ap (λ z. z.shard) (same_Some _ h here))
turned holds hold more has (suc i) h here = (suc i, h, ap (λ z. slice_get z (suc i)) has ∙ here, refl)

module _ {K V S D T A : Type 0} (x : Setup K V D T) (w : State K V S D T A) (s : Step) (w' : State K V S D T A)
    (sound : Sound x w) (goes : Goes x s.thread w w') (shape : Shape w w' s) (adds : Step-adds w w' s)
    (causes : HasCauses x w) where
  abbrev t : ℕ
  t = s.thread

  abbrev Blind : State K V S D T A → Type 0
  Blind v = stand_in v.locks t ≡ None

  -- it is in no call
  blind : (v : State K V S D T A) → Sound x v → (p : Place K V D T A) → slice_get v.places t ≡ Some p
      → (f : Phase K V D T A) → p.phase ≡ f → ((o : Option Stand) → StandsBefore p f o → o ≡ None) → Blind v
  blind v there p at f is out = out-at x w s w' sound goes shape adds causes v there p at f is out

  out-blind : (v : State K V S D T A) → stand_in v.locks t ≡ None → Blind v
  out-blind v out = out

  own-finds : (v : State K V S D T A) (p q : Place K V D T A) → Between x t w v p q → Finds x v s w' → Own x w s w'
  own-finds v p q b a =
      own-quiet x w s w' sound goes shape adds causes v p a.place (between-at x t w v p q a.place a.stands b) _ v.tables
      v.locks a.blocks a.after refl refl refl
      (told-found T A a.request _ _) (blind v b.sound a.place a.stands (phase.Find a.request) a.before (λ o h. h))

  own-gives_back : (from to : Walk D → Phase K V D T A) → ((f : Walk D) → IsTold (to f))
      → (v : State K V S D T A) (p q : Place K V D T A) → Between x t w v p q → GivesBack x v s w' from to
      → Own x w s w'
  own-gives_back from to told v p q b a =
      own-gives x w s w' sound goes shape adds causes v p a.place (between-at x t w v p q a.place a.stands b) _ v.tables
      a.locks v.blocks a.after a.hold a.more a.holds
      (gives_up a.hold.mode) (gives-no_try a.hold.mode) (gives-no_deadline a.hold.mode) a.gives refl
      (behind a.place.holds a.hold a.more a.holds) (told a.walk)

  own-looks : (v : State K V S D T A) (p q : Place K V D T A) → Between x t w v p q → LooksAround x v s w'
      ⊎ IsRefusedVisit x v s w' → Own x w s w'
  own-looks v p q b h = elim h [
    | inl a ↦
        own-quiet x w s w' sound goes shape adds causes v p a.place (between-at x t w v p q a.place a.stands b) _
        (slice_set v.tables a.place.shard a.behind) v.locks (v.blocks ++ a.block ∷ []) a.after refl refl refl
        (told-leads a.walk _ _ _ _ a.next a.reads a.leads) (out-blind v a.out)
    | inr a ↦
        own-quiet x w s w' sound goes shape adds causes v p a.place (between-at x t w v p q a.place a.stands b) _
        v.tables v.locks v.blocks a.after refl refl refl
        refl (out-blind v a.out)
  ]

  same : (p : Place K V D T A) → slice_get w.places t ≡ Some p → Between x t w w p p
  same p at = between-same x w t sound p at

  -- from the world that the step is made in
  quiet : (p : Place K V D T A) (at : slice_get w.places t ≡ Some p) (now : Place K V D T A)
      (tables : List (ShardPairs K V)) (blocks : List (Block K))
      → w' ≡ record (stepped w s now) { tables = tables; blocks = blocks }
      → now.shard ≡ p.shard → now.holds ≡ p.holds → IsTold now.phase → Blind w → Own x w s w'
  quiet p at now tables blocks after shard holds told blind =
      own-quiet x w s w' sound goes shape adds causes w p p (same p at) now tables w.locks blocks after refl shard holds
      told blind

  at-mid : (v : State K V S D T A) → v ≡ w → (p : Place K V D T A) → slice_get v.places t ≡ Some p → Between x t w v p p
  at-mid v is p at = subst (λ (z : State K V S D T A). Between x t w z p p) (sym is)
      (same p (sym (ap (λ z. slice_get z.places t) is) ∙ at))

  find-by : (v : State K V S D T A) → (v ≡ w) ⊎ Enters w t v → Finds x v s w' → Own x w s w'
  find-by v h a = elim h [
    | inl is ↦ own-finds v a.place a.place (at-mid v is a.place a.stands) a
    | inr e ↦ own-finds v e.place _
        (between-enters x w t sound v e) a
  ]

  looks-by : (v : State K V S D T A) → (v ≡ w) ⊎ (Reaches w t v ⊎ LeavesLock w t v) → LooksAround x v s w'
      ⊎ IsRefusedVisit x v s w' → Own x w s w'
  looks-by v h a = elim h [
    | inl is ↦ (let o : (p : Place K V D T A) × (slice_get v.places t ≡ Some p) =
        elim a [ inl look ↦ (look.place, look.stands) | inr no_ ↦ (no_.place, no_.stands) ] in
        own-looks v o.0 o.0 (at-mid v is o.0 o.1) a)
    | inr more ↦ elim more [
      | inl e ↦ (let o = between-reaches x w t sound v e in own-looks v e.place o.0 o.1 a)
      | inr e ↦ own-looks v e.place e.place (between-leaves x w t sound v e) a
    ]
  ]

  parts-by : (v : State K V S D T A) → (v ≡ w) ⊎ Reaches w t v → GivesBack x v s w' phase.Part phase.Visit
      → Own x w s w'
  parts-by v h a = elim h [
    | inl is ↦ own-gives_back phase.Part phase.Visit (λ f. tt) v a.place a.place (at-mid v is a.place a.stands) a
    | inr e ↦ (let o = between-reaches x w t sound v e in own-gives_back phase.Part phase.Visit (λ f. tt) v e.place o.0
        o.1 a)
  ]

  itself-step : LocksFit w.locks → length w.places ≡ length w.locks.rows.calls → IsOwnStep x w s w' → Own x w s w'
  itself-step fit threads (start a) = own-starts x w s w' sound goes shape adds causes a
  itself-step fit threads (lock a) = own-moves x w s w' sound goes shape adds causes fit threads a
  itself-step fit threads (find a) = find-by a.mid a.enters a.finds
  itself-step fit threads (find_grows a) =
      quiet a.place a.stands _ (slice_set w.tables a.place.shard a.grown) a.blocks a.after refl refl
      (told-found T A (request_of a.call) false true)
      (blind w sound a.place a.stands (phase.Grow a.call) a.before (λ o h. h))
  itself-step fit threads (find_refused a) = quiet a.place a.stands _ w.tables w.blocks a.after refl refl refl
      (blind w sound a.place a.stands (phase.Grow a.call) a.before (λ o h. h))
  itself-step fit threads (deed_appends a) =
      quiet a.place a.stands _ (slice_set w.tables a.place.shard a.changed) a.blocks a.after refl refl refl
      (blind w sound a.place a.stands (phase.Append a.key a.value) a.before (λ o h. h))
  itself-step fit threads (deed_applies a) =
      quiet a.place a.stands _ (slice_set w.tables a.place.shard a.changed) a.blocks a.after refl refl
      (told-keyed A x.deeds a.call a.pair)
      (blind w sound a.place a.stands (phase.Apply a.call) a.before (λ o h. h))
  itself-step fit threads (deed_views a) = quiet a.place a.stands _ w.tables a.blocks a.after refl refl refl
      (blind w sound a.place a.stands (phase.View a.key a.deed) a.before (λ o h. h))
  itself-step fit threads (deed_reads a) = quiet a.place a.stands _ w.tables a.blocks a.after refl refl refl
      (blind w sound a.place a.stands (phase.Read a.deed) a.before (λ o h. h))
  itself-step fit threads (deed_changes a) =
      quiet a.place a.stands _ (slice_set w.tables a.place.shard a.changed) a.blocks a.after refl refl
      (told-changed D (ends_guard a.call) _ (told-held A x.deeds a.call a.kind a.pair))
      (blind w sound a.place a.stands (phase.Change a.call) a.before (λ o h. h))
  itself-step fit threads (deed_fills a) =
      quiet a.place a.stands _ (slice_set w.tables a.place.shard a.changed) a.blocks a.after refl refl refl
      (blind w sound a.place a.stands (phase.Fill a.value) a.before (λ o h. h))
  itself-step fit threads (downgrade a) =
      own-gives x w s w' sound goes shape adds causes w a.place a.place (same a.place a.stands) _ w.tables a.locks
      a.blocks a.after a.hold a.more a.holds call.Downgrade refl refl a.turns refl
      (turned a.place.holds a.hold a.more a.holds) refl
  itself-step fit threads (release a) =
      own-gives x w s w' sound goes shape adds causes w a.place a.place (same a.place a.stands) _ w.tables a.locks
      a.blocks a.after a.hold a.more a.holds (gives_up a.hold.mode) (gives-no_try a.hold.mode)
      (gives-no_deadline a.hold.mode) a.gives refl
      (behind a.place.holds a.hold a.more a.holds) (subst IsTold a.before (causes.untold t a.place a.stands))
  itself-step fit threads (answers a) = own-answers x w s w' sound goes shape adds causes a.mid a.leaves a.answers
  itself-step fit threads (visit_starts a) = own-goes_on x w s w' sound goes shape adds causes a.mid a.leaves a.starts
  itself-step fit threads (visit_parts a) = parts-by a.mid a.enters a.gives
  itself-step fit threads (visit_looks a) = looks-by a.mid a.enters a.looks
  itself-step fit threads (visit_seeks a) = quiet a.place a.stands _ w.tables w.blocks a.after refl refl tt
      (blind w sound a.place a.stands (phase.Seek a.walk) a.before (λ o h. h))
  itself-step fit threads (visit_does a) =
      quiet a.place a.stands _ (slice_set w.tables a.place.shard a.changed) (slice_set w.blocks a.index a.grown) a.after
      refl refl (told-leads a.walk _ _ _ _ a.next a.reads a.leads)
      (blind w sound a.place a.stands (phase.Item a.walk) a.before (λ o h. h))
  itself-step fit threads (visit_gives a) = own-gives_back phase.Give phase.Onward (λ f. tt) w a.place a.place
      (same a.place a.stands) a

  pub own-step : LocksFit w.locks → length w.places ≡ length w.locks.rows.calls → IsStep x w s w' → Own x w s w'
  own-step fit threads (by_itself its a) = itself-step fit threads a
  own-step fit threads (by_deadline its a) = own-expires x w s w' sound goes shape adds causes fit its a
