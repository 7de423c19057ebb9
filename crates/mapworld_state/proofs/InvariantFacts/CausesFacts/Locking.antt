-- What a step of a lock's call leaves of other threads, and what a try of the thread has seen.
use Rattle.std.proofs.Common.{◌≡◌, ◌≢◌, ℕ, inl, inr, ◌&&◌, Bool, true, false, Some, None, refl, sym, ap, ◌∙◌}
use Rattle.std.proofs.lemmas.Bool.{false≢true}
use Rattle.std.proofs.lemmas.Option.{same_Some}
use Rattle.parking_lot_protocol.specs.declared.act.ActResult.{ActResult}
use Rattle.parking_lot_protocol.specs.declared.act.CoreAnswer.{CoreAnswer}
use Rattle.parking_lot_machine_calls.specs.Kinds.{kind_in}
use Rattle.parking_lot_machine_calls.specs.declared.calls.LockCall.{LockCall}
use Rattle.parking_lot_machine_calls.specs.declared.calls.LockKind.{LockKind}
use Rattle.parking_lot_machine_calls.specs.declared.seat.Core.{Core}
use Rattle.parking_lot_machine_calls.specs.Beginnings.{core_of}
use Rattle.parking_lot_machine.specs.Machines.{call_for, may_expire_in}
use Rattle.parking_lot_machine_calls.specs.Calls.{is_timed}
use Rattle.parking_lot_machine_calls.specs.LateCalls.{late_of, sleeps_in_time}
use Rattle.parking_lot_machine_calls.specs.CallActs.{hears}
use Rattle.parking_lot_machine.specs.Rows.{State, call_at, state}
use Rattle.parking_lot_machine_calls.specs.Stances.{core_next}
use Rattle.mapworld_state.specs.Locks.Stands.{is_try, stand_in}
use Rattle.mapworld_state.proofs.InvariantFacts.CausesFacts.Trying.{core_tries}
use Rattle.mapworld_state.specs.Locks.Steps.{LockBegins, LockEnds, LockExpires, LockMoves, LockStarts}
use Rattle.mapworld_state.specs.Locks.Views.{Shown}
use Rattle.mapworld_state.specs.Invariant.Causes.Causes.{has_seen}
use Rattle.mapworld_state.proofs.InvariantFacts.CausesFacts.Looking.{others-see, own-sees, sees, set-elsewhere}
use Rattle.mapworld_state.proofs.InvariantFacts.CausesFacts.Looking.{set-here}
use Rattle.parking_lot_machine_calls.specs.declared.open_call.Call.{Call}
use Rattle.std.proofs.lemmas.Option.{none-some}
use Rattle.mapworld_state.specs.Locks.Fits.{IsPlain, LocksFit}
use Rattle.mapworld_state.specs.Locks.Stands.{is_of_shards}
use Rattle.mapworld_state.specs.Invariant.Causes.Causes.{may_fail_at}
use Rattle.mapworld_state.proofs.LocksFacts.Lawful.{fit-begins, lawful-ends, lawful-moves}
use Rattle.parking_lot_protocol.specs.declared.act.CoreAnswer.TheVariants.{Owned}
use Rattle.parking_lot_machine.specs.CallLaws.AnswerLaws as laws
use Rattle.parking_lot_machine.specs.CallLaws.Stages.{Asks, Leads, Over, Stage, core_stage, stage, stage_of}
use Rattle.parking_lot_machine.specs.Machines.{IsStepped}
use Rattle.parking_lot_machine.specs.RowFits.{FitsTogether}
use Rattle.parking_lot_machine.proofs.CallLawsFacts.Leading.{calls_lead}
use Rattle.parking_lot_machine.proofs.CallLawsFacts.Heard.{begins_there}
use Rattle.std.proofs.Common.{Option, subst}

-- whether a call may fail, if there is one
abbrev pub fails : Option Call → Bool
fails None = false
fails (Some c) = may_fail_at (core_stage 0 c.core)

-- one that has only asked so far doesn't come to fail by a step
leads-sure : (a b : Stage) → Leads 0 a b → may_fail_at b ≡ true → may_fail_at a ≡ true
leads-sure a b (inl e) f = ap may_fail_at (sym e) ∙ f
leads-sure (Asks m from) (Over Owned h) (inr r) f = absurd (false≢true f)
leads-sure (Asks m from) b (inr r) f = absurd r
leads-sure (Over answer h) b (inr r) f = absurd r
leads-sure a b (inr r) f = refl

steps-fail : (s u : State) (t : ℕ) (fair : Bool) → FitsTogether s → IsPlain s → IsStepped t fair None s u → (v : ℕ)
    → fails (call_at u v) ≡ true → fails (call_at s v) ≡ true
steps-fail s u t fair h plain x v f = by (call_at s v) refl (calls_lead.steps s u t fair h x v)
  where
    by : (o : Option Call) → call_at s v ≡ o → laws.Onward o (call_at u v) → fails o ≡ true
    by None e gone = absurd (false≢true (sym (ap fails gone) ∙ f))
    by (Some c) e on =
        let others : c.others ≡ 0 = plain.alone v c e in
        let d : Call = on.kept.call in
        let to : on.to ≡ core_stage 0 d.core = sym on.kept.stands
        ∙ ap (λ n. core_stage n d.core) (on.kept.beside ∙ others) in
        leads-sure (core_stage 0 c.core) (core_stage 0 d.core)
        (subst (λ n. Leads n (core_stage n c.core) (core_stage 0 d.core)) others
        (subst (Leads c.others (stage c)) to on.leads))
        (sym (ap fails on.kept.here) ∙ f)

-- a call with a deadline only asks as it begins
timed-asks : (call : LockCall) → is_of_shards call ≡ true → is_timed call ≡ true → may_fail_at (stage_of call) ≡ false
timed-asks LockCall.ReadUntil ours timed = refl
timed-asks LockCall.WriteUntil ours timed = refl
timed-asks call ours timed = absurd cc

-- what a thread's act at a lock leaves of the others
pub record LocksApart (t : ℕ) (old new : Shown) : Type 0 where
  pub stands : (v : ℕ) → v ≢ t → stand_in new v ≡ stand_in old v
  pub sees : (v : ℕ) → v ≢ t → sees (call_at (state new.rows) v) ≡ true → sees (call_at (state old.rows) v) ≡ true
  pub fails : LocksFit old → (v : ℕ) → v ≢ t → fails (call_at (state new.rows) v) ≡ true
      → fails (call_at (state old.rows) v) ≡ true

module _ (t : ℕ) where
  pub apart-same : (locks : Shown) → LocksApart t locks locks
  apart-same locks = record { stands = λ v ne. refl; sees = λ v ne h. h; fails = λ fit v ne h. h }

  pub apart-then : (a b c : Shown) → (LocksFit a → LocksFit b) → LocksApart t a b → LocksApart t b c → LocksApart t a c
  apart-then a b c fits f g = record {
    stands = λ v ne. g.stands v ne ∙ f.stands v ne;
    sees = λ v ne h. f.sees v ne (g.sees v ne h);
    fails = λ fit v ne h. f.fails fit v ne (g.fails (fits fit) v ne h);
  }

  pub apart-begins : (shard : ℕ) (call : LockCall) (old new : Shown) → LockBegins t shard call old new
      → LocksApart t old new
  apart-begins shard call old new h = record {
    stands = h.others;
    sees = λ v ne seen. sym
        (ap (λ (u : State). sees (call_at u v)) h.became
        ∙ ap sees (set-elsewhere (state old.rows).calls t v
        (Some (hears (call_for (state old.rows) t shard call) ActResult.Start)) ne)) ∙ seen;
    fails = λ fit v ne f. sym
        (ap (λ (u : State). fails (call_at u v)) h.became
        ∙ ap fails (set-elsewhere (state old.rows).calls t v
        (Some (hears (call_for (state old.rows) t shard call) ActResult.Start)) ne)) ∙ f;
  }

  pub apart-moves : (fair : Bool) (old new : Shown) → LockMoves t fair old new → LocksApart t old new
  apart-moves fair old new h =
      record {
        stands = h.others;
        sees = λ v ne seen. others-see (state old.rows) (state new.rows) t fair None h.steps v
            ne seen;
        fails = λ fit v ne f. steps-fail (state old.rows) (state new.rows) t fair fit.fits fit.plain
            (lawful-moves t fair old new fit h) v f;
      }

  pub apart-ends : (answer : CoreAnswer) (old new : Shown) → LockEnds t answer old new → LocksApart t old new
  apart-ends answer old new h =
      record {
        stands = h.others;
        sees = λ v ne seen. others-see (state old.rows) (state new.rows) t false (Some answer)
            h.steps v ne seen;
        fails = λ fit v ne f. sym (ap fails (calls_lead.answers_alone (state old.rows) (state new.rows) t false answer
            (lawful-ends t answer old new fit h) v ne)) ∙ f;
      }

  pub apart-starts : (shard : ℕ) (call : LockCall) (fair : Bool) (old new : Shown)
      → LockStarts t shard call fair old new → LocksApart t old new
  apart-starts shard call fair old new h = apart-then old h.mid new
      (λ fit. fit-begins t shard call old h.mid fit h.begins) (apart-begins shard call old h.mid h.begins)
      (apart-moves fair h.mid new h.moves)

  pub apart-expires : (old new : Shown) → LockExpires t old new → LocksApart t old new
  apart-expires old new h = record {
    stands = λ v ne. h.stands v;
    sees = λ v ne seen. sym
        (ap (λ (u : State). sees (call_at u v)) h.became
        ∙ ap sees (set-elsewhere (state old.rows).calls t v (Some (record (h.call) { core = late_of h.call.core })) ne))
        ∙ seen;
    fails = λ fit v ne f. sym
        (ap (λ (u : State). fails (call_at u v)) h.became
        ∙ ap fails (set-elsewhere (state old.rows).calls t v
        (Some (record (h.call) { core = late_of h.call.core })) ne))
        ∙ f;
  }

  -- its own step doesn't make it fail
  pub own-fails : (fair : Bool) (old new : Shown) → LocksFit old → LockMoves t fair old new
      → fails (call_at (state new.rows) t) ≡ true → fails (call_at (state old.rows) t) ≡ true
  own-fails fair old new fit h f = steps-fail (state old.rows) (state new.rows) t fair fit.fits fit.plain
      (lawful-moves t fair old new fit h) t f

  -- and nor does its beginning
  pub begins-timely : (shard : ℕ) (call : LockCall) (old new : Shown) → LockBegins t shard call old new → (c : Call)
      → call_at (state new.rows) t ≡ Some c → is_timed c.asked ≡ true → may_fail_at (core_stage 0 c.core) ≡ true → ⊥
  begins-timely shard call old new h c at timed f =
      elim (set-here (state old.rows).calls t
      (Some (hears (call_for (state old.rows) t shard call) ActResult.Start))) [
        | inl is ↦
            let same : hears (call_for (state old.rows) t shard call) ActResult.Start ≡ c =
            same_Some _ c (sym is ∙ sym (ap (λ (u : State). call_at u t) h.became) ∙ at) in
            let asked : is_timed call ≡ true = ap (λ (z : Call). is_timed z.asked) same ∙ timed in
            false≢true (sym (timed-asks call h.may.of_kind asked)
            ∙ sym (ap may_fail_at (begins_there 0 (kind_in (state old.rows).kinds shard) call))
            ∙ ap (λ (z : Call). may_fail_at (core_stage 0 z.core)) same ∙ f)
        | inr none ↦ none-some c (sym (ap (λ (u : State). call_at u t) h.became ∙ none) ∙ at)
      ]

  -- one whose deadline has come has seen nothing
  late-unseen : (k : Core) → sleeps_in_time k ≡ true → has_seen (late_of k) ≡ false
  late-unseen (Core.Rw c) asleep = refl
  late-unseen (Core.Mutex c) asleep = refl
  late-unseen (Core.Late p) asleep = refl
  late-unseen (Core.LateRw p) asleep = refl
  late-unseen (Core.Upgrade c) asleep = refl

  pub expires-blind : (old new : Shown) → LockExpires t old new → sees (call_at (state new.rows) t) ≡ true → ⊥
  expires-blind old new h seen =
      elim (set-here (state old.rows).calls t (Some (record (h.call) { core = late_of h.call.core }))) [
        | inl is ↦ false≢true (sym (late-unseen h.call.core
            (both-true (is_timed h.call.asked) (sleeps_in_time h.call.core) (sym (ap may_expire_in h.here) ∙ h.may)))
            ∙ sym (ap (λ (u : State). sees (call_at u t)) h.became ∙ ap sees is) ∙ seen)
        | inr none ↦ false≢true (sym (ap (λ (u : State). sees (call_at u t)) h.became ∙ ap sees none) ∙ seen)
      ]
    where
      both-true : (a b : Bool) → (a && b) ≡ true → b ≡ true
      both-true true b e = e
      both-true false b e = absurd (false≢true e)

  -- a call that begins has seen nothing
  start-unseen : (k : LockKind) (call : LockCall) → has_seen (core_next (core_of k call) ActResult.Start) ≡ false
  start-unseen k LockCall.Lock = refl
  start-unseen k LockCall.TryLock = refl
  start-unseen k LockCall.LockUntil = refl
  start-unseen k LockCall.Unlock = refl
  start-unseen k LockCall.Read = refl
  start-unseen k LockCall.TryRead = refl
  start-unseen k LockCall.UnlockRead = refl
  start-unseen k LockCall.Write = refl
  start-unseen k LockCall.TryWrite = refl
  start-unseen k LockCall.UnlockWrite = refl
  start-unseen k LockCall.Downgrade = refl
  start-unseen k LockCall.UpgradableRead = refl
  start-unseen k LockCall.TryUpgradableRead = refl
  start-unseen k LockCall.UnlockUpgradable = refl
  start-unseen k LockCall.Upgrade = refl
  start-unseen k LockCall.TryUpgrade = refl
  start-unseen k LockCall.DowngradeToUpgradable = refl
  start-unseen k LockCall.DowngradeUpgradable = refl
  start-unseen k LockCall.ReadUntil = refl
  start-unseen k LockCall.WriteUntil = refl
  start-unseen k LockCall.UpgradableUntil = refl
  start-unseen k LockCall.UpgradeUntil = refl

  pub begins-blind : (shard : ℕ) (call : LockCall) (old new : Shown) → LockBegins t shard call old new
      → sees (call_at (state new.rows) t) ≡ false
  begins-blind shard call old new h =
      ap (λ (u : State). sees (call_at u t)) h.became
      ∙ elim (set-here (state old.rows).calls t
      (Some (hears (call_for (state old.rows) t shard call) ActResult.Start))) [
        | inl is ↦ ap sees is ∙ start-unseen (kind_in (state old.rows).kinds shard) call
        | inr none ↦ ap sees none
      ]

  -- nor is one a try that begins otherwise
  start-calm : (k : LockKind) (call : LockCall) → is_try call ≡ false
      → core_tries (core_next (core_of k call) ActResult.Start) ≡ false
  start-calm k LockCall.TryRead no_try = absurd (false≢true (sym no_try))
  start-calm k LockCall.TryWrite no_try = absurd (false≢true (sym no_try))
  start-calm k call no_try = refl

  begins-calm : (shard : ℕ) (call : LockCall) (old new : Shown) → is_try call ≡ false → LockBegins t shard call old new
      → (c : Call) → call_at (state new.rows) t ≡ Some c → core_tries c.core ≡ false
  begins-calm shard call old new no_try h c at =
      elim (set-here (state old.rows).calls t
      (Some (hears (call_for (state old.rows) t shard call) ActResult.Start))) [
        | inl is ↦ ap (λ (z : Call). core_tries z.core)
            (same_Some c _ (sym at ∙ ap (λ (u : State). call_at u t) h.became ∙ is))
            ∙ start-calm (kind_in (state old.rows).kinds shard) call no_try
        | inr none ↦ absurd (none-some c (sym (ap (λ (u : State). call_at u t) h.became ∙ none) ∙ at))
      ]

  -- and nor has one that gives a hold up or turns it, behind its first act
  pub starts-blind : (shard : ℕ) (call : LockCall) (fair : Bool) (old new : Shown) → is_try call ≡ false
      → LockStarts t shard call fair old new → sees (call_at (state new.rows) t) ≡ true → ⊥
  starts-blind shard call fair old new no_try h seen =
      elim (own-sees (state h.mid.rows) (state new.rows) t fair h.moves.steps seen) [
        | inl before ↦ absurd
            (false≢true (sym (begins-blind shard call old h.mid h.begins) ∙ ap sees h.moves.steps.here ∙ before))
        | inr tries ↦ absurd
            (false≢true (sym (begins-calm shard call old h.mid no_try h.begins h.moves.steps.call h.moves.steps.here)
            ∙ tries.0))
      ]
