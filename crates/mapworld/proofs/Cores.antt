-- What a step at a lock does to the calls that other threads are in there.
use Rattle.std.proofs.Common.{◌≡◌, ◌≢◌, ℕ, zero, suc, inl, inr, Bool, true, false, cond, ◌∷◌, [], List, map, Option}
use Rattle.std.proofs.Common.{Some, None, slice_get, slice_set, refl, sym, ap, ◌∙◌, subst}
use Rattle.std.specs.Option.{option_map, option_and_then}
use Rattle.std.proofs.lemmas.Option.{slice_get-map}
use Rattle.parking_lot_protocol.specs.declared.act.Act.{Act}
use Rattle.parking_lot_protocol.specs.declared.act.ActResult.{ActResult}
use Rattle.parking_lot_protocol.specs.declared.act.SectionAct.{SectionAct}
use Rattle.parking_lot_protocol.specs.declared.act.CoreAnswer.{CoreAnswer}
use Rattle.parking_lot_core_model.specs.declared.parking.UnparkToken.{UnparkToken}
use Rattle.parking_lot_machine_calls.specs.declared.calls.LockCall.{LockCall}
use Rattle.parking_lot_machine_calls.specs.declared.open_call.Call.{Call}
use Rattle.parking_lot_machine_calls.specs.declared.seat.Core.{Core}
use Rattle.parking_lot_machine_calls.specs.declared.seat.WakeResult.{WakeResult}
use Rattle.parking_lot_machine_calls.specs.declared.seat.Wakeup.{Wakeup}
use Rattle.parking_lot_machine_calls.specs.CallActs.{hears, off_list, settled}
use Rattle.parking_lot_machine_calls.specs.LateCalls.{late_of}
use Rattle.parking_lot_machine_calls.specs.Stances.{core_act}
use Rattle.parking_lot_machine.specs.Machines.{Became, BecameInside, call_for}
use Rattle.parking_lot_machine.specs.Rows.{State, call_at, state}
use Rattle.parking_lot_machine.specs.TellLaws.{IsDue}
use Rattle.mapworld_state.specs.Locks.Steps.{HasActed, LockBegins, LockEnds, LockExpires, LockMoves, LockStarts}
use Rattle.mapworld_state.specs.Locks.Views.{Shown}
use Rattle.mapworld_state.proofs.LocksFacts.Calls.{late_is}
use Rattle.mapworld_state.proofs.InvariantFacts.CausesFacts.Looking.{call_of, set-elsewhere}
use Rattle.mapworld_state.specs.Locks.Stands.{stand_in}
use Rattle.mapworld.specs.Atomic.{KeepsCalls, core_in}
use Rattle.mapworld.proofs.LockSteps.{is_answered}

abbrev pub core_of : Option Call → Option Core
core_of o = option_map (λ c. c.core) o

map-of : (f : Call → Call) (calls : List (Option Call)) (v : ℕ)
    → call_of (map (option_map f) calls) v ≡ option_map f (call_of calls v)
map-of f calls v = ap (option_and_then (λ y. y)) (slice_get-map (option_map f) calls v) ∙ at (slice_get calls v)
  where
    at : (o : Option (Option Call)) → option_and_then (λ y. y) (option_map (option_map f) o) ≡ option_map f
        (option_and_then (λ y. y) o)
    at None = refl
    at (Some x) = refl

settled-core : (t : ℕ) (said : WakeResult) (o : Option Call) → core_of (option_map (settled t said) o) ≡ core_of o
settled-core t said None = refl
settled-core t said (Some c) = refl

off-core : (t : ℕ) (o : Option Call) → core_of (option_map (off_list t) o) ≡ core_of o
off-core t None = refl
off-core t (Some c) = refl

-- one that is taken off its list stands where it stood
off-set : (t : ℕ) (calls : List (Option Call)) (n v : ℕ)
    → core_of (call_of (slice_set calls n (option_map (off_list t) (call_of calls n))) v) ≡ core_of (call_of calls v)
off-set t [] n v = refl
off-set t (o ∷ os) zero zero = off-core t o
off-set t (o ∷ os) zero (suc v) = refl
off-set t (o ∷ os) (suc n) zero = refl
off-set t (o ∷ os) (suc n) (suc v) = off-set t os n v

-- The one other thread whose call goes on: nobody, or one that is woken in time.
pub data Wakes (s : State) (t n : ℕ) : Type 0 where
  nobody : n ≡ t → Wakes s t n
  one : (e : Wakeup) (d : Call) (token : UnparkToken) → IsDue s t e d token → e.thread ≡ n → Wakes s t n

pub record KeepsCores (s : State) (t : ℕ) (u : State) : Type 0 where
  pub woken : ℕ
  pub who : Wakes s t woken
  pub others : (v : ℕ) → v ≢ t → v ≢ woken → core_of (call_at u v) ≡ core_of (call_at s v)

module _ (s : State) (t : ℕ) (c : Call) where
  -- all calls but the thread's own stand where they stood
  abbrev Same : List (Option Call) → Type 0
  Same calls = (v : ℕ) → v ≢ t → core_of (call_of calls v) ≡ core_of (call_of s.calls v)

  none : (u w : State) → u ≡ w → Same w.calls → KeepsCores s t u
  none u w e same = subst (KeepsCores s t) (sym e)
      (record { woken = t; who = nobody refl; others = λ v ne apart. same v ne })

  own : (calls : List (Option Call)) (o : Option Call) → Same calls → Same (slice_set calls t o)
  own calls o same v ne = ap core_of (set-elsewhere calls t v o ne) ∙ same v ne

  told : (o : Option Call) → Same (slice_set s.calls t o)
  told o = own s.calls o (λ v ne. refl)

  says : (o : Option Call) (said : WakeResult) → Same (map (option_map (settled t said)) (slice_set s.calls t o))
  says o said v ne = ap core_of (map-of (settled t said) (slice_set s.calls t o) v)
      ∙ (settled-core t said (call_of (slice_set s.calls t o) v) ∙ told o v ne)

  taken : (n : ℕ) (o : Option Call) → Same (slice_set
      (slice_set s.calls n (option_map (off_list t) (call_of s.calls n))) t o)
  taken n o = own (slice_set s.calls n (option_map (off_list t) (call_of s.calls n))) o (λ v ne. off-set t s.calls n v)

  either : (b : Bool) (u w : State) → Same u.calls → Same w.calls → Same (cond b u w).calls
  either true u w h k = h
  either false u w h k = k

  kept-inside : (k : SectionAct) (fair : Bool) (u : State) → BecameInside k t fair c s u → KeepsCores s t u
  kept-inside SectionAct.Check fair u e = none u _ e (told _)
  kept-inside SectionAct.TakeFirst fair u (k, stands, inl (nth, w, first, e)) = none u _ e (taken w.thread _)
  kept-inside SectionAct.TakeFirst fair u (k, stands, inr (empty, e)) = none u _ e (told _)
  kept-inside (SectionAct.TakeNext sum) fair u (k, stands, inl (nth, w, first, e)) = none u _ e (taken w.thread _)
  kept-inside (SectionAct.TakeNext sum) fair u (k, stands, inr (empty, e)) = none u _ e (told _)
  kept-inside (SectionAct.Append token) fair u (k, stands, e) = none u _ e (told _)
  kept-inside (SectionAct.Store plain handing) fair u e = none u _ e (says _ _)
  kept-inside SectionAct.Leave fair u e = none u _ e (told _)
  kept-inside SectionAct.Wake fair u (inr (gone, is_it)) = none u _ is_it (told _)
  kept-inside SectionAct.Wake fair u (inl (e, d, token, due, is_it)) = subst (KeepsCores s t) (sym is_it) (record {
    woken = e.thread;
    who = one e d token due refl;
    others = λ v ne apart. ap core_of (set-elsewhere _ t v _ ne)
        ∙ ap core_of (set-elsewhere s.calls e.thread v _ apart);
  })

  kept : (a : Act) (fair : Bool) (u : State) → Became a t fair c s u → KeepsCores s t u
  kept Act.Load fair u e = none u _ e (told _)
  kept (Act.Exchange from to) fair u e = none u _ e (either _ _ _ (told _) (told _))
  kept (Act.Add by) fair u e = none u _ e (told _)
  kept (Act.FetchAnd keep) fair u e = none u _ e (says _ _)
  kept Act.Spin fair u e = none u _ e (told _)
  kept (Act.Enter key) fair u e = none u _ e (told _)
  kept (Act.Section next) fair u b = kept-inside next fair u b
  kept Act.Sleep fair u b = let l = late_is s u t c c.core refl b in none u _ l.3 (told _)
  kept (Act.Done answer) fair u e = none u _ e (told None)

pub stepped-cores : (s u : State) (t : ℕ) (fair : Bool) (answer : Option CoreAnswer) → HasActed t fair answer s u
    → KeepsCores s t u
stepped-cores s u t fair answer x = kept s t x.call (core_act x.call.core) fair u x.became

-- OF THE LOCKS OF SHARDS

-- no other thread's call goes on
pub record KeepsOthers (t : ℕ) (old new : Shown) : Type 0 where
  pub about : (v : ℕ) → v ≢ t → stand_in new v ≡ stand_in old v
  pub cores : (v : ℕ) → v ≢ t → core_in new v ≡ core_in old v

module _ (t : ℕ) where
  pub others-same : (old new : Shown) → new ≡ old → KeepsOthers t old new
  others-same old new same = subst (KeepsOthers t old) (sym same)
      (record { about = λ v ne. refl; cores = λ v ne. refl })

  pub others-begins : (shard : ℕ) (call : LockCall) (old new : Shown) → LockBegins t shard call old new
      → KeepsOthers t old new
  others-begins shard call old new h = record {
    about = h.others;
    cores = λ v ne. ap (λ (u : State). core_of (call_at u v)) h.became
        ∙ ap core_of (set-elsewhere (state old.rows).calls t v
        (Some (hears (call_for (state old.rows) t shard call) ActResult.Start)) ne);
  }

  pub others-ends : (answer : CoreAnswer) (old new : Shown) → LockEnds t answer old new → KeepsOthers t old new
  others-ends answer old new h =
      let became = is_answered (core_act h.steps.call.core) answer t false h.steps.call (state old.rows)
      (state new.rows) h.steps.answers h.steps.became in
      record {
        about = h.others;
        cores = λ v ne. ap (λ (u : State). core_of (call_at u v)) became
            ∙ ap core_of (set-elsewhere (state old.rows).calls t v None ne);
      }

  pub others-expires : (old new : Shown) → LockExpires t old new → KeepsOthers t old new
  others-expires old new h = record {
    about = λ v ne. h.stands v;
    cores = λ v ne. ap (λ (u : State). core_of (call_at u v)) h.became
        ∙ ap core_of (set-elsewhere (state old.rows).calls t v
        (Some (record (h.call) { core = late_of h.call.core })) ne);
  }

  pub calls-same : (old new : Shown) → KeepsOthers t old new → KeepsCalls t old new
  calls-same old new h = record { about = h.about; woken = t; others = λ v ne apart. h.cores v ne }

  pub calls-moves : (fair : Bool) (old new : Shown) → LockMoves t fair old new → KeepsCalls t old new
  calls-moves fair old new h =
      let k = stepped-cores (state old.rows) (state new.rows) t fair None h.steps in
      record { about = h.others; woken = k.woken; others = k.others }

  pub calls-behind : (old mid new : Shown) → KeepsOthers t old mid → KeepsCalls t mid new → KeepsCalls t old new
  calls-behind old mid new a b = record {
    about = λ v ne. b.about v ne ∙ a.about v ne;
    woken = b.woken;
    others = λ v ne apart. b.others v ne apart ∙ a.cores v ne;
  }

  pub calls-starts : (shard : ℕ) (call : LockCall) (fair : Bool) (old new : Shown)
      → LockStarts t shard call fair old new → KeepsCalls t old new
  calls-starts shard call fair old new h = calls-behind old h.mid new (others-begins shard call old h.mid h.begins)
      (calls-moves fair h.mid new h.moves)
