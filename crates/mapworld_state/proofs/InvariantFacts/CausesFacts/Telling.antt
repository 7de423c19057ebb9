-- What is to be answered is never that a lock was taken: that is told at once.
use Rattle.std.proofs.Common.{◌≡◌, ℕ, Bool, true, false, cond, List, Option, Some, None, refl, sym, ap, subst}
use Rattle.mapworld_calls.specs.declared.ask.Ask.{Ask}
use Rattle.mapworld_calls.specs.declared.ask.Ask.TheVariants as ask
use Rattle.mapworld_calls.specs.declared.ask.Begin.TheVariants as begin
use Rattle.mapworld_calls.specs.declared.ask.Held.{Held}
use Rattle.mapworld_calls.specs.declared.ask.Held.TheVariants as held
use Rattle.mapworld_calls.specs.declared.ask.Keyed.{Keyed}
use Rattle.mapworld_calls.specs.declared.ask.Keyed.TheVariants as keyed
use Rattle.mapworld_calls.specs.declared.ask.Walk.{Walk}
use Rattle.mapworld_calls.specs.declared.ask.Walk.TheVariants as walk
use Rattle.mapworld_calls.specs.declared.reply.Answer.{Answer}
use Rattle.mapworld_calls.specs.declared.reply.Answer.TheVariants as answer
use Rattle.mapworld_calls.specs.Calls.{held_answer, keyed_answer}
use Rattle.mapworld_calls.specs.Deeds.{Deeds}
use Rattle.mapworld_calls.specs.Programs.{stop_of}
use Rattle.mapworld_state.specs.declared.place.Guard.{Guard}
use Rattle.mapworld_state.specs.declared.place.Guard.TheVariants as guard
use Rattle.mapworld_state.specs.declared.place.Phase.{Phase}
use Rattle.mapworld_state.specs.declared.place.Phase.TheVariants as phase
use Rattle.mapworld_state.specs.declared.place.Request.{Request}
use Rattle.mapworld_state.specs.declared.place.Request.TheVariants as request
use Rattle.mapworld_state.specs.declared.place.Way.{Way}
use Rattle.mapworld_state.specs.declared.place.Way.TheVariants as way
use Rattle.mapworld_state.specs.Moves.{changed_phase, found_phase, lent, start_phase, stops_at}
use Rattle.mapworld_state.specs.Walks.{LeadsOn, IsTold as IsWalkTold, hands_over}
use Rattle.mapworld_state.specs.Invariant.Causes.Causes.{IsTold, is_locked}

either-told : {K V D T A : Type 0} (b : Bool) (f g : Phase K V D T A) → IsTold f → IsTold g → IsTold (cond b f g)
either-told true f g h k = h
either-told false f g h k = k

module _ (A : Type 0) {D K V T : Type 0} (deeds : Deeds D K V T) where
  either-answer : (b : Bool) (a c : Answer K V T A) → is_locked a ≡ false → is_locked c ≡ false
      → is_locked (cond b a c) ≡ false
  either-answer true a c h k = h
  either-answer false a c h k = k

  pub told-keyed : (k : Keyed K V D) (p : K × V) → is_locked (keyed_answer deeds {A = A} k (Some p)) ≡ false
  told-keyed (keyed.Insert k w) p = refl
  told-keyed (keyed.Remove k) p = refl
  told-keyed (keyed.RemoveIf k d) p = either-answer (deeds.keep d p.0 p.1) answer.None (answer.Pair p.0 p.1) refl refl
  told-keyed (keyed.RemoveIfMut k d) p = either-answer (deeds.keep d p.0 p.1) answer.None
      (answer.Pair p.0 (deeds.effect d p.0 p.1)) refl refl
  told-keyed (keyed.Alter k d) p = refl
  told-keyed (keyed.View k d) p = refl
  told-keyed (keyed.ContainsKey k) p = refl
  told-keyed (keyed.InsertUntil k w) p = refl
  told-keyed (keyed.RemoveUntil k) p = refl

  pub told-held : (h : Held V D) (kind : Way K) (p : K × V) → is_locked (held_answer {A = A} deeds h (lent kind p))
      ≡ false
  told-held (held.Read d) way.Shared p = refl
  told-held (held.Read d) way.Exclusive p = refl
  told-held (held.Read d) (way.Occupied k) p = refl
  told-held (held.Write d) way.Shared p = refl
  told-held (held.Write d) way.Exclusive p = refl
  told-held (held.Write d) (way.Occupied k) p = refl
  told-held held.Downgrade way.Shared p = refl
  told-held held.Downgrade way.Exclusive p = refl
  told-held held.Downgrade (way.Occupied k) p = refl
  told-held (held.Insert v) way.Shared p = refl
  told-held (held.Insert v) way.Exclusive p = refl
  told-held (held.Insert v) (way.Occupied k) p = refl
  told-held held.IntoRef way.Shared p = refl
  told-held held.IntoRef way.Exclusive p = refl
  told-held held.IntoRef (way.Occupied k) p = refl
  told-held held.IntoKey way.Shared p = refl
  told-held held.IntoKey way.Exclusive p = refl
  told-held held.IntoKey (way.Occupied k) p = refl
  told-held held.Remove way.Shared p = refl
  told-held held.Remove way.Exclusive p = refl
  told-held held.Remove (way.Occupied k) p = refl
  told-held held.RemoveEntry way.Shared p = refl
  told-held held.RemoveEntry way.Exclusive p = refl
  told-held held.RemoveEntry (way.Occupied k) p = refl
  told-held (held.ReplaceEntry v) way.Shared p = refl
  told-held (held.ReplaceEntry v) way.Exclusive p = refl
  told-held (held.ReplaceEntry v) (way.Occupied k) p = refl
  told-held held.Drop way.Shared p = refl
  told-held held.Drop way.Exclusive p = refl
  told-held held.Drop (way.Occupied k) p = refl

pub told-changed : {K V T A : Type 0} (D : Type 0) (ends : Bool) (a : Answer K V T A) → is_locked a ≡ false
    → IsTold (changed_phase {D = D} ends a)
told-changed D true a h = h
told-changed D false a h = h

-- behind a find
pub told-found : {K V D : Type 0} (T A : Type 0) (r : Request K V D) (there room : Bool)
    → IsTold (found_phase {T = T} {A = A} r there room)
told-found T A (request.Keyed (keyed.Insert k v)) true room = tt
told-found T A (request.Keyed (keyed.Insert k v)) false true = tt
told-found T A (request.Keyed (keyed.Insert k v)) false false = tt
told-found T A (request.Keyed (keyed.Remove k)) true room = tt
told-found T A (request.Keyed (keyed.Remove k)) false room = refl
told-found T A (request.Keyed (keyed.RemoveIf k d)) true room = tt
told-found T A (request.Keyed (keyed.RemoveIf k d)) false room = refl
told-found T A (request.Keyed (keyed.RemoveIfMut k d)) true room = tt
told-found T A (request.Keyed (keyed.RemoveIfMut k d)) false room = refl
told-found T A (request.Keyed (keyed.Alter k d)) true room = tt
told-found T A (request.Keyed (keyed.Alter k d)) false room = refl
told-found T A (request.Keyed (keyed.View k d)) true room = tt
told-found T A (request.Keyed (keyed.View k d)) false room = refl
told-found T A (request.Keyed (keyed.ContainsKey k)) true room = refl
told-found T A (request.Keyed (keyed.ContainsKey k)) false room = refl
told-found T A (request.Keyed (keyed.InsertUntil k v)) true room = tt
told-found T A (request.Keyed (keyed.InsertUntil k v)) false true = tt
told-found T A (request.Keyed (keyed.InsertUntil k v)) false false = tt
told-found T A (request.Keyed (keyed.RemoveUntil k)) true room = tt
told-found T A (request.Keyed (keyed.RemoveUntil k)) false room = refl
told-found T A (request.Begin (begin.Get k)) true room = refl
told-found T A (request.Begin (begin.Get k)) false room = refl
told-found T A (request.Begin (begin.GetMut k)) true room = refl
told-found T A (request.Begin (begin.GetMut k)) false room = refl
told-found T A (request.Begin (begin.Entry k)) true room = refl
told-found T A (request.Begin (begin.Entry k)) false true = refl
told-found T A (request.Begin (begin.Entry k)) false false = tt
told-found T A (request.Begin (begin.TryGet k)) true room = refl
told-found T A (request.Begin (begin.TryGet k)) false room = refl
told-found T A (request.Begin (begin.TryGetMut k)) true room = refl
told-found T A (request.Begin (begin.TryGetMut k)) false room = refl
told-found T A (request.Begin (begin.GetUntil k)) true room = refl
told-found T A (request.Begin (begin.GetUntil k)) false room = refl
told-found T A (request.Begin (begin.GetMutUntil k)) true room = refl
told-found T A (request.Begin (begin.GetMutUntil k)) false room = refl
told-found T A (request.Begin (begin.TryEntry k)) true room = refl
told-found T A (request.Begin (begin.TryEntry k)) false true = refl
told-found T A (request.Begin (begin.TryEntry k)) false false = tt

-- behind a start
pub told-start : {K V D : Type 0} (T A : Type 0) (a : Ask K V D) (g : Option (Guard K))
    → IsTold (start_phase {T = T} {A = A} a g)
told-start T A (ask.Keyed k) g = tt
told-start T A (ask.Begin b) g = tt
told-start T A (ask.Walk f) g = either-told (stops_at (stop_of f) 0) (phase.Idle f) (phase.Reach f) tt tt
told-start T A (ask.Held h) None = refl
told-start T A (ask.Held (held.Read d)) (Some (guard.Pair way.Shared)) = tt
told-start T A (ask.Held (held.Write d)) (Some (guard.Pair way.Shared)) = refl
told-start T A (ask.Held held.Downgrade) (Some (guard.Pair way.Shared)) = refl
told-start T A (ask.Held (held.Insert v)) (Some (guard.Pair way.Shared)) = refl
told-start T A (ask.Held held.IntoRef) (Some (guard.Pair way.Shared)) = refl
told-start T A (ask.Held held.IntoKey) (Some (guard.Pair way.Shared)) = refl
told-start T A (ask.Held held.Remove) (Some (guard.Pair way.Shared)) = refl
told-start T A (ask.Held held.RemoveEntry) (Some (guard.Pair way.Shared)) = refl
told-start T A (ask.Held (held.ReplaceEntry v)) (Some (guard.Pair way.Shared)) = refl
told-start T A (ask.Held held.Drop) (Some (guard.Pair way.Shared)) = refl
told-start T A (ask.Held (held.Read d)) (Some (guard.Pair way.Exclusive)) = tt
told-start T A (ask.Held (held.Write d)) (Some (guard.Pair way.Exclusive)) = tt
told-start T A (ask.Held held.Downgrade) (Some (guard.Pair way.Exclusive)) = tt
told-start T A (ask.Held (held.Insert v)) (Some (guard.Pair way.Exclusive)) = refl
told-start T A (ask.Held held.IntoRef) (Some (guard.Pair way.Exclusive)) = refl
told-start T A (ask.Held held.IntoKey) (Some (guard.Pair way.Exclusive)) = refl
told-start T A (ask.Held held.Remove) (Some (guard.Pair way.Exclusive)) = refl
told-start T A (ask.Held held.RemoveEntry) (Some (guard.Pair way.Exclusive)) = refl
told-start T A (ask.Held (held.ReplaceEntry v)) (Some (guard.Pair way.Exclusive)) = refl
told-start T A (ask.Held held.Drop) (Some (guard.Pair way.Exclusive)) = refl
told-start T A (ask.Held (held.Read d)) (Some (guard.Pair (way.Occupied k))) = tt
told-start T A (ask.Held (held.Write d)) (Some (guard.Pair (way.Occupied k))) = tt
told-start T A (ask.Held held.Downgrade) (Some (guard.Pair (way.Occupied k))) = refl
told-start T A (ask.Held (held.Insert v)) (Some (guard.Pair (way.Occupied k))) = tt
told-start T A (ask.Held held.IntoRef) (Some (guard.Pair (way.Occupied k))) = refl
told-start T A (ask.Held held.IntoKey) (Some (guard.Pair (way.Occupied k))) = refl
told-start T A (ask.Held held.Remove) (Some (guard.Pair (way.Occupied k))) = tt
told-start T A (ask.Held held.RemoveEntry) (Some (guard.Pair (way.Occupied k))) = tt
told-start T A (ask.Held (held.ReplaceEntry v)) (Some (guard.Pair (way.Occupied k))) = tt
told-start T A (ask.Held held.Drop) (Some (guard.Pair (way.Occupied k))) = refl
told-start T A (ask.Held (held.Read d)) (Some (guard.Vacant k)) = refl
told-start T A (ask.Held (held.Write d)) (Some (guard.Vacant k)) = refl
told-start T A (ask.Held held.Downgrade) (Some (guard.Vacant k)) = refl
told-start T A (ask.Held (held.Insert v)) (Some (guard.Vacant k)) = tt
told-start T A (ask.Held held.IntoRef) (Some (guard.Vacant k)) = refl
told-start T A (ask.Held held.IntoKey) (Some (guard.Vacant k)) = refl
told-start T A (ask.Held held.Remove) (Some (guard.Vacant k)) = refl
told-start T A (ask.Held held.RemoveEntry) (Some (guard.Vacant k)) = refl
told-start T A (ask.Held (held.ReplaceEntry v)) (Some (guard.Vacant k)) = refl
told-start T A (ask.Held held.Drop) (Some (guard.Vacant k)) = refl

-- a walk is told what it has read or counted
told-walk : {K V D T A : Type 0} (f : Walk D) (reads : List T) (n : ℕ) (a : Answer K V T A) → IsWalkTold f reads n a
    → is_locked a ≡ false
told-walk (walk.Iter d stop) reads n a h = ap is_locked h.is
told-walk (walk.IterMut d stop) reads n a h = ap is_locked h.is
told-walk (walk.Retain d) reads n a h = ap is_locked h
told-walk (walk.AlterAll d) reads n a h = ap is_locked h
told-walk walk.Clear reads n a h = ap is_locked h
told-walk walk.Len reads n a h = ap is_locked h
told-walk walk.IsEmpty reads n a h = ap is_locked h
told-walk walk.Capacity reads n a h = ap is_locked h
told-walk walk.ShrinkToFit reads n a h = ap is_locked h

pub told-leads : {K V D T A : Type 0} (f : Walk D) (ends done : Bool) (reads : List T) (n : ℕ) (next : Phase K V D T A)
    (kept : List T) → LeadsOn f ends done reads n next kept → IsTold next
told-leads f true done reads n next kept h = subst IsTold (sym h.2) (told-walk f reads n h.0 h.1)
told-leads f false true reads n next kept h =
    subst IsTold (sym h.0) (either-told (hands_over f) (phase.Onward f) (phase.Give f) tt tt)
told-leads f false false reads n next kept h = subst IsTold (sym h.0) tt
