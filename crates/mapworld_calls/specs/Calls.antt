-- What each call tells and leaves, of one key of a plain map.
use Rattle.std.specs.Prelude.{Bool, true, false, if◌then◌else◌, List, [], ◌∷◌, Option, Some, None}
use Rattle.mapworld_calls.specs.declared.ask.Ask.{Ask}
use Rattle.mapworld_calls.specs.declared.ask.Ask.TheVariants as ask
use Rattle.mapworld_calls.specs.declared.ask.Keyed.{Keyed}
use Rattle.mapworld_calls.specs.declared.ask.Keyed.TheVariants as keyed
use Rattle.mapworld_calls.specs.declared.ask.Begin.{Begin}
use Rattle.mapworld_calls.specs.declared.ask.Begin.TheVariants as begin
use Rattle.mapworld_calls.specs.declared.ask.Held.{Held}
use Rattle.mapworld_calls.specs.declared.ask.Held.TheVariants as held
use Rattle.mapworld_calls.specs.declared.ask.Walk.{Walk}
use Rattle.mapworld_calls.specs.declared.ask.Walk.TheVariants as walk
use Rattle.mapworld_calls.specs.declared.reply.Answer.{Answer}
use Rattle.mapworld_calls.specs.declared.reply.Answer.TheVariants as answer
use Rattle.mapworld_calls.specs.Deeds.{Deeds}

-- one key between two calls of a block: no guard and the key's pair, if there is one, or a guard with its pair; an
-- entry's guard has the key that was handed in, and a vacant one has no pair
pub data At (K V : Type 0) : Type 0 where
  free : Option (K × V) → At K V
  shared : K × V → At K V
  exclusive : K × V → At K V
  occupied : K → K × V → At K V
  vacant : K → At K V

abbrev pub pair_in : {K V : Type 0} → At K V → Option (K × V)
pair_in (free o) = o
pair_in (shared p) = Some p
pair_in (exclusive p) = Some p
pair_in (occupied k p) = Some p
pair_in (vacant k) = None

-- whether there is no guard
abbrev pub is_free : {K V : Type 0} → At K V → Bool
is_free (free o) = true
is_free s = false

module _ {D K V T : Type 0} (deeds : Deeds D K V T) where
  -- the pair with the deed's effect on its value
  abbrev pub effect_on : D → K × V → K × V
  effect_on d p = (p.0, deeds.effect d p.0 p.1)

  -- a keyed call, by the pair that it finds
  abbrev pub keyed_answer : {A : Type 0} → Keyed K V D → Option (K × V) → Answer K V T A
  keyed_answer (keyed.Insert k w) None = answer.None
  keyed_answer (keyed.Insert k w) (Some p) = answer.Value p.1
  keyed_answer (keyed.Remove k) None = answer.None
  keyed_answer (keyed.Remove k) (Some p) = answer.Pair p.0 p.1
  keyed_answer (keyed.RemoveIf k d) None = answer.None
  keyed_answer (keyed.RemoveIf k d) (Some p) = if deeds.keep d p.0 p.1 then answer.None else answer.Pair p.0 p.1
  keyed_answer (keyed.RemoveIfMut k d) None = answer.None
  keyed_answer (keyed.RemoveIfMut k d) (Some p) =
      if deeds.keep d p.0 p.1 then answer.None else answer.Pair p.0 (deeds.effect d p.0 p.1)
  keyed_answer (keyed.Alter k d) o = answer.Done
  keyed_answer (keyed.View k d) None = answer.None
  keyed_answer (keyed.View k d) (Some p) = answer.Read (deeds.answer d p.0 p.1)
  keyed_answer (keyed.ContainsKey k) None = answer.Flag false
  keyed_answer (keyed.ContainsKey k) (Some p) = answer.Flag true
  keyed_answer (keyed.InsertUntil k w) None = answer.None
  keyed_answer (keyed.InsertUntil k w) (Some p) = answer.Value p.1
  keyed_answer (keyed.RemoveUntil k) None = answer.None
  keyed_answer (keyed.RemoveUntil k) (Some p) = answer.Pair p.0 p.1

  abbrev pub keyed_leaves : Keyed K V D → Option (K × V) → Option (K × V)
  keyed_leaves (keyed.Insert k w) None = Some (k, w)
  keyed_leaves (keyed.Insert k w) (Some p) = Some (p.0, w)
  keyed_leaves (keyed.Remove k) o = None
  keyed_leaves (keyed.RemoveIf k d) None = None
  keyed_leaves (keyed.RemoveIf k d) (Some p) = if deeds.keep d p.0 p.1 then Some p else None
  keyed_leaves (keyed.RemoveIfMut k d) None = None
  keyed_leaves (keyed.RemoveIfMut k d) (Some p) = if deeds.keep d p.0 p.1 then Some (effect_on d p) else None
  keyed_leaves (keyed.Alter k d) None = None
  keyed_leaves (keyed.Alter k d) (Some p) = Some (effect_on d p)
  keyed_leaves (keyed.View k d) o = o
  keyed_leaves (keyed.ContainsKey k) o = o
  keyed_leaves (keyed.InsertUntil k w) None = Some (k, w)
  keyed_leaves (keyed.InsertUntil k w) (Some p) = Some (p.0, w)
  keyed_leaves (keyed.RemoveUntil k) o = None

  -- a walk at a key that it visits, by the pair that it finds: the item that it gives, what is read of it, and what it
  -- leaves
  abbrev pub visit_answer : {A : Type 0} → Walk D → Option (K × V) → Answer K V T A
  visit_answer f None = answer.None
  visit_answer (walk.Iter d stop) (Some p) = answer.Read (deeds.answer d p.0 p.1)
  visit_answer (walk.IterMut d stop) (Some p) = answer.Read (deeds.answer d p.0 p.1)
  visit_answer f (Some p) = answer.Done

  abbrev pub visit_reads : Walk D → Option (K × V) → List T
  visit_reads f None = []
  visit_reads (walk.Iter d stop) (Some p) = deeds.answer d p.0 p.1 ∷ []
  visit_reads (walk.IterMut d stop) (Some p) = deeds.answer d p.0 p.1 ∷ []
  visit_reads f (Some p) = []

  abbrev pub visit_leaves : Walk D → Option (K × V) → Option (K × V)
  visit_leaves f None = None
  visit_leaves (walk.IterMut d stop) (Some p) = Some (effect_on d p)
  visit_leaves (walk.Retain d) (Some p) = if deeds.keep d p.0 p.1 then Some (effect_on d p) else None
  visit_leaves (walk.AlterAll d) (Some p) = Some (effect_on d p)
  visit_leaves walk.Clear (Some p) = None
  visit_leaves f (Some p) = Some p

-- an opening, by the pair that it finds
abbrev pub opening_answer : {K V T A : Type 0} → Begin K → Option (K × V) → Answer K V T A
opening_answer b (Some p) = answer.Held
opening_answer (begin.Entry k) None = answer.Vacant
opening_answer (begin.TryEntry k) None = answer.Vacant
opening_answer b None = answer.None

abbrev pub opened : {K V : Type 0} → Begin K → Option (K × V) → At K V
opened (begin.Get k) (Some p) = shared p
opened (begin.TryGet k) (Some p) = shared p
opened (begin.GetMut k) (Some p) = exclusive p
opened (begin.TryGetMut k) (Some p) = exclusive p
opened (begin.GetUntil k) (Some p) = shared p
opened (begin.GetMutUntil k) (Some p) = exclusive p
opened (begin.Entry k) (Some p) = occupied k p
opened (begin.TryEntry k) (Some p) = occupied k p
opened (begin.Entry k) None = vacant k
opened (begin.TryEntry k) None = vacant k
opened b None = free None

-- a call on the guard; on one of another kind it is answered `WrongGuard` and changes nothing
abbrev pub held_answer : {D K V T A : Type 0} → Deeds D K V T → Held V D → At K V → Answer K V T A
held_answer deeds h (free o) = answer.NoGuard
held_answer deeds (held.Read d) (shared p) = answer.Read (deeds.answer d p.0 p.1)
held_answer deeds (held.Read d) (exclusive p) = answer.Read (deeds.answer d p.0 p.1)
held_answer deeds (held.Read d) (occupied k p) = answer.Read (deeds.answer d p.0 p.1)
held_answer deeds (held.Write d) (exclusive p) = answer.Done
held_answer deeds (held.Write d) (occupied k p) = answer.Done
held_answer deeds held.Downgrade (exclusive p) = answer.Held
held_answer deeds (held.Insert v) (occupied k p) = answer.Value p.1
held_answer deeds (held.Insert v) (vacant k) = answer.Held
held_answer deeds held.IntoRef (occupied k p) = answer.Held
held_answer deeds held.Remove (occupied k p) = answer.Value p.1
held_answer deeds held.RemoveEntry (occupied k p) = answer.Pair p.0 p.1
held_answer deeds (held.ReplaceEntry v) (occupied k p) = answer.Pair p.0 p.1
held_answer deeds held.IntoKey (occupied k p) = answer.Key k
held_answer deeds held.IntoKey (vacant k) = answer.Key k
held_answer deeds held.Drop s = answer.Done
held_answer deeds h s = answer.WrongGuard

abbrev pub held_leaves : {D K V T : Type 0} → Deeds D K V T → Held V D → At K V → At K V
held_leaves deeds h (free o) = free o
held_leaves deeds (held.Write d) (exclusive p) = exclusive (p.0, deeds.effect d p.0 p.1)
held_leaves deeds (held.Write d) (occupied k p) = occupied k (p.0, deeds.effect d p.0 p.1)
held_leaves deeds held.Downgrade (exclusive p) = shared p
held_leaves deeds (held.Insert v) (occupied k p) = occupied k (p.0, v)
held_leaves deeds (held.Insert v) (vacant k) = exclusive (k, v)
held_leaves deeds held.IntoRef (occupied k p) = exclusive p
held_leaves deeds held.Remove (occupied k p) = free None
held_leaves deeds held.RemoveEntry (occupied k p) = free None
held_leaves deeds (held.ReplaceEntry v) (occupied k p) = free (Some (k, v))
held_leaves deeds held.IntoKey (occupied k p) = free (Some p)
held_leaves deeds held.IntoKey (vacant k) = free None
held_leaves deeds held.Drop s = free (pair_in s)
held_leaves deeds h s = s

-- what a call is answered, and what it leaves
abbrev pub told : {D K V T A : Type 0} → Deeds D K V T → Ask K V D → At K V → Answer K V T A
told deeds (ask.Keyed k) s = keyed_answer deeds k (pair_in s)
told deeds (ask.Begin b) s = opening_answer b (pair_in s)
told deeds (ask.Held h) s = held_answer deeds h s
told deeds (ask.Walk f) s = visit_answer deeds f (pair_in s)

abbrev pub after : {D K V T : Type 0} → Deeds D K V T → Ask K V D → At K V → At K V
after deeds (ask.Keyed k) s = free (keyed_leaves deeds k (pair_in s))
after deeds (ask.Begin b) s = opened b (pair_in s)
after deeds (ask.Held h) s = held_leaves deeds h s
after deeds (ask.Walk f) s = free (visit_leaves deeds f (pair_in s))
