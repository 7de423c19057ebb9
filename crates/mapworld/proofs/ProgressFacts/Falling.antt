-- What phases and calls at locks take, and how the sums of a step fall.
use Rattle.std.proofs.Common.{◌≡◌, ℕ, ◌+◌, ◌-◌, ◌*◌, ◌≤◌, Bool, true, false, List, length, Option, None, Some}
use Rattle.std.proofs.Common.{slice_get, slice_set, count_by, sum_by, refl, ap, ◌∙◌, arith, length-set}
use Rattle.mapworld_calls.proofs.Lists.{sum_by-set}
use Rattle.mapworld_calls.specs.declared.ask.Ask.{Ask}
use Rattle.mapworld_calls.specs.declared.ask.Begin.TheVariants as begin
use Rattle.mapworld_calls.specs.declared.ask.Held.{Held}
use Rattle.mapworld_calls.specs.declared.ask.Held.TheVariants as held
use Rattle.mapworld_calls.specs.declared.ask.Keyed.TheVariants as keyed
use Rattle.mapworld_calls.specs.declared.reply.Answer.{Answer}
use Rattle.mapworld_calls.specs.Setup.{Setup, Laws}
use Rattle.parking_lot_machine_calls.specs.declared.calls.LockCall.{LockCall}
use Rattle.parking_lot_machine.specs.Ranks.{cost, steps_left}
use Rattle.parking_lot_machine.specs.Rows.{state}
use Rattle.mapworld_state.specs.Locks.Fits.{LocksFit}
use Rattle.mapworld_state.specs.Locks.Steps.{LockStarts}
use Rattle.mapworld_state.specs.Locks.Views.{Shown}
use Rattle.mapworld_state.specs.declared.holds.Manner.{Manner}
use Rattle.mapworld_state.specs.declared.holds.Manner.TheVariants.{Waits, Tries, UntilDeadline}
use Rattle.mapworld_state.specs.declared.holds.Mode.{Mode}
use Rattle.mapworld_state.specs.declared.holds.Mode.TheVariants.{Shared, Exclusive}
use Rattle.mapworld_state.specs.declared.place.Growth.{Growth}
use Rattle.mapworld_state.specs.declared.place.Growth.TheVariants as growth
use Rattle.mapworld_state.specs.declared.place.Guard.{Guard}
use Rattle.mapworld_state.specs.declared.place.Guard.TheVariants as guard
use Rattle.mapworld_state.specs.declared.place.Way.TheVariants as way
use Rattle.mapworld_state.specs.declared.place.Request.{Request}
use Rattle.mapworld_state.specs.declared.place.Request.TheVariants as request
use Rattle.mapworld_state.specs.declared.place.Phase.{Phase}
use Rattle.mapworld_state.specs.declared.place.Phase.TheVariants as phase
use Rattle.mapworld_state.specs.Core.{is_walk, may_add}
use Rattle.mapworld_state.specs.Holds.{asks_for, gives_up, wants_for}
use Rattle.mapworld_state.specs.Moves.{changed_phase, found_phase, held_phase, mode_of, request_manner, request_of}
use Rattle.mapworld_state.specs.Places.{Place}
use Rattle.mapworld_state.specs.State.{State}
use Rattle.mapworld_state.specs.Steps.{EntersBy}
use Rattle.mapworld.specs.Progress.Left.{ask_left, call_left, left, pairs_from, phase_left, phase_todo, place_left}
use Rattle.mapworld.specs.Progress.Left.{place_todo, release_left, to_come}
use Rattle.mapworld_state.proofs.LocksFacts.Lawful.{lawful-begins, lawful-starts}
use Rattle.mapworld.proofs.ProgressFacts.Coming.{TablesBy, StaysVisited, asks-todo, behind, phase-todo, place-todo}
use Rattle.mapworld.proofs.ProgressFacts.Coming.{sum-but}
use Rattle.mapworld.proofs.ProgressFacts.Coming.{tables-size}

-- WHAT PHASES TAKE

-- a call on a guard
pub held_takes : {K V D : Type 0} (T A : Type 0) (n more : ℕ) (g : Option (Guard K)) (h : Held V D)
    → phase_left n more (held_phase {T = T} {A = A} g h) ≤ release_left n + 1
held_takes T A n more None h = omega arith
held_takes T A n more (Some (guard.Pair way.Shared)) (held.Read d) = omega arith
held_takes T A n more (Some (guard.Pair way.Shared)) held.Drop = omega arith
held_takes T A n more (Some (guard.Pair way.Shared)) h = omega arith
held_takes T A n more (Some (guard.Pair way.Exclusive)) (held.Read d) = omega arith
held_takes T A n more (Some (guard.Pair way.Exclusive)) (held.Write d) = omega arith
held_takes T A n more (Some (guard.Pair way.Exclusive)) held.Downgrade = omega arith
held_takes T A n more (Some (guard.Pair way.Exclusive)) held.Drop = omega arith
held_takes T A n more (Some (guard.Pair way.Exclusive)) h = omega arith
held_takes T A n more (Some (guard.Pair (way.Occupied k))) (held.Read d) = omega arith
held_takes T A n more (Some (guard.Pair (way.Occupied k))) (held.Write d) = omega arith
held_takes T A n more (Some (guard.Pair (way.Occupied k))) held.Downgrade = omega arith
held_takes T A n more (Some (guard.Pair (way.Occupied k))) (held.Insert v) = omega arith
held_takes T A n more (Some (guard.Pair (way.Occupied k))) held.IntoRef = omega arith
held_takes T A n more (Some (guard.Pair (way.Occupied k))) held.Remove = omega arith
held_takes T A n more (Some (guard.Pair (way.Occupied k))) held.RemoveEntry = omega arith
held_takes T A n more (Some (guard.Pair (way.Occupied k))) (held.ReplaceEntry v) = omega arith
held_takes T A n more (Some (guard.Pair (way.Occupied k))) held.IntoKey = omega arith
held_takes T A n more (Some (guard.Pair (way.Occupied k))) held.Drop = omega arith
held_takes T A n more (Some (guard.Vacant k)) (held.Insert v) = omega arith
held_takes T A n more (Some (guard.Vacant k)) held.IntoKey = omega arith
held_takes T A n more (Some (guard.Vacant k)) held.Drop = omega arith
held_takes T A n more (Some (guard.Vacant k)) h = omega arith

-- a find
pub found_takes : {K V D : Type 0} (T A : Type 0) (n more : ℕ) (r : Request K V D) (there room : Bool)
    → phase_left n more (found_phase {T = T} {A = A} r there room) ≤ release_left n + 2
found_takes T A n more (request.Keyed (keyed.Insert k v)) true room = omega arith
found_takes T A n more (request.Keyed (keyed.Insert k v)) false true = omega arith
found_takes T A n more (request.Keyed (keyed.Insert k v)) false false = omega arith
found_takes T A n more (request.Keyed (keyed.InsertUntil k v)) true room = omega arith
found_takes T A n more (request.Keyed (keyed.InsertUntil k v)) false true = omega arith
found_takes T A n more (request.Keyed (keyed.InsertUntil k v)) false false = omega arith
found_takes T A n more (request.Keyed (keyed.Remove k)) true room = omega arith
found_takes T A n more (request.Keyed (keyed.Remove k)) false room = omega arith
found_takes T A n more (request.Keyed (keyed.RemoveUntil k)) true room = omega arith
found_takes T A n more (request.Keyed (keyed.RemoveUntil k)) false room = omega arith
found_takes T A n more (request.Keyed (keyed.RemoveIf k d)) true room = omega arith
found_takes T A n more (request.Keyed (keyed.RemoveIf k d)) false room = omega arith
found_takes T A n more (request.Keyed (keyed.RemoveIfMut k d)) true room = omega arith
found_takes T A n more (request.Keyed (keyed.RemoveIfMut k d)) false room = omega arith
found_takes T A n more (request.Keyed (keyed.Alter k d)) true room = omega arith
found_takes T A n more (request.Keyed (keyed.Alter k d)) false room = omega arith
found_takes T A n more (request.Keyed (keyed.View k d)) true room = omega arith
found_takes T A n more (request.Keyed (keyed.View k d)) false room = omega arith
found_takes T A n more (request.Keyed (keyed.ContainsKey k)) true room = omega arith
found_takes T A n more (request.Keyed (keyed.ContainsKey k)) false room = omega arith
found_takes T A n more (request.Begin b) true room = omega arith
found_takes T A n more (request.Begin (begin.Get k)) false room = omega arith
found_takes T A n more (request.Begin (begin.GetUntil k)) false room = omega arith
found_takes T A n more (request.Begin (begin.GetMut k)) false room = omega arith
found_takes T A n more (request.Begin (begin.GetMutUntil k)) false room = omega arith
found_takes T A n more (request.Begin (begin.Entry k)) false true = omega arith
found_takes T A n more (request.Begin (begin.Entry k)) false false = omega arith
found_takes T A n more (request.Begin (begin.TryGet k)) false room = omega arith
found_takes T A n more (request.Begin (begin.TryGetMut k)) false room = omega arith
found_takes T A n more (request.Begin (begin.TryEntry k)) false true = omega arith
found_takes T A n more (request.Begin (begin.TryEntry k)) false false = omega arith

-- one whose growth was made
pub grown_takes : {K V : Type 0} (D T A : Type 0) (n more : ℕ) (c : Growth K V)
    → phase_left n more (found_phase {D = D} {T = T} {A = A} (request_of c) false true) ≤ release_left n + 1
grown_takes D T A n more (growth.Insert k v) = omega arith
grown_takes D T A n more (growth.InsertUntil k v) = omega arith
grown_takes D T A n more (growth.Entry k) = omega arith
grown_takes D T A n more (growth.TryEntry k) = omega arith

-- a change of the guarded pair
pub changed_takes : {K V T A : Type 0} (D : Type 0) (n more : ℕ) (ends : Bool) (a : Answer K V T A)
    → phase_left n more (changed_phase {D = D} ends a) ≤ release_left n
changed_takes D n more true a = omega arith
changed_takes D n more false a = omega arith

-- NONE OF THESE IS A WALK'S

module _ {K V S D T A : Type 0} (x : Setup K V D T) (w : State K V S D T A) (p : Place K V D T A) where
  pub held_plain : (g : Option (Guard K)) (h : Held V D) → phase_todo x w p (held_phase g h) ≡ 0
  held_plain None h = refl
  held_plain (Some (guard.Pair way.Shared)) (held.Read d) = refl
  held_plain (Some (guard.Pair way.Shared)) held.Drop = refl
  held_plain (Some (guard.Pair way.Shared)) h = refl
  held_plain (Some (guard.Pair way.Exclusive)) (held.Read d) = refl
  held_plain (Some (guard.Pair way.Exclusive)) (held.Write d) = refl
  held_plain (Some (guard.Pair way.Exclusive)) held.Downgrade = refl
  held_plain (Some (guard.Pair way.Exclusive)) held.Drop = refl
  held_plain (Some (guard.Pair way.Exclusive)) h = refl
  held_plain (Some (guard.Pair (way.Occupied k))) (held.Read d) = refl
  held_plain (Some (guard.Pair (way.Occupied k))) (held.Write d) = refl
  held_plain (Some (guard.Pair (way.Occupied k))) held.Downgrade = refl
  held_plain (Some (guard.Pair (way.Occupied k))) (held.Insert v) = refl
  held_plain (Some (guard.Pair (way.Occupied k))) held.IntoRef = refl
  held_plain (Some (guard.Pair (way.Occupied k))) held.Remove = refl
  held_plain (Some (guard.Pair (way.Occupied k))) held.RemoveEntry = refl
  held_plain (Some (guard.Pair (way.Occupied k))) (held.ReplaceEntry v) = refl
  held_plain (Some (guard.Pair (way.Occupied k))) held.IntoKey = refl
  held_plain (Some (guard.Pair (way.Occupied k))) held.Drop = refl
  held_plain (Some (guard.Vacant k)) (held.Insert v) = refl
  held_plain (Some (guard.Vacant k)) held.IntoKey = refl
  held_plain (Some (guard.Vacant k)) held.Drop = refl
  held_plain (Some (guard.Vacant k)) h = refl

  pub found_plain : (r : Request K V D) (there room : Bool) → phase_todo x w p (found_phase r there room) ≡ 0
  found_plain (request.Keyed (keyed.Insert k v)) true room = refl
  found_plain (request.Keyed (keyed.Insert k v)) false true = refl
  found_plain (request.Keyed (keyed.Insert k v)) false false = refl
  found_plain (request.Keyed (keyed.InsertUntil k v)) true room = refl
  found_plain (request.Keyed (keyed.InsertUntil k v)) false true = refl
  found_plain (request.Keyed (keyed.InsertUntil k v)) false false = refl
  found_plain (request.Keyed (keyed.Remove k)) true room = refl
  found_plain (request.Keyed (keyed.Remove k)) false room = refl
  found_plain (request.Keyed (keyed.RemoveUntil k)) true room = refl
  found_plain (request.Keyed (keyed.RemoveUntil k)) false room = refl
  found_plain (request.Keyed (keyed.RemoveIf k d)) true room = refl
  found_plain (request.Keyed (keyed.RemoveIf k d)) false room = refl
  found_plain (request.Keyed (keyed.RemoveIfMut k d)) true room = refl
  found_plain (request.Keyed (keyed.RemoveIfMut k d)) false room = refl
  found_plain (request.Keyed (keyed.Alter k d)) true room = refl
  found_plain (request.Keyed (keyed.Alter k d)) false room = refl
  found_plain (request.Keyed (keyed.View k d)) true room = refl
  found_plain (request.Keyed (keyed.View k d)) false room = refl
  found_plain (request.Keyed (keyed.ContainsKey k)) true room = refl
  found_plain (request.Keyed (keyed.ContainsKey k)) false room = refl
  found_plain (request.Begin b) true room = refl
  found_plain (request.Begin (begin.Get k)) false room = refl
  found_plain (request.Begin (begin.GetUntil k)) false room = refl
  found_plain (request.Begin (begin.GetMut k)) false room = refl
  found_plain (request.Begin (begin.GetMutUntil k)) false room = refl
  found_plain (request.Begin (begin.Entry k)) false true = refl
  found_plain (request.Begin (begin.Entry k)) false false = refl
  found_plain (request.Begin (begin.TryGet k)) false room = refl
  found_plain (request.Begin (begin.TryGetMut k)) false room = refl
  found_plain (request.Begin (begin.TryEntry k)) false true = refl
  found_plain (request.Begin (begin.TryEntry k)) false false = refl

  pub grown_plain : (c : Growth K V) → phase_todo x w p (found_phase (request_of c) false true) ≡ 0
  grown_plain (growth.Insert k v) = refl
  grown_plain (growth.InsertUntil k v) = refl
  grown_plain (growth.Entry k) = refl
  grown_plain (growth.TryEntry k) = refl

  pub changed_plain : (ends : Bool) (a : Answer K V T A) → phase_todo x w p (changed_phase ends a) ≡ 0
  changed_plain true a = refl
  changed_plain false a = refl

-- WHAT CALLS AT A LOCK COST

pub asked_most : (n : ℕ) (m : Mode) → cost n (asks_for m) ≤ 108
asked_most n Shared = omega arith
asked_most n Exclusive = omega arith

pub wanted_most : (n : ℕ) (manner : Manner) (m : Mode) → cost n (wants_for manner m) ≤ 108
wanted_most n Waits m = asked_most n m
wanted_most n Tries Shared = omega arith
wanted_most n Tries Exclusive = omega arith
wanted_most n UntilDeadline Shared = omega arith
wanted_most n UntilDeadline Exclusive = omega arith

pub given_most : (n : ℕ) (m : Mode) → cost n (gives_up m) + 1 ≤ release_left n
given_most n Shared = omega arith
given_most n Exclusive = omega arith

-- one that begins with its first act
pub started_costs : (t shard : ℕ) (what : LockCall) (fair : Bool) (old new : Shown)
    → LocksFit old → LockStarts t shard what fair old new
    → steps_left (state new.rows) t + 1 ≤ steps_left (state old.rows) t + cost (length (state old.rows).calls) what
started_costs t shard what fair old new fit h =
    omega (
      arith,
      (lawful-begins t shard what old h.mid fit h.begins).costs,
      (lawful-starts t shard what fair old new fit h).pays,
    )

-- what a start begins at a shard's lock, with the phase that it leads to, where that isn't a walk's
pub entered_costs : {K V D T A : Type 0} (t shard more : ℕ) (f : Phase K V D T A) (old new : Shown)
    → phase_left (length (state old.rows).calls) more f ≤ release_left (length (state old.rows).calls) + 3
    → LocksFit old → EntersBy t shard f old new
    → steps_left (state new.rows) t + phase_left (length (state old.rows).calls) more f + 1 ≤ steps_left
    (state old.rows) t + call_left (length (state old.rows).calls)
entered_costs t shard more (phase.Admit r) old new few fit h =
    omega (
      arith,
      (lawful-begins t shard _ old new fit h).costs,
      wanted_most (length (state old.rows).calls) (request_manner r) (mode_of r),
    )
entered_costs t shard more (phase.Reach f) old new few fit h = absurd (omega (arith, few))
entered_costs t shard more phase.Rest old new few fit same =
    omega (arith, few, ap (λ (l : Shown). steps_left (state l.rows) t) same)
entered_costs t shard more (phase.Find r) old new few fit same =
    omega (arith, few, ap (λ (l : Shown). steps_left (state l.rows) t) same)
entered_costs t shard more (phase.Grow c) old new few fit same =
    omega (arith, few, ap (λ (l : Shown). steps_left (state l.rows) t) same)
entered_costs t shard more (phase.Append k v) old new few fit same =
    omega (arith, few, ap (λ (l : Shown). steps_left (state l.rows) t) same)
entered_costs t shard more (phase.Apply k) old new few fit same =
    omega (arith, few, ap (λ (l : Shown). steps_left (state l.rows) t) same)
entered_costs t shard more (phase.View k d) old new few fit same =
    omega (arith, few, ap (λ (l : Shown). steps_left (state l.rows) t) same)
entered_costs t shard more (phase.Read d) old new few fit same =
    omega (arith, few, ap (λ (l : Shown). steps_left (state l.rows) t) same)
entered_costs t shard more (phase.Change h) old new few fit same =
    omega (arith, few, ap (λ (l : Shown). steps_left (state l.rows) t) same)
entered_costs t shard more (phase.Fill v) old new few fit same =
    omega (arith, few, ap (λ (l : Shown). steps_left (state l.rows) t) same)
entered_costs t shard more phase.Downgrade old new few fit same =
    omega (arith, few, ap (λ (l : Shown). steps_left (state l.rows) t) same)
entered_costs t shard more (phase.Idle f) old new few fit same =
    omega (arith, few, ap (λ (l : Shown). steps_left (state l.rows) t) same)
entered_costs t shard more (phase.Part f) old new few fit same =
    omega (arith, few, ap (λ (l : Shown). steps_left (state l.rows) t) same)
entered_costs t shard more (phase.Visit f) old new few fit same =
    omega (arith, few, ap (λ (l : Shown). steps_left (state l.rows) t) same)
entered_costs t shard more (phase.Seek f) old new few fit same =
    omega (arith, few, ap (λ (l : Shown). steps_left (state l.rows) t) same)
entered_costs t shard more (phase.Item f) old new few fit same =
    omega (arith, few, ap (λ (l : Shown). steps_left (state l.rows) t) same)
entered_costs t shard more (phase.Give f) old new few fit same =
    omega (arith, few, ap (λ (l : Shown). steps_left (state l.rows) t) same)
entered_costs t shard more (phase.Onward f) old new few fit same =
    omega (arith, few, ap (λ (l : Shown). steps_left (state l.rows) t) same)
entered_costs t shard more (phase.Release a) old new few fit same =
    omega (arith, few, ap (λ (l : Shown). steps_left (state l.rows) t) same)
entered_costs t shard more (phase.Answer a) old new few fit same =
    omega (arith, few, ap (λ (l : Shown). steps_left (state l.rows) t) same)

-- THE SUMS OF A STEP

-- the place p of thread t is now p', a shard has at most d pairs more, which the place could have added, and the locks
-- are other ones
module _ {K V S D T A : Type 0} (x : Setup K V D T) (laws : Laws x) (w w' : State K V S D T A) (t : ℕ)
    (p p' : Place K V D T A) (here : slice_get w.places t ≡ Some p) (are : w'.places ≡ slice_set w.places t p')
    (d : ℕ) (tables : TablesBy x.eq w.tables w'.tables d) (adding : may_add p' + d ≤ may_add p)
    (seen : StaysVisited x.eq w.blocks w'.blocks) where
  abbrev n : ℕ
  n = length w.places

  abbrev m : ℕ
  m = length w.tables

  same_size : length w'.places ≡ n
  same_size = ap length are ∙ length-set w.places t p'

  pays : to_come w'.places + d ≤ to_come w.places
  pays = omega (arith, adding, ap to_come are, sum_by-set may_add w.places t p p' here)

  pub own-todo : (q : Place K V D T A) (f : Phase K V D T A) → phase_todo x w' q f ≤ phase_todo x w q f
  own-todo q f = phase-todo x laws w w' d tables pays seen q f

  -- what its pairs from one shard on, and those that may come, are no more
  pub own-behind : (i : ℕ) → pairs_from w'.tables i + to_come w'.places ≤ pairs_from w.tables i + to_come w.places
  own-behind i = behind x laws w w' d tables pays seen i

  lefts : sum_by (place_left (length w'.places) (length w'.tables)) w'.places + place_left n m p ≡ sum_by
      (place_left n m) w.places + place_left n m p'
  lefts =
      let size : sum_by (place_left (length w'.places) (length w'.tables)) w'.places ≡ sum_by (place_left n m) w'.places
      =
      ap (λ k. sum_by (place_left k (length w'.tables)) w'.places) same_size
      ∙ ap (λ k. sum_by (place_left n k) w'.places) (tables-size x.eq w.tables w'.tables d tables) in
      let list : sum_by (place_left n m) w'.places ≡ sum_by (place_left n m) (slice_set w.places t p') =
      ap (λ ps. sum_by (place_left n m) ps) are in
      omega (arith, size, list, sum_by-set (place_left n m) w.places t p p' here)

  todos : sum_by (place_todo x w') w'.places + place_todo x w p ≤ sum_by (place_todo x w) w.places + place_todo x w' p'
  todos =
      let list : sum_by (place_todo x w') w'.places ≡ sum_by (place_todo x w') (slice_set w.places t p') =
      ap (λ ps. sum_by (place_todo x w') ps) are in
      omega (
        arith,
        list,
        sum_by-set (place_todo x w') w.places t p p' here,
        sum-but (place_todo x w) (place_todo x w') w.places t p here (place-todo x laws w w' d tables pays seen),
      )

  -- what the place takes less pays for the step, and for what the locks take more
  pub falls : steps_left (state w'.locks.rows) t + place_left n m p' + 2 * place_todo x w' p' + 1 ≤ steps_left
      (state w.locks.rows) t + place_left n m p + 2 * place_todo x w p → left x w' t + 1 ≤ left x w t
  falls paid = omega (arith, paid, lefts, todos)

  -- the calls that haven't started stay
  pub falls_by : p'.asks ≡ p.asks
      → steps_left (state w'.locks.rows) t + phase_left n (m - (p'.shard + 1)) p'.phase + 2 * phase_todo x w' p'
      p'.phase + 1 ≤ steps_left (state w.locks.rows) t + phase_left n (m - (p.shard + 1)) p.phase + 2 * phase_todo x
      w p p.phase
      → left x w' t + 1 ≤ left x w t
  falls_by asks paid =
      falls (omega (
        arith,
        paid,
        ap (λ (xs : List (Ask K V D)). sum_by (ask_left n m) xs) asks,
        ap (λ (xs : List (Ask K V D)). count_by is_walk xs * (pairs_from w'.tables 0 + to_come w'.places)) asks,
        asks-todo x laws w w' d tables pays seen (count_by is_walk p.asks),
      ))

  -- what ends with no step of its own takes no more
  pub keeps_by : p'.asks ≡ p.asks
      → steps_left (state w'.locks.rows) t + phase_left n (m - (p'.shard + 1)) p'.phase + 2 * phase_todo x w' p'
      p'.phase ≤ steps_left (state w.locks.rows) t + phase_left n (m - (p.shard + 1)) p.phase + 2 * phase_todo x w p
      p.phase
      → left x w' t ≤ left x w t
  keeps_by asks paid =
      omega (
        arith,
        paid,
        lefts,
        todos,
        ap (λ (xs : List (Ask K V D)). sum_by (ask_left n m) xs) asks,
        ap (λ (xs : List (Ask K V D)). count_by is_walk xs * (pairs_from w'.tables 0 + to_come w'.places)) asks,
        asks-todo x laws w w' d tables pays seen (count_by is_walk p.asks),
      )

  -- a step that leads to no walk's phase
  pub falls_plain : p'.asks ≡ p.asks → phase_todo x w' p' p'.phase ≡ 0 → steps_left (state w'.locks.rows) t + phase_left
      n (m - (p'.shard + 1)) p'.phase + 1 ≤ steps_left (state w.locks.rows) t + phase_left n (m - (p.shard + 1)) p.phase
      → left x w' t + 1 ≤ left x w t
  falls_plain asks plain paid = falls_by asks (omega (arith, paid, plain))

  -- and changes nothing of the locks
  pub falls_beside : w'.locks ≡ w.locks → p'.asks ≡ p.asks → phase_todo x w' p' p'.phase ≡ 0
      → phase_left n (m - (p'.shard + 1)) p'.phase + 1 ≤ phase_left n (m - (p.shard + 1)) p.phase
      → left x w' t + 1 ≤ left x w t
  falls_beside locks asks plain paid =
      falls_plain asks plain (omega (arith, paid, ap (λ (l : Shown). steps_left (state l.rows) t) locks))
