-- Programs: which calls stand in a session, and what each needs.
use Rattle.std.specs.Prelude.{◌≡◌, ℕ, zero, suc, ◌-◌, ◌<◌, ◌^◌, min, Bool, true, false, ◌&&◌, ◌||◌, not}
use Rattle.std.specs.Prelude.{if◌then◌else◌, List}
use Rattle.std.specs.Prelude.{[], ◌∷◌, Option, Some, None, slice_get}
use Rattle.mapworld_calls.specs.declared.ask.Ask.{Ask}
use Rattle.mapworld_calls.specs.declared.ask.Ask.TheVariants as ask
use Rattle.mapworld_calls.specs.declared.ask.Held.{Held}
use Rattle.mapworld_calls.specs.declared.ask.Held.TheVariants as held
use Rattle.mapworld_calls.specs.declared.ask.Keyed.{Keyed}
use Rattle.mapworld_calls.specs.declared.ask.Keyed.TheVariants as keyed
use Rattle.mapworld_calls.specs.declared.ask.Begin.{Begin}
use Rattle.mapworld_calls.specs.declared.ask.Begin.TheVariants as begin
use Rattle.mapworld_calls.specs.declared.ask.Walk.{Walk}
use Rattle.mapworld_calls.specs.declared.ask.Walk.TheVariants as walk

-- whether a call on the guard is its last
abbrev pub is_drop : {V D : Type 0} → Held V D → Bool
is_drop (held.Read d) = false
is_drop (held.Write d) = false
is_drop held.Downgrade = false
is_drop (held.Insert v) = false
is_drop held.IntoRef = false
is_drop held.Remove = false
is_drop held.RemoveEntry = false
is_drop (held.ReplaceEntry v) = false
is_drop held.IntoKey = false
is_drop held.Drop = true

-- whether a call is one on the guard
abbrev pub is_held : {K V D : Type 0} → Ask K V D → Bool
is_held (ask.Keyed k) = false
is_held (ask.Begin b) = false
is_held (ask.Held h) = true
is_held (ask.Walk f) = false

-- the session that stands open behind a call: an opening begins one, and a drop ends it
abbrev pub session_behind : {K V D : Type 0} → ℕ → Option (Ask K V D) → Option ℕ → Option ℕ
session_behind c (Some (ask.Begin b)) s = Some c
session_behind c (Some (ask.Held h)) s = if is_drop h then None else s
session_behind c (Some (ask.Keyed k)) s = s
session_behind c (Some (ask.Walk f)) s = s
session_behind c None s = s

-- the opening whose session call c stands in, if there is one
abbrev pub opening_before : {K V D : Type 0} → List (Ask K V D) → ℕ → Option ℕ
opening_before program zero = None
opening_before program (suc c) = session_behind c (slice_get program c) (opening_before program c)

-- the call is one of a guard's, and not its last
abbrev pub IsBeforeDrop : {K V D : Type 0} → Option (Ask K V D) → Type 0
IsBeforeDrop {K} {V} {D} a = (h : Held V D) × (a ≡ Some (ask.Held h)) × (is_drop h ≡ false)

-- each opening has its drop behind it, with nothing but calls on the guard between
abbrev pub HoldsOneGuard : {K V D : Type 0} → List (Ask K V D) → Type 0
HoldsOneGuard {K} {V} {D} program =
    (i : ℕ) (b : _) → slice_get program i ≡ Some (ask.Begin b)
    → (j : ℕ) × (i < j) × (slice_get program j ≡ Some (ask.Held held.Drop))
    × ((k : ℕ) → i < k → k < j → IsBeforeDrop (slice_get program k))

-- whether a program that stands in a session, or does not, holds one guard at a time
abbrev pub one_guard : {K V D : Type 0} → Bool → List (Ask K V D) → Bool
one_guard false [] = true
one_guard true [] = false
one_guard false (ask.Keyed k ∷ asks) = one_guard false asks
one_guard true (ask.Keyed k ∷ asks) = false
one_guard false (ask.Begin b ∷ asks) = one_guard true asks
one_guard true (ask.Begin b ∷ asks) = false
one_guard false (ask.Walk f ∷ asks) = one_guard false asks
one_guard true (ask.Walk f ∷ asks) = false
one_guard within (ask.Held h ∷ asks) = one_guard (within && not (is_drop h)) asks

-- a number as a counter of 64 bits has it, which stays at its greatest
abbrev pub saturated : ℕ → ℕ
saturated n = min n (2 ^ 64 - 1)

-- how many guard numbers a call takes in a world of so many shards
abbrev pub numbers_of : {K V D : Type 0} → ℕ → Ask K V D → ℕ
numbers_of shards (ask.Keyed k) = 1
numbers_of shards (ask.Begin b) = 1
numbers_of shards (ask.Held h) = 0
numbers_of shards (ask.Walk f) = shards

-- the key that a call names
abbrev pub keyed_key : {K V D : Type 0} → Keyed K V D → K
keyed_key (keyed.Insert k v) = k
keyed_key (keyed.Remove k) = k
keyed_key (keyed.RemoveIf k d) = k
keyed_key (keyed.RemoveIfMut k d) = k
keyed_key (keyed.Alter k d) = k
keyed_key (keyed.View k d) = k
keyed_key (keyed.ContainsKey k) = k
keyed_key (keyed.InsertUntil k v) = k
keyed_key (keyed.RemoveUntil k) = k

abbrev pub opening_key : {K : Type 0} → Begin K → K
opening_key (begin.Get k) = k
opening_key (begin.GetMut k) = k
opening_key (begin.Entry k) = k
opening_key (begin.TryGet k) = k
opening_key (begin.TryGetMut k) = k
opening_key (begin.TryEntry k) = k
opening_key (begin.GetUntil k) = k
opening_key (begin.GetMutUntil k) = k

abbrev pub key_of : {K V D : Type 0} → Ask K V D → Option K
key_of (ask.Keyed k) = Some (keyed_key k)
key_of (ask.Begin b) = Some (opening_key b)
key_of (ask.Held h) = None
key_of (ask.Walk f) = None

-- how many items a walk gives before it is dropped, if it is dropped early
abbrev pub stop_of : {D : Type 0} → Walk D → Option ℕ
stop_of (walk.Iter d stop) = stop
stop_of (walk.IterMut d stop) = stop
stop_of f = None

-- the calls that may be refused for memory; the openings that wait for nobody; and the calls that wait until their
-- deadline
abbrev pub may_grow : {K V D : Type 0} → Keyed K V D → Bool
may_grow (keyed.Insert k v) = true
may_grow (keyed.InsertUntil k v) = true
may_grow k = false

abbrev pub opening_may_grow : {K : Type 0} → Begin K → Bool
opening_may_grow (begin.Entry k) = true
opening_may_grow (begin.TryEntry k) = true
opening_may_grow b = false

abbrev pub walk_may_grow : {D : Type 0} → Walk D → Bool
walk_may_grow (walk.Iter d stop) = true
walk_may_grow (walk.IterMut d stop) = true
walk_may_grow walk.ShrinkToFit = true
walk_may_grow f = false

abbrev pub is_try : {K : Type 0} → Begin K → Bool
is_try (begin.TryGet k) = true
is_try (begin.TryGetMut k) = true
is_try (begin.TryEntry k) = true
is_try b = false

abbrev pub keyed_has_deadline : {K V D : Type 0} → Keyed K V D → Bool
keyed_has_deadline (keyed.InsertUntil k v) = true
keyed_has_deadline (keyed.RemoveUntil k) = true
keyed_has_deadline k = false

abbrev pub opening_has_deadline : {K : Type 0} → Begin K → Bool
opening_has_deadline (begin.GetUntil k) = true
opening_has_deadline (begin.GetMutUntil k) = true
opening_has_deadline b = false

abbrev pub has_deadline : {K V D : Type 0} → Ask K V D → Bool
has_deadline (ask.Keyed k) = keyed_has_deadline k
has_deadline (ask.Begin b) = opening_has_deadline b
has_deadline (ask.Held h) = false
has_deadline (ask.Walk f) = false

-- the calls that may be answered `Locked`
abbrev pub opening_may_be_locked : {K : Type 0} → Begin K → Bool
opening_may_be_locked b = is_try b || opening_has_deadline b

abbrev pub may_be_locked : {K V D : Type 0} → Ask K V D → Bool
may_be_locked (ask.Keyed k) = keyed_has_deadline k
may_be_locked (ask.Begin b) = opening_may_be_locked b
may_be_locked (ask.Held h) = false
may_be_locked (ask.Walk f) = false
