-- How a walk goes from shard to shard.
use Rattle.std.specs.Prelude.{◌≡◌, ℕ, ◌+◌, ◌==◌, Bool, true, false, not, ◌&&◌, ◌||◌, if◌then◌else◌, List, []}
use Rattle.std.specs.Prelude.{◌∷◌, length, map, Some}
use Rattle.std.specs.List.{list_any, list_all}
use Rattle.mapworld_calls.specs.declared.ask.Walk.{Walk}
use Rattle.mapworld_calls.specs.declared.ask.Walk.TheVariants as walk
use Rattle.mapworld_calls.specs.declared.reply.Answer.{Answer}
use Rattle.mapworld_calls.specs.declared.reply.Answer.TheVariants as answer
use Rattle.mapworld_calls.specs.Agrees.{HasRead}
use Rattle.mapworld_calls.specs.Deeds.{Deeds}
use Rattle.mapworld_calls.specs.Calls.{visit_leaves}
use Rattle.mapworld_calls.specs.Programs.{stop_of}
use Rattle.mapworld_state.specs.declared.holds.Mode.{Mode}
use Rattle.mapworld_state.specs.declared.holds.Mode.TheVariants.{Shared, Exclusive}
use Rattle.mapworld_state.specs.declared.holds.Hold.{Hold}
use Rattle.mapworld_state.specs.declared.place.Phase.{Phase}
use Rattle.mapworld_state.specs.declared.place.Phase.TheVariants as phase
use Rattle.mapworld_state.specs.Moves.{stops_at}
use Rattle.mapworld_state.specs.Shards.{ShardPairs, Puts, Shrunk}

-- how a walk holds its shards
abbrev pub walk_mode : {D : Type 0} → Walk D → Mode
walk_mode (walk.Iter d stop) = Shared
walk_mode (walk.IterMut d stop) = Exclusive
walk_mode (walk.Retain d) = Exclusive
walk_mode (walk.AlterAll d) = Exclusive
walk_mode walk.Clear = Exclusive
walk_mode walk.Len = Shared
walk_mode walk.IsEmpty = Shared
walk_mode walk.Capacity = Shared
walk_mode walk.ShrinkToFit = Exclusive

-- whether it takes the next shard before it gives the last one back
abbrev pub hands_over : {D : Type 0} → Walk D → Bool
hands_over (walk.Iter d stop) = true
hands_over (walk.IterMut d stop) = true
hands_over (walk.AlterAll d) = true
hands_over f = false

-- whether it does something at each pair; else its look is all of a visit
abbrev pub gives_items : {D : Type 0} → Walk D → Bool
gives_items (walk.Iter d stop) = true
gives_items (walk.IterMut d stop) = true
gives_items (walk.Retain d) = true
gives_items (walk.AlterAll d) = true
gives_items walk.Clear = true
gives_items f = false

-- whether it reads each pair that it visits, and is answered with a list of what it has read
abbrev pub gives_reads : {D : Type 0} → Walk D → Bool
gives_reads (walk.Iter d stop) = true
gives_reads (walk.IterMut d stop) = true
gives_reads f = false

-- how many holds it has beside the one that it asks for, at the shard of that number
abbrev pub kept_over : {D : Type 0} → Walk D → ℕ → ℕ
kept_over f shard = if hands_over f && not (shard == 0) then 1 else 0

-- the phase behind an admission, by what is held beside
abbrev pub entered_phase : {K V D T A : Type 0} → Walk D → List Hold → Phase K V D T A
entered_phase f [] = phase.Visit f
entered_phase f (hold ∷ holds) = phase.Part f

-- whether a key is one of these, and whether all pairs' keys are
abbrev pub is_visited : {K : Type 0} → (K → K → Bool) → List K → K → Bool
is_visited eq keys q = list_any (λ k. eq k q) keys

abbrev pub all_visited : {K V : Type 0} → (K → K → Bool) → List K → List (K × V) → Bool
all_visited eq keys pairs = list_all (λ p. is_visited eq keys p.0) pairs

-- The keys that a look does at once, and what it adds to the walk's number where the shard has room for m pairs: a walk
-- that counts does all of the shard; one that gives items does none yet.
abbrev pub looked_keys : {K V D : Type 0} → Walk D → List (K × V) → List K
looked_keys f pairs = if gives_items f then [] else map (λ p. p.0) pairs

abbrev pub looked_count : {K V D : Type 0} → Walk D → List (K × V) → ℕ → ℕ
looked_count walk.Capacity pairs m = m
looked_count f pairs m = if gives_items f then 0 else length pairs

-- what a look leaves of the shard
abbrev pub IsLookedAt : {K V D : Type 0} → (K → K → Bool) → Walk D → ShardPairs K V → ShardPairs K V → Type 0
IsLookedAt eq walk.ShrinkToFit old new = Shrunk eq old new
IsLookedAt eq f old new = new ≡ old

-- what a walk leaves of the shard at a pair
abbrev pub IsItemOf : {D K V T : Type 0} → Deeds D K V T → (K → K → Bool) → Walk D → ShardPairs K V → ShardPairs K V → K
    × V → Type 0
IsItemOf deeds eq (walk.Iter d stop) old new pair = new ≡ old
IsItemOf deeds eq f old new pair = Puts eq old new pair.0 (visit_leaves deeds f (Some pair))

-- whether a walk ends behind a look or a deed of n items so far: none is left to give, or the last shard is done
abbrev pub walk_ends : {D : Type 0} → ℕ → Walk D → ℕ → Bool → ℕ → Bool
walk_ends shards f shard done n = stops_at (stop_of f) n || (done && (shard + 1 == shards))

-- what a walk is answered that has read these and come to that number
abbrev pub IsTold : {K V D T A : Type 0} → Walk D → List T → ℕ → Answer K V T A → Type 0
IsTold (walk.Iter d stop) reads n a = HasRead reads a
IsTold (walk.IterMut d stop) reads n a = HasRead reads a
IsTold walk.Len reads n a = a ≡ answer.Count n
IsTold walk.IsEmpty reads n a = a ≡ answer.Flag (n == 0)
IsTold walk.Capacity reads n a = a ≡ answer.Count n
IsTold f reads n a = a ≡ answer.Done

-- the phase behind a visit that isn't the last
abbrev pub behind_visit : {K V D T A : Type 0} → Walk D → Phase K V D T A
behind_visit f = if hands_over f then phase.Onward f else phase.Give f

-- Where a look or a deed leads: to the walk's end, to the next pair of the shard, or to the next shard; and what of its
-- reads the place keeps.
abbrev pub LeadsOn : {K V D T A : Type 0} → Walk D → (ends done : Bool) → List T → ℕ → Phase K V D T A → List T → Type 0
LeadsOn {K} {V} {D} {T} {A} f true done reads n next kept = (a : Answer K V T A) × IsTold f reads n a
    × (next ≡ phase.Release a) × (kept ≡ [])
LeadsOn f false true reads n next kept = (next ≡ behind_visit f) × (kept ≡ reads)
LeadsOn f false false reads n next kept = (next ≡ phase.Seek f) × (kept ≡ reads)
