-- Each kind of step is paid for by the steps that are left.
use Rattle.std.proofs.Common.{◌≡◌, ℕ, ◌+◌, ◌-◌, ◌≤◌, Bool, true, false, if◌then◌else◌, List, length, Option, None, Some}
use Rattle.std.proofs.Common.{slice_get, slice_set, is_some, refl, ap, arith}
use Rattle.mapworld_calls.specs.declared.block.Block.{Block}
use Rattle.mapworld_calls.specs.Calls.{held_answer, keyed_leaves, held_leaves, pair_in}
use Rattle.mapworld_calls.specs.Pairs.{pair_of}
use Rattle.mapworld_calls.specs.Programs.{keyed_key}
use Rattle.mapworld_calls.specs.Setup.{Setup, Laws}
use Rattle.parking_lot_machine_calls.specs.declared.calls.LockCall.TheVariants as call
use Rattle.parking_lot_machine.specs.Ranks.{steps_left}
use Rattle.parking_lot_machine.specs.Rows.{state}
use Rattle.mapworld_state.specs.Locks.Fits.{LocksFit}
use Rattle.mapworld_state.specs.Locks.Views.{Shown}
use Rattle.mapworld_state.specs.declared.step.Step.{Step}
use Rattle.mapworld_state.specs.Core.{adds}
use Rattle.mapworld_state.specs.Shards.{ShardPairs, Puts, has_room, number_of}
use Rattle.mapworld_state.specs.Holds.{gives_up}
use Rattle.mapworld_state.specs.Moves.{ends_guard, lent, request_key, block_behind, changed_phase, found_guard}
use Rattle.mapworld_state.specs.Moves.{found_phase, request_of}
use Rattle.mapworld_state.specs.Places.{Place}
use Rattle.mapworld_state.specs.State.{State}
use Rattle.mapworld_state.specs.Steps.{Answers, Appends, Applies, Changes, Downgrades, Fills, Finds, GrowsShard}
use Rattle.mapworld_state.specs.Steps.{IsRefusedGrowth, MovesLock, Reads, Releases, Views}
use Rattle.mapworld.specs.Progress.Left.{left, phase_left}
use Rattle.mapworld_state.proofs.LocksFacts.Lawful.{lawful-moves}
use Rattle.mapworld.proofs.ProgressFacts.Counting.{fresh-added, fresh-alike, fresh-put}
use Rattle.mapworld.proofs.ProgressFacts.Coming.{TablesBy, same, one, StaysVisited, adds-most, seen-counted, seen-ended}
use Rattle.mapworld.proofs.ProgressFacts.Coming.{seen-listed, seen-same}
use Rattle.mapworld.proofs.ProgressFacts.Falling.{changed_plain, changed_takes, falls_beside, falls_by, falls_plain}
use Rattle.mapworld.proofs.ProgressFacts.Falling.{found_plain, found_takes, given_most, own-todo, grown_plain}
use Rattle.mapworld.proofs.ProgressFacts.Falling.{grown_takes}
use Rattle.mapworld.proofs.ProgressFacts.Falling.{started_costs}

-- what a step leaves of each part
module _ {K V S D T A : Type 0} (v u : State K V S D T A) (e : v ≡ u) where
  pub places-are : v.places ≡ u.places
  places-are = ap (λ (z : State K V S D T A). z.places) e

  pub locks-are : v.locks ≡ u.locks
  locks-are = ap (λ (z : State K V S D T A). z.locks) e

  pub tables-are : v.tables ≡ u.tables
  tables-are = ap (λ (z : State K V S D T A). z.tables) e

  pub blocks-are : v.blocks ≡ u.blocks
  blocks-are = ap (λ (z : State K V S D T A). z.blocks) e

pub at-lock : (t : ℕ) (old new : Shown) → new ≡ old → steps_left (state new.rows) t ≡ steps_left (state old.rows) t
at-lock t old new = ap (λ (l : Shown). steps_left (state l.rows) t)

pub seen-to : {K : Type 0} (eq : K → K → Bool) (bs bs' bs'' : List (Block K)) → bs'' ≡ bs' → StaysVisited eq bs bs'
    → StaysVisited eq bs bs''
seen-to eq bs bs' bs'' e seen i k is = seen-same eq bs' bs'' e i k (seen i k is)

number-found : {X : Type 0} (o : Option X) (y : X) → o ≡ Some y → number_of o ≡ 1
number-found o y e = ap number_of e

pub number-most : {X : Type 0} (o : Option X) → number_of o ≤ 1
number-most None = omega arith
number-most (Some y) = omega arith

module _ {K V S D T A : Type 0} (x : Setup K V D T) (laws : Laws x) (w : State K V S D T A) (s : Step)
    (w' : State K V S D T A) where
  abbrev m : ℕ
  m = length w.places

  -- how many shards are left behind the one that the place is at
  abbrev more : Place K V D T A → ℕ
  more p = length w.tables - (p.shard + 1)

  abbrev Falls : Type 0
  Falls = left x w' s.thread + 1 ≤ left x w s.thread

  -- a shard where the key's pair gives way to what it has now
  pub put-there : (p : Place K V D T A) (table changed : ShardPairs K V) (key : K) (o : Option (K × V)) (z : K × V)
      → slice_get w.tables p.shard ≡ Some table → w'.tables ≡ slice_set w.tables p.shard changed
      → Puts x.eq table changed key o
      → pair_of x.eq table.items key ≡ Some z → TablesBy x.eq w.tables w'.tables 0
  put-there p table changed key o z at e puts was =
      one p.shard table changed at e
      (omega (arith, puts.counted, number-found (pair_of x.eq table.items key) z was, number-most o))
      (λ keys. let few = fresh-put x.eq laws.equivalence keys table changed key o puts z was in omega (arith, few))

  -- or with a pair more
  added-there : (p : Place K V D T A) (table changed : ShardPairs K V) (key : K) (v : V)
      → slice_get w.tables p.shard ≡ Some table → w'.tables ≡ slice_set w.tables p.shard changed
      → Puts x.eq table changed key (Some (key, v)) → TablesBy x.eq w.tables w'.tables 1
  added-there p table changed key v at e puts =
      one p.shard table changed at e (omega (arith, puts.counted))
      (λ keys. fresh-added x.eq laws.equivalence keys table changed key (Some (key, v)) puts (key, v)
      (laws.equivalence.refl key))

  pub finds_fall : Finds x w s w' → Falls
  finds_fall h =
      let there : Bool = is_some (pair_of x.eq h.table.items (request_key h.request)) in
      let room : Bool = has_room h.table in
      let p' : Place K V D T A =
      record h.place {
        block = block_behind h.done (length w.blocks) h.place.block;
        guard = found_guard h.request there room;
        phase = found_phase h.request there room;
      } in
      falls_beside x laws w w' s.thread h.place p' h.stands (places-are w' _ h.after) 0 (same (tables-are w' _ h.after))
      (omega (arith, ap adds h.before, adds-most (found_phase {T = T} {A = A} h.request there room)))
      (seen-to x.eq w.blocks h.blocks w'.blocks (blocks-are w' _ h.after)
      (seen-listed x.eq w s.thread h.place h.done h.blocks h.listed))
      (locks-are w' _ h.after) refl (found_plain x w' p' h.request there room)
      (omega (arith, ap (phase_left m (more h.place)) h.before, found_takes T A m (more h.place) h.request there room))

  pub grows_fall : GrowsShard x w s w' → Falls
  grows_fall h =
      let p' : Place K V D T A =
      record h.place {
        block = Some (length w.blocks);
        guard = found_guard {D = D} (request_of h.call) false true;
        phase = found_phase (request_of h.call) false true;
      } in
      falls_beside x laws w w' s.thread h.place p' h.stands (places-are w' _ h.after) 0
      (one h.place.shard h.table h.grown h.held (tables-are w' _ h.after) (omega (arith, h.grows.counted))
      (λ keys. let few = fresh-alike x.eq laws.equivalence keys h.table h.grown h.grows.distinct h.grows.found in
      omega (arith, few)))
      (omega (arith, ap adds h.before, adds-most (found_phase {D = D} {T = T} {A = A} (request_of h.call) false true)))
      (seen-to x.eq w.blocks h.blocks w'.blocks (blocks-are w' _ h.after)
      (seen-listed x.eq w s.thread h.place _ h.blocks h.listed))
      (locks-are w' _ h.after) refl (grown_plain x w' p' h.call)
      (omega (arith, ap (phase_left m (more h.place)) h.before, grown_takes D T A m (more h.place) h.call))

  pub refused_fall : IsRefusedGrowth x w s w' → Falls
  refused_fall h =
      falls_beside x laws w w' s.thread h.place _ h.stands (places-are w' _ h.after) 0 (same (tables-are w' _ h.after))
      (omega (arith, ap adds h.before))
      (seen-same x.eq w.blocks w'.blocks (blocks-are w' _ h.after)) (locks-are w' _ h.after) refl refl
      (omega (arith, ap (phase_left m (more h.place)) h.before))

  pub appends_fall : Appends x w s w' → Falls
  appends_fall h =
      falls_beside x laws w w' s.thread h.place _ h.stands (places-are w' _ h.after) 1
      (added-there h.place h.table h.changed h.key h.value h.held (tables-are w' _ h.after) h.puts)
      (omega (arith, ap adds h.before))
      (seen-to x.eq w.blocks h.blocks w'.blocks (blocks-are w' _ h.after)
      (seen-counted x.eq w.blocks h.place.block h.place.next h.blocks h.counted))
      (locks-are w' _ h.after) refl refl (omega (arith, ap (phase_left m (more h.place)) h.before))

  pub applies_fall : Applies x w s w' → Falls
  applies_fall h =
      falls_beside x laws w w' s.thread h.place _ h.stands (places-are w' _ h.after) 0
      (put-there h.place h.table h.changed (keyed_key h.call) (keyed_leaves x.deeds h.call (Some h.pair)) h.pair h.held
      (tables-are w' _ h.after) h.puts h.found) (omega (arith, ap adds h.before))
      (seen-to x.eq w.blocks h.blocks w'.blocks (blocks-are w' _ h.after)
      (seen-counted x.eq w.blocks h.place.block h.place.next h.blocks h.counted))
      (locks-are w' _ h.after) refl refl (omega (arith, ap (phase_left m (more h.place)) h.before))

  pub views_fall : Views x w s w' → Falls
  views_fall h =
      falls_beside x laws w w' s.thread h.place _ h.stands (places-are w' _ h.after) 0 (same (tables-are w' _ h.after))
      (omega (arith, ap adds h.before))
      (seen-to x.eq w.blocks h.blocks w'.blocks (blocks-are w' _ h.after)
      (seen-listed x.eq w s.thread h.place (Some 1) h.blocks h.listed))
      (locks-are w' _ h.after) refl refl (omega (arith, ap (phase_left m (more h.place)) h.before))

  pub reads_fall : Reads x w s w' → Falls
  reads_fall h =
      falls_beside x laws w w' s.thread h.place _ h.stands (places-are w' _ h.after) 0 (same (tables-are w' _ h.after))
      (omega (arith, ap adds h.before))
      (seen-to x.eq w.blocks h.blocks w'.blocks (blocks-are w' _ h.after)
      (seen-counted x.eq w.blocks h.place.block h.place.next h.blocks h.counted))
      (locks-are w' _ h.after) refl refl (omega (arith, ap (phase_left m (more h.place)) h.before))

  pub changes_fall : Changes x w s w' → Falls
  changes_fall h =
      let p' : Place K V D T A =
      record h.place {
        guard = if ends_guard h.call then None else h.place.guard;
        phase = changed_phase (ends_guard h.call) (held_answer x.deeds h.call (lent h.kind h.pair));
      } in
      falls_beside x laws w w' s.thread h.place p' h.stands (places-are w' _ h.after) 0
      (put-there h.place h.table h.changed h.key (pair_in (held_leaves x.deeds h.call (lent h.kind h.pair))) h.pair
      h.held (tables-are w' _ h.after) h.puts h.found)
      (omega (
        arith,
        ap adds h.before,
        adds-most (changed_phase {D = D} (ends_guard h.call)
            (held_answer {A = A} x.deeds h.call (lent h.kind h.pair))),
      ))
      (seen-to x.eq w.blocks h.blocks w'.blocks (blocks-are w' _ h.after)
      (seen-counted x.eq w.blocks h.place.block h.place.next h.blocks h.counted))
      (locks-are w' _ h.after) refl
      (changed_plain x w' p' (ends_guard h.call) (held_answer x.deeds h.call (lent h.kind h.pair)))
      (omega (
        arith,
        ap (phase_left m (more h.place)) h.before,
        changed_takes D m (more h.place) (ends_guard h.call)
            (held_answer {A = A} x.deeds h.call (lent h.kind h.pair)),
      ))

  pub fills_fall : Fills x w s w' → Falls
  fills_fall h =
      falls_beside x laws w w' s.thread h.place _ h.stands (places-are w' _ h.after) 1
      (added-there h.place h.table h.changed h.key h.value h.held (tables-are w' _ h.after) h.puts)
      (omega (arith, ap adds h.before))
      (seen-to x.eq w.blocks h.blocks w'.blocks (blocks-are w' _ h.after)
      (seen-counted x.eq w.blocks h.place.block h.place.next h.blocks h.counted))
      (locks-are w' _ h.after) refl refl (omega (arith, ap (phase_left m (more h.place)) h.before))

  -- an answer, which has a thread's next call before it
  pub answers_fall : Answers x w s w' → Falls
  answers_fall h =
      falls_beside x laws w w' s.thread h.place _ h.stands (places-are w' _ h.after) 0 (same (tables-are w' _ h.after))
      (omega (arith, ap adds h.before))
      (seen-to x.eq w.blocks h.blocks w'.blocks (blocks-are w' _ h.after)
      (seen-ended x.eq w.blocks h.place.block h.place.visits h.place.next _ h.blocks h.ended))
      (locks-are w' _ h.after) refl refl (omega (arith, ap (phase_left m (more h.place)) h.before))

  pub moves_fall : LocksFit w.locks → MovesLock x w s w' → Falls
  moves_fall fit h =
      let still : w'.blocks ≡ w.blocks = blocks-are w' _ h.after in
      let tables = same (tables-are w' _ h.after) in
      let seen = seen-same x.eq w.blocks w'.blocks still in
      falls_by x laws w w' s.thread h.place h.place h.stands (places-are w' _ h.after) 0 tables (omega arith) seen refl
      (omega (
        arith,
        at-lock s.thread h.locks w'.locks (locks-are w' _ h.after),
        (lawful-moves s.thread s.fair w.locks h.locks fit h.moves).pays,
        own-todo x laws w w' s.thread h.place h.place h.stands (places-are w' _ h.after) 0 tables (omega arith) seen
            h.place h.place.phase,
      ))

  -- those that begin a call at a lock, whose threads are the places
  module _ (size : length (state w.locks.rows).calls ≡ m) (fit : LocksFit w.locks) where
    pub downgrades_fall : Downgrades x w s w' → Falls
    downgrades_fall h =
        let paid = started_costs s.thread h.hold.shard call.Downgrade s.fair w.locks h.locks fit h.turns in
        falls_plain x laws w w' s.thread h.place _ h.stands (places-are w' _ h.after) 0 (same (tables-are w' _ h.after))
        (omega (arith, ap adds h.before))
        (seen-to x.eq w.blocks h.blocks w'.blocks (blocks-are w' _ h.after)
        (seen-counted x.eq w.blocks h.place.block h.place.next h.blocks h.counted))
        refl refl (omega (
          arith,
          at-lock s.thread h.locks w'.locks (locks-are w' _ h.after),
          ap (phase_left m (more h.place)) h.before,
          paid,
          size,
        ))

    pub releases_fall : Releases x w s w' → Falls
    releases_fall h =
        let n = length (state w.locks.rows).calls in
        let paid = started_costs s.thread h.hold.shard (gives_up h.hold.mode) s.fair w.locks h.locks fit h.gives in
        falls_plain x laws w w' s.thread h.place _ h.stands (places-are w' _ h.after) 0 (same (tables-are w' _ h.after))
        (omega (arith, ap adds h.before))
        (seen-to x.eq w.blocks h.blocks w'.blocks (blocks-are w' _ h.after)
        (seen-counted x.eq w.blocks (if is_some h.place.guard then h.place.block else None) h.place.next h.blocks
        h.counted))
        refl refl (omega (
          arith,
          at-lock s.thread h.locks w'.locks (locks-are w' _ h.after),
          ap (phase_left m (more h.place)) h.before,
          paid,
          given_most n h.hold.mode,
          size,
        ))
