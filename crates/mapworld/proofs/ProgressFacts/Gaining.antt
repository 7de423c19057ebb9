-- No step adds more than one pair.
use Rattle.std.proofs.Common.{◌≡◌, ℕ, ◌+◌, ◌≤◌, ◌⊎◌, inl, inr, List, length, Option, Some, slice_get, slice_set, ap}
use Rattle.std.proofs.Common.{sym, arith}
use Rattle.std.proofs.lemmas.List.Concat.{length-flat_map}
use Rattle.mapworld_calls.specs.declared.ask.Walk.{Walk}
use Rattle.mapworld_calls.specs.Calls.{visit_leaves}
use Rattle.mapworld_calls.specs.Setup.{Setup, Laws}
use Rattle.mapworld_state.specs.declared.step.Step.{Step}
use Rattle.mapworld_state.specs.Shards.{ShardPairs, Puts}
use Rattle.mapworld_state.specs.State.{State, pairs_of}
use Rattle.mapworld_state.specs.Steps.{IsStep, start, lock, find, find_grows, find_refused, deed_appends, deed_applies}
use Rattle.mapworld_state.specs.Steps.{deed_views, deed_reads, deed_changes, deed_fills, downgrade, release, answers}
use Rattle.mapworld_state.specs.Steps.{visit_starts, visit_parts, visit_looks, visit_seeks, visit_does, visit_gives}
use Rattle.mapworld_state.specs.Steps.{Concludes, owed, locked, idle, Enters, IsRefusedVisit, Leaves, LooksAround}
use Rattle.mapworld_state.specs.Steps.{IsOwnStep, Reaches, by_itself, by_deadline}
use Rattle.mapworld.specs.Progress.Left.{pairs_from}
use Rattle.mapworld.proofs.ProgressFacts.Coming.{pairs-set}
use Rattle.mapworld.proofs.ProgressFacts.Stepping.{number-most, tables-are}
use Rattle.mapworld.proofs.ProgressFacts.Visiting.{item-puts, looked-few}

pub all-pairs : {K V S D T A : Type 0} (w : State K V S D T A) → pairs_from w.tables 0 ≡ length (pairs_of w)
all-pairs w = sym (length-flat_map (λ (t : ShardPairs _ _). t.items) w.tables)

module _ {K V S D T A : Type 0} (x : Setup K V D T) (laws : Laws x) where
  abbrev Gains : State K V S D T A → State K V S D T A → ℕ → Type 0
  Gains w w' d = pairs_from w'.tables 0 ≤ pairs_from w.tables 0 + d

  none-more : (w w' : State K V S D T A) → w'.tables ≡ w.tables → Gains w w' 0
  none-more w w' e = omega (arith, ap (λ (ts : List (ShardPairs K V)). pairs_from ts 0) e)

  set-more : (w w' : State K V S D T A) (shard d : ℕ) (table changed : ShardPairs K V)
      → slice_get w.tables shard ≡ Some table → w'.tables ≡ slice_set w.tables shard changed
      → length changed.items ≤ length table.items + d → Gains w w' d
  set-more w w' shard d table changed at e few =
      omega (
        arith,
        ap (λ (ts : List (ShardPairs K V)). pairs_from ts 0) e,
        pairs-set w.tables shard 0 table changed d at few,
      )

  puts-more : (w w' : State K V S D T A) (shard : ℕ) (table changed : ShardPairs K V) (key : K) (o : Option (K × V))
      → slice_get w.tables shard ≡ Some table → w'.tables ≡ slice_set w.tables shard changed
      → Puts x.eq table changed key o → Gains w w' 1
  puts-more w w' shard table changed key o at e puts = set-more w w' shard 1 table changed at e
      (omega (arith, puts.counted, number-most o))

  module _ (w mid : State K V S D T A) (t : ℕ) where
    enters-more : (mid ≡ w) ⊎ Enters w t mid → Gains w mid 0
    enters-more (inl e) = none-more w mid (tables-are mid w e)
    enters-more (inr h) = none-more w mid (tables-are mid _ h.after)

    ends-more : (mid ≡ w) ⊎ Concludes w t mid → Gains w mid 0
    ends-more (inl e) = none-more w mid (tables-are mid w e)
    ends-more (inr (owed h)) = none-more w mid (tables-are mid _ h.after)
    ends-more (inr (locked h)) = none-more w mid (tables-are mid _ h.after)
    ends-more (inr (idle h)) = none-more w mid (tables-are mid _ h.after)

    begins-more : (mid ≡ w) ⊎ (Reaches w t mid ⊎ Leaves w t mid) → Gains w mid 0
    begins-more (inl e) = none-more w mid (tables-are mid w e)
    begins-more (inr (inl h)) = none-more w mid (tables-are mid _ h.after)
    begins-more (inr (inr h)) = none-more w mid (tables-are mid _ h.after)

    reaches-more : (mid ≡ w) ⊎ Reaches w t mid → Gains w mid 0
    reaches-more (inl e) = none-more w mid (tables-are mid w e)
    reaches-more (inr h) = none-more w mid (tables-are mid _ h.after)

    leaves-more : (mid ≡ w) ⊎ Leaves w t mid → Gains w mid 0
    leaves-more (inl e) = none-more w mid (tables-are mid w e)
    leaves-more (inr h) = none-more w mid (tables-are mid _ h.after)

  looks-more : (w : State K V S D T A) (s : Step) (w' : State K V S D T A) → LooksAround x w s w'
      ⊎ IsRefusedVisit x w s w' → Gains w w' 0
  looks-more w s w' (inl h) =
      let few = looked-few x.eq laws.equivalence h.walk h.table h.behind h.looked in
      set-more w w' h.place.shard 0 h.table h.behind h.held (tables-are w' _ h.after) (omega (arith, few.0))
  looks-more w s w' (inr h) = none-more w w' (tables-are w' _ h.after)

  item-more : (w w' : State K V S D T A) (shard : ℕ) (f : Walk D) (table changed : ShardPairs K V) (pair : K × V)
      → slice_get w.tables shard ≡ Some table → w'.tables ≡ slice_set w.tables shard changed
      → (changed ≡ table) ⊎ Puts x.eq table changed pair.0 (visit_leaves x.deeds f (Some pair)) → Gains w w' 1
  item-more w w' shard f table changed pair at e (inl same) = set-more w w' shard 1 table changed at e
      (omega (arith, ap (λ (z : ShardPairs K V). length z.items) same))
  item-more w w' shard f table changed pair at e (inr puts) = puts-more w w' shard table changed pair.0
      (visit_leaves x.deeds f (Some pair)) at e puts

  own-gains : (w : State K V S D T A) (s : Step) (w' : State K V S D T A) → IsOwnStep x w s w' → Gains w w' 1
  own-gains w s w' (start h) = omega (arith, none-more w w' (tables-are w' _ h.after))
  own-gains w s w' (lock h) = omega (arith, none-more w w' (tables-are w' _ h.after))
  own-gains w s w' (find h) =
      omega (arith, enters-more w h.mid s.thread h.enters, none-more h.mid w' (tables-are w' _ h.finds.after))
  own-gains w s w' (find_grows h) = set-more w w' h.place.shard 1 h.table h.grown h.held (tables-are w' _ h.after)
      (omega (arith, h.grows.counted))
  own-gains w s w' (find_refused h) = omega (arith, none-more w w' (tables-are w' _ h.after))
  own-gains w s w' (deed_appends h) = puts-more w w' h.place.shard h.table h.changed h.key _ h.held
      (tables-are w' _ h.after) h.puts
  own-gains w s w' (deed_applies h) = puts-more w w' h.place.shard h.table h.changed _ _ h.held
      (tables-are w' _ h.after) h.puts
  own-gains w s w' (deed_views h) = omega (arith, none-more w w' (tables-are w' _ h.after))
  own-gains w s w' (deed_reads h) = omega (arith, none-more w w' (tables-are w' _ h.after))
  own-gains w s w' (deed_changes h) = puts-more w w' h.place.shard h.table h.changed h.key _ h.held
      (tables-are w' _ h.after) h.puts
  own-gains w s w' (deed_fills h) = puts-more w w' h.place.shard h.table h.changed h.key _ h.held
      (tables-are w' _ h.after) h.puts
  own-gains w s w' (downgrade h) = omega (arith, none-more w w' (tables-are w' _ h.after))
  own-gains w s w' (release h) = omega (arith, none-more w w' (tables-are w' _ h.after))
  own-gains w s w' (answers h) =
      omega (arith, ends-more w h.mid s.thread h.leaves, none-more h.mid w' (tables-are w' _ h.answers.after))
  own-gains w s w' (visit_starts h) =
      omega (arith, leaves-more w h.mid s.thread h.leaves, none-more h.mid w' (tables-are w' _ h.starts.after))
  own-gains w s w' (visit_parts h) =
      omega (arith, reaches-more w h.mid s.thread h.enters, none-more h.mid w' (tables-are w' _ h.gives.after))
  own-gains w s w' (visit_looks h) = omega (arith, begins-more w h.mid s.thread h.enters, looks-more h.mid s w' h.looks)
  own-gains w s w' (visit_seeks h) = omega (arith, none-more w w' (tables-are w' _ h.after))
  own-gains w s w' (visit_does h) = item-more w w' h.place.shard h.walk h.table h.changed h.pair h.held
      (tables-are w' _ h.after) (item-puts x.deeds x.eq h.walk h.table h.changed h.pair h.item)
  own-gains w s w' (visit_gives h) = omega (arith, none-more w w' (tables-are w' _ h.after))

  gains : (w : State K V S D T A) (s : Step) (w' : State K V S D T A) → IsStep x w s w' → Gains w w' 1
  gains w s w' (by_itself mine step) = own-gains w s w' step
  gains w s w' (by_deadline due h) = omega (arith, none-more w w' (tables-are w' _ h.after))

  pub pairs-gain : (w : State K V S D T A) (s : Step) (w' : State K V S D T A) → IsStep x w s w'
      → length (pairs_of w') ≤ length (pairs_of w) + 1
  pairs-gain w s w' step = omega (arith, gains w s w' step, all-pairs w, all-pairs w')
