-- What the code knows of a walk between its shards.
use Rattle.std.proofs.Common.{◌≡◌, ◌≢◌, ℕ, zero, suc, ◌+◌, ◌<◌, ◌≤◌, ◌==◌, Bool, true, false, not, List, [], ◌∷◌}
use Rattle.std.proofs.Common.{length, ◌^◌, ◌++◌, drop, ne_eqb, inl, inr, is_none, MatchBool, Option, Some, None}
use Rattle.std.proofs.Common.{slice_get, refl, sym, ap, ◌∙◌, subst, arith}
use Rattle.std.proofs.lemmas.Bool.{cases_Bool, false≢true}
use Rattle.std.proofs.lemmas.Option.{none-some}
use Rattle.dashmap_table.specs.Slots.{at, count, IsNextFull}
use Rattle.dashmap_table.specs.Table.{Table}
use Rattle.mapworld_calls.specs.declared.ask.Walk.{Walk}
use Rattle.mapworld_calls.specs.declared.ask.Walk.TheVariants as walk
use Rattle.mapworld_calls.specs.declared.block.Block.{Block}
use Rattle.mapworld_calls.specs.declared.reply.Answer.{Answer}
use Rattle.mapworld_calls.specs.Agrees.{HasRead}
use Rattle.mapworld_calls.specs.Programs.{stop_of}
use Rattle.mapworld_state.specs.declared.holds.Mode.{Mode}
use Rattle.mapworld_state.specs.declared.holds.Hold.{Hold}
use Rattle.mapworld_state.specs.declared.place.Phase.{Phase}
use Rattle.mapworld_state.specs.declared.place.Phase.TheVariants as phase
use Rattle.mapworld_state.specs.declared.place.Place.{Place as KeptPlace}
use Rattle.mapworld_state.specs.Places.{Place}
use Rattle.mapworld_state.specs.Sound.{HoldsShard, KeepsOver}
use Rattle.mapworld_state.specs.Moves.{stops_at}
use Rattle.mapworld_state.specs.Shards.{ShardPairs}
use Rattle.mapworld_state.specs.Walks.{gives_items, is_visited, entered_phase, IsLookedAt, IsTold}
use Rattle.mapworld_calls.proofs.Lists.{slice_get-push_at}
use Rattle.mapworld_transitions.proofs.Visits.{full-has, left-from}
use Rattle.mapworld_state.specs.Slots.{phase_key, FitsReads, IsNextSlot, SlotIsNext}
use Rattle.mapworld_state.specs.Core.{owes, adds, lists, walk_lists, phase_lists, IsBefore}
use Rattle.mapworld_state.proofs.HoldsTable.{none-there, only-first}

module _ {K V D T A : Type 0} where
  -- it keeps one hold over at the most
  pub kept-few : (p : Place K V D T A) (mode : Mode) (n : ℕ) → KeepsOver p mode n → length p.holds ≤ 1
  kept-few p mode zero none = let is = ap length none in omega (arith, is)
  kept-few p mode (suc n) h = let is = ap length h.1 in omega (arith, is)

  -- between two visits it has no hold of the next shard
  pub between-apart : (p : Place K V D T A) (mode : Mode) (over : Bool)
      → MatchBool over (HoldsShard p mode) (p.holds ≡ []) → (i : ℕ) (h : Hold) → slice_get p.holds i ≡ Some h
      → h.shard ≢ p.shard + 1
  between-apart p mode true held i h has is =
      let same = ap (λ (z : Hold). z.shard) (only-first p.holds held.hold i h held.has has).1 in let own = held.shard in
      omega (arith, same, own, is)
  between-apart p mode false none i h has is = none-there p.holds i h none has

  -- the phase behind an admission, by whether there was a hold before
  pub reaches-to : (f : Walk D) (holds : List Hold) (b : Bool) (ph : Phase K V D T A) → b ≡ not (length holds == 0)
      → ph ≡ entered_phase f holds → MatchBool b (ph ≡ phase.Part f) (ph ≡ phase.Visit f)
  reaches-to f [] true ph is goes = absurd (false≢true (sym is))
  reaches-to f [] false ph is goes = goes
  reaches-to f (h ∷ hs) true ph is goes = goes
  reaches-to f (h ∷ hs) false ph is goes = absurd (false≢true (is ∙ some (length hs)))
    where
      some : (n : ℕ) → not (suc n == 0) ≡ true
      some n = ap not (ne_eqb (suc n) 0 (λ e. omega (arith, e)))

  pub before-either : (places : List (Place K V D T A)) (t : ℕ) (p : Place K V D T A) → slice_get places t ≡ Some p
      → (f : Walk D) (b : Bool) → MatchBool b (p.phase ≡ phase.Part f) (p.phase ≡ phase.Visit f)
      → MatchBool b ((g : Walk D) × IsBefore places t (phase.Part g)) ((g : Walk D) × IsBefore places t (phase.Visit g))
  before-either places t p at f true is = (f, record { place = p; stands = at; before = is })
  before-either places t p at f false is = (f, record { place = p; stands = at; before = is })

  -- and what it weighs
  pub record Entered (f : Walk D) (ph : Phase K V D T A) : Type 0 where
    pub owing : owes ph ≡ 1
    pub adding : adds ph ≡ 0
    pub listing : (more : ℕ) → lists more ph ≡ more + 1
    pub lists_are : phase_lists ph ≡ walk_lists f
    pub key : phase_key ph ≡ None
    pub next : (eq : K → K → Bool) (tables : List (Table K V)) (bs : List (Block K)) (p : KeptPlace K V D T A)
        → SlotIsNext eq tables bs p ph

  pub entered : (f : Walk D) (holds : List Hold) → Entered f (entered_phase f holds)
  entered f [] = record {
    owing = refl;
    adding = refl;
    listing = λ more. refl;
    lists_are = refl;
    key = refl;
    next = λ eq tables bs p. tt;
  }
  entered f (h ∷ hs) =
      record {
        owing = refl;
        adding = refl;
        listing = λ more. refl;
        lists_are = refl;
        key = refl;
        next = λ eq tables bs p. tt;
      }

-- a walk that is to give no item is told what it has read, which is nothing
pub told-none : {K V D T A : Type 0} (f : Walk D) (a : Answer K V T A) → stop_of f ≡ Some 0 → IsTold f [] 0 a
    → HasRead [] a
told-none (walk.Iter d stop) a is told = told
told-none (walk.IterMut d stop) a is told = told
told-none f a is told = absurd (none-some 0 is)

-- a look keeps the number of pairs
pub looked-many : {K V D : Type 0} (eq : K → K → Bool) (f : Walk D) (old new : ShardPairs K V) → IsLookedAt eq f old new
    → length new.items ≡ length old.items
looked-many eq walk.ShrinkToFit old new h = h.counted
looked-many eq f old new h = ap (λ (s : ShardPairs _ _). length s.items) h

-- the first pair of a visit, whose block has just been listed
pub first-next : {K V D T A : Type 0} (eq : K → K → Bool) (tables : List (Table K V)) (bs : List (Block K))
    (b : Block K) (visits : List ℕ) (p : KeptPlace K V D T A) (f : Walk D) (new : Table K V) (j : ℕ)
    → IsNextFull new.slots 0 j
    → p.visits.items ≡ visits ++ length bs ∷ [] → length visits ≡ p.shard → b.visited.items ≡ []
    → slice_get tables p.shard ≡ Some new → p.slot ≡ j → stops_at (stop_of f) p.count ≡ false
    → FitsReads f p.reads p.count (count new.slots)
    → IsNextSlot eq tables (bs ++ b ∷ []) p f
first-next eq tables bs b visits p f new j next named number none held slot goes_on fits =
    let d = full-has eq new.slots j next in
    record {
      index = length bs;
      own = ap (λ vs. slice_get vs p.shard) named
          ∙ (ap (slice_get (visits ++ length bs ∷ [])) (sym number) ∙ slice_get-push_at visits (length bs));
      block = b;
      listed = slice_get-push_at bs b;
      table = new;
      held = held;
      entry = d.0;
      there = ap (at new.slots) slot ∙ d.1;
      numbered = subst (λ k. k + 1 < 2 ^ 64) (sym slot) next.numbered;
      done = λ k e lt here. absurd (none-some e (sym (next.first k (omega arith) (subst (λ m. k < m) slot lt)) ∙ here));
      left = λ k e le here. ap (λ ks. is_visited eq ks e.key) none;
      goes_on = goes_on;
      fits = subst (λ k. FitsReads f p.reads p.count (count (drop k new.slots))) (sym slot)
          (subst (FitsReads f p.reads p.count) (left-from new.slots 0 j next) fits);
    }

-- a look that has a pair to go to is of a walk that gives items
pub gives-some : {D : Type 0} (f : Walk D) (next : Option ℕ) → (gives_items f ≡ false → next ≡ None)
    → is_none next ≡ false → gives_items f ≡ true
gives-some f next none some = elim (cases_Bool (gives_items f)) [
  | inl items ↦ items
  | inr counts ↦ absurd (false≢true (sym some ∙ ap is_none (none counts)))
]
