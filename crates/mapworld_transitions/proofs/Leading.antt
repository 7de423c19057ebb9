-- Where a look or a deed leads a walk.
use Rattle.std.proofs.Common.{◌≡◌, ℕ, ◌+◌, ◌≤◌, Bool, true, false, ◌||◌, ◌&&◌, ◌==◌, if◌then◌else◌, List, None, refl}
use Rattle.std.proofs.Common.{sym, subst, arith}
use Rattle.std.specs.List.{list_any}
use Rattle.std.proofs.lemmas.Bool.{false≢true}
use Rattle.dashmap_table.specs.Table.{Table}
use Rattle.mapworld_calls.specs.declared.ask.Walk.{Walk}
use Rattle.mapworld_calls.specs.declared.block.Block.{Block}
use Rattle.mapworld_calls.specs.Programs.{stop_of}
use Rattle.mapworld_state.specs.declared.place.Phase.{Phase}
use Rattle.mapworld_state.specs.declared.place.Phase.TheVariants as phase
use Rattle.mapworld_state.specs.declared.place.Place.{Place as KeptPlace}
use Rattle.mapworld_state.specs.Places.{Place}
use Rattle.mapworld_state.specs.Classes.{class_of, walks_in}
use Rattle.mapworld_state.specs.Moves.{stops_at}
use Rattle.mapworld_state.specs.Walks.{hands_over, walk_ends, LeadsOn}
use Rattle.mapworld_state.specs.Slots.{phase_key, IsNextSlot, SlotIsNext}
use Rattle.mapworld_state.specs.Core.{owes, adds, lists, may_visit, may_walk}

-- what a phase of a walk weighs behind a look
pub record Led {K V D T A : Type 0} (ph : Phase K V D T A) : Type 0 where
  pub owing : owes ph ≡ 1
  pub adding : adds ph ≡ 0
  pub listing : (more : ℕ) → lists more ph ≤ more
  pub key : phase_key ph ≡ None

module _ {K V D T A : Type 0} where
  led-behind : (f : Walk D) (b : Bool) → Led {K = K} {V = V} {D = D} {T = T} {A = A}
      (if b then phase.Onward f else phase.Give f)
  led-behind f true = record { owing = refl; adding = refl; listing = λ more. omega arith; key = refl }
  led-behind f false = record { owing = refl; adding = refl; listing = λ more. omega arith; key = refl }

  -- it leads to an answer, to a pair or behind the visit
  pub led : (f : Walk D) (ends done : Bool) (reads : List T) (count : ℕ) (next : Phase K V D T A) (kept : List T)
      → LeadsOn f ends done reads count next kept → Led next
  led f true done reads count next kept h = subst (λ (z : Phase K V D T A). Led z) (sym h.2)
      (record { owing = refl; adding = refl; listing = λ more. omega arith; key = refl })
  led f false true reads count next kept h = subst (λ (z : Phase K V D T A). Led z) (sym h.0)
      (led-behind f (hands_over f))
  led f false false reads count next kept h = subst (λ (z : Phase K V D T A). Led z) (sym h.0)
      (record { owing = refl; adding = refl; listing = λ more. omega arith; key = refl })

  next-behind : (eq : K → K → Bool) (tables : List (Table K V)) (bs : List (Block K)) (p : KeptPlace K V D T A)
      (f : Walk D) (b : Bool) → SlotIsNext eq tables bs p (if b then phase.Onward f else phase.Give f)
  next-behind eq tables bs p f true = tt
  next-behind eq tables bs p f false = tt

  -- the next pair is where it is looked for next
  pub led-next : (eq : K → K → Bool) (tables : List (Table K V)) (bs : List (Block K)) (p : KeptPlace K V D T A)
      (f : Walk D) (ends done : Bool) (reads : List T) (count : ℕ) (next : Phase K V D T A) (kept : List T)
      → LeadsOn f ends done reads count next kept → (ends ≡ false → done ≡ false → IsNextSlot eq tables bs p f)
      → SlotIsNext eq tables bs p next
  led-next eq tables bs p f true done reads count next kept h at = subst (SlotIsNext eq tables bs p) (sym h.2) tt
  led-next eq tables bs p f false true reads count next kept h at = subst (SlotIsNext eq tables bs p) (sym h.0)
      (next-behind eq tables bs p f (hands_over f))
  led-next eq tables bs p f false false reads count next kept h at = subst (SlotIsNext eq tables bs p) (sym h.0)
      (at refl refl)

  -- a walk that is in a visit may still come to a shard
  pub in-walk : (p : Place K V D T A) → walks_in (class_of p.phase) ≡ true → may_walk p ≡ true
  in-walk p h = by (list_any may_visit p.asks) (walks_in (class_of p.phase)) h
    where
      by : (b c : Bool) → c ≡ true → (b || c) ≡ true
      by true c e = refl
      by false c e = e

-- a walk that goes on has items left to give
pub goes-below : {D : Type 0} (shards : ℕ) (f : Walk D) (shard : ℕ) (done : Bool) (n : ℕ)
    → walk_ends shards f shard done n ≡ false → stops_at (stop_of f) n ≡ false
goes-below shards f shard done n h = by (stops_at (stop_of f) n) (done && (shard + 1 == shards)) h
  where
    by : (b c : Bool) → (b || c) ≡ false → b ≡ false
    by true c e = absurd (false≢true (sym e))
    by false c e = refl

-- it leads where the same number of shards, pairs and reads lead
pub leads-same : {K V D T A : Type 0} (f : Walk D) (shard shards shards' : ℕ) (done done' : Bool)
    (reads reads' : List T) (count count' : ℕ) (next : Phase K V D T A) (kept : List T) → shards ≡ shards'
    → done ≡ done' → reads ≡ reads' → count ≡ count'
    → LeadsOn f (walk_ends shards f shard done count) done reads count next kept
    → LeadsOn f (walk_ends shards' f shard done' count') done' reads' count' next kept
leads-same f shard shards shards' done done' reads reads' count count' next kept e1 e2 e3 e4 h =
    subst (λ n. LeadsOn f (walk_ends n f shard done' count') done' reads' count' next kept) e1
    (subst (λ b. LeadsOn f (walk_ends shards f shard b count') b reads' count' next kept) e2
    (subst (λ rs. LeadsOn f (walk_ends shards f shard done count') done rs count' next kept) e3
    (subst (λ n. LeadsOn f (walk_ends shards f shard done n) done reads n next kept) e4 h)))
