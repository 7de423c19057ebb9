-- What is so of a phase that is of no walk.
use Rattle.std.proofs.Common.{◌≡◌, ◌≤◌, Bool, true, false, ◌||◌, List, sum_by, refl, sym, ap, ◌∙◌, arith}
use Rattle.std.specs.List.{list_any}
use Rattle.dashmap_table.specs.Table.{Table}
use Rattle.mapworld_calls.specs.declared.block.Block.{Block}
use Rattle.mapworld_state.specs.declared.place.Phase.{Phase}
use Rattle.mapworld_state.specs.declared.place.Phase.TheVariants as phase
use Rattle.mapworld_state.specs.declared.place.Place.{Place as KeptPlace}
use Rattle.mapworld_state.specs.Places.{Place}
use Rattle.mapworld_state.specs.Classes.{class_of, walks_in}
use Rattle.mapworld_state.specs.Core.{may_visit, may_walk, ask_lists, phase_lists, lists_due}
use Rattle.mapworld_state.specs.Slots.{SlotIsNext}

abbrev pub walking : {K V D T A : Type 0} → Phase K V D T A → Bool
walking (phase.Idle f) = true
walking (phase.Reach f) = true
walking (phase.Part f) = true
walking (phase.Visit f) = true
walking (phase.Seek f) = true
walking (phase.Item f) = true
walking (phase.Give f) = true
walking (phase.Onward f) = true
walking f = false

pub or-right : (b c : Bool) → c ≡ false → (b || c) ≡ true → b ≡ true
or-right true c none h = refl
or-right false c none h = sym none ∙ h

pub or-left : (b c : Bool) → b ≡ true → (b || c) ≡ true
or-left true c h = refl
or-left false c h = absurd (cc)

module _ {K V D T A : Type 0} where
  -- there is no next pair of a visit
  pub next-free : (eq : K → K → Bool) (tables : List (Table K V)) (bs : List (Block K)) (p : KeptPlace K V D T A)
      (f : Phase K V D T A) → walking f ≡ false → SlotIsNext eq tables bs p f
  next-free eq tables bs p (phase.Seek f) h = absurd (cc)
  next-free eq tables bs p (phase.Item f) h = absurd (cc)
  next-free eq tables bs p f h = tt

  pub no-walks : (f : Phase K V D T A) → walking f ≡ false → walks_in (class_of f) ≡ false
  no-walks (phase.Reach f) h = absurd (cc)
  no-walks (phase.Part f) h = absurd (cc)
  no-walks (phase.Visit f) h = absurd (cc)
  no-walks (phase.Seek f) h = absurd (cc)
  no-walks (phase.Item f) h = absurd (cc)
  no-walks (phase.Give f) h = absurd (cc)
  no-walks (phase.Onward f) h = absurd (cc)
  no-walks f h = refl

  pub no-lists : (f : Phase K V D T A) → walking f ≡ false → phase_lists f ≡ 0
  no-lists (phase.Idle f) h = absurd (cc)
  no-lists (phase.Reach f) h = absurd (cc)
  no-lists (phase.Part f) h = absurd (cc)
  no-lists (phase.Visit f) h = absurd (cc)
  no-lists (phase.Seek f) h = absurd (cc)
  no-lists (phase.Item f) h = absurd (cc)
  no-lists (phase.Give f) h = absurd (cc)
  no-lists (phase.Onward f) h = absurd (cc)
  no-lists f h = refl

  -- a place that isn't in a walk, and has the same calls to come, needs no more room for walks
  pub plain-visits : (p q : Place K V D T A) → q.asks ≡ p.asks → walking q.phase ≡ false → may_walk q ≡ true
      → may_walk p ≡ true
  plain-visits p q asks none h =
      or-left (list_any may_visit p.asks) (walks_in (class_of p.phase))
      (ap (list_any may_visit) (sym asks) ∙ or-right (list_any may_visit q.asks) (walks_in (class_of q.phase))
      (no-walks q.phase none) h)

  pub plain-lists : (p q : Place K V D T A) → q.asks ≡ p.asks → walking q.phase ≡ false → lists_due q ≤ lists_due p
  plain-lists p q asks none = let same = ap (sum_by ask_lists) asks in let zero = no-lists q.phase none in
      omega (arith, same, zero)
