-- Where a look or a deed of a walk leads: to the walk's end, to the next pair of its shard, or to its next shard.
use Rattle.std.proofs.Common.{◌≡◌, ℕ, zero, suc, ◌+◌, ◌≤◌, ◌<◌, ◌==◌, ◌&&◌, ◌||◌, ◌⊎◌, ◌≢◌, inl, inr, Bool, true, false}
use Rattle.std.proofs.Common.{not, nat_lt, if◌then◌else◌, List, [], length, map, Option, Some, None, slice_get, refl}
use Rattle.std.proofs.Common.{ap, sym, ◌∙◌, subst, arith, ltb-true, ltb-false}
use Rattle.std.proofs.lemmas.Bool.{cases_eq, false≢true, eq-eqb, ne_eqb}
use Rattle.mapworld_calls.specs.declared.ask.Ask.TheVariants as ask
use Rattle.mapworld_calls.specs.declared.ask.Walk.{Walk}
use Rattle.mapworld_calls.specs.declared.ask.Walk.TheVariants as walk
use Rattle.mapworld_calls.specs.declared.block.Block.{Block}
use Rattle.mapworld_calls.specs.declared.reply.Answer.{Answer}
use Rattle.mapworld_calls.specs.declared.reply.Answer.TheVariants as answer
use Rattle.mapworld_calls.specs.Pairs.{pair_of}
use Rattle.mapworld_calls.specs.Programs.{saturated, stop_of}
use Rattle.mapworld_calls.specs.Setup.{Setup, session_of}
use Rattle.mapworld_calls.specs.Replay.{left, before, IsLastOnShard}
use Rattle.mapworld_calls.specs.Agrees.{Visit, IsVisited, AreWhole, IsBelow, IsAtMost, IsWalkAnswer, IsAnsweredBy}
use Rattle.mapworld_calls.specs.Agrees.{number_of, reads_of}
use Rattle.mapworld_state.specs.declared.holds.Mode.TheVariants.{Exclusive}
use Rattle.mapworld_state.specs.declared.place.Guard.{Guard}
use Rattle.mapworld_state.specs.declared.place.Phase.{Phase}
use Rattle.mapworld_state.specs.declared.place.Phase.TheVariants as phase
use Rattle.mapworld_state.specs.Places.{Place}
use Rattle.mapworld_state.specs.Shards.{ShardPairs}
use Rattle.mapworld_state.specs.Moves.{stops_at}
use Rattle.mapworld_state.specs.Walks.{LeadsOn, IsTold, all_visited, gives_items, hands_over, walk_ends, walk_mode}
use Rattle.mapworld_state.specs.Sound.{Claim, FitsCounter, HasVisited, HoldsShard, IsBetweenVisits, IsCount, IsInCall}
use Rattle.mapworld_state.specs.Sound.{IsOutside, IsReleasing, Walks, block_after, is_resting, may_own}
use Rattle.mapworld_state.specs.Held.{StandsBefore}
use Rattle.mapworld_state.specs.Locks.Stands.{Stand}
use Rattle.mapworld_state.proofs.InvariantFacts.Holding.{owes-none}
use Rattle.mapworld_state.proofs.InvariantFacts.Building.{block_after-none, ready-outside}

-- A WALK'S NUMBERS

stop-reached : (o : Option ℕ) (n k : ℕ) → n ≡ saturated k → stops_at o n ≡ true → IsAtMost o k → o ≡ Some k
stop-reached None n k is reached most = absurd (false≢true reached)
stop-reached (Some stop) n k is reached most =
    let at : stop ≤ n = ltb-false n stop (not-true (nat_lt n stop) reached) in
    ap Some (omega (arith, is, at, most))
  where
    not-true : (b : Bool) → not b ≡ true → b ≡ false
    not-true true h = absurd (false≢true h)
    not-true false h = refl

stop-ahead : (o : Option ℕ) (n k : ℕ) → FitsCounter o → n ≡ saturated k → stops_at o n ≡ false → IsBelow o k
stop-ahead None n k fits is ahead = tt
stop-ahead (Some stop) n k fits is ahead =
    let at : n < stop = ltb-true n stop (not-false (nat_lt n stop) ahead) in
    omega (arith, is, at, fits)
  where
    not-false : (b : Bool) → not b ≡ false → b ≡ true
    not-false true h = refl
    not-false false h = absurd (false≢true (sym h))

saturated-empty : (n : ℕ) → (saturated n == 0) ≡ (n == 0)
saturated-empty zero = eq-eqb (saturated 0) 0 (omega arith)
saturated-empty (suc n) = ne_eqb (saturated (suc n)) 0 (λ e. omega (arith, e))
    ∙ sym (ne_eqb (suc n) 0 (λ e. omega (arith, e)))

module _ {K V D T : Type 0} (x : Setup K V D T) (vs : List (Visit K)) (n : ℕ) where
  -- a walk that has given all its items
  pub ended-by : (f : Walk D) → IsCount x f vs n → stops_at (stop_of f) n ≡ true → IsAtMost (stop_of f) (number_of x vs)
      → stop_of f ≡ Some (number_of x vs)
  ended-by (walk.Iter d stop) c reached most = stop-reached stop n (number_of x vs) c reached most
  ended-by (walk.IterMut d stop) c reached most = stop-reached stop n (number_of x vs) c reached most
  ended-by (walk.Retain d) c reached most = absurd (false≢true reached)
  ended-by (walk.AlterAll d) c reached most = absurd (false≢true reached)
  ended-by walk.Clear c reached most = absurd (false≢true reached)
  ended-by walk.Len c reached most = absurd (false≢true reached)
  ended-by walk.IsEmpty c reached most = absurd (false≢true reached)
  ended-by walk.Capacity c reached most = absurd (false≢true reached)
  ended-by walk.ShrinkToFit c reached most = absurd (false≢true reached)

  -- and one that has some left
  pub ahead-by : (f : Walk D) → FitsCounter (stop_of f) → IsCount x f vs n → stops_at (stop_of f) n ≡ false
      → IsBelow (stop_of f) (number_of x vs)
  ahead-by (walk.Iter d stop) fits c ahead = stop-ahead stop n (number_of x vs) fits c ahead
  ahead-by (walk.IterMut d stop) fits c ahead = stop-ahead stop n (number_of x vs) fits c ahead
  ahead-by (walk.Retain d) fits c ahead = tt
  ahead-by (walk.AlterAll d) fits c ahead = tt
  ahead-by walk.Clear fits c ahead = tt
  ahead-by walk.Len fits c ahead = tt
  ahead-by walk.IsEmpty fits c ahead = tt
  ahead-by walk.Capacity fits c ahead = tt
  ahead-by walk.ShrinkToFit fits c ahead = tt

  -- what it is told is what its visits tell
  pub walk-told : {A : Type 0} (bs : List (Block K)) (f : Walk D) (reads : List T) (a : Answer K V T A)
      → IsTold f reads n a → reads ≡ reads_of x bs f vs → IsCount x f vs n → IsWalkAnswer x bs f vs a
  walk-told bs (walk.Iter d stop) reads a h e c = record { list = h.list; has = h.has ∙ e; is = h.is }
  walk-told bs (walk.IterMut d stop) reads a h e c = record { list = h.list; has = h.has ∙ e; is = h.is }
  walk-told bs (walk.Retain d) reads a h e c = h
  walk-told bs (walk.AlterAll d) reads a h e c = h
  walk-told bs walk.Clear reads a h e c = h
  walk-told bs walk.Len reads a h e c = h ∙ ap answer.Count c
  walk-told bs walk.IsEmpty reads a h e c = h ∙ ap answer.Flag (ap (λ k. k == 0) c ∙ saturated-empty (number_of x vs))
  walk-told bs walk.Capacity reads a h e c = (c.0, c.1, h ∙ ap answer.Count c.2)
  walk-told bs walk.ShrinkToFit reads a h e c = h

or-cases : (a b : Bool) → (a || b) ≡ true → (a ≡ true) ⊎ (b ≡ true)
or-cases true b h = inl refl
or-cases false b h = inr h

and-both : (a b : Bool) → (a && b) ≡ true → (a ≡ true) × (b ≡ true)
and-both true b h = (refl, h)
and-both false b h = absurd (false≢true h)

neither : (a b : Bool) → (a || b) ≡ false → (a ≡ false) × (b ≡ false)
neither true b h = absurd (false≢true (sym h))
neither false b h = (refl, h)

last-none : (a b : Bool) → (a && b) ≡ false → a ≡ true → b ≡ false
last-none true b h is = h
last-none false b h is = absurd (false≢true is)

eqb-false : (m n : ℕ) → (m == n) ≡ false → m ≢ n
eqb-false m n h e = false≢true (sym h ∙ eq-eqb m n e)

eqb-true : (m n : ℕ) → (m == n) ≡ true → m ≡ n
eqb-true m n h = elim (cases_eq m n) [ inl e ↦ e | inr ne ↦ absurd (false≢true (sym (ne_eqb m n ne) ∙ h)) ]

-- A PLACE BEHIND A LOOK OR A DEED

module _ {K V D T A : Type 0} (x : Setup K V D T) (threads : List ℕ) (bs : List (Block K))
    (tables : List (ShardPairs K V)) (t : ℕ) (p : Place K V D T A) (f : Walk D) where
  -- a pair of the visit isn't done
  pub record IsLeft (vs : List (Visit K)) : Type 0 where
    pub items : gives_items f ≡ true
    pub index : ℕ
    pub block : Block K
    pub own : slice_get vs p.shard ≡ Some (record { place = index; block = block })
    pub table : ShardPairs K V
    pub held : slice_get tables p.shard ≡ Some table
    pub there : (q : K) → x.route q ≡ p.shard → pair_of x.eq table.items q ≡ left x block q (before x bs index q)
    pub some : all_visited x.eq block.visited.items table.items ≡ false
    pub last : HoldsShard p Exclusive → IsLastOnShard x bs index block

  module _ (call : IsInCall x threads t p (ask.Walk f)) (outside : IsOutside p) (holds : HoldsShard p (walk_mode f))
      (next_apart : session_of x t (p.next + 1) ≡ None) (fits : FitsCounter (stop_of f)) (within : p.shard < x.shards)
      (vs : List (Visit K)) (named : map (λ v. v.place) vs ≡ p.visits) (visited : IsVisited x bs t p.next f vs)
      (reads : List T) (reads-are : reads ≡ reads_of x bs f vs) (count : IsCount x f vs p.count)
      (number : length vs ≡ p.shard + 1)
      (done : Bool) (whole : done ≡ true → AreWhole x bs vs) (rest : done ≡ false → IsLeft vs) where
    ended : walk_ends x.shards f p.shard done p.count ≡ true → ((length vs ≡ x.shards) × AreWhole x bs vs)
        ⊎ (stop_of f ≡ Some (number_of x vs))
    ended e = elim (or-cases (stops_at (stop_of f) p.count) (done && (p.shard + 1 == x.shards)) e) [
      | inl reached ↦ inr (ended-by x vs p.count f count reached visited.within)
      | inr last ↦ let both = and-both done (p.shard + 1 == x.shards) last in
          inl (number ∙ eqb-true (p.shard + 1) x.shards both.1, whole both.0)
    ]

    abbrev so-far : p.reads ≡ reads → HasVisited x bs t p f
    so-far kept = record { visits = vs; named = named; visited = visited; reads = kept ∙ reads-are; count = count }

    between : done ≡ true → walk_ends x.shards f p.shard done p.count ≡ false → p.reads ≡ reads
        → IsBetweenVisits x bs t p f (p.shard + 1)
    between is e kept =
        let both = neither (stops_at (stop_of f) p.count) (done && (p.shard + 1 == x.shards)) e in
        let more = eqb-false (p.shard + 1) x.shards (last-none done (p.shard + 1 == x.shards) both.1 is) in
        record {
          so_far = so-far kept;
          number = number;
          whole = whole is;
          left = omega (arith, within, more);
          goes_on = ahead-by x vs p.count f fits count both.0;
        }

    answered : (a : Answer K V T A) → IsTold f reads p.count a → walk_ends x.shards f p.shard done p.count ≡ true
        → IsAnsweredBy x bs t p.next (ask.Walk f) a
    answered a told e =
        inl (record {
          visits = vs;
          visited = visited;
          ended = ended e;
          answered = walk-told x vs p.count bs f reads a
              told reads-are count;
        })

    abbrev Stays : Phase K V D T A → Type 0
    Stays g = Claim x threads bs tables t p g × Walks x bs tables t p g

    to-release : (a : Answer K V T A) → IsTold f reads p.count a → walk_ends x.shards f p.shard done p.count ≡ true
        → p.reads ≡ [] → Stays (phase.Release a)
    to-release a told e kept =
        let releasing : IsReleasing x bs tables t p (ask.Walk f) a p.guard =
        subst (λ (g : Option (Guard K)). IsReleasing x bs tables t p (ask.Walk f) a g) (sym outside.1) (
          answered a told e,
          ready-outside x bs tables t p (p.next + 1) (block_after p) next_apart outside.1
              (block_after-none p outside.0),
        ) in
        ((ask.Walk f, holds.hold, call, holds.has, releasing), kept)

    to-seek : done ≡ false → walk_ends x.shards f p.shard done p.count ≡ false → p.reads ≡ reads → Stays (phase.Seek f)
    to-seek is e kept =
        let both = neither (stops_at (stop_of f) p.count) (done && (p.shard + 1 == x.shards)) e in
        let r = rest is in (
          (call, outside, holds),
          record {
            so_far = so-far kept;
            items = r.items;
            number = number;
            within = within;
            goes_on = ahead-by x vs p.count f fits count both.0;
            index = r.index;
            block = r.block;
            own = r.own;
            table = r.table;
            held = r.held;
            there = r.there;
            some = r.some;
            last = r.last;
          },
        )

    to-next : (over : Bool) → hands_over f ≡ over → done ≡ true → walk_ends x.shards f p.shard done p.count ≡ false
        → p.reads ≡ reads → Stays (if over then phase.Onward f else phase.Give f)
    to-next true is d e kept = ((call, outside, rw is holds), between d e kept)
    to-next false is d e kept = ((call, outside, holds, is), between d e kept)

    pub leads : (ends now : Bool) → walk_ends x.shards f p.shard done p.count ≡ ends → done ≡ now
        → (next : Phase K V D T A) (kept : List T) → LeadsOn f ends now reads p.count next kept → p.reads ≡ kept
        → Stays next
    leads true now e is next kept h r = subst (λ (g : Phase K V D T A). Stays g) (sym h.2)
        (to-release h.0 h.1 e (r ∙ h.3))
    leads false false e is next kept h r = subst (λ (g : Phase K V D T A). Stays g) (sym h.0) (to-seek is e (r ∙ h.1))
    leads false true e is next kept h r = subst (λ (g : Phase K V D T A). Stays g) (sym h.0)
        (to-next (hands_over f) refl is e (r ∙ h.1))

-- THE PHASE THAT IT LEADS TO

module _ {K V D T A : Type 0} (f : Walk D) (reads : List T) (n : ℕ) where
  leads-by : (P : Phase K V D T A → Type 0) → ((a : Answer K V T A) → P (phase.Release a)) → P (phase.Seek f)
      → P (phase.Onward f) → P (phase.Give f) → (ends now : Bool) (next : Phase K V D T A) (kept : List T)
      → LeadsOn f ends now reads n next kept → P next
  leads-by P release seek onward give true now next kept h = subst P (sym h.2) (release h.0)
  leads-by P release seek onward give false false next kept h = subst P (sym h.0) seek
  leads-by P release seek onward give false true next kept h = subst P (sym h.0) (by (hands_over f))
    where
      by : (over : Bool) → P (if over then phase.Onward f else phase.Give f)
      by true = onward
      by false = give

  pub leads-rests : (ends now : Bool) (next : Phase K V D T A) (kept : List T) → LeadsOn f ends now reads n next kept
      → is_resting next ≡ false
  leads-rests = leads-by (λ g. is_resting g ≡ false) (λ a. refl) refl refl refl

  pub leads-own : (ends now : Bool) (next : Phase K V D T A) (kept : List T) → LeadsOn f ends now reads n next kept
      → may_own next ≡ true
  leads-own = leads-by (λ g. may_own g ≡ true) (λ a. refl) refl refl refl

  -- it is in no lock's call
  pub leads-out : (p : Place K V D T A) (o : Option Stand) → o ≡ None → (ends now : Bool) (next : Phase K V D T A)
      (kept : List T) → LeadsOn f ends now reads n next kept → StandsBefore p next o
  leads-out p o none = leads-by (λ g. StandsBefore p g o) (λ a. none) none (owes-none p o none) none
