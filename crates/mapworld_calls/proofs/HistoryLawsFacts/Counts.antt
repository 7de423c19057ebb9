-- Where the map stays as it is between a walk's visits, they have done as many keys as it has pairs.
use Rattle.std.proofs.Common.{◌≡◌, ℕ, ◌≤◌, ◌==◌, ⊎_elim, true, List, length, map, Some, None, is_some, slice_get}
use Rattle.std.proofs.Common.{IsSome, sum, refl, ap, sym, ◌∙◌, arith}
use Rattle.std.proofs.lemmas.List.{length-map}
use Rattle.std.proofs.lemmas.List.Concat.{length-flat_map}
use Rattle.std.proofs.lemmas.Option.{none-some}
use Rattle.mapworld_calls.specs.declared.reply.Reply.{Reply}
use Rattle.mapworld_calls.specs.Programs.{stop_of, walk_may_grow, saturated}
use Rattle.mapworld_calls.specs.declared.block.Block.{Block}
use Rattle.mapworld_calls.specs.Pairs.{has_key, pair_of}
use Rattle.mapworld_calls.specs.declared.ask.Ask.TheVariants as ask
use Rattle.mapworld_calls.specs.declared.ask.Walk.{Walk}
use Rattle.mapworld_calls.specs.declared.ask.Walk.TheVariants as walk
use Rattle.mapworld_calls.specs.declared.reply.Answer.{Answer}
use Rattle.mapworld_calls.specs.declared.reply.Answer.TheVariants as answer
use Rattle.mapworld_calls.specs.Setup.{Setup, Laws, ask_at}
use Rattle.mapworld_calls.specs.Replay.{done_keys, before}
use Rattle.mapworld_calls.specs.Agrees.{Visit, IsVisited, IsWalked, AreWhole, number_of, AreCapacities}
use Rattle.mapworld_calls.specs.HistoryLaws.Worlds.{IsWorld, RouteWithin, StandsBetween, IsLeftAlone}
use Rattle.mapworld_calls.specs.HistoryLaws.Walks.{keys_given, AreOnce}
use Rattle.mapworld_calls.specs.HistoryLaws.Counts.{AreThePairs, CountsThem, CountsAreNumbers}
use Rattle.mapworld_calls.proofs.HistoryLawsFacts.Joined.{Passes, joined-cases, mapped-at, mapped-cases}
use Rattle.mapworld_calls.proofs.HistoryLawsFacts.Matched.{HasEach, length-le, find-passes, find-there, what-is_there}
use Rattle.mapworld_calls.proofs.HistoryLawsFacts.Matched.{sum_by-le}
use Rattle.mapworld_calls.proofs.HistoryLawsFacts.Walks.{done-route, of-visit, done-there, given-once, found-first}
use Rattle.mapworld_calls.proofs.HistoryLawsFacts.Walks.{given-alone, walked}

module _ {K V D T A : Type 0} (w : Setup K V D T) (laws : Laws w) (routed : RouteWithin w) (bs : List (Block K))
    (replies : List (Reply K V T A)) (world : IsWorld w bs replies) (t c : ℕ) (f : Walk D)
    (asked : ask_at w t c ≡ Some (ask.Walk f))
    (first last : ℕ) (stands : StandsBetween bs t c first last) (alone : (q : K) → IsLeftAlone w bs t c first last q)
    (pairs : List (K × V)) (are : AreThePairs w bs first pairs)
    (vs : List (Visit K)) (visited : IsVisited w bs t c f vs) (all : length vs ≡ w.shards) (whole : AreWhole w bs vs)
  where
    abbrev pub the_keys : List K
    the_keys = map (λ (p : K × V). p.0) pairs

    keys-once : AreOnce w.eq the_keys
    keys-once m n j k hm hn e =
        let a = mapped-cases (λ (p : K × V). p.0) pairs m j hm in
        let b = mapped-cases (λ (p : K × V). p.0) pairs n k hn in
        are.distinct m n a.0 b.0 a.1 b.1 (ap (λ x. w.eq x b.0.0) a.2 ∙ ap (λ x. w.eq j x) b.2 ∙ e)

    is-there : (k : K) (i : ℕ) → before w bs i k ≡ before w bs first k → IsSome (before w bs i k)
        → IsSome (pair_of w.eq pairs k)
    is-there k i same there = ap is_some (are.are k ∙ sym same) ∙ there

    found-key : (k : K) → Passes (has_key w.eq k) pairs → Passes (λ j. w.eq k j) the_keys
    found-key k p =
        let same : w.eq k p.1.0 ≡ true = laws.equivalence.symm k p.1.0 ∙ p.3 in
        (p.0, p.1.0, mapped-at (λ (p : K × V). p.0) pairs p.0 p.1 p.2, same)

    -- each key that was given has a pair
    given-have : HasEach w.eq (keys_given w vs) the_keys
    given-have m k at =
        let g = joined-cases (λ v. done_keys w v.block) vs m k at in
        let is = visited.are g.piece g.whole g.at in
        let of = of-visit w laws bs replies world t c f asked g.piece g.whole is in
        let same : before w bs g.whole.place k ≡ before w bs first k = found-first w laws bs replies world t c f asked
        first last stands k (alone k) g.whole.place g.whole.block of
        (sym (done-route w g.whole.block g.inner k g.inside)) in
        let there : IsSome (pair_of w.eq pairs k) =
        is-there k g.whole.place same
        (done-there w laws bs replies world t c f asked g.whole.place g.whole.block of g.inner k g.inside) in
        found-key k (find-passes (has_key w.eq k) pairs there)

    -- and each pair's key was given
    pairs-given : HasEach w.eq the_keys (keys_given w vs)
    pairs-given m k at =
        let a = mapped-cases (λ (p : K × V). p.0) pairs m k at in
        let there : IsSome (pair_of w.eq pairs k) = find-there (has_key w.eq k) pairs m a.0 a.1
        (ap (λ x. w.eq x k) a.2 ∙ laws.equivalence.refl k) in
        let p = what-is_there (pair_of w.eq pairs k) there in
        let within = routed k in
        let given = given-alone w laws bs replies world t c f asked vs visited whole first last stands k p.0
        (omega (arith, within, all)) (sym (are.are k) ∙ p.1) (alone k) in
        (given.place, given.key, given.listed, laws.equivalence.symm k given.key ∙ given.same)

    pub number-is : number_of w vs ≡ length pairs
    number-is =
        let up = length-le w.eq laws.equivalence (keys_given w vs) the_keys
        (given-once w laws bs replies world t c f asked vs visited) given-have in
        let down = length-le w.eq laws.equivalence the_keys (keys_given w vs) keys-once pairs-given in
        let joined = length-flat_map (λ (v : Visit K). done_keys w v.block) vs in
        let mapped = length-map pairs (λ (p : K × V). p.0) in
        omega (arith, up, down, joined, mapped)

module _ {K V D T A : Type 0} (w : Setup K V D T) (laws : Laws w) (routed : RouteWithin w) (bs : List (Block K))
    (replies : List (Reply K V T A)) (world : IsWorld w bs replies) (i : ℕ) (r : Reply K V T A)
    (at : slice_get replies i ≡ Some r)
    (first last : ℕ) (stands : StandsBetween bs r.thread r.call first last)
    (alone : (q : K) → IsLeftAlone w bs r.thread r.call first last q) (pairs : List (K × V))
    (are : AreThePairs w bs first pairs) where
  -- a walk that counts is never refused
  counted : (f : Walk D) → ask_at w r.thread r.call ≡ Some (ask.Walk f) → (walk_may_grow f ≡ true → ⊥)
      → IsWalked w bs r.thread r.call f r.answer
  counted f asked never = ⊎_elim (λ h. h) (λ refused. absurd (never refused.1.grows))
      (walked w bs replies world i r at f asked)

  number : (f : Walk D) → ask_at w r.thread r.call ≡ Some (ask.Walk f) → stop_of f ≡ None
      → (h : IsWalked w bs r.thread r.call f r.answer) → number_of w h.visits ≡ length pairs
  number f asked whole h =
      ⊎_elim
      (λ end. number-is w laws routed bs replies world r.thread r.call f asked first last stands alone pairs are
      h.visits h.visited end.0 end.1)
      (λ stopped. absurd (none-some (number_of w h.visits) (sym whole ∙ stopped)))
      h.ended

  capacity-no_less : (a : Answer K V T A) → (vs : List (Visit K)) → number_of w vs ≡ length pairs → (ns : List ℕ)
      × AreCapacities w vs ns × (a ≡ answer.Count (saturated (sum ns))) → (n : ℕ) × (length pairs ≤ n)
      × (a ≡ answer.Count (saturated n))
  capacity-no_less a vs same is =
      let less = sum_by-le (λ (v : Visit K). length (done_keys w v.block)) vs is.0 is.1.each is.1.hold in
      (sum is.0, omega (arith, less, same), is.2)

  counts-them : CountsThem w r pairs
  counts-them =
      record {
        len = λ asked.
            let h = counted walk.Len asked (λ e. cc) in
            h.answered ∙ ap (λ n. answer.Count (saturated n)) (number walk.Len asked refl h);
        is_empty = λ asked.
            let h = counted walk.IsEmpty asked (λ e. cc) in
            h.answered ∙ ap (λ n. answer.Flag (n == 0)) (number walk.IsEmpty asked refl h);
        capacity = λ asked.
            let h = counted walk.Capacity asked (λ e. cc) in
            capacity-no_less r.answer h.visits (number walk.Capacity asked refl h) h.answered;
      }

pub counts-numbers : {K V D T A : Type 0} → CountsAreNumbers K V D T A
counts-numbers w laws routed bs replies world i r at first last stands alone pairs are =
    counts-them w laws routed bs replies world i r at first last stands alone pairs are
