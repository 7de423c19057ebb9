use Rattle.std.proofs.Common.{◌≡◌, length, map, sum_by, false, refl, ap, sym, ◌∙◌, subst, arith}
use Rattle.std.specs.List.{list_all}
use Rattle.std.proofs.lemmas.List.{length-map}
use Rattle.mapworld_calls.specs.Programs.{one_guard}
use Rattle.mapworld_state.specs.Locks.Fresh.{AreFresh}
use Rattle.mapworld_state.specs.Core.{blocks_of, AreLocksOf}
use Rattle.mapworld_state.specs.Places.{place_of}
use Rattle.mapworld_state.specs.Shards.{shard_pairs}
use Rattle.mapworld_state.specs.Route.{IsWorldAmount, key_route}
use Rattle.mapworld_state.proofs.InvariantFacts.CausesFacts.Keeping.{causes-new}
use Rattle.mapworld.proofs.ProgressFacts.Timing.{time-first}
use Rattle.mapworld.specs.Beginning.{AreAtStart, AreFilled, HaveLists}
use Rattle.mapworld.specs.Stops.{AllStopsFit}
use Rattle.mapworld.proofs.Filling.{AreFilled-seen}
use Rattle.mapworld.proofs.Guarding.{guards_are_owners}
use Rattle.mapworld.proofs.Refusals.{accepted, blocks-fit, sum_by-map}
use Rattle.mapworld.proofs.Beginnings.{are_idle, are_locks, new-sound, new-contents, new-room, new-slotted}
use Rattle.mapworld.proofs.Outcomes.{world-agrees}
use Rattle.mapworld.proofs.Reached.{new-reachable}
use Rattle.mapworld.proofs.making.core_of.Goals as goal

pub fill-requires-clause-shards : goal.fill-requires-clause-shards
fill-requires-clause-shards g c =
    let a = accepted c.args.shards (length c.args.pairs.items) (map (λ program. program.items) c.args.programs.items)
    c.requires in
    subst (λ n. IsWorldAmount n) (sym c.in_ok-tables.ensures.0) a.amount

pub fill-requires-clause-fits : goal.fill-requires-clause-fits
fill-requires-clause-fits g c =
    let a = accepted c.args.shards (length c.args.pairs.items) (map (λ program. program.items) c.args.programs.items)
    c.requires in
    omega (arith, a.pairs_fit)

pub blocks_in-listed-requires : goal.blocks_in-listed-requires
blocks_in-listed-requires g c =
    let fit = blocks-fit _ _ _ (accepted c.args.shards (length c.args.pairs.items)
    (map (λ program. program.items) c.args.programs.items) c.requires) in
    let listed = sum_by-map (λ program. sum_by (blocks_of c.args.shards) program) (λ program. program.items)
    c.args.programs.items ∙ ap (λ ps. sum_by (λ program. sum_by (blocks_of c.args.shards) program.items) ps)
    (sym c.deref-3.ensures.value) in
    omega (arith, fit, listed)

pub returns-clause-sound : goal.returns-clause-sound
returns-clause-sound g c =
    let a = accepted c.args.shards (length c.args.pairs.items) (map (λ program. program.items) c.args.programs.items)
    c.requires in
    let kept = ap (λ v. map (λ program. program.items) v.items) c.of-kept.ensures in
    let shards = c.in_ok-count.ensures.shards ∙ c.in_ok-tables.ensures.0 in
    let as_many = length-map c.args.programs.items (λ program. program.items) in
    let own = c.args.programs.ok.0 in
    new-sound g.D.Deed g.S.BuildHasher g.S.Hasher.Hasher g.K.PartialEq.eq g.K.Hash.hash_input _
    (record {
      steps = c.new.ensures;
      locks = are_idle c.len.result c.args.shards c.in_ok-locks.locks
          c.in_ok-locks.ensures;
      blocks = c.in_ok-blocks.ensures.items;
      replies = c.in_ok-replies.ensures.items;
    })
    (subst (λ n. IsWorldAmount n) (sym (length-map c.fill.new.tables.items shard_pairs ∙ shards)) a.amount)
    (ap (λ ps. list_all (one_guard false) ps) kept ∙ a.guarded)
    (subst (λ ps. AllStopsFit ps) (ap (λ ps. map (λ program. program.items) ps) c.deref.ensures.value ∙ sym kept)
    c.programs_fit.ensures)
    (subst (λ ps. AreAtStart ps (map place_of c.in_ok-places.places.items)) (sym kept) c.in_ok-places.ensures.start)
    (subst (λ ps. AreFilled g.K.PartialEq.eq (key_route g.S.BuildHasher g.S.Hasher.Hasher g.K.Hash.hash_input
    c.args.hasher (length (map shard_pairs c.fill.new.tables.items))) ps
    (map shard_pairs c.fill.new.tables.items))
    (sym (ap (λ v. v.items) c.of-opening.ensures))
    (AreFilled-seen g.S.BuildHasher g.S.Hasher.Hasher g.K.Hash.hash_input c.args.hasher g.K.PartialEq.eq
    c.args.pairs.items c.fill.new.tables.items c.in_ok-count.ensures.filled))

pub returns-clause-new : goal.returns-clause-new
returns-clause-new g c =
    let a = accepted c.args.shards (length c.args.pairs.items) (map (λ program. program.items) c.args.programs.items)
    c.requires in
    let shards = c.in_ok-count.ensures.shards ∙ c.in_ok-tables.ensures.0 in
    let as_many = length-map c.args.programs.items (λ program. program.items) in
    let own = c.args.programs.ok.0 in
    record {
      hasher_is = refl;
      shards_are = length-map c.fill.new.tables.items shard_pairs ∙ shards;
      opening = ap (λ v. v.items) c.of-opening.ensures;
      programs_are = ap (λ v. map (λ program. program.items) v.items) c.of-kept.ensures;
      contents_are = new-contents g.D.Deed g.S.BuildHasher g.S.Hasher.Hasher g.K.PartialEq.eq g.K.Hash.hash_input
          c.args.hasher c.args.pairs.items (map shard_pairs c.fill.new.tables.items)
          g.met.K.Eq.laws g.met.K.Hash.respects_eq (subst (λ n. IsWorldAmount n)
          (sym (length-map c.fill.new.tables.items shard_pairs ∙ shards)) a.amount)
          (AreFilled-seen g.S.BuildHasher g.S.Hasher.Hasher g.K.Hash.hash_input c.args.hasher g.K.PartialEq.eq
          c.args.pairs.items c.fill.new.tables.items c.in_ok-count.ensures.filled);
      steps = c.new.ensures;
      places = c.in_ok-places.ensures.start;
      locks = let count : c.len.result ≡ length (map (λ program. program.items) c.args.programs.items) = omega
          (arith, as_many, own, c.len.ensures) in subst (λ n. AreFresh n c.args.shards c.in_ok-locks.locks) count
          c.in_ok-locks.ensures;
      blocks = c.in_ok-blocks.ensures.items;
      replies = c.in_ok-replies.ensures.items;
    }

pub returns-clause-reachable : goal.returns-clause-reachable
returns-clause-reachable g c =
    let kept = ap (λ v. map (λ program. program.items) v.items) c.of-kept.ensures in
    new-reachable g.D.Deed g.S.BuildHasher g.S.Hasher.Hasher g.K.PartialEq.eq g.K.Hash.hash_input g.met.K.Eq.laws
    g.met.K.Hash.respects_eq _ c.args.shards c.args.hasher c.args.pairs.items
    (map (λ program. program.items) c.args.programs.items) (returns-clause-new g c) c.requires
    (subst (λ ps. AllStopsFit ps) (ap (λ ps. map (λ program. program.items) ps) c.deref.ensures.value ∙ sym kept)
    c.programs_fit.ensures)
    (subst (λ ps. AreFilled g.K.PartialEq.eq (key_route g.S.BuildHasher g.S.Hasher.Hasher g.K.Hash.hash_input
    c.args.hasher (length (map shard_pairs c.fill.new.tables.items))) ps
    (map shard_pairs c.fill.new.tables.items))
    (sym (ap (λ v. v.items) c.of-opening.ensures))
    (AreFilled-seen g.S.BuildHasher g.S.Hasher.Hasher g.K.Hash.hash_input c.args.hasher g.K.PartialEq.eq
    c.args.pairs.items c.fill.new.tables.items c.in_ok-count.ensures.filled))

pub returns-clause-room : goal.returns-clause-room
returns-clause-room g c =
    let a = accepted c.args.shards (length c.args.pairs.items) (map (λ program. program.items) c.args.programs.items)
    c.requires in
    let kept = ap (λ v. map (λ program. program.items) v.items) c.of-kept.ensures in
    let shards = c.in_ok-count.ensures.shards ∙ c.in_ok-tables.ensures.0 in
    let programs = map (λ program. program.items) c.of-kept.result.value.items in
    let calls : sum_by length programs ≡ sum_by length (map (λ program. program.items) c.args.programs.items) = ap
    (λ ps. sum_by length ps) kept in
    let counted = sum_by-map length (λ program. program.items) c.args.programs.items in
    let count = c.calls_in-calls.ensures ∙ ap (λ ps. sum_by (λ program. length program.items) ps)
    c.deref-2.ensures.value in
    let threads : length programs ≡ length (map (λ program. program.items) c.args.programs.items) = ap
    (λ ps. length ps) kept in
    let as_many = length-map c.args.programs.items (λ program. program.items) in
    let own = c.args.programs.ok.0 in
    let blocks : sum_by (λ program. sum_by (blocks_of (length c.fill.new.tables.items)) program) programs ≡ sum_by
    (λ program. sum_by (blocks_of c.args.shards) program) (map (λ program. program.items) c.args.programs.items)
    =
    ap (λ n. sum_by (λ program. sum_by (blocks_of n) program) programs) shards
    ∙ ap (λ ps. sum_by (λ program. sum_by (blocks_of c.args.shards) program) ps) kept in
    let listed = sum_by-map (λ program. sum_by (blocks_of c.args.shards) program) (λ program. program.items)
    c.args.programs.items ∙ ap (λ ps. sum_by (λ program. sum_by (blocks_of c.args.shards) program.items) ps)
    (sym c.deref-3.ensures.value) in
    new-room _
    (record {
      steps = c.new.ensures;
      locks = are_idle c.len.result c.args.shards c.in_ok-locks.locks
          c.in_ok-locks.ensures;
      blocks = c.in_ok-blocks.ensures.items;
      replies = c.in_ok-replies.ensures.items;
    })
    (subst (λ ps. AreAtStart ps (map place_of c.in_ok-places.places.items)) (sym kept) c.in_ok-places.ensures.start)
    (record {
      count = refl;
      unanswered = omega (arith, calls, counted, count);
      calls_fit = omega (arith, calls, a.calls);
      replies = omega (arith, calls, counted, count, c.in_ok-replies.ensures.exact);
      blocks = omega (arith, blocks, listed, c.blocks_in-listed.ensures, c.in_ok-blocks.ensures.exact);
      blocks_fit = omega (arith, blocks, blocks-fit _ _ _ a);
      lists = subst (λ n. HaveLists n c.in_ok-places.places.items) (sym shards) c.in_ok-places.ensures.lists;
      locks = let same : c.len.result ≡ length programs = omega (arith, threads, as_many, own, c.len.ensures) in
          subst (λ n. AreLocksOf (length programs) n c.in_ok-locks.locks) (sym shards)
          (subst (λ n. AreLocksOf n c.args.shards c.in_ok-locks.locks) same
          (are_locks c.len.result c.args.shards c.in_ok-locks.locks c.in_ok-locks.ensures));
      pairs = c.in_ok-count.ensures.count.0;
      pairs_fit = omega (arith, a.pairs_fit, c.in_ok-count.ensures.count.1);
      threads_fit = omega (arith, threads, a.threads);
      shards = subst (λ n. IsWorldAmount n) (sym shards) a.amount;
    })

pub returns-clause-agrees : goal.returns-clause-agrees
returns-clause-agrees g c =
    world-agrees g.D.Deed g.S.BuildHasher g.S.Hasher.Hasher g.K.PartialEq.eq g.K.Hash.hash_input _ g.met.K.Eq.laws
    g.met.K.Hash.respects_eq
    (returns-clause-sound g c)

pub returns-clause-placed : goal.returns-clause-placed
returns-clause-placed g c =
    (returns-clause-sound g c).placed

pub returns-clause-guards : goal.returns-clause-guards
returns-clause-guards g c = guards_are_owners c.desks_count_as_words.ensures c.in_ok-locks.locks c.known.ensures

pub returns-clause-slots : goal.returns-clause-slots
returns-clause-slots g c =
    new-slotted _ _ c.fill.new.tables.items c.in_ok-blocks.blocks.items
    (map (λ program. program.items) c.args.programs.items) c.in_ok-places.places.items
    c.in_ok-places.ensures.start c.in_ok-count.ensures.hashed

pub returns-clause-time : goal.returns-clause-time
returns-clause-time g c = time-first c.steps_are_few.ensures g.D.Deed g.S.BuildHasher g.S.Hasher.Hasher
    g.K.PartialEq.eq g.K.Hash.hash_input _ (returns-clause-room g c) c.known.ensures (ap length c.new.ensures)

pub returns-clause-causes : goal.returns-clause-causes
returns-clause-causes g c =
    let start = c.in_ok-places.ensures.start in
    causes-new _ _
    (λ u p at. (ap (λ z. z.phase) (start.each u p at), ap (λ z. z.holds) (start.each u p at)))
    c.in_ok-locks.ensures.free
    c.in_ok-replies.ensures.items

pub returns-clause-tries : goal.returns-clause-tries
returns-clause-tries g c = (returns-clause-causes g c).locked

pub returns-clause-late : goal.returns-clause-late
returns-clause-late g c = (returns-clause-causes g c).missed
