use Rattle.std.proofs.Common.{◌≡◌, Bool, true, false, Some, None, IsSome, IsTrue, IfSome, cond, refl, sym, subst, ◌∙◌}
use Rattle.dashmap_table.specs.Table.{with_value}
use Rattle.dashmap_table.proofs.Finding.{slot_of-is}
use Rattle.dashmap_map.specs.Calls.{LeavesAt, FreesIf}
use Rattle.dashmap_map.proofs.Putting.{found_slot_so, asked_at, written_at}
use Rattle.dashmap_map.proofs.held.remove_from_if_mut.Goals as goal

pub lend-lent-requires : goal.lend-lent-requires
lend-lent-requires g c =
    let is = slot_of-is g.K.PartialEq.eq c.args.shard.now.slots c.args.hash c.args.key.now c.in_ok-slot.slot
    (sym c.find.ensures.slot ∙ c.in_ok-slot.was) in
    subst IsSome (sym is.1) refl

pub returns-then-answer_writing-clause-present : goal.returns-then-answer_writing-clause-present
returns-then-answer_writing-clause-present g c =
    let old = c.args.shard.now in
    let left = c.answer_writing.new.value in
    let k = c.lend-lent.result.0.now in
    let v = c.lend-lent.result.1.now in
    let call = c.answer_writing.ensures in
    let leaves : LeavesAt g.F.FnOnce c.args.f k v c.answer_writing.result left =
    record {
      key = call.key;
      value = call.value;
      shows = call.shows;
      left = call.left;
      met = call.met;
      leaves = call.leaves;
    } in
    let pair = written_at g.K.PartialEq.eq old old c.args.hash c.args.key.now c.in_ok-slot.slot k v left
    c.lend-lent.ensures.pair in
    found_slot_so g.K.PartialEq.eq old old c.args.hash c.args.key.now
    (λ i k v. (answer : Bool) × (w : g.row.V.Denot) × LeavesAt g.F.FnOnce c.args.f k v answer w
    × (c.remove.result ≡ cond answer (Some (k, w)) None) × FreesIf answer (with_value old i w) c.remove.new.self i)
    c.in_ok-slot.slot k v (sym c.find.ensures.slot ∙ c.in_ok-slot.was) c.lend-lent.ensures.pair (
      true,
      left,
      subst (λ b. LeavesAt g.F.FnOnce c.args.f k v b left) c.if-answer_writing.true leaves,
      c.remove.ensures.pair ∙ pair,
      c.remove.ensures.frees,
    )

pub returns-else-answer_writing-clause-present : goal.returns-else-answer_writing-clause-present
returns-else-answer_writing-clause-present g c =
    let old = c.args.shard.now in
    let left = c.answer_writing.new.value in
    let k = c.lend-lent.result.0.now in
    let v = c.lend-lent.result.1.now in
    let call = c.answer_writing.ensures in
    let leaves : LeavesAt g.F.FnOnce c.args.f k v c.answer_writing.result left =
    record {
      key = call.key;
      value = call.value;
      shows = call.shows;
      left = call.left;
      met = call.met;
      leaves = call.leaves;
    } in
    let same : with_value old c.in_ok-slot.slot left ≡ with_value old c.in_ok-slot.slot left = refl in
    found_slot_so g.K.PartialEq.eq old old c.args.hash c.args.key.now
    (λ i k v. (answer : Bool) × (w : g.row.V.Denot) × LeavesAt g.F.FnOnce c.args.f k v answer w
    × (None ≡ cond answer (Some (k, w)) None) × FreesIf answer (with_value old i w)
    (with_value old c.in_ok-slot.slot left) i)
    c.in_ok-slot.slot k v (sym c.find.ensures.slot ∙ c.in_ok-slot.was) c.lend-lent.ensures.pair
    (false, left, subst (λ b. LeavesAt g.F.FnOnce c.args.f k v b left) c.if-answer_writing.false leaves, refl, same)

pub returns-then-answer_writing-clause-asked : goal.returns-then-answer_writing-clause-asked
returns-then-answer_writing-clause-asked g c =
    let old = c.args.shard.now in
    let left = c.answer_writing.new.value in
    let k = c.lend-lent.result.0.now in
    let v = c.lend-lent.result.1.now in
    let call = c.answer_writing.ensures in
    let leaves : LeavesAt g.F.FnOnce c.args.f k v c.answer_writing.result left =
    record {
      key = call.key;
      value = call.value;
      shows = call.shows;
      left = call.left;
      met = call.met;
      leaves = call.leaves;
    } in
    let pair = written_at g.K.PartialEq.eq old old c.args.hash c.args.key.now c.in_ok-slot.slot k v left
    c.lend-lent.ensures.pair in
    let asked = asked_at g.K.PartialEq.eq old old c.args.hash c.args.key.now c.in_ok-slot.slot k v
    (sym c.find.ensures.slot ∙ c.in_ok-slot.was) c.lend-lent.ensures.pair in
    subst (λ z. IfSome z (λ p. IsTrue (g.K.PartialEq.eq p.0 c.args.key.now) × (v : g.row.V.Denot)
    × LeavesAt g.F.FnOnce c.args.f p.0 v true p.1)) (sym (c.remove.ensures.pair ∙ pair))
    (asked, v, subst (λ b. LeavesAt g.F.FnOnce c.args.f k v b left) c.if-answer_writing.true leaves)
