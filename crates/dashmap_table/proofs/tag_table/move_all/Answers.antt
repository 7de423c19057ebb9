use Rattle.std.proofs.Common.{Some, None, ◌≡◌, ◌+◌, ap, sym, ◌∙◌, arith, take_all}
use Rattle.std.proofs.lemmas.List.{get_or-set_other}
use Rattle.dashmap_table.specs.declared.entry.Entry.{Entry}
use Rattle.dashmap_table.specs.Table.{Table}
use Rattle.dashmap_table.specs.Slots.{at, count, entry_of}
use Rattle.dashmap_table.proofs.Moving.{read-at, absent-before, absent-carried, count-room, count-more_full}
use Rattle.dashmap_table.proofs.Moving.{count-more_free, found-more, found-free}
use Rattle.dashmap_table.proofs.tag_table.move_all.Goals.{in-Some, in_default}
use Rattle.dashmap_table.proofs.tag_table.move_all.Goals as goal

pub add-requires-clause-absent : goal.add-requires-clause-absent
add-requires-clause-absent g c =
    let read = read-at c.args.slots.now c.loop-i.slots c.loop-i.i c.index-slots-i.result c.loop-i-test.true
    c.loop-i.auto.slots (c.loop-i.invariant.left c.loop-i.i (omega arith)) c.index-slots-i.is in
    let here : at c.args.slots.now c.loop-i.i ≡ Some c.in-Some.entry = sym read
    ∙ (c.index-slots-i.is ∙ (sym c.take.ensures.value ∙ c.in-Some.is)) in
    absent-carried g.K.PartialEq.eq c.loop-i.table.slots _ c.in-Some.entry.hash c.in-Some.entry.key
    (c.loop-i.invariant.found c.in-Some.entry.hash c.in-Some.entry.key)
    (absent-before g.K.PartialEq.eq g.met.K.Eq.laws c.args.slots.now c.requires.distinct c.loop-i.i c.in-Some.entry
    here)

pub add-requires-clause-room : goal.add-requires-clause-room
add-requires-clause-room g c =
    let read = read-at c.args.slots.now c.loop-i.slots c.loop-i.i c.index-slots-i.result c.loop-i-test.true
    c.loop-i.auto.slots (c.loop-i.invariant.left c.loop-i.i (omega arith)) c.index-slots-i.is in
    let here : at c.args.slots.now c.loop-i.i ≡ Some c.in-Some.entry = sym read
    ∙ (c.index-slots-i.is ∙ (sym c.take.ensures.value ∙ c.in-Some.is)) in
    let room = count-room c.args.slots.now c.loop-i.i c.in-Some.entry here in
    omega (arith, room, c.loop-i.invariant.counted, c.loop-i.invariant.room, c.requires.room)

pub loop-i-preserved : goal.loop-i-preserved
loop-i-preserved g c =
    let read = read-at c.args.slots.now c.loop-i.slots c.loop-i.i c.index-slots-i.result c.loop-i-test.true
    c.loop-i.auto.slots (c.loop-i.invariant.left c.loop-i.i (omega arith)) c.index-slots-i.is in
    let own = λ (e : Entry g.row.K.Denot g.row.V.Denot) (is : c.take.result ≡ Some e). sym read
    ∙ (c.index-slots-i.is ∙ (sym c.take.ensures.value ∙ is)) in
    let free = λ (is : c.take.result ≡ None). sym read ∙ (c.index-slots-i.is ∙ (sym c.take.ensures.value ∙ is)) in
    record {
      found = elim c.match-take.branch [
        | in-Some w ↦ λ h k.
            ap (λ (t : Table g.row.K.Denot g.row.V.Denot). entry_of g.K.PartialEq.eq t.slots h k) w.table-is
            ∙ found-more g.K.PartialEq.eq g.met.K.Eq.laws c.args.slots.now c.requires.distinct c.loop-i.table
            w.add.new.self c.loop-i.i w.add.result w.in-Some.entry w.add.ensures.added w.add.ensures.sound
            (own w.in-Some.entry w.in-Some.is) c.loop-i.invariant.found h k
        | in_default w ↦ λ h k.
            ap (λ (t : Table g.row.K.Denot g.row.V.Denot). entry_of g.K.PartialEq.eq t.slots h k) w.table-is
            ∙ found-free g.K.PartialEq.eq g.met.K.Eq.laws c.args.slots.now c.requires.distinct c.loop-i.table c.loop-i.i
            (free w.in_default.is) c.loop-i.invariant.found h k
      ];
      counted = elim c.match-take.branch [
        | in-Some w ↦
            ap (λ (t : Table g.row.K.Denot g.row.V.Denot). count t.slots) w.table-is
            ∙ (w.add.ensures.added.counted
            ∙ (ap (λ n. n + 1) c.loop-i.invariant.counted
            ∙ sym (count-more_full c.args.slots.now c.loop-i.i w.in-Some.entry (own w.in-Some.entry w.in-Some.is))))
        | in_default w ↦
            ap (λ (t : Table g.row.K.Denot g.row.V.Denot). count t.slots) w.table-is
            ∙ (c.loop-i.invariant.counted
            ∙ sym (count-more_free c.args.slots.now c.loop-i.i c.loop-i-test.true (free w.in_default.is)))
      ];
      room = elim c.match-take.branch [
        | in-Some w ↦
            let same : c.match-take.table.room ≡ w.add.new.self.room =
            ap (λ (t : Table g.row.K.Denot g.row.V.Denot). t.room) w.table-is in
            omega (arith, same, w.add.ensures.added.left, w.add.ensures.added.counted, c.loop-i.invariant.room)
        | in_default w ↦
            let same : c.match-take.table.room ≡ c.loop-i.table.room =
            ap (λ (t : Table g.row.K.Denot g.row.V.Denot). t.room) w.table-is in
            omega (arith, same, c.loop-i.invariant.room)
      ];
      left = λ k above.
          get_or-set_other c.loop-i.slots c.loop-i.i k c.take.new.self None
          (λ same. absurd (omega (arith, same, above)))
          ∙ c.loop-i.invariant.left k (omega arith);
    }

pub returns-clause-found : goal.returns-clause-found
returns-clause-found g c hash key =
    c.loop-i.invariant.found hash key
    ∙ ap (λ l. entry_of g.K.PartialEq.eq l hash key)
    (take_all c.loop-i.i c.args.slots.now (omega (arith, c.loop-i-test.false, c.loop-i.auto.slots)))
