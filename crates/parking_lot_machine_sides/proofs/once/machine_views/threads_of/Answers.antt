use Rattle.std.proofs.Common.{◌++◌, ◌∷◌, [], length, take, slice_index_or, sym, ap, ◌∙◌, arith, eq-eqb}
use Rattle.std.specs.Prelude.{vec_capacity}
use Rattle.std.proofs.lemmas.Bool.{ne_eqb}
use Rattle.std.proofs.lemmas.List.{length_push, take_more, take_all}
use Rattle.parking_lot_machine_sides.specs.declared.once.entry.Entry.{Entry}
use Rattle.parking_lot_machine_sides.specs.Once.Entries.{list_of}
use Rattle.parking_lot_machine_sides.proofs.OnceFacts.Listing.{list_more, list_same}
use Rattle.parking_lot_machine_sides.proofs.once.machine_views.threads_of.Goals.{then-entry-list, else-entry-list}
use Rattle.parking_lot_machine_sides.proofs.once.machine_views.threads_of.Goals as goal

pub loop-entry-init : goal.loop-entry-init
loop-entry-init g c =
    record {
      listed = c.in_ok-threads.ensures.items;
      few = omega (arith, ap length c.in_ok-threads.ensures.items);
      room = omega (arith, c.in_ok-threads.ensures.capacity);
    }

pub push_reserved-requires : goal.push_reserved-requires
push_reserved-requires g c =
    omega (
      arith,
      c.loop-entry.invariant.few,
      c.loop-entry.invariant.room,
      c.loop-entry-test.true,
      c.loop-entry.threads.ok.0,
    )

pub loop-entry-preserved : goal.loop-entry-preserved
loop-entry-preserved g c =
    let i = c.loop-entry.entry-index in
    let e : Entry = slice_index_or c.args.entries.now i (record { list = 0; thread = 0 }) in
    let more = take_more c.args.entries.now i (record { list = 0; thread = 0 }) c.loop-entry-test.true in
    elim c.if-entry-list.branch [
      | then-entry-list w ↦ record {
        listed = ap (λ v. v.items) w.threads-is ∙ w.push_reserved.ensures.items
            ∙ ap (λ xs. xs ++ e.thread ∷ []) c.loop-entry.invariant.listed
            ∙ sym (list_more (take i c.args.entries.now) e c.args.list (eq-eqb e.list c.args.list w.if-entry-list.true))
            ∙ ap (λ es. list_of es c.args.list) (sym more);
        few = omega (
          arith,
          c.loop-entry.invariant.few,
          ap (λ v. length v.items) w.threads-is,
          ap length w.push_reserved.ensures.items,
          length_push c.loop-entry.threads.items e.thread,
        );
        room = omega (
          arith,
          c.loop-entry.invariant.room,
          ap vec_capacity w.threads-is,
          w.push_reserved.ensures.capacity,
        );
      }
      | else-entry-list w ↦ record {
        listed = ap (λ v. v.items) w.threads-is ∙ c.loop-entry.invariant.listed
            ∙ sym (list_same (take i c.args.entries.now) e c.args.list
            (ne_eqb e.list c.args.list w.if-entry-list.false)) ∙ ap (λ es. list_of es c.args.list) (sym more);
        few = omega (arith, c.loop-entry.invariant.few, ap (λ v. length v.items) w.threads-is);
        room = omega (arith, c.loop-entry.invariant.room, ap vec_capacity w.threads-is);
      }
    ]

pub returns-clause-ok : goal.returns-clause-ok
returns-clause-ok g c = c.loop-entry.invariant.listed
    ∙ ap (λ es. list_of es c.args.list)
    (take_all c.loop-entry.entry-index c.args.entries.now (omega (arith, c.loop-entry-test.false)))
