-- What the code of taking and waking makes is what they leave of the machine.
use Rattle.std.proofs.Common.{◌≡◌, ℕ, List, remove, position, Option, Some, slice_set, slice_index_or, sym, ap, ◌∙◌}
use Rattle.std.specs.Option.{option_map}
use Rattle.std.proofs.lemmas.Option.{same_Some, slice_get_within, slice_get-get_or}
use Rattle.parking_lot_protocol.specs.declared.act.ActResult.TheVariants as seen
use Rattle.parking_lot_machine_sides.specs.declared.once.entry.Entry.{Entry}
use Rattle.parking_lot_machine_sides.specs.declared.once.open_call.OpenCall.{OpenCall}
use Rattle.parking_lot_machine_sides.specs.Once.Entries.{is_in, joined}
use Rattle.parking_lot_machine_sides.specs.Once.OnceActs.{is_left, off_list, thread_in, told, took, took_at, took_by}
use Rattle.parking_lot_machine_sides.specs.Once.OnceActs.{woke, woke_at, woke_by, woken}
use Rattle.parking_lot_machine_sides.specs.Once.Onces.{Onces, call_at}
use Rattle.parking_lot_machine_sides.proofs.OnceFacts.Listing.{IsFirst, stands}

-- the entry that is taken out is the first of its list
pub its_thread : (k : ℕ) (es : List Entry) (n : ℕ) (x : Entry) → IsFirst k es n → x ≡ slice_index_or es n x
    → x.thread ≡ thread_in es n
its_thread k es n x first is =
    let e = stands k es n first in
    ap (λ (y : Entry). y.thread)
    (is ∙ same_Some (slice_index_or es n x) e.0
    (sym (slice_get-get_or es n x (slice_get_within es n e.0 e.1)) ∙ e.1)) ∙ sym e.2

module _ (s : Onces) (t : ℕ) (c : OpenCall) where
  taking : ℕ → Option OpenCall → OpenCall → List Entry → List Entry → Onces
  taking v o d waiting wakes =
      record s { calls = slice_set (slice_set s.calls v o) t (Some d); waiting = waiting; wakes = wakes }

  pub took_made : (n v : ℕ) (o : Option OpenCall) (d : OpenCall) (waiting wakes : List Entry)
      → position (is_in c.once) s.waiting ≡ Some n → v ≡ thread_in s.waiting n
      → o ≡ option_map (off_list t) (call_at s v)
      → d ≡ told c (seen.Took (Some (record { 0 = 0 })) (is_left waiting c.once)) → waiting ≡ remove s.waiting n
      → wakes ≡ joined s.wakes t v
      → record s { calls = slice_set (slice_set s.calls v o) t (Some d); waiting = waiting; wakes = wakes } ≡ took s t c
  unfolding taking
  took_made n v o d waiting wakes at its sleeper tells out new =
      let say : List Entry → OpenCall =
      λ (es : List Entry). told c (seen.Took (Some (record { 0 = 0 })) (is_left es c.once)) in
      ap (λ x. taking v x d waiting wakes) sleeper
      ∙ ap (λ x. taking v (option_map (off_list t) (call_at s v)) x waiting wakes) tells
      ∙ ap (λ es. taking v (option_map (off_list t) (call_at s v)) (say es) es wakes) out
      ∙ ap (taking v (option_map (off_list t) (call_at s v)) (say (remove s.waiting n)) (remove s.waiting n)) new
      ∙ ap (took_at s t c n) its
      ∙ sym (ap (λ x. took_by x s t c) at)

  waking : ℕ → Option OpenCall → OpenCall → List Entry → Onces
  waking v o d wakes = record s { calls = slice_set (slice_set s.calls v o) t (Some d); wakes = wakes }

  pub woke_made : (n v : ℕ) (o : Option OpenCall) (d : OpenCall) (wakes : List Entry)
      → position (is_in t) s.wakes ≡ Some n → v ≡ thread_in s.wakes n
      → o ≡ option_map woken (call_at s v) → d ≡ told c seen.Made → wakes ≡ remove s.wakes n
      → record s { calls = slice_set (slice_set s.calls v o) t (Some d); wakes = wakes } ≡ woke s t c
  unfolding waking
  woke_made n v o d wakes at its sleeper tells out =
      ap (λ x. waking v x d wakes) sleeper
      ∙ ap (λ x. waking v (option_map woken (call_at s v)) x wakes) tells
      ∙ ap (waking v (option_map woken (call_at s v)) (told c seen.Made)) out
      ∙ ap (woke_at s t c n) its
      ∙ sym (ap (λ x. woke_by x s t c) at)
