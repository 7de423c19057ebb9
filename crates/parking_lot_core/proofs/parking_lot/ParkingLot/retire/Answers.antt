use Rattle.std.proofs.Common.{◌≡◌, ◌∙◌, ap, rules, subst, slice_get, Some, true, false}
use Rattle.parking_lot_core_model.specs.Machine.{Machine, retire_fault, retired, Does, Makes}
use Rattle.parking_lot_core.specs.Shared.{OnSomeLot, WasFreed, WasHeld}
use Rattle.parking_lot_core.proofs.Numbers.{one_is_freed, set_there}
use Rattle.parking_lot_core.proofs.parking_lot.ParkingLot.retire.Goals as goal

pub returns : goal.returns
returns g c =
    let thread = c.thread_number-thread.result in
    let given = c.deref_mut.result.now.given.items in
    let left = c.retire.new.self.given.items in
    let done : c.retire.result ≡ true = search rules in
    let facts = c.retire.ensures done in
    let free : slice_get left thread ≡ Some false =
    ap (λ xs. slice_get xs thread) facts.1 ∙ set_there given thread true false facts.0 in
    let held : (old new : Machine) → WasFreed thread left old new → WasHeld old new = search rules in
    subst (λ t. OnSomeLot (λ key. false) (Does (λ m. retire_fault m t) (Makes (λ m. retired m t))) tt)
    c.thread_number-thread.ensures (one_is_freed thread given left held free tt)
