use Rattle.std.proofs.Common.{◌≡◌, ℕ, false, Some, ap, ◌∙◌}
use Rattle.parking_lot_core_model.specs.declared.place.Phase.{Phase}
use Rattle.parking_lot_core_model.specs.declared.place.Phase.TheVariants as phase
use Rattle.parking_lot_core_model.specs.declared.place.Section.{Section}
use Rattle.parking_lot_core_model.specs.Machine.{Machine, any_phase, closed, fresh_section, in_phase, joined, machine}
use Rattle.parking_lot_core_model.specs.Machine.{open_at, opened, section_of, step_fault}
use Rattle.parking_lot_core_model.specs.Places.{may_check, may_join}
use Rattle.parking_lot_core_model.proofs.Entering.{open_within, phase_within}
use Rattle.parking_lot_core_model.proofs.Kept.{updated_at}
use Rattle.parking_lot_machine.proofs.LotCalls.{own_section}
use Rattle.parking_lot_machine.proofs.requeue.join.Goals as goal

-- the thread's section of a key, so far
abbrev so_far : ℕ → ℕ → Phase → Section
so_far thread key ph = record (fresh_section (Some thread) key) { phase = ph }

-- where it has just been opened, and where it goes on
opens : (m : Machine) (thread key : ℕ) → section_of (opened m (Some thread) key) thread
    ≡ Some (so_far thread key phase.Fresh)
opens m thread key = own_section (opened m (Some thread) key) thread key (so_far thread key phase.Fresh)
    (updated_at m.inside thread (Some key)) (open_within m (so_far thread key phase.Fresh))

goes : (m : Machine) (thread key : ℕ) (ph : Phase) → section_of (in_phase (opened m (Some thread) key) key ph) thread
    ≡ Some (so_far thread key ph)
goes m thread key ph =
    own_section (in_phase (opened m (Some thread) key) key ph) thread key (so_far thread key ph)
    (updated_at m.inside thread (Some key))
    (ap (λ (n : Machine). open_at n key) (phase_within m (so_far thread key phase.Fresh) ph)
    ∙ open_within m (so_far thread key ph))

-- once it is to join
has_checked : (now entered checked : Machine) (thread key : ℕ) → entered ≡ opened now (Some thread) key
    → ((s : Section) → section_of entered thread ≡ Some s → checked ≡ in_phase entered s.key phase.Valid)
    → checked ≡ in_phase (opened now (Some thread) key) key phase.Valid
has_checked now entered checked thread key e f =
    f (so_far thread key phase.Fresh) (ap (λ m. section_of m thread) e ∙ opens now thread key)
    ∙ ap (λ m. in_phase m key phase.Valid) e

pub check-requires : goal.check-requires
check-requires g c = record {
  inside = ap (λ m. step_fault may_check m c.args.thread) c.enter.ensures.opened ∙ c.requires.may.checks;
}

pub append-requires : goal.append-requires
append-requires g c = record {
  inside = ap (λ m. step_fault may_join m c.args.thread)
      (has_checked (machine c.args.lot.now) (machine c.enter.new.lot) (machine c.check.new.lot) c.args.thread
      c.args.key c.enter.ensures.opened c.check.ensures.checked)
      ∙ c.requires.may.joins;
}

-- once it has joined
has_joined : (now entered checked appended : Machine) (thread key : ℕ) → entered ≡ opened now (Some thread) key
    → ((s : Section) → section_of entered thread ≡ Some s → checked ≡ in_phase entered s.key phase.Valid)
    → ((s : Section) → section_of checked thread ≡ Some s
    → appended ≡ joined (in_phase checked s.key phase.Joined) thread
    s.key (record { 0 = 0 }) false)
    → appended ≡ joined (in_phase (in_phase (opened now (Some thread) key) key phase.Valid) key phase.Joined) thread key
    (record { 0 = 0 }) false
has_joined now entered checked appended thread key e f g =
    let same : checked ≡ in_phase (opened now (Some thread) key) key phase.Valid =
    has_checked now entered checked thread key e f in
    g (so_far thread key phase.Valid) (ap (λ m. section_of m thread) same ∙ goes now thread key phase.Valid)
    ∙ ap (λ m. joined (in_phase m key phase.Joined) thread key (record { 0 = 0 }) false) same

pub leave-requires : goal.leave-requires
leave-requires g c =
    record {
      inside = ap (λ m. step_fault any_phase m c.args.thread)
          (has_joined (machine c.args.lot.now) (machine c.enter.new.lot) (machine c.check.new.lot)
          (machine c.append.new.lot) c.args.thread c.args.key c.enter.ensures.opened c.check.ensures.checked
          c.append.ensures.joined)
          ∙ c.requires.may.leaves;
    }

-- and there it still is
joins : (m : Machine) (thread key : ℕ)
    → section_of (in_phase (in_phase (opened m (Some thread) key) key phase.Valid) key phase.Joined) thread
    ≡ Some (so_far thread key phase.Joined)
joins m thread key =
    own_section (in_phase (in_phase (opened m (Some thread) key) key phase.Valid) key phase.Joined) thread key
    (so_far thread key phase.Joined) (updated_at m.inside thread (Some key))
    (ap (λ (n : Machine). open_at (in_phase n key phase.Joined) key)
    (phase_within m (so_far thread key phase.Fresh) phase.Valid)
    ∙ ap (λ (n : Machine). open_at n key) (phase_within m (so_far thread key phase.Valid) phase.Joined)
    ∙ open_within m (so_far thread key phase.Joined))

pub returns : goal.returns
returns g c =
    let key : ℕ = c.args.key in
    let all = has_joined (machine c.args.lot.now) (machine c.enter.new.lot) (machine c.check.new.lot)
    (machine c.append.new.lot) c.args.thread key c.enter.ensures.opened c.check.ensures.checked c.append.ensures.joined
    in
    c.leave.ensures.closed (so_far c.args.thread key phase.Joined)
    (ap (λ m. section_of m c.args.thread) all ∙ joins (machine c.args.lot.now) c.args.thread key)
    ∙ ap (λ m. closed m key false) all
