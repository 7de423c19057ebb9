-- Operations on a lot as data, and what any list of them leaves.
use Rattle.std.specs.Prelude.{◌≡◌, ℕ, ◌+◌, Bool, true, false, if◌then◌else◌, List, [], ◌∷◌, ◌++◌, length, take, drop}
use Rattle.std.specs.Prelude.{Option, Some, None, slice_set, count_by, ◌==◌}
use Rattle.std.specs.Option.{option_map_or}
use Rattle.std.specs.List.{list_any}
use Rattle.parking_lot_core_model.specs.declared.fault.LotFault.{LotFault}
use Rattle.parking_lot_core_model.specs.declared.parking.ParkToken.{ParkToken}
use Rattle.parking_lot_core_model.specs.declared.parking.UnparkToken.{UnparkToken}
use Rattle.parking_lot_core_model.specs.declared.parking.RequeueOp.{RequeueOp}
use Rattle.parking_lot_core_model.specs.declared.parking.FilterOp.{FilterOp}
use Rattle.parking_lot_core_model.specs.declared.place.Place.{Place}
use Rattle.parking_lot_core_model.specs.declared.place.Place.TheVariants.{Running, Waiting, Held, Taken}
use Rattle.parking_lot_core_model.specs.declared.place.Section.{Section}
use Rattle.parking_lot_core_model.specs.declared.place.Phase.TheVariants as phase
use Rattle.parking_lot_core_model.specs.Lists.{updated, without_first}
use Rattle.parking_lot_core_model.specs.Places.{place_at, late, roused, is_due, may_check, may_join, may_take}
use Rattle.parking_lot_core_model.specs.Places.{may_store, passed_of}
use Rattle.parking_lot_core_model.specs.Results.{chosen_by, passed_by, is_take, is_skip}
use Rattle.parking_lot_core_model.specs.Machine.{Machine, section_of, any_phase, busy, register_fault, retire_fault}
use Rattle.parking_lot_core_model.specs.Machine.{enter_fault, step_fault, deadline_fault, resume_fault, return_fault}
use Rattle.parking_lot_core_model.specs.Machine.{either_busy, in_section}
use Rattle.parking_lot_core_model.specs.Machine.{quit_fault, owner_fault, changed_at, registered, retired, recorded}
use Rattle.parking_lot_core_model.specs.Machine.{forgotten, joined, unparked, requeued, resumed, opened, in_phase}
use Rattle.parking_lot_core_model.specs.Machine.{returned, quitted, taken, stored, closed}
use Rattle.parking_lot_core_model.specs.Operations.{is_abort}

-- an operation, with what its closures answer
pub data Operation : Type 0 where
  Register : Operation
  Retire : ℕ → Operation
  -- thread, key, what the validation answers, token, whether it is timed
  Park : ℕ → ℕ → Bool → ParkToken → Bool → Operation
  Resume : ℕ → Operation
  Deadline : ℕ → Operation
  Wake : ℕ → ℕ → Operation
  UnparkOne : ℕ → UnparkToken → Operation
  UnparkAll : ℕ → UnparkToken → Operation
  UnparkFilter : ℕ → List FilterOp → UnparkToken → Operation
  UnparkRequeue : ℕ → ℕ → RequeueOp → UnparkToken → Operation
  Acquire : ℕ → ℕ → Operation
  Release : ℕ → ℕ → Operation
  Enter : ℕ → ℕ → Operation
  Check : ℕ → Bool → Operation
  TakeNext : ℕ → List FilterOp → Operation
  Append : ℕ → ParkToken → Bool → Operation
  StoreDone : ℕ → UnparkToken → Operation
  Leave : ℕ → Operation
  Return : ℕ → ℕ → Operation
  Quit : ℕ → Operation

-- why it is refused
abbrev pub fault_of : Machine → Operation → Option LotFault
fault_of m Register = register_fault m
fault_of m (Retire thread) = retire_fault m thread
fault_of m (Park thread key valid token timed) = enter_fault m thread key
fault_of m (Resume thread) = resume_fault m thread
fault_of m (Deadline thread) = deadline_fault m thread
fault_of m (Wake thread mark) = None
fault_of m (UnparkOne key token) = busy key m
fault_of m (UnparkAll key token) = busy key m
fault_of m (UnparkFilter key answers token) = busy key m
fault_of m (UnparkRequeue from to op token) = either_busy from to m
fault_of m (Acquire thread key) = owner_fault m thread
fault_of m (Release thread key) = owner_fault m thread
fault_of m (Enter thread key) = enter_fault m thread key
fault_of m (Check thread holds) = step_fault may_check m thread
fault_of m (TakeNext thread answers) = step_fault may_take m thread
fault_of m (Append thread token timed) = step_fault may_join m thread
fault_of m (StoreDone thread token) = step_fault may_store m thread
fault_of m (Leave thread) = step_fault any_phase m thread
fault_of m (Return thread key) = return_fault m thread key
fault_of m (Quit thread) = quit_fault m thread

-- a section takes the next waiter by these answers of its filter
abbrev pub taken_next : Machine → List FilterOp → Section → Machine
taken_next m answers s =
    let at = passed_of s.phase + count_by is_skip answers in
    if list_any is_take answers then taken (in_phase m s.key (phase.Taking at)) s.key at else in_phase m s.key
    phase.Ended

-- what it leaves, where it isn't refused
abbrev pub effect_of : Machine → Operation → Machine
effect_of m Register = registered m
effect_of m (Retire thread) = retired m thread
effect_of m (Park thread key valid token timed) = if valid then joined m thread key token timed else m
effect_of m (Resume thread) = resumed m thread (place_at m.places thread)
effect_of m (Deadline thread) = changed_at late m thread
effect_of m (Wake thread mark) = if option_map_or (is_due mark) (place_at m.places thread) false then changed_at roused
    m thread else m
effect_of m (UnparkOne key token) = unparked m key (take 1 (m.queues key)) (drop 1 (m.queues key)) token
effect_of m (UnparkAll key token) = unparked m key (m.queues key) [] token
effect_of m (UnparkFilter key answers token) = unparked m key (chosen_by answers (m.queues key))
    (passed_by answers (m.queues key)) token
effect_of m (UnparkRequeue from to op token) = if is_abort op then m else requeued m op from to token
effect_of m (Acquire thread key) = recorded m thread key
effect_of m (Release thread key) = forgotten m thread key
effect_of m (Enter thread key) = opened m (Some thread) key
effect_of m (Check thread holds) = in_section
    (λ n key. in_phase n key (if holds then phase.Valid else phase.Invalid)) thread m
effect_of m (TakeNext thread answers) = option_map_or (taken_next m answers) (section_of m thread) m
effect_of m (Append thread token timed) = in_section
    (λ n key. joined (in_phase n key phase.Joined) thread key token timed) thread m
effect_of m (StoreDone thread token) = in_section (λ n key. stored n key token) thread m
effect_of m (Leave thread) = in_section (λ n key. closed n key false) thread m
effect_of m (Return thread key) = returned m thread key
effect_of m (Quit thread) = in_section (λ n key. quitted n thread key) thread m

-- a refused one leaves all as it was
abbrev pub unless_refused : Option LotFault → Machine → Machine → Machine
unless_refused None old new = new
unless_refused (Some fault) old new = old

abbrev pub after : Machine → Operation → Machine
after m operation = unless_refused (fault_of m operation) m (effect_of m operation)

-- what a list of them leaves
abbrev pub after_all : Machine → List Operation → Machine
after_all m [] = m
after_all m (operation ∷ operations) = after_all (after m operation) operations

-- a new lot: nobody is registered, nobody waits; the same for threads with two numbers each
abbrev pub fresh : ℕ → ℕ → Machine
fresh limit number = record {
  number = number;
  max_threads = limit;
  paired = false;
  sleeps = 0;
  queues = λ _. [];
  resources = λ _. [];
  places = [];
  buckets = 16;
  sections = λ _. None;
  inside = λ _. None;
}

abbrev pub fresh_paired : ℕ → ℕ → Machine
fresh_paired limit number = record (fresh limit number) { paired = true }
