-- What a machine of onces does, step by step.
use Rattle.std.specs.Prelude.{◌≡◌, ◌≢◌, ℕ, false, List, ◌∷◌, [], Option, Some, None}
use Rattle.parking_lot_protocol.specs.declared.act.Act.{Act}
use Rattle.parking_lot_protocol.specs.declared.act.Act.TheVariants as act
use Rattle.parking_lot_protocol.specs.declared.act.SectionAct.TheVariants as section
use Rattle.parking_lot_protocol.specs.declared.act.ActResult.{ActResult}
use Rattle.parking_lot_protocol.specs.declared.act.ActResult.TheVariants as seen
use Rattle.parking_lot_rules.specs.declared.once.wish.Wish.{Wish}
use Rattle.parking_lot_rules.specs.Once.Once.{Once, Step, Alone, Join, Take, Wake, Begin, Return, Leave, Allowed, after}
use Rattle.parking_lot_protocol_waits.specs.declared.once.once_phase.OnceAnswer.TheVariants as end
use Rattle.parking_lot_protocol_waits.specs.declared.once.once_phase.OncePhase.{OncePhase}
use Rattle.parking_lot_protocol_waits.specs.declared.once.once_phase.OncePhase.TheVariants.{Scans, Finishes, Ends}
use Rattle.parking_lot_protocol_waits.specs.Once.OnceMoves.{Move, Stays, Makes, Joins, TakesOne, WakesOne, IsWoken}
use Rattle.parking_lot_protocol_waits.specs.Once.OnceMoves.{move}
use Rattle.parking_lot_protocol_waits.specs.Once.OnceTable.{act_of}
use Rattle.parking_lot_machine_sides.specs.declared.once.calls.OnceCall.{OnceCall}
use Rattle.parking_lot_machine_sides.specs.declared.once.calls.OnceReply.{OnceReply}
use Rattle.parking_lot_machine_sides.specs.Once.Entries.{list_of}
use Rattle.parking_lot_machine_sides.specs.Once.OnceCalls.{ends_well, wish_of}
use Rattle.parking_lot_machine_sides.specs.Once.Onces.{OpenCall, Onces, word_at, call_at, known_of, once_at}
use Rattle.parking_lot_machine_sides.specs.Once.OnceActs.{shown, stepped, replied, begun}
use Rattle.parking_lot_machine_sides.specs.Once.OnceRanks.{Pays, Costs}

-- an act of its own thread and its once alone
abbrev pub IsActOfItsOwn : Act → Type 0
IsActOfItsOwn act.Load = Unit {0}
IsActOfItsOwn (act.Exchange from to) = Unit {0}
IsActOfItsOwn act.Spin = Unit {0}
IsActOfItsOwn (act.Enter key) = Unit {0}
IsActOfItsOwn (act.Section section.Check) = Unit {0}
IsActOfItsOwn (act.Section (section.Store plain fair)) = Unit {0}
IsActOfItsOwn (act.Section section.Leave) = Unit {0}
IsActOfItsOwn a = ⊥

-- something holds, where an act enters a section
abbrev pub IsEntry : Act → Type 0 → Type 0
IsEntry (act.Enter key) X = X
IsEntry a X = Unit {0}

-- WHICH STEP OF THE RULES IT IS

-- what its act gives a call, as far as its core's table asks: of a taking, whether somebody stands in the list
abbrev pub given_by : List ℕ → ActResult → OncePhase → ActResult
given_by [] a (Scans well taken) = seen.Took None false
given_by (v ∷ vs) a (Scans well taken) = seen.Took (Some (record { 0 = 0 })) false
given_by vs a p = a

-- What a step of a thread in that call is to its once, where it is to wake these and its act gives that, by its core's
-- table: its closure returns, it leaves, or what the answer to its core is.
abbrev pub move_by : List ℕ → OpenCall → ActResult → OncePhase → Move
move_by us c a (Ends (end.Runs before)) = Makes (Return before (ends_well c.call))
move_by us c a (Ends end.Completed) = Stays
move_by us c a (Ends end.Poisoned) = Stays
move_by us c a (Ends end.Finished) = Stays
move_by us c a Finishes = Makes Leave
move_by us c a p = move (known_of us c) p a

abbrev pub move_of : Onces → ℕ → OpenCall → Move
move_of s t c = move_by (list_of s.wakes t) c
    (given_by (list_of s.waiting c.once) (shown (act_of c.core.phase) (word_at s c.once)) c.core.phase) c.core.phase

-- the step of the rules of such a move, of one who is to wake these; whom it takes or wakes, the rules say
abbrev pub IsStepOf : List ℕ → Move → Option Step → Type 0
IsStepOf us Stays step = step ≡ None
IsStepOf us (Makes k) step = step ≡ Some (Alone k)
IsStepOf us (Joins wish) step = step ≡ Some (Join wish)
IsStepOf us (TakesOne well) step = (v : ℕ) × (wish : Wish) × (step ≡ Some (Take well us v wish))
IsStepOf us WakesOne step = (v : ℕ) × (left : List ℕ) × (wish : Wish) × (step ≡ Some (Wake v left wish))
IsStepOf us (IsWoken wish) step = step ≡ None

-- thread t has made that step, as it may
abbrev pub HasMade : ℕ → Option Step → Once → Once → Type 0
HasMade t None m n = n ≡ m
HasMade t (Some step) m n = Allowed t step m × (n ≡ after t step m)

-- It has made that step at once i, and every other once has stayed.
pub record IsLawful (t i : ℕ) (step : Option Step) (s u : Onces) : Type 0 where
  pub here : HasMade t step (once_at s i) (once_at u i)
  pub there : (j : ℕ) → j ≢ i → once_at u j ≡ once_at s j

-- It has begun, and nothing else has changed: that is its step of the rules, and adds a stated number of steps at most.
pub record IsBegun (t i : ℕ) (call : OnceCall) (s u : Onces) : Type 0 where
  pub became : u ≡ begun s t i call
  pub lawful : IsLawful t i (Some (Alone (Begin (wish_of call)))) s u
  pub costs : Costs t call s u

-- A thread in a call has made a step, and is answered where its call is over. All that the step changes follows from
-- the call and its act, it is a step of the rules, and it is paid for by the steps that were left.
pub record IsStepped (t : ℕ) (reply : Option OnceReply) (s u : Onces) : Type 0 where
  pub call : OpenCall
  pub here : call_at s t ≡ Some call
  pub replies : reply ≡ replied call
  pub became : u ≡ stepped (act_of call.core.phase) s t call
  pub step : Option Step
  pub named : IsStepOf (list_of s.wakes t) (move_of s t call) step
  pub lawful : IsLawful t call.once step s u
  pub pays : Pays t s u
