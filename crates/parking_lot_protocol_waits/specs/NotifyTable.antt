-- A notification: the act that each phase has asked for, and the phase that follows what it gives.
use Rattle.std.specs.Prelude.{◌≡◌, ℕ, ◌+◌, ◌%◌, ◌^◌, ◌==◌, ◌&&◌, nat_lt, not, Bool, true, false, if◌then◌else◌}
use Rattle.parking_lot_core_model.specs.declared.parking.RequeueOp.{RequeueOp}
use Rattle.parking_lot_core_model.specs.declared.parking.RequeueOp.TheVariants.{Abort, UnparkOneRequeueRest, RequeueAll}
use Rattle.parking_lot_core_model.specs.declared.parking.RequeueOp.TheVariants.{UnparkOne, RequeueOne}
use Rattle.parking_lot_protocol_waits.specs.declared.notify_act.NotifyAct.{NotifyAct}
use Rattle.parking_lot_protocol_waits.specs.declared.notify_act.NotifyAct.TheVariants as act
use Rattle.parking_lot_protocol_waits.specs.declared.notify_act.NotifySeen.{NotifySeen}
use Rattle.parking_lot_protocol_waits.specs.declared.notify_act.NotifySeen.TheVariants.{Start, Word, Made, Marked}
use Rattle.parking_lot_protocol_waits.specs.declared.notify_act.NotifySeen.TheVariants.{Moved}
use Rattle.parking_lot_protocol_waits.specs.declared.notify_core.Notice.{Notice}
use Rattle.parking_lot_protocol_waits.specs.declared.notify_core.NotifyCore.{NotifyCore}
use Rattle.parking_lot_protocol_waits.specs.declared.notify_core.NotifyPhase.{NotifyPhase}
use Rattle.parking_lot_protocol_waits.specs.declared.notify_core.NotifyPhase.TheVariants.{Notifying, Loads, Enters}
use Rattle.parking_lot_protocol_waits.specs.declared.notify_core.NotifyPhase.TheVariants.{Checks, Marks, Moves}
use Rattle.parking_lot_protocol_waits.specs.declared.notify_core.NotifyPhase.TheVariants.{MarksRest, Forgets, Leaves}
use Rattle.parking_lot_protocol_waits.specs.declared.notify_core.NotifyPhase.TheVariants.{Wakes, Ends, Invalid}

-- what is done with the waiters, of all or of the first, where the mutex is locked or not
abbrev pub operation : Bool → Bool → RequeueOp
operation true true = RequeueAll
operation true false = UnparkOneRequeueRest
operation false true = RequeueOne
operation false false = UnparkOne

-- the act that a phase has asked for
abbrev pub act_of : NotifyPhase → NotifyAct
act_of (Notifying all) = act.Nothing
act_of (Loads all) = act.Load
act_of (Enters all word) = act.Enter
act_of (Checks all word) = act.Check
act_of (Marks all) = act.MarksIfLocked
act_of (Moves all locked) = act.Moves (operation all locked)
act_of (MarksRest notice) = act.Marks
act_of (Forgets notice) = act.Forgets
act_of (Leaves notice) = act.Leave
act_of (Wakes count) = act.Wake
act_of (Ends count) = act.Done count
act_of Invalid = act.Nothing

-- nobody is left, and the mutex is forgotten, or somebody is
abbrev pub forgets_or : Notice → NotifyPhase
forgets_or notice = (if notice.left then Leaves notice else Forgets notice)

-- so many were taken to be woken, and so many moved: those that were moved to a mutex that isn't locked are still to be
-- announced
abbrev pub moved_to : Bool → ℕ → ℕ → Bool → NotifyPhase
moved_to locked unparked requeued left =
    let notice : Notice = record { count = (unparked + requeued) % 2 ^ 64; wakes = nat_lt 0 unparked; left = left } in
    (if not locked && nat_lt 0 requeued then MarksRest notice else forgets_or notice)

-- one is still to be woken, or none
abbrev pub wakes_or : Notice → NotifyPhase
wakes_or notice = (if notice.wakes then Wakes notice.count else Ends notice.count)

-- The phase that follows what the act of this one gave. What doesn't fit leads astray.
abbrev pub next_phase : NotifyPhase → NotifySeen → NotifyPhase
next_phase (Notifying all) Start = Loads all
next_phase (Loads all) (Word word) = (if word == 0 then Ends 0 else Enters all word)
next_phase (Enters all word) Made = Checks all word
next_phase (Checks all word) (Word now) =
    (if now == word then Marks all else Leaves (record { count = 0; wakes = false; left = true }))
next_phase (Marks all) (Marked locked) = Moves all locked
next_phase (Moves all locked) (Moved unparked requeued left) = moved_to locked unparked requeued left
next_phase (MarksRest notice) Made = forgets_or notice
next_phase (Forgets notice) Made = Leaves notice
next_phase (Leaves notice) Made = wakes_or notice
next_phase (Wakes count) Made = Ends count
next_phase phase seen = Invalid

-- Whether an operation can take so many. One that takes the first to wake it moves others only behind that one.
abbrev pub fits : RequeueOp → ℕ → ℕ → Bool → Bool
fits Abort unparked requeued left = false
fits UnparkOneRequeueRest unparked requeued left = nat_lt unparked 2 && not left
    && not ((unparked == 0) && nat_lt 0 requeued)
fits RequeueAll unparked requeued left = (unparked == 0) && not left
fits UnparkOne unparked requeued left = nat_lt unparked 2 && (requeued == 0)
fits RequeueOne unparked requeued left = (unparked == 0) && nat_lt requeued 2

-- what an act can give at a word of the variable
abbrev pub Gives : NotifyAct → ℕ → NotifySeen → Type 0
Gives act.Load word (Word seen) = seen ≡ word
Gives act.Check word (Word seen) = seen ≡ word
Gives act.Enter word Made = Unit {0}
Gives act.Leave word Made = Unit {0}
Gives act.MarksIfLocked word (Marked locked) = Unit {0}
Gives (act.Moves op) word (Moved unparked requeued left) = fits op unparked requeued left ≡ true
Gives act.Marks word Made = Unit {0}
Gives act.Forgets word Made = Unit {0}
Gives act.Wake word Made = Unit {0}
Gives act word seen = ⊥

-- a core that was told so much more, and the act that one has asked for
abbrev pub notify_told : NotifyCore → NotifySeen → NotifyCore
notify_told core seen = record core { phase = next_phase core.phase seen }

abbrev pub notify_asks : NotifyCore → NotifyAct
notify_asks core = act_of core.phase
