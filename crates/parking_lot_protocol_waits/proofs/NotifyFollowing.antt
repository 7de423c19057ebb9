-- Each answer to a notification is the steps that the table says.
use Rattle.std.proofs.Common.{ℕ, ◌+◌, ◌%◌, ◌^◌, ◌==◌, ◌&&◌, nat_lt, not, Bool, true, false, cond, refl, inr}
use Rattle.parking_lot_protocol.proofs.MutexFollowing.{either}
use Rattle.parking_lot_protocol_waits.specs.declared.notify_act.NotifySeen.{NotifySeen}
use Rattle.parking_lot_protocol_waits.specs.declared.notify_act.NotifySeen.TheVariants.{Start, Word, Made, Marked}
use Rattle.parking_lot_protocol_waits.specs.declared.notify_act.NotifySeen.TheVariants.{Moved}
use Rattle.parking_lot_protocol_waits.specs.declared.notify_core.Notice.{Notice}
use Rattle.parking_lot_protocol_waits.specs.declared.notify_core.NotifyPhase.{NotifyPhase}
use Rattle.parking_lot_protocol_waits.specs.declared.notify_core.NotifyPhase.TheVariants.{Notifying, Loads, Enters}
use Rattle.parking_lot_protocol_waits.specs.declared.notify_core.NotifyPhase.TheVariants.{Checks, Marks, Moves}
use Rattle.parking_lot_protocol_waits.specs.declared.notify_core.NotifyPhase.TheVariants.{MarksRest, Forgets, Leaves}
use Rattle.parking_lot_protocol_waits.specs.declared.notify_core.NotifyPhase.TheVariants.{Wakes}
use Rattle.parking_lot_protocol_waits.specs.NotifyTable.{forgets_or}
use Rattle.parking_lot_protocol_waits.specs.NotifyRules.{Follows, IsMove, Stays, Closes, Releases, does, taken_in}

-- the word shows the same mutex in the section, or not
checks : (all : Bool) (word n : ℕ) (same : Bool)
    → IsMove (cond same Stays (Closes true)) (Checks all word)
    (cond same (Marks all) (Leaves (record { count = 0; wakes = false; left = true }))) n n
checks all word n true = (refl, refl, refl)
checks all word n false = ((refl, refl, refl), refl)

-- waiters were taken, and those that were moved behind one that is woken are still to be announced, or not
moves : (all locked rest left wakes : Bool) (count word : ℕ) → let notice : Notice =
    record { count = count % 2 ^ 64; wakes = wakes; left = left } in
    IsMove (Releases count (cond rest false left)) (Moves all locked) (cond rest (MarksRest notice) (forgets_or notice))
    word word
moves all locked true left wakes count word = ((refl, refl, refl), refl)
moves all locked false true wakes count word = ((refl, refl, refl), refl)
moves all locked false false wakes count word = ((refl, refl, refl), refl)

-- they are announced
announces : (count : ℕ) (wakes left : Bool) (word : ℕ) → let notice : Notice =
    record { count = count; wakes = wakes; left = left } in
    IsMove (Closes left) (MarksRest notice) (forgets_or notice) word word
announces count wakes true word = ((refl, refl, refl), refl)
announces count wakes false word = ((refl, refl, refl), refl)

pub follows : (p : NotifyPhase) (s : NotifySeen) → Follows p s
follows (Notifying all) Start word g = (refl, refl, refl)
follows (Loads all) (Word n) word g =
    (either does (n == 0) _ _ _ refl refl, either taken_in (n == 0) _ _ _ refl refl, refl)
follows (Enters all w) Made word g = (record { from = refl; to = refl; may = refl; written = refl }, refl)
follows (Checks all w) (Word n) word g = checks all w word (n == w)
follows (Marks all) (Marked locked) word g = (refl, refl, refl)
follows (Moves all locked) (Moved unparked requeued left) word g = moves all locked (not locked && nat_lt 0 requeued)
    left (nat_lt 0 unparked) (unparked + requeued) word
follows (MarksRest notice) Made word g = announces notice.count notice.wakes notice.left word
follows (Forgets notice) Made word g = (record { from = refl; to = refl; may = (inr refl, refl); written = refl }, refl)
follows (Leaves notice) Made word g = (
  record { from = refl; to = either does notice.wakes _ _ _ refl refl; may = tt; written = refl },
  either taken_in notice.wakes _ _ _ refl refl,
)
follows (Wakes count) Made word g = (refl, refl, refl)
follows p s word g = absurd g
