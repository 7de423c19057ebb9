-- What a method of the machine knows while it holds the machine's parts.
use Rattle.std.proofs.Common.{◌≡◌, ℕ, ◌+◌, ◌<◌, ◌≤◌, false, List, length, Option, Some, slice_set, sym, ap, ◌∙◌, subst}
use Rattle.std.proofs.Common.{arith}
use Rattle.std.proofs.lemmas.List.{length-set}
use Rattle.parking_lot_core_model.proofs.Numbers.{count_by-lt}
use Rattle.parking_lot_machine_sides.specs.declared.once.open_call.OpenCall.{OpenCall}
use Rattle.parking_lot_machine_sides.specs.Once.OnceFits.{Fits, is_listed, lies}
use Rattle.parking_lot_machine_sides.specs.Once.Onces.{Onces, call_at}
use Rattle.parking_lot_machine_sides.proofs.OnceFacts.Acting.{slot, within}

-- the call is among the parts
pub held : {m n : Onces} (t : ℕ) (c : OpenCall) → m ≡ n → call_at n t ≡ Some c → call_at m t ≡ Some c
held t c e here = ap (λ (x : Onces). call_at x t) e ∙ here

pub low : {m n : Onces} (t : ℕ) (c : OpenCall) → m ≡ n → call_at n t ≡ Some c → t < length m.calls
low {m} t c e here = within m.calls t c (held t c e here)

pub word_low : {m n : Onces} (t : ℕ) (c : OpenCall) → m ≡ n → call_at n t ≡ Some c → Fits m → c.once < length m.words
word_low {m} t c e here fits = (fits.seated t c (held t c e here)).low

-- there is room for one more where the thread itself doesn't wait
pub has_room : (s : Onces) (t : ℕ) (c : OpenCall) → Fits s → call_at s t ≡ Some c → is_listed c.core.phase ≡ false
    → length s.waiting + length s.wakes < length s.calls
has_room s t c fits here away =
    omega (arith, fits.room, count_by-lt lies s.calls t (Some c) (slot s.calls t c here) away)

pub room_set : (calls : List (Option OpenCall)) (t : ℕ) (o : Option OpenCall) (room : ℕ) → length calls ≤ room
    → length (slice_set calls t o) ≤ room
room_set calls t o room h = subst (λ n. n ≤ room) (sym (length-set calls t o)) h

pub room_two : (calls : List (Option OpenCall)) (t v : ℕ) (o x : Option OpenCall) (room : ℕ) → length calls ≤ room
    → length (slice_set (slice_set calls v x) t o) ≤ room
room_two calls t v o x room h = room_set (slice_set calls v x) t o room (room_set calls v x room h)
