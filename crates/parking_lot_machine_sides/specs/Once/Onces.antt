-- What a machine of onces consists of, and which one-time initializations of the rules it shows.
use Rattle.std.specs.Prelude.{ℕ, ◌*◌, ◌%◌, ◌==◌, if◌then◌else◌, List, length, map, Option, Some, None, slice_get}
use Rattle.std.specs.List.{range_with_len}
use Rattle.std.specs.Option.{option_and_then, option_map_or}
use Rattle.parking_lot_core_model.specs.Buckets.{slot}
use Rattle.parking_lot_rules.specs.Classes.{bit}
use Rattle.parking_lot_rules.specs.Once.Once.{Once, Role, Idle, Word}
use Rattle.parking_lot_protocol_waits.specs.Once.OnceTable.{state_of, is_parked}
use Rattle.parking_lot_protocol_waits.specs.Once.OnceMoves.{Known, role}
pub use Rattle.parking_lot_machine_sides.specs.declared.once.entry.Entry.{Entry}
pub use Rattle.parking_lot_machine_sides.specs.declared.once.open_call.OpenCall.{OpenCall}
use Rattle.parking_lot_machine_sides.specs.Once.Entries.{list_of}

pub record Onces : Type 0 where
  -- by the number of the once
  pub words : List ℕ
  -- by the number of the thread
  pub calls : List (Option OpenCall)
  -- who waits, by once; and whom threads have taken and are still to wake, by thread
  pub waiting : List Entry
  pub wakes : List Entry
  -- by bucket: who is in the section that is open there
  pub inside : List (Option ℕ)

abbrev pub word_at : Onces → ℕ → ℕ
word_at s i = option_map_or (λ w. w) (slice_get s.words i) 0

abbrev pub call_in : List (Option OpenCall) → ℕ → Option OpenCall
call_in calls t = option_and_then (λ c. c) (slice_get calls t)

abbrev pub call_at : Onces → ℕ → Option OpenCall
call_at s t = call_in s.calls t

-- SECTIONS

-- the bucket of a once, whose list is under the first of its two keys; and who has entered it
abbrev pub bucket_of : Onces → ℕ → ℕ
bucket_of s i = 2 * i % length s.inside

abbrev pub inside_at : Onces → ℕ → Option ℕ
inside_at s i = slot s.inside (bucket_of s i)

-- WHAT A THREAD IS TO A ONCE

-- what its core doesn't know: the state that its closure was handed, and whom it is to wake
abbrev pub known_of : List ℕ → OpenCall → Known
known_of us c = record { before = c.before; taken = us }

abbrev pub role_in : ℕ → List ℕ → Option OpenCall → Role
role_in i us None = Idle
role_in i us (Some c) = if c.once == i then role c.taker (known_of us c) c.core.phase else Idle

abbrev pub role_at : Onces → ℕ → ℕ → Role
role_at s i t = role_in i (list_of s.wakes t) (call_at s t)

-- of all of n threads
abbrev pub everybody : {R : Type 0} → (ℕ → R) → ℕ → List R
everybody f n = map f (range_with_len 0 n)

-- THE ONCES

abbrev pub word_of : ℕ → Word
word_of n = record { state = state_of n; parked = bit (is_parked n) }

-- beyond the last number there are new ones too, where nobody is
abbrev pub once_at : Onces → ℕ → Once
once_at s i = record {
  word = word_of (word_at s i);
  roles = everybody (role_at s i) (length s.calls);
  queue = list_of s.waiting i;
}
