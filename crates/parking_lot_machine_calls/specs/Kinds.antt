-- What the kinds of locks are to the rules.
use Rattle.std.specs.Prelude.{ℕ, Bool, true, false, List, Option, Some, None, slice_get}
use Rattle.std.specs.Option.{unwrap_or}
use Rattle.parking_lot_machine_calls.specs.declared.calls.LockKind.{LockKind}
use Rattle.parking_lot_machine_calls.specs.declared.calls.LockKind.TheVariants as kind

-- by which rules a lock goes
pub data Manner : Type 0 where
  AsMutex : Manner
  AsRw : Manner

abbrev pub manner : LockKind → Manner
manner kind.Mutex = AsMutex
manner kind.FairMutex = AsMutex
manner kind.Rw = AsRw
manner kind.RwRecursive = AsRw

-- of the locks that there are
abbrev pub manner_of : Option LockKind → Option Manner
manner_of None = None
manner_of (Some k) = Some (manner k)

abbrev pub is_manner : Option Manner → Manner → Bool
is_manner (Some AsMutex) AsMutex = true
is_manner (Some AsRw) AsRw = true
is_manner other m = false

-- Beyond the last number there are reader-writer locks, where nobody is.
abbrev pub kind_in : List LockKind → ℕ → LockKind
kind_in kinds i = unwrap_or (slice_get kinds i) kind.Rw

-- whether a thread may read again that reads already, also past a writer
abbrev pub is_recursive : LockKind → Bool
is_recursive kind.RwRecursive = true
is_recursive other = false

abbrev pub recursive_in : List LockKind → ℕ → Bool
recursive_in kinds i = is_recursive (kind_in kinds i)
