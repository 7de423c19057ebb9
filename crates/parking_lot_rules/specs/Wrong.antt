-- Wrong steps: each leads from a sound lock to one that isn't.
use Rattle.std.specs.Prelude.{◌≡◌, ◌≢◌, ℕ, ◌<◌, true, false, [], ◌∷◌, ◌++◌, length, map, slice_get, slice_set, Some}
use Rattle.std.specs.List.{remove}
use Rattle.parking_lot_rules.specs.Roles.{Mode, Exclusive, Shares, Fresh, Asleep, Open, Normal, FromExclusive, Owed}
use Rattle.parking_lot_rules.specs.Roles.{Phase, Idle, Seeks, Enters1, Queued1, Taken1, Yields, Scans1, Stored1, Scans2}
use Rattle.parking_lot_rules.specs.Roles.{Masked2, Wakes, Role}
use Rattle.parking_lot_rules.specs.Lock.{Lock, IsSound}
use Rattle.parking_lot_rules.specs.Plain.{Share}
use Rattle.parking_lot_rules.specs.Steps.{Scan, scanning, taking, settle, Alone, Allowed, after}
use Rattle.parking_lot_rules.specs.Laws.{DebtsAreKept}

-- the step leads somewhere from a sound lock to one that isn't sound
abbrev pub IsWrong : (ℕ → Lock → Lock → Type 0) → Type 0
IsWrong step = (l new : Lock) × (t : ℕ) × IsSound l × step t l new × (IsSound new → ⊥)

-- a role of a thread that owns nothing
abbrev pub doing : Phase → Role
doing p = record { owns = Shares 0; does = p }

-- A reader's section clears the bit of the second key, and leaves the pending writer in the list.
abbrev pub ForgetsTheWriter : ℕ → Lock → Lock → Type 0
ForgetsTheWriter t l new = (slice_get l.roles t ≡ Some (doing (Scans2 []))) × (0 < length l.second)
    × (new ≡ record l { word = record l.word { parked2 = 0 }; roles = slice_set l.roles t (doing (Masked2 [])) })

-- One that goes through the first list has taken a writer, and takes another.
abbrev pub GoesPastAWriter : ℕ → Lock → Lock → Type 0
GoesPastAWriter t l new = (s : Scan) × (v : ℕ) × (slice_get l.roles t ≡ Some (scanning s)) × (s.writer ≡ true)
    × (slice_get l.first 0 ≡ Some v) × (slice_get l.roles v ≡ Some (doing (Queued1 Exclusive Asleep)))
    × (new ≡ record l {
      roles = slice_set (slice_set l.roles t (scanning (taking s v Exclusive))) v
          (doing (Taken1 Exclusive t Open Asleep));
      first = remove l.first 0;
    })

-- A thread joins the first list as soon as it is inside, without a look at the word.
abbrev pub JoinsUnchecked : ℕ → Lock → Lock → Type 0
JoinsUnchecked t l new = (mode : Mode) × (slice_get l.roles t ≡ Some (doing (Enters1 mode false)))
    × (new ≡ record l { roles = slice_set l.roles t (doing (Queued1 mode Fresh)); first = l.first ++ t ∷ [] })

-- One that looked through the list for no use leaves the parked bit set, though nobody is left.
abbrev pub LeavesTheBit : ℕ → Lock → Lock → Type 0
LeavesTheBit t l new = (slice_get l.roles t ≡ Some (doing (Scans1 Owed 0 false false []))) × (l.first ≡ [])
    × (l.word.parked1 ≡ 1)
    × (new ≡ record l { roles = slice_set l.roles t (doing (Stored1 [])) })

-- The exclusive hold is given up by a store of 0, though waiters are left.
abbrev pub StoresZero : ℕ → Lock → Lock → Type 0
StoresZero t l new = (s : Scan) × (slice_get l.roles t ≡ Some (scanning s)) × (s.cause ≡ FromExclusive)
    × (0 < length l.first)
    × (new ≡ record l {
      word = record { readers = 0; writer = 0; upgradable = 0; parked2 = 0; parked1 = 0 };
      roles = slice_set (map (settle Normal) l.roles) t (doing (Stored1 s.taken));
    })

-- A thread is woken though the one that wakes it isn't the one that took it last.
abbrev pub WakesByNumber : ℕ → Lock → Lock → Type 0
WakesByNumber t l new = (v by : ℕ) × (mode : Mode) × (slice_get l.roles t ≡ Some (doing (Wakes (v ∷ []))))
    × (slice_get l.roles v ≡ Some (doing (Taken1 mode by Open Asleep))) × (by ≢ t)
    × (new ≡ record l { roles = slice_set (slice_set l.roles v (doing (Seeks mode true))) t (doing (Wakes [])) })

-- A pending writer gives up, and its bit stays.
abbrev pub KeepsItsBit : ℕ → Lock → Lock → Type 0
KeepsItsBit t l new = (slice_get l.roles t ≡ Some (doing (Yields false))) × (l.word.parked2 ≡ 1)
    × (new ≡ record l { word = record l.word { writer = 0 }; roles = slice_set l.roles t (doing Idle) })

-- What is said of debts alone isn't kept by every step: a woken reader owns the lock, and nobody owes the waiters
-- anything.
abbrev pub DebtsAloneBreak : Type 0
DebtsAloneBreak = (l : Lock) × (t : ℕ) × DebtsAreKept l × Allowed false t (Alone (Share 0 true)) l
    × (DebtsAreKept (after t (Alone (Share 0 true)) l) → ⊥)
