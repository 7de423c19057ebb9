-- What the entries of a desk mean.
use Rattle.std.specs.Prelude.{Bool, true, false, List, map, if◌then◌else◌}
use Rattle.lock_api_desk.specs.declared.mode.Mode.{Mode}
use Rattle.lock_api_desk.specs.declared.mode.Mode.TheVariants as mode
use Rattle.lock_api_desk.specs.declared.hold.Hold.{Hold}
use Rattle.lock_api_desk.specs.declared.hold.Hold.TheVariants as hold
use Rattle.lock_api_desk.specs.declared.hold.Entry.{Entry}
use Rattle.lock_api_desk.specs.declared.hold.Suit.{Suit}
use Rattle.lock_api_desk.specs.declared.hold.Suit.TheVariants as suit
use Rattle.lock_api_desk.specs.Guards.{Guard, is_held, holds}
use Rattle.lock_api_desk.specs.Out.{Out, one_more, one_less}

module _ {S E U : Type 0} where
  -- the mode of a hold, and the kept one of a guard that is set aside
  abbrev pub mode_of : Hold S E U → Mode
  mode_of (hold.Shared token) = mode.Shared
  mode_of (hold.Exclusive token) = mode.Exclusive
  mode_of (hold.Upgradable token) = mode.Upgradable
  mode_of (hold.Aside kept) = kept

  -- the guard is set aside
  abbrev pub aside_of : Hold S E U → Bool
  aside_of (hold.Shared token) = false
  aside_of (hold.Exclusive token) = false
  aside_of (hold.Upgradable token) = false
  aside_of (hold.Aside kept) = true

  -- the guard of an entry
  abbrev pub guard_in : Entry S E U → Guard
  guard_in entry = record {
    number = entry.number;
    mode = mode_of entry.hold;
    party = entry.party;
    is_aside = aside_of entry.hold;
  }

  -- the guards of a list of entries
  abbrev pub guards_in : List (Entry S E U) → List Guard
  guards_in entries = map guard_in entries

-- what a call asks of its guard
abbrev pub suits : Suit → Guard → Bool
suits suit.Held guard = is_held guard
suits (suit.In mode) guard = holds mode guard
suits suit.Aside guard = guard.is_aside

-- what is out without a guard of that mode, and with one more, if it is held
abbrev pub less : Mode → Bool → Out → Out
less mode is_aside out = if is_aside then out else one_less mode out

abbrev pub more : Mode → Bool → Out → Out
more mode is_aside out = if is_aside then out else one_more mode out
