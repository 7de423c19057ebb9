-- What acts do to a word, and what they show of it.
use Rattle.std.specs.Prelude.{◌≡◌, ◌≢◌, ℕ, ◌+◌, ◌%◌, ◌^◌, Bool, true, false, if◌then◌else◌, bit_and, Option, Some, None}
use Rattle.std.specs.Prelude.{Result, Ok, Err}
use Rattle.parking_lot_protocol.specs.declared.act.Act.{Act}
use Rattle.parking_lot_protocol.specs.declared.act.Act.TheVariants.{Load, Exchange, Add, FetchAnd, Spin, Enter, Section}
use Rattle.parking_lot_protocol.specs.declared.act.Act.TheVariants.{Sleep}
use Rattle.parking_lot_protocol.specs.declared.act.SectionAct.TheVariants.{Check, TakeFirst, TakeNext, Append, Store}
use Rattle.parking_lot_protocol.specs.declared.act.SectionAct.TheVariants.{Leave, Wake}
use Rattle.parking_lot_protocol.specs.declared.act.WordChange.{WordChange}
use Rattle.parking_lot_protocol.specs.declared.act.ActResult.{ActResult}
use Rattle.parking_lot_protocol.specs.declared.act.Taking.{Taking}
use Rattle.parking_lot_core_model.specs.declared.parking.UnparkToken.{UnparkToken}
use Rattle.parking_lot_protocol.specs.declared.act.ActResult.TheVariants.{Start, Word, Exchanged, Before, Spun, Entered}
use Rattle.parking_lot_protocol.specs.declared.act.ActResult.TheVariants.{Took, Stored, Made, Woken}

-- the word after a change
abbrev pub change_of : WordChange → ℕ → ℕ
change_of change word = (bit_and word change.keep + change.add) % 2 ^ 64

-- The word after an act that gave this.
abbrev pub word_after : Act → ActResult → ℕ → ℕ
word_after (Exchange from to) Exchanged word = to
word_after (Add by) (Before seen) word = (word + by) % 2 ^ 64
word_after (FetchAnd keep) (Before seen) word = bit_and word keep
word_after (Section (Store plain fair)) (Stored is_fair) word = change_of (if is_fair then fair else plain) word
word_after act seen word = word

-- What an act can give at a word. An exchange is won exactly where the word is the one that it names.
abbrev pub Gives : Act → ℕ → ActResult → Type 0
Gives Load word (Word seen) = seen ≡ word
Gives (Exchange from to) word Exchanged = word ≡ from
Gives (Exchange from to) word (Word seen) = (seen ≡ word) × (word ≢ from)
Gives (Add by) word (Before seen) = seen ≡ word
Gives (FetchAnd keep) word (Before seen) = seen ≡ word
Gives Spin word (Spun spun) = Unit {0}
Gives (Enter key) word Entered = Unit {0}
Gives (Section Check) word (Word seen) = seen ≡ word
Gives (Section TakeFirst) word (Took token left) = Unit {0}
Gives (Section (TakeNext sum)) word (Took token left) = Unit {0}
Gives (Section (Append token)) word Made = Unit {0}
Gives (Section (Store plain fair)) word (Stored is_fair) = Unit {0}
Gives (Section Leave) word Made = Unit {0}
Gives (Section Wake) word Made = Unit {0}
Gives Sleep word (Woken token) = Unit {0}
Gives act word seen = ⊥

-- what a call is told as it begins
abbrev pub Begins : ActResult → Type 0
Begins Start = Unit {0}
Begins seen = ⊥

-- WHAT IS SEEN, BY THE KIND OF ACT THAT GIVES IT

-- the call begins
abbrev pub is_start : ActResult → Bool
is_start Start = true
is_start (Word word) = false
is_start Exchanged = false
is_start (Before word) = false
is_start (Spun spun) = false
is_start Entered = false
is_start (Took token left) = false
is_start (Stored fair) = false
is_start Made = false
is_start (Woken token) = false

-- the section is entered
abbrev pub is_entered : ActResult → Bool
is_entered Start = false
is_entered (Word word) = false
is_entered Exchanged = false
is_entered (Before word) = false
is_entered (Spun spun) = false
is_entered Entered = true
is_entered (Took token left) = false
is_entered (Stored fair) = false
is_entered Made = false
is_entered (Woken token) = false

-- the act was made
abbrev pub is_made : ActResult → Bool
is_made Start = false
is_made (Word word) = false
is_made Exchanged = false
is_made (Before word) = false
is_made (Spun spun) = false
is_made Entered = false
is_made (Took token left) = false
is_made (Stored fair) = false
is_made Made = true
is_made (Woken token) = false

-- a word that a load or a check saw
abbrev pub word_seen : ActResult → Option ℕ
word_seen Start = None
word_seen (Word word) = Some word
word_seen Exchanged = None
word_seen (Before word) = None
word_seen (Spun spun) = None
word_seen Entered = None
word_seen (Took token left) = None
word_seen (Stored fair) = None
word_seen Made = None
word_seen (Woken token) = None

-- a word that an add or a mask found
abbrev pub word_before : ActResult → Option ℕ
word_before Start = None
word_before (Word word) = None
word_before Exchanged = None
word_before (Before word) = Some word
word_before (Spun spun) = None
word_before Entered = None
word_before (Took token left) = None
word_before (Stored fair) = None
word_before Made = None
word_before (Woken token) = None

-- whether an exchange was won, and else the word that it saw
abbrev pub exchange_seen : ActResult → Option (Result (Unit {0}) ℕ)
exchange_seen Start = None
exchange_seen (Word word) = Some (Err word)
exchange_seen Exchanged = Some (Ok tt)
exchange_seen (Before word) = None
exchange_seen (Spun spun) = None
exchange_seen Entered = None
exchange_seen (Took token left) = None
exchange_seen (Stored fair) = None
exchange_seen Made = None
exchange_seen (Woken token) = None

-- whether a round was spun
abbrev pub spun_seen : ActResult → Option Bool
spun_seen Start = None
spun_seen (Word word) = None
spun_seen Exchanged = None
spun_seen (Before word) = None
spun_seen (Spun spun) = Some spun
spun_seen Entered = None
spun_seen (Took token left) = None
spun_seen (Stored fair) = None
spun_seen Made = None
spun_seen (Woken token) = None

-- what a taking gave
abbrev pub took_seen : ActResult → Option Taking
took_seen Start = None
took_seen (Word word) = None
took_seen Exchanged = None
took_seen (Before word) = None
took_seen (Spun spun) = None
took_seen Entered = None
took_seen (Took token left) = Some (record { token = token; left = left })
took_seen (Stored fair) = None
took_seen Made = None
took_seen (Woken token) = None

-- which of the two changes was made
abbrev pub stored_seen : ActResult → Option Bool
stored_seen Start = None
stored_seen (Word word) = None
stored_seen Exchanged = None
stored_seen (Before word) = None
stored_seen (Spun spun) = None
stored_seen Entered = None
stored_seen (Took token left) = None
stored_seen (Stored fair) = Some fair
stored_seen Made = None
stored_seen (Woken token) = None

-- the token of a wake
abbrev pub woken_seen : ActResult → Option UnparkToken
woken_seen Start = None
woken_seen (Word word) = None
woken_seen Exchanged = None
woken_seen (Before word) = None
woken_seen (Spun spun) = None
woken_seen Entered = None
woken_seen (Took token left) = None
woken_seen (Stored fair) = None
woken_seen Made = None
woken_seen (Woken token) = Some token
