-- What a call of a packed lock does to its word.
use Rattle.lock_api_spin.specs.declared.turn.Turn.{Turn}

-- That this change was made by an exchange. Nothing opens it but the proof of the function that makes exchanges, so
-- that a call which tells of a change has to ask that function for it.
unfoldable pub Made : Turn → Type 0
Made turn = Unit {0}

-- That a try for this change ended without it: it wasn't admitted at the word that was seen, or 64 exchanges were lost.
-- Nothing opens it but the proof of the function that makes exchanges.
unfoldable pub Missed : Turn → Type 0
Missed turn = Unit {0}
