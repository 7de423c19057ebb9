-- How a nested hold begins and ends.
use Rattle.std.specs.Prelude.{◌⊎◌, Option, None, Some, IfSome, MatchOption}

-- That the party was the owner at one look. This and the next five are each opened by nothing but the proof of the one
-- function that does it, so that who says so has to ask that function.
unfoldable pub IsOwner : {P : Type 0} → P → Type 0
IsOwner party = Unit {0}

-- That one was added to the count of the party's holds, which was the owner.
unfoldable pub WasNested : {P : Type 0} → P → Type 0
WasNested party = Unit {0}

-- That this count was at its limit at one look.
unfoldable pub WasFull : {P : Type 0} → P → Type 0
WasFull party = Unit {0}

-- That the raw token was put into the slot, for a first hold.
unfoldable pub WasPutIn : {T : Type 0} → T → Type 0
WasPutIn token = Unit {0}

-- That the count was more than 1 at one look.
unfoldable pub IsNested : Type 0
IsNested = Unit {0}

-- That this was taken out of the slot, with the count at 0.
unfoldable pub WasTakenOut : {T : Type 0} → Option T → Type 0
WasTakenOut token = Unit {0}

-- A hold of the party began: by one more of its own, or by a raw token that was admitted so and put into the slot.
abbrev pub Entered : {P T : Type 0} → P → (T → Type 0) → Type 0
Entered {P} {T} party admitted = WasNested party ⊎ ((token : T) × WasPutIn token × admitted token)

-- What a call found that may be refused: no hold where the raw mutex refused.
abbrev pub EnteredIf : {P T N : Type 0} → P → (Option T → Type 0) → Option N → Type 0
EnteredIf party tried found = MatchOption found (tried None) (λ _. Entered party (λ token. tried (Some token)))

-- What the end of a nested hold gave: nothing if there were others, and else what lay in the slot.
abbrev pub Left : {T : Type 0} → Option T → Type 0
Left {T} None = IsNested ⊎ WasTakenOut {T = T} None
Left {T} (Some token) = WasTakenOut (Some token)

-- That a nested hold was ended, and its raw token, if it was the last one, was spent so.
abbrev pub EndedBy : {T : Type 0} → (T → Type 0) → Type 0
EndedBy {T} spent = (token : Option T) × Left token × IfSome token spent

-- That a raw token was bumped, if the hold was the only one, and the one that came back put into the slot.
abbrev pub BumpedAlone : {T : Type 0} → (T → T → Type 0) → Type 0
BumpedAlone {T} bumped = (token : Option T) × Left token
    × IfSome token (λ before. (after : T) × bumped before after × WasPutIn after)
