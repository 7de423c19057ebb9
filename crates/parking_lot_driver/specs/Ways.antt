-- The way that a core goes where nobody is beside its call.
use Rattle.std.specs.Prelude.{◌≡◌, ⊤, List, [], ◌∷◌}
use Rattle.parking_lot_protocol.specs.declared.act.Act.{Act}
use Rattle.parking_lot_protocol.specs.declared.act.ActResult.{ActResult}

-- Told these results one after another, a core asks for the act beside each.
abbrev pub Goes : {C : Type 0} → (C → ActResult → C) → (C → Act) → C → List (ActResult × Act) → Type 0
Goes next asks core [] = ⊤
Goes next asks core ((told, act) ∷ way) = (asks (next core told) ≡ act) × Goes next asks (next core told) way
