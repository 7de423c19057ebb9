-- A word that is another than before was changed by one of the moves in between.
use Rattle.std.proofs.Common.{◌∷◌, [], inl, inr, ◌∙◌}
use Rattle.std.proofs.lemmas.Bool.{cases_eq}
use Rattle.parking_lot_machine.specs.LostExchanges.{LostExchangesHaveCauses}
use Rattle.parking_lot_machine.specs.Rows.{word_at}

pub lost_exchanges_have_causes : LostExchangesHaveCauses
lost_exchanges_have_causes t i from s [] was others lost = absurd (lost.lost was)
lost_exchanges_have_causes t i from s (m ∷ rest) was others lost = elim (cases_eq (word_at m.1 i) (word_at s i)) [
  | inl same ↦ inr (lost_exchanges_have_causes t i from m.1 rest (same ∙ was) others.2 lost)
  | inr changed ↦ inl (others.0, others.1, changed)
]
