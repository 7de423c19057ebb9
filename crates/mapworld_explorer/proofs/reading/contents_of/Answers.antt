use Rattle.std.proofs.Common.{◌≡◌, IfOk, string_bytes, subst}
use Rattle.mapworld_text.specs.Texts.{contents_text}
use Rattle.mapworld_explorer.proofs.Telling.{contents_told}
use Rattle.mapworld_explorer.proofs.reading.contents_of.Goals as goal

pub returns : goal.returns
returns c = contents_told string_bytes _ _ _ c.text_of.result c.in_ok-pairs.ensures c.sort_unstable.ensures.permutation
    c.sort_unstable.ensures.sorted (subst (λ l. IfOk c.text_of.result (λ text. string_bytes text ≡ contents_text l))
    c.deref.ensures.value c.text_of.ensures)
