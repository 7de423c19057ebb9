use Rattle.std.proofs.Common.{◌≡◌, IfOk, string_bytes, sym, subst, arith, rules}
use Rattle.std.proofs.lemmas.Slice.{first_rest}
use Rattle.mapworld_text.specs.Texts.{contents_text}
use Rattle.mapworld_explorer.proofs.reading.text_of.Goals as goal

pub returns-in-len1-up : goal.returns-in-len1-up
returns-in-len1-up c = subst (λ ps. IfOk c.format.result (λ text. string_bytes text ≡ contents_text ps))
    (sym (first_rest c.args.pairs.now (0, 0) (omega (arith, c.in-len1-up.len_at_least)))) (search rules)
