-- How pairs and answers are written.
use Rattle.std.specs.Prelude.{ℕ, Bool, true, false, List, [], ◌∷◌, ◌++◌}
use Rattle.std.specs.Fmt.{decimal}
use Rattle.std.specs.List.{flat_map}
use Rattle.mapworld_calls.specs.declared.reply.Answer.{Answer}
use Rattle.mapworld_calls.specs.declared.reply.Answer.TheVariants as answer
use lib.Chars.{codes}

-- a pair: its key, an equals sign and its value
abbrev pub pair_text : ℕ × ℕ → List ℕ
pair_text p = decimal p.0 ++ (codes "=" ++ decimal p.1)

-- pairs, each behind a space
abbrev pub pairs_text : List (ℕ × ℕ) → List ℕ
pairs_text ps = flat_map (λ p. codes " " ++ pair_text p) ps

-- pairs with a space between any two
abbrev pub contents_text : List (ℕ × ℕ) → List ℕ
contents_text [] = codes "none"
contents_text (p ∷ ps) = decimal p.0 ++ (codes "=" ++ (decimal p.1 ++ pairs_text ps))

-- what a walk has read
abbrev pub reads_text : List (ℕ × ℕ) → List ℕ
reads_text [] = codes "reads nothing"
reads_text (p ∷ ps) = codes "reads" ++ pairs_text (p ∷ ps)

-- what a call is answered
abbrev pub answer_text : {A : Type 0} → Answer ℕ ℕ (ℕ × ℕ) A → List ℕ
answer_text answer.Done = codes "done"
answer_text answer.None = codes "none"
answer_text (answer.Value v) = codes "value " ++ decimal v
answer_text (answer.Pair k v) = codes "pair " ++ pair_text (k, v)
answer_text (answer.Key k) = codes "key " ++ decimal k
answer_text (answer.Read p) = codes "read " ++ pair_text p
answer_text answer.Held = codes "held"
answer_text answer.Vacant = codes "vacant"
answer_text answer.NoGuard = codes "no-guard"
answer_text answer.WrongGuard = codes "wrong-guard"
answer_text (answer.Flag true) = codes "yes"
answer_text (answer.Flag false) = codes "no"
answer_text (answer.Count n) = codes "count " ++ decimal n
answer_text (answer.Reads reads) = reads_text reads.items
answer_text answer.Locked = codes "locked"
answer_text answer.NoMemory = codes "no-memory"
