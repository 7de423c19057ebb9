-- What a world comes to: what its threads were answered and the pairs that it has, and how these are written.
use Rattle.std.specs.Prelude.{◌≡◌, ℕ, suc, zero, ◌==◌, ◌&&◌, Bool, false, List, [], ◌∷◌, ◌++◌, length, ⊤}
use Rattle.std.specs.Prelude.{Option, Some, None, bytes_eq, string_bytes}
use Rattle.std.specs.Hash.{HashWrites}
use Rattle.std.specs.List.{filter, find, list_all}
use Rattle.std.specs.List.Sorted.{IsPermutation, IsSorted}
use Rattle.std.specs.Option.{option_map}
use Rattle.std.specs.Ordering.{nat_cmp, ordering_then}
use Rattle.std.specs.declared.cmp.Ordering.{Ordering}
use Rattle.std.specs.declared.hash.BuildHasher as builder
use Rattle.std.specs.declared.hash.Hasher as hasher
use Rattle.mapworld_calls.specs.declared.ask.Ask.{Ask}
use Rattle.mapworld_calls.specs.declared.deed.Deed as deed
use Rattle.mapworld_calls.specs.declared.reply.Answer.{Answer}
use Rattle.mapworld_calls.specs.declared.reply.Answer.TheVariants as answer
use Rattle.mapworld_calls.specs.declared.reply.Reply.{Reply}
use Rattle.mapworld_state.specs.declared.step.Step.{Step}
use Rattle.mapworld_state.specs.State.{State, pairs_of}
use Rattle.mapworld_text.specs.Texts.{answer_text, contents_text, reads_text}
use Rattle.mapworld_explorer.specs.declared.outcome.Answering.{Answering}
use Rattle.mapworld_explorer.specs.declared.outcome.Outcome.{Outcome}
use Rattle.mapworld_explorer.specs.Led.{IsLedBy}
use Rattle.mapworld_explorer.specs.Standing.{HasEnded}

-- pairs are in the order of their keys, and with one key in that of their values
abbrev pub pair_cmp : ℕ × ℕ → ℕ × ℕ → Ordering
pair_cmp p q = ordering_then (nat_cmp p.0 q.0) (nat_cmp p.1 q.1)

-- a thread's replies
abbrev pub of_thread : {T A : Type 0} → ℕ → List (Reply ℕ ℕ T A) → List (Reply ℕ ℕ T A)
of_thread t replies = filter (λ r. r.thread == t) replies

-- the replies of the first threads, by threads and then by calls
abbrev pub by_threads : {T A : Type 0} → ℕ → List (Reply ℕ ℕ T A) → List (Reply ℕ ℕ T A)
by_threads zero replies = []
by_threads (suc n) replies = by_threads n replies ++ of_thread n replies

-- the same pairs, by their keys
pub record AreByKeys (pairs sorted : List (ℕ × ℕ)) : Type 0 where
  pub same : IsPermutation pairs sorted
  pub by_keys : IsSorted pair_cmp sorted

-- what a walk has read was written behind a text, by keys
abbrev pub AreReadsWritten : List (ℕ × ℕ) → List ℕ → List ℕ → Type 0
AreReadsWritten reads old new =
    (sorted : List (ℕ × ℕ)) × AreByKeys reads sorted × (new ≡ old ++ reads_text sorted)

-- an answer was
abbrev pub IsAnswerWritten : {A : Type 0} → Answer ℕ ℕ (ℕ × ℕ) A → List ℕ → List ℕ → Type 0
IsAnswerWritten (answer.Reads reads) old new = AreReadsWritten reads.items old new
IsAnswerWritten a old new = new ≡ old ++ answer_text a

-- the text of a world's pairs, by their keys
abbrev pub IsContentsText : List (ℕ × ℕ) → List ℕ → Type 0
IsContentsText pairs text =
    (sorted : List (ℕ × ℕ)) × AreByKeys pairs sorted × (text ≡ contents_text sorted)

-- what is told of a reply is of its call, and its answer
pub record IsReplyTold {A : Type 0} (r : Reply ℕ ℕ (ℕ × ℕ) A) (a : Answering) : Type 0 where
  pub thread : a.thread ≡ r.thread
  pub call : a.call ≡ r.call
  pub text : IsAnswerWritten r.answer [] (string_bytes a.text)

-- each reply is told, in their order, and nothing else
abbrev pub AreRepliesTold : {A : Type 0} → List (Reply ℕ ℕ (ℕ × ℕ) A) → List Answering → Type 0
AreRepliesTold [] [] = ⊤
AreRepliesTold [] (a ∷ answers) = ⊥
AreRepliesTold (r ∷ replies) [] = ⊥
AreRepliesTold (r ∷ replies) (a ∷ answers) = IsReplyTold r a × AreRepliesTold replies answers

-- what a world comes to: each of its replies, by threads and then by calls, and its pairs
pub record IsOutcomeOf {S D A : Type 0} (w : State ℕ ℕ S D (ℕ × ℕ) A) (o : Outcome) : Type 0 where
  pub answers : AreRepliesTold (by_threads (length w.programs) w.replies) o.answers.items
  pub contents : IsContentsText (pairs_of w) (string_bytes o.contents)

-- the text of a call's answer
abbrev pub answer_in : Outcome → ℕ → ℕ → Option (List ℕ)
answer_in o thread call = option_map (λ a. string_bytes a.text)
    (find (λ a. (a.thread == thread) && (a.call == call)) o.answers.items)

-- whether there is a text, and it is this one
abbrev pub is_text : List ℕ → Option (List ℕ) → Bool
is_text text None = false
is_text text (Some t) = bytes_eq t text

-- whether an outcome has that answer, and whether both are the same
abbrev pub has_told : Outcome → Answering → Bool
has_told o a = is_text (string_bytes a.text) (answer_in o a.thread a.call)

abbrev pub is_same : Outcome → Outcome → Bool
is_same o p = (length o.answers.items == length p.answers.items)
    && (bytes_eq (string_bytes o.contents) (string_bytes p.contents) && list_all (has_told p) o.answers.items)

-- what a schedule comes to: the outcome of a world that it leads to, where no thread can move
abbrev pub IsOutcomeBy : {S H D : Type 0} → (A : Type 0) → deed.Ghosts D ℕ ℕ (ℕ × ℕ) → builder.Ghosts S H
    → hasher.Ghosts H → (ℕ → ℕ → Bool) → (ℕ → HashWrites) → ℕ → S → List (ℕ × ℕ) → List (List (Ask ℕ ℕ D))
    → List Step → Outcome → Type 0
IsOutcomeBy {S} {H} {D} A d b h eq writes shards s pairs programs schedule o = (w : State ℕ ℕ S D (ℕ × ℕ) A)
    × IsLedBy d b h eq writes shards s pairs programs schedule w × HasEnded w × IsOutcomeOf w o
