-- Replies that are told one after another.
use Rattle.std.proofs.Common.{◌≡◌, ℕ, ◌<◌, ◌+◌, ◌++◌, ◌==◌, ◌∷◌, [], Bool, true, false, List, length, take, get_or}
use Rattle.std.proofs.Common.{cond, sym, subst, ap, ◌∙◌, Result, Ok, Err, IfOk, append_assoc, append-nil, arith}
use Rattle.std.proofs.lemmas.List.Elements.{filter_more}
use Rattle.std.specs.List.Sorted.{IsPermutation, IsSorted}
use Rattle.mapworld_calls.specs.declared.reply.Reply.{Reply}
use Rattle.mapworld_text.specs.Texts.{contents_text}
use Rattle.mapworld_explorer.specs.declared.outcome.Answering.{Answering}
use Rattle.mapworld_explorer.specs.Outcomes.{of_thread, pair_cmp, AreRepliesTold, IsReplyTold, IsContentsText}

-- one more reply is told
told_more : {A : Type 0} (rs : List (Reply ℕ ℕ (ℕ × ℕ) A)) (told : List Answering) (r : Reply ℕ ℕ (ℕ × ℕ) A)
    (a : Answering) → AreRepliesTold rs told → IsReplyTold r a → AreRepliesTold (rs ++ r ∷ []) (told ++ a ∷ [])
told_more [] [] r a known one = (one, tt)
told_more [] (b ∷ told) r a none one = absurd none
told_more (s ∷ rs) [] r a none one = absurd none
told_more (s ∷ rs) (b ∷ told) r a known one = (known.0, told_more rs told r a known.1 one)

-- which replies of a thread there are behind one more reply
more_of : {T A : Type 0} (t : ℕ) (before rs : List (Reply ℕ ℕ T A)) (i : ℕ) (r : Reply ℕ ℕ T A) → i < length rs
    → r ≡ get_or rs i r → before ++ of_thread t (take (i + 1) rs)
    ≡ (before ++ of_thread t (take i rs)) ++ cond (r.thread == t) (r ∷ []) []
more_of t before rs i r within e =
    ap (λ l. before ++ l) (filter_more (λ r. r.thread == t) rs i r within)
    ∙ ap (λ l. before ++ (of_thread t (take i rs) ++ cond (l.thread == t) (l ∷ []) [])) (sym e)
    ∙ sym (append_assoc before (of_thread t (take i rs)) (cond (r.thread == t) (r ∷ []) []))

-- a reply of the thread is told behind the others; one of another thread isn't
pub told_next : {A : Type 0} (t : ℕ) (before rs : List (Reply ℕ ℕ (ℕ × ℕ) A)) (i : ℕ) (r : Reply ℕ ℕ (ℕ × ℕ) A)
    (a : Answering) (old new : List Answering) → i < length rs → r ≡ get_or rs i r → r.thread ≡ t → IsReplyTold r a
    → new ≡ old ++ a ∷ [] → AreRepliesTold (before ++ of_thread t (take i rs)) old
    → AreRepliesTold (before ++ of_thread t (take (i + 1) rs)) new
told_next t before rs i r a old new within e own one put known =
    subst (λ l. AreRepliesTold l new) (sym (more_of t before rs i r within e))
    (subst (λ b. AreRepliesTold ((before ++ of_thread t (take i rs)) ++ cond b (r ∷ []) []) new) (sym (is_own own))
    (subst (AreRepliesTold ((before ++ of_thread t (take i rs)) ++ r ∷ [])) (sym put)
    (told_more (before ++ of_thread t (take i rs)) old r a known one)))
  where
    is_own : r.thread ≡ t → (r.thread == t) ≡ true
    is_own h = grind arith

pub told_same : {A : Type 0} (t : ℕ) (before rs : List (Reply ℕ ℕ (ℕ × ℕ) A)) (i : ℕ) (r : Reply ℕ ℕ (ℕ × ℕ) A)
    (old new : List Answering) → i < length rs → r ≡ get_or rs i r → (r.thread == t) ≡ false → new ≡ old
    → AreRepliesTold (before ++ of_thread t (take i rs)) old
    → AreRepliesTold (before ++ of_thread t (take (i + 1) rs)) new
told_same t before rs i r old new within e other same known =
    subst (λ l. AreRepliesTold l new) (sym (more_of t before rs i r within e))
    (subst (λ b. AreRepliesTold ((before ++ of_thread t (take i rs)) ++ cond b (r ∷ []) []) new) (sym other)
    (subst (λ l. AreRepliesTold l new) (sym (append-nil (before ++ of_thread t (take i rs))))
    (subst (AreRepliesTold (before ++ of_thread t (take i rs))) (sym same) known)))

-- contents that were sorted and then written
pub contents_told : {S E : Type 0} (bytes : S → List ℕ) (pairs items sorted : List (ℕ × ℕ)) (r : Result S E)
    → items ≡ pairs → IsPermutation items sorted → IsSorted pair_cmp sorted
    → IfOk r (λ text. bytes text ≡ contents_text sorted) → IfOk r (λ text. IsContentsText pairs (bytes text))
contents_told bytes pairs items sorted (Ok text) e same by_keys is =
    (sorted, record { same = subst (λ l. IsPermutation l sorted) e same; by_keys = by_keys }, is)
contents_told bytes pairs items sorted (Err f) e same by_keys is = tt
