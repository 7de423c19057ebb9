-- What a call's reply may be, and callers that haven't called yet.
use Rattle.std.proofs.Common.{◌≡◌, ◌↔◌, ℕ, suc, ◌+◌, nat_eq, length, Bool, List, [], ◌∷◌, ◌++◌, Option, Some, None}
use Rattle.std.proofs.Common.{Result, Ok, Err, IfOk, IfSome, refl, sym, ap, ◌∙◌, subst, inl, inr, arith}
use Rattle.std.specs.Prelude.{IsTrue}
use Rattle.std.specs.Option.{option_map}
use Rattle.std.proofs.lemmas.Bool.{and_parts}
use Rattle.dashmap_table.specs.Slots.{pair_of, entry_of}
use Rattle.dashmap_table.specs.Table.{Table}
use Rattle.dashmap_table.proofs.Cases.{option_cases}
use Rattle.dashmap_table.proofs.Finding.{entry_of-is}
use Rattle.dashmap_record.specs.declared.history.entry.Call.{Call}
use Rattle.dashmap_record.specs.declared.history.entry.Call.TheVariants.{Insert, GetCopied}
use Rattle.dashmap_record.specs.declared.history.entry.CallReply.{CallReply}
use Rattle.dashmap_record.specs.History.Entries.{key_of}
use Rattle.dashmap_record.specs.History.Replay.{told, value_told}
use Rattle.dashmap_record.specs.Recorded.{Calling, IsNew, AreNew, IsReply, value_reply}
use Rattle.dashmap_record.specs.Replaying.{found}

-- one more
pub count-more : {X : Type 0} (xs : List X) (x : X) → length (xs ++ x ∷ []) ≡ length xs + 1
count-more [] x = refl
count-more (d ∷ xs) x = let more = count-more xs x in omega (arith, more)

pub from_zero : (n : ℕ) → n ≡ 0 + n
from_zero n = omega arith

-- one taken, one put in
pub count-taken : {X Y : Type 0} (xs ys : List X) (x : X) (before after : List Y) (y : Y) (n : ℕ)
    → length xs + length before ≡ n → before ≡ y ∷ after → ys ≡ xs ++ x ∷ [] → length ys + length after ≡ n
count-taken xs ys x before after y n all took put =
    let one = count-more xs x in
    let longer : length ys ≡ length (xs ++ x ∷ []) = ap length put in
    let shorter : length before ≡ suc (length after) = ap length took in
    omega (arith, all, one, longer, shorter)

-- so many were locked as there were
pub all_locked : {X Y : Type 0} (locks all : List X) (shards : List Y) (n : ℕ) → locks ≡ [] → length shards ≡ n
    → length all ≡ length locks + length shards → length all ≡ n
all_locked locks all shards n none count sum =
    let empty : length locks ≡ 0 = ap length none in
    omega (arith, count, sum, empty)

-- what is made has shards as it may
pub made_of : {X E : Type 0} {x : X} {e : E} {P : Type 0} → P → ◌≡◌ {A = Result X E} (Ok x) (Err e) ↔ ¬ P
made_of p = (λ is. absurd (apart is), λ no. absurd (no p))
  where
    apart : {X E : Type 0} {x : X} {e : E} → ◌≡◌ {A = Result X E} (Ok x) (Err e) → ⊥
    apart is = cc

module _ {K V : Type 0} where
  pub callers-more : (n : ℕ) (cs : List (Calling K V)) (c : Calling K V) → AreNew n cs → IsNew (n + length cs) c
      → AreNew n (cs ++ c ∷ [])
  callers-more n [] c are is = (subst (λ m. IsNew m c) (omega arith) is, tt)
  callers-more n (d ∷ cs) c are is = (are.0, callers-more (n + 1) cs c are.1 (subst (λ m. IsNew m c) (omega arith) is))

  value_of_told : (o : Option (K × V)) → value_told o ≡ value_reply (option_map (λ p. p.1) o)
  value_of_told None = refl
  value_of_told (Some p) = refl

  module _ (eq : K → K → Bool) (alike : V → V → Bool) where
    pub inserted : (k : K) (v : V) (r : CallReply K V) → IsReply eq alike (Insert k v) r → (o : Option V)
        × (r ≡ value_reply o)
    inserted k v r is = (option_map (λ p. p.1) is.0, is.1 ∙ value_of_told is.0)

    pub copied : (k : K) (r : CallReply K V) → IsReply eq alike (GetCopied k) r → (o : Option V) × (r ≡ value_reply o)
    copied k r is = (option_map (λ p. p.1) is.0, is.1 ∙ value_of_told is.0)

    found-equal : (t : Table K V) (hash : ℕ) (k : K) → IfSome (found eq t hash k) (λ p. IsTrue (eq p.0 k))
    found-equal t hash k = elim (option_cases (entry_of eq t.slots hash k)) [
      | inl none ↦ subst (λ o. IfSome o (λ p. IsTrue (eq p.0 k))) (sym (ap (option_map pair_of) none)) tt
      | inr some ↦
          let is = entry_of-is eq t.slots hash k some.0 some.1 in
          subst (λ o. IfSome o (λ p. IsTrue (eq p.0 k))) (sym (ap (option_map pair_of) some.1))
          (and_parts (nat_eq some.0.hash hash) (eq some.0.key k) is.3).1
    ]

    pub replied : {E : Type 0} (r : Result (CallReply K V) E) (call : Call K V) (t : Table K V) (hash : ℕ)
        → IfOk r (λ reply. reply ≡ told alike call (found eq t hash (key_of call))) → IfOk r (IsReply eq alike call)
    replied (Ok reply) call t hash is = (found eq t hash (key_of call), is, found-equal t hash (key_of call))
    replied (Err e) call t hash is = tt
