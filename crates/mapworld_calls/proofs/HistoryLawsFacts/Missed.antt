-- The smallest world in which an insertion finds its key and is refused for memory all the same.
use Rattle.std.proofs.Common.{◌≡◌, ℕ, zero, suc, true, List, [], ◌∷◌, Some, None, slice_get, take, refl, ap, sym, ◌∙◌}
use Rattle.std.proofs.Common.{inl}
use Rattle.std.proofs.Common.{subst, inr, arith}
use Rattle.std.proofs.lemmas.Option.{same_Some, none-some}
use Rattle.mapworld_calls.specs.declared.reply.Reply.{Reply}
use Rattle.mapworld_calls.specs.declared.block.Block.{Block}
use Rattle.mapworld_calls.specs.Deeds.{Deeds}
use Rattle.mapworld_calls.specs.declared.ask.Keyed.TheVariants as keyed
use Rattle.mapworld_calls.specs.declared.ask.Ask.TheVariants as ask
use Rattle.mapworld_calls.specs.declared.reply.Answer.TheVariants as answer
use Rattle.mapworld_calls.specs.Setup.{Setup, Laws}
use Rattle.mapworld_calls.specs.Replay.{before}
use Rattle.mapworld_calls.specs.Agrees.{IsAnswered, Agrees}
use Rattle.mapworld_calls.specs.Placed.{IsTimed, answered_of, WellPlaced}
use Rattle.mapworld_calls.specs.HistoryLaws.Refusals.{FindsAndIsRefused, RefusalsMayFindTheirKey}

only-one : {X : Type 0} (x y : X) (i : ℕ) → slice_get (x ∷ []) i ≡ Some y → (i ≡ 0) × (x ≡ y)
only-one x y zero at = (refl, same_Some x y at)
only-one x y (suc i) at = absurd (none-some y at)

module _ {K V D T : Type 0} (A : Type 0) (deeds : Deeds D K V T) (k : K) (v u : V) where
  -- one shard of two, one key, which has a pair, and one thread that inserts there
  abbrev pub world : Setup K V D T
  world = record {
    eq = λ a b. true;
    shards = 2;
    route = λ a. 0;
    deeds = deeds;
    programs = (ask.Keyed (keyed.Insert k u) ∷ []) ∷ [];
    opening = (k, v) ∷ [];
  }

  abbrev pub reply : Reply K V T A
  reply = record { thread = 0; call = 0; start = 1; end = 2; answer = answer.NoMemory }

  abbrev pub blocks : List (Block K)
  blocks = []

  had : (i : ℕ) → before world blocks i k ≡ Some (k, v)
  had zero = refl
  had (suc i) = refl

  refused : IsAnswered {A = A} world blocks 0 0 answer.NoMemory
  refused = record {
    ask = ask.Keyed (keyed.Insert k u);
    asked = refl;
    answered = inr (inl (refl, refl), λ i b at thread call. none-some b at);
  }

  agrees : Agrees world blocks ((k, v) ∷ []) (reply ∷ [])
  agrees =
      record {
        distinct = λ i j p r hi hj same. (only-one (k, v) p i hi).0 ∙ sym (only-one (k, v) r j hj).0;
        contents_are = λ q. refl;
        replies_are = λ i r at. subst (λ (x : Reply K V T A). IsAnswered world blocks x.thread x.call x.answer)
            (only-one reply r i at).1 refused;
      }

  timed : IsTimed (0 ∷ 0 ∷ []) reply
  timed = record { start = (omega arith, refl); end = (omega arith, refl); order = omega arith }

  first-turn : (i : ℕ) (r : Reply K V T A) → slice_get (reply ∷ []) i ≡ Some r
      → r.call ≡ answered_of (take i (reply ∷ [])) r.thread
  first-turn i r at =
      let h = only-one reply r i at in
      subst (λ (x : Reply K V T A). x.call ≡ answered_of (take i (reply ∷ [])) x.thread) h.1
      (ap (λ n. answered_of (take n (reply ∷ [])) 0) (sym h.0))

  placed : WellPlaced world (0 ∷ 0 ∷ []) (λ t. None) blocks (reply ∷ [])
  placed =
      record {
        placed = λ i b at. absurd (none-some b at);
        rising = λ i j b c hi hj lt. absurd (none-some b hi);
        own_order = λ i j b c hi hj lt own. absurd (none-some b hi);
        timed = λ i r at. subst (λ (x : Reply K V T A). IsTimed (0 ∷ 0 ∷ []) x) (only-one reply r i at).1 timed;
        ends_rise = λ i j r s hi hj lt. absurd
            (let a = (only-one reply r i hi).0 in let b = (only-one reply s j hj).0 in omega (arith, a, b, lt));
        in_turn = first-turn;
      }

  laws : Laws world
  laws = record {
    equivalence = record { refl = λ a. refl; symm = λ a b. refl; congr = λ a b c e. refl };
    routes = λ a b e. refl;
  }

  pub finds-and_is_refused : FindsAndIsRefused k v u world blocks (reply ∷ [])
  finds-and_is_refused =
      record {
        laws = laws;
        world = record {
          steps = 0 ∷ 0 ∷ [];
          started = λ t. None;
          pairs = (k, v) ∷ [];
          placed = placed;
          agrees = agrees;
        };
        place = 0;
        reply = reply;
        listed = refl;
        asked = refl;
        refused = refl;
        had = had;
      }

pub refusals-may_find : {K V D T A : Type 0} → RefusalsMayFindTheirKey K V D T A
refusals-may_find {A} deeds k v u =
    (world A deeds k v u, blocks A deeds k v u, reply A deeds k v u ∷ [], finds-and_is_refused A deeds k v u)
