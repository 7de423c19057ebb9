-- The blocks of one call: what they have done, and that each number of visit stands once.
use Rattle.std.proofs.Common.{◌≡◌, ℕ, ◌<◌, ⊎_elim, List, Some, ap, sym, ◌∙◌, subst, arith}
use Rattle.std.proofs.lemmas.Bool.{cases_lt}
use Rattle.std.proofs.lemmas.Option.{same_Some}
use Rattle.mapworld_calls.specs.declared.reply.Reply.{Reply}
use Rattle.mapworld_calls.specs.declared.block.Block.{Block}
use Rattle.mapworld_calls.specs.declared.ask.Ask.{Ask}
use Rattle.mapworld_calls.specs.Setup.{Setup, ask_at}
use Rattle.mapworld_calls.specs.Placed.{IsDoneWithin}
use Rattle.mapworld_calls.specs.HistoryLaws.Worlds.{IsWorld, IsBlockOf}

module _ {K V D T : Type 0} (w : Setup K V D T) (bs : List (Block K)) (t c : ℕ) (a : Ask K V D)
    (asked : ask_at w t c ≡ Some a) where
  pub own-ask : (i : ℕ) (b : Block K) → IsBlockOf bs i b t c → ask_at w b.thread b.call ≡ Some a
  own-ask i b of = ap (λ x. ask_at w x b.call) of.thread ∙ ap (λ x. ask_at w t x) of.call ∙ asked

  -- what a block of the call has done is bounded by the call
  pub own-done : {A : Type 0} (replies : List (Reply K V T A)) (world : IsWorld w bs replies) (i : ℕ) (b : Block K)
      → IsBlockOf bs i b t c → IsDoneWithin w world.started bs replies i b a
  own-done replies world i b of =
      let placed = world.placed.placed i b of.listed in
      subst (λ (x : Ask K V D). IsDoneWithin w world.started bs replies i b x)
      (same_Some placed.ask a (sym placed.asked ∙ own-ask i b of)) placed.done

module _ {K V D T A : Type 0} (w : Setup K V D T) (bs : List (Block K)) (replies : List (Reply K V T A))
    (world : IsWorld w bs replies) (t c : ℕ) where
  -- visits of one call rise along the list
  pub visits-rise : (i j : ℕ) (b d : Block K) → IsBlockOf bs i b t c → IsBlockOf bs j d t c → i < j → b.visit < d.visit
  visits-rise i j b d first second lt =
      let calls : b.call ≡ d.call = first.call ∙ sym second.call in
      ⊎_elim
      (λ less. absurd (omega (arith, less, calls)))
      (λ visit. visit.1)
      (world.placed.own_order i j b d first.listed second.listed lt (first.thread ∙ sym second.thread))

  -- so two of one number are one
  pub one-place : (i j : ℕ) (b d : Block K) → IsBlockOf bs i b t c → IsBlockOf bs j d t c → b.visit ≡ d.visit → i ≡ j
  one-place i j b d first second same =
      ⊎_elim
      (λ lt. let rise = visits-rise i j b d first second lt in absurd (omega arith))
      (λ le. ⊎_elim (λ lt. let rise = visits-rise j i d b second first lt in absurd (omega arith)) (λ ge. omega arith)
      (cases_lt j i))
      (cases_lt i j)
