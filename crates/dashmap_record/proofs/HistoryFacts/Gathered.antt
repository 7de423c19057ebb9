-- What is gathered where no clause fails.
use Rattle.std.proofs.Common.{◌≡◌, ℕ, ◌+◌, ◌<◌, inl, inr, Bool, true, List, length, map, flat_map, get_or, None, sym}
use Rattle.std.proofs.Common.{◌∙◌, subst, arith}
use Rattle.std.specs.List.Sorted.{IsPermutation}
use Rattle.std.proofs.lemmas.Bool.{and_parts}
use Rattle.std.proofs.lemmas.List.Folds.{flat_map-map}
use Rattle.dashmap_record.specs.declared.history.entry.Entered.{Entered}
use Rattle.dashmap_record.specs.History.Match.{all_rise, first_mismatch, first_fault, are_replayed}
use Rattle.dashmap_record.specs.History.Merge.{IsUpTo, IsMerge, IsLegal, flat}
use Rattle.dashmap_record.proofs.HistoryFacts.Lists.{Up, up_from_steps}
use Rattle.dashmap_record.proofs.HistoryFacts.Verdicts.{all_hold, cleared}
use Rattle.dashmap_record.proofs.HistoryFacts.Legal.{merge_is, legal_is}

module _ {K V : Type 0} where
  further : (d e f : Entered K V) → IsUpTo d e → IsUpTo e f → IsUpTo d f
  further d e f (inl a) (inl b) = inl (omega (arith, a, b))
  further d e f (inl a) (inr b) = inl (omega (arith, a, b.0))
  further d e f (inr a) (inl b) = inl (omega (arith, a.0, b))
  further d e f (inr a) (inr b) = inr (a.0 ∙ b.0, omega (arith, a.1, b.1))

  module _ {L : Type 0} (items : L → List (Entered K V)) (eq : K → K → Bool) (alike : V → V → Bool)
      (keys : (j k : K) → eq j k ≡ eq k j) (values : (v w : V) → alike v w ≡ alike w v) (hash : K → ℕ)
      (respects : (j k : K) → eq j k ≡ true → hash j ≡ hash k)
      (histories logs : List L) (all : List (Entered K V))
      (clear : None ≡ first_fault eq alike hash (map items histories) (map items logs))
      (moved : IsPermutation (flat_map items histories) all)
      (steps : (k : ℕ) (d : Entered K V) → k + 1 < length all → IsUpTo (get_or all k d) (get_or all (k + 1) d))
    where
      sorted : Up IsUpTo all
      sorted = up_from_steps IsUpTo further all steps

      moved_flat : IsPermutation (flat (map items histories)) all
      moved_flat = subst (λ es. IsPermutation es all) (sym (flat_map-map (λ es. es) items histories)) moved

      no_mismatch : None ≡ first_mismatch eq alike hash (map items histories) (map items logs)
      no_mismatch = (cleared _ _ clear).0

      replayed : are_replayed eq alike (map items histories) ≡ true
      replayed = (cleared _ _ clear).1

      pub merge : IsMerge (map items histories) all
      merge =
          let hold = all_hold _ _ _ _ _ no_mismatch in
          let rise = and_parts (all_rise (map items histories)) (all_rise (map items logs)) hold.rise in
          merge_is eq alike keys values hash respects (map items histories) (map items logs) all rise.0 rise.1
          hold.logged
          hold.kept hold.routed hold.hashed replayed moved_flat sorted

      pub legal : IsLegal eq alike (map items histories) (map items logs) all
      legal =
          let hold = all_hold _ _ _ _ _ no_mismatch in
          let rise = and_parts (all_rise (map items histories)) (all_rise (map items logs)) hold.rise in
          legal_is eq alike keys values hash respects (map items histories) (map items logs) all rise.0 rise.1
          hold.logged
          hold.kept hold.routed hold.hashed replayed moved_flat sorted
