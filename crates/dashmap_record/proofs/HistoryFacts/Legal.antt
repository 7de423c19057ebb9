-- Histories and logs that belong together are one legal history of one plain map.
use Rattle.std.proofs.Common.{◌≡◌, ℕ, ◌+◌, ◌<◌, ◌&&◌, Bool, true, nat_eq, List, length, inl, inr, refl, sym, ap, ◌∙◌}
use Rattle.std.proofs.Common.{subst, arith}
use Rattle.std.specs.List.{list_all, filter, AllZip}
use Rattle.std.specs.List.Sorted.{IsPermutation}
use Rattle.std.proofs.lemmas.Bool.{and_parts, eqb-true, eq-eqb}
use Rattle.std.proofs.lemmas.List.Elements.{same_from_all_zip}
use Rattle.std.proofs.lemmas.List.Sorted.{IsPermutation-sym}
use Rattle.dashmap_table.specs.Route.{route_of}
use Rattle.dashmap_record.specs.declared.history.entry.Entered.{Entered}
use Rattle.dashmap_record.specs.History.Entries.{key_of, same_entry}
use Rattle.dashmap_record.specs.History.Replay.{nothing, replies_hold}
use Rattle.dashmap_record.specs.History.Match.{rises, all_rise, list_at, is_amount, is_routed, are_routed, are_hashed}
use Rattle.dashmap_record.specs.History.Match.{is_in, are_logged, is_kept, are_kept, are_replayed}
use Rattle.dashmap_record.specs.History.Merge.{IsBefore, IsUpTo, IsMerge, IsLegal, flat}
use Rattle.dashmap_record.proofs.HistoryFacts.Lists.{Each, Has, Up, Rises, each, each_both, has, out_of, some}
use Rattle.dashmap_record.proofs.HistoryFacts.Lists.{each_itself, each_permuted, each_filtered, has_filtered}
use Rattle.dashmap_record.proofs.HistoryFacts.Lists.{up_filtered, up_with, meet, paired, pairs_from_up}
use Rattle.dashmap_record.proofs.HistoryFacts.Rising.{stamp_of, rises-up, list_at-all, each_true, has_true}
use Rattle.dashmap_record.proofs.HistoryFacts.Equal.{same-stamp, same-shard, same-caller, same-symm}
use Rattle.dashmap_record.proofs.HistoryFacts.Framing.{of_shard, framed}
use Rattle.dashmap_record.proofs.HistoryFacts.Sharing.{each_numbered, each_flat, has_flat, strictly_merged}

module _ {K V : Type 0} (eq : K → K → Bool) (alike : V → V → Bool) (keys : (j k : K) → eq j k ≡ eq k j)
    (values : (v w : V) → alike v w ≡ alike w v) (hash : K → ℕ) (respects : (j k : K) → eq j k ≡ true → hash j ≡ hash k)
    (histories logs : List (List (Entered K V))) (all : List (Entered K V))
    (rise : all_rise histories ≡ true) (rise_logs : all_rise logs ≡ true)
    (logged : are_logged eq alike histories logs ≡ true) (kept : are_kept eq alike histories logs ≡ true)
    (routed : are_routed histories ≡ true) (hashed : are_hashed hash histories ≡ true)
    (replayed : are_replayed eq alike histories ≡ true)
    (moved : IsPermutation (flat histories) all) (sorted : Up IsUpTo all) where
  routed_at : (i : ℕ) → Each (λ e. is_routed (length histories) (0 + i) e ≡ true) (list_at histories i)
  routed_at i = each_numbered (is_routed (length histories)) 0 histories routed i

  shards_are : (i : ℕ) → Each (λ e. e.shard ≡ i) (list_at histories i)
  shards_are i = each (λ e. is_routed (length histories) (0 + i) e ≡ true) (λ e. e.shard ≡ i)
      (λ e is. eqb-true e.shard (0 + i) (and_parts (nat_eq e.shard (0 + i)) _ is).0 ∙ (omega arith))
      (list_at histories i) (routed_at i)

  up : (i : ℕ) → Rises stamp_of (list_at histories i)
  up i = rises-up (list_at histories i) (list_at-all rises refl histories rise i)

  strict : Up IsBefore all
  strict = strictly_merged histories all up shards_are moved sorted

  -- what some entry of a history is, some entry of all is
  in_all : Each (λ x. Has (λ y. x ≡ y) all) (flat histories)
  in_all = each_permuted (λ x. Has (λ y. x ≡ y) all) all (flat histories) (IsPermutation-sym (flat histories) all moved)
      (each_itself all)

  has_moved : (Q : Entered K V → Type 0) → Has Q (flat histories) → Has Q all
  has_moved Q h = out_of (λ x. Has (λ y. x ≡ y) all) Q (flat histories) in_all h
      (λ x there q. has (λ y. x ≡ y) Q (λ y p. subst Q p q) all there)

  each_moved : (P : Entered K V → Type 0) → ((i : ℕ) → Each P (list_at histories i)) → Each P all
  each_moved P h = each_permuted P (flat histories) all moved (each_flat P histories h)

  module _ (j : ℕ) where
    shard_rises : Rises stamp_of (of_shard j all)
    shard_rises = up_filtered (λ e. nat_eq e.shard j) IsBefore (λ d e. d.stamp < e.stamp)
        (λ d e p q l. below d e (eqb-true d.shard j p) (eqb-true e.shard j q) l) all strict
      where
        below : (d e : Entered K V) → d.shard ≡ j → e.shard ≡ j → IsBefore d e → d.stamp < e.stamp
        below d e p q (inl less) = less
        below d e p q (inr level) = absurd (no (d.shard) (e.shard) p q level.1)
          where
            no : (a b : ℕ) → a ≡ j → b ≡ j → a < b → ⊥
            no a b p q less = omega (arith, p, q, less)

    there : Each (λ x. Has (λ y. x ≡ y) (list_at histories j)) (of_shard j all)
    there =
        each (λ e. (nat_eq e.shard j ≡ true) × Has (λ y. e ≡ y) (list_at histories e.shard))
        (λ e. Has (λ y. e ≡ y) (list_at histories j))
        (λ e q. subst (λ i. Has (λ y. e ≡ y) (list_at histories i)) (eqb-true e.shard j q.0) q.1) (of_shard j all)
        (each_filtered (λ e. nat_eq e.shard j) (λ e. Has (λ y. e ≡ y) (list_at histories e.shard)) all
        (each_moved (λ e. Has (λ y. e ≡ y) (list_at histories e.shard)) (λ i.
        each (λ e. (e.shard ≡ i) × Has (λ y. e ≡ y) (list_at histories i))
        (λ e. Has (λ y. e ≡ y) (list_at histories e.shard))
        (λ e q. subst (λ n. Has (λ y. e ≡ y) (list_at histories n)) (sym q.0) q.1) (list_at histories i)
        (each_both (λ e. e.shard ≡ i) (λ e. Has (λ y. e ≡ y) (list_at histories i)) (list_at histories i) (shards_are i)
        (each_itself (list_at histories i))))))

    back : Each (λ y. Has (λ x. x ≡ y) (of_shard j all)) (list_at histories j)
    back =
        each (λ y. (y.shard ≡ j) × Has (λ z. y ≡ z) (list_at histories j)) (λ y. Has (λ x. x ≡ y) (of_shard j all))
        (λ y q. has_filtered (λ e. nat_eq e.shard j) (λ x. x ≡ y) all
        (λ x p. eq-eqb x.shard j (ap (λ (e : Entered K V). e.shard) p ∙ q.0))
        (has (λ z. y ≡ z) (λ x. x ≡ y) (λ z p. sym p) all
        (has_moved (λ z. y ≡ z) (has_flat (λ z. y ≡ z) histories j q.1)))) (list_at histories j)
        (each_both (λ y. y.shard ≡ j) (λ y. Has (λ z. y ≡ z) (list_at histories j)) (list_at histories j) (shards_are j)
        (each_itself (list_at histories j)))

    -- the entries of a shard are its history
    shard_is : of_shard j all ≡ list_at histories j
    shard_is = sym (same_from_all_zip (λ x y. x ≡ y) (of_shard j all) (list_at histories j)
        (paired stamp_of (λ x y. x ≡ y) (λ x y p. ap stamp_of p) (of_shard j all) (list_at histories j) shard_rises
        (up j) there back) (λ x y p. sym p))

  -- one plain map gives all replies
  all_replied : replies_hold eq alike (nothing K V) all ≡ true
  all_replied =
      framed eq alike (λ k. route_of (hash k) (length histories))
      (λ j k equal. ap (λ h. route_of h (length histories)) (respects j k equal)) all (nothing K V)
      (λ _. nothing K V) (λ q. refl)
      (each_moved (λ e. route_of (hash (key_of e.call)) (length histories) ≡ e.shard) (λ i.
      each (λ e. (is_routed (length histories) (0 + i) e ≡ true) × (nat_eq e.hash (hash (key_of e.call)) ≡ true))
      (λ e. route_of (hash (key_of e.call)) (length histories) ≡ e.shard) (λ e q. on i e q.0 q.1)
      (list_at histories i)
      (each_both (λ e. is_routed (length histories) (0 + i) e ≡ true) (λ e. nat_eq e.hash (hash (key_of e.call)) ≡ true)
      (list_at histories i) (routed_at i)
      (each_true (λ e. nat_eq e.hash (hash (key_of e.call))) (list_at histories i)
      (list_at-all (λ es. list_all (λ e. nat_eq e.hash (hash (key_of e.call))) es) refl histories hashed i)))))
      (λ j. ap (replies_hold eq alike (nothing K V)) (shard_is j) ∙ list_at-all (replies_hold eq alike (nothing K V))
      refl histories replayed j)
    where
      on : (i : ℕ) (e : Entered K V) → is_routed (length histories) (0 + i) e ≡ true
          → nat_eq e.hash (hash (key_of e.call)) ≡ true → route_of (hash (key_of e.call)) (length histories) ≡ e.shard
      on i e is at =
          let parts = and_parts (nat_eq e.shard (0 + i))
          (is_amount (length histories) && nat_eq (route_of e.hash (length histories)) (0 + i)) is in
          let lead = and_parts (is_amount (length histories)) (nat_eq (route_of e.hash (length histories)) (0 + i))
          parts.1 in
          ap (λ h. route_of h (length histories)) (sym (eqb-true e.hash (hash (key_of e.call)) at))
          ∙ (eqb-true (route_of e.hash (length histories)) (0 + i) lead.1 ∙ sym (eqb-true e.shard (0 + i) parts.0))

  Same : Entered K V → Entered K V → Type 0
  Same d e = same_entry eq alike d e ≡ true

  -- each entry has an equal one in its caller's log
  Logged : Entered K V → Type 0
  Logged e = Has (λ f. same_entry eq alike e f ≡ true) (list_at logs e.caller)

  all_logged : Each Logged all
  unfolding Logged
  all_logged = each_moved (λ e. Has (λ f. same_entry eq alike e f ≡ true) (list_at logs e.caller)) (λ i.
      each (λ e. is_in eq alike logs e.caller e ≡ true)
      (λ e. Has (λ f. same_entry eq alike e f ≡ true) (list_at logs e.caller))
      (λ e is. has_true (same_entry eq alike e) (list_at logs e.caller) is) (list_at histories i)
      (each_true (λ e. is_in eq alike logs e.caller e) (list_at histories i)
      (list_at-all (λ es. list_all (λ e. is_in eq alike logs e.caller e) es) refl histories logged i)))

  module _ (c : ℕ) where
    log_rises : Rises stamp_of (list_at logs c)
    log_rises = rises-up (list_at logs c) (list_at-all rises refl logs rise_logs c)

    logged_here : (e : Entered K V) → nat_eq e.caller c ≡ true → Logged e → Has (λ f. same_entry eq alike e f ≡ true)
        (list_at logs c)
    unfolding Logged
    logged_here e is has_log = subst (λ i. Has (λ f. same_entry eq alike e f ≡ true) (list_at logs i))
        (eqb-true e.caller c is) has_log

    caller_rises : Rises stamp_of (filter (λ e. nat_eq e.caller c) all)
    caller_rises =
        up_filtered (λ e. nat_eq e.caller c) (λ d e. Logged d × Logged e × IsBefore d e) (λ d e. d.stamp < e.stamp)
        (λ d e p q l. below d e (logged_here d p l.0) (logged_here e q l.1) l.2) all
        (up_with Logged IsBefore all all_logged strict)
      where
        below : (d e : Entered K V) → Has (λ f. same_entry eq alike d f ≡ true) (list_at logs c)
            → Has (λ f. same_entry eq alike e f ≡ true) (list_at logs c) → IsBefore d e → d.stamp < e.stamp
        below d e p q (inl less) = less
        below d e p q (inr level) =
            some (λ f. (same_entry eq alike d f ≡ true) × (same_entry eq alike e f ≡ true)) (list_at logs c)
            (meet stamp_of (λ f. same_entry eq alike d f ≡ true) (λ f. same_entry eq alike e f ≡ true) d.stamp
            (list_at logs c) log_rises
            (has (λ f. same_entry eq alike d f ≡ true) (λ f. (same_entry eq alike d f ≡ true) × (f.stamp ≡ d.stamp))
            (λ f is. (is, sym (same-stamp eq alike d f is))) (list_at logs c) p)
            (has (λ f. same_entry eq alike e f ≡ true) (λ f. (same_entry eq alike e f ≡ true) × (f.stamp ≡ d.stamp))
            (λ f is. (is, sym (same-stamp eq alike e f is) ∙ sym level.0)) (list_at logs c) q))
            (λ f both. absurd
            (no d.shard e.shard (same-shard eq alike d f both.0 ∙ sym (same-shard eq alike e f both.1)) level.1))
          where
            no : (a b : ℕ) → a ≡ b → a < b → ⊥
            no a b p less = omega (arith, p, less)

    caller_is : AllZip (λ d e. same_entry eq alike d e ≡ true) (filter (λ e. nat_eq e.caller c) all) (list_at logs c)
    caller_is =
        paired stamp_of (λ d e. same_entry eq alike d e ≡ true) (λ d e is. same-stamp eq alike d e is)
        (filter (λ e. nat_eq e.caller c) all) (list_at logs c) caller_rises log_rises
        (each (λ e. (nat_eq e.caller c ≡ true) × Logged e)
        (λ e. Has (λ f. same_entry eq alike e f ≡ true) (list_at logs c)) (λ e q. logged_here e q.0 q.1)
        (filter (λ e. nat_eq e.caller c) all) (each_filtered (λ e. nat_eq e.caller c) Logged all all_logged))
        (each (λ f. is_kept eq alike histories (0 + c) f ≡ true)
        (λ f. Has (λ e. same_entry eq alike e f ≡ true) (filter (λ e. nat_eq e.caller c) all)) (λ f is. found f is)
        (list_at logs c) (each_numbered (is_kept eq alike histories) 0 logs kept c))
      where
        found : (f : Entered K V) → is_kept eq alike histories (0 + c) f ≡ true
            → Has (λ e. same_entry eq alike e f ≡ true) (filter (λ e. nat_eq e.caller c) all)
        found f is =
            let parts = and_parts (nat_eq f.caller (0 + c)) (is_in eq alike histories f.shard f) is in
            let caller : f.caller ≡ c = eqb-true f.caller (0 + c) parts.0 ∙ (omega arith) in
            has_filtered (λ e. nat_eq e.caller c) (λ e. same_entry eq alike e f ≡ true) all
            (λ e same. eq-eqb e.caller c (same-caller eq alike e f same ∙ caller))
            (has (λ e. same_entry eq alike f e ≡ true) (λ e. same_entry eq alike e f ≡ true)
            (λ e same. same-symm eq alike keys values e f ∙ same) all
            (has_moved (λ e. same_entry eq alike f e ≡ true)
            (has_flat (λ e. same_entry eq alike f e ≡ true) histories f.shard
            (has_true (same_entry eq alike f) (list_at histories f.shard) parts.1))))

  pub merge_is : IsMerge histories all
  merge_is = record { same = moved; ordered = pairs_from_up IsBefore all strict }

  pub legal_is : IsLegal eq alike histories logs all
  legal_is = record { replies = all_replied; shards = shard_is; callers = caller_is }
