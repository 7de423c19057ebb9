-- The visits of a walk that goes on: one of its blocks grows, or a visit is added.
use Rattle.std.proofs.Common.{◌≡◌, ◌≢◌, ℕ, zero, suc, ◌+◌, ◌<◌, ◌≤◌, ◌==◌, ◌⊎◌, inl, inr, ⊎_elim, IsSome, true, filter}
use Rattle.std.proofs.Common.{List, [], ◌∷◌, ◌++◌, append-nil, append_assoc, length, length-append, length-set}
use Rattle.std.proofs.Common.{flat_map, Option, Some, None, slice_get, slice_set, take, refl, ap, sym, ◌∙◌, subst}
use Rattle.std.proofs.Common.{arith}
use Rattle.std.specs.List.{list_any}
use Rattle.std.proofs.lemmas.Bool.{cases_lt}
use Rattle.std.proofs.lemmas.Grind.{flat_map-append}
use Rattle.std.proofs.lemmas.List.{take-append-le}
use Rattle.std.proofs.lemmas.List.Sums.{sum_by_push}
use Rattle.std.proofs.lemmas.Option.{same_Some, none-some, slice_get_within}
use Rattle.mapworld_calls.specs.declared.ask.Ask.TheVariants as ask
use Rattle.mapworld_calls.specs.declared.ask.Walk.{Walk}
use Rattle.mapworld_calls.specs.declared.block.Block.{Block}
use Rattle.mapworld_calls.specs.Programs.{stop_of}
use Rattle.mapworld_calls.specs.Calls.{visit_reads, visit_leaves}
use Rattle.mapworld_calls.specs.Setup.{Setup, Laws, ask_at}
use Rattle.mapworld_calls.specs.Frame.{Grows, IsLastOnShard}
use Rattle.mapworld_calls.specs.Growth.{GoesOn, Visits, Ends}
use Rattle.mapworld_calls.specs.Replay.{done_keys, frame_of, contents, before}
use Rattle.mapworld_calls.specs.Agrees.{HasNoBlock, Visit, IsVisitOf, IsWhole, AreWhole, IsBelow, IsAtMost, IsVisited}
use Rattle.mapworld_calls.specs.Agrees.{number_of, reads_of}
use Rattle.mapworld_calls.proofs.Folds.{take-set_above, take-set_below, slice_get-take}
use Rattle.mapworld_calls.proofs.Lists.{slice_get-set_same, slice_get-set_other, slice_get-set_cases}
use Rattle.mapworld_calls.proofs.Lists.{slice_get-push_below, slice_get-push_at, slice_get-push_cases, sum_by-set}
use Rattle.mapworld_calls.proofs.Frames.{turn-same}
use Rattle.mapworld_calls.proofs.Settled.{take_all}
use Rattle.mapworld_calls.proofs.Works.{filter-passes, keeps-to_shard}
use Rattle.mapworld_calls.proofs.Kept.{flat_map-same, visit-shard, before-push}
use Rattle.mapworld_calls.proofs.Visiting.{keys-added, visit-grows, one-more}

abbrev pub visit_at : {K : Type 0} → ℕ → Block K → Visit K
visit_at i b = record { place = i; block = b }

-- lists of lists of which one is replaced
flat_map-set : {X Y : Type 0} (g h : X → List Y) (xs : List X) (m : ℕ) (x z : X) → slice_get xs m ≡ Some x
    → ((n : ℕ) (y : X) → n ≢ m → slice_get xs n ≡ Some y → h y ≡ g y) → h z ≡ g x
    → flat_map h (slice_set xs m z) ≡ flat_map g xs
flat_map-set g h [] m x z at same here = absurd (none-some x at)
flat_map-set g h (y ∷ ys) zero x z at same here =
    ap (λ zs. zs ++ flat_map h ys) (here ∙ ap g (sym (same_Some y x at)))
    ∙ ap (λ zs. g y ++ zs) (flat_map-same h g ys (λ n v there. same (suc n) v (λ e. omega (arith, e)) there))
flat_map-set g h (y ∷ ys) (suc m) x z at same here =
    ap (λ zs. zs ++ flat_map h (slice_set ys m z)) (same zero y (λ e. omega (arith, e)) refl)
    ∙ ap (λ zs. g y ++ zs)
    (flat_map-set g h ys m x z at (λ n v ne there. same (suc n) v (λ e. ne (omega (arith, e))) there) here)

-- and the last of which is longer
flat_map-set_last : {X Y : Type 0} (g h : X → List Y) (more : List Y) (xs : List X) (m : ℕ) (x z : X)
    → slice_get xs m ≡ Some x → suc m ≡ length xs
    → ((n : ℕ) (y : X) → n ≢ m → slice_get xs n ≡ Some y → h y ≡ g y) → h z ≡ g x ++ more
    → flat_map h (slice_set xs m z) ≡ flat_map g xs ++ more
flat_map-set_last g h more [] m x z at last same here = absurd (none-some x at)
flat_map-set_last g h more (y ∷ []) zero x z at last same here =
    append-nil (h z) ∙ here ∙ ap (λ v. g v ++ more) (sym (same_Some y x at))
    ∙ ap (λ zs. zs ++ more) (sym (append-nil (g y)))
flat_map-set_last g h more (y ∷ v ∷ ys) zero x z at last same here = absurd (omega (arith, last))
flat_map-set_last g h more (y ∷ ys) (suc m) x z at last same here =
    ap (λ zs. zs ++ flat_map h (slice_set ys m z)) (same zero y (λ e. omega (arith, e)) refl)
    ∙ ap (λ zs. g y ++ zs)
    (flat_map-set_last g h more ys m x z at (omega (arith, last))
    (λ n v ne there. same (suc n) v (λ e. ne (omega (arith, e))) there) here)
    ∙ sym (append_assoc (g y) (flat_map g ys) more)

module _ {K V D T : Type 0} (w : Setup K V D T) (laws : Laws w) (bs : List (Block K)) (i : ℕ) (b c : Block K)
    (g : Grows (frame_of w) bs i b c) (on : GoesOn b c)
    (t x : ℕ) (f : Walk D) (asked : ask_at w t x ≡ Some (ask.Walk f)) (vs : List (Visit K))
    (v : IsVisited w bs t x f vs) (m : ℕ) (own : slice_get vs m ≡ Some (visit_at i b)) where
  -- the visits with the block that has grown
  abbrev pub grown : List (Visit K)
  grown = slice_set vs m (visit_at i c)

  own-is : IsVisitOf bs t x m (visit_at i b)
  own-is = v.are m (visit_at i b) own

  -- another visit stands at another place
  elsewhere : (n : ℕ) (u : Visit K) → n ≢ m → slice_get vs n ≡ Some u → i ≢ u.place
  elsewhere n u ne at e =
      let is = v.are n u at in
      let same : u.block ≡ b = same_Some u.block b (sym is.listed ∙ ap (λ j. slice_get bs j) (sym e) ∙ g.listed) in
      ne (sym is.visit ∙ ap (λ z. z.visit) same ∙ own-is.visit)

  still : (n : ℕ) (u : Visit K) → n ≢ m → slice_get vs n ≡ Some u → IsVisitOf (slice_set bs i c) t x n u
  still n u ne at =
      let is = v.are n u at in
      record {
        listed = slice_get-set_other bs i u.place c (elsewhere n u ne at) ∙ is.listed;
        thread = is.thread;
        call = is.call;
        visit = is.visit;
      }

  are-grown : (n : ℕ) (u : Visit K) → slice_get grown n ≡ Some u → IsVisitOf (slice_set bs i c) t x n u
  are-grown n u at =
      elim (slice_get-set_cases vs m n (visit_at i b) u (visit_at i c) own at) [
        | inl h ↦
            subst (λ (z : Visit K). IsVisitOf (slice_set bs i c) t x n z) (sym h.1)
            (record {
              listed = slice_get-set_same bs i b c g.listed;
              thread = on.thread ∙ own-is.thread;
              call = on.call ∙ own-is.call;
              visit = on.visit ∙ own-is.visit ∙ sym h.0;
            })
        | inr h ↦ still n u h.0 h.1
      ]

  -- all visits find what they found
  finds-grown : (n : ℕ) (u : Visit K) → slice_get vs n ≡ Some u → (q : K) → w.route q ≡ u.block.visit
      → before w (slice_set bs i c) u.place q ≡ before w bs u.place q
  finds-grown n u at q route =
      let is = v.are n u at in
      turn-same (frame_of w) (keeps-to_shard w laws) bs i b c g u.place u.block (inr is.listed) q
      (visit-shard w f u.block t x asked is.thread is.call (w.route q) route)

  pub whole-grown : (n : ℕ) (u : Visit K) → slice_get vs n ≡ Some u → IsWhole w bs u.place u.block
      → IsWhole w (slice_set bs i c) u.place u.block
  whole-grown n u at whole q route there =
      whole q route (subst (λ (o : Option (K × V)). IsSome o) (finds-grown n u at q route) there)

  all-grown : (j : ℕ) (d : Block K) → slice_get (slice_set bs i c) j ≡ Some d → d.thread ≡ t → d.call ≡ x
      → d.visit < length grown
  all-grown j d at thread call =
      let size : length grown ≡ length vs = length-set vs m (visit_at i c) in
      elim (slice_get-set_cases bs i j b d c g.listed at) [
        | inl h ↦
            let within : m < length vs = slice_get_within vs m (visit_at i b) own in
            let is : d.visit ≡ m = ap (λ z. z.visit) h.1 ∙ on.visit ∙ own-is.visit in
            omega (arith, size, within, is)
        | inr h ↦ let old : d.visit < length vs = v.all j d h.1 thread call in omega (arith, size, old)
      ]

  number-grown : (us : List (Visit K)) → slice_get us m ≡ Some (visit_at i b)
      → number_of w (slice_set us m (visit_at i c)) + length (done_keys w b) ≡ number_of w us + length (done_keys w c)
  number-grown us at = sum_by-set (λ u. length (done_keys w u.block)) us m (visit_at i b) (visit_at i c) at

  -- they are visits of the walk, if the walk's numbers and the visit itself allow it
  pub visited-grown : ((n : ℕ) → m < n → n < length vs → IsBelow (stop_of f) (number_of w (take n grown)))
      → (suc m < length vs → IsWhole w (slice_set bs i c) i c)
      → IsAtMost (stop_of f) (number_of w grown)
      → IsVisited w (slice_set bs i c) t x f grown
  visited-grown goes_on whole within =
      let size : length grown ≡ length vs = length-set vs m (visit_at i c) in
      record {
        are = are-grown;
        goes_on = λ n lt.
            ⊎_elim
            (λ behind. goes_on n behind (omega (arith, size, lt)))
            (λ le. subst (λ (us : List (Visit K)). IsBelow (stop_of f) (number_of w us))
            (sym (take-set_above vs m n (visit_at i c) le)) (v.goes_on n (omega (arith, size, lt))))
            (cases_lt m n);
        whole = λ n u at lt.
            elim (slice_get-set_cases vs m n (visit_at i b) u (visit_at i c) own at) [
              | inl h ↦
                  let here = h.0 in
                  subst (λ (z : Visit K). IsWhole w (slice_set bs i c) z.place z.block) (sym h.1)
                  (whole (omega (arith, size, lt, here)))
              | inr h ↦ whole-grown n u h.1 (v.whole n u h.1 (omega (arith, size, lt)))
            ];
        within = within;
        all = all-grown;
      }

  -- what another visit read stays
  reads-still : (n : ℕ) (u : Visit K) → slice_get vs n ≡ Some u
      → flat_map (λ k. visit_reads w.deeds f (before w (slice_set bs i c) u.place k)) (done_keys w u.block) ≡ flat_map
      (λ k. visit_reads w.deeds f (before w bs u.place k)) (done_keys w u.block)
  reads-still n u at =
      flat_map-same (λ k. visit_reads w.deeds f (before w (slice_set bs i c) u.place k))
      (λ k. visit_reads w.deeds f (before w bs u.place k)) (done_keys w u.block) (λ j k here.
      let on : (w.route k == u.block.visit) ≡ true = filter-passes (λ z. w.route z == u.block.visit)
      u.block.visited.items j k here in
      let same : w.route k ≡ u.block.visit = grind (arith, on) in
      ap (λ o. visit_reads w.deeds f o) (finds-grown n u at k same))

  -- what the visit itself finds stays
  own-finds : before w (slice_set bs i c) i ≡ before w bs i
  own-finds = ap (λ ds. contents w ds) (take-set_above bs i i c (omega arith))

-- the last visit does one more key
module _ {K V D T : Type 0} (w : Setup K V D T) (laws : Laws w) (bs : List (Block K)) (i : ℕ) (b c : Block K)
    (f : Walk D) (k : K) (s : Visits w bs i b c f k)
    (way : (visit_leaves w.deeds f (before w bs i k) ≡ before w bs i k) ⊎ IsLastOnShard (frame_of w) bs i b)
    (t x : ℕ) (asked : ask_at w t x ≡ Some (ask.Walk f)) (vs : List (Visit K)) (v : IsVisited w bs t x f vs) (m : ℕ)
    (own : slice_get vs m ≡ Some (visit_at i b)) (last : suc m ≡ length vs) where
  grows : Grows (frame_of w) bs i b c
  grows = visit-grows w laws bs i b c f k s way

  pub number-more : number_of w (slice_set vs m (visit_at i c)) ≡ number_of w vs + 1
  number-more =
      let sums = number-grown w laws bs i b c grows s.same t x f asked vs v m own vs own in
      let longer : length (done_keys w c) ≡ length (done_keys w b) + 1 = ap length (keys-added w laws bs i b c f k s)
      ∙ simp length-append refl in
      omega (arith, sums, longer)

  pub visited-more : IsBelow (stop_of f) (number_of w vs)
      → IsVisited w (slice_set bs i c) t x f (slice_set vs m (visit_at i c))
  visited-more below =
      visited-grown w laws bs i b c grows s.same t x f asked vs v m own
      (λ n behind within. absurd (omega (arith, behind, within, last))) (λ more. absurd (omega (arith, more, last)))
      (subst (λ (n : ℕ). IsAtMost (stop_of f) n) (sym number-more) (one-more (stop_of f) (number_of w vs) below))

  -- its read is the last
  pub reads-more : reads_of w (slice_set bs i c) f (slice_set vs m (visit_at i c)) ≡ reads_of w bs f vs ++ visit_reads
      w.deeds f (before w bs i k)
  reads-more =
      flat_map-set_last (λ u. flat_map (λ q. visit_reads w.deeds f (before w bs u.place q)) (done_keys w u.block))
      (λ u. flat_map (λ q. visit_reads w.deeds f (before w (slice_set bs i c) u.place q)) (done_keys w u.block))
      (visit_reads w.deeds f (before w bs i k)) vs m (visit_at i b) (visit_at i c) own last
      (λ n u ne at. reads-still w laws bs i b c grows s.same t x f asked vs v m own n u at)
      (ap (λ z. flat_map (λ q. visit_reads w.deeds f (z q)) (done_keys w c))
      (own-finds w laws bs i b c grows s.same t x f asked vs v m own)
      ∙ ap (λ ks. flat_map (λ q. visit_reads w.deeds f (before w bs i q)) ks) (keys-added w laws bs i b c f k s)
      ∙ flat_map-append (λ q. visit_reads w.deeds f (before w bs i q)) (done_keys w b) (k ∷ [])
      ∙ ap (λ zs. flat_map (λ q. visit_reads w.deeds f (before w bs i q)) (done_keys w b) ++ zs)
      (append-nil (visit_reads w.deeds f (before w bs i k))))

-- an end is written into a visit's block
module _ {K V D T : Type 0} (w : Setup K V D T) (laws : Laws w) (bs : List (Block K)) (i : ℕ) (b c : Block K)
    (e : Ends bs i b c) (grows : Grows (frame_of w) bs i b c)
    (t x : ℕ) (f : Walk D) (asked : ask_at w t x ≡ Some (ask.Walk f)) (vs : List (Visit K))
    (v : IsVisited w bs t x f vs) (m : ℕ) (own : slice_get vs m ≡ Some (visit_at i b)) where
  keys-ended : done_keys w c ≡ done_keys w b
  keys-ended =
      ap (λ n. filter (λ k. w.route k == n) c.visited.items) e.same.visit
      ∙ ap (λ ks. filter (λ k. w.route k == b.visit) ks) e.visited

  number-front : (us : List (Visit K)) → slice_get us m ≡ Some (visit_at i b)
      → number_of w (slice_set us m (visit_at i c)) ≡ number_of w us
  number-front us at =
      let sums = number-grown w laws bs i b c grows e.same t x f asked vs v m own us at in
      let same : length (done_keys w c) ≡ length (done_keys w b) = ap length keys-ended in
      omega (arith, sums, same)

  pub number-ended : number_of w (slice_set vs m (visit_at i c)) ≡ number_of w vs
  number-ended = number-front vs own

  whole-own : IsWhole w bs i b → IsWhole w (slice_set bs i c) i c
  whole-own whole q route there =
      ap (λ ks. list_any (λ k. w.eq k q) ks) keys-ended
      ∙ whole q (route ∙ e.same.visit)
      (subst (λ (z : K → Option (K × V)). IsSome (z q))
      (own-finds w laws bs i b c grows e.same t x f asked vs v m own) there)

  pub visited-ended : IsVisited w (slice_set bs i c) t x f (slice_set vs m (visit_at i c))
  visited-ended =
      visited-grown w laws bs i b c grows e.same t x f asked vs v m own
      (λ n behind within. subst (λ (z : ℕ). IsBelow (stop_of f) z)
      (sym (ap (λ us. number_of w us) (take-set_below vs m n (visit_at i c) behind)
      ∙ number-front (take n vs) (slice_get-take vs m n (visit_at i b) behind own)))
      (v.goes_on n within))
      (λ more. whole-own (v.whole m (visit_at i b) own more))
      (subst (λ (z : ℕ). IsAtMost (stop_of f) z) (sym number-ended) v.within)

  pub are-whole_ended : AreWhole w bs vs → AreWhole w (slice_set bs i c) (slice_set vs m (visit_at i c))
  are-whole_ended whole n u at =
      elim (slice_get-set_cases vs m n (visit_at i b) u (visit_at i c) own at) [
        | inl h ↦ subst (λ (z : Visit K). IsWhole w (slice_set bs i c) z.place z.block) (sym h.1)
            (whole-own (whole m (visit_at i b) own))
        | inr h ↦ whole-grown w laws bs i b c grows e.same t x f asked vs v m own n u h.1 (whole n u h.1)
      ]

  pub reads-ended : reads_of w (slice_set bs i c) f (slice_set vs m (visit_at i c)) ≡ reads_of w bs f vs
  reads-ended =
      flat_map-set (λ u. flat_map (λ q. visit_reads w.deeds f (before w bs u.place q)) (done_keys w u.block))
      (λ u. flat_map (λ q. visit_reads w.deeds f (before w (slice_set bs i c) u.place q)) (done_keys w u.block))
      vs m (visit_at i b) (visit_at i c) own
      (λ n u ne at. reads-still w laws bs i b c grows e.same t x f asked vs v m own n u at)
      (ap (λ z. flat_map (λ q. visit_reads w.deeds f (z q)) (done_keys w c))
      (own-finds w laws bs i b c grows e.same t x f asked vs v m own)
      ∙ ap (λ ks. flat_map (λ q. visit_reads w.deeds f (before w bs i q)) ks) keys-ended)

-- a visit is added that has done nothing yet
module _ {K V D T : Type 0} (w : Setup K V D T) (bs : List (Block K)) (b : Block K) (t x : ℕ) (f : Walk D)
    (vs : List (Visit K)) (v : IsVisited w bs t x f vs)
    (thread : b.thread ≡ t) (call : b.call ≡ x) (visit : b.visit ≡ length vs) (idle : b.visited.items ≡ []) where
  keys-new : done_keys w b ≡ []
  keys-new = ap (λ ks. filter (λ k. w.route k == b.visit) ks) idle

  before-old : (n : ℕ) (u : Visit K) → slice_get vs n ≡ Some u → before w (bs ++ b ∷ []) u.place ≡ before w bs u.place
  before-old n u at = let is = v.are n u at in before-push w bs b u.place u.block is.listed

  whole-old : (n : ℕ) (u : Visit K) → slice_get vs n ≡ Some u → IsWhole w bs u.place u.block
      → IsWhole w (bs ++ b ∷ []) u.place u.block
  whole-old n u at whole q route there =
      whole q route (subst (λ (z : K → Option (K × V)). IsSome (z q)) (before-old n u at) there)

  are-old : (n : ℕ) (u : Visit K) → slice_get vs n ≡ Some u → IsVisitOf (bs ++ b ∷ []) t x n u
  are-old n u at = let is = v.are n u at in
      record {
        listed = slice_get-push_below bs u.place u.block b is.listed;
        thread = is.thread;
        call = is.call;
        visit = is.visit;
      }

  pub number-pushed : number_of w (vs ++ visit_at (length bs) b ∷ []) ≡ number_of w vs
  number-pushed =
      let none : length (done_keys w b) ≡ 0 = ap length keys-new in
      let sums = sum_by_push (λ u. length (done_keys w u.block)) vs (visit_at (length bs) b) in
      omega (arith, sums, none)

  front : (n : ℕ) → n ≤ length vs → number_of w (take n (vs ++ visit_at (length bs) b ∷ [])) ≡ number_of w (take n vs)
  front n le = ap (λ us. number_of w us) (take-append-le n vs (visit_at (length bs) b ∷ []) le)

  longer : length (vs ++ visit_at (length bs) b ∷ []) ≡ length vs + 1
  longer = simp length-append refl

  pub visited-pushed : AreWhole w bs vs → IsBelow (stop_of f) (number_of w vs)
      → IsVisited w (bs ++ b ∷ []) t x f (vs ++ visit_at (length bs) b ∷ [])
  visited-pushed whole below =
      record {
        are = λ n u at.
            elim (slice_get-push_cases vs n u (visit_at (length bs) b) at) [
              | inl old ↦ are-old n u old
              | inr new ↦
                  subst (λ (z : Visit K). IsVisitOf (bs ++ b ∷ []) t x n z) (sym new.1)
                  (record { listed = slice_get-push_at bs b; thread = thread; call = call; visit = visit ∙ sym new.0 })
            ];
        goes_on = λ n lt.
            let size = longer in
            ⊎_elim
            (λ old. subst (λ (z : ℕ). IsBelow (stop_of f) z) (sym (front n (omega (arith, old)))) (v.goes_on n old))
            (λ le.
            let at : n ≡ length vs = omega (arith, size, lt, le) in
            subst (λ (z : ℕ). IsBelow (stop_of f) z)
            (sym (front n (omega (arith, at)) ∙ ap (λ us. number_of w us) (ap (λ j. take j vs) at ∙ take_all vs)))
            below)
            (cases_lt n (length vs));
        whole = λ n u at lt.
            let size = longer in
            elim (slice_get-push_cases vs n u (visit_at (length bs) b) at) [
              | inl old ↦ whole-old n u old (whole n u old)
              | inr new ↦ let here = new.0 in absurd (omega (arith, size, lt, here))
            ];
        within = subst (λ (n : ℕ). IsAtMost (stop_of f) n) (sym number-pushed) v.within;
        all = λ j d at own its.
            let size = longer in
            elim (slice_get-push_cases bs j d b at) [
              | inl old ↦ let lt = v.all j d old own its in omega (arith, size, lt)
              | inr new ↦ let is : d.visit ≡ length vs = ap (λ z. z.visit) new.1 ∙ visit in omega (arith, size, is)
            ];
      }

  pub are-whole_pushed : AreWhole w bs vs → (n : ℕ) (u : Visit K) → slice_get vs n ≡ Some u
      → IsWhole w (bs ++ b ∷ []) u.place u.block
  are-whole_pushed whole n u at = whole-old n u at (whole n u at)

  pub reads-pushed : reads_of w (bs ++ b ∷ []) f (vs ++ visit_at (length bs) b ∷ []) ≡ reads_of w bs f vs
  reads-pushed =
      flat_map-append (λ u. flat_map (λ q. visit_reads w.deeds f (before w (bs ++ b ∷ []) u.place q))
      (done_keys w u.block)) vs (visit_at (length bs) b ∷ [])
      ∙ ap (λ ks. flat_map
      (λ u. flat_map (λ q. visit_reads w.deeds f (before w (bs ++ b ∷ []) u.place q)) (done_keys w u.block)) vs ++
      (flat_map (λ q. visit_reads w.deeds f (before w (bs ++ b ∷ []) (length bs) q)) ks ++ [])) keys-new
      ∙ append-nil (flat_map
      (λ u. flat_map (λ q. visit_reads w.deeds f (before w (bs ++ b ∷ []) u.place q)) (done_keys w u.block)) vs)
      ∙ flat_map-same (λ u. flat_map (λ q. visit_reads w.deeds f (before w (bs ++ b ∷ []) u.place q))
      (done_keys w u.block))
      (λ u. flat_map (λ q. visit_reads w.deeds f (before w bs u.place q)) (done_keys w u.block)) vs
      (λ n u at. ap (λ z. flat_map (λ q. visit_reads w.deeds f (z q)) (done_keys w u.block)) (before-old n u at))

none-given : (stop : Option ℕ) → IsAtMost stop 0
none-given None = tt
none-given (Some stop) = omega arith

-- a walk with no block has no visit yet
pub none-visited : {K V D T : Type 0} (w : Setup K V D T) (bs : List (Block K)) (t x : ℕ) (f : Walk D)
    → HasNoBlock bs t x → IsVisited w bs t x f []
none-visited w bs t x f none =
    record {
      are = λ n u at. absurd (none-some u at);
      goes_on = λ n lt. absurd (omega (arith, lt));
      whole = λ n u at lt. absurd (none-some u at);
      within = none-given (stop_of f);
      all = λ i b at thread call. absurd (none i b at thread call);
    }
