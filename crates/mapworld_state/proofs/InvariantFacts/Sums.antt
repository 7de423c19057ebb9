-- How many pairs a walk has done: by its visits, and by the blocks of its call.
use Rattle.std.proofs.Common.{◌≡◌, ◌≢◌, ℕ, zero, suc, ◌+◌, ◌≤◌, ◌<◌, ◌==◌, ◌&&◌, inl, inr, Bool, true, false}
use Rattle.std.proofs.Common.{if◌then◌else◌, List, length, take, take_all, Option, Some, slice_get, sum_by, refl, ap}
use Rattle.std.proofs.Common.{sym, ◌∙◌, arith}
use Rattle.std.proofs.lemmas.Bool.{cases_eq, cases_lt, eq-eqb, ne_eqb}
use Rattle.std.proofs.lemmas.List.Sums.{sum_by_more}
use Rattle.std.proofs.lemmas.Option.{none-some, same_Some, slice_get_cases, slice_get_within, get_or_from_slice_get}
use Rattle.mapworld_calls.specs.declared.ask.Walk.{Walk}
use Rattle.mapworld_calls.specs.declared.block.Block.{Block}
use Rattle.mapworld_calls.specs.declared.reply.Reply.{Reply}
use Rattle.mapworld_calls.specs.Setup.{Setup}
use Rattle.mapworld_calls.specs.Replay.{done_keys}
use Rattle.mapworld_calls.specs.Agrees.{Visit, IsVisited, number_of}
use Rattle.mapworld_calls.specs.Placed.{done_by_walk, WellPlaced}

-- a sum over a list with one more
sum-next : {X : Type 0} (g : X → ℕ) (xs : List X) (m : ℕ) (x : X) → slice_get xs m ≡ Some x
    → sum_by g (take (suc m) xs) ≡ sum_by g (take m xs) + g x
sum-next g xs m x at =
    let within = slice_get_within xs m x at in
    let one : m + 1 ≡ suc m = omega arith in
    ap (λ n. sum_by g (take n xs)) (sym one)
    ∙ (sum_by_more g xs m x within ∙ ap (λ y. sum_by g (take m xs) + g y) (get_or_from_slice_get xs m x x at))

take-past : {X : Type 0} (xs : List X) (m : ℕ) → length xs ≤ m → take (suc m) xs ≡ take m xs
take-past xs m past = take_all (suc m) xs (omega (arith, past)) ∙ sym (take_all m xs past)

module _ {K V D T A : Type 0} (x : Setup K V D T) (steps : List ℕ) (started : ℕ → Option ℕ) (bs : List (Block K))
    (replies : List (Reply K V T A)) (well : WellPlaced x steps started bs replies)
    (t c : ℕ) (f : Walk D) (vs : List (Visit K)) (v : IsVisited x bs t c f vs) where
  -- what a block counts as one of the call
  abbrev counts : Block K → ℕ
  counts d = if (d.thread == t) && (d.call == c) then length (done_keys x d) else 0

  pub own-counts : (d : Block K) → d.thread ≡ t → d.call ≡ c → counts d ≡ length (done_keys x d)
  own-counts d thread call = rw (eq-eqb d.thread t thread, eq-eqb d.call c call) refl

  other-thread : (d : Block K) → d.thread ≢ t → counts d ≡ 0
  other-thread d ne = rw (ne_eqb d.thread t ne) refl

  other-call : (d : Block K) (same : Bool) → (d.thread == t) ≡ same → d.call ≢ c → counts d ≡ 0
  other-call d true is ne = rw (is, ne_eqb d.call c ne) refl
  other-call d false is ne = rw is refl

  -- visits with rising numbers stand at rising places
  pub place-rises : (m n : ℕ) (u z : Visit K) → slice_get vs m ≡ Some u → slice_get vs n ≡ Some z → m < n
      → u.place < z.place
  place-rises m n u z hu hz lt = elim (cases_lt u.place z.place) [
    | inl less ↦ less
    | inr le ↦
        let a = v.are m u hu in
        let b = v.are n z hz in
        elim (cases_eq z.place u.place) [
          | inl same ↦
              let one : z.block ≡ u.block =
              same_Some z.block u.block (sym b.listed ∙ (ap (λ k. slice_get bs k) same ∙ a.listed)) in
              absurd (let e : n ≡ m = sym b.visit ∙ (ap (λ (y : Block K). y.visit) one ∙ a.visit) in omega arith)
          | inr apart ↦
              elim (well.own_order z.place u.place z.block u.block b.listed a.listed (omega arith)
              (b.thread ∙ sym a.thread)) [
                | inl earlier ↦ let e = b.call in let g = a.call in absurd (omega arith)
                | inr visit ↦ let e = b.visit in let g = a.visit in let less = visit.1 in absurd (omega arith)
              ]
        ]
  ]

  pub visit-there : (n : ℕ) → n < length vs → (z : Visit K) × (slice_get vs n ≡ Some z)
  visit-there n within =
      elim (slice_get_cases vs n).1
      [ inl there ↦ (there.0, there.2) | inr past ↦ absurd (omega (arith, within, past.0)) ]

  -- a block of the call is the visit of its number
  pub visit-of : (m : ℕ) (d : Block K) → slice_get bs m ≡ Some d → d.thread ≡ t → d.call ≡ c → (z : Visit K)
      × (slice_get vs d.visit ≡ Some z) × (z.place ≡ m) × (z.block ≡ d)
  visit-of m d at thread call =
      let within = v.all m d at thread call in
      let z = visit-there d.visit within in
      let a = v.are d.visit z.0 z.1 in
      let same : z.0.place ≡ m = elim (cases_eq z.0.place m) [
        | inl e ↦ e
        | inr ne ↦ elim (cases_lt z.0.place m) [
          | inl below ↦ elim (well.own_order z.0.place m z.0.block d a.listed at below (a.thread ∙ sym thread)) [
            | inl earlier ↦ let e = a.call in absurd (omega (arith, earlier, call))
            | inr visit ↦ let e = a.visit in let less = visit.1 in absurd (omega arith)
          ]
          | inr above ↦ elim (well.own_order m z.0.place d z.0.block at a.listed (omega (arith, above, ne))
              (thread ∙ sym a.thread)) [
                | inl earlier ↦ let e = a.call in absurd (omega (arith, earlier, call))
                | inr visit ↦ let e = a.visit in let less = visit.1 in absurd (omega arith)
              ]
        ]
      ] in
      (z.0, z.1, same, same_Some z.0.block d (sym a.listed ∙ (ap (λ k. slice_get bs k) same ∙ at)))

  abbrev AreBefore : ℕ → ℕ → Type 0
  AreBefore k m = (n : ℕ) (z : Visit K) → n < k → slice_get vs n ≡ Some z → z.place < m

  abbrev AreBehind : ℕ → ℕ → Type 0
  AreBehind k m = (n : ℕ) (z : Visit K) → k ≤ n → slice_get vs n ≡ Some z → m ≤ z.place

  below : (m n : ℕ) (z : Visit K) → z.place < suc m → (z.place ≡ m → ⊥) → z.place < m
  below m n z low apart = elim (cases_eq z.place m) [ inl same ↦ absurd (apart same) | inr ne ↦ omega (arith, low, ne) ]

  -- one block more, where those before it have done what the visits before it have
  module _ (m : ℕ) (ih : (k : ℕ) → k ≤ length vs → AreBefore k m → AreBehind k m
      → done_by_walk x (take m bs) t c ≡ number_of x (take k vs)) (k : ℕ) (few : k ≤ length vs)
      (front : AreBefore k (suc m)) (behind : AreBehind k (suc m)) where
    other : (d : Block K) → slice_get bs m ≡ Some d → (d.thread ≡ t → d.call ≡ c → ⊥) → counts d ≡ 0
        → done_by_walk x (take (suc m) bs) t c ≡ number_of x (take k vs)
    other d at foreign none =
        let apart = λ (n : ℕ) (z : Visit K) (there : slice_get vs n ≡ Some z) (same : z.place ≡ m).
        let is = v.are n z there in
        let one : z.block ≡ d = same_Some z.block d (sym is.listed ∙ (ap (λ j. slice_get bs j) same ∙ at)) in
        foreign (sym (ap (λ (y : Block K). y.thread) one) ∙ is.thread)
        (sym (ap (λ (y : Block K). y.call) one) ∙ is.call) in
        let rest = ih k few (λ n z lt there. below m n z (front n z lt there) (apart n z there))
        (λ n z le there. let far = behind n z le there in omega (arith, far)) in
        omega (arith, sum-next counts bs m d at, none, rest)

    own : (d : Block K) → slice_get bs m ≡ Some d → d.thread ≡ t → d.call ≡ c → done_by_walk x (take (suc m) bs) t c
        ≡ number_of x (take k vs)
    own d at thread call =
        let z = visit-of m d at thread call in
        -- it is the last of those before
        let low : d.visit < k =
        elim (cases_lt d.visit k)
        [ inl lt ↦ lt | inr le ↦ absurd (let far = behind d.visit z.0 le z.1 in let same = z.2 in omega arith) ] in
        let last : k ≡ suc d.visit = elim (cases_eq k (suc d.visit)) [
          | inl e ↦ e
          | inr ne ↦
              let next = visit-there (suc d.visit) (omega (arith, low, ne, few)) in
              let rises = place-rises d.visit (suc d.visit) z.0 next.0 z.1 next.1 (omega arith) in
              let near = front (suc d.visit) next.0 (omega (arith, low, ne)) next.1 in
              absurd (let same = z.2 in omega arith)
        ] in
        let rest = ih d.visit (omega (arith, few, low))
        (λ n y lt there. let up = place-rises n d.visit y z.0 there z.1 lt in let same = z.2 in omega arith)
        (λ n y le there. elim (cases_eq n d.visit) [
          | inl e ↦ let one : y ≡ z.0 = same_Some y z.0 (sym there ∙ (ap (λ j. slice_get vs j) e ∙ z.1)) in
              let p : y.place ≡ z.0.place = ap (λ (q : Visit K). q.place) one in let same = z.2 in omega arith
          | inr ne ↦ let up = place-rises d.visit n z.0 y z.1 there (omega (arith, le, ne)) in let same = z.2 in
              omega arith
        ]) in
        let more : number_of x (take (suc d.visit) vs) ≡ number_of x (take d.visit vs) + length
        (done_keys x z.0.block) = sum-next (λ (q : Visit K). length (done_keys x q.block)) vs d.visit z.0 z.1 in
        let keys : length (done_keys x z.0.block) ≡ length (done_keys x d) =
        ap (λ (y : Block K). length (done_keys x y)) z.3 in
        let upto : number_of x (take k vs) ≡ number_of x (take (suc d.visit) vs) = ap (λ n. number_of x (take n vs))
        last in
        omega (arith, sum-next counts bs m d at, own-counts d thread call, rest, more, keys, upto)

    next-sums : done_by_walk x (take (suc m) bs) t c ≡ number_of x (take k vs)
    next-sums = elim (slice_get_cases bs m).1 [
      | inl there ↦ elim (cases_eq there.0.thread t) [
        | inl thread ↦ elim (cases_eq there.0.call c) [
          | inl call ↦ own there.0 there.2 thread call
          | inr ne ↦ other there.0 there.2 (λ its call. ne call) (other-call there.0 (there.0.thread == t) refl ne)
        ]
        | inr ne ↦ other there.0 there.2 (λ its call. ne its) (other-thread there.0 ne)
      ]
      | inr past ↦
          let apart = λ (n : ℕ) (z : Visit K) (at : slice_get vs n ≡ Some z) (same : z.place ≡ m). none-some z.block
          (sym past.1 ∙ (ap (λ j. slice_get bs j) (sym same) ∙ (v.are n z at).listed)) in
          ap (λ ds. done_by_walk x ds t c) (take-past bs m past.0)
          ∙ ih k few (λ n z lt at. below m n z (front n z lt at) (apart n z at))
          (λ n z le at. let far = behind n z le at in omega (arith, far))
    ]

  -- the blocks before a place have done what the visits before it have
  pub sums : (m k : ℕ) → k ≤ length vs → AreBefore k m → AreBehind k m → done_by_walk x (take m bs) t c ≡ number_of x
      (take k vs)
  sums zero zero few front behind = refl
  sums zero (suc k) few front behind =
      let z = visit-there k (omega (arith, few)) in
      absurd (let none = front k z.0 (omega arith) z.1 in omega arith)
  sums (suc m) k few front behind = next-sums m (λ j less fr be. sums m j less fr be) k few front behind

  -- all of them
  pub sum-all : done_by_walk x bs t c ≡ number_of x vs
  sum-all =
      ap (λ ds. done_by_walk x ds t c) (sym (take_all (length bs) bs (omega arith)))
      ∙ sums (length bs) (length vs) (omega arith)
      (λ n z lt at. slice_get_within bs z.place z.block (v.are n z at).listed)
      (λ n z le at. absurd (let lt = slice_get_within vs n z at in omega (arith, le, lt)))
      ∙ ap (λ us. number_of x us) (take_all (length vs) vs (omega arith))

  -- up to the last visit
  pub sum-upto : (m : ℕ) (z : Visit K) → slice_get vs m ≡ Some z → suc m ≡ length vs
      → done_by_walk x (take (suc z.place) bs) t c ≡ number_of x vs
  sum-upto m z at last =
      sums (suc z.place) (length vs) (omega arith)
      (λ n y lt there. elim (cases_eq n m) [
        | inl e ↦ let one : y ≡ z = same_Some y z (sym there ∙ (ap (λ j. slice_get vs j) e ∙ at)) in
            let p : y.place ≡ z.place = ap (λ (q : Visit K). q.place) one in omega arith
        | inr ne ↦ let up = place-rises n m y z there at (omega (arith, lt, last, ne)) in omega (arith, up)
      ])
      (λ n y le there. absurd (let lt = slice_get_within vs n y there in omega (arith, le, lt)))
      ∙ ap (λ us. number_of x us) (take_all (length vs) vs (omega arith))
