-- A filter goes through a key's waiters.
use Rattle.std.proofs.Common.{◌≡◌, ℕ, ◌+◌, ◌-◌, ◌<◌, ◌≤◌, Bool, true, false, Option, List, [], ◌∷◌, ◌++◌, length, map}
use Rattle.std.proofs.Common.{take, drop, remove, Some, None, slice_get, refl, sym, ap, ◌∙◌, subst, append_assoc, arith}
use Rattle.std.proofs.Common.{zero, suc}
use Rattle.std.proofs.lemmas.List.{append-nil, length_push}
use Rattle.parking_lot_core_model.specs.declared.parking.ParkToken.{ParkToken}
use Rattle.parking_lot_core_model.specs.declared.parking.FilterOp.{FilterOp}
use Rattle.parking_lot_core_model.specs.declared.parking.FilterOp.TheVariants.{Unpark, Skip, Stop}
use Rattle.parking_lot_core_model.specs.declared.place.Waiter.{Waiter}
use Rattle.parking_lot_core_model.specs.Results.{Answers, is_stop, chosen_by, passed_by}
use Rattle.parking_lot_core_model.specs.Machine.{Machine, tokens_of, taken}
use Rattle.parking_lot_core_model.specs.Operations.{all_taken}
use Rattle.parking_lot_core_model.proofs.Kept.{updated_at, remove-seam, slice_get-seam}
use Rattle.parking_lot_core_model.proofs.Numbers.{slice_get_none}
use Rattle.parking_lot_core_model.proofs.Filters.{Shown, shown_more, shown_stop, shown_end, drop_from}
use Rattle.parking_lot_core_model.proofs.Takings.{all_taken_none, taken_more}

module _ {X : Type 0} where
  seam_next : (xs ys : List X) → slice_get (xs ++ ys) (length xs) ≡ slice_get ys 0
  seam_next [] ys = refl
  seam_next (x ∷ xs) ys = seam_next xs ys

  drop_next : (xs : List X) (n : ℕ) → slice_get (drop n xs) 0 ≡ slice_get xs n
  drop_next [] zero = refl
  drop_next [] (suc n) = refl
  drop_next (x ∷ xs) zero = refl
  drop_next (x ∷ xs) (suc n) = drop_next xs n

  nothing_next : (xs : List X) → slice_get xs 0 ≡ None → xs ≡ []
  nothing_next [] e = refl
  nothing_next (x ∷ xs) e = absurd (some≢none e)
    where
      some≢none : Some x ≡ None → ⊥
      some≢none e = cc

module _ {F : Type 0} (gives : F → ParkToken → FilterOp → F → Type 0) (f0 : F) (m0 : Machine) (key : ℕ) where
  abbrev queue : List Waiter
  queue = m0.queues key

  -- so far it took these and passed those
  pub record Sifted (m : Machine) (unparked nth : ℕ) (f : F) : Type 0 where
    pub asked : List FilterOp
    pub got : List Waiter
    pub skipped : List Waiter
    pub lists : m ≡ all_taken m0 key got (skipped ++ drop nth (m0.queues key))
    pub count : length got ≡ unparked
    pub passed : length skipped + unparked ≡ nth
    pub chosen : (answers : List FilterOp) → chosen_by (asked ++ answers) (m0.queues key) ≡ got ++ chosen_by answers
        (drop nth (m0.queues key))
    pub left : (answers : List FilterOp) → passed_by (asked ++ answers) (m0.queues key) ≡ skipped ++ passed_by answers
        (drop nth (m0.queues key))
    pub shown : Shown gives is_stop f0 (tokens_of (m0.queues key)) asked f (tokens_of (drop nth (m0.queues key)))

  -- what it comes to
  abbrev pub Sifts : ℕ → Machine → Type 0
  Sifts result m = (answers : List FilterOp) × (last : F) × Answers gives is_stop f0 (tokens_of (m0.queues key)) answers
      last × (result ≡ length (chosen_by answers (m0.queues key)))
      × (m ≡ all_taken m0 key (chosen_by answers (m0.queues key)) (passed_by answers (m0.queues key)))

  pub sifted_none : Sifted m0 0 0 f0
  sifted_none = record {
    asked = [];
    got = [];
    skipped = [];
    lists = all_taken_none m0 key;
    count = refl;
    passed = refl;
    chosen = λ answers. refl;
    left = λ answers. refl;
    shown = λ answers last h. h;
  }

  -- all were shown
  pub sifted_all : (m : Machine) (unparked nth : ℕ) (f : F) → Sifted m unparked nth f → drop nth queue ≡ []
      → Sifts unparked m
  sifted_all m unparked nth f s end =
      let chosen : chosen_by s.asked queue ≡ s.got = ap (λ (xs : List FilterOp). chosen_by xs queue)
      (sym (append-nil s.asked)) ∙ (s.chosen [] ∙ append-nil s.got) in
      let left : passed_by s.asked queue ≡ s.skipped ++ drop nth queue = ap (λ (xs : List FilterOp). passed_by xs queue)
      (sym (append-nil s.asked)) ∙ s.left [] in (
        s.asked,
        f,
        shown_end gives is_stop f0 (tokens_of queue) s.asked f
            (subst (λ (ts : List ParkToken). Shown gives is_stop f0 (tokens_of queue) s.asked f ts) (ap tokens_of end)
            s.shown),
        sym s.count ∙ ap length (sym chosen),
        s.lists ∙ (ap (λ (ws : List Waiter). all_taken m0 key ws (s.skipped ++ drop nth queue)) (sym chosen)
            ∙ ap (λ (ws : List Waiter). all_taken m0 key (chosen_by s.asked queue) ws) (sym left)),
      )

  module _ (m : Machine) (unparked nth : ℕ) (f : F) (s : Sifted m unparked nth f) where
    index : nth - unparked ≡ length s.skipped
    index = let p = s.passed in omega arith

    next_waiter : slice_get (m.queues key) (nth - unparked) ≡ slice_get queue nth
    next_waiter =
        ap (λ (x : Machine). slice_get (x.queues key) (nth - unparked)) s.lists
        ∙ (ap (λ (ws : List Waiter). slice_get ws (nth - unparked))
        (updated_at m0.queues key (s.skipped ++ drop nth queue))
        ∙ (ap (slice_get (s.skipped ++ drop nth queue)) index
        ∙ (seam_next s.skipped (drop nth queue) ∙ drop_next queue nth)))

    pub sifted_end : None ≡ slice_get (m.queues key) (nth - unparked) → Sifts unparked m
    sifted_end e = sifted_all m unparked nth f s
        (nothing_next (drop nth queue) (drop_next queue nth ∙ (sym next_waiter ∙ sym e)))

    module _ (w : Waiter) (g : F) (at : Some w ≡ slice_get (m.queues key) (nth - unparked)) where
      here : drop nth queue ≡ w ∷ drop (nth + 1) queue
      here = drop_from queue nth w (sym next_waiter ∙ sym at)

      ahead : Shown gives is_stop f0 (tokens_of queue) s.asked f (w.token ∷ tokens_of (drop (nth + 1) queue))
      ahead = subst (λ (ts : List ParkToken). Shown gives is_stop f0 (tokens_of queue) s.asked f ts) (ap tokens_of here)
          s.shown

      chosen_next : (a : FilterOp) (answers : List FilterOp) → chosen_by ((s.asked ++ a ∷ []) ++ answers) queue ≡ s.got
          ++ chosen_by (a ∷ answers) (w ∷ drop (nth + 1) queue)
      chosen_next a answers = ap (λ (xs : List FilterOp). chosen_by xs queue) (append_assoc s.asked (a ∷ []) answers)
          ∙ (s.chosen (a ∷ answers) ∙ ap (λ (ws : List Waiter). s.got ++ chosen_by (a ∷ answers) ws) here)

      left_next : (a : FilterOp) (answers : List FilterOp) → passed_by ((s.asked ++ a ∷ []) ++ answers) queue
          ≡ s.skipped ++ passed_by (a ∷ answers) (w ∷ drop (nth + 1) queue)
      left_next a answers = ap (λ (xs : List FilterOp). passed_by xs queue) (append_assoc s.asked (a ∷ []) answers)
          ∙ (s.left (a ∷ answers) ∙ ap (λ (ws : List Waiter). s.skipped ++ passed_by (a ∷ answers) ws) here)

      pub sifted_takes : (n : Machine) → gives f w.token Unpark g → n ≡ taken m key (nth - unparked)
          → Sifted n (unparked + 1) (nth + 1) g
      sifted_takes n h e = record {
        asked = s.asked ++ Unpark ∷ [];
        got = s.got ++ w ∷ [];
        skipped = s.skipped;
        lists = e ∙ (ap (λ (x : Machine). taken x key (nth - unparked))
            (s.lists ∙ ap (λ (ws : List Waiter). all_taken m0 key s.got (s.skipped ++ ws)) here)
            ∙ (ap (taken (all_taken m0 key s.got (s.skipped ++ w ∷ drop (nth + 1) queue)) key) index
            ∙ (taken_more m0 key s.got (s.skipped ++ w ∷ drop (nth + 1) queue) (length s.skipped) w
            (slice_get-seam s.skipped w (drop (nth + 1) queue))
            ∙ ap (λ (ws : List Waiter). all_taken m0 key (s.got ++ w ∷ []) ws)
            (remove-seam s.skipped w (drop (nth + 1) queue)))));
        count = length_push s.got w ∙ ap (λ k. k + 1) s.count;
        passed = (let p = s.passed in omega arith);
        chosen = λ answers. chosen_next Unpark answers
            ∙ sym (append_assoc s.got (w ∷ []) (chosen_by answers (drop (nth + 1) queue)));
        left = λ answers. left_next Unpark answers;
        shown = shown_more gives is_stop f0 (tokens_of queue) s.asked f g w.token (tokens_of (drop (nth + 1) queue))
            Unpark ahead h refl;
      }

      pub sifted_skips : gives f w.token Skip g → Sifted m unparked (nth + 1) g
      sifted_skips h = record {
        asked = s.asked ++ Skip ∷ [];
        got = s.got;
        skipped = s.skipped ++ w ∷ [];
        lists = s.lists ∙ ap (λ (ws : List Waiter). all_taken m0 key s.got ws)
            (ap (λ (ws : List Waiter). s.skipped ++ ws) here
            ∙ sym (append_assoc s.skipped (w ∷ []) (drop (nth + 1) queue)));
        count = s.count;
        passed = (let p = s.passed in let l = length_push s.skipped w in omega arith);
        chosen = λ answers. chosen_next Skip answers;
        left = λ answers. left_next Skip answers
            ∙ sym (append_assoc s.skipped (w ∷ []) (passed_by answers (drop (nth + 1) queue)));
        shown = shown_more gives is_stop f0 (tokens_of queue) s.asked f g w.token (tokens_of (drop (nth + 1) queue))
            Skip ahead h refl;
      }

      pub sifted_stops : gives f w.token Stop g → Sifts unparked m
      sifted_stops h =
          let asked = s.asked ++ Stop ∷ [] in
          let chosen : chosen_by asked queue ≡ s.got = ap (λ (xs : List FilterOp). chosen_by xs queue)
          (sym (append-nil asked)) ∙ (chosen_next Stop [] ∙ append-nil s.got) in
          let left : passed_by asked queue ≡ s.skipped ++ drop nth queue =
          ap (λ (xs : List FilterOp). passed_by xs queue) (sym (append-nil asked))
          ∙ (left_next Stop [] ∙ ap (λ (ws : List Waiter). s.skipped ++ ws) (sym here)) in (
            asked,
            g,
            shown_stop gives is_stop f0 (tokens_of queue) s.asked f g w.token (tokens_of (drop (nth + 1) queue)) Stop
                ahead h refl,
            sym s.count ∙ ap length (sym chosen),
            s.lists ∙ (ap (λ (ws : List Waiter). all_taken m0 key ws (s.skipped ++ drop nth queue)) (sym chosen)
                ∙ ap (λ (ws : List Waiter). all_taken m0 key (chosen_by asked queue) ws) (sym left)),
          )
