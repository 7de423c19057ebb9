-- The steps of walks, and the starts of calls, are paid for by the steps that are left.
use Rattle.std.proofs.Common.{◌≡◌, ℕ, ◌+◌, ◌-◌, ◌*◌, ◌≤◌, inl, inr, Bool, cond, if◌then◌else◌, List, ◌∷◌, length, Some}
use Rattle.std.proofs.Common.{count_by, sum_by, refl, ap, ◌∙◌, subst, arith}
use Rattle.std.proofs.lemmas.Bool.{cases_Bool}
use Rattle.std.proofs.lemmas.List.Sums.{sum_by-cons}
use Rattle.std.proofs.lemmas.Nat.{mul-le}
use Rattle.mapworld_calls.specs.declared.ask.Ask.{Ask}
use Rattle.mapworld_calls.specs.declared.ask.Ask.TheVariants as ask
use Rattle.mapworld_calls.specs.declared.ask.Walk.{Walk}
use Rattle.mapworld_calls.specs.Programs.{stop_of}
use Rattle.mapworld_calls.specs.Setup.{Setup, Laws}
use Rattle.parking_lot_machine.specs.Ranks.{cost, steps_left}
use Rattle.parking_lot_machine.specs.Rows.{state}
use Rattle.mapworld_state.specs.declared.step.Step.{Step}
use Rattle.mapworld_state.specs.declared.place.Phase.{Phase}
use Rattle.mapworld_state.specs.declared.place.Phase.TheVariants as phase
use Rattle.mapworld_state.specs.Core.{is_walk, may_add}
use Rattle.mapworld_state.specs.Locks.Fits.{LocksFit}
use Rattle.mapworld_state.specs.Moves.{start_guard, start_phase, start_shard, start_counts, stops_at, is_last}
use Rattle.mapworld_state.specs.Places.{Place}
use Rattle.mapworld_state.specs.State.{State, next_step}
use Rattle.mapworld_state.specs.Steps.{EntersBy, Starts}
use Rattle.mapworld_state.specs.Walks.{walk_mode}
use Rattle.mapworld.specs.Progress.Left.{ask_left, call_left, left, pairs_from, phase_left, phase_todo, release_left}
use Rattle.mapworld.specs.Progress.Left.{to_come, visit_left}
use Rattle.mapworld_state.proofs.LocksFacts.Lawful.{lawful-begins}
use Rattle.mapworld.proofs.ProgressFacts.Coming.{TablesBy, same, StaysVisited, adds-most, seen-counted}
use Rattle.mapworld.proofs.ProgressFacts.Falling.{asked_most, entered_costs, falls, held_plain, held_takes, own-behind}
use Rattle.mapworld.proofs.ProgressFacts.Stepping.{at-lock, blocks-are, locks-are, places-are, seen-to, tables-are}

-- a walk's number of visits left is no more
visits-less : (n a b : ℕ) → a ≤ b → visit_left n * a ≤ visit_left n * b
visits-less n a b le = mul-le (visit_left n) a (visit_left n) b (omega arith) le

module _ {K V S D T A : Type 0} (x : Setup K V D T) (laws : Laws x) (w : State K V S D T A) (s : Step)
    (w' : State K V S D T A) where
  abbrev m : ℕ
  m = length w.places

  abbrev all : ℕ
  all = pairs_from w.tables 0 + to_come w.places

  -- a start of that call, with the phase that it leads to
  module _ (h : Starts x w s w') (size : length (state w.locks.rows).calls ≡ m) (a : Ask K V D) (is : h.ask ≡ a) where
    abbrev p : Place K V D T A
    p = h.place

    abbrev f : Phase K V D T A
    f = start_phase h.ask p.guard

    abbrev p' : Place K V D T A
    p' = record p {
      asks = h.rest;
      started = Some (next_step w);
      closes = is_last h.ask;
      shard = start_shard x.route h.ask p.shard;
      guard = start_guard h.ask p.guard;
      phase = f;
    }

    abbrev more : ℕ
    more = length w.tables - (start_shard x.route h.ask p.shard + 1)

    list : p.asks ≡ a ∷ h.rest
    list = h.asked ∙ ap (λ z. z ∷ h.rest) is

    seen : StaysVisited x.eq w.blocks w'.blocks
    seen = seen-to x.eq w.blocks h.blocks w'.blocks (blocks-are w' _ h.after)
        (seen-counted x.eq w.blocks (start_counts f p.block) p.next h.blocks h.counted)

    adding : may_add p' + 0 ≤ may_add p
    adding = omega (arith, adds-most f, ap (λ (xs : List (Ask K V D)). length xs) list)

    started : steps_left (state w'.locks.rows) s.thread + phase_left m more f + 2 * phase_todo x w' p' f + 1 ≤
        steps_left (state w.locks.rows) s.thread + ask_left m (length w.tables) a + 2 * (cond (is_walk a) 1 0 * all)
        → left x w' s.thread + 1 ≤ left x w s.thread
    started paid =
        let tables = same (tables-are w' _ h.after) in
        let first : sum_by (ask_left m (length w.tables)) p.asks ≡ ask_left m (length w.tables) a + sum_by
        (ask_left m (length w.tables)) h.rest =
        ap (λ (xs : List (Ask K V D)). sum_by (ask_left m (length w.tables)) xs) list
        ∙ sum_by-cons (ask_left m (length w.tables)) a h.rest in
        let walks : count_by is_walk p.asks ≡ cond (is_walk a) 1 0 + count_by is_walk h.rest =
        ap (λ (xs : List (Ask K V D)). count_by is_walk xs) list
        ∙ sum_by-cons (λ (z : Ask K V D). cond (is_walk z) 1 0) a h.rest in
        let todo : count_by is_walk p.asks * all ≡ cond (is_walk a) 1 0 * all + count_by is_walk h.rest * all =
        ap (λ k. k * all) walks ∙ omega arith in
        falls x laws w w' s.thread p p' h.stands (places-are w' _ h.after) 0 tables adding seen
        (omega (
          arith,
          paid,
          first,
          todo,
          ap (phase_left m (length w.tables - (p.shard + 1))) h.before,
          asks-rest (count_by is_walk h.rest)
              (own-behind x laws w w' s.thread p p' h.stands (places-are w' _ h.after) 0 tables adding seen 0),
        ))
      where
        asks-rest : (c : ℕ) → pairs_from w'.tables 0 + to_come w'.places ≤ all
            → c * (pairs_from w'.tables 0 + to_come w'.places) ≤ c * all
        asks-rest c le = mul-le c (pairs_from w'.tables 0 + to_come w'.places) c all (omega arith) le

    plain-start : (fit : LocksFit w.locks) (few : phase_left (length (state w.locks.rows).calls) more f ≤ release_left
        (length (state w.locks.rows).calls) + 3) → ask_left m (length w.tables) a ≡ call_left m
        → phase_todo x w' p' f ≡ 0 → left x w' s.thread + 1 ≤ left x w s.thread
    plain-start fit few cost none =
        let n = length (state w.locks.rows).calls in
        let paid = entered_costs s.thread (start_shard x.route h.ask p.shard) more f w.locks h.locks few fit h.enters
        in
        let same : phase_left n more f ≡ phase_left m more f = ap (λ k. phase_left k more f) size in
        let calls : call_left n ≡ call_left m = ap call_left size in
        started (omega (
          arith,
          at-lock s.thread h.locks w'.locks (locks-are w' _ h.after),
          paid,
          same,
          calls,
          cost,
          none,
        ))

    walk-start : LocksFit w.locks → (g : Walk D) → a ≡ ask.Walk g → left x w' s.thread + 1 ≤ left x w s.thread
    walk-start fit g walks = elim (cases_Bool (stops_at (stop_of g) 0)) [
      | inl none ↦
          let idle : f ≡ phase.Idle g = leads ∙ ap (λ (b : Bool). if b then phase.Idle g else phase.Reach g) none in
          let locks : h.locks ≡ w.locks =
          subst (λ (z : Phase K V D T A). EntersBy s.thread (start_shard x.route h.ask p.shard) z w.locks h.locks)
          idle h.enters in
          started (omega (
            arith,
            at-lock s.thread h.locks w'.locks (locks-are w' _ h.after),
            at-lock s.thread w.locks h.locks locks,
            ap (phase_left m more) idle,
            ap (phase_todo x w' p') idle,
            ap (ask_left m (length w.tables)) walks,
          ))
      | inr some ↦
          let reach : f ≡ phase.Reach g = leads ∙ ap (λ (b : Bool). if b then phase.Idle g else phase.Reach g) some in
          let begins = subst
          (λ (z : Phase K V D T A). EntersBy s.thread (start_shard x.route h.ask p.shard) z w.locks h.locks) reach
          h.enters in
          let first : start_shard x.route h.ask p.shard ≡ 0 = ap (λ (z : Ask K V D). start_shard x.route z p.shard)
          (is ∙ walks) in
          let tables : TablesBy x.eq w.tables w'.tables 0 = same (tables-are w' _ h.after) in
          started (omega (
            arith,
            at-lock s.thread h.locks w'.locks (locks-are w' _ h.after),
            (lawful-begins s.thread (start_shard x.route h.ask p.shard) _ w.locks h.locks fit begins).costs,
            asked_most (length (state w.locks.rows).calls) (walk_mode g),
            ap (phase_left m more) reach,
            ap (phase_todo x w' p') reach,
            ap (λ k. pairs_from w'.tables k) first,
            own-behind x laws w w' s.thread p p' h.stands (places-are w' _ h.after) 0 tables adding seen 0,
            ap (ask_left m (length w.tables)) walks,
            ap (λ (z : Ask K V D). cond (is_walk z) 1 0 * all) walks,
            visits-less m more (length w.tables) (omega arith),
          ))
    ]
      where
        leads : f ≡ (if stops_at (stop_of g) 0 then phase.Idle g else phase.Reach g)
        leads = ap (λ (z : Ask K V D). start_phase z p.guard) (is ∙ walks)

  pub starts_fall : length (state w.locks.rows).calls ≡ m → LocksFit w.locks → Starts x w s w'
      → left x w' s.thread + 1 ≤ left x w s.thread
  starts_fall size fit h = by h.ask refl
    where
      n : ℕ
      n = length (state w.locks.rows).calls

      by : (a : Ask K V D) → h.ask ≡ a → left x w' s.thread + 1 ≤ left x w s.thread
      by (ask.Keyed k) is =
          plain-start h size (ask.Keyed k) is fit
          (omega (
            arith,
            ap
                (λ (z : Ask K V D). phase_left (length (state w.locks.rows).calls) (more h size (ask.Keyed k) is)
                (start_phase {T = T} {A = A} z h.place.guard)) is,
          )) refl
          (ap (λ (z : Ask K V D). phase_todo x w' (p' h size (ask.Keyed k) is) (start_phase z h.place.guard)) is)
      by (ask.Begin b) is =
          plain-start h size (ask.Begin b) is fit
          (omega (
            arith,
            ap
                (λ (z : Ask K V D). phase_left (length (state w.locks.rows).calls) (more h size (ask.Begin b) is)
                (start_phase {T = T} {A = A} z h.place.guard)) is,
          )) refl
          (ap (λ (z : Ask K V D). phase_todo x w' (p' h size (ask.Begin b) is) (start_phase z h.place.guard)) is)
      by (ask.Held c) is =
          plain-start h size (ask.Held c) is fit
          (omega (
            arith,
            ap (λ (z : Ask K V D). phase_left (length (state w.locks.rows).calls) (more h size (ask.Held c) is)
                (start_phase {T = T} {A = A} z h.place.guard)) is,
            held_takes T A (length (state w.locks.rows).calls) (more h size (ask.Held c) is) h.place.guard c,
          ))
          refl
          (ap (λ (z : Ask K V D). phase_todo x w' (p' h size (ask.Held c) is) (start_phase z h.place.guard)) is
          ∙ held_plain x w' (p' h size (ask.Held c) is) h.place.guard c)
      by (ask.Walk g) is = walk-start h size (ask.Walk g) is fit g refl
