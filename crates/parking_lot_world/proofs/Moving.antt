-- In a world somebody can move.
use Rattle.std.proofs.Common.{◌≡◌, ℕ, inl, inr, Bool, true, false, cond, is_some, is_none, length, Option, Some, None}
use Rattle.std.proofs.Common.{refl, sym, ap, ◌∙◌}
use Rattle.std.specs.Option.{option_and_then, option_map_or}
use Rattle.std.proofs.lemmas.Bool.{ltb-true}
use Rattle.parking_lot_core_model.specs.Buckets.{slot}
use Rattle.parking_lot_protocol_waits.specs.declared.once.once_phase.OncePhase.{OncePhase}
use Rattle.parking_lot_protocol_waits.specs.Once.OnceTable as of_once
use Rattle.parking_lot_machine_sides.specs.Once.OnceActs as once
use Rattle.parking_lot_machine_sides.specs.Once.OnceFits.{Fits, is_in_section}
use Rattle.parking_lot_machine_sides.specs.Once.OnceMachineLaws as once_laws
use Rattle.parking_lot_machine_sides.specs.declared.once.open_call.OpenCall.{OpenCall}
use Rattle.parking_lot_machine_sides.specs.Once.Onces.{Onces}
use Rattle.parking_lot_machine_sides.specs.Once.Onces as onces
use Rattle.parking_lot_machine_sides.proofs.OnceFacts.Owning.{is_one}
use Rattle.parking_lot_protocol.specs.declared.act.Act.{Act}
use Rattle.parking_lot_machine_waits.specs.JointLaws.{PartsFit}
use Rattle.parking_lot_machine_waits.specs.JointMoves.{is_free}
use Rattle.parking_lot_machine_waits.specs.JointMoves as joint
use Rattle.parking_lot_machine_waits.specs.JointProgress.{GiversAreOut, SomebodyInsideGoes}
use Rattle.parking_lot_machine_waits.specs.JointProgress as wait_laws
use Rattle.parking_lot_machine_waits.specs.Whole as waits
use Rattle.parking_lot_machine_waits.proofs.Opened.{shut_is_open}
use Rattle.parking_lot_world.specs.WorldLaws.{Moves, SomebodyCanMove}
use Rattle.parking_lot_world.specs.Worlds.{IsWhole, Shown, act_enters, goes, is_in_once, may_go, once_enters}
use Rattle.parking_lot_world.specs.Worlds.{once_side}
use Rattle.parking_lot_world.specs.Worlds.{wait_side}
use Rattle.parking_lot_world.proofs.Busy.{goes_busy}
use Rattle.parking_lot_world.proofs.Sides.{IsOrderly, somebody_goes}
use Rattle.parking_lot_world.proofs.Whole.{both_true, not_true}

-- THE MACHINE OF ONCES

-- an act that is neither a sleep nor an entry
abbrev is_work : Act → Bool
is_work Act.Sleep = false
is_work (Act.Enter key) = false
is_work Act.Load = true
is_work (Act.Exchange from to) = true
is_work (Act.Add by) = true
is_work (Act.FetchAnd keep) = true
is_work Act.Spin = true
is_work (Act.Section next) = true
is_work (Act.Done answer) = true

once_goes : (s : Onces) (c : OpenCall) (a : Act) (free : Bool) → is_work a ≡ true
    → (once.is_possible free a ≡ true) × (act_enters s c a ≡ None)
once_goes s c Act.Sleep free e = absurd cc
once_goes s c (Act.Enter key) free e = absurd cc
once_goes s c Act.Load free e = (refl, refl)
once_goes s c (Act.Exchange from to) free e = (refl, refl)
once_goes s c (Act.Add by) free e = (refl, refl)
once_goes s c (Act.FetchAnd keep) free e = (refl, refl)
once_goes s c Act.Spin free e = (refl, refl)
once_goes s c (Act.Section next) free e = (refl, refl)
once_goes s c (Act.Done answer) free e = (refl, refl)

-- whoever is in a section works
once_works : (p : OncePhase) → is_in_section p ≡ true → is_work (of_once.act_of p) ≡ true
once_works (OncePhase.Checks wish) e = refl
once_works (OncePhase.Retreats wish) e = refl
once_works (OncePhase.Appends wish) e = refl
once_works (OncePhase.Rests wish) e = refl
once_works (OncePhase.Scans well taken) e = refl
once_works (OncePhase.Clears well taken) e = refl
once_works (OncePhase.Leaves taken) e = refl
once_works p e = absurd cc

some_call : {C : Type 0} (f : C → Bool) (o : Option C) → option_map_or f o false ≡ true → is_some o ≡ true
some_call f None e = absurd cc
some_call f (Some c) e = refl

module _ (s : Onces) (h : Fits s) where
  pub onces_orderly : IsOrderly (once_side s)
  onces_orderly = record {
    busy = λ t moves. some_call
        (λ (c : OpenCall). once.is_possible (is_none (onces.inside_at s c.once)) (of_once.act_of c.core.phase))
        (onces.call_at s t) moves;
    inside = λ b some. go b (slot s.inside b) refl some;
  }
    where
      shut : false ≡ true → ⊥
      shut e = cc

      go : (b : ℕ) (o : Option ℕ) → slot s.inside b ≡ o → is_some (slot s.inside b) ≡ true → (u : ℕ)
          × (once.can_move s u ≡ true) × (once_enters s u ≡ None) × ((once_side s).beside u ≡ None)
      go b None is some = absurd (shut (sym (ap is_some is) ∙ some))
      go b (Some u) is some =
          let d = h.inside b u is in
          let works = once_works d.0.core.phase
          ((h.seated u d.0 d.1).section ∙ is_one (onces.inside_at s d.0.once) u (ap (slot s.inside) d.2 ∙ is)) in
          let w = once_goes s d.0 (of_once.act_of d.0.core.phase) (is_none (onces.inside_at s d.0.once)) works in (
            u,
            ap (λ o. option_map_or
                (λ (c : OpenCall). once.is_possible (is_none (onces.inside_at s c.once)) (of_once.act_of c.core.phase))
                o false) d.1 ∙ w.0,
            ap (λ o. option_and_then (λ (c : OpenCall). act_enters s c (of_once.act_of c.core.phase)) o) d.1 ∙ w.1,
            refl,
          )

-- BOTH

module _ (inside : SomebodyInsideGoes) (w : Shown) (whole : IsWhole w) (tied : waits.IsWhole w.waits)
    (givers : GiversAreOut w.waits) (parts : PartsFit w.waits) (onces_fit : Fits w.onces) where
  waits_orderly : IsOrderly (wait_side w.waits)
  waits_orderly = record {
    busy = λ t moves. goes_busy w.waits t moves;
    inside = λ b some. inside w.waits tied parts givers (shut_is_open w.waits parts b some);
  }

  may : (t : ℕ) (b : Bool) → is_in_once w t ≡ b → cond b (goes (once_side w.onces) (wait_side w.waits) t)
      (goes (wait_side w.waits) (once_side w.onces) t) ≡ true → may_go w t ≡ true
  may t b there goes_so =
      ap (λ c. cond c (goes (once_side w.onces) (wait_side w.waits) t) (goes (wait_side w.waits) (once_side w.onces) t))
      there ∙ goes_so

  of_waits : (u : ℕ) → joint.may_go w.waits u ≡ true → goes (wait_side w.waits) (once_side w.onces) u ≡ true → Moves w
  of_waits u moves so =
      (u, may u false (ap (λ (o : Option OpenCall). is_some o) (whole.apart u (goes_busy w.waits u moves))) so)

  of_onces : (u : ℕ) → once.can_move w.onces u ≡ true → goes (once_side w.onces) (wait_side w.waits) u ≡ true → Moves w
  of_onces u moves so = (u, may u true ((onces_orderly w.onces onces_fit).busy u moves) so)

  waits_move : (u : ℕ) → joint.may_go w.waits u ≡ true → Moves w
  waits_move u moves =
      elim (somebody_goes (wait_side w.waits) (once_side w.onces) (onces_orderly w.onces onces_fit) u moves) [
        | inl so ↦ of_waits u moves so
        | inr x ↦ of_onces x.0 x.1 x.2
      ]

  onces_move : (u : ℕ) → once.can_move w.onces u ≡ true → Moves w
  onces_move u moves = elim (somebody_goes (once_side w.onces) (wait_side w.waits) waits_orderly u moves) [
    | inl so ↦ of_onces u moves so
    | inr x ↦ of_waits x.0 x.1 x.2
  ]

  pub somebody_can_move : wait_laws.SomebodyCanMove → once_laws.SomebodyCanMove w.onces → SomebodyCanMove w
  somebody_can_move of_theirs of_their_onces = record {
    waits = λ t busy. (let x = both_true _ _ busy in
        elim (of_theirs w.waits t tied parts givers (ltb-true t (length w.waits.seats) x.0)
        (not_true (is_free w.waits t) x.1)) [
          | inl y ↦ inl (waits_move y.0 y.1)
          | inr kept ↦ inr kept
        ]);
    onces = λ t c here. elim (of_their_onces t c here) [
      | inl x ↦ inl (onces_move x.0 x.1)
      | inr only ↦ inr only
    ];
  }
