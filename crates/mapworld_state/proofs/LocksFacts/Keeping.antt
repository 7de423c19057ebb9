-- Every step keeps a machine of reader-writer locks that nobody holds twice.
use Rattle.std.proofs.Common.{◌≡◌, ℕ, inl, inr, Bool, true, false, cond, Option, Some, None, refl, sym, ap, ◌∙◌, subst}
use Rattle.std.specs.List.{All}
use Rattle.parking_lot_protocol.specs.declared.act.Act.{Act}
use Rattle.parking_lot_protocol.specs.declared.act.SectionAct.{SectionAct}
use Rattle.parking_lot_protocol.specs.declared.act.CoreAnswer.{CoreAnswer}
use Rattle.parking_lot_machine_calls.specs.declared.calls.LockKind.TheVariants as kind
use Rattle.parking_lot_machine_calls.specs.declared.open_call.Call.{Call}
use Rattle.parking_lot_machine_calls.specs.declared.seat.Hold.{Hold}
use Rattle.parking_lot_machine.specs.Machines.{Became, BecameInside, IsStepped, end_of}
use Rattle.parking_lot_machine_calls.specs.CallActs.{hold_after}
use Rattle.parking_lot_machine.specs.Rows.{State, call_at, cell}
use Rattle.parking_lot_machine_calls.specs.Stances.{core_act}
use Rattle.mapworld_state.specs.Locks.Fits.{IsPlain, is_plain, is_single}
use Rattle.mapworld_state.proofs.LocksFacts.Calls.{late_is, stepped_goes}
use Rattle.mapworld_state.specs.Locks.Stands.{is_of_shards}
use Rattle.mapworld_state.proofs.LocksFacts.Ending.{core_ends}
use Rattle.mapworld_state.proofs.LocksFacts.Lists.{all_set}
use Rattle.mapworld_state.proofs.LocksFacts.Staging.{ends_single}
use Rattle.parking_lot_machine_calls.specs.Calls.{is_timed}
use Rattle.parking_lot_machine.specs.CallLaws.AnswerLaws as laws
use Rattle.parking_lot_machine.specs.CallLaws.Answers.{MayStand}
use Rattle.parking_lot_machine.specs.CallLaws.Stages.{Leads, core_stage, stage, stage_of}
use Rattle.parking_lot_machine.specs.RowFits.{FitsTogether}
use Rattle.parking_lot_machine.proofs.CallLawsFacts.Leading.{calls_lead}
use Rattle.parking_lot_machine.proofs.CallLawsFacts.Standing.{begins_so, stands_on}
use Rattle.std.proofs.lemmas.Bool.{cases_eq}
use Rattle.std.proofs.lemmas.Option.{none-some, same_Some}

abbrev IsSingle : Hold → Type 0
IsSingle h = is_single h ≡ true

-- nobody holds twice what it held once before
module _ (s : State) (t : ℕ) (c : Call) (h : FitsTogether s) (plain : IsPlain s) where
  record Keeps (u : State) : Type 0 where
    kinds : u.kinds ≡ s.kinds
    single : All IsSingle u.holds

  same : (u : State) → u.kinds ≡ s.kinds → u.holds ≡ s.holds → Keeps u
  same u k h = record {
    kinds = k;
    single = subst (All IsSingle) (sym h) plain.single;
  }

  is : (u v : State) → u ≡ v → v.kinds ≡ s.kinds → v.holds ≡ s.holds → Keeps u
  is u v e k h = same u (ap (λ (x : State). x.kinds) e ∙ k) (ap (λ (x : State). x.holds) e ∙ h)

  either : (b : Bool) (u v w : State) → w ≡ cond b u v → u.kinds ≡ s.kinds → u.holds ≡ s.holds → v.kinds ≡ s.kinds
      → v.holds ≡ s.holds → Keeps w
  either true u v w e k h l i = is w u e k h
  either false u v w e k h l i = is w v e l i

  inside : (k : SectionAct) (fair : Bool) (u : State) → BecameInside k t fair c s u → Keeps u
  inside SectionAct.Check fair u e = is u _ e refl refl
  inside SectionAct.TakeFirst fair u (k, stands, inl (nth, w, first, e)) = is u _ e refl refl
  inside SectionAct.TakeFirst fair u (k, stands, inr (empty, e)) = is u _ e refl refl
  inside (SectionAct.TakeNext sum) fair u (k, stands, inl (nth, w, first, e)) = is u _ e refl refl
  inside (SectionAct.TakeNext sum) fair u (k, stands, inr (empty, e)) = is u _ e refl refl
  inside (SectionAct.Append token) fair u (k, stands, e) = is u _ e refl refl
  inside (SectionAct.Store plain_change handing) fair u e = is u _ e refl refl
  inside SectionAct.Leave fair u e = is u _ e refl refl
  inside SectionAct.Wake fair u (inr (gone, is_it)) = is u _ is_it refl refl
  inside SectionAct.Wake fair u (inl (e, d, token, due, is_it)) = is u _ is_it refl refl

  goes : (here : call_at s t ≡ Some c) (a : Act) → core_act c.core ≡ a → (fair : Bool) (u : State)
      → Became a t fair c s u → Keeps u
  goes here Act.Load asks fair u e = is u _ e refl refl
  goes here (Act.Exchange from to) asks fair u e = either _ _ _ u e refl refl refl refl
  goes here (Act.Add by) asks fair u e = is u _ e refl refl
  goes here (Act.FetchAnd keep) asks fair u e = is u _ e refl refl
  goes here Act.Spin asks fair u e = is u _ e refl refl
  goes here (Act.Enter key) asks fair u e = is u _ e refl refl
  goes here (Act.Section next) asks fair u b = inside next fair u b
  goes here Act.Sleep asks fair u b = let l = late_is s u t c c.core refl b in is u _ l.3 refl refl
  goes here (Act.Done answer) asks fair u e = record {
    kinds = ap (λ (x : State). x.kinds) e;
    single = subst (All IsSingle) (sym (ap (λ (x : State). x.holds) e))
        (all_set IsSingle s.holds (cell s t c.lock) (hold_after c.others c.core) plain.single
        (ap (λ n. is_single (hold_after n c.core)) (plain.alone t c here)
        ∙ ap is_single (core_ends s t c answer h plain here (sym (ap end_of asks))).1
        ∙ ends_single c.asked (plain.asked t c here) answer));
  }

-- A call stands where it may, behind a step too.
stands_behind : (s u : State) (t : ℕ) (fair : Bool) (answer : Option CoreAnswer) → FitsTogether s → IsPlain s
    → IsStepped t fair answer s u → (v : ℕ) (c d : Call) → call_at s v ≡ Some c → call_at u v ≡ Some d
    → d.asked ≡ c.asked → MayStand 0 (stage_of d.asked) (is_timed d.asked) (core_stage 0 d.core)
stands_behind s u t fair (Some answer) h plain x v c d was there asked = elim (cases_eq v t) [
  | inl e ↦ absurd (none-some d (sym ((calls_lead.answers s u t fair answer h x).gone) ∙ ap (call_at u) (sym e)
      ∙ there))
  | inr ne ↦ plain.stands v d (sym (calls_lead.answers_alone s u t fair answer x v ne) ∙ there)
]
stands_behind s u t fair None h plain x v c d was there asked =
    subst (λ a. MayStand 0 (stage_of a) (is_timed a) (core_stage 0 d.core)) (sym asked)
    (by (subst (λ o. laws.Onward o (call_at u v)) was (calls_lead.steps s u t fair h x v)))
  where
    others : c.others ≡ 0
    others = plain.alone v c was

    by : laws.GoesOn c (call_at u v) → MayStand 0 (stage_of c.asked) (is_timed c.asked) (core_stage 0 d.core)
    by on =
        let same : on.kept.call ≡ d = same_Some on.kept.call d (sym on.kept.here ∙ there) in
        let to : on.to ≡ core_stage 0 d.core = sym on.kept.stands
        ∙ ap (λ n. core_stage n on.kept.call.core) (on.kept.beside ∙ others)
        ∙ ap (λ (y : Call). core_stage 0 y.core) same in
        stands_on 0 (stage_of c.asked) (core_stage 0 c.core) (core_stage 0 d.core) (is_timed c.asked)
        (begins_so c.asked) (plain.stands v c was)
        (subst (λ n. Leads n (core_stage n c.core) (core_stage 0 d.core)) others
        (subst (Leads c.others (stage c)) to on.leads))

pub stepped_plain : (s u : State) (t : ℕ) (fair : Bool) (answer : Option CoreAnswer) → FitsTogether s → IsPlain s
    → IsStepped t fair answer s u → IsPlain u
stepped_plain s u t fair answer h plain x =
    let k = goes s t x.call h plain x.here (core_act x.call.core) refl fair u x.became in
    let from = (stepped_goes s u t fair answer x).comes in
    record {
      kinds = subst (All (λ k. k ≡ kind.Rw)) (sym k.kinds) plain.kinds;
      single = k.single;
      alone = λ v d at. (let c = from v d at in c.follows.others ∙ plain.alone v c.call c.was);
      cores = λ v d at. (let c = from v d at in ap (λ a. is_plain (is_timed a) d.core) c.follows.asked
          ∙ c.follows.plain (is_timed c.call.asked) (plain.cores v c.call c.was));
      asked = λ v d at. (let c = from v d at in ap is_of_shards c.follows.asked ∙ plain.asked v c.call c.was);
      stands = λ v d at. (let c = from v d at in
          stands_behind s u t fair answer h plain x v c.call d c.was at c.follows.asked);
    }

-- the locks stay what they are
pub stepped_kinds : (s u : State) (t : ℕ) (fair : Bool) (answer : Option CoreAnswer) → FitsTogether s → IsPlain s
    → IsStepped t fair answer s u → u.kinds ≡ s.kinds
stepped_kinds s u t fair answer h plain x =
    (goes s t x.call h plain x.here (core_act x.call.core) refl fair u x.became).kinds
