-- How the calls of all threads follow from those before a step.
use Rattle.std.proofs.Common.{◌⊎◌, ◌≡◌, ℕ, zero, suc, inl, inr, Bool, true, false, cond, List, [], ◌∷◌, map}
use Rattle.std.proofs.Common.{length, Option, Some, None, slice_get, slice_set, refl, sym, ap, ◌∙◌, subst}
use Rattle.std.specs.Option.{option_and_then, option_map}
use Rattle.std.proofs.lemmas.Bool.{cases_eq}
use Rattle.std.proofs.lemmas.Option.{none-some, same_Some, slice_get-map}
use Rattle.std.proofs.lemmas.List.{length-set, length-map}
use Rattle.parking_lot_protocol.specs.declared.act.Act.{Act}
use Rattle.parking_lot_protocol.specs.declared.act.SectionAct.{SectionAct}
use Rattle.parking_lot_core_model.specs.Machine.{Machine}
use Rattle.parking_lot_protocol.specs.declared.act.ActResult.{ActResult}
use Rattle.parking_lot_protocol.specs.declared.act.CoreAnswer.{CoreAnswer}
use Rattle.parking_lot_rules.proofs.Indexed.{get-set_same}
use Rattle.parking_lot_rules.proofs.Slots.{set_elsewhere, set_here}
use Rattle.parking_lot_machine_calls.specs.declared.open_call.Call.{Call}
use Rattle.parking_lot_machine_calls.specs.declared.seat.Core.{Core}
use Rattle.parking_lot_machine_calls.specs.declared.late_rw.LateRwPhase.{LateRwPhase}
use Rattle.parking_lot_machine_calls.specs.declared.seat.LatePhase.{LatePhase}
use Rattle.parking_lot_machine_calls.specs.declared.seat.QueuePosition.{QueuePosition}
use Rattle.parking_lot_machine_calls.specs.declared.seat.WakeResult.{WakeResult}
use Rattle.parking_lot_machine_calls.specs.declared.seat.Wakeup.{Wakeup}
use Rattle.parking_lot_machine.specs.LateActs.{came_back, others_left, quitted}
use Rattle.parking_lot_machine_calls.specs.LateCalls.{comes_late, found_as, is_handed}
use Rattle.parking_lot_machine.specs.Machines.{Became, BecameInside, BecameLate, IsStepped}
use Rattle.parking_lot_machine.specs.RowActs.{with_call, with_lot}
use Rattle.parking_lot_machine_calls.specs.CallActs.{hears, off_list, settled}
use Rattle.parking_lot_machine.specs.Rows.{State, call_at}
use Rattle.parking_lot_machine_calls.specs.Stances.{core_act, core_next}
use Rattle.parking_lot_protocol.specs.declared.rw_phase.RwPhase.{RwPhase}
use Rattle.parking_lot_protocol.specs.declared.rw_core.RwCore.{RwCore}
use Rattle.parking_lot_protocol.specs.RwTable.{is_parked}
use Rattle.parking_lot_protocol_rw.specs.UpgradeTable as upgrade_table
use Rattle.parking_lot_protocol_rw.specs.UpgradeTable.{core_at}
use Rattle.parking_lot_protocol_rw.specs.declared.upgrade_phase.Hold.{Hold as Kept}
use Rattle.parking_lot_protocol_rw.specs.declared.upgrade_phase.UpgradePhase.{UpgradePhase}
use Rattle.parking_lot_machine_calls.specs.Stances.{late_rw_next, quits_as, resumed_as, rw_asleep, simple_pending}
use Rattle.parking_lot_machine_calls.specs.declared.late_rw.RwSleeper.{RwSleeper}
use Rattle.mapworld_state.specs.Locks.Fits.{is_plain, late_plainly, yields_plainly}

abbrev pub call_of : List (Option Call) → ℕ → Option Call
call_of calls t = option_and_then (λ c. c) (slice_get calls t)

-- A call goes on by what it was told; or its moment has passed, and it has found that another has taken it.
abbrev pub Hears : Core → Core → Type 0
Hears k m = ((told : ActResult) × (m ≡ core_next k told))
    ⊎ ((by : ℕ) × (handed : Bool) × (comes_late k ≡ true) × (m ≡ found_as by handed k))

-- What one leaves whose moment has passed, as it comes back or takes itself out: its call goes on, and the lot has
-- changed, and who is still to be woken.
abbrev pub LateGoes : State → ℕ → Call → State → Type 0
LateGoes s t c u =
    (d : Call) × (l : Machine) × (ws : List Wakeup) × (u ≡ record (with_lot (with_call s t d) l) { wakes = ws })
    × (d.lock ≡ c.lock) × (d.others ≡ c.others) × (d.asked ≡ c.asked) × Hears c.core d.core

module _ (s u : State) (t : ℕ) (c : Call) where
  late_back : (at : QueuePosition) → comes_late c.core ≡ true → u ≡ came_back at s t c → LateGoes s t c u
  late_back QueuePosition.Listed comes e =
      (hears c ActResult.Entered, _, s.wakes, e, refl, refl, refl, inl (ActResult.Entered, refl))
  late_back (QueuePosition.Off by said) comes e = (
    record c { core = found_as by (is_handed said) c.core; spot = QueuePosition.Listed },
    _,
    _,
    e,
    refl,
    refl,
    refl,
    inr (by, is_handed said, comes, refl),
  )

  late_out : u ≡ quitted s t c → LateGoes s t c u
  late_out e = (
    hears c (ActResult.Took None (others_left s t c)),
    _,
    s.wakes,
    e,
    refl,
    refl,
    refl,
    inl (ActResult.Took None (others_left s t c), refl),
  )

  pub late_is : (k : Core) → c.core ≡ k → BecameLate k t c s u → LateGoes s t c u
  late_is (Core.Late LatePhase.Expires) same e = late_back c.spot (ap comes_late same) e
  late_is (Core.Late LatePhase.Quits) same e = late_out e
  late_is (Core.LateRw (LateRwPhase.Expires k)) same e = late_back c.spot (ap comes_late same) e
  late_is (Core.LateRw (LateRwPhase.Quits k)) same e = late_out e
  late_is k same e = absurd e

-- a call goes on as another: at the same lock, with the same holds beside, and with what it was asked
pub record Follows (c d : Call) : Type 0 where
  pub lock : d.lock ≡ c.lock
  pub others : d.others ≡ c.others
  pub asked : d.asked ≡ c.asked
  pub plain : (timed : Bool) → is_plain timed c.core ≡ true → is_plain timed d.core ≡ true

pub follows_itself : (c d : Call) → d.lock ≡ c.lock → d.others ≡ c.others → d.asked ≡ c.asked → d.core ≡ c.core
    → Follows c d
follows_itself c d lock others asked core =
    record { lock = lock; others = others; asked = asked; plain = λ timed so. ap (is_plain timed) core ∙ so }

follows_then : (c d e : Call) → Follows c d → Follows d e → Follows c e
follows_then c d e f g = record {
  lock = g.lock ∙ f.lock;
  others = g.others ∙ f.others;
  asked = g.asked ∙ f.asked;
  plain = λ timed so. g.plain timed (f.plain timed so);
}

-- off its list a pending writer leaves as one that had no hold before
pends_plainly : (p : RwPhase) (left : Bool) → late_plainly (quits_as (simple_pending p) left) ≡ true
pends_plainly (RwPhase.DrainSleeps rounds) left = refl
pends_plainly p true = refl
pends_plainly p false = refl

resumes_plainly : (b : Bool) (c : RwCore) (handed : Bool) → is_plain true (resumed_as b (RwSleeper.Simple c) handed)
    ≡ true
resumes_plainly true c handed = refl
resumes_plainly false c handed = refl

late_next_plain : (p : LateRwPhase) (told : ActResult) → late_plainly p ≡ true → is_plain true (late_rw_next p told)
    ≡ true
late_next_plain (LateRwPhase.Expires (RwSleeper.Simple c)) (ActResult.Woken token) so = refl
late_next_plain (LateRwPhase.Expires (RwSleeper.Simple c)) ActResult.Entered so = refl
late_next_plain (LateRwPhase.Quits (RwSleeper.Simple c)) (ActResult.Took token left) so = pends_plainly c.phase left
late_next_plain LateRwPhase.Masks (ActResult.Before word) so = refl
late_next_plain LateRwPhase.Leaves ActResult.Made so = refl
late_next_plain (LateRwPhase.LeavesPending false) ActResult.Made so = refl
late_next_plain (LateRwPhase.LeavesPending true) told so = absurd cc
late_next_plain (LateRwPhase.WasTaken (RwSleeper.Simple c) by handed) ActResult.Made so =
    resumes_plainly (rw_asleep c.phase) c handed
late_next_plain (LateRwPhase.Expires (RwSleeper.Upgradable c)) told so = absurd cc
late_next_plain (LateRwPhase.Quits (RwSleeper.Upgradable c)) told so = absurd cc
late_next_plain (LateRwPhase.WasTaken (RwSleeper.Upgradable c) by handed) told so = absurd cc
late_next_plain p told so = refl

owes_plainly : (b : Bool) → yields_plainly
    (cond b (UpgradePhase.Owes Kept.Nothing CoreAnswer.Released (core_at RwPhase.EnterWakeSection))
    (UpgradePhase.Ends Kept.Nothing CoreAnswer.Released)) ≡ true
owes_plainly true = refl
owes_plainly false = refl

yields_on : (p : UpgradePhase) (told : ActResult) → yields_plainly p ≡ true
    → yields_plainly (upgrade_table.next_phase p told) ≡ true
yields_on (UpgradePhase.YieldLoads false) (ActResult.Word word) so = refl
yields_on (UpgradePhase.YieldLoads false) told so = refl
yields_on (UpgradePhase.Yields false word) ActResult.Exchanged so = owes_plainly (is_parked word)
yields_on (UpgradePhase.Yields false word) (ActResult.Word now) so = refl
yields_on (UpgradePhase.Yields false word) told so = refl
yields_on (UpgradePhase.Owes Kept.Nothing answer core) told so = refl
yields_on (UpgradePhase.Ends Kept.Nothing answer) told so = ends told
  where
    ends : (s : ActResult) → yields_plainly (upgrade_table.own_next (UpgradePhase.Ends Kept.Nothing answer) s) ≡ true
    ends ActResult.Start = refl
    ends (ActResult.Word word) = refl
    ends ActResult.Exchanged = refl
    ends (ActResult.Before word) = refl
    ends s = refl
yields_on UpgradePhase.Invalid told so = astray told
  where
    astray : (s : ActResult) → yields_plainly (upgrade_table.own_next UpgradePhase.Invalid s) ≡ true
    astray ActResult.Start = refl
    astray (ActResult.Word word) = refl
    astray ActResult.Exchanged = refl
    astray (ActResult.Before word) = refl
    astray s = refl
yields_on p told so = absurd cc

next_plain : (timed : Bool) (k : Core) (told : ActResult) → is_plain timed k ≡ true
    → is_plain timed (core_next k told) ≡ true
next_plain timed (Core.Rw c) told so = refl
next_plain timed (Core.Mutex c) told so = refl
next_plain timed (Core.Late LatePhase.Expires) (ActResult.Woken token) so = refl
next_plain timed (Core.Late LatePhase.Expires) ActResult.Entered so = refl
next_plain timed (Core.Late LatePhase.Quits) (ActResult.Took token left) so = refl
next_plain timed (Core.Late LatePhase.Masks) (ActResult.Before word) so = refl
next_plain timed (Core.Late LatePhase.Leaves) ActResult.Made so = refl
next_plain timed (Core.Late (LatePhase.WasTaken by handed)) ActResult.Made so = refl
next_plain timed (Core.Late p) told so = refl
next_plain true (Core.LateRw p) told so = late_next_plain p told so
next_plain true (Core.Upgrade c) told so = yields_on c.phase told so
next_plain false k told so = absurd cc

pub follows_told : (c d : Call) (told : ActResult) → d.lock ≡ c.lock → d.others ≡ c.others → d.asked ≡ c.asked
    → d.core ≡ core_next c.core told → Follows c d
follows_told c d told lock others asked core = record {
  lock = lock;
  others = others;
  asked = asked;
  plain = λ timed so. ap (is_plain timed) core ∙ next_plain timed c.core told so;
}

-- one that has found that it was taken is of its kind
found_plain : (timed : Bool) (by : ℕ) (handed : Bool) (k : Core) → is_plain timed (found_as by handed k) ≡ is_plain
    timed k
found_plain timed by handed (Core.LateRw (LateRwPhase.Expires k)) = refl
found_plain timed by handed (Core.LateRw p) = refl
found_plain timed by handed k = refl

pub follows_heard : (c d : Call) → d.lock ≡ c.lock → d.others ≡ c.others → d.asked ≡ c.asked → Hears c.core d.core
    → Follows c d
follows_heard c d lock others asked (inl (told, core)) = follows_told c d told lock others asked core
follows_heard c d lock others asked (inr (by, handed, comes, core)) =
    record {
      lock = lock;
      others = others;
      asked = asked;
      plain = λ timed so.
          ap (is_plain timed) core ∙ found_plain timed by handed c.core ∙ so;
    }

-- WHERE A CALL COMES FROM

pub record Comes (o : Option Call) (d : Call) : Type 0 where
  pub call : Call
  pub was : o ≡ Some call
  pub follows : Follows call d

abbrev pub AllCome : List (Option Call) → List (Option Call) → Type 0
AllCome a b = (v : ℕ) (d : Call) → call_of b v ≡ Some d → Comes (call_of a v) d

-- a thread in no call stays so
abbrev pub RestStay : List (Option Call) → List (Option Call) → Type 0
RestStay a b = (v : ℕ) → call_of a v ≡ None → call_of b v ≡ None

pub record GoesOn (a b : List (Option Call)) : Type 0 where
  pub comes : AllCome a b
  pub rests : RestStay a b
  pub count : length b ≡ length a

pub slot : (calls : List (Option Call)) (t : ℕ) (c : Call) → call_of calls t ≡ Some c
    → slice_get calls t ≡ Some (Some c)
slot calls t c h = at (slice_get calls t) refl
  where
    at : (o : Option (Option Call)) → slice_get calls t ≡ o → slice_get calls t ≡ Some (Some c)
    at None e = absurd (none-some c (sym (ap (option_and_then (λ x. x)) e) ∙ h))
    at (Some x) e = e ∙ ap Some (sym (ap (option_and_then (λ y. y)) e) ∙ h)

stays_itself : (o : Option Call) (d : Call) → o ≡ Some d → Comes o d
stays_itself o d e = record { call = d; was = e; follows = follows_itself d d refl refl refl refl }

pub set_goes : (calls : List (Option Call)) (t : ℕ) (c d : Call) → call_of calls t ≡ Some c → Follows c d
    → GoesOn calls (slice_set calls t (Some d))
set_goes calls t c d here f = record {
  comes = λ v x at. elim (cases_eq v t) [
    | inl e ↦
        let same : d ≡ x =
        same_Some d x (sym (set_here calls t c (Some d) here) ∙ ap (call_of (slice_set calls t (Some d))) (sym e)
        ∙ at) in
        record { call = c; was = ap (call_of calls) e ∙ here; follows = subst (Follows c) same f }
    | inr ne ↦ stays_itself (call_of calls v) x (sym (set_elsewhere calls t v (Some d) ne) ∙ at)
  ];
  rests = λ v none. elim (cases_eq v t) [
    | inl e ↦ absurd (none-some c (sym none ∙ ap (call_of calls) e ∙ here))
    | inr ne ↦ set_elsewhere calls t v (Some d) ne ∙ none
  ];
  count = length-set calls t (Some d);
}

pub ends_goes : (calls : List (Option Call)) (t : ℕ) (c : Call) → call_of calls t ≡ Some c
    → GoesOn calls (slice_set calls t None)
ends_goes calls t c here = record {
  comes = λ v x at. elim (cases_eq v t) [
    | inl e ↦ absurd (none-some x (sym (set_here calls t c None here) ∙ ap (call_of (slice_set calls t None)) (sym e)
        ∙ at))
    | inr ne ↦ stays_itself (call_of calls v) x (sym (set_elsewhere calls t v None ne) ∙ at)
  ];
  rests = λ v none. elim (cases_eq v t) [
    | inl e ↦ absurd (none-some c (sym none ∙ ap (call_of calls) e ∙ here))
    | inr ne ↦ set_elsewhere calls t v None ne ∙ none
  ];
  count = length-set calls t None;
}

pub goes_then : (a b c : List (Option Call)) → GoesOn a b → GoesOn b c → GoesOn a c
goes_then a b c f g = record {
  comes = λ v d at. (let y = g.comes v d at in let x = f.comes v y.call y.was in
      record { call = x.call; was = x.was; follows = follows_then x.call y.call d x.follows y.follows });
  rests = λ v none. g.rests v (f.rests v none);
  count = g.count ∙ f.count;
}

pub map_of : (f : Call → Call) (calls : List (Option Call)) (v : ℕ) → call_of (map (option_map f) calls) v ≡ option_map
    f (call_of calls v)
map_of f calls v = ap (option_and_then (λ y. y)) (slice_get-map (option_map f) calls v) ∙ at (slice_get calls v)
  where
    at : (o : Option (Option Call)) → option_and_then (λ y. y) (option_map (option_map f) o) ≡ option_map f
        (option_and_then (λ y. y) o)
    at None = refl
    at (Some x) = refl

map_goes : (f : Call → Call) (calls : List (Option Call)) → ((c : Call) → Follows c (f c))
    → GoesOn calls (map (option_map f) calls)
map_goes f calls follows = record {
  comes = λ v d at. by (call_of calls v) d (sym (map_of f calls v) ∙ at);
  rests = λ v none. map_of f calls v ∙ ap (option_map f) none;
  count = length-map calls (option_map f);
}
  where
    by : (o : Option Call) (d : Call) → option_map f o ≡ Some d → Comes o d
    by None d e = absurd (none-some d e)
    by (Some c) d e = record { call = c; was = refl; follows = subst (Follows c) (same_Some (f c) d e) (follows c) }

pub set_nothing : (calls : List (Option Call)) (w : ℕ) (o : Option Call) → slice_get calls w ≡ None
    → slice_get (slice_set calls w o) w ≡ None
set_nothing [] w o e = refl
set_nothing (c ∷ cs) zero o e = absurd (none-some c (sym e))
set_nothing (c ∷ cs) (suc w) o e = set_nothing cs w o e

-- one that is taken off its list, if it is in a call
off_goes : (calls : List (Option Call)) (t w : ℕ)
    → GoesOn calls (slice_set calls w (option_map (off_list t) (call_of calls w)))
off_goes calls t w = at (call_of calls w) refl
  where
    at : (o : Option Call) → call_of calls w ≡ o → GoesOn calls (slice_set calls w (option_map (off_list t) o))
    at (Some c) e = set_goes calls w c (off_list t c) e (follows_itself c (off_list t c) refl refl refl refl)
    at None e = record {
      comes = λ v d there. elim (cases_eq v w) [
        | inl eq ↦ absurd
            (none-some d (sym (gone (slice_get calls w) refl) ∙ ap (call_of (slice_set calls w None)) (sym eq) ∙ there))
        | inr ne ↦ stays_itself (call_of calls v) d (sym (set_elsewhere calls w v None ne) ∙ there)
      ];
      rests = λ v none. elim (cases_eq v w) [
        | inl eq ↦ ap (call_of (slice_set calls w None)) eq ∙ gone (slice_get calls w) refl
        | inr ne ↦ set_elsewhere calls w v None ne ∙ none
      ];
      count = length-set calls w None;
    }
      where
        gone : (x : Option (Option Call)) → slice_get calls w ≡ x → call_of (slice_set calls w None) w ≡ None
        gone (Some y) e = ap (option_and_then (λ y. y)) (get-set_same calls w y None e)
        gone None e = ap (option_and_then (λ y. y)) (set_nothing calls w None e)

-- THE ACTS

-- everybody is told what a thread says to those that it has taken
settled_goes : (calls : List (Option Call)) (t : ℕ) (said : WakeResult)
    → GoesOn calls (map (option_map (settled t said)) calls)
settled_goes calls t said = map_goes (settled t said) calls
    (λ c. follows_itself c (settled t said c) refl refl refl refl)

module _ (s : State) (t : ℕ) (c : Call) (here : call_at s t ≡ Some c) where
  told : (k : ActResult) → GoesOn s.calls (slice_set s.calls t (Some (hears c k)))
  told k = set_goes s.calls t c (hears c k) here (follows_told c (hears c k) k refl refl refl refl)

  is : (u v : State) → u ≡ v → GoesOn s.calls v.calls → GoesOn s.calls u.calls
  is u v e h = subst (λ (x : State). GoesOn s.calls x.calls) (sym e) h

  either : (b : Bool) (u v : State) → GoesOn s.calls u.calls → GoesOn s.calls v.calls
      → GoesOn s.calls (cond b u v).calls
  either true u v h k = h
  either false u v h k = k

  abbrev said : ActResult → WakeResult → List (Option Call)
  said k r = map (option_map (settled t r)) (slice_set s.calls t (Some (hears c k)))

  says : (k : ActResult) (r : WakeResult) → GoesOn s.calls (said k r)
  says k r = goes_then s.calls (slice_set s.calls t (Some (hears c k))) (said k r) (told k) (settled_goes _ t r)

  joined : (d : Call) → d ≡ record (hears c ActResult.Made) { spot = QueuePosition.Listed }
      → GoesOn s.calls (slice_set s.calls t (Some d))
  joined d e = set_goes s.calls t c d here
      (follows_told c d ActResult.Made (ap (λ x. x.lock) e) (ap (λ x. x.others) e) (ap (λ x. x.asked) e)
      (ap (λ x. x.core) e))

  -- after another's call went on, its own does
  told_then : (w : ℕ) (o : Option Call) (k : ActResult) → GoesOn s.calls (slice_set s.calls w o)
      → GoesOn s.calls (slice_set (slice_set s.calls w o) t (Some (hears c k)))
  told_then w o k g = record {
    comes = λ v d at. elim (cases_eq v t) [
      | inl e ↦ record {
        call = c;
        was = ap (call_of s.calls) e ∙ here;
        follows = (let same : hears c k ≡ d = at_own v d e at in follows_told c d k (sym (ap (λ x. x.lock) same))
            (sym (ap (λ x. x.others) same)) (sym (ap (λ x. x.asked) same)) (sym (ap (λ x. x.core) same)));
      }
      | inr ne ↦ g.comes v d (sym (set_elsewhere (slice_set s.calls w o) t v (Some (hears c k)) ne) ∙ at)
    ];
    rests = λ v none. elim (cases_eq v t) [
      | inl e ↦ absurd (none-some c (sym none ∙ ap (call_of s.calls) e ∙ here))
      | inr ne ↦ set_elsewhere (slice_set s.calls w o) t v (Some (hears c k)) ne ∙ g.rests v none
    ];
    count = length-set (slice_set s.calls w o) t (Some (hears c k)) ∙ g.count;
  }
    where
      there : (x : Option (Option Call)) → slice_get (slice_set s.calls w o) t ≡ x → (d : Call)
          → call_of (slice_set (slice_set s.calls w o) t (Some (hears c k))) t ≡ Some d → hears c k ≡ d
      there (Some y) e d at =
          same_Some (hears c k) d
          (sym (ap (option_and_then (λ y. y)) (get-set_same (slice_set s.calls w o) t y (Some (hears c k)) e)) ∙ at)
      there None e d at =
          absurd (none-some d
          (sym (ap (option_and_then (λ y. y)) (set_nothing (slice_set s.calls w o) t (Some (hears c k)) e)) ∙ at))

      at_own : (v : ℕ) (d : Call) → v ≡ t → call_of (slice_set (slice_set s.calls w o) t (Some (hears c k))) v ≡ Some d
          → hears c k ≡ d
      at_own v d e at = there (slice_get (slice_set s.calls w o) t) refl d
          (ap (call_of (slice_set (slice_set s.calls w o) t (Some (hears c k)))) (sym e) ∙ at)

  goes_inside : (k : SectionAct) (fair : Bool) (u : State) → BecameInside k t fair c s u → GoesOn s.calls u.calls
  goes_inside SectionAct.Check fair u e = is u _ e (told _)
  goes_inside SectionAct.TakeFirst fair u (k, stands, inl (nth, w, first, e)) =
      is u _ e (told_then w.thread _ _ (off_goes s.calls t w.thread))
  goes_inside SectionAct.TakeFirst fair u (k, stands, inr (empty, e)) = is u _ e (told _)
  goes_inside (SectionAct.TakeNext sum) fair u (k, stands, inl (nth, w, first, e)) =
      is u _ e (told_then w.thread _ _ (off_goes s.calls t w.thread))
  goes_inside (SectionAct.TakeNext sum) fair u (k, stands, inr (empty, e)) = is u _ e (told _)
  goes_inside (SectionAct.Append token) fair u (k, stands, e) = is u _ e (joined _ refl)
  goes_inside (SectionAct.Store plain handing) fair u e = is u _ e (says _ _)
  goes_inside SectionAct.Leave fair u e = is u _ e (told _)
  goes_inside SectionAct.Wake fair u (inr (gone, is_it)) = is u _ is_it (told _)
  goes_inside SectionAct.Wake fair u (inl (e, d, token, due, is_it)) =
      is u _ is_it (told_then e.thread _ _
      (set_goes s.calls e.thread d _ due.there (follows_told d _ (ActResult.Woken token) refl refl refl refl)))

  goes : (a : Act) (fair : Bool) (u : State) → Became a t fair c s u → GoesOn s.calls u.calls
  goes Act.Load fair u e = is u _ e (told _)
  goes (Act.Exchange from to) fair u e = is u _ e (either _ _ _ (told _) (told _))
  goes (Act.Add by) fair u e = is u _ e (told _)
  goes (Act.FetchAnd keep) fair u e = is u _ e (says _ _)
  goes Act.Spin fair u e = is u _ e (told _)
  goes (Act.Enter key) fair u e = is u _ e (told _)
  goes (Act.Section next) fair u b = goes_inside next fair u b
  goes Act.Sleep fair u b = let l = late_is s u t c c.core refl b in
      is u _ l.3 (set_goes s.calls t c l.0 here (follows_heard c l.0 l.4 l.5 l.6 l.7))
  goes (Act.Done answer) fair u e = is u _ e (ends_goes s.calls t c here)

pub stepped_goes : (s u : State) (t : ℕ) (fair : Bool) (answer : Option CoreAnswer) → IsStepped t fair answer s u
    → GoesOn s.calls u.calls
stepped_goes s u t fair answer x = goes s t x.call x.here (core_act x.call.core) fair u x.became
