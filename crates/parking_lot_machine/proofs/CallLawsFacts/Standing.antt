-- A call that is led on ends only as one that began so may.
use Rattle.std.proofs.Common.{◌≡◌, inl, inr, ℕ, Bool, true, refl, sym, ap, ◌∙◌, subst}
use Rattle.parking_lot_protocol.specs.declared.act.CoreAnswer.{CoreAnswer}
use Rattle.parking_lot_protocol.specs.declared.act.CoreAnswer.TheVariants.{Owned, Refused, Released}
use Rattle.parking_lot_machine_calls.specs.declared.calls.LockCall.{LockCall}
use Rattle.parking_lot_machine_calls.specs.declared.calls.LockCall.TheVariants as call
use Rattle.parking_lot_machine.specs.CallLaws.Answers.{EndsAt, MayStand, is_beginning, may_end}
use Rattle.parking_lot_machine.specs.CallLaws.Stages.{Asks, Frees, Leads, Over, Quits, Reaches, Stage, Tries, Turns}
use Rattle.parking_lot_machine.specs.CallLaws.Stages.{quits, stage_of}

from_there : (n : ℕ) (start to : Stage) (late : Bool) → is_beginning start ≡ true → Reaches n start to
    → MayStand n start late to
from_there n (Asks m from) (Over Owned h) late is r = inr (inr (refl, r))
from_there n (Tries m from) (Over Owned h) late is r = inr (inr (refl, r))
from_there n (Tries m from) (Over Refused h) late is r = inr (inr (refl, r))
from_there n (Frees all) (Over Released h) late is r = inr (inr (refl, r))
from_there n (Turns m) (Over Owned h) late is r = inr (inr (refl, r))
from_there n (Quits m from) to late is r = absurd cc
from_there n start to late is r = absurd r

from_quitting : (n : ℕ) (start to : Stage) (late : Bool) → is_beginning start ≡ true → late ≡ true
    → Reaches n (quits start) to → MayStand n start late to
from_quitting n (Asks m from) (Asks k back) late is came (mode, held) =
    inl (ap (λ x. Asks x back) mode ∙ ap (Asks m) held)
from_quitting n (Asks m from) (Over Owned h) late is came r = inr (inr (refl, r))
from_quitting n (Asks m from) (Over Refused h) late is came r = inr (inr (came, r))
from_quitting n (Asks m from) (Over Released h) late is came r = inr (inr (came, r))
from_quitting n (Asks m from) to late is came r = absurd r
from_quitting n (Tries m from) to late is came r = from_there n (Tries m from) to late is r
from_quitting n (Frees all) to late is came r = from_there n (Frees all) to late is r
from_quitting n (Turns m) to late is came r = from_there n (Turns m) to late is r
from_quitting n start to late is came r = absurd cc

from_end : (n : ℕ) (start at to : Stage) (late : Bool) → EndsAt n start late at → Reaches n at to
    → MayStand n start late to
from_end n start (Over answer h) to late ends r = absurd r
from_end n start at to late ends r = absurd ends

pub stands_on : (n : ℕ) (start at to : Stage) (late : Bool) → is_beginning start ≡ true → MayStand n start late at
    → Leads n at to → MayStand n start late to
stands_on n start at to late is stands (inl e) = subst (MayStand n start late) (sym e) stands
stands_on n start at to late is (inl e) (inr r) =
    from_there n start to late is (subst (λ (x : Stage). Reaches n x to) e r)
stands_on n start at to late is (inr (inl (came, e))) (inr r) = from_quitting n start to late is came
    (subst (λ (x : Stage). Reaches n x to) e r)
stands_on n start at to late is (inr (inr ends)) (inr r) = from_end n start at to late ends r

quits_still : (start : Stage) → quits (quits start) ≡ quits start
quits_still (Asks m from) = refl
quits_still (Tries m from) = refl
quits_still (Quits m from) = refl
quits_still (Frees all) = refl
quits_still (Turns m) = refl
quits_still (Over answer h) = refl

late_may : (start : Stage) (late : Bool) (answer : CoreAnswer) → may_end start late answer ≡ true
    → may_end start true answer ≡ true
late_may (Asks m from) late Owned e = refl
late_may (Asks m from) late Refused e = refl
late_may (Asks m from) late Released e = refl
late_may (Tries m from) late Owned e = refl
late_may (Tries m from) late Refused e = refl
late_may (Frees all) late Released e = refl
late_may (Turns m) late Owned e = refl
late_may start late answer e = absurd cc

ends_late : (n : ℕ) (start at : Stage) (late : Bool) → EndsAt n start late at → EndsAt n start true (quits at)
ends_late n start (Over answer h) late (may, held) = (late_may start late answer may, held)
ends_late n start at late ends = absurd ends

pub stands_late : (n : ℕ) (start at : Stage) (late : Bool) → MayStand n start late at → MayStand n start true (quits at)
stands_late n start at late (inl e) = inr (inl (refl, ap quits e))
stands_late n start at late (inr (inl (came, e))) = inr (inl (refl, ap quits e ∙ quits_still start))
stands_late n start at late (inr (inr ends)) = inr (inr (ends_late n start at late ends))

-- what it is answered where it is over
pub ends_so : (n : ℕ) (start at : Stage) (late : Bool) (answer : CoreAnswer) (h : _) → is_beginning start ≡ true
    → MayStand n start late at → at ≡ Over answer h → EndsAt n start late (Over answer h)
ends_so n start at late answer h is (inl e) over = absurd (no_end start is (sym e ∙ over))
  where
    no_end : (s : Stage) → is_beginning s ≡ true → s ≡ Over answer h → ⊥
    no_end s is e = cc
ends_so n start at late answer h is (inr (inl (came, e))) over = absurd (no_end start is (sym e ∙ over))
  where
    no_end : (s : Stage) → is_beginning s ≡ true → quits s ≡ Over answer h → ⊥
    no_end (Asks m from) is e = cc
    no_end (Tries m from) is e = cc
    no_end (Frees all) is e = cc
    no_end (Turns m) is e = cc
    no_end s is e = cc
ends_so n start at late answer h is (inr (inr ends)) over = subst (EndsAt n start late) over ends

pub begins_so : (c : LockCall) → is_beginning (stage_of c) ≡ true
begins_so call.Lock = refl
begins_so call.TryLock = refl
begins_so call.LockUntil = refl
begins_so call.Unlock = refl
begins_so call.Read = refl
begins_so call.TryRead = refl
begins_so call.UnlockRead = refl
begins_so call.Write = refl
begins_so call.TryWrite = refl
begins_so call.UnlockWrite = refl
begins_so call.Downgrade = refl
begins_so call.UpgradableRead = refl
begins_so call.TryUpgradableRead = refl
begins_so call.UnlockUpgradable = refl
begins_so call.Upgrade = refl
begins_so call.TryUpgrade = refl
begins_so call.DowngradeToUpgradable = refl
begins_so call.DowngradeUpgradable = refl
begins_so call.ReadUntil = refl
begins_so call.WriteUntil = refl
begins_so call.UpgradableUntil = refl
begins_so call.UpgradeUntil = refl
