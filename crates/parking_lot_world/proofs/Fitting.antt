-- Answers fit their calls where their ends do.
use Rattle.std.proofs.Common.{◌≡◌, ◌&&◌, ◌||◌, Bool, true, false, cond, refl}
use Rattle.parking_lot_machine.specs.CallLaws.Answers.{may_end}
use Rattle.parking_lot_machine.specs.CallLaws.Stages.{Asks, Frees, Tries, Turns, stage_of}
use Rattle.parking_lot_protocol.specs.declared.act.CoreAnswer.{CoreAnswer}
use Rattle.parking_lot_protocol.specs.declared.act.CoreAnswer.TheVariants.{Owned, Refused, Released}
use Rattle.parking_lot_machine_calls.specs.Calls.{is_timed}
use Rattle.parking_lot_machine_calls.specs.declared.calls.LockCall.{LockCall}
use Rattle.parking_lot_machine_calls.specs.declared.calls.LockCall.TheVariants as call
use Rattle.parking_lot_machine_calls.specs.declared.calls.OwnMode.{OwnMode}
use Rattle.parking_lot_world.specs.WorldAnswers.{is_owned, is_refused, is_released, is_timed_out, may_answer}
use Rattle.parking_lot_world.specs.WorldCalls.{of_core, of_timed}

asks : (m : OwnMode) (from late : Bool) (a : CoreAnswer) → may_end (Asks m from) false a ≡ true
    → is_owned (of_core a) ≡ true
asks m from late Owned e = refl
asks m from late Refused e = absurd cc
asks m from late Released e = absurd cc

tries : (m : OwnMode) (from late : Bool) (a : CoreAnswer) → may_end (Tries m from) late a ≡ true → is_owned (of_core a)
    || is_refused (of_core a) ≡ true
tries m from late Owned e = refl
tries m from late Refused e = refl
tries m from late Released e = absurd cc

until : (m : OwnMode) (from late : Bool) (a : CoreAnswer) → may_end (Asks m from) late a ≡ true → is_owned (of_timed a)
    || (late && is_timed_out (of_timed a)) ≡ true
until m from late Owned e = refl
until m from true Refused e = refl
until m from false Refused e = absurd cc
until m from true Released e = refl
until m from false Released e = absurd cc

frees : (all late : Bool) (a : CoreAnswer) → may_end (Frees all) late a ≡ true → is_released (of_core a) ≡ true
frees all late Released e = refl
frees all late Owned e = absurd cc
frees all late Refused e = absurd cc

turns : (m : OwnMode) (late : Bool) (a : CoreAnswer) → may_end (Turns m) late a ≡ true → is_owned (of_core a) ≡ true
turns m late Owned e = refl
turns m late Refused e = absurd cc
turns m late Released e = absurd cc

pub answers_fit : (c : LockCall) (late : Bool) (a : CoreAnswer) → may_end (stage_of c) (is_timed c && late) a ≡ true
    → may_answer c late (cond (is_timed c) (of_timed a) (of_core a)) ≡ true
answers_fit call.Lock late a e = asks OwnMode.Exclusive false late a e
answers_fit call.TryLock late a e = tries OwnMode.Exclusive false false a e
answers_fit call.LockUntil late a e = until OwnMode.Exclusive false late a e
answers_fit call.Unlock late a e = frees true false a e
answers_fit call.Read late a e = asks OwnMode.Shared false late a e
answers_fit call.TryRead late a e = tries OwnMode.Shared false false a e
answers_fit call.UnlockRead late a e = frees false false a e
answers_fit call.Write late a e = asks OwnMode.Exclusive false late a e
answers_fit call.TryWrite late a e = tries OwnMode.Exclusive false false a e
answers_fit call.UnlockWrite late a e = frees true false a e
answers_fit call.Downgrade late a e = turns OwnMode.Shared false a e
answers_fit call.UpgradableRead late a e = asks OwnMode.Upgradable false late a e
answers_fit call.TryUpgradableRead late a e = tries OwnMode.Upgradable false false a e
answers_fit call.UnlockUpgradable late a e = frees true false a e
answers_fit call.Upgrade late a e = asks OwnMode.Exclusive true late a e
answers_fit call.TryUpgrade late a e = tries OwnMode.Exclusive true false a e
answers_fit call.DowngradeToUpgradable late a e = turns OwnMode.Upgradable false a e
answers_fit call.DowngradeUpgradable late a e = turns OwnMode.Shared false a e
answers_fit call.ReadUntil late a e = until OwnMode.Shared false late a e
answers_fit call.WriteUntil late a e = until OwnMode.Exclusive false late a e
answers_fit call.UpgradableUntil late a e = until OwnMode.Upgradable false late a e
answers_fit call.UpgradeUntil late a e = until OwnMode.Exclusive true late a e
