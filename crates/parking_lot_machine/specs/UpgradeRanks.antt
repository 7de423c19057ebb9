-- How many steps an upgradable call has left.
use Rattle.std.specs.Prelude.{◌≡◌, ℕ, ◌+◌, ◌/◌, ◌^◌, ◌-◌, ◌<◌, ◌≤◌}
use Rattle.parking_lot_core_model.specs.declared.parking.UnparkToken.{UnparkToken}
use Rattle.parking_lot_protocol.specs.Acts.{Gives, word_after}
use Rattle.parking_lot_protocol.specs.declared.act.Act.TheVariants as act
use Rattle.parking_lot_protocol.specs.declared.act.SectionAct.TheVariants as section
use Rattle.parking_lot_protocol.specs.declared.act.CoreAnswer.{CoreAnswer}
use Rattle.parking_lot_protocol.specs.declared.act.ActResult.{ActResult}
use Rattle.parking_lot_protocol.specs.declared.act.ActResult.TheVariants as seen
use Rattle.parking_lot_protocol_rw.specs.declared.upgrade_phase.UpgradePhase.{UpgradePhase}
use Rattle.parking_lot_protocol_rw.specs.UpgradeRules.{IsReady}
use Rattle.parking_lot_protocol_rw.specs.UpgradeTable.{act_of, next_phase}
use Rattle.parking_lot_machine.specs.RankLaws.{Can, Leaves, StopsAt}
use Rattle.parking_lot_machine.specs.Ranks.{View, Sees, Shut, Unseen, upgrade_steps, wake}
use Rattle.parking_lot_machine_calls.specs.CallKinds.{IsOfWorld}
use Rattle.parking_lot_machine_calls.specs.Stances.{upgrade_stance, upgrade_taken}

-- Each act of such a call lowers the steps that are left of it, as long as no reader count is at its limit; and what
-- others see of them is as it is of calls of shared and exclusive holds.
pub record UpgradeStepsFall : Type 0 where
  pub falls : (n : ℕ) (p : UpgradePhase) (s : ActResult) (word first after : ℕ) (shut : Shut) → word / 16 < 2 ^ 60 - 1
      → IsReady p → IsOfWorld p → Gives (act_of p) word s → Can (upgrade_stance p) (act_of p) shut s
      → Leaves (act_of p) s first after
      → upgrade_steps n (Sees (word_after (act_of p) s word) after shut) (next_phase p s) + 1 ≤ upgrade_steps n
      (Sees word first shut) p
  pub wakes : (n : ℕ) (p : UpgradePhase) (v : View) → IsReady p → IsOfWorld p → act_of p ≡ act.Section section.Wake
      → 1 ≤ upgrade_taken p → upgrade_steps n v (next_phase p seen.Made) + wake ≤ upgrade_steps n v p
  pub woken : (n : ℕ) (p : UpgradePhase) (token : UnparkToken) → IsReady p → IsOfWorld p
      → upgrade_steps n Unseen (next_phase p (seen.Woken token)) + 1 ≤ upgrade_steps n Unseen p + wake
  pub few : (n word first : ℕ) (shut : Shut) (p : UpgradePhase) → first ≤ n → upgrade_steps n (Sees word first shut) p ≤
      upgrade_steps n Unseen p
  pub stops : (n : ℕ) (p : UpgradePhase) (word first : ℕ) (shut : Shut) → StopsAt (act_of p) shut
      → upgrade_steps n Unseen p ≤ upgrade_steps n (Sees word first shut) p
  pub ends : (n : ℕ) (p : UpgradePhase) (v : View) (answer : CoreAnswer) → act_of p ≡ act.Done answer
      → 1 ≤ upgrade_steps n v p
