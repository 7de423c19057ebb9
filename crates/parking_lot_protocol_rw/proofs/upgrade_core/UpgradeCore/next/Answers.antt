use Rattle.parking_lot_protocol_rw.proofs.UpgradeFollowing.{upgrade_ends, upgrade_follows}
use Rattle.parking_lot_protocol_rw.proofs.upgrade_core.UpgradeCore.next.Goals as goal

pub returns-clause-rules : goal.returns-clause-rules
returns-clause-rules c = upgrade_follows _ _

pub returns-clause-end : goal.returns-clause-end
returns-clause-end c = upgrade_ends _
