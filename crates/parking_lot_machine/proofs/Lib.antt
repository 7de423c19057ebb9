mod KindTable
pub mod Sleepers
mod Making
mod Meeting
mod Calling
mod Holding
mod OwnMoves
mod Crossings
mod Owning
mod Knowing
mod Ruling
mod NthTaken
mod Agreeing
mod Losing
pub mod InTime
pub mod Serving
mod Spinning
mod Bounding
mod Queueing
mod Moves
pub mod Cases
mod Indebting
mod UpgradeOwning
mod RwCalls
mod RwSleeps
mod RwScans
mod RwTells
mod OwnActs
mod WakesKept
mod UpgradeMoving
mod UpgradeKeeping
mod UpgradeParts
mod UpgradeGoing
pub mod RwMoving
pub mod RwTaking
pub mod Carrying
pub mod Indexing
pub mod LotActs
pub mod LotLists
pub mod RwWaking
pub mod MutexRoles
pub mod MutexMoving
pub mod Beginning
pub mod LotTakes
pub mod LotWakes
pub mod LotSound
pub mod LotKept
pub mod LotCalls
pub mod WakesActs
pub mod Viewing
pub mod NextTaken
pub mod LotStarts
mod BucketNumbers
pub mod ScanRoom
pub mod RwKeeping
pub mod RwCrossing
mod Passing
mod Starting
pub mod Acting
pub mod Requesting
pub mod Stepping
mod TakeJoins
mod TakeParts
mod Wanting
mod TakeSleepers
mod TakeFirst
mod TakeNext
mod PassingOn
mod TakeActs
mod TakeLaws
mod Settling
mod Telling
mod MutexTelling
mod Rousing
pub mod Resting
mod Resuming
mod TellActs
pub mod RwTelling
pub mod Woken
pub mod Takings
mod MutexPaying
mod RwPaying
mod UpgradePaying
mod Summing
mod Paying
pub mod WakesPaying
pub mod LateLots
mod LateQuits
mod LateKinds
mod LateRules
pub mod LateActs
pub mod LateCalls
pub mod RequeueRuns
mod RequeueSound
mod Requeueing
mod RequeueLots
mod RequeueCosts
mod RequeueActs
mod RequeueMoves
mod RequeueMays
mod RequeueCases
mod Takers
mod RwPasses
mod WakesRoom
mod WakesNobody
mod TakersOut
mod LotNobody
mod LateFinds
mod LateTaken
pub mod CallLawsFacts
