pub mod InnerFollowing
pub mod SectionFollowing
pub mod UpgradeFollowing
pub mod UpgradeLooking
pub mod UpgradeWords
pub mod TimedFacts
