pub mod Renewal
pub mod StaleJobs
pub mod Kept
pub mod Stale
pub mod Ranks
pub mod Laws
pub mod Jobs
