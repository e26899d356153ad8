pub mod Stays
pub mod Taken
mod LeavingNode
pub mod Gammas
mod Thetas
mod Placed
pub mod Replaced
mod CarriedFit
mod TwoFit
mod RegionsFit
mod LeftFit
mod Resized
mod Kept
mod Counted
mod Saturated
pub mod Listed
pub mod Indexed
mod Examples
mod Around
mod Grown
mod Pushed
mod Rooms
mod Inner
mod Tested
mod Node
mod Walks
mod WalkExamples
mod Along
mod Exits
mod Growth
mod LeftOut
