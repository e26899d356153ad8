pub mod Answered
pub mod TaskViews
