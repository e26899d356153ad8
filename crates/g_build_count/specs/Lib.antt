pub mod Values
pub mod ScopeViews
pub mod ScopeHeight
pub mod ExitsViews
pub mod Weights
