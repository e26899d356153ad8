mod KeyLemmas
mod TestLemmas
pub mod SeenLemmas
pub mod KindLemmas
pub mod UseLemmas
pub mod EditLemmas
pub mod ResultLemmas
pub mod ReadLemmas
pub mod ChangeLemmas
pub mod FollowLemmas
pub mod SlotChangeLemmas
pub mod OutputLemmas
pub mod ArgumentLemmas
mod SlotLemmas
mod NodeLemmas
mod NameLemmas
mod CellLemmas
mod SiteLemmas
mod MoveLemmas
mod RowLemmas
mod StoredLemmas
mod MadeLemmas
