pub mod AppReads
pub mod ReadingLemmas
