mod Appends
mod WrittenLemmas
mod LoadingLemmas
mod SoundLemmas
mod ReadBack
pub mod lemmas
mod SegmentLemmas
