mod CommandLemmas
mod CommandRowsLemmas
mod OneShown
mod Replays
mod Given
mod SweepsAdd
