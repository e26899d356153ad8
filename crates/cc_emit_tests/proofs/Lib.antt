mod Programs
mod Runs
mod Kept
