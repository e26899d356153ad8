pub mod lemmas
mod Found
mod Gone
mod Returns
