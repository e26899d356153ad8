pub mod lemmas
mod Increasing
mod Known
mod Orders
mod Least
mod Ways
mod UnitsExist
mod OrdersExist
