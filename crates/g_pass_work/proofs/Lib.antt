pub mod lemmas
mod Beside
mod Numbers
mod WholeList
mod OneJob
mod Crosses
mod Rows
mod Settled
mod ByRank
mod Changed
mod RankByRank
mod Unstale
mod Answered
