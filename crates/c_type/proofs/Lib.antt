pub mod lemmas
mod StructLemmas
mod SizeLemmas
mod LeafLemmas
mod MemberLemmas
mod Indices
mod LayLemmas
mod Defined
mod Order
mod Good
mod MovedLemmas
mod WorkLemmas
mod NormalLemmas
mod PendingLemmas
