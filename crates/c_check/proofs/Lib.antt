mod DefinedLemmas
mod ExternalLemmas
mod FunctionLemmas
mod LimitLemmas
mod SlotLemmas
pub mod ParamLemmas
pub mod LoneLemmas
pub mod BindLemmas
pub mod AgreeLemmas
pub mod NameLemmas
pub mod TypeLemmas
pub mod LaidLemmas
pub mod KeptLemmas
pub mod StructLemmas
pub mod LargeLemmas
pub mod MemberLemmas
