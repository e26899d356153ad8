pub mod ElfFault
pub mod Header
pub mod Image
pub mod ImageView
pub mod Laws
pub mod Loading
pub mod Segments
pub mod Written
