pub mod Bodies
pub mod Globals
pub mod Passed
pub mod Answer
pub mod Variables
pub mod LabelViews
pub mod LabelParts
pub mod Segments
