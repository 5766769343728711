pub mod Picture
pub mod Drawn
pub mod Meaning
pub mod Linking
pub mod Putting
pub mod Examples
