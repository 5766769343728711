pub mod Picked
pub mod Taken
pub mod Lowest
pub mod Linking
pub mod Links
pub mod Followed
pub mod Fits
pub mod Right
