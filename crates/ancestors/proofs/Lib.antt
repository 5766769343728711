pub mod Standing
pub mod Gathering
pub mod Joining
pub mod Right
pub mod Searching
pub mod Numbers
