pub mod Reasons
pub mod Pairs
pub mod Causes
pub mod Alike
pub mod Hits
pub mod Tellings
pub mod Right
pub mod Asking
