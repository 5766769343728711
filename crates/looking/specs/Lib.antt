pub mod Refusals
pub mod Looked
pub mod Seeing
