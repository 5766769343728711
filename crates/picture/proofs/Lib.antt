pub mod Marks
pub mod Pieces
pub mod Texts
pub mod Endings
pub mod Right
pub mod Answers
