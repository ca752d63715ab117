pub mod Poured
pub mod Paragraphs
pub mod Filled
