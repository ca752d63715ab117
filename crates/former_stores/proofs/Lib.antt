pub mod Formers
pub mod Kept
pub mod Laid
