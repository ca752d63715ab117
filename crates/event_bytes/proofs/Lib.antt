pub mod EventParts
pub mod Names
pub mod PartLaws
