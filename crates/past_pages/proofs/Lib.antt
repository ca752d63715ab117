pub mod Told
pub mod StillReads
pub mod Failing
pub mod Alike
pub mod PageReads
pub mod DocumentReads
pub mod Laid
pub mod CopyReads
