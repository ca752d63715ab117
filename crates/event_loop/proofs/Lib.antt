pub mod StopLemmas
pub mod GestureLemmas
pub mod ImageRead
pub mod UnreadEvents
pub mod FilingSteps
pub mod Stepping
pub mod LossLemmas
pub mod CopyLemmas
mod StaleLemmas
