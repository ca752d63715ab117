pub mod OpeningLemmas
pub mod ReadFirst
pub mod StoredLemmas
pub mod StoringLemmas
pub mod RewritingLemmas
pub mod CallLemmas
pub mod LogLemmas
