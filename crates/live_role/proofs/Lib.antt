pub mod OpeningLemmas
pub mod ReadingLemmas
pub mod BegunLemmas
pub mod JudgedLemmas
pub mod CallLemmas
