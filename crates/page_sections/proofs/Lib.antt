-- Groups of fragments, the rows of the table of values, and the rules.
pub mod GroupLemmas
pub mod IndexLemmas
pub mod ValueLemmas
pub mod RuleLemmas
pub mod WritingLemmas
