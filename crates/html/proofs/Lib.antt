-- Templates that are filled, fragments one after another, lists with indices, and the marks of a page.
pub mod HoleLemmas
pub mod IndexLemmas
pub mod MarkupLemmas
pub mod TemplateLemmas
pub mod WritingLemmas
