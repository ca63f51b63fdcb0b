-- Written fragments, strokes event by event and what they show, and what events make known.
pub mod ArrowLemmas
pub mod IndexLemmas
pub mod KnowledgeLemmas
pub mod KnownLemmas
pub mod ShownLemmas
pub mod StrokeLemmas
pub mod WritingLemmas
