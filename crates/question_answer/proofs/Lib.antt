-- The first line of a text and what follows it; logs against the formula; moments of a run; why the
-- answers are right; and models that are kept.
mod TitleLemmas
mod TextLemmas
mod CheckLemmas
mod MomentLemmas
mod AnswerLemmas
mod KeptLemmas
