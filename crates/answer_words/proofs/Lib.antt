-- Lemmas of the crate: on texts, distances, choices, lines, ways, names and the words of a refusal;
-- on what verdicts name, the lines of producers, and the words of verdicts.
pub mod TextLemmas
pub mod DistanceLemmas
pub mod ChoiceLemmas
pub mod ExclusionLemmas
pub mod WayLemmas
pub mod NamingLemmas
pub mod DetailLemmas
pub mod RefusalLemmas
pub mod NamedLemmas
pub mod ProducerLemmas
pub mod WordLemmas
