-- What events make known, the first value known, and what an emission demands.
mod ValueLemmas
mod KnowledgeLemmas
mod EmissionLemmas
mod OneAnswer
