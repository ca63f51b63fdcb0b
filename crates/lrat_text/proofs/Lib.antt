-- Literals and sets of them; a chain from its last link back; the lines of a log; what they refute.
pub mod Literals
pub mod LitSetLemmas
pub mod ChainEnd
pub mod HintLemmas
pub mod LineLemmas
pub mod ProofLemmas
pub mod Soundness
