pub mod LogLemmas
pub mod StoreLemmas
