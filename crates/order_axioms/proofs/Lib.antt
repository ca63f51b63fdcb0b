-- Lists in pieces; where the pieces of an order start; its variables, and which kinds they are of;
-- the numbers of its clauses, and the cycles that they forbid.
pub mod PieceLemmas
pub mod StartLemmas
pub mod VariableLemmas
pub mod NumberLemmas
pub mod CycleLemmas
pub mod PairLemmas
pub mod CoverLemmas
pub mod EmptyLemmas
pub mod MemberLemmas
