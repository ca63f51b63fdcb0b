-- The variables come first, then what the clauses speak of, a definition for each family of
-- clauses, the formulas, and the laws.
pub mod Variables
pub mod Carriers
pub mod Families
pub mod Rivals
pub mod Rest
pub mod Formula
pub mod Ordered
pub mod Laws
pub mod inner
