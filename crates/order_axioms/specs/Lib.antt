-- The clauses of an order, and formulas that begin with them.
pub mod Order
pub mod Cycles
pub mod Formula
pub mod inner
