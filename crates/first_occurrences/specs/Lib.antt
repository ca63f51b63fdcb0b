-- First occurrences in a run, what an enactment lacks, the assignments that report both, what holds
-- of these in a legal run, and what follows for each property.
pub mod Occurrence
pub mod Report
pub mod Shown
pub mod Lacking
pub mod Laws
pub mod Headline
