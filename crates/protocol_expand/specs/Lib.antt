-- The definitions that the contracts cite, in reading order: the expansion of a protocol of
-- messages alone, the protocol of a name, its expansion, why there is none, its text, the laws, and
-- why an expansion is not admitted.
pub mod FlatExpansion
pub mod WellScoped
pub mod Canonical
pub mod FlatLaws
pub mod Request
pub mod Expansion
pub mod Repeats
pub mod Refusals
pub mod Printed
pub mod Laws
pub mod NotAdmitted
-- what private functions alone cite
pub mod inner
