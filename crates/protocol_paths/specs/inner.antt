-- What private functions alone cite.
pub mod AddsEach
pub mod AddsEnds
pub mod Tables
pub mod Links
pub mod OwnWords
pub mod ScopeOf
