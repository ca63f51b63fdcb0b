-- What `parse` and `print` promise, in reading order; then what only private functions cite.
pub use Rattle.bspl_types.specs.Name
pub mod Symbol
pub mod Token
pub mod Tokens
pub mod Refused
pub mod Separated
pub mod Sign
pub mod Grammar
pub mod Spelling
pub mod Judgement
pub mod Layout
pub mod Alike
pub mod inner
