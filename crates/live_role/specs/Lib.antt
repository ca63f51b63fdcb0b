-- What one call promises; then what the arguments request, what is read before a role is served,
-- when it is not, and how it begins with a journal; what private functions cite is last.
pub mod Call
pub mod Serving
pub mod Request
pub mod Wire
pub mod Opening
pub mod Judgement
pub mod Journal
pub mod RefusedJournal
pub mod End
pub mod inner
