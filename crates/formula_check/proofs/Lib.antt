-- The outputs of a call, from its replies, and what their statuses say.
pub mod ReplyLemmas
pub mod StatusLemmas
