-- What contracts see of a desk, the rules of its job, when it is kept, and what its steps do; the
-- same of a role's state, which is a desk with passes to the mailboxes, and of a worker, which takes
-- a role's turns; what holds of them.
pub mod Desk
pub mod Rules
pub mod Pending
pub mod Kept
pub mod Next
pub mod Steps
pub mod Posted
pub mod State
pub mod Worker
pub mod StateSteps
pub mod Laws
pub mod inner
