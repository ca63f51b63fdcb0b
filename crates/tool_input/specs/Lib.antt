-- What is read of an input, in the order in which it is read: its parts, the protocol that its text
-- declares, and why it is refused.
pub mod Lines
pub mod Parts
pub mod NeededPart
pub mod Input
pub mod TextRefusal
pub mod Rejection
pub mod MessageName
pub mod RoleName
pub mod UndeclaredName
pub mod Laws
pub mod Status
-- What a program of commands promises, in the order in which it is read: a command's rules, the
-- program's interface, what one call writes, and what the code of a program has to keep.
pub mod Need
pub mod Rules
pub mod Interface
pub mod Refusals
pub mod Output
pub mod Call
pub mod Request
pub mod Answer
pub mod Error
pub mod TaskLaws
