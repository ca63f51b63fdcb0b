-- What private functions alone cite.
pub mod IfSafe
pub mod Job
pub mod Restart
pub mod Serve
