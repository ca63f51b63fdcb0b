pub mod Reading
pub mod Request
