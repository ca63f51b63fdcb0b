-- The order of keys, and that of events; what private functions cite is last.
pub mod KeyOrder
pub mod EventOrder
pub mod inner
