-- What private functions alone cite.
pub mod DeclaredNames
pub mod IndexMap
pub mod OtherFault
