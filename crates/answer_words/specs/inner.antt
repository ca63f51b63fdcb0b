-- What only private functions cite.
pub mod Common
pub mod Added
pub mod Choice
pub mod LentNaming
pub mod NamingLine
pub mod Producer
