-- What only private functions of the crate cite.
pub mod SymbolTable
pub mod NameLength
pub mod Scanner
pub mod PackedToken
pub mod Scan
pub mod ParseResult
pub mod Place
pub mod TokenParsers
pub mod GrammarParsers
