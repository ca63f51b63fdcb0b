pub mod Lending
pub mod Lines
pub mod Numeral
