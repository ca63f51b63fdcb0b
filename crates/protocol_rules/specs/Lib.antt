-- The definitions that the contracts cite, in reading order.
pub mod Braces
pub mod RuleLine
pub mod Rule
pub mod Rules
pub mod Laws
pub mod inner
