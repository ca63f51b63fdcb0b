-- What a call of a program promises, and how it ends; then what each half of a call says.
pub mod Call
pub mod Program
pub mod Ending
pub mod Reply
pub mod Prepared
pub mod Laws
