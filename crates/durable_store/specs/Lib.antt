-- What contracts see of a durable store, which places of a disk are alien, and what each call does.
pub mod History
pub mod State
pub mod Alien
pub mod Start
pub mod Restart
pub mod Laws
pub mod Troubles
pub mod Calls
pub mod Emission
pub mod Reception
pub mod Restored
pub mod inner
