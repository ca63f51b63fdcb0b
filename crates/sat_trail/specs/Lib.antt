-- What contracts see of a trail, what each trail keeps, and what its calls do.
pub mod State
pub mod Trail
pub mod Levels
pub mod Growth
pub mod Entry
pub mod inner
