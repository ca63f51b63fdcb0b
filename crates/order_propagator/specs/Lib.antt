-- What contracts say of a trail over an order and a formula beside the words of sat_trail.
pub mod Whole
pub mod inner
