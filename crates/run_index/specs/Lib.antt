-- The first event of a key, the first emission that is not enabled and the first of an instance;
-- what private functions cite follows.
pub mod FirstOfKey
pub mod FirstDisabled
pub mod FirstEmission
pub mod inner
pub use Rattle.enactment_model.specs.BadEvent
pub use Rattle.enactment_model.specs.FirstLoose
pub use Rattle.enactment_model.specs.FirstUnbound
pub use Rattle.enactment_model.specs.LeastConflict
pub use Rattle.enactment_model.specs.Legal
pub use Rattle.enactment_model.specs.Liveness
pub use Rattle.enactment_model.specs.Safety
