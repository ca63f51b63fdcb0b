-- What settling does to the desks of a world, and what a whole run leaves.
use Rattle.std.specs.Prelude.{◌≡◌, ℕ, List, [], slice_get, Some}
use Rattle.adapter.specs.Desk.{DeskState}
use Rattle.agent_scripts.specs.Job.{Job}
use Rattle.rand_pcg.specs.Lcg.{Lcg}
use Rattle.stamped_history.specs.Explained.{AreExplained}
use Rattle.world_run.specs.Course.{IsPlay, generator_of, state}
use Rattle.world_run.specs.Finished.{AreEmptied, IsFinished}
use Rattle.world_run.specs.Renewal.{AreRenewed}
use Rattle.world_run.specs.Sent.{AreSent}
use Rattle.world_run.specs.World.{AreKept, HistoriesGrow, histories_of}

-- the desks are kept, all receipts are explained, and no history lost an entry
pub record Continues (job : Job) (old new : List DeskState) : Type 0 where
  pub kept : AreKept job new
  pub explained : AreExplained job.protocol (histories_of new)
  pub grow : HistoriesGrow (histories_of old) (histories_of new)

-- from desks with renewed inboxes, which hold sent messages alone, the agents play in rounds, by
-- the generator of the plan's seed
pub record IsCourse (job : Job) (old new : List DeskState) : Type 0 where
  pub renewed : List DeskState
  pub renewal : AreRenewed job old renewed
  pub sent : AreSent job.protocol renewed
  pub last : Lcg
  pub play : IsPlay job (state renewed (generator_of job)) (state new last)

-- the agents play by the generator of the plan's seed until the desks are finished, and no inbox
-- holds an envelope
pub record Settles (job : Job) (old new : List DeskState) : Type 0 where
  pub finished : IsFinished job new
  pub empty : AreEmptied new
  pub course : IsCourse job old new

-- kept desks without events
pub record AreNew (job : Job) (desks : List DeskState) : Type 0 where
  pub kept : AreKept job desks
  pub none : (role : ℕ) (d : DeskState) → slice_get desks role ≡ Some d → d.store.entries ≡ []

-- the desks are kept, and new ones settled to them
pub record HaveRunWhole (job : Job) (desks : List DeskState) : Type 0 where
  pub kept : AreKept job desks
  pub opened : List DeskState
  pub new : AreNew job opened
  pub settles : Settles job opened desks
