-- The stores of a finished world agree with its table, which has all values of a live protocol.
use Rattle.std.proofs.Common.{◌≡◌, ℕ, ◌<◌, Some, None, List, Option, length, refl, sym, ap, ◌∙◌, subst, IsSome, Contains}
use Rattle.std.proofs.lemmas.List.Elements.{All-contains}
use Rattle.bspl_types.specs.declared.event.Event.{Event}
use Rattle.bspl_types.specs.declared.event.Event.TheVariants.{Emit}
use Rattle.bspl_types.specs.declared.event.Instance.{Instance}
use Rattle.bspl_types.specs.declared.expanded.Expanded.{Expanded}
use Rattle.bspl_types.specs.declared.value.Value.{Value}
use Rattle.bspl_types.specs.History.{history_of, instance_of}
use Rattle.bspl_types.specs.Instance.{Fits}
use Rattle.bspl_types.specs.Knowledge.{IsKnown, Knows}
use Rattle.enactment_model.specs.Legal.{IsLegalRun}
use Rattle.enactment_model.specs.Liveness.{Bound, Quiet}
use Rattle.adapter.specs.Desk.{DeskState}
use Rattle.adapter.specs.Rules.{rules_of}
use Rattle.agent_scripts.specs.Job.{Job}
use Rattle.stamped_history.specs.Entries.{events_of}
use Rattle.stamped_history.specs.Explained.{history_at}
use Rattle.stamped_history.specs.Laws.{MergedRunsAreOne, StoresAgree}
use Rattle.stamped_history.specs.Rules.{IsNumber}
use Rattle.world_run.specs.Finished.{IsFinished}
use Rattle.world_run.specs.FinishedTable.{FinishedStoresAgree, TableHas, StoreKnows, LetsAllPass, LiveKeysAreBound}
use Rattle.world_run.specs.World.{HasHistories, histories_of}
use Rattle.world_run.proofs.TableLemmas.{history_run, known_first}
use Rattle.world_run.proofs.WorldLemmas.{history_is}

-- the table has the one value that any role knows, if some store knows it
one_value : (x : Expanded) (desks : List DeskState) (key : List Value) (p : ℕ) (v : Value) (found : Option Value) → ((role : ℕ) (w : Value) → Knows x (events_of (history_at (histories_of desks) role)) key p w → w ≡ v) → StoreKnows x desks key p v → TableHas x desks key p found → found ≡ Some v
one_value x desks key p v None one stored table =
    absurd (table.value stored.role (v, subst (λ h. Knows x h key p v) (sym (history_run x desks table.run stored.role stored.desk table.histories stored.at)) stored.knows))
one_value x desks key p v (Some w) one stored table =
    let role = table.value.role in
    ap Some (one role w (subst (λ h. Knows x h key p w) (table.histories role) (known_first x (history_of x role table.run) key p w table.value.first)))

-- what two stores of a safe protocol know is one value
pub finished_agree : StoresAgree → FinishedStoresAgree
finished_agree agree job desks safe finished key p v found stored table =
    let knows = subst (λ h. Knows job.protocol (events_of h) key p v) (sym (history_is desks stored.role stored.desk stored.at)) stored.knows in
    one_value job.protocol desks key p v found (λ role w known. agree job.protocol (histories_of desks) finished.run safe finished.local finished.explained finished.merged role stored.role key p w v known knows) stored table

-- the message of an emission in the run exists
known_message : (x : Expanded) (run : List Event) (i : Instance) → IsLegalRun x run → Contains run (Emit i) → i.message < length x.messages
known_message x run i legal emitted = (All-contains (λ e. Fits x (instance_of e)) run (Emit i) legal.fits emitted).known

-- the run is quiet at a key at whose number nothing is lost or declined
quiet_at : (job : Job) (desks : List DeskState) (finished : IsFinished job desks) (n : ℕ) (key : List Value) → IsNumber (rules_of job) n key → LetsAllPass job n → Quiet job.protocol finished.run key
quiet_at job desks finished n key number passes = record {
  received = λ i under emitted. finished.played_out.settled.delivered n i (subst (IsNumber (rules_of job) n) (sym under) number) emitted
      (passes.kept i.message (known_message job.protocol finished.run i finished.played_out.run_is.legal emitted));
  exhausted = λ m never can. finished.played_out.settled.exhausted n m key number (passes.accepted m can.known) never can;
}

-- the table has a value of what some role knows
has_value : (x : Expanded) (desks : List DeskState) (run : List Event) (key : List Value) (p : ℕ) (found : Option Value) → HasHistories x desks run → Bound x run key p → TableHas x desks key p found → IsSome found
has_value x desks run key p None has bound table =
    absurd (table.value bound.role (subst (λ h. IsKnown x h key p) (has bound.role ∙ sym (table.histories bound.role)) bound.known))
has_value x desks run key p (Some v) has bound table = refl

-- a key at whose number nothing is lost or declined is completed
pub live_bound : MergedRunsAreOne → LiveKeysAreBound
live_bound one job desks live finished n key number passes =
    let quiet = quiet_at job desks finished n key number passes in
    let run_is = finished.played_out.run_is in
    record {
      quiet = λ run merged. subst (λ r. Quiet job.protocol r key) (one (histories_of desks) finished.run run finished.merged merged) quiet;
      bound = λ p found public table. has_value job.protocol desks finished.run key p found run_is.histories_kept (live.bound finished.run key run_is.legal quiet p public) table;
    }
