-- The run of a world that has come to its end.
use Rattle.std.proofs.Common.{◌≡◌, ◌++◌, ℕ, List, [], refl, ap, sym, ◌∙◌}
use Rattle.std.proofs.lemmas.Grind.{flat_map-append}
use Rattle.adapter.specs.Desk.{DeskState}
use Rattle.agent_scripts.specs.Job.{Job}
use Rattle.html.specs.Fragment.{Fragment, fragment_text, as_html}
use Rattle.world_run.specs.Finished.{IsFinished}
use Rattle.world_run.specs.World.{AreDesksOf, AreKept}
use Rattle.page_sections.specs.VerdictSections.{played_part}
use Rattle.page_sections.specs.WorldSection.{AppendsWorld}
use Rattle.report.specs.WorldRows.{IsRunOfWorld}
use Rattle.world_run.specs.Settling.{HaveRunWhole}
use Rattle.more_commands.specs.PageAnswer.{ShowsPlayed}
use Rattle.more_commands.specs.inner.Section.{IsSection}

-- kept desks are those of the job's protocol
pub desks_of : (job : Job) (desks : List DeskState) → AreKept job desks → AreDesksOf job.protocol desks
desks_of job desks kept =
    record {
      count = kept.count;
      each = λ role d at. record { protocol_is = (kept.each role d at).protocol_is; role_is = (kept.each role d at).role_is };
    }

-- what the desks hold together is their run
pub run_of : (job : Job) (desks : List DeskState) (finished : IsFinished job desks) → AreKept job desks → IsRunOfWorld job.protocol desks finished.run
run_of job desks finished kept =
    record {
      are_desks = desks_of job desks kept;
      local = finished.local;
      histories = finished.played_out.run_is.histories_kept;
    }

-- a section that is written after another
pub written_both : (text first : List ℕ) (a b : List Fragment) → first ≡ as_html a → text ≡ first ++ as_html b → text ≡ as_html (a ++ b)
written_both text first a b before after =
    after ∙ ap (λ (ys : List ℕ). ys ++ as_html b) before ∙ sym (flat_map-append fragment_text a b)

-- the section of a world that has come to its end, and of its run
pub section_of : (job : Job) (desks : List DeskState) (finished : IsFinished job desks) → HaveRunWhole job desks → (start middle text : List ℕ) → start ≡ [] → AppendsWorld job.protocol job.script finished.run start middle → text ≡ middle ++ as_html (played_part job.protocol finished.run) → IsSection (ShowsPlayed job) text
section_of job desks finished course start middle text none world after =
    let events = played_part job.protocol finished.run in
    let first : middle ≡ as_html world.shown = world.text ∙ ap (λ (ys : List ℕ). ys ++ as_html world.shown) none in
    record {
      shown = world.shown ++ events;
      shows = record { desks = desks; finished = finished; course = course; tables = world.shown; shows = world.shows; section = refl };
      text_is = written_both text middle world.shown events first after;
    }
