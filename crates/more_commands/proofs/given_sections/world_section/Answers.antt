-- The merged histories are the run of the world.
use Rattle.std.proofs.Common.{◌≡◌, ◌++◌, sym, subst}
use Rattle.bspl_types.specs.declared.expanded.Expanded.{Expanded}
use Rattle.bspl_types.specs.History.{IsRun}
use Rattle.html.specs.Fragment.{as_html}
use Rattle.page_sections.specs.VerdictSections.{played_part}
use Rattle.page_sections.specs.WorldSection.{AppendsWorld}
use Rattle.world_run.specs.World.{histories_of}
use Rattle.more_commands.proofs.PlayLemmas.{desks_of, run_of, section_of}
use Rattle.more_commands.proofs.given_sections.world_section.Goals as goal

pub push_world-requires : goal.push_world-requires
push_world-requires c =
    rw (c.expanded-x.ensures.same, c.admitted.ensures) (desks_of c.args.job.now c.args.world.now.desks c.requires.course.kept)

pub push_played-requires : goal.push_played-requires
push_played-requires c =
    let job = c.args.job.now in
    let finished = c.requires.finished in
    let same = c.merged_runs_are_one.ensures (histories_of c.args.world.now.desks) finished.run c.in_ok-run.run' finished.merged c.in_ok-run.ensures in
    rw (c.as_slice.ensures, c.admitted-2.ensures) (subst (IsRun job.protocol) same finished.played_out.run_is.legal.fits)

pub returns : goal.returns
returns c =
    let job = c.args.job.now in
    let desks = c.args.world.now.desks in
    let finished = c.requires.finished in
    let same = c.merged_runs_are_one.ensures (histories_of desks) finished.run c.in_ok-run.run' finished.merged c.in_ok-run.ensures in
    let appends = rw (c.script.ensures.same, c.expanded-x.ensures.same, c.admitted.ensures) at c.in_ok-push_world.ensures in
    let world : AppendsWorld job.protocol job.script finished.run c.new-text.result c.push_world.new.text = appends finished.run (run_of job desks finished c.requires.course.kept) in
    let after : c.push_played.new.text ≡ c.push_world.new.text ++ as_html (played_part job.protocol finished.run) =
    subst (λ (x : Expanded). c.push_played.new.text ≡ c.push_world.new.text ++ as_html (played_part x finished.run)) c.admitted-2.ensures
    (rw (c.as_slice.ensures, sym same) at c.in_ok-push_played.ensures) in
    section_of job desks finished c.requires.course c.new-text.result c.push_world.new.text c.push_played.new.text c.new-text.ensures world after
