-- A journal with a line that makes no event is refused, and so is one that cannot be gone on with.
use Rattle.std.proofs.Common.{List, ℕ, inr}
use Rattle.kept_lines.specs.Restored.{FailsToRestore, RestoresText}
use Rattle.role_questions.specs.Asked.{AskedReplies}
use Rattle.role_server.specs.Live.{first_live_store}
use Rattle.live_role.proofs.BegunLemmas.{names_line, no_event}
use Rattle.live_role.proofs.begun.begin_with.Goals as goal

pub returns-in-Err-clause-err : goal.returns-in-Err-clause-err
returns-in-Err-clause-err g c =
    let x = c.args.x.now in
    let stops : FailsToRestore AskedReplies (first_live_store x c.args.role) (g.F.Journals.found_lines c.in_ok-found.found) c.in-Err.refusal = rw (c.requires, c.lines.ensures) at c.in-Err.ensures.err in
    rw (c.unrestored.ensures, c.as_slice-in-Err.ensures) (no_event x c.args.role (g.F.Journals.found_lines c.in_ok-found.found) _ (record { path = c.args.wanted.path.now; syncs = c.args.wanted.syncs }) c.in_ok-head.head c.in-Err.refusal (record { is_head = c.in_ok-head.ensures; found = rw c.as_slice.ensures at c.in_ok-found.ensures.found }) stops)

pub unrestored-requires : goal.unrestored-requires
unrestored-requires g c =
    let x = c.args.x.now in
    let lines : List ℕ = g.F.Journals.found_lines c.in_ok-found.found in
    let stops : FailsToRestore AskedReplies (first_live_store x c.args.role) lines c.in-Err.refusal = rw (c.requires, c.lines.ensures) at c.in-Err.ensures.err in
    rw c.lines-in-Err.ensures (names_line x c.args.role lines c.in-Err.refusal stops)

pub returns : goal.returns
returns g c =
    let x = c.args.x.now in
    let lines : List ℕ = g.F.Journals.found_lines c.in_ok-found.found in
    let restored : RestoresText AskedReplies (first_live_store x c.args.role) lines c.in-Ok.live = rw (c.requires, c.lines.ensures) at c.in-Ok.ensures.ok in
    record {
      ok = tt;
      err = inr (c.in_ok-head.head, lines, c.in-Ok.live, record { is_head = c.in_ok-head.ensures; found = rw c.as_slice.ensures at c.in_ok-found.ensures.found }, restored);
      faults = tt;
    }
