-- The text is written part by part.
use Rattle.std.proofs.Common.{◌≡◌, ◌++◌, List, ℕ, ap, subst, sym, ◌∙◌, length}
use Rattle.std.specs.List.{concat}
use Rattle.bspl_types.specs.declared.expanded.Expanded.{Expanded}
use Rattle.refutation_log.specs.LogText.{end_line}
use Rattle.world_run.specs.World.{HasHistories}
use Rattle.report.specs.WorldRows.{AppendsRows, IsRunOfWorld}
use Rattle.report.specs.WorldText.{message_lines, row_form, world_line}
use Rattle.report.specs.inner.Counts.{counted_lines}
use Rattle.report.proofs.MessageLemmas.{lines_of_run}
use Rattle.report.proofs.RowLemmas.{row_lines}
use Rattle.report.proofs.world.world_text.Goals as goal

pub returns : goal.returns
returns c = λ run local has.
    let x : Expanded = c.args.a.now in
    let keys = c.args.script.now.keys in
    let desks = c.args.world.now.desks in
    let counts = c.message_counts-counts.result in
    let front = c.push_messages.new.text in
    let is : IsRunOfWorld x desks run = record { are_desks = c.requires.desks; local = local; histories = has } in
    let same : c.expanded-x.result.now ≡ x = c.expanded-x.ensures.same in
    let appends : AppendsRows (row_form x) x run keys front c.push_rows.new.text =
    subst (λ (y : Expanded). IsRunOfWorld y desks run → AppendsRows (row_form y) y run keys front c.push_rows.new.text) same (c.in_ok-push_rows.ensures run) is in
    let rows = row_lines x run keys front c.push_rows.new.text appends in
    let counted : front ≡ c.push_world.new.text ++ counted_lines x counts (length x.messages) =
    subst (λ (y : Expanded). front ≡ c.push_world.new.text ++ counted_lines y counts (length y.messages)) same c.in_ok-push_messages.ensures in
    let lines = lines_of_run x run counts x.shape.counts.few_messages (c.message_counts-counts.ensures run (subst (λ (y : Expanded). HasHistories y desks run) (sym same) has)) in
    let first : c.push_world.new.text ≡ world_line c.args.script.now = c.in_ok-push_world.ensures ∙ ap (λ (ys : List ℕ). ys ++ world_line c.args.script.now) c.new-text.ensures in
    let second : front ≡ world_line c.args.script.now ++ message_lines x run =
    counted
    ∙ ap (λ (ys : List ℕ). ys ++ counted_lines x counts (length x.messages)) first
    ∙ ap (λ (ys : List ℕ). world_line c.args.script.now ++ ys) lines in
    let third : c.push_rows.new.text ≡ world_line c.args.script.now ++ message_lines x run ++ concat rows.0 = rows.2 ∙ ap (λ (ys : List ℕ). ys ++ concat rows.0) second in
    record {
      rows = rows.0;
      are_rows = rows.1;
      text_is = c.in_ok-append.ensures.ok ∙ ap (λ (ys : List ℕ). ys ++ end_line) third;
    }
