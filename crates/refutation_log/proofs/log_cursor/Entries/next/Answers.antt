-- The next entry is the removal that comes here, or a step.
use Rattle.std.proofs.Common.{◌<◌, ◌≤◌, ◌+◌, ◌∷◌, ◌∙◌, sym, ap, length, rules}
use Rattle.refutation_log.specs.declared.refutation.Entry.TheVariants.{Step}
use Rattle.refutation_log.specs.Entries.{entries_after}
use Rattle.refutation_log.proofs.EntryLemmas.{left_others, left_past, left_step, next_step, next_none}
use Rattle.refutation_log.proofs.log_cursor.Entries.next.Goals as goal

pub invariant_of-self : goal.invariant_of-self
invariant_of-self c =
    let left = rw c.in-Some.ensures.0 at c.self.invariant in
    rw c.in-Some.ensures.1 at (left_others c.self.inside.done c.self.inside.steps.now c.in-Some.removal.now c.in-Some.others.now left)

pub returns-in_default-get : goal.returns-in_default-get
returns-in_default-get c =
    let done = c.self.inside.done in
    let steps = c.self.inside.steps.now in
    let removals = c.self.inside.removals.now in
    let long : length steps ≤ done = search rules in
    let past = left_past done steps removals c.in_default.ensures c.self.invariant in
    let none = next_none done steps removals long past c.self.invariant in
    (sym c.self.view_is ∙ none, sym c.self.view_is ∙ none)

pub invariant_of-self-2 : goal.invariant_of-self-2
invariant_of-self-2 c =
    let done = c.self.inside.done in
    let steps = c.self.inside.steps.now in
    let removals = c.self.inside.removals.now in
    let short : done < length steps = search rules in
    left_step done steps removals short (left_past done steps removals c.in_default.ensures c.self.invariant) c.self.invariant

pub returns : goal.returns
returns c =
    let done = c.self.inside.done in
    let steps = c.self.inside.steps.now in
    let removals = c.self.inside.removals.now in
    let step = c.in-Some-get.step.now in
    let short : done < length steps = search rules in
    let past = left_past done steps removals c.in_default.ensures c.self.invariant in
    sym c.self.view_is ∙ next_step done steps removals step short past
    ∙ ap (λ s. Step s ∷ entries_after (done + 1) steps removals) (sym c.in-Some-get.ensures.lookup.1)
