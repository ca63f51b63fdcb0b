-- A line of the form names a message that is not declared.
use Rattle.std.proofs.Common.{List, ℕ, ◌∷◌, ap, ◌∙◌}
use Rattle.script_text.proofs.MeaningLemmas.{unknown_decline}
use Rattle.script_text.proofs.decline_line.decline_statement.Goals as goal

pub returns-in-None : goal.returns-in-None
returns-in-None c = unknown_decline c.args.x.now c.in-Some.name.now _ c.in-Some-every_of.every c.in-Some-every_of.ensures.0 (c.in-Some.ensures ∙ ap (λ (fs : List (List ℕ)). c.in-Some.name.now ∷ fs) c.in-Some-every_of.ensures.1) c.in-None.ensures
