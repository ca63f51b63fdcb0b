-- The marks of a filled template are those of its tags.
use Rattle.std.proofs.Common.{◌∙◌}
use Rattle.html.specs.Fragment.{fitted}
use Rattle.html.proofs.HoleLemmas.{template_marks}
use Rattle.html.proofs.MarkupLemmas.{all_marks}
use Rattle.html.proofs.laws.templates_keep_their_marks.Goals as goal

pub returns : goal.returns
returns c = λ template parts none. all_marks (fitted template parts) ∙ template_marks template parts none
