-- A field that begins with a quote spells no number.
use Rattle.std.proofs.Common.{[], ◌∷◌}
use Rattle.std.proofs.lemmas.Bool.Decides.{Decides-eqb}
use Rattle.std.proofs.lemmas.Slice.Eq.{strip_prefix_is}
use Rattle.bspl_types.proofs.ReadingLemmas.{no_value}
use Rattle.bspl_types.proofs.value.Value.read.Goals as goal

pub returns-in-None-read_text : goal.returns-in-None-read_text
returns-in-None-read_text c =
    let quoted = rw c.in-Some.is at (strip_prefix_is Decides-eqb c.args.field.now (34 ∷ []) c.strip_prefix.result c.strip_prefix.ensures.cases) in
    no_value c.args.field.now c.in-Some.text.now quoted c.in-None-read_text.ensures
