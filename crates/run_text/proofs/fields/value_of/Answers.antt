-- A field is the parameter's name, `=` and the value's spelling.
use Rattle.std.proofs.Common.{codes, ◌∙◌, ap}
use Rattle.std.proofs.lemmas.Bool.Decides.{Decides-eqb}
use Rattle.std.proofs.lemmas.Slice.Eq.{strip_prefix_is}
use Rattle.std.proofs.lemmas.List.{get_or_default}
use Rattle.run_text.specs.RunText.{no_param}
use Rattle.run_text.proofs.FieldLemmas.{other_name, other_sign, value_read}
use Rattle.run_text.proofs.fields.value_of.Goals as goal

pub returns-in_default : goal.returns-in_default
returns-in_default c =
    let other = rw c.in_default.is at (strip_prefix_is Decides-eqb c.args.field.now c.as_slice.result.now c.strip_prefix.result c.strip_prefix.ensures.cases) in
    other_name c.args.params.now c.args.c c.args.field.now c.as_slice.result.now (c.as_slice.ensures ∙ ap (λ p. p.name) (get_or_default c.args.params.now c.args.c.param _ no_param c.requires)) other

pub returns-in_default-strip_prefix : goal.returns-in_default-strip_prefix
returns-in_default-strip_prefix c =
    let begins = rw c.in-Some.is at (strip_prefix_is Decides-eqb c.args.field.now c.as_slice.result.now c.strip_prefix.result c.strip_prefix.ensures.cases) in
    let other = rw c.in_default-strip_prefix.is at (strip_prefix_is Decides-eqb c.in-Some.rest.now (codes "=") c.strip_prefix-2.result c.strip_prefix-2.ensures.cases) in
    other_sign c.args.params.now c.args.c c.args.field.now c.as_slice.result.now c.in-Some.rest.now (c.as_slice.ensures ∙ ap (λ p. p.name) (get_or_default c.args.params.now c.args.c.param _ no_param c.requires)) begins other

pub returns : goal.returns
returns c =
    let begins = rw c.in-Some.is at (strip_prefix_is Decides-eqb c.args.field.now c.as_slice.result.now c.strip_prefix.result c.strip_prefix.ensures.cases) in
    let sign = rw c.in-Some-strip_prefix.is at (strip_prefix_is Decides-eqb c.in-Some.rest.now (codes "=") c.strip_prefix-2.result c.strip_prefix-2.ensures.cases) in
    value_read c.args.params.now c.args.c c.args.field.now c.as_slice.result.now c.in-Some.rest.now c.in-Some-strip_prefix.value.now c.read.result (c.as_slice.ensures ∙ ap (λ p. p.name) (get_or_default c.args.params.now c.args.c.param _ no_param c.requires)) begins sign c.read.ensures
