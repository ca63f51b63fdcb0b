-- The name begins with the prefix, or it does not.
use Rattle.std.proofs.Common.{◌≡◌, ◌≢◌, ◌∙◌, ◌++◌, ℕ, List, subst}
use Rattle.std.specs.Prelude.{MatchOption}
use Rattle.std.proofs.lemmas.Bool.Decides.{Decides-eqb}
use Rattle.std.proofs.lemmas.Slice.Eq.{strip_prefix_is}
use Rattle.answer_words.proofs.ways.after_prefix.Goals as goal

pub returns : goal.returns
returns c =
    let name = c.args.name.now in
    let found = c.strip_prefix.result in
    subst (λ (prefix : List ℕ). MatchOption found ((rest : List ℕ) → name ≢ prefix ++ rest) (λ rest. name ≡ prefix ++ rest.now)) (c.as_slice.ensures ∙ c.in_ok-prefix.ensures)
    (strip_prefix_is Decides-eqb name c.as_slice.result.now found c.strip_prefix.ensures.cases)
