-- Where the formula has no empty clause, the derived ones decide.
use Rattle.std.proofs.Common.{inl, inr}
use Rattle.std.proofs.lemmas.Bool.{iff_false}
use Rattle.std.proofs.lemmas.List.Elements.{Contains-append_right, Contains-append_cases}
use Rattle.log_checker.proofs.lookup.has_empty.Goals as goal

pub returns-else-has_empty : goal.returns-else-has_empty
returns-else-has_empty c =
    let none = iff_false c.has_empty.ensures c.if-has_empty.false in
    let test = c.any_empty.ensures in (
      λ found. Contains-append_right _ _ _ (test.0 found),
      λ among. elim (Contains-append_cases _ _ _ among) [
        | inl before ↦ absurd (none before)
        | inr after ↦ test.1 after
      ],
    )
