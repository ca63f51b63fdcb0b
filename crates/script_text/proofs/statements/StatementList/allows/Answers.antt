-- Another statement stands if it can stand with each of them.
use Rattle.std.proofs.Common.{sym, ◌∙◌}
use Rattle.std.proofs.lemmas.Bool.{true≢false}
use Rattle.script_text.proofs.StatementLemmas.{allowed_stands, other_allowed}
use Rattle.script_text.proofs.statements.StatementList.allows.Goals as goal

pub returns-then-all_stand_with : goal.returns-then-all_stand_with
returns-then-all_stand_with c =
    let tested = rw c.as_slice.ensures.same at c.all_stand_with.ensures in (
      λ distinct. other_allowed c.args.self.now c.args.statement.now c.as_slice.ensures.few_keys c.in_default.not-Key (tested.0 c.if-all_stand_with.true) (c.has_distinct.ensures.0 distinct),
      λ keeps. c.has_distinct.ensures.1 keeps.distinct,
    )

pub returns-else-all_stand_with : goal.returns-else-all_stand_with
returns-else-all_stand_with c =
    let tested = rw c.as_slice.ensures.same at c.all_stand_with.ensures in (
      λ together. absurd (true≢false (sym together ∙ c.if-all_stand_with.false)),
      λ keeps. tested.1 (allowed_stands c.args.self.now c.args.statement.now keeps),
    )
