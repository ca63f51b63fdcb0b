-- The set has the fact, and what it had.
use Rattle.std.proofs.Common.{◌≡◌, ◌∙◌, subst}
use Rattle.run_index.specs.inner.Facts.{AddsFacts}
use Rattle.run_index.proofs.AddLemmas.{one_added}
use Rattle.run_index.proofs.facts.Facts.add.Goals as goal

pub returns : goal.returns
returns c =
    subst (λ old. AddsFacts old c.insert.new.self (λ other. c.args.fact.now ≡ other)) c.self.view_is
    (one_added c.tied_keys_are_one.ensures c.self.inside.facts c.insert.new.self c.of-2.result c.args.fact.now (c.of-2.ensures ∙ c.of.ensures) c.in_ok-insert.ensures.updates.0)
