-- A text has one tree or one fault.
use Rattle.question_text.proofs.Faults.{TokensOnce, one_fault, one_tree, tree_or_fault}
use Rattle.question_text.proofs.laws.one_question.Goals as goal

pub returns-clause-tree : goal.returns-clause-tree
returns-clause-tree c =
    let law = c.tokens_once.ensures in
    let once : TokensOnce = record { tokens = law.tokens; bytes = law.bytes; exclusive = law.exclusive } in
    one_tree once

pub returns-clause-fault : goal.returns-clause-fault
returns-clause-fault c =
    let law = c.tokens_once.ensures in
    let once : TokensOnce = record { tokens = law.tokens; bytes = law.bytes; exclusive = law.exclusive } in
    one_fault once

pub returns-clause-exclusive : goal.returns-clause-exclusive
returns-clause-exclusive c =
    let law = c.tokens_once.ensures in
    let once : TokensOnce = record { tokens = law.tokens; bytes = law.bytes; exclusive = law.exclusive } in
    tree_or_fault once
