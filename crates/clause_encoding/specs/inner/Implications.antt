-- Clauses of two literals on an emission, a reception, and what stands before them.
use Rattle.std.specs.Prelude.{ℕ, [], ◌∷◌}
use Rattle.clause_core.specs.Literal.{negated}
use Rattle.clause_core.specs.Written.{Written}
use Rattle.clause_encoding.specs.declared.variables.Variables.{Variables}
use Rattle.clause_encoding.specs.Variables.{occurs, received, sent, stands_before}

-- the message is sent before it is received
abbrev pub delivery_clause : Variables → ℕ → Written
delivery_clause vars m =
    negated (occurs (received m)) ∷ stands_before vars (sent m) (received m) ∷ []

-- the kind does not come before the message is sent
abbrev pub fresh_clause : Variables → ℕ → ℕ → Written
fresh_clause vars m kind =
    negated (occurs (sent m)) ∷ negated (stands_before vars kind (sent m)) ∷ []

-- the message is received if it is sent
abbrev pub arrival_clause : ℕ → Written
arrival_clause m = negated (occurs (sent m)) ∷ occurs (received m) ∷ []
