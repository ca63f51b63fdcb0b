-- What begins otherwise, or ends otherwise, is no rule.
use Rattle.std.proofs.Common.{◌≡◌, List, [], ◌∷◌, ℕ}
use Rattle.script_text.proofs.RuleLemmas.{unread, no_offset, not_alone}
use Rattle.script_text.proofs.value_line.rule_of.Goals as goal

some_is_not_none : (field : List ℕ) (fields listed : List (List ℕ)) → listed ≡ field ∷ fields → listed ≡ [] → ⊥
some_is_not_none field fields listed some none = absurd (cc)

pub returns-in_err-factor : goal.returns-in_err-factor
returns-in_err-factor c = rw (c.from_residual-in_err-factor.ensures, c.in_ok-first.ensures) (unread c.in_ok-first.first.now _ c.in_err-factor.ensures)

pub returns-in_err-offset-in-Number : goal.returns-in_err-offset-in-Number
returns-in_err-offset-in-Number c =
    let spells = rw c.in-Number.is at c.in_ok-factor.ensures in
    rw (c.from_residual-in_err-offset-in-Number.ensures, c.in_ok-first.ensures) (no_offset c.spells_once.ensures c.in_ok-first.first.now _ c.in-Number.factor spells c.in_err-offset-in-Number.ensures)

pub returns-in-Some : goal.returns-in-Some
returns-in-Some c =
    let spells = rw c.in-Text.is at c.in_ok-factor.ensures in
    rw c.in_ok-first.ensures (not_alone c.spells_once.ensures c.in_ok-first.first.now _ c.in-Text.text spells (λ none. some_is_not_none _ _ _ c.in-Some.ensures none))
