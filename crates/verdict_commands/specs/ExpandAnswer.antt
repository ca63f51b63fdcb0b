-- What `expand` answers on an admitted protocol.
use Rattle.std.specs.Prelude.{◌≡◌, ℕ, List, ⊤}
use Rattle.bspl_types.specs.declared.expanded.Expanded.{Expanded}
use Rattle.protocol_expand.specs.Printed.{IsPrinted}
use Rattle.tool_input.specs.declared.status.Status.{Status}
use Rattle.tool_input.specs.declared.status.Status.TheVariants.{Done}
use Rattle.tool_input.specs.declared.need.Need.TheVariants.{Nothing}
use Rattle.tool_input.specs.Rules.{CommandRules, NeverRefuses}

-- the text of its expansion
pub record IsExpandAnswer (x : Expanded) (out : List ℕ) (status : Status) : Type 0 where
  pub printed : IsPrinted x out
  pub done : status ≡ Done

-- it needs nothing more, and answers each admitted protocol with one text
abbrev pub expand_rules : CommandRules
expand_rules = record {
  needs = Nothing;
  answers = λ x given. IsExpandAnswer x;
  refuses = NeverRefuses;
  is_determined = ⊤;
}
