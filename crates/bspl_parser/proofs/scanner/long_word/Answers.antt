-- The text of each arm is the spelling of its word.
use Rattle.std.proofs.Common.{rules, ◌≡◌, refl}
use Rattle.std.proofs.lemmas.Slice.Eq.{text_from_reads}
use Rattle.bspl_parser.specs.declared.symbol.Symbol.TheVariants.{Private, Parameter, Parameters}
use Rattle.bspl_parser.specs.Symbol.{spelling}
use Rattle.bspl_parser.proofs.scanner.long_word.Goals as goal

pub returns-in-private : goal.returns-in-private
returns-in-private c =
    let is : c.args.text.now ≡ spelling Private = text_from_reads c.args.text.now (spelling Private) (search rules) (search rules) in
    rw is refl

pub returns-in-parameter : goal.returns-in-parameter
returns-in-parameter c =
    let is : c.args.text.now ≡ spelling Parameter = text_from_reads c.args.text.now (spelling Parameter) (search rules) (search rules) in
    rw is refl

pub returns-in-parameters : goal.returns-in-parameters
returns-in-parameters c =
    let is : c.args.text.now ≡ spelling Parameters = text_from_reads c.args.text.now (spelling Parameters) (search rules) (search rules) in
    rw is refl
