-- What was read of items and protocols is read again, whatever follows.
use Rattle.bspl_parser.specs.inner.GrammarParsers.{parse_item, parse_declaration}
use Rattle.bspl_parser.proofs.PrefixStable.{PrefixStable}
use Rattle.bspl_parser.proofs.PrefixStablePhrases.{item_stable, declaration_stable}
use Rattle.bspl_parser.proofs.PrefixStableReferences.{reference_stable}

pub all_items : PrefixStable parse_item
all_items = item_stable reference_stable

pub all_declarations : PrefixStable parse_declaration
all_declarations = declaration_stable all_items
