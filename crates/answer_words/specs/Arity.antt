-- How many roles and parameters a reference gives, and how many its protocol declares.
use Rattle.std.specs.Prelude.{ℕ, ◌==◌, cond, List, [], ◌∷◌, ◌++◌, length, Option, None, Some}
use Rattle.bspl_parser.specs.declared.document.Declaration.{Declaration}
use Rattle.bspl_parser.specs.declared.document.Item.{Item}
use Rattle.bspl_parser.specs.declared.document.Item.TheVariants.{Message, Reference}
use Rattle.bspl_parser.specs.declared.document.Reference.{Reference as SpecReference}
use Rattle.list_base.specs.Numeral.{numeral}
use Rattle.protocol_names.specs.Names.{protocol_of}
use Rattle.answer_words.specs.declared.wording.details.TheConstants as details

-- the reference of a body that names its protocol at the offset
abbrev pub reference_at : ℕ → List Item → Option SpecReference
reference_at offset [] = None
reference_at offset (Message m ∷ more) = reference_at offset more
reference_at offset (Reference r ∷ more) =
    cond (r.protocol.offset == offset) (Some r) (reference_at offset more)

-- the numbers of the reference beside those of the protocol
abbrev pub counts_text : SpecReference → Declaration → List ℕ
counts_text r q =
    details.ROLES.now ++ numeral (length r.roles) ++ details.HERE.now ++
    numeral (length q.roles) ++ details.PARAMETERS.now ++ numeral (length r.params) ++
    details.HERE.now ++ numeral (length q.public) ++ details.DECLARED.now

-- the line on the reference, if its protocol is declared
abbrev pub reference_text : SpecReference → Option Declaration → List ℕ
reference_text r None = []
reference_text r (Some q) = counts_text r q

-- the line on the reference at the offset, which is in one of these protocols
abbrev pub arity_text : List Declaration → ℕ → List Declaration → List ℕ
arity_text protocols offset [] = []
arity_text protocols offset (p ∷ more) =
    elim (reference_at offset p.body) as (λ o. List ℕ) [
      | Some r ↦ reference_text r (protocol_of protocols r.protocol.text)
      | None ↦ arity_text protocols offset more
    ]
