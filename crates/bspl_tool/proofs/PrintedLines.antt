-- The text of an expansion claims nothing.
use Rattle.std.proofs.Common.{◌≡◌, ℕ, false, List, [], ◌∷◌, ◌++◌, codes, Option, Some, None, refl, sym, ◌∙◌, ap, subst, append-nil, append_assoc}
use Rattle.std.specs.List.{flat_map}
use Rattle.bspl_parser.specs.declared.document.Adorn.{Adorn}
use Rattle.bspl_parser.specs.declared.document.Adorn.TheVariants.{In, Out, Nil, Any, Opt}
use Rattle.bspl_parser.specs.declared.document.Declaration.{Declaration}
use Rattle.bspl_parser.specs.declared.document.Formal.{Formal}
use Rattle.bspl_parser.specs.declared.document.Item.{Item}
use Rattle.bspl_parser.specs.declared.document.Item.TheVariants as item
use Rattle.bspl_parser.specs.declared.document.Reference.{Reference}
use Rattle.bspl_parser.specs.declared.document.Schema.{Schema}
use Rattle.bspl_parser.specs.declared.word.Word.{Word}
use Rattle.bspl_parser.specs.Grammar.{symbol_of}
use Rattle.bspl_parser.specs.Layout.{comma_prefixed, item_line, indented_line, printed, printed_declaration, printed_formal, printed_key, printed_message, printed_reference, printed_word, private_line, comma_separated}
use Rattle.bspl_parser.specs.Symbol.{spelling}
use Rattle.bspl_tool.proofs.ClaimsNothing.{ClaimsNothing, IsBlock, begins, block_joined, claim_lines, closed, line_avoids, line_claims_nothing, message_lines, no_lines}
use Rattle.bspl_tool.proofs.NameBytes.{name_claims_nothing, name_has_no_lf, name_says_no_message}
use Rattle.bspl_tool.proofs.Unbroken.{has_lf, joined_has_none}

-- it has no LF
record IsUnbroken (text : List ℕ) : Type 0 where
  whole : has_lf text ≡ false

-- so has one such text after another
unbroken : {one other : List ℕ} → IsUnbroken one → IsUnbroken other → IsUnbroken (one ++ other)
unbroken {one} {other} of_one of_other = record { whole = joined_has_none 10 one other of_one.whole of_other.whole }

-- a name
word_unbroken : (w : Word) → IsUnbroken (printed_word w)
word_unbroken w = record { whole = name_has_no_lf w.text w.named }

-- the word for an adornment
adorn_unbroken : (a : Adorn) → IsUnbroken (spelling (symbol_of a))
adorn_unbroken In = record { whole = refl }
adorn_unbroken Out = record { whole = refl }
adorn_unbroken Nil = record { whole = refl }
adorn_unbroken Any = record { whole = refl }
adorn_unbroken Opt = record { whole = refl }

-- the word `key`, or nothing
key_unbroken : (key : Option ℕ) → IsUnbroken (printed_key key)
key_unbroken None = record { whole = refl }
key_unbroken (Some offset) = record { whole = refl }

-- a parameter
formal_unbroken : (f : Formal) → IsUnbroken (printed_formal f)
formal_unbroken f = unbroken (unbroken (unbroken (adorn_unbroken f.adorn) (record { whole = refl })) (word_unbroken f.name)) (key_unbroken f.key)

-- parts after commas
commas_unbroken : {X : Type 0} (text : X → List ℕ) (xs : List X) → ((x : X) → IsUnbroken (text x)) → IsUnbroken (comma_prefixed text xs)
commas_unbroken text [] each = record { whole = refl }
commas_unbroken text (x ∷ xs) each = unbroken (unbroken {one = codes ", "} (record { whole = refl }) (each x)) (commas_unbroken text xs each)

-- parts with commas between them
list_unbroken : {X : Type 0} (text : X → List ℕ) (xs : List X) → ((x : X) → IsUnbroken (text x)) → IsUnbroken (comma_separated text xs)
list_unbroken text [] each = record { whole = refl }
list_unbroken text (x ∷ xs) each = unbroken (each x) (commas_unbroken text xs each)

-- a message
message_unbroken : (m : Schema) → IsUnbroken (printed_message m)
message_unbroken m =
    let sent = unbroken {other = codes " -> "} (word_unbroken m.sender) (record { whole = refl }) in
    let received = unbroken {other = codes ": "} (unbroken sent (word_unbroken m.receiver)) (record { whole = refl }) in
    let named = unbroken {other = codes "["} (unbroken received (word_unbroken m.name)) (record { whole = refl }) in
    unbroken (unbroken named (list_unbroken printed_formal m.params formal_unbroken)) (record { whole = refl })

-- a reference
reference_unbroken : (r : Reference) → IsUnbroken (printed_reference r)
reference_unbroken r =
    let named = unbroken {other = codes "("} (word_unbroken r.protocol) (record { whole = refl }) in
    let filled = unbroken (unbroken named (list_unbroken printed_word r.roles word_unbroken)) (commas_unbroken printed_formal r.params formal_unbroken) in
    unbroken filled (record { whole = refl })

-- a line of the layout
line_is_block : {text : List ℕ} → IsUnbroken text → IsBlock (indented_line text)
line_is_block {text} one = record {
  nothing = line_claims_nothing (codes "  " ++ text) one.whole refl;
  whole = closed (codes "  " ++ text) refl;
}

-- the line of an item
item_is_block : (i : Item) → IsBlock (item_line i)
item_is_block (item.Message m) = line_is_block (message_unbroken m)
item_is_block (item.Reference r) = line_is_block (reference_unbroken r)

-- the lines of all items
body_is_block : (body : List Item) → IsBlock (flat_map item_line body)
body_is_block [] = no_lines
body_is_block (i ∷ body) = block_joined (item_is_block i) (body_is_block body)

-- the line of the private parameters, if there are any
private_is_block : (words : List Word) → IsBlock (private_line words)
private_is_block [] = no_lines
private_is_block (w ∷ words) = line_is_block (unbroken {one = codes "private "} (record { whole = refl }) (list_unbroken printed_word (w ∷ words) word_unbroken))

-- the line with a protocol's name and a brace
name_is_block : (w : Word) → IsBlock (w.text ++ codes " {\n")
name_is_block w =
    let body = w.text ++ codes " {" in
    let none = joined_has_none 10 w.text (codes " {") (name_has_no_lf w.text w.named) refl in
    let as_one : body ++ codes "\n" ≡ w.text ++ codes " {\n" = append_assoc w.text (codes " {") (codes "\n") in record {
      nothing = subst ClaimsNothing as_one (record {
        protocol = line_avoids claim_lines body refl none (ap (begins claim_lines) as_one ∙ name_claims_nothing w.text (codes "\n") w.named);
        messages = λ name field. line_avoids (message_lines name) body refl none (ap (begins (message_lines name)) as_one ∙ name_says_no_message w.text (codes "\n") name w.named field);
      });
      whole = closed body (sym as_one);
    }

-- the text of a protocol
declaration_is_block : (d : Declaration) → IsBlock (printed_declaration d)
unfolding printed_declaration
declaration_is_block d =
    let roles = line_is_block (unbroken {one = codes "roles "} (record { whole = refl }) (list_unbroken printed_word d.roles word_unbroken)) in
    let params = line_is_block (unbroken {one = codes "parameters "} (record { whole = refl }) (list_unbroken printed_formal d.public formal_unbroken)) in
    let brace : IsBlock (codes "}\n") = record { nothing = line_claims_nothing (codes "}") refl refl; whole = closed (codes "}") refl } in
    block_joined (block_joined (block_joined (block_joined (block_joined (name_is_block d.name) roles) params) (private_is_block d.private)) (body_is_block d.body)) brace

-- also if it is alone in a document
pub printed_claims_nothing : (d : Declaration) → ClaimsNothing (printed (record { protocols = d ∷ [] }))
printed_claims_nothing d = subst ClaimsNothing (sym (append-nil (printed_declaration d))) (declaration_is_block d).nothing
