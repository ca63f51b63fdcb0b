-- Lines, protocols and documents are scanned as they are printed.
use Rattle.std.proofs.Common.{◌≡◌, ℕ, List, [], ◌∷◌, ◌++◌, map, inl, refl, ap, ◌∙◌, codes, append_assoc}
use Rattle.std.specs.List.{flat_map}
use Rattle.std.proofs.lemmas.List.{append-nil}
use Rattle.bspl_parser.specs.declared.document.Formal.{Formal}
use Rattle.bspl_parser.specs.declared.document.Item.{Item}
use Rattle.bspl_parser.specs.declared.document.Item.TheVariants as item
use Rattle.bspl_parser.specs.declared.document.Declaration.{Declaration}
use Rattle.bspl_parser.specs.declared.document.Document.{Document}
use Rattle.bspl_parser.specs.declared.symbol.Symbol.TheVariants.{Roles, Role, Parameters, Parameter, Private, OpenBrace, CloseBrace}
use Rattle.bspl_parser.specs.declared.word.Word.{Word}
use Rattle.bspl_parser.specs.Alike.{word_without_offset, formal_without_offsets, item_without_offsets, declaration_without_offsets, without_offsets}
use Rattle.bspl_parser.specs.Grammar.{signs_of_word, signs_of_formal, signs_of_item, signs_of_private, signs_of_declaration, signs_of_document}
use Rattle.bspl_parser.specs.Layout.{comma_separated, indented_line, printed_word, printed_formal, item_line, private_line, printed_declaration, printed}
use Rattle.bspl_parser.specs.Sign.{Sign, Named, Plain, OneOf, listed}
use Rattle.bspl_parser.specs.Tokens.{nothing, blank}
use Rattle.bspl_parser.proofs.MaximalMunch.{IsSeparated, at_space, at_lf}
use Rattle.bspl_parser.proofs.PrintsBack.{PrintsBack, PrintsBack-as, PrintsBack-then, Anything, gap_prints_back}
use Rattle.bspl_parser.proofs.PrintsBackLists.{commas_separated, commas_prints_back, each_prints_back, joined_prints_back}
use Rattle.bspl_parser.proofs.PrintsBackPhrases.{words_prints_back, formals_prints_back, message_prints_back, reference_prints_back}
use Rattle.bspl_parser.proofs.PrintsBackTokens.{name_prints_back, spaced_prints_back, indent_prints_back, lf_prints_back, open_prints_back, close_prints_back}

module _ {X : Type 0} {text : List ℕ} {signs : X → List Sign} {Like : X → Type 0} where
  -- a line of what an LF may follow
  pub line_prints_back : (May : List ℕ → Type 0) → ((rest : List ℕ) → May (10 ∷ rest)) → PrintsBack May text signs Like → PrintsBack Anything (indented_line text) signs Like
  line_prints_back May before_lf prints =
      PrintsBack-as signs Like (λ (v : (Unit {0} × X) × Unit {0}). v.0.1) (λ v. append-nil (signs v.0.1)) (λ v like. like.0.1)
      (PrintsBack-then (λ rest must. before_lf rest) (PrintsBack-then (λ rest must. tt) indent_prints_back prints) lf_prints_back)

-- an item
item_prints_back : (i : Item) → PrintsBack Anything (item_line i) signs_of_item (λ j. item_without_offsets j ≡ item_without_offsets i)
item_prints_back (item.Message m) = PrintsBack-as signs_of_item (λ j. item_without_offsets j ≡ item_without_offsets (item.Message m)) item.Message (λ n. refl) (λ n like. ap item.Message like) (line_prints_back Anything (λ rest. tt) (message_prints_back m))
item_prints_back (item.Reference r) = PrintsBack-as signs_of_item (λ j. item_without_offsets j ≡ item_without_offsets (item.Reference r)) item.Reference (λ s. refl) (λ s like. ap item.Reference like) (line_prints_back Anything (λ rest. tt) (reference_prints_back r))

body_prints_back : (body : List Item) → PrintsBack Anything (flat_map item_line body) (λ (is : List Item). flat_map signs_of_item is) (λ is. map item_without_offsets is ≡ map item_without_offsets body)
body_prints_back body = each_prints_back item_line signs_of_item item_without_offsets item_prints_back [] nothing body

-- the roles
roles_prints_back : (ws : List Word) → PrintsBack Anything (indented_line (codes "roles " ++ comma_separated printed_word ws)) (λ (vs : List Word). OneOf Roles Role ∷ listed signs_of_word vs) (λ vs. map word_without_offset vs ≡ map word_without_offset ws)
roles_prints_back ws =
    line_prints_back IsSeparated at_lf
    (PrintsBack-as (λ (vs : List Word). OneOf Roles Role ∷ listed signs_of_word vs) (λ vs. map word_without_offset vs ≡ map word_without_offset ws) (λ (v : ℕ × List Word). v.1) (λ v. refl) (λ v like. like.1)
    (PrintsBack-then (λ rest must. tt) (spaced_prints_back Roles (λ o. OneOf Roles Role) refl (λ o. (o, inl refl))) (words_prints_back ws)))

-- the public parameters
public_prints_back : (fs : List Formal) → PrintsBack Anything (indented_line (codes "parameters " ++ comma_separated printed_formal fs)) (λ (gs : List Formal). OneOf Parameters Parameter ∷ listed signs_of_formal gs) (λ gs. map formal_without_offsets gs ≡ map formal_without_offsets fs)
public_prints_back fs =
    line_prints_back IsSeparated at_lf
    (PrintsBack-as (λ (gs : List Formal). OneOf Parameters Parameter ∷ listed signs_of_formal gs) (λ gs. map formal_without_offsets gs ≡ map formal_without_offsets fs) (λ (v : ℕ × List Formal). v.1) (λ v. refl) (λ v like. like.1)
    (PrintsBack-then (λ rest must. tt) (spaced_prints_back Parameters (λ o. OneOf Parameters Parameter) refl (λ o. (o, inl refl))) (formals_prints_back fs)))

-- equal words before equal lists of words
words_same : (v w : Word) (vs ws : List Word) → word_without_offset v ≡ word_without_offset w → map word_without_offset vs ≡ map word_without_offset ws → map word_without_offset (v ∷ vs) ≡ map word_without_offset (w ∷ ws)
words_same v w vs ws heads tails = both (word_without_offset v) (word_without_offset w) (map word_without_offset vs) (map word_without_offset ws) heads tails
  where
    both : (x y : Word) (xs ys : List Word) → x ≡ y → xs ≡ ys → x ∷ xs ≡ y ∷ ys
    both x y xs ys first others = cc

-- the private parameters, where there are some
private_prints_back : (ws : List Word) → PrintsBack Anything (private_line ws) signs_of_private (λ vs. map word_without_offset vs ≡ map word_without_offset ws)
private_prints_back [] = PrintsBack-as signs_of_private (λ vs. map word_without_offset vs ≡ []) (λ (u : Unit {0}). []) (λ u. refl) (λ u like. refl) (gap_prints_back nothing)
private_prints_back (w ∷ ws) =
    line_prints_back IsSeparated at_lf
    (PrintsBack-as signs_of_private (λ vs. map word_without_offset vs ≡ map word_without_offset (w ∷ ws)) (λ (v : ℕ × (Word × List Word)). v.1.0 ∷ v.1.1) (λ v. refl) (λ v like. words_same v.1.0 w v.1.1 ws like.1.0 like.1.1)
    (PrintsBack-then (λ rest must. tt) (spaced_prints_back Private (λ o. Plain Private) refl (λ o. (o, refl))) (PrintsBack-then (commas_separated printed_word signs_of_word word_without_offset ws) (name_prints_back w) (commas_prints_back printed_word signs_of_word word_without_offset name_prints_back ws))))

-- protocols of equal parts are one
declaration_same : (a b : Word) (vs ws : List Word) (fs gs : List Formal) (ps qs : List Word) (is js : List Item) → a ≡ b → vs ≡ ws → fs ≡ gs → ps ≡ qs → is ≡ js
    → ◌≡◌ {A = Declaration} (record { name = a; roles = vs; public = fs; private = ps; body = is }) (record { name = b; roles = ws; public = gs; private = qs; body = js })
declaration_same a b vs ws fs gs ps qs is js names roles public private body = rw (names, roles, public, private, body) refl

-- the parts of a protocol's signs, from the left or from the right
regrouped : (a b c d : List Sign) → ((a ++ b) ++ c) ++ d ≡ a ++ (b ++ (c ++ d))
regrouped a b c d = append_assoc (a ++ b) c d ∙ append_assoc a b (c ++ d)

-- a protocol
declaration_prints_back : (d : Declaration) → PrintsBack Anything (printed_declaration d) signs_of_declaration (λ e. declaration_without_offsets e ≡ declaration_without_offsets d)
unfolding printed_declaration
declaration_prints_back d =
    let named = PrintsBack-then (λ rest must. at_space _) (name_prints_back d.name) open_prints_back in
    let roles = PrintsBack-then (λ rest must. tt) named (roles_prints_back d.roles) in
    let public = PrintsBack-then (λ rest must. tt) roles (public_prints_back d.public) in
    let private = PrintsBack-then (λ rest must. tt) public (private_prints_back d.private) in
    let body = PrintsBack-then (λ rest must. tt) private (body_prints_back d.body) in
    PrintsBack-as signs_of_declaration (λ e. declaration_without_offsets e ≡ declaration_without_offsets d)
    (λ (v : (((((Word × ℕ) × List Word) × List Formal) × List Word) × List Item) × ℕ). record { name = v.0.0.0.0.0.0; roles = v.0.0.0.0.1; public = v.0.0.0.1; private = v.0.0.1; body = v.0.1 })
    (λ v. regrouped (Named v.0.0.0.0.0.0 ∷ Plain OpenBrace ∷ OneOf Roles Role ∷ (listed signs_of_word v.0.0.0.0.1 ++ OneOf Parameters Parameter ∷ listed signs_of_formal v.0.0.0.1)) (signs_of_private v.0.0.1) (flat_map signs_of_item v.0.1) (Plain CloseBrace ∷ []))
    (λ v like. declaration_same _ _ _ _ _ _ _ _ _ _ like.0.0.0.0.0.0 like.0.0.0.0.1 like.0.0.0.1 like.0.0.1 like.0.1)
    (PrintsBack-then (λ rest must. tt) body close_prints_back)

-- a document
pub document_prints_back : (d : Document) → PrintsBack Anything (printed d) signs_of_document (λ e. without_offsets e ≡ without_offsets d)
document_prints_back d =
    PrintsBack-as signs_of_document (λ e. without_offsets e ≡ without_offsets d) (λ (ds : List Declaration). record { protocols = ds }) (λ ds. refl) (λ ds like. documents_same (map declaration_without_offsets ds) (map declaration_without_offsets d.protocols) like)
    (joined_prints_back printed_declaration signs_of_declaration declaration_without_offsets declaration_prints_back (codes "\n") (blank refl nothing) d.protocols)
  where
    documents_same : (ds es : List Declaration) → ds ≡ es → ◌≡◌ {A = Document} (record { protocols = ds }) (record { protocols = es })
    documents_same ds es same = rw same refl
