-- Why a text is refused.
use Rattle.std.proofs.Common.{◌≡◌, ℕ, List, [], ◌∷◌, ◌++◌, length, Ok, Err, inl, inr, refl, sym, ap, subst, ◌∙◌, append_assoc}
use Rattle.std.proofs.lemmas.List.{append-nil}
use Rattle.bspl_types.specs.declared.refusals.Refusal.TheVariants.{Syntax}
use Rattle.bspl_parser.specs.declared.document.Document.{Document}
use Rattle.bspl_parser.specs.declared.parse_error.ErrorPosition.{ErrorPosition}
use Rattle.bspl_parser.specs.declared.parse_error.ErrorPosition.TheVariants.{At, End}
use Rattle.bspl_parser.specs.declared.token.Token.{Token}
use Rattle.bspl_parser.specs.Grammar.{signs_of_document}
use Rattle.bspl_parser.specs.Judgement.{IsText, IsViable, IsBadSyntax, IsRefusedFor}
use Rattle.bspl_parser.specs.inner.ParseResult.{error_offset}
use Rattle.bspl_parser.specs.inner.GrammarParsers.{parse_document}
use Rattle.bspl_parser.specs.Spelling.{IsDocument, Spells}
use Rattle.bspl_parser.specs.Token.{offset_of}
use Rattle.bspl_parser.specs.Tokens.{Tokens, IsBadByte}
use Rattle.bspl_parser.proofs.Declarations.{document_sound, document_complete}
use Rattle.bspl_parser.proofs.PrefixStable.{StableFailure, position_of}
use Rattle.bspl_parser.proofs.ErrorPositionDocuments.{document_viable}
use Rattle.bspl_parser.proofs.Primitives.{first_of_same}
use Rattle.bspl_parser.proofs.Spelled.{Spelled, whole_from_Spelled}
use Rattle.bspl_parser.proofs.Unique.{Tokens_unique, bad_has_no_tokens}

-- what can be completed is viable
viable_of : (prefix : List Token) (more : List Token) (d : Document) → IsDocument d → Spelled (signs_of_document d) (prefix ++ more) [] → IsViable prefix
viable_of prefix more d formed spelled = (more, d, record { formed = formed; signed = whole_from_Spelled (signs_of_document d) (prefix ++ more) spelled })

-- no document begins with the tokens up to an error
stopped_at : (text : List ℕ) (ts : List Token) (f : ErrorPosition) → Tokens text ts → (failure : StableFailure parse_document ts f) → IsViable failure.prefix → (left : List Token) → failure.left ≡ left → parse_document ts ≡ Err f → (offset : ℕ) → offset ≡ error_offset f (length text) → IsRefusedFor text (Syntax offset)
stopped_at text ts f of_text failure viable [] is read offset at_offset =
    let end : f ≡ End = failure.position ∙ ap position_of is in
    inr (record {
      tokens = ts;
      scanned = of_text;
      viable = subst IsViable (sym (failure.parts ∙ ap (λ l. failure.prefix ++ l) is ∙ append-nil failure.prefix)) viable;
      none = λ d spelled. (let again = document_complete ts d spelled in cc);
      at_offset = at_offset ∙ ap (λ g. error_offset g (length text)) end;
    })
stopped_at text ts f of_text failure viable (t ∷ rest) is read offset at_offset =
    let at : f ≡ At (offset_of t) = failure.position ∙ ap position_of is in
    inl (record {
      prefix = failure.prefix;
      token = t;
      rest = rest;
      scanned = subst (Tokens text) (failure.parts ∙ ap (λ l. failure.prefix ++ l) is) of_text;
      at_offset = sym (at_offset ∙ ap (λ g. error_offset g (length text)) at);
      viable = viable;
      not_viable = λ viable.
          let again = document_complete ((failure.prefix ++ t ∷ []) ++ viable.0) viable.1 viable.2 in
          let list : (failure.prefix ++ t ∷ []) ++ viable.0 ≡ failure.prefix ++ t ∷ viable.0 = append_assoc failure.prefix (t ∷ []) viable.0 in
          let fails = failure.again t rest is viable.0 in
          let reads : parse_document (failure.prefix ++ t ∷ viable.0) ≡ Ok (viable.1, []) = ap parse_document (sym list) ∙ again in
          cc;
    })

-- an error at a token, or at the end
pub token_refused : (text : List ℕ) (ts : List Token) (f : ErrorPosition) (offset : ℕ) → Tokens text ts → parse_document ts ≡ Err f → offset ≡ error_offset f (length text) → IsRefusedFor text (Syntax offset)
token_refused text ts f offset of_text read at_offset =
    let b = document_viable ts f read in
    stopped_at text ts f of_text b.failure (viable_of b.failure.prefix b.more b.value b.good b.spelled) b.failure.left refl read offset at_offset

-- the document that was read
pub text_of : (text : List ℕ) (ts left : List Token) (d : Document) → Tokens text ts → parse_document ts ≡ Ok (d, left) → left ≡ [] → IsText text d
text_of text ts left d of_text read all = record { tokens = ts; scanned = of_text; spelled = document_sound ts d (read ∙ ap (λ r. Ok (d, r)) all) }

-- a prefix of viable tokens is viable
viable_prefix : (prefix more : List Token) → IsViable (prefix ++ more) → IsViable prefix
viable_prefix prefix more viable = (more ++ viable.0, viable.1, subst (λ ts. Spells ts viable.1) (append_assoc prefix more viable.0) viable.2)

-- a token that is not viable is in no document's tokens
dead_in : (prefix : List Token) (t : Token) (rest : List Token) → ¬ IsViable (prefix ++ t ∷ []) → IsViable (prefix ++ t ∷ rest) → ⊥
dead_in prefix t rest dead viable = dead (viable_prefix (prefix ++ t ∷ []) rest (subst IsViable (sym (append_assoc prefix (t ∷ []) rest)) viable))

-- one token is the first bad one
one_bad : (prefix prefix' : List Token) (t t' : Token) (rest rest' : List Token) → ((more : List Token) → prefix' ≡ prefix ++ t ∷ more → ⊥) → ((more : List Token) → prefix ≡ prefix' ++ t' ∷ more → ⊥) → prefix ++ t ∷ rest ≡ prefix' ++ t' ∷ rest' → t ≡ t'
one_bad [] [] t t' rest rest' here there e = cc
one_bad [] (u ∷ prefix') t t' rest rest' here there e = absurd (here prefix' (let first : u ≡ t = cc in cc))
one_bad (u ∷ prefix) [] t t' rest rest' here there e = absurd (there prefix (let first : u ≡ t' = cc in cc))
one_bad (u ∷ prefix) (v ∷ prefix') t t' rest rest' here there e =
    let heads : u ≡ v = cc in
    let tails : prefix ++ t ∷ rest ≡ prefix' ++ t' ∷ rest' = cc in
    one_bad prefix prefix' t t' rest rest' (λ more is. here more cc) (λ more is. there more cc) tails

-- a text of tokens has one offset of bad syntax
pub syntax_unique : (text : List ℕ) (a b : ℕ) → IsBadSyntax text a → IsBadSyntax text b → a ≡ b
syntax_unique text a b (inl x) (inl y) =
    let same = Tokens_unique text (x.prefix ++ x.token ∷ x.rest) (y.prefix ++ y.token ∷ y.rest) x.scanned y.scanned in
    let here : (more : List Token) → y.prefix ≡ x.prefix ++ x.token ∷ more → ⊥ = λ more is. dead_in x.prefix x.token more x.not_viable (subst IsViable is y.viable) in
    let there : (more : List Token) → x.prefix ≡ y.prefix ++ y.token ∷ more → ⊥ = λ more is. dead_in y.prefix y.token more y.not_viable (subst IsViable is x.viable) in
    sym x.at_offset ∙ ap offset_of (one_bad x.prefix y.prefix x.token y.token x.rest y.rest here there same) ∙ y.at_offset
syntax_unique text a b (inl x) (inr y) =
    let same = Tokens_unique text (x.prefix ++ x.token ∷ x.rest) y.tokens x.scanned y.scanned in
    absurd (dead_in x.prefix x.token x.rest x.not_viable (subst IsViable (sym same) y.viable))
syntax_unique text a b (inr x) (inl y) =
    let same = Tokens_unique text (y.prefix ++ y.token ∷ y.rest) x.tokens y.scanned x.scanned in
    absurd (dead_in y.prefix y.token y.rest y.not_viable (subst IsViable (sym same) x.viable))
syntax_unique text a b (inr x) (inr y) = x.at_offset ∙ sym y.at_offset

-- a text that spells a document has no bad syntax
pub syntax_has_no_document : (text : List ℕ) (a : ℕ) (d : Document) → IsBadSyntax text a → IsText text d → ⊥
syntax_has_no_document text a d (inl x) of_d =
    let same = Tokens_unique text of_d.tokens (x.prefix ++ x.token ∷ x.rest) of_d.scanned x.scanned in
    let viable : IsViable (x.prefix ++ x.token ∷ x.rest) = ([], d, subst (λ ts. Spells ts d) (same ∙ sym (append-nil (x.prefix ++ x.token ∷ x.rest))) of_d.spelled) in
    dead_in x.prefix x.token x.rest x.not_viable viable
syntax_has_no_document text a d (inr x) of_d = x.none d (subst (λ ts. Spells ts d) (Tokens_unique text of_d.tokens x.tokens of_d.scanned x.scanned) of_d.spelled)

-- nor a bad byte
pub syntax_has_no_bad_byte : (text : List ℕ) (a b : ℕ) → IsBadSyntax text a → IsBadByte text b → ⊥
syntax_has_no_bad_byte text a b (inl x) bad = bad_has_no_tokens text b (x.prefix ++ x.token ∷ x.rest) bad x.scanned
syntax_has_no_bad_byte text a b (inr x) bad = bad_has_no_tokens text b x.tokens bad x.scanned

-- documents of one text are one
pub one_document : (text : List ℕ) (d e : Document) → IsText text d → IsText text e → d ≡ e
one_document text d e of_d of_e =
    let tokens = Tokens_unique text of_d.tokens of_e.tokens of_d.scanned of_e.scanned in
    first_of_same d e (sym (document_complete of_d.tokens d of_d.spelled) ∙ ap parse_document tokens ∙ document_complete of_e.tokens e of_e.spelled)
