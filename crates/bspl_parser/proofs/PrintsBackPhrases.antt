-- Parameters, messages and references are scanned as they are printed.
use Rattle.std.proofs.Common.{◌≡◌, ℕ, List, [], ◌∷◌, ◌++◌, Option, Some, None, map, refl, ap, append_assoc}
use Rattle.bspl_parser.specs.declared.document.Adorn.{Adorn}
use Rattle.bspl_parser.specs.declared.document.Formal.{Formal}
use Rattle.bspl_parser.specs.declared.document.Schema.{Schema}
use Rattle.bspl_parser.specs.declared.document.Reference.{Reference}
use Rattle.bspl_parser.specs.declared.symbol.Symbol.TheVariants.{Key, OpenBracket, CloseBracket, OpenParen, CloseParen}
use Rattle.bspl_parser.specs.declared.word.Word.{Word}
use Rattle.bspl_parser.specs.Alike.{word_without_offset, key_without_offset, formal_without_offsets, message_without_offsets, reference_without_offsets}
use Rattle.bspl_parser.specs.Grammar.{signs_of_word, signs_of_key, signs_of_formal, signs_of_message, signs_of_reference}
use Rattle.bspl_parser.specs.Layout.{comma_separated, printed_word, printed_key, printed_formal, printed_message, printed_reference}
use Rattle.bspl_parser.specs.Sign.{Named, Located, Plain, after_commas, listed}
use Rattle.bspl_parser.specs.Tokens.{nothing}
use Rattle.bspl_parser.proofs.MaximalMunch.{IsSeparated, at_space, at_colon, at_open_bracket, at_close_bracket, at_open_paren, at_close_paren}
use Rattle.bspl_parser.proofs.PrintsBack.{PrintsBack, PrintsBack-as, PrintsBack-before, PrintsBack-then, Anything, gap_prints_back}
use Rattle.bspl_parser.proofs.PrintsBackLists.{commas_separated, commas_prints_back, list_prints_back}
use Rattle.bspl_parser.proofs.PrintsBackTokens.{name_prints_back, word_prints_back, mark_prints_back, adorn_prints_back, space_prints_back, colon_prints_back, arrow_prints_back}

-- the word `key`, or nothing
key_prints_back : (key : Option ℕ) → PrintsBack IsSeparated (printed_key key) signs_of_key (λ k. key_without_offset k ≡ key_without_offset key)
key_prints_back None = PrintsBack-as signs_of_key (λ k. key_without_offset k ≡ None) (λ (u : Unit {0}). None) (λ u. refl) (λ u like. refl) (PrintsBack-before IsSeparated (λ rest must. tt) (gap_prints_back nothing))
key_prints_back (Some offset) =
    PrintsBack-as signs_of_key (λ k. key_without_offset k ≡ Some 0) (λ (v : Unit {0} × ℕ). Some v.1) (λ v. refl) (λ v like. refl)
    (PrintsBack-then (λ rest must. tt) space_prints_back (word_prints_back Key (λ o. Located Key o) refl (λ o. refl)))

key_separated : (key : Option ℕ) (rest : List ℕ) → IsSeparated rest → IsSeparated (printed_key key ++ rest)
key_separated None rest separated = separated
key_separated (Some offset) rest separated = at_space _

-- parameters of one name and one key are one
formal_same : (a : Adorn) (v w : Word) (k h : Option ℕ) → v ≡ w → k ≡ h → ◌≡◌ {A = Formal} (record { adorn = a; offset = 0; name = v; key = k }) (record { adorn = a; offset = 0; name = w; key = h })
formal_same a v w k h names keys = rw (names, keys) refl

-- a parameter
pub formal_prints_back : (f : Formal) → PrintsBack IsSeparated (printed_formal f) signs_of_formal (λ g. formal_without_offsets g ≡ formal_without_offsets f)
formal_prints_back f =
    PrintsBack-as signs_of_formal (λ g. formal_without_offsets g ≡ formal_without_offsets f)
    (λ (v : ((ℕ × Unit {0}) × Word) × Option ℕ). record { adorn = f.adorn; offset = v.0.0.0; name = v.0.1; key = v.1 }) (λ v. refl)
    (λ v like. formal_same f.adorn (word_without_offset v.0.1) (word_without_offset f.name) (key_without_offset v.1) (key_without_offset f.key) like.0.1 like.1)
    (PrintsBack-then (key_separated f.key) (PrintsBack-then (λ rest must. tt) (PrintsBack-then (λ rest must. at_space rest) (adorn_prints_back f.adorn) space_prints_back) (name_prints_back f.name)) (key_prints_back f.key))

-- names, and parameters, with commas
pub words_prints_back : (ws : List Word) → PrintsBack IsSeparated (comma_separated printed_word ws) (listed signs_of_word) (λ vs. map word_without_offset vs ≡ map word_without_offset ws)
words_prints_back ws = list_prints_back printed_word signs_of_word word_without_offset name_prints_back ws

pub formals_prints_back : (fs : List Formal) → PrintsBack IsSeparated (comma_separated printed_formal fs) (listed signs_of_formal) (λ gs. map formal_without_offsets gs ≡ map formal_without_offsets fs)
formals_prints_back fs = list_prints_back printed_formal signs_of_formal formal_without_offsets formal_prints_back fs

-- messages of equal parts are one
message_same : (a b c d e f : Word) (ps qs : List Formal) → a ≡ b → c ≡ d → e ≡ f → ps ≡ qs → ◌≡◌ {A = Schema} (record { sender = a; receiver = c; name = e; params = ps }) (record { sender = b; receiver = d; name = f; params = qs })
message_same a b c d e f ps qs senders receivers names params = rw (senders, receivers, names, params) refl

-- a message
pub message_prints_back : (m : Schema) → PrintsBack Anything (printed_message m) signs_of_message (λ n. message_without_offsets n ≡ message_without_offsets m)
message_prints_back m =
    let sent = PrintsBack-then (λ rest must. at_space _) (name_prints_back m.sender) arrow_prints_back in
    let received = PrintsBack-then (λ rest must. at_colon _) (PrintsBack-then (λ rest must. tt) sent (name_prints_back m.receiver)) colon_prints_back in
    let named = PrintsBack-then (λ rest must. at_open_bracket rest) (PrintsBack-then (λ rest must. tt) received (name_prints_back m.name)) (mark_prints_back OpenBracket refl) in
    PrintsBack-as signs_of_message (λ n. message_without_offsets n ≡ message_without_offsets m)
    (λ (v : (((((((Word × ℕ) × Word) × ℕ) × Word) × ℕ) × List Formal) × ℕ)). record { sender = v.0.0.0.0.0.0.0; receiver = v.0.0.0.0.0.1; name = v.0.0.0.1; params = v.0.1 }) (λ v. refl)
    (λ v like. message_same _ _ _ _ _ _ _ _ like.0.0.0.0.0.0.0 like.0.0.0.0.0.1 like.0.0.0.1 like.0.1)
    (PrintsBack-then (λ rest must. at_close_bracket rest) (PrintsBack-then (λ rest must. tt) named (formals_prints_back m.params)) (mark_prints_back CloseBracket refl))

-- references of equal parts are one
reference_same : (a b : Word) (vs ws : List Word) (ps qs : List Formal) → a ≡ b → vs ≡ ws → ps ≡ qs → ◌≡◌ {A = Reference} (record { protocol = a; roles = vs; params = ps }) (record { protocol = b; roles = ws; params = qs })
reference_same a b vs ws ps qs protocols roles params = rw (protocols, roles, params) refl

-- a reference
pub reference_prints_back : (r : Reference) → PrintsBack Anything (printed_reference r) signs_of_reference (λ s. reference_without_offsets s ≡ reference_without_offsets r)
reference_prints_back r =
    let opened = PrintsBack-then (λ rest must. at_open_paren rest) (name_prints_back r.protocol) (mark_prints_back OpenParen refl) in
    let roles = PrintsBack-then (λ rest must. tt) opened (words_prints_back r.roles) in
    let params = PrintsBack-then (commas_separated printed_formal signs_of_formal formal_without_offsets r.params) roles (commas_prints_back printed_formal signs_of_formal formal_without_offsets formal_prints_back r.params) in
    PrintsBack-as signs_of_reference (λ s. reference_without_offsets s ≡ reference_without_offsets r)
    (λ (v : (((Word × ℕ) × List Word) × List Formal) × ℕ). record { protocol = v.0.0.0.0; roles = v.0.0.1; params = v.0.1 })
    (λ v. ap (λ signs. Named v.0.0.0.0 ∷ Plain OpenParen ∷ signs) (append_assoc (listed signs_of_word v.0.0.1) (after_commas signs_of_formal v.0.1) (Plain CloseParen ∷ [])))
    (λ v like. reference_same _ _ _ _ _ _ like.0.0.0.0 like.0.0.1 like.0.1)
    (PrintsBack-then (λ rest must. at_close_paren rest) params (mark_prints_back CloseParen refl))
