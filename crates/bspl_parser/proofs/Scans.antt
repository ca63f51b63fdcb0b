-- The token that is found at the start of bytes is the longest there, and none is found only if none is there.
use Rattle.std.proofs.Common.{◌≡◌, ℕ, suc, ◌+◌, ◌<◌, ◌≤◌, Bool, true, false, cond, eqb, ltb, List, [], ◌∷◌, ◌++◌, map, length, take, drop, Option, Some, None, inl, inr, refl, sym, ap, subst, ◌∙◌, append_assoc, arith}
use Rattle.std.specs.Prelude.{IsTrue}
use Rattle.std.specs.List.{find, list_any, starts_with}
use Rattle.std.specs.Option.{option_map, option_map_or}
use Rattle.std.specs.Str.{bytes_eq}
use Rattle.std.specs.Cmp.Lexicographic.{bytes_decides}
use Rattle.std.proofs.lemmas.Bool.{or_from, ltb-true, ltb-false}
use Rattle.std.proofs.lemmas.List.{take-append-drop, length-append, take_at, length-take, length-take-le, nil_from_length}
use Rattle.bspl_types.specs.Name.{is_name}
use Rattle.bspl_parser.specs.declared.name_length.State.TheVariants.{Start}
use Rattle.bspl_parser.specs.declared.packed_token.Kind.{Kind}
use Rattle.bspl_parser.specs.declared.packed_token.Kind.TheVariants as kind
use Rattle.bspl_parser.specs.declared.symbol.Symbol.{Symbol}
use Rattle.bspl_parser.specs.declared.symbol.Symbol.TheVariants.{Arrow}
use Rattle.bspl_parser.specs.declared.token.Token.{Token}
use Rattle.bspl_parser.specs.declared.token.Token.TheVariants.{Name, Fixed}
use Rattle.bspl_parser.specs.inner.NameLength.{name_len}
use Rattle.bspl_parser.specs.Symbol.{spelling}
use Rattle.bspl_parser.specs.inner.SymbolTable.{words, marks}
use Rattle.bspl_parser.specs.Token.{offset_of}
use Rattle.bspl_parser.specs.inner.Scanner.{word_symbol, word_kind, mark_at, first_token, IsTokenOf}
use Rattle.bspl_parser.specs.Tokens.{long_arrow, SpellsSymbol, SpellsToken, IsLongestToken}
use Rattle.bspl_parser.proofs.LastEnds.{LongestPrefix, no_name_there, longest_name}
use Rattle.bspl_parser.proofs.NameLemmas.{accepted_is_name}
use Rattle.bspl_parser.proofs.NameLengthLemmas.{accepts}
use Rattle.bspl_parser.proofs.Texts.{texts, texts_solid, some_is}

-- what is found passes the test
find_passes : {X : Type 0} (p : X → Bool) (xs : List X) (x : X) → find p xs ≡ Some x → p x ≡ true
find_passes p [] x e = absurd cc
find_passes p (y ∷ ys) x e =
    (elim (p y) as (λ b. p y ≡ b → cond b (Some y) (find p ys) ≡ Some x → p x ≡ true) [
      | true ↦ λ passes found. let same : y ≡ x = cc in subst (λ z. p z ≡ true) same passes
      | false ↦ λ fails found. find_passes p ys x found
    ]) refl e

-- and where nothing passes nothing is among the images
find_none : {X Y : Type 0} (p : X → Bool) (q : Y → Bool) (f : X → Y) → ((x : X) → q (f x) ≡ p x) → (xs : List X) → find p xs ≡ None → list_any q (map f xs) ≡ false
find_none p q f same [] e = refl
find_none p q f same (y ∷ ys) e =
    (elim (p y) as (λ b. p y ≡ b → cond b (Some y) (find p ys) ≡ None → list_any q (map f (y ∷ ys)) ≡ false) [
      | true ↦ λ passes found. absurd cc
      | false ↦ λ fails found. or_from (q (f y)) (list_any q (map f ys)) (same y ∙ fails) (find_none p q f same ys found)
    ]) refl e

-- what is known of the token that is found at the start
pub record IsFirstToken (bytes : List ℕ) (found : Kind) (len : ℕ) : Type 0 where
  pub some : 0 < len
  pub within : len ≤ length bytes
  pub spelled : (offset : ℕ) (t : Token) → IsTokenOf found (take len bytes) offset t → SpellsToken (take len bytes) t × (offset_of t ≡ offset)
  pub longest : IsLongestToken (take len bytes) (drop len bytes)
  pub named : found ≡ kind.Name → IsTrue (is_name (take len bytes))

-- a word that is found is the token's text
word_found : (text : List ℕ) (found : Option Symbol) → word_symbol text ≡ found → (offset : ℕ) (t : Token) → IsTokenOf (option_map_or kind.Fixed found kind.Name) text offset t → SpellsToken text t × (offset_of t ≡ offset)
word_found text None none offset (Name w) is = is
word_found text None none offset (Fixed s o) is = absurd is
word_found text (Some s) some offset t is =
    let spelled : text ≡ spelling s = (bytes_decides text (spelling s)).0 (find_passes (λ s. bytes_eq text (spelling s)) words s some) in
    subst (λ u. SpellsToken text u × (offset_of u ≡ offset)) (sym is) (inl spelled, refl)

-- a word that is found as a name is one
word_named : (text : List ℕ) (found : Option Symbol) → word_symbol text ≡ found → accepts Start text ≡ true → option_map_or kind.Fixed found kind.Name ≡ kind.Name → IsTrue (is_name text)
word_named text None none word is = accepted_is_name text word (find_none (λ s. bytes_eq text (spelling s)) (bytes_eq text) spelling (λ s. refl) words none)
word_named text (Some s) some word is = absurd cc

-- a prefix of a prefix
first_of : (bytes text after : List ℕ) → bytes ≡ text ++ after → take (length text) bytes ≡ text
first_of bytes text after parts = ap (take (length text)) parts ∙ take_at text after (length text) refl

-- no token's text begins with the longest name and is longer
word_longest : (bytes : List ℕ) (k : ℕ) → LongestPrefix Start bytes k → IsLongestToken (take (suc k) bytes) (drop (suc k) bytes)
word_longest bytes k prefix more after longer parts spells =
    let text = take (suc k) bytes in
    let whole : bytes ≡ (text ++ more) ++ after = sym (take-append-drop (suc k) bytes) ∙ ap (λ r. text ++ r) parts ∙ sym (append_assoc text more after) in
    let len : length text ≡ suc k = length-take-le (suc k) bytes (let within = prefix.within in omega arith) in
    let fits : length (text ++ more) ≤ length bytes = (let both = ap length whole in omega (arith, both, length-append (text ++ more) after)) in
    elim (texts (text ++ more) longer spells) [
      | inl accepted ↦ none_more more (length-append text more) len fits (first_of bytes (text ++ more) after whole) accepted
      | inr mark ↦ absurd (let no = mark.no_name after (suc k) in let same : accepts Start (take (suc k) bytes) ≡ false = ap (λ b. accepts Start (take (suc k) b)) whole ∙ no in let accepted = prefix.accepted in cc)
    ]
  where
    none_more : (more : List ℕ) → length (take (suc k) bytes ++ more) ≡ length (take (suc k) bytes) + length more → length (take (suc k) bytes) ≡ suc k → length (take (suc k) bytes ++ more) ≤ length bytes → take (length (take (suc k) bytes ++ more)) bytes ≡ take (suc k) bytes ++ more → accepts Start (take (suc k) bytes ++ more) ≡ true → more ≡ []
    none_more [] sum len fits is accepted = refl
    none_more (c ∷ cs) sum len fits is accepted =
        let j : ℕ = k + suc (length cs) in
        let long : length (take (suc k) bytes ++ c ∷ cs) ≡ suc j = omega arith in
        let no = prefix.longest j (omega arith) (omega arith) in
        let same : accepts Start (take (suc j) bytes) ≡ accepts Start (take (suc k) bytes ++ c ∷ cs) = ap (λ n. accepts Start (take n bytes)) (sym long) ∙ ap (accepts Start) is in
        absurd cc

-- a token's text is not empty
some_text : (text : List ℕ) (t : Token) → SpellsToken text t → (m : ℕ) × (length text ≡ suc m)
some_text text t spells = let solid = texts_solid text t spells in (length solid.others, ap length solid.is)

-- the bytes begin with the mark that is found
mark_is : (bytes : List ℕ) (long : Bool) → starts_with eqb bytes long_arrow ≡ long → (found : Option Symbol) → find (λ s. starts_with eqb bytes (spelling s)) marks ≡ found → (s : Symbol) (n : ℕ)
    → ◌≡◌ {A = Option (Symbol × ℕ)} (cond long (Some (Arrow, 3)) (option_map (λ s. (s, length (spelling s))) found)) (Some (s, n)) → (text : List ℕ) × SpellsSymbol text s × (length text ≡ n) × (take n bytes ≡ text)
mark_is bytes true is found f s n e =
    let same = some_is (Arrow, 3) (s, n) e in
    let same_offset : 3 ≡ n = ap (λ p. p.1) same in
    (long_arrow, inr (sym (ap (λ p. p.0) same), refl), same_offset, ap (λ m. take m bytes) (sym same_offset) ∙ sym ((bytes_decides long_arrow (take 3 bytes)).0 is))
mark_is bytes false is None f s n e = absurd cc
mark_is bytes false is (Some t) f s n e =
    let same = some_is (t, length (spelling t)) (s, n) e in
    let same_offset : length (spelling t) ≡ n = ap (λ p. p.1) same in
    (spelling t, inl (ap (λ p. spelling p.0) same), same_offset, ap (λ m. take m bytes) (sym same_offset) ∙ sym ((bytes_decides (spelling t) (take (length (spelling t)) bytes)).0 (find_passes (λ s. starts_with eqb bytes (spelling s)) marks t f)))

mark_found : (bytes : List ℕ) (s : Symbol) (n : ℕ) → mark_at bytes ≡ Some (s, n) → (text : List ℕ) × SpellsSymbol text s × (length text ≡ n) × (take n bytes ≡ text)
unfolding mark_at
mark_found bytes s n e = mark_is bytes (starts_with eqb bytes long_arrow) refl (find (λ s. starts_with eqb bytes (spelling s)) marks) refl s n e

-- no token's text begins with a mark and is longer
mark_longest : (bytes : List ℕ) (s : Symbol) (n : ℕ) → name_len bytes ≡ 0 → mark_at bytes ≡ Some (s, n) → length (take n bytes) ≡ n → IsLongestToken (take n bytes) (drop n bytes)
mark_longest bytes s n none found len more after longer parts spells =
    let text = take n bytes in
    let whole : bytes ≡ (text ++ more) ++ after = sym (take-append-drop n bytes) ∙ ap (λ r. text ++ r) parts ∙ sym (append_assoc text more after) in
    let sum = length-append text more in
    elim (texts (text ++ more) longer spells) [
      | inl accepted ↦
          let some = some_text (text ++ more) longer spells in
          let fits : some.0 < length bytes = (let both = ap length whole in let long = some.1 in omega (arith, both, length-append (text ++ more) after)) in
          let no = no_name_there bytes none some.0 fits in
          let same : take (suc some.0) bytes ≡ text ++ more = ap (λ m. take m bytes) (sym some.1) ∙ first_of bytes (text ++ more) after whole in
          absurd (let yes : accepts Start (take (suc some.0) bytes) ≡ true = ap (accepts Start) same ∙ accepted in cc)
      | inr mark ↦
          let again : mark_at bytes ≡ Some (mark.symbol, length (text ++ more)) = ap mark_at whole ∙ mark.again after in
          let same : length (text ++ more) ≡ n = ap (λ p. p.1) (some_is (mark.symbol, length (text ++ more)) (s, n) (sym again ∙ found)) in
          nil_from_length more (omega arith)
    ]

named_first : (bytes : List ℕ) → 0 < name_len bytes → IsFirstToken bytes (word_kind (take (name_len bytes) bytes)) (name_len bytes)
named_first bytes some =
    let name = longest_name bytes some in
    let text = take (suc name.0) bytes in
    subst (λ n. IsFirstToken bytes (word_kind (take n bytes)) n) (sym name.1)
    (record {
      some = omega arith;
      within = (let within = name.2.within in omega arith);
      spelled = word_found text (word_symbol text) refl;
      longest = word_longest bytes name.0 name.2;
      named = word_named text (word_symbol text) refl name.2.accepted;
    })

marked_first : (bytes : List ℕ) (s : Symbol) (n : ℕ) → name_len bytes ≡ 0 → mark_at bytes ≡ Some (s, n) → IsFirstToken bytes (kind.Fixed s) n
marked_first bytes s n none found =
    let mark = mark_found bytes s n found in
    let len : length (take n bytes) ≡ n = ap length mark.3 ∙ mark.2 in
    let spelled : SpellsSymbol (take n bytes) s = subst (λ t. SpellsSymbol t s) (sym mark.3) mark.1 in
    let some = some_text (take n bytes) (Fixed s 0) spelled in
    record {
      some = (let long = some.1 in omega arith);
      within = (let cut = length-take n bytes in omega arith);
      spelled = λ offset t is. subst (λ u. SpellsToken (take n bytes) u × (offset_of u ≡ offset)) (sym is) (spelled, refl);
      longest = mark_longest bytes s n none found len;
      named = λ is. absurd cc;
    }

first_found : (bytes : List ℕ) (some : Bool) → ltb 0 (name_len bytes) ≡ some → (found : Option (Symbol × ℕ)) → mark_at bytes ≡ found → (k : Kind) (n : ℕ)
    → ◌≡◌ {A = Option (Kind × ℕ)} (cond some (Some (word_kind (take (name_len bytes) bytes), name_len bytes)) (option_map (λ m. (kind.Fixed m.0, m.1)) found)) (Some (k, n)) → IsFirstToken bytes k n
first_found bytes true some found f k n e =
    let m = name_len bytes in
    subst (λ (p : Kind × ℕ). IsFirstToken bytes p.0 p.1) (some_is (word_kind (take m bytes), m) (k, n) e) (named_first bytes (ltb-true 0 m some))
first_found bytes false none None f k n e = absurd cc
first_found bytes false none (Some m) f k n e =
    let zero_len : name_len bytes ≡ 0 = (let no = ltb-false 0 (name_len bytes) none in omega arith) in
    subst (λ (p : Kind × ℕ). IsFirstToken bytes p.0 p.1) (some_is (kind.Fixed m.0, m.1) (k, n) e) (marked_first bytes m.0 m.1 zero_len f)

-- the token that is found is the longest at the start
pub first_is_longest : (bytes : List ℕ) (k : Kind) (n : ℕ) → first_token bytes ≡ Some (k, n) → IsFirstToken bytes k n
unfolding first_token
first_is_longest bytes k n e = first_found bytes (ltb 0 (name_len bytes)) refl (mark_at bytes) refl k n e

first_not_found : (bytes : List ℕ) (some : Bool) → ltb 0 (name_len bytes) ≡ some → (found : Option (Symbol × ℕ)) → mark_at bytes ≡ found
    → ◌≡◌ {A = Option (Kind × ℕ)} (cond some (Some (word_kind (take (name_len bytes) bytes), name_len bytes)) (option_map (λ m. (kind.Fixed m.0, m.1)) found)) None
    → (text rest : List ℕ) (t : Token) → bytes ≡ text ++ rest → SpellsToken text t → ⊥
first_not_found bytes true some found f e text rest t parts spells = cc
first_not_found bytes false none (Some m) f e text rest t parts spells = cc
first_not_found bytes false none None f e text rest t parts spells =
    elim (texts text t spells) [
      | inl accepted ↦
          let some = some_text text t spells in
          let zero_len : name_len bytes ≡ 0 = (let no = ltb-false 0 (name_len bytes) none in omega arith) in
          let fits : some.0 < length bytes = (let both = ap length parts in let long = some.1 in omega (arith, both, length-append text rest)) in
          let no = no_name_there bytes zero_len some.0 fits in
          let yes : accepts Start (take (suc some.0) bytes) ≡ true = ap (λ m. accepts Start (take m bytes)) (sym some.1) ∙ ap (accepts Start) (first_of bytes text rest parts) ∙ accepted in
          cc
      | inr m ↦
          let again : mark_at bytes ≡ Some (m.symbol, length text) = ap mark_at parts ∙ m.again rest in
          cc
    ]

-- if none is found no prefix is a token's text
pub first_is_none : (bytes : List ℕ) → first_token bytes ≡ None → (text rest : List ℕ) (t : Token) → bytes ≡ text ++ rest → SpellsToken text t → ⊥
unfolding first_token
first_is_none bytes e text rest t parts spells = first_not_found bytes (ltb 0 (name_len bytes)) refl (mark_at bytes) refl e text rest t parts spells
