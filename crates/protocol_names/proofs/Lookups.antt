-- The first protocol of a name is at the first index of the name.
use Rattle.std.proofs.Common.{◌≡◌, ℕ, ◌≤◌, Bool, cond, List, length, Some, None, sym, ◌∙◌, ap, arith, inl, inr}
use Rattle.std.specs.Prelude.{nat_lt}
use Rattle.std.specs.List.{position, position_or_len, slice_get}
use Rattle.std.specs.Str.{bytes_eq}
use Rattle.std.proofs.lemmas.Bool.{cases_lt}
use Rattle.std.proofs.lemmas.Bool.Decides.{nat_tests}
use Rattle.std.proofs.lemmas.List.{length-map}
use Rattle.std.proofs.lemmas.List.Folds.{find_at}
use Rattle.std.proofs.lemmas.Option.{slice_get_past}
use Rattle.list_base.proofs.FirstIndex.{index_mapped}
use Rattle.bspl_parser.specs.declared.document.Declaration.{Declaration}
use Rattle.protocol_names.specs.Names.{protocol_of, protocol_words, texts}

-- the index that was found
index_is : (n l : ℕ) (index : ℕ) → cond (nat_lt n l) (Some n) None ≡ Some index → n ≡ index
index_is n l index is = elim (cases_lt n l) [ inl below ↦ grind (arith, nat_tests) | inr past ↦ absurd (grind (arith, nat_tests)) ]

-- where none was found, it is past the end
index_past : (n l : ℕ) → cond (nat_lt n l) (Some n) None ≡ None → l ≤ n
index_past n l is = elim (cases_lt n l) [ inl below ↦ absurd (grind (arith, nat_tests)) | inr past ↦ past ]

-- the test for a name
abbrev pub named : List ℕ → List ℕ → Bool
named name n = bytes_eq n name

-- where the name has an index, its protocol is there
pub protocol_at : (protocols : List Declaration) (names : List (List ℕ)) (name : List ℕ) (index : ℕ) → names ≡ texts (protocol_words protocols) → position (named name) names ≡ Some index → slice_get protocols index ≡ protocol_of protocols name
protocol_at protocols names name index in_order is =
    let here : position_or_len (named name) names ≡ index = index_is _ _ index is in
    let same : position_or_len (named name) names ≡ position_or_len (λ p. bytes_eq p.name.text name) protocols = ap (position_or_len (named name)) in_order ∙ index_mapped (named name) (λ w. w.text) (protocol_words protocols) ∙ index_mapped (λ w. bytes_eq w.text name) (λ (p : Declaration). p.name) protocols in
    ap (slice_get protocols) (sym here ∙ same) ∙ sym (find_at (λ p. bytes_eq p.name.text name) protocols)

-- and where it has none, there is no protocol
pub no_protocol : (protocols : List Declaration) (names : List (List ℕ)) (name : List ℕ) → names ≡ texts (protocol_words protocols) → position (named name) names ≡ None → protocol_of protocols name ≡ None
no_protocol protocols names name in_order is =
    let past : length names ≤ position_or_len (named name) names = index_past _ _ is in
    let same : position_or_len (named name) names ≡ position_or_len (λ p. bytes_eq p.name.text name) protocols = ap (position_or_len (named name)) in_order ∙ index_mapped (named name) (λ w. w.text) (protocol_words protocols) ∙ index_mapped (λ w. bytes_eq w.text name) (λ (p : Declaration). p.name) protocols in
    let long : length names ≡ length protocols = ap length in_order ∙ length-map _ _ ∙ length-map _ _ in
    find_at (λ p. bytes_eq p.name.text name) protocols ∙ slice_get_past protocols _ (omega (arith, past, same, long))
