-- The numbers of protocols, and the protocols of these numbers.
use Rattle.std.proofs.Common.{◌≡◌, ℕ, zero, suc, ◌+◌, ◌<◌, ◌≤◌, ◌⊎◌, Bool, cond, List, [], ◌∷◌, length, Some, None, refl, sym, ◌∙◌, ap, subst, arith, inl, inr}
use Rattle.std.specs.Prelude.{map, nat_lt, not, slice_get}
use Rattle.std.specs.List.{position, position_or_len}
use Rattle.std.specs.Str.{bytes_eq}
use Rattle.std.proofs.lemmas.Bool.{cases_lt}
use Rattle.std.proofs.lemmas.Bool.Decides.{nat_tests}
use Rattle.std.proofs.lemmas.List.{length-map}
use Rattle.std.proofs.lemmas.List.Folds.{find_at}
use Rattle.std.proofs.lemmas.Option.{slice_get_past}
use Rattle.bspl_parser.specs.declared.document.Declaration.{Declaration}
use Rattle.protocol_names.specs.Names.{protocol_of, protocol_words, texts}
use Rattle.protocol_limits.specs.Graph.{protocol_number}
use Rattle.protocol_limits.specs.Laws.{NumbersAreOfProtocols}

-- the first index in a mapped list
index_of_map : {X Y : Type 0} (p : Y → Bool) (f : X → Y) (xs : List X) → position_or_len p (map f xs) ≡ position_or_len (λ x. p (f x)) xs
index_of_map p f [] = refl
index_of_map p f (x ∷ xs) = ap (λ n. cond (not (p (f x))) (1 + n) 0) (index_of_map p f xs)

-- the test for a name, on names and on protocols
abbrev pub named : List ℕ → List ℕ → Bool
named name n = bytes_eq n name

abbrev pub is_named : List ℕ → Declaration → Bool
is_named name p = bytes_eq p.name.text name

-- the index of a name is the number of its protocol
pub number_by_names : (protocols : List Declaration) (names : List (List ℕ)) (name : List ℕ) → names ≡ texts (protocol_words protocols) → position (named name) names ≡ protocol_number protocols name
number_by_names protocols names name in_order =
    let index : position_or_len (named name) names ≡ position_or_len (is_named name) protocols = ap (position_or_len (named name)) in_order ∙ index_of_map (named name) (λ w. w.text) (protocol_words protocols) ∙ index_of_map (λ w. bytes_eq w.text name) (λ (p : Declaration). p.name) protocols in
    let long : length names ≡ length protocols = ap length in_order ∙ length-map _ _ ∙ length-map _ _ in
    (λ i. cond (nat_lt (index i) (long i)) (Some (index i)) None)

-- each index within a list has an item
stands : {X : Type 0} (xs : List X) (k : ℕ) → k < length xs → (x : X) × (slice_get xs k ≡ Some x)
stands [] k within = absurd (omega arith)
stands (x ∷ xs) zero within = (x, refl)
stands (x ∷ xs) (suc k) within = stands xs k (omega arith)

-- an index that was looked for is past the end, or within
pub index_cases : (n l : ℕ) → ((cond (nat_lt n l) (Some n) None ≡ None) × (l ≤ n)) ⊎ ((cond (nat_lt n l) (Some n) None ≡ Some n) × (n < l))
index_cases n l = elim (cases_lt n l) [
  | inl below ↦ inr (grind (arith, nat_tests), below)
  | inr past ↦ inl (grind (arith, nat_tests), past)
]

-- a name has no protocol, or one of its number
pub number_cases : (protocols : List Declaration) (name : List ℕ) → ((protocol_number protocols name ≡ None) × (protocol_of protocols name ≡ None)) ⊎ ((k : ℕ) × (q : Declaration) × (protocol_number protocols name ≡ Some k) × (protocol_of protocols name ≡ Some q) × (slice_get protocols k ≡ Some q))
number_cases protocols name =
    let index = position_or_len (is_named name) protocols in
    let found = find_at (is_named name) protocols in
    elim (index_cases index (length protocols)) [
      | inl none ↦ inl (none.0, found ∙ slice_get_past protocols index none.1)
      | inr some ↦ let at = stands protocols index some.1 in inr (index, at.0, some.0, found ∙ at.1, at.1)
    ]

-- a number is that of a protocol
pub number_within : (protocols : List Declaration) (name : List ℕ) (k : ℕ) → protocol_number protocols name ≡ Some k → k < length protocols
number_within protocols name k is = elim (index_cases (position_or_len (is_named name) protocols) (length protocols)) [
  | inl none ↦ absurd (let never : None ≡ Some k = sym none.0 ∙ is in cc)
  | inr some ↦ let same : Some (position_or_len (is_named name) protocols) ≡ Some k = sym some.0 ∙ is in
      let e : position_or_len (is_named name) protocols ≡ k = cc in omega (arith, some.1, e)
]

-- the number of a name is that of its first protocol
pub numbers_are_of_protocols : NumbersAreOfProtocols
numbers_are_of_protocols = record {
  declared = λ protocols name k is. elim (number_cases protocols name) [
    | inl none ↦ absurd (let never : None ≡ Some k = sym none.0 ∙ is in cc)
    | inr some ↦ let same : some.0 ≡ k = (let e : Some some.0 ≡ Some k = sym some.2 ∙ is in cc) in
        (some.1, some.3, subst (λ n. slice_get protocols n ≡ Some some.1) same some.4)
  ];
  none = λ protocols name is. elim (number_cases protocols name) [
    | inl none ↦ none.1
    | inr some ↦ absurd (let never : None ≡ Some some.0 = sym is ∙ some.2 in cc)
  ];
  by_names = number_by_names;
}
