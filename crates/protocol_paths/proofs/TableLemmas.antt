-- The tables at the index of a protocol.
use Rattle.std.proofs.Common.{◌≡◌, ℕ, zero, suc, ◌<◌, List, [], ◌∷◌, length, get_or, Some, Ok, Err, Result, refl, sym, ap, subst, arith}
use Rattle.std.specs.Prelude.{IfOk}
use Rattle.std.specs.List.{AllZip, position}
use Rattle.std.specs.Str.{bytes_eq}
use Rattle.std.proofs.lemmas.List.{length-map}
use Rattle.std.proofs.lemmas.List.Quantifiers.{position-Some}
use Rattle.std.proofs.lemmas.Option.{get_or_from_slice_get, slice_get_within}
use Rattle.list_base.specs.declared.memory.NoMemory.{NoMemory}
use Rattle.bspl_parser.specs.declared.document.Declaration.{Declaration}
use Rattle.bspl_parser.specs.declared.word.Word.{Word}
use Rattle.protocol_names.specs.Names.{protocol_words, texts}
use Rattle.protocol_paths.specs.declared.name_tables.NameTables.{NameTables}
use Rattle.protocol_paths.specs.inner.Tables.{AreTablesOf, HaveTables}

-- lists whose items belong together are equally long
pub same_length : {A B : Type 0} (R : A → B → Type 0) (xs : List A) (ys : List B) → AllZip R xs ys → length xs ≡ length ys
same_length R [] [] all = refl
same_length R [] (y ∷ ys) all = absurd all
same_length R (x ∷ xs) [] all = absurd all
same_length R (x ∷ xs) (y ∷ ys) all = ap suc (same_length R xs ys all.1)

-- and belong together at each index
pub pair_at : {A B : Type 0} (R : A → B → Type 0) (xs : List A) (ys : List B) (k : ℕ) (x : A) (y : B) → AllZip R xs ys → k < length xs → R (get_or xs k x) (get_or ys k y)
pair_at R [] ys k x y all within = absurd (omega (arith, within))
pair_at R (a ∷ xs) [] k x y all within = absurd all
pair_at R (a ∷ xs) (b ∷ ys) zero x y all within = all.0
pair_at R (a ∷ xs) (b ∷ ys) (suc k) x y all within = pair_at R xs ys k x y all.1 (omega (arith, within))

-- the index of a protocol's name
pub is_within : (protocols : List Declaration) (name : List ℕ) (k : ℕ) → position (λ n. bytes_eq n name) (texts (protocol_words protocols)) ≡ Some k → k < length protocols
is_within protocols name k found =
    let bound = (position-Some (λ n. bytes_eq n name) (texts (protocol_words protocols)) k name found).0 in
    let one = length-map (protocol_words protocols) (λ (w : Word). w.text) in
    let other = length-map protocols (λ (p : Declaration). p.name) in
    omega (arith, bound, one, other)

-- tables that were made one by one are those of the protocols by their numbers
pub have_tables : (protocols : List Declaration) (tables : List NameTables) → AllZip AreTablesOf protocols tables → HaveTables protocols tables
have_tables protocols tables all = record {
  count = sym (same_length AreTablesOf protocols tables all);
  each = λ k p t declared at.
      let pair = pair_at AreTablesOf protocols tables k p t all (slice_get_within protocols k p declared) in
      subst (λ (q : Declaration). AreTablesOf q t) (get_or_from_slice_get protocols k p p declared)
      (subst (AreTablesOf (get_or protocols k p)) (get_or_from_slice_get tables k t t at) pair);
}

-- of an answer
pub have_tables_of : (protocols : List Declaration) (limit : ℕ) (result : Result (List NameTables) NoMemory) → IfOk result (AllZip AreTablesOf protocols) → IfOk result (λ tables. 0 < limit → HaveTables protocols tables)
have_tables_of protocols limit (Ok tables) all = λ some. have_tables protocols tables all
have_tables_of protocols limit (Err e) all = tt
