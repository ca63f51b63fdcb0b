-- What a parse found, read from its rows.
use Rattle.std.proofs.Common.{◌≡◌, Bool, true, false, cond, List, [], ◌∷◌, Option, Some, None, map, refl, ◌∙◌}
use Rattle.std.specs.Prelude.{find, option_map, option_and_then, slice_get}
use Rattle.std.specs.Str.{bytes_eq}
use Rattle.std.specs.Borrow.{Bor}
use Rattle.clap.specs.Facts.{Entry}
use Rattle.clap.specs.Matches.{first_value, one_text}
use Rattle.clap.specs.Values.{read_as}
use Rattle.clap.specs.Walk.{Row, Text, first_of, one_of, row_of, row_text, rows_of, texts}
use Rattle.clap.specs.declared.builder.value_parser.Reading.{Reading}
use Rattle.clap.specs.declared.parser.matches.Found.{Found}
use Rattle.clap.specs.declared.parser.matches.MatchedArg.{MatchedArg}

-- an entry that is found is read as its row is
found_or_later : (read : Entry → Option Text) (read_row : Row → Option Text) → ((e : Entry) → read e ≡ read_row (row_of e)) → (is : Bool) (e : Entry) (later : Option Entry) (later_row : Option Row)
    → option_and_then read later ≡ option_and_then read_row later_row
    → option_and_then read (cond is (Some e) later) ≡ option_and_then read_row (cond is (Some (row_of e)) later_row)
found_or_later read read_row alike true e later later_row same = alike e
found_or_later read read_row alike false e later later_row same = same

found_alike : (read : Entry → Option Text) (read_row : Row → Option Text) → ((e : Entry) → read e ≡ read_row (row_of e)) → (id : Text) (entries : List Entry)
    → option_and_then read (find (λ e. bytes_eq e.0.now id) entries) ≡ option_and_then read_row (find (λ r. bytes_eq r.id id) (map row_of entries))
found_alike read read_row alike id [] = refl
found_alike read read_row alike id (e ∷ entries) =
    found_or_later read read_row alike (bytes_eq e.0.now id) e (find (λ d. bytes_eq d.0.now id) entries) (find (λ r. bytes_eq r.id id) (map row_of entries)) (found_alike read read_row alike id entries)

-- what is read of the argument of an entry is read of the entry
of_entry : (read : MatchedArg → Option Text) (found : Option Entry) → option_and_then read (option_map (λ e. e.1) found) ≡ option_and_then (λ (e : Entry). read e.1) found
of_entry read None = refl
of_entry read (Some e) = refl

first_text : (values : List (Bor Text)) → option_map (λ v. v.now) (slice_get values 0) ≡ slice_get (texts values) 0
first_text [] = refl
first_text (v ∷ values) = refl

first_as : (how : Reading) (values : List (Bor Text)) → option_map (λ v. read_as how v.now) (slice_get values 0) ≡ option_map (read_as how) (slice_get (texts values) 0)
first_as how [] = refl
first_as how (v ∷ values) = refl

-- the first value of an id, as text
pub first_in_rows : (f : Found) (id : Text) → first_value f id ≡ first_of id (rows_of f)
first_in_rows f id =
    of_entry (λ a. option_map (λ v. v.now) (slice_get a.vals.items 0)) (find (λ e. bytes_eq e.0.now id) f.entries.items)
    ∙ found_alike (λ e. option_map (λ v. v.now) (slice_get e.1.vals.items 0)) (λ r. slice_get r.values 0) (λ e. first_text e.1.vals.items) id f.entries.items

-- and as the typed getters read it
pub one_in_rows : (f : Found) (id : Text) → one_text f id ≡ one_of id (rows_of f)
one_in_rows f id =
    of_entry (λ a. option_map (λ v. read_as a.reading v.now) (slice_get a.vals.items 0)) (find (λ e. bytes_eq e.0.now id) f.entries.items)
    ∙ found_alike (λ e. option_map (λ v. read_as e.1.reading v.now) (slice_get e.1.vals.items 0)) row_text (λ e. first_as e.1.reading e.1.vals.items) id f.entries.items
