-- Where a message of an expansion is declared, and by which references it comes.
use Rattle.std.specs.Prelude.{ℕ, List, [], ◌∷◌, ◌++◌, Option, None, Some}
use Rattle.std.specs.List.{find, flat_map}
use Rattle.std.specs.Str.{bytes_eq}
use Rattle.bspl_types.specs.Limits.{depth_limit}
use Rattle.bspl_parser.specs.declared.document.Declaration.{Declaration}
use Rattle.bspl_parser.specs.declared.document.Schema.{Schema}
use Rattle.protocol_paths.specs.Path.{Step, message_paths}
use Rattle.protocol_paths.specs.Prefix.{numbered_name}
use Rattle.answer_words.specs.Place.{place_of, spot_text}
use Rattle.answer_words.specs.declared.wording.details.TheConstants as details

-- the name in the expansion of a message at the end of a path
abbrev pub name_through : List Step × Schema → List ℕ
name_through ([], m) = m.name.text
name_through (s ∷ path, m) = numbered_name s.target.name.text s.position ++ name_through (path, m)

-- the first message of that name among those to which at most so many references lead
abbrev pub way_to : ℕ → List Declaration → Declaration → List ℕ → Option (List Step × Schema)
way_to n protocols p name =
    find (λ way. bytes_eq (name_through way) name) (message_paths n protocols p)

-- the offset of its declared name, and then those of the references, from the last to the first
abbrev pub offsets_of : List Step × Schema → List ℕ
offsets_of ([], m) = m.name.offset ∷ []
offsets_of (s ∷ path, m) = offsets_of (path, m) ++ s.reference.protocol.offset ∷ []

-- the line on a reference
abbrev pub by_reference : List ℕ → ℕ → List ℕ
by_reference input offset = details.BY_REFERENCE.now ++ spot_text (place_of input offset)

-- the lines on a message of the protocol and on its references, if there is one
abbrev pub way_text : List ℕ → List ℕ → List ℕ → List ℕ
way_text input protocol [] = []
way_text input protocol (declared ∷ references) =
    details.IN_PROTOCOL.now ++ protocol ++ details.IS_DECLARED.now ++
    spot_text (place_of input declared) ++ flat_map (by_reference input) references

-- the lines for the protocol
abbrev pub found_text : List ℕ → Declaration → Option (List Step × Schema) → List ℕ
found_text input p None = []
found_text input p (Some way) = way_text input p.name.text (offsets_of way)

-- the lines for each of the protocols that have a message of that name
abbrev pub ways_text : List ℕ → List Declaration → List ℕ → List Declaration → List ℕ
ways_text input protocols name tops =
    flat_map (λ p. found_text input p (way_to depth_limit protocols p name)) tops
