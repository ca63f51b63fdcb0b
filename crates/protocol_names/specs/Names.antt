-- Which names a document declares, and which it uses.
use Rattle.std.specs.Prelude.{◌≡◌, ℕ, List, [], ◌∷◌, ◌++◌, length, map, Option, is_some}
use Rattle.std.specs.List.{Contains, filter, find, flat_map}
use Rattle.std.specs.Str.{bytes_eq}
use Rattle.bspl_parser.specs.declared.document.Declaration.{Declaration}
use Rattle.bspl_parser.specs.declared.document.Formal.{Formal}
use Rattle.bspl_parser.specs.declared.document.Item.{Item}
use Rattle.bspl_parser.specs.declared.document.Item.TheVariants.{Message, Reference}
use Rattle.bspl_parser.specs.declared.document.Reference.{Reference as SpecReference}
use Rattle.bspl_parser.specs.declared.word.Word.{Word}
use Rattle.protocol_names.specs.declared.names.Names.{Names}

-- the names of the words
abbrev pub texts : List Word → List (List ℕ)
texts words = map (λ w. w.text) words

-- an equal name is declared before the word
pub record IsRepeated (words : List Word) (w : Word) : Type 0 where
  pub before : List Word
  pub after : List Word
  pub parts : words ≡ before ++ w ∷ after
  pub repeats : Contains (texts before) w.text

-- the names of the protocols
abbrev pub protocol_words : List Declaration → List Word
protocol_words protocols = map (λ p. p.name) protocols

-- the parameters of a protocol, the public ones first
abbrev pub param_words : Declaration → List Word
param_words p = map (λ f. f.name) p.public ++ p.private

-- the public parameters that are marked as keys
abbrev pub key_words : Declaration → List Word
key_words p = map (λ f. f.name) (filter (λ f. is_some f.key) p.public)

-- the name of a message; a reference declares none
abbrev pub declared_word : Item → List Word
declared_word (Message s) = s.name ∷ []
declared_word (Reference r) = []

-- the names of the messages
abbrev pub message_words : Declaration → List Word
message_words p = flat_map declared_word p.body

-- the roles, parameters and keys that a protocol declares
abbrev pub names_of : Declaration → Names
names_of p = record {
  roles = texts p.roles;
  params = texts (param_words p);
  keys = texts (key_words p);
}

-- sender and receiver of a message, or the roles that a reference is given
abbrev pub roles_used : Item → List Word
roles_used (Message s) = s.sender ∷ s.receiver ∷ []
roles_used (Reference r) = r.roles

-- the parameters of a message, or those that a reference is given
abbrev pub params_used : Item → List Formal
params_used (Message s) = s.params
params_used (Reference r) = r.params

-- of the protocols of that name the first
abbrev pub protocol_of : List Declaration → List ℕ → Option Declaration
protocol_of protocols name = find (λ p. bytes_eq p.name.text name) protocols

-- a reference gives as many roles and parameters as the protocol declares
pub record IsSameArity (r : SpecReference) (q : Declaration) : Type 0 where
  pub same_roles : length r.roles ≡ length q.roles
  pub same_params : length r.params ≡ length q.public
