-- The names of a question in the order of its text, and the first that a protocol does not have.
use Rattle.std.specs.Prelude.{◌≡◌, ℕ, List, [], ◌∷◌, ◌++◌, map}
use Rattle.std.specs.List.{All}
use Rattle.bspl_types.specs.declared.expanded.Expanded.{Expanded}
use Rattle.bspl_types.specs.NamedParts.{IsMessageNamed, IsParamNamed, IsRoleNamed}
use Rattle.question_text.specs.declared.tree.Said.{Said}
use Rattle.question_text.specs.declared.tree.Said.TheVariants as said
use Rattle.question_text.specs.declared.tree.Tree.{Tree}
use Rattle.question_text.specs.declared.unknown.UnknownName.{UnknownName}
use Rattle.question_text.specs.declared.unknown.UnknownName.TheVariants.{Message, Role, Parameter}
use Rattle.question_text.specs.declared.unknown.UnknownName.TheVariants.{NoMemory}
use Rattle.question_text.specs.Tree.{Phrase, Happened, Before, After, Can, Rest, Not, And, Or}
use Rattle.question_text.specs.Tree.{Bracketed, phrase_of}

-- the names of a happening, each with what it has to be the name of
abbrev pub names_in_said : Said → List UnknownName
names_in_said (said.Sent message) = Message message ∷ []
names_in_said (said.Received message) = Message message ∷ []
names_in_said (said.Knows role param) = Role role ∷ Parameter param ∷ []
names_in_said (said.Bound param) = Parameter param ∷ []

-- the names of a question
abbrev pub names_in : Phrase → List UnknownName
names_in (Happened h) = names_in_said h
names_in (Before one other) = names_in_said one ++ names_in_said other
names_in (After one other) = names_in_said one ++ names_in_said other
names_in (Can message) = Message message ∷ []
names_in (Rest excused) = map Message excused
names_in (Not q) = names_in q
names_in (And q r) = names_in q ++ names_in r
names_in (Or q r) = names_in q ++ names_in r
names_in (Bracketed q) = names_in q

-- nothing of that sort has the name
abbrev pub NamesNothing : Expanded → UnknownName → Type 0
NamesNothing x (Message name) = (m : ℕ) → ¬ IsMessageNamed x name m
NamesNothing x (Role name) = (role : ℕ) → ¬ IsRoleNamed x name role
NamesNothing x (Parameter name) = (p : ℕ) → ¬ IsParamNamed x name p
NamesNothing x NoMemory = ⊥

-- the protocol has the names before that one, and not that one
pub record IsFirstUnknownIn (x : Expanded) (names : List UnknownName) (unknown : UnknownName)
    : Type 0 where
  pub before : List UnknownName
  pub after : List UnknownName
  pub split : names ≡ before ++ unknown ∷ after
  pub known : All (λ name. ¬ NamesNothing x name) before
  pub nothing : NamesNothing x unknown

-- the first name of the question that the protocol does not have
abbrev pub IsFirstUnknownName : Expanded → Tree → UnknownName → Type 0
IsFirstUnknownName x tree unknown = IsFirstUnknownIn x (names_in (phrase_of tree)) unknown

-- the first of the names that the protocol does not have, unless memory ran out
abbrev pub IsUnknownIn : Expanded → List UnknownName → UnknownName → Type 0
IsUnknownIn x names (Message name) = IsFirstUnknownIn x names (Message name)
IsUnknownIn x names (Role name) = IsFirstUnknownIn x names (Role name)
IsUnknownIn x names (Parameter name) = IsFirstUnknownIn x names (Parameter name)
IsUnknownIn x names NoMemory = Unit {0}

-- why the tree asks nothing of the protocol: its first unknown name, unless memory ran out
abbrev pub IsNotAsked : Expanded → Tree → UnknownName → Type 0
IsNotAsked x tree unknown = IsUnknownIn x (names_in (phrase_of tree)) unknown
