-- What the variables of a formula mean, each by the number that the formula's clauses give it.
use Rattle.std.specs.Prelude.{ℕ, Bool, ◌-◌, ◌/◌, ◌==◌, if◌then◌else◌, List, [], ◌∷◌, ◌++◌, map, codes}
use Rattle.std.specs.List.{flat_map}
use Rattle.bspl_types.specs.declared.expanded.Expanded.{Expanded}
use Rattle.bspl_types.specs.Expansion.{message_name, param_name}
use Rattle.clause_encoding.specs.declared.rivals.Rivals.{Rivals}
use Rattle.clause_encoding.specs.declared.variables.Variables.{Variables}
use Rattle.clause_encoding.specs.declared.wants.Want.{Want}
use Rattle.clause_encoding.specs.Rest.{unbound_variables, want_variables}
use Rattle.clause_encoding.specs.Rivals.{selectors}
use Rattle.clause_encoding.specs.Variables.{kinds_following, occurs, sent, stands_before}
use Rattle.bspl_types.specs.declared.property.Property.{Property}
use Rattle.bspl_types.specs.declared.property.Property.TheVariants.{Liveness, Safety}
use Rattle.clause_encoding.specs.Formula.{variables_of}

-- the number of a variable, and the words that say what it means
abbrev pub Meaning : Type 0
Meaning = ℕ × List (List ℕ)

-- the message of an event kind: kinds are numbered from 1, two of each message
abbrev pub message_of_kind : ℕ → ℕ
message_of_kind kind = (kind - 1) / 2

-- the word for what is done with a message
abbrev pub direction_word : Bool → List ℕ
direction_word is_sent = if is_sent then codes "sent" else codes "received"

-- an event kind: its message is sent, or received
abbrev pub kind_words : Expanded → ℕ → List (List ℕ)
kind_words x kind =
    let m = message_of_kind kind in direction_word (kind == sent m) ∷ message_name x m ∷ []

-- the kind occurs
abbrev pub occurrence : Expanded → ℕ → Meaning
occurrence x kind = ((occurs kind).var, kind_words x kind)

-- the rivals are both sent
abbrev pub selection : Expanded → ℕ × Rivals → Meaning
selection x (selector, rivals) = (
  selector,
  codes "rivals" ∷ message_name x rivals.first ∷ message_name x rivals.second ∷
      codes "produce" ∷ param_name x rivals.param ∷ [],
)

-- no message that is sent carries the parameter
abbrev pub unbound : Expanded → ℕ × ℕ → Meaning
unbound x (variable, p) = (variable, codes "unbound" ∷ param_name x p ∷ [])

-- nothing makes the parameter known to the sender of the message
abbrev pub lack : Expanded → ℕ × Want → Meaning
lack x (variable, want) = (
  variable,
  codes "lacks" ∷ param_name x want.param ∷ codes "for" ∷ message_name x want.message ∷ [],
)

-- kind `i` stands before kind `j`
abbrev pub order : Expanded → Variables → ℕ → ℕ → Meaning
order x vars i j =
    ((stands_before vars i j).var, kind_words x i ++ codes "before" ∷ kind_words x j)

-- each kind
abbrev pub occurrences : Expanded → Variables → List Meaning
occurrences x vars = map (occurrence x) (kinds_following vars 0)

-- those that only the formulas of a property have
abbrev pub own_meanings : Property → Expanded → List Meaning
own_meanings Safety x = map (selection x) (selectors x)
own_meanings Liveness x =
    map (unbound x) (unbound_variables x) ++ map (lack x) (want_variables x)

-- a kind with each later one
abbrev pub orders_of : Expanded → Variables → ℕ → List Meaning
orders_of x vars i = map (order x vars i) (kinds_following vars i)

-- each kind with each later one
abbrev pub orders : Expanded → Variables → List Meaning
orders x vars = flat_map (orders_of x vars) (kinds_following vars 0)

-- the meanings of all variables
abbrev pub legend : Property → Expanded → List Meaning
legend property x =
    occurrences x (variables_of property x) ++ own_meanings property x ++
    orders x (variables_of property x)
