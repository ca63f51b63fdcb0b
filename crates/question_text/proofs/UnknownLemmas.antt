-- The first unknown name of two parts of a question.
use Rattle.std.proofs.Common.{◌≡◌, List, [], ◌∷◌, ◌++◌, append_assoc, refl, sym, ap, ◌∙◌, subst}
use Rattle.std.specs.List.{All, Contains}
use Rattle.std.proofs.lemmas.List.Elements.{All-append, All-contains, All-head, All-nil, All-tail, Contains-append_right}
use Rattle.list_base.proofs.Members.{here}
use Rattle.bspl_types.specs.declared.expanded.Expanded.{Expanded}
use Rattle.question_text.specs.declared.unknown.UnknownName.{UnknownName}
use Rattle.question_text.specs.declared.unknown.UnknownName.TheVariants.{Message, Role, Parameter, NoMemory}
use Rattle.question_text.specs.Unknown.{IsFirstUnknownIn, IsUnknownIn, NamesNothing}

-- the protocol has each of the names
abbrev pub AreKnown : Expanded → List UnknownName → Type 0
AreKnown x names = All (λ name. ¬ NamesNothing x name) names

-- the first of these is the first of more
first_left : (x : Expanded) (one other : List UnknownName) (u : UnknownName) → IsFirstUnknownIn x one u → IsFirstUnknownIn x (one ++ other) u
first_left x one other u first = record {
  before = first.before;
  after = first.after ++ other;
  split = ap (λ (names : List UnknownName). names ++ other) first.split ∙ append_assoc first.before (u ∷ first.after) other;
  known = first.known;
  nothing = first.nothing;
}

-- after names that are known
first_right : (x : Expanded) (one other : List UnknownName) (u : UnknownName) → AreKnown x one → IsFirstUnknownIn x other u → IsFirstUnknownIn x (one ++ other) u
first_right x one other u known first = record {
  before = one ++ first.before;
  after = first.after;
  split = ap (λ (names : List UnknownName). one ++ names) first.split ∙ sym (append_assoc one first.before (u ∷ first.after));
  known = All-append (λ name. ¬ NamesNothing x name) one first.before known first.known;
  nothing = first.nothing;
}

-- an unknown name of the first part is that of both
pub unknown_left : (x : Expanded) (one other : List UnknownName) (u : UnknownName) → IsUnknownIn x one u → IsUnknownIn x (one ++ other) u
unknown_left x one other (Message name) first = first_left x one other (Message name) first
unknown_left x one other (Role name) first = first_left x one other (Role name) first
unknown_left x one other (Parameter name) first = first_left x one other (Parameter name) first
unknown_left x one other NoMemory first = tt

-- an unknown name of the second part, if the first is known
pub unknown_right : (x : Expanded) (one other : List UnknownName) (u : UnknownName) → AreKnown x one → IsUnknownIn x other u → IsUnknownIn x (one ++ other) u
unknown_right x one other (Message name) known first = first_right x one other (Message name) known first
unknown_right x one other (Role name) known first = first_right x one other (Role name) known first
unknown_right x one other (Parameter name) known first = first_right x one other (Parameter name) known first
unknown_right x one other NoMemory known first = tt

-- one name, which is not there
pub only_unknown : (x : Expanded) (u : UnknownName) → NamesNothing x u → IsFirstUnknownIn x (u ∷ []) u
only_unknown x u nothing =
    record { before = []; after = []; split = refl; known = All-nil (λ name. ¬ NamesNothing x name); nothing = nothing }

-- two splits of one list at a name after known ones have one name
one_split : (x : Expanded) (left right after rest : List UnknownName) (u v : UnknownName) → AreKnown x left → AreKnown x right → NamesNothing x u → NamesNothing x v → left ++ u ∷ after ≡ right ++ v ∷ rest → u ≡ v
one_split x [] [] after rest u v known also nothing none same = cc
one_split x [] (name ∷ right) after rest u v known also nothing none same =
    let is : u ≡ name = cc in
    absurd (All-head (λ n. ¬ NamesNothing x n) name right also (subst (NamesNothing x) is nothing))
one_split x (name ∷ left) [] after rest u v known also nothing none same =
    let is : v ≡ name = cc in
    absurd (All-head (λ n. ¬ NamesNothing x n) name left known (subst (NamesNothing x) is none))
one_split x (name ∷ left) (again ∷ right) after rest u v known also nothing none same =
    let tails : left ++ u ∷ after ≡ right ++ v ∷ rest = cc in
    one_split x left right after rest u v (All-tail (λ n. ¬ NamesNothing x n) name left known) (All-tail (λ n. ¬ NamesNothing x n) again right also) nothing none tails

-- names have one first unknown at most
pub one_unknown : (x : Expanded) (names : List UnknownName) (u v : UnknownName) → IsFirstUnknownIn x names u → IsFirstUnknownIn x names v → u ≡ v
one_unknown x names u v one other =
    one_split x one.before other.before one.after other.after u v one.known other.known one.nothing other.nothing (sym one.split ∙ other.split)

-- known names have none
pub none_unknown : (x : Expanded) (names : List UnknownName) (u : UnknownName) → AreKnown x names → ¬ IsFirstUnknownIn x names u
none_unknown x names u known first =
    All-contains (λ n. ¬ NamesNothing x n) names u known (subst (λ (all : List UnknownName). Contains all u) (sym first.split) (Contains-append_right first.before (u ∷ first.after) u (here u first.after))) first.nothing
