-- The lines on names for one protocol after the other.
use Rattle.std.proofs.Common.{◌≡◌, ◌≢◌, ◌∙◌, ℕ, suc, ◌+◌, ◌<◌, length, get_or, add-one, drop-cons, List, [], ◌∷◌, ◌++◌, Option, Some, None, drop, sym, ap, refl, subst, append_assoc}
use Rattle.std.specs.List.{find}
use Rattle.std.specs.Option.{option_or}
use Rattle.std.proofs.lemmas.List.{append-nil}
use Rattle.std.proofs.lemmas.List.Folds.{find-append}
use Rattle.std.proofs.lemmas.Option.{none-some}
use Rattle.bspl_parser.specs.declared.document.Declaration.{Declaration}
use Rattle.bspl_types.specs.declared.expanded.Expanded.{Expanded}
use Rattle.bspl_types.specs.declared.refusals.Refusal.{Refusal}
use Rattle.bspl_types.specs.declared.refusals.Refusal.TheVariants.{NoMemory}
use Rattle.tool_input.specs.declared.rejection.Rejection.{Rejection}
use Rattle.tool_input.specs.Input.{Declares}
use Rattle.tool_input.specs.Rejection.{text_rejection}
use Rattle.answer_words.specs.Namings.{Naming}
use Rattle.answer_words.specs.Meant.{ListsNamings, names_nothing, naming_text}
use Rattle.answer_words.specs.inner.Added.{Adds}
use Rattle.answer_words.specs.inner.NamingLine.{AddsNaming}

-- what was written, with a list for the protocols that are left, lists all
pub record HasNamed (text : List ℕ) (namings : Expanded → List Naming) (protocols left : List Declaration) (old new : List ℕ) : Type 0 where
  pub added : List ℕ
  pub grown : new ≡ old ++ added
  pub all : (more : List ℕ) → ListsNamings text namings left more → ListsNamings text namings protocols (added ++ more)

-- nothing is written yet
pub none_named : (text : List ℕ) (namings : Expanded → List Naming) (protocols : List Declaration) (old : List ℕ) → HasNamed text namings protocols protocols old old
none_named text namings protocols old = record { added = []; grown = sym (append-nil old); all = λ more lists. lists }

-- the protocols that are left begin with the next one
pub next_protocol : (protocols : List Declaration) (i : ℕ) (p : Declaration) → i < length protocols → p ≡ get_or protocols i p → drop i protocols ≡ p ∷ drop (i + 1) protocols
next_protocol protocols i p within is =
    drop-cons protocols i p within ∙ ap (λ (q : Declaration). q ∷ drop (suc i) protocols) (sym is) ∙ ap (λ (k : ℕ). p ∷ drop k protocols) (sym (add-one i))

-- one protocol more
pub one_named : (text : List ℕ) (namings : Expanded → List Naming) (protocols left rest : List Declaration) (p : Declaration) (old mid new : List ℕ) → left ≡ p ∷ rest → HasNamed text namings protocols left old mid → AddsNaming text namings p mid new → HasNamed text namings protocols rest old new
one_named text namings protocols left rest p old mid new is h (AddsNaming.declared x declares grown) =
    let line = naming_text p.name.text (find names_nothing (namings x)) in
    record {
      added = h.added ++ line;
      grown = grown ∙ ap (λ (t : List ℕ). t ++ line) h.grown ∙ append_assoc old h.added line;
      all = λ more lists.
          subst (ListsNamings text namings protocols) (sym (append_assoc h.added line more))
          (h.all (line ++ more) (rw is (ListsNamings.declared p rest x more declares lists)));
    }
one_named text namings protocols left rest p old mid new is h (AddsNaming.undeclared none same) = record {
  added = h.added;
  grown = same ∙ h.grown;
  all = λ more lists. h.all more (rw is (ListsNamings.undeclared p rest more none lists));
}

-- nothing is left: the list is whole
pub all_named : (text : List ℕ) (namings : Expanded → List Naming) (protocols left : List Declaration) (old new : List ℕ) → left ≡ [] → HasNamed text namings protocols left old new → Adds (ListsNamings text namings protocols) old new
all_named text namings protocols left old new none h = record {
  added = h.added;
  grown = h.grown;
  holds = subst (ListsNamings text namings protocols) (append-nil h.added) (h.all [] (rw none ListsNamings.none));
}

-- the line for a protocol that the text declares
pub declared_line : (text : List ℕ) (namings : Expanded → List Naming) (p : Declaration) (x shown : Expanded) (name old new : List ℕ) (found : Option Naming) → name ≡ p.name.text → shown ≡ x → Declares name text x → found ≡ find names_nothing (namings shown) → new ≡ old ++ naming_text name found → AddsNaming text namings p old new
declared_line text namings p x shown name old new found named same declares is grown =
    AddsNaming.declared x (subst (λ (n : List ℕ). Declares n text x) named declares)
    (grown ∙ ap (λ (n : List ℕ). old ++ naming_text n found) named ∙ ap (λ (o : Option Naming). old ++ naming_text p.name.text o) (is ∙ ap (λ (y : Expanded). find names_nothing (namings y)) same))

-- what is a rejection is not that memory ran out
pub not_memory : (refusal : Refusal) (rejection : Rejection) → text_rejection refusal ≡ Some rejection → refusal ≢ NoMemory
not_memory refusal rejection is = λ memory. none-some rejection (ap text_rejection (sym memory) ∙ is)

-- the first of several is the first alone, if it names nothing
pub first_of_more : (first : Naming) (more : List Naming) (found : Option Naming) → found ≡ find names_nothing (first ∷ []) → found ≢ None → found ≡ find names_nothing (first ∷ more)
first_of_more first more found is some =
    is ∙ kept (find names_nothing (first ∷ [])) (find names_nothing more) (λ none. some (is ∙ none)) ∙ sym (find-append names_nothing (first ∷ []) more)
  where
    kept : (o other : Option Naming) → o ≢ None → o ≡ option_or o other
    kept None other is = absurd (is refl)
    kept (Some n) other is = refl

-- and else one of those after it
pub after_first : (first : Naming) (more : List Naming) (found : Option Naming) → found ≡ find names_nothing (first ∷ []) → found ≡ None → find names_nothing (first ∷ more) ≡ find names_nothing more
after_first first more found is none =
    find-append names_nothing (first ∷ []) more ∙ ap (λ (o : Option Naming). option_or o (find names_nothing more)) (sym is ∙ none)
