-- What holds of a protocol where the document has no fault.
use Rattle.std.proofs.Common.{◌≡◌, ◌≢◌, ℕ, suc, ◌<◌, List, ◌++◌, length, get_or, take, drop, drop-cons, Some, sym, ap, subst, ◌∙◌, arith, inl, inr}
use Rattle.std.specs.Prelude.{is_some}
use Rattle.std.specs.List.{All, Contains, position}
use Rattle.std.specs.Str.{bytes_eq}
use Rattle.std.proofs.lemmas.Bool.{cases_Bool, cases_order, false≢true}
use Rattle.std.proofs.lemmas.List.{get_or-map, get_or-take, length-map, length-take, take-append-drop}
use Rattle.std.proofs.lemmas.List.Elements.{Contains-get_or}
use Rattle.bspl_parser.specs.declared.document.Declaration.{Declaration}
use Rattle.bspl_parser.specs.declared.document.Document.{Document}
use Rattle.bspl_parser.specs.declared.document.Formal.{Formal}
use Rattle.bspl_parser.specs.declared.document.Item.{Item}
use Rattle.bspl_parser.specs.declared.document.Item.TheVariants.{Reference}
use Rattle.bspl_parser.specs.declared.document.Reference.{Reference as Use}
use Rattle.bspl_parser.specs.declared.word.Word.{Word}
use Rattle.protocol_names.specs.declared.fault.FaultKind.TheVariants.{Duplicate, Unknown, Arity, BadAdornment}
use Rattle.protocol_names.specs.Fault.{HasNoFault, IsDuplicate, repeated, IsFaultIn, IsItemFault, IsUnsupported, other_arity}
use Rattle.protocol_names.specs.FaultOrder.{HasNone, holds}
use Rattle.protocol_names.specs.Names.{IsSameArity, names_of, param_words, params_used, protocol_of, roles_used, texts}
use Rattle.list_base.proofs.FirstIndex.{has_index}
use Rattle.protocol_expand.specs.WellScoped.{AreDistinct, HasFixedAdornment}

-- the item's roles and parameters are declared, and adorned as an expansion's are
pub record IsFaultless (p : Declaration) (i : Item) : Type 0 where
  pub known_roles : All (λ w. Contains (texts p.roles) w.text) (roles_used i)
  pub known_params : All (λ f. Contains (texts (param_words p)) f.name.text) (params_used i)
  pub adorned : All HasFixedAdornment (params_used i)

-- a name that is not unknown is known
is_known : (names : List (List ℕ)) (name : List ℕ) → ¬ ¬ Contains names name → Contains names name
is_known names name never = elim (cases_Bool (is_some (position (λ n. bytes_eq n name) names))) [
  | inl found ↦ (has_index names name).0 found
  | inr missing ↦ absurd (never (λ among. false≢true (sym missing ∙ (has_index names name).1 among)))
]

-- a protocol has no fault
none_in : (d : Document) (p : Declaration) → HasNoFault d → Contains d.protocols p → HasNone (IsFaultIn d.protocols p)
none_in d p no_fault among kind offset fault = no_fault kind offset (inr (record { item = p; among = among; has = fault }))

-- and no item of it has one
none_at : (d : Document) (p : Declaration) (i : Item) → HasNoFault d → Contains d.protocols p → Contains p.body i → HasNone (IsItemFault d.protocols (names_of p) i)
none_at d p i no_fault among here kind offset fault = none_in d p no_fault among kind offset (inr (inr (record { item = i; among = here; has = fault })))

-- a parameter that is supported is adorned
is_adorned : (f : Formal) → HasNone (IsUnsupported f) → HasFixedAdornment f
is_adorned f no_fault = record {
  not_any = λ is. no_fault BadAdornment f.offset (holds (inl is));
  not_opt = λ is. no_fault BadAdornment f.offset (holds (inr is));
}

-- so an item of a protocol is faultless
pub item_is_faultless : (d : Document) (p : Declaration) (i : Item) → HasNoFault d → Contains d.protocols p → Contains p.body i → IsFaultless p i
item_is_faultless d p i no_fault among here =
    let none_here = none_at d p i no_fault among here in
    record {
      known_roles = λ k e within.
          let w = get_or (roles_used i) k e in
          is_known (texts p.roles) w.text (λ unknown. none_here Unknown w.offset (inl (record { item = w; among = Contains-get_or (roles_used i) k e within; has = holds unknown })));
      known_params = λ k e within.
          let f = get_or (params_used i) k e in
          is_known (texts (param_words p)) f.name.text (λ unknown. none_here Unknown f.name.offset (inr (inl (record { item = f; among = Contains-get_or (params_used i) k e within; has = inl (holds unknown) }))));
      adorned = λ k e within.
          let f = get_or (params_used i) k e in
          is_adorned f (λ kind offset fault. none_here kind offset (inr (inl (record { item = f; among = Contains-get_or (params_used i) k e within; has = inr (inl fault) }))));
    }

-- numbers that are not different are equal
same_number : (m n : ℕ) → ¬ (m ≢ n) → m ≡ n
same_number m n never = elim (cases_order m n) [
  | inl same ↦ same
  | inr (inl less) ↦ absurd (never (λ same. omega (arith, less, same)))
  | inr (inr more) ↦ absurd (never (λ same. omega (arith, more, same)))
]

-- a reference gives as many roles and parameters as its protocol declares
pub arity_is_same : (d : Document) (p q : Declaration) (r : Use) → HasNoFault d → Contains d.protocols p → Contains p.body (Reference r) → protocol_of d.protocols r.protocol.text ≡ Some q → IsSameArity r q
arity_is_same d p q r no_fault among here found =
    let never : ¬ ¬ IsSameArity r q = λ other. none_at d p (Reference r) no_fault among here Arity r.protocol.offset (inr (inr (other_arity q found other))) in
    record {
      same_roles = same_number (length r.roles) (length q.roles) (λ other. never (λ same. other same.same_roles));
      same_params = same_number (length r.params) (length q.public) (λ other. never (λ same. other same.same_params));
    }

-- the public parameters are adorned
pub public_params_are_adorned : (d : Document) (p : Declaration) → HasNoFault d → Contains d.protocols p → All HasFixedAdornment p.public
public_params_are_adorned d p no_fault among k e within = is_adorned (get_or p.public k e) (λ kind offset fault. none_in d p no_fault among kind offset (inr (inl (record { item = get_or p.public k e; among = Contains-get_or p.public k e within; has = fault }))))

-- a name stands among the words before a later place
stands_before : (words : List Word) (i j : ℕ) (e : Word) → i < j → j < length words → Contains (texts (take j words)) (get_or words i e).text
stands_before words i j e before within =
    let inside : i < length (take j words) = omega (arith, before, within, length-take j words) in
    let here : get_or (texts (take j words)) i (get_or words i e).text ≡ (get_or words i e).text = get_or-map (λ (w : Word). w.text) (take j words) i e (get_or words i e).text inside ∙ ap (λ (w : Word). w.text) (get_or-take j words i e before) in
    (i, omega (arith, inside, length-map (take j words) (λ (w : Word). w.text)), here)

-- words without a duplicate are apart
words_are_apart : (words : List Word) → HasNone (IsDuplicate words) → AreDistinct words
words_are_apart words no_fault = record {
  distinct = λ i j e before within same.
      let w = get_or words j e in
      no_fault Duplicate w.offset (repeated w (record {
        before = take j words;
        after = drop (suc j) words;
        parts = sym (take-append-drop j words) ∙ ap (λ (rest : List Word). take j words ++ rest) (drop-cons words j e within);
        repeats = subst (Contains (texts (take j words))) same (stands_before words i j e before within);
      }));
}

-- so are the roles of a protocol
pub declared_roles_are_apart : (d : Document) (p : Declaration) → HasNoFault d → Contains d.protocols p → AreDistinct p.roles
declared_roles_are_apart d p no_fault among = words_are_apart p.roles (λ kind offset fault. none_in d p no_fault among kind offset (inl (inl fault)))
