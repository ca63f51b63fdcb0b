-- What becomes of a name along a path is the composition of the maps of its references.
use Rattle.std.proofs.Common.{◌≡◌, ℕ, ◌+◌, ◌-◌, ◌<◌, Bool, List, [], ◌∷◌, ◌++◌, length, get_or, map, reverse, Option, Some, None, refl, sym, ap, ◌∙◌, arith}
use Rattle.std.specs.Prelude.{not, slice_get}
use Rattle.std.specs.List.{All, position}
use Rattle.std.specs.Option.{option_and_then, option_map, option_map_or}
use Rattle.std.specs.Str.{bytes_eq}
use Rattle.std.proofs.lemmas.Bool.Decides.{nat_tests}
use Rattle.std.proofs.lemmas.Grind.{reverse_onto}
use Rattle.std.proofs.lemmas.List.{get_or-map, get_or_append_left, get_or-append_right, length-append, length-map, map-append}
use Rattle.std.proofs.lemmas.List.Elements.{All-head, All-tail}
use Rattle.std.proofs.lemmas.List.Folds.{prefix_len-append}
use Rattle.std.proofs.lemmas.List.Sums.{fold-append, prefix_len-le-length}
use Rattle.std.proofs.lemmas.Option.{get_or_from_slice_get, slice_get-get_or, slice_get_within}
use Rattle.std.proofs.lemmas.List.Quantifiers.{position-Some}
use Rattle.std.proofs.lemmas.Slice.Eq.{bytes_eq-Decides}
use Rattle.bspl_parser.specs.declared.document.Declaration.{Declaration}
use Rattle.bspl_parser.specs.declared.document.Formal.{Formal}
use Rattle.bspl_parser.specs.declared.word.Word.{Word}
use Rattle.protocol_names.specs.Names.{IsSameArity, param_words, texts}
use Rattle.protocol_paths.specs.Composition.{given_for, param_composed, param_given, prefix_composed, private_composed, role_composed, role_given}
use Rattle.protocol_paths.specs.Laws.{NamesAreComposed}
use Rattle.protocol_paths.specs.Path.{Step}
use Rattle.protocol_paths.specs.Prefix.{numbered_name}
use Rattle.protocol_paths.specs.Scope.{Scope, after, param_at, prefix_after, role_at, scope_at, start, substituted}
use Rattle.protocol_paths.proofs.PlainLemmas.{substituted_same}

-- the test for a name
abbrev named : List ℕ → List ℕ → Bool
named name n = bytes_eq n name

-- the scope after a last reference
scope_last : (top : Declaration) (s : Step) (outer : List Step) → scope_at (start top) (reverse (s ∷ outer)) ≡ after (scope_at (start top) (reverse outer)) s
scope_last top s outer = ap (scope_at (start top)) (reverse_onto outer s []) ∙ fold-append after (start top) (reverse outer) (s ∷ [])

-- the item of a mapped list at an index where the list has one
mapped_at : {A : Type 0} (f : List ℕ → A) (names : List (List ℕ)) (k : ℕ) (given : List ℕ) (d : A) → slice_get names k ≡ Some given → get_or (map f names) k d ≡ f given
mapped_at f names k given d at = get_or-map f names k given d (slice_get_within names k given at) ∙ ap f (get_or_from_slice_get names k given given at)

-- mapping the words is mapping their texts
texts_map : (f : List ℕ → List ℕ) (words : List Word) → map (λ w. f w.text) words ≡ map f (texts words)
texts_map f [] = refl
texts_map f (w ∷ words) = ap (λ rest. f w.text ∷ rest) (texts_map f words)

formals_map : (f : List ℕ → List ℕ) (formals : List Formal) → map (λ g. f g.name.text) formals ≡ map f (texts (map (λ g. g.name) formals))
formals_map f [] = refl
formals_map f (g ∷ formals) = ap (λ rest. f g.name.text ∷ rest) (formals_map f formals)

-- what one reference gives for a declared name is what is substituted for it
given_substituted : (f : List ℕ → List ℕ) (declared given names : List (List ℕ)) (name result : List ℕ) → names ≡ map f given → given_for declared given name ≡ Some result → substituted declared names name ≡ f result
given_substituted f declared given names name result same is =
    (elim (position (named name) declared) as (λ (o : Option ℕ). option_and_then (slice_get given) o ≡ Some result → option_map_or (λ k. get_or names k name) o name ≡ f result) [
      | None ↦ λ never. absurd cc
      | Some k ↦ λ at. ap (λ list. get_or list k name) same ∙ mapped_at f given k result name at
    ]) is

-- a role after one reference
role_after : (scope : Scope) (s : Step) (name given : List ℕ) → role_given s name ≡ Some given → role_at (after scope s) name ≡ role_at scope given
role_after scope s name given is =
    given_substituted (role_at scope) (texts s.target.roles) (texts s.reference.roles) (map (λ w. role_at scope w.text) s.reference.roles) name given (texts_map (role_at scope) s.reference.roles) is

-- the first index in two lists, if the first list has it
index_left : {X : Type 0} (p : X → Bool) (xs ys : List X) (k : ℕ) → position p xs ≡ Some k → position p (xs ++ ys) ≡ Some k
index_left p xs ys k is =
    let both = prefix_len-append (λ x. not (p x)) xs ys in
    let long = length-append xs ys in
    grind (arith, nat_tests)

-- and if only the second list has it
index_right : {X : Type 0} (p : X → Bool) (xs ys : List X) (k : ℕ) → position p xs ≡ None → position p ys ≡ Some k → position p (xs ++ ys) ≡ Some (length xs + k)
index_right p xs ys k none is =
    let both = prefix_len-append (λ x. not (p x)) xs ys in
    let bound = prefix_len-le-length (λ x. not (p x)) xs in
    let long = length-append xs ys in
    grind (arith, nat_tests)

-- what is substituted for a name of the first list
substituted_left : (first second given others : List (List ℕ)) (name : List ℕ) (k : ℕ) → position (named name) first ≡ Some k → k < length given → substituted (first ++ second) (given ++ others) name ≡ get_or given k name
substituted_left first second given others name k is within =
    ap (λ (o : Option ℕ). option_map_or (λ j. get_or (given ++ others) j name) o name) (index_left (named name) first second k is) ∙ get_or_append_left given others name k within

-- and for one of the second list
substituted_right : (first second given others : List (List ℕ)) (name : List ℕ) (k : ℕ) → position (named name) first ≡ None → position (named name) second ≡ Some k → length given ≡ length first → substituted (first ++ second) (given ++ others) name ≡ get_or others k name
substituted_right first second given others name k none is same =
    ap (λ (o : Option ℕ). option_map_or (λ j. get_or (given ++ others) j name) o name) (index_right (named name) first second k none is)
    ∙ ap (λ n. get_or (given ++ others) (n + k) name) (sym same)
    ∙ get_or-append_right given others (length given) (length given + k) name refl (omega arith)
    ∙ ap (λ n. get_or others n name) rest
  where
    rest : length given + k - length given ≡ k
    rest = omega arith

-- the declared public parameters, and the given ones
abbrev public_names : Step → List (List ℕ)
public_names s = texts (map (λ f. f.name) s.target.public)

abbrev given_names : Step → List (List ℕ)
given_names s = texts (map (λ f. f.name) s.reference.params)

-- the parts of what is substituted for the parameters
param_parts : (scope : Scope) (s : Step) (name : List ℕ) → param_at (after scope s) name ≡ substituted (public_names s ++ texts s.target.private) (map (param_at scope) (given_names s) ++ map (λ text. prefix_after scope s ++ text) (texts s.target.private)) name
param_parts scope s name = λ i.
    substituted (map-append (λ (w : Word). w.text) (map (λ f. f.name) s.target.public) s.target.private i)
    (formals_map (param_at scope) s.reference.params i ++ texts_map (λ text. prefix_after scope s ++ text) s.target.private i) name

-- a public parameter after one reference
public_after : (scope : Scope) (s : Step) (name given : List ℕ) → param_given s name ≡ Some given → param_at (after scope s) name ≡ param_at scope given
public_after scope s name given is =
    (elim (position (named name) (public_names s)) as (λ (o : Option ℕ). position (named name) (public_names s) ≡ o → option_and_then (slice_get (given_names s)) o ≡ Some given → param_at (after scope s) name ≡ param_at scope given) [
      | None ↦ λ nowhere never. absurd cc
      | Some k ↦ λ found at.
          let within : k < length (map (param_at scope) (given_names s)) = omega (arith, slice_get_within (given_names s) k given at, length-map (given_names s) (param_at scope)) in
          param_parts scope s name
          ∙ substituted_left (public_names s) (texts s.target.private) (map (param_at scope) (given_names s)) (map (λ text. prefix_after scope s ++ text) (texts s.target.private)) name k found within
          ∙ mapped_at (param_at scope) (given_names s) k given name at
    ]) refl is

-- a declared public parameter is given, if as many are given as are declared
not_given : (s : Step) (name : List ℕ) → IsSameArity s.reference s.target → param_given s name ≡ None → position (named name) (public_names s) ≡ None
not_given s name arity none =
    (elim (position (named name) (public_names s)) as (λ (o : Option ℕ). position (named name) (public_names s) ≡ o → option_and_then (slice_get (given_names s)) o ≡ None → o ≡ None) [
      | None ↦ λ nowhere missing. refl
      | Some k ↦ λ found missing.
          let inside : k < length (public_names s) = (position-Some (named name) (public_names s) k name found).0 in
          let long : length (public_names s) ≡ length (given_names s) =
          length-map (map (λ (f : Formal). f.name) s.target.public) (λ (w : Word). w.text) ∙ length-map s.target.public (λ (f : Formal). f.name) ∙ sym arity.same_params
          ∙ sym (length-map s.reference.params (λ (f : Formal). f.name)) ∙ sym (length-map (map (λ (f : Formal). f.name) s.reference.params) (λ (w : Word). w.text)) in
          let there : slice_get (given_names s) k ≡ Some (get_or (given_names s) k name) = slice_get-get_or (given_names s) k name (omega (arith, inside, long)) in
          absurd cc
    ]) refl none

-- a private parameter after one reference
private_after : (scope : Scope) (s : Step) (outer : List Step) (name result : List ℕ) → IsSameArity s.reference s.target → scope.prefix ≡ prefix_composed outer → param_given s name ≡ None → private_composed s outer name ≡ Some result → param_at (after scope s) name ≡ result
private_after scope s outer name result arity prefixes none is =
    (elim (position (named name) (texts s.target.private)) as (λ (o : Option ℕ). position (named name) (texts s.target.private) ≡ o → option_map (λ k. prefix_composed (s ∷ outer) ++ name) o ≡ Some result → param_at (after scope s) name ≡ result) [
      | None ↦ λ nowhere never. absurd cc
      | Some k ↦ λ found at.
          let here = position-Some (named name) (texts s.target.private) k name found in
          let text : get_or (texts s.target.private) k name ≡ name = (bytes_eq-Decides (get_or (texts s.target.private) k name) name).0 here.1 in
          let long : length (map (param_at scope) (given_names s)) ≡ length (public_names s) =
          length-map (given_names s) (param_at scope)
          ∙ length-map (map (λ (f : Formal). f.name) s.reference.params) (λ (w : Word). w.text) ∙ length-map s.reference.params (λ (f : Formal). f.name) ∙ arity.same_params
          ∙ sym (length-map s.target.public (λ (f : Formal). f.name)) ∙ sym (length-map (map (λ (f : Formal). f.name) s.target.public) (λ (w : Word). w.text)) in
          let whole : prefix_composed (s ∷ outer) ++ name ≡ result = cc in
          param_parts scope s name
          ∙ substituted_right (public_names s) (texts s.target.private) (map (param_at scope) (given_names s)) (map (λ text. prefix_after scope s ++ text) (texts s.target.private)) name k (not_given s name arity none) found long
          ∙ get_or-map (λ text. prefix_after scope s ++ text) (texts s.target.private) k name name here.0
          ∙ ap (λ text. prefix_after scope s ++ text) text
          ∙ ap (λ prefix. (prefix ++ numbered_name s.target.name.text s.position) ++ name) prefixes
          ∙ whole
    ]) refl is

-- the prefixes along a path
prefixes_compose : (top : Declaration) (outward : List Step) → (scope_at (start top) (reverse outward)).prefix ≡ prefix_composed outward
prefixes_compose top [] = refl
prefixes_compose top (s ∷ outer) =
    ap (λ (scope : Scope). scope.prefix) (scope_last top s outer) ∙ ap (λ prefix. prefix ++ numbered_name s.target.name.text s.position) (prefixes_compose top outer)

-- the roles along a path
roles_compose : (top : Declaration) (outward : List Step) (name result : List ℕ) → role_composed outward name ≡ Some result → role_at (scope_at (start top) (reverse outward)) name ≡ result
roles_compose top [] name result is = let same : name ≡ result = cc in substituted_same (texts top.roles) name ∙ same
roles_compose top (s ∷ outer) name result is =
    ap (λ (scope : Scope). role_at scope name) (scope_last top s outer)
    ∙ (elim (role_given s name) as (λ (o : Option (List ℕ)). role_given s name ≡ o → option_and_then (role_composed outer) o ≡ Some result → role_at (after (scope_at (start top) (reverse outer)) s) name ≡ result) [
      | None ↦ λ not_there never. absurd cc
      | Some given ↦ λ there rest. role_after (scope_at (start top) (reverse outer)) s name given there ∙ roles_compose top outer given result rest
    ]) refl is

-- the parameters along a path
params_compose : (top : Declaration) (outward : List Step) → All (λ s. IsSameArity s.reference s.target) outward → (name result : List ℕ) → param_composed outward name ≡ Some result → param_at (scope_at (start top) (reverse outward)) name ≡ result
params_compose top [] arities name result is = let same : name ≡ result = cc in substituted_same (texts (param_words top)) name ∙ same
params_compose top (s ∷ outer) arities name result is =
    let arity = All-head (λ (t : Step). IsSameArity t.reference t.target) s outer arities in
    let others = All-tail (λ (t : Step). IsSameArity t.reference t.target) s outer arities in
    ap (λ (scope : Scope). param_at scope name) (scope_last top s outer)
    ∙ (elim (param_given s name) as (λ (o : Option (List ℕ)). param_given s name ≡ o → option_map_or (param_composed outer) o (private_composed s outer name) ≡ Some result → param_at (after (scope_at (start top) (reverse outer)) s) name ≡ result) [
      | None ↦ λ missing rest. private_after (scope_at (start top) (reverse outer)) s outer name result arity (prefixes_compose top outer) missing rest
      | Some given ↦ λ there rest. public_after (scope_at (start top) (reverse outer)) s name given there ∙ params_compose top outer others given result rest
    ]) refl is

-- all three
pub names_composed : (top : Declaration) (outward : List Step) → All (λ s. IsSameArity s.reference s.target) outward → NamesAreComposed top outward
names_composed top outward arities = record {
  prefixes = prefixes_compose top outward;
  roles = roles_compose top outward;
  params = params_compose top outward arities;
}
