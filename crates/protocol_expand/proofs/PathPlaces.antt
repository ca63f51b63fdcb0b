-- Along a path from the asked protocol, each declared name is under one of the flat protocol's names.
use Rattle.std.proofs.Common.{◌≡◌, ℕ, zero, suc, List, [], ◌∷◌, ◌++◌, length, get_or, map, Option, Some, sym, subst, ◌∙◌, arith}
use Rattle.std.specs.List.{All, Contains, flat_map}
use Rattle.std.specs.Option.{option_map_or}
use Rattle.std.specs.Str.{bytes_eq}
use Rattle.std.proofs.lemmas.List.{length-append, length-map}
use Rattle.std.proofs.lemmas.List.Elements.{All-append, All-contains, All-head, All-map, All-tail}
use Rattle.bspl_parser.specs.declared.document.Declaration.{Declaration}
use Rattle.bspl_parser.specs.declared.document.Document.{Document}
use Rattle.bspl_parser.specs.declared.document.Formal.{Formal}
use Rattle.bspl_parser.specs.declared.document.Item.TheVariants.{Reference}
use Rattle.bspl_parser.specs.declared.document.Reference.{Reference as Use}
use Rattle.bspl_parser.specs.declared.word.Word.{Word}
use Rattle.protocol_names.specs.Fault.{HasNoFault}
use Rattle.protocol_names.specs.Names.{param_words, protocol_of, texts}
use Rattle.list_base.proofs.FirstIndex.{has_index}
use Rattle.protocol_paths.specs.Flat.{privates_at}
use Rattle.protocol_paths.specs.Path.{Step, paths, steps}
use Rattle.protocol_paths.specs.Scope.{Scope, after, param_at, scope_at, prefix_after, role_at, substituted}
use Rattle.list_base.proofs.Mapped.{all_of_mapped}
use Rattle.list_base.proofs.FirstIndex.{first_index}
use Rattle.protocol_expand.proofs.Faultless.{arity_is_same, item_is_faultless}
use Rattle.protocol_expand.proofs.Gathered.{all_of_gathered, among_found}

-- the step by a reference to a protocol
abbrev pub step_by : ℕ → Use → Declaration → Step
step_by position r q = record { position = position; reference = r; target = q }

-- the place is that of a protocol of the document, and has a known name for each role and parameter that it declares
pub record IsSound (protocols : List Declaration) (roles params : List (List ℕ)) (place : Scope) : Type 0 where
  pub among : Contains protocols place.protocol
  pub as_many_roles : length place.roles ≡ length place.protocol.roles
  pub as_many_params : length place.params ≡ length (param_words place.protocol)
  pub known_roles : All (Contains roles) place.roles
  pub known_params : All (Contains params) place.params

-- the private parameters at the ends of the paths of at most `n` references from the place have known names
pub record ArePrivatesKnown (protocols : List Declaration) (params : List (List ℕ)) (n : ℕ) (place : Scope) : Type 0 where
  pub known : All (λ path. All (λ (name, _). Contains params name) (privates_at (scope_at place path))) (paths n protocols place.protocol)

-- what stands for a declared name is one of the names at the place
stands_among : (declared names known : List (List ℕ)) (name : List ℕ) → length names ≡ length declared → All (Contains known) names → Contains declared name → Contains known (substituted declared names name)
stands_among declared names known name as_many all is_declared =
    let at = first_index (λ n. bytes_eq n name) declared ((has_index declared name).1 is_declared) in
    subst (λ (o : Option ℕ). Contains known (option_map_or (λ k. get_or names k name) o name)) (sym at.2) (all at.0 name (omega (arith, at.1, as_many)))

-- so a declared role is known at a sound place
pub role_is_known : (protocols : List Declaration) (roles params : List (List ℕ)) (place : Scope) (name : List ℕ) → IsSound protocols roles params place → Contains (texts place.protocol.roles) name → Contains roles (role_at place name)
role_is_known protocols roles params place name sound is_declared =
    stands_among (texts place.protocol.roles) place.roles roles name (sound.as_many_roles ∙ sym (length-map place.protocol.roles (λ (w : Word). w.text))) sound.known_roles is_declared

-- and so is a declared parameter
pub param_is_known : (protocols : List Declaration) (roles params : List (List ℕ)) (place : Scope) (name : List ℕ) → IsSound protocols roles params place → Contains (texts (param_words place.protocol)) name → Contains params (param_at place name)
param_is_known protocols roles params place name sound is_declared =
    stands_among (texts (param_words place.protocol)) place.params params name (sound.as_many_params ∙ sym (length-map (param_words place.protocol) (λ (w : Word). w.text))) sound.known_params is_declared

-- one reference further the place is sound
pub sound_after : (d : Document) (roles params : List (List ℕ)) (place : Scope) (k : ℕ) (r : Use) (q : Declaration) → HasNoFault d → IsSound d.protocols roles params place → Contains place.protocol.body (Reference r) → protocol_of d.protocols r.protocol.text ≡ Some q → All (λ (name, _). Contains params name) (privates_at (after place (step_by k r q))) → IsSound d.protocols roles params (after place (step_by k r q))
sound_after d roles params place k r q no_fault sound here found privates =
    let faultless = item_is_faultless d place.protocol (Reference r) no_fault sound.among here in
    let arity = arity_is_same d place.protocol q r no_fault sound.among here found in
    let given = map (λ (f : Formal). param_at place f.name.text) r.params in
    let own = map (λ (w : Word). prefix_after place (step_by k r q) ++ w.text) q.private in
    record {
      among = among_found (λ (p : Declaration). bytes_eq p.name.text r.protocol.text) d.protocols q found;
      as_many_roles = length-map r.roles (λ (w : Word). role_at place w.text) ∙ arity.same_roles;
      as_many_params = omega (
        arith,
        length-append given own,
        length-map r.params (λ (f : Formal). param_at place f.name.text),
        length-map q.private (λ (w : Word). prefix_after place (step_by k r q) ++ w.text),
        length-append (map (λ (f : Formal). f.name) q.public) q.private,
        length-map q.public (λ (f : Formal). f.name),
        arity.same_params,
      );
      known_roles = All-map (Contains roles) (λ (w : Word). role_at place w.text) r.roles
          (λ j e within. role_is_known d.protocols roles params place (get_or r.roles j e).text sound (faultless.known_roles j e within));
      known_params = All-append (Contains params) given own
          (All-map (Contains params) (λ (f : Formal). param_at place f.name.text) r.params
          (λ j e within. param_is_known d.protocols roles params place (get_or r.params j e).name.text sound (faultless.known_params j e within)))
          (All-map (Contains params) (λ (w : Word). prefix_after place (step_by k r q) ++ w.text) q.private
          (all_of_mapped (λ ((name, _) : List ℕ × ℕ). Contains params name) (λ (w : Word). (prefix_after place (step_by k r q) ++ w.text, w.offset)) q.private privates));
    }

-- the private parameters of the place itself are known
pub privates_here : (protocols : List Declaration) (params : List (List ℕ)) (n : ℕ) (place : Scope) → ArePrivatesKnown protocols params n place → All (λ (name, _). Contains params name) (privates_at place)
privates_here protocols params zero place privates = All-head (λ (path : List Step). All (λ ((name, _) : List ℕ × ℕ). Contains params name) (privates_at (scope_at place path))) [] [] privates.known
privates_here protocols params (suc n) place privates =
    All-head (λ (path : List Step). All (λ ((name, _) : List ℕ × ℕ). Contains params name) (privates_at (scope_at place path))) []
    (flat_map (λ s. map (λ path. s ∷ path) (paths n protocols s.target)) (steps protocols place.protocol)) privates.known

-- and those behind a reference
pub privates_behind : (protocols : List Declaration) (params : List (List ℕ)) (n : ℕ) (place : Scope) (s : Step) → ArePrivatesKnown protocols params (suc n) place → Contains (steps protocols place.protocol) s → ArePrivatesKnown protocols params n (after place s)
privates_behind protocols params n place s privates among =
    let Known : List Step → Type 0 = λ path. All (λ ((name, _) : List ℕ × ℕ). Contains params name) (privates_at (scope_at place path)) in
    let further : Step → List (List Step) = λ s. map (λ path. s ∷ path) (paths n protocols s.target) in
    record {
      known = all_of_mapped Known (λ path. s ∷ path) (paths n protocols s.target)
          (All-contains (λ (s : Step). All Known (further s)) (steps protocols place.protocol) s
          (all_of_gathered Known further (steps protocols place.protocol) (All-tail Known [] (flat_map further (steps protocols place.protocol)) privates.known)) among);
    }
