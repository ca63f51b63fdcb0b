-- The paths listed are those along which references lead to a protocol, each once, in rising order.
use Rattle.std.proofs.Common.{◌≡◌, ℕ, zero, suc, ◌+◌, ◌≤◌, List, [], ◌∷◌, get_or, map, Option, Some, None, refl, sym, subst, arith, inl, inr}
use Rattle.std.specs.List.{All, AllPairs, Contains, enumerate_from, flat_map}
use Rattle.std.proofs.lemmas.List.Elements.{All-append, All-contains, All-cons, All-map, All-nil, All-weaker, Contains-append_right}
use Rattle.std.proofs.lemmas.List.Kept.{AllPairs-cons}
use Rattle.bspl_parser.specs.declared.document.Declaration.{Declaration}
use Rattle.bspl_parser.specs.declared.document.Item.{Item}
use Rattle.bspl_parser.specs.declared.document.Item.TheVariants.{Message, Reference}
use Rattle.list_base.proofs.Mapped.{mapped_pairs}
use Rattle.protocol_names.specs.Names.{protocol_of}
use Rattle.std.specs.Option.{option_map_or}
use Rattle.std.proofs.lemmas.List.{append-nil}
use Rattle.protocol_paths.specs.Path.{Step, end_of, numbered_items, paths, steps, steps_at}
use Rattle.protocol_paths.specs.Position.{IsLexBelow, LeadsOn, ListsPaths, path_end, positions_of}
use Rattle.protocol_paths.specs.ReferencePath.{IsReferencePath, IsStepOf, IsWithinDepth}
use Rattle.protocol_paths.proofs.DepthLemmas.{all_gathered, no_step_left, steps_hold, within_after}
use Rattle.protocol_paths.proofs.EmptyBelow.{flat_map-flat_map}
use Rattle.protocol_paths.proofs.PositionLemmas.{item_numbered, member_gathered, member_mapped, pairs_append}
use Rattle.protocol_paths.proofs.ReferenceLemmas.{one_step, step_by}

-- the paths that begin with a step
abbrev paths_by : ℕ → List Declaration → Step → List (List Step)
paths_by n protocols s = map (λ path. s ∷ path) (paths n protocols s.target)

-- each path listed is one along references
paths_hold : (n : ℕ) (protocols : List Declaration) (p : Declaration) → All (IsReferencePath protocols p) (paths n protocols p)
paths_hold zero protocols p = All-cons (IsReferencePath protocols p) [] [] tt (All-nil (IsReferencePath protocols p))
paths_hold (suc n) protocols p =
    All-cons (IsReferencePath protocols p) [] (flat_map (paths_by n protocols) (steps protocols p)) tt
    (all_gathered (IsReferencePath protocols p) (paths_by n protocols) (steps protocols p)
    (All-weaker (IsStepOf protocols p) (λ s. All (IsReferencePath protocols p) (paths_by n protocols s))
    (λ s step. All-map (IsReferencePath protocols p) (λ path. s ∷ path) (paths n protocols s.target)
    (All-weaker (IsReferencePath protocols s.target) (λ path. IsReferencePath protocols p (s ∷ path)) (λ path leads. (step, leads)) (paths n protocols s.target) (paths_hold n protocols s.target)))
    (steps protocols p) (steps_hold protocols p)))

-- along its positions, references lead to the protocol at its end
leads_on : (protocols : List Declaration) (p : Declaration) (path : List Step) → IsReferencePath protocols p path → LeadsOn protocols p (positions_of path) (end_of p path)
leads_on protocols p [] leads = refl
leads_on protocols p (s ∷ path) leads =
    (s.target, record { reference = s.reference; item = leads.0.item; target = leads.0.target }, leads_on protocols s.target path leads.1)

-- where references lead to a protocol along positions, a path is listed
path_found : (n : ℕ) (protocols : List Declaration) (p : Declaration) (ks : List ℕ) (q : Declaration) → IsWithinDepth protocols p n → LeadsOn protocols p ks q → (path : List Step) × Contains (paths n protocols p) path × (path_end p path ≡ (ks, q))
path_found zero protocols p [] q within leads = ([], (0, omega arith, refl), λ i. ([], leads i))
path_found (suc n) protocols p [] q within leads = ([], (0, omega arith, refl), λ i. ([], leads i))
path_found zero protocols p (k ∷ ks) q within (r, refers, leads) =
    absurd (no_step_left protocols p within (step_by k refers.reference r) (record { item = refers.item; target = refers.target }))
path_found (suc n) protocols p (k ∷ ks) q within (r, refers, leads) =
    let s = step_by k refers.reference r in
    let step : IsStepOf protocols p s = record { item = refers.item; target = refers.target } in
    let rest = path_found n protocols r ks q (within_after n protocols p s within step) leads in
    let among : Contains (steps protocols p) s =
    member_gathered (steps_at protocols) (numbered_items p) (k, Reference refers.reference) s (item_numbered p k (Reference refers.reference) refers.item)
    (subst (λ (ss : List Step). Contains ss s) (sym (one_step protocols k refers.reference r refers.target)) (0, omega arith, refl)) in (
      s ∷ rest.0,
      Contains-append_right ([] ∷ []) (flat_map (paths_by n protocols) (steps protocols p)) (s ∷ rest.0)
          (member_gathered (paths_by n protocols) (steps protocols p) s (s ∷ rest.0) among (member_mapped (λ path. s ∷ path) (paths n protocols r) rest.0 rest.1)),
      λ i. (k ∷ (rest.2 i).0, (rest.2 i).1),
    )

-- the order of paths, by their positions
abbrev Below : List Step → List Step → Type 0
Below path other = IsLexBelow (positions_of path) (positions_of other)

-- the first step is at the position
abbrev Begins : ℕ → List Step → Type 0
Begins k path = (rest : List ℕ) × (positions_of path ≡ k ∷ rest)

-- or later
abbrev BeginsFrom : ℕ → List Step → Type 0
BeginsFrom k path = (j : ℕ) × (k ≤ j) × Begins j path

-- the paths that begin with an item
abbrev paths_through : ℕ → List Declaration → ℕ × Item → List (List Step)
paths_through n protocols i = flat_map (paths_by n protocols) (steps_at protocols i)

-- a path that begins earlier is below
earlier_below : (k : ℕ) (path other : List Step) → Begins k path → BeginsFrom (k + 1) other → Below path other
earlier_below k path other begins later =
    subst (λ ks. IsLexBelow ks (positions_of other)) (sym begins.1) (subst (λ ls. IsLexBelow (k ∷ begins.0) ls) (sym later.2.1) (inl (omega (arith, later.1))))

-- the empty path is below each that begins with a step
empty_below : (k : ℕ) (path : List Step) → BeginsFrom k path → Below [] path
empty_below k path begins = subst (λ ls. IsLexBelow [] ls) (sym begins.2.1) tt

-- the paths by an item begin at its position
item_begins : (n : ℕ) (protocols : List Declaration) (k : ℕ) (i : Item) → All (Begins k) (paths_through n protocols (k, i))
item_begins n protocols k (Message m) = All-nil (Begins k)
item_begins n protocols k (Reference r) =
    elim (protocol_of protocols r.protocol.text) as (λ (o : Option Declaration). All (Begins k) (flat_map (paths_by n protocols) (option_map_or (λ q. step_by k r q ∷ []) o []))) [
      | None ↦ All-nil (Begins k)
      | Some q ↦
          subst (All (Begins k)) (sym (append-nil (paths_by n protocols (step_by k r q))))
          (All-map (Begins k) (λ path. step_by k r q ∷ path) (paths n protocols q) (λ j d inside. (positions_of (get_or (paths n protocols q) j d), refl)))
    ]

-- those of the items from a position on begin there or later
items_begin : (n : ℕ) (protocols : List Declaration) (k : ℕ) (body : List Item) → All (BeginsFrom k) (flat_map (paths_through n protocols) (enumerate_from k body))
items_begin n protocols k [] = All-nil (BeginsFrom k)
items_begin n protocols k (i ∷ body) =
    All-append (BeginsFrom k) (paths_through n protocols (k, i)) (flat_map (paths_through n protocols) (enumerate_from (k + 1) body))
    (All-weaker (Begins k) (BeginsFrom k) (λ path begins. (k, omega arith, begins)) (paths_through n protocols (k, i)) (item_begins n protocols k i))
    (All-weaker (BeginsFrom (k + 1)) (BeginsFrom k) (λ path begins. (begins.0, omega (arith, begins.1), begins.2)) (flat_map (paths_through n protocols) (enumerate_from (k + 1) body)) (items_begin n protocols (k + 1) body))

-- the paths of the items rise if those of each item do
items_rise : (n : ℕ) (protocols : List Declaration) → ((k : ℕ) (i : Item) → AllPairs Below (paths_through n protocols (k, i))) → (k : ℕ) (body : List Item) → AllPairs Below (flat_map (paths_through n protocols) (enumerate_from k body))
items_rise n protocols each k [] = λ i j d less within. absurd (omega (arith, within))
items_rise n protocols each k (i ∷ body) =
    let later = flat_map (paths_through n protocols) (enumerate_from (k + 1) body) in
    pairs_append Below (paths_through n protocols (k, i)) later (each k i) (items_rise n protocols each (k + 1) body)
    (All-weaker (Begins k) (λ path. All (Below path) later)
    (λ path begins. All-weaker (BeginsFrom (k + 1)) (Below path) (λ other from. earlier_below k path other begins from) later (items_begin n protocols (k + 1) body))
    (paths_through n protocols (k, i)) (item_begins n protocols k i))

-- the paths by an item rise if those from its target do
item_rises : (n : ℕ) (protocols : List Declaration) → ((q : Declaration) → AllPairs Below (paths n protocols q)) → (k : ℕ) (i : Item) → AllPairs Below (paths_through n protocols (k, i))
item_rises n protocols each k (Message m) = λ i j d less within. absurd (omega (arith, within))
item_rises n protocols each k (Reference r) =
    elim (protocol_of protocols r.protocol.text) as (λ (o : Option Declaration). AllPairs Below (flat_map (paths_by n protocols) (option_map_or (λ q. step_by k r q ∷ []) o []))) [
      | None ↦ λ i j d less within. absurd (omega (arith, within))
      | Some q ↦
          subst (AllPairs Below) (sym (append-nil (paths_by n protocols (step_by k r q))))
          (mapped_pairs Below (λ path. step_by k r q ∷ path) (paths n protocols q) (λ i j d less within. inr (refl, each q i j d less within)))
    ]

-- the paths rise
paths_rise : (n : ℕ) (protocols : List Declaration) (p : Declaration) → AllPairs Below (paths n protocols p)
paths_rise zero protocols p = λ i j d less within. absurd (omega (arith, less, within))
paths_rise (suc n) protocols p =
    let through = flat_map (paths_through n protocols) (numbered_items p) in
    let same : flat_map (paths_by n protocols) (steps protocols p) ≡ through = flat_map-flat_map (paths_by n protocols) (steps_at protocols) (numbered_items p) in
    subst (λ (list : List (List Step)). AllPairs Below ([] ∷ list)) (sym same)
    (AllPairs-cons Below [] through (All-weaker (BeginsFrom 1) (Below []) (empty_below 1) through (items_begin n protocols 1 p.body))
    (items_rise n protocols (item_rises n protocols (paths_rise n protocols)) 1 p.body))

-- the list of paths is complete
pub paths_listed : (n : ℕ) (protocols : List Declaration) (top : Declaration) → IsWithinDepth protocols top n → ListsPaths protocols top (paths n protocols top)
paths_listed n protocols top within = record {
  steps = paths_hold n protocols top;
  exact = λ positions q. (
    (λ among. All-contains (λ e. LeadsOn protocols top e.0 e.1) (map (path_end top) (paths n protocols top)) (positions, q)
        (All-map (λ e. LeadsOn protocols top e.0 e.1) (path_end top) (paths n protocols top)
        (All-weaker (IsReferencePath protocols top) (λ path. LeadsOn protocols top (positions_of path) (end_of top path)) (leads_on protocols top) (paths n protocols top) (paths_hold n protocols top))) among),
    (λ leads. let found = path_found n protocols top positions q within leads in
        subst (Contains (map (path_end top) (paths n protocols top))) found.2 (member_mapped (path_end top) (paths n protocols top) found.0 found.1)),
  );
  rising = mapped_pairs IsLexBelow positions_of (paths n protocols top) (paths_rise n protocols top);
}
