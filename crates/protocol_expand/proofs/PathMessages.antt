-- The messages at the ends of paths stand in protocols of the document, at sound places.
use Rattle.std.proofs.Common.{◌≡◌, ℕ, zero, suc, List, [], ◌∷◌, get_or, map, Option, Some, None, refl, sym, subst}
use Rattle.std.specs.List.{All, Contains, flat_map}
use Rattle.std.specs.Option.{option_map_or}
use Rattle.std.proofs.lemmas.List.Elements.{All-append, All-cons, All-map, All-nil, Contains-get_or}
use Rattle.bspl_parser.specs.declared.document.Declaration.{Declaration}
use Rattle.bspl_parser.specs.declared.document.Document.{Document}
use Rattle.bspl_parser.specs.declared.document.Item.{Item}
use Rattle.bspl_parser.specs.declared.document.Item.TheVariants.{Message, Reference}
use Rattle.bspl_parser.specs.declared.document.Reference.{Reference as Use}
use Rattle.bspl_parser.specs.declared.document.Schema.{Schema}
use Rattle.protocol_names.specs.Fault.{HasNoFault}
use Rattle.protocol_names.specs.Names.{protocol_of}
use Rattle.protocol_paths.specs.Path.{Step, item_messages, message_paths, numbered_items, steps_at, through}
use Rattle.protocol_paths.specs.Scope.{Scope, after, scope_at}
use Rattle.protocol_paths.specs.Laws.{PathsByItems}
use Rattle.protocol_expand.proofs.Gathered.{all_gathered, among_first, among_gathered, among_numbered}
use Rattle.protocol_expand.proofs.PathPlaces.{ArePrivatesKnown, IsSound, privates_behind, privates_here, sound_after, step_by}

-- the path leads to a sound place, and the message stands in its protocol
pub record IsFound (protocols : List Declaration) (roles params : List (List ℕ)) (place : Scope) (x : List Step × Schema) : Type 0 where
  pub sound : IsSound protocols roles params (scope_at place x.0)
  pub stands : Contains (scope_at place x.0).protocol.body (Message x.1)

-- a message of the body
found_here : (protocols : List Declaration) (roles params : List (List ℕ)) (place : Scope) (k : ℕ) (m : Schema) → IsSound protocols roles params place → Contains (numbered_items place.protocol) (k, Message m) → All (IsFound protocols roles params place) (([], m) ∷ [])
found_here protocols roles params place k m sound here =
    All-cons (IsFound protocols roles params place) ([], m) [] (record { sound = sound; stands = among_numbered 1 k place.protocol.body (Message m) here }) (All-nil (IsFound protocols roles params place))

-- what was found from the next place is found behind the step
found_behind : (protocols : List Declaration) (roles params : List (List ℕ)) (place : Scope) (s : Step) (x : List Step × Schema) → IsFound protocols roles params (after place s) x → IsFound protocols roles params place (through s x)
found_behind protocols roles params place s (path, m) found = record { sound = found.sound; stands = found.stands }

-- the messages through so many references are found, from each sound place
abbrev FindsAll : Document → List (List ℕ) → List (List ℕ) → ℕ → Type 0
FindsAll d roles params n = (place : Scope) → IsSound d.protocols roles params place → ArePrivatesKnown d.protocols params n place → All (IsFound d.protocols roles params place) (message_paths n d.protocols place.protocol)

-- those behind a reference
found_by : PathsByItems → (d : Document) (roles params : List (List ℕ)) (n : ℕ) (place : Scope) (k : ℕ) (r : Use) → HasNoFault d → FindsAll d roles params n → IsSound d.protocols roles params place → ArePrivatesKnown d.protocols params (suc n) place → Contains (numbered_items place.protocol) (k, Reference r) → All (IsFound d.protocols roles params place) (item_messages (suc n) d.protocols (k, Reference r))
found_by paths d roles params n place k r no_fault finds sound privates here =
    (elim (protocol_of d.protocols r.protocol.text) as (λ (o : Option Declaration). protocol_of d.protocols r.protocol.text ≡ o → All (IsFound d.protocols roles params place) (flat_map (λ s. map (through s) (message_paths n d.protocols s.target)) (option_map_or (λ q. step_by k r q ∷ []) o []))) [
      | None ↦ λ missing. All-nil (IsFound d.protocols roles params place)
      | Some q ↦ λ found.
          let s = step_by k r q in
          let stands : Contains (steps_at d.protocols (k, Reference r)) s = subst (λ (list : List Step). Contains list s) (sym (paths.reference d.protocols k r q found)) (among_first s []) in
          let behind_s = privates_behind d.protocols params n place s privates (among_gathered (steps_at d.protocols) (numbered_items place.protocol) (k, Reference r) s here stands) in
          let next = sound_after d roles params place k r q no_fault sound (among_numbered 1 k place.protocol.body (Reference r) here) found (privates_here d.protocols params n (after place s) behind_s) in
          All-append (IsFound d.protocols roles params place) (map (through s) (message_paths n d.protocols q)) []
          (All-map (IsFound d.protocols roles params place) (through s) (message_paths n d.protocols q)
          (λ j e within. found_behind d.protocols roles params place s (get_or (message_paths n d.protocols q) j e) (finds (after place s) next behind_s j e within)))
          (All-nil (IsFound d.protocols roles params place))
    ]) refl

-- those of an item, through no reference
found_zero : (d : Document) (roles params : List (List ℕ)) (place : Scope) (i : ℕ × Item) → IsSound d.protocols roles params place → Contains (numbered_items place.protocol) i → All (IsFound d.protocols roles params place) (item_messages 0 d.protocols i)
found_zero d roles params place (k, Message m) sound here = found_here d.protocols roles params place k m sound here
found_zero d roles params place (k, Reference r) sound here = All-nil (IsFound d.protocols roles params place)

-- and through references
found_suc : PathsByItems → (d : Document) (roles params : List (List ℕ)) (n : ℕ) (place : Scope) (i : ℕ × Item) → HasNoFault d → FindsAll d roles params n → IsSound d.protocols roles params place → ArePrivatesKnown d.protocols params (suc n) place → Contains (numbered_items place.protocol) i → All (IsFound d.protocols roles params place) (item_messages (suc n) d.protocols i)
found_suc paths d roles params n place (k, Message m) no_fault finds sound privates here = found_here d.protocols roles params place k m sound here
found_suc paths d roles params n place (k, Reference r) no_fault finds sound privates here = found_by paths d roles params n place k r no_fault finds sound privates here

-- each message at the end of a path is found at a sound place
pub messages_are_found : PathsByItems → (d : Document) (roles params : List (List ℕ)) (n : ℕ) → HasNoFault d → (place : Scope) → IsSound d.protocols roles params place → ArePrivatesKnown d.protocols params n place → All (IsFound d.protocols roles params place) (message_paths n d.protocols place.protocol)
messages_are_found paths d roles params zero no_fault place sound privates =
    all_gathered (IsFound d.protocols roles params place) (item_messages 0 d.protocols) (numbered_items place.protocol)
    (λ j e within. found_zero d roles params place (get_or (numbered_items place.protocol) j e) sound (Contains-get_or (numbered_items place.protocol) j e within))
messages_are_found paths d roles params (suc n) no_fault place sound privates =
    all_gathered (IsFound d.protocols roles params place) (item_messages (suc n) d.protocols) (numbered_items place.protocol)
    (λ j e within. found_suc paths d roles params n place (get_or (numbered_items place.protocol) j e) no_fault (messages_are_found paths d roles params n no_fault) sound privates (Contains-get_or (numbered_items place.protocol) j e within))
