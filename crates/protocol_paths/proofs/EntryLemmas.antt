-- The private parameters at the ends of paths, by the references of a body.
use Rattle.std.proofs.Common.{◌≡◌, ℕ, zero, suc, ◌+◌, ◌-◌, ◌<◌, ◌≤◌, List, [], ◌∷◌, ◌++◌, length, get_or, map, take, Some, refl, sym, ap, ◌∙◌, arith}
use Rattle.std.specs.List.{enumerate_from, flat_map}
use Rattle.std.proofs.lemmas.List.{append-nil, append_assoc}
use Rattle.bspl_parser.specs.declared.document.Declaration.{Declaration}
use Rattle.bspl_parser.specs.declared.document.Item.{Item}
use Rattle.bspl_parser.specs.declared.document.Item.TheVariants.{Message, Reference}
use Rattle.bspl_parser.specs.declared.document.Reference.{Reference as SpecReference}
use Rattle.bspl_parser.specs.declared.document.Schema.{Schema}
use Rattle.bspl_parser.specs.declared.word.Word.{Word}
use Rattle.protocol_names.specs.Names.{protocol_of}
use Rattle.protocol_paths.specs.declared.followed.Followed.{Followed}
use Rattle.protocol_paths.specs.Flat.{private_entries, privates_at}
use Rattle.protocol_paths.specs.inner.AddsEnds.{item_entries}
use Rattle.protocol_paths.specs.Followed.{FollowsEnough, IsSkipped}
use Rattle.protocol_paths.specs.Path.{Step, end_of, numbered_items, paths, private_words, steps, steps_at}
use Rattle.protocol_paths.specs.Scope.{Scope, after, scope_at}
use Rattle.protocol_paths.proofs.EmptyBelow.{fewer_words, flat_map-flat_map, flat_map-map, flat_map-same, flat_map_empty}
use Rattle.protocol_paths.proofs.Numbered.{made_all, made_more}
use Rattle.protocol_paths.proofs.ReferenceLemmas.{no_step, one_step, step_by}

-- a name and an offset
abbrev Entry : Type 0
Entry = List ℕ × ℕ

-- a path leads to the protocol at its end
pub same_end : (scope : Scope) (path : List Step) → (scope_at scope path).protocol ≡ end_of scope.protocol path
same_end scope [] = refl
same_end scope (s ∷ path) = same_end (after scope s) path

-- without private parameters at the ends there are no entries
none_at_end : (scope : Scope) (path : List Step) → (end_of scope.protocol path).private ≡ [] → privates_at (scope_at scope path) ≡ []
none_at_end scope path none =
    let here : (scope_at scope path).protocol.private ≡ [] = ap (λ (p : Declaration). p.private) (same_end scope path) ∙ none in
    ap (map (λ (w : Word). ((scope_at scope path).prefix ++ w.text, w.offset))) here

pub no_entries : (n : ℕ) (protocols : List Declaration) (scope : Scope) → private_words n protocols scope.protocol ≡ [] → private_entries n protocols scope ≡ []
no_entries n protocols scope none = flat_map_empty (λ path. (end_of scope.protocol path).private) (λ path. privates_at (scope_at scope path)) (none_at_end scope) (paths n protocols scope.protocol) none

-- without references nothing comes of the items
no_items : (protocols : List Declaration) (scope : Scope) (items : List (ℕ × Item)) → flat_map (item_entries zero protocols scope) items ≡ []
no_items protocols scope [] = refl
no_items protocols scope (i ∷ items) = no_items protocols scope items

-- of one protocol its own, and then those through each item
pub entries_more : (n : ℕ) (protocols : List Declaration) (scope : Scope) → private_entries n protocols scope ≡ privates_at scope ++ flat_map (item_entries n protocols scope) (numbered_items scope.protocol)
entries_more zero protocols scope = ap (λ (list : List Entry). privates_at scope ++ list) (sym (no_items protocols scope (numbered_items scope.protocol)))
entries_more (suc n) protocols scope = ap (λ (list : List Entry). privates_at scope ++ list) (
    flat_map-flat_map (λ path. privates_at (scope_at scope path)) (λ s. map (λ path. s ∷ path) (paths n protocols s.target)) (steps protocols scope.protocol)
    ∙ flat_map-same (λ s. flat_map (λ path. privates_at (scope_at scope path)) (map (λ path. s ∷ path) (paths n protocols s.target))) (λ s. private_entries n protocols (after scope s)) (λ s. flat_map-map (λ path. privates_at (scope_at scope path)) (λ path. s ∷ path) (paths n protocols s.target)) (steps protocols scope.protocol)
    ∙ flat_map-flat_map (λ s. private_entries n protocols (after scope s)) (steps_at protocols) (numbered_items scope.protocol))

pub after_more : (f : ℕ × Item → List Entry) (body : List Item) (i : ℕ) (item : Item) (own old mid new : List Entry) → i < length body → item ≡ get_or body i item → mid ≡ old ++ (own ++ flat_map f (take i (enumerate_from 1 body))) → new ≡ mid ++ f (i + 1, item) → new ≡ old ++ (own ++ flat_map f (take (i + 1) (enumerate_from 1 body)))
after_more f body i item own old mid new within is_item so_far one =
    one ∙ ap (λ (list : List Entry). list ++ f (i + 1, item)) so_far
    ∙ append_assoc old (own ++ flat_map f (take i (enumerate_from 1 body))) (f (i + 1, item))
    ∙ ap (λ (list : List Entry). old ++ list) (append_assoc own (flat_map f (take i (enumerate_from 1 body))) (f (i + 1, item)))
    ∙ ap (λ (list : List Entry). old ++ (own ++ list)) (sym (made_more f body i item within is_item))

pub after_all : (n i : ℕ) (protocols : List Declaration) (scope : Scope) (old new : List Entry) → length scope.protocol.body ≤ i → new ≡ old ++ (privates_at scope ++ flat_map (item_entries n protocols scope) (take i (numbered_items scope.protocol))) → new ≡ old ++ private_entries n protocols scope
after_all n i protocols scope old new past so_far =
    so_far
    ∙ ap (λ (list : List Entry). old ++ (privates_at scope ++ list)) (made_all (item_entries n protocols scope) scope.protocol.body i past)
    ∙ ap (λ (list : List Entry). old ++ list) (sym (entries_more n protocols scope))

-- nothing was added
pub after_none : (list old : List Entry) → list ≡ [] → old ≡ old ++ list
after_none list old none = sym (append-nil old) ∙ ap (λ (more : List Entry). old ++ more) (sym none)

-- there is nothing through a message
pub entries_of_message : (n : ℕ) (protocols : List Declaration) (scope : Scope) (position : ℕ) (m : Schema) → item_entries n protocols scope (position, Message m) ≡ []
entries_of_message zero protocols scope position m = refl
entries_of_message (suc n) protocols scope position m = refl

-- nor through a reference that is skipped
pub entries_skipped : (n : ℕ) (protocols : List Declaration) (followed : Followed) (scope : Scope) (position : ℕ) (r : SpecReference) → n ≤ length protocols → FollowsEnough protocols followed → ((q : Declaration) → protocol_of protocols r.protocol.text ≡ Some q → IsSkipped protocols followed.privates.now q) → item_entries n protocols scope (position, Reference r) ≡ []
entries_skipped zero protocols followed scope position r within enough skipped = refl
entries_skipped (suc n) protocols followed scope position r within enough skipped =
    no_step (λ s. private_entries n protocols (after scope s)) protocols position r
    (λ q found. no_entries n protocols (after scope (step_by position r q)) (fewer_words n (length protocols) protocols q (omega (arith, within)) (enough.privates q (skipped q found))))

-- those through a reference that is followed
pub entries_through : (n : ℕ) (protocols : List Declaration) (scope : Scope) (position : ℕ) (r : SpecReference) (q : Declaration) → 0 < n → protocol_of protocols r.protocol.text ≡ Some q → item_entries n protocols scope (position, Reference r) ≡ private_entries (n - 1) protocols (after scope (step_by position r q))
entries_through zero protocols scope position r q some found = absurd (omega (arith, some))
entries_through (suc n) protocols scope position r q some found =
    let less : n ≡ suc n - 1 = omega arith in
    ap (flat_map (λ s. private_entries n protocols (after scope s))) (one_step protocols position r q found)
    ∙ append-nil (private_entries n protocols (after scope (step_by position r q)))
    ∙ ap (λ m. private_entries m protocols (after scope (step_by position r q))) less
