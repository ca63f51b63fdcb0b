-- What is added at the ends of paths, item by item.
use Rattle.std.proofs.Common.{◌≡◌, ℕ, ◌+◌, ◌-◌, ◌<◌, ◌≤◌, List, [], ◌∷◌, ◌++◌, length, get_or, map, take, refl, sym, ap, subst, ◌∙◌}
use Rattle.std.specs.List.{AllZip, enumerate_from, flat_map}
use Rattle.bspl_parser.specs.declared.document.Declaration.{Declaration}
use Rattle.bspl_parser.specs.declared.document.Item.{Item}
use Rattle.bspl_parser.specs.declared.document.Item.TheVariants.{Message, Reference}
use Rattle.bspl_parser.specs.declared.document.Reference.{Reference as SpecReference}
use Rattle.bspl_parser.specs.declared.document.Schema.{Schema}
use Rattle.protocol_paths.specs.declared.context.Context.{Context}
use Rattle.protocol_paths.specs.declared.ends.Ends.{Ends}
use Rattle.protocol_paths.specs.declared.link.Link.{Link}
use Rattle.protocol_paths.specs.Flat.{IsImage, entry, private_entries, privates_at}
use Rattle.protocol_paths.specs.Path.{Step, item_messages, message_paths, numbered_items}
use Rattle.protocol_paths.specs.Scope.{Scope, after, start}
use Rattle.protocol_paths.specs.inner.AddsEach.{AddsEach, IsImageMessage}
use Rattle.protocol_paths.specs.inner.AddsEnds.{AddsEnds, AreEnds, item_entries}
use Rattle.protocol_paths.specs.inner.Links.{IsLinkBy, step_of}
use Rattle.protocol_paths.specs.inner.ScopeOf.{SkipsName, protocols_of}
use Rattle.protocol_paths.proofs.AddingLemmas.{adds_after, adds_all, adds_more, adds_none, all_items}
use Rattle.protocol_paths.proofs.EntryLemmas.{after_all, after_more, after_none, entries_of_message, entries_skipped, entries_through}
use Rattle.protocol_paths.proofs.ReferenceLemmas.{link_step, message_alone, messages_after, messages_skipped, step_by}

-- nothing was added for nothing
pub ends_none : (scope : Scope) (entries : List (List ℕ × ℕ)) (found : List (List Step × Schema)) (ends : Ends) → entries ≡ [] → found ≡ [] → AddsEnds scope entries found ends ends
ends_none scope entries found ends no_entries no_messages = record {
  private = after_none entries (map entry ends.private) no_entries;
  messages = adds_none (IsImageMessage scope) found ends.messages ends.messages no_messages refl;
}

-- nor through a reference that is skipped
pub ends_skipped : (context : Context) (scope : Scope) (position : ℕ) (r : SpecReference) (i : Item) (ends : Ends) → i ≡ Reference r → SkipsName context r.protocol.text → AddsEnds scope (item_entries context.limit (protocols_of context) scope (position, i)) (item_messages context.limit (protocols_of context) (position, i)) ends ends
ends_skipped context scope position r i ends is skips =
    let protocols = protocols_of context in
    ends_none scope (item_entries context.limit protocols scope (position, i)) (item_messages context.limit protocols (position, i)) ends
    (ap (λ (j : Item). item_entries context.limit protocols scope (position, j)) is ∙ entries_skipped context.limit protocols context.followed.now scope position r context.within context.enough (λ q found. (skips q found).1))
    (ap (λ (j : Item). item_messages context.limit protocols (position, j)) is ∙ messages_skipped context.limit protocols context.followed.now position r context.within context.enough (λ q found. (skips q found).0))

-- a message of the body
pub ends_message : (n : ℕ) (protocols : List Declaration) (scope : Scope) (position : ℕ) (m : Schema) (i : Item) (old new : Ends) → i ≡ Message m → new.private ≡ old.private → AddsEach (IsImage scope) (m ∷ []) old.messages new.messages → AddsEnds scope (item_entries n protocols scope (position, i)) (item_messages n protocols (position, i)) old new
ends_message n protocols scope position m i old new is same adds = record {
  private = ap (map entry) same ∙ after_none (item_entries n protocols scope (position, i)) (map entry old.private) (ap (λ (j : Item). item_entries n protocols scope (position, j)) is ∙ entries_of_message n protocols scope position m);
  messages = subst (λ (xs : List (List Step × Schema)). AddsEach (IsImageMessage scope) xs old.messages new.messages) (sym (ap (λ (j : Item). item_messages n protocols (position, j)) is ∙ message_alone n protocols position m)) (image_alone scope m old.messages new.messages adds);
}
  where
    image_each : (scope : Scope) (m : Schema) (more : List Schema) → AllZip (IsImage scope) (m ∷ []) more → AllZip (IsImageMessage scope) (([], m) ∷ []) more
    image_each scope m [] each = absurd each
    image_each scope m (x ∷ more) each = (each.0, rest more each.1)
      where
        rest : (more : List Schema) → AllZip (IsImage scope) [] more → AllZip (IsImageMessage scope) [] more
        rest [] none = tt
        rest (y ∷ ys) some = absurd some

    image_alone : (scope : Scope) (m : Schema) (old new : List Schema) → AddsEach (IsImage scope) (m ∷ []) old new → AddsEach (IsImageMessage scope) (([], m) ∷ []) old new
    image_alone scope m old new adds = record { more = adds.more; parts = adds.parts; each = image_each scope m adds.more adds.each }

-- what was added from the next scope was added through the reference
pub ends_through : (protocols : List Declaration) (scope : Scope) (n position : ℕ) (r : SpecReference) (l : Link) (i : Item) (old new : Ends) → i ≡ Reference r → 0 < n → IsLinkBy protocols position r l → AddsEnds (after scope (step_of l)) (private_entries (n - 1) protocols (after scope (step_of l))) (message_paths (n - 1) protocols l.target.now) old new → AddsEnds scope (item_entries n protocols scope (position, i)) (item_messages n protocols (position, i)) old new
ends_through protocols scope n position r l i old new is some by adds =
    let step = link_step protocols position r l by in
    let q = l.target.now in
    record {
      private = adds.private ∙ ap (λ (list : List (List ℕ × ℕ)). map entry old.private ++ list) (
          ap (λ (s : Step). private_entries (n - 1) protocols (after scope s)) step
          ∙ sym (ap (λ (j : Item). item_entries n protocols scope (position, j)) is ∙ entries_through n protocols scope position r q some by.leads));
      messages = subst (λ (xs : List (List Step × Schema)). AddsEach (IsImageMessage scope) xs old.messages new.messages)
          (sym (ap (λ (j : Item). item_messages n protocols (position, j)) is ∙ messages_after n protocols position r q some by.leads))
          (adds_after scope (after scope (step_of l)) (step_by position r q) (message_paths (n - 1) protocols q) old.messages new.messages (ap (after scope) step) adds.messages);
    }

-- the private parameters of the scope's protocol
pub ends_own : (n : ℕ) (protocols : List Declaration) (scope : Scope) (old new : Ends) → map entry new.private ≡ map entry old.private ++ privates_at scope → new.messages ≡ old.messages → AddsEnds scope (privates_at scope ++ flat_map (item_entries n protocols scope) (take 0 (numbered_items scope.protocol))) (flat_map (item_messages n protocols) (take 0 (numbered_items scope.protocol))) old new
ends_own n protocols scope old new own same = record {
  private = own ∙ ap (λ (list : List (List ℕ × ℕ)). map entry old.private ++ list) (after_none [] (privates_at scope) refl);
  messages = adds_none (IsImageMessage scope) [] old.messages new.messages refl same;
}

-- one item more
pub ends_more : (n : ℕ) (protocols : List Declaration) (scope : Scope) (body : List Item) (i : ℕ) (item : Item) (old mid new : Ends) → i < length body → item ≡ get_or body i item → AddsEnds scope (privates_at scope ++ flat_map (item_entries n protocols scope) (take i (enumerate_from 1 body))) (flat_map (item_messages n protocols) (take i (enumerate_from 1 body))) old mid → AddsEnds scope (item_entries n protocols scope (i + 1, item)) (item_messages n protocols (i + 1, item)) mid new → AddsEnds scope (privates_at scope ++ flat_map (item_entries n protocols scope) (take (i + 1) (enumerate_from 1 body))) (flat_map (item_messages n protocols) (take (i + 1) (enumerate_from 1 body))) old new
ends_more n protocols scope body i item old mid new within is_item so_far one = record {
  private = after_more (item_entries n protocols scope) body i item (privates_at scope) (map entry old.private) (map entry mid.private) (map entry new.private) within is_item so_far.private one.private;
  messages = adds_more (IsImageMessage scope) (item_messages n protocols) body i item old.messages mid.messages new.messages within is_item so_far.messages one.messages;
}

-- all items
pub ends_all : (n : ℕ) (protocols : List Declaration) (scope : Scope) (i : ℕ) (old new : Ends) → length scope.protocol.body ≤ i → AddsEnds scope (privates_at scope ++ flat_map (item_entries n protocols scope) (take i (numbered_items scope.protocol))) (flat_map (item_messages n protocols) (take i (numbered_items scope.protocol))) old new → AddsEnds scope (private_entries n protocols scope) (message_paths n protocols scope.protocol) old new
ends_all n protocols scope i old new past so_far = record {
  private = after_all n i protocols scope (map entry old.private) (map entry new.private) past so_far.private;
  messages = adds_all (IsImageMessage scope) (item_messages n protocols) scope.protocol.body i old.messages new.messages past so_far.messages;
}

-- what was added to nothing from the top scope
pub are_ends : (n : ℕ) (protocols : List Declaration) (top : Declaration) (scope : Scope) (old new : Ends) → scope ≡ start top → old.private ≡ [] → old.messages ≡ [] → AddsEnds scope (private_entries n protocols scope) (message_paths n protocols scope.protocol) old new → AreEnds n protocols top new
are_ends n protocols top scope old new starts no_private no_messages adds =
    let from : AddsEnds (start top) (private_entries n protocols (start top)) (message_paths n protocols top) old new =
    subst (λ (s : Scope). AddsEnds s (private_entries n protocols s) (message_paths n protocols s.protocol) old new) starts adds in
    record {
      private = from.private ∙ ap (λ list. map entry list ++ private_entries n protocols (start top)) no_private;
      messages = all_items (start top) (message_paths n protocols top) old.messages new.messages no_messages from.messages;
    }
