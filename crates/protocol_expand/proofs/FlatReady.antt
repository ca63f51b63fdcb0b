-- A flat protocol whose names are its own is ready to be expanded.
use Rattle.std.proofs.Common.{◌≡◌, ◌≢◌, ℕ, List, [], get_or, Some, sym, subst}
use Rattle.std.specs.Prelude.{slice_get}
use Rattle.std.specs.List.{All}
use Rattle.std.proofs.lemmas.Option.{get_or_from_slice_get, slice_get_within}
use Rattle.bspl_parser.specs.declared.document.Declaration.{Declaration}
use Rattle.bspl_parser.specs.declared.document.Document.{Document}
use Rattle.bspl_parser.specs.declared.document.Formal.{Formal}
use Rattle.bspl_parser.specs.declared.document.Item.{Item}
use Rattle.bspl_parser.specs.declared.document.Item.TheVariants.{Message, Reference}
use Rattle.bspl_parser.specs.declared.word.Word.{Word}
use Rattle.bspl_parser.specs.Spelling.{IsDeclaration, IsFormal, IsItem, IsDocument}
use Rattle.protocol_paths.specs.Flat.{IsFlat}
use Rattle.protocol_expand.specs.WellScoped.{AreDistinct, HasFixedAdornment, IsWellScoped, IsWellScopedItem}
use Rattle.protocol_limits.specs.Laws.{MessagesAreCounted, PrivatesAreCounted}
use Rattle.protocol_paths.specs.Laws.{PathsByItems}
use Rattle.protocol_expand.specs.Repeats.{AreNamesDistinct}
use Rattle.protocol_expand.proofs.Counted.{CarriesFew, counts_are_within, messages_carry_few}
use Rattle.protocol_expand.proofs.Requested.{IsFlatRequest}
use Rattle.protocol_expand.proofs.Resolved.{IsResolvedItem, items_are_resolved, public_is_adorned, roles_are_apart}

-- a protocol of a document is as well formed as the document
top_formed : (d : Document) (number : ℕ) (top : Declaration) → IsDocument d → slice_get d.protocols number ≡ Some top → IsDeclaration top
top_formed d number top formed stands =
    subst (λ (p : Declaration). IsDeclaration p) (get_or_from_slice_get d.protocols number top top stands)
    (formed.each number top (slice_get_within d.protocols number top stands))

-- an item that is resolved is well formed
item_formed : (flat : Declaration) (i : Item) → IsResolvedItem flat i → IsItem i
item_formed flat (Message s) resolved = resolved.formed
item_formed flat (Reference r) resolved = absurd resolved

-- and with not too many parameters it is ready
item_ready : (flat : Declaration) (i : Item) → IsResolvedItem flat i → CarriesFew i → IsWellScopedItem flat i
item_ready flat (Reference r) resolved few = absurd resolved
item_ready flat (Message s) resolved few = record {
  known_sender = resolved.known_sender;
  known_receiver = resolved.known_receiver;
  known_params = resolved.known_params;
  adorned = resolved.adorned;
  few = few;
}

-- a flat protocol is well formed if the protocol that it stands for is, and each of its messages
flat_formed : (protocols : List Declaration) (top flat : Declaration) → IsDeclaration top → IsFlat protocols top flat → All IsItem flat.body → IsDeclaration flat
flat_formed protocols top flat formed flattened items = record {
  some_role = subst (λ (roles : List Word). roles ≢ []) (sym flattened.roles) formed.some_role;
  some_public = subst (λ (public : List Formal). public ≢ []) (sym flattened.public) formed.some_public;
  each_public = subst (All IsFormal) (sym flattened.public) formed.each_public;
  each_item = items;
}

-- a protocol that an asked one stands for is ready to be expanded, if its names are its own
pub flat_is_ready : MessagesAreCounted → PrivatesAreCounted → PathsByItems → (d : Document) (name : List ℕ) (flat : Declaration) → IsDocument d → IsFlatRequest d name flat → AreNamesDistinct flat → IsWellScoped flat
flat_is_ready messages privates paths d name flat formed is own =
    let number = is.number in
    let top = is.top in
    let asked = is.requested in
    let flattened = is.flattened in
    let within = is.within in
    let resolved = items_are_resolved paths d name number top flat formed asked flattened in
    let few = messages_carry_few d.protocols number top flat asked.stands within flattened in
    record {
      formed = flat_formed d.protocols top flat (top_formed d number top formed asked.stands) flattened (λ k e inside. item_formed flat (get_or flat.body k e) (resolved k e inside));
      messages = λ k e inside. item_ready flat (get_or flat.body k e) (resolved k e inside) (few k e inside);
      adorned = subst (All HasFixedAdornment) (sym flattened.public) (public_is_adorned d name number top asked);
      distinct = record {
        roles = subst AreDistinct (sym flattened.roles) (roles_are_apart d name number top asked);
        params = own.params;
        messages = own.messages;
      };
      within = counts_are_within messages privates paths d.protocols number top flat asked.stands within flattened;
    }
