-- The messages of a well-scoped protocol have known names.
use Rattle.std.proofs.Common.{◌≡◌, ℕ, ◌<◌, List, length, map, get_or, Some, sym, subst}
use Rattle.std.specs.List.{All, AllZip, Contains, position}
use Rattle.std.specs.Str.{bytes_eq}
use Rattle.bspl_types.specs.declared.protocol.Message.{Message}
use Rattle.bspl_types.specs.declared.protocol.ParamInfo.{ParamInfo}
use Rattle.bspl_parser.specs.declared.document.Declaration.{Declaration}
use Rattle.bspl_parser.specs.declared.document.Item.TheVariants as item
use Rattle.bspl_parser.specs.declared.document.Schema.{Schema}
use Rattle.protocol_names.specs.Names.{texts}
use Rattle.list_base.proofs.FirstIndex.{first_index, has_index, named_index}
use Rattle.list_base.proofs.Mapped.{all_of_mapped}
use Rattle.list_base.proofs.Zipped.{zip_map}
use Rattle.protocol_expand.specs.FlatExpansion.{IsMessageFor, IsMessageOfItem, params_of}
use Rattle.protocol_expand.specs.WellScoped.{IsWellScopedItem, IsWellScopedMessage}
use Rattle.protocol_expand.specs.inner.KnownNames.{IsKnownMessage}
use Rattle.protocol_expand.proofs.ShapeLemmas.{param_texts}

-- the names of a message are known
known_message : (d : Declaration) (roles : List (List ℕ)) (params : List ParamInfo) (s : Schema) → roles ≡ texts d.roles → params ≡ params_of d → IsWellScopedMessage d s → IsKnownMessage roles params s
known_message d roles params s is_roles is_params ready = record {
  known_sender = subst (λ ns. Contains ns s.sender.text) (sym is_roles) ready.known_sender;
  known_receiver = subst (λ ns. Contains ns s.receiver.text) (sym is_roles) ready.known_receiver;
  known_params = λ k e within. record {
    declared =
        subst (λ ps. Contains (map (λ (p : ParamInfo). p.name) ps) (get_or s.params k e).name.text) (sym is_params)
        (subst (λ ns. Contains ns (get_or s.params k e).name.text) (sym (param_texts d.public d.private)) (ready.known_params k e within));
    adorned = ready.adorned k e within;
  };
}

-- and those of all messages
pub known_messages : (d : Declaration) (roles : List (List ℕ)) (params : List ParamInfo) (messages : List Schema) → d.body ≡ map item.Message messages → roles ≡ texts d.roles → params ≡ params_of d → All (IsWellScopedItem d) d.body → All (IsKnownMessage roles params) messages
known_messages d roles params messages is_body is_roles is_params ready = λ k e within.
    known_message d roles params (get_or messages k e) is_roles is_params
    (all_of_mapped (IsWellScopedItem d) item.Message messages (subst (All (IsWellScopedItem d)) is_body ready) k e within)

-- the images of the messages are those of the items
pub item_images : (roles : List (List ℕ)) (params : List ParamInfo) (schemas : List Schema) (messages : List Message) → AllZip (IsMessageFor roles params) schemas messages → AllZip (IsMessageOfItem roles params) (map item.Message schemas) messages
item_images roles params schemas messages all = zip_map (IsMessageFor roles params) (IsMessageOfItem roles params) item.Message (λ s m is. is) schemas messages all

-- a known role has a first index
pub role_within : (roles : List (List ℕ)) (name : List ℕ) → Contains roles name → (k : ℕ) × (k < length roles) × (position (λ role. bytes_eq role name) roles ≡ Some k)
role_within roles name known = first_index (λ role. bytes_eq role name) roles ((has_index roles name).1 known)

-- so has a known parameter
pub param_within : (params : List ParamInfo) (name : List ℕ) → Contains (map (λ p. p.name) params) name → (k : ℕ) × (k < length params) × (position (λ p. bytes_eq p.name name) params ≡ Some k)
param_within params name known = named_index (λ (p : ParamInfo). p.name) params name known
