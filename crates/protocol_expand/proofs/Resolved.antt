-- After all references are replaced, each message speaks of declared roles and parameters.
use Rattle.std.proofs.Common.{◌≢◌, ℕ, List, [], ◌∷◌, length, get_or, map, refl, sym, subst, ◌∙◌, arith}
use Rattle.std.specs.List.{All, AllZip, Contains}
use Rattle.std.proofs.lemmas.List.{length-map}
use Rattle.std.proofs.lemmas.List.Elements.{All-append, All-contains, All-contains_itself, All-map, Contains-append_left, Contains-append_right, Contains-get_or}
use Rattle.std.proofs.lemmas.Option.{get_or_from_slice_get, slice_get_within}
use Rattle.bspl_parser.specs.declared.document.Declaration.{Declaration}
use Rattle.bspl_parser.specs.declared.document.Document.{Document}
use Rattle.bspl_parser.specs.declared.document.Formal.{Formal}
use Rattle.bspl_parser.specs.declared.document.Item.{Item}
use Rattle.bspl_parser.specs.declared.document.Item.TheVariants.{Message, Reference}
use Rattle.bspl_parser.specs.declared.document.Schema.{Schema}
use Rattle.bspl_parser.specs.declared.word.Word.{Word}
use Rattle.bspl_parser.specs.Spelling.{IsDeclaration, IsFormal, IsItem, IsSchema, IsDocument}
use Rattle.protocol_names.specs.Fault.{HasNoFault}
use Rattle.protocol_names.specs.Names.{param_words, texts}
use Rattle.protocol_paths.specs.Flat.{IsFlat, IsImage, IsImageFormal, IsImageItem, entry, privates_at}
use Rattle.protocol_paths.specs.Path.{Step, message_paths, paths}
use Rattle.protocol_paths.specs.Scope.{Scope, scope_at, start}
use Rattle.protocol_expand.specs.WellScoped.{AreDistinct, HasFixedAdornment}
use Rattle.list_base.proofs.Mapped.{all_of_mapped}
use Rattle.list_base.proofs.Zipped.{seconds}
use Rattle.protocol_paths.specs.Laws.{PathsByItems}
use Rattle.protocol_expand.proofs.Requested.{IsRequested}
use Rattle.protocol_expand.proofs.Faultless.{declared_roles_are_apart, item_is_faultless, public_params_are_adorned}
use Rattle.protocol_expand.proofs.Gathered.{all_of_gathered, among_mapped}
use Rattle.protocol_expand.proofs.PathMessages.{IsFound, messages_are_found}
use Rattle.protocol_expand.proofs.PathPlaces.{ArePrivatesKnown, IsSound, param_is_known, privates_here, role_is_known}

-- the message's roles and parameters are declared in the flat protocol, adorned as an expansion's are, and it has one
pub record IsResolved (flat : Declaration) (s : Schema) : Type 0 where
  pub known_sender : Contains (texts flat.roles) s.sender.text
  pub known_receiver : Contains (texts flat.roles) s.receiver.text
  pub known_params : All (λ f. Contains (texts (param_words flat)) f.name.text) s.params
  pub adorned : All HasFixedAdornment s.params
  pub formed : IsSchema s

-- a message that is resolved, and no reference
abbrev pub IsResolvedItem : Declaration → Item → Type 0
IsResolvedItem flat (Message s) = IsResolved flat s
IsResolvedItem flat (Reference r) = ⊥

-- the asked protocol is among those of the document
top_among : (d : Document) (name : List ℕ) (number : ℕ) (top : Declaration) → IsRequested d name number top → Contains d.protocols top
top_among d name number top asked = (number, slice_get_within d.protocols number top asked.stands, get_or_from_slice_get d.protocols number top top asked.stands)

-- a list whose items are paired with some is not empty
some_partners : {A B : Type 0} (R : A → B → Type 0) (xs : List A) (ys : List B) → AllZip R xs ys → xs ≢ [] → ys ≢ []
some_partners R [] ys all some = absurd (some refl)
some_partners R (x ∷ xs) [] all some = absurd all
some_partners R (x ∷ xs) (y ∷ ys) all some = λ empty. cc

-- an image has the adornment of its parameter
image_adorned : (place : Scope) (f f' : Formal) → HasFixedAdornment f → IsImageFormal place f f' → HasFixedAdornment f'
image_adorned place f f' adorned image = record {
  not_any = λ is. adorned.not_any (sym image.adorn ∙ is);
  not_opt = λ is. adorned.not_opt (sym image.adorn ∙ is);
}

-- the image of a message that was found is resolved
resolved : (d : Document) (flat : Declaration) (place : Scope) (m m' : Schema) → IsDocument d → HasNoFault d → IsSound d.protocols (texts flat.roles) (texts (param_words flat)) place → Contains place.protocol.body (Message m) → IsImage place m m' → IsResolved flat m'
resolved d flat place m m' formed no_fault sound here image =
    let roles = texts flat.roles in
    let params = texts (param_words flat) in
    let faultless = item_is_faultless d place.protocol (Message m) no_fault sound.among here in
    let schema : IsSchema m = All-contains IsItem place.protocol.body (Message m) (All-contains IsDeclaration d.protocols place.protocol formed.each sound.among).each_item here in
    let known = λ (name : List ℕ) (declared : Contains (texts place.protocol.roles) name). role_is_known d.protocols roles params place name sound declared in
    record {
      known_sender = subst (Contains roles) (sym image.sent.text) (known m.sender.text (faultless.known_roles 0 m.sender (omega arith)));
      known_receiver = subst (Contains roles) (sym image.received.text) (known m.receiver.text (faultless.known_roles 1 m.sender (omega arith)));
      known_params = seconds (λ (f : Formal). Contains (texts (param_words place.protocol)) f.name.text) (IsImageFormal place) (λ (f : Formal). Contains params f.name.text)
          (λ f f' declared is. subst (Contains params) (sym is.name.text) (param_is_known d.protocols roles params place f.name.text sound declared)) m.params m'.params faultless.known_params image.carries;
      adorned = seconds HasFixedAdornment (IsImageFormal place) HasFixedAdornment (image_adorned place) m.params m'.params faultless.adorned image.carries;
      formed = record {
        some = some_partners (IsImageFormal place) m.params m'.params image.carries schema.some;
        each = seconds IsFormal (IsImageFormal place) IsFormal (λ f f' is_formal is nil. is.bare) m.params m'.params schema.each image.carries;
      };
    }

-- the same of an item of the flat body
resolved_item : (d : Document) (flat : Declaration) (place : Scope) (x : List Step × Schema) (i : Item) → IsDocument d → HasNoFault d → IsFound d.protocols (texts flat.roles) (texts (param_words flat)) place x → IsImageItem place x i → IsResolvedItem flat i
resolved_item d flat place (path, m) (Message m') formed no_fault found image = resolved d flat (scope_at place path) m m' formed no_fault found.sound found.stands image
resolved_item d flat place (path, m) (Reference r) formed no_fault found image = absurd image

-- a name of a private parameter is one of the flat protocol's
private_known : (flat : Declaration) → All (λ e. Contains (texts (param_words flat)) e.0) (map entry flat.private)
private_known flat = All-map (λ (e : List ℕ × ℕ). Contains (texts (param_words flat)) e.0) entry flat.private
    (λ k e within. among_mapped (λ (w : Word). w.text) (param_words flat) (get_or flat.private k e) (Contains-append_right (map (λ f. f.name) flat.public) flat.private (get_or flat.private k e) (Contains-get_or flat.private k e within)))

-- so those at the ends of all paths are known
privates_known : (protocols : List Declaration) (top flat : Declaration) → IsFlat protocols top flat → ArePrivatesKnown protocols (texts (param_words flat)) (length protocols) (start top)
privates_known protocols top flat is_flat = record {
  known = all_of_gathered (λ (e : List ℕ × ℕ). Contains (texts (param_words flat)) e.0) (λ path. privates_at (scope_at (start top) path)) (paths (length protocols) protocols top)
      (subst (All (λ (e : List ℕ × ℕ). Contains (texts (param_words flat)) e.0)) is_flat.private (private_known flat));
}

-- the start is a sound place
start_sound : (protocols : List Declaration) (top flat : Declaration) → Contains protocols top → IsFlat protocols top flat → IsSound protocols (texts flat.roles) (texts (param_words flat)) (start top)
start_sound protocols top flat among is_flat =
    let params = texts (param_words flat) in
    let public : All (λ (f : Formal). Contains params f.name.text) flat.public =
    λ k e within. among_mapped (λ (w : Word). w.text) (param_words flat) (get_or flat.public k e).name (Contains-append_left (map (λ (f : Formal). f.name) flat.public) flat.private (get_or flat.public k e).name (among_mapped (λ (f : Formal). f.name) flat.public (get_or flat.public k e) (Contains-get_or flat.public k e within))) in
    let privates = privates_here protocols params (length protocols) (start top) (privates_known protocols top flat is_flat) in
    record {
      among = among;
      as_many_roles = length-map top.roles (λ (w : Word). w.text);
      as_many_params = length-map (param_words top) (λ (w : Word). w.text);
      known_roles = subst (λ (words : List Word). All (Contains (texts words)) (texts top.roles)) (sym is_flat.roles) (All-contains_itself (texts top.roles));
      known_params = All-map (Contains params) (λ (w : Word). w.text) (param_words top)
          (All-append (λ (w : Word). Contains params w.text) (map (λ (f : Formal). f.name) top.public) top.private
          (All-map (λ (w : Word). Contains params w.text) (λ (f : Formal). f.name) top.public (subst (All (λ (f : Formal). Contains params f.name.text)) is_flat.public public))
          (all_of_mapped (λ (e : List ℕ × ℕ). Contains params e.0) (λ (w : Word). (w.text, w.offset)) top.private privates));
    }

-- each item of the flat protocol is a message that is resolved
pub items_are_resolved : PathsByItems → (d : Document) (name : List ℕ) (number : ℕ) (top flat : Declaration) → IsDocument d → IsRequested d name number top → IsFlat d.protocols top flat → All (IsResolvedItem flat) flat.body
items_are_resolved paths d name number top flat formed asked is_flat =
    let roles = texts flat.roles in
    let params = texts (param_words flat) in
    seconds (IsFound d.protocols roles params (start top)) (IsImageItem (start top)) (IsResolvedItem flat) (λ x i found image. resolved_item d flat (start top) x i formed asked.faultless found image)
    (message_paths (length d.protocols) d.protocols top) flat.body
    (messages_are_found paths d roles params (length d.protocols) asked.faultless (start top) (start_sound d.protocols top flat (top_among d name number top asked) is_flat) (privates_known d.protocols top flat is_flat))
    is_flat.body

-- the public parameters of the asked protocol are adorned as an expansion's are
pub public_is_adorned : (d : Document) (name : List ℕ) (number : ℕ) (top : Declaration) → IsRequested d name number top → All HasFixedAdornment top.public
public_is_adorned d name number top asked = public_params_are_adorned d top asked.faultless (top_among d name number top asked)

-- and its roles have names of their own
pub roles_are_apart : (d : Document) (name : List ℕ) (number : ℕ) (top : Declaration) → IsRequested d name number top → AreDistinct top.roles
roles_are_apart d name number top asked = declared_roles_are_apart d top asked.faultless (top_among d name number top asked)
