-- A protocol that is well scoped has an expansion.
use Rattle.std.proofs.Common.{◌≡◌, ◌≢◌, ℕ, ◌<◌, ◌^◌, List, [], ◌∷◌, length, map, get_or, Some, ap, refl, sym, subst, arith}
use Rattle.std.proofs.lemmas.List.{length-map}
use Rattle.std.specs.List.{Contains}
use Rattle.std.specs.Str.{bytes_eq}
use Rattle.bspl_types.specs.declared.expanded.Expanded.{Expanded}
use Rattle.bspl_types.specs.declared.protocol.Adornment.{Adornment}
use Rattle.bspl_types.specs.declared.protocol.Adornment.TheVariants as bound
use Rattle.bspl_types.specs.declared.protocol.Carried.{Carried}
use Rattle.bspl_types.specs.declared.protocol.Message.{Message}
use Rattle.bspl_types.specs.declared.protocol.ParamInfo.{ParamInfo}
use Rattle.bspl_types.specs.Shape.{IsMessageOf, key_indices}
use Rattle.bspl_parser.specs.declared.document.Adorn.{Adorn}
use Rattle.bspl_parser.specs.declared.document.Adorn.TheVariants.{In, Out, Nil, Any, Opt}
use Rattle.bspl_parser.specs.declared.document.Declaration.{Declaration}
use Rattle.bspl_parser.specs.declared.document.Formal.{Formal}
use Rattle.bspl_parser.specs.declared.document.Item.{Item}
use Rattle.bspl_parser.specs.declared.document.Item.TheVariants as item
use Rattle.bspl_parser.specs.declared.document.Schema.{Schema}
use Rattle.bspl_parser.specs.declared.word.Word.{Word}
use Rattle.bspl_parser.specs.Spelling.{IsItem, IsSchema}
use Rattle.protocol_names.specs.Names.{texts, param_words}
use Rattle.list_base.proofs.FirstIndex.{has_index}
use Rattle.protocol_expand.specs.FlatExpansion.{adornment_of, params_of, role_index, IsCarried, IsExpansionOf, IsMessageOfItem, IsMessageFor}
use Rattle.protocol_expand.specs.WellScoped.{HasFixedAdornment, IsWellScoped, IsWellScopedItem, IsWellScopedMessage}
use Rattle.list_base.proofs.Mapped.{as_long, partners}
use Rattle.list_base.proofs.FirstIndex.{first_index, named_index}
use Rattle.protocol_expand.proofs.ShapeLemmas.{param_texts, shape_of}

-- an adornment of an expansion
adornment_found : (a : Adorn) → a ≢ Any → a ≢ Opt → (b : Adornment) × (adornment_of a ≡ Some b)
adornment_found In not_any not_opt = (bound.In, refl)
adornment_found Out not_any not_opt = (bound.Out, refl)
adornment_found Nil not_any not_opt = (bound.Nil, refl)
adornment_found Any not_any not_opt = absurd (not_any refl)
adornment_found Opt not_any not_opt = absurd (not_opt refl)

-- a declared parameter can be carried
carried_found : (d : Declaration) (f : Formal) → Contains (texts (param_words d)) f.name.text → HasFixedAdornment f → (c : Carried) × IsCarried (params_of d) f c × (c.param < length (params_of d))
carried_found d f known adorned =
    let at = named_index (λ (p : ParamInfo). p.name) (params_of d) f.name.text (subst (λ ns. Contains ns f.name.text) (sym (param_texts d.public d.private)) known) in
    let bound = adornment_found f.adorn adorned.not_any adorned.not_opt in
    (record { param = at.0; adornment = bound.0 }, record { indexed = at.2; adorned = bound.1 }, at.1)

-- a declared role has an index
role_found : (roles : List (List ℕ)) (text : List ℕ) → Contains roles text → (k : ℕ) × (k < length roles) × (role_index roles text ≡ Some k)
role_found roles text known = first_index (λ role. bytes_eq role text) roles ((has_index roles text).1 known)

-- what is not empty has partners
some_partners : {A B : Type 0} (xs : List A) (ys : List B) → xs ≢ [] → length ys ≡ length xs → 0 < length ys
some_partners [] ys some long = absurd (some refl)
some_partners (x ∷ xs) ys some long = omega (arith, long)

-- a message that is well scoped has an image
message_found : (d : Declaration) (s : Schema) → IsSchema s → IsWellScopedMessage d s → (m : Message) × IsMessageFor (texts d.roles) (params_of d) s m × IsMessageOf (length (texts d.roles)) (length (params_of d)) m
message_found d s formed ready =
    let sender = role_found (texts d.roles) s.sender.text ready.known_sender in
    let receiver = role_found (texts d.roles) s.receiver.text ready.known_receiver in
    let all = partners (IsCarried (params_of d)) (λ (c : Carried). c.param < length (params_of d)) s.params (λ k e within. carried_found d (get_or s.params k e) (ready.known_params k e within) (ready.adorned k e within)) in
    let long : length all.0 ≡ length s.params = as_long (IsCarried (params_of d)) s.params all.0 all.1 in (
      record { name = s.name.text; sender = sender.0; receiver = receiver.0; carried = all.0 },
      record { named = refl; sent = sender.2; received = receiver.2; carries = all.1 },
      record {
        known_sender = sender.1;
        known_receiver = receiver.1;
        known_params = all.2;
        some = some_partners s.params all.0 formed.some long;
        few = omega (arith, long, ready.few);
      },
    )

-- an item that is well scoped has an image
image_found : (d : Declaration) (i : Item) → IsItem i → IsWellScopedItem d i → (m : Message) × IsMessageOfItem (texts d.roles) (params_of d) i m × IsMessageOf (length (texts d.roles)) (length (params_of d)) m
image_found d (item.Message s) formed ready = message_found d s formed ready
image_found d (item.Reference r) formed ready = absurd ready

-- a protocol that is well scoped has an expansion
pub expands : (d : Declaration) → IsWellScoped d → (x : Expanded) × IsExpansionOf d x
expands d ready =
    let images = partners (IsMessageOfItem (texts d.roles) (params_of d)) (IsMessageOf (length (texts d.roles)) (length (params_of d))) d.body (λ k e within. image_found d (get_or d.body k e) (ready.formed.each_item k e within) (ready.messages k e within)) in (
      record { name = d.name.text; roles = texts d.roles; params = params_of d; public = length d.public; keys = key_indices (params_of d); messages = images.0; shape = shape_of d images.0 ready images.1 images.2 },
      record { named = refl; roles = refl; params = refl; public = refl; images = images.1 },
    )

-- its roles are few
pub few_roles : (d : Declaration) (roles : List (List ℕ)) → IsWellScoped d → roles ≡ map (λ w. w.text) d.roles → length roles < 2 ^ 32
few_roles d roles ready is = omega (arith, ap length is, length-map d.roles (λ (w : Word). w.text), ready.within.few_roles)

-- its parameters are few
pub few_params : (d : Declaration) (params : List ParamInfo) → IsWellScoped d → params ≡ params_of d → length params < 2 ^ 32
few_params d params ready is = omega (arith, ap length is, length-map (params_of d) (λ (p : ParamInfo). p.name), ap length (param_texts d.public d.private), length-map (param_words d) (λ (w : Word). w.text), ready.within.few_params)
