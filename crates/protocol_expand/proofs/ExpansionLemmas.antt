-- When a protocol of messages alone has an expansion, and that its messages are determined.
use Rattle.std.proofs.Common.{◌≡◌, ◌++◌, ℕ, List, length, map, sym, ◌∙◌, subst}
use Rattle.std.specs.List.{AllZip}
use Rattle.bspl_types.specs.declared.expanded.Expanded.{Expanded}
use Rattle.bspl_types.specs.declared.protocol.Carried.{Carried}
use Rattle.bspl_types.specs.declared.protocol.Message.{Message}
use Rattle.bspl_types.specs.declared.protocol.ParamInfo.{ParamInfo}
use Rattle.bspl_types.specs.Shape.{IsWellFormed, key_indices}
use Rattle.bspl_parser.specs.declared.document.Declaration.{Declaration}
use Rattle.bspl_parser.specs.declared.document.Formal.{Formal}
use Rattle.bspl_parser.specs.declared.document.Item.{Item}
use Rattle.bspl_parser.specs.declared.word.Word.{Word}
use Rattle.bspl_parser.specs.declared.document.Item.TheVariants as item
use Rattle.list_base.proofs.Zipped.{one_list}
use Rattle.protocol_expand.specs.FlatExpansion.{IsCarried, IsMessageOfItem, IsExpansionOf, params_of, private_param, public_param}

-- a parameter is carried in one way
one_carried : (params : List ParamInfo) (f : Formal) (c d : Carried) → IsCarried params f c → IsCarried params f d → c ≡ d
one_carried params f c d is_c is_d =
    let same_index : c.param ≡ d.param = cc (is_c.indexed, is_d.indexed) in
    let same_adornment : c.adornment ≡ d.adornment = cc (is_c.adorned, is_d.adorned) in
    λ i. record { param = same_index i; adornment = same_adornment i }

-- an item has one image at most
one_image : (roles : List (List ℕ)) (params : List ParamInfo) (i : Item) (m n : Message) → IsMessageOfItem roles params i m → IsMessageOfItem roles params i n → m ≡ n
one_image roles params (item.Reference r) m n is_m is_n = absurd is_m
one_image roles params (item.Message s) m n is_m is_n =
    let same_name : m.name ≡ n.name = is_m.named ∙ sym is_n.named in
    let same_sender : m.sender ≡ n.sender = cc (is_m.sent, is_n.sent) in
    let same_receiver : m.receiver ≡ n.receiver = cc (is_m.received, is_n.received) in
    let same_carried : m.carried ≡ n.carried = one_list (IsCarried params) (one_carried params) s.params m.carried n.carried is_m.carries is_n.carries in
    λ i. record { name = same_name i; sender = same_sender i; receiver = same_receiver i; carried = same_carried i }

-- the roles and parameters that were found are those of every expansion
images_found : (d : Declaration) (x : Expanded) (roles : List (List ℕ)) (params : List ParamInfo) → roles ≡ map (λ w. w.text) d.roles → params ≡ params_of d → IsExpansionOf d x → AllZip (IsMessageOfItem roles params) d.body x.messages
images_found d x roles params is_roles is_params expands =
    subst (λ rs. AllZip (IsMessageOfItem rs params) d.body x.messages) (expands.roles ∙ sym is_roles)
    (subst (λ ps. AllZip (IsMessageOfItem x.roles ps) d.body x.messages) (expands.params ∙ sym is_params) expands.images)

-- an expansion has the shape of its parts
shape_of_parts : (x : Expanded) (name : List ℕ) (roles : List (List ℕ)) (params : List ParamInfo) (public : ℕ) (messages : List Message) → x.name ≡ name → x.roles ≡ roles → x.params ≡ params → x.public ≡ public → x.messages ≡ messages → IsWellFormed name roles params public (key_indices params) messages
shape_of_parts x name roles params public messages same_name same_roles same_params same_public same_messages =
    subst (λ n. IsWellFormed n roles params public (key_indices params) messages) same_name
    (subst (λ rs. IsWellFormed x.name rs params public (key_indices params) messages) same_roles
    (subst (λ ps. IsWellFormed x.name x.roles ps public (key_indices ps) messages) same_params
    (subst (λ k. IsWellFormed x.name x.roles x.params k (key_indices x.params) messages) same_public
    (subst (λ ms. IsWellFormed x.name x.roles x.params x.public (key_indices x.params) ms) same_messages
    (subst (λ ks. IsWellFormed x.name x.roles x.params x.public ks x.messages) x.shape.key_list x.shape)))))

-- what was made of a protocol that has an expansion has its shape
pub shape_made : (d : Declaration) (x : Expanded) (name : List ℕ) (roles : List (List ℕ)) (params : List ParamInfo) (public : ℕ) (messages : List Message) → IsExpansionOf d x →
    name ≡ d.name.text → roles ≡ map (λ w. w.text) d.roles → params ≡ params_of d → public ≡ length d.public → AllZip (IsMessageOfItem roles params) d.body messages →
    IsWellFormed name roles params public (key_indices params) messages
shape_made d x name roles params public messages expands is_name is_roles is_params is_public images =
    shape_of_parts x name roles params public messages (expands.named ∙ sym is_name) (expands.roles ∙ sym is_roles) (expands.params ∙ sym is_params) (expands.public ∙ sym is_public)
    (one_list (IsMessageOfItem roles params) (one_image roles params) d.body x.messages messages (images_found d x roles params is_roles is_params expands) images)

-- the parameters that were made are the declared ones
pub params_are : (params : List ParamInfo) (public public' : List Formal) (private private' : List Word) → params ≡ map public_param public ++ map private_param private → public ≡ public' → private ≡ private' → params ≡ map public_param public' ++ map private_param private'
params_are params public public' private private' made same_public same_private = made ∙ (λ i. map public_param (same_public i) ++ map private_param (same_private i))

-- the images are over what was lent
pub images_are : (roles roles' : List (List ℕ)) (params params' : List ParamInfo) (body body' : List Item) (ms : List Message) → roles ≡ roles' → params ≡ params' → body ≡ body' → AllZip (IsMessageOfItem roles params) body ms → AllZip (IsMessageOfItem roles' params') body' ms
images_are roles roles' params params' body body' ms same_roles same_params same_body all =
    subst (λ rs. AllZip (IsMessageOfItem rs params') body' ms) same_roles
    (subst (λ ps. AllZip (IsMessageOfItem roles ps) body' ms) same_params
    (subst (λ b. AllZip (IsMessageOfItem roles params) b ms) same_body all))

-- two expansions of a protocol have the same messages
pub same_messages : (d : Declaration) (x y : Expanded) → IsExpansionOf d x → IsExpansionOf d y → x.messages ≡ y.messages
same_messages d x y is_x is_y =
    one_list (IsMessageOfItem y.roles y.params) (one_image y.roles y.params) d.body x.messages y.messages
    (images_found d x y.roles y.params is_y.roles is_y.params is_x) is_y.images
