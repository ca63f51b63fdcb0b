-- A protocol has one expansion.
use Rattle.std.proofs.Common.{◌≡◌, ℕ, List, sym, ◌∙◌, ap}
use Rattle.std.proofs.Props.{props}
use mathlib.Core.HLevel.{is_prop→PathP}
use Rattle.bspl_types.specs.declared.expanded.Expanded.{Expanded}
use Rattle.bspl_types.specs.declared.protocol.Message.{Message}
use Rattle.bspl_types.specs.declared.protocol.ParamInfo.{ParamInfo}
use Rattle.bspl_types.specs.Shape.{IsWellFormed, key_indices}
use Rattle.bspl_parser.specs.declared.document.Declaration.{Declaration}
use Rattle.protocol_expand.specs.FlatExpansion.{IsExpansionOf}
use Rattle.protocol_expand.proofs.ExpansionLemmas.{same_messages}

-- there is one proof at most of a shape
one_shape : (name : List ℕ) (roles : List (List ℕ)) (params : List ParamInfo) (public : ℕ) (keys : List ℕ) (messages : List Message) → IsProp (IsWellFormed name roles params public keys messages)
one_shape name roles params public keys messages = hlevel props

-- so expansions of the same parts are one
one_of_parts : (x y : Expanded) → x.name ≡ y.name → x.roles ≡ y.roles → x.params ≡ y.params → x.public ≡ y.public → x.keys ≡ y.keys → x.messages ≡ y.messages → x ≡ y
one_of_parts x y name roles params public keys messages = λ i. record {
  name = name i;
  roles = roles i;
  params = params i;
  public = public i;
  keys = keys i;
  messages = messages i;
  shape = is_prop→PathP (λ j. IsWellFormed (name j) (roles j) (params j) (public j) (keys j) (messages j)) (λ j. one_shape (name j) (roles j) (params j) (public j) (keys j) (messages j)) x.shape y.shape i;
}

-- a protocol has no second expansion
pub one_expansion : (d : Declaration) (x y : Expanded) → IsExpansionOf d x → IsExpansionOf d y → x ≡ y
one_expansion d x y is_x is_y =
    let params : x.params ≡ y.params = is_x.params ∙ sym is_y.params in
    one_of_parts x y (is_x.named ∙ sym is_y.named) (is_x.roles ∙ sym is_y.roles) params (is_x.public ∙ sym is_y.public)
    (x.shape.key_list ∙ ap key_indices params ∙ sym y.shape.key_list)
    (same_messages d x y is_x is_y)
