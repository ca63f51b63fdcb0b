-- A protocol of messages alone that is made of an expansion has it as its expansion.
use Rattle.std.proofs.Common.{◌≡◌, ◌≢◌, ℕ, ◌<◌, false, List, [], ◌∷◌, ◌++◌, length, take, drop, get_or, Option, Some, None, refl, sym, ◌∙◌, subst, ap, arith, ⊎_elim, length-take}
use Rattle.std.specs.Prelude.{IsTrue, is_some}
use Rattle.std.specs.List.{All, AllZip}
use Rattle.std.proofs.lemmas.Bool.{cases_Bool, false≢true}
use Rattle.std.proofs.lemmas.List.{take-append-drop}
use Rattle.std.proofs.lemmas.List.Elements.{All-drop, All-take}
use Rattle.bspl_types.specs.declared.expanded.Expanded.{Expanded}
use Rattle.bspl_types.specs.declared.protocol.Adornment.{Adornment}
use Rattle.bspl_types.specs.declared.protocol.Message.{Message}
use Rattle.bspl_types.specs.declared.protocol.ParamInfo.{ParamInfo}
use Rattle.bspl_types.specs.Shape.{IsDeclared, IsMessageOf, is_public_value}
use Rattle.bspl_parser.specs.declared.document.Adorn.{Adorn}
use Rattle.bspl_parser.specs.declared.document.Adorn.TheVariants.{Nil}
use Rattle.bspl_parser.specs.declared.document.Declaration.{Declaration}
use Rattle.bspl_parser.specs.declared.document.Formal.{Formal}
use Rattle.bspl_parser.specs.declared.document.Item.{Item}
use Rattle.bspl_parser.specs.declared.document.Item.TheVariants as item
use Rattle.bspl_parser.specs.declared.word.Word.{Word}
use Rattle.bspl_parser.specs.Alike.{word_without_offset, formal_without_offsets, item_without_offsets}
use Rattle.bspl_parser.specs.Spelling.{IsDeclaration, IsFormal, IsItem}
use Rattle.protocol_expand.specs.FlatExpansion.{adornment_of, public_param, private_param, IsCarried, IsExpansionOf, IsMessageOfItem}
use Rattle.protocol_expand.specs.Canonical.{IsCanonical, IsItemOf, IsPrivateOf, IsPublicOf, IsWordOf}
use Rattle.protocol_names.specs.Plain.{IsUnkeyed}
use Rattle.list_base.proofs.Mapped.{as_long}
use Rattle.list_base.proofs.Zipped.{flipped, mapped_back, mapped_same, seconds}

-- each piece of the protocol is made of its piece of the expansion
pub record IsMade (x : Expanded) (d : Declaration) : Type 0 where
  pub name : IsWordOf x.name d.name
  pub roles : AllZip IsWordOf x.roles d.roles
  pub public : AllZip IsPublicOf (take x.public x.params) d.public
  pub private : AllZip IsPrivateOf (drop x.public x.params) d.private
  pub body : AllZip (IsItemOf x.roles x.params) x.messages d.body

-- a message has the meaning of its item
image_made : (roles : List (List ℕ)) (params : List ParamInfo) (m : Message) (i : Item) → IsItemOf roles params m i → IsMessageOfItem roles params i m
image_made roles params m (item.Message s) made = made.means
image_made roles params m (item.Reference r) made = absurd made

-- as many parameters are public
public_length : (x : Expanded) (d : Declaration) → IsMade x d → length d.public ≡ x.public
public_length x d made =
    let long : length d.public ≡ length (take x.public x.params) = as_long IsPublicOf (take x.public x.params) d.public made.public in
    long ∙ (let all : length (take x.public x.params) ≡ x.public = grind (arith, length-take, x.shape.declared.within) in all)

-- so the expansion is that of the protocol
pub flat_made : (x : Expanded) (d : Declaration) → IsMade x d → IsExpansionOf d x
flat_made x d made = record {
  named = sym made.name.named;
  roles = sym (mapped_back IsWordOf (λ (w : Word). w.text) (λ n w word. word.named) x.roles d.roles made.roles);
  params =
      let public = mapped_back IsPublicOf public_param (λ p f is_f. is_f.declares) (take x.public x.params) d.public made.public in
      let private = mapped_back IsPrivateOf private_param (λ p w is_w. is_w.declares) (drop x.public x.params) d.private made.private in
      sym (take-append-drop x.public x.params) ∙ (λ i. sym public i ++ sym private i);
  public = sym (public_length x d made);
  images = flipped (IsItemOf x.roles x.params) (IsMessageOfItem x.roles x.params) (image_made x.roles x.params) x.messages d.body made.body;
}

-- an item has no offsets
item_unplaced : (roles : List (List ℕ)) (params : List ParamInfo) (m : Message) (i : Item) → IsItemOf roles params m i → item_without_offsets i ≡ i
item_unplaced roles params m (item.Message s) made = ap item.Message made.without_offsets
item_unplaced roles params m (item.Reference r) made = absurd made

-- and has no key in a message
item_unkeyed : (roles : List (List ℕ)) (params : List ParamInfo) (m : Message) (i : Item) → IsItemOf roles params m i → IsUnkeyed i
item_unkeyed roles params m (item.Message s) made = made.unkeyed
item_unkeyed roles params m (item.Reference r) made = absurd made

-- the protocol has no offsets, and no key in a message
pub bare_made : (x : Expanded) (d : Declaration) → IsMade x d → IsCanonical d
bare_made x d made = record {
  without_offsets = λ i. record {
    name = made.name.without_offsets i;
    roles = mapped_same IsWordOf word_without_offset (λ n w word. word.without_offsets) x.roles d.roles made.roles i;
    public = mapped_same IsPublicOf formal_without_offsets (λ p f is_f. is_f.without_offsets) (take x.public x.params) d.public made.public i;
    private = mapped_same IsPrivateOf word_without_offset (λ p w is_w. is_w.without_offsets) (drop x.public x.params) d.private made.private i;
    body = mapped_same (IsItemOf x.roles x.params) item_without_offsets (item_unplaced x.roles x.params) x.messages d.body made.body i;
  };
  unkeyed = seconds (λ (m : Message). Unit {0}) (IsItemOf x.roles x.params) IsUnkeyed (λ m i any is_i. item_unkeyed x.roles x.params m i is_i) x.messages d.body (λ k e within. tt) made.body;
}

-- what has no item is as short as its partner
none_left : {X Y : Type 0} (xs : List X) (ys : List Y) → length ys ≡ length xs → 0 < length xs → ys ≢ []
none_left xs [] long some empty = absurd (omega (arith, long, some))
none_left xs (y ∷ ys) long some empty = absurd cc

-- a key that may bind is not that of a `nil`
bare_key : (key : Option ℕ) (a : Adorn) → (IsTrue (is_some key) → IsTrue (is_public_value (adornment_of a))) → a ≡ Nil → key ≡ None
bare_key None a bound is_nil = refl
bare_key (Some k) a bound is_nil = absurd (false≢true (subst (λ (b : Adorn). IsTrue (is_public_value (adornment_of b))) is_nil (bound refl)))

-- a public parameter is well formed
formal_made : (p : ParamInfo) (f : Formal) → (IsTrue p.key → IsTrue (is_public_value p.adornment)) → IsPublicOf p f → IsFormal f
formal_made p f bound is_f = bare_key f.key f.adorn (subst (λ (q : ParamInfo). IsTrue q.key → IsTrue (is_public_value q.adornment)) (sym is_f.declares) bound)

-- and so is an item
item_made : (roles : List (List ℕ)) (params : List ParamInfo) (m : Message) (i : Item) → IsMessageOf (length roles) (length params) m → IsItemOf roles params m i → IsItem i
item_made roles params m (item.Reference r) placed made = absurd made
item_made roles params m (item.Message s) placed made = record {
  some = none_left m.carried s.params (sym (as_long (IsCarried params) s.params m.carried made.means.carries)) placed.some;
  each = λ k e within is_nil. made.unkeyed k e within;
}

-- the protocol is well formed
pub formed_made : (x : Expanded) (d : Declaration) → IsMade x d → IsDeclaration d
formed_made x d made = record {
  some_role = none_left x.roles d.roles (as_long IsWordOf x.roles d.roles made.roles) x.shape.some_role;
  some_public = none_left (take x.public x.params) d.public (as_long IsPublicOf (take x.public x.params) d.public made.public) (omega (arith, as_long IsPublicOf (take x.public x.params) d.public made.public, public_length x d made, x.shape.declared.some_public));
  each_public =
      seconds (λ (p : ParamInfo). IsTrue p.key → IsTrue (is_public_value p.adornment)) IsPublicOf IsFormal formal_made (take x.public x.params) d.public
      (All-take (λ (p : ParamInfo). IsTrue p.key → IsTrue (is_public_value p.adornment)) x.public x.params x.shape.declared.keys_bound) made.public;
  each_item = seconds (IsMessageOf (length x.roles) (length x.params)) (IsItemOf x.roles x.params) IsItem (item_made x.roles x.params) x.messages d.body x.shape.each_message made.body;
}

-- no private parameter is a key
pub private_unkeyed : (public : ℕ) (params : List ParamInfo) → IsDeclared public params → All (λ p. p.key ≡ false) (drop public params)
private_unkeyed public params declared k e within =
    let p = get_or (drop public params) k e in
    ⊎_elim
    (λ is_key. absurd (false≢true (subst (λ (a : Option Adornment). IsTrue (is_public_value a)) (declared.private_bare k e within) (All-drop (λ (p : ParamInfo). IsTrue p.key → IsTrue (is_public_value p.adornment)) public params declared.keys_bound k e within is_key))))
    (λ is_none. is_none)
    (cases_Bool p.key)

-- what was made of what the expansion lent
pub made_of : (x : Expanded) (d : Declaration) (params public private : List ParamInfo) (roles roles' : List (List ℕ)) (messages : List Message) →
    params ≡ x.params → public ≡ take x.public params → private ≡ drop x.public params → roles ≡ x.roles → roles' ≡ x.roles → messages ≡ x.messages →
    IsWordOf x.name d.name → AllZip IsWordOf roles d.roles → AllZip IsPublicOf public d.public → AllZip IsPrivateOf private d.private → AllZip (IsItemOf roles' params) messages d.body →
    IsMade x d
made_of x d params public private roles roles' messages is_params is_public is_private is_roles is_roles' is_messages name role_words publics privates items = record {
  name = name;
  roles = subst (λ rs. AllZip IsWordOf rs d.roles) is_roles role_words;
  public = subst (λ ps. AllZip IsPublicOf ps d.public) (is_public ∙ ap (take x.public) is_params) publics;
  private = subst (λ ps. AllZip IsPrivateOf ps d.private) (is_private ∙ ap (drop x.public) is_params) privates;
  body =
      subst (λ rs. AllZip (IsItemOf rs x.params) x.messages d.body) is_roles'
      (subst (λ ps. AllZip (IsItemOf roles' ps) x.messages d.body) is_params
      (subst (λ ms. AllZip (IsItemOf roles' params) ms d.body) is_messages items));
}
