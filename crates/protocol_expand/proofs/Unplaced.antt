-- What a protocol says does not depend on the places of its words.
use Rattle.std.proofs.Common.{◌≡◌, ℕ, List, [], ◌∷◌, ◌++◌, map, Option, Some, None, refl, sym, ◌∙◌, ap, subst}
use Rattle.std.specs.Prelude.{is_some}
use Rattle.std.proofs.lemmas.List.{length-map}
use Rattle.std.proofs.lemmas.List.Elements.{All-weaker}
use Rattle.bspl_types.specs.declared.expanded.Expanded.{Expanded}
use Rattle.bspl_types.specs.declared.protocol.Message.{Message}
use Rattle.bspl_types.specs.declared.protocol.ParamInfo.{ParamInfo}
use Rattle.bspl_parser.specs.declared.document.Declaration.{Declaration}
use Rattle.bspl_parser.specs.declared.document.Document.{Document}
use Rattle.bspl_parser.specs.declared.document.Formal.{Formal}
use Rattle.bspl_parser.specs.declared.document.Item.{Item}
use Rattle.bspl_parser.specs.declared.document.Item.TheVariants as item
use Rattle.bspl_parser.specs.declared.word.Word.{Word}
use Rattle.bspl_parser.specs.Alike.{ReadsBack, declaration_without_offsets, formal_without_offsets, item_without_offsets, key_without_offset, word_without_offset}
use Rattle.protocol_expand.specs.FlatExpansion.{params_of, private_param, public_param, IsCarried, IsExpansionOf, IsMessageOfItem}
use Rattle.protocol_expand.specs.Canonical.{IsCanonical}
use Rattle.protocol_names.specs.Plain.{IsUnkeyed}
use Rattle.list_base.proofs.Mapped.{all_of_mapped}
use Rattle.protocol_expand.specs.Expansion.{Expands, IsPlain}
use Rattle.protocol_expand.specs.Printed.{ExpandsBack}
use Rattle.protocol_expand.specs.Laws.{PlainStandsForItself}
use Rattle.protocol_expand.proofs.PlainPairs.{unmapped}

-- what the words without places give, the words give
map_unplaced : {A B : Type 0} (bare : A → A) (f : A → B) → ((x : A) → f (bare x) ≡ f x) → (xs : List A) → map f (map bare xs) ≡ map f xs
map_unplaced bare f one [] = refl
map_unplaced bare f one (x ∷ xs) = λ i. one x i ∷ map_unplaced bare f one xs i

-- whether the word `key` is there
has_key : (key : Option ℕ) → is_some (key_without_offset key) ≡ is_some key
has_key None = refl
has_key (Some place) = refl

-- and where it is not
no_key : (key : Option ℕ) → key_without_offset key ≡ None → key ≡ None
no_key None none = refl
no_key (Some place) none = absurd cc

-- the parameters that are declared
params_unplaced : (p : Declaration) → params_of (declaration_without_offsets p) ≡ params_of p
params_unplaced p = λ i.
    map_unplaced formal_without_offsets public_param (λ f. λ j. record { name = (public_param f).name; adornment = (public_param f).adornment; key = has_key f.key j }) p.public i
    ++ map_unplaced word_without_offset private_param (λ w. refl) p.private i

-- an item has the images that it has without places
item_placed : (roles : List (List ℕ)) (params : List ParamInfo) (i : Item) (m : Message) → IsMessageOfItem roles params (item_without_offsets i) m → IsMessageOfItem roles params i m
item_placed roles params (item.Reference r) m image = image
item_placed roles params (item.Message s) m image = record {
  named = image.named;
  sent = image.sent;
  received = image.received;
  carries = unmapped (IsCarried params) (IsCarried params) formal_without_offsets (λ f c carried. record { indexed = carried.indexed; adorned = carried.adorned }) s.params m.carried image.carries;
}

-- so a protocol has the expansion that it has without places
expansion_placed : (p : Declaration) (x : Expanded) → IsExpansionOf (declaration_without_offsets p) x → IsExpansionOf p x
expansion_placed p x expands = record {
  named = expands.named;
  roles = expands.roles ∙ map_unplaced word_without_offset (λ (w : Word). w.text) (λ w. refl) p.roles;
  params = expands.params ∙ params_unplaced p;
  public = expands.public ∙ length-map p.public formal_without_offsets;
  images = unmapped (IsMessageOfItem x.roles x.params) (IsMessageOfItem x.roles x.params) item_without_offsets (item_placed x.roles x.params) p.body x.messages expands.images;
}

-- an item has no `key` if it has none without places
item_unkeyed : (i : Item) → IsUnkeyed (item_without_offsets i) → IsUnkeyed i
item_unkeyed (item.Reference r) bare = bare
item_unkeyed (item.Message s) bare = All-weaker (λ (f : Formal). key_without_offset f.key ≡ None) (λ (f : Formal). f.key ≡ None) (λ f. no_key f.key) s.params (all_of_mapped (λ (f : Formal). f.key ≡ None) formal_without_offsets s.params bare)

-- so a protocol is plain if it is so without places
plain_placed : (p : Declaration) → IsPlain (declaration_without_offsets p) → IsPlain p
plain_placed p plain = All-weaker (λ (i : Item). IsUnkeyed (item_without_offsets i)) IsUnkeyed item_unkeyed p.body (all_of_mapped IsUnkeyed item_without_offsets p.body plain)

-- of lists with the same image one item has one
one_alike : {A B : Type 0} (f : A → B) (x : A) (ys : List A) → map f (x ∷ []) ≡ map f ys → (y : A) × (ys ≡ y ∷ []) × (f x ≡ f y)
one_alike f x [] same = absurd cc
one_alike f x (y ∷ []) same = (y, refl, cc)
one_alike f x (y ∷ z ∷ zs) same = absurd cc

-- a text that is read back as a bare protocol expands to what the protocol does
pub expands_back : PlainStandsForItself → (text : List ℕ) (p : Declaration) (x : Expanded) → IsExpansionOf p x → IsCanonical p → ReadsBack text (record { protocols = p ∷ [] }) → ExpandsBack text x
expands_back law text p x expands bare back =
    let found = one_alike declaration_without_offsets p back.document.protocols (ap (λ (d : Document). d.protocols) back.alike) in
    let q = found.0 in
    let same : p ≡ declaration_without_offsets q = sym bare.without_offsets ∙ found.2 in
    let again : IsExpansionOf q x = expansion_placed q x (subst (λ (r : Declaration). IsExpansionOf r x) same expands) in
    let plain : IsPlain q = plain_placed q (subst IsPlain same bare.unkeyed) in
    record {
      document = back.document;
      read = back.read;
      again = subst (λ name. Expands back.document name x) (sym again.named) (law.own back.document q x found.1 plain again);
    }
