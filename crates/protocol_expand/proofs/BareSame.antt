-- Two bare protocols with one expansion are one.
use Rattle.std.proofs.Common.{◌≡◌, ◌≢◌, ℕ, List, [], ◌∷◌, get_or, Option, Some, None, refl, sym, ◌∙◌, ap}
use Rattle.std.specs.Prelude.{IsTrue, is_some}
use Rattle.std.specs.List.{All, position}
use Rattle.std.specs.Str.{bytes_eq}
use Rattle.std.proofs.Props.{props}
use Rattle.std.proofs.lemmas.List.Quantifiers.{position-Some}
use Rattle.std.proofs.lemmas.Slice.Eq.{bytes_eq-Decides}
use mathlib.Core.HLevel.{is_prop→PathP}
use Rattle.bspl_types.specs.declared.expanded.Expanded.{Expanded}
use Rattle.bspl_types.specs.declared.protocol.Adornment.{Adornment}
use Rattle.bspl_types.specs.declared.protocol.Adornment.TheVariants as bound
use Rattle.bspl_types.specs.declared.protocol.Carried.{Carried}
use Rattle.bspl_types.specs.declared.protocol.Message.{Message}
use Rattle.bspl_types.specs.declared.protocol.ParamInfo.{ParamInfo}
use Rattle.bspl_types.specs.Name.{is_name}
use Rattle.bspl_parser.specs.declared.document.Adorn.{Adorn}
use Rattle.bspl_parser.specs.declared.document.Adorn.TheVariants.{In, Out, Nil, Any, Opt}
use Rattle.bspl_parser.specs.declared.document.Declaration.{Declaration}
use Rattle.bspl_parser.specs.declared.document.Formal.{Formal}
use Rattle.bspl_parser.specs.declared.document.Item.{Item}
use Rattle.bspl_parser.specs.declared.document.Item.TheVariants as item
use Rattle.bspl_parser.specs.declared.word.Word.{Word}
use Rattle.bspl_parser.specs.Alike.{declaration_without_offsets, formal_without_offsets, item_without_offsets, key_without_offset, word_without_offset}
use Rattle.bspl_parser.specs.Layout.{printed}
use Rattle.protocol_expand.specs.FlatExpansion.{adornment_of, private_param, public_param, IsCarried, IsExpansionOf, IsMessageOfItem}
use Rattle.protocol_names.specs.Plain.{IsUnkeyed}
use Rattle.protocol_expand.specs.Printed.{IsPrinted}
use Rattle.protocol_expand.proofs.PlainPairs.{same_images, same_partners}
use Rattle.protocol_expand.proofs.PlainParts.{private_part, public_adorned, public_part}

-- a name is shown to be one in one way
one_naming : (text : List ℕ) → IsProp (IsTrue (is_name text))
one_naming text = hlevel props

-- words of one text are one, but for their places
same_word : (v w : Word) → v.text ≡ w.text → word_without_offset v ≡ word_without_offset w
same_word v w same = λ i. record {
  text = same i;
  offset = 0;
  named = is_prop→PathP (λ j. IsTrue (is_name (same j))) (λ j. one_naming (same j)) v.named w.named i;
}

-- how a text adorns
adorn_of : Option Adornment → Adorn
adorn_of None = Any
adorn_of (Some bound.In) = In
adorn_of (Some bound.Out) = Out
adorn_of (Some bound.Nil) = Nil

-- an adornment of an expansion tells how
adorned_back : (a : Adorn) → adornment_of a ≢ None → adorn_of (adornment_of a) ≡ a
unfolding adorn_of
adorned_back In some = refl
adorned_back Out some = refl
adorned_back Nil some = refl
adorned_back Any some = absurd (some refl)
adorned_back Opt some = absurd (some refl)

-- so those that mean one are one
same_adorn : (a b : Adorn) → adornment_of a ≢ None → adornment_of b ≢ None → adornment_of a ≡ adornment_of b → a ≡ b
same_adorn a b some some' same = sym (adorned_back a some) ∙ ap adorn_of same ∙ adorned_back b some'

-- the word `key` is there in both or in neither
same_key : (k l : Option ℕ) → is_some k ≡ is_some l → key_without_offset k ≡ key_without_offset l
same_key None None same = refl
same_key None (Some l) same = absurd cc
same_key (Some k) None same = absurd cc
same_key (Some k) (Some l) same = refl

-- parameters of one text, adornment and mark are one, but for their places
same_formal : (f g : Formal) → f.adorn ≡ g.adorn → f.name.text ≡ g.name.text → is_some f.key ≡ is_some g.key → formal_without_offsets f ≡ formal_without_offsets g
same_formal f g adorn name key = λ i. record { adorn = adorn i; offset = 0; name = same_word f.name g.name name i; key = same_key f.key g.key key i }

-- names with one place are one
same_name : {X : Type 0} (name : X → List ℕ) (xs : List X) (a b : List ℕ) (k : ℕ) (d : X) → position (λ x. bytes_eq (name x) a) xs ≡ Some k → position (λ x. bytes_eq (name x) b) xs ≡ Some k → a ≡ b
same_name {X} name xs a b k d at at' =
    sym ((bytes_eq-Decides (name (get_or xs k d)) a).0 (position-Some (λ (x : X). bytes_eq (name x) a) xs k d at).1)
    ∙ (bytes_eq-Decides (name (get_or xs k d)) b).0 (position-Some (λ (x : X). bytes_eq (name x) b) xs k d at').1

-- public parameters of one meaning
same_public : (f g : Formal) → adornment_of f.adorn ≢ None → adornment_of g.adorn ≢ None → public_param f ≡ public_param g → formal_without_offsets f ≡ formal_without_offsets g
same_public f g some some' same =
    same_formal f g (same_adorn f.adorn g.adorn some some' (ap (λ (p : ParamInfo). p.adornment) same)) (ap (λ (p : ParamInfo). p.name) same) (ap (λ (p : ParamInfo). p.key) same)

-- private ones
same_private : (v w : Word) → Unit {0} → Unit {0} → private_param v ≡ private_param w → word_without_offset v ≡ word_without_offset w
same_private v w any any' same = same_word v w (ap (λ (p : ParamInfo). p.name) same)

-- what a parameter of a message is adorned with
adorned_so : (a : Adorn) (b : Adornment) → adornment_of a ≡ Some b → adornment_of a ≢ None
adorned_so a b is none = let never : Some b ≡ None = sym is ∙ none in cc

-- parameters of messages that are carried in one way
same_carried : (params : List ParamInfo) (f g : Formal) (c : Carried) → f.key ≡ None → g.key ≡ None → IsCarried params f c → IsCarried params g c → formal_without_offsets f ≡ formal_without_offsets g
same_carried params f g c bare bare' carried carried' =
    same_formal f g
    (same_adorn f.adorn g.adorn (adorned_so f.adorn c.adornment carried.adorned) (adorned_so g.adorn c.adornment carried'.adorned) (carried.adorned ∙ sym carried'.adorned))
    (same_name (λ (p : ParamInfo). p.name) params f.name.text g.name.text c.param (private_param f.name) carried.indexed carried'.indexed)
    (ap is_some (bare ∙ sym bare'))

-- items of one message
same_item : (roles : List (List ℕ)) (params : List ParamInfo) (i j : Item) (m : Message) → IsUnkeyed i → IsUnkeyed j → IsMessageOfItem roles params i m → IsMessageOfItem roles params j m → item_without_offsets i ≡ item_without_offsets j
same_item roles params (item.Reference r) j m bare bare' image image' = absurd bare
same_item roles params (item.Message s) (item.Reference r) m bare bare' image image' = absurd bare'
same_item roles params (item.Message s) (item.Message t) m bare bare' image image' = λ i. item.Message (record {
  sender = same_word s.sender t.sender (same_name (λ name. name) roles s.sender.text t.sender.text m.sender [] image.sent image'.sent) i;
  receiver = same_word s.receiver t.receiver (same_name (λ name. name) roles s.receiver.text t.receiver.text m.receiver [] image.received image'.received) i;
  name = same_word s.name t.name (sym image.named ∙ image'.named) i;
  params = same_partners (λ (f : Formal). f.key ≡ None) (IsCarried params) formal_without_offsets (same_carried params) s.params t.params m.carried bare bare' image.carries image'.carries i;
})

-- protocols of one expansion are one, but for their places
same_unplaced : (p q : Declaration) (x : Expanded) → IsExpansionOf p x → IsExpansionOf q x → All IsUnkeyed p.body → All IsUnkeyed q.body → declaration_without_offsets p ≡ declaration_without_offsets q
same_unplaced p q x expands expands' bare bare' = λ i. record {
  name = same_word p.name q.name (sym expands.named ∙ expands'.named) i;
  roles = same_images (λ (w : Word). Unit {0}) (λ (w : Word). w.text) word_without_offset (λ v w any any' same. same_word v w same) p.roles q.roles (λ k e within. tt) (λ k e within. tt) (sym expands.roles ∙ expands'.roles) i;
  public = same_images (λ (f : Formal). adornment_of f.adorn ≢ None) public_param formal_without_offsets same_public p.public q.public (public_adorned p x expands) (public_adorned q x expands') (public_part p x expands ∙ sym (public_part q x expands')) i;
  private = same_images (λ (w : Word). Unit {0}) private_param word_without_offset same_private p.private q.private (λ k e within. tt) (λ k e within. tt) (private_part p x expands ∙ sym (private_part q x expands')) i;
  body = same_partners IsUnkeyed (IsMessageOfItem x.roles x.params) item_without_offsets (same_item x.roles x.params) p.body q.body x.messages bare bare' expands.images expands'.images i;
}

-- so an expansion has one text
pub one_text : (x : Expanded) (one other : List ℕ) → IsPrinted x one → IsPrinted x other → one ≡ other
one_text x one other is is' =
    let same : is.flat ≡ is'.flat = sym is.bare.without_offsets ∙ same_unplaced is.flat is'.flat x is.expands is'.expands is.bare.unkeyed is'.bare.unkeyed ∙ is'.bare.without_offsets in
    is.layout ∙ ap (λ (p : Declaration). printed (record { protocols = p ∷ [] })) same ∙ sym is'.layout
