-- What is alike a well-formed document is well formed.
use Rattle.std.proofs.Common.{◌≡◌, ◌≢◌, ℕ, List, [], ◌∷◌, Option, Some, None, map, refl, sym, ap, ◌∙◌}
use Rattle.std.specs.List.{All}
use Rattle.std.proofs.lemmas.List.Elements.{All-nil, All-cons, All-head, All-tail}
use Rattle.bspl_parser.specs.declared.document.Formal.{Formal}
use Rattle.bspl_parser.specs.declared.document.Schema.{Schema}
use Rattle.bspl_parser.specs.declared.document.Reference.{Reference}
use Rattle.bspl_parser.specs.declared.document.Item.{Item}
use Rattle.bspl_parser.specs.declared.document.Item.TheVariants as item
use Rattle.bspl_parser.specs.declared.document.Declaration.{Declaration}
use Rattle.bspl_parser.specs.declared.document.Document.{Document}
use Rattle.bspl_parser.specs.Alike.{word_without_offset, key_without_offset, formal_without_offsets, message_without_offsets, reference_without_offsets, item_without_offsets, declaration_without_offsets, without_offsets}
use Rattle.bspl_parser.specs.Spelling.{IsFormal, IsSchema, IsReference, IsItem, IsDeclaration, IsDocument}

module _ {X : Type 0} (bare : X → X) where
  -- heads and tails of equal lists
  heads_same : (x y : X) (xs ys : List X) → x ∷ xs ≡ y ∷ ys → (x ≡ y) × (xs ≡ ys)
  heads_same x y xs ys same = (cc, cc)

  -- a list that is alike a list which is not empty
  some_alike : (xs ys : List X) → map bare ys ≡ map bare xs → xs ≢ [] → ys ≢ []
  some_alike [] ys same some = absurd (some refl)
  some_alike (x ∷ xs) [] same some = λ none. no_nil (bare x) (map bare xs) same
    where
      no_nil : (z : X) (zs : List X) → [] ≡ z ∷ zs → ⊥
      no_nil z zs none = cc
  some_alike (x ∷ xs) (y ∷ ys) same some = λ none. cc

  -- items that are alike good ones are good
  all_alike : (Good : X → Type 0) → ((x y : X) → bare y ≡ bare x → Good x → Good y) → (xs ys : List X) → map bare ys ≡ map bare xs → All Good xs → All Good ys
  all_alike Good one xs [] same good = All-nil Good
  all_alike Good one [] (y ∷ ys) same good = absurd (no_cons (bare y) (map bare ys) same)
    where
      no_cons : (z : X) (zs : List X) → z ∷ zs ≡ [] → ⊥
      no_cons z zs none = cc
  all_alike Good one (x ∷ xs) (y ∷ ys) same good =
      let parts = heads_same (bare y) (bare x) (map bare ys) (map bare xs) same in
      All-cons Good y ys (one x y parts.0 (All-head Good x xs good)) (all_alike Good one xs ys parts.1 (All-tail Good x xs good))

-- a parameter
no_key : (k h : Option ℕ) → key_without_offset h ≡ key_without_offset k → k ≡ None → h ≡ None
no_key None None same none = refl
no_key None (Some o) same none = absurd cc
no_key (Some o) h same none = absurd cc

formal_alike : (f g : Formal) → formal_without_offsets g ≡ formal_without_offsets f → IsFormal f → IsFormal g
formal_alike f g same formal = λ is_nil. no_key f.key g.key (ap (λ x. x.key) same) (formal (sym (ap (λ x. x.adorn) same) ∙ is_nil))

-- a message, a reference, an item
schema_alike : (m n : Schema) → message_without_offsets n ≡ message_without_offsets m → IsSchema m → IsSchema n
schema_alike m n same schema =
    let params : map formal_without_offsets n.params ≡ map formal_without_offsets m.params = ap (λ x. x.params) same in
    record { some = some_alike formal_without_offsets m.params n.params params schema.some; each = all_alike formal_without_offsets IsFormal formal_alike m.params n.params params schema.each }

reference_alike : (r s : Reference) → reference_without_offsets s ≡ reference_without_offsets r → IsReference r → IsReference s
reference_alike r s same reference =
    record {
      some = some_alike word_without_offset r.roles s.roles (ap (λ x. x.roles) same) reference.some;
      each = all_alike formal_without_offsets IsFormal formal_alike r.params s.params (ap (λ x. x.params) same) reference.each;
    }

messages_same : (m n : Schema) → item.Message m ≡ item.Message n → m ≡ n
messages_same m n same = cc

references_same : (r s : Reference) → item.Reference r ≡ item.Reference s → r ≡ s
references_same r s same = cc

no_item : (m : Schema) (r : Reference) → item.Message m ≡ item.Reference r → ⊥
no_item m r same = cc

item_alike : (i j : Item) → item_without_offsets j ≡ item_without_offsets i → IsItem i → IsItem j
item_alike (item.Message m) (item.Message n) same good = schema_alike m n (messages_same (message_without_offsets n) (message_without_offsets m) same) good
item_alike (item.Message m) (item.Reference s) same good = absurd (no_item (message_without_offsets m) (reference_without_offsets s) (sym same))
item_alike (item.Reference r) (item.Message n) same good = absurd (no_item (message_without_offsets n) (reference_without_offsets r) same)
item_alike (item.Reference r) (item.Reference s) same good = reference_alike r s (references_same (reference_without_offsets s) (reference_without_offsets r) same) good

-- a protocol
declaration_alike : (d e : Declaration) → declaration_without_offsets e ≡ declaration_without_offsets d → IsDeclaration d → IsDeclaration e
declaration_alike d e same good =
    let public : map formal_without_offsets e.public ≡ map formal_without_offsets d.public = ap (λ x. x.public) same in
    record {
      some_role = some_alike word_without_offset d.roles e.roles (ap (λ x. x.roles) same) good.some_role;
      some_public = some_alike formal_without_offsets d.public e.public public good.some_public;
      each_public = all_alike formal_without_offsets IsFormal formal_alike d.public e.public public good.each_public;
      each_item = all_alike item_without_offsets IsItem item_alike d.body e.body (ap (λ x. x.body) same) good.each_item;
    }

-- a document
pub formed_alike : (d e : Document) → without_offsets e ≡ without_offsets d → IsDocument d → IsDocument e
formed_alike d e same formed =
    let protocols : map declaration_without_offsets e.protocols ≡ map declaration_without_offsets d.protocols = ap (λ x. x.protocols) same in
    record { some = some_alike declaration_without_offsets d.protocols e.protocols protocols formed.some; each = all_alike declaration_without_offsets IsDeclaration declaration_alike d.protocols e.protocols protocols formed.each }
