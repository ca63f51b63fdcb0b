-- A protocol without references is its own flat protocol.
use Rattle.std.proofs.Common.{◌≡◌, ℕ, zero, suc, ◌+◌, List, [], ◌∷◌, ◌++◌, length, get_or, map, Option, Some, None, refl, sym, ap, subst, ◌∙◌}
use Rattle.std.specs.List.{All, AllZip, enumerate_from, flat_map, position}
use Rattle.std.specs.Option.{option_map_or}
use Rattle.std.specs.Str.{bytes_eq}
use Rattle.std.proofs.lemmas.List.{append-nil}
use Rattle.std.proofs.lemmas.List.Elements.{All-head, All-tail}
use Rattle.std.proofs.lemmas.List.Quantifiers.{position-Some}
use Rattle.std.proofs.lemmas.Slice.Eq.{bytes_eq-Decides}
use Rattle.bspl_parser.specs.declared.document.Declaration.{Declaration}
use Rattle.bspl_parser.specs.declared.document.Formal.{Formal}
use Rattle.bspl_parser.specs.declared.document.Item.{Item}
use Rattle.bspl_parser.specs.declared.document.Item.TheVariants.{Message, Reference}
use Rattle.bspl_parser.specs.declared.document.Schema.{Schema}
use Rattle.protocol_names.specs.Names.{param_words, texts}
use Rattle.protocol_names.specs.Plain.{IsUnkeyed}
use Rattle.protocol_paths.specs.Flat.{IsFlat, IsImage, IsImageFormal, IsImageItem, entry, private_entries, privates_at}
use Rattle.protocol_paths.specs.Path.{Step, item_messages, paths, steps_at}
use Rattle.protocol_paths.specs.Scope.{scope_at, start, substituted}
use Rattle.protocol_paths.proofs.ReferenceLemmas.{message_alone}

-- if each declared name is given itself, a name stays as it is
pub substituted_same : (declared : List (List ℕ)) (name : List ℕ) → substituted declared declared name ≡ name
substituted_same declared name =
    (elim (position (λ n. bytes_eq n name) declared) as (λ (o : Option ℕ). position (λ n. bytes_eq n name) declared ≡ o → option_map_or (λ k. get_or declared k name) o name ≡ name) [
      | None ↦ λ nowhere. refl
      | Some k ↦ λ found. (bytes_eq-Decides (get_or declared k name) name).0 (position-Some (λ n. bytes_eq n name) declared k name found).1
    ]) refl

-- no step leads on
no_steps : (k : ℕ) (protocols : List Declaration) (body : List Item) → All IsUnkeyed body → flat_map (steps_at protocols) (enumerate_from k body) ≡ []
no_steps k protocols [] alone = refl
no_steps k protocols (Message m ∷ body) alone = no_steps (k + 1) protocols body (All-tail IsUnkeyed (Message m) body alone)
no_steps k protocols (Reference r ∷ body) alone = absurd (All-head IsUnkeyed (Reference r) body alone)

-- so only the empty path is left, and its own private parameters
one_path : (n : ℕ) (protocols : List Declaration) (top : Declaration) → All IsUnkeyed top.body → paths n protocols top ≡ [] ∷ []
one_path zero protocols top alone = refl
one_path (suc n) protocols top alone = ap (λ (list : List Step). [] ∷ flat_map (λ s. map (λ path. s ∷ path) (paths n protocols s.target)) list) (no_steps 1 protocols top.body alone)

pub plain_private : (n : ℕ) (protocols : List Declaration) (top : Declaration) → All IsUnkeyed top.body → private_entries n protocols (start top) ≡ map entry top.private
plain_private n protocols top alone =
    ap (flat_map (λ path. privates_at (scope_at (start top) path))) (one_path n protocols top alone) ∙ append-nil (privates_at (start top))

-- parameters of a message of the top protocol are their own images
own_formals : (top : Declaration) (formals : List Formal) → All (λ f. f.key ≡ None) formals → AllZip (IsImageFormal (start top)) formals formals
own_formals top [] bare = tt
own_formals top (f ∷ formals) bare = (
  record {
    name = record { text = sym (substituted_same (texts (param_words top)) f.name.text); offset = refl };
    adorn = refl;
    offset = refl;
    bare = All-head (λ (g : Formal). g.key ≡ None) f formals bare;
  },
  own_formals top formals (All-tail (λ (g : Formal). g.key ≡ None) f formals bare),
)

-- so is a message
own_message : (top : Declaration) (m : Schema) → All (λ f. f.key ≡ None) m.params → IsImage (start top) m m
own_message top m bare = record {
  named = record { text = refl; offset = refl };
  sent = record { text = sym (substituted_same (texts top.roles) m.sender.text); offset = refl };
  received = record { text = sym (substituted_same (texts top.roles) m.receiver.text); offset = refl };
  carries = own_formals top m.params bare;
}

-- and a body
own_items : (top : Declaration) (n k : ℕ) (protocols : List Declaration) (body : List Item) → All IsUnkeyed body → AllZip (IsImageItem (start top)) (flat_map (item_messages n protocols) (enumerate_from k body)) body
own_items top n k protocols [] bare = tt
own_items top n k protocols (Reference r ∷ body) bare = absurd (All-head IsUnkeyed (Reference r) body bare)
own_items top n k protocols (Message m ∷ body) bare =
    subst (λ (front : List (List Step × Schema)). AllZip (IsImageItem (start top)) (front ++ flat_map (item_messages n protocols) (enumerate_from (k + 1) body)) (Message m ∷ body)) (sym (message_alone n protocols k m))
    (own_message top m (All-head IsUnkeyed (Message m) body bare), own_items top n (k + 1) protocols body (All-tail IsUnkeyed (Message m) body bare))

-- so it is its own flat protocol
pub own_flat : (protocols : List Declaration) (p : Declaration) → All IsUnkeyed p.body → IsFlat protocols p p
own_flat protocols p plain = record {
  name = refl;
  roles = refl;
  public = refl;
  private = sym (plain_private (length protocols) protocols p plain);
  body = own_items p (length protocols) 1 protocols p.body plain;
}
