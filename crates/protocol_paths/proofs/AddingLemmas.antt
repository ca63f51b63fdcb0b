-- Items that are put at the end, one for each of a list.
use Rattle.std.proofs.Common.{◌≡◌, ℕ, ◌+◌, ◌<◌, ◌≤◌, List, [], ◌∷◌, ◌++◌, length, get_or, map, take, Result, Ok, Err, sym, ap, subst, ◌∙◌}
use Rattle.std.specs.Prelude.{OnOk}
use Rattle.std.specs.List.{AllZip, enumerate_from, flat_map}
use Rattle.std.proofs.lemmas.List.{append-nil, append_assoc}
use Rattle.bspl_parser.specs.declared.document.Item.TheVariants.{Message}
use Rattle.bspl_parser.specs.declared.document.Schema.{Schema}
use Rattle.protocol_paths.specs.inner.AddsEach.{AddsEach, IsImageMessage}
use Rattle.protocol_paths.specs.Flat.{IsImageItem}
use Rattle.protocol_paths.specs.Path.{Step, through}
use Rattle.protocol_paths.specs.Scope.{Scope, after}
use Rattle.protocol_paths.proofs.Numbered.{made_all, made_more}
use Rattle.list_base.proofs.Zipped.{zip_append, zip_map}

-- nothing for nothing
pub adds_none : {X Y : Type 0} (R : X → Y → Type 0) (xs : List X) (old new : List Y) → xs ≡ [] → new ≡ old → AddsEach R xs old new
adds_none {X} R xs old new none same = record { more = []; parts = same ∙ sym (append-nil old); each = subst (λ (list : List X). AllZip R list []) (sym none) tt }

-- for one list and then for another
pub adds_both : {X Y : Type 0} (R : X → Y → Type 0) (xs xs' : List X) (old mid new : List Y) → AddsEach R xs old mid → AddsEach R xs' mid new → AddsEach R (xs ++ xs') old new
adds_both R xs xs' old mid new one other = record {
  more = one.more ++ other.more;
  parts = other.parts ∙ ap (λ list. list ++ other.more) one.parts ∙ append_assoc old one.more other.more;
  each = zip_append R xs one.more xs' other.more one.each other.each;
}

-- for one item more
pub adds_more : {X Y Z : Type 0} (R : Z → Y → Type 0) (f : ℕ × X → List Z) (xs : List X) (i : ℕ) (x : X) (old mid new : List Y) → i < length xs → x ≡ get_or xs i x → AddsEach R (flat_map f (take i (enumerate_from 1 xs))) old mid → AddsEach R (f (i + 1, x)) mid new → AddsEach R (flat_map f (take (i + 1) (enumerate_from 1 xs))) old new
adds_more {X} {Y} {Z} R f xs i x old mid new within is_item one other =
    subst (λ (list : List Z). AddsEach R list old new) (sym (made_more f xs i x within is_item)) (adds_both R (flat_map f (take i (enumerate_from 1 xs))) (f (i + 1, x)) old mid new one other)

-- for all items
pub adds_all : {X Y Z : Type 0} (R : Z → Y → Type 0) (f : ℕ × X → List Z) (xs : List X) (i : ℕ) (old new : List Y) → length xs ≤ i → AddsEach R (flat_map f (take i (enumerate_from 1 xs))) old new → AddsEach R (flat_map f (enumerate_from 1 xs)) old new
adds_all {X} {Y} {Z} R f xs i old new past so_far = subst (λ (list : List Z). AddsEach R list old new) (made_all f xs i past) so_far

-- an image from the next scope is one through the step
image_after : (scope : Scope) (s : Step) (x : List Step × Schema) (y : Schema) → IsImageMessage (after scope s) x y → IsImageMessage scope (through s x) y
image_after scope s (path, m) m' is = is

pub adds_after : (scope next : Scope) (s : Step) (xs : List (List Step × Schema)) (old new : List Schema) → next ≡ after scope s → AddsEach (IsImageMessage next) xs old new → AddsEach (IsImageMessage scope) (map (through s) xs) old new
adds_after scope next s xs old new is adds = record {
  more = adds.more;
  parts = adds.parts;
  each = zip_map (IsImageMessage (after scope s)) (IsImageMessage scope) (through s) (image_after scope s) xs adds.more (subst (λ (p : Scope). AllZip (IsImageMessage p) xs adds.more) is adds.each);
}

-- images that are messages are items
pub image_items : (scope : Scope) (xs : List (List Step × Schema)) (ms : List Schema) → AllZip (IsImageMessage scope) xs ms → AllZip (IsImageItem scope) xs (map Message ms)
image_items scope [] [] all = tt
image_items scope [] (m ∷ ms) all = absurd all
image_items scope (x ∷ xs) [] all = absurd all
image_items scope (x ∷ xs) (m ∷ ms) all = (all.0, image_items scope xs ms all.1)

-- those that were added to nothing
pub all_items : (scope : Scope) (xs : List (List Step × Schema)) (old new : List Schema) → old ≡ [] → AddsEach (IsImageMessage scope) xs old new → AllZip (IsImageItem scope) xs (map Message new)
all_items scope xs old new none adds = image_items scope xs new (subst (AllZip (IsImageMessage scope) xs) (sym (adds.parts ∙ ap (λ (ms : List Schema). ms ++ adds.more) none)) adds.each)

-- what follows from an answer, where it is no refusal
pub on_ok : {P Q T E : Type 0} (r : Result T E) → (P → Q) → OnOk r P → OnOk r Q
on_ok (Ok x) to holds = to holds
on_ok (Err e) to holds = tt
