-- Where no path has more than n references, a longer bound gives the same lists.
use Rattle.std.proofs.Common.{◌≡◌, ◌≢◌, ℕ, zero, suc, ◌+◌, ◌<◌, ◌≤◌, List, [], ◌∷◌, ◌++◌, length, get_or, map, Option, Some, None, refl, sym, ap, subst, ◌∙◌, arith}
use Rattle.std.specs.List.{All, AllPairs, Contains, flat_map, position_or_len}
use Rattle.std.specs.Option.{option_map_or}
use Rattle.std.specs.Str.{bytes_eq}
use Rattle.std.proofs.lemmas.List.{length-map}
use Rattle.std.proofs.lemmas.List.Elements.{All-append, All-cons, All-head, All-nil, All-tail, All-weaker}
use Rattle.std.proofs.lemmas.List.Folds.{find_at}
use Rattle.std.proofs.lemmas.List.FromFn.{get_or-enumerate_from, length-enumerate_from}
use Rattle.std.proofs.lemmas.Option.{slice_get-get_or}
use Rattle.bspl_parser.specs.declared.document.Declaration.{Declaration}
use Rattle.bspl_parser.specs.declared.document.Item.{Item}
use Rattle.bspl_parser.specs.declared.document.Item.TheVariants.{Message, Reference}
use Rattle.bspl_parser.specs.declared.document.Reference.{Reference as SpecReference}
use Rattle.list_base.proofs.Membership.{member_at}
use Rattle.list_base.proofs.Pigeonhole.{few_distinct}
use Rattle.protocol_names.specs.Names.{protocol_of}
use Rattle.protocol_paths.specs.Path.{Step, end_of, item_messages, message_paths, numbered_items, paths, private_words, steps, steps_at, through}
use Rattle.protocol_paths.specs.ReferencePath.{HasNoCycle, IsReferencePath, IsStepOf, IsWithinDepth, item_at, protocols_on}
use Rattle.protocol_paths.proofs.ReferenceLemmas.{message_alone}

-- what holds of each item at its position holds of the numbered items
pub numbered_all : (P : ℕ × Item → Type 0) (p : Declaration) → ((k : ℕ) (i : Item) → item_at p k ≡ Some i → P (k, i)) → All P (numbered_items p)
numbered_all P p each j d within =
    let inside : j < length p.body = omega (arith, within, length-enumerate_from 1 p.body) in
    let counted : 1 + j ≡ suc j = omega arith in
    subst P (sym (get_or-enumerate_from 1 p.body j d inside ∙ ap {B = ℕ × Item} (λ n. (n, get_or p.body j d.1)) counted))
    (each (suc j) (get_or p.body j d.1) (slice_get-get_or p.body j d.1 inside))

-- what holds of each list that is made holds of all of them in a row
pub all_gathered : {X Y : Type 0} (P : Y → Type 0) (f : X → List Y) (xs : List X) → All (λ x. All P (f x)) xs → All P (flat_map f xs)
all_gathered P f [] each = All-nil P
all_gathered {X} P f (x ∷ xs) each =
    All-append P (f x) (flat_map f xs) (All-head (λ (y : X). All P (f y)) x xs each)
    (all_gathered P f xs (All-tail (λ (y : X). All P (f y)) x xs each))

-- lists that are made alike of each item are alike in a row
pub same_on : {X Y : Type 0} (f g : X → List Y) (xs : List X) → All (λ x. f x ≡ g x) xs → flat_map f xs ≡ flat_map g xs
same_on f g [] each = refl
same_on {X} f g (x ∷ xs) each = λ i. All-head (λ (y : X). f y ≡ g y) x xs each i ++ same_on f g xs (All-tail (λ (y : X). f y ≡ g y) x xs each) i

-- of a list whose items cannot be, there is none
none_possible : {X : Type 0} (P : X → Type 0) (xs : List X) → ((x : X) → P x → ⊥) → All P xs → xs ≡ []
none_possible P [] never each = refl
none_possible P (x ∷ xs) never each = absurd (never x (All-head P x xs each))

-- a step at a position
pub record IsStepAt (protocols : List Declaration) (p : Declaration) (k : ℕ) (s : Step) : Type 0 where
  pub step : IsStepOf protocols p s
  pub at : s.position ≡ k

-- the steps by the reference at a position are steps of the protocol
pub steps_here : (protocols : List Declaration) (p : Declaration) (k : ℕ) (r : SpecReference) → item_at p k ≡ Some (Reference r) → All (IsStepAt protocols p k) (steps_at protocols (k, Reference r))
steps_here protocols p k r at =
    (elim (protocol_of protocols r.protocol.text) as (λ (o : Option Declaration). protocol_of protocols r.protocol.text ≡ o → All (IsStepAt protocols p k) (option_map_or (λ q. record { position = k; reference = r; target = q } ∷ []) o [])) [
      | None ↦ λ missing. All-nil (IsStepAt protocols p k)
      | Some q ↦ λ found. All-cons (IsStepAt protocols p k) (record { position = k; reference = r; target = q }) [] (record { step = record { item = at; target = found }; at = refl }) (All-nil (IsStepAt protocols p k))
    ]) refl

-- the steps of an item
steps_of_item : (protocols : List Declaration) (p : Declaration) (k : ℕ) (i : Item) → item_at p k ≡ Some i → All (IsStepOf protocols p) (steps_at protocols (k, i))
steps_of_item protocols p k (Message m) at = All-nil (IsStepOf protocols p)
steps_of_item protocols p k (Reference r) at = All-weaker (IsStepAt protocols p k) (IsStepOf protocols p) (λ s here. here.step) (steps_at protocols (k, Reference r)) (steps_here protocols p k r at)

-- the steps that are listed are steps of the protocol
pub steps_hold : (protocols : List Declaration) (p : Declaration) → All (IsStepOf protocols p) (steps protocols p)
steps_hold protocols p = all_gathered (IsStepOf protocols p) (steps_at protocols) (numbered_items p) (numbered_all (λ i. All (IsStepOf protocols p) (steps_at protocols i)) p (steps_of_item protocols p))

-- after a step one reference fewer is left
pub within_after : (n : ℕ) (protocols : List Declaration) (p : Declaration) (s : Step) → IsWithinDepth protocols p (suc n) → IsStepOf protocols p s → IsWithinDepth protocols s.target n
within_after n protocols p s within step path is = let whole : length (s ∷ path) ≤ suc n = within (s ∷ path) (step, is) in omega (arith, whole)

-- where no reference is left there is no step
pub no_step_left : (protocols : List Declaration) (p : Declaration) → IsWithinDepth protocols p 0 → (s : Step) → IsStepOf protocols p s → ⊥
no_step_left protocols p within s step = let one : length (s ∷ []) ≤ 0 = within (s ∷ []) (step, tt) in omega (arith, one)

-- a longer bound gives the same paths
pub same_paths : (n m : ℕ) (protocols : List Declaration) (p : Declaration) → IsWithinDepth protocols p n → n ≤ m → paths m protocols p ≡ paths n protocols p
same_paths zero zero protocols p within less = refl
same_paths zero (suc m) protocols p within less =
    ap (λ (ss : List Step). [] ∷ flat_map (λ s. map (λ path. s ∷ path) (paths m protocols s.target)) ss) (none_possible (IsStepOf protocols p) (steps protocols p) (no_step_left protocols p within) (steps_hold protocols p))
same_paths (suc n) zero protocols p within less = absurd (omega (arith, less))
same_paths (suc n) (suc m) protocols p within less =
    ap (λ (list : List (List Step)). [] ∷ list)
    (same_on (λ s. map (λ path. s ∷ path) (paths m protocols s.target)) (λ s. map (λ path. s ∷ path) (paths n protocols s.target)) (steps protocols p)
    (All-weaker (IsStepOf protocols p) (λ s. map (λ path. s ∷ path) (paths m protocols s.target) ≡ map (λ path. s ∷ path) (paths n protocols s.target))
    (λ s step. ap (map (λ path. s ∷ path)) (same_paths n m protocols s.target (within_after n protocols p s within step) (omega (arith, less))))
    (steps protocols p) (steps_hold protocols p)))

-- and the same private parameters
pub same_words : (n m : ℕ) (protocols : List Declaration) (p : Declaration) → IsWithinDepth protocols p n → n ≤ m → private_words m protocols p ≡ private_words n protocols p
same_words n m protocols p within less = ap (flat_map (λ path. (end_of p path).private)) (same_paths n m protocols p within less)

-- and the same messages of each item
same_item : (n m : ℕ) (protocols : List Declaration) (p : Declaration) (k : ℕ) (i : Item) → item_at p k ≡ Some i → IsWithinDepth protocols p n → n ≤ m → item_messages m protocols (k, i) ≡ item_messages n protocols (k, i)
same_item n m protocols p k (Message s) at within less = message_alone m protocols k s ∙ sym (message_alone n protocols k s)
same_item zero zero protocols p k (Reference r) at within less = refl
same_item zero (suc m) protocols p k (Reference r) at within less =
    ap (flat_map (λ s. map (through s) (message_paths m protocols s.target)))
    (none_possible (IsStepOf protocols p) (steps_at protocols (k, Reference r)) (no_step_left protocols p within) (steps_of_item protocols p k (Reference r) at))
same_item (suc n) zero protocols p k (Reference r) at within less = absurd (omega (arith, less))
same_item (suc n) (suc m) protocols p k (Reference r) at within less =
    same_on (λ s. map (through s) (message_paths m protocols s.target)) (λ s. map (through s) (message_paths n protocols s.target)) (steps_at protocols (k, Reference r))
    (All-weaker (IsStepOf protocols p) (λ s. map (through s) (message_paths m protocols s.target) ≡ map (through s) (message_paths n protocols s.target))
    (λ s step. ap (map (through s)) (same_on (item_messages m protocols) (item_messages n protocols) (numbered_items s.target)
    (numbered_all (λ i. item_messages m protocols i ≡ item_messages n protocols i) s.target
    (λ j i here. same_item n m protocols s.target j i here (within_after n protocols p s within step) (omega (arith, less))))))
    (steps_at protocols (k, Reference r)) (steps_of_item protocols p k (Reference r) at))

pub same_messages : (n m : ℕ) (protocols : List Declaration) (p : Declaration) → IsWithinDepth protocols p n → n ≤ m → message_paths m protocols p ≡ message_paths n protocols p
same_messages n m protocols p within less =
    same_on (item_messages m protocols) (item_messages n protocols) (numbered_items p)
    (numbered_all (λ i. item_messages m protocols i ≡ item_messages n protocols i) p (λ k i at. same_item n m protocols p k i at within less))

-- the protocol of a name is among the protocols
protocol_among : (protocols : List Declaration) (name : List ℕ) (q : Declaration) → protocol_of protocols name ≡ Some q → Contains protocols q
protocol_among protocols name q found = member_at protocols (position_or_len (λ p. bytes_eq p.name.text name) protocols) q (sym (find_at (λ p. bytes_eq p.name.text name) protocols) ∙ found)

-- the targets on a path are among the protocols
targets_among : (protocols : List Declaration) (p : Declaration) (path : List Step) → IsReferencePath protocols p path → All (Contains protocols) (map (λ s. s.target) path)
targets_among protocols p [] is = All-nil (Contains protocols)
targets_among protocols p (s ∷ path) is = All-cons (Contains protocols) s.target (map (λ t. t.target) path) (protocol_among protocols s.reference.protocol.text s.target is.0.target) (targets_among protocols s.target path is.1)

-- if no path closes, none has more references than there are protocols
pub no_cycle_within : (protocols : List Declaration) (p : Declaration) → HasNoCycle protocols p → IsWithinDepth protocols p (length protocols)
no_cycle_within protocols p acyclic path is =
    let pairs : AllPairs ◌≢◌ (protocols_on p path) = acyclic path is in
    let targets : List Declaration = map (λ s. s.target) path in
    let distinct : AllPairs ◌≢◌ targets = λ i j d less within. pairs (suc i) (suc j) d (omega (arith, less)) (omega (arith, within)) in
    omega (arith, few_distinct targets protocols distinct (targets_among protocols p path is), length-map path (λ (s : Step). s.target))
