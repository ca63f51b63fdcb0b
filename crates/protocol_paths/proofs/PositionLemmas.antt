-- The messages listed are those to which a path of positions leads, each once, in rising order.
use Rattle.std.proofs.Common.{◌≡◌, ℕ, zero, suc, ◌+◌, ◌≤◌, List, [], ◌∷◌, ◌++◌, get_or, map, Option, Some, None, refl, sym, ap, subst, ◌∙◌, arith, inl, inr}
use Rattle.std.specs.List.{All, AllPairs, AllZip, Contains, enumerate_from, flat_map}
use Rattle.std.specs.Option.{option_map_or}
use Rattle.std.proofs.lemmas.List.{append-nil, get_or-map, length-map}
use Rattle.std.proofs.lemmas.List.Elements.{All-append, All-contains, All-cons, All-head, All-map, All-nil, All-tail, All-weaker, Contains-append_left, Contains-append_right}
use Rattle.std.proofs.lemmas.List.FromFn.{get_or-enumerate_from, length-enumerate_from}
use Rattle.std.proofs.lemmas.List.Kept.{AllPairs-cons}
use Rattle.std.proofs.lemmas.Option.{get_or_from_slice_get, slice_get_within}
use Rattle.bspl_parser.specs.declared.document.Declaration.{Declaration}
use Rattle.bspl_parser.specs.declared.document.Item.{Item}
use Rattle.bspl_parser.specs.declared.document.Item.TheVariants.{Message, Reference}
use Rattle.bspl_parser.specs.declared.document.Schema.{Schema}
use Rattle.list_base.proofs.Mapped.{mapped_pairs}
use Rattle.list_base.proofs.Zipped.{zip_append}
use Rattle.protocol_names.specs.Names.{protocol_of}
use Rattle.protocol_paths.specs.Path.{Step, item_messages, message_paths, numbered_items, steps_at, through}
use Rattle.protocol_paths.specs.Position.{HasPositions, IsLexBelow, LeadsTo, ListsMessages}
use Rattle.protocol_paths.specs.ReferencePath.{IsStepOf, IsWithinDepth, item_at}
use Rattle.protocol_paths.proofs.DepthLemmas.{IsStepAt, all_gathered, no_step_left, numbered_all, steps_here, within_after}
use Rattle.protocol_paths.proofs.ReferenceLemmas.{one_step, step_by}

-- the positions of a message's path, and the message
abbrev End : Type 0
End = List ℕ × Schema

-- a message after one more position
abbrev from_position : ℕ → End → End
from_position k e = (k ∷ e.0, e.1)

-- the ends of the paths through an item, by at most n references
abbrev ends_at : ℕ → List Declaration → ℕ × Item → List End
ends_at zero protocols (k, Message m) = (k ∷ [], m) ∷ []
ends_at zero protocols (k, Reference r) = []
ends_at (suc n) protocols (k, Message m) = (k ∷ [], m) ∷ []
ends_at (suc n) protocols (k, Reference r) = flat_map (λ s. map (from_position k) (flat_map (ends_at n protocols) (numbered_items s.target))) (steps_at protocols (k, Reference r))

-- the ends of the paths from a protocol
abbrev ends_of : ℕ → List Declaration → Declaration → List End
ends_of n protocols p = flat_map (ends_at n protocols) (numbered_items p)

-- a message alone
end_alone : (n : ℕ) (protocols : List Declaration) (k : ℕ) (m : Schema) → ends_at n protocols (k, Message m) ≡ (k ∷ [], m) ∷ []
end_alone zero protocols k m = refl
end_alone (suc n) protocols k m = refl

-- lists that are made of each item in pairs are paired in a row
zip_gathered : {X A B : Type 0} (R : A → B → Type 0) (f : X → List A) (g : X → List B) (xs : List X) → All (λ x. AllZip R (f x) (g x)) xs → AllZip R (flat_map f xs) (flat_map g xs)
zip_gathered R f g [] each = tt
zip_gathered {X} R f g (x ∷ xs) each =
    zip_append R (f x) (g x) (flat_map f xs) (flat_map g xs) (All-head (λ (y : X). AllZip R (f y) (g y)) x xs each)
    (zip_gathered R f g xs (All-tail (λ (y : X). AllZip R (f y) (g y)) x xs each))

-- pairs whose items are both changed
zip_both : {A B C D : Type 0} (R : A → B → Type 0) (S : C → D → Type 0) (f : A → C) (g : B → D) → ((x : A) (y : B) → R x y → S (f x) (g y)) → (xs : List A) (ys : List B) → AllZip R xs ys → AllZip S (map f xs) (map g ys)
zip_both R S f g to [] [] all = tt
zip_both R S f g to [] (y ∷ ys) all = absurd all
zip_both R S f g to (x ∷ xs) [] all = absurd all
zip_both R S f g to (x ∷ xs) (y ∷ ys) all = (to x y all.0, zip_both R S f g to xs ys all.1)

-- positions after one more step
positions_after : (protocols : List Declaration) (p : Declaration) (k : ℕ) (s : Step) → IsStepAt protocols p k s → (e : End) (x : List Step × Schema) → HasPositions protocols s.target e x → HasPositions protocols p (from_position k e) (through s x)
positions_after protocols p k s here e (path, m) has = record {
  steps = (here.step, has.steps);
  last = has.last;
  positions = λ i. sym here.at i ∷ has.positions i;
  message = has.message;
}

-- each end has the positions of the message at its index in the list
each_item : (n : ℕ) (protocols : List Declaration) (p : Declaration) (k : ℕ) (i : Item) → item_at p k ≡ Some i → AllZip (HasPositions protocols p) (ends_at n protocols (k, i)) (item_messages n protocols (k, i))
each_item zero protocols p k (Message m) at = (record { steps = tt; last = k; positions = refl; message = refl }, tt)
each_item zero protocols p k (Reference r) at = tt
each_item (suc n) protocols p k (Message m) at = (record { steps = tt; last = k; positions = refl; message = refl }, tt)
each_item (suc n) protocols p k (Reference r) at =
    zip_gathered (HasPositions protocols p) (λ s. map (from_position k) (ends_of n protocols s.target)) (λ s. map (through s) (message_paths n protocols s.target)) (steps_at protocols (k, Reference r))
    (All-weaker (IsStepAt protocols p k) (λ s. AllZip (HasPositions protocols p) (map (from_position k) (ends_of n protocols s.target)) (map (through s) (message_paths n protocols s.target)))
    (λ s here. zip_both (HasPositions protocols s.target) (HasPositions protocols p) (from_position k) (through s) (positions_after protocols p k s here) (ends_of n protocols s.target) (message_paths n protocols s.target)
    (zip_gathered (HasPositions protocols s.target) (ends_at n protocols) (item_messages n protocols) (numbered_items s.target)
    (numbered_all (λ i. AllZip (HasPositions protocols s.target) (ends_at n protocols i) (item_messages n protocols i)) s.target (each_item n protocols s.target))))
    (steps_at protocols (k, Reference r)) (steps_here protocols p k r at))

-- the fact that an end is one to which its positions lead
abbrev Leads : List Declaration → Declaration → End → Type 0
Leads protocols p e = LeadsTo protocols p e.0 e.1

-- one more position in front
leads_from : (protocols : List Declaration) (p : Declaration) (k : ℕ) (s : Step) → IsStepAt protocols p k s → (ks : List ℕ) (m : Schema) → LeadsTo protocols s.target ks m → LeadsTo protocols p (k ∷ ks) m
leads_from protocols p k s here [] m leads = absurd leads
leads_from protocols p k s here (j ∷ ks) m leads =
    (s.target, record { reference = s.reference; item = subst (λ n. item_at p n ≡ Some (Reference s.reference)) here.at here.step.item; target = here.step.target }, leads)

-- each end is one
item_leads : (n : ℕ) (protocols : List Declaration) (p : Declaration) (k : ℕ) (i : Item) → item_at p k ≡ Some i → All (Leads protocols p) (ends_at n protocols (k, i))
item_leads zero protocols p k (Message m) at = All-cons (Leads protocols p) (k ∷ [], m) [] at (All-nil (Leads protocols p))
item_leads zero protocols p k (Reference r) at = All-nil (Leads protocols p)
item_leads (suc n) protocols p k (Message m) at = All-cons (Leads protocols p) (k ∷ [], m) [] at (All-nil (Leads protocols p))
item_leads (suc n) protocols p k (Reference r) at =
    all_gathered (Leads protocols p) (λ s. map (from_position k) (ends_of n protocols s.target)) (steps_at protocols (k, Reference r))
    (All-weaker (IsStepAt protocols p k) (λ s. All (Leads protocols p) (map (from_position k) (ends_of n protocols s.target)))
    (λ s here. All-map (Leads protocols p) (from_position k) (ends_of n protocols s.target)
    (All-weaker (Leads protocols s.target) (λ e. Leads protocols p (from_position k e)) (λ e leads. leads_from protocols p k s here e.0 e.1 leads) (ends_of n protocols s.target)
    (all_gathered (Leads protocols s.target) (ends_at n protocols) (numbered_items s.target)
    (numbered_all (λ i. All (Leads protocols s.target) (ends_at n protocols i)) s.target (item_leads n protocols s.target)))))
    (steps_at protocols (k, Reference r)) (steps_here protocols p k r at))

ends_lead : (n : ℕ) (protocols : List Declaration) (p : Declaration) → All (Leads protocols p) (ends_of n protocols p)
ends_lead n protocols p = all_gathered (Leads protocols p) (ends_at n protocols) (numbered_items p) (numbered_all (λ i. All (Leads protocols p) (ends_at n protocols i)) p (item_leads n protocols p))

-- a member of a list that a member makes
pub member_gathered : {X Y : Type 0} (f : X → List Y) (xs : List X) (x : X) (y : Y) → Contains xs x → Contains (f x) y → Contains (flat_map f xs) y
member_gathered f [] x y among made = absurd (omega (arith, among.1))
member_gathered {X} f (z ∷ xs) x y (zero, within, is) made = Contains-append_left (f z) (flat_map f xs) y (subst (λ (w : X). Contains (f w) y) (sym is) made)
member_gathered f (z ∷ xs) x y (suc k, within, is) made = Contains-append_right (f z) (flat_map f xs) y (member_gathered f xs x y (k, omega (arith, within), is) made)

-- a member of a mapped list
pub member_mapped : {X Y : Type 0} (f : X → Y) (xs : List X) (x : X) → Contains xs x → Contains (map f xs) (f x)
member_mapped f xs x among = (among.0, omega (arith, among.1, length-map xs f), get_or-map f xs among.0 x (f x) among.1 ∙ ap f among.2)

-- the item at a position is among the numbered items
pub item_numbered : (p : Declaration) (k : ℕ) (i : Item) → item_at p k ≡ Some i → Contains (numbered_items p) (k, i)
item_numbered p zero i at = absurd cc
item_numbered p (suc j) i at =
    let inside = slice_get_within p.body j i at in
    let counted : 1 + j ≡ suc j = omega arith in
    (j, omega (arith, inside, length-enumerate_from 1 p.body), get_or-enumerate_from 1 p.body j (suc j, i) inside ∙ (λ l. (counted l, get_or_from_slice_get p.body j i i at l)))

-- where positions lead to a message, there is an end
end_found : (n : ℕ) (protocols : List Declaration) (p : Declaration) (ks : List ℕ) (m : Schema) → IsWithinDepth protocols p n → LeadsTo protocols p ks m → Contains (ends_of n protocols p) (ks, m)
end_found n protocols p [] m within leads = absurd leads
end_found n protocols p (k ∷ []) m within at =
    member_gathered (ends_at n protocols) (numbered_items p) (k, Message m) (k ∷ [], m) (item_numbered p k (Message m) at)
    (subst (λ (ends : List End). Contains ends (k ∷ [], m)) (sym (end_alone n protocols k m)) (0, omega arith, refl))
end_found zero protocols p (k ∷ j ∷ ks) m within (q, refers, leads) =
    absurd (no_step_left protocols p within (step_by k refers.reference q) (record { item = refers.item; target = refers.target }))
end_found (suc n) protocols p (k ∷ j ∷ ks) m within (q, refers, leads) =
    let s = step_by k refers.reference q in
    let step : IsStepOf protocols p s = record { item = refers.item; target = refers.target } in
    let there : Contains (map (from_position k) (ends_of n protocols q)) (k ∷ j ∷ ks, m) =
    member_mapped (from_position k) (ends_of n protocols q) (j ∷ ks, m) (end_found n protocols q (j ∷ ks) m (within_after n protocols p s within step) leads) in
    member_gathered (ends_at (suc n) protocols) (numbered_items p) (k, Reference refers.reference) (k ∷ j ∷ ks, m) (item_numbered p k (Reference refers.reference) refers.item)
    (subst (λ (ss : List Step). Contains (flat_map (λ t. map (from_position k) (ends_of n protocols t.target)) ss) (k ∷ j ∷ ks, m)) (sym (one_step protocols k refers.reference q refers.target))
    (Contains-append_left (map (from_position k) (ends_of n protocols q)) [] (k ∷ j ∷ ks, m) there))

-- the order of ends
abbrev Below : End → End → Type 0
Below e f = IsLexBelow e.0 f.0

-- the first position
abbrev Begins : ℕ → End → Type 0
Begins k e = (rest : List ℕ) × (e.0 ≡ k ∷ rest)

-- the first position is not smaller
abbrev BeginsFrom : ℕ → End → Type 0
BeginsFrom k e = (j : ℕ) × (k ≤ j) × Begins j e

-- an item's ends begin at its position
item_begins : (n : ℕ) (protocols : List Declaration) (k : ℕ) (i : Item) → All (Begins k) (ends_at n protocols (k, i))
item_begins zero protocols k (Message m) = All-cons (Begins k) (k ∷ [], m) [] ([], refl) (All-nil (Begins k))
item_begins zero protocols k (Reference r) = All-nil (Begins k)
item_begins (suc n) protocols k (Message m) = All-cons (Begins k) (k ∷ [], m) [] ([], refl) (All-nil (Begins k))
item_begins (suc n) protocols k (Reference r) =
    all_gathered (Begins k) (λ s. map (from_position k) (ends_of n protocols s.target)) (steps_at protocols (k, Reference r))
    (λ j d inside. All-map (Begins k) (from_position k) (ends_of n protocols (get_or (steps_at protocols (k, Reference r)) j d).target) (λ l e within. ((get_or (ends_of n protocols (get_or (steps_at protocols (k, Reference r)) j d).target) l e).0, refl)))

-- the ends of the items from a position on begin there or later
items_begin : (n : ℕ) (protocols : List Declaration) (k : ℕ) (body : List Item) → All (BeginsFrom k) (flat_map (ends_at n protocols) (enumerate_from k body))
items_begin n protocols k [] = All-nil (BeginsFrom k)
items_begin n protocols k (i ∷ body) =
    All-append (BeginsFrom k) (ends_at n protocols (k, i)) (flat_map (ends_at n protocols) (enumerate_from (k + 1) body))
    (All-weaker (Begins k) (BeginsFrom k) (λ e begins. (k, omega arith, begins)) (ends_at n protocols (k, i)) (item_begins n protocols k i))
    (All-weaker (BeginsFrom (k + 1)) (BeginsFrom k) (λ e begins. (begins.0, omega (arith, begins.1), begins.2)) (flat_map (ends_at n protocols) (enumerate_from (k + 1) body)) (items_begin n protocols (k + 1) body))

-- an end that begins earlier is below
earlier_below : (k : ℕ) (e f : End) → Begins k e → BeginsFrom (k + 1) f → Below e f
earlier_below k e f begins later =
    subst (λ ks. IsLexBelow ks f.0) (sym begins.1) (subst (λ ls. IsLexBelow (k ∷ begins.0) ls) (sym later.2.1) (inl (omega (arith, later.1))))

-- rising pairs in two lists, the first below the second
pub pairs_append : {X : Type 0} (R : X → X → Type 0) (xs ys : List X) → AllPairs R xs → AllPairs R ys → All (λ x. All (R x) ys) xs → AllPairs R (xs ++ ys)
pairs_append R [] ys one other across = other
pairs_append {X} R (x ∷ xs) ys one other across =
    AllPairs-cons R x (xs ++ ys)
    (All-append (R x) xs ys (λ j d within. one 0 (suc j) d (omega arith) (omega (arith, within))) (All-head (λ (z : X). All (R z) ys) x xs across))
    (pairs_append R xs ys (λ i j d less within. one (suc i) (suc j) d (omega (arith, less)) (omega (arith, within))) other (All-tail (λ (z : X). All (R z) ys) x xs across))

-- the ends of the items rise if those of each item do
items_rise : (n : ℕ) (protocols : List Declaration) → ((k : ℕ) (i : Item) → AllPairs Below (ends_at n protocols (k, i))) → (k : ℕ) (body : List Item) → AllPairs Below (flat_map (ends_at n protocols) (enumerate_from k body))
items_rise n protocols each k [] = λ i j d less within. absurd (omega (arith, within))
items_rise n protocols each k (i ∷ body) =
    let later = flat_map (ends_at n protocols) (enumerate_from (k + 1) body) in
    pairs_append Below (ends_at n protocols (k, i)) later (each k i) (items_rise n protocols each (k + 1) body)
    (All-weaker (Begins k) (λ e. All (Below e) later)
    (λ e begins. All-weaker (BeginsFrom (k + 1)) (Below e) (λ f from. earlier_below k e f begins from) later (items_begin n protocols (k + 1) body))
    (ends_at n protocols (k, i)) (item_begins n protocols k i))

-- of one end there are no pairs
one_rises : (e : End) → AllPairs Below (e ∷ [])
one_rises e = λ i j d less within. absurd (omega (arith, less, within))

-- the ends of an item rise
item_rises : (n : ℕ) (protocols : List Declaration) (k : ℕ) (i : Item) → AllPairs Below (ends_at n protocols (k, i))
item_rises zero protocols k (Message m) = one_rises (k ∷ [], m)
item_rises zero protocols k (Reference r) = λ i j d less within. absurd (omega (arith, within))
item_rises (suc n) protocols k (Message m) = one_rises (k ∷ [], m)
item_rises (suc n) protocols k (Reference r) =
    elim (protocol_of protocols r.protocol.text) as (λ (o : Option Declaration). AllPairs Below (flat_map (λ s. map (from_position k) (ends_of n protocols s.target)) (option_map_or (λ q. step_by k r q ∷ []) o []))) [
      | None ↦ λ i j d less within. absurd (omega (arith, within))
      | Some q ↦
          let inner : AllPairs Below (ends_of n protocols q) = items_rise n protocols (item_rises n protocols) 1 q.body in
          subst (AllPairs Below) (sym (append-nil (map (from_position k) (ends_of n protocols q))))
          (mapped_pairs Below (from_position k) (ends_of n protocols q) (λ i j d less within. inr (refl, inner i j d less within)))
    ]

-- the list of messages is complete
pub messages_listed : (n : ℕ) (protocols : List Declaration) (top : Declaration) → IsWithinDepth protocols top n → ListsMessages protocols top (message_paths n protocols top)
messages_listed n protocols top within = record {
  ends = ends_of n protocols top;
  each = zip_gathered (HasPositions protocols top) (ends_at n protocols) (item_messages n protocols) (numbered_items top) (numbered_all (λ i. AllZip (HasPositions protocols top) (ends_at n protocols i) (item_messages n protocols i)) top (each_item n protocols top));
  exact = λ positions m. (
    (λ among. All-contains (Leads protocols top) (ends_of n protocols top) (positions, m) (ends_lead n protocols top) among),
    (λ leads. end_found n protocols top positions m within leads),
  );
  rising = items_rise n protocols (item_rises n protocols) 1 top.body;
}
