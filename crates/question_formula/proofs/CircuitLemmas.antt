-- Lists of circuits and of conditions, as loops over them leave them.
use Rattle.std.proofs.Common.{◌≡◌, ℕ, ◌+◌, ◌<◌, ◌≤◌, Bool, true, false, cond, List, [], ◌∷◌, ◌++◌, length, map, take, get_or, refl, sym, ap, ◌∙◌, arith, append_assoc}
use Rattle.std.specs.List.{filter, range_with_len}
use Rattle.std.proofs.lemmas.List.{map-append, map-id, take_all, take_more}
use Rattle.std.proofs.lemmas.List.Elements.{filter-append}
use Rattle.std.proofs.lemmas.List.FromFn.{map-range_with_len_more}
use Rattle.circuit_clauses.specs.declared.circuit.Circuit.{Circuit}
use Rattle.circuit_clauses.specs.Condition.{Condition, Both, Either, condition_of}
use Rattle.question_formula.specs.Conditions.{all_of, some_of}

-- the last two of a conjunction are joined
all_joined : (cs : List Condition) (c d : Condition) → all_of (cs ++ c ∷ d ∷ []) ≡ all_of (cs ++ Both c d ∷ [])
all_joined [] c d = refl
all_joined (e ∷ []) c d = refl
all_joined (e ∷ f ∷ cs) c d = ap (Both e) (all_joined (f ∷ cs) c d)

-- and of a disjunction
some_joined : (cs : List Condition) (c d : Condition) → some_of (cs ++ c ∷ d ∷ []) ≡ some_of (cs ++ Either c d ∷ [])
some_joined [] c d = refl
some_joined (e ∷ []) c d = refl
some_joined (e ∷ f ∷ cs) c d = ap (Either e) (some_joined (f ∷ cs) c d)

-- the conditions of the circuits that are left, and of the one that was made of the others
abbrev pub with_made : List Circuit → Circuit → List Condition
with_made circuits made = map condition_of circuits ++ condition_of made ∷ []

-- the circuit that is taken next comes before what was made
taken_next : (old new : List Circuit) (circuit made : Circuit) → old ≡ new ++ circuit ∷ [] → with_made old made ≡ map condition_of new ++ condition_of circuit ∷ condition_of made ∷ []
taken_next old new circuit made taken =
    ap (λ (cs : List Circuit). with_made cs made) taken
    ∙ ap (λ (cs : List Condition). cs ++ condition_of made ∷ []) (map-append condition_of new (circuit ∷ []))
    ∙ append_assoc (map condition_of new) (condition_of circuit ∷ []) (condition_of made ∷ [])

pub all_next : (old new : List Circuit) (circuit made next : Circuit) → old ≡ new ++ circuit ∷ [] → condition_of next ≡ Both (condition_of circuit) (condition_of made) → all_of (with_made new next) ≡ all_of (with_made old made)
all_next old new circuit made next taken joined =
    ap (λ (c : Condition). all_of (map condition_of new ++ c ∷ [])) joined
    ∙ sym (all_joined (map condition_of new) (condition_of circuit) (condition_of made))
    ∙ sym (ap all_of (taken_next old new circuit made taken))

pub some_next : (old new : List Circuit) (circuit made next : Circuit) → old ≡ new ++ circuit ∷ [] → condition_of next ≡ Either (condition_of circuit) (condition_of made) → some_of (with_made new next) ≡ some_of (with_made old made)
some_next old new circuit made next taken joined =
    ap (λ (c : Condition). some_of (map condition_of new ++ c ∷ [])) joined
    ∙ sym (some_joined (map condition_of new) (condition_of circuit) (condition_of made))
    ∙ sym (ap some_of (taken_next old new circuit made taken))

-- the circuits of the first items, and of one more
pub item_more : {X : Type 0} (g : X → Condition) (old new : List Circuit) (c : Circuit) (xs : List X) (i : ℕ) (d : X) → i < length xs → map condition_of old ≡ map g (take i xs) → new ≡ old ++ c ∷ [] → condition_of c ≡ g (get_or xs i d) → map condition_of new ≡ map g (take (i + 1) xs)
item_more g old new c xs i d within so_far pushed is =
    ap (map condition_of) pushed ∙ map-append condition_of old (c ∷ [])
    ∙ ap (λ (cs : List Condition). cs ++ condition_of c ∷ []) so_far ∙ ap (λ (k : Condition). map g (take i xs) ++ k ∷ []) is
    ∙ sym (map-append g (take i xs) (get_or xs i d ∷ [])) ∙ sym (ap (map g) (take_more xs i d within))

-- at the end those of all
pub items_all : {X : Type 0} (g : X → Condition) (circuits : List Circuit) (xs : List X) (i : ℕ) → length xs ≤ i → map condition_of circuits ≡ map g (take i xs) → map condition_of circuits ≡ map g xs
items_all g circuits xs i past so_far = so_far ∙ ap (map g) (take_all i xs past)

-- the circuits of the first numbers, and of one more
pub number_more : (g : ℕ → Condition) (old new : List Circuit) (c : Circuit) (n : ℕ) → map condition_of old ≡ map g (range_with_len 0 n) → new ≡ old ++ c ∷ [] → condition_of c ≡ g n → map condition_of new ≡ map g (range_with_len 0 (n + 1))
number_more g old new c n so_far pushed is =
    ap (map condition_of) pushed ∙ map-append condition_of old (c ∷ [])
    ∙ ap (λ (cs : List Condition). cs ++ condition_of c ∷ []) so_far ∙ ap (λ (k : Condition). map g (range_with_len 0 n) ++ k ∷ []) is
    ∙ sym (map-range_with_len_more g 0 n n (omega arith))

-- the image of an item, if it is kept
image_if : {X A : Type 0} (f : X → A) (kept : Bool) (x : X) → map f (cond kept (x ∷ []) []) ≡ cond kept (f x ∷ []) []
image_if f true x = refl
image_if f false x = refl

-- the images of the first numbers that pass, and of one more
pub image_more : (p : ℕ → Bool) (f : ℕ → ℕ) (n : ℕ) → map f (filter p (range_with_len 0 (n + 1))) ≡ map f (filter p (range_with_len 0 n)) ++ cond (p n) (f n ∷ []) []
image_more p f n =
    let range : range_with_len 0 (n + 1) ≡ range_with_len 0 n ++ n ∷ [] =
    sym (map-id (range_with_len 0 (n + 1))) ∙ map-range_with_len_more (λ k. k) 0 n n (omega arith) ∙ ap (λ ks. ks ++ n ∷ []) (map-id (range_with_len 0 n)) in
    ap (λ ks. map f (filter p ks)) range ∙ ap (map f) (filter-append p (range_with_len 0 n) (n ∷ []))
    ∙ map-append f (filter p (range_with_len 0 n)) (filter p (n ∷ [])) ∙ ap (λ ks. map f (filter p (range_with_len 0 n)) ++ ks) (image_if f (p n) n)
