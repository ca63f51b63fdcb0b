-- Where longer paths lead to nothing, shorter ones do not either.
use Rattle.std.proofs.Common.{◌≡◌, ℕ, zero, suc, ◌≤◌, List, [], ◌∷◌, ◌++◌, map, refl, sym, ap, ◌∙◌, arith}
use Rattle.std.specs.List.{flat_map}
use Rattle.std.proofs.lemmas.List.Concat.{flat_map-append}
use Rattle.bspl_parser.specs.declared.document.Declaration.{Declaration}
use Rattle.bspl_parser.specs.declared.document.Item.{Item}
use Rattle.bspl_parser.specs.declared.document.Item.TheVariants.{Message, Reference}
use Rattle.bspl_parser.specs.declared.word.Word.{Word}
use Rattle.protocol_paths.specs.Path.{Step, through, end_of, item_messages, message_paths, numbered_items, paths, private_words, steps, steps_at}

-- both parts of nothing are nothing
pub parts_empty : {X : Type 0} (xs ys : List X) → xs ++ ys ≡ [] → (xs ≡ []) × (ys ≡ [])
parts_empty [] ys none = (refl, none)
parts_empty (x ∷ xs) ys none = cc

pub map_empty : {X Y : Type 0} (f : X → Y) (xs : List X) → map f xs ≡ [] → xs ≡ []
map_empty f [] none = refl
map_empty f (x ∷ xs) none = cc

-- nothing comes of any item, so nothing comes of any by another way either
pub flat_map_empty : {X Y Z : Type 0} (f : X → List Y) (g : X → List Z) → ((x : X) → f x ≡ [] → g x ≡ []) → (xs : List X) → flat_map f xs ≡ [] → flat_map g xs ≡ []
flat_map_empty f g to [] none = refl
flat_map_empty {X} {Y} {Z} f g to (x ∷ xs) none =
    let both = parts_empty (f x) (flat_map f xs) none in
    ap (λ (list : List Z). list ++ flat_map g xs) (to x both.0) ∙ flat_map_empty f g to xs both.1

-- a list of lists that are made in two stages
pub flat_map-flat_map : {X Y Z : Type 0} (f : Y → List Z) (g : X → List Y) (xs : List X) → flat_map f (flat_map g xs) ≡ flat_map (λ x. flat_map f (g x)) xs
flat_map-flat_map f g [] = refl
flat_map-flat_map {X} {Y} {Z} f g (x ∷ xs) = flat_map-append f (g x) (flat_map g xs) ∙ ap (λ (list : List Z). flat_map f (g x) ++ list) (flat_map-flat_map f g xs)

pub flat_map-map : {X Y Z : Type 0} (f : Y → List Z) (g : X → Y) (xs : List X) → flat_map f (map g xs) ≡ flat_map (λ x. f (g x)) xs
flat_map-map f g [] = refl
flat_map-map {X} {Y} {Z} f g (x ∷ xs) = ap (λ (list : List Z). f (g x) ++ list) (flat_map-map f g xs)

pub flat_map-same : {X Y : Type 0} (f g : X → List Y) → ((x : X) → f x ≡ g x) → (xs : List X) → flat_map f xs ≡ flat_map g xs
flat_map-same f g same [] = refl
flat_map-same f g same (x ∷ xs) = λ i. same x i ++ flat_map-same f g same xs i

-- fewer references lead to no more messages
fewer_after : (m n : ℕ) (protocols : List Declaration) (s : Step) → ((i : ℕ × Item) → item_messages n protocols i ≡ [] → item_messages m protocols i ≡ []) → map (through s) (message_paths n protocols s.target) ≡ [] → map (through s) (message_paths m protocols s.target) ≡ []
fewer_after m n protocols s fewer none = ap (map (through s)) (flat_map_empty (item_messages n protocols) (item_messages m protocols) fewer (numbered_items s.target) (map_empty (through s) (message_paths n protocols s.target) none))

fewer_items : (m n : ℕ) (protocols : List Declaration) (i : ℕ × Item) → m ≤ n → item_messages n protocols i ≡ [] → item_messages m protocols i ≡ []
fewer_items zero n protocols (position, Reference r) fewer none = refl
fewer_items zero zero protocols (position, Message m) fewer none = none
fewer_items zero (suc n) protocols (position, Message m) fewer none = none
fewer_items (suc m) zero protocols i fewer none = absurd (omega (arith, fewer))
fewer_items (suc m) (suc n) protocols (position, Message s) fewer none = none
fewer_items (suc m) (suc n) protocols (position, Reference r) fewer none =
    flat_map_empty (λ s. map (through s) (message_paths n protocols s.target)) (λ s. map (through s) (message_paths m protocols s.target)) (λ s. fewer_after m n protocols s (λ i. fewer_items m n protocols i (omega (arith, fewer)))) (steps_at protocols (position, Reference r)) none

pub fewer_messages : (m n : ℕ) (protocols : List Declaration) (p : Declaration) → m ≤ n → message_paths n protocols p ≡ [] → message_paths m protocols p ≡ []
fewer_messages m n protocols p fewer none = flat_map_empty (item_messages n protocols) (item_messages m protocols) (λ i. fewer_items m n protocols i fewer) (numbered_items p) none

-- the private parameters of a protocol, and those through its references
words_more : (n : ℕ) (protocols : List Declaration) (p : Declaration) → private_words (suc n) protocols p ≡ p.private ++ flat_map (λ s. private_words n protocols s.target) (steps protocols p)
words_more n protocols p = ap (λ (list : List Word). p.private ++ list) (
    flat_map-flat_map (λ path. (end_of p path).private) (λ s. map (λ path. s ∷ path) (paths n protocols s.target)) (steps protocols p)
    ∙ flat_map-same (λ s. flat_map (λ path. (end_of p path).private) (map (λ path. s ∷ path) (paths n protocols s.target))) (λ s. private_words n protocols s.target) (λ s. flat_map-map (λ path. (end_of p path).private) (λ path. s ∷ path) (paths n protocols s.target)) (steps protocols p))

-- fewer references lead to no more private parameters
pub fewer_words : (m n : ℕ) (protocols : List Declaration) (p : Declaration) → m ≤ n → private_words n protocols p ≡ [] → private_words m protocols p ≡ []
fewer_words zero zero protocols p fewer none = none
fewer_words zero (suc n) protocols p fewer none =
    let both = parts_empty p.private (flat_map (λ s. private_words n protocols s.target) (steps protocols p)) (sym (words_more n protocols p) ∙ none) in
    ap (λ (list : List Word). list ++ []) both.0
fewer_words (suc m) zero protocols p fewer none = absurd (omega (arith, fewer))
fewer_words (suc m) (suc n) protocols p fewer none =
    let both = parts_empty p.private (flat_map (λ s. private_words n protocols s.target) (steps protocols p)) (sym (words_more n protocols p) ∙ none) in
    words_more m protocols p
    ∙ ap (λ (list : List Word). list ++ flat_map (λ s. private_words m protocols s.target) (steps protocols p)) both.0
    ∙ flat_map_empty (λ s. private_words n protocols s.target) (λ s. private_words m protocols s.target) (λ s. fewer_words m n protocols s.target (omega (arith, fewer))) (steps protocols p) both.1
