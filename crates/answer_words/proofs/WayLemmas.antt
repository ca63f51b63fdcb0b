-- How the way to a message follows from the items of a body.
use Rattle.std.proofs.Common.{◌≡◌, ◌≢◌, ◌∙◌, ℕ, zero, suc, ◌+◌, ◌-◌, ◌<◌, ◌≤◌, List, [], ◌∷◌, ◌++◌, length, get_or, drop, take, map, Option, Some, None, Bool, true, false, cond, refl, sym, ap, add-one, drop-cons, arith}
use Rattle.std.specs.List.{enumerate_from, find, flat_map}
use Rattle.std.specs.Option.{is_some, option_map, option_map_or, option_or}
use Rattle.std.specs.Str.{bytes_eq}
use Rattle.std.proofs.lemmas.Bool.{false≢true}
use Rattle.std.proofs.lemmas.List.{append-nil, drop_all, take_more}
use Rattle.std.proofs.lemmas.List.Concat.{flat_map-append}
use Rattle.std.proofs.lemmas.List.Folds.{find-append}
use Rattle.std.proofs.lemmas.List.FromFn.{get_or-enumerate_from, length-enumerate_from}
use Rattle.std.proofs.lemmas.Option.{none-some}
use Rattle.std.proofs.lemmas.Slice.Eq.{bytes_eq-Decides}
use Rattle.bspl_parser.specs.declared.document.Declaration.{Declaration}
use Rattle.bspl_parser.specs.declared.document.Item.{Item}
use Rattle.bspl_parser.specs.declared.document.Item.TheVariants.{Message, Reference}
use Rattle.bspl_parser.specs.declared.document.Reference.{Reference as SpecReference}
use Rattle.bspl_parser.specs.declared.document.Schema.{Schema}
use Rattle.protocol_names.specs.Names.{protocol_of}
use Rattle.protocol_paths.specs.Path.{Step, item_messages, message_paths, through}
use Rattle.protocol_paths.specs.Prefix.{numbered_name}
use Rattle.answer_words.specs.Ways.{name_through, offsets_of, way_to}

-- what comes of the items so far, and of one more
pub flat_more : (f : ℕ → List ℕ) (xs : List ℕ) (i : ℕ) → i < length xs → flat_map f (take (i + 1) xs) ≡ flat_map f (take i xs) ++ f (get_or xs i 0)
flat_more f xs i within =
    ap (flat_map f) (take_more xs i 0 within)
    ∙ flat_map-append f (take i xs) (get_or xs i 0 ∷ [])
    ∙ ap (λ (more : List ℕ). flat_map f (take i xs) ++ more) (append-nil (f (get_or xs i 0)))

-- the end of a way has the name
abbrev pub is_way : List ℕ → List Step × Schema → Bool
is_way name way = bytes_eq (name_through way) name

-- the first way among those by these items
abbrev pub way_among : ℕ → List Declaration → List ℕ → List (ℕ × Item) → Option (List Step × Schema)
way_among n protocols name items = find (is_way name) (flat_map (item_messages n protocols) items)

-- the first way by one item
abbrev pub way_at : ℕ → List Declaration → List ℕ → ℕ → Item → Option (List Step × Schema)
way_at n protocols name position item = find (is_way name) (item_messages n protocols (position, item))

-- the items that are left begin with the next one
next_item : (xs : List Item) (i : ℕ) (x : Item) → i < length xs → x ≡ get_or xs i x → drop i (enumerate_from 1 xs) ≡ (i + 1, x) ∷ drop (i + 1) (enumerate_from 1 xs)
next_item xs i x within is =
    let all : List (ℕ × Item) = enumerate_from 1 xs in
    let inside : i < length all = omega (arith, within, length-enumerate_from 1 xs) in
    let counted : 1 + i ≡ i + 1 = omega arith in
    let at : get_or all i (i + 1, x) ≡ (i + 1, x) =
    get_or-enumerate_from 1 xs i (i + 1, x) within ∙ ap {B = ℕ × Item} (λ n. (n, get_or xs i x)) counted ∙ ap {B = ℕ × Item} (λ y. (i + 1, y)) (sym is) in
    drop-cons all i (i + 1, x) inside ∙ ap (λ (y : ℕ × Item). y ∷ drop (suc i) all) at ∙ ap (λ (k : ℕ). (i + 1, x) ∷ drop k all) (sym (add-one i))

-- the first way by the items that are left is one by the next, or by those after it
open_way : (n : ℕ) (protocols : List Declaration) (name : List ℕ) (xs : List Item) (i : ℕ) (x : Item) → i < length xs → x ≡ get_or xs i x → way_among n protocols name (drop i (enumerate_from 1 xs)) ≡ option_or (way_at n protocols name (i + 1) x) (way_among n protocols name (drop (i + 1) (enumerate_from 1 xs)))
open_way n protocols name xs i x within is =
    ap (way_among n protocols name) (next_item xs i x within is) ∙ find-append (is_way name) (item_messages n protocols (i + 1, x)) (flat_map (item_messages n protocols) (drop (i + 1) (enumerate_from 1 xs)))

-- what is nothing after a map is nothing before it
unmapped : {X Y : Type 0} (f : X → Y) (o : Option X) (got : Option Y) → got ≡ option_map f o → got ≡ None → o ≡ None
unmapped f None got same none = refl
unmapped f (Some x) got same none = absurd (none-some (f x) (sym none ∙ same))

-- whether there is an answer
pub some_is : {X : Type 0} (o : Option X) → is_some o ≡ true → o ≢ None
some_is o is = λ none. false≢true (sym (ap is_some none) ∙ is)

pub none_is : {X : Type 0} (o : Option X) → is_some o ≡ false → o ≡ None
none_is None is = refl
none_is (Some x) is = absurd (false≢true (sym is))

-- by the next item there is no way
pub way_not_there : (n : ℕ) (protocols : List Declaration) (name : List ℕ) (xs : List Item) (i : ℕ) (x : Item) (got : Option (List ℕ)) (all : Option (List Step × Schema)) → i < length xs → x ≡ get_or xs i x → got ≡ option_map offsets_of (way_at n protocols name (i + 1) x) → got ≡ None → way_among n protocols name (drop i (enumerate_from 1 xs)) ≡ all → way_among n protocols name (drop (i + 1) (enumerate_from 1 xs)) ≡ all
way_not_there n protocols name xs i x got all within is same none so_far =
    let missing = unmapped offsets_of (way_at n protocols name (i + 1) x) got same none in
    ap (λ (o : Option (List Step × Schema)). option_or o (way_among n protocols name (drop (i + 1) (enumerate_from 1 xs)))) (sym missing) ∙ sym (open_way n protocols name xs i x within is) ∙ so_far

-- by the next item there is one
pub way_there : (n : ℕ) (protocols : List Declaration) (name : List ℕ) (xs : List Item) (i : ℕ) (x : Item) (got : Option (List ℕ)) (all : Option (List Step × Schema)) → i < length xs → x ≡ get_or xs i x → got ≡ option_map offsets_of (way_at n protocols name (i + 1) x) → got ≢ None → way_among n protocols name (drop i (enumerate_from 1 xs)) ≡ all → got ≡ option_map offsets_of all
way_there n protocols name xs i x got all within is same some so_far =
    same ∙ ap (option_map offsets_of) (sym (kept (way_at n protocols name (i + 1) x) (way_among n protocols name (drop (i + 1) (enumerate_from 1 xs))) (λ none. some (same ∙ ap (option_map offsets_of) none))) ∙ sym (open_way n protocols name xs i x within is) ∙ so_far)
  where
    kept : {X : Type 0} (o other : Option X) → o ≢ None → option_or o other ≡ o
    kept None other is = absurd (is refl)
    kept (Some x) other is = refl

-- nothing is left
pub way_nowhere : (n : ℕ) (protocols : List Declaration) (name : List ℕ) (xs : List Item) (i : ℕ) (all : Option (List Step × Schema)) → length xs ≤ i → way_among n protocols name (drop i (enumerate_from 1 xs)) ≡ all → None ≡ option_map offsets_of all
way_nowhere n protocols name xs i all past so_far =
    let past' : length (enumerate_from 1 xs) ≤ i = omega (arith, past, length-enumerate_from 1 xs) in
    ap (option_map offsets_of) (ap (way_among n protocols name) (sym (drop_all i (enumerate_from 1 xs) past')) ∙ so_far)

-- the way to a message is none but itself
pub own_message : (n : ℕ) (protocols : List Declaration) (position : ℕ) (m : Schema) → item_messages n protocols (position, Message m) ≡ ([], m) ∷ []
own_message zero protocols position m = refl
own_message (suc n) protocols position m = refl

-- by no reference there is no way
pub no_reference : (n : ℕ) (protocols : List Declaration) (position : ℕ) (r : SpecReference) → n ≡ 0 → item_messages n protocols (position, Reference r) ≡ []
no_reference n protocols position r none = ap (λ (k : ℕ). item_messages k protocols (position, Reference r)) none

-- the step by a reference to a protocol
abbrev pub step_by : ℕ → SpecReference → Declaration → Step
step_by position r q = record { position = position; reference = r; target = q }

-- nor by one to a protocol that is not declared
pub no_target : (n : ℕ) (protocols : List Declaration) (position : ℕ) (r : SpecReference) → protocol_of protocols r.protocol.text ≡ None → item_messages n protocols (position, Reference r) ≡ []
no_target zero protocols position r missing = refl
no_target (suc n) protocols position r missing =
    ap (λ (o : Option Declaration). flat_map (λ s. map (through s) (message_paths n protocols s.target)) (option_map_or (λ q. step_by position r q ∷ []) o [])) missing

-- the messages through a reference
messages_through : (n : ℕ) (protocols : List Declaration) (position : ℕ) (r : SpecReference) (q : Declaration) → 0 < n → protocol_of protocols r.protocol.text ≡ Some q → item_messages n protocols (position, Reference r) ≡ map (through (step_by position r q)) (message_paths (n - 1) protocols q)
messages_through zero protocols position r q some found = absurd (omega (arith, some))
messages_through (suc n) protocols position r q some found =
    let less : n ≡ suc n - 1 = omega arith in
    ap (λ (o : Option Declaration). flat_map (λ s. map (through s) (message_paths n protocols s.target)) (option_map_or (λ q. step_by position r q ∷ []) o [])) found
    ∙ append-nil (map (through (step_by position r q)) (message_paths n protocols q))
    ∙ ap (λ m. map (through (step_by position r q)) (message_paths m protocols q)) less

-- equal bytes at the beginning of both count for nothing
same_prefix : (prefix one other : List ℕ) → bytes_eq (prefix ++ one) (prefix ++ other) ≡ bytes_eq one other
same_prefix [] one other = refl
same_prefix (b ∷ prefix) one other = grind (arith, same_prefix prefix one other)

-- the first way through the step with a name that begins with its prefix
find_through : (s : Step) (rest : List ℕ) (ways : List (List Step × Schema)) → find (is_way (numbered_name s.target.name.text s.position ++ rest)) (map (through s) ways) ≡ option_map (through s) (find (is_way rest) ways)
find_through s rest [] = refl
find_through s rest (way ∷ ways) =
    let prefix = numbered_name s.target.name.text s.position in
    let found : Option (List Step × Schema) = option_map (through s) (find (is_way rest) ways) in
    ap (λ (is : Bool). cond is (Some (through s way)) (find (is_way (prefix ++ rest)) (map (through s) ways))) (same_prefix prefix (name_through way) rest)
    ∙ ap (λ (o : Option (List Step × Schema)). cond (is_way rest way) (Some (through s way)) o) (find_through s rest ways)
    ∙ pushed (is_way rest way) way (find (is_way rest) ways)
  where
    pushed : (is : Bool) (way : List Step × Schema) (other : Option (List Step × Schema)) → cond is (Some (through s way)) (option_map (through s) other) ≡ option_map (through s) (cond is (Some way) other)
    pushed true way other = refl
    pushed false way other = refl

-- no way through the step has a name that does not begin with its prefix
find_astray : (s : Step) (name : List ℕ) (ways : List (List Step × Schema)) → ((rest : List ℕ) → name ≢ numbered_name s.target.name.text s.position ++ rest) → find (is_way name) (map (through s) ways) ≡ None
find_astray s name [] other = refl
find_astray s name (way ∷ ways) other =
    (elim (is_way name (through s way)) as (λ is. is_way name (through s way) ≡ is → cond is (Some (through s way)) (find (is_way name) (map (through s) ways)) ≡ None) [
      | true ↦ λ same. absurd (other (name_through way) (sym ((bytes_eq-Decides (name_through (through s way)) name).0 same)))
      | false ↦ λ _. find_astray s name ways other
    ]) refl

-- the offsets through a step end with that of its reference
offsets_through : (s : Step) (o : Option (List Step × Schema)) → option_map offsets_of (option_map (through s) o) ≡ option_map (λ offsets. offsets ++ s.reference.protocol.offset ∷ []) (option_map offsets_of o)
offsets_through s None = refl
offsets_through s (Some way) = refl

-- the way by a reference is that in its protocol, and then the reference
pub way_through : (n : ℕ) (protocols : List Declaration) (name rest : List ℕ) (position : ℕ) (r : SpecReference) (q : Declaration) (i : Item) (inner : Option (List ℕ)) → i ≡ Reference r → 0 < n → protocol_of protocols r.protocol.text ≡ Some q → name ≡ numbered_name q.name.text position ++ rest → inner ≡ option_map offsets_of (way_to (n - 1) protocols q rest) → option_map (λ offsets. offsets ++ r.protocol.offset ∷ []) inner ≡ option_map offsets_of (way_at n protocols name position i)
way_through n protocols name rest position r q i inner is some found begins same =
    let s = step_by position r q in
    ap (option_map (λ offsets. offsets ++ r.protocol.offset ∷ [])) same
    ∙ sym (offsets_through s (way_to (n - 1) protocols q rest))
    ∙ ap (option_map offsets_of)
    (sym (ap (λ (j : Item). way_at n protocols name position j) is
    ∙ ap (find (is_way name)) (messages_through n protocols position r q some found)
    ∙ ap (λ (t : List ℕ). find (is_way t) (map (through s) (message_paths (n - 1) protocols q))) begins
    ∙ find_through s rest (message_paths (n - 1) protocols q)))

-- there is none where the name does not begin with the prefix
pub way_astray : (n : ℕ) (protocols : List Declaration) (name : List ℕ) (position : ℕ) (r : SpecReference) (q : Declaration) (i : Item) → i ≡ Reference r → 0 < n → protocol_of protocols r.protocol.text ≡ Some q → ((rest : List ℕ) → name ≢ numbered_name q.name.text position ++ rest) → None ≡ option_map offsets_of (way_at n protocols name position i)
way_astray n protocols name position r q i is some found other =
    ap (option_map offsets_of)
    (sym (ap (λ (j : Item). way_at n protocols name position j) is
    ∙ ap (find (is_way name)) (messages_through n protocols position r q some found)
    ∙ find_astray (step_by position r q) name (message_paths (n - 1) protocols q) other))

-- nor by a reference that is not followed
pub way_cut : (n : ℕ) (protocols : List Declaration) (name : List ℕ) (position : ℕ) (r : SpecReference) (i : Item) → i ≡ Reference r → n ≡ 0 → None ≡ option_map offsets_of (way_at n protocols name position i)
way_cut n protocols name position r i is none =
    ap (option_map offsets_of) (sym (ap (λ (j : Item). way_at n protocols name position j) is ∙ ap (find (is_way name)) (no_reference n protocols position r none)))

pub way_missing : (n : ℕ) (protocols : List Declaration) (name : List ℕ) (position : ℕ) (r : SpecReference) (i : Item) → i ≡ Reference r → protocol_of protocols r.protocol.text ≡ None → None ≡ option_map offsets_of (way_at n protocols name position i)
way_missing n protocols name position r i is missing =
    ap (option_map offsets_of) (sym (ap (λ (j : Item). way_at n protocols name position j) is ∙ ap (find (is_way name)) (no_target n protocols position r missing)))

-- the way to a message of the body
pub way_of_message : (n : ℕ) (protocols : List Declaration) (name : List ℕ) (position : ℕ) (m : Schema) (i : Item) (got : Option (List ℕ)) → i ≡ Message m → got ≡ option_map offsets_of (find (is_way name) (([], m) ∷ [])) → got ≡ option_map offsets_of (way_at n protocols name position i)
way_of_message n protocols name position m i got is same =
    same ∙ ap (option_map offsets_of) (sym (ap (λ (j : Item). way_at n protocols name position j) is ∙ ap (find (is_way name)) (own_message n protocols position m)))
