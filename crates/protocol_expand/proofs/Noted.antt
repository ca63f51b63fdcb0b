-- Words that are noted one after the other, until one has the name of another.
use Rattle.std.proofs.Common.{◌≡◌, ◌≢◌, Bool, true, false, cond, Result, Ok, Err, ℕ, ◌+◌, ◌<◌, List, [], ◌∷◌, ◌++◌, length, map, take, drop, get_or, refl, sym, ◌∙◌, ap, subst, arith, append_assoc, add-one}
use Rattle.std.specs.Prelude.{◌↔◌, IsTrue, IfOk, OnOk}
use Rattle.std.specs.List.{Contains, flat_map}
use Rattle.std.proofs.lemmas.Bool.{false≢true}
use Rattle.std.proofs.lemmas.List.{get_or-map, length-map, map-append, take-append-drop, take_more}
use Rattle.std.proofs.lemmas.List.Quantifiers.{all_pairs_push}
use Rattle.std.proofs.Math.Seq.{drop-cons}
use Rattle.list_base.specs.declared.memory.NoMemory.{NoMemory}
use Rattle.bspl_parser.specs.declared.document.Item.TheVariants.{Message}
use Rattle.bspl_parser.specs.declared.document.Schema.{Schema}
use Rattle.bspl_parser.specs.declared.word.Word.{Word}
use Rattle.protocol_names.specs.Names.{declared_word, texts}
use Rattle.protocol_expand.specs.inner.Flat.{AreNoted}
use Rattle.protocol_expand.specs.Repeats.{RepeatsFirst}

-- a word whose name is new is apart from the others
pub one_noted : (words : List Word) (w : Word) (names names' : List (List ℕ)) → AreNoted words names → ¬ Contains names w.text → names' ≡ names ++ w.text ∷ [] → AreNoted (words ++ w ∷ []) names'
one_noted words w names names' noted new is_names = record {
  in_order = is_names ∙ ap (λ ns. ns ++ w.text ∷ []) noted.in_order ∙ sym (map-append (λ (u : Word). u.text) words (w ∷ []));
  distinct = record {
    distinct = all_pairs_push (λ (u v : Word). u.text ≢ v.text) words w noted.distinct.distinct
        (λ k e within same. new (subst (λ ns. Contains ns w.text) (sym noted.in_order)
        (k, omega (arith, length-map words (λ (u : Word). u.text), within), get_or-map (λ (u : Word). u.text) words k e w.text within ∙ same)));
  };
}

-- what a table says of a name that is added
noted_or_not : (words : List Word) (w : Word) (names names' : List (List ℕ)) (known : Bool) → AreNoted words names → IsTrue known ↔ Contains names w.text → names' ≡ names ++ w.text ∷ [] → cond known (Contains (texts words) w.text) (AreNoted (words ++ w ∷ []) names')
noted_or_not words w names names' true noted tests is_names = subst (λ ns. Contains ns w.text) noted.in_order (tests.0 refl)
noted_or_not words w names names' false noted tests is_names = one_noted words w names names' noted (λ there. false≢true (tests.1 there)) is_names

-- the same of an answer
pub noted_answer : (words : List Word) (w : Word) (names names' : List (List ℕ)) (result : Result Bool NoMemory) → AreNoted words names → IfOk result (λ known. IsTrue known ↔ Contains names w.text) → OnOk result (names' ≡ names ++ w.text ∷ []) → IfOk result (λ known. cond known (Contains (texts words) w.text) (AreNoted (words ++ w ∷ []) names'))
noted_answer words w names names' (Ok known) noted tests is_names = noted_or_not words w names names' known noted tests is_names
noted_answer words w names names' (Err e) noted tests is_names = tt

-- an item of a list stands behind those before it
cut : {X : Type 0} (xs : List X) (i : ℕ) (x : X) → i < length xs → x ≡ get_or xs i x → xs ≡ take i xs ++ x ∷ drop (i + 1) xs
cut {X} xs i x within stands =
    let rest : drop i xs ≡ x ∷ drop (i + 1) xs = drop-cons xs i x within ∙ (λ j. sym stands j ∷ drop (sym (add-one i) j) xs) in
    sym (take-append-drop i xs) ∙ ap (λ (ys : List X). take i xs ++ ys) rest

-- a word whose name was noted is the first that is repeated
repeated_at : (words front back : List Word) (w : Word) (names : List (List ℕ)) → words ≡ front ++ w ∷ back → AreNoted front names → Contains (texts front) w.text → RepeatsFirst words w.offset
repeated_at words front back w names parts noted again = record { before = front; word = w; after = back; parts = parts; distinct = noted.distinct; repeats = again; located = refl }

-- the name of an item
pub item_repeated : {X : Type 0} (word : X → Word) (items : List X) (i : ℕ) (x : X) (names : List (List ℕ)) → i < length items → x ≡ get_or items i x →
    AreNoted (map word (take i items)) names → Contains (texts (map word (take i items))) (word x).text → RepeatsFirst (map word items) (word x).offset
item_repeated {X} word items i x names within stands noted again =
    repeated_at (map word items) (map word (take i items)) (map word (drop (i + 1) items)) (word x) names
    (ap (map word) (cut items i x within stands) ∙ map-append word (take i items) (x ∷ drop (i + 1) items))
    noted again

-- the names of a body are those of its messages
pub names_of_messages : (messages : List Schema) → flat_map declared_word (map Message messages) ≡ map (λ m. m.name) messages
names_of_messages [] = refl
names_of_messages (m ∷ ms) = ap (λ (ws : List Word). m.name ∷ ws) (names_of_messages ms)

-- a name that is repeated is so before more words
pub still_repeated : (words more : List Word) (offset : ℕ) → RepeatsFirst words offset → RepeatsFirst (words ++ more) offset
still_repeated words more offset is = record {
  before = is.before;
  word = is.word;
  after = is.after ++ more;
  parts = ap (λ (ws : List Word). ws ++ more) is.parts ∙ append_assoc is.before (is.word ∷ is.after) more;
  distinct = is.distinct;
  repeats = is.repeats;
  located = is.located;
}

-- the name of a private parameter
pub private_repeated : (front private : List Word) (i : ℕ) (w : Word) (names : List (List ℕ)) → i < length private → w ≡ get_or private i w →
    AreNoted (front ++ take i private) names → Contains (texts (front ++ take i private)) w.text → RepeatsFirst (front ++ private) w.offset
private_repeated front private i w names within stands noted again =
    repeated_at (front ++ private) (front ++ take i private) (drop (i + 1) private) w names
    (ap (λ (ws : List Word). front ++ ws) (cut private i w within stands) ∙ sym (append_assoc front (take i private) (w ∷ drop (i + 1) private)))
    noted again

-- one word more is noted
pub noted_more : (front private : List Word) (i : ℕ) (w : Word) (names : List (List ℕ)) → i < length private → w ≡ get_or private i w →
    AreNoted ((front ++ take i private) ++ w ∷ []) names → AreNoted (front ++ take (i + 1) private) names
noted_more front private i w names within stands noted =
    let further : take (i + 1) private ≡ take i private ++ w ∷ [] = take_more private i w within ∙ (λ j. take i private ++ sym stands j ∷ []) in
    subst (λ (ws : List Word). AreNoted ws names) (append_assoc front (take i private) (w ∷ []) ∙ ap (λ (ws : List Word). front ++ ws) (sym further)) noted
