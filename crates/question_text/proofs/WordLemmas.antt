-- Each step adds its word to what has been read.
use Rattle.std.proofs.Common.{◌≡◌, ℕ, zero, suc, ◌+◌, Bool, true, false, List, [], ◌∷◌, ◌++◌, Option, Some, None, refl, sym, ap, ◌∙◌, append_assoc, codes, add-one}
use Rattle.std.specs.Prelude.{IfSome}
use Rattle.std.specs.List.{flat_map}
use Rattle.std.proofs.lemmas.List.{append-nil}
use Rattle.std.proofs.Math.Bool.{cond}
use Rattle.bspl_types.specs.Name.{is_name}
use Rattle.question_text.specs.declared.keyword.Keyword.{Keyword}
use Rattle.question_text.specs.declared.keyword.Keyword.TheVariants as keyword
use Rattle.question_text.specs.declared.part.Link.TheVariants as link
use Rattle.question_text.specs.declared.part.Place.{Place}
use Rattle.question_text.specs.declared.part.Place.TheVariants.{First, Second}
use Rattle.question_text.specs.declared.part.Verb.{Verb}
use Rattle.question_text.specs.declared.part.Verb.TheVariants as verb
use Rattle.question_text.specs.declared.tree.Said.{Said}
use Rattle.question_text.specs.declared.tree.Said.TheVariants as said
use Rattle.question_text.specs.inner.Keyword.{keyword_of}
use Rattle.question_text.specs.inner.Pending.{Awaiting, under_nots, with_conjunct, with_disjunct, term_with, question_with}
use Rattle.question_text.specs.inner.Piece.{Piece, Nothing, Linked, Verbed, Knowing, KnowingRole, Once, MayBe, Resting, ButFor, Whole, words_before, verb_word, said_of, placed}
use Rattle.question_text.specs.inner.Progress.{Progress, with_piece}
use Rattle.question_text.specs.inner.Step.{begin_said, after_factor, if_name, begin_factor, after_said, after_rest, step_from}
use Rattle.question_text.specs.Tree.{Phrase, Rest, Not, And, Or, Happened, Bracketed, words_of_phrase, words_of_said}
use Rattle.question_text.proofs.Keywords.{IsText, keyword_is}
use Rattle.question_text.proofs.ReadWords.{piece_words, joined_words, not_words, awaiting_words, words_around, progress_words}

-- one more `not`
not_more : (n : ℕ) → not_words (n + 1) ≡ not_words n ++ codes "not" ∷ []
not_more n = rw add-one (go n)
  where
    go : (n : ℕ) → codes "not" ∷ not_words n ≡ not_words n ++ codes "not" ∷ []
    go zero = refl
    go (suc n) = ap (λ ws. codes "not" ∷ ws) (go n)

-- the words of what a factor completes
pub nots_words : (n : ℕ) (q : Phrase) → words_of_phrase (under_nots n q) ≡ not_words n ++ words_of_phrase q
nots_words zero q = refl
nots_words (suc n) q = ap (λ ws. codes "not" ∷ ws) (nots_words n q)

conjunct_words : (c : Option Phrase) (q : Phrase) → words_of_phrase (with_conjunct c q) ≡ joined_words (codes "and") c ++ words_of_phrase q
conjunct_words None q = refl
conjunct_words (Some t) q = sym (append_assoc (words_of_phrase t) (codes "and" ∷ []) (words_of_phrase q))

disjunct_words : (d : Option Phrase) (q : Phrase) → words_of_phrase (with_disjunct d q) ≡ joined_words (codes "or") d ++ words_of_phrase q
disjunct_words None q = refl
disjunct_words (Some t) q = sym (append_assoc (words_of_phrase t) (codes "or" ∷ []) (words_of_phrase q))

pub term_words : (w : Awaiting) (q : Phrase) → words_of_phrase (term_with w q) ≡ joined_words (codes "and") w.conjunct ++ (not_words w.nots ++ words_of_phrase q)
term_words w q = conjunct_words w.conjunct (under_nots w.nots q) ∙ ap (λ ws. joined_words (codes "and") w.conjunct ++ ws) (nots_words w.nots q)

pub question_words : (w : Awaiting) (q : Phrase) → words_of_phrase (question_with w q) ≡ awaiting_words w ++ words_of_phrase q
question_words w q =
    disjunct_words w.disjunct (term_with w q) ∙ ap (λ ws. joined_words (codes "or") w.disjunct ++ ws) (term_words w q) ∙ simp append_assoc

-- what was read has the words of before, and then the word
abbrev Writes : Awaiting → List Awaiting → List (List ℕ) → List ℕ → Option Progress → Type 0
Writes w o before word result = IfSome result (λ r. progress_words r ≡ (words_around w o ++ before) ++ word ∷ [])

-- a piece that has one word more
piece_writes : (w : Awaiting) (o : List Awaiting) (before : List (List ℕ)) (word : List ℕ) (p : Option Piece) → IfSome p (λ p. piece_words p ≡ before ++ word ∷ []) → Writes w o before word (with_piece w o p)
piece_writes w o before word None h = tt
piece_writes w o before word (Some p) h = ap (λ ws. words_around w o ++ ws) h ∙ sym (append_assoc (words_around w o) before (word ∷ []))

-- the word after a factor
factor_writes : (w : Awaiting) (o : List Awaiting) (q : Phrase) (word : List ℕ) (k : Option Keyword) → IsText word k → Writes w o (words_of_phrase q) word (after_factor w o q k)
factor_writes w o q word (Some keyword.And) is = rw (is, term_words) (simp (append_assoc, append-nil))
factor_writes w o q word (Some keyword.Or) is = rw (is, question_words) (simp (append_assoc, append-nil))
factor_writes w [] q word (Some keyword.Close) is = tt
factor_writes w (v ∷ o) q word (Some keyword.Close) is = rw (is, question_words) (simp append_assoc)
factor_writes w o q word k is = tt

-- the first word of a happening
said_begins : (w : Awaiting) (o : List Awaiting) (place : Place) (word : List ℕ) (k : Option Keyword) → IsText word k → Writes w o (words_before place) word (with_piece w o (begin_said place k))
said_begins w o place word (Some keyword.Sent) is = piece_writes w o (words_before place) word (Some (Verbed place verb.Sent)) (rw is)
said_begins w o place word (Some keyword.Received) is = piece_writes w o (words_before place) word (Some (Verbed place verb.Received)) (rw is)
said_begins w o place word (Some keyword.Bound) is = piece_writes w o (words_before place) word (Some (Verbed place verb.Bound)) (rw is)
said_begins w o place word (Some keyword.Knows) is = piece_writes w o (words_before place) word (Some (Knowing place)) (rw is)
said_begins w o place word k is = tt

-- the first word of a factor
factor_begins : (w : Awaiting) (o : List Awaiting) (word : List ℕ) (k : Option Keyword) → IsText word k → Writes w o [] word (begin_factor w o k)
factor_begins w o word (Some keyword.Not) is = rw (is, not_more) (simp (append_assoc, append-nil))
factor_begins w o word (Some keyword.Open) is = rw is (simp (append_assoc, append-nil))
factor_begins w o word (Some keyword.Rest) is = piece_writes w o [] word (Some (Resting [])) (rw is)
factor_begins w o word (Some keyword.Can) is = piece_writes w o [] word (Some MayBe) (rw is)
factor_begins w o word k is = said_begins w o First word k is

-- the word after a happening
said_goes_on : (w : Awaiting) (o : List Awaiting) (h : Said) (word : List ℕ) (k : Option Keyword) → IsText word k → Writes w o (words_of_said h) word (after_said w o h k)
said_goes_on w o h word (Some keyword.Before) is = piece_writes w o (words_of_said h) word (Some (Linked link.Before h)) (rw is)
said_goes_on w o h word (Some keyword.After) is = piece_writes w o (words_of_said h) word (Some (Linked link.After h)) (rw is)
said_goes_on w o h word k is = factor_writes w o (Happened h) word k is

-- the word after `rest`
rest_goes_on : (w : Awaiting) (o : List Awaiting) (excused : List (List ℕ)) (word : List ℕ) (k : Option Keyword) → IsText word k → Writes w o (words_of_phrase (Rest excused)) word (after_rest w o excused k)
rest_goes_on w o excused word (Some keyword.But) is = piece_writes w o (words_of_phrase (Rest excused)) word (Some (ButFor excused)) (rw is)
rest_goes_on w o excused word k is = factor_writes w o (Rest excused) word k is

-- a name
name_writes : (w : Awaiting) (o : List Awaiting) (before : List (List ℕ)) (word : List ℕ) (p : Piece) → piece_words p ≡ before ++ word ∷ [] → Writes w o before word (with_piece w o (if_name word p))
name_writes w o before word p h = piece_writes w o before word (if_name word p) (go (is_name word))
  where
    go : (b : Bool) → IfSome (cond b (Some p) None) (λ p. piece_words p ≡ before ++ word ∷ [])
    go true = h
    go false = tt

-- the words of a happening at its place
placed_words : (place : Place) (h : Said) → piece_words (placed place h) ≡ words_before place ++ words_of_said h
placed_words First h = refl
placed_words (Second link.Before one) h = sym (append_assoc (words_of_said one) (codes "before" ∷ []) (words_of_said h))
placed_words (Second link.After one) h = sym (append_assoc (words_of_said one) (codes "after" ∷ []) (words_of_said h))

pub verb_words : (verb : Verb) (name : List ℕ) → words_of_said (said_of verb name) ≡ verb_word verb ∷ name ∷ []
verb_words verb.Sent name = refl
verb_words verb.Received name = refl
verb_words verb.Bound name = refl

-- the excused messages and a further one
pub rest_words : (excused : List (List ℕ)) (name : List ℕ) → words_of_phrase (Rest (excused ++ name ∷ [])) ≡ (words_of_phrase (Rest excused) ++ codes "but" ∷ []) ++ name ∷ []
rest_words excused name = ap (λ ws. codes "rest" ∷ ws) (go excused)
  where
    go : (ms : List (List ℕ)) → flat_map (λ m. codes "but" ∷ m ∷ []) (ms ++ name ∷ []) ≡ (flat_map (λ m. codes "but" ∷ m ∷ []) ms ++ codes "but" ∷ []) ++ name ∷ []
    go [] = refl
    go (m ∷ ms) = ap (λ ws. codes "but" ∷ m ∷ ws) (go ms)

-- each step adds its word
pub step_writes : (w : Awaiting) (o : List Awaiting) (p : Piece) (word : List ℕ) → Writes w o (piece_words p) word (step_from w o p word)
step_writes w o Nothing word = factor_begins w o word (keyword_of word) (keyword_is word)
step_writes w o (Linked link one) word = said_begins w o (Second link one) word (keyword_of word) (keyword_is word)
step_writes w o (Verbed place verb) word = name_writes w o _ word (placed place (said_of verb word)) (placed_words place (said_of verb word) ∙ rw verb_words (simp append_assoc))
step_writes w o (Knowing place) word = name_writes w o _ word (KnowingRole place word) (simp append_assoc)
step_writes w o (KnowingRole place role) word = name_writes w o _ word (placed place (said.Knows role word)) (placed_words place (said.Knows role word) ∙ simp append_assoc)
step_writes w o (Once h) word = said_goes_on w o h word (keyword_of word) (keyword_is word)
step_writes w o MayBe word = name_writes w o (codes "can" ∷ []) word (Whole (Rattle.question_text.specs.Tree.Can word)) refl
step_writes w o (Resting excused) word = rest_goes_on w o excused word (keyword_of word) (keyword_is word)
step_writes w o (ButFor excused) word = name_writes w o _ word (Resting (excused ++ word ∷ [])) (rest_words excused word)
step_writes w o (Whole q) word = factor_writes w o q word (keyword_of word) (keyword_is word)
