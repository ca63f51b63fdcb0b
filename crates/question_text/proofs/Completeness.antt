-- The words of each question are read as that question.
use Rattle.std.proofs.Common.{◌≡◌, ℕ, zero, suc, ◌+◌, List, [], ◌∷◌, ◌++◌, Option, Some, None, refl, sym, ap, ◌∙◌, append_assoc, codes, add-one, arith}
use Rattle.std.specs.List.{All, flat_map}
use Rattle.std.proofs.lemmas.List.{append-nil}
use Rattle.question_text.specs.declared.part.Link.{Link}
use Rattle.question_text.specs.declared.part.Link.TheVariants as link
use Rattle.question_text.specs.declared.part.Place.TheVariants.{First, Second}
use Rattle.question_text.specs.declared.tree.Said.{Said}
use Rattle.question_text.specs.declared.tree.Said.TheVariants as said
use Rattle.question_text.specs.inner.Pending.{Awaiting, nothing_awaits, under_nots, with_conjunct, with_disjunct, term_with, question_with}
use Rattle.question_text.specs.inner.Piece.{Piece, Nothing, Linked, KnowingRole, Once, Resting, Whole, factor_of, linked}
use Rattle.question_text.specs.inner.Progress.{Progress, at_start, whole_from, whole_question, with_piece}
use Rattle.question_text.specs.inner.Step.{after_factor, step_from, if_name}
use Rattle.question_text.specs.declared.keyword.Keyword.TheVariants as keyword
use Rattle.question_text.specs.Levels.{Level, HasLevel, HasNames, IsName, QuestionLevel, TermLevel, FactorLevel, TakesOr}
use Rattle.question_text.specs.Tree.{Phrase, Happened, Before, After, Can, Rest, Not, And, Or, Bracketed, words_of_phrase, words_of_said}
use Rattle.question_text.proofs.Steps.{step_on, steps, steps-append}

-- a piece, with what waits
abbrev read_so : Piece → Awaiting → List Awaiting → Option Progress
read_so p w o = Some (record { piece = p; inside = w; outside = o })

-- a name is read
named : (w : Awaiting) (o : List Awaiting) (p : Piece) (word : List ℕ) → IsName word → with_piece w o (if_name word p) ≡ read_so p w o
named w o p word n = rw n

-- a happening is read at its place
first_read : (h : Said) (w : Awaiting) (o : List Awaiting) → HasNames h → steps (read_so Nothing w o) (words_of_said h) ≡ read_so (Once h) w o
first_read (said.Sent m) w o n = named w o (Once (said.Sent m)) m n
first_read (said.Received m) w o n = named w o (Once (said.Received m)) m n
first_read (said.Bound p) w o n = named w o (Once (said.Bound p)) p n
first_read (said.Knows r p) w o n =
    ap (λ s. step_on s p) (named w o (KnowingRole First r) r n.0) ∙ named w o (Once (said.Knows r p)) p n.1

second_read : (l : Link) (one h : Said) (w : Awaiting) (o : List Awaiting) → HasNames h → steps (read_so (Linked l one) w o) (words_of_said h) ≡ read_so (Whole (linked l one h)) w o
second_read l one (said.Sent m) w o n = named w o (Whole (linked l one (said.Sent m))) m n
second_read l one (said.Received m) w o n = named w o (Whole (linked l one (said.Received m))) m n
second_read l one (said.Bound p) w o n = named w o (Whole (linked l one (said.Bound p))) p n
second_read l one (said.Knows r p) w o n =
    ap (λ s. step_on s p) (named w o (KnowingRole (Second l one) r) r n.0) ∙ named w o (Whole (linked l one (said.Knows r p))) p n.1

-- excused messages are read
excused_read : (done more : List (List ℕ)) (w : Awaiting) (o : List Awaiting) → All IsName more → steps (read_so (Resting done) w o) (flat_map (λ m. codes "but" ∷ m ∷ []) more) ≡ read_so (Resting (done ++ more)) w o
excused_read done [] w o n = ap (λ ms. read_so (Resting ms) w o) (sym (append-nil done))
excused_read done (m ∷ more) w o n =
    let head : IsName m = n 0 m (omega arith) in
    let rest : All IsName more = λ k d lt. n (suc k) d (omega arith) in
    ap (λ s. steps s (flat_map (λ m. codes "but" ∷ m ∷ []) more)) (named w o (Resting (done ++ m ∷ [])) m head)
    ∙ excused_read (done ++ m ∷ []) more w o rest
    ∙ ap (λ ms. read_so (Resting ms) w o) (append_assoc done (m ∷ []) more)

-- what waits where a question, a term or a factor begins
abbrev begins_at : Level → Awaiting → Awaiting
begins_at QuestionLevel w = nothing_awaits
begins_at TermLevel w = record { disjunct = w.disjunct; conjunct = None; nots = 0 }
begins_at FactorLevel w = w

-- what has been read ends in a factor, which completes the phrase
record EndsIn (level : Level) (w : Awaiting) (o : List Awaiting) (q : Phrase) (result : Option Progress) : Type 0 where
  piece : Piece
  inside : Awaiting
  is : result ≡ read_so piece inside o
  factor : Phrase
  whole : factor_of piece ≡ Some factor
  question : question_with inside factor ≡ question_with w q
  disjunct : ¬ TakesOr level → inside.disjunct ≡ w.disjunct
  term : ¬ TakesOr level → term_with inside factor ≡ term_with w q

-- after a factor a word joins it to what follows, or closes the brackets
joined : (p : Piece) (q : Phrase) (w : Awaiting) (o : List Awaiting) → factor_of p ≡ Some q → (step_from w o p (codes "and") ≡ after_factor w o q (Some keyword.And)) × (step_from w o p (codes "or") ≡ after_factor w o q (Some keyword.Or)) × (step_from w o p (codes ")") ≡ after_factor w o q (Some keyword.Close))
joined (Once h) q w o is =
    let e : Happened h ≡ q = cc in
    (ap (λ f. after_factor w o f (Some keyword.And)) e, ap (λ f. after_factor w o f (Some keyword.Or)) e, ap (λ f. after_factor w o f (Some keyword.Close)) e)
joined (Resting excused) q w o is =
    let e : Rest excused ≡ q = cc in
    (ap (λ f. after_factor w o f (Some keyword.And)) e, ap (λ f. after_factor w o f (Some keyword.Or)) e, ap (λ f. after_factor w o f (Some keyword.Close)) e)
joined (Whole f) q w o is =
    let e : f ≡ q = cc in
    (ap (λ f. after_factor w o f (Some keyword.And)) e, ap (λ f. after_factor w o f (Some keyword.Or)) e, ap (λ f. after_factor w o f (Some keyword.Close)) e)
joined p q w o is = absurd cc

-- one `not` more is one around the factor
nots_around : (n : ℕ) (q : Phrase) → under_nots (n + 1) q ≡ under_nots n (Not q)
nots_around n q = rw add-one (go n)
  where
    go : (n : ℕ) → Not (under_nots n q) ≡ under_nots n (Not q)
    go zero = refl
    go (suc n) = ap Not (go n)

-- a whole factor
ends_whole : (level : Level) (w : Awaiting) (o : List Awaiting) (q : Phrase) (p : Piece) (result : Option Progress) → factor_of p ≡ Some q → result ≡ read_so p w o → EndsIn level w o q result
ends_whole level w o q p result whole is =
    record { piece = p; inside = w; is = is; factor = q; whole = whole; question = refl; disjunct = λ _. refl; term = λ _. refl }

-- two happenings
linked_read : (l : Link) (word : List ℕ) (one other : Said) (w : Awaiting) (o : List Awaiting) → step_from w o (Once one) word ≡ read_so (Linked l one) w o → HasNames one → HasNames other → steps (read_so Nothing w o) (words_of_said one ++ word ∷ words_of_said other) ≡ read_so (Whole (linked l one other)) w o
linked_read l word one other w o joins n m =
    steps-append (read_so Nothing w o) (words_of_said one) (word ∷ words_of_said other)
    ∙ ap (λ r. steps (step_on r word) (words_of_said other)) (first_read one w o n)
    ∙ ap (λ r. steps r (words_of_said other)) joins
    ∙ second_read l one other w o m

-- a term or a factor is no question that a further `or` follows
not_or : ¬ TakesOr TermLevel
not_or h = h

-- two operands of `and`
and_read : (q r : Phrase) (w : Awaiting) (o : List Awaiting) → EndsIn TermLevel (begins_at TermLevel w) o q (steps (read_so Nothing (begins_at TermLevel w) o) (words_of_phrase q)) → ((v : Awaiting) → EndsIn FactorLevel v o r (steps (read_so Nothing v o) (words_of_phrase r))) → EndsIn TermLevel (begins_at TermLevel w) o (And q r) (steps (read_so Nothing (begins_at TermLevel w) o) (words_of_phrase (And q r)))
and_read q r w o left rights =
    let v : Awaiting = record { disjunct = left.inside.disjunct; conjunct = Some (term_with left.inside left.factor); nots = 0 } in
    let right = rights v in
    let term = ap (λ t. And t r) (left.term not_or) in
    record {
      piece = right.piece;
      inside = right.inside;
      is = steps-append (read_so Nothing (begins_at TermLevel w) o) (words_of_phrase q) (codes "and" ∷ words_of_phrase r)
          ∙ ap (λ s. steps (step_on s (codes "and")) (words_of_phrase r)) left.is
          ∙ ap (λ s. steps s (words_of_phrase r)) (joined left.piece left.factor left.inside o left.whole).0
          ∙ right.is;
      factor = right.factor;
      whole = right.whole;
      question = right.question ∙ ap (with_disjunct left.inside.disjunct) term ∙ ap (λ d. with_disjunct d (And q r)) (left.disjunct not_or);
      disjunct = λ no. right.disjunct not_or ∙ left.disjunct not_or;
      term = λ no. right.term not_or ∙ term;
    }

-- what ends in a term ends in a question
as_question : (w : Awaiting) (o : List Awaiting) (q : Phrase) (result : Option Progress) → EndsIn TermLevel w o q result → EndsIn QuestionLevel w o q result
as_question w o q result e =
    record {
      piece = e.piece;
      inside = e.inside;
      is = e.is;
      factor = e.factor;
      whole = e.whole;
      question = e.question;
      disjunct = λ no. absurd (no tt);
      term = λ no. absurd (no tt);
    }

-- the words of each phrase are read as it
phrase_read : (q : Phrase) (level : Level) (w : Awaiting) (o : List Awaiting) → HasLevel level q → EndsIn level (begins_at level w) o q (steps (read_so Nothing (begins_at level w) o) (words_of_phrase q))
phrase_read (Happened h) level w o f = ends_whole level (begins_at level w) o (Happened h) (Once h) _ refl (first_read h (begins_at level w) o f)
phrase_read (Before one other) level w o f =
    ends_whole level (begins_at level w) o (Before one other) (Whole (Before one other)) _ refl (linked_read link.Before (codes "before") one other (begins_at level w) o refl f.0 f.1)
phrase_read (After one other) level w o f =
    ends_whole level (begins_at level w) o (After one other) (Whole (After one other)) _ refl (linked_read link.After (codes "after") one other (begins_at level w) o refl f.0 f.1)
phrase_read (Can m) level w o f = ends_whole level (begins_at level w) o (Can m) (Whole (Can m)) _ refl (named (begins_at level w) o (Whole (Can m)) m f)
phrase_read (Rest excused) level w o f = ends_whole level (begins_at level w) o (Rest excused) (Resting excused) _ refl (excused_read [] excused (begins_at level w) o f)
phrase_read (Not q) level w o f =
    let s : Awaiting = begins_at level w in
    let inner = phrase_read q FactorLevel (record s { nots = s.nots + 1 }) o f in
    let around = ap (with_conjunct s.conjunct) (nots_around s.nots q) in
    record {
      piece = inner.piece;
      inside = inner.inside;
      is = inner.is;
      factor = inner.factor;
      whole = inner.whole;
      question = inner.question ∙ ap (with_disjunct s.disjunct) around;
      disjunct = λ no. inner.disjunct not_or;
      term = λ no. inner.term not_or ∙ around;
    }
phrase_read (And q r) QuestionLevel w o f =
    as_question nothing_awaits o (And q r) _ (and_read q r nothing_awaits o (phrase_read q TermLevel nothing_awaits o f.1) (λ v. phrase_read r FactorLevel v o f.2))
phrase_read (And q r) TermLevel w o f = and_read q r w o (phrase_read q TermLevel w o f.1) (λ v. phrase_read r FactorLevel v o f.2)
phrase_read (And q r) FactorLevel w o f = absurd f.0
phrase_read (Or q r) QuestionLevel w o f =
    let left = phrase_read q QuestionLevel w o f.1 in
    let v : Awaiting = record { disjunct = Some (question_with left.inside left.factor); conjunct = None; nots = 0 } in
    let right = phrase_read r TermLevel v o f.2 in
    record {
      piece = right.piece;
      inside = right.inside;
      is = steps-append (read_so Nothing nothing_awaits o) (words_of_phrase q) (codes "or" ∷ words_of_phrase r)
          ∙ ap (λ s. steps (step_on s (codes "or")) (words_of_phrase r)) left.is
          ∙ ap (λ s. steps s (words_of_phrase r)) (joined left.piece left.factor left.inside o left.whole).1
          ∙ right.is;
      factor = right.factor;
      whole = right.whole;
      question = right.question ∙ ap (λ t. Or t r) left.question;
      disjunct = λ no. absurd (no tt);
      term = λ no. absurd (no tt);
    }
phrase_read (Or q r) TermLevel w o f = absurd f.0
phrase_read (Or q r) FactorLevel w o f = absurd f.0
phrase_read (Bracketed q) level w o f =
    let s : Awaiting = begins_at level w in
    let inner = phrase_read q QuestionLevel w (s ∷ o) f in
    ends_whole level s o (Bracketed q) (Whole (Bracketed q)) _ refl
    (steps-append (read_so Nothing nothing_awaits (s ∷ o)) (words_of_phrase q) (codes ")" ∷ [])
    ∙ ap (λ r. step_on r (codes ")")) inner.is
    ∙ (joined inner.piece inner.factor inner.inside (s ∷ o) inner.whole).2
    ∙ ap (λ t. read_so (Whole (Bracketed t)) s o) inner.question)

-- all words of a question have been read
pub record ReadsAs (words : List (List ℕ)) (q : Phrase) : Type 0 where
  pub progress : Progress
  pub is : steps (Some at_start) words ≡ Some progress
  pub whole : whole_question progress ≡ Some q

-- the words of each question are read as it
pub question_read : (q : Phrase) → HasLevel QuestionLevel q → ReadsAs (words_of_phrase q) q
question_read q f =
    let e = phrase_read q QuestionLevel nothing_awaits [] f in
    record {
      progress = record { piece = e.piece; inside = e.inside; outside = [] };
      is = e.is;
      whole = ap (whole_from [] e.inside) e.whole ∙ ap Some e.question;
    }
