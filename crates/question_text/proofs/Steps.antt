-- What has been read after several words.
use Rattle.std.proofs.Common.{◌≡◌, ℕ, List, [], ◌∷◌, ◌++◌, Option, Some, None, refl, sym, ap, subst, ◌∙◌, append_assoc}
use Rattle.std.specs.Prelude.{IfSome}
use Rattle.std.proofs.lemmas.List.{append-nil}
use Rattle.question_text.specs.inner.Progress.{Progress, at_start}
use Rattle.question_text.specs.inner.Step.{step}
use Rattle.question_text.proofs.Forms.{Follows, step_follows}
use Rattle.question_text.proofs.ReadWords.{progress_words}
use Rattle.question_text.proofs.WordLemmas.{step_writes}

-- one more word
abbrev pub step_on : Option Progress → List ℕ → Option Progress
step_on None word = None
step_on (Some r) word = step r word

-- more words
abbrev pub steps : Option Progress → List (List ℕ) → Option Progress
steps r [] = r
steps r (word ∷ words) = steps (step_on r word) words

pub steps-append : (r : Option Progress) (a b : List (List ℕ)) → steps r (a ++ b) ≡ steps (steps r a) b
steps-append r [] b = refl
steps-append r (word ∷ a) b = steps-append (step_on r word) a b

-- nothing follows an error
pub steps_none : (words : List (List ℕ)) → steps None words ≡ None
steps_none [] = refl
steps_none (word ∷ words) = steps_none words

-- what has been read has these words, and follows the grammar
pub record HasRead (words : List (List ℕ)) (r : Progress) : Type 0 where
  pub written : progress_words r ≡ words
  pub follows : Follows r

-- one more word
reads_on : (r : Progress) (before : List (List ℕ)) (word : List ℕ) → HasRead before r → (next : Option Progress) → IfSome next (λ s. progress_words s ≡ progress_words r ++ word ∷ []) → IfSome next Follows → IfSome next (HasRead (before ++ word ∷ []))
reads_on r before word h None w f = tt
reads_on r before word h (Some s) w f = record { written = w ∙ ap (λ ws. ws ++ word ∷ []) h.written; follows = f }

reads : (before words : List (List ℕ)) (r : Option Progress) → IfSome r (HasRead before) → IfSome (steps r words) (HasRead (before ++ words))
reads before [] r h = subst (λ ws. IfSome r (HasRead ws)) (sym (append-nil before)) h
reads before (word ∷ words) None h = subst (λ r. IfSome r (HasRead (before ++ word ∷ words))) (sym (steps_none words)) tt
reads before (word ∷ words) (Some r) h =
    let next = reads_on r before word h (step r word) (step_writes r.inside r.outside r.piece word) (step_follows r word h.follows) in
    subst (λ ws. IfSome (steps (step r word) words) (HasRead ws)) (append_assoc before (word ∷ []) words) (reads (before ++ word ∷ []) words (step r word) next)

-- what was read from the start
pub all_read : (words : List (List ℕ)) → IfSome (steps (Some at_start) words) (HasRead words)
all_read words = reads [] words (Some at_start) (record {
  written = refl;
  follows = record { piece = tt; inside = record { disjunct = tt; conjunct = tt }; outside = tt };
})
