-- A word of the language has the bytes of that word.
use Rattle.std.proofs.Common.{◌≡◌, ℕ, Bool, true, false, List, [], ◌∷◌, Option, Some, refl}
use Rattle.std.specs.Prelude.{IfSome}
use Rattle.std.specs.List.{find}
use Rattle.std.specs.Str.{bytes_eq}
use Rattle.std.proofs.Math.Bool.{cond}
use Rattle.std.proofs.lemmas.Slice.Eq.{bytes_eq-Decides}
use Rattle.question_text.specs.declared.keyword.Keyword.{Keyword}
use Rattle.question_text.specs.inner.Keyword.{keyword_text, keywords, keyword_of}

-- the word is that word of the language, if it is one
abbrev pub IsText : List ℕ → Option Keyword → Type 0
IsText word k = IfSome k (λ k. word ≡ keyword_text k)

-- the first of some words that is equal to a word
found : (word : List ℕ) (ks : List Keyword) → IsText word (find (λ k. bytes_eq word (keyword_text k)) ks)
found word [] = tt
found word (k ∷ ks) = go (bytes_eq word (keyword_text k)) refl (found word ks)
  where
    go : (b : Bool) → bytes_eq word (keyword_text k) ≡ b → IsText word (find (λ k. bytes_eq word (keyword_text k)) ks) → IsText word (cond b (Some k) (find (λ k. bytes_eq word (keyword_text k)) ks))
    go true e others = (bytes_eq-Decides word (keyword_text k)).0 e
    go false e others = others

pub keyword_is : (word : List ℕ) → IsText word (keyword_of word)
keyword_is word = found word keywords
