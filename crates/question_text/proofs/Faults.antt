-- A text has one tree or one fault.
use Rattle.std.proofs.Common.{◌≡◌, ℕ, List, [], ◌∷◌, ◌++◌, length, inl, inr, ◌⊎◌, refl, sym, ap, subst, ◌∙◌, append_assoc, Some, arith}
use Rattle.std.proofs.lemmas.List.{append-nil}
use Rattle.bspl_parser.specs.declared.token.Token.{Token}
use Rattle.bspl_parser.specs.Token.{offset_of}
use Rattle.bspl_parser.specs.Tokens.{Tokens, IsBadByte}
use Rattle.question_text.specs.declared.fault.QuestionFault.TheVariants.{Byte, TooLong, Syntax, NoMemory}
use Rattle.question_text.specs.declared.tree.Tree.{Tree}
use Rattle.question_text.specs.Laws.{HasOneTree, HasOneFault, ReadTextHasNoFault}
use Rattle.question_text.specs.QuestionText.{BeginsQuestion, EndsTooEarly, HasTokens, IsMisplaced, IsQuestionText, IsTooLong, SpellsQuestion}
use Rattle.question_text.specs.Tree.{Phrase, phrase_of}
use Rattle.question_text.specs.inner.Progress.{at_start, whole_question}
use Rattle.question_text.proofs.Completeness.{question_read}
use Rattle.question_text.proofs.Steps.{steps}

-- a text has one list of tokens, or one bad byte
pub record TokensOnce : Type 0 where
  pub tokens : (text : List ℕ) (ts us : List Token) → Tokens text ts → Tokens text us → ts ≡ us
  pub bytes : (text : List ℕ) (a b : ℕ) → IsBadByte text a → IsBadByte text b → a ≡ b
  pub exclusive : (text : List ℕ) (a : ℕ) (ts : List Token) → IsBadByte text a → ¬ Tokens text ts

-- tokens spell one question
one_phrase : (ts : List Token) (q r : Phrase) → SpellsQuestion ts q → SpellsQuestion ts r → q ≡ r
one_phrase ts q r of_q of_r =
    let a = question_read q of_q.formed in
    let b = question_read r of_r.formed in
    let same : Some a.progress ≡ Some b.progress = sym a.is ∙ ap (steps (Some at_start)) (sym of_q.worded ∙ of_r.worded) ∙ b.is in
    let progress : a.progress ≡ b.progress = cc in
    let whole : Some q ≡ Some r = sym a.whole ∙ ap whole_question progress ∙ b.whole in
    cc

-- what begins with the beginning of a question
begins_prefix : (prefix more : List Token) → BeginsQuestion (prefix ++ more) → BeginsQuestion prefix
begins_prefix prefix more begins = (more ++ begins.0, begins.1, subst (λ ts. SpellsQuestion ts begins.1) (append_assoc prefix more begins.0) begins.2)

-- a token that no question has there is in no question's tokens
dead_in : (prefix : List Token) (t : Token) (rest : List Token) → ¬ BeginsQuestion (prefix ++ t ∷ []) → ¬ BeginsQuestion (prefix ++ t ∷ rest)
dead_in prefix t rest dead begins = dead (begins_prefix (prefix ++ t ∷ []) rest (subst BeginsQuestion (sym (append_assoc prefix (t ∷ []) rest)) begins))

-- one token is the first of two
one_first : (prefix prefix' : List Token) (t t' : Token) (rest rest' : List Token) → ((more : List Token) → prefix' ≡ prefix ++ t ∷ more → ⊥) → ((more : List Token) → prefix ≡ prefix' ++ t' ∷ more → ⊥) → prefix ++ t ∷ rest ≡ prefix' ++ t' ∷ rest' → t ≡ t'
one_first [] [] t t' rest rest' here there e = cc
one_first [] (u ∷ prefix') t t' rest rest' here there e = absurd (here prefix' (let first : u ≡ t = cc in cc))
one_first (u ∷ prefix) [] t t' rest rest' here there e = absurd (there prefix (let first : u ≡ t' = cc in cc))
one_first (u ∷ prefix) (v ∷ prefix') t t' rest rest' here there e =
    let heads : u ≡ v = cc in
    let tails : prefix ++ t ∷ rest ≡ prefix' ++ t' ∷ rest' = cc in
    one_first prefix prefix' t t' rest rest' (λ more is. here more cc) (λ more is. there more cc) tails

-- the tokens of a question begin one
question_begins : (ts : List Token) (q : Phrase) → SpellsQuestion ts q → BeginsQuestion ts
question_begins ts q of = ([], q, subst (λ us. SpellsQuestion us q) (sym (append-nil ts)) of)

-- the tokens of a text with bad syntax
abbrev IsBad : List ℕ → ℕ → Type 0
IsBad text offset = IsMisplaced text offset ⊎ EndsTooEarly text offset

bad_tokens : (text : List ℕ) (offset : ℕ) → IsBad text offset → (ts : List Token) × HasTokens text ts
bad_tokens text offset (inl x) = (x.prefix ++ x.token ∷ x.rest, x.scanned)
bad_tokens text offset (inr x) = (x.tokens, x.scanned)

module _ (once : TokensOnce) where
  -- bad syntax is at one offset
  one_offset : (text : List ℕ) (a b : ℕ) → IsBad text a → IsBad text b → a ≡ b
  one_offset text a b (inl x) (inl y) =
      let same = once.tokens text (x.prefix ++ x.token ∷ x.rest) (y.prefix ++ y.token ∷ y.rest) x.scanned.scanned y.scanned.scanned in
      let here : (more : List Token) → y.prefix ≡ x.prefix ++ x.token ∷ more → ⊥ = λ more is. dead_in x.prefix x.token more x.none (subst BeginsQuestion is y.begins) in
      let there : (more : List Token) → x.prefix ≡ y.prefix ++ y.token ∷ more → ⊥ = λ more is. dead_in y.prefix y.token more y.none (subst BeginsQuestion is x.begins) in
      sym x.at_offset ∙ ap offset_of (one_first x.prefix y.prefix x.token y.token x.rest y.rest here there same) ∙ y.at_offset
  one_offset text a b (inl x) (inr y) =
      let same = once.tokens text (x.prefix ++ x.token ∷ x.rest) y.tokens x.scanned.scanned y.scanned.scanned in
      absurd (dead_in x.prefix x.token x.rest x.none (subst BeginsQuestion (sym same) y.begins))
  one_offset text a b (inr x) (inl y) =
      let same = once.tokens text (y.prefix ++ y.token ∷ y.rest) x.tokens y.scanned.scanned x.scanned.scanned in
      absurd (dead_in y.prefix y.token y.rest y.none (subst BeginsQuestion (sym same) x.begins))
  one_offset text a b (inr x) (inr y) = x.at_offset ∙ sym y.at_offset

  -- tokens within the limit are not too many
  not_too_long : (text : List ℕ) (count : ℕ) (ts : List Token) → IsTooLong text count → ¬ HasTokens text ts
  not_too_long text count ts long has =
      let same = ap length (once.tokens text ts long.tokens has.scanned long.scanned) in
      let few = has.few in
      let many = long.many in
      let counted = long.counted in
      omega arith

  -- a text has one fault
  pub one_fault : HasOneFault
  one_fault text (Byte a) (Byte b) x y = ap Byte (once.bytes text a b x.misread y.misread)
  one_fault text (Byte a) (TooLong b) x y = absurd (once.exclusive text a y.misread.tokens x.misread y.misread.scanned)
  one_fault text (Byte a) (Syntax b) x y =
      let has = bad_tokens text b y.misread in
      absurd (once.exclusive text a has.0 x.misread has.1.scanned)
  one_fault text (TooLong a) (Byte b) x y = absurd (once.exclusive text b x.misread.tokens y.misread x.misread.scanned)
  one_fault text (TooLong a) (TooLong b) x y =
      let same = ap length (once.tokens text x.misread.tokens y.misread.tokens x.misread.scanned y.misread.scanned) in
      ap TooLong (sym x.misread.counted ∙ same ∙ y.misread.counted)
  one_fault text (TooLong a) (Syntax b) x y =
      let has = bad_tokens text b y.misread in
      absurd (not_too_long text a has.0 x.misread has.1)
  one_fault text (Syntax a) (Byte b) x y =
      let has = bad_tokens text a x.misread in
      absurd (once.exclusive text b has.0 y.misread has.1.scanned)
  one_fault text (Syntax a) (TooLong b) x y =
      let has = bad_tokens text a x.misread in
      absurd (not_too_long text b has.0 y.misread has.1)
  one_fault text (Syntax a) (Syntax b) x y = ap Syntax (one_offset text a b x.misread y.misread)
  one_fault text NoMemory b x y = absurd (x.no_memory refl)
  one_fault text (Byte a) NoMemory x y = absurd (y.no_memory refl)
  one_fault text (TooLong a) NoMemory x y = absurd (y.no_memory refl)
  one_fault text (Syntax a) NoMemory x y = absurd (y.no_memory refl)

  -- and one tree
  pub one_tree : HasOneTree
  one_tree text t u of_t of_u =
      let same = once.tokens text of_t.tokens of_u.tokens of_t.scanned.scanned of_u.scanned.scanned in
      one_phrase of_u.tokens (phrase_of t) (phrase_of u) (subst (λ ts. SpellsQuestion ts (phrase_of t)) same of_t.spelled) of_u.spelled

  -- a question has no bad syntax
  no_bad : (text : List ℕ) (t : Tree) (a : ℕ) → IsQuestionText text t → ¬ IsBad text a
  no_bad text t a of (inl x) =
      let same = once.tokens text of.tokens (x.prefix ++ x.token ∷ x.rest) of.scanned.scanned x.scanned.scanned in
      dead_in x.prefix x.token x.rest x.none (subst BeginsQuestion same (question_begins of.tokens (phrase_of t) of.spelled))
  no_bad text t a of (inr x) =
      let same = once.tokens text of.tokens x.tokens of.scanned.scanned x.scanned.scanned in
      x.none (phrase_of t) (subst (λ ts. SpellsQuestion ts (phrase_of t)) same of.spelled)

  -- and not both
  pub tree_or_fault : ReadTextHasNoFault
  tree_or_fault text t (Byte a) of x = once.exclusive text a of.tokens x.misread of.scanned.scanned
  tree_or_fault text t (TooLong a) of x = not_too_long text a of.tokens x.misread of.scanned
  tree_or_fault text t (Syntax a) of x = no_bad text t a of x.misread
  tree_or_fault text t NoMemory of x = x.no_memory refl
