-- Arguments ask for one formula of one protocol.
use Rattle.std.proofs.Common.{◌≡◌, ◌≢◌, ℕ, ◌≤◌, List, [], ◌∷◌, length, None, Some, refl, sym, ap, subst, ◌∙◌, arith, get_or, drop}
use Rattle.std.specs.Prelude.{IsTrue}
use Rattle.std.proofs.lemmas.Option.{none-some}
use Rattle.ask_commands.specs.AskTask.{IsMisputText, IsTextOfPhrase, question_rejection}
use Rattle.bspl_types.specs.Name.{is_name}
use Rattle.bspl_types.specs.declared.property.Property.{Property}
use Rattle.bspl_types.specs.declared.property.Property.TheVariants.{Liveness, Safety}
use Rattle.question_text.specs.Laws.{HasOneFault, HasOneTree, ReadTextHasNoFault, IsFaultOf}
use Rattle.question_text.specs.Tree.{Phrase}
use Rattle.tool_input.specs.declared.rejection.Rejection.{Rejection}
use Rattle.more_commands.specs.declared.wording.TheConstants as wording
use Rattle.more_commands.specs.FormulaArguments.{Asked, AsksFormula, Dead, FormulaSubject, Misput, NamesFormula, PutText, Whole, property_word}

-- the item of a list, or no bytes
abbrev word_at : ℕ → List (List ℕ) → List ℕ
word_at i words = get_or words i []

-- two words are the same for one property alone
one_word : (property another : Property) → property_word property ≡ property_word another → property ≡ another
one_word Safety Safety same = refl
one_word Safety Liveness same = let sizes : 6 ≡ 8 = ap length same in absurd (omega (arith, sizes))
one_word Liveness Safety same = let sizes : 8 ≡ 6 = ap length same in absurd (omega (arith, sizes))
one_word Liveness Liveness same = refl

-- a text is one question, or none for one reason
pub record OneReading : Type 0 where
  pub tree : HasOneTree
  pub fault : HasOneFault
  pub exclusive : ReadTextHasNoFault

-- a fault with a rejection is none of memory
as_fault : (text : List ℕ) (r : Rejection) (is : IsMisputText text r) → IsFaultOf text is.fault
as_fault text r is = record { misread = is.misread; no_memory = λ memory. none-some r (ap question_rejection (sym memory) ∙ is.rejection_is) }

module _ (law : OneReading) (text : List ℕ) where
  one_phrase : (phrase another : Phrase) → IsTextOfPhrase text phrase → IsTextOfPhrase text another → phrase ≡ another
  one_phrase phrase another one too = sym one.phrase_is ∙ law.tree text one.tree too.tree one.read too.read ∙ too.phrase_is

  one_fault : (r s : Rejection) → IsMisputText text r → IsMisputText text s → r ≡ s
  one_fault r s one too =
      let same = law.fault text one.fault too.fault (as_fault text r one) (as_fault text s too) in
      let both : Some r ≡ Some s = sym one.rejection_is ∙ ap question_rejection same ∙ too.rejection_is in
      cc

  phrase_or_fault : (phrase : Phrase) (r : Rejection) → IsTextOfPhrase text phrase → IsMisputText text r → ⊥
  phrase_or_fault phrase r one too = law.exclusive text one.tree too.fault one.read (as_fault text r too)

-- one word is not two
not_one : (words : List (List ℕ)) (word first second : List ℕ) → words ≡ word ∷ [] → words ≡ first ∷ second ∷ [] → ⊥
not_one words word first second one too = let sizes : 1 ≡ 2 = ap length (sym one ∙ too) in omega (arith, sizes)

-- the word for a message is not that for a question
not_both : (words : List (List ℕ)) (message text : List ℕ) → words ≡ wording.DEAD.now ∷ message ∷ [] → words ≡ wording.ASK.now ∷ text ∷ [] → ⊥
not_both words message text one too = let sizes : 4 ≡ 3 = ap (λ (list : List (List ℕ)). length (word_at 0 list)) (sym one ∙ too) in omega (arith, sizes)

-- the text after it is the same
same_text : (words : List (List ℕ)) (P Q : List ℕ → Type 0) (one : PutText words P) (too : PutText words Q) → one.text ≡ too.text
same_text words P Q one too = ap (word_at 1) (sym one.words_are ∙ too.words_are)

module _ (law : OneReading) (words : List (List ℕ)) where
  -- so words put one phrase, or none for one reason
  asked_once : (phrase another : Phrase) → PutText words (λ text. IsTextOfPhrase text phrase) → PutText words (λ text. IsTextOfPhrase text another) → phrase ≡ another
  asked_once phrase another one too =
      let same = same_text words (λ text. IsTextOfPhrase text phrase) (λ text. IsTextOfPhrase text another) one too in
      one_phrase law too.text phrase another (subst (λ (text : List ℕ). IsTextOfPhrase text phrase) same one.holds) too.holds

  misput_once : (r s : Rejection) → PutText words (λ text. IsMisputText text r) → PutText words (λ text. IsMisputText text s) → r ≡ s
  misput_once r s one too =
      let same = same_text words (λ text. IsMisputText text r) (λ text. IsMisputText text s) one too in
      one_fault law too.text r s (subst (λ (text : List ℕ). IsMisputText text r) same one.holds) too.holds

  asked_or_misput : (phrase : Phrase) (r : Rejection) → PutText words (λ text. IsTextOfPhrase text phrase) → PutText words (λ text. IsMisputText text r) → ⊥
  asked_or_misput phrase r one too =
      let same = same_text words (λ text. IsTextOfPhrase text phrase) (λ text. IsMisputText text r) one too in
      phrase_or_fault law too.text phrase r (subst (λ (text : List ℕ). IsTextOfPhrase text phrase) same one.holds) too.holds

  -- words stand for one formula
  subject_once : (subject another : FormulaSubject) → NamesFormula words subject → NamesFormula words another → subject ≡ another
  subject_once (Whole property) (Whole another) one too = ap Whole (one_word property another (ap (word_at 0) (sym one ∙ too)))
  subject_once (Whole property) (Dead name) one too = absurd (not_one words (property_word property) wording.DEAD.now name one too.0)
  subject_once (Whole property) (Asked phrase) one too = absurd (not_one words (property_word property) wording.ASK.now too.text one too.words_are)
  subject_once (Whole property) (Misput r) one too = absurd (not_one words (property_word property) wording.ASK.now too.text one too.words_are)
  subject_once (Dead name) (Whole property) one too = absurd (not_one words (property_word property) wording.DEAD.now name too one.0)
  subject_once (Dead name) (Dead other) one too = ap Dead (ap (word_at 1) (sym one.0 ∙ too.0))
  subject_once (Dead name) (Asked phrase) one too = absurd (not_both words name too.text one.0 too.words_are)
  subject_once (Dead name) (Misput r) one too = absurd (not_both words name too.text one.0 too.words_are)
  subject_once (Asked phrase) (Whole property) one too = absurd (not_one words (property_word property) wording.ASK.now one.text too one.words_are)
  subject_once (Asked phrase) (Dead name) one too = absurd (not_both words name one.text too.0 one.words_are)
  subject_once (Asked phrase) (Asked another) one too = ap Asked (asked_once phrase another one too)
  subject_once (Asked phrase) (Misput r) one too = absurd (asked_or_misput phrase r one too)
  subject_once (Misput r) (Whole property) one too = absurd (not_one words (property_word property) wording.ASK.now one.text too one.words_are)
  subject_once (Misput r) (Dead name) one too = absurd (not_both words name one.text too.0 one.words_are)
  subject_once (Misput r) (Asked phrase) one too = absurd (asked_or_misput phrase r too one)
  subject_once (Misput r) (Misput s) one too = ap Misput (misput_once r s one too)

-- a word that is that of no property stands for no formula
pub no_word : (word : List ℕ) → ((property : Property) → word ≢ property_word property) → (subject : FormulaSubject) → ¬ NamesFormula (word ∷ []) subject
no_word word none (Whole property) is = none property (ap (word_at 0) is)
no_word word none (Dead name) is = not_one (word ∷ []) word wording.DEAD.now name refl is.0
no_word word none (Asked phrase) is = not_one (word ∷ []) word wording.ASK.now is.text refl is.words_are
no_word word none (Misput r) is = not_one (word ∷ []) word wording.ASK.now is.text refl is.words_are

-- nor do a word and a text that are no message and no question
pub no_pair : (word text : List ℕ) → (word ≡ wording.DEAD.now → ¬ IsTrue (is_name text)) → (word ≡ wording.ASK.now → ¬ (length text ≤ 4294967295)) → (subject : FormulaSubject) → ¬ NamesFormula (word ∷ text ∷ []) subject
no_pair word text no_message no_question (Whole property) is = not_one (word ∷ text ∷ []) (property_word property) word text is refl
no_pair word text no_message no_question (Dead name) is =
    no_message (ap (word_at 0) is.0) (subst (λ (t : List ℕ). IsTrue (is_name t)) (sym (ap (word_at 1) is.0)) is.1)
no_pair word text no_message no_question (Asked phrase) is =
    no_question (ap (word_at 0) is.words_are) (subst (λ (t : List ℕ). length t ≤ 4294967295) (sym (ap (word_at 1) is.words_are)) is.short)
no_pair word text no_message no_question (Misput r) is =
    no_question (ap (word_at 0) is.words_are) (subst (λ (t : List ℕ). length t ≤ 4294967295) (sym (ap (word_at 1) is.words_are)) is.short)

-- a formula has one word or two
pub one_or_two : (words : List (List ℕ)) → (length words ≡ 1 → ⊥) → (length words ≡ 2 → ⊥) → (subject : FormulaSubject) → ¬ NamesFormula words subject
one_or_two words one two (Whole property) is = one (ap length is)
one_or_two words one two (Dead name) is = two (ap length is.0)
one_or_two words one two (Asked phrase) is = two (ap length is.words_are)
one_or_two words one two (Misput r) is = two (ap length is.words_are)

-- so do arguments, of one protocol
pub one_formula : OneReading → (args : List (List ℕ)) (name again : List ℕ) (subject another : FormulaSubject) → AsksFormula args name subject → AsksFormula args again another → (subject ≡ another) × (name ≡ again)
one_formula law args name again subject another one too =
    let both = sym one.arguments ∙ too.arguments in
    let words : one.words ≡ too.words = ap (drop 1) both in
    (subject_once law too.words subject another (subst (λ (w : List (List ℕ)). NamesFormula w subject) words one.subject_is) too.subject_is, ap (word_at 0) both)
