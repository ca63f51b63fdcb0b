-- A text has one answer to what the rules of a protocol are.
use Rattle.std.proofs.Common.{◌≡◌, ◌≢◌, ℕ, ◌+◌, List, [], ◌∷◌, ◌++◌, map, Option, None, Some, inl, inr, refl, sym, ap, ◌∙◌, subst}
use Rattle.std.specs.Prelude.{◌⊎◌, MatchOption}
use Rattle.std.specs.List.{All, AllZip}
use Rattle.std.proofs.lemmas.List.Elements.{All-head, All-tail}
use Rattle.std.proofs.lemmas.Option.{same_Some}
use Rattle.bspl_parser.specs.declared.token.Token.{Token}
use Rattle.bspl_parser.specs.Tokens.{IsBadByte, Tokens}
use Rattle.question_text.specs.declared.fault.QuestionFault.{QuestionFault}
use Rattle.question_text.specs.declared.fault.QuestionFault.TheVariants as question
use Rattle.question_text.specs.declared.tree.Tree.{Tree}
use Rattle.question_text.specs.QuestionText.{IsMisread, IsQuestionText}
use Rattle.question_text.specs.Tree.{Phrase, phrase_of}
use Rattle.protocol_rules.specs.declared.fault.RuleFault.{RuleFault}
use Rattle.protocol_rules.specs.declared.fault.RuleFault.TheVariants.{Byte, TooLong, Syntax, NoMemory}
use Rattle.protocol_rules.specs.declared.rule.Rule.{Rule}
use Rattle.protocol_rules.specs.declared.rule.Sense.{Sense}
use Rattle.protocol_rules.specs.Braces.{braces_of}
use Rattle.protocol_rules.specs.Laws.{said_by}
use Rattle.protocol_rules.specs.Rule.{IsFaultAt, StatesRule, IsRuleFault, after_word, fault_at, first_word, sense_named, word_end}
use Rattle.protocol_rules.specs.RuleLine.{RuleBody, blanks_len, rule_bodies}
use Rattle.protocol_rules.specs.Rules.{AreRulesOf, HasBodies, IsBadRule, IsBadRuleOf}

-- what texts and questions have once
pub record AreOnce : Type 0 where
  pub tokens : (text : List ℕ) (one other : List Token) → Tokens text one → Tokens text other → one ≡ other
  pub byte : (text : List ℕ) (a b : ℕ) → IsBadByte text a → IsBadByte text b → a ≡ b
  pub scanned : (text : List ℕ) (all : List Token) (bad : ℕ) → Tokens text all → ¬ IsBadByte text bad
  pub phrase : (text : List ℕ) (one other : Tree) → IsQuestionText text one → IsQuestionText text other → phrase_of one ≡ phrase_of other
  pub fault : (text : List ℕ) (one other : QuestionFault) → one ≢ question.NoMemory → other ≢ question.NoMemory → IsMisread text one → IsMisread text other → one ≡ other
  pub read : (text : List ℕ) (one : Tree) (bad : QuestionFault) → bad ≢ question.NoMemory → IsQuestionText text one → ¬ IsMisread text bad

-- a protocol has the same bodies
same_bodies : AreOnce → (text name : List ℕ) (one other : List RuleBody) → HasBodies text name one → HasBodies text name other → one ≡ other
same_bodies once text name one other has also =
    let tokens = once.tokens text has.tokens also.tokens has.scanned also.scanned in
    sym has.listed ∙ (ap (λ (ts : List Token). rule_bodies (braces_of name ts) text) tokens ∙ also.listed)

-- a body says the same
same_rule : AreOnce → (body : RuleBody) (one other : Rule) → StatesRule body one → StatesRule body other → said_by one ≡ said_by other
same_rule once body one other is also =
    let senses = same_Some one.sense other.sense (sym is.sensed ∙ also.sensed) in
    let phrases = once.phrase (after_word body.text) one.question other.question is.asked also.asked in
    ap (λ (s : Sense). (s, phrase_of one.question)) senses ∙ ap (λ (p : Phrase). (other.sense, p)) phrases

-- so do bodies
same_rules : AreOnce → (bodies : List RuleBody) (rules others : List Rule) → AllZip StatesRule bodies rules → AllZip StatesRule bodies others → map said_by rules ≡ map said_by others
same_rules once [] [] [] each all = refl
same_rules once [] (rule ∷ rules) others each all = absurd each
same_rules once [] [] (other ∷ others) each all = absurd all
same_rules once (body ∷ bodies) [] others each all = absurd each
same_rules once (body ∷ bodies) (rule ∷ rules) [] each all = absurd all
same_rules once (body ∷ bodies) (rule ∷ rules) (other ∷ others) each all =
    let first = same_rule once body rule other each.0 all.0 in
    let rest = same_rules once bodies rules others each.1 all.1 in
    ap (λ (s : Sense × Phrase). s ∷ map said_by rules) first ∙ ap (λ (ss : List (Sense × Phrase)). said_by other ∷ ss) rest

-- the rules of a protocol are once
pub rules_once : AreOnce → (text name : List ℕ) (rules others : List Rule) → AreRulesOf text name rules → AreRulesOf text name others → map said_by rules ≡ map said_by others
rules_once once text name rules others are also =
    let same = same_bodies once text name are.bodies also.bodies are.marked also.marked in
    same_rules once are.bodies rules others are.each (subst (λ (bs : List RuleBody). AllZip StatesRule bs others) (sym same) also.each)

-- memory did not run out on a question if it did not on its rule
cause_told : (start : ℕ) (bytes : List ℕ) (fault : RuleFault) → fault ≢ NoMemory → (at : IsFaultAt start bytes fault) → at.cause ≢ question.NoMemory
cause_told start bytes fault told at is = told (at.placed ∙ ap (fault_at start) is)

-- a question at an offset has one fault
same_fault_at : AreOnce → (start : ℕ) (bytes : List ℕ) (one other : RuleFault) → one ≢ NoMemory → other ≢ NoMemory → IsFaultAt start bytes one → IsFaultAt start bytes other → one ≡ other
same_fault_at once start bytes one other told known at also =
    let same = once.fault bytes at.cause also.cause (cause_told start bytes one told at) (cause_told start bytes other known also) at.misread also.misread in
    at.placed ∙ (ap (fault_at start) same ∙ sym also.placed)

-- with the sense of its word, if it is one
same_sensed : AreOnce → (offset start : ℕ) (bytes : List ℕ) (sense : Option Sense) (one other : RuleFault) → one ≢ NoMemory → other ≢ NoMemory → MatchOption sense (one ≡ Syntax offset) (λ _. IsFaultAt start bytes one) → MatchOption sense (other ≡ Syntax offset) (λ _. IsFaultAt start bytes other) → one ≡ other
same_sensed once offset start bytes None one other told known is also = is ∙ sym also
same_sensed once offset start bytes (Some sense) one other told known is also = same_fault_at once start bytes one other told known is also

-- a rule has one fault
same_rule_fault : AreOnce → (body : RuleBody) (one other : RuleFault) → one ≢ NoMemory → other ≢ NoMemory → IsRuleFault body one → IsRuleFault body other → one ≡ other
same_rule_fault once body one other =
    same_sensed once (body.offset + blanks_len body.text) (body.offset + word_end body.text) (after_word body.text) (sense_named (first_word body.text)) one other

-- and none if it is read
no_fault : AreOnce → (body : RuleBody) (rule : Rule) (fault : RuleFault) → fault ≢ NoMemory → StatesRule body rule → ¬ IsRuleFault body fault
no_fault once body rule fault told is bad =
    let at : IsFaultAt (body.offset + word_end body.text) (after_word body.text) fault = rw is.sensed at bad in
    once.read (after_word body.text) rule.question at.cause (cause_told (body.offset + word_end body.text) (after_word body.text) fault told at) is.asked at.misread

-- the body is a rule
abbrev HasRule : RuleBody → Type 0
HasRule body = (rule : Rule) × StatesRule body rule

-- two splits at the first fault are one
same_first : AreOnce → (left right after rest : List RuleBody) (bad worse : RuleBody) (one other : RuleFault) → one ≢ NoMemory → other ≢ NoMemory → All HasRule left → All HasRule right → IsRuleFault bad one → IsRuleFault worse other → left ++ bad ∷ after ≡ right ++ worse ∷ rest → one ≡ other
same_first once [] [] after rest bad worse one other told known good fine is also same =
    let body : bad ≡ worse = cc in
    same_rule_fault once bad one other told known is (subst (λ (b : RuleBody). IsRuleFault b other) (sym body) also)
same_first once [] (first ∷ right) after rest bad worse one other told known good fine is also same =
    let body : bad ≡ first = cc in
    let has = All-head HasRule first right fine in
    absurd (no_fault once first has.0 one told has.1 (subst (λ (b : RuleBody). IsRuleFault b one) body is))
same_first once (first ∷ left) [] after rest bad worse one other told known good fine is also same =
    let body : worse ≡ first = cc in
    let has = All-head HasRule first left good in
    absurd (no_fault once first has.0 other known has.1 (subst (λ (b : RuleBody). IsRuleFault b other) body also))
same_first once (first ∷ left) (again ∷ right) after rest bad worse one other told known good fine is also same =
    let tails : left ++ bad ∷ after ≡ right ++ worse ∷ rest = cc in
    same_first once left right after rest bad worse one other told known (All-tail HasRule first left good) (All-tail HasRule again right fine) is also tails

-- a bad rule is a bad byte of the text, or one of the rules
bad_rule : (text name : List ℕ) (fault : RuleFault) → fault ≢ NoMemory → IsBadRule text name fault → ((bad : ℕ) × (fault ≡ Byte bad) × IsBadByte text bad) ⊎ IsBadRuleOf text name fault
bad_rule text name (Byte offset) told (inl byte) = inl (offset, refl, byte)
bad_rule text name (Byte offset) told (inr rule) = inr rule
bad_rule text name (TooLong offset count) told bad = inr bad
bad_rule text name (Syntax offset) told bad = inr bad
bad_rule text name NoMemory told bad = absurd (told refl)

-- two bad rules are one
same_bad : AreOnce → (text name : List ℕ) (one other : RuleFault) → one ≢ NoMemory → other ≢ NoMemory → IsBadRuleOf text name one → IsBadRuleOf text name other → one ≡ other
same_bad once text name one other told known is also =
    let bodies = same_bodies once text name is.bodies also.bodies is.marked also.marked in
    let first = is.first in
    let second = also.first in
    same_first once first.before second.before first.after second.after first.bad second.bad one other told known first.good second.good first.refused second.refused (sym first.parts ∙ (bodies ∙ second.parts))

-- a protocol has one fault
pub fault_once : AreOnce → (text name : List ℕ) (one other : RuleFault) → one ≢ NoMemory → other ≢ NoMemory → IsBadRule text name one → IsBadRule text name other → one ≡ other
fault_once once text name one other told known is also =
    elim (bad_rule text name one told is) [
      | inl byte ↦ elim (bad_rule text name other known also) [
        | inl again ↦ byte.1 ∙ (ap Byte (once.byte text byte.0 again.0 byte.2 again.2) ∙ sym again.1)
        | inr rule ↦ absurd (once.scanned text rule.marked.tokens byte.0 rule.marked.scanned byte.2)
      ]
      | inr rule ↦ elim (bad_rule text name other known also) [
        | inl byte ↦ absurd (once.scanned text rule.marked.tokens byte.0 rule.marked.scanned byte.2)
        | inr again ↦ same_bad once text name one other told known rule again
      ]
    ]

-- bodies that are all rules have no first fault
none_bad : AreOnce → (before after : List RuleBody) (bad : RuleBody) (rules : List Rule) (fault : RuleFault) → fault ≢ NoMemory → AllZip StatesRule (before ++ bad ∷ after) rules → ¬ IsRuleFault bad fault
none_bad once [] after bad [] fault told each is = absurd each
none_bad once [] after bad (rule ∷ rules) fault told each is = no_fault once bad rule fault told each.0 is
none_bad once (first ∷ before) after bad [] fault told each is = absurd each
none_bad once (first ∷ before) after bad (rule ∷ rules) fault told each is = none_bad once before after bad rules fault told each.1 is

-- rules and a fault are not both
pub rules_or_fault : AreOnce → (text name : List ℕ) (rules : List Rule) (fault : RuleFault) → fault ≢ NoMemory → AreRulesOf text name rules → ¬ IsBadRule text name fault
rules_or_fault once text name rules fault told are is =
    elim (bad_rule text name fault told is) [
      | inl byte ↦ once.scanned text are.marked.tokens byte.0 are.marked.scanned byte.2
      | inr rule ↦
          let bodies = same_bodies once text name are.bodies rule.bodies are.marked rule.marked in
          let parts = bodies ∙ rule.first.parts in
          none_bad once rule.first.before rule.first.after rule.first.bad rules fault told (subst (λ (bs : List RuleBody). AllZip StatesRule bs rules) parts are.each) rule.first.refused
    ]
