-- The parts of a rule: blanks, a word, and a question.
use Rattle.std.proofs.Common.{◌≡◌, ℕ, ◌+◌, ◌-◌, ◌≤◌, List, length, take, drop, Some, length-drop, sym, ap, ◌∙◌, subst, arith}
use Rattle.std.proofs.lemmas.List.{take_all}
use Rattle.question_text.specs.declared.fault.QuestionFault.{QuestionFault}
use Rattle.question_text.specs.QuestionText.{IsMisread}
use Rattle.protocol_rules.specs.declared.fault.RuleFault.{RuleFault}
use Rattle.protocol_rules.specs.declared.rule.Sense.{Sense}
use Rattle.protocol_rules.specs.Rule.{IsFaultAt, IsRuleFault, after_word, fault_at, first_word, letters_len, sense_named, word_end}
use Rattle.protocol_rules.specs.RuleLine.{blanks_len}
use Rattle.protocol_rules.specs.inner.FaultOffset.{fault_offset}
use Rattle.protocol_rules.proofs.OffsetLemmas.{fault_within}

-- the bytes from an index on, as code lends them
abbrev pub lent_from : ℕ → List ℕ → List ℕ
lent_from n bytes = take (length bytes - n) (drop n bytes)

-- they are all of them
pub lent_is : (n : ℕ) (bytes : List ℕ) → lent_from n bytes ≡ drop n bytes
lent_is n bytes = take_all (length bytes - n) (drop n bytes) (omega (arith, length-drop n bytes))

-- from two indices on
lent_twice : (n m : ℕ) (bytes : List ℕ) → lent_from m (lent_from n bytes) ≡ drop m (drop n bytes)
lent_twice n m bytes = lent_is m (lent_from n bytes) ∙ ap (drop m) (lent_is n bytes)

-- the fault of the question lies within the rule
pub fault_near : (bytes : List ℕ) (n m : ℕ) (fault : QuestionFault) → n ≤ length bytes → m ≤ length (lent_from n bytes) → IsMisread (lent_from m (lent_from n bytes)) fault → n + m + fault_offset fault ≤ length bytes
fault_near bytes n m fault blanks letters bad =
    let within = fault_within (lent_from m (lent_from n bytes)) fault bad in
    let size = ap length (lent_twice n m bytes) in
    let first = ap length (lent_is n bytes) in
    omega (arith, within, size, first, length-drop n bytes, length-drop m (drop n bytes))

-- the fault of the question is that of the rule
pub rule_fault : (offset : ℕ) (bytes : List ℕ) (n m : ℕ) (fault : QuestionFault) (bad : RuleFault) (sense : Sense) → n ≡ blanks_len bytes → m ≡ letters_len (lent_from n bytes) → sense_named (take m (lent_from n bytes)) ≡ Some sense → IsMisread (lent_from m (lent_from n bytes)) fault → bad ≡ fault_at (offset + n + m) fault → IsRuleFault (record { offset = offset; text = bytes }) bad
rule_fault offset bytes n m fault bad sense blanks letters named misread placed =
    let words = lent_is n bytes ∙ ap (λ (k : ℕ). drop k bytes) blanks in
    let count : m ≡ letters_len (drop (blanks_len bytes) bytes) = letters ∙ ap letters_len words in
    let word : take m (lent_from n bytes) ≡ first_word bytes = ap (take m) words ∙ ap (λ (k : ℕ). take k (drop (blanks_len bytes) bytes)) count in
    let rest : lent_from m (lent_from n bytes) ≡ after_word bytes = lent_is m (lent_from n bytes) ∙ (ap (drop m) words ∙ ap (λ (k : ℕ). drop k (drop (blanks_len bytes) bytes)) count) in
    let start : offset + n + m ≡ offset + word_end bytes = omega (arith, blanks, count) in
    let here : IsFaultAt (offset + word_end bytes) (after_word bytes) bad = record { cause = fault; misread = subst (λ (text : List ℕ). IsMisread text fault) rest misread; placed = placed ∙ ap (λ (at : ℕ). fault_at at fault) start } in
    let sensed : sense_named (first_word bytes) ≡ Some sense = sym (ap sense_named word) ∙ named in
    rw sensed here
