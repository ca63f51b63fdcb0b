-- Two readings of one text stop at the same line.
use Rattle.std.proofs.Common.{◌≡◌, ℕ, List, [], ◌∷◌, ◌++◌, refl, sym, ap, subst, ◌∙◌, inl, inr, append_assoc}
use Rattle.std.specs.List.{AllZip}
use Rattle.std.proofs.lemmas.List.{map-append, append-nil}
use Rattle.bspl_types.specs.declared.expanded.Expanded.{Expanded}
use Rattle.bspl_types.specs.ValueSpelling.{ValuesAreSpelledOnce}
use Rattle.agent_scripts.specs.declared.refusal.ScriptRefusal.{ScriptRefusal}
use Rattle.agent_scripts.specs.declared.refusal.ScriptRefusal.TheVariants.{Form, Unknown, NoMemory}
use Rattle.agent_scripts.specs.declared.statement.Stated.{Stated}
use Rattle.agent_scripts.specs.declared.statement.Statement.{Statement}
use Rattle.agent_scripts.specs.Rules.{KeepsRules}
use Rattle.agent_scripts.specs.ScriptText.{EndsScript, IsReadTo, IsRefusedNext, KeepRules, MeansAt, statements_of, telling_lines}
use Rattle.agent_scripts.specs.Statement.{Means, line_form}
use Rattle.script_text.proofs.OneStatement.{says_one}
use Rattle.text_lines.specs.Fields.{fields_of}

-- a bad line says nothing that keeps the rules
bad_says_nothing : ValuesAreSpelledOnce → (x : Expanded) (stated : List Stated) (n : ℕ) (line : List ℕ) (rest : List (ℕ × List ℕ)) (refusal : ScriptRefusal) (s : Statement) → IsRefusedNext x stated ((n, line) ∷ rest) refusal → Means x (fields_of line) s → KeepsRules (statements_of stated) s → ⊥
bad_says_nothing once x stated n line rest (Form k) s bad said keeps = elim bad.1 [
  | inl no_form ↦ no_form (line_form x s, said.in_table, said.fields_are)
  | inr breaks ↦ breaks.2 (subst (λ t. KeepsRules (statements_of stated) t) (says_one once x (fields_of line) s breaks.0 said breaks.1) keeps)
]
bad_says_nothing once x stated n line rest (Unknown k) s bad said keeps = bad.1.1 s said
bad_says_nothing once x stated n line rest NoMemory s bad said keeps = bad

-- no reading ends before such a line
no_end : ValuesAreSpelledOnce → (x : Expanded) (stated : List Stated) (n : ℕ) (line : List ℕ) (rest left : List (ℕ × List ℕ)) (s : Statement) → EndsScript x stated left → left ≡ (n, line) ∷ rest → Means x (fields_of line) s → KeepsRules (statements_of stated) s → ⊥
no_end once x stated n line rest left s end is said keeps = elim end [
  | inl none ↦ absurd (cc)
  | inr bad ↦ bad_says_nothing once x stated n line rest bad.0 s (subst (λ lines. IsRefusedNext x stated lines bad.0) is bad.1) said keeps
]

-- a reading of lines after what is stated before them
record GoesOn (x : Expanded) (done : List Stated) (lines before rest : List (ℕ × List ℕ)) (stated : List Stated) : Type 0 where
  lines_are : lines ≡ before ++ rest
  said : AllZip (MeansAt x) before stated
  rules : KeepRules (statements_of (done ++ stated))
  end : EndsScript x (done ++ stated) rest

-- its first statement keeps the rules
first_keeps : (done stated : List Stated) (s : Stated) → KeepRules (statements_of (done ++ s ∷ stated)) → KeepsRules (statements_of done) s.statement
first_keeps done stated s rules = rules (statements_of done) (statements_of stated) s.statement (map-append (λ (t : Stated). t.statement) done (s ∷ stated))

-- a reading that ends here and one that goes on are not both
not_both : ValuesAreSpelledOnce → (x : Expanded) (done : List Stated) (lines rest also left : List (ℕ × List ℕ)) (n : ℕ) (line : List ℕ) (s : Stated) (other : List Stated) → GoesOn x done lines [] rest [] → GoesOn x done lines ((n, line) ∷ also) left (s ∷ other) → ⊥
not_both once x done lines rest also left n line s other ends goes =
    let end : EndsScript x done rest = subst (λ d. EndsScript x d rest) (append-nil done) ends.end in
    let is : rest ≡ (n, line) ∷ (also ++ left) = sym ends.lines_are ∙ goes.lines_are in
    no_end once x done n line (also ++ left) rest s.statement end is goes.said.0.1 (first_keeps done other s goes.rules)

-- what follows the first line of a reading
after_first : (x : Expanded) (done : List Stated) (lines before rest : List (ℕ × List ℕ)) (l : ℕ × List ℕ) (s : Stated) (stated : List Stated) (next : List (ℕ × List ℕ)) → GoesOn x done lines (l ∷ before) rest (s ∷ stated) → next ≡ before ++ rest → GoesOn x (done ++ s ∷ []) next before rest stated
after_first x done lines before rest l s stated next goes is =
    let joined : done ++ s ∷ stated ≡ (done ++ s ∷ []) ++ stated = sym (append_assoc done (s ∷ []) stated) in
    record {
      lines_are = is;
      said = goes.said.1;
      rules = subst (λ all. KeepRules (statements_of all)) joined goes.rules;
      end = subst (λ all. EndsScript x all rest) joined goes.end;
    }

-- statements at one line are one
same_stated : (s t : Stated) → s.line ≡ t.line → s.statement ≡ t.statement → s ≡ t
same_stated s t lines statements =
    let stated : ℕ → Statement → Stated = λ line statement. record { line = line; statement = statement } in
    ap (λ line. stated line s.statement) lines ∙ ap (stated t.line) statements

-- what one line says twice is one statement
said_once : ValuesAreSpelledOnce → (x : Expanded) (n m : ℕ) (line other : List ℕ) (s t : Stated) → MeansAt x (n, line) s → MeansAt x (m, other) t → n ≡ m → line ≡ other → s ≡ t
said_once once x n m line other s t said also numbers lines =
    same_stated s t (said.0 ∙ numbers ∙ sym also.0) (says_one once x (fields_of other) s.statement t.statement (subst (λ l. Means x (fields_of l) s.statement) lines said.1) also.1)

-- two readings after the same statements end alike
end_alike : ValuesAreSpelledOnce → (x : Expanded) (done : List Stated) (lines before rest also left : List (ℕ × List ℕ)) (stated other : List Stated) → GoesOn x done lines before rest stated → GoesOn x done lines also left other → (stated ≡ other) × (rest ≡ left)
end_alike once x done lines [] rest [] left [] [] one two = (refl, sym one.lines_are ∙ two.lines_are)
end_alike once x done lines [] rest also left (s ∷ stated) other one two = absurd one.said
end_alike once x done lines (l ∷ before) rest also left [] other one two = absurd one.said
end_alike once x done lines before rest [] left stated (t ∷ other) one two = absurd two.said
end_alike once x done lines before rest (k ∷ also) left stated [] one two = absurd two.said
end_alike once x done lines [] rest ((m, other) ∷ also) left [] (t ∷ others) one two = absurd (not_both once x done lines rest also left m other t others one two)
end_alike once x done lines ((n, line) ∷ before) rest [] left (s ∷ stated) [] one two = absurd (not_both once x done lines left before rest n line s stated two one)
end_alike once x done lines ((n, line) ∷ before) rest ((m, other) ∷ also) left (s ∷ stated) (t ∷ others) one two =
    let whole : (n, line) ∷ (before ++ rest) ≡ (m, other) ∷ (also ++ left) = sym one.lines_are ∙ two.lines_are in
    let here : ℕ × List ℕ = (n, line) in
    let here_too : ℕ × List ℕ = (m, other) in
    let heads : here ≡ here_too = cc in
    let numbers : n ≡ m = ap (λ (l : ℕ × List ℕ). l.0) heads in
    let same : line ≡ other = ap (λ (l : ℕ × List ℕ). l.1) heads in
    let next : before ++ rest ≡ also ++ left = cc in
    let first : s ≡ t = said_once once x n m line other s t one.said.0 two.said.0 numbers same in
    let later = after_first x done lines before rest (n, line) s stated (before ++ rest) one refl in
    let later_too = after_first x done lines also left (m, other) t others (before ++ rest) two next in
    let again = subst (λ u. GoesOn x (done ++ u ∷ []) (before ++ rest) also left others) (sym first) later_too in
    let ends = end_alike once x (done ++ s ∷ []) (before ++ rest) before rest also left stated others later again in
    (cc (first, ends.0), ends.1)

-- a text is read in one way
pub read_alike : ValuesAreSpelledOnce → (x : Expanded) (text : List ℕ) (stated other : List Stated) (rest left : List (ℕ × List ℕ)) → IsReadTo x text stated rest → IsReadTo x text other left → (stated ≡ other) × (rest ≡ left)
read_alike once x text stated other rest left one two =
    end_alike once x [] (telling_lines text) one.before rest two.before left stated other (whole one) (whole two)
  where
    whole : {found : List Stated} {after : List (ℕ × List ℕ)} (read : IsReadTo x text found after) → GoesOn x [] (telling_lines text) read.before after found
    whole read = record { lines_are = read.lines; said = read.said; rules = read.rules; end = read.end }
