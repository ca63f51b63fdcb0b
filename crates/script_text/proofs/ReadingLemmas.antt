-- The lines that were read, and one more.
use Rattle.std.proofs.Common.{◌≡◌, ◌⊎◌, ℕ, ◌+◌, List, [], ◌∷◌, ◌++◌, refl, sym, ◌∙◌, inl, inr, append_assoc}
use Rattle.std.specs.Prelude.{not, true, false, Some, None}
use Rattle.std.specs.List.{AllZip, filter, enumerate_from}
use Rattle.list_base.proofs.Zipped.{zip_append}
use Rattle.bspl_types.specs.declared.expanded.Expanded.{Expanded}
use Rattle.agent_scripts.specs.declared.refusal.ScriptRefusal.{ScriptRefusal}
use Rattle.agent_scripts.specs.declared.refusal.ScriptRefusal.TheVariants.{Form, Unknown, NoMemory}
use Rattle.agent_scripts.specs.declared.statement.Setting.TheVariants as settings
use Rattle.agent_scripts.specs.declared.statement.Stated.{Stated}
use Rattle.agent_scripts.specs.declared.statement.Statement.{Statement}
use Rattle.agent_scripts.specs.declared.statement.Statement.TheVariants.{Set, Key, Order, Decline, Bind}
use Rattle.agent_scripts.specs.Lines.{script_lines}
use Rattle.agent_scripts.specs.Rules.{KeepsRules}
use Rattle.agent_scripts.specs.ScriptText.{IsRefusedNext, KeepRules, MeansAt, is_passed_over, statements_of, telling_lines}
use Rattle.agent_scripts.specs.Statement.{Means}
use Rattle.script_text.specs.Reading.{HasNumbers, IsScriptRead}
use Rattle.script_text.specs.inner.TextReading.{GoesOn, HasOneMore}
use Rattle.script_text.proofs.StatementLemmas.{rules_push, statements_push}
use Rattle.text_lines.specs.Fields.{Field, fields_of}

-- ---- one line

-- the numbers of what is said are those of the table
pub said_numbers : (x : Expanded) (fields : List Field) (s : Statement) → Means x fields s → HasNumbers s
said_numbers x fields (Set settings.Keys n) says = says.in_table
said_numbers x fields (Set settings.Seed n) says = says.in_table
said_numbers x fields (Set settings.Loss n) says = says.in_table
said_numbers x fields (Set settings.Repeat n) says = says.in_table
said_numbers x fields (Key values) says = tt
said_numbers x fields (Order r ms) says = tt
said_numbers x fields (Decline m e) says = says.in_table
said_numbers x fields (Bind m p r) says = tt

-- a line that is refused is, whatever follows
pub refused_whatever : (x : Expanded) (stated : List Stated) (line : ℕ × List ℕ) (rest : List (ℕ × List ℕ)) (refusal : ScriptRefusal) → IsRefusedNext x stated (line ∷ []) refusal → IsRefusedNext x stated (line ∷ rest) refusal
refused_whatever x stated (n, line) rest (Form k) refused = refused
refused_whatever x stated (n, line) rest (Unknown k) refused = refused
refused_whatever x stated (n, line) rest NoMemory refused = refused

-- ---- the lines so far

-- those of the lines that say something, counted from that number on
abbrev pub telling_of : ℕ → List (List ℕ) → List (ℕ × List ℕ)
telling_of number lines = filter (λ (_, l). not (is_passed_over (fields_of l))) (enumerate_from number lines)

-- the statements are said by lines of the text, after which these are left, counted from the number on
pub record AreLinesRead (x : Expanded) (text : List ℕ) (left : List (List ℕ)) (stated : List Stated) (number : ℕ) : Type 0 where
  pub before : List (ℕ × List ℕ)
  pub lines : telling_lines text ≡ before ++ telling_of number left
  pub said : AllZip (MeansAt x) before stated
  pub rules : KeepRules (statements_of stated)

pub no_lines : (x : Expanded) (text : List ℕ) → AreLinesRead x text (script_lines text) [] 1
no_lines x text = record { before = []; lines = refl; said = tt; rules = λ before after s whole. none before after s whole }
  where
    none : (before after : List Statement) (s : Statement) → [] ≡ before ++ s ∷ after → KeepsRules before s
    none [] after s whole = absurd (cc)
    none (b ∷ before) after s whole = absurd (cc)

-- one more is passed over
pub passed : (x : Expanded) (text line : List ℕ) (left : List (List ℕ)) (stated : List Stated) (number : ℕ) → AreLinesRead x text (line ∷ left) stated number → is_passed_over (fields_of line) ≡ true → AreLinesRead x text left stated (number + 1)
passed x text line left stated number read blank = record {
  before = read.before;
  lines = rw blank at read.lines;
  said = read.said;
  rules = read.rules;
}

-- or has its statement
pub told : (x : Expanded) (text line : List ℕ) (left : List (List ℕ)) (stated : List Stated) (number : ℕ) (s : Stated) → AreLinesRead x text (line ∷ left) stated number → is_passed_over (fields_of line) ≡ false → GoesOn x stated (number, line) s → AreLinesRead x text left (stated ++ s ∷ []) (number + 1)
told x text line left stated number s read some goes = record {
  before = read.before ++ (number, line) ∷ [];
  lines = (rw some at read.lines) ∙ sym (append_assoc read.before ((number, line) ∷ []) (telling_of (number + 1) left));
  said = zip_append (MeansAt x) read.before stated ((number, line) ∷ []) (s ∷ []) read.said (goes.says, tt);
  rules = rw (statements_push stated s) (rules_push (statements_of stated) s.statement read.rules goes.rules);
}

-- one line more
pub line_more : (x : Expanded) (text line : List ℕ) (left : List (List ℕ)) (stated more : List Stated) (number : ℕ) → AreLinesRead x text (line ∷ left) stated number → ((is_passed_over (fields_of line) ≡ true) × (more ≡ stated)) ⊎ ((is_passed_over (fields_of line) ≡ false) × HasOneMore x stated (number, line) more) → AreLinesRead x text left more (number + 1)
line_more x text line left stated more number read how = elim how [
  | inl blank ↦ rw blank.1 (passed x text line left stated number read blank.0)
  | inr some ↦ rw some.1.more_are (told x text line left stated number some.1.s read some.0 some.1.goes_on)
]

-- all lines were read
pub all_read : (x : Expanded) (text : List ℕ) (stated : List Stated) (number : ℕ) → AreLinesRead x text [] stated number → IsScriptRead x text stated None
all_read x text stated number read = record {
  rest = [];
  to = record { before = read.before; lines = read.lines; said = read.said; rules = read.rules; end = inl refl };
  refused = refl;
}

-- or the next is refused
pub refused_next : (x : Expanded) (text line : List ℕ) (left : List (List ℕ)) (stated : List Stated) (number : ℕ) (refusal : ScriptRefusal) → AreLinesRead x text (line ∷ left) stated number → is_passed_over (fields_of line) ≡ false → IsRefusedNext x stated ((number, line) ∷ []) refusal → IsScriptRead x text stated (Some refusal)
refused_next x text line left stated number refusal read some bad =
    let refused = refused_whatever x stated (number, line) (telling_of (number + 1) left) refusal bad in
    record {
      rest = (number, line) ∷ telling_of (number + 1) left;
      to = record { before = read.before; lines = rw some at read.lines; said = read.said; rules = read.rules; end = inr (refusal, refused) };
      refused = refused;
    }
