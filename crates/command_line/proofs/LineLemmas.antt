-- What is said is one command line at most, and says nothing too often.
use Rattle.std.proofs.Common.{◌≡◌, ◌≤◌, ℕ, zero, suc, Bool, true, false, cond, List, [], ◌∷◌, length, Option, Some, None, MatchOption, refl, sym, ap, subst, ◌∙◌, arith, codes}
use Rattle.std.specs.Str.{bytes_eq}
use Rattle.list_base.proofs.Numerals.{same_from_numeral}
use Rattle.command_line.specs.declared.command.Command.{Command}
use Rattle.command_line.specs.declared.command.Command.TheVariants.{Verify, Check, Replay, Expand, Run, Restart, Generate, Dead, CheckDead, Serve, Audit}
use Rattle.command_line.specs.declared.line.CommandLine.{CommandLine}
use Rattle.command_line.specs.declared.line.Subject.{Subject}
use Rattle.command_line.specs.declared.line.Subject.TheVariants.{Protocol, Size}
use Rattle.command_line.specs.Command.{command_word, takes_brief, takes_conflicts, takes_threads, takes_size}
use Rattle.command_line.specs.Line.{IsSubject, IsFlag, IsOptionValue, IsLineOf, IsCommandLine, IsSameSubject, IsSameLine}
use Rattle.command_line.specs.ParsedArgs.{ParsedArgs, HasNoRepeats, ParsesTo, nothing_parsed, parsed}
use Rattle.command_line.proofs.ParseLemmas.{same_reading}

-- a flag or an option stands once at most
flag_once : (belongs : Bool) (n : ℕ) (on : Bool) → IsFlag belongs n on → n ≤ 1
flag_once belongs zero on is = omega arith
flag_once belongs (suc zero) on is = omega arith
flag_once belongs (suc (suc n)) on is = absurd is

option_once : (belongs : Bool) (least most default : ℕ) (values : List (List ℕ)) (n : ℕ) → IsOptionValue belongs least most default values n → length values ≤ 1
option_once belongs least most default [] n is = omega arith
option_once belongs least most default (value ∷ []) n is = omega arith
option_once belongs least most default (value ∷ other ∷ values) n is = absurd is

pub no_repeats : (s : ParsedArgs) (line : CommandLine) → IsLineOf s line → HasNoRepeats s
no_repeats s line is = record {
  briefs = flag_once (takes_brief line.command) s.briefs line.brief is.brief;
  conflicts = option_once (takes_conflicts line.command) 1 20000 10000 s.conflicts line.conflicts is.conflicts;
  threads = option_once (takes_threads line.command) 0 8 1 s.threads line.threads is.threads;
  positional = (let two = ap length is.positional in omega (arith, two));
}

-- what is parsed makes the arguments a command line, or none
pub line_of_words : {args : List (List ℕ)} (s : ParsedArgs) (line : Option CommandLine) → ParsesTo args nothing_parsed s → MatchOption line ((l : CommandLine) → IsLineOf s l → ⊥) (IsLineOf s) → MatchOption line ((l : CommandLine) → IsCommandLine args l → ⊥) (IsCommandLine args)
line_of_words s None says none = λ l is. none l (subst (λ t. IsLineOf t l) (ap parsed (same_reading is.reads says.reads) ∙ sym says.after_is) is.line_of)
line_of_words s (Some line) says is = record { parts = says.parts; reads = says.reads; line_of = subst (λ t. IsLineOf t line) says.after_is is }

-- where too much is said, the arguments are none
pub none_from_words : {args : List (List ℕ)} → ((s : ParsedArgs) → ParsesTo args nothing_parsed s → HasNoRepeats s → ⊥) → (l : CommandLine) → IsCommandLine args l → ⊥
none_from_words often l is = often (parsed is.parts) (record { parts = is.parts; reads = is.reads; after_is = refl }) (no_repeats (parsed is.parts) l is.line_of)

-- the command that the argument names
abbrev named : List ℕ → Command
named word = cond (bytes_eq word (codes "verify")) Verify
    (cond (bytes_eq word (codes "check")) Check
    (cond (bytes_eq word (codes "replay")) Replay
    (cond (bytes_eq word (codes "expand")) Expand
    (cond (bytes_eq word (codes "run")) Run
    (cond (bytes_eq word (codes "restart")) Restart
    (cond (bytes_eq word (codes "generate")) Generate
    (cond (bytes_eq word (codes "dead")) Dead
    (cond (bytes_eq word (codes "check-dead")) CheckDead
    (cond (bytes_eq word (codes "serve")) Serve Audit)))))))))

names_it : (command : Command) → named (command_word command) ≡ command
names_it Verify = refl
names_it Check = refl
names_it Replay = refl
names_it Expand = refl
names_it Run = refl
names_it Restart = refl
names_it Generate = refl
names_it Dead = refl
names_it CheckDead = refl
names_it Serve = refl
names_it Audit = refl

same_flag : (belongs : Bool) (n : ℕ) (x y : Bool) → IsFlag belongs n x → IsFlag belongs n y → x ≡ y
same_flag belongs zero x y one other = one ∙ sym other
same_flag belongs (suc zero) x y one other = one.0 ∙ sym other.0
same_flag belongs (suc (suc n)) x y one other = absurd one

same_choice : (belongs : Bool) (least most default : ℕ) (values : List (List ℕ)) (m n : ℕ) → IsOptionValue belongs least most default values m → IsOptionValue belongs least most default values n → m ≡ n
same_choice belongs least most default [] m n one other = one ∙ sym other
same_choice belongs least most default (value ∷ []) m n one other = same_from_numeral m n (sym one.0.written ∙ other.0.written)
same_choice belongs least most default (value ∷ more ∷ values) m n one other = absurd one

same_subject : (generates : Bool) (word : List ℕ) (x y : Subject) → IsSubject generates word x → IsSubject generates word y → IsSameSubject x y
same_subject true word (Size m) (Size n) one other = same_from_numeral m n (sym one.written ∙ other.written)
same_subject true word (Size m) (Protocol y) one other = absurd other
same_subject true word (Protocol x) y one other = absurd one
same_subject false word (Size m) y one other = absurd one
same_subject false word (Protocol x) (Size n) one other = absurd other
same_subject false word (Protocol x) (Protocol y) one other = one.0 ∙ sym other.0

first_item : List (List ℕ) → List ℕ
first_item [] = []
first_item (x ∷ xs) = x

second_item : List (List ℕ) → List ℕ
second_item [] = []
second_item (x ∷ xs) = first_item xs

same_line : (s : ParsedArgs) (a b : CommandLine) → IsLineOf s a → IsLineOf s b → IsSameLine a b
unfolding first_item second_item
same_line s a b one other =
    let args = sym one.positional ∙ other.positional in
    let command : a.command ≡ b.command = sym (names_it a.command) ∙ ap (λ ws. named (first_item ws)) args ∙ names_it b.command in
    let word : one.word ≡ other.word = ap second_item args in
    let subject = subst (λ w. IsSubject (takes_size a.command) w a.subject) word one.subject in
    record {
      command = command;
      subject = same_subject (takes_size b.command) other.word a.subject b.subject (subst (λ k. IsSubject (takes_size k) other.word a.subject) command subject) other.subject;
      brief = same_flag (takes_brief b.command) s.briefs a.brief b.brief (subst (λ k. IsFlag (takes_brief k) s.briefs a.brief) command one.brief) other.brief;
      conflicts = same_choice (takes_conflicts b.command) 1 20000 10000 s.conflicts a.conflicts b.conflicts (subst (λ k. IsOptionValue (takes_conflicts k) 1 20000 10000 s.conflicts a.conflicts) command one.conflicts) other.conflicts;
      threads = same_choice (takes_threads b.command) 0 8 1 s.threads a.threads b.threads (subst (λ k. IsOptionValue (takes_threads k) 0 8 1 s.threads a.threads) command one.threads) other.threads;
    }

-- arguments are one command line at most
pub same_line_of_words : (args : List (List ℕ)) (a b : CommandLine) → IsCommandLine args a → IsCommandLine args b → IsSameLine a b
same_line_of_words args a b one other = same_line (parsed other.parts) a b (subst (λ ps. IsLineOf (parsed ps) a) (same_reading one.reads other.reads) one.line_of) other.line_of
