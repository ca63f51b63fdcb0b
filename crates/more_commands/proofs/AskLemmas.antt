-- Arguments that begin with `ask` are no command line of the tool.
use Rattle.std.proofs.Common.{◌≡◌, ℕ, List, [], ◌∷◌, ◌++◌, codes, get_or, refl, sym, ap, subst, ◌∙◌, arith}
use Rattle.std.specs.List.{fold}
use Rattle.ask_commands.specs.AskTask.{AskTask}
use Rattle.bspl_tool.specs.declared.task.Task.{Task}
use Rattle.bspl_tool.specs.Request.{Requests}
use Rattle.command_line.specs.declared.command.Command.{Command}
use Rattle.command_line.specs.declared.command.Command.TheVariants.{Verify, Check, Replay, Expand, Run, Restart, Generate, Dead, CheckDead, Serve, Audit}
use Rattle.command_line.specs.Argument.{Argument, Brief, Conflicts, Threads, Positional, IsAlone, brief, conflicts_joined, threads_joined, positional, BeginsWithArgument, alone, conflicts_next, threads_next, ReadsAs, nothing, the_end, next}
use Rattle.command_line.specs.Command.{command_word}
use Rattle.command_line.specs.ParsedArgs.{ParsedArgs, add, nothing_parsed, parsed}
use Rattle.more_commands.specs.declared.wording.TheConstants as wording
use Rattle.more_commands.specs.ExplainAsk.{NamesAsk}

-- the first and the second letter of a word, and the first of the first argument
first : List ℕ → ℕ
first text = get_or text 0 0

second : List ℕ → ℕ
second text = get_or text 1 0

first_of : List (List ℕ) → ℕ
first_of args = first (get_or args 0 [])

-- no command of the tool has the word
not_ask : (command : Command) → command_word command ≡ wording.ASK.now → ⊥
unfolding second
not_ask Verify is = let no : 101 ≡ 115 = ap second is in omega (arith, no)
not_ask Check is = let no : 104 ≡ 115 = ap second is in omega (arith, no)
not_ask Replay is = let no : 101 ≡ 115 = ap second is in omega (arith, no)
not_ask Expand is = let no : 120 ≡ 115 = ap second is in omega (arith, no)
not_ask Run is = let no : 117 ≡ 115 = ap second is in omega (arith, no)
not_ask Restart is = let no : 101 ≡ 115 = ap second is in omega (arith, no)
not_ask Generate is = let no : 101 ≡ 115 = ap second is in omega (arith, no)
not_ask Dead is = let no : 101 ≡ 115 = ap second is in omega (arith, no)
not_ask CheckDead is = let no : 104 ≡ 115 = ap second is in omega (arith, no)
not_ask Serve is = let no : 101 ≡ 115 = ap second is in omega (arith, no)
not_ask Audit is = let no : 117 ≡ 115 = ap second is in omega (arith, no)

-- alone it is positional
ask_alone : {word : List ℕ} {part : Argument} → IsAlone word part → word ≡ wording.ASK.now → part ≡ Positional wording.ASK.now
unfolding first
ask_alone brief is = absurd (let no : 45 ≡ 97 = ap first is in omega (arith, no))
ask_alone (conflicts_joined value) is = absurd (let no : 45 ≡ 97 = ap first is in omega (arith, no))
ask_alone (threads_joined value) is = absurd (let no : 45 ≡ 97 = ap first is in omega (arith, no))
ask_alone (positional word other) is = ap Positional is

-- so it is as the first of some arguments
ask_part : {args : List (List ℕ)} {part : Argument} {left : List (List ℕ)} → BeginsWithArgument args part left → (rest : List (List ℕ)) → args ≡ wording.ASK.now ∷ rest → part ≡ Positional wording.ASK.now
unfolding first first_of
ask_part (alone word part left is) rest same = ask_alone is (ap (λ (list : List (List ℕ)). get_or list 0 []) same)
ask_part (conflicts_next value left is) rest same = absurd (let no : 45 ≡ 97 = ap first_of same in omega (arith, no))
ask_part (threads_next value left is) rest same = absurd (let no : 45 ≡ 97 = ap first_of same in omega (arith, no))

-- the words begin with one
record BeginsWith (word : List ℕ) (words : List (List ℕ)) : Type 0 where
  pub others : List (List ℕ)
  pub split : words ≡ word ∷ others

-- the first positional argument stays the first
still_first : (word : List ℕ) (s : ParsedArgs) (part : Argument) → BeginsWith word s.positional → BeginsWith word (add s part).positional
still_first word s Brief begins = begins
still_first word s (Conflicts value) begins = begins
still_first word s (Threads value) begins = begins
still_first word s (Positional other) begins = record { others = begins.others ++ other ∷ []; split = ap (λ (list : List (List ℕ)). list ++ other ∷ []) begins.split }

first_stays : (word : List ℕ) (s : ParsedArgs) (parts : List Argument) → BeginsWith word s.positional → BeginsWith word (fold add s parts).positional
first_stays word s [] begins = begins
first_stays word s (part ∷ parts) begins = first_stays word (add s part) parts (still_first word s part begins)

-- what is parsed begins with the word
ask_read : {args : List (List ℕ)} {parts : List Argument} → ReadsAs args parts → (rest : List (List ℕ)) → args ≡ wording.ASK.now ∷ rest → BeginsWith wording.ASK.now (parsed parts).positional
unfolding first first_of
ask_read nothing rest same = absurd (cc)
ask_read (the_end others) rest same = absurd (let no : 45 ≡ 97 = ap first_of same in omega (arith, no))
ask_read (next args part left parts begins reads) rest same =
    let is = ask_part begins rest same in
    subst (λ (p : Argument). BeginsWith wording.ASK.now (fold add nothing_parsed (p ∷ parts)).positional) (sym is)
    (first_stays wording.ASK.now (add nothing_parsed (Positional wording.ASK.now)) parts (record { others = []; split = refl }))

-- arguments that ask in words request nothing of the tool
pub no_tool_ask : (args : List (List ℕ)) (task : Task) (name : List ℕ) (asked : AskTask) (again : List ℕ) → Requests args task name → NamesAsk args asked again → ⊥
no_tool_ask args task name asked again tool ask =
    let begins = ask_read tool.is_line.reads ask.rest ask.arguments in
    let both = sym tool.is_line.line_of.positional ∙ begins.split in
    not_ask tool.line.command (ap (λ (list : List (List ℕ)). get_or list 0 []) both)
