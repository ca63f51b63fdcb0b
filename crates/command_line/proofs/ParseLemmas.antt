-- What arguments say, step by step from the left.
use Rattle.std.proofs.Common.{◌≡◌, ◌↔◌, ℕ, List, [], ◌∷◌, map, refl, sym, ap, subst, ◌∙◌, arith, codes, length-append}
use Rattle.std.specs.List.{fold}
use Rattle.command_line.specs.Argument.{Argument, Brief, Conflicts, Threads, Positional, BeginsWithArgument, ReadsAs, nothing, the_end, next}
use Rattle.command_line.specs.ParsedArgs.{ParsedArgs, add, HasNoRepeats, ParsesTo}
use Rattle.command_line.proofs.Front.{same_front, no_words, no_end}

-- the arguments are all positional
abbrev pub add_words : ParsedArgs → List (List ℕ) → ParsedArgs
add_words s args = fold add s (map Positional args)

-- reading the arguments after one thing is reading the rest after the other
abbrev pub ReadsOn : List (List ℕ) → ParsedArgs → List (List ℕ) → ParsedArgs → Type 0
ReadsOn args before rest after = (s : ParsedArgs) → ParsesTo args before s ↔ ParsesTo rest after s

-- no arguments have no part
none_read : {args : List (List ℕ)} {parts : List Argument} → ReadsAs args parts → args ≡ [] → parts ≡ []
none_read nothing e = refl
none_read (the_end rest) e = absurd (cc)
none_read (next args part rest parts begins reads) e = absurd (no_words (subst (λ ws. BeginsWithArgument ws part rest) e begins))

-- after `--` all arguments are positional
end_read : {args : List (List ℕ)} {parts : List Argument} → ReadsAs args parts → (rest : List (List ℕ)) → args ≡ codes "--" ∷ rest → parts ≡ map Positional rest
end_read nothing others e = absurd (cc)
end_read (the_end rest) others e = (let same : rest ≡ others = cc in ap (map Positional) same)
end_read (next args part rest parts begins reads) others e = absurd (no_end others (subst (λ ws. BeginsWithArgument ws part rest) e begins))

-- the others are read after the first part
pub record ReadBehind (part : Argument) (left : List (List ℕ)) (parts : List Argument) : Type 0 where
  pub others : List Argument
  pub reads : ReadsAs left others
  pub parts_are : parts ≡ part ∷ others

part_read : {args : List (List ℕ)} {parts : List Argument} → ReadsAs args parts → (first : Argument) (left : List (List ℕ)) → BeginsWithArgument args first left → ReadBehind first left parts
part_read nothing first left begins = absurd (no_words begins)
part_read (the_end rest) first left begins = absurd (no_end rest begins)
part_read (next args part rest parts other reads) first left begins =
    let same = same_front other begins in
    record { others = parts; reads = subst (λ ws. ReadsAs ws parts) same.1 reads; parts_are = ap (λ p. p ∷ parts) same.0 }

-- arguments are read in one way
pub same_reading : {args : List (List ℕ)} {one other : List Argument} → ReadsAs args one → ReadsAs args other → one ≡ other
same_reading nothing reads = sym (none_read reads refl)
same_reading (the_end rest) reads = sym (end_read reads rest refl)
same_reading (next args part rest parts begins after) reads =
    let others = part_read reads part rest begins in
    ap (λ ps. part ∷ ps) (same_reading after others.reads) ∙ sym others.parts_are

-- no arguments say nothing
pub says_nothing : (s : ParsedArgs) → ParsesTo [] s s
says_nothing s = record { parts = []; reads = nothing; after_is = refl }

pub nothing_more : (before after : ParsedArgs) → ParsesTo [] before after → after ≡ before
nothing_more before after says = says.after_is ∙ ap (fold add before) (none_read says.reads refl)

-- after one part, and after `--`, reading goes on
pub on_part : (args : List (List ℕ)) (part : Argument) (left : List (List ℕ)) (before : ParsedArgs) → BeginsWithArgument args part left → ReadsOn args before left (add before part)
on_part args part left before begins s = (
  λ says.
      let after = part_read says.reads part left begins in
      record { parts = after.others; reads = after.reads; after_is = says.after_is ∙ ap (fold add before) after.parts_are },
  λ says. record { parts = part ∷ says.parts; reads = next args part left says.parts begins says.reads; after_is = says.after_is },
)

pub on_end : (rest : List (List ℕ)) (before : ParsedArgs) → ReadsOn (codes "--" ∷ rest) before [] (add_words before rest)
on_end rest before s = (
  λ says.
      let same : s ≡ add_words before rest = says.after_is ∙ ap (fold add before) (end_read says.reads rest refl) in
      subst (λ t. ParsesTo [] (add_words before rest) t) (sym same) (says_nothing (add_words before rest)),
  λ says. record { parts = map Positional rest; reads = the_end rest; after_is = nothing_more (add_words before rest) s says },
)

-- what stands too often still does after more parts
lean_part : (s : ParsedArgs) (part : Argument) → HasNoRepeats (add s part) → HasNoRepeats s
lean_part s Brief lean = record { briefs = (let h = lean.briefs in omega arith); conflicts = lean.conflicts; threads = lean.threads; positional = lean.positional }
lean_part s (Conflicts value) lean = record { briefs = lean.briefs; conflicts = (let h = lean.conflicts in omega (arith, h, length-append s.conflicts (value ∷ []))); threads = lean.threads; positional = lean.positional }
lean_part s (Threads value) lean = record { briefs = lean.briefs; conflicts = lean.conflicts; threads = (let h = lean.threads in omega (arith, h, length-append s.threads (value ∷ []))); positional = lean.positional }
lean_part s (Positional word) lean = record { briefs = lean.briefs; conflicts = lean.conflicts; threads = lean.threads; positional = (let h = lean.positional in omega (arith, h, length-append s.positional (word ∷ []))) }

pub lean_before : (s : ParsedArgs) (parts : List Argument) → HasNoRepeats (fold add s parts) → HasNoRepeats s
lean_before s [] lean = lean
lean_before s (part ∷ parts) lean = lean_part s part (lean_before (add s part) parts lean)
