-- The arguments that a command line may have, one by one, and that it has no others.
use Rattle.std.proofs.Common.{◌≡◌, ◌++◌, ℕ, Bool, true, false, not, eqb, List, [], ◌∷◌, drop, map, inl, inr, refl, sym, subst, codes, nat_eq}
use Rattle.std.specs.Char.{is_ascii_digit}
use Rattle.std.specs.List.{fold, list_all, list_any, starts_with, slice_split, onto_first}
use Rattle.std.specs.Str.{bytes_eq}
use Rattle.std.proofs.lemmas.Bool.{cases_Bool, eqb-true, or_cases, and_parts, and_from}
use Rattle.std.proofs.lemmas.Bool.Decides.{Decides-eqb}
use Rattle.std.proofs.lemmas.List.Splits.{slice_split-cons_no}
use Rattle.std.proofs.lemmas.Slice.Eq.{bytes_eq-Decides, starts_is}
use Rattle.bspl_types.specs.Name.{begins_name, is_name_rest, is_plain_name, is_group, is_grouped, is_reserved, is_name}
use Rattle.command_line.specs.declared.command.Command.{Command}
use Rattle.command_line.specs.declared.command.Command.TheVariants.{Verify, Check, Replay, Expand, Run, Restart, Generate, Dead, CheckDead, Serve, Audit}
use Rattle.command_line.specs.declared.line.CommandLine.{CommandLine}
use Rattle.command_line.specs.declared.line.Subject.{Subject}
use Rattle.command_line.specs.declared.line.Subject.TheVariants.{Protocol, Size}
use Rattle.command_line.specs.Command.{command_word, takes_size}
use Rattle.list_base.specs.Numeral.{numeral}
use Rattle.list_base.proofs.Numerals.{tests_digits}
use Rattle.command_line.specs.Known.{options, is_known}
use Rattle.command_line.specs.Line.{IsSubject, IsCommandLine}
use Rattle.command_line.specs.Argument.{Argument, Brief, Conflicts, Threads, Positional, begins_with_dash, IsAlone, brief, conflicts_joined, threads_joined, positional, BeginsWithArgument, alone, conflicts_next, threads_next, ReadsAs, nothing, the_end, next}
use Rattle.command_line.specs.ParsedArgs.{ParsedArgs, add, nothing_parsed}

-- the arguments that are known
pub data IsKnown : List ℕ → Type 0 where
  plain : (word : List ℕ) → begins_with_dash word ≡ false → IsKnown word
  the_dashes : IsKnown (codes "--")
  the_flag : IsKnown (codes "--brief")
  conflicts_apart : IsKnown (codes "--conflicts")
  threads_apart : IsKnown (codes "--threads")
  conflicts_with : (value : List ℕ) → IsKnown (codes "--conflicts=" ++ value)
  threads_with : (value : List ℕ) → IsKnown (codes "--threads=" ++ value)

-- ---- the test finds them

same_word : (word text : List ℕ) → bytes_eq word text ≡ true → IsKnown text → IsKnown word
same_word word text same is = subst IsKnown (sym ((bytes_eq-Decides word text).0 same)) is

option_known : (word : List ℕ) → list_any (bytes_eq word) options ≡ true → IsKnown word
option_known word is = elim (or_cases _ _ is) [
  | inl first ↦ same_word word (codes "--") first the_dashes
  | inr others ↦ elim (or_cases _ _ others) [
    | inl second ↦ same_word word (codes "--brief") second the_flag
    | inr more ↦ elim (or_cases _ _ more) [
      | inl third ↦ same_word word (codes "--conflicts") third conflicts_apart
      | inr last ↦ elim (or_cases _ _ last) [
        | inl fourth ↦ same_word word (codes "--threads") fourth threads_apart
        | inr none ↦ absurd (let bad : false ≡ true = none in cc)
      ]
    ]
  ]
]

no_dash_from : (b : Bool) → not b ≡ true → b ≡ false
no_dash_from true bad = sym bad
no_dash_from false is = refl

pub known_from : (word : List ℕ) → is_known word ≡ true → IsKnown word
known_from word is = elim (or_cases _ _ is) [
  | inl first ↦ elim (or_cases _ _ first) [
    | inl second ↦ elim (or_cases _ _ second) [
      | inl third ↦ plain word (no_dash_from (begins_with_dash word) third)
      | inr option ↦ option_known word option
    ]
    | inr conflicts ↦
        let parts = (starts_is Decides-eqb word (codes "--conflicts=") (starts_with nat_eq word (codes "--conflicts=")) refl).0 conflicts in
        subst IsKnown (sym parts) (conflicts_with (drop 12 word))
  ]
  | inr threads ↦
      let parts = (starts_is Decides-eqb word (codes "--threads=") (starts_with nat_eq word (codes "--threads=")) refl).0 threads in
      subst IsKnown (sym parts) (threads_with (drop 10 word))
]

pub known_head : (word : List ℕ) (rest : List (List ℕ)) → list_all is_known (word ∷ rest) ≡ true → IsKnown word
known_head word rest known = known_from word (and_parts (is_known word) (list_all is_known rest) known).0

pub known_tail : (word : List ℕ) (rest : List (List ℕ)) → list_all is_known (word ∷ rest) ≡ true → list_all is_known rest ≡ true
known_tail word rest known = (and_parts (is_known word) (list_all is_known rest) known).1

-- ---- a command line has no others

plain_known : (word : List ℕ) → begins_with_dash word ≡ false → is_known word ≡ true
plain_known word is = rw is refl

alone_known : {word : List ℕ} {part : Argument} → IsAlone word part → ((w : List ℕ) → part ≡ Positional w → begins_with_dash w ≡ false) → is_known word ≡ true
alone_known brief bare = refl
alone_known (conflicts_joined value) bare = refl
alone_known (threads_joined value) bare = refl
alone_known (positional word other) bare = plain_known word (bare word refl)

-- no argument begins with `-`
abbrev pub AllPlain : List (List ℕ) → Type 0
AllPlain [] = Unit {0}
AllPlain (word ∷ args) = (begins_with_dash word ≡ false) × AllPlain args

plain_front : (xs ys : List (List ℕ)) → AllPlain (xs ++ ys) → AllPlain xs
plain_front [] ys are = tt
plain_front (x ∷ xs) ys are = (are.0, plain_front xs ys are.1)

plain_last : (xs : List (List ℕ)) (y : List ℕ) → AllPlain (xs ++ y ∷ []) → begins_with_dash y ≡ false
plain_last [] y are = are.0
plain_last (x ∷ xs) y are = plain_last xs y are.1

plain_before : (s : ParsedArgs) (part : Argument) → AllPlain (add s part).positional → AllPlain s.positional
plain_before s Brief are = are
plain_before s (Conflicts value) are = are
plain_before s (Threads value) are = are
plain_before s (Positional word) are = plain_front s.positional (word ∷ []) are

plain_start : (s : ParsedArgs) (parts : List Argument) → AllPlain (fold add s parts).positional → AllPlain s.positional
plain_start s [] are = are
plain_start s (part ∷ parts) are = plain_before s part (plain_start (add s part) parts are)

plain_positional : (s : ParsedArgs) (part : Argument) (parts : List Argument) → AllPlain (fold add (add s part) parts).positional → (w : List ℕ) → part ≡ Positional w → begins_with_dash w ≡ false
plain_positional s part parts are w is =
    let here : AllPlain (add s (Positional w)).positional = subst (λ q. AllPlain (add s q).positional) is (plain_start (add s part) parts are) in
    plain_last s.positional w here

rest_known : (s : ParsedArgs) (rest : List (List ℕ)) → AllPlain (fold add s (map Positional rest)).positional → list_all is_known rest ≡ true
rest_known s [] are = refl
rest_known s (word ∷ rest) are =
    and_from (is_known word) (list_all is_known rest) (plain_known word (plain_positional s (Positional word) (map Positional rest) are word refl)) (rest_known (add s (Positional word)) rest are)

part_known : {args : List (List ℕ)} {part : Argument} {left : List (List ℕ)} → BeginsWithArgument args part left → ((w : List ℕ) → part ≡ Positional w → begins_with_dash w ≡ false) → list_all is_known left ≡ true → list_all is_known args ≡ true
part_known (alone word part rest is) bare others = and_from (is_known word) (list_all is_known rest) (alone_known is bare) others
part_known (conflicts_next value rest is) bare others = and_from (is_known value) (list_all is_known rest) (plain_known value is) others
part_known (threads_next value rest is) bare others = and_from (is_known value) (list_all is_known rest) (plain_known value is) others

reading_known : {args : List (List ℕ)} {parts : List Argument} → ReadsAs args parts → (s : ParsedArgs) → AllPlain (fold add s parts).positional → list_all is_known args ≡ true
reading_known nothing s are = refl
reading_known (the_end rest) s are = rest_known s rest are
reading_known (next args part rest parts begins reads) s are = part_known begins (plain_positional s part parts are) (reading_known reads (add s part) are)

-- ---- a command and what it is about do not begin with `-`

command_plain : (command : Command) → begins_with_dash (command_word command) ≡ false
command_plain Verify = refl
command_plain Check = refl
command_plain Replay = refl
command_plain Expand = refl
command_plain Run = refl
command_plain Restart = refl
command_plain Generate = refl
command_plain Dead = refl
command_plain CheckDead = refl
command_plain Serve = refl
command_plain Audit = refl

digits_plain : (word : List ℕ) → list_all is_ascii_digit word ≡ true → begins_with_dash word ≡ false
digits_plain [] are = refl
digits_plain (d ∷ ds) are = elim (cases_Bool (eqb d 45)) [
  | inl dash ↦ absurd (let bad : false ≡ true = rw (eqb-true d 45 dash) at (and_parts (is_ascii_digit d) (list_all is_ascii_digit ds) are).0 in cc)
  | inr other ↦ other
]

number_plain : (word : List ℕ) (n : ℕ) → word ≡ numeral n → begins_with_dash word ≡ false
number_plain word n is = digits_plain word (tests_digits word (n, is))

grouped_first : (b : ℕ) (pieces : List (List ℕ)) → is_grouped (onto_first b pieces) ≡ true → begins_name b ≡ true
grouped_first b [] is = (and_parts (begins_name b) (is_name_rest []) (and_parts (is_plain_name (b ∷ [])) true is).0).0
grouped_first b (p ∷ ps) is = (and_parts (begins_name b) (is_name_rest p) (and_parts (is_plain_name (b ∷ p)) (list_all is_group ps) is).0).0

name_plain : (word : List ℕ) → is_name word ≡ true → begins_with_dash word ≡ false
unfolding is_name
name_plain [] is = refl
name_plain (b ∷ bs) is = elim (cases_Bool (eqb b 45)) [
  | inl dash ↦
      let at : b ≡ 45 = eqb-true b 45 dash in
      let no_hash : eqb b 35 ≡ false = rw at refl in
      let grouped = (and_parts (is_grouped (slice_split (λ x. eqb x 35) (b ∷ bs))) (not (is_reserved (b ∷ bs))) is).0 in
      let cut = subst (λ ps. is_grouped ps ≡ true) (slice_split-cons_no (λ x. eqb x 35) b bs no_hash) grouped in
      let begins = grouped_first b (slice_split (λ x. eqb x 35) bs) cut in
      absurd (let bad : false ≡ true = rw at at begins in cc)
  | inr other ↦ other
]

subject_plain : (generates : Bool) (word : List ℕ) (subject : Subject) → IsSubject generates word subject → begins_with_dash word ≡ false
subject_plain true word (Size n) is = number_plain word n is.written
subject_plain true word (Protocol name) is = absurd is
subject_plain false word (Size n) is = absurd is
subject_plain false word (Protocol name) is = name_plain word is.1

-- a command line has known arguments alone
pub line_known : (args : List (List ℕ)) (line : CommandLine) → IsCommandLine args line → list_all is_known args ≡ true
line_known args line is =
    let two : AllPlain (command_word line.command ∷ is.line_of.word ∷ []) = (command_plain line.command, (subject_plain (takes_size line.command) is.line_of.word line.subject is.line_of.subject, tt)) in
    reading_known is.reads nothing_parsed (subst AllPlain (sym is.line_of.positional) two)
