-- What the getters read of the rows at the end.
use Rattle.std.proofs.Common.{◌≡◌, ◌++◌, ℕ, zero, suc, Bool, true, false, cond, List, [], ◌∷◌, Option, Some, None, inl, inr, refl, sym, ap, subst, ◌∙◌, arith, codes}
use Rattle.std.specs.List.{list_all}
use Rattle.std.specs.Prelude.{option_and_then, slice_get}
use Rattle.std.specs.Str.{bytes_eq}
use Rattle.std.proofs.lemmas.Bool.{cases_Bool}
use Rattle.clap.specs.Walk.{Held, Row, Text, first_of, one_of, row_text, has_row, with_default, with_values, finished, settled, nothing_held, walk}
use Rattle.clap.specs.Words.{matches_of}
use Rattle.clap.specs.Faults.{fault_of}
use Rattle.clap.specs.declared.builder.value_parser.Reading.TheVariants.{AsWritten}
use Rattle.clap.specs.declared.parser.matches.ValueSource.TheVariants.{DefaultValue}
use Rattle.command_line.specs.Clap.{cli_app}
use Rattle.command_line.specs.Known.{is_known}
use Rattle.command_line.specs.ParsedArgs.{ParsedArgs, HasNoRepeats, ParsesTo, nothing_parsed}
use Rattle.command_line.proofs.Rows.{Rows, row, found, flag_row, value_row, rest_of, no_row, found_other, found_new}
use Rattle.command_line.proofs.Rules.{rules, brief_rule, conflicts_rule, threads_rule, command_rule, name_rule, fault_is}
use Rattle.command_line.proofs.Taking.{taking}
use Rattle.command_line.proofs.Passing.{words_pass}

-- the first text
abbrev pub first : List Text → Option Text
first [] = None
first (x ∷ xs) = Some x

abbrev pub flag_text : ℕ → Text
flag_text zero = codes "false"
flag_text (suc n) = codes "true"

-- what the getters read
pub record Reads (rows : List Row) (s : ParsedArgs) : Type 0 where
  pub brief : one_of (codes "brief") rows ≡ Some (flag_text s.briefs)
  pub conflicts : first_of (codes "conflicts") rows ≡ first s.conflicts
  pub threads : first_of (codes "threads") rows ≡ first s.threads
  pub command : first_of (codes "command") rows ≡ first s.positional
  pub name : first_of (codes "name") rows ≡ first (rest_of s.positional)
  pub lean : HasNoRepeats s

-- the first value of a row
value_first : (id : Text) (values : List Text) → option_and_then (λ (r : Row). slice_get r.values 0) (value_row id values) ≡ first values
value_first id [] = refl
value_first id (v ∷ values) = refl

-- `false` stands for the flag that is left out
abbrev default_row : Row
default_row = record { id = codes "brief"; values = codes "false" ∷ []; count = None; source = Some DefaultValue; reading = AsWritten }

with_false : (rows : List Row) → has_row (codes "brief") rows ≡ false → with_values (codes "brief") AsWritten DefaultValue (codes "false" ∷ []) rows ≡ rows ++ default_row ∷ []
with_false [] none = refl
with_false (r ∷ rows) none = elim (cases_Bool (bytes_eq r.id (codes "brief"))) [
  | inl hit ↦ absurd (let bad : true ≡ false = rw hit at none in cc)
  | inr miss ↦ rw miss (ap (λ rs. r ∷ rs) (with_false rows (rw miss at none)))
]

some_row : (id : Text) (rows : List Row) (r : Row) → found id rows ≡ Some r → has_row id rows ≡ true
some_row id [] r is = absurd (let bad : None ≡ Some r = is in cc)
some_row id (x ∷ rows) r is = elim (cases_Bool (bytes_eq x.id id)) [
  | inl hit ↦ rw hit refl
  | inr miss ↦ rw miss (some_row id rows r (rw miss at is))
]

either_way : (b : Bool) (rows : List Row) → cond b rows rows ≡ rows
either_way true rows = refl
either_way false rows = refl

-- only the flag has a default
one_default : (end : Held) → finished rules end ≡ with_default (settled rules end).rows brief_rule
one_default end =
    let one = with_default (settled rules end).rows brief_rule in
    let second : with_default one conflicts_rule ≡ one = either_way (has_row (codes "conflicts") one) one in
    let third : with_default one threads_rule ≡ one = either_way (has_row (codes "threads") one) one in
    let fourth : with_default one command_rule ≡ one = either_way (has_row (codes "command") one) one in
    let fifth : with_default one name_rule ≡ one = either_way (has_row (codes "name") one) one in
    ap (λ rs. with_default (with_default (with_default rs threads_rule) command_rule) name_rule) second
    ∙ ap (λ rs. with_default (with_default rs command_rule) name_rule) third
    ∙ ap (λ rs. with_default rs name_rule) fourth ∙ fifth

reads_rows : (rows : List Row) (s : ParsedArgs) (n : ℕ) → s.briefs ≡ n → Rows rows s → Reads (with_default rows brief_rule) s
reads_rows rows s zero e are =
    let none = no_row (codes "brief") rows (are.brief ∙ ap flag_row e) in
    let missing : found (codes "brief") rows ≡ None = are.brief ∙ ap flag_row e in
    let whole : with_default rows brief_rule ≡ rows ++ default_row ∷ [] = rw none (with_false rows none) in
    subst (λ rs. Reads rs s) (sym whole) (record {
      brief = ap (option_and_then row_text) (found_new (codes "brief") rows default_row missing refl) ∙ sym (ap (λ k. Some (flag_text k)) e);
      conflicts = ap (option_and_then (λ (r : Row). slice_get r.values 0)) (found_other (codes "conflicts") rows default_row refl ∙ are.conflicts) ∙ value_first (codes "conflicts") s.conflicts;
      threads = ap (option_and_then (λ (r : Row). slice_get r.values 0)) (found_other (codes "threads") rows default_row refl ∙ are.threads) ∙ value_first (codes "threads") s.threads;
      command = ap (option_and_then (λ (r : Row). slice_get r.values 0)) (found_other (codes "command") rows default_row refl ∙ are.command) ∙ value_first (codes "command") s.positional;
      name = ap (option_and_then (λ (r : Row). slice_get r.values 0)) (found_other (codes "name") rows default_row refl ∙ are.name) ∙ value_first (codes "name") (rest_of s.positional);
      lean = are.lean;
    })
reads_rows rows s (suc n) e are =
    let here : found (codes "brief") rows ≡ Some (row (codes "brief") (codes "true")) = are.brief ∙ ap flag_row e in
    let some = some_row (codes "brief") rows (row (codes "brief") (codes "true")) here in
    let whole : with_default rows brief_rule ≡ rows = rw some refl in
    subst (λ rs. Reads rs s) (sym whole) (record {
      brief = ap (option_and_then row_text) here ∙ sym (ap (λ k. Some (flag_text k)) e);
      conflicts = ap (option_and_then (λ (r : Row). slice_get r.values 0)) are.conflicts ∙ value_first (codes "conflicts") s.conflicts;
      threads = ap (option_and_then (λ (r : Row). slice_get r.values 0)) are.threads ∙ value_first (codes "threads") s.threads;
      command = ap (option_and_then (λ (r : Row). slice_get r.values 0)) are.command ∙ value_first (codes "command") s.positional;
      name = ap (option_and_then (λ (r : Row). slice_get r.values 0)) are.name ∙ value_first (codes "name") (rest_of s.positional);
      lean = are.lean;
    })

-- before the arguments nothing is held
start_rows : Rows [] nothing_parsed
start_rows = record { brief = refl; conflicts = refl; threads = refl; command = refl; name = refl; lean = record { briefs = omega arith; conflicts = omega arith; threads = omega arith; positional = omega arith } }

-- where no argument fails, the arguments say what the getters read
pub record IsRead (args : List Text) : Type 0 where
  pub after : ParsedArgs
  pub says : ParsesTo args nothing_parsed after
  pub reads : Reads (matches_of cli_app args) after

pub read_words : (args : List Text) → list_all is_known args ≡ true → fault_of cli_app args ≡ [] → IsRead args
read_words args known none =
    let taken = (taking args known).ready [] None 1 nothing_parsed (record { fair = λ passes. start_rows; at = refl }) (sym (fault_is args) ∙ none) in
    let end = (walk rules [] nothing_held args).held in
    let reads = reads_rows (settled rules end).rows taken.after taken.after.briefs refl taken.ends.rows in
    record { after = taken.after; says = taken.says; reads = subst (λ rs. Reads rs taken.after) (sym (one_default end)) reads }

-- arguments that say nothing too often do not fail
pub read_passes : (args : List Text) → list_all is_known args ≡ true → (s : ParsedArgs) → ParsesTo args nothing_parsed s → HasNoRepeats s → fault_of cli_app args ≡ []
read_passes args known s says lean =
    fault_is args ∙ words_pass says.reads known [] None 1 nothing_parsed (record { none = refl; are = start_rows; at = refl }) (subst HasNoRepeats says.after_is lean)
