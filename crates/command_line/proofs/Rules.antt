-- The command that `clap` builds, and how a walk over arguments begins and ends.
use Rattle.std.proofs.Common.{◌≡◌, true, false, List, [], ◌∷◌, Option, Some, None, refl, ap, ◌∙◌, codes}
use Rattle.std.specs.List.{fold}
use Rattle.std.specs.Option.{option_map_or}
use Rattle.std.specs.Prelude.{option_and_then, is_some}
use Rattle.clap.specs.Walk.{Held, Rule, Text, Walk, settled, nothing_held, finished, walk, walk_from, walked}
use Rattle.clap.specs.Simple.{App, Shape, built, new_shape, entered, is_simple}
use Rattle.clap.specs.Words.{new_rule}
use Rattle.clap.specs.Kinds.{Kinds, or_else}
use Rattle.clap.specs.Faults.{fault_of, entered_fault, settle_fault, defaults_fault, check_fault, walk_fault, turn_fault, is_simple_and_free}
use Rattle.clap.specs.declared.builder.action.ArgAction.TheVariants.{Set}
use Rattle.clap.specs.declared.builder.value_parser.ValueParser.TheVariants as vp
use Rattle.command_line.specs.Clap.{cli_app, brief_arg, conflicts_arg, threads_arg}

-- the arguments with what `clap` fills in
abbrev pub with_one : Rule → Rule
with_one a = record a { action = Some Set; range = Some (record { start_inclusive = 1; end_inclusive = 1 }); parser = Some vp.String }

abbrev pub brief_rule : Rule
brief_rule = record brief_arg { range = Some (record { start_inclusive = 0; end_inclusive = 0 }); defaults = codes "false" ∷ []; missing = codes "true" ∷ []; parser = Some vp.Bool }

abbrev pub conflicts_rule : Rule
conflicts_rule = with_one conflicts_arg

abbrev pub threads_rule : Rule
threads_rule = with_one threads_arg

abbrev pub command_rule : Rule
command_rule = record (with_one (new_rule (codes "command"))) { index = Some 1 }

abbrev pub name_rule : Rule
name_rule = record (with_one (new_rule (codes "name"))) { index = Some 2 }

abbrev pub rules : List Rule
rules = brief_rule ∷ conflicts_rule ∷ threads_rule ∷ command_rule ∷ name_rule ∷ []

abbrev pub shape : Shape
shape = record (new_shape (codes "bspl")) { rules = rules; no_binary_name = true; disable_help_flag = true; disable_help_subcommand = true; disable_version_flag = true; is_built = true }

abbrev app : App
app = record { top = shape; subs = [] }

pub built_is : built cli_app ≡ app
built_is = refl

pub app_is_simple : is_simple cli_app ≡ true
app_is_simple = refl

pub app_is_free : is_simple_and_free cli_app ≡ true
app_is_free = refl

-- ---- the fault of a walk

-- what fails at the end of a walk
abbrev pub tail_fault : Held → Kinds
tail_fault end = or_else (settle_fault rules false end) (or_else (defaults_fault (settled rules end).rows rules) (check_fault shape (finished rules end) false))

-- what fails from here on
abbrev pub whole_fault : Walk → List Text → Kinds
whole_fault w args = or_else (walk_fault shape [] w args) (tail_fault (fold (walked rules []) w args).held)

no_entry : {X Y : Type 0} (o : Option X) → option_and_then (λ (x : X). let none : Option Y = None in none) o ≡ None
no_entry None = refl
no_entry (Some x) = refl

no_entry_fault : {X : Type 0} (o : Option X) → option_map_or (λ (x : X). let none : Kinds = [] in none) o [] ≡ []
no_entry_fault None = refl
no_entry_fault (Some x) = refl

pub fault_is : (args : List Text) → fault_of cli_app args ≡ whole_fault (walk_from nothing_held) args
fault_is args =
    let stop = (walk rules [] nothing_held args).stopped in
    let inside : entered_fault app stop ≡ [] = no_entry_fault stop in
    let alone : is_some (entered app stop) ≡ false = ap is_some (no_entry stop) in
    rw (inside, alone) refl

-- a part of a fault
pub fault_parts : (a b : Kinds) → or_else a b ≡ [] → (a ≡ []) × (b ≡ [])
fault_parts [] b none = (refl, none)
fault_parts (k ∷ ks) b none = (none, absurd (let bad : k ∷ ks ≡ [] = none in cc))

pub no_fault : (a b : Kinds) → a ≡ [] → b ≡ [] → or_else a b ≡ []
no_fault a b first second = ap (λ x. or_else x b) first ∙ second

either_way : (a b c : Kinds) → or_else (or_else a b) c ≡ or_else a (or_else b c)
either_way [] b c = refl
either_way (k ∷ ks) b c = refl

-- one argument, and the others
pub whole_next : (w after : Walk) (word : Text) (rest : List Text) → walked rules [] w word ≡ after → whole_fault w (word ∷ rest) ≡ or_else (turn_fault shape [] w word) (whole_fault after rest)
unfolding walk_fault
whole_next w after word rest is =
    either_way (turn_fault shape [] w word) (walk_fault shape [] (walked rules [] w word) rest) (tail_fault (fold (walked rules []) (walked rules [] w word) rest).held)
    ∙ ap (λ v. or_else (turn_fault shape [] w word) (whole_fault v rest)) is
