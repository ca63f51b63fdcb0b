-- One use more: what makes it pass, and the row that it adds.
use Rattle.std.proofs.Common.{◌≡◌, ◌≤◌, ◌+◌, ◌++◌, ◌&&◌, ℕ, zero, suc, Bool, true, false, cond, List, [], ◌∷◌, length, Some, None, refl, sym, ap, subst, ◌∙◌, arith, codes}
use Rattle.clap.specs.Walk.{Row, Rule, Text, has_row, used}
use Rattle.clap.specs.Kinds.{or_else}
use Rattle.clap.specs.Faults.{use_fault}
use Rattle.clap.specs.declared.error.kind.ErrorKind.{ErrorKind}
use Rattle.command_line.specs.Argument.{Brief, Conflicts, Threads, Positional}
use Rattle.command_line.specs.ParsedArgs.{ParsedArgs, add}
use Rattle.command_line.proofs.Rows.{Rows, row, found, flag_row, value_row, rest_of, none_found, new_row, found_new, found_other}
use Rattle.command_line.proofs.Rules.{with_one, brief_rule, conflicts_rule, threads_rule, command_rule, name_rule}

-- a use passes where there is no row of the argument yet
once_from : (k : ErrorKind) (b : Bool) → or_else (cond (b && true) (k ∷ []) []) [] ≡ [] → b ≡ false
once_from k true none = (let bad : k ∷ [] ≡ [] = none in cc)
once_from k false none = refl

once_to : (k : ErrorKind) (b : Bool) → b ≡ false → or_else (cond (b && true) (k ∷ []) []) [] ≡ []
once_to k b none = rw none refl

pub free_from : (a : Rule) (v : Text) (rows : List Row) → use_fault false (with_one a) (v ∷ []) rows ≡ [] → has_row a.id rows ≡ false
free_from a v rows none = once_from _ (has_row a.id rows) none

pub free_to : (a : Rule) (v : Text) (rows : List Row) → has_row a.id rows ≡ false → use_fault false (with_one a) (v ∷ []) rows ≡ []
free_to a v rows none = once_to _ (has_row a.id rows) none

pub brief_from : (rows : List Row) → use_fault false brief_rule [] rows ≡ [] → has_row (codes "brief") rows ≡ false
brief_from rows none = once_from _ (has_row (codes "brief") rows) none

pub brief_to : (rows : List Row) → has_row (codes "brief") rows ≡ false → use_fault false brief_rule [] rows ≡ []
brief_to rows none = once_to _ (has_row (codes "brief") rows) none

-- no row, no value
no_flag : (n : ℕ) → flag_row n ≡ None → n ≡ 0
no_flag zero none = refl
no_flag (suc n) none = (let bad : Some (row (codes "brief") (codes "true")) ≡ None = none in cc)

no_value : (id : Text) (values : List Text) → value_row id values ≡ None → values ≡ []
no_value id [] none = refl
no_value id (v ∷ values) none = (let bad : Some (row id v) ≡ None = none in cc)

pub no_briefs : (rows : List Row) (s : ParsedArgs) → Rows rows s → has_row (codes "brief") rows ≡ false → s.briefs ≡ 0
no_briefs rows s are none = no_flag s.briefs (sym are.brief ∙ none_found (codes "brief") rows none)

pub no_conflicts : (rows : List Row) (s : ParsedArgs) → Rows rows s → has_row (codes "conflicts") rows ≡ false → s.conflicts ≡ []
no_conflicts rows s are none = no_value (codes "conflicts") s.conflicts (sym are.conflicts ∙ none_found (codes "conflicts") rows none)

pub no_threads : (rows : List Row) (s : ParsedArgs) → Rows rows s → has_row (codes "threads") rows ≡ false → s.threads ≡ []
no_threads rows s are none = no_value (codes "threads") s.threads (sym are.threads ∙ none_found (codes "threads") rows none)

-- the rows with one more, where nothing of its kind was said
pub with_brief : (rows : List Row) (s : ParsedArgs) → Rows rows s → s.briefs ≡ 0 → has_row (codes "brief") rows ≡ false → Rows (used brief_rule [] rows) (add s Brief)
with_brief rows s are none free =
    let r = row (codes "brief") (codes "true") in
    let flag : flag_row (s.briefs + 1) ≡ Some r = rw none refl in
    subst (λ rs. Rows rs (add s Brief)) (sym (new_row (codes "brief") (codes "true") rows free)) (record {
      brief = found_new (codes "brief") rows r (none_found (codes "brief") rows free) refl ∙ sym flag;
      conflicts = found_other (codes "conflicts") rows r refl ∙ are.conflicts;
      threads = found_other (codes "threads") rows r refl ∙ are.threads;
      command = found_other (codes "command") rows r refl ∙ are.command;
      name = found_other (codes "name") rows r refl ∙ are.name;
      lean = record { briefs = omega (arith, none); conflicts = are.lean.conflicts; threads = are.lean.threads; positional = are.lean.positional };
    })

pub with_conflicts : (rows : List Row) (s : ParsedArgs) (v : Text) → Rows rows s → s.conflicts ≡ [] → has_row (codes "conflicts") rows ≡ false → Rows (used conflicts_rule (v ∷ []) rows) (add s (Conflicts v))
with_conflicts rows s v are none free =
    let r = row (codes "conflicts") v in
    let one : s.conflicts ++ v ∷ [] ≡ v ∷ [] = ap (λ vs. vs ++ v ∷ []) none in
    let few : length (s.conflicts ++ v ∷ []) ≤ 1 = (let size = ap length one in omega (arith, size)) in
    subst (λ rs. Rows rs (add s (Conflicts v))) (sym (new_row (codes "conflicts") v rows free)) (record {
      brief = found_other (codes "brief") rows r refl ∙ are.brief;
      conflicts = found_new (codes "conflicts") rows r (none_found (codes "conflicts") rows free) refl ∙ sym (ap (value_row (codes "conflicts")) one);
      threads = found_other (codes "threads") rows r refl ∙ are.threads;
      command = found_other (codes "command") rows r refl ∙ are.command;
      name = found_other (codes "name") rows r refl ∙ are.name;
      lean = record { briefs = are.lean.briefs; conflicts = few; threads = are.lean.threads; positional = are.lean.positional };
    })

pub with_threads : (rows : List Row) (s : ParsedArgs) (v : Text) → Rows rows s → s.threads ≡ [] → has_row (codes "threads") rows ≡ false → Rows (used threads_rule (v ∷ []) rows) (add s (Threads v))
with_threads rows s v are none free =
    let r = row (codes "threads") v in
    let one : s.threads ++ v ∷ [] ≡ v ∷ [] = ap (λ vs. vs ++ v ∷ []) none in
    let few : length (s.threads ++ v ∷ []) ≤ 1 = (let size = ap length one in omega (arith, size)) in
    subst (λ rs. Rows rs (add s (Threads v))) (sym (new_row (codes "threads") v rows free)) (record {
      brief = found_other (codes "brief") rows r refl ∙ are.brief;
      conflicts = found_other (codes "conflicts") rows r refl ∙ are.conflicts;
      threads = found_new (codes "threads") rows r (none_found (codes "threads") rows free) refl ∙ sym (ap (value_row (codes "threads")) one);
      command = found_other (codes "command") rows r refl ∙ are.command;
      name = found_other (codes "name") rows r refl ∙ are.name;
      lean = record { briefs = are.lean.briefs; conflicts = are.lean.conflicts; threads = few; positional = are.lean.positional };
    })

pub with_command : (rows : List Row) (s : ParsedArgs) (w : Text) → Rows rows s → s.positional ≡ [] → has_row (codes "command") rows ≡ false → Rows (used command_rule (w ∷ []) rows) (add s (Positional w))
with_command rows s w are none free =
    let r = row (codes "command") w in
    let one : s.positional ++ w ∷ [] ≡ w ∷ [] = ap (λ ws. ws ++ w ∷ []) none in
    let few : length (s.positional ++ w ∷ []) ≤ 2 = (let size = ap length one in omega (arith, size)) in
    let nothing : found (codes "name") rows ≡ None = are.name ∙ ap (λ ws. value_row (codes "name") (rest_of ws)) none in
    subst (λ rs. Rows rs (add s (Positional w))) (sym (new_row (codes "command") w rows free)) (record {
      brief = found_other (codes "brief") rows r refl ∙ are.brief;
      conflicts = found_other (codes "conflicts") rows r refl ∙ are.conflicts;
      threads = found_other (codes "threads") rows r refl ∙ are.threads;
      command = found_new (codes "command") rows r (none_found (codes "command") rows free) refl ∙ sym (ap (value_row (codes "command")) one);
      name = found_other (codes "name") rows r refl ∙ nothing ∙ sym (ap (λ ws. value_row (codes "name") (rest_of ws)) one);
      lean = record { briefs = are.lean.briefs; conflicts = are.lean.conflicts; threads = are.lean.threads; positional = few };
    })

pub with_name : (rows : List Row) (s : ParsedArgs) (first w : Text) → Rows rows s → s.positional ≡ first ∷ [] → has_row (codes "name") rows ≡ false → Rows (used name_rule (w ∷ []) rows) (add s (Positional w))
with_name rows s first w are one free =
    let r = row (codes "name") w in
    let two : s.positional ++ w ∷ [] ≡ first ∷ w ∷ [] = ap (λ ws. ws ++ w ∷ []) one in
    let few : length (s.positional ++ w ∷ []) ≤ 2 = (let size = ap length two in omega (arith, size)) in
    let command : found (codes "command") rows ≡ Some (row (codes "command") first) = are.command ∙ ap (value_row (codes "command")) one in
    subst (λ rs. Rows rs (add s (Positional w))) (sym (new_row (codes "name") w rows free)) (record {
      brief = found_other (codes "brief") rows r refl ∙ are.brief;
      conflicts = found_other (codes "conflicts") rows r refl ∙ are.conflicts;
      threads = found_other (codes "threads") rows r refl ∙ are.threads;
      command = found_other (codes "command") rows r refl ∙ command ∙ sym (ap (value_row (codes "command")) two);
      name = found_new (codes "name") rows r (none_found (codes "name") rows free) refl ∙ sym (ap (λ ws. value_row (codes "name") (rest_of ws)) two);
      lean = record { briefs = are.lean.briefs; conflicts = are.lean.conflicts; threads = are.lean.threads; positional = few };
    })
