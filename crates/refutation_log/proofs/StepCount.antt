-- How many steps a text can have.
use Rattle.std.proofs.Common.{ℕ, ◌≤◌, List, [], ◌∷◌, ◌++◌, length, subst, sym, arith, length-append, codes}
use Rattle.std.specs.List.{flat_map, join_with_byte}
use Rattle.refutation_log.specs.declared.refutation.Kind.{Kind}
use Rattle.refutation_log.specs.declared.refutation.Entry.{Entry}
use Rattle.refutation_log.specs.declared.refutation.Entry.TheVariants.{Step, Drop}
use Rattle.refutation_log.specs.declared.refutation.Log.{Log}
use Rattle.refutation_log.specs.Entries.{entries, steps_of}
use Rattle.refutation_log.specs.LogText.{IsTextOf, header_line, entry_fields, entry_line}
use Rattle.list_base.specs.Lines.{end_line}
use Rattle.refutation_log.proofs.LogLemmas.{log_steps}

-- the line of each entry has its LF
steps_in_lines : (log : List Entry) → length (steps_of log) ≤ length (flat_map entry_line log)
steps_in_lines [] = omega arith
steps_in_lines (Step step ∷ log) =
    omega (arith, steps_in_lines log, length-append (entry_line (Step step)) (flat_map entry_line log), length-append (join_with_byte 32 (entry_fields (Step step))) (codes "\n"))
steps_in_lines (Drop numbers ∷ log) = omega (arith, steps_in_lines log, length-append (entry_line (Drop numbers)) (flat_map entry_line log))

-- what stands in the middle is no longer than the whole
middle_within : (n : ℕ) (xs ys zs : List ℕ) → n ≤ length ys → n ≤ length (xs ++ ys ++ zs)
middle_within n xs ys zs within = omega (arith, length-append (xs ++ ys) zs, length-append xs ys)

-- so the lines of all steps have as many bytes
pub steps_in_log : (log : Log) → length log.steps ≤ length (flat_map entry_line (entries log))
steps_in_log log = subst (λ steps. length steps ≤ length (flat_map entry_line (entries log))) (log_steps log) (steps_in_lines (entries log))

-- and the text has these lines
pub steps_in_text : (text : List ℕ) (kind : Kind) (log : Log) → IsTextOf text kind log → length log.steps ≤ length text
steps_in_text text kind log is =
    subst (λ bytes. length log.steps ≤ length bytes) (sym is.text) (middle_within (length log.steps) (header_line is.version kind) (flat_map entry_line (entries log)) end_line (steps_in_log log))
