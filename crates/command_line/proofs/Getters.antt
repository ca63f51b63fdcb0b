-- What the getters of the matches give is what is parsed.
use Rattle.std.proofs.Common.{◌≡◌, ◌≤◌, ◌++◌, ℕ, zero, suc, Bool, true, false, cond, List, [], ◌∷◌, length, Some, inl, inr, refl, ap, ◌∙◌, arith, codes}
use Rattle.std.specs.Option.{option_copied, option_to_list}
use Rattle.clap.specs.Kinds.{Kinds, HasKind}
use Rattle.clap.specs.Matches.{first_value, one_text}
use Rattle.clap.specs.Values.{kind_of}
use Rattle.clap.specs.Walk.{Row, first_of, one_of, rows_of}
use Rattle.clap.specs.declared.error.Error.{Error}
use Rattle.clap.specs.declared.error.kind.ErrorKind.TheVariants.{OutOfMemory}
use Rattle.clap.specs.declared.parser.matches.Found.{Found}
use Rattle.command_line.specs.declared.raw_args.RawArgs.{RawArgs}
use Rattle.command_line.specs.RawArgs.{parsed_of}
use Rattle.command_line.specs.ParsedArgs.{ParsedArgs}
use Rattle.command_line.proofs.FoundRows.{first_in_rows, one_in_rows}
use Rattle.command_line.proofs.Rows.{rest_of}
use Rattle.command_line.proofs.Final.{Reads, first, flag_text}

-- an error where no step fails is out of memory
pub memory_only : (kinds : Kinds) (e : Error) → kinds ≡ [] → HasKind kinds e → kind_of e ≡ OutOfMemory
memory_only [] e none (inl is) = is
memory_only [] e none (inr bad) = absurd bad
memory_only (k ∷ ks) e none is = absurd (let bad : k ∷ ks ≡ [] = none in cc)

one_value : (xs : List (List ℕ)) → length xs ≤ 1 → option_to_list (first xs) ≡ xs
one_value [] few = refl
one_value (x ∷ []) few = refl
one_value (x ∷ y ∷ xs) few = absurd (omega (arith, few))

two_values : (xs : List (List ℕ)) → length xs ≤ 2 → option_to_list (first xs) ++ option_to_list (first (rest_of xs)) ≡ xs
two_values [] few = refl
two_values (x ∷ []) few = refl
two_values (x ∷ y ∷ []) few = refl
two_values (x ∷ y ∷ z ∷ xs) few = absurd (omega (arith, few))

flag_read : (n : ℕ) (on : Bool) → n ≤ 1 → (flag_text n ≡ codes "true" → on ≡ true) → (flag_text n ≡ codes "false" → on ≡ false) → cond on 1 0 ≡ n
flag_read zero on few yes_on no_on = rw (no_on refl) refl
flag_read (suc zero) on few yes_on no_on = rw (yes_on refl) refl
flag_read (suc (suc n)) on few yes_on no_on = absurd (omega (arith, few))

-- the getters give what the rows hold
pub given_is : (given : RawArgs) (f : Found) (rows : List Row) (s : ParsedArgs) → rows_of f ≡ rows → Reads rows s
    → (one_text f (codes "brief") ≡ Some (codes "true") → given.brief ≡ true) → (one_text f (codes "brief") ≡ Some (codes "false") → given.brief ≡ false)
    → option_copied given.conflicts ≡ first_value f (codes "conflicts") → option_copied given.threads ≡ first_value f (codes "threads")
    → option_copied given.command ≡ first_value f (codes "command") → option_copied given.name ≡ first_value f (codes "name") → parsed_of given ≡ s
given_is given f rows s same reads is_on is_off conflicts threads command name =
    let flag = one_in_rows f (codes "brief") ∙ ap (one_of (codes "brief")) same ∙ reads.brief in
    let briefs = flag_read s.briefs given.brief reads.lean.briefs (λ e. is_on (flag ∙ ap Some e)) (λ e. is_off (flag ∙ ap Some e)) in
    let value_of = λ (id : List ℕ). first_in_rows f id ∙ ap (first_of id) same in
    let conflicts_are = ap option_to_list (conflicts ∙ value_of (codes "conflicts") ∙ reads.conflicts) ∙ one_value s.conflicts reads.lean.conflicts in
    let threads_are = ap option_to_list (threads ∙ value_of (codes "threads") ∙ reads.threads) ∙ one_value s.threads reads.lean.threads in
    let command_is = ap option_to_list (command ∙ value_of (codes "command") ∙ reads.command) in
    let name_is = ap option_to_list (name ∙ value_of (codes "name") ∙ reads.name) in
    let args = (λ i. command_is i ++ name_is i) ∙ two_values s.positional reads.lean.positional in
    λ i. record { briefs = briefs i; conflicts = conflicts_are i; threads = threads_are i; positional = args i }
