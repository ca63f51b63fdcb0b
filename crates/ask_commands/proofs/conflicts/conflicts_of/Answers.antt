-- One argument alone.
use Rattle.std.proofs.Common.{◌≡◌, ℕ, List, [], length, sym, subst, arith}
use Rattle.std.specs.Prelude.{MatchOption}
use Rattle.ask_commands.specs.AskArguments.{SetsConflicts}
use Rattle.ask_commands.proofs.ArgumentLemmas.{one_value}
use Rattle.ask_commands.proofs.conflicts.conflicts_of.Goals as goal

pub returns-in-len1 : goal.returns-in-len1
returns-in-len1 c =
    let one : length c.args.args.now ≡ 1 = omega (arith, c.in-len1.len_at_least, c.in-len1.len_below) in
    subst (λ (values : List (List ℕ)). MatchOption c.joined_conflicts.result ((n : ℕ) → ¬ SetsConflicts values n) (SetsConflicts values)) (sym (one_value c.args.args.now (record { ref_ptr = (0, 0); now = [] }) one)) c.joined_conflicts.ensures
