-- The name that was looked up is the first unknown one.
use Rattle.std.proofs.Common.{[], ◌∷◌, subst, sym}
use Rattle.std.proofs.Common.{ℕ, List}
use Rattle.question_text.specs.declared.unknown.UnknownName.TheVariants.{Message}
use Rattle.question_text.specs.Unknown.{IsFirstUnknownIn}
use Rattle.question_text.proofs.UnknownLemmas.{only_unknown}
use Rattle.question_text.proofs.asked.message_number.Goals as goal

pub returns-in_ok-try_clone-in-None-clause-refused : goal.returns-in_ok-try_clone-in-None-clause-refused
returns-in_ok-try_clone-in-None-clause-refused c =
    let x = c.args.x.now in
    let name = c.args.name.now in
    subst (λ (copy : List ℕ). IsFirstUnknownIn x (Message name ∷ []) (Message copy)) (sym c.in_ok-try_clone-in-None.ensures) (only_unknown x (Message name) (rw c.as_slice.ensures at c.in-None.ensures))
