-- One statement is the first whose value is out of range.
use Rattle.std.proofs.Common.{◌≡◌, ℕ, List, [], ◌∷◌, ◌++◌, ap, sym, subst, ◌∙◌}
use Rattle.std.specs.List.{All}
use Rattle.std.proofs.lemmas.List.Elements.{All-head, All-tail}
use Rattle.bspl_types.specs.declared.expanded.Expanded.{Expanded}
use Rattle.agent_scripts.specs.declared.statement.Stated.{Stated}
use Rattle.agent_scripts.specs.Refusal.{IsFirstOutOfRange}
use Rattle.agent_scripts.specs.ScriptText.{HasValueInRange}

-- where all are good, none is bad
all_good : {X : Type 0} (P : X → Type 0) (before : List X) (s : X) (after : List X) → All P (before ++ s ∷ after) → P s
all_good P [] s after all = All-head P s after all
all_good P (y ∷ before) s after all = all_good P before s after (All-tail P y (before ++ s ∷ after) all)

-- the first bad item of a list is one
one_first : {X : Type 0} (P : X → Type 0) (before : List X) (s : X) (after also : List X) (t : X) (rest : List X) → before ++ s ∷ after ≡ also ++ t ∷ rest → All P before → ¬ P s → All P also → ¬ P t → s ≡ t
one_first P [] s after [] t rest whole good bad good_too bad_too = cc
one_first P [] s after (z ∷ also) t rest whole good bad good_too bad_too =
    let first : z ≡ s = cc in
    absurd (bad (subst P first (All-head P z also good_too)))
one_first P (y ∷ before) s after [] t rest whole good bad good_too bad_too =
    let first : y ≡ t = cc in
    absurd (bad_too (subst P first (All-head P y before good)))
one_first P (y ∷ before) s after (z ∷ also) t rest whole good bad good_too bad_too =
    let later : before ++ s ∷ after ≡ also ++ t ∷ rest = cc in
    one_first P before s after also t rest later (All-tail P y before good) bad (All-tail P z also good_too) bad_too

-- the first line with a value out of range is one
pub one_out : (x : Expanded) (stated : List Stated) (n m : ℕ) → IsFirstOutOfRange x stated n → IsFirstOutOfRange x stated m → n ≡ m
one_out x stated n m one two =
    let same = one_first (HasValueInRange x stated) one.before one.s one.after two.before two.s two.after (sym one.parts ∙ two.parts) one.in_range one.out two.in_range two.out in
    one.number ∙ ap (λ (s : Stated). s.line) same ∙ sym two.number

-- there is none if all values are in range
pub none_out : (x : Expanded) (stated : List Stated) (n : ℕ) → All (HasValueInRange x stated) stated → IsFirstOutOfRange x stated n → ⊥
none_out x stated n all first = first.out (all_good (HasValueInRange x stated) first.before first.s first.after (subst (All (HasValueInRange x stated)) first.parts all))
