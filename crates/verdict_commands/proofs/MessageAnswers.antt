-- What `dead` answers, one message after the other.
use Rattle.std.proofs.Common.{◌≡◌, ℕ, ◌+◌, suc, Bool, true, false, ◌||◌, List, [], ◌∷◌, ◌++◌, append_assoc, length, length-append, refl, sym, ◌∙◌, ap, subst, arith, append-nil}
use Rattle.std.specs.Fmt.{decimal}
use Rattle.std.specs.List.{All, enumerate_from, flat_map, list_any}
use Rattle.std.proofs.lemmas.List.{flat_map_more}
use Rattle.std.proofs.lemmas.List.Elements.{All-push}
use Rattle.std.proofs.lemmas.List.Folds.{list_any-append}
use Rattle.bspl_types.specs.declared.expanded.Expanded.{Expanded}
use Rattle.enactability.specs.declared.outcome.Enact.{Enact}
use Rattle.enactability.specs.declared.outcome.Enact.TheVariants.{Dead, Enacted, Undecided}
use Rattle.enactability.specs.Answer.{IsRightEnact}
use Rattle.report.specs.VerdictText.{protocol_line}
use Rattle.tool_input.specs.declared.status.Status.{Status}
use Rattle.tool_input.specs.Lines.{line}
use Rattle.verdict_commands.specs.declared.dead_text.Answered.{Answered}
use Rattle.verdict_commands.specs.declared.wording.TheConstants.{MESSAGE, UNDECIDED}
use Rattle.verdict_commands.specs.DeadAnswer.{IsDeadAnswer, is_dead, is_undecided, message_text, messages_text, status_of}
use Rattle.verdict_commands.specs.MessageLines.{undecided_message_line}
use Rattle.verdict_commands.specs.inner.Messages.{HasAnswered}
use Rattle.verdict_commands.specs.EnactedRun.{EnactedRunFits}

-- the run of a right answer fits the protocol
pub right_run_fits : (x : Expanded) (m budget : ℕ) (answer : Enact) → IsRightEnact x m budget answer → EnactedRunFits x answer
right_run_fits x m budget (Enacted run) right = right.legal.fits
right_run_fits x m budget (Dead log) right = tt
right_run_fits x m budget (Undecided log) right = tt

-- one item more has the next number
numbered_more : {X : Type 0} (n : ℕ) (xs : List X) (x : X) → enumerate_from n (xs ++ x ∷ []) ≡ enumerate_from n xs ++ (n + length xs, x) ∷ []
numbered_more {X} n [] x = let next : n ≡ n + 0 = omega arith in ap {B = List (ℕ × X)} (λ k. (k, x) ∷ []) next
numbered_more {X} n (y ∷ ys) x =
    let next : n + 1 + length ys ≡ n + suc (length ys) = omega arith in
    ap {B = List (ℕ × X)} (λ rest. (n, y) ∷ rest) (numbered_more (n + 1) ys x ∙ ap {B = List (ℕ × X)} (λ k. enumerate_from (n + 1) ys ++ (k, x) ∷ []) next)

-- whether one of the items and one more passes a test
any_more : {X : Type 0} (test : X → Bool) (xs : List X) (x : X) (before : Bool) → before ≡ list_any test xs → (before || test x) ≡ list_any test (xs ++ x ∷ [])
any_more test xs x before is = ap (λ b. b || test x) is ∙ sym (list_any-append test xs (x ∷ []) ∙ ap (λ b. list_any test xs || b) (or_false (test x))) where
  or_false : (b : Bool) → (b || false) ≡ b
  or_false true = refl
  or_false false = refl

-- before the first message
pub none_answered : (brief : Bool) (budget : ℕ) (x : Expanded) (so_far : Answered) → so_far.text ≡ protocol_line x → so_far.dead ≡ false → so_far.undecided ≡ false → HasAnswered brief budget x 0 so_far
none_answered brief budget x so_far text dead undecided = record {
  answers = [];
  counted = refl;
  right = λ k d within. absurd (omega arith);
  text = text ∙ sym (append-nil (protocol_line x));
  dead = dead;
  undecided = undecided;
}

-- after one message more
pub one_answered : (brief : Bool) (budget : ℕ) (x : Expanded) (count : ℕ) (old new : Answered) (answer : Enact) → HasAnswered brief budget x count old → IsRightEnact x count budget answer → new.text ≡ old.text ++ message_text x brief count answer → new.dead ≡ (old.dead || is_dead answer) → new.undecided ≡ (old.undecided || is_undecided answer) → HasAnswered brief budget x (count + 1) new
one_answered brief budget x count old new answer so_far right text dead undecided =
    let before = so_far.answers in
    let at : count ≡ 0 + length before = (let counted = so_far.counted in omega (arith, counted)) in
    let numbered = sym (numbered_more 0 before answer) in
    let written = λ (one : ℕ × Enact). message_text x brief one.0 one.1 in record {
      answers = before ++ answer ∷ [];
      counted = (let counted = so_far.counted in omega (arith, counted, length-append before (answer ∷ [])));
      right = subst (All (λ (one : ℕ × Enact). IsRightEnact x one.0 budget one.1)) numbered (All-push (λ (one : ℕ × Enact). IsRightEnact x one.0 budget one.1) (enumerate_from 0 before) (0 + length before, answer) so_far.right (subst (λ k. IsRightEnact x k budget answer) at right));
      text = text ∙ ap (λ t. t ++ message_text x brief count answer) so_far.text
          ∙ ap (λ k. messages_text x brief before ++ message_text x brief k answer) at
          ∙ flat_map_more written (protocol_line x) (enumerate_from 0 before) (0 + length before, answer)
          ∙ ap (λ list. protocol_line x ++ flat_map written list) numbered;
      dead = dead ∙ any_more is_dead before answer old.dead so_far.dead;
      undecided = undecided ∙ any_more is_undecided before answer old.undecided so_far.undecided;
    }

-- after the last one
pub all_answered : (brief : Bool) (budget : ℕ) (x : Expanded) (count : ℕ) (so_far : Answered) (out : List ℕ) (status : Status) → HasAnswered brief budget x count so_far → count ≡ length x.messages → out ≡ so_far.text → status ≡ status_of so_far.dead so_far.undecided → IsDeadAnswer brief budget x out status
all_answered brief budget x count so_far out status answered all text ends = record {
  answers = answered.answers;
  one_each = answered.counted ∙ all;
  right = answered.right;
  text = text ∙ answered.text;
  ends = ends ∙ ap (λ b. status_of b so_far.undecided) answered.dead ∙ ap (λ b. status_of (list_any is_dead answered.answers) b) answered.undecided;
}

-- what is answered of a protocol and within a budget is so of the same ones
pub answered_of : (x y : Expanded) (m budget other : ℕ) (answer : Enact) → x ≡ y → budget ≡ other → IsRightEnact x m budget answer → IsRightEnact y m other answer
answered_of x y m budget other answer same same_budget right = subst (λ b. IsRightEnact y m b answer) same_budget (subst (λ z. IsRightEnact z m budget answer) same right)

-- the line of an undecided message, after its first pieces
pub undecided_written : (old mid new name : List ℕ) (steps count : ℕ) → mid ≡ old ++ MESSAGE.now → new ≡ mid ++ name → count ≡ steps → new ++ line (UNDECIDED.now ++ decimal count) ≡ old ++ line (undecided_message_line name steps)
undecided_written old mid new name steps count one two same =
    let front = MESSAGE.now ++ name in
    let rest = line (UNDECIDED.now ++ decimal steps) in
    ap (λ t. t ++ line (UNDECIDED.now ++ decimal count)) (two ∙ ap (λ t. t ++ name) one)
    ∙ ap (λ n. (old ++ MESSAGE.now ++ name) ++ line (UNDECIDED.now ++ decimal n)) same
    ∙ ap (λ t. t ++ rest) (append_assoc old (MESSAGE.now) name)
    ∙ append_assoc old front rest
    ∙ ap (λ t. old ++ t) (sym (append_assoc front (UNDECIDED.now ++ decimal steps) (10 ∷ [])) ∙ ap (λ t. t ++ 10 ∷ []) (sym (append_assoc front (UNDECIDED.now) (decimal steps))))
