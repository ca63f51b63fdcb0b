-- The words of both verdicts.
use Rattle.std.specs.Prelude.{◌≡◌, ℕ, List, ◌++◌}
use Rattle.bspl_types.specs.declared.expanded.Expanded.{Expanded}
use Rattle.verdict.specs.declared.outcome.Verdicts.{Verdicts}
use Rattle.verdict.specs.Verdicts.{AreRightAnswers}
use Rattle.answer_words.specs.Liveness.{IsLivenessWords}
use Rattle.answer_words.specs.Safety.{safety_words}

-- the verdicts are right, however many conflicts their searches could meet
abbrev pub AreRightVerdicts : Expanded → Verdicts → Type 0
AreRightVerdicts x v = (budget : ℕ) × AreRightAnswers x budget v

-- the words on safety, and then those on liveness
pub record IsVerdictWords (x : Expanded) (v : Verdicts) (text : List ℕ) : Type 0 where
  pub liveness : List ℕ
  pub is_liveness : IsLivenessWords x v.liveness liveness
  pub is_text : text ≡ safety_words x v.safety ++ liveness
