-- How the words of verdicts are put together.
use Rattle.std.proofs.Common.{◌≡◌, ◌<◌, ◌∙◌, ◌++◌, ◌∷◌, [], ℕ, List, length, refl, ap, arith}
use Rattle.bspl_types.specs.declared.event.Event.{Event}
use Rattle.bspl_types.specs.declared.expanded.Expanded.{Expanded}
use Rattle.bspl_types.specs.Expansion.{param_name}
use Rattle.verdict.specs.declared.outcome.Verdicts.{Verdicts}
use Rattle.answer_words.specs.Liveness.{IsLivenessWords, IsNotLiveWords, not_live_advice, unknown_words}
use Rattle.answer_words.specs.Producers.{ListsProducers}
use Rattle.answer_words.specs.Safety.{safety_words}
use Rattle.answer_words.specs.VerdictText.{IsVerdictWords}
use Rattle.answer_words.specs.inner.Added.{Adds}
use Rattle.answer_words.proofs.TextLemmas.{three_parts}

-- the advice goes by whether there are lines
pub advice_none : (name lines : List ℕ) → length lines < 1 → not_live_advice name [] ≡ not_live_advice name lines
advice_none name [] short = refl
advice_none name (byte ∷ lines) short = absurd (omega arith)

pub advice_some : (name lines : List ℕ) → 0 < length lines → not_live_advice name (0 ∷ []) ≡ not_live_advice name lines
advice_some name [] some = absurd (omega arith)
advice_some name (byte ∷ lines) some = refl

-- the parameter, the lines and the advice
pub not_live_added : (x : Expanded) (run : List Event) (p : ℕ) (name lines shown old one two new : List ℕ) → ListsProducers x run p x.messages lines → name ≡ param_name x p → shown ≡ lines → one ≡ old ++ unknown_words name → two ≡ one ++ shown → new ≡ two ++ not_live_advice name lines → Adds (IsNotLiveWords x run p) old new
not_live_added x run p name lines shown old one two new listed named same first second third =
    let words = λ (n : List ℕ). unknown_words n ++ lines ++ not_live_advice n lines in
    let wrote : two ≡ old ++ unknown_words name ++ lines = second ∙ ap (λ (t : List ℕ). t ++ shown) first ∙ ap (λ (t : List ℕ). old ++ unknown_words name ++ t) same in
    record {
      added = words (param_name x p);
      grown = third ∙ ap (λ (t : List ℕ). t ++ not_live_advice name lines) wrote ∙ three_parts old (unknown_words name) lines (not_live_advice name lines) ∙ ap (λ (n : List ℕ). old ++ words n) named;
      holds = record { lines = lines; listed = listed; is_text = refl };
    }

-- the words on safety, and then those on liveness
pub both_words : (x : Expanded) (v : Verdicts) (one two : List ℕ) → one ≡ safety_words x v.safety → Adds (IsLivenessWords x v.liveness) one two → IsVerdictWords x v two
both_words x v one two is adds = record {
  liveness = adds.added;
  is_liveness = adds.holds;
  is_text = adds.grown ∙ ap (λ (t : List ℕ). t ++ adds.added) is;
}
