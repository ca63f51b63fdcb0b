-- The text that sums up a generated protocol and the world that its agents play.
use Rattle.std.specs.Prelude.{◌≡◌, ℕ, Bool, true, false, List, [], ◌∷◌, ◌++◌, codes, length, sum}
use Rattle.std.specs.Prelude.{Option, is_some}
use Rattle.std.specs.Fmt.{decimal}
use Rattle.std.specs.List.{AllZip, count_by}
use Rattle.bspl_types.specs.declared.event.Event.{Event}
use Rattle.bspl_types.specs.declared.event.Event.TheVariants.{Emit, Receive}
use Rattle.bspl_types.specs.declared.expanded.Expanded.{Expanded}
use Rattle.bspl_types.specs.declared.value.Value.{Value}
use Rattle.agent_scripts.specs.Script.{Script}
use Rattle.refutation_log.specs.LogText.{line_of}
use Rattle.verdict.specs.declared.outcome.Verdicts.{Verdicts}
use Rattle.report.specs.VerdictText.{liveness_line, safety_line}
use Rattle.report.specs.WorldText.{AreCells}

-- a line of a word and a number
abbrev pub count_line : List ℕ → ℕ → List ℕ
count_line word count = line_of (word ∷ decimal count ∷ [])

-- first come the number from which the protocol was made, how many messages it has, and the
-- answers on its safety and its liveness, without their evidence
abbrev pub generated_text : ℕ → Expanded → Verdicts → List ℕ
generated_text n x v =
    count_line (codes "generate") n ++ count_line (codes "messages") (length x.messages) ++
    safety_line x v.safety ++ liveness_line x v.liveness

-- an emission, and a reception
abbrev pub is_emission : Event → Bool
is_emission (Emit i) = true
is_emission (Receive i) = false

abbrev pub is_reception : Event → Bool
is_reception (Emit i) = false
is_reception (Receive i) = true

-- under the key this many parameters are known to some role
abbrev pub KnowsAsMany : Expanded → List Event → List Value → ℕ → Type 0
KnowsAsMany x run key n =
    (cells : List (Option Value)) × AreCells x run key cells × (n ≡ count_by is_some cells)

-- then the text sums up the run: how many workload keys, emissions and receptions there are, and
-- how many parameters under all workload keys are known to some role
pub record IsSummaryText (x : Expanded) (script : Script) (run : List Event) (text : List ℕ)
    : Type 0 where
  pub known : List ℕ
  pub are_known : AllZip (KnowsAsMany x run) script.keys known
  pub text_is : text ≡
      count_line (codes "keys") (length script.keys) ++
      count_line (codes "sent") (count_by is_emission run) ++
      count_line (codes "received") (count_by is_reception run) ++
      count_line (codes "bound") (sum known)
