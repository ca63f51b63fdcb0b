-- The output of a call, from what was read and decided.
use Rattle.std.proofs.Common.{◌≡◌, ℕ, ◌<◌, ◌≤◌, Bool, List, length, Option, Some, None, sym, ◌∙◌}
use Rattle.std.specs.Prelude.{◌↔◌, IsTrue, is_some}
use Rattle.std.proofs.lemmas.Bool.{false≢true}
use Rattle.dimacs.specs.declared.arguments.Options.{Options}
use Rattle.dimacs.specs.declared.status.Status.{Status}
use Rattle.dimacs.specs.declared.status.Status.TheVariants as status
use Rattle.dimacs.specs.declared.verdict.Verdict.{Verdict}
use Rattle.dimacs.specs.AnswerText.{answer_text}
use Rattle.dimacs.specs.Arguments.{IsUsage}
use Rattle.dimacs.specs.Call.{AsksForInput}
use Rattle.dimacs.specs.Dimacs.{IsNoFormula, text_lines}
use Rattle.dimacs.specs.RefusedLine.{StopsAt}
use Rattle.dimacs.specs.Output.{Decides, DimacsOutput, decided, dimacs_input_limit, dimacs_usage, no_formula, read, refused_length, refused_line, too_long, usage}
use Rattle.dimacs.specs.Status.{solver_status}
use Rattle.dimacs.specs.Verdict.{IsRightVerdict}
use Rattle.dimacs.specs.inner.Request.{IsRequest}

-- a verdict is written with its lines and its status
pub verdict_decides : (options : Options) (input : List ℕ) (verdict : Verdict) (out : List ℕ) (end : Status) → length input ≤ dimacs_input_limit → IsRightVerdict input options verdict → out ≡ answer_text verdict → end ≡ solver_status verdict → Decides options input out end
verdict_decides options input verdict out end short right text_is status_is =
    rw (text_is, status_is) (decided verdict short right)

-- a text that is no formula is refused with the line at which reading stops
pub refusal_decides : (options : Options) (input : List ℕ) (line : ℕ) (out : List ℕ) → length input ≤ dimacs_input_limit → IsNoFormula input → StopsAt (text_lines input) line → out ≡ refused_line line → Decides options input out status.Refused
refusal_decides options input line out short none stops text_is = rw text_is (no_formula line short none stops)

-- invalid arguments get the usage line
pub usage_output : (args : List (List ℕ)) (input out : List ℕ) (end : Status) → IsUsage args → out ≡ dimacs_usage → end ≡ status.Usage → DimacsOutput args input out end
usage_output args input out end invalid text_is status_is = rw (text_is, status_is) (usage invalid)

-- an input that is too long is refused
pub long_output : (args : List (List ℕ)) (input out : List ℕ) (end : Status) → AsksForInput args → dimacs_input_limit < length input → out ≡ refused_length → end ≡ status.Refused → DimacsOutput args input out end
long_output args input out end (options, has) long text_is status_is = rw (text_is, status_is) (read options refused_length status.Refused has (too_long long))

-- what is answered to arguments that ask for no input is right for each input
pub unasked_output : (args : List (List ℕ)) → ¬ AsksForInput args → (bytes other out : List ℕ) (end : Status) → DimacsOutput args bytes out end → DimacsOutput args other out end
unasked_output args none bytes other _ _ (usage invalid) = usage invalid
unasked_output args none bytes other _ _ (read options out end has decides) = absurd (none (options, has))

-- arguments ask for the input exactly if they give options
pub asks_with_options : (args : List (List ℕ)) (options : Option Options) (asked : Bool) → asked ≡ is_some options → IsRequest args options → IsTrue asked ↔ AsksForInput args
asks_with_options args None asked is invalid = (λ on. absurd (false≢true (sym is ∙ on)), λ asks. absurd (invalid asks.0 asks.1))
asks_with_options args (Some options) asked is has = (λ on. (options, has.0), λ asks. is)
