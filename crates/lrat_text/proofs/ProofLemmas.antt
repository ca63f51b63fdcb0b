-- What refutes a formula: one line if a clause is empty, or the lines of a log.
use Rattle.std.proofs.Common.{◌≡◌, ℕ, ◌+◌, inl, inr, Some, List, [], ◌∷◌, length, Contains, refl, sym, ap, ◌∙◌}
use Rattle.std.proofs.lemmas.List.{append-nil, length-map}
use Rattle.std.proofs.lemmas.List.Elements.{Contains-append_cases}
use Rattle.list_base.proofs.Members.{here, nowhere}
use Rattle.clause_core.specs.declared.literal.Lit.{Lit}
use Rattle.clause_core.specs.declared.formula.Formula.{Formula}
use Rattle.clause_core.specs.Numbering.{HasNumber, live}
use Rattle.log_checker.specs.Derivation.{IsAcceptedWith}
use Rattle.refutation_log.specs.declared.refutation.Log.{Log}
use Rattle.refutation_log.specs.Entries.{entries}
use Rattle.refutation_log.specs.Ledger.{all_live}
use Rattle.lrat_text.specs.Lrat.{Add, ProofLine}
use Rattle.lrat_text.specs.Proof.{IsProofOf, entry_lines}
use Rattle.lrat_text.specs.Text.{line_text}
use Rattle.lrat_text.specs.inner.Lines.{HasLines}
use Rattle.lrat_text.proofs.LineLemmas.{empty_among}

-- an empty clause is the only hint
pub at_once : (f : Formula) (log : Log) (derived : List (List Lit)) (number : ℕ) (text : List ℕ) → IsAcceptedWith f log derived → HasNumber (live (all_live f.clauses)) number [] → text ≡ line_text (Add (length f.clauses + 1) [] (number ∷ [])) → IsProofOf f log text
at_once f log derived number text accepted named is =
    let line : ProofLine = Add (length f.clauses + 1) [] (number ∷ []) in
    record {
      accepted = record { derived = derived; resolves = accepted.resolves; empty = accepted.empty };
      lines = line ∷ [];
      text_is = is ∙ sym (append-nil (line_text line));
      refutes = record {
        verifies = (ap (λ (n : ℕ). n + 1) (sym (length-map f.clauses Some)), ([], named, inl (refl, λ l among. absurd (nowhere l among))), tt);
        adding = line;
        among = here line [];
        empty = refl;
      };
      of_log = inr (number, refl);
    }

-- a line of the log adds the empty clause
pub by_log : (f : Formula) (log : Log) (derived : List (List Lit)) (text : List ℕ) → IsAcceptedWith f log derived → ¬ Contains f.clauses [] → HasLines f log derived text → IsProofOf f log text
by_log f log derived text accepted none has =
    let is_derived : Contains derived [] = elim (Contains-append_cases f.clauses derived [] accepted.empty) [ inl given ↦ absurd (none given) | inr later ↦ later ] in
    let empty = empty_among (all_live f.clauses) accepted.resolves.ledger (length f.clauses) (entries log) derived has.hints accepted.resolves.runs has.many is_derived in
    record {
      accepted = record { derived = derived; resolves = accepted.resolves; empty = accepted.empty };
      lines = entry_lines (length f.clauses) (entries log) derived has.hints;
      text_is = has.text_is;
      refutes = record { verifies = has.verifies; adding = empty.line; among = empty.among; empty = empty.empty };
      of_log = inl (record { derived = derived; resolves = accepted.resolves; hints = has.hints; many = has.many; lines_are = refl });
    }
