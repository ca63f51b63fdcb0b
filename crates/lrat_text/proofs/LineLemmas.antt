-- The lines of the entries that are left complete the text so far.
use Rattle.std.proofs.Common.{◌≡◌, ℕ, zero, suc, ◌+◌, ◌-◌, ◌<◌, inl, inr, Some, None, List, [], ◌∷◌, ◌++◌, length, length-set, drop, get_or, Contains, refl, sym, ap, ◌∙◌, append_assoc, arith}
use Rattle.std.specs.List.{flat_map}
use Rattle.std.proofs.lemmas.Bool.{cases_lt, cond-false, ne_eqb}
use Rattle.std.proofs.lemmas.List.{append-nil, drop_all, get_or-map, length-append, length-map}
use Rattle.list_base.proofs.Members.{cons_cases, here, nowhere, there}
use Rattle.clause_core.specs.declared.literal.Lit.{Lit}
use Rattle.clause_core.specs.declared.formula.Formula.{Formula}
use Rattle.clause_core.specs.Numbering.{HasNumber, live}
use Rattle.refutation_log.specs.declared.refutation.Chain.{Chain}
use Rattle.refutation_log.specs.declared.refutation.Entry.{Entry}
use Rattle.refutation_log.specs.declared.refutation.Entry.TheVariants.{Step, Drop}
use Rattle.refutation_log.specs.declared.refutation.Log.{Log}
use Rattle.refutation_log.specs.Entries.{entries}
use Rattle.refutation_log.specs.Ledger.{Ledger, all_live, without, without_all, IsLive}
use Rattle.refutation_log.specs.Resolution.{LogResolves, Runs}
use Rattle.lrat_text.specs.Lrat.{Add, AddsEmpty, Delete, ProofLine, Verifies}
use Rattle.lrat_text.specs.Proof.{entry_lines}
use Rattle.lrat_text.specs.Text.{line_text}
use Rattle.lrat_text.specs.inner.Lines.{HasLines, IsAdded}

-- the lines of some entries, and their text
abbrev text_of : ℕ → List Entry → List (List Lit) → List (List ℕ) → List ℕ
text_of last log derived hints = flat_map line_text (entry_lines last log derived hints)

-- the whole log has lines that verify, and the text so far and that of the lines left is theirs
pub record Completes (f : Formula) (log : Log) (derived : List (List Lit)) (text rest : List ℕ) : Type 0 where
  pub hints : List (List ℕ)
  pub many : length hints ≡ length derived
  pub verifies : Verifies (all_live f.clauses) (entry_lines (length f.clauses) (entries log) derived hints)
  pub text_is : text_of (length f.clauses) (entries log) derived hints ≡ text ++ rest

-- the entries that are left run from a ledger, and hints for them complete the text
pub record IsPartly (f : Formula) (log : Log) (derived : List (List Lit)) (left : List Entry) (others : List (List Lit)) (last : ℕ) (text : List ℕ) : Type 0 where
  pub ledger : Ledger
  pub final : Ledger
  pub counted : length ledger ≡ last
  pub runs : Runs IsLive ledger left others final
  pub completes : (hints : List (List ℕ)) → length hints ≡ length others → Verifies ledger (entry_lines last left others hints) → Completes f log derived text (text_of last left others hints)

-- nothing is written yet
pub nothing_written : (f : Formula) (log : Log) (derived : List (List Lit)) → LogResolves f log derived → IsPartly f log derived (entries log) derived (length f.clauses) []
nothing_written f log derived resolves = record {
  ledger = all_live f.clauses;
  final = resolves.ledger;
  counted = length-map f.clauses Some;
  runs = resolves.runs;
  completes = λ hints many verifies. record { hints = hints; many = many; verifies = verifies; text_is = refl };
}

-- everything is written
pub all_written : (f : Formula) (log : Log) (derived others : List (List Lit)) (last : ℕ) (text : List ℕ) → IsPartly f log derived [] others last text → HasLines f log derived text
all_written f log derived others last text partly =
    let none : others ≡ [] = partly.runs.0 in
    let whole = partly.completes [] (ap length (sym none)) tt in
    record { hints = whole.hints; many = whole.many; verifies = whole.verifies; text_is = sym (whole.text_is ∙ append-nil text) }

-- a step that is left has a clause
pub step_has_clause : (ledger final : Ledger) (chain : Chain) (left : List Entry) (derived : List (List Lit)) (done : ℕ) → Runs IsLive ledger (Step chain ∷ left) (drop done derived) final → done < length derived
step_has_clause ledger final chain left derived done runs = elim (cases_lt done (length derived)) [
  | inl within ↦ within
  | inr past ↦ absurd (rw (drop_all done derived past) at runs)
]

-- the line of a step is written
pub step_written : (f : Formula) (log : Log) (derived : List (List Lit)) (chain : Chain) (left : List Entry) (clause : List Lit) (others : List (List Lit)) (last : ℕ) (old new : List ℕ) (partly : IsPartly f log derived (Step chain ∷ left) (clause ∷ others) last old) → IsAdded (live partly.ledger) (last + 1) clause old new → IsPartly f log derived left others (last + 1) new
step_written f log derived chain left clause others last old new partly added = record {
  ledger = partly.ledger ++ Some clause ∷ [];
  final = partly.final;
  counted = length-append partly.ledger (Some clause ∷ []) ∙ ap (λ (n : ℕ). n + 1) partly.counted;
  runs = partly.runs.1;
  completes = λ hints many verifies.
      let whole = partly.completes (added.hints ∷ hints) (ap suc many) (ap (λ (n : ℕ). n + 1) (sym partly.counted), added.proves, verifies) in
      let rest : List ℕ = text_of (last + 1) left others hints in
      record {
        hints = whole.hints;
        many = whole.many;
        verifies = whole.verifies;
        text_is = whole.text_is ∙ sym (append_assoc old (line_text (Add (last + 1) clause added.hints)) rest) ∙ ap (λ (text : List ℕ). text ++ rest) (sym added.text_is);
      };
}

-- a removal keeps the numbers of the other clauses
length-without : (ledger : Ledger) (numbers : List ℕ) → length (without_all ledger numbers) ≡ length ledger
length-without ledger [] = refl
length-without ledger (number ∷ numbers) = length-without (without ledger number) numbers ∙ length-set ledger (number - 1) None

-- the line of a removal is written
pub removal_written : (f : Formula) (log : Log) (derived : List (List Lit)) (numbers : List ℕ) (left : List Entry) (others : List (List Lit)) (last : ℕ) (old new : List ℕ) → IsPartly f log derived (Drop numbers ∷ left) others last old → new ≡ old ++ line_text (Delete last numbers) → IsPartly f log derived left others last new
removal_written f log derived numbers left others last old new partly appended = record {
  ledger = without_all partly.ledger numbers;
  final = partly.final;
  counted = length-without partly.ledger numbers ∙ partly.counted;
  runs = partly.runs.1;
  completes = λ hints many verifies.
      let whole = partly.completes hints many (sym partly.counted, partly.runs.0, verifies) in
      let rest : List ℕ = text_of last left others hints in
      record {
        hints = whole.hints;
        many = whole.many;
        verifies = whole.verifies;
        text_is = whole.text_is ∙ sym (append_assoc old (line_text (Delete last numbers)) rest) ∙ ap (λ (text : List ℕ). text ++ rest) (sym appended);
      };
}

-- a line that adds the empty clause is among the lines
pub record IsAmong (lines : List ProofLine) : Type 0 where
  pub line : ProofLine
  pub among : Contains lines line
  pub empty : AddsEmpty line

-- a log that derives the empty clause has such a line
pub empty_among : (ledger final : Ledger) (last : ℕ) (log : List Entry) (derived : List (List Lit)) (hints : List (List ℕ)) → Runs IsLive ledger log derived final → length hints ≡ length derived → Contains derived [] → IsAmong (entry_lines last log derived hints)
empty_among ledger final last [] derived hints runs many contains = absurd (nowhere [] (rw runs.0 at contains))
empty_among ledger final last (Step chain ∷ log) [] hints runs many contains = absurd runs
empty_among ledger final last (Step chain ∷ log) (clause ∷ derived) [] runs many contains = absurd (omega (arith, many))
empty_among ledger final last (Step chain ∷ log) (clause ∷ derived) (first ∷ hints) runs many contains =
    elim (cons_cases clause derived [] contains) [
      | inl is ↦ record { line = Add (last + 1) clause first; among = here (Add (last + 1) clause first) (entry_lines (last + 1) log derived hints); empty = is }
      | inr later ↦
          let rest = empty_among (ledger ++ Some clause ∷ []) final (last + 1) log derived hints runs.1 (omega (arith, many)) later in
          record { line = rest.line; among = there (Add (last + 1) clause first) (entry_lines (last + 1) log derived hints) rest.line rest.among; empty = rest.empty }
    ]
empty_among ledger final last (Drop numbers ∷ log) derived hints runs many contains =
    let rest = empty_among (without_all ledger numbers) final last log derived hints runs.1 many contains in
    record { line = rest.line; among = there (Delete last numbers) (entry_lines last log derived hints) rest.line rest.among; empty = rest.empty }

-- the clause of a number in a ledger
live_at : (ledger : Ledger) (number : ℕ) (clause : List Lit) → 0 < number → get_or ledger (number - 1) None ≡ Some clause → HasNumber (live ledger) number clause
live_at ledger zero clause some is = absurd (omega (arith, some))
live_at ledger (suc n) clause some is = record { there = cond-false _ _ _ (ne_eqb (suc n) 0 (λ e. omega arith)) ∙ is }

-- the clause at an index has the number after it
pub number_at : (clauses : List (List Lit)) (i : ℕ) (clause d : List Lit) → i < length clauses → get_or clauses i d ≡ clause → HasNumber (live (all_live clauses)) (i + 1) clause
number_at clauses i clause d within is =
    let index : i + 1 - 1 ≡ i = omega arith in
    live_at (all_live clauses) (i + 1) clause (omega arith) (rw index (get_or-map Some clauses i d None within ∙ ap Some is))
