-- No two logs have one spelling, and no two lines of one.
use Rattle.std.proofs.Common.{◌≡◌, ◌≢◌, ℕ, Bool, true, false, cond, eqb, List, [], ◌∷◌, drop, get_or, map, codes, refl, sym, ap, ◌∙◌}
use Rattle.std.specs.List.{flat_map, slice_split}
use Rattle.std.proofs.lemmas.Bool.{eqb-false}
use Rattle.std.proofs.lemmas.List.{append_cancel_right}
use Rattle.clause_core.specs.declared.literal.Lit.{Lit}
use Rattle.refutation_log.specs.declared.refutation.Kind.{Kind}
use Rattle.refutation_log.specs.declared.refutation.Kind.TheVariants.{Safety, Liveness}
use Rattle.refutation_log.specs.declared.refutation.Link.{Link}
use Rattle.refutation_log.specs.declared.refutation.Chain.{Chain}
use Rattle.refutation_log.specs.declared.refutation.Entry.{Entry}
use Rattle.refutation_log.specs.declared.refutation.Entry.TheVariants.{Step, Drop}
use Rattle.refutation_log.specs.declared.refutation.Version.{Version}
use Rattle.refutation_log.specs.declared.refutation.Version.TheVariants.{One, Two}
use Rattle.refutation_log.specs.LogText.{pivot_text, link_fields, step_fields, entry_fields, entry_line, header_line}
use Rattle.list_base.specs.Numeral.{numeral}
use Rattle.list_base.specs.Lines.{end_line}
use Rattle.list_base.proofs.Numerals.{same_from_numeral}
use Rattle.refutation_log.proofs.Pivots.{no_minus}
use Rattle.refutation_log.proofs.Fields.{entry_body, parts-entry}

same_pivots : (m n : ℕ) (s t : Bool) → cond s (numeral m) (45 ∷ numeral m) ≡ cond t (numeral n) (45 ∷ numeral n) → (m ≡ n) × (s ≡ t)
same_pivots m n true true e = (same_from_numeral m n e, refl)
same_pivots m n true false e = absurd (no_minus (numeral n) m (sym e))
same_pivots m n false true e = absurd (no_minus (numeral m) n e)
same_pivots m n false false e = (same_from_numeral m n (ap (drop 1) e), refl)

abbrev lit : ℕ → Bool → Lit
lit var positive = record { var = var; positive = positive }

same_from_pivot_text : (p q : Lit) → pivot_text p ≡ pivot_text q → p ≡ q
same_from_pivot_text p q e = let parts = same_pivots p.var q.var p.positive q.positive e in
    ap (λ (var : ℕ). lit var p.positive) parts.0 ∙ ap (lit q.var) parts.1

abbrev link_of : Lit → ℕ → Link
link_of pivot clause = record { pivot = pivot; clause = clause }

same_links : (links others : List Link) → flat_map link_fields links ≡ flat_map link_fields others → links ≡ others
same_links [] [] e = refl
same_links [] (other ∷ others) e = absurd (cc)
same_links (link ∷ links) [] e = absurd (cc)
same_links (link ∷ links) (other ∷ others) e =
    let pivots : link.pivot ≡ other.pivot = same_from_pivot_text link.pivot other.pivot (cc) in
    let clauses : link.clause ≡ other.clause = same_from_numeral link.clause other.clause (cc) in
    let firsts : link ≡ other = ap (λ (pivot : Lit). link_of pivot link.clause) pivots ∙ ap (link_of other.pivot) clauses in
    let rest = same_links links others (ap (drop 2) e) in
    cc

abbrev step_of : ℕ → List Link → Chain
step_of first links = record { first = first; links = links }

same_steps : (step other : Chain) → step_fields step ≡ step_fields other → step ≡ other
same_steps step other fields =
    let firsts : step.first ≡ other.first = same_from_numeral step.first other.first (cc) in
    let links : step.links ≡ other.links = same_links step.links other.links (ap (drop 2) fields) in
    ap (λ (first : ℕ). step_of first step.links) firsts ∙ ap (step_of other.first) links

same_numbers : (numbers others : List ℕ) → map numeral numbers ≡ map numeral others → numbers ≡ others
same_numbers [] [] e = refl
same_numbers [] (other ∷ others) e = absurd (cc)
same_numbers (number ∷ numbers) [] e = absurd (cc)
same_numbers (number ∷ numbers) (other ∷ others) e =
    let firsts : number ≡ other = same_from_numeral number other (cc) in
    let rest = same_numbers numbers others (ap (drop 1) e) in
    cc

other_heads : (m n : ℕ) (xs ys : List ℕ) → eqb m n ≡ false → m ∷ xs ≡ n ∷ ys → ⊥
other_heads m n xs ys other e = eqb-false m n other (ap (λ (list : List ℕ). get_or list 0 0) e)

same_fields : (entry other : Entry) → entry_fields entry ≡ entry_fields other → entry ≡ other
same_fields (Step step) (Step other) e = ap Step (same_steps step other e)
same_fields (Step step) (Drop others) e = absurd (other_heads 115 100 _ _ refl (ap (λ (fields : List (List ℕ)). get_or fields 0 []) e))
same_fields (Drop numbers) (Step other) e = absurd (other_heads 100 115 _ _ refl (ap (λ (fields : List (List ℕ)). get_or fields 0 []) e))
same_fields (Drop numbers) (Drop others) e = ap Drop (same_numbers numbers others (ap (drop 1) e))

pub same_from_entry_line : (entry other : Entry) → entry_line entry ≡ entry_line other → entry ≡ other
same_from_entry_line entry other e =
    let bodies : entry_body entry ≡ entry_body other = append_cancel_right (entry_body entry) (entry_body other) (codes "\n") e in
    same_fields entry other (sym (parts-entry entry) ∙ ap (slice_split (λ byte. eqb byte 32)) bodies ∙ parts-entry other)

pub same_from_entry_lines : (log others : List Entry) → map entry_line log ≡ map entry_line others → log ≡ others
same_from_entry_lines [] [] e = refl
same_from_entry_lines [] (other ∷ others) e = absurd (cc)
same_from_entry_lines (entry ∷ log) [] e = absurd (cc)
same_from_entry_lines (entry ∷ log) (other ∷ others) e =
    let firsts = same_from_entry_line entry other (cc) in
    let rest = same_from_entry_lines log others (ap (drop 1) e) in
    cc

versions_differ : (kind other : Kind) → header_line One kind ≢ header_line Two other
versions_differ kind other e = eqb-false 49 50 refl (ap (λ (list : List ℕ). get_or list 4 0) e)

pub same_from_header_line : (version another : Version) (kind other : Kind) → header_line version kind ≡ header_line another other → (version ≡ another) × (kind ≡ other)
same_from_header_line One One Safety Safety e = (refl, refl)
same_from_header_line One One Safety Liveness e = absurd (cc)
same_from_header_line One One Liveness Safety e = absurd (cc)
same_from_header_line One One Liveness Liveness e = (refl, refl)
same_from_header_line One Two Safety other e = absurd (versions_differ Safety other e)
same_from_header_line One Two Liveness other e = absurd (versions_differ Liveness other e)
same_from_header_line Two One kind Safety e = absurd (versions_differ Safety kind (sym e))
same_from_header_line Two One kind Liveness e = absurd (versions_differ Liveness kind (sym e))
same_from_header_line Two Two Safety Safety e = (refl, refl)
same_from_header_line Two Two Safety Liveness e = absurd (cc)
same_from_header_line Two Two Liveness Safety e = absurd (cc)
same_from_header_line Two Two Liveness Liveness e = (refl, refl)

pub header_no_entry : (version : Version) (kind : Kind) (entry : Entry) → header_line version kind ≢ entry_line entry
header_no_entry version kind (Step step) e = other_heads 108 115 _ _ refl e
header_no_entry version kind (Drop []) e = other_heads 108 100 _ _ refl e
header_no_entry version kind (Drop (number ∷ numbers)) e = other_heads 108 100 _ _ refl e

pub header_no_end : (version : Version) (kind : Kind) → header_line version kind ≢ end_line
header_no_end version kind e = other_heads 108 101 _ _ refl e

pub entry_no_end : (entry : Entry) → entry_line entry ≢ end_line
entry_no_end (Step step) e = other_heads 115 101 _ _ refl e
entry_no_end (Drop []) e = other_heads 100 101 _ _ refl e
entry_no_end (Drop (number ∷ numbers)) e = other_heads 100 101 _ _ refl e
