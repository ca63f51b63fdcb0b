-- A line that is none of the titles is no header.
use Rattle.std.proofs.Common.{◌≡◌, ◌≢◌, ℕ, false, eqb, List, ◌++◌, codes, refl, sym, ◌∙◌}
use lib.Pointwise.{pointwise}
use Rattle.std.proofs.lemmas.Bool.{both_ways}
use Rattle.std.proofs.lemmas.Bool.Decides.{Decides-eqb}
use Rattle.std.proofs.lemmas.List.{append_cancel_right}
use Rattle.std.proofs.lemmas.Slice.Eq.{slice_eq-Decides}
use Rattle.refutation_log.specs.LogText.{header_line}
use Rattle.refutation_log.specs.declared.refutation.Kind.{Kind}
use Rattle.refutation_log.specs.declared.refutation.Kind.TheVariants.{Safety, Liveness}
use Rattle.refutation_log.specs.declared.refutation.Version.{Version}
use Rattle.refutation_log.specs.declared.refutation.Version.TheVariants.{One, Two}
use Rattle.refutation_log.proofs.header.header_of.Goals as goal

no_title : (line title header : List ℕ) → header ≡ title ++ codes "\n" → pointwise eqb line title ≡ false → line ++ codes "\n" ≢ header
no_title line title header is other e =
    let same : line ≡ title = append_cancel_right line title (codes "\n") (e ∙ is) in
    both_ways _ other ((slice_eq-Decides Decides-eqb line title _ refl).1 same)

no_header : (line : List ℕ) → line ++ codes "\n" ≢ header_line One Safety → line ++ codes "\n" ≢ header_line One Liveness → line ++ codes "\n" ≢ header_line Two Safety → line ++ codes "\n" ≢ header_line Two Liveness
    → (version : Version) (kind : Kind) → line ++ codes "\n" ≢ header_line version kind
no_header line first second third fourth One Safety = first
no_header line first second third fourth One Liveness = second
no_header line first second third fourth Two Safety = third
no_header line first second third fourth Two Liveness = fourth

pub returns-else-eq-4 : goal.returns-else-eq-4
returns-else-eq-4 c = no_header c.args.line.now
    (no_title c.args.line.now c.title.result.now (header_line One Safety) c.title.ensures (sym c.eq.ensures ∙ c.if-eq.false))
    (no_title c.args.line.now c.title-else-eq.result.now (header_line One Liveness) c.title-else-eq.ensures (sym c.eq-else-eq.ensures ∙ c.if-eq-2.false))
    (no_title c.args.line.now c.title-else-eq-2.result.now (header_line Two Safety) c.title-else-eq-2.ensures (sym c.eq-else-eq-2.ensures ∙ c.if-eq-3.false))
    (no_title c.args.line.now c.title-else-eq-3.result.now (header_line Two Liveness) c.title-else-eq-3.ensures (sym c.eq-else-eq-3.ensures ∙ c.if-eq-4.false))
