-- The bytes that were passed are the first part, and those after the separator the rest.
use Rattle.std.proofs.Common.{ℕ, ◌+◌, eqb, List, ◌∷◌, take, drop, sym, ap, subst, ◌∙◌}
use Rattle.std.specs.List.{slice_split}
use Rattle.std.proofs.lemmas.List.{take_all, take_rest}
use Rattle.list_base.proofs.Separators.{Lacks, split_there, parts_none, parts_at}
use Rattle.text_lines.proofs.split.split_once.Goals as goal

pub returns-then-byte-separator-clause-parts : goal.returns-then-byte-separator-clause-parts
returns-then-byte-separator-clause-parts c =
    let bytes = c.args.bytes.now in
    let i = c.loop-index.index in
    let p : ℕ → _ = λ byte. eqb byte c.args.separator in
    let front : List ℕ = take i bytes in
    ap (slice_split p) (split_there c.args.separator bytes i c.loop-index-test.true c.if-byte-separator.true)
    ∙ parts_at c.args.separator front (drop (i + 1) bytes) c.loop-index.invariant
    ∙ ap (λ (rest : List ℕ). front ∷ slice_split p rest) (sym (take_rest bytes (i + 1)))

pub returns-clause-first : goal.returns-clause-first
returns-clause-first c = subst (Lacks c.args.separator) (take_all c.loop-index.index c.args.bytes.now c.loop-index-test.false) c.loop-index.invariant

pub returns-clause-parts : goal.returns-clause-parts
returns-clause-parts c =
    parts_none c.args.separator c.args.bytes.now (subst (Lacks c.args.separator) (take_all c.loop-index.index c.args.bytes.now c.loop-index-test.false) c.loop-index.invariant)
