-- Blank values change no cell, and blank marks add blank cells.
use Rattle.std.proofs.Common.{◌≤◌, ◌++◌, replicate, None, false, inl, inr, subst, sym, ap, ◌∙◌, arith}
use Rattle.std.proofs.lemmas.List.{take-replicate}
use Rattle.local_store.specs.inner.Cells.{cells_of}
use Rattle.local_store.proofs.CellRowLemmas.{cells_blank, cells_stay}
use Rattle.local_store.proofs.cells.Cells.cover.Goals as goal

pub returns-in_err-cover-clause-items : goal.returns-in_err-cover-clause-items
returns-in_err-cover-clause-items c =
    let s = c.self.inside in
    let stay = cells_stay s.filled.items s.values.items c.cover.new.self.items _ s.filled.width s.filled.rows s.values.rows s.values.width s.filled.covers s.values.covers c.self.invariant.0 c.self.invariant.1 c.cover.ensures.items in
    inl (stay ∙ ap (λ t. t.items) c.self.view_is)

pub invariant_of-self-2 : goal.invariant_of-self-2
invariant_of-self-2 c = (
  c.cover.ensures.grown.same ∙ c.self.invariant.0 ∙ sym c.cover-2.ensures.grown.same,
  omega (arith, c.cover-2.ensures.most, c.in_ok-cover.ensures.rows, c.cover.ensures.grown.kept, c.self.invariant.1),
)

pub returns-clause-items : goal.returns-clause-items
returns-clause-items c =
    let s = c.self.inside in
    let width = s.filled.width in
    let values = c.cover.new.self.items in
    let narrow = subst (λ t. t.width ≤ 64) (sym c.self.view_is) c.requires.narrow in
    let stay = cells_stay s.filled.items s.values.items values _ width s.filled.rows s.values.rows s.values.width s.filled.covers s.values.covers c.self.invariant.0 c.self.invariant.1 c.cover.ensures.items in
    elim c.cover-2.ensures.items [
      | inl same ↦ inl (ap (λ filled. cells_of filled values) same ∙ stay ∙ ap (λ t. t.items) c.self.view_is)
      | inr longer ↦ inr (ap (λ filled. cells_of filled values) (longer ∙ ap (λ blank. s.filled.items ++ blank) (take-replicate width 64 false narrow))
          ∙ cells_blank width s.filled.items values
          ∙ ap (λ cells. cells ++ replicate width None) stay
          ∙ ap (λ t. t.items ++ replicate t.width None) c.self.view_is)
    ]
