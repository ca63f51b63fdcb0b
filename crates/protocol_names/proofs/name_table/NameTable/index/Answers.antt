-- The index is the one that the maps find.
use Rattle.std.proofs.Common.{◌∙◌, ap, sym, Some, None, cond}
use Rattle.std.specs.List.{position}
use Rattle.std.specs.Str.{bytes_eq}
use Rattle.protocol_names.specs.inner.IndexMap.{at_number, at_name}
use Rattle.protocol_names.proofs.KeptIndexLemmas.{is_found, lent_at, position_mapped}
use Rattle.protocol_names.proofs.name_table.NameTable.index.Goals as goal

pub returns-then-len-le-FEW_NAMES : goal.returns-then-len-le-FEW_NAMES
returns-then-len-le-FEW_NAMES c = c.first_index.ensures ∙ ap (position (λ n. bytes_eq n.now c.args.name.now)) c.as_slice.ensures ∙ sym (position_mapped (λ n. bytes_eq n c.args.name.now) (λ n. n.now) c.self.inside.names) ∙ ap (position (λ n. bytes_eq n c.args.name.now)) c.self.view_is

pub returns-in_default : goal.returns-in_default
returns-in_default c = is_found _ c.args.self.now c.args.name.now _ _ c.self.view_is c.self.invariant None (sym c.in_default.is ∙ c.copied.ensures ∙ c.get.ensures.value ∙ ap (at_number c.self.inside.by_number) c.name_number.ensures)

pub returns-then-eq : goal.returns-then-eq
returns-then-eq c =
    let same = ap (λ n. bytes_eq n c.args.name.now) (lent_at c.self.inside.names c.in-Some.index c.at.result.now c.at.ensures) ∙ sym c.eq.ensures ∙ c.if-eq.true in
    ap (λ b. cond b (Some c.in-Some.index) (at_name c.self.inside.by_bytes c.args.name.now)) (sym same) ∙ is_found _ c.args.self.now c.args.name.now _ _ c.self.view_is c.self.invariant (Some c.in-Some.index) (sym c.in-Some.is ∙ c.copied.ensures ∙ c.get.ensures.value ∙ ap (at_number c.self.inside.by_number) c.name_number.ensures)

pub returns : goal.returns
returns c =
    let other = ap (λ n. bytes_eq n c.args.name.now) (lent_at c.self.inside.names c.in-Some.index c.at.result.now c.at.ensures) ∙ sym c.eq.ensures ∙ c.if-eq.false in
    c.copied-2.ensures ∙ c.get-2.ensures.value ∙ ap (λ b. cond b (Some c.in-Some.index) (at_name c.self.inside.by_bytes c.args.name.now)) (sym other) ∙ is_found _ c.args.self.now c.args.name.now _ _ c.self.view_is c.self.invariant (Some c.in-Some.index) (sym c.in-Some.is ∙ c.copied.ensures ∙ c.get.ensures.value ∙ ap (at_number c.self.inside.by_number) c.name_number.ensures)
