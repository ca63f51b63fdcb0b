-- The bytes before the next LF are added to the begun line, which is the line that is looked for or another.
use Rattle.std.proofs.Common.{◌≡◌, ◌-◌, ℕ, List, [], ◌∷◌, ◌++◌, false, true, length, refl, sym, ap, subst, ◌∙◌}
use Rattle.live_role.specs.declared.opening.Opening.{Opening}
use Rattle.live_role.specs.Wire.{IsWireLine}
use Rattle.live_role.proofs.OpeningLemmas.{takes_all, takes_line, takes_wire}
use Rattle.live_role.proofs.opening.Opening.take.Goals as goal

pub returns-in_default : goal.returns-in_default
returns-in_default c =
    let first = c.split_once.result.0.now in
    let begun : Opening = record c.lines.self { begun = c.append.new.self } in
    let added : begun ≡ record c.lines.self { begun = c.lines.self.begun ++ first } = ap (λ (b : List ℕ). record c.lines.self { begun = b }) c.in_ok-append.ensures.ok in
    takes_all c.args.self.now c.lines.self begun c.args.piece.now c.lines.rest.now first c.lines.invariant c.split_once.ensures.first added (rw c.in_default.is at c.split_once.ensures.whole)

pub returns-then-is_wire_line : goal.returns-then-is_wire_line
returns-then-is_wire_line c =
    let first = c.split_once.result.0.now in
    let more = c.in-Some.more.now in
    let begun : Opening = record c.lines.self { begun = c.append.new.self } in
    let added : begun ≡ record c.lines.self { begun = c.lines.self.begun ++ first } = ap (λ (b : List ℕ). record c.lines.self { begun = b }) c.in_ok-append.ensures.ok in
    let parts : c.lines.rest.now ≡ first ++ 10 ∷ more = rw c.in-Some.is at c.split_once.ensures.whole in
    let wire : IsWireLine (c.append.new.self ++ 10 ∷ []) = subst IsWireLine (c.as_slice.ensures ∙ c.in_ok-push.ensures.ok) (c.if-is_wire_line.ensures.0 refl) in
    let takes = takes_wire c.args.self.now c.lines.self begun c.args.piece.now c.lines.rest.now first c.lines.invariant c.split_once.ensures.first added more (length c.args.piece.now - length more) parts wire refl in
    record { takes = λ bytes has. takes.takes bytes has }

pub lines-preserved : goal.lines-preserved
lines-preserved c =
    let first = c.split_once.result.0.now in
    let more = c.in-Some.more.now in
    let begun : Opening = record c.lines.self { begun = c.append.new.self } in
    let added : begun ≡ record c.lines.self { begun = c.lines.self.begun ++ first } = ap (λ (b : List ℕ). record c.lines.self { begun = b }) c.in_ok-append.ensures.ok in
    let parts : c.lines.rest.now ≡ first ++ 10 ∷ more = rw c.in-Some.is at c.split_once.ensures.whole in
    let other : ¬ IsWireLine (c.append.new.self ++ 10 ∷ []) = (λ wire. let wrong : false ≡ true = c.if-is_wire_line.ensures.1 (subst IsWireLine (sym (c.as_slice.ensures ∙ c.in_ok-push.ensures.ok)) wire) in absurd cc) in
    let made : List ℕ → Opening = λ line. record { text = c.lines.self.text ++ line; begun = [] } in
    let ends : c.end_line.new.self ≡ made (c.append.new.self ++ 10 ∷ []) = c.in_ok-end_line.ensures ∙ ap made c.in_ok-push.ensures.ok in
    takes_line c.args.self.now c.lines.self begun c.args.piece.now c.lines.rest.now first c.lines.invariant c.split_once.ensures.first added c.end_line.new.self more parts other ends
