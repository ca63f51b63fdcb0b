-- A role through the last reference.
use Rattle.std.proofs.Common.{◌≡◌, [], ◌∷◌, ◌++◌, ◌∙◌, sym, Some}
use Rattle.std.specs.Slice.{IsItemAt}
use Rattle.protocol_paths.proofs.ResolutionLemmas.{RoleAt, role_alone, role_given, role_missing}
use Rattle.protocol_paths.proofs.substitution.+given_role.Goals as goal

pub returns-in_default : goal.returns-in_default
returns-in_default t c = λ top. role_alone top c.args.links.now c.args.role.now.text c.in_default.ensures.cases

pub returns-in-Some-get : goal.returns-in-Some-get
returns-in-Some-get t c = λ top.
    let l = c.in-Some.last.now in
    let parts : c.args.links.now ≡ c.in-Some.outer.now ++ c.in-Some.last.now ∷ [] = cc (c.in-Some.ensures.cases.0, c.in-Some.last-is, c.in-Some.outer-is) in
    let at : RoleAt top c.args.links.now c.in-Some.outer.now c.in-Some.last.now c.args.role.now.text (Some c.in-Some-index.index) = record {
      parts = parts;
      declared = rw (c.as_slice.ensures, l.link.declared.roles) at (sym c.in-Some-index.is ∙ c.index.ensures);
    } in
    let lends : IsItemAt l.link.reference.now.roles c.in-Some-index.index c.get.result = rw c.as_slice-2.ensures at c.get.ensures.lookup in
    c.given_role.ensures top ∙ role_given top c.args.links.now c.in-Some.outer.now l c.args.role.now.text c.in-Some-index.index c.get.result c.in-Some-get.given at lends (cc (c.in-Some-get.is, c.in-Some-get.given-is))

pub returns-in-None : goal.returns-in-None
returns-in-None t c = λ top.
    let l = c.in-Some.last.now in
    let at : RoleAt top c.args.links.now c.in-Some.outer.now c.in-Some.last.now c.args.role.now.text (Some c.in-Some-index.index) = record {
      parts = cc (c.in-Some.ensures.cases.0, c.in-Some.last-is, c.in-Some.outer-is);
      declared = rw (c.as_slice.ensures, l.link.declared.roles) at (sym c.in-Some-index.is ∙ c.index.ensures);
    } in
    let lacks : IsItemAt l.link.reference.now.roles c.in-Some-index.index c.get.result = rw c.as_slice-2.ensures at c.get.ensures.lookup in
    role_missing top c.args.links.now c.in-Some.outer.now l c.args.role.now.text c.in-Some-index.index c.get.result at lacks c.in-None.is
