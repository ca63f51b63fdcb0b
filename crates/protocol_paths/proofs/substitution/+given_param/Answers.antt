-- A parameter through the last reference.
use Rattle.std.proofs.Common.{◌≡◌, [], ◌∷◌, ◌++◌, ◌-◌, ◌∙◌, sym, length, None, Some}
use Rattle.std.specs.Slice.{IsItemAt}
use Rattle.protocol_paths.proofs.OwnWordLemmas.{own_outer}
use Rattle.protocol_paths.proofs.ResolutionLemmas.{ParamAt, param_alone, param_given, param_missing, param_own, param_stays}
use Rattle.protocol_paths.proofs.substitution.+given_param.Goals as goal

pub returns-in_default : goal.returns-in_default
returns-in_default t c = λ top have. param_alone top c.args.links.now c.args.param.now.text c.in_default.ensures.cases

pub returns-in_default-index : goal.returns-in_default-index
returns-in_default-index t c = λ top have.
    let l = c.in-Some.last.now in
    let at : ParamAt top c.args.links.now c.in-Some.outer.now c.in-Some.last.now c.args.param.now.text None = record {
      parts = cc (c.in-Some.ensures.cases.0, c.in-Some.last-is, c.in-Some.outer-is);
      declared = rw (c.as_slice.ensures, l.link.declared.params) at (sym c.in_default-index.is ∙ c.index.ensures);
    } in
    param_stays top c.args.links.now c.in-Some.outer.now l c.args.param.now.text at

pub returns-in-Some-get : goal.returns-in-Some-get
returns-in-Some-get t c = λ top have.
    let l = c.in-Some.last.now in
    let parts : c.args.links.now ≡ c.in-Some.outer.now ++ c.in-Some.last.now ∷ [] = cc (c.in-Some.ensures.cases.0, c.in-Some.last-is, c.in-Some.outer-is) in
    let at : ParamAt top c.args.links.now c.in-Some.outer.now c.in-Some.last.now c.args.param.now.text (Some c.in-Some-index.index) = record {
      parts = parts;
      declared = rw (c.as_slice.ensures, l.link.declared.params) at (sym c.in-Some-index.is ∙ c.index.ensures);
    } in
    let lends : IsItemAt l.link.reference.now.params c.in-Some-index.index c.get.result = rw c.as_slice-given.ensures at c.get.ensures.lookup in
    c.given_param.ensures top (own_outer top c.args.links.now c.in-Some.outer.now l parts have)
    ∙ param_given top c.args.links.now c.in-Some.outer.now l c.args.param.now.text c.in-Some-index.index c.get.result c.in-Some-get.formal at lends (cc (c.in-Some-get.is, c.in-Some-get.formal-is))

pub returns : goal.returns
returns t c = λ top have.
    let l = c.in-Some.last.now in
    let k = c.in-Some-index.index in
    let at : ParamAt top c.args.links.now c.in-Some.outer.now c.in-Some.last.now c.args.param.now.text (Some c.in-Some-index.index) = record {
      parts = cc (c.in-Some.ensures.cases.0, c.in-Some.last-is, c.in-Some.outer-is);
      declared = rw (c.as_slice.ensures, l.link.declared.params) at (sym c.in-Some-index.is ∙ c.index.ensures);
    } in
    let lacks : IsItemAt l.link.reference.now.params k c.get.result = rw c.as_slice-given.ensures at c.get.ensures.lookup in
    let lends : IsItemAt l.own.now (k - length l.link.reference.now.params) c.get-2.result = rw c.as_slice-given.ensures at c.get-2.ensures.lookup in
    param_own top c.args.links.now c.in-Some.outer.now l c.args.param.now.text k c.get.result c.get-2.result c.in-Some-get-2.own at lacks c.in_default-get.is have lends (cc (c.in-Some-get-2.is, c.in-Some-get-2.own-is))

pub returns-in_default-get-2 : goal.returns-in_default-get-2
returns-in_default-get-2 t c = λ top have.
    let l = c.in-Some.last.now in
    let k = c.in-Some-index.index in
    let at : ParamAt top c.args.links.now c.in-Some.outer.now c.in-Some.last.now c.args.param.now.text (Some c.in-Some-index.index) = record {
      parts = cc (c.in-Some.ensures.cases.0, c.in-Some.last-is, c.in-Some.outer-is);
      declared = rw (c.as_slice.ensures, l.link.declared.params) at (sym c.in-Some-index.is ∙ c.index.ensures);
    } in
    let lacks : IsItemAt l.link.reference.now.params k c.get.result = rw c.as_slice-given.ensures at c.get.ensures.lookup in
    let lends : IsItemAt l.own.now (k - length l.link.reference.now.params) c.get-2.result = rw c.as_slice-given.ensures at c.get-2.ensures.lookup in
    param_missing top c.args.links.now c.in-Some.outer.now l c.args.param.now.text k c.get.result c.get-2.result at lacks c.in_default-get.is have lends c.in_default-get-2.is
