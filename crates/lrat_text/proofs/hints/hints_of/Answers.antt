-- The links are followed from the last one back.
use Rattle.std.proofs.Common.{Contains}
use Rattle.std.proofs.lemmas.Bool.{iff_false}
use Rattle.std.proofs.lemmas.List.{nil_from_length}
use Rattle.clause_core.specs.Literal.{negated}
use Rattle.lrat_text.proofs.HintLemmas.{ends_early, ends_with_first, makes_true, nothing_yet, skips}
use Rattle.lrat_text.proofs.hints.hints_of.Goals as goal

pub loop-link-init : goal.loop-link-init
loop-link-init c = λ numbering derives.
    rw (c.as_slice-left.ensures, c.new-hints.ensures)
    (nothing_yet numbering c.args.clause.now c.args.chain.now.first c.args.chain.now.links c.in_ok-true_lits.true_lits.ranks derives.start derives.named derives.folds c.in_ok-true_lits.ensures)

pub returns-then-has : goal.returns-then-has
returns-then-has c = λ numbering derives.
    let so = rw c.in-Some.ensures.cases.0 at c.loop-link.invariant numbering derives in
    let is_true = (so.holds.exactly c.in-Some.link.now.pivot).0 (c.has.ensures.0 c.if-has.true) in
    rw c.in_ok-push.ensures.ok (ends_early numbering c.args.clause.now c.args.chain.now.first c.in-Some.before.now c.in-Some.link.now c.loop-link.true_lits.ranks c.loop-link.hints so is_true)

pub loop-link-preserved-in_ok-insert : goal.loop-link-preserved-in_ok-insert
loop-link-preserved-in_ok-insert c = λ numbering derives.
    let so = rw c.in-Some.ensures.cases.0 at c.loop-link.invariant numbering derives in
    let pivot = c.in-Some.link.now.pivot in
    let has_open = rw c.negation-open.ensures.exact at c.has-in-Some.ensures in
    let not_pivot = λ (among : Contains so.lits pivot). iff_false c.has.ensures c.if-has.false ((so.holds.exactly pivot).1 among) in
    let not_open = λ (among : Contains so.lits (negated pivot)). iff_false has_open c.if-not-has.true ((so.holds.exactly (negated pivot)).1 among) in
    let holds = rw c.negation-open.ensures.exact at c.in_ok-insert.ensures so.lits so.holds in
    rw c.in_ok-push-2.ensures.ok
    (makes_true numbering c.args.clause.now c.args.chain.now.first c.in-Some.before.now c.in-Some.link.now c.loop-link.true_lits.ranks c.insert.new.self.ranks c.loop-link.hints so not_pivot not_open holds)

pub loop-link-preserved : goal.loop-link-preserved
loop-link-preserved c = λ numbering derives.
    let so = rw c.in-Some.ensures.cases.0 at c.loop-link.invariant numbering derives in
    let has_open = rw c.negation-open.ensures.exact at c.has-in-Some.ensures in
    let is_true = (so.holds.exactly (negated c.in-Some.link.now.pivot)).0 (has_open.0 c.if-not-has.false) in
    skips numbering c.args.clause.now c.args.chain.now.first c.in-Some.before.now c.in-Some.link.now c.loop-link.true_lits.ranks c.loop-link.hints so is_true

pub returns : goal.returns
returns c = λ numbering derives.
    let so = rw (nil_from_length c.loop-link.left.now c.in_default.ensures.cases) at c.loop-link.invariant numbering derives in
    rw c.in_ok-push-3.ensures.ok (ends_with_first numbering c.args.clause.now c.args.chain.now.first c.loop-link.true_lits.ranks c.loop-link.hints so)
