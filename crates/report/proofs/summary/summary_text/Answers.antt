-- The text is written line by line.
use Rattle.std.proofs.Common.{◌≡◌, ◌++◌, List, ℕ, codes, length, ap, subst, ◌∙◌, arith}
use Rattle.std.specs.List.{count_by}
use Rattle.bspl_types.specs.declared.expanded.Expanded.{Expanded}
use Rattle.report.specs.Summary.{count_line, is_emission, is_reception}
use Rattle.report.specs.inner.Totals.{KnowsUnder}
use Rattle.report.specs.WorldRows.{IsRunOfWorld}
use Rattle.report.proofs.RoleCounts.{run_counts}
use Rattle.report.proofs.summary.summary_text.Goals as goal

pub returns : goal.returns
returns c = λ run local has.
    let x : Expanded = c.args.a.now in
    let keys = c.args.script.now.keys in
    let desks = c.args.world.now.desks in
    let total = c.count_all-total.result in
    let same : c.expanded-x.result.now ≡ x = c.expanded-x.ensures.same in
    let is : IsRunOfWorld x desks run = record { are_desks = c.requires.desks; local = local; histories = has } in
    let known : KnowsUnder x run keys c.count_known.result =
    subst (λ (y : Expanded). IsRunOfWorld y desks run → KnowsUnder y run keys c.count_known.result) same (c.count_known.ensures run) is in
    let sent : total.sent ≡ count_by is_emission run = omega (arith, c.count_all-total.ensures.sent, run_counts is_emission x desks run has) in
    let received : total.received ≡ count_by is_reception run = omega (arith, c.count_all-total.ensures.received, run_counts is_reception x desks run has) in
    let first : c.push_line.new.text ≡ count_line (codes "keys") (length keys) =
    c.in_ok-push_line.ensures ∙ ap (λ (ys : List ℕ). ys ++ count_line (codes "keys") c.count.result) c.new-text.ensures ∙ ap (count_line (codes "keys")) c.count.ensures.count in
    let second : c.push_line-2.new.text ≡ count_line (codes "keys") (length keys) ++ count_line (codes "sent") (count_by is_emission run) =
    c.in_ok-push_line-2.ensures ∙ ap (λ (ys : List ℕ). ys ++ count_line (codes "sent") total.sent) first
    ∙ ap (λ (n : ℕ). count_line (codes "keys") (length keys) ++ count_line (codes "sent") n) sent in
    let third : c.push_line-3.new.text ≡ (count_line (codes "keys") (length keys) ++ count_line (codes "sent") (count_by is_emission run)) ++ count_line (codes "received") (count_by is_reception run) =
    c.in_ok-push_line-3.ensures ∙ ap (λ (ys : List ℕ). ys ++ count_line (codes "received") total.received) second
    ∙ ap (λ (n : ℕ). (count_line (codes "keys") (length keys) ++ count_line (codes "sent") (count_by is_emission run)) ++ count_line (codes "received") n) received in
    record {
      known = known.known;
      are_known = known.each;
      text_is =
          c.in_ok-push_line-4.ensures ∙ ap (λ (ys : List ℕ). ys ++ count_line (codes "bound") c.count_known.result) third
          ∙ ap (λ (n : ℕ). ((count_line (codes "keys") (length keys) ++ count_line (codes "sent") (count_by is_emission run)) ++ count_line (codes "received") (count_by is_reception run)) ++ count_line (codes "bound") n) known.total;
    }
