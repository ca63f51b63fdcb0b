-- One line more completes the text.
use Rattle.std.proofs.Common.{◌≡◌, suc, ◌+◌, ◌<◌, ◌∷◌, length, drop, sym, ap, ◌∙◌, add-one, arith, drop-cons}
use Rattle.clause_core.specs.Numbering.{live}
use Rattle.lrat_text.proofs.LineLemmas.{all_written, removal_written, step_has_clause, step_written}
use Rattle.lrat_text.proofs.proof.proof_by_log.Goals as goal

pub loop-entry-preserved-in-Step : goal.loop-entry-preserved-in-Step
loop-entry-preserved-in-Step c =
    let derived = c.args.derived.now in
    let done = c.loop-entry.done in
    let count = length c.args.f.now.clauses in
    let clause = c.index-derived-done.result in
    let before = rw (c.in-Some.ensures, c.in-Step.is) at c.loop-entry.invariant.partly in
    let within : done < length derived = step_has_clause before.ledger before.final c.in-Step.chain.now c.next.new.self derived done before.runs in
    let cut : drop done derived ≡ clause ∷ drop (done + 1) derived = rw add-one (drop-cons derived done clause within ∙ ap (λ k. k ∷ drop (suc done) derived) (sym c.index-derived-done.is)) in
    let partly = rw cut at before in
    let push = rw (c.lits.ensures.same, c.len.ensures) at c.in_ok-push_step-in-Step.ensures in
    let number : count + (done + 1) ≡ count + done + 1 = omega arith in
    record {
      within = omega (arith, within);
      partly = rw number (step_written c.args.f.now c.args.log.now derived c.in-Step.chain.now c.next.new.self clause (drop (done + 1) derived) (count + done) c.loop-entry.text c.push_step.new.text partly (push (live partly.ledger) partly.runs.0));
    }

pub loop-entry-preserved : goal.loop-entry-preserved
loop-entry-preserved c =
    let derived = c.args.derived.now in
    let done = c.loop-entry.done in
    let partly = rw (c.in-Some.ensures, c.in-Drop.is) at c.loop-entry.invariant.partly in
    record {
      within = c.loop-entry.invariant.within;
      partly = removal_written c.args.f.now c.args.log.now derived c.in-Drop.numbers.now c.next.new.self (drop done derived) (length c.args.f.now.clauses + done) c.loop-entry.text c.push_deleted.new.text partly (rw c.len.ensures at c.in_ok-push_deleted-in-Drop.ensures);
    }

pub returns : goal.returns
returns c =
    let derived = c.args.derived.now in
    let done = c.loop-entry.done in
    all_written c.args.f.now c.args.log.now derived (drop done derived) (length c.args.f.now.clauses + done) c.loop-entry.text (rw c.in_default.ensures.0 at c.loop-entry.invariant.partly)
