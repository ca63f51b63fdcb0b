-- The keys are counted, or those of `key` lines.
use Rattle.std.proofs.Common.{◌<◌, ◌≤◌, List, length, subst, sym, ◌∙◌}
use Rattle.bspl_types.specs.declared.value.Value.{Value}
use Rattle.agent_scripts.specs.ScriptText.{statements_of}
use Rattle.script_text.proofs.KeyLemmas.{counted_are_given, keys_are_listed}
use Rattle.script_text.proofs.keys.keys_of.Goals as goal
use Rattle.script_text.proofs.keys.keys_of.Goals.{then-key_lines-eq0+in_ok-table, else-key_lines-eq0}

pub returns-clause-keys : goal.returns-clause-keys
returns-clause-keys c =
    let width = c.args.width in
    let statements = statements_of c.args.statements in
    elim c.if-key_lines-eq0.branch [
      | then-key_lines-eq0+in_ok-table w ↦
          w.table-is ∙ w.in_ok-table.ensures ∙ counted_are_given width c.key_count-count.result statements (sym c.key_lines.ensures.count ∙ w.if-key_lines-eq0.true) (c.key_count-count.ensures.count width)
      | else-key_lines-eq0 w ↦
          w.table-is ∙ w.into_keys-table.ensures ∙ sym (keys_are_listed width statements (λ none. w.if-key_lines-eq0.false (c.key_lines.ensures.count ∙ none)))
    ]

-- there are as many as were counted
pub returns-clause-some : goal.returns-clause-some
returns-clause-some c =
    subst (λ (keys : List (List Value)). 0 < length keys) (sym (returns-clause-keys c)) (subst (λ n. 0 < n) (c.key_count-count.ensures.count c.args.width) c.key_count-count.ensures.some)

pub returns-clause-few : goal.returns-clause-few
returns-clause-few c =
    subst (λ (keys : List (List Value)). length keys ≤ 10000) (sym (returns-clause-keys c)) (subst (λ n. n ≤ 10000) (c.key_count-count.ensures.count c.args.width) c.key_count-count.ensures.few)
