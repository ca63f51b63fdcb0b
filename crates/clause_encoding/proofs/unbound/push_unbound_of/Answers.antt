-- One message more, and at the end all messages.
use Rattle.std.proofs.Common.{◌≡◌, ℕ, List, length, ap, sym, ◌∙◌, subst, arith}
use Rattle.std.specs.List.{flat_map, range_with_len}
use Rattle.bspl_types.specs.Expansion.{message_of}
use Rattle.clause_encoding.specs.Carriers.{binds}
use Rattle.clause_encoding.specs.Variables.{message_numbers, sent}
use Rattle.clause_core.specs.Written.{AppendsClauses, Written}
use Rattle.clause_encoding.specs.inner.Lacking.{absence_clause, unbound_by}
use Rattle.clause_encoding.proofs.AppendsLemmas.{appends_message}
use Rattle.clause_encoding.proofs.FilterLemmas.{map_filtered}
use Rattle.clause_encoding.proofs.unbound.push_unbound_of.Goals as goal

pub loop-m-preserved : goal.loop-m-preserved
loop-m-preserved c =
    appends_message (unbound_by c.args.x.now c.args.unbound c.args.param) _ _ _ c.loop-m.m c.loop-m.invariant c.in_ok-push_unbound_by.ensures

pub returns : goal.returns
returns c =
    let x = c.args.x.now in
    let by = unbound_by x c.args.unbound c.args.param in
    let all : c.loop-m.m ≡ length x.messages = omega arith in
    subst (λ (written : List Written). AppendsClauses c.args.clauses.now c.loop-m.clauses written)
    (ap (λ (n : ℕ). flat_map by (range_with_len 0 n)) all ∙ sym (map_filtered (λ m. binds (message_of x m) c.args.param) (λ m. absence_clause c.args.unbound (sent m)) (message_numbers x)))
    c.loop-m.invariant
