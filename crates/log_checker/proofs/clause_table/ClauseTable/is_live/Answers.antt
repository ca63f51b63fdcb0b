-- The mark of a number says whether it is live.
use Rattle.std.proofs.Common.{◌≡◌, ◌<◌, ◌≤◌, ◌-◌, ◌++◌, false, get_or, length, sym, ap, rules}
use Rattle.std.proofs.lemmas.List.{get_or_past}
use Rattle.log_checker.proofs.TableLemmas.{live_iff}
use Rattle.log_checker.proofs.clause_table.ClauseTable.is_live.Goals as goal

pub returns-in-Some-clause-exact : goal.returns-in-Some-clause-exact
returns-in-Some-clause-exact c =
    let table = c.self.inside in
    let some : 0 < c.args.number = search rules in
    let there = rw c.deref.ensures.value at c.in-Some.ensures.lookup in
    let is : c.in-Some.mark.now ≡ get_or table.live.items (c.args.number - 1) false = there.3.1 false in
    live_iff (table.formula ++ table.derived) table.live.items _ c.args.number c.in-Some.mark.now (ap (λ state. state.ledger) c.self.view_is) some c.self.invariant is

pub returns-in-None-clause-exact : goal.returns-in-None-clause-exact
returns-in-None-clause-exact c =
    let table = c.self.inside in
    let some : 0 < c.args.number = search rules in
    let long : length table.live.items ≤ c.args.number - 1 = search rules in
    live_iff (table.formula ++ table.derived) table.live.items _ c.args.number false (ap (λ state. state.ledger) c.self.view_is) some c.self.invariant (sym (get_or_past table.live.items (c.args.number - 1) false long))
