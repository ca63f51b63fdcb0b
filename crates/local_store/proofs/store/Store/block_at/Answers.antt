-- What the cells show of the message's parameters decides whether it can be emitted.
use Rattle.std.proofs.Common.{◌<◌, length, subst, sym}
use Rattle.std.specs.Prelude.{MatchOption}
use Rattle.std.specs.List.{All}
use Rattle.std.proofs.lemmas.List.Elements.{All-weaker}
use Rattle.bspl_types.specs.declared.protocol.Carried.{Carried}
use Rattle.role_knowledge.specs.Blocked.{IsFirstBlock, IsPermitted}
use Rattle.stamped_history.specs.Local.{KnowsOneValue}
use Rattle.local_store.specs.State.{acts_of, key_at}
use Rattle.local_store.specs.inner.Grids.{cell_at}
use Rattle.local_store.proofs.BlockLemmas.{Decided, decided, shown}
use Rattle.local_store.proofs.KnownLemmas.{Reads, reads_cell}
use Rattle.local_store.proofs.store.Store.block_at.Goals as goal

found : (c : goal.After-first_block) → Decided c.args.self.now.protocol (acts_of c.args.self.now) c.args.message (key_at c.args.self.now c.args.row) c.first_block.result
found c =
    let s = c.self.inside in
    let t = c.args.self.now in
    let key = key_at t c.args.row in
    let cell = cell_at s.cells.width s.cells.items c.args.row in
    let carried = c.carried.result.now in
    let one = subst (λ u. KnowsOneValue u.protocol (acts_of u)) c.self.view_is c.self.invariant.0.local.one_value in
    let reads = All-weaker (λ (d : Carried). d.param < length t.protocol.params) (λ d. Reads t.protocol (acts_of t) key d.param (cell d.param))
    (λ d exists. subst (λ k. Reads t.protocol (acts_of t) key d.param (cell_at k s.cells.items c.args.row d.param)) (sym c.self.invariant.1.params)
    (reads_cell s.admitted s.role s.clock s.keys s.cells.items s.marks.items s.log t c.args.row d.param c.self.invariant.0 c.self.view_is c.requires.row_within exists)) carried c.carried.ensures.exist in
    let all = shown c.equal_values_are_one.ensures.lists t.protocol (acts_of t) key one cell carried reads in
    let means = subst (λ o. MatchOption o (All (IsPermitted t.protocol (acts_of t) key) carried) (IsFirstBlock t.protocol (acts_of t) key carried)) (sym c.first_block.ensures) all in
    decided t.protocol (acts_of t) c.args.message key c.first_block.result c.requires.message_within
    (subst (λ cs. MatchOption c.first_block.result (All (IsPermitted t.protocol (acts_of t) key) cs) (IsFirstBlock t.protocol (acts_of t) key cs)) c.carried.ensures.carried means)

pub returns-clause-exact : goal.returns-clause-exact
returns-clause-exact c = (found c).exact

pub returns-clause-blocked : goal.returns-clause-blocked
returns-clause-blocked c = (found c).blocked
