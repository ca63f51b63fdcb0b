-- What is found, by what the number and then the name had.
use Rattle.std.proofs.Common.{◌∙◌, ap, sym, subst}
use Rattle.std.specs.Prelude.{nat_eq}
use Rattle.std.specs.Str.{bytes_eq}
use Rattle.std.proofs.Math.ListN.{get_or-map}
use Rattle.protocol_names.specs.inner.IndexMap.{KeepsIndex, at_number, at_name}
use Rattle.protocol_names.proofs.KeptIndexLemmas.{kept_new, kept_known, kept_shared}
use Rattle.protocol_names.proofs.name_table.keep_index.Goals as goal

pub returns-then-first-index-clause-ok : goal.returns-then-first-index-clause-ok
returns-then-first-index-clause-ok c = λ before is_last pushed is_map.
    (kept_new before _ c.args.name.now c.args.index c.in_ok-first.first _ _ _ is_last pushed is_map (subst (λ n. KeepsIndex nat_eq n c.args.index (at_number c.args.by_number.now) (at_number c.keep_number.new.map) c.in_ok-first.first) c.name_number.ensures c.in_ok-first.ensures.ok) c.if-first-index.true).0

pub returns-then-first-index-clause-known : goal.returns-then-first-index-clause-known
returns-then-first-index-clause-known c = λ before is_last pushed is_map.
    (kept_new before _ c.args.name.now c.args.index c.in_ok-first.first _ _ _ is_last pushed is_map (subst (λ n. KeepsIndex nat_eq n c.args.index (at_number c.args.by_number.now) (at_number c.keep_number.new.map) c.in_ok-first.first) c.name_number.ensures c.in_ok-first.ensures.ok) c.if-first-index.true).1

pub returns-then-eq-clause-ok : goal.returns-then-eq-clause-ok
returns-then-eq-clause-ok c = λ before is_last pushed is_map.
    (kept_known before _ c.args.name.now c.args.index c.in_ok-first.first _ _ _ is_last pushed is_map (subst (λ n. KeepsIndex nat_eq n c.args.index (at_number c.args.by_number.now) (at_number c.keep_number.new.map) c.in_ok-first.first) c.name_number.ensures c.in_ok-first.ensures.ok) c.if-first-index.false (ap (λ n. bytes_eq n c.args.name.now) (get_or-map (λ n. n.now) c.args.names.now c.in_ok-first.first _) ∙ sym c.eq.ensures ∙ c.if-eq.true)).0

pub returns-then-eq-clause-known : goal.returns-then-eq-clause-known
returns-then-eq-clause-known c = λ before is_last pushed is_map.
    (kept_known before _ c.args.name.now c.args.index c.in_ok-first.first _ _ _ is_last pushed is_map (subst (λ n. KeepsIndex nat_eq n c.args.index (at_number c.args.by_number.now) (at_number c.keep_number.new.map) c.in_ok-first.first) c.name_number.ensures c.in_ok-first.ensures.ok) c.if-first-index.false (ap (λ n. bytes_eq n c.args.name.now) (get_or-map (λ n. n.now) c.args.names.now c.in_ok-first.first _) ∙ sym c.eq.ensures ∙ c.if-eq.true)).1

pub returns-clause-ok : goal.returns-clause-ok
returns-clause-ok c = λ before is_last pushed is_map.
    (kept_shared before _ c.args.name.now c.args.index c.in_ok-first.first _ _ _ is_last pushed is_map (subst (λ n. KeepsIndex nat_eq n c.args.index (at_number c.args.by_number.now) (at_number c.keep_number.new.map) c.in_ok-first.first) c.name_number.ensures c.in_ok-first.ensures.ok) c.in_ok-first-2.first (at_name c.keep_bytes.new.map) c.if-first-index.false (ap (λ n. bytes_eq n c.args.name.now) (get_or-map (λ n. n.now) c.args.names.now c.in_ok-first.first _) ∙ sym c.eq.ensures ∙ c.if-eq.false) c.in_ok-first-2.ensures.ok).0

pub returns-clause-known : goal.returns-clause-known
returns-clause-known c = λ before is_last pushed is_map.
    (kept_shared before _ c.args.name.now c.args.index c.in_ok-first.first _ _ _ is_last pushed is_map (subst (λ n. KeepsIndex nat_eq n c.args.index (at_number c.args.by_number.now) (at_number c.keep_number.new.map) c.in_ok-first.first) c.name_number.ensures c.in_ok-first.ensures.ok) c.in_ok-first-2.first (at_name c.keep_bytes.new.map) c.if-first-index.false (ap (λ n. bytes_eq n c.args.name.now) (get_or-map (λ n. n.now) c.args.names.now c.in_ok-first.first _) ∙ sym c.eq.ensures ∙ c.if-eq.false) c.in_ok-first-2.ensures.ok).1
