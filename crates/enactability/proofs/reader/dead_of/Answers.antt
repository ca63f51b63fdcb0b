-- The first line is read or refused, and then the lines after it.
use Rattle.std.proofs.Common.{inl, refl}
use Rattle.std.proofs.lemmas.Result.{err_from_is_err_and}
use Rattle.refutation_log.specs.declared.refutation.Kind.TheVariants.{Safety}
use Rattle.enactability.proofs.TextLemmas.{after_of, no_line, no_title, text_of}
use Rattle.enactability.proofs.reader.dead_of.Goals as goal

pub returns-in_default-clause-refused : goal.returns-in_default-clause-refused
returns-in_default-clause-refused c =
    let whole = rw c.in_default.is at c.split_once.ensures.whole in
    inl (no_line c.args.x.now c.args.text.now (rw whole c.split_once.ensures.first), refl)

pub returns-in_default-title_of-clause-refused : goal.returns-in_default-title_of-clause-refused
returns-in_default-title_of-clause-refused c =
    let whole = rw c.in-Some.is at c.split_once.ensures.whole in
    let none = c.in_default-title_of.ensures in
    inl (no_title c.names_are_fields.ensures c.args.x.now c.args.text.now _ _ c.split_once.ensures.first whole none, refl)

pub returns-in_err-log-clause-refused : goal.returns-in_err-log-clause-refused
returns-in_err-log-clause-refused c =
    let p = err_from_is_err_and c.from_residual.result c.from_residual.ensures.1 in
    let whole = rw c.in-Some.is at c.split_once.ensures.whole in
    let is = c.in-Some-title_of.ensures in
    rw (p.1, p.2) (after_of c.args.x.now c.args.text.now _ _ c.in-Some-title_of.version c.in-Some-title_of.message _ whole is (c.in_err-log.ensures.refused Safety))

pub returns-clause-ok : goal.returns-clause-ok
returns-clause-ok c =
    let whole = rw c.in-Some.is at c.split_once.ensures.whole in
    let is = c.in-Some-title_of.ensures in
    let log = c.in_ok-log.ensures in
    text_of c.args.x.now c.args.text.now _ _ c.in-Some-title_of.version c.in-Some-title_of.message c.in_ok-log.log whole is log.numbers log.allowed log.text
