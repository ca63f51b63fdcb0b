-- An unknown name of the second part comes after the known names of the first.
use Rattle.std.proofs.lemmas.Result.{err_from_is_err_and}
use Rattle.question_text.specs.Tree.{phrase_of}
use Rattle.question_text.specs.Unknown.{names_in, names_in_said}
use Rattle.question_text.proofs.MeaningLemmas.{known_means, known_said}
use Rattle.question_text.proofs.UnknownLemmas.{unknown_right}
use Rattle.question_text.proofs.asked.+meaning_of.Goals as goal

pub returns-in_err-other-in-Before-clause-refused : goal.returns-in_err-other-in-Before-clause-refused
returns-in_err-other-in-Before-clause-refused t c =
    let p = err_from_is_err_and c.from_residual-in_err-other-in-Before.result c.from_residual-in_err-other-in-Before.ensures.1 in
    let x = c.args.x.now in
    let one = c.in-Before.one in
    rw (p.1, p.2, c.in-Before.is) (unknown_right x (names_in_said one) (names_in_said c.in-Before.other) c.in_err-other-in-Before.field-0.0 (known_said x one c.in_ok-one-in-Before.one c.in_ok-one-in-Before.ensures.says) c.in_err-other-in-Before.ensures.refused)

pub returns-in_err-other-in-After-clause-refused : goal.returns-in_err-other-in-After-clause-refused
returns-in_err-other-in-After-clause-refused t c =
    let p = err_from_is_err_and c.from_residual-in_err-other-in-After.result c.from_residual-in_err-other-in-After.ensures.1 in
    let x = c.args.x.now in
    let one = c.in-After.one in
    rw (p.1, p.2, c.in-After.is) (unknown_right x (names_in_said one) (names_in_said c.in-After.other) c.in_err-other-in-After.field-0.0 (known_said x one c.in_ok-one-in-After.one c.in_ok-one-in-After.ensures.says) c.in_err-other-in-After.ensures.refused)

pub returns-in_err-other-in-And-clause-refused : goal.returns-in_err-other-in-And-clause-refused
returns-in_err-other-in-And-clause-refused t c =
    let p = err_from_is_err_and c.from_residual-in_err-other-in-And.result c.from_residual-in_err-other-in-And.ensures.1 in
    let x = c.args.x.now in
    let one = c.in-And.one.value in
    rw (p.1, p.2, c.in-And.is) (unknown_right x (names_in (phrase_of one)) (names_in (phrase_of c.in-And.other.value)) c.in_err-other-in-And.field-0.0 (known_means x (phrase_of one) c.in_ok-one-in-And.one (rw c.deref-in-And.ensures at c.in_ok-one-in-And.ensures.asks)) (rw c.deref-in-And-2.ensures at c.in_err-other-in-And.ensures.refused))

pub returns-in_err-other-in-Or-clause-refused : goal.returns-in_err-other-in-Or-clause-refused
returns-in_err-other-in-Or-clause-refused t c =
    let p = err_from_is_err_and c.from_residual-in_err-other-in-Or.result c.from_residual-in_err-other-in-Or.ensures.1 in
    let x = c.args.x.now in
    let one = c.in-Or.one.value in
    rw (p.1, p.2, c.in-Or.is) (unknown_right x (names_in (phrase_of one)) (names_in (phrase_of c.in-Or.other.value)) c.in_err-other-in-Or.field-0.0 (known_means x (phrase_of one) c.in_ok-one-in-Or.one (rw c.deref-in-Or.ensures at c.in_ok-one-in-Or.ensures.asks)) (rw c.deref-in-Or-2.ensures at c.in_err-other-in-Or.ensures.refused))
