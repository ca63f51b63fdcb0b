-- What is read is that of the one log, and each refusal is the one that is due.
use Rattle.question_answer.proofs.TextLemmas.{read_rest, reads_log, refused_rest, refuses_rest}
use Rattle.question_answer.proofs.reader.read_titled_log.Goals as goal

pub returns-clause-refused : goal.returns-clause-refused
returns-clause-refused c = refused_rest c.args.version c.args.rest.now c.read_entries.result c.read_entries.ensures.refused

pub returns-clause-reads : goal.returns-clause-reads
returns-clause-reads c =
    let law = c.rests_read_once.ensures in
    let r = c.read_entries.result in
    let read = c.read_entries.ensures in
    let version = c.args.version in
    let rest = c.args.rest.now in
    reads_log law.logs law.refusals law.exclusive version rest r (read_rest version rest r read.numbers read.allowed read.text) (refused_rest version rest r read.refused)

pub returns-clause-refuses : goal.returns-clause-refuses
returns-clause-refuses c =
    let law = c.rests_read_once.ensures in
    let r = c.read_entries.result in
    let read = c.read_entries.ensures in
    let version = c.args.version in
    let rest = c.args.rest.now in
    refuses_rest law.logs law.refusals law.exclusive version rest r (read_rest version rest r read.numbers read.allowed read.text) (refused_rest version rest r read.refused)
