-- The line of one protocol more; at the end all are listed.
use Rattle.std.proofs.Common.{◌+◌, drop}
use Rattle.std.proofs.lemmas.List.{drop_all}
use Rattle.answer_words.specs.Namings.{namings_of}
use Rattle.answer_words.proofs.NamingLemmas.{all_named, next_protocol, one_named}
use Rattle.answer_words.proofs.namings.push_namings.Goals as goal

pub loop-protocol-preserved : goal.loop-protocol-preserved
loop-protocol-preserved c =
    let namings = namings_of c.args.fault c.args.line.now c.args.name.now in
    let protocols = c.args.protocols.now in
    let i = c.loop-protocol.protocol-index in
    one_named c.args.spelled.now namings protocols (drop i protocols) (drop (i + 1) protocols) c.protocol-item.result c.args.text.now c.loop-protocol.text c.push_for.new.text (next_protocol protocols i c.protocol-item.result c.loop-protocol-test.true c.protocol-item.is) c.loop-protocol.invariant c.in_ok-push_for.ensures

pub returns : goal.returns
returns c =
    let namings = namings_of c.args.fault c.args.line.now c.args.name.now in
    let protocols = c.args.protocols.now in
    all_named c.args.spelled.now namings protocols (drop c.loop-protocol.protocol-index protocols) c.args.text.now c.loop-protocol.text (drop_all c.loop-protocol.protocol-index protocols c.loop-protocol-test.false) c.loop-protocol.invariant
