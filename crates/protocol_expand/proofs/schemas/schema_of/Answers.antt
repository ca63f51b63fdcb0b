-- The message that was made.
use Rattle.std.proofs.Common.{subst}
use Rattle.std.specs.List.{AllZip}
use Rattle.protocol_expand.specs.Canonical.{IsFormalOf}
use Rattle.protocol_expand.proofs.SchemaLemmas.{schema_made}
use Rattle.protocol_expand.proofs.schemas.schema_of.Goals as goal

pub returns : goal.returns
returns c =
    schema_made c.args.roles.now c.args.params.now c.args.m.now c.index-roles-m.result c.index-roles-m-2.result
    c.word_of.result c.word_of-2.result c.word_of-3.result c.in_ok-formals_of.field-0
    c.requires.roles c.requires.placed.known_sender c.requires.placed.known_receiver c.index-roles-m.is c.index-roles-m-2.is
    c.word_of.ensures c.word_of-2.ensures c.word_of-3.ensures
    (subst (λ cs. AllZip (IsFormalOf c.args.params.now) cs c.in_ok-formals_of.field-0) c.as_slice.ensures c.in_ok-formals_of.ensures)
