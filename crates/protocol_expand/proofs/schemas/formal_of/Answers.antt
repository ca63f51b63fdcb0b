-- The parameter that was made.
use Rattle.std.proofs.Common.{sym, subst}
use Rattle.bspl_types.specs.declared.protocol.ParamInfo.{ParamInfo}
use Rattle.protocol_expand.specs.Canonical.{IsWordOf}
use Rattle.protocol_expand.proofs.SchemaLemmas.{formal_made}
use Rattle.protocol_expand.proofs.schemas.formal_of.Goals as goal

pub returns : goal.returns
returns c =
    formal_made c.args.params.now c.args.c c.index-params-c.result c.adorn_of.result c.word_of.result
    c.requires.params c.requires.placed c.index-params-c.is c.adorn_of.ensures
    (subst (λ (p : ParamInfo). IsWordOf p.name c.word_of.result) (sym c.index-params-c.is) c.word_of.ensures)
