-- The line is a first line exactly if its name is that of a message.
use Rattle.bspl_types.specs.Expansion.{message_name}
use Rattle.enactability.proofs.TitleLemmas.{title_read, title_unread}
use Rattle.enactability.proofs.title.title_of.Goals as goal

pub returns-in_err-version : goal.returns-in_err-version
returns-in_err-version c = rw c.from_residual.ensures (λ version m is. c.in_err-version.ensures version (message_name c.args.x.now m) is.body)

pub returns-in_err-message : goal.returns-in_err-message
returns-in_err-message c = rw c.from_residual-in_err-message.ensures
    (title_unread c.args.x.now c.args.line.now c.in_ok-version.name.now c.in_ok-version.version c.in_ok-version.ensures c.in_err-message.ensures)

pub returns : goal.returns
returns c = title_read c.args.x.now c.args.line.now c.in_ok-version.name.now c.in_ok-version.version c.in_ok-message.message c.in_ok-version.ensures c.in_ok-message.ensures
