-- The first field is the word of the setting.
use Rattle.script_text.proofs.line.statement_of.Goals as goal

pub returns-in-Some-setting_named : goal.returns-in-Some-setting_named
returns-in-Some-setting_named c = rw (c.in-Some.ensures, c.in-Some-setting_named.ensures) (c.setting_statement.ensures c.args.x.now)
