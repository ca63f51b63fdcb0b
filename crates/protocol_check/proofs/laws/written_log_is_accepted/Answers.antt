-- The text of the log is no other's, and an accepted log does not fail.
use Rattle.refutation_log.specs.LogText.{IsTextOf, log_text}
use Rattle.protocol_check.specs.Check.{property_of}
use Rattle.protocol_check.proofs.laws.written_log_is_accepted.Goals as goal

pub returns : goal.returns
returns c = λ x kind log in_range accepts.
    let is_text : IsTextOf (log_text kind log) kind log = c.writes_texts.ensures kind log in_range in record {
      log = log;
      is_text = is_text;
      accepts = accepts;
      only = λ other read is. c.reads_once.ensures.logs (log_text kind log) other kind read log is is_text;
      unrefused = λ refusal known. c.reads_once.ensures.exclusive (log_text kind log) kind log refusal known is_text;
      unfailed = λ reject. c.log_fails_once.ensures.accepted (property_of kind) x log reject accepts;
    }
