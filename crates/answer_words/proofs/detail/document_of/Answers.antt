-- A text that is refused is no document.
use Rattle.answer_words.proofs.detail.document_of.Goals as goal

pub returns-in-Err-Byte : goal.returns-in-Err-Byte
returns-in-Err-Byte c = λ d is. (c.answers_once.ensures.exclusive c.args.text.now c.in-Err-Byte.field-0-0 c.in-Err-Byte.field-0-0 d).first is (rw c.in-Err-Byte.field-0-is at c.in-Err-Byte.ensures.refused)

pub returns-in-Err-Syntax : goal.returns-in-Err-Syntax
returns-in-Err-Syntax c = λ d is. (c.answers_once.ensures.exclusive c.args.text.now c.in-Err-Syntax.field-0-0 c.in-Err-Syntax.field-0-0 d).second is (rw c.in-Err-Syntax.field-0-is at c.in-Err-Syntax.ensures.refused)
