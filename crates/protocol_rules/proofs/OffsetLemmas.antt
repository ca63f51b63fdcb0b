-- The fault of a question lies within its text.
use Rattle.std.proofs.Common.{◌≡◌, ℕ, ◌+◌, ◌≤◌, List, [], ◌∷◌, ◌++◌, length, length-append, ap, ⊎_elim, arith}
use Rattle.bspl_parser.specs.declared.token.Token.{Token}
use Rattle.bspl_parser.specs.Token.{offset_of}
use Rattle.bspl_parser.specs.Tokens.{BeginsNothing, IsEnd, TokensTo}
use Rattle.question_text.specs.declared.fault.QuestionFault.{QuestionFault}
use Rattle.question_text.specs.declared.fault.QuestionFault.TheVariants.{Byte, TooLong, Syntax, NoMemory}
use Rattle.question_text.specs.QuestionText.{EndsTooEarly, IsMisplaced, IsMisread}
use Rattle.protocol_rules.specs.inner.FaultOffset.{fault_offset}

-- the end of tokens lies within the bytes
end_within : (offset : ℕ) (bytes : List ℕ) (tokens : List Token) (bad : ℕ) → TokensTo (λ at rest. (at ≡ bad) × BeginsNothing rest) offset bytes tokens → bad ≤ offset + length bytes
end_within offset bytes [] bad (gap, rest, skipped, parts, end) =
    let size = ap length parts in
    let at = end.0 in
    omega (arith, size, at, length-append gap rest)
end_within offset bytes (token ∷ tokens) bad (gap, text, rest, begins, more) =
    let inner = end_within (offset + length gap + length text) rest tokens bad more in
    let size = ap length begins.parts in
    omega (arith, inner, size, length-append gap (text ++ rest), length-append text rest)

-- so does each token
token_within : (offset : ℕ) (bytes : List ℕ) (before : List Token) (token : Token) (after : List Token) → TokensTo (λ at rest. IsEnd rest) offset bytes (before ++ token ∷ after) → offset_of token ≤ offset + length bytes
token_within offset bytes [] token after (gap, text, rest, begins, more) =
    let size = ap length begins.parts in
    let at = begins.at_offset in
    omega (arith, size, at, length-append gap (text ++ rest), length-append text rest)
token_within offset bytes (first ∷ before) token after (gap, text, rest, begins, more) =
    let inner = token_within (offset + length gap + length text) rest before token after more in
    let size = ap length begins.parts in
    omega (arith, inner, size, length-append gap (text ++ rest), length-append text rest)

-- a misplaced token lies within the text
misplaced_within : (bytes : List ℕ) (offset : ℕ) → IsMisplaced bytes offset → offset ≤ length bytes
misplaced_within bytes offset bad =
    let within = token_within 0 bytes bad.prefix bad.token bad.rest bad.scanned.scanned in
    omega (arith, within, bad.at_offset)

-- so does the fault
pub fault_within : (bytes : List ℕ) (fault : QuestionFault) → IsMisread bytes fault → fault_offset fault ≤ length bytes
fault_within bytes (Byte offset) bad = omega (arith, end_within 0 bytes bad.0 offset bad.1)
fault_within bytes (TooLong count) bad = omega arith
fault_within bytes (Syntax offset) bad =
    ⊎_elim (λ (misplaced : IsMisplaced bytes offset). misplaced_within bytes offset misplaced) (λ (early : EndsTooEarly bytes offset). omega (arith, early.at_offset)) bad
fault_within bytes NoMemory bad = omega arith
