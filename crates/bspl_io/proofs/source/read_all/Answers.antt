-- What `read_all` took where it answers an error after a read.
use Rattle.std.proofs.Common.{◌≡◌, ◌<◌, ◌≤◌, ◌++◌, List, ℕ, Result, Ok, Err, IsErrAnd, IsErrOf, length, take, refl, arith, length-append, length-take-le}
use Rattle.std.proofs.KnownBytes.{Consumes-trans}
use Rattle.bspl_io.specs.declared.source.ReadRefusal.{ReadRefusal}
use Rattle.bspl_io.specs.declared.source.ReadRefusal.TheVariants.{NoMemory, TooLong}
use Rattle.bspl_io.proofs.source.read_all.Goals as goal

-- the text and this piece are more than the limit
pub returns-then-n-limit-clause-taken : goal.returns-then-n-limit-clause-taken
returns-then-n-limit-clause-taken g c =
    let piece = take c.in_ok-n.n c.read.new.into in
    let before = c.loop-text.invariant.consumed in
    let long : c.args.limit < length (c.loop-text.text ++ piece) =
    grind (arith, length-append, length-take-le) in (
      c.loop-text.text ++ piece,
      Consumes-trans _ _ _ _ _ before c.in_ok-n.ensures.bytes.0,
      (λ _. long, λ _. refl),
    )

-- out of memory is another answer than a text that is too long
not_too_long : (answer : Result (List ℕ) ReadRefusal)
    → IsErrAnd answer (λ refusal. refusal ≡ NoMemory) → IsErrOf answer TooLong → ⊥
not_too_long (Ok _) want is_long = want
not_too_long (Err refusal) want is_long = cc

-- the text and this piece are within the limit, and there was no memory for them
pub returns-in_err-append-clause-taken : goal.returns-in_err-append-clause-taken
returns-in_err-append-clause-taken g c =
    let piece = take c.in_ok-n.n c.read.new.into in
    let before = c.loop-text.invariant.consumed in
    let want = c.from_residual-in_err-append.ensures.1 in
    let short : length (c.loop-text.text ++ piece) ≤ c.args.limit =
    grind (arith, length-append, length-take-le) in (
      c.loop-text.text ++ piece,
      Consumes-trans _ _ _ _ _ before c.in_ok-n.ensures.bytes.0,
      (λ is_long. absurd (not_too_long _ want is_long), λ long. absurd (omega arith)),
    )
