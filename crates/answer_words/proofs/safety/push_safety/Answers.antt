-- The evidence of a verdict that refutes is its run.
use Rattle.std.proofs.Common.{List, subst, sym}
use Rattle.bspl_types.specs.declared.event.Event.{Event}
use Rattle.verdict.specs.Right.{IsUnsafeVerdict}
use Rattle.answer_words.proofs.NamedLemmas.{unsafe_of}
use Rattle.answer_words.proofs.safety.push_safety.Goals as goal

pub push_unsafe-requires : goal.push_unsafe-requires
push_unsafe-requires c =
    let found = c.in-Unsafe in
    subst (λ (run : List Event). IsUnsafeVerdict c.args.x.now run found.param found.first found.second) (sym c.as_slice.ensures) (unsafe_of c.args.x.now found.run' found.param found.first found.second c.requires.0 c.args.safety.now found.is c.requires.1)

pub returns-in-Unsafe : goal.returns-in-Unsafe
returns-in-Unsafe c = rw c.in-Unsafe.is (rw c.as_slice.ensures at c.push_unsafe.ensures)
