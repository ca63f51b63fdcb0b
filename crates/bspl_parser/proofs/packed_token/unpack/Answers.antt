-- The name's bytes are those that the token has in the text.
use Rattle.std.proofs.Common.{◌≡◌, ℕ, ◌+◌, ◌-◌, take, drop, ap, ◌∙◌, arith}
use Rattle.bspl_parser.proofs.PackedTokens.{name_unpacked}
use Rattle.bspl_parser.proofs.packed_token.unpack.Goals as goal

pub returns-in-Name : goal.returns-in-Name
returns-in-Name c =
    let text = c.args.text.now in
    let start : ℕ = c.args.packed.start in
    let same_len : (start + c.args.packed.len) - start ≡ c.args.packed.len = omega arith in
    name_unpacked text c.args.packed c.lent-text.result _ c.in-Name.is (c.lent-text.ensures ∙ ap (λ n. take n (drop start text)) same_len)
