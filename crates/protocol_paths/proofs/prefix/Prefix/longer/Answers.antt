-- The longer text is a prefix too.
use Rattle.std.proofs.Common.{◌≡◌, ◌++◌, ◌∙◌, sym, subst, arith}
use Rattle.std.specs.Prelude.{codes, decimal}
use Rattle.protocol_paths.specs.Prefix.{IsPrefix}
use Rattle.protocol_paths.proofs.PrefixLemmas.{grown, longer_prefix}
use Rattle.protocol_paths.proofs.prefix.Prefix.longer.Goals as goal

pub invariant_of-result : goal.invariant_of-result
invariant_of-result c =
    let prefix = c.args.self.text in
    let name = c.args.target.now.text in
    let digits = decimal c.args.position in
    let made : c.add_numbered.new.text ≡ (((prefix ++ name) ++ codes "#") ++ digits) ++ codes "." = cc (c.as_slice.ensures, c.in_ok-number.ensures.ok, c.as_bytes.ensures.value, c.in_ok-add_numbered.ensures) in
    record { before_names = subst IsPrefix (sym (made ∙ grown prefix name digits)) (longer_prefix prefix name c.args.position c.args.self.before_names c.args.target.now.named c.requires (omega arith)) }
