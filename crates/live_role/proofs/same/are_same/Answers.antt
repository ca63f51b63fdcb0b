-- The texts are equal byte by byte.
use Rattle.std.proofs.Common.{◌≡◌, Bool, sym, subst}
use Rattle.std.specs.Bool.{Decides}
use Rattle.std.proofs.lemmas.Slice.Eq.{bytes_eq-Decides}
use Rattle.live_role.proofs.same.are_same.Goals as goal

pub returns : goal.returns
returns c =
    subst (λ (r : Bool). Decides r (c.args.text.now ≡ c.args.other.now)) (sym c.eq.ensures) (bytes_eq-Decides c.args.text.now c.args.other.now)
