-- What the facts permit is what the sender's history permits.
use Rattle.std.proofs.Common.{subst}
use Rattle.std.specs.Prelude.{◌↔◌, IsTrue}
use Rattle.bspl_types.specs.Expansion.{message_of}
use Rattle.run_index.specs.inner.Knowing.{IsPermittedWith}
use Rattle.run_index.proofs.PermissionLemmas.{enabled_from, known_pairs_from, permitted_from}
use Rattle.run_index.proofs.permission.is_enabled.Goals as goal

pub returns : goal.returns
returns c =
    let x = c.args.x.now in
    let i = c.args.instance.now in
    let facts = c.args.facts.now in
    let of_message = subst (λ m. IsTrue c.is_permitted_with.result ↔ IsPermittedWith facts m c.as_slice.result.now) c.message_at.ensures c.is_permitted_with.ensures in
    let exact = subst (λ values. IsTrue c.is_permitted_with.result ↔ IsPermittedWith facts (message_of x i.message) values) c.as_slice.ensures.values of_message in
    λ before are. (
      λ yes. let permitted = exact.0 yes in enabled_from x before i facts c.requires are permitted.permitted permitted.known,
      λ enabled. exact.1 (record { permitted = permitted_from x before i facts are enabled; known = known_pairs_from x before i facts are enabled }),
    )
