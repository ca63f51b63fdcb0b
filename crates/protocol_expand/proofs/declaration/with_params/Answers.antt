-- What was made of the expansion.
use Rattle.std.proofs.Common.{refl, subst, sym}
use Rattle.std.specs.List.{AllZip}
use Rattle.bspl_parser.specs.declared.document.Declaration.{Declaration}
use Rattle.protocol_expand.specs.Canonical.{IsItemOf}
use Rattle.protocol_expand.proofs.DeclarationLemmas.{IsMade, bare_made, flat_made, formed_made, made_of}
use Rattle.protocol_expand.proofs.declaration.with_params.Goals as goal

pub returns : goal.returns
returns c =
    let x = c.args.x.now in
    let d : Declaration = record {
      name = c.word_of.result;
      roles = c.args.roles;
      public = c.in_ok-public.public;
      private = c.in_ok-private.private;
      body = c.args.body;
    } in
    let made : IsMade x d =
    made_of x d _ _ _ _ _ _ c.as_slice.ensures c.split_at.ensures.front c.split_at.ensures.back refl refl refl
    c.word_of.ensures c.requires.roles c.in_ok-public.ensures c.in_ok-private.ensures
    (subst (λ ps. AllZip (IsItemOf x.roles ps) x.messages d.body) (sym c.as_slice.ensures) c.requires.body) in
    record { flat = flat_made x d made; formed = formed_made x d made; bare = bare_made x d made }
