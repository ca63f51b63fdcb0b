-- The message is named exactly if it produces the parameter.
use Rattle.std.proofs.Common.{◌≡◌, ◌∙◌, ◌++◌, inl, inr, true, refl, subst, sym, ap}
use Rattle.std.proofs.lemmas.Bool.{false≢true}
use Rattle.std.proofs.lemmas.Result.{on_ok_weaker}
use Rattle.bspl_types.specs.declared.protocol.Adornment.TheVariants.{Out}
use Rattle.bspl_types.specs.declared.protocol.Message.{Message}
use Rattle.bspl_types.specs.Expansion.{IsAdorned, message_of}
use Rattle.answer_words.specs.Producers.{blocked_line}
use Rattle.answer_words.proofs.producers.push_producer.Goals as goal

pub first_block-requires-clause-blocked : goal.first_block-requires-clause-blocked
first_block-requires-clause-blocked c =
    c.requires.blocked c.args.message (subst (λ (m : Message). IsAdorned m Out c.args.param) c.message_at.ensures (c.produces.ensures.0 c.if-not-produces.false))

pub returns : goal.returns
returns c =
    let x = c.args.x.now in
    let block = c.first_block.result in
    on_ok_weaker c.push_blocked.result
    (λ grown. inl (
      subst (λ (m : Message). IsAdorned m Out c.args.param) c.message_at.ensures (c.produces.ensures.0 c.if-not-produces.false),
      record {
        added = blocked_line x (message_of x c.args.message) block;
        grown = grown ∙ ap (λ (m : Message). c.args.text.now ++ blocked_line x m block) c.message_at-2.ensures;
        holds = record { block = block; first = c.first_block.ensures; is_line = refl };
      },
    ))
    c.push_blocked.ensures

pub returns-then-not-produces : goal.returns-then-not-produces
returns-then-not-produces c =
    inr (
      (λ adorned.
          let on : c.produces.result ≡ true = c.produces.ensures.1 (subst (λ (m : Message). IsAdorned m Out c.args.param) (sym c.message_at.ensures) adorned) in
          false≢true (sym c.if-not-produces.true ∙ on)),
      refl,
    )
