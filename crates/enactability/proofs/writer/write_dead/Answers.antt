-- What is written is the text of the log.
use Rattle.std.proofs.Common.{◌≡◌, ℕ, List, [], ◌∷◌, ◌++◌, ap, ◌∙◌}
use Rattle.std.specs.List.{flat_map}
use Rattle.bspl_types.specs.declared.expanded.Expanded.{Expanded}
use Rattle.bspl_types.specs.declared.protocol.Message.{Message}
use Rattle.bspl_types.specs.Expansion.{message_of}
use Rattle.list_base.specs.Lines.{end_line}
use Rattle.refutation_log.specs.Entries.{entries}
use Rattle.refutation_log.specs.LogText.{entry_line, least_version}
use Rattle.enactability.specs.inner.Title.{dead_front}
use Rattle.enactability.proofs.TextLemmas.{all_written}
use Rattle.enactability.proofs.TitleLemmas.{title_body}
use Rattle.enactability.proofs.writer.write_dead.Goals as goal

pub returns : goal.returns
returns c =
    let x = c.args.a.now in
    let m = c.args.message in
    let log = c.args.log.now in
    let version = least_version log.removals in
    let front : c.in_ok-text.text ≡ dead_front version = c.in_ok-text.ensures ∙ c.dead_front.ensures ∙ ap dead_front c.version.ensures in
    let name = c.as_slice.ensures ∙ ap (λ (message : Message). message.name) (c.message_at.ensures ∙ ap (λ (y : Expanded). message_of y m) c.expanded.ensures.same) in
    let titled : c.append.new.self ≡ title_body x version m =
    c.in_ok-append.ensures.ok ∙ ap (λ (text : List ℕ). text ++ c.as_slice.result.now) front ∙ ap (λ (bytes : List ℕ). dead_front version ++ bytes) name in
    c.in_ok-push_entries.ensures
    ∙ ap (λ (text : List ℕ). (text ++ flat_map entry_line (entries log)) ++ end_line) (c.in_ok-push.ensures.ok ∙ ap (λ (text : List ℕ). text ++ 10 ∷ []) titled)
    ∙ all_written x m log
