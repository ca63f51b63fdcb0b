-- Where `clap` fails nothing is read, and else its matches hold what is parsed.
use Rattle.std.proofs.Common.{◌≡◌, true, [], map, string_bytes, sym, ap, subst, ◌∙◌}
use Rattle.std.specs.List.{list_all}
use Rattle.std.proofs.lemmas.List.Folds.{list_all-map}
use Rattle.clap.specs.Words.{found_of, is_simple, is_simple_and_free, fault_of, matches_of, app_of}
use Rattle.command_line.specs.Clap.{cli_app}
use Rattle.command_line.specs.Known.{is_known}
use Rattle.command_line.specs.ParsedArgs.{ParsesTo, nothing_parsed}
use Rattle.command_line.proofs.Final.{read_words, read_passes}
use Rattle.command_line.proofs.Getters.{memory_only, given_is}
use Rattle.command_line.proofs.Rules.{app_is_simple, app_is_free}
use Rattle.command_line.proofs.clap_matches.raw_args_of.Goals.{in-OutOfMemory, in_default}
use Rattle.command_line.proofs.clap_matches.raw_args_of.Goals as goal

pub returns-in-Err : goal.returns-in-Err
returns-in-Err c =
    let args = map string_bytes c.args.args.now in
    let known : list_all is_known args ≡ true = list_all-map is_known string_bytes c.args.args.now ∙ c.requires in
    let app = c.in_ok-command.ensures in
    elim c.match-kind.branch [
      | in-OutOfMemory w ↦ rw w.result-is tt
      | in_default w ↦ rw w.result-is (λ s says lean.
          let none : fault_of (app_of c.in_ok-command.command) args ≡ [] = ap (λ a. fault_of a args) app ∙ read_passes args known s says lean in
          let kinds = c.in-Err.ensures.kinds (ap is_simple_and_free app ∙ app_is_free) in
          w.in_default.not-OutOfMemory (c.kind.ensures ∙ memory_only _ c.in-Err.error none kinds))
    ]

pub returns : goal.returns
returns c =
    let args = map string_bytes c.args.args.now in
    let known : list_all is_known args ≡ true = list_all-map is_known string_bytes c.args.args.now ∙ c.requires in
    let app = c.in_ok-command.ensures in
    let none : fault_of cli_app args ≡ [] = sym (ap (λ a. fault_of a args) app) ∙ c.in-Ok.ensures.kinds (ap is_simple_and_free app ∙ app_is_free) in
    let read = read_words args known none in
    let rows = (c.in-Ok.ensures.matches (ap is_simple app ∙ app_is_simple)).0 ∙ ap (λ a. matches_of a args) app in
    let same = given_is (record { brief = c.get_flag.result; conflicts = c.get_str.result; threads = c.get_str-2.result; command = c.get_str-3.result; name = c.get_str-4.result })
    (found_of c.in-Ok.matches) (matches_of cli_app args) read.after rows read.reads c.get_flag.ensures.value c.get_flag.ensures.other c.get_str.ensures c.get_str-2.ensures c.get_str-3.ensures c.get_str-4.ensures in
    subst (λ s. ParsesTo args nothing_parsed s) (sym same) read.says
