-- The name is that of the parameter at the index that is found.
use Rattle.std.proofs.Common.{◌≡◌, ◌≢◌, ◌<◌, List, [], ℕ, length, None, sym, ◌∙◌}
use Rattle.std.specs.Prelude.{false}
use Rattle.std.specs.List.{position}
use Rattle.std.specs.Str.{bytes_eq}
use Rattle.bspl_types.specs.declared.expanded.Expanded.{Expanded}
use Rattle.bspl_types.specs.declared.protocol.ParamInfo.{ParamInfo}
use Rattle.agent_scripts.specs.Statement.{param_field}
use Rattle.script_text.proofs.NameLemmas.{found_named, none_named, name_of_param}
use Rattle.script_text.proofs.names.param_of.Goals as goal

no_param : ParamInfo
no_param = record { name = []; adornment = None; key = false }

missing : (x : Expanded) (name : List ℕ) → None ≡ position (λ (i : ParamInfo). bytes_eq i.name name) x.params → (p : ℕ) → p < length x.params → name ≢ param_field x p
missing x name none p known same = none_named (λ (i : ParamInfo). i.name) x.params name no_param none p known (same ∙ name_of_param x p no_param known)

pub returns-in_err-index : goal.returns-in_err-index
returns-in_err-index c =
    let none = rw c.as_slice.ensures at (sym c.in_err-index.was ∙ c.index_of.ensures) in
    rw c.from_residual.ensures (missing c.args.x.now c.args.name.now none)

pub returns : goal.returns
returns c =
    let is = rw c.as_slice.ensures at (sym c.in_ok-index.was ∙ c.index_of.ensures) in
    let found = found_named (λ (i : ParamInfo). i.name) c.args.x.now.params c.args.name.now c.in_ok-index.index no_param is in
    (found.0, found.1 ∙ sym (name_of_param c.args.x.now c.in_ok-index.index no_param found.0))
