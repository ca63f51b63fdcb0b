-- A line says one statement of a protocol at most.
use Rattle.std.proofs.Common.{◌≡◌, List, length, map, sym, ◌∙◌}
use Rattle.bspl_types.specs.declared.expanded.Expanded.{Expanded}
use Rattle.bspl_types.specs.ValueSpelling.{ValuesAreSpelledOnce}
use Rattle.bspl_types.specs.Expansion.{message_name, role_name}
use Rattle.agent_scripts.specs.declared.statement.Statement.{Statement}
use Rattle.agent_scripts.specs.declared.statement.Statement.TheVariants as says
use Rattle.agent_scripts.specs.Statement.{IsDeclaredIn, Means, param_field, line_form}
use Rattle.script_text.proofs.OneName.{one_message, one_param, one_role, same_messages}
use Rattle.script_text.proofs.OneForm.{one_form}
use Rattle.text_lines.specs.Fields.{Field}

-- what is the same in names is the same by number
one_statement : (x : Expanded) (s t : Statement) → IsDeclaredIn x s → IsDeclaredIn x t → line_form x s ≡ line_form x t → s ≡ t
one_statement x (says.Set s m) (says.Set t n) known also same = cc
one_statement x (says.Key k) (says.Key l) known also same = cc
one_statement x (says.Order r ms) (says.Order q ns) known also same =
    let names : role_name x r ≡ role_name x q = cc in
    let lists : map (message_name x) ms ≡ map (message_name x) ns = cc in
    let role = one_role x r q known.0 also.0 names in
    let messages = same_messages x r q ms ns known.1 also.1 lists in
    cc
one_statement x (says.Decline m e) (says.Decline n f) known also same =
    let names : message_name x m ≡ message_name x n = cc in
    let message = one_message x m n known also names in
    cc
one_statement x (says.Bind m p r) (says.Bind n q t) known also same =
    let names : message_name x m ≡ message_name x n = cc in
    let params : param_field x p ≡ param_field x q = cc in
    let message = one_message x m n known.0 also.0 names in
    let param = one_param x m n p q known.0 also.0 known.1 also.1 params in
    cc
one_statement x s t known also same = absurd (cc)

-- fields say one statement at most
pub says_one : ValuesAreSpelledOnce → (x : Expanded) (fields : List Field) (s t : Statement) → Means x fields s → Means x fields t → s ≡ t
says_one once x fields s t said also =
    one_statement x s t said.known also.known (one_form once (length x.keys) (line_form x s) (line_form x t) said.in_table also.in_table (sym said.fields_are ∙ also.fields_are))
