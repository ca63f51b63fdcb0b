-- The texts of logs and of runs claim nothing.
use Rattle.std.proofs.Common.{◌≡◌, ℕ, Bool, true, false, List, [], ◌∷◌, ◌++◌, codes, map, refl}
use Rattle.std.specs.List.{flat_map, list_any}
use Rattle.std.proofs.lemmas.Bool.{or_from}
use Rattle.bspl_types.specs.declared.event.Event.{Event}
use Rattle.bspl_types.specs.declared.event.Event.TheVariants.{Emit, Receive}
use Rattle.bspl_types.specs.declared.event.Instance.{Instance}
use Rattle.bspl_types.specs.declared.expanded.Expanded.{Expanded}
use Rattle.bspl_types.specs.declared.protocol.Carried.{Carried}
use Rattle.bspl_types.specs.declared.value.Value.{Value}
use Rattle.bspl_types.specs.Expansion.{message_of, no_message, param_name}
use Rattle.bspl_types.specs.Instance.{pairs}
use Rattle.bspl_types.specs.ValueSpelling.{value_spelling}
use Rattle.refutation_log.specs.declared.refutation.Kind.{Kind}
use Rattle.refutation_log.specs.declared.refutation.Kind.TheVariants.{Liveness, Safety}
use Rattle.refutation_log.specs.declared.refutation.Link.{Link}
use Rattle.refutation_log.specs.declared.refutation.Log.{Log}
use Rattle.refutation_log.specs.declared.refutation.Entry.{Entry}
use Rattle.refutation_log.specs.declared.refutation.Entry.TheVariants.{Drop, Step}
use Rattle.refutation_log.specs.declared.refutation.Version.{Version}
use Rattle.refutation_log.specs.declared.refutation.Version.TheVariants.{One, Two}
use Rattle.refutation_log.specs.Entries.{entries}
use Rattle.refutation_log.specs.LogText.{drop_fields, entry_line, header_line, least_version, line_of, link_fields, log_text, numeral, pivot_text, step_fields, versioned_text}
use Rattle.run_text.specs.RunText.{event_line, head_line, instance_fields, no_param, run_text, value_field}
use Rattle.bspl_tool.proofs.ClaimsNothing.{IsBlock, IsField, block_joined, claims, no_lines}
use Rattle.bspl_tool.proofs.FieldBytes.{fields_are_block, indexed_has_no_lf, indexed_is_field, numeral_has_no_lf, value_has_no_lf}
use Rattle.bspl_tool.proofs.Unbroken.{has_lf, joined_has_none}

-- a block for each item
pub blocks_joined : {X : Type 0} (text : X → List ℕ) → ((x : X) → IsBlock (text x)) → (xs : List X) → IsBlock (flat_map text xs)
blocks_joined text each [] = no_lines
blocks_joined text each (x ∷ xs) = block_joined (each x) (blocks_joined text each xs)

-- the pivot of a link
pivot_has_no_lf : (var : ℕ) (positive : Bool) → has_lf (pivot_text (record { var = var; positive = positive })) ≡ false
pivot_has_no_lf var true = numeral_has_no_lf var
pivot_has_no_lf var false = numeral_has_no_lf var

-- the fields of links
links_have_no_lf : (links : List Link) → list_any has_lf (flat_map link_fields links) ≡ false
links_have_no_lf [] = refl
links_have_no_lf (link ∷ links) =
    let others = list_any has_lf (flat_map link_fields links) in
    or_from (has_lf (pivot_text link.pivot)) _ (pivot_has_no_lf link.pivot.var link.pivot.positive) (or_from (has_lf (numeral link.clause)) others (numeral_has_no_lf link.clause) (links_have_no_lf links))

-- the numbers of a removal
numbers_have_no_lf : (numbers : List ℕ) → list_any has_lf (map numeral numbers) ≡ false
numbers_have_no_lf [] = refl
numbers_have_no_lf (number ∷ numbers) =
    or_from (has_lf (numeral number)) _ (numeral_has_no_lf number) (numbers_have_no_lf numbers)

-- the line of a removal claims nothing, whatever its fields
drop_is_no_claim : (fields : List (List ℕ)) → claims (line_of (codes "drop" ∷ fields)) ≡ false
drop_is_no_claim [] = refl
drop_is_no_claim (field ∷ fields) = refl

-- the line of a step, or of a removal
pub entry_is_block : (entry : Entry) → IsBlock (entry_line entry)
entry_is_block (Step step) = fields_are_block (step_fields step) (or_from (has_lf (numeral step.first)) _ (numeral_has_no_lf step.first) (links_have_no_lf step.links)) refl
entry_is_block (Drop numbers) = fields_are_block (drop_fields numbers) (numbers_have_no_lf numbers) (drop_is_no_claim (map numeral numbers))

-- the first line of a log
header_is_block : (version : Version) (kind : Kind) → IsBlock (header_line version kind)
header_is_block One Safety = fields_are_block (codes "log" ∷ codes "1" ∷ codes "safety" ∷ []) refl refl
header_is_block One Liveness = fields_are_block (codes "log" ∷ codes "1" ∷ codes "liveness" ∷ []) refl refl
header_is_block Two Safety = fields_are_block (codes "log" ∷ codes "2" ∷ codes "safety" ∷ []) refl refl
header_is_block Two Liveness = fields_are_block (codes "log" ∷ codes "2" ∷ codes "liveness" ∷ []) refl refl

-- its text in a version
versioned_is_block : (version : Version) (kind : Kind) (log : Log) → IsBlock (versioned_text version kind log)
versioned_is_block version kind log =
    block_joined (block_joined (header_is_block version kind) (blocks_joined entry_line entry_is_block (entries log))) (fields_are_block (codes "end" ∷ []) refl refl)

-- and in the one that is written
pub log_is_block : (kind : Kind) (log : Log) → IsBlock (log_text kind log)
log_is_block kind log = versioned_is_block (least_version log.removals) kind log

-- the name of a parameter
pub param_has_no_lf : (x : Expanded) (p : ℕ) → has_lf (param_name x p) ≡ false
param_has_no_lf x p = indexed_has_no_lf (λ q. q.name) no_param refl x.params x.shape.param_names.named p

-- the name of a message
pub message_has_no_lf : (x : Expanded) (m : ℕ) → has_lf (message_of x m).name ≡ false
message_has_no_lf x m = indexed_has_no_lf (λ n. n.name) no_message refl x.messages x.shape.message_names.named m

-- it is one field of a line
pub message_is_field : (x : Expanded) (m : ℕ) → IsField (message_of x m).name
message_is_field x m = indexed_is_field (λ n. n.name) no_message (record { no_lf = refl; no_space = refl; no_brace = refl }) x.messages x.shape.message_names.named m

-- the fields of values
values_have_no_lf : (x : Expanded) (values : List (Carried × Value)) → list_any has_lf (map (value_field x.params) values) ≡ false
values_have_no_lf x [] = refl
values_have_no_lf x ((c, v) ∷ values) =
    let name = joined_has_none 10 (param_name x c.param) (codes "=") (param_has_no_lf x c.param) refl in
    or_from (has_lf (value_field x.params (c, v))) _ (joined_has_none 10 (param_name x c.param ++ codes "=") (value_spelling v) name (value_has_no_lf v)) (values_have_no_lf x values)

-- those of an instance
instance_has_no_lf : (x : Expanded) (i : Instance) → list_any has_lf (instance_fields x i) ≡ false
instance_has_no_lf x i = or_from (has_lf (message_of x i.message).name) _ (message_has_no_lf x i.message) (values_have_no_lf x (pairs x i))

-- the line of an event
event_is_block : (x : Expanded) (event : Event) → IsBlock (event_line x event)
event_is_block x (Emit i) = fields_are_block (codes "send" ∷ instance_fields x i) (instance_has_no_lf x i) refl
event_is_block x (Receive i) = fields_are_block (codes "receive" ∷ instance_fields x i) (instance_has_no_lf x i) refl

-- the text of a run
pub run_is_block : (x : Expanded) (run : List Event) → IsBlock (run_text x run)
run_is_block x run =
    let head : IsBlock head_line = fields_are_block (codes "run" ∷ codes "1" ∷ []) refl refl in
    block_joined (block_joined head (blocks_joined (event_line x) (event_is_block x) run)) (fields_are_block (codes "end" ∷ []) refl refl)
