-- The acts that stand for entries: the values of each are in the rows.
use Rattle.std.specs.Prelude.{ℕ, Option, Bool, List, [], map, slice_index_or, unwrap_or}
use Rattle.bspl_types.specs.declared.event.Event.{Event}
use Rattle.bspl_types.specs.declared.event.Event.TheVariants.{Emit, Receive}
use Rattle.bspl_types.specs.declared.event.Instance.{Instance}
use Rattle.bspl_types.specs.declared.expanded.Expanded.{Expanded}
use Rattle.bspl_types.specs.declared.value.Value.{Value}
use Rattle.bspl_types.specs.declared.value.Value.TheVariants.{Number}
use Rattle.bspl_types.specs.Adornment.{valued}
use Rattle.bspl_types.specs.Expansion.{message_of}
use Rattle.stamped_history.specs.declared.entry.Entry.{Entry}
use Rattle.local_store.specs.declared.act.Act.{Act}
use Rattle.local_store.specs.declared.act.Kind.{Kind}
use Rattle.local_store.specs.declared.act.Kind.TheVariants.{Emitted, Received}

-- the acts, and how many more fit without memory
pub record ActsState : Type 0 where
  pub acts : List Act
  pub spare : ℕ

-- the held keys, and for each row the cells of the parameters and the marks of the messages
pub record Rows : Type 0 where
  pub keys : List (List Value)
  pub cell : ℕ → ℕ → Option Value
  pub mark : ℕ → ℕ → Bool

abbrev pub event_as : Kind → Instance → Event
event_as Emitted i = Emit i
event_as Received i = Receive i

-- the value in the cell, or 0 if there is none
abbrev pub value_in : Option Value → Value
value_in cell = unwrap_or cell (Number 0)

-- the instance that the act emits or receives
abbrev pub instance_in : Expanded → Rows → Act → Instance
instance_in x rows a = record {
  message = a.message;
  key = slice_index_or rows.keys a.row [];
  values = map (λ c. value_in (rows.cell a.row c.param)) (valued (message_of x a.message).carried);
}

abbrev pub entry_in : Expanded → Rows → Act → Entry
entry_in x rows a = record {
  event = event_as a.kind (instance_in x rows a);
  stamp = a.stamp;
  number = a.number;
}

abbrev pub entries_in : Expanded → Rows → List Act → List Entry
entries_in x rows acts = map (entry_in x rows) acts
