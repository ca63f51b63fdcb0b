-- A place holds the entry whose body was read from it.
use Rattle.std.proofs.Common.{◌≡◌, ℕ, ◌+◌, List, subst}
use Rattle.bspl_types.specs.declared.expanded.Expanded.{Expanded}
use Rattle.stamped_history.specs.declared.entry.Entry.{Entry}
use Rattle.role_journal.specs.EntryBody.{IsEntry, entry_body}
use Rattle.role_journal.specs.Image.{HasBytes}
use Rattle.role_journal.specs.Journal.{gate_of}
use Rattle.durable_store.specs.Alien.{HoldsEntry}

pub holds_read : (x y : Expanded) (image : List ℕ) (place : ℕ) (body : List ℕ) (e : Entry) → y ≡ x → HasBytes image (gate_of place + 1) body → IsEntry y e → body ≡ entry_body e → HoldsEntry x image place e
holds_read x y image place body e same has entry is = record {
  entry = subst (λ (z : Expanded). IsEntry z e) same entry;
  body = subst (HasBytes image (gate_of place + 1)) is has;
}
