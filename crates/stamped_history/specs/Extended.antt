-- One entry more, and what stays explained.
use Rattle.std.specs.Prelude.{◌≡◌, ℕ, List, [], ◌∷◌, ◌++◌, slice_set}
use Rattle.bspl_types.specs.declared.event.Event.TheVariants.{Emit, Receive}
use Rattle.bspl_types.specs.declared.event.Instance.{Instance}
use Rattle.bspl_types.specs.declared.expanded.Expanded.{Expanded}
use Rattle.stamped_history.specs.declared.entry.Entry.{Entry}
use Rattle.stamped_history.specs.Explained.{AreExplained, history_at, IsExplained}

-- the histories, with the entry at the end of the role's
abbrev pub extended : List (List Entry) → ℕ → Entry → List (List Entry)
extended histories role e = slice_set histories role (history_at histories role ++ e ∷ [])

-- after an emission all receipts are still explained
abbrev pub EmissionKeepsExplained : Type 0
EmissionKeepsExplained =
    (x : Expanded) (histories : List (List Entry)) (role : ℕ) (e : Entry) (i : Instance) →
    AreExplained x histories → e.event ≡ Emit i → AreExplained x (extended histories role e)

-- after a receipt too, if it is explained by the histories before it
abbrev pub ReceiptKeepsExplained : Type 0
ReceiptKeepsExplained =
    (x : Expanded) (histories : List (List Entry)) (role : ℕ) (e : Entry) (i : Instance) →
    AreExplained x histories → e.event ≡ Receive i →
    IsExplained x histories (history_at histories role) i e →
    AreExplained x (extended histories role e)
