-- Ends that grow by what is at the ends of paths.
use Rattle.std.specs.Prelude.{◌≡◌, ℕ, zero, suc, List, [], ◌++◌, map}
use Rattle.std.specs.List.{AllZip, flat_map}
use Rattle.bspl_parser.specs.declared.document.Declaration.{Declaration}
use Rattle.bspl_parser.specs.declared.document.Item.{Item}
use Rattle.bspl_parser.specs.declared.document.Item.TheVariants.{Message}
use Rattle.bspl_parser.specs.declared.document.Schema.{Schema}
use Rattle.protocol_paths.specs.declared.ends.Ends.{Ends}
use Rattle.protocol_paths.specs.Flat.{IsImageItem, entry, private_entries}
use Rattle.protocol_paths.specs.Path.{Step, message_paths, steps_at}
use Rattle.protocol_paths.specs.Scope.{Scope, after, start}
use Rattle.protocol_paths.specs.inner.AddsEach.{AddsEach, IsImageMessage}

-- the private parameters to which an item leads, by at most `n` references
abbrev pub item_entries : ℕ → List Declaration → Scope → ℕ × Item → List (List ℕ × ℕ)
item_entries zero protocols scope i = []
item_entries (suc n) protocols scope i =
    flat_map (λ s. private_entries n protocols (after scope s)) (steps_at protocols i)

-- private parameters were added at the end, and messages, one for each that was found
pub record AddsEnds (scope : Scope) (entries : List (List ℕ × ℕ))
    (found : List (List Step × Schema)) (old new : Ends) : Type 0 where
  pub private : map entry new.private ≡ map entry old.private ++ entries
  pub messages : AddsEach (IsImageMessage scope) found old.messages new.messages

-- what is at the ends of the paths of at most `n` references from the top protocol
pub record AreEnds (n : ℕ) (protocols : List Declaration) (top : Declaration) (ends : Ends)
    : Type 0 where
  pub private : map entry ends.private ≡ private_entries n protocols (start top)
  pub messages : AllZip (IsImageItem (start top)) (message_paths n protocols top)
      (map Message ends.messages)
