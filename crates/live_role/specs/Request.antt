-- What the arguments request.
use Rattle.std.specs.Prelude.{◌≡◌, ℕ, Bool, if◌then◌else◌, List, [], ◌∷◌, ◌++◌, Option, None, Some, IsTrue, codes}
use Rattle.bspl_types.specs.Name.{is_name}

-- the path of the file in which lines are kept, and whether what is kept is synced
pub record JournalRequest : Type 0 where
  pub path : List ℕ
  pub syncs : Bool

-- the names of a protocol and of one of its roles, whether the protocol is judged before the role
-- is served, and where lines are kept, if they are
pub record RoleRequest : Type 0 where
  pub name : List ℕ
  pub role : List ℕ
  pub checked : Bool
  pub journal : Option JournalRequest

-- the arguments for a protocol that is judged, or is not
abbrev pub checked_args : Bool → List (List ℕ)
checked_args checked = if checked then [] else codes "--unchecked" ∷ []

-- the arguments for a journal
abbrev pub journal_args : Option JournalRequest → List (List ℕ)
journal_args None = []
journal_args (Some j) =
    codes "--journal" ∷ j.path ∷ (if j.syncs then [] else codes "--no-sync" ∷ [])

-- the arguments for a request, in the one order in which they may come
abbrev pub request_args : RoleRequest → List (List ℕ)
request_args r = r.name ∷ r.role ∷ (checked_args r.checked ++ journal_args r.journal)

-- both are names
pub record AreNames (name role : List ℕ) : Type 0 where
  pub protocol : IsTrue (is_name name)
  pub role_too : IsTrue (is_name role)

-- the arguments request this
pub record RequestsRole (args : List (List ℕ)) (r : RoleRequest) : Type 0 where
  pub arguments : args ≡ request_args r
  pub named : AreNames r.name r.role

-- the arguments are invalid: they request nothing
abbrev pub RequestsNothing : List (List ℕ) → Type 0
RequestsNothing args = (r : RoleRequest) → ¬ RequestsRole args r
