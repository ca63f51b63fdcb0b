-- What a request says, with its texts as bytes.
use Rattle.std.specs.Prelude.{◌≡◌, ◌≢◌, ℕ, Bool, true, List, ◌∷◌, ◌++◌, Option, codes}
use Rattle.std.specs.Option.{option_map}
use Rattle.live_role.specs.Request.{JournalRequest, RoleRequest, checked_args}
use Rattle.live_role.specs.declared.request.JournalOption.{JournalOption}
use Rattle.live_role.specs.declared.request.Request.{Request}

-- where lines are kept
abbrev pub journal_said : Option JournalOption → Option JournalRequest
journal_said wanted =
    option_map (λ (j : JournalOption). record { path = j.path.now; syncs = j.syncs }) wanted

-- the request as a whole
abbrev pub request_said : Request → RoleRequest
request_said r = record {
  name = r.name.now;
  role = r.role.now;
  checked = r.checked;
  journal = journal_said r.journal;
}

-- the options without the first one, if that says that the protocol is not judged
pub record IsCheckedFirst (options : List (List ℕ)) (checked : Bool) (rest : List (List ℕ))
    : Type 0 where
  pub whole : options ≡ checked_args checked ++ rest
  pub none_first : checked ≡ true → (more : List (List ℕ)) → options ≢ codes "--unchecked" ∷ more
