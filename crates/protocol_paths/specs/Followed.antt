-- Which protocols are followed, and which are skipped.
use Rattle.std.specs.Prelude.{◌≡◌, ℕ, Bool, false, List, [], length, slice_get, Some}
use Rattle.bspl_parser.specs.declared.document.Declaration.{Declaration}
use Rattle.protocol_paths.specs.declared.followed.Followed.{Followed}
use Rattle.protocol_paths.specs.Path.{message_paths, private_words}

-- the protocol has a number, and is not followed
pub record IsSkipped (protocols : List Declaration) (followed : List Bool) (q : Declaration)
    : Type 0 where
  pub number : ℕ
  pub declared : slice_get protocols number ≡ Some q
  pub skipped : slice_get followed number ≡ Some false

-- no path from a protocol that is skipped leads to a message, or to a private parameter
pub record FollowsEnough (protocols : List Declaration) (followed : Followed) : Type 0 where
  pub messages : (q : Declaration) → IsSkipped protocols followed.messages.now q →
      message_paths (length protocols) protocols q ≡ []
  pub privates : (q : Declaration) → IsSkipped protocols followed.privates.now q →
      private_words (length protocols) protocols q ≡ []
