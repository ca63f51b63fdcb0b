-- Which protocols are followed: those with something at the ends of their paths.
use Rattle.std.specs.Prelude.{◌≡◌, ℕ, Bool, false, List, Some, slice_get}
use Rattle.bspl_parser.specs.declared.document.Declaration.{Declaration}
use Rattle.reference_graph.specs.Path.{IsReached}
use Rattle.protocol_paths.specs.declared.followed.Followed.{Followed}
use Rattle.protocol_paths.specs.Followed.{FollowsEnough}
use Rattle.protocol_limits.specs.Counts.{message_count, private_count}
use Rattle.protocol_limits.specs.Graph.{graph_of}

-- what is skipped counts nothing, and what is reached and counts nothing is skipped
pub record AreFollowed (g : List (List ℕ)) (top : ℕ) (count : ℕ → ℕ)
    (followed : List Bool) : Type 0 where
  pub none : (number : ℕ) → slice_get followed number ≡ Some false → count number ≡ 0
  pub all : (number : ℕ) → IsReached g top number → count number ≡ 0 →
      slice_get followed number ≡ Some false

-- the flags of messages and of private parameters are right, so that an expansion may go by them
pub record AreReported (protocols : List Declaration) (top : ℕ)
    (messages privates : List Bool) : Type 0 where
  pub of_messages : AreFollowed (graph_of protocols) top (message_count protocols) messages
  pub of_privates : AreFollowed (graph_of protocols) top (private_count protocols) privates
  pub lent : (followed : Followed) → followed.messages.now ≡ messages →
      followed.privates.now ≡ privates → FollowsEnough protocols followed
