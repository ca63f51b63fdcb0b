-- What a reference leads to, where it is followed and where it is skipped.
use Rattle.std.proofs.Common.{◌≡◌, ℕ, zero, suc, ◌-◌, ◌<◌, ◌≤◌, List, [], ◌∷◌, ◌++◌, length, map, Option, Some, None, refl, ap, ◌∙◌, arith}
use Rattle.std.specs.List.{flat_map}
use Rattle.std.specs.Option.{option_map_or}
use Rattle.std.proofs.lemmas.List.{append-nil}
use Rattle.bspl_parser.specs.declared.document.Declaration.{Declaration}
use Rattle.bspl_parser.specs.declared.document.Item.TheVariants.{Message, Reference}
use Rattle.bspl_parser.specs.declared.document.Reference.{Reference as SpecReference}
use Rattle.bspl_parser.specs.declared.document.Schema.{Schema}
use Rattle.protocol_names.specs.Names.{protocol_of}
use Rattle.protocol_paths.specs.declared.followed.Followed.{Followed}
use Rattle.protocol_paths.specs.inner.Links.{IsLinkBy, step_of}
use Rattle.protocol_paths.specs.declared.link.Link.{Link}
use Rattle.protocol_paths.specs.Followed.{FollowsEnough, IsSkipped}
use Rattle.protocol_paths.specs.Path.{Step, through, item_messages, message_paths, steps_at}
use Rattle.protocol_paths.proofs.EmptyBelow.{fewer_messages}

-- the step by a reference to a protocol
abbrev pub step_by : ℕ → SpecReference → Declaration → Step
step_by position r q = record { position = position; reference = r; target = q }

-- the step of the link by a reference
pub link_step : (protocols : List Declaration) (position : ℕ) (r : SpecReference) (l : Link) → IsLinkBy protocols position r l → step_of l ≡ step_by position r l.target.now
link_step protocols position r l by = λ i. record { position = by.at i; reference = by.gives i; target = l.target.now }

-- there is one step to the protocol that was found
pub one_step : (protocols : List Declaration) (position : ℕ) (r : SpecReference) (q : Declaration) → protocol_of protocols r.protocol.text ≡ Some q → steps_at protocols (position, Reference r) ≡ step_by position r q ∷ []
one_step protocols position r q found = ap (λ (o : Option Declaration). option_map_or (λ q. step_by position r q ∷ []) o []) found

-- what comes of the step by a reference, if nothing comes of a step to the protocol
pub no_step : {X : Type 0} (f : Step → List X) (protocols : List Declaration) (position : ℕ) (r : SpecReference) → ((q : Declaration) → protocol_of protocols r.protocol.text ≡ Some q → f (step_by position r q) ≡ []) → flat_map f (steps_at protocols (position, Reference r)) ≡ []
no_step {X} f protocols position r none =
    (elim (protocol_of protocols r.protocol.text) as (λ (o : Option Declaration). protocol_of protocols r.protocol.text ≡ o → flat_map f (option_map_or (λ q. step_by position r q ∷ []) o []) ≡ []) [
      | None ↦ λ missing. refl
      | Some q ↦ λ found. ap (λ (list : List X). list ++ []) (none q found)
    ]) refl

-- a message of the body is the end of the empty path
pub message_alone : (n : ℕ) (protocols : List Declaration) (position : ℕ) (m : Schema) → item_messages n protocols (position, Message m) ≡ ([], m) ∷ []
message_alone zero protocols position m = refl
message_alone (suc n) protocols position m = refl

-- the messages through a reference that is followed
pub messages_after : (n : ℕ) (protocols : List Declaration) (position : ℕ) (r : SpecReference) (q : Declaration) → 0 < n → protocol_of protocols r.protocol.text ≡ Some q → item_messages n protocols (position, Reference r) ≡ map (through (step_by position r q)) (message_paths (n - 1) protocols q)
messages_after zero protocols position r q some found = absurd (omega (arith, some))
messages_after (suc n) protocols position r q some found =
    let less : n ≡ suc n - 1 = omega arith in
    ap (flat_map (λ s. map (through s) (message_paths n protocols s.target))) (one_step protocols position r q found)
    ∙ append-nil (map (through (step_by position r q)) (message_paths n protocols q))
    ∙ ap (λ m. map (through (step_by position r q)) (message_paths m protocols q)) less

-- there are none through one that is skipped
pub messages_skipped : (n : ℕ) (protocols : List Declaration) (followed : Followed) (position : ℕ) (r : SpecReference) → n ≤ length protocols → FollowsEnough protocols followed → ((q : Declaration) → protocol_of protocols r.protocol.text ≡ Some q → IsSkipped protocols followed.messages.now q) → item_messages n protocols (position, Reference r) ≡ []
messages_skipped zero protocols followed position r within enough skipped = refl
messages_skipped (suc n) protocols followed position r within enough skipped =
    no_step (λ s. map (through s) (message_paths n protocols s.target)) protocols position r
    (λ q found. ap (map (through (step_by position r q))) (fewer_messages n (length protocols) protocols q (omega (arith, within)) (enough.messages q (skipped q found))))
