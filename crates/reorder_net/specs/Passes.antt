-- The passes of one role, and what it has put and taken by them.
use Rattle.std.specs.Prelude.{◌≡◌, ℕ, List, [], ◌∷◌, ◌++◌, length, slice_get, slice_set, Some}
use Rattle.bspl_types.specs.declared.envelope.Envelope.{Envelope}
use Rattle.reorder_net.specs.declared.passes.RolePasses.{RolePasses}
use Rattle.reorder_net.specs.Hold.{put_list, sender, taker, taking}
use Rattle.reorder_net.specs.Pass.{BoxId, PassState}

-- the passes of the role to these mailboxes: one to each, which has put what was sent to its role,
-- and one to the role's own mailbox, which took what was taken
pub record ArePasses (boxes : List BoxId) (role : ℕ) (sent : ℕ → List Envelope)
    (taken : List Envelope) (p : RolePasses) : Type 0 where
  pub count : length p.puts ≡ length boxes
  pub puts : (q : ℕ) (box : BoxId) → slice_get boxes q ≡ Some box →
      slice_get p.puts q ≡ Some (record { box = box; hold = sender q role (sent q) })
  pub own : (box : BoxId) → slice_get boxes role ≡ Some box →
      p.own ≡ record { box = box; hold = taker role taken }

-- nothing is put and nothing is taken yet
abbrev pub AreFresh : List BoxId → ℕ → RolePasses → Type 0
AreFresh boxes role p = ArePasses boxes role (λ _. []) [] p

-- the envelope is put through pass `p`, the one to its receiver's mailbox
abbrev pub with_put : RolePasses → PassState → Envelope → RolePasses
with_put passes p e = record passes {
  puts = slice_set passes.puts e.to
      (record p { hold = sender e.to e.from (put_list p.hold ++ e ∷ []) });
}

-- the envelope is taken out of the role's own mailbox
abbrev pub with_taken : RolePasses → Envelope → RolePasses
with_taken passes e = record passes {
  own = record passes.own { hold = taking passes.own.hold e };
}
