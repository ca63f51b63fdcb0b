-- What a role's knowledge must be for an emission, and the first parameter that blocks one.
use Rattle.std.specs.Prelude.{◌≡◌, ◌≢◌, List, ◌∷◌, ◌++◌}
use Rattle.std.specs.List.{All}
use Rattle.bspl_types.specs.declared.event.Event.{Event}
use Rattle.bspl_types.specs.declared.expanded.Expanded.{Expanded}
use Rattle.bspl_types.specs.declared.protocol.Adornment.{Adornment}
use Rattle.bspl_types.specs.declared.protocol.Adornment.TheVariants.{In, Out, Nil}
use Rattle.bspl_types.specs.declared.protocol.Carried.{Carried}
use Rattle.bspl_types.specs.declared.value.Value.{Value}
use Rattle.bspl_types.specs.Knowledge.{IsKnown}
use Rattle.role_knowledge.specs.declared.block.Block.{Block}
use Rattle.role_knowledge.specs.declared.block.Block.TheVariants.{Missing, Bound}
use Rattle.role_knowledge.specs.FirstKnown.{IsFirstKnown}

-- an `in` parameter is to be known; an `out` or a `nil` parameter is not
abbrev pub Permits : Adornment → Type 0 → Type 0
Permits In known = known
Permits Out known = ¬ known
Permits Nil known = ¬ known

-- the history's knowledge of the parameter is as its adornment demands
abbrev pub IsPermitted : Expanded → List Event → List Value → Carried → Type 0
IsPermitted x history key c = Permits c.adornment (IsKnown x history key c.param)

-- an `in` parameter is not known
pub record IsMissing (x : Expanded) (history : List Event) (key : List Value) (c : Carried)
    : Type 0 where
  pub adorned : c.adornment ≡ In
  pub unknown : ¬ IsKnown x history key c.param

-- an `out` or `nil` parameter is known, and this is its first value
pub record IsBound (x : Expanded) (history : List Event) (key : List Value) (c : Carried)
    (kept : Value) : Type 0 where
  pub adorned : c.adornment ≢ In
  pub first : IsFirstKnown x history key c.param kept

-- why the parameter blocks the emission
abbrev pub IsBlockOf : Expanded → List Event → List Value → Carried → Block → Type 0
IsBlockOf x history key c (Missing p) = (p ≡ c.param) × IsMissing x history key c
IsBlockOf x history key c (Bound p kept) = (p ≡ c.param) × IsBound x history key c kept

-- the parameters before one are permitted, and that one blocks the emission
pub record IsFirstBlock (x : Expanded) (history : List Event) (key : List Value)
    (carried : List Carried) (block : Block) : Type 0 where
  pub before : List Carried
  pub blocked : Carried
  pub after : List Carried
  pub split : carried ≡ before ++ blocked ∷ after
  pub permitted : All (IsPermitted x history key) before
  pub why : IsBlockOf x history key blocked block
