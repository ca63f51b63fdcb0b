-- The last desk and the last passes are taken out of their lists.
use Rattle.std.proofs.Common.{◌≡◌, ◌<◌, ◌+◌, List, [], ◌∷◌, ◌++◌, Option, Some, ap, arith, length, lit<, subst}
use Rattle.std.specs.Prelude.{IfSome}
use Rattle.adapter.specs.Desk.{DeskState}
use Rattle.reorder_net.specs.declared.passes.RolePasses.{RolePasses}
use Rattle.world_run.specs.inner.Locks.{AreUnlocked}
use Rattle.world_run.proofs.LockLemmas.{unlocked_left, unlocked_state}
use Rattle.world_run.proofs.locks.lock_last.Goals as goal

-- what was popped stood last
popped : {X : Type 0} (found : Option X) (x : X) (old new : List X) → IfSome found (λ y. old ≡ new ++ y ∷ []) → found ≡ Some x → old ≡ new ++ x ∷ []
popped found x old new last is = subst (λ o. IfSome o (λ y. old ≡ new ++ y ∷ [])) is last

pub locked_state-requires : goal.locked_state-requires
locked_state-requires g c =
    let job = g.N.Scene.job in
    let boxes = g.M.Mail.boxes in
    let d : DeskState = c.unwrap-desk.result in
    let p : RolePasses = c.unwrap-own.result in
    let desks = popped c.pop.result d c.args.desks.now c.pop.new.self c.pop.ensures.last c.unwrap-desk.ensures in
    let passes = popped c.pop-2.result p c.args.passes.now c.pop-2.new.self c.pop-2.ensures.last c.unwrap-own.ensures in
    let unlocked : AreUnlocked job boxes (g.row.R + 1) (c.pop.new.self ++ d ∷ []) (c.pop-2.new.self ++ p ∷ []) = subst (λ (y : List DeskState × List RolePasses). AreUnlocked job boxes (g.row.R + 1) y.0 y.1) (λ i. (desks i, passes i)) c.requires in
    let within : g.row.R < length (c.pop.new.self ++ d ∷ []) = omega (arith, ap length desks, c.if-len.false, c.len.ensures) in
    (lit< tt, unlocked_state job boxes g.row.R c.pop.new.self d c.pop-2.new.self p unlocked within)

pub returns-clause-left : goal.returns-clause-left
returns-clause-left g c =
    let job = g.N.Scene.job in
    let boxes = g.M.Mail.boxes in
    let d : DeskState = c.unwrap-desk.result in
    let p : RolePasses = c.unwrap-own.result in
    let desks = popped c.pop.result d c.args.desks.now c.pop.new.self c.pop.ensures.last c.unwrap-desk.ensures in
    let passes = popped c.pop-2.result p c.args.passes.now c.pop-2.new.self c.pop-2.ensures.last c.unwrap-own.ensures in
    let unlocked : AreUnlocked job boxes (g.row.R + 1) (c.pop.new.self ++ d ∷ []) (c.pop-2.new.self ++ p ∷ []) = subst (λ (y : List DeskState × List RolePasses). AreUnlocked job boxes (g.row.R + 1) y.0 y.1) (λ i. (desks i, passes i)) c.requires in
    let within : g.row.R < length (c.pop.new.self ++ d ∷ []) = omega (arith, ap length desks, c.if-len.false, c.len.ensures) in
    unlocked_left job boxes g.row.R c.pop.new.self d c.pop-2.new.self p unlocked within
