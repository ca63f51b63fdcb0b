-- That a learned clause is open at the level to which the search backjumps.
use Rattle.std.proofs.Common.{◌≡◌, ℕ, false, Some, None, option_map, IfSome, List, ◌⊎◌, inl, inr, get_or, sym, ap, ◌∙◌, subst, arith, Contains}
use Rattle.std.proofs.lemmas.List.Elements.{All-contains}
use Rattle.clause_core.specs.declared.literal.Lit.{Lit}
use Rattle.clause_core.specs.Clause.{VariablesExist}
use Rattle.clause_core.specs.Propagation.{MakesFalse}
use Rattle.refutation_log.specs.declared.refutation.Chain.{Chain}
use Rattle.sat_trail.specs.declared.entry.Entry.{Entry}
use Rattle.sat_trail.specs.Entry.{entry_of, values_of, level_of, up_to}
use Rattle.sat_trail.specs.State.{State}
use Rattle.sat_trail.specs.Trail.{IsTrail, HasTwoOpen}
use Rattle.sat_solver.specs.inner.Analysis.{IsLearned, IsLowerLevel}
use Rattle.sat_solver.proofs.LowerLemmas.{IsSplit-trail, entry_of-low, entry_of-high, IsSet, IsSet-false}

-- the variables of a learned clause exist
pub exist-learned : (t : State) (chain : Chain) (clause : List Lit) → IsTrail t → IsLearned t chain clause → VariablesExist t.vars clause
exist-learned t chain clause trail learned k d within = (IsSet-false t (get_or clause k d) trail (learned.falsified k d within)).exists

-- the level of an entry that is found
level-found : (entries : List Entry) (v n : ℕ) (e : Entry) → entry_of entries v ≡ Some e → level_of entries v ≡ Some n → e.level ≡ n
level-found entries v n e found level =
    let both : Some e.level ≡ Some n = sym (ap (option_map (λ (f : Entry). f.level)) found) ∙ level in cc

-- after the backjump a learned clause has two open literals, unless the level is 0
pub open-learned : (t new : State) (chain : Chain) (clause : List Lit) (level : ℕ) → IsTrail t → IsLearned t chain clause → IsLowerLevel t clause level → new ≡ record t { entries = up_to level t.entries; level = level; ready = false } → (new.level ≡ 0) ⊎ HasTwoOpen new.entries new.level clause
open-learned t new chain clause level trail learned lower back = rw back (elim lower.reached [
  | inl at_0 ↦ inl at_0
  | inr held ↦ inr (two held.0 held.1 held.2)
])
  where
    u : Lit
    u = learned.current.literal

    u_set : IsSet t u
    u_set = IsSet-false t u trail (All-contains (MakesFalse (values_of t.entries)) clause u learned.falsified learned.current.among)

    two : (w : Lit) → Contains clause w → level_of t.entries w.var ≡ Some level → HasTwoOpen (up_to level t.entries) level clause
    two w among w_level =
        let w_set = IsSet-false t w trail (All-contains (MakesFalse (values_of t.entries)) clause w learned.falsified among) in
        let u_top : u_set.entry.level ≡ t.level = level-found t.entries u.var t.level u_set.entry u_set.found learned.current.current in
        let w_at : w_set.entry.level ≡ level = level-found t.entries w.var level w_set.entry w_set.found w_level in
        let u_none : entry_of (up_to level t.entries) u.var ≡ None =
        entry_of-high t.entries level u.var u_set.entry (IsSplit-trail t level trail) u_set.found (omega (arith, u_top, lower.lower)) in
        let w_found : entry_of (up_to level t.entries) w.var ≡ Some w_set.entry =
        entry_of-low t.entries level w.var w_set.entry (IsSplit-trail t level trail) w_set.found (omega (arith, w_at)) in
        record {
          one = u;
          other = w;
          differ = λ same. absurd (let clash : Some t.level ≡ Some level = sym learned.current.current ∙ ap (λ (m : Lit). level_of t.entries m.var) same ∙ w_level in let equal : t.level ≡ level = cc in omega (arith, equal, lower.lower));
          one_among = learned.current.among;
          other_among = among;
          one_open = subst (λ o. IfSome o (λ (e : Entry). e.level ≡ level)) (sym u_none) tt;
          other_open = subst (λ o. IfSome o (λ (e : Entry). e.level ≡ level)) (sym w_found) w_at;
        }
