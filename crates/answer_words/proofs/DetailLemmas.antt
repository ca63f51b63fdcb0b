-- Which faults are of names in the protocol text.
use Rattle.std.proofs.Common.{◌≡◌, inl, inr, ℕ, List, subst, sym}
use Rattle.std.specs.Prelude.{◌⊎◌}
use Rattle.tool_input.specs.declared.rejection.Rejection.{Rejection}
use Rattle.answer_words.specs.declared.fault.Fault.{Fault}
use Rattle.answer_words.specs.declared.fault.Fault.TheVariants as faults
use Rattle.answer_words.specs.Detail.{IsDetail, IsNameDetail}
use Rattle.answer_words.specs.inner.Added.{Adds}

-- it is one of these
abbrev pub IsOfNames : Fault → Type 0
IsOfNames fault =
    (fault ≡ faults.NoProtocol) ⊎ ((fault ≡ faults.UnknownName) ⊎ ((fault ≡ faults.OtherArity) ⊎
    ((fault ≡ faults.KeyMissing) ⊎ ((fault ≡ faults.ToItself) ⊎ ((fault ≡ faults.ParameterTwice) ⊎
    ((fault ≡ faults.ScriptName) ⊎ ((fault ≡ faults.NoMessage) ⊎ ((fault ≡ faults.NoRoleNamed) ⊎ (fault ≡ faults.NoParameter)))))))))

-- a fault that is another one, of which this is the detail
moved : (input : List ℕ) (fault other : Fault) (r : Rejection) (text : List ℕ) → (IsNameDetail input other r text → IsDetail input other r text) → fault ≡ other → IsNameDetail input fault r text → IsDetail input fault r text
moved input fault other r text is_detail is named =
    subst (λ (f : Fault). IsDetail input f r text) (sym is) (is_detail (subst (λ (f : Fault). IsNameDetail input f r text) is named))

-- what is said of names is their detail
named_detail : (input : List ℕ) (fault : Fault) (r : Rejection) (text : List ℕ) → IsOfNames fault → IsNameDetail input fault r text → IsDetail input fault r text
named_detail input fault r text (inl is) = moved input fault faults.NoProtocol r text (λ said. said) is
named_detail input fault r text (inr (inl is)) = moved input fault faults.UnknownName r text (λ said. said) is
named_detail input fault r text (inr (inr (inl is))) = moved input fault faults.OtherArity r text (λ said. said) is
named_detail input fault r text (inr (inr (inr (inl is)))) = moved input fault faults.KeyMissing r text (λ said. said) is
named_detail input fault r text (inr (inr (inr (inr (inl is))))) = moved input fault faults.ToItself r text (λ said. said) is
named_detail input fault r text (inr (inr (inr (inr (inr (inl is)))))) = moved input fault faults.ParameterTwice r text (λ said. said) is
named_detail input fault r text (inr (inr (inr (inr (inr (inr (inl is))))))) = moved input fault faults.ScriptName r text (λ said. said) is
named_detail input fault r text (inr (inr (inr (inr (inr (inr (inr (inl is)))))))) = moved input fault faults.NoMessage r text (λ said. said) is
named_detail input fault r text (inr (inr (inr (inr (inr (inr (inr (inr (inl is))))))))) = moved input fault faults.NoRoleNamed r text (λ said. said) is
named_detail input fault r text (inr (inr (inr (inr (inr (inr (inr (inr (inr is))))))))) = moved input fault faults.NoParameter r text (λ said. said) is

-- so it is where it was added
pub named_added : (input : List ℕ) (fault : Fault) (r : Rejection) (old new : List ℕ) → IsOfNames fault → Adds (IsNameDetail input fault r) old new → Adds (IsDetail input fault r) old new
named_added input fault r old new is adds = record { added = adds.added; grown = adds.grown; holds = named_detail input fault r adds.added is adds.holds }
