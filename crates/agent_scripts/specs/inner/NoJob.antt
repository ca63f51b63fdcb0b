-- A job in which nothing is sent: what `Brand` names until a call names another.
use Rattle.std.specs.Prelude.{◌≡◌, ◌≢◌, ℕ, true, List, [], ◌∷◌, Some, None, IsTrue}
use Rattle.std.proofs.Common.{refl, arith}
use Rattle.std.specs.List.{All, AllPairs}
use Rattle.std.proofs.lemmas.List.Elements.{All-cons, All-nil}
use Rattle.bspl_types.specs.declared.protocol.Adornment.TheVariants.{Out}
use Rattle.bspl_types.specs.declared.protocol.ParamInfo.{ParamInfo}
use Rattle.bspl_types.specs.Name.{is_name}
use Rattle.bspl_types.specs.Shape.{is_public_value, IsMessageOf, IsWellFormed}
use Rattle.agent_scripts.specs.Plan.{IsPlan}
use Rattle.agent_scripts.specs.Job.{Job}

-- a name of one letter
abbrev pub one_letter : List ℕ
one_letter = 65 ∷ []

-- a parameter of that name, which is the key
abbrev pub only_param : ParamInfo
only_param = record { name = one_letter; adornment = Some Out; key = true }

-- what holds of each pair of a list of one item
pub no_pairs : {X : Type 0} (R : X → X → Type 0) (x : X) → AllPairs R (x ∷ [])
no_pairs R x = λ i j d before within. absurd (omega arith)

-- what holds of the one item holds of all
pub all_one : {X : Type 0} (P : X → Type 0) (x : X) → P x → All P (x ∷ [])
all_one P x holds = All-cons P x [] holds (All-nil P)

-- one role, one parameter and no message are a well-formed expansion
pub empty_is_well_formed :
    IsWellFormed one_letter (one_letter ∷ []) (only_param ∷ []) 1 (0 ∷ []) []
unfolding is_name
empty_is_well_formed = record {
  named = refl;
  role_names = record {
    named = all_one (λ n. IsTrue (is_name n)) one_letter refl;
    distinct = no_pairs ◌≢◌ one_letter;
  };
  some_role = omega arith;
  param_names = record {
    named = all_one (λ p. IsTrue (is_name p.name)) only_param refl;
    distinct = no_pairs (λ p q. p.name ≢ q.name) only_param;
  };
  message_names = record {
    named = All-nil (λ m. IsTrue (is_name m.name));
    distinct = λ i j d before within. absurd (omega (arith, within));
  };
  declared = record {
    some_public = omega arith;
    within = omega arith;
    public_adorned = all_one (λ p. p.adornment ≢ None) only_param (λ same. cc);
    private_bare = All-nil (λ p. p.adornment ≡ None);
    keys_bound = all_one (λ p. IsTrue p.key → IsTrue (is_public_value p.adornment)) only_param
        (λ is_key. refl);
  };
  key_list = refl;
  each_message = All-nil (IsMessageOf 1 1);
  counts = record {
    few_roles = omega arith;
    few_params = omega arith;
    few_keys = omega arith;
    few_messages = omega arith;
  };
}

-- no loss and no repeat are a plan's
pub nothing_lost : IsPlan 0 0
nothing_lost = record { few_losses = omega arith; few_copies = omega arith }

-- one role, no message, no workload key, and nothing lost
abbrev pub no_job : Job
no_job = record {
  protocol = record {
    name = one_letter;
    roles = one_letter ∷ [];
    params = only_param ∷ [];
    public = 1;
    keys = 0 ∷ [];
    messages = [];
    shape = empty_is_well_formed;
  };
  script = record { keys = []; orders = []; declines = []; rules = [] };
  plan = record { seed = 0; loss = 0; repeat = 0; limits = nothing_lost };
}
