-- What may be unbound and what may be lacking: how much there is, and of which messages.
use Rattle.std.proofs.Common.{◌≡◌, ℕ, ◌+◌, ◌<◌, ◌≤◌, Bool, true, false, cond, List, [], ◌∷◌, ◌++◌, length, get_or, map, take, refl, ap, ◌∙◌, arith, length-take}
use Rattle.std.specs.Prelude.{◌==◌}
use Rattle.std.specs.List.{All, enumerate_from, filter}
use Rattle.std.proofs.lemmas.List.{length-map, map-append}
use Rattle.std.proofs.lemmas.List.FromFn.{length-enumerate_from}
use Rattle.bspl_types.specs.declared.expanded.Expanded.{Expanded}
use Rattle.bspl_types.specs.declared.protocol.ParamInfo.{ParamInfo}
use Rattle.bspl_types.specs.Expansion.{message_of}
use Rattle.bspl_types.specs.Shape.{is_public_value}
use Rattle.clause_encoding.specs.declared.wants.Want.{Want}
use Rattle.clause_encoding.specs.Carriers.{in_parameters, is_in}
use Rattle.clause_encoding.specs.Rest.{public_values, wants_by, wants_of}
use Rattle.clause_encoding.specs.Variables.{message_numbers}
use Rattle.clause_encoding.specs.inner.Lacking.{wanted_lits}
use Rattle.clause_encoding.proofs.ClauseLengths.{few_added, few_messages, few_params}
use Rattle.clause_encoding.proofs.ExistenceLemmas.{all_added, all_images}
use Rattle.clause_encoding.proofs.KindLemmas.{numbers_known}
use Rattle.clause_encoding.proofs.LengthLemmas.{length_filter}
use Rattle.clause_encoding.proofs.RangeLemmas.{numbers_kept, numbers_more}
use Rattle.clause_core.specs.Literal.{positive}

-- few parameters are public
pub few_values : (x : Expanded) → length (public_values x) ≤ 64
few_values x =
    let few = x.shape.counts.few_params in
    let numbered = enumerate_from 0 (take x.public x.params) in
    let test = λ (pair : ℕ × ParamInfo). is_public_value pair.1.adornment in
    omega (arith, few, length-map (filter test numbered) (λ (pair : ℕ × ParamInfo). pair.0), length_filter test numbered, length-enumerate_from 0 (take x.public x.params), length-take x.public x.params)

-- a message with a parameter
abbrev pub want : ℕ → ℕ → Want
want m p = record { message = m; param = p }

-- senders may lack few parameters
pub few_wants : (x : Expanded) → length (wants_of x) ≤ 1024
few_wants x =
    few_added (wants_by x) 16 64 1024 (message_numbers x)
    (λ m. omega (arith, length-map (in_parameters (message_of x m)) (want m), few_params x m (λ c. is_in c.adornment)))
    (few_messages x) (omega arith)

-- the message is one of the protocol's
abbrev pub IsOfMessage : Expanded → Want → Type 0
IsOfMessage x want = want.message < length x.messages

-- each parameter that may be lacking is one of such a message
pub wants_known : (x : Expanded) → All (IsOfMessage x) (wants_of x)
wants_known x =
    all_added (λ m. m < length x.messages) (IsOfMessage x) (wants_by x) (message_numbers x)
    (λ m known. all_images (λ _. Unit {0}) (IsOfMessage x) (want m) (in_parameters (message_of x m)) (λ p _. known) (λ _ _ _. tt))
    (numbers_known x)

-- the literal of one variable, if the test passes
literal_if : (kept : Bool) (v : ℕ) → map positive (cond kept (v ∷ []) []) ≡ cond kept (positive v ∷ []) []
literal_if true v = refl
literal_if false v = refl

-- what one parameter more adds to the literals of a message
pub wanted_more : (first : ℕ) (wants : List Want) (m n : ℕ) (d : Want) → n < length wants → wanted_lits first (take (n + 1) wants) m ≡ wanted_lits first (take n wants) m ++ cond ((get_or wants n d).message == m) (positive (first + n) ∷ []) []
wanted_more first wants m n d within =
    let own = λ (w : Want). w.message == m in
    ap (map positive) (numbers_more own first wants n d within) ∙ map-append positive (numbers_kept own first (take n wants)) (cond (own (get_or wants n d)) ((first + n) ∷ []) []) ∙
    ap (λ lits. wanted_lits first (take n wants) m ++ lits) (literal_if (own (get_or wants n d)) (first + n))
