-- What a question means is unique, about the protocol, and has only names that are known.
use Rattle.std.proofs.Common.{◌≡◌, ℕ, ◌<◌, List, [], ◌∷◌, ◌++◌, length, map, get_or, take, zero, suc, refl, ap, subst, arith}
use Rattle.std.specs.List.{All}
use Rattle.std.proofs.lemmas.List.Elements.{All-append, All-cons, All-head, All-map, All-nil, All-tail, All-weaker}
use Rattle.bspl_types.specs.declared.expanded.Expanded.{Expanded}
use Rattle.bspl_types.specs.Expansion.{message_name}
use Rattle.bspl_types.specs.NamedParts.{IsRoleNamed}
use Rattle.bspl_types.specs.NamedParts.{OneMessageOfAName, OneParamOfAName, OneRoleOfAName}
use Rattle.questions.specs.declared.question.Happening.{Happening}
use Rattle.questions.specs.declared.question.Happening.TheVariants as happenings
use Rattle.questions.specs.declared.question.Question.{Question}
use Rattle.questions.specs.declared.question.Question.TheVariants as asks
use Rattle.questions.specs.Same.{AskTheSame}
use Rattle.questions.specs.Subject.{IsAbout, IsAboutHappening}
use Rattle.question_text.specs.declared.tree.Said.{Said}
use Rattle.question_text.specs.declared.tree.Said.TheVariants as said
use Rattle.question_text.specs.declared.unknown.UnknownName.{UnknownName}
use Rattle.question_text.specs.declared.unknown.UnknownName.TheVariants.{Message, Role, Parameter}
use Rattle.question_text.specs.Meaning.{AreMessagesNamed, AsksBefore, AsksHappened, MeansQuestion, Says}
use Rattle.question_text.specs.Tree.{Phrase, Happened, Before, After, Can, Rest, Not, And, Or, Bracketed}
use Rattle.question_text.specs.Unknown.{IsUnknownIn, NamesNothing, names_in, names_in_said}
use Rattle.question_text.proofs.UnknownLemmas.{AreKnown, unknown_left, unknown_right}

-- one name that is known
known_one : (x : Expanded) (name : UnknownName) → ¬ NamesNothing x name → AreKnown x (name ∷ [])
known_one x name known = All-cons (λ n. ¬ NamesNothing x n) name [] known (All-nil (λ n. ¬ NamesNothing x n))

-- names of two parts
known_both : (x : Expanded) (one other : List UnknownName) → AreKnown x one → AreKnown x other → AreKnown x (one ++ other)
known_both x one other = All-append (λ n. ¬ NamesNothing x n) one other

-- the role that knows
pub known_role : (x : Expanded) (role : List ℕ) (r : ℕ) → IsRoleNamed x role r → AreKnown x (Role role ∷ [])
known_role x role r is = known_one x (Role role) (λ none. none r is)

-- what is said is of known names
pub known_said : (x : Expanded) (s : Said) (h : Happening) → Says x s h → AreKnown x (names_in_said s)
known_said x (said.Sent message) (happenings.Sent m) is = known_one x (Message message) (λ none. none m is)
known_said x (said.Received message) (happenings.Received m) is = known_one x (Message message) (λ none. none m is)
known_said x (said.Knows role param) (happenings.Knows r p) is =
    known_both x (Role role ∷ []) (Parameter param ∷ []) (known_role x role r is.0) (known_one x (Parameter param) (λ none. none p is.1))
known_said x (said.Bound param) (happenings.Bound p) is = known_one x (Parameter param) (λ none. none p is)
known_said x s h is = absurd is

-- so is whether it has happened
known_happened : (x : Expanded) (one : Said) (q : Question) → AsksHappened x one q → AreKnown x (names_in_said one)
known_happened x one (asks.Happened h) is = known_said x one h is
known_happened x one q is = absurd is

-- and what happened before what
known_before : (x : Expanded) (one other : Said) (q : Question) → AsksBefore x one other q → AreKnown x (names_in_said one) × AreKnown x (names_in_said other)
known_before x one other (asks.Before g h) is = (known_said x one g is.0, known_said x other h is.1)
known_before x one other q is = absurd is

-- and the messages of names
pub known_messages : (x : Expanded) (names : List (List ℕ)) (messages : List ℕ) → AreMessagesNamed x names messages → AreKnown x (map Message names)
known_messages x names messages is =
    let named : All (λ m. ¬ NamesNothing x (Message (message_name x m))) messages =
    All-weaker (λ m. m < length x.messages) (λ m. ¬ NamesNothing x (Message (message_name x m))) (λ m known none. none m (record { known = known; named = refl })) messages is.known in
    subst (λ (all : List (List ℕ)). AreKnown x (map Message all)) is.named
    (All-map (λ n. ¬ NamesNothing x n) Message (map (message_name x) messages) (All-map (λ name. ¬ NamesNothing x (Message name)) (message_name x) messages named))

-- the first unknown name among names of messages
unknown_at : (x : Expanded) (names : List (List ℕ)) (i : ℕ) (name : List ℕ) (u : UnknownName) → i < length names → name ≡ get_or names i name → AreKnown x (map Message (take i names)) → IsUnknownIn x (Message name ∷ []) u → IsUnknownIn x (map Message names) u
unknown_at x [] i name u within at known first = absurd (omega (arith, within))
unknown_at x (n ∷ names) zero name u within at known first =
    unknown_left x (Message n ∷ []) (map Message names) u (subst (λ (it : List ℕ). IsUnknownIn x (Message it ∷ []) u) at first)
unknown_at x (n ∷ names) (suc i) name u within at known first =
    let P : UnknownName → Type 0 = λ it. ¬ NamesNothing x it in
    unknown_right x (Message n ∷ []) (map Message names) u (known_one x (Message n) (All-head P (Message n) (map Message (take i names)) known))
    (unknown_at x names i name u (omega (arith, within)) at (All-tail P (Message n) (map Message (take i names)) known) first)

-- after numbers for the names before it
pub unknown_among : (x : Expanded) (names : List (List ℕ)) (i : ℕ) (name : List ℕ) (u : UnknownName) (messages : List ℕ) → i < length names → name ≡ get_or names i name → AreMessagesNamed x (take i names) messages → IsUnknownIn x (Message name ∷ []) u → IsUnknownIn x (map Message names) u
unknown_among x names i name u messages within at named first =
    unknown_at x names i name u within at (known_messages x (take i names) messages named) first

-- a question that means one has only names that are known
pub known_means : (x : Expanded) (p : Phrase) (q : Question) → MeansQuestion x p q → AreKnown x (names_in p)
known_means x (Happened one) q is = known_happened x one q is
known_means x (Before one other) q is =
    let both = known_before x one other q is in known_both x (names_in_said one) (names_in_said other) both.0 both.1
known_means x (After one other) (asks.And' _ q _ r) is =
    known_both x (names_in_said one) (names_in_said other) (known_happened x one q is.0) (known_before x other one r is.1).0
known_means x (Can message) (asks.Can m) is = known_one x (Message message) (λ none. none m is)
known_means x (Rest names) (asks.Rest excused) is = known_messages x names excused is
known_means x (Not p) (asks.Not' _ q) is = known_means x p q is
known_means x (And p s) (asks.And' _ q _ r) is = known_both x (names_in p) (names_in s) (known_means x p q is.0) (known_means x s r is.1)
known_means x (Or p s) (asks.Or' _ q _ r) is = known_both x (names_in p) (names_in s) (known_means x p q is.0) (known_means x s r is.1)
known_means x (Bracketed p) q is = known_means x p q is
known_means x p q is = absurd is

-- what is said is about the protocol
about_said : (x : Expanded) (s : Said) (h : Happening) → Says x s h → IsAboutHappening x h
about_said x (said.Sent message) (happenings.Sent m) is = is.known
about_said x (said.Received message) (happenings.Received m) is = is.known
about_said x (said.Knows role param) (happenings.Knows r p) is = (is.0.known, is.1.known)
about_said x (said.Bound param) (happenings.Bound p) is = is.known
about_said x s h is = absurd is

-- so is whether it has happened
about_happened : (x : Expanded) (one : Said) (q : Question) → AsksHappened x one q → IsAbout x q
about_happened x one (asks.Happened h) is = about_said x one h is
about_happened x one q is = absurd is

-- and what happened before what
about_before : (x : Expanded) (one other : Said) (q : Question) → AsksBefore x one other q → IsAbout x q
about_before x one other (asks.Before g h) is = (about_said x one g is.0, about_said x other h is.1)
about_before x one other q is = absurd is

-- what a question means is about the protocol
pub about_means : (x : Expanded) (p : Phrase) (q : Question) → MeansQuestion x p q → IsAbout x q
about_means x (Happened one) q is = about_happened x one q is
about_means x (Before one other) q is = about_before x one other q is
about_means x (After one other) (asks.And' _ q _ r) is = (about_happened x one q is.0, about_before x other one r is.1)
about_means x (Can message) (asks.Can m) is = is.known
about_means x (Rest names) (asks.Rest excused) is = is.known
about_means x (Not p) (asks.Not' _ q) is = about_means x p q is
about_means x (And p s) (asks.And' _ q _ r) is = (about_means x p q is.0, about_means x s r is.1)
about_means x (Or p s) (asks.Or' _ q _ r) is = (about_means x p q is.0, about_means x s r is.1)
about_means x (Bracketed p) q is = about_means x p q is
about_means x p q is = absurd is

-- names are distinct
pub record AreDistinct : Type 0 where
  pub messages : OneMessageOfAName
  pub roles : OneRoleOfAName
  pub params : OneParamOfAName

-- one happening is said
same_said : AreDistinct → (x : Expanded) (s : Said) (g h : Happening) → Says x s g → Says x s h → g ≡ h
same_said once x (said.Sent message) (happenings.Sent m) (happenings.Sent n) one other = ap happenings.Sent (once.messages x message m n one other)
same_said once x (said.Received message) (happenings.Received m) (happenings.Received n) one other = ap happenings.Received (once.messages x message m n one other)
same_said once x (said.Knows role param) (happenings.Knows r p) (happenings.Knows s q) one other =
    let roles = once.roles x role r s one.0 other.0 in
    let params = once.params x param p q one.1 other.1 in
    cc
same_said once x (said.Bound param) (happenings.Bound p) (happenings.Bound q) one other = ap happenings.Bound (once.params x param p q one other)
same_said once x (said.Sent message) (happenings.Sent m) h one other = absurd other
same_said once x (said.Received message) (happenings.Received m) h one other = absurd other
same_said once x (said.Knows role param) (happenings.Knows r p) h one other = absurd other
same_said once x (said.Bound param) (happenings.Bound p) h one other = absurd other
same_said once x s g h one other = absurd one

-- lists of messages of the same names are one
same_messages : AreDistinct → (x : Expanded) (ms ns : List ℕ) (names : List (List ℕ)) → AreMessagesNamed x names ms → AreMessagesNamed x names ns → ms ≡ ns
same_messages once x [] [] names one other = refl
same_messages once x [] (n ∷ ns) names one other = let a = one.named in let b = other.named in cc
same_messages once x (m ∷ ms) [] names one other = let a = one.named in let b = other.named in cc
same_messages once x (m ∷ ms) (n ∷ ns) [] one other = let a = one.named in cc
same_messages once x (m ∷ ms) (n ∷ ns) (name ∷ names) one other =
    let P : ℕ → Type 0 = λ k. k < length x.messages in
    let a = one.named in
    let b = other.named in
    let first_name : message_name x m ≡ name = cc in
    let other_name : message_name x n ≡ name = cc in
    let first = once.messages x name m n (record { known = All-head P m ms one.known; named = first_name }) (record { known = All-head P n ns other.known; named = other_name }) in
    let rest = same_messages once x ms ns names (record { known = All-tail P m ms one.known; named = cc }) (record { known = All-tail P n ns other.known; named = cc }) in
    cc

-- one question whether it has happened
same_happened : AreDistinct → (x : Expanded) (one : Said) (q r : Question) → AsksHappened x one q → AsksHappened x one r → AskTheSame q r
same_happened once x one (asks.Happened g) (asks.Happened h) is also = same_said once x one g h is also
same_happened once x one (asks.Happened g) r is also = absurd also
same_happened once x one q r is also = absurd is

-- one question what happened before what
same_before : AreDistinct → (x : Expanded) (one other : Said) (q r : Question) → AsksBefore x one other q → AsksBefore x one other r → AskTheSame q r
same_before once x one other (asks.Before g h) (asks.Before k l) is also = (same_said once x one g k is.0 also.0, same_said once x other h l is.1 also.1)
same_before once x one other (asks.Before g h) r is also = absurd also
same_before once x one other q r is also = absurd is

-- a question means one question
pub same_means : AreDistinct → (x : Expanded) (p : Phrase) (q r : Question) → MeansQuestion x p q → MeansQuestion x p r → AskTheSame q r
same_means once x (Happened one) q r is also = same_happened once x one q r is also
same_means once x (Before one other) q r is also = same_before once x one other q r is also
same_means once x (After one other) (asks.And' _ q _ r) (asks.And' _ s _ t) is also =
    (same_happened once x one q s is.0 also.0, same_before once x other one r t is.1 also.1)
same_means once x (After one other) (asks.And' _ q _ r) s is also = absurd also
same_means once x (Can message) (asks.Can m) (asks.Can n) is also = once.messages x message m n is also
same_means once x (Can message) (asks.Can m) r is also = absurd also
same_means once x (Rest names) (asks.Rest ms) (asks.Rest ns) is also = same_messages once x ms ns names is also
same_means once x (Rest names) (asks.Rest ms) r is also = absurd also
same_means once x (Not p) (asks.Not' _ q) (asks.Not' _ r) is also = same_means once x p q r is also
same_means once x (Not p) (asks.Not' _ q) r is also = absurd also
same_means once x (And p s) (asks.And' _ q _ r) (asks.And' _ t _ u) is also = (same_means once x p q t is.0 also.0, same_means once x s r u is.1 also.1)
same_means once x (And p s) (asks.And' _ q _ r) t is also = absurd also
same_means once x (Or p s) (asks.Or' _ q _ r) (asks.Or' _ t _ u) is also = (same_means once x p q t is.0 also.0, same_means once x s r u is.1 also.1)
same_means once x (Or p s) (asks.Or' _ q _ r) t is also = absurd also
same_means once x (Bracketed p) q r is also = same_means once x p q r is also
same_means once x p q r is also = absurd is
