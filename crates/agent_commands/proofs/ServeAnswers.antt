-- What `serve` answers, from the first line of the part and from what is served.
use Rattle.std.proofs.Common.{◌≡◌, ◌≢◌, ◌≤◌, ◌<◌, ℕ, Bool, false, true, List, [], ◌∷◌, ◌++◌, All, Some, arith, eqb, length, refl, sym, ◌∙◌, ap, subst, append_assoc, append-nil, ⊎_elim}
use Rattle.std.proofs.lemmas.Bool.{both_ways, ne_eqb, or_parts, or_right}
use Rattle.std.proofs.lemmas.List.Elements.{All-weaker}
use Rattle.std.proofs.lemmas.List.Folds.{list_any-append, list_any_none}
use Rattle.std.specs.List.{list_any}
use Rattle.bspl_io.specs.Faults.{HasCounted, last_count}
use Rattle.bspl_types.specs.declared.expanded.Expanded.{Expanded}
use Rattle.bspl_types.specs.Limits.{input_limit}
use Rattle.bspl_types.specs.Expansion.{role_name}
use Rattle.local_store.specs.State.{StoreState}
use Rattle.role_server.specs.declared.refusal.ServeRefusal.TheVariants.{TooLong}
use Rattle.role_server.specs.Served.{Served}
use Rattle.role_server.specs.Stream.{ServesAll, Stops}
use Rattle.run_text.specs.Names.{NamesAreFields}
use Rattle.bspl_types.specs.NamedParts.{IsRoleNamed}
use Rattle.agent_commands.specs.declared.wording.TheConstants.{ROLE}
use Rattle.agent_commands.specs.ServeAnswer.{AreReplies, OpensRole}
use Rattle.agent_commands.specs.inner.Serve.{IsRoleOf}

-- the line of the role that is named
pub named_line : (x : Expanded) (first name : List ℕ) (role : ℕ) → first ≡ ROLE.now ++ name → IsRoleNamed x name role → IsRoleOf x first role
named_line x first name role is named = record { known = named.known; is_line = is ∙ ap (λ (n : List ℕ). ROLE.now ++ n) (sym named.named) }

-- a line whose name no role has
pub no_role_named : (x : Expanded) (first name : List ℕ) → first ≡ ROLE.now ++ name → ((role : ℕ) → ¬ IsRoleNamed x name role) → (role : ℕ) → ¬ IsRoleOf x first role
no_role_named x first name is none role of =
    let same : name ≡ role_name x role = (let both : ROLE.now ++ name ≡ ROLE.now ++ role_name x role = sym is ∙ of.is_line in cc) in
    none role (record { known = of.known; named = sym same })

-- the part begins with the line of the role
pub opened : (x : Expanded) (part first lines : List ℕ) (role : ℕ) → IsRoleOf x first role → part ≡ first ++ 10 ∷ lines → OpensRole x part role lines
opened x part first lines role is whole = record {
  known = is.known;
  whole = whole ∙ ap (λ (t : List ℕ). t ++ 10 ∷ lines) is.is_line ∙ sym (append_assoc (ROLE.now ++ role_name x role) (10 ∷ []) lines);
}

-- one of the text's bytes is an LF
abbrev pub has_lf : List ℕ → Bool
has_lf text = list_any (λ b. eqb b 10) text

-- a text whose bytes are other ones than LF
no_lf_in : (text : List ℕ) → All (λ byte. byte ≢ 10) text → has_lf text ≡ false
no_lf_in text other = list_any_none (λ b. eqb b 10) text (All-weaker (λ byte. byte ≢ 10) (λ byte. eqb byte 10 ≡ false) (λ byte is_other. ne_eqb byte 10 is_other) text other)

-- a line ends where its LF is
pub cut_once : (one other x y : List ℕ) → has_lf one ≡ false → has_lf other ≡ false → one ++ 10 ∷ x ≡ other ++ 10 ∷ y → one ≡ other
cut_once [] [] x y none none_too is = refl
cut_once [] (b ∷ other) x y none none_too is =
    let lines : 10 ∷ x ≡ b ∷ (other ++ 10 ∷ y) = is in
    let head : 10 ≡ b = cc in
    absurd (let bad : true ≡ false = subst (λ c. has_lf (c ∷ other) ≡ false) (sym head) none_too in cc)
cut_once (a ∷ one) [] x y none none_too is =
    let lines : a ∷ (one ++ 10 ∷ x) ≡ 10 ∷ y = is in
    let head : a ≡ 10 = cc in
    absurd (let bad : true ≡ false = subst (λ c. has_lf (c ∷ one) ≡ false) head none in cc)
cut_once (a ∷ one) (b ∷ other) x y none none_too is =
    let lines : a ∷ (one ++ 10 ∷ x) ≡ b ∷ (other ++ 10 ∷ y) = is in
    let head : a ≡ b = cc in
    let rest : one ++ 10 ∷ x ≡ other ++ 10 ∷ y = cc in
    let same = cut_once one other x y (or_parts (eqb a 10) (has_lf one) none).1 (or_parts (eqb b 10) (has_lf other) none_too).1 rest in
    cc

-- the first line of an opened part, and the rest
pub opened_parts : (x : Expanded) (part : List ℕ) (role : ℕ) (lines : List ℕ) → OpensRole x part role lines → part ≡ (ROLE.now ++ role_name x role) ++ 10 ∷ lines
opened_parts x part role lines opens = opens.whole ∙ append_assoc (ROLE.now ++ role_name x role) (10 ∷ []) lines

-- that line has no other LF
pub role_line_is_whole : NamesAreFields → (x : Expanded) (role : ℕ) → role < length x.roles → has_lf (ROLE.now ++ role_name x role) ≡ false
role_line_is_whole fields x role known =
    list_any-append (λ b. eqb b 10) ROLE.now (role_name x role) ∙ no_lf_in (role_name x role) (fields (role_name x role) (x.shape.role_names.named role [] known)).no_end

-- a part whose first line is that of no role
pub not_opened : NamesAreFields → (x : Expanded) (part first rest : List ℕ) → All (λ byte. byte ≢ 10) first → part ≡ first ++ 10 ∷ rest → ((role : ℕ) → ¬ IsRoleOf x first role) → (role : ℕ) (lines : List ℕ) → ¬ OpensRole x part role lines
not_opened fields x part first rest other whole none role lines opens =
    let same = cut_once first (ROLE.now ++ role_name x role) rest lines (no_lf_in first other) (role_line_is_whole fields x role opens.known) (sym whole ∙ opened_parts x part role lines opens) in
    none role (record { known = opens.known; is_line = same })

-- one that has no LF
pub never_opened : (x : Expanded) (part : List ℕ) → All (λ byte. byte ≢ 10) part → (role : ℕ) (lines : List ℕ) → ¬ OpensRole x part role lines
never_opened x part other role lines opens =
    let body = ROLE.now ++ role_name x role in
    let found : has_lf (body ++ 10 ∷ lines) ≡ true = list_any-append (λ b. eqb b 10) body (10 ∷ lines) ∙ or_right (has_lf body) true refl in
    both_ways (has_lf part) (no_lf_in part other) (ap has_lf (opened_parts x part role lines opens) ∙ found)

-- nothing stands before the end of nothing
empty_front : (front rest : List ℕ) → front ++ rest ≡ [] → front ≡ []
empty_front [] rest is = refl
empty_front (b ∷ front) rest is = absurd (cc)

-- what was served from bytes in memory alone
pub all_replied : (store end : StoreState) (lines source sink text rest : List ℕ) → source ≡ [] → sink ≡ [] → ServesAll store lines (record { remaining = Some source; remaining_after = Some rest; contents = Some sink; contents_after = Some text }) end → AreReplies store lines text
all_replied store end lines source sink text rest no_source no_sink all =
    let none : all.flowed.bytes ≡ [] = empty_front all.flowed.bytes rest (sym all.flowed.taken ∙ no_source) in
    let whole : lines ++ all.flowed.bytes ≡ lines = ap (λ (t : List ℕ). lines ++ t) none ∙ append-nil lines in
    let out : all.flowed.out ≡ text = sym (all.written ∙ ap (λ (t : List ℕ). t ++ all.flowed.out) no_sink) in
    let served : Served store (lines ++ all.flowed.bytes) all.flowed.out all.flowed.now = (all.flowed.acts, rw all.all at all.flowed.answered) in
    (all.flowed.now, subst (λ (t : List ℕ). Served store lines t all.flowed.now) out (subst (λ (t : List ℕ). Served store t all.flowed.out all.flowed.now) whole served))

-- a counter that stays at 0 has counted nothing
pub nothing_counted : ¬ HasCounted 0 0
nothing_counted counted = ⊎_elim (λ rose. omega (arith, rose)) (λ (full : (0 ≡ last_count) × (0 ≡ last_count)). omega (arith, full.0)) counted

-- lines that are no more than may come, and nothing after them, are not too long
pub never_too_long : (store : StoreState) (lines source sink text rest : List ℕ) → source ≡ [] → length lines ≤ input_limit → ¬ Stops store lines (record { remaining = Some source; remaining_after = Some rest; contents = Some sink; contents_after = Some text }) TooLong
never_too_long store lines source sink text rest no_source short stops =
    let flowed = stops.0.flowed in
    let none : flowed.bytes ≡ [] = empty_front flowed.bytes rest (sym flowed.taken ∙ no_source) in
    let whole : length (lines ++ flowed.bytes) ≡ length lines = ap (λ (t : List ℕ). length (lines ++ t)) none ∙ ap length (append-nil lines) in
    omega (arith, short, stops.1, whole)
