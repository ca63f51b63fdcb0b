-- A part names one role and has one list of lines, so that it has one answer.
use Rattle.std.proofs.Common.{◌≡◌, ℕ, ◌<◌, List, ◌∷◌, ◌++◌, length, drop, [], inl, inr, refl, sym, ◌∙◌, ap, subst}
use Rattle.std.proofs.lemmas.List.{append_cancel_left}
use Rattle.std.proofs.lemmas.Bool.{cases_order}
use Rattle.bspl_types.specs.declared.expanded.Expanded.{Expanded}
use Rattle.bspl_types.specs.Expansion.{role_name}
use Rattle.role_server.specs.Laws.{FirstStoreIsConsistent, RepliesAreDetermined}
use Rattle.role_server.specs.Served.{first_store}
use Rattle.run_text.specs.Names.{NamesAreFields}
use Rattle.agent_commands.specs.declared.wording.TheConstants.{ROLE}
use Rattle.agent_commands.specs.ServeAnswer.{AreReplies, OneServeAnswer, OpensRole}
use Rattle.agent_commands.proofs.ServeAnswers.{cut_once, opened_parts, role_line_is_whole}

-- roles of one name are one
one_role : (x : Expanded) (j k : ℕ) → j < length x.roles → k < length x.roles → role_name x j ≡ role_name x k → j ≡ k
one_role x j k known also same =
    elim (cases_order j k) [
      | inl is ↦ is
      | inr (inl less) ↦ absurd (x.shape.role_names.distinct j k [] less also same)
      | inr (inr more) ↦ absurd (x.shape.role_names.distinct k j [] more known (sym same))
    ]

-- the first line of a part, and what comes after it, are one
one_opening : NamesAreFields → (x : Expanded) (part lines other : List ℕ) (j k : ℕ) → OpensRole x part j lines → OpensRole x part k other → (j ≡ k) × (lines ≡ other)
one_opening fields x part lines other j k one also =
    let front = ROLE.now ++ role_name x j in
    let back = ROLE.now ++ role_name x k in
    let whole : front ++ 10 ∷ lines ≡ back ++ 10 ∷ other = sym (opened_parts x part j lines one) ∙ opened_parts x part k other also in
    let fronts : front ≡ back = cut_once front back lines other (role_line_is_whole fields x j one.known) (role_line_is_whole fields x k also.known) whole in
    let rests : 10 ∷ lines ≡ 10 ∷ other = append_cancel_left back (10 ∷ lines) (10 ∷ other) (subst (λ (first : List ℕ). first ++ 10 ∷ lines ≡ back ++ 10 ∷ other) fronts whole) in
    (one_role x j k one.known also.known (append_cancel_left ROLE.now (role_name x j) (role_name x k) fronts), ap (drop 1) rests)

-- so the answer is one
pub served_once : NamesAreFields → RepliesAreDetermined → FirstStoreIsConsistent → OneServeAnswer
served_once fields determined first x part out other status status' admitted one also =
    let same = one_opening fields x part also.lines one.lines also.role one.role also.opens one.opens in
    let of_role : AreReplies (first_store x one.role) also.lines other = subst (λ (role : ℕ). AreReplies (first_store x role) also.lines other) same.0 also.replies in
    let replies : AreReplies (first_store x one.role) one.lines other = subst (λ (lines : List ℕ). AreReplies (first_store x one.role) lines other) same.1 of_role in
    ((determined (first_store x one.role) one.lines out other one.replies.0 replies.0 (first x one.role admitted one.opens.known) one.replies.1 replies.1).0, one.done ∙ sym also.done)
