-- Disks that stop are blank before their first call.
use Rattle.std.proofs.Common.{◌≡◌, ℕ, ◌+◌, inl, inr, Some, List, [], ◌∷◌, ◌++◌, length, replicate, refl, sym, ap, ◌∙◌, subst, arith}
use Rattle.std.specs.Prelude.{slice_get, slice_index}
use Rattle.std.proofs.lemmas.List.{length-append, length-replicate}
use Rattle.std.proofs.lemmas.List.Elements.{All-replicate}
use Rattle.std.proofs.lemmas.Grind.{same_number_lists}
use Rattle.agent_scripts.specs.Job.{Job}
use Rattle.role_journal.specs.Recording.{Suits, content_of}
use Rattle.role_journal.specs.Stop.{StopState, counts_of, unstopped}
use Rattle.restart_run.specs.Disks.{IsBlank, bytes_for}
use Rattle.restart_run.proofs.RoleLemmas.{item_push}

-- such a disk
pub unstopped_blank : (size stop fill : ℕ) → IsBlank (λ (d : StopState). (content_of d.recording).seen) (λ (d : StopState) (image : List ℕ). Suits d.recording image) counts_of size (unstopped size stop fill)
unstopped_blank size stop fill = record {
  no_fault = refl;
  none_late = refl;
  zeros = All-replicate (λ byte. byte ≡ 0) size 0 refl;
  settled = λ image suits. same_number_lists image (replicate size 0) suits.size (λ i within. suits.settled i tt);
  large = omega (arith, length-replicate {A = ℕ} size 0);
}

-- each disk is that of its role
abbrev pub AreOfRoles : Job → List ℕ → ℕ → List StopState → Type 0
AreOfRoles job stops fill disks = (role : ℕ) (disk : StopState) → slice_get disks role ≡ Some disk → disk ≡ unstopped (bytes_for job role) (slice_index stops role) fill

-- one disk more
pub stop_more : (job : Job) (stops : List ℕ) (fill size role : ℕ) (disks new : List StopState) (disk : StopState) → length disks ≡ role → AreOfRoles job stops fill disks → size ≡ bytes_for job role → disk ≡ unstopped size (slice_index stops role) fill → new ≡ disks ++ disk ∷ [] → (length new ≡ role + 1) × AreOfRoles job stops fill new
stop_more job stops fill size role disks new disk count before size_is is new_is = (
  ap length new_is ∙ length-append disks (disk ∷ []) ∙ ap (λ n. n + 1) count,
  λ r d at. elim (item_push disks disk r d (subst (λ (ds : List StopState). slice_get ds r ≡ Some d) new_is at)) [
    | inl early ↦ before r d early
    | inr last ↦
        let here : role ≡ r = sym (last.0 ∙ count) in
        sym last.1 ∙ is ∙ ap (λ (n : ℕ). unstopped n (slice_index stops role) fill) size_is
        ∙ ap (λ (n : ℕ). unstopped (bytes_for job n) (slice_index stops n) fill) here
  ],
)

-- all of them are blank
pub stop_blank : (job : Job) (stops : List ℕ) (fill : ℕ) (disks : List StopState) → AreOfRoles job stops fill disks → (role : ℕ) (disk : StopState) → slice_get disks role ≡ Some disk → IsBlank (λ (d : StopState). (content_of d.recording).seen) (λ (d : StopState) (image : List ℕ). Suits d.recording image) counts_of (bytes_for job role) disk
stop_blank job stops fill disks are role disk at =
    subst (IsBlank (λ (d : StopState). (content_of d.recording).seen) (λ (d : StopState) (image : List ℕ). Suits d.recording image) counts_of (bytes_for job role))
    (sym (are role disk at)) (unstopped_blank (bytes_for job role) (slice_index stops role) fill)
