-- Links fold one after the other, to one clause at most.
use Rattle.std.proofs.Common.{◌≡◌, ℕ, ◌+◌, ◌<◌, List, [], ◌∷◌, ◌++◌, length, get_or, take}
use Rattle.std.proofs.lemmas.List.{take_more}
use Rattle.clause_core.specs.declared.literal.Lit.{Lit}
use Rattle.clause_core.specs.Numbering.{Numbering, HasNumber}
use Rattle.clause_core.specs.Resolvent.{ResolventsAgree}
use Rattle.refutation_log.specs.declared.refutation.Link.{Link}
use Rattle.refutation_log.specs.declared.refutation.Chain.{Chain}
use Rattle.refutation_log.specs.Resolution.{Resolved, Folds, Derives}

-- one more link
pub folds_more : (numbering : Numbering) (start : List Lit) (links : List Link) (clause : List Lit) (link : Link) (r : List Lit) → Folds numbering start links clause → Resolved numbering clause link (λ m. m ≡ r) → Folds numbering start (links ++ link ∷ []) r
folds_more numbering start [] clause link r same next = rw same next
folds_more numbering start (first ∷ links) clause link r folds next =
    record {
      other = folds.other;
      named = folds.named;
      resolvent = folds.resolvent;
      resolves = folds.resolves;
      continues = folds_more numbering folds.resolvent links clause link r folds.continues next;
    }

-- the link at the index folds too
pub folds_next : (numbering : Numbering) (start : List Lit) (links : List Link) (index : ℕ) (d : Link) (clause r : List Lit) → index < length links → Folds numbering start (take index links) clause → Resolved numbering clause (get_or links index d) (λ m. m ≡ r) → Folds numbering start (take (index + 1) links) r
folds_next numbering start links index d clause r within folds next =
    rw (take_more links index d within) (folds_more numbering start (take index links) clause (get_or links index d) r folds next)

-- a number names one clause at most
pub names_one : (numbering : Numbering) (number : ℕ) (c d : List Lit) → HasNumber numbering number c → HasNumber numbering number d → c ≡ d
names_one numbering number c d is_c is_d = cc (is_c.there, is_d.there)

pub resolved_one : ResolventsAgree → (numbering : Numbering) (clause : List Lit) (link : Link) (P Q : List Lit → Type 0) (first : Resolved numbering clause link P) (second : Resolved numbering clause link Q) → first.resolvent ≡ second.resolvent
resolved_one agree numbering clause link P Q first second =
    let other = names_one numbering link.clause first.other second.other first.named second.named in
    agree clause second.other first.resolvent second.resolvent link.pivot (rw other at first.resolves) second.resolves

pub folds_one : ResolventsAgree → (numbering : Numbering) (start : List Lit) (links : List Link) (r s : List Lit) → Folds numbering start links r → Folds numbering start links s → r ≡ s
folds_one agree numbering start [] r s is_r is_s = cc
folds_one agree numbering start (link ∷ links) r s is_r is_s =
    let one = resolved_one agree numbering start link (λ m. Folds numbering m links r) (λ m. Folds numbering m links s) is_r is_s in
    folds_one agree numbering is_s.resolvent links r s (rw one at is_r.continues) is_s.continues

pub derives_one : ResolventsAgree → (numbering : Numbering) (chain : Chain) (r s : List Lit) → Derives numbering chain r → Derives numbering chain s → r ≡ s
derives_one agree numbering chain r s is_r is_s =
    let one = names_one numbering chain.first is_r.start is_s.start is_r.named is_s.named in
    folds_one agree numbering is_s.start chain.links r s (rw one at is_r.folds) is_s.folds
