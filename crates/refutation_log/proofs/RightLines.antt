-- The lines of a header and of steps in range are right.
use Rattle.std.proofs.Common.{◌≡◌, ◌≢◌, ◌⊎◌, ℕ, List, [], ◌∷◌, ◌++◌, drop, map, codes, refl, sym, ap, subst, ◌∙◌, inl, inr, arith}
use Rattle.std.specs.List.{flat_map, join_with_byte, AllByRecursion}
use Rattle.std.proofs.lemmas.List.{append_assoc}
use Rattle.std.proofs.lemmas.List.Elements.{All-nil, All-cons, All-append}
use Rattle.refutation_log.specs.declared.refutation.Kind.{Kind}
use Rattle.refutation_log.specs.declared.refutation.Kind.TheVariants.{Safety, Liveness}
use Rattle.refutation_log.specs.declared.refutation.Entry.{Entry}
use Rattle.refutation_log.specs.declared.refutation.Entry.TheVariants.{Step, Drop}
use Rattle.refutation_log.specs.declared.refutation.Version.{Version}
use Rattle.refutation_log.specs.declared.refutation.Version.TheVariants.{One, Two}
use Rattle.refutation_log.specs.LogText.{entry_fields, entry_line, header_line}
use Rattle.refutation_log.specs.NumberRange.{EntryInRange}
use Rattle.list_base.specs.Lines.{end_line, Line, lines_of, HasNoEnd}
use Rattle.refutation_log.specs.Refusal.{MayStand, HasForm, HasBadNumber, AreRight}
use Rattle.refutation_log.specs.LineParts.{EntryStands}
use Rattle.list_base.proofs.Separators.{Lacks, lines-then}
use Rattle.refutation_log.proofs.Fields.{entry_body, entry_lacks}
use Rattle.refutation_log.proofs.Spellings.{same_from_entry_line, same_from_header_line, header_no_entry, entry_no_end}

-- ---- the lines of a text

join_lacks : (c : ℕ) (fields : List (List ℕ)) → 32 ≢ c → AllByRecursion (Lacks c) fields → Lacks c (join_with_byte 32 fields)
join_lacks c [] other lack = All-nil (λ byte. byte ≢ c)
join_lacks c (field ∷ []) other lack = lack.0
join_lacks c (field ∷ next ∷ fields) other lack =
    All-append (λ byte. byte ≢ c) field (32 ∷ join_with_byte 32 (next ∷ fields)) lack.0 (All-cons (λ byte. byte ≢ c) 32 (join_with_byte 32 (next ∷ fields)) other (join_lacks c (next ∷ fields) other lack.1))

body_lacks : (entry : Entry) → Lacks 10 (entry_body entry)
body_lacks entry = join_lacks 10 (entry_fields entry) (λ e. cc) (entry_lacks 10 entry (omega arith))

lines-entry : (entry : Entry) (rest : List ℕ) → lines_of (entry_line entry ++ rest) ≡ entry_line entry ∷ lines_of rest
lines-entry entry rest = ap lines_of (append_assoc (entry_body entry) (codes "\n") rest) ∙ lines-then (entry_body entry) rest (body_lacks entry)

lines-entries : (log : List Entry) (rest : List ℕ) → lines_of (flat_map entry_line log ++ rest) ≡ map entry_line log ++ lines_of rest
lines-entries [] rest = refl
lines-entries (entry ∷ log) rest =
    ap lines_of (append_assoc (entry_line entry) (flat_map entry_line log) rest) ∙ lines-entry entry (flat_map entry_line log ++ rest) ∙ ap (λ (lines : List Line). entry_line entry ∷ lines) (lines-entries log rest)

lines-header : (version : Version) (kind : Kind) (rest : List ℕ) → lines_of (header_line version kind ++ rest) ≡ header_line version kind ∷ lines_of rest
lines-header One Safety rest = refl
lines-header One Liveness rest = refl
lines-header Two Safety rest = refl
lines-header Two Liveness rest = refl

-- the lines of a log without its end
abbrev pub front_lines : Version → Kind → List Entry → List Line
front_lines version kind log = header_line version kind ∷ map entry_line log

pub lines-front : (version : Version) (kind : Kind) (log : List Entry) (rest : List ℕ) → lines_of (header_line version kind ++ (flat_map entry_line log ++ rest)) ≡ front_lines version kind log ++ lines_of rest
lines-front version kind log rest = lines-header version kind (flat_map entry_line log ++ rest) ∙ ap (λ (lines : List Line). header_line version kind ∷ lines) (lines-entries log rest)

-- ---- they are right

pub entries_no_end : (log : List Entry) → HasNoEnd (map entry_line log)
entries_no_end [] = All-nil (λ line. line ≢ end_line)
entries_no_end (entry ∷ log) = All-cons (λ line. line ≢ end_line) (entry_line entry) (map entry_line log) (entry_no_end entry) (entries_no_end log)

-- what stands in a text of the version stands after its header, and the other way round
pub may_stand : (version : Version) (kind : Kind) (entry : Entry) → EntryStands version entry → MayStand (header_line version kind) entry
may_stand version kind (Step step) stands = tt
may_stand version kind (Drop numbers) stands = (stands.1, kind, ap (λ v. header_line v kind) stands.0)

pub stands_there : (version : Version) (kind : Kind) (entry : Entry) → MayStand (header_line version kind) entry → EntryStands version entry
stands_there version kind (Step step) may = tt
stands_there version kind (Drop numbers) may = ((same_from_header_line version Two kind may.1 may.2).0, may.0)

-- the entry is in range and stands in a text of the version
pub record IsRight (version : Version) (entry : Entry) : Type 0 where
  pub stands : EntryStands version entry
  pub in_range : EntryInRange entry

pub both_right : (version : Version) (log : List Entry) → AllByRecursion (EntryStands version) log → AllByRecursion EntryInRange log → AllByRecursion (IsRight version) log
both_right version [] stand good = tt
both_right version (entry ∷ log) stand good = (record { stands = stand.0; in_range = good.0 }, both_right version log stand.1 good.1)

-- a line that stands among entries, or is the end after them
pub record IsAmong (version : Version) (before : List Line) (line : Line) : Type 0 where
  pub unended : HasNoEnd before
  pub is : ((entry : Entry) × (line ≡ entry_line entry) × IsRight version entry) ⊎ (line ≡ end_line)

after_entry : (version : Version) (entry : Entry) (before : List Line) (line other : Line) → entry_line entry ≡ other → IsAmong version before line → IsAmong version (other ∷ before) line
after_entry version entry before line other e among = record {
  unended = All-cons (λ l. l ≢ end_line) other before (λ is_end. entry_no_end entry (e ∙ is_end)) among.unended;
  is = among.is;
}

among : (version : Version) (log : List Entry) (before after : List Line) (line : Line) → AllByRecursion (IsRight version) log → map entry_line log ++ end_line ∷ [] ≡ before ++ line ∷ after → IsAmong version before line
among version [] [] after line good e = record { unended = All-nil (λ l. l ≢ end_line); is = inr (cc) }
among version [] (other ∷ []) after line good e = absurd (cc)
among version [] (other ∷ next ∷ before) after line good e = absurd (cc)
among version (entry ∷ log) [] after line good e = record { unended = All-nil (λ l. l ≢ end_line); is = inl (entry, cc, good.0) }
among version (entry ∷ log) (other ∷ before) after line good e = after_entry version entry before line other (cc) (among version log before after line good.1 (ap (drop 1) e))

right_among : (version : Version) (kind : Kind) (header line : Line) (before : List Line) → header ≡ header_line version kind → IsAmong version before line → HasForm (header ∷ before) line × (HasBadNumber line → ⊥)
right_among version kind header line before is_header among =
    elim among.is [
      | inl entry ↦ (
        (among.unended, inl (entry.0, subst (λ (h : Line). MayStand h entry.0) (sym is_header) (may_stand version kind entry.0 entry.2.stands), entry.1)),
        λ bad. bad.2 (subst EntryInRange (same_from_entry_line entry.0 bad.0 (sym entry.1 ∙ bad.1)) entry.2.in_range),
      )
      | inr is_end ↦ ((among.unended, inr is_end), λ bad. entry_no_end bad.0 (sym bad.1 ∙ is_end))
    ]

-- the lines of a whole log are right
pub whole_right : (version : Version) (kind : Kind) (log : List Entry) → AllByRecursion (IsRight version) log → AreRight (front_lines version kind log ++ end_line ∷ [])
whole_right version kind log good = λ before after line e. go before after line e
  where
    go : (before after : List Line) (line : Line) → front_lines version kind log ++ end_line ∷ [] ≡ before ++ line ∷ after → HasForm before line × (HasBadNumber line → ⊥)
    go [] after line e = ((version, kind, cc), λ bad. header_no_entry version kind bad.0 (let is : line ≡ header_line version kind = cc in sym is ∙ bad.1))
    go (header ∷ before) after line e = right_among version kind header line before (cc) (among version log before after line good (ap (drop 1) e))

-- the first lines of right lines are right
pub right_front : (lines more : List Line) → AreRight (lines ++ more) → AreRight lines
right_front lines more right = λ before after line e. right before (after ++ more) line (ap (λ (ls : List Line). ls ++ more) e ∙ append_assoc before (line ∷ after) more)

pub front_right : (version : Version) (kind : Kind) (log : List Entry) → AllByRecursion (IsRight version) log → AreRight (front_lines version kind log)
front_right version kind log good = right_front (front_lines version kind log) (end_line ∷ []) (whole_right version kind log good)
