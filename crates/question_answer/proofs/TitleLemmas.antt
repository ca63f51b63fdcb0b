-- The first line of a text on a question ends at the first LF, and says one thing.
use Rattle.std.proofs.Common.{◌≡◌, ◌≢◌, ℕ, true, eqb, not, List, [], ◌∷◌, ◌++◌, codes, drop, get_or, refl, sym, ap, ◌∙◌, subst, append_assoc, Contains}
use Rattle.std.specs.List.{list_all, slice_split}
use Rattle.std.specs.Prelude.{◌==◌}
use Rattle.std.proofs.lemmas.Bool.{and_parts, eq-eqb, eqb-false, false≢true}
use Rattle.std.proofs.lemmas.List.{append_cancel_left}
use Rattle.std.proofs.lemmas.List.Elements.{All-append, All-cons, All-contains, All-contains_itself, All-nil, All-weaker, Contains-append_right}
use Rattle.list_base.proofs.Members.{here}
use Rattle.list_base.proofs.Separators.{Lacks, parts_at}
use Rattle.refutation_log.specs.declared.refutation.Version.{Version}
use Rattle.refutation_log.specs.declared.refutation.Version.TheVariants.{One, Two}
use Rattle.question_answer.specs.Laws.{BytesAreTitledOnce}
use Rattle.question_answer.specs.QuestionLog.{IsTitled, question_title}
use Rattle.question_answer.specs.inner.Title.{title_front}

-- bytes of which each passes the test for another byte
lacks_by : (c : ℕ) (bytes : List ℕ) → list_all (λ b. not (eqb b c)) bytes ≡ true → Lacks c bytes
lacks_by c [] passes = All-nil (λ byte. byte ≢ c)
lacks_by c (b ∷ bytes) passes =
    let parts = and_parts (not (eqb b c)) (list_all (λ b. not (eqb b c)) bytes) passes in
    All-cons (λ byte. byte ≢ c) b bytes (λ is. false≢true (sym (ap not (eq-eqb b c is)) ∙ parts.0)) (lacks_by c bytes parts.1)

-- what comes before the question has no LF
front_lacks : (version : Version) → Lacks 10 (title_front version)
front_lacks One = lacks_by 10 (codes "log 1 ask ") refl
front_lacks Two = lacks_by 10 (codes "log 2 ask ") refl

line_lacks : (version : Version) (spelling : List ℕ) → Lacks 10 spelling → Lacks 10 (title_front version ++ spelling)
line_lacks version spelling lacks = All-append (λ byte. byte ≢ 10) (title_front version) spelling (front_lacks version) lacks

-- the first line is what comes before the question, the question, and an LF
pub title_is : (version : Version) (spelling : List ℕ) → question_title version spelling ≡ (title_front version ++ spelling) ++ 10 ∷ []
title_is One spelling = refl
title_is Two spelling = refl

titled_whole : (bytes : List ℕ) (version : Version) (spelling rest : List ℕ) → IsTitled bytes version spelling rest → bytes ≡ (title_front version ++ spelling) ++ 10 ∷ rest
titled_whole bytes version spelling rest is =
    is.whole ∙ ap (λ (line : List ℕ). line ++ rest) (title_is version spelling) ∙ append_assoc (title_front version ++ spelling) (10 ∷ []) rest

-- what all items of two lists have, those of the second have
all_suffix : (xs ys : List ℕ) → Lacks 10 (xs ++ ys) → Lacks 10 ys
all_suffix xs ys lacks =
    All-weaker (Contains ys) (λ byte. byte ≢ 10) (λ y among. All-contains (λ byte. byte ≢ 10) (xs ++ ys) y lacks (Contains-append_right xs ys y among)) ys (All-contains_itself ys)

-- bytes whose first line is so are titled
pub titled_by : (bytes line rest : List ℕ) (version : Version) (spelling : List ℕ) → Lacks 10 line → bytes ≡ line ++ 10 ∷ rest → line ≡ title_front version ++ spelling → IsTitled bytes version spelling rest
titled_by bytes line rest version spelling lacks whole is = record {
  one_line = all_suffix (title_front version) spelling (subst (Lacks 10) is lacks);
  whole = whole ∙ ap (λ (l : List ℕ). l ++ 10 ∷ rest) is ∙ sym (append_assoc (title_front version ++ spelling) (10 ∷ []) rest)
      ∙ ap (λ (title : List ℕ). title ++ rest) (sym (title_is version spelling));
}

-- lines that lack an LF end at the first one
same_cut : (line rest other more : List ℕ) → Lacks 10 line → Lacks 10 other → line ++ 10 ∷ rest ≡ other ++ 10 ∷ more → (line ≡ other) × (rest ≡ more)
same_cut line rest other more lacks also same =
    let parts = sym (parts_at 10 line rest lacks) ∙ ap (slice_split (λ byte. byte == 10)) same ∙ parts_at 10 other more also in
    let lines : line ≡ other = ap (λ (ps : List (List ℕ)). get_or ps 0 []) parts in
    (lines, ap (drop 1) (append_cancel_left other (10 ∷ rest) (10 ∷ more) (ap (λ (l : List ℕ). l ++ 10 ∷ rest) (sym lines) ∙ same)))

-- a line without an LF has no first line
pub untitled : (bytes : List ℕ) (version : Version) (spelling rest : List ℕ) → Lacks 10 bytes → ¬ IsTitled bytes version spelling rest
untitled bytes version spelling rest lacks is =
    let line = title_front version ++ spelling in
    All-contains (λ byte. byte ≢ 10) (line ++ 10 ∷ rest) 10 (subst (Lacks 10) (titled_whole bytes version spelling rest is) lacks)
    (Contains-append_right line (10 ∷ rest) 10 (here 10 rest)) refl

-- the line before the first LF is the first line
pub line_titled : (bytes line rest : List ℕ) (version : Version) (spelling more : List ℕ) → Lacks 10 line → bytes ≡ line ++ 10 ∷ rest → IsTitled bytes version spelling more → line ≡ title_front version ++ spelling
line_titled bytes line rest version spelling more lacks whole is =
    (same_cut line rest (title_front version ++ spelling) more lacks (line_lacks version spelling is.one_line) (sym whole ∙ titled_whole bytes version spelling more is)).0

-- equal lines have one version and one question
same_line : (version other : Version) (spelling another : List ℕ) → title_front version ++ spelling ≡ title_front other ++ another → (version ≡ other) × (spelling ≡ another)
same_line One One spelling another same = (refl, ap (drop 10) same)
same_line One Two spelling another same = absurd (eqb-false 49 50 refl (ap (λ (list : List ℕ). get_or list 4 0) same))
same_line Two One spelling another same = absurd (eqb-false 50 49 refl (ap (λ (list : List ℕ). get_or list 4 0) same))
same_line Two Two spelling another same = (refl, ap (drop 10) same)

-- so bytes are titled once
pub once : BytesAreTitledOnce
once bytes spelling another rest more version other one again =
    let (lines, rests) = same_cut (title_front version ++ spelling) rest (title_front other ++ another) more (line_lacks version spelling one.one_line) (line_lacks other another again.one_line)
    (sym (titled_whole bytes version spelling rest one) ∙ titled_whole bytes other another more again) in
    let (versions, spellings) = same_line version other spelling another lines in
    record { versions = versions; spellings = spellings; rests = rests }
