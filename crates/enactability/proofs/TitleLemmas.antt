-- The first line of a text: it has no LF but that at its end, and says one thing.
use Rattle.std.proofs.Common.{◌≡◌, ◌≢◌, ℕ, ◌<◌, true, eqb, not, List, [], ◌∷◌, ◌++◌, length, drop, get_or, codes, refl, sym, ap, ◌∙◌}
use Rattle.std.specs.List.{list_all}
use Rattle.std.proofs.lemmas.Bool.{and_parts, eq-eqb, eqb-false, false≢true}
use Rattle.std.proofs.lemmas.List.Elements.{All-append, All-cons, All-nil}
use Rattle.bspl_types.specs.declared.expanded.Expanded.{Expanded}
use Rattle.bspl_types.specs.Expansion.{message_name, no_message}
use Rattle.list_base.proofs.Separators.{Lacks}
use Rattle.bspl_types.specs.NamedParts.{IsMessageNamed}
use Rattle.refutation_log.specs.declared.refutation.Version.{Version}
use Rattle.refutation_log.specs.declared.refutation.Version.TheVariants.{One, Two}
use Rattle.run_text.specs.Names.{NamesAreFields}
use Rattle.enactability.specs.DeadText.{dead_title}
use Rattle.enactability.specs.inner.Title.{IsTitle, dead_front}

-- bytes of which each passes the test for another byte
lacks_by : (c : ℕ) (bytes : List ℕ) → list_all (λ b. not (eqb b c)) bytes ≡ true → Lacks c bytes
lacks_by c [] passes = All-nil (λ byte. byte ≢ c)
lacks_by c (b ∷ bytes) passes =
    let parts = and_parts (not (eqb b c)) (list_all (λ b. not (eqb b c)) bytes) passes in
    All-cons (λ byte. byte ≢ c) b bytes (λ is. false≢true (sym (ap not (eq-eqb b c is)) ∙ parts.0)) (lacks_by c bytes parts.1)

-- what comes before the name has no LF
front_lacks : (version : Version) → Lacks 10 (dead_front version)
front_lacks One = lacks_by 10 (codes "log 1 dead ") refl
front_lacks Two = lacks_by 10 (codes "log 2 dead ") refl

-- the first line without its LF
abbrev pub title_body : Expanded → Version → ℕ → List ℕ
title_body x version m = dead_front version ++ message_name x m

pub title_is : (x : Expanded) (version : Version) (m : ℕ) → dead_title x version m ≡ title_body x version m ++ 10 ∷ []
title_is x One m = refl
title_is x Two m = refl

-- it has no LF
pub title_lacks : NamesAreFields → (x : Expanded) (version : Version) (m : ℕ) → m < length x.messages → Lacks 10 (title_body x version m)
title_lacks fields x version m known =
    All-append (λ byte. byte ≢ 10) (dead_front version) (message_name x m) (front_lacks version)
    (fields (message_name x m) (x.shape.message_names.named m no_message known)).no_end

-- equal lines have one version and one name
pub same_line : (version other : Version) (name another : List ℕ) → dead_front version ++ name ≡ dead_front other ++ another → (version ≡ other) × (name ≡ another)
same_line One One name another same = (refl, ap (drop 11) same)
same_line One Two name another same = absurd (eqb-false 49 50 refl (ap (λ (list : List ℕ). get_or list 4 0) same))
same_line Two One name another same = absurd (eqb-false 50 49 refl (ap (λ (list : List ℕ). get_or list 4 0) same))
same_line Two Two name another same = (refl, ap (drop 11) same)

-- the line with the name of a message
pub title_read : (x : Expanded) (line name : List ℕ) (version : Version) (m : ℕ) → line ≡ dead_front version ++ name → IsMessageNamed x name m → IsTitle x line version m
title_read x line name version m is named = record { known = named.known; body = is ∙ ap (λ (n : List ℕ). dead_front version ++ n) (sym named.named) }

-- and one with a name that no message has
pub title_unread : (x : Expanded) (line name : List ℕ) (version : Version) → line ≡ dead_front version ++ name → ((m : ℕ) → ¬ IsMessageNamed x name m) → (other : Version) (m : ℕ) → ¬ IsTitle x line other m
title_unread x line name version is none other m title =
    none m (record { known = title.known; named = (same_line other version (message_name x m) name (sym title.body ∙ is)).1 })
