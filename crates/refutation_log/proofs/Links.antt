-- The fields of links, read two by two.
use Rattle.std.proofs.Common.{◌≡◌, ◌≢◌, ℕ, Bool, true, false, List, [], ◌∷◌, ◌++◌, length, take, drop, All, Ok, Err, refl, sym, ap, subst, ◌∙◌, arith}
use Rattle.std.specs.List.{flat_map}
use Rattle.std.proofs.lemmas.List.{append_assoc, append-nil, get_or_append_left, get_or_push, length_push}
use Rattle.std.proofs.lemmas.List.Elements.{All-nil, All-push}
use Rattle.std.proofs.lemmas.Grind.{flat_map-append}
use Rattle.refutation_log.specs.declared.line_error.LineError.{LineError}
use Rattle.refutation_log.specs.declared.line_error.LineError.TheVariants as errors
use Rattle.refutation_log.specs.declared.refutation.Link.{Link}
use Rattle.refutation_log.specs.declared.refutation.Chain.{Chain}
use Rattle.refutation_log.specs.LogText.{pivot_text, link_fields}
use Rattle.refutation_log.specs.NumberRange.{IsInRange, LinkInRange, StepInRange}
use Rattle.list_base.specs.Numeral.{numeral}
use Rattle.refutation_log.specs.LineParts.{IsReading}
use Rattle.refutation_log.proofs.Pivots.{PivotInRange}
use Rattle.refutation_log.proofs.Readings.{IsJoined}

pub link_joined : (pivot clause : List ℕ) → IsJoined pivot_text PivotInRange pivot numeral IsInRange clause link_fields LinkInRange (pivot ∷ clause ∷ [])
link_joined pivot clause = record {
  parts = λ link e. (link.pivot, link.clause, cc, cc);
  whole = λ p n is_pivot is_clause. (record { pivot = p; clause = n }, cc, λ good. (good.pivot, good.clause));
}

abbrev pub links_fields : List Link → List (List ℕ)
links_fields links = flat_map link_fields links

-- the fields of a step after its name
abbrev pub chain_fields : Chain → List (List ℕ)
chain_fields step = numeral step.first ∷ flat_map link_fields step.links

pub chain_joined : (first : List ℕ) (rest fields : List (List ℕ)) → fields ≡ first ∷ rest → IsJoined numeral IsInRange first (flat_map link_fields) (All LinkInRange) rest chain_fields StepInRange fields
chain_joined first rest fields are = record {
  parts = λ step e. (step.first, step.links, cc, cc);
  whole = λ n links is_first are_links. (record { first = n; links = links }, cc, λ good. (good.first, good.links));
}

-- some links were read, and this is left; they are kept while all are in range
pub record AreRead (all rest : List (List ℕ)) (links : List Link) (in_range : Bool) : Type 0 where
  pub read : List Link
  pub whole : all ≡ flat_map link_fields read ++ rest
  pub good : in_range ≡ true → (read ≡ links) × All LinkInRange read
  pub bad : in_range ≡ false → All LinkInRange read → ⊥

pub none_read : (all : List (List ℕ)) → AreRead all all [] true
none_read all = record {
  read = [];
  whole = refl;
  good = λ _. (refl, All-nil LinkInRange);
  bad = λ e. absurd (cc);
}

-- what is left after links is the fields of the links after them
rest_is_links : (read links : List Link) (rest : List (List ℕ)) → flat_map link_fields read ++ rest ≡ flat_map link_fields links → (more : List Link) × (rest ≡ flat_map link_fields more)
rest_is_links [] links rest e = (links, e)
rest_is_links (link ∷ read) [] rest e = absurd (cc)
rest_is_links (link ∷ read) (other ∷ links) rest e = rest_is_links read links rest (ap (drop 2) e)

one_more : (read : List Link) (link : Link) (pivot clause : List ℕ) (rest : List (List ℕ)) → pivot ∷ clause ∷ [] ≡ link_fields link
    → flat_map link_fields read ++ (pivot ∷ clause ∷ rest) ≡ flat_map link_fields (read ++ link ∷ []) ++ rest
one_more read link pivot clause rest e =
    let fields : pivot ∷ clause ∷ rest ≡ link_fields link ++ rest = ap (λ (xs : List (List ℕ)). xs ++ rest) e in
    let last : flat_map link_fields (read ++ link ∷ []) ≡ flat_map link_fields read ++ link_fields link = flat_map-append link_fields read (link ∷ []) in
    ap (λ (xs : List (List ℕ)). flat_map link_fields read ++ xs) fields ∙ sym (append_assoc (flat_map link_fields read) (link_fields link) rest) ∙ ap (λ (xs : List (List ℕ)). xs ++ rest) (sym last)

All-front : (read : List Link) (link : Link) → All LinkInRange (read ++ link ∷ []) → All LinkInRange read
All-front read link good = λ k d short. subst LinkInRange (get_or_append_left read (link ∷ []) d k short) (good k d (omega (arith, length_push read link)))

All-last : (read : List Link) (link : Link) → All LinkInRange (read ++ link ∷ []) → LinkInRange link
All-last read link good = subst LinkInRange (get_or_push read link link (length read) refl) (good (length read) link (omega (arith, length_push read link)))

pub link_read : (all rest : List (List ℕ)) (links : List Link) (in_range : Bool) (pivot clause : List ℕ) (link : Link)
    → AreRead all (pivot ∷ clause ∷ rest) links in_range → IsReading link_fields LinkInRange (pivot ∷ clause ∷ []) (Ok link) → AreRead all rest (links ++ link ∷ []) in_range
link_read all rest links in_range pivot clause link so_far read = record {
  read = so_far.read ++ link ∷ [];
  whole = so_far.whole ∙ one_more so_far.read link pivot clause rest read.0;
  good = λ t. let g = so_far.good t in (ap (λ (ls : List Link). ls ++ link ∷ []) g.0, All-push LinkInRange so_far.read link g.1 read.1);
  bad = λ f good. so_far.bad f (All-front so_far.read link good);
}

pub bad_link_read : (all rest : List (List ℕ)) (links : List Link) (in_range : Bool) (pivot clause : List ℕ)
    → AreRead all (pivot ∷ clause ∷ rest) links in_range → IsReading link_fields LinkInRange (pivot ∷ clause ∷ []) (Err errors.Number) → AreRead all rest links false
bad_link_read all rest links in_range pivot clause so_far read = record {
  read = so_far.read ++ read.0 ∷ [];
  whole = so_far.whole ∙ one_more so_far.read read.0 pivot clause rest read.1;
  good = λ t. absurd (cc);
  bad = λ _ good. read.2 (All-last so_far.read read.0 good);
}

not_alone : (pivot : List ℕ) (more : List Link) → pivot ∷ [] ≡ flat_map link_fields more → ⊥
not_alone pivot [] e = absurd (cc)
not_alone pivot (link ∷ more) e = absurd (cc)

-- a field alone is no link
pub odd_field : (all : List (List ℕ)) (links : List Link) (in_range : Bool) (pivot : List ℕ) → AreRead all (pivot ∷ []) links in_range → IsReading links_fields (All LinkInRange) all (Err errors.Form)
odd_field all links in_range pivot so_far = λ others e.
    let more = rest_is_links so_far.read others (pivot ∷ []) (sym so_far.whole ∙ e) in
    not_alone pivot more.0 more.1

none_begins : (pivot clause : List ℕ) (rest : List (List ℕ)) → ((link : Link) → pivot ∷ clause ∷ [] ≡ link_fields link → ⊥) → (more : List Link) → pivot ∷ clause ∷ rest ≡ flat_map link_fields more → ⊥
none_begins pivot clause rest other [] e = absurd (cc)
none_begins pivot clause rest other (link ∷ more) e = other link (ap (take 2) e)

pub no_link : (all rest : List (List ℕ)) (links : List Link) (in_range : Bool) (pivot clause : List ℕ) (error : LineError) → AreRead all (pivot ∷ clause ∷ rest) links in_range
    → error ≢ errors.Number → IsReading link_fields LinkInRange (pivot ∷ clause ∷ []) (Err error) → IsReading links_fields (All LinkInRange) all (Err error)
no_link all rest links in_range pivot clause errors.Form so_far other read = λ others e.
    let more = rest_is_links so_far.read others (pivot ∷ clause ∷ rest) (sym so_far.whole ∙ e) in
    none_begins pivot clause rest read more.0 more.1
no_link all rest links in_range pivot clause errors.Number so_far other read = absurd (other refl)
no_link all rest links in_range pivot clause errors.NoMemory so_far other read = tt

pub all_read : (all : List (List ℕ)) (links : List Link) → AreRead all [] links true → IsReading links_fields (All LinkInRange) all (Ok links)
all_read all links so_far =
    let good = so_far.good refl in
    let whole : all ≡ flat_map link_fields so_far.read = so_far.whole ∙ append-nil _ in
    (whole ∙ ap (flat_map link_fields) good.0, subst (All LinkInRange) good.0 good.1)

pub all_read_badly : (all : List (List ℕ)) (links : List Link) → AreRead all [] links false → IsReading links_fields (All LinkInRange) all (Err errors.Number)
all_read_badly all links so_far = (so_far.read, so_far.whole ∙ append-nil _, so_far.bad refl)
