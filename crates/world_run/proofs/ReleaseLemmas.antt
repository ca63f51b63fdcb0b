-- One role more comes out of its lock.
use Rattle.std.proofs.Common.{◌≡◌, ◌≢◌, ℕ, ◌+◌, ◌<◌, ◌≤◌, inl, inr, Some, List, [], ◌∷◌, ◌++◌, length, take, refl, sym, ap, ◌∙◌, subst, arith}
use Rattle.std.specs.Prelude.{◌==◌, slice_get, slice_set}
use Rattle.std.proofs.lemmas.Bool.{cond_both}
use Rattle.std.proofs.lemmas.Bool.Decides.{Decides-eqb}
use Rattle.std.proofs.lemmas.List.{length-append, length-set, length-take, take_all, take_more_set}
use Rattle.std.proofs.lemmas.Option.{slice_get-get_or, slice_get_within}
use Rattle.bspl_types.specs.declared.envelope.Envelope.{Envelope}
use Rattle.adapter.specs.Desk.{DeskState}
use Rattle.adapter.specs.Posted.{posted_by}
use Rattle.adapter.specs.State.{IsStateKept, StateView, taken_of}
use Rattle.agent_scripts.specs.Job.{Job}
use Rattle.reorder_net.specs.declared.passes.RolePasses.{RolePasses}
use Rattle.reorder_net.specs.Gathered.{AreGathered, IsTold, taken_by}
use Rattle.reorder_net.specs.Pass.{BoxId, PassState}
use Rattle.reorder_net.specs.Passes.{ArePasses}
use Rattle.world_run.specs.Joined.{CountEntries, AreJoined}
use Rattle.world_run.specs.Told.{AreTold, posted_to, ToldHistoriesExplain}
use Rattle.world_run.specs.World.{AreKept}
use Rattle.world_run.specs.inner.Released.{AreReleased, IsReleased, HaveJoined}
use Rattle.world_run.proofs.SetLemmas.{item_kept, item_pushed, item_set}
use Rattle.world_run.proofs.ToldLemmas.{posted_more}

-- what the next role took
taken_new : (role : ℕ) (mine : List Envelope) (taken : ℕ → List Envelope) → taken_by role mine taken role ≡ mine
taken_new role mine taken = cond_both (role == role) mine (taken role) (λ l. l ≡ mine) (λ same. refl) (λ no. absurd (grind (arith, no, (Decides-eqb role role).1 refl)))

-- what the roles before it took
taken_old : (role other : ℕ) (mine : List Envelope) (taken : ℕ → List Envelope) → other ≢ role → taken_by role mine taken other ≡ taken other
taken_old role other mine taken differs = cond_both (other == role) mine (taken other) (λ l. l ≡ taken other) (λ same. absurd (differs ((Decides-eqb other role).0 same))) (λ no. refl)

-- a kept state, without its passes
released_state : (job : Job) (role : ℕ) (boxes : List BoxId) (s : StateView) → IsStateKept job role boxes s → IsReleased job role (taken_of s) s.desk
released_state job role boxes s kept = record { kept = kept.desk; of_taken = kept.of_taken }

-- the desk of one role more
each_more : (job : Job) (taken : ℕ → List Envelope) (mine : List Envelope) (desks : List DeskState) (d : DeskState) → ((role : ℕ) (e : DeskState) → slice_get desks role ≡ Some e → IsReleased job role (taken role) e) → IsReleased job (length desks) mine d → (role : ℕ) (e : DeskState) → slice_get (desks ++ d ∷ []) role ≡ Some e → IsReleased job role (taken_by (length desks) mine taken role) e
each_more job taken mine desks d each new role e at = elim (item_pushed desks d role e at) [
  | inl last ↦
      subst (λ (r : ℕ). IsReleased job r (taken_by (length desks) mine taken r) e) (sym last.0)
      (subst (λ l. IsReleased job (length desks) l e) (sym (taken_new (length desks) mine taken)) (subst (IsReleased job (length desks) mine) last.1 new))
  | inr before ↦
      let differs : role ≢ length desks = λ same. omega (arith, same, slice_get_within desks role e before) in
      subst (λ l. IsReleased job role l e) (sym (taken_old (length desks) role mine taken differs)) (each role e before)
]

-- its number of entries
counts_more : (desks : List DeskState) (d : DeskState) (counts : List ℕ) → length desks < length counts → CountEntries desks counts → CountEntries (desks ++ d ∷ []) (slice_set counts (length desks) (length d.store.entries))
counts_more desks d counts within are role e at = elim (item_pushed desks d role e at) [
  | inl last ↦
      ap (slice_get (slice_set counts (length desks) (length d.store.entries))) last.0
      ∙ item_set counts (length desks) (length d.store.entries) _ (slice_get-get_or counts (length desks) 0 within)
      ∙ ap (λ (c : DeskState). Some (length c.store.entries)) last.1
  | inr before ↦
      let differs : role ≢ length desks = λ same. omega (arith, same, slice_get_within desks role e before) in
      item_kept counts (length desks) (length d.store.entries) role differs ∙ are role e before
]

-- passes with lists that are equal for each mailbox
same_lists : (boxes : List BoxId) (f g : ℕ → List (List Envelope)) (taken : ℕ → List Envelope) (count : ℕ) (passes : List PassState) → ((q : ℕ) → f q ≡ g q) → AreGathered boxes f taken count passes → AreGathered boxes g taken count passes
same_lists boxes f g taken count passes same are = subst (λ (lists : ℕ → List (List Envelope)). AreGathered boxes lists taken count passes) (λ i q. same q i) are

-- what joining the next role's passes gives
abbrev pub Gathers : List BoxId → ℕ → List PassState → RolePasses → List PassState → Type 0
Gathers boxes role old own new = (lists : ℕ → List (List Envelope)) (taken : ℕ → List Envelope) (sent : ℕ → List Envelope) (mine : List Envelope) → AreGathered boxes lists taken role old → ArePasses boxes role sent mine own → AreGathered boxes (λ q. lists q ++ sent q ∷ []) (taken_by role mine taken) (role + 1) new

-- the desks with one more
released_more : (job : Job) (boxes : List BoxId) (taken : ℕ → List Envelope) (desks : List DeskState) (counts : List ℕ) (old new : List PassState) (s : StateView) → AreReleased job boxes taken desks counts old → length desks < length counts → IsStateKept job (length desks) boxes s → Gathers boxes (length desks) old s.passes new → AreReleased job boxes (taken_by (length desks) (taken_of s) taken) (desks ++ s.desk ∷ []) (slice_set counts (length desks) (length s.desk.store.entries)) new
released_more job boxes taken desks counts old new s released within kept gathers =
    let role = length desks in
    let mine = taken_of s in
    let sent : ℕ → List Envelope = λ q. posted_by job role q s.desk.store.entries in
    let gathered = gathers (λ q. posted_to job q desks) taken sent mine released.gathered kept.passes in
    let lists = same_lists boxes (λ q. posted_to job q desks ++ sent q ∷ []) (λ q. posted_to job q (desks ++ s.desk ∷ [])) (taken_by role mine taken) (role + 1) new (λ q. sym (posted_more job q desks s.desk)) gathered in
    record {
      each = each_more job taken mine desks s.desk released.each (released_state job role boxes s kept);
      counted = counts_more desks s.desk counts within released.counted;
      gathered = subst (λ n. AreGathered boxes (λ q. posted_to job q (desks ++ s.desk ∷ [])) (taken_by role mine taken) n new) (sym (length-append desks (s.desk ∷ []))) lists;
    }

-- the first `count` places, if there are as many
count_places : (count : ℕ) (places : List DeskState) → count ≤ length places → length (take count places) ≡ count
count_places count places within = omega (arith, length-take count places, within)

-- the passes of the first roles
pub joined_gathered : (job : Job) (boxes : List BoxId) (role : ℕ) (places : List DeskState) (counts : List ℕ) (passes : List PassState) → (joined : HaveJoined job boxes role places counts passes) → AreGathered boxes (λ q. posted_to job q (take role places)) joined.taken role passes
joined_gathered job boxes role places counts passes joined =
    subst (λ n. AreGathered boxes (λ q. posted_to job q (take role places)) joined.taken n passes) (count_places role places joined.within) joined.released.gathered

-- one place more has its desk
pub joined_more : (job : Job) (boxes : List BoxId) (role : ℕ) (places : List DeskState) (counts : List ℕ) (old new : List PassState) (s : StateView) → HaveJoined job boxes role places counts old → role < length job.protocol.roles → IsStateKept job role boxes s → Gathers boxes role old s.passes new → HaveJoined job boxes (role + 1) (slice_set places role s.desk) (slice_set counts role (length s.desk.store.entries)) new
joined_more job boxes role places counts old new s joined exists kept gathers =
    let desks = take role places in
    let number : length desks ≡ role = count_places role places joined.within in
    let few : role < 8 = omega (arith, exists, job.protocol.shape.counts.few_roles) in
    let within : length desks < length counts = omega (arith, number, few, joined.room) in
    let released = released_more job boxes joined.taken desks counts old new s joined.released within (subst (λ r. IsStateKept job r boxes s) (sym number) kept) (subst (λ r. Gathers boxes r old s.passes new) (sym number) gathers) in
    record {
      within = omega (arith, exists, joined.roles, length-set places role s.desk);
      roles = length-set places role s.desk ∙ joined.roles;
      mailboxes = joined.mailboxes;
      room = length-set counts role (length s.desk.store.entries) ∙ joined.room;
      taken = taken_by (length desks) (taken_of s) joined.taken;
      released = subst (λ (y : List DeskState × ℕ). AreReleased job boxes (taken_by (length desks) (taken_of s) joined.taken) y.0 (slice_set counts y.1 (length s.desk.store.entries)) new)
          (λ i. (sym (take_more_set places role s.desk (omega (arith, exists, joined.roles))) i, number i)) released;
    }

-- what the first role's passes give
abbrev pub Begins : List BoxId → RolePasses → List PassState → Type 0
Begins boxes own new = (sent : ℕ → List Envelope) (taken : List Envelope) → ArePasses boxes 0 sent taken own → AreGathered boxes (λ q. sent q ∷ []) (λ _. taken) 1 new

-- the first role's desk
released_first : (job : Job) (boxes : List BoxId) (counts : List ℕ) (new : List PassState) (s : StateView) → 0 < length counts → IsStateKept job 0 boxes s → Begins boxes s.passes new → AreReleased job boxes (λ _. taken_of s) (s.desk ∷ []) (slice_set counts 0 (length s.desk.store.entries)) new
released_first job boxes counts new s within kept begins = record {
  each = λ role e at. elim (item_pushed [] s.desk role e at) [
    | inl last ↦ subst (λ r. IsReleased job r (taken_of s) e) (sym last.0) (subst (IsReleased job 0 (taken_of s)) last.1 (released_state job 0 boxes s kept))
    | inr none ↦ absurd (cc)
  ];
  counted = counts_more [] s.desk counts within (λ role e none. absurd (cc));
  gathered = begins (λ q. posted_by job 0 q s.desk.store.entries) (taken_of s) kept.passes;
}

-- the first place has its desk
pub joined_first : (job : Job) (boxes : List BoxId) (places : List DeskState) (counts : List ℕ) (new : List PassState) (s : StateView) → length places ≡ length job.protocol.roles → length counts ≡ 8 → IsStateKept job 0 boxes s → Begins boxes s.passes new → HaveJoined job boxes 1 (slice_set places 0 s.desk) (slice_set counts 0 (length s.desk.store.entries)) new
joined_first job boxes places counts new s number room kept begins =
    let some_role = job.protocol.shape.some_role in
    record {
      within = omega (arith, some_role, number, length-set places 0 s.desk);
      roles = length-set places 0 s.desk ∙ number;
      mailboxes = kept.roles;
      room = length-set counts 0 (length s.desk.store.entries) ∙ room;
      taken = λ _. taken_of s;
      released = subst (λ desks. AreReleased job boxes (λ _. taken_of s) desks (slice_set counts 0 (length s.desk.store.entries)) new)
          (sym (take_more_set places 0 s.desk (omega (arith, some_role, number))))
          (released_first job boxes counts new s (omega (arith, room)) kept begins);
    }

-- what the rules tell of the joined passes
abbrev pub Tells : Job → List BoxId → List PassState → Type 0
Tells job boxes passes = (lists : ℕ → List (List Envelope)) (taken : ℕ → List Envelope) → AreGathered boxes lists taken (length boxes) passes → (q : ℕ) → q < length boxes → IsTold job q (lists q) (taken q)

-- all places have their desks
all_released : (job : Job) (boxes : List BoxId) (places : List DeskState) (counts : List ℕ) (passes : List PassState) → (joined : HaveJoined job boxes (length job.protocol.roles) places counts passes) → AreReleased job boxes joined.taken places counts passes
all_released job boxes places counts passes joined =
    subst (λ desks. AreReleased job boxes joined.taken desks counts passes) (take_all (length job.protocol.roles) places (omega (arith, joined.roles))) joined.released

-- the desks are kept
pub released_kept : (job : Job) (boxes : List BoxId) (places : List DeskState) (counts : List ℕ) (passes : List PassState) → HaveJoined job boxes (length job.protocol.roles) places counts passes → AreKept job places
released_kept job boxes places counts passes joined = record {
  count = joined.roles;
  each = λ role d at. ((all_released job boxes places counts passes joined).each role d at).kept;
}

-- and make a world, once the rules have told
pub released_world : ToldHistoriesExplain → (job : Job) (boxes : List BoxId) (places : List DeskState) (counts : List ℕ) (passes : List PassState) → HaveJoined job boxes (length job.protocol.roles) places counts passes → Tells job boxes passes → AreJoined job (record { desks = places; joined = counts })
released_world law job boxes places counts passes joined tells =
    let released = all_released job boxes places counts passes joined in
    let kept = released_kept job boxes places counts passes joined in
    let number : length places ≡ length boxes = joined.roles ∙ sym joined.mailboxes in
    let gathered = subst (λ n. AreGathered boxes (λ q. posted_to job q places) joined.taken n passes) number released.gathered in
    let told : AreTold job joined.taken places = record {
      kept = kept;
      of_taken = λ role d at. (released.each role d at).of_taken;
      told = λ role within. tells (λ q. posted_to job q places) joined.taken gathered role (omega (arith, within, number));
    } in
    record { kept = kept; explained = law job joined.taken places told; counts = released.counted }
