-- What a protocol that is well scoped declares has the shape of an expansion.
use Rattle.std.proofs.Common.{◌≡◌, ◌≢◌, ℕ, suc, ◌+◌, ◌<◌, Bool, true, false, cond, List, [], ◌∷◌, ◌++◌, length, map, take, drop, get_or, Option, None, refl, sym, subst, ap, arith}
use Rattle.std.specs.Prelude.{IsTrue, is_some}
use Rattle.std.specs.List.{All, AllPairs, AllZip, filter, enumerate_from}
use Rattle.std.proofs.lemmas.Bool.{false≢true}
use Rattle.std.proofs.lemmas.List.{length-map, length-append}
use Rattle.std.proofs.lemmas.List.Elements.{All-append, All-map}
use Rattle.std.proofs.Math.Seq.{take-append_seam, drop-append_seam}
use Rattle.bspl_types.specs.declared.protocol.Message.{Message}
use Rattle.bspl_types.specs.declared.protocol.ParamInfo.{ParamInfo}
use Rattle.bspl_types.specs.Name.{is_name}
use Rattle.bspl_types.specs.Shape.{AreNamed, IsDeclared, IsMessageOf, IsWellFormed, IsWithinLimits, key_indices, is_public_value}
use Rattle.bspl_parser.specs.declared.document.Adorn.{Adorn}
use Rattle.bspl_parser.specs.declared.document.Adorn.TheVariants.{In, Out, Nil, Any, Opt}
use Rattle.bspl_parser.specs.declared.document.Declaration.{Declaration}
use Rattle.bspl_parser.specs.declared.document.Formal.{Formal}
use Rattle.bspl_parser.specs.declared.document.Item.{Item}
use Rattle.bspl_parser.specs.declared.document.Item.TheVariants as item
use Rattle.bspl_parser.specs.declared.word.Word.{Word}
use Rattle.bspl_parser.specs.Spelling.{IsDeclaration}
use Rattle.protocol_names.specs.Names.{texts, message_words, param_words}
use Rattle.protocol_expand.specs.FlatExpansion.{adornment_of, public_param, private_param, params_of, IsMessageOfItem}
use Rattle.protocol_expand.specs.WellScoped.{AreDistinct, HasFixedAdornment, IsWellScoped, CountsFit}
use Rattle.list_base.proofs.Mapped.{all_of_mapped, as_long, mapped_pairs, pairs_of_mapped}

-- what is not empty has an item
some_items : {X : Type 0} (xs : List X) → xs ≢ [] → 0 < length xs
some_items [] some = absurd (some refl)
some_items (x ∷ xs) some = omega arith

-- words are names
words_named : (words : List Word) → All (λ n. IsTrue (is_name n)) (texts words)
words_named words = All-map (λ n. IsTrue (is_name n)) (λ (w : Word). w.text) words (λ k e within. (get_or words k e).named)

-- words that are distinct have names that are distinct
words_distinct : (words : List Word) → AreDistinct words → AllPairs (λ a b. a ≢ b) (texts words)
words_distinct words distinct = mapped_pairs (λ a b. a ≢ b) (λ (w : Word). w.text) words distinct.distinct

-- items whose names are those of such words have names of their own
named_as : {X : Type 0} (name : X → List ℕ) (xs : List X) (words : List Word) → map name xs ≡ texts words → AreDistinct words → AreNamed name xs
named_as name xs words same distinct = record {
  named = all_of_mapped (λ n. IsTrue (is_name n)) name xs (subst (All (λ n. IsTrue (is_name n))) (sym same) (words_named words));
  distinct = pairs_of_mapped (λ a b. a ≢ b) name xs (subst (AllPairs (λ a b. a ≢ b)) (sym same) (words_distinct words distinct));
}

-- the parameters have the names that are declared
pub param_texts : (public : List Formal) (private : List Word) → map (λ p. p.name) (map public_param public ++ map private_param private) ≡ texts (map (λ f. f.name) public ++ private)
param_texts [] [] = refl
param_texts [] (w ∷ ws) = ap (λ ns. w.text ∷ ns) (param_texts [] ws)
param_texts (f ∷ fs) ws = ap (λ ns. f.name.text ∷ ns) (param_texts fs ws)

-- and so have the messages
pub message_texts : (roles : List (List ℕ)) (params : List ParamInfo) (d : Declaration) (body : List Item) (ms : List Message) → AllZip (IsMessageOfItem roles params) body ms → map (λ m. m.name) ms ≡ texts (message_words (record d { body = body }))
message_texts roles params d [] [] images = refl
message_texts roles params d [] (m ∷ ms) images = absurd images
message_texts roles params d (i ∷ body) [] images = absurd images
message_texts roles params d (item.Reference r ∷ body) (m ∷ ms) images = absurd images.0
message_texts roles params d (item.Message s ∷ body) (m ∷ ms) images = λ j. images.0.named j ∷ message_texts roles params d body ms images.1 j

-- a key binds
key_binds : (a : Adorn) (key : Option ℕ) → (a ≡ Nil → key ≡ None) → a ≢ Any → a ≢ Opt → IsTrue (is_some key) → IsTrue (is_public_value (adornment_of a))
key_binds In key bare not_any not_opt some = refl
key_binds Out key bare not_any not_opt some = refl
key_binds Nil key bare not_any not_opt some = absurd (false≢true (subst (λ (k : Option ℕ). IsTrue (is_some k)) (bare refl) some))
key_binds Any key bare not_any not_opt some = absurd (not_any refl)
key_binds Opt key bare not_any not_opt some = absurd (not_opt refl)

-- a public parameter is adorned
is_adorned : (a : Adorn) → a ≢ Any → a ≢ Opt → adornment_of a ≢ None
is_adorned In not_any not_opt same = absurd cc
is_adorned Out not_any not_opt same = absurd cc
is_adorned Nil not_any not_opt same = absurd cc
is_adorned Any not_any not_opt same = absurd (not_any refl)
is_adorned Opt not_any not_opt same = absurd (not_opt refl)

-- what is declared of the parameters
declared : (d : Declaration) → IsDeclaration d → All HasFixedAdornment d.public → IsDeclared (length d.public) (params_of d)
declared d formed adorned = record {
  some_public = some_items d.public formed.some_public;
  within = omega (arith, length-append (map public_param d.public) (map private_param d.private), length-map d.public public_param);
  public_adorned =
      subst (λ n. All (λ p. p.adornment ≢ None) (take n (params_of d))) (length-map d.public public_param)
      (subst (All (λ (p : ParamInfo). p.adornment ≢ None)) (sym (take-append_seam (map public_param d.public) (map private_param d.private)))
      (All-map (λ (p : ParamInfo). p.adornment ≢ None) public_param d.public (λ k e within. is_adorned (get_or d.public k e).adorn (adorned k e within).not_any (adorned k e within).not_opt)));
  private_bare =
      subst (λ n. All (λ p. p.adornment ≡ None) (drop n (params_of d))) (length-map d.public public_param)
      (subst (All (λ (p : ParamInfo). p.adornment ≡ None)) (sym (drop-append_seam (map public_param d.public) (map private_param d.private)))
      (All-map (λ (p : ParamInfo). p.adornment ≡ None) private_param d.private (λ k e within. refl)));
  keys_bound =
      All-append (λ (p : ParamInfo). IsTrue p.key → IsTrue (is_public_value p.adornment)) (map public_param d.public) (map private_param d.private)
      (All-map (λ (p : ParamInfo). IsTrue p.key → IsTrue (is_public_value p.adornment)) public_param d.public
      (λ k e within. key_binds (get_or d.public k e).adorn (get_or d.public k e).key (formed.each_public k e within) (adorned k e within).not_any (adorned k e within).not_opt))
      (All-map (λ (p : ParamInfo). IsTrue p.key → IsTrue (is_public_value p.adornment)) private_param d.private (λ k e within is_key. absurd (false≢true is_key)));
}

-- one more that counts in both lists, or in neither
counts_alike : {X Y A B : Type 0} (b : Bool) (f : X → A) (g : Y → B) (x : X) (xs : List X) (y : Y) (ys : List Y) → length (map f xs) ≡ length (map g ys) → length (map f (cond b (x ∷ xs) xs)) ≡ length (map g (cond b (y ∷ ys) ys))
counts_alike true f g x xs y ys same = ap suc same
counts_alike false f g x xs y ys same = same

-- there is an index for each parameter that is marked as a key
pub as_many_keys : (n : ℕ) (public : List Formal) (private : List Word) → length (map (λ (index, _). index) (filter (λ (_, p). p.key) (enumerate_from n (map public_param public ++ map private_param private)))) ≡ length (map (λ f. f.name) (filter (λ f. is_some f.key) public))
as_many_keys n [] [] = refl
as_many_keys n [] (w ∷ ws) = as_many_keys (n + 1) [] ws
as_many_keys n (f ∷ fs) ws =
    counts_alike (is_some f.key) (λ ((index, _) : ℕ × ParamInfo). index) (λ (g : Formal). g.name) (n, public_param f) (filter (λ ((_, p) : ℕ × ParamInfo). p.key) (enumerate_from (n + 1) (map public_param fs ++ map private_param ws))) f (filter (λ (g : Formal). is_some g.key) fs)
    (as_many_keys (n + 1) fs ws)

-- there are not too many of each
counted : (d : Declaration) (ms : List Message) → CountsFit d → length ms ≡ length d.body → IsWithinLimits (length (texts d.roles)) (length (params_of d)) (length (key_indices (params_of d))) (length ms)
counted d ms within long = record {
  few_roles = omega (arith, length-map d.roles (λ (w : Word). w.text), within.few_roles);
  few_params = omega (arith, length-map (params_of d) (λ (p : ParamInfo). p.name), ap length (param_texts d.public d.private), length-map (param_words d) (λ (w : Word). w.text), within.few_params);
  few_keys = omega (arith, as_many_keys 0 d.public d.private, within.few_keys);
  few_messages = omega (arith, long, within.few_messages);
}

-- with the images of its items it has the shape of an expansion
pub shape_of : (d : Declaration) (ms : List Message) → IsWellScoped d → AllZip (IsMessageOfItem (texts d.roles) (params_of d)) d.body ms → All (IsMessageOf (length (texts d.roles)) (length (params_of d))) ms → IsWellFormed d.name.text (texts d.roles) (params_of d) (length d.public) (key_indices (params_of d)) ms
shape_of d ms ready images each = record {
  named = d.name.named;
  role_names = record { named = words_named d.roles; distinct = words_distinct d.roles ready.distinct.roles };
  some_role = omega (arith, length-map d.roles (λ (w : Word). w.text), some_items d.roles ready.formed.some_role);
  param_names = named_as (λ (p : ParamInfo). p.name) (params_of d) (param_words d) (param_texts d.public d.private) ready.distinct.params;
  message_names = named_as (λ (m : Message). m.name) ms (message_words d) (message_texts (texts d.roles) (params_of d) d d.body ms images) ready.distinct.messages;
  declared = declared d ready.formed ready.adorned;
  key_list = refl;
  each_message = each;
  counts = counted d ms ready.within (as_long (IsMessageOfItem (texts d.roles) (params_of d)) d.body ms images);
}
