-- A protocol stands for one protocol of messages alone.
use Rattle.std.proofs.Common.{◌≡◌, ℕ, List, [], ◌∷◌, ◌++◌, length, map, refl, sym, ◌∙◌, ap}
use Rattle.bspl_parser.specs.declared.document.Declaration.{Declaration}
use Rattle.bspl_parser.specs.declared.document.Formal.{Formal}
use Rattle.bspl_parser.specs.declared.document.Item.{Item}
use Rattle.bspl_parser.specs.declared.document.Item.TheVariants.{Message, Reference}
use Rattle.bspl_parser.specs.declared.document.Schema.{Schema}
use Rattle.bspl_parser.specs.declared.word.Word.{Word}
use Rattle.bspl_parser.specs.Alike.{WordsAreEqual}
use Rattle.protocol_paths.specs.Flat.{IsFlat, IsImage, IsImageFormal, IsImageItem, entry}
use Rattle.protocol_paths.specs.Path.{Step, message_paths}
use Rattle.protocol_paths.specs.Scope.{Scope, param_at, scope_at, role_at, start}
use Rattle.protocol_paths.specs.Substituted.{IsSubstituted}
use Rattle.list_base.proofs.Zipped.{one_list}

-- a word under a name is one
one_word : WordsAreEqual → (name : List ℕ) (w one other : Word) → IsSubstituted name w one → IsSubstituted name w other → one ≡ other
one_word words name w one other is_one is_other = words one other (is_one.text ∙ sym is_other.text) (is_one.offset ∙ sym is_other.offset)

-- so is a parameter
one_formal : WordsAreEqual → (place : Scope) (f one other : Formal) → IsImageFormal place f one → IsImageFormal place f other → one ≡ other
one_formal words place f one other is_one is_other = λ i. record {
  adorn = (is_one.adorn ∙ sym is_other.adorn) i;
  offset = (is_one.offset ∙ sym is_other.offset) i;
  name = one_word words (param_at place f.name.text) f.name one.name other.name is_one.name is_other.name i;
  key = (is_one.bare ∙ sym is_other.bare) i;
}

-- and a message
one_message : WordsAreEqual → (place : Scope) (m one other : Schema) → IsImage place m one → IsImage place m other → one ≡ other
one_message words place m one other is_one is_other = λ i. record {
  sender = one_word words (role_at place m.sender.text) m.sender one.sender other.sender is_one.sent is_other.sent i;
  receiver = one_word words (role_at place m.receiver.text) m.receiver one.receiver other.receiver is_one.received is_other.received i;
  name = one_word words (place.prefix ++ m.name.text) m.name one.name other.name is_one.named is_other.named i;
  params = one_list (IsImageFormal place) (one_formal words place) m.params one.params other.params is_one.carries is_other.carries i;
}

-- at the end of a path stands one message
one_item : WordsAreEqual → (place : Scope) (at : List Step × Schema) (one other : Item) → IsImageItem place at one → IsImageItem place at other → one ≡ other
one_item words place (path, m) (Reference r) other is_one is_other = absurd is_one
one_item words place (path, m) (Message one) (Reference r) is_one is_other = absurd is_other
one_item words place (path, m) (Message one) (Message other) is_one is_other = ap Message (one_message words (scope_at place path) m one other is_one is_other)

-- words of the same entries are the same
one_entries : WordsAreEqual → (one other : List Word) → map entry one ≡ map entry other → one ≡ other
one_entries words [] [] same = refl
one_entries words [] (w ∷ ws) same = absurd cc
one_entries words (v ∷ vs) [] same = absurd cc
one_entries words (v ∷ vs) (w ∷ ws) same =
    let first : entry v ≡ entry w = cc in
    let rest : map entry vs ≡ map entry ws = cc in
    λ i. words v w (ap (λ (e : List ℕ × ℕ). e.0) first) (ap (λ (e : List ℕ × ℕ). e.1) first) i ∷ one_entries words vs ws rest i

-- there is one protocol at most
pub one_flat : WordsAreEqual → (protocols : List Declaration) (top one other : Declaration) → IsFlat protocols top one → IsFlat protocols top other → one ≡ other
one_flat words protocols top one other is_one is_other = λ i. record {
  name = (is_one.name ∙ sym is_other.name) i;
  roles = (is_one.roles ∙ sym is_other.roles) i;
  public = (is_one.public ∙ sym is_other.public) i;
  private = one_entries words one.private other.private (is_one.private ∙ sym is_other.private) i;
  body = one_list (IsImageItem (start top)) (one_item words (start top)) (message_paths (length protocols) protocols top) one.body other.body is_one.body is_other.body i;
}
