-- What was printed is the text of the expansion.
use Rattle.std.proofs.Common.{◌≡◌, ℕ, List, [], ◌∷◌, ◌++◌, Result, Ok, Err, sym, ◌∙◌, ap, subst}
use Rattle.std.specs.Prelude.{IfOk}
use Rattle.std.proofs.lemmas.List.Elements.{All-nil, All-cons}
use Rattle.bspl_types.specs.declared.expanded.Expanded.{Expanded}
use Rattle.list_base.specs.declared.memory.NoMemory.{NoMemory}
use Rattle.bspl_parser.specs.declared.document.Declaration.{Declaration}
use Rattle.bspl_parser.specs.Alike.{ReadsBack}
use Rattle.bspl_parser.specs.Layout.{printed}
use Rattle.bspl_parser.specs.Spelling.{IsDeclaration, IsDocument}
use Rattle.protocol_expand.specs.FlatExpansion.{IsExpansionOf}
use Rattle.protocol_expand.specs.Canonical.{IsCanonical}
use Rattle.protocol_expand.specs.Laws.{PlainStandsForItself}
use Rattle.protocol_expand.specs.Printed.{ExpandsBack, IsPrinted}
use Rattle.protocol_expand.proofs.Unplaced.{expands_back}
use Rattle.protocol_expand.proofs.printed_text.print_expanded.Goals as goal

-- a document of one protocol that is well formed is so
formed_alone : (p : Declaration) (protocols : List Declaration) → protocols ≡ p ∷ [] → IsDeclaration p → IsDocument (record { protocols = protocols })
formed_alone p protocols alone formed = subst (λ (ps : List Declaration). IsDocument (record { protocols = ps })) (sym alone) (record {
  some = λ none. cc;
  each = All-cons IsDeclaration p [] formed (All-nil IsDeclaration);
})

-- its layout is a text of the expansion
text_printed : (p : Declaration) (x : Expanded) (protocols : List Declaration) (result : Result (List ℕ) NoMemory) → protocols ≡ p ∷ [] → IsExpansionOf p x → IsCanonical p → IfOk result (λ text. text ≡ printed (record { protocols = protocols })) → IfOk result (IsPrinted x)
text_printed p x protocols (Ok text) alone expands bare layout = record {
  flat = p;
  expands = expands;
  bare = bare;
  layout = layout ∙ ap (λ (ps : List Declaration). printed (record { protocols = ps })) alone;
}
text_printed p x protocols (Err e) alone expands bare layout = tt

-- and is read back so
text_read : PlainStandsForItself → (p : Declaration) (x : Expanded) (protocols : List Declaration) (result : Result (List ℕ) NoMemory) → protocols ≡ p ∷ [] → IsExpansionOf p x → IsCanonical p → IfOk result (λ text. ReadsBack text (record { protocols = protocols })) → IfOk result (λ text. ExpandsBack text x)
text_read law p x protocols (Ok text) alone expands bare back = expands_back law text p x expands bare (subst (λ (ps : List Declaration). ReadsBack text (record { protocols = ps })) alone back)
text_read law p x protocols (Err e) alone expands bare back = tt

pub print-requires : goal.print-requires
print-requires c =
    let p = c.in_ok-declaration_of.field-0 in
    record { formed = formed_alone p c.push.new.self (c.in_ok-push.ensures.ok ∙ ap (λ (ps : List Declaration). ps ++ p ∷ []) c.new-protocols.ensures) c.in_ok-declaration_of.ensures.formed }

pub returns : goal.returns
returns c =
    let p = c.in_ok-declaration_of.field-0 in
    let alone : c.push.new.self ≡ p ∷ [] = c.in_ok-push.ensures.ok ∙ ap (λ (ps : List Declaration). ps ++ p ∷ []) c.new-protocols.ensures in
    record {
      text = text_printed p c.args.x.now c.push.new.self c.print.result alone c.in_ok-declaration_of.ensures.flat c.in_ok-declaration_of.ensures.bare c.print.ensures.layout;
      read_back = text_read c.plain_protocols_stand_for_themselves.ensures p c.args.x.now c.push.new.self c.print.result alone c.in_ok-declaration_of.ensures.flat c.in_ok-declaration_of.ensures.bare c.print.ensures.read_back;
    }
