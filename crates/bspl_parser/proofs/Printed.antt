-- A document is read back from its layout.
use Rattle.std.proofs.Common.{[], inl, refl, sym, subst}
use Rattle.std.proofs.lemmas.List.{append-nil}
use Rattle.bspl_parser.specs.declared.document.Document.{Document}
use Rattle.bspl_parser.specs.Alike.{ReadsBack}
use Rattle.bspl_parser.specs.Grammar.{signs_of_document}
use Rattle.bspl_parser.specs.Layout.{printed}
use Rattle.bspl_parser.specs.Spelling.{IsDocument}
use Rattle.bspl_parser.specs.Tokens.{Tokens, nothing}
use Rattle.bspl_parser.proofs.AlikeLemmas.{formed_alike}
use Rattle.bspl_parser.proofs.PrintsBackDocuments.{document_prints_back}
use Rattle.bspl_parser.proofs.Spelled.{whole_from_Spelled}

-- the layout of a well-formed document spells one that is alike it
pub printed_is_read : (d : Document) → IsDocument d → ReadsBack (printed d) d
printed_is_read d formed =
    let found = (document_prints_back d).prints_back 0 [] [] tt ([], [], nothing, refl, inl refl) in
    record {
      document = found.value;
      read = record {
        tokens = found.tokens;
        scanned = subst (λ text. Tokens text found.tokens) (append-nil (printed d)) found.scanned;
        spelled = record { formed = formed_alike d found.value found.like formed; signed = whole_from_Spelled (signs_of_document found.value) found.tokens found.spelled };
      };
      alike = sym found.like;
    }
