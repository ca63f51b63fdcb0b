-- The protocol of the name is the one of its number, and so are its tables.
use Rattle.std.proofs.Common.{◌≡◌, ◌∙◌, sym, refl, Some, None, arith}
use Rattle.std.specs.List.{position}
use Rattle.std.specs.Str.{bytes_eq}
use Rattle.std.proofs.lemmas.Option.{slice_get-get_or}
use Rattle.protocol_names.specs.Names.{protocol_of}
use Rattle.protocol_paths.proofs.TableLemmas.{is_within}
use Rattle.protocol_paths.proofs.link_lookup.followed_link.Goals as goal

pub returns-in_err-number : goal.returns-in_err-number
returns-in_err-number c =
    let table = c.args.context.now.table.now in
    let name = c.args.reference.now.protocol.text in
    let nowhere : position (λ n. bytes_eq n c.as_slice-name.result.now) table.names ≡ None = sym c.index.ensures ∙ c.in_err-number.was in
    let missing : protocol_of table.protocols.now name ≡ None = c.names_find_protocols.ensures.missing table.protocols.now name (rw (c.as_slice-name.ensures, table.in_order) at nowhere) in
    rw c.from_residual.ensures (λ q found. cc (missing, found))

pub returns-then-is_skipped : goal.returns-then-is_skipped
returns-then-is_skipped c = λ q found.
    let table = c.args.context.now.table.now in
    let name = c.args.reference.now.protocol.text in
    let somewhere : position (λ n. bytes_eq n c.as_slice-name.result.now) table.names ≡ Some c.in_ok-number.number = sym c.index.ensures ∙ c.in_ok-number.was in
    let declared = c.names_find_protocols.ensures.found table.protocols.now name c.in_ok-number.number (rw (c.as_slice-name.ensures, table.in_order) at somewhere) ∙ found in
    let both = c.is_skipped.ensures.0 c.if-is_skipped.true in (
      record { number = c.in_ok-number.number; declared = declared; skipped = both.0 },
      record { number = c.in_ok-number.number; declared = declared; skipped = both.1 },
    )

pub bounds-context-number-2 : goal.bounds-context-number-2
bounds-context-number-2 c =
    let table = c.args.context.now.table.now in
    let somewhere : position (λ n. bytes_eq n c.as_slice-name.result.now) table.names ≡ Some c.in_ok-number.number = sym c.index.ensures ∙ c.in_ok-number.was in
    let below = is_within table.protocols.now c.as_slice-name.result.now c.in_ok-number.number (rw table.in_order at somewhere) in
    omega (arith, below, (c.args.context.now.tables c.requires.more).count)

pub invariant_of-result : goal.invariant_of-result
invariant_of-result c =
    let table = c.args.context.now.table.now in
    let somewhere : position (λ n. bytes_eq n c.as_slice-name.result.now) table.names ≡ Some c.in_ok-number.number = sym c.index.ensures ∙ c.in_ok-number.was in
    let below = is_within table.protocols.now c.as_slice-name.result.now c.in_ok-number.number (rw table.in_order at somewhere) in
    let tables = c.args.context.now.tables c.requires.more in
    record {
      counted = c.requires.counted;
      declared = tables.each c.in_ok-number.number _ _ (slice_get-get_or table.protocols.now c.in_ok-number.number _ below) (slice_get-get_or c.args.context.now.names.now c.in_ok-number.number _ (omega (arith, below, tables.count)));
    }

pub returns : goal.returns
returns c =
    let table = c.args.context.now.table.now in
    let name = c.args.reference.now.protocol.text in
    let somewhere : position (λ n. bytes_eq n c.as_slice-name.result.now) table.names ≡ Some c.in_ok-number.number = sym c.index.ensures ∙ c.in_ok-number.was in
    let below = is_within table.protocols.now c.as_slice-name.result.now c.in_ok-number.number (rw table.in_order at somewhere) in
    record {
      at = refl;
      gives = refl;
      leads = sym (c.names_find_protocols.ensures.found table.protocols.now name c.in_ok-number.number (rw (c.as_slice-name.ensures, table.in_order) at somewhere)) ∙ slice_get-get_or table.protocols.now c.in_ok-number.number _ below;
    }
