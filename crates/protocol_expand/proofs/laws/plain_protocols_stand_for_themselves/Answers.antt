-- The law on plain protocols.
use Rattle.protocol_expand.proofs.Plain.{PlainLaws, plain_alone, plain_expands}
use Rattle.protocol_expand.proofs.laws.plain_protocols_stand_for_themselves.Goals as goal

pub returns : goal.returns
returns c =
    let laws : PlainLaws = record {
      words = c.equal_words.ensures;
      causes = c.faults_have_causes.ensures;
      paths = c.paths_by_items.ensures;
      flat = c.plain_protocols_are_flat.ensures;
      adds = c.weights_add_up.ensures;
      graphs = c.references_are_a_graph.ensures;
      names = c.expansions_keep_names.ensures;
    } in
    record { own = plain_expands laws; alone = plain_alone laws }
