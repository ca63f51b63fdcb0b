-- The key is the one that the values make.
use Rattle.std.proofs.Common.{◌≡◌, refl}
use Rattle.role_journal.proofs.InstanceLemmas.{made_fits, made_key, made_only}
use Rattle.role_journal.proofs.instance.instance_with.Goals as goal

pub returns-clause-fits : goal.returns-clause-fits
returns-clause-fits c =
    let x = c.args.a.now in
    let key : c.key_of.result ≡ made_key x c.args.message c.args.values.now = simp (c.key_of.ensures, c.as_slice-carried.ensures, c.message_at.ensures, c.as_slice.ensures, c.as_slice-2.ensures.values, c.expanded-x.ensures.same) refl in
    made_fits x c.args.message c.key_of.result c.args.values.now c.expanded-x.ensures.admitted c.requires.known c.requires.each key

pub returns-clause-only : goal.returns-clause-only
returns-clause-only c =
    let x = c.args.a.now in
    let key : c.key_of.result ≡ made_key x c.args.message c.args.values.now = simp (c.key_of.ensures, c.as_slice-carried.ensures, c.message_at.ensures, c.as_slice.ensures, c.as_slice-2.ensures.values, c.expanded-x.ensures.same) refl in
    made_only x c.args.message c.key_of.result c.args.values.now c.expanded-x.ensures.admitted key
