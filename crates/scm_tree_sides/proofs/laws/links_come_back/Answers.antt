use Rattle.scm_tree_sides.proofs.LinkLemmas.{links_back}
use Rattle.scm_tree_sides.proofs.laws.links_come_back.Goals as goal

pub returns : goal.returns
returns c = λ beside back.
    links_back c.args.changed c.args.old c.args.new c.args.old_bytes.now c.args.new_bytes.now c.args.file.now beside back
