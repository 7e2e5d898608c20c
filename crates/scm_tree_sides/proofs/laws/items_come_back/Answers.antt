use Rattle.scm_tree_sides.proofs.ItemLemmas.{come_back}
use Rattle.scm_tree_sides.proofs.laws.items_come_back.Goals as goal

pub returns : goal.returns
returns c = λ shows. come_back c.args.changed c.args.is_other c.args.is_checked c.args.file.now shows
