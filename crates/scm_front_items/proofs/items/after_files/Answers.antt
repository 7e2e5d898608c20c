use Rattle.scm_front_items.specs.Search.{is_hit}
use Rattle.scm_front_items.proofs.SearchLemmas.{files-end}
use Rattle.scm_front_items.proofs.items.after_files.Goals as goal

pub returns : goal.returns
returns c =
    let quest = c.args.quest.now in
    files-end quest.way (is_hit quest.way quest.pattern.now quest.selection) c.loop-index.index c.args.files.now c.loop-index.nearest c.loop-index-test.false c.loop-index.invariant
