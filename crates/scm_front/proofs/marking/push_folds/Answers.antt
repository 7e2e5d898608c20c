use Rattle.scm_front.proofs.LineFoldLemmas.{file-folds-with, section-folds-with}
use Rattle.scm_front.proofs.marking.push_folds.Goals as goal

pub returns-clause-ok : goal.returns-clause-ok
returns-clause-ok c =
    let v = c.view.inside in
    let ks = c.args.keys.now in
    let sections = section-folds-with v.has_all_lines v.state.files v.expanded ks in
    let files = file-folds-with v.has_all_lines v.state.files v.expanded ks in
    rw (← c.view.view_is, sections, files) c.push_folds.ensures.ok
