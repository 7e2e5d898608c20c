use Rattle.scm_diff.proofs.ByteLemmas.{bytes-back}
use Rattle.scm_c_values.specs.Texts.{bytes_in, given_change}
use Rattle.scm_c_values.proofs.TextLemmas.{bytes_given_back, gives_bytes_back, text_given}
use Rattle.scm_c_values.proofs.laws.added_bytes_come_back.Goals as goal

pub returns : goal.returns
returns c = λ shows.
    let given = given_change c.args.path.now c.args.old_path.now c.args.old.now c.args.old_mode c.args.new.now c.args.new_mode in
    gives_bytes_back given (bytes_in c.args.old.now c.args.old_mode) (bytes_in c.args.new.now c.args.new_mode) c.args.file.now shows
    (text_given c.args.old.now c.args.old_mode shows.old shows.is_old) (text_given c.args.new.now c.args.new_mode shows.new shows.is_new)
    (bytes_given_back c.args.old.now c.args.old_mode (bytes-back c.args.old.now (λ k. (c.type_inv.old k).fits)))
    (bytes_given_back c.args.new.now c.args.new_mode (bytes-back c.args.new.now (λ k. (c.type_inv.new k).fits)))
