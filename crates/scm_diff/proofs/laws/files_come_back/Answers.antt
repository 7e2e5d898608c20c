use Rattle.std.proofs.Common.{◌≡◌, ap, ◌∙◌}
use Rattle.scm_diff.specs.Bytes.{bytes_of_text, text_of_bytes}
use Rattle.scm_diff.proofs.ByteLemmas.{bytes-back}
use Rattle.scm_diff.proofs.laws.files_come_back.Goals as goal

pub returns : goal.returns
returns c = λ is a b.
    let old_back : bytes_of_text (text_of_bytes c.args.old_bytes.now) ≡ c.args.old_bytes.now = bytes-back c.args.old_bytes.now (λ k. (c.type_inv.old_bytes k).fits) in
    let new_back : bytes_of_text (text_of_bytes c.args.new_bytes.now) ≡ c.args.new_bytes.now = bytes-back c.args.new_bytes.now (λ k. (c.type_inv.new_bytes k).fits) in
    record {
      selected = ap bytes_of_text (is.selected ∙ a) ∙ old_back;
      unselected = ap bytes_of_text (is.unselected ∙ b) ∙ new_back;
      checked_selected = ap bytes_of_text (is.checked_selected ∙ b) ∙ new_back;
      checked_unselected = ap bytes_of_text (is.checked_unselected ∙ a) ∙ old_back;
    }
