use Rattle.std.proofs.Common.{◌==◌, ◌∙◌, ap, arith, length, unwrap_or}
use Rattle.std.proofs.lemmas.List.Sums.{prefix_len-le-length}
use Rattle.scm_merge.proofs.StyleLemmas.{run-before}
use Rattle.scm_merge.proofs.style.run_of.Goals as goal

pub returns-clause-count : goal.returns-clause-count
returns-clause-count c = c.unwrap_or.ensures ∙ ap (λ o. unwrap_or o (length c.args.bytes.now)) c.first_other.ensures ∙ run-before c.args.sign c.args.bytes.now

pub returns-clause-within : goal.returns-clause-within
returns-clause-within c =
    let count = c.unwrap_or.ensures ∙ ap (λ o. unwrap_or o (length c.args.bytes.now)) c.first_other.ensures ∙ run-before c.args.sign c.args.bytes.now in
    let le = prefix_len-le-length (λ b. b == c.args.sign) c.args.bytes.now in
    omega (arith, count, le)
