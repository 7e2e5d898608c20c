use Rattle.std.proofs.Common.{◌+◌, ◌∙◌, ap, length, unwrap_or}
use Rattle.std.specs.Prelude.{position}
use Rattle.scm_cells.specs.Cluster.{is_unprintable}
use Rattle.scm_cells.proofs.PrintableLemmas.{count-passed}
use Rattle.scm_cells.proofs.printable.count_printable_bytes.Goals as goal

pub returns : goal.returns
returns c =
    let passed = c.count_in_blocks-passed in
    ap (λ k. passed.result + k)
    (c.unwrap_or.ensures ∙ ap (λ o. unwrap_or o (length c.split_at.result.1.now)) c.first_unprintable.ensures ∙ ap (λ t. unwrap_or (position is_unprintable t) (length t)) c.split_at.ensures.back)
    ∙ count-passed c.args.bytes.now passed.result passed.ensures.within passed.ensures.printable
