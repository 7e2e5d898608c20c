use Rattle.std.proofs.Common.{ap, take}
use Rattle.scm_cells.proofs.PrintableLemmas.{printable-first}
use Rattle.scm_cells.proofs.printable.count_first_printable.Goals as goal

pub returns-clause-printable : goal.returns-clause-printable
returns-clause-printable c =
    printable-first c.args.text.now (take c.min.result c.as_bytes-bytes.result.now) c.count_printable_bytes.result c.min.result
    (ap (take c.min.result) c.as_bytes-bytes.ensures.value) c.count_printable_bytes.ensures
