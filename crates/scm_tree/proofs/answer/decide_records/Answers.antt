use Rattle.std.proofs.Common.{subst}
use Rattle.std.proofs.lemmas.Result.{IfOk-weaker}
use Rattle.scm_tree.specs.declared.asked.ReadError.{ReadError}
use Rattle.scm_tree.specs.Reading.{IsReadFault}
use Rattle.scm_tree.specs.Answers.{no_rows, of_rows}
use Rattle.scm_tree.proofs.answer.decide_records.Goals as goal

pub returns-in-Ok : goal.returns-in-Ok
returns-in-Ok c = IfOk-weaker c.decide_asked.result _ _ (λ answer is. of_rows c.in-Ok.asked c.in-Ok.ensures is) c.decide_asked.ensures

pub returns-in-Err-NoRecord : goal.returns-in-Err-NoRecord
returns-in-Err-NoRecord c =
    IfOk-weaker c.fault_of.result _ _
    (λ answer is. no_rows c.in-Err-NoRecord.record.now (subst (λ (error : ReadError). IsReadFault c.args.bytes.now error) c.in-Err-NoRecord.field-0-is c.in-Err-NoRecord.ensures) is)
    c.fault_of.ensures
