use Rattle.std.proofs.Common.{◌∙◌, ◌<◌, ap, arith, length, map, sym}
use Rattle.std.proofs.lemmas.List.{length-map, get_or-map}
use Rattle.scm_terminal.specs.RowView.{sent_line_of}
use Rattle.scm_terminal.proofs.PushLemmas.{painting-more, painting-all}
use Rattle.scm_terminal.proofs.painter.push_rows.Goals as goal

pub loop-index-preserved : goal.loop-index-preserved
loop-index-preserved c =
    let rows = c.args.rows.now in
    let item = c.index-rows-index.result in
    let within : c.loop-index.index < length rows = omega arith in
    let count = length-map rows sent_line_of in
    painting-more c.loop-index.index (map sent_line_of rows) (sent_line_of item) _ _ _ (omega arith)
    (ap sent_line_of c.index-rows-index.is ∙ sym (get_or-map sent_line_of rows c.loop-index.index item (sent_line_of item) within)) c.in_ok-push.ensures c.loop-index.invariant

pub returns : goal.returns
returns c =
    let count = length-map c.args.rows.now sent_line_of in
    painting-all c.loop-index.index (map sent_line_of c.args.rows.now) _ _ (omega arith) c.loop-index.invariant
