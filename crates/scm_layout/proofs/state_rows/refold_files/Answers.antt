use Rattle.std.proofs.Common.{◌≡◌, ◌∙◌, ◌+◌, ◌<◌, ◌≤◌, ◌++◌, ◌∷◌, take, drop, set, length, append-nil, ap, sym, arith}
use Rattle.std.proofs.lemmas.List.{drop-set-lt, take_all}
use Rattle.scm_layout.specs.declared.file_rows.FileRows.{FileRows}
use Rattle.scm_layout.specs.Rows.{each_file_rows}
use Rattle.scm_selection.proofs.FindLemmas.{item-at}
use Rattle.scm_layout.proofs.RowLemmas.{written}
use Rattle.scm_layout.proofs.StackLemmas.{each-end, each-more, file-within, files-length, lengths-more}
use Rattle.scm_layout.proofs.state_rows.refold_files.Goals as goal

pub refold-requires : goal.refold-requires
refold-requires c =
    let rows = c.loop-file_idx.rows in
    let files = c.args.files.now in
    let i = c.loop-file_idx.file_idx in
    let counted : length c.args.rows.now ≡ length files = files-length c.args.rows.now files c.requires.rows.lengths in
    let within : i < length rows = omega arith in
    record {
      lengths = ap (λ (x : FileRows). length x.sections) (sym c.index-rows-file_idx.is) ∙ (lengths-more i rows files c.index-rows-file_idx.result c.index-files-file_idx.result within c.loop-file_idx-test.true c.index-rows-file_idx.is c.index-files-file_idx.is c.loop-file_idx.invariant.lengths).0;
      fits = file-within i files c.index-files-file_idx.result c.loop-file_idx-test.true c.index-files-file_idx.is c.requires.rows.fits;
      all = λ h. c.requires.all h i c.index-files-file_idx.result (item-at files i c.index-files-file_idx.result c.loop-file_idx-test.true c.index-files-file_idx.is);
    }

pub loop-file_idx-preserved : goal.loop-file_idx-preserved
loop-file_idx-preserved c =
    let rows = c.loop-file_idx.rows in
    let files = c.args.files.now in
    let ks = c.args.unfolded.keys.now in
    let commit = c.args.commit_idx in
    let i = c.loop-file_idx.file_idx in
    let f = c.index-files-file_idx.result in
    let y = c.refold.new.self in
    let left = each_file_rows ks commit (i + 1) (drop (i + 1) files) in
    let counted : length c.args.rows.now ≡ length files = files-length c.args.rows.now files c.requires.rows.lengths in
    let within : i < length rows = omega arith in
    let below : i < i + 1 = omega arith in
    let same : drop (i + 1) (set rows i y) ≡ drop (i + 1) rows = drop-set-lt (i + 1) rows i y below in
    let more : each_file_rows ks commit i (drop i files) ≡ y ∷ left =
    each-more ks commit i files f c.loop-file_idx-test.true c.index-files-file_idx.is ∙ ap (λ r. r ∷ left) (sym c.refold.ensures) in
    record {
      rows = written rows i y left (each_file_rows ks commit 0 files) within (ap (λ zs. take i rows ++ zs) (sym more) ∙ c.loop-file_idx.invariant.rows);
      lengths = rw same ((lengths-more i rows files c.index-rows-file_idx.result f within c.loop-file_idx-test.true c.index-rows-file_idx.is c.index-files-file_idx.is c.loop-file_idx.invariant.lengths).1);
    }

pub returns : goal.returns
returns c =
    let rows = c.loop-file_idx.rows in
    let i = c.loop-file_idx.file_idx in
    let counted : length c.args.rows.now ≡ length c.args.files.now = files-length c.args.rows.now c.args.files.now c.requires.rows.lengths in
    let all : length rows ≤ i = omega arith in
    sym (take_all i rows all) ∙ sym (append-nil (take i rows)) ∙ ap (λ zs. take i rows ++ zs) (sym (each-end c.args.unfolded.keys.now c.args.commit_idx i c.args.files.now c.loop-file_idx-test.false)) ∙ c.loop-file_idx.invariant.rows
