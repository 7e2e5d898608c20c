use Rattle.std.proofs.Common.{◌≡◌, ◌∙◌, List, Some, None, length, ap, sym, subst, arith}
use Rattle.scm_layout.specs.declared.file_rows.FileRows.{FileRows}
use Rattle.scm_layout.specs.Refolds.{AreRowsButKey, AreRowsOfFiles, file_index}
use Rattle.scm_layout.specs.Rows.{each_file_rows, file_key_of, stacked}
use Rattle.scm_layout.proofs.FoldLemmas.{none-is, past-is, ready-key, same-stacked, same-total, set-stacked, set-total}
use Rattle.scm_layout.proofs.StackLemmas.{file-within, files-length, rows-of-files}
use Rattle.scm_layout.proofs.state_rows.refold_at.Goals as goal

pub bounds-rows-file_idx : goal.bounds-rows-file_idx
bounds-rows-file_idx c =
    let h = c.requires in
    let files = c.args.files.now in
    let all : AreRowsOfFiles (stacked h.top (each_file_rows h.before c.args.commit_idx 0 files)) files = rows-of-files h.before c.args.commit_idx h.top files h.fits in
    let counted : length (stacked h.top (each_file_rows h.before c.args.commit_idx 0 files)) ≡ length files = files-length (stacked h.top (each_file_rows h.before c.args.commit_idx 0 files)) files all.lengths in
    let rows : length c.args.rows.now ≡ length (stacked h.top (each_file_rows h.before c.args.commit_idx 0 files)) = ap (λ (rs : List FileRows). length rs) h.is_it in
    omega arith

pub refold_key-requires : goal.refold_key-requires
refold_key-requires c =
    let h = c.requires in
    let files = c.args.files.now in
    let i = c.in-Some.file_idx in
    let f = c.index-files-file_idx.result in
    let found : file_index c.args.commit_idx c.args.key ≡ Some i = sym c.file_index.ensures ∙ c.in-Some.is in
    let small = file-within i files f c.if-file_idx-files.true c.index-files-file_idx.is h.fits in
    let mine = ready-key c.args.rows.now c.args.set.now c.args.commit_idx files c.args.key h i f c.index-rows-file_idx.result c.if-file_idx-files.true c.index-files-file_idx.is c.index-rows-file_idx.is found small in
    record { rows = subst (λ (r : FileRows). AreRowsButKey r c.args.set.now (file_key_of c.args.commit_idx i) f c.args.key) c.index-rows-file_idx.is mine }

pub returns-then-file_idx-files : goal.returns-then-file_idx-files
returns-then-file_idx-files c =
    let found : file_index c.args.commit_idx c.args.key ≡ Some c.in-Some.file_idx = sym c.file_index.ensures ∙ c.in-Some.is in
    record {
      stacked = set-stacked c.args.rows.now c.args.set.now c.args.commit_idx c.args.files.now c.args.key c.requires c.in-Some.file_idx found c.index-files-file_idx.result c.refold_key.new.self c.if-file_idx-files.true c.index-files-file_idx.is c.refold_key.ensures;
      height = set-total c.args.rows.now c.args.set.now c.args.commit_idx c.args.files.now c.args.key c.requires c.in-Some.file_idx found c.index-files-file_idx.result c.refold_key.new.self c.if-file_idx-files.true c.index-files-file_idx.is c.refold_key.ensures;
    }

pub returns-else-file_idx-files : goal.returns-else-file_idx-files
returns-else-file_idx-files c =
    let found : file_index c.args.commit_idx c.args.key ≡ Some c.in-Some.file_idx = sym c.file_index.ensures ∙ c.in-Some.is in
    let same = past-is c.args.rows.now c.args.set.now c.args.commit_idx c.args.files.now c.args.key c.requires c.in-Some.file_idx found c.if-file_idx-files.false in
    record {
      stacked = same-stacked c.args.rows.now c.args.set.now c.args.commit_idx c.args.files.now c.args.key c.requires same;
      height = same-total c.args.rows.now c.args.set.now c.args.commit_idx c.args.files.now c.args.key c.requires same;
    }

pub returns-in_default : goal.returns-in_default
returns-in_default c =
    let none : file_index c.args.commit_idx c.args.key ≡ None = sym c.file_index.ensures ∙ c.in_default.is in
    let same = none-is c.args.rows.now c.args.set.now c.args.commit_idx c.args.files.now c.args.key c.requires none in
    record {
      stacked = same-stacked c.args.rows.now c.args.set.now c.args.commit_idx c.args.files.now c.args.key c.requires same;
      height = same-total c.args.rows.now c.args.set.now c.args.commit_idx c.args.files.now c.args.key c.requires same;
    }
