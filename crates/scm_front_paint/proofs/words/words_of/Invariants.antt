use Rattle.std.proofs.Common.{◌≡◌, ◌<◌, ◌≤◌, ℕ, length, get_or, None}
use Rattle.scm_record.specs.Frames.{columns_of}
use Rattle.scm_front_paint.specs.Words.{AreColumnsFor, pair_on}
use Rattle.scm_front_paint.specs.WordsView.{IsStretch, columns_in}
use Rattle.scm_front_paint.proofs.words.words_of.Given as goal

abbrev pub invariant-loop-row : goal.invariant-loop-row
invariant-loop-row l = record {
  many : length l.words.items ≡ l.row;
  on : (k : ℕ) → k < length l.words.items → AreColumnsFor (columns_of l.session.kind) (pair_on l.session k) (columns_in (get_or l.words.items k None));
  stretch : IsStretch l.session l.stretch;
  top : l.stretch.top ≤ l.row;
}
