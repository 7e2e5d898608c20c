use Rattle.std.proofs.Common.{◌≡◌, ◌+◌, ◌++◌, drop}
use Rattle.scm_document.specs.ViewPieces.{files_height}
use Rattle.scm_document.specs.Pieces.{files_pieces}
use Rattle.scm_document.proofs.commit_view.push_pieces.Given as goal

-- what was added, and what is left to add
abbrev pub invariant-loop-view : goal.invariant-loop-view
invariant-loop-view l =
    record {
      added : l.pieces.items ++ files_pieces l.pinned l.row (drop l.view-index l.views) ≡ l.fn.pieces.items ++ files_pieces l.pinned l.fn.top l.views;
      left : l.row + files_height (drop l.view-index l.views) ≡ l.fn.top + files_height l.views;
    }
