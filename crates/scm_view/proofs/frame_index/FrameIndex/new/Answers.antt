use Rattle.std.proofs.Common.{◌∙◌, ◌+◌, ap, get_or, List, arith}
use Rattle.std.specs.List.{flat_map}
use Rattle.scm_types.proofs.LimitLemmas.{scroll_room}
use Rattle.scm_document.specs.declared.commit_view.CommitView.{CommitView}
use Rattle.scm_document.specs.DocumentRows.{rows_of_key}
use Rattle.scm_document.specs.Pieces.{piece_places, pieces_among}
use Rattle.scm_view.proofs.AppRangeLemmas.{bar-in, screen-in}
use Rattle.scm_view.proofs.FrameIndexLemmas.{bar-few, index-few, shows-first, answers-owner, index-span, answers-extent, some-help}
use Rattle.scm_view.proofs.frame_index.FrameIndex.new.Goals as goal

pub push_pieces-requires : goal.push_pieces-requires
push_pieces-requires c =
    let v = c.index-as_slice-0.result in
    let first = c.index-as_slice-0.is ∙ ap (λ (vs : List CommitView). get_or vs 0 v) c.as_slice.ensures in
    let shows = shows-first c.args.view.now c.requires.shows.shown c.args.width c.args.height v c.requires.shows.plain first in
    rw (c.height-message.ensures, c.as_slice-views.ensures) (index-few c.requires.shows.shown v c.requires.shows.accepted shows)

pub push_rects-requires-2-clause-screen : goal.push_rects-requires-2-clause-screen
push_rects-requires-2-clause-screen c =
    let plain = c.requires.shows.plain in
    rw c.screen-screen.ensures (screen-in c.args.width c.args.height c.args.scroll plain.width plain.height c.requires.shows.scroll)

pub push_rects-requires-2-clause-picture : goal.push_rects-requires-2-clause-picture
push_rects-requires-2-clause-picture c =
    let plain = c.requires.shows.plain in
    rw c.screen-screen.ensures (bar-in c.args.width c.args.height c.args.scroll c.args.view.now.menu_bar c.requires.shows.shown.open_menu plain.shows.menu_bar plain.width plain.height c.requires.shows.scroll)

pub push_quit-requires : goal.push_quit-requires
push_quit-requires c =
    let plain = c.requires.shows.plain in
    rw c.screen-screen.ensures (screen-in c.args.width c.args.height c.args.scroll plain.width plain.height c.requires.shows.scroll)

pub push_help-requires : goal.push_help-requires
push_help-requires c =
    let plain = c.requires.shows.plain in
    rw c.screen-screen.ensures (screen-in c.args.width c.args.height c.args.scroll plain.width plain.height c.requires.shows.scroll)

pub overflow_add-scroll-4 : goal.overflow_add-scroll-4
overflow_add-scroll-4 c =
    let few = bar-few c.args.view.now.menu_bar c.requires.shows.shown.open_menu c.requires.shows.plain.shows.menu_bar in
    omega (arith, few, c.in_ok-bar.ensures.rows, c.requires.shows.scroll, scroll_room)

pub returns-clause-ok : goal.returns-clause-ok
returns-clause-ok c = λ shown plain.
    let a = c.args.view.now in
    let w = c.args.width in
    let h = c.args.height in
    let s = c.args.scroll in
    let v = c.index-as_slice-0.result in
    let first = c.index-as_slice-0.is ∙ ap (λ (vs : List CommitView). get_or vs 0 v) c.as_slice.ensures in
    let shows = shows-first a shown w h v plain first in
    let made = rw (c.new-pieces.ensures.items, c.height-message.ensures, c.as_slice-views.ensures) at c.in_ok-end.ensures.ok in
    let m0 = rw c.new-rects.ensures.items at c.in_ok-push_rects.ensures.ok in
    let m1 = rw c.from-columns.ensures at c.in_ok-push_pinned.ensures.ok in
    let over = rw c.deref.ensures.value at c.pieces_among-pinned.ensures in
    let m2 = rw (c.screen-screen.ensures, plain.shows.menu_bar) at c.in_ok-bar.ensures.ok in
    let m3 = rw (c.screen-screen.ensures, plain.shows.quit_dialog) at c.in_ok-quit.ensures.ok in
    let is-open = c.is_some-is_help_open.ensures ∙ some-help a.help_dialog ∙ plain.shows.help_dialog in
    let m4 = rw (c.screen-screen.ensures, is-open) at c.in_ok-help.ensures.ok in
    let bar = rw plain.shows.menu_bar at c.in_ok-bar.ensures.rows in
    let run = rw (c.joined_with.ensures, c.joined.ensures, c.document_run-document.ensures, c.saturating_sub-rows.ensures, c.from.ensures) at c.joined_with-run.ensures in
    let empty = rw c.as_slice-views.ensures at c.is_empty.ensures in
    let end = rw (c.height-message.ensures, c.as_slice-views.ensures) at c.in_ok-end.ensures.end in
    record {
      owner = λ y x. answers-owner w h s y x shown v c.push_rects.new.rects.items c.push_pinned.new.rects.items c.push_rects-2.new.rects.items c.push_quit.new.rects.items c.push_help.new.rects.items
          c.pieces_among-pinned.result (pieces_among y c.push_pieces.new.pieces.items) plain.wide plain.high shows m0 m1 m2 m3 m4 (over ∙ ap (pieces_among (s + 1)) made) (ap (pieces_among y) made);
      span = λ k. ap (λ ps. rows_of_key k (flat_map piece_places ps)) made ∙ index-span (s + 1) shown v k shows;
      extent = c.saturating_sub-extent.ensures ∙ answers-extent w h s shown v c.joined_with-run.result (s + c.in_ok-bar.bar) c.height-message.result c.in_ok-end.end c.is_empty.result c.in_ok-quit.quit c.in_ok-help.help plain.high shows
          run (ap (λ n. s + n) bar) c.height-message.ensures empty end (rw (c.screen-screen.ensures, plain.shows.quit_dialog) at c.in_ok-quit.ensures.rows) (rw (c.screen-screen.ensures, is-open) at c.in_ok-help.ensures.rows);
    }
