use Rattle.std.proofs.Common.{◌∙◌, ◌+◌, ap, arith, refl}
use Rattle.std.specs.Prelude.{◌++◌, if◌then◌else◌, is_some, None, Some, option_map}
use Rattle.scm_types.proofs.LimitLemmas.{scroll_room}
use Rattle.scm_widgets.specs.Screens.{screen}
use Rattle.scm_document.specs.HeaderRects.{message_rects}
use Rattle.scm_rows.specs.Heights.{message_height}
use Rattle.scm_overlay.specs.OverlayRects.{dialog_run, help_dialog_rects, quit_dialog_rects}
use Rattle.scm_overlay.specs.Tables.{help_dialog, quit_dialog}
use Rattle.scm_view.specs.ViewState.{ViewState, commit_at, commit_view_of}
use Rattle.scm_view.proofs.AppRangeLemmas.{bar-in, screen-in}
use Rattle.scm_view.proofs.FrameIndexLemmas.{answers-extent, answers-owner, bar-few}
use Rattle.scm_layout_index.specs.RowPieces.{pieces_on}
use Rattle.scm_layout_index.proofs.AnswerLemmas.{files-empty, files-end, found-pieces, new-span}
use Rattle.scm_layout_index.proofs.layout_index.LayoutIndex.new.Goals as goal

pub push_rects-requires-clause-screen : goal.push_rects-requires-clause-screen
push_rects-requires-clause-screen c =
    let is = c.requires.shown in
    rw c.screen-screen.ensures (screen-in c.args.width c.args.height c.args.scroll is.width is.height is.scroll)

pub push_rects-requires-clause-picture : goal.push_rects-requires-clause-picture
push_rects-requires-clause-picture c =
    let is = c.requires.shown in
    rw c.screen-screen.ensures (bar-in c.args.width c.args.height c.args.scroll c.args.menu_bar.now c.args.view_state.now.open_menu c.requires.bar is.width is.height is.scroll)

pub push_quit-requires : goal.push_quit-requires
push_quit-requires c =
    let is = c.requires.shown in
    rw c.screen-screen.ensures (screen-in c.args.width c.args.height c.args.scroll is.width is.height is.scroll)

pub push_help-requires : goal.push_help-requires
push_help-requires c =
    let is = c.requires.shown in
    rw c.screen-screen.ensures (screen-in c.args.width c.args.height c.args.scroll is.width is.height is.scroll)

pub overflow_add-scroll-4 : goal.overflow_add-scroll-4
overflow_add-scroll-4 c =
    let few = bar-few c.args.menu_bar.now c.args.view_state.now.open_menu c.requires.bar in
    omega (arith, few, c.in_ok-bar.ensures.rows, c.requires.shown.scroll, scroll_room)

pub returns-clause-ok : goal.returns-clause-ok
returns-clause-ok c =
    let w = c.args.width in
    let h = c.args.height in
    let s = c.args.scroll in
    let shown = c.args.view_state.now in
    let rows = c.args.rows in
    let is = c.requires.shown in
    let same = c.view_state.view_is in
    let m0 = rw c.new-rects.ensures.items at c.in_ok-message.ensures.ok in
    let e0 = m0 ∙ ap (λ (v : ViewState). message_rects 0 (is_some (commit_at 0 v.state.commits).message)) same in
    let e1 = (rw (c.from-columns.ensures, c.pieces_on-pinned.ensures) at c.in_ok-push_pinned.ensures.ok) in
    let e2 = rw (c.screen-screen.ensures, c.requires.bar) at c.in_ok-bar.ensures.ok in
    let m3 = rw c.screen-screen.ensures at c.in_ok-quit.ensures.ok in
    let e3 = m3 ∙ ap (λ (v : ViewState). c.push_rects.new.rects.items ++ quit_dialog_rects (screen w h s) v.quit_dialog) same in
    let m4 = rw c.screen-screen.ensures at c.in_ok-help.ensures.ok in
    let e4 = m4 ∙ ap (λ (v : ViewState). c.push_quit.new.rects.items ++ help_dialog_rects (screen w h s) v.is_help_open) same in
    let run = rw (c.joined_with.ensures, c.joined.ensures, c.document_run-document.ensures, c.saturating_sub-below.ensures, c.from.ensures) at c.joined_with-run.ensures in
    let bar = rw c.requires.bar at c.in_ok-bar.ensures.rows in
    let message = c.in_ok-message.ensures.rows ∙ ap (λ (v : ViewState). message_height (commit_at 0 v.state.commits).message) same in
    let empty = rw c.layout_rows.ensures.rows at c.is_empty.ensures in
    let end = rw c.layout_rows.ensures.rows at c.end_of_files-end.ensures in
    let quit = (rw c.screen-screen.ensures at c.in_ok-quit.ensures.rows) ∙ ap (λ (v : ViewState). option_map (λ q. dialog_run (screen w h s) (quit_dialog q)) v.quit_dialog) same in
    let help = (rw c.screen-screen.ensures at c.in_ok-help.ensures.rows) ∙ ap (λ (v : ViewState). if v.is_help_open then Some (dialog_run (screen w h s) help_dialog) else None) same in
    let view = commit_view_of shown 0 in
    let k = c.view_state.inside.selection in
    let selected = ap (λ (v : ViewState). v.selection) same in
    record {
      width = refl;
      owner = λ y x. rw c.new-overlays.ensures (answers-owner w h s y x shown view c.push_message.new.rects.items c.push_pinned.new.rects.items c.push_rects.new.rects.items c.push_quit.new.rects.items c.push_help.new.rects.items
          (pieces_on k (s + 1) (s + 1) rows.files) (pieces_on k (s + 1) y rows.files) is.wide is.high refl e0 e1 e2 e3 e4
          (found-pieces shown rows c.requires.rows (s + 1) (s + 1) k selected) (found-pieces shown rows c.requires.rows (s + 1) y k selected));
      span = λ k. new-span shown rows k c.requires.rows;
      extent = c.saturating_sub.ensures ∙ answers-extent w h s shown view c.joined_with-run.result (s + c.in_ok-bar.bar) c.in_ok-message.message c.end_of_files-end.result c.is_empty.result c.in_ok-quit.quit c.in_ok-help.help is.high refl
          run (ap (λ n. s + n) bar) message (empty ∙ files-empty shown rows c.requires.rows) (end ∙ files-end shown rows c.requires.rows c.in_ok-message.message message) quit help;
    }
