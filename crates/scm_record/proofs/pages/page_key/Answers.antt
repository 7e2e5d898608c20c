use Rattle.std.proofs.Common.{◌≡◌, ◌∙◌, ap, sym, refl, true, false}
use Rattle.std.specs.Prelude.{is_some, position}
use Rattle.scm_selection.specs.KeySet.{has_key, is_key}
use Rattle.scm_selection.specs.KeyLists.{is_visible, visible_keys}
use Rattle.scm_selection.proofs.WalkLemmas.{Once, once-kept}
use Rattle.scm_record.specs.Pages.{page_from, towards}
use Rattle.scm_record.proofs.PageLemmas.{among-towards, page-there, page-away}
use Rattle.scm_record.proofs.pages.page_key.Goals as goal

pub returns-in-None : goal.returns-in-None
returns-in-None c = λ scene shown.
    let ks = towards c.args.way (visible_keys (has_key c.args.expanded.now) c.args.files.now) in
    ap (λ top. page_from scene c.args.way ks c.args.key top (position (is_key c.args.key) ks)) (c.in-None.ensures scene shown)

pub returns-then-is_visible_key : goal.returns-then-is_visible_key
returns-then-is_visible_key c = λ scene shown.
    let visible = visible_keys (has_key c.args.expanded.now) c.args.files.now in
    let ks = towards c.args.way visible in
    let once : Once visible = once-kept (is_visible (has_key c.args.expanded.now)) c.args.files.now in
    let there : is_some (position (is_key c.args.key) ks) ≡ true = among-towards c.args.way visible once c.args.key ∙ sym c.is_visible_key.ensures ∙ c.if-is_visible_key.true in
    c.walk.ensures scene shown
    ∙ sym (page-there scene c.args.way ks c.args.key c.in-Some.row (sym (c.in-Some.ensures scene shown)) (position (is_key c.args.key) ks) refl there)

pub returns-else-is_visible_key : goal.returns-else-is_visible_key
returns-else-is_visible_key c = λ scene shown.
    let visible = visible_keys (has_key c.args.expanded.now) c.args.files.now in
    let ks = towards c.args.way visible in
    let once : Once visible = once-kept (is_visible (has_key c.args.expanded.now)) c.args.files.now in
    let away : is_some (position (is_key c.args.key) ks) ≡ false = among-towards c.args.way visible once c.args.key ∙ sym c.is_visible_key.ensures ∙ c.if-is_visible_key.false in
    sym (page-away scene c.args.way ks c.args.key c.in-Some.row (sym (c.in-Some.ensures scene shown)) (position (is_key c.args.key) ks) refl away)
