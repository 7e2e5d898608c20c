use Rattle.std.proofs.Common.{◌≡◌, ◌∷◌, ◌∙◌, ap, sym, refl, true, false}
use Rattle.scm_selection.specs.KeySet.{has_key, is_key}
use Rattle.scm_selection.specs.KeyLists.{is_visible, visible_keys}
use Rattle.scm_selection.specs.Moves.{keys_behind, next_key}
use Rattle.scm_selection.proofs.WalkLemmas.{Once, once-kept, step-stays, step-goes}
use Rattle.scm_record.specs.Pages.{is_page_away, towards}
use Rattle.scm_record.proofs.PageLemmas.{once-towards, walked-end, walked-here, walked-on, fewer-left}
use Rattle.scm_record.proofs.pages.walk.Goals as goal

pub steps-init : goal.steps-init
steps-init c = λ scene shown. refl

pub returns-then-is_key : goal.returns-then-is_key
returns-then-is_key c = λ scene shown.
    let ks = towards c.args.way (visible_keys (has_key c.args.expanded.now) c.args.files.now) in
    let once : Once ks = once-towards c.args.way (visible_keys (has_key c.args.expanded.now) c.args.files.now) (once-kept (is_visible (has_key c.args.expanded.now)) c.args.files.now) in
    let key = c.steps.key in
    let stays : is_key key (next_key ks key key) ≡ true = ap (is_key key) (sym c.next_towards-next.ensures) ∙ sym c.is_key.ensures ∙ c.if-is_key.true in
    sym (walked-end (is_page_away scene c.args.way c.args.row) key (keys_behind ks key) (step-stays ks once key stays))
    ∙ c.steps.invariant scene shown

pub returns-then-is_page_away : goal.returns-then-is_page_away
returns-then-is_page_away c = λ scene shown.
    let ks = towards c.args.way (visible_keys (has_key c.args.expanded.now) c.args.files.now) in
    let once : Once ks = once-towards c.args.way (visible_keys (has_key c.args.expanded.now) c.args.files.now) (once-kept (is_visible (has_key c.args.expanded.now)) c.args.files.now) in
    let key = c.steps.key in
    let next = c.next_towards-next.result in
    let goes : is_key key (next_key ks key key) ≡ false = ap (is_key key) (sym c.next_towards-next.ensures) ∙ sym c.is_key.ensures ∙ c.if-is_key.false in
    let left : keys_behind ks key ≡ next ∷ keys_behind ks next = step-goes ks once key goes ∙ ap (λ n. n ∷ keys_behind ks n) (sym c.next_towards-next.ensures) in
    let far = sym (c.is_page_away.ensures scene shown) ∙ c.if-is_page_away.true in
    sym (walked-here (is_page_away scene c.args.way c.args.row) key (keys_behind ks key) (keys_behind ks next) next left far)
    ∙ c.steps.invariant scene shown

pub steps-preserved : goal.steps-preserved
steps-preserved c = λ scene shown.
    let ks = towards c.args.way (visible_keys (has_key c.args.expanded.now) c.args.files.now) in
    let once : Once ks = once-towards c.args.way (visible_keys (has_key c.args.expanded.now) c.args.files.now) (once-kept (is_visible (has_key c.args.expanded.now)) c.args.files.now) in
    let key = c.steps.key in
    let next = c.next_towards-next.result in
    let goes : is_key key (next_key ks key key) ≡ false = ap (is_key key) (sym c.next_towards-next.ensures) ∙ sym c.is_key.ensures ∙ c.if-is_key.false in
    let left : keys_behind ks key ≡ next ∷ keys_behind ks next = step-goes ks once key goes ∙ ap (λ n. n ∷ keys_behind ks n) (sym c.next_towards-next.ensures) in
    let near = sym (c.is_page_away.ensures scene shown) ∙ c.if-is_page_away.false in
    sym (walked-on (is_page_away scene c.args.way c.args.row) key (keys_behind ks key) (keys_behind ks next) next left near)
    ∙ c.steps.invariant scene shown

pub steps-smaller : goal.steps-smaller
steps-smaller c =
    let ks = towards c.args.way (visible_keys (has_key c.args.expanded.now) c.args.files.now) in
    let once : Once ks = once-towards c.args.way (visible_keys (has_key c.args.expanded.now) c.args.files.now) (once-kept (is_visible (has_key c.args.expanded.now)) c.args.files.now) in
    let key = c.steps.key in
    let next = c.next_towards-next.result in
    let goes : is_key key (next_key ks key key) ≡ false = ap (is_key key) (sym c.next_towards-next.ensures) ∙ sym c.is_key.ensures ∙ c.if-is_key.false in
    let left : keys_behind ks key ≡ next ∷ keys_behind ks next = step-goes ks once key goes ∙ ap (λ n. n ∷ keys_behind ks n) (sym c.next_towards-next.ensures) in
    fewer-left (keys_behind ks key) (keys_behind ks next) next left
