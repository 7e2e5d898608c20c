-- Deeds, and events that fold all: the session waits after each.
use Rattle.std.proofs.Common.{◌≡◌, Bool, true, false, ◌&&◌, List, [], ◌∷◌, ◌++◌, Option, Some, None, refl, sym, ap, ◌∙◌, subst}
use Rattle.std.proofs.lemmas.List.{append-nil}
use Rattle.std.proofs.lemmas.List.Elements.{All-cons, All-head, All-nil, All-tail}
use Rattle.std.specs.List.{All}
use Rattle.std.specs.Prelude.{not, is_some, if◌then◌else◌}
use Rattle.scm_errors.specs.declared.error.RecordError.{RecordError}
use Rattle.scm_errors.specs.declared.error.RecordError.TheVariants.{OutOfMemory}
use Rattle.scm_types.specs.Keys.{file_of}
use Rattle.scm_types.specs.declared.keys.SelectionKey.{SelectionKey}
use Rattle.scm_view.specs.ViewState.{ViewState}
use Rattle.scm_selection.specs.KeyLists.{all_keys}
use Rattle.scm_selection.specs.KeySet.{is_same_set, key_set}
use Rattle.scm_selection.proofs.KeyOrderLemmas.{same-list, same-self}
use Rattle.scm_input.specs.declared.events.Event.{Event}
use Rattle.scm_input.specs.declared.events.Event.TheVariants as events
use Rattle.scm_record.specs.Live.{Live}
use Rattle.scm_record.specs.Jumps.{after_jump, after_selecting}
use Rattle.scm_record.specs.LiveCalls.{Call, EventFails, EventLeads, Path, press, press_all, resize, say, still}
use Rattle.scm_record.specs.Typed.{is_waiting}
use Rattle.scm_record.specs.declared.live.Turn.{Turn}
use Rattle.scm_record.specs.declared.live.Turn.TheVariants.{Waiting, Editing, Accepted}
use Rattle.scm_front_items.specs.declared.targets.Deed.{Deed}
use Rattle.scm_front_items.specs.declared.targets.Deed.TheVariants.{Mark, Fold}
use Rattle.scm_front_items.specs.Plans.{file_folds, fold_of, is_folded, section_around, section_folds}
use Rattle.scm_front_items.specs.Targets.{key_of}
use Rattle.scm_front.specs.Deeds.{is_due, event_of, DeedDone, DeedsLead, done, skips, does, ends, RoundLeads, returns, leaves}
use Rattle.scm_front.specs.Presses.{PressesFail, PressesLead, calls_of}
use Rattle.scm_front.specs.Starting.{AreFolds, Fits, FoldsUnlessShown, IsFold, IsRefolded, Refolds, Starts, TriesAll, Unfolds, UnfoldsAs, cannot_fit, fold_events, folds_again, items_of, stays, unfolded_keys}
use Rattle.scm_front.specs.declared.starting.Folds.{Folds}
use Rattle.scm_front.proofs.OutcomeLemmas.{IsRefoldedView, Waits, expand-item, flip-all, flipped-refolds, flipped_view, folds-via, jump-refolds, memory-alone, one-turn, same-folds, selecting-refolds, toggle-item, via-view}
use Rattle.scm_front.proofs.RangeLemmas.{is-true-left, selected}
use Rattle.scm_front.proofs.RememberLemmas.{calm-path}
use Rattle.scm_front.proofs.TurnLemmas.{one-live}

-- ---- a deed

closed-of : {X : Type 0} (dialog : Option X) (has : Bool) → (not (is_some dialog) && has) ≡ true → dialog ≡ None
closed-of None has e = refl
closed-of (Some dialog) has e = absurd (cc e)

-- a deed that is due leads to a session that waits
deed-waits : (l : Live) (deed : Deed) → is_due l deed ≡ true → Waits (after_selecting l (key_of deed)) (event_of deed)
deed-waits l (Mark t) due =
    let can = is-true-left _ _ due in
    subst (λ (x : Live). Waits x events.ToggleItem) (sym (selected l t.key can))
    (toggle-item (after_jump l t.key) refl (closed-of l.session.shown.quit_dialog _ can))
deed-waits l (Fold key) due =
    let c = expand-item (after_jump l key) refl in
    subst (λ (x : Live). Waits x events.ExpandItem) (sym (selected l key (is-true-left _ _ due))) (c.next, c.leads)

-- and fails for memory alone
pub deed-memory : (l mid : Live) (deed : Deed) (key : SelectionKey) (event : Event) (error : RecordError) → key ≡ key_of deed → event ≡ event_of deed
    → mid ≡ after_selecting l key → is_due l deed ≡ true → EventFails mid event error → error ≡ OutOfMemory
deed-memory l mid deed key event error k v m due h =
    let w = deed-waits l deed due in
    let at : mid ≡ after_selecting l (key_of deed) = m ∙ ap (λ (x : SelectionKey). after_selecting l x) k in
    let same_event = subst (λ (x : Event). EventFails mid x error) v h in
    memory-alone _ w.0 _ w.1 error (subst (λ (x : Live). EventFails x (event_of deed) error) at same_event)

-- ---- deeds

no-end : (turn : Turn) (next : Live) → turn ≡ Waiting next → is_waiting turn ≡ false → ⊥
no-end turn next e f = no (subst (λ (t : Turn). is_waiting t ≡ false) e f)
  where
    no : true ≡ false → ⊥
    no q = cc q

never-ends : (l : Live) (deed : Deed) (turn : Turn) → is_due l deed ≡ true → DeedDone l deed turn → is_waiting turn ≡ false → ⊥
never-ends l deed turn due d e = let w = deed-waits l deed due in no-end turn w.0 (one-turn _ w.0 _ turn w.1 d.event) e

-- the session waits after deeds
deeds-wait : {l : Live} {deeds : List Deed} {calls : List Call} {turn : Turn} → DeedsLead l deeds calls turn → (next : Live) × (turn ≡ Waiting next)
deeds-wait (done {l = l}) = (l, refl)
deeds-wait (skips due later) = deeds-wait later
deeds-wait (does due d later) = deeds-wait later
deeds-wait (ends {l = l} {deed = deed} {turn = turn} due d e) = absurd (never-ends l deed turn due d e)

-- ---- folds

refolds-via : (first mid : Live) (turn : Turn) → IsRefolded first mid → Refolds mid turn → Refolds first turn
refolds-via first mid (Waiting last) e h = folds-via first mid last e h
refolds-via first mid (Editing a) e h = h
refolds-via first mid (Accepted state) e h = h

deed-refolds : (l next : Live) (deed : Deed) → IsFold deed → is_due l deed ≡ true → DeedDone l deed (Waiting next) → IsRefolded l next
deed-refolds l next (Mark t) fold due d = absurd (fold t refl)
deed-refolds l next (Fold key) fold due d =
    let same = selected l key (is-true-left _ _ due) in
    let g = subst (λ (x : Live). EventLeads x events.ExpandItem (Waiting next)) same d.event in
    let c = expand-item (after_jump l key) refl in
    let is = one-live (after_jump l key) next c.next events.ExpandItem g c.leads in
    subst (λ (x : Live). IsRefolded l x) (sym is) (folds-via l (after_jump l key) c.next (jump-refolds l key) c.refolded)

deeds-refold : {l : Live} {deeds : List Deed} {calls : List Call} {turn : Turn} → DeedsLead l deeds calls turn → AreFolds deeds → Refolds l turn
deeds-refold (done {l = l}) h = same-folds l
deeds-refold (skips {deed = deed} {deeds = deeds} due later) h = deeds-refold later (All-tail IsFold deed deeds h)
deeds-refold (does {l = l} {next = next} {deed = deed} {deeds = deeds} {turn = turn} due d later) h =
    refolds-via l next turn (deed-refolds l next deed (All-head IsFold deed deeds h) due d) (deeds-refold later (All-tail IsFold deed deeds h))
deeds-refold (ends {l = l} {deed = deed} {turn = turn} due d e) h = absurd (never-ends l deed turn due d e)

pub round-refolds : {l : Live} {deeds : List Deed} {back : SelectionKey} {calls : List Call} {turn : Turn} → RoundLeads l deeds back calls turn
    → AreFolds deeds → Refolds l turn
round-refolds (returns {l = l} {mid = mid} {back = back} d j) h = folds-via l mid (after_selecting mid back) (deeds-refold d h) (selecting-refolds mid back)
round-refolds (leaves {turn = turn} d e) h = let w = deeds-wait d in absurd (no-end turn w.0 w.1 e)

-- ---- events that fold all

abbrev pub IsFlip : Event → Type 0
IsFlip event = event ≡ events.ExpandAll

all-first : (xs ys : List Event) → All IsFlip (xs ++ ys) → All IsFlip xs
all-first [] ys h = All-nil IsFlip
all-first (x ∷ xs) ys h = All-cons IsFlip x xs (All-head IsFlip x (xs ++ ys) h) (all-first xs ys (All-tail IsFlip x (xs ++ ys) h))

all-middle : (xs ys : List Event) (y : Event) → All IsFlip (xs ++ (y ∷ ys)) → IsFlip y
all-middle [] ys y h = All-head IsFlip y ys h
all-middle (x ∷ xs) ys y h = all-middle xs ys y (All-tail IsFlip x (xs ++ (y ∷ ys)) h)

-- what is unfolded after events that fold all

abbrev flips : List Event → ViewState → ViewState
flips [] view = view
flips (event ∷ list) view = flips list (flipped_view view)

-- the session waits on the same screen, with this view state
record Shows (l : Live) (turn : Turn) (view : ViewState) : Type 0 where
  pub next : Live
  pub waits : turn ≡ Waiting next
  pub kind : next.kind ≡ l.kind
  pub shown : next.session.shown ≡ view

path-flips : (es : List Event) (l : Live) {t u : Turn} {calls : List Call} → Path t calls u → t ≡ Waiting l → calls ≡ calls_of es → All IsFlip es
    → l.session.pending ≡ [] → Shows l u (flips es l.session.shown)
path-flips [] l still same e all calm = record { next = l; waits = same; kind = refl; shown = refl }
path-flips (x ∷ es) l still same e all calm = absurd (cc e)
path-flips [] l (press g p) same e all calm = absurd (cc e)
path-flips (x ∷ es) l (press {l = k} {event = event} {turn = turn} {last = last} {calls = more} g p) same e all calm =
    let is : k ≡ l = cc same in
    let flip : event ≡ events.ExpandAll = (let first : event ≡ x = cc e in first ∙ All-head IsFlip x es all) in
    let rest : more ≡ calls_of es = cc e in
    let c = flip-all l calm in
    let led = subst (λ (v : Event). EventLeads l v turn) flip (subst (λ (y : Live). EventLeads y event turn) is g) in
    let waits = one-turn l c.next events.ExpandAll turn c.leads led in
    let later = path-flips es c.next p waits rest (All-tail IsFlip x es all) (c.leads [] [] 0).2 in
    record {
      next = later.next;
      waits = later.waits;
      kind = later.kind ∙ c.kind;
      shown = later.shown ∙ ap (λ (view : ViewState). flips es view) c.shown;
    }
path-flips [] l (press_all g p) same e all calm = absurd (cc e)
path-flips (x ∷ es) l (press_all g p) same e all calm = absurd (cc e)
path-flips [] l (say g p) same e all calm = absurd (cc e)
path-flips (x ∷ es) l (say g p) same e all calm = absurd (cc e)
path-flips [] l (resize p) same e all calm = absurd (cc e)
path-flips (x ∷ es) l (resize p) same e all calm = absurd (cc e)

presses-show : (l : Live) (list : List Event) (turn : Turn) → l.session.pending ≡ [] → All IsFlip list → (h : PressesLead l list turn)
    → Shows l turn (flips h.handled l.session.shown)
presses-show l list turn calm all h =
    path-flips h.handled l h.path refl refl (all-first h.handled h.dropped (subst (All IsFlip) h.are all)) calm

flips-refold : (es : List Event) (view : ViewState) → IsRefoldedView view (flips es view)
flips-refold [] view = refl
flips-refold (x ∷ es) view =
    via-view view (flipped_view view) (flips es (flipped_view view)) (flipped-refolds view) (flips-refold es (flipped_view view))

pub presses-refold : (l : Live) (list : List Event) (turn : Turn) → l.session.pending ≡ [] → All IsFlip list → PressesLead l list turn → Refolds l turn
presses-refold l list turn calm all h =
    let shows = presses-show l list turn calm all h in
    let view = subst (IsRefoldedView l.session.shown) (sym shows.shown) (flips-refold h.handled l.session.shown) in
    subst (λ (t : Turn). Refolds l t) (sym shows.waits) (record { kind = shows.kind; shown = view })

-- an open quit dialog lets no fold change
flips-under : (es : List Event) (view : ViewState) → is_some view.quit_dialog ≡ true → flips es view ≡ view
flips-under [] view e = refl
flips-under (x ∷ es) view e =
    let same : flipped_view view ≡ view = rw e refl in
    ap (λ (v : ViewState). flips es v) same ∙ flips-under es view e

abbrev every : ViewState → List SelectionKey
every view = key_set (all_keys view.state.files)

flipped-open : (view : ViewState) → is_some view.quit_dialog ≡ false → is_same_set view.expanded (every view) ≡ false
    → flipped_view view ≡ record view { expanded = every view }
flipped-open view e f = rw (e, f) refl

flipped-folded : (view : ViewState) → is_some view.quit_dialog ≡ false → is_same_set view.expanded (every view) ≡ true
    → (flipped_view view).expanded ≡ []
flipped-folded view e f = rw (e, f) refl

unfolds-to : (is_open is_all : Bool) (view : ViewState) → is_some view.quit_dialog ≡ false → is_same_set view.expanded (every view) ≡ is_all
    → (flips (fold_events is_open is_all) view).expanded ≡ (if is_open then every view else [])
unfolds-to true true view e f = same-list view.expanded (every view) f
unfolds-to true false view e f = ap (λ (v : ViewState). v.expanded) (flipped-open view e f)
unfolds-to false true view e f = flipped-folded view e f
unfolds-to false false view e f =
    let unfolded = record view { expanded = every view } in
    ap (λ (v : ViewState). (flipped_view v).expanded) (flipped-open view e f) ∙ flipped-folded unfolded e (same-self (every view))

unfolds-in : (is_open is_all : Bool) (view : ViewState) (dialog : Bool) → is_some view.quit_dialog ≡ dialog → is_same_set view.expanded (every view) ≡ is_all
    → (flips (fold_events is_open is_all) view).expanded ≡ unfolded_keys is_open view
unfolds-in is_open is_all view true e f =
    let under : unfolded_keys is_open view ≡ view.expanded = rw e refl in
    ap (λ (v : ViewState). v.expanded) (flips-under (fold_events is_open is_all) view e) ∙ sym under
unfolds-in is_open is_all view false e f =
    let closed : unfolded_keys is_open view ≡ (if is_open then every view else []) = rw e refl in
    unfolds-to is_open is_all view e f ∙ sym closed

pub are-flips : (is_open is_all : Bool) (list : List Event) → list ≡ fold_events is_open is_all → All IsFlip list
are-flips is_open is_all list e = subst (All IsFlip) (sym e) (each is_open is_all)
  where
    one : All IsFlip (events.ExpandAll ∷ [])
    one = All-cons IsFlip events.ExpandAll [] refl (All-nil IsFlip)

    each : (is_open is_all : Bool) → All IsFlip (fold_events is_open is_all)
    each true true = All-nil IsFlip
    each true false = one
    each false true = one
    each false false = All-cons IsFlip events.ExpandAll (events.ExpandAll ∷ []) refl one

pub presses-unfold : (is_open : Bool) (l : Live) (view : ViewState) (list : List Event) (turn : Turn) → l.session.pending ≡ [] → view ≡ l.session.shown
    → list ≡ fold_events is_open (is_same_set view.expanded (every view)) → PressesLead l list turn → Unfolds is_open l turn
presses-unfold is_open l view list turn calm seen is h =
    let shown = l.session.shown in
    let flipped = are-flips is_open _ list is in
    let shows = presses-show l list turn calm flipped h in
    let waits : is_waiting turn ≡ true = ap is_waiting shows.waits in
    let whole : list ≡ h.handled = h.are ∙ (ap (λ (rest : List Event). h.handled ++ rest) (h.all waits) ∙ append-nil h.handled) in
    let towards : list ≡ fold_events is_open (is_same_set shown.expanded (every shown)) =
    is ∙ ap (λ (v : ViewState). fold_events is_open (is_same_set v.expanded (every v))) seen in
    let all : flips h.handled shown ≡ flips (fold_events is_open (is_same_set shown.expanded (every shown))) shown =
    ap (λ (es : List Event). flips es shown) (sym whole ∙ towards) in
    let expanded = ap (λ (v : ViewState). v.expanded) (shows.shown ∙ all) ∙ unfolds-in is_open _ shown _ refl refl in
    subst (λ (t : Turn). Unfolds is_open l t) (sym shows.waits) expanded

pub presses-memory : (l : Live) (list : List Event) (error : RecordError) → l.session.pending ≡ [] → All IsFlip list → PressesFail l list error → error ≡ OutOfMemory
presses-memory l list error calm all h =
    let flip = all-middle h.handled h.dropped h.event (subst (All IsFlip) h.are all) in
    let c = flip-all h.last (calm-path h.path calm) in
    memory-alone h.last c.next events.ExpandAll c.leads error (subst (λ (v : Event). EventFails h.last v error) flip h.fails)

-- ---- the start

-- ---- what was folded is folded again

one-folds : (is_shut : Bool) (key : SelectionKey) → AreFolds (if is_shut then Fold key ∷ [] else [])
one-folds true key = All-cons IsFold (Fold key) [] (λ t e. cc e) (All-nil IsFold)
one-folds false key = All-nil IsFold

all-fold : (xs ys : List Deed) → AreFolds xs → AreFolds ys → AreFolds (xs ++ ys)
all-fold [] ys h k = k
all-fold (x ∷ xs) ys h k = All-cons IsFold x (xs ++ ys) (All-head IsFold x xs h) (all-fold xs ys (All-tail IsFold x xs h) k)

sections-fold : (expanded ks : List SelectionKey) → AreFolds (section_folds expanded ks)
sections-fold expanded [] = All-nil IsFold
sections-fold expanded (k ∷ ks) =
    let around = section_around k in
    all-fold (fold_of expanded around) (section_folds expanded ks) (one-folds (is_folded expanded around) around) (sections-fold expanded ks)

files-fold : (expanded ks : List SelectionKey) → AreFolds (file_folds expanded ks)
files-fold expanded [] = All-nil IsFold
files-fold expanded (k ∷ ks) =
    let around = file_of k in
    all-fold (fold_of expanded around) (file_folds expanded ks) (one-folds (is_folded expanded around) around) (files-fold expanded ks)

pub again-folds : (expanded ks : List SelectionKey) → AreFolds (folds_again expanded ks)
again-folds expanded ks = all-fold (section_folds expanded ks) (file_folds expanded ks) (sections-fold expanded ks) (files-fold expanded ks)

-- all was unfolded in `mid`, and what follows leads to `last`
pub tries-all : (l mid : Live) (turn last : Turn) (deeds : List Deed) (back : SelectionKey) → turn ≡ Waiting mid → Refolds l turn → Unfolds true l turn
    → deeds ≡ folds_again l.session.shown.expanded (items_of l) → back ≡ l.session.shown.selection → FoldsUnlessShown mid deeds back last
    → TriesAll l last
tries-all l mid turn last deeds back e r u d b h = record {
  whole = mid;
  refolded = subst (λ (t : Turn). Refolds l t) e r;
  unfolded = subst (λ (t : Turn). Unfolds true l t) e u;
  last = subst (λ (list : List Deed). FoldsUnlessShown mid list l.session.shown.selection last) d (subst (λ (key : SelectionKey). FoldsUnlessShown mid deeds key last) b h);
}

pub fits-as-is : (l : Live) (keys : List SelectionKey) (cannot : Bool) → keys ≡ items_of l → cannot ≡ cannot_fit l keys → cannot ≡ true → Fits l (Waiting l)
fits-as-is l keys cannot e c is = stays (sym (ap (λ (ks : List SelectionKey). cannot_fit l ks) e) ∙ (sym c ∙ is)) refl

pub could-fit : (l : Live) (keys : List SelectionKey) (cannot : Bool) → keys ≡ items_of l → cannot ≡ cannot_fit l keys → cannot ≡ false
    → cannot_fit l (items_of l) ≡ false
could-fit l keys cannot e c is = sym (ap (λ (ks : List SelectionKey). cannot_fit l ks) e) ∙ (sym c ∙ is)

pub unfolds-none : (is_open : Bool) (l : Live) (turn last : Turn) → turn ≡ last → Unfolds is_open l turn → Unfolds is_open l last
unfolds-none is_open l turn last e h = subst (λ (t : Turn). Unfolds is_open l t) e h

pub are-folds : (list deeds : List Deed) → list ≡ deeds → AreFolds deeds → AreFolds list
are-folds list deeds e h = subst AreFolds (sym e) h

pub refolds-then : (l mid : Live) (turn last : Turn) → turn ≡ Waiting mid → Refolds l turn → Refolds mid last → Refolds l last
refolds-then l mid turn last e h k = refolds-via l mid last (subst (λ (t : Turn). Refolds l t) e h) k

pub refolds-same : (l : Live) (turn last : Turn) → turn ≡ last → Refolds l turn → Refolds l last
refolds-same l turn last e h = subst (λ (t : Turn). Refolds l t) e h

pub starts-with : (folds : Folds) (l mid : Live) (first : SelectionKey) (turn last : Turn) → turn ≡ Waiting mid → Refolds l turn → UnfoldsAs folds l turn
    → last ≡ Waiting (after_selecting mid first) → Starts folds l first last
starts-with folds l mid first turn last e h u s = record {
  folded = mid;
  refolded = refolds-same l turn (Waiting mid) e h;
  unfolded = subst (λ (t : Turn). UnfoldsAs folds l t) e u;
  selected = s;
}
