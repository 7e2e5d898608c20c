-- The marks after an undo and after a redo.
use Rattle.scm_types.specs.declared.keys.SelectionKey.{SelectionKey}
use Rattle.scm_types.specs.declared.keys.SelectionKey.TheVariants as keys
use Rattle.scm_selection.specs.KeyLists.{is_line}
use Rattle.std.proofs.Common.{◌≡◌, ℕ, zero, suc, Bool, true, false, cond, List, [], ◌∷◌, ◌++◌, drop, refl, sym, ap, ◌∙◌, subst}
use Rattle.std.proofs.lemmas.List.{same_from_push}
use Rattle.scm_view.specs.ViewState.{ViewState}
use Rattle.scm_record.specs.Live.{Live}
use Rattle.scm_record.specs.LiveCalls.{Call}
use Rattle.scm_record.specs.declared.live.Turn.{Turn}
use Rattle.scm_record.specs.declared.live.Turn.TheVariants as turns
use Rattle.scm_input.specs.declared.events.Event.{Event}
use Rattle.scm_input.specs.declared.events.Event.TheVariants as events
use Rattle.scm_front_items.specs.declared.history.History.{History}
use Rattle.scm_front_items.specs.declared.items.Way.{Way}
use Rattle.scm_front_items.specs.declared.items.Way.TheVariants.{Down, Up}
use Rattle.scm_front_items.specs.declared.places.Place.{Place}
use Rattle.scm_front_items.specs.declared.runs.Step.{Step}
use Rattle.scm_front_items.specs.Histories.{KeepsStep, drops, keeps}
use Rattle.scm_front_items.specs.Runs.{marks_of_files, marks_with}
use Rattle.scm_front_items.proofs.BackLemmas.{back-restores}
use Rattle.scm_front_items.proofs.HistoryLemmas.{bounded-newest}
use Rattle.scm_front.specs.declared.actions.Action.{Action}
use Rattle.scm_front.specs.declared.actions.Action.TheVariants.{Click, Go, Mark, Pass, Redo, Undo}
use Rattle.scm_front.specs.declared.asking.Query.{Query}
use Rattle.scm_front.specs.declared.kept.Kept.{Kept}
use Rattle.scm_front.specs.declared.kept.Notice.TheVariants as notices
use Rattle.scm_front.specs.declared.layer.Front.{Front}
use Rattle.scm_front.specs.declared.layer.FrontTurn.{FrontTurn}
use Rattle.scm_front.specs.declared.layer.FrontTurn.TheVariants.{Waiting}
use Rattle.scm_front.specs.Fronts.{Does, acts, clicks, drags, HasMarks, files_of, is_elsewhere, is_restoring, search_word, selection_of, front, front_of, goes, ignores, jumps, lacks, marks, marks_of, misses, passes, ranges, restores, restoring, rests, seeks, types}
use Rattle.scm_front.specs.Asking.{after_typing, with_word}
use Rattle.scm_front.specs.Begun.{JumpLeads}
use Rattle.scm_front.specs.Begun as begun
use Rattle.scm_front.specs.Keeping.{after_range, anchored, done_word, is_none, nothing_left, other_way, saying, steps_of}
use Rattle.scm_front.specs.Recording.{Recalls, Remembers, RemembersAt, Returns, back_of, forgotten, remembered, unchanged}
use Rattle.scm_front.proofs.OutcomeLemmas.{selecting-refolds}

-- ---- the newest step

last-of : (n : ℕ) (xs rest : List Step) (y z : Step) → drop n (xs ++ y ∷ []) ≡ rest ++ z ∷ [] → y ≡ z
last-of zero xs rest y z e = (same_from_push xs rest y z e).1
last-of (suc n) [] rest y z e = absurd (empty n rest e)
  where
    empty : (m : ℕ) (list : List Step) → drop m [] ≡ list ++ z ∷ [] → ⊥
    empty zero [] q = cc q
    empty zero (x ∷ xs) q = cc q
    empty (suc m) [] q = cc q
    empty (suc m) (x ∷ xs) q = cc q
last-of (suc n) (x ∷ xs) rest y z e = last-of n xs rest y z e

nothing-last : (rest : List Step) (z : Step) → [] ≡ rest ++ z ∷ [] → ⊥
nothing-last [] z e = cc e
nothing-last (x ∷ xs) z e = cc e

-- what was kept last is the newest step
newest-is : (old steps rest : List Step) (step newest : Step) → KeepsStep old step steps → steps ≡ rest ++ newest ∷ [] → step ≡ newest
newest-is old steps rest step newest (keeps e) is =
    let cut = bounded-newest (old ++ step ∷ []) in
    last-of cut.0 old rest step newest (sym cut.1 ∙ sym e ∙ is)
newest-is old steps rest step newest (drops e) is = absurd (nothing-last rest newest (sym e ∙ is))

-- ---- a front that waits

module _ (marks_before : List (List (List Bool))) (old : History) where
  of-turn : (turn : Turn) (query : Query) (kept : Kept) (g : Front) → front_of turn query kept ≡ Waiting g → RemembersAt marks_before old turn kept.history
      → Remembers marks_before (marks_of g) old g.kept.history
  of-turn (turns.Waiting l) query kept g e h =
      let same : front l query kept ≡ g = cc e in
      subst (λ (x : Front). Remembers marks_before (marks_of x) old x.kept.history) same h
  of-turn (turns.Editing a) query kept g e h = absurd (cc e)
  of-turn (turns.Accepted state) query kept g e h = absurd (cc e)

-- what an event or a range leaves
by-pass : {f : Front} {action : Action} {calls : List Call} {turn : FrontTurn} → Does f action calls turn → (event : Event) → action ≡ Pass event → (g : Front) → turn ≡ Waiting g
    → Remembers (marks_of f) (marks_of g) f.kept.history g.kept.history
by-pass (passes {f = f} turn kept leads as_kept remembers) event is g e = of-turn (marks_of f) f.kept.history turn _ kept g e remembers
by-pass types event is g e = absurd (cc is)
by-pass (misses x) event is g e = absurd (cc is)
by-pass (jumps x y) event is g e = absurd (cc is)
by-pass (seeks x) event is g e = absurd (cc is)
by-pass (goes x) event is g e = absurd (cc is)
by-pass (clicks x y) event is g e = absurd (cc is)
by-pass (acts x y z w) event is g e = absurd (cc is)
by-pass (drags x y) event is g e = absurd (cc is)
by-pass (rests x) event is g e = absurd (cc is)
by-pass ranges event is g e = absurd (cc is)
by-pass (marks turn kept x y z) event is g e = absurd (cc is)
by-pass (lacks Up kept x y) event is g e = absurd (cc is)
by-pass (lacks Down kept x y) event is g e = absurd (cc is)
by-pass (restores Up rest step turn kept a b c d h) event is g e = absurd (cc is)
by-pass (restores Down rest step turn kept a b c d h) event is g e = absurd (cc is)
by-pass ignores event is g e = absurd (cc is)

by-mark : {f : Front} {action : Action} {calls : List Call} {turn : FrontTurn} → Does f action calls turn → action ≡ Mark → (g : Front) → turn ≡ Waiting g
    → Remembers (marks_of f) (marks_of g) f.kept.history g.kept.history
by-mark (marks {f = f} turn kept leads as_kept remembers) is g e = of-turn (marks_of f) f.kept.history turn _ kept g e remembers
by-mark (passes turn kept x y z) is g e = absurd (cc is)
by-mark types is g e = absurd (cc is)
by-mark (misses x) is g e = absurd (cc is)
by-mark (jumps x y) is g e = absurd (cc is)
by-mark (seeks x) is g e = absurd (cc is)
by-mark (goes x) is g e = absurd (cc is)
by-mark (clicks x y) is g e = absurd (cc is)
by-mark (acts x y z w) is g e = absurd (cc is)
by-mark (drags x y) is g e = absurd (cc is)
by-mark (rests x) is g e = absurd (cc is)
by-mark ranges is g e = absurd (cc is)
by-mark (lacks Up kept x y) is g e = absurd (cc is)
by-mark (lacks Down kept x y) is g e = absurd (cc is)
by-mark (restores Up rest step turn kept a b c d h) is g e = absurd (cc is)
by-mark (restores Down rest step turn kept a b c d h) is g e = absurd (cc is)
by-mark ignores is g e = absurd (cc is)

-- what a click leaves: what an event leaves that began with the same marks
pub record ByClick (f g : Front) : Type 0 where
  pub mid : Front
  pub same : marks_of mid ≡ marks_of f
  pub remembers : Remembers (marks_of mid) (marks_of g) mid.kept.history g.kept.history

by-click : {f : Front} {action : Action} {calls : List Call} {turn : FrontTurn} → Does f action calls turn → (row column : ℕ) → action ≡ Click row column → (g : Front)
    → turn ≡ Waiting g → ByClick f g
by-click (clicks {f = f} {row = r} {column = c} does x) row column is g e = record { mid = f; same = refl; remembers = by-pass does (events.Click r c) refl g e }
by-click (acts {mid = mid} {row = r} {column = c} first x same second) row column is g e =
    record { mid = mid; same = ap marks_of_files same; remembers = by-pass second (events.Click r c) refl g e }
by-click (passes turn kept x y z) row column is g e = absurd (cc is)
by-click types row column is g e = absurd (cc is)
by-click (misses x) row column is g e = absurd (cc is)
by-click (jumps x y) row column is g e = absurd (cc is)
by-click (seeks x) row column is g e = absurd (cc is)
by-click (goes x) row column is g e = absurd (cc is)
by-click (drags x y) row column is g e = absurd (cc is)
by-click (rests x) row column is g e = absurd (cc is)
by-click ranges row column is g e = absurd (cc is)
by-click (marks turn kept x y z) row column is g e = absurd (cc is)
by-click (lacks Up kept x y) row column is g e = absurd (cc is)
by-click (lacks Down kept x y) row column is g e = absurd (cc is)
by-click (restores Up rest step turn kept a b c d h) row column is g e = absurd (cc is)
by-click (restores Down rest step turn kept a b c d h) row column is g e = absurd (cc is)
by-click ignores row column is g e = absurd (cc is)

-- what a restoring that is done leaves
pub record Done (f h : Front) (way : Way) : Type 0 where
  pub rest : List Step
  pub step : Step
  pub newest : steps_of way f.kept.history ≡ rest ++ step ∷ []
  pub now : marks_of h ≡ marks_with step (marks_of f)
  pub returns : Returns way rest (back_of (files_of f.beneath) step) f.kept.history h.kept.history

not-left : (way : Way) → nothing_left way ≡ done_word way → ⊥
not-left Up e = cc e
not-left Down e = cc e

other-action : (way other : Way) → restoring other ≡ restoring way → other ≡ way
other-action Up Up e = refl
other-action Up Down e = cc e
other-action Down Up e = cc e
other-action Down Down e = refl

done-turn : (f : Front) (way : Way) (rest : List Step) (step : Step) (turn : Turn) (query : Query) (kept : Kept) (h : Front) → steps_of way f.kept.history ≡ rest ++ step ∷ []
    → front_of turn query kept ≡ Waiting h → h.kept.word ≡ done_word way → (kept.word ≡ done_word way → HasMarks turn (marks_with step (marks_of f)))
    → (kept.word ≡ done_word way → Returns way rest (back_of (files_of f.beneath) step) f.kept.history kept.history) → Done f h way
done-turn f way rest step (turns.Waiting l) query kept h newest e said has returns =
    let same : front l query kept ≡ h = cc e in
    let told : kept.word ≡ done_word way = ap (λ (x : Front). x.kept.word) same ∙ said in
    subst (λ (x : Front). Done f x way) same (record { rest = rest; step = step; newest = newest; now = has told; returns = returns told })
done-turn f way rest step (turns.Editing a) query kept h newest e said has returns = absurd (cc e)
done-turn f way rest step (turns.Accepted state) query kept h newest e said has returns = absurd (cc e)

pub done-by : {f : Front} {action : Action} {calls : List Call} {turn : FrontTurn} → Does f action calls turn → (way : Way) → action ≡ restoring way → (h : Front) → turn ≡ Waiting h
    → h.kept.word ≡ done_word way → Done f h way
done-by (restores {f = f} other rest step turn kept newest leads as_kept has returns) way is h e said =
    by-way other way (other-action way other is) rest step turn kept newest e said has returns
  where
    by-way : (x y : Way) → x ≡ y → (list : List Step) (one : Step) (t : Turn) (k : Kept) → steps_of x f.kept.history ≡ list ++ one ∷ []
        → front_of t (with_word f.query false) k ≡ Waiting h → h.kept.word ≡ done_word y → (k.word ≡ done_word x → HasMarks t (marks_with one (marks_of f)))
        → (k.word ≡ done_word x → Returns x list (back_of (files_of f.beneath) one) f.kept.history k.history) → Done f h y
    by-way Up Up q list one t k a b c d r = done-turn f Up list one t (with_word f.query false) k h a b c d r
    by-way Down Down q list one t k a b c d r = done-turn f Down list one t (with_word f.query false) k h a b c d r
    by-way Up Down q list one t k a b c d r = absurd (cc q)
    by-way Down Up q list one t k a b c d r = absurd (cc q)
done-by (lacks {f = f} other kept x as_kept) way is h e said =
    let same : front f.beneath (with_word f.query false) kept ≡ h = cc e in
    let word : kept.word ≡ nothing_left way = as_kept.word ∙ ap nothing_left (other-action way other is) in
    absurd (not-left way (sym word ∙ ap (λ (g : Front). g.kept.word) same ∙ said))
done-by (passes turn kept x y z) Up is h e said = absurd (cc is)
done-by (passes turn kept x y z) Down is h e said = absurd (cc is)
done-by types Up is h e said = absurd (cc is)
done-by types Down is h e said = absurd (cc is)
done-by (misses x) Up is h e said = absurd (cc is)
done-by (misses x) Down is h e said = absurd (cc is)
done-by (jumps x y) Up is h e said = absurd (cc is)
done-by (jumps x y) Down is h e said = absurd (cc is)
done-by (seeks x) Up is h e said = absurd (cc is)
done-by (seeks x) Down is h e said = absurd (cc is)
done-by (goes x) Up is h e said = absurd (cc is)
done-by (goes x) Down is h e said = absurd (cc is)
done-by (clicks x y) Up is h e said = absurd (cc is)
done-by (clicks x y) Down is h e said = absurd (cc is)
done-by (acts x y z w) Up is h e said = absurd (cc is)
done-by (acts x y z w) Down is h e said = absurd (cc is)
done-by (drags x y) Up is h e said = absurd (cc is)
done-by (drags x y) Down is h e said = absurd (cc is)
done-by (rests x) Up is h e said = absurd (cc is)
done-by (rests x) Down is h e said = absurd (cc is)
done-by ranges Up is h e said = absurd (cc is)
done-by ranges Down is h e said = absurd (cc is)
done-by (marks turn kept x y z) Up is h e said = absurd (cc is)
done-by (marks turn kept x y z) Down is h e said = absurd (cc is)
done-by ignores Up is h e said = absurd (cc is)
done-by ignores Down is h e said = absurd (cc is)

-- ---- undo and redo

pub undone : (before : List (List (List Bool))) (old : History) (g h : Front) → Remembers before (marks_of g) old g.kept.history → (marks_of g ≡ before → ⊥)
    → Done g h Up → marks_of h ≡ before
undone before old g h (unchanged e same) changed d = absurd (changed e)
undone before old g h (forgotten e) changed d = absurd (nothing-last d.rest d.step (sym (ap (λ (x : History). x.undos) e) ∙ d.newest))
undone before old g h (remembered step some leads k redos) changed d =
    let same = newest-is old.undos g.kept.history.undos d.rest step d.step k d.newest in
    d.now ∙ ap (λ (s : Step). marks_with s (marks_of g)) (sym same) ∙ leads

pub undo-event : (f g h : Front) (event : Event) (calls more : List Call) → Does f (Pass event) calls (Waiting g) → (marks_of g ≡ marks_of f → ⊥)
    → Does g Undo more (Waiting h) → h.kept.word ≡ notices.Undone → marks_of h ≡ marks_of f
undo-event f g h event calls more does changed undo said =
    undone (marks_of f) f.kept.history g h (by-pass does event refl g refl) changed (done-by undo Up refl h refl said)

pub undo-range : (f g h : Front) (calls more : List Call) → Does f Mark calls (Waiting g) → (marks_of g ≡ marks_of f → ⊥)
    → Does g Undo more (Waiting h) → h.kept.word ≡ notices.Undone → marks_of h ≡ marks_of f
undo-range f g h calls more does changed undo said =
    undone (marks_of f) f.kept.history g h (by-mark does refl g refl) changed (done-by undo Up refl h refl said)

pub undo-click : (f g h : Front) (row column : ℕ) (calls more : List Call) → Does f (Click row column) calls (Waiting g) → (marks_of g ≡ marks_of f → ⊥)
    → Does g Undo more (Waiting h) → h.kept.word ≡ notices.Undone → marks_of h ≡ marks_of f
undo-click f g h row column calls more does changed undo said =
    let b = by-click does row column refl g refl in
    undone (marks_of b.mid) b.mid.kept.history g h b.remembers (λ e. changed (e ∙ b.same)) (done-by undo Up refl h refl said) ∙ b.same

-- one restoring after another, in the other direction
back-again : (f g h : Front) (way : Way) → Done f g way → Done g h (other_way way) → marks_of h ≡ marks_of f
back-again f g h way d e =
    let back = back_of (files_of f.beneath) d.step in
    let same = newest-is (steps_of (other_way way) f.kept.history) (steps_of (other_way way) g.kept.history) e.rest back e.step d.returns.kept e.newest in
    e.now ∙ ap (λ (s : Step). marks_with s (marks_of g)) (sym same) ∙ ap (marks_with back) d.now ∙ back-restores (files_of f.beneath) d.step

pub redo-undo : (f g h : Front) (calls more : List Call) → Does f Undo calls (Waiting g) → g.kept.word ≡ notices.Undone
    → Does g Redo more (Waiting h) → h.kept.word ≡ notices.Redone → marks_of h ≡ marks_of f
redo-undo f g h calls more undo said redo told = back-again f g h Up (done-by undo Up refl g refl said) (done-by redo Down refl h refl told)

pub undo-redo : (f g h : Front) (calls more : List Call) → Does f Redo calls (Waiting g) → g.kept.word ≡ notices.Redone
    → Does g Undo more (Waiting h) → h.kept.word ≡ notices.Undone → marks_of h ≡ marks_of f
undo-redo f g h calls more redo said undo told = back-again f g h Down (done-by redo Down refl g refl said) (done-by undo Up refl h refl told)

-- ---- later undos

-- what changed marks is recalled
recalled : (before : List (List (List Bool))) (old : History) (g : Front) → Remembers before (marks_of g) old g.kept.history → (marks_of g ≡ before → ⊥)
    → Recalls before (marks_of g) g.kept.history
recalled before old g (unchanged e same) changed rest step is = absurd (changed e)
recalled before old g (forgotten e) changed rest step is = absurd (nothing-last rest step (sym (ap (λ (x : History). x.undos) e) ∙ is))
recalled before old g (remembered one some leads k redos) changed rest step is =
    ap (λ (s : Step). marks_with s (marks_of g)) (sym (newest-is old.undos g.kept.history.undos rest one step k is)) ∙ leads

pub recalls-event : (f g : Front) (event : Event) (calls : List Call) → Does f (Pass event) calls (Waiting g) → (marks_of g ≡ marks_of f → ⊥)
    → Recalls (marks_of f) (marks_of g) g.kept.history
recalls-event f g event calls does changed = recalled (marks_of f) f.kept.history g (by-pass does event refl g refl) changed

pub recalls-range : (f g : Front) (calls : List Call) → Does f Mark calls (Waiting g) → (marks_of g ≡ marks_of f → ⊥) → Recalls (marks_of f) (marks_of g) g.kept.history
recalls-range f g calls does changed = recalled (marks_of f) f.kept.history g (by-mark does refl g refl) changed

pub recalls-click : (f g : Front) (row column : ℕ) (calls : List Call) → Does f (Click row column) calls (Waiting g) → (marks_of g ≡ marks_of f → ⊥)
    → Recalls (marks_of f) (marks_of g) g.kept.history
recalls-click f g row column calls does changed =
    let b = by-click does row column refl g refl in
    subst (λ (before : List (List (List Bool))). Recalls before (marks_of g) g.kept.history) b.same
    (recalled (marks_of b.mid) b.mid.kept.history g b.remembers (λ e. changed (e ∙ b.same)))

-- it stays so as long as no mark changes
same-history : (before now new_marks : List (List (List Bool))) (old new : History) → new ≡ old → new_marks ≡ now → Recalls before now old → Recalls before new_marks new
same-history before now new_marks old new e m h rest step is = ap (marks_with step) m ∙ h rest step (sym (ap (λ (x : History). x.undos) e) ∙ is)

kept-recalls : (before : List (List (List Bool))) (f g : Front) → Remembers (marks_of f) (marks_of g) f.kept.history g.kept.history → marks_of g ≡ marks_of f
    → Recalls before (marks_of f) f.kept.history → Recalls before (marks_of g) g.kept.history
kept-recalls before f g (unchanged e same) m h = same-history before (marks_of f) (marks_of g) f.kept.history g.kept.history same m h
kept-recalls before f g (forgotten e) m h = λ rest step is. absurd (nothing-last rest step (sym (ap (λ (x : History). x.undos) e) ∙ is))
kept-recalls before f g (remembered one some leads k redos) m h = absurd (some m)

range-history : (kept : Kept) (selection : SelectionKey) → (after_range kept selection).history ≡ kept.history
range-history kept selection = by-tests (is_none kept.anchor) (is_line selection)
  where
    by-tests : (a b : Bool) → (cond a (cond b (saying (anchored kept selection) notices.Nothing) (saying kept notices.NoLine)) (saying (anchored kept keys.None) notices.Nothing)).history ≡ kept.history
    by-tests true true = refl
    by-tests true false = refl
    by-tests false true = refl
    by-tests false false = refl

-- a front that keeps the history
still-recalls : (before : List (List (List Bool))) (f g : Front) (l : Live) (query : Query) (kept : Kept) → Waiting (front l query kept) ≡ Waiting g → kept.history ≡ f.kept.history
    → marks_of g ≡ marks_of f → Recalls before (marks_of f) f.kept.history → Recalls before (marks_of g) g.kept.history
still-recalls before f g l query kept e same m h =
    let is : front l query kept ≡ g = cc e in
    same-history before (marks_of f) (marks_of g) f.kept.history g.kept.history (sym (ap (λ (x : Front). x.kept.history) is) ∙ same) m h

pub later-recalls : (before : List (List (List Bool))) {f : Front} {action : Action} {calls : List Call} {turn : FrontTurn} → Does f action calls turn → is_restoring action ≡ false
    → (g : Front) → turn ≡ Waiting g → marks_of g ≡ marks_of f → Recalls before (marks_of f) f.kept.history → Recalls before (marks_of g) g.kept.history
later-recalls before (passes {f = f} turn kept leads as_kept remembers) free g e m h = kept-recalls before f g (of-turn (marks_of f) f.kept.history turn _ kept g e remembers) m h
later-recalls before (marks {f = f} turn kept leads as_kept remembers) free g e m h = kept-recalls before f g (of-turn (marks_of f) f.kept.history turn _ kept g e remembers) m h
later-recalls before (types {f = f} {typing = typing}) free g e m h = still-recalls before f g f.beneath (after_typing typing f.query) (saying f.kept notices.Nothing) e refl m h
later-recalls before (misses {f = f} x) free g e m h = still-recalls before f g f.beneath (with_word f.query true) f.kept e refl m h
later-recalls before (jumps {f = f} {way = way} {key = key} {next = next} x y) free g e m h =
    still-recalls before f g next (with_word f.query (is_elsewhere key next)) (saying f.kept (search_word way f.beneath.session.shown.selection key)) e refl m h
later-recalls before (seeks does) free g e m h = later-recalls before does refl g e m h
later-recalls before (goes {f = f} {next = next} x) free g e m h =
    still-recalls before f g next (with_word f.query false) (saying f.kept notices.Nothing) e refl m h
later-recalls before (clicks does x) free g e m h = later-recalls before does refl g e m h
later-recalls before (acts {mid = mid} first x same second) free g e m h =
    let kept_marks = ap marks_of_files same in
    later-recalls before second refl g e (m ∙ sym kept_marks) (later-recalls before first refl mid refl kept_marks h)
later-recalls before (drags x does) free g e m h = later-recalls before does refl g e m h
later-recalls before (rests {f = f} x) free g e m h =
    let is : f ≡ g = cc e in
    subst (λ (x : Front). Recalls before (marks_of x) x.kept.history) is h
later-recalls before (ranges {f = f}) free g e m h =
    still-recalls before f g f.beneath (with_word f.query false) (after_range f.kept (selection_of f.beneath)) e (range-history f.kept (selection_of f.beneath)) m h
later-recalls before (lacks Up kept x y) free g e m h = absurd (cc free)
later-recalls before (lacks Down kept x y) free g e m h = absurd (cc free)
later-recalls before (restores Up rest step turn kept a b c d r) free g e m h = absurd (cc free)
later-recalls before (restores Down rest step turn kept a b c d r) free g e m h = absurd (cc free)
later-recalls before (ignores {f = f}) free g e m h =
    let is : f ≡ g = cc e in
    subst (λ (x : Front). Recalls before (marks_of x) x.kept.history) is h

-- and then an undo leads back
pub undo-recalled : (before : List (List (List Bool))) (f g : Front) (calls : List Call) → Recalls before (marks_of f) f.kept.history → Does f Undo calls (Waiting g)
    → g.kept.word ≡ notices.Undone → marks_of g ≡ before
undo-recalled before f g calls h undo said =
    let d = done-by undo Up refl g refl said in
    d.now ∙ h d.rest d.step d.newest

-- ---- moves to a place

-- a jump changes no marks
jump-files : {l next : Live} {key : SelectionKey} {calls : List Call} → JumpLeads l key calls next → files_of next ≡ files_of l
jump-files (begun.jumps {l = l} {key = key} moves leads) = ap (λ (view : ViewState). view.state.files) (selecting-refolds l key).shown
jump-files (begun.stays e) = refl

-- a move to a place changes no marks
pub go-keeps : {f : Front} {action : Action} {calls : List Call} {turn : FrontTurn} → Does f action calls turn → (place : Place) → action ≡ Go place → (g : Front) → turn ≡ Waiting g
    → files_of g.beneath ≡ files_of f.beneath
go-keeps (goes {f = f} {next = next} leads) place is g e =
    let same : front next (with_word f.query false) (saying f.kept notices.Nothing) ≡ g = cc e in
    sym (ap (λ (x : Front). files_of x.beneath) same) ∙ jump-files leads
go-keeps (passes turn kept x y z) place is g e = absurd (cc is)
go-keeps types place is g e = absurd (cc is)
go-keeps (misses x) place is g e = absurd (cc is)
go-keeps (jumps x y) place is g e = absurd (cc is)
go-keeps (seeks x) place is g e = absurd (cc is)
go-keeps (clicks x y) place is g e = absurd (cc is)
go-keeps (acts x y z w) place is g e = absurd (cc is)
go-keeps (drags x y) place is g e = absurd (cc is)
go-keeps (rests x) place is g e = absurd (cc is)
go-keeps ranges place is g e = absurd (cc is)
go-keeps (marks turn kept x y z) place is g e = absurd (cc is)
go-keeps (lacks Up kept x y) place is g e = absurd (cc is)
go-keeps (lacks Down kept x y) place is g e = absurd (cc is)
go-keeps (restores Up rest step turn kept a b c d h) place is g e = absurd (cc is)
go-keeps (restores Down rest step turn kept a b c d h) place is g e = absurd (cc is)
go-keeps ignores place is g e = absurd (cc is)
