-- What is kept of an action leads from the marks after it back to those before it.
use Rattle.std.proofs.Common.{◌≡◌, ℕ, Bool, true, false, cond, ◌||◌, List, [], ◌∷◌, ◌++◌, length, refl, sym, ap, ◌∙◌, subst, Option, Some, arith}
use Rattle.std.specs.Prelude.{◌==◌, IfSome}
use Rattle.std.specs.List.{list_any, list_all}
use Rattle.std.proofs.lemmas.Bool.Decides.{nat_tests}
use Rattle.std.proofs.lemmas.List.{nil_from_length}
use Rattle.scm_types.specs.declared.file.File.{File}
use Rattle.scm_input.specs.Script.{Batch}
use Rattle.scm_input.specs.declared.events.Event.{Event}
use Rattle.scm_input.specs.declared.events.Event.TheVariants.{Click}
use Rattle.scm_record.specs.Live.{Live, LiveEdit}
use Rattle.scm_record.specs.Session.{Session}
use Rattle.scm_record.specs.LiveCalls.{BatchLeads, Call, EventLeads, IsDrawnFor, MessageLeads, Path, press, press_all, resize, say, still, waiting_point}
use Rattle.scm_record.specs.Run.{Point, Reaches}
use Rattle.scm_record.specs.declared.live.Turn.{Turn}
use Rattle.scm_record.specs.declared.live.Turn.TheVariants as turns
use Rattle.scm_front_items.specs.declared.history.History.{History}
use Rattle.scm_front_items.specs.declared.runs.Run.{Run}
use Rattle.scm_front_items.specs.Runs.{marks_of_files, marks_with}
use Rattle.scm_front_items.specs.Steps.{agree, changed_runs, changed_step, is_as_run, runs_of_key, step_of}
use Rattle.scm_front_items.proofs.DeedRunLemmas.{all-restores}
use Rattle.scm_front_items.specs.declared.runs.Step.{Step}
use Rattle.std.proofs.lemmas.Bool.{and_parts}
use Rattle.std.specs.Prelude.{not}
use Rattle.scm_front_items.proofs.PlaceLemmas.{Marks, inner, inner-files, shape, same, step-restores}
use Rattle.scm_front_items.proofs.RunPlaceLemmas.{runs-of-files-own, runs-of-key-own}
use Rattle.scm_front_items.proofs.ToggleRunLemmas.{toggle-restores}
use Rattle.scm_front.specs.Begun.{HasBegun}
use Rattle.scm_front.specs.Clicking.{box_at, is_half, is_same_box, merely_selects}
use Rattle.scm_front.specs.Fronts.{files_of}
use Rattle.scm_front.specs.Presses.{PressesLead, calls_of}
use Rattle.scm_front.specs.declared.recording.Author.TheVariants.{User, Program}
use Rattle.scm_front.specs.declared.recording.Reach.{Reach}
use Rattle.scm_front.specs.declared.recording.Reach.TheVariants.{Nothing, Item, All}
use Rattle.scm_front.specs.Recording.{BeginsAnew, BeginsAnewAt, Records, RecordsAt, RecordsUnread, Remembers, RemembersAt, Restarts, begun_anew, effect_of, forgets, forgets_all, forgotten, keeps, marks_stay, may_mark, reach_of, reach_of_all, remembered, runs_changed, runs_stay, runs_unknown, runs_within, stays, stays_so, unchanged}
use Rattle.scm_front.proofs.EffectLemmas.{After, ArePlain, IsPlain, as_was, by_all, by_item}
use Rattle.scm_front.proofs.ReachLemmas.{batch-quiet-reach, event-reach, files_at, reaches-shape, selecting-reach}

-- ---- a step leads back

within-own : (files : List File) (reach : Reach) → list_all (is_as_run files) (runs_within files reach) ≡ true
within-own files Nothing = refl
within-own files (Item key) = runs-of-key-own files key
within-own files All = runs-of-files-own files 0 (length files)

-- the step of the runs within the reach leads back
abbrev pub LeadsBack : List File → List File → List Run → Type 0
LeadsBack files new runs = marks_with (changed_step new runs) (marks_of_files new) ≡ marks_of_files files

pub led-back : (files new : List File) (reach : Reach) → After files reach new → LeadsBack files new (runs_within files reach)
led-back files new reach (as_was e) =
    subst (λ (fs : List File). LeadsBack files fs (runs_within files reach)) (sym e)
    (step-restores files files refl (runs_within files reach) (within-own files reach) (λ f s i. same refl))
led-back files new reach (by_item key is e) =
    subst (λ (r : Reach). LeadsBack files new (runs_within files r)) (sym is)
    (subst (λ (fs : List File). LeadsBack files fs (runs_of_key files key)) (sym e) (toggle-restores files key))
led-back files new reach (by_all is e) = subst (λ (r : Reach). LeadsBack files new (runs_within files r)) (sym is) (all-restores files new e)

-- without a run that changed, no mark changed
none-changed : (files new : List File) (runs : List Run) → changed_runs new runs ≡ [] → LeadsBack files new runs → marks_of_files new ≡ marks_of_files files
none-changed files new runs none back = ap (λ (list : List Run). marks_with (step_of list) (marks_of_files new)) (sym none) ∙ back

-- a run of the files has their marks in files with the same marks
same-as-run : (files new : List File) (r : Run) → marks_of_files new ≡ marks_of_files files → is_as_run new r ≡ is_as_run files r
same-as-run files new r e =
    ap (agree r.first r.marks)
    (sym (inner-files new r.file r.section) ∙ ap (λ (m : Marks). inner m r.file r.section) e ∙ inner-files files r.file r.section)

-- so none of them changed if no mark did
none-if-same : (files new : List File) (runs : List Run) → list_all (is_as_run files) runs ≡ true → marks_of_files new ≡ marks_of_files files → changed_runs new runs ≡ []
none-if-same files new [] own e = refl
none-if-same files new (r ∷ rs) own e =
    let parts = and_parts (is_as_run files r) (list_all (is_as_run files) rs) own in
    ap (λ (b : Bool). cond (not b) (r ∷ changed_runs new rs) (changed_runs new rs)) (same-as-run files new r e ∙ parts.0) ∙ none-if-same files new rs parts.1 e

-- the files of a turn, if it has some
abbrev pub FilesAt : (List File → Type 0) → Turn → Type 0
FilesAt P (turns.Waiting l) = P l.session.shown.state.files
FilesAt P (turns.Editing a) = P a.session.shown.state.files
FilesAt P (turns.Accepted state) = Unit {0}

known : (P : List Run → Type 0) (before : Option (List Run)) (runs : List Run) → before ≡ Some runs → IfSome before P → P runs
known P before runs e h = subst (λ (o : Option (List Run)). IfSome o P) e h

-- runs that lead back from whatever an action may leave are what is to be remembered of it
module _ (files : List File) (all : List Run) (P : List File → Type 0) (back : (after : List File) → P after → LeadsBack files after all)
    (own : list_all (is_as_run files) all ≡ true) (old new : History) (before : Option (List Run)) (taken : IfSome before (λ (runs : List Run). runs ≡ all)) where
  back-by : (after : List File) (runs : List Run) → before ≡ Some runs → P after → LeadsBack files after runs
  back-by after runs e h =
      subst (λ (list : List Run). LeadsBack files after list) (sym (known (λ (list : List Run). list ≡ all) before runs e taken)) (back after h)

  own-runs : (runs : List Run) → before ≡ Some runs → list_all (is_as_run files) runs ≡ true
  own-runs runs e = subst (λ (list : List Run). list_all (is_as_run files) list ≡ true) (sym (known (λ (list : List Run). list ≡ all) before runs e taken)) own

  recorded-remembers : (after : List File) → P after → Records old before after new → Remembers (marks_of_files files) (marks_of_files after) old new
  recorded-remembers after h (forgets none e) = forgotten e
  recorded-remembers after h (stays runs e none is) = unchanged (none-changed files after runs none (back-by after runs e h)) is
  recorded-remembers after h (keeps runs e some step redos) =
      remembered (changed_step after runs) (λ same_marks. some (none-if-same files after runs (own-runs runs e) same_marks)) (back-by after runs e h) step redos

  unread-remembers : (after : List File) → P after → RecordsUnread old before new → Remembers (marks_of_files files) (marks_of_files after) old new
  unread-remembers after h (forgets_all e) = forgotten e
  unread-remembers after h (stays_so e is) = unchanged (none-changed files after [] refl (back-by after [] e h)) is

  recorded-begins : (after : List File) → P after → Restarts old before after new → BeginsAnew (marks_of_files files) (marks_of_files after) old new
  recorded-begins after h (runs_unknown none e) = begun_anew e
  recorded-begins after h (runs_stay runs e none is) = marks_stay (none-changed files after runs none (back-by after runs e h)) is
  recorded-begins after h (runs_changed runs e some is) = begun_anew is

  unread-begins : (after : List File) → P after → RecordsUnread old before new → BeginsAnew (marks_of_files files) (marks_of_files after) old new
  unread-begins after h (forgets_all e) = begun_anew e
  unread-begins after h (stays_so e is) = marks_stay (none-changed files after [] refl (back-by after [] e h)) is

  pub turn-begins-anew : (turn : Turn) → FilesAt P turn → RecordsAt Program old before turn new → BeginsAnewAt (marks_of_files files) old turn new
  turn-begins-anew (turns.Waiting l) h r = recorded-begins l.session.shown.state.files h r
  turn-begins-anew (turns.Editing a) h r = unread-begins a.session.shown.state.files h r
  turn-begins-anew (turns.Accepted state) h r = tt

  pub turn-remembers : (turn : Turn) → FilesAt P turn → RecordsAt User old before turn new → RemembersAt (marks_of_files files) old turn new
  turn-remembers (turns.Waiting l) h r = recorded-remembers l.session.shown.state.files h r
  turn-remembers (turns.Editing a) h r = unread-remembers a.session.shown.state.files h r
  turn-remembers (turns.Accepted state) h r = tt

-- a list of runs that is said to be empty
pub empty-is : (runs : List Run) (b : Bool) → b ≡ (length runs == 0) → b ≡ true → runs ≡ []
empty-is runs b e is = nil_from_length runs (none (length runs) (sym e ∙ is))
  where
    none : (n : ℕ) → (n == 0) ≡ true → n ≡ 0
    none n h = grind (arith, nat_tests)

-- a step that is said to have runs
pub some-changed : (files : List File) (runs : List Run) (step : Step) (b : Bool) → step ≡ changed_step files runs → b ≡ (length step.runs == 0) → b ≡ false
    → changed_runs files runs ≡ [] → ⊥
some-changed files runs step b is e f none =
    no (sym f ∙ e ∙ ap (λ (list : List Run). length list == 0) (ap (λ (s : Step). s.runs) is ∙ none))
  where
    no : false ≡ true → ⊥
    no q = cc q

-- what is remembered of an action within a reach
reach-remembers : (files : List File) (reach : Reach) (old new : History) (before : Option (List Run)) → IfSome before (λ (runs : List Run). runs ≡ runs_within files reach)
    → (turn : Turn) → FilesAt (After files reach) turn → RecordsAt User old before turn new → RemembersAt (marks_of_files files) old turn new
reach-remembers files reach old new before taken turn h r =
    turn-remembers files (runs_within files reach) (After files reach) (λ after k. led-back files after reach k) (within-own files reach) old new before taken turn h r

-- the same of events of a program
reach-begins-anew : (files : List File) (reach : Reach) (old new : History) (before : Option (List Run)) → IfSome before (λ (runs : List Run). runs ≡ runs_within files reach)
    → (turn : Turn) → FilesAt (After files reach) turn → RecordsAt Program old before turn new → BeginsAnewAt (marks_of_files files) old turn new
reach-begins-anew files reach old new before taken turn h r =
    turn-begins-anew files (runs_within files reach) (After files reach) (λ after k. led-back files after reach k) (within-own files reach) old new before taken turn h r

-- ---- one event

pub event-after : (l : Live) (event : Event) (turn : Turn) → l.session.pending ≡ [] → EventLeads l event turn → FilesAt (After (files_of l) (reach_of l event)) turn
event-after l event (turns.Waiting next) calm g = event-reach l event _ calm (g [] [] 0).3
event-after l event (turns.Editing a) calm g = event-reach l event _ calm (g [] [] 0).4
event-after l event (turns.Accepted state) calm g = tt

pub event-remembers : (l : Live) (event : Event) (turn : Turn) (old new : History) (before : Option (List Run)) → l.session.pending ≡ []
    → IfSome before (λ (runs : List Run). runs ≡ runs_within (files_of l) (reach_of l event)) → EventLeads l event turn → RecordsAt User old before turn new
    → RemembersAt (marks_of_files (files_of l)) old turn new
event-remembers l event turn old new before calm taken g r =
    reach-remembers (files_of l) (reach_of l event) old new before taken turn (event-after l event turn calm g) r

pub event-begins-anew : (l : Live) (event : Event) (turn : Turn) (old new : History) (before : Option (List Run)) → l.session.pending ≡ []
    → IfSome before (λ (runs : List Run). runs ≡ runs_within (files_of l) (reach_of l event)) → EventLeads l event turn → RecordsAt Program old before turn new
    → BeginsAnewAt (marks_of_files (files_of l)) old turn new
event-begins-anew l event turn old new before calm taken g r =
    reach-begins-anew (files_of l) (reach_of l event) old new before taken turn (event-after l event turn calm g) r

-- a click that merely selects the item of a box
pub selecting-keeps : (l next : Live) (row column : ℕ) → l.session.pending ≡ [] → is_half l next row column ≡ true → EventLeads l (Click row column) (turns.Waiting next)
    → files_of next ≡ files_of l
selecting-keeps l next row column calm half g =
    let selects = (and_parts (merely_selects l.session.shown.selection (box_at l row column)) (is_same_box (box_at l row column) (box_at next row column)) half).0 in
    selecting-reach l row column _ calm selects (g [] [] 0).3

-- ---- many events

not-marking : (event : Event) (list : List Event) → list_any (λ (e : Event). may_mark (effect_of e)) (event ∷ list) ≡ false
    → IsPlain event × (list_any (λ (e : Event). may_mark (effect_of e)) list ≡ false)
not-marking event list h = neither (may_mark (effect_of event)) _ h
  where
    neither : (a b : Bool) → (a || b) ≡ false → (a ≡ false) × (b ≡ false)
    neither true b e = absurd (cc e)
    neither false b e = (refl, e)

plain-list : (list : List Event) → list_any (λ (e : Event). may_mark (effect_of e)) list ≡ false → ArePlain list
plain-list [] h = tt
plain-list (event ∷ rest) h = let parts = not-marking event rest h in (parts.0, plain-list rest parts.1)

batch-after : (l : Live) (list : List Event) (turn : Turn) → l.session.pending ≡ [] → BatchLeads l list turn
    → FilesAt (After (files_of l) (reach_of_all list)) turn
batch-after l list turn calm g = by-turn turn g (list_any (λ (e : Event). may_mark (effect_of e)) list) refl
  where
    led : (b : Bool) (q : Point) → list_any (λ (e : Event). may_mark (effect_of e)) list ≡ b → Reaches (waiting_point l (Batch list ∷ []) [] 0) q
        → After (files_of l) (cond b All Nothing) (files_at q)
    led false q e way = as_was (batch-quiet-reach l list q calm (plain-list list e) way)
    led true q e way = by_all refl (reaches-shape _ way)

    by-turn : (t : Turn) → BatchLeads l list t → (b : Bool) → list_any (λ (e : Event). may_mark (effect_of e)) list ≡ b → FilesAt (After (files_of l) (cond b All Nothing)) t
    by-turn (turns.Waiting next) g b e = led b _ e (g [] [] 0).3
    by-turn (turns.Editing a) g b e = led b _ e (g [] [] 0).4
    by-turn (turns.Accepted state) g b e = tt

pub batch-remembers : (l : Live) (list : List Event) (turn : Turn) (old new : History) (before : Option (List Run)) → l.session.pending ≡ []
    → IfSome before (λ (runs : List Run). runs ≡ runs_within (files_of l) (reach_of_all list)) → BatchLeads l list turn → RecordsAt User old before turn new
    → RemembersAt (marks_of_files (files_of l)) old turn new
batch-remembers l list turn old new before calm taken g r =
    reach-remembers (files_of l) (reach_of_all list) old new before taken turn (batch-after l list turn calm g) r

pub batch-begins-anew : (l : Live) (list : List Event) (turn : Turn) (old new : History) (before : Option (List Run)) → l.session.pending ≡ []
    → IfSome before (λ (runs : List Run). runs ≡ runs_within (files_of l) (reach_of_all list)) → BatchLeads l list turn → RecordsAt Program old before turn new
    → BeginsAnewAt (marks_of_files (files_of l)) old turn new
batch-begins-anew l list turn old new before calm taken g r =
    reach-begins-anew (files_of l) (reach_of_all list) old new before taken turn (batch-after l list turn calm g) r

-- a turn that waits for an event has nothing pending, and one that waits for a message has a frame that shows a session
abbrev pub CalmAt : Turn → Type 0
CalmAt (turns.Waiting l) = l.session.pending ≡ []
CalmAt (turns.Editing a) = (drawn : Session) × IsDrawnFor a drawn
CalmAt (turns.Accepted state) = Unit {0}

pub calm-event : (l : Live) (event : Event) (turn : Turn) → EventLeads l event turn → CalmAt turn
calm-event l event (turns.Waiting next) g = (g [] [] 0).2
calm-event l event (turns.Editing a) g = ((g [] [] 0).0, (g [] [] 0).3)
calm-event l event (turns.Accepted state) g = tt

-- what is true of the files, and stays so at each event, is true at the end of events that are handed in one after another
abbrev Each : (Event → Type 0) → List Event → Type 0
Each Q [] = Unit {0}
Each Q (event ∷ rest) = Q event × Each Q rest

each-first : (Q : Event → Type 0) (xs ys : List Event) → Each Q (xs ++ ys) → Each Q xs
each-first Q [] ys h = tt
each-first Q (x ∷ xs) ys h = (h.0, each-first Q xs ys h.1)

module _ (P : List File → Type 0) (Q : Event → Type 0)
    (step : (l : Live) (event : Event) (turn : Turn) → Q event → l.session.pending ≡ [] → EventLeads l event turn → P (files_of l) → FilesAt P turn) where
  presses-keep : (es : List Event) {t u : Turn} {calls : List Call} → Path t calls u → calls ≡ calls_of es → Each Q es → CalmAt t → FilesAt P t → FilesAt P u
  presses-keep es still e each calm h = h
  presses-keep [] (press g p) e each calm h = absurd (cc e)
  presses-keep (x ∷ es) (press {l = l} {event = event} {turn = turn} {calls = more} g p) e each calm h =
      let event_is : event ≡ x = cc e in
      let rest : more ≡ calls_of es = cc e in
      presses-keep es p rest each.1 (calm-event l event turn g) (step l event turn (subst Q (sym event_is) each.0) calm g h)
  presses-keep [] (press_all g p) e each calm h = absurd (cc e)
  presses-keep (x ∷ es) (press_all g p) e each calm h = absurd (cc e)
  presses-keep [] (say g p) e each calm h = absurd (cc e)
  presses-keep (x ∷ es) (say g p) e each calm h = absurd (cc e)
  presses-keep [] (resize p) e each calm h = absurd (cc e)
  presses-keep (x ∷ es) (resize p) e each calm h = absurd (cc e)

each-plain : (list : List Event) → list_any (λ (e : Event). may_mark (effect_of e)) list ≡ false → Each IsPlain list
each-plain [] h = tt
each-plain (event ∷ rest) h = let parts = not-marking event rest h in (parts.0, each-plain rest parts.1)

each-any : (list : List Event) → Each (λ (e : Event). Unit {0}) list
each-any [] = tt
each-any (event ∷ rest) = (tt, each-any rest)

pub weaker : (P R : List File → Type 0) → ((files : List File) → P files → R files) → (turn : Turn) → FilesAt P turn → FilesAt R turn
weaker P R f (turns.Waiting l) h = f l.session.shown.state.files h
weaker P R f (turns.Editing a) h = f a.session.shown.state.files h
weaker P R f (turns.Accepted state) h = tt

shape-turn : (l : Live) (event : Event) (turn : Turn) → EventLeads l event turn
    → FilesAt (λ (new : List File). shape (marks_of_files new) ≡ shape (marks_of_files (files_of l))) turn
shape-turn l event (turns.Waiting next) g = reaches-shape _ (g [] [] 0).3
shape-turn l event (turns.Editing a) g = reaches-shape _ (g [] [] 0).4
shape-turn l event (turns.Accepted state) g = tt

plain-turn : (l : Live) (event : Event) (turn : Turn) → IsPlain event → l.session.pending ≡ [] → EventLeads l event turn
    → FilesAt (λ (new : List File). new ≡ files_of l) turn
plain-turn l event (turns.Waiting next) h calm g = batch-quiet-reach l (event ∷ []) _ calm (h, tt) (g [] [] 0).3
plain-turn l event (turns.Editing a) h calm g = batch-quiet-reach l (event ∷ []) _ calm (h, tt) (g [] [] 0).4
plain-turn l event (turns.Accepted state) h calm g = tt

pub presses-remember : (l : Live) (list : List Event) (turn : Turn) (old new : History) (before : Option (List Run)) → l.session.pending ≡ []
    → IfSome before (λ (runs : List Run). runs ≡ runs_within (files_of l) (reach_of_all list)) → PressesLead l list turn → RecordsAt User old before turn new
    → RemembersAt (marks_of_files (files_of l)) old turn new
presses-remember l list turn old new before calm taken g r =
    reach-remembers (files_of l) (reach_of_all list) old new before taken turn (led (list_any (λ (e : Event). may_mark (effect_of e)) list) refl) r
  where
    led : (b : Bool) → list_any (λ (e : Event). may_mark (effect_of e)) list ≡ b → FilesAt (After (files_of l) (cond b All Nothing)) turn
    led false e =
        weaker (λ (files : List File). files ≡ files_of l) _ (λ files is. as_was is) turn
        (presses-keep (λ (files : List File). files ≡ files_of l) IsPlain
        (λ k event t plain still_calm leads is. weaker _ _ (λ files same_files. same_files ∙ is) t (plain-turn k event t plain still_calm leads))
        g.handled g.path refl (each-first IsPlain g.handled g.dropped (subst (Each IsPlain) g.are (each-plain list e))) calm refl)
    led true e =
        weaker (λ (files : List File). shape (marks_of_files files) ≡ shape (marks_of_files (files_of l))) _ (λ files is. by_all refl is) turn
        (presses-keep (λ (files : List File). shape (marks_of_files files) ≡ shape (marks_of_files (files_of l))) (λ (e : Event). Unit {0})
        (λ k event t any still_calm leads is. weaker _ _ (λ files same_shape. same_shape ∙ is) t (shape-turn k event t leads))
        g.handled g.path refl (each-any g.handled) calm refl)

-- ---- a session that has begun

-- calls lead to turns that have nothing pending
pub calm-path : {t u : Turn} {calls : List Call} → Path t calls u → CalmAt t → CalmAt u
calm-path still h = h
calm-path (press {l = l} {event = event} {turn = turn} g p) h = calm-path p (calm-event l event turn g)
calm-path (press_all {l = l} {list = list} {turn = turn} g p) h = calm-path p (calm-batch l list turn g)
  where
    calm-batch : (k : Live) (events : List Event) (next : Turn) → BatchLeads k events next → CalmAt next
    calm-batch k events (turns.Waiting next) g = (g [] [] 0).2
    calm-batch k events (turns.Editing a) g = ((g [] [] 0).0, (g [] [] 0).3)
    calm-batch k events (turns.Accepted state) g = tt
calm-path (say {a = a} {text = text} {turn = turn} g p) h = calm-path p (calm-message a text turn g h)
  where
    calm-message : (b : LiveEdit) (words : List ℕ) (next : Turn) → MessageLeads b words next → CalmAt (turns.Editing b) → CalmAt next
    calm-message b words (turns.Waiting next) g h = (g h.0 [] [] 0 h.1).2
    calm-message b words (turns.Editing x) g h = ((g h.0 [] [] 0 h.1).0, (g h.0 [] [] 0 h.1).3)
    calm-message b words (turns.Accepted state) g h = tt
calm-path (resize p) h = calm-path p h

pub begun-calm : (l : Live) → HasBegun (turns.Waiting l) → l.session.pending ≡ []
begun-calm l b = calm-path b.path refl
