-- What the steps of a run do with the files of a session, until it waits again.
use Rattle.std.proofs.Common.{◌≡◌, ℕ, Bool, true, false, cond, List, [], ◌∷◌, ◌++◌, length, refl, sym, ap, ◌∙◌, subst, Option, Some, None, inl, inr}
use Rattle.std.specs.Prelude.{nat_lt, not}
use Rattle.scm_types.specs.declared.file.File.{File}
use Rattle.scm_types.specs.declared.keys.SelectionKey.{SelectionKey}
use Rattle.scm_types.specs.declared.state.RecordState.{RecordState}
use Rattle.scm_types.specs.Keys.{is_key}
use Rattle.scm_types.specs.Limits.{is_short_text}
use Rattle.scm_widgets.specs.declared.ids.ComponentId.{ComponentId}
use Rattle.scm_widgets.specs.declared.ids.ComponentId.TheVariants as ids
use Rattle.scm_widgets.specs.declared.ids.QuitDialogButtonId.{QuitDialogButtonId}
use Rattle.scm_widgets.specs.declared.ids.QuitDialogButtonId.TheVariants.{GoBack, Quit}
use Rattle.scm_input.specs.Script.{Answer, Batch, BrokenEdit, BrokenRead, Edit, Read, Reply, no_messages_left}
use Rattle.scm_input.specs.declared.events.Event.{Event}
use Rattle.scm_input.specs.declared.events.Event.TheVariants as events
use Rattle.scm_selection.specs.Toggle.{with_all_inverted, with_all_set, with_key_toggled}
use Rattle.scm_selection.proofs.RelationLemmas.{key-same}
use Rattle.scm_record.specs.Change.{Change, stays}
use Rattle.scm_record.specs.Clicks.{after_click, after_click_on, item_event}
use Rattle.scm_record.specs.FrameQueries.{hit, shot_of}
use Rattle.scm_record.specs.Frames.{Scene, scene_of}
use Rattle.scm_record.specs.Live.{Live}
use Rattle.scm_record.specs.LiveCalls.{live_setting, waiting_point}
use Rattle.scm_record.specs.Messages.{edit_if}
use Rattle.scm_record.specs.Run.{Accepted, Before, Breaks, Drawn, Failed, Goes, Point, Reaches, Within, World, after, after_answer, after_edit, batch, here, next_read, no_such_place, on, outcome_by, resume, too_long, with_edits, with_frame_drawn, with_session, with_text, world_at, world_in}
use Rattle.scm_record.specs.Session.{Session, after_expand, after_item, after_toggle, at_key, message_of, message_text, with_menu, with_message, with_pushed, without_pending}
use Rattle.scm_record.specs.Step.{change}
use Rattle.scm_record.specs.declared.session.Flow.{Flow}
use Rattle.scm_record.specs.declared.session.Flow.TheVariants as flows
use Rattle.scm_record.proofs.EndLemmas.{ahead}
use Rattle.scm_record.proofs.MenuLemmas.{IsLow, item-low}
use Rattle.scm_record.proofs.StepLemmas as steps
use Rattle.scm_record.proofs.StepLemmas.{leads}
use Rattle.scm_front_items.specs.Runs.{marks_of_files}
use Rattle.scm_front_items.proofs.PlaceLemmas.{shape}
use Rattle.scm_front_items.proofs.ShapeLemmas.{shape-inverted, shape-set, shape-toggled}
use Rattle.scm_front.specs.declared.recording.Effect.{Effect}
use Rattle.scm_front.specs.declared.recording.Effect.TheVariants as effects
use Rattle.scm_front.specs.declared.recording.Reach.{Reach}
use Rattle.scm_front.specs.declared.recording.Reach.TheVariants.{Nothing, Item}
use Rattle.scm_front.specs.Clicking.{box_at, box_of, merely_selects}
use Rattle.scm_front.specs.Recording.{effect_of, may_mark, reach_by, reach_from, reach_if, reach_of, reach_of_owner}
use Rattle.scm_front.proofs.EffectLemmas.{After, ArePlain, IsNoClick, IsPlain, after-event, as_was, by_all, by_item, click-is, files_in, leaves-plain, low-no-click, plain-append}

abbrev pub files_at : Point → List File
files_at p = files_in (world_at p).session

-- ---- events that are left change no mark

-- all events to come are plain, and none is read
abbrev Left : Point → Type 0
Left (Before w) = ArePlain w.session.pending × (w.reads ≡ [])
Left (Drawn w) = ArePlain w.session.pending × (w.reads ≡ [])
Left (Within drawn w rest) = ArePlain rest × (ArePlain w.session.pending × (w.reads ≡ []))
Left (Accepted w) = Unit {0}
Left (Failed fault w) = Unit {0}

pub record Quiet (files : List File) (p : Point) : Type 0 where
  pub same : files_at p ≡ files
  pub left : Left p

plain-no-click : (event : Event) → IsPlain event → IsNoClick (effect_of event)
plain-no-click event h = by-effect (effect_of event) refl
  where
    by-effect : (x : Effect) → effect_of event ≡ x → IsNoClick x
    by-effect effects.Nothing e = tt
    by-effect effects.Item e = tt
    by-effect effects.All e = tt
    by-effect (effects.Click row column) e = absurd (no (sym (ap may e) ∙ h))
      where
        may : Effect → Bool
        may x = may_mark x

        no : true ≡ false → ⊥
        no q = cc q

same-of : {files new : List File} {r : Reach} → r ≡ Nothing → After files r new → new ≡ files
same-of none (as_was e) = e
same-of none (by_item key is e) = absurd (cc (none, is))
same-of none (by_all is e) = absurd (cc (none, is))

plain-reach : (selection : SelectionKey) (event : Event) → IsPlain event → reach_by selection (effect_of event) ≡ Nothing
plain-reach selection event h = by-effect (effect_of event) refl
  where
    no : true ≡ false → ⊥
    no q = cc q

    by-effect : (x : Effect) → effect_of event ≡ x → reach_by selection x ≡ Nothing
    by-effect effects.Nothing e = refl
    by-effect effects.Item e = absurd (no (sym (ap (λ (y : Effect). may_mark y) e) ∙ h))
    by-effect effects.All e = absurd (no (sym (ap (λ (y : Effect). may_mark y) e) ∙ h))
    by-effect (effects.Click row column) e = refl

-- a plain event leaves the files
plain-files : (scene : Scene) (s : Session) (event : Event) → IsPlain event → files_in (change scene s event).session ≡ files_in s
plain-files scene s event h = same-of (plain-reach s.shown.selection event h) (after-event scene s event (plain-no-click event h))

module _ (files : List File) (drawn : Session) (rest : List Event) (plain : ArePlain rest) where
  short-quiet : (b : Bool) (w v : World) → files_in w.session ≡ files → files_in v.session ≡ files → ArePlain v.session.pending → v.reads ≡ []
      → Quiet files (resume drawn rest (cond b (Goes v) (Breaks too_long w)))
  short-quiet true w v e f p r = record { same = f; left = (plain, (p, r)) }
  short-quiet false w v e f p r = record { same = e; left = tt }

  answered-quiet : (w : World) (commit : ℕ) (edit : Edit) → files_in w.session ≡ files → ArePlain w.session.pending → w.reads ≡ []
      → Quiet files (resume drawn rest (after_answer w commit edit))
  answered-quiet w commit (Answer text) e p r = short-quiet (is_short_text text) w (with_session w (with_message w.session commit text)) e e p r
  answered-quiet w commit (BrokenEdit fault) e p r = record { same = e; left = tt }

  edited-quiet : (w : World) (commit : ℕ) (edits : List Reply) → files_in w.session ≡ files → ArePlain w.session.pending → w.reads ≡ []
      → Quiet files (resume drawn rest (after_edit w commit edits))
  edited-quiet w commit [] e p r = answered-quiet (with_edits w []) commit no_messages_left e p r
  edited-quiet w commit (reply ∷ edits) e p r = answered-quiet (with_edits w edits) commit (reply (message_text w.session commit)) e p r

  shot-quiet : (b : Bool) (w v : World) → files_in w.session ≡ files → files_in v.session ≡ files → ArePlain v.session.pending → v.reads ≡ []
      → Quiet files (resume drawn rest (cond b (Goes v) (Breaks no_such_place w)))
  shot-quiet true w v e f p r = record { same = f; left = (plain, (p, r)) }
  shot-quiet false w v e f p r = record { same = e; left = tt }

  -- what the run does next changes no files
  outcome-quiet : (scene : Scene) (w : World) (flow : Flow) → files_in w.session ≡ files → ArePlain w.session.pending → w.reads ≡ []
      → Quiet files (resume drawn rest (outcome_by scene w flow))
  outcome-quiet scene w flows.GoOn e p r = record { same = e; left = (plain, (p, r)) }
  outcome-quiet scene w flows.Accept e p r = record { same = e; left = tt }
  outcome-quiet scene w flows.Cancel e p r = record { same = e; left = tt }
  outcome-quiet scene w (flows.Edit commit) e p r = edited-quiet w commit w.edits e p r
  outcome-quiet scene w (flows.Shoot place) e p r =
      shot-quiet (nat_lt place (length w.texts)) w (with_text w place (shot_of scene w.session.cleared)) e e p r

module _ (files : List File) where
  read-quiet : (w : World) (reads : List Read) → w.reads ≡ reads → reads ≡ [] → files_in w.session ≡ files → Quiet files (next_read w reads)
  read-quiet w [] e none h = record { same = h; left = tt }
  read-quiet w (Batch list ∷ reads) e none h = absurd (cc none)
  read-quiet w (BrokenRead fault ∷ reads) e none h = absurd (cc none)

  batch-quiet : (w : World) (pending : List Event) → ArePlain pending → w.reads ≡ [] → files_in w.session ≡ files → Quiet files (batch w pending)
  batch-quiet w [] p r h = read-quiet w w.reads refl r h
  batch-quiet w (event ∷ rest) p r h = record { same = h; left = (p, (tt, r)) }

  after-quiet : (p : Point) → Quiet files p → Quiet files (after p)
  after-quiet (Before w) q = record { same = q.same; left = q.left }
  after-quiet (Drawn w) q = batch-quiet w w.session.pending q.left.0 q.left.1 q.same
  after-quiet (Within drawn w []) q = record { same = q.same; left = q.left.1 }
  after-quiet (Within drawn w (event ∷ rest)) q =
      let scene = scene_of w.kind drawn in
      let c = change scene w.session event in
      outcome-quiet files drawn rest q.left.0.1 scene (with_session w c.session) c.flow (plain-files scene w.session event q.left.0.0 ∙ q.same)
      (leaves-plain scene w.session event (plain-no-click event q.left.0.0) q.left.1.0) q.left.1.1
  after-quiet (Accepted w) q = q
  after-quiet (Failed fault w) q = q

  -- nothing that is reached has other files
  pub reaches-quiet : (p : Point) {q : Point} → Reaches p q → Quiet files p → Quiet files q
  reaches-quiet p here h = h
  reaches-quiet p (on {q = q} r) h = after-quiet q (reaches-quiet p r h)

-- ---- one event

-- what an event made of the files stays, if it leaves plain events
settled : (files : List File) (reach : Reach) (drawn : Session) (scene : Scene) (w : World) (c : Change) (q : Point)
    → After files reach (files_in c.session) → ArePlain c.session.pending → w.reads ≡ []
    → Reaches (resume drawn [] (outcome_by scene (with_session w c.session) c.flow)) q → After files reach (files_at q)
settled files reach drawn scene w c q h p r way =
    let quiet = outcome-quiet (files_in c.session) drawn [] tt scene (with_session w c.session) c.flow refl p r in
    subst (λ (fs : List File). After files reach fs) (sym (reaches-quiet (files_in c.session) _ way quiet).same) h

-- one event that is no click, with nothing else to come
handled : (drawn : Session) (w : World) (event : Event) (q : Point) → IsNoClick (effect_of event) → w.session.pending ≡ [] → w.reads ≡ []
    → Reaches (Within drawn w (event ∷ [])) q → After (files_in w.session) (reach_by w.session.shown.selection (effect_of event)) (files_at q)
handled drawn w event q n calm r way = elim (ahead way) [
  | inl is ↦ as_was (ap files_at (sym is))
  | inr later ↦
      settled (files_in w.session) _ drawn (scene_of w.kind drawn) w (change (scene_of w.kind drawn) w.session event) q
      (after-event (scene_of w.kind drawn) w.session event n)
      (leaves-plain (scene_of w.kind drawn) w.session event n (subst ArePlain (sym calm) tt)) r later
]

-- a click on an item of a menu leaves its event
module _ (s : Session) (calm : s.pending ≡ []) (drawn : Session) (w : World) (same_files : files_in w.session ≡ files_in s) (none : w.reads ≡ [])
    (event : Event) (left : w.session.pending ≡ event ∷ []) (selected : w.session.shown.selection ≡ s.shown.selection) (q : Point) where
  abbrev Wanted : Type 0
  Wanted = After (files_in s) (reach_by s.shown.selection (effect_of event)) (files_at q)

  abbrev drawn_world : World
  drawn_world = with_frame_drawn w

  pushed-event : IsNoClick (effect_of event) → Reaches (Within drawn_world.session (with_session drawn_world (without_pending drawn_world.session)) (event ∷ [])) q → Wanted
  pushed-event n way =
      let h = handled drawn_world.session (with_session drawn_world (without_pending drawn_world.session)) event q n refl none way in
      subst (λ (key : SelectionKey). After (files_in s) (reach_by key (effect_of event)) (files_at q)) selected
      (subst (λ (fs : List File). After fs (reach_by w.session.shown.selection (effect_of event)) (files_at q)) same_files h)

  pushed-drawn : IsNoClick (effect_of event) → Reaches (Drawn drawn_world) q → Wanted
  pushed-drawn n way = elim (ahead way) [
    | inl is ↦ as_was (ap files_at (sym is) ∙ same_files)
    | inr later ↦ pushed-event n (subst (λ (list : List Event). Reaches (batch drawn_world list) q) left later)
  ]

  pushed-before : IsNoClick (effect_of event) → Reaches (Before w) q → Wanted
  pushed-before n way = elim (ahead way) [
    | inl is ↦ as_was (ap files_at (sym is) ∙ same_files)
    | inr later ↦ pushed-drawn n later
  ]

  pushed-within : IsNoClick (effect_of event) → Reaches (Within drawn w []) q → Wanted
  pushed-within n way = elim (ahead way) [
    | inl is ↦ as_was (ap files_at (sym is) ∙ same_files)
    | inr later ↦ pushed-before n later
  ]

-- ---- a click

module _ (l : Live) (calm : l.session.pending ≡ []) (scene : Scene) (w : World) (none : w.reads ≡ []) (q : Point) where
  abbrev s : Session
  s = l.session

  abbrev calm_plain : ArePlain l.session.pending
  calm_plain = subst ArePlain (sym calm) tt

  -- the point after a change
  abbrev Later : Change → Type 0
  Later c = Reaches (resume l.session [] (outcome_by scene (with_session w c.session) c.flow)) q

  settles : (reach : Reach) (c : Change) → After (files_in l.session) reach (files_in c.session) → ArePlain c.session.pending → Later c → After (files_in l.session) reach (files_at q)
  settles reach c h p way = settled (files_in l.session) reach l.session scene w c q h p none way

  toggle-by : (key : SelectionKey) (b : Bool) → is_key key l.session.shown.selection ≡ b → Later (stays (cond b (after_toggle l.session) (at_key l.session key)))
      → After (files_in l.session) (Item key) (files_at q)
  toggle-by key false e way = settles (Item key) (stays (at_key l.session key)) (as_was refl) calm_plain way
  toggle-by key true e way = by-lock l.session.shown.state.is_read_only way
    where
      toggled_session : Session
      toggled_session = record l.session { shown = record l.session.shown { state = record l.session.shown.state { files = with_key_toggled l.session.shown.selection l.session.shown.state.files } } }

      by-lock : (lock : Bool) → Later (stays (cond lock l.session toggled_session)) → After (files_in l.session) (Item key) (files_at q)
      by-lock true way = settles (Item key) (stays l.session) (as_was refl) calm_plain way
      by-lock false way =
          settles (Item key) (stays toggled_session)
          (by_item key refl (ap (λ (k : SelectionKey). with_key_toggled k l.session.shown.state.files) (sym (key-same key l.session.shown.selection e)))) calm_plain way

  expand-by : (key : SelectionKey) (b : Bool) → Later (stays (cond b (after_expand l.session) (at_key l.session key))) → After (files_in l.session) Nothing (files_at q)
  expand-by key false way = settles Nothing (stays (at_key l.session key)) (as_was refl) calm_plain way
  expand-by key true way =
      settles Nothing (stays (after_expand l.session)) (as_was refl) (plain-append l.session.pending (events.EnsureSelectionInViewport ∷ []) calm_plain (refl, tt)) way

  edit-by : (commit : ℕ) (message : Option (List ℕ)) → Later (edit_if commit (with_pushed l.session events.Redraw) message) → After (files_in l.session) Nothing (files_at q)
  edit-by commit None way = settles Nothing (stays (with_pushed l.session events.Redraw)) (as_was refl) (plain-append l.session.pending (events.Redraw ∷ []) calm_plain (refl, tt)) way
  edit-by commit (Some text) way =
      settles Nothing (edit_if commit (with_pushed l.session events.Redraw) (Some text)) (as_was refl) (plain-append l.session.pending (events.Redraw ∷ []) calm_plain (refl, tt)) way

  item-by : (o : Option Event) → IsLow o → Later (stays (after_item l.session o)) → After (files_in l.session) (reach_if l.session.shown.selection o) (files_at q)
  item-by None low way = settles Nothing (stays (with_menu l.session None)) (as_was refl) calm_plain way
  item-by (Some event) low way =
      let pushed = with_session w (with_pushed (with_menu l.session None) event) in
      let left : pushed.session.pending ≡ event ∷ [] = ap (λ (list : List Event). list ++ event ∷ []) calm in
      pushed-within l.session calm l.session pushed refl none event left refl q (low-no-click event low) way

  -- by what the click hits
  clicked-on : (id : ComponentId) → Later (after_click_on l.session.shown.open_menu l.session id) → After (files_in l.session) (reach_of_owner l (Some id)) (files_at q)
  clicked-on (ids.ToggleBox key) way = toggle-by key (is_key key l.session.shown.selection) refl way
  clicked-on (ids.ExpandBox key) way = expand-by key (is_key key l.session.shown.selection) way
  clicked-on (ids.FileViewHeader key) way = settles Nothing (after_click_on l.session.shown.open_menu l.session (ids.FileViewHeader key)) (as_was refl) calm_plain way
  clicked-on (ids.SelectableItem key) way = settles Nothing (after_click_on l.session.shown.open_menu l.session (ids.SelectableItem key)) (as_was refl) calm_plain way
  clicked-on (ids.CommitEditMessageButton commit) way = edit-by commit (message_of l.session commit) way
  clicked-on ids.MenuBar way = settles Nothing (after_click_on l.session.shown.open_menu l.session ids.MenuBar) (as_was refl) calm_plain way
  clicked-on (ids.Menu menu) way = settles Nothing (after_click_on l.session.shown.open_menu l.session (ids.Menu menu)) (as_was refl) calm_plain way
  clicked-on (ids.MenuItem item) way = item-by (item_event l.session.shown.open_menu item) (item-low l.session.shown.open_menu item) way
  clicked-on (ids.QuitDialogButton button) way = press-by button way
    where
      press-by : (b : QuitDialogButtonId) → Later (after_click_on l.session.shown.open_menu l.session (ids.QuitDialogButton b)) → After (files_in l.session) Nothing (files_at q)
      press-by Quit way = settles Nothing (after_click_on l.session.shown.open_menu l.session (ids.QuitDialogButton Quit)) (as_was refl) calm_plain way
      press-by GoBack way = settles Nothing (after_click_on l.session.shown.open_menu l.session (ids.QuitDialogButton GoBack)) (as_was refl) calm_plain way
  clicked-on ids.HelpDialogQuitButton way = settles Nothing (after_click_on l.session.shown.open_menu l.session ids.HelpDialogQuitButton) (as_was refl) calm_plain way
  clicked-on ids.QuitDialog way = settles Nothing (after_click_on l.session.shown.open_menu l.session ids.QuitDialog) (as_was refl) calm_plain way
  clicked-on ids.HelpDialog way = settles Nothing (after_click_on l.session.shown.open_menu l.session ids.HelpDialog) (as_was refl) calm_plain way
  clicked-on ids.App way = settles Nothing (after_click_on l.session.shown.open_menu l.session ids.App) (as_was refl) calm_plain way
  clicked-on ids.AppFiles way = settles Nothing (after_click_on l.session.shown.open_menu l.session ids.AppFiles) (as_was refl) calm_plain way
  clicked-on ids.MenuHeader way = settles Nothing (after_click_on l.session.shown.open_menu l.session ids.MenuHeader) (as_was refl) calm_plain way
  clicked-on ids.CommitMessageView way = settles Nothing (after_click_on l.session.shown.open_menu l.session ids.CommitMessageView) (as_was refl) calm_plain way

  clicked : (o : Option ComponentId) → Later (after_click l.session.shown.open_menu l.session o) → After (files_in l.session) (reach_of_owner l o) (files_at q)
  clicked None way = settles Nothing (stays l.session) (as_was refl) calm_plain way
  clicked (Some id) way = clicked-on id way

  -- a click on the box of an item that is not selected merely selects it
  selecting-by : (key : SelectionKey) (done : Session) (b : Bool) → not b ≡ true → Later (stays (cond b done (at_key l.session key))) → files_at q ≡ files_in l.session
  selecting-by key done true e way = absurd (cc e)
  selecting-by key done false e way = same-of refl (settles Nothing (stays (at_key l.session key)) (as_was refl) calm_plain way)

  selecting-on : (o : Option ComponentId) → merely_selects l.session.shown.selection (box_of o) ≡ true → Later (after_click l.session.shown.open_menu l.session o)
      → files_at q ≡ files_in l.session
  selecting-on (Some (ids.ToggleBox key)) e way = selecting-by key (after_toggle l.session) (is_key key l.session.shown.selection) e way
  selecting-on (Some (ids.ExpandBox key)) e way = selecting-by key (after_expand l.session) (is_key key l.session.shown.selection) e way
  selecting-on None e way = absurd (cc e)
  selecting-on (Some (ids.FileViewHeader key)) e way = absurd (cc e)
  selecting-on (Some (ids.SelectableItem key)) e way = absurd (cc e)
  selecting-on (Some (ids.CommitEditMessageButton commit)) e way = absurd (cc e)
  selecting-on (Some ids.MenuBar) e way = absurd (cc e)
  selecting-on (Some (ids.Menu menu)) e way = absurd (cc e)
  selecting-on (Some (ids.MenuItem item)) e way = absurd (cc e)
  selecting-on (Some (ids.QuitDialogButton b)) e way = absurd (cc e)
  selecting-on (Some ids.HelpDialogQuitButton) e way = absurd (cc e)
  selecting-on (Some ids.QuitDialog) e way = absurd (cc e)
  selecting-on (Some ids.HelpDialog) e way = absurd (cc e)
  selecting-on (Some ids.App) e way = absurd (cc e)
  selecting-on (Some ids.AppFiles) e way = absurd (cc e)
  selecting-on (Some ids.MenuHeader) e way = absurd (cc e)
  selecting-on (Some ids.CommitMessageView) e way = absurd (cc e)

-- so it leaves the files
module _ (l : Live) (row column : ℕ) (q : Point) (calm : l.session.pending ≡ []) (selects : merely_selects l.session.shown.selection (box_at l row column) ≡ true) where
  selecting-within : Reaches (Within l.session (world_in (live_setting l.kind [] []) l.session 0) (events.Click row column ∷ [])) q → files_at q ≡ files_in l.session
  selecting-within way = elim (ahead way) [
    | inl is ↦ ap files_at (sym is)
    | inr later ↦
        selecting-on l calm (scene_of l.kind l.session) (world_in (live_setting l.kind [] []) l.session 0) refl q
        (hit (scene_of l.kind l.session) l.session.scroll row column) selects later
  ]

  pub selecting-reach : Reaches (waiting_point l (Batch (events.Click row column ∷ []) ∷ []) [] 0) q → files_at q ≡ files_in l.session
  selecting-reach way = elim (ahead way) [
    | inl is ↦ ap files_at (sym is)
    | inr later ↦
        selecting-within
        (subst (λ (list : List Event). Reaches (batch (world_in (live_setting l.kind (Batch (events.Click row column ∷ []) ∷ []) []) l.session 0) list) q) calm later)
  ]

-- ---- any event

module _ (l : Live) (event : Event) (q : Point) (calm : l.session.pending ≡ []) where
  abbrev read_world : World
  read_world = world_in (live_setting l.kind [] []) l.session 0

  no-click : IsNoClick (effect_of event) → Reaches (Within l.session read_world (event ∷ [])) q
      → After (files_in l.session) (reach_by l.session.shown.selection (effect_of event)) (files_at q)
  no-click n way = handled l.session read_world event q n calm refl way

  click : (row column : ℕ) → Reaches (Within l.session read_world (events.Click row column ∷ [])) q
      → After (files_in l.session) (reach_of_owner l (hit (scene_of l.kind l.session) l.session.scroll row column)) (files_at q)
  click row column way = elim (ahead way) [
    | inl is ↦ as_was (ap files_at (sym is))
    | inr later ↦ clicked l calm (scene_of l.kind l.session) read_world refl q (hit (scene_of l.kind l.session) l.session.scroll row column) later
  ]

  by-effect : (x : Effect) → effect_of event ≡ x → Reaches (Within l.session read_world (event ∷ [])) q → After (files_in l.session) (reach_from l x) (files_at q)
  by-effect effects.Nothing e way =
      subst (λ (r : Reach). After (files_in l.session) r (files_at q)) (ap (reach_by l.session.shown.selection) e) (no-click (subst IsNoClick (sym e) tt) way)
  by-effect effects.Item e way =
      subst (λ (r : Reach). After (files_in l.session) r (files_at q)) (ap (reach_by l.session.shown.selection) e) (no-click (subst IsNoClick (sym e) tt) way)
  by-effect effects.All e way =
      subst (λ (r : Reach). After (files_in l.session) r (files_at q)) (ap (reach_by l.session.shown.selection) e) (no-click (subst IsNoClick (sym e) tt) way)
  by-effect (effects.Click row column) e way =
      click row column (subst (λ (x : Event). Reaches (Within l.session read_world (x ∷ [])) q) (click-is event row column e) way)

  -- whatever an event leads to has its files, but for the marks within the reach of the event
  pub event-reach : Reaches (waiting_point l (Batch (event ∷ []) ∷ []) [] 0) q → After (files_in l.session) (reach_of l event) (files_at q)
  event-reach way = elim (ahead way) [
    | inl is ↦ as_was (ap files_at (sym is))
    | inr later ↦
        by-effect (effect_of event) refl
        (subst (λ (list : List Event). Reaches (batch (world_in (live_setting l.kind (Batch (event ∷ []) ∷ []) []) l.session 0) list) q) calm later)
  ]

-- ---- many events

-- plain events leave the files
pub batch-quiet-reach : (l : Live) (list : List Event) (q : Point) → l.session.pending ≡ [] → ArePlain list
    → Reaches (waiting_point l (Batch list ∷ []) [] 0) q → files_at q ≡ files_in l.session
batch-quiet-reach l list q calm plain way = elim (ahead way) [
  | inl is ↦ ap files_at (sym is)
  | inr later ↦
      let within = subst (λ (pending : List Event). Reaches (batch (world_in (live_setting l.kind (Batch list ∷ []) []) l.session 0) pending) q) calm later in
      (reaches-quiet (files_in l.session) (Within l.session (world_in (live_setting l.kind [] []) l.session 0) list) within
      (record { same = refl; left = (plain, (subst ArePlain (sym calm) tt, refl)) })).same
]

-- ---- the number of marks of each section stays

abbrev pub shape_in : Session → List (List ℕ)
shape_in s = shape (marks_of_files (files_in s))

locked-shape : (b : Bool) (s : Session) (f : List File → List File) → shape (marks_of_files (f (files_in s))) ≡ shape_in s
    → shape (marks_of_files (cond b s (record s { shown = record s.shown { state = record s.shown.state { files = f s.shown.state.files } } })).shown.state.files) ≡ shape_in s
locked-shape true s f e = refl
locked-shape false s f e = e

marks-shape : (s : Session) (state : RecordState) (flow : Flow) → steps.Marks s state flow → shape (marks_of_files state.files) ≡ shape_in s
marks-shape s _ _ (steps.unmarked allowed) = refl
marks-shape s _ _ steps.toggled = locked-shape s.shown.state.is_read_only s (with_key_toggled s.shown.selection) (shape-toggled s.shown.selection (files_in s))
marks-shape s _ _ steps.inverted = locked-shape s.shown.state.is_read_only s with_all_inverted (shape-inverted (files_in s))
marks-shape s _ _ steps.all_set = locked-shape s.shown.state.is_read_only s with_all_set (shape-set (files_in s))

abbrev shape_at : Point → List (List ℕ)
shape_at p = shape_in (world_at p).session

module _ (drawn : Session) (rest : List Event) where
  short-shape : (b : Bool) (w v : World) → shape_in v.session ≡ shape_in w.session → shape_at (resume drawn rest (cond b (Goes v) (Breaks too_long w))) ≡ shape_in w.session
  short-shape true w v e = e
  short-shape false w v e = refl

  answered-shape : (w : World) (commit : ℕ) (edit : Edit) → shape_at (resume drawn rest (after_answer w commit edit)) ≡ shape_in w.session
  answered-shape w commit (Answer text) = short-shape (is_short_text text) w (with_session w (with_message w.session commit text)) refl
  answered-shape w commit (BrokenEdit fault) = refl

  edited-shape : (w : World) (commit : ℕ) (edits : List Reply) → shape_at (resume drawn rest (after_edit w commit edits)) ≡ shape_in w.session
  edited-shape w commit [] = answered-shape (with_edits w []) commit no_messages_left
  edited-shape w commit (reply ∷ edits) = answered-shape (with_edits w edits) commit (reply (message_text w.session commit))

  shot-shape : (b : Bool) (w v : World) → shape_in v.session ≡ shape_in w.session → shape_at (resume drawn rest (cond b (Goes v) (Breaks no_such_place w))) ≡ shape_in w.session
  shot-shape true w v e = e
  shot-shape false w v e = refl

  outcome-shape : (scene : Scene) (w : World) (flow : Flow) → shape_at (resume drawn rest (outcome_by scene w flow)) ≡ shape_in w.session
  outcome-shape scene w flows.GoOn = refl
  outcome-shape scene w flows.Accept = refl
  outcome-shape scene w flows.Cancel = refl
  outcome-shape scene w (flows.Edit commit) = edited-shape w commit w.edits
  outcome-shape scene w (flows.Shoot place) = shot-shape (nat_lt place (length w.texts)) w (with_text w place (shot_of scene w.session.cleared)) refl

read-shape : (w : World) (reads : List Read) → shape_at (next_read w reads) ≡ shape_in w.session
read-shape w [] = refl
read-shape w (Batch list ∷ reads) = refl
read-shape w (BrokenRead fault ∷ reads) = refl

batch-shape : (w : World) (pending : List Event) → shape_at (batch w pending) ≡ shape_in w.session
batch-shape w [] = read-shape w w.reads
batch-shape w (event ∷ rest) = refl

after-shape : (p : Point) → shape_at (after p) ≡ shape_at p
after-shape (Before w) = refl
after-shape (Drawn w) = batch-shape w w.session.pending
after-shape (Within drawn w []) = refl
after-shape (Within drawn w (event ∷ rest)) =
    let scene = scene_of w.kind drawn in
    let c = change scene w.session event in
    outcome-shape drawn rest scene (with_session w c.session) c.flow ∙ marks-shape w.session c.session.shown.state c.flow (leads scene w.session event).marks
after-shape (Accepted w) = refl
after-shape (Failed fault w) = refl

-- all that is reached has as many marks in each section
pub reaches-shape : (p : Point) {q : Point} → Reaches p q → shape_at q ≡ shape_at p
reaches-shape p here = refl
reaches-shape p (on {q = q} r) = after-shape q ∙ reaches-shape p r
