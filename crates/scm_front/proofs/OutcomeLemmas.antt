-- Events after which a session always waits: they lead to no other turn, and fail for memory alone.
use Rattle.std.proofs.Common.{◌≡◌, ℕ, Bool, true, false, cond, ◌&&◌, List, [], ◌∷◌, ◌++◌, Option, Some, None, refl, sym, ap, ◌∙◌, subst}
use Rattle.std.specs.Prelude.{is_some}
use Rattle.scm_errors.specs.Fault.{Fault}
use Rattle.scm_errors.specs.Fault as faults
use Rattle.scm_errors.specs.declared.error.RecordError.{RecordError}
use Rattle.scm_errors.specs.declared.error.RecordError.TheVariants as errors
use Rattle.scm_types.specs.declared.keys.SelectionKey.{SelectionKey}
use Rattle.scm_view.specs.ViewState.{ViewState}
use Rattle.scm_selection.specs.KeyLists.{all_keys}
use Rattle.scm_selection.specs.KeySet.{is_same_set, key_set}
use Rattle.scm_selection.specs.Toggle.{with_key_toggled}
use Rattle.scm_types.specs.Keys.{file_of}
use Rattle.scm_input.specs.Script.{Batch, BrokenRead, no_events_left}
use Rattle.scm_input.specs.declared.events.Event.{Event}
use Rattle.scm_input.specs.declared.events.Event.TheVariants as events
use Rattle.scm_input.specs.declared.inputs.TerminalKind.{TerminalKind}
use Rattle.scm_record.specs.Session.{Session, after_expand, after_expand_all, after_frame, after_toggle, with_help}
use Rattle.scm_record.specs.Frames.{scene_of}
use Rattle.scm_record.specs.Change.{stays}
use Rattle.scm_record.specs.Dialogs.{is_quit_dialog_open}
use Rattle.scm_record.specs.Step.{change}
use Rattle.scm_record.specs.Run.{World, world_in, Point, Accepted, Drawn, Failed, Reaches, after, batch, on}
use Rattle.scm_record.specs.Live.{Live}
use Rattle.scm_record.specs.Jumps.{can_select, after_jump, after_selecting}
use Rattle.scm_record.specs.LiveCalls.{EventFails, EventLeads, live_setting, waiting_point}
use Rattle.scm_record.specs.declared.live.Turn.{Turn}
use Rattle.scm_record.specs.declared.live.Turn.TheVariants as turns
use Rattle.scm_record.proofs.EndLemmas.{one_end}
use Rattle.scm_front.specs.Starting.{IsRefolded}
use Rattle.scm_front.proofs.TurnLemmas.{drawn_once, drawn_twice, leads-to-scroll, leads-to-stay, no-event, one-live}

-- ---- one outcome

-- without a further read the run ends, since no events are left
no-more : (l next : Live) (event : Event) → EventLeads l event (turns.Waiting next)
    → (w : World) × Reaches (waiting_point l (Batch (event ∷ []) ∷ []) [] 0) (Failed no_events_left w)
no-more l next event g =
    let x = g [] [] 0 in
    (_, subst (λ (p : Point). Reaches (waiting_point l (Batch (event ∷ []) ∷ []) [] 0) p) (no-event next.kind next.session x.0 x.2) (on x.3))

-- if the next read is broken, the run ends by its fault
broken : (kind : TerminalKind) (s : Session) (frames : ℕ) → s.pending ≡ []
    → (w : World) × (after (Drawn (world_in (live_setting kind (BrokenRead faults.Cancelled ∷ []) []) s frames)) ≡ Failed faults.Cancelled w)
broken kind s frames e = (_, ap (λ (list : List Event). batch (world_in (live_setting kind (BrokenRead faults.Cancelled ∷ []) []) s frames) list) e)

broken-next : (l next : Live) (event : Event) → EventLeads l event (turns.Waiting next)
    → (w : World) × Reaches (waiting_point l (Batch (event ∷ []) ∷ (BrokenRead faults.Cancelled ∷ [])) [] 0) (Failed faults.Cancelled w)
broken-next l next event g =
    let x = g (BrokenRead faults.Cancelled ∷ []) [] 0 in
    let end = broken next.kind next.session x.0 x.2 in
    (end.0, subst (λ (p : Point). Reaches (waiting_point l (Batch (event ∷ []) ∷ (BrokenRead faults.Cancelled ∷ [])) [] 0) p) end.1 (on x.3))

same-fault : (f g : Fault) (w v : World) → Failed f w ≡ Failed g v → f ≡ g
same-fault f g w v e = cc

accepted-no : (f : Fault) (w v : World) → Accepted w ≡ Failed f v → ⊥
accepted-no f w v e = cc e

edit-no : (text : List ℕ) → faults.Other text ≡ no_events_left → ⊥
edit-no text e = cc e

-- an event that leads to a session that waits leads to no other turn
pub one-turn : (l next : Live) (event : Event) (turn : Turn) → EventLeads l event (turns.Waiting next) → EventLeads l event turn
    → turn ≡ turns.Waiting next
one-turn l next event (turns.Waiting other) g h = ap (λ (x : Live). turns.Waiting x) (one-live l other next event h g)
one-turn l next event (turns.Editing a) g h =
    let end = no-more l next event g in
    absurd (edit-no _ (same-fault _ _ _ _ (one_end _ _ _ (h [] [] 0).4 end.1 tt tt)))
one-turn l next event (turns.Accepted state) g h =
    let end = no-more l next event g in
    absurd (accepted-no _ _ _ (one_end _ _ _ (h [] [] 0).3 end.1 tt tt))

module _ (l next : Live) (event : Event) (g : EventLeads l event (turns.Waiting next)) where
  -- a fault that ends it is that of a read
  is-end : (f : Fault) (w : World) → Reaches (waiting_point l (Batch (event ∷ []) ∷ []) [] 0) (Failed f w) → f ≡ no_events_left
  is-end f w r = let end = no-more l next event g in same-fault _ _ _ _ (one_end _ _ _ r end.1 tt tt)

  is-broken : (f : Fault) (w : World) → Reaches (waiting_point l (Batch (event ∷ []) ∷ (BrokenRead faults.Cancelled ∷ [])) [] 0) (Failed f w) → f ≡ faults.Cancelled
  is-broken f w r = let end = broken-next l next event g in same-fault _ _ _ _ (one_end _ _ _ r end.1 tt tt)

  -- it fails for memory alone
  pub memory-alone : (error : RecordError) → EventFails l event error → error ≡ errors.OutOfMemory
  memory-alone errors.Cancelled h = absurd (cc (is-end _ _ (h [] [] 0).1))
  memory-alone (errors.SetUpTerminal text) h = absurd (cc (is-end _ _ (h [] [] 0).1))
  memory-alone (errors.CleanUpTerminal text) h = absurd (cc (is-end _ _ (h [] [] 0).1))
  memory-alone (errors.RenderFrame text) h = absurd (cc (is-end _ _ (h [] [] 0).1))
  memory-alone (errors.ReadInput text) h = absurd (cc (is-broken _ _ (h (BrokenRead faults.Cancelled ∷ []) [] 0).1))
  memory-alone (errors.SerializeJson text) h = absurd (cc (is-end _ _ (h [] [] 0).1))
  memory-alone (errors.WriteFile text) h = absurd (cc (is-end _ _ (h [] [] 0).1))
  memory-alone (errors.Other text) h = absurd (cc (is-end _ _ (h [] [] 0).1))
  memory-alone (errors.Bug text) h = absurd (cc (is-end _ _ (h [] [] 0).1))
  memory-alone errors.OutOfMemory h = refl

-- ---- sessions that differ by folds, the selection and the scroll alone

abbrev pub IsRefoldedView : ViewState → ViewState → Type 0
IsRefoldedView old new = new ≡ record old { selection = new.selection; expanded = new.expanded }

pub same-folds : (l : Live) → IsRefolded l l
same-folds l = record { kind = refl; shown = refl }

pub via-view : (first mid last : ViewState) → IsRefoldedView first mid → IsRefoldedView mid last → IsRefoldedView first last
via-view first mid last e f =
    f ∙ ap (λ (view : ViewState). record view { selection = last.selection; expanded = last.expanded }) e

pub folds-via : (first mid last : Live) → IsRefolded first mid → IsRefolded mid last → IsRefolded first last
folds-via first mid last e f = record {
  kind = f.kind ∙ e.kind;
  shown = via-view first.session.shown mid.session.shown last.session.shown e.shown f.shown;
}

-- ---- events that lead to a session that waits

-- without a dialog or with one
by-dialog : {X A : Type 0} (dialog : Option X) → (dialog ≡ None → A) → (is_some dialog ≡ true → A) → A
by-dialog None f g = f refl
by-dialog (Some d) f g = g refl

-- the event leads to a session that waits, with this view state
pub record Comes (l : Live) (event : Event) (view : ViewState) : Type 0 where
  pub next : Live
  pub leads : EventLeads l event (turns.Waiting next)
  pub kind : next.kind ≡ l.kind
  pub shown : next.session.shown ≡ view

abbrev pub Waits : Live → Event → Type 0
Waits l event = (next : Live) × EventLeads l event (turns.Waiting next)

module _ (l : Live) (event : Event) (t : Session) (calm : l.session.pending ≡ []) (is : change (scene_of l.kind l.session) l.session event ≡ stays t) where
  comes-calm : t.pending ≡ [] → Comes l event t.shown
  comes-calm e = record {
    next = drawn_once l event t calm is;
    leads = leads-to-stay l event t calm is e;
    kind = refl;
    shown = refl;
  }

  comes-scrolled : t.pending ≡ events.EnsureSelectionInViewport ∷ [] → Comes l event t.shown
  comes-scrolled e = record {
    next = drawn_twice l event t calm is;
    leads = leads-to-scroll l event t calm is e;
    kind = refl;
    shown = refl;
  }

pushed : (list : List Event) → list ≡ [] → list ++ events.EnsureSelectionInViewport ∷ [] ≡ events.EnsureSelectionInViewport ∷ []
pushed list e = ap (λ (es : List Event). es ++ events.EnsureSelectionInViewport ∷ []) e

-- the event leads to a session that waits, and is refolded
pub record ComesRefolded (l : Live) (event : Event) : Type 0 where
  pub next : Live
  pub leads : EventLeads l event (turns.Waiting next)
  pub refolded : IsRefolded l next

refolded-by : (l : Live) (event : Event) (view : ViewState) → Comes l event view → IsRefoldedView l.session.shown view → ComesRefolded l event
refolded-by l event view c h = record {
  next = c.next;
  leads = c.leads;
  refolded = record { kind = c.kind; shown = subst (IsRefoldedView l.session.shown) (sym c.shown) h };
}

-- the view state after an event that folds or unfolds all: an open quit dialog ignores it
abbrev pub flipped_view : ViewState → ViewState
flipped_view view =
    cond (is_some view.quit_dialog) view
    (cond (is_same_set view.expanded (key_set (all_keys view.state.files)))
    (record view { selection = file_of view.selection; expanded = [] })
    (record view { expanded = key_set (all_keys view.state.files) }))

pub record ComesFlipped (l : Live) : Type 0 where
  pub next : Live
  pub leads : EventLeads l events.ExpandAll (turns.Waiting next)
  pub kind : next.kind ≡ l.kind
  pub shown : next.session.shown ≡ flipped_view l.session.shown

pub flip-all : (l : Live) → l.session.pending ≡ [] → ComesFlipped l
flip-all l calm = by-dialog l.session.shown.quit_dialog without under
  where
    s : Session
    s = l.session

    flipped : Session
    flipped = after_expand_all s

    by : (view : ViewState) → view ≡ flipped_view s.shown → Comes l events.ExpandAll view → ComesFlipped l
    by view e c = record { next = c.next; leads = c.leads; kind = c.kind; shown = c.shown ∙ e }

    shown-of : (c : Bool) (a b : Session) → (cond c a b).shown ≡ cond c a.shown b.shown
    shown-of true a b = refl
    shown-of false a b = refl

    is-pushed : (c : Bool) (a b : Session) → a.pending ≡ [] → b.pending ≡ [] → (cond c a b).pending ≡ []
    is-pushed true a b e f = e
    is-pushed false a b e f = f

    without : s.shown.quit_dialog ≡ None → ComesFlipped l
    without e =
        let is : change (scene_of l.kind s) s events.ExpandAll ≡ stays flipped = rw e refl in
        let calm_then = is-pushed (is_same_set s.shown.expanded (key_set (all_keys s.shown.state.files)))
        (record s { shown = record s.shown { selection = file_of s.shown.selection; expanded = [] } })
        (record s { shown = record s.shown { expanded = key_set (all_keys s.shown.state.files) } }) calm calm in
        let view = shown-of (is_same_set s.shown.expanded (key_set (all_keys s.shown.state.files)))
        (record s { shown = record s.shown { selection = file_of s.shown.selection; expanded = [] } })
        (record s { shown = record s.shown { expanded = key_set (all_keys s.shown.state.files) } }) in
        by flipped.shown (view ∙ sym (rw e refl)) (comes-scrolled l events.ExpandAll flipped calm is (pushed _ calm_then))

    under : is_quit_dialog_open s ≡ true → ComesFlipped l
    under e =
        let is : change (scene_of l.kind s) s events.ExpandAll ≡ stays s = ap (λ (b : Bool). cond b (stays s) (stays flipped)) e in
        by s.shown (sym (rw e refl)) (comes-calm l events.ExpandAll s calm is calm)

either-refolds : (c : Bool) (old a b : ViewState) → IsRefoldedView old a → IsRefoldedView old b → IsRefoldedView old (cond c a b)
either-refolds true old a b h k = h
either-refolds false old a b h k = k

-- only the selection and the folds differ then
pub flipped-refolds : (view : ViewState) → IsRefoldedView view (flipped_view view)
flipped-refolds view =
    either-refolds (is_some view.quit_dialog) view _ _ refl
    (either-refolds (is_same_set view.expanded (key_set (all_keys view.state.files))) view _ _ refl refl)

pub expand-item : (l : Live) → l.session.pending ≡ [] → ComesRefolded l events.ExpandItem
expand-item l calm = by-dialog l.session.shown.quit_dialog without under
  where
    s : Session
    s = l.session

    without : s.shown.quit_dialog ≡ None → ComesRefolded l events.ExpandItem
    without e =
        let t = after_expand s in
        let is : change (scene_of l.kind s) s events.ExpandItem ≡ stays t = rw e refl in
        refolded-by l events.ExpandItem t.shown (comes-scrolled l events.ExpandItem t calm is (pushed _ calm)) refl

    under : is_quit_dialog_open s ≡ true → ComesRefolded l events.ExpandItem
    under e =
        let is : change (scene_of l.kind s) s events.ExpandItem ≡ stays s = ap (λ (b : Bool). cond b (stays s) (stays (after_expand s))) e in
        refolded-by l events.ExpandItem s.shown (comes-calm l events.ExpandItem s calm is calm) refl

-- a toggle closes the help if it is open; a quit dialog would take it
pub toggle-item : (l : Live) → l.session.pending ≡ [] → l.session.shown.quit_dialog ≡ None → Waits l events.ToggleItem
toggle-item l calm closed = by-help l.session.shown.is_help_open refl
  where
    s : Session
    s = l.session

    is-calm : (b : Bool) (changed : Session) → changed.pending ≡ [] → (cond b s changed).pending ≡ []
    is-calm true changed e = calm
    is-calm false changed e = e

    by-help : (is_open : Bool) → s.shown.is_help_open ≡ is_open → Waits l events.ToggleItem
    by-help true e =
        let t = with_help s false in
        let is : change (scene_of l.kind s) s events.ToggleItem ≡ stays t = rw e refl in
        let c = comes-calm l events.ToggleItem t calm is calm in
        (c.next, c.leads)
    by-help false e =
        let t = after_toggle s in
        let is : change (scene_of l.kind s) s events.ToggleItem ≡ stays t = rw (e, closed) refl in
        let toggled : Session = record s { shown = record s.shown { state = record s.shown.state { files = with_key_toggled s.shown.selection s.shown.state.files } } } in
        let c = comes-calm l events.ToggleItem t calm is (is-calm s.shown.state.is_read_only toggled calm) in
        (c.next, c.leads)

-- ---- jumps

pub jump-refolds : (l : Live) (key : SelectionKey) → IsRefolded l (after_jump l key)
jump-refolds l key = record { kind = refl; shown = refl }

pub selecting-refolds : (l : Live) (key : SelectionKey) → IsRefolded l (after_selecting l key)
selecting-refolds l key = by-can (can_select l key)
  where
    by-can : (can : Bool) → IsRefolded l (cond can (after_jump l key) l)
    by-can true = jump-refolds l key
    by-can false = same-folds l
