-- An event leads a live session to one turn at most that waits, and what it is.
use Rattle.std.proofs.Common.{◌≡◌, ℕ, ◌+◌, inl, inr, Bool, true, false, cond, List, [], ◌∷◌, ◌++◌, None, sym, ap, ◌∙◌, refl, subst}
use Rattle.scm_input.specs.Script.{Read, Batch, Reply, no_events_left}
use Rattle.scm_input.specs.declared.events.Event.{Event}
use Rattle.scm_input.specs.declared.events.Event.TheVariants as events
use Rattle.scm_input.specs.declared.inputs.TerminalKind.{TerminalKind}
use Rattle.scm_record.specs.Session.{Session, after_frame, without_pending, with_scroll, after_select, after_toggle, visible}
use Rattle.scm_record.specs.Moves.{next_key}
use Rattle.scm_record.specs.KeyLists.{first_key}
use Rattle.scm_record.specs.Toggle.{with_key_toggled}
use Rattle.scm_record.specs.Frames.{Scene, scene_of}
use Rattle.scm_record.specs.FrameQueries.{scroll_to_show}
use Rattle.scm_record.specs.Change.{stays}
use Rattle.scm_record.specs.Step.{change}
use Rattle.scm_record.specs.Run.{World, world_in, Point, Drawn, Failed, batch, after, Reaches, here, on, world_at}
use Rattle.scm_record.specs.Live.{Live}
use Rattle.scm_record.specs.LiveCalls.{EventLeads, live_setting, waiting_point}
use Rattle.scm_record.specs.declared.live.Turn.TheVariants.{Waiting}
use Rattle.scm_record.proofs.EndLemmas.{ahead, either}
use Rattle.scm_record.proofs.RunLemmas.{reaches-trans}
use Rattle.scm_record.proofs.LiveLemmas.{goes, reads-event, calm-session, comes-to-wait, comes-to-handle}

-- ---- points that are reached

-- an end reaches only itself
failed-alone : {w : World} {q : Point} → Reaches (Failed no_events_left w) q → q ≡ Failed no_events_left w
failed-alone here = refl
failed-alone (on a) = ap after (failed-alone a)

-- a session that waits for an event which does not come
abbrev alone_point : TerminalKind → Session → ℕ → Point
alone_point kind s frames = Drawn (world_in (live_setting kind [] []) s frames)

pub no-event : (kind : TerminalKind) (s : Session) (frames : ℕ) → s.pending ≡ []
    → after (alone_point kind s frames) ≡ Failed no_events_left (world_in (live_setting kind [] []) s frames)
no-event kind s frames e = ap (λ (list : List Event). batch (world_in (live_setting kind [] []) s frames) list) e

drawn-is-not-failed : {w v : World} → Drawn w ≡ Failed no_events_left v → ⊥
drawn-is-not-failed e = cc

reaches-same : (kind other : TerminalKind) (s t : Session) (m n : ℕ) → s.pending ≡ []
    → Reaches (alone_point kind s m) (alone_point other t n) → s ≡ t
reaches-same kind other s t m n e r = elim (ahead r) [
  | inl same ↦ ap (λ (p : Point). (world_at p).session) same
  | inr later ↦ absurd (drawn-is-not-failed (failed-alone (subst (λ (p : Point). Reaches p (alone_point other t n)) (no-event kind s m e) later)))
]

-- ---- turns

-- an event leads to one turn that waits
pub waits-once : (l a b : Live) (event : Event) → EventLeads l event (Waiting a) → EventLeads l event (Waiting b) → a.session ≡ b.session
waits-once l a b event g h =
    let x = g [] [] 0 in
    let y = h [] [] 0 in
    elim (either x.3 y.3) [
      | inl r ↦ reaches-same a.kind b.kind a.session b.session x.0 y.0 x.2 r
      | inr r ↦ sym (reaches-same b.kind a.kind b.session a.session y.0 x.0 y.2 r)
    ]

pub kept-kind : (l a : Live) (event : Event) → EventLeads l event (Waiting a) → a.kind ≡ l.kind
kept-kind l a event g = (g [] [] 0).1

pub same-live : (a b : Live) → a.session ≡ b.session → a.kind ≡ b.kind → a ≡ b
same-live a b e f =
    ap (λ (s : Session). record a { session = s }) e ∙ ap (λ (k : TerminalKind). record b { kind = k }) f

pub one-live : (l a b : Live) (event : Event) → EventLeads l event (Waiting a) → EventLeads l event (Waiting b) → a ≡ b
one-live l a b event g h = same-live a b (waits-once l a b event g h) (kept-kind l a event g ∙ sym (kept-kind l b event h))

module _ (l : Live) (event : Event) (t : Session) (calm : l.session.pending ≡ []) (is : change (scene_of l.kind l.session) l.session event ≡ stays t) where
  -- the event is followed by a frame
  drawn-after : (reads : List Read) (edits : List Reply) (frames : ℕ)
      → Reaches (waiting_point l (Batch (event ∷ []) ∷ reads) edits frames) (Drawn (world_in (live_setting l.kind reads edits) (after_frame t) (frames + 1)))
  drawn-after reads edits frames =
      reaches-trans (reads-event l event reads edits frames calm)
      (goes (live_setting l.kind reads edits) l.session l.session t frames event ((stays t).flow) is refl)

  abbrev pub drawn_once : Live
  drawn_once = record { session = without_pending (after_frame t); kind = l.kind }

  pub leads-to-stay : t.pending ≡ [] → EventLeads l event (Waiting drawn_once)
  leads-to-stay e reads edits frames = comes-to-wait _ l.kind reads edits t _ (frames + 1) (sym e) refl (drawn-after reads edits frames)

  -- an event that leaves nothing pending
  pub stays-so : (next : Live) → t.pending ≡ [] → EventLeads l event (Waiting next) → next.session ≡ after_frame t
  stays-so next e g = waits-once l next drawn_once event g (leads-to-stay e) ∙ sym (calm-session t _ (sym e) refl)

  -- an event that scrolls to the selection
  abbrev scene_then : Scene
  scene_then = scene_of l.kind (after_frame t)

  abbrev unscrolled : Session
  unscrolled = without_pending (after_frame t)

  abbrev scrolled : Session
  scrolled = with_scroll unscrolled (scroll_to_show scene_then unscrolled.scroll unscrolled.shown.selection)

  abbrev pub drawn_twice : Live
  drawn_twice = record { session = without_pending (after_frame scrolled); kind = l.kind }

  pub leads-to-scroll : t.pending ≡ events.EnsureSelectionInViewport ∷ [] → EventLeads l event (Waiting drawn_twice)
  leads-to-scroll e reads edits frames =
      let handled = comes-to-handle _ (live_setting l.kind reads edits) t unscrolled (frames + 1) events.EnsureSelectionInViewport (sym e) refl (drawn-after reads edits frames) in
      let drawn = goes (live_setting l.kind reads edits) (after_frame t) unscrolled scrolled (frames + 1) events.EnsureSelectionInViewport ((stays scrolled).flow) refl refl in
      comes-to-wait _ l.kind reads edits scrolled _ (frames + 1 + 1) refl refl (reaches-trans handled drawn)

  pub scrolls-so : (next : Live) → t.pending ≡ events.EnsureSelectionInViewport ∷ [] → EventLeads l event (Waiting next)
      → next.session ≡ without_pending (after_frame scrolled)
  scrolls-so next e g = waits-once l next drawn_twice event g (leads-to-scroll e)

-- ---- a move and a toggle

calm-toggle : (s : Session) → s.pending ≡ [] → (after_toggle s).pending ≡ []
calm-toggle s e = kept-pending s.shown.state.is_read_only e where
  kept-pending : (b : Bool) → s.pending ≡ [] → (cond b s (record s { shown = record s.shown { state = record s.shown.state { files = with_key_toggled s.shown.selection s.shown.state.files } } })).pending ≡ []
  kept-pending true e = e
  kept-pending false e = e

pub next-so : (l next : Live) → l.session.pending ≡ [] → l.session.shown.quit_dialog ≡ None → EventLeads l events.FocusNext (Waiting next)
    → next.session.shown ≡ (after_select l.session (next_key (visible l.session) l.session.shown.selection (first_key l.session.shown.state.files))).shown
next-so l next calm closed g =
    let t = after_select l.session (next_key (visible l.session) l.session.shown.selection (first_key l.session.shown.state.files)) in
    let is : change (scene_of l.kind l.session) l.session events.FocusNext ≡ stays t = rw closed refl in
    let pushed : t.pending ≡ events.EnsureSelectionInViewport ∷ [] = ap (λ (list : List Event). list ++ events.EnsureSelectionInViewport ∷ []) calm in
    ap (λ (s : Session). s.shown) (scrolls-so l events.FocusNext t calm is next pushed g)

pub toggle-so : (l next : Live) → l.session.pending ≡ [] → l.session.shown.quit_dialog ≡ None → l.session.shown.is_help_open ≡ false
    → EventLeads l events.ToggleItem (Waiting next) → next.session ≡ after_frame (after_toggle l.session)
toggle-so l next calm closed shut g =
    let t = after_toggle l.session in
    let is : change (scene_of l.kind l.session) l.session events.ToggleItem ≡ stays t = rw (shut, closed) refl in
    stays-so l events.ToggleItem t calm is next (calm-toggle l.session calm) g
