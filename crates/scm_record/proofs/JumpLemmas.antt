-- A jump to a key is what a batch of moves leads to.
use Rattle.std.proofs.Common.{◌≡◌, ℕ, zero, suc, ◌+◌, min, Bool, true, false, cond, List, [], ◌∷◌, ◌++◌, refl, sym, ap, ◌∙◌, subst, Option, Some, None, arith}
use Rattle.std.specs.Prelude.{is_some, not}
use Rattle.std.proofs.lemmas.Bool.{and_parts, not-true}
use Rattle.std.proofs.lemmas.Bool.Decides.{nat_tests}
use Rattle.scm_types.specs.Limits.{max_scroll}
use Rattle.scm_types.specs.declared.file.File.{File}
use Rattle.scm_types.specs.declared.keys.SelectionKey.{SelectionKey}
use Rattle.scm_types.specs.declared.keys.SelectionKey.TheVariants as keys
use Rattle.scm_overlay.specs.declared.quit_dialog.QuitDialog.{QuitDialog}
use Rattle.scm_view.specs.Frame.{Frame}
use Rattle.scm_input.specs.declared.events.Event.{Event}
use Rattle.scm_input.specs.declared.events.Event.TheVariants as events
use Rattle.scm_input.specs.declared.inputs.TerminalKind.{TerminalKind}
use Rattle.scm_input.specs.Script.{Read, Batch, Reply}
use Rattle.scm_selection.specs.KeysAround.{is_key_of}
use Rattle.scm_record.specs.Session.{Session, after_frame, after_select, start, with_keys_above, with_scroll, without_pending}
use Rattle.scm_record.specs.Frames.{Scene, scene_of, columns_of, rows_of}
use Rattle.scm_record.specs.FrameQueries.{free_rows_above, scroll_to_rows, scroll_to_span, scroll_to_show}
use Rattle.scm_record.specs.Change.{Change, stays}
use Rattle.scm_record.specs.Step.{change}
use Rattle.scm_record.specs.Quiet.{after_ensure}
use Rattle.scm_record.specs.Run.{Setting, world_in, Point, Before, Drawn, Within, resume, after_change, Outcome, batch, Reaches, here, on, world_at}
use Rattle.scm_types.specs.declared.state.RecordState.{RecordState}
use Rattle.scm_record.specs.Live.{Live}
use Rattle.scm_record.specs.LiveCalls.{live_setting, fixed_reply, waiting_point, editing_point, IsDrawnFor, Leads, BatchLeads, Call, Path, still, press, press_all, say, resize}
use Rattle.scm_record.specs.Jumps.{LeadToKey, after_jump, after_selecting, can_select}
use Rattle.scm_record.specs.declared.live.Turn.{Turn}
use Rattle.scm_record.specs.declared.live.Turn.TheVariants.{Waiting, Editing, Accepted}
use Rattle.scm_record.proofs.CurrentLemmas.{same-frame}
use Rattle.scm_record.proofs.FoldLemmas.{edited-fine, reaches-fine, start-fine}
use Rattle.scm_record.proofs.RunLemmas.{reaches-trans}
use Rattle.scm_selection.proofs.KeyOrderLemmas.{Ascends}
use Rattle.scm_record.proofs.InsideLemmas.{some-file}
use Rattle.scm_record.proofs.MoveToLemmas.{Steps, stay, step, ensures, moved, Arrives, jump}

-- ---- scrolls and scenes

again : (limit h s m t b : ℕ) → min limit (scroll_to_rows h (min limit (scroll_to_rows h s m t b)) m t b) ≡ min limit (scroll_to_rows h s m t b)
again limit h s m t b = grind (arith, nat_tests)

min-again : (limit n : ℕ) → min limit (min limit n) ≡ min limit n
min-again limit n = omega arith

span-again : (limit h s m : ℕ) (span : Option (ℕ × ℕ)) → min limit (scroll_to_span h (min limit (scroll_to_span h s m span)) m span) ≡ min limit (scroll_to_span h s m span)
span-again limit h s m None = min-again limit s
span-again limit h s m (Some p) = again limit h s m p.0 (p.0 + p.1)

-- a scroll that shows a key shows it still
scroll-again : (scene : Scene) (s : ℕ) (key : SelectionKey) → scroll_to_show scene (scroll_to_show scene s key) key ≡ scroll_to_show scene s key
scroll-again scene s key = span-again max_scroll scene.height s (free_rows_above key) (scene.frame.span key)

-- what is pending is not drawn
same-scene : (kind : TerminalKind) (s : Session) (list : List Event) → scene_of kind (record s { pending = list }) ≡ scene_of kind s
same-scene kind s list =
    let scene : Frame → Scene = λ f. record { width = columns_of kind; height = rows_of kind; frame = f; open_menu = s.shown.open_menu } in
    ap scene (same-frame (columns_of kind) (rows_of kind) s (record s { pending = list }) refl refl)

-- ---- events that are handled in order

abbrev E : Event
E = events.EnsureSelectionInViewport

ensures-first : (n : ℕ) → ensures (suc n) [] ≡ E ∷ ensures n []
ensures-first zero = refl
ensures-first (suc n) = ap (λ (l : List Event). l ++ E ∷ []) (ensures-first n)

module _ (a : Setting) (drawn : Session) (frames : ℕ) where
  abbrev now : Session → List Event → Point
  now s list = Within drawn (world_in a s frames) list

  -- one event
  handles-one : (s t : Session) (event : Event) (rest : List Event) → change (scene_of a.kind drawn) s event ≡ stays t → Reaches (now s (event ∷ rest)) (now t rest)
  handles-one s t event rest e =
      let scene = scene_of a.kind drawn in
      let outcome = ap (λ (c : Change). after_change scene (world_in a s frames) c) e in
      subst (λ (o : Outcome). Reaches (now s (event ∷ rest)) (resume drawn rest o)) outcome (on here)

  -- moves
  handles-moves : {s t : Session} {list : List Event} → Steps s list t → Reaches (now s list) (now t [])
  handles-moves stay = here
  handles-moves (step {s = s} {t = t} {event = event} {rest = rest} e more) = reaches-trans (handles-one s t event rest (e (scene_of a.kind drawn))) (handles-moves more)

  -- scrolls that change nothing
  handles-still : (u : Session) → with_scroll u (scroll_to_show (scene_of a.kind drawn) u.scroll u.shown.selection) ≡ u → (n : ℕ) → Reaches (now u (ensures n [])) (now u [])
  handles-still u e zero = here
  handles-still u e (suc n) =
      subst (λ (l : List Event). Reaches (now u l) (now u [])) (sym (ensures-first n))
      (reaches-trans (handles-one u u E (ensures n []) (ap stays e)) (handles-still u e n))

-- a frame, and as many scrolls to the selection as one likes
scrolls-once : (a : Setting) (s : Session) (n frames : ℕ) → s.pending ≡ ensures (suc n) [] → Reaches (Before (world_in a s frames)) (Before (world_in a (after_ensure a.kind (after_frame s)) (frames + 1)))
scrolls-once a s n frames pending =
    let d = after_frame s in
    let u = without_pending d in
    let key = d.shown.selection in
    let scene = scene_of a.kind d in
    let t = after_ensure a.kind d in
    let w = world_in a d (frames + 1) in
    let begun : Reaches (Before (world_in a s frames)) (batch w (E ∷ ensures n [])) =
    subst (λ (l : List Event). Reaches (Before (world_in a s frames)) (batch w l)) (pending ∙ ensures-first n) (on (on here)) in
    let first : Reaches (Within d (world_in a u (frames + 1)) (E ∷ ensures n [])) (Within d (world_in a t (frames + 1)) (ensures n [])) = handles-one a d (frames + 1) u t E (ensures n []) refl in
    let still : with_scroll t (scroll_to_show scene t.scroll t.shown.selection) ≡ t = ap (with_scroll t) (scroll-again scene d.scroll key) in
    on (reaches-trans begun (reaches-trans first (handles-still a d (frames + 1) t still n)))

-- ---- a jump

-- the session after a jump to `key`, as it is drawn then
abbrev jumped_session : TerminalKind → Session → SelectionKey → Session
jumped_session kind s key = after_frame (after_ensure kind (after_frame (after_select s key)))

-- what was pending makes no difference
jumped-same : (kind : TerminalKind) (s : Session) (key : SelectionKey) (n : ℕ)
    → after_frame (after_ensure kind (after_frame (moved s key (with_keys_above s.shown.expanded key) n))) ≡ jumped_session kind s key
jumped-same kind s key n =
    let d = after_frame (after_select s key) in
    ap (λ (scene : Scene). after_frame (with_scroll (without_pending d) (scroll_to_show scene d.scroll key)))
    (same-scene kind d (ensures n s.pending))

pub record JumpsBy (l : Live) (key : SelectionKey) : Type 0 where
  pub moves : List Event
  pub leads : (reads : List Read) (edits : List Reply) (frames : ℕ)
      → Reaches (waiting_point l (Batch moves ∷ reads) edits frames) (waiting_point (record { session = jumped_session l.kind l.session key; kind = l.kind }) reads edits (frames + 1 + 1))

module _ (l : Live) (key : SelectionKey) (calm : l.session.pending ≡ []) (closed : is_some l.session.shown.quit_dialog ≡ false) (asc : Ascends l.session.shown.expanded) (is : is_key_of l.session.shown.state.files key ≡ true) where
  by-moves : Arrives l.session l.session.shown.selection l.session.shown.expanded 0 key (with_keys_above l.session.shown.expanded key) → JumpsBy l key
  by-moves way = record {
    moves = way.list;
    leads = λ reads edits frames.
        let a = live_setting l.kind reads edits in
        let p = waiting_point l (Batch way.list ∷ reads) edits frames in
        let m = moved l.session key (with_keys_above l.session.shown.expanded key) (suc way.count) in
        let read : Reaches p (Within l.session (world_in a l.session frames) way.list) =
        subst (λ (list : List Event). Reaches p (batch (world_in (live_setting l.kind (Batch way.list ∷ reads) edits) l.session frames) list)) calm (on here) in
        let pending : m.pending ≡ ensures (suc way.count) [] = ap (ensures (suc way.count)) calm in
        let moved_on = on (reaches-trans read (handles-moves a l.session frames way.steps)) in
        let drawn = on (reaches-trans moved_on (scrolls-once a m way.count frames pending)) in
        subst (λ (s : Session). Reaches p (Drawn (world_in a s (frames + 1 + 1)))) (jumped-same l.kind l.session key (suc way.count)) drawn;
  }

  by-files : (files : List File) → l.session.shown.state.files ≡ files → JumpsBy l key
  by-files [] none = absurd (no-key key (some-file key (subst (λ (fs : List File). is_key_of fs key ≡ true) none is)) is)
    where
      no-key : (k : SelectionKey) → k ≡ keys.None → is_key_of l.session.shown.state.files k ≡ true → ⊥
      no-key k e h = let out : is_key_of l.session.shown.state.files keys.None ≡ true = subst (λ (x : SelectionKey). is_key_of l.session.shown.state.files x ≡ true) e h in cc
  by-files (f ∷ fs) files = by-moves (jump l.session closed f fs files l.session.shown.expanded asc l.session.shown.selection key 0 is)

  pub jumps : JumpsBy l key
  jumps = by-files l.session.shown.state.files refl

-- ---- whatever a session was led through

abbrev GoodTurn : Turn → Type 0
GoodTurn (Waiting l) = Ascends l.session.shown.expanded × (l.session.pending ≡ [])
GoodTurn (Editing a) = Ascends a.session.shown.expanded × ((drawn : Session) × IsDrawnFor a drawn)
GoodTurn (Accepted state) = Unit {0}

led-good : (p : Point) (kind : TerminalKind) (turn : Turn) → Ascends (world_at p).session.shown.expanded → Leads p kind [] [] turn → GoodTurn turn
led-good p kind (Waiting l) h led = (reaches-fine led.3 h, led.2)
led-good p kind (Editing a) h led = (reaches-fine led.4 h, (led.0, led.3))
led-good p kind (Accepted state) h led = tt

path-good : {turn last : Turn} {calls : List Call} → Path turn calls last → GoodTurn turn → GoodTurn last
path-good still h = h
path-good (press {l = l} {event = event} {turn = turn} g path) h =
    path-good path (led-good (waiting_point l (Batch (event ∷ []) ∷ []) [] 0) l.kind turn h.0 (g [] [] 0))
path-good (press_all {l = l} {list = list} {turn = turn} g path) h =
    path-good path (led-good (waiting_point l (Batch list ∷ []) [] 0) l.kind turn h.0 (g [] [] 0))
path-good (say {a = a} {text = text} {turn = turn} g path) h =
    let w = world_in (live_setting a.kind [] (fixed_reply text ∷ [])) a.session 0 in
    let drawn = h.1.0 in
    path-good path
    (led-good (editing_point drawn a [] (fixed_reply text ∷ []) 0) a.kind turn (edited-fine drawn a.rest w a.commit (fixed_reply text ∷ []) h.0) (g drawn [] [] 0 h.1.1))
path-good (resize path) h = path-good path h

pub reached : (given : RecordState) (kind : TerminalKind) (calls : List Call) (l : Live) (key : SelectionKey) → Path (Waiting (record { session = start given; kind = kind })) calls (Waiting l)
    → l.session.shown.quit_dialog ≡ None → is_key_of l.session.shown.state.files key ≡ true → (moves : List Event) × LeadToKey l key moves
reached given kind calls l key path closed is =
    let good = path-good path (start-fine given, refl) in
    let way = jumps l key good.1 (ap is_some closed) good.0 is in
    (way.moves, λ reads edits frames. (frames + 1 + 1, refl, refl, way.leads reads edits frames))

closed-by : (dialog : Option QuitDialog) → is_some dialog ≡ false → dialog ≡ None
closed-by None e = refl
closed-by (Some dialog) e = cc

-- a key that can be selected at once is one that moves reach
pub jumped : (given : RecordState) (kind : TerminalKind) (calls : List Call) (l : Live) (key : SelectionKey) → Path (Waiting (record { session = start given; kind = kind })) calls (Waiting l)
    → can_select l key ≡ true → (moves : List Event) × BatchLeads l moves (Waiting (after_selecting l key))
jumped given kind calls l key path can =
    let parts = and_parts (not (is_some l.session.shown.quit_dialog)) (is_key_of l.session.shown.state.files key) can in
    let closed = closed-by l.session.shown.quit_dialog (not-true (is_some l.session.shown.quit_dialog) parts.0) in
    let way = reached given kind calls l key path closed parts.1 in
    let same : after_jump l key ≡ after_selecting l key = ap (λ (b : Bool). cond b (after_jump l key) l) (sym can) in
    (way.0, subst (λ (next : Live). BatchLeads l way.0 (Waiting next)) same way.1)
