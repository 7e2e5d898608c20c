-- Where a run is after the event that accepts.
use Rattle.std.proofs.Common.{◌≡◌, ◌⊎◌, inl, inr, ℕ, Bool, true, false, cond, List, [], ◌∷◌, length, Option, Some, None, is_some, refl, sym, ap, ◌∙◌, arith}
use Rattle.scm_errors.specs.Fault.{Fault}
use Rattle.scm_errors.specs.declared.error.RecordError.{RecordError}
use Rattle.scm_errors.specs.declared.error.RecordError.TheVariants as errors
use Rattle.scm_types.specs.declared.state.RecordState.{RecordState}
use Rattle.scm_overlay.specs.declared.quit_dialog.QuitDialog.{QuitDialog}
use Rattle.scm_input.specs.declared.events.Event.TheVariants as events
use Rattle.scm_input.specs.Script.{Batch}
use Rattle.scm_record.specs.Change.{accepts, stays}
use Rattle.scm_record.specs.Dialogs.{help_closed_or}
use Rattle.scm_record.specs.Frames.{scene_of}
use Rattle.scm_record.specs.Live.{Live}
use Rattle.scm_record.specs.LiveCalls.{Fails, Leads, editing_point, live_setting}
use Rattle.scm_record.specs.Run.{Accepted, Before, Drawn, Failed, Point, Reaches, Within, World, after, after_change, batch, here, on, resume, with_reads, with_session, world_at, world_in}
use Rattle.scm_record.specs.Session.{with_help}
use Rattle.scm_record.specs.declared.live.Turn.{Turn}
use Rattle.scm_record.specs.declared.live.Turn.TheVariants as turns
use Rattle.scm_preview.specs.Preview.{AcceptsWhatIsShown, CanAccept, FailsByMemory}

-- the kind of a point
abbrev place_of : Point → ℕ
place_of (Before w) = 0
place_of (Drawn w) = 1
place_of (Within drawn w rest) = 2
place_of (Accepted w) = 3
place_of (Failed fault w) = 4

module _ (l : Live) (c : CanAccept l) where
  abbrev world : World
  world = world_in (live_setting l.kind (Batch (events.QuitAccept ∷ []) ∷ []) []) l.session 0

  abbrev begun : Point
  begun = Drawn world

  abbrev within : Point
  within = Within l.session (with_reads world []) (events.QuitAccept ∷ [])

  abbrev ended : Point
  ended = Accepted (with_session (with_reads world []) l.session)

  first : after begun ≡ within
  first = ap (batch world) c.calm

  second : after within ≡ ended
  second =
      ap (λ (dialog : Option QuitDialog). resume l.session [] (after_change (scene_of l.kind l.session) (with_reads world []) (cond (is_some dialog) (stays l.session) (help_closed_or l.session (accepts l.session))))) c.no_dialog
      ∙ ap (λ (help : Bool). resume l.session [] (after_change (scene_of l.kind l.session) (with_reads world []) (cond help (stays (with_help l.session false)) (accepts l.session)))) c.no_help

  -- the only points of the run
  reached : {q : Point} → Reaches begun q → (q ≡ begun) ⊎ ((q ≡ within) ⊎ (q ≡ ended))
  reached here = inl refl
  reached (on a) = elim (reached a) [
    | inl e ↦ inr (inl (ap after e ∙ first))
    | inr more ↦ elim more [
      | inl e ↦ inr (inr (ap after e ∙ second))
      | inr e ↦ inr (inr (ap after e))
    ]
  ]

  not_waiting : (q : Point) → place_of q ≡ 1 → length (world_at q).reads ≡ 0 → Reaches begun q → ⊥
  not_waiting q drawn none a = elim (reached a) [
    | inl e ↦ let more : length (world_at q).reads ≡ 1 = ap (λ (p : Point). length (world_at p).reads) e in absurd (omega arith)
    | inr later ↦ elim later [
      | inl e ↦ let other : place_of q ≡ 2 = ap place_of e in absurd (omega arith)
      | inr e ↦ let other : place_of q ≡ 3 = ap place_of e in absurd (omega arith)
    ]
  ]

  not_failed : (q : Point) → place_of q ≡ 4 → Reaches begun q → ⊥
  not_failed q failed a = elim (reached a) [
    | inl e ↦ let other : place_of q ≡ 1 = ap place_of e in absurd (omega arith)
    | inr more ↦ elim more [
      | inl e ↦ let other : place_of q ≡ 2 = ap place_of e in absurd (omega arith)
      | inr e ↦ let other : place_of q ≡ 3 = ap place_of e in absurd (omega arith)
    ]
  ]

  state_at : (q : Point) → place_of q ≡ 3 → Reaches begun q → (world_at q).session.shown.state ≡ l.session.shown.state
  state_at q accepted a = elim (reached a) [
    | inl e ↦ let other : place_of q ≡ 1 = ap place_of e in absurd (omega arith)
    | inr later ↦ elim later [
      | inl e ↦ let other : place_of q ≡ 2 = ap place_of e in absurd (omega arith)
      | inr e ↦ ap (λ (p : Point). (world_at p).session.shown.state) e
    ]
  ]

  by_turn : (turn : Turn) → Leads begun l.kind [] [] turn → turn ≡ turns.Accepted l.session.shown.state
  by_turn (turns.Waiting m) leads = absurd (not_waiting (Drawn (world_in (live_setting m.kind [] []) m.session leads.0)) refl refl leads.3)
  by_turn (turns.Editing a) leads = absurd (not_failed (editing_point leads.0 a [] [] leads.1) refl leads.4)
  by_turn (turns.Accepted state) leads = ap turns.Accepted (sym leads.2 ∙ state_at (Accepted (world_in (live_setting l.kind [] []) leads.0 leads.1)) refl leads.3)

  no_fault : (fault : Fault) (w : World) → Reaches begun (Failed fault w) → ⊥
  no_fault fault w a = not_failed (Failed fault w) refl a

  by_memory : (error : RecordError) → Fails begun error → error ≡ errors.OutOfMemory
  by_memory errors.OutOfMemory fails = refl
  by_memory errors.Cancelled fails = absurd (no_fault _ fails.0 fails.1)
  by_memory (errors.SetUpTerminal text) fails = absurd (no_fault _ fails.0 fails.1)
  by_memory (errors.CleanUpTerminal text) fails = absurd (no_fault _ fails.0 fails.1)
  by_memory (errors.RenderFrame text) fails = absurd (no_fault _ fails.0 fails.1)
  by_memory (errors.ReadInput text) fails = absurd (no_fault _ fails.0 fails.1)
  by_memory (errors.SerializeJson text) fails = absurd (no_fault _ fails.0 fails.1)
  by_memory (errors.WriteFile text) fails = absurd (no_fault _ fails.0 fails.1)
  by_memory (errors.Other text) fails = absurd (no_fault _ fails.0 fails.1)
  by_memory (errors.Bug text) fails = absurd (no_fault _ fails.0 fails.1)

pub fails_by_memory : (l : Live) → CanAccept l → FailsByMemory l
fails_by_memory l c error fails = by_memory l c error (fails [] [] 0)

pub shown_is_accepted : (l : Live) → CanAccept l → AcceptsWhatIsShown l
shown_is_accepted l c turn leads = by_turn l c turn (leads [] [] 0)
