-- Sessions that have begun, and jumps of them.
use Rattle.std.proofs.Common.{◌≡◌, ℕ, Bool, true, false, List, [], ◌∷◌, ◌++◌, refl, sym, ap, subst}
use Rattle.std.specs.Prelude.{if◌then◌else◌}
use Rattle.scm_types.specs.declared.keys.SelectionKey.{SelectionKey}
use Rattle.scm_input.specs.declared.events.Event.{Event}
use Rattle.scm_types.specs.declared.state.RecordState.{RecordState}
use Rattle.scm_input.specs.declared.inputs.TerminalKind.{TerminalKind}
use Rattle.scm_record.specs.Session.{start}
use Rattle.scm_record.specs.Live.{Live, LiveEdit}
use Rattle.scm_record.specs.Jumps.{can_select, after_jump, after_selecting}
use Rattle.scm_record.specs.LiveCalls.{Call, Press, PressAll, Say, Path, still, press, press_all, say, BatchLeads, EventLeads, MessageLeads}
use Rattle.scm_record.specs.declared.live.Turn.{Turn}
use Rattle.scm_record.specs.declared.live.Turn.TheVariants.{Waiting, Editing}
use Rattle.scm_record.proofs.PathLemmas.{path-after}
use Rattle.scm_record.proofs.JumpLemmas.{jumped}
use Rattle.scm_front.specs.Begun.{HasBegun, LeadsOn, JumpLeads, jumps, stays}

-- calls lead on
pub begun-on : {first next : Turn} (calls : List Call) → Path first calls next → HasBegun first → HasBegun next
begun-on calls p b = record { given = b.given; kind = b.kind; calls = b.calls ++ calls; path = path-after b.path p }

-- a jump is a batch of moves, or nothing
pub jump-leads : (l : Live) (key : SelectionKey) → HasBegun (Waiting l) → (calls : List Call) × JumpLeads l key calls (after_selecting l key)
jump-leads l key b = by_can (can_select l key) refl
  where
    by_can : (can : Bool) → can_select l key ≡ can → (calls : List Call) × JumpLeads l key calls (after_selecting l key)
    by_can true e = let way = jumped b.given b.kind b.calls l key b.path e in (PressAll way.0 ∷ [], jumps way.0 way.1)
    by_can false e =
        let same : l ≡ after_selecting l key = ap (λ (x : Bool). if x then after_jump l key else l) (sym e) in
        ([], subst (λ (next : Live). JumpLeads l key [] next) same (stays e))

pub jump-path : {l next : Live} {key : SelectionKey} {calls : List Call} → JumpLeads l key calls next → Path (Waiting l) calls (Waiting next)
jump-path (jumps moves g) = press_all g still
jump-path (stays e) = still

-- ---- the calls of a session that has begun

pub begins : (state : RecordState) (kind : TerminalKind) (l : Live) → l ≡ record { session = start state; kind = kind } → HasBegun (Waiting l)
begins state kind l e = record {
  given = state;
  kind = kind;
  calls = [];
  path = subst (λ (x : Live). Path (Waiting (record { session = start state; kind = kind })) [] (Waiting x)) (sym e) still;
}

pub by-event : (l : Live) (event : Event) (turn : Turn) → HasBegun (Waiting l) → EventLeads l event turn → HasBegun turn
by-event l event turn b g = begun-on (Press event ∷ []) (press g still) b

pub by-batch : (l : Live) (list : List Event) (turn : Turn) → HasBegun (Waiting l) → BatchLeads l list turn → HasBegun turn
by-batch l list turn b g = begun-on (PressAll list ∷ []) (press_all g still) b

pub by-message : (a : LiveEdit) (text : List ℕ) (turn : Turn) → HasBegun (Editing a) → MessageLeads a text turn → HasBegun turn
by-message a text turn b g = begun-on (Say text ∷ []) (say g still) b

pub by-jump : (l next : Live) (key : SelectionKey) → HasBegun (Waiting l) → next ≡ after_selecting l key → HasBegun (Waiting next)
by-jump l next key b e =
    let way = jump-leads l key b in
    subst (λ (x : Live). HasBegun (Waiting x)) (sym e) (begun-on way.0 (jump-path way.1) b)

pub jump-of : (l self next : Live) (key : SelectionKey) → HasBegun (Waiting l) → l ≡ self → next ≡ after_selecting l key → (calls : List Call) × JumpLeads self key calls next
jump-of l self next key b e same =
    let way = jump-leads l key b in
    (way.0, subst (λ (x : Live). JumpLeads x key way.0 next) e (subst (λ (x : Live). JumpLeads l key way.0 x) (sym same) way.1))

-- ---- calls one after another

pub leads-still : (turn : Turn) → LeadsOn turn turn
leads-still turn = ([], still)

pub leads-then : (first mid last : Turn) → LeadsOn first mid → LeadsOn mid last → LeadsOn first last
leads-then first mid last p q = (p.0 ++ q.0, path-after p.1 q.1)

pub leads-same : (first turn last : Turn) → turn ≡ last → LeadsOn first turn → LeadsOn first last
leads-same first turn last e p = (p.0, subst (λ (t : Turn). Path first p.0 t) e p.1)

pub leads-via : (l mid : Live) (turn last : Turn) → turn ≡ Waiting mid → LeadsOn (Waiting l) turn → LeadsOn (Waiting mid) last → LeadsOn (Waiting l) last
leads-via l mid turn last e p q = leads-then (Waiting l) (Waiting mid) last (leads-same (Waiting l) turn (Waiting mid) e p) q

pub leads-from : (turn first last : Turn) → turn ≡ first → LeadsOn first last → LeadsOn turn last
leads-from turn first last e p = (p.0, subst (λ (t : Turn). Path t p.0 last) (sym e) p.1)

pub leads-jump : (l next : Live) (key : SelectionKey) → ((calls : List Call) × JumpLeads l key calls next) → LeadsOn (Waiting l) (Waiting next)
leads-jump l next key j = (j.0, jump-path j.1)
