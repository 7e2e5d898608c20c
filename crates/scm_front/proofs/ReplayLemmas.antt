-- The same events lead to the same session.
use Rattle.std.proofs.Common.{◌≡◌, true, false, List, [], ◌∷◌, ◌++◌, sym, ap, ◌∙◌, refl, subst}
use Rattle.std.proofs.lemmas.List.{append-nil}
use Rattle.scm_input.specs.declared.events.Event.{Event}
use Rattle.scm_record.specs.Live.{Live}
use Rattle.scm_record.specs.LiveCalls.{Call, Press, Path, still, press, press_all, say, resize, EventLeads}
use Rattle.scm_record.specs.Typed.{is_waiting}
use Rattle.scm_record.specs.declared.live.Turn.{Turn}
use Rattle.scm_record.specs.declared.live.Turn.TheVariants.{Waiting, Editing, Accepted}
use Rattle.scm_front.specs.Presses.{calls_of, PressesLead}
use Rattle.scm_front.proofs.TurnLemmas.{one-live}

-- events alone lead from no turn that does not wait to one that does
stuck : {t u : Turn} {calls : List Call} (es : List Event) → Path t calls u → calls ≡ calls_of es → is_waiting t ≡ false → is_waiting u ≡ true → ⊥
stuck es still e f h = cc
stuck es (press g p) e f h = cc
stuck es (press_all g p) e f h = cc
stuck [] (say g p) e f h = cc
stuck (x ∷ es) (say g p) e f h = cc
stuck es (resize p) e f h = cc

none : {t u : Turn} {calls : List Call} → Path t calls u → calls ≡ [] → t ≡ u
none still e = refl
none (press g p) e = cc
none (press_all g p) e = cc
none (say g p) e = cc
none (resize p) e = cc

pub record First (l : Live) (e : Event) (es : List Event) (a : Live) : Type 0 where
  pub next : Live
  pub leads : EventLeads l e (Waiting next)
  pub path : Path (Waiting next) (calls_of es) (Waiting a)

by-turn : (l a : Live) (e : Event) (es : List Event) (turn : Turn) → EventLeads l e turn → Path turn (calls_of es) (Waiting a) → First l e es a
by-turn l a e es (Waiting next) g p = record { next = next; leads = g; path = p }
by-turn l a e es (Editing x) g p = absurd (stuck es p refl refl refl)
by-turn l a e es (Accepted s) g p = absurd (stuck es p refl refl refl)

first-press : {t u : Turn} {calls : List Call} → Path t calls u → (l : Live) (e : Event) (es : List Event) → t ≡ Waiting l
    → calls ≡ Press e ∷ calls_of es → (a : Live) → u ≡ Waiting a → First l e es a
first-press still l e es s c a w = let no-call : ⊥ = cc in absurd no-call
first-press (press {l = k} {event = d} {turn = turn} {last = last} {calls = more} g p) l e es s c a w =
    let same : k ≡ l = cc in
    let event : d ≡ e = cc in
    let rest : more ≡ calls_of es = cc in
    let g1 = subst (λ (x : Live). EventLeads x d turn) same g in
    let g2 = subst (λ (x : Event). EventLeads l x turn) event g1 in
    let p1 = subst (λ (x : List Call). Path turn x last) rest p in
    by-turn l a e es turn g2 (subst (λ (x : Turn). Path turn (calls_of es) x) w p1)
first-press (press_all g p) l e es s c a w = let no-press : ⊥ = cc in absurd no-press
first-press (say g p) l e es s c a w = let no-wait : ⊥ = cc in absurd no-wait
first-press (resize p) l e es s c a w = let no-press : ⊥ = cc in absurd no-press

same-end : (es : List Event) (l a b : Live) → Path (Waiting l) (calls_of es) (Waiting a) → Path (Waiting l) (calls_of es) (Waiting b) → a ≡ b
same-end [] l a b p q =
    let x : Waiting l ≡ Waiting a = none p refl in
    let y : Waiting l ≡ Waiting b = none q refl in
    cc
same-end (e ∷ es) l a b p q =
    let x = first-press p l e es refl refl a refl in
    let y = first-press q l e es refl refl b refl in
    let same : y.next ≡ x.next = one-live l y.next x.next e y.leads x.leads in
    same-end es x.next a b x.path (subst (λ (n : Live). Path (Waiting n) (calls_of es) (Waiting b)) same y.path)

whole : (l a : Live) (events : List Event) → PressesLead l events (Waiting a) → Path (Waiting l) (calls_of events) (Waiting a)
whole l a events g =
    let all : events ≡ g.handled = g.are ∙ ap (λ (list : List Event). g.handled ++ list) (g.all refl) ∙ append-nil g.handled in
    subst (λ (list : List Event). Path (Waiting l) (calls_of list) (Waiting a)) (sym all) g.path

-- the same events, pressed one after another, lead to the same session
pub replays : (l a b : Live) (events : List Event) → PressesLead l events (Waiting a) → PressesLead l events (Waiting b) → a ≡ b
replays l a b events g h = same-end events l a b (whole l a events g) (whole l b events h)
