-- Deeds that are done one after another.
use Rattle.std.proofs.Common.{◌≡◌, ℕ, ◌+◌, ◌<◌, ◌≤◌, true, false, List, [], ◌∷◌, ◌++◌, length, drop, get_or, sym, ap, subst, ◌∙◌}
use Rattle.std.proofs.lemmas.List.{drop_all, drop_more}
use Rattle.scm_types.specs.declared.keys.SelectionKey.{SelectionKey}
use Rattle.scm_input.specs.declared.events.Event.{Event}
use Rattle.scm_record.specs.Live.{Live}
use Rattle.scm_record.specs.Jumps.{after_selecting}
use Rattle.scm_record.specs.LiveCalls.{Call, Press, Path, still, press, EventLeads}
use Rattle.scm_record.specs.Typed.{is_waiting}
use Rattle.scm_record.specs.declared.live.Turn.{Turn}
use Rattle.scm_record.specs.declared.live.Turn.TheVariants.{Waiting}
use Rattle.scm_record.proofs.PathLemmas.{path-after}
use Rattle.scm_front_items.specs.declared.targets.Deed.{Deed}
use Rattle.scm_front_items.specs.Targets.{key_of}
use Rattle.scm_front.specs.Begun.{JumpLeads}
use Rattle.scm_front.specs.Deeds.{event_of, is_due, DeedDone, DeedTried, idles, acts, DeedsLead, done, skips, does, ends, ReturnsTo, RoundLeads, returns, leaves}
use Rattle.scm_front.proofs.BegunLemmas.{jump-path}

-- ---- deeds are calls

pub done-path : {l : Live} {deed : Deed} {turn : Turn} (d : DeedDone l deed turn) → Path (Waiting l) (d.calls ++ (Press (event_of deed) ∷ [])) turn
done-path d = path-after (jump-path d.jump) (press d.event still)

pub deeds-path : {l : Live} {deeds : List Deed} {calls : List Call} {turn : Turn} → DeedsLead l deeds calls turn → Path (Waiting l) calls turn
deeds-path done = still
deeds-path (skips e later) = deeds-path later
deeds-path (does e d later) = path-after (jump-path d.jump) (press d.event (deeds-path later))
deeds-path (ends e d f) = done-path d

pub round-path : {l : Live} {deeds : List Deed} {back : SelectionKey} {calls : List Call} {turn : Turn} → RoundLeads l deeds back calls turn → Path (Waiting l) calls turn
round-path (returns d j) = path-after (deeds-path d) (jump-path j)
round-path (leaves d f) = deeds-path d

-- ---- one deed

-- the item is selected, and then the event is handled
pub deed-done : (l mid : Live) (deed : Deed) (turn : Turn) → mid ≡ after_selecting l (key_of deed)
    → ((calls : List Call) × JumpLeads l (key_of deed) calls mid) → EventLeads mid (event_of deed) turn → DeedDone l deed turn
deed-done l mid deed turn e j g = record {
  calls = j.0;
  jump = subst (λ (next : Live). JumpLeads l (key_of deed) j.0 next) e j.1;
  event = subst (λ (next : Live). EventLeads next (event_of deed) turn) e g;
}

-- ---- a list of deeds

same-live-of : {a b : Live} → Waiting a ≡ Waiting b → b ≡ a
same-live-of e = cc

true-is-not-false : true ≡ false → ⊥
true-is-not-false e = cc

-- what comes of the deeds that are left comes of all
pub record Doing (first : Live) (all : List Deed) (now : Live) (left : List Deed) : Type 0 where
  pub leads : (calls : List Call) (turn : Turn) → DeedsLead now left calls turn → (handled : List Call) × DeedsLead first all handled turn

pub doing-first : (l : Live) (deeds : List Deed) → Doing l deeds l deeds
doing-first l deeds = record { leads = λ calls turn d. (calls, d) }

-- the deed at a place
module _ (first now : Live) (all : List Deed) (i : ℕ) (d : Deed) (is : i < length all) (g : Doing first all now (drop i all)) where
  left : drop i all ≡ get_or all i d ∷ drop (i + 1) all
  left = drop_more all i d is

  pub doing-skip : is_due now (get_or all i d) ≡ false → Doing first all now (drop (i + 1) all)
  doing-skip e = record {
    leads = λ calls turn h. g.leads calls turn (subst (λ (list : List Deed). DeedsLead now list calls turn) (sym left) (skips e h));
  }

  doing-next : (next : Live) → is_due now (get_or all i d) ≡ true → DeedDone now (get_or all i d) (Waiting next) → Doing first all next (drop (i + 1) all)
  doing-next next e one = record {
    leads = λ calls turn h. g.leads _ turn (subst (λ (list : List Deed). DeedsLead now list (one.calls ++ (Press (event_of (get_or all i d)) ∷ calls)) turn) (sym left) (does e one h));
  }

  here : {turn last : Turn} → turn ≡ last → DeedDone now (get_or all i d) turn → DeedDone now (get_or all i d) last
  here e one = subst (λ (t : Turn). DeedDone now (get_or all i d) t) e one

  pub doing-on : (turn : Turn) (next : Live) → turn ≡ Waiting next → DeedTried now (get_or all i d) turn → Doing first all next (drop (i + 1) all)
  doing-on turn next e (acts due one) = doing-next next due (here e one)
  doing-on turn next e (idles due same) =
      let stayed : now ≡ next = cc (e, same) in
      subst (λ (l : Live). Doing first all l (drop (i + 1) all)) stayed (doing-skip due)

  pub doing-last : (turn last : Turn) → turn ≡ last → DeedTried now (get_or all i d) turn → is_waiting last ≡ false
      → (handled : List Call) × DeedsLead first all handled last
  doing-last turn last e (acts due one) f =
      let at = here e one in
      g.leads _ last (subst (λ (list : List Deed). DeedsLead now list (at.calls ++ (Press (event_of (get_or all i d)) ∷ [])) last) (sym left) (ends due at f))
  doing-last turn last e (idles due same) f =
      let waits : is_waiting (Waiting now) ≡ false = subst (λ (t : Turn). is_waiting t ≡ false) (sym e ∙ same) f in
      absurd (true-is-not-false waits)

pub doing-end : (first now : Live) (all : List Deed) (i : ℕ) → length all ≤ i → Doing first all now (drop i all) → (handled : List Call) × DeedsLead first all handled (Waiting now)
doing-end first now all i is g =
    g.leads [] (Waiting now) (subst (λ (list : List Deed). DeedsLead now list [] (Waiting now)) (sym (drop_all i all is)) done)

-- ---- and back

pub gone-back : (mid last : Live) (back : SelectionKey) → last ≡ after_selecting mid back → ((calls : List Call) × JumpLeads mid back calls last)
    → ReturnsTo mid back (Waiting last)
gone-back mid last back same j = record {
  calls = j.0;
  jump = subst (λ (next : Live). JumpLeads mid back j.0 next) same j.1;
  is = ap (λ (l : Live). Waiting l) same;
}

pub went-back : (l mid : Live) (deeds : List Deed) (back : SelectionKey) (turn last : Turn) → turn ≡ Waiting mid
    → ((calls : List Call) × DeedsLead l deeds calls turn) → ReturnsTo mid back last → (calls : List Call) × RoundLeads l deeds back calls last
went-back l mid deeds back turn last e d r =
    let done = subst (λ (t : Turn). DeedsLead l deeds d.0 t) e d.1 in
    (d.0 ++ r.calls, subst (λ (t : Turn). RoundLeads l deeds back (d.0 ++ r.calls) t) (sym r.is) (returns done r.jump))

pub left-early : (l : Live) (deeds : List Deed) (back : SelectionKey) (turn last : Turn) → turn ≡ last → is_waiting last ≡ false
    → ((calls : List Call) × DeedsLead l deeds calls turn) → (calls : List Call) × RoundLeads l deeds back calls last
left-early l deeds back turn last e f d = (d.0, leaves (subst (λ (t : Turn). DeedsLead l deeds d.0 t) e d.1) f)

-- ---- by other names of the key and the event

pub deed-done-by : (l mid : Live) (deed : Deed) (key : SelectionKey) (event : Event) (turn : Turn) → key ≡ key_of deed → event ≡ event_of deed → mid ≡ after_selecting l key
    → ((calls : List Call) × JumpLeads l key calls mid) → EventLeads mid event turn → DeedDone l deed turn
deed-done-by l mid deed key event turn k v e j g =
    let jump : (calls : List Call) × JumpLeads l (key_of deed) calls mid = (j.0, subst (λ (x : SelectionKey). JumpLeads l x j.0 mid) k j.1) in
    deed-done l mid deed turn (e ∙ ap (λ (x : SelectionKey). after_selecting l x) k) jump (subst (λ (x : Event). EventLeads mid x turn) v g)

-- ---- deeds after deeds

pub deeds-after : {l mid : Live} {first second : List Deed} {calls more : List Call} {turn last : Turn} → DeedsLead l first calls turn → turn ≡ Waiting mid
    → DeedsLead mid second more last → (all : List Call) × DeedsLead l (first ++ second) all last
deeds-after {second = second} {more = more} {last = last} (done {l = l}) e later = (more, subst (λ (x : Live). DeedsLead x second more last) (same-live-of e) later)
deeds-after (skips due d) e later = let rest = deeds-after d e later in (rest.0, skips due rest.1)
deeds-after (does due one d) e later = let rest = deeds-after d e later in (_, does due one rest.1)
deeds-after (ends due one f) e later = absurd (true-is-not-false (subst (λ (t : Turn). is_waiting t ≡ false) e f))

pub round-after : {l mid : Live} {first second : List Deed} {back : SelectionKey} {calls more : List Call} {turn last : Turn} → DeedsLead l first calls turn → turn ≡ Waiting mid
    → RoundLeads mid second back more last → (all : List Call) × RoundLeads l (first ++ second) back all last
round-after d e (returns later jump) = let rest = deeds-after d e later in (_, returns rest.1 jump)
round-after d e (leaves later f) = let rest = deeds-after d e later in (rest.0, leaves rest.1 f)

-- what both parts of a restoring lead to
pub parts-lead : (l mid : Live) (back selected : SelectionKey) (turn last : Turn) → back ≡ selected → turn ≡ Waiting mid
    → ((deeds : List Deed) × ((calls : List Call) × DeedsLead l deeds calls turn))
    → ((deeds : List Deed) × ((calls : List Call) × RoundLeads mid deeds back calls last))
    → (deeds : List Deed) × ((calls : List Call) × RoundLeads l deeds selected calls last)
parts-lead l mid back selected turn last same e d r =
    let both = round-after d.1.1 e r.1.1 in
    (d.0 ++ r.0, (both.0, subst (λ (k : SelectionKey). RoundLeads l (d.0 ++ r.0) k both.0 last) same both.1))

pub part-leaves : (l : Live) (back : SelectionKey) (turn last : Turn) → turn ≡ last → is_waiting last ≡ false
    → ((deeds : List Deed) × ((calls : List Call) × DeedsLead l deeds calls turn))
    → (deeds : List Deed) × ((calls : List Call) × RoundLeads l deeds back calls last)
part-leaves l back turn last e f d = (d.0, left-early l d.0 back turn last e f d.1)
