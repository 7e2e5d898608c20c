-- The session's rows and the status row below them are painted apart.
use Rattle.std.proofs.Common.{◌≡◌, ℕ, ◌+◌, ◌-◌, ◌<◌, ◌≤◌, List, [], ◌++◌, length, get_or, map, take, refl, sym, ap, ap₂, ◌∙◌, subst, arith, Some, None, inl, inr}
use Rattle.std.specs.List.{All, flat_map}
use Rattle.std.proofs.lemmas.Bool.{cases_lt, cases_eq}
use Rattle.std.proofs.lemmas.List.{get_or-map, length-map, length-take, get_or-take, ext_get_or, get_or_past}
use Rattle.std.proofs.lemmas.List.Concat.{flat_map-append}
use Rattle.std.proofs.lemmas.List.Elements.{All-append, All-from_get_or, All-get_or}
use Rattle.scm_terminal.specs.Promise.{HasChanged, MovesTo, Leads, Paints, known_spots}
use Rattle.scm_terminal.specs.Sent.{sent_row, sent_picture}
use Rattle.scm_terminal.specs.StyledCell.{StyledCell, HasSize}
use Rattle.scm_terminal.specs.Terminal.{Terminal, Spot, IsOfSize, Command, MoveTo, SetStyle, Put, SetWrap, after_all, bytes_of}
use Rattle.scm_terminal.proofs.RunLemmas.{Runs-append}
use Rattle.scm_terminal.proofs.SentLemmas.{length-row}
use Rattle.scm_front_paint.specs.declared.labels.Label.{Label}
use Rattle.scm_front_paint.specs.Headers.{labelled}
use Rattle.scm_front_paint.specs.declared.themes.Theme.{Theme}
use Rattle.scm_front_paint.specs.declared.columns.Columns.{Columns}
use Rattle.scm_front_paint.specs.Pane.{offset}
use Rattle.scm_front_paint.specs.Seen.{Seen}
use Rattle.scm_front_paint.specs.Status.{left_of, right_of}
use Rattle.scm_front_paint.specs.Syntax.{Lines}
use Rattle.scm_front_paint.specs.Blank.{Begins, PaintsLast, blank_cells, blank_picture, blanking, from_blanks, from_known}
use Rattle.scm_front_paint.specs.Below.{Pictures, PaintsBoth, AreWhole, ShowsBoth, Before, anything, painted, LeadsToBoth, StayApart, rows_shown, shown_style, width_of, view_pictures}
use Rattle.scm_front_paint.proofs.SidewaysLemmas.{sideways-size}
use Rattle.scm_front_paint.proofs.BlankLemmas.{blanked, blanking-moves, blanks-above, blanks-last, blanks-size, sent-row, status-above, status-size}
use Rattle.scm_front_paint.proofs.PartLemmas.{Alike, Follows, all-follow}

-- a row of a picture as it is sent
abbrev sent_spots : List StyledCell → List Spot
sent_spots cells = known_spots (sent_row cells)

sent-at : (p : List (List StyledCell)) (k : ℕ) → k < length p → get_or (map known_spots (sent_picture p)) k [] ≡ sent_spots (get_or p k [])
sent-at p k h =
    get_or-map known_spots (sent_picture p) k [] [] (subst (λ (n : ℕ). k < n) (sym (length-map p sent_row)) h)
    ∙ ap known_spots (get_or-map sent_row p k [] [] h)

length-sent : (p : List (List StyledCell)) → length (map known_spots (sent_picture p)) ≡ length p
length-sent p = length-map (sent_picture p) known_spots ∙ length-map p sent_row

wide-at : (width : ℕ) (p : List (List StyledCell)) (height k : ℕ) → HasSize width height p → k < height → length (sent_spots (get_or p k [])) ≡ width
wide-at width p height k s h =
    length-map (sent_row (get_or p k [])) Some ∙ length-row (get_or p k []) ∙ All-get_or (λ (row : List StyledCell). length row ≡ width) p k [] (subst (λ (n : ℕ). k < n) (sym s.high) h) s.all_wide

-- rows of blanks, and one more below them
record IsLast (width height : ℕ) (rows : List (List StyledCell)) : Type 0 where
  size : HasSize width (height + 1) rows
  blank : (k : ℕ) → k < height → get_or rows k [] ≡ blank_cells width

-- ---- the last row

-- the terminal after commands shows the last row of `next`, and its other rows stayed
record RowDone (width height : ℕ) (next : List (List StyledCell)) (commands : List Command) (t : Terminal) : Type 0 where
  end : Terminal
  runs : after_all commands t ≡ Some end
  size : IsOfSize end width (height + 1)
  row : get_or end.rows height [] ≡ sent_spots (get_or next height [])
  others : (k : ℕ) → k < height → get_or end.rows k [] ≡ get_or t.rows k []

-- where the terminal shows the last row of `from`
module _ (width height : ℕ) (from next : List (List StyledCell)) (bytes : List ℕ) (p : Paints width from next bytes) (a : IsLast width height from) (w : IsLast width height next)
    (t : Terminal) (size : IsOfSize t width (height + 1)) (row : get_or t.rows height [] ≡ sent_spots (get_or from height [])) where
  abbrev alone : Terminal
  alone = record t { rows = map known_spots (sent_picture from); cursor = None }

  alone-high : length alone.rows ≡ height + 1
  alone-high = length-sent from ∙ a.size.high

  from-at : height < length from
  from-at = subst (λ (n : ℕ). height < n) (sym a.size.high) (omega arith)

  next-at : height < length next
  next-at = subst (λ (n : ℕ). height < n) (sym w.size.high) (omega arith)

  alone-sized : IsOfSize alone width (length next)
  alone-sized = record {
    wide = size.wide;
    high = alone-high ∙ sym w.size.high;
    all_wide = All-from_get_or (λ (row : List Spot). length row ≡ width) alone.rows [] (λ k h.
        let below : k < height + 1 = subst (λ (n : ℕ). k < n) alone-high h in
        let inside : k < length from = subst (λ (n : ℕ). k < n) (sym a.size.high) below in
        ap length (sent-at from k inside) ∙ wide-at width from (height + 1) k a.size below);
  }

  leads : Leads p.commands alone (map known_spots (sent_picture next))
  leads = p.shows alone alone-sized (λ s. refl)

  alike : Alike (λ k. k ≡ height) alone t
  alike = record {
    wide = refl;
    rows = λ k e.
        ap (λ (j : ℕ). get_or t.rows j []) e ∙ row ∙ sym (sent-at from height from-at)
        ∙ sym (ap (λ (j : ℕ). get_or alone.rows j []) e);
    of_first = λ k e. subst (λ (n : ℕ). k < n) (sym alone-high) (omega arith);
    of_second = λ k e. subst (λ (n : ℕ). k < n) (sym size.high) (omega arith);
    style = refl;
    cursor = λ at e. absurd (cc e);
  }

  inside : (r : ℕ) → r < height + 1 → HasChanged width from next r → r ≡ height
  inside r h changed = elim (cases_eq r height) [
    | inl e ↦ e
    | inr away ↦
        let below : r < height = omega arith in
        absurd (changed (subst (λ (n : ℕ). HasSize width n from) (sym w.size.high) a.size) (a.blank r below ∙ sym (w.blank r below)))
  ]

  done : Follows (λ k. k ≡ height) (after_all p.commands) alone leads.end t
  done = all-follow (λ k. k ≡ height) (HasChanged width from next) (height + 1) inside p.commands alone t leads.end alike alone-high p.few leads.runs

  done-row : get_or done.end.rows height [] ≡ sent_spots (get_or next height [])
  done-row = done.alike.rows height refl ∙ ap (λ (rows : List (List Spot)). get_or rows height []) leads.shows ∙ sent-at next height next-at

  row-wide : (k : ℕ) → k < length done.end.rows → length (get_or done.end.rows k []) ≡ width
  row-wide k h = elim (cases_eq k height) [
    | inl e ↦ ap length (ap (λ (j : ℕ). get_or done.end.rows j []) e ∙ done-row) ∙ wide-at width next (height + 1) height w.size (omega arith)
    | inr away ↦ ap length (done.keeps.others k away) ∙ All-get_or (λ (row : List Spot). length row ≡ width) t.rows k [] (subst (λ (n : ℕ). k < n) done.keeps.high h) size.all_wide
  ]

  row-done : RowDone width height next p.commands t
  row-done = record {
    end = done.end;
    runs = done.runs;
    size = record { wide = done.keeps.wide ∙ size.wide; high = done.keeps.high ∙ size.high; all_wide = All-from_get_or (λ (row : List Spot). length row ≡ width) done.end.rows [] row-wide };
    row = done-row;
    others = λ k h. done.keeps.others k (λ e. absurd (omega arith));
  }

-- whatever the terminal shows, after blanks
from-blanks : (width height row : ℕ) (next : List (List StyledCell)) (bytes : List ℕ) → row ≡ height → (p : Paints width (blank_picture width row) next bytes) → IsLast width height next
    → (t : Terminal) → IsOfSize t width (height + 1) → RowDone width height next (blanking width row ++ p.commands) t
from-blanks width height row next bytes e p w t size =
    subst (λ (r : ℕ). (q : Paints width (blank_picture width r) next bytes) → RowDone width height next (blanking width r ++ q.commands) t) (sym e) at p
  where
    at : (q : Paints width (blank_picture width height) next bytes) → RowDone width height next (blanking width height ++ q.commands) t
    at q =
        let b = blanked width height t size in
        let last : IsLast width height (blank_picture width height) = record { size = blanks-size width height; blank = blanks-above width height } in
        let shown = b.row ∙ sym (ap sent_spots (blanks-last width height) ∙ ap known_spots (sent-row width)) in
        let d = row-done width height (blank_picture width height) next bytes q last w b.middle b.size shown in
        record {
          end = d.end;
          runs = Runs-append (blanking width height) q.commands t b.middle d.end b.runs d.runs;
          size = d.size;
          row = d.row;
          others = λ k h. d.others k h ∙ b.others k h;
        }

none-known : (width : ℕ) (rows : List (List StyledCell)) (n : ℕ) → rows ≡ [] → HasSize width n rows → n ≡ 0
none-known width rows n e s = sym s.high ∙ ap length e

module _ (width height : ℕ) (known new : Pictures) (bytes : List ℕ) (p : PaintsBoth width known new bytes) (w : AreWhole width height new) where
  -- ---- the status row

  -- the terminal after its commands
  record StatusDone (commands : List Command) (t : Terminal) : Type 0 where
    middle : Terminal
    runs : after_all commands t ≡ Some middle
    size : IsOfSize middle width (height + 1)
    status : get_or middle.rows height [] ≡ sent_spots (get_or new.status height [])
    others : (k : ℕ) → k < height → HasSize width height known.session → get_or middle.rows k [] ≡ sent_spots (get_or known.session k [])

  new-last : IsLast width height new.status
  new-last = record { size = w.status; blank = w.blank }

  -- nothing is known, and all rows are painted
  all-rows : (from : List (List StyledCell)) (second : List ℕ) (q : Paints width from new.status second) → from ≡ [] → known.session ≡ []
      → (t : Terminal) → IsOfSize t width (height + 1) → StatusDone q.commands t
  all-rows from second q none no_session t size =
      let sized : IsOfSize t width (length new.status) = subst (λ (n : ℕ). IsOfSize t width n) (sym w.status.high) size in
      let leads = q.shows t sized
      (λ s. let no_rows = none-known width from (length new.status) none s in
      let one = w.status.high in
      absurd (omega arith)) in
      let status_at : height < length new.status = subst (λ (n : ℕ). height < n) (sym w.status.high) (omega arith) in
      record {
        middle = leads.end;
        runs = leads.runs;
        size = record {
          wide = leads.stays_wide ∙ size.wide;
          high = ap length leads.shows ∙ length-sent new.status ∙ w.status.high;
          all_wide = All-from_get_or (λ (row : List Spot). length row ≡ width) leads.end.rows [] (λ k h.
              let below : k < height + 1 = subst (λ (n : ℕ). k < n) (ap length leads.shows ∙ length-sent new.status ∙ w.status.high) h in
              let inside : k < length new.status = subst (λ (n : ℕ). k < n) (sym w.status.high) below in
              ap length (ap (λ (rows : List (List Spot)). get_or rows k []) leads.shows ∙ sent-at new.status k inside) ∙ wide-at width new.status (height + 1) k w.status below);
        };
        status = ap (λ (rows : List (List Spot)). get_or rows height []) leads.shows ∙ sent-at new.status height status_at;
        others = λ k h s. let none_shown = none-known width known.session height no_session s in absurd (omega arith);
      }

  -- nothing is known
  anew : {row : ℕ} {last from : List (List StyledCell)} {commands : List Command} → Begins width row last from commands → row ≡ height → last ≡ [] → known.session ≡ []
      → (second : List ℕ) (q : Paints width from new.status second) (t : Terminal) → IsOfSize t width (height + 1) → StatusDone (commands ++ q.commands) t
  anew (from_known {known = last}) e none no_session second q t size = all-rows last second q none no_session t size
  anew {row} from_blanks e none no_session second q t size =
      let d = from-blanks width height row new.status second e q new-last t size in
      record {
        middle = d.end;
        runs = d.runs;
        size = d.size;
        status = d.row;
        others = λ k h s. let none_shown = none-known width known.session height no_session s in absurd (omega arith);
      }

  -- both pictures are shown
  over-known : {row : ℕ} {last from : List (List StyledCell)} {commands : List Command} → Begins width row last from commands → row ≡ height → IsLast width height last
      → (second : List ℕ) (q : Paints width from new.status second) (t : Terminal) → get_or t.rows height [] ≡ sent_spots (get_or last height []) → ShowsBoth width height known t
      → StatusDone (commands ++ q.commands) t
  over-known (from_known {known = last}) e a second q t row sh =
      let d = row-done width height last new.status second q a new-last t sh.size row in
      record { middle = d.end; runs = d.runs; size = d.size; status = d.row; others = λ k h s. d.others k h ∙ sh.session k h }
  over-known {row} from_blanks e a second q t shown sh =
      let d = from-blanks width height row new.status second e q new-last t sh.size in
      record { middle = d.end; runs = d.runs; size = d.size; status = d.row; others = λ k h s. d.others k h ∙ sh.session k h }

  last-row : length new.status - 1 ≡ height
  last-row = let high = w.status.high in omega arith

  -- the commands are those of both parts
  as-both : (t : Terminal) → StatusDone (p.status.beginning.commands ++ p.status.paints.commands) t → StatusDone p.status.commands t
  as-both t d = subst (λ (cs : List Command). StatusDone cs t) (sym p.status.are) d

  status-done : (t : Terminal) → Before width height known t → StatusDone p.status.commands t
  status-done t (anything e size) =
      as-both t
      (anew p.status.beginning.begins last-row (ap (λ (x : Pictures). x.status) e) (ap (λ (x : Pictures). x.session) e) p.status.second p.status.paints t size)
  status-done t (painted a sh) =
      as-both t
      (over-known p.status.beginning.begins last-row (record { size = a.status; blank = a.blank }) p.status.second p.status.paints t sh.status sh)

  -- ---- the session

  module _ (t : Terminal) (d : StatusDone p.status.commands t) where
    abbrev above : Terminal
    above = record d.middle { rows = take height d.middle.rows; cursor = None }

    above-high : length above.rows ≡ height
    above-high = length-take height d.middle.rows ∙ (let h = d.size.high in omega arith)

    above-at : (k : ℕ) → k < height → get_or above.rows k [] ≡ get_or d.middle.rows k []
    above-at k h = get_or-take height d.middle.rows k [] h

    middle-wide : (k : ℕ) → k < height → length (get_or d.middle.rows k []) ≡ width
    middle-wide k h = All-get_or (λ (row : List Spot). length row ≡ width) d.middle.rows k [] (subst (λ (n : ℕ). k < n) (sym d.size.high) (omega arith)) d.size.all_wide

    above-sized : IsOfSize above width (length new.session)
    above-sized = record {
      wide = d.size.wide;
      high = above-high ∙ sym w.session.high;
      all_wide = All-from_get_or (λ (row : List Spot). length row ≡ width) above.rows [] (λ k h.
          let below : k < height = subst (λ (n : ℕ). k < n) above-high h in
          ap length (above-at k below) ∙ middle-wide k below);
    }

    above-shows : HasSize width (length new.session) known.session → above.rows ≡ map known_spots (sent_picture known.session)
    above-shows s =
        let sized : HasSize width height known.session = subst (λ (n : ℕ). HasSize width n known.session) w.session.high s in
        ext_get_or [] above.rows (map known_spots (sent_picture known.session)) (above-high ∙ sym (length-sent known.session ∙ sized.high)) (λ k h.
        let below : k < height = subst (λ (n : ℕ). k < n) above-high h in
        above-at k below ∙ d.others k below sized ∙ sym (sent-at known.session k (subst (λ (n : ℕ). k < n) (sym sized.high) below)))

    session-leads : Leads p.session.commands above (map known_spots (sent_picture new.session))
    session-leads = p.session.shows above above-sized above-shows

    session-alike : Alike (λ k. k < height) above d.middle
    session-alike = record {
      wide = refl;
      rows = λ k h. sym (above-at k h);
      of_first = λ k h. subst (λ (n : ℕ). k < n) (sym above-high) h;
      of_second = λ k h. subst (λ (n : ℕ). k < n) (sym d.size.high) (omega arith);
      style = refl;
      cursor = λ at e. absurd (cc e);
    }

    last : Follows (λ k. k < height) (after_all p.session.commands) above session-leads.end d.middle
    last = all-follow (λ k. k < height) (HasChanged width known.session new.session) height (λ row h changed. h) p.session.commands above d.middle session-leads.end session-alike above-high p.session.few session-leads.runs

    last-session : (k : ℕ) → k < height → get_or last.end.rows k [] ≡ sent_spots (get_or new.session k [])
    last-session k h =
        last.alike.rows k h ∙ ap (λ (rows : List (List Spot)). get_or rows k []) session-leads.shows
        ∙ sent-at new.session k (subst (λ (n : ℕ). k < n) (sym w.session.high) h)

    last-status : get_or last.end.rows height [] ≡ sent_spots (get_or new.status height [])
    last-status = last.keeps.others height (λ h. absurd (omega arith)) ∙ d.status

    last-wide : (k : ℕ) → k < length last.end.rows → length (get_or last.end.rows k []) ≡ width
    last-wide k h = elim (cases_lt k height) [
      | inl below ↦ ap length (last-session k below) ∙ wide-at width new.session height k w.session below
      | inr above ↦
          let size = last.keeps.high ∙ d.size.high in
          let here : k ≡ height = omega arith in
          ap length (ap (λ (j : ℕ). get_or last.end.rows j []) here ∙ last-status) ∙ wide-at width new.status (height + 1) height w.status (omega arith)
    ]

    after-both : LeadsToBoth width height (p.status.commands ++ p.session.commands) t new
    after-both = record {
      end = last.end;
      runs = Runs-append p.status.commands p.session.commands t d.middle last.end d.runs last.runs;
      shows = record {
        size = record { wide = last.keeps.wide ∙ d.size.wide; high = last.keeps.high ∙ d.size.high; all_wide = All-from_get_or (λ (row : List Spot). length row ≡ width) last.end.rows [] last-wide };
        session = last-session;
        status = last-status;
      };
    }

  -- whatever is known
  pub leads-to-both : (t : Terminal) → Before width height known t → LeadsToBoth width height (p.status.commands ++ p.session.commands) t new
  leads-to-both t before = after-both t (status-done t before)

-- ---- each stays on its rows

weaker-move : (P Q : ℕ → Type 0) → ((row : ℕ) → Q row → P row) → (c : Command) → MovesTo Q c → MovesTo P c
weaker-move P Q f (MoveTo row column) h = f row h
weaker-move P Q f (SetStyle style) h = tt
weaker-move P Q f (Put symbol columns) h = tt
weaker-move P Q f (SetWrap wraps) h = tt

weaker-moves : (P Q : ℕ → Type 0) → ((row : ℕ) → Q row → P row) → (cs : List Command) → All (MovesTo Q) cs → All (MovesTo P) cs
weaker-moves P Q f cs all = λ k d h. weaker-move P Q f (get_or cs k d) (all k d h)

past-both : (width height row : ℕ) (last next : List (List StyledCell)) → HasSize width height last → HasSize width height next → height ≤ row → get_or last row [] ≡ get_or next row []
past-both width height row last next s t h =
    get_or_past last row [] (subst (λ (n : ℕ). n ≤ row) (sym s.high) h) ∙ sym (get_or_past next row [] (subst (λ (n : ℕ). n ≤ row) (sym t.high) h))

module _ (width height : ℕ) (known new : Pictures) (bytes : List ℕ) (p : PaintsBoth width known new bytes) (a : AreWhole width height known) (w : AreWhole width height new) where
  on-last : (from : List (List StyledCell)) → IsLast width height from → (row : ℕ) → HasChanged width from new.status row → row ≡ height
  on-last from last row changed = elim (cases_eq row height) [
    | inl e ↦ e
    | inr away ↦
        let no = changed (subst (λ (n : ℕ). HasSize width n from) (sym w.status.high) last.size) in
        elim (cases_lt row height) [
          | inl below ↦ absurd (no (last.blank row below ∙ sym (w.blank row below)))
          | inr above ↦ absurd (no (past-both width (height + 1) row from new.status last.size w.status (omega arith)))
        ]
  ]

  paint-moves : (from : List (List StyledCell)) → IsLast width height from → (second : List ℕ) (q : Paints width from new.status second) → All (MovesTo (λ row. row ≡ height)) q.commands
  paint-moves from last second q = weaker-moves (λ row. row ≡ height) (HasChanged width from new.status) (on-last from last) q.commands q.few

  -- the commands of the status row
  status-moves : {row : ℕ} {last from : List (List StyledCell)} {commands : List Command} → Begins width row last from commands → row ≡ height → IsLast width height last
      → (second : List ℕ) (q : Paints width from new.status second) → All (MovesTo (λ row. row ≡ height)) (commands ++ q.commands)
  status-moves (from_known {known = last}) e a second q = paint-moves last a second q
  status-moves {row} from_blanks e a second q =
      let blanks : IsLast width height (blank_picture width row) =
      subst (λ (r : ℕ). IsLast width height (blank_picture width r)) (sym e) (record { size = blanks-size width height; blank = blanks-above width height }) in
      All-append (MovesTo (λ (r : ℕ). r ≡ height)) (blanking width row) q.commands (blanking-moves (λ (r : ℕ). r ≡ height) width row e) (paint-moves (blank_picture width row) blanks second q)

  on-session : (row : ℕ) → HasChanged width known.session new.session row → row < height
  on-session row changed = elim (cases_lt row height) [
    | inl below ↦ below
    | inr above ↦
        absurd (changed (subst (λ (n : ℕ). HasSize width n known.session) (sym w.session.high) a.session)
        (past-both width height row known.session new.session a.session w.session above))
  ]

  pub stay-apart : StayApart height p
  stay-apart = record {
    status =
        subst (All (MovesTo (λ (row : ℕ). row ≡ height))) (sym p.status.are)
        (status-moves p.status.beginning.begins (let high = w.status.high in omega arith) (record { size = a.status; blank = a.blank }) p.status.second p.status.paints);
    session = weaker-moves (λ row. row < height) (HasChanged width known.session new.session) on-session p.session.commands p.session.few;
  }

-- the bytes of the status row
last-written : {width : ℕ} {known next : List (List StyledCell)} {bytes : List ℕ} → (q : PaintsLast width known next bytes) → bytes ≡ flat_map bytes_of q.commands
last-written q =
    q.written ∙ ap₂ (λ (xs ys : List ℕ). xs ++ ys) q.beginning.written q.paints.written
    ∙ sym (flat_map-append bytes_of q.beginning.commands q.paints.commands) ∙ ap (flat_map bytes_of) (sym q.are)

-- the bytes of both
pub both-written : {width : ℕ} {known new : Pictures} {bytes : List ℕ} → (p : PaintsBoth width known new bytes) → bytes ≡ flat_map bytes_of (p.status.commands ++ p.session.commands)
both-written p =
    p.written ∙ ap₂ (λ (xs ys : List ℕ). xs ++ ys) (last-written p.status) p.session.written
    ∙ sym (flat_map-append bytes_of p.status.commands p.session.commands)

-- ---- the pictures of a front

pub view-whole : (theme : Theme) (words : List (List Columns)) (lines : Lines) (labels : List Label) (v : Seen) (accept : List ℕ)
    → AreWhole (width_of v) (rows_shown v.front.beneath) (view_pictures theme words lines labels v accept)
view-whole theme words lines labels v accept = record {
  session = sideways-size (offset v.pane v.front.beneath) (shown_style theme v.front.kept.anchor words lines v.front.beneath) (labelled labels v.front.beneath);
  status = status-size (width_of v) (rows_shown v.front.beneath) (left_of v.front) (right_of v.front (width_of v) (left_of v.front) (offset v.pane v.front.beneath) accept);
  blank = status-above (width_of v) (rows_shown v.front.beneath) (left_of v.front) (right_of v.front (width_of v) (left_of v.front) (offset v.pane v.front.beneath) accept);
}
