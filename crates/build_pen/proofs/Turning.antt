-- The pen turns to a new history page: headers, rounding and the page's hint are stored, and its slots, records and remote frames are left.
-- Assumes nothing.
use mathlib.Core.Path.{◌≡◌, refl, sym, ap, ◌∙◌, subst}
use mathlib.Core.List.{List, [], ◌∷◌, ◌++◌}
use mathlib.Core.Bool.{true, cond}
use Prim.Native.Nat.{ℕ, zero, suc, ◌+◌, ◌-◌, ◌*◌, ◌≤◌, ◌<◌}
use native.Mathlib.Omega.{arith}
use lib.ListN.{length, take, drop, replicate}
use Rattle.spans.specs.Span.{put}
use Rattle.numbers.specs.Number.{le}
use Rattle.numbers.proofs.Numbers.{length-le}
use Rattle.frames.specs.Layout.{box_len, slots_at, frame_len}
use Rattle.frames.specs.Limits.{max_budget, max_entries}
use Rattle.build_sources.specs.Source.{Entry}
use Rattle.build_image.specs.declared.Call.{Call}
use Rattle.build_image.specs.Image.{hist_head, page_end, history, starts, hist_addrs, remote_addrs, les}
use Rattle.build_image.proofs.Lengths.{length-page}
use Rattle.build_history.specs.declared.PageAhead.{PageAhead}
use Rattle.build_history.specs.Runs.{Sane, run_of, run_page, history_at}
use Rattle.build_history.proofs.Ahead.{Tells, tells_of}
use Rattle.build_heads.proofs.Locating.{stays, settled-end, turned}
use Rattle.build_pen.specs.declared.Nib.{Nib}
use Rattle.build_pen.specs.declared.Pen.{Pen}
use Rattle.build_pen.specs.Stretches.{Stretch, stretch, draws, Rising, Drawing}
use Rattle.build_pen.specs.Nibs.{olds_left}
use Rattle.build_pen.specs.Pens.{Drew, starts_at, addrs_at, pens_left, Steady, Opens, page_opened, pen_opened, Turned}
use Rattle.build_pen.proofs.Drawn.{drew, drew-room}
use Rattle.build_pen.proofs.Cutting.{gone}
use Rattle.build_pen.proofs.Olding.{Olding, none}
use Rattle.build_pen.proofs.Opening.{nib_at, page-begun}

pub drew_none : (low : ℕ) (a : List ℕ) (f : List Stretch → List Stretch → List Stretch) → Drew low a f a f
drew_none low a f mid tail end l o = record { goes = refl; order = o; room = l; long = refl; same = refl }

-- a page is at hand
pub turn_stays : (low : ℕ) (m : Call) (os : List Entry) (a : List ℕ) (q : Pen) → Steady m q os → 0 < q.loc.left → Turned low m os a q a q
turn_stays low m os a q s h = record { drew = drew_none low a (pens_left m q os); settled = stays m.limit m.budget os true q.loc h; steady = s }

none_in : (k : ℕ) (os : List Entry) → k ≡ 0 → (take k os ≡ []) × (drop k os ≡ os)
none_in zero os e = (refl, refl)
none_in (suc k) os e = absurd (omega (arith, e))

no_addrs : (limit remote : ℕ) (es : List Entry) → es ≡ [] → remote_addrs limit remote es ≡ []
unfolding remote_addrs
no_addrs limit remote es e = rw e refl

-- `opened`: three stores, and the pen
module _ (m : Call) (q : Pen) (r : PageAhead) (a : List ℕ) (x : ℕ) (ex : x ≡ frame_len r.size) where
  pub opened_pen : record { loc = record { page = q.loc.next; slot = 0; left = r.count; next = q.loc.next + x + r.remote }; nib = nib_at q.loc.next r.count x; pages = q.pages + 8; hint = q.hint } ≡ pen_opened q r
  opened_pen = rw ex refl

  pub opened-page : (v : ℕ) → v ≡ cond r.more (q.loc.next + x + r.remote) 0
      → (a₁ a₂ a₃ : List ℕ) → a₁ ≡ put a q.loc.next (hist_head m v r.count r.size)
      → a₂ ≡ put a₁ (q.loc.next + (box_len + r.size)) (replicate (q.loc.next + x - (q.loc.next + (box_len + r.size))) 0)
      → a₃ ≡ put a₂ q.pages (le 8 q.loc.next) → a₃ ≡ page_opened m q r a
  opened-page v ev a₁ a₂ a₃ e₁ e₂ e₃ = rw (e₃, e₂, e₁, ev, ex) refl

-- the next page, by what a look ahead tells of it
module _ (m : Call) (to : ℕ) (os : List Entry) (r : PageAhead) (t : Tells m.limit m.budget os r) (p : 0 < r.count) where
  abbrev next : ℕ
  next = page_end m.limit to (take r.count os)

  hist_open : history_at m to os ≡ run_page m to r os ++ history_at m next (drop r.count os)
  unfolding history
  hist_open = rw (t.cut p, t.link) refl

  starts_open : les 8 (starts_at m to os) ≡ le 8 to ++ les 8 (starts_at m next (drop r.count os))
  unfolding starts les
  starts_open = rw (t.cut p) refl

  addrs_open : addrs_at m to os ≡ remote_addrs m.limit (to + frame_len r.size) (take r.count os) ++ addrs_at m next (drop r.count os)
  unfolding hist_addrs
  addrs_open = rw (t.cut p, t.size) refl

module _ (low : ℕ) (m : Call) (os : List Entry) (a : List ℕ) (q : Pen) (sane : Sane m) (st : Steady m q os) (h : Rising low (pens_left m q os [] []) (length a)) (z : q.loc.left ≤ 0)
    (r : PageAhead) (re : r ≡ run_of m.limit m.budget os) where
  abbrev at : ℕ
  at = q.loc.next

  t : Tells m.limit m.budget os r
  t = tells_of m.limit m.budget os r sane.limit sane.budget re

  turn_small : r.size ≤ max_budget
  turn_small = t.small

  pub turn_none : r.count ≡ 0 → Turned low m os a q a q
  turn_none e = record { drew = drew_none low a (pens_left m q os); settled = settled-end m os true q.loc sane z r re e; steady = st }

  z0 : q.loc.left ≡ 0
  z0 = omega arith

  -- the page before is full
  abbrev behind : List Stretch → List Stretch → List Stretch
  behind mid tail = mid ++ stretch q.pages (les 8 (starts_at m at os)) ∷ stretch q.hint (les 8 (addrs_at m at os)) ∷ tail

  rest-only : (mid tail : List Stretch) (end : ℕ) → Drawing a low (draws a (pens_left m q os mid tail)) a (pens_left m q os mid tail) end
      → Drawing a low (draws a (pens_left m q os mid tail)) a (stretch at (history_at m at os) ∷ behind mid tail) end
  rest-only mid tail end d =
      let whole = draws a (pens_left m q os mid tail) in
      let i = none_in q.loc.left os z0 in
      let n = none m (q.nib.rec - (q.loc.page + box_len)) q.nib.remote (take q.loc.left os) i.0 in
      let d₁ = gone a low whole a [] q.nib.slot _ _ end d n.0 in
      let d₂ = gone a low whole a [] q.nib.rec _ _ end d₁ n.1.0 in
      let d₃ = gone a low whole a [] q.nib.remote _ _ end d₂ n.1.1 in
      let d₄ : Drawing a low whole a (stretch at (history_at m at os) ∷ (mid ++ stretch q.pages (les 8 (starts_at m at os)) ∷ stretch q.hint (les 8 (remote_addrs m.limit q.nib.remote (take q.loc.left os) ++ addrs_at m at os)) ∷ tail)) end =
      subst (λ (x : List Entry). Drawing a low whole a (stretch at (history_at m at x) ∷ (mid ++ stretch q.pages (les 8 (starts_at m at x)) ∷ stretch q.hint (les 8 (remote_addrs m.limit q.nib.remote (take q.loc.left os) ++ addrs_at m at x)) ∷ tail)) end) i.1 d₃ in
      subst (λ (x : List ℕ). Drawing a low whole a (stretch at (history_at m at os) ∷ (mid ++ stretch q.pages (les 8 (starts_at m at os)) ∷ stretch q.hint (les 8 (x ++ addrs_at m at os)) ∷ tail)) end)
      (no_addrs m.limit q.nib.remote (take q.loc.left os) i.0) d₄

  begin : Drawing a low (draws a (pens_left m q os [] [])) a (stretch at (history_at m at os) ∷ behind [] []) (length a)
  begin = rest-only [] [] (length a) (record { goes = refl; order = h; room = omega arith; long = refl; same = refl })

  abbrev page : List ℕ
  page = run_page m at r os

  module _ (nz : r.count ≡ 0 → ⊥) where
    pos : 0 < r.count
    pos = omega (arith, nz)

    abbrev to : ℕ
    to = page_end m.limit at (take r.count os)

    abbrev link : ℕ
    link = cond r.more to 0

    abbrev rest : List ℕ
    rest = history_at m to (drop r.count os)

    opened : history_at m at os ≡ page ++ rest
    opened = hist_open m at os r t pos

    to_is : to ≡ at + length page
    to_is = sym (length-page m at link (take r.count os))

    fits : at + length page ≤ length a
    fits = drew-room a low _ a [] at _ page rest _ (length a) begin opened

    turn_hint : q.pages + 8 ≤ length a
    turn_hint =
        omega (
          arith,
          drew-room a low _ a (stretch at (history_at m at os) ∷ []) q.pages _ (le 8 at) (les 8 (starts_at m to (drop r.count os))) _ (length a) begin (starts_open m at os r t pos),
          length-le 8 at,
        )

    past : (x : ℕ) → x ≡ frame_len r.size → at + x + r.remote ≡ to
    unfolding page_end
    past x ex = rw (ex, t.size, t.remote) refl

    turn_fits : (x : ℕ) → x ≡ frame_len r.size → at + x + r.remote ≤ length a
    turn_fits x ex = omega (arith, past x ex, to_is, fits)

    turn_many : (r.count ≤ max_entries) × (r.size ≤ 4294967295)
    turn_many = (omega (arith, t.small, t.many), omega (arith, t.small))

    turn_least : slots_at + 4 * r.count ≤ box_len + r.size
    turn_least = omega (arith, t.many)

    -- what the new page asks
    pub turn_opens : Opens q r (length a)
    turn_opens = record { fits = turn_fits (frame_len r.size) refl; hint = turn_hint; many = turn_many.0; small = turn_small; least = turn_least }

    module _ (x : ℕ) (ex : x ≡ frame_len r.size) (v : ℕ) (ev : v ≡ cond r.more (at + x + r.remote) 0) (a₁ : List ℕ) (e₁ : a₁ ≡ put a at (hist_head m v r.count r.size)) where
      v_is : v ≡ link
      v_is = ev ∙ ap (λ (y : ℕ). cond r.more y 0) (past x ex)

      module _ (a₂ : List ℕ) (e₂ : a₂ ≡ put a₁ (at + (box_len + r.size)) (replicate (at + x - (at + (box_len + r.size))) 0)) where
        module _ (a₃ : List ℕ) (e₃ : a₃ ≡ put a₂ q.pages (le 8 at)) where
          abbrev nib : Nib
          nib = nib_at at r.count x

          abbrev new : Pen
          new = record { loc = record { page = at; slot = 0; left = r.count; next = at + x + r.remote }; nib = nib; pages = q.pages + 8; hint = q.hint }

          abbrev here : List Entry
          here = take r.count os

          begun : (mid tail : List Stretch) (end : ℕ) → end ≤ length a → Rising low (pens_left m q os mid tail) end
              → Olding a low (draws a (pens_left m q os mid tail)) m (at + box_len) (stretch to rest ∷ behind mid tail) end a₂ nib here
          begun mid tail end l o =
              let d = rest-only mid tail end (record { goes = refl; order = o; room = l; long = refl; same = refl }) in
              page-begun a low (draws a (pens_left m q os mid tail)) a at m link here r.count r.size t.count t.size t.small rest (behind mid tail) end (history_at m at os) d opened x ex to to_is
              a₁ (e₁ ∙ ap (λ (y : ℕ). put a at (hist_head m y r.count r.size)) v_is) a₂ e₂

          addrs_is : addrs_at m at os ≡ remote_addrs m.limit (at + x) here ++ addrs_at m to (drop r.count os)
          addrs_is = addrs_open m at os r t pos ∙ ap (λ (y : ℕ). remote_addrs m.limit (at + y) here ++ addrs_at m to (drop r.count os)) (sym ex)

          drawn : (mid tail : List Stretch) (end : ℕ) → end ≤ length a → Rising low (pens_left m q os mid tail) end
              → Drawing a low (draws a (pens_left m q os mid tail)) a₃ (olds_left m nib (at + box_len) here (stretch to rest ∷ (mid ++ stretch (q.pages + 8) (les 8 (starts_at m to (drop r.count os))) ∷ stretch q.hint (les 8 (remote_addrs m.limit (at + x) here ++ addrs_at m to (drop r.count os))) ∷ tail))) end
          drawn mid tail end l o =
              let whole = draws a (pens_left m q os mid tail) in
              let d₁ = drew a low whole a₂ (olds_left m nib (at + box_len) here (stretch to rest ∷ mid)) q.pages _ (le 8 at) (les 8 (starts_at m to (drop r.count os))) (stretch q.hint (les 8 (addrs_at m at os)) ∷ tail) end a₃ (q.pages + 8)
              (begun mid tail end l o).drawing (starts_open m at os r t pos) e₃ (omega (arith, length-le 8 at)) in
              subst (λ (y : List ℕ). Drawing a low whole a₃ (olds_left m nib (at + box_len) here (stretch to rest ∷ (mid ++ stretch (q.pages + 8) (les 8 (starts_at m to (drop r.count os))) ∷ stretch q.hint (les 8 y) ∷ tail))) end) addrs_is d₁

          turn_new : Turned low m os a q a₃ new
          turn_new =
              let b = begun [] [] (length a) (omega arith) h in
              record {
                drew =
                    λ mid tail end l o.
                    subst (λ (y : ℕ). Drawing a low (draws a (pens_left m q os mid tail)) a₃ (olds_left m nib (at + box_len) here (stretch y (history_at m y (drop r.count os)) ∷ (mid ++ stretch (q.pages + 8) (les 8 (starts_at m y (drop r.count os))) ∷ stretch q.hint (les 8 (remote_addrs m.limit (at + x) here ++ addrs_at m y (drop r.count os))) ∷ tail))) end) (sym (past x ex)) (drawn mid tail end l o);
                settled = turned m os true q.loc sane z r re nz x ex;
                steady = record { above = λ _. b.above; small = λ _. b.small; slots = omega (arith, turn_many.0) };
              }

    -- by the equations of `opened`
    pub turn_opened : (a' : List ℕ) (p : Pen) → p ≡ pen_opened q r → a' ≡ page_opened m q r a → Turned low m os a q a' p
    turn_opened a' p ep ea =
        subst (λ (x : Pen). Turned low m os a q a' x) (sym ep)
        (turn_new (frame_len r.size) refl (cond r.more (at + frame_len r.size + r.remote) 0) refl _ refl _ refl a' ea)
