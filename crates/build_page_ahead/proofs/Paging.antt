-- The loop over a leaf's heads: finishing from here gives the page that their old versions fill; and the whole look ahead.
-- Assumes nothing.
use Prim.Native.Nat.{ℕ, ◌+◌, ◌-◌, ◌≤◌, ◌<◌}
use mathlib.Core.Path.{◌≡◌, refl, sym, ap, ◌∙◌}
use mathlib.Core.List.{List, ◌∷◌, ◌++◌}
use mathlib.Core.Bool.{true, false}
use native.Mathlib.Omega.{arith}
use Rattle.frames.specs.declared.Addr.{Addr}
use Rattle.frames.specs.declared.Body.{Body}
use Rattle.frames.specs.Layout.{base_len}
use Rattle.values.specs.declared.HistRef.{HistRef}
use Rattle.records.specs.declared.Rec.{Rec}
use Rattle.pages.specs.Meaning.{key_of}
use Rattle.pages.proofs.Rows.{Good}
use Rattle.build_sources.specs.Source.{Entry}
use Rattle.law_rows.specs.Rows.{head_entries, head_entry, old_entries, leaf_entries}
use Rattle.build_history.specs.declared.PageAhead.{PageAhead}
use Rattle.build_rows.specs.Judged.{Judged, Runs, PastAt}
use Rattle.build_rows.specs.Hand.{Opens}
use Rattle.build_rows.proofs.Rows.{judged_good, slots_end, leaf_more, head_runs, head_opens, head_says}
use Rattle.build_page_ahead.specs.declared.Rest.{Rest}
use Rattle.build_page_ahead.specs.declared.Filling.{Filling}
use Rattle.build_page_ahead.specs.Filled.{page_of, filled}
use Rattle.build_page_ahead.specs.Answers.{Ready, FilledBy, AheadBy}
use Rattle.build_page_ahead.proofs.Filled.{filled_nil, filled-over, filled_full, filled_head, filled-first}

-- the heads from slot i on are left
pub record Paging (w : List ℕ) (b : Body) (end limit budget from : ℕ) (r : PageAhead) (i : ℕ) (x : Filling) : Type 0 where
  pub goes : filled limit budget r (leaf_entries w b (end - from) from) ≡ filled limit budget x.run (leaf_entries w b (end - i) i)
  pub ready : Ready w x

pub page_begin : (w : List ℕ) (b : Body) (end limit budget from : ℕ) (x : Filling) → Ready w x → Paging w b end limit budget from x.run from x
page_begin w b end limit budget from x h = record { goes = refl; ready = h }

module _ (w : List ℕ) (b : Body) (end limit budget from : ℕ) (r₀ : PageAhead) (i : ℕ) (x : Filling) (inv : Paging w b end limit budget from r₀ i x) where
  pub page_full : x.run.more ≡ true → x.run ≡ filled limit budget r₀ (leaf_entries w b (end - from) from)
  page_full e = sym (inv.goes ∙ filled_full limit budget x.run (leaf_entries w b (end - i) i) e)

  pub page_done : end ≤ i → x.run ≡ filled limit budget r₀ (leaf_entries w b (end - from) from)
  page_done e = sym (inv.goes ∙ filled_nil limit budget x.run (leaf_entries w b (end - i) i) (slots_end (head_entries w b) w b end i e))

  -- one head
  module _ (j : Judged w b 0) (eh : end ≤ b.elems) (l : i < end) (h : HistRef) (eh' : PastAt w b i h) where
    good : Good w b i
    good = judged_good w b 0 i j (omega (arith, eh, l))

    abbrev r : Rec
    r = good.rec

    past_is : h ≡ r.hist
    past_is = eh' r good.read

    pub page-runs : Runs w h.count h.page h.slot
    page-runs = rw past_is (head_runs w r good.ok)

    pub page-opens : 0 < h.count → Opens w h.page
    page-opens q = rw past_is (head_opens w r good.ok (omega (arith, ap (λ (y : HistRef). y.count) past_is, q)))

    -- its old versions, and what is left behind them
    abbrev aged : List Entry
    aged = old_entries w (key_of w b r) h.count h.page h.slot

    abbrev later : List Entry
    later = leaf_entries w b (end - (i + 1)) (i + 1)

    here : leaf_entries w b (end - i) i ≡ head_entry w b r ∷ (aged ++ later)
    here =
        leaf_more w b end i r l good.read
        ∙ ap (λ (y : HistRef). head_entry w b r ∷ (old_entries w (key_of w b r) y.count y.page y.slot ++ leaf_entries w b (end - (i + 1)) (i + 1))) (sym past_is)

    pub page-on : (y : Filling) → Ready w y → FilledBy w limit budget x.run h.count h.page h.slot y.run → Paging w b end limit budget from r₀ (i + 1) y
    page-on y z s =
        record {
          goes =
              inv.goes
              ∙ ap (filled limit budget x.run) here
              ∙ filled_head limit budget x.run (head_entry w b r) (aged ++ later) (ap (λ (e : Entry). e.old) (head_says w b r))
              ∙ filled-over limit budget x.run aged later
              ∙ ap (λ (p : PageAhead). filled limit budget p later) (sym (s (key_of w b r)));
          ready = z;
        }

-- the run's, then those of one leaf, then those of another
pub page_ahead : (w : List ℕ) (limit budget n : ℕ) (a : Addr) (i : ℕ) (z : Rest) (x y r : PageAhead)
    → FilledBy w limit budget (page_of 0 base_len 0 false) n a i x
    → y ≡ filled limit budget x (leaf_entries w z.body (z.end - z.i) z.i)
    → r ≡ filled limit budget y (leaf_entries w z.then (z.n - 0) 0)
    → AheadBy w limit budget n a i z r
page_ahead w limit budget n a i z x y r ex ey er key =
    let es = old_entries w key n a i in
    let fs = leaf_entries w z.body (z.end - z.i) z.i in
    let gs = leaf_entries w z.then z.n 0 in
    let q : z.n - 0 ≡ z.n = omega arith in
    er
    ∙ ap (λ (m : ℕ). filled limit budget y (leaf_entries w z.then m 0)) q
    ∙ ap (λ (p : PageAhead). filled limit budget p gs) (ey ∙ ap (λ (p : PageAhead). filled limit budget p fs) (ex key))
    ∙ sym (filled-over limit budget (page_of 0 base_len 0 false) es (fs ++ gs) ∙ filled-over limit budget (filled limit budget (page_of 0 base_len 0 false) es) fs gs)
    ∙ filled-first limit budget (es ++ (fs ++ gs))
