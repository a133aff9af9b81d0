-- Measuring the history pages one by one; and how many remotes the hints will list.
-- Assumes nothing.
use mathlib.Core.Path.{◌≡◌, refl, sym, ap, ap₂, ◌∙◌}
use mathlib.Core.List.{List, [], ◌∷◌}
use mathlib.Core.Bool.{true}
use Prim.Native.Nat.{ℕ, zero, suc, ◌+◌, ◌-◌, ◌*◌, ◌≤◌, ◌<◌}
use native.Mathlib.Omega.{arith}
use lib.ListN.{length, take, drop, length-append, length-drop, length-take}
use Rattle.frames.specs.Layout.{frame_len}
use Rattle.frames.specs.Limits.{max_budget, max_entries, max_limit}
use Rattle.build_paging.specs.Cuts.{cuts_from, cuts, first_cut}
use Rattle.build_paging.proofs.Cutting.{told, first_some}
use Rattle.build_sources.specs.declared.Cursor.{Cursor}
use Rattle.build_sources.specs.Source.{Entry, entries, only, Skipped}
use Rattle.build_image.specs.Sizes.{cost, costs_of}
use Rattle.build_image.specs.Image.{hist_size, page_end, history_end, remote_addrs, hist_addrs}
use Rattle.build_image.proofs.Lengths.{frame_most, costs_drop}
use Rattle.build_image.proofs.Leaf.{remotes, length_addrs, remotes_cut}
use Rattle.build_history.specs.declared.PageAhead.{PageAhead}
use Rattle.build_history.specs.Runs.{run_of}
use Rattle.build_history.proofs.Ahead.{Tells, tells_of}
use Rattle.build_sweep.specs.Pages.{pages_of}
use Rattle.build_totals.proofs.Fine.{fine, fine_only, fine_take, remotes_most}

abbrev pub cuts_at : ℕ → ℕ → List Entry → List ℕ
cuts_at limit budget os = cuts budget (costs_of limit os)

pub record Paging (l w : List ℕ) (limit budget at : ℕ) (c₀ c : Cursor) (n to : ℕ) : Type 0 where
  pub count : n + length (cuts_at limit budget (only true (entries l w c))) ≡ length (cuts_at limit budget (only true (entries l w c₀)))
  pub ends : history_end limit to (cuts_at limit budget (only true (entries l w c))) (only true (entries l w c)) ≡ history_end limit at (cuts_at limit budget (only true (entries l w c₀))) (only true (entries l w c₀))
  pub few : n + length (only true (entries l w c)) ≤ max_entries
  pub near : to + 196700 * length (only true (entries l w c)) ≤ at + 12890734500

pub paging_begin : (l w : List ℕ) (limit budget at : ℕ) (c : Cursor) → length (only true (entries l w c)) ≤ max_entries → Paging l w limit budget at c c 0 at
paging_begin l w limit budget at c h = record { count = omega arith; ends = refl; few = omega arith; near = omega arith }

nil_cuts : (limit budget to : ℕ) (os : List Entry) → os ≡ [] → (length (cuts_at limit budget os) ≡ 0) × (history_end limit to (cuts_at limit budget os) os ≡ to)
unfolding cuts_from costs_of history_end
nil_cuts limit budget to os e = rw e (refl, refl)

pages_are : (limit budget n at : ℕ) (os : List Entry) (x y : ℕ) → x ≡ n + length (cuts_at limit budget os) → y ≡ history_end limit at (cuts_at limit budget os) os
    → record { count = x; end = y } ≡ pages_of limit budget n at os
unfolding pages_of
pages_are limit budget n at os x y ex ey = rw (ex, ey) refl

module _ (l w : List ℕ) (limit budget at : ℕ) (c₀ c : Cursor) (n to : ℕ) (lh : limit ≤ max_limit) (bh : budget ≤ max_budget) (h : Paging l w limit budget at c₀ c n to)
    (r : PageAhead) (re : r ≡ run_of limit budget (only true (entries l w c))) where
  abbrev os : List Entry
  os = only true (entries l w c)

  pub run_tells : Tells limit budget (only true (entries l w c)) r
  run_tells = tells_of limit budget os r lh bh re

  pub paging_done : r.count ≡ 0 → (record { count = n; end = to } ≡ pages_of limit budget 0 at (only true (entries l w c₀))) × ((to ≤ at + 12890734500) × (n ≤ max_entries))
  paging_done z =
      let q = nil_cuts limit budget to os (run_tells.none z) in (
        pages_are limit budget 0 at (only true (entries l w c₀)) n to (omega (arith, h.count, q.0)) (sym q.1 ∙ h.ends),
        (omega (arith, h.near), omega (arith, h.few)),
      )

  module _ (nz : r.count ≡ 0 → ⊥) where
    some : 0 < r.count
    some = omega (arith, nz)

    remote-few : r.remote ≤ 65583 * r.count
    remote-few = omega (arith, run_tells.remote, run_tells.count, remotes_most limit (take r.count os) (fine_take r.count os (fine_only true (entries l w c) (fine l w c))))

    left : length (drop r.count os) + r.count ≡ length os
    left = omega (arith, length-drop r.count os, run_tells.count, length-take r.count os)

    pub size_small : r.size ≤ max_budget
    size_small = run_tells.small

    module _ (x : ℕ) (ex : x ≡ frame_len r.size) where
      page-small : x + r.remote ≤ 196700 * r.count
      page-small = omega (arith, ex, frame_most r.size, run_tells.small, remote-few, some)

      pub step_small : x + r.remote ≤ 18446744073709551615
      step_small = omega (arith, page-small, h.few, left)

      pub to-small : to + (x + r.remote) ≤ at + 12890734500
      to-small = omega (arith, page-small, h.near, left)

      pub n-small : n + 1 ≤ max_entries
      n-small = omega (arith, h.few, left, some)

      end_is : to + (x + r.remote) ≡ page_end limit to (take r.count os)
      unfolding page_end
      end_is = omega (arith, ex, ap frame_len run_tells.size, run_tells.remote)

      module _ (d : Cursor) (s : Skipped l w true c r.count d) where
        cut : cuts_at limit budget os ≡ r.count ∷ cuts_at limit budget (only true (entries l w d))
        cut = run_tells.cut some ∙ ap (λ (z : List Entry). r.count ∷ cuts_at limit budget z) (sym s.list)

        ends_on : history_end limit to (cuts_at limit budget os) os ≡ history_end limit (to + (x + r.remote)) (cuts_at limit budget (only true (entries l w d))) (only true (entries l w d))
        unfolding history_end
        ends_on =
            ap (λ (z : List ℕ). history_end limit to z os) cut
            ∙ ap₂ (λ (k : ℕ) (z : List Entry). history_end limit k (cuts_at limit budget (only true (entries l w d))) z) (sym end_is) (sym s.list)

        pub paging_turn : Paging l w limit budget at c₀ d (n + 1) (to + (x + r.remote))
        paging_turn =
            record {
              count = omega (arith, h.count, ap length cut);
              ends = sym ends_on ∙ h.ends;
              few = omega (arith, h.few, left, some, ap length s.list);
              near = omega (arith, page-small, h.near, left, ap length s.list);
            }

        pub paging_less : length (only true (entries l w d)) < length (only true (entries l w c))
        paging_less = omega (arith, left, some, ap length s.list)

-- ---- the remotes of all history pages

hist_fuel : (limit budget n : ℕ) (os : List Entry) (at : ℕ) → length os < n → length (hist_addrs limit at (cuts_at limit budget os) os) ≡ remotes limit os
unfolding hist_addrs remotes costs_of cuts_from
hist_fuel limit budget zero os at h = absurd (omega arith)
hist_fuel limit budget (suc n) [] at h = refl
hist_fuel limit budget (suc n) (e ∷ es) at h =
    let os : List Entry = e ∷ es in
    let k = first_cut budget (costs_of limit (e ∷ es)) in
    let t = told budget (costs_of limit (e ∷ es)) k refl in
    let pos : 0 < k = omega (arith, first_some budget (cost limit e) (costs_of limit es)) in
    let next = page_end limit at (take k (e ∷ es)) in
    let remote = at + frame_len (hist_size limit (take k (e ∷ es))) in
    let short : length (drop k (e ∷ es)) < n = omega (arith, length-drop k (e ∷ es), pos, h) in
    ap (λ (z : List ℕ). length (hist_addrs limit at z (e ∷ es))) (t.cut pos ∙ ap (λ (z : List ℕ). k ∷ cuts budget z) (sym (costs_drop limit k (e ∷ es))))
    ∙ length-append (remote_addrs limit remote (take k (e ∷ es))) (hist_addrs limit next (cuts_at limit budget (drop k (e ∷ es))) (drop k (e ∷ es)))
    ∙ omega (arith, length_addrs limit (take k (e ∷ es)) remote, hist_fuel limit budget n (drop k (e ∷ es)) next short, remotes_cut limit k (e ∷ es))

pub hist_remotes : (limit budget : ℕ) (os : List Entry) (at : ℕ) → length (hist_addrs limit at (cuts_at limit budget os) os) ≡ remotes limit os
hist_remotes limit budget os at = hist_fuel limit budget (suc (length os)) os at (omega arith)
