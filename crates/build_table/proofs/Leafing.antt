-- The judge of a leaf's entries: what it measures is what the definitions say, one law a return; and what its answer gives the writer.
-- Assumes nothing.
use mathlib.Core.Path.{◌≡◌, refl, sym, ap, ap₂, ◌∙◌}
use mathlib.Core.List.{List}
use mathlib.Core.Bool.{Bool, true, false, cond}
use Prim.Native.Nat.{ℕ, ◌+◌, ◌*◌, ◌≤◌, ◌<◌}
use native.Mathlib.Omega.{arith}
use borrow.Author.Tests.{leb-true, leb-false, le-leb, lt-leb}
use lib.Dec.{leb, eqb}
use lib.ListN.{length, take, length-append}
use Rattle.spans.specs.Span.{put}
use Rattle.frames.specs.Layout.{addr, frame_len, base_len}
use Rattle.frames.specs.declared.Refusal.{Refusal}
use Rattle.frames.specs.declared.Refusal.TheVariants.{OutOfOrder, TooBig, NoRoom}
use Rattle.frames.specs.Limits.{max_entries, max_size}
use Rattle.build_paging.specs.Cuts.{cuts}
use Rattle.build_sources.specs.Source.{Entry, entries, only, olds, heads}
use Rattle.build_sources.specs.Judged.{rising, prefixed, enclosed}
use Rattle.build_image.specs.declared.Call.{Call}
use Rattle.build_image.specs.Sizes.{costs_of, remotes_len, sums, counted, room_of}
use Rattle.build_image.specs.Image.{cuts_of, history_end, hist_addrs, remote_addrs, leaf_size, leaf_room, leaf_image, Borders}
use Rattle.build_image.proofs.Leaf.{remotes, length_addrs, remotes_kinds, length_leaf_image}
use Rattle.build_heads.specs.Steps.{Long}
use Rattle.build_bounds.specs.declared.Boundaries.{Boundaries}
use Rattle.build_bounds.specs.Boundaries.{BothWithin, boundary_bytes, bounds_of}
use Rattle.build_bounds.proofs.Laws.{length_boundary}
use Rattle.build_totals.specs.declared.Totals.{Totals}
use Rattle.build_sweep.specs.declared.Tally.{Tally}
use Rattle.build_sweep.specs.declared.Pages.{Pages}
use Rattle.build_totals.specs.Totals.{leaf_at, remote_at, remotes_of, totals_of}
use Rattle.build_sweep.specs.Tally.{nothing, tally_of}
use Rattle.build_sweep.specs.Pages.{pages_of}
use Rattle.build_sweep.proofs.Tallying.{heads_are, olds_are, sums_are, counted_are, remotes_are, aged_are, remote-is}
use Rattle.build_totals.proofs.Paged.{hist_remotes}
use Rattle.build_leaf.specs.Leaf.{Small}
use Rattle.build_image.specs.Table.{Row, judged}
use Rattle.build_table.specs.Table.{outside_of}
use Rattle.build_table.specs.Index.{Held}
use Rattle.build_table.specs.Leaf.{leaf_end, leaf_rows, leaf_answer, leaf_arena, leaf_verdict, weighed}
use Rattle.build_image.proofs.Tables.{All, all_go, refuses, passes}
use Rattle.build_table.proofs.Judging.{and_both, held-shared, held-long, held-prefixed, at_six, at-outside}
use Rattle.std.proofs.Common.{Result, Ok, Err}

-- ---- the totals, field by field

totals_open : (m : Call) (b : Borders) (at : ℕ) (es : List Entry)
    → record { heads = length (heads es); olds = length (olds es); pages = length (cuts_of m es); remotes = length (remotes_of m b at es); aged = length (hist_addrs m.limit at (cuts_of m es) (olds es)); size = leaf_size m b es; room = leaf_room m es; leaf = leaf_at m at es; end = (totals_of m b at es).end } ≡ totals_of m b at es
unfolding totals_of
totals_open m b at es = refl

module _ (m : Call) (b : Borders) (at : ℕ) (es : List Entry) where
  pub tot_leaf : (totals_of m b at es).leaf ≡ leaf_at m at es
  unfolding totals_of
  tot_leaf = refl

  pub tot_size : (totals_of m b at es).size ≡ leaf_size m b es
  unfolding totals_of
  tot_size = refl

  pub tot_room : (totals_of m b at es).room ≡ leaf_room m es
  unfolding totals_of
  tot_room = refl

  pub tot_end : (totals_of m b at es).end ≡ leaf_end at m b es
  unfolding totals_of remote_at leaf_at leaf_end
  tot_end = sym (length_leaf_image m b at es)

  remotes-all : length (remotes_of m b at es) ≡ remotes m.limit es
  unfolding remotes_of
  remotes-all =
      length-append (hist_addrs m.limit at (cuts_of m es) (olds es)) (remote_addrs m.limit (remote_at m b at es) (heads es))
      ∙ omega (arith, hist_remotes m.limit m.budget (olds es) at, length_addrs m.limit (heads es) (remote_at m b at es), remotes_kinds m.limit es)

  totals_by : (hs os ps rs ag size room leaf end : ℕ) → hs ≡ length (heads es) → os ≡ length (olds es) → ps ≡ length (cuts_of m es) → rs ≡ remotes m.limit es → ag ≡ remotes m.limit (olds es)
      → size ≡ leaf_size m b es → room ≡ leaf_room m es → leaf ≡ leaf_at m at es → end ≡ leaf_end at m b es
      → record { heads = hs; olds = os; pages = ps; remotes = rs; aged = ag; size = size; room = room; leaf = leaf; end = end } ≡ totals_of m b at es
  totals_by hs os ps rs ag size room leaf end e₁ e₂ e₃ e₄ e₅ e₆ e₇ e₈ e₉ =
      let f₄ = e₄ ∙ sym remotes-all in
      let f₅ = e₅ ∙ sym (hist_remotes m.limit m.budget (olds es) at) in
      let f₉ = e₉ ∙ sym tot_end in
      rw (e₁, e₂, e₃, f₄, f₅, e₆, e₇, e₈, f₉) (totals_open m b at es)

-- ---- what the judge measures

count_of : (limit budget at : ℕ) (os : List Entry) → (pages_of limit budget 0 at os).count ≡ length (cuts budget (costs_of limit os))
unfolding pages_of
count_of limit budget at os = omega arith

end_of_lem : (limit budget at : ℕ) (os : List Entry) → (pages_of limit budget 0 at os).end ≡ history_end limit at (cuts budget (costs_of limit os)) os
unfolding pages_of
end_of_lem limit budget at os = refl

size_of : (m : Call) (lo hi w : List ℕ) (e : Boundaries) (es : List Entry) (h s : ℕ) → BothWithin lo hi w e → h ≡ length (heads es) → s ≡ sums m.limit e.prefix false es
    → base_len + 4 * h + e.lo.len + e.hi.len + s ≡ leaf_size m (bounds_of lo hi w e) es
unfolding leaf_size
size_of m lo hi w e es h s i eh es' = omega (arith, eh, es', length_boundary lo w e.lo i.footing, length_boundary hi w e.hi i.high)

room_by : (m : Call) (es : List Entry) (n k : ℕ) → n ≡ length (cuts_of m es) → k ≡ counted m.limit es → room_of n k ≡ leaf_room m es
unfolding leaf_room
room_by m es n k e q = rw (e, q) refl

leaf_by : (m : Call) (at : ℕ) (es : List Entry) (x : ℕ) → x ≡ history_end m.limit at (cuts_of m es) (olds es) → x ≡ leaf_at m at es
unfolding leaf_at
leaf_by m at es x e = e

end_by_lem : (m : Call) (b : Borders) (at : ℕ) (es : List Entry) (l x f : ℕ) → l ≡ history_end m.limit at (cuts_of m es) (olds es) → x ≡ frame_len (leaf_size m b es + leaf_room m es) → f ≡ remotes_len m.limit (heads es)
    → l + x + f ≡ leaf_end at m b es
unfolding leaf_end
end_by_lem m b at es l x f el ex ef = rw (el, ex, ef) (sym (length_leaf_image m b at es))

room_by_test : (t : Bool) (p q : ℕ) → p ≤ max_entries → q ≤ max_entries → cond t 0 (8 + 8 * p + 8 * q) ≤ 1048568
room_by_test true p q h k = omega arith
room_by_test false p q h k = omega arith

pub room_most : (p q : ℕ) → p ≤ max_entries → q ≤ max_entries → room_of p q ≤ 1048568
unfolding room_of
room_most p q h k = room_by_test (eqb (p + q) 0) p q h k

module _ (m : Call) (lo hi w : List ℕ) (e : Boundaries) (h : Held lo hi w e) (len next : ℕ) (es : List Entry) where
  abbrev b : Borders
  b = bounds_of lo hi w e

  pub leaf_six : rising es ≡ false → Err OutOfOrder ≡ leaf_verdict len next m b es
  unfolding leaf_verdict
  leaf_six q = at_six true b es (leaf_size m b es + leaf_room m es) (leaf_end next m b es) len Err (Ok (totals_of m b next es)) q

  module _ (h6 : rising es ≡ true) where
    pub leaf_outside : enclosed b.lo b.hi es ≡ false → Err (outside_of (take b.prefix b.lo) es) ≡ leaf_verdict len next m b es
    unfolding leaf_verdict
    leaf_outside q = at-outside true b es (leaf_size m b es + leaf_room m es) (leaf_end next m b es) len Err (Ok (totals_of m b next es)) h6 q

    module _ (h10 : enclosed b.lo b.hi es ≡ true) (n : ℕ) (en : n ≡ length es) where
      h7 : prefixed (take b.prefix b.lo) es ≡ true
      h7 = held-prefixed lo hi w e h es h10

      pub leaf_many : max_entries < n → Err TooBig ≡ leaf_verdict len next m b es
      unfolding leaf_verdict
      leaf_many q = rw (h6, h7, h10, lt-leb (length es) max_entries (rw en at q)) refl

      module _ (h8 : n ≤ max_entries) (tl : Tally) (et : tl ≡ tally_of m.limit e.prefix nothing es) (g : Pages) (eg : g ≡ pages_of m.limit m.budget 0 next (only true es))
          (room : ℕ) (er : room ≡ room_of g.count tl.counted) where
        abbrev size : ℕ
        size = base_len + 4 * tl.heads + e.lo.len + e.hi.len + tl.sums

        heads-is : tl.heads ≡ length (heads es)
        heads-is = ap (λ (t : Tally). t.heads) et ∙ heads_are m.limit e.prefix nothing es ∙ omega arith

        olds-is : tl.olds ≡ length (olds es)
        olds-is = ap (λ (t : Tally). t.olds) et ∙ olds_are m.limit e.prefix nothing es ∙ omega arith

        sums-is : tl.sums ≡ sums m.limit e.prefix false es
        sums-is = ap (λ (t : Tally). t.sums) et ∙ sums_are m.limit e.prefix nothing es ∙ omega arith

        counted_is : tl.counted ≡ counted m.limit es
        counted_is = ap (λ (t : Tally). t.counted) et ∙ counted_are m.limit e.prefix nothing es ∙ omega arith

        remotes-is : tl.remotes ≡ remotes m.limit es
        remotes-is = ap (λ (t : Tally). t.remotes) et ∙ remotes_are m.limit e.prefix nothing es ∙ omega arith

        aged-is : tl.aged ≡ remotes m.limit (olds es)
        aged-is = ap (λ (t : Tally). t.aged) et ∙ aged_are m.limit e.prefix nothing es ∙ omega arith

        remotes_len_is : tl.remote ≡ remotes_len m.limit (heads es)
        remotes_len_is = ap (λ (t : Tally). t.remote) et ∙ remote-is m.limit e.prefix nothing es ∙ omega arith

        pages-is : g.count ≡ length (cuts_of m es)
        pages-is = ap (λ (q : Pages). q.count) eg ∙ count_of m.limit m.budget next (olds es)

        leaf_is : g.end ≡ history_end m.limit next (cuts_of m es) (olds es)
        leaf_is = ap (λ (q : Pages). q.end) eg ∙ end_of_lem m.limit m.budget next (olds es)

        size_is : size ≡ leaf_size m b es
        size_is = size_of m lo hi w e es tl.heads tl.sums h.inside heads-is sums-is

        room-is : room ≡ leaf_room m es
        room-is = er ∙ room_by m es g.count tl.counted pages-is counted_is

        few : leb (length es) max_entries ≡ true
        few = le-leb (length es) max_entries (rw en at h8)

        pay_is : size + room ≡ leaf_size m b es + leaf_room m es
        pay_is = ap₂ (λ (x y : ℕ). x + y) size_is room-is

        leaf_large : max_size < size + room → Err TooBig ≡ leaf_verdict len next m b es
        unfolding leaf_verdict
        leaf_large q = rw (h6, h7, h10, few, lt-leb (leaf_size m b es + leaf_room m es) max_size (rw pay_is at q)) refl

        module _ (hs : size + room ≤ max_size) (x : ℕ) (ex : x ≡ frame_len (size + room)) where
          small : leb (leaf_size m b es + leaf_room m es) max_size ≡ true
          small = le-leb (leaf_size m b es + leaf_room m es) max_size (rw pay_is at hs)

          end_is : g.end + x + tl.remote ≡ leaf_end next m b es
          end_is = end_by_lem m b next es g.end x tl.remote leaf_is (ex ∙ ap frame_len pay_is) remotes_len_is

          leaf_full : len < g.end + x + tl.remote → Err NoRoom ≡ leaf_verdict len next m b es
          unfolding leaf_verdict
          leaf_full q = rw (h6, h7, h10, few, small, lt-leb (leaf_end next m b es) len (rw end_is at q)) refl

          fit_by : g.end + x + tl.remote ≤ len → Ok (totals_of m b next es) ≡ leaf_verdict len next m b es
          unfolding leaf_verdict
          fit_by q = rw (h6, h7, h10, few, small, le-leb (leaf_end next m b es) len (rw end_is at q)) refl

          leaf_fits : g.end + x + tl.remote ≤ len
              → Ok (record { heads = tl.heads; olds = tl.olds; pages = g.count; remotes = tl.remotes; aged = tl.aged; size = size; room = room; leaf = g.end; end = g.end + x + tl.remote }) ≡ leaf_verdict len next m b es
          leaf_fits q =
              ap Ok
              (totals_by m b next es tl.heads tl.olds g.count tl.remotes tl.aged size room g.end (g.end + x + tl.remote) heads-is olds-is pages-is remotes-is aged-is size_is room-is
              (leaf_by m next es g.end leaf_is) end_is)
              ∙ fit_by q

-- ---- 8 and 9, weighed

module _ (len x y : ℕ) (t : Tally) (g : Pages) (room : ℕ) (er : room ≡ room_of g.count t.counted) where
  abbrev all : ℕ
  all = base_len + 4 * t.heads + x + y + t.sums

  pub weigh_large : max_size < all + room → Err TooBig ≡ weighed len x y t g
  unfolding weighed
  weigh_large q = rw (sym er, lt-leb (all + room) max_size q) refl

  module _ (hs : all + room ≤ max_size) (f : ℕ) (ef : f ≡ frame_len (all + room)) where
    pub weigh_full : len < g.end + f + t.remote → Err NoRoom ≡ weighed len x y t g
    unfolding weighed
    weigh_full q = rw (sym er, le-leb (all + room) max_size hs, sym ef, lt-leb (g.end + f + t.remote) len q) refl

    pub weigh_fits : g.end + f + t.remote ≤ len
        → Ok (record { heads = t.heads; olds = t.olds; pages = g.count; remotes = t.remotes; aged = t.aged; size = all; room = room; leaf = g.end; end = g.end + f + t.remote }) ≡ weighed len x y t g
    unfolding weighed
    weigh_fits q = rw (sym er, le-leb (all + room) max_size hs, sym ef, le-leb (g.end + f + t.remote) len q) refl

module _ (m : Call) (lo hi w : List ℕ) (e : Boundaries) (h : Held lo hi w e) (len next : ℕ) (es : List Entry) (h6 : rising es ≡ true)
    (h10 : enclosed (boundary_bytes lo w e.lo) (boundary_bytes hi w e.hi) es ≡ true) (n : ℕ) (en : n ≡ length es) (h8 : n ≤ max_entries)
    (t : Tally) (et : t ≡ tally_of m.limit e.prefix nothing es) (g : Pages) (eg : g ≡ pages_of m.limit m.budget 0 next (only true es)) where
  abbrev sum : ℕ
  sum = base_len + 4 * t.heads + e.lo.len + e.hi.len + t.sums

  abbrev hints : ℕ
  hints = room_of g.count t.counted

  abbrev top : ℕ
  top = g.end + frame_len (sum + hints) + t.remote

  -- it is what the table's rows say
  pub leaf_weighed : weighed len e.lo.len e.hi.len t g ≡ leaf_verdict len next m (bounds_of lo hi w e) es
  leaf_weighed = go (leb (sum + hints) max_size) refl (leb top len) refl
    where
      go : (a : Bool) → leb (sum + hints) max_size ≡ a → (b : Bool) → leb top len ≡ b → weighed len e.lo.len e.hi.len t g ≡ leaf_verdict len next m (bounds_of lo hi w e) es
      go true p true q =
          sym (weigh_fits len e.lo.len e.hi.len t g hints refl (leb-true _ _ p) (frame_len (sum + hints)) refl (leb-true _ _ q))
          ∙ leaf_fits m lo hi w e h len next es h6 h10 n en h8 t et g eg hints refl (leb-true _ _ p) (frame_len (sum + hints)) refl (leb-true _ _ q)
      go true p false q =
          sym (weigh_full len e.lo.len e.hi.len t g hints refl (leb-true _ _ p) (frame_len (sum + hints)) refl (leb-false _ _ q))
          ∙ leaf_full m lo hi w e h len next es h6 h10 n en h8 t et g eg hints refl (leb-true _ _ p) (frame_len (sum + hints)) refl (leb-false _ _ q)
      go false p b q = sym (weigh_large len e.lo.len e.hi.len t g hints refl (leb-false _ _ p)) ∙ leaf_large m lo hi w e h len next es h6 h10 n en h8 t et g eg hints refl (leb-false _ _ p)

-- ---- what is built

apart : (t : Totals) (r : Refusal) → Ok t ≡ Err r → ⊥
apart t r e = absurd (let z : ◌≡◌ {A = ℕ} 0 1 = cc in omega arith)

one_no : (r q : Refusal) → ◌≡◌ {A = Result Totals Refusal} (Err r) (Err q) → r ≡ q
one_no r q e = cc

one_fit : (t u : Totals) → ◌≡◌ {A = Result Totals Refusal} (Ok t) (Ok u) → t ≡ u
one_fit t u e = cc

module _ (a : List ℕ) (next : ℕ) (m : Call) (lo hi : List ℕ) (e : Boundaries) (h : Held lo hi (take next a) e) (es : List Entry) where
  abbrev bs : Borders
  bs = bounds_of lo hi (take next a) e

  abbrev rows : List Row
  rows = leaf_rows (length a) next m bs es

  abbrev tot : Totals
  tot = totals_of m bs next es

  judge_is : leaf_verdict (length a) next m bs es ≡ judged rows Err (Ok tot)
  unfolding leaf_verdict
  judge_is = refl

  module _ (v : Result Totals Refusal) (ev : v ≡ leaf_verdict (length a) next m bs es) where
    pub leaf_refused : (r : Refusal) → v ≡ Err r → (Err r ≡ leaf_answer a next m bs es) × (a ≡ leaf_arena a next m bs es)
    unfolding leaf_answer leaf_arena
    leaf_refused r q =
        let z = sym (ev ∙ judge_is) ∙ q in (
          sym (refuses Err (Ok tot) (apart tot) one_no rows r Err (Ok (addr (leaf_at m next es), leaf_end next m bs es)) z),
          sym (refuses Err (Ok tot) (apart tot) one_no rows r (λ (k : Refusal). a) (put a next (leaf_image m bs next es)) z),
        )

    module _ (t : Totals) (q : v ≡ Ok t) where
      passed : (◌≡◌ {A = Result Totals Refusal} (Ok tot) (Ok t)) × All rows
      passed = passes Err (Ok tot) rows (Ok t) (λ r z. apart t r (sym z)) (sym (ev ∙ judge_is) ∙ q)

      pub leaf_totals : t ≡ totals_of m (bounds_of lo hi (take next a) e) next es
      leaf_totals = sym (one_fit tot t passed.0)

      both : (leb (length es) max_entries ≡ true) × (leb (leaf_size m bs es + leaf_room m es) max_size ≡ true)
      both = and_both _ _ passed.1.1.1.1.0

      pub leaf_few : length es ≤ max_entries
      leaf_few = leb-true (length es) max_entries both.0

      pub leaf_small : Small t e
      leaf_small =
          let k : leaf_size m bs es + leaf_room m es ≤ max_size = leb-true (leaf_size m bs es + leaf_room m es) max_size both.1 in
          record {
            size = omega (arith, ap (λ (x : Totals). x.size) leaf_totals, tot_size m bs next es, ap (λ (x : Totals). x.room) leaf_totals, tot_room m bs next es, k);
            lo = h.footing;
            hi = h.high;
            prefix = omega (arith, held-shared lo hi (take next a) e h, h.footing);
          }

      pub leaf_long : Long e.prefix es
      leaf_long = held-long lo hi (take next a) e h es passed.1.1.0

      end-at : t.end ≡ leaf_end next m bs es
      end-at = ap (λ (x : Totals). x.end) leaf_totals ∙ tot_end m bs next es

      pub leaf_room_lem : t.end ≤ length a
      leaf_room_lem = let k : leaf_end next m bs es ≤ length a = leb-true (leaf_end next m bs es) (length a) passed.1.1.1.1.1.0 in omega (arith, k, end-at)

      pub leaf_built_lem : (a₁ : List ℕ) (x : ℕ) → x ≡ t.leaf → a₁ ≡ put a next (leaf_image m bs next es) → (Ok (addr x, t.end) ≡ leaf_answer a next m bs es) × (a₁ ≡ leaf_arena a next m bs es)
      unfolding leaf_answer leaf_arena
      leaf_built_lem a₁ x ex p = (
        ap₂ (λ (j k : ℕ). Ok (addr j, k)) (ex ∙ ap (λ (y : Totals). y.leaf) leaf_totals ∙ tot_leaf m bs next es) end-at
            ∙ sym (all_go rows Err (Ok (addr (leaf_at m next es), leaf_end next m bs es)) passed.1),
        p ∙ sym (all_go rows (λ (k : Refusal). a) (put a next (leaf_image m bs next es)) passed.1),
      )
