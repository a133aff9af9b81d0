-- The loop over a leaf's heads: finishing from here gives the sums behind the last one.
-- Assumes nothing.
use Prim.Native.Nat.{ℕ, ◌+◌, ◌-◌, ◌≤◌, ◌<◌}
use mathlib.Core.Path.{◌≡◌, sym, ap, ◌∙◌}
use mathlib.Core.List.{List, [], ◌∷◌, ◌++◌}
use native.Mathlib.Omega.{arith}
use lib.ListN.{length, length-append}
use Rattle.frames.specs.declared.Body.{Body}
use Rattle.frames.specs.Limits.{max_entries, max_key, max_value}
use Rattle.records.specs.declared.Rec.{Rec}
use Rattle.pages.specs.Meaning.{key_of}
use Rattle.pages.proofs.Rows.{Good}
use Rattle.build_sources.specs.Source.{Entry}
use Rattle.law_rows.specs.Rows.{head_entries, head_entry, old_entries, leaf_entries}
use Rattle.build_sweep.specs.declared.Tally.{Tally}
use Rattle.build_sweep.specs.declared.Cut.{Cut}
use Rattle.build_sweep.specs.Tally.{with_head}
use Rattle.build_sweep.specs.Bounds.{Bounded}
use Rattle.build_rows.specs.declared.Hand.{Hand}
use Rattle.build_rows.specs.declared.Head.{Head}
use Rattle.build_rows.specs.Judged.{Judged, Runs, HeadAt, head_of}
use Rattle.build_rows.specs.Hand.{Known}
use Rattle.build_rows.proofs.Rows.{judged_good, slots_end, leaf_more, head_runs, head_opens, run_length, Places, head_places, KeyPlaces, key-places, head_says}
use Rattle.build_page_sweep.specs.Going.{Due, Goes, Over}
use Rattle.build_page_sweep.specs.Sweeps.{RunDue, Run, RunSweptBy}
use Rattle.build_page_sweep.proofs.Going.{go_same, go_then, go_front, go_head, due-on, due-front, due-few, due-bounded}

-- the heads from slot i on are left
pub record Paging (w : List ℕ) (b : Body) (end p limit budget from : ℕ) (t₀ : Tally) (g₀ : Cut) (i : ℕ) (t : Tally) (g : Cut) (h : Hand) : Type 0 where
  pub goes : Goes p limit budget (leaf_entries w b (end - from) from) t₀ g₀ (leaf_entries w b (end - i) i) t g
  pub due : Due p limit budget (leaf_entries w b (end - i) i) t g
  pub known : Known w h

pub page_begin : (w : List ℕ) (b : Body) (end p limit budget from : ℕ) (t : Tally) (g : Cut) → Due p limit budget (leaf_entries w b (end - from) from) t g → (h : Hand) → Known w h
    → Paging w b end p limit budget from t g from t g h
page_begin w b end p limit budget from t g d h e = record { goes = λ all rest next x. x; due = d; known = e }

module _ (w : List ℕ) (b : Body) (end p limit budget from : ℕ) (t₀ : Tally) (g₀ : Cut) (i : ℕ) (t : Tally) (g : Cut) (h : Hand) (inv : Paging w b end p limit budget from t₀ g₀ i t g h) where
  pub page_done : end ≤ i → Goes p limit budget (leaf_entries w b (end - from) from) t₀ g₀ [] t g
  page_done e =
      go_then p limit budget (leaf_entries w b (end - from) from) (leaf_entries w b (end - i) i) t₀ g₀ t g inv.goes [] t g
      (go_same p limit budget (leaf_entries w b (end - i) i) [] t g (slots_end (head_entries w b) w b end i e))

  pub page-few : t.heads + t.olds ≤ max_entries
  page-few = due-few p limit budget (leaf_entries w b (end - i) i) t g inv.due

  pub page-bounded : Bounded t max_entries
  page-bounded = due-bounded p limit budget (leaf_entries w b (end - i) i) t g inv.due

  -- one head
  module _ (j : Judged w b 0) (eh : end ≤ b.elems) (l : i < end) (x : Head) (ex : HeadAt w b i x) where
    good : Good w b i
    good = judged_good w b 0 i j (omega (arith, eh, l))

    abbrev r : Rec
    r = good.rec

    head_is_lem : x ≡ head_of r
    head_is_lem = ex r good.read

    places : Places w r
    places = head_places w b i r j good.read

    key : KeyPlaces w b r
    key = key-places w b i r j.inside good.read

    pub page-val : x.bytes.len ≤ max_value
    page-val = omega (arith, ap (λ (y : Head). y.bytes.len) head_is_lem, places.small)

    pub page-key : b.prefix_len + x.rest_len ≤ max_key
    page-key = omega (arith, ap (λ (y : Head). y.rest_len) head_is_lem, key.whole)

    -- its old versions, and what is left behind them
    abbrev olds : List Entry
    olds = old_entries w (key_of w b r) x.hist.count x.hist.page x.hist.slot

    abbrev later : List Entry
    later = leaf_entries w b (end - (i + 1)) (i + 1)

    here : leaf_entries w b (end - i) i ≡ head_entry w b r ∷ (olds ++ later)
    here =
        leaf_more w b end i r l good.read
        ∙ ap (λ (y : Head). head_entry w b r ∷ (old_entries w (key_of w b r) y.hist.count y.hist.page y.hist.slot ++ leaf_entries w b (end - (i + 1)) (i + 1))) (sym head_is_lem)

    runs : Runs w x.hist.count x.hist.page x.hist.slot
    runs = rw head_is_lem (head_runs w r good.ok)

    -- more than a page takes
    pub page-many : max_entries < t.heads + t.olds + 1 + x.hist.count → Over p limit budget (leaf_entries w b (end - from) from) t₀ g₀
    page-many m all rest next a =
        let c = (inv.goes all rest next a).count in
        let n = ap length here in
        let k = run_length w (key_of w b r) x.hist.count x.hist.page x.hist.slot runs in
        omega (arith, m, c, length-append (leaf_entries w b (end - i) i) rest, n, length-append olds later, k)

    module _ (f : t.heads + t.olds + 1 + x.hist.count ≤ max_entries) (u : Tally) (eu : u ≡ with_head limit p t (b.prefix_len + x.rest_len) x.bytes.len x.bytes.remote.0) where
      go_one : Goes p limit budget (leaf_entries w b (end - i) i) t g (olds ++ later) u g
      go_one =
          go_then p limit budget (leaf_entries w b (end - i) i) (head_entry w b r ∷ (olds ++ later)) t g t g
          (go_same p limit budget (leaf_entries w b (end - i) i) (head_entry w b r ∷ (olds ++ later)) t g here)
          (olds ++ later) u g
          (go_head p limit budget (head_entry w b r) (olds ++ later) t g (b.prefix_len + x.rest_len) x.bytes.len x.bytes.remote.0
          (ap (λ (y : Entry). length y.key) (head_says w b r) ∙ key.long ∙ ap (λ (y : Head). b.prefix_len + y.rest_len) (sym head_is_lem))
          (ap (λ (y : Entry). length y.val) (head_says w b r) ∙ places.long ∙ sym (ap (λ (y : Head). y.bytes.len) head_is_lem))
          (ap (λ (y : Entry). y.kept) (head_says w b r) ∙ sym (ap (λ (y : Head). y.bytes.remote.0) head_is_lem))
          page-key page-val (omega (arith, f))
          (ap (λ (y : Entry). y.old) (head_says w b r))
          u eu)

      due-one : Due p limit budget (olds ++ later) u g
      due-one = due-on p limit budget (leaf_entries w b (end - i) i) (olds ++ later) t g u g go_one inv.due

      short : length (key_of w b r) ≤ max_key
      short = omega (arith, key.long, key.whole)

      pub page-run : Run w x.hist u
      page-run =
          record {
            runs = runs;
            opens = λ q. rw head_is_lem (head_opens w r good.ok (omega (arith, ap (λ (y : Head). y.hist.count) head_is_lem, q)));
            few = omega (arith, ap (λ (y : Tally). y.heads) eu, ap (λ (y : Tally). y.olds) eu, f);
          }

      pub page-due : RunDue w limit budget x.hist.count x.hist.page x.hist.slot u g
      page-due = record { key = key_of w b r; short = short; p = p; due = due-front p limit budget olds later u g due-one }

      pub page-on : (v : Tally) (k : Cut) → RunSweptBy w limit budget x.hist u g v k → (m : Hand) → Known w m → Paging w b end p limit budget from t₀ g₀ (i + 1) v k m
      page-on v k s m km =
          let q = go_front p limit budget olds later u g v k (s (key_of w b r) p short) in
          record {
            goes =
                go_then p limit budget (leaf_entries w b (end - from) from) (leaf_entries w b (end - i) i) t₀ g₀ t g inv.goes later v k
                (go_then p limit budget (leaf_entries w b (end - i) i) (olds ++ later) t g u g go_one later v k q);
            due = due-on p limit budget (olds ++ later) later u g v k q due-one;
            known = km;
          }
