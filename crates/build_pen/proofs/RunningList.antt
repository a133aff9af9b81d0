-- A run of old versions of a record list: which entry stands next, read from its bytes. What the pen does with it is `Running`.
-- Assumes nothing.
use mathlib.Core.Path.{◌≡◌, refl, sym, ◌∙◌, subst}
use mathlib.Core.List.{List, [], ◌∷◌}
use mathlib.Core.Bool.{true, false, cond}
use Prim.Native.Nat.{ℕ, ◌+◌, ◌-◌, ◌≤◌, ◌<◌}
use native.Mathlib.Omega.{arith}
use lib.Dec.{eqb}
use lib.ListN.{length}
use Rattle.spans.specs.Span.{put}
use Rattle.frames.specs.Layout.{box_len}
use Rattle.frames.specs.Limits.{max_entries}
use Rattle.build_sources.specs.Source.{Entry, olds}
use Rattle.build_image.specs.declared.Call.{Call}
use Rattle.build_image.specs.Image.{old_rec}
use Rattle.build_pen.specs.declared.RecordAt.{RecordAt}
use Rattle.build_pen.specs.declared.Nib.{Nib}
use Rattle.build_pen.specs.declared.Pen.{Pen}
use Rattle.build_pen.specs.Stretches.{Rising}
use Rattle.build_pen.specs.Places.{list_from, list_behind, Well, Reads, past_of, Inside, entry_in, alike}
use Rattle.build_pen.specs.Nibs.{Asks, drawn, nib_past, hint_of, hint_for}
use Rattle.build_pen.specs.Pens.{pens_left, Steady, Turned, RanTo}
use Rattle.build_pen.proofs.Running as running
use Rattle.build_pen.proofs.WritingList.{list-hint}
use Rattle.build_pen.proofs.Places.{end-behind, end-from, inside, onward, step_old, step_new, well_past, fresh}

pub record RunningList (m : Call) (l : List ℕ) (a₀ : List ℕ) (es₀ : List Entry) (from : ℕ) (q₀ : Pen) (a : List ℕ) (at kat klen : ℕ) (q : Pen) (run page slot : ℕ) : Type 0 where
  pub runs : running.Running 0 m a₀ es₀ q₀ a (list_behind l at kat klen) q run page slot
  pub well : Well l at
  pub onward : from ≤ at
  pub before : kat + klen ≤ length l

pub run_begin : (m : Call) (l a : List ℕ) (from bat blen : ℕ) (q : Pen) → Well l from → bat + blen ≤ length l → Steady m q (olds (list_behind l from bat blen)) → Rising 0 (pens_left m q (olds (list_behind l from bat blen)) [] []) (length a)
    → length (list_behind l from bat blen) ≤ max_entries → RunningList m l a (list_behind l from bat blen) from q a from bat blen q 0 0 0
run_begin m l a from bat blen q w b s o f = record { runs = running.run_begin 0 m a (list_behind l from bat blen) q s o f; well = w; onward = omega arith; before = b }

module _ (m : Call) (l a₀ : List ℕ) (es₀ : List Entry) (from : ℕ) (q₀ : Pen) (a : List ℕ) (at kat klen : ℕ) (q : Pen) (run page slot : ℕ) (h : RunningList m l a₀ es₀ from q₀ a at kat klen q run page slot) where
  abbrev xs : List Entry
  xs = list_behind l at kat klen

  pub run_long : length a ≡ length a₀
  run_long = running.run_long 0 m a₀ es₀ q₀ a xs q run page slot h.runs

  pub turn_asks : Rising 0 (pens_left m q (olds (list_behind l at kat klen)) [] []) (length a)
  turn_asks = running.turn_asks 0 m a₀ es₀ q₀ a xs q run page slot h.runs

  -- no more old versions
  done : list_behind l at kat klen ≡ list_from l at → RanTo m l es₀ from a₀ q₀ a (record { pen = q; at = at; run = run; page = page; slot = slot })
  done e =
      record {
        ran =
            running.run_done 0 m a₀ es₀ q₀ a (list_from l at) q run page slot (subst (λ (ys : List Entry). running.Running 0 m a₀ es₀ q₀ a ys q run page slot) e h.runs)
            (fresh l at h.well);
        well = h.well;
        onward = h.onward;
      }

  pub run_end : length l ≤ at → RanTo m l es₀ from a₀ q₀ a (record { pen = q; at = at; run = run; page = page; slot = slot })
  run_end z = done (end-behind l at z kat klen ∙ sym (end-from l at z))

  module _ (lt : at < length l) (i : RecordAt) (rd : Reads l at i) where
    pub run_stop : alike l kat klen i.kat i.klen ≡ false → RanTo m l es₀ from a₀ q₀ a (record { pen = q; at = at; run = run; page = page; slot = slot })
    run_stop z = done (step_new l at lt i rd kat klen z)

    pub run_inside : Inside l i
    run_inside = inside l at lt i rd

    pub run_past : past_of i ≤ length l
    run_past = run_inside.all

    pub run-keys : (kat + klen ≤ length l) × (i.kat + i.klen ≤ length l)
    run-keys = (h.before, omega (arith, run_inside.all))

    pub run-less : length l - past_of i < length l - at
    run-less = omega (arith, rd.kat, lt)

    module _ (old : alike l kat klen i.kat i.klen ≡ true) (a₁ : List ℕ) (r : Pen) (tn : Turned 0 m (olds (list_behind l at kat klen)) a q a₁ r) where
      abbrev e : Entry
      e = entry_in l true i

      abbrev es : List Entry
      es = list_behind l (past_of i) i.kat i.klen

      list-is : list_behind l at kat klen ≡ e ∷ es
      list-is = step_old l at lt i rd kat klen old

      pub run-left : 0 < r.loc.left
      run-left = running.run-left 0 m a₀ es₀ q₀ a xs q run page slot h.runs e es list-is refl a₁ r tn

      pub run-slot : r.loc.slot + r.loc.left ≤ max_entries
      run-slot = running.run-slot 0 m a₀ es₀ q₀ a xs q run page slot h.runs e es list-is refl a₁ r tn

      pub run-count : run < max_entries
      run-count = running.run-count 0 m a₀ es₀ q₀ a xs q run page slot h.runs e es list-is refl a₁ r tn

      abbrev hint : List ℕ
      hint = hint_of m.limit r.nib.remote i.vlen

      hint-is : hint_of m.limit r.nib.remote i.vlen ≡ hint_for m.limit r.nib.remote (entry_in l true i)
      hint-is = sym (list-hint l i run_inside m.limit r.nib.remote true)

      pub run-hint : r.hint + length (hint_of m.limit r.nib.remote i.vlen) ≤ length a₁
      run-hint = running.run-hint 0 m a₀ es₀ q₀ a xs q run page slot h.runs e es list-is refl a₁ r tn hint hint-is

      module _ (a₂ : List ℕ) (g : ℕ) (eg : g ≡ r.hint + length (hint_of m.limit r.nib.remote i.vlen)) (e₂ : a₂ ≡ put a₁ r.hint (hint_of m.limit r.nib.remote i.vlen)) where
        abbrev base : ℕ
        base = r.loc.page + box_len

        pub run_asks : Asks (length a₂) r.nib base m (old_rec m.limit r.nib.remote) e
        run_asks = running.run_asks 0 m a₀ es₀ q₀ a xs q run page slot h.runs e es list-is refl a₁ r tn hint hint-is a₂ g eg e₂

        pub run-page : r.loc.page + box_len ≤ length a₀
        run-page = running.run-page 0 m a₀ es₀ q₀ a xs q run page slot h.runs e es list-is refl a₁ r tn hint hint-is a₂ g eg e₂

        module _ (a₃ : List ℕ) (n : Nib) (en : n ≡ nib_past m r.nib (old_rec m.limit r.nib.remote) e) (ea : a₃ ≡ drawn m r.nib base (old_rec m.limit r.nib.remote) e a₂)
            (x y : ℕ) (ex : x ≡ cond (eqb run 0) r.loc.page page) (ey : y ≡ cond (eqb run 0) r.loc.slot slot) where
          abbrev new : Pen
          new = record { loc = record { page = r.loc.page; slot = r.loc.slot + 1; left = r.loc.left - 1; next = r.loc.next }; nib = n; pages = r.pages; hint = g }

          pub run_turn : RunningList m l a₀ es₀ from q₀ a₃ (past_of i) i.kat i.klen new (run + 1) x y
          run_turn =
              record {
                runs = running.run_turn 0 m a₀ es₀ q₀ a xs q run page slot h.runs e es list-is refl a₁ r tn hint hint-is a₂ g eg e₂ a₃ n en ea x y ex ey;
                well = well_past l at lt i rd h.well;
                onward = omega (arith, h.onward, onward l at lt i rd);
                before = omega (arith, run_inside.all);
              }
