-- A history page, and all of them, as one store each.
-- Assumes nothing.
use mathlib.Core.Path.{◌≡◌, refl, sym, ap, ◌∙◌}
use mathlib.Core.List.{List, [], ◌∷◌, ◌++◌, append-nil}
use mathlib.Core.Bool.{Bool, true, false, cond}
use Prim.Native.Nat.{ℕ, zero, suc, ◌+◌, ◌-◌, ◌*◌, ◌≤◌, ◌<◌}
use native.Mathlib.Omega.{arith}
use lib.ListN.{length, take, drop, length-append, length-drop, length-take, replicate, length-replicate}
use Rattle.spans.specs.Span.{put}
use Rattle.spans.proofs.Writing.{Writing, begin, wrote, finished, front}
use Rattle.frames.specs.Layout.{box_len, base_len, frame_len, slots_at}
use Rattle.build_paging.specs.Cuts.{cuts_from, cuts, total}
use Rattle.build_sources.specs.declared.Cursor.{Cursor}
use Rattle.build_sources.specs.Source.{Entry, entries, only, Skipped}
use Rattle.build_image.specs.declared.Call.{Call}
use Rattle.build_image.specs.Sizes.{pad, costs_of, remotes_len}
use Rattle.build_image.specs.Image.{link_to, old_slots, old_recs, remote_frames, hist_head, hist_size, hist_page, page_end, history, history_end}
use Rattle.build_image.proofs.Lengths.{frame-least, length_hist_head, length-slots, length-recs, length-pad, length-page}
use Rattle.build_history.specs.declared.PageAhead.{PageAhead}
use Rattle.build_history.specs.Runs.{Sane, these, run_of, run_page, history_at, history_end_at}
use Rattle.build_history.proofs.Ahead.{Tells, tells_of}
use Rattle.build_history.proofs.Writes.{wrote_n, room-n}

size_open : (limit : ℕ) (es : List Entry) (s : ℕ) → s ≡ hist_size limit es → s ≡ base_len + total (costs_of limit es)
unfolding hist_size
size_open limit es s e = e

page_open : (m : Call) (at link : ℕ) (es : List Entry) (n s : ℕ) → n ≡ length es → s ≡ hist_size m.limit es
    → hist_page m at link es ≡ hist_head m link n s ++ (old_slots m.limit (base_len + 4 * n) es ++ (old_recs m.limit (at + frame_len s) es ++ (pad s ++ remote_frames m es)))
unfolding hist_page
page_open m at link es n s e₁ e₂ = rw (e₁, e₂)

end_open : (limit at : ℕ) (es : List Entry) (s f : ℕ) → s ≡ hist_size limit es → f ≡ remotes_len limit es → at + frame_len s + f ≡ page_end limit at es
unfolding page_end
end_open limit at es s f e₁ e₂ = rw (e₁, e₂)

module _ (l a : List ℕ) (footing : ℕ) (c : Cursor) (at : ℕ) (m : Call) (r : PageAhead) (over : footing ≤ at) (sane : Sane m)
    (re : r ≡ run_of m.limit m.budget (only true (entries l (take footing a) c)))
    (room : at + length (run_page m at r (only true (entries l (take footing a) c))) ≤ length a) where
  abbrev es : List Entry
  es = take r.count (only true (entries l (take footing a) c))

  abbrev link : ℕ
  link = cond r.more (page_end m.limit at es) 0

  abbrev whole : List ℕ
  whole = put a at (run_page m at r (only true (entries l (take footing a) c)))

  pub tells : Tells m.limit m.budget (only true (entries l (take footing a) c)) r
  tells = tells_of m.limit m.budget _ r sane.limit sane.budget re

  sized : r.size ≡ base_len + total (costs_of m.limit es)
  sized = size_open m.limit es r.size tells.size

  pub page-fits : at + frame_len r.size + r.remote ≤ length a
  page-fits = omega (arith, end_open m.limit at es r.size r.remote tells.size tells.remote, length-page m at link es, room)

  pub page-end : (x : ℕ) → x ≡ frame_len r.size → at + x + r.remote ≡ page_end m.limit at es
  page-end x e = rw e (end_open m.limit at es r.size r.remote tells.size tells.remote)

  bytes : run_page m at r (only true (entries l (take footing a) c))
      ≡ hist_head m link r.count r.size ++ (old_slots m.limit (base_len + 4 * r.count) es ++ (old_recs m.limit (at + frame_len r.size) es ++ (pad r.size ++ remote_frames m es)))
  bytes = page_open m at link es r.count r.size tells.count tells.size

  p0 : Writing a footing whole a at (run_page m at r (only true (entries l (take footing a) c)))
  p0 = begin a footing at _ over room

  pub head_room : at + slots_at ≤ length a
  head_room = room-n a footing whole a at _ (hist_head m link r.count r.size) _ p0 bytes slots_at (length_hist_head m link r.count r.size)

  module _ (x : ℕ) (ex : x ≡ frame_len r.size) (v : ℕ) (ev : v ≡ cond r.more (at + x + r.remote) 0) (a₁ : List ℕ) (e₁ : a₁ ≡ put a at (hist_head m v r.count r.size)) where
    v_is : v ≡ link
    v_is = ev ∙ ap (λ (y : ℕ). cond r.more y 0) (page-end x ex)

    p1 : Writing a footing whole a₁ (at + slots_at) (old_slots m.limit (base_len + 4 * r.count) es ++ (old_recs m.limit (at + frame_len r.size) es ++ (pad r.size ++ remote_frames m es)))
    p1 = wrote a footing whole a at _ (hist_head m link r.count r.size) _ a₁ (at + slots_at) p0 bytes (e₁ ∙ ap (λ (y : ℕ). put a at (hist_head m y r.count r.size)) v_is) (ap (λ (y : ℕ). at + y) (sym (length_hist_head m link r.count r.size)))

    pub slots_asks : (footing ≤ at + slots_at) × ((at + slots_at + length (old_slots m.limit (base_len + 4 * r.count) (these l a₁ footing true c r.count)) ≤ length a₁) × (base_len + 4 * r.count + total (costs_of m.limit (these l a₁ footing true c r.count)) ≤ 4294967295))
    slots_asks =
        rw p1.same
        (p1.over, (front a footing whole a₁ (at + slots_at) _ (old_slots m.limit (base_len + 4 * r.count) es) _ p1 refl, omega (arith, sized, tells.small, tells.many)))

    module _ (a₂ : List ℕ) (e₂ : a₂ ≡ put a₁ (at + slots_at) (old_slots m.limit (base_len + 4 * r.count) (these l a₁ footing true c r.count))) where
      p2 : Writing a footing whole a₂ (at + slots_at + 4 * r.count) (old_recs m.limit (at + frame_len r.size) es ++ (pad r.size ++ remote_frames m es))
      p2 = wrote a footing whole a₁ (at + slots_at) _ (old_slots m.limit (base_len + 4 * r.count) es) _ a₂ (at + slots_at + 4 * r.count) p1 refl (rw p1.same at e₂) (omega (arith, length-slots m.limit (base_len + 4 * r.count) es, tells.count))

      pub recs_asks : (footing ≤ at + slots_at + 4 * r.count) × ((at + slots_at + 4 * r.count + length (old_recs m.limit (at + x) (these l a₂ footing true c r.count)) ≤ length a₂) × (at + x + remotes_len m.limit (these l a₂ footing true c r.count) ≤ length a₂))
      recs_asks =
          rw (p2.same, ex)
          (p2.over, (front a footing whole a₂ (at + slots_at + 4 * r.count) _ (old_recs m.limit (at + frame_len r.size) es) _ p2 refl, omega (arith, page-fits, tells.remote, p2.long)))

      module _ (a₃ : List ℕ) (e₃ : a₃ ≡ put a₂ (at + slots_at + 4 * r.count) (old_recs m.limit (at + x) (these l a₂ footing true c r.count))) where
        p3 : Writing a footing whole a₃ (at + (box_len + r.size)) (pad r.size ++ remote_frames m es)
        p3 =
            wrote a footing whole a₂ (at + slots_at + 4 * r.count) _ (old_recs m.limit (at + frame_len r.size) es) _ a₃ (at + (box_len + r.size)) p2 refl (rw (p2.same, ex) at e₃)
            (omega (arith, length-recs m.limit (at + frame_len r.size) es, tells.count, sized))

        pub zeros-room : at + (box_len + r.size) + (at + x - (at + (box_len + r.size))) ≤ length a₃
        zeros-room = omega (arith, ex, frame-least r.size, page-fits, p3.long)

        pads : pad r.size ≡ replicate (at + x - (at + (box_len + r.size))) 0
        unfolding pad
        pads =
            let e : frame_len r.size - (box_len + r.size) ≡ at + x - (at + (box_len + r.size)) = omega (arith, ex, frame-least r.size) in
            ap (λ (y : ℕ). replicate y 0) e

        module _ (a₄ : List ℕ) (e₄ : a₄ ≡ put a₃ (at + (box_len + r.size)) (replicate (at + x - (at + (box_len + r.size))) 0)) where
          p4 : Writing a footing whole a₄ (at + x) (remote_frames m es)
          p4 =
              wrote_n a footing whole a₃ (at + (box_len + r.size)) _ (replicate (at + x - (at + (box_len + r.size))) 0) (remote_frames m es) p3 (ap (λ (z : List ℕ). z ++ remote_frames m es) pads)
              (at + x - (at + (box_len + r.size))) a₄ (at + x) (length-replicate _ 0) e₄ (omega (arith, ex, frame-least r.size))

          pub frames_asks : (footing ≤ at + x) × ((at + x + length (remote_frames m (these l a₄ footing true c r.count)) ≤ length a₄) × (r.remote ≡ remotes_len m.limit (these l a₄ footing true c r.count)))
          frames_asks = rw p4.same (p4.over, (p4.room, tells.remote))

          pub page-whole : (a₅ : List ℕ) → a₅ ≡ put a₄ (at + x) (remote_frames m (these l a₄ footing true c r.count)) → a₅ ≡ whole
          page-whole a₅ q = (rw p4.same at q) ∙ p4.goes

-- ---- all of them

module _ (m : Call) (to : ℕ) (os : List Entry) (r : PageAhead) (t : Tells m.limit m.budget os r) where
  hist_open : 0 < r.count → history_at m to os ≡ run_page m to r os ++ history_at m (page_end m.limit to (take r.count os)) (drop r.count os)
  unfolding history
  hist_open p = rw (t.cut p, t.link)

  hist_end_open : 0 < r.count → history_end_at m to os ≡ history_end_at m (page_end m.limit to (take r.count os)) (drop r.count os)
  unfolding history_end
  hist_end_open p = rw (t.cut p)

hist_nil : (m : Call) (to : ℕ) (os : List Entry) → os ≡ [] → (history_at m to os ≡ []) × (history_end_at m to os ≡ to)
unfolding history history_end cuts_from costs_of
hist_nil m to os e = rw e (refl, refl)

pub record Histories (a₀ l : List ℕ) (footing at : ℕ) (m : Call) (c₀ : Cursor) (a : List ℕ) (c : Cursor) (to : ℕ) : Type 0 where
  pub writing : Writing a₀ footing (put a₀ at (history_at m at (only true (entries l (take footing a₀) c₀)))) a to (history_at m to (only true (entries l (take footing a₀) c)))
  pub ends : history_end_at m to (only true (entries l (take footing a₀) c)) ≡ history_end_at m at (only true (entries l (take footing a₀) c₀))

pub hist_begin : (a l : List ℕ) (footing at : ℕ) (m : Call) (c : Cursor) → footing ≤ at → at + length (history_at m at (only true (entries l (take footing a) c))) ≤ length a → Histories a l footing at m c a c at
hist_begin a l footing at m c h k = record { writing = begin a footing at _ h k; ends = refl }

module _ (a₀ l : List ℕ) (footing at : ℕ) (m : Call) (c₀ : Cursor) (a : List ℕ) (c : Cursor) (to : ℕ) (sane : Sane m) (h : Histories a₀ l footing at m c₀ a c to)
    (r : PageAhead) (re : r ≡ run_of m.limit m.budget (only true (entries l (take footing a) c))) where
  r_is : r ≡ run_of m.limit m.budget (only true (entries l (take footing a₀) c))
  r_is = rw h.writing.same at re

  t : Tells m.limit m.budget (only true (entries l (take footing a₀) c)) r
  t = tells_of m.limit m.budget _ r sane.limit sane.budget r_is

  pub hist_done : r.count ≡ 0 → (to ≡ history_end_at m at (only true (entries l (take footing a₀) c₀))) × (a ≡ put a₀ at (history_at m at (only true (entries l (take footing a₀) c₀))))
  hist_done z =
      let n = hist_nil m to (only true (entries l (take footing a₀) c)) (t.none z) in
      (sym n.1 ∙ h.ends, finished _ _ _ _ _ _ h.writing n.0)

  module _ (nz : r.count ≡ 0 → ⊥) where
    p : 0 < r.count
    p = omega (arith, nz)

    pub page_asks : (footing ≤ to) × (Sane m × ((r ≡ run_of m.limit m.budget (only true (entries l (take footing a) c))) × (to + length (run_page m to r (only true (entries l (take footing a) c))) ≤ length a)))
    page_asks =
        rw h.writing.same
        (h.writing.over, (sane, (r_is, front a₀ footing _ a to _ (run_page m to r (only true (entries l (take footing a₀) c))) _ h.writing (hist_open m to (only true (entries l (take footing a₀) c)) r t p))))

    module _ (a₁ : List ℕ) (to₁ : ℕ) (e₁ : to₁ ≡ page_end m.limit to (these l a footing true c r.count)) (q₁ : a₁ ≡ put a to (run_page m to r (only true (entries l (take footing a) c)))) where
      to_is : to₁ ≡ page_end m.limit to (take r.count (only true (entries l (take footing a₀) c)))
      to_is = rw h.writing.same at e₁

      long : to₁ ≡ to + length (run_page m to r (only true (entries l (take footing a₀) c)))
      long = to_is ∙ sym (length-page m to (cond r.more (page_end m.limit to (take r.count (only true (entries l (take footing a₀) c)))) 0) (take r.count (only true (entries l (take footing a₀) c))))

      w1 : Writing a₀ footing (put a₀ at (history_at m at (only true (entries l (take footing a₀) c₀)))) a₁ to₁ (history_at m (page_end m.limit to (take r.count (only true (entries l (take footing a₀) c)))) (drop r.count (only true (entries l (take footing a₀) c))))
      w1 = wrote a₀ footing _ a to _ (run_page m to r (only true (entries l (take footing a₀) c))) _ a₁ to₁ h.writing (hist_open m to (only true (entries l (take footing a₀) c)) r t p) (rw h.writing.same at q₁) long

      module _ (d : Cursor) (s : Skipped l (take footing a) true c r.count d) where
        d_is : only true (entries l (take footing a₀) d) ≡ drop r.count (only true (entries l (take footing a₀) c))
        d_is = rw h.writing.same at s.list

        pub hist_turn : Histories a₀ l footing at m c₀ a₁ d to₁
        hist_turn =
            record {
              writing = rw (d_is, to_is) (rw to_is at w1);
              ends = rw (d_is, to_is) (sym (hist_end_open m to (only true (entries l (take footing a₀) c)) r t p) ∙ h.ends);
            }

        pub hist_less : length (only true (entries l (take footing a₀) d)) < length (only true (entries l (take footing a₀) c))
        hist_less = rw d_is (simp length-drop (omega (arith, t.count, length-take r.count (only true (entries l (take footing a₀) c)), p)))
