-- The heads of a leaf at the pen, by `Penning`: which stands next, its old versions as a run, and what is left of another leaf.
-- Assumes nothing.
use mathlib.Core.Path.{◌≡◌, refl, sym, ap, ap₂, ◌∙◌, subst}
use mathlib.Core.List.{List, ◌∷◌, ◌++◌, append_assoc}
use mathlib.Core.Bool.{false}
use Prim.Native.Nat.{ℕ, ◌+◌, ◌-◌, ◌≤◌, ◌<◌}
use native.Mathlib.Omega.{arith}
use lib.ListN.{length, take}
use lib.Seq.{length-take-le}
use Rattle.spans.specs.Span.{part, put}
use Rattle.frames.specs.declared.Body.{Body}
use Rattle.frames.specs.Limits.{max_entries}
use Rattle.values.specs.declared.HistRef.{HistRef}
use Rattle.values.specs.Keys.{ver_in}
use Rattle.values.specs.Vals.{hist_of}
use Rattle.records.specs.declared.Rec.{Rec}
use Rattle.pages.specs.Meaning.{prefix_of, key_of}
use Rattle.pages.proofs.Rows.{Good}
use Rattle.build_sources.specs.Source.{Entry}
use Rattle.build_image.specs.declared.Call.{Call}
use Rattle.build_image.specs.Image.{remote_addr, head_rec}
use Rattle.build_history.specs.Runs.{Sane}
use Rattle.law_rows.specs.Rows.{old_entries, head_entry, leaf_entries}
use Rattle.build_rows.specs.declared.Hand.{Hand}
use Rattle.build_rows.specs.declared.Head.{Head}
use Rattle.build_rows.specs.Judged.{Judged, Runs, head_of, HeadAt}
use Rattle.build_rows.specs.Hand.{Known, Opens}
use Rattle.build_rows.proofs.Rows.{Places, judged_good, slots_end, leaf_more, head_runs, head_opens, head_places, key-places, head_rest}
use Rattle.build_pen.specs.declared.Nib.{Nib}
use Rattle.build_pen.specs.declared.Pen.{Pen}
use Rattle.build_pen.specs.Nibs.{Asks, Above, drawn, nib_past, hint_of, hint_for}
use Rattle.build_pen.specs.Pens.{RanPast, all_left, AllLaid}
use Rattle.build_pen.proofs.Drawn.{rising_le}
use Rattle.build_pen.proofs.Penning as penning
use Rattle.build_page_ahead.specs.declared.Rest.{Rest}
use Rattle.build_page_pen.specs.declared.RunPenned.{RunPenned}
use Rattle.build_page_pen.specs.declared.Penned.{Penned}
use Rattle.build_page_pen.specs.Told.{head_told, HeadBelow}
use Rattle.build_page_ahead.specs.Answers.{Follow}
use Rattle.build_page_pen.specs.Runs.{rest_entries, run_entries, Ready, recs_end, left_of, PartPenned}

-- ---- a head, by what is told of it

head_new : (w : List ℕ) (b : Body) (r : Rec) → (head_entry w b r).old ≡ false
unfolding head_entry
head_new w b r = refl

head_val : (w : List ℕ) (b : Body) (r : Rec) → Places w r → length (head_entry w b r).val ≡ r.val_len
unfolding head_entry
head_val w b r p = p.long

head_kept-is : (w : List ℕ) (b : Body) (r : Rec) → (head_entry w b r).kept ≡ r.remote.0
unfolding head_entry
head_kept-is w b r = refl

head_key-is : (w : List ℕ) (b : Body) (r : Rec) → (head_entry w b r).key ≡ key_of w b r
unfolding head_entry
head_key-is w b r = refl

told_head : (w : List ℕ) (b : Body) (r : Rec) → r.ver_at + 12 ≡ r.rest_at → head_told w b (head_of r) r.remote.0 ≡ head_entry w b r
unfolding head_entry
told_head w b r e =
    ap (λ (k : ℕ). record { old = false; key = prefix_of w b ++ part w k r.rest_len; ver = ver_in w r.ver_at; val = part w r.val_at r.val_len; kept = r.remote.0; page = 0 }) e

-- ---- the loop

-- the entries from slot i on, and those of the other leaf
abbrev pub page_left : List ℕ → Body → ℕ → ℕ → Body → ℕ → List Entry
page_left w b end i then count = leaf_entries w b (end - i) i ++ leaf_entries w then count 0

pub record PagePen (a₀ : List ℕ) (next : ℕ) (b : Body) (end : ℕ) (then : Body) (count base : ℕ) (m : Call) (p : ℕ) (whole : List ℕ) (fin : ℕ) (a : List ℕ) (i : ℕ) (q : Pen) (n : Nib) (hint : ℕ) (hand : Hand) : Type 0 where
  pub pens : penning.Penning next a₀ whole m base p (length a₀) fin a (page_left (take next a₀) b end i then count) q n hint
  pub hand_known : Known (take next a₀) hand

module _ (a₀ : List ℕ) (next : ℕ) (b : Body) (end : ℕ) (then : Body) (count base : ℕ) (m : Call) (p : ℕ) (j : Judged (take next a₀) b 0) (j₂ : Judged (take next a₀) then 0) (en : (end ≤ b.elems) × (count ≤ then.elems)) where
  abbrev w : List ℕ
  w = take next a₀

  pub page_begin : (i : ℕ) (q : Pen) (n : Nib) (hint : ℕ) (hand : Hand) → AllLaid next (length a₀) q n hint base m p (page_left (take next a₀) b end i then count) → Known (take next a₀) hand
      → PagePen a₀ next b end then count base m p (left_of m (record { pen = q; nib = n; hint = hint }) base p (page_left (take next a₀) b end i then count) a₀) (recs_end m p (record { pen = q; nib = n; hint = hint }) (page_left (take next a₀) b end i then count)) a₀ i q n hint hand
  page_begin i q n hint hand l k = record { pens = penning.all_begin next a₀ m base p (page_left (take next a₀) b end i then count) q n hint l; hand_known = k }

  module _ (whole : List ℕ) (fin : ℕ) (a : List ℕ) (i : ℕ) (q : Pen) (n : Nib) (hint : ℕ) (hand : Hand) (g : PagePen a₀ next b end then count base m p whole fin a i q n hint hand) where
    abbrev xs : List Entry
    xs = page_left (take next a₀) b end i then count

    pub page-long : length a ≡ length a₀
    page-long = g.pens.drawing.long

    same : take next a ≡ take next a₀
    same = g.pens.drawing.same

    pub page-low : next ≤ length a
    page-low = omega (arith, rising_le next (all_left m q n hint base p (page_left (take next a₀) b end i then count)) (length a₀) g.pens.drawing.order, page-long)

    pub page-end : (x : Penned) (es₀ : List Entry) → whole ≡ left_of m x base p es₀ a₀ → fin ≡ recs_end m p x es₀ → end ≤ i
        → PartPenned next base m p a₀ x es₀ a (record { pen = q; nib = n; hint = hint }) (leaf_entries (take next a₀) then count 0)
    page-end x es₀ ew ef l =
        let cs = leaf_entries (take next a₀) then count 0 in
        let e : page_left (take next a₀) b end i then count ≡ leaf_entries (take next a₀) then count 0 = ap (λ (es : List Entry). es ++ leaf_entries (take next a₀) then count 0) (slots_end _ w b end i l) in
        let h : penning.Penning next a₀ whole m base p (length a₀) fin a (leaf_entries (take next a₀) then count 0) q n hint = subst (λ (es : List Entry). penning.Penning next a₀ whole m base p (length a₀) fin a es q n hint) e g.pens in
        record {
          goes = h.drawing.goes ∙ ew;
          laid =
              record {
                order = rw page-long h.drawing.order;
                steady = h.steady;
                above = h.above;
                small = omega (arith, h.last, h.small);
                keys = h.keys;
                few = h.few;
              };
          last = h.last ∙ ef;
          long = page-long;
          same = same;
        }

    module _ (lt : i < end) where
      pub head_asks : Judged (take next a) b 0 × (i < b.elems)
      head_asks = (subst (λ (x : List ℕ). Judged x b 0) (sym same) j, omega (arith, lt, en.0))

      good : Good (take next a₀) b i
      good = judged_good w b 0 i j (omega (arith, lt, en.0))

      abbrev rc : Rec
      rc = good.rec

      abbrev key : List ℕ
      key = key_of (take next a₀) b rc

      abbrev e : Entry
      e = head_entry (take next a₀) b rc

      abbrev rest : Rest
      rest = record { body = b; i = i + 1; end = end; then = then; n = count }

      module _ (r : Head) (hd : HeadAt (take next a) b i r) where
        r_is : r ≡ head_of rc
        r_is = subst (λ (x : List ℕ). HeadAt x b i r) same hd rc good.read

        f_is : r.hist ≡ rc.hist
        f_is = ap (λ (y : Head). y.hist) r_is

        abbrev f : HistRef
        f = r.hist

        abbrev es : List Entry
        es = run_entries (take next a₀) key f.count f.page f.slot rest

        xs_is : page_left (take next a₀) b end i then count ≡ e ∷ es
        xs_is =
            ap (λ (l : List Entry). l ++ leaf_entries (take next a₀) then count 0) (leaf_more w b end i rc lt good.read)
            ∙ ap (λ (l : List Entry). e ∷ l) (append_assoc (old_entries w key rc.hist.count rc.hist.page rc.hist.slot) (leaf_entries w b (end - (i + 1)) (i + 1)) (leaf_entries w then count 0))
            ∙ ap (λ (k : HistRef). e ∷ run_entries w key k.count k.page k.slot rest) (sym f_is)

        judged : Follow (take next a₀) rest
        judged = record { body = j; then = j₂; end = en.0; n = en.1 }

        ready : Ready next m q es (length a)
        ready =
            record {
              steady = penning.run-steady next a₀ whole m base p (length a₀) fin a xs q n hint g.pens e es xs_is (head_new w b rc);
              order = penning.run-order next a₀ whole m base p (length a₀) fin a xs q n hint g.pens e es xs_is (head_new w b rc);
              few = penning.run-few next a₀ whole m base p (length a₀) fin a xs q n hint g.pens e es xs_is (head_new w b rc);
            }

        ready_now : Ready next m q (run_entries (take next a) key f.count f.page f.slot rest) (length a)
        ready_now = subst (λ (x : List ℕ). Ready next m q (run_entries x key f.count f.page f.slot rest) (length a)) (sym same) ready

        pub run_asks : Sane m
            → Sane m × (Known (take next a) hand × (Runs (take next a) r.hist.count r.hist.page r.hist.slot × ((0 < r.hist.count → Opens (take next a) r.hist.page) × (Follow (take next a) (record { body = b; i = i + 1; end = end; then = then; n = count }) × ((k : List ℕ) × Ready next m q (run_entries (take next a) k r.hist.count r.hist.page r.hist.slot (record { body = b; i = i + 1; end = end; then = then; n = count })) (length a))))))
        run_asks sane = (
          sane,
          (
            subst (λ (x : List ℕ). Known x hand) (sym same) g.hand_known,
            (
              subst (λ (x : List ℕ). Runs x f.count f.page f.slot) (sym same) (subst (λ (k : HistRef). Runs w k.count k.page k.slot) (sym f_is) (head_runs w rc good.ok)),
              (
                subst (λ (x : List ℕ). 0 < f.count → Opens x f.page) (sym same) (subst (λ (k : HistRef). 0 < k.count → Opens w k.page) (sym f_is) (head_opens w rc good.ok)),
                (subst (λ (x : List ℕ). Follow x rest) (sym same) judged, (key, ready_now)),
              ),
            ),
          ),
        )

        module _ (a₁ : List ℕ) (x : RunPenned)
            (ran : (k : List ℕ) → Ready next m q (run_entries (take next a) k r.hist.count r.hist.page r.hist.slot (record { body = b; i = i + 1; end = end; then = then; n = count })) (length a)
            → RanPast next m (run_entries (take next a) k r.hist.count r.hist.page r.hist.slot (record { body = b; i = i + 1; end = end; then = then; n = count })) a q a₁ (rest_entries (take next a) (record { body = b; i = i + 1; end = end; then = then; n = count })) x.pen r.hist.count x.page x.slot)
            (kn : Known (take next a) x.hand) where
          rn : RanPast next m es a q a₁ (rest_entries (take next a₀) rest) x.pen f.count x.page x.slot
          rn = subst (λ (y : List ℕ). RanPast next m (run_entries y key f.count f.page f.slot rest) a q a₁ (rest_entries y rest) x.pen f.count x.page x.slot) same (ran key ready_now)

          pub run-place : x.slot ≤ max_entries
          run-place = (penning.ran-place next a₀ whole m base p (length a₀) fin a xs q n hint g.pens e es xs_is (head_new w b rc) a₁ (rest_entries w rest) x.pen f.count x.page x.slot rn).0

          abbrev rec : Entry → List ℕ
          rec = head_rec m.limit p n.remote (hist_of x.page x.slot f.count)

          pl : Places (take next a₀) rc
          pl = head_places w b i rc j good.read

          module _ (to : ℕ) (et : to ≡ remote_addr n.remote r.bytes.remote.0) where
            abbrev hw : List ℕ
            hw = hint_of m.limit to r.bytes.len

            hint-is : hint_of m.limit to r.bytes.len ≡ hint_for m.limit n.remote e
            hint-is =
                ap₂ (hint_of m.limit) (et ∙ ap (remote_addr n.remote) (ap (λ (y : Head). y.bytes.remote.0) r_is ∙ sym (head_kept-is w b rc)))
                (ap (λ (y : Head). y.bytes.len) r_is ∙ sym (head_val w b rc pl))

            pub hint_asks : hint + length (hint_of m.limit to r.bytes.len) ≤ length a₁
            hint_asks = penning.head_hint next a₀ whole m base p (length a₀) fin a xs q n hint g.pens e es xs_is (head_new w b rc) a₁ (rest_entries w rest) x.pen f.count x.page x.slot rn hw hint-is

            module _ (a₂ : List ℕ) (h₂ : ℕ) (eh : h₂ ≡ hint + length (hint_of m.limit to r.bytes.len)) (e₂ : a₂ ≡ put a₁ hint (hint_of m.limit to r.bytes.len)) where
              same₂ : take next a₂ ≡ take next a₀
              same₂ = penning.head_same next a₀ whole m base p (length a₀) fin a xs q n hint g.pens e es xs_is (head_new w b rc) a₁ (rest_entries w rest) x.pen f.count x.page x.slot rn hw hint-is a₂ h₂ eh e₂

              u_is : head_told (take next a₂) b r r.bytes.remote.0 ≡ e
              u_is = ap₂ (λ (y : List ℕ) (z : Head). head_told y b z z.bytes.remote.0) same₂ r_is ∙ told_head w b rc (head_rest w b i rc j good.read)

              below : HeadBelow next b r
              below =
                  let k = key-places w b i rc j.inside good.read in
                  let c : length (take next a₀) ≤ next = omega (arith, length-take-le next a₀ (omega (arith, page-low, page-long))) in
                  subst (λ (y : Head). HeadBelow next b y) (sym r_is)
                  (record {
                    key = record { prefix = omega (arith, k.prefix, c); all = omega (arith, k.rest, c, head_rest w b i rc j good.read); small = k.whole };
                    value = record { all = omega (arith, pl.val, c); small = pl.small };
                  })

              key-long : p ≤ b.prefix_len + r.rest_len
              key-long =
                  omega (
                    arith,
                    penning.head_key_lem next a₀ whole m base p (length a₀) fin a xs q n hint g.pens e es xs_is (head_new w b rc),
                    ap length (head_key-is w b rc),
                    (key-places w b i rc j.inside good.read).long,
                    ap (λ (y : Head). y.rest_len) r_is,
                  )

              pub pen_asks : HeadBelow next b r × ((p ≤ b.prefix_len + r.rest_len) × (Above next n × Asks (length a₂) n base m (head_rec m.limit p n.remote (hist_of x.page x.slot r.hist.count)) (head_told (take next a₂) b r r.bytes.remote.0)))
              pen_asks = (
                below,
                (
                  key-long,
                  (
                    penning.head_above next a₀ whole m base p (length a₀) fin a xs q n hint g.pens e es xs_is (head_new w b rc) a₁ (rest_entries w rest) x.pen f.count x.page x.slot rn hw hint-is a₂ h₂ eh e₂,
                    subst (λ (y : Entry). Asks (length a₂) n base m rec y) (sym u_is)
                        (penning.head_asks next a₀ whole m base p (length a₀) fin a xs q n hint g.pens e es xs_is (head_new w b rc) a₁ (rest_entries w rest) x.pen f.count x.page x.slot rn hw hint-is a₂ h₂ eh e₂),
                  ),
                ),
              )

              module _ (a₃ : List ℕ) (n' : Nib) (ne : n' ≡ nib_past m n (head_rec m.limit p n.remote (hist_of x.page x.slot r.hist.count)) (head_told (take next a₂) b r r.bytes.remote.0))
                  (ea : a₃ ≡ drawn m n base (head_rec m.limit p n.remote (hist_of x.page x.slot r.hist.count)) (head_told (take next a₂) b r r.bytes.remote.0) a₂) where
                pub page_turn : PagePen a₀ next b end then count base m p whole fin a₃ (i + 1) x.pen n' h₂ x.hand
                page_turn =
                    record {
                      pens =
                          penning.all_turn next a₀ whole m base p (length a₀) fin a xs q n hint g.pens e es xs_is (head_new w b rc) a₁ (rest_entries w rest) x.pen f.count x.page x.slot rn hw hint-is a₂ h₂ eh e₂ a₃
                          n' (ne ∙ ap (nib_past m n rec) u_is) (ea ∙ ap (λ (y : Entry). drawn m n base rec y a₂) u_is);
                      hand_known = subst (λ (y : List ℕ). Known y x.hand) same kn;
                    }
