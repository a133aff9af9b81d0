-- A run of a page's old versions at the pen, by `Running`: which stands next, and that the page in hand holds it.
-- Assumes nothing.
use mathlib.Core.Path.{◌≡◌, refl, sym, ap, ap₂, ◌∙◌, subst}
use mathlib.Core.List.{List, [], ◌∷◌, ◌++◌, append-nil}
use mathlib.Core.Bool.{Bool, true, false, cond}
use Prim.Native.Nat.{ℕ, zero, suc, ◌+◌, ◌-◌, ◌≤◌, ◌<◌}
use native.Mathlib.Omega.{arith}
use borrow.Author.Tests.{ltb-true, ltb-false}
use lib.Dec.{eqb, ltb}
use lib.ListN.{length, take}
use lib.Seq.{length-take-le}
use Rattle.spans.specs.Span.{put}
use Rattle.order.specs.declared.Ver.{Ver}
use Rattle.frames.specs.declared.Addr.{Addr}
use Rattle.frames.specs.declared.Body.{Body}
use Rattle.frames.specs.Layout.{box_len}
use Rattle.frames.specs.Limits.{max_entries}
use Rattle.values.specs.declared.HistRef.{HistRef}
use Rattle.records.specs.declared.Rec.{Rec}
use Rattle.pages.specs.Sound.{old_at, chain_from, chain_of, old_version}
use Rattle.build_sources.specs.Source.{Entry, olds}
use Rattle.build_image.specs.declared.Call.{Call}
use Rattle.build_image.specs.Sizes.{old_run}
use Rattle.build_image.specs.Image.{remote_addr, val_bytes, remote_frame_of, old_rec}
use Rattle.build_history.specs.Runs.{Sane}
use Rattle.law_rows.specs.Rows.{old_entry, olds_of, old_entries, head_entry, leaf_entries}
use Rattle.build_rows.specs.declared.Hand.{Hand}
use Rattle.build_rows.specs.declared.Old.{Old}
use Rattle.build_rows.specs.declared.Spot.{Spot}
use Rattle.build_rows.specs.Judged.{Judged, Runs, old_of}
use Rattle.build_rows.specs.Hand.{Holds, Answers, SpotAt, OldAt}
use Rattle.build_rows.proofs.Rows.{Turn, At, Places, run_more, run_end, turn_answers, turn_at, old-places, judged_good, slots_end, leaf_more}
use Rattle.build_pen.specs.declared.Nib.{Nib}
use Rattle.build_pen.specs.declared.Pen.{Pen}
use Rattle.build_pen.specs.Nibs.{Asks, Above, drawn, nib_past, hint_of, hint_for}
use Rattle.build_pen.specs.Pens.{pens_left, Turned, RanPast}
use Rattle.build_pen.proofs.Drawn.{rising_le}
use Rattle.build_pen.proofs.Running as running
use Rattle.build_page_ahead.specs.declared.Rest.{Rest}
use Rattle.build_page_pen.specs.Told.{old_told, OldBelow}
use Rattle.build_page_ahead.specs.Answers.{Follow}
use Rattle.build_page_pen.specs.Runs.{rest_entries, run_entries, Ready}
use Rattle.std.proofs.Common.{Some}

pub ready_low : (low : ℕ) (m : Call) (q : Pen) (es : List Entry) (long : ℕ) → Ready low m q es long → low ≤ long
ready_low low m q es long r = rising_le low (pens_left m q (olds es) [] []) long r.order

-- ---- what stands in front

old_true : (w key : List ℕ) (r : Rec) → (old_entry w key r).old ≡ true
unfolding old_entry
old_true w key r = refl

head_run : (w : List ℕ) (b : Body) (r : Rec) (es : List Entry) → old_run (head_entry w b r ∷ es) ≡ 0
unfolding old_run head_entry
head_run w b r es = refl

none_run : (es : List Entry) → es ≡ [] → old_run es ≡ 0
unfolding old_run
none_run es e = rw e refl

-- a leaf's entries begin with a head
leaf_run : (w : List ℕ) (b : Body) (end i : ℕ) (xs : List Entry) → Judged w b 0 → end ≤ b.elems → old_run xs ≡ 0 → old_run (leaf_entries w b (end - i) i ++ xs) ≡ 0
leaf_run w b end i xs j en z = by (ltb i end) refl
  where
    by : (t : Bool) → ltb i end ≡ t → old_run (leaf_entries w b (end - i) i ++ xs) ≡ 0
    by true e =
        let l : i < end = ltb-true i end e in
        let g = judged_good w b 0 i j (omega (arith, en, l)) in
        ap (λ (es : List Entry). old_run (es ++ xs)) (leaf_more w b end i g.rec l g.read) ∙ head_run w b g.rec _
    by false e = ap (λ (es : List Entry). old_run (es ++ xs)) (slots_end _ w b end i (ltb-false i end e)) ∙ z

rest-run : (w : List ℕ) (r : Rest) → Follow w r → old_run (rest_entries w r) ≡ 0
rest-run w r j =
    let n0 : r.n - 0 ≡ r.n = omega arith in
    let z : old_run (leaf_entries w r.then r.n 0) ≡ 0 =
    ap (λ (k : ℕ). old_run (leaf_entries w r.then k 0)) (sym n0) ∙ ap old_run (sym (append-nil (leaf_entries w r.then (r.n - 0) 0))) ∙ leaf_run w r.then r.n 0 [] j.then j.n (none_run [] refl) in
    leaf_run w r.body r.end r.i (leaf_entries w r.then r.n 0) j.body j.end z

-- the run from the spot where its first stands
chain_again : (w : List ℕ) (n : ℕ) (a : Addr) (i : ℕ) (p : Addr) (q : ℕ) (t : Ver) → old_at w a i ≡ old_at w p q → chain_from w n a i t ≡ chain_from w n p q t
unfolding chain_from
chain_again w zero a i p q t e = refl
chain_again w (suc n) a i p q t e = ap (chain_of w (chain_from w n) t) e

entries_again : (w key : List ℕ) (n : ℕ) (a : Addr) (i : ℕ) (p : Addr) (q : ℕ) → old_at w a i ≡ old_at w p q → old_entries w key n a i ≡ old_entries w key n p q
unfolding old_entries
entries_again w key zero a i p q e = refl
entries_again w key (suc n) a i p q e = ap (olds_of w key (old_entries w key n)) e

runs_again : (w : List ℕ) (n : ℕ) (a : Addr) (i : ℕ) (p : Addr) (q : ℕ) → old_at w a i ≡ old_at w p q → Runs w n a i → Runs w n p q
runs_again w n a i p q e (t, c) = (t, sym (chain_again w n a i p q t e) ∙ c)

-- ---- the entry, by what is told of it

old-rec-is : (w key : List ℕ) (r : Rec) (limit f : ℕ) → old_rec limit f (old_told w (old_of r) r.remote.0) ≡ old_rec limit f (old_entry w key r)
unfolding old_rec val_bytes old_entry
old-rec-is w key r limit f = refl

old-frame-is : (w key : List ℕ) (r : Rec) (m : Call) → remote_frame_of m (old_told w (old_of r) r.remote.0) ≡ remote_frame_of m (old_entry w key r)
unfolding remote_frame_of old_entry
old-frame-is w key r m = refl

old-val : (w key : List ℕ) (r : Rec) → Places w r → length (old_entry w key r).val ≡ r.val_len
unfolding old_entry
old-val w key r p = p.long

old-kept-is : (w key : List ℕ) (r : Rec) → (old_entry w key r).kept ≡ r.remote.0
unfolding old_entry
old-kept-is w key r = refl

-- another entry of which the same is stored
module _ (long : ℕ) (q : Nib) (base : ℕ) (m : Call) (rec : Entry → List ℕ) (e u : Entry) (er : rec e ≡ rec u) (ef : remote_frame_of m e ≡ remote_frame_of m u) where
  asks_as : Asks long q base m rec e → Asks long q base m rec u
  asks_as h = record { slot-room = h.slot-room; rec-room = omega (arith, h.rec-room, ap length er); remote-room = omega (arith, h.remote-room, ap length ef); above = h.above; small = h.small }

past_as : (m : Call) (q : Nib) (rec : Entry → List ℕ) (e u : Entry) → rec e ≡ rec u → remote_frame_of m e ≡ remote_frame_of m u → nib_past m q rec e ≡ nib_past m q rec u
past_as m q rec e u er ef = rw (er, ef) refl

drawn_as : (m : Call) (q : Nib) (base : ℕ) (rec : Entry → List ℕ) (e u : Entry) (a : List ℕ) → rec e ≡ rec u → remote_frame_of m e ≡ remote_frame_of m u → drawn m q base rec e a ≡ drawn m q base rec u a
drawn_as m q base rec e u a er ef = rw (er, ef) refl

-- ---- the loop

pub record PageRun (a₀ : List ℕ) (next : ℕ) (m : Call) (h : HistRef) (rest : Rest) (q₀ : Pen) (a : List ℕ) (left : ℕ) (q : Pen) (hand : Hand) (at page slot : ℕ) : Type 0 where
  pub goes : (key : List ℕ) → Ready next m q₀ (run_entries (take next a₀) key h.count h.page h.slot rest) (length a₀)
      → running.Running next m a₀ (run_entries (take next a₀) key h.count h.page h.slot rest) q₀ a (run_entries (take next a₀) key left hand.page at rest) q (h.count - left) page slot
  pub key : List ℕ
  pub ready : Ready next m q₀ (run_entries (take next a₀) key h.count h.page h.slot rest) (length a₀)
  pub runs : Runs (take next a₀) left hand.page at
  pub holds : Holds (take next a₀) hand
  pub judged : Follow (take next a₀) rest
  pub few : left ≤ h.count

-- none is named
pub run_none : (a : List ℕ) (next : ℕ) (m : Call) (h : HistRef) (rest : Rest) (q : Pen) → Follow (take next a) rest → h.count ≡ 0 → (key : List ℕ)
    → Ready next m q (run_entries (take next a) key h.count h.page h.slot rest) (length a)
    → RanPast next m (run_entries (take next a) key h.count h.page h.slot rest) a q a (rest_entries (take next a) rest) q h.count 0 0
run_none a next m h rest q j z key rd =
    let w = take next a in
    let es_is : run_entries (take next a) key h.count h.page h.slot rest ≡ rest_entries (take next a) rest = ap (λ (l : List Entry). l ++ rest_entries (take next a) rest) (run_end w key h.count h.page h.slot (omega (arith, z))) in
    let g = running.run_begin next m a (run_entries w key h.count h.page h.slot rest) q rd.steady rd.order rd.few in
    let g₁ = subst (λ (xs : List Entry). running.Running next m a (run_entries w key h.count h.page h.slot rest) q a xs q 0 0 0) es_is g in
    subst (λ (k : ℕ). RanPast next m (run_entries w key h.count h.page h.slot rest) a q a (rest_entries w rest) q k 0 0) (sym z)
    (running.run_done next m a (run_entries w key h.count h.page h.slot rest) q a (rest_entries w rest) q 0 0 0 g₁ (rest-run w rest j))

pub run_begin : (a : List ℕ) (next : ℕ) (m : Call) (h : HistRef) (rest : Rest) (q : Pen) (hand : Hand) → Follow (take next a) rest → Runs (take next a) h.count h.page h.slot
    → (key : List ℕ) → Ready next m q (run_entries (take next a) key h.count h.page h.slot rest) (length a) → Holds (take next a) hand → hand.page ≡ h.page → PageRun a next m h rest q a h.count q hand h.slot 0 0
run_begin a next m h rest q hand j rn key rd ho ep =
    let w = take next a in
    let z : h.count - h.count ≡ 0 = omega arith in
    record {
      goes =
          λ k r.
          subst (λ (n : ℕ). running.Running next m a (run_entries w k h.count h.page h.slot rest) q a (run_entries w k h.count hand.page h.slot rest) q n 0 0) (sym z)
          (subst (λ (p : Addr). running.Running next m a (run_entries w k h.count h.page h.slot rest) q a (run_entries w k h.count p h.slot rest) q 0 0 0) (sym ep)
          (running.run_begin next m a (run_entries w k h.count h.page h.slot rest) q r.steady r.order r.few));
      key = key;
      ready = rd;
      runs = subst (λ (p : Addr). Runs w h.count p h.slot) (sym ep) rn;
      holds = ho;
      judged = j;
      few = omega arith;
    }

module _ (a₀ : List ℕ) (next : ℕ) (m : Call) (h : HistRef) (rest : Rest) (q₀ : Pen) (a : List ℕ) (left : ℕ) (q : Pen) (hand : Hand) (at page slot : ℕ) (g : PageRun a₀ next m h rest q₀ a left q hand at page slot) where
  abbrev w : List ℕ
  w = take next a₀

  abbrev es₀ : List ℕ → List Entry
  es₀ key = run_entries (take next a₀) key h.count h.page h.slot rest

  abbrev xs : List ℕ → List Entry
  xs key = run_entries (take next a₀) key left hand.page at rest

  abbrev run : ℕ
  run = h.count - left

  abbrev rn : running.Running next m a₀ (es₀ g.key) q₀ a (xs g.key) q run page slot
  rn = g.goes g.key g.ready

  pub run_long : length a ≡ length a₀
  run_long = running.run_long next m a₀ (es₀ g.key) q₀ a (xs g.key) q run page slot rn

  same : take next a ≡ take next a₀
  same = running.run-same next m a₀ (es₀ g.key) q₀ a (xs g.key) q run page slot rn

  pub run-low : next ≤ length a
  run-low = omega (arith, ready_low next m q₀ (es₀ g.key) (length a₀) g.ready, run_long)

  pub run-end-is : left ≤ 0 → (key : List ℕ) → Ready next m q₀ (es₀ key) (length a₀) → RanPast next m (es₀ key) a₀ q₀ a (rest_entries (take next a₀) rest) q h.count page slot
  run-end-is z key rd =
      let e : xs key ≡ rest_entries (take next a₀) rest = ap (λ (l : List Entry). l ++ rest_entries (take next a₀) rest) (run_end w key left hand.page at z) in
      let n : h.count - left ≡ h.count = omega arith in
      subst (λ (k : ℕ). RanPast next m (es₀ key) a₀ q₀ a (rest_entries w rest) q k page slot) n
      (running.run_done next m a₀ (es₀ key) q₀ a (rest_entries w rest) q run page slot (subst (λ (l : List Entry). running.Running next m a₀ (es₀ key) q₀ a l q run page slot) e (g.goes key rd)) (rest-run w rest g.judged))

  module _ (lt : 0 < left) where
    abbrev tn : Turn (take next a₀) left hand.page at
    tn = run_more (take next a₀) left hand.page at g.runs lt

    pub spot_asks : Holds (take next a) hand × Answers (take next a) hand.page at
    spot_asks = subst (λ (x : List ℕ). Holds x hand × Answers x hand.page at) (sym same) (g.holds, turn_answers w left hand.page at tn)

    module _ (s : Spot) (sp' : SpotAt (take next a) hand.page at s) where
      sp : SpotAt (take next a₀) hand.page at s
      sp = subst (λ (x : List ℕ). SpotAt x hand.page at s) same sp'

      ata : At (take next a₀) left hand.page at tn s
      ata = turn_at w left hand.page at tn s sp

      pub old_asks : Holds (take next a) s.hand × ((s.slot < s.hand.elems) × Answers (take next a) s.hand.page s.slot)
      old_asks = subst (λ (x : List ℕ). Holds x s.hand × ((s.slot < s.hand.elems) × Answers x s.hand.page s.slot)) (sym same) (sp.holds, (sp.slot, ata.answers))

      spot_is : old_at (take next a₀) hand.page at ≡ old_at (take next a₀) s.hand.page s.slot
      spot_is =
          let e = sp.same tn.page tn.slot tn.rec tn.read in
          tn.read ∙ ap₂ (λ (p : Addr) (i : ℕ). Some (old_version p i tn.rec)) (sym e.0) (sym e.1) ∙ sym ata.read

      runs_s : Runs (take next a₀) left s.hand.page s.slot
      runs_s = runs_again w left hand.page at s.hand.page s.slot spot_is g.runs

      here-is : (key : List ℕ) → run_entries (take next a₀) key left hand.page at rest ≡ run_entries (take next a₀) key left s.hand.page s.slot rest
      here-is key = ap (λ (l : List Entry). l ++ rest_entries w rest) (entries_again w key left hand.page at s.hand.page s.slot spot_is)

      -- the pen is ready for them, from the spot on and read in the arena of now
      ready_on : (key : List ℕ) → Ready next m q₀ (es₀ key) (length a₀) → Ready next m q (run_entries (take next a) key left s.hand.page s.slot rest) (length a)
      ready_on key rd =
          let rk = g.goes key rd in
          let y : Ready next m q (xs key) (length a) =
          record {
            steady = rk.steady;
            order = running.turn_asks next m a₀ (es₀ key) q₀ a (xs key) q run page slot rk;
            few = omega (arith, rk.passed.few, rk.few);
          } in
          subst (λ (x : List ℕ). Ready next m q (run_entries x key left s.hand.page s.slot rest) (length a)) (sym same) (subst (λ (l : List Entry). Ready next m q l (length a)) (here-is key) y)

      pub turn_asks : Sane m
          → Sane m × (Holds (take next a) s.hand × (Runs (take next a) left s.hand.page s.slot × (Follow (take next a) rest × ((key : List ℕ) × Ready next m q (run_entries (take next a) key left s.hand.page s.slot rest) (length a)))))
      turn_asks sane = (
        sane,
        (
          subst (λ (x : List ℕ). Holds x s.hand) (sym same) sp.holds,
          (subst (λ (x : List ℕ). Runs x left s.hand.page s.slot) (sym same) runs_s, (subst (λ (x : List ℕ). Follow x rest) (sym same) g.judged, (g.key, ready_on g.key g.ready))),
        ),
      )

      module _ (o : Old) (od : OldAt (take next a) s.hand.page s.slot o) (a₁ : List ℕ) (r : Pen)
          (tu : (key : List ℕ) → Ready next m q (run_entries (take next a) key left s.hand.page s.slot rest) (length a) → Turned next m (olds (run_entries (take next a) key left s.hand.page s.slot rest)) a q a₁ r) where
        o_is : o ≡ old_of tn.rec
        o_is = subst (λ (x : List ℕ). OldAt x s.hand.page s.slot o) same od _ _ _ ata.read

        pl : Places (take next a₀) tn.rec
        pl = old-places w s.hand.page s.slot _ _ _ ata.read

        abbrev e : List ℕ → Entry
        e key = old_entry (take next a₀) key tn.rec

        abbrev es : List ℕ → List Entry
        es key = run_entries (take next a₀) key (left - 1) s.hand.page (s.slot + 1) rest

        xs_is : (key : List ℕ) → xs key ≡ e key ∷ es key
        xs_is key = ap (λ (l : List Entry). l ++ rest_entries w rest) (ata.entries key)

        turned : (key : List ℕ) → Ready next m q₀ (es₀ key) (length a₀) → Turned next m (olds (xs key)) a q a₁ r
        turned key rd =
            subst (λ (l : List Entry). Turned next m (olds l) a q a₁ r) (sym (here-is key))
            (subst (λ (x : List ℕ). Turned next m (olds (run_entries x key left s.hand.page s.slot rest)) a q a₁ r) same (tu key (ready_on key rd)))

        abbrev k₀ : List ℕ
        k₀ = g.key

        abbrev tk : Turned next m (olds (xs g.key)) a q a₁ r
        tk = turned g.key g.ready

        old_below : OldBelow next o
        old_below =
            let n : length (take next a₀) ≤ next = omega (arith, length-take-le next a₀ (omega (arith, run-low, run_long))) in
            subst (λ (x : Old). OldBelow next x) (sym o_is) (record { ver = omega (arith, pl.ver, n); value = record { all = omega (arith, pl.val, n); small = pl.small } })

        pub left-some : 0 < r.loc.left
        left-some = running.run-left next m a₀ (es₀ k₀) q₀ a (xs k₀) q run page slot rn (e k₀) (es k₀) (xs_is k₀) (old_true w k₀ tn.rec) a₁ r tk

        pub slot-few : r.loc.slot + r.loc.left ≤ max_entries
        slot-few = running.run-slot next m a₀ (es₀ k₀) q₀ a (xs k₀) q run page slot rn (e k₀) (es k₀) (xs_is k₀) (old_true w k₀ tn.rec) a₁ r tk

        module _ (to : ℕ) (et : to ≡ remote_addr r.nib.remote o.bytes.remote.0) where
          abbrev hint : List ℕ
          hint = hint_of m.limit to o.bytes.len

          hint-is : (key : List ℕ) → hint_of m.limit to o.bytes.len ≡ hint_for m.limit r.nib.remote (e key)
          hint-is key =
              ap₂ (hint_of m.limit) (et ∙ ap (remote_addr r.nib.remote) (ap (λ (y : Old). y.bytes.remote.0) o_is ∙ sym (old-kept-is w key tn.rec)))
              (ap (λ (y : Old). y.bytes.len) o_is ∙ sym (old-val w key tn.rec pl))

          pub hint_asks : r.hint + length (hint_of m.limit to o.bytes.len) ≤ length a₁
          hint_asks = running.run-hint next m a₀ (es₀ k₀) q₀ a (xs k₀) q run page slot rn (e k₀) (es k₀) (xs_is k₀) (old_true w k₀ tn.rec) a₁ r tk hint (hint-is k₀)

          module _ (a₂ : List ℕ) (j : ℕ) (ej : j ≡ r.hint + length (hint_of m.limit to o.bytes.len)) (e₂ : a₂ ≡ put a₁ r.hint (hint_of m.limit to o.bytes.len)) where
            abbrev base : ℕ
            base = r.loc.page + box_len

            abbrev rec : Entry → List ℕ
            rec = old_rec m.limit r.nib.remote

            abbrev u : Entry
            u = old_told (take next a₂) o o.bytes.remote.0

            same₂ : take next a₂ ≡ take next a₀
            same₂ = running.hinted_same next m a₀ (es₀ k₀) q₀ a (xs k₀) q run page slot rn (e k₀) (es k₀) (xs_is k₀) (old_true w k₀ tn.rec) a₁ r tk hint (hint-is k₀) a₂ j ej e₂

            u_is : old_told (take next a₂) o o.bytes.remote.0 ≡ old_told (take next a₀) (old_of tn.rec) tn.rec.remote.0
            u_is = ap₂ (λ (x : List ℕ) (y : Old). old_told x y y.bytes.remote.0) same₂ o_is

            rec-is : (key : List ℕ) → rec (e key) ≡ rec u
            rec-is key = sym (ap rec u_is ∙ old-rec-is w key tn.rec m.limit r.nib.remote)

            frame_is : (key : List ℕ) → remote_frame_of m (e key) ≡ remote_frame_of m u
            frame_is key = sym (ap (remote_frame_of m) u_is ∙ old-frame-is w key tn.rec m)

            pub page-fits : r.loc.page + box_len ≤ length a₀
            page-fits = running.run-page next m a₀ (es₀ k₀) q₀ a (xs k₀) q run page slot rn (e k₀) (es k₀) (xs_is k₀) (old_true w k₀ tn.rec) a₁ r tk hint (hint-is k₀) a₂ j ej e₂

            pub pen_asks : OldBelow next o × (Above next r.nib × Asks (length a₂) r.nib (r.loc.page + box_len) m (old_rec m.limit r.nib.remote) (old_told (take next a₂) o o.bytes.remote.0))
            pen_asks = (
              old_below,
              (
                running.run-above next m a₀ (es₀ k₀) q₀ a (xs k₀) q run page slot rn (e k₀) (es k₀) (xs_is k₀) (old_true w k₀ tn.rec) a₁ r tk hint (hint-is k₀) a₂ j ej e₂,
                asks_as (length a₂) r.nib base m rec (e k₀) u (rec-is k₀) (frame_is k₀)
                    (running.run_asks next m a₀ (es₀ k₀) q₀ a (xs k₀) q run page slot rn (e k₀) (es k₀) (xs_is k₀) (old_true w k₀ tn.rec) a₁ r tk hint (hint-is k₀) a₂ j ej e₂),
              ),
            )

            module _ (a₃ : List ℕ) (n : Nib) (en : n ≡ nib_past m r.nib (old_rec m.limit r.nib.remote) (old_told (take next a₂) o o.bytes.remote.0))
                (ea : a₃ ≡ drawn m r.nib (r.loc.page + box_len) (old_rec m.limit r.nib.remote) (old_told (take next a₂) o o.bytes.remote.0) a₂)
                (x y : ℕ) (ex : x ≡ cond (eqb run 0) r.loc.page page) (ey : y ≡ cond (eqb run 0) r.loc.slot slot) where
              abbrev new : Pen
              new = record { loc = record { page = r.loc.page; slot = r.loc.slot + 1; left = r.loc.left - 1; next = r.loc.next }; nib = n; pages = r.pages; hint = j }

              pub page_turn : PageRun a₀ next m h rest q₀ a₃ (left - 1) new s.hand (s.slot + 1) x y
              page_turn =
                  let up : h.count - left + 1 ≡ h.count - (left - 1) = omega (arith, g.few, lt) in
                  record {
                    goes =
                        λ key rd.
                        subst (λ (c : ℕ). running.Running next m a₀ (es₀ key) q₀ a₃ (es key) new c x y) up
                        (running.run_turn next m a₀ (es₀ key) q₀ a (xs key) q run page slot (g.goes key rd) (e key) (es key) (xs_is key) (old_true w key tn.rec) a₁ r (turned key rd) hint (hint-is key) a₂ j ej e₂ a₃ n
                        (en ∙ sym (past_as m r.nib rec (e key) u (rec-is key) (frame_is key))) (ea ∙ sym (drawn_as m r.nib base rec (e key) u a₂ (rec-is key) (frame_is key))) x y ex ey);
                    key = g.key;
                    ready = g.ready;
                    runs = ata.more;
                    holds = sp.holds;
                    judged = g.judged;
                    few = omega (arith, g.few);
                  }
